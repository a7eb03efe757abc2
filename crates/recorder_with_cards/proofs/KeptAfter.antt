-- What was found kept after the cut of each span, by what is carried of the breaks and of the spans.
use Rattle.std.proofs.Common.{◌≡◌, ◌∙◌, inl, inr, ⊎_elim, ℕ, zero, suc, ◌<◌, Bool, true, false, cond, not, ◌&&◌, nat_eq, Option, Some, None, List, [], ◌∷◌, ◌++◌, take, length, map, refl, ap, sym, subst, arith, length-append}
use Rattle.std.specs.Prelude.{IfSome, is_some, unwrap_or}
use Rattle.std.specs.List.{AllByRecursion}
use Rattle.std.proofs.lemmas.List.{same_from_push, map-append}
use Rattle.trace_model.specs.Trace.{TraceSecond}
use Rattle.minute_rules.specs.minute_model.Activity.{last}
use Rattle.minute_rules.proofs.minute_model.Ranges.{last-push}
use Rattle.log_model.specs.declared.lines.Break.{Break}
use Rattle.log_model.specs.declared.lines.Break.TheVariants.{Cut, Tear}
use Rattle.log_model.specs.Log.{RunLog, kept_by, kept_after}
use Rattle.log_model.specs.Course.{ToldSecond, Went, second_told, went}
use Rattle.log_model.specs.Spans.{go_on, spans_with, spans_of, first_in}
use Rattle.log_model.proofs.Growth.{went-more}
use Rattle.log_model.proofs.Spanning.{spans-more, spans-new, spans-on}
use Rattle.device_calls.specs.history_model.History.{cut_second}
use Rattle.device_calls.specs.note_model.Done.{has_failed_in}
use Rattle.device_calls.specs.note_model.Odometer.{SpanFrom}
use Rattle.device_calls.specs.safety_model.Safe.{Devices}
use Rattle.device_calls.specs.run_unit_course.Lines.{log_of, tells_cut}
use Rattle.device_calls.specs.run_unit_course.Followed.{UnitPower, Lit as IsLit, Due as IsDue, Lost as IsLost}
use Rattle.run_minutes.specs.run_promise.Origin.{Origin}
use Rattle.run_minutes.specs.run_promise.Ends.{AreFound}
use Rattle.run_acts.specs.run_note_record.Stored.{IsFoundEnd, IsOpenEnd, StoresOn, StoresOff, Stores}
use Rattle.run_outcome.specs.declared.outcome.Outcome.{Outcome}
use Rattle.run_acts.specs.declared.run.Run.{Run}
use Rattle.run_acts.specs.declared.run.Power.{Power}
use Rattle.run_acts.specs.declared.run.Power.TheVariants.{Lit, Due, Lost}
use Rattle.run_acts.specs.Power.{is_lit}
use Rattle.run_acts.specs.run_record.Recorded.{RecordBetweenSeconds}
use Rattle.run_acts.specs.Recording.{log_of as log_in, values_of, Supplies, RunRecorded}
use Rattle.recorder_with_cards.specs.KeptAfter.{WasKept, IsFoundAfter, AreFoundAfter}

-- ---- what a log tells of a cut

kept-logged : (log : RunLog) (u : ℕ) → kept_after log u ≡ kept_after (log_of log.breaks) u
unfolding kept_after
kept-logged log u = refl

pick : (o rest : Option ℕ) → unwrap_or (cond (is_some o) o rest) 0 ≡ cond (is_some o) (unwrap_or o 0) (unwrap_or rest 0)
pick None rest = refl
pick (Some k) rest = refl

kept-first : (b : Break) (bs : List Break) (u : ℕ) → kept_after (log_of (b ∷ bs)) u ≡ cond (is_some (kept_by u b)) (unwrap_or (kept_by u b) 0) (kept_after (log_of bs) u)
unfolding kept_after
kept-first b bs u = pick (kept_by u b) _

kept-nothing : (u : ℕ) → kept_after (log_of []) u ≡ 0
unfolding kept_after
kept-nothing u = refl

-- a cut of this second, and of another
kept-here : (second kept : ℕ) (failed : Bool) (begun : ℕ) (bs : List Break) (u : ℕ) → nat_eq second u ≡ true → kept_after (log_of (Cut second kept failed begun ∷ bs)) u ≡ kept
kept-here second kept failed begun bs u is = kept-first (Cut second kept failed begun) bs u ∙ rw is refl

kept-there : (second kept : ℕ) (failed : Bool) (begun : ℕ) (bs : List Break) (u : ℕ) → nat_eq second u ≡ false → kept_after (log_of (Cut second kept failed begun ∷ bs)) u ≡ kept_after (log_of bs) u
kept-there second kept failed begun bs u is = kept-first (Cut second kept failed begun) bs u ∙ rw is refl

tells-here : (second kept : ℕ) (failed : Bool) (begun : ℕ) (bs : List Break) (u : ℕ) → nat_eq second u ≡ true → tells_cut u (Cut second kept failed begun ∷ bs) ≡ true
tells-here second kept failed begun bs u is = rw is refl

tells-there : (second kept : ℕ) (failed : Bool) (begun : ℕ) (bs : List Break) (u : ℕ) → nat_eq second u ≡ false → tells_cut u (Cut second kept failed begun ∷ bs) ≡ tells_cut u bs
tells-there second kept failed begun bs u is = rw is refl

-- it was found what was kept,
found-kept : (unit : List ℕ → Type 0) (n : ℕ) (bs : List Break) (u : ℕ) → AreFound unit n bs → tells_cut u (take n bs) ≡ true → WasKept unit (kept_after (log_of bs) u)
found-kept unit zero bs u h tells = absurd (let bad : false ≡ true = tells in cc)
found-kept unit (suc n) [] u h tells = absurd (let bad : false ≡ true = tells in cc)
found-kept unit (suc n) (Cut second kept failed begun ∷ bs) u h tells = by (nat_eq second u) refl (λ rest. found-kept unit n bs u h.1 rest)
  where
    by : (b : Bool) → nat_eq second u ≡ b → (tells_cut u (take n bs) ≡ true → WasKept unit (kept_after (log_of bs) u)) → WasKept unit (kept_after (log_of (Cut second kept failed begun ∷ bs)) u)
    by true is later = (h.0.0, h.0.1, h.0.2 ∙ sym (kept-here second kept failed begun bs u is))
    by false is later = subst (WasKept unit) (sym (kept-there second kept failed begun bs u is)) (later (sym (tells-there second kept failed begun (take n bs) u is) ∙ tells))
found-kept unit (suc n) (Tear second slot failed begun late ∷ bs) u h tells = subst (WasKept unit) (sym (kept-first (Tear second slot failed begun late) bs u)) (found-kept unit n bs u h.1 tells)

-- or not
unfound-kept : (unit : List ℕ → Type 0) (n : ℕ) (bs : List Break) (u : ℕ) → AreFound unit n bs → tells_cut u (take n bs) ≡ false → kept_after (log_of bs) u ≡ 0
unfound-kept unit zero [] u h none = kept-nothing u
unfound-kept unit zero (Cut second kept failed begun ∷ bs) u h none = by (nat_eq second u) refl (unfound-kept unit zero bs u h.1 none)
  where
    by : (b : Bool) → nat_eq second u ≡ b → kept_after (log_of bs) u ≡ 0 → kept_after (log_of (Cut second kept failed begun ∷ bs)) u ≡ 0
    by true is later = kept-here second kept failed begun bs u is ∙ h.0
    by false is later = kept-there second kept failed begun bs u is ∙ later
unfound-kept unit zero (Tear second slot failed begun late ∷ bs) u h none = kept-first (Tear second slot failed begun late) bs u ∙ unfound-kept unit zero bs u h.1 none
unfound-kept unit (suc n) [] u h none = kept-nothing u
unfound-kept unit (suc n) (Cut second kept failed begun ∷ bs) u h none = by (nat_eq second u) refl (λ rest. unfound-kept unit n bs u h.1 rest)
  where
    by : (b : Bool) → nat_eq second u ≡ b → (tells_cut u (take n bs) ≡ false → kept_after (log_of bs) u ≡ 0) → kept_after (log_of (Cut second kept failed begun ∷ bs)) u ≡ 0
    by true is later = absurd (let bad : true ≡ false = sym (tells-here second kept failed begun (take n bs) u is) ∙ none in cc)
    by false is later = kept-there second kept failed begun bs u is ∙ later (sym (tells-there second kept failed begun (take n bs) u is) ∙ none)
unfound-kept unit (suc n) (Tear second slot failed begun late ∷ bs) u h none = kept-first (Tear second slot failed begun late) bs u ∙ unfound-kept unit n bs u h.1 none

-- ---- span by span

abbrev spans-in : List SpanFrom → List (List ToldSecond)
spans-in xs = map (λ (s : SpanFrom). s.span) xs

module _ (unit : List ℕ → Type 0) (log : RunLog) (n : ℕ) (h : AreFound unit n log.breaks) where
  abbrev AreFailed : List (List ToldSecond) → Type 0
  AreFailed spans = AllByRecursion (λ (span : List ToldSecond). has_failed_in log (first_in span) ≡ true) spans

  was-kept : (u : ℕ) → tells_cut u (take n log.breaks) ≡ true → WasKept unit (kept_after log u)
  was-kept u tells = subst (WasKept unit) (sym (kept-logged log u)) (found-kept unit n log.breaks u h tells)

  not-kept : (u : ℕ) → tells_cut u (take n log.breaks) ≡ false → kept_after log u ≡ 0
  not-kept u none = kept-logged log u ∙ unfound-kept unit n log.breaks u h none

  -- a span behind which the unit was read, and a span that it was not read behind
  after-found : (s : SpanFrom) (later : List (List ToldSecond)) → 0 < length later → IsFoundEnd log n s → IfSome (cut_second (last s.span)) (IsFoundAfter unit log later)
  after-found s later some end = subst (λ (o : Option ℕ). IfSome o (IsFoundAfter unit log later)) (sym end.cut) (inl (was-kept end.second end.known, some))

  after-open : (s : SpanFrom) (later : List (List ToldSecond)) → AreFailed later → IsOpenEnd log n s → IfSome (cut_second (last s.span)) (IsFoundAfter unit log later)
  after-open s later failed end = subst (λ (o : Option ℕ). IfSome o (IsFoundAfter unit log later)) (sym end.cut) (inr (not-kept end.second end.unknown, failed))

  all-found : (xs : List SpanFrom) (later : List (List ToldSecond)) → 0 < length later → AllByRecursion (IsFoundEnd log n) xs → AreFoundAfter unit log later → AreFoundAfter unit log (spans-in xs ++ later)
  all-found [] later some ends rest = rest
  all-found (s ∷ xs) later some ends rest =
      (after-found s (spans-in xs ++ later) (let total = length-append (spans-in xs) later in omega (arith, some, total)) ends.0, all-found xs later some ends.1 rest)

  all-failed : (xs : List SpanFrom) → AllByRecursion (λ (s : SpanFrom). has_failed_in log (first_in s.span) ≡ true) xs → AreFailed (spans-in xs)
  all-failed [] failed = tt
  all-failed (s ∷ xs) failed = (failed.0, all-failed xs failed.1)

  all-open : (s : SpanFrom) (xs : List SpanFrom) → IsOpenEnd log n s → AllByRecursion (IsOpenEnd log n) xs → AllByRecursion (λ (s : SpanFrom). has_failed_in log (first_in s.span) ≡ true) xs → AreFoundAfter unit log (spans-in (s ∷ xs))
  all-open s [] end ends failed = (after-open s [] tt end, tt)
  all-open s (x ∷ xs) end ends failed = (after-open s (spans-in (x ∷ xs)) (all-failed (x ∷ xs) failed) end, all-open x xs ends.0 ends.1 failed.1)

  -- without power,
  off-kept : (o : Origin) (spans : List SpanFrom) (d : Devices) → StoresOff o log n spans d → AreFoundAfter unit log (spans-in spans)
  off-kept o spans d off = ⊎_elim (λ none. subst (λ (l : List SpanFrom). AreFoundAfter unit log (spans-in l)) (sym none) tt)
      (λ since.
      subst (λ (l : List SpanFrom). AreFoundAfter unit log (spans-in l)) (sym since.are)
      (subst (AreFoundAfter unit log) (sym (map-append (λ (s : SpanFrom). s.span) since.earlier (since.span ∷ since.unread)))
      (all-found since.earlier (spans-in (since.span ∷ since.unread)) (omega arith) since.ends (all-open since.span since.unread since.unknown.0 since.unknown.1 since.failed)))) off.since

  -- and while there is power
  on-kept : (o : Origin) (base : ℕ) (spans : List SpanFrom) (on : StoresOn o log n base spans) → cut_second (last on.span) ≡ None → AreFoundAfter unit log (spans-in spans)
  on-kept o base spans on uncut =
      subst (λ (l : List SpanFrom). AreFoundAfter unit log (spans-in l)) (sym on.are)
      (subst (AreFoundAfter unit log) (sym (map-append (λ (s : SpanFrom). s.span) on.earlier (record { base = base; span = on.span } ∷ [])))
      (all-found on.earlier (on.span ∷ []) (omega arith) on.stands.ends (subst (λ (o : Option ℕ). IfSome o (IsFoundAfter unit log [])) (sym uncut) tt, tt)))

-- ---- while there is power no cut has ended the last span

go-last : (spans : List (List ToldSecond)) (t : ToldSecond) → (front : List (List ToldSecond)) × (span : List ToldSecond) × (go_on spans t ≡ front ++ span ∷ []) × (last span ≡ Some t)
go-last [] t = ([], t ∷ [], refl, refl)
go-last (span ∷ []) t = ([], span ++ t ∷ [], refl, last-push span t)
go-last (span ∷ next ∷ spans) t = let r = go-last (next ∷ spans) t in (span ∷ r.0, r.1, ap (λ (l : List (List ToldSecond)). span ∷ l) r.2, r.3)

last-lit : (spans : List (List ToldSecond)) (t : ToldSecond) → t.lit ≡ true → (front : List (List ToldSecond)) (span : List ToldSecond) → spans_with spans t ≡ front ++ span ∷ [] → last span ≡ Some t
last-lit spans t lit front span are = by t.starts refl
  where
    by : (b : Bool) → t.starts ≡ b → last span ≡ Some t
    by true starts =
        let same = same_from_push front spans span (t ∷ []) (sym are ∙ spans-new spans t lit starts) in
        ap (λ (l : List ToldSecond). last l) same.1
    by false goes =
        let r = go-last spans t in
        let same = same_from_push front r.0 span r.1 (sym are ∙ spans-on spans t lit goes ∙ r.2) in
        ap (λ (l : List ToldSecond). last l) same.1 ∙ r.3

both-true : (a b : Bool) → (a && b) ≡ true → (a ≡ true) × (b ≡ true)
both-true true b is = (refl, is)
both-true false b is = absurd (let bad : false ≡ true = is in cc)

not-true : (b : Bool) → not b ≡ true → b ≡ false
not-true true is = absurd (let bad : false ≡ true = is in cc)
not-true false is = refl

running-uncut : (log : RunLog) (done front : List TraceSecond) (s : TraceSecond) → done ≡ front ++ s ∷ [] → (went log done).before.running ≡ true → (earlier : List (List ToldSecond)) (span : List ToldSecond) → spans_of (went log done).told ≡ earlier ++ span ∷ [] →
    cut_second (last span) ≡ None
running-uncut log done front s are running earlier span spans =
    let t : ToldSecond = second_told log (went log front).before s in
    let now = ap (went log) are ∙ went-more log front s in
    let kept = both-true t.lit (not t.cut) (sym (ap (λ (w : Went). w.before.running) now) ∙ running) in
    let uncut = not-true t.cut kept.1 in
    let is = last-lit (spans_of (went log front).told) t kept.0 earlier span (sym (spans-more (went log front).told t) ∙ sym (ap (λ (w : Went). spans_of w.told) now) ∙ spans) in
    ap cut_second is ∙ ap (λ (b : Bool). cond {A = Option ℕ} b (Some t.second.number) None) uncut

-- ---- AT THE END, by the power

lit-supply : (power : Power) (supply : UnitPower) → Supplies power supply → power ≡ Lit → (t : ToldSecond) × (span : List ToldSecond) × (supply ≡ IsLit (t ∷ span))
lit-supply Lit (IsLit []) h is = absurd h
lit-supply Lit (IsLit (t ∷ span)) h is = (t, span, refl)
lit-supply Lit IsDue h is = absurd h
lit-supply Lit IsLost h is = absurd h
lit-supply Due supply h is = absurd (cc)
lit-supply Lost supply h is = absurd (cc)

module _ (o : Origin) (done : List TraceSecond) (run : Run) (out : Outcome) (d : Devices) (r : RunRecorded o done run out d) (spans : List SpanFrom) (are : map (λ (s : SpanFrom). s.span) spans ≡ spans_of (went (log_in out) done).told)
    (h : Stores (is_lit run.power) o (log_in out) run.unfound run.keeper.odometer spans d) where
  abbrev unit : List ℕ → Type 0
  unit = d.unit.left_since o.found.unit.began

  found : AreFound unit run.unfound (log_in out).breaks
  found = r.recorded.beside.verdicts.kept

  by-lit : run.power ≡ Lit → AreFoundAfter unit (log_in out) (spans-in spans)
  by-lit is =
      let on : StoresOn o (log_in out) run.unfound run.keeper.odometer spans = subst (λ (p : Power). Stores (is_lit p) o (log_in out) run.unfound run.keeper.odometer spans d) is h in
      let lit = lit-supply run.power r.supply r.powers is in
      let rec : RecordBetweenSeconds o done (IsLit (lit.0 ∷ lit.1)) (values_of run out) d = subst (λ (supply : UnitPower). RecordBetweenSeconds o done supply (values_of run out) d) lit.2 r.recorded in
      let had = rec.recorded.followed.last in
      on-kept unit (log_in out) run.unfound found o run.keeper.odometer spans on
      (running-uncut (log_in out) done had.before (record { number = had.number; has_power = true; speed = had.speed; actions = had.actions }) had.are rec.recorded.followed.power.running (spans-in on.earlier) on.span
      (sym are ∙ ap spans-in on.are ∙ map-append (λ (s : SpanFrom). s.span) on.earlier (record { base = run.keeper.odometer; span = on.span } ∷ [])))

  by-dark : (p : Power) → run.power ≡ p → is_lit p ≡ false → AreFoundAfter unit (log_in out) (spans-in spans)
  by-dark p is dark =
      off-kept unit (log_in out) run.unfound found o spans d
      (subst (λ (lit : Bool). Stores lit o (log_in out) run.unfound run.keeper.odometer spans d) (ap is_lit is ∙ dark) h)

  pub end-kept : AreFoundAfter unit (log_in out) (spans_of (went (log_in out) done).told)
  end-kept = subst (AreFoundAfter unit (log_in out)) are (by run.power refl)
    where
      by : (p : Power) → run.power ≡ p → AreFoundAfter unit (log_in out) (spans-in spans)
      by Lit is = by-lit is
      by Due is = by-dark Due is refl
      by Lost is = by-dark Lost is refl

-- ---- more images

more-some : (unit now : List ℕ → Type 0) → ((x : List ℕ) → unit x → now x) → (log : RunLog) (later : List (List ToldSecond)) (o : Option ℕ) → IfSome o (IsFoundAfter unit log later) → IfSome o (IsFoundAfter now log later)
more-some unit now more log later None h = tt
more-some unit now more log later (Some u) h = ⊎_elim (λ found. inl ((found.0.0, more found.0.0 found.0.1, found.0.2), found.1)) (λ none. inr none) h

pub more-found : (unit now : List ℕ → Type 0) → ((x : List ℕ) → unit x → now x) → (log : RunLog) (spans : List (List ToldSecond)) → AreFoundAfter unit log spans → AreFoundAfter now log spans
more-found unit now more log [] h = tt
more-found unit now more log (span ∷ later) h = (more-some unit now more log later (cut_second (last span)) h.0, more-found unit now more log later h.1)
