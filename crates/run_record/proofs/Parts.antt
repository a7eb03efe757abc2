-- What of a second's record goes over into that behind it.
use Rattle.std.proofs.Common.{◌≡◌, ◌⊎◌, inl, inr, ⊎_elim, ℕ, suc, ◌+◌, ◌/◌, ◌<◌, ◌≤◌, Bool, true, false, cond, nat_eq, nat_le, ◌&&◌, List, [], ◌∷◌, ◌++◌, All, Contains, length, map, filter, refl, ap, sym, subst, ◌∙◌, arith, length-append}
use Rattle.std.specs.Prelude.{flat_map}
use Rattle.std.specs.List.{AllByRecursion}
use Rattle.std.proofs.lemmas.Bool.Decides.{nat_tests}
use Rattle.std.proofs.lemmas.List.Elements.{All-head, All-tail, Contains-append_left, Contains-append_right, Contains-push}
use Rattle.run_devices.specs.trace_model.declared.Card.{Card}
use Rattle.run_devices.specs.trace_model.Trace.{TraceSecond}
use Rattle.minute_rules.specs.minute_model.declared.Minute.{Minute}
use Rattle.minute_rules.specs.minute_model.Span.{Span, count_from}
use Rattle.run_devices.specs.log_model.declared.lines.Mark.{Mark}
use Rattle.run_devices.specs.log_model.declared.lines.Verdict.{Verdict}
use Rattle.run_devices.specs.log_model.declared.lines.Verdict.TheVariants.{Accepted, NotValid, TimeOverlap}
use Rattle.run_devices.specs.log_model.Log.{RunLog, is_accepting}
use Rattle.run_devices.specs.log_model.Slots.{same_card}
use Rattle.run_devices.specs.log_model.Course.{ToldSecond, Visit, went}
use Rattle.run_devices.specs.history_model.Minutes.{HistoryMinute}
use Rattle.run_devices.specs.history_model.Presence.{Start}
use Rattle.run_devices.specs.history_model.History.{minutes_after}
use Rattle.run_devices.proofs.history_model.Stilled.{minutes-still}
use Rattle.run_devices.specs.safety_model.Cards.{entered, overlaps, is_overlap}
use Rattle.run_devices.specs.safety_model.Safe.{entered_by, IsVerdict}
use Rattle.run_devices.specs.run_promise.Going.{acceptances_in}
use Rattle.run_devices.proofs.run_crew.Sessions.{same_is}
use Rattle.run_devices.specs.run_course.Lines.{times_of}
use Rattle.run_devices.specs.run_promise.Origin.{Origin}
use Rattle.run_devices.specs.run_promise.Ends.{recording_by, BringsAll}
use Rattle.run_record.specs.Within.{Beginning, SeenBy, BringsBy, VerdictBy}

-- EACH MINUTE that was decided is over
pub over-front : (n : ℕ) (xs ys : List Minute) → All (λ (d : Minute). d.minute < n) (xs ++ ys) → AllByRecursion (λ (d : Minute). d.minute < n) xs
over-front n [] ys h = tt
over-front n (x ∷ xs) ys h = (All-head (λ (d : Minute). d.minute < n) x (xs ++ ys) h, over-front n xs ys (All-tail (λ (d : Minute). d.minute < n) x (xs ++ ys) h))

-- so it has the cards of the seconds before
pub still : (start : Start) (told : List ToldSecond) (t : ToldSecond) (past : List HistoryMinute) (n : ℕ) (ds rest : List Minute) → t.second.number ≡ n → All (λ (d : Minute). d.minute < n / 60) (ds ++ rest) →
    minutes_after start (told ++ t ∷ []) past ds ≡ minutes_after start told past ds
still start told t past n ds rest is over =
    minutes-still start told t past ds (subst (λ (k : ℕ). AllByRecursion (λ (d : Minute). d.minute < k / 60) ds) (sym is) (over-front (n / 60) ds rest over))

-- WHAT WAS FOUND in a second, by how often the card has entered
seen-by : (o : Origin) (done : List TraceSecond) (log : RunLog) (n : ℕ) (unit card : List ℕ → Type 0) (c : Card) (u : ℕ) (v : Verdict) → n ≤ entered_by (recording_by o done log) c u → SeenBy o n unit card c u v →
    IsVerdict (recording_by o done log) unit card c u v
seen-by o done log n unit card c u (Accepted replayed) le h = h
seen-by o done log n unit card c u (NotValid fid place) le h = h
seen-by o done log n unit card c u (TimeOverlap stored now) le h =
    (h.0, h.1, (h.2.0, ⊎_elim (λ first. inl first) (λ again. inr (again.0, (let lt = again.1 in omega (arith, lt, le)), again.2, again.3)) h.2.1))

-- and so many were brought
brings-by : (o : Origin) (b : Beginning) (done now : List TraceSecond) (log : RunLog) (n : ℕ) (marks : List Mark) (c : Card) (u : ℕ) (v : Verdict) → n ≤ entered_by (recording_by o now log) c u →
    ((t : ℕ) → entered_by (recording_by o done b.run.log) c t ≤ entered_by (recording_by o now log) c t) → BringsBy o b done n marks c u v → BringsAll (recording_by o now log) marks c u v
brings-by o b done now log n marks c u (Accepted replayed) le grows h = ⊎_elim
    (λ all. inl all)
    (λ before. inr (⊎_elim (λ twice. inl (omega (arith, twice, le))) (λ once. inr (once.0, once.1, (let some = once.2 in let more = grows once.0 in omega (arith, some, more)))) before))
    h
brings-by o b done now log n marks c u (NotValid fid place) le grows h = h
brings-by o b done now log n marks c u (TimeOverlap stored at) le grows h = h

pub verdict-by : (o : Origin) (b : Beginning) (done now : List TraceSecond) (log : RunLog) (n : ℕ) (marks : List Mark) (unit card : List ℕ → Type 0) (c : Card) (u : ℕ) (v : Verdict) → n ≤ entered_by (recording_by o now log) c u →
    ((t : ℕ) → entered_by (recording_by o done b.run.log) c t ≤ entered_by (recording_by o now log) c t) → VerdictBy o b done n marks unit card c u v → IsVerdict (recording_by o now log) unit card c u v × BringsAll (recording_by o now log) marks c u v
verdict-by o b done now log n marks unit card c u v le grows h = (seen-by o now log n unit card c u v le h.0, brings-by o b done now log n marks c u v le grows h.1)

-- how often it entered by the end of the second
visits-as : (c : Card) (vs : List Visit) → times_of c vs ≡ length (filter (λ (e : Visit). same_card c e.card) vs)
visits-as c [] = refl
visits-as c (v ∷ vs) = by (same_card c v.card) (visits-as c vs)
  where
    by : (b : Bool) → times_of c vs ≡ length (filter (λ (e : Visit). same_card c e.card) vs) →
        length (cond b (v.card ∷ filter (same_card c) (map (λ (v : Visit). v.card) vs)) (filter (same_card c) (map (λ (v : Visit). v.card) vs)))
        ≡ length (cond b (v ∷ filter (λ (e : Visit). same_card c e.card) vs) (filter (λ (e : Visit). same_card c e.card) vs))
    by true is = ap suc is
    by false is = is

abbrev entered_up : Card → ℕ → ToldSecond → List Visit
entered_up c u t = cond (nat_le t.second.number u && nat_eq (t.second.number / 60) (u / 60)) (filter (λ (e : Visit). same_card c e.card) t.course.entered) []

flat-more : {Y : Type 0} (g : ToldSecond → List Y) (xs : List ToldSecond) (t : ToldSecond) → length (flat_map g (xs ++ t ∷ [])) ≡ length (flat_map g xs) + length (g t)
flat-more g [] t = let e = length-append (g t) [] in omega (arith, e)
flat-more g (x ∷ xs) t = let e = length-append (g x) (flat_map g (xs ++ t ∷ [])) in let f = length-append (g x) (flat_map g xs) in let rest = flat-more g xs t in omega (arith, e, f, rest)

both-same : (n u : ℕ) → n ≡ u → (nat_le n u && nat_eq (n / 60) (u / 60)) ≡ true
both-same n u is = ap (λ (k : ℕ). nat_le k u && nat_eq (k / 60) (u / 60)) is ∙ ap (λ (b : Bool). b && nat_eq (u / 60) (u / 60)) (self u) ∙ same (u / 60)
  where
    self : (u : ℕ) → nat_le u u ≡ true
    self u = grind (arith, nat_tests)

    same : (u : ℕ) → nat_eq u u ≡ true
    same u = grind (arith, nat_tests)

pub often-by : (o : Origin) (done now : List TraceSecond) (log later : RunLog) (t : ToldSecond) (c : Card) (u : ℕ) → (went later now).told ≡ (went log done).told ++ t ∷ [] → t.second.number ≡ u →
    entered_by (recording_by o now later) c u ≡ entered_by (recording_by o done log) c u + times_of c t.course.entered
often-by o done now log later t c u told is =
    ap (λ (ts : List ToldSecond). length (flat_map (entered_up c u) ts)) told ∙ flat-more (entered_up c u) (went log done).told t
    ∙ ap (λ (b : Bool). entered_by (recording_by o done log) c u + length (cond b (filter (λ (e : Visit). same_card c e.card) t.course.entered) [])) (both-same t.second.number u is)
    ∙ ap (λ (n : ℕ). entered_by (recording_by o done log) c u + n) (sym (visits-as c t.course.entered))

-- by a second more it has entered no less often,
pub entered-grows : (o : Origin) (done now : List TraceSecond) (log later : RunLog) (t : ToldSecond) (c : Card) (u : ℕ) → (went later now).told ≡ (went log done).told ++ t ∷ [] → entered_by (recording_by o done log) c u ≤ entered_by (recording_by o now later) c u
entered-grows o done now log later t c u told =
    let e = ap (λ (ts : List ToldSecond). length (flat_map (entered_up c u) ts)) told ∙ flat-more (entered_up c u) (went log done).told t in
    let more : entered_by (recording_by o now later) c u ≡ entered_by (recording_by o done log) c u + length (entered_up c u t) = e in
    omega (arith, more)

-- and by the same seconds as often
pub entered-told : (o : Origin) (done now : List TraceSecond) (log later : RunLog) (c : Card) (u : ℕ) → (went later now).told ≡ (went log done).told → entered_by (recording_by o now later) c u ≡ entered_by (recording_by o done log) c u
entered-told o done now log later c u told = ap (λ (ts : List ToldSecond). length (flat_map (entered_up c u) ts)) told

-- which cards may be written, by the end of the second
pub entered-by_end : (o : Origin) (done now : List TraceSecond) (log later : RunLog) (t : ToldSecond) (c : Card) → (went later now).told ≡ (went log done).told ++ t ∷ [] →
    entered (recording_by o now later) c ≡ entered (recording_by o done log) c + times_of c t.course.entered
entered-by_end o done now log later t c told =
    ap (λ (ts : List ToldSecond). length (flat_map (λ (x : ToldSecond). filter (λ (e : Visit). same_card c e.card) x.course.entered) ts)) told
    ∙ flat-more (λ (x : ToldSecond). filter (λ (e : Visit). same_card c e.card) x.course.entered) (went log done).told t
    ∙ ap (λ (n : ℕ). entered (recording_by o done log) c + n) (sym (visits-as c t.course.entered))

pub overlaps-by_end : (o : Origin) (done now : List TraceSecond) (log later : RunLog) (t : ToldSecond) (c : Card) → (went later now).told ≡ (went log done).told ++ t ∷ [] →
    overlaps (recording_by o now later) c ≡ overlaps (recording_by o done log) c + length (filter (λ (f : Visit × Verdict). same_card c f.0.card && is_overlap o.recording c f.1) t.course.found)
overlaps-by_end o done now log later t c told =
    ap (λ (ts : List ToldSecond). length (flat_map (λ (x : ToldSecond). filter (λ (f : Visit × Verdict). same_card c f.0.card && is_overlap o.recording c f.1) x.course.found) ts)) told
    ∙ flat-more (λ (x : ToldSecond). filter (λ (f : Visit × Verdict). same_card c f.0.card && is_overlap o.recording c f.1) x.course.found) (went log done).told t

-- ACCEPTANCES of a second: none, or one that is found
pub record HasAccepted (c : Card) (found : List (Visit × Verdict)) : Type 0 where
  pub e : Visit
  pub v : Verdict
  pub at : Contains found (e, v)
  pub card : e.card ≡ c
  pub accepts : is_accepting v ≡ true

and-left : (x y : Bool) → (x && y) ≡ true → x ≡ true
and-left true y h = refl
and-left false y h = absurd (cc)

and-right : (x y : Bool) → (x && y) ≡ true → y ≡ true
and-right true y h = h
and-right false y h = absurd (cc)

accepted-in : (c : Card) (fs : List (Visit × Verdict)) → (filter (λ (f : Visit × Verdict). same_card c f.0.card && is_accepting f.1) fs ≡ []) ⊎ HasAccepted c fs
accepted-in c [] = inl refl
accepted-in c (f ∷ fs) = by (same_card c f.0.card && is_accepting f.1) refl (accepted-in c fs)
  where
    by : (b : Bool) → (same_card c f.0.card && is_accepting f.1) ≡ b → (filter (λ (f : Visit × Verdict). same_card c f.0.card && is_accepting f.1) fs ≡ []) ⊎ HasAccepted c fs →
        (filter (λ (f : Visit × Verdict). same_card c f.0.card && is_accepting f.1) (f ∷ fs) ≡ []) ⊎ HasAccepted c (f ∷ fs)
    by true is rest = inr (record {
      e = f.0;
      v = f.1;
      at = Contains-append_left (f ∷ []) fs (f.0, f.1) (Contains-push [] f);
      card = sym (same_is c f.0.card (and-left (same_card c f.0.card) (is_accepting f.1) is));
      accepts = and-right (same_card c f.0.card) (is_accepting f.1) is;
    })
    by false is (inl none) = inl (ap (λ (b : Bool). cond b (f ∷ filter (λ (f : Visit × Verdict). same_card c f.0.card && is_accepting f.1) fs) (filter (λ (f : Visit × Verdict). same_card c f.0.card && is_accepting f.1) fs)) is ∙ none)
    by false is (inr some) = inr (record { e = some.e; v = some.v; at = Contains-append_right (f ∷ []) fs (some.e, some.v) some.at; card = some.card; accepts = some.accepts })

pub accepted-or : (c : Card) (t : ToldSecond) → (acceptances_in c t ≡ []) ⊎ HasAccepted c t.course.found
accepted-or c t = ⊎_elim (λ none. inl (ap (map (λ (f : Visit × Verdict). t.second.number)) none)) (λ some. inr some) (accepted-in c t.course.found)

-- MINUTES that are decided and not earlier than this one are none
pub none-next : (sp : Span) (rest : List Minute) (from n : ℕ) → map (λ (m : Minute). m.minute) rest ≡ count_from from (length rest) → n ≤ from → AllByRecursion (λ (d : Minute). d.minute < n) rest → rest ≡ []
none-next sp [] from n is low over = refl
none-next sp (x ∷ rest) from n is low over = absurd (let first : x.minute ≡ from = cc in let lt = over.0 in omega (arith, first, lt, low))
