-- What seconds of a run leave of its rings: without power, and of an `off` line.
use Rattle.std.proofs.Common.{◌≡◌, ◌∙◌, inl, inr, ℕ, zero, suc, ◌+◌, ◌-◌, ◌%◌, ◌<◌, ◌≤◌, Bool, true, false, Option, None, List, [], ◌∷◌, ◌++◌, All, length, refl, ap, sym, subst, arith, append-nil}
use Rattle.std.proofs.lemmas.List.Elements.{All-nil, All-cons}
use Rattle.trace_model.specs.declared.Action.{Action}
use Rattle.trace_model.specs.declared.Card.{Card}
use Rattle.trace_model.specs.declared.Card.TheVariants.{A, B}
use Rattle.trace_model.specs.Trace.{TraceSecond, driven, dark}
use Rattle.log_model.specs.declared.lines.Break.{Break}
use Rattle.log_model.specs.declared.lines.Refused.{Refused}
use Rattle.log_model.specs.Log.{RunLog}
use Rattle.log_model.specs.Same.{SameAt}
use Rattle.log_model.specs.Course.{ToldSecond, Went, has_power, went}
use Rattle.log_model.specs.ByHand.{by_slots}
use Rattle.device_calls.specs.note_model.Odometer.{SpanFrom}
use Rattle.device_calls.specs.run_unit_course.Followed.{UnitPower, Lit as IsLit, Due as IsDue, Lost as IsLost}
use Rattle.device_calls.specs.run_unit_course.Lines.{cut_at}
use Rattle.device_calls.specs.run_unit_course.Turn.{cut_last}
use Rattle.device_calls.specs.safety_model.Safe.{Devices}
use Rattle.run_acts.specs.run_course.Moments.{and_break}
use Rattle.run_acts.specs.run_course.Followed.{Progress, BookFollowsRun, IsLost as HasLost}
use Rattle.run_acts.proofs.run_course.Dark.{lost-are-told}
use Rattle.run_acts.proofs.run_course.Logs.{refused-at, went-refused}
use Rattle.run_acts.proofs.run_course.Steps.{with-supply}
use Rattle.run_acts.proofs.run_course.Told.{lost-dark}
use Rattle.run_outcome.specs.declared.outcome.Outcome.{Outcome}
use Rattle.run_outcome.specs.Lines.{Listed}
use Rattle.run_minutes.specs.Keeping.{with_lines}
use Rattle.run_minutes.proofs.Fates.{no-lines}
use Rattle.run_minutes.specs.run_promise.Origin.{Origin, rule_of, start_at, first_of}
use Rattle.run_acts.specs.run_record.Recorded.{progress}
use Rattle.run_acts.proofs.run_note_record.Unlit.{acted-last, off-last, behind-more}
use Rattle.run_acts.specs.run_note_record.Ringed.{Seating}
use Rattle.run_acts.specs.run_note_record.RingsSoFar.{RingedBehind, GoesBehind}
use Rattle.run_acts.specs.run_note_record.Stored.{StoresOff, Stores}
use Rattle.run_acts.proofs.run_note_record.SoFar.{dark-ends}
use Rattle.run_acts.proofs.run_note_record.Bases.{stored-dark}
use Rattle.run_acts.specs.declared.run.Run.{Run}
use Rattle.run_acts.specs.declared.run.Power.{Power}
use Rattle.run_acts.specs.declared.run.Power.TheVariants.{Lit, Due, Lost}
use Rattle.run_acts.specs.run_crew.Cabin.{CabinIsSound}
use Rattle.run_acts.specs.Power.{is_lit, has_power as has_by, darkened, off_run, off_cut, passed}
use Rattle.run_acts.specs.Recording.{log_of, values_of, Supplies, RunRecorded}
use Rattle.run_acts.specs.RunRinged.{seats_of, RunRinged}
use Rattle.run_acts.proofs.StoredRun.{run-off}
use Rattle.recorder_with_cards.proofs.SecondsRecorded.{lost-away, lost-supply}
use Rattle.recorder_with_cards.proofs.SlotLines.{refused_dark, log-dark}
use Rattle.recorder_with_cards.proofs.SecondsEvented.{dark-evented, off-evented}
use Rattle.recorder_with_cards.proofs.OffRings.{cut_off, off-cut-rings}

-- the same log goes behind
same-all : (log : RunLog) (ss : List TraceSecond) → All (λ (x : TraceSecond). SameAt log log x.number) ss
same-all log [] = All-nil (λ (x : TraceSecond). SameAt log log x.number)
same-all log (s ∷ ss) = All-cons (λ (x : TraceSecond). SameAt log log x.number) s ss (record { cut = refl; torn = λ p slot. refl; found = λ p slot. refl }) (same-all log ss)

goes-itself : (log : RunLog) (done : List TraceSecond) → GoesBehind log log done
goes-itself log done = record { same = same-all log done; went_is = refl }

pub refused-all : (log later : RunLog) → later.breaks ≡ log.breaks → later.finds ≡ log.finds → (ss : List TraceSecond) → All (λ (x : TraceSecond). SameAt log later x.number) ss
refused-all log later breaks finds [] = All-nil (λ (x : TraceSecond). SameAt log later x.number)
refused-all log later breaks finds (s ∷ ss) = All-cons (λ (x : TraceSecond). SameAt log later x.number) s ss (refused-at log later breaks finds s.number) (refused-all log later breaks finds ss)

-- ---- after a failed call

module _ (o : Origin) (done : List TraceSecond) (p : Progress) (f : BookFollowsRun (rule_of o) (start_at o) o.from (first_of o) done p) (d : Devices) (spans : List SpanFrom) (seats : Card → Option Seating) (v : RingedBehind o done p.log p.next spans seats d) (is : p.supply ≡ IsLost)
    (speed : ℕ) (actions : List Action) (refused : List Refused) (low : 0 < p.next % 60) where
  abbrev later : RunLog
  later = record p.log { refused = refused }

  pub lost : HasLost (went p.log done).before
  lost = (with-supply (rule_of o) (start_at o) o.from (first_of o) done p IsLost is f).power

  before-is : (n : ℕ) → p.next % 60 + n ≤ 60 → (went later (done ++ driven n p.next speed actions)).before ≡ (went p.log done).before
  before-is n within =
      ap (λ (w : Went). w.before) (went-refused p.log later refl refl (done ++ driven n p.next speed actions))
      ∙ ap (λ (w : Went). w.before) (lost-are-told (rule_of o) (start_at o) o.from (first_of o) done p f is n speed actions low within)

  pub away : (n : ℕ) (s : TraceSecond) → p.next % 60 + n ≤ 60 → 0 < s.number % 60 → has_power (went later (done ++ driven n p.next speed actions)).before s ≡ false
  away n s within some = lost-dark (went later (done ++ driven n p.next speed actions)).before s (subst HasLost (sym (before-is n within)) lost) some

  pub rings-lost : (n : ℕ) → p.next % 60 + suc n ≤ 60 → RingedBehind o (done ++ driven (suc n) p.next speed actions) later (p.next + suc n) spans seats d
  rings-lost zero within =
      let s : TraceSecond = record { number = p.next; has_power = true; speed = speed; actions = actions } in
      subst (λ (k : ℕ). RingedBehind o (done ++ s ∷ []) later k spans seats d) (let e : suc p.next ≡ p.next + 1 = omega arith in e)
      (dark-ends d o done s p.log later spans 0 seats seats v (record { same = refused-all p.log later refl refl done; went_is = went-refused p.log later refl refl done }) ([], sym (append-nil p.log.breaks)) (lost-dark (went p.log done).before s lost low) (λ c. inl refl))
  rings-lost (suc n) within =
      let s : TraceSecond = record { number = p.next + suc n; has_power = true; speed = speed; actions = [] } in
      let front : List TraceSecond = driven (suc n) p.next speed actions in
      subst (λ (k : ℕ). RingedBehind o (done ++ driven (suc (suc n)) p.next speed actions) later k spans seats d) (let e : suc (p.next + suc n) ≡ p.next + suc (suc n) = omega arith in e)
      (subst (λ (ss : List TraceSecond). RingedBehind o ss later (suc (p.next + suc n)) spans seats d) (behind-more done front (driven (suc (suc n)) p.next speed actions) s (acted-last n p.next speed actions))
      (dark-ends d o (done ++ front) s later later spans 0 seats seats (rings-lost n (omega (arith, within))) (goes-itself later (done ++ front)) ([], sym (append-nil later.breaks)) (away (suc n) s (omega (arith, within)) (omega (arith, within))) (λ c. inl refl)))

-- ---- an `off` line: the trace gives no power

module _ (o : Origin) (d : Devices) (log : RunLog) (spans : List SpanFrom) (seats : Card → Option Seating) where
  off-one : (done : List TraceSecond) (next : ℕ) → RingedBehind o done log next spans seats d → RingedBehind o (done ++ record { number = next; has_power = false; speed = 0; actions = [] } ∷ []) log (suc next) spans seats d
  off-one done next v =
      dark-ends d o done (record { number = next; has_power = false; speed = 0; actions = [] }) log log spans 0 seats seats v (goes-itself log done) ([], sym (append-nil log.breaks)) refl (λ c. inl refl)

  pub rings-off : (n : ℕ) (done : List TraceSecond) (next : ℕ) → RingedBehind o done log next spans seats d → RingedBehind o (done ++ dark (suc n) next) log (next + suc n) spans seats d
  rings-off zero done next v = subst (λ (k : ℕ). RingedBehind o (done ++ dark 1 next) log k spans seats d) (let e : suc next ≡ next + 1 = omega arith in e) (off-one done next v)
  rings-off (suc n) done next v =
      let s : TraceSecond = record { number = next + suc n; has_power = false; speed = 0; actions = [] } in
      let front : List TraceSecond = dark (suc n) next in
      subst (λ (k : ℕ). RingedBehind o (done ++ dark (suc (suc n)) next) log k spans seats d) (let e : suc (next + suc n) ≡ next + suc (suc n) = omega arith in e)
      (subst (λ (ss : List TraceSecond). RingedBehind o ss log (suc (next + suc n)) spans seats d) (behind-more done front (dark (suc (suc n)) next) s (off-last (suc n) next))
      (off-one (done ++ front) (next + suc n) (rings-off n done next v)))

-- where power is lost no card is accepted
dark-seats : (n : ℕ) (run : Run) (c : Card) → seats_of (record (darkened true run) { power = Due; next = run.next + n; begun = 0 }) c ≡ None
dark-seats n run A = refl
dark-seats n run B = refl

-- and as many insertions were noted
dark-noted : (lit : Bool) (run : Run) → (darkened lit run).noted ≡ run.noted
dark-noted true run = refl
dark-noted false run = refl

-- nor fewer cuts found
dark-unfound : (lit : Bool) (run : Run) → (darkened lit run).unfound ≡ run.unfound
dark-unfound true run = refl
dark-unfound false run = refl

-- the last span ends with a cut
cut-off-last : (earlier : List SpanFrom) (base : ℕ) (span : List ToldSecond) → cut_off (earlier ++ record { base = base; span = span } ∷ []) ≡ earlier ++ record { base = base; span = cut_last span } ∷ []
cut-off-last [] base span = refl
cut-off-last (x ∷ []) base span = refl
cut-off-last (x ∷ y ∷ earlier) base span = ap (λ (l : List SpanFrom). x ∷ l) (cut-off-last (y ∷ earlier) base span)

-- ---- of a run

module _ (o : Origin) (done : List TraceSecond) (old : Run) (before : Outcome) (d : Devices) (h : RunRinged o done old before d) where
  abbrev r : RunRecorded o done old before d
  r = h.evented.recorded

  abbrev p : Progress
  p = progress (values_of old before) r.supply r.recorded.book

  -- SO MANY SECONDS without power, the first with these actions
  pub dark-ringed : (n speed begun : ℕ) (actions : List Action) → 0 < n → has_by old.power old.next ≡ false → old.next % 60 + n ≤ 60 → (new : Run) (after : Outcome) → new ≡ passed n begun old →
      after ≡ record before { refused = with_lines (refused_dark old.next actions) before.refused } → RunRinged o (done ++ driven n old.next speed actions) new after d
  dark-ringed zero speed begun actions some away_ fits new after is told = absurd (omega (arith, some))
  dark-ringed (suc n) speed begun actions some away_ fits new after is told =
      let none = lost-away old.power old.next away_ in
      let supply : r.supply ≡ IsLost = lost-supply old.power r.supply none.0 r.powers in
      let power : new.power ≡ Lost = ap (λ (x : Run). x.power) is ∙ none.0 in
      let lines : List Refused = by_slots before.refused.items ++ refused_dark old.next actions in
      let one : RingedBehind o (done ++ driven (suc n) old.next speed actions) (record (log_of before) { refused = lines }) (old.next + suc n) h.spans (seats_of old) d =
      rings-lost o done p r.recorded.recorded.followed d h.spans (seats_of old) h.ringed supply speed actions lines none.1 n fits in
      let was : StoresOff o (log_of before) old.unfound h.spans d = subst (λ (q : Power). Stores (is_lit q) o (log_of before) old.unfound old.keeper.odometer h.spans d) none.0 h.stored in
      let off : StoresOff o (log_of after) old.unfound h.spans d = subst (λ (q : Outcome). StoresOff o (log_of q) old.unfound h.spans d) (sym told)
      (subst (λ (l : RunLog). StoresOff o l old.unfound h.spans d) (sym (log-dark before old.next actions))
      (stored-dark o (log_of before) (record (log_of before) { refused = lines }) old.unfound h.spans d r.recorded.recorded.followed.unfound ([], sym (append-nil (log_of before).breaks)) was)) in
      record {
        evented = dark-evented o done old before d h.evented (suc n) speed begun actions some away_ fits new after is told;
        spans = h.spans;
        base = λ lit. absurd (let bad : Lost ≡ Lit = sym power ∙ lit in cc);
        counted = let was = h.counted in let noted = ap (λ (x : Run). x.noted) is in let many = ap (λ (q : Outcome). length q.finds.items) told in omega (arith, was, noted, many);
        ringed = subst (λ (x : Run). RingedBehind o (done ++ driven (suc n) old.next speed actions) (log_of after) x.next h.spans (seats_of x) d) (sym is)
            (subst (λ (q : Outcome). RingedBehind o (done ++ driven (suc n) old.next speed actions) (log_of q) (old.next + suc n) h.spans (seats_of old) d) (sym told)
            (subst (λ (l : RunLog). RingedBehind o (done ++ driven (suc n) old.next speed actions) l (old.next + suc n) h.spans (seats_of old) d) (sym (log-dark before old.next actions)) one));
        stored = subst (λ (q : Power). Stores (is_lit q) o (log_of after) new.unfound new.keeper.odometer h.spans d) (sym power) (subst (λ (x : Run). StoresOff o (log_of after) x.unfound h.spans d) (sym is) off);
      }

  -- AN `off` LINE
  pub off-ringed : (old.power ≡ Lit → (low : ℕ) × CabinIsSound low None old.keeper.cabin) → (n : ℕ) → 0 < n → (breaks : Listed Break) → breaks ≡ with_lines (off_cut (is_lit old.power) (old.next - 1) old.begun) before.breaks → (new : Run) → new ≡ off_run n old → RunRinged o (done ++ dark n old.next) new (record before { breaks = breaks }) d
  off-ringed sits zero some breaks told new is = absurd (omega (arith, some))
  off-ringed sits (suc n) some breaks told new is =
      let power : new.power ≡ Due = ap (λ (x : Run). x.power) is in
      let rings = by old.power refl r.supply refl r.powers in
      record {
        evented = off-evented o done old before d h.evented sits (suc n) some breaks told new is;
        spans = rings.0;
        base = λ lit. absurd (let bad : Due ≡ Lit = sym power ∙ lit in cc);
        counted = let was = h.counted in let noted = ap (λ (x : Run). x.noted) is ∙ dark-noted (is_lit old.power) old in omega (arith, was, noted);
        ringed = subst (λ (x : Run). RingedBehind o (done ++ dark (suc n) old.next) (log_of (record before { breaks = breaks })) x.next rings.0 (seats_of x) d) (sym is)
            (subst (λ (l : Listed Break). RingedBehind o (done ++ dark (suc n) old.next) (log_of (record before { breaks = l })) (old.next + suc n) rings.0 (seats_of (off_run (suc n) old)) d) (sym told) rings.1);
        stored = subst (λ (q : Power). Stores (is_lit q) o (log_of (record before { breaks = breaks })) new.unfound new.keeper.odometer rings.0 d) (sym power)
            (subst (λ (k : ℕ). StoresOff o (log_of (record before { breaks = breaks })) k rings.0 d) (sym (ap (λ (x : Run). x.unfound) is ∙ dark-unfound (is_lit old.power) old))
            (subst (λ (l : Listed Break). StoresOff o (log_of (record before { breaks = l })) old.unfound rings.0 d) (sym told) rings.2));
      }
    where
      plain : RingedBehind o (done ++ dark (suc n) old.next) (log_of before) (old.next + suc n) h.spans (seats_of old) d →
          RingedBehind o (done ++ dark (suc n) old.next) (log_of (record before { breaks = with_lines [] before.breaks })) (old.next + suc n) h.spans (seats_of old) d
      plain e = subst (λ (l : Listed Break). RingedBehind o (done ++ dark (suc n) old.next) (log_of (record before { breaks = l })) (old.next + suc n) h.spans (seats_of old) d) (no-lines before.breaks) e

      plain-off : StoresOff o (log_of before) old.unfound h.spans d → StoresOff o (log_of (record before { breaks = with_lines [] before.breaks })) old.unfound h.spans d
      plain-off e = subst (λ (l : Listed Break). StoresOff o (log_of (record before { breaks = l })) old.unfound h.spans d) (no-lines before.breaks) e

      so : (q : Power) (s : UnitPower) → r.supply ≡ s → Supplies q s → old.power ≡ q → Stores (is_lit q) o (log_of before) old.unfound old.keeper.odometer h.spans d →
          (spans : List SpanFrom) × RingedBehind o (done ++ dark (suc n) old.next) (log_of (record before { breaks = with_lines (off_cut (is_lit q) (old.next - 1) old.begun) before.breaks })) (old.next + suc n) spans
          (seats_of (record (darkened (is_lit q) old) { power = Due; next = old.next + suc n; begun = 0 })) d
          × StoresOff o (log_of (record before { breaks = with_lines (off_cut (is_lit q) (old.next - 1) old.begun) before.breaks })) old.unfound spans d
      so Lit (IsLit []) at powers power_is st = absurd powers
      so Lit (IsLit (t ∷ span)) at powers power_is st =
          let lit : Run = record (darkened true old) { power = Due; next = old.next + suc n; begun = 0 } in
          let f = with-supply (rule_of o) (start_at o) o.from (first_of o) done p (IsLit (t ∷ span)) at r.recorded.recorded.followed in (
            cut_off h.spans,
            rings-off o d (and_break (log_of before) (cut_at (old.next - 1) false old.begun)) (cut_off h.spans) (seats_of lit) n done old.next
                (off-cut-rings (rule_of o) (start_at o) o.from (first_of o) done p t span f o d h.spans (seats_of old) (seats_of lit) h.ringed (λ c. inr (dark-seats (suc n) old c))),
            run-off o done old before d r power_is h.spans h.ringed.spans_are st (cut_off h.spans) (λ earlier base span same. ap cut_off same ∙ cut-off-last earlier base span),
          )
      so Lit IsDue at powers power_is st = absurd powers
      so Lit IsLost at powers power_is st = absurd powers
      so Due (IsLit span) at powers power_is st = absurd powers
      so Due IsDue at powers power_is st = (h.spans, plain (rings-off o d (log_of before) h.spans (seats_of old) n done old.next h.ringed), plain-off st)
      so Due IsLost at powers power_is st = absurd powers
      so Lost (IsLit span) at powers power_is st = absurd powers
      so Lost IsDue at powers power_is st = absurd powers
      so Lost IsLost at powers power_is st = (h.spans, plain (rings-off o d (log_of before) h.spans (seats_of old) n done old.next h.ringed), plain-off st)

      by : (q : Power) → old.power ≡ q → (s : UnitPower) → r.supply ≡ s → Supplies old.power s →
          (spans : List SpanFrom) × RingedBehind o (done ++ dark (suc n) old.next) (log_of (record before { breaks = with_lines (off_cut (is_lit old.power) (old.next - 1) old.begun) before.breaks })) (old.next + suc n) spans (seats_of (off_run (suc n) old)) d
          × StoresOff o (log_of (record before { breaks = with_lines (off_cut (is_lit old.power) (old.next - 1) old.begun) before.breaks })) old.unfound spans d
      by q is_ s at powers =
          subst (λ (x : Power). (spans : List SpanFrom) × RingedBehind o (done ++ dark (suc n) old.next) (log_of (record before { breaks = with_lines (off_cut (is_lit x) (old.next - 1) old.begun) before.breaks })) (old.next + suc n) spans
          (seats_of (record (darkened (is_lit x) old) { power = Due; next = old.next + suc n; begun = 0 })) d
          × StoresOff o (log_of (record before { breaks = with_lines (off_cut (is_lit x) (old.next - 1) old.begun) before.breaks })) old.unfound spans d) (sym is_)
          (so q s at (subst (λ (x : Power). Supplies x s) is_ powers) is_ (subst (λ (x : Power). Stores (is_lit x) o (log_of before) old.unfound old.keeper.odometer h.spans d) is_ h.stored))
