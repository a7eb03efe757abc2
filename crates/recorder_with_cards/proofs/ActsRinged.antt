-- What an action of a second leaves of the rings.
use Rattle.std.proofs.Common.{◌≡◌, ◌∙◌, ◌⊎◌, inl, inr, ℕ, suc, ◌≤◌, true, false, Option, Some, None, List, [], ◌∷◌, ◌++◌, length, refl, ap, sym, subst, arith, append_assoc, length-append, ⊎_elim}
use Rattle.activity_codec.specs.declared.values.Slot.{Slot}
use Rattle.activity_codec.specs.declared.values.Pick.{Pick}
use Rattle.trace_model.specs.declared.Card.{Card}
use Rattle.trace_model.specs.declared.Card.TheVariants.{A, B}
use Rattle.trace_model.specs.declared.Action.{Action}
use Rattle.trace_model.specs.declared.Action.TheVariants.{Select, Manual, Tear as Pull}
use Rattle.trace_model.specs.Trace.{TraceSecond}
use Rattle.minute_rules.specs.Kept.{Kept as Minutes}
use Rattle.log_model.specs.declared.lines.Break.{Break}
use Rattle.log_model.specs.declared.lines.Break.TheVariants.{Tear}
use Rattle.log_model.specs.declared.lines.Find.{Find}
use Rattle.log_model.specs.declared.lines.Refused.{Refused}
use Rattle.log_model.specs.declared.lines.SlotFault.{SlotFault}
use Rattle.log_model.specs.Log.{RunLog, In}
use Rattle.log_model.specs.Slots.{refusal}
use Rattle.log_model.specs.Course.{Before, Course, ToldSecond, went}
use Rattle.log_model.specs.ByHand.{minute_on}
use Rattle.run_minutes.specs.card_slots.Calls.{seat_in, card_in, logged}
use Rattle.device_calls.specs.run_unit_course.Lines.{cut_at}
use Rattle.device_calls.specs.note_model.Odometer.{SpanFrom}
use Rattle.device_calls.specs.safety_model.Safe.{Devices}
use Rattle.run_acts.specs.run_rings.Notes.{NotesMore, course_behind}
use Rattle.run_acts.specs.run_rings.Spans.{with_second}
use Rattle.run_acts.proofs.run_rings.Actions.{selections, pulls, entries, refusals}
use Rattle.run_acts.proofs.run_rings.Same.{rings-left}
use Rattle.run_acts.proofs.NotesThen.{behind-refused}
use Rattle.run_acts.specs.run_course.Moments.{and_break, and_refused}
use Rattle.run_acts.specs.run_course.Reached.{course_at}
use Rattle.run_acts.specs.run_course.Telling.{IsLeft}
use Rattle.unit_minutes.specs.unit_model.Image.{odometer_at}
use Rattle.device_calls.specs.unit_rule.Odometer.{odometer_after}
use Rattle.run_minutes.specs.Keeping.{with_lines}
use Rattle.run_outcome.specs.declared.outcome.Outcome.{Outcome}
use Rattle.run_minutes.specs.run_promise.Origin.{Origin}
use Rattle.run_acts.specs.run_crew.Cabin.{torn_out}
use Rattle.run_acts.specs.run_record.Within.{Beginning}
use Rattle.run_acts.specs.run_note_record.Noting.{Acting}
use Rattle.run_acts.specs.run_note_record.EventsSoFar.{EventedNow}
use Rattle.run_acts.specs.run_note_record.RingsSoFar.{RingedBehind, RingedIn}
use Rattle.run_acts.specs.run_note_record.Steps.{GoesOnTo, FailsBy, nobody, spans_cut}
use Rattle.run_acts.specs.run_note_record.Stored.{StoresOn, StoresOff}
use Rattle.run_acts.proofs.run_note_record.OnCards.{stay-itself}
use Rattle.run_acts.proofs.run_note_record.Sessions.{stay-may}
use Rattle.run_acts.proofs.run_note_record.SoFar.{left-itself}
use Rattle.run_acts.proofs.run_note_record.RingSteps.{passes}
use Rattle.run_acts.specs.declared.run.Run.{Run}
use Rattle.run_acts.specs.declared.run.Power.TheVariants.{Lit}
use Rattle.run_acts.specs.Power.{with_cabin, cut_run}
use Rattle.run_acts.specs.Acting.{pulled_run, pulled_breaks}
use Rattle.run_acts.specs.Recording.{log_of, RunFails, RunGoesOn, IsNow}
use Rattle.run_acts.specs.Evented.{CutEvented, RunWatches, span_seen}
use Rattle.run_acts.specs.RunRinged.{seats_of, IsLastFrom, RingsWithin, WithinRinged, CutRinged, with_cut, RingsGoOn, RingsAction}
use Rattle.run_acts.proofs.Asked.{pulls-one}
use Rattle.run_acts.proofs.StoredRun.{run-cut}
use Rattle.run_acts.specs.ByHand.{entry_from, entered_run, stop_by, stopped_in}
use Rattle.run_acts.proofs.ByHand.{holding-seats}
use Rattle.recorder_with_cards.proofs.ActsRecorded.{refuses, refused}
use Rattle.recorder_with_cards.proofs.ActsEvented.{watches-on, refused-now}
use Rattle.recorder_with_cards.proofs.Staying.{StaysWatched}
use Rattle.recorder_with_cards.proofs.RingsHeld.{at-front, behind-at, goes-still, goes-refused, goes-torn}
use Rattle.recorder_with_cards.proofs.SlotLines.{whose, stops-hand, stop-by-session, refusal-by-slots, log-one, log-stop}

-- ---- the second goes on, or power is cut

pub ringed-on : (o : Origin) (done : List TraceSecond) (s : TraceSecond) (n m : ℕ) (run new : Run) (before after : Outcome) (d e : Devices) → (h : WithinRinged o done s n run before d) → (front rest : List Action) → s.actions ≡ front ++ rest → length front ≡ m →
    RunGoesOn o done s (In m) [] new after e h.evented.within.within.b → EventedNow o done s h.evented.within.within.b.run Acting (log_of after) e → StaysWatched run new →
    RingsWithin o done s h.evented.within.within.b.run.log front new (log_of after) h.spans h.told e → WithinRinged o done s m new after e
ringed-on o done s n m run new before after d e h front rest are number g now same rings = record {
  evented = record {
    within = g.goes;
    evented = subst (λ (b : Beginning). EventedNow o done s b.run Acting (log_of after) e) (sym g.began) now;
    watches = subst (λ (b : Beginning). RunWatches o (span_seen b.run done s) new) (sym g.began) (watches-on o (span_seen h.evented.within.within.b.run done s) run new same h.evented.watches);
  };
  front = front;
  rest = rest;
  are = are;
  number = number;
  spans = h.spans;
  told = h.told;
  rings = subst (λ (b : Beginning). RingsWithin o done s b.run.log front new (log_of after) h.spans h.told e) (sym g.began) rings;
  stored = subst (λ (b : Beginning). StoresOn o b.run.log b.run.unfound new.keeper.odometer (with_second h.spans new.keeper.odometer h.told)) (sym g.began)
      (subst (λ (k : ℕ). StoresOn o h.evented.within.within.b.run.log h.evented.within.within.b.run.unfound k (with_second h.spans k h.told))
      (sym (g.goes.odometer ∙ ap (λ (b : Beginning). odometer_after (odometer_at o.recording.unit) b.travel.before) g.began ∙ sym h.evented.within.odometer)) h.stored);
}

-- what the failed call leaves of the odometers
pub cut-stores : (o : Origin) (done : List TraceSecond) (s : TraceSecond) (n begun : ℕ) (run mid : Run) (out told : Outcome) (d e : Devices) → (h : WithinRinged o done s n run out d) → (front rest : List Action) → length front ≡ begun → RunFails o done s (In begun) mid told e → mid.power ≡ Lit →
    IsLeft s (In begun) rest → mid.unfound ≡ run.unfound → RingsGoOn true o done s h.evented.within.within.b front mid (log_of told) h.spans h.told e →
    StoresOff o (with_cut (log_of told) s front) mid.unfound (spans_cut h.spans mid.keeper.odometer (with_cut (log_of told) s front) done s) e
cut-stores o done s n begun run mid out told d e h front rest many fails lit left unfound rings =
    let w = h.evented.within in
    let same : mid.keeper.odometer ≡ run.keeper.odometer = rings.odometer ∙ sym w.odometer in
    subst (λ (k : ℕ). StoresOff o (with_cut (log_of told) s front) mid.unfound (spans_cut h.spans k (with_cut (log_of told) s front) done s) e) (sym same)
    (subst (λ (k : ℕ). StoresOff o (and_break (log_of told) (cut_at s.number true k)) mid.unfound (spans_cut h.spans run.keeper.odometer (and_break (log_of told) (cut_at s.number true k)) done s) e) (sym many)
    (run-cut o done s (In n) [] [] run out d w (In begun) mid told e fails lit rest left unfound run.keeper.odometer same rings.lines
    (subst (λ (k : ℕ). went (and_break (log_of told) (cut_at s.number true k)) done ≡ went w.within.b.run.log done) many rings.behind.went_is)
    h.spans h.rings.ringed.spans_are h.told h.rings.ringed.second.lit h.rings.ringed.second.starts h.stored))

-- the unit has failed: the cut is told
pub ringed-cuts : (o : Origin) (done : List TraceSecond) (s : TraceSecond) (b : Beginning) (begun : ℕ) (mid new : Run) (told after : Outcome) (e : Devices) (spans : List SpanFrom) (t : ToldSecond) → s.number ≡ mid.next → CutEvented o done s new after e → (front : List Action) → length front ≡ begun →
    RingsGoOn true o done s b front mid (log_of told) spans t e → StoresOff o (with_cut (log_of told) s front) mid.unfound (spans_cut spans mid.keeper.odometer (with_cut (log_of told) s front) done s) e → new ≡ cut_run mid.next mid → after ≡ record told { breaks = with_lines (cut_at mid.next true begun ∷ []) told.breaks } → CutRinged o done s new after e
ringed-cuts o done s b begun mid new told after e spans t number evented front many rings stored is after_is =
    let now : List SpanFrom = spans_cut spans mid.keeper.odometer (with_cut (log_of told) s front) done s in
    let log : with_cut (log_of told) s front ≡ log_of after = ap (λ (n : ℕ). and_break (log_of told) (cut_at s.number true n)) many ∙ ap (λ (u : ℕ). and_break (log_of told) (cut_at u true begun)) number ∙ sym (ap log_of after_is) in
    let next : s.number ≡ new.next = number ∙ sym (ap (λ (r : Run). r.next) is) in
    record {
      evented = evented;
      spans = now;
      counted = let was = rings.counted in let noted = ap (λ (r : Run). r.noted) is in let many = ap (λ (q : Outcome). length q.finds.items) after_is in omega (arith, was, noted, many);
      ringed = subst (λ (l : RunLog). RingedBehind o (done ++ s ∷ []) l (suc new.next) now nobody e) log (subst (λ (n : ℕ). RingedBehind o (done ++ s ∷ []) (with_cut (log_of told) s front) (suc n) now nobody e) next rings.ringed);
      stored = subst (λ (l : RunLog). StoresOff o l new.unfound now e) log (subst (λ (k : ℕ). StoresOff o (with_cut (log_of told) s front) k now e) (sym (ap (λ (r : Run). r.unfound) is)) stored);
    }

-- ---- an action that notes nothing

-- no device was called, and fewer cards are accepted, or the same
passes-by : (d : Devices) (o : Origin) (done : List TraceSecond) (s : TraceSecond) (began log later : RunLog) (front : List Action) (a : Action) (spans : List SpanFrom) (t : ToldSecond) (run new : Run) → RingsWithin o done s began front run log spans t d →
    GoesOnTo log later s front → NotesMore later (went began done).before s front a [] → new.keeper.odometer ≡ run.keeper.odometer → ((c : Card) → (seats_of new c ≡ seats_of run c) ⊎ (seats_of new c ≡ None)) →
    new.noted ≡ run.noted → later.finds ≡ log.finds → RingsWithin o done s began (front ++ a ∷ []) new later spans t d
passes-by d o done s began log later front a spans t run new rings goes none same fewer noted finds =
    let on = passes d d o done s began log later front a spans run.keeper.odometer t (seats_of run) (seats_of new) rings.ringed goes none (rings-left d.unit) (left-itself o d) (stay-may o (with_second spans run.keeper.odometer t) (FailsBy began done later s (front ++ a ∷ [])) d d (stay-itself o (with_second spans run.keeper.odometer t) d)) fewer in
    record {
      base = subst (λ (n : ℕ). IsLastFrom n (with_second spans n t)) (sym same) rings.base;
      counted = let was = rings.counted in let many = ap (λ (fs : List Find). length fs) finds in omega (arith, was, noted, many);
      ringed = subst (λ (n : ℕ). RingedIn o done s began (front ++ a ∷ []) later spans n t (seats_of new) d) (sym same) on;
    }

-- an activity is selected
pub selected-ringed : (d : Devices) (slot : Slot) (pick : Pick) (begun speed : ℕ) (run : Run) (minutes : Minutes) (out : Outcome) → RingsAction (Select slot pick) begun speed false run (record run { minutes = minutes }) out out d d
selected-ringed d slot pick begun speed run minutes out o done s now front rest are is allowed w spans t rings time =
    passes-by d o done s w.within.b.run.log (log_of out) (log_of out) front (Select slot pick) spans t run (record run { minutes = minutes }) rings (goes-still (log_of out) s front w.within.moment.up_to.uncut)
    (selections (log_of out) (went w.within.b.run.log done).before s front slot pick) refl (λ c. inl refl) refl refl

-- or a session takes an entry by hand
pub hand-ringed : (d : Devices) (slot : Slot) (pick : Pick) (minute begun speed : ℕ) (run : Run) (out : Outcome) → RingsAction (Manual slot pick minute) begun speed false run (entered_run slot pick minute run) out out d d
hand-ringed d slot pick minute begun speed run out o done s now front rest are is allowed w spans t rings time =
    passes-by d o done s w.within.b.run.log (log_of out) (log_of out) front (Manual slot pick minute) spans t run (entered_run slot pick minute run) rings (goes-still (log_of out) s front w.within.moment.up_to.uncut)
    (entries (log_of out) (went w.within.b.run.log done).before s front slot pick minute) refl (λ c. inl (holding-seats (entry_from slot pick (minute_on run.next minute)) (card_in (seat_in run.keeper.cabin.slots.seats slot)) run c)) refl refl

-- a card is pulled out
pulled-seats : (card : Card) (second : ℕ) (run : Run) (c : Card) → (seats_of (with_cabin (torn_out card second run.keeper.cabin) run) c ≡ seats_of run c) ⊎ (seats_of (with_cabin (torn_out card second run.keeper.cabin) run) c ≡ None)
pulled-seats A second run A = inr refl
pulled-seats A second run B = inl refl
pulled-seats B second run A = inl refl
pulled-seats B second run B = inr refl

pub pulled-ringed : (d : Devices) (slot : Slot) (begun speed : ℕ) (run : Run) (out : Outcome) → RingsAction (Pull slot) begun speed false run (pulled_run (card_in (seat_in run.keeper.cabin.slots.seats slot)) run.next run) out
    (record out { breaks = with_lines (pulled_breaks (card_in (seat_in run.keeper.cabin.slots.seats slot)) slot (record { second = run.next; begun = begun; late = false })) out.breaks }) d d
pulled-ringed d slot begun speed run out o done s now front rest are is allowed w spans t rings time = by (card_in (seat_in run.keeper.cabin.slots.seats slot)) refl (pulls-one run.keeper.cabin.slots.seats slot speed allowed)
  where
    log : RunLog
    log = log_of out

    line : Break
    line = Tear s.number slot false (suc (length front)) false

    by : (card : Option Card) → card_in (seat_in run.keeper.cabin.slots.seats slot) ≡ card → (card_in (seat_in run.keeper.cabin.slots.seats slot) ≡ None → ⊥) →
        RingsWithin o done s w.within.b.run.log (front ++ Pull slot ∷ []) (pulled_run card run.next run) (log_of (record out { breaks = with_lines (pulled_breaks card slot (record { second = run.next; begun = begun; late = false })) out.breaks })) spans t d
    by None none_ one = absurd (one none_)
    by (Some card) some one =
        let new : Run = with_cabin (torn_out card run.next run.keeper.cabin) run in
        let told = passes-by d o done s w.within.b.run.log log (and_break log line) front (Pull slot) spans t run new rings (goes-torn log s front slot false w.within.moment.up_to.uncut)
        (pulls (and_break log line) (went w.within.b.run.log done).before s front slot) refl (pulled-seats card run.next run) refl refl in
        subst (λ (u : ℕ). RingsWithin o done s w.within.b.run.log (front ++ Pull slot ∷ []) new (and_break log (Tear u slot false begun false)) spans t d) now.number
        (subst (λ (k : ℕ). RingsWithin o done s w.within.b.run.log (front ++ Pull slot ∷ []) new (and_break log (Tear s.number slot false k false)) spans t d) (sym is) told)

-- or it is refused
pub refused-ringed : (o : Origin) (done : List TraceSecond) (s : TraceSecond) (speed : ℕ) (run : Run) (before : Outcome) (d : Devices) → IsNow s speed run → (front : List Action) (a : Action) (rest : List Action) → s.actions ≡ front ++ a ∷ rest →
    WithinRinged o done s (length front) run before d → (fault : SlotFault) → stopped_in run speed a ≡ Some fault → (after : Outcome) → after ≡ record before { refused = with_lines (record { second = run.next; fault = fault; begun = suc (length front) } ∷ []) before.refused } →
    WithinRinged o done s (suc (length front)) run after d
refused-ringed o done s speed run before d now front a rest are h fault is after told =
    let w = h.evented.within in
    let log : RunLog = log_of before in
    let was : Before = (went w.within.b.run.log done).before in
    let uncut = w.within.moment.up_to.uncut in
    let line : Refused = record { second = run.next; fault = fault; begun = suc (length front) } in
    let later : RunLog = and_refused log line in
    let goes = goes-refused log later.refused s front uncut in
    let few : length front ≤ length s.actions = w.within.moment.is in
    let same : course_behind log was s front ≡ course_at log was s (In (length front)) = behind-at log was s front (a ∷ rest) are uncut few in
    let pre : Outcome = record before { refused = with_lines (line ∷ []) before.refused } in
    let here = at-front o done s run before d front (a ∷ rest) are h in
    let rings : RingsWithin o done s w.within.b.run.log (front ++ a ∷ []) run (log_of pre) h.spans h.told d =
    ⊎_elim
    (λ (slots : refusal (logged run.keeper.cabin.slots.seats) speed a ≡ Some fault).
    let faults : refusal (course_behind log was s front).slots s.speed a ≡ Some fault = ap (λ (c : Course). refusal c.slots s.speed a) same ∙ refuses o done s speed run before d now front a rest are w (Some fault) slots in
    let none : NotesMore later was s front a [] = refusals later was s front a fault (ap (λ (c : Course). refusal c.slots s.speed a) (behind-refused log was s front line) ∙ faults) in
    subst (λ (l : RunLog). RingsWithin o done s w.within.b.run.log (front ++ a ∷ []) run l h.spans h.told d) (sym (log-one before line (refusal-by-slots (logged run.keeper.cabin.slots.seats) speed a fault slots)))
    (passes-by d o done s w.within.b.run.log log later front a h.spans h.told run run here goes none refl (λ c. inl refl) refl refl))
    (λ (session : (refusal (logged run.keeper.cabin.slots.seats) speed a ≡ None) × (stop_by a run ≡ Some fault)).
    let hand = stops-hand a run fault session.1 in
    subst (λ (l : RunLog). RingsWithin o done s w.within.b.run.log (front ++ a ∷ []) run l h.spans h.told d) (sym (log-stop before line (stop-by-session a run fault session.1)))
    (subst (λ (x : Action). RingsWithin o done s w.within.b.run.log (front ++ x ∷ []) run log h.spans h.told d) (sym hand.3)
    (passes-by d o done s w.within.b.run.log log log front (Manual hand.0 hand.1 hand.2) h.spans h.told run run here (goes-still log s front uncut) (entries log was s front hand.0 hand.1 hand.2) refl (λ c. inl refl) refl refl)))
    (whose run speed a fault is) in
    let all : s.actions ≡ (front ++ a ∷ []) ++ rest = are ∙ sym (append_assoc front (a ∷ []) rest) in
    let number : length (front ++ a ∷ []) ≡ suc (length front) = let long = length-append front (a ∷ []) in omega (arith, long) in
    ringed-on o done s (length front) (suc (length front)) run run before after d d h (front ++ a ∷ []) rest all number (refused o done s speed run before d now front a rest are w fault is after told)
    (refused-now o done s speed run before d now front a rest are h.evented fault is after told) (record { watch = refl; memory = refl; power = refl; next = refl })
    (subst (λ (q : Outcome). RingsWithin o done s w.within.b.run.log (front ++ a ∷ []) run (log_of q) h.spans h.told d) (sym told) rings)
