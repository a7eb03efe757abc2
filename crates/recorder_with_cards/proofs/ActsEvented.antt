-- What an action of a second leaves of the events that are noted so far.
use Rattle.std.proofs.Common.{◌≡◌, ◌∙◌, ℕ, suc, Bool, true, false, Option, Some, None, List, [], ◌∷◌, ◌++◌, length, map, refl, ap, sym, subst, arith, ⊎_elim}
use Rattle.activity_codec.specs.declared.values.Slot.{Slot}
use Rattle.activity_codec.specs.declared.values.Slot.TheVariants.{Driver, CoDriver}
use Rattle.trace_model.specs.declared.Card.{Card}
use Rattle.trace_model.specs.declared.Action.{Action}
use Rattle.trace_model.specs.declared.Action.TheVariants.{Tear as Pull}
use Rattle.trace_model.specs.Trace.{TraceSecond}
use Rattle.log_model.specs.declared.lines.Break.TheVariants.{Tear}
use Rattle.log_model.specs.declared.lines.Refused.{Refused}
use Rattle.log_model.specs.declared.lines.SlotFault.{SlotFault}
use Rattle.log_model.specs.Log.{RunLog, In}
use Rattle.log_model.specs.Slots.{Slots, Sitting, refusal, in_slot, other_slot}
use Rattle.log_model.specs.Course.{Visit, Before, Course, Moved, visits, card_in as card_of_sitting, with_slot, moved_by, answered, went}
use Rattle.device_calls.specs.event_model.Events.{Seen}
use Rattle.run_minutes.specs.card_slots.Calls.{seat_in, card_in, logged}
use Rattle.device_calls.specs.run_unit_course.Lines.{cut_at}
use Rattle.device_calls.specs.run_unit_course.Followed.{Lost as IsLost}
use Rattle.device_calls.specs.safety_model.Safe.{Devices, breakdowns_of}
use Rattle.run_minutes.specs.unit_memory.declared.memory.UnitFacts.{UnitFacts}
use Rattle.run_acts.specs.run_events.declared.watch.Watch.{Watch}
use Rattle.run_acts.specs.run_events.Shown.{all_sure}
use Rattle.run_acts.proofs.run_events.Shows.{nothing-more}
use Rattle.run_acts.specs.run_course.Reached.{course_at, moved_at, Reaches, IsTearAt}
use Rattle.run_acts.proofs.run_course.Reached.{action-reached}
use Rattle.run_acts.proofs.run_course.Moment.{reaches-of}
use Rattle.run_acts.specs.run_course.Moments.{and_break, and_refused}
use Rattle.run_acts.specs.run_course.Followed.{Progress}
use Rattle.run_outcome.specs.declared.outcome.Outcome.{Outcome}
use Rattle.run_minutes.specs.run_promise.Origin.{Origin}
use Rattle.run_minutes.specs.run_promise.Beside.{HaveLeftMore}
use Rattle.run_minutes.specs.Keeping.{with_lines}
use Rattle.run_acts.specs.run_note_record.Evented.{number_in, Evented}
use Rattle.run_acts.specs.run_note_record.Noting.{Acting, NotesThese}
use Rattle.run_acts.specs.run_note_record.EventsSoFar.{EventedNow}
use Rattle.run_acts.proofs.run_note_record.Adding.{call-notes}
use Rattle.run_acts.proofs.run_note_record.Passing.{refusal-adds, pull-adds}
use Rattle.run_acts.specs.declared.run.Run.{Run}
use Rattle.run_acts.specs.Power.{is_lit, cut_run}
use Rattle.run_acts.specs.Acting.{pulled_run, pulled_breaks}
use Rattle.run_acts.specs.Recording.{log_of, values_of, RunCut, IsNow}
use Rattle.run_acts.specs.Evented.{WithinEvented, CutEvented, InSecondEventedBy, InSecondEvented, EventsGoOn, EventsAction, RunWatches, IsWatching}
use Rattle.run_acts.proofs.NotedEvents.{same-says}
use Rattle.run_acts.proofs.FallEvented.{begins-now}
use Rattle.run_acts.proofs.Asked.{pulls-one}
use Rattle.run_acts.specs.ByHand.{stopped_in}
use Rattle.recorder_with_cards.proofs.ActsRecorded.{refuses}
use Rattle.recorder_with_cards.proofs.Staying.{StaysWatched}
use Rattle.recorder_with_cards.proofs.SlotLines.{whose, stop-by-session, refusal-by-slots, log-one, log-stop}

-- ---- with power, or cut

module _ (o : Origin) (done : List TraceSecond) (s : TraceSecond) (run : Run) (out : Outcome) (d : Devices) where
  pub in-evented_cut : (n : ℕ) → CutEvented o done s run out d → InSecondEvented o done s n run out d
  in-evented_cut n h = subst (λ (b : Bool). InSecondEventedBy b o done s n run out d) (sym (ap is_lit h.cut.lost)) h

  pub in-evented_lit : (n : ℕ) → WithinEvented o done s (In n) [] [] Acting run out d → InSecondEvented o done s n run out d
  in-evented_lit n h = subst (λ (b : Bool). InSecondEventedBy b o done s n run out d) (sym (ap is_lit h.within.lit)) h

-- ---- one action

pub watches-on : (o : Origin) (span : List Seen) (run new : Run) → StaysWatched run new → RunWatches o span run → RunWatches o span new
watches-on o span run new same h = record {
  limit = ap (λ (m : UnitFacts). m.limit) same.memory ∙ h.limit;
  watched = subst (λ (w : Watch). IsWatching o span w) (sym same.watch) h.watched;
}

-- or the unit has failed: the cut is told
pub evented-cuts : (o : Origin) (done : List TraceSecond) (s : TraceSecond) (n begun : ℕ) (run mid new : Run) (before told after : Outcome) (d e : Devices) → s.number ≡ run.next → (h : WithinEvented o done s (In n) [] [] Acting run before d) → RunCut o done s new after e →
    EventsGoOn true o done s h.within.within.b.run (In begun) Acting (log_of told) e → StaysWatched run mid → mid.next ≡ run.next → mid.unfound ≡ run.unfound → new ≡ cut_run mid.next mid → after ≡ record told { breaks = with_lines (cut_at mid.next true begun ∷ []) told.breaks } →
    CutEvented o done s new after e
evented-cuts o done s n begun run mid new before told after d e now h cut fails same next unfound is after_is =
    let w = h.within.within in
    let number : s.number ≡ mid.next = now ∙ sym next in
    let first : w.b.run.unfound ≡ new.unfound = sym w.unfound ∙ sym unfound ∙ sym (ap (λ (r : Run). r.unfound) is) in
    let second : w.b.run.next ≡ new.next = sym w.next ∙ sym next ∙ sym (ap (λ (r : Run). r.next) is) in
    let log : and_break (log_of told) (cut_at s.number true begun) ≡ log_of after = ap (λ (u : ℕ). and_break (log_of told) (cut_at u true begun)) number ∙ sym (ap log_of after_is) in
    record {
      cut = cut;
      evented = subst (λ (l : RunLog). Evented o (done ++ s ∷ []) l new.unfound (suc new.next) IsLost e) log
          (subst (λ (k : ℕ). Evented o (done ++ s ∷ []) (and_break (log_of told) (cut_at s.number true begun)) new.unfound (suc k) IsLost e) second
          (subst (λ (k : ℕ). Evented o (done ++ s ∷ []) (and_break (log_of told) (cut_at s.number true begun)) k (suc w.b.run.next) IsLost e) first fails));
      limit = ap (λ (r : Run). r.keeper.memory.limit) is ∙ ap (λ (m : UnitFacts). m.limit) same.memory ∙ h.watches.limit;
    }

-- no device was called
still-images : (o : Origin) (d : Devices) → HaveLeftMore o d d
still-images o d = record { unit = λ x h. h; card = λ c x h. h }

notes-none : (o : Origin) (d : Devices) → NotesThese o [] d d
notes-none o d = λ c there. (c, there, nothing-more (number_in o) all_sure c c (same-says c))

-- it is refused
pub refused-now : (o : Origin) (done : List TraceSecond) (s : TraceSecond) (speed : ℕ) (run : Run) (before : Outcome) (d : Devices) → IsNow s speed run → (front : List Action) (a : Action) (rest : List Action) → s.actions ≡ front ++ a ∷ rest →
    (h : WithinEvented o done s (In (length front)) [] [] Acting run before d) → (fault : SlotFault) → stopped_in run speed a ≡ Some fault → (after : Outcome) → after ≡ record before { refused = with_lines (record { second = run.next; fault = fault; begun = suc (length front) } ∷ []) before.refused } →
    EventedNow o done s h.within.within.b.run Acting (log_of after) d
refused-now o done s speed run before d now front a rest are h fault is after told =
    let w = h.within in
    let p : Progress = w.within.b.run in
    let line : Refused = record { second = run.next; fault = fault; begun = suc (length front) } in
    let adds = refusal-adds d o done p w.within.b.span s (begins-now o w.origin done s (In (length front)) (values_of run before) d w.within) (In (length front)) (log_of before)
    (reaches-of p (went p.log done).before s (In (length front)) (log_of before) [] w.within.b.broken (breakdowns_of d) w.within.moment) line in
    let then_ = call-notes d d o done s p Acting Acting (log_of before) (and_refused (log_of before) line) [] h.evented adds (notes-none o d) (still-images o d) in
    subst (λ (q : Outcome). EventedNow o done s p Acting (log_of q) d) (sym told)
    (⊎_elim
    (λ slots. subst (λ (l : RunLog). EventedNow o done s p Acting l d) (sym (log-one before line (refusal-by-slots (logged run.keeper.cabin.slots.seats) speed a fault slots))) then_)
    (λ session. subst (λ (l : RunLog). EventedNow o done s p Acting l d) (sym (log-stop before line (stop-by-session a run fault session.1))) h.evented)
    (whose run speed a fault is))

-- ---- a card is pulled out

gone-from : (slots : Slots) (slot : Slot) → in_slot (with_slot slots slot None) slot ≡ None
gone-from slots Driver = refl
gone-from slots CoDriver = refl

pub pulled-evented : (d : Devices) (slot : Slot) (begun speed : ℕ) (run : Run) (out : Outcome) → EventsAction (Pull slot) begun speed false run (pulled_run (card_in (seat_in run.keeper.cabin.slots.seats slot)) run.next run) out
    (record out { breaks = with_lines (pulled_breaks (card_in (seat_in run.keeper.cabin.slots.seats slot)) slot (record { second = run.next; begun = begun; late = false })) out.breaks }) d d
pulled-evented d slot begun speed run out o done s now front rest are is allowed w events time = by (card_in (seat_in run.keeper.cabin.slots.seats slot)) refl (pulls-one run.keeper.cabin.slots.seats slot speed allowed)
  where
    n : ℕ
    n = length front

    p : Progress
    p = w.within.b.run

    was : Before
    was = (went p.log done).before

    log : RunLog
    log = log_of out

    c : Course
    c = course_at log was s (In n)

    reached : Reaches p s (In (suc n)) log × (course_at log was s (In (suc n)) ≡ answered n (refusal c.slots s.speed (Pull slot)) (Pull slot) c) × (moved_at log was s (In (suc n)) ≡ moved_by n (refusal c.slots s.speed (Pull slot)) (Pull slot) c.slots)
    reached = action-reached p was s log front (Pull slot) rest are (reaches-of p was s (In n) log [] w.within.b.broken (breakdowns_of d) w.within.moment)

    none : refusal c.slots s.speed (Pull slot) ≡ None
    none = refuses o done s speed run out d now front (Pull slot) rest are w None allowed

    course_is : course_at log was s (In (suc n)) ≡ answered n None (Pull slot) c
    course_is = reached.1 ∙ ap (λ (r : Option SlotFault). answered n r (Pull slot) c) none

    moved_is : moved_at log was s (In (suc n)) ≡ moved_by n None (Pull slot) c.slots
    moved_is = reached.2 ∙ ap (λ (r : Option SlotFault). moved_by n r (Pull slot) c.slots) none

    nobody : (moved_at log was s (In (suc n))).leaving slot ++ visits (In (suc n)) slot (course_at log was s (In (suc n))).slots ≡ []
    nobody = ap (λ (m : Moved). m.leaving slot ++ visits (In (suc n)) slot (course_at log was s (In (suc n))).slots) moved_is ∙ ap (λ (k : Course). visits (In (suc n)) slot k.slots) course_is
        ∙ ap (λ (q : Option Sitting). map {B = Visit} (λ (card : Card). record { phase = In (suc n); slot = slot; card = card }) (card_of_sitting q)) (gone-from c.slots slot)

    here : IsTearAt s (In (suc n)) slot false (Tear s.number slot false (suc n) false)
    here = (suc n, false, refl, refl, reached.0.is, λ late. absurd (let bad : false ≡ true = late in cc))

    told : EventedNow o done s p Acting (and_break log (Tear s.number slot false (suc n) false)) d
    told = call-notes d d o done s p Acting Acting log (and_break log (Tear s.number slot false (suc n) false)) [] events
        (pull-adds d o done p w.within.b.span s (begins-now o w.origin done s (In n) (values_of run out) d w.within) n log reached.0 slot (Tear s.number slot false (suc n) false) here
        (w.within.moment.up_to.torn (In (suc n)) slot (omega arith)) nobody (w.within.moment.up_to.found (In (suc n)) (other_slot slot) (omega arith))) (notes-none o d) (still-images o d)

    by : (card : Option Card) → card_in (seat_in run.keeper.cabin.slots.seats slot) ≡ card → (card_in (seat_in run.keeper.cabin.slots.seats slot) ≡ None → ⊥) →
        EventedNow o done s p Acting (log_of (record out { breaks = with_lines (pulled_breaks card slot (record { second = run.next; begun = begun; late = false })) out.breaks })) d
    by None none_ one = absurd (one none_)
    by (Some card) some one =
        subst (λ (u : ℕ). EventedNow o done s p Acting (and_break log (Tear u slot false begun false)) d) now.number
        (subst (λ (k : ℕ). EventedNow o done s p Acting (and_break log (Tear s.number slot false k false)) d) (sym is) told)
