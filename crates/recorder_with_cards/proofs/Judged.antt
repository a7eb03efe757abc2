-- A card is judged: what its entering leaves of the record is what a run has behind it.
use Rattle.std.proofs.Common.{◌≡◌, ◌∙◌, ℕ, ◌<◌, Bool, true, false, not, None, List, [], refl, ap, sym, subst}
use Rattle.trace_model.specs.declared.Card.{Card}
use Rattle.trace_model.specs.declared.Card.TheVariants.{A, B}
use Rattle.trace_model.specs.Trace.{TraceSecond}
use Rattle.tach_media.specs.Medium.{State, IsCoherent, last_count}
use Rattle.log_model.specs.Log.{In}
use Rattle.log_model.specs.Course.{Visit}
use Rattle.device_calls.specs.unit_rule.Rule.{Started}
use Rattle.device_calls.specs.unit_rule.Odometer.{odometer_after}
use Rattle.device_calls.specs.safety_model.Safe.{Devices}
use Rattle.run_minutes.specs.run_devices.Told.{arranged}
use Rattle.run_outcome.specs.declared.outcome.Outcome.{Outcome}
use Rattle.run_minutes.specs.run_promise.Origin.{Origin}
use Rattle.run_minutes.specs.Books.{HaveTime}
use Rattle.run_acts.specs.Entered.{IsFoundBy, GoesOnOrIsCut}
use Rattle.run_acts.specs.run_record.Within.{Beginning}
use Rattle.run_acts.specs.declared.run.Run.{Run}
use Rattle.run_acts.specs.declared.run.Power.TheVariants.{Lit}
use Rattle.run_acts.specs.Recording.{log_of, IsOrigin, values_of, RunWithin}
use Rattle.run_minutes.specs.unit_memory.declared.memory.UnitFacts.{UnitFacts}
use Rattle.activity_codec.specs.declared.values.Slot.{Slot}
use Rattle.unit_minutes.specs.unit_model.Image.{IsUnit, odometer_at}
use Rattle.run_acts.specs.unit_notes.declared.unit_event.UnitEvent.{UnitEvent}
use Rattle.run_minutes.specs.run_promise.Between.{devices}
use Rattle.run_minutes.specs.declared.keeper.Moment.{Moment}
use Rattle.run_insertion.specs.declared.lines.Entering.{Entering}
use Rattle.run_insertion.specs.Entering.{Way, ending_of, measured}
use Rattle.run_minutes.specs.declared.keeper.Keeper.{Keeper}
use Rattle.recorder_with_cards.specs.EnteredEvents.{events_in}
use Rattle.run_insertion.specs.Noted.{UnitNote, IsOnUnit, IsComing, HasNoted, notes_by}
use Rattle.run_acts.specs.NotedEvents.{NotesEvents}
use Rattle.run_acts.proofs.NotedEvents.{quiet-noted}
use Rattle.recorder_with_cards.proofs.EnteredEvents.{entered-noted}
use Rattle.recorder_with_cards.specs.Accepting.{IsAccepted}
use Rattle.recorder_with_cards.specs.Judged.{JudgedTo}
use Rattle.recorder_with_cards.specs.Noting.{IsJudgedNoting, NotesAnew}
use Rattle.run_acts.specs.Closings.{notes_within}
use Rattle.run_acts.specs.Truths.{truths_within, marked}
use Rattle.run_acts.specs.Stays.{AllStay}

-- its clock is not at its last value
pub mine-time : (which : Card) (unit mine others : State) → HaveTime (arranged which unit mine others) → mine.clock < last_count
mine-time A unit mine others time = time.card_a
mine-time B unit mine others time = time.card_b

pub found-by : (o : Origin) → IsOrigin o → IsFoundBy o
found-by o origin = record { first = ap (λ (u : Started). u.first) origin.unit; image = origin.image; start = origin.start; number = origin.number }

-- the second goes on, or power is about to be cut
pub judged-by : (failed : Bool) (o : Origin) (done : List TraceSecond) (s : TraceSecond) (n : ℕ) (waits fewer : List Visit) (old new : Run) (before after : Outcome) (d e : Devices) (w : RunWithin o done s (In n) waits [] old before d) →
    new.power ≡ Lit → new.keeper.odometer ≡ old.keeper.odometer → new.keeper.memory ≡ old.keeper.memory → GoesOnOrIsCut failed o done s n waits fewer (values_of old before) (values_of new after) d e w.within → (failed ≡ false → AllStay o (marked after.marks.items (truths_within o w.within.b.run.log done s)) s.number (log_of after) (notes_within w.within.b done s (In n) (log_of after)) new.keeper.memory.registration new.keeper.cabin e) → JudgedTo failed o done s n waits fewer old new before after d e w
judged-by false o done s n waits fewer old new before after d e w lit odometer memory h stay = record {
  goes = record {
    origin = w.origin;
    vehicle = ap (λ (m : UnitFacts). m.registration) memory ∙ w.vehicle;
    lit = lit;
    within = h.within;
    odometer = odometer ∙ w.odometer ∙ ap (λ (b : Beginning). odometer_after (odometer_at o.recording.unit) b.travel.before) (sym h.began);
    stay = subst (λ (b : Beginning). AllStay o (marked after.marks.items (truths_within o b.run.log done s)) s.number (log_of after) (notes_within b done s (In n) (log_of after)) new.keeper.memory.registration new.keeper.cabin e) (sym h.began) (stay refl);
  };
  began = h.began;
  from = h.from;
}
judged-by true o done s n waits fewer old new before after d e w lit odometer memory h stay = record { waits = h.left; cabin = h.cabin; same = h.same; odometer = new.keeper.odometer; counted = λ power. refl; vehicle = ap (λ (m : UnitFacts). m.registration) memory ∙ w.vehicle; within = h.within }

-- ---- what is noted

noted-as : (which : Card) (U V X Y Z : State) (vs : List UnitEvent) (failed : Bool) → NotesEvents vs failed (devices U X Z) (devices V Y Z) → NotesEvents vs failed (devices U Z X) (devices V Z Y) → NotesEvents vs failed (arranged which U X Z) (arranged which V Y Z)
noted-as A U V X Y Z vs failed one other = one
noted-as B U V X Y Z vs failed one other = other

pub judged-notes : (e : Entering) (failed : Bool) (way : Way) (k : Keeper) (noted : ℕ) (U V X Y Z : State) → IsCoherent U → IsCoherent V → IsUnit U → V.works ≡ not failed →
    HasNoted IsOnUnit IsComing (notes_by (ending_of way) e noted (measured way e k).cabin) failed U V → NotesEvents (events_in (notes_by (ending_of way) e noted (measured way e k).cabin)) failed (arranged e.which U X Z) (arranged e.which V Y Z)
judged-notes e failed way k noted U V X Y Z whole behind unit works notes_ =
    let notes : List UnitNote = notes_by (ending_of way) e noted (measured way e k).cabin in
    noted-as e.which U V X Y Z (events_in notes) failed (entered-noted U V X Z Y Z notes whole behind unit failed notes_ works) (entered-noted U V Z X Z Y notes whole behind unit failed notes_ works)

pub judged-noting : (e : Entering) (failed : Bool) (old new : Run) (before after : Outcome) (a : IsAccepted e old new before after) (U V X Y Z : State) → IsCoherent U → IsCoherent V → IsUnit U → V.works ≡ not failed →
    HasNoted IsOnUnit IsComing (notes_by (ending_of a.way) e old.noted (measured a.way e old.keeper).cabin) failed U V → IsJudgedNoting e failed old new before after (arranged e.which U X Z) (arranged e.which V Y Z)
judged-noting e failed old new before after a U V X Y Z whole behind unit works noted =
    record { accepted = a; notes = judged-notes e failed a.way old.keeper old.noted U V X Y Z whole behind unit works noted }

-- no card is there: nothing is noted
same-noted : (U X Y : State) → NotesEvents [] false (devices U X Y) (devices U X Y)
same-noted U X Y = quiet-noted U U X Y X Y (λ c there. (c, there, record { tables = λ kind at. refl; first_over = refl; over_count = refl }))

pub none-noting : (slot : Slot) (at : Moment) (speed : ℕ) (run : Run) (out : Outcome) (U X Y : State) → NotesAnew None slot at speed false run run out out (devices U X Y) (devices U X Y)
none-noting slot at speed run out U X Y = (refl, refl, same-noted U X Y)
