-- Who leaves a slot at a moment, and is not torn out, leaves it still.
use Rattle.std.proofs.Common.{◌≡◌, ◌⊎◌, inl, inr, ⊎_elim, ℕ, true, false, None, List, refl, ap, sym, ◌∙◌}
use Rattle.activity_codec.specs.declared.values.Slot.{Slot}
use Rattle.activity_codec.specs.declared.values.Slot.TheVariants.{Driver, CoDriver}
use Rattle.trace_model.specs.declared.Card.{Card}
use Rattle.trace_model.specs.Trace.{TraceSecond}
use Rattle.log_model.specs.declared.lines.Break.{Break}
use Rattle.log_model.specs.Log.{RunLog, Phase, is_torn_in}
use Rattle.log_model.specs.Slots.{other_slot}
use Rattle.log_model.specs.Course.{Before, Moved}
use Rattle.run_crew.specs.card_slots.declared.seats.Ended.{Ended}
use Rattle.run_crew.specs.card_slots.Calls.{Seats, seat_in, with_seat, present_in}
use Rattle.run_crew.specs.declared.cabin.Cabin.{Cabin}
use Rattle.run_crew.specs.Cabin.{SitsNowhere}
use Rattle.run_events.specs.run_course.Moments.{and_break}
use Rattle.run_events.specs.run_course.Reached.{moved_at, IsUpTo, IsTearAt}
use Rattle.run_events.proofs.run_course.Lines.{tear-begun, tear-other}
use Rattle.run_record.specs.Within.{IsLeaving}

-- ---- two slots
pub slots-or : (a b : Slot) → (a ≡ b) ⊎ (b ≡ other_slot a)
slots-or Driver Driver = inl refl
slots-or CoDriver CoDriver = inl refl
slots-or Driver CoDriver = inr refl
slots-or CoDriver Driver = inr refl

pub unseated : (seats : Seats) (at slot : Slot) → seat_in seats slot ≡ None → seat_in (with_seat seats at None) slot ≡ None
unseated seats Driver Driver is = refl
unseated seats CoDriver CoDriver is = refl
unseated seats Driver CoDriver is = is
unseated seats CoDriver Driver is = is

pub nowhere-still : (seats : Seats) (at : Slot) (card : Card) → SitsNowhere seats card → SitsNowhere (with_seat seats at None) card
nowhere-still seats Driver card h = record { driver = refl; codriver = h.codriver }
nowhere-still seats CoDriver card h = record { driver = h.driver; codriver = refl }

-- WHO LEAVES A SLOT LEAVES IT STILL, if it was not torn out.
pub leaving-on : (log later : RunLog) (before : Before) (s : TraceSecond) (at : Phase) (low high : ℕ) (cabin after : Cabin) (slot : Slot) (card : Card) → moved_at later before s at ≡ moved_at log before s at →
    is_torn_in later s.number at slot ≡ false → seat_in after.slots.seats slot ≡ None → SitsNowhere after.slots.seats card → after.slots.past ≡ cabin.slots.past →
    IsLeaving log before s at low high cabin slot card → IsLeaving later before s at low high after slot card
leaving-on log later before s at low high cabin after slot card moved untorn empty nowhere past h = record {
  leaves = ap (λ (m : Moved). m.leaving slot) moved ∙ h.leaves;
  empty = empty;
  nowhere = nowhere;
  untorn = untorn;
  to = h.to;
  driver = λ m p le there. h.driver m p le (ap (λ (es : List Ended). present_in es m) (sym past) ∙ there);
  codriver = λ m p le there. h.codriver m p le (ap (λ (es : List Ended). present_in es m) (sym past) ∙ there);
}

-- a tear of another slot is none of this
pub torn-apart : (log : RunLog) (s : TraceSecond) (at : Phase) (slot other : Slot) (b : Break) → IsTearAt s at slot true b → (slot ≡ other → ⊥) → is_torn_in log s.number at other ≡ false → is_torn_in (and_break log b) s.number at other ≡ false
torn-apart log s at slot other b is apart untorn = ⊎_elim
    (λ same. absurd (apart same))
    (λ there. ap (is_torn_in (and_break log b) s.number at) there ∙ tear-other log s at slot true b is ∙ ap (is_torn_in log s.number at) (sym there) ∙ untorn)
    (slots-or slot other)

-- the moment's movements stay behind a tear
pub moves-still : (log : RunLog) (before : Before) (s : TraceSecond) (at : Phase) (slot : Slot) (b : Break) → IsTearAt s at slot true b → IsUpTo log s.number at → moved_at (and_break log b) before s at ≡ moved_at log before s at
moves-still log before s at slot b is up = (tear-begun (and_break log b) log before s at slot true b is up refl).1
