-- A card that enters, over what a run with cards carries within a second (profile).
use Rattle.std.specs.Prelude.{◌≡◌, ◌⊎◌, ℕ, ◌+◌, ◌/◌, ◌<◌, ◌≤◌, Bool, true, false, Some, None, IfSome, List, [], length}
use Rattle.activity_codec.specs.declared.values.Slot.TheVariants.{Driver, CoDriver}
use Rattle.trace_model.specs.declared.Card.{Card}
use Rattle.trace_model.specs.Trace.{TraceSecond}
use Rattle.tach_media.specs.Medium.{State, IsCoherent, LeavesOnly, Unchanged, HasCause, last_count}
use Rattle.minute_rules.specs.Kept.{Kept}
use Rattle.hand_model.specs.card_image.Own.{own_number, own_view, IsOwnValid}
use Rattle.device_calls.specs.card_session.declared.words.TheConstants.{LATEST_MINUTE}
use Rattle.run_crew.specs.card_slots.Calls.{seat_in, is_card}
use Rattle.log_model.specs.Log.{In, found_in}
use Rattle.log_model.specs.Slots.{other_slot}
use Rattle.log_model.specs.Course.{Visit, went}
use Rattle.log_model.specs.ByHand.{by_slots, stops}
use Rattle.device_calls.specs.safety_model.Recording.{card_image, brought}
use Rattle.device_calls.specs.safety_model.Safe.{Devices}
use Rattle.run_crew.specs.declared.cabin.Cabin.{Cabin}
use Rattle.run_crew.specs.Cards.{session_of}
use Rattle.run_crew.specs.Cabin.{with_power_lost}
use Rattle.run_events.specs.run_course.Reached.{moved_at}
use Rattle.run_minutes.specs.run_devices.Told.{arranged}
use Rattle.run_minutes.specs.run_promise.Found.{found_of}
use Rattle.run_outcome.specs.declared.outcome.Outcome.{Outcome}
use Rattle.run_minutes.specs.run_promise.Origin.{Origin, first_of}
use Rattle.run_minutes.specs.declared.keeper.Keeper.{Keeper}
use Rattle.run_minutes.specs.Keeping.{UnitMayBeCalled}
use Rattle.run_minutes.specs.Later.{IsCalm}
use Rattle.run_insertion.specs.declared.lines.Entering.{Entering}
use Rattle.run_insertion.specs.Entering.{Way, most_owed}
use Rattle.run_insertion.specs.Entered.{HasEntered}
use Rattle.run_insertion.specs.Told.{BooksEntered}
use Rattle.run_record.specs.Recorded.{Values}
use Rattle.run_record.specs.Within.{RecordInSecond, RecordAtFailure}
use Rattle.run_record.specs.Judging.{IsNext, Behind}

-- what a run has by value, with this keeper and these lines
abbrev pub values_with : Keeper → Outcome → (unfound next begun : ℕ) → Kept → Values
values_with k out unfound next begun minutes = record {
  log = record { breaks = out.breaks.items; refused = by_slots out.refused.items; finds = out.finds.items };
  marks = out.marks.items;
  cabin = k.cabin;
  unfound = unfound;
  next = next;
  begun = begun;
  minutes = minutes;
  odometer = k.odometer;
  stops = stops out.refused.items;
}

-- what the opening found is that of the images at the start
pub record IsFoundBy (o : Origin) : Type 0 where
  pub first : o.found.unit.first ≡ first_of o
  pub image : (c : Card) → (found_of o.found c).image ≡ card_image o.recording c
  pub start : (c : Card) → (found_of o.found c).start ≡ brought o.recording c
  pub number : (c : Card) → IsOwnValid (card_image o.recording c)
      → (found_of o.found c).number ≡ own_number (card_image o.recording c)

-- A CARD IS THE NEXT that is judged, in this second behind so many of its actions: it waits in its slot, nothing was
-- found of it yet, and the driver's card is judged first; the unit may be called, and there is room for the marks.
pub record MayJudge (o : Origin) (done : List TraceSecond) (s : TraceSecond) (n : ℕ) (waits fewer : List Visit)
    (e : Entering) (k : Keeper) (out : Outcome) (unfound next begun : ℕ) (minutes : Kept) (unit card others : State)
    (w : RecordInSecond o done s (In n) waits None [] (values_with k out unfound next begun minutes)
    (arranged e.which unit card others)) : Type 0 where
  pub origin : IsFoundBy o
  pub moment : e.at ≡ record { second = s.number; begun = n; late = false }
  pub last : e.at.second / 60 < LATEST_MINUTE
  pub next_ : IsNext o done s (In n) waits fewer (values_with k out unfound next begun minutes)
      (arranged e.which unit card others) w e.slot e.which
  pub none : found_in (values_with k out unfound next begun minutes).log s.number (In n) e.slot ≡ []
  pub order : e.slot ≡ Driver → ((moved_at (values_with k out unfound next begun minutes).log
      (went w.b.run.log done).before s (In n)).enters CoDriver ≡ false)
      ⊎ (found_in (values_with k out unfound next begun minutes).log s.number (In n) CoDriver ≡ [])
  pub ready : UnitMayBeCalled k unit
  pub seat : seat_in k.cabin.slots.seats e.slot ≡ Some (record { card = e.which; newest = None })
  pub elsewhere : is_card (seat_in k.cabin.slots.seats (other_slot e.slot)) e.which ≡ false
  pub bare : session_of k.cabin.cards e.which ≡ None
  pub vehicle : k.memory.registration ≡ (found_of o.found e.which).vehicle
  pub room : length out.marks.items + most_owed ≤ out.marks.room

-- IT ENTERED in this way: what the call says of it
pub record HasGone (e : Entering) (failed : Bool) (k v : Keeper) (noted noted_after : ℕ) (out after : Outcome)
    (unit unit_after card card_after others : State) (way : Way) : Type 0 where
  pub entered : HasEntered e failed k v noted noted_after out after unit unit_after card card_after way
  pub books : BooksEntered way e failed k v unit unit_after card card_after others
  pub cause : HasCause unit unit_after failed
  pub calm : IsCalm out.breaks.items after.breaks.items card card_after
  -- the card was only read, or it told of no later time
  pub in_time : LeavesOnly card card_after Unchanged
      ⊎ IfSome card.image (λ x. (y : List ℕ) × card.may_leave y × ((own_view y).stored ≤ e.at.second))

-- no clock is at its last value, and the devices are coherent
pub record AreSound (unit unit_after card card_after : State) : Type 0 where
  pub time : card_after.clock < last_count
  pub unit_before : IsCoherent unit
  pub unit_behind : IsCoherent unit_after
  pub card_before : IsCoherent card
  pub card_behind : IsCoherent card_after

-- THE UNIT HAS FAILED, and power is about to be cut: slots and sessions may be others than those that are recorded, if
-- a cut leaves the same of both.
pub record IsCut (o : Origin) (done : List TraceSecond) (s : TraceSecond) (n : ℕ) (v : Values) (d : Devices) : Type
    0 where
  pub left : List Visit
  pub cabin : Cabin
  pub same : with_power_lost s.number cabin ≡ with_power_lost s.number v.cabin
  pub within : RecordAtFailure o done s (In n) left None (record v { cabin = cabin }) d

-- BEHIND IT the second goes on, where the others wait; or the unit has failed
abbrev pub GoesOnOrIsCut : (failed : Bool)
    → (o : Origin) (done : List TraceSecond) (s : TraceSecond) (n : ℕ) (waits fewer : List Visit) (v later : Values)
    (d e : Devices) → RecordInSecond o done s (In n) waits None [] v d → Type 0
GoesOnOrIsCut false o done s n waits fewer v later d e w = Behind o done s (In n) waits fewer v later d e w
GoesOnOrIsCut true o done s n waits fewer v later d e w = IsCut o done s n later e

-- THE LAW, of these devices before and behind the call
abbrev pub ACardThatEntersIsRecorded : (unit unit_after card card_after others : State) → Type 0
ACardThatEntersIsRecorded unit unit_after card card_after others =
    (o : Origin) (done : List TraceSecond) (s : TraceSecond) (n : ℕ) (waits fewer : List Visit) (e : Entering)
    (k : Keeper) (out : Outcome) (unfound next begun : ℕ) (minutes : Kept) →
    (w : RecordInSecond o done s (In n) waits None [] (values_with k out unfound next begun minutes)
    (arranged e.which unit card others))
    → MayJudge o done s n waits fewer e k out unfound next begun minutes unit card others w →
    (failed : Bool) (v : Keeper) (noted noted_after : ℕ) (after : Outcome) (way : Way)
    → HasGone e failed k v noted noted_after out after unit unit_after card card_after others way
    → card_after.clock < last_count →
    GoesOnOrIsCut failed o done s n waits fewer (values_with k out unfound next begun minutes)
    (values_with v after unfound next begun minutes) (arranged e.which unit card others)
    (arranged e.which unit_after card_after others) w
