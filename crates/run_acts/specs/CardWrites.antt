-- What an action writes on the card that it is about (profile): a place stands on it, and a card that is withdrawn is
-- closed.
use Rattle.std.specs.Prelude.{◌≡◌, ◌⊎◌, ℕ, Bool, true, false, Option, Some, None, IfSome, List}
use Rattle.activity_codec.specs.declared.values.Activity.{Activity}
use Rattle.activity_codec.specs.declared.values.Slot.{Slot}
use Rattle.trace_model.specs.declared.Card.{Card}
use Rattle.tach_media.specs.Medium.{State, HasBroken}
use Rattle.tacho_types.specs.declared.places.PlaceEntry.{PlaceEntry}
use Rattle.card_files.specs.card_layout.declared.files.Application.{Application}
use Rattle.hand_model.specs.card_image.Own.{IsOwnValid}
use Rattle.card_files.specs.Noting.{IsPlaceNoted, IsNotingPlace}
use Rattle.card_files.specs.Rings.{place_ring}
use Rattle.device_calls.specs.card_session.Sessions.{IsSession}
use Rattle.device_calls.specs.card_session.Cards.{IsCardClosed}
use Rattle.run_events.specs.gated_ring.Ring.{PointsInside}
use Rattle.log_model.specs.declared.lines.Break.{Break}
use Rattle.unit_model.specs.minute_model.declared.Minute.{Minute}
use Rattle.unit_model.specs.minute_model.Span.{Span, activity_next}
use Rattle.minute_rules.specs.Kept.{CountsSpan}
use Rattle.device_calls.specs.run_unit_course.Legs.{Travel}
use Rattle.device_calls.specs.unit_rule.Odometer.{HasTravelled, odometer_after}
use Rattle.device_calls.specs.safety_model.Safe.{Devices, card_of}
use Rattle.run_crew.specs.declared.cards.Accepted.{Accepted}
use Rattle.run_crew.specs.Cards.{session_of}
use Rattle.run_outcome.specs.Lines.{Listed}
use Rattle.run_outcome.specs.declared.outcome.Outcome.{Outcome}
use Rattle.run_minutes.specs.run_promise.Found.{Found, found_of}
use Rattle.run_minutes.specs.run_promise.Between.{RunLedger}
use Rattle.run_minutes.specs.declared.keeper.Moment.{Moment}
use Rattle.run_minutes.specs.Minutes.{KeepingState}
use Rattle.run_minutes.specs.Books.{HaveTime}
use Rattle.run_minutes.specs.Decided.{MayBookAll}
use Rattle.run_acts.specs.declared.run.Run.{Run}
use Rattle.run_acts.specs.Acting.{Closing, Bare, Closed, Fell, IsSettled, IsClosed, IsClosedBehind, left_run, told_of}
use Rattle.run_acts.specs.Acting.{SettlingDecides}

-- ---- a place

-- each image that the card may leave has this place behind those of one that it might have left before
abbrev pub HasPlace : Application → PlaceEntry → (card card_after : State) → Type 0
HasPlace app entry card card_after = (c : List ℕ) → card_after.may_leave c
    → (x : List ℕ) × card.may_leave x × (PointsInside (place_ring app) x → IsPlaceNoted app entry x c)

-- or it may have it, where the call failed
abbrev pub MayHavePlace : Application → PlaceEntry → (card card_after : State) → Type 0
MayHavePlace app entry card card_after = (c : List ℕ) → card_after.may_leave c
    → (x : List ℕ) × card.may_leave x × ((c ≡ x) ⊎ IsNotingPlace app entry x c)

-- so it is of a card with a session
abbrev pub MayTakePlace : (session : Option Accepted) → PlaceEntry → (card card_after : State) → Type 0
MayTakePlace session entry card card_after = IfSome session
    (λ a. MayHavePlace a.session.application entry card card_after)

-- A PLACE IS NOTED ON A CARD that has a session, and has it still; but where the unit failed before.
abbrev pub PlaceOn : (session after : Option Accepted) → (failed : Bool) → PlaceEntry → (card card_after : State)
    → Type 0
PlaceOn None after failed entry card card_after = Unit {0}
PlaceOn (Some a) None failed entry card card_after = Unit {0}
PlaceOn (Some a) (Some still) true entry card card_after = Unit {0}
PlaceOn (Some a) (Some still) false entry card card_after = HasPlace a.session.application entry card card_after

-- ---- a withdrawal

-- THE CARD IS CLOSED with this activity, where its session was: each image that it may leave is that one closed
abbrev pub ClosesCard : Closing → (session : Option Accepted) → Activity → (card card_after : State) → Type 0
ClosesCard Bare session act card card_after = Unit {0}
ClosesCard Fell session act card card_after = Unit {0}
ClosesCard Closed None act card card_after = ⊥
ClosesCard Closed (Some a) act card card_after =
    (c : List ℕ) → card_after.may_leave c
    → (x : List ℕ) × (card.image ≡ Some x) × (IsSession a.session x → IsCardClosed a.session act x c)

-- so it is closed, with what is selected for the next second
pub record ShutsSo (card : Card) (slot : Slot) (at : Moment) (old new : Run) (breaks after : Listed Break)
    (state state_after : State) : Type 0 where
  pub closing : Closing
  pub closed : IsClosed card slot at old new breaks after closing
  pub act : Activity
  pub selected : (span : Span) → CountsSpan old.minutes span → act ≡ activity_next slot span
  pub closes : ClosesCard closing (session_of old.keeper.cabin.cards card) act state state_after

-- each image that a card may leave is one that its session knew, closed
abbrev pub IsShut : Option Accepted → Activity → (card_after : State) → Type 0
IsShut None act card_after = ⊥
IsShut (Some a) act card_after = (c : List ℕ) → card_after.may_leave c
    → (x : List ℕ) × IsSession a.session x × IsCardClosed a.session act x c

-- behind these minutes, over devices that tell, so is each image of a card that was valid
abbrev pub ShutsThen : Card → List Minute → KeepingState → (session : Option Accepted) → Activity → (d e : Devices)
    → Type 0
ShutsThen card decided t session act d e = (f : Found) (w : RunLedger) (start : ℕ) (g : Travel)
    → MayBookAll f w decided t d → HasTravelled start w.book g d.unit
    → t.keeper.odometer ≡ odometer_after start g.before → HaveTime e → IsOwnValid (found_of f card).image
    → IsShut session act (card_of e card)

-- A WITHDRAWN CARD: its slot is left, the minutes before are kept, and then the session that it has still is closed,
-- with what is selected for the next second; or the card fell in that, and broke down
pub record ShutsBehind (card : Card) (slot : Slot) (at : Moment) (old new : Run) (before after : Outcome)
    (d e : Devices) : Type 0 where
  pub behind : IsClosedBehind card slot at old new before after
  pub decided : List Minute
  pub given : SettlingDecides old.minutes decided
  pub act : Activity
  pub selected : (span : Span) → CountsSpan behind.between.minutes span → act ≡ activity_next slot span
  pub shut : behind.closing ≡ Closed → ShutsThen card decided (told_of (left_run slot at.second old) before)
      (session_of behind.between.keeper.cabin.cards card) act d e
  pub fell : behind.closing ≡ Fell → HasBroken (card_of d card) (card_of e card) 1

-- or the unit failed in these minutes
abbrev pub WithdrawsShut : Card → Slot → Moment → (failed : Bool) → (old new : Run) → (before after : Outcome)
    → (d e : Devices) → Type 0
WithdrawsShut card slot at failed old new before after d e =
    ((failed ≡ true) × IsSettled at true (left_run slot at.second old) new before after)
    ⊎ ShutsBehind card slot at old new before after d e
