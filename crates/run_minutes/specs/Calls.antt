-- What a minute that is brought to a card leaves, and a card that is torn out, each in a record (profile).
use Rattle.std.specs.Prelude.{ℕ, ◌+◌, ◌/◌, ◌<◌, ◌^◌, ◌∷◌, ◌≡◌, ◌≢◌, ◌≤◌, IfSome, OnOk, Option, Result, [], is_err}
use Rattle.std.specs.Prelude.{is_some, length, OnErr}
use Rattle.activity_codec.specs.declared.values.Slot.{Slot}
use Rattle.tach_media.specs.card_layout.declared.command.CardState.{CardState}
use Rattle.card_session.specs.declared.session.Kept.{Kept}
use Rattle.card_session.specs.declared.words.TheConstants.{LATEST_MINUTE}
use Rattle.unit_notes.specs.event_model.declared.kinds.TheConstants.{CARD_FAULT}
use Rattle.log_model.specs.declared.lines.Break.{Break}
use Rattle.log_model.specs.declared.lines.Mark.{Mark}
use Rattle.run_crew.specs.Cabin.{CanKeepNext, crew_of, torn_out, AreTwo}
use Rattle.run_crew.specs.Cards.{known_of}
use Rattle.run_outcome.specs.Lines.{Listed}
use Rattle.tach_media.specs.Medium.{HasBroken, HasCause, LeavesOnly, State}
use Rattle.tach_media.specs.declared.fault.Failed.{Failed}
use Rattle.trace_model.specs.declared.Card.{Card}
use Rattle.unit_notes.specs.Journal.{LeavesJournal}
use Rattle.unit_notes.specs.Noting.{IsEventNoted, IsNotingEvent}
use Rattle.run_minutes.specs.Keeping.{CardMayBeCalled, HasItsRow, HasLeftMore, UnitMayBeCalled, fault_of, session_at}
use Rattle.run_minutes.specs.Keeping.{tear_of, tears_of, with_lines}
use Rattle.run_minutes.specs.Later.{IsLater}
use Rattle.run_minutes.specs.declared.keeper.Keeper.{Keeper}
use Rattle.run_minutes.specs.declared.keeper.Moment.{Moment}
use Rattle.unit_minutes.specs.declared.kept.KeptMinute.{KeptMinute}
use Rattle.card_slots.specs.declared.seats.Present.{Present}
use Rattle.unit_model.specs.declared.layout.TheConstants.{HIGHEST_ODOMETER}
use Rattle.run_minutes.specs.Minutes.{unit_mark}

-- HOW UNIT AND CARD STAND behind it: the unit may be called where it did not fail, with the rows of the cards, and the
-- card may be called; the unit failed exactly where that was answered
pub record StandsBrought (which : Card) (result : Result (Unit {0}) Failed) (old new : Keeper) (U V x y : State)
    (chip : CardState) : Type 0 where
  pub cause : HasCause U V (is_err result)
  pub ready : OnOk result (UnitMayBeCalled new V)
  pub rows : (card : Card) → HasItsRow old.cabin.cards U card → OnOk result (HasItsRow new.cabin.cards V card)
  pub card : CardMayBeCalled (known_of new.cabin.cards which) chip y
  pub size : y.size ≡ x.size

-- THE CARD GOES ON: what it might have left it might still, and it tells as much as before; it broke down so often as
-- it fell
pub record CardKeeps (falls : ℕ) (x y : State) : Type 0 where
  pub keeps : HasLeftMore x y
  pub tells : is_some y.image ≡ is_some x.image
  pub broken : HasBroken x y falls
  pub later : IsLater x y

-- A CARD IS TORN OUT OF ITS SLOT: it is not known any more, and a line more tells so
pub record IsTorn (card : Card) (slot : Slot) (at : Moment) (old new : Keeper) (before after : Listed Break) : Type
    0 where
  pub keeper : new ≡ record old { cabin = torn_out card at.second old.cabin }
  pub told : after ≡ with_lines (tear_of slot at ∷ []) before

-- THE UNIT may be called behind that where it did not fail, with the rows of the cards; it failed exactly where that
-- was answered
pub record UnitStandsTorn (result : Result (Unit {0}) Failed) (old new : Keeper) (U V : State) : Type 0 where
  pub ready : OnOk result (UnitMayBeCalled new V)
  pub rows : (card : Card) → HasItsRow old.cabin.cards U card → OnOk result (HasItsRow new.cabin.cards V card)
  pub cause : HasCause U V (is_err result)

-- AND IT NOTES THE FAULT of the card; what a write that is torn may leave is that, and a journal still
pub record NotesTear (result : Result (Unit {0}) Failed) (at : Moment) (new : Keeper) (U V : State) : Type 0 where
  pub noted : OnOk result (IfSome U.image
      (λ x. IfSome V.image (IsEventNoted CARD_FAULT (fault_of at.second (crew_of new.cabin)) x)))
  pub moments : LeavesOnly U V (IsNotingEvent CARD_FAULT (fault_of at.second (crew_of new.cabin)))
  pub journal : LeavesOnly U V LeavesJournal

-- BEFORE A MINUTE IS BROUGHT TO THE CARD THAT WAS PRESENT: it is later than what the card has, and within the bounds of
-- the formats, the call comes no earlier than the slots' minute, and there is room for its mark and for a tear
pub record MayBring (present : Option Card) (kept : Kept) (at : Moment) (k : Keeper) (marks : Listed Mark)
    (breaks : Listed Break) : Type 0 where
  pub behind : CanKeepNext k.cabin.cards kept.entry.minute present
  pub first : 1440 ≤ kept.entry.minute
  pub last : kept.entry.minute ≤ LATEST_MINUTE
  pub fits : kept.odometer.0 < 2 ^ 24
  pub minute : k.cabin.slots.minute ≤ at.second / 60
  pub second : at.second ≢ 0
  pub mark_room : length marks.items < marks.room
  pub break_room : length breaks.items + tears_of (session_at k.cabin.cards present) ≤ breaks.room

-- A MINUTE MAY BE ACKNOWLEDGED: it is later than the last-kept one, it and its odometer are within their bounds, there
-- is room for its mark, and no card was present in both slots
pub record MayAcknowledge (minute : KeptMinute) (present : Present) (k : Keeper) (marks : Listed Mark) : Type 0 where
  pub low : 1440 ≤ minute.minute
  pub later : k.journal.kept < minute.minute
  pub small : minute.minute ≤ LATEST_MINUTE
  pub odometer : minute.odometer.0 ≤ HIGHEST_ODOMETER
  pub room : length marks.items < marks.room
  pub apart : AreTwo present.driver present.codriver

-- IT IS ACKNOWLEDGED: of the keeper nothing but its journal changes; where the unit did not fail that has the minute
-- and its odometer, and a mark more tells so; where it failed journal and marks are as they were
pub record Acknowledges (minute : KeptMinute) (result : Result (Unit {0}) Failed) (k v : Keeper)
    (marks after : Listed Mark) (clock : ℕ) : Type 0 where
  pub keeper : v ≡ record k { journal = v.journal }
  pub notes : OnOk result ((v.journal.kept ≡ minute.minute) × (v.journal.odometer ≡ minute.odometer.0))
  pub marked : OnOk result (after ≡ with_lines (unit_mark minute.minute clock ∷ []) marks)
  pub same : OnErr result ((v.journal ≡ k.journal) × (after ≡ marks))

-- A CARD MAY BE TORN OUT at this moment: it is no earlier than the slots' minute, and there is room for the line
pub record MayTear (at : Moment) (k : Keeper) (breaks : Listed Break) : Type 0 where
  pub minute : k.cabin.slots.minute ≤ at.second / 60
  pub second : at.second ≢ 0
  pub room : length breaks.items < breaks.room
