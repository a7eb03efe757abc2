-- What the calls on a card that enters leave, each in a record (profile).
use Rattle.std.specs.Prelude.{ℕ, ◌+◌, ◌/◌, ◌<◌, ◌^◌, ◌≡◌, ◌≢◌, ◌≤◌, IfSome, List, None, Ok, OnOk, Result, Some}
use Rattle.std.specs.Prelude.{false, is_err}
use Rattle.std.specs.Prelude.{length, true}
use Rattle.card_commands.specs.Ports.{IsPort}
use Rattle.card_layout.specs.declared.command.CardState.{CardState}
use Rattle.card_layout.specs.declared.files.Application.{Application}
use Rattle.card_session.specs.declared.words.TheConstants.{LATEST_MINUTE}
use Rattle.run_crew.specs.card_slots.Calls.{is_card, seat_in}
use Rattle.device_calls.specs.declared.entering.Entered.{Entered}
use Rattle.log_model.specs.Slots.{other_slot}
use Rattle.log_model.specs.declared.lines.Break.{Break}
use Rattle.run_crew.specs.Cabin.{CabinIsSound}
use Rattle.run_crew.specs.Cards.{known_of, session_of}
use Rattle.run_crew.specs.declared.cards.Known.{Known}
use Rattle.run_minutes.specs.Keeping.{CardMayBeCalled, HasItsRow, UnitMayBeCalled}
use Rattle.run_minutes.specs.Later.{IsCalm, IsLater}
use Rattle.run_minutes.specs.declared.keeper.Keeper.{Keeper}
use Rattle.run_outcome.specs.declared.outcome.Outcome.{Outcome}
use Rattle.tach_media.specs.Medium.{HasCause, LeavesOnly, State}
use Rattle.tach_media.specs.declared.fault.Failed.{Failed}
use Rattle.trace_model.specs.declared.Card.{Card}
use Rattle.unit_notes.specs.Journal.{LeavesJournal}
use Rattle.unit_notes.specs.Noting.{IsEventNoted, IsNotingEvent}
use Rattle.run_insertion.specs.Entered.{FitsInsertion}
use Rattle.run_insertion.specs.Entering.{most_owed}
use Rattle.run_insertion.specs.declared.lines.Entering.{Entering}
use Rattle.card_validity.specs.card_image.Own.{own_sizes}
use Rattle.card_validity.specs.Judged.{TellsSizes}

-- HOW IT STANDS BEHIND A CALL ON THE CARD THAT ENTERS: the unit may be called where it did not fail, with the rows of
-- the cards, the slots are sound, and the card may be called; the unit failed exactly where that was answered
pub record StandsEntered (which : Card) (low : ℕ) (result : Result (Unit {0}) Failed) (old new : Keeper)
    (U V x y : State)
    (chip : CardState) : Type 0 where
  pub ready : OnOk result (UnitMayBeCalled new V)
  pub rows : (card : Card) → HasItsRow old.cabin.cards U card → OnOk result (HasItsRow new.cabin.cards V card)
  pub stands : (from : ℕ) → low ≤ from → CabinIsSound from None old.cabin
      → CabinIsSound from None new.cabin
  pub cause : HasCause U V (is_err result)
  pub card : CardMayBeCalled (known_of new.cabin.cards which) chip y
  pub size : y.size ≡ x.size

-- THE CARD GOES ON: its clock and its counts do not fall, and it does not break down without the line of a tear
pub record EnteringGoes (before after : List Break) (x y : State) : Type 0 where
  pub later : IsLater x y
  pub calm : IsCalm before after x y

-- WHAT WAS JUDGED is within the bounds of the formats
pub record IsWithinBounds (entered : Entered) : Type 0 where
  pub most : length entered.owed.items ≤ most_owed
  pub low : entered.look.session < 2 ^ 32
  pub sized : FitsInsertion entered.look

-- A CARD MAY COME IN: it sits in this slot, newly and in no other, and has no session; the moment is no earlier than
-- the slots' minute, the odometer is within its bounds, and there is room for a tear and for a find
pub record MayComeIn (entering : Entering) (k : Keeper) (o : Outcome) : Type 0 where
  pub seat : seat_in k.cabin.slots.seats entering.slot ≡ Some (record { card = entering.which; newest = None })
  pub elsewhere : is_card (seat_in k.cabin.slots.seats (other_slot entering.slot)) entering.which ≡ false
  pub minute : k.cabin.slots.minute ≤ entering.at.second / 60
  pub second : entering.at.second ≢ 0
  pub fits : entering.odometer.0 < 2 ^ 24
  pub bare : session_of k.cabin.cards entering.which ≡ None
  pub break_room : length o.breaks.items < o.breaks.room
  pub find_room : length o.finds.items < o.finds.room

-- IT MAY BE JUDGED then: the minute is later than the last-kept one, and not the last of the formats
pub record MayBeJudged (entering : Entering) (k : Keeper) (o : Outcome) : Type 0 where
  pub come : MayComeIn entering k o
  pub late : k.journal.kept < entering.at.second / 60
  pub last : entering.at.second / 60 < LATEST_MINUTE

-- THE CARD GOES BY THESE SIZES: they are what is known of it, a port may be made over it by them, and it works
pub record CardGoesBy (app : Application) (known : Known) (chip : CardState) (x : State) : Type 0 where
  pub sizes : known.sizes ≡ Ok app
  pub port : IsPort app None chip x
  pub works : x.works ≡ true

-- HOW IT STANDS BEHIND A CARD THAT WAS SEATED: the unit may be called where it did not fail, with the rows of the cards
-- and that of this card, and the slots are sound; it failed exactly where that was answered
pub record StandsSeated (entering : Entering) (result : Result (Unit {0}) Failed) (old new : Keeper)
    (U V : State) : Type 0 where
  pub ready : OnOk result (UnitMayBeCalled new V)
  pub rows : (card : Card) → HasItsRow old.cabin.cards U card → OnOk result (HasItsRow new.cabin.cards V card)
  pub row : OnOk result (HasItsRow new.cabin.cards V entering.which)
  pub stands : (from : ℕ) → old.cabin.slots.minute ≤ from → entering.at.second / 60 ≤ from
      → CabinIsSound from None old.cabin → CabinIsSound from None new.cabin
  pub cause : HasCause U V (is_err result)

-- AN EVENT WAS NOTED on the unit: where it did not fail it is noted, and each image that a stop may leave has it or has
-- it not
pub record NotesEvent (kind : ℕ) (entry : List ℕ) (result : Result (Unit {0}) Failed) (U V : State) : Type 0 where
  pub noted : OnOk result (IfSome U.image (λ x. IfSome V.image (IsEventNoted kind entry x)))
  pub moments : LeavesOnly U V (IsNotingEvent kind entry)

-- THE UNIT STANDS BEHIND A NOTE: each image that a stop may leave has the journal as it was; where the unit did not
-- fail it may be called, with the rows of the cards; it failed exactly where that was answered; and four writes it
-- takes at most
pub record StandsNoted (result : Result (Unit {0}) Failed) (keeper : Keeper) (U V : State) : Type 0 where
  pub journal : LeavesOnly U V LeavesJournal
  pub ready : OnOk result (UnitMayBeCalled keeper V)
  pub rows : (card : Card) → HasItsRow keeper.cabin.cards U card → OnOk result (HasItsRow keeper.cabin.cards V card)
  pub cause : HasCause U V (is_err result)
  pub most : V.clock ≤ U.clock + 4

-- WHAT WAS FOUND MAY BE TOLD AND NOTED at this moment, which is not second 0: there is room for it
pub record MayTellFind (entering : Entering) (o : Outcome) : Type 0 where
  pub second : entering.at.second ≢ 0
  pub room : length o.finds.items < o.finds.room

-- A CARD MAY BE SEATED: it sits in this slot, newly and in no other, and is known by the sizes of its session; it is
-- not second 0, and the odometer is within its bounds
pub record MaySeat (entering : Entering) (app : Application) (k : Keeper) : Type 0 where
  pub seat : seat_in k.cabin.slots.seats entering.slot ≡ Some (record { card = entering.which; newest = None })
  pub elsewhere : is_card (seat_in k.cabin.slots.seats (other_slot entering.slot)) entering.which ≡ false
  pub sizes : (known_of k.cabin.cards entering.which).sizes ≡ Ok app
  pub second : entering.at.second ≢ 0
  pub fits : entering.odometer.0 < 2 ^ 24

-- AN ACCEPTED CARD MAY BE NOTED ON: it may be called, works, and is known by these sizes
pub record CardMayBeNotedOn (app : Application) (known : Known) (chip : CardState) (x : State) : Type 0 where
  pub card : CardMayBeCalled known chip x
  pub works : x.works ≡ true
  pub sizes : known.sizes ≡ Ok app

-- A CARD GOES BY ITS OWN SIZES: it goes by these, and tells them
pub record CardTellsSizes (app : Application) (known : Known) (chip : CardState) (x : State) : Type 0 where
  pub goes : CardGoesBy app known chip x
  pub told : IfSome x.image (TellsSizes app)
  pub sized : IfSome x.image (λ i. own_sizes i ≡ app)

-- HOW IT STANDS BEHIND A CARD THAT WAS JUDGED: as behind any call on it, and where it has a session now its row is in
-- the unit
pub record StandsJudged (which : Card) (low : ℕ) (result : Result (Unit {0}) Failed) (old new : Keeper)
    (U V x y : State) (chip : CardState) : Type 0 where
  pub entered : StandsEntered which low result old new U V x y chip
  pub row : IfSome (session_of new.cabin.cards which) (λ a. OnOk result (HasItsRow new.cabin.cards V which))

-- THE CARD GOES ON so, and so many writes at most are begun on the unit, and on it
pub record EnteringGoesWithin (on_unit on_card : ℕ) (before after : List Break) (U V x y : State) : Type 0 where
  pub card : EnteringGoes before after x y
  pub most : (V.clock ≤ U.clock + on_unit) × (y.clock ≤ x.clock + on_card)
