-- What the keeping of a minute is given, and what becomes of its entries on the cards, by value (profile).
use Rattle.std.specs.Prelude.{◌≡◌, ◌⊎◌, ℕ, ◌+◌, ◌<◌, ◌≤◌, Bool, true, false, Option, Some, None, Ok, IfSome, List, []}
use Rattle.std.specs.Prelude.{◌∷◌, ◌++◌, is_some}
use Rattle.activity_codec.specs.declared.entries.Entry.{Entry}
use Rattle.activity_codec.specs.declared.values.Activity.{Activity}
use Rattle.activity_codec.specs.declared.values.Slot.{Slot}
use Rattle.activity_codec.specs.declared.values.Slot.TheVariants.{Driver, CoDriver}
use Rattle.trace_model.specs.declared.Card.{Card}
use Rattle.trace_model.specs.declared.Card.TheVariants.{A, B}
use Rattle.tach_media.specs.Medium.{State, HasCause}
use Rattle.tach_media.specs.card_layout.declared.command.CardState.{CardState}
use Rattle.tach_media.specs.card_layout.declared.files.Application.{Application}
use Rattle.device_calls.specs.card_commands.Ports.{IsPort}
use Rattle.card_session.specs.declared.session.Kept.{Kept}
use Rattle.tacho_types.specs.CardNumber.{card_number_bytes}
use Rattle.tacho_types.specs.declared.card_number.FullCardNumber.{FullCardNumber}
use Rattle.unit_model.specs.Image.{IsUnit}
use Rattle.unit_minutes.specs.unit_owed.Rows.{IsRowAt}
use Rattle.unit_minutes.specs.Image.{Agrees}
use Rattle.unit_minutes.specs.declared.kept.KeptMinute.{KeptMinute}
use Rattle.unit_minutes.specs.Kept.{is_crew}
use Rattle.unit_notes.specs.event_model.declared.kinds.TheConstants.{CARD_FAULT}
use Rattle.unit_notes.specs.Entries.{fault_bytes}
use Rattle.unit_notes.specs.Noting.{IsNotingEvent, IsEventNoted}
use Rattle.hand_model.specs.Holding.{Holding, none_held, begun_by}
use Rattle.log_model.specs.declared.lines.Break.{Break}
use Rattle.log_model.specs.declared.lines.Break.TheVariants.{Tear}
use Rattle.log_model.specs.declared.lines.Mark.{Mark}
use Rattle.log_model.specs.Causes.{device_of}
use Rattle.log_model.specs.Slots.{same_card}
use Rattle.card_slots.specs.declared.seats.Present.{Present}
use Rattle.card_slots.specs.Calls.{Seats}
use Rattle.run_crew.specs.declared.cards.Accepted.{Accepted}
use Rattle.run_crew.specs.declared.cards.Cards.{Cards}
use Rattle.run_crew.specs.declared.cards.Crew.{Crew}
use Rattle.run_crew.specs.declared.cards.Known.{Known}
use Rattle.run_crew.specs.declared.cabin.Cabin.{Cabin}
use Rattle.run_crew.specs.Cards.{known_of, session_of, IsKnown}
use Rattle.run_crew.specs.Cabin.{torn_out, with_session_of, crew_of}
use Rattle.run_events.specs.Entries.{entry_of}
use Rattle.run_outcome.specs.Lines.{Listed}
use Rattle.run_minutes.specs.declared.keeper.Keeper.{Keeper}
use Rattle.run_minutes.specs.declared.keeper.Moment.{Moment}

-- what a device might have left since some time, it might have left still
abbrev pub HasLeftMore : (old new : State) → Type 0
HasLeftMore old new = (t : ℕ) (x : List ℕ) → t ≤ old.clock → old.left_since t x → new.left_since t x

-- ---- what is known before a call, whatever the devices tell

-- A card: it is known by what it told, a port may be made over it by its sizes, and it works while it has a session.
pub record CardMayBeCalled (known : Known) (chip : CardState) (card : State) : Type 0 where
  pub is_known : IsKnown known
  pub port : (app : Application) → known.sizes ≡ Ok app → IsPort app None chip card
  pub works : IfSome known.accepted (λ accepted. card.works ≡ true)

-- a card has told its number, and its row in the unit is the one that is known
pub record HasItsRow (cards : Cards) (unit : State) (card : Card) : Type 0 where
  pub number : FullCardNumber
  pub told : (known_of cards card).number ≡ Some number
  pub low : (known_of cards card).row < 8
  pub row : IfSome unit.image (IsRowAt (known_of cards card).row (card_number_bytes number))

-- so have those that were present in a minute
pub record HaveRows (cards : Cards) (unit : State) (present : Present) : Type 0 where
  pub driver : IfSome present.driver (HasItsRow cards unit)
  pub codriver : IfSome present.codriver (HasItsRow cards unit)

-- the unit works, and the journal agrees with it
pub record UnitMayBeCalled (k : Keeper) (unit : State) : Type 0 where
  pub is_unit : IsUnit unit
  pub works : unit.works ≡ true
  pub agrees : IfSome unit.image (Agrees k.journal)

-- BETWEEN TWO CALLS, while the unit has power: unit and cards may be called
pub record DevicesMayBeCalled (k : Keeper) (unit : State) (chip_a chip_b : CardState) (a b : State) : Type 0 where
  pub unit_ready : UnitMayBeCalled k unit
  pub card_a : CardMayBeCalled k.cabin.cards.a chip_a a
  pub card_b : CardMayBeCalled k.cabin.cards.b chip_b b

-- each session may be torn out once
abbrev pub tears_of : Option Accepted → ℕ
tears_of None = 0
tears_of (Some accepted) = 1

-- so many cards can be torn out: each that has a session
abbrev pub most_tears : Cards → ℕ
most_tears cards = tears_of cards.a.accepted + tears_of cards.b.accepted

-- each slot has what it had, or nothing
abbrev pub AreEmptied : (old new : Seats) → Type 0
AreEmptied old new = ((new.driver ≡ old.driver) ⊎ (new.driver ≡ None))
    × ((new.codriver ≡ old.codriver) ⊎ (new.codriver ≡ None))

-- a session goes on by the entry of its insertion, or is gone
abbrev pub GoesOnFrom : (old new : Option Accepted) → Type 0
GoesOnFrom old None = Unit {0}
GoesOnFrom None (Some new) = ⊥
GoesOnFrom (Some old) (Some new) = (new.entry ≡ old.entry) × (new.noted ≡ old.noted)

-- so it is of both cards
pub record SessionsGoOn (old new : Cards) : Type 0 where
  pub a : GoesOnFrom old.a.accepted new.a.accepted
  pub b : GoesOnFrom old.b.accepted new.b.accepted

-- ---- what a minute says

-- a minute that is kept tells of each slot whether a card was present
pub record TellsPresent (minute : KeptMinute) (present : Present) : Type 0 where
  pub driver : minute.driver.present ≡ is_some present.driver
  pub codriver : minute.codriver.present ≡ is_some present.codriver

-- the activity that a minute has in a slot
abbrev pub act_in : KeptMinute → Slot → Activity
act_in minute Driver = minute.driver.act
act_in minute CoDriver = minute.codriver.act

-- the card that was present in a slot, if one was
abbrev pub card_in : Present → Slot → Option Card
card_in present Driver = present.driver
card_in present CoDriver = present.codriver

-- what it says on the card of a slot
abbrev pub entry_in : KeptMinute → Slot → Entry
entry_in minute slot = record { minute = minute.minute; slot = slot; crew = is_crew minute; act = act_in minute slot }

-- and the odometer value at its end with it
abbrev pub kept_in : KeptMinute → Slot → Kept
kept_in minute slot = record { entry = entry_in minute slot; odometer = minute.odometer }

-- ---- lines

-- lines with some more
abbrev pub with_lines : {T : Type 0} → List T → Listed T → Listed T
with_lines more lines = record { items = lines.items ++ more; room = lines.room }

-- the line of a card that was torn out of a slot, since a call on it failed
abbrev pub tear_of : Slot → Moment → Break
tear_of slot at = Tear at.second slot true at.begun at.late

-- ---- what becomes of an entry

-- No call was made for it, since no card was present or that has no session any more; or the card has it, its session
-- goes on so, and the clock was this; or the call failed, and the card is torn out.
pub data Fate : Type 0 where
  Still : Fate
  Has : (accepted : Accepted) (clock : ℕ) → Fate
  Fell : Fate

-- the card is torn out
abbrev pub has_fallen : Fate → Bool
has_fallen Still = false
has_fallen (Has accepted clock) = false
has_fallen Fell = true

-- the slots and the sessions behind it
abbrev pub cabin_by : Fate → Option Card → (second : ℕ) → Cabin → Cabin
cabin_by fate None second cabin = cabin
cabin_by Still (Some card) second cabin = cabin
cabin_by (Has accepted clock) (Some card) second cabin = with_session_of card (Some accepted) cabin
cabin_by Fell (Some card) second cabin = torn_out card second cabin

-- the marks of it
abbrev pub marks_by : Fate → Option Card → (minute : ℕ) → List Mark
marks_by fate None minute = []
marks_by Still (Some card) minute = []
marks_by (Has accepted clock) (Some card) minute = record { device = device_of card; minute = minute; clock = clock }
    ∷ []
marks_by Fell (Some card) minute = []

-- the breaks of it
abbrev pub breaks_by : Fate → Slot → Moment → List Break
breaks_by Still slot at = []
breaks_by (Has accepted clock) slot at = []
breaks_by Fell slot at = tear_of slot at ∷ []

-- a session that kept an entry: it is the same but for that, and holds no entry by hand any more
pub record GoesOnWith (old new : Accepted) (kept : Kept) : Type 0 where
  pub application : new.session.application ≡ old.session.application
  pub registration : new.session.registration ≡ old.session.registration
  pub minute : new.session.minute ≡ kept.entry.minute
  pub odometer : new.session.odometer ≡ Some kept.odometer
  pub held : new.held ≡ begun_by kept.entry.minute old.held
  pub entry : new.entry ≡ old.entry
  pub noted : new.noted ≡ old.noted

-- so it goes with the session of the card before
abbrev pub IsFateOf : Option Accepted → Kept → Fate → Type 0
IsFateOf None kept Still = Unit {0}
IsFateOf None kept (Has accepted clock) = ⊥
IsFateOf None kept Fell = ⊥
IsFateOf (Some before) kept Still = ⊥
IsFateOf (Some before) kept (Has after clock) = GoesOnWith before after kept
IsFateOf (Some before) kept Fell = Unit {0}

-- and so with the card
abbrev pub IsOnCard : Fate → (old new : State) → Type 0
IsOnCard Still old new = Unit {0}
IsOnCard (Has accepted clock) old new = (clock ≡ new.clock) × HasCause old new false
IsOnCard Fell old new = HasCause old new true

-- the session of a card, where one was present
abbrev pub session_at : Cards → Option Card → Option Accepted
session_at cards None = None
session_at cards (Some card) = session_of cards card

-- what a session holds of entries by hand, where there is one
abbrev pub held_in : Option Accepted → Holding
held_in None = none_held 0
held_in (Some accepted) = accepted.held

-- the state of that card, by those of both
abbrev pub state_at : Option Card → (a b : State) → State
state_at None a b = a
state_at (Some A) a b = a
state_at (Some B) a b = b

-- this is the card
abbrev pub is_this : Option Card → Card → Bool
is_this None card = false
is_this (Some other) card = same_card other card

-- ---- the fault that is noted behind a tear

-- its bytes
abbrev pub fault_of : (second : ℕ) → Crew → List ℕ
fault_of second crew = fault_bytes (entry_of CARD_FAULT second second crew crew)

-- a moment of its note; where no card was torn out the unit is not written
abbrev pub IsNotingFault : Fate → (second : ℕ) → Crew → List ℕ → List ℕ → Type 0
IsNotingFault Still second crew x c = ⊥
IsNotingFault (Has accepted clock) second crew x c = ⊥
IsNotingFault Fell second crew x c = IsNotingEvent CARD_FAULT (fault_of second crew) x c

-- and at its end
abbrev pub IsFaultNoted : Fate → (second : ℕ) → Crew → List ℕ → List ℕ → Type 0
IsFaultNoted Still second crew x y = Unit {0}
IsFaultNoted (Has accepted clock) second crew x y = Unit {0}
IsFaultNoted Fell second crew x y = IsEventNoted CARD_FAULT (fault_of second crew) x y

-- ---- the calls

-- A MINUTE'S ENTRY WAS BROUGHT to the card that was present in a slot: what became of it, the sessions, the marks and
-- the breaks behind it, and the fault on the unit. Where that failed the card was torn out.
pub record IsBrought (present : Option Card) (kept : Kept) (at : Moment) (failed : Bool) (k v : Keeper)
    (marks marks_after : Listed Mark)
    (breaks breaks_after : Listed Break) (fate : Fate) (unit unit_after card card_after : State) : Type 0 where
  pub is : IsFateOf (session_at k.cabin.cards present) kept fate
  pub on_card : IsOnCard fate card card_after
  pub keeper : v ≡ record k { cabin = cabin_by fate present at.second k.cabin }
  pub marked : marks_after ≡ with_lines (marks_by fate present kept.entry.minute) marks
  pub told : breaks_after ≡ with_lines (breaks_by fate kept.entry.slot at) breaks
  pub only : failed ≡ true → has_fallen fate ≡ true
  pub noted : failed ≡ false → IfSome unit.image
      (λ x. IfSome unit_after.image (IsFaultNoted fate at.second (crew_of v.cabin) x))
