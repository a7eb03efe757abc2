-- A keeper, its lines and its devices at one moment, in one term, and what holds behind any call on them (profile).
use Rattle.std.specs.Prelude.{◌≡◌, ◌+◌, ◌-◌, ◌/◌, ◌≤◌, Bool, false, Option, None, [], length, is_some, ℕ}
use Rattle.trace_model.specs.declared.Card.{Card}
use Rattle.trace_model.specs.declared.Card.TheVariants.{A, B}
use Rattle.tach_media.specs.Medium.{State, HasCause, HasBroken}
use Rattle.tach_media.specs.card_layout.declared.command.CardState.{CardState}
use Rattle.unit_model.specs.Image.{IsUnit}
use Rattle.log_model.specs.declared.lines.Break.{Break}
use Rattle.log_model.specs.declared.lines.Mark.{Mark}
use Rattle.run_devices.specs.safety_model.Safe.{Devices}
use Rattle.run_crew.specs.declared.cards.Accepted.{Accepted}
use Rattle.run_crew.specs.declared.cards.Cards.{Cards}
use Rattle.run_outcome.specs.Lines.{Listed}
use Rattle.run_events.specs.run_speeds.Speeds.{LeavesSpeeds}
use Rattle.run_minutes.specs.declared.keeper.Keeper.{Keeper}
use Rattle.run_minutes.specs.declared.keeper.Moment.{Moment}
use Rattle.run_minutes.specs.Keeping.{UnitMayBeCalled, DevicesMayBeCalled, CardMayBeCalled, HasItsRow, HasLeftMore}
use Rattle.run_minutes.specs.Keeping.{AreEmptied, SessionsGoOn, tears_of, most_tears}
use Rattle.run_minutes.specs.Minutes.{KeepingState}
use Rattle.run_minutes.specs.Faults.{NotesFaults}
use Rattle.run_minutes.specs.Later.{AreAfter, AreCalm, RestBy}
use Rattle.run_minutes.specs.Writes.{WroteAtMost}

-- HOW A KEEPER STANDS, with its lines and its devices, and by which state each card answers
pub record Stand : Type 1 where
  pub keeper : Keeper
  pub marks : Listed Mark
  pub breaks : Listed Break
  pub devices : Devices
  pub chip_a : CardState
  pub chip_b : CardState

-- how a keeper stands with these lines, these states of its devices, and these by which the cards answer
abbrev pub standing : Keeper → Listed Mark → Listed Break → (unit card_a card_b : State) → (chip_a chip_b : CardState)
    → Stand
standing keeper marks breaks unit card_a card_b chip_a chip_b = record {
  keeper = keeper;
  marks = marks;
  breaks = breaks;
  devices = record { unit = unit; card_a = card_a; card_b = card_b };
  chip_a = chip_a;
  chip_b = chip_b;
}

-- its keeper, marks and breaks
abbrev pub told : Stand → KeepingState
told s = record { keeper = s.keeper; marks = s.marks; breaks = s.breaks }

-- what is known of its cards
abbrev pub cards_of : Stand → Cards
cards_of s = s.keeper.cabin.cards

-- BETWEEN TWO CALLS, with power
abbrev pub IsReadyFor : Stand → Type 0
IsReadyFor s = DevicesMayBeCalled s.keeper s.devices.unit s.chip_a s.chip_b s.devices.card_a s.devices.card_b

-- BEHIND A CALL, as it answered: the unit is a unit still, each card may be called, and the unit failed exactly where
-- that was answered; else all is ready again, and each card that had its row has it
pub record StandsAfter (at : Moment) (failed : Bool) (s t : Stand) : Type 0 where
  pub unit : IsUnit t.devices.unit
  pub card_a : CardMayBeCalled (cards_of t).a t.chip_a t.devices.card_a
  pub card_b : CardMayBeCalled (cards_of t).b t.chip_b t.devices.card_b
  pub minute : t.keeper.cabin.slots.minute ≤ at.second / 60
  pub cause : HasCause s.devices.unit t.devices.unit failed
  pub ready : failed ≡ false → IsReadyFor t
  pub rows : failed ≡ false → (card : Card) → HasItsRow (cards_of s) s.devices.unit card
      → HasItsRow (cards_of t) t.devices.unit card

-- A CARD GOES ON over calls, of which so many tore it out at least
pub record CardGoes (before after : Option Accepted) (old new : State) : Type 0 where
  pub size : new.size ≡ old.size
  pub tells : is_some new.image ≡ is_some old.image
  pub keeps : HasLeftMore old new
  pub broken : HasBroken old new (tears_of before - tears_of after)

-- ALL GOES ON over any calls, whatever they answered: no clock and no count of a device falls, none breaks down but in
-- a call that failed, and no card without the line of a tear; the lines keep their room, and breaks are only added
pub record Goes (s t : Stand) : Type 0 where
  pub later : AreAfter s.devices t.devices
  pub calm : AreCalm s.breaks.items t.breaks.items s.devices t.devices
  pub mark_room : t.marks.room ≡ s.marks.room
  pub break_room : t.breaks.room ≡ s.breaks.room
  pub more : length s.breaks.items ≤ length t.breaks.items

-- AND SO IT DOES OVER KEEPINGS: what the keeper was told stays, slots only empty, sessions only end, a tear more is a
-- session less, and no device forgets
pub record KeepingGoes (s t : Stand) : Type 0 where
  pub all : Goes s t
  pub memory : t.keeper.memory ≡ s.keeper.memory
  pub odometer : t.keeper.odometer ≡ s.keeper.odometer
  pub past : t.keeper.cabin.slots.past ≡ s.keeper.cabin.slots.past
  pub seats : AreEmptied s.keeper.cabin.slots.seats t.keeper.cabin.slots.seats
  pub sessions : SessionsGoOn (cards_of s) (cards_of t)
  pub tears : length t.breaks.items + most_tears (cards_of t) ≤ length s.breaks.items + most_tears (cards_of s)
  pub unit_keeps : HasLeftMore s.devices.unit t.devices.unit
  pub unit_tells : is_some t.devices.unit.image ≡ is_some s.devices.unit.image
  pub card_a : CardGoes (cards_of s).a.accepted (cards_of t).a.accepted s.devices.card_a t.devices.card_a
  pub card_b : CardGoes (cards_of s).b.accepted (cards_of t).b.accepted s.devices.card_b t.devices.card_b
  pub rests : RestBy (cards_of s) (cards_of t) s.devices t.devices

-- ---- a call on the unit alone

-- THE UNIT GOES ON over a call that notes no event: it forgets nothing, its detailed speed stays, and it failed exactly
-- where that was answered
pub record UnitGoes (failed : Bool) (old new : State) : Type 0 where
  pub clock : old.clock ≤ new.clock
  pub keeps : HasLeftMore old new
  pub tells : is_some new.image ≡ is_some old.image
  pub speeds : LeavesSpeeds old new
  pub quiet : NotesFaults failed [] old new
  pub cause : HasCause old new failed

-- BEHIND IT, as it answered: it is a unit still; where it did not fail it is ready again, and each card that had its
-- row has it
pub record UnitStands (failed : Bool) (k v : Keeper) (old new : State) : Type 0 where
  pub unit : IsUnit new
  pub ready : failed ≡ false → UnitMayBeCalled v new
  pub rows : failed ≡ false → (card : Card) → HasItsRow k.cabin.cards old card → HasItsRow v.cabin.cards new card

-- ---- cards that are not called: they are the same values, and not only the same states

-- A CARD WITHOUT A SESSION IS NOT CALLED
pub record AreBare {C D : Type 0} (cards : Cards) (a a_new : C) (b b_new : D) : Type 0 where
  pub card_a : cards.a.accepted ≡ None → a_new ≡ a
  pub card_b : cards.b.accepted ≡ None → b_new ≡ b

-- nor is one that is out
pub record AreOut {C D : Type 0} (IsOut : Card → Type 0) (a a_new : C) (b b_new : D) : Type 0 where
  pub card_a : IsOut A → a_new ≡ a
  pub card_b : IsOut B → b_new ≡ b

-- ONLY THE CARDS OF THE MINUTE are called, and of these only those with a session
pub record CallsOnly {C D : Type 0} (IsOut : Card → Type 0) (cards : Cards) (a a_new : C) (b b_new : D) : Type 0 where
  pub bare : AreBare cards a a_new b b_new
  pub out : AreOut IsOut a a_new b b_new

-- AND SO MANY WRITES AT MOST are begun over keepings, and the detailed speed of the unit stays
pub record KeepingGoesWithin (on_unit on_card : ℕ) (s t : Stand) : Type 0 where
  pub keeping : KeepingGoes s t
  pub most : WroteAtMost on_unit on_card s.devices t.devices
  pub speeds : LeavesSpeeds s.devices.unit t.devices.unit

-- THE UNIT GOES ON so, and begins so many writes at most
pub record UnitGoesWithin (writes : ℕ) (failed : Bool) (old new : State) : Type 0 where
  pub all : UnitGoes failed old new
  pub most : new.clock ≤ old.clock + writes
