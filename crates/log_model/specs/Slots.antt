-- The two slots, and which actions they refuse (profile).
use Rattle.std.specs.Prelude.{ℕ, Bool, true, false, not, Option, Some, None, nat_lt, is_some, if◌then◌else◌}
use Rattle.activity_codec.specs.declared.values.Slot.{Slot}
use Rattle.activity_codec.specs.declared.values.Slot.TheVariants.{Driver, CoDriver}
use Rattle.trace_model.specs.declared.Card.{Card}
use Rattle.trace_model.specs.declared.Card.TheVariants.{A, B}
use Rattle.trace_model.specs.declared.Action.{Action}
use Rattle.trace_model.specs.declared.Action.TheVariants.{Select, Insert, Withdraw, Tear, Place, Manual}
use Rattle.log_model.specs.declared.lines.SlotFault.{SlotFault}
use Rattle.log_model.specs.declared.lines.SlotFault.TheVariants.{Moving, Empty, Occupied, NoCard, Elsewhere}

-- a card in a slot, with the second of its acceptance where it is accepted
pub record Sitting : Type 0 where
  pub card : Card
  pub accepted : Option ℕ

-- what is in the two slots
pub record Slots : Type 0 where
  pub driver : Option Sitting
  pub codriver : Option Sitting

-- what is in a slot
abbrev pub in_slot : Slots → Slot → Option Sitting
in_slot slots Driver = slots.driver
in_slot slots CoDriver = slots.codriver

-- the slot beside it
abbrev pub other_slot : Slot → Slot
other_slot Driver = CoDriver
other_slot CoDriver = Driver

-- the two cards are one
abbrev pub same_card : Card → Card → Bool
same_card A A = true
same_card B B = true
same_card A B = false
same_card B A = false

-- this card is in the slot
abbrev pub holds : Option Sitting → Card → Bool
holds None card = false
holds (Some sitting) card = same_card sitting.card card

-- an accepted card is in the slot
abbrev pub is_accepted : Option Sitting → Bool
is_accepted None = false
is_accepted (Some sitting) = is_some sitting.accepted

-- Why the slots and the speed refuse an action, if they do: an insertion where the slot is not free or the other one
-- has the card, a withdrawal or a tear where it is empty, a withdrawal in motion, a place or an entry by hand where no
-- accepted card is in the slot, an entry by hand in motion.
abbrev pub refusal : Slots → (speed : ℕ) → Action → Option SlotFault
refusal slots speed (Select slot pick) = None
refusal slots speed (Insert slot card) =
    if is_some (in_slot slots slot) then Some (Occupied slot)
    else (if holds (in_slot slots (other_slot slot)) card then Some (Elsewhere card) else None)
refusal slots speed (Withdraw slot) =
    if not (is_some (in_slot slots slot)) then Some (Empty slot)
    else (if nat_lt 0 speed then Some (Moving speed) else None)
refusal slots speed (Tear slot) = if is_some (in_slot slots slot) then None else Some (Empty slot)
refusal slots speed (Place slot ending country region) = if is_accepted (in_slot slots slot) then None
    else Some (NoCard slot)
refusal slots speed (Manual slot pick minute) =
    if not (is_accepted (in_slot slots slot)) then Some (NoCard slot)
    else (if nat_lt 0 speed then Some (Moving speed) else None)
