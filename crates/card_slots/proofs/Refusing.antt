-- Slots with the same cards, accepted alike, refuse the same actions.
use Rattle.std.proofs.Common.{◌≡◌, ◌∙◌, ℕ, Bool, cond, Option, Some, None, refl, ap, sym, is_some}
use Rattle.std.specs.Prelude.{nat_lt, not}
use Rattle.activity_codec.specs.declared.values.Slot.{Slot}
use Rattle.activity_codec.specs.declared.values.Slot.TheVariants.{Driver, CoDriver}
use Rattle.trace_model.specs.declared.Card.{Card}
use Rattle.trace_model.specs.declared.Action.{Action}
use Rattle.trace_model.specs.declared.Action.TheVariants.{Select, Insert, Withdraw, Tear, Place, Manual}
use Rattle.log_model.specs.declared.lines.SlotFault.TheVariants.{Moving, Empty, Occupied, NoCard, Elsewhere}
use Rattle.log_model.specs.Slots.{Sitting, same_card, in_slot, other_slot, holds, is_accepted, refusal}
use Rattle.log_model.specs.Slots as log
use Rattle.card_slots.specs.declared.seats.Seat.{Seat}
use Rattle.card_slots.specs.Calls.{Seats, SitsAlike, Agrees, sitting_of, logged}

-- what a refusal looks at of a slot
record Alike (one other : Option Sitting) : Type 0 where
  there : is_some one ≡ is_some other
  card : (c : Card) → holds one c ≡ holds other c
  accepted : is_accepted one ≡ is_accepted other

alike : (seat : Option Seat) (sitting : Option Sitting) → SitsAlike seat sitting → Alike sitting (sitting_of seat)
alike None None same = record { there = refl; card = λ c. refl; accepted = refl }
alike None (Some x) same = absurd same
alike (Some s) None same = absurd same
alike (Some s) (Some x) same = record {
  there = refl;
  card = λ c. ap (λ (k : Card). same_card k c) (sym same.0);
  accepted = sym same.1;
}

alike-in : (seats : Seats) (slots : log.Slots) → Agrees seats slots → (slot : Slot) → Alike (in_slot slots slot) (in_slot (logged seats) slot)
alike-in seats slots same Driver = alike seats.driver slots.driver same.driver
alike-in seats slots same CoDriver = alike seats.codriver slots.codriver same.codriver

pub refuse-alike : (seats : Seats) (slots : log.Slots) (speed : ℕ) (action : Action) → Agrees seats slots → refusal slots speed action ≡ refusal (logged seats) speed action
refuse-alike seats slots speed (Select slot pick) same = refl
refuse-alike seats slots speed (Insert slot card) same =
    ap (λ (b : Bool). cond b (Some (Occupied slot)) (cond (holds (in_slot slots (other_slot slot)) card) (Some (Elsewhere card)) None)) (alike-in seats slots same slot).there
    ∙ ap (λ (b : Bool). cond (is_some (in_slot (logged seats) slot)) (Some (Occupied slot)) (cond b (Some (Elsewhere card)) None)) ((alike-in seats slots same (other_slot slot)).card card)
refuse-alike seats slots speed (Withdraw slot) same =
    ap (λ (b : Bool). cond (not b) (Some (Empty slot)) (cond (nat_lt 0 speed) (Some (Moving speed)) None)) (alike-in seats slots same slot).there
refuse-alike seats slots speed (Tear slot) same =
    ap (λ (b : Bool). cond b None (Some (Empty slot))) (alike-in seats slots same slot).there
refuse-alike seats slots speed (Place slot ending country region) same =
    ap (λ (b : Bool). cond b None (Some (NoCard slot))) (alike-in seats slots same slot).accepted
refuse-alike seats slots speed (Manual slot pick minute) same =
    ap (λ (b : Bool). cond (not b) (Some (NoCard slot)) (cond (nat_lt 0 speed) (Some (Moving speed)) None)) (alike-in seats slots same slot).accepted
