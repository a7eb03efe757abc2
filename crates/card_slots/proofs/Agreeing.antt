-- Slots that agree with those of a run log agree after each move of a card.
use Rattle.std.proofs.Common.{ℕ, Option, Some, None, refl}
use Rattle.std.specs.Prelude.{option_map}
use Rattle.activity_codec.specs.declared.values.Slot.{Slot}
use Rattle.activity_codec.specs.declared.values.Slot.TheVariants.{Driver, CoDriver}
use Rattle.trace_model.specs.declared.Card.{Card}
use Rattle.log_model.specs.Slots.{Sitting}
use Rattle.log_model.specs.Slots as log
use Rattle.log_model.specs.Course.{with_slot}
use Rattle.log_model.specs.Course as course
use Rattle.card_slots.specs.declared.seats.Seat.{Seat}
use Rattle.card_slots.specs.Calls.{Seats, with_seat, powerless, SitsAlike, Agrees}

-- one slot changes on both sides
changed : (seats : Seats) (slots : log.Slots) (slot : Slot) (seat : Option Seat) (sitting : Option Sitting) → SitsAlike seat sitting → Agrees seats slots →
    Agrees (with_seat seats slot seat) (with_slot slots slot sitting)
changed seats slots Driver seat sitting alike h = record { driver = alike; codriver = h.codriver }
changed seats slots CoDriver seat sitting alike h = record { driver = h.driver; codriver = alike }

pub put-agrees : (seats : Seats) (slots : log.Slots) (slot : Slot) (card : Card) (newest : Option ℕ) (second : ℕ) → Agrees seats slots →
    Agrees (with_seat seats slot (Some (record { card = card; newest = newest })))
    (with_slot slots slot (Some (record { card = card; accepted = option_map {T = ℕ} {U = ℕ} (λ n. second) newest })))
put-agrees seats slots slot card None second h = changed seats slots slot (Some (record { card = card; newest = None })) (Some (record { card = card; accepted = None })) (refl, refl) h
put-agrees seats slots slot card (Some n) second h = changed seats slots slot (Some (record { card = card; newest = Some n })) (Some (record { card = card; accepted = Some second })) (refl, refl) h

pub take-agrees : (seats : Seats) (slots : log.Slots) (slot : Slot) → Agrees seats slots → Agrees (with_seat seats slot None) (with_slot slots slot None)
take-agrees seats slots slot h = changed seats slots slot None None tt h

dark : (seat : Option Seat) (sitting : Option Sitting) → SitsAlike seat sitting → SitsAlike (powerless seat) (course.powerless sitting)
dark None None h = tt
dark None (Some x) h = absurd h
dark (Some s) None h = absurd h
dark (Some s) (Some x) h = (h.0, refl)

pub cut-agrees : (seats : Seats) (slots : log.Slots) → Agrees seats slots →
    Agrees (record { driver = powerless seats.driver; codriver = powerless seats.codriver }) (record { driver = course.powerless slots.driver; codriver = course.powerless slots.codriver })
cut-agrees seats slots h = record { driver = dark seats.driver slots.driver h.driver; codriver = dark seats.codriver slots.codriver h.codriver }
