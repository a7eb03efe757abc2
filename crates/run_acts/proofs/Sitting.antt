-- As minutes are kept, a card in a slot has a session exactly where it is accepted, and tells the same number.
use Rattle.std.proofs.Common.{◌≡◌, ◌∙◌, ◌⊎◌, inl, inr, ℕ, Bool, true, false, cond, Option, Some, None, is_some, refl, ap, sym}
use Rattle.activity_codec.specs.declared.values.Slot.TheVariants.{Driver, CoDriver}
use Rattle.trace_model.specs.declared.Card.{Card}
use Rattle.trace_model.specs.declared.Card.TheVariants.{A, B}
use Rattle.device_calls.specs.card_session.declared.session.Kept.{Kept}
use Rattle.log_model.specs.Slots.{same_card}
use Rattle.run_crew.specs.card_slots.declared.seats.Seat.{Seat}
use Rattle.run_crew.specs.card_slots.Calls.{is_card}
use Rattle.run_crew.specs.card_slots.Kept.{Kept as Slots}
use Rattle.run_crew.specs.declared.cards.Accepted.{Accepted}
use Rattle.run_crew.specs.declared.cards.Cards.{Cards}
use Rattle.run_crew.specs.declared.cabin.Cabin.{Cabin}
use Rattle.run_crew.specs.Cards.{known_of, session_of, with_session}
use Rattle.run_crew.specs.Cabin.{left_from}
use Rattle.run_minutes.specs.Keeping.{Fate, Still, Has, Fell, IsFateOf, cabin_by, session_at}
use Rattle.run_minutes.proofs.Sessions.{number-set}
use Rattle.run_acts.proofs.Bare.{has-one}
use Rattle.run_acts.proofs.EventCrews.{SitsWell, AllSitWell}

-- ---- a card has its minute: who has a session has one still
has-still : (c card : Card) (cards : Cards) (a : Accepted) → is_some (session_of cards card) ≡ true → is_some (session_of (with_session card (Some a) cards) c) ≡ is_some (session_of cards c)
has-still A A cards a some = sym some
has-still A B cards a some = refl
has-still B A cards a some = refl
has-still B B cards a some = sym some

seat-has : (cards : Cards) (card : Card) (a : Accepted) → is_some (session_of cards card) ≡ true → (seat : Option Seat) → SitsWell cards seat → SitsWell (with_session card (Some a) cards) seat
seat-has cards card a some None well = tt
seat-has cards card a some (Some seat) well = well ∙ sym (has-still seat.card card cards a some)

-- ---- a card is torn out: the others are as they were
other-still : (c card : Card) (cards : Cards) → same_card c card ≡ false → session_of (with_session card None cards) c ≡ session_of cards c
other-still A A cards ne = absurd (cc)
other-still A B cards ne = refl
other-still B A cards ne = refl
other-still B B cards ne = absurd (cc)

seat-stays : (cards : Cards) (card : Card) (seat : Option Seat) → is_card seat card ≡ false → SitsWell cards seat → SitsWell (with_session card None cards) seat
seat-stays cards card None ne well = tt
seat-stays cards card (Some seat) ne well = well ∙ ap (λ (q : Option Accepted). is_some q) (sym (other-still seat.card card cards ne))

torn-well : (cards : Cards) (card : Card) (second : ℕ) (slots : Slots) (d k : Bool) → is_card slots.seats.driver card ≡ d → is_card slots.seats.codriver card ≡ k → (d ≡ true → k ≡ false) → SitsWell cards slots.seats.driver → SitsWell cards slots.seats.codriver →
    AllSitWell (record { slots = left_from (cond d (Some Driver) (cond k (Some CoDriver) None)) second slots; cards = with_session card None cards })
torn-well cards card second slots true true d k apart first other = absurd (let bad : true ≡ false = apart refl in cc)
torn-well cards card second slots true false d k apart first other = record { driver = tt; codriver = seat-stays cards card slots.seats.codriver k other }
torn-well cards card second slots false true d k apart first other = record { driver = seat-stays cards card slots.seats.driver d first; codriver = tt }
torn-well cards card second slots false false d k apart first other = record { driver = seat-stays cards card slots.seats.driver d first; codriver = seat-stays cards card slots.seats.codriver k other }

-- BEHIND A FATE
pub fate-well : (fate : Fate) (present : Option Card) (kept : Kept) (second : ℕ) (cabin : Cabin) → (fate ≡ Still) ⊎ IsFateOf (session_at cabin.cards present) kept fate → ((c : Card) → is_card cabin.slots.seats.driver c ≡ true → is_card cabin.slots.seats.codriver c ≡ false) →
    AllSitWell cabin → AllSitWell (cabin_by fate present second cabin)
fate-well Still None kept second cabin is apart h = h
fate-well (Has a clock) None kept second cabin is apart h = h
fate-well Fell None kept second cabin is apart h = h
fate-well Still (Some card) kept second cabin is apart h = h
fate-well (Has a clock) (Some card) kept second cabin (inl is) apart h = absurd (cc)
fate-well (Has a clock) (Some card) kept second cabin (inr is) apart h =
    let some = has-one (session_of cabin.cards card) kept a clock is in
    record { driver = seat-has cabin.cards card a some cabin.slots.seats.driver h.driver; codriver = seat-has cabin.cards card a some cabin.slots.seats.codriver h.codriver }
fate-well Fell (Some card) kept second cabin is apart h =
    torn-well cabin.cards card second cabin.slots (is_card cabin.slots.seats.driver card) (is_card cabin.slots.seats.codriver card) refl refl (apart card) h.driver h.codriver

-- each card tells the number that it told
abbrev pub SameNumbers : (old new : Cards) → Type 0
SameNumbers old new = (c : Card) → (known_of new c).number ≡ (known_of old c).number

pub fate-numbers : (fate : Fate) (present : Option Card) (second : ℕ) (cabin : Cabin) → SameNumbers cabin.cards (cabin_by fate present second cabin).cards
fate-numbers Still None second cabin c = refl
fate-numbers (Has a clock) None second cabin c = refl
fate-numbers Fell None second cabin c = refl
fate-numbers Still (Some card) second cabin c = refl
fate-numbers (Has a clock) (Some card) second cabin c = number-set card c (Some a) cabin.cards
fate-numbers Fell (Some card) second cabin c = number-set card c None cabin.cards
