-- Slots and sessions behind a card that is torn out.
use Rattle.std.proofs.Common.{◌≡◌, ◌∙◌, ◌⊎◌, inl, inr, ℕ, ◌+◌, ◌/◌, ◌≤◌, Bool, true, false, cond, Option, Some, None, refl, ap, sym, subst, arith}
use Rattle.activity_codec.specs.declared.values.Slot.{Slot}
use Rattle.activity_codec.specs.declared.values.Slot.TheVariants.{Driver, CoDriver}
use Rattle.trace_model.specs.declared.Card.{Card}
use Rattle.trace_model.specs.declared.Card.TheVariants.{A, B}
use Rattle.log_model.specs.Slots.{same_card}
use Rattle.run_crew.specs.card_slots.declared.seats.Seat.{Seat}
use Rattle.run_crew.specs.card_slots.Calls.{Seats, seat_in, card_in, is_card, powerless}
use Rattle.run_crew.specs.card_slots.Kept.{Kept as Slots}
use Rattle.run_crew.specs.declared.cards.Accepted.{Accepted}
use Rattle.run_crew.specs.declared.cards.Cards.{Cards}
use Rattle.run_crew.specs.declared.cabin.Cabin.{Cabin}
use Rattle.run_crew.specs.Cards.{session_of, with_session}
use Rattle.run_crew.specs.Cabin.{CabinIsSound, AnswersTo, SeatAnswers, AreTwo, torn_out, left_from, slot_with, with_power_lost}
use Rattle.run_minutes.specs.Keeping.{AreEmptied, SessionsGoOn, Fell, tears_of, most_tears}
use Rattle.run_minutes.proofs.Seats.{fate-seats, sessions-none}
use Rattle.run_acts.specs.Room.{bare_count, bare_seats, falls_of}
use Rattle.run_acts.proofs.Kept.{seats-less}

left-past : (o : Option Slot) (second : ℕ) (slots : Slots) → (left_from o second slots).past ≡ slots.past
left-past None second slots = refl
left-past (Some slot) second slots = refl

left-minute : (o : Option Slot) (second to : ℕ) (slots : Slots) → slots.minute ≤ to → second / 60 ≤ to → (left_from o second slots).minute ≤ to
left-minute None second to slots le here = le
left-minute (Some slot) second to slots le here = here

without : (card : Card) (cards : Cards) → SessionsGoOn cards (with_session card None cards)
without A cards = record { a = tt; b = (sessions-none cards).b }
without B cards = record { a = (sessions-none cards).a; b = tt }

pub tears-without : (card : Card) (cards : Cards) → most_tears (with_session card None cards) + tears_of (session_of cards card) ≡ most_tears cards
tears-without A cards = omega arith
tears-without B cards = omega arith

pub sessions-without : (card : Card) (cards : Cards) → SessionsGoOn cards (with_session card None cards)
sessions-without card cards = without card cards

module _ (card : Card) (second : ℕ) (cabin : Cabin) where
  pub torn-past : (torn_out card second cabin).slots.past ≡ cabin.slots.past
  torn-past = left-past (slot_with cabin.slots.seats card) second cabin.slots

  pub torn-minute : (to : ℕ) → cabin.slots.minute ≤ to → second / 60 ≤ to → (torn_out card second cabin).slots.minute ≤ to
  torn-minute to le here = left-minute (slot_with cabin.slots.seats card) second to cabin.slots le here

  pub torn-sessions : SessionsGoOn cabin.cards (torn_out card second cabin).cards
  torn-sessions = without card cabin.cards

  pub torn-seats : AreEmptied cabin.slots.seats (torn_out card second cabin).slots.seats
  torn-seats = fate-seats Fell (Some card) second cabin

  -- one that had a session takes that with it
  pub torn-falls : falls_of (torn_out card second cabin) + tears_of (session_of cabin.cards card) ≤ falls_of cabin
  torn-falls =
      let seats = seats-less cabin.slots.seats (torn_out card second cabin).slots.seats torn-seats in
      let tears = tears-without card cabin.cards in
      omega (arith, seats, tears)

-- ---- one that sits in a slot

same-is : (a b : Card) → same_card a b ≡ true → a ≡ b
same-is A A is = refl
same-is B B is = refl
same-is A B is = absurd (cc)
same-is B A is = absurd (cc)

bare-newest : (newest : Option ℕ) (card : Card) (from : ℕ) → AnswersTo from newest None → bare_count (Some (record { card = card; newest = newest })) ≡ 1
bare-newest None card from h = refl
bare-newest (Some n) card from h = absurd h

bare-here : (from : ℕ) (cards : Cards) (card : Card) (seat : Option Seat) → is_card seat card ≡ true → SeatAnswers from cards seat → session_of cards card ≡ None → bare_count seat ≡ 1
bare-here from cards card None is h none = absurd (cc)
bare-here from cards card (Some seat) is h none =
    let same : seat.card ≡ card = same-is seat.card card is in
    bare-newest seat.newest seat.card from (subst (λ (o : Option Accepted). AnswersTo from seat.newest o) (ap (session_of cards) same ∙ none) h)

never : (false ≡ true) ⊎ (false ≡ true) → ⊥
never (inl h) = cc
never (inr h) = cc

by-slots : (driver codriver : Bool) (card : Card) (second : ℕ) (slots : Slots) → (driver ≡ true → bare_count slots.seats.driver ≡ 1) → (codriver ≡ true → bare_count slots.seats.codriver ≡ 1) → (driver ≡ true) ⊎ (codriver ≡ true)
    → bare_seats (left_from (cond driver (Some Driver) (cond codriver (Some CoDriver) None)) second slots).seats + 1 ≤ bare_seats slots.seats
by-slots true codriver card second slots d e sits = let one = d refl in omega (arith, one)
by-slots false true card second slots d e sits = let one = e refl in omega (arith, one)
by-slots false false card second slots d e sits = absurd (never sits)

sits-by : (slot : Slot) (seats : Seats) (card : Card) → is_card (seat_in seats slot) card ≡ true → (is_card seats.driver card ≡ true) ⊎ (is_card seats.codriver card ≡ true)
sits-by Driver seats card is = inl is
sits-by CoDriver seats card is = inr is

-- a card that sits in a slot is one that can fall
pub sitting-falls : (card : Card) (slot : Slot) (second from : ℕ) (leaving : Option Card) (cabin : Cabin) → is_card (seat_in cabin.slots.seats slot) card ≡ true → CabinIsSound from leaving cabin → falls_of (torn_out card second cabin) + 1 ≤ falls_of cabin
sitting-falls card slot second from leaving cabin is h = by (session_of cabin.cards card) refl
  where
    by : (o : Option Accepted) → session_of cabin.cards card ≡ o → falls_of (torn_out card second cabin) + 1 ≤ falls_of cabin
    by (Some a) some =
        let one : tears_of (session_of cabin.cards card) ≡ 1 = ap tears_of some in
        let less = torn-falls card second cabin in
        omega (arith, one, less)
    by None none =
        let seats = by-slots (is_card cabin.slots.seats.driver card) (is_card cabin.slots.seats.codriver card) card second cabin.slots
        (λ here. bare-here from cabin.cards card cabin.slots.seats.driver here h.driver none) (λ here. bare-here from cabin.cards card cabin.slots.seats.codriver here h.codriver none) (sits-by slot cabin.slots.seats card is) in
        let tears = tears-without card cabin.cards in
        omega (arith, seats, tears)

pub is-there : (seat : Option Seat) (card : Card) → card_in seat ≡ Some card → is_card seat card ≡ true
is-there None card is = absurd (cc)
is-there (Some seat) card is = let same : seat.card ≡ card = cc in subst (λ (c : Card). same_card c card ≡ true) (sym same) (self card)
  where
    self : (c : Card) → same_card c c ≡ true
    self A = refl
    self B = refl

-- ---- power is lost

abbrev tears_at : Cards → Option Seat → ℕ
tears_at cards None = 0
tears_at cards (Some seat) = tears_of (session_of cards seat.card)

one-had : (newest : Option ℕ) (from : ℕ) (card : Card) (session : Option Accepted) → AnswersTo from newest session → 1 ≤ bare_count (Some (record { card = card; newest = newest })) + tears_of session
one-had None from card session h = omega arith
one-had (Some n) from card None h = absurd h
one-had (Some n) from card (Some a) h = omega arith

seat-dark : (from : ℕ) (cards : Cards) (seat : Option Seat) → SeatAnswers from cards seat → bare_count (powerless seat) ≤ bare_count seat + tears_at cards seat
seat-dark from cards None h = omega arith
seat-dark from cards (Some seat) h = one-had seat.newest from seat.card (session_of cards seat.card) h

two-tears : (a b : Card) (cards : Cards) → same_card a b ≡ false → tears_of (session_of cards a) + tears_of (session_of cards b) ≤ most_tears cards
two-tears A A cards two = absurd (cc)
two-tears B B cards two = absurd (cc)
two-tears A B cards two = omega arith
two-tears B A cards two = omega arith

one-tear : (c : Card) (cards : Cards) → tears_of (session_of cards c) ≤ most_tears cards
one-tear A cards = omega arith
one-tear B cards = omega arith

all-tears : (d e : Option Seat) (cards : Cards) → AreTwo (card_in d) (card_in e) → tears_at cards d + tears_at cards e ≤ most_tears cards
all-tears None None cards two = omega arith
all-tears None (Some s) cards two = let t = one-tear s.card cards in omega (arith, t)
all-tears (Some s) None cards two = let t = one-tear s.card cards in omega (arith, t)
all-tears (Some s) (Some t) cards two = two-tears s.card t.card cards two

-- each card that sat in a slot sits there still, and none has a session
pub cut-falls : (second from : ℕ) (leaving : Option Card) (cabin : Cabin) → CabinIsSound from leaving cabin → falls_of (with_power_lost second cabin) ≤ falls_of cabin
cut-falls second from leaving cabin h =
    let d = seat-dark from cabin.cards cabin.slots.seats.driver h.driver in
    let e = seat-dark from cabin.cards cabin.slots.seats.codriver h.codriver in
    let t = all-tears cabin.slots.seats.driver cabin.slots.seats.codriver cabin.cards h.apart in
    omega (arith, d, e, t)

one-most : (newest : Option ℕ) (card : Card) → bare_count (Some (record { card = card; newest = newest })) ≤ 1
one-most None card = omega arith
one-most (Some n) card = omega arith

bare-most : (seat : Option Seat) → bare_count seat ≤ 1
bare-most None = omega arith
bare-most (Some seat) = one-most seat.newest seat.card

pub bare-two : (seats : Seats) → bare_seats seats ≤ 2
bare-two seats = let d = bare-most seats.driver in let e = bare-most seats.codriver in omega (arith, d, e)
