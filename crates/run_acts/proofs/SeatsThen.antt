-- Which cards sit in a slot, as slots are filled and emptied.
use Rattle.std.proofs.Common.{◌≡◌, ◌∙◌, ⊎_elim, ℕ, Bool, true, false, cond, ◌||◌, Option, Some, None, is_some, refl, ap, sym}
use Rattle.activity_codec.specs.declared.values.Slot.{Slot}
use Rattle.activity_codec.specs.declared.values.Slot.TheVariants.{Driver, CoDriver}
use Rattle.trace_model.specs.declared.Card.{Card}
use Rattle.trace_model.specs.declared.Card.TheVariants.{A, B}
use Rattle.log_model.specs.Slots.{same_card, other_slot}
use Rattle.run_crew.specs.card_slots.declared.seats.Seat.{Seat}
use Rattle.run_crew.specs.card_slots.Calls.{Seats, seat_in, with_seat, card_in, is_card}
use Rattle.run_crew.specs.declared.cabin.Cabin.{Cabin}
use Rattle.run_crew.specs.Cards.{session_of}
use Rattle.run_crew.specs.Cabin.{SitsThere, SitsNowhere, CabinIsSound, left_from, torn_out}
use Rattle.run_acts.specs.Stays.{sits_in}

or-first : (a b : Bool) → a ≡ true → (a || b) ≡ true
or-first true b h = refl
or-first false b h = absurd (let wrong : false ≡ true = h in cc)

or-second : (a b : Bool) → b ≡ true → (a || b) ≡ true
or-second true b h = refl
or-second false b h = h

pub same-itself : (c : Card) → same_card c c ≡ true
same-itself A = refl
same-itself B = refl

pub same-as : (x y : Card) → same_card x y ≡ true → x ≡ y
same-as A A h = refl
same-as B B h = refl
same-as A B h = absurd (let wrong : false ≡ true = h in cc)
same-as B A h = absurd (let wrong : false ≡ true = h in cc)

-- a card is one of two that are not one
other-then : (x y z : Card) → same_card x y ≡ true → same_card y z ≡ false → same_card x z ≡ false
other-then A A z h k = k
other-then B B z h k = k
other-then A B z h k = absurd (let wrong : false ≡ true = h in cc)
other-then B A z h k = absurd (let wrong : false ≡ true = h in cc)

is-own : (seat : Option Seat) (c : Card) → card_in seat ≡ Some c → is_card seat c ≡ true
is-own None c is = absurd (cc)
is-own (Some seat) c is =
    let own : seat.card ≡ c = cc in
    ap (λ (k : Card). same_card k c) own ∙ same-itself c

is-other : (seat : Option Seat) (k c : Card) → is_card seat k ≡ true → same_card k c ≡ false → is_card seat c ≡ false
is-other None k c is other = refl
is-other (Some seat) k c is other = other-then seat.card k c is other

-- a card sits
pub sits-there : (seats : Seats) (slot : Slot) (c : Card) → card_in (seat_in seats slot) ≡ Some c → sits_in seats c ≡ true
sits-there seats Driver c is = or-first (is_card seats.driver c) (is_card seats.codriver c) (is-own seats.driver c is)
sits-there seats CoDriver c is = or-second (is_card seats.driver c) (is_card seats.codriver c) (is-own seats.codriver c is)

pub sits-in-one : (seats : Seats) (c : Card) → SitsThere seats c → sits_in seats c ≡ true
sits-in-one seats c there = ⊎_elim (λ driver. or-first (is_card seats.driver c) (is_card seats.codriver c) driver) (λ codriver. or-second (is_card seats.driver c) (is_card seats.codriver c) codriver) there

-- so does each that has a session, where none is leaving
pub stands-seated : (low : ℕ) (cabin : Cabin) → CabinIsSound low None cabin → (c : Card) → is_some (session_of cabin.cards c) ≡ true → sits_in cabin.slots.seats c ≡ true
stands-seated low cabin stands c some =
    ⊎_elim (λ there. sits-in-one cabin.slots.seats c there) (λ leaving. absurd (let wrong : None ≡ Some c = leaving in cc)) (stands.only c some)

-- or nowhere
pub sits-nowhere : (seats : Seats) (c : Card) → SitsNowhere seats c → sits_in seats c ≡ false
sits-nowhere seats c nowhere = ap (λ (b : Bool). b || is_card seats.codriver c) nowhere.driver ∙ nowhere.codriver

-- A SLOT IS EMPTIED, and the others sit as they did
emptied : (seats : Seats) (slot : Slot) (k c : Card) → is_card (seat_in seats slot) k ≡ true → same_card k c ≡ false → sits_in (with_seat seats slot None) c ≡ sits_in seats c
emptied seats Driver k c is other = ap (λ (b : Bool). b || is_card seats.codriver c) (sym (is-other seats.driver k c is other))
emptied seats CoDriver k c is other = ap (λ (b : Bool). is_card seats.driver c || b) (sym (is-other seats.codriver k c is other))

pub left-other : (seats : Seats) (slot : Slot) (k c : Card) → card_in (seat_in seats slot) ≡ Some k → same_card k c ≡ false → sits_in (with_seat seats slot None) c ≡ sits_in seats c
left-other seats slot k c is other = emptied seats slot k c (is-own (seat_in seats slot) k is) other

-- a card is torn out
pub torn-other : (k c : Card) (second : ℕ) (cabin : Cabin) → same_card k c ≡ false → sits_in (torn_out k second cabin).slots.seats c ≡ sits_in cabin.slots.seats c
torn-other k c second cabin other = by (is_card cabin.slots.seats.driver k) (is_card cabin.slots.seats.codriver k) refl refl
  where
    by : (a b : Bool) → is_card cabin.slots.seats.driver k ≡ a → is_card cabin.slots.seats.codriver k ≡ b →
        sits_in (left_from (cond {A = Option Slot} a (Some Driver) (cond {A = Option Slot} b (Some CoDriver) None)) second cabin.slots).seats c ≡ sits_in cabin.slots.seats c
    by true b driver codriver = emptied cabin.slots.seats Driver k c driver other
    by false true driver codriver = emptied cabin.slots.seats CoDriver k c codriver other
    by false false driver codriver = refl

-- A SLOT IS FILLED: its card sits there, and another one that did not sit in it does as before
pub put-own : (seats : Seats) (slot : Slot) (c : Card) (newest : Option ℕ) → sits_in (with_seat seats slot (Some (record { card = c; newest = newest }))) c ≡ true
put-own seats Driver c newest = or-first (same_card c c) (is_card seats.codriver c) (same-itself c)
put-own seats CoDriver c newest = or-second (is_card seats.driver c) (same_card c c) (same-itself c)

filled : (seats : Seats) (slot : Slot) (k c : Card) (newest : Option ℕ) → is_card (seat_in seats slot) c ≡ false → same_card k c ≡ false → sits_in (with_seat seats slot (Some (record { card = k; newest = newest }))) c ≡ sits_in seats c
filled seats Driver k c newest none other = ap (λ (b : Bool). b || is_card seats.codriver c) (other ∙ sym none)
filled seats CoDriver k c newest none other = ap (λ (b : Bool). is_card seats.driver c || b) (other ∙ sym none)

-- where it was empty, or held the same card
pub put-other : (seats : Seats) (slot : Slot) (k c : Card) (newest : Option ℕ) → seat_in seats slot ≡ None → same_card k c ≡ false → sits_in (with_seat seats slot (Some (record { card = k; newest = newest }))) c ≡ sits_in seats c
put-other seats slot k c newest empty other = filled seats slot k c newest (ap (λ (q : Option Seat). is_card q c) empty) other

pub put-again : (seats : Seats) (slot : Slot) (k c : Card) (newest : Option ℕ) → card_in (seat_in seats slot) ≡ Some k → same_card k c ≡ false → sits_in (with_seat seats slot (Some (record { card = k; newest = newest }))) c ≡ sits_in seats c
put-again seats slot k c newest there other = filled seats slot k c newest (is-other (seat_in seats slot) k c (is-own (seat_in seats slot) k there) other) other

-- ---- in which slot

not-this : {T : Type 0} (k c : Card) → same_card k c ≡ false → Some k ≡ Some c → T
not-this k c other is = absurd (let same : k ≡ c = cc in let wrong : true ≡ false = sym (same-itself k) ∙ ap (same_card k) same ∙ other in cc)

-- who sits in an emptied slot sat elsewhere
pub emptied-slot : (seats : Seats) (slot at : Slot) (c : Card) → card_in (seat_in (with_seat seats slot None) at) ≡ Some c → card_in (seat_in seats at) ≡ Some c
emptied-slot seats Driver Driver c is = absurd (let wrong : None ≡ Some c = is in cc)
emptied-slot seats Driver CoDriver c is = is
emptied-slot seats CoDriver Driver c is = is
emptied-slot seats CoDriver CoDriver c is = absurd (let wrong : None ≡ Some c = is in cc)

-- a card torn out leaves the others where they sat
pub torn-slot : (k c : Card) (second : ℕ) (cabin : Cabin) (at : Slot) → card_in (seat_in (torn_out k second cabin).slots.seats at) ≡ Some c → card_in (seat_in cabin.slots.seats at) ≡ Some c
torn-slot k c second cabin at = by (is_card cabin.slots.seats.driver k) (is_card cabin.slots.seats.codriver k)
  where
    by : (a b : Bool) → card_in (seat_in (left_from (cond {A = Option Slot} a (Some Driver) (cond {A = Option Slot} b (Some CoDriver) None)) second cabin.slots).seats at) ≡ Some c → card_in (seat_in cabin.slots.seats at) ≡ Some c
    by true b is = emptied-slot cabin.slots.seats Driver at c is
    by false true is = emptied-slot cabin.slots.seats CoDriver at c is
    by false false is = is

-- another card than the one with which a slot is filled sat where it does
pub filled-slot : (seats : Seats) (slot at : Slot) (k c : Card) (newest : Option ℕ) → same_card k c ≡ false → card_in (seat_in (with_seat seats slot (Some (record { card = k; newest = newest }))) at) ≡ Some c → card_in (seat_in seats at) ≡ Some c
filled-slot seats Driver Driver k c newest other is = not-this k c other is
filled-slot seats Driver CoDriver k c newest other is = is
filled-slot seats CoDriver Driver k c newest other is = is
filled-slot seats CoDriver CoDriver k c newest other is = not-this k c other is

-- a card that does not sit in the other slot sits in the one that it fills
pub filled-own : (seats : Seats) (slot at : Slot) (c : Card) (newest : Option ℕ) → is_card (seat_in seats (other_slot slot)) c ≡ false → card_in (seat_in (with_seat seats slot (Some (record { card = c; newest = newest }))) at) ≡ Some c → at ≡ slot
filled-own seats Driver Driver c newest out there = refl
filled-own seats Driver CoDriver c newest out there = absurd (let wrong : true ≡ false = sym (is-own seats.codriver c there) ∙ out in cc)
filled-own seats CoDriver Driver c newest out there = absurd (let wrong : true ≡ false = sym (is-own seats.driver c there) ∙ out in cc)
filled-own seats CoDriver CoDriver c newest out there = refl
