-- Who sits in which slot, by the slots and by the log, as a card is put in, leaves or is torn out.
use Rattle.std.proofs.Common.{◌≡◌, ◌⊎◌, inl, inr, ℕ, ◌/◌, Bool, true, false, ◌||◌, Option, Some, None, IfSome, is_some, List, [], ◌++◌, refl, ap, sym, subst, ◌∙◌, append-nil}
use Rattle.std.specs.Prelude.{if◌then◌else◌}
use Rattle.std.specs.List.{list_any}
use Rattle.minute_rules.specs.activity_codec.declared.values.Slot.{Slot}
use Rattle.minute_rules.specs.activity_codec.declared.values.Slot.TheVariants.{Driver, CoDriver}
use Rattle.run_devices.specs.tacho_types.CardNumber.{card_number_bytes}
use Rattle.run_devices.specs.tacho_types.declared.card_number.FullCardNumber.{FullCardNumber}
use Rattle.run_devices.specs.trace_model.declared.Card.{Card}
use Rattle.run_devices.specs.trace_model.declared.Card.TheVariants.{A, B}
use Rattle.run_devices.specs.trace_model.declared.Action.TheVariants.{Insert}
use Rattle.run_devices.specs.log_model.declared.lines.SlotFault.TheVariants.{Occupied, Elsewhere}
use Rattle.run_devices.specs.log_model.Slots.{Slots, Sitting, same_card, in_slot, other_slot, holds, refusal}
use Rattle.run_devices.specs.log_model.Course.{ToldSecond, Course, card_in as card_of_sitting, with_slot}
use Rattle.run_devices.specs.history_model.Minutes.{HistoryMinute}
use Rattle.run_devices.specs.history_model.Presence.{Start}
use Rattle.run_devices.specs.device_rule.Rules.{Standing}
use Rattle.run_devices.specs.card_slots.declared.seats.Seat.{Seat}
use Rattle.run_devices.specs.card_slots.declared.seats.Lefts.{Lefts}
use Rattle.run_devices.specs.card_slots.Calls.{Seats, seat_in, with_seat, card_in, is_card}
use Rattle.run_devices.specs.card_slots.Kept.{Kept, IsFree, with_left, left_of}
use Rattle.run_devices.specs.run_crew.declared.cards.Accepted.{Accepted}
use Rattle.run_devices.specs.run_crew.declared.cards.Cards.{Cards}
use Rattle.run_devices.specs.run_crew.declared.cabin.Cabin.{Cabin}
use Rattle.run_devices.specs.run_crew.Cards.{known_of, session_of, with_session}
use Rattle.run_devices.specs.run_crew.Cabin.{SitsNowhere, AnswersTo, SeatAnswers, CabinIsSound, slot_with}
use Rattle.run_devices.proofs.run_crew.Sessions.{same_self}
use Rattle.run_devices.specs.run_promise.Found.{Found, found_of}
use Rattle.run_devices.specs.run_course.Presence.{SitsAs, has_left, SlotsTell}
use Rattle.run_devices.specs.run_course.Within.{IsTornFrom}
use Rattle.run_devices.specs.Told.{AreFoundCards, for_card}
use Rattle.run_devices.specs.Presence.{sits}

-- ---- cases

pub no-both : {T : Type 0} (b : Bool) → b ≡ true → b ≡ false → T
no-both {T} b x y = let clash : true ≡ false = sym x ∙ y in absurd (cc)

pub this-or : (c d : Card) → (same_card c d ≡ true) ⊎ (same_card c d ≡ false)
this-or A A = inl refl
this-or B B = inl refl
this-or A B = inr refl
this-or B A = inr refl

-- who sits accepted is neither nobody nor one that is not
pub never-none : {T : Type 0} (x : Card) (u : ℕ) → None ≡ sits x u → T
never-none {T} x u is = absurd (cc)

pub never-bare : {T : Type 0} (card x : Card) (u : ℕ) → Some (record { card = card; accepted = None }) ≡ sits x u → T
never-bare {T} card x u is =
    let a : Sitting = record { card = card; accepted = None } in
    let b : Sitting = record { card = x; accepted = Some u } in
    let same : a ≡ b = cc in
    let clash : None ≡ Some u = ap (λ (k : Sitting). k.accepted) same in
    absurd (cc)

-- one card stands so, and another as it did
pub for-other : (c d : Card) (z : Standing) (standing : Card → Standing) → same_card c d ≡ false → for_card c z standing d ≡ standing d
for-other A A z standing is = no-both true refl is
for-other B B z standing is = no-both true refl is
for-other A B z standing is = refl
for-other B A z standing is = refl

pub for-this : (c : Card) (z : Standing) (standing : Card → Standing) → for_card c z standing c ≡ z
for-this A z standing = refl
for-this B z standing = refl

-- ---- sessions

-- a card that has none loses none
pub bare-same : (card : Card) (cards : Cards) → session_of cards card ≡ None → with_session card None cards ≡ cards
bare-same A cards is = ap (λ (o : Option Accepted). record cards { a = record cards.a { accepted = o } }) (sym is)
bare-same B cards is = ap (λ (o : Option Accepted). record cards { b = record cards.b { accepted = o } }) (sym is)

pub old-less : (card d : Card) (cards : Cards) → is_some (session_of (with_session card None cards) d) ≡ true → is_some (session_of cards d) ≡ true
old-less A A cards is = absurd (cc)
old-less B B cards is = absurd (cc)
old-less A B cards is = is
old-less B A cards is = is

-- who has one still is another card
pub other-has : (card d : Card) (cards : Cards) → is_some (session_of (with_session card None cards) d) ≡ true → same_card card d ≡ false
other-has A A cards is = absurd (cc)
other-has B B cards is = absurd (cc)
other-has A B cards is = refl
other-has B A cards is = refl

pub still-has : (card d : Card) (cards : Cards) → same_card card d ≡ false → session_of (with_session card None cards) d ≡ session_of cards d
still-has A A cards is = no-both true refl is
still-has B B cards is = no-both true refl is
still-has A B cards is = refl
still-has B A cards is = refl

number-same : (card d : Card) (cards : Cards) → (known_of (with_session card None cards) d).number ≡ (known_of cards d).number
number-same A A cards = refl
number-same A B cards = refl
number-same B A cards = refl
number-same B B cards = refl

-- what was found of the cards stays
pub found-less : (f : Found) (card : Card) (cards : Cards) → AreFoundCards f cards → AreFoundCards f (with_session card None cards)
found-less f card cards h = record {
  two = h.two;
  named = λ d valid. subst (λ (o : Option FullCardNumber). IfSome o (λ n. card_number_bytes n ≡ (found_of f d).number)) (sym (number-same card d cards)) (h.named d valid);
  told = λ d valid. subst (λ (o : Option FullCardNumber). is_some o ≡ true) (sym (number-same card d cards)) (h.told d valid);
  only = λ d has. h.only d (subst (λ (o : Option FullCardNumber). is_some o ≡ true) (number-same card d cards) has);
  own = h.own;
  sizes = h.sizes;
  entries = h.entries;
  word = h.word;
}

-- ---- a slot and its seat

module _ (start : Start) (past : List HistoryMinute) (from : ℕ) (k : Kept) where
  seat-none : (seat : Option Seat) (sitting : Option Sitting) → SitsAs start past from k seat sitting → is_some sitting ≡ false → seat ≡ None
  seat-none None sitting h is = refl
  seat-none (Some seat) None h is = absurd h
  seat-none (Some seat) (Some x) h is = no-both true refl is

  pub none-sits : (seat : Option Seat) (sitting : Option Sitting) → SitsAs start past from k seat sitting → seat ≡ None → sitting ≡ None
  none-sits None None h is = refl
  none-sits None (Some x) h is = absurd h
  none-sits (Some seat) sitting h is = absurd (cc)

  not-held : (card : Card) (seat : Option Seat) (sitting : Option Sitting) → SitsAs start past from k seat sitting → holds sitting card ≡ false → is_card seat card ≡ false
  not-held card None sitting h is = refl
  not-held card (Some seat) None h is = absurd h
  not-held card (Some seat) (Some x) h is = ap (λ (c : Card). same_card c card) h.0 ∙ is

  -- the card of a seat sits there by the log
  pub seated-there : (card : Card) (seat : Option Seat) (sitting : Option Sitting) → SitsAs start past from k seat sitting → card_in seat ≡ Some card → (x : Sitting) × (sitting ≡ Some x) × (x.card ≡ card)
  seated-there card None sitting h is = absurd (cc)
  seated-there card (Some seat) None h is = absurd h
  seated-there card (Some seat) (Some x) h is = (x, refl, sym h.0 ∙ (let own : seat.card ≡ card = cc in own))

  -- accepted, where it is so by the slots
  pub sits-there : (card : Card) (n : ℕ) (seat : Option Seat) (sitting : Option Sitting) → SitsAs start past from k seat sitting → seat ≡ Some (record { card = card; newest = Some n }) → (u : ℕ) × (sitting ≡ sits card u)
  sits-there card n seat sitting h is = by sitting (subst (λ (o : Option Seat). SitsAs start past from k o sitting) is h)
    where
      accepted : (x : Sitting) → (a : Option ℕ) → x.accepted ≡ a → (seat_card : card ≡ x.card) → SitsAs start past from k (Some (record { card = card; newest = Some n })) (Some (record { card = x.card; accepted = a })) → (u : ℕ) × (Some x ≡ sits card u)
      accepted x None is_ same h = absurd h.1
      accepted x (Some u) is_ same h = (u, ap (λ (o : Option ℕ). Some (record { card = x.card; accepted = o })) is_ ∙ ap (λ (c : Card). sits c u) (sym same))

      by : (o : Option Sitting) → SitsAs start past from k (Some (record { card = card; newest = Some n })) o → (u : ℕ) × (o ≡ sits card u)
      by None h = absurd h
      by (Some x) h = accepted x x.accepted refl h.0 h

  -- and who sits there by the log is that card by the slots
  pub sits-back : (card : Card) (u : ℕ) (seat : Option Seat) (sitting : Option Sitting) → SitsAs start past from k seat sitting → sitting ≡ sits card u → is_card seat card ≡ true
  sits-back card u seat sitting h is = by seat (subst (SitsAs start past from k seat) is h)
    where
      by : (o : Option Seat) → SitsAs start past from k o (sits card u) → is_card o card ≡ true
      by None h = absurd h
      by (Some x) h = ap (λ (c : Card). same_card c card) h.0 ∙ same_self card

pub card-seated : (card : Card) (seat : Option Seat) → card_in seat ≡ Some card → is_card seat card ≡ true
card-seated card None is = absurd (cc)
card-seated card (Some seat) is = let own : seat.card ≡ card = cc in ap (λ (c : Card). same_card c card) own ∙ same_self card

module _ (start : Start) (told : List ToldSecond) (past : List HistoryMinute) (left : List Card) (number from : ℕ) (slots : Slots) (k : Kept) (h : SlotsTell start told past left number from slots k) where
  pub seat-tells : (slot : Slot) → SitsAs start past from k (seat_in k.seats slot) (in_slot slots slot)
  seat-tells Driver = h.driver
  seat-tells CoDriver = h.codriver

  -- a card sits in one slot
  pub one-slot : (slot other : Slot) (card : Card) → is_card (seat_in k.seats slot) card ≡ true → is_card (seat_in k.seats other) card ≡ true → slot ≡ other
  one-slot Driver Driver card a b = refl
  one-slot CoDriver CoDriver card a b = refl
  one-slot Driver CoDriver card a b = no-both (is_card k.seats.codriver card) b (h.apart card a)
  one-slot CoDriver Driver card a b = no-both (is_card k.seats.codriver card) a (h.apart card b)

  pub which-slot : (slot : Slot) (card : Card) → is_card (seat_in k.seats slot) card ≡ true → slot_with k.seats card ≡ Some slot
  which-slot Driver card is = ap (λ (b : Bool). if b then Some Driver else (if is_card k.seats.codriver card then Some CoDriver else None)) is
  which-slot CoDriver card is = by (is_card k.seats.driver card) refl
    where
      by : (b : Bool) → is_card k.seats.driver card ≡ b → slot_with k.seats card ≡ Some CoDriver
      by true first = no-both (is_card k.seats.codriver card) is (h.apart card first)
      by false first = ap (λ (b : Bool). if b then Some Driver else (if is_card k.seats.codriver card then Some CoDriver else None)) first ∙ ap (λ (b : Bool). if b then Some CoDriver else None) is

  -- so behind its leaving it sits in none
  pub nowhere-then : (slot : Slot) (card : Card) → is_card (seat_in k.seats slot) card ≡ true → SitsNowhere (with_seat k.seats slot None) card
  nowhere-then Driver card is = record { driver = refl; codriver = h.apart card is }
  nowhere-then CoDriver card is = record { driver = by (is_card k.seats.driver card) refl; codriver = refl }
    where
      by : (b : Bool) → is_card k.seats.driver card ≡ b → is_card k.seats.driver card ≡ false
      by true first = no-both (is_card k.seats.codriver card) is (h.apart card first)
      by false first = first

  -- slot and card are free for each other where the log does not refuse an insertion
  pub free-for : (slot : Slot) (card : Card) (speed : ℕ) → refusal slots speed (Insert slot card) ≡ None → IsFree k.seats slot card
  free-for slot card speed is =
      let both = by (is_some (in_slot slots slot)) (holds (in_slot slots (other_slot slot)) card) is in
      record {
        here = inl (seat-none start past from k (seat_in k.seats slot) (in_slot slots slot) (seat-tells slot) both.0);
        elsewhere = not-held start past from k card (seat_in k.seats (other_slot slot)) (in_slot slots (other_slot slot)) (seat-tells (other_slot slot)) both.1;
      }
    where
      by : (a b : Bool) → (if a then Some (Occupied slot) else (if b then Some (Elsewhere card) else None)) ≡ None → (a ≡ false) × (b ≡ false)
      by true b h = absurd (cc)
      by false true h = absurd (cc)
      by false false h = (refl, refl)

pub none-there : (seats : Seats) (slot : Slot) → seat_in (with_seat seats slot None) slot ≡ None
none-there seats Driver = refl
none-there seats CoDriver = refl

pub nowhere-none : (seats : Seats) (card : Card) → SitsNowhere seats card → slot_with seats card ≡ None
nowhere-none seats card h =
    ap (λ (b : Bool). if b then Some Driver else (if is_card seats.codriver card then Some CoDriver else None)) h.driver ∙ ap (λ (b : Bool). if b then Some CoDriver else None) h.codriver

pub nowhere-not : (seats : Seats) (card : Card) → SitsNowhere seats card → (slot : Slot) → is_card (seat_in seats slot) card ≡ false
nowhere-not seats card h Driver = h.driver
nowhere-not seats card h CoDriver = h.codriver

-- a slot that was emptied has none, and the other what it had
pub emptied : (slots : Slots) (slot other : Slot) (x : Sitting) → in_slot (with_slot slots slot None) other ≡ Some x → (in_slot slots other ≡ Some x) × (slot ≡ other → ⊥)
emptied slots Driver Driver x is = absurd (cc)
emptied slots CoDriver CoDriver x is = absurd (cc)
emptied slots Driver CoDriver x is = (is, λ same. absurd (cc))
emptied slots CoDriver Driver x is = (is, λ same. absurd (cc))

pub empty-still : (slots : Slots) (slot : Slot) → in_slot slots slot ≡ None → with_slot slots slot None ≡ slots
empty-still slots Driver is = ap (λ (o : Option Sitting). record slots { driver = o }) (sym is)
empty-still slots CoDriver is = ap (λ (o : Option Sitting). record slots { codriver = o }) (sym is)

-- a card that left says nothing of the other
pub left-other : (c d : Card) (n : Option ℕ) (minute : ℕ) (left : Lefts) → same_card c d ≡ false → left_of (with_left minute (Some (record { card = c; newest = n })) left) d ≡ left_of left d
left-other A A n minute left is = no-both true refl is
left-other B B n minute left is = no-both true refl is
left-other A B n minute left is = refl
left-other B A n minute left is = refl

pub seat-left : (c d : Card) (seat : Option Seat) (minute : ℕ) (left : Lefts) → card_in seat ≡ Some c → same_card c d ≡ false → left_of (with_left minute seat left) d ≡ left_of left d
seat-left c d None minute left is ne = absurd (cc)
seat-left c d (Some seat) minute left is ne = let own : seat.card ≡ c = cc in left-other seat.card d seat.newest minute left (ap (λ (x : Card). same_card x d) own ∙ ne)

-- A CARD WITH A SESSION in its slot is accepted there by the slots, and one without is not
pub answers-in : (low : ℕ) (cabin : Cabin) → CabinIsSound low None cabin → (slot : Slot) → SeatAnswers low cabin.cards (seat_in cabin.slots.seats slot)
answers-in low cabin h Driver = h.driver
answers-in low cabin h CoDriver = h.codriver

pub accepted-seat : (low : ℕ) (cards : Cards) (card : Card) (seat : Option Seat) → SeatAnswers low cards seat → card_in seat ≡ Some card → is_some (session_of cards card) ≡ true → (n : ℕ) × (seat ≡ Some (record { card = card; newest = Some n }))
accepted-seat low cards card None h is some = absurd (cc)
accepted-seat low cards card (Some seat) h is some =
    let own : seat.card ≡ card = cc in
    by seat.newest refl (session_of cards seat.card) h (ap (λ (c : Card). is_some (session_of cards c)) own ∙ some)
  where
    by : (n : Option ℕ) → seat.newest ≡ n → (s : Option Accepted) → AnswersTo low n s → is_some s ≡ true → (n : ℕ) × (Some seat ≡ Some (record { card = card; newest = Some n }))
    by None e None h some = absurd (cc)
    by None e (Some a) h some = absurd h
    by (Some n) e s h some = let own : seat.card ≡ card = cc in (n, ap (λ (o : Option ℕ). Some (record { card = seat.card; newest = o })) e ∙ ap (λ (c : Card). Some (record { card = c; newest = Some n })) own)

-- ---- where nobody sat a tear leaves the slots as they were

pub tells-still : (start : Start) (told : List ToldSecond) (past : List HistoryMinute) (number from : ℕ) (slot : Slot) (old new : Course) (k : Kept) → SlotsTell start told past old.left number from old.slots k → IsTornFrom slot old new → in_slot old.slots slot ≡ None →
    SlotsTell start told past new.left number from new.slots k
tells-still start told past number from slot old new k h is none =
    subst (λ (sl : Slots). SlotsTell start told past new.left number from sl k) (sym (is.slots ∙ empty-still old.slots slot none)) (record {
      driver = h.driver;
      codriver = h.codriver;
      apart = h.apart;
      gone = λ card. h.gone card ∙ ap (λ (b : Bool). b || has_left [] told card (number / 60)) (sym (left-same card));
      latest = h.latest;
      ended = h.ended;
      so_far = h.so_far;
      falls = h.falls;
      newest = h.newest;
      minute = h.minute;
    })
  where
    left-same : (card : Card) → list_any (same_card card) new.left ≡ list_any (same_card card) old.left
    left-same card = is.left card ∙ ap (λ (o : Option Sitting). list_any (same_card card) (old.left ++ card_of_sitting o)) none ∙ ap (list_any (same_card card)) (append-nil old.left)
