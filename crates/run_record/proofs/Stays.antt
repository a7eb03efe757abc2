-- Who sits accepted does so still over each step on the slots, or has left.
use Rattle.std.proofs.Common.{◌≡◌, ◌⊎◌, inl, inr, ⊎_elim, ℕ, ◌/◌, ◌≤◌, Option, Some, None, refl, ap, sym, subst, ◌∙◌, arith}
use Rattle.minute_rules.specs.activity_codec.declared.values.Slot.{Slot}
use Rattle.minute_rules.specs.activity_codec.declared.values.Slot.TheVariants.{Driver, CoDriver}
use Rattle.run_devices.specs.trace_model.declared.Card.{Card}
use Rattle.run_devices.specs.trace_model.declared.Card.TheVariants.{A, B}
use Rattle.run_devices.specs.card_slots.declared.seats.Seat.{Seat}
use Rattle.run_devices.specs.card_slots.declared.seats.Lefts.{Lefts}
use Rattle.run_devices.specs.card_slots.Calls.{Seats, seat_in, with_seat}
use Rattle.run_devices.specs.card_slots.Kept.{Kept, IsFree, put_in, taken, cut_off, with_left, left_of}
use Rattle.run_devices.specs.run_crew.Cabin.{left_from}
use Rattle.run_devices.specs.run_promise.Origin.{Origin}
use Rattle.run_record.specs.Recorded.{SitsAccepted, LeftSince, IsWrittenSince, GoesOnIn}

which : (c d : Card) → (c ≡ d) ⊎ (c ≡ d → ⊥)
which A A = inl refl
which B B = inl refl
which A B = inr (λ (e : A ≡ B). cc)
which B A = inr (λ (e : B ≡ A). cc)

-- ---- who left when

left-own : (m : ℕ) (seat : Seat) (left : Lefts) (card : Card) → seat.card ≡ card → left_of (with_left m (Some seat) left) card ≡ Some m
left-own m seat left card own = subst (λ (c : Card). left_of (with_left m (Some seat) left) c ≡ Some m) own (by seat.card)
  where
    by : (c : Card) → left_of (with_left m (Some (record { card = c; newest = seat.newest })) left) c ≡ Some m
    by A = refl
    by B = refl

left-other : (m : ℕ) (seat : Seat) (left : Lefts) (card : Card) → (seat.card ≡ card → ⊥) → left_of (with_left m (Some seat) left) card ≡ left_of left card
left-other m seat left card other = by seat.card card other
  where
    by : (c d : Card) → (c ≡ d → ⊥) → left_of (with_left m (Some (record { card = c; newest = seat.newest })) left) d ≡ left_of left d
    by A A differs = absurd (differs refl)
    by B B differs = absurd (differs refl)
    by A B differs = refl
    by B A differs = refl

since-left : (k m : ℕ) (seat : Option Seat) (left : Lefts) (card : Card) → k ≤ m → LeftSince k (left_of left card) → LeftSince k (left_of (with_left m seat left) card)
since-left k m None left card le h = h
since-left k m (Some seat) left card le h = ⊎_elim
    (λ own. subst (LeftSince k) (sym (left-own m seat left card own)) le)
    (λ other. subst (LeftSince k) (sym (left-other m seat left card other)) h)
    (which seat.card card)

-- ---- who sits

seat-other : (seats : Seats) (a b : Slot) (z : Option Seat) → (b ≡ a → ⊥) → seat_in (with_seat seats a z) b ≡ seat_in seats b
seat-other seats Driver Driver z differs = absurd (differs refl)
seat-other seats CoDriver CoDriver z differs = absurd (differs refl)
seat-other seats Driver CoDriver z differs = refl
seat-other seats CoDriver Driver z differs = refl

seat-own : (seats : Seats) (a : Slot) (z : Option Seat) → seat_in (with_seat seats a z) a ≡ z
seat-own seats Driver z = refl
seat-own seats CoDriver z = refl

seated-here : (seats : Seats) (slot here : Slot) (q : Option Seat) (x : Seat) → seat_in seats slot ≡ q → seat_in seats here ≡ Some x → here ≡ slot → q ≡ Some x
seated-here seats slot here q x is at same = sym is ∙ ap (seat_in seats) (sym same) ∙ at

-- ---- each step

pub goes-still : (u : ℕ) (kept after : Kept) (card : Card) → after ≡ kept → GoesOnIn u kept after card
goes-still u kept after card same = inl ((λ sits. subst (λ (k : Kept). SitsAccepted k card) (sym same) sits), ap (λ (k : Kept). left_of k.left card) same)

pub goes-taken : (u : ℕ) (slot : Slot) (kept : Kept) (card : Card) → GoesOnIn u kept (taken slot u kept) card
goes-taken u slot kept card = by (seat_in kept.seats slot) refl
  where
    elsewhere : (sits : SitsAccepted kept card) → (sits.0 ≡ slot → ⊥) → SitsAccepted (taken slot u kept) card
    elsewhere sits differs = (sits.0, sits.1, seat-other kept.seats slot sits.0 None differs ∙ sits.2)

    by : (q : Option Seat) → seat_in kept.seats slot ≡ q → GoesOnIn u kept (taken slot u kept) card
    by None none = inl (
      (λ sits. elsewhere sits (λ same. let clash : None ≡ Some (record { card = card; newest = Some sits.1 }) = seated-here kept.seats slot sits.0 None (record { card = card; newest = Some sits.1 }) none sits.2 same in cc)),
      ap (λ (q : Option Seat). left_of (with_left (u / 60) q kept.left) card) none,
    )
    by (Some seat) some = ⊎_elim
        (λ own. inr (ap (λ (q : Option Seat). left_of (with_left (u / 60) q kept.left) card) some ∙ left-own (u / 60) seat kept.left card own))
        (λ other. inl (
          (λ sits.
              elsewhere sits (λ same.
              let is : Some seat ≡ Some (record { card = card; newest = Some sits.1 }) = seated-here kept.seats slot sits.0 (Some seat) (record { card = card; newest = Some sits.1 }) some sits.2 same in
              let e : seat ≡ record { card = card; newest = Some sits.1 } = cc in
              other (ap (λ (x : Seat). x.card) e))),
          ap (λ (q : Option Seat). left_of (with_left (u / 60) q kept.left) card) some ∙ left-other (u / 60) seat kept.left card other,
        ))
        (which seat.card card)

-- the card of a slot has left
pub left-taken : (u : ℕ) (slot : Slot) (kept : Kept) (card : Card) (seat : Seat) → seat_in kept.seats slot ≡ Some seat → seat.card ≡ card → left_of (taken slot u kept).left card ≡ Some (u / 60)
left-taken u slot kept card seat some own = ap (λ (q : Option Seat). left_of (with_left (u / 60) q kept.left) card) some ∙ left-own (u / 60) seat kept.left card own

pub goes-left_from : (u : ℕ) (slot : Option Slot) (kept : Kept) (card : Card) → GoesOnIn u kept (left_from slot u kept) card
goes-left_from u None kept card = goes-still u kept kept card refl
goes-left_from u (Some slot) kept card = goes-taken u slot kept card

pub goes-put_in : (u : ℕ) (slot : Slot) (mine : Card) (newest : Option ℕ) (kept : Kept) (card : Card) → IsFree kept.seats slot mine → GoesOnIn u kept (put_in slot mine newest kept) card
goes-put_in u slot mine newest kept card free = inl (
  (λ sits. (
    sits.0,
    sits.1,
    seat-other kept.seats slot sits.0 (Some (record { card = mine; newest = newest }))
        (λ same. ⊎_elim
        (λ none. let clash : None ≡ Some (record { card = card; newest = Some sits.1 }) = seated-here kept.seats slot sits.0 None (record { card = card; newest = Some sits.1 }) none sits.2 same in cc)
        (λ bare.
        let is : Some (record { card = mine; newest = None }) ≡ Some (record { card = card; newest = Some sits.1 }) =
        seated-here kept.seats slot sits.0 (Some (record { card = mine; newest = None })) (record { card = card; newest = Some sits.1 }) bare sits.2 same in
        let m : Seat = record { card = mine; newest = None } in
        let n : Seat = record { card = card; newest = Some sits.1 } in
        let e : m ≡ n = cc in
        let clash : None ≡ Some sits.1 = ap (λ (x : Seat). x.newest) e in
        cc)
        free.here)
        ∙ sits.2,
  )),
  refl,
)

-- the card that was put in sits there
pub sits-put_in : (slot : Slot) (card : Card) (newest : ℕ) (kept : Kept) → SitsAccepted (put_in slot card (Some newest) kept) card
sits-put_in slot card newest kept = (slot, newest, seat-own kept.seats slot (Some (record { card = card; newest = Some newest })))

-- AS POWER IS LOST who sat has left
pub left-cut : (u t : ℕ) (kept : Kept) (card : Card) → t ≤ u → SitsAccepted kept card ⊎ LeftSince (t / 60) (left_of kept.left card) → LeftSince (t / 60) (left_of (cut_off u kept).left card)
left-cut u t kept card le stays = ⊎_elim
    (λ sits. by sits.0 sits.1 sits.2)
    (λ left. since-left (t / 60) (u / 60) kept.seats.codriver (with_left (u / 60) kept.seats.driver kept.left) card (omega (arith, le)) (since-left (t / 60) (u / 60) kept.seats.driver kept.left card (omega (arith, le)) left))
    stays
  where
    own : (n : ℕ) (left : Lefts) → LeftSince (t / 60) (left_of (with_left (u / 60) (Some (record { card = card; newest = Some n })) left) card)
    own n left = subst (LeftSince (t / 60)) (sym (left-own (u / 60) (record { card = card; newest = Some n }) left card refl)) (let e : t / 60 ≤ u / 60 = omega (arith, le) in e)

    by : (slot : Slot) (n : ℕ) → seat_in kept.seats slot ≡ Some (record { card = card; newest = Some n }) → LeftSince (t / 60) (left_of (cut_off u kept).left card)
    by Driver n is = since-left (t / 60) (u / 60) kept.seats.codriver (with_left (u / 60) kept.seats.driver kept.left) card (omega (arith, le))
        (subst (λ (q : Option Seat). LeftSince (t / 60) (left_of (with_left (u / 60) q kept.left) card)) (sym is) (own n kept.left))
    by CoDriver n is = subst (λ (q : Option Seat). LeftSince (t / 60) (left_of (with_left (u / 60) q (with_left (u / 60) kept.seats.driver kept.left)) card)) (sym is) (own n (with_left (u / 60) kept.seats.driver kept.left))

-- ---- so it is with a card that was judged in time

pub since-on : (o : Origin) (u : ℕ) (kept after : Kept) (card : Card) (t : ℕ) → GoesOnIn u kept after card → IsWrittenSince o kept u card t → IsWrittenSince o after u card t
since-on o u kept after card t goes h = record {
  stored = h.stored;
  past = h.past;
  stays = ⊎_elim
      (λ same. ⊎_elim (λ sits. inl (same.0 sits)) (λ left. inr (subst (LeftSince (t / 60)) (sym same.1) left)) h.stays)
      (λ now. inr (subst (LeftSince (t / 60)) (sym now) (let past = h.past in let e : t / 60 ≤ u / 60 = omega (arith, past) in e)))
      goes;
}

pub since-later : (o : Origin) (u later : ℕ) (kept : Kept) (card : Card) (t : ℕ) → u ≤ later → IsWrittenSince o kept u card t → IsWrittenSince o kept later card t
since-later o u later kept card t le h = record { stored = h.stored; past = (let past = h.past in omega (arith, past, le)); stays = h.stays }

pub since-cut : (o : Origin) (u : ℕ) (kept : Kept) (card : Card) (t : ℕ) → IsWrittenSince o kept u card t → IsWrittenSince o (cut_off u kept) u card t
since-cut o u kept card t h = record { stored = h.stored; past = h.past; stays = inr (left-cut u t kept card h.past h.stays) }
