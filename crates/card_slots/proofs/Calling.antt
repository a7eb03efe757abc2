-- What is kept stands for the calls so far, call by call.
use Rattle.std.proofs.Common.{◌≡◌, ◌∙◌, ℕ, zero, suc, ◌+◌, ◌/◌, ◌≤◌, Bool, true, false, cond, Option, Some, None, List, [], ◌∷◌, ◌++◌, refl, ap, sym, arith, take, is_some}
use Rattle.std.specs.Prelude.{nat_eq, find, option_map, not, ◌&&◌}
use Rattle.std.proofs.lemmas.List.{take-take}
use Rattle.std.proofs.lemmas.List.Sums.{fold-append}
use Rattle.activity_codec.specs.declared.values.Slot.{Slot}
use Rattle.trace_model.specs.declared.Card.{Card}
use Rattle.trace_model.specs.declared.Card.TheVariants.{A, B}
use Rattle.card_slots.specs.declared.seats.Seat.{Seat}
use Rattle.card_slots.specs.declared.seats.Ended.{Ended}
use Rattle.card_slots.specs.Calls.{SlotCall, Put, Take, CutAt, EndMinute, Seats, Table, seat_in, with_seat, powerless, leaving, has_left, is_earlier, present_of, ending, after_call, no_call, table_of, ended_in, present_in, present_by}
use Rattle.card_slots.specs.Kept.{Kept, left_in, with_left, nothing_yet, put_in, taken, cut_off, minute_ended, SlotsAre, SlotsRemember}
use Rattle.card_slots.proofs.Leaving.{leaves, later}

-- one call more is one step more
table_of-more : (calls : List SlotCall) (call : SlotCall) → table_of (calls ++ call ∷ []) ≡ after_call (table_of calls) call
unfolding table_of
table_of-more calls call = fold-append after_call no_call calls (call ∷ [])

-- a step that keeps what is kept standing
stands-more : (kept : Kept) (calls : List SlotCall) (call : SlotCall) → SlotsAre kept (after_call (table_of calls) call) → SlotsRemember kept (calls ++ call ∷ [])
stands-more kept calls call holds = record { holds = rw table_of-more holds }

-- the same value stands for the same calls
pub by-value : (now same : Kept) (calls : List SlotCall) → SlotsRemember same calls → now ≡ same → SlotsRemember now calls
by-value now same calls h is = rw is h

pub new-stands : SlotsRemember nothing_yet []
unfolding table_of
new-stands = record {
  holds = record {
    minute = refl;
    seats = refl;
    left = record { same = λ card m le. none-same card m; most = λ card m is. none-most card m is };
    past = refl;
  };
}
  where
    none-same : (card : Card) (m : ℕ) → left_in (record { a = None; b = None }) card m ≡ has_left [] card m
    none-same A m = refl
    none-same B m = refl

    none-most : (card : Card) (m : ℕ) → left_in (record { a = None; b = None }) card m ≡ true → m ≤ 0
    none-most A m is = cc
    none-most B m is = cc

pub put-stands : (kept : Kept) (calls : List SlotCall) (slot : Slot) (card : Card) (newest : Option ℕ) →
    SlotsRemember kept calls → SlotsRemember (put_in slot card newest kept) (calls ++ Put slot card newest ∷ [])
put-stands kept calls slot card newest h =
    stands-more (put_in slot card newest kept) calls (Put slot card newest) (record {
      minute = h.holds.minute;
      seats = ap (λ (s : Seats). with_seat s slot (Some (record { card = card; newest = newest }))) h.holds.seats;
      left = h.holds.left;
      past = h.holds.past;
    })

pub take-stands : (kept : Kept) (calls : List SlotCall) (slot : Slot) (second : ℕ) → kept.minute ≤ second / 60 →
    SlotsRemember kept calls → SlotsRemember (taken slot second kept) (calls ++ Take slot second ∷ [])
take-stands kept calls slot second from h =
    stands-more (taken slot second kept) calls (Take slot second) (record {
      minute = refl;
      seats = ap (λ (s : Seats). with_seat s slot None) h.holds.seats;
      left = rw (← h.holds.seats) (leaves kept.minute kept.left (table_of calls).left h.holds.left (second / 60) from (seat_in kept.seats slot));
      past = h.holds.past;
    })

pub cut-stands : (kept : Kept) (calls : List SlotCall) (second : ℕ) → kept.minute ≤ second / 60 →
    SlotsRemember kept calls → SlotsRemember (cut_off second kept) (calls ++ CutAt second ∷ [])
cut-stands kept calls second from h =
    let q : ℕ = second / 60 in
    let all : List (Card × ℕ) = (table_of calls).left in
    let first = leaves kept.minute kept.left all h.holds.left q from kept.seats.driver in
    let second_one = leaves q (with_left q kept.seats.driver kept.left) (all ++ leaving q kept.seats.driver) first q (omega arith) kept.seats.codriver in
    stands-more (cut_off second kept) calls (CutAt second) (record {
      minute = refl;
      seats = ap (λ (s : Seats). record { driver = powerless s.driver; codriver = powerless s.codriver }) h.holds.seats;
      left = rw (← h.holds.seats) second_one;
      past = h.holds.past;
    })

-- the same cards are present, whichever way it is told who left
present_of-same : (left other : Card → ℕ → Bool) (m : ℕ) → ((card : Card) → left card m ≡ other card m) → (seat : Option Seat) → present_of left m seat ≡ present_of other m seat
present_of-same left other m same None = refl
present_of-same left other m same (Some seat) = ap (λ (b : Bool). cond (is_earlier seat.newest m && not b) (Some seat.card) None) (same seat.card)

ending-same : (left other : Card → ℕ → Bool) (m : ℕ) → ((card : Card) → left card m ≡ other card m) → (seats : Seats) → ending left m seats ≡ ending other m seats
ending-same left other m same seats =
    ap (λ (d : Option Card). record { minute = m; present = record { driver = d; codriver = present_of left m seats.codriver } }) (present_of-same left other m same seats.driver)
    ∙ ap (λ (c : Option Card). record { minute = m; present = record { driver = present_of other m seats.driver; codriver = c } }) (present_of-same left other m same seats.codriver)

pub end-stands : (kept : Kept) (calls : List SlotCall) (m : ℕ) → kept.minute ≤ m →
    SlotsRemember kept calls → SlotsRemember (minute_ended m kept) (calls ++ EndMinute m ∷ [])
end-stands kept calls m from h =
    let table : Table = table_of calls in
    let same = ending-same (left_in kept.left) (has_left table.left) m (λ card. h.holds.left.same card m from) kept.seats in
    let seats = ap (λ (s : Seats). ending (has_left table.left) m s) h.holds.seats in
    let past : take 3 kept.past ≡ take 3 table.ended = ap (take 3) h.holds.past ∙ take-take 3 4 table.ended (omega arith) in
    let le : kept.minute ≤ m + 1 = omega arith in
    stands-more (minute_ended m kept) calls (EndMinute m) (record {
      minute = refl;
      seats = h.holds.seats;
      left = later kept.minute kept.left table.left h.holds.left (m + 1) le;
      past = ap (λ (e : Ended). e ∷ take 3 kept.past) (same ∙ seats) ∙ ap (λ (es : List Ended). ending (has_left table.left) m table.seats ∷ es) past;
    })

-- what is found in a front is found in the whole
find-front : {X : Type 0} (p : X → Bool) (n : ℕ) (xs : List X) (x : X) → find p (take n xs) ≡ Some x → find p xs ≡ Some x
find-front p zero xs x is = cc
find-front p (suc n) [] x is = is
find-front {X} p (suc n) (y ∷ xs) x is = go (p y) is (find-front p n xs x)
  where
    go : (b : Bool) → cond b (Some y) (find p (take n xs)) ≡ Some x → (find p (take n xs) ≡ Some x → find p xs ≡ Some x) → cond b (Some y) (find p xs) ≡ Some x
    go true is rest = is
    go false is rest = rest is

pub present-stands : (kept : Kept) (calls : List SlotCall) (m : ℕ) → is_some (present_in kept.past m) ≡ true →
    SlotsRemember kept calls → present_in kept.past m ≡ present_by calls m
present-stands kept calls m there h = go (ended_in kept.past m) refl there
  where
    go : (o : Option Ended) → ended_in kept.past m ≡ o → is_some (option_map {T = Ended} (λ e. e.present) o) ≡ true →
        option_map {T = Ended} (λ e. e.present) o ≡ present_by calls m
    go None is gone = cc
    go (Some e) is found =
        let front : ended_in (take 4 (table_of calls).ended) m ≡ Some e = ap (λ (es : List Ended). ended_in es m) (sym h.holds.past) ∙ is in
        sym (ap (λ (o : Option Ended). option_map {T = Ended} (λ x. x.present) o) (find-front (λ (x : Ended). nat_eq x.minute m) 4 (table_of calls).ended e front))
