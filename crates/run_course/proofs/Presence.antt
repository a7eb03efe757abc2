-- Who is present, by the slots and by the history: at each step of a run.
use Rattle.std.proofs.Common.{◌≡◌, ◌⊎◌, inl, inr, ⊎_elim, ℕ, zero, suc, ◌+◌, ◌/◌, ◌<◌, ◌≤◌, Bool, true, false, cond, not, ◌&&◌, ◌||◌, nat_eq, nat_lt, Option, Some, None, List, [], ◌∷◌, ◌++◌, All, take, refl, ap, sym, subst, ◌∙◌, arith, is_some, append-nil, append_assoc}
use Rattle.std.specs.Prelude.{option_map, unwrap_or, filter}
use Rattle.std.specs.List.{list_any}
use Rattle.std.proofs.lemmas.Bool.Decides.{nat_tests}
use Rattle.std.proofs.lemmas.Bool.{eqb-true, eqb-false}
use Rattle.std.proofs.lemmas.List.Elements.{All-nil, All-push, All-append, All-weaker, filter-append}
use Rattle.std.proofs.lemmas.List.Folds.{list_any-append}
use Rattle.activity_codec.specs.declared.values.Slot.{Slot}
use Rattle.activity_codec.specs.declared.values.Slot.TheVariants.{Driver, CoDriver}
use Rattle.activity_codec.proofs.ByTest.{by_test}
use Rattle.trace_model.specs.declared.Card.{Card}
use Rattle.trace_model.specs.declared.Card.TheVariants.{A, B}
use Rattle.minute_model.specs.Second.{minute_of}
use Rattle.minute_model.specs.Activity.{last}
use Rattle.minute_model.proofs.Ranges.{last-push}
use Rattle.log_model.specs.Slots.{Slots, Sitting, same_card, in_slot, is_accepted}
use Rattle.log_model.specs.Course.{ToldSecond, with_slot, powerless, card_in}
use Rattle.history_model.specs.Minutes.{HistoryMinute}
use Rattle.history_model.specs.Presence.{Start, card_start, expected_entries, newest_by, newest_minute, is_present, present_sitting, in_minute, present_in as present_by_history}
use Rattle.history_model.proofs.Filters.{filter-none, all-front}
use Rattle.history_model.proofs.Stilled.{present-still}
use Rattle.run_unit_course.specs.Turn.{cut_at_end}
use Rattle.card_slots.specs.declared.seats.Seat.{Seat}
use Rattle.card_slots.specs.declared.seats.Ended.{Ended}
use Rattle.card_slots.specs.declared.seats.Lefts.{Lefts}
use Rattle.card_slots.specs.declared.seats.Present.{Present}
use Rattle.card_slots.specs.Calls.{SitsAlike, present_in, present_of, is_earlier, ending, seat_in, is_card}
use Rattle.card_slots.specs.Calls as seats
use Rattle.card_slots.specs.Kept.{Kept, IsFree, left_in, with_left, put_in, taken, cut_off, minute_ended}
use Rattle.card_slots.proofs.Newest.{new-knows, put-knows, take-knows, cut-knows, end-knows}
use Rattle.run_course.specs.Presence.{IsNewestAt, IsNewest, SitsAs, Falls, has_left, present_at, EndsWith, SlotsTell, SlotsAgree, SlotsTellWhoIsPresent, NobodySits, ACardIsPutIn, ACardIsTakenOut, PowerIsLost, ASecondHasGone, TheLastSecondIsCut, TheMinuteGoesOn, AMinuteEnds, TimePasses, MinutesAreKept, WhatWasKeptIsFound}

-- CARDS
same-self : (c : Card) → same_card c c ≡ true
same-self A = refl
same-self B = refl

same-turned : (c d : Card) → same_card c d ≡ same_card d c
same-turned A A = refl
same-turned A B = refl
same-turned B A = refl
same-turned B B = refl

or-nothing : (b : Bool) → (b || false) ≡ b
or-nothing true = refl
or-nothing false = refl

not_both : (b : Bool) → b ≡ true → b ≡ false → ⊥
not_both b passes fails = let e : true ≡ false = sym passes ∙ fails in cc

-- THE MINUTE OF A LEAVING
-- the card of a slot leaves in this minute
left-now : (q : ℕ) (seat : Option Seat) (left : Lefts) (card : Card) → left_in (with_left q seat left) card q ≡ (left_in left card q || is_card seat card)
left-now q None left card = sym (or-nothing (left_in left card q))
left-now q (Some seat) left card = by seat.card card
  where
    here : nat_eq q q ≡ true
    here = grind (arith, nat_tests)

    both : (b : Bool) → true ≡ (b || true)
    both true = refl
    both false = refl

    by : (c card : Card) → left_in (with_left q (Some (record { card = c; newest = seat.newest })) left) card q ≡ (left_in left card q || same_card c card)
    by A A = here ∙ both (left_in left A q)
    by A B = sym (or-nothing (left_in left B q))
    by B A = sym (or-nothing (left_in left A q))
    by B B = here ∙ both (left_in left B q)

-- another card's leaving stays
left-other : (q : ℕ) (seat : Option Seat) (left : Lefts) (card : Card) (m : ℕ) → is_card seat card ≡ false → left_in (with_left q seat left) card m ≡ left_in left card m
left-other q None left card m fails = refl
left-other q (Some seat) left card m fails = by seat.card card fails
  where
    by : (c card : Card) → same_card c card ≡ false → left_in (with_left q (Some (record { card = c; newest = seat.newest })) left) card m ≡ left_in left card m
    by A A fails = absurd (cc)
    by A B fails = refl
    by B A fails = refl
    by B B fails = absurd (cc)

-- it was in this minute, or before
left-either : (q : ℕ) (seat : Option Seat) (left : Lefts) (card : Card) (m : ℕ) → left_in (with_left q seat left) card m ≡ true → (q ≡ m) ⊎ (left_in left card m ≡ true)
left-either q None left card m is = inr is
left-either q (Some seat) left card m is = by seat.card card is
  where
    by : (c card : Card) → left_in (with_left q (Some (record { card = c; newest = seat.newest })) left) card m ≡ true → (q ≡ m) ⊎ (left_in left card m ≡ true)
    by A A is = inl (eqb-true q m is)
    by A B is = inr is
    by B A is = inr is
    by B B is = inl (eqb-true q m is)

-- SLOTS THAT SIT AS THE LOG TELLS
module _ (start : Start) (past now : List HistoryMinute) (from next : ℕ) (kept later : Kept) (le : from ≤ next) where
  newest-on : (card : Card) → ((newest u : ℕ) → u / 60 ≤ from → IsNewestAt start past kept card newest u → IsNewestAt start now later card newest u) →
      (n a : Option ℕ) → IsNewest start past from kept card n a → IsNewest start now next later card n a
  newest-on card on None None is = tt
  newest-on card on None (Some u) is = is
  newest-on card on (Some newest) None is = is
  newest-on card on (Some newest) (Some u) is = let early : u / 60 ≤ from = is.0 in (omega (arith, early, le), on newest u early is.1)

  sits-on : (seat : Option Seat) → ((card : Card) → is_card seat card ≡ true → (newest u : ℕ) → u / 60 ≤ from → IsNewestAt start past kept card newest u → IsNewestAt start now later card newest u) →
      (sitting : Option Sitting) → SitsAs start past from kept seat sitting → SitsAs start now next later seat sitting
  sits-on None on None is = tt
  sits-on None on (Some sitting) is = is
  sits-on (Some seat) on None is = is
  sits-on (Some seat) on (Some sitting) is = (is.0, newest-on seat.card (on seat.card (same-self seat.card)) seat.newest sitting.accepted is.1)

-- what is told of leavings is the same
same-lefts : (start : Start) (past : List HistoryMinute) (kept later : Kept) (card : Card) (newest u : ℕ) → ((m : ℕ) → left_in later.left card m ≡ left_in kept.left card m) →
    IsNewestAt start past kept card newest u → IsNewestAt start past later card newest u
same-lefts start past kept later card newest u same is = λ m from. ((is m from).0, λ le. ⊎_elim (λ early. inl early) (λ left. inr (same m ∙ left)) ((is m from).1 le))

sits-alike : (start : Start) (past : List HistoryMinute) (from : ℕ) (kept : Kept) (seat : Option Seat) (sitting : Option Sitting) → SitsAs start past from kept seat sitting → SitsAlike seat sitting
sits-alike start past from kept None None is = tt
sits-alike start past from kept None (Some sitting) is = is
sits-alike start past from kept (Some seat) None is = is
sits-alike start past from kept (Some seat) (Some sitting) is = (is.0, by seat.newest sitting.accepted is.1)
  where
    by : (n a : Option ℕ) → IsNewest start past from kept seat.card n a → is_some n ≡ is_some a
    by None None is = refl
    by None (Some u) is = absurd is
    by (Some newest) None is = absurd is
    by (Some newest) (Some u) is = refl

-- the card of a slot, by both
card-alike : (start : Start) (past : List HistoryMinute) (from : ℕ) (kept : Kept) (seat : Option Seat) (sitting : Option Sitting) → SitsAs start past from kept seat sitting →
    (card : Card) → is_card seat card ≡ list_any (same_card card) (card_in sitting)
card-alike start past from kept None None is card = refl
card-alike start past from kept None (Some sitting) is card = absurd is
card-alike start past from kept (Some seat) None is card = absurd is
card-alike start past from kept (Some seat) (Some sitting) is card =
    ap (λ (c : Card). same_card c card) is.0 ∙ same-turned sitting.card card ∙ sym (or-nothing (same_card card sitting.card))

-- MINUTES KEPT LATER change no newest minute
newest-still : (start : Start) (past more : List HistoryMinute) (card : Card) (u from : ℕ) → u / 60 ≤ from → All (λ i. from ≤ i.minute) more → newest_minute start (past ++ more) card u ≡ newest_minute start past card u
unfolding newest_minute
newest-still start past more card u from early each =
    ap (λ (is : List HistoryMinute). newest_by (card_start start card) (expected_entries start card is))
    (filter-append (λ i. nat_lt i.minute (u / 60)) past more
    ∙ ap (λ (is : List HistoryMinute). filter (λ i. nat_lt i.minute (u / 60)) past ++ is) (filter-none (λ i. nat_lt i.minute (u / 60)) more (All-weaker (λ (i : HistoryMinute). from ≤ i.minute) (λ i. nat_lt i.minute (u / 60) ≡ false) (λ i le. late i.minute (u / 60) (omega (arith, le, early))) more each))
    ∙ append-nil (filter (λ i. nat_lt i.minute (u / 60)) past))
  where
    late : (m k : ℕ) → k ≤ m → nat_lt m k ≡ false
    late m k le = grind (arith, nat_tests)

newest-word : (start : Start) (past : List HistoryMinute) (card : Card) (u : ℕ) → (card_start start card).word ≤ newest_minute start past card u
unfolding newest_minute
newest-word start past card u = omega arith

-- WHO IS PRESENT in a minute that ends
module _ (start : Start) (past : List HistoryMinute) (from : ℕ) (kept : Kept) (m : ℕ) (le : from ≤ m) (ts : List ToldSecond)
    (gone : (card : Card) → left_in kept.left card m ≡ list_any (λ t. list_any (same_card card) t.course.left) ts) where
  test-true : (a b : ℕ) → a < b → nat_lt a b ≡ true
  test-true a b lt = grind (arith, nat_tests)

  test-false : (a b : ℕ) → b ≤ a → nat_lt a b ≡ false
  test-false a b ge = grind (arith, nat_tests)

  test-same : (a b c : ℕ) → ((a < c) → (b < c)) → ((b < c) → (a < c)) → nat_lt a c ≡ nat_lt b c
  test-same a b c to back = by_test (nat_lt a c)
      (λ passes. passes ∙ sym (test-true b c (to (grind (arith, nat_tests)))))
      (λ fails. fails ∙ sym (by_test (nat_lt b c) (λ passes. absurd (let lt : a < c = back (grind (arith, nat_tests)) in not_both (nat_lt a c) (test-true a c lt) fails)) (λ other. other)))

  and-left : (a b : Bool) → b ≡ true → (a && not b) ≡ false
  and-left a true is = fails a
    where
      fails : (a : Bool) → (a && false) ≡ false
      fails true = refl
      fails false = refl
  and-left a false is = absurd (cc)

  present-same : (card : Card) (newest u : ℕ) → u / 60 ≤ m → IsNewestAt start past kept card newest u →
      (nat_lt newest m && not (left_in kept.left card m)) ≡ (nat_lt (newest_minute start past card u) m && not (left_in kept.left card m))
  present-same card newest u early is = by_test (nat_lt (card_start start card).word m)
      (λ later.
      let lt : (card_start start card).word < m = grind (arith, nat_tests) in
      let both = (is m early).0 lt in
      ap (λ (b : Bool). b && not (left_in kept.left card m)) (test-same newest (newest_minute start past card u) m both.0 both.1))
      (λ fails.
      let ge : m ≤ (card_start start card).word = grind (arith, nat_tests) in
      let word = newest-word start past card u in
      let none : nat_lt (newest_minute start past card u) m ≡ false = test-false (newest_minute start past card u) m (omega (arith, ge, word)) in
      ⊎_elim
      (λ low. ap (λ (b : Bool). b && not (left_in kept.left card m)) (test-false newest m low ∙ sym none))
      (λ left. and-left (nat_lt newest m) (left_in kept.left card m) left ∙ sym (and-left (nat_lt (newest_minute start past card u) m) (left_in kept.left card m) left))
      ((is m early).1 ge))

  earlier-same : (card : Card) (n a : Option ℕ) → IsNewest start past from kept card n a → (is_earlier n m && not (left_in kept.left card m)) ≡ is_present start past m ts card a
  earlier-same card None None is = refl
  earlier-same card None (Some u) is = absurd is
  earlier-same card (Some newest) None is = absurd is
  earlier-same card (Some newest) (Some u) is =
      let early : u / 60 ≤ from = is.0 in
      present-same card newest u (omega (arith, early, le)) is.1
      ∙ ap (λ (b : Bool). nat_lt (newest_minute start past card u) m && not b) (gone card)

  sits-present : (seat : Option Seat) (sitting : Option Sitting) → SitsAs start past from kept seat sitting → present_of (left_in kept.left) m seat ≡ present_sitting start past m ts sitting
  sits-present None None is = refl
  sits-present None (Some sitting) is = absurd is
  sits-present (Some seat) None is = absurd is
  sits-present (Some seat) (Some sitting) is =
      ap (λ (b : Bool). cond b (Some seat.card) None) (earlier-same seat.card seat.newest sitting.accepted is.1)
      ∙ ap (λ (c : Card). cond (is_present start past m ts c sitting.accepted) (Some c) None) is.0

-- the minute of the last second, by the history
present-last : (start : Start) (told : List ToldSecond) (past : List HistoryMinute) (number : ℕ) (slots : Slots) (e : EndsWith told number slots) (slot : Slot) →
    present_by_history start told past (number / 60) slot ≡ present_sitting start past (number / 60) (in_minute (number / 60) told) (in_slot slots slot)
unfolding present_by_history
present-last start told past number slots e slot =
    ap (λ (o : Option ToldSecond). present_sitting start past (number / 60) (in_minute (number / 60) told) (unwrap_or (option_map {T = ToldSecond} (λ t. in_slot t.course.slots slot) o) None)) newest
    ∙ ap (λ (s : Slots). present_sitting start past (number / 60) (in_minute (number / 60) told) (in_slot s slot)) e.slots_are
  where
    same : nat_eq (minute_of e.last.second) (number / 60) ≡ true
    same = let is = e.number_is in let q : e.last.second.number / 60 ≡ number / 60 = ap (λ (n : ℕ). n / 60) is in grind (arith, nat_tests)

    one : in_minute (number / 60) (e.last ∷ []) ≡ e.last ∷ []
    one = rw same refl

    newest : last (in_minute (number / 60) told) ≡ Some e.last
    newest =
        ap (λ (ts : List ToldSecond). last (in_minute (number / 60) ts)) e.are
        ∙ ap last (filter-append (λ (t : ToldSecond). nat_eq (minute_of t.second) (number / 60)) e.front (e.last ∷ []) ∙ ap (λ (ts : List ToldSecond). in_minute (number / 60) e.front ++ ts) one)
        ∙ last-push (in_minute (number / 60) e.front) e.last

-- MINUTES THAT FALL
falls-raised : (minute later : ℕ) (past : List Ended) → minute ≤ later → Falls minute past → Falls later past
falls-raised minute later [] le h = tt
falls-raised minute later (e ∷ past) le h = let lt : e.minute < minute = h.0 in (omega (arith, lt, le), h.1)

falls-front : (n minute : ℕ) (past : List Ended) → Falls minute past → Falls minute (take n past)
falls-front zero minute past h = tt
falls-front (suc n) minute [] h = tt
falls-front (suc n) minute (e ∷ past) h = (h.0, falls-front n e.minute past h.1)

-- what is among them is earlier
falls-within : (minute : ℕ) (past : List Ended) (m : ℕ) → Falls minute past → is_some (present_in past m) ≡ true → m < minute
falls-within minute [] m h is = absurd (cc)
falls-within minute (e ∷ past) m h is = by_test (nat_eq e.minute m)
    (λ here. let same : e.minute ≡ m = eqb-true e.minute m here in let lt : e.minute < minute = h.0 in omega (arith, same, lt))
    (λ other.
    let rest : is_some (present_in past m) ≡ true = rw other at is in
    let below = falls-within e.minute past m h.1 rest in let lt : e.minute < minute = h.0 in omega (arith, below, lt))

-- the newest n of them have those of the last n minutes
falls-found : (n minute : ℕ) (past : List Ended) (m : ℕ) → Falls minute past → minute ≤ m + n → is_some (present_in past m) ≡ true → present_in (take n past) m ≡ present_in past m
falls-found zero minute past m h late is = absurd (let lt = falls-within minute past m h is in omega (arith, lt, late))
falls-found (suc n) minute [] m h late is = refl
falls-found (suc n) minute (e ∷ past) m h late is = by_test (nat_eq e.minute m)
    (λ here. rw here refl)
    (λ other.
    let rest : is_some (present_in past m) ≡ true = rw other at is in
    let lt : e.minute < minute = h.0 in
    rw other (falls-found n e.minute past m h.1 (omega (arith, lt, late)) rest))

-- SECONDS
-- no second of a later minute is among these
none-later : (told : List ToldSecond) (number m : ℕ) → number / 60 < m → All (λ t. t.second.number ≤ number) told → in_minute m told ≡ []
none-later told number m later each =
    filter-none (λ t. nat_eq (minute_of t.second) m) told
    (All-weaker (λ (t : ToldSecond). t.second.number ≤ number) (λ t. nat_eq (minute_of t.second) m ≡ false) (λ t le. other (minute_of t.second) m (omega (arith, le, later))) told each)
  where
    other : (a b : ℕ) → a < b → nat_eq a b ≡ false
    other a b lt = grind (arith, nat_tests)

-- a second more of the minute: its leavings
left-more : (told : List ToldSecond) (t : ToldSecond) (card : Card) → has_left [] (told ++ t ∷ []) card (t.second.number / 60) ≡ has_left t.course.left told card (t.second.number / 60)
left-more told t card =
    ap (list_any (λ (t : ToldSecond). list_any (same_card card) t.course.left)) (filter-append (λ (x : ToldSecond). nat_eq (minute_of x.second) (t.second.number / 60)) told (t ∷ []) ∙ ap (λ (ts : List ToldSecond). in_minute (t.second.number / 60) told ++ ts) one)
    ∙ list_any-append (λ (t : ToldSecond). list_any (same_card card) t.course.left) (in_minute (t.second.number / 60) told) (t ∷ [])
    ∙ turned (list_any (λ (t : ToldSecond). list_any (same_card card) t.course.left) (in_minute (t.second.number / 60) told)) (list_any (same_card card) t.course.left)
  where
    same : (a : ℕ) → nat_eq a a ≡ true
    same a = grind (arith, nat_tests)

    one : in_minute (t.second.number / 60) (t ∷ []) ≡ t ∷ []
    one = rw (same (t.second.number / 60)) refl

    turned : (x y : Bool) → (x || (y || false)) ≡ (y || x)
    turned true true = refl
    turned true false = refl
    turned false true = refl
    turned false false = refl

-- in a later minute nobody has left
gone-later : (told : List ToldSecond) (number later : ℕ) (kept : Kept) (card : Card) → number / 60 < later / 60 → ((m : ℕ) → left_in kept.left card m ≡ true → m ≤ number / 60) → All (λ t. t.second.number ≤ number) told →
    left_in kept.left card (later / 60) ≡ has_left [] told card (later / 60)
gone-later told number later kept card lt latest each =
    by_test (left_in kept.left card (later / 60)) (λ left. absurd (let le = latest (later / 60) left in omega (arith, le, lt))) (λ none. none)
    ∙ sym (ap (list_any (λ (t : ToldSecond). list_any (same_card card) t.course.left)) (none-later told number (later / 60) lt each))

seconds-later : (told : List ToldSecond) (number later : ℕ) → number ≤ later → All (λ t. t.second.number ≤ number) told → All (λ t. t.second.number ≤ later) told
seconds-later told number later le each = All-weaker (λ (t : ToldSecond). t.second.number ≤ number) (λ t. t.second.number ≤ later) (λ t early. omega (arith, early, le)) told each

-- WHAT IS HAD OF IT
pub slots-agree : SlotsAgree
slots-agree start told past left number from slots k h = record {
  driver = sits-alike start past from k k.seats.driver slots.driver h.driver;
  codriver = sits-alike start past from k k.seats.codriver slots.codriver h.codriver;
}

pub tell-present : SlotsTellWhoIsPresent
tell-present start told past left number from slots k h m le lt =
    h.ended m le lt [] (All-nil (λ (i : HistoryMinute). from ≤ i.minute)) ∙ ap (λ (is : List HistoryMinute). Some (present_at start told is m)) (append-nil past)

-- THE STEPS
pub nobody-sits : NobodySits
nobody-sits start past number from le = record {
  driver = tt;
  codriver = tt;
  apart = λ card is. refl;
  gone = λ card. none card;
  latest = λ card m is. absurd (never card m is);
  ended = λ m ge lt more each. absurd (omega (arith, ge, lt, le));
  so_far = All-nil (λ (t : ToldSecond). t.second.number ≤ number);
  falls = tt;
  newest = new-knows;
  minute = omega arith;
}
  where
    none : (card : Card) → left_in (record { a = None; b = None }) card (number / 60) ≡ false
    none A = refl
    none B = refl

    never : (card : Card) (m : ℕ) → left_in (record { a = None; b = None }) card m ≡ true → ⊥
    never A m is = let e : false ≡ true = is in cc
    never B m is = let e : false ≡ true = is in cc

same-is : (c d : Card) → same_card c d ≡ true → c ≡ d
same-is A A is = refl
same-is A B is = absurd (cc)
same-is B A is = absurd (cc)
same-is B B is = refl

pub put-in : ACardIsPutIn
put-in start told past left number from slots k h slot card newest accepted free is = by slot free
  where
    stays : (later : Kept) → ((c : Card) (m : ℕ) → left_in later.left c m ≡ left_in k.left c m) → (seat : Option Seat) (sitting : Option Sitting) → SitsAs start past from k seat sitting → SitsAs start past from later seat sitting
    stays later same seat sitting sits =
        sits-on start past past from from k later (omega arith) seat (λ c at n u early newest_at. same-lefts start past k later c n u (same c) newest_at) sitting sits

    own : (later : Kept) → ((c : Card) (m : ℕ) → left_in later.left c m ≡ left_in k.left c m) → IsNewest start past from later card newest accepted
    own later same = newest-on start past past from from k later (omega arith) card (λ n u early newest_at. same-lefts start past k later card n u (same card) newest_at) newest accepted is

    by : (at : Slot) → IsFree k.seats at card → SlotsTell start told past left number from (with_slot slots at (Some (record { card = card; accepted = accepted }))) (put_in at card newest k)
    by Driver f = record {
      driver = (refl, own (put_in Driver card newest k) (λ c m. refl));
      codriver = stays (put_in Driver card newest k) (λ c m. refl) k.seats.codriver slots.codriver h.codriver;
      apart = λ c here. let e = same-is card c here in subst (λ (c : Card). is_card k.seats.codriver c ≡ false) e f.elsewhere;
      gone = h.gone;
      latest = h.latest;
      ended = h.ended;
      so_far = h.so_far;
      falls = h.falls;
      newest = put-knows k Driver card newest f h.newest;
      minute = h.minute;
    }
    by CoDriver f = record {
      driver = stays (put_in CoDriver card newest k) (λ c m. refl) k.seats.driver slots.driver h.driver;
      codriver = (refl, own (put_in CoDriver card newest k) (λ c m. refl));
      apart = λ c there. by_test (same_card card c)
          (λ same. let e = same-is card c same in absurd (not_both (is_card k.seats.driver c) there (subst (λ (c : Card). is_card k.seats.driver c ≡ false) e f.elsewhere)))
          (λ other. other);
      gone = h.gone;
      latest = h.latest;
      ended = h.ended;
      so_far = h.so_far;
      falls = h.falls;
      newest = put-knows k CoDriver card newest f h.newest;
      minute = h.minute;
    }

-- who has left, with the card of a slot
with-card : (left more : List Card) (told : List ToldSecond) (card : Card) (m : ℕ) (before is : Bool) → before ≡ has_left left told card m → is ≡ list_any (same_card card) more → (before || is) ≡ has_left (left ++ more) told card m
with-card left more told card m before is here also =
    ap (λ (b : Bool). b || is) here
    ∙ turned (list_any (same_card card) left) (list_any (λ t. list_any (same_card card) t.course.left) (in_minute m told)) is
    ∙ ap (λ (b : Bool). (list_any (same_card card) left || b) || list_any (λ t. list_any (same_card card) t.course.left) (in_minute m told)) also
    ∙ ap (λ (b : Bool). b || list_any (λ t. list_any (same_card card) t.course.left) (in_minute m told)) (sym (list_any-append (same_card card) left more))
  where
    turned : (x y z : Bool) → ((x || y) || z) ≡ ((x || z) || y)
    turned true y z = refl
    turned false true true = refl
    turned false true false = refl
    turned false false true = refl
    turned false false false = refl

pub taken-out : ACardIsTakenOut
taken-out start told past left number from slots k h slot = by slot
  where
    -- the card of the other slot
    stays : (at : Slot) (seat : Option Seat) (sitting : Option Sitting) → ((c : Card) → is_card seat c ≡ true → is_card (seat_in k.seats at) c ≡ false) → SitsAs start past from k seat sitting → SitsAs start past from (taken at number k) seat sitting
    stays at seat sitting other sits =
        sits-on start past past from from k (taken at number k) (omega arith) seat
        (λ c here n u early newest_at. same-lefts start past k (taken at number k) c n u (λ m. left-other (number / 60) (seat_in k.seats at) k.left c m (other c here)) newest_at) sitting sits

    gone-now : (seat : Option Seat) (sitting : Option Sitting) → SitsAs start past from k seat sitting → (card : Card) → left_in (with_left (number / 60) seat k.left) card (number / 60) ≡ has_left (left ++ card_in sitting) told card (number / 60)
    gone-now seat sitting sits card =
        left-now (number / 60) seat k.left card
        ∙ with-card left (card_in sitting) told card (number / 60) (left_in k.left card (number / 60)) (is_card seat card) (h.gone card) (card-alike start past from k seat sitting sits card)

    latest-now : (seat : Option Seat) (card : Card) (m : ℕ) → left_in (with_left (number / 60) seat k.left) card m ≡ true → m ≤ (number / 60)
    latest-now seat card m is = ⊎_elim (λ (now : (number / 60) ≡ m). omega (arith, now)) (λ before. h.latest card m before) (left-either (number / 60) seat k.left card m is)

    back : (c : Card) → is_card k.seats.codriver c ≡ true → is_card k.seats.driver c ≡ false
    back c there = by_test (is_card k.seats.driver c) (λ here. absurd (not_both (is_card k.seats.codriver c) there (h.apart c here))) (λ fails. fails)

    by : (at : Slot) → SlotsTell start told past (left ++ card_in (in_slot slots at)) number from (with_slot slots at None) (taken at number k)
    by Driver = record {
      driver = tt;
      codriver = stays Driver k.seats.codriver slots.codriver back h.codriver;
      apart = λ c here. absurd (let e : false ≡ true = here in cc);
      gone = gone-now k.seats.driver slots.driver h.driver;
      latest = latest-now k.seats.driver;
      ended = h.ended;
      so_far = h.so_far;
      falls = falls-raised k.minute (number / 60) k.past h.minute h.falls;
      newest = take-knows k Driver number h.minute h.newest;
      minute = omega arith;
    }
    by CoDriver = record {
      driver = stays CoDriver k.seats.driver slots.driver h.apart h.driver;
      codriver = tt;
      apart = λ c here. refl;
      gone = gone-now k.seats.codriver slots.codriver h.codriver;
      latest = latest-now k.seats.codriver;
      ended = h.ended;
      so_far = h.so_far;
      falls = falls-raised k.minute (number / 60) k.past h.minute h.falls;
      newest = take-knows k CoDriver number h.minute h.newest;
      minute = omega arith;
    }

pub power-lost : PowerIsLost
power-lost start told past left number from slots k h = record {
  driver = dark k.seats.driver slots.driver h.driver;
  codriver = dark k.seats.codriver slots.codriver h.codriver;
  apart = λ c here. card-same k.seats.codriver c ∙ h.apart c (sym (card-same k.seats.driver c) ∙ here);
  gone = λ card. left-now (number / 60) k.seats.codriver (with_left (number / 60) k.seats.driver k.left) card
      ∙ with-card (left ++ card_in slots.driver) (card_in slots.codriver) told card (number / 60) (left_in (with_left (number / 60) k.seats.driver k.left) card (number / 60)) (is_card k.seats.codriver card)
      (left-now (number / 60) k.seats.driver k.left card
      ∙ with-card left (card_in slots.driver) told card (number / 60) (left_in k.left card (number / 60)) (is_card k.seats.driver card) (h.gone card) (card-alike start past from k k.seats.driver slots.driver h.driver card))
      (card-alike start past from k k.seats.codriver slots.codriver h.codriver card);
  latest = λ card m is. ⊎_elim (λ (now : (number / 60) ≡ m). omega (arith, now))
      (λ before. ⊎_elim (λ (now : (number / 60) ≡ m). omega (arith, now)) (λ earlier. h.latest card m earlier) (left-either (number / 60) k.seats.driver k.left card m before))
      (left-either (number / 60) k.seats.codriver (with_left (number / 60) k.seats.driver k.left) card m is);
  ended = h.ended;
  so_far = h.so_far;
  falls = falls-raised k.minute (number / 60) k.past h.minute h.falls;
  newest = cut-knows k number h.minute h.newest;
  minute = omega arith;
}
  where
    dark : (seat : Option Seat) (sitting : Option Sitting) → SitsAs start past from k seat sitting → SitsAs start past from (cut_off number k) (seats.powerless seat) (powerless sitting)
    dark None None is = tt
    dark None (Some sitting) is = is
    dark (Some seat) None is = is
    dark (Some seat) (Some sitting) is = (is.0, tt)

    card-same : (seat : Option Seat) (c : Card) → is_card (seats.powerless seat) c ≡ is_card seat c
    card-same None c = refl
    card-same (Some seat) c = refl

present-at_still : (start : Start) (told : List ToldSecond) (t : ToldSecond) (past : List HistoryMinute) (m : ℕ) → m < minute_of t.second → present_at start (told ++ t ∷ []) past m ≡ present_at start told past m
present-at_still start told t past m lt =
    ap (λ (c : Option Card). record { driver = c; codriver = present_by_history start (told ++ t ∷ []) past m CoDriver }) (present-still start told t past m Driver lt)
    ∙ ap (λ (c : Option Card). record { driver = present_by_history start told past m Driver; codriver = c }) (present-still start told t past m CoDriver lt)

pub second-gone : ASecondHasGone
second-gone start told past from t k h = record {
  driver = h.driver;
  codriver = h.codriver;
  apart = h.apart;
  gone = λ card. h.gone card ∙ sym (left-more told t card);
  latest = h.latest;
  ended = λ m le lt more each. h.ended m le lt more each ∙ ap (λ (p : Present). Some p) (sym (present-at_still start told t (past ++ more) m lt));
  so_far = All-push (λ (t_ : ToldSecond). t_.second.number ≤ t.second.number) told t h.so_far (omega arith);
  falls = h.falls;
  newest = h.newest;
  minute = h.minute;
}

-- what a second of the minute adds to those that left
left-with : (told : List ToldSecond) (t : ToldSecond) (left : List Card) (card : Card) (m : ℕ) → minute_of t.second ≡ m → has_left left (told ++ t ∷ []) card m ≡ (list_any (same_card card) left || (list_any (λ t. list_any (same_card card) t.course.left) (in_minute m told) || list_any (same_card card) t.course.left))
left-with told t left card m is =
    ap (λ (b : Bool). list_any (same_card card) left || b)
    (ap (list_any (λ (t : ToldSecond). list_any (same_card card) t.course.left)) (filter-append (λ (x : ToldSecond). nat_eq (minute_of x.second) m) told (t ∷ []) ∙ ap (λ (ts : List ToldSecond). in_minute m told ++ ts) one)
    ∙ list_any-append (λ (t : ToldSecond). list_any (same_card card) t.course.left) (in_minute m told) (t ∷ [])
    ∙ ap (λ (b : Bool). list_any (λ (t : ToldSecond). list_any (same_card card) t.course.left) (in_minute m told) || b) (or-nothing (list_any (same_card card) t.course.left)))
  where
    same : nat_eq (minute_of t.second) m ≡ true
    same = grind (arith, nat_tests)

    one : in_minute m (t ∷ []) ≡ t ∷ []
    one = rw same refl

pub last-cut : TheLastSecondIsCut
last-cut start told past from t k h =
    let lost = power-lost start (told ++ t ∷ []) past [] t.second.number from t.course.slots k h in record {
      driver = lost.driver;
      codriver = lost.codriver;
      apart = lost.apart;
      gone = λ card. lost.gone card
          ∙ left-with told t (([] ++ card_in t.course.slots.driver) ++ card_in t.course.slots.codriver) card (t.second.number / 60) refl
          ∙ turned card
          ∙ sym (left-with told (cut_at_end t) [] card (t.second.number / 60) refl);
      latest = lost.latest;
      ended = λ m le lt more each. lost.ended m le lt more each
          ∙ ap (λ (p : Present). Some p) (present-at_still start told t (past ++ more) m lt ∙ sym (present-at_still start told (cut_at_end t) (past ++ more) m lt));
      so_far = All-push (λ (x : ToldSecond). x.second.number ≤ t.second.number) told (cut_at_end t) (all-front (λ (x : ToldSecond). x.second.number ≤ t.second.number) told (t ∷ []) h.so_far) (omega arith);
      falls = lost.falls;
      newest = lost.newest;
      minute = lost.minute;
    }
  where
    swapped : (a b c d : Bool) → ((a || b) || (c || d)) ≡ (c || ((d || a) || b))
    swapped true true true d = refl
    swapped true false true d = refl
    swapped true true false true = refl
    swapped true true false false = refl
    swapped true false false true = refl
    swapped true false false false = refl
    swapped false true true d = refl
    swapped false true false true = refl
    swapped false true false false = refl
    swapped false false true d = refl
    swapped false false false true = refl
    swapped false false false false = refl

    turned : (card : Card) →
        (list_any (same_card card) (([] ++ card_in t.course.slots.driver) ++ card_in t.course.slots.codriver) || (list_any (λ t. list_any (same_card card) t.course.left) (in_minute (t.second.number / 60) told) || list_any (same_card card) t.course.left))
        ≡ (list_any (same_card card) [] || (list_any (λ t. list_any (same_card card) t.course.left) (in_minute (t.second.number / 60) told) || list_any (same_card card) (cut_at_end t).course.left))
    turned card =
        let d : Bool = list_any (same_card card) (card_in t.course.slots.driver) in
        let c : Bool = list_any (same_card card) (card_in t.course.slots.codriver) in
        let told_ : Bool = list_any (λ (t : ToldSecond). list_any (same_card card) t.course.left) (in_minute (t.second.number / 60) told) in
        let left : Bool = list_any (same_card card) t.course.left in
        ap (λ (b : Bool). b || (told_ || left)) (list_any-append (same_card card) (card_in t.course.slots.driver) (card_in t.course.slots.codriver))
        ∙ swapped d c told_ left
        ∙ sym (ap (λ (b : Bool). told_ || b)
        (list_any-append (same_card card) (t.course.left ++ card_in t.course.slots.driver) (card_in t.course.slots.codriver)
        ∙ ap (λ (b : Bool). b || c) (list_any-append (same_card card) t.course.left (card_in t.course.slots.driver))))

pub goes-on : TheMinuteGoesOn
goes-on start told past left number later from slots k h le same = record {
  driver = h.driver;
  codriver = h.codriver;
  apart = h.apart;
  gone = λ card. subst (λ (q : ℕ). left_in k.left card q ≡ has_left left told card q) (sym same) (h.gone card);
  latest = λ card m is. let early = h.latest card m is in omega (arith, early, same);
  ended = λ m ge lt more each. h.ended m ge (omega (arith, lt, same)) more each;
  so_far = seconds-later told number later le h.so_far;
  falls = h.falls;
  newest = h.newest;
  minute = let early = h.minute in omega (arith, early, same);
}

-- more minutes are kept, from one on: who sits is told alike
sits-kept : (start : Start) (past more : List HistoryMinute) (from next : ℕ) (k : Kept) → from ≤ next → All (λ i. from ≤ i.minute) more → (seat : Option Seat) (sitting : Option Sitting) →
    SitsAs start past from k seat sitting → SitsAs start (past ++ more) next k seat sitting
sits-kept start past more from next k le each seat sitting sits =
    sits-on start past (past ++ more) from next k k le seat
    (λ c at newest u early is. subst (λ (n : ℕ). (m : ℕ) → u / 60 ≤ m → ((card_start start c).word < m → ((newest < m) → (n < m)) × ((n < m) → (newest < m))) × (m ≤ (card_start start c).word → (m ≤ newest) ⊎ (left_in k.left c m ≡ true)))
    (sym (newest-still start past more c u from early each)) is) sitting sits

pub minute-ends : AMinuteEnds
minute-ends start told past number later from slots k h e next le most = record {
  driver = sits (minute_ended (number / 60) k) (λ c m. refl) k.seats.driver slots.driver h.driver;
  codriver = sits (minute_ended (number / 60) k) (λ c m. refl) k.seats.codriver slots.codriver h.codriver;
  apart = h.apart;
  gone = λ card. gone-later told number later k card (omega (arith, next)) (h.latest card) h.so_far;
  latest = λ card m is. let early = h.latest card m is in omega (arith, early, next);
  ended = λ m ge lt more each. told-of m ge (omega (arith, lt, next)) more each;
  so_far = seconds-later told number later (omega (arith, next)) h.so_far;
  falls = (omega arith, falls-front 3 (number / 60) k.past (falls-raised k.minute (number / 60) k.past h.minute h.falls));
  newest = end-knows k (number / 60) h.minute h.newest;
  minute = omega (arith, next);
}
  where
    sits : (later_ : Kept) → ((c : Card) (m : ℕ) → left_in later_.left c m ≡ left_in k.left c m) → (seat : Option Seat) (sitting : Option Sitting) → SitsAs start past from k seat sitting → SitsAs start past from later_ seat sitting
    sits later_ same seat sitting at =
        sits-on start past past from from k later_ (omega arith) seat (λ c here n u early newest_at. same-lefts start past k later_ c n u (same c) newest_at) sitting at

    -- of the minute that ends
    now : (more : List HistoryMinute) → All (λ i. from ≤ i.minute) more → (slot : Slot) (seat : Option Seat) → SitsAs start past from k seat (in_slot slots slot) →
        present_of (left_in k.left) (number / 60) seat ≡ present_by_history start told (past ++ more) (number / 60) slot
    now more each slot seat at =
        sits-present start (past ++ more) from k (number / 60) le (in_minute (number / 60) told) h.gone seat (in_slot slots slot) (sits-kept start past more from from k (omega arith) each seat (in_slot slots slot) at)
        ∙ sym (present-last start told (past ++ more) number slots e slot)

    both : (more : List HistoryMinute) → All (λ i. from ≤ i.minute) more → (ending (left_in k.left) (number / 60) k.seats).present ≡ present_at start told (past ++ more) (number / 60)
    both more each =
        ap (λ (c : Option Card). record { driver = c; codriver = present_of (left_in k.left) (number / 60) k.seats.codriver }) (now more each Driver k.seats.driver h.driver)
        ∙ ap (λ (c : Option Card). record { driver = present_by_history start told (past ++ more) (number / 60) Driver; codriver = c }) (now more each CoDriver k.seats.codriver h.codriver)

    told-of : (m : ℕ) → from ≤ m → m ≤ (number / 60) → (more : List HistoryMinute) → All (λ i. from ≤ i.minute) more → present_in (minute_ended (number / 60) k).past m ≡ Some (present_at start told (past ++ more) m)
    told-of m ge low more each = by_test (nat_eq (number / 60) m)
        (λ here.
        let same : (number / 60) ≡ m = eqb-true (number / 60) m here in
        rw here (ap (λ (p : Present). Some p) (both more each ∙ ap (present_at start told (past ++ more)) same)))
        (λ other.
        let ne = eqb-false (number / 60) m other in
        let before = h.ended m ge (omega (arith, low, ne)) more each in
        let early = h.minute in
        rw other (falls-found 3 k.minute k.past m h.falls (omega (arith, early, most, ge)) (ap (λ (o : Option Present). is_some o) before) ∙ before))

pub time-passes : TimePasses
time-passes start told past number later from next slots k h le raised empty = record {
  driver = sits k.seats.driver slots.driver h.driver;
  codriver = sits k.seats.codriver slots.codriver h.codriver;
  apart = h.apart;
  gone = λ card. by_test (nat_eq (number / 60) (later / 60))
      (λ same. subst (λ (m : ℕ). left_in k.left card m ≡ has_left [] told card m) (eqb-true (number / 60) (later / 60) same) (h.gone card))
      (λ other. let ne = eqb-false (number / 60) (later / 60) other in gone-later told number later k card (omega (arith, ne, le)) (h.latest card) h.so_far);
  latest = λ card m is. let early = h.latest card m is in omega (arith, early, le);
  ended = λ m ge lt more each. absurd (omega (arith, ge, lt, empty));
  so_far = seconds-later told number later le h.so_far;
  falls = h.falls;
  newest = h.newest;
  minute = let early = h.minute in omega (arith, early, le);
}
  where
    sits : (seat : Option Seat) (sitting : Option Sitting) → SitsAs start past from k seat sitting → SitsAs start past next k seat sitting
    sits seat sitting at = sits-on start past past from next k k raised seat (λ c here n u early newest_at. newest_at) sitting at

pub minutes-kept : MinutesAreKept
minutes-kept start told past left number from next slots k h more each le = record {
  driver = sits-kept start past more from next k le each k.seats.driver slots.driver h.driver;
  codriver = sits-kept start past more from next k le each k.seats.codriver slots.codriver h.codriver;
  apart = h.apart;
  gone = h.gone;
  latest = h.latest;
  ended = λ m ge lt rest behind.
      h.ended m (omega (arith, ge, le)) lt (more ++ rest)
      (All-append (λ (i : HistoryMinute). from ≤ i.minute) more rest each (All-weaker (λ (i : HistoryMinute). next ≤ i.minute) (λ i. from ≤ i.minute) (λ i late. omega (arith, late, le)) rest behind))
      ∙ ap (λ (is : List HistoryMinute). Some (present_at start told is m)) (sym (append_assoc past more rest));
  so_far = h.so_far;
  falls = h.falls;
  newest = h.newest;
  minute = h.minute;
}

pub found-kept : WhatWasKeptIsFound
found-kept start told past found left number from next slots k h no_driver no_codriver empty = record {
  driver = sits k.seats.driver slots.driver no_driver h.driver;
  codriver = sits k.seats.codriver slots.codriver no_codriver h.codriver;
  apart = h.apart;
  gone = h.gone;
  latest = h.latest;
  ended = λ m ge lt more each. absurd (omega (arith, ge, lt, empty));
  so_far = h.so_far;
  falls = h.falls;
  newest = h.newest;
  minute = h.minute;
}
  where
    newest_none : (card : Card) (n a : Option ℕ) → is_some a ≡ false → IsNewest start past from k card n a → IsNewest start found next k card n a
    newest_none card None None fails is = tt
    newest_none card None (Some u) fails is = is
    newest_none card (Some newest) None fails is = is
    newest_none card (Some newest) (Some u) fails is = absurd (let e : true ≡ false = fails in cc)

    sits : (seat : Option Seat) (sitting : Option Sitting) → is_accepted sitting ≡ false → SitsAs start past from k seat sitting → SitsAs start found next k seat sitting
    sits None None fails is = tt
    sits None (Some sitting) fails is = is
    sits (Some seat) None fails is = is
    sits (Some seat) (Some sitting) fails is = (is.0, newest_none seat.card seat.newest sitting.accepted fails is.1)
