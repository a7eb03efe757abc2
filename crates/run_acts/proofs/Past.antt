-- Who was present in the minutes that have ended.
use Rattle.std.proofs.Common.{◌≡◌, ℕ, zero, suc, ◌≤◌, Bool, true, false, not, ◌&&◌, cond, Option, Some, None, IfSome, List, [], ◌∷◌, All, take, is_some, refl, arith, eqb-true}
use Rattle.std.specs.Prelude.{nat_eq}
use Rattle.std.proofs.lemmas.List.Elements.{All-head, All-tail}
use Rattle.trace_model.specs.declared.Card.{Card}
use Rattle.tach_media.specs.Medium.{State}
use Rattle.run_crew.specs.card_slots.declared.seats.Seat.{Seat}
use Rattle.run_crew.specs.card_slots.declared.seats.Ended.{Ended}
use Rattle.run_crew.specs.card_slots.declared.seats.Present.{Present}
use Rattle.run_crew.specs.card_slots.Calls.{Seats, present_in, present_of, is_earlier, ending}
use Rattle.run_crew.specs.declared.cards.Accepted.{Accepted}
use Rattle.run_crew.specs.declared.cards.Cards.{Cards}
use Rattle.run_crew.specs.Cards.{session_of}
use Rattle.run_crew.specs.Cabin.{AnswersTo, SeatAnswers, EndedStands}
use Rattle.run_minutes.specs.Keeping.{HasItsRow, HaveRows}

-- a minute that is not earlier than all that have ended is none of them
pub none-later : (P : Present → Type 0) (from before m : ℕ) (cards : Cards) (past : List Ended) → before ≤ m → All (EndedStands from before cards) past → IfSome (present_in past m) P
none-later P from before m cards [] late all = tt
none-later P from before m cards (e ∷ past) late all = by (none-later P from before m cards past late (All-tail (EndedStands from before cards) e past all)) (nat_eq e.minute m) refl
  where
    by : IfSome (present_in past m) P → (b : Bool) → nat_eq e.minute m ≡ b → IfSome (present_in (e ∷ past) m) P
    by rest true is =
        let over = (All-head (EndedStands from before cards) e past all).over in
        let same : e.minute ≡ m = eqb-true e.minute m is in
        absurd (omega (arith, over, same, late))
    by rest false is = rw is rest

-- what holds of those of a minute holds where fewer minutes are kept
pub fewer : (P : Present → Type 0) (n m : ℕ) (past : List Ended) → IfSome (present_in past m) P → IfSome (present_in (take n past) m) P
fewer P zero m past h = tt
fewer P (suc n) m [] h = h
fewer P (suc n) m (e ∷ past) h = by (λ at. fewer P n m past at) (nat_eq e.minute m) refl
  where
    by : (IfSome (present_in past m) P → IfSome (present_in (take n past) m) P) → (b : Bool) → nat_eq e.minute m ≡ b → IfSome (present_in (take (suc n) (e ∷ past)) m) P
    by rest true is = rw is (rw is at h)
    by rest false is = rw is (rest (rw is at h))

-- and where one more has ended, of whose it holds
pub one-more : (P : Present → Type 0) (m : ℕ) (e : Ended) (past : List Ended) → P e.present → IfSome (present_in past m) P → IfSome (present_in (e ∷ take 3 past) m) P
one-more P m e past here h = by (nat_eq e.minute m) refl
  where
    by : (b : Bool) → nat_eq e.minute m ≡ b → IfSome (present_in (e ∷ take 3 past) m) P
    by true is = rw is here
    by false is = rw is (fewer P 3 m past h)

-- ---- who is present at the end of a minute has a row

accepted : (newest : Option ℕ) (m from : ℕ) (session : Option Accepted) → is_earlier newest m ≡ true → AnswersTo from newest session → is_some session ≡ true
accepted None m from session early h = absurd (cc)
accepted (Some n) m from None early h = absurd h
accepted (Some n) m from (Some a) early h = refl

first-true : (a b : Bool) → (a && b) ≡ true → a ≡ true
first-true true b is = refl
first-true false b is = cc

module _ (cards : Cards) (U : State) (rows : (card : Card) → is_some (session_of cards card) ≡ true → HasItsRow cards U card) (left : Card → ℕ → Bool) (m from : ℕ) where
  seat-row : (seat : Option Seat) → SeatAnswers from cards seat → IfSome (present_of left m seat) (HasItsRow cards U)
  seat-row None h = tt
  seat-row (Some seat) h = by (is_earlier seat.newest m && not (left seat.card m)) refl
    where
      by : (b : Bool) → (is_earlier seat.newest m && not (left seat.card m)) ≡ b → IfSome (cond b (Some seat.card) None) (HasItsRow cards U)
      by false is = tt
      by true is = rows seat.card (accepted seat.newest m from (session_of cards seat.card) (first-true (is_earlier seat.newest m) (not (left seat.card m)) is) h)

  pub ended-rows : (seats : Seats) → SeatAnswers from cards seats.driver → SeatAnswers from cards seats.codriver → HaveRows cards U (ending left m seats).present
  ended-rows seats driver codriver = record { driver = seat-row seats.driver driver; codriver = seat-row seats.codriver codriver }
