-- The minute in which a card last left tells, from then on, whether it left in a minute.
use Rattle.std.proofs.Common.{◌≡◌, ◌∙◌, ℕ, ◌≤◌, Bool, true, false, Option, Some, None, List, [], ◌∷◌, ◌++◌, refl, sym, arith, append-nil}
use Rattle.std.specs.Prelude.{nat_eq, ◌&&◌, ◌||◌}
use Rattle.std.proofs.lemmas.Bool.{eqb-true, eqb-false}
use Rattle.std.proofs.lemmas.List.Folds.{list_any-append}
use Rattle.activity_codec.proofs.ByTest.{by_test}
use Rattle.trace_model.specs.declared.Card.{Card}
use Rattle.trace_model.specs.declared.Card.TheVariants.{A, B}
use Rattle.log_model.specs.Slots.{same_card}
use Rattle.card_slots.specs.declared.seats.Seat.{Seat}
use Rattle.card_slots.specs.declared.seats.Lefts.{Lefts}
use Rattle.card_slots.specs.Calls.{leaving, has_left}
use Rattle.card_slots.specs.Kept.{left_in, with_left, TellsLeft}

-- one more leaving
has_left-more : (all : List (Card × ℕ)) (c : Card) (q : ℕ) (card : Card) (m : ℕ) →
    has_left (all ++ (c, q) ∷ []) card m ≡ (has_left all card m || ((same_card c card && nat_eq q m) || false))
has_left-more all c q card m = list_any-append (λ (l : Card × ℕ). same_card l.0 card && nat_eq l.1 m) all ((c, q) ∷ [])

-- of a card that leaves now: it left in this minute, and in no later one
leaves-same : (before now : Bool) → (now ≡ false → before ≡ false) → (before || (now || false)) ≡ now
leaves-same true true h = refl
leaves-same true false h = absurd (let e : true ≡ false = h refl in cc)
leaves-same false true h = refl
leaves-same false false h = refl

or-none : (before : Bool) → before ≡ (before || (false || false))
or-none true = refl
or-none false = refl

module _ (minute : ℕ) (left : Lefts) (all : List (Card × ℕ)) (tells : TellsLeft minute left all) (q : ℕ) (from : minute ≤ q) where
  -- in no minute after this one
  not-later : (card : Card) (m : ℕ) → q ≤ m → nat_eq q m ≡ false → has_left all card m ≡ false
  not-later card m le other = by_test (has_left all card m)
      (λ has.
      let is : left_in left card m ≡ true = tells.same card m (omega arith) ∙ has in
      let most : m ≤ minute = tells.most card m is in
      let e : q ≡ m = omega arith in
      absurd (eqb-false q m other e))
      (λ none. none)

  -- later is later still
  pub later : TellsLeft q left all
  later = record { same = λ card m le. tells.same card m (omega arith); most = λ card m is. let most : m ≤ minute = tells.most card m is in omega arith }

  own : (card : Card) (m : ℕ) → q ≤ m → nat_eq q m ≡ has_left (all ++ (card, q) ∷ []) card m
  own A m le = sym (has_left-more all A q A m ∙ leaves-same (has_left all A m) (nat_eq q m) (not-later A m le))
  own B m le = sym (has_left-more all B q B m ∙ leaves-same (has_left all B m) (nat_eq q m) (not-later B m le))

  -- the card of a slot leaves
  pub leaves : (seat : Option Seat) → TellsLeft q (with_left q seat left) (all ++ leaving q seat)
  leaves None = rw append-nil later
  leaves (Some seat) = by_card seat.card
    where
      by_card : (c : Card) → TellsLeft q (with_left q (Some (record { card = c; newest = seat.newest })) left) (all ++ (c, q) ∷ [])
      by_card A = record {
        same = λ card m le. same_a card m le;
        most = λ card m is. most_a card m is;
      }
        where
          same_a : (card : Card) (m : ℕ) → q ≤ m → left_in (record left { a = Some q }) card m ≡ has_left (all ++ (A, q) ∷ []) card m
          same_a A m le = own A m le
          same_a B m le = tells.same B m (omega arith) ∙ or-none (has_left all B m) ∙ sym (has_left-more all A q B m)

          most_a : (card : Card) (m : ℕ) → left_in (record left { a = Some q }) card m ≡ true → m ≤ q
          most_a A m is = let e : q ≡ m = eqb-true q m is in omega arith
          most_a B m is = let most : m ≤ minute = tells.most B m is in omega arith
      by_card B = record {
        same = λ card m le. same_b card m le;
        most = λ card m is. most_b card m is;
      }
        where
          same_b : (card : Card) (m : ℕ) → q ≤ m → left_in (record left { b = Some q }) card m ≡ has_left (all ++ (B, q) ∷ []) card m
          same_b B m le = own B m le
          same_b A m le = tells.same A m (omega arith) ∙ or-none (has_left all A m) ∙ sym (has_left-more all B q A m)

          most_b : (card : Card) (m : ℕ) → left_in (record left { b = Some q }) card m ≡ true → m ≤ q
          most_b B m is = let e : q ≡ m = eqb-true q m is in omega arith
          most_b A m is = let most : m ≤ minute = tells.most A m is in omega arith
