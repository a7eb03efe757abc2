-- The planned writes of a day are its steps, and they are few.
use Rattle.std.proofs.Common.{◌≡◌, ◌⊎◌, inl, inr, ⊎_elim, ℕ, ◌+◌, ◌-◌, ◌≤◌, Bool, true, false, cond, List, [], ◌∷◌, length, take, drop, refl, ◌∙◌, ap, subst, arith, length-append}
use Rattle.std.specs.Prelude.{◌==◌, nat_le}
use Rattle.std.proofs.lemmas.Bool.Decides.{nat_tests}
use Rattle.tach_media.specs.Medium.{put, IsPartlyWritten}
use Rattle.tach_media.specs.Plan.{Piece, piece, put_all, IsPartway}
use Rattle.tach_media.proofs.Plans.{put_all-append, partway_either}
use Rattle.card_model.specs.Bytes.{two_bytes}
use Rattle.card_model.specs.Image.{StringShape, spot, at}
use Rattle.card_days.specs.Held.{Held, newest_len, end_of}
use Rattle.card_days.specs.Plans.{round_pieces, pointer_pieces, day_pieces}
use Rattle.card_days.specs.Steps.{put_round, IsRounding, newest_pointed, IsPointing, begun, IsBeginStep, preceded, day_filled, measured}

-- the planned writes of a day are its steps
round_put : (r : StringShape) (p : ℕ) (bytes x : List ℕ) → put_all (round_pieces r p bytes) x ≡ put_round r p bytes x
round_put r p bytes x = by (nat_le (length bytes) (r.size - p))
  where
    by : (b : Bool) → put_all (cond b (piece (at r p) bytes ∷ []) (piece (at r p) (take (r.size - p) bytes) ∷ piece (at r 0) (drop (r.size - p) bytes) ∷ [])) x
        ≡ cond b (put (at r p) bytes x) (put (at r 0) (drop (r.size - p) bytes) (put (at r p) (take (r.size - p) bytes) x))
    by true = refl
    by false = refl

round_part : (r : StringShape) (p : ℕ) (bytes x c : List ℕ) → IsPartway (round_pieces r p bytes) x c → IsRounding r p bytes x c
round_part r p bytes x c = by (nat_le (length bytes) (r.size - p)) refl
  where
    by : (b : Bool) → nat_le (length bytes) (r.size - p) ≡ b → IsPartway (cond b (piece (at r p) bytes ∷ []) (piece (at r p) (take (r.size - p) bytes) ∷ piece (at r 0) (drop (r.size - p) bytes) ∷ [])) x c → IsRounding r p bytes x c
    by true test (inl part) = inl (grind (arith, nat_tests, test), part)
    by true test (inr none) = absurd none
    by false test (inl part) = inr (grind (arith, nat_tests, test), inl part)
    by false test (inr (inl part)) = inr (grind (arith, nat_tests, test), inr part)
    by false test (inr (inr none)) = absurd none

pointer_put : (r : StringShape) (n p : ℕ) (x : List ℕ) → put_all (pointer_pieces r n p) x ≡ newest_pointed r n p x
pointer_put r n p x = by (n == p)
  where
    by : (b : Bool) → put_all (cond b [] (piece (r.base + 2) (two_bytes p) ∷ [])) x ≡ cond b x (put (r.base + 2) (two_bytes p) x)
    by true = refl
    by false = refl

pointer_part : (r : StringShape) (n p : ℕ) (x c : List ℕ) → IsPartway (pointer_pieces r n p) x c → IsPointing r n p x c
pointer_part r n p x c = by (n == p) refl
  where
    by : (b : Bool) → (n == p) ≡ b → IsPartway (cond b [] (piece (r.base + 2) (two_bytes p) ∷ [])) x c → IsPointing r n p x c
    by true test none = absurd none
    by false test (inl part) = (λ same. let is : (n == p) ≡ true = grind (arith, nat_tests) in absurd (cc), part)
    by false test (inr none) = absurd none

module _ (v : Held) (bytes x : List ℕ) where
  abbrev r : StringShape
  r = v.shape

  abbrev n : ℕ
  n = v.tail.head.place

  abbrev e : ℕ
  e = end_of v

  abbrev len : ℕ
  len = newest_len v

  abbrev last : List Piece
  last = piece (at r (spot r.size e 2)) (two_bytes (4 + length bytes)) ∷ pointer_pieces r n e

  pub day_put : put_all (day_pieces v bytes) x ≡ begun r n e len bytes x
  day_put = put_all-append (round_pieces r (spot r.size e 4) bytes) last (preceded r e len x)
      ∙ ap (λ (l : List ℕ). put_all last l) (round_put r (spot r.size e 4) bytes (preceded r e len x))
      ∙ pointer_put r n e (measured r e len bytes x)

  pub day_part : (c : List ℕ) → IsPartway (day_pieces v bytes) x c → IsBeginStep r n e len bytes x c
  day_part c (inl part) = inl part
  day_part c (inr rest) = inr (⊎_elim
      (λ round. inl (round_part r (spot r.size e 4) bytes (preceded r e len x) c round))
      (λ more. inr (by (put_all (round_pieces r (spot r.size e 4) bytes) (preceded r e len x)) (round_put r (spot r.size e 4) bytes (preceded r e len x)) more))
      (partway_either (round_pieces r (spot r.size e 4) bytes) last (preceded r e len x) c rest))
    where
      by : (y : List ℕ) → y ≡ day_filled r e len bytes x → IsPartway last y c
          → IsPartlyWritten (at r (spot r.size e 2)) (two_bytes (4 + length bytes)) (day_filled r e len bytes x) c ⊎ IsPointing r n e (measured r e len bytes x) c
      by y is part = second (subst (λ (l : List ℕ). IsPartway last l c) is part)
        where
          second : IsPartway last (day_filled r e len bytes x) c → IsPartlyWritten (at r (spot r.size e 2)) (two_bytes (4 + length bytes)) (day_filled r e len bytes x) c ⊎ IsPointing r n e (measured r e len bytes x) c
          second (inl part) = inl part
          second (inr part) = inr (pointer_part r n e (measured r e len bytes x) c part)

-- three to five writes
module _ (v : Held) (bytes : List ℕ) where
  rounds_low : (r : StringShape) (p : ℕ) → (1 ≤ length (round_pieces r p bytes)) × (length (round_pieces r p bytes) ≤ 2)
  rounds_low r p = by (nat_le (length bytes) (r.size - p))
    where
      by : (b : Bool) → (1 ≤ length (cond b (piece (at r p) bytes ∷ []) (piece (at r p) (take (r.size - p) bytes) ∷ piece (at r 0) (drop (r.size - p) bytes) ∷ [])))
          × (length (cond b (piece (at r p) bytes ∷ []) (piece (at r p) (take (r.size - p) bytes) ∷ piece (at r 0) (drop (r.size - p) bytes) ∷ [])) ≤ 2)
      by true = (omega arith, omega arith)
      by false = (omega arith, omega arith)

  pointer_low : (r : StringShape) (n p : ℕ) → length (pointer_pieces r n p) ≤ 1
  pointer_low r n p = by (n == p)
    where
      by : (b : Bool) → length (cond b [] (piece (r.base + 2) (two_bytes p) ∷ [])) ≤ 1
      by true = omega arith
      by false = omega arith

  day_sum : length (day_pieces v bytes) ≡ 1 + (length (round_pieces v.shape (spot v.shape.size (end_of v) 4) bytes) + (1 + length (pointer_pieces v.shape v.tail.head.place (end_of v))))
  day_sum = omega (
    arith,
    length-append (round_pieces v.shape (spot v.shape.size (end_of v) 4) bytes)
        (piece (at v.shape (spot v.shape.size (end_of v) 2)) (two_bytes (4 + length bytes)) ∷ pointer_pieces v.shape v.tail.head.place (end_of v)),
  )

  pub day_most : length (day_pieces v bytes) ≤ 5
  day_most = omega (arith, day_sum, (rounds_low v.shape (spot v.shape.size (end_of v) 4)).1, pointer_low v.shape v.tail.head.place (end_of v))

  pub day_least : 3 ≤ length (day_pieces v bytes)
  day_least = omega (arith, day_sum, (rounds_low v.shape (spot v.shape.size (end_of v) 4)).0)
