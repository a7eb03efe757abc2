-- The planned writes lie in the string's file.
use Rattle.std.proofs.Common.{◌≡◌, ℕ, ◌+◌, ◌-◌, ◌%◌, ◌<◌, ◌≤◌, Bool, true, false, cond, List, [], ◌∷◌, ◌++◌, length, take, drop, refl, arith, length-drop}
use Rattle.std.specs.Prelude.{◌==◌, nat_le, nat_eq, ◌&&◌}
use Rattle.std.specs.List.{AllByRecursion}
use Rattle.std.proofs.lemmas.Bool.Decides.{nat_tests}
use Rattle.std.proofs.lemmas.List.{length-take-le}
use Rattle.tach_media.specs.Medium.{bytes_at}
use Rattle.tach_media.specs.Plan.{Piece, piece, put_all, IsInside}
use Rattle.tach_media.proofs.Plans.{puts_outside}
use Rattle.card_model.specs.Bytes.{number, two_bytes}
use Rattle.card_model.specs.Image.{StringShape, IsPointer, spot, at}
use Rattle.card_days.specs.Held.{Held, IsInBounds, newest_len, end_of, oldest_at}
use Rattle.card_days.specs.Plans.{dropped_len, left_in, drop_pieces, word_pieces, change_pieces, round_pieces, pointer_pieces, day_pieces}
use Rattle.card_days.proofs.Matching.{end_is, oldest_is}
use Rattle.card_days.proofs.Rounds.{spot_is}

abbrev pub AreInside : StringShape → List Piece → Type 0
AreInside r ps = AllByRecursion (IsInside r.base (r.base + (4 + r.size))) ps

pub all_then : (r : StringShape) (ps qs : List Piece) → AreInside r ps → AreInside r qs → AreInside r (ps ++ qs)
all_then r [] qs first next = next
all_then r (p ∷ ps) qs first next = (first.0, all_then r ps qs first.1 next)

pub put_length : (r : StringShape) (ps : List Piece) (x : List ℕ) → r.base + (4 + r.size) ≤ length x → AreInside r ps → r.base + (4 + r.size) ≤ length (put_all ps x)
put_length r ps x inside all = omega (arith, inside, (puts_outside r.base (4 + r.size) ps all x inside).same_length)

on_string : (r : StringShape) (p : ℕ) (bytes : List ℕ) → 0 < length bytes → length bytes ≤ 12 → p + length bytes ≤ r.size → IsInside r.base (r.base + (4 + r.size)) (piece (at r p) bytes)
on_string r p bytes some short fits = record { some = some; short = omega (arith, short); behind = omega arith; inside = omega (arith, fits) }

-- what is left of an even number of bytes
dropped_low : (n : ℕ) → (dropped_len n % 2 ≡ 0) × (14 ≤ dropped_len n) × (dropped_len n ≤ 2892)
dropped_low n = by (nat_eq (n % 2) 0 && (nat_le 14 n && nat_le n 2892)) refl
  where
    by : (b : Bool) → (nat_eq (n % 2) 0 && (nat_le 14 n && nat_le n 2892)) ≡ b → (cond b n 14 % 2 ≡ 0) × (14 ≤ cond b n 14) × (cond b n 14 ≤ 2892)
    by false test = (refl, omega arith, omega arith)
    by true test = (grind (arith, nat_tests, test), grind (arith, nat_tests, test), grind (arith, nat_tests, test))

module _ (v : Held) (is : IsInBounds v) where
  abbrev r : StringShape
  r = v.shape

  two_fit : (p : ℕ) → IsPointer r.size p → p + 2 ≤ r.size
  two_fit p pointer = omega (arith, pointer.below, pointer.even, is.shape.even)

  pub two_in : (p n : ℕ) → IsPointer r.size p → IsInside r.base (r.base + (4 + r.size)) (piece (at r p) (two_bytes n))
  two_in p n pointer = on_string r p (two_bytes n) (omega arith) (omega arith) (two_fit p pointer)

  behind : (d : ℕ) → d % 2 ≡ 0 → d ≤ 12 → (p : ℕ) → IsPointer r.size p → IsPointer r.size (spot r.size p d)
  behind d even low p pointer = (spot_is r.size p d is.shape.even pointer even (omega (arith, low, is.shape.low))).1

  pub left_low : (new : ℕ) (x : List ℕ) (u : ℕ) → new ≤ 16 → u ≤ r.size → u % 2 ≡ 0 → (left_in v new x u ≤ u) × (left_in v new x u % 2 ≡ 0)
  left_low new x u few le even = by (nat_le (u + new) r.size) refl
    where
      n : ℕ
      n = number (bytes_at x (at r (spot r.size (oldest_at v u) 2)) 2)

      by : (b : Bool) → nat_le (u + new) r.size ≡ b → (cond b u (u - dropped_len n) ≤ u) × (cond b u (u - dropped_len n) % 2 ≡ 0)
      by true test = (omega arith, even)
      by false test =
          let over : r.size < u + new = grind (arith, nat_tests, test) in
          let d = dropped_low n in
          (omega arith, omega (arith, even, d.0, d.2, over, few, is.shape.low))

  pub drop_inside : (u left : ℕ) → left ≤ r.size → left % 2 ≡ 0 → AreInside r (drop_pieces v u left)
  drop_inside u left le even = by (u == left)
    where
      by : (b : Bool) → AreInside r (cond b [] (piece r.base (two_bytes (oldest_at v left)) ∷ piece (at r (oldest_at v left)) (two_bytes 0) ∷ []))
      by true = tt
      by false = (record { some = omega arith; short = omega arith; behind = omega arith; inside = omega arith }, (two_in (oldest_at v left) 0 (oldest_is v is left le even).1, tt))

  pub word_inside : (w : ℕ) → AreInside r (word_pieces v w)
  word_inside w = (two_in (end_of v) w (end_is v is).1, (two_in (spot r.size v.tail.head.place 2) (newest_len v + 2) (behind 2 refl (omega arith) v.tail.head.place is.pointer), tt))

  pub change_inside : (w : ℕ) (x : List ℕ) → AreInside r (change_pieces v w x)
  change_inside w x =
      let l = left_low 2 x v.tail.used (omega arith) is.most is.even in
      all_then r (drop_pieces v v.tail.used (left_in v 2 x v.tail.used)) (word_pieces v w) (drop_inside v.tail.used (left_in v 2 x v.tail.used) (omega (arith, l.0, is.most)) l.1) (word_inside w)

  round_inside : (p : ℕ) (bytes : List ℕ) → IsPointer r.size p → 0 < length bytes → length bytes ≤ 12 → AreInside r (round_pieces r p bytes)
  round_inside p bytes pointer some short = by (nat_le (length bytes) (r.size - p)) refl
    where
      by : (b : Bool) → nat_le (length bytes) (r.size - p) ≡ b → AreInside r (cond b (piece (at r p) bytes ∷ []) (piece (at r p) (take (r.size - p) bytes) ∷ piece (at r 0) (drop (r.size - p) bytes) ∷ []))
      by true test = let le : length bytes ≤ r.size - p = grind (arith, nat_tests, test) in (on_string r p bytes some short (omega (arith, le, pointer.below)), tt)
      by false test =
          let lt : r.size - p < length bytes = grind (arith, nat_tests, test) in
          let front : length (take (r.size - p) bytes) ≡ r.size - p = length-take-le (r.size - p) bytes (omega (arith, lt)) in
          let back = length-drop (r.size - p) bytes in (
            on_string r p (take (r.size - p) bytes) (omega (arith, front, pointer.below)) (omega (arith, front, lt, short)) (omega (arith, front, pointer.below)),
            (on_string r 0 (drop (r.size - p) bytes) (omega (arith, back, lt)) (omega (arith, back, short)) (omega (arith, back, short, is.shape.low)), tt),
          )

  pointer_inside : (n p : ℕ) → AreInside r (pointer_pieces r n p)
  pointer_inside n p = by (n == p)
    where
      by : (b : Bool) → AreInside r (cond b [] (piece (r.base + 2) (two_bytes p) ∷ []))
      by true = tt
      by false = (record { some = omega arith; short = omega arith; behind = omega arith; inside = omega arith }, tt)

  pub day_inside : (bytes : List ℕ) → 0 < length bytes → length bytes ≤ 12 → AreInside r (day_pieces v bytes)
  day_inside bytes some short =
      let e = (end_is v is).1 in (
        two_in (end_of v) (newest_len v) e,
        all_then r (round_pieces r (spot r.size (end_of v) 4) bytes) (piece (at r (spot r.size (end_of v) 2)) (two_bytes (4 + length bytes)) ∷ pointer_pieces r v.tail.head.place (end_of v))
            (round_inside (spot r.size (end_of v) 4) bytes (behind 4 refl (omega arith) (end_of v) e) some short)
            (two_in (spot r.size (end_of v) 2) (4 + length bytes) (behind 2 refl (omega arith) (end_of v) e), pointer_inside v.tail.head.place (end_of v)),
      )
