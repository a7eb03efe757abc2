-- Bytes that are written round the end of the string.
use Rattle.std.proofs.Common.{◌≡◌, inl, inr, ⊎_elim, ℕ, ◌+◌, ◌-◌, ◌%◌, ◌<◌, ◌≤◌, Bool, true, false, cond, List, ◌++◌, length, take, drop, refl, sym, ◌∙◌, ap, subst, arith, append_assoc, length-append, length-drop, take-append-drop}
use Rattle.std.specs.Prelude.{nat_le, nat_lt}
use Rattle.std.proofs.lemmas.Bool.Decides.{nat_tests}
use Rattle.std.proofs.lemmas.Bool.{cases_lt}
use Rattle.std.proofs.lemmas.List.{length-take-le, drop-drop}
use Rattle.tach_media.specs.Medium.{put, bytes_at, SameOutside}
use Rattle.tach_media.proofs.Images.{outside_then}
use Rattle.card_model.specs.Image.{StringShape, oldest_pointer, circle_of, IsPointer, IsPlace, spot, at}
use Rattle.card_days.specs.Steps.{put_round, IsRounding}
use Rattle.card_model.proofs.Circle.{put_back, circle_length}
use Rattle.card_days.proofs.Places.{Stands, stands}

-- two writes side by side are one
pub put_twice : (k : ℕ) (a b t : List ℕ) → k + length a ≤ length t → put (k + length a) b (put k a t) ≡ put k (a ++ b) t
put_twice k a b t le =
    let f : List ℕ = take k t in
    let d : List ℕ = drop (k + length a) t in
    let f_length : length (take k t) ≡ k = length-take-le k t (omega (arith, le)) in
    let far : k + length (a ++ b) ≡ k + length a + length b = omega (arith, length-append a b) in
    let none : length a + 0 ≡ length a = omega arith in
    let zero_more : 0 + length b ≡ length b = omega arith in
    ap (λ (n : ℕ). put (n + length a) b (f ++ (a ++ d))) (sym f_length) ∙ put_back (length a) b f (a ++ d)
    ∙ ap (λ (n : ℕ). f ++ put n b (a ++ d)) (sym none) ∙ ap (λ (l : List ℕ). f ++ l) (put_back 0 b a d)
    ∙ ap (λ (n : ℕ). f ++ (a ++ (b ++ drop n d))) zero_more
    ∙ ap (λ (l : List ℕ). f ++ (a ++ (b ++ l))) (drop-drop (length b) (k + length a) t ∙ ap (λ (n : ℕ). drop n t) (sym far))
    ∙ ap (λ (l : List ℕ). f ++ l) (sym (append_assoc a b (drop (k + length (a ++ b)) t)))

-- a write that was cut short is one of other bytes
pub record Scratched (place n : ℕ) (x c : List ℕ) : Type 0 where
  pub bytes : List ℕ
  pub long : length bytes ≡ n
  pub is : c ≡ put place bytes x

pub scratched : (place : ℕ) (b x c : List ℕ) → place + length b ≤ length x → SameOutside place (length b) x c → Scratched place (length b) x c
scratched place b x c le same =
    let n = length b in
    let bytes : List ℕ = bytes_at c place n in
    let long : length (bytes_at c place n) ≡ n = length-take-le n (drop place c) (omega (arith, length-drop place c, same.same_length, le)) in
    record {
      bytes = bytes;
      long = long;
      is = sym (take-append-drop place c) ∙ ap (λ (l : List ℕ). l ++ drop place c) same.before ∙ ap (λ (l : List ℕ). take place x ++ l) (sym (take-append-drop n (drop place c)))
          ∙ ap (λ (l : List ℕ). take place x ++ (bytes ++ l)) (drop-drop n place c ∙ same.after) ∙ ap (λ (m : ℕ). take place x ++ (bytes ++ drop (place + m) x)) (sym long);
    }

-- bytes of at most that length, whatever they are, stand so far behind the oldest day
pub record Covered (r : StringShape) (k n : ℕ) (x c : List ℕ) : Type 0 where
  pub bytes : List ℕ
  pub long : length bytes ≤ n
  pub stands : Stands r k bytes x c

-- what stands after what stands
pub stands_then : (r : StringShape) (k : ℕ) (a b x y z : List ℕ) → k + length a ≤ length (circle_of r x) → Stands r k a x y → Stands r (k + length a) b y z → Stands r k (a ++ b) x z
stands_then r k a b x y z le first next = record {
  outside = outside_then r.base (4 + r.size) x y z first.outside next.outside;
  oldest = next.oldest ∙ first.oldest;
  newest = next.newest ∙ first.newest;
  circle = next.circle ∙ ap (λ (l : List ℕ). put (k + length a) b l) first.circle ∙ put_twice k a b (circle_of r x) le;
}

pub spot_is : (size from distance : ℕ) → size % 2 ≡ 0 → IsPointer size from → distance % 2 ≡ 0 → distance ≤ size → IsPlace size from distance (spot size from distance) × IsPointer size (spot size from distance)
spot_is size from distance even pointer distance_even most = ⊎_elim
    (λ lt. let test : nat_lt (from + distance) size ≡ true = grind (arith, nat_tests) in
    let is : spot size from distance ≡ from + distance = ap (λ (b : Bool). cond b (from + distance) (from + distance - size)) test in
    (inl is, record { below = omega (arith, is, lt); even = omega (arith, is, pointer.even, distance_even) }))
    (λ le. let test : nat_lt (from + distance) size ≡ false = grind (arith, nat_tests) in
    let is : spot size from distance ≡ from + distance - size = ap (λ (b : Bool). cond b (from + distance) (from + distance - size)) test in
    (inr (omega (arith, is, le)), record { below = omega (arith, is, le, most, pointer.below); even = omega (arith, is, le, pointer.even, distance_even, even) }))
    (cases_lt (from + distance) size)

module _ (r : StringShape) (x : List ℕ) (inside : r.base + (4 + r.size) ≤ length x) (k p : ℕ) (bytes : List ℕ)
    (below : oldest_pointer r x < r.size) (p_below : p < r.size) (place : IsPlace r.size (oldest_pointer r x) k p) (fits : k + length bytes ≤ r.size) where
  whole : length bytes ≤ r.size - p → Stands r k bytes x (put (at r p) bytes x)
  whole le = stands r x inside k p bytes below place (omega (arith, le, p_below)) fits

  whole_test : length bytes ≤ r.size - p → put_round r p bytes x ≡ put (at r p) bytes x
  whole_test le = let test : nat_le (length bytes) (r.size - p) ≡ true = grind (arith, nat_tests) in
      ap (λ (b : Bool). cond b (put (at r p) bytes x) (put (at r 0) (drop (r.size - p) bytes) (put (at r p) (take (r.size - p) bytes) x))) test

  broken_test : r.size - p < length bytes → put_round r p bytes x ≡ put (at r 0) (drop (r.size - p) bytes) (put (at r p) (take (r.size - p) bytes) x)
  broken_test lt = let test : nat_le (length bytes) (r.size - p) ≡ false = grind (arith, nat_tests) in
      ap (λ (b : Bool). cond b (put (at r p) bytes x) (put (at r 0) (drop (r.size - p) bytes) (put (at r p) (take (r.size - p) bytes) x))) test

  module _ (lt : r.size - p < length bytes) where
    abbrev front : List ℕ
    front = take (r.size - p) bytes

    abbrev back : List ℕ
    back = drop (r.size - p) bytes

    abbrev y : List ℕ
    y = put (at r p) front x

    front_length : length front ≡ r.size - p
    front_length = length-take-le (r.size - p) bytes (omega (arith, lt))

    back_length : length back + (r.size - p) ≡ length bytes
    back_length = omega (arith, length-drop (r.size - p) bytes, lt)

    first : Stands r k front x y
    first = stands r x inside k p front below place (omega (arith, front_length, p_below)) (omega (arith, front_length, lt, fits))

    y_inside : r.base + (4 + r.size) ≤ length y
    y_inside = omega (arith, inside, first.outside.same_length)

    start : IsPlace r.size (oldest_pointer r y) (k + length front) 0
    start = subst (λ (o : ℕ). IsPlace r.size o (k + length front) 0) (sym first.oldest)
        (⊎_elim (λ is. inr (omega (arith, is, front_length, p_below))) (λ is. absurd (omega (arith, is, front_length, p_below, below, fits, lt))) place)

    behind : (b : List ℕ) → length b ≡ length back → Stands r (k + length front) b y (put (at r 0) b y)
    behind b same = stands r y y_inside (k + length front) 0 b (omega (arith, first.oldest, below)) start (omega (arith, same, back_length, fits)) (omega (arith, same, back_length, front_length, fits, p_below))

    both : (b : List ℕ) → length b ≡ length back → Stands r k (front ++ b) x (put (at r 0) b y)
    both b same = stands_then r k front b x y (put (at r 0) b y) (omega (arith, circle_length r x inside, front_length, lt, fits)) first (behind b same)

  pub rounds : Stands r k bytes x (put_round r p bytes x)
  rounds = ⊎_elim
      (λ lt. subst (λ (l : List ℕ). Stands r k bytes x l) (sym (broken_test lt)) (subst (λ (b : List ℕ). Stands r k b x (put (at r 0) (back lt) (y lt))) (take-append-drop (r.size - p) bytes) (both lt (back lt) refl)))
      (λ le. subst (λ (l : List ℕ). Stands r k bytes x l) (sym (whole_test le)) (whole le))
      (cases_lt (r.size - p) (length bytes))

  pub covers : (c : List ℕ) → IsRounding r p bytes x c → Covered r k (length bytes) x c
  covers c (inl (le, part)) =
      let s = scratched (at r p) bytes x c (omega (arith, inside, le, p_below)) part.outside in
      record { bytes = s.bytes; long = omega (arith, s.long); stands = subst (λ (l : List ℕ). Stands r k s.bytes x l) (sym s.is) (stands r x inside k p s.bytes below place (omega (arith, s.long, le, p_below)) (omega (arith, s.long, fits))) }
  covers c (inr (lt, inl part)) =
      let s = scratched (at r p) (front lt) x c (omega (arith, inside, front_length lt, p_below)) part.outside in
      let one = stands r x inside k p s.bytes below place (omega (arith, s.long, front_length lt, p_below)) (omega (arith, s.long, front_length lt, lt, fits)) in
      record { bytes = s.bytes; long = omega (arith, s.long, front_length lt, lt); stands = subst (λ (l : List ℕ). Stands r k s.bytes x l) (sym s.is) one }
  covers c (inr (lt, inr part)) =
      let s = scratched (at r 0) (back lt) (y lt) c (omega (arith, y_inside lt, back_length lt, fits, lt)) part.outside in
      let long : length s.bytes ≡ length (back lt) = s.long in
      record { bytes = front lt ++ s.bytes; long = omega (arith, length-append (front lt) s.bytes, long, front_length lt, back_length lt); stands = subst (λ (l : List ℕ). Stands r k (front lt ++ s.bytes) x l) (sym s.is) (both lt s.bytes long) }
