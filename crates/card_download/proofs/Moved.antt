-- A string of days and a ring that are read in their file alone are those of the flat image.
use Rattle.std.proofs.Common.{◌≡◌, ℕ, ◌+◌, ◌-◌, ◌%◌, ◌<◌, ◌≤◌, Bool, true, false, not, filter, List, [], ◌∷◌, sym, ◌∙◌, ap, arith}
use Rattle.std.specs.Prelude.{nat_eq, ◌&&◌, ◌==◌}
use Rattle.card_layout.specs.Images.{big_number}
use Rattle.tach_media.specs.Medium.{bytes_at}
use Rattle.tach_media.proofs.Images.{part_in}
use Rattle.card_model.specs.Bytes.{number}
use Rattle.card_model.specs.Image.{StringShape, turned, oldest_pointer, newest_pointer, string_of, circle_of}
use Rattle.card_model.specs.Walk.{days_in, days_of}
use Rattle.card_model.specs.Checks.{Check, check, first_failing, is_pointer, day_checks, distance_of, is_empty, checks_of, first_bad}
use Rattle.gated_ring.specs.Ring.{Shape, size_of, place_of, gate_of, pointer, PointsInside, is_there, entry_at, next, order, indices}
use Rattle.gated_ring.proofs.Orders.{each_weaker, order_each, next_below, filter_same}
use Rattle.gated_ring.proofs.Places.{place_high}

-- a part of a file, by its place in the image
part_here : (x : List ℕ) (base size p q n : ℕ) → q ≡ base + p → p + n ≤ size → bytes_at (bytes_at x base size) p n ≡ bytes_at x q n
part_here x base size p q n is fits = part_in x base size p n fits ∙ ap (λ (k : ℕ). bytes_at x k n) (sym is)

-- the checks of a string, by what they are made of
abbrev checks_in : (size : ℕ) → (empty : Bool) → (oldest newest : ℕ) → List ℕ → List Check
checks_in size empty o n circle =
    check (is_pointer size o) 0 ∷ check (is_pointer size n) 2
    ∷ (elim empty as (λ _. List Check) [ true ↦ [] | false ↦ day_checks 984 size o (distance_of size o n) 0 0 0 circle ])

module _ (x : List ℕ) (base size : ℕ) where
  abbrev here : StringShape
  here = record { base = base; size = size }

  abbrev alone : StringShape
  alone = record { base = 0; size = size }

  abbrev days_file : List ℕ
  days_file = bytes_at x base (4 + size)

  oldest_alone : oldest_pointer alone days_file ≡ oldest_pointer here x
  oldest_alone = ap number (part_here x base (4 + size) 0 base 2 (omega arith) (omega arith))

  newest_alone : newest_pointer alone days_file ≡ newest_pointer here x
  newest_alone = ap number (part_here x base (4 + size) (0 + 2) (base + 2) 2 (omega arith) (omega arith))

  string_is : string_of alone days_file ≡ string_of here x
  string_is = part_here x base (4 + size) (0 + 4) (base + 4) size (omega arith) (omega arith)

  circle_alone : circle_of alone days_file ≡ circle_of here x
  circle_alone = ap (λ (n : ℕ). turned n (string_of alone days_file)) oldest_alone ∙ ap (λ (l : List ℕ). turned (oldest_pointer here x) l) string_is

  pub days_alone : days_of alone days_file ≡ days_of here x
  unfolding days_of
  days_alone = ap (λ (o : ℕ). days_in 984 ((newest_pointer alone days_file + size - o) % size) (circle_of alone days_file)) oldest_alone
      ∙ ap (λ (n : ℕ). days_in 984 ((n + size - oldest_pointer here x) % size) (circle_of alone days_file)) newest_alone
      ∙ ap (λ (l : List ℕ). days_in 984 ((newest_pointer here x + size - oldest_pointer here x) % size) l) circle_alone

  empty_alone : is_empty alone days_file ≡ is_empty here x
  empty_alone = ap (λ (o : ℕ). nat_eq o (newest_pointer alone days_file) && nat_eq (number (bytes_at (circle_of alone days_file) 2 2)) 0) oldest_alone
      ∙ ap (λ (n : ℕ). nat_eq (oldest_pointer here x) n && nat_eq (number (bytes_at (circle_of alone days_file) 2 2)) 0) newest_alone
      ∙ ap (λ (l : List ℕ). nat_eq (oldest_pointer here x) (newest_pointer here x) && nat_eq (number (bytes_at l 2 2)) 0) circle_alone

  checks_alone : checks_of alone days_file ≡ checks_of here x
  checks_alone =
      ap (λ (e : Bool). checks_in size e (oldest_pointer alone days_file) (newest_pointer alone days_file) (circle_of alone days_file)) empty_alone
      ∙ ap (λ (o : ℕ). checks_in size (is_empty here x) o (newest_pointer alone days_file) (circle_of alone days_file)) oldest_alone
      ∙ ap (λ (n : ℕ). checks_in size (is_empty here x) (oldest_pointer here x) n (circle_of alone days_file)) newest_alone
      ∙ ap (λ (l : List ℕ). checks_in size (is_empty here x) (oldest_pointer here x) (newest_pointer here x) l) circle_alone

  pub bad_alone : first_bad alone days_file ≡ first_bad here x
  unfolding first_bad
  bad_alone = ap first_failing checks_alone

-- a ring in the image, and in its file of this size
module _ (x : List ℕ) (r : Shape) (size : ℕ) (long : size_of r ≤ size) where
  abbrev ring_alone : Shape
  ring_alone = record r { base = 0 }

  abbrev ring_file : List ℕ
  ring_file = bytes_at x r.base size

  pub pointer_alone : pointer ring_alone ring_file ≡ pointer r x
  pointer_alone = ap (big_number r.pointer_width) (part_here x r.base size 0 r.base r.pointer_width (omega arith) (omega (arith, long)))

  pub entry_alone : (i : ℕ) → i < r.count → entry_at ring_alone ring_file i ≡ entry_at r x i
  entry_alone i below = part_here x r.base size (place_of ring_alone i) (place_of r i) r.width (omega arith) (omega (arith, place_high ring_alone i below, long))

  module _ (gate : r.gate + 4 ≤ r.width) (known : PointsInside r x) where
    there_alone : (i : ℕ) → i < r.count → is_there ring_alone ring_file i ≡ is_there r x i
    there_alone i below = ap (λ (b : List ℕ). not (big_number 4 b == 0)) (part_here x r.base size (gate_of ring_alone i) (gate_of r i) 4 (omega arith) (omega (arith, place_high ring_alone i below, gate, long)))

    pub indices_alone : indices ring_alone ring_file ≡ indices r x
    unfolding indices
    indices_alone =
        ap (λ (p : ℕ). filter (is_there ring_alone ring_file) (order r (next r p))) pointer_alone
        ∙ filter_same (is_there r x) (is_there ring_alone ring_file) (order r (next r (pointer r x)))
        (each_weaker (λ j. j < r.count) (λ j. is_there ring_alone ring_file j ≡ is_there r x j) (order r (next r (pointer r x))) there_alone (order_each r (next r (pointer r x)) (next_below r (pointer r x) known)))
