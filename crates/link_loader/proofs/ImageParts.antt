-- Parts of an image of bytes: its numbers, its words, and the entries of its rings and tables.
use Rattle.std.proofs.Common.{◌≡◌, ℕ, zero, suc, ◌+◌, ◌-◌, ◌*◌, ◌^◌, ◌<◌, ◌≤◌, Bool, true, false, cond, List, [], ◌∷◌, length, drop, map, filter, All, arith, length-append}
use Rattle.std.specs.List.{range_with_len}
use Rattle.std.proofs.Math.Nat.{mul-le-mul_right, add-mul}
use Rattle.std.proofs.lemmas.List.{length-map, length-take, length-drop}
use Rattle.std.proofs.lemmas.List.FromFn.{length-range_with_len}
use Rattle.std.proofs.lemmas.List.Elements.{All-nil, All-cons}
use Rattle.byteorder.specs.Numbers.{big_from-lt}
use Rattle.card_layout.specs.Images.{bytes_at, number_at}
use Rattle.card_layout.specs.Fields.{IsBytes}
use Rattle.card_layout.proofs.Cuts.{IsBytes-drop, IsBytes-take}
use Rattle.gated_ring.specs.Ring.{Shape, size_of, pointer, is_there, entry_at, next, order, indices, ring_list}
use Rattle.gated_ring.proofs.Orders.{Each, each_filter, range_each, order_each, next_below}
use Rattle.message_model.specs.Sending.{entries_in}

-- a part inside has all its bytes
pub part_long : (x : List ℕ) (p n : ℕ) → p + n ≤ length x → length (bytes_at x p n) ≡ n
part_long x p n inside = omega (arith, inside, length-take n (drop p x), length-drop p x)

-- a number of so many bytes is below their power
pub number_low : (x : List ℕ) (p n : ℕ) → IsBytes x → number_at x p n < 256 ^ n
number_low x p n bytes = big_from-lt 0 n (bytes_at x p n) (IsBytes-take n (drop p x) (IsBytes-drop p x bytes))

-- so are words
abbrev pub IsShort : ℕ → Type 0
IsShort w = w < 2 ^ 16

pub words_low : (x : List ℕ) (p from n : ℕ) → IsBytes x → All IsShort (map (λ j. number_at x (p + 2 * j) 2) (range_with_len from n))
words_low x p from zero bytes = All-nil IsShort
words_low x p from (suc n) bytes =
    All-cons IsShort (number_at x (p + 2 * from) 2) (map (λ j. number_at x (p + 2 * j) 2) (range_with_len (from + 1) n)) (number_low x (p + 2 * from) 2 bytes)
    (words_low x p (from + 1) n bytes)

-- those that pass a test are no more
pub filter_few : {X : Type 0} (t : X → Bool) (l : List X) → length (filter t l) ≤ length l
filter_few t [] = omega arith
filter_few {X} t (a ∷ l) = by (filter_few t l) (t a)
  where
    by : length (filter t l) ≤ length l → (b : Bool) → length (cond b (a ∷ filter t l) (filter t l)) ≤ length (a ∷ l)
    by few true = omega (arith, few)
    by few false = omega (arith, few)

order_long : (r : Shape) (i : ℕ) → i < r.count → length (order r i) ≡ r.count
order_long r i below =
    omega (arith, below, length-append (range_with_len i (r.count - i)) (range_with_len 0 i), length-range_with_len i (r.count - i), length-range_with_len 0 i)

-- the entries of a ring or a table that lies inside
module _ (r : Shape) (x : List ℕ) (inside : r.base + size_of r ≤ length x) where
  abbrev HasWidth : List ℕ → Type 0
  HasWidth e = length e ≡ r.width

  entry_sized : (i : ℕ) → i < r.count → HasWidth (entry_at r x i)
  entry_sized i below =
      let whole : r.base + (r.pointer_width + r.count * r.width) ≤ length x = inside in
      let up : (i + 1) * r.width ≤ r.count * r.width = mul-le-mul_right r.width (omega (arith, below)) in
      let one : (i + 1) * r.width ≡ i * r.width + 1 * r.width = add-mul i 1 r.width in
      part_long x (r.base + r.pointer_width + i * r.width) r.width (omega (arith, whole, up, one))

  all_sized : (js : List ℕ) → Each (λ j. j < r.count) js → All HasWidth (map (entry_at r x) js)
  all_sized [] below = All-nil HasWidth
  all_sized (j ∷ js) below = All-cons HasWidth (entry_at r x j) (map (entry_at r x) js) (entry_sized j below.0) (all_sized js below.1)

  pub table_sized : All HasWidth (entries_in r x)
  table_sized =
      all_sized (filter (is_there r x) (range_with_len 0 r.count))
      (each_filter (λ j. j < r.count) (is_there r x) (range_with_len 0 r.count) (range_each (λ j. j < r.count) 0 r.count (λ j low high. omega (arith, high))))

  pub table_few : length (entries_in r x) ≤ r.count
  table_few =
      let js = filter (is_there r x) (range_with_len 0 r.count) in
      let few : length (map (entry_at r x) js) ≤ r.count = omega (arith, length-map js (entry_at r x), filter_few (is_there r x) (range_with_len 0 r.count), length-range_with_len 0 r.count) in
      few

  module _ (points : pointer r x < r.count) where
    abbrev turn : ℕ
    turn = next r (pointer r x)

    turn_below : turn < r.count
    turn_below = next_below r (pointer r x) points

    pub ring_sized : All HasWidth (ring_list r x)
    unfolding indices
    ring_sized = all_sized (filter (is_there r x) (order r turn)) (each_filter (λ j. j < r.count) (is_there r x) (order r turn) (order_each r turn turn_below))

    pub ring_few : length (ring_list r x) ≤ r.count
    unfolding indices
    ring_few =
        let js = filter (is_there r x) (order r turn) in
        let few : length (map (entry_at r x) js) ≤ r.count = omega (arith, length-map js (entry_at r x), filter_few (is_there r x) (order r turn), order_long r turn turn_below) in
        few
