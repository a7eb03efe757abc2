-- The lists of a demonstration, one entry more at a time, and their seconds.
use Rattle.std.proofs.Common.{◌≡◌, ℕ, zero, suc, ◌+◌, ◌-◌, ◌*◌, ◌≤◌, List, [], ◌∷◌, ◌++◌, length, refl, ap, sym, ◌∙◌, zero-add, arith}
use Rattle.std.specs.List.{flat_map}
use Rattle.std.proofs.lemmas.List.{flat_map_more}
use Rattle.std.proofs.lemmas.List.FromFn.{map-range_with_len_more, length-map-range_with_len}
use Rattle.std.proofs.lemmas.List.Sums.{sum_by-append, sum_by-cons}
use Rattle.activity_codec.specs.declared.values.Slot.TheVariants.{Driver}
use Rattle.trace_model.specs.declared.Card.TheVariants.{A}
use Rattle.trace_model.specs.declared.Action.TheVariants.{Insert}
use Rattle.trace_model.specs.declared.Item.{Item}
use Rattle.trace_model.specs.declared.Item.TheVariants.{Run, Act}
use Rattle.trace_model.specs.Trace.{item_seconds, total_seconds}
use Rattle.trace_text.specs.Demo.{next_drawn, drawn, starts, part, part_of, parts_of, day_of, days_of, demo_items}
use Rattle.activity_codec.specs.declared.day.TheConstants.{DAY_SECONDS}
use Rattle.trace_text.specs.declared.drawn_trace.TheConstants.{PARTS, DAYS}

-- ---- the numbers

pub drawn-one : (x : ℕ) → drawn 1 x ≡ next_drawn x
unfolding drawn
drawn-one x = refl

pub drawn-two : (x : ℕ) → drawn 2 x ≡ next_drawn (drawn 1 x)
unfolding drawn
drawn-two x = refl

pub drawn-three : (x : ℕ) → drawn 3 x ≡ next_drawn (drawn 2 x)
unfolding drawn
drawn-three x = refl

pub drawn-none : (x : ℕ) → drawn 0 x ≡ x
unfolding drawn
drawn-none x = refl

-- some more are drawn behind what was drawn
pub drawn-add : (m n x : ℕ) → drawn (m + n) x ≡ drawn n (drawn m x)
unfolding drawn
drawn-add zero n x = ap (λ (k : ℕ). drawn k x) (zero-add n)
drawn-add (suc m) n x = let next : suc m + n ≡ suc (m + n) = omega arith in ap (λ (k : ℕ). drawn k x) next ∙ drawn-add m n (next_drawn x)

-- one group more
pub drawn-more : (size k x : ℕ) → drawn (size * (k + 1)) x ≡ drawn size (drawn (size * k) x)
drawn-more size k x = let next : size * (k + 1) ≡ size * k + size = grind arith in ap (λ (n : ℕ). drawn n x) next ∙ drawn-add (size * k) size x

pub starts-more : (size n x : ℕ) → starts size (n + 1) x ≡ starts size n x ++ drawn (size * n) x ∷ []
starts-more size n x = map-range_with_len_more (λ (k : ℕ). drawn (size * k) x) 0 n n (zero-add n)

pub length-starts : (size n x : ℕ) → length (starts size n x) ≡ n
length-starts size n x = length-map-range_with_len (λ (k : ℕ). drawn (size * k) x) 0 n

-- ---- the lists

pub parts-none : (x : ℕ) → parts_of 0 x ≡ []
unfolding parts_of
parts-none x = refl

pub parts-more : (n x : ℕ) → parts_of (n + 1) x ≡ parts_of n x ++ part_of (drawn (3 * n) x)
unfolding parts_of
parts-more n x = ap (λ (xs : List ℕ). flat_map part_of xs) (starts-more 3 n x) ∙ sym (flat_map_more part_of [] (starts 3 n x) (drawn (3 * n) x))

pub days-none : (x : ℕ) → days_of 0 x ≡ []
unfolding days_of
days-none x = refl

pub days-more : (n x : ℕ) → days_of (n + 1) x ≡ days_of n x ++ day_of (drawn (3 * PARTS * n) x)
unfolding days_of
days-more n x =
    ap (λ (xs : List ℕ). flat_map day_of xs) (starts-more (3 * PARTS) n x) ∙ sym (flat_map_more day_of [] (starts (3 * PARTS) n x) (drawn (3 * PARTS * n) x))

pub day-is : (x : ℕ) → day_of x ≡ parts_of PARTS x ++ Run (DAY_SECONDS - total_seconds (parts_of PARTS x)) 0 ∷ []
unfolding day_of
day-is x = refl

-- ---- their seconds

-- the seconds of two lists
pub total-append : (xs ys : List Item) → total_seconds (xs ++ ys) ≡ total_seconds xs + total_seconds ys
total-append xs ys = sum_by-append item_seconds xs ys

-- a part is a quarter more than two hours at most
pub part-few : (stop drive pick : ℕ) → total_seconds (part stop drive pick) ≤ 9000
part-few stop drive pick = omega arith

all_few : (xs : List ℕ) → total_seconds (flat_map part_of xs) ≤ 9000 * length xs
all_few [] = omega arith
all_few (x ∷ xs) = omega (arith, total-append (part_of x) (flat_map part_of xs), part-few (drawn 1 x) (drawn 2 x) (drawn 3 x), all_few xs)

pub parts-few : (n x : ℕ) → total_seconds (parts_of n x) ≤ 9000 * n
unfolding parts_of
parts-few n x = omega (arith, all_few (starts 3 n x), length-starts 3 n x)

pub day-whole : (x : ℕ) → total_seconds (day_of x) ≡ DAY_SECONDS
unfolding day_of
day-whole x =
    omega (arith, total-append (parts_of PARTS x) (Run (DAY_SECONDS - total_seconds (parts_of PARTS x)) 0 ∷ []), parts-few PARTS x)

all_whole : (xs : List ℕ) → total_seconds (flat_map day_of xs) ≡ DAY_SECONDS * length xs
all_whole [] = omega arith
all_whole (x ∷ xs) = omega (arith, total-append (day_of x) (flat_map day_of xs), day-whole x, all_whole xs)

pub days-whole : (n x : ℕ) → total_seconds (days_of n x) ≡ DAY_SECONDS * n
unfolding days_of
days-whole n x = omega (arith, all_whole (starts (3 * PARTS) n x), length-starts (3 * PARTS) n x)

pub demo-whole : (x : ℕ) → total_seconds (demo_items x) ≡ DAY_SECONDS * DAYS
demo-whole x = omega (arith, sum_by-cons item_seconds (Act (Insert Driver A)) (days_of DAYS x), days-whole DAYS x)
