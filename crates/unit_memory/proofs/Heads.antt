-- The head of a slot, and a block of words, that are read at once.
use Rattle.std.proofs.Common.{◌≡◌, ◌≢◌, ℕ, ◌+◌, ◌*◌, ◌≤◌, Bool, true, false, cond, List, [], Option, None, drop, sym, ◌∙◌, ap, arith}
use Rattle.std.specs.Prelude.{◌==◌, slice_index}
use Rattle.std.proofs.lemmas.List.{get_or-take, get_or-drop}
use Rattle.std.proofs.lemmas.Bool.Decides.{nat_tests}
use Rattle.tach_media.specs.Medium.{bytes_at}
use Rattle.unit_model.specs.gated_ring.Ring.{number_at}
use Rattle.unit_model.specs.Image.{slot_place, slot_date, words_at}
use Rattle.unit_model.specs.Decoding.{first_failing}
use Rattle.unit_model.proofs.Numbers.{number_in, words_in}
use Rattle.unit_memory.specs.declared.slots.Head.{Head}
use Rattle.unit_memory.specs.Judging.{head_in, head_at, day_checks_by, slot_checks_of, slot_checks_by}

pub head_read : (x : List ℕ) (i : ℕ) → head_in (bytes_at x (slot_place i) 10) ≡ head_at x i
head_read x i =
    let date : number_at (bytes_at x (slot_place i) 10) 0 4 ≡ slot_date x i = number_in x (slot_place i) 10 0 4 (omega arith) ∙ ap (λ (q : ℕ). number_at x q 4) (let e : slot_place i + 0 ≡ slot_place i = omega arith in e) in
    let odometer = number_in x (slot_place i) 10 4 4 (omega arith) in
    let count = number_in x (slot_place i) 10 8 2 (omega arith) in
    λ t. record { date = date t; odometer = odometer t; count = count t }

-- the checks of an empty slot, and of a day, by the head that was read
pub none_there : (kept latest : ℕ) (x : List ℕ) (i : ℕ) (h : Head) → h ≡ head_at x i → h.date ≡ 0 → None ≡ first_failing (slot_checks_by kept latest x i)
none_there kept latest x i h is none =
    let empty : (h.date == 0) ≡ true = grind (arith, nat_tests) in
    sym (ap (λ (b : Bool). first_failing (cond b [] (day_checks_by kept latest h x i))) empty) ∙ ap (λ (g : Head). first_failing (slot_checks_of kept latest g x i)) is

pub day_there : (kept latest : ℕ) (x : List ℕ) (i : ℕ) (h : Head) (found : Option ℕ) → h ≡ head_at x i → h.date ≢ 0 → found ≡ first_failing (day_checks_by kept latest h x i) → found ≡ first_failing (slot_checks_by kept latest x i)
day_there kept latest x i h found is some here =
    let full : (h.date == 0) ≡ false = grind (arith, nat_tests) in
    here ∙ sym (ap (λ (b : Bool). first_failing (cond b [] (day_checks_by kept latest h x i))) full) ∙ ap (λ (g : Head). first_failing (slot_checks_of kept latest g x i)) is

-- the words of bytes that were read
pub block_words : (x bytes : List ℕ) (p len count : ℕ) → bytes ≡ bytes_at x p len → 2 * count ≤ len → words_at bytes 0 count ≡ words_at x p count
block_words x bytes p len count read inside =
    ap (λ (l : List ℕ). words_at l 0 count) read ∙ words_in x p len 0 count (omega (arith, inside)) ∙ ap (λ (q : ℕ). words_at x q count) (let e : p + 0 ≡ p = omega arith in e)

-- the number in four bytes, by the four
pub number_four_bytes : (x : List ℕ) (p : ℕ) → number_at x p 4 ≡ slice_index x p * 16777216 + slice_index x (p + 1) * 65536 + slice_index x (p + 2) * 256 + slice_index x (p + 3)
number_four_bytes x p =
    let b0 : slice_index (bytes_at x p 4) 0 ≡ slice_index x p = get_or-take 4 (drop p x) 0 0 (omega arith) ∙ get_or-drop p x 0 0 ∙ ap (slice_index x) (omega arith) in
    let b1 : slice_index (bytes_at x p 4) 1 ≡ slice_index x (p + 1) = get_or-take 4 (drop p x) 1 0 (omega arith) ∙ get_or-drop p x 1 0 ∙ ap (slice_index x) (omega arith) in
    let b2 : slice_index (bytes_at x p 4) 2 ≡ slice_index x (p + 2) = get_or-take 4 (drop p x) 2 0 (omega arith) ∙ get_or-drop p x 2 0 ∙ ap (slice_index x) (omega arith) in
    let b3 : slice_index (bytes_at x p 4) 3 ≡ slice_index x (p + 3) = get_or-take 4 (drop p x) 3 0 (omega arith) ∙ get_or-drop p x 3 0 ∙ ap (slice_index x) (omega arith) in
    omega (arith, b0, b1, b2, b3)
