-- The entries that are there and chosen pass by a window, one after the other.
use Rattle.std.proofs.Common.{◌≡◌, ◌≢◌, ℕ, ◌+◌, ◌-◌, ◌*◌, ◌≤◌, ◌<◌, Bool, true, false, not, cond, Option, IfSome, List, [], ◌∷◌, ◌++◌, map, filter, refl, sym, ◌∙◌, ap, arith}
use Rattle.std.specs.Prelude.{◌==◌, ◌&&◌}
use Rattle.std.specs.List.{range_with_len}
use Rattle.std.proofs.lemmas.List.{append-nil}
use Rattle.std.proofs.lemmas.Bool.Decides.{nat_tests}
use Rattle.std.proofs.Math.Nat.{mul-le-mul_right, add-mul}
use Rattle.card_layout.specs.Images.{bytes_at, number_at}
use Rattle.card_layout.specs.Fields.{joined}
use Rattle.card_layout.proofs.Images.{part_in}
use Rattle.gated_ring.specs.Ring.{Shape, entry_at, order}
use Rattle.unit_model.specs.declared.layout.TheConstants.{IMAGE_SIZE}
use Rattle.unit_model.proofs.Words.{range_add}
use Rattle.unit_memory.proofs.Told.{one_told}
use Rattle.unit_messages.specs.declared.entries.Choice.{Choice}
use Rattle.unit_messages.specs.declared.entries.Entries.{Entries}
use Rattle.unit_messages.specs.Windows.{Sight, passed, IsFull}
use Rattle.unit_messages.specs.Chosen.{chosen, chosen_at, shape_of, is_meant, meant, AreEntries}
use Rattle.unit_messages.proofs.Choosing.{there_in, chosen_joined, range_more}
use Rattle.unit_messages.proofs.Windows.{passed_none, passed_both, passed_full}

-- the entry at an index by its bytes
pub chosen_one : (e : Entries) (x : List ℕ) (i : ℕ) → e.gate + 4 ≤ e.width → chosen_at (shape_of e) e.choice x (i ∷ []) ≡ meant e (entry_at (shape_of e) x i)
chosen_one e x i inside =
    let r = shape_of e in
    let entry = entry_at r x i in
    ap (λ (t : Bool). filter (chosen e.choice) (map (entry_at r x) (cond t (i ∷ []) []))) (there_in r e.choice x i inside)
    ∙ by (not (number_at entry e.gate 4 == 0))
  where
    by : (t : Bool) → filter (chosen e.choice) (map (entry_at (shape_of e) x) (cond t (i ∷ []) [])) ≡ cond (t && chosen e.choice (entry_at (shape_of e) x i)) (entry_at (shape_of e) x i ∷ []) []
    by true = refl
    by false = refl

-- where an entry ends
pub entry_ends : (e : Entries) (i : ℕ) → AreEntries e → i < e.count → e.base + i * e.width + e.width ≤ IMAGE_SIZE
entry_ends e i are below = let more : i + 1 ≤ e.count = omega (arith, below) in omega (arith, are.inside, mul-le-mul_right e.width more)

-- where entries end, and how many bytes they have
pub entries_end : (e : Entries) (i n : ℕ) → AreEntries e → i + n ≤ e.count → e.base + i * e.width + n * e.width ≤ IMAGE_SIZE
entries_end e i n are below = omega (arith, are.inside, mul-le-mul_right e.width below, add-mul i n e.width)

pub entry_inside : (width turn count : ℕ) → turn < count → turn * width + width ≤ count * width
entry_inside width turn count below = let more : turn + 1 ≤ count = omega (arith, below) in omega (arith, mul-le-mul_right width more)

pub bytes_few : (e : Entries) (n : ℕ) → AreEntries e → n ≤ 31 → n * e.width ≤ 3999
bytes_few e n are few = omega (arith, mul-le-mul_right e.width few, are.narrow)

-- no entry, an entry more, and the others where the window is full; two ranges
module _ (r : Shape) (choice : Choice) (x : List ℕ) where
  pub none_passed : (w : Sight) (from : ℕ) → w ≡ passed w (joined (chosen_at r choice x (range_with_len from (from - from))))
  none_passed w from = sym (ap (λ (n : ℕ). passed w (joined (chosen_at r choice x (range_with_len from n)))) (let e : from - from ≡ 0 = omega arith in e) ∙ passed_none w)

  pub more_passed : (u v w : Sight) (from i : ℕ) → from ≤ i → v ≡ passed w (joined (chosen_at r choice x (range_with_len from (i - from)))) → u ≡ passed v (joined (chosen_at r choice x (i ∷ [])))
      → u ≡ passed w (joined (chosen_at r choice x (range_with_len from (i + 1 - from))))
  more_passed u v w from i low before after =
      let js = range_with_len from (i - from) in
      after ∙ ap (λ (s : Sight). passed s (joined (chosen_at r choice x (i ∷ [])))) before
      ∙ passed_both w (joined (chosen_at r choice x js)) (joined (chosen_at r choice x (i ∷ [])))
      ∙ ap (passed w) (sym (chosen_joined r choice x js (i ∷ [])))
      ∙ ap (λ (l : List ℕ). passed w (joined (chosen_at r choice x l))) (sym (range_more from i low))

  pub full_passed : (v w : Sight) (from i to : ℕ) → from ≤ i → i ≤ to → IsFull v → v ≡ passed w (joined (chosen_at r choice x (range_with_len from (i - from))))
      → v ≡ passed w (joined (chosen_at r choice x (range_with_len from (to - from))))
  full_passed v w from i to low high full before =
      let js = range_with_len from (i - from) in
      let ks = range_with_len (from + (i - from)) (to - i) in
      let split : range_with_len from (to - from) ≡ js ++ ks = ap (range_with_len from) (let e : to - from ≡ (i - from) + (to - i) = omega (arith, low, high) in e) ∙ range_add from (i - from) (to - i) in
      sym (ap (λ (l : List ℕ). passed w (joined (chosen_at r choice x l))) split
      ∙ ap (passed w) (chosen_joined r choice x js ks)
      ∙ sym (passed_both w (joined (chosen_at r choice x js)) (joined (chosen_at r choice x ks)))
      ∙ ap (λ (s : Sight). passed s (joined (chosen_at r choice x ks))) (sym before)
      ∙ passed_full v (joined (chosen_at r choice x ks)) full)

  pub round_passed : (u v w : Sight) (turn : ℕ) → v ≡ passed w (joined (chosen_at r choice x (range_with_len turn (r.count - turn)))) → u ≡ passed v (joined (chosen_at r choice x (range_with_len 0 (turn - 0))))
      → u ≡ passed w (joined (chosen_at r choice x (order r turn)))
  round_passed u v w turn before after =
      let js = range_with_len turn (r.count - turn) in
      let ks = range_with_len 0 turn in
      after ∙ ap (λ (n : ℕ). passed v (joined (chosen_at r choice x (range_with_len 0 n)))) (let e : turn - 0 ≡ turn = omega arith in e)
      ∙ ap (λ (s : Sight). passed s (joined (chosen_at r choice x ks))) before
      ∙ passed_both w (joined (chosen_at r choice x js)) (joined (chosen_at r choice x ks))
      ∙ ap (passed w) (sym (chosen_joined r choice x js ks))

-- further entries behind those from an index on
pub some_passed : (r : Shape) (choice : Choice) (x : List ℕ) (u v w : Sight) (from i n : ℕ) → from ≤ i → v ≡ passed w (joined (chosen_at r choice x (range_with_len from (i - from))))
    → u ≡ passed v (joined (chosen_at r choice x (range_with_len i n))) → u ≡ passed w (joined (chosen_at r choice x (range_with_len from (i + n - from))))
some_passed r choice x u v w from i n low before after =
    let js = range_with_len from (i - from) in
    let ks = range_with_len i n in
    let split : range_with_len from (i + n - from) ≡ js ++ ks =
    ap (range_with_len from) (let e : i + n - from ≡ (i - from) + n = omega (arith, low) in e) ∙ range_add from (i - from) n
    ∙ ap (λ (k : ℕ). js ++ range_with_len k n) (let e : from + (i - from) ≡ i = omega (arith, low) in e) in
    after ∙ ap (λ (s : Sight). passed s (joined (chosen_at r choice x ks))) before
    ∙ passed_both w (joined (chosen_at r choice x js)) (joined (chosen_at r choice x ks))
    ∙ ap (passed w) (sym (chosen_joined r choice x js ks))
    ∙ ap (λ (l : List ℕ). passed w (joined (chosen_at r choice x l))) (sym split)

-- an entry more of those that were read at once
pub block_more : (e : Entries) (x block entry : List ℕ) (i turn count : ℕ) (u v w : Sight) → AreEntries e → turn < count → block ≡ bytes_at x (e.base + i * e.width) (count * e.width)
    → entry ≡ bytes_at block (turn * e.width) e.width → v ≡ passed w (joined (chosen_at (shape_of e) e.choice x (range_with_len i turn))) → u ≡ passed v (joined (meant e entry))
    → u ≡ passed w (joined (chosen_at (shape_of e) e.choice x (range_with_len i (turn + 1))))
block_more e x block entry i turn count u v w are below read is before after =
    let r = shape_of e in
    let at : e.base + i * e.width + turn * e.width ≡ e.base + 0 + (i + turn) * e.width = omega (arith, add-mul i turn e.width) in
    let there : entry ≡ entry_at r x (i + turn) =
    is ∙ ap (λ (l : List ℕ). bytes_at l (turn * e.width) e.width) read
    ∙ part_in x (e.base + i * e.width) (count * e.width) (turn * e.width) e.width (entry_inside e.width turn count below) ∙ ap (λ (p : ℕ). bytes_at x p e.width) at in
    let here : u ≡ passed v (joined (chosen_at r e.choice x ((i + turn) ∷ []))) =
    after ∙ ap (λ (l : List ℕ). passed v (joined (meant e l))) there ∙ ap (λ (l : List (List ℕ)). passed v (joined l)) (sym (chosen_one e x (i + turn) are.gate)) in
    let so_far : v ≡ passed w (joined (chosen_at r e.choice x (range_with_len i (i + turn - i)))) =
    before ∙ ap (λ (n : ℕ). passed w (joined (chosen_at r e.choice x (range_with_len i n)))) (let same : turn ≡ i + turn - i = omega arith in same) in
    more_passed r e.choice x u v w i (i + turn) (omega arith) so_far here
    ∙ ap (λ (n : ℕ). passed w (joined (chosen_at r e.choice x (range_with_len i n)))) (let same : i + turn + 1 - i ≡ turn + 1 = omega arith in same)

-- entries that were read at once of a told image
pub told_block : (e : Entries) (o : Option (List ℕ)) (v w : Sight) (block : List ℕ) (i count place n len : ℕ) → place ≡ e.base + i * e.width → n ≡ len → len ≡ count * e.width
    → ((x : List ℕ) (j : ℕ) → block ≡ bytes_at x (e.base + j * e.width) (count * e.width) → v ≡ passed w (joined (chosen_at (shape_of e) e.choice x (range_with_len j count))))
    → IfSome o (λ x. block ≡ bytes_at x place n) → IfSome o (λ x. v ≡ passed w (joined (chosen_at (shape_of e) e.choice x (range_with_len i count))))
told_block e o v w block i count place n len at long bytes after read =
    one_told o (λ x. v ≡ passed w (joined (chosen_at (shape_of e) e.choice x (range_with_len i count)))) read (λ x is.
    after x i (is ∙ ap (bytes_at x place) (long ∙ bytes) ∙ ap (λ (p : ℕ). bytes_at x p (count * e.width)) at))

-- by the gate that was read
pub shut_out : (e : Entries) (entry : List ℕ) (n : ℕ) → n ≡ number_at entry e.gate 4 → n ≡ 0 → false ≡ is_meant e entry
shut_out e entry n is none = ap (λ (k : ℕ). not (k == 0) && chosen e.choice entry) (sym none ∙ is)

pub let_in : (e : Entries) (entry : List ℕ) (n : ℕ) (b : Bool) → n ≡ number_at entry e.gate 4 → 0 < n → b ≡ chosen e.choice entry → b ≡ is_meant e entry
let_in e entry n b is some same = same ∙ opened (chosen e.choice entry) n some ∙ ap (λ (k : ℕ). not (k == 0) && chosen e.choice entry) is
  where
    apart : (n : ℕ) → n ≢ 0 → (n == 0) ≡ false
    apart n different = grind (arith, nat_tests, different)

    opened : (t : Bool) (n : ℕ) → 0 < n → t ≡ (not (n == 0) && t)
    opened t n some = ap (λ (b : Bool). not b && t) (sym (apart n (λ none. omega (arith, some, none))))

-- an entry that passes by or not
pub kept_out : (e : Entries) (entry : List ℕ) (w : Sight) (b : Bool) → b ≡ is_meant e entry → b ≡ false → w ≡ passed w (joined (meant e entry))
kept_out e entry w b is missed = sym (ap (λ (t : Bool). passed w (joined (cond t (entry ∷ []) []))) (sym is ∙ missed) ∙ passed_none w)

pub passed_by : (e : Entries) (entry : List ℕ) (v w : Sight) (b : Bool) → b ≡ is_meant e entry → b ≡ true → v ≡ passed w entry → v ≡ passed w (joined (meant e entry))
passed_by e entry v w b is met after = after ∙ ap (passed w) (sym (append-nil entry)) ∙ sym (ap (λ (t : Bool). passed w (joined (cond t (entry ∷ []) []))) (sym is ∙ met))
