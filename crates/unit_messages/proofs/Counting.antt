-- How many entries pass by, by how many bytes do.
use Rattle.std.proofs.Common.{◌≡◌, ℕ, zero, suc, ◌+◌, ◌-◌, ◌*◌, ◌/◌, ◌≤◌, ◌<◌, min, Bool, true, false, cond, Option, Some, IfSome, List, [], ◌∷◌, ◌++◌, length, drop, refl, sym, ◌∙◌, ap, arith, length-append}
use Rattle.std.specs.List.{range_with_len}
use Rattle.std.proofs.lemmas.List.{length-take, length-drop}
use Rattle.std.proofs.Math.Nat.{mul-le-mul_right, mul-div_cancel, add-mul}
use Rattle.card_layout.specs.Fields.{joined}
use Rattle.tach_media.proofs.Runs.{both_told}
use Rattle.gated_ring.specs.Ring.{entry_at}
use Rattle.gated_ring.proofs.Orders.{Each, range_each}
use Rattle.unit_model.specs.declared.layout.TheConstants.{IMAGE_SIZE}
use Rattle.unit_messages.specs.declared.entries.Entries.{Entries}
use Rattle.unit_messages.specs.Windows.{Sight, passed}
use Rattle.unit_messages.specs.Chosen.{chosen_at, shape_of, is_meant, AreEntries}
use Rattle.unit_messages.proofs.Choosing.{chosen_both, joined_both}
use Rattle.unit_messages.proofs.Passing.{chosen_one, entry_ends}

module _ (e : Entries) (are : AreEntries e) (x : List ℕ) (whole : IMAGE_SIZE ≤ length x) where
  one_long : (i : ℕ) → i < e.count → length (entry_at (shape_of e) x i) ≡ e.width
  one_long i below =
      let end = entry_ends e i are below in
      omega (arith, end, whole, length-take e.width (drop (e.base + 0 + i * e.width) x), length-drop (e.base + 0 + i * e.width) x)

  one_counted : (i : ℕ) → i < e.count → length (joined (chosen_at (shape_of e) e.choice x (i ∷ []))) ≡ length (chosen_at (shape_of e) e.choice x (i ∷ [])) * e.width
  one_counted i below =
      let entry = entry_at (shape_of e) x i in
      ap (λ (l : List (List ℕ)). length (joined l)) (chosen_one e x i are.gate) ∙ by entry (one_long i below) (is_meant e entry)
      ∙ ap (λ (l : List (List ℕ)). length l * e.width) (sym (chosen_one e x i are.gate))
    where
      by : (entry : List ℕ) → length entry ≡ e.width → (t : Bool) → length (joined (cond t (entry ∷ []) [])) ≡ length (cond t (entry ∷ []) []) * e.width
      by entry long true = omega (arith, long, length-append entry [])
      by entry long false = omega arith

  one_few : (i : ℕ) → length (chosen_at (shape_of e) e.choice x (i ∷ [])) ≤ 1
  one_few i = let same = ap length (chosen_one e x i are.gate) in let most = by (is_meant e (entry_at (shape_of e) x i)) in omega (arith, same, most)
    where
      by : (t : Bool) → length (cond t (entry_at (shape_of e) x i ∷ []) []) ≤ 1
      by true = omega arith
      by false = omega arith

  pub all_counted : (js : List ℕ) → Each (λ j. j < e.count) js → length (joined (chosen_at (shape_of e) e.choice x js)) ≡ length (chosen_at (shape_of e) e.choice x js) * e.width
  all_counted [] all = omega arith
  all_counted (j ∷ js) all =
      let a = chosen_at (shape_of e) e.choice x (j ∷ []) in
      let b = chosen_at (shape_of e) e.choice x js in
      let split = chosen_both (shape_of e) e.choice x (j ∷ []) js in
      let first = one_counted j all.0 in
      let rest = all_counted js all.1 in
      let sum : length (joined (a ++ b)) ≡ length (a ++ b) * e.width =
      ap length (joined_both a b) ∙ length-append (joined a) (joined b) ∙ (λ t. first t + rest t)
      ∙ sym (ap (λ (n : ℕ). n * e.width) (length-append a b) ∙ add-mul (length a) (length b) e.width) in
      ap (λ (l : List (List ℕ)). length (joined l)) split ∙ sum ∙ ap (λ (l : List (List ℕ)). length l * e.width) (sym split)

  pub all_few : (js : List ℕ) → length (chosen_at (shape_of e) e.choice x js) ≤ length js
  all_few [] = omega arith
  all_few (j ∷ js) =
      let split = ap length (chosen_both (shape_of e) e.choice x (j ∷ []) js) ∙ length-append (chosen_at (shape_of e) e.choice x (j ∷ [])) (chosen_at (shape_of e) e.choice x js) in
      let first = one_few j in
      let rest = all_few js in
      omega (arith, split, first, rest)

pub range_long : (from n : ℕ) → length (range_with_len from n) ≡ n
range_long from zero = refl
range_long from (suc n) = let rest = range_long (from + 1) n in omega (arith, rest)

-- the entries that are there and chosen, by how far a window that passes over all has come
pub count_told : (e : Entries) (o : Option (List ℕ)) (start v : Sight) (skip n : ℕ) → AreEntries e → 0 < e.width → start ≡ record { skip = 4294967295; held = [] } → skip ≡ v.skip → n ≡ min ((4294967295 - skip) / e.width) e.count
    → ((x : List ℕ) → o ≡ Some x → IMAGE_SIZE ≤ length x) → IfSome o (λ x. v ≡ passed start (joined (chosen_at (shape_of e) e.choice x (range_with_len 0 (e.count - 0)))))
    → IfSome o (λ x. n ≡ length (chosen_at (shape_of e) e.choice x (range_with_len 0 e.count)))
count_told e o start v skip n are wide begun sees is inside read =
    both_told o (λ x. n ≡ length (chosen_at (shape_of e) e.choice x (range_with_len 0 e.count))) read read (λ x told after _.
    let js = range_with_len 0 e.count in
    let some = chosen_at (shape_of e) e.choice x js in
    let total : length (joined some) ≡ length some * e.width = all_counted e are x (inside x told) js (range_each (λ j. j < e.count) 0 e.count (λ j low high. omega (arith, high))) in
    let few : length some ≤ e.count = omega (arith, all_few e are x (inside x told) js, range_long 0 e.count) in
    let most : length some * e.width ≤ 2048 * e.width = mul-le-mul_right e.width (let low : length some ≤ 2048 = omega (arith, few, are.few) in low) in
    let same : e.count - 0 ≡ e.count = omega arith in
    let left : v.skip ≡ 4294967295 - length (joined some) =
    ap (λ (s : Sight). s.skip) after
    ∙ ap (λ (m : ℕ). start.skip - length (joined (chosen_at (shape_of e) e.choice x (range_with_len 0 m)))) same
    ∙ ap (λ (s : Sight). s.skip - length (joined some)) begun in
    let gone : 4294967295 - skip ≡ length some * e.width = omega (arith, sees, left, total, most, are.narrow) in
    is ∙ ap (λ (m : ℕ). min (m / e.width) e.count) gone ∙ ap (λ (m : ℕ). min m e.count) (mul-div_cancel (length some) wide) ∙ (let all : min (length some) e.count ≡ length some = omega (arith, few) in all))
