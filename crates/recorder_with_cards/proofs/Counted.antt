-- The items of a second, one by one.
use Rattle.std.proofs.Common.{◌≡◌, ◌∙◌, ℕ, suc, ◌+◌, ◌-◌, ◌<◌, Some, List, take, drop, ap, arith}
use Rattle.std.specs.List.{slice_get}
use Rattle.std.proofs.lemmas.List.Sums.{sum_by-cons}
use Rattle.trace_model.specs.declared.Item.{Item}
use Rattle.run_outcome.specs.Room.{insertions, insertion_count}
use Rattle.run_outcome.proofs.Items.{left-here}
use Rattle.recorder_with_cards.specs.Items.{insertions_in}

-- there is none behind the last
pub none-in : (items : List Item) (to : ℕ) → insertions_in to to items ≡ 0
none-in items to = ap (λ (n : ℕ). insertions (take n (drop to items))) (let e : to - to ≡ 0 = omega arith in e)

-- the first of them, and those behind it
pub first-in : (items : List Item) (i to : ℕ) (item : Item) → slice_get items i ≡ Some item → i < to → insertions_in i to items ≡ insertion_count item + insertions_in (i + 1) to items
first-in items i to item here less =
    ap (λ (n : ℕ). insertions (take n (drop i items))) (let e : to - i ≡ suc (to - (i + 1)) = omega (arith, less) in e)
    ∙ ap (λ (l : List Item). insertions (take (suc (to - (i + 1))) l)) (left-here items i item here)
    ∙ sum_by-cons insertion_count item (take (to - (i + 1)) (drop (i + 1) items))
