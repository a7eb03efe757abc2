-- The items that are left of a trace.
use Rattle.std.proofs.Common.{◌≡◌, ℕ, ◌+◌, ◌≤◌, Some, List, [], ◌∷◌, drop, ap, ◌∙◌, arith}
use Rattle.std.specs.List.{slice_get, AllByRecursion}
use Rattle.std.proofs.lemmas.List.{drop_more}
use Rattle.std.proofs.lemmas.List.Sums.{sum_by-cons}
use Rattle.std.proofs.lemmas.Option.{slice_get_within, get_or_from_slice_get}
use Rattle.trace_model.specs.declared.Item.{Item}
use Rattle.trace_model.specs.declared.Item.TheVariants.{Run as Driven, Off, Act}
use Rattle.trace_model.specs.Trace.{item_seconds, total_seconds}
use Rattle.trace_text.specs.Line.{InRange}
use Rattle.run_outcome.specs.Room.{offs, off_count, insertions, insertion_count}

module _ (items : List Item) (i : ℕ) (item : Item) (here : slice_get items i ≡ Some item) where
  pub left-here : drop i items ≡ item ∷ drop (i + 1) items
  left-here = drop_more items i item (slice_get_within items i item here) ∙ ap (λ (x : Item). x ∷ drop (i + 1) items) (get_or_from_slice_get items i item item here)

  pub seconds-here : total_seconds (drop i items) ≡ item_seconds item + total_seconds (drop (i + 1) items)
  seconds-here = ap total_seconds left-here ∙ sum_by-cons item_seconds item (drop (i + 1) items)

  pub offs-here : offs (drop i items) ≡ off_count item + offs (drop (i + 1) items)
  offs-here = ap offs left-here ∙ sum_by-cons off_count item (drop (i + 1) items)

  pub insertions-here : insertions (drop i items) ≡ insertion_count item + insertions (drop (i + 1) items)
  insertions-here = ap insertions left-here ∙ sum_by-cons insertion_count item (drop (i + 1) items)

-- each `off` line has a second at least
pub offs-most : (items : List Item) → AllByRecursion InRange items → offs items ≤ total_seconds items
offs-most [] all = omega arith
offs-most (Driven seconds speed ∷ items) all = let rest = offs-most items all.1 in omega (arith, rest, sum_by-cons item_seconds (Driven seconds speed) items, sum_by-cons off_count (Driven seconds speed) items)
offs-most (Off seconds ∷ items) all = let rest = offs-most items all.1 in let some = all.0.0 in omega (arith, rest, some, sum_by-cons item_seconds (Off seconds) items, sum_by-cons off_count (Off seconds) items)
offs-most (Act action ∷ items) all = let rest = offs-most items all.1 in omega (arith, rest, sum_by-cons item_seconds (Act action) items, sum_by-cons off_count (Act action) items)
