-- A trace goes on: one more line, and the seconds so far stay.
use Rattle.std.proofs.Common.{◌≡◌, ◌∙◌, ℕ, ◌+◌, List, [], ◌∷◌, ◌++◌, refl, ap, sym, arith, append_assoc, append-nil}
use Rattle.std.proofs.lemmas.List.Sums.{sum_by-cons}
use Rattle.trace_model.specs.declared.Action.{Action}
use Rattle.trace_model.specs.declared.Item.{Item}
use Rattle.trace_model.specs.declared.Item.TheVariants.{Run, Off, Act}
use Rattle.trace_model.specs.Trace.{TraceSecond, driven, dark, seconds_from, seconds_of, item_seconds, total_seconds, number_after, waiting_from, waiting_after, seconds_at}

number-more : (number : ℕ) (item : Item) (items : List Item) → (number + item_seconds item) + total_seconds items ≡ number + total_seconds (item ∷ items)
number-more number item items = let e = sum_by-cons item_seconds item items in omega (arith, e)

from-more : (number : ℕ) (waiting : List Action) (items : List Item) (item : Item)
    → seconds_from number waiting (items ++ item ∷ []) ≡ seconds_from number waiting items ++ seconds_at (number + total_seconds items) (waiting_from waiting items) item
from-more number waiting [] item = let e : number + 0 ≡ number = omega arith in rw e (one item)
  where
    one : (item : Item) → seconds_from number waiting (item ∷ []) ≡ seconds_at number waiting item
    one (Run n speed) = append-nil (driven n number speed waiting)
    one (Off n) = append-nil (dark n number)
    one (Act action) = refl
from-more number waiting (Run n speed ∷ items) item =
    rw (sym (number-more number (Run n speed) items))
    (ap (λ (ss : List TraceSecond). driven n number speed waiting ++ ss) (from-more (number + n) [] items item)
    ∙ sym (append_assoc (driven n number speed waiting) (seconds_from (number + n) [] items) (seconds_at ((number + n) + total_seconds items) (waiting_from [] items) item)))
from-more number waiting (Off n ∷ items) item =
    rw (sym (number-more number (Off n) items))
    (ap (λ (ss : List TraceSecond). dark n number ++ ss) (from-more (number + n) waiting items item)
    ∙ sym (append_assoc (dark n number) (seconds_from (number + n) waiting items) (seconds_at ((number + n) + total_seconds items) (waiting_from waiting items) item)))
from-more number waiting (Act action ∷ items) item =
    rw (sym (number-more number (Act action) items)) (let e : number + 0 ≡ number = omega arith in rw e (from-more number (waiting ++ action ∷ []) items item))

-- one more line spells its seconds behind those so far
pub seconds_of-more : (start : ℕ) (items : List Item) (item : Item) → seconds_of start (items ++ item ∷ []) ≡ seconds_of start items ++ seconds_at (number_after start items) (waiting_after items) item
unfolding seconds_of
seconds_of-more start items item = from-more start [] items item
