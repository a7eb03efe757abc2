-- The items that are left of a trace, and the room for them.
use Rattle.std.proofs.Common.{◌≡◌, ◌∙◌, ℕ, zero, suc, ◌+◌, ◌-◌, ◌<◌, ◌≤◌, true, false, Some, List, [], ◌∷◌, length, take, drop, refl, ap, sym, subst, arith}
use Rattle.std.specs.List.{slice_get, AllByRecursion}
use Rattle.std.proofs.lemmas.List.{drop-drop}
use Rattle.std.proofs.lemmas.List.Sums.{sum_by-cons}
use Rattle.trace_model.specs.declared.Item.{Item}
use Rattle.trace_model.specs.declared.Item.TheVariants.{Run as Driven, Off, Act}
use Rattle.trace_model.specs.Trace.{item_seconds}
use Rattle.trace_text.specs.Line.{InRange}
use Rattle.run_outcome.specs.declared.outcome.Outcome.{Outcome}
use Rattle.run_outcome.specs.Room.{off_count, insertions, insertion_count}
use Rattle.run_outcome.proofs.Items.{insertions-here}
use Rattle.run_acts.specs.declared.run.Run.{Run}
use Rattle.run_acts.specs.Room.{cuts_from, HasRoom}
use Rattle.recorder_with_cards.specs.Items.{insertions_in}
use Rattle.recorder_with_cards.proofs.Rooms.{room-less}
use Rattle.recorder_with_cards.specs.Gone.{first_waiting, has_seconds}

-- each item is in its range
pub each-at : (items : List Item) (i : ℕ) (item : Item) → slice_get items i ≡ Some item → AllByRecursion InRange items → InRange item
each-at [] i item h all = cc
each-at (first ∷ items) zero item h all = let e : first ≡ item = cc in subst InRange e all.0
each-at (first ∷ items) (suc i) item h all = each-at items i item h all.1

-- the insertions among the first items, and among those behind them
insertions-parts : (items : List Item) (n : ℕ) → insertions (take n items) + insertions (drop n items) ≡ insertions items
insertions-parts items zero = omega arith
insertions-parts [] (suc n) = omega arith
insertions-parts (item ∷ items) (suc n) = omega (arith, sum_by-cons insertion_count item (take n items), sum_by-cons insertion_count item items, insertions-parts items n)

-- those that wait, and those that are left
pub insertions-left : (items : List Item) (first i : ℕ) → first ≤ i → insertions (drop first items) ≡ insertions_in first i items + insertions (drop i items)
insertions-left items first i le =
    let parts = insertions-parts (drop first items) (i - first) in
    let behind = ap insertions (drop-drop (i - first) first items ∙ ap (λ (n : ℕ). drop n items) (let e : first + (i - first) ≡ i = omega (arith, le) in e)) in
    omega (arith, parts, behind)

-- the first item that waits
pub waiting-most : (item : Item) (first i : ℕ) → first ≤ i → first_waiting item first i ≤ i + 1
waiting-most (Driven seconds speed) first i le = omega arith
waiting-most (Off seconds) first i le = omega arith
waiting-most (Act action) first i le = omega (arith, le)

-- behind an item there is room for those that are left
pub room-behind : (items : List Item) (item : Item) (old new : Run) (o p : Outcome) (left offs first i : ℕ) → slice_get items i ≡ Some item → first ≤ i → i < length items
    → HasRoom old o (item_seconds item + left) (off_count item + offs) (insertions (drop first items)) (length items - first) → (has_seconds item ≡ false → (new ≡ old) × (p ≡ o))
    → ((more lines cards acts : ℕ) → HasRoom old o (item_seconds item + more) (off_count item + lines) (insertions_in first i items + cards) (i - first + acts) → has_seconds item ≡ true → HasRoom new p more lines cards acts)
    → HasRoom new p left offs (insertions (drop (first_waiting item first i) items)) (length items - first_waiting item first i)
room-behind items (Driven seconds speed) old new o p left offs first i here le low h idle room =
    let n : ℕ = length items in
    let parts = insertions-left items first i le in
    let now = insertions-here items i (Driven seconds speed) here in
    let later : ℕ = insertions (drop (i + 1) items) in
    room left offs later (n - (i + 1))
    (room-less cuts_from old o (seconds + left) (seconds + left) (0 + offs) (0 + offs) (insertions (drop first items)) (insertions_in first i items + later) (n - first) (i - first + (n - (i + 1)))
    (omega arith) (omega arith) (omega (arith, parts, now)) (omega (arith, le, low)) h) refl
room-behind items (Off seconds) old new o p left offs first i here le low h idle room =
    let n : ℕ = length items in
    let parts = insertions-left items first i le in
    let now = insertions-here items i (Off seconds) here in
    let later : ℕ = insertions (drop (i + 1) items) in
    room left offs later (n - (i + 1))
    (room-less cuts_from old o (seconds + left) (seconds + left) (1 + offs) (1 + offs) (insertions (drop first items)) (insertions_in first i items + later) (n - first) (i - first + (n - (i + 1)))
    (omega arith) (omega arith) (omega (arith, parts, now)) (omega (arith, le, low)) h) refl
room-behind items (Act action) old new o p left offs first i here le low h idle room =
    let n : ℕ = length items in
    let k : ℕ = insertions (drop first items) in
    let same = idle refl in
    subst (λ (r : Run). HasRoom r p left offs k (n - first)) (sym same.0)
    (subst (λ (q : Outcome). HasRoom old q left offs k (n - first)) (sym same.1)
    (room-less cuts_from old o (0 + left) left (0 + offs) offs k k (n - first) (n - first) (omega arith) (omega arith) (omega arith) (omega arith) h))
