-- The actions that wait for their second, item by item.
use Rattle.std.proofs.Common.{◌≡◌, ◌⊎◌, inl, inr, ⊎_elim, ℕ, zero, suc, ◌+◌, ◌-◌, ◌≤◌, Some, List, [], ◌∷◌, ◌++◌, length, take, drop, refl, ap, sym, ◌∙◌, arith, length-append, append_assoc}
use Rattle.std.specs.List.{slice_get}
use Rattle.std.proofs.lemmas.List.{take_more, append-nil, drop-drop}
use Rattle.std.proofs.lemmas.Option.{slice_get_within, get_or_from_slice_get}
use Rattle.trace_model.specs.declared.Action.{Action}
use Rattle.trace_model.specs.declared.Item.{Item}
use Rattle.trace_model.specs.declared.Item.TheVariants.{Run, Off, Act}
use Rattle.trace_model.specs.Trace.{seconds_of, seconds_at, number_after, item_seconds, total_seconds, waiting_from, waiting_after}
use Rattle.std.proofs.lemmas.List.Sums.{sum_by-cons}
use Rattle.trace_model.proofs.LeftToRight.{seconds_of-more}
use Rattle.trace_text.specs.Trace.{RunComes, HasRuns}
use Rattle.run_outcome.proofs.Items.{left-here}
use Rattle.recorder_with_cards.specs.Gone.{first_waiting}
use Rattle.recorder_with_cards.specs.Items.{between}
use Rattle.recorder_with_cards.specs.Recorded.{action_of, actions_in}
use Rattle.recorder_with_cards.specs.Writes.{acts_at}
use Rattle.recorder_with_cards.proofs.Acted.{between-none, between-more}

-- ---- the actions among items

actions-append : (xs ys : List Item) → actions_in (xs ++ ys) ≡ actions_in xs ++ actions_in ys
actions-append [] ys = refl
actions-append (x ∷ xs) ys = ap (λ (l : List Action). action_of x ++ l) (actions-append xs ys) ∙ sym (append_assoc (action_of x) (actions_in xs) (actions_in ys))

actions-one : (item : Item) → actions_in (item ∷ []) ≡ action_of item
actions-one item = append-nil (action_of item)

-- one item more
pub actions-more : (items : List Item) (from i : ℕ) (item : Item) → from ≤ i → slice_get items i ≡ Some item → actions_in (between from (i + 1) items) ≡ actions_in (between from i items) ++ action_of item
actions-more items from i item le here =
    ap actions_in (between-more items from i item le here) ∙ actions-append (between from i items) (item ∷ []) ∙ ap (λ (l : List Action). actions_in (between from i items) ++ l) (actions-one item)

-- each item is one at most
pub one-action : (item : Item) → length (action_of item) ≤ 1
one-action (Run seconds speed) = omega arith
one-action (Off seconds) = omega arith
one-action (Act action) = omega arith

pub most-actions : (items : List Item) → length (actions_in items) ≤ length items
most-actions [] = omega arith
most-actions (item ∷ items) = omega (arith, one-action item, most-actions items, length-append (action_of item) (actions_in items))

most-taken : (n : ℕ) (items : List Item) → length (take n items) ≤ n
most-taken zero items = omega arith
most-taken (suc n) [] = omega arith
most-taken (suc n) (item ∷ items) = omega (arith, most-taken n items)

-- all of these are actions where they have so many
pub all-actions : (from to : ℕ) (items : List Item) → length (actions_in (between from to items)) ≡ to - from →
    (length (between from to items) ≤ length (actions_in (between from to items))) × (length (between from to items) ≤ to - from)
all-actions from to items many =
    let most : length (between from to items) ≤ to - from = most-taken (to - from) (drop from items) in (omega (arith, most, many), most)

-- so there are no more than items, and the number of them with one item more
pub few-actions : (items : List Item) (from i : ℕ) (item : Item) → from ≤ i → slice_get items i ≡ Some item →
    (length (actions_in (between from i items)) ≤ i - from) × (length (actions_in (between from (i + 1) items)) ≡ length (actions_in (between from i items)) + length (action_of item))
few-actions items from i item le here =
    let a = most-actions (between from i items) in
    let b = most-taken (i - from) (drop from items) in (
      omega (arith, a, b),
      ap length (actions-more items from i item le here) ∙ length-append (actions_in (between from i items)) (action_of item),
    )

-- ---- what waits behind one item more
abbrev one : List Action → Item → List Action
one waiting (Run seconds speed) = []
one waiting (Off seconds) = waiting
one waiting (Act action) = waiting ++ action ∷ []

waiting-more : (waiting : List Action) (items : List Item) (item : Item) → waiting_from waiting (items ++ item ∷ []) ≡ one (waiting_from waiting items) item
waiting-more waiting [] (Run seconds speed) = refl
waiting-more waiting [] (Off seconds) = refl
waiting-more waiting [] (Act action) = refl
waiting-more waiting (Run seconds speed ∷ items) item = waiting-more [] items item
waiting-more waiting (Off seconds ∷ items) item = waiting-more waiting items item
waiting-more waiting (Act action ∷ items) item = waiting-more (waiting ++ action ∷ []) items item

-- a run comes behind what waits, so nothing waits before an `off`
none-waits : (waiting : List Action) (items : List Item) (i seconds : ℕ) → slice_get items i ≡ Some (Off seconds) → HasRuns items → (waiting ≡ []) ⊎ RunComes items → waiting_from waiting (take i items) ≡ []
none-waits waiting [] i seconds h runs known = cc
none-waits waiting (Run n speed ∷ items) zero seconds h runs known = cc
none-waits waiting (Off n ∷ items) zero seconds h runs known = ⊎_elim (λ none. none) (λ never. absurd never) known
none-waits waiting (Act action ∷ items) zero seconds h runs known = cc
none-waits waiting (Run n speed ∷ items) (suc i) seconds h runs known = none-waits [] items i seconds h runs (inl refl)
none-waits waiting (Off n ∷ items) (suc i) seconds h runs known = none-waits waiting items i seconds h runs (⊎_elim (λ none. inl none) (λ never. absurd never) known)
none-waits waiting (Act action ∷ items) (suc i) seconds h runs known = none-waits (waiting ++ action ∷ []) items i seconds h runs.1 (inr runs.0)

-- the items from one index to another wait for their second, and are actions
pub record Waits (items : List Item) (first i : ℕ) : Type 0 where
  pub are : actions_in (between first i items) ≡ waiting_after (take i items)
  pub count : length (actions_in (between first i items)) ≡ i - first

none-from : (items : List Item) (n : ℕ) → waiting_after (take n items) ≡ [] → Waits items n n
none-from items n is =
    let none = ap actions_in (between-none n items) in
    record { are = none ∙ sym is; count = ap length none ∙ (let e : 0 ≡ n - n = omega arith in e) }

pub waits-none : (items : List Item) → Waits items 0 0
waits-none items = none-from items 0 refl

pub taken-more : (items : List Item) (i : ℕ) (item : Item) → slice_get items i ≡ Some item → take (i + 1) items ≡ take i items ++ item ∷ []
taken-more items i item here = take_more items i item (slice_get_within items i item here) ∙ ap (λ (x : Item). take i items ++ x ∷ []) (get_or_from_slice_get items i item item here)

pub waits-more : (items : List Item) (i first : ℕ) (item : Item) → slice_get items i ≡ Some item → first ≤ i → HasRuns items → Waits items first i → Waits items (first_waiting item first i) (i + 1)
waits-more items i first (Run seconds speed) here le runs w =
    none-from items (i + 1) (ap waiting_after (taken-more items i (Run seconds speed) here) ∙ waiting-more [] (take i items) (Run seconds speed))
waits-more items i first (Off seconds) here le runs w =
    none-from items (i + 1) (ap waiting_after (taken-more items i (Off seconds) here) ∙ waiting-more [] (take i items) (Off seconds) ∙ none-waits [] items i seconds here runs (inl refl))
waits-more items i first (Act action) here le runs w =
    let more = actions-more items first i (Act action) le here in
    record {
      are = more ∙ ap (λ (acts : List Action). acts ++ action ∷ []) w.are ∙ sym (ap waiting_after (taken-more items i (Act action) here) ∙ waiting-more [] (take i items) (Act action));
      count = ap length more ∙ length-append (actions_in (between first i items)) (action ∷ []) ∙ (let n = w.count in let e : length (actions_in (between first i items)) + 1 ≡ i + 1 - first = omega (arith, n, le) in e);
    }

-- ---- how many actions there are among the first items, and among those behind them

acts-parts : (items : List Item) (n : ℕ) → length (actions_in (take n items)) + length (actions_in (drop n items)) ≡ length (actions_in items)
acts-parts items zero = omega arith
acts-parts [] (suc n) = omega arith
acts-parts (item ∷ items) (suc n) = omega (arith, length-append (action_of item) (actions_in (take n items)), length-append (action_of item) (actions_in items), acts-parts items n)

pub acts-within : (items : List Item) (n : ℕ) → length (actions_in (take n items)) ≤ length (actions_in items)
acts-within items n = let parts = acts-parts items n in omega (arith, parts)

acts-left : (items : List Item) (first i : ℕ) → first ≤ i → length (actions_in (drop first items)) ≡ length (actions_in (between first i items)) + length (actions_in (drop i items))
acts-left items first i le =
    let parts = acts-parts (drop first items) (i - first) in
    let behind = ap (λ (l : List Item). length (actions_in l)) (drop-drop (i - first) first items ∙ ap (λ (n : ℕ). drop n items) (let e : first + (i - first) ≡ i = omega (arith, le) in e)) in
    omega (arith, parts, behind)

acts-here : (items : List Item) (i : ℕ) (item : Item) → slice_get items i ≡ Some item → length (actions_in (drop i items)) ≡ length (action_of item) + length (actions_in (drop (i + 1) items))
acts-here items i item here = ap (λ (l : List Item). length (actions_in l)) (left-here items i item here) ∙ length-append (action_of item) (actions_in (drop (i + 1) items))

-- those that waited for the first second of an item come to those before
pub acts-more : (items : List Item) (i first : ℕ) (item : Item) → slice_get items i ≡ Some item → first ≤ i → Waits items first i
    → length (actions_in (take first items)) + acts_at (i - first) item ≤ length (actions_in (take (first_waiting item first i) items))
acts-more items i first (Run seconds speed) here le w =
    let left = acts-left items first i le in
    let now = acts-here items i (Run seconds speed) here in
    let was = acts-parts items first in
    let is = acts-parts items (i + 1) in
    let many = w.count in
    omega (arith, left, now, was, is, many)
acts-more items i first (Off seconds) here le w =
    let left = acts-left items first i le in
    let now = acts-here items i (Off seconds) here in
    let was = acts-parts items first in
    let is = acts-parts items (i + 1) in
    omega (arith, left, now, was, is)
acts-more items i first (Act action) here le w = omega arith

-- ---- the seconds of the items so far

pub total-parts : (items : List Item) (i : ℕ) → total_seconds (take i items) + total_seconds (drop i items) ≡ total_seconds items
total-parts items zero = omega arith
total-parts [] (suc i) = omega arith
total-parts (item ∷ items) (suc i) = omega (arith, sum_by-cons item_seconds item (take i items), sum_by-cons item_seconds item items, total-parts items i)

pub seconds-none : (start : ℕ) → seconds_of start [] ≡ []
unfolding seconds_of
seconds-none start = refl

pub seconds-more : (start : ℕ) (items : List Item) (i first : ℕ) (item : Item) (next : ℕ) → slice_get items i ≡ Some item → number_after start (take i items) ≡ next → Waits items first i →
    seconds_of start (take (i + 1) items) ≡ seconds_of start (take i items) ++ seconds_at next (actions_in (between first i items)) item
seconds-more start items i first item next here at w =
    ap (seconds_of start) (taken-more items i item here) ∙ seconds_of-more start (take i items) item
    ∙ ap (λ (n : ℕ). seconds_of start (take i items) ++ seconds_at n (waiting_after (take i items)) item) at
    ∙ ap (λ (acts : List Action). seconds_of start (take i items) ++ seconds_at next acts item) (sym w.are)
