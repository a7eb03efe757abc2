-- One action more.
use Rattle.std.proofs.Common.{◌≡◌, ◌∙◌, ℕ, ◌+◌, ◌-◌, ◌≤◌, Bool, Some, List, [], ◌∷◌, ◌++◌, length, take, drop, refl, ap, subst, arith, length-drop}
use Rattle.std.specs.Prelude.{min}
use Rattle.std.specs.List.{slice_get}
use Rattle.std.proofs.lemmas.List.{take_more, get_or-drop}
use Rattle.std.proofs.lemmas.Option.{slice_get_within, get_or_from_slice_get}
use Rattle.trace_model.specs.declared.Item.{Item}
use Rattle.run_outcome.specs.declared.outcome.Outcome.{Outcome}
use Rattle.run_acts.specs.declared.run.Run.{Run}
use Rattle.run_acts.specs.Power.{is_lit}
use Rattle.run_acts.specs.Going.{largest_number}
use Rattle.recorder_with_cards.specs.Items.{between}
use Rattle.recorder_with_cards.specs.Acting.{IsItemActed, AreActed}

pub between-none : (n : ℕ) (items : List Item) → between n n items ≡ []
between-none n items = ap (λ (m : ℕ). take m (drop n items)) (let e : n - n ≡ 0 = omega arith in e)

pub between-more : (items : List Item) (from i : ℕ) (item : Item) → from ≤ i → slice_get items i ≡ Some item → between from (i + 1) items ≡ between from i items ++ item ∷ []
between-more items from i item le here =
    let low = slice_get_within items i item here in
    let long = length-drop from items in
    ap (λ (m : ℕ). take m (drop from items)) (let e : i + 1 - from ≡ i - from + 1 = omega (arith, le) in e)
    ∙ take_more (drop from items) (i - from) item (omega (arith, long, low, le))
    ∙ ap (λ (x : Item). between from i items ++ x ∷ []) (get_or-drop from items (i - from) item ∙ get_or_from_slice_get items (from + (i - from)) item item (ap (slice_get items) (let e : from + (i - from) ≡ i = omega (arith, le) in e) ∙ here))

pub acted-more : (has_power : Bool) (speed number last : ℕ) (items : List Item) (item : Item) (a b c : Run) (o p q : Outcome) → AreActed has_power speed number items a b o p → last ≡ number + length items + 1
    → IsItemActed item has_power (is_lit b.power) (min last largest_number) speed b c p q → AreActed has_power speed number (items ++ item ∷ []) a c o q
acted-more has_power speed number last [] item a b c o p q so is here =
    let at : last ≡ number + 1 = omega (arith, is) in (
      c,
      q,
      subst (λ (n : ℕ). IsItemActed item has_power (is_lit a.power) (min n largest_number) speed a c o q) at
          (subst (λ (r : Run). IsItemActed item has_power (is_lit r.power) (min last largest_number) speed r c o q) so.0
          (subst (λ (w : Outcome). IsItemActed item has_power (is_lit b.power) (min last largest_number) speed b c w q) so.1 here)),
      (refl, refl),
    )
acted-more has_power speed number last (x ∷ items) item a b c o p q so is here =
    (so.0, so.1, so.2, acted-more has_power speed (number + 1) last items item so.0 b c so.1 p q so.3 (omega (arith, is)) here)
