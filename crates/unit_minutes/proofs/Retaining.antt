-- What a unit retains of all days at each moment of a `keep`.
use Rattle.std.proofs.Common.{◌⊎◌, inl, inr, ⊎_elim, ℕ, ◌≤◌, List, [], ◌∷◌, sym, ◌∙◌, subst}
use Rattle.unit_model.specs.Days.{UnitMinute, ShownDay, filled, Each}
use Rattle.unit_model.specs.Image.{recorded}
use Rattle.unit_model.specs.Retention.{UnitRetains}
use Rattle.unit_model.proofs.Retention.{begins_one, retains_more, given_retains, kept_retains}
use Rattle.unit_minutes.specs.Keeping.{IsKeeping, IsBeforeLastKept, IsBehindLastKept}

-- where the unit retains of these days, and these minutes were begun and not kept, a moment of a keep retains of the same
-- days, and the minute was begun too, or of those with the minute
pub keeping_retains : (all : List ShownDay) (lost : List ℕ) (k : UnitMinute) (odometer : ℕ) (x c : List ℕ) → UnitRetains all lost (recorded x) → Each (λ m. m ≤ k.minute) lost → IsKeeping k odometer x c
    → UnitRetains all (k.minute ∷ lost) (recorded c) ⊎ UnitRetains (filled all k) [] (recorded c)
keeping_retains all lost k odometer x c retains low keeping = by keeping.side
  where
    by : IsBeforeLastKept k odometer x c ⊎ IsBehindLastKept k odometer x c → UnitRetains all (k.minute ∷ lost) (recorded c) ⊎ UnitRetains (filled all k) [] (recorded c)
    by (inl before) = ⊎_elim
        (λ same. inl (subst (UnitRetains all (k.minute ∷ lost)) (sym same) (retains_more k.minute all lost (recorded x) retains)))
        (λ given. inl (subst (UnitRetains all (k.minute ∷ lost)) (sym given.newest)
        (given_retains k.minute all lost (recorded x) retains given.full (begins_one k.minute (recorded x) given.begins))))
        before.minutes
    by (inr behind) = inr (inl (behind.minutes ∙ kept_retains all lost (recorded x) k retains low))
