-- The first failing place of more fields.
use Rattle.std.proofs.Common.{◌≡◌, ℕ, Bool, true, false, cond, List, [], ◌∷◌, ◌++◌, Option, Some, None, refl, ◌∙◌}
use Rattle.unit_model.specs.Decoding.{Check, first_failing}
use Rattle.unit_model.specs.Decoding.{or_failing, or_else}

pub failing_append : (a b : List Check) → first_failing (a ++ b) ≡ or_else (first_failing a) (first_failing b)
failing_append [] b = refl
failing_append (c ∷ cs) b = by c.passes (failing_append cs b)
  where
    by : (p : Bool) → first_failing (cs ++ b) ≡ or_else (first_failing cs) (first_failing b) → cond p (first_failing (cs ++ b)) (Some c.place) ≡ or_else (cond p (first_failing cs) (Some c.place)) (first_failing b)
    by true more = more
    by false more = refl

pub failing_more : (a : List Check) (c : Check) → first_failing (a ++ c ∷ []) ≡ or_failing (first_failing a) c.place c.passes
failing_more a c = failing_append a (c ∷ []) ∙ by (first_failing a)
  where
    by : (o : Option ℕ) → or_else o (cond c.passes None (Some c.place)) ≡ or_failing o c.place c.passes
    by (Some p) = refl
    by None = refl
