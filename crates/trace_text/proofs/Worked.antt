-- Worked rows of the seconds that are put in and of the lines that they count to.
use Rattle.std.proofs.Common.{◌≡◌, ℕ, List, [], ◌∷◌, refl, arith, inl, inr}
use Rattle.std.specs.Prelude.{codes}
use Rattle.activity_codec.specs.declared.values.Pick.TheVariants.{Work}
use Rattle.activity_codec.specs.declared.values.Slot.TheVariants.{Driver}
use Rattle.trace_model.specs.declared.Action.TheVariants.{Select, Tear}
use Rattle.trace_model.specs.declared.Item.{Item}
use Rattle.trace_model.specs.declared.Item.TheVariants.{Run, Off, Act}
use Rattle.trace_text.specs.Text.{text_lines, counted}
use Rattle.trace_text.specs.Trace.{opened, ended}
use Rattle.trace_text.specs.Judged.{IsPassedAt}

-- comments and empty lines have numbers, and do not count
numbers_of_lines : counted (text_lines (codes "# a\n\nstart 86400\n#\noff 1")) ≡ (3, codes "start" ∷ codes "86400" ∷ []) ∷ (5, codes "off" ∷ codes "1" ∷ []) ∷ []
numbers_of_lines = refl

-- two actions, an `off`, and an action at the end: two seconds are put in, each counts to the last action before it
abbrev written : List (ℕ × Item)
written = (2, Act (Select Driver Work)) ∷ (4, Act (Tear Driver)) ∷ (5, Off 60) ∷ (7, Act (Select Driver Work)) ∷ []

put_in_twice : ended written ≡ (2, Act (Select Driver Work)) ∷ (4, Act (Tear Driver)) ∷ (4, Run 1 0) ∷ (5, Off 60) ∷ (7, Act (Select Driver Work)) ∷ (7, Run 1 0) ∷ []
put_in_twice = refl

-- no second is put in before a run
a_run_comes : ended ((2, Act (Tear Driver)) ∷ (3, Run 9 0) ∷ []) ≡ (2, Act (Tear Driver)) ∷ (3, Run 9 0) ∷ []
a_run_comes = refl

-- with no seconds left, an action and `off` are too long at the action's line, and an action and a run at the run's
passed_at_the_action : IsPassedAt 86400 0 (opened ((2, Run 34560000 0) ∷ (3, Act (Tear Driver)) ∷ (4, Off 1) ∷ [])) 3
passed_at_the_action = inr ((omega arith, omega arith), inr ((omega arith, omega arith), inl (refl, λ within. omega (arith, within.0))))

passed_at_the_run : IsPassedAt 86400 0 (opened ((2, Run 34560000 0) ∷ (3, Act (Tear Driver)) ∷ (4, Run 1 0) ∷ [])) 4
passed_at_the_run = inr ((omega arith, omega arith), inr ((omega arith, omega arith), inl (refl, λ within. omega (arith, within.0))))
