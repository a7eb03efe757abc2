-- Gaps in order.
use Rattle.std.specs.Prelude.{◌≡◌, ℕ, max, List, [], ◌∷◌}
use Rattle.std.specs.List.Sorted.{IsNonDecreasingBy}
use Rattle.view_model.specs.declared.marks.Gap.{Gap}
use Rattle.slot_bars.specs.Seeing.{is_in_gap}

-- each begins and ends no earlier than any before it
pub record AreInOrder (gaps : List Gap) : Type 0 where
  pub begins : IsNonDecreasingBy (λ (gap : Gap). gap.first) gaps
  pub ends : IsNonDecreasingBy (λ (gap : Gap). gap.behind) gaps

-- the same minutes lie in them
abbrev pub AreSameGaps : List Gap → List Gap → Type 0
AreSameGaps gaps other = (minute : ℕ) → is_in_gap gaps minute ≡ is_in_gap other minute

-- each as long as the longest before it, which ends there
abbrev pub prolonged : (behind : ℕ) → List Gap → List Gap
prolonged behind [] = []
prolonged behind (gap ∷ gaps) = record { first = gap.first; behind = max gap.behind behind }
    ∷ prolonged (max gap.behind behind) gaps
