-- Worked rows, computed by the checker: minutes over midnight are two days, and a minute told twice begins another.
use Rattle.std.proofs.Common.{◌≡◌, ℕ, [], ◌∷◌, map, refl}
use Rattle.view_model.specs.declared.Viewed.{Viewed}
use Rattle.slot_bars.specs.DaysOf.{days_of}

abbrev at : ℕ → Viewed ℕ
at k = record { minute = k; shown = 0 }

midnight : days_of (map at (1438 ∷ 1439 ∷ 1440 ∷ [])) ≡ (at 1438 ∷ at 1439 ∷ []) ∷ (at 1440 ∷ []) ∷ []
midnight = refl

-- minutes that are left out end no day
left_out : days_of (map at (5 ∷ 9 ∷ [])) ≡ (at 5 ∷ at 9 ∷ []) ∷ []
left_out = refl

twice : days_of (map at (5 ∷ 6 ∷ 6 ∷ [])) ≡ (at 5 ∷ at 6 ∷ []) ∷ (at 6 ∷ []) ∷ []
twice = refl
