-- A `run` line by its bytes (profile).
use Rattle.std.specs.Prelude.{ℕ, List, ◌∷◌, ◌++◌, codes, decimal}

-- `run N V`
abbrev pub run_line : (seconds speed : ℕ) → List ℕ
run_line seconds speed = codes "run " ++ (decimal seconds ++ 32 ∷ decimal speed)
