-- Text as cards and units keep it.
use Rattle.std.specs.Prelude.{ℕ, ◌-◌, List, ◌∷◌, ◌++◌, length, replicate}

-- code page 1, and so many characters, padded with spaces (Appendix 1, Name, VehicleRegistrationNumber; the code page:
-- profile)
abbrev pub padded_text : ℕ → List ℕ → List ℕ
padded_text size text = 1 ∷ (text ++ replicate (size - length text) 32)
