-- The image of a new unit (profile).
use Rattle.std.specs.Prelude.{ℕ, ◌-◌, List, [], ◌∷◌, ◌++◌, replicate}
use Rattle.unit_model.specs.declared.layout.TheConstants.{IMAGE_SIZE, IDENTIFICATION}

-- so many zeros
unfoldable pub zeros : ℕ → List ℕ
zeros n = replicate n 0

-- version 1, the identification number and the registration of the vehicle, the speed limit, and zeros
unfoldable pub new_image : (vin registration : List ℕ) → (limit : ℕ) → List ℕ
new_image vin registration limit =
    (0 ∷ 0 ∷ 0 ∷ 1 ∷ []) ++ (vin ++ (registration ++ (limit ∷ zeros (IMAGE_SIZE - IDENTIFICATION.place))))
