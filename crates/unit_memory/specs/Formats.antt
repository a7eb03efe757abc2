-- What a stop leaves of a unit that is made new.
use Rattle.std.specs.Prelude.{◌≡◌, ◌⊎◌, ℕ, List, [], ◌∷◌, length}
use Rattle.tach_media.specs.Medium.{put}
use Rattle.unit_model.specs.declared.layout.TheConstants.{VERSION, VIN, REGISTRATION, SPEED_LIMIT}
use Rattle.unit_model.specs.Image.{number_of}

-- the most writes that it begins: five small ones, and 17 for each of 607 chunks of 4096 zeros
abbrev pub format_most : ℕ
format_most = 10324

-- an image of the same size whose version is 0
pub record IsBlank (x c : List ℕ) : Type 0 where
  pub same_length : length c ≡ length x
  pub version : number_of c VERSION ≡ 0

-- a moment of it: the old image, one of the same size whose version is 0, or the new one
abbrev pub IsFormatting : List ℕ → List ℕ → List ℕ → Type 0
IsFormatting new x c = (c ≡ x) ⊎ (IsBlank x c ⊎ (c ≡ new))

-- an image with the identification number, the registration and the speed limit
abbrev pub identified : (vin registration : List ℕ) → (limit : ℕ) → List ℕ → List ℕ
identified vin registration limit x = put SPEED_LIMIT.place (limit ∷ [])
    (put REGISTRATION.place registration (put VIN.place vin x))
