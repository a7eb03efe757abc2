-- The version of a unit's image, its rule byte, and the rule of minutes by which a run of the unit goes (profile).
use Rattle.std.specs.Prelude.{◌≡◌, ◌⊎◌, ℕ, ◌+◌, ◌-◌, List, [], ◌∷◌, ◌==◌, if◌then◌else◌}
use Rattle.gated_ring.specs.tach_media.Medium.{bytes_at, put, SameOutside}
use Rattle.minute_model.specs.declared.Rule.{Rule}
use Rattle.minute_model.specs.declared.Rule.TheVariants.{Original, Amended}
use Rattle.unit_model.specs.declared.layout.TheConstants.{VERSION, VIN, RULE_BYTE, RULED_VERSION}
use Rattle.unit_model.specs.Image.{number_of}

-- the version of an image
abbrev pub version_of : List ℕ → ℕ
version_of image = number_of image VERSION

-- the rule byte where the version has one, else 0
abbrev pub rule_byte_by : (version byte : ℕ) → ℕ
rule_byte_by version byte = if version == RULED_VERSION then byte else 0

-- so of an image
abbrev pub rule_byte_of : List ℕ → ℕ
rule_byte_of image = rule_byte_by (version_of image) (number_of image RULE_BYTE)

-- the rule of a rule byte: 1 is the amended one
abbrev pub rule_by : ℕ → Rule
rule_by byte = if byte == 1 then Amended else Original

-- the rule of minutes by which a run of this unit goes
unfoldable pub rule_of : List ℕ → Rule
rule_of image = rule_by (rule_byte_of image)

-- an image with the amended rule in its rule byte
abbrev pub ruled : List ℕ → List ℕ
ruled image = put RULE_BYTE.place (1 ∷ []) image

-- and then with version 2
abbrev pub upgraded : List ℕ → List ℕ
upgraded image = put VERSION.place (0 ∷ 0 ∷ 0 ∷ 2 ∷ []) (ruled image)

-- Images that differ in the version and the rule byte alone; and the version is the old one, or 2 with the amended
-- rule.
pub record IsSameButRule (x c : List ℕ) : Type 0 where
  pub between : bytes_at c VIN.place (RULE_BYTE.place - VIN.place) ≡ bytes_at x VIN.place (RULE_BYTE.place - VIN.place)
  pub behind : SameOutside VERSION.place (RULE_BYTE.place + RULE_BYTE.size) x c
  pub version : (version_of c ≡ version_of x) ⊎ ((version_of c ≡ RULED_VERSION) × (number_of c RULE_BYTE ≡ 1))
