-- What the image of a unit says of its vehicle, and of the rule of minutes.
use Rattle.std.specs.Prelude.{◌≡◌, ℕ, List, slice_index, ◌==◌, if◌then◌else◌}
use Rattle.tach_media.specs.Medium.{bytes_at}
use Rattle.unit_model.specs.declared.layout.TheConstants.{PLAIN_VERSION, RULED_VERSION, VIN, REGISTRATION, SPEED_LIMIT}
use Rattle.unit_model.specs.Versions.{version_of, rule_byte_of}
use Rattle.unit_memory.specs.declared.format.Identity.{Identity}
use Rattle.unit_memory.specs.declared.memory.UnitFacts.{UnitFacts}

-- the identity that an image tells: the number, the registration, and the speed limit in km/h
pub record IsIdentity (i : Identity) (image : List ℕ) : Type 0 where
  pub vin : i.vin ≡ bytes_at image VIN.place VIN.size
  pub registration : i.registration.0 ≡ bytes_at image REGISTRATION.place REGISTRATION.size
  pub limit : i.limit ≡ slice_index (bytes_at image SPEED_LIMIT.place SPEED_LIMIT.size) 0

-- the version of an image that decodes, by its number: 1 or else 2
abbrev pub version_known : ℕ → ℕ
version_known version = if version == PLAIN_VERSION then PLAIN_VERSION else RULED_VERSION

-- what the unit was told of its vehicle, the version, and the rule byte, which is 0 for version 1
pub record AreFacts (f : UnitFacts) (image : List ℕ) : Type 0 where
  pub vin : f.vin ≡ bytes_at image VIN.place VIN.size
  pub registration : f.registration.0 ≡ bytes_at image REGISTRATION.place REGISTRATION.size
  pub limit : f.limit ≡ slice_index (bytes_at image SPEED_LIMIT.place SPEED_LIMIT.size) 0
  pub version : f.version ≡ version_of image
  pub rule_byte : f.rule_byte ≡ rule_byte_of image
