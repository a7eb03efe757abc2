-- What an upgrade leaves of a unit (profile).
use Rattle.std.specs.Prelude.{◌≡◌, ◌⊎◌, ℕ, ◌+◌, ◌≤◌, List, ◌==◌, if◌then◌else◌, Bool, IfSome, option_map}
use Rattle.tach_media.specs.Medium.{bytes_at, State}
use Rattle.unit_model.specs.gated_ring.Ring.{Shape, ring_list}
use Rattle.unit_model.specs.declared.layout.TheConstants.{PLAIN_VERSION, RULED_VERSION, OWED, SPARE}
use Rattle.unit_model.specs.Image.{recorded, last_kept, odometer_at}
use Rattle.unit_model.specs.Decoding.{Decodes}
use Rattle.unit_model.specs.Versions.{version_of, upgraded, IsSameButRule}

-- an image of version 1 gets version 2 with the amended rule
abbrev pub upgraded_from : List ℕ → List ℕ
upgraded_from image = if version_of image == PLAIN_VERSION then upgraded image else image

-- whether the version was 1
abbrev pub version_before : (newly : Rattle.std.specs.Prelude.Bool) → ℕ
version_before newly = if newly then PLAIN_VERSION else RULED_VERSION

-- A moment of an upgrade: the image decodes, its version is the old one or 2 with the amended rule, and beside the
-- version and the rule byte no byte is another. So no minute is, no owed row, and no ring.
pub record IsUpgrading (x c : List ℕ) : Type 0 where
  pub same : IsSameButRule x c
  pub decodes : Decodes c
  pub minutes : recorded c ≡ recorded x
  pub kept : last_kept c ≡ last_kept x
  pub odometer : odometer_at c ≡ odometer_at x
  pub owed : bytes_at c OWED.place OWED.size ≡ bytes_at x OWED.place OWED.size
  pub rings : (ring : Shape) → SPARE.place ≤ ring.base → ring_list ring c ≡ ring_list ring x

-- THE UNIT HAS VERSION 2, newly or already: its image decoded, of version 1 or of 2, and is the one of version 2
pub record HasVersionTwo (old new : State) (newly : Bool) : Type 0 where
  pub version : IfSome old.image (λ x. version_of x ≡ version_before newly)
  pub image : new.image ≡ option_map upgraded_from old.image
  pub decodes : IfSome old.image Decodes
