-- The last use of a card, as calls on it leave it (profile): that of the start, or a whole minute.
use Rattle.std.specs.Prelude.{◌≡◌, ◌⊎◌, ℕ, ◌*◌, List}
use Rattle.tach_media.specs.Medium.{State}
use Rattle.card_validity.specs.card_image.Fields.{last_use}
use Rattle.card_validity.specs.card_image.Own.{own_sizes}

-- when the newest vehicle of a card was last used, by the sizes that it tells itself
unfoldable pub own_use : List ℕ → ℕ
own_use x = last_use (own_sizes x) x

-- it is the old one, or a whole minute
abbrev pub IsWhole : (old now : ℕ) → Type 0
IsWhole old now = (now ≡ old) ⊎ ((minute : ℕ) × (now ≡ 60 * minute))

-- the last use of an image is that of the first one, or a whole minute
abbrev pub IsTimed : (first x : List ℕ) → Type 0
IsTimed first x = IsWhole (own_use first) (own_use x)

-- so it is of each image that a card might have left since a moment
abbrev pub AreTimedSince : (first : List ℕ) → ℕ → State → Type 0
AreTimedSince first n card = (x : List ℕ) → card.left_since n x → IsTimed first x
