-- What a run with two cards leaves of the owed rows of its unit (profile), those of other cards among them.
use Rattle.std.specs.Prelude.{◌≡◌, ◌⊎◌, ℕ, Option, Some, None, List}
use Rattle.tach_media.specs.card_layout.declared.files.Fid.{Fid}
use Rattle.unit_minutes.specs.unit_model.Image.{last_kept}
use Rattle.unit_minutes.specs.unit_owed.Owed.{rows_in}
use Rattle.unit_minutes.specs.unit_owed.Standing.{RowsGoOn, IsOwedStill, HasLostRow}
use Rattle.safety_model.specs.device_rule.Own.{own_bad_file, own_number, IsOwnValid}

-- the number of a card that is valid: one of which no file fails
abbrev pub number_by : (bad : Option (Fid × ℕ)) → (number : List ℕ) → Option (List ℕ)
number_by None number = Some number
number_by (Some place) number = None

-- so of a card's image
abbrev pub valid_number : List ℕ → Option (List ℕ)
valid_number x = number_by (own_bad_file x) (own_number x)

-- a number is that of one of two cards, which is valid
abbrev pub IsOfCards : (card_a card_b number : List ℕ) → Type 0
IsOfCards a b number = (IsOwnValid a × (own_number a ≡ number)) ⊎ (IsOwnValid b × (own_number b ≡ number))

-- what is owed to any card is what was owed to it
abbrev pub OwesStill : (start y : List ℕ) → Type 0
OwesStill start y = (number : List ℕ) → IsOwedStill start y number

-- THE OWED ROWS of an image of the unit, beside two cards: each stands as it stood, or was taken for the number of one
-- of them that is valid; and so each other number is owed what was owed to it, or has lost its row, where no two rows
-- were empty.
pub record KeepsRows (start card_a card_b y : List ℕ) : Type 0 where
  pub rows : RowsGoOn (IsOfCards card_a card_b) start (rows_in y) (last_kept y)
  pub others : (number : List ℕ) → (IsOfCards card_a card_b number → ⊥)
      → IsOwedStill start y number ⊎ HasLostRow (IsOfCards card_a card_b) start y number
