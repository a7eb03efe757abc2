-- The words that are kept of a day.
use Rattle.std.specs.Prelude.{◌≡◌, ℕ, zero, suc, ◌<◌, Option, None, List, [], ◌∷◌, slice_get}
use Rattle.std.specs.List.{AllByRecursion}
use Rattle.std.specs.List.Sorted.{IsNonDecreasingBy}
use Rattle.activity_codec.specs.Words.{word_minute}
use Rattle.card_retention.specs.Entries.{latest}

-- the minute of the first of some words, 1440 without one
abbrev pub first_minute : List ℕ → ℕ
first_minute [] = 1440
first_minute (w ∷ ws) = word_minute w

-- the last of so many words, if there is one
abbrev pub word_before : List ℕ → ℕ → Option ℕ
word_before ws zero = None
word_before ws (suc n) = slice_get ws n

-- these words, in the order of their minutes, decide each minute as those do that came
pub record AreKept (kept : List ℕ) (first : ℕ) (words : List ℕ) : Type 0 where
  pub order : IsNonDecreasingBy word_minute kept
  pub low : AllByRecursion (λ w. word_minute w < 1440) kept
  pub first_is : first ≡ first_minute kept
  pub same : (t : ℕ) → t < 1440 → latest kept t ≡ latest words t
