-- A card's days in memory, and what a walk over them has met.
use Rattle.std.specs.Prelude.{◌≡◌, ℕ, ◌+◌, ◌<◌, ◌≤◌, ◌^◌, List, [], ◌∷◌, ◌++◌, length, Option, Some, None}
use Rattle.card_image.specs.card_model.Days.{Day, total}
use Rattle.card_image.specs.card_model.Image.{StringShape, IsStringShape, HoldsDays, IsAt}
use Rattle.card_image.specs.card_model.Walk.{days_of}
use Rattle.card_layout.specs.declared.files.TheConstants.{STRING_MOST}
use Rattle.card_validity.specs.declared.walk.Met.{Met}

-- the string lies in the image, which holds its days
pub record IsInMemory (r : StringShape) (x : List ℕ) : Type 0 where
  pub shape : IsStringShape r
  pub inside : r.base + (4 + r.size) ≤ length x
  pub short : length x < 2 ^ 32
  pub holds : HoldsDays r x (days_of r x)

-- a day that was met: its head, and how many bytes the days before it have
pub record IsMet (r : StringShape) (x : List ℕ) (older : List Day) (d : Day) (m : Met) : Type 0 where
  pub here : IsAt r x m.head.place d
  pub date : m.head.date.0 ≡ d.date
  pub words : m.head.words ≡ length d.words
  pub so_far : m.so_far ≡ total older
  pub place : m.head.place < r.size
  pub near : m.so_far ≤ STRING_MOST

-- these are the last of some days and those before it
pub record IsLastMet (r : StringShape) (x : List ℕ) (ds : List Day) (m : Met) : Type 0 where
  pub older : List Day
  pub day : Day
  pub are : ds ≡ older ++ day ∷ []
  pub met : IsMet r x older day m

-- the last of some days, where there is one
abbrev pub IsLastOf : StringShape → List ℕ → List Day → Option Met → Type 0
IsLastOf r x ds None = ds ≡ []
IsLastOf r x ds (Some m) = IsLastMet r x ds m
