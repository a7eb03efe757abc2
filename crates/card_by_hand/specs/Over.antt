-- Days of a card over those of before: what a session's first keep has written behind the end mark, and a repair cuts
-- again.
use Rattle.std.specs.Prelude.{◌≡◌, ◌⊎◌, ℕ, ◌+◌, ◌-◌, ◌%◌, ◌<◌, ◌≤◌, List, [], ◌∷◌, ◌++◌}
use Rattle.card_session.specs.card_model.Days.{Day, AreDays, len_of}
use Rattle.card_session.specs.card_model.Changes.{Remain, OnNewest, date_of, cut, with_newest, with_word}
use Rattle.activity_codec.specs.Words.{word_minute}
use Rattle.card_session.specs.Books.{bare_word}

-- a word of a day stands behind the mark
pub record IsBehind (mark w : ℕ) (d : Day) : Type 0 where
  pub day : date_of mark ≤ d.date
  pub minute : d.date ≡ date_of mark → mark % 1440 < word_minute w

-- DAYS ABOVE OTHERS by so many bytes: the same, with a word more behind the mark on the newest day, or with a day
-- behind the mark's
pub data Above (mark : ℕ) (base : List Day) : (bytes : ℕ) → List Day → Type 0 where
  Same : Above mark base 0 base
  Word : (bytes w : ℕ) (over : List Day) → Above mark base bytes over → AreDays 0 over → OnNewest (IsBehind mark w) over
      → Above mark base (bytes + 2) (with_newest (with_word w) over)
  Begun : (d : Day) → date_of mark < d.date → Above mark base (len_of d) (base ++ d ∷ [])

-- they stand above what drops have left of the days of before, for which no more of the oldest are gone than must be
-- for `bytes`
pub record IsOver (size mark bytes : ℕ) (days over : List Day) : Type 0 where
  pub base : List Day
  pub left : Remain (size - bytes) days base
  pub more : ℕ
  pub few : more ≤ bytes
  pub above : Above mark base more over

-- THE DAY OF A MARK is begun behind all others, and a cut to the mark leaves its first word alone: it stands behind
-- what drops have left of the days of before, for which no more of the oldest are gone than must be for `bytes`
pub record IsBegunOver (size mark bytes : ℕ) (days over : List Day) : Type 0 where
  pub base : List Day
  pub young : Day
  pub is : over ≡ base ++ young ∷ []
  pub left : Remain (size - bytes) days base
  pub few : len_of young ≤ bytes
  pub date : young.date ≡ date_of mark
  pub first : (cut mark young).words ≡ bare_word ∷ []

-- of the days of before no more of the oldest are gone than must be, or that day is begun behind them
abbrev pub BeginsOver : (size mark bytes : ℕ) → (days over : List Day) → Type 0
BeginsOver size mark bytes days over = Remain (size - bytes) days over ⊎ IsBegunOver size mark bytes days over
