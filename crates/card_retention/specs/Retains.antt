-- What the stated overwriting may take of a card.
use Rattle.std.specs.Prelude.{◌≡◌, ◌⊎◌, ℕ, ◌/◌, ◌<◌, Bool, false, ◌||◌, List, [], ◌∷◌, ◌++◌, nat_eq, nat_le}
use Rattle.std.specs.Prelude.{if◌then◌else◌}
use Rattle.activity_codec.specs.declared.entries.Entry.{Entry}
use Rattle.card_retention.specs.Expected.{WordDay}
use Rattle.card_retention.specs.Shown.{Covers, IsFull, AllBefore, AllFrom}

-- each entry is later than the one before it
abbrev pub Rise : List Entry → Type 0
Rise [] = Unit {0}
Rise (e ∷ []) = Unit {0}
Rise (e ∷ f ∷ es) = (e.minute < f.minute) × Rise (f ∷ es)

-- the entries from a day on
abbrev pub entries_from : ℕ → List Entry → List Entry
entries_from day [] = []
entries_from day (e ∷ es) = if nat_le day (e.minute / 1440) then e ∷ entries_from day es else entries_from day es

-- one of these days has this number
abbrev pub is_day : ℕ → List WordDay → Bool
is_day day [] = false
is_day day (d ∷ ds) = nat_eq d.day day || is_day day ds

-- the entries whose day is one of these
abbrev pub entries_in : List WordDay → List Entry → List Entry
entries_in days [] = []
entries_in days (e ∷ es) = if is_day (e.minute / 1440) days then e ∷ entries_in days es else entries_in days es

-- A day of which the first word alone is left
abbrev pub begun_on : ℕ → WordDay
begun_on day = record { day = day; words = 1 }

-- The newest day of the string is that of the start's end mark, begun for an entry that is not kept yet: a repair
-- leaves its first word, where that mark lies on a later day than each that the string had. No expected day is that
-- one, and no entry of all lies on it.
pub record HasBegun (marked : ℕ) (expected there : List WordDay) (all : List Entry) (days : List WordDay) : Type 0 where
  pub older : List WordDay
  pub newest : days ≡ older ++ begun_on marked ∷ []
  pub before : AllBefore marked older
  pub covers : Covers there older
  pub further : is_day marked expected ≡ false
  pub empty : entries_in (begun_on marked ∷ []) all ≡ []

-- A string of `length` bytes has these days and shows these entries of all, where the days of all are `expected`, and
-- the start's end mark was on the day `marked`. Only whole days at the old end are missing, `gone`, never the newest;
-- the newest of these, those that count as there and `bytes` together exceed the string. Each day of the string is one
-- that counts as there, with no more words, but for the day that was begun on `marked`.
pub record CardRetains (length bytes marked : ℕ) (expected : List WordDay) (all : List Entry) (days : List WordDay)
    (shown : List Entry) : Type 0 where
  pub gone : List WordDay
  pub there : List WordDay
  pub split : expected ≡ gone ++ there
  pub covers : Covers there days ⊎ HasBegun marked expected there all days
  pub full : IsFull length bytes gone there
  pub some : there ≡ [] → gone ≡ []
  pub oldest : ℕ
  pub low : AllBefore oldest gone
  pub high : AllFrom oldest there
  pub none : there ≡ [] → oldest ≡ 0
  pub entries : shown ≡ entries_from oldest all
