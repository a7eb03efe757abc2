-- What the calls on a string make of its list of days, and which days are overwritten.
use Rattle.std.specs.Prelude.{◌≡◌, ◌⊎◌, ℕ, ◌+◌, ◌*◌, ◌/◌, ◌%◌, ◌<◌, List, [], ◌∷◌, ◌++◌, nat_eq, nat_le, if◌then◌else◌}
use Rattle.activity_codec.specs.Words.{word_minute}
use Rattle.card_model.specs.Days.{Day, total}

-- What is left of the days while the oldest go, one after the other, each only while the days do not fit into the room.
abbrev pub Remain : ℕ → List Day → List Day → Type 0
Remain room [] kept = kept ≡ []
Remain room (d ∷ ds) kept = (kept ≡ d ∷ ds) ⊎ ((room < total (d ∷ ds)) × Remain room ds kept)

-- the most of the newest days that fit into the room
abbrev pub fitting : ℕ → List Day → List Day
fitting room [] = []
fitting room (d ∷ ds) = if nat_le (total (d ∷ ds)) room then d ∷ ds else fitting room ds

-- the days with the newest in another form
abbrev pub with_newest : (Day → Day) → List Day → List Day
with_newest f [] = []
with_newest f (d ∷ []) = f d ∷ []
with_newest f (d ∷ e ∷ ds) = d ∷ with_newest f (e ∷ ds)

-- what is said of the newest day, which there is
abbrev pub OnNewest : (Day → Type 0) → List Day → Type 0
OnNewest P [] = ⊥
OnNewest P (d ∷ []) = P d
OnNewest P (d ∷ e ∷ ds) = OnNewest P (e ∷ ds)

-- the words' minutes are below 1440, and each is later than the one before it
abbrev pub Increase : ℕ → List ℕ → Type 0
Increase minute [] = Unit {0}
Increase minute (w ∷ ws) = (minute < word_minute w) × (word_minute w < 1440) × Increase (word_minute w) ws

-- there is a first word, at minute 0, and each other is later than the one before it
abbrev pub AreStrict : List ℕ → Type 0
AreStrict [] = ⊥
AreStrict (w ∷ ws) = (word_minute w ≡ 0) × Increase 0 ws

-- a day with one word more, behind all others
abbrev pub with_word : ℕ → Day → Day
with_word w d = record d { words = d.words ++ w ∷ [] }

-- a day whose words increase takes a later one
abbrev pub TakesWord : ℕ → Day → Type 0
TakesWord w d = AreStrict (d.words ++ w ∷ [])

-- a day with this distance
abbrev pub with_km : ℕ → Day → Day
with_km km d = record d { km = km }

-- the counter after another
abbrev pub counter_after : ℕ → ℕ
counter_after n = if nat_le 9999 n then 0 else n + 1

-- the counter after the newest day's
abbrev pub next_counter : List Day → ℕ
next_counter [] = 1
next_counter (d ∷ []) = counter_after d.counter
next_counter (d ∷ e ∷ ds) = next_counter (e ∷ ds)

-- the day that is begun
abbrev pub new_day : List Day → ℕ → List ℕ → Day
new_day days date words = record { date = date; counter = next_counter days; km = 0; words = words }

-- a date later than each of the days
abbrev pub IsLater : ℕ → List Day → Type 0
IsLater date [] = 0 < date
IsLater date (d ∷ []) = d.date < date
IsLater date (d ∷ e ∷ ds) = IsLater date (e ∷ ds)

-- a day may be begun so
pub record IsNext (days : List Day) (date : ℕ) (words : List ℕ) : Type 0 where
  pub later : IsLater date days
  pub midnight : date % 86400 ≡ 0
  pub ordered : AreStrict words

-- the days up to a date
abbrev pub until : ℕ → List Day → List Day
until date [] = []
until date (d ∷ ds) = if nat_le d.date date then d ∷ until date ds else []

-- the words up to a minute of the day
abbrev pub early : ℕ → List ℕ → List ℕ
early minute [] = []
early minute (w ∷ ws) = if nat_le (word_minute w) minute then w ∷ early minute ws else []

-- a day with its words up to a minute of the day
abbrev pub with_early : ℕ → Day → Day
with_early minute d = record d { words = early minute d.words }

-- the first second of the day of a minute
abbrev pub date_of : ℕ → ℕ
date_of minute = minute / 1440 * 86400

-- the words of a day up to a minute: those of that minute's day are cut
abbrev pub cut : ℕ → Day → Day
cut minute d = if nat_eq d.date (date_of minute) then with_early (minute % 1440) d else d

-- the days without a day or a word later than a minute
abbrev pub trimmed : ℕ → List Day → List Day
trimmed minute days = with_newest (cut minute) (until (date_of minute) days)

-- each of these days is later than a date
abbrev pub AllLater : ℕ → List Day → Type 0
AllLater date [] = Unit {0}
AllLater date (d ∷ ds) = (date < d.date) × AllLater date ds

-- of the days only some later than the date are gone
pub record Shorter (date : ℕ) (days kept : List Day) : Type 0 where
  pub gone : List Day
  pub is : days ≡ kept ++ gone
  pub later : AllLater date gone
