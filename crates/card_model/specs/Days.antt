-- The days of a card's string, and their records (CardActivityDailyRecord).
use Rattle.std.specs.Prelude.{◌≡◌, ℕ, ◌+◌, ◌*◌, ◌/◌, ◌%◌, ◌<◌, ◌≤◌, List, [], ◌∷◌, ◌++◌, length}
use Rattle.activity_codec.specs.Words.{word_minute}
use Rattle.card_model.specs.Bytes.{two_bytes, four_bytes, decimal_bytes}

-- A day: its date in seconds, its presence counter, its distance in km, and its change words.
pub record Day : Type 0 where
  pub date : ℕ
  pub counter : ℕ
  pub km : ℕ
  pub words : List ℕ

-- how many bytes its record has
abbrev pub len_of : Day → ℕ
len_of d = 12 + 2 * length d.words

-- how many bytes the records of days have
abbrev pub total : List Day → ℕ
total [] = 0
total (d ∷ ds) = len_of d + total ds

-- how far the newest begins behind the oldest
abbrev pub far : List Day → ℕ
far [] = 0
far (d ∷ []) = 0
far (d ∷ e ∷ ds) = len_of d + far (e ∷ ds)

-- the length of the newest, 0 without one
abbrev pub last_len : List Day → ℕ
last_len [] = 0
last_len (d ∷ []) = len_of d
last_len (d ∷ e ∷ ds) = last_len (e ∷ ds)

-- words in bytes, two for each
abbrev pub word_bytes : List ℕ → List ℕ
word_bytes [] = []
word_bytes (w ∷ ws) = w / 256 ∷ w % 256 ∷ word_bytes ws

-- the bytes of a day behind its two lengths
abbrev pub body : Day → List ℕ
body d = four_bytes d.date ++ (decimal_bytes d.counter ++ (two_bytes d.km ++ word_bytes d.words))

-- a record: the length of the day before, its own, and the day
abbrev pub record_of : ℕ → Day → List ℕ
record_of previous d = two_bytes previous ++ (two_bytes (len_of d) ++ body d)

-- the records of days one after the other, where the first tells this previous length
abbrev pub records : ℕ → List Day → List ℕ
records previous [] = []
records previous (d ∷ ds) = record_of previous d ++ records (len_of d) ds

-- the last of some words
abbrev pub last_word : List ℕ → ℕ
last_word [] = 0
last_word (w ∷ []) = w
last_word (w ∷ v ∷ ws) = last_word (v ∷ ws)

-- the words' minutes are below 1440, and none is earlier than the one before it
abbrev pub Ascend : ℕ → List ℕ → Type 0
Ascend minute [] = Unit {0}
Ascend minute (w ∷ ws) = (minute ≤ word_minute w) × (word_minute w < 1440) × Ascend (word_minute w) ws

-- there is a first word, at minute 0
abbrev pub AreWords : List ℕ → Type 0
AreWords [] = ⊥
AreWords (w ∷ ws) = (word_minute w ≡ 0) × Ascend 0 ws

-- a day that the string may hold
pub record IsDay (d : Day) : Type 0 where
  pub midnight : d.date % 86400 ≡ 0
  pub decimal : d.counter ≤ 9999
  pub most : length d.words ≤ 1440
  pub ordered : AreWords d.words

-- each is a day, and later than the one before it
abbrev pub AreDays : ℕ → List Day → Type 0
AreDays date [] = Unit {0}
AreDays date (d ∷ ds) = (date < d.date) × IsDay d × AreDays d.date ds
