-- Which of the expected days a string shows.
use Rattle.std.specs.Prelude.{◌≡◌, ◌⊎◌, ℕ, suc, ◌+◌, ◌-◌, ◌*◌, ◌/◌, ◌%◌, ◌<◌, ◌≤◌, Bool, false, true, not, ◌&&◌, Option}
use Rattle.std.specs.Prelude.{Some, List, [], ◌∷◌, ◌++◌, map, length, nat_eq, nat_lt, if◌then◌else◌}
use Rattle.activity_codec.specs.declared.entries.Entry.{Entry}
use Rattle.activity_codec.specs.Words.{slot_number, activity_number, bit, word_absent, word_minute}
use Rattle.card_model.specs.Days.{Day, AreDays, last_word}
use Rattle.card_model.specs.Changes.{OnNewest, date_of, with_newest, with_word, fitting, new_day, trimmed}
use Rattle.card_retention.specs.Expected.{WordDay, size_of, size_all, more, is_newest, first_words, Counted}
use Rattle.card_retention.specs.Expected.{expected_days}

-- a day of the string by its number and its words
abbrev pub size_day : Day → WordDay
size_day d = record { day = d.date / 86400; words = length d.words }

-- the days of a string, each by its number and its words
abbrev pub sizes : List Day → List WordDay
sizes days = map size_day days

-- the day is the expected one, with at most its words
pub record Takes (w d : WordDay) : Type 0 where
  pub day : d.day ≡ w.day
  pub words : d.words ≤ w.words

-- each day is an expected one, in their order
abbrev pub Covers : List WordDay → List WordDay → Type 0
Covers ws [] = Unit {0}
Covers [] (d ∷ ds) = ⊥
Covers (w ∷ ws) (d ∷ ds) = (Takes w d × Covers ws ds) ⊎ Covers ws (d ∷ ds)

-- the newest of the missing days, those that are there and so many bytes exceed the string
abbrev pub IsFull : (length slack : ℕ) → (gone there : List WordDay) → Type 0
IsFull length slack [] there = Unit {0}
IsFull length slack (g ∷ []) there = length < size_of g + size_all there + slack
IsFull length slack (g ∷ h ∷ gs) there = IsFull length slack (h ∷ gs) there

-- so many bytes may be written and cut again, and these are all entries so far
pub record Bound : Type 0 where
  pub bytes : ℕ
  pub all : List Entry

-- one of them is this day
abbrev pub InDays : ℕ → List WordDay → Type 0
InDays k [] = ⊥
InDays k (d ∷ ds) = (d.day ≡ k) ⊎ InDays k ds

-- each day is this one or later
abbrev pub AllFrom : ℕ → List WordDay → Type 0
AllFrom day [] = Unit {0}
AllFrom day (d ∷ ds) = (day ≤ d.day) × AllFrom day ds

-- each day is before this one
abbrev pub AllBefore : ℕ → List WordDay → Type 0
AllBefore day [] = Unit {0}
AllBefore day (d ∷ ds) = (d.day < day) × AllBefore day ds

-- no entry is behind a minute
abbrev pub AllUpTo : ℕ → List Entry → Type 0
AllUpTo mark [] = Unit {0}
AllUpTo mark (e ∷ es) = (e.minute ≤ mark) × AllUpTo mark es

-- the day of each entry from a day on is one of these
abbrev pub AllIn : (oldest : ℕ) → List Entry → List WordDay → Type 0
AllIn oldest [] days = Unit {0}
AllIn oldest (e ∷ es) days = (oldest ≤ e.minute / 1440 → InDays (e.minute / 1440) days) × AllIn oldest es days

-- Of the expected days only some at the old end are missing: those before `oldest`. A day that is expected from then on
-- and is not in the string, since a repair cut it, has no entry and counts as there.
pub record Shows (length : ℕ) (slack : Bound) (expected days : List WordDay) : Type 0 where
  pub gone : List WordDay
  pub there : List WordDay
  pub split : expected ≡ gone ++ there
  pub covers : Covers there days
  pub full : IsFull length slack.bytes gone there
  pub some : there ≡ [] → gone ≡ []
  pub oldest : ℕ
  pub low : AllBefore oldest gone
  pub high : AllFrom oldest there
  pub none : there ≡ [] → oldest ≡ 0
  pub whole : AllIn oldest slack.all days

-- as long as the days do not fit the oldest goes
abbrev pub Left : (room : ℕ) → List WordDay → List WordDay → Type 0
Left room [] kept = kept ≡ []
Left room (d ∷ ds) kept = (kept ≡ d ∷ ds) ⊎ ((room < size_all (d ∷ ds)) × Left room ds kept)

-- each day has at least its words, and days follow
abbrev pub Grows : List WordDay → List WordDay → Type 0
Grows [] vs = Unit {0}
Grows (w ∷ ws) [] = ⊥
Grows (w ∷ ws) (v ∷ vs) = (v.day ≡ w.day) × (w.words ≤ v.words) × Grows ws vs

-- each day is later than the one before it
abbrev pub Rising : List WordDay → Type 0
Rising [] = Unit {0}
Rising (d ∷ []) = Unit {0}
Rising (d ∷ e ∷ ds) = (d.day < e.day) × Rising (e ∷ ds)

-- the newest day, if there is one, has room
abbrev pub Fits : (room : ℕ) → List WordDay → Type 0
Fits room [] = Unit {0}
Fits room (d ∷ []) = size_of d ≤ room
Fits room (d ∷ e ∷ ds) = Fits room (e ∷ ds)

-- each day has a word
abbrev pub Filled : List WordDay → Type 0
Filled [] = Unit {0}
Filled (d ∷ ds) = (0 < d.words) × Filled ds

-- slot, crew and activity of an entry, as its word has them above the minute
abbrev pub entry_state : Entry → ℕ
entry_state e = slot_number e.slot * 16 + bit e.crew * 8 + activity_number e.act

-- The latest word of the newest day is an entry's, and the minute after the mark lies in that day.
abbrev pub is_open : (mark : ℕ) → List Day → Bool
is_open mark [] = false
is_open mark (d ∷ []) = nat_eq d.date (date_of (suc mark)) && not (word_absent (last_word d.words))
is_open mark (d ∷ e ∷ ds) = is_open mark (e ∷ ds)

-- the days with the closing word that is still to be written where the next entry is not earlier than `next`
abbrev pub owing : (next mark : ℕ) → List Day → List WordDay
owing next mark days = if is_open mark days && nat_lt (suc mark) next then more (sizes days) else sizes days

-- a day is the entry's, and its latest word tells the entry's state
pub record TellsIn (e : Entry) (d : Day) : Type 0 where
  pub date : d.date ≡ date_of e.minute
  pub state : last_word d.words / 2048 ≡ entry_state e

-- the newest day of these, which there is, tells an entry so
abbrev pub Tells : Entry → List Day → Type 0
Tells e days = OnNewest (TellsIn e) days

-- A string of so many bytes, with its end mark, shows these expected days; the next entry is not earlier than `from`.
pub record Rests (length : ℕ) (slack : Bound) (covered from mark : ℕ) (c : Counted) (days : List Day) : Type 0 where
  pub ordered : AreDays 0 days
  pub rising : Rising c.days
  pub filled : Filled c.days
  -- the newest minute of a word of the start or of an entry
  pub top : ℕ
  pub words : covered ≤ top
  pub entry : (p : Entry) → c.before ≡ Some p → (p.minute ≤ top) × (p.minute ≤ mark)
  pub low : AllBefore (suc (top / 1440)) c.days
  pub next : top < from
  pub later : mark < from
  pub by_mark : AllUpTo mark slack.all
  pub tells : (p : Entry) → c.before ≡ Some p → p.minute ≡ top → Tells p days
  pub shows : (n : ℕ) → from ≤ n → Shows length slack (expected_days covered n c) (owing n mark days)

-- the days once the closing word of a gap before an entry is written
abbrev pub with_closing : (length w mark next : ℕ) → List Day → List Day
with_closing length w mark next days = if is_open mark days && nat_lt (suc mark) next
    then with_newest (with_word w) (fitting (length - 2) days) else days

-- What an entry's own words make of the days: nothing where the newest day tells its state, a word on the newest day,
-- or a day.
pub data Entered (room : ℕ) (e : Entry) (days : List Day) : List Day → Type 0 where
  Same : is_newest (e.minute / 1440) (sizes days) ≡ true → Tells e days → Entered room e days days
  Word : (w : ℕ) → is_newest (e.minute / 1440) (sizes days) ≡ true → (Tells e days → ⊥) → w / 2048 ≡ entry_state e
      → word_minute w ≡ e.minute % 1440 → Entered room e days (with_newest (with_word w) (fitting (room - 2) days))
  Begun : (words : List ℕ) → is_newest (e.minute / 1440) (sizes days) ≡ false → length words ≡ first_words e.minute
      → last_word words / 2048 ≡ entry_state e → word_minute (last_word words) ≡ e.minute % 1440
      → Entered room e days (fitting (room - (12 + 2 * length words)) days ++ new_day days (date_of e.minute) words
      ∷ [])

-- the newest day's latest word belongs to no entry
abbrev pub EndsAbsent : List Day → Type 0
EndsAbsent days = OnNewest (λ d. word_absent (last_word d.words) ≡ true) days

-- What a repair would leave: all words, or, where words of the start that belong to no entry stand behind the mark, no
-- more than these.
pub data Sound (mark top : ℕ) (before : Option Entry) (days : List Day) : Type 0 where
  Flat : trimmed mark days ≡ days → Sound mark top before days
  Tail : EndsAbsent days → ((n : ℕ) → Grows (owing n mark (trimmed mark days)) (sizes days))
      → ((p : Entry) → before ≡ Some p → p.minute < top) → Sound mark top before days

-- between two calls of a session
pub record Lives (length : ℕ) (slack : Bound) (covered from mark : ℕ) (c : Counted) (days : List Day) : Type 0 where
  pub rests : Rests length slack covered from mark c days
  pub sound : Sound mark rests.top c.before days
