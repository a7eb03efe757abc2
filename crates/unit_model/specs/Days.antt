-- The days of a unit, by their words, and the minutes that these show up to the last-kept minute.
use Rattle.std.specs.Prelude.{ℕ, ◌+◌, ◌-◌, ◌*◌, ◌/◌, ◌%◌, Bool, ◌&&◌, List, [], ◌∷◌, ◌++◌, length, drop, map, filter}
use Rattle.std.specs.Prelude.{nat_le, ◌==◌, if◌then◌else◌, fold, flat_map}
use Rattle.std.specs.List.{range_with_len}
use Rattle.view_model.specs.activity_codec.Words.{activity_numbered}
pub use Rattle.view_model.specs.activity_codec.Words.{word_minute}
use Rattle.view_model.specs.declared.State.{State}

-- a word's slot, 0 the driver's and 1 the co-driver's (Appendix 1, ActivityChangeInfo)
abbrev pub slot_bit : ℕ → ℕ
slot_bit w = w / 32768 % 2

-- the bits of its state: CREW, no card, activity
abbrev pub word_state : ℕ → ℕ
word_state w = w / 2048 % 16

-- the word of a slot, of the bits of a state, and of a minute of the day
abbrev pub word_by : (slot state minute : ℕ) → ℕ
word_by slot state minute = 32768 * slot + 2048 * state + minute

-- no card, rest, single
abbrev pub bare : ℕ
bare = 4

-- a slot's state after one word more, as it counts in a minute
abbrev pub state_by : (slot minute state : ℕ) → ℕ → ℕ
state_by slot minute state w = if slot_bit w == slot && nat_le (word_minute w) minute then word_state w else state

-- a slot's state in a minute after these words, where it was one before them
abbrev pub state_after : (slot minute : ℕ) → ℕ → List ℕ → ℕ
state_after slot minute state [] = state
state_after slot minute state (w ∷ ws) = state_after slot minute (state_by slot minute state w) ws

-- a slot's state in a minute of a day with these words: that of its latest word not after the minute
abbrev pub state_at : (slot minute : ℕ) → List ℕ → ℕ
state_at slot minute words = state_after slot minute bare words

-- what the bits of a state say: CREW, whether a card is present, the activity
abbrev pub state_in : ℕ → State
state_in bits = record { act = activity_numbered (bits % 4); present = bits / 4 % 2 == 0 }

-- and whether they say CREW
abbrev pub is_crew_in : ℕ → Bool
is_crew_in bits = bits / 8 % 2 == 1

-- what the unit holds of a minute; CREW is that of the driver's word
pub record UnitMinute : Type 0 where
  pub minute : ℕ
  pub driver : State
  pub codriver : State
  pub crew : Bool

-- a minute by the bits of both slots' states
abbrev pub minute_by : (minute driver codriver : ℕ) → UnitMinute
minute_by minute driver codriver = record {
  minute = minute;
  driver = state_in driver;
  codriver = state_in codriver;
  crew = is_crew_in driver;
}

-- a day with its minutes from 00:00 on
pub record ShownDay : Type 0 where
  pub day : ℕ
  pub minutes : List UnitMinute

-- a day as it is written: its date in seconds, its odometer, and the words that its count covers
pub record StoredDay : Type 0 where
  pub date : ℕ
  pub odometer : ℕ
  pub words : List ℕ

-- the number of a day since 1970-01-01
abbrev pub day_of : StoredDay → ℕ
day_of d = d.date / 86400

-- what a day says of its minute of this number
abbrev pub minute_at : StoredDay → ℕ → UnitMinute
minute_at d t = minute_by (1440 * day_of d + t) (state_at 0 t d.words) (state_at 1 t d.words)

-- a day with its first minutes
abbrev pub shown : ℕ → StoredDay → ShownDay
shown n d = record { day = day_of d; minutes = map (minute_at d) (range_with_len 0 n) }

-- how many minutes a day shows
abbrev pub minutes_shown : (kept day : ℕ) → ℕ
minutes_shown kept day = if day == kept / 1440 then kept % 1440 + 1 else 1440

-- and a day with these minutes
abbrev pub day_shown : ℕ → StoredDay → ShownDay
day_shown kept d = shown (minutes_shown kept (day_of d)) d

-- the days not later than that of the last-kept minute, with their minutes up to it
abbrev pub days_shown : ℕ → List StoredDay → List ShownDay
days_shown kept days = map (day_shown kept) (filter (λ d. nat_le (day_of d) (kept / 1440)) days)

-- a minute of which nothing is known: in both slots no card, rest, single
abbrev pub unknown_minute : ℕ → UnitMinute
unknown_minute m = minute_by m bare bare

-- a day with its minutes up to that many; those that it lacked stand as unknown
abbrev pub padded : ℕ → ShownDay → ShownDay
padded n d = record {
  day = d.day;
  minutes = d.minutes
      ++ map (λ t. unknown_minute (1440 * d.day + t)) (range_with_len (length d.minutes) (n - length d.minutes));
}

-- a day with one minute more
abbrev pub with_minute : UnitMinute → ShownDay → ShownDay
with_minute k d = record { day = d.day; minutes = (padded (k.minute % 1440) d).minutes ++ k ∷ [] }

-- a new day with this minute, and unknown ones from 00:00 up to it
abbrev pub day_from : UnitMinute → ShownDay
day_from k = with_minute k (record { day = k.minute / 1440; minutes = [] })

-- the days with one minute more, which is later than all of them
abbrev pub filled : List ShownDay → UnitMinute → List ShownDay
filled [] k = day_from k ∷ []
filled (d ∷ []) k = if d.day == k.minute / 1440 then with_minute k d ∷ [] else padded 1440 d ∷ day_from k ∷ []
filled (d ∷ e ∷ days) k = d ∷ filled (e ∷ days) k

-- the newest days
abbrev pub newest_days : ℕ → List ShownDay → List ShownDay
newest_days n days = drop (length days - n) days

-- the days with these minutes more, each later than those before
abbrev pub filled_all : List ShownDay → List UnitMinute → List ShownDay
filled_all days ks = fold filled days ks

-- the minutes of days
abbrev pub minutes_of : List ShownDay → List UnitMinute
minutes_of days = flat_map (λ d. d.minutes) days

-- a fact of each member
abbrev pub Each : {X : Type 0} → (X → Type 0) → List X → Type 0
Each P [] = Unit {0}
Each P (x ∷ xs) = P x × Each P xs

-- the words of the last-kept minute's day that are not later
abbrev pub day_kept : ℕ → StoredDay → StoredDay
day_kept kept d = if day_of d == kept / 1440
    then record {
      date = d.date;
      odometer = d.odometer;
      words = filter (λ w. nat_le (word_minute w) (kept % 1440)) d.words;
    } else d

-- the days not later than that of the last-kept minute, without later words
abbrev pub days_kept : ℕ → List StoredDay → List StoredDay
days_kept kept days = map (day_kept kept) (filter (λ d. nat_le (day_of d) (kept / 1440)) days)
