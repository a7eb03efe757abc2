-- What a journal notes of the image of its unit. What its calls leave there stands in Keeping and Mends.
use Rattle.std.specs.Option.{ForSome}
use Rattle.std.specs.Prelude.{Option, MatchOption, ◌≡◌, ◌≢◌, ℕ, suc, ◌+◌, ◌-◌, ◌*◌, ◌/◌, ◌%◌, ◌<◌, ◌≤◌, List, [], ◌∷◌}
use Rattle.std.specs.Prelude.{◌++◌, length, drop, map}
pub use Rattle.unit_minutes.specs.declared.notes.Notes.{Notes}
pub use Rattle.unit_minutes.specs.Keeping.{SameBesides, IsGivenUp, IsBeforeLastKept, IsBehindLastKept, IsKeeping}
pub use Rattle.unit_minutes.specs.Keeping.{IsKept}
use Rattle.unit_minutes.specs.declared.today.Today.{Today}
use Rattle.gated_ring.specs.Ring.{Shape, pointer, entry_at, next, taken}
use Rattle.unit_model.specs.declared.layout.TheConstants.{DAY_SLOTS, DAY_WORD_LIMIT, LAST_MINUTE, HIGHEST_ODOMETER}
use Rattle.unit_model.specs.Days.{word_minute, state_at, day_of, Each}
use Rattle.unit_model.specs.Image.{day_ring, last_kept, odometer_at, words_at, unit_day, indices, slot_date, slot_count}
use Rattle.unit_model.specs.Image.{slot_words, stray_list}
use Rattle.unit_model.specs.Writing.{behind_index, free_place}

-- the later day's index is one, and of the last-kept minute's day there is a word for each slot and minute at most;
-- before the first minute no day is recorded
pub record IsNotes (j : Notes) : Type 0 where
  pub kept : j.kept ≤ LAST_MINUTE
  pub odometer : j.odometer ≤ HIGHEST_ODOMETER
  pub index : j.index < DAY_SLOTS
  pub count : j.count ≤ 2 * (j.kept % 1440 + 1)
  pub driver : j.bits.driver < 16
  pub codriver : j.bits.codriver < 16
  pub stray : ForSome j.stray (λ s. s < DAY_SLOTS)
  pub day_count : j.day_count ≤ DAY_SLOTS
  pub no_day : j.kept ≡ 0 → j.day_count ≡ 0

-- The newest slot is that of the last-kept minute's day, behind these others, and the notes on it are right.
pub record IsNewestDay (j : Notes) (x older : List ℕ) : Type 0 where
  pub order_is : indices x ≡ older ++ j.index ∷ []
  -- the next day takes the index behind it, and the slots that are there stand close together
  pub next_is : taken day_ring x ≡ next day_ring j.index
  pub dense : (missing : ℕ) × (missing ≤ DAY_SLOTS - 1) × (older ≡ drop missing (behind_index j.index))
  pub others : Each (λ i. (i < DAY_SLOTS) × (i ≢ j.index)) older
  pub days : suc (length older) ≡ j.day_count
  pub earlier : Each (λ d. day_of d < j.kept / 1440) (map (λ i. unit_day (entry_at day_ring x i)) older)
  pub date : slot_date x j.index ≡ 86400 * (j.kept / 1440)
  pub few : j.count ≤ DAY_WORD_LIMIT
  pub count : slot_count x j.index ≡ j.count
  pub low : Each (λ w. word_minute w ≤ j.kept % 1440) (slot_words x j.index j.count)
  pub driver : state_at 0 (j.kept % 1440) (slot_words x j.index j.count) ≡ j.bits.driver
  pub codriver : state_at 1 (j.kept % 1440) (slot_words x j.index j.count) ≡ j.bits.codriver

-- what the notes say is so: before the first minute no day is there
pub record Agrees (j : Notes) (x : List ℕ) : Type 0 where
  pub kept : last_kept x ≡ j.kept
  pub odometer : odometer_at x ≡ j.odometer
  pub pointer : pointer day_ring x < DAY_SLOTS
  pub none : j.kept ≡ 0 → indices x ≡ []
  pub newest : 0 < j.kept → (older : List ℕ) × IsNewestDay j x older

-- a journal's ring is that of the days, and its notes have their ranges
pub record IsJournal (days : Shape) (j : Notes) : Type 0 where
  pub days_are : days ≡ day_ring
  pub notes : IsNotes j

-- that day stands at the pointer, where the next day would
pub record IsStray (j : Notes) (x : List ℕ) (s : ℕ) : Type 0 where
  pub below : s < DAY_SLOTS
  pub at_pointer : pointer day_ring x ≡ s
  pub later : j.kept / 1440 < day_of (unit_day (entry_at day_ring x s))

-- The last-kept minute's day as it was found: its count may cover later words, and a later day may stand behind it.
pub record IsFoundDay (j : Notes) (stray : Option ℕ) (stored : ℕ) (x older : List ℕ) : Type 0 where
  pub order_is : indices x ≡ (older ++ j.index ∷ []) ++ stray_list stray
  pub next_is : MatchOption stray (taken day_ring x ≡ next day_ring j.index) (λ s. s ≡ next day_ring j.index)
  pub dense : (missing : ℕ) × (missing ≤ DAY_SLOTS - 1) × (older ≡ drop missing (behind_index j.index))
  pub others : Each (λ i. (i < DAY_SLOTS) × (i ≢ j.index)) older
  pub days : suc (length older) ≡ j.day_count
  pub earlier : Each (λ d. day_of d < j.kept / 1440) (map (λ i. unit_day (entry_at day_ring x i)) older)
  pub date : slot_date x j.index ≡ 86400 * (j.kept / 1440)
  pub count : slot_count x j.index ≡ stored
  pub cut : j.count ≤ stored
  pub stored_few : stored ≤ DAY_WORD_LIMIT
  pub low : Each (λ w. word_minute w ≤ j.kept % 1440) (slot_words x j.index j.count)
  pub late : Each (λ w. j.kept % 1440 < word_minute w) (words_at x (free_place j.index j.count) (stored - j.count))
  pub driver : state_at 0 (j.kept % 1440) (slot_words x j.index j.count) ≡ j.bits.driver
  pub codriver : state_at 1 (j.kept % 1440) (slot_words x j.index j.count) ≡ j.bits.codriver

-- what `load` finds in an image that decodes
pub record IsFound (j : Notes) (stray : Option ℕ) (stored : ℕ) (x : List ℕ) : Type 0 where
  pub kept : last_kept x ≡ j.kept
  pub odometer : odometer_at x ≡ j.odometer
  pub pointer : pointer day_ring x < DAY_SLOTS
  pub none : j.kept ≡ 0 → indices x ≡ stray_list stray
  pub newest : 0 < j.kept → (older : List ℕ) × IsFoundDay j stray stored x older
  pub apart : MatchOption stray (Unit {0}) (λ s. IsStray j x s)

-- what `load` finds, as the notes say it
abbrev pub IsFoundBy : Notes → List ℕ → Type 0
IsFoundBy j x = IsFound j j.stray j.stored x

-- What is read of the last-kept minute's day: its stored count, how many words are not later, and the bits of the
-- states after them.
pub record IsToday (kept i : ℕ) (t : Today) (x : List ℕ) : Type 0 where
  pub stored_is : slot_count x i ≡ t.stored
  pub cut : t.count ≤ t.stored
  pub low : Each (λ w. word_minute w ≤ kept % 1440) (slot_words x i t.count)
  pub late : Each (λ w. kept % 1440 < word_minute w) (words_at x (free_place i t.count) (t.stored - t.count))
  pub driver : state_at 0 (kept % 1440) (slot_words x i t.count) ≡ t.bits.driver
  pub codriver : state_at 1 (kept % 1440) (slot_words x i t.count) ≡ t.bits.codriver
