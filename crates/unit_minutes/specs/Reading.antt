-- What the reading calls tell of the recorded days.
use Rattle.std.specs.Prelude.{◌≡◌, ◌≢◌, ◌⊎◌, ℕ, ◌+◌, ◌-◌, ◌%◌, ◌<◌, ◌≤◌, min, Bool, false, Option, Some, None, List}
use Rattle.std.specs.Prelude.{length, All, slice_get}
use Rattle.tach_media.specs.Medium.{State, Reads}
use Rattle.gated_ring.specs.Loading.{MadeNoCall}
use Rattle.unit_model.specs.declared.layout.TheConstants.{DAY_SLOTS, DAY_WORD_LIMIT, HIGHEST_ODOMETER}
use Rattle.unit_model.specs.Days.{day_shown}
use Rattle.unit_model.specs.Image.{last_kept, recorded, recorded_indices, recorded_words, slot_place, slot_date}
use Rattle.unit_model.specs.Image.{slot_odometer, slot_count}
use Rattle.unit_minutes.specs.Image.{Notes, Agrees, IsFoundBy}
use Rattle.unit_minutes.specs.declared.journal.reading.UnitDay.{UnitDay}

-- the notes are right: as `load` found them, or as `mend` and `keep` leave them
abbrev pub AreRight : Notes → List ℕ → Type 0
AreRight j x = IsFoundBy j x ⊎ Agrees j x

-- the place of one of the 366 day slots
abbrev pub IsSlotPlace : ℕ → Type 0
IsSlotPlace p = (i : ℕ) × (i < DAY_SLOTS) × (p ≡ slot_place i)

-- What a slot says of its day, which has so many words. An image that decodes has no odometer above 9999999.
pub record IsDayIn (x : List ℕ) (i words : ℕ) (d : UnitDay) : Type 0 where
  pub place : d.place ≡ slot_place i
  pub date : d.date.0 ≡ slot_date x i
  pub odometer : d.odometer.0 ≡ min (slot_odometer x i) HIGHEST_ODOMETER
  pub words_are : d.words ≡ words

-- the n-th recorded day, counted from the oldest, which stands in the slot of this index; its minutes are those that
-- its recorded words show, where its count is in range
pub record IsRecordedDay (x : List ℕ) (n i : ℕ) (d : UnitDay) : Type 0 where
  pub nth : slice_get (recorded_indices x) n ≡ Some i
  pub day : IsDayIn x i (length (recorded_words x i)) d
  pub minutes : slot_count x i ≤ DAY_WORD_LIMIT
      → slice_get (recorded x) n ≡ Some (day_shown (last_kept x)
      (record { date = slot_date x i; odometer = slot_odometer x i; words = recorded_words x i }))

-- what is found of a date: no recorded day has it, or this one
abbrev pub IsOfDate : List ℕ → ℕ → Option UnitDay → Type 0
IsOfDate x date None = All (λ i. slot_date x i ≢ date) (recorded_indices x)
IsOfDate x date (Some d) = (d.date.0 ≡ date) × ((n : ℕ) × (i : ℕ) × IsRecordedDay x n i d)

-- the word at an index of a recorded day
abbrev pub IsWordOf : List ℕ → UnitDay → (index word : ℕ) → Type 0
IsWordOf x d index word = (n i : ℕ) → IsRecordedDay x n i d → slice_get (recorded_words x i) index ≡ Some word

-- where the n-th recorded day stands: the last-kept minute's is the newest
abbrev pub nth_index : Notes → ℕ → ℕ
nth_index j n = (j.index + (DAY_SLOTS + 1) - j.day_count + n) % DAY_SLOTS

-- no call was made, or some that only read
abbrev pub ReadsIfAny : State → State → Bool → Type 0
ReadsIfAny old new failed = ((failed ≡ false) × MadeNoCall old new) ⊎ Reads old new failed
