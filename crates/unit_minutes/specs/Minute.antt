-- What a minute writes on its day, and the notes after it.
use Rattle.std.specs.Prelude.{None, replicate, ℕ, ◌+◌, ◌*◌, ◌/◌, ◌%◌, ◌==◌, if◌then◌else◌, min, List, ◌++◌, length}
use Rattle.std.specs.Int.{to_be_bytes, w16, w32}
use Rattle.gated_ring.specs.Ring.{taken}
use Rattle.unit_model.specs.declared.layout.TheConstants.{DAY_SLOTS}
use Rattle.unit_model.specs.Days.{word_by}
use Rattle.unit_model.specs.Image.{day_ring}
use Rattle.unit_model.specs.Changes.{new_words}
use Rattle.unit_minutes.specs.declared.notes.Notes.{Notes}
use Rattle.unit_minutes.specs.Coming.{SlotBits, Coming, changes_to, first_bits}

-- the words of a minute on the day that the notes are of
abbrev pub words_on : Notes → Coming → List ℕ
words_on j m = new_words (j.kept % 1440 + 1) (m.minute % 1440) j.bits.driver j.bits.codriver m.bits.driver
    m.bits.codriver

-- the beginning of a new day's slot: date, odometer, the count of two words, and these
abbrev pub head_of : (date odometer : ℕ) → (first : SlotBits) → List ℕ
head_of date odometer first =
    to_be_bytes w32 date ++ (to_be_bytes w32 odometer
    ++ (to_be_bytes w16 2 ++ (replicate 6 0
    ++ (to_be_bytes w16 (word_by 0 first.driver 0) ++ to_be_bytes w16 (word_by 1 first.codriver 0)))))

-- the head of the day of a minute
abbrev pub new_head : Coming → List ℕ
new_head m = head_of (86400 * (m.minute / 1440)) m.odometer (first_bits (m.minute % 1440) m.bits)

-- the words of a new day behind its first two
abbrev pub further : Coming → List ℕ
further m = changes_to (m.minute % 1440) (first_bits (m.minute % 1440) m.bits) m.bits

-- the notes after a minute, on a day in the slot of this index, which has so many words then
abbrev pub notes_by : (index days : ℕ) → Coming → (count : ℕ) → Notes
notes_by index days m count =
    record {
      kept = m.minute;
      odometer = m.odometer;
      index = index;
      count = count;
      bits = m.bits;
      stray = None;
      stored = count;
      day_count = days;
    }

-- on the same day
abbrev pub notes_on : Notes → Coming → Notes
notes_on j m = notes_by j.index j.day_count m (j.count + length (words_on j m))

-- on a new one, with so many days
abbrev pub notes_begun : (index days : ℕ) → Coming → Notes
notes_begun index days m = notes_by index days m (2 + length (further m))

-- and after either
abbrev pub notes_after : Notes → Coming → (x : List ℕ) → Notes
notes_after j m x =
    if m.minute / 1440 == j.kept / 1440 then notes_on j m
    else notes_begun (taken day_ring x) (min (j.day_count + 1) DAY_SLOTS) m
