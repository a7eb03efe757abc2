-- Images in which the bytes that a journal reads are the same, and what else of an image is judged.
use Rattle.std.specs.Prelude.{◌≡◌, ◌⊎◌, ℕ, ◌+◌, ◌<◌, ◌≤◌, true, List, length}
use Rattle.tach_media.specs.Medium.{bytes_at}
use Rattle.gated_ring.specs.Ring.{number_at}
use Rattle.unit_model.specs.declared.layout.TheConstants.{VERSION, RULE_BYTE, LAST_KEPT, ODOMETER, OVER_COUNT, DAYS}
use Rattle.unit_model.specs.declared.layout.TheConstants.{INSERTIONS, PLACES, SPEEDS, INSERTION_SLOTS, PLACE_SLOTS}
use Rattle.unit_model.specs.declared.layout.TheConstants.{SPEED_SLOTS, MOST_OVERS}
use Rattle.unit_model.specs.Days.{word_minute}
use Rattle.unit_model.specs.Decoding.{cell_minute, cell_word, is_version_good, is_rule_good}
use Rattle.unit_model.specs.Image.{number_of}

-- the last-kept minute, the odometer and the ring of the days
pub record SameJournal (x c : List ℕ) : Type 0 where
  pub front : bytes_at c LAST_KEPT.place (LAST_KEPT.size + ODOMETER.size)
      ≡ bytes_at x LAST_KEPT.place (LAST_KEPT.size + ODOMETER.size)
  pub days : bytes_at c DAYS.place DAYS.size ≡ bytes_at x DAYS.place DAYS.size
  pub same_length : length c ≡ length x

-- the version, the rule byte, the number of over speedings, the cells of owed rows, and the pointers of insertions,
-- places and detailed speed
pub record PassesBeside (x : List ℕ) : Type 0 where
  pub version : is_version_good (number_of x VERSION) ≡ true
  pub rule : is_rule_good (number_of x VERSION) (number_of x RULE_BYTE) ≡ true
  pub overs : number_of x OVER_COUNT ≤ MOST_OVERS
  pub cells : (n : ℕ) → n < 32 → (cell_minute x n ≡ 0) ⊎ (word_minute (cell_word x n) < 1440)
  pub insertions : number_at x INSERTIONS.place 4 < INSERTION_SLOTS
  pub places : number_at x PLACES.place 4 < PLACE_SLOTS
  pub speeds : number_at x SPEEDS.place 4 < SPEED_SLOTS
