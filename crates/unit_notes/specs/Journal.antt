-- Images in which nothing has changed that a journal reads or writes: version, rule byte and vehicle, last-kept minute
-- and odometer, owed rows and days; nor the spare bytes behind the faults. The two numbers of over speedings between
-- them may differ.
use Rattle.std.specs.Prelude.{◌≡◌, ℕ, ◌-◌, List, length}
use Rattle.card_layout.specs.Images.{bytes_at}
use Rattle.unit_model.specs.declared.layout.TheConstants.{FIRST_OVER, SPARE_COUNTS, INSERTIONS, SPARE_FAULTS}
use Rattle.unit_model.specs.Decoding.{Decodes}

-- the bytes of the journal are as they were: all but the two numbers of over speedings, the rings and the tables
pub record KeepsJournal (x c : List ℕ) : Type 0 where
  pub front : bytes_at c 0 FIRST_OVER.place ≡ bytes_at x 0 FIRST_OVER.place
  pub rest : bytes_at c SPARE_COUNTS.place (INSERTIONS.place - SPARE_COUNTS.place)
      ≡ bytes_at x SPARE_COUNTS.place (INSERTIONS.place - SPARE_COUNTS.place)
  pub spare : bytes_at c SPARE_FAULTS.place SPARE_FAULTS.size ≡ bytes_at x SPARE_FAULTS.place SPARE_FAULTS.size
  pub same_length : length c ≡ length x

-- and where the image decoded it still does
pub record LeavesJournal (x c : List ℕ) : Type 0 where
  pub keeps : KeepsJournal x c
  pub decodes : Decodes x → Decodes c
