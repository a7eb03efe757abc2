-- What a mending at power-on leaves of an image: later cells emptied, a later day's gate shut, later words cut off
-- (profile).
use Rattle.std.specs.Prelude.{◌≡◌, ◌⊎◌, ℕ, zero, suc, ◌+◌, ◌<◌, ◌≤◌, ◌==◌, nat_lt, if◌then◌else◌, List, [], ◌∷◌, ◌++◌}
use Rattle.std.specs.Prelude.{take, drop, length, replicate, Option, Some, None}
use Rattle.std.specs.Int.{to_be_bytes, w16}
use Rattle.tach_media.specs.Medium.{put, bytes_at}
use Rattle.tach_media.specs.Plan.{Piece, piece}
use Rattle.unit_model.specs.declared.layout.TheConstants.{DAY_COUNT, OWED, OWED_ROWS, SPARE_ROWS, INSERTIONS}
use Rattle.unit_model.specs.Decoding.{Decodes, cell_place, cell_minute, cell_word}
use Rattle.unit_model.specs.Image.{slot_place, last_kept, unit_days, recorded}
use Rattle.unit_minutes.specs.Image.{Notes, IsFound, IsFoundBy}
use Rattle.unit_minutes.specs.DayOdometers.{RecordsDay}
use Rattle.unit_minutes.specs.DaysWith.{written_days}
use Rattle.unit_model.specs.Writing.{with_count}
use Rattle.unit_model.specs.Days.{days_kept}
use Rattle.unit_model.specs.Cells.{row_head, minute_kept, cells_emptied}

-- nothing but the owed rows and the day slots may have changed
pub record SameButRowsAndSlots (x c : List ℕ) : Type 0 where
  pub before : take OWED.place c ≡ take OWED.place x
  pub between : bytes_at c SPARE_ROWS.place (SPARE_ROWS.size + 4) ≡ bytes_at x SPARE_ROWS.place (SPARE_ROWS.size + 4)
  pub after : drop INSERTIONS.place c ≡ drop INSERTIONS.place x
  pub same_length : length c ≡ length x

-- in the owed rows nothing but the minutes of cells may have changed
pub record SameButMinutes (x c : List ℕ) : Type 0 where
  pub heads : (r : ℕ) → r < OWED_ROWS → row_head c r ≡ row_head x r
  pub words : (n : ℕ) → n < 32 → cell_word c n ≡ cell_word x n

-- the gate of the later day, where one was found, is shut
abbrev pub IsGateShut : Option ℕ → List ℕ → Type 0
IsGateShut None x = Unit {0}
IsGateShut (Some s) x = bytes_at x (slot_place s) 4 ≡ replicate 4 0

-- what `mend` needs: the days as `load` found them, but for what a mend that was cut short has done already
abbrev pub IsMendable : Notes → List ℕ → Type 0
IsMendable j x = IsFoundBy j x ⊎ (IsGateShut j.stray x × (IsFound j None j.stored x ⊎ IsFound j None j.count x))

-- A moment of a `mend`: no minute changes, no recorded day's odometer, and none of the days as they are written up to
-- the last-kept minute; each cell is as it was or mended, the image still decodes, and it may be mended again.
pub record IsMending (j : Notes) (x c : List ℕ) : Type 0 where
  pub outside : SameButRowsAndSlots x c
  pub rows : SameButMinutes x c
  pub cells : (n : ℕ) → n < 32 → (cell_minute c n ≡ cell_minute x n)
      ⊎ (cell_minute c n ≡ minute_kept (last_kept x) (cell_minute x n))
  pub minutes : recorded c ≡ recorded x
  pub odometers : (day odometer : ℕ) → RecordsDay c day odometer → RecordsDay x day odometer
  pub written : written_days c ≡ written_days x
  pub decodes : Decodes x → Decodes c
  pub mendable : IsMendable j c

-- after a `mend`: no cell, no day and no word is later than the last-kept minute, and those that are not later stay
pub record IsMended (x y : List ℕ) : Type 0 where
  pub outside : SameButRowsAndSlots x y
  pub rows : SameButMinutes x y
  pub cells : (n : ℕ) → n < 32 → cell_minute y n ≡ minute_kept (last_kept x) (cell_minute x n)
  pub minutes : recorded y ≡ recorded x
  pub decodes : Decodes x → Decodes y
  pub days : unit_days y ≡ days_kept (last_kept x) (unit_days x)

-- the notes after a `mend`
abbrev pub notes_mended : Notes → Notes
notes_mended j = record j { stray = None; stored = j.count }

-- no cell, no day and no word is later than the last-kept minute
pub record HasNothingLater (j : Notes) (x : List ℕ) : Type 0 where
  pub stray : j.stray ≡ None
  pub count : j.stored ≡ j.count
  pub cells : (n : ℕ) → n < 32 → cell_minute x n ≤ j.kept

-- then the later day's gate is shut
abbrev pub shut : Option ℕ → List ℕ → List ℕ
shut None x = x
shut (Some s) x = put (slot_place s) (replicate 4 0) x

-- and the count is cut, where it differs
abbrev pub cut_to : (index stored count : ℕ) → List ℕ → List ℕ
cut_to i stored count x = if stored == count then x else with_count i count x

-- an image after a `mend` of its days
abbrev pub cut_back : Notes → List ℕ → List ℕ
cut_back j x = if j.kept == 0 then shut j.stray x else cut_to j.index j.stored j.count (shut j.stray x)

-- and after that of the owed rows and then of the days
abbrev pub mended : Notes → List ℕ → List ℕ
mended j x = cut_back j (cells_emptied j.kept 32 x)

-- the writes of a `mend`: a cell that is later than the last-kept minute is emptied, by its place and its minute
abbrev pub emptied_at : (place kept minute : ℕ) → List Piece
emptied_at place kept minute = if nat_lt kept minute then piece place (replicate 4 0) ∷ [] else []

-- so the first cells of the owed rows
unfoldable pub late_cells : (kept count : ℕ) → List ℕ → List Piece
late_cells kept zero x = []
late_cells kept (suc n) x = late_cells kept n x ++ emptied_at (cell_place n) kept (cell_minute x n)

-- the later day's gate is shut, where one was found
abbrev pub gate_shut : Option ℕ → List Piece
gate_shut None = []
gate_shut (Some s) = piece (slot_place s) (replicate 4 0) ∷ []

-- the count of the last-kept minute's day is cut, where it differs
abbrev pub count_cut : Notes → List Piece
count_cut j = if j.kept == 0 then []
    else (if j.stored == j.count then [] else piece (slot_place j.index + DAY_COUNT.place) (to_be_bytes w16 j.count)
    ∷ [])

-- all of them, in their order
abbrev pub mending : Notes → (x : List ℕ) → List Piece
mending j x = late_cells j.kept 32 x ++ (gate_shut j.stray ++ count_cut j)
