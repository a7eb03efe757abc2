-- The cells of the owed rows, and those that are later than the last-kept minute (profile).
use Rattle.std.specs.Prelude.{◌≡◌, ℕ, zero, suc, ◌+◌, ◌*◌, ◌≤◌, nat_lt, List, replicate, if◌then◌else◌}
use Rattle.gated_ring.specs.tach_media.Medium.{put, bytes_at}
use Rattle.unit_model.specs.declared.layout.TheConstants.{OWED, OWED_ROW_SIZE, ROW_CELLS}
use Rattle.unit_model.specs.Decoding.{cell_place, cell_minute}

-- what an owed row has before its cells: the session time and the card number
abbrev pub row_head : List ℕ → ℕ → List ℕ
row_head x r = bytes_at x (OWED.place + r * OWED_ROW_SIZE) ROW_CELLS.place

-- the minute of a cell; a cell later than the last-kept minute is emptied
abbrev pub minute_kept : (kept minute : ℕ) → ℕ
minute_kept kept minute = if nat_lt kept minute then 0 else minute

-- the image with a later cell emptied
abbrev pub cell_emptied : (kept n : ℕ) → List ℕ → List ℕ
cell_emptied kept n x = if nat_lt kept (cell_minute x n) then put (cell_place n) (replicate 4 0) x else x

-- the first n cells, one after the other
unfoldable pub cells_emptied : (kept n : ℕ) → List ℕ → List ℕ
cells_emptied kept zero x = x
cells_emptied kept (suc n) x = cell_emptied kept n (cells_emptied kept n x)

-- a moment of it: those of the first n cells that are later are emptied
abbrev pub IsEmptyingAll : (kept : ℕ) → List ℕ → List ℕ → Type 0
IsEmptyingAll kept x c = (n : ℕ) × (n ≤ 32) × (c ≡ cells_emptied kept n x)
