-- What a unit owes to cards: eight rows, each with the session time of a card, its number, and four cells of a minute
-- and a word (profile).
use Rattle.std.specs.Prelude.{ℕ, ◌+◌, ◌*◌, ◌/◌, ◌%◌, Bool, not, ◌&&◌, ◌==◌, nat_eq, nat_le, nat_lt, Option, Some, None}
use Rattle.std.specs.Prelude.{List, [], ◌∷◌, find, filter, fold, map, option_map, if◌then◌else◌}
use Rattle.std.specs.List.{range_with_len, insert, prefix_len}
use Rattle.std.specs.Cmp.Lexicographic.{pointwise}
use Rattle.activity_codec.specs.declared.entries.Entry.{Entry}
use Rattle.activity_codec.specs.Words.{word_slot, word_crew, word_act}
use Rattle.tach_media.specs.Medium.{bytes_at}
use Rattle.unit_model.specs.Ring.{number_at}
use Rattle.unit_model.specs.declared.layout.TheConstants.{OWED, OWED_ROWS, OWED_ROW_SIZE, CELLS, CELL_SIZE, ROW_SESSION}
use Rattle.unit_model.specs.declared.layout.TheConstants.{ROW_NUMBER, ROW_CELLS, CELL_MINUTE, CELL_WORD}
use Rattle.unit_model.specs.Image.{last_kept}

-- the bytes of the rows; the places below are counted from their begin
abbrev pub rows_in : List ℕ → List ℕ
rows_in x = bytes_at x OWED.place OWED.size

-- where a row begins, counted from the first of them
abbrev pub row_begin : ℕ → ℕ
row_begin r = r * OWED_ROW_SIZE

-- and where a cell of it does
abbrev pub cell_begin : (row cell : ℕ) → ℕ
cell_begin r i = r * OWED_ROW_SIZE + ROW_CELLS.place + i * CELL_SIZE

-- a cell: a minute, 0 where it is empty, and a word
pub record Cell : Type 0 where
  pub minute : ℕ
  pub word : ℕ

-- a row of a number: its session time, and its cells by their places
pub record OwedRow : Type 0 where
  pub session : ℕ
  pub cells : List Cell

-- the session time of a row, 0 in an empty one
abbrev pub session_in : List ℕ → ℕ → ℕ
session_in rows r = number_at rows (row_begin r) ROW_SESSION.size

-- its card number
abbrev pub number_in : List ℕ → ℕ → List ℕ
number_in rows r = bytes_at rows (row_begin r + ROW_NUMBER.place) ROW_NUMBER.size

-- one of its cells
abbrev pub cell_in : List ℕ → (row cell : ℕ) → Cell
cell_in rows r i = record {
  minute = number_at rows (cell_begin r i) CELL_MINUTE.size;
  word = number_at rows (cell_begin r i + CELL_WORD.place) CELL_WORD.size;
}

-- the row of an index
abbrev pub row_in : List ℕ → ℕ → OwedRow
row_in rows r = record { session = session_in rows r; cells = map (cell_in rows r) (range_with_len 0 CELLS) }

-- a row is a number's where its session time is not 0 and the number is that of the row
abbrev pub is_row_of : (number rows : List ℕ) → ℕ → Bool
is_row_of number rows r = not (session_in rows r == 0) && pointwise nat_eq (number_in rows r) number

-- the lowest such row
abbrev pub row_index : (number rows : List ℕ) → Option ℕ
row_index number rows = find (is_row_of number rows) (range_with_len 0 OWED_ROWS)

-- the row of a number in an image
abbrev pub row_of : (number image : List ℕ) → Option OwedRow
row_of number x = option_map (row_in (rows_in x)) (row_index number (rows_in x))

-- the entry of a cell
abbrev pub entry_of : Cell → Entry
entry_of c = record { minute = c.minute; slot = word_slot c.word; crew = word_crew c.word; act = word_act c.word }

-- a cell holds an entry where it stands at its minute modulo 4, and the minute is not one of the first day
abbrev pub holds : (place : ℕ) → Cell → Bool
holds i c = c.minute % 4 == i && nat_le 1440 c.minute

-- the entries that cells hold, from the cell at this place on
abbrev pub cell_entries : (place : ℕ) → List Cell → List Entry
cell_entries i [] = []
cell_entries i (c ∷ cells) = if holds i c then entry_of c ∷ cell_entries (i + 1) cells else cell_entries (i + 1) cells

-- an entry among others, behind those that are earlier
abbrev pub placed : List Entry → Entry → List Entry
placed es e = insert es (prefix_len (λ f. nat_lt f.minute e.minute) es) e

-- some entries in order of minutes
abbrev pub in_order : List Entry → List Entry
in_order es = fold placed [] es

-- a minute counts that is not earlier than the session's, later than what the card holds, and not later than the
-- last-kept one
abbrev pub counts : (session after kept minute : ℕ) → Bool
counts session after kept m = nat_le (session / 60) m && (nat_lt after m && nat_le m kept)

-- those of them that count
abbrev pub counted : (session after kept : ℕ) → List Entry → List Entry
counted session after kept es = filter (λ e. counts session after kept e.minute) es

-- what is owed of a row, where its session is the card's
abbrev pub owed_of : (session after kept : ℕ) → Option OwedRow → List Entry
owed_of session after kept None = []
owed_of session after kept (Some row) = if row.session == session
    then in_order (counted session after kept (cell_entries 0 row.cells)) else []

-- the entries owed to the card of a number, in order of minutes
unfoldable pub owed_to : (image number : List ℕ) → (session after : ℕ) → List Entry
owed_to x number session after = owed_of session after (last_kept x) (row_of number x)

-- the row of a number as a card sees it: its session time, 0 without a row, and its entries in order of minutes
pub record Row : Type 0 where
  pub session : ℕ
  pub cells : List Entry

-- so of a row, or of none
abbrev pub seen_row : Option OwedRow → Row
seen_row None = record { session = 0; cells = [] }
seen_row (Some row) = record { session = row.session; cells = in_order (cell_entries 0 row.cells) }

-- so of the row of a number in an image
unfoldable pub row_view : (number image : List ℕ) → Row
row_view number x = seen_row (row_of number x)
