-- The writes that begin a row and that put an entry into one, and what they leave (profile).
use Rattle.std.specs.Prelude.{◌≡◌, ◌≢◌, ◌⊎◌, ℕ, ◌+◌, ◌%◌, ◌<◌, Bool, false, ◌==◌, nat_lt, Option, Some, None, List, []}
use Rattle.std.specs.Prelude.{◌∷◌, slice_set, map, find, fold, if◌then◌else◌}
use Rattle.std.specs.List.{range_with_len}
use Rattle.std.specs.Int.{to_be_bytes, w16, w32}
use Rattle.activity_codec.specs.declared.entries.Entry.{Entry}
pub use Rattle.activity_codec.specs.Words.{entry_word}
use Rattle.tach_media.specs.Medium.{SameOutside}
use Rattle.tach_media.specs.Plan.{Piece, piece}
use Rattle.unit_model.specs.declared.layout.TheConstants.{OWED, OWED_ROWS, ROW_NUMBER, CELL_WORD}
use Rattle.unit_model.specs.Decoding.{Decodes}
use Rattle.unit_owed.specs.Owed.{Cell, OwedRow, rows_in, row_begin, cell_begin, session_in, number_in, row_in}
use Rattle.unit_owed.specs.Owed.{row_index, row_of}

-- an entry into a row's cell at its minute modulo 4: the minute to 0, the word, the minute
abbrev pub cell_pieces : (row minute word : ℕ) → List Piece
cell_pieces r m w =
    let p : ℕ = OWED.place + cell_begin r (m % 4) in
    piece p (to_be_bytes w32 0) ∷ piece (p + CELL_WORD.place) (to_be_bytes w16 w) ∷ piece p (to_be_bytes w32 m) ∷ []

-- into the row of a number, where it has one
abbrev pub pieces_into : (minute word : ℕ) → Option ℕ → List Piece
pieces_into m w None = []
pieces_into m w (Some r) = cell_pieces r m w

-- so by the number
abbrev pub putting : (number : List ℕ) → (minute word : ℕ) → (rows : List ℕ) → List Piece
putting number m w rows = pieces_into m w (row_index number rows)

-- a row for a number: the session to 0, the minutes of the cells to 0, the number, the session
abbrev pub row_pieces : (row : ℕ) → (number : List ℕ) → (session : ℕ) → List Piece
row_pieces r number session =
    let p : ℕ = OWED.place + row_begin r in
    piece p (to_be_bytes w32 0)
    ∷ piece (OWED.place + cell_begin r 0) (to_be_bytes w32 0) ∷ piece (OWED.place + cell_begin r 1) (to_be_bytes w32 0)
    ∷ piece (OWED.place + cell_begin r 2) (to_be_bytes w32 0) ∷ piece (OWED.place + cell_begin r 3) (to_be_bytes w32 0)
    ∷ piece (p + ROW_NUMBER.place) number ∷ piece p (to_be_bytes w32 session) ∷ []

-- this row is the spared one
abbrev pub is_this_row : Option ℕ → ℕ → Bool
is_this_row None r = false
is_this_row (Some s) r = s == r

-- the best row before this one, or this one where it has a lesser session time; the spared one does not count
abbrev pub lesser : (rows : List ℕ) → (spared : Option ℕ) → Option ℕ → ℕ → Option ℕ
lesser rows spared None r = if is_this_row spared r then None else Some r
lesser rows spared (Some b) r = if is_this_row spared r then Some b
    else (if nat_lt (session_in rows r) (session_in rows b) then Some r else Some b)

-- of the rows but the spared one the first that has the least session time
abbrev pub least : (rows : List ℕ) → (spared : Option ℕ) → Option ℕ
least rows spared = fold (lesser rows spared) None (range_with_len 0 OWED_ROWS)

-- the lowest empty row
abbrev pub empty_index : (rows : List ℕ) → Option ℕ
empty_index rows = find (λ r. session_in rows r == 0) (range_with_len 0 OWED_ROWS)

-- the first of two, or the second where there is none
abbrev pub or_else : Option ℕ → Option ℕ → Option ℕ
or_else (Some r) other = Some r
or_else None other = other

-- the row of the number that is spared
abbrev pub spared_index : Option (List ℕ) → (rows : List ℕ) → Option ℕ
spared_index None rows = None
spared_index (Some number) rows = row_index number rows

-- the row that is begun for a number: its own, else the lowest empty one, else the one with the least session time, but
-- not the spared number's
abbrev pub begun_index : (number : List ℕ) → (spared : Option (List ℕ)) → (rows : List ℕ) → Option ℕ
begun_index number spared rows = or_else (row_index number rows)
    (or_else (empty_index rows) (least rows (spared_index spared rows)))

-- the writes that begin the row of an index
abbrev pub pieces_at : (number : List ℕ) → (session : ℕ) → Option ℕ → List Piece
pieces_at number session None = []
pieces_at number session (Some r) = row_pieces r number session

-- the writes that begin a row for a number, with a session time
abbrev pub beginning : (number : List ℕ) → (session : ℕ) → (spared : Option (List ℕ)) → (rows : List ℕ) → List Piece
beginning number session spared rows = pieces_at number session (begun_index number spared rows)

-- a row with another cell at a place
abbrev pub with_cell : ℕ → Cell → OwedRow → OwedRow
with_cell i cell row = record { session = row.session; cells = slice_set row.cells i cell }

-- at each moment a row is as it was, or without the cell of the entry's place, or with the entry in it
abbrev pub IsPuttingCell : Entry → (old new : OwedRow) → Type 0
IsPuttingCell e old new =
    (new ≡ old) ⊎ (((word : ℕ) × (new ≡ with_cell (e.minute % 4) (record { minute = 0; word = word }) old))
    ⊎ (new ≡ with_cell (e.minute % 4) (record { minute = e.minute; word = entry_word e }) old))

-- a moment of a `put_owed`: nothing but the number's row changes, and it is as it was, or without the cell, or with the
-- entry
pub record IsPutting (number : List ℕ) (e : Entry) (x c : List ℕ) : Type 0 where
  pub outside : SameOutside OWED.place OWED.size x c
  pub indices : (n : List ℕ) → row_index n (rows_in c) ≡ row_index n (rows_in x)
  pub rows : (s : ℕ) → s < OWED_ROWS → row_index number (rows_in x) ≢ Some s
      → (number_in (rows_in c) s ≡ number_in (rows_in x) s) × (row_in (rows_in c) s ≡ row_in (rows_in x) s)
  pub others : (n : List ℕ) → n ≢ number → row_of n c ≡ row_of n x
  pub own : (r : ℕ) → row_index number (rows_in x) ≡ Some r
      → IsPuttingCell e (row_in (rows_in x) r) (row_in (rows_in c) r)
  pub decodes : Decodes x → Decodes c

-- after a `put_owed` the entry stands in the number's row
pub record OwedRowHas (number : List ℕ) (e : Entry) (x y : List ℕ) : Type 0 where
  pub putting : IsPutting number e x y
  pub entry : (r : ℕ) → row_index number (rows_in x) ≡ Some r
      → row_in (rows_in y) r ≡ with_cell (e.minute % 4) (record { minute = e.minute; word = entry_word e })
      (row_in (rows_in x) r)

-- the number has a row
abbrev pub HasRow : (number image : List ℕ) → Type 0
HasRow number x = (r : ℕ) × (row_index number (rows_in x) ≡ Some r)

-- the row of a number is the one at this index
abbrev pub IsRowAt : (row : ℕ) → (number image : List ℕ) → Type 0
IsRowAt r number x = row_index number (rows_in x) ≡ Some r

-- the row that is begun for a number, while another one is spared, is the one at this index
abbrev pub IsRowFor : (row : ℕ) → (number : List ℕ) → (spared : Option (List ℕ)) → (image : List ℕ) → Type 0
IsRowFor r number spared x = begun_index number spared (rows_in x) ≡ Some r

-- a row of this session whose cells are empty; their words stay
abbrev pub emptied : ℕ → OwedRow → OwedRow
emptied session row = record { session = session; cells = map (λ c. record { minute = 0; word = c.word }) row.cells }

-- after a `begin_owed` the row that was taken is the number's, and has this session and no entry
pub record IsTaken (number : List ℕ) (session r : ℕ) (x y : List ℕ) : Type 0 where
  pub named : number_in (rows_in y) r ≡ number
  pub row : row_in (rows_in y) r ≡ emptied session (row_in (rows_in x) r)

-- a moment of a `begin_owed`: nothing but one row changes, which is not the spared number's; it is as it was, or has
-- session 0, or is begun
pub record IsRowBeginning (number : List ℕ) (session : ℕ) (spared : Option (List ℕ)) (x c : List ℕ) : Type 0 where
  pub outside : SameOutside OWED.place OWED.size x c
  pub rows : (s : ℕ) → s < OWED_ROWS → begun_index number spared (rows_in x) ≢ Some s
      → (number_in (rows_in c) s ≡ number_in (rows_in x) s) × (row_in (rows_in c) s ≡ row_in (rows_in x) s)
  pub others : (n : List ℕ) → n ≢ number → row_index n (rows_in x) ≢ begun_index number spared (rows_in x)
      → row_of n c ≡ row_of n x
  pub spares : (n : List ℕ) → n ≢ number → spared ≡ Some n → row_of n c ≡ row_of n x
  pub own : (r : ℕ) → begun_index number spared (rows_in x) ≡ Some r
      → (c ≡ x) ⊎ ((session_in (rows_in c) r ≡ 0) ⊎ IsTaken number session r x c)
  pub decodes : Decodes x → Decodes c

-- after a `begin_owed` the number's row is the one that was taken
pub record IsRowBegun (number : List ℕ) (session : ℕ) (spared : Option (List ℕ)) (x y : List ℕ) : Type 0 where
  pub beginning : IsRowBeginning number session spared x y
  pub index : row_index number (rows_in y) ≡ begun_index number spared (rows_in x)
  pub row : (r : ℕ) → begun_index number spared (rows_in x) ≡ Some r → IsTaken number session r x y
