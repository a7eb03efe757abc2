-- The owed rows of an image as a run goes on from another one, in which rows are begun and entries put for some numbers
-- alone (profile).
use Rattle.std.specs.Prelude.{◌≡◌, ◌≢◌, ◌⊎◌, ℕ, ◌<◌, ◌≤◌, true, List, [], ◌∷◌, Option, Some}
use Rattle.std.specs.List.{AllByRecursion}
use Rattle.unit_model.specs.declared.layout.TheConstants.{OWED_ROWS}
use Rattle.unit_model.specs.Image.{last_kept}
use Rattle.unit_owed.specs.Owed.{Cell, OwedRow, rows_in, session_in, number_in, row_in, is_row_of, owed_to}

-- a cell is as it was, or was later than a minute and is empty
abbrev pub IsKept : (kept : ℕ) → (was now : Cell) → Type 0
IsKept kept was now = (now.word ≡ was.word) × ((now.minute ≡ was.minute) ⊎ ((kept < was.minute) × (now.minute ≡ 0)))

-- and so is each of these
abbrev pub AreKept : (kept : ℕ) → (was now : List Cell) → Type 0
AreKept kept [] [] = Unit {0}
AreKept kept [] (n ∷ now) = ⊥
AreKept kept (w ∷ was) [] = ⊥
AreKept kept (w ∷ was) (n ∷ now) = IsKept kept w n × AreKept kept was now

-- no cell is later than a minute
abbrev pub AreLow : (kept : ℕ) → List Cell → Type 0
AreLow kept cells = AllByRecursion (λ (c : Cell). c.minute ≤ kept) cells

-- A ROW STANDS as it stood while the first of these was the last-kept minute, which is the second now: it has the
-- session time and the cells that it had, but for later ones; and no cell that was later counts now.
pub record IsStanding (first last : ℕ) (was now : OwedRow) : Type 0 where
  pub session : now.session ≡ was.session
  pub cells : AreKept first was.cells now.cells
  pub low : (last ≡ first) ⊎ AreLow first now.cells

-- a row of an image among rows with this last-kept minute
abbrev pub RowStands : (start rows : List ℕ) → (last r : ℕ) → Type 0
RowStands start rows last r = (number_in rows r ≡ number_in (rows_in start) r)
    × IsStanding (last_kept start) last (row_in (rows_in start) r) (row_in rows r)

-- no two rows are empty
abbrev pub HasOneEmpty : List ℕ → Type 0
HasOneEmpty x = (r s : ℕ) → r < OWED_ROWS → s < OWED_ROWS → session_in (rows_in x) r ≡ 0
    → session_in (rows_in x) s ≡ 0 → r ≡ s

-- A ROW WAS TAKEN for a number of some: it is empty, or that number's; and it was one's of them, or empty, or no two
-- rows were empty.
pub record IsTakenFor (mine : List ℕ → Type 0) (start rows : List ℕ) (r : ℕ) : Type 0 where
  pub number : List ℕ
  pub whose : mine number
  pub now : (session_in rows r ≡ 0) ⊎ (number_in rows r ≡ number)
  pub may : mine (number_in (rows_in start) r) ⊎ ((session_in (rows_in start) r ≡ 0) ⊎ HasOneEmpty start)

-- a number has taken no two rows: of two that it has both are one, or both were its
abbrev pub HasOne : (number start rows : List ℕ) → Type 0
HasOne number start rows = (r s : ℕ) → r < OWED_ROWS → s < OWED_ROWS → is_row_of number rows r ≡ true
    → is_row_of number rows s ≡ true
    → (r ≡ s) ⊎ ((is_row_of number (rows_in start) r ≡ true) × (is_row_of number (rows_in start) s ≡ true))

-- A ROW OF ANOTHER IS LOST: it was not empty, and no number of some had it, and it was taken for one of these.
pub record IsLost (mine : List ℕ → Type 0) (start rows : List ℕ) (r : ℕ) : Type 0 where
  pub below : r < OWED_ROWS
  pub filled : session_in (rows_in start) r ≢ 0
  pub others : mine (number_in (rows_in start) r) → ⊥
  pub taken : IsTakenFor mine start rows r

-- a row was empty, or is lost
abbrev pub IsGone : (mine : List ℕ → Type 0) → (start rows : List ℕ) → (r : ℕ) → Type 0
IsGone mine start rows r = ((r < OWED_ROWS) × (session_in (rows_in start) r ≡ 0)) ⊎ IsLost mine start rows r

-- there are two of these numbers
pub record HasTwo (mine : List ℕ → Type 0) : Type 0 where
  pub first : List ℕ
  pub second : List ℕ
  pub one : mine first
  pub other : mine second
  pub differ : first ≢ second

-- it is not empty, and no number of some has it
abbrev pub IsOthers : (mine : List ℕ → Type 0) → (rows : List ℕ) → (r : ℕ) → Type 0
IsOthers mine rows r = (session_in rows r ≢ 0) × (mine (number_in rows r) → ⊥)

-- FEW ARE LOST, with those that were empty no more than there are numbers of some: of three two are one, and where
-- there is one number alone two are one. And none of them had a later session than a row that another has still.
pub record LoseFew (mine : List ℕ → Type 0) (start rows : List ℕ) : Type 0 where
  pub three : (r s t : ℕ) → IsLost mine start rows r → IsGone mine start rows s → IsGone mine start rows t
      → (r ≡ s) ⊎ ((r ≡ t) ⊎ (s ≡ t))
  pub two : (r s : ℕ) → IsLost mine start rows r → IsGone mine start rows s → (r ≡ s) ⊎ HasTwo mine
  pub least : (r s : ℕ) → IsLost mine start rows r → s < OWED_ROWS → IsOthers mine rows s
      → session_in (rows_in start) r ≤ session_in rows s

-- THE ROWS GO ON from those of an image: each stands as it stood, or was taken for a number of some, of which none has
-- taken two; and of those of others few are lost.
pub record RowsGoOn (mine : List ℕ → Type 0) (start rows : List ℕ) (last : ℕ) : Type 0 where
  pub on : last_kept start ≤ last
  pub each : (r : ℕ) → r < OWED_ROWS → RowStands start rows last r ⊎ IsTakenFor mine start rows r
  pub once : (number : List ℕ) → mine number → HasOne number start rows
  pub few : LoseFew mine start rows

-- and no cell of one that stands is later than the last-kept minute was
abbrev pub AreMended : (mine : List ℕ → Type 0) → (start rows : List ℕ) → Type 0
AreMended mine start rows = (r : ℕ) → r < OWED_ROWS
    → AreLow (last_kept start) (row_in rows r).cells ⊎ IsTakenFor mine start rows r

-- a number is one of two, where they are
abbrev pub IsOneOf : (a b : Option (List ℕ)) → (number : List ℕ) → Type 0
IsOneOf a b number = (a ≡ Some number) ⊎ (b ≡ Some number)

-- WHAT IS OWED to a number is what was owed to it, in each session and behind each minute
abbrev pub IsOwedStill : (start y number : List ℕ) → Type 0
IsOwedStill start y number = (session after : ℕ) → owed_to y number session after ≡ owed_to start number session after

-- A NUMBER HAS LOST ITS ROW to one of some, where no two rows were empty
pub record HasLostRow (mine : List ℕ → Type 0) (start y number : List ℕ) : Type 0 where
  pub row : ℕ
  pub below : row < OWED_ROWS
  pub was : is_row_of number (rows_in start) row ≡ true
  pub taken : IsTakenFor mine start (rows_in y) row
  pub full : HasOneEmpty start
