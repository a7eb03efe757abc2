-- What each kind of step leaves, at its end and at each moment: R old new.
use Rattle.std.specs.Prelude.{◌≡◌, ◌⊎◌, ℕ, suc, ◌%◌, max, ◌<◌, ◌≤◌, not, List, [], ◌∷◌, ◌++◌, filter, nat_eq, nat_le}
use Rattle.std.specs.Prelude.{nat_lt, if◌then◌else◌, take, drop, All}
use Rattle.activity_codec.specs.declared.entries.Entry.{Entry}
use Rattle.trace_model.specs.declared.Card.{Card}
use Rattle.history_model.specs.Minutes.{HistoryMinute}
use Rattle.unit_model.specs.Days.{ShownDay}
use Rattle.unit_owed.specs.Owed.{Row}
use Rattle.card_image.specs.View.{CardView, Held}
use Rattle.device_rule.specs.Views.{UnitView, row, with_row, other, newest_with, beyond, next_of}

-- what a call on the unit leaves alone, but for the minutes
pub record SameRows (u v : UnitView) : Type 0 where
  pub row_a : v.row_a ≡ u.row_a
  pub row_b : v.row_b ≡ u.row_b

-- KEEP of the unit: the mark tells which side of the commit it is
pub record IsKept (Adds : HistoryMinute → List ShownDay → List ShownDay → Type 0) (i : HistoryMinute)
    (u v : UnitView) : Type 0 where
  pub rows : SameRows u v
  pub last : v.last ≡ i.minute
  pub days : Adds i u.days v.days

-- before it the oldest day may be given up for the minute
pub record IsUnkept (Gives : HistoryMinute → List ShownDay → List ShownDay → Type 0) (i : HistoryMinute)
    (u v : UnitView) : Type 0 where
  pub rows : SameRows u v
  pub last : v.last ≡ u.last
  pub days : (v.days ≡ u.days) ⊎ Gives i u.days v.days

-- at each moment one or the other
abbrev pub IsKeeping : (Adds Gives : HistoryMinute → List ShownDay → List ShownDay → Type 0) → HistoryMinute → UnitView
    → UnitView → Type 0
IsKeeping Adds Gives i u v = IsUnkept Gives i u v ⊎ IsKept Adds i u v

-- a row without the cell of an entry's place
abbrev pub cleared : Entry → Row → Row
cleared e r = record r { cells = filter (λ d. not (nat_eq (d.minute % 4) (e.minute % 4))) r.cells }

-- a row with an entry behind the others
abbrev pub owing : Entry → Row → Row
owing e r = record { session = r.session; cells = (cleared e r).cells ++ e ∷ [] }

-- PUT_OWED: as it was, without the cell, or with the entry behind the others
abbrev pub IsPutting : Card → Entry → UnitView → UnitView → Type 0
IsPutting c e u v = (v ≡ u) ⊎ ((v ≡ with_row c (cleared e (row c u)) u) ⊎ (v ≡ with_row c (owing e (row c u)) u))

-- at its end with the entry
abbrev pub UnitOwes : Card → Entry → UnitView → UnitView → Type 0
UnitOwes c e u v = v ≡ with_row c (owing e (row c u)) u

-- BEGIN_OWED: the minutes stay and the other card's row is spared; of the own one nothing is said before the end, since
-- a number may have two rows
pub record IsBeginning (c : Card) (u v : UnitView) : Type 0 where
  pub days : v.days ≡ u.days
  pub last : v.last ≡ u.last
  pub other : row (other c) v ≡ row (other c) u

-- at its end the row has this session, and no cell
pub record IsBegun (c : Card) (session : ℕ) (u v : UnitView) : Type 0 where
  pub beginning : IsBeginning c u v
  pub taken : row c v ≡ record { session = session; cells = [] }

-- MEND: the cells up to the last-kept minute stay
abbrev pub settled_cells : ℕ → Row → List Entry
settled_cells last r = filter (λ e. nat_le e.minute last) r.cells

-- at each moment
pub record IsMending (u v : UnitView) : Type 0 where
  pub days : v.days ≡ u.days
  pub last : v.last ≡ u.last
  pub session : (c : Card) → (row c v).session ≡ (row c u).session
  pub cells : (c : Card) → settled_cells u.last (row c v) ≡ settled_cells u.last (row c u)

-- at its end no others stand
pub record IsMended (u v : UnitView) : Type 0 where
  pub mending : IsMending u v
  pub only : (c : Card) → (row c v).cells ≡ settled_cells u.last (row c u)

-- what an insertion that is given these entries brings: of a card with a session those later than its end mark
abbrev pub replayed : List Entry → CardView → List Entry
replayed given x = if nat_lt 0 x.session then filter (λ e. nat_lt x.mark e.minute) given else []

-- words beyond the mark: cut, or still those of a card that was closed
abbrev pub IsTrimming : CardView → CardView → Type 0
IsTrimming x y = (y.word ≤ y.newest) ⊎ ((x.session ≡ 0) × (y.word ≤ x.word) × (y.newest ≡ x.newest))

-- INSERT: of what it brings the first n are on the card; those, and no other, are not later than the end mark. Behind
-- all of them an entry may come that is later than the newest minute that it answers.
pub record IsInserting (Adds : ℕ → Held → List Entry → Held → Type 0) (given : List Entry) (now : ℕ)
    (x y : CardView) : Type 0 where
  pub count : ℕ
  pub held : (next : ℕ) → max (beyond x) (newest_with x (replayed given x)) < next →
      Adds (next_of next (drop count (replayed given x))) x.held (take count (replayed given x)) y.held
  pub mark : x.mark ≤ y.mark
  pub bound : y.mark ≤ y.newest
  pub reached : All (λ e. e.minute ≤ y.mark) (take count (replayed given x))
  pub lacked : All (λ e. y.mark < e.minute) (drop count (replayed given x))
  pub session : (y.session ≡ x.session) ⊎ ((drop count (replayed given x) ≡ []) × ((y.session ≡ 0) ⊎ (y.session ≡ now)))
  pub newest : newest_with y (drop count (replayed given x)) ≡ newest_with x (replayed given x)
  pub words : y.session ≡ 0 → IsTrimming x y

-- at its end the session is open, and `newest` is the newest minute that it answers
pub record IsInserted (Adds : ℕ → Held → List Entry → Held → Type 0)
    (given : List Entry) (now newest : ℕ) (x y : CardView) : Type 0 where
  pub inserting : IsInserting Adds given now x y
  pub session : y.session ≡ now
  pub words : IsTrimming x y
  pub answered : newest ≡ max (beyond x) (newest_with x (replayed given x))

-- KEEP of a card: the end mark tells which side of the commit it is. Before it the oldest days may have gone for the
-- entry, so that words later than the end mark are those that count for the newest minute.
pub record IsOnCard (Adds : ℕ → Held → List Entry → Held → Type 0) (e : Entry) (x y : CardView) : Type 0 where
  pub session : y.session ≡ x.session
  pub side : ((y.mark ≡ x.mark) × Adds e.minute x.held [] y.held × (max x.word y.newest ≡ max x.word x.newest))
      ⊎ ((y.mark ≡ e.minute) × Adds (suc e.minute) x.held (e ∷ []) y.held × (y.newest ≡ newest_with x (e ∷ [])))
  pub bound : y.mark ≤ y.newest

-- at its end it is on the card, and no word stands beyond
pub record IsNowOnCard (Adds : ℕ → Held → List Entry → Held → Type 0) (e : Entry) (x y : CardView) : Type 0 where
  pub session : y.session ≡ x.session
  pub mark : y.mark ≡ e.minute
  pub held : Adds (suc e.minute) x.held (e ∷ []) y.held
  pub newest : y.newest ≡ newest_with x (e ∷ [])
  pub words : y.word ≤ y.newest

-- CLOSE: no entry is lost, and the session ends last; an entry may come that is later than the newest minute
pub record IsClosing (Adds : ℕ → Held → List Entry → Held → Type 0) (x y : CardView) : Type 0 where
  pub held : (next : ℕ) → y.newest < next → Adds next x.held [] y.held
  pub mark : x.mark ≤ y.mark
  pub bound : y.mark ≤ y.newest
  pub session : (y.session ≡ x.session) ⊎ (y.session ≡ 0)
  pub newest : y.newest ≡ x.newest
  pub words : y.word ≤ max x.word y.newest
