-- The newest days go, those later than a date.
use Rattle.std.specs.Prelude.{◌≡◌, ◌⊎◌, ℕ, ◌+◌, ◌<◌, ◌≤◌, List, [], ◌∷◌, ◌++◌, length, nat_le, Bool, false, not, IfSome}
use Rattle.tach_media.specs.Medium.{State, SameOutside, Reads, IsSettled, last_count}
use Rattle.card_model.specs.Days.{Day}
use Rattle.card_model.specs.Image.{StringShape, HoldsDays}
use Rattle.card_model.specs.Changes.{with_newest, until, date_of, cut, trimmed, Shorter}

-- there is a newest day, and it is later
abbrev pub newest_later : ℕ → List Day → Bool
newest_later date [] = false
newest_later date (d ∷ []) = not (nat_le d.date date)
newest_later date (d ∷ e ∷ ds) = newest_later date (e ∷ ds)

-- so many of the days at least are gone, and only some later than the date
pub record ShorterBy (date count : ℕ) (days kept : List Day) : Type 0 where
  pub less : Shorter date days kept
  pub many : count ≤ length less.gone

-- a moment at which days later than a date go, so many at least
pub record IsTrimming (r : StringShape) (date count : ℕ) (x c : List ℕ) : Type 0 where
  pub outside : SameOutside r.base (4 + r.size) x c
  pub list : (days : List Day) → HoldsDays r x days
      → (kept : List Day) × ShorterBy date count days kept × HoldsDays r c kept

-- all days later than the date are gone
pub record IsTrimmed (r : StringShape) (date : ℕ) (x y : List ℕ) : Type 0 where
  pub outside : SameOutside r.base (4 + r.size) x y
  pub list : (days : List Day) → HoldsDays r x days → HoldsDays r y (until date days)

-- the newest day, which there is, is gone
pub record IsWithoutLast (r : StringShape) (x y : List ℕ) : Type 0 where
  pub outside : SameOutside r.base (4 + r.size) x y
  pub list : (older : List Day) (d : Day) → HoldsDays r x (older ++ d ∷ []) → HoldsDays r y older

-- a moment at which the newest day goes: it is there, or it is gone
pub record IsLosingLast (r : StringShape) (x c : List ℕ) : Type 0 where
  pub outside : SameOutside r.base (4 + r.size) x c
  pub list : (older : List Day) (d : Day) → HoldsDays r x (older ++ d ∷ [])
      → HoldsDays r c (older ++ d ∷ []) ⊎ HoldsDays r c older

-- the newest day, if there is one, has no word later than a minute on that minute's day
pub record IsCutLast (r : StringShape) (minute : ℕ) (x y : List ℕ) : Type 0 where
  pub outside : SameOutside r.base (4 + r.size) x y
  pub list : (days : List Day) → HoldsDays r x days → HoldsDays r y (with_newest (cut minute) days)

-- a moment of this cut: the days are the old ones, or the cut ones
pub record IsCuttingLast (r : StringShape) (minute : ℕ) (x c : List ℕ) : Type 0 where
  pub outside : SameOutside r.base (4 + r.size) x c
  pub list : (days : List Day) → HoldsDays r x days → HoldsDays r c days ⊎ HoldsDays r c (with_newest (cut minute) days)

-- after a `trim`
pub record IsTrim (r : StringShape) (minute : ℕ) (x y : List ℕ) : Type 0 where
  pub outside : SameOutside r.base (4 + r.size) x y
  pub list : (days : List Day) → HoldsDays r x days → HoldsDays r y (trimmed minute days)

-- a moment of `trim`: of the old days only some of those later than the minute's day are gone, or the trimmed list
pub record IsTrimMoment (r : StringShape) (minute : ℕ) (x c : List ℕ) : Type 0 where
  pub outside : SameOutside r.base (4 + r.size) x c
  pub list : (days : List Day) → HoldsDays r x days
      → ((kept : List Day) × Shorter (date_of minute) days kept × HoldsDays r c kept)
      ⊎ HoldsDays r c (trimmed minute days)

-- a call that writes, or only reads
abbrev pub WritesOrReads : State → State → Type 0
WritesOrReads old new = (new.clock < last_count → IsSettled new) ⊎ Reads old new false

-- a call that writes, or only reads where there is no day
abbrev pub WritesWhereDays : StringShape → State → State → Type 0
WritesWhereDays r old new = (new.clock < last_count → IsSettled new)
    ⊎ (Reads old new false × IfSome old.image (λ x. (days : List Day) → HoldsDays r x days → days ≡ []))
