-- When the string lies inside a medium, and what the calls that add to it leave of it.
use Rattle.std.specs.Prelude.{◌≡◌, ◌≢◌, ◌⊎◌, ℕ, ◌+◌, ◌-◌, ◌*◌, ◌≤◌, List, [], ◌∷◌, ◌++◌, length}
use Rattle.tach_media.specs.Medium.{State, SameOutside, bytes_at}
use Rattle.card_model.specs.Bytes.{two_bytes}
use Rattle.card_model.specs.Days.{Day}
use Rattle.card_model.specs.Image.{StringShape, HoldsDays, at, oldest_pointer, newest_pointer}
use Rattle.card_model.specs.Changes.{Remain, fitting, with_newest, OnNewest, with_word, TakesWord, new_day, IsNext}
use Rattle.card_days.specs.Held.{Held, Knows}

-- the string lies inside the medium
abbrev pub FileFitsIn : StringShape → State → Type 0
FileFitsIn r s = r.base + (4 + r.size) ≤ s.size

-- Outside the string's file nothing differs, and where the image tells what is kept of it, the two images are so
-- related.
pub record IfKnown (v : Held) (R : List ℕ → List ℕ → Type 0) (x c : List ℕ) : Type 0 where
  pub outside : SameOutside v.shape.base (4 + v.shape.size) x c
  pub told : (days : List Day) → Knows v x days → R x c

-- Outside the string's file nothing differs; and of days that may be changed so, there is what is said of them.
pub record IsOfDays (r : StringShape) (May : List Day → Type 0) (Is : List Day → List ℕ → Type 0) (x c : List ℕ) : Type
    0 where
  pub outside : SameOutside r.base (4 + r.size) x c
  pub list : (days : List Day) → HoldsDays r x days → May days → Is days c

-- a moment of a call that makes room: of the old days no more are gone than must be, or it is done
abbrev pub OrRemain : StringShape → (room : ℕ) → (Is : List Day → List ℕ → Type 0) → List Day → List ℕ → Type 0
OrRemain r room Is days c = ((kept : List Day) × Remain room days kept × HoldsDays r c kept) ⊎ Is days c

-- the new list of an `add_change`
abbrev pub HoldsChanged : StringShape → ℕ → List Day → List ℕ → Type 0
HoldsChanged r w days y = HoldsDays r y (with_newest (with_word w) (fitting (r.size - 2) days))

-- a moment of `add_change`
abbrev pub IsChanging : StringShape → ℕ → List ℕ → List ℕ → Type 0
IsChanging r w x c = IsOfDays r (OnNewest (TakesWord w)) (OrRemain r (r.size - 2) (HoldsChanged r w)) x c

-- after `add_change` the string holds the new list
abbrev pub IsChanged : StringShape → ℕ → List ℕ → List ℕ → Type 0
IsChanged r w x y = IsOfDays r (OnNewest (TakesWord w)) (HoldsChanged r w) x y

-- what is kept then is what the image tells then
abbrev pub KnowsChanged : (v next : Held) → ℕ → List ℕ → List ℕ → Type 0
KnowsChanged v next w x y = (days : List Day) → Knows v x days → OnNewest (TakesWord w) days
    → Knows next y (with_newest (with_word w) (fitting (v.shape.size - 2) days))

-- there is no length before the oldest day
abbrev pub IsCleared : StringShape → List ℕ → Type 0
IsCleared r y = bytes_at y (at r (oldest_pointer r y)) 2 ≡ two_bytes 0

-- so it is where a day has gone
abbrev pub ClearsChanged : Held → ℕ → List ℕ → List ℕ → Type 0
ClearsChanged v w x y = (days : List Day) → Knows v x days → OnNewest (TakesWord w) days
    → fitting (v.shape.size - 2) days ≢ days → IsCleared v.shape y

-- the new list of a `begin_day`
abbrev pub HoldsBegun : StringShape → (date : ℕ) → (words : List ℕ) → List Day → List ℕ → Type 0
HoldsBegun r date words days y = HoldsDays r y
    (fitting (r.size - (12 + 2 * length words)) days ++ new_day days date words ∷ [])

-- a moment of `begin_day`
abbrev pub IsDayBeginning : StringShape → (date : ℕ) → (words : List ℕ) → List ℕ → List ℕ → Type 0
IsDayBeginning r date words x c = IsOfDays r (λ days. IsNext days date words)
    (OrRemain r (r.size - (12 + 2 * length words)) (HoldsBegun r date words)) x c

-- after `begin_day` the string holds the new list
abbrev pub IsDayBegun : StringShape → (date : ℕ) → (words : List ℕ) → List ℕ → List ℕ → Type 0
IsDayBegun r date words x y = IsOfDays r (λ days. IsNext days date words) (HoldsBegun r date words) x y

-- what is kept after `begin_day` is what the image tells then
abbrev pub KnowsBegun : (v next : Held) → (date : ℕ) → (words : List ℕ) → List ℕ → List ℕ → Type 0
KnowsBegun v next date words x y = (days : List Day) → Knows v x days → IsNext days date words
    → Knows next y (fitting (v.shape.size - (12 + 2 * length words)) days ++ new_day days date words ∷ [])

-- so it is where a day has gone, or the new one is the first
abbrev pub ClearsBegun : Held → (date : ℕ) → (words : List ℕ) → List ℕ → List ℕ → Type 0
ClearsBegun v date words x y = (days : List Day) → Knows v x days → IsNext days date words
    → (fitting (v.shape.size - (12 + 2 * length words)) days ≢ days) ⊎ (days ≡ []) → IsCleared v.shape y

-- a string without a day begins again where it stood
abbrev pub BeginsAgain : Held → (date : ℕ) → (words : List ℕ) → List ℕ → List ℕ → Type 0
BeginsAgain v date words x y = Knows v x [] → IsNext [] date words
    → (oldest_pointer v.shape y ≡ oldest_pointer v.shape x) × (newest_pointer v.shape y ≡ oldest_pointer v.shape x)
