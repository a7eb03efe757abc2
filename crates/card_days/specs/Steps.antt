-- What the steps of a write on the string do.
use Rattle.std.specs.Prelude.{◌≡◌, ◌⊎◌, false, ℕ, ◌+◌, ◌-◌, ◌<◌, ◌≤◌, ◌≢◌, List, [], ◌∷◌, length, take, drop, nat_le}
use Rattle.std.specs.Prelude.{◌==◌, if◌then◌else◌}
use Rattle.tach_media.specs.Medium.{State, Reads, LeavesOnly, Unchanged, put, SameOutside, IsPartlyWritten, IsSettled}
use Rattle.tach_media.specs.Medium.{last_count, KeepsBroken}
use Rattle.card_model.specs.Bytes.{two_bytes}
use Rattle.card_model.specs.Days.{Day, total}
use Rattle.card_model.specs.Changes.{with_newest, with_km}
use Rattle.card_days.specs.Held.{Held, Knows}
use Rattle.card_model.specs.Image.{StringShape, HoldsDays, at, oldest_pointer, spot}

-- the days without the oldest where they do not fit
abbrev pub roomier : ℕ → List Day → List Day
roomier room [] = []
roomier room (d ∷ ds) = if nat_le (total (d ∷ ds)) room then d ∷ ds else ds

-- the image with bytes on the string, round its end
abbrev pub put_round : StringShape → ℕ → List ℕ → List ℕ → List ℕ
put_round r p bytes x = if nat_le (length bytes) (r.size - p) then put (at r p) bytes x
    else put (at r 0) (drop (r.size - p) bytes) (put (at r p) (take (r.size - p) bytes) x)

-- a moment at which bytes are written on the string, round its end: by one write, or by two
abbrev pub IsRounding : StringShape → ℕ → List ℕ → List ℕ → List ℕ → Type 0
IsRounding r p bytes x c =
    ((length bytes ≤ r.size - p) × IsPartlyWritten (at r p) bytes x c)
    ⊎ ((r.size - p < length bytes)
    × (IsPartlyWritten (at r p) (take (r.size - p) bytes) x c
    ⊎ IsPartlyWritten (at r 0) (drop (r.size - p) bytes) (put (at r p) (take (r.size - p) bytes) x) c))

-- the image with the newest pointer at a place
abbrev pub newest_pointed : StringShape → ℕ → ℕ → List ℕ → List ℕ
newest_pointed r n p x = if n == p then x else put (r.base + 2) (two_bytes p) x

-- a moment at which the newest pointer is written, where it differs
abbrev pub IsPointing : StringShape → ℕ → ℕ → List ℕ → List ℕ → Type 0
IsPointing r n p x c = (n ≢ p) × IsPartlyWritten (r.base + 2) (two_bytes p) x c

-- A NEW DAY: the image after the first of its writes, the length of the day before it
abbrev pub preceded : StringShape → ℕ → ℕ → List ℕ → List ℕ
preceded r p len x = put (at r p) (two_bytes len) x

-- after the second, its body
abbrev pub day_filled : StringShape → ℕ → ℕ → List ℕ → List ℕ → List ℕ
day_filled r p len bytes x = put_round r (spot r.size p 4) bytes (preceded r p len x)

-- after the third, its own length
abbrev pub measured : StringShape → ℕ → ℕ → List ℕ → List ℕ → List ℕ
measured r p len bytes x = put (at r (spot r.size p 2)) (two_bytes (4 + length bytes)) (day_filled r p len bytes x)

-- after the last, the newest pointer
abbrev pub begun : StringShape → ℕ → ℕ → ℕ → List ℕ → List ℕ → List ℕ
begun r n p len bytes x = newest_pointed r n p (measured r p len bytes x)

-- a moment of one of these four writes
abbrev pub IsBeginStep : StringShape → ℕ → ℕ → ℕ → List ℕ → List ℕ → List ℕ → Type 0
IsBeginStep r n p len bytes x c =
    IsPartlyWritten (at r p) (two_bytes len) x c
    ⊎ (IsRounding r (spot r.size p 4) bytes (preceded r p len x) c
    ⊎ (IsPartlyWritten (at r (spot r.size p 2)) (two_bytes (4 + length bytes)) (day_filled r p len bytes x) c
    ⊎ IsPointing r n p (measured r p len bytes x) c))

-- the days are the same
pub record SameDays (r : StringShape) (x c : List ℕ) : Type 0 where
  pub outside : SameOutside r.base (4 + r.size) x c
  pub list : (days : List Day) → HoldsDays r x days → HoldsDays r c days

-- the oldest of these days has no length before it, and all else is as before; without a day nothing has changed
abbrev pub IsDropMended : StringShape → List Day → List ℕ → List ℕ → Type 0
IsDropMended r [] x y = y ≡ x
IsDropMended r (d ∷ ds) x y = y ≡ put (at r (oldest_pointer r x)) (two_bytes 0) x

-- the newest day, which there is, has another distance
pub record IsMeasured (r : StringShape) (km : ℕ) (x y : List ℕ) : Type 0 where
  pub outside : SameOutside r.base (4 + r.size) x y
  pub list : (days : List Day) → HoldsDays r x days → days ≢ [] → HoldsDays r y (with_newest (with_km km) days)

-- a moment at which the distance is written: the days are the old ones, or have it
pub record IsMeasuring (r : StringShape) (km : ℕ) (x c : List ℕ) : Type 0 where
  pub outside : SameOutside r.base (4 + r.size) x c
  pub list : (days : List Day) → HoldsDays r x days → days ≢ []
      → HoldsDays r c days ⊎ HoldsDays r c (with_newest (with_km km) days)

-- what is kept then is what the image tells then
abbrev pub KnowsMeasured : (v next : Held) → ℕ → List ℕ → List ℕ → Type 0
KnowsMeasured v next km x y = (days : List Day) → Knows v x days → days ≢ []
    → Knows next y (with_newest (with_km km) days)

-- a call that writes, or leaves the medium as it was
abbrev pub SettlesIfSettled : State → State → Type 0
SettlesIfSettled old new = (old.clock < last_count → IsSettled old) → new.clock < last_count → IsSettled new

-- no call was made
pub record IsIdle (old new : State) : Type 0 where
  pub image : new.image ≡ old.image
  pub leaves : LeavesOnly old new Unchanged
  pub clock : new.clock ≡ old.clock
  pub works : new.works ≡ old.works
  pub faults : new.faults ≡ old.faults
  pub breakdowns : new.breakdowns ≡ old.breakdowns
  pub tells : KeepsBroken old new

-- a call that reads, or makes no call
abbrev pub Looks : (old new : State) → Type 0
Looks old new = Reads old new false ⊎ IsIdle old new
