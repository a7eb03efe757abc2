-- What a medium tells of itself, and what its calls do to that.
use Rattle.std.specs.Prelude.{◌≡◌, ◌⊎◌, ℕ, ◌+◌, ◌≤◌, ◌<◌, ◌^◌, ◌-◌, ◌/◌, min, max, ◌&&◌, if◌then◌else◌, Bool, true}
use Rattle.std.specs.Prelude.{false, not, List, [], ◌∷◌, length, Option, Some, is_some, option_map, IfSome}
use Rattle.std.specs.Prelude.{Result, OnOk, is_err}
use Rattle.std.specs.Borrow.{GName}
pub use Rattle.card_layout.specs.Images.{bytes_at, put, SameOutside}
use Rattle.card_layout.specs.Fields.{IsBytes}
pub use Rattle.card_layout.specs.Layers.{Layer, Reference, Commands}

-- A medium as far as it tells. One that doesn't tell its image tells of no image that a stop may leave.
pub record State : Type 1 where
  pub size : ℕ
  -- how many bytes its images have behind those that it reaches
  pub behind : ℕ
  -- the ranges that may be written, each by its place and its length
  pub writable : List (ℕ × ℕ)
  -- the image that a read gives
  pub image : Option (List ℕ)
  -- a stop may leave this image now
  pub may_leave : List ℕ → Type 0
  -- a stop might have left this image at a moment after that many writes had ended
  pub left_since : ℕ → List ℕ → Type 0
  -- how many writes were begun
  pub clock : ℕ
  -- no call has failed since the last `revive`
  pub works : Bool
  pub faults : ℕ
  pub breakdowns : ℕ
  -- it tells that it had broken down so often while that many writes were begun, and no more
  pub broke : ℕ → ℕ → Type 0
  -- through what it is reached, the outermost first
  pub layers : List Layer

-- What joins these meanings, at every moment.
pub record IsCoherent (s : State) : Type 0 where
  pub sized : (x : List ℕ) → s.image ≡ Some x → length x ≡ s.size + s.behind
  pub left_sized : (c : List ℕ) → s.may_leave c → length c ≡ s.size + s.behind
  -- the image is one that a stop may leave, and the only one while the medium works
  pub is_left : (x : List ℕ) → s.image ≡ Some x → s.may_leave x
  pub only : (x : List ℕ) → s.works ≡ true → s.may_leave x → s.image ≡ Some x
  -- this moment is one of those since an earlier one
  pub counts_now : (t : ℕ) (x : List ℕ) → t ≤ s.clock → s.may_leave x → s.left_since t x
  pub earlier : (t u : ℕ) (x : List ℕ) → t ≤ u → u ≤ s.clock → s.left_since u x → s.left_since t x
  -- it never tells of more breakdowns than there were
  pub broken : (t n : ℕ) → s.broke t n → n ≤ s.breakdowns

-- each image that it tells, and each that a stop may leave or might have left, is of bytes
pub record HoldsBytes (s : State) : Type 0 where
  pub told : (x : List ℕ) → s.image ≡ Some x → IsBytes x
  pub now : (c : List ℕ) → s.may_leave c → IsBytes c
  pub since : (t : ℕ) (c : List ℕ) → s.left_since t c → IsBytes c

-- the last value of a count
abbrev pub last_count : ℕ
last_count = 2 ^ 64 - 1

-- a count has risen, or stands at its last value
abbrev pub Rose : ℕ → ℕ → Type 0
Rose before now = min (before + 1) last_count ≤ now

-- how many writes a call begins at most that writes so many bytes: a card takes 255 at once
abbrev pub most_writes : ℕ → ℕ
most_writes len = max 1 ((len + 254) / 255)

-- the range lies inside one of these
abbrev pub LiesInside : List (ℕ × ℕ) → ℕ → ℕ → Type 0
LiesInside [] place len = ⊥
LiesInside (range ∷ ranges) place len = ((range.0 ≤ place) × (place + len ≤ range.0 + range.1))
    ⊎ LiesInside ranges place len

-- A write of these bytes that is cut short: of at most four all are written or none, of more there may be any bytes in
-- the range.
pub record IsPartlyWritten (place : ℕ) (bytes old new : List ℕ) : Type 0 where
  pub outside : SameOutside place (length bytes) old new
  pub whole : length bytes ≤ 4 → (new ≡ old) ⊎ (new ≡ put place bytes old)

-- nothing is left but what was left before
abbrev pub Unchanged : List ℕ → List ℕ → Type 0
Unchanged old new = ⊥

-- What a run of calls does. Where the image is told, a stop at a moment of the run leaves an image that is so related
-- to the one before the run, and at no earlier moment another than was told before.
pub record LeavesOnly (old new : State) (R : List ℕ → List ℕ → Type 0) : Type 0 where
  pub size : new.size ≡ old.size
  pub behind : new.behind ≡ old.behind
  pub writable : new.writable ≡ old.writable
  pub layers : new.layers ≡ old.layers
  pub tells : is_some new.image ≡ is_some old.image
  pub later : old.clock ≤ new.clock
  pub since : (t : ℕ) (c : List ℕ) → t ≤ old.clock → new.left_since t c
      → old.left_since t c ⊎ ((x : List ℕ) × (old.image ≡ Some x) × R x c)
  pub now : (c : List ℕ) → new.may_leave c → old.may_leave c ⊎ ((x : List ℕ) × (old.image ≡ Some x) × R x c)
  -- what might have been left before might still
  pub keeps : (t : ℕ) (c : List ℕ) → t ≤ old.clock → old.left_since t c → new.left_since t c

-- since its last write, a stop leaves the image alone
abbrev pub IsSettled : State → Type 0
IsSettled s = (c : List ℕ) → s.left_since s.clock c → s.image ≡ Some c

-- WHAT IT TELLS OF EARLIER BREAKDOWNS STAYS: its clock doesn't go back, and how often it had broken down while fewer
-- writes were begun than before it tells as it told it.
pub record KeepsBroken (old new : State) : Type 0 where
  pub later : old.clock ≤ new.clock
  pub told : (t n : ℕ) → t < old.clock → new.broke t n → old.broke t n

-- What an answer says of the medium and its counts. `failed` is whether it is `Failed`.
pub record HasCause (old new : State) (failed : Bool) : Type 0 where
  pub works : new.works ≡ not failed
  pub broken : old.works ≡ false → failed ≡ true
  pub faults : old.faults ≤ new.faults
  pub fault : failed ≡ true → Rose old.faults new.faults
  pub breakdowns : old.breakdowns ≤ new.breakdowns
  -- a failure breaks what works; no other call is a breakdown
  pub breaks : old.works ≡ true → failed ≡ true → Rose old.breakdowns new.breakdowns
  pub unbroken : failed ≡ false → new.breakdowns ≡ old.breakdowns
  pub already : old.works ≡ false → new.breakdowns ≡ old.breakdowns
  -- and it is no more than one, until that count stands at its last value
  pub once : new.breakdowns < last_count → new.breakdowns ≤ old.breakdowns + 1
  pub tells : KeepsBroken old new

-- Over calls, however they ended, and calls of `revive`: so many of them at least broke the medium, or that count
-- stands at its last value.
pub record HasBroken (old new : State) (times : ℕ) : Type 0 where
  pub faults : old.faults ≤ new.faults
  pub breakdowns : min (old.breakdowns + times) last_count ≤ new.breakdowns

-- And no more than so many, as long as that count stands below its last value.
abbrev pub HasBrokenAtMost : (old new : State) → ℕ → Type 0
HasBrokenAtMost old new times = new.breakdowns < last_count → new.breakdowns ≤ old.breakdowns + times

-- a call breaks what works where it fails
abbrev pub broken_by : (works failed : Bool) → ℕ
broken_by works failed = if works && failed then 1 else 0

-- What a call does that only reads.
pub record Reads (old new : State) (failed : Bool) : Type 0 where
  pub same : failed ≡ false → new.image ≡ old.image
  pub leaves : LeavesOnly old new Unchanged
  pub clock : new.clock ≡ old.clock
  pub cause : HasCause old new failed

-- Where a write was made, or the medium was settled before, it is settled.
abbrev pub StaysSettled : (old new : State) → Type 0
StaysSettled old new = (old.clock < new.clock) ⊎ IsSettled old → new.clock < last_count → IsSettled new

-- What a call does that writes: after Ok the image is turned by f, and a stop at a moment of the call leaves an image
-- that is so related to the one before. It begins so many writes at least, after Ok, and at most.
pub record Writes (old new : State) (failed : Bool) (least most : ℕ) (f : List ℕ → List ℕ)
    (R : List ℕ → List ℕ → Type 0) : Type 0 where
  pub written : failed ≡ false → new.image ≡ option_map f old.image
  pub leaves : LeavesOnly old new R
  pub settled : failed ≡ false → StaysSettled old new
  pub begun : failed ≡ false → min (old.clock + least) last_count ≤ new.clock
  pub clock : new.clock ≤ old.clock + most
  pub cause : HasCause old new failed

-- WHAT A CALL DOES that alters the image: after Ok the image is so related (S) to the one before, and a stop leaves
-- that image and no other; a stop at a moment of the call leaves an image that is so related (R) to the one before. It
-- failed exactly where that was answered, and began so many writes at most.
pub record Alters {T E : Type 0} (result : Result T E) (old new : State) (most_begun : ℕ)
    (S R : List ℕ → List ℕ → Type 0) : Type 0 where
  pub done : OnOk result (IfSome old.image (λ x. IfSome new.image (S x)))
  pub moments : LeavesOnly old new R
  pub settled : OnOk result (new.clock < last_count → IsSettled new)
  pub cause : HasCause old new (is_err result)
  pub most : new.clock ≤ old.clock + most_begun

-- a medium reached through a reference
abbrev pub lent : GName → State → State
lent name s = record s { layers = Reference name ∷ s.layers }

-- a coherent medium is coherent through a reference too
pub lent_coherent : (name : GName) (s : State) → IsCoherent s → IsCoherent (lent name s)
lent_coherent name s whole = record {
  sized = whole.sized;
  left_sized = whole.left_sized;
  is_left = whole.is_left;
  only = whole.only;
  counts_now = whole.counts_now;
  earlier = whole.earlier;
  broken = whole.broken;
}

-- as if the medium worked: a `revive` that fails is a breakdown too
abbrev pub revivable : State → State
revivable s = record s { works = true }

-- a new medium in memory, with this image and no fault
pub record IsNew (bytes : List ℕ) (s : State) : Type 0 where
  pub size : s.size ≡ length bytes
  pub behind : s.behind ≡ 0
  pub writable : LiesInside s.writable 0 (length bytes)
  pub image : s.image ≡ Some bytes
  pub works : s.works ≡ true
  pub clock : s.clock ≡ 0
  pub settled : IsSettled s
  pub faults : s.faults ≡ 0
  pub breakdowns : s.breakdowns ≡ 0

-- a medium of this size on which no call was made, and of which all may be written
pub record IsUntouched (size : ℕ) (s : State) : Type 0 where
  pub sized : s.size ≡ size
  pub behind : s.behind ≡ 0
  pub writable : LiesInside s.writable 0 size
  pub clock : s.clock ≡ 0
  pub faults : s.faults ≡ 0
  pub breakdowns : s.breakdowns ≡ 0
