-- A device that a stop may cut off, seen by what its images show (profile).
use Rattle.std.specs.Prelude.{◌≡◌, ◌⊎◌, ℕ, ◌≤◌, Bool, true, List}
use Rattle.tach_media.specs.Medium.{State}

-- the views of what a stop may leave now, and of what it might have left since a clock
pub record Seen (V : Type 0) : Type 1 where
  pub may_leave : V → Type 0
  pub left_since : ℕ → V → Type 0
  pub clock : ℕ
  pub works : Bool

-- a device of bytes, each image by what it shows
abbrev pub seen : {V : Type 0} → (List ℕ → V) → State → Seen V
seen {V} view s = record {
  may_leave = λ v. (x : List ℕ) × s.may_leave x × (view x ≡ v);
  left_since = λ t v. (x : List ℕ) × s.left_since t x × (view x ≡ v);
  clock = s.clock;
  works = s.works;
}

-- what joins these meanings: a device that works leaves one view only, and this moment is one of those since an earlier
-- one
pub record CoherentViews {V : Type 0} (s : Seen V) : Type 0 where
  pub one : (v w : V) → s.works ≡ true → s.may_leave v → s.may_leave w → v ≡ w
  pub counts_now : (t : ℕ) (v : V) → t ≤ s.clock → s.may_leave v → s.left_since t v
  pub earlier : (t u : ℕ) (v : V) → t ≤ u → u ≤ s.clock → s.left_since u v → s.left_since t v

-- a stop in the run leaves a view so related to one from before it, or one that it might have left before
pub record LeavesViews {V : Type 0} (old new : Seen V) (R : V → V → Type 0) : Type 0 where
  pub later : old.clock ≤ new.clock
  pub since : (t : ℕ) (w : V) → t ≤ old.clock → new.left_since t w
      → old.left_since t w ⊎ ((v : V) × old.may_leave v × R v w)
  pub now : (w : V) → new.may_leave w → old.may_leave w ⊎ ((v : V) × old.may_leave v × R v w)

-- the run has ended well: what the device leaves now is so related to a view from before
pub record EndsWith {V : Type 0} (old new : Seen V) (R : V → V → Type 0) : Type 0 where
  pub works : new.works ≡ true
  pub now : (w : V) → new.may_leave w → (v : V) × old.may_leave v × R v w

-- calls that only read leave no other view
abbrev pub Nothing : {V : Type 0} → V → V → Type 0
Nothing v w = ⊥

-- since its last write a stop leaves no view but such that it may leave now
abbrev pub SettledViews : {V : Type 0} → Seen V → Type 0
SettledViews {V} s = (v : V) → s.left_since s.clock v → s.may_leave v

-- the device was not written: every view that it might have left since a clock is this one
abbrev pub IsFresh : {V : Type 0} → (began : ℕ) → V → Seen V → Type 0
IsFresh {V} began start s = (v : V) → s.left_since began v → v ≡ start
