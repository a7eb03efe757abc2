-- What the single writes of an entry leave, one after the other.
use Rattle.std.specs.Prelude.{◌≡◌, ◌⊎◌, ℕ, ◌+◌, List, drop, take, replicate, if◌then◌else◌, ◌==◌}
use Rattle.tach_media.specs.Medium.{bytes_at, put, SameOutside, IsPartlyWritten}
use Rattle.gated_ring.specs.Ring.{Shape, place_of, gate_of, is_there, gate_bytes}
use Rattle.gated_ring.specs.Plans.{pointer_bytes}

-- the gate at 0 where it was not
abbrev pub freed : Shape → ℕ → List ℕ → List ℕ
freed r i x = if is_there r x i then put (gate_of r i) (replicate 4 0) x else x

-- then the bytes before the gate, and those behind it
abbrev pub with_body : Shape → ℕ → List ℕ → List ℕ → List ℕ
with_body r i head x = put (gate_of r i + 4) (drop (r.gate + 4) head) (put (place_of r i) (take r.gate head) x)

-- then the pointer where it differs
abbrev pub pointed : Shape → ℕ → ℕ → List ℕ → List ℕ
pointed r last i x = if last == i then x else put r.base (pointer_bytes r i) x

-- and the gate last
abbrev pub opened : Shape → ℕ → List ℕ → List ℕ → List ℕ
opened r i head x = put (gate_of r i) (gate_bytes r head) x

abbrev pub replaced : Shape → ℕ → List ℕ → List ℕ → List ℕ
replaced r i head x = opened r i head (with_body r i head (freed r i x))

abbrev pub placed : Shape → ℕ → ℕ → List ℕ → List ℕ → List ℕ
placed r last i head x = opened r i head (pointed r last i (with_body r i head (freed r i x)))

-- the bytes of an entry beside its gate may have changed
pub record IsFilling (r : Shape) (i : ℕ) (x c : List ℕ) : Type 0 where
  pub outside : SameOutside (place_of r i) r.width x c
  pub gate : bytes_at c (gate_of r i) 4 ≡ bytes_at x (gate_of r i) 4

-- a moment of these writes: of the gate that is shut, of the bytes beside it, of the gate that is opened
abbrev pub IsReplacing : Shape → ℕ → List ℕ → List ℕ → List ℕ → Type 0
IsReplacing r i head x c =
    IsPartlyWritten (gate_of r i) (replicate 4 0) x c
    ⊎ (IsFilling r i (freed r i x) c
    ⊎ IsPartlyWritten (gate_of r i) (gate_bytes r head) (with_body r i head (freed r i x)) c)

-- with the pointer, which is moved before the gate is opened
abbrev pub IsPlacing : Shape → ℕ → ℕ → List ℕ → List ℕ → List ℕ → Type 0
IsPlacing r last i head x c =
    IsPartlyWritten (gate_of r i) (replicate 4 0) x c
    ⊎ (IsFilling r i (freed r i x) c
    ⊎ (IsPartlyWritten r.base (pointer_bytes r i) (with_body r i head (freed r i x)) c
    ⊎ IsPartlyWritten (gate_of r i) (gate_bytes r head) (pointed r last i (with_body r i head (freed r i x))) c))
