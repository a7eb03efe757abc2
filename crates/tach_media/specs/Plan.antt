-- Writes that are known before the first of them, and what a stop leaves of them.
use Rattle.std.specs.Prelude.{◌≡◌, ◌⊎◌, ℕ, ◌+◌, ◌≤◌, ◌<◌, Bool, List, [], ◌∷◌, ◌++◌, length, take}
use Rattle.std.specs.List.{AllByRecursion}
use Rattle.tach_media.specs.Medium.{State, Writes, put, IsPartlyWritten}

-- a write of these bytes at this place
pub record Piece : Type 0 where
  pub place : ℕ
  pub bytes : List ℕ

-- the write of these bytes at this place
abbrev pub piece : ℕ → List ℕ → Piece
piece place bytes = record { place = place; bytes = bytes }

-- writes in their order, all of them from a place on and before another
pub record Pieces : Type 0 where
  pub from : ℕ
  pub end : ℕ
  pub pieces : List Piece

-- more writes behind these
abbrev pub more : Pieces → List Piece → Pieces
more plan ps = record { from = plan.from; end = plan.end; pieces = plan.pieces ++ ps }

-- no write yet
abbrev pub none : (from end : ℕ) → Pieces
none from end = record { from = from; end = end; pieces = [] }

-- each has a byte, no more than are written at once, and lies there
pub record IsInside (from end : ℕ) (p : Piece) : Type 0 where
  pub some : 0 < length p.bytes
  pub short : length p.bytes ≤ 255
  pub behind : from ≤ p.place
  pub inside : p.place + length p.bytes ≤ end

-- each write of a plan is such
abbrev pub IsPlan : Pieces → Type 0
IsPlan plan = AllByRecursion (IsInside plan.from plan.end) plan.pieces

-- the image after these writes
abbrev pub put_all : List Piece → List ℕ → List ℕ
put_all [] x = x
put_all (p ∷ ps) x = put_all ps (put p.place p.bytes x)

-- one of these writes is cut short: those before it are done, and those behind it aren't begun
abbrev pub IsPartway : List Piece → List ℕ → List ℕ → Type 0
IsPartway [] x c = ⊥
IsPartway (p ∷ ps) x c = IsPartlyWritten p.place p.bytes x c ⊎ IsPartway ps (put p.place p.bytes x) c

-- What a call does that makes these writes.
abbrev pub PutsAll : (old new : State) → Bool → List Piece → Type 0
PutsAll old new failed ps = Writes old new failed (length ps) (length ps) (put_all ps) (IsPartway ps)

-- The same where the writes depend on the image, which was read before.
abbrev pub PutsBy : (old new : State) → Bool → (least most : ℕ) → (List ℕ → List Piece) → Type 0
PutsBy old new failed least most plan = Writes old new failed least most (λ x. put_all (plan x) x)
    (λ x c. IsPartway (plan x) x c)

-- none has more than four bytes
abbrev pub AreShort : List Piece → Type 0
AreShort ps = AllByRecursion (λ p. length p.bytes ≤ 4) ps

-- the first few writes are done, and the others aren't begun
abbrev pub IsAfterSome : List Piece → List ℕ → List ℕ → Type 0
IsAfterSome ps x c = (k : ℕ) × (k ≤ length ps) × (c ≡ put_all (take k ps) x)
