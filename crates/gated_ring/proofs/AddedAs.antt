-- An entry that is added, said of the shape and of the bytes by other names.
use Rattle.std.proofs.Common.{◌≡◌, ℕ, List, subst}
use Rattle.std.specs.Prelude.{Result}
use Rattle.tach_media.specs.Medium.{State, Alters}
use Rattle.gated_ring.specs.Ring.{Shape}
use Rattle.gated_ring.specs.Change.{IsAdded, IsAdding}

pub added_as : {T E : Type 0} {r : Result T E} {old new : State} {n : ℕ} {s t : Shape} {h k : List ℕ} → s ≡ t → h ≡ k → Alters r old new n (IsAdded s h) (IsAdding s h) → Alters r old new n (IsAdded t k) (IsAdding t k)
added_as {T} {E} {r} {old} {new} {n} {s} {t} {h} {k} shape head does =
    subst (λ (l : List ℕ). Alters r old new n (IsAdded t l) (IsAdding t l)) head (subst (λ (q : Shape). Alters r old new n (IsAdded q h) (IsAdding q h)) shape does)
