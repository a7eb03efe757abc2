-- An entry that is added behind one that is known to be there at the pointer.
use Rattle.std.proofs.Common.{◌≡◌, ◌∙◌, ℕ, ◌<◌, Bool, true, cond, List, sym, ap, subst}
use Rattle.gated_ring.specs.Ring.{Shape, PointsInside, IsAtPointer, is_there, next, taken}
use Rattle.gated_ring.specs.Change.{IsAdded}

module _ (r : Shape) (last : ℕ) (x : List ℕ) where
  pub behind-points : last < r.count → IsAtPointer r last x → PointsInside r x
  behind-points below known = subst (λ (n : ℕ). n < r.count) (sym known.pointer_is) below

  pub behind-taken : IsAtPointer r last x → taken r x ≡ next r last
  behind-taken known = ap (λ (n : ℕ). cond (is_there r x n) (next r n) n) known.pointer_is ∙ ap (λ (b : Bool). cond b (next r last) last) known.there

-- the new entry is there at the pointer
pub added-at : (r : Shape) (head : List ℕ) (index : ℕ) (x y : List ℕ) → PointsInside r x → index ≡ taken r x → IsAdded r head x y → IsAtPointer r index y
added-at r head index x y points same added =
    let list = added.list points in
    record { pointer_is = list.pointer_is ∙ sym same; there = subst (λ (i : ℕ). is_there r y i ≡ true) (sym same) list.there }

pub behind-at : (r : Shape) (head : List ℕ) (last index : ℕ) (x y : List ℕ) → PointsInside r x → index ≡ next r last → IsAtPointer r last x → IsAdded r head x y → IsAtPointer r index y
behind-at r head last index x y points is known added = added-at r head index x y points (is ∙ sym (behind-taken r last x known)) added
