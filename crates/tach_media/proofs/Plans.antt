-- Laws of plans.
use Rattle.std.proofs.Common.{◌≡◌, ◌⊎◌, inl, inr, ⊎_elim, ℕ, suc, ◌+◌, ◌≤◌, List, [], ◌∷◌, ◌++◌, length, refl, sym, ◌∙◌, ap, subst, arith, Bool, true, false, Option, Some, None, IfSome, option_map, length-append}
use Rattle.std.specs.List.{AllByRecursion}
use Rattle.tach_media.specs.Medium.{put, SameOutside, State, Reads}
use Rattle.tach_media.proofs.Images.{put_outside, outside_same, outside_wider, outside_then}
use Rattle.tach_media.specs.Plan.{Piece, put_all, IsPartway, IsInside, AreShort, IsAfterSome, PutsAll, PutsBy}
use Rattle.tach_media.proofs.Runs.{writes_then, writes_as, reads_writes, weaken}

-- one plan after another
pub put_all-append : (ps qs : List Piece) (x : List ℕ) → put_all (ps ++ qs) x ≡ put_all qs (put_all ps x)
put_all-append [] qs x = refl
put_all-append (p ∷ ps) qs x = put_all-append ps qs (put p.place p.bytes x)

pub partway_front : (ps qs : List Piece) (x c : List ℕ) → IsPartway ps x c → IsPartway (ps ++ qs) x c
partway_front [] qs x c none = absurd none
partway_front (p ∷ ps) qs x c (inl here) = inl here
partway_front (p ∷ ps) qs x c (inr there) = inr (partway_front ps qs (put p.place p.bytes x) c there)

pub partway_behind : (ps qs : List Piece) (x c : List ℕ) → IsPartway qs (put_all ps x) c → IsPartway (ps ++ qs) x c
partway_behind [] qs x c here = here
partway_behind (p ∷ ps) qs x c here = inr (partway_behind ps qs (put p.place p.bytes x) c here)

pub partway_either : (ps qs : List Piece) (x c : List ℕ) → IsPartway (ps ++ qs) x c → IsPartway ps x c ⊎ IsPartway qs (put_all ps x) c
partway_either [] qs x c here = inr here
partway_either (p ∷ ps) qs x c (inl here) = inl (inl here)
partway_either (p ∷ ps) qs x c (inr there) = ⊎_elim (λ front. inl (inr front)) inr (partway_either ps qs (put p.place p.bytes x) c there)

-- of short pieces each is written or not
pub after_some : (ps : List Piece) → AreShort ps → (x c : List ℕ) → IsPartway ps x c → IsAfterSome ps x c
after_some [] short x c none = absurd none
after_some (p ∷ ps) short x c (inl here) = ⊎_elim (λ absent. (0, omega arith, absent)) (λ whole. (1, omega arith, whole)) (here.whole short.0)
after_some (p ∷ ps) short x c (inr there) =
    let rest = after_some ps short.1 (put p.place p.bytes x) c there in
    (suc rest.0, omega (arith, rest.1), rest.2)

-- pieces change nothing outside the range that they lie in
pub puts_outside : (from len : ℕ) (ps : List Piece) → AllByRecursion (IsInside from (from + len)) ps → (x : List ℕ) → from + len ≤ length x → SameOutside from len x (put_all ps x)
puts_outside from len [] inside x fits = outside_same from len x
puts_outside from len (p ∷ ps) inside x fits =
    let bytes = p.bytes in
    let first : SameOutside from len x (put p.place bytes x) = outside_wider from len p.place (length bytes) x (put p.place bytes x) (put_outside p.place bytes x (omega (arith, inside.0.inside, fits))) inside.0.behind inside.0.inside in
    outside_then from len x (put p.place bytes x) (put_all ps (put p.place bytes x)) first (puts_outside from len ps inside.1 (put p.place bytes x) (omega (arith, fits, first.same_length)))

pub partway_outside : (from len : ℕ) (ps : List Piece) → AllByRecursion (IsInside from (from + len)) ps → (x c : List ℕ) → from + len ≤ length x → IsPartway ps x c → SameOutside from len x c
partway_outside from len [] inside x c fits none = absurd none
partway_outside from len (p ∷ ps) inside x c fits (inl here) = outside_wider from len p.place (length p.bytes) x c here.outside inside.0.behind inside.0.inside
partway_outside from len (p ∷ ps) inside x c fits (inr there) =
    let bytes = p.bytes in
    let first : SameOutside from len x (put p.place bytes x) = outside_wider from len p.place (length bytes) x (put p.place bytes x) (put_outside p.place bytes x (omega (arith, inside.0.inside, fits))) inside.0.behind inside.0.inside in
    outside_then from len x (put p.place bytes x) c first (partway_outside from len ps inside.1 (put p.place bytes x) c (omega (arith, fits, first.same_length)) there)

-- two plans, one after the other, are one
pub puts_then : {old mid new : State} {failed : Bool} (ps qs : List Piece) → PutsAll old mid false ps → PutsAll mid new failed qs → PutsAll old new failed (ps ++ qs)
puts_then {old} {mid} {new} {failed} ps qs first next =
    let both = writes_then (IsPartway (ps ++ qs)) first next (λ x c was here. partway_front ps qs x c here) (λ x c was here. partway_behind ps qs x c here) in
    let sum : length (ps ++ qs) ≡ length ps + length qs = length-append ps qs in
    writes_as both (omega (arith, sum)) (omega (arith, sum)) (λ x. sym (put_all-append ps qs x)) (λ x c was here. here)

-- the plan is that of the image, where it is told
pub puts_as : {old new : State} {failed : Bool} {least most : ℕ} (ps : List Piece) (plan : List ℕ → List Piece) → IfSome old.image (λ x. plan x ≡ ps) → PutsAll old new failed ps
    → least ≤ length ps → length ps ≤ most → PutsBy old new failed least most plan
puts_as {old} {new} {failed} {least} {most} ps plan told run low high = record {
  written = λ fine. run.written fine ∙ named old.image told;
  leaves = weaken run.leaves (λ x c was here. subst (λ (qs : List Piece). IsPartway qs x c) (sym (at x was)) here);
  settled = run.settled;
  begun = λ fine. omega (arith, low, run.begun fine);
  clock = omega (arith, high, run.clock);
  cause = run.cause;
}
  where
    at : (x : List ℕ) → old.image ≡ Some x → plan x ≡ ps
    at x was = subst (λ (o : Option (List ℕ)). IfSome o (λ x. plan x ≡ ps)) was told

    named : (o : Option (List ℕ)) → IfSome o (λ x. plan x ≡ ps) → option_map (put_all ps) o ≡ option_map (λ x. put_all (plan x) x) o
    named None is = refl
    named (Some x) is = ap (λ (qs : List Piece). Some (put_all qs x)) (sym is)

-- reads, the plan that they tell, and its writes
pub puts_by : {old mid new : State} {failed : Bool} {least most : ℕ} (ps : List Piece) (plan : List ℕ → List Piece) → Reads old mid false → IfSome old.image (λ x. plan x ≡ ps) → PutsAll mid new failed ps
    → least ≤ length ps → length ps ≤ most → PutsBy old new failed least most plan
puts_by ps plan first told next low high = puts_as ps plan told (reads_writes first next) low high

-- one such call and then another: the second plan is that of the image that the first leaves
pub puts_by_then : {old mid new : State} {failed : Bool} {l m l' m' : ℕ} (first next : List ℕ → List Piece) → PutsBy old mid false l m first → PutsBy mid new failed l' m' next
    → PutsBy old new failed (l + l') (m + m') (λ x. first x ++ next (put_all (first x) x))
puts_by_then first next run then =
    let both = writes_then (λ x c. IsPartway (first x ++ next (put_all (first x) x)) x c) run then
    (λ x c was here. partway_front (first x) (next (put_all (first x) x)) x c here)
    (λ x c was here. partway_behind (first x) (next (put_all (first x) x)) x c here) in
    writes_as both (omega arith) (omega arith) (λ x. sym (put_all-append (first x) (next (put_all (first x) x)) x)) (λ x c was here. here)

-- a read that failed before the writes
pub puts_by_unread : {old new : State} (l m : ℕ) (plan : List ℕ → List Piece) → Reads old new true → PutsBy old new true l m plan
puts_by_unread l m plan reads = record {
  written = λ fine. absurd (cc);
  leaves = weaken reads.leaves (λ x c was none. absurd none);
  settled = λ fine. absurd (cc);
  begun = λ fine. absurd (cc);
  clock = omega (arith, reads.clock);
  cause = reads.cause;
}
