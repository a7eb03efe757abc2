-- How the writing of a plan goes on.
use Rattle.std.proofs.Common.{◌≡◌, inl, ⊎_elim, ℕ, zero, suc, ◌+◌, ◌≤◌, ◌<◌, Bool, true, false, List, [], ◌∷◌, ◌++◌, length, take, drop, map, get_or, length-append, refl, sym, ◌∙◌, ap, subst, arith}
use Rattle.std.proofs.lemmas.List.{take-append-drop, take_all, length-map}
use Rattle.std.proofs.lemmas.Bool.{cases_lt}
use Rattle.std.proofs.Math.Seq.{take-suc}
use Rattle.std.specs.List.{AllByRecursion}
use Rattle.tach_media.specs.Medium.{State, Writes, LeavesOnly, put, IsPartlyWritten}
use Rattle.tach_media.proofs.Runs.{no_writes, writes_as, writes_failed, weaken}
use Rattle.tach_media.specs.Plan.{Piece, Pieces, IsPlan, IsInside, IsPartway, PutsAll, AreShort, IsAfterSome}
use Rattle.tach_media.specs.Held.{piece_of}
use Rattle.tach_media.specs.declared.plan.Held.{Held}
use Rattle.tach_media.proofs.Plans.{partway_front, after_some, puts_then}

pub inside_more : {from end : ℕ} (ps : List Piece) (p : Piece) → AllByRecursion (IsInside from end) ps → IsInside from end p → AllByRecursion (IsInside from end) (ps ++ p ∷ [])
inside_more [] p all here = (here, tt)
inside_more (q ∷ ps) p all here = (all.0, inside_more ps p all.1 here)

pub inside_at : {from end : ℕ} (ps : List Piece) (k : ℕ) (d : Piece) → k < length ps → AllByRecursion (IsInside from end) ps → IsInside from end (get_or ps k d)
inside_at [] k d low all = absurd (omega arith)
inside_at (p ∷ ps) zero d low all = all.0
inside_at (p ∷ ps) (suc k) d low all = inside_at ps k d (omega (arith, low)) all.1

-- what is held at a place is the piece there
pub piece_at : {b : ℕ} (hs : List (Held b)) (k : ℕ) (h : Held b) → k < length hs → h ≡ get_or hs k h → get_or (map piece_of hs) k (piece_of h) ≡ piece_of h
piece_at [] k h low is = refl
piece_at (q ∷ hs) zero h low is = sym (ap piece_of is)
piece_at (q ∷ hs) (suc k) h low is = piece_at hs k h (omega (arith, low)) is

-- one write more
puts_more : {old mid new : State} {failed : Bool} (ps : List Piece) (p : Piece) → PutsAll old mid false ps → Writes mid new failed 1 1 (put p.place p.bytes) (IsPartlyWritten p.place p.bytes) → PutsAll old new failed (ps ++ p ∷ [])
puts_more ps p first next = puts_then ps (p ∷ []) first (writes_as next (omega arith) (omega arith) (λ x. refl) (λ x c was here. inl here))

pub puts_next : {old mid new : State} {failed : Bool} (ps : List Piece) (k : ℕ) (p : Piece) → k < length ps → get_or ps k p ≡ p → (k ≡ 0 → mid ≡ old) → (0 < k → PutsAll old mid false (take k ps))
    → Writes mid new failed 1 1 (put p.place p.bytes) (IsPartlyWritten p.place p.bytes) → PutsAll old new failed (take (k + 1) ps)
puts_next {old} {mid} {new} {failed} ps k p low is first before next = subst (PutsAll old new failed) (sym grown) (⊎_elim
    (λ some. puts_more (take k ps) p (before some) next)
    (λ none. let start : k ≡ 0 = omega (arith, none) in
    subst (λ (n : ℕ). PutsAll old new failed (take n ps ++ p ∷ [])) (sym start)
    (writes_as (subst (λ (s : State). Writes s new failed 1 1 (put p.place p.bytes) (IsPartlyWritten p.place p.bytes)) (first start) next) (omega arith) (omega arith) (λ x. refl) (λ x c was here. inl here)))
    (cases_lt 0 k))
  where
    grown : take (k + 1) ps ≡ take k ps ++ p ∷ []
    grown = let one : k + 1 ≡ suc k = omega arith in ap (λ (n : ℕ). take n ps) one ∙ take-suc ps k p low ∙ ap (λ (q : Piece). take k ps ++ q ∷ []) is

-- a write failed, and those behind it were not begun
pub puts_failed : {old new : State} (ps : List Piece) (k : ℕ) → PutsAll old new true (take k ps) → PutsAll old new true ps
puts_failed {old} {new} ps k run = subst (PutsAll old new true) (take-append-drop k ps)
    (writes_failed run (omega (arith, length-append (take k ps) (drop k ps))) (λ x c was here. partway_front (take k ps) (drop k ps) x c here))

pub puts_ended : {old mid : State} (ps : List Piece) (k : ℕ) → length ps ≤ k → (k ≡ 0 → mid ≡ old) → (length ps ≡ 0 → old.works ≡ true) → k ≤ length ps → (0 < k → PutsAll old mid false (take k ps)) → PutsAll old mid false ps
puts_ended {old} {mid} ps k high first works low run = ⊎_elim
    (λ some. subst (PutsAll old mid false) (take_all k ps high) (run some))
    (λ none. let start : k ≡ 0 = omega (arith, none) in empty ps (omega (arith, high, start)) start)
    (cases_lt 0 k)
  where
    empty : (qs : List Piece) → length qs ≡ 0 → k ≡ 0 → PutsAll old mid false qs
    empty [] is start = subst (λ (s : State). PutsAll old s false []) (sym (first start)) (writes_as (no_writes old (IsPartway []) (works (omega (arith, high, low, start)))) (omega arith) (omega arith) (λ x. refl) (λ x c was here. here))
    empty (q ∷ qs) is start = absurd (omega (arith, is))

pub puts_whole : {old new : State} {failed : Bool} (ps : List Piece) → PutsAll old new failed ps → AreShort ps → LeavesOnly old new (IsAfterSome ps)
puts_whole ps run short = weaken run.leaves (λ x c was here. after_some ps short x c here)

-- the piece of a turn of the loop
pub this_piece : {b : ℕ} (hs : List (Held b)) (k : ℕ) (h : Held b) (plan : Pieces) → map piece_of hs ≡ plan.pieces → IsPlan plan → k < length hs → h ≡ get_or hs k h
    → (k < length plan.pieces) × (get_or plan.pieces k (piece_of h) ≡ piece_of h) × IsInside plan.from plan.end (piece_of h)
this_piece hs k h plan is whole low here =
    let at : get_or plan.pieces k (piece_of h) ≡ piece_of h = subst (λ (ps : List Piece). get_or ps k (piece_of h) ≡ piece_of h) is (piece_at hs k h low here) in
    let below : k < length plan.pieces = omega (arith, low, ap length is, length-map hs piece_of) in
    (below, at, subst (IsInside plan.from plan.end) at (inside_at plan.pieces k (piece_of h) below whole))

-- what a run of writes keeps
pub still : {old mid : State} (k : ℕ) (ps : List Piece) → (k ≡ 0 → mid ≡ old) → (0 < k → PutsAll old mid false ps) → (mid.writable ≡ old.writable) × (mid.size ≡ old.size)
still {old} {mid} k ps first run = ⊎_elim
    (λ some. ((run some).leaves.writable, (run some).leaves.size))
    (λ none. let same = first (omega (arith, none)) in (ap (λ (s : State). s.writable) same, ap (λ (s : State). s.size) same))
    (cases_lt 0 k)
