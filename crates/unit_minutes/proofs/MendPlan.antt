-- What the writes of a `mend` leave, on the way and in the end.
use Rattle.std.proofs.Common.{◌≡◌, ◌⊎◌, inl, inr, ⊎_elim, ℕ, zero, suc, ◌+◌, ◌<◌, ◌≤◌, Bool, true, false, cond, List, [], ◌∷◌, ◌++◌, length, replicate, Option, Some, None, IfSome, option_map, append_assoc, refl, sym, ◌∙◌, ap, subst, arith, add-one, lit≤}
use Rattle.std.specs.Prelude.{◌==◌, nat_lt}
use Rattle.std.specs.Int.{to_be_bytes, w16}
use Rattle.std.proofs.lemmas.Bool.Decides.{nat_tests}
use Rattle.tach_media.specs.Medium.{State, Reads, put}
use Rattle.tach_media.proofs.Runs.{at_image, if_told}
use Rattle.tach_media.specs.Plan.{Piece, Pieces, piece, more, none, put_all, IsPartway, PutsAll, PutsBy}
use Rattle.tach_media.proofs.Plans.{put_all-append, partway_either, puts_by}
use Rattle.unit_model.specs.declared.layout.TheConstants.{DAY_COUNT, IMAGE_SIZE}
use Rattle.unit_model.specs.Decoding.{cell_place, cell_minute}
use Rattle.unit_model.specs.Image.{slot_place}
use Rattle.unit_model.specs.Writing.{with_count}
use Rattle.unit_model.specs.Cells.{cells_emptied, IsEmptyingAll}
use Rattle.unit_model.proofs.Emptying.{cells_none, cells_more as emptied_more, emptied}
use Rattle.unit_minutes.specs.Image.{Notes}
use Rattle.unit_minutes.specs.Mends.{HasNothingLater, shut, cut_to, mended, emptied_at, late_cells, gate_shut, count_cut, mending}

pub no_cells : (kept : ℕ) (x : List ℕ) → late_cells kept 0 x ≡ []
unfolding late_cells
no_cells kept x = refl

pub cells_more : (kept n : ℕ) (x : List ℕ) → late_cells kept (n + 1) x ≡ late_cells kept n x ++ emptied_at (cell_place n) kept (cell_minute x n)
unfolding late_cells
cells_more kept n x = ap (λ (m : ℕ). late_cells kept m x) (add-one n)

-- where none is later there is nothing to write
cells_low : (kept : ℕ) (x : List ℕ) → ((m : ℕ) → m < 32 → cell_minute x m ≤ kept) → (n : ℕ) → n ≤ 32 → late_cells kept n x ≡ []
unfolding late_cells
cells_low kept x low zero le = refl
cells_low kept x low (suc n) le = λ t. cells_low kept x low n (omega (arith, le)) t ++ cond {A = List Piece} (not_late (cell_minute x n) (low n (omega (arith, le))) t) (piece (cell_place n) (replicate 4 0) ∷ []) []
  where
    not_late : (m : ℕ) → m ≤ kept → nat_lt kept m ≡ false
    not_late m is = grind (arith, nat_tests)

-- the cells' writes are those of `cells_emptied`
module _ (kept : ℕ) (x : List ℕ) (sized : length x ≡ IMAGE_SIZE) where
  abbrev at : ℕ → List ℕ
  at n = cells_emptied kept n x

  same_minute : (n : ℕ) → n ≤ 32 → cell_minute (at n) n ≡ cell_minute x n
  same_minute n le = (emptied kept x sized n le).left n (omega arith)

  put_one : (n : ℕ) (y : List ℕ) (b : Bool) → put_all (cond b (piece (cell_place n) (replicate 4 0) ∷ []) []) y ≡ cond b (put (cell_place n) (replicate 4 0) y) y
  put_one n y true = refl
  put_one n y false = refl

  next_is : (n : ℕ) → n ≤ 32 → put_all (emptied_at (cell_place n) kept (cell_minute x n)) (at n) ≡ at (n + 1)
  next_is n le =
      put_one n (at n) (nat_lt kept (cell_minute x n))
      ∙ ap (λ (m : ℕ). cond (nat_lt kept m) (put (cell_place n) (replicate 4 0) (at n)) (at n)) (sym (same_minute n le)) ∙ sym (emptied_more kept n x)

  pub cells_put : (n : ℕ) → n ≤ 32 → put_all (late_cells kept n x) x ≡ at n
  cells_put zero le = ap (λ (ps : List Piece). put_all ps x) (no_cells kept x) ∙ sym (cells_none kept x)
  cells_put (suc n) le =
      let one : suc n ≡ n + 1 = omega arith in
      ap (λ (m : ℕ). put_all (late_cells kept m x) x) one ∙ ap (λ (ps : List Piece). put_all ps x) (cells_more kept n x)
      ∙ put_all-append (late_cells kept n x) (emptied_at (cell_place n) kept (cell_minute x n)) x ∙ ap (put_all (emptied_at (cell_place n) kept (cell_minute x n))) (cells_put n (omega (arith, le)))
      ∙ next_is n (omega (arith, le)) ∙ ap at (sym one)

  module _ (c : List ℕ) where
    one_moment : (n : ℕ) → n < 32 → (b : Bool) → nat_lt kept (cell_minute x n) ≡ b → IsPartway (cond b (piece (cell_place n) (replicate 4 0) ∷ []) []) (at n) c → IsEmptyingAll kept x c
    one_moment n less false is none = absurd none
    one_moment n less true is (inr none) = absurd none
    one_moment n less true is (inl here) = ⊎_elim
        (λ absent. (n, omega (arith, less), absent))
        (λ whole. (n + 1, omega (arith, less), whole ∙ sym (ap (λ (b : Bool). put_all (cond b (piece (cell_place n) (replicate 4 0) ∷ []) []) (at n)) is) ∙ next_is n (omega (arith, less))))
        (here.whole (lit≤ tt))

    cells_moment : (n : ℕ) → n ≤ 32 → IsPartway (late_cells kept n x) x c → IsEmptyingAll kept x c
    cells_moment zero le here = absurd (subst (λ (ps : List Piece). IsPartway ps x c) (no_cells kept x) here)
    cells_moment (suc n) le here =
        let one : suc n ≡ n + 1 = omega arith in
        ⊎_elim
        (λ front. cells_moment n (omega (arith, le)) front)
        (λ last. one_moment n (omega (arith, le)) (nat_lt kept (cell_minute x n)) refl (subst (λ (y : List ℕ). IsPartway (emptied_at (cell_place n) kept (cell_minute x n)) y c) (cells_put n (omega (arith, le))) last))
        (partway_either (late_cells kept n x) (emptied_at (cell_place n) kept (cell_minute x n)) x c
        (subst (λ (ps : List Piece). IsPartway ps x c) (ap (λ (m : ℕ). late_cells kept m x) one ∙ cells_more kept n x) here))

-- the moments of the writes, each of which is whole or absent
abbrev pub IsGateShutting : Option ℕ → List ℕ → List ℕ → Type 0
IsGateShutting stray x c = (c ≡ x) ⊎ (c ≡ shut stray x)

abbrev pub IsCountCutting : (index count : ℕ) → List ℕ → List ℕ → Type 0
IsCountCutting i count x c = (c ≡ x) ⊎ (c ≡ with_count i count x)

abbrev pub IsMendStep : Notes → List ℕ → List ℕ → Type 0
IsMendStep j x c =
    IsEmptyingAll j.kept x c
    ⊎ (IsGateShutting j.stray (cells_emptied j.kept 32 x) c
    ⊎ ((0 < j.kept) × IsCountCutting j.index j.count (shut j.stray (cells_emptied j.kept 32 x)) c))

shut_put : (stray : Option ℕ) (y : List ℕ) → put_all (gate_shut stray) y ≡ shut stray y
shut_put None y = refl
shut_put (Some s) y = refl

shut_moment : (stray : Option ℕ) (y c : List ℕ) → IsPartway (gate_shut stray) y c → IsGateShutting stray y c
shut_moment None y c none = absurd none
shut_moment (Some s) y c (inl here) = here.whole (lit≤ tt)
shut_moment (Some s) y c (inr none) = absurd none

cut_put : (j : Notes) (y : List ℕ) → put_all (count_cut j) y ≡ (cond (j.kept == 0) y (cut_to j.index j.stored j.count y))
cut_put j y = by (j.kept == 0) (j.stored == j.count)
  where
    by : (a b : Bool) → put_all (cond a [] (cond b [] (piece (slot_place j.index + DAY_COUNT.place) (to_be_bytes w16 j.count) ∷ []))) y ≡ cond a y (cond b y (with_count j.index j.count y))
    by true b = refl
    by false true = refl
    by false false = refl

cut_moment : (j : Notes) (y c : List ℕ) → IsPartway (count_cut j) y c → (0 < j.kept) × IsCountCutting j.index j.count y c
cut_moment j y c = by (j.kept == 0) refl (j.stored == j.count)
  where
    some_of : (k : ℕ) → (k == 0) ≡ false → 0 < k
    some_of k is = grind (arith, nat_tests)

    by : (a : Bool) → (j.kept == 0) ≡ a → (b : Bool) → IsPartway (cond a [] (cond b [] (piece (slot_place j.index + DAY_COUNT.place) (to_be_bytes w16 j.count) ∷ []))) y c → (0 < j.kept) × IsCountCutting j.index j.count y c
    by true is b none = absurd none
    by false is true none = absurd none
    by false is false (inr none) = absurd none
    by false is false (inl here) = (some_of j.kept is, here.whole (lit≤ tt))

module _ (j : Notes) (x : List ℕ) (sized : length x ≡ IMAGE_SIZE) where
  abbrev all : List ℕ
  all = cells_emptied j.kept 32 x

  all_put : put_all (late_cells j.kept 32 x) x ≡ all
  all_put = cells_put j.kept x sized 32 (omega arith)

  pub mending_put : put_all (mending j x) x ≡ mended j x
  mending_put =
      put_all-append (late_cells j.kept 32 x) (gate_shut j.stray ++ count_cut j) x ∙ ap (put_all (gate_shut j.stray ++ count_cut j)) all_put
      ∙ put_all-append (gate_shut j.stray) (count_cut j) all ∙ ap (put_all (count_cut j)) (shut_put j.stray all) ∙ cut_put j (shut j.stray all)

  pub mending_step : (c : List ℕ) → IsPartway (mending j x) x c → IsMendStep j x c
  mending_step c here = ⊎_elim
      (λ cells. inl (cells_moment j.kept x sized c 32 (omega arith) cells))
      (λ rest. inr (⊎_elim
      (λ gate. inl (shut_moment j.stray all c gate))
      (λ count. inr (cut_moment j (shut j.stray all) c (subst (λ (y : List ℕ). IsPartway (count_cut j) y c) (shut_put j.stray all) count)))
      (partway_either (gate_shut j.stray) (count_cut j) all c (subst (λ (y : List ℕ). IsPartway (gate_shut j.stray ++ count_cut j) y c) all_put rest))))
      (partway_either (late_cells j.kept 32 x) (gate_shut j.stray ++ count_cut j) x c here)

-- where nothing is later, nothing is written
pub nothing_written : (j : Notes) (x : List ℕ) → HasNothingLater j x → mending j x ≡ []
nothing_written j x idle = λ t. cells_low j.kept x idle.cells 32 (omega arith) t ++ (gate_shut (idle.stray t) ++ uncut t)
  where
    same : (a b : ℕ) → a ≡ b → (a == b) ≡ true
    same a b is = grind (arith, nat_tests)

    by : (a b : Bool) → b ≡ true → cond {A = List Piece} a [] (cond b [] (piece (slot_place j.index + DAY_COUNT.place) (to_be_bytes w16 j.count) ∷ [])) ≡ []
    by true b is = refl
    by false true is = refl
    by false false is = absurd (cc)

    uncut : count_cut j ≡ []
    uncut = by (j.kept == 0) (j.stored == j.count) (same j.stored j.count idle.count)

-- the plan of the writes, as it grew behind the reads
module _ {old mid new : State} {failed : Bool} (j : Notes) (first next plan : Pieces) (reads : Reads old mid false)
    (first_is : IfSome old.image (λ x. first ≡ more (none 0 IMAGE_SIZE) (late_cells j.kept 32 x))) (next_is : next ≡ more first (gate_shut j.stray)) (plan_is : plan ≡ more next (count_cut j))
    (few : length plan.pieces ≤ 34) (puts : PutsAll mid new failed plan.pieces) where
  planned : (x : List ℕ) → old.image ≡ Some x → mending j x ≡ plan.pieces
  planned x was =
      let cells : first ≡ more (none 0 IMAGE_SIZE) (late_cells j.kept 32 x) = at_image (λ x. first ≡ more (none 0 IMAGE_SIZE) (late_cells j.kept 32 x)) was first_is in
      sym (append_assoc (late_cells j.kept 32 x) (gate_shut j.stray) (count_cut j))
      ∙ sym (ap (λ (p : Pieces). p.pieces) (plan_is ∙ ap (λ (p : Pieces). more p (count_cut j)) (next_is ∙ ap (λ (p : Pieces). more p (gate_shut j.stray)) cells)))

  pub mend_puts : PutsBy old new failed 0 34 (mending j)
  mend_puts = puts_by plan.pieces (mending j) reads (if_told old.image (λ x. mending j x ≡ plan.pieces) planned) puts (omega arith) few

  pub mend_idle : IfSome old.image (λ x. HasNothingLater j x → new.clock ≡ old.clock)
  mend_idle = if_told old.image (λ x. HasNothingLater j x → new.clock ≡ old.clock) (λ x was idle.
      let none : plan.pieces ≡ [] = sym (planned x was) ∙ nothing_written j x idle in
      omega (arith, puts.clock, puts.leaves.later, reads.clock, ap length none))

-- what holds of an image that was turned by a plan
pub turned_by : (o : Option (List ℕ)) (f h : List ℕ → List ℕ) → ((x : List ℕ) → o ≡ Some x → f x ≡ h x) → option_map f o ≡ option_map h o
turned_by None f h same = refl
turned_by (Some x) f h same = ap Some (same x refl)
