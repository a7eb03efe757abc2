-- A ring shows no fewer entries than at the start, but for one for each note that is not sure; and none is gone but of the places that the notes take, from the next one on.
use Rattle.std.proofs.Common.{◌≡◌, ◌⊎◌, inl, inr, ⊎_elim, ℕ, suc, ◌+◌, ◌<◌, ◌≤◌, Bool, true, false, cond, not, nat_eq, List, [], ◌∷◌, ◌++◌, length, filter, map, Contains, refl, ap, sym, subst, ◌∙◌, arith, length-append}
use Rattle.std.proofs.lemmas.Bool.{eqb-true, eqb-false}
use Rattle.std.proofs.lemmas.List.{length-map}
use Rattle.std.proofs.lemmas.List.Elements.{filter-append, Contains-append_left, Contains-append_cases, Contains-push_cases}
use Rattle.card_layout.specs.Images.{bytes_at}
use Rattle.gated_ring.specs.Ring.{Shape, IsShape, PointsInside, size_of, pointer, next, is_there, indices, ring_list, entry_at, taken, staying, with_head}
use Rattle.gated_ring.specs.Change.{SameOthers, IsShortened, IsExtended, IsAdded, IsAdding}
use Rattle.gated_ring.proofs.Elsewhere.{ring_elsewhere, taken_elsewhere}
use Rattle.gated_ring.proofs.Listing.{taken_chosen, taken_below, indices_cases}
use Rattle.note_model.specs.Rings.{unsure_count, LiesAhead, HasTurned, FarOnesStand, AreNoFewer}
use Rattle.run_rings.proofs.Indices.{lies-next}

-- ---- notes that are not sure

module _ {N : Type 0} (is_sure : N → Bool) where
  pub unsure-append : (notes more : List N) → unsure_count is_sure (notes ++ more) ≡ unsure_count is_sure notes + unsure_count is_sure more
  unsure-append notes more =
      ap (λ (l : List N). length l) (filter-append (λ n. not (is_sure n)) notes more)
      ∙ length-append (filter (λ n. not (is_sure n)) notes) (filter (λ n. not (is_sure n)) more)

  one-unsure : (n : N) → is_sure n ≡ false → unsure_count is_sure (n ∷ []) ≡ 1
  one-unsure n none = ap (λ (b : Bool). length (cond (not b) (n ∷ []) [])) none

  -- a note in place of another that is as sure
  pub unsure-changed : (older : List N) (a b : N) (newer : List N) → is_sure a ≡ is_sure b → unsure_count is_sure (older ++ a ∷ newer) ≡ unsure_count is_sure (older ++ b ∷ newer)
  unsure-changed [] a b newer same = by (is_sure a) (is_sure b) same
    where
      by : (p q : Bool) → p ≡ q → length (cond (not p) (a ∷ filter (λ n. not (is_sure n)) newer) (filter (λ n. not (is_sure n)) newer)) ≡ length (cond (not q) (b ∷ filter (λ n. not (is_sure n)) newer) (filter (λ n. not (is_sure n)) newer))
      by true true is = refl
      by false false is = refl
      by true false is = absurd (cc)
      by false true is = absurd (cc)
  unsure-changed (o ∷ older) a b newer same = by (is_sure o) (unsure-changed older a b newer same)
    where
      by : (p : Bool) → unsure_count is_sure (older ++ a ∷ newer) ≡ unsure_count is_sure (older ++ b ∷ newer)
          → length (cond (not p) (o ∷ filter (λ n. not (is_sure n)) (older ++ a ∷ newer)) (filter (λ n. not (is_sure n)) (older ++ a ∷ newer))) ≡ length (cond (not p) (o ∷ filter (λ n. not (is_sure n)) (older ++ b ∷ newer)) (filter (λ n. not (is_sure n)) (older ++ b ∷ newer)))
      by true is = is
      by false is = ap suc is

-- ---- how many a ring shows

listed : (r : Shape) (x : List ℕ) → length (ring_list r x) ≡ length (indices r x)
listed r x = length-map (indices r x) (entry_at r x)

-- the same bytes of the ring, and the same indices
pub as-many : (r : Shape) → IsShape r → (x y : List ℕ) → bytes_at y r.base (size_of r) ≡ bytes_at x r.base (size_of r) → PointsInside r x → length (ring_list r x) ≤ length (ring_list r y)
as-many r shape x y bytes points =
    let is : length (ring_list r y) ≡ length (ring_list r x) = ap (λ (l : List (List ℕ)). length l) (ring_elsewhere r shape x y bytes points).2 in
    omega (arith, is)

pub as-many-at : (r : Shape) (x y : List ℕ) → indices r y ≡ indices r x → length (ring_list r x) ≤ length (ring_list r y)
as-many-at r x y same =
    let now = listed r y in
    let was = listed r x in
    let is : length (indices r y) ≡ length (indices r x) = ap (λ (l : List ℕ). length l) same in
    omega (arith, now, was, is)

-- those that stay are one less at most
staying-long : (r : Shape) (x : List ℕ) → PointsInside r x → length (ring_list r x) ≤ length (map (entry_at r x) (staying r x)) + 1
staying-long r x points = by (indices_cases r x points)
  where
    by : ((is_there r x (taken r x) ≡ true) × (indices r x ≡ taken r x ∷ staying r x)) ⊎ ((is_there r x (taken r x) ≡ false) × (indices r x ≡ staying r x)) → length (ring_list r x) ≤ length (map (entry_at r x) (staying r x)) + 1
    by (inl there) = let is : length (ring_list r x) ≡ suc (length (map (entry_at r x) (staying r x))) = ap (λ (js : List ℕ). length (map (entry_at r x) js)) there.1 in omega (arith, is)
    by (inr none) = let is : length (ring_list r x) ≡ length (map (entry_at r x) (staying r x)) = ap (λ (js : List ℕ). length (map (entry_at r x) js)) none.1 in omega (arith, is)

-- an entry is added
extended-long : (r : Shape) (head x y : List ℕ) → PointsInside r x → IsExtended r head x y → length (ring_list r x) ≤ length (ring_list r y)
extended-long r head x y points extended =
    let stay = staying-long r x points in
    let is : length (ring_list r y) ≡ length (map (entry_at r x) (staying r x) ++ with_head r x (taken r x) head ∷ []) = ap (λ (l : List (List ℕ)). length l) extended.list_is in
    let one : length (map (entry_at r x) (staying r x) ++ with_head r x (taken r x) head ∷ []) ≡ length (map (entry_at r x) (staying r x)) + 1 = length-append (map (entry_at r x) (staying r x)) (with_head r x (taken r x) head ∷ []) in
    omega (arith, stay, is, one)

pub added-long : (r : Shape) (head x y : List ℕ) → PointsInside r x → IsAdded r head x y → length (ring_list r x) ≤ length (ring_list r y)
added-long r head x y points added = extended-long r head x y points (added.list points)

-- ---- what a call leaves of the indices, and of the next one

-- they stay
abbrev pub RingStays : Shape → (x y : List ℕ) → Type 0
RingStays r x y = (indices r y ≡ indices r x) × (taken r y ≡ taken r x)

-- an entry takes the next one
abbrev pub RingTakes : Shape → (x y : List ℕ) → Type 0
RingTakes r x y = PointsInside r x × (indices r y ≡ staying r x ++ taken r x ∷ []) × (taken r y ≡ next r (taken r x))

-- no entry is there, and it is still the next one
abbrev pub RingOpens : Shape → (x y : List ℕ) → Type 0
RingOpens r x y = PointsInside r x × (indices r y ≡ staying r x) × (taken r y ≡ taken r x)

-- at a moment of an addition it is one of these
abbrev pub RingMayTake : Shape → (x y : List ℕ) → Type 0
RingMayTake r x y = RingStays r x y ⊎ (RingOpens r x y ⊎ RingTakes r x y)

-- the same image, and the same bytes of the ring
pub ring-same : (r : Shape) (x y : List ℕ) → y ≡ x → RingStays r x y
ring-same r x y same = (ap (λ (z : List ℕ). indices r z) same, ap (λ (z : List ℕ). taken r z) same)

pub ring-stays : (r : Shape) → IsShape r → (x y : List ℕ) → bytes_at y r.base (size_of r) ≡ bytes_at x r.base (size_of r) → PointsInside r x → RingStays r x y
ring-stays r shape x y bytes points = let is = ring_elsewhere r shape x y bytes points in (is.1, taken_elsewhere r shape x y bytes points)

-- an entry is added
pub ring-takes : (r : Shape) (head x y : List ℕ) → PointsInside r x → IsAdded r head x y → RingTakes r x y
ring-takes r head x y points added = (points, (added.list points).indices_are, (added.list points).next_is)

-- where no entry is there the next one comes there, whether the pointer has moved or not
opened-turn : (r : Shape) (x y : List ℕ) → PointsInside r x → SameOthers r (taken r x) x y → (pointer r y ≡ pointer r x) ⊎ (pointer r y ≡ taken r x) → is_there r y (taken r x) ≡ false → taken r y ≡ taken r x
opened-turn r x y points others pointers shut = ⊎_elim
    (λ same. ⊎_elim (λ there. by (nat_eq (pointer r x) (taken r x)) refl same there) (λ none. at-place (same ∙ sym none.1)) (taken_chosen r x))
    at-place
    pointers
  where
    at-place : pointer r y ≡ taken r x → taken r y ≡ taken r x
    at-place on = ap (λ (p : ℕ). cond (is_there r y p) (next r p) p) on ∙ ap (λ (b : Bool). cond b (next r (taken r x)) (taken r x)) shut

    by : (b : Bool) → nat_eq (pointer r x) (taken r x) ≡ b → pointer r y ≡ pointer r x → (is_there r x (pointer r x) ≡ true) × (taken r x ≡ next r (pointer r x)) → taken r y ≡ taken r x
    by true is same there = at-place (same ∙ eqb-true (pointer r x) (taken r x) is)
    by false is same there =
        ap (λ (p : ℕ). cond (is_there r y p) (next r p) p) same
        ∙ ap (λ (b : Bool). cond b (next r (pointer r x)) (pointer r x)) ((others (pointer r x) points (eqb-false (pointer r x) (taken r x) is)).1 ∙ there.0)
        ∙ sym there.1

-- a moment of that
pub ring-may : (r : Shape) (head x y : List ℕ) → PointsInside r x → (y ≡ x) ⊎ IsAdding r head x y → RingMayTake r x y
ring-may r head x y points (inl same) = inl (ring-same r x y same)
ring-may r head x y points (inr moment) = by (moment.step points).list
  where
    by : (y ≡ x) ⊎ (IsShortened r x y ⊎ IsExtended r head x y) → RingMayTake r x y
    by (inl same) = inl (ring-same r x y same)
    by (inr (inl shortened)) = inr (inl (points, shortened.indices_are, opened-turn r x y points (moment.step points).others (moment.step points).pointer_is shortened.shut))
    by (inr (inr extended)) = inr (inr (points, extended.indices_are, extended.next_is))

-- how many there are then
few-staying : (r : Shape) (x : List ℕ) → PointsInside r x → length (indices r x) ≤ length (staying r x) + 1
few-staying r x points = by (indices_cases r x points)
  where
    by : ((is_there r x (taken r x) ≡ true) × (indices r x ≡ taken r x ∷ staying r x)) ⊎ ((is_there r x (taken r x) ≡ false) × (indices r x ≡ staying r x)) → length (indices r x) ≤ length (staying r x) + 1
    by (inl there) = let is : length (indices r x) ≡ suc (length (staying r x)) = ap (λ (js : List ℕ). length js) there.1 in omega (arith, is)
    by (inr none) = let is : length (indices r x) ≡ length (staying r x) = ap (λ (js : List ℕ). length js) none.1 in omega (arith, is)

taken-many : (r : Shape) (x y : List ℕ) → RingTakes r x y → length (ring_list r x) ≤ length (ring_list r y)
taken-many r x y takes =
    let was = listed r x in
    let now = listed r y in
    let few = few-staying r x takes.0 in
    let one : length (indices r y) ≡ length (staying r x) + 1 = ap (λ (js : List ℕ). length js) takes.1 ∙ length-append (staying r x) (taken r x ∷ []) in
    omega (arith, was, now, few, one)

opened-many : (r : Shape) (x y : List ℕ) → RingOpens r x y → length (ring_list r x) ≤ length (ring_list r y) + 1
opened-many r x y opens =
    let was = listed r x in
    let now = listed r y in
    let few = few-staying r x opens.0 in
    let is : length (indices r y) ≡ length (staying r x) = ap (λ (js : List ℕ). length js) opens.1 in
    omega (arith, was, now, few, is)

-- ---- how far the ring has turned

turned-same : (r : Shape) (entries : ℕ) (start x y : List ℕ) → taken r y ≡ taken r x → HasTurned r entries start x → HasTurned r entries start y
turned-same r entries start x y same turned low = let was = turned low in (was.0, was.1, subst (LiesAhead r (taken r start) was.0) (sym same) was.2)

-- one entry more may have come
turned-wider : (r : Shape) (entries now : ℕ) → now ≡ entries + 1 → (start x : List ℕ) → HasTurned r entries start x → HasTurned r now start x
turned-wider r entries now is start x turned low = let was = turned (omega (arith, is, low)) in let le = was.1 in (was.0, omega (arith, is, le), was.2)

-- and where it has the next one lies one place further ahead
turned-more : (r : Shape) (entries now : ℕ) → now ≡ entries + 1 → (start x y : List ℕ) → PointsInside r start → PointsInside r x → taken r y ≡ next r (taken r x) → HasTurned r entries start x → HasTurned r now start y
turned-more r entries now is start x y begins points on turned low =
    let was = turned (omega (arith, is, low)) in
    let le = was.1 in (
      suc was.0,
      omega (arith, is, le),
      subst (LiesAhead r (taken r start) (suc was.0)) (sym on)
          (lies-next r.count (taken r start) was.0 (taken r x) (taken_below r start begins) (omega (arith, is, low, le)) (taken_below r x points) was.2),
    )

-- ---- what stands further ahead

-- it is not the next one
apart-far : (r : Shape) (from places at near other : ℕ) → near < places → places < r.count → LiesAhead r from places at → LiesAhead r from near other → other ≡ at → ⊥
apart-far r from places at near other far low (inl here) (inl own) same = omega (arith, here, own, same, far)
apart-far r from places at near other far low (inl here) (inr round) same = omega (arith, here, round, same, far, low)
apart-far r from places at near other far low (inr turn) (inl own) same = omega (arith, turn, own, same, far, low)
apart-far r from places at near other far low (inr turn) (inr round) same = omega (arith, turn, round, same, far)

behind-first : (t at : ℕ) (js : List ℕ) → (t ≡ at → ⊥) → Contains (t ∷ js) at → Contains js at
behind-first t at js apart has = ⊎_elim
    (λ first. ⊎_elim
    (λ (none : Contains [] at). absurd (let few = none.1 in omega (arith, few)))
    (λ same. absurd (apart same))
    (Contains-push_cases [] t at first))
    (λ rest. rest)
    (Contains-append_cases (t ∷ []) js at has)

-- so it stays
among-staying : (r : Shape) (x : List ℕ) → PointsInside r x → (at : ℕ) → (taken r x ≡ at → ⊥) → Contains (indices r x) at → Contains (staying r x) at
among-staying r x points at apart has = by (indices_cases r x points)
  where
    by : ((is_there r x (taken r x) ≡ true) × (indices r x ≡ taken r x ∷ staying r x)) ⊎ ((is_there r x (taken r x) ≡ false) × (indices r x ≡ staying r x)) → Contains (staying r x) at
    by (inl there) = behind-first (taken r x) at (staying r x) apart (subst (λ (js : List ℕ). Contains js at) there.1 has)
    by (inr none) = subst (λ (js : List ℕ). Contains js at) none.1 has

far-same : (r : Shape) (entries : ℕ) (start x y : List ℕ) → indices r y ≡ indices r x → FarOnesStand r entries start x → FarOnesStand r entries start y
far-same r entries start x y same far places at more low lies has = subst (λ (js : List ℕ). Contains js at) (sym same) (far places at more low lies has)

far-wider : (r : Shape) (entries now : ℕ) → now ≡ entries + 1 → (start x : List ℕ) → FarOnesStand r entries start x → FarOnesStand r now start x
far-wider r entries now is start x far places at more low lies has = far places at (omega (arith, is, more)) low lies has

-- where those that stay are there still
far-more : (r : Shape) (entries now : ℕ) → now ≡ entries + 1 → (start x y : List ℕ) → PointsInside r x → HasTurned r entries start x → ((at : ℕ) → Contains (staying r x) at → Contains (indices r y) at) → FarOnesStand r entries start x → FarOnesStand r now start y
far-more r entries now is start x y points turned keeps far places at more low lies has =
    let was = turned (omega (arith, is, more, low)) in
    let le = was.1 in
    keeps at (among-staying r x points at
    (apart-far r (taken r start) places at was.0 (taken r x) (omega (arith, is, more, le)) low lies was.2)
    (far places at (omega (arith, is, more)) low lies has))

-- ---- no fewer

-- at the start
pub few-start : {N : Type 0} (r : Shape) (is_sure : N → Bool) (start x : List ℕ) → PointsInside r start → x ≡ start → AreNoFewer r is_sure [] start x
few-start r is_sure start x begins same = record {
  begins = begins;
  many = (let is : length (ring_list r x) ≡ length (ring_list r start) = ap (λ (z : List ℕ). length (ring_list r z)) same in omega (arith, is));
  turned = λ low. (0, omega arith, inl (let is : taken r x ≡ taken r start = ap (λ (z : List ℕ). taken r z) same in omega (arith, is)));
  far = λ places at more low lies has. subst (λ (z : List ℕ). Contains (indices r z) at) (sym same) has;
}

-- the indices stay, and no more notes are sure
pub few-go : {N : Type 0} (r : Shape) (sure still : N → Bool) (notes : List N) (start x y : List ℕ) → unsure_count sure notes ≤ unsure_count still notes → RingStays r x y → AreNoFewer r sure notes start x → AreNoFewer r still notes start y
few-go r sure still notes start x y less stays few = record {
  begins = few.begins;
  many = (let long = as-many-at r x y stays.0 in let was = few.many in omega (arith, less, long, was));
  turned = turned-same r (length notes) start x y stays.1 few.turned;
  far = far-same r (length notes) start x y stays.0 few.far;
}

-- the same notes
pub few-as : {N : Type 0} (r : Shape) (is_sure : N → Bool) (notes : List N) (start x y : List ℕ) → RingStays r x y → AreNoFewer r is_sure notes start x → AreNoFewer r is_sure notes start y
few-as r is_sure notes start x y stays few = few-go r is_sure is_sure notes start x y (omega arith) stays few

-- one note more
pub few-more : {N : Type 0} (r : Shape) (is_sure : N → Bool) (notes : List N) (n : N) (start x y : List ℕ) → RingTakes r x y → AreNoFewer r is_sure notes start x → AreNoFewer r is_sure (notes ++ n ∷ []) start y
few-more r is_sure notes n start x y takes few = record {
  begins = few.begins;
  many = (let more = unsure-append is_sure notes (n ∷ []) in let long = taken-many r x y takes in let was = few.many in omega (arith, long, was, more));
  turned = turned-more r (length notes) (length (notes ++ n ∷ [])) (length-append notes (n ∷ [])) start x y few.begins takes.0 takes.2 few.turned;
  far = far-more r (length notes) (length (notes ++ n ∷ [])) (length-append notes (n ∷ [])) start x y takes.0 few.turned
      (λ at among. subst (λ (js : List ℕ). Contains js at) (sym takes.1) (Contains-append_left (staying r x) (taken r x ∷ []) at among)) few.far;
}

-- or one more that is not sure
pub few-unsure : {N : Type 0} (r : Shape) (is_sure : N → Bool) (notes : List N) (n : N) (start x y : List ℕ) → is_sure n ≡ false → RingMayTake r x y → AreNoFewer r is_sure notes start x → AreNoFewer r is_sure (notes ++ n ∷ []) start y
few-unsure r is_sure notes n start x y none (inl stays) few = record {
  begins = few.begins;
  many = (let more = unsure-append is_sure notes (n ∷ []) in let long = as-many-at r x y stays.0 in let was = few.many in omega (arith, long, was, more));
  turned = turned-wider r (length notes) (length (notes ++ n ∷ [])) (length-append notes (n ∷ [])) start y (turned-same r (length notes) start x y stays.1 few.turned);
  far = far-wider r (length notes) (length (notes ++ n ∷ [])) (length-append notes (n ∷ [])) start y (far-same r (length notes) start x y stays.0 few.far);
}
few-unsure r is_sure notes n start x y none (inr (inl opens)) few = record {
  begins = few.begins;
  many = (let more = unsure-append is_sure notes (n ∷ []) in let one = one-unsure is_sure n none in let long = opened-many r x y opens in let was = few.many in omega (arith, long, was, more, one));
  turned = turned-wider r (length notes) (length (notes ++ n ∷ [])) (length-append notes (n ∷ [])) start y (turned-same r (length notes) start x y opens.2 few.turned);
  far = far-more r (length notes) (length (notes ++ n ∷ [])) (length-append notes (n ∷ [])) start x y opens.0 few.turned
      (λ at among. subst (λ (js : List ℕ). Contains js at) (sym opens.1) among) few.far;
}
few-unsure r is_sure notes n start x y none (inr (inr takes)) few = few-more r is_sure notes n start x y takes few

-- a note in place of another that is as sure
pub few-changed : {N : Type 0} (r : Shape) (is_sure : N → Bool) (older : List N) (a b : N) (newer : List N) (start x y : List ℕ) → is_sure a ≡ is_sure b → RingStays r x y → AreNoFewer r is_sure (older ++ a ∷ newer) start x
    → AreNoFewer r is_sure (older ++ b ∷ newer) start y
few-changed r is_sure older a b newer start x y same stays few = record {
  begins = few.begins;
  many = (let is = unsure-changed is_sure older a b newer same in let long = as-many-at r x y stays.0 in let was = few.many in omega (arith, is, long, was));
  turned = subst (λ (k : ℕ). HasTurned r k start y) long-same (turned-same r (length (older ++ a ∷ newer)) start x y stays.1 few.turned);
  far = subst (λ (k : ℕ). FarOnesStand r k start y) long-same (far-same r (length (older ++ a ∷ newer)) start x y stays.0 few.far);
}
  where
    long-same : length (older ++ a ∷ newer) ≡ length (older ++ b ∷ newer)
    long-same = length-append older (a ∷ newer) ∙ sym (length-append older (b ∷ newer))
