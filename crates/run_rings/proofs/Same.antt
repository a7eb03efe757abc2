-- Which bytes lie outside both rings.
use Rattle.std.proofs.Common.{◌≡◌, ◌⊎◌, inl, inr, ⊎_elim, ℕ, ◌+◌, ◌*◌, ◌-◌, ◌≤◌, Bool, true, false, cond, nat_eq, List, take, drop, refl, ap, sym, ◌∙◌, arith}
use Rattle.std.proofs.lemmas.List.{drop-drop}
use Rattle.card_layout.specs.Images.{SameOutside, bytes_at}
use Rattle.tach_media.specs.Medium.{State, IsCoherent, LeavesOnly}
use Rattle.gated_ring.specs.Ring.{size_of}
use Rattle.gated_ring.proofs.Elsewhere.{ring_outside}
use Rattle.message_model.specs.Records.{insertion_ring, unit_place_ring}
use Rattle.note_model.specs.Tables.{order_of, table_of}
use Rattle.run_rings.specs.Same.{HasSameRings, LeavesRings}

-- ---- images

pub same-rings : (x : List ℕ) → HasSameRings x x
same-rings x = record { insertions = refl; places = refl }

pub then-same : (x y z : List ℕ) → HasSameRings x y → HasSameRings y z → HasSameRings x z
then-same x y z one two = record { insertions = two.insertions ∙ one.insertions; places = two.places ∙ one.places }

-- a write before both, or behind both
pub outside-both : (base size : ℕ) (x c : List ℕ) → (base + size ≤ 2115044) ⊎ (2386384 ≤ base) → SameOutside base size x c → HasSameRings x c
outside-both base size x c (inl low) same = record {
  insertions = ring_outside insertion_ring base size x c (inl (omega (arith, low))) same;
  places = ring_outside unit_place_ring base size x c (inl (omega (arith, low))) same;
}
outside-both base size x c (inr high) same = record {
  insertions = ring_outside insertion_ring base size x c (inr (omega (arith, high))) same;
  places = ring_outside unit_place_ring base size x c (inr (omega (arith, high))) same;
}

-- the places of events and faults lie behind both
high-cond : (b : Bool) (x y : ℕ) → 2386384 ≤ x → 2386384 ≤ y → 2386384 ≤ cond b x y
high-cond true x y one two = one
high-cond false x y one two = two

pub table-high : (kind : ℕ) → 2386384 ≤ (table_of kind).base
table-high kind =
    let events : 2386384 ≤ 2386384 + order_of kind * 10 * 83 = omega arith in
    let faults : 2386384 ≤ cond (nat_eq kind 0x40) 2391674 (2386384 + order_of kind * 10 * 83) = high-cond (nat_eq kind 0x40) 2391674 (2386384 + order_of kind * 10 * 83) (omega arith) events in
    high-cond (nat_eq kind 0x07) 2391364 (cond (nat_eq kind 0x40) 2391674 (2386384 + order_of kind * 10 * 83)) (omega arith) faults

pub table-outside : (kind : ℕ) (x c : List ℕ) → SameOutside (table_of kind).base (size_of (table_of kind)) x c → HasSameRings x c
table-outside kind x c same = outside-both (table_of kind).base (size_of (table_of kind)) x c (inr (table-high kind)) same

-- all bytes from the insertions on are the same
part-behind : (p n : ℕ) (x c : List ℕ) → 2115044 ≤ p → drop 2115044 c ≡ drop 2115044 x → bytes_at c p n ≡ bytes_at x p n
part-behind p n x c high same =
    let q : ℕ = p - 2115044 in
    let is : 2115044 + q ≡ p = omega (arith, high) in
    let here : drop p c ≡ drop p x =
    ap (λ (k : ℕ). drop k c) (sym is) ∙ sym (drop-drop q 2115044 c) ∙ ap (drop q) same ∙ drop-drop q 2115044 x ∙ ap (λ (k : ℕ). drop k x) is in
    ap (take n) here

pub behind-same : (x c : List ℕ) → drop 2115044 c ≡ drop 2115044 x → HasSameRings x c
behind-same x c same = record {
  insertions = part-behind insertion_ring.base (size_of insertion_ring) x c (omega arith) same;
  places = part-behind unit_place_ring.base (size_of unit_place_ring) x c (omega arith) same;
}

-- ---- calls

pub rings-left : (U : State) → LeavesRings U U
rings-left U = λ c at. (c, at, same-rings c)

pub rings-then : (U V W : State) → LeavesRings U V → LeavesRings V W → LeavesRings U W
rings-then U V W a b = λ c at.
    let y = b c at in
    let x = a y.0 y.1 in
    (x.0, x.1, then-same x.0 y.0 c x.2 y.2)

-- a call whose moments leave them
pub rings-moments : (U V : State) (R : List ℕ → List ℕ → Type 0) → IsCoherent U → LeavesOnly U V R → ((x c : List ℕ) → R x c → HasSameRings x c) → LeavesRings U V
rings-moments U V R whole run same = λ c at. ⊎_elim
    (λ old. (c, old, same-rings c))
    (λ new. (new.0, whole.is_left new.0 new.1, same new.0 c new.2))
    (run.now c at)
