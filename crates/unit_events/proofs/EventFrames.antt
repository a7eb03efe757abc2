-- Which bytes tell of which events: the places of a type, and writes of the journal.
use Rattle.std.proofs.Common.{◌≡◌, ◌⊎◌, ⊎_elim, ℕ, ◌+◌, ◌-◌, ◌<◌, ◌≤◌, List, take, drop, Contains, ap, sym, ◌∙◌, arith}
use Rattle.std.proofs.lemmas.List.{drop-drop}
use Rattle.card_layout.specs.Images.{SameOutside, bytes_at}
use Rattle.card_layout.proofs.Images.{part_before, part_after, part_in}
use Rattle.gated_ring.specs.Ring.{Shape, size_of, place_of, entry_at}
use Rattle.gated_ring.proofs.Places.{place_low, place_high}
use Rattle.unit_model.proofs.Growth.{map_range_same}
use Rattle.event_model.specs.Kinds.{places_of}
use Rattle.note_model.specs.Tables.{table_of, table_in}
use Rattle.unit_minutes.specs.Image.{SameBesides}
use Rattle.unit_minutes.specs.Mends.{SameButRowsAndSlots}
use Rattle.unit_events.specs.Shown.{all_kinds, KeepsEvents}
use Rattle.unit_events.proofs.Shows.{each-kind}

pub le-then : (a b c : ℕ) → a ≤ b → b ≤ c → a ≤ c
le-then a b c first next = omega (arith, first, next)

-- the two numbers stand before all places
pub before-tables : (base p : ℕ) → 2386384 ≤ base → p + 4 ≤ 580 → p + 4 ≤ base
before-tables base p low inside = omega (arith, low, inside)

pub first-low : 572 + 4 ≤ 580
first-low = omega arith

pub count-low : 576 + 4 ≤ 580
count-low = omega arith

-- a part of a part
pub part_of : (p w q n : ℕ) (x c : List ℕ) → q + n ≤ w → bytes_at c p w ≡ bytes_at x p w → bytes_at c (p + q) n ≡ bytes_at x (p + q) n
part_of p w q n x c inside same = sym (part_in c p w q n inside) ∙ ap (λ (l : List ℕ). bytes_at l q n) same ∙ part_in x p w q n inside

-- where the places begin
high-place : (base : ℕ) → 2386384 ≤ base → 2386384 ≤ base
high-place base high = high

pub table-high : (kind : ℕ) → Contains all_kinds kind → 2386384 ≤ (table_of kind).base
table-high = each-kind (λ (kind : ℕ). 2386384 ≤ (table_of kind).base)
    (high-place 2386384 (omega arith)) (high-place 2387214 (omega arith)) (high-place 2388044 (omega arith)) (high-place 2388874 (omega arith))
    (high-place 2389704 (omega arith)) (high-place 2391364 (omega arith)) (high-place 2390534 (omega arith)) (high-place 2391674 (omega arith))

-- THE PLACES OF A TYPE, where no byte of them has changed
module _ (kind place len : ℕ) (x c : List ℕ) (same : SameOutside place len x c) (apart : ((table_of kind).base + size_of (table_of kind) ≤ place) ⊎ (place + len ≤ (table_of kind).base)) where
  entry-apart : (i : ℕ) → i < places_of kind → entry_at (table_of kind) c i ≡ entry_at (table_of kind) x i
  entry-apart i below =
      let r : Shape = table_of kind in
      ⊎_elim
      (λ before. part_before place len (place_of r i) r.width x c same (le-then (place_of r i + r.width) (r.base + size_of r) place (place_high r i below) before))
      (λ after. part_after place len (place_of r i) r.width x c same (le-then (place + len) r.base (place_of r i) after (le-then r.base (r.base + r.pointer_width) (place_of r i) (omega arith) (place_low r i)))) apart

  pub table-apart : table_in kind c ≡ table_in kind x
  unfolding table_in
  table-apart = map_range_same (entry_at (table_of kind) c) (entry_at (table_of kind) x) 0 (places_of kind) (λ i low high. entry-apart i (omega (arith, high)))

behind-place : (p : ℕ) → 2386384 ≤ p → 2115044 + (p - 2115044) ≡ p
behind-place p high = omega (arith, high)

-- nothing from the insertions on
module _ (kind : ℕ) (there : Contains all_kinds kind) (x c : List ℕ) (same : drop 2115044 c ≡ drop 2115044 x) where
  entry-behind : (i : ℕ) → i < places_of kind → entry_at (table_of kind) c i ≡ entry_at (table_of kind) x i
  entry-behind i below =
      let r : Shape = table_of kind in
      let p : ℕ = place_of r i in
      let high : 2386384 ≤ p = le-then 2386384 r.base p (table-high kind there) (le-then r.base (r.base + r.pointer_width) p (omega arith) (place_low r i)) in
      let q : ℕ = p - 2115044 in
      let is : 2115044 + q ≡ p = behind-place p high in
      let here : drop p c ≡ drop p x =
      ap (λ (n : ℕ). drop n c) (sym is) ∙ sym (drop-drop q 2115044 c) ∙ ap (drop q) same ∙ drop-drop q 2115044 x ∙ ap (λ (n : ℕ). drop n x) is in
      ap (take (table_of kind).width) here

  pub table-behind : table_in kind c ≡ table_in kind x
  unfolding table_in
  table-behind = map_range_same (entry_at (table_of kind) c) (entry_at (table_of kind) x) 0 (places_of kind) (λ i low high. entry-behind i (omega (arith, high)))

-- WRITES OF THE JOURNAL tell of no event
pub besides-keeps : (x c : List ℕ) → SameBesides x c → KeepsEvents x c
besides-keeps x c same = record { numbers = part_of 572 452 0 8 x c (omega arith) same.between; rest = same.after }

take-less : (x c : List ℕ) → take 624 c ≡ take 624 x → bytes_at c 572 8 ≡ bytes_at x 572 8
take-less x c same = part_of 0 624 572 8 x c (omega arith) same

pub slots-keeps : (x c : List ℕ) → SameButRowsAndSlots x c → KeepsEvents x c
slots-keeps x c same = record { numbers = take-less x c same.before; rest = same.after }
