-- Which places a note leaves alone, and the two numbers of over speedings as one more is noted.
use Rattle.std.proofs.Common.{◌≡◌, ◌≢◌, ◌⊎◌, inl, inr, ℕ, ◌+◌, ◌^◌, ◌<◌, ◌≤◌, min, Bool, true, false, cond, List, length, Contains, refl, ap, ◌∙◌, arith, nat_lt}
use Rattle.std.specs.Prelude.{◌==◌}
use Rattle.std.specs.Int.{to_be_bytes, w32}
use Rattle.std.proofs.lemmas.Bool.{ltb-true, ltb-false}
use Rattle.card_layout.specs.Images.{SameOutside, put, number_at}
use Rattle.card_layout.proofs.Images.{outside_same, put_outside}
use Rattle.card_layout.proofs.Spelled.{number_before}
use Rattle.gated_ring.specs.Ring.{size_of}
use Rattle.unit_model.specs.declared.layout.TheConstants.{FIRST_OVER, OVER_COUNT}
use Rattle.unit_model.specs.Image.{number_of}
use Rattle.unit_model.proofs.Numbers.{number_put4}
use Rattle.note_model.specs.Tables.{table_of, table_in}
use Rattle.unit_notes.specs.Noting.{IsEventNoted, with_first, with_one_more}
use Rattle.unit_notes.proofs.Types.{table_inside}
use Rattle.unit_events.specs.Shown.{all_kinds}
use Rattle.unit_events.proofs.Shows.{each-kind}
use Rattle.unit_events.proofs.EventFrames.{before-tables, first-low, count-low, table-apart}

-- THE NOTES: each leaves the places of the other types alone
abbrev pub IsApart : ℕ → ℕ → Type 0
IsApart kind noted = ((table_of kind).base + size_of (table_of kind) ≤ (table_of noted).base) ⊎ ((table_of noted).base + size_of (table_of noted) ≤ (table_of kind).base)

abbrev pub AreApart : ℕ → Type 0
AreApart noted = (kind : ℕ) → Contains all_kinds kind → kind ≢ noted → IsApart kind noted

pub bares-apart : AreApart 0x04
bares-apart = each-kind (λ (kind : ℕ). kind ≢ 0x04 → IsApart kind 0x04)
    (λ ne. let is : 2386384 + 830 ≤ 2388044 = omega arith in inl is)
    (λ ne. let is : 2387214 + 830 ≤ 2388044 = omega arith in inl is)
    (λ ne. absurd (ne refl))
    (λ ne. let is : 2388044 + 830 ≤ 2388874 = omega arith in inr is)
    (λ ne. let is : 2388044 + 830 ≤ 2389704 = omega arith in inr is)
    (λ ne. let is : 2388044 + 830 ≤ 2391364 = omega arith in inr is)
    (λ ne. let is : 2388044 + 830 ≤ 2390534 = omega arith in inr is)
    (λ ne. let is : 2388044 + 830 ≤ 2391674 = omega arith in inr is)

pub overs-apart : AreApart 0x07
overs-apart = each-kind (λ (kind : ℕ). kind ≢ 0x07 → IsApart kind 0x07)
    (λ ne. let is : 2386384 + 830 ≤ 2391364 = omega arith in inl is)
    (λ ne. let is : 2387214 + 830 ≤ 2391364 = omega arith in inl is)
    (λ ne. let is : 2388044 + 830 ≤ 2391364 = omega arith in inl is)
    (λ ne. let is : 2388874 + 830 ≤ 2391364 = omega arith in inl is)
    (λ ne. let is : 2389704 + 830 ≤ 2391364 = omega arith in inl is)
    (λ ne. absurd (ne refl))
    (λ ne. let is : 2390534 + 830 ≤ 2391364 = omega arith in inl is)
    (λ ne. let is : 2391364 + 310 ≤ 2391674 = omega arith in inr is)

pub gaps-apart : AreApart 0x08
gaps-apart = each-kind (λ (kind : ℕ). kind ≢ 0x08 → IsApart kind 0x08)
    (λ ne. let is : 2386384 + 830 ≤ 2390534 = omega arith in inl is)
    (λ ne. let is : 2387214 + 830 ≤ 2390534 = omega arith in inl is)
    (λ ne. let is : 2388044 + 830 ≤ 2390534 = omega arith in inl is)
    (λ ne. let is : 2388874 + 830 ≤ 2390534 = omega arith in inl is)
    (λ ne. let is : 2389704 + 830 ≤ 2390534 = omega arith in inl is)
    (λ ne. let is : 2390534 + 830 ≤ 2391364 = omega arith in inr is)
    (λ ne. absurd (ne refl))
    (λ ne. let is : 2390534 + 830 ≤ 2391674 = omega arith in inr is)

module _ (noted : ℕ) (apart : AreApart noted) (x c : List ℕ) (same : SameOutside (table_of noted).base (size_of (table_of noted)) x c) where
  pub others-same : (kind : ℕ) → Contains all_kinds kind → kind ≢ noted → table_in kind c ≡ table_in kind x
  others-same kind there ne = table-apart kind (table_of noted).base (size_of (table_of noted)) x c same (apart kind there ne)

  pub numbers-same : (number_of c FIRST_OVER ≡ number_of x FIRST_OVER) × (number_of c OVER_COUNT ≡ number_of x OVER_COUNT)
  numbers-same = (
    number_before (table_of noted).base (size_of (table_of noted)) 572 4 x c same (before-tables (table_of noted).base 572 (table_inside noted).0 first-low),
    number_before (table_of noted).base (size_of (table_of noted)) 576 4 x c same (before-tables (table_of noted).base 576 (table_inside noted).0 count-low),
  )

-- AN OVER SPEEDING was noted: its entry, then the begin of the first one, then their number
pub first-outside : (begin : ℕ) (y : List ℕ) → 580 ≤ length y → SameOutside 572 4 y (with_first begin y)
first-outside begin y long = by (number_at y 572 4 == 0)
  where
    by : (b : Bool) → SameOutside 572 4 y (cond b (put 572 (to_be_bytes w32 begin) y) y)
    by true = put_outside 572 (to_be_bytes w32 begin) y (omega (arith, long))
    by false = outside_same 572 4 y

pub more-outside : (y : List ℕ) → 580 ≤ length y → SameOutside 576 4 y (with_one_more y)
more-outside y long = by (nat_lt (number_at y 576 4) 255)
  where
    by : (b : Bool) → SameOutside 576 4 y (cond b (put 576 (to_be_bytes w32 (number_at y 576 4 + 1)) y) y)
    by true = put_outside 576 (to_be_bytes w32 (number_at y 576 4 + 1)) y (omega (arith, long))
    by false = outside_same 576 4 y

pub first-value : (begin : ℕ) (y : List ℕ) → 580 ≤ length y → begin < 2 ^ 32 → number_of (with_first begin y) FIRST_OVER ≡ cond (number_at y 572 4 == 0) begin (number_at y 572 4)
first-value begin y long small = by (number_at y 572 4 == 0)
  where
    by : (b : Bool) → number_at (cond b (put 572 (to_be_bytes w32 begin) y) y) 572 4 ≡ cond b begin (number_at y 572 4)
    by true = number_put4 572 begin y (omega (arith, long)) (omega (arith, small))
    by false = refl

pub more-value : (y : List ℕ) → 580 ≤ length y → number_of y OVER_COUNT ≤ 255 → number_of (with_one_more y) OVER_COUNT ≡ min 255 (number_of y OVER_COUNT + 1)
more-value y long few = by (nat_lt (number_at y 576 4) 255) refl
  where
    by : (b : Bool) → nat_lt (number_at y 576 4) 255 ≡ b → number_at (cond b (put 576 (to_be_bytes w32 (number_at y 576 4 + 1)) y) y) 576 4 ≡ min 255 (number_at y 576 4 + 1)
    by true less =
        let small : number_at y 576 4 < 255 = ltb-true (number_at y 576 4) 255 less in
        let put_is = number_put4 576 (number_at y 576 4 + 1) y (omega (arith, long)) (omega (arith, small)) in
        put_is ∙ omega (arith, small)
    by false more = let large : 255 ≤ number_at y 576 4 = ltb-false (number_at y 576 4) 255 more in omega (arith, large, few)

module _ (begin : ℕ) (front x : List ℕ) (long : length x ≡ 2485808) where
  pub tables-first : (y c : List ℕ) → 580 ≤ length y → c ≡ with_first begin y → (kind : ℕ) → table_in kind c ≡ table_in kind y
  tables-first y c some is kind =
      let low = (table_inside kind).0 in
      ap (table_in kind) is ∙ table-apart kind 572 4 y (with_first begin y) (first-outside begin y some) (inr (before-tables (table_of kind).base 572 low first-low))

  pub tables-both : (y c : List ℕ) → 580 ≤ length y → c ≡ with_one_more (with_first begin y) → (kind : ℕ) → table_in kind c ≡ table_in kind y
  tables-both y c some is kind =
      let low = (table_inside kind).0 in
      let more : 580 ≤ length (with_first begin y) = omega (arith, some, (first-outside begin y some).same_length) in
      ap (table_in kind) is ∙ table-apart kind 576 4 (with_first begin y) (with_one_more (with_first begin y)) (more-outside (with_first begin y) more) (inr (before-tables (table_of kind).base 576 low count-low))
      ∙ tables-first y (with_first begin y) some refl kind

  pub enough : (y : List ℕ) → IsEventNoted 0x07 front x y → 580 ≤ length y
  enough y done = omega (arith, long, done.outside.same_length)
