-- In an image that decodes the days come one after the other.
use Rattle.std.proofs.Common.{◌≡◌, ℕ, zero, suc, ◌+◌, ◌-◌, ◌%◌, ◌<◌, ◌≤◌, Bool, true, false, cond, List, [], ◌∷◌, ◌++◌, map, filter, refl, sym, ◌∙◌, ap, subst, arith, append_assoc}
use Rattle.std.specs.Prelude.{◌&&◌, nat_le, nat_lt}
use Rattle.std.specs.List.{list_all, range_with_len}
use Rattle.std.proofs.lemmas.Bool.Decides.{nat_tests}
use Rattle.std.proofs.lemmas.List.{append-nil}
use Rattle.std.proofs.lemmas.List.Elements.{filter-append}
use Rattle.gated_ring.specs.Ring.{pointer, is_there}
use Rattle.gated_ring.proofs.Orders.{range_split, filter_last, filter_short}
use Rattle.unit_model.specs.declared.layout.TheConstants.{DAY_SLOTS}
use Rattle.unit_model.specs.Days.{StoredDay, day_of, Each}
use Rattle.unit_model.specs.Image.{day_ring, indices, slot_date}
use Rattle.unit_model.specs.Decoding.{indices_before}
use Rattle.unit_model.proofs.Decoded.{IsDecoded}
use Rattle.unit_model.proofs.Finding.{dated, list_is}
use Rattle.unit_model.proofs.Recorded.{date_in}
use Rattle.unit_model.proofs.Slots.{day_at}

-- each of these is later than those before it
abbrev pub AreRising : (date : ℕ → ℕ) → (before js : List ℕ) → Type 0
AreRising date before [] = Unit {0}
AreRising date before (j ∷ js) = (list_all (λ i. nat_lt (date i) (date j)) before ≡ true) × AreRising date (before ++ j ∷ []) js

-- each day is earlier than the next one
abbrev pub AreInOrder : List StoredDay → Type 0
AreInOrder [] = Unit {0}
AreInOrder (d ∷ []) = Unit {0}
AreInOrder (d ∷ e ∷ days) = (day_of d < day_of e) × AreInOrder (e ∷ days)

rising_append : (date : ℕ → ℕ) (before a b : List ℕ) → AreRising date before a → AreRising date (before ++ a) b → AreRising date before (a ++ b)
rising_append date before [] b first next = subst (λ (l : List ℕ). AreRising date l b) (append-nil before) next
rising_append date before (j ∷ a) b first next =
    (first.0, rising_append date (before ++ j ∷ []) a b first.1 (subst (λ (l : List ℕ). AreRising date l b) (sym (append_assoc before (j ∷ []) a)) next))

pub rising_front : (date : ℕ → ℕ) (before a b : List ℕ) → AreRising date before (a ++ b) → AreRising date before a
rising_front date before [] b all = tt
rising_front date before (j ∷ a) b all = (all.0, rising_front date (before ++ j ∷ []) a b all.1)

le_true : (a b : ℕ) → a ≤ b → nat_le a b ≡ true
le_true a b is = grind (arith, nat_tests)

le_false : (a b : ℕ) → b < a → nat_le a b ≡ false
le_false a b is = grind (arith, nat_tests)

module _ (x : List ℕ) (ok : IsDecoded x) where
  abbrev p : ℕ
  p = pointer day_ring x

  abbrev t : ℕ → Bool
  t = is_there day_ring x

  abbrev date : ℕ → ℕ
  date = slot_date x

  -- a part of the turn, where those before each are known
  rising_range : (front : ℕ → List ℕ) (a n : ℕ) → a + n ≤ DAY_SLOTS → ((j : ℕ) → a ≤ j → j < a + n → (indices_before x j ≡ filter t (front j)) × (front (j + 1) ≡ front j ++ j ∷ []))
      → AreRising date (filter t (front a)) (filter t (range_with_len a n))
  rising_range front a zero fits known = tt
  rising_range front a (suc n) fits known =
      by (rising_range front (a + 1) n (omega (arith, fits)) (λ j low high. known j (omega (arith, low)) (omega (arith, high)))) (t a) refl
    where
      here : (indices_before x a ≡ filter t (front a)) × (front (a + 1) ≡ front a ++ a ∷ [])
      here = known a (omega arith) (omega arith)

      by : AreRising date (filter t (front (a + 1))) (filter t (range_with_len (a + 1) n)) → (b : Bool) → t a ≡ b → AreRising date (filter t (front a)) (cond b (a ∷ filter t (range_with_len (a + 1) n)) (filter t (range_with_len (a + 1) n)))
      by rest true on = (
        (dated x ok a (filter t (front a)) (omega (arith, fits)) on here.0).order,
        subst (λ (l : List ℕ). AreRising date l (filter t (range_with_len (a + 1) n))) (ap (filter t) here.1 ∙ filter_last t (front a) a on) rest,
      )
      by rest false off = subst (λ (l : List ℕ). AreRising date l (filter t (range_with_len (a + 1) n))) (ap (filter t) here.1 ∙ filter_short t (front a) a off) rest

  abbrev R : List ℕ
  R = range_with_len (p + 1) (DAY_SLOTS - (p + 1))

  range_push : (a j : ℕ) → a ≤ j → range_with_len a (j + 1 - a) ≡ range_with_len a (j - a) ++ j ∷ []
  range_push a j le =
      ap (range_with_len a) (let e : j + 1 - a ≡ (j - a) + 1 = omega (arith, le) in e) ∙ range_split a (j - a) 1
      ∙ ap (λ (v : ℕ). range_with_len a (j - a) ++ v ∷ []) (let e : a + (j - a) ≡ j = omega (arith, le) in e)

  first_part : AreRising date [] (filter t R)
  first_part = subst (λ (n : ℕ). AreRising date (filter t (range_with_len (p + 1) n)) (filter t R)) (let e : p + 1 - (p + 1) ≡ 0 = omega arith in e)
      (rising_range (λ j. range_with_len (p + 1) (j - (p + 1))) (p + 1) (DAY_SLOTS - (p + 1)) (omega (arith, ok.known)) (λ j low high. (
        ap (λ (b : Bool). filter t (cond b (range_with_len (p + 1) (j - (p + 1))) (R ++ range_with_len 0 j))) (le_true (p + 1) j low),
        range_push (p + 1) j low,
      )))

  second_part : AreRising date (filter t R) (filter t (range_with_len 0 p))
  second_part = subst (λ (l : List ℕ). AreRising date (filter t l) (filter t (range_with_len 0 p))) (append-nil R)
      (rising_range (λ j. R ++ range_with_len 0 j) 0 p (omega (arith, ok.known)) (λ j low high. (
        ap (λ (b : Bool). filter t (cond b (range_with_len (p + 1) (j - (p + 1))) (R ++ range_with_len 0 j))) (le_false (p + 1) j (omega (arith, high))),
        ap (λ (l : List ℕ). R ++ l) (range_split 0 j 1 ∙ ap (λ (v : ℕ). range_with_len 0 j ++ v ∷ []) (let e : 0 + j ≡ j = omega arith in e)) ∙ sym (append_assoc R (range_with_len 0 j) (j ∷ [])),
      )))

  last_part : AreRising date (filter t (R ++ range_with_len 0 p)) (filter t (p ∷ []))
  last_part = by (t p) refl
    where
      before : indices_before x p ≡ filter t (R ++ range_with_len 0 p)
      before = ap (λ (b : Bool). filter t (cond b (range_with_len (p + 1) (p - (p + 1))) (R ++ range_with_len 0 p))) (le_false (p + 1) p (omega arith))

      by : (b : Bool) → t p ≡ b → AreRising date (filter t (R ++ range_with_len 0 p)) (cond b (p ∷ []) [])
      by true on = ((dated x ok p (filter t (R ++ range_with_len 0 p)) ok.known on before).order, tt)
      by false off = tt

  pub all_rising : AreRising date [] (indices x)
  all_rising = subst (AreRising date []) (sym (list_is x ok ∙ filter-append t (R ++ range_with_len 0 p) (p ∷ [])))
      (rising_append date [] (filter t (R ++ range_with_len 0 p)) (filter t (p ∷ []))
      (subst (AreRising date []) (sym (filter-append t R (range_with_len 0 p))) (rising_append date [] (filter t R) (filter t (range_with_len 0 p)) first_part second_part))
      last_part)

both_true : (a b : Bool) → (a && b) ≡ true → (a ≡ true) × (b ≡ true)
both_true true b is = (refl, is)
both_true false b is = absurd (cc)

lt_of : (a b : ℕ) → nat_lt a b ≡ true → a < b
lt_of a b is = grind (arith, nat_tests)

last_less : (date : ℕ → ℕ) (before : List ℕ) (i j : ℕ) → list_all (λ h. nat_lt (date h) (date j)) (before ++ i ∷ []) ≡ true → date i < date j
last_less date [] i j all = lt_of (date i) (date j) (both_true (nat_lt (date i) (date j)) true all).0
last_less date (h ∷ before) i j all = last_less date before i j (both_true (nat_lt (date h) (date j)) (list_all (λ g. nat_lt (date g) (date j)) (before ++ i ∷ [])) all).1

-- so are the days of such slots
pub in_turn : (x : List ℕ) (before js : List ℕ) → Each (λ j. slot_date x j % 86400 ≡ 0) js → AreRising (slot_date x) before js → AreInOrder (map (day_at x) js)
in_turn x before [] whole rising = tt
in_turn x before (i ∷ []) whole rising = tt
in_turn x before (i ∷ j ∷ js) whole rising = (
  omega (arith, last_less (slot_date x) before i j rising.1.0, whole.0, whole.1.0, date_in x i, date_in x j),
  in_turn x (before ++ i ∷ []) (j ∷ js) whole.1 rising.1,
)
