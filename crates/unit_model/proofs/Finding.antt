-- What is found in an image that decodes: the last-kept minute's day is the last of the list, but for a later day at the pointer.
use Rattle.std.proofs.Common.{◌≡◌, ◌≢◌, ◌⊎◌, inl, inr, ⊎_elim, ℕ, zero, suc, ◌+◌, ◌-◌, ◌/◌, ◌%◌, ◌<◌, ◌≤◌, Bool, true, false, cond, List, [], ◌∷◌, ◌++◌, length, map, filter, drop, Option, Some, None, refl, sym, ◌∙◌, ap, subst, arith, append_assoc, length-append}
use Rattle.std.specs.Prelude.{◌==◌, ◌&&◌, ◌||◌, nat_le, nat_lt, if◌then◌else◌, MatchOption}
use Rattle.std.specs.List.{list_all, range_with_len}
use Rattle.std.proofs.lemmas.Bool.Decides.{nat_tests}
use Rattle.std.proofs.lemmas.Bool.{cases_lt}
use Rattle.std.proofs.lemmas.List.{append-nil, length-map}
use Rattle.gated_ring.specs.Ring.{number_at, pointer, is_there, entry_at, next, order, taken, indices as ring_indices}
use Rattle.gated_ring.proofs.Orders as orders
use Rattle.gated_ring.proofs.Orders.{order_first, order_last, rest_each, range_split, filter_last, filter_short}
use Rattle.unit_model.specs.declared.layout.TheConstants.{DAY_SLOTS, DAY_SLOT_SIZE}
use Rattle.unit_model.specs.Days.{day_of, Each}
use Rattle.unit_model.specs.Image.{last_kept, day_ring, slot_place, unit_day, indices, slot_date}
use Rattle.unit_model.specs.Decoding.{are_dense, is_filled_on, is_last_good, is_date_good, indices_before, slot_day}
use Rattle.unit_model.proofs.Decoded.{IsDecoded}
use Rattle.unit_model.specs.Writing.{behind_index}
use Rattle.unit_model.specs.Image.{stray_list, stray_of}
use Rattle.unit_model.proofs.Numbers.{number_in}
use Rattle.unit_model.proofs.Turning.{behind_length}

pub eq_of : (a b : ℕ) → (a == b) ≡ true → a ≡ b
eq_of a b is = grind (arith, nat_tests)

ne_of : (a b : ℕ) → (a == b) ≡ false → a ≢ b
ne_of a b is = grind (arith, nat_tests)

ne_true : (a b : ℕ) → a ≢ b → (a == b) ≡ false
ne_true a b is = grind (arith, nat_tests)

lt_of : (a b : ℕ) → nat_lt a b ≡ true → a < b
lt_of a b is = grind (arith, nat_tests)

le_of : (a b : ℕ) → nat_le a b ≡ true → a ≤ b
le_of a b is = grind (arith, nat_tests)

gt_of : (a b : ℕ) → nat_le a b ≡ false → b < a
gt_of a b is = grind (arith, nat_tests)

le_true : (a b : ℕ) → a ≤ b → nat_le a b ≡ true
le_true a b is = grind (arith, nat_tests)

le_false : (a b : ℕ) → b < a → nat_le a b ≡ false
le_false a b is = grind (arith, nat_tests)

same_true : (a : ℕ) → (a == a) ≡ true
same_true a = grind (arith, nat_tests)

or_same : (b : Bool) (a : ℕ) → (b || a == a) ≡ true
or_same true a = refl
or_same false a = same_true a

both_true : (a b : Bool) → (a && b) ≡ true → (a ≡ true) × (b ≡ true)
both_true true b is = (refl, is)
both_true false b is = absurd (cc)

either : (a b : Bool) → (a || b) ≡ true → (a ≡ true) ⊎ (b ≡ true)
either true b is = inl refl
either false b is = inr is

-- slots that stand close together are a tail of those before the pointer's
filled_all : (t : ℕ → Bool) (B : List ℕ) (p : ℕ) → is_filled_on (map t (B ++ p ∷ [])) ≡ true → filter t B ≡ B
filled_all t [] p is = refl
filled_all t (b ∷ B) p is = by (t b) refl (filled_all t B p)
  where
    by : (v : Bool) → t b ≡ v → (is_filled_on (map t (B ++ p ∷ [])) ≡ true → filter t B ≡ B) → filter t (b ∷ B) ≡ b ∷ B
    by true on rest =
        let more : is_filled_on (map t (B ++ p ∷ [])) ≡ true = sym (ap (λ (v : Bool). is_filled_on (v ∷ map t (B ++ p ∷ []))) on) ∙ is in
        ap (λ (v : Bool). cond v (b ∷ filter t B) (filter t B)) on ∙ ap (λ (l : List ℕ). b ∷ l) (rest more)
    by false off rest =
        let none : (length (map t (B ++ p ∷ [])) == 0) ≡ true = sym (ap (λ (v : Bool). is_filled_on (v ∷ map t (B ++ p ∷ []))) off) ∙ is in
        let zero_length : length (map t (B ++ p ∷ [])) ≡ 0 = grind (arith, nat_tests, none) in
        absurd (omega (arith, zero_length, length-map (B ++ p ∷ []) t, length-append B (p ∷ [])))

pub dense_tail : (t : ℕ → Bool) (B : List ℕ) (p : ℕ) → are_dense (map t (B ++ p ∷ [])) ≡ true → (n : ℕ) × (n ≤ length B) × (filter t B ≡ drop n B)
dense_tail t [] p is = (0, omega arith, refl)
dense_tail t (b ∷ B) p is = by (t b) refl (dense_tail t B p)
  where
    by : (v : Bool) → t b ≡ v → (are_dense (map t (B ++ p ∷ [])) ≡ true → (n : ℕ) × (n ≤ length B) × (filter t B ≡ drop n B)) → (n : ℕ) × (n ≤ length (b ∷ B)) × (filter t (b ∷ B) ≡ drop n (b ∷ B))
    by true on rest =
        let more : is_filled_on (map t (B ++ p ∷ [])) ≡ true = sym (ap (λ (v : Bool). are_dense (v ∷ map t (B ++ p ∷ []))) on) ∙ is in
        (0, omega arith, ap (λ (v : Bool). cond v (b ∷ filter t B) (filter t B)) on ∙ ap (λ (l : List ℕ). b ∷ l) (filled_all t B p more))
    by false off rest =
        let more : are_dense (map t (B ++ p ∷ [])) ≡ true = sym (ap (λ (v : Bool). are_dense (v ∷ map t (B ++ p ∷ []))) off) ∙ is in
        let tail = rest more in
        (suc tail.0, omega (arith, tail.1), ap (λ (v : Bool). cond v (b ∷ filter t B) (filter t B)) off ∙ tail.2)

-- a test of all that are there, at one of a range
all_at : (t P : ℕ → Bool) (a n : ℕ) → list_all P (filter t (range_with_len a n)) ≡ true → (i : ℕ) → a ≤ i → i < a + n → t i ≡ true → P i ≡ true
all_at t P a zero all i low high there = absurd (omega (arith, low, high))
all_at t P a (suc n) all i low high there = by (λ more later. all_at t P (a + 1) n more i later (omega (arith, high)) there) (t a) refl
  where
    rest : (list_all P (filter t (range_with_len (a + 1) n)) ≡ true → a + 1 ≤ i → P i ≡ true) → list_all P (filter t (range_with_len (a + 1) n)) ≡ true → (P i ≡ true) ⊎ (i ≡ a)
    rest again more = ⊎_elim (λ later. inl (again more (omega (arith, later)))) (λ here. inr (omega (arith, here, low))) (cases_lt a i)

    by : (list_all P (filter t (range_with_len (a + 1) n)) ≡ true → a + 1 ≤ i → P i ≡ true) → (v : Bool) → t a ≡ v → P i ≡ true
    by again true on =
        let both = both_true (P a) (list_all P (filter t (range_with_len (a + 1) n))) (sym (ap (λ (v : Bool). list_all P (cond v (a ∷ filter t (range_with_len (a + 1) n)) (filter t (range_with_len (a + 1) n)))) on) ∙ all) in
        ⊎_elim (λ found. found) (λ here. ap P here ∙ both.0) (rest again both.1)
    by again false off =
        let more : list_all P (filter t (range_with_len (a + 1) n)) ≡ true = sym (ap (λ (v : Bool). list_all P (cond v (a ∷ filter t (range_with_len (a + 1) n)) (filter t (range_with_len (a + 1) n)))) off) ∙ all in
        ⊎_elim (λ found. found) (λ here. let bad : true ≡ false = sym there ∙ ap t here ∙ off in absurd (cc)) (rest again more)

all_split : (P : ℕ → Bool) (a b : List ℕ) → list_all P (a ++ b) ≡ true → (list_all P a ≡ true) × (list_all P b ≡ true)
all_split P [] b all = (refl, all)
all_split P (x ∷ xs) b all =
    let both = both_true (P x) (list_all P (xs ++ b)) all in
    let rest = all_split P xs b both.1 in
    (ap (λ (v : Bool). v && list_all P xs) both.0 ∙ rest.0, rest.1)

filter_split : (t : ℕ → Bool) (a b : List ℕ) → filter t (a ++ b) ≡ filter t a ++ filter t b
filter_split t a b = Rattle.std.proofs.lemmas.List.Elements.filter-append t a b

all_map : (P : ℕ → Bool) (f : ℕ → ℕ) (l : List ℕ) → list_all P (map f l) ≡ list_all (λ i. P (f i)) l
all_map P f [] = refl
all_map P f (x ∷ xs) = ap (λ (v : Bool). P (f x) && v) (all_map P f xs)

all_weaker : (P Q : ℕ → Bool) → ((i : ℕ) → P i ≡ true → Q i ≡ true) → (l : List ℕ) → list_all P l ≡ true → list_all Q l ≡ true
all_weaker P Q weaker [] all = refl
all_weaker P Q weaker (y ∷ l) all =
    let both = both_true (P y) (list_all P l) all in ap (λ (v : Bool). v && list_all Q l) (weaker y both.0) ∙ all_weaker P Q weaker l both.1

pub each_last : (P : ℕ → Type 0) (a : List ℕ) (v : ℕ) → Each P (a ++ v ∷ []) → P v
each_last P [] v each = each.0
each_last P (y ∷ a) v each = each_last P a v each.1

pub all_there : (t : ℕ → Bool) (l : List ℕ) → Each (λ j. t j ≡ true) (filter t l)
all_there t [] = tt
all_there t (y ∷ l) = by (t y) refl (all_there t l)
  where
    by : (b : Bool) → t y ≡ b → Each (λ j. t j ≡ true) (filter t l) → Each (λ j. t j ≡ true) (filter t (y ∷ l))
    by true on rest = subst (λ (b : Bool). Each (λ j. t j ≡ true) (cond b (y ∷ filter t l) (filter t l))) (sym on) (on, rest)
    by false off rest = subst (λ (b : Bool). Each (λ j. t j ≡ true) (cond b (y ∷ filter t l) (filter t l))) (sym off) rest

pub last_good_at : (x : List ℕ) (q : ℕ) (a : List ℕ) (v : ℕ) → is_last_good x q (a ++ v ∷ []) ≡ (nat_le (slot_day x v) (last_kept x / 1440) || v == q)
last_good_at x q [] v = refl
last_good_at x q (y ∷ []) v = refl
last_good_at x q (y ∷ z ∷ a) v = last_good_at x q (z ∷ a) v

each_drop_n : (P : ℕ → Type 0) (m : ℕ) (js : List ℕ) → Each P js → Each P (drop m js)
each_drop_n P zero js all = all
each_drop_n P (suc m) [] all = tt
each_drop_n P (suc m) (j ∷ js) all = each_drop_n P m js all.1

each_from : (P : ℕ → Type 0) (js : List ℕ) → orders.Each P js → Each P js
each_from P [] all = tt
each_from P (j ∷ js) all = (all.0, each_from P js all.1)

-- the days of indices whose dates are all before one
days_before_date : (x : List ℕ) (d k : ℕ) (l : List ℕ) → d / 86400 ≡ k → d % 86400 ≡ 0 → list_all (λ i. nat_lt (slot_date x i) d) l ≡ true → Each (λ e. day_of e < k) (map (λ i. unit_day (entry_at day_ring x i)) l)
days_before_date x d k [] day whole all = tt
days_before_date x d k (i ∷ l) day whole all =
    let both = both_true (nat_lt (slot_date x i) d) (list_all (λ i. nat_lt (slot_date x i) d) l) all in
    let less : slot_date x i < d = grind (arith, nat_tests, both.0) in
    let same : number_at (entry_at day_ring x i) 0 4 ≡ slot_date x i = number_in x (slot_place i) DAY_SLOT_SIZE 0 4 (omega arith) ∙ ap (λ (q : ℕ). number_at x q 4) (let e : slot_place i + 0 ≡ slot_place i = omega arith in e) in
    (omega (arith, same, less, day, whole), days_before_date x d k l day whole both.1)

-- where the last-kept minute's day stands, and the later day behind it
pub record IsPlaced (x : List ℕ) (i : ℕ) (stray : Option ℕ) (older : List ℕ) : Type 0 where
  pub order_is : indices x ≡ (older ++ i ∷ []) ++ stray_list stray
  pub next_is : MatchOption stray (taken day_ring x ≡ next day_ring i) (λ s. s ≡ next day_ring i)
  pub dense : (missing : ℕ) × (missing ≤ (DAY_SLOTS - 1)) × (older ≡ drop missing (behind_index i))
  pub others : Each (λ j. (j < DAY_SLOTS) × (j ≢ i)) older
  pub earlier : Each (λ d. day_of d < last_kept x / 1440) (map (λ i. unit_day (entry_at day_ring x i)) older)

module _ (x : List ℕ) (ok : IsDecoded x) where
  abbrev p : ℕ
  p = pointer day_ring x

  abbrev t : ℕ → Bool
  t = is_there day_ring x

  abbrev K : ℕ
  K = last_kept x / 1440

  abbrev date : ℕ → ℕ
  date = slot_date x

  abbrev B : List ℕ
  B = behind_index p

  abbrev F : List ℕ
  F = filter t B

  -- the index before the pointer, round the end
  abbrev u : ℕ
  u = if p == 0 then (DAY_SLOTS - 1) else p - 1

  known : p < DAY_SLOTS
  known = ok.known

  u_below : u < DAY_SLOTS
  u_below = by (p == 0)
    where
      by : (b : Bool) → cond b (DAY_SLOTS - 1) (p - 1) < DAY_SLOTS
      by true = omega arith
      by false = omega (arith, known)

  u_next : next day_ring u ≡ p
  u_next = by (p == 0) refl
    where
      by : (b : Bool) → (p == 0) ≡ b → next day_ring (cond b (DAY_SLOTS - 1) (p - 1)) ≡ p
      by true is = let none : p ≡ 0 = grind (arith, nat_tests, is) in sym none
      by false is =
          let some : p ≢ 0 = grind (arith, nat_tests, is) in
          let one : p - 1 + 1 ≡ p = omega (arith, some) in
          let off : (p - 1 + 1 == DAY_SLOTS) ≡ false = grind (arith, nat_tests, one, known) in
          ap (λ (b : Bool). cond b 0 (p - 1 + 1)) off ∙ one

  u_other : u ≢ p
  u_other is = by (p == 0) refl is
    where
      by : (b : Bool) → (p == 0) ≡ b → cond b (DAY_SLOTS - 1) (p - 1) ≡ p → ⊥
      by true zero_p same = let none : p ≡ 0 = grind (arith, nat_tests, zero_p) in absurd (omega (arith, none, same))
      by false some_p same = let some : p ≢ 0 = grind (arith, nat_tests, some_p) in absurd (omega (arith, some, same))

  -- the list of the slots
  pub list_is : indices x ≡ filter t (B ++ p ∷ [])
  unfolding indices ring_indices
  list_is = ap (filter t) (order_last day_ring p known)

  list_there : t p ≡ true → indices x ≡ F ++ p ∷ []
  list_there there = list_is ∙ filter_last t B p there

  list_shut : t p ≡ false → indices x ≡ F
  list_shut shut = list_is ∙ filter_short t B p shut

  tail : (n : ℕ) × (n ≤ length B) × (F ≡ drop n B)
  tail = dense_tail t B p (ap (λ (l : List ℕ). are_dense (map t l)) (sym (order_last day_ring p known)) ∙ ok.dense)

  abbrev n : ℕ
  n = tail.0

  -- the indices behind p end with the one before it
  turned : behind_index u ++ u ∷ [] ≡ p ∷ B
  turned = sym (order_last day_ring u u_below) ∙ ap (order day_ring) u_next ∙ order_first day_ring p known

  drop_append : (m : ℕ) (a b : List ℕ) → m ≤ length a → drop m (a ++ b) ≡ drop m a ++ b
  drop_append zero a b le = refl
  drop_append (suc m) [] b le = absurd (omega arith)
  drop_append (suc m) (y ∷ a) b le = drop_append m a b (omega arith)

  drop_none : (m : ℕ) (a : List ℕ) → length a ≤ m → drop m a ≡ []
  drop_none m a le = Rattle.std.proofs.lemmas.List.drop_all m a le

  F_ends : n ≤ 364 → F ≡ drop (suc n) (behind_index u) ++ u ∷ []
  F_ends le = tail.2 ∙ ap (drop (suc n)) (sym turned) ∙ drop_append (suc n) (behind_index u) (u ∷ []) (omega (arith, le, behind_length u u_below))

  F_none : (DAY_SLOTS - 1) ≤ n → F ≡ []
  F_none le = tail.2 ∙ drop_none n B (omega (arith, le, behind_length p known))

  -- the indices before those two
  before_p : indices_before x p ≡ F
  before_p =
      let off : nat_le (p + 1) p ≡ false = le_false (p + 1) p (omega arith) in
      ap (λ (b : Bool). filter t (cond b (range_with_len (p + 1) (p - (p + 1))) (range_with_len (p + 1) (DAY_SLOTS - (p + 1)) ++ range_with_len 0 p))) off

  abbrev U : List ℕ
  U = if nat_le (p + 1) u then range_with_len (p + 1) (u - (p + 1)) else range_with_len (p + 1) (DAY_SLOTS - (p + 1)) ++ range_with_len 0 u

  before_u : indices_before x u ≡ filter t U
  before_u = refl

  abbrev Cut : ℕ → List ℕ
  Cut v = if nat_le (p + 1) v then range_with_len (p + 1) (v - (p + 1)) else range_with_len (p + 1) (DAY_SLOTS - (p + 1)) ++ range_with_len 0 v

  B_is : B ≡ U ++ u ∷ []
  B_is = by (p == 0) refl
    where
      by : (b : Bool) → (p == 0) ≡ b → B ≡ Cut (cond b (DAY_SLOTS - 1) (p - 1)) ++ cond b (DAY_SLOTS - 1) (p - 1) ∷ []
      by true is =
          let none : p ≡ 0 = eq_of p 0 is in
          let on : nat_le (p + 1) (DAY_SLOTS - 1) ≡ true = le_true (p + 1) (DAY_SLOTS - 1) (omega (arith, none)) in
          ap (λ (q : ℕ). range_with_len (q + 1) (DAY_SLOTS - (q + 1)) ++ range_with_len 0 q) none
          ∙ append-nil (range_with_len 1 (DAY_SLOTS - 1)) ∙ range_split 1 364 1
          ∙ ap (λ (q : ℕ). range_with_len (q + 1) ((DAY_SLOTS - 1) - (q + 1)) ++ (DAY_SLOTS - 1) ∷ []) (sym none)
          ∙ ap (λ (b : Bool). cond b (range_with_len (p + 1) ((DAY_SLOTS - 1) - (p + 1))) (range_with_len (p + 1) (DAY_SLOTS - (p + 1)) ++ range_with_len 0 (DAY_SLOTS - 1)) ++ (DAY_SLOTS - 1) ∷ []) (sym on)
      by false is =
          let some : p ≢ 0 = ne_of p 0 is in
          let one : p ≡ p - 1 + 1 = omega (arith, some) in
          let off : nat_le (p + 1) (p - 1) ≡ false = le_false (p + 1) (p - 1) (omega arith) in
          ap (λ (q : ℕ). range_with_len (p + 1) (DAY_SLOTS - (p + 1)) ++ range_with_len 0 q) one
          ∙ ap (λ (l : List ℕ). range_with_len (p + 1) (DAY_SLOTS - (p + 1)) ++ l) (range_split 0 (p - 1) 1 ∙ ap (λ (q : ℕ). range_with_len 0 (p - 1) ++ q ∷ []) (let e : 0 + (p - 1) ≡ p - 1 = omega arith in e))
          ∙ sym (append_assoc (range_with_len (p + 1) (DAY_SLOTS - (p + 1))) (range_with_len 0 (p - 1)) ((p - 1) ∷ []))
          ∙ ap (λ (b : Bool). cond b (range_with_len (p + 1) (p - 1 - (p + 1))) (range_with_len (p + 1) (DAY_SLOTS - (p + 1)) ++ range_with_len 0 (p - 1)) ++ (p - 1) ∷ []) (sym off)

  -- a test of all in F, at one that is there
  member_F : (P : ℕ → Bool) → list_all P F ≡ true → (i : ℕ) → i < DAY_SLOTS → i ≢ p → t i ≡ true → P i ≡ true
  member_F P all i below other there =
      let parts = all_split P (filter t (range_with_len (p + 1) (DAY_SLOTS - (p + 1)))) (filter t (range_with_len 0 p)) (ap (list_all P) (sym (filter_split t (range_with_len (p + 1) (DAY_SLOTS - (p + 1))) (range_with_len 0 p))) ∙ all) in
      ⊎_elim
      (λ less. all_at t P 0 p parts.1 i (omega arith) (omega (arith, less)) there)
      (λ more. all_at t P (p + 1) (DAY_SLOTS - (p + 1)) parts.0 i (omega (arith, more, other)) (omega (arith, below, more, other)) there)
      (cases_lt i p)

  member_U : (P : ℕ → Bool) → list_all P (filter t U) ≡ true → (i : ℕ) → i < DAY_SLOTS → i ≢ p → i ≢ u → t i ≡ true → P i ≡ true
  member_U P all i below other apart there =
      let at_u : (P u || u == u) ≡ true = or_same (P u) u in
      let wide : list_all (λ j. P j || j == u) F ≡ true =
      ap (λ (l : List ℕ). list_all (λ j. P j || j == u) (filter t l)) B_is ∙ ap (list_all (λ j. P j || j == u)) (filter_split t U (u ∷ []))
      ∙ all_join (λ j. P j || j == u) (filter t U) (filter t (u ∷ [])) (all_weaker P (λ j. P j || j == u) (λ j holds. ap (λ (v : Bool). v || j == u) holds) (filter t U) all) (one (t u) at_u) in
      ⊎_elim (λ holds. holds) (λ same. absurd (apart (eq_of i u same))) (either (P i) (i == u) (member_F (λ j. P j || j == u) wide i below other there))
    where
      all_join : (Q : ℕ → Bool) (a b : List ℕ) → list_all Q a ≡ true → list_all Q b ≡ true → list_all Q (a ++ b) ≡ true
      all_join Q [] b left right = right
      all_join Q (y ∷ a) b left right = let both = both_true (Q y) (list_all Q a) left in ap (λ (v : Bool). v && list_all Q (a ++ b)) both.0 ∙ all_join Q a b both.1 right

      one : (v : Bool) → (P u || u == u) ≡ true → list_all (λ j. P j || j == u) (cond v (u ∷ []) []) ≡ true
      one true holds = ap (λ (w : Bool). w && true) holds
      one false holds = refl

  -- the date of a slot, and those before it
  pub record IsDated (j : ℕ) (before : List ℕ) : Type 0 where
    pub whole : date j % 86400 ≡ 0
    pub order : list_all (λ i. nat_lt (date i) (date j)) before ≡ true
    pub only : (date j / 86400 ≤ K) ⊎ (list_all (λ i. nat_le (date i / 86400) K) before ≡ true)

  pub dated : (j : ℕ) (before : List ℕ) → j < DAY_SLOTS → t j ≡ true → indices_before x j ≡ before → IsDated j before
  dated j before below there is =
      let slot = ok.slots j below there in
      let good : is_date_good (last_kept x) (map date before) (date j) ≡ true = ap (λ (l : List ℕ). is_date_good (last_kept x) (map date l) (date j)) (sym is) ∙ slot.date in
      let first = both_true (date j % 86400 == 0) (list_all (λ d. nat_lt d (date j)) (map date before) && (nat_le (date j / 86400) K || list_all (λ d. nat_le (d / 86400) K) (map date before))) good in
      let rest = both_true (list_all (λ d. nat_lt d (date j)) (map date before)) (nat_le (date j / 86400) K || list_all (λ d. nat_le (d / 86400) K) (map date before)) first.1 in
      record {
        whole = eq_of (date j % 86400) 0 first.0;
        order = sym (all_map (λ d. nat_lt d (date j)) date before) ∙ rest.0;
        only = ⊎_elim (λ now. inl (le_of (date j / 86400) K now)) (λ all. inr (sym (all_map (λ d. nat_le (d / 86400) K) date before) ∙ all)) (either (nat_le (date j / 86400) K) (list_all (λ d. nat_le (d / 86400) K) (map date before)) rest.1);
      }

  positive : (i : ℕ) → t i ≡ true → 0 < date i
  positive i there =
      let isnt : (date i == 0) ≡ false = opposite (date i == 0) (sym (Rattle.unit_model.proofs.Recorded.there_is x i) ∙ there) in
      let some : date i ≢ 0 = ne_of (date i) 0 isnt in omega (arith, some)
    where
      opposite : (b : Bool) → Rattle.std.proofs.Common.not b ≡ true → b ≡ false
      opposite true is = absurd (cc)
      opposite false is = refl

  less_than : (i j : ℕ) → nat_lt (date i) (date j) ≡ true → date i < date j
  less_than i j is = lt_of (date i) (date j) is

  not_later : (i : ℕ) → nat_le (date i / 86400) K ≡ true → date i / 86400 ≤ K
  not_later i is = le_of (date i / 86400) K is

  u_there : (a : List ℕ) → F ≡ a ++ u ∷ [] → t u ≡ true
  u_there a is = each_last (λ j. t j ≡ true) a u (subst (Each (λ j. t j ≡ true)) is (all_there t B))

  F_not_empty : (i : ℕ) → i < DAY_SLOTS → i ≢ p → t i ≡ true → n ≤ 364
  F_not_empty i below other there = ⊎_elim
      (λ few. omega (arith, few))
      (λ many. let bad : false ≡ true = member_F (λ j. false) (ap (list_all (λ j. false)) (F_none many)) i below other there in absurd (cc))
      (cases_lt n (DAY_SLOTS - 1))

  abbrev older_u : List ℕ
  older_u = drop (suc n) (behind_index u)

  -- F without its last
  U_is : n ≤ 364 → t u ≡ true → filter t U ≡ older_u
  U_is le there =
      let whole : filter t U ++ u ∷ [] ≡ older_u ++ u ∷ [] = sym (ap (filter t) B_is ∙ filter_last t U u there) ∙ F_ends le in
      snoc (filter t U) older_u u whole
    where
      snoc : (a b : List ℕ) (v : ℕ) → a ++ v ∷ [] ≡ b ++ v ∷ [] → a ≡ b
      snoc a b v is =
          let len : length a ≡ length b = omega (arith, ap length is, length-append a (v ∷ []), length-append b (v ∷ [])) in
          sym (Rattle.std.proofs.lemmas.List.take_at a (v ∷ []) (length a) refl) ∙ ap (Rattle.std.proofs.Common.take (length a)) is ∙ Rattle.std.proofs.lemmas.List.take_at b (v ∷ []) (length a) (sym len)

  -- no two later days
  two_later : t p ≡ true → K < date p / 86400 → t u ≡ true → K < date u / 86400 → ⊥
  two_later p_there p_later u_is u_later =
      ⊎_elim
      (λ now. absurd (omega (arith, now, p_later)))
      (λ all. let low : date u / 86400 ≤ K = not_later u (member_F (λ i. nat_le (date i / 86400) K) all u u_below u_other u_is) in absurd (omega (arith, low, u_later)))
      (dated p F known p_there before_p).only

  -- what the pointer's slot says of a later day
  stray_shut : t p ≡ false → stray_of (last_kept x) p (date p) ≡ None
  stray_shut shut = ap (λ (b : Bool). cond b None (cond (nat_le (date p / 86400) K) None (Some p))) (opposite (date p == 0) (sym (Rattle.unit_model.proofs.Recorded.there_is x p) ∙ shut))
    where
      opposite : (b : Bool) → Rattle.std.proofs.Common.not b ≡ false → b ≡ true
      opposite true is = refl
      opposite false is = absurd (cc)

  p_some : t p ≡ true → (date p == 0) ≡ false
  p_some there = let more = positive p there in ne_true (date p) 0 (λ none. absurd (omega (arith, more, none)))

  stray_now : t p ≡ true → date p / 86400 ≤ K → stray_of (last_kept x) p (date p) ≡ None
  stray_now there now =
      let on : nat_le (date p / 86400) K ≡ true = le_true (date p / 86400) K now in
      ap (λ (b : Bool). cond b None (cond (nat_le (date p / 86400) K) None (Some p))) (p_some there) ∙ ap (λ (b : Bool). cond b None (Some p)) on

  stray_later : t p ≡ true → K < date p / 86400 → stray_of (last_kept x) p (date p) ≡ Some p
  stray_later there later =
      let off : nat_le (date p / 86400) K ≡ false = le_false (date p / 86400) K later in
      ap (λ (b : Bool). cond b None (cond (nat_le (date p / 86400) K) None (Some p))) (p_some there) ∙ ap (λ (b : Bool). cond b None (Some p)) off

  taken_there : t p ≡ true → taken day_ring x ≡ next day_ring p
  taken_there there = ap (λ (b : Bool). cond b (next day_ring p) p) there

  taken_shut : t p ≡ false → taken day_ring x ≡ p
  taken_shut shut = ap (λ (b : Bool). cond b (next day_ring p) p) shut

  no_stray : (i : ℕ) (older : List ℕ) → indices x ≡ older ++ i ∷ [] → indices x ≡ (older ++ i ∷ []) ++ stray_list None
  no_stray i older is = is ∙ sym (append-nil (older ++ i ∷ []))

  abbrev Placed : ℕ → Type 0
  Placed i = (older : List ℕ) × IsPlaced x i (stray_of (last_kept x) p (date p)) older

  as_stray : (i : ℕ) (stray : Option ℕ) → stray_of (last_kept x) p (date p) ≡ stray → (older : List ℕ) × IsPlaced x i stray older → Placed i
  as_stray i stray is placed = subst (λ (s : Option ℕ). (older : List ℕ) × IsPlaced x i s older) (sym is) placed

  same_or : (a b : ℕ) → (a ≢ b → ⊥) → a ≡ b
  same_or a b never = by (a == b) refl
    where
      by : (v : Bool) → (a == b) ≡ v → a ≡ b
      by true is = eq_of a b is
      by false is = absurd (never (ne_of a b is))

  whole_of : (j : ℕ) → j < DAY_SLOTS → t j ≡ true → date j % 86400 ≡ 0
  whole_of j j_below j_there = (dated j (indices_before x j) j_below j_there refl).whole

  -- the last-kept minute's day
  module _ (i : ℕ) (below : i < DAY_SLOTS) (there : t i ≡ true) (today : date i / 86400 ≡ K) where
    -- at the pointer
    at_pointer : i ≡ p → t p ≡ true → date p / 86400 ≡ K → Placed p
    at_pointer is p_there p_today =
        let d = dated p F known p_there before_p in
        as_stray p None (stray_now p_there (omega (arith, p_today))) (
          F,
          record {
            order_is = no_stray p F (list_there p_there);
            next_is = taken_there p_there;
            dense = (n, omega (arith, tail.1, behind_length p known), tail.2);
            others = subst (Each (λ j. (j < DAY_SLOTS) × (j ≢ p))) (sym tail.2) (each_drop_n (λ j. (j < DAY_SLOTS) × (j ≢ p)) n B (each_from (λ j. (j < DAY_SLOTS) × (j ≢ p)) B (rest_each day_ring p known)));
            earlier = days_before_date x (date p) K F p_today d.whole d.order;
          },
        )

    -- before the pointer
    dense_u : n ≤ 364 → (missing : ℕ) × (missing ≤ (DAY_SLOTS - 1)) × (older_u ≡ drop missing (behind_index u))
    dense_u le = (suc n, omega (arith, le), refl)

    others_u : Each (λ j. (j < DAY_SLOTS) × (j ≢ u)) older_u
    others_u = each_drop_n (λ j. (j < DAY_SLOTS) × (j ≢ u)) (suc n) (behind_index u) (each_from (λ j. (j < DAY_SLOTS) × (j ≢ u)) (behind_index u) (rest_each day_ring u u_below))

    earlier_u : n ≤ 364 → t u ≡ true → date u / 86400 ≡ K → Each (λ d. day_of d < K) (map (λ i. unit_day (entry_at day_ring x i)) older_u)
    earlier_u le u_is u_today =
        let d = dated u older_u u_below u_is (before_u ∙ U_is le u_is) in days_before_date x (date u) K older_u u_today d.whole d.order

    -- where it isn't u, u is later
    u_later : i ≢ p → i ≢ u → t u ≡ true → K < date u / 86400
    u_later other apart u_is =
        let d = dated u (filter t U) u_below u_is before_u in
        let e = whole_of i below there in
        let less : date i < date u = less_than i u (member_U (λ j. nat_lt (date j) (date u)) d.order i below other apart there) in
        omega (arith, less, e, d.whole, today)

    behind_pointer : t p ≡ false → Placed i
    behind_pointer shut =
        let other : i ≢ p = λ same. let bad : true ≡ false = sym there ∙ ap t same ∙ shut in cc in
        let le = F_not_empty i below other there in
        let ends = F_ends le in
        let u_is = u_there older_u ends in
        let u_now : date u / 86400 ≤ K = ⊎_elim
        (λ now. not_later u now)
        (λ at. absurd (u_other (eq_of u p at)))
        (either (nat_le (date u / 86400) K) (u == p) (sym (ap (is_last_good x p) (list_shut shut ∙ ends) ∙ last_good_at x p older_u u) ∙ ok.last)) in
        let is_u : i ≡ u = same_or i u (λ apart. let later = u_later other apart u_is in omega (arith, later, u_now)) in
        subst Placed (sym is_u) (as_stray u None (stray_shut shut) (
          older_u,
          record {
            order_is = no_stray u older_u (list_shut shut ∙ ends);
            next_is = taken_shut shut ∙ sym u_next;
            dense = dense_u le;
            others = others_u;
            earlier = earlier_u le u_is (ap (λ (j : ℕ). date j / 86400) (sym is_u) ∙ today);
          },
        ))

    with_later : t p ≡ true → K < date p / 86400 → Placed i
    with_later p_there p_later =
        let other : i ≢ p = λ same. let e : date i / 86400 ≡ date p / 86400 = ap (λ (j : ℕ). date j / 86400) same in omega (arith, e, today, p_later) in
        let le = F_not_empty i below other there in
        let ends = F_ends le in
        let u_is = u_there older_u ends in
        let is_u : i ≡ u = same_or i u (λ apart. two_later p_there p_later u_is (u_later other apart u_is)) in
        subst Placed (sym is_u) (as_stray u (Some p) (stray_later p_there p_later) (
          older_u,
          record {
            order_is = list_there p_there ∙ ap (λ (l : List ℕ). l ++ p ∷ []) ends;
            next_is = sym u_next;
            dense = dense_u le;
            others = others_u;
            earlier = earlier_u le u_is (ap (λ (j : ℕ). date j / 86400) (sym is_u) ∙ today);
          },
        ))

    pub placed : Placed i
    placed = by (t p) refl (nat_le (date p / 86400) K) refl
      where
        by : (a : Bool) → t p ≡ a → (b : Bool) → nat_le (date p / 86400) K ≡ b → Placed i
        by false shut b is = behind_pointer shut
        by true p_there false later = with_later p_there (gt_of (date p / 86400) K later)
        by true p_there true now =
            let p_now = not_later p now in
            let is_p : i ≡ p = same_or i p (λ other.
            let d = dated p F known p_there before_p in
            let e = whole_of i below there in
            let less : date i < date p = less_than i p (member_F (λ j. nat_lt (date j) (date p)) d.order i below other there) in
            omega (arith, less, e, d.whole, today, p_now)) in
            subst Placed (sym is_p) (at_pointer is_p p_there (ap (λ (j : ℕ). date j / 86400) (sym is_p) ∙ today))

  -- before the first minute there is a later day at most
  module _ (first : last_kept x ≡ 0) where
    all_later : (j : ℕ) → j < DAY_SLOTS → t j ≡ true → K < date j / 86400
    all_later j below there =
        let whole = (dated j (indices_before x j) below there refl).whole in
        let more = positive j there in
        omega (arith, whole, more, first)

    no_others : (t p ≡ true) ⊎ (t p ≡ false) → F ≡ []
    no_others which = ⊎_elim
        (λ few.
        let le : n ≤ 364 = omega (arith, few) in
        let u_is = u_there older_u (F_ends le) in
        let later = all_later u u_below u_is in
        absurd (⊎_elim
        (λ p_there. two_later p_there (all_later p known p_there) u_is later)
        (λ shut. ⊎_elim
        (λ now. let low = not_later u now in omega (arith, low, later))
        (λ at. u_other (eq_of u p at))
        (either (nat_le (date u / 86400) K) (u == p) (sym (ap (is_last_good x p) (list_shut shut ∙ F_ends le) ∙ last_good_at x p older_u u) ∙ ok.last)))
        which))
        (λ many. F_none many)
        (cases_lt n (DAY_SLOTS - 1))

    pub first_indices : indices x ≡ stray_list (stray_of (last_kept x) p (date p))
    first_indices = by (t p) refl
      where
        by : (a : Bool) → t p ≡ a → indices x ≡ stray_list (stray_of (last_kept x) p (date p))
        by true there =
            list_there there ∙ ap (λ (l : List ℕ). l ++ p ∷ []) (no_others (inl there))
            ∙ ap stray_list (sym (stray_later there (all_later p known there)))
        by false shut = list_shut shut ∙ no_others (inr shut) ∙ ap stray_list (sym (stray_shut shut))

  -- a later day stands at the pointer
  pub apart : MatchOption (stray_of (last_kept x) p (date p)) (Unit {0}) (λ s. (s < DAY_SLOTS) × (p ≡ s) × (K < day_of (unit_day (entry_at day_ring x s))))
  apart = by (date p == 0) (nat_le (date p / 86400) K) refl
    where
      by : (a b : Bool) → nat_le (date p / 86400) K ≡ b → MatchOption (cond a None (cond b None (Some p))) (Unit {0}) (λ s. (s < DAY_SLOTS) × (p ≡ s) × (K < day_of (unit_day (entry_at day_ring x s))))
      by true b is = tt
      by false true is = tt
      by false false is =
          let later : K < date p / 86400 = gt_of (date p / 86400) K is in
          let same : number_at (entry_at day_ring x p) 0 4 ≡ date p = number_in x (slot_place p) DAY_SLOT_SIZE 0 4 (omega arith) ∙ ap (λ (q : ℕ). number_at x q 4) (let e : slot_place p + 0 ≡ slot_place p = omega arith in e) in
          (known, refl, omega (arith, later, same))
