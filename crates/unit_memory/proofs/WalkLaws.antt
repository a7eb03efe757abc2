-- What a walk over day slots says of their dates.
use Rattle.std.proofs.Common.{◌≡◌, ◌⊎◌, inr, ℕ, zero, suc, ◌+◌, ◌-◌, ◌/◌, ◌%◌, ◌<◌, ◌≤◌, max, Bool, true, false, not, cond, List, [], ◌∷◌, ◌++◌, length, map, filter, Option, Some, None, is_some, refl, sym, ◌∙◌, ap, arith, append_assoc}
use Rattle.std.specs.Prelude.{◌==◌, ◌&&◌, ◌||◌, nat_le, nat_lt, flat_map}
use Rattle.std.specs.List.{list_all, list_any, range_with_len}
use Rattle.std.proofs.lemmas.Bool.Decides.{nat_tests}
use Rattle.std.proofs.lemmas.List.{append-nil}
use Rattle.unit_model.specs.gated_ring.Ring.{is_there}
use Rattle.unit_model.specs.Image.{last_kept, day_ring, slot_place, slot_date}
use Rattle.unit_model.specs.Decoding.{are_dense, is_filled_on, is_last_good, is_date_good, slot_day, slot_checks, day_checks, indices_before, Check}
use Rattle.unit_memory.specs.Walks.{after_day, after_gap, with_gap, with_day, next_walk, walk_from}
use Rattle.unit_memory.specs.Judging.{is_whole, date_passes, head_at, day_checks_by, slot_checks_by, slots_by}
use Rattle.unit_memory.specs.declared.walk.Density.{Density}
use Rattle.unit_memory.specs.declared.walk.Density.TheVariants.{Empty, Filled, Ended, Broken}
use Rattle.unit_memory.specs.declared.walk.Walk.{Walk}
use Rattle.unit_model.proofs.Recorded.{there_is}

-- the latest date over more slots; an empty one has date 0
abbrev pub latest_over : List ℕ → ℕ → List ℕ → ℕ
latest_over x l [] = l
latest_over x l (i ∷ is) = latest_over x (max l (slot_date x i)) is

pub latest_append : (x : List ℕ) (l : ℕ) (a b : List ℕ) → latest_over x l (a ++ b) ≡ latest_over x (latest_over x l a) b
latest_append x l [] b = refl
latest_append x l (i ∷ is) b = latest_append x (max l (slot_date x i)) is b

max_zero : (l d : ℕ) → (d == 0) ≡ true → max l d ≡ l
max_zero l d is = let none : d ≡ 0 = grind (arith, nat_tests, is) in omega (arith, none)

-- in one step: of an empty slot, of a day
module _ (day : ℕ) (x : List ℕ) (s : Walk) (i : ℕ) where
  abbrev d : ℕ
  d = slot_date x i

  step_gap : (d == 0) ≡ true → next_walk day s i d ≡ with_gap s
  step_gap is = ap (λ (b : Bool). cond b (with_gap s) (with_day day s i d)) is

  pub step_day : (d == 0) ≡ false → next_walk day s i d ≡ with_day day s i d
  step_day is = ap (λ (b : Bool). cond b (with_gap s) (with_day day s i d)) is

  there_gap : (d == 0) ≡ true → is_there day_ring x i ≡ false
  there_gap is = there_is x i ∙ ap not is

  there_day : (d == 0) ≡ false → is_there day_ring x i ≡ true
  there_day is = there_is x i ∙ ap not is

pub walk_latest : (day : ℕ) (x : List ℕ) (s : Walk) (is : List ℕ) → (walk_from day x s is).latest ≡ latest_over x s.latest is
walk_latest day x s [] = refl
walk_latest day x s (i ∷ is) = walk_latest day x (next_walk day s i (slot_date x i)) is ∙ ap (λ (l : ℕ). latest_over x l is) (by (slot_date x i == 0) refl)
  where
    by : (b : Bool) → (slot_date x i == 0) ≡ b → (next_walk day s i (slot_date x i)).latest ≡ max s.latest (slot_date x i)
    by true is = ap (λ (w : Walk). w.latest) (step_gap day x s i is) ∙ sym (max_zero s.latest (slot_date x i) is)
    by false is = ap (λ (w : Walk). w.latest) (step_day day x s i is)

-- a test of each date before, by the latest of them
pub dates_by : (x : List ℕ) (p : ℕ → Bool) → ((a b : ℕ) → p (max a b) ≡ (p a && p b)) → (l : ℕ) (is : List ℕ)
    → p (latest_over x l is) ≡ (p l && list_all p (map (slot_date x) (filter (is_there day_ring x) is)))
dates_by x p both l [] = end (p l)
  where
    end : (b : Bool) → b ≡ (b && true)
    end true = refl
    end false = refl
dates_by x p both l (i ∷ is) = by (λ m. dates_by x p both m is) (slot_date x i == 0) refl
  where
    three : (a b c : Bool) → ((a && b) && c) ≡ (a && (b && c))
    three true b c = refl
    three false b c = refl

    by : ((m : ℕ) → p (latest_over x m is) ≡ (p m && list_all p (map (slot_date x) (filter (is_there day_ring x) is)))) → (b : Bool) → (slot_date x i == 0) ≡ b
        → p (latest_over x (max l (slot_date x i)) is) ≡ (p l && list_all p (map (slot_date x) (filter (is_there day_ring x) (i ∷ is))))
    by more true none =
        ap (λ (m : ℕ). p (latest_over x m is)) (max_zero l (slot_date x i) none) ∙ more l
        ∙ sym (ap (λ (b : Bool). p l && list_all p (map (slot_date x) (cond b (i ∷ filter (is_there day_ring x) is) (filter (is_there day_ring x) is)))) (there_is x i ∙ ap not none))
    by more false some =
        more (max l (slot_date x i)) ∙ ap (λ (b : Bool). b && list_all p (map (slot_date x) (filter (is_there day_ring x) is))) (both l (slot_date x i))
        ∙ three (p l) (p (slot_date x i)) (list_all p (map (slot_date x) (filter (is_there day_ring x) is)))
        ∙ sym (ap (λ (b : Bool). p l && list_all p (map (slot_date x) (cond b (i ∷ filter (is_there day_ring x) is) (filter (is_there day_ring x) is)))) (there_is x i ∙ ap not some))

-- how they stand
abbrev pub dense_from : Density → List Bool → Bool
dense_from Empty bs = are_dense bs
dense_from Filled bs = is_filled_on bs
dense_from Ended bs = length bs == 0
dense_from Broken bs = false

more_than_none : (n : ℕ) → (suc n == 0) ≡ false
more_than_none n = grind (arith, nat_tests)

gap_more : (d : Density) (bs : List Bool) → dense_from d (false ∷ bs) ≡ dense_from (after_gap d) bs
gap_more Empty bs = refl
gap_more Filled bs = refl
gap_more Ended bs = more_than_none (length bs)
gap_more Broken bs = refl

day_more : (d : Density) (bs : List Bool) → dense_from d (true ∷ bs) ≡ dense_from (after_day d) bs
day_more Empty bs = refl
day_more Filled bs = refl
day_more Ended bs = more_than_none (length bs)
day_more Broken bs = refl

dense_end : (d : Density) → is_whole d ≡ dense_from d []
dense_end Empty = refl
dense_end Filled = refl
dense_end Ended = let e : (0 == 0) ≡ true = grind (arith, nat_tests) in sym e
dense_end Broken = refl

pub walk_density : (day : ℕ) (x : List ℕ) (s : Walk) (is : List ℕ) → is_whole (walk_from day x s is).density ≡ dense_from s.density (map (is_there day_ring x) is)
walk_density day x s [] = dense_end s.density
walk_density day x s (i ∷ is) = walk_density day x (next_walk day s i (slot_date x i)) is ∙ by (slot_date x i == 0) refl
  where
    by : (b : Bool) → (slot_date x i == 0) ≡ b → dense_from (next_walk day s i (slot_date x i)).density (map (is_there day_ring x) is) ≡ dense_from s.density (is_there day_ring x i ∷ map (is_there day_ring x) is)
    by true none =
        ap (λ (w : Walk). dense_from w.density (map (is_there day_ring x) is)) (step_gap day x s i none) ∙ sym (gap_more s.density (map (is_there day_ring x) is))
        ∙ ap (λ (t : Bool). dense_from s.density (t ∷ map (is_there day_ring x) is)) (sym (there_gap day x s i none))
    by false some =
        ap (λ (w : Walk). dense_from w.density (map (is_there day_ring x) is)) (step_day day x s i some) ∙ sym (day_more s.density (map (is_there day_ring x) is))
        ∙ ap (λ (t : Bool). dense_from s.density (t ∷ map (is_there day_ring x) is)) (sym (there_day day x s i some))

-- the last slot that is there
abbrev pub good_last : List ℕ → ℕ → Walk → Bool
good_last x p w = nat_le (w.last_date / 86400) (last_kept x / 1440) || w.last_index == p

abbrev pub last_from : List ℕ → ℕ → Walk → List ℕ → Bool
last_from x p s [] = good_last x p s
last_from x p s (j ∷ js) = is_last_good x p (j ∷ js)

pub walk_last : (day : ℕ) (x : List ℕ) (p : ℕ) (s : Walk) (is : List ℕ) → good_last x p (walk_from day x s is) ≡ last_from x p s (filter (is_there day_ring x) is)
walk_last day x p s [] = refl
walk_last day x p s (i ∷ is) = walk_last day x p (next_walk day s i (slot_date x i)) is ∙ by (slot_date x i == 0) refl
  where
    same : (js : List ℕ) → last_from x p (with_gap s) js ≡ last_from x p s js
    same [] = refl
    same (j ∷ js) = refl

    new : (js : List ℕ) → last_from x p (with_day day s i (slot_date x i)) js ≡ is_last_good x p (i ∷ js)
    new [] = refl
    new (j ∷ js) = refl

    by : (b : Bool) → (slot_date x i == 0) ≡ b → last_from x p (next_walk day s i (slot_date x i)) (filter (is_there day_ring x) is) ≡ last_from x p s (filter (is_there day_ring x) (i ∷ is))
    by true none =
        ap (λ (w : Walk). last_from x p w (filter (is_there day_ring x) is)) (step_gap day x s i none) ∙ same (filter (is_there day_ring x) is)
        ∙ ap (λ (t : Bool). last_from x p s (cond t (i ∷ filter (is_there day_ring x) is) (filter (is_there day_ring x) is))) (sym (there_gap day x s i none))
    by false some =
        ap (λ (w : Walk). last_from x p w (filter (is_there day_ring x) is)) (step_day day x s i some) ∙ new (filter (is_there day_ring x) is)
        ∙ ap (λ (t : Bool). last_from x p s (cond t (i ∷ filter (is_there day_ring x) is) (filter (is_there day_ring x) is))) (sym (there_day day x s i some))

-- the last slot that is there has the date of its index
abbrev pub IsAt : List ℕ → Walk → Type 0
IsAt x s = (s.last_date ≡ 0) ⊎ (s.last_date ≡ slot_date x s.last_index)

pub walk_at : (day : ℕ) (x : List ℕ) (s : Walk) (is : List ℕ) → IsAt x s → IsAt x (walk_from day x s is)
walk_at day x s [] at = at
walk_at day x s (i ∷ is) at = walk_at day x (next_walk day s i (slot_date x i)) is (by (slot_date x i == 0))
  where
    by : (b : Bool) → IsAt x (cond b (with_gap s) (with_day day s i (slot_date x i)))
    by true = at
    by false = inr refl

-- how many are there
pub walk_there : (day : ℕ) (x : List ℕ) (s : Walk) (is : List ℕ) → (walk_from day x s is).there ≡ s.there + length (filter (is_there day_ring x) is)
walk_there day x s [] = let e : s.there ≡ s.there + 0 = omega arith in e
walk_there day x s (i ∷ is) = walk_there day x (next_walk day s i (slot_date x i)) is ∙ by (slot_date x i == 0) refl
  where
    by : (b : Bool) → (slot_date x i == 0) ≡ b → (next_walk day s i (slot_date x i)).there + length (filter (is_there day_ring x) is) ≡ s.there + length (filter (is_there day_ring x) (i ∷ is))
    by true none =
        ap (λ (w : Walk). w.there + length (filter (is_there day_ring x) is)) (step_gap day x s i none)
        ∙ ap (λ (t : Bool). s.there + length (cond t (i ∷ filter (is_there day_ring x) is) (filter (is_there day_ring x) is))) (sym (there_gap day x s i none))
    by false some =
        let n = length (filter (is_there day_ring x) is) in
        ap (λ (w : Walk). w.there + n) (step_day day x s i some) ∙ (let e : s.there + 1 + n ≡ s.there + suc n = omega arith in e)
        ∙ ap (λ (t : Bool). s.there + length (cond t (i ∷ filter (is_there day_ring x) is) (filter (is_there day_ring x) is))) (sym (there_day day x s i some))

-- a slot of the day
abbrev pub is_day : (day : ℕ) → List ℕ → ℕ → Bool
is_day day x i = is_there day_ring x i && slot_day x i == day

pub walk_today : (day : ℕ) (x : List ℕ) (s : Walk) (is : List ℕ) → is_some (walk_from day x s is).today ≡ (is_some s.today || list_any (is_day day x) is)
walk_today day x s [] = end (is_some s.today)
  where
    end : (b : Bool) → b ≡ (b || false)
    end true = refl
    end false = refl
walk_today day x s (i ∷ is) = walk_today day x (next_walk day s i (slot_date x i)) is ∙ by (slot_date x i == 0) refl
  where
    more : (q : Bool) (o : Option ℕ) (r : Bool) → (is_some (cond q (Some i) o) || r) ≡ (is_some o || (q || r))
    more true None r = refl
    more true (Some j) r = refl
    more false None r = refl
    more false (Some j) r = refl

    by : (b : Bool) → (slot_date x i == 0) ≡ b → (is_some (next_walk day s i (slot_date x i)).today || list_any (is_day day x) is) ≡ (is_some s.today || (is_day day x i || list_any (is_day day x) is))
    by true none =
        ap (λ (w : Walk). is_some w.today || list_any (is_day day x) is) (step_gap day x s i none)
        ∙ ap (λ (t : Bool). is_some s.today || ((t && slot_day x i == day) || list_any (is_day day x) is)) (sym (there_gap day x s i none))
    by false some =
        ap (λ (w : Walk). is_some w.today || list_any (is_day day x) is) (step_day day x s i some) ∙ more (slot_date x i / 86400 == day) s.today (list_any (is_day day x) is)
        ∙ ap (λ (t : Bool). is_some s.today || ((t && slot_day x i == day) || list_any (is_day day x) is)) (sym (there_day day x s i some))

-- the checks of slots, by the latest date before them
module _ (x : List ℕ) where
  abbrev kept : ℕ
  kept = last_kept x

  earlier_max : (d a b : ℕ) → nat_lt (max a b) d ≡ (nat_lt a d && nat_lt b d)
  earlier_max d a b = grind (arith, nat_tests)

  day_max : (k a b : ℕ) → nat_le (max a b / 86400) k ≡ (nat_le (a / 86400) k && nat_le (b / 86400) k)
  day_max k a b = by (nat_le a b) refl
    where
      low : (u v : ℕ) → u ≤ v → nat_le v k ≡ (nat_le u k && nat_le v k)
      low u v le = grind (arith, nat_tests)

      high : (u v : ℕ) → v ≤ u → nat_le u k ≡ (nat_le u k && nat_le v k)
      high u v le = grind (arith, nat_tests)

      by : (t : Bool) → nat_le a b ≡ t → nat_le (max a b / 86400) k ≡ (nat_le (a / 86400) k && nat_le (b / 86400) k)
      by true is =
          let le : a ≤ b = grind (arith, nat_tests, is) in
          let m : max a b ≡ b = omega (arith, le) in
          let days : a / 86400 ≤ b / 86400 = omega (arith, le) in
          ap (λ (n : ℕ). nat_le (n / 86400) k) m ∙ low (a / 86400) (b / 86400) days
      by false is =
          let gt : b < a = grind (arith, nat_tests, is) in
          let m : max a b ≡ a = omega (arith, gt) in
          let days : b / 86400 ≤ a / 86400 = omega (arith, gt) in
          ap (λ (n : ℕ). nat_le (n / 86400) k) m ∙ high (a / 86400) (b / 86400) days

  date_same : (d : ℕ) (pre : List ℕ) → (d == 0) ≡ false → date_passes kept (latest_over x 0 pre) d ≡ is_date_good kept (map (slot_date x) (filter (is_there day_ring x) pre)) d
  date_same d pre some =
      let positive : nat_lt 0 d ≡ true = grind (arith, nat_tests, some) in
      let none : nat_le (0 / 86400) (kept / 1440) ≡ true = grind (arith, nat_tests) in
      let L = map (slot_date x) (filter (is_there day_ring x) pre) in
      let order : nat_lt (latest_over x 0 pre) d ≡ list_all (λ e. nat_lt e d) L =
      dates_by x (λ e. nat_lt e d) (earlier_max d) 0 pre ∙ ap (λ (b : Bool). b && list_all (λ e. nat_lt e d) L) positive in
      let later : nat_le (latest_over x 0 pre / 86400) (kept / 1440) ≡ list_all (λ e. nat_le (e / 86400) (kept / 1440)) L =
      dates_by x (λ e. nat_le (e / 86400) (kept / 1440)) (day_max (kept / 1440)) 0 pre ∙ ap (λ (b : Bool). b && list_all (λ e. nat_le (e / 86400) (kept / 1440)) L) none in
      λ i. d % 86400 == 0 && (order i && (nat_le (d / 86400) (kept / 1440) || later i))

  slot_same : (i : ℕ) (pre : List ℕ) → indices_before x i ≡ filter (is_there day_ring x) pre → slot_checks_by kept (latest_over x 0 pre) x i ≡ slot_checks x i
  slot_same i pre before = by (slot_date x i == 0) refl
    where
      drop_one : List Check → List Check
      drop_one [] = []
      drop_one (c ∷ cs) = cs

      day_same : (slot_date x i == 0) ≡ false → day_checks_by kept (latest_over x 0 pre) (head_at x i) x i ≡ day_checks x i
      day_same some =
          let passes = date_same (slot_date x i) pre some ∙ ap (λ (l : List ℕ). is_date_good kept (map (slot_date x) l) (slot_date x i)) (sym before) in
          λ t. record { place = slot_place i; passes = passes t } ∷ drop_one (day_checks x i)

      by : (b : Bool) → (slot_date x i == 0) ≡ b → cond (slot_date x i == 0) [] (day_checks_by kept (latest_over x 0 pre) (head_at x i) x i) ≡ cond (is_there day_ring x i) (day_checks x i) []
      by true none =
          ap (λ (b : Bool). cond b [] (day_checks_by kept (latest_over x 0 pre) (head_at x i) x i)) none ∙ sym (ap (λ (b : Bool). cond b (day_checks x i) []) (there_is x i ∙ ap not none))
      by false some =
          ap (λ (b : Bool). cond b [] (day_checks_by kept (latest_over x 0 pre) (head_at x i) x i)) some
          ∙ day_same some
          ∙ sym (ap (λ (b : Bool). cond b (day_checks x i) []) (there_is x i ∙ ap not some))

  -- the slots of a range, behind these
  pub slots_same : (pre : List ℕ) (from n : ℕ) → ((i : ℕ) → from ≤ i → i < from + n → indices_before x i ≡ filter (is_there day_ring x) (pre ++ range_with_len from (i - from)))
      → slots_by kept x (latest_over x 0 pre) (range_with_len from n) ≡ flat_map (slot_checks x) (range_with_len from n)
  slots_same pre from zero before = refl
  slots_same pre from (suc n) before =
      let here : indices_before x from ≡ filter (is_there day_ring x) pre =
      before from (omega arith) (omega arith) ∙ ap (λ (k : ℕ). filter (is_there day_ring x) (pre ++ range_with_len from k)) (let e : from - from ≡ 0 = omega arith in e) ∙ ap (filter (is_there day_ring x)) (append-nil pre) in
      let next : latest_over x 0 (pre ++ from ∷ []) ≡ max (latest_over x 0 pre) (slot_date x from) = latest_append x 0 pre (from ∷ []) in
      let later : (i : ℕ) → from + 1 ≤ i → i < from + 1 + n → indices_before x i ≡ filter (is_there day_ring x) ((pre ++ from ∷ []) ++ range_with_len (from + 1) (i - (from + 1))) =
      λ i low high.
      before i (omega (arith, low)) (omega (arith, high))
      ∙ ap (λ (k : ℕ). filter (is_there day_ring x) (pre ++ range_with_len from k)) (let e : i - from ≡ suc (i - (from + 1)) = omega (arith, low) in e)
      ∙ ap (filter (is_there day_ring x)) (sym (append_assoc pre (from ∷ []) (range_with_len (from + 1) (i - (from + 1))))) in
      ap (λ (l : List Check). l ++ slots_by kept x (max (latest_over x 0 pre) (slot_date x from)) (range_with_len (from + 1) n)) (slot_same from pre here)
      ∙ ap (λ (l : ℕ). slot_checks x from ++ slots_by kept x l (range_with_len (from + 1) n)) (sym next)
      ∙ ap (λ (l : List Check). slot_checks x from ++ l) (slots_same (pre ++ from ∷ []) (from + 1) n later)

-- the slots of more indices
pub slots_append : (k : ℕ) (x : List ℕ) (l : ℕ) (a b : List ℕ) → slots_by k x l (a ++ b) ≡ slots_by k x l a ++ slots_by k x (latest_over x l a) b
slots_append k x l [] b = refl
slots_append k x l (i ∷ is) b =
    ap (λ (r : List Check). slot_checks_by k l x i ++ r) (slots_append k x (max l (slot_date x i)) is b)
    ∙ sym (append_assoc (slot_checks_by k l x i) (slots_by k x (max l (slot_date x i)) is) (slots_by k x (latest_over x (max l (slot_date x i)) is) b))
