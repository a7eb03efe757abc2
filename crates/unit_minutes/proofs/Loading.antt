-- What `load` reads of an image that decodes.
use Rattle.std.proofs.Common.{◌≡◌, inl, ⊎_elim, ℕ, zero, suc, ◌+◌, ◌-◌, ◌*◌, ◌/◌, ◌%◌, ◌<◌, ◌≤◌, min, Bool, true, false, not, cond, List, [], ◌∷◌, ◌++◌, length, length-append, Option, Some, None, is_some, Result, Ok, Err, refl, sym, ◌∙◌, ap, subst, arith}
use Rattle.std.specs.Prelude.{◌==◌, ◌&&◌, ◌||◌, nat_le, nat_lt, MatchOption, unwrap_or}
use Rattle.std.specs.List.{range_with_len, list_all}
use Rattle.std.proofs.lemmas.Bool.Decides.{nat_tests}
use Rattle.gated_ring.specs.Ring.{pointer, is_there, entry_at}
use Rattle.unit_model.specs.declared.layout.TheConstants.{DAY_SLOTS, DAY_WORDS, DAY_WORD_LIMIT}
use Rattle.unit_model.specs.Days.{day_of, state_at, word_minute, Each}
use Rattle.unit_model.specs.Image.{last_kept, odometer_at, day_ring, slot_place, unit_day, indices, slot_date, slot_count, slot_words, words_at, stray_of, stray_list}
use Rattle.unit_model.specs.Decoding.{first_failing, word_checks, first_bad_place, slot_day, is_date_good}
use Rattle.unit_memory.specs.Scans.{start, scan_from}
use Rattle.unit_memory.specs.Walks.{walk_start, with_gap, with_day, next_walk, walk_from}
use Rattle.unit_memory.specs.Judging.{failed_of, pointer_passes, is_whole, turn_at, walk_round}
use Rattle.unit_memory.specs.declared.walk.Walk.{Walk}
use Rattle.unit_memory.specs.declared.words.Scan.{Scan}
use Rattle.unit_model.proofs.Decoded.{IsDecoded, decoded}
use Rattle.unit_memory.proofs.Walking.{walk_more}
use Rattle.unit_memory.proofs.WalkLaws.{is_day, IsAt, walk_at, step_day}
use Rattle.unit_model.proofs.Recorded.{there_is}
use Rattle.unit_memory.proofs.WordLaws.{all_words_fail}
use Rattle.unit_memory.proofs.JudgeLaws.{has_today, there_same, pointer_same}
use Rattle.unit_minutes.specs.Image.{Notes, IsFoundBy, IsFound, IsStray, IsToday}
use Rattle.unit_model.specs.Writing.{free_place}
use Rattle.unit_minutes.specs.declared.today.Today.{Today}
use Rattle.unit_minutes.specs.Today.{today_of, but_stray, recorded_days}
use Rattle.unit_model.proofs.Finding.{eq_of, placed, first_indices, apart}
use Rattle.unit_minutes.proofs.Scanning.{scanned_day}

-- the index that a walk found is that of the day
abbrev pub IsOfDay : (day : ℕ) → List ℕ → Option ℕ → Type 0
IsOfDay day x o = MatchOption o (Unit {0}) (λ i. (i < DAY_SLOTS) × (is_day day x i ≡ true))

walk_of_day : (day : ℕ) (x : List ℕ) (s : Walk) (is : List ℕ) → Each (λ i. i < DAY_SLOTS) is → IsOfDay day x s.today → IsOfDay day x (walk_from day x s is).today
walk_of_day day x s [] below was = was
walk_of_day day x s (i ∷ is) below was = walk_of_day day x (next_walk day s i (slot_date x i)) is below.1 (step (slot_date x i == 0) refl)
  where
    here : (slot_date x i == 0) ≡ false → (b : Bool) → (slot_date x i / 86400 == day) ≡ b → IsOfDay day x (cond b (Some i) s.today)
    here some true is_today = (below.0, (λ t. (there_is x i ∙ ap not some) t && is_today t))
    here some false other = was

    step : (b : Bool) → (slot_date x i == 0) ≡ b → IsOfDay day x (cond b (with_gap s) (with_day day s i (slot_date x i))).today
    step true none = was
    step false some = here some (slot_date x i / 86400 == day) refl

range_below : (a n : ℕ) → a + n ≤ DAY_SLOTS → Each (λ i. i < DAY_SLOTS) (range_with_len a n)
range_below a zero le = tt
range_below a (suc n) le = (omega (arith, le), range_below (a + 1) n (omega (arith, le)))

round_of_day : (day q : ℕ) (x : List ℕ) → q ≤ DAY_SLOTS → IsOfDay day x (walk_round day q x).today
round_of_day day q x le = walk_of_day day x (walk_from day x walk_start (range_with_len q (DAY_SLOTS - q))) (range_with_len 0 q) (range_below 0 q (omega (arith, le)))
    (walk_of_day day x walk_start (range_with_len q (DAY_SLOTS - q)) (range_below q (DAY_SLOTS - q) (omega (arith, le))) tt)

turn_low : (p : ℕ) → turn_at p ≤ DAY_SLOTS
turn_low p = by (Rattle.std.specs.Prelude.nat_lt p DAY_SLOTS) refl
  where
    by : (b : Bool) → Rattle.std.specs.Prelude.nat_lt p DAY_SLOTS ≡ b → cond b (p + 1) DAY_SLOTS ≤ DAY_SLOTS
    by true is = let less : p < DAY_SLOTS = grind (arith, nat_tests, is) in omega (arith, less)
    by false is = omega arith

both_true : (a b : Bool) → (a && b) ≡ true → (a ≡ true) × (b ≡ true)
both_true true b is = (refl, is)
both_true false b is = absurd (cc)

mult_of : (kept : ℕ) (before : List ℕ) (d : ℕ) → is_date_good kept before d ≡ true → d % 86400 ≡ 0
mult_of kept before d is =
    eq_of (d % 86400) 0 (both_true (d % 86400 == 0) (list_all (λ e. nat_lt e d) before && (nat_le (d / 86400) (kept / 1440) || list_all (λ e. nat_le (e / 86400) (kept / 1440)) before)) is).0

-- what a scan of the day says
pub scan_today : (kept i n : ℕ) (r : Result Scan ℕ) (x : List ℕ) → n ≡ min (slot_count x i) DAY_WORD_LIMIT → slot_count x i ≤ DAY_WORD_LIMIT
    → first_failing (word_checks (slot_place i + DAY_WORDS.place) [] (slot_words x i (slot_count x i))) ≡ None
    → r ≡ scan_from (kept % 1440) (slot_place i + DAY_WORDS.place) 0 start (slot_words x i n)
    → IsToday kept i (today_of (kept % 1440) n r) x
scan_today kept i n r x stored few none scan = by r refl
  where
    count_is : slot_count x i ≡ n
    count_is = omega (arith, stored, few)

    no_fault : failed_of (scan_from (kept % 1440) (slot_place i + DAY_WORDS.place) 0 start (slot_words x i n)) ≡ None
    no_fault =
        sym (all_words_fail (kept % 1440) (slot_place i + DAY_WORDS.place) (slot_words x i n)) ∙ ap (λ (k : ℕ). first_failing (word_checks (slot_place i + DAY_WORDS.place) [] (slot_words x i k))) (sym count_is) ∙ none

    low_state : (u : ℕ) (ws : List ℕ) (slot : ℕ) → state_at slot u ws < 16
    low_state u ws slot = state_low ws 4 (omega arith)
      where
        state_low : (ws : List ℕ) (c : ℕ) → c < 16 → Rattle.unit_model.specs.Days.state_after slot u c ws < 16
        state_low [] c low = low
        state_low (w ∷ ws) c low = state_low ws (Rattle.unit_model.specs.Days.state_by slot u c w) (one (Rattle.unit_model.specs.Days.slot_bit w == slot && nat_le (word_minute w) u))
          where
            one : (b : Bool) → cond b (Rattle.unit_model.specs.Days.word_state w) c < 16
            one true = omega arith
            one false = low

    by : (q : Result Scan ℕ) → r ≡ q → IsToday kept i (today_of (kept % 1440) n q) x
    by (Err p) is = let bad : Some p ≡ None = ap failed_of (sym is ∙ scan) ∙ no_fault in absurd (cc)
    by (Ok s) is =
        let d = scanned_day (kept % 1440) (slot_place i + DAY_WORDS.place) i n s x (sym scan ∙ is) in
        let c : min s.count (2 * (kept % 1440 + 1)) ≡ s.count = omega (arith, d.few) in
        let driver_low : s.driver < 16 = subst (λ (e : ℕ). e < 16) d.driver (low_state (kept % 1440) (slot_words x i s.count) 0) in
        let codriver_low : s.codriver < 16 = subst (λ (e : ℕ). e < 16) d.codriver (low_state (kept % 1440) (slot_words x i s.count) 1) in
        record {
          stored_is = count_is;
          cut = omega (arith, d.cut, c);
          low = subst (λ (k : ℕ). Each (λ w. word_minute w ≤ kept % 1440) (slot_words x i k)) (sym c) d.low;
          late = subst (λ (k : ℕ). Each (λ w. kept % 1440 < word_minute w) (words_at x (free_place i k) (n - k))) (sym c) d.late;
          driver = ap (λ (k : ℕ). state_at 0 (kept % 1440) (slot_words x i k)) c ∙ d.driver ∙ (let e : s.driver ≡ s.driver % 16 = omega (arith, driver_low) in e);
          codriver = ap (λ (k : ℕ). state_at 1 (kept % 1440) (slot_words x i k)) c ∙ d.codriver ∙ (let e : s.codriver ≡ s.codriver % 16 = omega (arith, codriver_low) in e);
        }

less_true : (a b : ℕ) → a < b → nat_lt a b ≡ true
less_true a b less = grind (arith, nat_tests)

zero_is : (d : ℕ) → d ≡ 0 → (d == 0) ≡ true
zero_is d is = grind (arith, nat_tests)

-- what the last slot of a walk says of a later day at the pointer
module _ (x : List ℕ) (ok : IsDecoded x) (w : Walk) (walk_is : w ≡ walk_round (last_kept x / 1440) (turn_at (pointer day_ring x)) x) where
  abbrev p : ℕ
  p = pointer day_ring x

  abbrev q : ℕ
  q = turn_at p

  abbrev k : ℕ
  k = last_kept x

  abbrev oldest : Walk
  oldest = walk_from (k / 1440) x walk_start (range_with_len q (DAY_SLOTS - q))

  abbrev older : Walk
  older = walk_from (k / 1440) x oldest (range_with_len 0 p)

  inside : nat_lt p DAY_SLOTS ≡ true
  inside = less_true p DAY_SLOTS ok.known

  pointer_last : w ≡ next_walk (k / 1440) older p (slot_date x p)
  pointer_last =
      let turn : q ≡ p + 1 = ap (λ (b : Bool). cond b (p + 1) DAY_SLOTS) inside in
      walk_is ∙ sym (walk_more (k / 1440) x oldest older 0 p p q (omega arith) (omega (arith, turn)) refl)

  good : pointer_passes k p w ≡ true
  good = ap (pointer_passes k p) walk_is ∙ pointer_same x ∙ (λ i. inside i && (ok.dense i && ok.last i))

  last_good : (nat_le (w.last_date / 86400) (k / 1440) || w.last_index == p) ≡ true
  last_good = (both_true (is_whole w.density) (nat_le (w.last_date / 86400) (k / 1440) || w.last_index == p) (both_true (nat_lt p DAY_SLOTS) (is_whole w.density && (nat_le (w.last_date / 86400) (k / 1440) || w.last_index == p)) good).1).1

  is_at : IsAt x w
  is_at = subst (IsAt x) (sym walk_is) (walk_at (k / 1440) x oldest (range_with_len 0 q) (walk_at (k / 1440) x walk_start (range_with_len q (DAY_SLOTS - q)) (inl refl)))

  gone : (d : ℕ) (a b : Bool) → (d == 0) ≡ a → nat_le (d / 86400) (k / 1440) ≡ b → (a || b) ≡ true → stray_of k p d ≡ None
  gone d true b is isb some = ap (λ (t : Bool). cond t None (cond (nat_le (d / 86400) (k / 1440)) None (Some p))) is
  gone d false true is isb some = λ i. cond (is i) None (cond (isb i) None (Some p))
  gone d false false is isb some = absurd (cc)

  none_there : slot_date x p ≡ 0 → (b : Bool) → nat_le (w.last_date / 86400) (k / 1440) ≡ b → stray_of k p w.last_date ≡ None
  none_there none true is = gone w.last_date (w.last_date == 0) true refl is (or_true (w.last_date == 0))
    where
      or_true : (a : Bool) → (a || true) ≡ true
      or_true true = refl
      or_true false = refl
  none_there none false is =
      let here : w.last_index ≡ p = eq_of w.last_index p (sym (ap (λ (b : Bool). b || w.last_index == p) is) ∙ last_good) in
      let date : w.last_date ≡ 0 = ⊎_elim (λ first. first) (λ same. same ∙ ap (slot_date x) here ∙ none) is_at in
      gone w.last_date true (nat_le (w.last_date / 86400) (k / 1440)) (zero_is w.last_date date) refl refl

  pub last_stray : stray_of k p w.last_date ≡ stray_of k p (slot_date x p)
  last_stray = by (slot_date x p == 0) refl
    where
      by : (b : Bool) → (slot_date x p == 0) ≡ b → stray_of k p w.last_date ≡ stray_of k p (slot_date x p)
      by true none = none_there (eq_of (slot_date x p) 0 none) (nat_le (w.last_date / 86400) (k / 1440)) refl ∙ sym (ap (λ (t : Bool). cond t None (cond (nat_le (slot_date x p / 86400) (k / 1440)) None (Some p))) none)
      by false some = ap (λ (v : Walk). stray_of k p v.last_date) (pointer_last ∙ step_day (k / 1440) x older p some)

not_none : (n : ℕ) → 0 < n → (n == 0) ≡ false
not_none n some = grind (arith, nat_tests)

module _ (x : List ℕ) (none : first_bad_place x ≡ None) (i : ℕ) (read : Today) (day_count : ℕ) (w : Walk)
    (walk_is : w ≡ walk_round (last_kept x / 1440) (turn_at (pointer day_ring x)) x) (i_is : i ≡ min (unwrap_or w.today 0) (DAY_SLOTS - 1))
    (today : 0 < last_kept x → slot_count x i ≤ DAY_WORD_LIMIT → first_failing (word_checks (slot_place i + DAY_WORDS.place) [] (slot_words x i (slot_count x i))) ≡ None → IsToday (last_kept x) i read x)
    (day_count_is : day_count ≡ recorded_days (last_kept x) w.there (stray_of (last_kept x) (pointer day_ring x) (slot_date x (pointer day_ring x)))) where
  ok : IsDecoded x
  ok = decoded x none

  abbrev stray : Option ℕ
  stray = stray_of (last_kept x) (pointer day_ring x) (slot_date x (pointer day_ring x))

  abbrev notes : Notes
  notes = record { kept = last_kept x; odometer = odometer_at x; index = i; count = read.count; bits = read.bits; stray = stray; stored = read.stored; day_count = day_count }

  of_day : 0 < last_kept x → (i < DAY_SLOTS) × (is_day (last_kept x / 1440) x i ≡ true)
  of_day some = by w.today (subst (λ (v : Walk). IsOfDay (last_kept x / 1440) x v.today) (sym walk_is) (round_of_day (last_kept x / 1440) (turn_at (pointer day_ring x)) x (turn_low (pointer day_ring x))))
      (ap (λ (v : Walk). is_some v.today) walk_is ∙ has_today x ∙ ok.today some) i_is
    where
      by : (o : Option ℕ) → IsOfDay (last_kept x / 1440) x o → is_some o ≡ true → i ≡ min (unwrap_or o 0) (DAY_SLOTS - 1) → (i < DAY_SLOTS) × (is_day (last_kept x / 1440) x i ≡ true)
      by None of is same = absurd (cc)
      by (Some j) of is same = let one : j ≡ i = omega (arith, same, of.0) in (omega (arith, of.0, one), ap (is_day (last_kept x / 1440) x) (sym one) ∙ of.1)

  -- a later day as a record
  as_stray : (o : Option ℕ) → MatchOption o (Unit {0}) (λ s. (s < DAY_SLOTS) × (pointer day_ring x ≡ s) × (last_kept x / 1440 < day_of (unit_day (entry_at day_ring x s)))) → MatchOption o (Unit {0}) (IsStray notes x)
  as_stray None all = tt
  as_stray (Some s) all = record { below = all.0; at_pointer = all.1; later = all.2 }

  there_are : w.there ≡ length (indices x)
  there_are = ap (λ (v : Walk). v.there) walk_is ∙ there_same x ok.known

  days_of : (older : List ℕ) (s : Option ℕ) → indices x ≡ (older ++ i ∷ []) ++ stray_list s → suc (length older) ≡ but_stray w.there s
  days_of older None is = omega (arith, there_are, ap length is, length-append (older ++ i ∷ []) [], length-append older (i ∷ []))
  days_of older (Some p) is = omega (arith, there_are, ap length is, length-append (older ++ i ∷ []) (p ∷ []), length-append older (i ∷ []))

  found : IsFound notes stray read.stored x
  found = record {
    kept = refl;
    odometer = refl;
    pointer = ok.known;
    none = λ first. first_indices x ok first;
    newest = λ some.
        let of = of_day some in
        let parts = both_true (is_there day_ring x i) (slot_day x i == last_kept x / 1440) of.1 in
        let slot = ok.slots i of.0 parts.0 in
        let day_is : slot_date x i / 86400 ≡ last_kept x / 1440 = eq_of (slot_date x i / 86400) (last_kept x / 1440) parts.1 in
        let place = placed x ok i of.0 parts.0 day_is in
        let t = today some slot.count_high slot.words in
        let whole : slot_date x i % 86400 ≡ 0 = mult_of (last_kept x) (Rattle.std.proofs.Common.map (slot_date x) (Rattle.unit_model.specs.Decoding.indices_before x i)) (slot_date x i) slot.date in (
          place.0,
          record {
            order_is = place.1.order_is;
            next_is = place.1.next_is;
            dense = place.1.dense;
            others = place.1.others;
            days = days_of place.0 stray place.1.order_is ∙ sym (day_count_is ∙ ap (λ (b : Bool). cond b 0 (but_stray w.there stray)) (not_none (last_kept x) some));
            earlier = place.1.earlier;
            date = omega (arith, day_is, whole);
            count = t.stored_is;
            cut = t.cut;
            stored_few = omega (arith, slot.count_high, t.stored_is);
            low = t.low;
            late = t.late;
            driver = t.driver;
            codriver = t.codriver;
          },
        );
    apart = as_stray stray (apart x ok);
  }

  -- by other names of the same numbers
  abbrev noted : (k o : ℕ) → Option ℕ → Notes
  noted k o s = record { kept = k; odometer = o; index = i; count = read.count; bits = read.bits; stray = s; stored = read.stored; day_count = day_count }

  pub found_as : (k o : ℕ) (s : Option ℕ) → k ≡ last_kept x → o ≡ odometer_at x → s ≡ stray → IsFoundBy (noted k o s) x
  found_as k o s kept_is odometer_is stray_is = subst (λ (n : Notes). IsFoundBy n x) (sym are) found
    where
      are : noted k o s ≡ notes
      are = λ j. noted (kept_is j) (odometer_is j) (stray_is j)
