-- A scan of words finds the first that fails.
use Rattle.std.proofs.Common.{◌≡◌, ◌≢◌, ℕ, ◌+◌, ◌*◌, ◌/◌, ◌%◌, ◌<◌, ◌≤◌, Bool, true, false, not, cond, List, [], ◌∷◌, ◌++◌, length, Option, Some, None, refl, sym, ◌∙◌, ap, arith, length-append}
use Rattle.std.specs.Prelude.{◌==◌, ◌&&◌, ◌||◌, nat_le, nat_lt}
use Rattle.std.specs.List.{list_all}
use Rattle.std.proofs.lemmas.Bool.Decides.{nat_tests}
use Rattle.unit_model.specs.Days.{slot_bit, word_minute}
use Rattle.unit_model.specs.Decoding.{first_failing, word_checks, is_word_good, is_first_good}
use Rattle.unit_memory.specs.Scans.{start, next_scan, driver_next, codriver_next, or_place, scan_from}
use Rattle.unit_memory.specs.Judging.{failed_of}
use Rattle.unit_memory.specs.declared.words.Scan.{Scan}

-- a word before may stand before one of this slot in this minute
abbrev pub is_before : (slot t : ℕ) → ℕ → Bool
is_before slot t v = nat_le (word_minute v) t && not (slot_bit v == slot && word_minute v == t)

-- a scan knows which words may follow those that were read
pub record Knows (before : List ℕ) (s : Scan) : Type 0 where
  pub driver : (t : ℕ) → list_all (is_before 0 t) before ≡ (nat_le s.minute t && nat_le s.next_driver t)
  pub codriver : (t : ℕ) → list_all (is_before 1 t) before ≡ (nat_le s.minute t && nat_le s.next_codriver t)

both_low : (t : ℕ) → true ≡ (nat_le 0 t && nat_le 0 t)
both_low t = grind (arith, nat_tests)

pub knows_start : Knows [] start
knows_start = record { driver = both_low; codriver = both_low }

all_append : (p : ℕ → Bool) (a b : List ℕ) → list_all p (a ++ b) ≡ (list_all p a && list_all p b)
all_append p [] b = refl
all_append p (x ∷ xs) b = by (p x) (all_append p xs b)
  where
    by : (c : Bool) → list_all p (xs ++ b) ≡ (list_all p xs && list_all p b) → (c && list_all p (xs ++ b)) ≡ ((c && list_all p xs) && list_all p b)
    by true more = more
    by false more = refl

-- with one word more that may stand there
own : (a m n t : ℕ) → a ≤ m → n ≤ m → ((nat_le a t && nat_le n t) && ((nat_le m t && not (true && m == t)) && true)) ≡ (nat_le m t && nat_le (m + 1) t)
own a m n t first next = grind (arith, nat_tests)

other : (a m n t : ℕ) → a ≤ m → ((nat_le a t && nat_le n t) && ((nat_le m t && not (false && m == t)) && true)) ≡ (nat_le m t && nat_le n t)
other a m n t first = grind (arith, nat_tests)

module _ (kept n w : ℕ) (before : List ℕ) (s : Scan) (len : length before ≡ n) (knows : Knows before s) where
  abbrev m : ℕ
  m = word_minute w

  abbrev Verdict : Option Scan → Type 0
  Verdict None = is_word_good before w ≡ false
  Verdict (Some t) = (is_word_good before w ≡ true) × Knows (before ++ w ∷ []) t

  good_by : (slot next : ℕ) → slot_bit w ≡ slot → ((t : ℕ) → list_all (is_before slot t) before ≡ (nat_le s.minute t && nat_le next t))
      → is_word_good before w ≡ (nat_lt m 1440 && ((nat_le s.minute m && nat_le next m) && is_first_good n w))
  good_by slot next is all =
      ap (λ (q : ℕ). nat_lt m 1440 && (list_all (is_before q m) before && is_first_good (length before) w)) is
      ∙ ap (λ (b : Bool). nat_lt m 1440 && (b && is_first_good (length before) w)) (all m)
      ∙ ap (λ (k : ℕ). nat_lt m 1440 && ((nat_le s.minute m && nat_le next m) && is_first_good k w)) len

  fails : (next : ℕ) (f : Bool) → (1440 ≤ m) → (nat_lt m 1440 && ((nat_le s.minute m && nat_le next m) && f)) ≡ false
  fails next f late = let off : nat_lt m 1440 ≡ false = grind (arith, nat_tests) in ap (λ (b : Bool). b && ((nat_le s.minute m && nat_le next m) && f)) off

  fails_order : (next : ℕ) (f : Bool) → m < s.minute → (nat_lt m 1440 && ((nat_le s.minute m && nat_le next m) && f)) ≡ false
  fails_order next f early =
      let off : nat_le s.minute m ≡ false = grind (arith, nat_tests) in
      ap (λ (b : Bool). nat_lt m 1440 && ((b && nat_le next m) && f)) off ∙ no (nat_lt m 1440)
    where
      no : (b : Bool) → (b && false) ≡ false
      no true = refl
      no false = refl

  fails_slot : (next : ℕ) (f : Bool) → m < next → (nat_lt m 1440 && ((nat_le s.minute m && nat_le next m) && f)) ≡ false
  fails_slot next f early =
      let off : nat_le next m ≡ false = grind (arith, nat_tests) in
      ap (λ (b : Bool). nat_lt m 1440 && ((nat_le s.minute m && b) && f)) off ∙ no (nat_lt m 1440) (nat_le s.minute m)
    where
      no : (b c : Bool) → (b && ((c && false) && f)) ≡ false
      no true true = refl
      no true false = refl
      no false c = refl

  fails_first : (next : ℕ) → (nat_lt m 1440 && ((nat_le s.minute m && nat_le next m) && false)) ≡ false
  fails_first next = no (nat_lt m 1440) (nat_le s.minute m && nat_le next m)
    where
      no : (b c : Bool) → (b && (c && false)) ≡ false
      no true true = refl
      no true false = refl
      no false c = refl

  passes : (next : ℕ) → m < 1440 → s.minute ≤ m → next ≤ m → (nat_lt m 1440 && ((nat_le s.minute m && nat_le next m) && true)) ≡ true
  passes next low order free = grind (arith, nat_tests)

  module _ (low : m < 1440) (order : s.minute ≤ m) (first : is_first_good n w ≡ true) where
    driver_judged : slot_bit w ≡ 0 → Verdict (driver_next kept s w)
    driver_judged at = by (nat_lt (w % 2048) s.next_driver) refl (nat_lt kept (w % 2048))
      where
        on : (slot_bit w == 0) ≡ true
        on = grind (arith, nat_tests)

        off : (slot_bit w == 1) ≡ false
        off = grind (arith, nat_tests)

        good : s.next_driver ≤ m → is_word_good before w ≡ true
        good free = good_by 0 s.next_driver at knows.driver ∙ ap (λ (f : Bool). nat_lt m 1440 && ((nat_le s.minute m && nat_le s.next_driver m) && f)) first ∙ passes s.next_driver low order free

        known : s.next_driver ≤ m → (t : Scan) → t.minute ≡ m → t.next_driver ≡ m + 1 → t.next_codriver ≡ s.next_codriver → Knows (before ++ w ∷ []) t
        known free t minute next same = record {
          driver = λ u. all_append (is_before 0 u) before (w ∷ []) ∙ ap (λ (b : Bool). b && (is_before 0 u w && true)) (knows.driver u)
              ∙ ap (λ (q : Bool). (nat_le s.minute u && nat_le s.next_driver u) && ((nat_le m u && not (q && m == u)) && true)) on ∙ own s.minute m s.next_driver u order free
              ∙ sym (λ i. nat_le (minute i) u && nat_le (next i) u);
          codriver = λ u. all_append (is_before 1 u) before (w ∷ []) ∙ ap (λ (b : Bool). b && (is_before 1 u w && true)) (knows.codriver u)
              ∙ ap (λ (q : Bool). (nat_le s.minute u && nat_le s.next_codriver u) && ((nat_le m u && not (q && m == u)) && true)) off ∙ other s.minute m s.next_codriver u order
              ∙ sym (λ i. nat_le (minute i) u && nat_le (same i) u);
        }

        by : (a : Bool) → nat_lt (w % 2048) s.next_driver ≡ a → (b : Bool)
            → Verdict (cond a None (cond b (Some (record { count = s.count; driver = s.driver; codriver = s.codriver; minute = w % 2048; next_driver = w % 2048 + 1; next_codriver = s.next_codriver }))
            (Some (record { count = s.count + 1; driver = w / 2048 % 16; codriver = s.codriver; minute = w % 2048; next_driver = w % 2048 + 1; next_codriver = s.next_codriver }))))
        by true early b = good_by 0 s.next_driver at knows.driver ∙ fails_slot s.next_driver (is_first_good n w) (grind (arith, nat_tests, early))
        by false fits true = let free : s.next_driver ≤ m = grind (arith, nat_tests, fits) in (good free, known free _ refl refl refl)
        by false fits false = let free : s.next_driver ≤ m = grind (arith, nat_tests, fits) in (good free, known free _ refl refl refl)

    codriver_judged : slot_bit w ≡ 1 → Verdict (codriver_next kept s w)
    codriver_judged at = by (nat_lt (w % 2048) s.next_codriver) refl (nat_lt kept (w % 2048))
      where
        on : (slot_bit w == 1) ≡ true
        on = grind (arith, nat_tests)

        off : (slot_bit w == 0) ≡ false
        off = grind (arith, nat_tests)

        good : s.next_codriver ≤ m → is_word_good before w ≡ true
        good free = good_by 1 s.next_codriver at knows.codriver ∙ ap (λ (f : Bool). nat_lt m 1440 && ((nat_le s.minute m && nat_le s.next_codriver m) && f)) first ∙ passes s.next_codriver low order free

        known : s.next_codriver ≤ m → (t : Scan) → t.minute ≡ m → t.next_codriver ≡ m + 1 → t.next_driver ≡ s.next_driver → Knows (before ++ w ∷ []) t
        known free t minute next same = record {
          codriver = λ u. all_append (is_before 1 u) before (w ∷ []) ∙ ap (λ (b : Bool). b && (is_before 1 u w && true)) (knows.codriver u)
              ∙ ap (λ (q : Bool). (nat_le s.minute u && nat_le s.next_codriver u) && ((nat_le m u && not (q && m == u)) && true)) on ∙ own s.minute m s.next_codriver u order free
              ∙ sym (λ i. nat_le (minute i) u && nat_le (next i) u);
          driver = λ u. all_append (is_before 0 u) before (w ∷ []) ∙ ap (λ (b : Bool). b && (is_before 0 u w && true)) (knows.driver u)
              ∙ ap (λ (q : Bool). (nat_le s.minute u && nat_le s.next_driver u) && ((nat_le m u && not (q && m == u)) && true)) off ∙ other s.minute m s.next_driver u order
              ∙ sym (λ i. nat_le (minute i) u && nat_le (same i) u);
        }

        by : (a : Bool) → nat_lt (w % 2048) s.next_codriver ≡ a → (b : Bool)
            → Verdict (cond a None (cond b (Some (record { count = s.count; driver = s.driver; codriver = s.codriver; minute = w % 2048; next_driver = s.next_driver; next_codriver = w % 2048 + 1 }))
            (Some (record { count = s.count + 1; driver = s.driver; codriver = w / 2048 % 16; minute = w % 2048; next_driver = s.next_driver; next_codriver = w % 2048 + 1 }))))
        by true early b = good_by 1 s.next_codriver at knows.codriver ∙ fails_slot s.next_codriver (is_first_good n w) (grind (arith, nat_tests, early))
        by false fits true = let free : s.next_codriver ≤ m = grind (arith, nat_tests, fits) in (good free, known free _ refl refl refl)
        by false fits false = let free : s.next_codriver ≤ m = grind (arith, nat_tests, fits) in (good free, known free _ refl refl refl)

  -- where the word fails, by either slot
  fails_by : (P : Bool → Type 0) → ((next : ℕ) → P (nat_lt m 1440 && ((nat_le s.minute m && nat_le next m) && is_first_good n w))) → P (is_word_good before w)
  fails_by P all = by (slot_bit w == 0) refl
    where
      by : (b : Bool) → (slot_bit w == 0) ≡ b → P (is_word_good before w)
      by true is = Rattle.std.proofs.Common.subst P (sym (good_by 0 s.next_driver (grind (arith, nat_tests, is)) knows.driver)) (all s.next_driver)
      by false is = Rattle.std.proofs.Common.subst P (sym (good_by 1 s.next_codriver (let isnt : slot_bit w ≢ 0 = grind (arith, nat_tests, is) in omega (arith, isnt)) knows.codriver)) (all s.next_codriver)

  pub judge_word : Verdict (next_scan kept s n w)
  judge_word = by (nat_le 1440 (w % 2048)) refl (nat_lt (w % 2048) s.minute) refl (is_first_good n w) refl (w / 32768 % 2 == 0) refl
    where
      by : (a : Bool) → nat_le 1440 (w % 2048) ≡ a → (b : Bool) → nat_lt (w % 2048) s.minute ≡ b → (f : Bool) → is_first_good n w ≡ f → (d : Bool) → (w / 32768 % 2 == 0) ≡ d
          → Verdict (cond (a || (b || not f)) None (cond d (driver_next kept s w) (codriver_next kept s w)))
      by true late b isb f isf d isd = fails_by (λ v. v ≡ false) (λ next. fails next (is_first_good n w) (grind (arith, nat_tests, late)))
      by false isa true early f isf d isd = fails_by (λ v. v ≡ false) (λ next. fails_order next (is_first_good n w) (grind (arith, nat_tests, early)))
      by false isa false isb false isf d isd = fails_by (λ v. v ≡ false) (λ next. ap (λ (f : Bool). nat_lt m 1440 && ((nat_le s.minute m && nat_le next m) && f)) isf ∙ fails_first next)
      by false isa false isb true isf true isd = driver_judged (grind (arith, nat_tests, isa)) (grind (arith, nat_tests, isb)) isf (grind (arith, nat_tests, isd))
      by false isa false isb true isf false isd =
          let isnt : w / 32768 % 2 ≢ 0 = grind (arith, nat_tests, isd) in codriver_judged (grind (arith, nat_tests, isa)) (grind (arith, nat_tests, isb)) isf (omega (arith, isnt))

pub words_fail : (kept base n : ℕ) (before ws : List ℕ) (s : Scan) → length before ≡ n → Knows before s
    → first_failing (word_checks (base + 2 * n) before ws) ≡ failed_of (scan_from kept base n s ws)
words_fail kept base n before [] s len knows = refl
words_fail kept base n before (w ∷ ws) s len knows = by (next_scan kept s n w) (judge_word kept n w before s len knows)
    (λ t more. words_fail kept base (n + 1) (before ++ w ∷ []) ws t (omega (arith, length-append before (w ∷ []), len)) more)
  where
    by : (o : Option Scan) → Verdict kept n w before s len knows o
        → ((t : Scan) → Knows (before ++ w ∷ []) t → first_failing (word_checks (base + 2 * (n + 1)) (before ++ w ∷ []) ws) ≡ failed_of (scan_from kept base (n + 1) t ws))
        → cond (is_word_good before w) (first_failing (word_checks (base + 2 * n + 2) (before ++ w ∷ []) ws)) (Some (base + 2 * n)) ≡ failed_of (or_place (base + 2 * n) o (λ t. scan_from kept base (n + 1) t ws))
    by None bad more = ap (λ (b : Bool). cond b (first_failing (word_checks (base + 2 * n + 2) (before ++ w ∷ []) ws)) (Some (base + 2 * n))) bad
    by (Some t) good more =
        ap (λ (b : Bool). cond b (first_failing (word_checks (base + 2 * n + 2) (before ++ w ∷ []) ws)) (Some (base + 2 * n))) good.0
        ∙ ap (λ (p : ℕ). first_failing (word_checks p (before ++ w ∷ []) ws)) (let e : base + 2 * n + 2 ≡ base + 2 * (n + 1) = omega arith in e) ∙ more t good.1

-- from the first word on
pub all_words_fail : (kept base : ℕ) (ws : List ℕ) → first_failing (word_checks base [] ws) ≡ failed_of (scan_from kept base 0 start ws)
all_words_fail kept base ws = ap (λ (p : ℕ). first_failing (word_checks p [] ws)) (let e : base ≡ base + 2 * 0 = omega arith in e) ∙ words_fail kept base 0 [] ws start refl knows_start
