-- Records that were read and pass their checks.
use Rattle.std.proofs.Common.{◌≡◌, ◌⊎◌, inl, inr, ℕ, zero, suc, ◌+◌, ◌-◌, ◌*◌, ◌/◌, ◌%◌, ◌<◌, ◌≤◌, Bool, true, false, cond, Some, None, List, [], ◌∷◌, ◌++◌, length, take, drop, refl, sym, ◌∙◌, ap, subst, arith, take-append-drop}
use Rattle.std.specs.Prelude.{◌&&◌, ◌||◌, nat_eq, nat_lt, nat_le}
use Rattle.std.proofs.lemmas.Bool.{and_parts, eqb-true, leb-true, ltb-true}
use Rattle.std.proofs.lemmas.List.{drop-drop, drop-take, take-take}
use Rattle.tach_media.specs.Medium.{bytes_at}
use Rattle.card_model.specs.Bytes.{number, two_bytes, four_bytes, decimal_bytes, decimal}
use Rattle.activity_codec.specs.Words.{word_minute}
use Rattle.card_model.specs.Days.{Day, len_of, Ascend, AreWords, word_bytes}
use Rattle.card_model.specs.Walk.{words_of}
use Rattle.card_model.specs.Checks.{check, first_failing, is_len, is_previous, is_date, is_decimal, field_checks, word_checks, record_checks}
use Rattle.card_model.proofs.Numbers.{number_two, number_four}
use Rattle.card_model.proofs.Judging.{passed_then, failed_then, first_passes}
use Rattle.card_days.specs.declared.head.RecordHead.{RecordHead}
use Rattle.card_days.specs.Heads.{head_bytes}
use Rattle.card_days.specs.Loading.{ArePairs, IsRecord}

-- one word more that was looked at
pub word_step : (b : List ℕ) (count i from below w : ℕ) → i < count → bytes_at b (12 + 2 * i) 2 ≡ two_bytes w
    → first_failing (word_checks (12 + 2 * i) from below (words_of (count - i) (drop (2 * i) (drop 12 b)))) ≡ cond (nat_le from (w % 2048) && nat_lt (w % 2048) below) (first_failing (word_checks (12 + 2 * (i + 1)) (w % 2048) 1440 (words_of (count - (i + 1)) (drop (2 * (i + 1)) (drop 12 b))))) (Some (12 + 2 * i))
word_step b count i from below w lt read =
    let l : List ℕ = drop (2 * i) (drop 12 b) in
    let n = count - (i + 1) in
    let more : count - i ≡ suc (count - (i + 1)) = omega (arith, lt) in
    let place : 2 * i + 12 ≡ 12 + 2 * i = omega arith in
    let here : take 2 (drop (2 * i) (drop 12 b)) ≡ two_bytes w = ap (λ (l : List ℕ). take 2 l) (drop-drop (2 * i) 12 b ∙ ap (λ (k : ℕ). drop k b) (omega arith)) ∙ read in
    let is : number (take 2 (drop (2 * i) (drop 12 b))) ≡ w = ap number here ∙ number_two w in
    let rest : drop 2 (drop (2 * i) (drop 12 b)) ≡ drop (2 * (i + 1)) (drop 12 b) = drop-drop 2 (2 * i) (drop 12 b) ∙ ap (λ (k : ℕ). drop k (drop 12 b)) (omega arith) in
    let next : 12 + 2 * i + 2 ≡ 12 + 2 * (i + 1) = omega arith in
    ap (λ (k : ℕ). first_failing (word_checks (12 + 2 * i) from below (words_of k (drop (2 * i) (drop 12 b))))) more
    ∙ ap (λ (v : ℕ). cond (nat_le from (v % 2048) && nat_lt (v % 2048) below) (first_failing (word_checks (12 + 2 * i + 2) (v % 2048) 1440 (words_of n (drop 2 (drop (2 * i) (drop 12 b)))))) (Some (12 + 2 * i))) is
    ∙ ap (λ (m : List ℕ). cond (nat_le from (w % 2048) && nat_lt (w % 2048) below) (first_failing (word_checks (12 + 2 * i + 2) (w % 2048) 1440 (words_of n m))) (Some (12 + 2 * i))) rest
    ∙ ap (λ (k : ℕ). cond (nat_le from (w % 2048) && nat_lt (w % 2048) below) (first_failing (word_checks k (w % 2048) 1440 (words_of n (drop (2 * (i + 1)) (drop 12 b))))) (Some (12 + 2 * i))) next

-- a pair that was read
pub pair_step : (b : List ℕ) (i w : ℕ) → bytes_at b (12 + 2 * i) 2 ≡ two_bytes w → bytes_at (drop 12 b) (2 * i) 2 ≡ two_bytes (number (bytes_at (drop 12 b) (2 * i) 2))
pair_step b i w read =
    let here : bytes_at (drop 12 b) (2 * i) 2 ≡ two_bytes w = ap (λ (l : List ℕ). take 2 l) (drop-drop (2 * i) 12 b ∙ ap (λ (k : ℕ). drop k b) (omega arith)) ∙ read in
    here ∙ ap two_bytes (sym (ap number here ∙ number_two w))

is_previous_cases : (so_far before previous : ℕ) → is_previous so_far before previous ≡ true → (so_far ≡ 0) ⊎ (previous ≡ before)
is_previous_cases so_far before previous test = by (nat_eq so_far 0) refl test
  where
    by : (a : Bool) → nat_eq so_far 0 ≡ a → (a || nat_eq previous before) ≡ true → (so_far ≡ 0) ⊎ (previous ≡ before)
    by true is test = inl (eqb-true so_far 0 is)
    by false is test = inr (eqb-true previous before test)

-- words that pass
later_words : (offset from : ℕ) (ws : List ℕ) → first_failing (word_checks offset from 1440 ws) ≡ None → Ascend from ws
later_words offset from [] none = tt
later_words offset from (w ∷ ws) none =
    let first = first_passes (nat_le from (word_minute w) && nat_lt (word_minute w) 1440) offset (word_checks (offset + 2) (word_minute w) 1440 ws) none in
    let tests = and_parts (nat_le from (word_minute w)) (nat_lt (word_minute w) 1440) first.0 in
    (leb-true from (word_minute w) tests.0, ltb-true (word_minute w) 1440 tests.1, later_words (offset + 2) (word_minute w) ws first.1)

words_are : (offset : ℕ) (ws : List ℕ) → 0 < length ws → first_failing (word_checks offset 0 1 ws) ≡ None → AreWords ws
words_are offset [] some none = absurd (omega (arith, some))
words_are offset (w ∷ ws) some none =
    let first = first_passes (nat_le 0 (word_minute w) && nat_lt (word_minute w) 1) offset (word_checks (offset + 2) (word_minute w) 1440 ws) none in
    let tests = and_parts (nat_le 0 (word_minute w)) (nat_lt (word_minute w) 1) first.0 in
    let low : word_minute w < 1 = ltb-true (word_minute w) 1 tests.1 in
    let zero_minute : word_minute w ≡ 0 = omega (arith, low) in
    (zero_minute, subst (λ (m : ℕ). Ascend m ws) zero_minute (later_words (offset + 2) (word_minute w) ws first.1))

-- words whose bytes were read
pub words_spelled : (n : ℕ) (l : List ℕ) → ArePairs n l → l ≡ word_bytes (words_of n l) ++ drop (2 * n) l
words_spelled zero l pairs = refl
words_spelled (suc n) l pairs =
    let first : take 2 l ≡ two_bytes (number (take 2 l)) = pairs 0 (omega arith) in
    let far : 2 + 2 * n ≡ 2 * suc n = omega arith in
    sym (take-append-drop 2 l) ∙ ap (λ (m : List ℕ). m ++ drop 2 l) first
    ∙ ap (λ (m : List ℕ). two_bytes (number (take 2 l)) ++ m) (words_spelled n (drop 2 l) later)
    ∙ ap (λ (m : List ℕ). two_bytes (number (take 2 l)) ++ (word_bytes (words_of n (drop 2 l)) ++ m)) (drop-drop (2 * n) 2 l ∙ ap (λ (k : ℕ). drop k l) far)
  where
    later : ArePairs n (drop 2 l)
    later j lt =
        let same : bytes_at l (2 * suc j) 2 ≡ bytes_at (drop 2 l) (2 * j) 2 = sym (ap (λ (m : List ℕ). take 2 m) (drop-drop (2 * j) 2 l ∙ ap (λ (k : ℕ). drop k l) (omega arith))) in
        sym same ∙ pairs (suc j) (omega (arith, lt)) ∙ ap (λ (m : List ℕ). two_bytes (number m)) same

words_count : (n : ℕ) (l : List ℕ) → length (words_of n l) ≡ n
words_count zero l = refl
words_count (suc n) l = omega (arith, words_count n (drop 2 l))

-- four decimal digits, written again
digits_again : (v : ℕ) → v < 65536 → is_decimal v ≡ true → decimal_bytes (decimal v) ≡ two_bytes v
digits_again v short test =
    let three = and_parts (nat_lt (v / 4096) 10 && nat_lt (v / 256 % 16) 10 && nat_lt (v / 16 % 16) 10) (nat_lt (v % 16) 10) test in
    let two = and_parts (nat_lt (v / 4096) 10 && nat_lt (v / 256 % 16) 10) (nat_lt (v / 16 % 16) 10) three.0 in
    let one = and_parts (nat_lt (v / 4096) 10) (nat_lt (v / 256 % 16) 10) two.0 in
    let a_low : v / 4096 < 10 = ltb-true (v / 4096) 10 one.0 in
    let b_low : v / 256 % 16 < 10 = ltb-true (v / 256 % 16) 10 one.1 in
    let c_low : v / 16 % 16 < 10 = ltb-true (v / 16 % 16) 10 two.1 in
    let d_low : v % 16 < 10 = ltb-true (v % 16) 10 three.1 in
    by (v / 4096) (v / 256 % 16) (v / 16 % 16) (v % 16) a_low b_low c_low d_low (omega (arith, a_low)) (omega arith)
  where
    by : (a b c d : ℕ) → a < 10 → b < 10 → c < 10 → d < 10 → v / 4096 % 16 ≡ a → v ≡ 4096 * a + 256 * b + 16 * c + d → decimal_bytes (1000 * (v / 4096 % 16) + 100 * b + 10 * c + d) ≡ two_bytes v
    by a b c d a_low b_low c_low d_low a_is is =
        let n : ℕ = 1000 * (v / 4096 % 16) + 100 * b + 10 * c + d in
        let e1 : (1000 * (v / 4096 % 16) + 100 * b + 10 * c + d) / 100 ≡ 10 * a + b = omega (arith, a_is, c_low, d_low) in
        let e2 : (1000 * (v / 4096 % 16) + 100 * b + 10 * c + d) % 100 ≡ 10 * c + d = omega (arith, a_is, c_low, d_low) in
        let f1 : (10 * a + b) / 10 ≡ a = omega (arith, b_low) in
        let f2 : (10 * a + b) % 10 ≡ b = omega (arith, b_low) in
        let f3 : (10 * c + d) / 10 ≡ c = omega (arith, d_low) in
        let f4 : (10 * c + d) % 10 ≡ d = omega (arith, d_low) in
        let h1 : v / 256 ≡ 16 * a + b = omega (arith, is, c_low, d_low) in
        let h2 : v % 256 ≡ 16 * c + d = omega (arith, is, c_low, d_low) in
        let g1 : 16 * ((10 * a + b) / 10) + (10 * a + b) % 10 ≡ v / 256 = omega (arith, f1, f2, h1) in
        let g2 : 16 * ((10 * c + d) / 10) + (10 * c + d) % 10 ≡ v % 256 = omega (arith, f3, f4, h2) in
        ap (λ (m : ℕ). (16 * (m / 10) + m % 10) ∷ (16 * (n % 100 / 10) + n % 100 % 10) ∷ []) e1
        ∙ ap (λ (m : ℕ). (16 * ((10 * a + b) / 10) + (10 * a + b) % 10) ∷ (16 * (m / 10) + m % 10) ∷ []) e2
        ∙ ap (λ (m : ℕ). m ∷ (16 * ((10 * c + d) / 10) + (10 * c + d) % 10) ∷ []) g1
        ∙ ap (λ (m : ℕ). v / 256 ∷ m ∷ []) g2

digits_small : (v : ℕ) → is_decimal v ≡ true → decimal v ≤ 9999
digits_small v test =
    let three = and_parts (nat_lt (v / 4096) 10 && nat_lt (v / 256 % 16) 10 && nat_lt (v / 16 % 16) 10) (nat_lt (v % 16) 10) test in
    let two = and_parts (nat_lt (v / 4096) 10 && nat_lt (v / 256 % 16) 10) (nat_lt (v / 16 % 16) 10) three.0 in
    let one = and_parts (nat_lt (v / 4096) 10) (nat_lt (v / 256 % 16) 10) two.0 in
    let a_low : v / 4096 < 10 = ltb-true (v / 4096) 10 one.0 in
    let b_low : v / 256 % 16 < 10 = ltb-true (v / 256 % 16) 10 one.1 in
    let c_low : v / 16 % 16 < 10 = ltb-true (v / 16 % 16) 10 two.1 in
    let d_low : v % 16 < 10 = ltb-true (v % 16) 10 three.1 in
    let a_same : v / 4096 % 16 ≡ v / 4096 = omega (arith, a_low) in
    omega (arith, a_same, a_low, b_low, c_low, d_low)

-- a part of the first twelve bytes
pub in_twelve : (b : List ℕ) (k n m : ℕ) → k + n + m ≡ 12 → bytes_at (take 12 b) k n ≡ bytes_at b k n
in_twelve b k n m is =
    let whole : 12 ≡ k + (n + m) = omega (arith, is) in
    ap (λ (j : ℕ). bytes_at (take j b) k n) whole ∙ ap (λ (l : List ℕ). take n l) (drop-take k (n + m) b) ∙ take-take n (n + m) (drop k b) (omega arith)

-- The bytes from a place on, of which the head and the words were read.
module _ (size so_far before date : ℕ) (b : List ℕ) (h : RecordHead) (same : head_bytes h ≡ take 12 b) where
  pub previous_read : number (bytes_at b 0 2) ≡ h.previous
  previous_read = sym (ap (λ (l : List ℕ). number (bytes_at l 0 2)) same ∙ ap number (in_twelve b 0 2 10 refl)) ∙ number_two h.previous

  pub len_read : number (bytes_at b 2 2) ≡ h.len
  len_read = sym (ap (λ (l : List ℕ). number (bytes_at l 2 2)) same ∙ ap number (in_twelve b 2 2 8 refl)) ∙ number_two h.len

  pub date_read : number (bytes_at b 4 4) ≡ h.date
  date_read = sym (ap (λ (l : List ℕ). number (bytes_at l 4 4)) same ∙ ap number (in_twelve b 4 4 4 refl)) ∙ number_four h.date

  pub counter_read : number (bytes_at b 8 2) ≡ h.counter
  counter_read = sym (ap (λ (l : List ℕ). number (bytes_at l 8 2)) same ∙ ap number (in_twelve b 8 2 2 refl)) ∙ number_two h.counter

  -- the checks of the fields, by the numbers that were read
  pub fields_read : field_checks size so_far before date (number (bytes_at b 0 2)) (number (bytes_at b 2 2)) (number (bytes_at b 4 4)) (number (bytes_at b 8 2)) ≡ field_checks size so_far before date h.previous h.len h.date h.counter
  fields_read =
      ap (λ (n : ℕ). field_checks size so_far before date n (number (bytes_at b 2 2)) (number (bytes_at b 4 4)) (number (bytes_at b 8 2))) previous_read
      ∙ ap (λ (n : ℕ). field_checks size so_far before date h.previous n (number (bytes_at b 4 4)) (number (bytes_at b 8 2))) len_read
      ∙ ap (λ (n : ℕ). field_checks size so_far before date h.previous h.len n (number (bytes_at b 8 2))) date_read
      ∙ ap (λ (n : ℕ). field_checks size so_far before date h.previous h.len h.date n) counter_read

  -- a field that fails
  pub field_bad : (k : ℕ) → first_failing (field_checks size so_far before date h.previous h.len h.date h.counter) ≡ Some k → first_failing (record_checks size so_far before date b) ≡ Some k
  field_bad k bad = failed_then (field_checks size so_far before date (number (bytes_at b 0 2)) (number (bytes_at b 2 2)) (number (bytes_at b 4 4)) (number (bytes_at b 8 2)))
      (word_checks 12 0 1 (words_of ((number (bytes_at b 2 2) - 12) / 2) (drop 12 b))) k (ap first_failing fields_read ∙ bad)

  module _ (fields : first_failing (field_checks size so_far before date h.previous h.len h.date h.counter) ≡ None) where
    abbrev pub count : ℕ
    count = (h.len - 12) / 2

    split_checks : first_failing (record_checks size so_far before date b) ≡ first_failing (word_checks 12 0 1 (words_of count (drop 12 b)))
    split_checks =
        passed_then (field_checks size so_far before date (number (bytes_at b 0 2)) (number (bytes_at b 2 2)) (number (bytes_at b 4 4)) (number (bytes_at b 8 2)))
        (word_checks 12 0 1 (words_of ((number (bytes_at b 2 2) - 12) / 2) (drop 12 b))) (ap first_failing fields_read ∙ fields)
        ∙ ap (λ (n : ℕ). first_failing (word_checks 12 0 1 (words_of ((n - 12) / 2) (drop 12 b)))) len_read

    -- a word that fails
    pub word_bad : (k : ℕ) → Some k ≡ first_failing (word_checks 12 0 1 (words_of count (drop 12 b))) → first_failing (record_checks size so_far before date b) ≡ Some k
    word_bad k bad = split_checks ∙ sym bad

    tests : (is_len size so_far h.len ≡ true) × (is_previous so_far before h.previous ≡ true) × (is_date date h.date ≡ true) × (is_decimal h.counter ≡ true)
    tests =
        let one = first_passes (is_len size so_far h.len) 2 (check (is_previous so_far before h.previous) 0 ∷ check (is_date date h.date) 4 ∷ check (is_decimal h.counter) 8 ∷ []) fields in
        let two = first_passes (is_previous so_far before h.previous) 0 (check (is_date date h.date) 4 ∷ check (is_decimal h.counter) 8 ∷ []) one.1 in
        let three = first_passes (is_date date h.date) 4 (check (is_decimal h.counter) 8 ∷ []) two.1 in
        let four = first_passes (is_decimal h.counter) 8 [] three.1 in
        (one.0, two.0, three.0, four.0)

    pub len_facts : (h.len % 2 ≡ 0) × (14 ≤ h.len) × (h.len ≤ 2892) × (so_far + h.len ≤ size)
    len_facts =
        let three = and_parts (nat_eq (h.len % 2) 0 && nat_le 14 h.len && nat_le h.len 2892) (nat_le (so_far + h.len) size) tests.0 in
        let two = and_parts (nat_eq (h.len % 2) 0 && nat_le 14 h.len) (nat_le h.len 2892) three.0 in
        let one = and_parts (nat_eq (h.len % 2) 0) (nat_le 14 h.len) two.0 in
        (eqb-true (h.len % 2) 0 one.0, leb-true 14 h.len one.1, leb-true h.len 2892 two.1, leb-true (so_far + h.len) size three.1)

    -- a record that passes
    pub record_read : h.counter < 65536 → None ≡ first_failing (word_checks 12 0 1 (words_of count (drop 12 b))) → ArePairs count (drop 12 b) → IsRecord size so_far before date b h
    record_read short passed pairs =
        let ws : List ℕ = words_of ((h.len - 12) / 2) (drop 12 b) in
        let d : Day = record { date = h.date; counter = decimal h.counter; km = h.km; words = words_of ((h.len - 12) / 2) (drop 12 b) } in
        let long : length (words_of ((h.len - 12) / 2) (drop 12 b)) ≡ (h.len - 12) / 2 = words_count ((h.len - 12) / 2) (drop 12 b) in
        let len_same : h.len ≡ 12 + 2 * length (words_of ((h.len - 12) / 2) (drop 12 b)) = omega (arith, long, len_facts.0, len_facts.1) in
        let dates = and_parts (nat_eq (h.date % 86400) 0) (nat_lt date h.date) tests.2 in
        record {
          passes = split_checks ∙ sym passed;
          day = d;
          previous = h.previous;
          rest = drop (2 * ((h.len - 12) / 2)) (drop 12 b);
          spelled = sym (take-append-drop 12 b) ∙ ap (λ (l : List ℕ). l ++ drop 12 b) (sym same)
              ∙ ap (λ (l : List ℕ). head_bytes h ++ l) (words_spelled ((h.len - 12) / 2) (drop 12 b) pairs)
              ∙ ap (λ (n : ℕ). two_bytes h.previous ++ (two_bytes n ++ (four_bytes h.date ++ (two_bytes h.counter ++ (two_bytes h.km ++ (word_bytes ws ++ drop (2 * ((h.len - 12) / 2)) (drop 12 b))))))) len_same
              ∙ ap (λ (l : List ℕ). two_bytes h.previous ++ (two_bytes (len_of d) ++ (four_bytes h.date ++ (l ++ (two_bytes h.km ++ (word_bytes ws ++ drop (2 * ((h.len - 12) / 2)) (drop 12 b))))))) (sym (digits_again h.counter short tests.3));
          is = record {
            midnight = eqb-true (h.date % 86400) 0 dates.0;
            decimal = digits_small h.counter tests.3;
            most = omega (arith, long, len_facts.2);
            ordered = words_are 12 ws (omega (arith, long, len_facts.1)) (sym passed);
          };
          later = ltb-true date h.date dates.1;
          follows = is_previous_cases so_far before h.previous tests.1;
          fits = omega (arith, len_same, len_facts.3);
          len = len_same;
          date_is = refl;
        }
