-- An image that holds days passes all checks.
use Rattle.std.proofs.Common.{◌≡◌, ◌≢◌, ⊎_elim, ℕ, zero, suc, ◌+◌, ◌-◌, ◌*◌, ◌/◌, ◌%◌, ◌<◌, ◌≤◌, Bool, true, false, cond, Some, None, option_map, List, [], ◌∷◌, ◌++◌, length, drop, refl, ◌∙◌, ap, arith, append_assoc}
use Rattle.std.specs.Prelude.{◌&&◌, ◌||◌, nat_eq, nat_lt, nat_le}
use Rattle.std.proofs.lemmas.Bool.Decides.{nat_tests}
use Rattle.std.proofs.lemmas.Bool.{and_from, and_right, eq-eqb, ne_eqb}
use Rattle.tach_media.specs.Medium.{bytes_at}
use Rattle.card_model.specs.Bytes.{number, decimal_bytes}
use Rattle.activity_codec.specs.Words.{word_minute}
use Rattle.card_model.specs.Days.{Day, len_of, total, far, Ascend, AreWords, word_bytes, record_of, records, IsDay, AreDays}
use Rattle.card_model.specs.Image.{StringShape, IsStringShape, turned, oldest_pointer, newest_pointer, circle_of, IsPointer, HoldsDays}
use Rattle.card_model.specs.Walk.{words_of}
use Rattle.card_model.specs.Checks.{Check, check, first_failing, is_pointer, is_len, is_previous, is_date, is_decimal, field_checks, word_checks, record_checks, file_place, placed_checks, day_checks, distance_of, is_empty, first_bad}
use Rattle.card_model.proofs.Numbers.{number_two, number_four}
use Rattle.card_model.proofs.Ascending.{words_ascend}
use Rattle.card_model.proofs.Lists.{record_length, len_even, len_most, len_least, last_len_is, last_least, count_least}
use Rattle.card_model.proofs.Circle.{turned_front}
use Rattle.card_model.proofs.Reading.{fills}
use Rattle.card_model.proofs.Walking.{distance_is}

-- after checks that pass
pub passed_then : (a b : List Check) → first_failing a ≡ None → first_failing (a ++ b) ≡ first_failing b
passed_then [] b none = refl
passed_then (c ∷ cs) b none = by (λ so. passed_then cs b so) c.passes none
  where
    by : (first_failing cs ≡ None → first_failing (cs ++ b) ≡ first_failing b) → (p : Bool) → cond p (first_failing cs) (Some c.place) ≡ None → cond p (first_failing (cs ++ b)) (Some c.place) ≡ first_failing b
    by so true none = so none
    by so false none = cc

-- after one that fails
pub failed_then : (a b : List Check) (p : ℕ) → first_failing a ≡ Some p → first_failing (a ++ b) ≡ Some p
failed_then [] b p some = cc
failed_then (c ∷ cs) b p some = by (λ so. failed_then cs b p so) c.passes some
  where
    by : (first_failing cs ≡ Some p → first_failing (cs ++ b) ≡ Some p) → (t : Bool) → cond t (first_failing cs) (Some c.place) ≡ Some p → cond t (first_failing (cs ++ b)) (Some c.place) ≡ Some p
    by so true some = so some
    by so false some = some

-- a check that passes with those behind it
pub first_passes : (t : Bool) (p : ℕ) (cs : List Check) → first_failing (check t p ∷ cs) ≡ None → (t ≡ true) × (first_failing cs ≡ None)
first_passes true p cs none = (refl, none)
first_passes false p cs none = cc

pub both_pass : (a b : List Check) → first_failing (a ++ b) ≡ None → (first_failing a ≡ None) × (first_failing b ≡ None)
both_pass [] b none = (refl, none)
both_pass (c ∷ a) b none = by (λ so. both_pass a b so) c.passes none
  where
    by : (first_failing (a ++ b) ≡ None → (first_failing a ≡ None) × (first_failing b ≡ None)) → (t : Bool) → cond t (first_failing (a ++ b)) (Some c.place) ≡ None → (cond t (first_failing a) (Some c.place) ≡ None) × (first_failing b ≡ None)
    by so true none = so none
    by so false none = cc

-- the places of a record's checks
pub placed_failing : (size o k : ℕ) (cs : List Check) → first_failing (placed_checks size o k cs) ≡ option_map (λ p. file_place size o (k + p)) (first_failing cs)
placed_failing size o k [] = refl
placed_failing size o k (c ∷ cs) = by (placed_failing size o k cs) c.passes
  where
    by : first_failing (placed_checks size o k cs) ≡ option_map (λ p. file_place size o (k + p)) (first_failing cs) → (t : Bool)
        → cond t (first_failing (placed_checks size o k cs)) (Some (file_place size o (k + c.place))) ≡ option_map (λ p. file_place size o (k + p)) (cond t (first_failing cs) (Some c.place))
    by so true = so
    by so false = refl

-- one check
pub passes_one : (t : Bool) (p : ℕ) (cs : List Check) → t ≡ true → first_failing (check t p ∷ cs) ≡ first_failing cs
passes_one t p cs is = ap (λ (b : Bool). cond b (first_failing cs) (Some p)) is

pub fields_pass : (size so_far before date previous len this counter : ℕ) → is_len size so_far len ≡ true → is_previous so_far before previous ≡ true → is_date date this ≡ true → is_decimal counter ≡ true
    → first_failing (field_checks size so_far before date previous len this counter) ≡ None
fields_pass size so_far before date previous len this counter a b c d =
    passes_one (is_len size so_far len) 2 (check (is_previous so_far before previous) 0 ∷ check (is_date date this) 4 ∷ check (is_decimal counter) 8 ∷ []) a
    ∙ passes_one (is_previous so_far before previous) 0 (check (is_date date this) 4 ∷ check (is_decimal counter) 8 ∷ []) b
    ∙ passes_one (is_date date this) 4 (check (is_decimal counter) 8 ∷ []) c ∙ passes_one (is_decimal counter) 8 [] d

in_order : (m n k : ℕ) → m ≤ n → n < k → (nat_le m n && nat_lt n k) ≡ true
in_order m n k low high = and_from (nat_le m n) (nat_lt n k) (grind (arith, nat_tests)) (grind (arith, nat_tests))

later_pass : (offset from : ℕ) (ws : List ℕ) → Ascend from ws → first_failing (word_checks offset from 1440 ws) ≡ None
later_pass offset from [] up = refl
later_pass offset from (w ∷ ws) up =
    passes_one (nat_le from (word_minute w) && nat_lt (word_minute w) 1440) offset (word_checks (offset + 2) (word_minute w) 1440 ws) (in_order from (word_minute w) 1440 up.0 up.1)
    ∙ later_pass (offset + 2) (word_minute w) ws up.2

pub words_pass : (offset : ℕ) (ws : List ℕ) → AreWords ws → first_failing (word_checks offset 0 1 ws) ≡ None
words_pass offset [] are = absurd are
words_pass offset (w ∷ ws) are =
    passes_one (nat_le 0 (word_minute w) && nat_lt (word_minute w) 1) offset (word_checks (offset + 2) (word_minute w) 1440 ws) (in_order 0 (word_minute w) 1 (omega arith) (omega (arith, are.0)))
    ∙ later_pass (offset + 2) (word_minute w) ws (words_ascend (w ∷ ws) are).2

-- the tests of a day's fields
len_passes : (size so_far : ℕ) (d : Day) → IsDay d → so_far + len_of d ≤ size → is_len size so_far (len_of d) ≡ true
len_passes size so_far d is fits = by (len_of d) (len_even d) (len_least d is) (len_most d is) fits
  where
    by : (n : ℕ) → n % 2 ≡ 0 → 14 ≤ n → n ≤ 2892 → so_far + n ≤ size → is_len size so_far n ≡ true
    by n even low high fits = and_from (nat_eq (n % 2) 0 && nat_le 14 n && nat_le n 2892) (nat_le (so_far + n) size)
        (and_from (nat_eq (n % 2) 0 && nat_le 14 n) (nat_le n 2892) (and_from (nat_eq (n % 2) 0) (nat_le 14 n) (grind (arith, nat_tests)) (grind (arith, nat_tests))) (grind (arith, nat_tests))) (grind (arith, nat_tests))

date_passes : (before date : ℕ) → date % 86400 ≡ 0 → before < date → is_date before date ≡ true
date_passes before date midnight later = and_from (nat_eq (date % 86400) 0) (nat_lt before date) (grind (arith, nat_tests)) (grind (arith, nat_tests))

digits_pass : (v a b c d : ℕ) → a < 10 → b < 10 → c < 10 → d < 10 → v ≡ 4096 * a + 256 * b + 16 * c + d → is_decimal v ≡ true
digits_pass v a b c d a_low b_low c_low d_low is =
    let e1 : v / 4096 ≡ a = omega arith in
    let e2 : v / 256 ≡ 16 * a + b = omega arith in
    let e3 : v / 16 ≡ 256 * a + 16 * b + c = omega arith in
    let f1 : v / 4096 < 10 = omega (arith, e1, a_low) in
    let f2 : v / 256 % 16 < 10 = omega (arith, e2, b_low) in
    let f3 : v / 16 % 16 < 10 = omega (arith, e3, c_low) in
    let f4 : v % 16 < 10 = omega (arith, is, d_low) in
    and_from (nat_lt (v / 4096) 10 && nat_lt (v / 256 % 16) 10 && nat_lt (v / 16 % 16) 10) (nat_lt (v % 16) 10)
    (and_from (nat_lt (v / 4096) 10 && nat_lt (v / 256 % 16) 10) (nat_lt (v / 16 % 16) 10)
    (and_from (nat_lt (v / 4096) 10) (nat_lt (v / 256 % 16) 10) (below f1) (below f2)) (below f3)) (below f4)
  where
    below : {m : ℕ} → m < 10 → nat_lt m 10 ≡ true
    below {m} lt = grind (arith, nat_tests)

counter_passes : (n : ℕ) → n ≤ 9999 → is_decimal (number (decimal_bytes n)) ≡ true
counter_passes n most =
    let h_low : n / 100 < 100 = omega arith in
    let l_low : n % 100 < 100 = omega arith in
    digits_pass (number (decimal_bytes n)) (n / 100 / 10) (n / 100 % 10) (n % 100 / 10) (n % 100 % 10) (omega (arith, h_low)) (omega arith) (omega (arith, l_low)) (omega arith) (omega arith)

-- words, read back
pub words_back : (ws : List ℕ) (rest : List ℕ) → words_of (length ws) (word_bytes ws ++ rest) ≡ ws
words_back [] rest = refl
words_back (w ∷ ws) rest = ap (λ (n : ℕ). n ∷ words_of (length ws) (word_bytes ws ++ rest)) (number_two w) ∙ ap (λ (l : List ℕ). w ∷ l) (words_back ws rest)

-- the record of a day passes
pub record_passes : (size so_far before q date : ℕ) (d : Day) (rest : List ℕ) → IsDay d → date < d.date → is_previous so_far before q ≡ true → so_far + len_of d ≤ size
    → first_failing (record_checks size so_far before date (record_of q d ++ rest)) ≡ None
record_passes size so_far before q date d rest is later previous fits =
    let b : List ℕ = record_of q d ++ rest in
    let len : number (bytes_at (record_of q d ++ rest) 2 2) ≡ len_of d = number_two (len_of d) in
    let count : (len_of d - 12) / 2 ≡ length d.words = omega arith in
    let words : words_of ((number (bytes_at (record_of q d ++ rest) 2 2) - 12) / 2) (drop 12 (record_of q d ++ rest)) ≡ d.words =
    ap (λ (n : ℕ). words_of ((n - 12) / 2) (drop 12 (record_of q d ++ rest))) len ∙ ap (λ (n : ℕ). words_of n (word_bytes d.words ++ rest)) count ∙ words_back d.words rest in
    passed_then (field_checks size so_far before date (number (bytes_at b 0 2)) (number (bytes_at b 2 2)) (number (bytes_at b 4 4)) (number (bytes_at b 8 2)))
    (word_checks 12 0 1 (words_of ((number (bytes_at b 2 2) - 12) / 2) (drop 12 b)))
    (fields_pass size so_far before date (number (bytes_at b 0 2)) (number (bytes_at b 2 2)) (number (bytes_at b 4 4)) (number (bytes_at b 8 2))
    (ap (λ (n : ℕ). is_len size so_far n) len ∙ len_passes size so_far d is fits) (ap (λ (n : ℕ). is_previous so_far before n) (number_two q) ∙ previous)
    (ap (λ (n : ℕ). is_date date n) (number_four d.date) ∙ date_passes date d.date is.midnight later) (counter_passes d.counter is.decimal))
    ∙ ap (λ (ws : List ℕ). first_failing (word_checks 12 0 1 ws)) words ∙ words_pass 12 d.words is.ordered

-- how the walk of the checks goes on
module _ (most size o far so_far before date : ℕ) (bytes : List ℕ) where
  abbrev len : ℕ
  len = number (bytes_at bytes 2 2)

  abbrev following : Bool → List Check
  following b = elim b as (λ _. List Check) [
    | true ↦ []
    | false ↦ check (nat_le (so_far + len) far) 2 ∷ day_checks most size o far (so_far + len) len (number (bytes_at bytes 4 4)) (turned len bytes)
  ]

  pub day_bad : (p : ℕ) → first_failing (record_checks size so_far before date bytes) ≡ Some p → first_failing (day_checks (suc most) size o far so_far before date bytes) ≡ Some (file_place size o (so_far + p))
  day_bad p bad = failed_then (placed_checks size o so_far (record_checks size so_far before date bytes)) (following (nat_eq so_far far)) (file_place size o (so_far + p))
      (placed_failing size o so_far (record_checks size so_far before date bytes) ∙ ap (option_map (λ p. file_place size o (so_far + p))) bad)

  module _ (fine : first_failing (record_checks size so_far before date bytes) ≡ None) where
    passed : first_failing (day_checks (suc most) size o far so_far before date bytes) ≡ first_failing (following (nat_eq so_far far))
    passed = passed_then (placed_checks size o so_far (record_checks size so_far before date bytes)) (following (nat_eq so_far far))
        (placed_failing size o so_far (record_checks size so_far before date bytes) ∙ ap (option_map (λ p. file_place size o (so_far + p))) fine)

    pub day_last : so_far ≡ far → first_failing (day_checks (suc most) size o far so_far before date bytes) ≡ None
    day_last is = let test : nat_eq so_far far ≡ true = grind (arith, nat_tests) in passed ∙ ap (λ (b : Bool). first_failing (following b)) test

    pub day_past : so_far ≢ far → far < so_far + len → first_failing (day_checks (suc most) size o far so_far before date bytes) ≡ Some 2
    day_past other past =
        let test : nat_eq so_far far ≡ false = grind (arith, nat_tests) in
        let more : nat_le (so_far + len) far ≡ false = grind (arith, nat_tests) in
        passed ∙ ap (λ (b : Bool). first_failing (following b)) test ∙ ap (λ (b : Bool). cond b (first_failing (day_checks most size o far (so_far + len) len (number (bytes_at bytes 4 4)) (turned len bytes))) (Some 2)) more

    pub day_next : so_far ≢ far → so_far + len ≤ far → first_failing (day_checks (suc most) size o far so_far before date bytes) ≡ first_failing (day_checks most size o far (so_far + len) len (number (bytes_at bytes 4 4)) (turned len bytes))
    day_next other within =
        let test : nat_eq so_far far ≡ false = grind (arith, nat_tests) in
        let more : nat_le (so_far + len) far ≡ true = grind (arith, nat_tests) in
        passed ∙ ap (λ (b : Bool). first_failing (following b)) test ∙ ap (λ (b : Bool). cond b (first_failing (day_checks most size o far (so_far + len) len (number (bytes_at bytes 4 4)) (turned len bytes))) (Some 2)) more

same_length_passes : (so_far n : ℕ) → is_previous so_far n n ≡ true
same_length_passes so_far n = by (nat_eq so_far 0) (nat_eq n n) (grind (arith, nat_tests))
  where
    by : (a b : Bool) → b ≡ true → (a || b) ≡ true
    by true b is = refl
    by false b is = is

-- the records of days pass
days_pass : (most size o so_far before q date : ℕ) (d : Day) (ds : List Day) (rest : List ℕ) → length (d ∷ ds) ≤ most → AreDays date (d ∷ ds) → is_previous so_far before q ≡ true → so_far + total (d ∷ ds) ≤ size
    → first_failing (day_checks most size o (so_far + far (d ∷ ds)) so_far before date (records q (d ∷ ds) ++ rest)) ≡ None
days_pass zero size o so_far before q date d ds rest few are previous fits = absurd (omega (arith, few))
days_pass (suc most) size o so_far before q date d [] rest few are previous fits =
    let same : records q (d ∷ []) ++ rest ≡ record_of q d ++ rest = append_assoc (record_of q d) [] rest in
    ap (λ (l : List ℕ). first_failing (day_checks (suc most) size o (so_far + 0) so_far before date l)) same
    ∙ day_last most size o (so_far + 0) so_far before date (record_of q d ++ rest) (record_passes size so_far before q date d rest are.1 are.0 previous (omega (arith, fits))) (omega arith)
days_pass (suc most) size o so_far before q date d (e ∷ ds) rest few are previous fits =
    let tail : List ℕ = records (len_of d) (e ∷ ds) ++ rest in
    let front : List ℕ = record_of q d in
    let reach : ℕ = so_far + far (d ∷ e ∷ ds) in
    let len : number (bytes_at (record_of q d ++ (records (len_of d) (e ∷ ds) ++ rest)) 2 2) ≡ len_of d = number_two (len_of d) in
    let least : 14 ≤ len_of d = len_least d are.1 in
    ap (λ (l : List ℕ). first_failing (day_checks (suc most) size o (so_far + far (d ∷ e ∷ ds)) so_far before date l)) (append_assoc (record_of q d) (records (len_of d) (e ∷ ds)) rest)
    ∙ day_next most size o (so_far + far (d ∷ e ∷ ds)) so_far before date (record_of q d ++ (records (len_of d) (e ∷ ds) ++ rest))
    (record_passes size so_far before q date d (records (len_of d) (e ∷ ds) ++ rest) are.1 are.0 previous (omega (arith, fits))) (λ same. omega (arith, same, least)) (omega (arith, len))
    ∙ ap (λ (n : ℕ). first_failing (day_checks most size o (so_far + far (d ∷ e ∷ ds)) (so_far + n) n (number (bytes_at (record_of q d ++ (records (len_of d) (e ∷ ds) ++ rest)) 4 4)) (turned n (record_of q d ++ (records (len_of d) (e ∷ ds) ++ rest))))) len
    ∙ ap (λ (n : ℕ). first_failing (day_checks most size o (so_far + far (d ∷ e ∷ ds)) (so_far + len_of d) (len_of d) n (turned (len_of d) (record_of q d ++ (records (len_of d) (e ∷ ds) ++ rest))))) (number_four d.date)
    ∙ ap (λ (l : List ℕ). first_failing (day_checks most size o (so_far + far (d ∷ e ∷ ds)) (so_far + len_of d) (len_of d) d.date l))
    (turned_front (record_of q d) (records (len_of d) (e ∷ ds) ++ rest) (len_of d) (record_length q d) ∙ append_assoc (records (len_of d) (e ∷ ds)) rest (record_of q d))
    ∙ ap (λ (n : ℕ). first_failing (day_checks most size o n (so_far + len_of d) (len_of d) d.date (records (len_of d) (e ∷ ds) ++ (rest ++ record_of q d)))) (omega arith)
    ∙ days_pass most size o (so_far + len_of d) (len_of d) (len_of d) d.date e ds (rest ++ record_of q d) (omega (arith, few)) are.2 (same_length_passes (so_far + len_of d) (len_of d)) (omega (arith, fits))

-- the checks behind the pointers', by whether the string is empty
abbrev pub checks_unless : StringShape → List ℕ → Bool → List Check
checks_unless r x b = elim b as (λ _. List Check) [
  | true ↦ []
  | false ↦ day_checks 984 r.size (oldest_pointer r x) (distance_of r.size (oldest_pointer r x) (newest_pointer r x)) 0 0 0 (circle_of r x)
]

-- an image that holds days passes
pub holds_passes : (r : StringShape) (shape : IsStringShape r) (x : List ℕ) → r.base + (4 + r.size) ≤ length x → (days : List Day) → HoldsDays r x days → first_bad r x ≡ None
unfolding first_bad
holds_passes r shape x inside days h =
    passes_one (is_pointer r.size (oldest_pointer r x)) 0 (check (is_pointer r.size (newest_pointer r x)) 2 ∷ checks_unless r x (is_empty r x)) (pointer (oldest_pointer r x) h.oldest)
    ∙ passes_one (is_pointer r.size (newest_pointer r x)) 2 (checks_unless r x (is_empty r x)) (pointer (newest_pointer r x) h.newest)
    ∙ by_days days h
  where
    pointer : (p : ℕ) → IsPointer r.size p → is_pointer r.size p ≡ true
    pointer p is = and_from (nat_lt p r.size) (nat_eq (p % 2) 0) (grind (arith, nat_tests, is.below)) (grind (arith, nat_tests, is.even))

    by_days : (days : List Day) → HoldsDays r x days → first_failing (checks_unless r x (is_empty r x)) ≡ None
    by_days [] h =
        let same : oldest_pointer r x ≡ newest_pointer r x = ⊎_elim (λ is. omega (arith, is)) (λ is. absurd (omega (arith, is, h.oldest.below))) h.distance in
        let empty : is_empty r x ≡ true = and_from (nat_eq (oldest_pointer r x) (newest_pointer r x)) (nat_eq (number (bytes_at (circle_of r x) 2 2)) 0) (eq-eqb (oldest_pointer r x) (newest_pointer r x) same) (eq-eqb (number (bytes_at (circle_of r x) 2 2)) 0 (h.empty refl)) in
        ap (λ (b : Bool). first_failing (checks_unless r x b)) empty
    by_days (d ∷ ds) h =
        let spelled : circle_of r x ≡ records h.previous (d ∷ ds) ++ h.rest = h.spelled in
        let len : number (bytes_at (circle_of r x) 2 2) ≡ len_of d = ap (λ (l : List ℕ). number (bytes_at l 2 2)) spelled ∙ number_two (len_of d) in
        let least : 14 ≤ len_of d = len_least d h.ordered.1 in
        let some : is_empty r x ≡ false = and_right (nat_eq (oldest_pointer r x) (newest_pointer r x)) (nat_eq (number (bytes_at (circle_of r x) 2 2)) 0) (ne_eqb (number (bytes_at (circle_of r x) 2 2)) 0 (λ none. omega (arith, none, len, least))) in
        let all : total (d ∷ ds) ≤ r.size = omega (arith, fills r shape x inside (d ∷ ds) h) in
        let few : length (d ∷ ds) ≤ 984 = omega (arith, count_least 0 (d ∷ ds) h.ordered, all, shape.high) in
        let below : far (d ∷ ds) < r.size = omega (arith, all, last_len_is (d ∷ ds), last_least 0 d ds h.ordered) in
        let reach : distance_of r.size (oldest_pointer r x) (newest_pointer r x) ≡ 0 + far (d ∷ ds) = distance_is r.size (oldest_pointer r x) (newest_pointer r x) (far (d ∷ ds)) h.oldest.below h.newest.below below h.distance ∙ omega arith in
        ap (λ (b : Bool). first_failing (checks_unless r x b)) some
        ∙ ap (λ (n : ℕ). first_failing (day_checks 984 r.size (oldest_pointer r x) n 0 0 0 (circle_of r x))) reach
        ∙ ap (λ (l : List ℕ). first_failing (day_checks 984 r.size (oldest_pointer r x) (0 + far (d ∷ ds)) 0 0 0 l)) spelled
        ∙ days_pass 984 r.size (oldest_pointer r x) 0 0 h.previous 0 d ds h.rest few h.ordered refl (omega (arith, all))
