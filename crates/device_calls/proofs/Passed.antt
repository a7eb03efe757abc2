-- The days of a card that passes the checks of its string are days, each later than the one before it.
use Rattle.std.proofs.Common.{◌≡◌, ℕ, zero, suc, ◌+◌, ◌-◌, ◌*◌, ◌/◌, ◌%◌, ◌<◌, ◌≤◌, Bool, true, false, cond, Option, Some, None, option_map, List, [], ◌∷◌, ◌++◌, length, take, drop, refl, sym, ◌∙◌, ap, subst, arith, append_assoc, length-drop, take-append-drop}
use Rattle.std.specs.Prelude.{◌&&◌, nat_eq, nat_lt, nat_le}
use Rattle.std.proofs.lemmas.Bool.{and_parts, le-ltb, lt-ltb}
use Rattle.std.proofs.lemmas.Bool.Decides.{nat_tests}
use Rattle.std.proofs.lemmas.List.{length-take-le, take-append-le, drop-append-le, append-nil}
use Rattle.tach_media.specs.Medium.{bytes_at}
use Rattle.activity_codec.specs.Words.{word_minute}
use Rattle.unit_rule.specs.card_model.Bytes.{number, decimal}
use Rattle.unit_rule.specs.card_model.Days.{Ascend, AreWords, IsDay, AreDays}
use Rattle.unit_rule.specs.card_model.Image.{StringShape, turned, oldest_pointer, newest_pointer, circle_of, string_of}
use Rattle.unit_rule.specs.card_model.Walk.{words_of, day_told, days_in, days_of}
use Rattle.unit_rule.specs.card_model.Checks.{Check, check, first_failing, is_pointer, is_len, is_previous, is_date, is_decimal, field_checks, word_checks, record_checks, file_place, placed_checks, day_checks, distance_of, is_empty, first_bad}
use Rattle.card_layout.specs.declared.files.Application.{Application}
use Rattle.card_layout.specs.declared.files.Fid.{Fid}
use Rattle.card_layout.specs.Application.{IsApplication, first_bad_field, place_of_field}
use Rattle.card_layout.specs.Files.{files_of, image_size_of}
use Rattle.card_validity.specs.card_image.Fields.{file_bytes, day_string, vehicle_ring, place_ring, card_days, end_mark, session_time}
use Rattle.card_validity.specs.card_image.Judging.{file_check, first_bad_of, first_bad_file, pointer_bad, IsValid}
use Rattle.card_validity.specs.card_image.Judging as card
use Rattle.card_session.specs.gated_ring.Ring.{Shape, pointer, PointsInside}
use Rattle.unit_rule.proofs.card_model.Circle.{part_front, turned_front, turned_length}
use Rattle.unit_rule.proofs.card_model.Judging.{first_passes, both_pass, placed_failing, checks_unless}

le_of : (m n : ℕ) → nat_le m n ≡ true → m ≤ n
le_of m n is = grind (arith, nat_tests)

lt_of : (m n : ℕ) → nat_lt m n ≡ true → m < n
lt_of m n is = grind (arith, nat_tests)

eq_of : (m n : ℕ) → nat_eq m n ≡ true → m ≡ n
eq_of m n is = grind (arith, nat_tests)

-- ---- what the tests of a day's fields say

len_says : (size so_far len : ℕ) → is_len size so_far len ≡ true → (14 ≤ len) × (len ≤ 2892) × (so_far + len ≤ size)
len_says size so_far len is =
    let a = and_parts (nat_eq (len % 2) 0 && nat_le 14 len && nat_le len 2892) (nat_le (so_far + len) size) is in
    let b = and_parts (nat_eq (len % 2) 0 && nat_le 14 len) (nat_le len 2892) a.0 in
    let c = and_parts (nat_eq (len % 2) 0) (nat_le 14 len) b.0 in
    (le_of 14 len c.1, le_of len 2892 b.1, le_of (so_far + len) size a.1)

date_says : (before date : ℕ) → is_date before date ≡ true → (date % 86400 ≡ 0) × (before < date)
date_says before date is = let both = and_parts (nat_eq (date % 86400) 0) (nat_lt before date) is in (eq_of (date % 86400) 0 both.0, lt_of before date both.1)

four_digits : (a b c d : ℕ) → a < 10 → b < 10 → c < 10 → d < 10 → 1000 * (a % 16) + 100 * b + 10 * c + d ≤ 9999
four_digits a b c d a_low b_low c_low d_low = let small : a % 16 ≡ a = omega (arith, a_low) in omega (arith, small, a_low, b_low, c_low, d_low)

decimal_says : (n : ℕ) → is_decimal n ≡ true → decimal n ≤ 9999
decimal_says n is =
    let a = and_parts (nat_lt (n / 4096) 10 && nat_lt (n / 256 % 16) 10 && nat_lt (n / 16 % 16) 10) (nat_lt (n % 16) 10) is in
    let b = and_parts (nat_lt (n / 4096) 10 && nat_lt (n / 256 % 16) 10) (nat_lt (n / 16 % 16) 10) a.0 in
    let c = and_parts (nat_lt (n / 4096) 10) (nat_lt (n / 256 % 16) 10) b.0 in
    four_digits (n / 4096) (n / 256 % 16) (n / 16 % 16) (n % 16) (lt_of (n / 4096) 10 c.0) (lt_of (n / 256 % 16) 10 c.1) (lt_of (n / 16 % 16) 10 b.1) (lt_of (n % 16) 10 a.1)

-- ---- what those of its words say

rest_says : (offset from : ℕ) (ws : List ℕ) → first_failing (word_checks offset from 1440 ws) ≡ None → Ascend from ws
rest_says offset from [] none = tt
rest_says offset from (w ∷ ws) none =
    let one = first_passes (nat_le from (word_minute w) && nat_lt (word_minute w) 1440) offset (word_checks (offset + 2) (word_minute w) 1440 ws) none in
    let both = and_parts (nat_le from (word_minute w)) (nat_lt (word_minute w) 1440) one.0 in
    (le_of from (word_minute w) both.0, lt_of (word_minute w) 1440 both.1, rest_says (offset + 2) (word_minute w) ws one.1)

words_say : (offset : ℕ) (ws : List ℕ) → 0 < length ws → first_failing (word_checks offset 0 1 ws) ≡ None → AreWords ws
words_say offset [] some none = absurd (omega (arith, some))
words_say offset (w ∷ ws) some none =
    let one = first_passes (nat_le 0 (word_minute w) && nat_lt (word_minute w) 1) offset (word_checks (offset + 2) (word_minute w) 1440 ws) none in
    let both = and_parts (nat_le 0 (word_minute w)) (nat_lt (word_minute w) 1) one.0 in
    let least : word_minute w ≡ 0 = omega (arith, lt_of (word_minute w) 1 both.1) in
    (least, subst (λ (m : ℕ). Ascend m ws) least (rest_says (offset + 2) (word_minute w) ws one.1))

words_length : (n : ℕ) (l : List ℕ) → length (words_of n l) ≡ n
words_length zero l = refl
words_length (suc n) l = omega (arith, words_length n (drop 2 l))

-- the words of a front that has them all
words_front : (n : ℕ) (a b : List ℕ) → 2 * n ≤ length a → words_of n (a ++ b) ≡ words_of n a
words_front zero a b le = refl
words_front (suc n) a b le =
    ap (λ (l : List ℕ). number l ∷ words_of n (drop 2 (a ++ b))) (take-append-le 2 a b (omega (arith, le)))
    ∙ ap (λ (l : List ℕ). number (take 2 a) ∷ words_of n l) (drop-append-le 2 a b (omega (arith, le)))
    ∙ ap (λ (l : List ℕ). number (take 2 a) ∷ l) (words_front n (drop 2 a) b (omega (arith, le, length-drop 2 a)))

-- ---- a record that passes tells a day, which is later

record Says (size so_far before date : ℕ) (bytes : List ℕ) : Type 0 where
  pub least : 14 ≤ number (bytes_at bytes 2 2)
  pub most : number (bytes_at bytes 2 2) ≤ 2892
  pub inside : so_far + number (bytes_at bytes 2 2) ≤ size
  pub midnight : number (bytes_at bytes 4 4) % 86400 ≡ 0
  pub later : date < number (bytes_at bytes 4 4)
  pub counted : decimal (number (bytes_at bytes 8 2)) ≤ 9999
  pub words : first_failing (word_checks 12 0 1 (words_of ((number (bytes_at bytes 2 2) - 12) / 2) (drop 12 bytes))) ≡ None

record_says : (size so_far before date : ℕ) (bytes : List ℕ) → first_failing (record_checks size so_far before date bytes) ≡ None → Says size so_far before date bytes
record_says size so_far before date bytes none =
    let len : ℕ = number (bytes_at bytes 2 2) in
    let this : ℕ = number (bytes_at bytes 4 4) in
    let counter : ℕ = number (bytes_at bytes 8 2) in
    let previous : ℕ = number (bytes_at bytes 0 2) in
    let both = both_pass (field_checks size so_far before date (number (bytes_at bytes 0 2)) (number (bytes_at bytes 2 2)) (number (bytes_at bytes 4 4)) (number (bytes_at bytes 8 2)))
    (word_checks 12 0 1 (words_of ((number (bytes_at bytes 2 2) - 12) / 2) (drop 12 bytes))) none in
    let one = first_passes (is_len size so_far len) 2 (check (is_previous so_far before previous) 0 ∷ check (is_date date this) 4 ∷ check (is_decimal counter) 8 ∷ []) both.0 in
    let two = first_passes (is_previous so_far before previous) 0 (check (is_date date this) 4 ∷ check (is_decimal counter) 8 ∷ []) one.1 in
    let three = first_passes (is_date date this) 4 (check (is_decimal counter) 8 ∷ []) two.1 in
    let four = first_passes (is_decimal counter) 8 [] three.1 in
    let length_ = len_says size so_far len one.0 in
    let day = date_says date this three.0 in
    record { least = length_.0; most = length_.1; inside = length_.2; midnight = day.0; later = day.1; counted = decimal_says counter four.0; words = both.1 }

module _ (size so_far before date : ℕ) (head tail : List ℕ) (said : Says size so_far before date (head ++ tail)) (whole : length head ≡ number (bytes_at (head ++ tail) 2 2)) where
  same_date : number (bytes_at (head ++ tail) 4 4) ≡ (day_told head).date
  same_date = ap number (part_front 4 4 head tail (omega (arith, whole, said.least)))

  count : ℕ
  count = (length head - 12) / 2

  same_words : words_of ((number (bytes_at (head ++ tail) 2 2) - 12) / 2) (drop 12 (head ++ tail)) ≡ (day_told head).words
  same_words =
      ap (λ (n : ℕ). words_of ((n - 12) / 2) (drop 12 (head ++ tail))) (sym whole)
      ∙ ap (λ (l : List ℕ). words_of ((length head - 12) / 2) l) (drop-append-le 12 head tail (omega (arith, whole, said.least)))
      ∙ words_front ((length head - 12) / 2) (drop 12 head) tail (omega (arith, length-drop 12 head))

  is_a_day : IsDay (day_told head)
  is_a_day = record {
    midnight = subst (λ (n : ℕ). n % 86400 ≡ 0) same_date said.midnight;
    decimal = subst (λ (l : List ℕ). decimal (number l) ≤ 9999) (part_front 8 2 head tail (omega (arith, whole, said.least))) said.counted;
    most = omega (arith, words_length ((length head - 12) / 2) (drop 12 head), whole, said.most);
    ordered = words_say 12 (day_told head).words (omega (arith, words_length ((length head - 12) / 2) (drop 12 head), whole, said.least))
        (subst (λ (ws : List ℕ). first_failing (word_checks 12 0 1 ws) ≡ None) same_words said.words);
  }

  is_later : date < (day_told head).date
  is_later = omega (arith, same_date, said.later)

-- ---- the walk

none_of : (f : ℕ → ℕ) (o : Option ℕ) → option_map f o ≡ None → o ≡ None
none_of f None is = refl
none_of f (Some n) is = absurd (cc)

module _ (most size o far so_far before date : ℕ) (rest front : List ℕ) (whole : so_far + length rest ≡ size) (le : so_far ≤ far) where
  abbrev len : ℕ
  len = number (bytes_at (rest ++ front) 2 2)

  abbrev head : List ℕ
  head = take (number (bytes_at (rest ++ front) 2 2)) rest

  abbrev later : List ℕ
  later = drop (number (bytes_at (rest ++ front) 2 2)) rest

  abbrev following : Bool → List Check
  following b = elim b as (λ _. List Check) [
    | true ↦ []
    | false ↦ check (nat_le (so_far + len) far) 2 ∷ day_checks most size o far (so_far + len) len (number (bytes_at (rest ++ front) 4 4)) (turned len (rest ++ front))
  ]

  module _ (none : first_failing (day_checks (suc most) size o far so_far before date (rest ++ front)) ≡ None) where
    parts : (first_failing (placed_checks size o so_far (record_checks size so_far before date (rest ++ front))) ≡ None) × (first_failing (following (nat_eq so_far far)) ≡ None)
    parts = both_pass (placed_checks size o so_far (record_checks size so_far before date (rest ++ front))) (following (nat_eq so_far far)) none

    said : Says size so_far before date (rest ++ front)
    said = record_says size so_far before date (rest ++ front)
        (none_of (λ p. file_place size o (so_far + p)) (first_failing (record_checks size so_far before date (rest ++ front))) (sym (placed_failing size o so_far (record_checks size so_far before date (rest ++ front))) ∙ parts.0))

    long : length head ≡ len
    long = length-take-le len rest (omega (arith, said.inside, whole))

    bytes_are : head ++ (later ++ front) ≡ rest ++ front
    bytes_are = sym (append_assoc head later front) ∙ ap (λ (l : List ℕ). l ++ front) (take-append-drop len rest)

    whole_head : length head ≡ number (bytes_at (head ++ (later ++ front)) 2 2)
    whole_head = long ∙ ap (λ (l : List ℕ). number (bytes_at l 2 2)) (sym bytes_are)

    said_head : Says size so_far before date (head ++ (later ++ front))
    said_head = subst (Says size so_far before date) (sym bytes_are) said

    day_is : IsDay (day_told head)
    day_is = is_a_day size so_far before date head (later ++ front) said_head whole_head

    day_later : date < (day_told head).date
    day_later = is_later size so_far before date head (later ++ front) said_head whole_head

    date_is : number (bytes_at (rest ++ front) 4 4) ≡ (day_told head).date
    date_is = ap (λ (l : List ℕ). number (bytes_at l 4 4)) (sym bytes_are) ∙ same_date size so_far before date head (later ++ front) said_head whole_head

    reads : number (bytes_at rest 2 2) ≡ len
    reads = ap number (sym (part_front 2 2 rest front (omega (arith, said.inside, said.least, whole))))

    walked : days_in (suc most) (far - so_far) rest ≡ cond (nat_lt (far - so_far) len) (day_told head ∷ []) (day_told head ∷ days_in most (far - so_far - len) later)
    walked =
        ap (λ (k : ℕ). cond (nat_lt k 14) [] (cond (nat_lt (far - so_far) k) (day_told (take k rest) ∷ []) (day_told (take k rest) ∷ days_in most (far - so_far - k) (drop k rest)))) reads
        ∙ ap (λ (b : Bool). cond b [] (cond (nat_lt (far - so_far) len) (day_told head ∷ []) (day_told head ∷ days_in most (far - so_far - len) later))) (le-ltb len 14 said.least)

    turned_is : turned len (rest ++ front) ≡ later ++ (front ++ head)
    turned_is = ap (turned len) (sym bytes_are) ∙ turned_front head (later ++ front) len long ∙ append_assoc later front head

    -- the last day
    last_say : so_far ≡ far → AreDays date (days_in (suc most) (far - so_far) rest)
    last_say is =
        subst (AreDays date) (sym (walked ∙ ap (λ (b : Bool). cond b (day_told head ∷ []) (day_told head ∷ days_in most (far - so_far - len) later)) (lt-ltb (far - so_far) len (omega (arith, is, said.least)))))
        (day_later, day_is, tt)

    -- a day before it
    next_say : so_far + len ≤ far → AreDays (day_told head).date (days_in most (far - (so_far + len)) later) → AreDays date (days_in (suc most) (far - so_far) rest)
    next_say within rest_are =
        let so : far - (so_far + len) ≡ far - so_far - len = omega arith in
        subst (AreDays date) (sym (walked ∙ ap (λ (b : Bool). cond b (day_told head ∷ []) (day_told head ∷ days_in most (far - so_far - len) later)) (le-ltb (far - so_far) len (omega (arith, within)))))
        (day_later, day_is, subst (λ (n : ℕ). AreDays (day_told head).date (days_in most n later)) so rest_are)

    -- what is checked behind this day
    goes : nat_eq so_far far ≡ false → (so_far + len ≤ far) × (first_failing (day_checks most size o far (so_far + len) len (day_told head).date (later ++ (front ++ head))) ≡ None)
    goes other =
        let rest_none : first_failing (following false) ≡ None = ap (λ (b : Bool). first_failing (following b)) (sym other) ∙ parts.1 in
        let both = first_passes (nat_le (so_far + len) far) 2 (day_checks most size o far (so_far + len) len (number (bytes_at (rest ++ front) 4 4)) (turned len (rest ++ front))) rest_none in
        (le_of (so_far + len) far both.0, ap (λ (l : List ℕ). first_failing (day_checks most size o far (so_far + len) len (day_told head).date l)) (sym turned_is) ∙ ap (λ (n : ℕ). first_failing (day_checks most size o far (so_far + len) len n (turned len (rest ++ front)))) (sym date_is) ∙ both.1)

    left : so_far + len + length later ≡ size
    left = omega (arith, whole, said.inside, length-drop len rest)

days_say : (most size o far so_far before date : ℕ) (rest front : List ℕ) → so_far + length rest ≡ size → so_far ≤ far → first_failing (day_checks most size o far so_far before date (rest ++ front)) ≡ None → AreDays date (days_in most (far - so_far) rest)
days_say zero size o far so_far before date rest front whole le none = tt
days_say (suc most) size o far so_far before date rest front whole le none =
    let n : ℕ = number (bytes_at (rest ++ front) 2 2) in
    by (λ behind. days_say most size o far (so_far + n) n (day_told (take n rest)).date (drop n rest) (front ++ take n rest) (left most size o far so_far before date rest front whole le none) behind.0 behind.1)
    (nat_eq so_far far) refl
  where
    by : ((so_far + number (bytes_at (rest ++ front) 2 2) ≤ far) × (first_failing (day_checks most size o far (so_far + number (bytes_at (rest ++ front) 2 2)) (number (bytes_at (rest ++ front) 2 2)) (day_told (take (number (bytes_at (rest ++ front) 2 2)) rest)).date
        (drop (number (bytes_at (rest ++ front) 2 2)) rest ++ (front ++ take (number (bytes_at (rest ++ front) 2 2)) rest))) ≡ None) →
        AreDays (day_told (take (number (bytes_at (rest ++ front) 2 2)) rest)).date (days_in most (far - (so_far + number (bytes_at (rest ++ front) 2 2))) (drop (number (bytes_at (rest ++ front) 2 2)) rest)))
        → (b : Bool) → nat_eq so_far far ≡ b → AreDays date (days_in (suc most) (far - so_far) rest)
    by so true is = last_say most size o far so_far before date rest front whole le none (eq_of so_far far is)
    by so false is =
        let behind = goes most size o far so_far before date rest front whole le none is in
        next_say most size o far so_far before date rest front whole le none behind.0 (so behind)

-- an image without days
empty_say : (r : StringShape) (x : List ℕ) → is_empty r x ≡ true → AreDays 0 (days_of r x)
unfolding days_of
empty_say r x is =
    let none : number (bytes_at (circle_of r x) 2 2) ≡ 0 = eq_of (number (bytes_at (circle_of r x) 2 2)) 0 (and_parts (nat_eq (oldest_pointer r x) (newest_pointer r x)) (nat_eq (number (bytes_at (circle_of r x) 2 2)) 0) is).1 in
    let walked : days_in 984 (distance_of r.size (oldest_pointer r x) (newest_pointer r x)) (circle_of r x) ≡ [] =
    ap (λ (k : ℕ). cond (nat_lt k 14) [] (cond (nat_lt (distance_of r.size (oldest_pointer r x) (newest_pointer r x)) k) (day_told (take k (circle_of r x)) ∷ []) (day_told (take k (circle_of r x)) ∷ days_in 983 (distance_of r.size (oldest_pointer r x) (newest_pointer r x) - k) (drop k (circle_of r x))))) none in
    subst (AreDays 0) (sym walked) tt

pub passed_are : (r : StringShape) (x : List ℕ) → r.base + (4 + r.size) ≤ length x → first_bad r x ≡ None → AreDays 0 (days_of r x)
unfolding first_bad days_of
passed_are r x inside none = by (is_empty r x) refl
  where
    o : ℕ
    o = oldest_pointer r x

    behind : first_failing (checks_unless r x (is_empty r x)) ≡ None
    behind = (first_passes (is_pointer r.size (newest_pointer r x)) 2 (checks_unless r x (is_empty r x)) (first_passes (is_pointer r.size (oldest_pointer r x)) 0 (check (is_pointer r.size (newest_pointer r x)) 2 ∷ checks_unless r x (is_empty r x)) none).1).1

    long : length (circle_of r x) ≡ r.size
    long = turned_length (oldest_pointer r x) (string_of r x) ∙ length-take-le r.size (drop (r.base + 4) x) (omega (arith, inside, length-drop (r.base + 4) x))

    by : (b : Bool) → is_empty r x ≡ b → AreDays 0 (days_of r x)
    by true is = empty_say r x is
    by false is =
        let checked : first_failing (day_checks 984 r.size (oldest_pointer r x) (distance_of r.size (oldest_pointer r x) (newest_pointer r x)) 0 0 0 (circle_of r x ++ [])) ≡ None =
        ap (λ (l : List ℕ). first_failing (day_checks 984 r.size (oldest_pointer r x) (distance_of r.size (oldest_pointer r x) (newest_pointer r x)) 0 0 0 l)) (append-nil (circle_of r x)) ∙ ap (λ (b : Bool). first_failing (checks_unless r x b)) (sym is) ∙ behind in
        let are = days_say 984 r.size (oldest_pointer r x) (distance_of r.size (oldest_pointer r x) (newest_pointer r x)) 0 0 0 (circle_of r x) [] (omega (arith, long)) (omega arith) checked in
        let all : distance_of r.size (oldest_pointer r x) (newest_pointer r x) - 0 ≡ distance_of r.size (oldest_pointer r x) (newest_pointer r x) = omega arith in
        subst (λ (n : ℕ). AreDays 0 (days_in 984 n (circle_of r x))) all are

-- ---- of a card: the places where its files fail, in their order

abbrev sizes_bad : Application → List ℕ → Option ℕ
sizes_bad app x = option_map place_of_field (first_bad_field (file_bytes app 0x0501 x))

abbrev words_bad : Application → List ℕ → Option ℕ
words_bad app x = first_failing (card.word_checks app.activity (oldest_pointer (day_string app) x) (end_mark app x) (session_time app x) (card_days app x))

abbrev judged : (sizes days vehicles places words : Option ℕ) → Option (Fid × ℕ)
judged sizes days vehicles places words =
    first_bad_of (file_check 0x0501 sizes ∷ file_check 0x0504 days ∷ file_check 0x0505 vehicles ∷ file_check 0x0506 places ∷ file_check 0x0504 words ∷ [])

-- none of them fails
pub record Passes (app : Application) (x : List ℕ) : Type 0 where
  pub sizes : sizes_bad app x ≡ None
  pub days : first_bad (day_string app) x ≡ None
  pub vehicles : pointer_bad (vehicle_ring app) x ≡ None
  pub places : pointer_bad (place_ring app) x ≡ None
  pub words : words_bad app x ≡ None

all_pass : (a b c d e : Option ℕ) → judged a b c d e ≡ None → (a ≡ None) × (b ≡ None) × (c ≡ None) × (d ≡ None) × (e ≡ None)
all_pass (Some p) b c d e is = absurd (cc)
all_pass None (Some p) c d e is = absurd (cc)
all_pass None None (Some p) d e is = absurd (cc)
all_pass None None None (Some p) e is = absurd (cc)
all_pass None None None None (Some p) is = absurd (cc)
all_pass None None None None None is = (refl, refl, refl, refl, refl)

told : (app : Application) (x : List ℕ) → first_bad_file app x ≡ judged (sizes_bad app x) (first_bad (day_string app) x) (pointer_bad (vehicle_ring app) x) (pointer_bad (place_ring app) x) (words_bad app x)
unfolding first_bad_file
told app x = refl

pub valid-passes : (app : Application) (x : List ℕ) → IsValid app x → Passes app x
valid-passes app x valid =
    let parts = all_pass (sizes_bad app x) (first_bad (day_string app) x) (pointer_bad (vehicle_ring app) x) (pointer_bad (place_ring app) x) (words_bad app x) (sym (told app x) ∙ valid) in
    record { sizes = parts.0; days = parts.1; vehicles = parts.2; places = parts.3; words = parts.4 }

pub passes-valid : (app : Application) (x : List ℕ) → Passes app x → IsValid app x
passes-valid app x p =
    told app x
    ∙ ap (λ (o : Option ℕ). judged o (first_bad (day_string app) x) (pointer_bad (vehicle_ring app) x) (pointer_bad (place_ring app) x) (words_bad app x)) p.sizes
    ∙ ap (λ (o : Option ℕ). judged None o (pointer_bad (vehicle_ring app) x) (pointer_bad (place_ring app) x) (words_bad app x)) p.days
    ∙ ap (λ (o : Option ℕ). judged None None o (pointer_bad (place_ring app) x) (words_bad app x)) p.vehicles
    ∙ ap (λ (o : Option ℕ). judged None None None o (words_bad app x)) p.places
    ∙ ap (λ (o : Option ℕ). judged None None None None o) p.words

-- a pointer that passes is an index
pub pointer-passes : (r : Shape) (x : List ℕ) → pointer_bad r x ≡ None → PointsInside r x
pointer-passes r x is = by (nat_lt (pointer r x) r.count) refl is
  where
    by : (b : Bool) → nat_lt (pointer r x) r.count ≡ b → cond b None (let none : Option ℕ = Some 0 in none) ≡ None → PointsInside r x
    by true less none = lt_of (pointer r x) r.count less
    by false less none = absurd (cc)

pub passes-pointer : (r : Shape) (x : List ℕ) → PointsInside r x → pointer_bad r x ≡ None
passes-pointer r x points = ap (λ (b : Bool). cond b None (Some 0)) (lt-ltb (pointer r x) r.count points)

string-inside : (app : Application) → (day_string app).base + (4 + (day_string app).size) ≤ image_size_of app
unfolding files_of
string-inside app = omega arith

-- the days of a valid card are days
pub valid-days : (app : Application) → IsApplication app → (x : List ℕ) → image_size_of app ≤ length x → IsValid app x → AreDays 0 (card_days app x)
unfolding card_days
valid-days app sound x fits valid = passed_are (day_string app) x (omega (arith, fits, string-inside app)) (valid-passes app x valid).days
