-- The records of a string are those of the days that it holds.
use Rattle.std.proofs.Common.{◌≡◌, ◌∙◌, ⊎_elim, ℕ, zero, suc, ◌+◌, ◌-◌, ◌<◌, ◌≤◌, List, [], ◌∷◌, ◌++◌, length, take, drop, refl, sym, ap, subst, arith, append_assoc, length-append, length-drop}
use Rattle.std.specs.Prelude.{true, false, ◌==◌, ◌&&◌, not, nat_le, nat_lt}
use Rattle.std.proofs.lemmas.Bool.Decides.{nat_tests}
use Rattle.std.proofs.lemmas.List.{take_at, drop_at, take_all, length-take-le}
use Rattle.byteorder.specs.Endian.{big_number}
use Rattle.byteorder.specs.Numbers.{big_from-take}
use Rattle.card_layout.specs.Images.{bytes_at}
use Rattle.card_model.specs.Bytes.{number}
use Rattle.card_model.specs.Days.{Day, len_of, far, record_of, records, total, IsDay, AreDays}
use Rattle.card_model.specs.Image.{StringShape, IsStringShape, IsPlace, HoldsDays, circle_of, oldest_pointer, newest_pointer, turned}
use Rattle.card_model.proofs.Lists.{record_length, len_least, count_least}
use Rattle.card_model.proofs.Reading.{fills}
use Rattle.card_model.proofs.Walking.{day_same, far_below}
use Rattle.json.specs.Json.{Items, no_items, item}
use Rattle.json_fields.proofs.Cutting.{by_test}
use Rattle.file_json.specs.Days.{circle_from, day_len, day_shown, days_shown, far_between, is_day, records_of, ShowDays}
use Rattle.file_json.proofs.Stringing.{day_is, first_day, left_after, no_days, none_there}

-- the length that a record tells is its own
len_told : (q : ℕ) (d : Day) (tail : List ℕ) → day_len (record_of q d ++ tail) ≡ len_of d
len_told q d tail = omega arith

all_three : (a b : ℕ) → 14 ≤ a → 14 ≤ b → b ≤ a → (nat_le 14 a && (nat_le 14 b && nat_le b a)) ≡ true
all_three a b la lb le =
    let x : nat_le 14 a ≡ true = grind (arith, nat_tests) in
    let y : nat_le 14 b ≡ true = grind (arith, nat_tests) in
    let z : nat_le b a ≡ true = grind (arith, nat_tests) in
    rw (x, y, z) refl

record_there : (q : ℕ) (d : Day) (tail : List ℕ) → IsDay d → is_day (record_of q d ++ tail) ≡ true
record_there q d tail day =
    let len : day_len (record_of q d ++ tail) ≡ len_of d = len_told q d tail in
    let long : length (record_of q d ++ tail) ≡ len_of d + length tail = length-append (record_of q d) tail ∙ ap (λ (n : ℕ). n + length tail) (record_length q d) in
    all_three (length (record_of q d ++ tail)) (day_len (record_of q d ++ tail)) (omega (arith, long, len_least d day)) (omega (arith, len, len_least d day)) (omega (arith, long, len))

-- where it stands it is shown, in front of the others
record_first : (left behind q : ℕ) (d : Day) (tail : List ℕ) → IsDay d
    → days_shown (suc left) behind (record_of q d ++ tail) ≡ item (day_shown (record_of q d)) (days_shown (left_after (suc left) behind (len_of d)) (behind - len_of d) tail)
record_first left behind q d tail day =
    let len : day_len (record_of q d ++ tail) ≡ len_of d = len_told q d tail in
    let own : take (len_of d) (record_of q d ++ tail) ≡ record_of q d = take_at (record_of q d) tail (len_of d) (record_length q d) in
    let others : drop (len_of d) (record_of q d ++ tail) ≡ tail = drop_at (record_of q d) tail (len_of d) (record_length q d) in
    first_day (suc left) behind (record_of q d ++ tail) (λ none. absurd (omega (arith, none))) (record_there q d tail day)
    ∙ ap (λ (n : ℕ). item (day_shown (take n (record_of q d ++ tail))) (days_shown (left_after (suc left) behind n) (behind - n) (drop n (record_of q d ++ tail)))) len
    ∙ ap (λ (l : List ℕ). item (day_shown l) (days_shown (left_after (suc left) behind (len_of d)) (behind - len_of d) (drop (len_of d) (record_of q d ++ tail)))) own
    ∙ ap (λ (l : List ℕ). item (day_shown (record_of q d)) (days_shown (left_after (suc left) behind (len_of d)) (behind - len_of d) l)) others

-- no record stands where the length is 0
none_told : (left : ℕ) (rest : List ℕ) → day_len rest ≡ 0 → days_shown left 0 rest ≡ no_items
none_told left rest none = none_there left 0 rest (by_test (is_day rest) (λ is. absurd (long is)) (λ is. rw is nowhere))
  where
    long : is_day rest ≡ true → ⊥
    long is = omega (arith, (day_is rest is).0, none)

    nowhere : (not (left == 0) && false) ≡ false
    nowhere = by_test (left == 0) (λ is. rw is refl) (λ is. rw is refl)

all_shown : (left q date : ℕ) (days : List Day) (rest : List ℕ) → length days ≤ left → AreDays date days → (days ≡ [] → day_len rest ≡ 0)
    → ShowDays (days_shown left (far days) (records q days ++ rest)) days
all_shown left q date [] rest few are empty = subst (λ (js : Items). ShowDays js []) (sym (none_told left rest (empty refl))) tt
all_shown zero q date (d ∷ ds) rest few are empty = absurd (omega (arith, few))
all_shown (suc left) q date (d ∷ []) rest few are empty =
    let whole : (record_of q d ++ []) ++ rest ≡ record_of q d ++ rest = append_assoc (record_of q d) [] rest in
    let last : nat_lt 0 (len_of d) ≡ true = let some : 14 ≤ len_of d = len_least d are.1 in grind (arith, nat_tests) in
    let none : days_shown (left_after (suc left) 0 (len_of d)) (0 - len_of d) rest ≡ no_items = rw last (no_days (0 - len_of d) rest) in
    subst (λ (js : Items). ShowDays js (d ∷ []))
    (sym (ap (λ (l : List ℕ). days_shown (suc left) 0 l) whole ∙ record_first left 0 q d rest are.1 ∙ ap (λ (js : Items). item (day_shown (record_of q d)) js) none))
    ((record_of q d, refl, day_same q d are.1.decimal), tt)
all_shown (suc left) q date (d ∷ e ∷ ds) rest few are empty =
    let tail : List ℕ = records (len_of d) (e ∷ ds) ++ rest in
    let whole : (record_of q d ++ records (len_of d) (e ∷ ds)) ++ rest ≡ record_of q d ++ (records (len_of d) (e ∷ ds) ++ rest) = append_assoc (record_of q d) (records (len_of d) (e ∷ ds)) rest in
    let further : nat_lt (far (d ∷ e ∷ ds)) (len_of d) ≡ false = let le : len_of d ≤ far (d ∷ e ∷ ds) = omega arith in grind (arith, nat_tests) in
    let more : far (d ∷ e ∷ ds) - len_of d ≡ far (e ∷ ds) = omega arith in
    let less : suc left - 1 ≡ left = omega arith in
    let others : days_shown (left_after (suc left) (far (d ∷ e ∷ ds)) (len_of d)) (far (d ∷ e ∷ ds) - len_of d) (records (len_of d) (e ∷ ds) ++ rest) ≡ days_shown left (far (e ∷ ds)) (records (len_of d) (e ∷ ds) ++ rest) =
    ap (λ (n : ℕ). days_shown n (far (d ∷ e ∷ ds) - len_of d) (records (len_of d) (e ∷ ds) ++ rest)) (rw further less)
    ∙ ap (λ (n : ℕ). days_shown left n (records (len_of d) (e ∷ ds) ++ rest)) more in
    subst (λ (js : Items). ShowDays js (d ∷ e ∷ ds))
    (sym (ap (λ (l : List ℕ). days_shown (suc left) (far (d ∷ e ∷ ds)) l) whole ∙ record_first left (far (d ∷ e ∷ ds)) q d (records (len_of d) (e ∷ ds) ++ rest) are.1
    ∙ ap (λ (js : Items). item (day_shown (record_of q d)) js) others))
    ((record_of q d, refl, day_same q d are.1.decimal), all_shown left (len_of d) d.date (e ∷ ds) rest (omega (arith, few)) are.2 (λ none. absurd (nothing none)))
  where
    nothing : e ∷ ds ≡ [] → ⊥
    nothing none = cc

-- how far the newest record stands behind the oldest
far_is : (size o n k : ℕ) → o < size → n < size → k < size → IsPlace size o k n → far_between o n size ≡ k
far_is size o n k low below inside place =
    by_test (nat_lt n o)
    (λ is. let less : n < o = grind (arith, nat_tests, is) in rw is (⊎_elim (λ once. omega (arith, once, less, low)) (λ round. omega (arith, round)) place))
    (λ is. let le : o ≤ n = grind (arith, nat_tests, is) in rw is (⊎_elim (λ once. omega (arith, once, le)) (λ round. omega (arith, round, le, inside)) place))

-- a pointer is the number in two bytes
pointer_is : (x : List ℕ) → 2 ≤ length x → number (take 2 x) ≡ big_number 2 x
pointer_is x long = ap (λ (n : ℕ). big_number n (take 2 x)) (length-take-le 2 x long) ∙ big_from-take 0 2 2 x (omega arith)

-- without a day no length stands where the oldest would begin
no_length : (size : ℕ) (x : List ℕ) (days : List Day) → IsStringShape (record { base = 0; size = size }) → length x ≡ 4 + size → (holds : HoldsDays (record { base = 0; size = size }) x days)
    → days ≡ [] → day_len holds.rest ≡ 0
no_length size x days shape long holds none =
    let r : StringShape = record { base = 0; size = size } in
    let rest_is : circle_of (record { base = 0; size = size }) x ≡ holds.rest = holds.spelled ∙ ap (λ (ds : List Day). records holds.previous ds ++ holds.rest) none in
    let no_total : total days ≡ 0 = ap (λ (ds : List Day). total ds) none in
    let wide : 4 ≤ length holds.rest = omega (arith, fills r shape x (omega (arith, long)) days holds, no_total, shape.low) in
    sym (pointer_is (drop 2 holds.rest) (omega (arith, length-drop 2 holds.rest, wide)))
    ∙ ap (λ (l : List ℕ). number (bytes_at l 2 2)) (sym rest_is) ∙ holds.empty none

-- THE RECORDS OF A STRING THAT HOLDS DAYS show these
pub days_are_shown : (size : ℕ) (x : List ℕ) (days : List Day) → IsStringShape (record { base = 0; size = size }) → length x ≡ 4 + size → HoldsDays (record { base = 0; size = size }) x days
    → ShowDays (records_of (big_number 2 x) (big_number 2 (drop 2 x)) (drop 4 x)) days
days_are_shown size x days shape long holds =
    let r : StringShape = record { base = 0; size = size } in
    let inside : 0 + (4 + size) ≤ length x = omega (arith, long) in
    let wide : length (drop 4 x) ≡ size = omega (arith, length-drop 4 x, long) in
    let string : take size (drop 4 x) ≡ drop 4 x = take_all size (drop 4 x) (omega (arith, wide)) in
    let oldest : oldest_pointer (record { base = 0; size = size }) x ≡ big_number 2 x = pointer_is x (omega (arith, long)) in
    let newest : newest_pointer (record { base = 0; size = size }) x ≡ big_number 2 (drop 2 x) = pointer_is (drop 2 x) (omega (arith, length-drop 2 x, long)) in
    let circle : circle_from (big_number 2 x) (drop 4 x) ≡ records holds.previous days ++ holds.rest =
    sym (ap (λ (l : List ℕ). turned (oldest_pointer r x) l) string ∙ ap (λ (n : ℕ). turned n (drop 4 x)) oldest) ∙ holds.spelled in
    let between : far_between (big_number 2 x) (big_number 2 (drop 2 x)) size ≡ far days =
    ap (λ (n : ℕ). far_between n (big_number 2 (drop 2 x)) size) (sym oldest) ∙ ap (λ (n : ℕ). far_between (oldest_pointer r x) n size) (sym newest)
    ∙ far_is size (oldest_pointer r x) (newest_pointer r x) (far days) holds.oldest.below holds.newest.below (far_below r shape x inside days holds) holds.distance in
    let few : length days ≤ size = omega (arith, count_least 0 days holds.ordered, fills r shape x inside days holds) in
    let empty : days ≡ [] → day_len holds.rest ≡ 0 =
    λ none. no_length size x days shape long holds none in
    subst (λ (js : Items). ShowDays js days)
    (sym (ap (λ (n : ℕ). days_shown n (far_between (big_number 2 x) (big_number 2 (drop 2 x)) n) (circle_from (big_number 2 x) (drop 4 x))) wide
    ∙ ap (λ (n : ℕ). days_shown size n (circle_from (big_number 2 x) (drop 4 x))) between
    ∙ ap (λ (l : List ℕ). days_shown size (far days) l) circle))
    (all_shown size holds.previous 0 days holds.rest few holds.ordered empty)
