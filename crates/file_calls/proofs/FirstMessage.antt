-- What counts of a minute is what the first message of its day tells.
use Rattle.std.proofs.Common.{◌≡◌, ◌∙◌, ◌⊎◌, ⊎_elim, ℕ, zero, suc, ◌+◌, ◌*◌, ◌/◌, ◌%◌, ◌<◌, ◌≤◌, ◌||◌, Bool, true, false, cond, Option, Some, None, List, [], ◌∷◌, ◌++◌, map, refl, ap, sym, arith}
use Rattle.std.specs.Prelude.{nat_lt, ◌==◌}
use Rattle.std.specs.List.{list_any, range_with_len}
use Rattle.std.proofs.lemmas.Bool.{cases_lt}
use Rattle.std.proofs.lemmas.Bool.Decides.{nat_tests}
use Rattle.std.proofs.lemmas.List.Folds.{list_any-append}
use Rattle.activity_codec.proofs.ByTest.{by_test}
use Rattle.view_model.specs.Lines.{day_of_minute}
use Rattle.unit_model.specs.Days.{StoredDay, UnitMinute, minute_at as minute_of, minutes_shown, day_of}
use Rattle.message_model.specs.Messages.{Message, DayMessage}
use Rattle.message_model.specs.Showing.{time_in, told_day, day_minutes, minutes_in}
use Rattle.file_view.specs.UnitFiles.{days_told}
use Rattle.file_view.specs.UnitShowing.{minutes_of_day}
use Rattle.file_view.proofs.UnitDays.{days_minutes}
use Rattle.file_view.proofs.UnitFronts.{minutes_by_days}
use Rattle.card_match.specs.Matching.{minute_at}
use Rattle.file_calls.specs.FirstMessage.{first_message, minute_by, minute_by_message, has_message, has_minute}

-- ---- the first of minutes, and of more

at_front : (xs ys : List UnitMinute) (n : ℕ) (m : UnitMinute) → minute_at xs n ≡ Some m → minute_at (xs ++ ys) n ≡ Some m
at_front [] ys n m is = absurd (cc)
at_front (x ∷ xs) ys n m is =
    by_test (x.minute == n)
    (λ yes. let here = rw yes at is in rw yes here)
    (λ no. let later = rw no at is in rw no (at_front xs ys n m later))

at_behind : (xs ys : List UnitMinute) (n : ℕ) → minute_at xs n ≡ None → minute_at (xs ++ ys) n ≡ minute_at ys n
at_behind [] ys n none = refl
at_behind (x ∷ xs) ys n none =
    by_test (x.minute == n)
    (λ yes. let here : Some x ≡ None = rw yes at none in absurd (cc))
    (λ no. let later = rw no at none in rw no (at_behind xs ys n later))

-- ---- of one day

-- the first minutes of a day
abbrev first_minutes : StoredDay → ℕ → ℕ → List UnitMinute
first_minutes d t count = map (minute_of d) (range_with_len t count)

outside_here : (d t n : ℕ) → (n < 1440 * d + t) → (1440 * d + t == n) ≡ false
outside_here d t n early = grind (arith, nat_tests)

outside_behind : (d t n : ℕ) → (1440 * d + t < n) → (1440 * d + t == n) ≡ false
outside_behind d t n late = grind (arith, nat_tests)

is_here : (a n : ℕ) → (a == n) ≡ true → a ≡ n
is_here a n is = grind (arith, nat_tests)

-- a minute before them is none of them, and one behind them neither
none_before : (d : StoredDay) (n count t : ℕ) → n < 1440 * day_of d + t → minute_at (first_minutes d t count) n ≡ None
none_before d n zero t early = refl
none_before d n (suc count) t early = rw (outside_here (day_of d) t n early) (none_before d n count (t + 1) (omega (arith, early)))

none_behind : (d : StoredDay) (n count t : ℕ) → 1440 * day_of d + t + count ≤ n → minute_at (first_minutes d t count) n ≡ None
none_behind d n zero t late = refl
none_behind d n (suc count) t late = rw (outside_behind (day_of d) t n (omega (arith, late))) (none_behind d n count (t + 1) (omega (arith, late)))

-- each of them is there
there : (d : StoredDay) (count t k : ℕ) → k < count → minute_at (first_minutes d t count) (1440 * day_of d + (t + k)) ≡ Some (minute_of d (t + k))
there d zero t k low = absurd (omega (arith, low))
there d (suc count) t zero low =
    let same : 1440 * day_of d + t ≡ 1440 * day_of d + (t + 0) = omega arith in
    let here : (1440 * day_of d + t == 1440 * day_of d + (t + 0)) ≡ true = grind (arith, nat_tests) in
    rw here (ap (λ (j : ℕ). Some (minute_of d j)) (omega arith))
there d (suc count) t (suc k) low =
    let not_here : (1440 * day_of d + t == 1440 * day_of d + (t + suc k)) ≡ false = grind (arith, nat_tests) in
    let later : t + 1 + k ≡ t + suc k = omega arith in
    rw (not_here, ← later) (there d count (t + 1) k (omega (arith, low)))

-- so many minutes of a day are shown
abbrev count_of : Option ℕ → (day : ℕ) → ℕ
count_of None day = 1440
count_of (Some now) day = minutes_shown (now / 60) day

count_is : (now : Option ℕ) (m : DayMessage) → minutes_of_day m.date now ≡ count_of now (m.date / 86400)
count_is None m = refl
count_is (Some now) m = refl

shown_is : (now : Option ℕ) (m : DayMessage) → day_minutes now (told_day m) ≡ first_minutes (told_day m) 0 (count_of now (m.date / 86400))
shown_is None m = refl
shown_is (Some now) m = refl

few : (now : Option ℕ) (day : ℕ) → count_of now day ≤ 1440
few None day = omega arith
few (Some now) day = by_test (day == now / 60 / 1440) (λ yes. rw yes (omega arith)) (λ no. rw no (omega arith))

some_shown : (now : Option ℕ) (day : ℕ) → 0 < count_of now day
some_shown None day = omega arith
some_shown (Some now) day = by_test (day == now / 60 / 1440) (λ yes. rw yes (omega arith)) (λ no. rw no (omega arith))

unequal : (a b : ℕ) → (a == b) ≡ false → (a < b) ⊎ (b < a)
unequal a b apart = grind (arith, nat_tests)

-- a message of another day has no such minute
other_day : (now : Option ℕ) (m : DayMessage) (n : ℕ) → (m.date / 86400 == n / 1440) ≡ false → minute_at (day_minutes now (told_day m)) n ≡ None
other_day now m n apart =
    ap (λ (ms : List UnitMinute). minute_at ms n) (shown_is now m)
    ∙ ⊎_elim
    (λ early. none_behind (told_day m) n (count_of now (m.date / 86400)) 0 (omega (arith, early, few now (m.date / 86400))))
    (λ late. none_before (told_day m) n (count_of now (m.date / 86400)) 0 (omega (arith, late)))
    (unequal (m.date / 86400) (n / 1440) apart)

-- one of its day has it where that is shown
its_day : (now : Option ℕ) (m : DayMessage) (n : ℕ) → m.date / 86400 ≡ n / 1440 → n % 1440 < count_of now (m.date / 86400) → minute_at (day_minutes now (told_day m)) n ≡ Some (minute_of (told_day m) (n % 1440))
its_day now m n day low =
    ap (λ (ms : List UnitMinute). minute_at ms n) (shown_is now m)
    ∙ ap (λ (k : ℕ). minute_at (first_minutes (told_day m) 0 (count_of now (m.date / 86400))) k) (omega (arith, day))
    ∙ there (told_day m) (count_of now (m.date / 86400)) 0 (n % 1440) low
    ∙ ap (λ (k : ℕ). Some (minute_of (told_day m) k)) (omega arith)

cut_off : (now : Option ℕ) (m : DayMessage) (n : ℕ) → m.date / 86400 ≡ n / 1440 → count_of now (m.date / 86400) ≤ n % 1440 → minute_at (day_minutes now (told_day m)) n ≡ None
cut_off now m n day high =
    ap (λ (ms : List UnitMinute). minute_at ms n) (shown_is now m)
    ∙ none_behind (told_day m) n (count_of now (m.date / 86400)) 0 (omega (arith, day, high))

-- ---- of all days

-- where the minutes of its day are cut off before it, no message has it
none_has : (now : Option ℕ) (ms : List DayMessage) (n : ℕ) → count_of now (n / 1440) ≤ n % 1440 → minute_at (days_minutes now ms) n ≡ None
none_has now [] n high = refl
none_has now (m ∷ ms) n high =
    at_behind (day_minutes now (told_day m)) (days_minutes now ms) n
    (by_test (m.date / 86400 == n / 1440)
    (λ yes. let day = is_here (m.date / 86400) (n / 1440) yes in cut_off now m n day (omega (arith, high, ap (count_of now) day)))
    (λ no. other_day now m n no))
    ∙ none_has now ms n high

test_low : (a b : ℕ) → a < b → nat_lt a b ≡ true
test_low a b low = grind (arith, nat_tests)

test_high : (a b : ℕ) → b ≤ a → nat_lt a b ≡ false
test_high a b high = grind (arith, nat_tests)

-- what a message of its day tells
by_shown : (now : Option ℕ) (n : ℕ) (m : DayMessage) → n % 1440 < count_of now (m.date / 86400) → minute_by now n (Some m) ≡ Some (minute_of (told_day m) (n % 1440))
by_shown now n m low =
    let count = count_is now m in
    ap (λ (b : Bool). cond b (Some (minute_of (told_day m) (n % 1440))) None) (test_low (n % 1440) (minutes_of_day m.date now) (omega (arith, low, count)))

by_cut : (now : Option ℕ) (n : ℕ) (m : DayMessage) → count_of now (m.date / 86400) ≤ n % 1440 → minute_by now n (Some m) ≡ None
by_cut now n m high =
    let count = count_is now m in
    ap (λ (b : Bool). cond b (Some (minute_of (told_day m) (n % 1440))) None) (test_high (n % 1440) (minutes_of_day m.date now) (omega (arith, high, count)))

first_here : (m : DayMessage) (ms : List DayMessage) (day : ℕ) → (m.date / 86400 == day) ≡ true → first_message (m ∷ ms) day ≡ Some m
first_here m ms day here = ap (λ (b : Bool). cond b (Some m) (first_message ms day)) here

first_later : (m : DayMessage) (ms : List DayMessage) (day : ℕ) → (m.date / 86400 == day) ≡ false → first_message (m ∷ ms) day ≡ first_message ms day
first_later m ms day apart = ap (λ (b : Bool). cond b (Some m) (first_message ms day)) apart

at_first : (now : Option ℕ) (m : DayMessage) (ms : List DayMessage) (n : ℕ) → m.date / 86400 ≡ n / 1440 → minute_at (days_minutes now (m ∷ ms)) n ≡ minute_by now n (Some m)
at_first now m ms n day = ⊎_elim
    (λ low. at_front (day_minutes now (told_day m)) (days_minutes now ms) n (minute_of (told_day m) (n % 1440)) (its_day now m n day low) ∙ sym (by_shown now n m low))
    (λ high.
    let same = ap (count_of now) day in
    let none : minute_at (days_minutes now ms) n ≡ None = none_has now ms n (omega (arith, high, same)) in
    at_behind (day_minutes now (told_day m)) (days_minutes now ms) n (cut_off now m n day high) ∙ none ∙ sym (by_cut now n m high))
    (cases_lt (n % 1440) (count_of now (m.date / 86400)))

at_days : (now : Option ℕ) (ms : List DayMessage) (n : ℕ) → minute_at (days_minutes now ms) n ≡ minute_by now n (first_message ms (n / 1440))
at_days now [] n = refl
at_days now (m ∷ ms) n =
    by_test (m.date / 86400 == n / 1440)
    (λ yes. at_first now m ms n (is_here (m.date / 86400) (n / 1440) yes) ∙ sym (ap (minute_by now n) (first_here m ms (n / 1440) yes)))
    (λ no.
    at_behind (day_minutes now (told_day m)) (days_minutes now ms) n (other_day now m n no)
    ∙ at_days now ms n
    ∙ sym (ap (minute_by now n) (first_later m ms (n / 1440) no)))

pub first_counts : (messages : List Message) (minute : ℕ) → minute_at (minutes_in messages) minute ≡ minute_by_message messages minute
first_counts messages minute =
    ap (λ (ms : List UnitMinute). minute_at ms minute) (minutes_by_days (time_in messages) messages)
    ∙ at_days (time_in messages) (days_told messages) minute

-- ---- which days it has

abbrev LiesOn : (day : ℕ) → List UnitMinute → Bool
LiesOn day minutes = list_any (λ (m : UnitMinute). day_of_minute m.minute == day) minutes

none_on : (d : StoredDay) (day count t : ℕ) → t + count ≤ 1440 → (day_of d == day) ≡ false → LiesOn day (first_minutes d t count) ≡ false
none_on d day zero t low apart = refl
none_on d day (suc count) t low apart =
    let same : (1440 * day_of d + t) / 1440 ≡ day_of d = omega (arith, low) in
    let here : ((1440 * day_of d + t) / 1440 == day) ≡ false = ap (λ (k : ℕ). k == day) same ∙ apart in
    rw here (none_on d day count (t + 1) (omega (arith, low)) apart)

some_on : (d : StoredDay) (day count : ℕ) → 0 < count → (day_of d == day) ≡ true → LiesOn day (first_minutes d 0 count) ≡ true
some_on d day zero low here_on = absurd (omega (arith, low))
some_on d day (suc count) low here_on =
    let same : (1440 * day_of d + 0) / 1440 ≡ day_of d = omega arith in
    let here : ((1440 * day_of d + 0) / 1440 == day) ≡ true = ap (λ (k : ℕ). k == day) same ∙ here_on in
    rw here refl

day_on : (now : Option ℕ) (m : DayMessage) (day : ℕ) → LiesOn day (day_minutes now (told_day m)) ≡ (m.date / 86400 == day)
day_on now m day =
    ap (LiesOn day) (shown_is now m)
    ∙ by_test (m.date / 86400 == day)
    (λ yes. some_on (told_day m) day (count_of now (m.date / 86400)) (some_shown now (m.date / 86400)) yes ∙ sym yes)
    (λ no. none_on (told_day m) day (count_of now (m.date / 86400)) 0 (omega (arith, few now (m.date / 86400))) no ∙ sym no)

days_on : (now : Option ℕ) (ms : List DayMessage) (day : ℕ) → LiesOn day (days_minutes now ms) ≡ list_any (λ (m : DayMessage). m.date / 86400 == day) ms
days_on now [] day = refl
days_on now (m ∷ ms) day =
    list_any-append (λ (k : UnitMinute). day_of_minute k.minute == day) (day_minutes now (told_day m)) (days_minutes now ms)
    ∙ ap (λ (b : Bool). b || LiesOn day (days_minutes now ms)) (day_on now m day)
    ∙ ap (λ (b : Bool). (m.date / 86400 == day) || b) (days_on now ms day)

pub same_days : (messages : List Message) (day : ℕ) → has_minute messages day ≡ has_message messages day
same_days messages day = ap (LiesOn day) (minutes_by_days (time_in messages) messages) ∙ days_on (time_in messages) (days_told messages) day
