-- The calendar of this crate is the kit's, and a time's text tells the time.
use Rattle.std.proofs.Common.{◌≡◌, ◌∙◌, ℕ, zero, suc, ◌+◌, ◌*◌, ◌/◌, ◌%◌, ◌<◌, ◌≤◌, ◌^◌, true, false, List, [], ◌∷◌, ◌++◌, take, drop, get_or, refl, ap, sym, arith, pos, ◌+ℤ◌, Ok}
use Rattle.std.specs.Prelude.{nat_lt}
use Rattle.std.proofs.lemmas.Bool.Decides.{nat_tests}
use Rattle.jiff.specs.Types.{Date}
use Rattle.jiff.specs.Words.{epoch_day, days_in_month, parse_date, date_parts, date_text as kit_text}
use Rattle.jiff.proofs.Family.{same_date, days_from_civil-day, days_from_civil-next_month, days_from_civil-next_year, parse_date-date_text}
use Rattle.jiff_core.specs.Calendar.{days_from_civil}
use Rattle.jiff_core.proofs.SignedLemmas.{signed_arith}
use Rattle.jiff_core.proofs.CalendarLemmas.{days_in_month_bounds, days_from_civil-day_count, day_count-epoch}
use Rattle.card_layout.specs.Fields.{IsBytes}
use Rattle.calendar_days.specs.Calendar.{IsDateText}
use Rattle.calendar_days.specs.Clock.{two_digits}
use Rattle.json_fields.specs.Dates.{CivilDay, next_day, date_of, date_text, clock_of, time_text}
use Rattle.json_fields.proofs.Cutting.{by_test}

-- a day of the calendar with this number since 1970-01-01; the years of so many days are few
record HasNumber (d : CivilDay) (n : ℕ) : Type 0 where
  month : (1 ≤ d.month) × (d.month ≤ 12)
  day : (1 ≤ d.day) × (d.day ≤ days_in_month (pos d.year) d.month)
  early : 336 * d.year + 28 * d.month + d.day ≤ n + 661949
  number : days_from_civil (pos d.year) d.month d.day ≡ pos n

in_month : (d : CivilDay) (n : ℕ) → HasNumber d n → d.day < days_in_month (pos d.year) d.month → HasNumber (record { year = d.year; month = d.month; day = d.day + 1 }) (suc n)
in_month d n has more =
    record {
      month = has.month;
      day = (omega arith, omega (arith, more));
      early = omega (arith, has.early);
      number = omega (arith, signed_arith, has.number, days_from_civil-day (pos d.year) d.month d.day (d.day + 1) has.day.0 (omega arith));
    }

next_month : (d : CivilDay) (n : ℕ) → HasNumber d n → d.day ≡ days_in_month (pos d.year) d.month → d.month < 12 → HasNumber (record { year = d.year; month = d.month + 1; day = 1 }) (suc n)
next_month d n has last more =
    let long = days_in_month_bounds (pos d.year) (d.month + 1) in
    let now = days_in_month_bounds (pos d.year) d.month in
    record {
      month = (omega arith, omega (arith, more));
      day = (omega arith, omega (arith, long.1));
      early = omega (arith, has.early, last, now.1);
      number = omega (arith, signed_arith, has.number, days_from_civil-next_month (pos d.year) d.month d.day has.month.0 last);
    }

-- December has 31 days
december : (d : CivilDay) → d.month ≡ 12 → days_in_month (pos d.year) d.month ≡ 31
december d is = rw is refl

next_year : (d : CivilDay) (n : ℕ) → HasNumber d n → d.day ≡ days_in_month (pos d.year) d.month → 12 ≤ d.month → HasNumber (record { year = d.year + 1; month = 1; day = 1 }) (suc n)
next_year d n has last past =
    let twelfth : d.month ≡ 12 = omega (arith, has.month.1, past) in
    let thirty_first : d.day ≡ 31 = last ∙ december d twelfth in
    let same : days_from_civil (pos d.year) d.month d.day ≡ days_from_civil (pos d.year) 12 31 = rw (twelfth, thirty_first) refl in
    let long = days_in_month_bounds (pos (d.year + 1)) 1 in
    let after : pos (d.year + 1) ≡ pos d.year +ℤ pos 1 = omega (arith, signed_arith) in
    record {
      month = (omega arith, omega arith);
      day = (omega arith, omega (arith, long.1));
      early = omega (arith, has.early, twelfth, thirty_first);
      number = omega (arith, signed_arith, has.number, same, days_from_civil-next_year (pos d.year) (pos (d.year + 1)) (omega (arith, signed_arith)) after);
    }

-- the day after has the next number
after_day : (d : CivilDay) (n : ℕ) → HasNumber d n → HasNumber (next_day d) (suc n)
after_day d n has = by_test (nat_lt d.day (days_in_month (pos d.year) d.month)) inside past
  where
    inside : nat_lt d.day (days_in_month (pos d.year) d.month) ≡ true → HasNumber (next_day d) (suc n)
    inside is = rw is (in_month d n has (grind (arith, nat_tests, is)))

    by_month : nat_lt d.day (days_in_month (pos d.year) d.month) ≡ false → d.day ≡ days_in_month (pos d.year) d.month → HasNumber (next_day d) (suc n)
    by_month is last =
        by_test (nat_lt d.month 12)
        (λ more. rw (is, more) (next_month d n has last (grind (arith, nat_tests, more))))
        (λ past. rw (is, past) (next_year d n has last (grind (arith, nat_tests, past))))

    past : nat_lt d.day (days_in_month (pos d.year) d.month) ≡ false → HasNumber (next_day d) (suc n)
    past is =
        let ends : days_in_month (pos d.year) d.month ≤ d.day = grind (arith, nat_tests, is) in
        by_month is (omega (arith, ends, has.day.1))

first_day : days_from_civil (pos 1970) 1 1 ≡ pos 0
first_day = omega (arith, signed_arith, days_from_civil-day_count (pos 1970) 1 1, day_count-epoch)

has_number : (n : ℕ) → HasNumber (date_of n) n
unfolding date_of
has_number zero = record { month = (omega arith, omega arith); day = (omega arith, omega (arith, (days_in_month_bounds (pos 1970) 1).1)); early = omega arith; number = first_day }
has_number (suc n) = after_day (date_of n) n (has_number n)

-- a day of the kit's calendar
date_by : (d : CivilDay) (n : ℕ) → HasNumber d n → n < 65536 → Date
date_by d n has few =
    let year : d.year < 9999 = omega (arith, has.early, has.month.0, few) in
    record { year = pos d.year; month = d.month; day = d.day; year_in = (omega (arith, signed_arith), omega (arith, signed_arith)); month_in = has.month; day_in = has.day }

date_at : (n : ℕ) → n < 65536 → Date
date_at n few = date_by (date_of n) n (has_number n) few

at-number : (n : ℕ) (few : n < 65536) → epoch_day (date_at n few) ≡ pos n
unfolding date_at date_by
at-number n few = (has_number n).number

at-text : (n : ℕ) (few : n < 65536) → kit_text (date_at n few) ≡ date_text (date_of n)
unfolding date_at date_by
at-text n few = refl

-- THE DATE OF A DAY is that of the kit's calendar
pub is_date_text : (n : ℕ) → n < 65536 → IsDateText n (date_text (date_of n))
is_date_text n few = (date_at n few, at-number n few, sym (at-text n few))

pub only_text : (n : ℕ) (text : List ℕ) → n < 65536 → IsDateText n text → text ≡ date_text (date_of n)
only_text n text few is =
    is.2 ∙ ap kit_text (same_date is.0 (date_at n few) (is.1 ∙ sym (at-number n few))) ∙ at-text n few

-- ---- a text tells its day

same_day : (n m : ℕ) → pos n ≡ pos m → n ≡ m
same_day n m e = cc

date_text-tells : (n m : ℕ) → n < 65536 → m < 65536 → date_text (date_of n) ≡ date_text (date_of m) → n ≡ m
date_text-tells n m few less e =
    let a = date_at n few in
    let b = date_at m less in
    let texts : kit_text a ≡ kit_text b = at-text n few ∙ e ∙ sym (at-text m less) in
    let read : parse_date (kit_text b) ≡ Ok (date_parts a) = ap parse_date (sym texts) ∙ parse_date-date_text a in
    let parts : date_parts a ≡ date_parts b = cc (read, parse_date-date_text b) in
    let same : epoch_day a ≡ epoch_day b = rw (ap (λ p. p.year) parts, ap (λ p. p.month) parts, ap (λ p. p.day) parts) refl in
    same_day n m (sym (at-number n few) ∙ same ∙ at-number m less)

-- the minute of a day and the second of a minute tell the second of the day
second_of_day : (a b : ℕ) → a / 60 % 1440 ≡ b / 60 % 1440 → a % 60 ≡ b % 60 → a % 86400 ≡ b % 86400
second_of_day a b minute second = omega (arith, minute, second)

-- two digits tell a number
digits-tell : (n m : ℕ) → 48 + n / 10 ≡ 48 + m / 10 → 48 + n % 10 ≡ 48 + m % 10 → n ≡ m
digits-tell n m tens ones = omega (arith, tens, ones)

-- a time of day tells the second of the day
clock_of-tells : (a b : ℕ) → clock_of a ≡ clock_of b → a % 86400 ≡ b % 86400
clock_of-tells a b e =
    let hour : a / 60 % 1440 / 60 ≡ b / 60 % 1440 / 60 = digits-tell (a / 60 % 1440 / 60) (b / 60 % 1440 / 60) (ap (λ l. get_or l 1 0) e) (ap (λ l. get_or l 2 0) e) in
    let minute : a / 60 % 1440 % 60 ≡ b / 60 % 1440 % 60 = digits-tell (a / 60 % 1440 % 60) (b / 60 % 1440 % 60) (ap (λ l. get_or l 4 0) e) (ap (λ l. get_or l 5 0) e) in
    let second : a % 60 ≡ b % 60 = digits-tell (a % 60) (b % 60) (ap (λ l. get_or l 7 0) e) (ap (λ l. get_or l 8 0) e) in
    let of_day : a / 60 % 1440 ≡ b / 60 % 1440 = omega (arith, hour, minute) in
    second_of_day a b of_day second

pub time_text-tells : (v w : ℕ) → v < 2 ^ 32 → w < 2 ^ 32 → time_text v ≡ time_text w → v ≡ w
time_text-tells v w lv lw e =
    let day : v / 86400 ≡ w / 86400 = date_text-tells (v / 86400) (w / 86400) (omega (arith, lv)) (omega (arith, lw)) (ap (take 10) e) in
    let clock : v % 86400 ≡ w % 86400 = clock_of-tells v w (ap (drop 10) e) in
    omega (arith, day, clock)

-- ---- its characters are bytes

pub one_more_byte : (b : ℕ) (bytes : List ℕ) → b < 256 → IsBytes bytes → IsBytes (b ∷ bytes)
one_more_byte b bytes small fits zero = small
one_more_byte b bytes small fits (suc i) = fits i

two_more_bytes : (n : ℕ) (bytes : List ℕ) → n < 100 → IsBytes bytes → IsBytes ((48 + n / 10) ∷ (48 + n % 10) ∷ bytes)
two_more_bytes n bytes small fits = one_more_byte (48 + n / 10) ((48 + n % 10) ∷ bytes) (omega (arith, small)) (one_more_byte (48 + n % 10) bytes (omega arith) fits)

no_bytes : IsBytes []
no_bytes i = omega arith

clock-bytes : (h m s : ℕ) → h < 100 → m < 100 → s < 100 → IsBytes (84 ∷ two_digits h ++ 58 ∷ two_digits m ++ 58 ∷ two_digits s ++ 90 ∷ [])
clock-bytes h m s few_h few_m few_s =
    let last = one_more_byte 90 [] (omega arith) no_bytes in
    let second = two_more_bytes s (90 ∷ []) few_s last in
    let colon = one_more_byte 58 (two_digits s ++ 90 ∷ []) (omega arith) second in
    let minute = two_more_bytes m (58 ∷ (two_digits s ++ 90 ∷ [])) few_m colon in
    let colon_before = one_more_byte 58 (two_digits m ++ 58 ∷ (two_digits s ++ 90 ∷ [])) (omega arith) minute in
    let hour = two_more_bytes h (58 ∷ (two_digits m ++ 58 ∷ (two_digits s ++ 90 ∷ []))) few_h colon_before in
    one_more_byte 84 (two_digits h ++ 58 ∷ (two_digits m ++ 58 ∷ (two_digits s ++ 90 ∷ []))) (omega arith) hour

clock_of-bytes : (second : ℕ) → IsBytes (clock_of second)
clock_of-bytes second = clock-bytes (second / 60 % 1440 / 60) (second / 60 % 1440 % 60) (second % 60) (omega arith) (omega arith) (omega arith)

date_text-bytes : (d : CivilDay) (bytes : List ℕ) → d.year < 10000 → d.month < 100 → d.day < 100 → IsBytes bytes → IsBytes (date_text d ++ bytes)
date_text-bytes d bytes year month day fits =
    let of_month = two_more_bytes d.day bytes day fits in
    let dash = one_more_byte 45 (two_digits d.day ++ bytes) (omega arith) of_month in
    let of_year = two_more_bytes d.month (45 ∷ (two_digits d.day ++ bytes)) month dash in
    let dash_before = one_more_byte 45 (two_digits d.month ++ 45 ∷ (two_digits d.day ++ bytes)) (omega arith) of_year in
    let low = two_more_bytes (d.year % 100) (45 ∷ (two_digits d.month ++ 45 ∷ (two_digits d.day ++ bytes))) (omega arith) dash_before in
    two_more_bytes (d.year / 100) (two_digits (d.year % 100) ++ 45 ∷ (two_digits d.month ++ 45 ∷ (two_digits d.day ++ bytes))) (omega (arith, year)) low

pub time_text-bytes : (v : ℕ) → v < 2 ^ 32 → IsBytes (time_text v)
time_text-bytes v lv =
    let n = v / 86400 in
    let few : n < 65536 = omega (arith, lv) in
    let has = has_number n in
    let long = days_in_month_bounds (pos (date_of n).year) (date_of n).month in
    date_text-bytes (date_of n) (clock_of v) (omega (arith, has.early, has.month.0, few)) (omega (arith, has.month.1)) (omega (arith, has.day.1, long.0)) (clock_of-bytes v)
