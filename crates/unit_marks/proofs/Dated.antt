-- Midnights in the order of their dates, each date once: there is one such list of the same tellings.
use Rattle.std.proofs.Common.{◌≡◌, ◌∙◌, ℕ, zero, suc, ◌+◌, ◌<◌, ◌≤◌, ◌&&◌, not, Bool, true, false, List, [], ◌∷◌, length, get_or, refl, ap, sym, subst, arith}
use Rattle.std.specs.Prelude.{◌==◌, nat_lt, Option, Some, None, filter, find, slice_get}
use Rattle.std.specs.List.Sorted.{IsNonDecreasingBy, IsStableByKey, ties}
use Rattle.std.specs.Ordering.{nat_cmp, is_lt}
use Rattle.std.proofs.lemmas.Bool.Decides.{nat_tests}
use Rattle.std.proofs.lemmas.List.Elements.{filter_agree}
use Rattle.activity_codec.proofs.ByTest.{by_test}
use Rattle.unit_marks.specs.declared.marks.Midnight.{Midnight}
use Rattle.unit_marks.specs.Marks.{with_midnight, by_date}
use Rattle.unit_marks.specs.Sorted.{firsts_from}

abbrev pub date_of : Midnight → ℕ
date_of m = m.date

-- the first telling of a date
abbrev told_on : List Midnight → ℕ → Option Midnight
told_on days date = find (λ m. m.date == date) days

-- each is no earlier than a date and later than the one before it
abbrev Rise : ℕ → List Midnight → Type 0
Rise least [] = Unit {0}
Rise least (day ∷ days) = (least ≤ day.date) × Rise (day.date + 1) days

-- each is no earlier than a date and than the one before it
abbrev Up : ℕ → List Midnight → Type 0
Up least [] = Unit {0}
Up least (day ∷ days) = (least ≤ day.date) × Up day.date days

differs : (a b : ℕ) → a < b → (a == b) ≡ false
differs a b lt = grind (arith, nat_tests)

differs_back : (a b : ℕ) → b < a → (a == b) ≡ false
differs_back a b lt = grind (arith, nat_tests)

same_date : (a b : ℕ) → a ≡ b → (a == b) ≡ true
same_date a b is = grind (arith, nat_tests)

dates_same : (a b : ℕ) → (a == b) ≡ true → a ≡ b
dates_same a b is = grind (arith, nat_tests)

below : (a b : ℕ) → nat_lt a b ≡ true → a < b
below a b is = grind (arith, nat_tests)

not_below : (a b : ℕ) → nat_lt a b ≡ false → b ≤ a
not_below a b is = grind (arith, nat_tests)

later : (a b : ℕ) → b ≤ a → (a == b) ≡ false → b < a
later a b le other = grind (arith, nat_tests)

none_before : (least : ℕ) (days : List Midnight) (date : ℕ) → Rise least days → date < least → told_on days date ≡ None
none_before least [] date rise lt = refl
none_before least (day ∷ days) date rise lt =
    let off : (day.date == date) ≡ false = differs_back day.date date (omega (arith, rise.0, lt)) in
    rw off (none_before (day.date + 1) days date rise.1 (omega (arith, rise.0, lt)))

none_up : (least : ℕ) (days : List Midnight) (date : ℕ) → Up least days → date < least → told_on days date ≡ None
none_up least [] date up lt = refl
none_up least (day ∷ days) date up lt =
    let off : (day.date == date) ≡ false = differs_back day.date date (omega (arith, up.0, lt)) in
    rw off (none_up day.date days date up.1 (omega (arith, up.0, lt)))

-- the list is given by what is told on each date
some_is : (x y : Midnight) → (let one : Option Midnight = Some x in one) ≡ Some y → x ≡ y
some_is x y is = cc

head_of : (x : Midnight) (xs : List Midnight) → told_on (x ∷ xs) x.date ≡ Some x
head_of x xs = let on : (x.date == x.date) ≡ true = same_date x.date x.date refl in rw on refl

tail_of : (x : Midnight) (xs : List Midnight) (date : ℕ) → x.date < date → told_on (x ∷ xs) date ≡ told_on xs date
tail_of x xs date lt = let off : (x.date == date) ≡ false = differs x.date date lt in rw off refl

alone : (least : ℕ) (xs ys : List Midnight) → Rise least xs → Rise least ys → ((date : ℕ) → told_on xs date ≡ told_on ys date) → xs ≡ ys
alone least [] [] rise up same = refl
alone least [] (y ∷ ys) rise up same = absurd (none_some y (same y.date ∙ head_of y ys))
  where
    none_some : (y : Midnight) → (let none : Option Midnight = None in none) ≡ Some y → ⊥
    none_some y is = cc
alone least (x ∷ xs) [] rise up same = absurd (some_none x (sym (head_of x xs) ∙ same x.date))
  where
    some_none : (x : Midnight) → (let some : Option Midnight = Some x in some) ≡ None → ⊥
    some_none x is = cc
alone least (x ∷ xs) (y ∷ ys) rise up same =
    by_test (nat_lt x.date y.date)
    (λ lt. absurd (lost x (sym (head_of x xs) ∙ same x.date ∙ none_before y.date (y ∷ ys) x.date (omega arith, up.1) (below x.date y.date lt))))
    (λ le.
    by_test (nat_lt y.date x.date)
    (λ gt. absurd (lost y (sym (head_of y ys) ∙ sym (same y.date) ∙ none_before x.date (x ∷ xs) y.date (omega arith, rise.1) (below y.date x.date gt))))
    (λ ge.
    let dates : x.date ≡ y.date = omega (arith, not_below x.date y.date le, not_below y.date x.date ge) in
    let heads : x ≡ y = some_is x y (sym (head_of x xs) ∙ same x.date ∙ ap (λ (d : ℕ). told_on (y ∷ ys) d) dates ∙ head_of y ys) in
    let behind : Rise (x.date + 1) ys = subst (λ (d : ℕ). Rise (d + 1) ys) (sym dates) up.1 in
    ap (λ (m : Midnight). m ∷ xs) heads
    ∙ ap (λ (l : List Midnight). y ∷ l) (alone (x.date + 1) xs ys rise.1 behind (λ date. rest date dates))))
  where
    lost : (z : Midnight) → (let some : Option Midnight = Some z in some) ≡ None → ⊥
    lost z is = cc

    rest : (date : ℕ) → x.date ≡ y.date → told_on xs date ≡ told_on ys date
    rest date dates =
        by_test (nat_lt x.date date)
        (λ lt.
        let far = below x.date date lt in
        sym (tail_of x xs date far) ∙ same date ∙ tail_of y ys date (omega (arith, far, dates)))
        (λ le.
        let near = not_below x.date date le in
        none_before (x.date + 1) xs date rise.1 (omega (arith, near)) ∙ sym (none_before (y.date + 1) ys date up.1 (omega (arith, near, dates))))

-- with a midnight more it is told on its date
with_more : (day : Midnight) (days : List Midnight) (date : ℕ) → told_on (with_midnight day days) date ≡ told_on (day ∷ days) date
with_more day [] date = refl
with_more day (next ∷ days) date =
    by_test (nat_lt day.date next.date)
    (λ lt. rw lt refl)
    (λ le.
    by_test (day.date == next.date)
    (λ on.
    let dates = dates_same day.date next.date on in
    rw (le, on)
    (by_test (day.date == date)
    (λ here. rw here refl)
    (λ off. let other : (next.date == date) ≡ false = subst (λ (d : ℕ). (d == date) ≡ false) dates off in rw (off, other) refl)))
    (λ off.
    let far = later day.date next.date (not_below day.date next.date le) off in
    rw (le, off)
    (by_test (next.date == date)
    (λ here. let other : (day.date == date) ≡ false = differs_back day.date date (omega (arith, far, dates_same next.date date here)) in rw (here, other) refl)
    (λ away. rw away (with_more day days date)))))

pub told_by_date : (days : List Midnight) (date : ℕ) → told_on (by_date days) date ≡ told_on days date
told_by_date [] date = refl
told_by_date (day ∷ days) date =
    with_more day (by_date days) date
    ∙ by_test (day.date == date) (λ here. rw here refl) (λ off. rw off (told_by_date days date))

-- and the order stays
rise_weaker : (low least : ℕ) (days : List Midnight) → low ≤ least → Rise least days → Rise low days
rise_weaker low least [] le rise = tt
rise_weaker low least (day ∷ days) le rise = (omega (arith, le, rise.0), rise.1)

rise_with : (least : ℕ) (day : Midnight) (days : List Midnight) → least ≤ day.date → Rise least days → Rise least (with_midnight day days)
rise_with least day [] le rise = (le, tt)
rise_with least day (next ∷ days) le rise =
    by_test (nat_lt day.date next.date)
    (λ lt. rw lt (le, (omega (arith, below day.date next.date lt), rise.1)))
    (λ ge.
    by_test (day.date == next.date)
    (λ on. rw (ge, on) (le, rise_weaker (day.date + 1) (next.date + 1) days (omega (arith, dates_same day.date next.date on)) rise.1))
    (λ off.
    rw (ge, off)
    (rise.0, rise_with (next.date + 1) day days (omega (arith, later day.date next.date (not_below day.date next.date ge) off)) rise.1)))

rise_by_date : (days : List Midnight) → Rise 0 (by_date days)
rise_by_date [] = tt
rise_by_date (day ∷ days) = rise_with 0 day (by_date days) (omega arith) (rise_by_date days)

-- the first of each date is told on it
rise_firsts : (least : ℕ) (days : List Midnight) → Rise least (firsts_from least days)
rise_firsts least [] = tt
rise_firsts least (day ∷ days) =
    by_test (nat_lt day.date least)
    (λ lt. rw lt (rise_firsts least days))
    (λ le. rw le (not_below day.date least le, rise_firsts (day.date + 1) days))

told_firsts : (least low : ℕ) (days : List Midnight) (date : ℕ) → Up low days → least ≤ date → told_on (firsts_from least days) date ≡ told_on days date
told_firsts least low [] date up le = refl
told_firsts least low (day ∷ days) date up le =
    by_test (nat_lt day.date least)
    (λ lt.
    let off : (day.date == date) ≡ false = differs day.date date (omega (arith, below day.date least lt, le)) in
    rw (lt, off) (told_firsts least day.date days date up.1 le))
    (λ ge.
    rw ge
    (by_test (day.date == date)
    (λ here. rw here refl)
    (λ off.
    rw off
    (by_test (nat_lt date day.date)
    (λ lt. none_before (day.date + 1) (firsts_from (day.date + 1) days) date (rise_firsts (day.date + 1) days) (omega (arith, below date day.date lt)) ∙ sym (none_up day.date days date up.1 (below date day.date lt)))
    (λ far. told_firsts (day.date + 1) day.date days date up.1 (omega (arith, behind day.date date far off)))))))
  where
    behind : (a b : ℕ) → nat_lt b a ≡ false → (a == b) ≡ false → a < b
    behind a b far off = grind (arith, nat_tests)

up_from : (least : ℕ) (days : List Midnight) → IsNonDecreasingBy date_of days → ((d : Midnight) → 0 < length days → least ≤ (get_or days 0 d).date) → Up least days
up_from least [] rise low = tt
up_from least (day ∷ days) rise low = (
  low day (omega arith),
  up_from day.date days (λ i j d le inside. rise (suc i) (suc j) d (omega (arith, le)) (omega (arith, inside))) (λ d some. rise 0 1 d (omega arith) (omega (arith, some))),
)

-- a stable sort by dates leaves the first telling of each
tied : (a b : ℕ) → (not (is_lt (nat_cmp a b)) && not (is_lt (nat_cmp b a))) ≡ (b == a)
tied a b = grind (arith, nat_tests)

first_told : (days : List Midnight) (date : ℕ) → told_on days date ≡ slice_get (filter (λ m. m.date == date) days) 0
first_told [] date = refl
first_told (day ∷ days) date = by_test (day.date == date) (λ on. rw on refl) (λ off. rw off (first_told days date))

stable_told : (days sorted : List Midnight) → IsStableByKey date_of nat_cmp days sorted → (date : ℕ) → told_on sorted date ≡ told_on days date
stable_told days sorted stable date =
    first_told sorted date
    ∙ ap (λ (l : List Midnight). slice_get l 0) (sym (by_ties sorted) ∙ stable (record { date = date; odometer = 0 }) ∙ by_ties days)
    ∙ sym (first_told days date)
  where
    by_ties : (l : List Midnight) → filter (ties (λ a b. is_lt (nat_cmp (date_of a) (date_of b))) (record { date = date; odometer = 0 })) l ≡ filter (λ m. m.date == date) l
    by_ties l = filter_agree (ties (λ a b. is_lt (nat_cmp (date_of a) (date_of b))) (record { date = date; odometer = 0 })) (λ m. m.date == date) (λ m. tied date m.date) l

-- so the first of each date, of midnights that were sorted, are those by their dates
pub sorted_firsts : (days sorted : List Midnight) → IsNonDecreasingBy date_of sorted → IsStableByKey date_of nat_cmp days sorted → firsts_from 0 sorted ≡ by_date days
sorted_firsts days sorted rise stable =
    alone 0 (firsts_from 0 sorted) (by_date days) (rise_firsts 0 sorted) (rise_by_date days)
    (λ date. told_firsts 0 0 sorted date (up_from 0 sorted rise (λ d some. omega arith)) (omega arith) ∙ stable_told days sorted stable date ∙ sym (told_by_date days date))
