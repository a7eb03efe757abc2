-- What days say of a minute, where further minutes fill them and only the newest are retained.
use Rattle.std.proofs.Common.{◌≡◌, ◌⊎◌, inl, inr, ⊎_elim, ℕ, zero, suc, ◌+◌, ◌-◌, ◌*◌, ◌/◌, ◌%◌, ◌<◌, ◌≤◌, Bool, true, false, cond, nat_le, Some, List, [], ◌∷◌, ◌++◌, All, Contains, length, map, filter, drop, refl, ap, subst, ◌∙◌, sym, arith, length-drop}
use Rattle.std.specs.Prelude.{◌==◌, nat_eq, find, unwrap_or}
use Rattle.std.specs.List.{range_with_len}
use Rattle.std.proofs.lemmas.Bool.Decides.{nat_tests}
use Rattle.std.proofs.lemmas.List.Elements.{All-nil, All-cons, All-head, All-tail, All-append, All-weaker, All-map, All-drop, filter_passes, Contains-push_cases, Contains-append_cases}
use Rattle.gated_ring.proofs.Orders.{range_each, Each as EachNumber}
use Rattle.unit_model.specs.Days.{UnitMinute, ShownDay, StoredDay, day_of, minute_at, minutes_shown, day_shown, days_shown, padded, unknown_minute, with_minute, day_from, filled, filled_all, newest_days, minutes_of}
use Rattle.days_told.proofs.Turning.{InTurn, in-turn_high, Rising}

-- the first of these minutes with a number, or else what is given
abbrev pub look : List UnitMinute → (m : ℕ) → UnitMinute → UnitMinute
look ks m z = unwrap_or (find (λ (k : UnitMinute). nat_eq k.minute m) ks) z

-- what days say of a minute
abbrev pub told : List ShownDay → (m : ℕ) → UnitMinute
told days m = look (minutes_of days) m (unknown_minute m)

same : (a m : ℕ) → nat_eq a m ≡ true → a ≡ m
same a m is = grind (arith, nat_tests)

other : (a m : ℕ) → (a < m) ⊎ (m < a) → nat_eq a m ≡ false
other a m (inl lt) = grind (arith, nat_tests)
other a m (inr lt) = grind (arith, nat_tests)

-- A LOOK-UP
look-cons : (k : UnitMinute) (ks : List UnitMinute) (m : ℕ) (z : UnitMinute) → look (k ∷ ks) m z ≡ cond (nat_eq k.minute m) k (look ks m z)
look-cons k ks m z = go (nat_eq k.minute m)
  where
    go : (b : Bool) → unwrap_or (cond b (Some k) (find (λ (k : UnitMinute). nat_eq k.minute m) ks)) z ≡ cond b k (look ks m z)
    go true = refl
    go false = refl

look-append : (xs ys : List UnitMinute) (m : ℕ) (z : UnitMinute) → look (xs ++ ys) m z ≡ look xs m (look ys m z)
look-append [] ys m z = refl
look-append (x ∷ xs) ys m z =
    look-cons x (xs ++ ys) m z ∙ ap (λ (y : UnitMinute). cond (nat_eq x.minute m) x y) (look-append xs ys m z) ∙ sym (look-cons x xs m (look ys m z))

-- of a number that none has
look-none : (ks : List UnitMinute) (m : ℕ) (z : UnitMinute) → All (λ k. (k.minute < m) ⊎ (m < k.minute)) ks → look ks m z ≡ z
look-none [] m z apart = refl
look-none (k ∷ ks) m z apart =
    look-cons k ks m z ∙ ap (λ (b : Bool). cond b k (look ks m z)) (other k.minute m (All-head (λ (k : UnitMinute). (k.minute < m) ⊎ (m < k.minute)) k ks apart))
    ∙ look-none ks m z (All-tail (λ (k : UnitMinute). (k.minute < m) ⊎ (m < k.minute)) k ks apart)

pub look-before : (ks : List UnitMinute) (m : ℕ) (z : UnitMinute) → All (λ k. k.minute < m) ks → look ks m z ≡ z
look-before ks m z all = look-none ks m z (All-weaker (λ (k : UnitMinute). k.minute < m) (λ k. (k.minute < m) ⊎ (m < k.minute)) (λ k lt. inl lt) ks all)

-- of a minute of which nothing is known, among such
look-unknown : (f : ℕ → ℕ) (ts : List ℕ) (m : ℕ) → look (map (λ t. unknown_minute (f t)) ts) m (unknown_minute m) ≡ unknown_minute m
look-unknown f [] m = refl
look-unknown f (t ∷ ts) m =
    look-cons (unknown_minute (f t)) (map (λ t. unknown_minute (f t)) ts) m (unknown_minute m) ∙ ap (λ (y : UnitMinute). cond (nat_eq (f t) m) (unknown_minute (f t)) y) (look-unknown f ts m) ∙ go (nat_eq (f t) m) refl
  where
    go : (b : Bool) → nat_eq (f t) m ≡ b → cond b (unknown_minute (f t)) (unknown_minute m) ≡ unknown_minute m
    go true is = ap unknown_minute (same (f t) m is)
    go false is = refl

-- DAYS UP TO A MINUTE
abbrev pub Under : ℕ → List ShownDay → Type 0
Under n [] = Unit {0}
Under n (d ∷ days) = (d.day ≤ n / 1440) × All (λ (k : UnitMinute). k.minute ≤ n) d.minutes × Under n days

under-more : (a b : ℕ) (days : List ShownDay) → a ≤ b → Under a days → Under b days
under-more a b [] le under = tt
under-more a b (d ∷ days) le under = (let first : d.day ≤ a / 1440 = under.0 in omega (arith, first, le), All-weaker (λ (k : UnitMinute). k.minute ≤ a) (λ k. k.minute ≤ b) (λ k h. omega (arith, h, le)) d.minutes under.1, under-more a b days le under.2)

under-before : (n m : ℕ) (days : List ShownDay) → n < m → Under n days → All (λ (k : UnitMinute). k.minute < m) (minutes_of days)
under-before n m [] lt under = All-nil (λ (k : UnitMinute). k.minute < m)
under-before n m (d ∷ days) lt under = All-append (λ (k : UnitMinute). k.minute < m) d.minutes (minutes_of days) (All-weaker (λ (k : UnitMinute). k.minute ≤ n) (λ k. k.minute < m) (λ k h. omega (arith, h, lt)) d.minutes under.1) (under-before n m days lt under.2)

-- behind their minute they say nothing
pub told-behind : (n m : ℕ) (days : List ShownDay) → n < m → Under n days → told days m ≡ unknown_minute m
told-behind n m days lt under = look-before (minutes_of days) m (unknown_minute m) (under-before n m days lt under)

each-all : (P : ℕ → Type 0) (xs : List ℕ) → EachNumber P xs → All P xs
each-all P [] each = All-nil P
each-all P (x ∷ xs) each = All-cons P x xs each.0 (each-all P xs each.1)

-- those of an image are, up to its last-kept minute
shown-under : (kept : ℕ) (days : List StoredDay) → All (λ d. nat_le (day_of d) (kept / 1440) ≡ true) days → Under kept (map (day_shown kept) days)
shown-under kept [] low = tt
shown-under kept (d ∷ days) low = (
  first,
  All-map (λ (k : UnitMinute). k.minute ≤ kept) (minute_at d) (range_with_len 0 (minutes_shown kept (day_of d)))
      (each-all (λ t. 1440 * day_of d + t ≤ kept) (range_with_len 0 (minutes_shown kept (day_of d))) (range_each (λ t. 1440 * day_of d + t ≤ kept) 0 (minutes_shown kept (day_of d)) (λ t from to. within t to))),
  shown-under kept days (All-tail (λ (d : StoredDay). nat_le (day_of d) (kept / 1440) ≡ true) d days low),
)
  where
    first : day_of d ≤ kept / 1440
    first = let is = All-head (λ (d : StoredDay). nat_le (day_of d) (kept / 1440) ≡ true) d days low in low-of (day_of d) (kept / 1440) is
      where
        low-of : (a b : ℕ) → nat_le a b ≡ true → a ≤ b
        low-of a b is = grind (arith, nat_tests)

    within : (t : ℕ) → t < 0 + minutes_shown kept (day_of d) → 1440 * day_of d + t ≤ kept
    within t to = go (day_of d == kept / 1440) refl to
      where
        today : (day kept t : ℕ) → (day == kept / 1440) ≡ true → t < 0 + (kept % 1440 + 1) → 1440 * day + t ≤ kept
        today day kept t is lt = let e : day ≡ kept / 1440 = grind (arith, nat_tests) in omega (arith, e, lt)

        earlier : (day kept t : ℕ) → (day == kept / 1440) ≡ false → day ≤ kept / 1440 → t < 0 + 1440 → 1440 * day + t ≤ kept
        earlier day kept t is le lt = let e : day < kept / 1440 = grind (arith, nat_tests) in omega (arith, e, lt)

        go : (b : Bool) → (day_of d == kept / 1440) ≡ b → t < 0 + cond b (kept % 1440 + 1) 1440 → 1440 * day_of d + t ≤ kept
        go true is lt = today (day_of d) kept t is lt
        go false is lt = earlier (day_of d) kept t is first lt

pub kept-under : (kept : ℕ) (days : List StoredDay) → Under kept (days_shown kept days)
kept-under kept days = shown-under kept (filter (λ d. nat_le (day_of d) (kept / 1440)) days) (filter_passes (λ (d : StoredDay). nat_le (day_of d) (kept / 1440)) days)

-- A MINUTE MORE
abbrev pads : ℕ → ShownDay → List UnitMinute
pads n d = map (λ t. unknown_minute (1440 * d.day + t)) (range_with_len (length d.minutes) (n - length d.minutes))

pads-before : (n m : ℕ) (d : ShownDay) → 1440 * d.day + n ≤ m → All (λ (k : UnitMinute). k.minute < m) (pads n d)
pads-before n m d le = All-map (λ (k : UnitMinute). k.minute < m) (λ t. unknown_minute (1440 * d.day + t)) (range_with_len (length d.minutes) (n - length d.minutes))
    (each-all (λ t. 1440 * d.day + t < m) (range_with_len (length d.minutes) (n - length d.minutes)) (range_each (λ t. 1440 * d.day + t < m) (length d.minutes) (n - length d.minutes) (λ t low high. omega (arith, low, high, le))))

-- a day with further minutes up to a number, and with this one
told-padded : (n : ℕ) (d : ShownDay) (k : UnitMinute) (m : ℕ) → 1440 * d.day + n ≤ k.minute → All (λ (j : UnitMinute). j.minute < k.minute) d.minutes →
    look d.minutes m (look (pads n d) m (cond (nat_eq k.minute m) k (unknown_minute m))) ≡ cond (nat_eq k.minute m) k (look d.minutes m (unknown_minute m))
told-padded n d k m le before = go (nat_eq k.minute m) refl
  where
    go : (b : Bool) → nat_eq k.minute m ≡ b → look d.minutes m (look (pads n d) m (cond b k (unknown_minute m))) ≡ cond b k (look d.minutes m (unknown_minute m))
    go true is =
        let e = same k.minute m is in
        ap (look d.minutes m) (look-before (pads n d) m k (subst (λ (j : ℕ). All (λ (k : UnitMinute). k.minute < j) (pads n d)) e (pads-before n k.minute d le)))
        ∙ look-before d.minutes m k (subst (λ (j : ℕ). All (λ (k : UnitMinute). k.minute < j) d.minutes) e before)
    go false is = ap (look d.minutes m) (look-unknown (λ t. 1440 * d.day + t) (range_with_len (length d.minutes) (n - length d.minutes)) m)

told-with : (n : ℕ) (d : ShownDay) (k : UnitMinute) (m : ℕ) → 1440 * d.day + n ≤ k.minute → All (λ (j : UnitMinute). j.minute < k.minute) d.minutes →
    look ((d.minutes ++ pads n d) ++ k ∷ []) m (unknown_minute m) ≡ cond (nat_eq k.minute m) k (look d.minutes m (unknown_minute m))
told-with n d k m le before =
    look-append (d.minutes ++ pads n d) (k ∷ []) m (unknown_minute m) ∙ look-append d.minutes (pads n d) m (look (k ∷ []) m (unknown_minute m))
    ∙ ap (λ (z : UnitMinute). look d.minutes m (look (pads n d) m z)) (look-cons k [] m (unknown_minute m)) ∙ told-padded n d k m le before

look-nil : (ks : List UnitMinute) (m : ℕ) (z : UnitMinute) → look (ks ++ []) m z ≡ look ks m z
look-nil ks m z = look-append ks [] m z

pub told-filled : (n : ℕ) (days : List ShownDay) (k : UnitMinute) (m : ℕ) → Under n days → n < k.minute → told (filled days k) m ≡ cond (nat_eq k.minute m) k (told days m)
told-filled n [] k m under lt =
    look-nil (day_from k).minutes m (unknown_minute m) ∙ told-with (k.minute % 1440) (record { day = k.minute / 1440; minutes = [] }) k m (omega arith) (All-nil (λ (j : UnitMinute). j.minute < k.minute))
told-filled n (d ∷ []) k m under lt = go (d.day == k.minute / 1440) refl
  where
    before : All (λ (j : UnitMinute). j.minute < k.minute) d.minutes
    before = All-weaker (λ (j : UnitMinute). j.minute ≤ n) (λ j. j.minute < k.minute) (λ j h. omega (arith, h, lt)) d.minutes under.1

    there : told (d ∷ []) m ≡ look d.minutes m (unknown_minute m)
    there = look-nil d.minutes m (unknown_minute m)

    today : (day minute : ℕ) → (day == minute / 1440) ≡ true → 1440 * day + minute % 1440 ≤ minute
    today day minute is = let e : day ≡ minute / 1440 = grind (arith, nat_tests) in omega (arith, e)

    further : (day minute : ℕ) → (day == minute / 1440) ≡ false → day ≤ n / 1440 → n < minute → 1440 * day + 1440 ≤ minute
    further day minute is le lt = let e : day < minute / 1440 = grind (arith, nat_tests) in omega (arith, e)

    whole : 1440 * d.day + 1440 ≤ k.minute → look ((d.minutes ++ pads 1440 d) ++ ((day_from k).minutes ++ [])) m (unknown_minute m) ≡ cond (nat_eq k.minute m) k (look d.minutes m (unknown_minute m))
    whole le =
        look-append (d.minutes ++ pads 1440 d) ((day_from k).minutes ++ []) m (unknown_minute m) ∙ look-append d.minutes (pads 1440 d) m (look ((day_from k).minutes ++ []) m (unknown_minute m))
        ∙ ap (λ (z : UnitMinute). look d.minutes m (look (pads 1440 d) m z))
        (look-nil (day_from k).minutes m (unknown_minute m) ∙ told-with (k.minute % 1440) (record { day = k.minute / 1440; minutes = [] }) k m (omega arith) (All-nil (λ (j : UnitMinute). j.minute < k.minute)))
        ∙ told-padded 1440 d k m le before

    go : (b : Bool) → (d.day == k.minute / 1440) ≡ b → told (cond b (with_minute k d ∷ []) (padded 1440 d ∷ day_from k ∷ [])) m ≡ cond (nat_eq k.minute m) k (told (d ∷ []) m)
    go true is = look-nil (with_minute k d).minutes m (unknown_minute m) ∙ told-with (k.minute % 1440) d k m (today d.day k.minute is) before ∙ ap (cond (nat_eq k.minute m) k) (sym there)
    go false is = whole (further d.day k.minute is under.0 lt) ∙ ap (cond (nat_eq k.minute m) k) (sym there)
told-filled n (d ∷ e ∷ days) k m under lt =
    look-append d.minutes (minutes_of (filled (e ∷ days) k)) m (unknown_minute m) ∙ ap (look d.minutes m) (told-filled n (e ∷ days) k m under.2 lt) ∙ go (nat_eq k.minute m) refl
    ∙ ap (cond (nat_eq k.minute m) k) (sym (look-append d.minutes (minutes_of (e ∷ days)) m (unknown_minute m)))
  where
    go : (b : Bool) → nat_eq k.minute m ≡ b → look d.minutes m (cond b k (told (e ∷ days) m)) ≡ cond b k (look d.minutes m (told (e ∷ days) m))
    go true is = look-before d.minutes m k (All-weaker (λ (j : UnitMinute). j.minute ≤ n) (λ j. j.minute < m) (λ j h. let e = same k.minute m is in omega (arith, h, lt, e)) d.minutes under.1)
    go false is = refl

with-under : (n : ℕ) (d : ShownDay) (k : UnitMinute) → 1440 * d.day + n ≤ k.minute → All (λ (j : UnitMinute). j.minute ≤ k.minute) d.minutes → All (λ (j : UnitMinute). j.minute ≤ k.minute) ((d.minutes ++ pads n d) ++ k ∷ [])
with-under n d k le all = All-append (λ (j : UnitMinute). j.minute ≤ k.minute) (d.minutes ++ pads n d) (k ∷ [])
    (All-append (λ (j : UnitMinute). j.minute ≤ k.minute) d.minutes (pads n d) all (All-weaker (λ (j : UnitMinute). j.minute < k.minute) (λ j. j.minute ≤ k.minute) (λ j h. omega (arith, h)) (pads n d) (pads-before n k.minute d le)))
    (All-cons (λ (j : UnitMinute). j.minute ≤ k.minute) k [] (omega arith) (All-nil (λ (j : UnitMinute). j.minute ≤ k.minute)))

first-under : (k : UnitMinute) → Under k.minute (day_from k ∷ [])
first-under k = (omega arith, with-under (k.minute % 1440) (record { day = k.minute / 1440; minutes = [] }) k (omega arith) (All-nil (λ (j : UnitMinute). j.minute ≤ k.minute)), tt)

filled-under : (n : ℕ) (days : List ShownDay) (k : UnitMinute) → Under n days → n < k.minute → Under k.minute (filled days k)
filled-under n [] k under lt = first-under k
filled-under n (d ∷ []) k under lt = go (d.day == k.minute / 1440) refl
  where
    up : Under k.minute (d ∷ [])
    up = under-more n k.minute (d ∷ []) (omega (arith, lt)) under

    today : (day minute : ℕ) → (day == minute / 1440) ≡ true → 1440 * day + minute % 1440 ≤ minute
    today day minute is = let e : day ≡ minute / 1440 = grind (arith, nat_tests) in omega (arith, e)

    further : (day minute : ℕ) → (day == minute / 1440) ≡ false → day ≤ minute / 1440 → 1440 * day + 1440 ≤ minute
    further day minute is le = let e : day < minute / 1440 = grind (arith, nat_tests) in omega (arith, e)

    go : (b : Bool) → (d.day == k.minute / 1440) ≡ b → Under k.minute (cond b (with_minute k d ∷ []) (padded 1440 d ∷ day_from k ∷ []))
    go true is = (up.0, with-under (k.minute % 1440) d k (today d.day k.minute is) up.1, tt)
    go false is = (
      up.0,
      All-append (λ (j : UnitMinute). j.minute ≤ k.minute) d.minutes (pads 1440 d) up.1 (All-weaker (λ (j : UnitMinute). j.minute < k.minute) (λ j. j.minute ≤ k.minute) (λ j h. omega (arith, h)) (pads 1440 d) (pads-before 1440 k.minute d (further d.day k.minute is up.0))),
      first-under k,
    )
filled-under n (d ∷ e ∷ days) k under lt = (
  let first : d.day ≤ n / 1440 = under.0 in omega (arith, first, lt),
  All-weaker (λ (j : UnitMinute). j.minute ≤ n) (λ j. j.minute ≤ k.minute) (λ j h. omega (arith, h, lt)) d.minutes under.1,
  filled-under n (e ∷ days) k under.2 lt,
)

-- MINUTES MORE, each later than those before: of a minute the first of them with its number tells, or else the days before
rising-after : (n m : ℕ) (ks : List UnitMinute) → m ≤ n → Rising n ks → All (λ k. (k.minute < m) ⊎ (m < k.minute)) ks
rising-after n m [] le rising = All-nil (λ (k : UnitMinute). (k.minute < m) ⊎ (m < k.minute))
rising-after n m (k ∷ ks) le rising = let lt : n < k.minute = rising.0 in
    All-cons (λ (k : UnitMinute). (k.minute < m) ⊎ (m < k.minute)) k ks (inr (omega (arith, le, lt))) (rising-after k.minute m ks (omega (arith, le, lt)) rising.1)

-- of a number up to which they begin none tells
pub look-after : (n m : ℕ) (ks : List UnitMinute) (z : UnitMinute) → m ≤ n → Rising n ks → look ks m z ≡ z
look-after n m ks z le rising = look-none ks m z (rising-after n m ks le rising)

pub told-all : (n : ℕ) (days : List ShownDay) (ks : List UnitMinute) (m : ℕ) → Under n days → Rising n ks → told (filled_all days ks) m ≡ look ks m (told days m)
told-all n days [] m under rising = refl
told-all n days (k ∷ ks) m under rising =
    told-all k.minute (filled days k) ks m (filled-under n days k under rising.0) rising.1
    ∙ ap (look ks m) (told-filled n days k m under rising.0) ∙ go (nat_eq k.minute m) refl ∙ sym (look-cons k ks m (told days m))
  where
    go : (b : Bool) → nat_eq k.minute m ≡ b → look ks m (cond b k (told days m)) ≡ cond b k (look ks m (told days m))
    go true is = let e = same k.minute m is in look-after k.minute m ks k (omega (arith, e)) rising.1
    go false is = refl

-- and one that is among them is found
pub look-among : (n : ℕ) (ks : List UnitMinute) (k : UnitMinute) (z : UnitMinute) → Rising n ks → Contains ks k → look ks k.minute z ≡ k
look-among n [] k z rising at = absurd (omega (arith, at.1))
look-among n (j ∷ ks) k z rising at = look-cons j ks k.minute z ∙ ⊎_elim
    (λ here. ⊎_elim
    (λ none. absurd (omega (arith, none.1)))
    (λ (is : j ≡ k). ap (λ (b : Bool). cond b j (look ks k.minute z)) (itself j.minute k.minute (ap (λ (y : UnitMinute). y.minute) is)) ∙ is)
    (Contains-push_cases [] j k here))
    (λ there. let lt : j.minute < k.minute = later j.minute ks k rising.1 there in
    ap (λ (b : Bool). cond b j (look ks k.minute z)) (other j.minute k.minute (inl lt)) ∙ look-among j.minute ks k z rising.1 there)
    (Contains-append_cases (j ∷ []) ks k at)
  where
    itself : (a m : ℕ) → a ≡ m → nat_eq a m ≡ true
    itself a m is = grind (arith, nat_tests)

    later : (n : ℕ) (ks : List UnitMinute) (k : UnitMinute) → Rising n ks → Contains ks k → n < k.minute
    later n [] k rising at = absurd (omega (arith, at.1))
    later n (j ∷ ks) k rising at = let lt : n < j.minute = rising.0 in ⊎_elim
        (λ here. ⊎_elim
        (λ none. absurd (omega (arith, none.1)))
        (λ (is : j ≡ k). let e : j.minute ≡ k.minute = ap (λ (y : UnitMinute). y.minute) is in omega (arith, e, lt))
        (Contains-push_cases [] j k here))
        (λ there. let more = later j.minute ks k rising.1 there in omega (arith, more, lt))
        (Contains-append_cases (j ∷ []) ks k at)

-- THE NEWEST OF DAYS IN TURN say the same of a minute, or each of them is later than its day
told-left : (from j : ℕ) (days : List ShownDay) (m : ℕ) → InTurn from days → (told (drop j days) m ≡ told days m) ⊎ All (λ (d : ShownDay). m / 1440 < d.day) (drop j days)
told-left from zero days m turn = inl refl
told-left from (suc j) [] m turn = inl refl
told-left from (suc j) (d ∷ days) m turn = ⊎_elim
    (λ (low : m / 1440 ≤ d.day). inr (All-drop (λ (e : ShownDay). m / 1440 < e.day) j days (All-weaker (λ (e : ShownDay). suc d.day ≤ e.day) (λ e. m / 1440 < e.day) (λ e h. omega (arith, h, low)) days (in-turn_high (suc d.day) days turn.2))))
    (λ (high : d.day < m / 1440).
    let gone : look d.minutes m (told days m) ≡ told days m = look-before d.minutes m (told days m) (All-weaker (λ (k : UnitMinute). k.minute / 1440 ≡ d.day) (λ k. k.minute < m) (λ k h. omega (arith, h, high)) d.minutes turn.1) in
    ⊎_elim
    (λ same_. inl (same_ ∙ sym gone ∙ sym (look-append d.minutes (minutes_of days) m (unknown_minute m))))
    (λ older. inr older)
    (told-left (suc d.day) j days m turn.2))
    (either (m / 1440) d.day)
  where
    either : (a b : ℕ) → (a ≤ b) ⊎ (b < a)
    either a b = go (nat_le a b) refl
      where
        go : (t : Bool) → nat_le a b ≡ t → (a ≤ b) ⊎ (b < a)
        go true is = inl (grind (arith, nat_tests))
        go false is = inr (grind (arith, nat_tests))

-- what is retained of them, where at least so many are
pub record IsOlder (least : ℕ) (days : List ShownDay) (m : ℕ) : Type 0 where
  pub later : All (λ (d : ShownDay). m / 1440 < d.day) days
  pub many : least ≤ length days

pub told-newest : (least n : ℕ) (all : List ShownDay) (m : ℕ) → least ≤ n → InTurn 0 all → (told (newest_days n all) m ≡ told all m) ⊎ IsOlder least (newest_days n all) m
told-newest least n all m enough turn = ⊎_elim
    (λ (few : length all ≤ n). inl (ap (λ (j : ℕ). told (drop j all) m) (let none : length all - n ≡ 0 = omega (arith, few) in none)))
    (λ (more : n < length all). ⊎_elim
    (λ same_. inl same_)
    (λ older. inr (record { later = older; many = let l = length-drop (length all - n) all in omega (arith, l, more, enough) }))
    (told-left 0 (length all - n) all m turn))
    (either (length all) n)
  where
    either : (a b : ℕ) → (a ≤ b) ⊎ (b < a)
    either a b = go (nat_le a b) refl
      where
        go : (t : Bool) → nat_le a b ≡ t → (a ≤ b) ⊎ (b < a)
        go true is = inl (grind (arith, nat_tests))
        go false is = inr (grind (arith, nat_tests))
