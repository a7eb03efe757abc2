-- Giving up old days and keeping minutes go together.
use Rattle.std.proofs.Common.{◌≡◌, ◌⊎◌, inl, inr, ⊎_elim, ℕ, zero, suc, ◌+◌, ◌-◌, ◌/◌, ◌%◌, ◌<◌, ◌≤◌, Bool, true, false, cond, List, [], ◌∷◌, ◌++◌, length, drop, refl, sym, ◌∙◌, ap, arith, length-drop}
use Rattle.std.specs.Prelude.{◌==◌, ◌&&◌, ◌||◌, nat_le, nat_lt, Contains, IsTrue}
use Rattle.std.proofs.lemmas.Bool.Decides.{nat_tests}
use Rattle.std.proofs.lemmas.List.{drop-drop}
use Rattle.std.proofs.lemmas.List.Elements.{Contains-append_left, Contains-append_right, Contains-append_cases}
use Rattle.unit_model.specs.declared.layout.TheConstants.{DAY_SLOTS}
use Rattle.unit_model.specs.Days.{UnitMinute, ShownDay, padded, with_minute, day_from, filled, newest_days, minutes_of, Each}
use Rattle.unit_model.specs.Retention.{retained, last_day, begins_day, UnitRetains}

-- a minute touches the last day alone
pub drop_filled : (j : ℕ) (days : List ShownDay) (k : UnitMinute) → j < length days → filled (drop j days) k ≡ drop j (filled days k)
drop_filled zero days k less = refl
drop_filled (suc j) [] k less = absurd (omega (arith, less))
drop_filled (suc j) (d ∷ []) k less = absurd (omega (arith, less))
drop_filled (suc j) (d ∷ e ∷ days) k less = drop_filled j (e ∷ days) k (omega (arith, less))

-- there are as many days with it, or one more
pub filled_least : (days : List ShownDay) (k : UnitMinute) → length days ≤ length (filled days k)
filled_least [] k = omega arith
filled_least (d ∷ []) k = by (d.day == k.minute / 1440)
  where
    by : (b : Bool) → 1 ≤ length (cond b (with_minute k d ∷ []) (padded 1440 d ∷ day_from k ∷ []))
    by true = omega arith
    by false = omega arith
filled_least (d ∷ e ∷ days) k = omega (arith, filled_least (e ∷ days) k)

-- and one more where it begins a further day
pub filled_further : (days : List ShownDay) (k : UnitMinute) → last_day days < k.minute / 1440 → length (filled days k) ≡ length days + 1
filled_further [] k later = refl
filled_further (d ∷ []) k later =
    let other : (d.day == k.minute / 1440) ≡ false = grind (arith, nat_tests) in
    ap (λ (b : Bool). length (cond b (with_minute k d ∷ []) (padded 1440 d ∷ day_from k ∷ []))) other
filled_further (d ∷ e ∷ days) k later = omega (arith, filled_further (e ∷ days) k later)

pub last_drop : (j : ℕ) (days : List ShownDay) → j < length days → last_day (drop j days) ≡ last_day days
last_drop zero days less = refl
last_drop (suc j) [] less = absurd (omega (arith, less))
last_drop (suc j) (d ∷ []) less = absurd (omega (arith, less))
last_drop (suc j) (d ∷ e ∷ days) less = last_drop j (e ∷ days) (omega (arith, less))

-- giving up days twice is giving them up once
pub newest_drop : (n j : ℕ) (days : List ShownDay) → j ≤ length days - n → newest_days n (drop j days) ≡ newest_days n days
newest_drop n j days le =
    ap (λ (m : ℕ). drop (m - n) (drop j days)) (length-drop j days) ∙ drop-drop (length days - j - n) j days
    ∙ ap (λ (i : ℕ). drop i days) (let e : j + (length days - j - n) ≡ length days - n = omega (arith, le) in e)

pub newest_kept : (n : ℕ) (days : List ShownDay) (k : UnitMinute) → newest_days (suc n) (filled (newest_days (suc n) days) k) ≡ newest_days (suc n) (filled days k)
newest_kept n [] k = ap (λ (i : ℕ). newest_days (suc n) (filled (drop i []) k)) (let e : 0 - suc n ≡ 0 = omega arith in e)
newest_kept n (d ∷ days) k =
    ap (newest_days (suc n)) (drop_filled (length (d ∷ days) - suc n) (d ∷ days) k (omega arith))
    ∙ newest_drop (suc n) (length (d ∷ days) - suc n) (filled (d ∷ days) k) (omega (arith, filled_least (d ∷ days) k))

-- where one day fewer was left for a further one
pub newest_further : (n : ℕ) (days : List ShownDay) (k : UnitMinute) → last_day days < k.minute / 1440 → newest_days (suc (suc n)) (filled (newest_days (suc n) days) k) ≡ newest_days (suc (suc n)) (filled days k)
newest_further n [] k later = ap (λ (i : ℕ). newest_days (suc (suc n)) (filled (drop i []) k)) (let e : 0 - suc n ≡ 0 = omega arith in e)
newest_further n (d ∷ days) k later =
    ap (newest_days (suc (suc n))) (drop_filled (length (d ∷ days) - suc n) (d ∷ days) k (omega arith))
    ∙ newest_drop (suc (suc n)) (length (d ∷ days) - suc n) (filled (d ∷ days) k) (omega (arith, filled_further (d ∷ days) k later))

lt_of : (a b : ℕ) → nat_lt a b ≡ true → a < b
lt_of a b is = grind (arith, nat_tests)

lt_true : (a b : ℕ) → a < b → nat_lt a b ≡ true
lt_true a b is = grind (arith, nat_tests)

le_true : (a b : ℕ) → a ≤ b → nat_le a b ≡ true
le_true a b is = grind (arith, nat_tests)

both_true : (a b : Bool) → (a && b) ≡ true → (a ≡ true) × (b ≡ true)
both_true true b is = (refl, is)
both_true false b is = absurd (cc)

either_true : (a b : Bool) → (a || b) ≡ true → (a ≡ true) ⊎ (b ≡ true)
either_true true b is = inl refl
either_true false b is = inr is

or_right : (a b : Bool) → b ≡ true → (a || b) ≡ true
or_right true b is = refl
or_right false b is = is

-- what begins a further day
pub begins_of : (m : ℕ) (days : List ShownDay) → last_day days < m / 1440 → IsTrue (begins_day (m ∷ []) days)
begins_of m days later = ap (λ (b : Bool). b || false) (lt_true (last_day days) (m / 1440) later)

pub begins_by : (m : ℕ) (next : List ℕ) (days : List ShownDay) → Each (λ l. l ≤ m) next → IsTrue (begins_day next days) → last_day days < m / 1440
begins_by m [] days all is = absurd (cc)
begins_by m (l ∷ next) days all is = by (begins_by m next days all.1) (either_true (nat_lt (last_day days) (l / 1440)) (begins_day next days) is)
  where
    by : (IsTrue (begins_day next days) → last_day days < m / 1440) → (nat_lt (last_day days) (l / 1440) ≡ true) ⊎ IsTrue (begins_day next days) → last_day days < m / 1440
    by rest (inl here) = let less = lt_of (last_day days) (l / 1440) here in omega (arith, less, all.0)
    by rest (inr later) = rest later

pub begins_one : (m : ℕ) (days : List ShownDay) → IsTrue (begins_day (m ∷ []) days) → last_day days < m / 1440
begins_one m days is = begins_by m (m ∷ []) days (omega arith, tt) is

-- one minute more may come next
pub retains_more : (m : ℕ) (all : List ShownDay) (next : List ℕ) (shown : List ShownDay) → UnitRetains all next shown → UnitRetains all (m ∷ next) shown
retains_more m all next shown (inl whole) = inl whole
retains_more m all next shown (inr (begun, less)) =
    let both = both_true (begins_day next all) (nat_le DAY_SLOTS (length all)) begun in
    inr ((λ t. or_right (nat_lt (last_day all) (m / 1440)) (begins_day next all) both.0 t && both.1 t), less)

-- the oldest of 366 days is given up
pub given_retains : (m : ℕ) (all : List ShownDay) (next : List ℕ) (shown : List ShownDay) → UnitRetains all next shown → length shown ≡ DAY_SLOTS → last_day shown < m / 1440 → UnitRetains all (m ∷ next) (newest_days (DAY_SLOTS - 1) shown)
given_retains m all next shown (inl whole) full later =
    let few : length all - (length all - DAY_SLOTS) ≡ DAY_SLOTS = sym (length-drop (length all - DAY_SLOTS) all) ∙ sym (ap length whole) ∙ full in
    let last_is : last_day shown ≡ last_day all = ap last_day whole ∙ last_drop (length all - DAY_SLOTS) all (omega (arith, few)) in
    inr (
      (λ t. (nat_lt (last_day all) (m / 1440) || begins_day next all) && le_true DAY_SLOTS (length all) (omega (arith, few)) t)
          ∙ (λ t. (lt_true (last_day all) (m / 1440) (omega (arith, later, last_is)) t || begins_day next all) && true),
      ap (newest_days (DAY_SLOTS - 1)) whole ∙ newest_drop (DAY_SLOTS - 1) (length all - DAY_SLOTS) all (omega arith),
    )
given_retains m all next shown (inr (begun, less)) full later =
    let few : length all - (length all - (DAY_SLOTS - 1)) ≡ DAY_SLOTS = sym (length-drop (length all - (DAY_SLOTS - 1)) all) ∙ sym (ap length less) ∙ full in absurd (omega (arith, few))

-- and a minute is kept, not earlier than those that were begun
pub kept_retains : (all : List ShownDay) (next : List ℕ) (shown : List ShownDay) (k : UnitMinute) → UnitRetains all next shown → Each (λ m. m ≤ k.minute) next → retained shown k ≡ newest_days DAY_SLOTS (filled all k)
kept_retains all next shown k (inl whole) low = ap (λ (days : List ShownDay). retained days k) whole ∙ newest_kept (DAY_SLOTS - 1) all k
kept_retains all next shown k (inr (begun, less)) low =
    let both = both_true (begins_day next all) (nat_le DAY_SLOTS (length all)) begun in
    ap (λ (days : List ShownDay). retained days k) less ∙ newest_further 364 all k (begins_by k.minute next all low both.0)

-- the minutes that the days have stay, but for those of a day that is given up
pub filled_holds : (days : List ShownDay) (k m : UnitMinute) → Contains (minutes_of days) m → Contains (minutes_of (filled days k)) m
filled_holds [] k m has = absurd (omega (arith, has.1))
filled_holds (d ∷ []) k m has = ⊎_elim (λ here. by here (d.day == k.minute / 1440)) (λ none. absurd (omega (arith, none.1))) (Contains-append_cases d.minutes [] m has)
  where
    by : Contains d.minutes m → (b : Bool) → Contains (minutes_of (cond b (with_minute k d ∷ []) (padded 1440 d ∷ day_from k ∷ []))) m
    by here true = Contains-append_left (with_minute k d).minutes [] m (Contains-append_left (padded (k.minute % 1440) d).minutes (k ∷ []) m (Contains-append_left d.minutes _ m here))
    by here false = Contains-append_left (padded 1440 d).minutes ((day_from k).minutes ++ []) m (Contains-append_left d.minutes _ m here)
filled_holds (d ∷ e ∷ days) k m has = by (filled_holds (e ∷ days) k m) (Contains-append_cases d.minutes (minutes_of (e ∷ days)) m has)
  where
    by : (Contains (minutes_of (e ∷ days)) m → Contains (minutes_of (filled (e ∷ days) k)) m) → Contains d.minutes m ⊎ Contains (minutes_of (e ∷ days)) m → Contains (d.minutes ++ minutes_of (filled (e ∷ days) k)) m
    by rest (inl here) = Contains-append_left d.minutes (minutes_of (filled (e ∷ days) k)) m here
    by rest (inr later) = Contains-append_right d.minutes (minutes_of (filled (e ∷ days) k)) m (rest later)
