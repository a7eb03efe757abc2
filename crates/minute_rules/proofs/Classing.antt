-- The class of a minute, by what is counted of it and its neighbours.
use Rattle.std.proofs.Common.{◌≡◌, ◌∙◌, ℕ, suc, zero, ◌+◌, ◌-◌, ◌*◌, ◌/◌, ◌<◌, ◌≤◌, Bool, true, false, List, [], ◌∷◌, ◌++◌, length, drop, replicate, refl, ap, sym, subst, arith}
use Rattle.std.specs.Prelude.{nat_eq, nat_le, map, filter, sum_by, slice_index_or}
use Rattle.std.specs.List.{list_any, AllByRecursion}
use Rattle.std.proofs.lemmas.Bool.{eqb-true, eqb-false, eq-eqb, ne_eqb, leb-true, leb-false, le-leb, lt-leb}
use Rattle.std.proofs.lemmas.List.{map-append, length-map, drop-map}
use Rattle.activity_codec.proofs.ByTest.{by_test}
use Rattle.activity_codec.specs.declared.values.Activity.{Activity}
use Rattle.activity_codec.specs.declared.values.Activity.TheVariants.{Work}
use Rattle.minute_model.specs.declared.Minute.{Minute}
use Rattle.minute_model.specs.declared.Rule.{Rule}
use Rattle.minute_model.specs.declared.Rule.TheVariants.{Original, Amended}
use Rattle.minute_model.specs.Second.{Second, is_moving, minute_of}
use Rattle.minute_model.specs.Activity.{driver_at, codriver_at}
use Rattle.minute_model.specs.Minute.{in_minute, minute_before, drives_before, longest, driver_class, travelled_to, class_of}
use Rattle.minute_model.specs.Span.{Span, end_of, AreNumbered}
use Rattle.minute_model.specs.Stops.{waits, open_of, fixed_of}
use Rattle.minute_model.proofs.Counted.{count_from, count_from-more}
use Rattle.minute_model.proofs.Grown.{Constant, parts, open-all, open-none, open-work}
use Rattle.minute_model.proofs.Ranges.{filter-no, filter-yes, each-then}
use Rattle.minute_rules.specs.declared.counted.Counted.{Counted}
use Rattle.minute_rules.specs.Tally.{no_run, longest_in, tally_of}
use Rattle.minute_rules.specs.Counted.{counted_of, no_second, drivers_longest, class_by}
use Rattle.minute_rules.specs.Kept.{Kept, oldest, kept_at, last_of, turned, minute_back, class_kept}
use Rattle.minute_rules.proofs.Growing.{whole_counted, map-constant, minute-parts, all-filtered}
use Rattle.minute_rules.proofs.Iterated.{same_kept}
use Rattle.minute_rules.proofs.Tallies.{tally-append, tally-replicate, longest-tally}

-- the seconds of a span lie in minutes below one, and not below one
pub minutes-below : (k n : ℕ) (xs : List Second) → AreNumbered n xs → n + length xs ≤ 60 * k → AllByRecursion (λ (s : Second). minute_of s < k) xs
minutes-below k n [] h le = tt
minutes-below k n (x ∷ xs) h le = (omega (arith, h.0, le), minutes-below k (n + 1) xs h.1 (omega (arith, le)))

pub minutes-from : (k n : ℕ) (xs : List Second) → AreNumbered n xs → 60 * k ≤ n → AllByRecursion (λ (s : Second). k ≤ minute_of s) xs
minutes-from k n [] h le = tt
minutes-from k n (x ∷ xs) h le = (omega (arith, h.0, le), minutes-from k (n + 1) xs h.1 (omega (arith, le)))

all-parts : {X : Type 0} (P : X → Type 0) (xs ys : List X) → AllByRecursion P (xs ++ ys) → AllByRecursion P xs × AllByRecursion P ys
all-parts P [] ys h = (tt, h)
all-parts P (x ∷ xs) ys h = let rest = all-parts P xs ys h.1 in ((h.0, rest.0), rest.1)

-- no second of a later minute
none-later : (k : ℕ) (xs : List Second) → AllByRecursion (λ (s : Second). minute_of s < k) xs → in_minute k xs ≡ []
none-later k xs h = filter-no (λ (s : Second). nat_eq (minute_of s) k) xs (each-then (λ (s : Second). minute_of s < k) (λ (s : Second). nat_eq (minute_of s) k ≡ false) (λ s lt. ne_eqb (minute_of s) k (λ e. omega (arith, e, lt))) xs h)

all-to : (k : ℕ) (xs : List Second) → AllByRecursion (λ (s : Second). minute_of s < k + 1) xs → filter (λ (s : Second). nat_le (minute_of s) k) xs ≡ xs
all-to k xs h = filter-yes (λ (s : Second). nat_le (minute_of s) k) xs (each-then (λ (s : Second). minute_of s < k + 1) (λ (s : Second). nat_le (minute_of s) k ≡ true) (λ s lt. le-leb (minute_of s) k (omega (arith, lt))) xs h)

pub travelled-all : (k n : ℕ) (xs : List Second) → AreNumbered n xs → n + length xs ≤ 60 * (k + 1) → travelled_to xs k ≡ sum_by (λ (s : Second). s.speed) xs
travelled-all k n xs numbered le = ap (sum_by (λ (s : Second). s.speed)) (all-to k xs (minutes-below (k + 1) n xs numbered le))

-- a minute that has no second yet
fresh : (m n : ℕ) (xs : List Second) → AreNumbered n xs → n + length xs ≤ 60 * (m + 1) → counted_of xs (m + 1) ≡ record { driver = no_run; open_seconds = 0; drives = false; codriver = no_run; travelled = (counted_of xs m).travelled }
fresh m n xs numbered le =
    let below = minutes-below (m + 1) n xs numbered le in
    let both = all-parts (λ (s : Second). minute_of s < m + 1) (fixed_of xs) (open_of xs) (subst (AllByRecursion (λ (s : Second). minute_of s < m + 1)) (parts xs) below) in
    whole_counted _ _ _ _ _ _ _ _ _ _
    (ap (λ (ys : List Second). tally_of (map (driver_at xs) ys)) (none-later (m + 1) (fixed_of xs) both.0))
    (ap length (none-later (m + 1) (open_of xs) both.1))
    (ap (list_any is_moving) (none-later (m + 1) xs below))
    (ap (λ (ys : List Second). tally_of (map (codriver_at xs) ys)) (none-later (m + 1) xs below))
    (travelled-all (m + 1) n xs numbered (omega (arith, le)) ∙ sym (travelled-all m n xs numbered le))

-- some of the first numbers left out
drop-counted : (j a n : ℕ) → drop j (count_from a n) ≡ count_from (a + j) (n - j)
drop-counted zero a n = let e : a ≡ a + 0 = omega arith in let f : n ≡ n - 0 = omega arith in ap (λ (b : ℕ). count_from b n) e ∙ ap (count_from (a + 0)) f
drop-counted (suc j) a zero = let e : 0 ≡ 0 - suc j = omega arith in ap (count_from (a + suc j)) e
drop-counted (suc j) a (suc n) =
    let e : a + 1 + j ≡ a + suc j = omega arith in
    let f : n - j ≡ suc n - suc j = omega arith in
    drop-counted j (a + 1) n ∙ ap (λ (b : ℕ). count_from b (n - j)) e ∙ ap (count_from (a + suc j)) f

length-counted : (a n : ℕ) → length (count_from a n) ≡ n
length-counted a zero = refl
length-counted a (suc n) = ap suc (length-counted (a + 1) n)

index-counted : (f : ℕ → Counted) (d : Counted) (a n i : ℕ) → i < n → slice_index_or (map f (count_from a n)) i d ≡ f (a + i)
index-counted f d a zero i lt = absurd (omega (arith, lt))
index-counted f d a (suc n) zero lt = let e : a ≡ a + 0 = omega arith in ap f e
index-counted f d a (suc n) (suc i) lt = let e : a + 1 + i ≡ a + suc i = omega arith in index-counted f d (a + 1) n i (omega (arith, lt)) ∙ ap f e

-- Where a minute has ended, another one begins.
pub turned-kept : (m owing : ℕ) (span : Span) → AreNumbered span.first span.seconds → span.first / 60 ≤ m → end_of span ≤ 60 * (m + 1) → turned (kept_at m owing span) ≡ kept_at (m + 1) owing span
turned-kept m owing span numbered from end =
    let c : ℕ → Counted = counted_of span.seconds in
    let lo : ℕ = oldest span m in
    let n : ℕ = m - lo in
    let seam : lo + n ≡ m = omega (arith, from) in
    let all : map c (count_from lo n) ++ c m ∷ [] ≡ map c (count_from lo (suc n)) = sym (ap (map c) (count_from-more lo n ∙ ap (λ (k : ℕ). count_from lo n ++ k ∷ []) seam) ∙ map-append c (count_from lo n) (m ∷ [])) in
    let long : length (map c (count_from lo (suc n))) - 5 ≡ suc n - 5 = ap (λ (k : ℕ). k - 5) (length-map (count_from lo (suc n)) c ∙ length-counted lo (suc n)) in
    let start : lo + (suc n - 5) ≡ oldest span (m + 1) = omega (arith, from) in
    let many : suc n - (suc n - 5) ≡ m + 1 - oldest span (m + 1) = omega (arith, from) in
    same_kept span.rule owing _ _ _ _ _ _ _ _ _ _ refl
    (ap (last_of 5) all ∙ ap (λ (k : ℕ). drop k (map c (count_from lo (suc n)))) long ∙ drop-map c (suc n - 5) (count_from lo (suc n)) ∙ ap (map c) (drop-counted (suc n - 5) lo (suc n) ∙ ap (λ (a : ℕ). count_from a (suc n - (suc n - 5))) start ∙ ap (count_from (oldest span (m + 1))) many))
    (sym (fresh m span.first span.seconds numbered end))
    refl refl

-- what is counted of a minute before
back-kept : (m owing : ℕ) (span : Span) (back : ℕ) → 0 < back → back ≤ m - oldest span m → minute_back (kept_at m owing span) back ≡ counted_of span.seconds (m - back)
back-kept m owing span back some le =
    let c : ℕ → Counted = counted_of span.seconds in
    let lo : ℕ = oldest span m in
    let past : List Counted = map c (count_from lo (m - lo)) in
    let long : length past ≡ m - lo = length-map (count_from lo (m - lo)) c ∙ length-counted lo (m - lo) in
    let inside : nat_le back (length past) ≡ true = le-leb back (length past) (omega (arith, le, long)) in
    let at : length past - back ≡ m - lo - back = ap (λ (k : ℕ). k - back) long in
    let lt : m - lo - back < m - lo = omega (arith, some, le) in
    let number : lo + (m - lo - back) ≡ m - back = omega (arith, le, some) in
    rw (ne_eqb back 0 (λ z. omega (arith, z, some)), inside) (ap (λ (i : ℕ). slice_index_or past i no_second) at ∙ index-counted c no_second lo (m - lo) (m - lo - back) lt ∙ ap c number)

back-none : (m owing : ℕ) (span : Span) (back : ℕ) → m - oldest span m < back → minute_back (kept_at m owing span) back ≡ no_second
back-none m owing span back gt =
    let c : ℕ → Counted = counted_of span.seconds in
    let lo : ℕ = oldest span m in
    let past : List Counted = map c (count_from lo (m - lo)) in
    let long : length past ≡ m - lo = length-map (count_from lo (m - lo)) c ∙ length-counted lo (m - lo) in
    let outside : nat_le back (length past) ≡ false = lt-leb back (length past) (omega (arith, gt, long)) in
    rw (ne_eqb back 0 (λ z. omega (arith, z, gt)), outside) refl

-- the driver's longest activity of a minute
longest-counted : (n : ℕ) (xs : List Second) (k : ℕ) → AreNumbered n xs → drivers_longest (counted_of xs k) ≡ longest (map (driver_at xs) (in_minute k xs))
longest-counted n xs k numbered =
    let d = driver_at xs in
    let f : List Second = in_minute k (fixed_of xs) in
    let o : List Second = in_minute k (open_of xs) in
    let work : Constant d Work (open_of xs) = by_test (waits xs) (λ yes. rw (open-all xs yes) (open-work n xs numbered yes)) (λ no. rw (open-none xs no) tt) in
    let now : map d o ≡ replicate (length o) Work = map-constant d Work o (all-filtered (λ (s : Second). d s ≡ Work) (λ (s : Second). nat_eq (minute_of s) k) (open_of xs) work) in
    sym (ap (λ (ys : List Second). longest (map d ys)) (ap (in_minute k) (parts xs) ∙ minute-parts k (fixed_of xs) (open_of xs))
    ∙ ap longest (map-append d f o ∙ ap (λ (acts : List Activity). map d f ++ acts) now)
    ∙ longest-tally (map d f ++ replicate (length o) Work)
    ∙ ap longest_in (tally-append no_run (map d f) (replicate (length o) Work) ∙ tally-replicate (tally_of (map d f)) Work (length o)))

-- two tests that say the same
filter-alike : (p q : Second → Bool) (xs : List Second) → ((s : Second) → p s ≡ q s) → filter p xs ≡ filter q xs
filter-alike p q [] h = refl
filter-alike p q (x ∷ xs) h =
    let rest = filter-alike p q xs h in
    by_test (q x)
    (λ yes. rw (h x, yes) (ap (λ (ys : List Second). x ∷ ys) rest))
    (λ no. rw (h x, no) rest)

-- what is counted of the minute before
record IsBefore (before : Counted) (xs : List Second) (k : ℕ) : Type 0 where
  drives : before.drives ≡ drives_before xs k
  longest_ : drivers_longest before ≡ longest (map (driver_at xs) (minute_before k xs))

is-before : (m owing : ℕ) (span : Span) (back k : ℕ) → AreNumbered span.first span.seconds → span.first / 60 ≤ k → k + back ≡ m → 0 < back → back ≤ 4 → IsBefore (minute_back (kept_at m owing span) (back + 1)) span.seconds k
is-before m owing span back k numbered from is some few =
    by_test (nat_le (back + 1) (m - oldest span m))
    (λ kept.
    let le = leb-true (back + 1) (m - oldest span m) kept in
    let number : m - (back + 1) ≡ k - 1 = omega (arith, is) in
    let positive : 0 < k = omega (arith, is, le) in
    let entry : minute_back (kept_at m owing span) (back + 1) ≡ counted_of span.seconds (k - 1) = back-kept m owing span (back + 1) (omega arith) le ∙ ap (counted_of span.seconds) number in
    let same : minute_before k span.seconds ≡ in_minute (k - 1) span.seconds = filter-alike (λ (s : Second). nat_eq (minute_of s + 1) k) (λ (s : Second). nat_eq (minute_of s) (k - 1)) span.seconds (λ s. alike (minute_of s) k positive) in
    record {
      drives = ap (λ (c : Counted). c.drives) entry ∙ ap (list_any is_moving) (sym same);
      longest_ = ap drivers_longest entry ∙ longest-counted span.first span.seconds (k - 1) numbered ∙ ap (λ (ys : List Second). longest (map (driver_at span.seconds) ys)) (sym same);
    })
    (λ gone.
    let gt = leb-false (back + 1) (m - oldest span m) gone in
    let first : span.first / 60 ≡ k = omega (arith, is, gt, from, few) in
    let entry : minute_back (kept_at m owing span) (back + 1) ≡ no_second = back-none m owing span (back + 1) gt in
    let none : minute_before k span.seconds ≡ [] = filter-no (λ (s : Second). nat_eq (minute_of s + 1) k) span.seconds (each-then (λ (s : Second). k ≤ minute_of s) (λ (s : Second). nat_eq (minute_of s + 1) k ≡ false) (λ s le. ne_eqb (minute_of s + 1) k (λ e. omega (arith, e, le))) span.seconds (minutes-from k span.first span.seconds numbered (omega (arith, first)))) in
    record {
      drives = ap (λ (c : Counted). c.drives) entry ∙ ap (list_any is_moving) (sym none);
      longest_ = ap drivers_longest entry ∙ ap (λ (ys : List Second). longest (map (driver_at span.seconds) ys)) (sym none);
    })
  where
    alike : (j k : ℕ) → 0 < k → nat_eq (j + 1) k ≡ nat_eq j (k - 1)
    alike j k some =
        by_test (nat_eq j (k - 1))
        (λ yes. let e = eqb-true j (k - 1) yes in eq-eqb (j + 1) k (omega (arith, e, some)) ∙ sym yes)
        (λ no. let ne = eqb-false j (k - 1) no in ne_eqb (j + 1) k (λ e. ne (omega (arith, e))) ∙ sym no)

-- The class of a minute that has ended.
pub class-kept : (m owing : ℕ) (span : Span) (back k : ℕ) → AreNumbered span.first span.seconds → end_of span / 60 ≡ m → span.first / 60 ≤ k → k + back ≡ m → 0 < back → back ≤ 4 → class_kept (kept_at m owing span) back ≡ class_of span.rule span.seconds k
class-kept m owing span back k numbered end from is some few =
    let kept : Kept = kept_at m owing span in
    let xs : List Second = span.seconds in
    let number : end_of span / 60 - back ≡ k = omega (arith, end, is) in
    let this : minute_back kept back ≡ counted_of xs k = back-kept m owing span back some (omega (arith, is, from, few)) ∙ (let e : m - back ≡ k = omega (arith, is) in ap (counted_of xs) e) in
    let after : minute_back kept (back - 1) ≡ counted_of xs (k + 1) = after-is (back - 1) (omega (arith, is, some)) (omega (arith, few)) in
    let before = is-before m owing span back k numbered from is some few in
    same_minute _ _ _ _ _ _ _ _ number
    (ap (λ (c : Counted). class_by span.rule (minute_back kept (back + 1)) c (minute_back kept (back - 1))) this ∙ ap (class_by span.rule (minute_back kept (back + 1)) (counted_of xs k)) after ∙ by_rule span.rule (minute_back kept (back + 1)) before)
    (ap (λ (c : Counted). longest_in c.codriver) this ∙ sym (longest-tally (map (codriver_at xs) (in_minute k xs))))
    (ap (λ (c : Counted). c.travelled) this)
  where
    same_minute : (a b : ℕ) (c d : Activity) (e f : Activity) (g h : ℕ) → a ≡ b → c ≡ d → e ≡ f → g ≡ h → ◌≡◌ {A = Minute} (record { minute = a; driver = c; codriver = e; travelled = g }) (record { minute = b; driver = d; codriver = f; travelled = h })
    same_minute a b c d e f g h p q r s = rw (p, q, r, s) refl

    after-is : (j : ℕ) → k + 1 + j ≡ m → j ≤ 3 → minute_back (kept_at m owing span) j ≡ counted_of span.seconds (k + 1)
    after-is zero e le = let f : m ≡ k + 1 = omega (arith, e) in ap (counted_of span.seconds) f
    after-is (suc j) e le = let f : m - suc j ≡ k + 1 = omega (arith, e) in back-kept m owing span (suc j) (omega arith) (omega (arith, e, from, le)) ∙ ap (counted_of span.seconds) f

    by_rule : (rule : Rule) (before : Counted) → IsBefore before span.seconds k → class_by rule before (counted_of span.seconds k) (counted_of span.seconds (k + 1)) ≡ driver_class rule span.seconds k
    by_rule Original before b = rw (b.drives, longest-counted span.first span.seconds k numbered) refl
    by_rule Amended before b = rw (b.longest_, longest-counted span.first span.seconds (k + 1) numbered, longest-counted span.first span.seconds k numbered) refl
