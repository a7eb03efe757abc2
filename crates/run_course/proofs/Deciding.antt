-- The deciding second of a minute, as one second more comes with a settling or without.
use Rattle.std.proofs.Common.{◌≡◌, ℕ, ◌+◌, ◌-◌, ◌*◌, ◌/◌, ◌<◌, ◌≤◌, Bool, true, false, cond, nat_eq, nat_lt, Option, Some, None, List, [], ◌∷◌, ◌++◌, refl, ap, sym, ◌∙◌, arith, append-nil}
use Rattle.std.specs.Prelude.{find, max, min}
use Rattle.std.proofs.lemmas.Bool.Decides.{nat_tests}
use Rattle.std.proofs.lemmas.Bool.{ltb-true, ltb-false}
use Rattle.activity_codec.proofs.ByTest.{by_test}
use Rattle.minute_model.specs.declared.Rule.{Rule}
use Rattle.minute_model.specs.declared.Rule.TheVariants.{Original, Amended}
use Rattle.minute_model.specs.Minute.{minutes_ahead, horizon_of}
use Rattle.minute_model.specs.Span.{latest}
use Rattle.minute_model.proofs.Counted.{next_settling, horizon-open, horizon-settled, no-settling}
use Rattle.history_model.specs.Completeness.{deciding_of}

-- the settlings with one at this second, where there is one
abbrev pub added : Bool → ℕ → List ℕ → List ℕ
added b n settlings = settlings ++ cond b (n ∷ []) []

find-first : (p : ℕ → Bool) (xs ys : List ℕ) (t : ℕ) → find p xs ≡ Some t → find p (xs ++ ys) ≡ Some t
find-first p [] ys t is = absurd (cc)
find-first p (x ∷ xs) ys t is = by_test (p x)
    (λ here. let e : Some x ≡ Some t = rw here at is in rw here e)
    (λ other. let e : find p xs ≡ Some t = rw other at is in rw other (find-first p xs ys t e))

find-last : (p : ℕ → Bool) (xs : List ℕ) (u : ℕ) → find p xs ≡ None → p u ≡ true → find p (xs ++ u ∷ []) ≡ Some u
find-last p [] u none is = rw is refl
find-last p (x ∷ xs) u none is = by_test (p x)
    (λ here. absurd (let e : Some x ≡ None = rw here at none in cc))
    (λ other. let e : find p xs ≡ None = rw other at none in rw other (find-last p xs u e is))

none-late : (m : ℕ) (settlings : List ℕ) → next_settling m settlings ≡ None → latest settlings / 60 ≤ m
none-late m [] is = omega arith
none-late m (u ∷ settlings) is = by_test (nat_lt m (u / 60))
    (λ here. absurd (let e : Some u ≡ None = rw here at is in cc))
    (λ other.
    let low : u / 60 ≤ m = ltb-false m (u / 60) other in
    let e : next_settling m settlings ≡ None = rw other at is in
    let rest = none-late m settlings e in omega (arith, low, rest))

latest-push : (settlings : List ℕ) (n : ℕ) → latest (settlings ++ n ∷ []) ≡ max (latest settlings) n
latest-push [] n = omega arith
latest-push (u ∷ settlings) n = let rest = latest-push settlings n in omega (arith, rest)

ahead-some : (rule : Rule) → 1 ≤ minutes_ahead rule
ahead-some Original = omega arith
ahead-some Amended = omega arith

-- by its horizon
abbrev by_horizon : Rule → ℕ → ℕ → ℕ
by_horizon rule m horizon = cond (nat_eq horizon (60 * (m + minutes_ahead rule + 1) - 1)) horizon (horizon + 1)

by-whole : (rule : Rule) (m n : ℕ) → 60 * (m + minutes_ahead rule) + 59 ≡ n → by_horizon rule m (60 * (m + minutes_ahead rule) + 59) ≡ n
by-whole rule m n is = rw (same (m + minutes_ahead rule)) is
  where
    same : (k : ℕ) → nat_eq (60 * k + 59) (60 * (k + 1) - 1) ≡ true
    same k = let e : 60 * k + 59 ≡ 60 * (k + 1) - 1 = omega arith in grind (arith, e, nat_tests)

by-settling : (rule : Rule) (m n : ℕ) → m < n / 60 → n / 60 ≤ m + minutes_ahead rule → by_horizon rule m (min (60 * (m + minutes_ahead rule) + 59) (n - 1)) ≡ n
by-settling rule m n lt le =
    ap (by_horizon rule m) (least (m + minutes_ahead rule) n le) ∙ rw (other (m + minutes_ahead rule) n lt le) (omega (arith, lt))
  where
    least : (k n : ℕ) → n / 60 ≤ k → min (60 * k + 59) (n - 1) ≡ n - 1
    least k n le = omega (arith, le)

    other : (k n : ℕ) → m < n / 60 → n / 60 ≤ k → nat_eq (n - 1) (60 * (k + 1) - 1) ≡ false
    other k n lt le = let ne : n - 1 < 60 * (k + 1) - 1 = omega (arith, lt, le) in grind (arith, ne, nat_tests)

-- a minute that is decided by this second has it for its deciding one
pub decides-now : (rule : Rule) (settlings : List ℕ) (b : Bool) (n m : ℕ) → latest settlings / 60 ≤ m → n / 60 - minutes_ahead rule ≤ m →
    m < max ((n + 1) / 60 - minutes_ahead rule) (latest (added b n settlings) / 60) → deciding_of rule (added b n settlings) m ≡ n
decides-now rule settlings false n m late ahead lt =
    let same : latest (settlings ++ []) ≡ latest settlings = ap latest (append-nil settlings) in
    ap (by_horizon rule m) (horizon-open rule (settlings ++ []) m (no-settling m (settlings ++ []) (omega (arith, same, late))))
    ∙ by-whole rule m n (omega (arith, same, late, ahead, lt))
decides-now rule settlings true n m late ahead lt = by_test (nat_lt m (n / 60))
    (λ over.
    let less : m < n / 60 = ltb-true m (n / 60) over in
    ap (by_horizon rule m) (horizon-settled rule (settlings ++ n ∷ []) m n (find-last (λ t. nat_lt m (t / 60)) settlings n (no-settling m settlings late) over))
    ∙ by-settling rule m n less (omega (arith, ahead)))
    (λ not_yet.
    let low : n / 60 ≤ m = ltb-false m (n / 60) not_yet in
    let most = latest-push settlings n in
    let some = ahead-some rule in
    absurd (omega (arith, low, most, some, late, lt)))

-- and one that was decided before keeps its own
pub decides-still : (rule : Rule) (settlings : List ℕ) (b : Bool) (n m : ℕ) → m < max (n / 60 - minutes_ahead rule) (latest settlings / 60) → deciding_of rule (added b n settlings) m ≡ deciding_of rule settlings m
decides-still rule settlings false n m lt = ap (λ (us : List ℕ). deciding_of rule us m) (append-nil settlings)
decides-still rule settlings true n m lt = ap (by_horizon rule m) (go (next_settling m settlings) refl)
  where
    go : (o : Option ℕ) → next_settling m settlings ≡ o → horizon_of rule (settlings ++ n ∷ []) m ≡ horizon_of rule settlings m
    go (Some t) is =
        horizon-settled rule (settlings ++ n ∷ []) m t (find-first (λ t. nat_lt m (t / 60)) settlings (n ∷ []) t is) ∙ sym (horizon-settled rule settlings m t is)
    go None is =
        let late = none-late m settlings is in
        let over : m + minutes_ahead rule < n / 60 = omega (arith, late, lt) in
        let test : nat_lt m (n / 60) ≡ true = yes_ m (n / 60) (omega (arith, over)) in
        horizon-settled rule (settlings ++ n ∷ []) m n (find-last (λ t. nat_lt m (t / 60)) settlings n is test)
        ∙ least (m + minutes_ahead rule) over
        ∙ sym (horizon-open rule settlings m is)
      where
        yes_ : (a c : ℕ) → a < c → nat_lt a c ≡ true
        yes_ a c lt = grind (arith, nat_tests)

        least : (k : ℕ) → k < n / 60 → min (60 * k + 59) (n - 1) ≡ 60 * k + 59
        least k lt = omega (arith, lt)
