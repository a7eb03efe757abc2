-- The counts are at most the number of the next second.
use Rattle.std.proofs.Common.{ℕ, suc, zero, ◌+◌, ◌-◌, ◌*◌, ◌<◌, ◌≤◌, List, [], ◌∷◌, ◌++◌, take, drop, arith}
use Rattle.std.specs.Prelude.{nat_lt, nat_le, ◌==◌, map, Option, Some, None}
use Rattle.std.specs.List.{AllByRecursion}
use Rattle.std.proofs.lemmas.Bool.{leb-false}
use Rattle.activity_codec.proofs.ByTest.{by_test}
use Rattle.activity_codec.specs.Activity.{same_activity}
use Rattle.activity_codec.specs.declared.values.Activity.{Activity}
use Rattle.activity_codec.specs.declared.values.Activity.TheVariants.{Available, Work, Driving}
use Rattle.minute_rules.specs.declared.counted.Counted.{Counted}
use Rattle.minute_rules.specs.declared.tally.Tally.{Tally}
use Rattle.minute_rules.specs.Tally.{with_run}
use Rattle.minute_rules.specs.Counted.{Fits, closed, with_codriver, moved, waited, past_waited}

pub with_run-going : (t : Tally) (act : Activity) (n : ℕ) → (with_run t act n).going_seconds ≤ t.going_seconds + n
with_run-going t act n =
    by_test (n == 0)
    (λ none. rw none (omega arith))
    (λ some. by_test (same_activity act t.going)
    (λ same. rw (some, same) (omega arith))
    (λ other. by_test (nat_lt t.going_seconds t.best_seconds)
    (λ shorter. rw (some, other, shorter) (omega arith))
    (λ longer. rw (some, other, longer) (omega arith))))

pub closed-fits : (next : ℕ) (act : Activity) (c : Counted) → Fits next c → Fits next (closed act c)
closed-fits next act c h = record {
  driver = let le = with_run-going c.driver act c.open_seconds in omega (arith, le, h.driver);
  codriver = h.codriver;
  travelled = h.travelled;
}

pub all-closed : (next : ℕ) (act : Activity) (cs : List Counted) → AllByRecursion (Fits next) cs → AllByRecursion (Fits next) (map (closed act) cs)
all-closed next act [] h = tt
all-closed next act (c ∷ cs) h = (closed-fits next act c h.0, all-closed next act cs h.1)

pub fits-later : (next later : ℕ) (c : Counted) → next ≤ later → Fits next c → Fits later c
fits-later next later c le h = record {
  driver = omega (arith, h.driver, le);
  codriver = omega (arith, h.codriver, le);
  travelled = omega (arith, h.travelled, le);
}

pub all-later : (next later : ℕ) (cs : List Counted) → next ≤ later → AllByRecursion (Fits next) cs → AllByRecursion (Fits later) cs
all-later next later [] le h = tt
all-later next later (c ∷ cs) le h = (fits-later next later c le h.0, all-later next later cs le h.1)

pub all-waited : (next n : ℕ) (w : Option ℕ) (cs : List Counted) → AllByRecursion (Fits next) cs → AllByRecursion (Fits (next + n)) (past_waited w n cs)
all-waited next n None cs h = all-later next (next + n) cs (omega arith) h
all-waited next n (Some count) cs h =
    by_test (nat_le n (120 - count))
    (λ waits. rw waits (all-later next (next + n) cs (omega arith) h))
    (λ ends. rw ends (all-closed (next + n) Work cs (all-later next (next + n) cs (omega arith) h)))

pub waited-fits : (next n : ℕ) (w : Option ℕ) (act codriver : Activity) (c : Counted) → Fits next c → Fits (next + n) (with_codriver codriver n (waited w act n c))
waited-fits next n None act codriver c h =
    let d = with_run-going c.driver act n in
    let k = with_run-going c.codriver codriver n in
    record { driver = omega (arith, d, h.driver); codriver = omega (arith, k, h.codriver); travelled = omega (arith, h.travelled) }
waited-fits next n (Some count) act codriver c h =
    let k = with_run-going c.codriver codriver n in
    by_test (nat_le n (120 - count))
    (λ waits. rw waits (record { driver = omega (arith, h.driver); codriver = omega (arith, k, h.codriver); travelled = omega (arith, h.travelled) }))
    (λ ends.
    let more : 120 - count < n = leb-false n (120 - count) ends in
    let d = with_run-going c.driver Work (c.open_seconds + (120 - count)) in
    let e = with_run-going (with_run c.driver Work (c.open_seconds + (120 - count))) act (n - (120 - count)) in
    rw ends (record { driver = omega (arith, d, e, more, h.driver); codriver = omega (arith, k, h.codriver); travelled = omega (arith, h.travelled) }))

pub times-most : (n speed : ℕ) → speed ≤ 255 → n * speed ≤ 255 * n
times-most zero speed le = omega arith
times-most (suc n) speed le = let rest = times-most n speed le in omega (arith, rest, le)

pub moved-fits : (next n speed : ℕ) (c : Counted) → speed ≤ 255 → Fits next c → Fits (next + n) (moved n speed c)
moved-fits next n speed c le h =
    let e = with_run-going c.driver Driving n in
    let k = with_run-going c.codriver Available n in
    let t = times-most n speed le in
    record { driver = omega (arith, e, h.driver); codriver = omega (arith, k, h.codriver); travelled = omega (arith, t, h.travelled) }

pub all-taken : {X : Type 0} (P : X → Type 0) (n : ℕ) (xs : List X) → AllByRecursion P xs → AllByRecursion P (take n xs)
all-taken P zero xs h = tt
all-taken P (suc n) [] h = tt
all-taken P (suc n) (x ∷ xs) h = (h.0, all-taken P n xs h.1)

pub all-dropped : {X : Type 0} (P : X → Type 0) (n : ℕ) (xs : List X) → AllByRecursion P xs → AllByRecursion P (drop n xs)
all-dropped P zero xs h = h
all-dropped P (suc n) [] h = tt
all-dropped P (suc n) (x ∷ xs) h = all-dropped P n xs h.1

-- the counted minute at an index, behind some others
pub all-at : (next : ℕ) (front back : List Counted) (c : Counted) → AllByRecursion (Fits next) (front ++ c ∷ back) → Fits next c
all-at next [] back c h = h.0
all-at next (f ∷ front) back c h = all-at next front back c h.1
