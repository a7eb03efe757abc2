-- So many seconds of one minute, one after another.
use Rattle.std.proofs.Common.{◌≡◌, ◌∙◌, ℕ, suc, zero, ◌+◌, ◌-◌, ◌*◌, ◌<◌, ◌≤◌, Bool, true, false, cond, List, [], ◌∷◌, refl, ap, sym, arith}
use Rattle.std.specs.Prelude.{nat_le, ◌==◌, map, Option, Some, None}
use Rattle.std.proofs.lemmas.Bool.{leb-true, leb-false, le-leb, lt-leb}
use Rattle.activity_codec.proofs.ByTest.{by_test}
use Rattle.activity_codec.specs.Activity.{activity_of}
use Rattle.activity_codec.specs.declared.values.Activity.{Activity}
use Rattle.activity_codec.specs.declared.values.Activity.TheVariants.{Available, Work, Driving}
use Rattle.minute_model.specs.declared.Rule.{Rule}
use Rattle.minute_rules.specs.declared.counted.Counted.{Counted}
use Rattle.minute_rules.specs.declared.slots.CodriverSlot.{CodriverSlot}
use Rattle.minute_rules.specs.declared.slots.DriverSlot.{DriverSlot}
use Rattle.minute_rules.specs.declared.tally.Tally.{Tally}
use Rattle.minute_rules.specs.Tally.{with_run}
use Rattle.minute_rules.specs.Counted.{closed, with_codriver, waited, waits_on, past_waited}
use Rattle.minute_rules.specs.Kept.{Kept, waiting, ended, slots_heard, heard, passed, driven, run}
use Rattle.minute_rules.proofs.Tallies.{with_run-more}

-- the parts of a minute's counts
pub same_counted : (a b : Tally) (m n : ℕ) (d : Bool) (e f : Tally) (p q : ℕ) → a ≡ b → m ≡ n → e ≡ f → p ≡ q → ◌≡◌ {A = Counted} (record { driver = a; open_seconds = m; drives = d; codriver = e; travelled = p }) (record { driver = b; open_seconds = n; drives = d; codriver = f; travelled = q })
same_counted a b m n d e f p q h i j k = rw (h, i, j, k) refl

-- the parts of what is kept
pub same_kept : (r : Rule) (o : ℕ) (a b : ℕ) (c d : List Counted) (e f : Counted) (g h : DriverSlot) (i j : CodriverSlot) → a ≡ b → c ≡ d → e ≡ f → g ≡ h → i ≡ j → ◌≡◌ {A = Kept} (record { rule = r; next = a; owing = o; past = c; here = e; driver = g; codriver = i }) (record { rule = r; next = b; owing = o; past = d; here = f; driver = h; codriver = j })
same_kept r o a b c d e f g h i j p q r' s t = rw (p, q, r', s, t) refl

-- nothing more is open once it is closed
pub closed-twice : (act : Activity) (cs : List Counted) → map (closed act) (map (closed act) cs) ≡ map (closed act) cs
closed-twice act [] = refl
closed-twice act (c ∷ cs) = ap (λ (ds : List Counted). closed act c ∷ ds) (closed-twice act cs)

-- so many seconds at speed 0, and one more
pub waits_on-more : (w : Option ℕ) (n : ℕ) → waits_on (waits_on w n) 1 ≡ waits_on w (n + 1)
waits_on-more None n = refl
waits_on-more (Some count) n =
    by_test (nat_le n (120 - count))
    (λ near.
    let le = leb-true n (120 - count) near in
    by_test (nat_le (n + 1) (120 - count))
    (λ still.
    let more : 1 ≤ 120 - (count + n) = omega (arith, leb-true (n + 1) (120 - count) still) in
    let e : count + n + 1 ≡ count + (n + 1) = omega arith in
    rw (near, still) (rw (le-leb 1 (120 - (count + n)) more) (ap (λ (k : ℕ). Some k) e)))
    (λ over.
    let none : 120 - (count + n) < 1 = omega (arith, leb-false (n + 1) (120 - count) over, le) in
    rw (near, over) (rw (lt-leb 1 (120 - (count + n)) none) refl)))
    (λ far.
    let over : 120 - count < n + 1 = omega (arith, leb-false n (120 - count) far) in
    rw (far, lt-leb (n + 1) (120 - count) over) refl)

pub past_waited-more : (w : Option ℕ) (n : ℕ) (cs : List Counted) → past_waited (waits_on w n) 1 (past_waited w n cs) ≡ past_waited w (n + 1) cs
past_waited-more None n cs = refl
past_waited-more (Some count) n cs =
    by_test (nat_le n (120 - count))
    (λ near.
    let le = leb-true n (120 - count) near in
    by_test (nat_le (n + 1) (120 - count))
    (λ still.
    let more : 1 ≤ 120 - (count + n) = omega (arith, leb-true (n + 1) (120 - count) still) in
    rw (near, still) (rw (le-leb 1 (120 - (count + n)) more) refl))
    (λ over.
    let none : 120 - (count + n) < 1 = omega (arith, leb-false (n + 1) (120 - count) over, le) in
    rw (near, over) (rw (lt-leb 1 (120 - (count + n)) none) refl)))
    (λ far.
    let over : 120 - count < n + 1 = omega (arith, leb-false n (120 - count) far) in
    rw (far, lt-leb (n + 1) (120 - count) over) refl)

pub waited-more : (w : Option ℕ) (act codriver : Activity) (n : ℕ) (c : Counted) → with_codriver codriver 1 (waited (waits_on w n) act 1 (with_codriver codriver n (waited w act n c))) ≡ with_codriver codriver (n + 1) (waited w act (n + 1) c)
waited-more None act codriver n c = same_counted _ _ _ _ c.drives _ _ _ _ (with_run-more c.driver act n 1) refl (with_run-more c.codriver codriver n 1) refl
waited-more (Some count) act codriver n c =
    by_test (nat_le n (120 - count))
    (λ near.
    let le = leb-true n (120 - count) near in
    by_test (nat_le (n + 1) (120 - count))
    (λ still.
    let more : 1 ≤ 120 - (count + n) = omega (arith, leb-true (n + 1) (120 - count) still) in
    let e : c.open_seconds + n + 1 ≡ c.open_seconds + (n + 1) = omega arith in
    rw (near, still) (rw (le-leb 1 (120 - (count + n)) more) (same_counted _ _ _ _ c.drives _ _ _ _ refl e (with_run-more c.codriver codriver n 1) refl)))
    (λ over.
    let none : 120 - (count + n) < 1 = omega (arith, leb-false (n + 1) (120 - count) over, le) in
    let all : n ≡ 120 - count = omega (arith, leb-false (n + 1) (120 - count) over, le) in
    let z : 120 - (count + n) ≡ 0 = omega (arith, none) in
    let one : n + 1 - (120 - count) ≡ 1 = omega (arith, all) in
    let e : c.open_seconds + n + 0 ≡ c.open_seconds + (120 - count) = omega (arith, all) in
    rw (near, over) (rw (lt-leb 1 (120 - (count + n)) none) (rw (z, one) (same_counted _ _ _ _ c.drives _ _ _ _ (ap (λ (k : ℕ). with_run (with_run c.driver Work k) act 1) e) refl (with_run-more c.codriver codriver n 1) refl))))
    )
    (λ far.
    let more : 120 - count < n = leb-false n (120 - count) far in
    let over : 120 - count < n + 1 = omega (arith, more) in
    let e : n - (120 - count) + 1 ≡ n + 1 - (120 - count) = omega (arith, more) in
    rw (far, lt-leb (n + 1) (120 - count) over) (same_counted _ _ _ _ c.drives _ _ _ _ (with_run-more (with_run c.driver Work (c.open_seconds + (120 - count))) act (n - (120 - count)) 1 ∙ ap (with_run (with_run c.driver Work (c.open_seconds + (120 - count))) act) e) refl (with_run-more c.codriver codriver n 1) refl))

pub passed-more : (n : ℕ) (k : Kept) → passed 1 (passed n k) ≡ passed (n + 1) k
passed-more n k =
    let e : k.next + n + 1 ≡ k.next + (n + 1) = omega arith in
    same_kept k.rule k.owing _ _ _ _ _ _ _ _ _ _ e (past_waited-more k.driver.waiting n k.past) (waited-more k.driver.waiting (activity_of k.driver.current) (activity_of k.codriver.current) n k.here) (ap (λ (w : Option ℕ). waiting w k.driver) (waits_on-more k.driver.waiting n)) refl

-- nothing is selected any more
ended-none : (w : Option ℕ) (k : Kept) → ended w None k ≡ k
ended-none None k = refl
ended-none (Some count) k = refl

heard-passed : (n : ℕ) (k : Kept) → heard (passed n (heard k)) ≡ passed n (heard k)
heard-passed n k = ap slots_heard (ended-none (waits_on (heard k).driver.waiting n) (passed n (heard k)))

times-more : (n speed : ℕ) → n * speed + 1 * speed ≡ (n + 1) * speed
times-more zero speed = omega arith
times-more (suc n) speed = let rest = times-more n speed in grind (arith, rest)

-- so many of one, and so many more
pub times-both : (a b speed : ℕ) → a * speed + b * speed ≡ (a + b) * speed
times-both a zero speed = let e : a + 0 ≡ a = omega arith in (let z : a * speed + 0 * speed ≡ a * speed = omega arith in z) ∙ ap (λ (n : ℕ). n * speed) (sym e)
times-both a (suc b) speed =
    let rest = times-both a b speed in
    let one : b * speed + 1 * speed ≡ (b + 1) * speed = times-more b speed in
    let more : (a + b) * speed + 1 * speed ≡ (a + b + 1) * speed = times-more (a + b) speed in
    let e : b + 1 ≡ suc b = omega arith in
    let f : a + b + 1 ≡ a + suc b = omega arith in
    ap (λ (n : ℕ). a * speed + n * speed) (sym e) ∙ (let s : a * speed + (b + 1) * speed ≡ (a + b + 1) * speed = omega (arith, rest, one, more) in s) ∙ ap (λ (n : ℕ). n * speed) f

pub driven-more : (n speed : ℕ) (k : Kept) → driven 1 speed (driven n speed k) ≡ driven (n + 1) speed k
driven-more n speed k =
    let e : k.next + n + 1 ≡ k.next + (n + 1) = omega arith in
    let t : k.here.travelled + n * speed + 1 * speed ≡ k.here.travelled + (n + 1) * speed = omega (arith, times-more n speed) in
    same_kept k.rule k.owing _ _ _ _ _ _ _ _ _ _ e (closed-twice Work k.past) (same_counted _ _ _ _ true _ _ _ _ (with_run-more (with_run k.here.driver Work k.here.open_seconds) Driving n 1) refl (with_run-more k.here.codriver Available n 1) t) refl refl

pub run-still : (n speed : ℕ) (k : Kept) → (speed == 0) ≡ true → run n speed k ≡ passed n (heard k)
run-still n speed k still = ap (λ (b : Bool). cond b (passed n (heard k)) (driven n speed k)) still

pub run-moving : (n speed : ℕ) (k : Kept) → (speed == 0) ≡ false → run n speed k ≡ driven n speed k
run-moving n speed k moving = ap (λ (b : Bool). cond b (passed n (heard k)) (driven n speed k)) moving

-- so many seconds of one minute, and one more
pub run-more : (n speed : ℕ) (k : Kept) → run 1 speed (run n speed k) ≡ run (n + 1) speed k
run-more n speed k =
    by_test (speed == 0)
    (λ still. run-still 1 speed (run n speed k) still ∙ ap (λ (j : Kept). passed 1 (heard j)) (run-still n speed k still) ∙ ap (passed 1) (heard-passed n k) ∙ passed-more n (heard k) ∙ sym (run-still (n + 1) speed k still))
    (λ moving. run-moving 1 speed (run n speed k) moving ∙ ap (driven 1 speed) (run-moving n speed k moving) ∙ driven-more n speed k ∙ sym (run-moving (n + 1) speed k moving))
