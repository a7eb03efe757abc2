-- A whole minute at one speed does later what it does now, and so many minutes that go on alike are one step.
use Rattle.std.proofs.Common.{◌≡◌, ◌∙◌, ℕ, suc, zero, ◌+◌, ◌-◌, ◌*◌, ◌/◌, ◌%◌, ◌<◌, ◌≤◌, Bool, true, cond, ◌&&◌, List, [], ◌∷◌, ◌++◌, length, drop, get_or, refl, ap, sym, subst, arith, append_assoc, append-nil}
use Rattle.std.specs.Prelude.{nat_le, nat_lt, ◌==◌, map, slice_index_or, Option, Some, None}
use Rattle.std.specs.List.{AllByRecursion}
use Rattle.std.proofs.lemmas.Bool.{eqb-false, le-leb}
use Rattle.std.proofs.lemmas.List.{map-append, length-map, drop-map}
use Rattle.activity_codec.proofs.ByTest.{by_test}
use Rattle.activity_codec.specs.Activity.{activity_of}
use Rattle.activity_codec.specs.declared.values.Activity.{Activity}
use Rattle.activity_codec.specs.declared.values.Activity.TheVariants.{Work}
use Rattle.activity_codec.specs.declared.values.Pick.{Pick}
use Rattle.minute_model.specs.declared.Minute.{Minute}
use Rattle.minute_model.specs.declared.Rule.{Rule}
use Rattle.minute_model.specs.declared.Rule.TheVariants.{Original, Amended}
use Rattle.minute_model.specs.Minute.{minutes_ahead}
use Rattle.minute_model.specs.Span.{Span, end_of, fed_many, decided_in, ungiven_of}
use Rattle.minute_model.proofs.Counted.{ahead-most}
use Rattle.minute_model.proofs.Spans.{fed_many-parts}
use Rattle.minute_rules.specs.declared.counted.Counted.{Counted}
use Rattle.minute_rules.specs.declared.minutes.Moment.{Moment}
use Rattle.minute_rules.specs.Counted.{Fits, no_second, closed, with_codriver, moved, waited, past_waited, class_by}
use Rattle.minute_rules.specs.Tally.{longest_in}
use Rattle.minute_rules.specs.Kept.{Kept, CountsSpan, ended, slots_heard, heard, passed, driven, run, last_of, turned, minute_back, class_kept, with_owing, decided_now, minute_ended}
use Rattle.minute_rules.specs.Alike.{moment_of, further, later_by, later, minute_by, minute_later, repeated}
use Rattle.minute_rules.proofs.Giving.{fed-stands, fed-given}
use Rattle.minute_rules.proofs.Iterated.{same_counted, same_kept, times-both, run-still, run-moving}

-- 1. WHAT IS COUNTED, SO MUCH FURTHER ON

all-further : (act : Activity) (d : ℕ) (cs : List Counted) → map (closed act) (map (further d) cs) ≡ map (further d) (map (closed act) cs)
all-further act d [] = refl
all-further act d (c ∷ cs) = ap (λ (ds : List Counted). further d (closed act c) ∷ ds) (all-further act d cs)

past-further : (w : Option ℕ) (n d : ℕ) (cs : List Counted) → past_waited w n (map (further d) cs) ≡ map (further d) (past_waited w n cs)
past-further None n d cs = refl
past-further (Some count) n d cs =
    by_test (nat_le n (120 - count))
    (λ waits. rw waits refl)
    (λ ends. rw ends (all-further Work d cs))

waited-further : (w : Option ℕ) (act : Activity) (n d : ℕ) (c : Counted) → waited w act n (further d c) ≡ further d (waited w act n c)
waited-further None act n d c = refl
waited-further (Some count) act n d c =
    by_test (nat_le n (120 - count))
    (λ waits. rw waits refl)
    (λ ends. rw ends refl)

moved-further : (n speed d : ℕ) (c : Counted) → moved n speed (further d c) ≡ further d (moved n speed c)
moved-further n speed d c =
    let t : c.travelled + d + n * speed ≡ c.travelled + n * speed + d = omega arith in
    same_counted _ _ _ _ true _ _ _ _ refl refl refl t

index-further : (d : ℕ) (cs : List Counted) (i : ℕ) → i < length cs → slice_index_or (map (further d) cs) i no_second ≡ further d (slice_index_or cs i no_second)
index-further d [] i lt = absurd (omega (arith, lt))
index-further d (c ∷ cs) zero lt = refl
index-further d (c ∷ cs) (suc i) lt = index-further d cs i (omega (arith, lt))

further-none : (cs : List Counted) → map (further 0) cs ≡ cs
further-none [] = refl
further-none (c ∷ cs) =
    let t : c.travelled + 0 ≡ c.travelled = omega arith in
    ap (λ (k : ℕ). record c { travelled = k } ∷ map (further 0) cs) t ∙ ap (λ (ds : List Counted). c ∷ ds) (further-none cs)

further-twice : (d e : ℕ) (cs : List Counted) → map (further e) (map (further d) cs) ≡ map (further (d + e)) cs
further-twice d e [] = refl
further-twice d e (c ∷ cs) =
    let t : c.travelled + d + e ≡ c.travelled + (d + e) = omega arith in
    ap (λ (k : ℕ). record c { travelled = k } ∷ map (further e) (map (further d) cs)) t ∙ ap (λ (ds : List Counted). further (d + e) c ∷ ds) (further-twice d e cs)

-- the travelled sum is at most 255 for each second
pub further-fits : (next minutes d : ℕ) (c : Counted) → d ≤ 255 * (60 * minutes) → Fits next c → Fits (next + 60 * minutes) (further d c)
further-fits next minutes d c le h = record {
  driver = omega (arith, h.driver);
  codriver = omega (arith, h.codriver);
  travelled = omega (arith, h.travelled, le);
}

-- and it has room for them
pub further-room : (next minutes d : ℕ) (c : Counted) → next + 60 * minutes ≤ 4294967295 → d ≤ 255 * (60 * minutes) → Fits next c → c.travelled + d < 18446744073709551616
further-room next minutes d c limit le h = omega (arith, limit, le, h.travelled)

pub all-further-fits : (next minutes d : ℕ) (cs : List Counted) → d ≤ 255 * (60 * minutes) → AllByRecursion (Fits next) cs → AllByRecursion (Fits (next + 60 * minutes)) (map (further d) cs)
all-further-fits next minutes d [] le h = tt
all-further-fits next minutes d (c ∷ cs) le h = (further-fits next minutes d c le h.0, all-further-fits next minutes d cs le h.1)

-- one of the minutes that fit
pub fits-at : (next : ℕ) (cs : List Counted) (i : ℕ) (c : Counted) → AllByRecursion (Fits next) cs → i < length cs → Fits next (get_or cs i c)
fits-at next [] i c all lt = absurd (omega (arith, lt))
fits-at next (d ∷ cs) zero c all lt = all.0
fits-at next (d ∷ cs) (suc i) c all lt = fits-at next cs i c all.1 (omega (arith, lt))

-- 2. A WHOLE MINUTE LATER

ended-later : (w : Option ℕ) (early : Option Pick) (m d : ℕ) (k : Kept) → ended w early (later_by m d k) ≡ later_by m d (ended w early k)
ended-later None early m d k = refl
ended-later (Some count) None m d k = refl
ended-later (Some count) (Some pick) m d k = same_kept k.rule k.owing _ _ _ _ _ _ _ _ _ _ refl (all-further (activity_of pick) d k.past) refl refl refl

ended-next : (w : Option ℕ) (early : Option Pick) (k : Kept) → (ended w early k).next ≡ k.next
ended-next None early k = refl
ended-next (Some count) None k = refl
ended-next (Some count) (Some pick) k = refl

passed-later : (n m d : ℕ) (k : Kept) → passed n (later_by m d k) ≡ later_by m d (passed n k)
passed-later n m d k =
    let e : k.next + 60 * m + n ≡ k.next + n + 60 * m = omega arith in
    same_kept k.rule k.owing _ _ _ _ _ _ _ _ _ _ e
    (past-further k.driver.waiting n d k.past)
    (ap (with_codriver (activity_of k.codriver.current) n) (waited-further k.driver.waiting (activity_of k.driver.current) n d k.here))
    refl refl

driven-later : (n speed m d : ℕ) (k : Kept) → driven n speed (later_by m d k) ≡ later_by m d (driven n speed k)
driven-later n speed m d k =
    let e : k.next + 60 * m + n ≡ k.next + n + 60 * m = omega arith in
    same_kept k.rule k.owing _ _ _ _ _ _ _ _ _ _ e (all-further Work d k.past) (moved-further n speed d (closed Work k.here)) refl refl

run-later : (n speed m d : ℕ) (k : Kept) → run n speed (later_by m d k) ≡ later_by m d (run n speed k)
run-later n speed m d k =
    by_test (speed == 0)
    (λ still.
    run-still n speed (later_by m d k) still
    ∙ ap (λ (j : Kept). passed n (slots_heard j)) (ended-later k.driver.waiting k.driver.early m d k)
    ∙ passed-later n m d (heard k)
    ∙ ap (later_by m d) (sym (run-still n speed k still)))
    (λ moving.
    run-moving n speed (later_by m d k) moving
    ∙ driven-later n speed m d k
    ∙ ap (later_by m d) (sym (run-moving n speed k moving)))

pub run-next : (n speed : ℕ) (k : Kept) → (run n speed k).next ≡ k.next + n
run-next n speed k =
    by_test (speed == 0)
    (λ still. ap (λ (j : Kept). j.next) (run-still n speed k still) ∙ ap (λ (e : ℕ). e + n) (ended-next k.driver.waiting k.driver.early k))
    (λ moving. ap (λ (j : Kept). j.next) (run-moving n speed k moving))

run-owing : (n speed : ℕ) (k : Kept) → (run n speed k).owing ≡ k.owing
run-owing n speed k =
    by_test (speed == 0)
    (λ still. ap (λ (j : Kept). j.owing) (run-still n speed k still) ∙ ended-owing k.driver.waiting k.driver.early)
    (λ moving. ap (λ (j : Kept). j.owing) (run-moving n speed k moving))
  where
    ended-owing : (w : Option ℕ) (early : Option Pick) → (ended w early k).owing ≡ k.owing
    ended-owing None early = refl
    ended-owing (Some count) None = refl
    ended-owing (Some count) (Some pick) = refl

turned-later : (m d : ℕ) (k : Kept) → turned (later_by m d k) ≡ later_by m d (turned k)
turned-later m d k =
    let f : Counted → Counted = further d in
    let all : List Counted = k.past ++ k.here ∷ [] in
    same_kept k.rule k.owing _ _ _ _ _ _ _ _ _ _ refl
    (ap (last_of 5) (sym (map-append f k.past (k.here ∷ []))) ∙ ap (λ (n : ℕ). drop (n - 5) (map f all)) (length-map all f) ∙ drop-map f (length all - 5) all)
    refl refl refl

whole-later : (m : ℕ) (k : Kept) → (k.next + 60 * m) % 60 ≡ k.next % 60
whole-later m k = omega arith

minute_ended-later : (m d : ℕ) (k : Kept) → minute_ended (later_by m d k) ≡ later_by m d (minute_ended k)
minute_ended-later m d k =
    let o : ℕ = cond (nat_lt (minutes_ahead k.rule) (k.owing + 1)) k.owing (k.owing + 1) in
    let pick : Kept → Kept → ℕ → Kept = λ t j e. cond (e == 0) (with_owing o t) j in
    ap (pick (turned (later_by m d k)) (later_by m d k)) (whole-later m k)
    ∙ by_test (k.next % 60 == 0)
    (λ whole.
    ap (λ (b : Bool). cond b (with_owing o (turned (later_by m d k))) (later_by m d k)) whole
    ∙ ap (with_owing o) (turned-later m d k)
    ∙ sym (ap (λ (b : Bool). later_by m d (cond b (with_owing o (turned k)) k)) whole))
    (λ broken.
    ap (λ (b : Bool). cond b (with_owing o (turned (later_by m d k))) (later_by m d k)) broken
    ∙ sym (ap (λ (b : Bool). later_by m d (cond b (with_owing o (turned k)) k)) broken))

-- 3. THE MINUTE THAT IT DECIDES

back-later : (m d : ℕ) (k : Kept) (back : ℕ) → back ≤ length k.past → minute_back (later_by m d k) back ≡ further d (minute_back k back)
back-later m d k back le =
    let f : Counted → Counted = further d in
    by_test (back == 0)
    (λ none. rw none refl)
    (λ some.
    let ne = eqb-false back 0 some in
    let long : length (map f k.past) ≡ length k.past = length-map k.past f in
    let lt : length k.past - back < length k.past = omega (arith, le, ne) in
    let inside : nat_le back (length k.past) ≡ true = le-leb back (length k.past) le in
    let inside' : nat_le back (length (map f k.past)) ≡ true = ap (nat_le back) long ∙ inside in
    rw (some, inside', inside) (ap (λ (n : ℕ). slice_index_or (map f k.past) (n - back) no_second) long ∙ index-further d k.past (length k.past - back) lt))

class-further : (rule : Rule) (d : ℕ) (before this after : Counted) → class_by rule (further d before) (further d this) (further d after) ≡ class_by rule before this after
class-further Original d before this after = refl
class-further Amended d before this after = refl

same_minute : (a b : ℕ) (c d : Activity) (e f : Activity) (g h : ℕ) → a ≡ b → c ≡ d → e ≡ f → g ≡ h → ◌≡◌ {A = Minute} (record { minute = a; driver = c; codriver = e; travelled = g }) (record { minute = b; driver = d; codriver = f; travelled = h })
same_minute a b c d e f g h p q r s = rw (p, q, r, s) refl

class-later : (m d : ℕ) (k : Kept) (back : ℕ) → back + 1 ≤ length k.past → back ≤ k.next / 60 → class_kept (later_by m d k) back ≡ minute_by m d (class_kept k back)
class-later m d k back inside le =
    let number : (k.next + 60 * m) / 60 - back ≡ k.next / 60 - back + m = omega (arith, le) in
    let before = back-later m d k (back + 1) inside in
    let this = back-later m d k back (omega (arith, inside)) in
    let after = back-later m d k (back - 1) (omega (arith, inside)) in
    same_minute _ _ _ _ _ _ _ _ number
    (ap (λ (c : Counted). class_by k.rule c (minute_back (later_by m d k) back) (minute_back (later_by m d k) (back - 1))) before
    ∙ ap (λ (c : Counted). class_by k.rule (further d (minute_back k (back + 1))) c (minute_back (later_by m d k) (back - 1))) this
    ∙ ap (class_by k.rule (further d (minute_back k (back + 1))) (further d (minute_back k back))) after
    ∙ class-further k.rule d (minute_back k (back + 1)) (minute_back k back) (minute_back k (back - 1)))
    (ap (λ (c : Counted). longest_in c.codriver) this)
    (ap (λ (c : Counted). c.travelled) this)

decided-later : (m d : ℕ) (k : Kept) → length (turned k).past ≡ 5 → k.owing ≤ 3 → k.owing + 1 ≤ k.next / 60 → decided_now (later_by m d k) ≡ map (minute_by m d) (decided_now k)
decided-later m d k long few begun =
    let more : Bool = nat_lt (minutes_ahead k.rule) (k.owing + 1) in
    let said : Minute = class_kept (turned k) (k.owing + 1) in
    let then : Minute = class_kept (turned (later_by m d k)) (k.owing + 1) in
    ap (λ (e : ℕ). cond (e == 0 && more) (then ∷ []) []) (whole-later m k)
    ∙ by_test (k.next % 60 == 0 && more)
    (λ now.
    ap (λ (b : Bool). cond b (then ∷ []) []) now
    ∙ ap (λ (t : Kept). class_kept t (k.owing + 1) ∷ []) (turned-later m d k)
    ∙ ap (λ (c : Minute). c ∷ []) (class-later m d (turned k) (k.owing + 1) (omega (arith, long, few)) begun)
    ∙ sym (ap (λ (b : Bool). map (minute_by m d) (cond b (said ∷ []) [])) now))
    (λ none.
    ap (λ (b : Bool). cond b (then ∷ []) []) none
    ∙ sym (ap (λ (b : Bool). map (minute_by m d) (cond b (said ∷ []) [])) none))

-- no minute that is decided is later than the next second's
pub decided-late : (k : Kept) (times : ℕ) → k.next / 60 + times ≤ 4294967295 → AllByRecursion (λ (m : Minute). m.minute + times ≤ 4294967295) (decided_now k)
decided-late k times le =
    by_test (k.next % 60 == 0 && nat_lt (minutes_ahead k.rule) (k.owing + 1))
    (λ now. rw now (omega (arith, le), tt))
    (λ none. rw none tt)

-- 4. MINUTES THAT GO ON ALIKE

-- A whole minute at this speed does nothing but that it is a minute later: a minute begins, and all minutes are kept that may bear on one.
pub record GoesOn (speed : ℕ) (k : Kept) : Type 0 where
  pub alike : minute_ended (run 60 speed k) ≡ later 1 speed k
  pub full : length k.past ≡ 5
  pub begins : k.next % 60 ≡ 0

later-none : (speed : ℕ) (k : Kept) → later 0 speed k ≡ k
later-none speed k =
    let none : 60 * 0 * speed ≡ 0 = omega arith in
    let e : k.next + 60 * 0 ≡ k.next = omega arith in
    let t : k.here.travelled + 0 ≡ k.here.travelled = omega arith in
    ap (λ (d : ℕ). later_by 0 d k) none
    ∙ same_kept k.rule k.owing _ _ _ _ _ _ _ _ _ _ e (further-none k.past) (ap (λ (n : ℕ). record k.here { travelled = n }) t) refl refl

-- so many minutes later, and one more
pub later-more : (n speed : ℕ) (k : Kept) → later n speed (later 1 speed k) ≡ later (suc n) speed k
later-more n speed k =
    let d : ℕ = 60 * 1 * speed in
    let f : ℕ = 60 * n * speed in
    let e : k.next + 60 * 1 + 60 * n ≡ k.next + 60 * suc n = omega arith in
    let all : 60 * 1 + 60 * n ≡ 60 * suc n = omega arith in
    let sum : d + f ≡ 60 * suc n * speed = times-both (60 * 1) (60 * n) speed ∙ ap (λ (a : ℕ). a * speed) all in
    let t : k.here.travelled + d + f ≡ k.here.travelled + 60 * suc n * speed = omega (arith, sum) in
    same_kept k.rule k.owing _ _ _ _ _ _ _ _ _ _ e
    (further-twice d f k.past ∙ ap (λ (g : ℕ). map (further g) k.past) sum)
    (ap (λ (g : ℕ). record k.here { travelled = g }) t)
    refl refl

-- a whole minute, from a later one on
minute-later : (n speed : ℕ) (k : Kept) → GoesOn speed k → minute_ended (run 60 speed (later n speed k)) ≡ later (suc n) speed k
minute-later n speed k goes =
    ap minute_ended (run-later 60 speed n (60 * n * speed) k)
    ∙ minute_ended-later n (60 * n * speed) (run 60 speed k)
    ∙ ap (later n speed) goes.alike
    ∙ later-more n speed k

-- the minutes kept stay as many as may be
turned-full : (speed : ℕ) (k : Kept) → GoesOn speed k → length (turned (run 60 speed k)).past ≡ 5
turned-full speed k goes =
    let j : Kept = run 60 speed k in
    let o : ℕ = cond (nat_lt (minutes_ahead j.rule) (j.owing + 1)) j.owing (j.owing + 1) in
    let even : j.next % 60 ≡ 0 = omega (arith, run-next 60 speed k, goes.begins) in
    let ends : minute_ended j ≡ with_owing o (turned j) = ap (λ (e : ℕ). cond (e == 0) (with_owing o (turned j)) j) even in
    ap (λ (i : Kept). length i.past) (sym ends ∙ goes.alike) ∙ length-map k.past (further (60 * 1 * speed)) ∙ goes.full

-- the minutes that stand for a span were not given, if they are more than may be undecided
pub owing-few : (span : Span) (k : Kept) → CountsSpan k span → (k.owing ≤ 3) × (k.owing ≤ k.next / 60)
owing-few span k h =
    let o : k.owing ≡ end_of span / 60 - ungiven_of span = ap (λ (j : Kept). j.owing) h.kept in
    let e : k.next ≡ end_of span = ap (λ (j : Kept). j.next) h.kept in
    (omega (arith, o, ahead-most span.rule), omega (arith, o, e))

said-later : (span : Span) (n speed : ℕ) (k : Kept) → GoesOn speed k → CountsSpan k span → decided_now (run 60 speed (later n speed k)) ≡ map (minute_later n speed) (decided_now (run 60 speed k))
said-later span n speed k goes h =
    let few = owing-few span k h in
    let owing = run-owing 60 speed k in
    let next = run-next 60 speed k in
    ap decided_now (run-later 60 speed n (60 * n * speed) k)
    ∙ decided-later n (60 * n * speed) (run 60 speed k) (turned-full speed k goes) (omega (arith, owing, few.0)) (omega (arith, owing, next, few.1))

-- So many minutes that go on alike.
pub many-stands : (span : Span) (n speed : ℕ) (k : Kept) → GoesOn speed k → CountsSpan k span → CountsSpan (later n speed k) (fed_many span speed (60 * n))
many-stands span zero speed k goes h = subst (λ (j : Kept). CountsSpan j span) (sym (later-none speed k)) h
many-stands span (suc n) speed k goes h =
    let before = many-stands span n speed k goes h in
    let e : 60 * n + 60 ≡ 60 * suc n = omega arith in
    let within : (k.next + 60 * n) % 60 + 60 ≤ 60 = omega (arith, goes.begins) in
    let stands = fed-stands (fed_many span speed (60 * n)) (later n speed k) speed 60 before within (omega arith) in
    subst (λ (j : Kept). CountsSpan j (fed_many span speed (60 * suc n))) (minute-later n speed k goes)
    (subst (CountsSpan (minute_ended (run 60 speed (later n speed k)))) (fed_many-parts span speed (60 * n) 60 ∙ ap (fed_many span speed) e) stands)

pub many-given : (span : Span) (n speed : ℕ) (k : Kept) → GoesOn speed k → CountsSpan k span → decided_in (fed_many span speed (60 * n)) ≡ decided_in span ++ repeated speed n (decided_now (run 60 speed k))
many-given span zero speed k goes h = sym (append-nil (decided_in span))
many-given span (suc n) speed k goes h =
    let said : List Minute = decided_now (run 60 speed k) in
    let e : 60 * n + 60 ≡ 60 * suc n = omega arith in
    let within : (k.next + 60 * n) % 60 + 60 ≤ 60 = omega (arith, goes.begins) in
    ap decided_in (sym (fed_many-parts span speed (60 * n) 60 ∙ ap (fed_many span speed) e))
    ∙ fed-given (fed_many span speed (60 * n)) (later n speed k) speed 60 (many-stands span n speed k goes h) within (omega arith)
    ∙ ap (λ (ms : List Minute). decided_in (fed_many span speed (60 * n)) ++ ms) (said-later span n speed k goes h)
    ∙ ap (λ (ms : List Minute). ms ++ map (minute_later n speed) said) (many-given span n speed k goes h)
    ∙ append_assoc (decided_in span) (repeated speed n said) (map (minute_later n speed) said)

-- what is kept, by its parts
pub same_by_parts : (one other : Kept) → moment_of one ≡ moment_of other → one.past ≡ other.past → one ≡ other
same_by_parts one other rest past =
    let by : Moment → List Counted → Kept = λ r ps. record { rule = r.rule; next = r.next; owing = r.owing; past = ps; here = r.here; driver = r.driver; codriver = r.codriver } in
    ap (λ (r : Moment). by r one.past) rest ∙ ap (by (moment_of other)) past

-- as they are known of a span that goes on
pub goes_on : (speed : ℕ) (k after : Kept) → k.next % 60 ≡ 0 → after ≡ minute_ended (run 60 speed k) → after ≡ later 1 speed k → length after.past ≡ 5 → GoesOn speed k
goes_on speed k after whole ran same full = record {
  alike = sym ran ∙ same;
  full = sym (length-map k.past (further (60 * 1 * speed))) ∙ ap (λ (j : Kept). length j.past) (sym same) ∙ full;
  begins = whole;
}

-- minutes that are given once
pub given-once : (speed : ℕ) (ms : List Minute) → repeated speed 1 ms ≡ ms
given-once speed [] = refl
given-once speed (m ∷ ms) =
    let n : m.minute + 0 ≡ m.minute = omega arith in
    let t : m.travelled + 60 * 0 * speed ≡ m.travelled = omega arith in
    ap (λ (first : Minute). first ∷ map (minute_later 0 speed) ms) (same_minute _ _ _ _ _ _ _ _ n refl refl t)
    ∙ ap (λ (rest : List Minute). m ∷ rest) (given-once speed ms)
