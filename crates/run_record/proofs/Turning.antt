-- So many seconds of one minute are fed at once.
use Rattle.std.proofs.Common.{◌≡◌, ℕ, zero, suc, ◌+◌, ◌-◌, ◌/◌, ◌%◌, ◌<◌, ◌≤◌, max, true, false, Some, None, List, [], ◌∷◌, ◌++◌, length, map, refl, ap, sym, subst, ◌∙◌, arith, append_assoc, append-nil}
use Rattle.std.proofs.lemmas.List.{append_cancel_left}
use Rattle.run_devices.specs.trace_model.Trace.{TraceSecond, driven}
use Rattle.minute_rules.specs.minute_model.declared.Minute.{Minute}
use Rattle.minute_rules.specs.minute_model.Minute.{class_of, minutes_ahead}
use Rattle.minute_rules.specs.minute_model.Span.{Span, end_of, fed, fed_many, decided_in, ungiven_of, latest, count_from}
use Rattle.minute_rules.proofs.minute_model.Spans.{decided-fed_many, fed_many-end}
use Rattle.minute_rules.specs.Kept.{Kept, CountsSpan, run, decided_now, minute_ended}
use Rattle.minute_rules.proofs.Giving.{fed-stands, fed-given}
use Rattle.run_devices.specs.log_model.Log.{In, Keeping}
use Rattle.run_devices.specs.log_model.Course.{ToldSecond}
use Rattle.run_devices.proofs.history_model.Deciding.{counted}
use Rattle.run_devices.proofs.run_course.Steps.{lit-parts, span-end}
use Rattle.run_devices.specs.run_course.Kept.{settled_times}
use Rattle.run_devices.specs.run_unit_course.Followed.{Lit}
use Rattle.run_devices.specs.run_unit_course.Turn.{begins_with, span_at}
use Rattle.run_devices.specs.safety_model.Safe.{Devices}
use Rattle.run_devices.specs.run_course.Seconds.{next_told}
use Rattle.run_devices.specs.run_promise.Origin.{Origin, rule_of, start_at, first_of}
use Rattle.run_record.specs.Recorded.{Values}
use Rattle.run_record.specs.Within.{Beginning, RecordInSecond, SecondGoesOn, RecordedFrom, undecided_from, begun_behind, passed_values}
use Rattle.run_record.specs.Turning.{BehindFirst, last_of, before_last, IsTurned, ATurnIsFed, TheTurnEnds}
use Rattle.run_record.proofs.Beginning.{second-begins}
use Rattle.run_record.proofs.Feeding.{second-is_fed}
use Rattle.run_record.proofs.Ending.{second-over, from-is}

-- ---- the seconds

driven-last : (n number speed : ℕ) → driven (suc n) number speed [] ≡ driven n number speed [] ++ record { number = number + n; has_power = true; speed = speed; actions = [] } ∷ []
driven-last zero number speed = ap (λ (k : ℕ). record { number = k; has_power = true; speed = speed; actions = [] } ∷ []) (let e : number ≡ number + 0 = omega arith in e)
driven-last (suc n) number speed =
    ap (λ (ss : List TraceSecond). record { number = number; has_power = true; speed = speed; actions = [] } ∷ ss)
    (driven-last n (number + 1) speed ∙ ap (λ (k : ℕ). driven n (number + 1) speed [] ++ record { number = k; has_power = true; speed = speed; actions = [] } ∷ []) (let e : number + 1 + n ≡ number + suc n = omega arith in e))

-- the seconds up to the next one
up-to : (done : List TraceSecond) (s : TraceSecond) (n : ℕ) → (done ++ s ∷ driven n (s.number + 1) s.speed []) ++ last_of (suc n) s ∷ [] ≡ done ++ s ∷ driven (suc n) (s.number + 1) s.speed []
up-to done s n =
    append_assoc done (s ∷ driven n (s.number + 1) s.speed []) (last_of (suc n) s ∷ [])
    ∙ ap (λ (k : ℕ). done ++ s ∷ (driven n (s.number + 1) s.speed [] ++ record { number = k; has_power = true; speed = s.speed; actions = [] } ∷ [])) (let e : s.number + suc n ≡ s.number + 1 + n = omega arith in e)
    ∙ ap (λ (ss : List TraceSecond). done ++ s ∷ ss) (sym (driven-last n (s.number + 1) s.speed))

pub turn-ends : TheTurnEnds
turn-ends done s zero = refl
turn-ends done s (suc n) = up-to done s n

-- ---- the minutes

-- what is kept behind a second more
abbrev once : (speed : ℕ) → Kept → Kept
once speed k = minute_ended (run 1 speed k)

abbrev often : (speed : ℕ) → ℕ → Kept → Kept
often speed zero k = k
often speed (suc n) k = once speed (often speed n k)

-- within a minute one second decides nothing
still-decides : (k : Kept) (span : Span) (speed : ℕ) → CountsSpan k span → k.next % 60 + 1 < 60 → decided_in (fed span speed) ≡ decided_in span ++ []
still-decides k span speed h within =
    decided-fed_many span speed 1 h.numbered h.settled (omega arith)
    ∙ ap (λ (n : ℕ). decided_in span ++ map (class_of span.rule (fed span speed).seconds) (count_from (ungiven_of span) n)) none
  where
    ends : end_of span ≡ k.next
    ends = sym (ap (λ (x : Kept). x.next) h.kept)

    minute : end_of (fed span speed) / 60 ≡ end_of span / 60
    minute = let later = fed_many-end span speed 1 in let e = ends in omega (arith, later, e, within)

    same : ungiven_of (fed span speed) ≡ ungiven_of span
    same = ap (λ (e : ℕ). max (span.first / 60) (max (e - minutes_ahead span.rule) (latest span.settlings / 60))) minute

    itself : (n : ℕ) → n - n ≡ 0
    itself n = omega arith

    none : ungiven_of (fed span speed) - ungiven_of span ≡ 0
    none = ap (λ (u : ℕ). u - ungiven_of span) same ∙ itself (ungiven_of span)

-- the number of the next second
next-of : (k : Kept) (span : Span) (speed n : ℕ) → CountsSpan k span → CountsSpan (often speed n k) (fed_many span speed n) → (often speed n k).next ≡ k.next + n
next-of k span speed n h on = ap (λ (x : Kept). x.next) on.kept ∙ fed_many-end span speed n ∙ ap (λ (e : ℕ). e + n) (sym (ap (λ (x : Kept). x.next) h.kept))

often-stands : (k : Kept) (span : Span) (speed n : ℕ) → CountsSpan k span → k.next % 60 + n ≤ 60 → CountsSpan (often speed n k) (fed_many span speed n)
often-stands k span speed zero h within = h
often-stands k span speed (suc n) h within =
    let before = often-stands k span speed n h (omega (arith, within)) in
    let next = next-of k span speed n h before in
    fed-stands (fed_many span speed n) (often speed n k) speed 1 before (omega (arith, next, within)) (omega arith)

often-decides : (k : Kept) (span : Span) (speed n : ℕ) → CountsSpan k span → k.next % 60 + n < 60 → decided_in (fed_many span speed n) ≡ decided_in span
often-decides k span speed zero h within = refl
often-decides k span speed (suc n) h within =
    let before = often-stands k span speed n h (omega (arith, within)) in
    let next = next-of k span speed n h before in
    still-decides (often speed n k) (fed_many span speed n) speed before (omega (arith, next, within)) ∙ append-nil (decided_in (fed_many span speed n)) ∙ often-decides k span speed n h (omega (arith, within))

-- a list that has one more has a first one
record IsFirst (xs : List ToldSecond) : Type 0 where
  first : ToldSecond
  others : List ToldSecond
  are : xs ≡ first ∷ others

first-of : (xs : List ToldSecond) (t : ToldSecond) → IsFirst (xs ++ t ∷ [])
first-of [] t = record { first = t; others = []; are = refl }
first-of (x ∷ xs) t = record { first = x; others = xs ++ t ∷ []; are = refl }

module _ (o : Origin) (done : List TraceSecond) (s : TraceSecond) (v : Values) (d : Devices) (w : RecordInSecond o done s (In (length s.actions)) [] None [] v d) where
  abbrev gone : (next begun : ℕ) → Kept → Values
  gone next begun minutes = record v { minutes = minutes; next = next; begun = begun }

  number : s.number ≡ v.next
  number = w.moment.number ∙ sym w.next

  -- the number of the next second, as the rules of minutes have it
  end-settled : (k : ℕ) (x : Span) → end_of (settled_times k x) ≡ end_of x
  end-settled zero x = refl
  end-settled (suc k) x = end-settled k x

  begins-at : (span : List ToldSecond) → w.b.run.supply ≡ Lit span → end_of (span_at (rule_of o) w.b.run.next span) ≡ w.b.run.next
  begins-at [] lit = omega arith
  begins-at (t ∷ span) lit =
      let f = lit-parts (rule_of o) (start_at o) o.from (first_of o) done w.b.run w.began.followed (t ∷ span) lit w.began.waiting in
      let end = span-end w.b.run.log o.from done f.ended t span w.b.run.next f.order f.next f.power.running f.spans in
      let c = counted (t ∷ span) in
      omega (arith, end, c)

  ends-at : end_of w.sp ≡ w.b.run.next
  ends-at = ap end_of w.decided.span_is ∙ end-settled w.decided.times (span_at (rule_of o) w.b.run.next w.b.span) ∙ begins-at w.b.span w.lit

  minutes-next : v.minutes.next ≡ v.next
  minutes-next = ap (λ (x : Kept). x.next) w.minutes.kept ∙ ends-at ∙ sym w.next

  -- BEHIND THE SECOND and j more, all of one minute, of which none was the last
  record At (j : ℕ) : Type 0 where
    t : ToldSecond
    span : List ToldSecond
    next : ℕ
    begun : ℕ
    next_is : next ≡ v.next + suc j
    behind : RecordedFrom o (done ++ s ∷ driven j (s.number + 1) s.speed []) (Lit (t ∷ span)) (gone next begun (often s.speed (suc j) v.minutes)) d w.b.travel.before
    undecided : undecided_from o (t ∷ span) (gone next begun (often s.speed (suc j) v.minutes)) ≡ w.from

  -- a second that is over
  over : (before : List TraceSecond) (x : TraceSecond) (y : Values) → (g : RecordInSecond o before x Keeping [] (Some x.speed) [] y d) → (first : ℕ) → g.from ≡ first → (travel : List ℕ) → g.b.travel.before ≡ travel →
      (t : ToldSecond) × ((span : List ToldSecond) × (RecordedFrom o (before ++ x ∷ []) (Lit (t ∷ span)) (passed_values x y) d travel × (undecided_from o (t ∷ span) (passed_values x y) ≡ first)))
  over before x y g first from travel same =
      let f = first-of g.b.span (next_told y.log before x) in
      let all = second-over o before x y d g in (
        f.first,
        (
          f.others,
          (
            subst (λ (ts : List ToldSecond). RecordedFrom o (before ++ x ∷ []) (Lit ts) (passed_values x y) d travel) f.are (subst (λ (ks : List ℕ). RecordedFrom o (before ++ x ∷ []) (Lit (g.b.span ++ next_told y.log before x ∷ [])) (passed_values x y) d ks) same all),
            subst (λ (ts : List ToldSecond). undecided_from o ts (passed_values x y) ≡ first) f.are (sym (from-is o before x y d g) ∙ from),
          ),
        ),
      )

  -- the first is fed
  at-first : v.next % 60 + 1 < 60 → At 0
  at-first within =
      let e = minutes-next in
      let k : Kept = once s.speed v.minutes in
      let stands : CountsSpan k (fed w.sp s.speed) = fed-stands w.sp v.minutes s.speed 1 w.minutes (omega (arith, e, within)) (omega arith) in
      let g = second-is_fed o done s v d w k stands [] (still-decides v.minutes w.sp s.speed w.minutes (omega (arith, e, within))) in
      let r = over done s (record v { minutes = k }) g.within w.from g.from w.b.travel.before (ap (λ (b : Beginning). b.travel.before) g.began) in
      record {
        t = r.0;
        span = r.1.0;
        next = suc v.next;
        begun = length s.actions;
        next_is = omega arith;
        behind = r.1.1.0;
        undecided = r.1.1.1;
      }

  -- the next one begins
  next-begins : (j : ℕ) → v.next % 60 + suc (suc j) ≤ 60 → (a : At j) →
      SecondGoesOn o (done ++ s ∷ driven j (s.number + 1) s.speed []) (last_of (suc j) s) (In 0) [] None [] (gone a.next a.begun (often s.speed (suc j) v.minutes)) d
      (begun_behind o (done ++ s ∷ driven j (s.number + 1) s.speed []) (a.t ∷ a.span) (gone a.next a.begun (often s.speed (suc j) v.minutes)) d a.behind.recorded)
      (undecided_from o (a.t ∷ a.span) (gone a.next a.begun (often s.speed (suc j) v.minutes)))
  next-begins j within a =
      second-begins d o (done ++ s ∷ driven j (s.number + 1) s.speed []) (last_of (suc j) s) a.t a.span (gone a.next a.begun (often s.speed (suc j) v.minutes)) a.behind.recorded
      (let is = number in let next = a.next_is in omega (arith, is, next)) refl (let next = a.next_is in omega (arith, next, within))

  -- and is fed with these minutes, which it decides
  next-fed : (j : ℕ) (minutes : Kept) (rest : List Minute) → v.next % 60 + suc (suc j) ≤ 60 → (a : At j) → ((x : Span) → CountsSpan (often s.speed (suc j) v.minutes) x → CountsSpan minutes (fed x s.speed) × (decided_in (fed x s.speed) ≡ decided_in x ++ rest)) →
      SecondGoesOn o (done ++ s ∷ driven j (s.number + 1) s.speed []) (last_of (suc j) s) Keeping [] (Some s.speed) rest (gone a.next a.begun minutes) d
      (begun_behind o (done ++ s ∷ driven j (s.number + 1) s.speed []) (a.t ∷ a.span) (gone a.next a.begun (often s.speed (suc j) v.minutes)) d a.behind.recorded) w.from
  next-fed j minutes rest within a feeds =
      let b = next-begins j within a in
      let both = feeds b.within.sp b.within.minutes in
      let g = second-is_fed o (done ++ s ∷ driven j (s.number + 1) s.speed []) (last_of (suc j) s) (gone a.next a.begun (often s.speed (suc j) v.minutes)) d b.within minutes both.0 rest both.1 in
      record { within = g.within; began = g.began ∙ b.began; from = g.from ∙ b.from ∙ a.undecided }

  minutes-at : (j : ℕ) → v.next % 60 + suc (suc j) ≤ 60 → (often s.speed (suc j) v.minutes).next ≡ v.next + suc j
  minutes-at j within =
      let e = minutes-next in
      next-of v.minutes w.sp s.speed (suc j) w.minutes (often-stands v.minutes w.sp s.speed (suc j) w.minutes (omega (arith, e, within))) ∙ ap (λ (n : ℕ). n + suc j) e

  feeds-on : (j : ℕ) → v.next % 60 + suc (suc j) ≤ 60 → (x : Span) → CountsSpan (often s.speed (suc j) v.minutes) x → CountsSpan (often s.speed (suc (suc j)) v.minutes) (fed x s.speed)
  feeds-on j within x h = let at = minutes-at j within in fed-stands x (often s.speed (suc j) v.minutes) s.speed 1 h (omega (arith, at, within)) (omega arith)

  at-each : (j : ℕ) → v.next % 60 + suc j < 60 → At j
  at-each zero within = at-first (omega (arith, within))
  at-each (suc j) within =
      let a = at-each j (omega (arith, within)) in
      let k : Kept = often s.speed (suc (suc j)) v.minutes in
      let at = minutes-at j (omega (arith, within)) in
      let g = next-fed j k [] (omega (arith, within)) a (λ x h. (feeds-on j (omega (arith, within)) x h, still-decides (often s.speed (suc j) v.minutes) x s.speed h (omega (arith, at, within)))) in
      let r = over (done ++ s ∷ driven j (s.number + 1) s.speed []) (last_of (suc j) s) (gone a.next a.begun k) g.within w.from g.from w.b.travel.before (ap (λ (b : Beginning). b.travel.before) g.began ∙ a.behind.travelled_before) in
      record {
        t = r.0;
        span = r.1.0;
        next = suc a.next;
        begun = 0;
        next_is = let next = a.next_is in omega (arith, next);
        behind = subst (λ (ss : List TraceSecond). RecordedFrom o ss (Lit (r.0 ∷ r.1.0)) (gone (suc a.next) 0 k) d w.b.travel.before) (up-to done s j) r.1.1.0;
        undecided = r.1.1.1;
      }

  -- WHAT THE SECONDS DECIDE is decided by the last
  module _ (n : ℕ) (within : v.next % 60 + suc n ≤ 60) (minutes : Kept) (stands : (x : Span) → CountsSpan v.minutes x → CountsSpan minutes (fed_many x s.speed (suc n))) (rest : List Minute)
      (decides : (x : Span) → CountsSpan v.minutes x → decided_in (fed_many x s.speed (suc n)) ≡ decided_in x ++ rest) where
    before-stands : CountsSpan (often s.speed n v.minutes) (fed_many w.sp s.speed n)
    before-stands = let e = minutes-next in often-stands v.minutes w.sp s.speed n w.minutes (omega (arith, e, within))

    before-next : (often s.speed n v.minutes).next ≡ v.next + n
    before-next = next-of v.minutes w.sp s.speed n w.minutes before-stands ∙ ap (λ (k : ℕ). k + n) minutes-next

    minutes-are : once s.speed (often s.speed n v.minutes) ≡ minutes
    minutes-are =
        let at = before-next in
        (fed-stands (fed_many w.sp s.speed n) (often s.speed n v.minutes) s.speed 1 before-stands (omega (arith, at, within)) (omega arith)).kept ∙ sym (stands w.sp w.minutes).kept

    rest-is : decided_now (run 1 s.speed (often s.speed n v.minutes)) ≡ rest
    rest-is =
        let at = before-next in
        let e = minutes-next in
        append_cancel_left (decided_in w.sp) (decided_now (run 1 s.speed (often s.speed n v.minutes))) rest
        (ap (λ (ds : List Minute). ds ++ decided_now (run 1 s.speed (often s.speed n v.minutes))) (sym (often-decides v.minutes w.sp s.speed n w.minutes (omega (arith, e, within))))
        ∙ sym (fed-given (fed_many w.sp s.speed n) (often s.speed n v.minutes) s.speed 1 before-stands (omega (arith, at, within)) (omega arith))
        ∙ decides w.sp w.minutes)

    feeds-last : (x : Span) → CountsSpan (often s.speed n v.minutes) x → CountsSpan minutes (fed x s.speed) × (decided_in (fed x s.speed) ≡ decided_in x ++ rest)
    feeds-last x h =
        let at = before-next in (
          subst (λ (k : Kept). CountsSpan k (fed x s.speed)) minutes-are (fed-stands x (often s.speed n v.minutes) s.speed 1 h (omega (arith, at, within)) (omega arith)),
          fed-given x (often s.speed n v.minutes) s.speed 1 h (omega (arith, at, within)) (omega arith) ∙ ap (λ (ds : List Minute). decided_in x ++ ds) rest-is,
        )

-- behind them, by the number of the last one
record IsTo (o : Origin) (done : List TraceSecond) (s : TraceSecond) (n : ℕ) (rest : List Minute) (minutes : Kept) (v : Values) (d : Devices) (w : RecordInSecond o done s (In (length s.actions)) [] None [] v d) (next : ℕ) : Type 0 where
  begun : ℕ
  fed : RecordInSecond o (before_last n s done) (last_of n s) Keeping [] (Some s.speed) rest (record v { minutes = minutes; next = next; begun = begun }) d
  travelled_before : fed.b.travel.before ≡ w.b.travel.before
  from : fed.from ≡ w.from
  first : n ≡ 0 → fed.b ≡ w.b
  goes_on : 0 < n → (fed.b.run.log ≡ v.log) × (begins_with fed.b.span ≡ false)
  behind : 0 < n → BehindFirst o done s v d

turned-to : (o : Origin) (done : List TraceSecond) (s : TraceSecond) (n : ℕ) (rest : List Minute) (minutes : Kept) (v : Values) (d : Devices) (w : RecordInSecond o done s (In (length s.actions)) [] None [] v d) (next : ℕ) → next ≡ v.next + n → IsTo o done s n rest minutes v d w next →
    IsTurned o done s n rest minutes v d w
turned-to o done s n rest minutes v d w next same to =
    let h = subst (λ (k : ℕ). IsTo o done s n rest minutes v d w k) same to in
    record { begun = h.begun; fed = h.fed; travelled_before = h.travelled_before; from = h.from; first = h.first; goes_on = h.goes_on; behind = h.behind }

pub turn-is_fed : (d : Devices) → ATurnIsFed d
turn-is_fed d o done s v w zero within minutes stands rest decides =
    let g = second-is_fed o done s v d w minutes (stands w.sp w.minutes) rest (decides w.sp w.minutes) in
    turned-to o done s 0 rest minutes v d w v.next (omega arith) (record {
      begun = v.begun;
      fed = g.within;
      travelled_before = ap (λ (b : Beginning). b.travel.before) g.began;
      from = g.from;
      first = λ zero_. g.began;
      goes_on = λ some. absurd (omega (arith, some));
      behind = λ some. absurd (omega (arith, some));
    })
turn-is_fed d o done s v w (suc n) within minutes stands rest decides =
    let is = number o done s v d w in
    let most : v.next % 60 + suc (suc n) ≤ 60 = subst (λ (k : ℕ). k % 60 + suc (suc n) ≤ 60) is within in
    let a = at-each o done s v d w n (omega (arith, most)) in
    let one = at-first o done s v d w (omega (arith, most)) in
    let g = next-fed o done s v d w n minutes rest most a (feeds-last o done s v d w (suc n) most minutes stands rest decides) in
    turned-to o done s (suc n) rest minutes v d w a.next a.next_is
    (record {
      begun = a.begun;
      fed = g.within;
      travelled_before = ap (λ (b : Beginning). b.travel.before) g.began ∙ a.behind.travelled_before;
      from = g.from;
      first = λ none. absurd (omega (arith, none));
      goes_on = λ some. (ap (λ (b : Beginning). b.run.log) g.began, ap (λ (b : Beginning). begins_with b.span) g.began);
      behind = λ some. record {
        told = one.t;
        span = one.span;
        values = record v { minutes = often s.speed 1 v.minutes; next = one.next; begun = one.begun };
        recorded = one.behind.recorded;
        log = refl;
        cabin = refl;
        unfound = refl;
        next = let next = one.next_is in omega (arith, next);
      };
    })
