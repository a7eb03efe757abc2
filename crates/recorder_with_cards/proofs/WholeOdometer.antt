-- Where nothing failed, the odometer is the start's and the whole kilometres of each time with power; and so are those of the days.
use Rattle.std.proofs.Common.{◌≡◌, inl, inr, ⊎_elim, ℕ, zero, suc, ◌+◌, ◌-◌, ◌*◌, ◌/◌, ◌%◌, ◌<◌, ◌≤◌, Bool, true, false, cond, ◌||◌, nat_lt, nat_le, Option, Some, None, List, [], ◌∷◌, ◌++◌, All, Contains, min, length, map, filter, drop, refl, ap, sym, subst, ◌∙◌, arith, length-append}
use Rattle.std.specs.Prelude.{find, option_to_list, unwrap_or, ◌==◌}
use Rattle.std.specs.List.{range_with_len, AllByRecursion}
use Rattle.std.proofs.lemmas.Bool.Decides.{nat_tests}
use Rattle.std.proofs.lemmas.List.{drop-append-le}
use Rattle.std.proofs.lemmas.List.Elements.{All-nil, All-cons, All-head, All-append, All-map, All-weaker, All-contains, Contains-append_left, Contains-append_right}
use Rattle.std.proofs.lemmas.List.Folds.{list_any-append}
use Rattle.std.proofs.lemmas.Grind.{flat_map-append}
use Rattle.trace_model.specs.declared.Item.{Item}
use Rattle.trace_model.specs.Trace.{TraceSecond}
use Rattle.minute_rules.specs.minute_model.declared.Rule.{Rule}
use Rattle.minute_rules.specs.minute_model.declared.Minute.{Minute}
use Rattle.minute_rules.specs.minute_model.Activity.{last as last_told}
use Rattle.log_model.specs.Log.{RunLog}
use Rattle.log_model.specs.Course.{ToldSecond, went}
use Rattle.log_model.specs.Spans.{spans_of, AreInOrder}
use Rattle.device_calls.specs.history_model.Minutes.{HistoryMinute}
use Rattle.device_calls.specs.history_model.Presence.{Start}
use Rattle.device_calls.specs.history_model.History.{decided_of, span_minutes, limited_to, cut_second, limit_by, any_long, limit_of, lost_minute, unit_history, lost_by, with_lost}
use Rattle.device_calls.specs.history_model.Growth.{Rises, closed_limit}
use Rattle.log_model.proofs.Spanning.{seconds-order}
use Rattle.device_calls.proofs.history_model.Told.{rises}
use Rattle.device_calls.proofs.history_model.Decided.{decided-after, nothing-was-lost}
use Rattle.unit_minutes.specs.unit_model.declared.layout.TheConstants.{DAY_SLOTS, HIGHEST_ODOMETER}
use Rattle.unit_minutes.specs.unit_model.Days.{UnitMinute, ShownDay, StoredDay, day_of, minute_at, minutes_shown, day_shown, days_shown, padded, with_minute, day_from, filled, newest_days, minutes_of}
use Rattle.unit_minutes.specs.unit_model.Image.{last_kept, odometer_at, recorded, unit_days}
use Rattle.log_model.specs.Causes.{cuts}
use Rattle.device_calls.specs.device_rule.Filling.{seen_by_unit, filled_with}
use Rattle.device_calls.specs.run_unit_course.Followed.{IsKnown}
use Rattle.device_calls.specs.run_unit_course.Legs.{kilometres_of, AreWhole, whole_legs}
use Rattle.device_calls.proofs.run_unit_course.Legs.{legs-whole, short-decides}
use Rattle.device_calls.specs.unit_rule.Odometer.{OdometerSafe}
use Rattle.device_calls.specs.safety_model.Recording.{Recording, start_of, told_of, history_of}
use Rattle.device_calls.specs.safety_model.Unit.{HasEachDecided, IsFilled}
use Rattle.device_calls.specs.safety_model.Safe.{Devices}
use Rattle.run_minutes.specs.run_promise.Days.{IsBegunIn}
use Rattle.run_outcome.specs.declared.outcome.Outcome.{Outcome}
use Rattle.run_acts.specs.Recording.{log_of}
use Rattle.recorder_with_cards.specs.Ends.{recording_of, EndsTrace}
use Rattle.recorder_with_cards.specs.Whole.{HasWholeOdometer, HasDayOdometer, IsAllThere}

-- WHAT AN IMAGE SHOWS is not later than its last-kept minute
range-low : (a n : ℕ) → All (λ t. t < a + n) (range_with_len a n)
range-low a n = go a n
  where
    go : (a n : ℕ) → All (λ t. t < a + n) (range_with_len a n)
    go a zero = All-nil (λ (t : ℕ). t < a + 0)
    go a (suc n) = All-cons (λ (t : ℕ). t < a + suc n) a (range_with_len (a + 1) n) (omega arith) (All-weaker (λ (t : ℕ). t < a + 1 + n) (λ t. t < a + suc n) (λ t lt. omega (arith, lt)) (range_with_len (a + 1) n) (go (a + 1) n))

day-low : (k : ℕ) (d : StoredDay) → day_of d ≤ k / 1440 → All (λ m. m.minute ≤ k) (day_shown k d).minutes
day-low k d le =
    All-map (λ (m : UnitMinute). m.minute ≤ k) (minute_at d) (range_with_len 0 (minutes_shown k (day_of d)))
    (All-weaker (λ (t : ℕ). t < 0 + minutes_shown k (day_of d)) (λ t. 1440 * day_of d + t ≤ k) (λ t lt. each t (day_of d == k / 1440) refl lt) (range_with_len 0 (minutes_shown k (day_of d))) (range-low 0 (minutes_shown k (day_of d))))
  where
    each : (t : ℕ) (b : Bool) → (day_of d == k / 1440) ≡ b → t < 0 + cond b (k % 1440 + 1) 1440 → 1440 * day_of d + t ≤ k
    each t true is lt = let same : day_of d ≡ k / 1440 = grind (arith, nat_tests) in omega (arith, same, lt)
    each t false is lt = let other : day_of d < k / 1440 = grind (arith, nat_tests, le) in omega (arith, other, lt)

shown-low : (k : ℕ) (days : List StoredDay) → All (λ m. m.minute ≤ k) (minutes_of (days_shown k days))
shown-low k [] = All-nil (λ (m : UnitMinute). m.minute ≤ k)
shown-low k (d ∷ days) = go (nat_le (day_of d) (k / 1440)) refl (shown-low k days)
  where
    go : (b : Bool) → nat_le (day_of d) (k / 1440) ≡ b → All (λ (m : UnitMinute). m.minute ≤ k) (minutes_of (days_shown k days)) →
        All (λ (m : UnitMinute). m.minute ≤ k) (minutes_of (map (day_shown k) (cond b (d ∷ filter (λ (e : StoredDay). nat_le (day_of e) (k / 1440)) days) (filter (λ (e : StoredDay). nat_le (day_of e) (k / 1440)) days))))
    go true is rest = All-append (λ (m : UnitMinute). m.minute ≤ k) (day_shown k d).minutes (minutes_of (days_shown k days)) (day-low k d (grind (arith, nat_tests))) rest
    go false is rest = rest

image-low : (x : List ℕ) → All (λ m. m.minute ≤ last_kept x) (minutes_of (recorded x))
unfolding recorded
image-low x = shown-low (last_kept x) (unit_days x)

-- THE NEWEST MINUTE is in the newest day
record EndsWith (days : List ShownDay) (k : UnitMinute) : Type 0 where
  front : List ShownDay
  day : ShownDay
  are : days ≡ front ++ day ∷ []
  has : Contains day.minutes k

at-end : (ms : List UnitMinute) (k : UnitMinute) → Contains (ms ++ k ∷ []) k
at-end ms k = Contains-append_right ms (k ∷ []) k (0, omega arith, refl)

fills-last : (days : List ShownDay) (k : UnitMinute) → EndsWith (filled days k) k
fills-last [] k = record { front = []; day = day_from k; are = refl; has = at-end (padded (k.minute % 1440) (record { day = k.minute / 1440; minutes = [] })).minutes k }
fills-last (d ∷ []) k = go (d.day == k.minute / 1440)
  where
    go : (b : Bool) → EndsWith (cond b (with_minute k d ∷ []) (padded 1440 d ∷ day_from k ∷ [])) k
    go true = record { front = []; day = with_minute k d; are = refl; has = at-end (padded (k.minute % 1440) d).minutes k }
    go false = record { front = padded 1440 d ∷ []; day = day_from k; are = refl; has = at-end (padded (k.minute % 1440) (record { day = k.minute / 1440; minutes = [] })).minutes k }
fills-last (d ∷ e ∷ days) k =
    let rest = fills-last (e ∷ days) k in record { front = d ∷ rest.front; day = rest.day; are = ap (λ (ds : List ShownDay). d ∷ ds) rest.are; has = rest.has }

filled-push : (days : List ShownDay) (front : List HistoryMinute) (i : HistoryMinute) → filled_with days (front ++ i ∷ []) ≡ filled (filled_with days front) (seen_by_unit i)
filled-push days [] i = refl
filled-push days (j ∷ front) i = filled-push (filled days (seen_by_unit j)) front i

newest-has : (n : ℕ) (days : List ShownDay) (k : UnitMinute) → EndsWith days k → Contains (minutes_of (newest_days (suc n) days)) k
newest-has n days k e =
    let j : ℕ = length days - suc n in
    let long : length days ≡ length e.front + 1 = ap length e.are ∙ length-append e.front (e.day ∷ []) in
    let is : drop j days ≡ drop j e.front ++ e.day ∷ [] = ap (drop j) e.are ∙ drop-append-le j e.front (e.day ∷ []) (omega (arith, long)) in
    subst (λ (ds : List ShownDay). Contains (minutes_of ds) k) (sym is)
    (subst (λ (ms : List UnitMinute). Contains ms k) (sym (flat_map-append (λ (d : ShownDay). d.minutes) (drop j e.front) (e.day ∷ [])))
    (Contains-append_right (minutes_of (drop j e.front)) (minutes_of (e.day ∷ [])) k (Contains-append_left e.day.minutes [] k e.has)))

-- THE LAST of minutes that rise
record HasLatest (past : List HistoryMinute) : Type 0 where
  front : List HistoryMinute
  last : HistoryMinute
  are : past ≡ front ++ last ∷ []
  latest : All (λ i. i.minute ≤ last.minute) past

rises-last : (a until : ℕ) (x : HistoryMinute) (xs : List HistoryMinute) → Rises a (x ∷ xs) until → HasLatest (x ∷ xs)
rises-last a until x [] h = record { front = []; last = x; are = refl; latest = All-cons (λ (i : HistoryMinute). i.minute ≤ x.minute) x [] (omega arith) (All-nil (λ (i : HistoryMinute). i.minute ≤ x.minute)) }
rises-last a until x (y ∷ ys) h =
    let rest = rises-last (x.minute + 1) until y ys h.1 in
    let first : y.minute ≤ rest.last.minute = All-head (λ (i : HistoryMinute). i.minute ≤ rest.last.minute) y ys rest.latest in
    let next : x.minute + 1 ≤ y.minute = h.1.0 in
    record {
      front = x ∷ rest.front;
      last = rest.last;
      are = ap (λ (zs : List HistoryMinute). x ∷ zs) rest.are;
      latest = All-cons (λ (i : HistoryMinute). i.minute ≤ rest.last.minute) x (y ∷ ys) (omega (arith, first, next)) rest.latest;
    }

-- each minute of a history that fills an image is not later than its last-kept one
history-low : (start : List ShownDay) (past : List HistoryMinute) (x : List ℕ) (a until : ℕ) → Rises a past until → IsFilled start past x → All (λ i. i.minute ≤ last_kept x) past
history-low start [] x a until rising is = All-nil (λ (i : HistoryMinute). i.minute ≤ last_kept x)
history-low start (i ∷ past) x a until rising is =
    let l = rises-last a until i past rising in
    let all_ : recorded x ≡ newest_days DAY_SLOTS (filled (filled_with start l.front) (seen_by_unit l.last)) =
    is ∙ ap (λ (is_ : List HistoryMinute). newest_days DAY_SLOTS (filled_with start is_)) l.are ∙ ap (newest_days DAY_SLOTS) (filled-push start l.front l.last) in
    let there = subst (λ (ds : List ShownDay). Contains (minutes_of ds) (seen_by_unit l.last)) (sym all_)
    (newest-has (DAY_SLOTS - 1) (filled (filled_with start l.front) (seen_by_unit l.last)) (seen_by_unit l.last) (fills-last (filled_with start l.front) (seen_by_unit l.last))) in
    let low : l.last.minute ≤ last_kept x = All-contains (λ (m : UnitMinute). m.minute ≤ last_kept x) (minutes_of (recorded x)) (seen_by_unit l.last) (image-low x) there in
    All-weaker (λ (j : HistoryMinute). j.minute ≤ l.last.minute) (λ j. j.minute ≤ last_kept x) (λ j le. omega (arith, le, low)) (i ∷ past) l.latest

-- NO SPAN has lost a minute: each that it decided is within its limit
find-none : (p : HistoryMinute → Bool) (xs : List HistoryMinute) → find p xs ≡ None → All (λ x. p x ≡ false) xs
find-none p [] none = All-nil (λ (x : HistoryMinute). p x ≡ false)
find-none p (x ∷ xs) none = go (p x) refl none (λ none_. find-none p xs none_)
  where
    go : (b : Bool) → p x ≡ b → cond b (Some x) (find p xs) ≡ None → (find p xs ≡ None → All (λ (y : HistoryMinute). p y ≡ false) xs) → All (λ (y : HistoryMinute). p y ≡ false) (x ∷ xs)
    go true is none_ rest = absurd (let clash : Some x ≡ None = none_ in cc)
    go false is none_ rest = All-cons (λ (y : HistoryMinute). p y ≡ false) x xs is (rest none_)

module _ (rule : Rule) (start : Start) (told : List ToldSecond) (limit : List ToldSecond → List (List ToldSecond) → Option ℕ) (k : ℕ) where
  within-limit : (past : List HistoryMinute) (span : List ToldSecond) → ((d : Minute) → Contains (decided_of rule span) d → d.minute ≤ k) → (o : Option ℕ) → lost_minute o (span_minutes rule start told past span) ≡ None →
      (d : Minute) → Contains (decided_of rule span) d → d.minute ≤ unwrap_or o k
  within-limit past span low None none d at = low d at
  within-limit past span low (Some m) none d at =
      let i = decided-after start told past (decided_of rule span) d at in
      let test = All-contains (λ (j : HistoryMinute). nat_lt m j.minute ≡ false) (span_minutes rule start told past span) i.0 (find-none (λ (j : HistoryMinute). nat_lt m j.minute) (span_minutes rule start told past span) none) i.1 in
      let same = i.2 in
      let le : i.0.minute ≤ m = grind (arith, test, nat_tests) in omega (arith, le, same)

  all-whole : (past : List HistoryMinute) (spans : List (List ToldSecond)) → ((span : List ToldSecond) (d : Minute) → Contains spans span → Contains (decided_of rule span) d → d.minute ≤ k) → lost_by rule start limit told past spans ≡ [] →
      AreWhole rule limit k spans
  all-whole past [] low none = tt
  all-whole past (span ∷ later) low none =
      let more : List HistoryMinute = limited_to (limit span later) (span_minutes rule start told past span) in
      let both = parted (lost_minute (limit span later) (span_minutes rule start told past span)) refl none in (
        each (decided_of rule span) (λ d at. within-limit past span (λ d at. low span d (Contains-append_left (span ∷ []) later span (0, omega arith, refl)) at) (limit span later) both.0 d at),
        all-whole (past ++ more) later (λ s d at in_. low s d (Contains-append_right (span ∷ []) later s at) in_) both.1,
      )
    where
      each : (ds : List Minute) → ((d : Minute) → Contains ds d → d.minute ≤ unwrap_or (limit span later) k) → All (λ d. d.minute ≤ unwrap_or (limit span later) k) ds
      each [] h = All-nil (λ (d : Minute). d.minute ≤ unwrap_or (limit span later) k)
      each (d ∷ ds) h = All-cons (λ (d : Minute). d.minute ≤ unwrap_or (limit span later) k) d ds (h d (Contains-append_left (d ∷ []) ds d (0, omega arith, refl))) (each ds (λ e at. h e (Contains-append_right (d ∷ []) ds e at)))

      parted : (o : Option HistoryMinute) → lost_minute (limit span later) (span_minutes rule start told past span) ≡ o →
          map (λ (i : HistoryMinute). past ++ (limited_to (limit span later) (span_minutes rule start told past span) ++ i ∷ [])) (option_to_list o)
          ++ lost_by rule start limit told (past ++ limited_to (limit span later) (span_minutes rule start told past span)) later ≡ [] →
          (lost_minute (limit span later) (span_minutes rule start told past span) ≡ None)
          × (lost_by rule start limit told (past ++ limited_to (limit span later) (span_minutes rule start told past span)) later ≡ [])
      parted None is none = (is, none)
      parted (Some i) is none = absurd (cc)

none-lost : (rule : Rule) (start : Start) (log : RunLog) (n : ℕ) (ss : List TraceSecond) → AreInOrder n ss → HasEachDecided rule (went log ss).told (unit_history rule start log (went log ss).told) →
    lost_by rule start (limit_of log) (went log ss).told [] (spans_of (went log ss).told) ≡ []
unfolding with_lost
none-lost rule start log n ss order decided = nothing-was-lost rule start log n ss order decided

-- each minute that a span decided is within the limit of its cut
whole-spans : (rule : Rule) (start : Start) (log : RunLog) (n : ℕ) (ss : List TraceSecond) → AreInOrder n ss → HasEachDecided rule (went log ss).told (unit_history rule start log (went log ss).told) → (days : List ShownDay) (x : List ℕ) →
    IsFilled days (unit_history rule start log (went log ss).told) x → AreWhole rule (limit_of log) (last_kept x) (spans_of (went log ss).told)
whole-spans rule start log n ss order decided days x is =
    all-whole rule start (went log ss).told (limit_of log) (last_kept x) [] (spans_of (went log ss).told) low (none-lost rule start log n ss order decided)
  where
    below : All (λ i. i.minute ≤ last_kept x) (unit_history rule start log (went log ss).told)
    below = history-low days (unit_history rule start log (went log ss).told) x (n / 60) ((n + length ss) / 60) (rises n rule start log ss order) is

    low : (span : List ToldSecond) (d : Minute) → Contains (spans_of (went log ss).told) span → Contains (decided_of rule span) d → d.minute ≤ last_kept x
    low span d at in_ =
        let i = decided span d at in_ in
        let le : i.0.minute ≤ last_kept x = All-contains (λ (j : HistoryMinute). j.minute ≤ last_kept x) (unit_history rule start log (went log ss).told) i.0 below i.1 in
        let same = i.2 in omega (arith, le, same)

pub whole-odometer : (rule : Rule) (start : Start) (log : RunLog) (n : ℕ) (ss : List TraceSecond) → AreInOrder n ss → HasEachDecided rule (went log ss).told (unit_history rule start log (went log ss).told) → (days : List ShownDay) (odometer : ℕ) (x : List ℕ) →
    IsFilled days (unit_history rule start log (went log ss).told) x → OdometerSafe rule log (went log ss).told odometer x → HasWholeOdometer rule (went log ss).told odometer x
whole-odometer rule start log n ss order decided days odometer x is safe =
    safe.sum_is
    ∙ ap (λ (legs : List ℕ). min (odometer + kilometres_of legs) HIGHEST_ODOMETER)
    (legs-whole rule (limit_of log) (last_kept x) (spans_of (went log ss).told) safe.legs (whole-spans rule start log n ss order decided days x is) safe.are)

-- THE SPANS BEFORE one that has decided a minute: by the limits of their cuts they are whole too
or-true : (b : Bool) → (b || true) ≡ true
or-true true = refl
or-true false = refl

whole-earlier : (rule : Rule) (log : RunLog) (k : ℕ) (earlier : List (List ToldSecond)) (span : List ToldSecond) (later : List (List ToldSecond)) → nat_lt 1 (length span) ≡ true → AllByRecursion (IsKnown rule log.breaks) earlier →
    AreWhole rule (limit_of log) k (earlier ++ span ∷ later) → AreWhole rule (closed_limit log) 0 earlier
whole-earlier rule log k [] span later long known w = tt
whole-earlier rule log k (e ∷ es) span later long known w = (here known.0, whole-earlier rule log k es span later long known.1 w.1)
  where
    any : any_long (es ++ span ∷ later) ≡ true
    any = list_any-append (λ (s : List ToldSecond). nat_lt 1 (length s)) es (span ∷ later) ∙ ap (λ (b : Bool). any_long es || (b || any_long later)) long ∙ or-true (any_long es)

    here : IsKnown rule log.breaks e → All (λ d. d.minute ≤ unwrap_or (closed_limit log e es) 0) (decided_of rule e)
    here (inl none) = subst (All (λ (d : Minute). d.minute ≤ unwrap_or (closed_limit log e es) 0)) (sym none) (All-nil (λ (d : Minute). d.minute ≤ unwrap_or (closed_limit log e es) 0))
    here (inr cut) = subst (λ (n : ℕ). All (λ (d : Minute). d.minute ≤ n) (decided_of rule e))
        (ap (λ (b : Bool). unwrap_or (cond b (limit_by log (cut_second (last_told e))) None) k) any ∙ ap (λ (c : Option ℕ). unwrap_or (limit_by log c) k) cut.1 ∙ sym (ap (λ (c : Option ℕ). unwrap_or (limit_by log c) 0) cut.1)) w.0

long-enough : (rule : Rule) (span : List ToldSecond) (d : Minute) → Contains (decided_of rule span) d → nat_lt 1 (length span) ≡ true
long-enough rule span d at = by (nat_lt 1 (length span)) refl
  where
    by : (b : Bool) → nat_lt 1 (length span) ≡ b → b ≡ true
    by true is = refl
    by false is = absurd (let none = subst (λ (ds : List Minute). Contains ds d) (short-decides rule span is) at in omega (arith, none.1))

-- OF A RUN WITH CARDS
module _ (r : Recording) (begun_at : ℕ) (order : AreInOrder begun_at r.trace) (w : HasEachDecided r.rule (told_of r) (history_of r)) (x : List ℕ) (filled_ : IsFilled (recorded r.unit) (history_of r) x) where
  pub day-whole : (day odometer : ℕ) → IsBegunIn r x day odometer → HasDayOdometer r day odometer
  day-whole day odometer b =
      let spans = subst (AreWhole r.rule (limit_of r.log) (last_kept x)) b.are (whole-spans r.rule (start_of r) r.log begun_at r.trace order w (recorded r.unit) x filled_) in
      let legs : b.legs ≡ whole_legs r.rule b.earlier = legs-whole r.rule (closed_limit r.log) 0 b.earlier b.legs (whole-earlier r.rule r.log (last_kept x) b.earlier b.span b.later (long-enough r.rule b.span b.minute b.decided) b.known spans) b.closed in
      record {
        anew = b.anew;
        earlier = b.earlier;
        span = b.span;
        later = b.later;
        are = b.are;
        minute = b.minute;
        decided = b.decided;
        day_is = ap (λ (n : ℕ). n / 1440) b.same ∙ b.day_is;
        first = λ s d at in_ is.
            let i = w s d at in_ in
            let le = All-contains (λ (j : HistoryMinute). j.minute / 1440 ≡ day → b.i.minute ≤ j.minute) (history_of r) i.0 b.first i.1 (ap (λ (n : ℕ). n / 1440) i.2 ∙ is) in
            subst (λ (n : ℕ). n ≤ d.minute) (sym b.same) (subst (λ (n : ℕ). b.i.minute ≤ n) i.2 le);
        sum_is = b.sum_is ∙ ap (λ (ls : List ℕ). min (odometer_at r.unit + kilometres_of (ls ++ b.minute.travelled ∷ [])) HIGHEST_ODOMETER) legs;
      }

pub all-there : (unit card_a card_b : List ℕ) (start : ℕ) (items : List Item) (out : Outcome) (began now : Devices) → EndsTrace unit card_a card_b start items out began now → cuts true (log_of out) ≡ [] →
    IsAllThere (recording_of unit card_a card_b start items out) now
all-there unit card_a card_b start items out began now h uncut =
    let r : Recording = recording_of unit card_a card_b start items out in
    let w = h.ends.whole uncut in
    record {
      minutes = w;
      odometer = λ x left. whole-odometer r.rule (start_of r) r.log start r.trace (seconds-order start items) w.decided (recorded r.unit) (odometer_at r.unit) x (w.unit x left) (h.ends.odometer x left);
      days = λ x left day odometer records. ⊎_elim
          (λ was. inl was)
          (λ begun. inr (day-whole r start (seconds-order start items) w.decided x (w.unit x left) day odometer begun))
          (h.ends.days x left day odometer records);
    }
