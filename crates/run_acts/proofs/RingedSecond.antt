-- What the rings of a second need of its record: how later lines go on with it, and a cut; who sits where; and its odometer.
use Rattle.std.proofs.Common.{◌≡◌, ◌∙◌, ◌⊎◌, inl, inr, ⊎_elim, ℕ, zero, suc, ◌+◌, ◌/◌, ◌≤◌, min, Bool, true, false, cond, not, ◌||◌, Option, Some, None, is_some, nat_eq, List, [], ◌∷◌, ◌++◌, length, map, take, sum_by, refl, ap, sym, subst, arith, append_assoc, length-append}
use Rattle.std.specs.Prelude.{nat_lt}
use Rattle.std.specs.List.{AllByRecursion}
use Rattle.std.proofs.Math.Seq.{take-append_seam}
use Rattle.std.proofs.lemmas.Bool.Decides.{nat_tests}
use Rattle.activity_codec.specs.declared.values.Slot.{Slot}
use Rattle.trace_model.specs.declared.Action.{Action}
use Rattle.trace_model.specs.declared.Card.{Card}
use Rattle.trace_model.specs.declared.Card.TheVariants.{A, B}
use Rattle.trace_model.specs.Trace.{TraceSecond}
use Rattle.unit_model.specs.minute_model.declared.Minute.{Minute}
use Rattle.unit_model.specs.minute_model.Second.{Second}
use Rattle.unit_model.specs.minute_model.Span.{Span, travelled_of}
use Rattle.tach_media.specs.Medium.{State}
use Rattle.unit_model.specs.declared.layout.TheConstants.{HIGHEST_ODOMETER}
use Rattle.device_calls.specs.unit_rule.Odometer.{odometer_by}
use Rattle.log_model.specs.declared.lines.Break.{Break}
use Rattle.log_model.specs.Causes.{second_of}
use Rattle.log_model.specs.Log.{RunLog, Phase, In, same_phase, cut_in, is_torn_in, found_in}
use Rattle.log_model.specs.Slots.{Sitting, in_slot}
use Rattle.log_model.specs.Course.{ToldSecond, Before, Visit, Course, begins, has_power, all_acted, went}
use Rattle.log_model.specs.Spans.{seconds_in, spans_of}
use Rattle.run_events.proofs.unit_events.Failing.{failed-here}
use Rattle.unit_notes.specs.note_model.Done.{course_powered, has_failed_in}
use Rattle.unit_notes.specs.note_model.Odometer.{SpanFrom, odometer_at}
use Rattle.device_calls.specs.run_unit_course.Lines.{cut_at}
use Rattle.device_calls.specs.run_unit_course.Followed.{Lit as IsLit, as_spans}
use Rattle.device_calls.specs.run_unit_course.Turn.{begins_with, span_at}
use Rattle.device_calls.specs.safety_model.Safe.{Devices, card_of}
use Rattle.run_crew.specs.card_slots.declared.seats.Seat.{Seat}
use Rattle.run_crew.specs.card_slots.Kept.{Kept as SlotsKept}
use Rattle.run_crew.specs.card_slots.Calls.{card_in}
use Rattle.device_calls.specs.history_model.Presence.{Start}
use Rattle.device_calls.specs.history_model.Minutes.{HistoryMinute}
use Rattle.run_crew.specs.declared.cards.Accepted.{Accepted}
use Rattle.run_crew.specs.declared.cards.Cards.{Cards}
use Rattle.run_crew.specs.Cards.{session_of}
use Rattle.run_crew.specs.Cabin.{AnswersTo, SeatAnswers}
use Rattle.run_events.specs.run_course.Followed.{BookFollowsRun}
use Rattle.run_events.specs.run_course.Moments.{and_break, SameUpTo}
use Rattle.run_events.specs.run_course.Presence.{SitsAs, IsNewest}
use Rattle.run_events.specs.run_course.Seconds.{GoesOnBy}
use Rattle.run_events.proofs.run_course.Lookups.{break-more}
use Rattle.run_events.proofs.run_course.Moments.{later-lines}
use Rattle.run_events.proofs.run_course.Steps.{with-supply, went-same_}
use Rattle.run_events.proofs.run_course.Told.{lit-power, lit-starts}
use Rattle.run_events.specs.run_course.Kept.{settled_times}
use Rattle.run_events.proofs.run_course.Reached.{at-by}
use Rattle.run_minutes.specs.run_promise.Found.{found_of}
use Rattle.run_minutes.specs.Keeping.{HasLeftMore}
use Rattle.run_events.specs.run_rings.Notes.{course_behind}
use Rattle.run_events.specs.run_rings.Spans.{go_on_from, with_second, odometer_on, AreAllBefore}
use Rattle.run_events.proofs.run_rings.Spans.{odometer-now}
use Rattle.run_minutes.specs.run_promise.Origin.{Origin, rule_of, start_at, first_of}
use Rattle.run_minutes.specs.run_promise.Beside.{HaveLeftMore}
use Rattle.run_note_record.proofs.Lines.{same-before}
use Rattle.run_note_record.specs.Ringed.{Seating}
use Rattle.run_note_record.specs.RingsSoFar.{GoesBehind, RingedIn, HasMoreBreaks}
use Rattle.run_note_record.specs.Steps.{GoesOnTo, IsCutIn}
use Rattle.run_record.specs.Recorded.{Values}
use Rattle.run_record.specs.Within.{RecordInSecond, course_in}
use Rattle.run_acts.specs.Devices.{AreLeftMore}
use Rattle.run_acts.specs.RunRinged.{IsLastFrom, with_cut}
use Rattle.run_acts.proofs.RingedLines.{AreTears, TellsBeside, tears-beside}

-- ---- lines that go on

-- with a cut behind them
module _ (later : RunLog) (u k : ℕ) (none : cut_in later u ≡ None) where
  same-number : nat_eq u u ≡ true
  same-number = grind (arith, nat_tests)

  or-false : (b : Bool) → (b || false) ≡ b
  or-false true = refl
  or-false false = refl

  pub cut-is : cut_in (and_break later (cut_at u true k)) u ≡ Some k
  cut-is =
      (break-more later (cut_at u true k) u).cut
      ∙ ap (λ (q : Option ℕ). cond (is_some q) q (cond (nat_eq u u) (Some k) None)) none
      ∙ ap (λ (b : Bool). cond {A = Option ℕ} b (Some k) None) same-number

  pub cut-torn : (p : Phase) (slot : Slot) → is_torn_in (and_break later (cut_at u true k)) u p slot ≡ is_torn_in later u p slot
  cut-torn p slot = (break-more later (cut_at u true k) u).torn p slot ∙ or-false (is_torn_in later u p slot)

  pub cut-found : (p : Phase) (slot : Slot) → found_in (and_break later (cut_at u true k)) u p slot ≡ found_in later u p slot
  cut-found p slot = (break-more later (cut_at u true k) u).found p slot

  pub cut-failed : has_failed_in (and_break later (cut_at u true k)) u ≡ true
  cut-failed = failed-here later.breaks u k

pub here-append : (u : ℕ) (xs ys : List Break) → AllByRecursion (λ (b : Break). second_of b ≡ u) xs → AllByRecursion (λ (b : Break). second_of b ≡ u) ys → AllByRecursion (λ (b : Break). second_of b ≡ u) (xs ++ ys)
here-append u [] ys hx hy = hy
here-append u (x ∷ xs) ys hx hy = (hx.0, here-append u xs ys hx.1 hy)

pub tears-here_ : (second begun : ℕ) (late : Bool) (lines : List Break) → AreTears (record { second = second; begun = begun; late = late }) lines → AllByRecursion (λ (b : Break). second_of b ≡ second) lines
tears-here_ second begun late [] h = tt
tears-here_ second begun late (b ∷ lines) h = (ap second_of h.0.1, tears-here_ second begun late lines h.1)

-- MORE LINES OF THE SECOND change no earlier one.
module _ (o : Origin) (done : List TraceSecond) (s : TraceSecond) (at : Phase) (waits : List Visit) (speed : Option ℕ) (rest : List Minute) (v : Values) (d : Devices) (w : RecordInSecond o done s at waits speed rest v d) where
  module _ (lines : List Break) (later : RunLog) (is : later ≡ record v.log { breaks = v.log.breaks ++ lines }) (here : AllByRecursion (λ (b : Break). second_of b ≡ s.number) lines) where
    pub goes-by : GoesOnBy w.b.run later s
    goes-by = record {
      number = w.moment.number;
      given = w.moment.given;
      breaks = (
        w.moment.breaks ++ lines,
        ap (λ (l : RunLog). l.breaks) is ∙ ap (λ (bs : List Break). bs ++ lines) w.moment.breaks_are ∙ append_assoc w.b.run.log.breaks w.moment.breaks lines,
        here-append w.b.run.next w.moment.breaks lines w.moment.breaks_here (subst (λ (u : ℕ). AllByRecursion (λ (b : Break). second_of b ≡ u) lines) w.moment.number here),
      );
      finds = (w.moment.finds, ap (λ (l : RunLog). l.finds) is ∙ w.moment.finds_are, w.moment.finds_here);
    }

    pub goes-behind : GoesBehind w.b.run.log later done
    goes-behind = record {
      same = same-before o done w.b.run w.began.followed s later goes-by;
      went_is = went-same_ (rule_of o) (start_at o) o.from (first_of o) done w.b.run w.began.followed.order w.began.followed.next w.began.followed.unfound s later goes-by;
    }

  lit-followed : BookFollowsRun (rule_of o) (start_at o) o.from (first_of o) done (record w.b.run { supply = IsLit w.b.span })
  lit-followed = with-supply (rule_of o) (start_at o) o.from (first_of o) done w.b.run (IsLit w.b.span) w.lit w.began.followed

  -- THE SECOND HAS POWER, which begins with it where its span has no second yet.
  pub power-here : has_power (went w.b.run.log done).before s ≡ true
  power-here = lit-power w.b.span (went w.b.run.log done).before s w.b.run.next lit-followed.power w.moment.number w.moment.given

  pub starts-here : not (went w.b.run.log done).before.running ≡ begins_with w.b.span
  starts-here = lit-starts w.b.span (went w.b.run.log done).before w.b.run.next lit-followed.power

  spans-here : spans_of (went w.b.run.log done).told ≡ lit-followed.ended ++ as_spans w.b.span
  spans-here = lit-followed.spans

  -- ---- its odometer

  at-seconds : (span : List ToldSecond) → (span_at (rule_of o) w.b.run.next span).seconds ≡ seconds_in span
  at-seconds [] = refl
  at-seconds (t ∷ span) = refl

times-seconds : (k : ℕ) (span : Span) → (settled_times k span).seconds ≡ span.seconds
times-seconds zero span = refl
times-seconds (suc k) span = times-seconds k span

-- the sum of the speeds of the span, before the second is fed
pub travelled-is : (o : Origin) (done : List TraceSecond) (s : TraceSecond) (at : Phase) (waits : List Visit) (rest : List Minute) (v : Values) (d : Devices) (w : RecordInSecond o done s at waits None rest v d) → travelled_of w.sp ≡ sum_by (λ (x : Second). x.speed) (seconds_in w.b.span)
travelled-is o done s at waits rest v d w =
    ap (λ (x : Span). travelled_of x) w.decided.span_is
    ∙ ap (λ (ss : List Second). sum_by (λ (x : Second). x.speed) ss)
    (times-seconds w.decided.times (span_at (rule_of o) w.b.run.next w.b.span) ∙ at-seconds o done s at waits None rest v d w w.b.span)

-- ---- spans

go-on-last : (earlier : List SpanFrom) (z : SpanFrom) (base : ℕ) (t : ToldSecond) → go_on_from (earlier ++ z ∷ []) base t ≡ earlier ++ record { base = z.base; span = z.span ++ t ∷ [] } ∷ []
go-on-last [] z base t = refl
go-on-last (x ∷ []) z base t = refl
go-on-last (x ∷ y ∷ earlier) z base t = ap (λ (l : List SpanFrom). x ∷ l) (go-on-last (y ∷ earlier) z base t)

-- two lists end in one element
last-same : (xs ys : List SpanFrom) (x y : SpanFrom) → xs ++ x ∷ [] ≡ ys ++ y ∷ [] → x ≡ y
last-same [] [] x y is = cc
last-same [] (b ∷ []) x y is = absurd (cc)
last-same [] (b ∷ c ∷ ys) x y is = absurd (cc)
last-same (a ∷ []) [] x y is = absurd (cc)
last-same (a ∷ c ∷ xs) [] x y is = absurd (cc)
last-same (a ∷ xs) (b ∷ ys) x y is = last-same xs ys x y (let tails : xs ++ x ∷ [] ≡ ys ++ y ∷ [] = cc in tails)

-- the span of the last one
last-of-map : (spans : List SpanFrom) (ys : List (List ToldSecond)) (y : List ToldSecond) → map (λ (z : SpanFrom). z.span) spans ≡ ys ++ y ∷ [] → (earlier : List SpanFrom) × (z : SpanFrom) × (spans ≡ earlier ++ z ∷ []) × (z.span ≡ y)
last-of-map [] [] y is = absurd (cc)
last-of-map [] (b ∷ ys) y is = absurd (cc)
last-of-map (z ∷ []) [] y is = ([], z, refl, (let heads : z.span ≡ y = cc in heads))
last-of-map (z ∷ x ∷ spans) [] y is = absurd (cc)
last-of-map (z ∷ []) (b ∷ []) y is = absurd (cc)
last-of-map (z ∷ []) (b ∷ c ∷ ys) y is = absurd (cc)
last-of-map (z ∷ x ∷ spans) (b ∷ ys) y is =
    let tails : map (λ (z : SpanFrom). z.span) (x ∷ spans) ≡ ys ++ y ∷ [] = cc in
    let rest = last-of-map (x ∷ spans) ys y tails in
    (z ∷ rest.0, rest.1, ap (λ (l : List SpanFrom). z ∷ l) rest.2, rest.3)

-- a span goes on from where it began, and a new one begins there
pub goes-last : (base : ℕ) (spans : List SpanFrom) (t : ToldSecond) → t.lit ≡ true → t.starts ≡ false → IsLastFrom base spans → IsLastFrom base (with_second spans base t)
goes-last base spans t lit starts last = (
  last.0,
  record { base = last.1.base; span = last.1.span ++ t ∷ [] },
  (λ i. cond (lit i) (cond (starts i) (last.2 i ++ record { base = base; span = t ∷ [] } ∷ []) (go_on_from (last.2 i) base t)) (last.2 i)) ∙ go-on-last last.0 last.1 base t,
  last.3,
)

pub begins-last : (base : ℕ) (spans : List SpanFrom) (t : ToldSecond) → t.lit ≡ true → t.starts ≡ true → IsLastFrom base (with_second spans base t)
begins-last base spans t lit starts = (spans, record { base = base; span = t ∷ [] }, (λ i. cond (lit i) (cond (starts i) (spans ++ record { base = base; span = t ∷ [] } ∷ []) (go_on_from spans base t)) spans), refl)

-- a list of spans ends in one, or has none
ends-in-one : (spans : List SpanFrom) → (spans ≡ []) ⊎ ((earlier : List SpanFrom) × (z : SpanFrom) × (spans ≡ earlier ++ z ∷ []))
ends-in-one [] = inl refl
ends-in-one (x ∷ spans) = ⊎_elim
    (λ none. inr ([], x, ap (λ (l : List SpanFrom). x ∷ l) none))
    (λ some. inr (x ∷ some.0, some.1, ap (λ (l : List SpanFrom). x ∷ l) some.2))
    (ends-in-one spans)

-- where none begins with the second, it was there before it
last-before : (base : ℕ) (spans : List SpanFrom) (t : ToldSecond) → t.lit ≡ true → t.starts ≡ false → IsLastFrom base (with_second spans base t) → (spans ≡ []) ⊎ IsLastFrom base spans
last-before base spans t lit starts last = ⊎_elim
    (λ none. inl none)
    (λ (some : (earlier : List SpanFrom) × (z : SpanFrom) × (spans ≡ earlier ++ z ∷ [])).
    let z : SpanFrom = some.1 in
    let now : SpanFrom = record { base = z.base; span = z.span ++ t ∷ [] } in
    let shape : with_second spans base t ≡ some.0 ++ now ∷ [] =
    (λ i. cond (lit i) (cond (starts i) (some.2 i ++ record { base = base; span = t ∷ [] } ∷ []) (go_on_from (some.2 i) base t)) (some.2 i)) ∙ go-on-last some.0 z base t in
    let same : now ≡ last.1 = last-same some.0 last.0 now last.1 (sym shape ∙ last.2) in
    inr (some.0, z, some.2, ap (λ (x : SpanFrom). x.base) same ∙ last.3))
    (ends-in-one spans)

-- whatever is told of the second
pub alike-last : (base : ℕ) (spans : List SpanFrom) (t x : ToldSecond) → t.lit ≡ true → x.lit ≡ true → x.starts ≡ t.starts → IsLastFrom base (with_second spans base t) → IsLastFrom base (with_second spans base x)
alike-last base spans t x lit lit_x same last = by t.starts refl
  where
    by : (b : Bool) → t.starts ≡ b → IsLastFrom base (with_second spans base x)
    by true starts = begins-last base spans x lit_x (same ∙ starts)
    by false goes = ⊎_elim
        (λ none. (
          [],
          record { base = base; span = x ∷ [] },
          (λ i. cond (lit_x i) (cond ((same ∙ goes) i) (none i ++ record { base = base; span = x ∷ [] } ∷ []) (go_on_from (none i) base x)) (none i)),
          refl,
        ))
        (λ there. goes-last base spans x lit_x (same ∙ goes) there)
        (last-before base spans t lit goes last)

-- ---- THE ODOMETER OF NOW
module _ (o : Origin) (done : List TraceSecond) (s : TraceSecond) (at : Phase) (waits : List Visit) (rest : List Minute) (v : Values) (d : Devices) (w : RecordInSecond o done s at waits None rest v d) (front : List Action) (log : RunLog) (spans : List SpanFrom) (base : ℕ) (t : ToldSecond)
    (seats : Card → Option Seating) (r : RingedIn o done s w.b.run.log front log spans base t seats d) (last : IsLastFrom base (with_second spans base t)) where
  swap : (a b : ℕ) → min a b ≡ min b a
  swap a b = omega arith

  by-span : (span : List ToldSecond) → w.b.span ≡ span → odometer_at t.second.number (with_second spans base t) ≡ odometer_on base (seconds_in span)
  by-span [] is =
      (odometer-now spans base t r.second.lit (subst (λ (u : ℕ). AreAllBefore u spans) (sym r.second.number) r.before)).0
      (r.second.starts ∙ starts-here o done s at waits None rest v d w ∙ ap begins_with is)
  by-span (x ∷ xs) is =
      let starts : t.starts ≡ false = r.second.starts ∙ starts-here o done s at waits None rest v d w ∙ ap begins_with is in
      let are : map (λ (z : SpanFrom). z.span) spans ≡ (lit-followed o done s at waits None rest v d w).ended ++ (x ∷ xs) ∷ [] =
      r.spans_are ∙ spans-here o done s at waits None rest v d w ∙ ap (λ (l : List ToldSecond). (lit-followed o done s at waits None rest v d w).ended ++ as_spans l) is in
      let one = last-of-map spans (lit-followed o done s at waits None rest v d w).ended (x ∷ xs) are in
      let z : SpanFrom = one.1 in
      let there : IsLastFrom base spans = ⊎_elim
      (λ none. absurd (nothing one.0 z (sym none ∙ one.2)))
      (λ there. there)
      (last-before base spans t r.second.lit starts last) in
      let from : z.base ≡ base = ap (λ (y : SpanFrom). y.base) (last-same one.0 there.0 z there.1 (sym one.2 ∙ there.2)) ∙ there.3 in
      (odometer-now spans base t r.second.lit (subst (λ (u : ℕ). AreAllBefore u spans) (sym r.second.number) r.before)).1 one.0 z starts one.2
      ∙ (λ i. odometer_on (from i) (seconds_in (one.3 i)))
    where
      nothing : (earlier : List SpanFrom) (z : SpanFrom) → [] ≡ earlier ++ z ∷ [] → ⊥
      nothing [] z is = absurd (cc)
      nothing (y ∷ earlier) z is = absurd (cc)

  pub odometer-here : odometer_at s.number (with_second spans base t) ≡ odometer_by base (travelled_of w.sp)
  odometer-here =
      ap (λ (u : ℕ). odometer_at u (with_second spans base t)) (sym r.second.number)
      ∙ by-span w.b.span refl
      ∙ swap HIGHEST_ODOMETER (base + sum_by (λ (x : Second). x.speed) (seconds_in w.b.span) / 3600)
      ∙ ap (λ (k : ℕ). min (base + k / 3600) HIGHEST_ODOMETER) (sym (travelled-is o done s at waits rest v d w))

-- ---- AT AN ACTION
module _ (o : Origin) (done : List TraceSecond) (s : TraceSecond) (front rest : List Action) (a : Action) (are : s.actions ≡ front ++ a ∷ rest) (v : Values) (d : Devices) (w : RecordInSecond o done s (In (length front)) [] None [] v d)
    (lines : List Break) (later : RunLog) (is : later ≡ record v.log { breaks = v.log.breaks ++ lines }) (tears : AreTears (record { second = s.number; begun = suc (length front); late = false }) lines) where
  abbrev was : Before
  was = (went w.b.run.log done).before

  told : TellsBeside v.log later s.number (In (suc (length front)))
  told = tears-beside (record { second = s.number; begun = suc (length front); late = false }) lines v.log later is tears

  pub later-uncut : cut_in later s.number ≡ None
  later-uncut = told.cut ∙ w.moment.up_to.uncut

  other : (k : ℕ) → k ≤ length front → same_phase (In (suc (length front))) (In k) ≡ false
  other k le = grind (arith, nat_tests)

  pub goes-to : GoesOnTo v.log later s front
  goes-to = record {
    lines = (lines, ap (λ (l : RunLog). l.breaks) is);
    same = record {
      begun = λ k lt. ap (λ (q : Option ℕ). begins q k) w.moment.up_to.uncut;
      begun_later = λ k lt. ap (λ (q : Option ℕ). begins q k) later-uncut;
      torn = λ k slot le. told.torn (In k) slot (other k le);
      found = λ k slot le. told.found (In k) slot;
    };
    begun = ap (λ (q : Option ℕ). begins q (length front)) later-uncut;
  }

  same-up : SameUpTo v.log later s.number (length front)
  same-up = record { none = w.moment.up_to.uncut; behind = inl later-uncut; torn = λ k slot le. told.torn (In k) slot (other k le); found = λ k slot le. told.found (In k) slot }

  few : length front ≤ length s.actions
  few = let all = ap (λ (l : List Action). length l) are ∙ length-append front (a ∷ rest) in omega (arith, all)

  take-them : take (length front) s.actions ≡ front
  take-them = ap (take (length front)) are ∙ take-append_seam front (a ∷ rest)

  -- the course behind the actions before it is that of their moment
  pub course-then : course_behind later was s front ≡ course_in w.b done s (In (length front)) v.log
  course-then =
      ap (λ (as_ : List Action). all_acted later s 0 as_ (course_powered later was s)) (sym take-them)
      ∙ later-lines v.log later was s (length front) same-up
      ∙ at-by v.log was s w.moment.up_to.uncut (length front) few

  pub sits-then : (slot : Slot) (x : Sitting) → in_slot (course_in w.b done s (In (length front)) v.log).slots slot ≡ Some x → in_slot (course_behind later was s front).slots slot ≡ Some x
  sits-then slot x there = ap (λ (c : Course). in_slot c.slots slot) course-then ∙ there

  -- ---- and where it is cut behind them
  abbrev log_cut : RunLog
  log_cut = with_cut later s (front ++ a ∷ [])

  longer : length (front ++ a ∷ []) ≡ suc (length front)
  longer = let n = length-append front (a ∷ []) in omega (arith, n)

  cut-here : cut_in log_cut s.number ≡ Some (suc (length front))
  cut-here = cut-is later s.number (length (front ++ a ∷ [])) later-uncut ∙ ap (λ (n : ℕ). Some n) longer

  begun-cut : (k : ℕ) → k ≤ length front → begins (cut_in log_cut s.number) k ≡ true
  begun-cut k le = ap (λ (q : Option ℕ). begins q k) cut-here ∙ (let lt : nat_lt k (suc (length front)) ≡ true = grind (arith, nat_tests) in lt)

  cut-lines : log_cut ≡ record v.log { breaks = v.log.breaks ++ (lines ++ cut_at s.number true (length (front ++ a ∷ [])) ∷ []) }
  cut-lines =
      ap (λ (l : RunLog). with_cut l s (front ++ a ∷ [])) is
      ∙ ap (λ (bs : List Break). record v.log { breaks = bs }) (append_assoc v.log.breaks lines (cut_at s.number true (length (front ++ a ∷ [])) ∷ []))

  pub is-cut : IsCutIn w.b.run.log v.log log_cut done s front a rest
  is-cut = record {
    goes = record {
      lines = (lines ++ cut_at s.number true (length (front ++ a ∷ [])) ∷ [], ap (λ (l : RunLog). l.breaks) cut-lines);
      same = record {
        begun = λ k lt. ap (λ (q : Option ℕ). begins q k) w.moment.up_to.uncut;
        begun_later = λ k lt. begun-cut k (omega (arith, lt));
        torn = λ k slot le. cut-torn later s.number (length (front ++ a ∷ [])) later-uncut (In k) slot ∙ told.torn (In k) slot (other k le);
        found = λ k slot le. cut-found later s.number (length (front ++ a ∷ [])) later-uncut (In k) slot ∙ told.found (In k) slot;
      };
      begun = begun-cut (length front) (omega arith);
    };
    are = are;
    cut_is = cut-here;
    failed = cut-failed later s.number (length (front ++ a ∷ [])) later-uncut;
    behind = goes-behind o done s (In (length front)) [] None [] v d w (lines ++ cut_at s.number true (length (front ++ a ∷ [])) ∷ []) log_cut cut-lines
        (here-append s.number lines (cut_at s.number true (length (front ++ a ∷ [])) ∷ []) (tears-here_ s.number (suc (length front)) false lines tears) (refl, tt));
    power = power-here o done s (In (length front)) [] None [] v d w;
  }

  same-up_cut : SameUpTo v.log log_cut s.number (length front)
  same-up_cut = record {
    none = w.moment.up_to.uncut;
    behind = inr (suc (length front), cut-here, omega arith);
    torn = λ k slot le. cut-torn later s.number (length (front ++ a ∷ [])) later-uncut (In k) slot ∙ told.torn (In k) slot (other k le);
    found = λ k slot le. cut-found later s.number (length (front ++ a ∷ [])) later-uncut (In k) slot ∙ told.found (In k) slot;
  }

  pub sits-cut : (slot : Slot) (x : Sitting) → in_slot (course_in w.b done s (In (length front)) v.log).slots slot ≡ Some x → in_slot (course_behind log_cut was s front).slots slot ≡ Some x
  sits-cut slot x there =
      ap (λ (c : Course). in_slot c.slots slot) (
      ap (λ (as_ : List Action). all_acted log_cut s 0 as_ (course_powered log_cut was s)) (sym take-them)
      ∙ later-lines v.log log_cut was s (length front) same-up_cut
      ∙ at-by v.log was s w.moment.up_to.uncut (length front) few
      )
      ∙ there

  pub torn-cut : (p : Phase) (slot : Slot) → is_torn_in log_cut s.number p slot ≡ is_torn_in later s.number p slot
  torn-cut p slot = cut-torn later s.number (length (front ++ a ∷ [])) later-uncut p slot

-- ---- who sits without a session
pub bare-there : (start : Start) (past : List HistoryMinute) (from : ℕ) (k : SlotsKept) (low : ℕ) (cards : Cards) (card : Card) (seat : Option Seat) (sitting : Option Sitting) → SitsAs start past from k seat sitting → SeatAnswers low cards seat →
    card_in seat ≡ Some card → session_of cards card ≡ None → (x : Sitting) × (sitting ≡ Some x) × (x.card ≡ card) × (x.accepted ≡ None)
bare-there start past from k low cards card None sitting sits answers here none = absurd (cc)
bare-there start past from k low cards card (Some seat) None sits answers here none = absurd sits
bare-there start past from k low cards card (Some seat) (Some x) sits answers here none =
    let own : seat.card ≡ card = cc in
    (x, refl, sym sits.0 ∙ own, by seat.newest (session_of cards seat.card) x.accepted answers (ap (λ (c : Card). session_of cards c) own ∙ none) sits.1)
  where
    by : (n : Option ℕ) (q : Option Accepted) (u : Option ℕ) → AnswersTo low n q → q ≡ None → IsNewest start past from k seat.card n u → u ≡ None
    by None q None h is new = refl
    by None q (Some u) h is new = absurd new
    by (Some n) None u h is new = absurd h
    by (Some n) (Some a) u h is new = absurd (cc)

-- ---- what might have been left
pub left-after : (U V W : State) → HasLeftMore U V → U.clock ≤ V.clock → HasLeftMore V W → HasLeftMore U W
left-after U V W first on next = λ t x le at. next t x (omega (arith, le, on)) (first t x le at)

pub more-left : (o : Origin) (d e : Devices) → o.found.unit.began ≤ d.unit.clock → ((c : Card) → (found_of o.found c).began ≤ (card_of d c).clock) → AreLeftMore d e → HaveLeftMore o d e
more-left o d e unit cards h = record { unit = λ x at. h.unit o.found.unit.began x unit at; card = of-card }
  where
    of-card : (c : Card) (x : List ℕ) → (card_of d c).left_since (found_of o.found c).began x → (card_of e c).left_since (found_of o.found c).began x
    of-card A x at = h.card_a o.found.card_a.began x (cards A) at
    of-card B x at = h.card_b o.found.card_b.began x (cards B) at

-- more is told since the second began
pub since-begun : (o : Origin) (done : List TraceSecond) (s : TraceSecond) (at : Phase) (waits : List Visit) (sp : Option ℕ) (rest : List Minute) (v : Values) (d : Devices) (w : RecordInSecond o done s at waits sp rest v d) (later : RunLog) → HasMoreBreaks v.log later → HasMoreBreaks w.b.run.log later
since-begun o done s at waits sp rest v d w later more = (w.moment.breaks ++ more.0, more.1 ∙ ap (λ (bs : List Break). bs ++ more.0) w.moment.breaks_are ∙ append_assoc w.b.run.log.breaks w.moment.breaks more.0)
