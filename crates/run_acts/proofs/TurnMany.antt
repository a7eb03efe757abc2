-- More than one second of a minute without actions: what is noted behind them of their events.
use Rattle.std.proofs.Common.{◌≡◌, ◌∙◌, ℕ, zero, suc, ◌+◌, ◌-◌, ◌/◌, ◌%◌, ◌^◌, ◌≤◌, ◌<◌, Bool, true, false, cond, not, Option, Some, None, List, [], ◌∷◌, ◌++◌, length, map, refl, ap, sym, subst, arith, append-nil, append_assoc}
use Rattle.std.specs.List.{AllByRecursion}
use Rattle.activity_codec.specs.declared.values.Slot.{Slot}
use Rattle.trace_model.specs.declared.Card.{Card}
use Rattle.trace_model.specs.declared.Action.{Action}
use Rattle.trace_model.specs.Trace.{TraceSecond, driven}
use Rattle.card_files.specs.card_layout.declared.command.CardState.{CardState}
use Rattle.tach_media.specs.Medium.{State, IsCoherent}
use Rattle.unit_model.specs.minute_model.declared.Minute.{Minute}
use Rattle.unit_model.specs.minute_model.Span.{Span, decided_in, fed_many, ungiven_of}
use Rattle.minute_rules.specs.Kept.{Kept, CountsSpan}
use Rattle.log_model.specs.declared.lines.Break.{Break}
use Rattle.log_model.specs.declared.lines.Mark.{Mark}
use Rattle.log_model.specs.Log.{RunLog, In, Keeping, is_torn_in}
use Rattle.log_model.specs.Course.{ToldSecond as Second, Course, Before, has_power, went, Went, fresh}
use Rattle.unit_model.specs.Image.{IsUnit, odometer_at}
use Rattle.device_calls.specs.unit_rule.Odometer.{odometer_after}
use Rattle.device_calls.specs.run_unit_course.Followed.{UnitPower, Lit as IsLit, Lost as IsLost, Due as IsDue}
use Rattle.device_calls.specs.run_unit_course.Turn.{begins_with, span_at}
use Rattle.unit_notes.specs.event_model.Events.{Event, Seen, course_by, seen_of, seen_spans, number_of, is_bare, accepted_card, seen_on}
use Rattle.unit_notes.specs.event_model.Events as events
use Rattle.run_events.specs.Shown.{all_sure}
use Rattle.run_events.specs.Watched.{watched, named}
use Rattle.run_events.specs.Turned.{AreLow, IsLow}
use Rattle.run_events.proofs.CrewsFed.{one-fed, still-seen, still-quiet, still-fed}
use Rattle.device_calls.specs.safety_model.Safe.{Devices, breakdowns_of}
use Rattle.run_crew.specs.declared.cabin.Cabin.{Cabin}
use Rattle.run_crew.specs.Cabin.{crew_of}
use Rattle.run_events.specs.run_course.Followed.{Progress, BookFollowsRun}
use Rattle.run_events.specs.run_course.Seconds.{next_told}
use Rattle.run_events.proofs.run_course.Steps.{with-supply, went-same_}
use Rattle.run_events.proofs.run_course.Told.{lit-told, lit-power, lit-starts}
use Rattle.run_events.specs.run_course.Moment.{Moment as SecondMoment, goes_on}
use Rattle.run_events.specs.run_course.Reached.{Reaches}
use Rattle.run_events.specs.declared.watch.Watch.{Watch}
use Rattle.run_outcome.specs.declared.outcome.Outcome.{Outcome}
use Rattle.run_outcome.specs.Lines.{Listed}
use Rattle.run_minutes.specs.run_promise.Origin.{Origin, start_at, rule_of, first_of}
use Rattle.run_events.specs.Seconds.{bares_by, overs_by, span_before, seen_next, last_of as last_span, IsQuiet, is_fast}
use Rattle.run_events.proofs.Later.{told-number, seen-same}
use Rattle.run_note_record.specs.Evented.{limit_in, number_in, Evented, EventedBy}
use Rattle.run_note_record.specs.Noting.{Acting, Ended, NotesThese, stage_of}
use Rattle.run_note_record.specs.EventsSoFar.{EventedNow, Adds, BeginsNow}
use Rattle.run_note_record.proofs.Adding.{call-notes, second-ends_now, second-begins_now}
use Rattle.run_note_record.proofs.Ending.{ends-added}
use Rattle.run_minutes.specs.declared.keeper.Keeper.{Keeper}
use Rattle.run_minutes.specs.Books.{HaveTime}
use Rattle.run_minutes.specs.Minutes.{Reach}
use Rattle.run_record.specs.Within.{RecordInSecond, told_before, course_in, passed_values}
use Rattle.run_acts.specs.declared.run.Run.{Run}
use Rattle.run_acts.specs.declared.run.Power.{Power}
use Rattle.run_acts.specs.declared.run.Power.TheVariants.{Lit, Lost, Due}
use Rattle.run_acts.specs.Power.{passed}
use Rattle.run_acts.specs.Booked.{IsTurnReach, BooksTurn, IsBookedTurn}
use Rattle.run_acts.specs.Devices.{DevicesGoOn}
use Rattle.run_acts.specs.Faults.{NotesKeeping}
use Rattle.run_acts.specs.Named.{watched_as, ValidHere, CrewValid}
use Rattle.run_acts.specs.Recording.{log_of, values_of, Supplies, IsNow}
use Rattle.run_acts.specs.Turning.{late_moment, told_of, cut_where, cut_breaks, IsLitTurn}
use Rattle.run_acts.specs.Evented.{IsWatching, TurnedEvents, WithinEvented, LastAt, EventsLitTurn, CutEvented}
use Rattle.run_acts.proofs.EventCrews.{AllSitWell, crew-sits}
use Rattle.run_acts.proofs.TurnRecorded.{pushed, reach-is, books-is, between-is, new-is, after-is}
use Rattle.run_note_record.proofs.Lines.{same-before}
use Rattle.log_model.specs.Slots.{Slots, Sitting, is_accepted}
use Rattle.log_model.specs.ByHand.{by_slots}
use Rattle.run_events.specs.Watching.{seconds_with, CrewSecond}
use Rattle.run_record.specs.Turning.{last_of, before_last, IsTurned, BehindFirst}
use Rattle.run_record.proofs.Turning.{turn-is_fed, turn-ends as turn-ended}
use Rattle.run_acts.specs.Going.{RunHasPower, end_of_seconds, first_second}
use Rattle.run_acts.proofs.Named.{crew-valid, known-as}
use Rattle.run_acts.proofs.SeenSpan.{span-more}
use Rattle.run_acts.proofs.SettledRecorded.{same-ungiven}
use Rattle.std.proofs.lemmas.List.{map-append}
use Rattle.run_events.specs.run_course.Quiet.{quiet_seconds}
use Rattle.std.specs.Prelude.{is_some, option_map, ◌&&◌, nat_lt}
use Rattle.event_rules.proofs.InARow.{one_more}
use Rattle.unit_notes.specs.event_model.Spans.{in_a_row}
use Rattle.run_events.specs.Fed.{IsSilentFrom, going_with, still_seconds}
use Rattle.tacho_types.specs.declared.card_number.FullCardNumber.{FullCardNumber}
use Rattle.run_crew.specs.declared.cards.Crew.{Crew}
use Rattle.run_events.proofs.run_course.Reached.{at-by, nothing-told}
use Rattle.run_events.proofs.run_course.Telling.{keeping-comes}
use Rattle.run_events.proofs.Shows.{nothing-more}
use Rattle.run_events.proofs.Growing.{spans-more}
use Rattle.run_minutes.specs.run_promise.Beside.{HaveLeftMore}
use Rattle.run_note_record.specs.Going.{AreQuiet}
use Rattle.run_note_record.proofs.Brought.{told-speed}
use Rattle.run_note_record.proofs.Quiet.{ends-nothing, quiet-brings_nothing}
use Rattle.run_events.proofs.Quiet.{bares-split, overs-split}
use Rattle.run_record.specs.Recorded.{progress}
use Rattle.trace_model.specs.declared.Card.TheVariants.{A as CardA_, B as CardB_}
use Rattle.hand_model.specs.card_image.Own.{IsOwnValid}
use Rattle.device_calls.specs.safety_model.Recording.{card_image}
use Rattle.run_minutes.specs.run_promise.Ends.{recording_by}
use Rattle.run_acts.proofs.LastAlike.{last-ends}
use Rattle.run_note_record.proofs.Unlit.{dark-seconds}
use Rattle.run_acts.proofs.Stays.{all-both}
use Rattle.run_acts.proofs.TurnSeconds.{one-events, well, then_, last-events, crew-x, valid-x, low-x, front-now}

-- ---- a span that goes on
evented-lit : (o : Origin) (done : List TraceSecond) (log : RunLog) (unfound next : ℕ) (t u : Second) (xs ys : List Second) (d : Devices) → Evented o done log unfound next (IsLit (t ∷ xs)) d → Evented o done log unfound next (IsLit (u ∷ ys)) d
evented-lit o done log unfound next t u xs ys d v = record {
  tearing = v.tearing;
  sessions = v.sessions;
  plain = v.plain;
  events = v.events;
  gaps = record { known = v.gaps.known; last = tt };
  found_open = v.found_open;
  exact = v.exact;
}

record HasFirst (xs : List Second) : Type 0 where
  first : Second
  rest : List Second
  is : xs ≡ first ∷ rest

has-first : (xs : List Second) → begins_with xs ≡ false → HasFirst xs
has-first [] is = absurd (let bad : true ≡ false = is in cc)
has-first (x ∷ xs) is = record { first = x; rest = xs; is = refl }

-- ---- quiet seconds go on the last span
on-quiet : (spans : List (List Seen)) (x : Seen) (lit starts : Bool) → lit ≡ true → starts ≡ false → last_span (cond lit (cond starts (spans ++ (x ∷ []) ∷ []) (seen_on spans x)) spans) ≡ last_span spans ++ x ∷ []
on-quiet spans x true true is none = absurd (let bad : true ≡ false = none in cc)
on-quiet spans x true false is none = last-seen_on spans x
  where
    last-seen_on : (spans : List (List Seen)) (x : Seen) → last_span (seen_on spans x) ≡ last_span spans ++ x ∷ []
    last-seen_on [] x = refl
    last-seen_on (span ∷ []) x = refl
    last-seen_on (span ∷ next ∷ []) x = refl
    last-seen_on (span ∷ next ∷ third ∷ spans) x = last-seen_on (next ∷ third ∷ spans) x
on-quiet spans x false starts is none = absurd (let bad : false ≡ true = is in cc)

quiet-last : (xs qs : List Seen) → AllByRecursion IsQuiet qs → last_span (seen_spans (xs ++ qs)) ≡ last_span (seen_spans xs) ++ qs
quiet-last xs [] all = ap (λ (ys : List Seen). last_span (seen_spans ys)) (append-nil xs) ∙ sym (append-nil (last_span (seen_spans xs)))
quiet-last xs (q ∷ qs) all =
    ap (λ (ys : List Seen). last_span (seen_spans ys)) (sym (append_assoc xs (q ∷ []) qs))
    ∙ quiet-last (xs ++ q ∷ []) qs all.1
    ∙ ap (λ (ys : List Seen). ys ++ qs) (ap last_span (spans-more xs q) ∙ on-quiet (seen_spans xs) q q.told.lit q.told.starts all.0.lit all.0.goes_on)
    ∙ append_assoc (last_span (seen_spans xs)) (q ∷ []) qs

-- ---- seconds with the same cards
accepted-some : (f : Card → FullCardNumber) (o : Option Sitting) → is_accepted o ≡ is_some (option_map {T = Card} {U = FullCardNumber} f (accepted_card o))
accepted-some f None = refl
accepted-some f (Some x) = by x.accepted refl
  where
    by : (a : Option ℕ) → x.accepted ≡ a → is_accepted (Some x) ≡ is_some (option_map {T = Card} {U = FullCardNumber} f (accepted_card (Some x)))
    by None is = ap (λ (q : Option ℕ). is_accepted (Some (record { card = x.card; accepted = q }))) is ∙ sym (ap (λ (q : Option ℕ). is_some (option_map {T = Card} {U = FullCardNumber} f (accepted_card (Some (record { card = x.card; accepted = q }))))) is)
    by (Some u) is = ap (λ (q : Option ℕ). is_accepted (Some (record { card = x.card; accepted = q }))) is ∙ sym (ap (λ (q : Option ℕ). is_some (option_map {T = Card} {U = FullCardNumber} f (accepted_card (Some (record { card = x.card; accepted = q }))))) is)

-- a second at a speed with a crew
pub record IsFedBy (f : Card → FullCardNumber) (speed : ℕ) (crew : Crew) (y : Seen) : Type 0 where
  pub at : y.told.second.speed ≡ speed
  pub named_ : crew ≡ named f (events.crew_of y.itself)

abbrev bare_at : (speed : ℕ) → Crew → Bool
bare_at speed crew = nat_lt 0 speed && not (is_some crew.driver)

bare-by : (f : Card → FullCardNumber) (speed : ℕ) (crew : Crew) (y : Seen) → IsFedBy f speed crew y → is_bare y ≡ bare_at speed crew
bare-by f speed crew y h =
    (λ i. nat_lt 0 (h.at i) && not (accepted-some f y.itself.driver i))
    ∙ ap (λ (c : Crew). nat_lt 0 speed && not (is_some c.driver)) (sym h.named_)

bares-by_ : (f : Card → FullCardNumber) (speed : ℕ) (crew : Crew) (ys : List Seen) → AllByRecursion (IsFedBy f speed crew) ys → AllByRecursion (λ (y : Seen). is_bare y ≡ bare_at speed crew) ys
bares-by_ f speed crew [] all = tt
bares-by_ f speed crew (y ∷ ys) all = (bare-by f speed crew y all.0, bares-by_ f speed crew ys all.1)

fasts-by : (f : Card → FullCardNumber) (limit speed : ℕ) (crew : Crew) (ys : List Seen) → AllByRecursion (IsFedBy f speed crew) ys → AllByRecursion (λ (y : Seen). is_fast limit y ≡ nat_lt limit speed) ys
fasts-by f limit speed crew [] all = tt
fasts-by f limit speed crew (y ∷ ys) all = (ap (λ (k : ℕ). nat_lt limit k) all.0.at, fasts-by f limit speed crew ys all.1)

-- such seconds end nothing behind one such
fed-ends : (f : Card → FullCardNumber) (limit speed : ℕ) (crew : Crew) (front : List Seen) (y : Seen) (ys : List Seen) → IsFedBy f speed crew y → AllByRecursion (IsFedBy f speed crew) ys → (bares_by (front ++ y ∷ []) ys ≡ []) × (overs_by limit (front ++ y ∷ []) ys ≡ [])
fed-ends f limit speed crew front y ys h all =
    ends-nothing limit front y ys (bare_at speed crew) (nat_lt limit speed) (bares-by_ f speed crew ys all) (λ is. sym (bare-by f speed crew y h) ∙ is) (fasts-by f limit speed crew ys all) (λ is. ap (λ (k : ℕ). nat_lt limit k) (sym h.at) ∙ is)

stills-fed : (f : Card → FullCardNumber) (n number speed : ℕ) (crew : Crew) (slots : Slots) → crew ≡ named f (events.crew_of slots) → AllByRecursion (IsFedBy f speed crew) (still_seconds n number speed slots)
stills-fed f zero number speed crew slots is = tt
stills-fed f (suc n) number speed crew slots is = (record { at = refl; named_ = is }, stills-fed f n (number + 1) speed crew slots is)

stills-low : (n number speed : ℕ) (slots : Slots) → 0 < number → number + n ≤ 2 ^ 32 → AllByRecursion (λ (y : Seen). IsLow (number_of y)) (still_seconds n number speed slots)
stills-low zero number speed slots some fits = tt
stills-low (suc n) number speed slots some fits = ((some, omega (arith, fits)), stills-low n (number + 1) speed slots (omega (arith, some)) (omega (arith, fits)))

stills-valid : (o : Origin) (n number speed : ℕ) (slots : Slots) → CrewValid o (events.crew_of slots) → AllByRecursion (λ (y : Seen). CrewValid o (events.crew_of y.itself)) (still_seconds n number speed slots)
stills-valid o zero number speed slots valid = tt
stills-valid o (suc n) number speed slots valid = (valid, stills-valid o n (number + 1) speed slots valid)

-- the images at the start do not go with the seconds
valid-now : (o : Origin) (done : List TraceSecond) (l : RunLog) (c : Card) → IsOwnValid (card_image (recording_by o done l) c) → ValidHere o c
valid-now o done l CardA_ h = h
valid-now o done l CardB_ h = h

-- nothing behind nothing
no-event : (xs ys : List Event) → xs ++ ys ≡ [] → ys ≡ []
no-event [] ys is = is
no-event (x ∷ xs) ys is = absurd (cc)

nothing-noted : (o : Origin) (d : Devices) → NotesThese o [] d d
nothing-noted o d c may = (c, may, nothing-more (number_in o) all_sure c c (record { tables = λ kind there. refl; first_over = refl; over_count = refl }))

left-same : (o : Origin) (d : Devices) → HaveLeftMore o d d
left-same o d = record { unit = λ x h. h; card = λ c x h. h }

-- ---- SEVERAL SECONDS
module _ {U A0 B0 : State} {chip_a chip_b : CardState} (n speed begun : ℕ) (old : Run) (before : Outcome) (minutes : Kept) (keeper : Keeper) (watch : Watch) (marks : Listed Mark) (breaks : Listed Break) (failed : Bool) (decided : List Minute) (reach : Reach) (d e : Devices)
    (g : RunHasPower None (old.next / 60) old U chip_a chip_b A0 B0) (lit : old.power ≡ Lit) (some : 0 < n) (minute : old.next % 60 + n ≤ 60) (small : old.next + n ≤ end_of_seconds) (early : first_second ≤ old.next)
    (stands : (sp : Span) → CountsSpan old.minutes sp → CountsSpan minutes (fed_many sp speed n)) (given : (sp : Span) → CountsSpan old.minutes sp → decided_in (fed_many sp speed n) ≡ decided_in sp ++ decided)
    (is : IsTurnReach decided (late_moment old.next n begun) failed (told_of (record old { minutes = minutes }) before) (told_of (record old { minutes = minutes; keeper = keeper; watch = watch }) (record before { marks = marks; breaks = breaks })) reach)
    (books : BooksTurn decided failed reach (told_of (record old { minutes = minutes }) before) (told_of (record old { minutes = minutes; keeper = keeper; watch = watch }) (record before { marks = marks; breaks = breaks })) d e)
    (devices : DevicesGoOn failed old.keeper.cabin.cards keeper.cabin.cards d e) (odometer : keeper.odometer ≡ old.keeper.odometer) (whole : IsCoherent d.unit) (unit : IsUnit d.unit)
    (noted : NotesKeeping decided n speed (late_moment old.next n begun) failed (record old { minutes = minutes }) (record old { minutes = minutes; keeper = keeper; watch = watch }) before (record before { marks = marks; breaks = breaks }) d.unit e.unit)
    (memory : keeper.memory ≡ old.keeper.memory) (time : HaveTime e)
    (c : ℕ) (many : n ≡ suc (suc c)) (o : Origin) (done : List TraceSecond) (s : TraceSecond) (now : IsNow s speed old) (actions : length s.actions ≡ begun) (none : s.actions ≡ []) (last : LastAt done speed)
    (r : WithinEvented o done s (In (length s.actions)) [] [] Acting old before d) where
  abbrev between : Run
  between = record old { minutes = minutes; keeper = keeper; watch = watch }

  abbrev told : Outcome
  told = record before { marks = marks; breaks = breaks }

  abbrev later : RunLog
  later = log_of told

  abbrev log : RunLog
  log = log_of before

  abbrev f : Card → FullCardNumber
  f = watched_as o

  abbrev crew : Crew
  crew = crew_of old.keeper.cabin

  -- the last one, and those before it
  abbrev L : TraceSecond
  L = last_of (suc c) s

  abbrev D : List TraceSecond
  D = before_last (suc c) s done

  feeds-all : (sp : Span) → CountsSpan old.minutes sp → CountsSpan minutes (fed_many sp s.speed (suc (suc c)))
  feeds-all sp h = subst (λ (k : ℕ). CountsSpan minutes (fed_many sp s.speed k)) many (subst (λ (k : ℕ). CountsSpan minutes (fed_many sp k n)) (sym now.speed_is) (stands sp h))

  given-all : (sp : Span) → CountsSpan old.minutes sp → decided_in (fed_many sp s.speed (suc (suc c))) ≡ decided_in sp ++ decided
  given-all sp h = subst (λ (k : ℕ). decided_in (fed_many sp s.speed k) ≡ decided_in sp ++ decided) many (subst (λ (k : ℕ). decided_in (fed_many sp k n) ≡ decided_in sp ++ decided) (sym now.speed_is) (given sp h))

  turned : IsTurned o done s (suc c) decided minutes (values_of old before) d r.within.within
  turned = turn-is_fed d o done s (values_of old before) r.within.within (suc c) (let is_ = now.number in omega (arith, minute, many, is_)) minutes feeds-all decided given-all

  B : BehindFirst o done s (values_of old before) d
  B = turned.behind (omega arith)

  abbrev W : RecordInSecond o D L Keeping [] (Some L.speed) decided (record (values_of old before) { minutes = minutes; next = old.next + suc c; begun = turned.begun }) d
  W = turned.fed

  -- ---- the first of them
  abbrev w : RecordInSecond o done s (In (length s.actions)) [] None [] (values_of old before) d
  w = r.within.within

  abbrev p : Progress
  p = w.b.run

  abbrev bef : Before
  bef = (went p.log done).before

  begins : BeginsNow o done p w.b.span s
  begins = record { followed = w.began.followed; lit = w.lit; number = w.moment.number; given = w.moment.given }

  reached : Reaches p s (In (length s.actions)) log
  reached = record { goes = goes_on w.moment; up_to = w.moment.up_to; is = w.moment.is }

  power : has_power bef s ≡ true
  power = lit-power w.b.span bef s p.next (with-supply (rule_of o) (start_at o) o.from (first_of o) done p (IsLit w.b.span) w.lit w.began.followed).power w.moment.number w.moment.given

  went-is : went log done ≡ went p.log done
  went-is = went-same_ (rule_of o) (start_at o) o.from (first_of o) done p w.began.followed.order w.began.followed.next w.began.followed.unfound s log (goes_on w.moment)

  power-now : has_power (went log done).before s ≡ true
  power-now = ap (λ (g_ : Went). has_power g_.before s) went-is ∙ power

  abbrev X : Seen
  X = seen_next log done s

  seen-before : seen_of log done ≡ seen_of p.log done
  seen-before = seen-same p.log log done (same-before o done p w.began.followed s log (goes_on w.moment))

  abbrev front : List Seen
  front = span_before (seen_spans (seen_of p.log done)) X

  front-log : span_before (seen_spans (seen_of log done)) X ≡ front
  front-log = ap (λ (xs : List Seen). span_before (seen_spans xs) X) seen-before

  x-lit_ : X.told.lit ≡ true
  x-lit_ = (lit-told log (went log done).before s power-now).lit

  starts-same : X.told.starts ≡ (seen_next p.log done s).told.starts
  starts-same = (lit-told log (went log done).before s power-now).starts ∙ ap (λ (g_ : Went). not g_.before.running) went-is ∙ sym (lit-told p.log bef s power).starts

  -- it ends nothing
  ends-none : (bares_by front (X ∷ []) ≡ []) × (overs_by (limit_in o) front (X ∷ []) ≡ [])
  ends-none = subst (λ (xs : List Seen). (bares_by xs (X ∷ []) ≡ []) × (overs_by (limit_in o) xs (X ∷ []) ≡ [])) front-log
      (last-ends log done s (last.0, last.1, last.2, last.3 ∙ sym now.speed_is) none power-now (limit_in o))

  no-ends : bares_by front (X ∷ []) ++ overs_by (limit_in o) front (X ∷ []) ≡ []
  no-ends = ap (λ (es : List Event). es ++ overs_by (limit_in o) front (X ∷ [])) ends-none.0 ∙ ends-none.1

  ended : EventedNow o done s p Ended log d
  ended = call-notes d d o done s p Acting Ended log log [] r.evented
      (subst (λ (es : List Event). Adds o done s Acting log Ended log es d) no-ends (ends-added d o done p w.b.span s begins (In (length s.actions)) log reached)) (nothing-noted o d) (left-same o d)

  keeping : SecondMoment p bef s Keeping log [] w.b.broken (breakdowns_of d)
  keeping = (keeping-comes p bef s log w.b.broken (breakdowns_of d) w.moment).0

  behind-s : Evented o (done ++ s ∷ []) log p.unfound (suc p.next) (IsLit (w.b.span ++ next_told log done s ∷ [])) d
  behind-s = second-ends_now d o done p w.b.span s begins log w.b.broken (breakdowns_of d) keeping ended

  abbrev P1 : Progress
  P1 = progress B.values (IsLit (B.told ∷ B.span)) B.recorded.book

  followed : BookFollowsRun (rule_of o) (start_at o) o.from (first_of o) (done ++ s ∷ []) P1
  followed = B.recorded.recorded.followed

  behind-one : EventedBy o (done ++ s ∷ []) P1 d
  behind-one =
      let q_ = pushed w.b.span (next_told log done s) in
      let first : Evented o (done ++ s ∷ []) log p.unfound (suc p.next) (IsLit (q_.first ∷ q_.rest)) d = subst (λ (xs : List Second). Evented o (done ++ s ∷ []) log p.unfound (suc p.next) (IsLit xs) d) q_.is behind-s in
      let next_is : suc p.next ≡ B.values.next = sym (B.next ∙ ap suc w.next) in
      let unfound_is : p.unfound ≡ B.values.unfound = sym (B.unfound ∙ w.unfound) in
      subst (λ (l : RunLog). Evented o (done ++ s ∷ []) l B.values.unfound B.values.next (IsLit (B.told ∷ B.span)) d) (sym B.log)
      (subst (λ (k : ℕ). Evented o (done ++ s ∷ []) log k B.values.next (IsLit (B.told ∷ B.span)) d) unfound_is
      (subst (λ (k : ℕ). Evented o (done ++ s ∷ []) log p.unfound k (IsLit (B.told ∷ B.span)) d) next_is
      (evented-lit o (done ++ s ∷ []) log p.unfound (suc p.next) q_.first B.told q_.rest B.span d first)))

  -- ---- those behind it, without actions
  abbrev slots : Slots
  slots = (went P1.log (done ++ s ∷ [])).before.slots

  silent : IsSilentFrom P1.log P1.next
  silent = record {
    uncut = λ u le. (nothing-told (rule_of o) (start_at o) o.from (first_of o) (done ++ s ∷ []) P1 followed u le).cut;
    torn = λ u ph slot le. (nothing-told (rule_of o) (start_at o) o.from (first_of o) (done ++ s ∷ []) P1 followed u le).torn ph slot;
    found = λ u ph slot le. (nothing-told (rule_of o) (start_at o) o.from (first_of o) (done ++ s ∷ []) P1 followed u le).found ph slot;
  }

  goes : (went P1.log (done ++ s ∷ [])).before ≡ going_with slots
  goes = λ i. record { running = followed.power.running i; gone = followed.power.gone i; given = followed.power.given i; slots = slots }

  abbrev qs : List Seen
  qs = still_seconds c P1.next s.speed slots

  seen-all : seen_of P1.log ((done ++ s ∷ []) ++ driven c P1.next s.speed []) ≡ seen_of P1.log (done ++ s ∷ []) ++ qs
  seen-all = still-seen P1.log P1.next silent slots (done ++ s ∷ []) c s.speed goes

  done-is : (done ++ s ∷ []) ++ driven c P1.next s.speed [] ≡ D
  done-is =
      append_assoc done (s ∷ []) (driven c P1.next s.speed [])
      ∙ ap (λ (k : ℕ). done ++ s ∷ driven c k s.speed []) (let next = B.next in let is_ = now.number in omega (arith, next, is_))

  -- who sits there
  crew-s : crew ≡ named f (events.crew_of X.itself)
  crew-s =
      crew-sits (start_at o) (told_before w.b done) (p.book.sure ++ w.new) (course_in w.b done s (In (length s.actions)) log).left s.number w.from (course_in w.b done s (In (length s.actions)) log).slots old.keeper.cabin (well n speed begun old before minutes keeper watch marks breaks failed decided reach d e g lit some minute small early stands given is books devices odometer whole unit noted memory time) w.tells f
      (known-as o r.within.origin old.keeper.cabin.cards w.found (λ card some_. (w.written card some_).valid))
      ∙ ap (λ (k : Slots). named f (events.crew_of k)) (
      sym (ap (λ (q_ : Course). q_.slots) (at-by log bef s w.moment.up_to.uncut (length s.actions) (omega arith)))
      ∙ sym (ap (λ (g_ : Went). (course_by log g_.before s (length s.actions)).slots) went-is)
      )

  crew-q : crew ≡ named f (events.crew_of slots)
  crew-q =
      let on = B.recorded.held in
      subst (λ (cab : Cabin). crew_of cab ≡ named f (events.crew_of slots)) B.cabin
      (crew-sits (start_at o) (went P1.log (done ++ s ∷ [])).told B.recorded.book.sure [] (B.values.next - 1) (ungiven_of (span_at (rule_of o) B.values.next (B.told ∷ B.span))) slots B.values.cabin
      (subst AllSitWell (sym B.cabin) (well n speed begun old before minutes keeper watch marks breaks failed decided reach d e g lit some minute small early stands given is books devices odometer whole unit noted memory time)) on.tells f
      (known-as o r.within.origin B.values.cabin.cards B.recorded.found (λ card some_. valid-now o (done ++ s ∷ []) P1.log card (on.written card some_).may.0)))

  fed-x : IsFedBy f speed crew X
  fed-x = record { at = told-speed log (went log done).before s power-now ∙ now.speed_is; named_ = crew-s }

  fed-qs : AllByRecursion (IsFedBy f speed crew) qs
  fed-qs = subst (λ (k : ℕ). AllByRecursion (IsFedBy f speed crew) (still_seconds c P1.next k slots)) (sym now.speed_is) (stills-fed f c P1.next speed crew slots crew-q)

  span-s : last_span (seen_spans (seen_of P1.log (done ++ s ∷ []))) ≡ front ++ X ∷ []
  span-s =
      ap (λ (l : RunLog). last_span (seen_spans (seen_of l (done ++ s ∷ [])))) B.log
      ∙ span-more log done s x-lit_ ∙ ap (λ (xs : List Seen). xs ++ X ∷ []) front-log

  quiet-behind : (k : ℕ) → c ≡ k → Evented o D log B.values.unfound (B.values.next + c) (IsLit ((B.told ∷ B.span) ++ quiet_seconds c P1.next s.speed slots)) d
  quiet-behind zero is_ =
      let all : Evented o ((done ++ s ∷ []) ++ driven c P1.next s.speed []) P1.log B.values.unfound (B.values.next + c) (IsLit ((B.told ∷ B.span) ++ quiet_seconds c P1.next s.speed slots)) d =
      subst (λ (k : ℕ). Evented o ((done ++ s ∷ []) ++ driven k P1.next s.speed []) P1.log B.values.unfound (B.values.next + k) (IsLit ((B.told ∷ B.span) ++ quiet_seconds k P1.next s.speed slots)) d) (sym is_)
      (subst (λ (xs : List Second). Evented o ((done ++ s ∷ []) ++ []) P1.log B.values.unfound (B.values.next + 0) (IsLit xs) d) (sym (append-nil (B.told ∷ B.span)))
      (subst (λ (k : ℕ). Evented o ((done ++ s ∷ []) ++ []) P1.log B.values.unfound k (IsLit (B.told ∷ B.span)) d) (let same : B.values.next ≡ B.values.next + 0 = omega arith in same)
      (subst (λ (ss : List TraceSecond). Evented o ss P1.log B.values.unfound B.values.next (IsLit (B.told ∷ B.span)) d) (sym (append-nil (done ++ s ∷ []))) behind-one))) in
      at-d all
    where
      at-d : Evented o ((done ++ s ∷ []) ++ driven c P1.next s.speed []) P1.log B.values.unfound (B.values.next + c) (IsLit ((B.told ∷ B.span) ++ quiet_seconds c P1.next s.speed slots)) d →
          Evented o D log B.values.unfound (B.values.next + c) (IsLit ((B.told ∷ B.span) ++ quiet_seconds c P1.next s.speed slots)) d
      at-d all = subst (λ (l : RunLog). Evented o D l B.values.unfound (B.values.next + c) (IsLit ((B.told ∷ B.span) ++ quiet_seconds c P1.next s.speed slots)) d) B.log
          (subst (λ (ss : List TraceSecond). Evented o ss P1.log B.values.unfound (B.values.next + c) (IsLit ((B.told ∷ B.span) ++ quiet_seconds c P1.next s.speed slots)) d) done-is all)
  quiet-behind (suc k) is_ =
      let none_ = fed-ends f (limit_in o) speed crew front X (still_seconds (suc k) P1.next s.speed slots) fed-x (subst (λ (j : ℕ). AllByRecursion (IsFedBy f speed crew) (still_seconds j P1.next s.speed slots)) is_ fed-qs) in
      let quiet : AreQuiet o P1.log (done ++ s ∷ []) (driven (suc k) P1.next s.speed []) (still_seconds (suc k) P1.next s.speed slots) = record {
        are = still-seen P1.log P1.next silent slots (done ++ s ∷ []) (suc k) s.speed goes;
        bares = ap (λ (xs : List Seen). bares_by xs (still_seconds (suc k) P1.next s.speed slots)) span-s ∙ none_.0;
        overs = ap (λ (xs : List Seen). overs_by (limit_in o) xs (still_seconds (suc k) P1.next s.speed slots)) span-s ∙ none_.1;
      } in
      let all = quiet-brings_nothing d o (done ++ s ∷ []) P1 followed behind-one B.told B.span refl k s.speed (still_seconds (suc k) P1.next s.speed slots) quiet in
      at-d (subst (λ (j : ℕ). Evented o ((done ++ s ∷ []) ++ driven j P1.next s.speed []) P1.log B.values.unfound (B.values.next + j) (IsLit ((B.told ∷ B.span) ++ quiet_seconds j P1.next s.speed slots)) d) (sym is_) all)
    where
      at-d : Evented o ((done ++ s ∷ []) ++ driven c P1.next s.speed []) P1.log B.values.unfound (B.values.next + c) (IsLit ((B.told ∷ B.span) ++ quiet_seconds c P1.next s.speed slots)) d →
          Evented o D log B.values.unfound (B.values.next + c) (IsLit ((B.told ∷ B.span) ++ quiet_seconds c P1.next s.speed slots)) d
      at-d all = subst (λ (l : RunLog). Evented o D l B.values.unfound (B.values.next + c) (IsLit ((B.told ∷ B.span) ++ quiet_seconds c P1.next s.speed slots)) d) B.log
          (subst (λ (ss : List TraceSecond). Evented o ss P1.log B.values.unfound (B.values.next + c) (IsLit ((B.told ∷ B.span) ++ quiet_seconds c P1.next s.speed slots)) d) done-is all)

  -- ---- the last one begins
  begins-l : BeginsNow o D W.b.run W.b.span L
  begins-l = record { followed = W.began.followed; lit = W.lit; number = W.moment.number; given = W.moment.given }

  goes-l : (W.b.run.log ≡ log) × (begins_with W.b.span ≡ false)
  goes-l = turned.goes_on (omega arith)

  before-l : EventedBy o D W.b.run d
  before-l =
      let h = has-first W.b.span goes-l.1 in
      let next_is : B.values.next + c ≡ W.b.run.next = (let at = B.next in let to = W.next in omega (arith, at, to)) in
      let unfound_is : B.values.unfound ≡ W.b.run.unfound = B.unfound ∙ W.unfound in
      subst (λ (sp_ : UnitPower). Evented o D W.b.run.log W.b.run.unfound W.b.run.next sp_ d) (ap (λ (xs : List Second). IsLit xs) (sym h.is) ∙ sym W.lit)
      (subst (λ (l : RunLog). Evented o D l W.b.run.unfound W.b.run.next (IsLit (h.first ∷ h.rest)) d) (sym goes-l.0)
      (subst (λ (k : ℕ). Evented o D log k W.b.run.next (IsLit (h.first ∷ h.rest)) d) unfound_is
      (subst (λ (k : ℕ). Evented o D log B.values.unfound k (IsLit (h.first ∷ h.rest)) d) next_is
      (evented-lit o D log B.values.unfound (B.values.next + c) B.told h.first (B.span ++ quiet_seconds c P1.next s.speed slots) h.rest d (quiet-behind c refl)))))

  evented-l : EventedNow o D L W.b.run Acting log d
  evented-l = subst (λ (l : RunLog). EventedNow o D L W.b.run Acting l d) goes-l.0
      (subst (λ (b : Bool). EventedNow o D L W.b.run (stage_of b) W.b.run.log d) goes-l.1 (second-begins_now d o D W.b.run W.b.span L begins-l before-l))

  -- ---- and its keeping
  num-l : L.number ≡ old.next + n - 1
  num-l = let is_ = now.number in omega (arith, is_, many)

  next-l : old.next + suc c ≡ old.next + n - 1
  next-l = omega (arith, many)

  acts-l : length L.actions ≡ begun
  acts-l = sym (ap (λ (as_ : List Action). length as_) none) ∙ actions

  stored-l : old.keeper.odometer ≡ odometer_after (odometer_at o.recording.unit) W.b.travel.before
  stored-l = r.within.odometer ∙ ap (odometer_after (odometer_at o.recording.unit)) (sym turned.travelled_before)

  from-l : W.from ≡ ungiven_of g.span
  from-l =
      let to = w.until in
      let same = same-ungiven old.minutes w.sp g.span w.minutes g.stands in
      let first = turned.from in
      omega (arith, to, same, first)

  untorn-l : (slot : Slot) → is_torn_in log L.number Keeping slot ≡ false
  untorn-l slot = ap (λ (l : RunLog). is_torn_in l L.number Keeping slot) (sym goes-l.0)
      ∙ (nothing-told (rule_of o) (start_at o) o.from (first_of o) D W.b.run W.began.followed L.number (let at = W.moment.number in omega (arith, at))).torn Keeping slot

  abbrev XL : Seen
  XL = seen_next later D L

  abbrev frontL : List Seen
  frontL = span_before (seen_spans (seen_of W.b.run.log D)) XL

  crew-l : crew ≡ named f (events.crew_of XL.itself)
  crew-l = crew-x n speed begun old before minutes keeper watch marks breaks failed decided reach d e g lit some minute small early stands given is books devices odometer whole unit noted memory time
      o r.within.origin r.watches.limit D L (old.next + suc c) turned.begun W num-l next-l acts-l stored-l from-l untorn-l evented-l

  fed-l : IsFedBy f speed crew XL
  fed-l = record { at = told-speed later (went later D).before L power-l ∙ now.speed_is; named_ = crew-l }
    where
      went-l : went later D ≡ went W.b.run.log D
      went-l = went-same_ (rule_of o) (start_at o) o.from (first_of o) D W.b.run W.began.followed.order W.began.followed.next W.began.followed.unfound L later (goes_on (then_ n speed begun old before minutes keeper watch marks breaks failed decided reach d e g lit some minute small early stands given is books devices odometer whole unit noted memory time
          o r.within.origin r.watches.limit D L (old.next + suc c) turned.begun W num-l next-l acts-l stored-l from-l untorn-l evented-l).1)

      power-l : has_power (went later D).before L ≡ true
      power-l = ap (λ (g_ : Went). has_power g_.before L) went-l
          ∙ lit-power W.b.span (went W.b.run.log D).before L W.b.run.next (with-supply (rule_of o) (start_at o) o.from (first_of o) D W.b.run (IsLit W.b.span) W.lit W.began.followed).power W.moment.number W.moment.given

  -- the span by then
  frontL-is : frontL ≡ front ++ (X ∷ qs)
  frontL-is =
      front-now n speed begun old before minutes keeper watch marks breaks failed decided reach d e g lit some minute small early stands given is books devices odometer whole unit noted memory time
      o r.within.origin r.watches.limit D L (old.next + suc c) turned.begun W num-l next-l acts-l stored-l from-l untorn-l evented-l
      ∙ ap (λ (b : Bool). cond b [] (last_span (seen_spans (seen_of W.b.run.log D)))) goes-on-l
      ∙ ap (λ (l : RunLog). last_span (seen_spans (seen_of l D))) (goes-l.0 ∙ sym B.log)
      ∙ ap (λ (ss : List TraceSecond). last_span (seen_spans (seen_of P1.log ss))) (sym done-is)
      ∙ ap (λ (xs : List Seen). last_span (seen_spans xs)) seen-all
      ∙ quiet-last (seen_of P1.log (done ++ s ∷ [])) qs (still-quiet c P1.next s.speed slots)
      ∙ ap (λ (xs : List Seen). xs ++ qs) span-s
      ∙ append_assoc front (X ∷ []) qs
    where
      goes-on-l : (seen_next W.b.run.log D L).told.starts ≡ false
      goes-on-l =
          let supplied = (with-supply (rule_of o) (start_at o) o.from (first_of o) D W.b.run (IsLit W.b.span) W.lit W.began.followed).power in
          (lit-told W.b.run.log (went W.b.run.log D).before L (lit-power W.b.span (went W.b.run.log D).before L W.b.run.next supplied W.moment.number W.moment.given)).starts
          ∙ lit-starts W.b.span (went W.b.run.log D).before W.b.run.next supplied ∙ goes-l.1

  -- what is new to the watch
  abbrev new_seen : List Seen
  new_seen = X ∷ (qs ++ XL ∷ [])

  rest-fed : AllByRecursion (IsFedBy f speed crew) (qs ++ XL ∷ [])
  rest-fed = all-both (IsFedBy f speed crew) qs (XL ∷ []) fed-qs (fed-l, tt)

  rest-ends : (bares_by (front ++ X ∷ []) (qs ++ XL ∷ []) ≡ []) × (overs_by (limit_in o) (front ++ X ∷ []) (qs ++ XL ∷ []) ≡ [])
  rest-ends = fed-ends f (limit_in o) speed crew front X (qs ++ XL ∷ []) fed-x rest-fed

  new-none : bares_by front new_seen ++ overs_by (limit_in o) front new_seen ≡ []
  new-none =
      (λ i. (bares-split front (X ∷ []) (qs ++ XL ∷ []) i) ++ (overs-split (limit_in o) front (X ∷ []) (qs ++ XL ∷ []) i))
      ∙ (λ i. (ends-none.0 i ++ rest-ends.0 i) ++ (ends-none.1 i ++ rest-ends.1 i))

  last-none : bares_by frontL (XL ∷ []) ++ overs_by (limit_in o) frontL (XL ∷ []) ≡ []
  last-none =
      ap (λ (xs : List Seen). bares_by xs (XL ∷ []) ++ overs_by (limit_in o) xs (XL ∷ [])) (frontL-is ∙ sym (append_assoc front (X ∷ []) qs))
      ∙ (λ i. bares-l i ++ overs-l i)
    where
      bares-l : bares_by ((front ++ X ∷ []) ++ qs) (XL ∷ []) ≡ []
      bares-l = no-event (bares_by (front ++ X ∷ []) qs) (bares_by ((front ++ X ∷ []) ++ qs) (XL ∷ [])) (sym (bares-split (front ++ X ∷ []) qs (XL ∷ [])) ∙ rest-ends.0)

      overs-l : overs_by (limit_in o) ((front ++ X ∷ []) ++ qs) (XL ∷ []) ≡ []
      overs-l = no-event (overs_by (limit_in o) (front ++ X ∷ []) qs) (overs_by (limit_in o) ((front ++ X ∷ []) ++ qs) (XL ∷ [])) (sym (overs-split (limit_in o) (front ++ X ∷ []) qs (XL ∷ [])) ∙ rest-ends.1)

  abbrev second_ : ℕ → CrewSecond
  second_ k = record { number = k; speed = speed; crew = crew }

  fed-row : map (watched f) new_seen ≡ seconds_with old.next n speed crew
  fed-row =
      let one = one-fed f log done s ∙ (λ i. seconds_with (now.number i) 1 (now.speed_is i) (sym crew-s i)) in
      let next_is : P1.next ≡ old.next + 1 = (let at = B.next in omega (arith, at)) in
      let middle : map (watched f) qs ≡ in_a_row second_ (old.next + 1) c = still-fed f c P1.next s.speed slots ∙ (λ i. seconds_with (next_is i) c (now.speed_is i) (sym crew-q i)) in
      let last_is : L.number ≡ old.next + 1 + c = (let is_ = now.number in omega (arith, is_)) in
      let last_ : map (watched f) (XL ∷ []) ≡ in_a_row second_ (old.next + 1 + c) 1 = one-fed f later D L ∙ (λ i. seconds_with (last_is i) 1 (now.speed_is i) (sym crew-l i)) in
      (λ i. one i ++ map (watched f) (qs ++ XL ∷ []))
      ∙ ap (λ (xs : List CrewSecond). second_ old.next ∷ xs) (map-append (watched f) qs (XL ∷ []) ∙ (λ i. middle i ++ last_ i) ∙ sym (one_more second_ (old.next + 1) c))
      ∙ ap (λ (k : ℕ). seconds_with old.next k speed crew) (sym many)

  watching : IsWatching o front old.watch
  watching = subst (λ (xs : List Seen). IsWatching o xs old.watch) (ap (λ (b : Bool). cond b [] (last_span (seen_spans (seen_of p.log done)))) (sym starts-same)) r.watches.watched

  low-new : AreLow new_seen
  low-new = (
    (let at = told-number log (went log done).before s in let is_ = now.number in (omega (arith, at, is_, early), omega (arith, at, is_, small, many))),
    all-both (λ (y : Seen). IsLow (number_of y)) qs (XL ∷ []) (stills-low c P1.next s.speed slots (let at = B.next in omega (arith, at)) (let at = B.next in omega (arith, at, small, many))) (
      low-x n speed begun old before minutes keeper watch marks breaks failed decided reach d e g lit some minute small early stands given is books devices odometer whole unit noted memory time
          o r.within.origin r.watches.limit D L (old.next + suc c) turned.begun W num-l next-l acts-l stored-l from-l untorn-l evented-l,
      tt,
    ),
  )

  valid-x_ : CrewValid o (events.crew_of X.itself)
  valid-x_ = subst (λ (k : Slots). CrewValid o (events.crew_of k))
      (sym (ap (λ (q_ : Course). q_.slots) (at-by log bef s w.moment.up_to.uncut (length s.actions) (omega arith))) ∙ sym (ap (λ (g_ : Went). (course_by log g_.before s (length s.actions)).slots) went-is))
      (crew-valid o r.within.origin w.standing (told_before w.b done) (course_in w.b done s (In (length s.actions)) log) s.number w.from old.keeper.cabin w.present)

  valid-q : CrewValid o (events.crew_of slots)
  valid-q =
      let on = B.recorded.held in
      crew-valid o r.within.origin B.recorded.standing (went P1.log (done ++ s ∷ [])).told (fresh false slots) (B.values.next - 1) (ungiven_of (span_at (rule_of o) B.values.next (B.told ∷ B.span))) B.values.cabin on.present

  valid-new : AllByRecursion (λ (y : Seen). CrewValid o (events.crew_of y.itself)) new_seen
  valid-new = (
    valid-x_,
    all-both (λ (y : Seen). CrewValid o (events.crew_of y.itself)) qs (XL ∷ []) (stills-valid o c P1.next s.speed slots valid-q) (
      valid-x n speed begun old before minutes keeper watch marks breaks failed decided reach d e g lit some minute small early stands given is books devices odometer whole unit noted memory time
          o r.within.origin r.watches.limit D L (old.next + suc c) turned.begun W num-l next-l acts-l stored-l from-l untorn-l evented-l,
      tt,
    ),
  )

  pub many-events : TurnedEvents o (D ++ L ∷ []) (passed n begun (cut_where failed (old.next + n - 1) between)) (cut_breaks failed (old.next + n - 1) begun told) e
  many-events = last-events n speed begun old before minutes keeper watch marks breaks failed decided reach d e g lit some minute small early stands given is books devices odometer whole unit noted memory time
      o r.within.origin r.watches.limit D L (old.next + suc c) turned.begun W num-l next-l acts-l stored-l from-l untorn-l evented-l
      front new_seen watching low-new valid-new fed-row (sym (append_assoc front (X ∷ qs) (XL ∷ [])) ∙ ap (λ (xs : List Seen). xs ++ XL ∷ []) (sym frontL-is)) (new-none ∙ sym last-none)

-- ---- ONE SECOND, OR SEVERAL
module _ {U A0 B0 : State} {chip_a chip_b : CardState} (n speed begun : ℕ) (old : Run) (before : Outcome) (minutes : Kept) (keeper : Keeper) (watch : Watch) (marks : Listed Mark) (breaks : Listed Break) (failed : Bool) (decided : List Minute) (reach : Reach) (d e : Devices)
    (g : RunHasPower None (old.next / 60) old U chip_a chip_b A0 B0) (lit : old.power ≡ Lit) (some : 0 < n) (minute : old.next % 60 + n ≤ 60) (small : old.next + n ≤ end_of_seconds) (early : first_second ≤ old.next)
    (stands : (sp : Span) → CountsSpan old.minutes sp → CountsSpan minutes (fed_many sp speed n)) (given : (sp : Span) → CountsSpan old.minutes sp → decided_in (fed_many sp speed n) ≡ decided_in sp ++ decided)
    (is : IsTurnReach decided (late_moment old.next n begun) failed (told_of (record old { minutes = minutes }) before) (told_of (record old { minutes = minutes; keeper = keeper; watch = watch }) (record before { marks = marks; breaks = breaks })) reach)
    (books : BooksTurn decided failed reach (told_of (record old { minutes = minutes }) before) (told_of (record old { minutes = minutes; keeper = keeper; watch = watch }) (record before { marks = marks; breaks = breaks })) d e)
    (devices : DevicesGoOn failed old.keeper.cabin.cards keeper.cabin.cards d e) (odometer : keeper.odometer ≡ old.keeper.odometer) (whole : IsCoherent d.unit) (unit : IsUnit d.unit)
    (noted : NotesKeeping decided n speed (late_moment old.next n begun) failed (record old { minutes = minutes }) (record old { minutes = minutes; keeper = keeper; watch = watch }) before (record before { marks = marks; breaks = breaks }) d.unit e.unit)
    (memory : keeper.memory ≡ old.keeper.memory) (time : HaveTime e)
    (o : Origin) (done : List TraceSecond) (s : TraceSecond) (now : IsNow s speed old) (actions : length s.actions ≡ begun) (behind : 1 < n → (s.actions ≡ []) × LastAt done speed) (r : WithinEvented o done s (In begun) [] [] Acting old before d) where
  abbrev turned_run : Run
  turned_run = passed n begun (cut_where failed (old.next + n - 1) (record old { minutes = minutes; keeper = keeper; watch = watch }))

  abbrev turned_out : Outcome
  turned_out = cut_breaks failed (old.next + n - 1) begun (record before { marks = marks; breaks = breaks })

  here_ : WithinEvented o done s (In (length s.actions)) [] [] Acting old before d
  here_ = subst (λ (k : ℕ). WithinEvented o done s (In k) [] [] Acting old before d) (sym actions) r

  by-count : (k : ℕ) → n - 1 ≡ k → TurnedEvents o (done ++ s ∷ driven k (s.number + 1) s.speed []) turned_run turned_out e
  by-count zero is_ = one-events n speed begun old before minutes keeper watch marks breaks failed decided reach d e g lit some minute small early stands given is books devices odometer whole unit noted memory time
      (omega (arith, is_, some)) o done s now actions here_
  by-count (suc c) is_ =
      let few = behind (omega (arith, is_)) in
      subst (λ (ss : List TraceSecond). TurnedEvents o ss turned_run turned_out e) (turn-ended done s (suc c))
      (many-events n speed begun old before minutes keeper watch marks breaks failed decided reach d e g lit some minute small early stands given is books devices odometer whole unit noted memory time
      c (omega (arith, is_)) o done s now actions few.0 few.1 here_)

  pub seconds-events : TurnedEvents o (done ++ s ∷ driven (n - 1) (s.number + 1) speed []) turned_run turned_out e
  seconds-events = subst (λ (k : ℕ). TurnedEvents o (done ++ s ∷ driven (n - 1) (s.number + 1) k []) turned_run turned_out e) now.speed_is (by-count (n - 1) refl)

-- ---- A TURN
module _ {U A0 B0 : State} {chip_a chip_b : CardState} (n speed begun : ℕ) (old new : Run) (before after : Outcome) (d e : Devices) (g : RunHasPower None (old.next / 60) old U chip_a chip_b A0 B0) (early : first_second ≤ old.next) (lit : old.power ≡ Lit) (some : 0 < n)
    (minute : old.next % 60 + n ≤ 60) (small : old.next + n ≤ end_of_seconds) (h : IsBookedTurn n speed begun old new before after d e) (whole : IsCoherent d.unit) (unit : IsUnit d.unit)
    (noted : NotesKeeping h.0.decided n speed (late_moment old.next n begun) h.0.failed h.0.fed h.0.between before h.0.told d.unit e.unit) (memory : h.0.between.keeper.memory ≡ old.keeper.memory) where
  abbrev T : IsLitTurn n speed begun old new before after
  T = h.0

  abbrev here : Run
  here = record old { minutes = T.fed.minutes; keeper = T.between.keeper; watch = T.between.watch }

  abbrev lines : Outcome
  lines = record before { marks = T.told.marks; breaks = T.told.breaks }

  noted-is : NotesKeeping T.decided n speed (late_moment old.next n begun) T.failed (record old { minutes = T.fed.minutes }) here before lines d.unit e.unit
  noted-is =
      subst (λ (x : Run). NotesKeeping T.decided n speed (late_moment old.next n begun) T.failed x here before lines d.unit e.unit) T.only
      (subst (λ (x : Run). NotesKeeping T.decided n speed (late_moment old.next n begun) T.failed T.fed x before lines d.unit e.unit) (between-is n speed begun old new before after d e g lit some minute small h)
      (subst (λ (x : Outcome). NotesKeeping T.decided n speed (late_moment old.next n begun) T.failed T.fed T.between before x d.unit e.unit) T.kept.outcome noted))

  pub turn-events : EventsLitTurn n speed begun old new before after d e
  turn-events o done s now actions behind r time =
      subst (λ (x : Run). TurnedEvents o (done ++ s ∷ driven (n - 1) (s.number + 1) speed []) (passed n begun x) after e) (new-is n speed begun old new before after d e g lit some minute small h)
      (subst (λ (x : Outcome). TurnedEvents o (done ++ s ∷ driven (n - 1) (s.number + 1) speed []) (passed n begun (cut_where T.failed (old.next + n - 1) here)) x e) (after-is n speed begun old new before after d e g lit some minute small h)
      (seconds-events n speed begun old before T.fed.minutes T.between.keeper T.between.watch T.told.marks T.told.breaks T.failed T.decided h.1 d e g lit some minute small early T.minutes T.given
      (reach-is n speed begun old new before after d e g lit some minute small h) (books-is n speed begun old new before after d e g lit some minute small h) h.4 h.5 whole unit noted-is memory time o done s now actions behind r))

-- WITHOUT POWER, and at any supply of a run's power
pub at-supply : (o : Origin) (done : List TraceSecond) (log : RunLog) (unfound next : ℕ) (power : Power) (a b : UnitPower) (d : Devices) → Supplies power a → Supplies power b → Evented o done log unfound next a d → Evented o done log unfound next b d
at-supply o done _ unfound next Lit (IsLit []) b d x y v = absurd x
at-supply o done _ unfound next Lit (IsLit (t ∷ xs)) (IsLit []) d x y v = absurd y
at-supply o done log unfound next Lit (IsLit (t ∷ xs)) (IsLit (u ∷ ys)) d x y v = evented-lit o done log unfound next t u xs ys d v
at-supply o done _ unfound next Lit (IsLit (t ∷ xs)) IsDue d x y v = absurd y
at-supply o done _ unfound next Lit (IsLit (t ∷ xs)) IsLost d x y v = absurd y
at-supply o done _ unfound next Lit IsDue b d x y v = absurd x
at-supply o done _ unfound next Lit IsLost b d x y v = absurd x
at-supply o done _ unfound next Due (IsLit xs) b d x y v = absurd x
at-supply o done _ unfound next Due IsDue (IsLit xs) d x y v = absurd y
at-supply o done _ unfound next Due IsDue IsDue d x y v = v
at-supply o done _ unfound next Due IsDue IsLost d x y v = absurd y
at-supply o done _ unfound next Due IsLost b d x y v = absurd x
at-supply o done _ unfound next Lost (IsLit xs) b d x y v = absurd x
at-supply o done _ unfound next Lost IsDue b d x y v = absurd x
at-supply o done _ unfound next Lost IsLost (IsLit xs) d x y v = absurd y
at-supply o done _ unfound next Lost IsLost IsDue d x y v = absurd y
at-supply o done _ unfound next Lost IsLost IsLost d x y v = v

-- it was cut in the first of n seconds
pub dark-events : (d : Devices) (n speed begun : ℕ) (old : Run) (before : Outcome) → 0 < n → old.next % 60 + n ≤ 60 → (o : Origin) (done : List TraceSecond) (s : TraceSecond) → IsNow s speed old → length s.actions ≡ begun → (1 < n → s.actions ≡ []) → CutEvented o done s old before d →
    Evented o (done ++ s ∷ driven (n - 1) (s.number + 1) speed []) (log_of before) old.unfound (old.next + n) IsLost d
dark-events d n speed begun old before some minute o done s now actions none h = by (n - 1) refl
  where
    by : (k : ℕ) → n - 1 ≡ k → Evented o (done ++ s ∷ driven k (s.number + 1) speed []) (log_of before) old.unfound (old.next + n) IsLost d
    by zero is_ = subst (λ (m : ℕ). Evented o (done ++ s ∷ []) (log_of before) old.unfound m IsLost d) (let same : suc old.next ≡ old.next + n = omega (arith, is_, some) in same) h.evented
    by (suc c) is_ =
        let r = h.cut.recorded in
        let p_ : Progress = progress (passed_values s (values_of old before)) IsLost r.book in
        let at = now.number in
        let number : suc old.next ≡ s.number + 1 = omega (arith, at) in
        let more = dark-seconds d o (done ++ s ∷ []) p_ r.recorded.followed h.evented refl c speed [] (by_slots before.refused.items) (omega (arith, minute, is_)) (omega (arith, minute, is_)) in
        subst (λ (m : ℕ). Evented o (done ++ s ∷ driven (suc c) (s.number + 1) speed []) (log_of before) old.unfound m IsLost d) (let same : suc old.next + suc c ≡ old.next + n = omega (arith, is_, some) in same)
        (subst (λ (ss : List TraceSecond). Evented o ss (log_of before) old.unfound (suc old.next + suc c) IsLost d)
        (append_assoc done (s ∷ []) (driven (suc c) (suc old.next) speed []) ∙ ap (λ (m : ℕ). done ++ s ∷ driven (suc c) m speed []) number) more)
