-- The events behind seconds of one minute.
use Rattle.std.proofs.Common.{◌≡◌, ◌∙◌, ℕ, ◌+◌, ◌-◌, ◌/◌, ◌%◌, ◌^◌, ◌≤◌, ◌<◌, Bool, true, false, cond, Some, None, List, [], ◌∷◌, ◌++◌, length, map, refl, ap, sym, subst, arith, append-nil, append_assoc}
use Rattle.std.specs.List.{AllByRecursion}
use Rattle.activity_codec.specs.declared.values.Slot.{Slot}
use Rattle.activity_codec.specs.declared.values.Slot.TheVariants.{Driver, CoDriver}
use Rattle.trace_model.specs.Trace.{TraceSecond}
use Rattle.log_model.specs.run_model.declared.Device.{Device}
use Rattle.card_files.specs.card_layout.declared.command.CardState.{CardState}
use Rattle.tach_media.specs.Medium.{State, IsCoherent}
use Rattle.unit_model.specs.minute_model.declared.Minute.{Minute}
use Rattle.unit_model.specs.minute_model.Span.{Span, decided_in, fed_many, ungiven_of}
use Rattle.minute_rules.specs.Kept.{Kept, CountsSpan}
use Rattle.log_model.specs.declared.lines.Break.{Break}
use Rattle.log_model.specs.declared.lines.Mark.{Mark}
use Rattle.log_model.specs.Log.{RunLog, Phase, In, Keeping, is_torn_in, tears_here, found_in}
use Rattle.log_model.specs.Course.{Course, Before, has_power, went, Went}
use Rattle.unit_model.specs.Image.{IsUnit, odometer_at}
use Rattle.device_calls.specs.unit_rule.Odometer.{odometer_after}
use Rattle.device_calls.specs.run_unit_course.Followed.{Lit as IsLit}
use Rattle.unit_notes.specs.event_model.Events.{Seen, seen_of, seen_by, seen_spans, number_of}
use Rattle.unit_notes.specs.event_model.Events as events
use Rattle.run_events.specs.Watched.{watched, named}
use Rattle.run_events.specs.Turned.{AreEnded, AreLow, IsLow}
use Rattle.run_events.proofs.Turned.{turn-ends, turn-stands}
use Rattle.run_events.proofs.CrewsFed.{one-fed}
use Rattle.device_calls.specs.safety_model.Safe.{Devices}
use Rattle.run_crew.specs.card_slots.declared.seats.Present.{Present}
use Rattle.run_crew.specs.Cabin.{AreTwo, crew_of}
use Rattle.run_events.specs.run_course.Followed.{Progress}
use Rattle.run_events.specs.run_course.Moments.{and_break}
use Rattle.run_events.proofs.run_course.Steps.{with-supply, went-same_}
use Rattle.run_events.proofs.run_course.Told.{lit-told, lit-power}
use Rattle.run_events.specs.run_course.Moment.{Moment as SecondMoment, goes_on}
use Rattle.run_events.specs.declared.watch.Watch.{Watch}
use Rattle.run_events.specs.declared.watch.Ended.{Ended as WatchEnded}
use Rattle.run_events.specs.Noting.{IsFed}
use Rattle.run_outcome.specs.declared.outcome.Outcome.{Outcome}
use Rattle.run_outcome.specs.Lines.{Listed}
use Rattle.run_minutes.specs.run_promise.Origin.{Origin, start_at, rule_of, first_of}
use Rattle.run_events.specs.Seconds.{bares_by, overs_by, span_before, seen_next, last_of as last_span}
use Rattle.run_events.proofs.Later.{told-number, seen-same}
use Rattle.run_note_record.specs.Evented.{limit_in}
use Rattle.run_note_record.specs.Noting.{Acting}
use Rattle.run_note_record.specs.EventsSoFar.{EventedNow}
use Rattle.run_minutes.specs.declared.keeper.Keeper.{Keeper}
use Rattle.run_minutes.specs.Books.{HaveTime}
use Rattle.run_minutes.specs.Minutes.{KeepingState, Reach, Whole, Short, present_at, Done, Round, told_after, told_by}
use Rattle.run_record.specs.Recorded.{Values}
use Rattle.run_record.specs.Within.{RecordInSecond, told_before, course_in, Beginning}
use Rattle.run_acts.specs.declared.run.Run.{Run}
use Rattle.run_acts.specs.declared.run.Power.TheVariants.{Lit}
use Rattle.run_acts.specs.Power.{passed}
use Rattle.run_acts.specs.Booked.{IsTurnReach, BooksTurn}
use Rattle.run_acts.specs.Devices.{DevicesGoOn}
use Rattle.run_acts.specs.Faults.{NotesKeeping}
use Rattle.run_acts.specs.Named.{watched_as, CrewValid}
use Rattle.run_acts.specs.Recording.{log_of, values_of, IsOrigin, IsNow}
use Rattle.run_acts.specs.Rounds.{moment_of, keeping_of, and_breaks}
use Rattle.run_acts.specs.Turning.{late_moment, told_of, cut_where, cut_breaks}
use Rattle.run_acts.specs.Evented.{IsWatching, span_of, TurnedEvents, WithinEvented, span_seen}
use Rattle.run_acts.proofs.Stays.{all-both}
use Rattle.run_acts.proofs.EventCrews.{AllSitWell, crew-sits, all-well}
use Rattle.run_acts.proofs.RoundFaults.{IsUntoldAt, HasCome}
use Rattle.std.specs.Prelude.{◌||◌}
use Rattle.run_note_record.proofs.Lines.{same-before}
use Rattle.log_model.specs.Slots.{Slots}
use Rattle.run_events.specs.Watching.{seconds_with}
use Rattle.run_minutes.specs.Keeping.{Fate, Still, Has, Fell, breaks_by}
use Rattle.run_events.proofs.run_course.Lookups.{break-more}
use Rattle.run_note_record.proofs.Brought.{SameBefore, course-until}
use Rattle.run_note_record.proofs.Tearing.{told-elsewhere}
use Rattle.run_record.specs.Turning.{IsTurned}
use Rattle.run_record.proofs.Turning.{turn-is_fed}
use Rattle.run_acts.specs.Going.{RunHasPower, end_of_seconds, first_second}
use Rattle.run_acts.proofs.Named.{crew-valid, known-as}
use Rattle.run_acts.proofs.SeenSpan.{span-more, keeping-slots, ends-valid}
use Rattle.run_acts.proofs.SettledRecorded.{same-ungiven, two-present}
use Rattle.run_acts.proofs.Turned.{turn-decides, turn-most, turn-one}
use Rattle.run_acts.proofs.TurnEvented.{come-now, moment-then, keeping-events}

-- ---- THE LINES OF A KEEPING tell nothing of the moments before it
abbrev IsApart : (u : ℕ) → Break → Type 0
IsApart u b = (n : ℕ) (slot : Slot) → tears_here u (In n) slot b ≡ false

or-false : (b : Bool) → (b || false) ≡ b
or-false true = refl
or-false false = refl

more-torn : (u : ℕ) (log : RunLog) (more : List Break) → AllByRecursion (IsApart u) more → (n : ℕ) (slot : Slot) → is_torn_in (and_breaks log more) u (In n) slot ≡ is_torn_in log u (In n) slot
more-torn u log [] all n slot = ap (λ (bs : List Break). is_torn_in (record log { breaks = bs }) u (In n) slot) (append-nil log.breaks)
more-torn u log (b ∷ more) all n slot =
    ap (λ (bs : List Break). is_torn_in (record log { breaks = bs }) u (In n) slot) (sym (append_assoc log.breaks (b ∷ []) more))
    ∙ more-torn u (and_break log b) more all.1 n slot
    ∙ (break-more log b u).torn (In n) slot ∙ ap (λ (t : Bool). is_torn_in log u (In n) slot || t) (all.0 n slot) ∙ or-false (is_torn_in log u (In n) slot)

more-found : (u : ℕ) (log : RunLog) (more : List Break) (p : Phase) (slot : Slot) → found_in (and_breaks log more) u p slot ≡ found_in log u p slot
more-found u log [] p slot = ap (λ (bs : List Break). found_in (record log { breaks = bs }) u p slot) (append-nil log.breaks)
more-found u log (b ∷ more) p slot =
    ap (λ (bs : List Break). found_in (record log { breaks = bs }) u p slot) (sym (append_assoc log.breaks (b ∷ []) more))
    ∙ more-found u (and_break log b) more p slot ∙ (break-more log b u).found p slot

-- the lines of a keeping
record LinesMore (u : ℕ) (t y : KeepingState) : Type 0 where
  more : List Break
  are : y.breaks.items ≡ t.breaks.items ++ more
  apart : AllByRecursion (IsApart u) more

fate-apart : (s : TraceSecond) (fate : Fate) (slot : Slot) → AllByRecursion (IsApart s.number) (breaks_by fate slot (moment_of s (keeping_of s)))
fate-apart s Still slot = tt
fate-apart s (Has a clock) slot = tt
fate-apart s Fell slot = (λ n other. told-elsewhere s.number (length s.actions) true slot true Keeping (In n) other refl refl, tt)

round-lines : (s : TraceSecond) (p : Present) (minute : ℕ) (round : Round) (t y : KeepingState) → LinesMore s.number (told_after p minute (moment_of s (keeping_of s)) round t) y → LinesMore s.number t y
round-lines s p minute round t y h =
    let one : List Break = breaks_by round.driver Driver (moment_of s (keeping_of s)) in
    let two_ : List Break = breaks_by round.codriver CoDriver (moment_of s (keeping_of s)) in
    record {
      more = one ++ (two_ ++ h.more);
      are = h.are ∙ append_assoc (t.breaks.items ++ one) two_ h.more ∙ append_assoc t.breaks.items one (two_ ++ h.more);
      apart = all-both (IsApart s.number) one (two_ ++ h.more) (fate-apart s round.driver Driver) (all-both (IsApart s.number) two_ h.more (fate-apart s round.codriver CoDriver) h.apart);
    }

none-lines : (u : ℕ) (t : KeepingState) → LinesMore u t t
none-lines u t = record { more = []; are = sym (append-nil t.breaks.items); apart = tt }

rounds-lines : (s : TraceSecond) (k : Keeper) (xs : List Done) (t y : KeepingState) → LinesMore s.number (told_by k (moment_of s (keeping_of s)) xs t) y → LinesMore s.number t y
rounds-lines s k [] t y h = h
rounds-lines s k (x ∷ xs) t y h =
    let p = present_at k.cabin x.minute.minute in
    round-lines s p x.minute.minute x.round t y (rounds-lines s k xs (told_after p x.minute.minute (moment_of s (keeping_of s)) x.round t) y h)

come-lines : (s : TraceSecond) (all : List Minute) (t u : KeepingState) (reach : Reach) → HasCome all (moment_of s (keeping_of s)) t u reach → LinesMore s.number t u
come-lines s all t u (Whole xs) is =
    subst (LinesMore s.number t) (sym is.2) (rounds-lines s t.keeper xs t (told_by t.keeper (moment_of s (keeping_of s)) xs t) (none-lines s.number (told_by t.keeper (moment_of s (keeping_of s)) xs t)))
come-lines s all t u (Short xs m None) is =
    subst (LinesMore s.number t) (sym is.2) (rounds-lines s t.keeper xs t (told_by t.keeper (moment_of s (keeping_of s)) xs t) (none-lines s.number (told_by t.keeper (moment_of s (keeping_of s)) xs t)))
come-lines s all t u (Short xs m (Some round)) is =
    let mid : KeepingState = told_by t.keeper (moment_of s (keeping_of s)) xs t in
    let p = present_at t.keeper.cabin m.minute in
    let end : KeepingState = told_after p m.minute (moment_of s (keeping_of s)) round mid in
    subst (LinesMore s.number t) (sym is.2.1) (rounds-lines s t.keeper xs t end (round-lines s p m.minute round mid end (none-lines s.number end)))

-- ---- THE LAST SECOND, as its events see it
module _ (o : Origin) (origin : IsOrigin o) (done : List TraceSecond) (s : TraceSecond) (decided : List Minute) (V : Values) (d : Devices) (w : RecordInSecond o done s Keeping [] (Some s.speed) decided V d) (well : AllSitWell V.cabin)
    (untorn : (slot : Slot) → is_torn_in V.log s.number Keeping slot ≡ false) (later : RunLog) (now : Device → ℕ) (m : SecondMoment w.b.run (went w.b.run.log done).before s Keeping later [] w.b.broken now)
    (more : List Break) (are : later ≡ and_breaks V.log more) (apart : AllByRecursion (IsApart s.number) more) where
  abbrev p : Progress
  p = w.b.run

  abbrev bef : Before
  bef = (went p.log done).before

  abbrev x : Seen
  x = seen_next later done s

  went-is : went later done ≡ went p.log done
  went-is = went-same_ (rule_of o) (start_at o) o.from (first_of o) done p w.began.followed.order w.began.followed.next w.began.followed.unfound s later (goes_on m)

  seen-is : x ≡ seen_by later bef s
  seen-is = ap (λ (b : Before). seen_by later b s) (ap (λ (g : Went). g.before) went-is)

  power : has_power bef s ≡ true
  power = lit-power w.b.span bef s p.next (with-supply (rule_of o) (start_at o) o.from (first_of o) done p (IsLit w.b.span) w.lit w.began.followed).power w.moment.number w.moment.given

  pub x-lit : x.told.lit ≡ true
  x-lit = ap (λ (y : Seen). y.told.lit) seen-is ∙ (lit-told later bef s power).lit

  pub x-starts : x.told.starts ≡ (seen_next p.log done s).told.starts
  x-starts = ap (λ (y : Seen). y.told.starts) seen-is ∙ (lit-told later bef s power).starts ∙ sym (lit-told p.log bef s power).starts

  same-moments : SameBefore V.log later s.number Keeping
  same-moments = record {
    up = w.moment.up_to;
    up_later = m.up_to;
    torn = λ n slot behind. ap (λ (l : RunLog). is_torn_in l s.number (In n) slot) are ∙ more-torn s.number V.log more apart n slot;
    found = λ n slot behind. ap (λ (l : RunLog). found_in l s.number (In n) slot) are ∙ more-found s.number V.log more (In n) slot;
  }

  -- the slots in the second itself are those as its keeping begins
  slots-are : (course_in w.b done s Keeping V.log).slots ≡ x.itself
  slots-are =
      keeping-slots V.log bef s untorn
      ∙ sym (ap (λ (c : Course). c.slots) (course-until V.log later bef s Keeping power tt same-moments (length s.actions) tt))
      ∙ sym (ap (λ (y : Seen). y.itself) seen-is)

  pub x-valid : CrewValid o (events.crew_of x.itself)
  x-valid = subst (λ (k : Slots). CrewValid o (events.crew_of k)) slots-are
      (crew-valid o origin w.standing (told_before w.b done) (course_in w.b done s Keeping V.log) s.number w.from V.cabin w.present)

  pub x-crew : crew_of V.cabin ≡ named (watched_as o) (events.crew_of x.itself)
  x-crew =
      crew-sits (start_at o) (told_before w.b done) (w.b.run.book.sure ++ w.new) (course_in w.b done s Keeping V.log).left s.number w.from (course_in w.b done s Keeping V.log).slots V.cabin well w.tells (watched_as o)
      (known-as o origin V.cabin.cards w.found (λ card some. (w.written card some).valid))
      ∙ ap (λ (k : Slots). named (watched_as o) (events.crew_of k)) slots-are

  pub front-is : (spans : List (List Seen)) → span_before spans x ≡ span_before spans (seen_next p.log done s)
  front-is spans = ap (λ (b : Bool). cond b [] (last_span spans)) x-starts

  pub span-now : seen_spans (seen_of later done) ≡ seen_spans (seen_of p.log done)
  span-now = ap seen_spans (seen-same p.log later done (same-before o done p w.began.followed s later (goes_on m)))

-- ---- SECONDS WITH POWER
module _ {U A0 B0 : State} {chip_a chip_b : CardState} (n speed begun : ℕ) (old : Run) (before : Outcome) (minutes : Kept) (keeper : Keeper) (watch : Watch) (marks : Listed Mark) (breaks : Listed Break) (failed : Bool) (decided : List Minute) (reach : Reach) (d e : Devices)
    (g : RunHasPower None (old.next / 60) old U chip_a chip_b A0 B0) (lit : old.power ≡ Lit) (some : 0 < n) (minute : old.next % 60 + n ≤ 60) (small : old.next + n ≤ end_of_seconds) (early : first_second ≤ old.next)
    (stands : (sp : Span) → CountsSpan old.minutes sp → CountsSpan minutes (fed_many sp speed n)) (given : (sp : Span) → CountsSpan old.minutes sp → decided_in (fed_many sp speed n) ≡ decided_in sp ++ decided)
    (is : IsTurnReach decided (late_moment old.next n begun) failed (told_of (record old { minutes = minutes }) before) (told_of (record old { minutes = minutes; keeper = keeper; watch = watch }) (record before { marks = marks; breaks = breaks })) reach)
    (books : BooksTurn decided failed reach (told_of (record old { minutes = minutes }) before) (told_of (record old { minutes = minutes; keeper = keeper; watch = watch }) (record before { marks = marks; breaks = breaks })) d e)
    (devices : DevicesGoOn failed old.keeper.cabin.cards keeper.cabin.cards d e) (odometer : keeper.odometer ≡ old.keeper.odometer) (whole : IsCoherent d.unit) (unit : IsUnit d.unit)
    (noted : NotesKeeping decided n speed (late_moment old.next n begun) failed (record old { minutes = minutes }) (record old { minutes = minutes; keeper = keeper; watch = watch }) before (record before { marks = marks; breaks = breaks }) d.unit e.unit)
    (memory : keeper.memory ≡ old.keeper.memory) (time : HaveTime e) where
  abbrev between : Run
  between = record old { minutes = minutes; keeper = keeper; watch = watch }

  abbrev told : Outcome
  told = record before { marks = marks; breaks = breaks }

  abbrev later : RunLog
  later = log_of told

  pub well : AllSitWell old.keeper.cabin
  well = all-well (ungiven_of g.span) None old.keeper.cabin g.cabin

  two : (m : ℕ) → AreTwo (present_at old.keeper.cabin m).driver (present_at old.keeper.cabin m).codriver
  two = two-present (ungiven_of g.span) None old.keeper.cabin g.cabin

  ends-by : ungiven_of g.span + length decided ≤ old.next / 60
  ends-by =
      let count = (turn-decides old g speed n decided small (given g.span g.stands)).count in
      let most = turn-most old g speed n minute in
      omega (arith, count, most)

  pub one-most : length decided ≤ 1
  one-most =
      let count = (turn-decides old g speed n decided small (given g.span g.stands)).count in
      let most = turn-one old g speed n minute in
      omega (arith, count, most)

  -- THE KEEPING of the last of them, by the span that is watched and the seconds that are fed to it
  module _ (o : Origin) (origin : IsOrigin o) (limit : old.keeper.memory.limit ≡ limit_in o) (done : List TraceSecond) (s : TraceSecond) (next gone : ℕ)
      (w : RecordInSecond o done s Keeping [] (Some s.speed) decided (record (values_of old before) { minutes = minutes; next = next; begun = gone }) d)
      (number : s.number ≡ old.next + n - 1) (next_is : next ≡ old.next + n - 1) (actions : length s.actions ≡ begun) (stored : old.keeper.odometer ≡ odometer_after (odometer_at o.recording.unit) w.b.travel.before)
      (from : w.from ≡ ungiven_of g.span) (untorn : (slot : Slot) → is_torn_in (log_of before) s.number Keeping slot ≡ false) (evented : EventedNow o done s w.b.run Acting (log_of before) d) where
    day : s.number / 60 ≡ old.next / 60
    day = let same : (old.next + n - 1) / 60 ≡ old.next / 60 = omega (arith, minute, some) in ap (λ (m : ℕ). m / 60) number ∙ same

    few : s.number / 60 ≤ w.from + 4
    few = let most = g.ended.few in let d_ = day in omega (arith, most, d_, from)

    low_end : w.from + length decided ≤ s.number / 60
    low_end = let end = ends-by in let d_ = day in omega (arith, end, d_, from)

    in-field : s.number < 2 ^ 32
    in-field = omega (arith, number, small, some)

    untold : IsUntoldAt s Keeping (log_of before) old.keeper.cabin decided
    untold = (one-most, untorn CoDriver)

    abbrev V : Values
    V = record (values_of old before) { minutes = minutes; next = next; begun = gone }

    pub then_ : (now : Device → ℕ) × SecondMoment w.b.run (went w.b.run.log done).before s Keeping later [] w.b.broken now
    then_ = moment-then old before minutes keeper watch marks breaks n begun speed failed decided reach d e is books devices odometer two lit some time o origin done s next gone w number next_is actions stored few low_end in-field well untold whole unit noted limit memory evented

    lines : LinesMore s.number (told_of (record old { minutes = minutes }) before) (told_of between told)
    lines = come-lines s decided (told_of (record old { minutes = minutes }) before) (told_of between told) reach
        (come-now old before minutes keeper watch marks breaks n begun speed failed decided reach d e is books devices odometer two lit some time o origin done s next gone w number next_is actions stored few low_end in-field well untold whole unit noted limit memory evented)

    log-is : later ≡ and_breaks (log_of before) lines.more
    log-is = ap (λ (bs : List Break). record (log_of before) { breaks = bs }) lines.are

    abbrev lastx : Seen
    lastx = seen_next later done s

    abbrev front : List Seen
    front = span_before (seen_spans (seen_of w.b.run.log done)) lastx

    pub lit-x : lastx.told.lit ≡ true
    lit-x = x-lit o origin done s decided V d w well untorn later then_.0 then_.1 lines.more log-is lines.apart

    pub crew-x : crew_of old.keeper.cabin ≡ named (watched_as o) (events.crew_of lastx.itself)
    crew-x = x-crew o origin done s decided V d w well untorn later then_.0 then_.1 lines.more log-is lines.apart

    pub valid-x : CrewValid o (events.crew_of lastx.itself)
    valid-x = x-valid o origin done s decided V d w well untorn later then_.0 then_.1 lines.more log-is lines.apart

    pub low-x : IsLow (number_of lastx)
    low-x = let is_ = told-number later (went later done).before s in (let some_ = number in omega (arith, is_, some_, early, some), let fits = in-field in omega (arith, is_, fits))

    pub front-now : front ≡ span_seen w.b.run done s
    front-now = front-is o origin done s decided V d w well untorn later then_.0 then_.1 lines.more log-is lines.apart (seen_spans (seen_of w.b.run.log done))

    pub span-then : span_of later (done ++ s ∷ []) ≡ front ++ lastx ∷ []
    span-then =
        span-more later done s lit-x
        ∙ ap (λ (spans : List (List Seen)). span_before spans lastx ++ lastx ∷ []) (span-now o origin done s decided V d w well untorn later then_.0 then_.1 lines.more log-is lines.apart)

    -- what is watched then
    module _ (span new : List Seen) (watched_ : IsWatching o span old.watch) (lows : AreLow new) (valids : AllByRecursion (λ (y : Seen). CrewValid o (events.crew_of y.itself)) new)
        (feeds : map (watched (watched_as o)) new ≡ seconds_with old.next n speed (crew_of old.keeper.cabin)) (are : span ++ new ≡ front ++ lastx ∷ [])
        (brings : bares_by span new ++ overs_by (limit_in o) span new ≡ bares_by front (lastx ∷ []) ++ overs_by (limit_in o) front (lastx ∷ [])) where
      ends : (ended : WatchEnded) → IsFed old.watch watch old.next n speed (crew_of old.keeper.cabin) ended → AreEnded (watched_as o) (limit_in o) span new ended
      ends ended fed_ = subst (λ (l : ℕ). AreEnded (watched_as o) l span new ended) watched_.limit
          (turn-ends (watched_as o) old.watch watch span new old.next n speed (crew_of old.keeper.cabin) ended fed_ watched_.stands feeds)

      watches : (ended : WatchEnded) → IsFed old.watch watch old.next n speed (crew_of old.keeper.cabin) ended → IsWatching o (span_of later (done ++ s ∷ [])) watch
      watches ended fed_ = subst (λ (xs : List Seen). IsWatching o xs watch) (are ∙ sym span-then) (record {
        stands = turn-stands (watched_as o) old.watch watch span new old.next n speed (crew_of old.keeper.cabin) ended fed_ watched_.stands feeds;
        limit = fed_.limit ∙ watched_.limit;
        low = all-both (λ (y : Seen). IsLow (number_of y)) span new watched_.low lows;
        valid = all-both (λ (y : Seen). CrewValid o (events.crew_of y.itself)) span new watched_.valid valids;
      })

      pub last-events : TurnedEvents o (done ++ s ∷ []) (passed n begun (cut_where failed (old.next + n - 1) between)) (cut_breaks failed (old.next + n - 1) begun told) e
      last-events = keeping-events old before minutes keeper watch marks breaks n begun speed failed decided reach d e is books devices odometer two lit some time o origin done s next gone w number next_is actions stored few low_end in-field well untold whole unit noted limit memory evented
          span new watched_.low lows (ends-valid o (limit_in o) span new watched_.valid valids) ends watches brings

  -- ONE SECOND
  module _ (one : n ≡ 1) (o : Origin) (done : List TraceSecond) (s : TraceSecond) (now : IsNow s speed old) (actions : length s.actions ≡ begun) (r : WithinEvented o done s (In (length s.actions)) [] [] Acting old before d) where
    feeds-one : (sp : Span) → CountsSpan old.minutes sp → CountsSpan minutes (fed_many sp s.speed 1)
    feeds-one sp h = subst (λ (k : ℕ). CountsSpan minutes (fed_many sp s.speed k)) one (subst (λ (k : ℕ). CountsSpan minutes (fed_many sp k n)) (sym now.speed_is) (stands sp h))

    given-one : (sp : Span) → CountsSpan old.minutes sp → decided_in (fed_many sp s.speed 1) ≡ decided_in sp ++ decided
    given-one sp h = subst (λ (k : ℕ). decided_in (fed_many sp s.speed k) ≡ decided_in sp ++ decided) one (subst (λ (k : ℕ). decided_in (fed_many sp k n) ≡ decided_in sp ++ decided) (sym now.speed_is) (given sp h))

    turned : IsTurned o done s 0 decided minutes (values_of old before) d r.within.within
    turned = turn-is_fed d o done s (values_of old before) r.within.within 0 (let is_ = now.number in omega (arith, minute, one, is_)) minutes feeds-one decided given-one

    begins : turned.fed.b ≡ r.within.within.b
    begins = turned.first refl

    from-is : turned.fed.from ≡ ungiven_of g.span
    from-is =
        let to = r.within.within.until in
        let same = same-ungiven old.minutes r.within.within.sp g.span r.within.within.minutes g.stands in
        let first = turned.from in
        omega (arith, to, same, first)

    num : s.number ≡ old.next + n - 1
    num = let is_ = now.number in omega (arith, is_, one)

    next_is : old.next + 0 ≡ old.next + n - 1
    next_is = omega (arith, one)

    stored : old.keeper.odometer ≡ odometer_after (odometer_at o.recording.unit) turned.fed.b.travel.before
    stored = r.within.odometer ∙ ap (odometer_after (odometer_at o.recording.unit)) (sym turned.travelled_before)

    untorn : (slot : Slot) → is_torn_in (log_of before) s.number Keeping slot ≡ false
    untorn slot = r.within.within.moment.up_to.torn Keeping slot tt

    evented : EventedNow o done s turned.fed.b.run Acting (log_of before) d
    evented = subst (λ (b : Beginning). EventedNow o done s b.run Acting (log_of before) d) (sym begins) r.evented

    abbrev x1 : Seen
    x1 = seen_next later done s

    abbrev front1 : List Seen
    front1 = span_before (seen_spans (seen_of turned.fed.b.run.log done)) x1

    watching : IsWatching o front1 old.watch
    watching = subst (λ (xs : List Seen). IsWatching o xs old.watch) (sym (front-now o r.within.origin r.watches.limit done s (old.next + 0) turned.begun turned.fed num next_is actions stored from-is untorn evented))
        (subst (λ (b : Beginning). IsWatching o (span_seen b.run done s) old.watch) (sym begins) r.watches.watched)

    feeds : map (watched (watched_as o)) (x1 ∷ []) ≡ seconds_with old.next n speed (crew_of old.keeper.cabin)
    feeds =
        one-fed (watched_as o) later done s
        ∙ (λ i. seconds_with (now.number i) (sym one i) (now.speed_is i) (sym (crew-x o r.within.origin r.watches.limit done s (old.next + 0) turned.begun turned.fed num next_is actions stored from-is untorn evented) i))

    pub one-events : TurnedEvents o (done ++ s ∷ []) (passed n begun (cut_where failed (old.next + n - 1) between)) (cut_breaks failed (old.next + n - 1) begun told) e
    one-events = last-events o r.within.origin r.watches.limit done s (old.next + 0) turned.begun turned.fed num next_is actions stored from-is untorn evented front1 (x1 ∷ []) watching
        (low-x o r.within.origin r.watches.limit done s (old.next + 0) turned.begun turned.fed num next_is actions stored from-is untorn evented, tt)
        (valid-x o r.within.origin r.watches.limit done s (old.next + 0) turned.begun turned.fed num next_is actions stored from-is untorn evented, tt)
        feeds refl refl
