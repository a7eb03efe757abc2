-- As power is back, the events of a run beside its record: the span begins, each card is judged, and the interruption before it is noted.
use Rattle.std.proofs.Common.{◌≡◌, ◌∙◌, ℕ, zero, suc, ◌/◌, ◌^◌, ◌<◌, Bool, true, false, Option, Some, None, List, [], ◌∷◌, ◌++◌, length, refl, ap, sym, subst, arith}
use Rattle.std.specs.List.{AllByRecursion}
use Rattle.activity_codec.specs.declared.values.Slot.{Slot}
use Rattle.activity_codec.specs.declared.values.Slot.TheVariants.{Driver, CoDriver}
use Rattle.trace_model.specs.declared.Card.{Card}
use Rattle.trace_model.specs.Trace.{TraceSecond}
use Rattle.minute_rules.specs.minute_model.declared.Rule.{Rule}
use Rattle.log_model.specs.declared.lines.Break.{Break}
use Rattle.log_model.specs.Log.{RunLog, In}
use Rattle.log_model.specs.Slots.{is_accepted}
use Rattle.log_model.specs.Course.{Visit, Went, fresh, went}
use Rattle.device_calls.specs.event_model.Events.{Crew, Seen, crew_of as sitting_crew, seen_of, seen_spans}
use Rattle.device_calls.specs.event_model.Spans.{gap_of}
use Rattle.run_acts.specs.unit_notes.declared.unit_event.UnitEvent.{UnitEvent}
use Rattle.unit_minutes.specs.declared.notes.Notes.{Notes}
use Rattle.device_calls.specs.run_unit_course.Lines.{cut_at, found_from}
use Rattle.device_calls.specs.run_unit_course.Followed.{UnitPower, Due, Lit, Lost as IsLost, MayPower, IsDark}
use Rattle.device_calls.specs.safety_model.Safe.{Devices, breakdowns_of}
use Rattle.run_minutes.specs.card_slots.Calls.{seat_in, card_in}
use Rattle.run_acts.specs.run_crew.Cabin.{CabinIsSound}
use Rattle.run_acts.specs.run_course.Followed.{Progress, BookFollowsRun}
use Rattle.run_acts.specs.run_course.Moments.{and_break}
use Rattle.run_acts.specs.run_course.Seconds.{GoesOnBy}
use Rattle.run_acts.proofs.run_course.Logs.{went-found}
use Rattle.run_acts.proofs.run_course.Told.{lit-told}
use Rattle.run_acts.specs.run_course.Moment.{goes_on}
use Rattle.run_acts.specs.run_course.Reached.{course_at}
use Rattle.run_acts.proofs.run_course.Moment.{moment-begins}
use Rattle.run_acts.proofs.run_course.Reached.{nothing-told}
use Rattle.run_acts.specs.run_events.Shown.{none_sure, SaysNothing}
use Rattle.run_acts.specs.run_events.Seconds.{span_before, seen_next}
use Rattle.run_acts.proofs.run_events.Shows.{nothing-more}
use Rattle.run_outcome.specs.Lines.{Listed}
use Rattle.run_outcome.specs.declared.outcome.Outcome.{Outcome}
use Rattle.run_minutes.specs.run_promise.Origin.{Origin, rule_of, start_at, first_of}
use Rattle.run_minutes.specs.run_promise.Beside.{HaveLeftMore}
use Rattle.run_minutes.specs.run_promise.Seconds.{found_again}
use Rattle.run_minutes.specs.declared.keeper.Moment.{Moment}
use Rattle.run_minutes.specs.declared.keeper.Keeper.{Keeper}
use Rattle.run_minutes.specs.Books.{HaveTime}
use Rattle.run_acts.specs.run_record.Recorded.{Values, progress, carried, RecordUnpowered, RecordBetweenSeconds}
use Rattle.run_acts.specs.run_record.Within.{Beginning}
use Rattle.run_acts.specs.run_record.Waking.{both_slots}
use Rattle.run_acts.proofs.run_record.Powering.{off-of}
use Rattle.run_acts.specs.run_note_record.Evented.{number_in, limit_in, NotesNothing, Evented}
use Rattle.run_acts.specs.run_note_record.Noting.{Stage, Waking, Acting}
use Rattle.run_acts.specs.run_note_record.EventsSoFar.{EventedNow, BeginsNow, AreBare, ComesInTurn, interruption}
use Rattle.run_acts.specs.run_note_record.Kept.{interruption_of}
use Rattle.run_acts.proofs.run_note_record.Adding.{adds-nothing, second-begins_now, power-now, starts-now}
use Rattle.run_acts.proofs.run_note_record.Cutting.{failure-cuts}
use Rattle.run_acts.proofs.run_note_record.Kept.{interruption-found, no-break_no-span}
use Rattle.run_acts.proofs.run_note_record.Seconds.{events-found}
use Rattle.run_acts.specs.declared.run.Run.{Run}
use Rattle.run_acts.specs.NotedEvents.{NotesEvents}
use Rattle.run_acts.specs.Acting.{IsNotedIn, now_moment}
use Rattle.run_acts.specs.Noting.{GapReach, NoGap, UnitFailed, DriverFell, BothSlots, IsGapNoted, AreGapEvents}
use Rattle.device_calls.specs.event_model.declared.entries.Span.{Span}
use Rattle.run_acts.specs.Power.{IsSpanBegun, cut_run}
use Rattle.run_minutes.specs.Keeping.{with_lines}
use Rattle.run_acts.specs.Recording.{IsOrigin, log_of, RunWithin, RunCut, GoesOnOrFails}
use Rattle.run_acts.specs.Evented.{IsWatching, span_seen, CutEvented, EventsGoOn}
use Rattle.run_acts.specs.ActsEvented.{IsFailing}
use Rattle.recorder_with_cards.specs.Accepting.{IsBare, IsAnew}
use Rattle.recorder_with_cards.specs.Judged.{moment_in, RunNext, IsInTurn, EventsJudged, JudgesAnew, EventsAnew}
use Rattle.recorder_with_cards.specs.Woken.{EventsWoken}
use Rattle.recorder_with_cards.proofs.GapEvented.{gap-is, gap-small, gap-evented, none-evented}
use Rattle.recorder_with_cards.proofs.Resumed.{RunWaking, IsReadAgain, within-of, waiting_in, driver-next, codriver-next, codriver-began}
use Rattle.recorder_with_cards.proofs.Spanned.{no-span_no-break}

is-dark : (supply : UnitPower) (next : ℕ) → MayPower supply next → IsDark supply
is-dark (Lit span) next may = absurd may
is-dark Due next may = tt
is-dark IsLost next may = tt

-- ---- THE UNIT WAS READ

module _ (o : Origin) (done : List TraceSecond) (s : TraceSecond) (supply : UnitPower) (v : Values) (d e : Devices) (r : RecordBetweenSeconds o done supply v d) (may : MayPower supply v.next) (number : s.number ≡ v.next) (given : s.has_power ≡ true) (k : ℕ)
    (evented : Evented o done v.log v.unfound v.next supply d) (quiet : NotesNothing d e) (left : HaveLeftMore o d e) (followed : BookFollowsRun (rule_of o) (start_at o) o.from (first_of o) done (found_again k (progress v supply r.book))) where
  abbrev p : Progress
  p = progress v supply r.book

  abbrev q : Progress
  q = found_again k p

  q-begins : BeginsNow o done q [] s
  q-begins = record { followed = followed; lit = refl; number = number; given = given }

  -- a span begins, of which nothing is noted yet
  q-evented : EventedNow o done s q Waking q.log e
  q-evented = second-begins_now e o done q [] s q-begins (events-found d e o done p r.recorded.followed evented may k quiet left)

  -- or the unit failed as it was mended
  pub unmended-evented : IsReadAgain o done p k d e → Evented o (done ++ s ∷ []) (and_break q.log (cut_at s.number true 0)) q.unfound (suc q.next) IsLost e
  unmended-evented read =
      failure-cuts e e o done q [] s q-begins Waking Waking q.log q.log [] q-evented (adds-nothing e o done s Waking q.log) (λ c there. (c, there, nothing-more (number_in o) none_sure c c (itself c)))
      (record { unit = λ x h. h; card = λ card x h. h }) (In 0) (fresh true (went q.log done).before.slots).entered (breakdowns_of d) (breakdowns_of d) (breakdowns_of e)
      (moment-begins (rule_of o) (start_at o) o.from (first_of o) done q followed [] refl s number given (breakdowns_of d)).0 read.more read.broke s.actions ([], refl, refl) (λ ended. absurd (cc))
    where
      itself : (c : List ℕ) → SaysNothing c c
      itself c = record { tables = λ kind there. refl; first_over = refl; over_count = refl }

  same-went : went q.log done ≡ went v.log done
  same-went = went-found v.log v.unfound k o.from done r.recorded.followed.order

  off : RecordUnpowered o done v (carried v r.due r.book r.standing r.brought r.hands r.firsts) d
  off = off-of o done supply v (carried v r.due r.book r.standing r.brought r.hands r.firsts) d may r.held

  pub q-bare : AreBare (went q.log done).before.slots
  q-bare = record { driver = ap (λ (w : Went). is_accepted w.before.slots.driver) same-went ∙ off.driver; codriver = ap (λ (w : Went). is_accepted w.before.slots.codriver) same-went ∙ off.codriver }

  -- nothing is told of it yet
  pub q-turn : ComesInTurn Driver q.log s.number
  q-turn =
      let none = nothing-told (rule_of o) (start_at o) o.from (first_of o) done q followed s.number (omega (arith, number)) in
      (none.torn (In 0) CoDriver, none.found (In 0) CoDriver)

  -- the interruption before it, by what was read
  pub q-list : (log : RunLog) → GoesOnBy q log s → (crew : Crew) → interruption log (seen_spans (seen_of q.log done)) s.number crew ≡ interruption_of k (seen_spans (seen_of v.log done)) s.number crew
  q-list log goes crew = interruption-found o done p r.recorded.followed (is-dark supply v.next may) evented.gaps k followed s log goes s.number crew

  -- there was a span before exactly where a break was told
  pub q-none : v.log.breaks ≡ [] → seen_spans (seen_of v.log done) ≡ []
  q-none none = no-break_no-span done p (is-dark supply v.next may) evented.gaps none

  pub q-some : (v.log.breaks ≡ [] → ⊥) → seen_spans (seen_of v.log done) ≡ [] → ⊥
  q-some some none = some (no-span_no-break o.breakdowns (breakdowns_of d) done v.log r.recorded.caused.caused none)

-- ---- A RUN AT ITS POWER-ON: what its second has brought so far is noted

pub record WakesEvented (o : Origin) (done : List TraceSecond) (s : TraceSecond) (b : Beginning) (waits : List Visit) (untold : List Slot) (run : Run) (out : Outcome) (d : Devices) : Type 0 where
  pub waking : RunWaking o done s b waits untold run out d
  pub bare : AreBare (went b.run.log done).before.slots
  pub empty : b.span ≡ []
  pub evented : EventedNow o done s b.run Waking (log_of out) d

-- a card that waits may be judged now
turn-of : (o : Origin) (done : List TraceSecond) (s : TraceSecond) (b x : Beginning) (slot : Slot) (log : RunLog) → x ≡ b → AreBare (went b.run.log done).before.slots → b.span ≡ [] → ComesInTurn slot log s.number → IsInTurn x done s 0 log slot
turn-of o done s b x slot log is bare empty turn =
    subst (λ (y : Beginning). IsInTurn y done s 0 log slot) (sym is)
    (record { first = λ zero_. (bare, turn); starts = λ zero_. empty; other_unfound = λ m clash. absurd (let bad : 0 ≡ suc m = clash in cc); apart = λ m clash. absurd (let bad : 0 ≡ suc m = clash in cc) })

judged-evented : (o : Origin) (done : List TraceSecond) (s : TraceSecond) (b : Beginning) (waits fewer : List Visit) (slot : Slot) (card : Card) (old new : Run) (before after : Outcome) (d e : Devices) (next : RunNext o done s 0 waits fewer old before d slot card) → next.goes.within.b ≡ b →
    AreBare (went b.run.log done).before.slots → b.span ≡ [] → ComesInTurn slot (log_of before) s.number → EventedNow o done s b.run Waking (log_of before) d → (at : Moment) → at ≡ moment_in s 0 → (speed : ℕ) → s.speed ≡ speed → (failed : Bool) →
    EventsJudged slot card at speed failed old new before after d e → HaveTime e → EventsGoOn failed o done s b.run (In 0) Waking (log_of after) e
judged-evented o done s b waits fewer slot card old new before after d e next is bare empty turn now at at_is speed speed_is failed events time =
    subst (λ (x : Beginning). EventsGoOn failed o done s x.run (In 0) Waking (log_of after) e) is
    (events o done s 0 waits fewer at_is speed_is next (turn-of o done s b next.goes.within.b slot (log_of before) is bare empty turn) (subst (λ (x : Beginning). EventedNow o done s x.run Waking (log_of before) d) (sym is) now) time)

-- nobody sits there
bare-evented : (o : Origin) (done : List TraceSecond) (s : TraceSecond) (b : Beginning) (old new : Run) (before after : Outcome) (d e : Devices) (failed : Bool) → failed ≡ false → after ≡ before → ((P : Devices → Type 0) → P d → P e) →
    EventedNow o done s b.run Waking (log_of before) d → EventsGoOn failed o done s b.run (In 0) Waking (log_of after) e
bare-evented o done s b old new before after d e failed well same still now =
    subst (λ (f : Bool). EventsGoOn f o done s b.run (In 0) Waking (log_of after) e) (sym well)
    (still (λ (x : Devices). EventedNow o done s b.run Waking (log_of after) x) (subst (λ (q : Outcome). EventedNow o done s b.run Waking (log_of q) d) (sym same) now))

-- THE DRIVER SLOT'S CARD
pub driver-evented : (o : Origin) (done : List TraceSecond) (s : TraceSecond) (b : Beginning) (card : Option Card) (rest : List Visit) (old : Run) (before : Outcome) (d : Devices) → WakesEvented o done s b (waiting_in Driver card ++ rest) both_slots old before d →
    ComesInTurn Driver (log_of before) s.number → AllByRecursion (λ (x : Visit). x.phase ≡ In 0) rest → card_in old.keeper.cabin.slots.seats.driver ≡ card → IsBare old.keeper.cabin.slots.seats.driver → (at : Moment) → at ≡ moment_in s 0 → (speed : ℕ) → s.speed ≡ speed →
    (failed : Bool) (new : Run) (after : Outcome) → IsAnew card Driver at speed old new before after → (e : Devices) → (card ≡ None → (P : Devices → Type 0) → P d → P e) → HaveTime e → JudgesAnew card Driver at failed old new before after d e →
    EventsAnew card Driver at speed failed old new before after d e → EventsGoOn failed o done s b.run (In 0) Waking (log_of after) e
driver-evented o done s b None rest old before d w turn once is bare at at_is speed speed_is failed new after anew e still time judges events = bare-evented o done s b old new before after d e failed judges anew.1 (still refl) w.evented
driver-evented o done s b (Some card) rest old before d w turn once is bare at at_is speed speed_is failed new after anew e still time judges events =
    let next = driver-next o done s b card rest old before d w.waking once is bare in
    judged-evented o done s b (waiting_in Driver (Some card) ++ rest) rest Driver card old new before after d e next.0 next.1 w.bare w.empty turn w.evented at at_is speed speed_is failed events time

-- AND THE CO-DRIVER SLOT'S
pub codriver-evented : (o : Origin) (done : List TraceSecond) (s : TraceSecond) (b : Beginning) (card : Option Card) (old : Run) (before : Outcome) (d : Devices) → WakesEvented o done s b (waiting_in CoDriver card) (CoDriver ∷ []) old before d →
    card_in old.keeper.cabin.slots.seats.codriver ≡ card → IsBare old.keeper.cabin.slots.seats.codriver → (at : Moment) → at ≡ moment_in s 0 → (speed : ℕ) → s.speed ≡ speed →
    (failed : Bool) (new : Run) (after : Outcome) → IsAnew card CoDriver at speed old new before after → (e : Devices) → (card ≡ None → (P : Devices → Type 0) → P d → P e) → HaveTime e → JudgesAnew card CoDriver at failed old new before after d e →
    EventsAnew card CoDriver at speed failed old new before after d e → EventsGoOn failed o done s b.run (In 0) Waking (log_of after) e
codriver-evented o done s b None old before d w is bare at at_is speed speed_is failed new after anew e still time judges events = bare-evented o done s b old new before after d e failed judges anew.1 (still refl) w.evented
codriver-evented o done s b (Some card) old before d w is bare at at_is speed speed_is failed new after anew e still time judges events =
    judged-evented o done s b (waiting_in CoDriver (Some card)) [] CoDriver card old new before after d e (codriver-next o done s b card old before d w.waking is bare) (codriver-began o done s b card old before d w.waking is bare) w.bare w.empty tt w.evented
    at at_is speed speed_is failed events time

-- memory and watch stay as a card is judged
pub anew-limit : (card : Option Card) (slot : Slot) (at : Moment) (speed : ℕ) (old new : Run) (before after : Outcome) → IsAnew card slot at speed old new before after → (new.keeper.memory ≡ old.keeper.memory) × (new.watch ≡ old.watch)
anew-limit None slot at speed old new before after is = (ap (λ (r : Run). r.keeper.memory) is.0, ap (λ (r : Run). r.watch) is.0)
anew-limit (Some card) slot at speed old new before after is = (ap (λ (k : Keeper). k.memory) is.2.left.keeper, ap (λ (r : Run). r.watch) is.2.only)

-- ---- HOW IT ENDS

-- the unit has failed, and a cut is told next
pub woken-fails : (o : Origin) (done : List TraceSecond) (s : TraceSecond) (p : Progress) (stage : Stage) (run : Run) (out : Outcome) (d : Devices) (began : RunLog) → EventsGoOn true o done s p (In 0) stage (log_of out) d → p.unfound ≡ run.unfound → p.next ≡ run.next → run.keeper.memory.limit ≡ limit_in o → EventsWoken true began o done s run out d
woken-fails o done s p stage run out d began h unfound next limit =
    (subst (λ (n : ℕ). Evented o (done ++ s ∷ []) (and_break (log_of out) (cut_at s.number true 0)) run.unfound (suc n) IsLost d) next (subst (λ (n : ℕ). Evented o (done ++ s ∷ []) (and_break (log_of out) (cut_at s.number true 0)) n (suc p.next) IsLost d) unfound h), limit)

-- a span that begins is watched from nothing on
pub span-none : (o : Origin) (done : List TraceSecond) (s : TraceSecond) (p : Progress) → BeginsNow o done p [] s → span_seen p done s ≡ []
span-none o done s p b =
    let starts : (seen_next p.log done s).told.starts ≡ true = (lit-told p.log (went p.log done).before s (power-now o done p [] s b)).starts ∙ starts-now o done p [] s b in
    begun (seen_next p.log done s) (seen_spans (seen_of p.log done)) starts
  where
    begun : (x : Seen) (spans : List (List Seen)) → x.told.starts ≡ true → span_before spans x ≡ []
    begun x spans is = rw is refl

-- it goes on, and all is noted
pub woken-on : (o : Origin) (done : List TraceSecond) (s : TraceSecond) (b : Beginning) (run : Run) (out : Outcome) (d : Devices) → b.span ≡ [] → (x : RunWithin o done s (In 0) [] [] run out d) → x.within.b ≡ b → EventedNow o done s b.run Acting (log_of out) d → run.keeper.memory.limit ≡ limit_in o →
    IsWatching o [] run.watch → (began : RunLog) → x.within.b.run.log ≡ began → EventsWoken false began o done s run out d
woken-on o done s b run out d empty x is now limit watch began log =
    let begins : BeginsNow o done x.within.b.run [] s = subst (λ (span : _). BeginsNow o done x.within.b.run span s) (ap (λ (y : Beginning). y.span) is ∙ empty) (record { followed = x.within.began.followed; lit = x.within.lit; number = x.within.moment.number; given = x.within.moment.given }) in (
      record {
        within = x;
        evented = subst (λ (y : Beginning). EventedNow o done s y.run Acting (log_of out) d) (sym is) now;
        watches = record { limit = limit; watched = subst (λ (span : List Seen). IsWatching o span run.watch) (sym (span-none o done s x.within.b.run begins)) watch };
      },
      log,
    )

-- ---- THE WHOLE OF IT

-- THE SPAN BEGINS: nothing is noted of it yet, and its cards may be judged
pub wakes-evented : (o : Origin) (done : List TraceSecond) (s : TraceSecond) (supply : UnitPower) (v : Values) (d e : Devices) (r : RecordBetweenSeconds o done supply v d) (may : MayPower supply v.next) (number : s.number ≡ v.next) (given : s.has_power ≡ true) (k : ℕ) →
    Evented o done v.log v.unfound v.next supply d → NotesNothing d e → (b : Beginning) (waits : List Visit) (run : Run) (out : Outcome) → RunWaking o done s b waits both_slots run out e →
    (b.run ≡ found_again k (progress v supply r.book)) × (b.span ≡ []) × HaveLeftMore o d e → log_of out ≡ (found_again k (progress v supply r.book)).log →
    WakesEvented o done s b waits both_slots run out e × ComesInTurn Driver (log_of out) s.number × BookFollowsRun (rule_of o) (start_at o) o.from (first_of o) done (found_again k (progress v supply r.book))
wakes-evented o done s supply v d e r may number given k evented quiet b waits run out waking is log =
    let q : Progress = found_again k (progress v supply r.book) in
    let f : BookFollowsRun (rule_of o) (start_at o) o.from (first_of o) done q =
    subst (λ (x : Progress). BookFollowsRun (rule_of o) (start_at o) o.from (first_of o) done x) (ap (λ (x : Beginning). x.run) waking.waking.began ∙ is.0) waking.waking.within.began.followed in (
      record {
        waking = waking;
        bare = subst (λ (x : Progress). AreBare (went x.log done).before.slots) (sym is.0) (q-bare o done s supply v d e r may number given k evented quiet is.2 f);
        empty = is.1;
        evented = subst (λ (x : Progress). EventedNow o done s x Waking (log_of out) e) (sym is.0) (subst (λ (l : RunLog). EventedNow o done s q Waking l e) (sym log) (q-evented o done s supply v d e r may number given k evented quiet is.2 f));
      },
      subst (λ (l : RunLog). ComesInTurn Driver l s.number) (sym log) (q-turn o done s supply v d e r may number given k evented quiet is.2 f),
      f,
    )

module _ (o : Origin) (origin : IsOrigin o) (done : List TraceSecond) (s : TraceSecond) (supply : UnitPower) (v : Values) (d e : Devices) (r : RecordBetweenSeconds o done supply v d) (may : MayPower supply v.next) (number : s.number ≡ v.next) (given : s.has_power ≡ true) (k : ℕ)
    (evented : Evented o done v.log v.unfound v.next supply d) (quiet : NotesNothing d e) (left : HaveLeftMore o d e) (followed : BookFollowsRun (rule_of o) (start_at o) o.from (first_of o) done (found_again k (progress v supply r.book)))
    (b : Beginning) (run_is : b.run ≡ found_again k (progress v supply r.book)) (empty : b.span ≡ []) (bare : AreBare (went b.run.log done).before.slots) (two : Run) (told : Outcome) (g : Devices) (w : RunWaking o done s b [] [] two told g) (now : EventedNow o done s b.run Waking (log_of told) g)
    (low : ℕ) (stands : CabinIsSound low None two.keeper.cabin) (small : s.number < 2 ^ 32) where
  abbrev x : RunWithin o done s (In 0) [] [] two told g
  x = within-of o done s b [] [] two told g w

  pub same-run : x.within.b.run ≡ found_again k (progress v supply r.book)
  same-run = ap (λ (y : Beginning). y.run) w.waking.began ∙ run_is

  pub here-empty : x.within.b.span ≡ []
  here-empty = ap (λ (y : Beginning). y.span) w.waking.began ∙ empty

  here-bare : AreBare (went x.within.b.run.log done).before.slots
  here-bare = subst (λ (y : Beginning). AreBare (went y.run.log done).before.slots) (sym w.waking.began) bare

  here-now : EventedNow o done s x.within.b.run Waking (log_of told) g
  here-now = subst (λ (y : Beginning). EventedNow o done s y.run Waking (log_of told) g) (sym w.waking.began) now

  -- the interruption, by what was read
  listed : (crew : Crew) → interruption (log_of told) (seen_spans (seen_of x.within.b.run.log done)) s.number crew ≡ interruption_of k (seen_spans (seen_of v.log done)) s.number crew
  listed crew =
      ap (λ (y : Progress). interruption (log_of told) (seen_spans (seen_of y.log done)) s.number crew) same-run
      ∙ q-list o done s supply v d e r may number given k evented quiet left followed (log_of told) (subst (λ (y : Progress). GoesOnBy y (log_of told) s) same-run (goes_on x.within.moment)) crew

  -- IT IS NOTED where a break was told before,
  pub gap-woken : (v.log.breaks ≡ [] → ⊥) → k < s.number / 60 → (h : Devices) (failed : Bool) (new : Run) (after : Listed Break) (reach : GapReach) (vs : List UnitEvent) → AreGapEvents (gap_of k two.next) (now_moment two) failed two new told.breaks after reach vs → NotesEvents vs failed g h →
      HaveLeftMore o g h × (failed ≡ true → IsFailing o done s x.within.b.run (In 0) (log_of (record told { breaks = after })) (breakdowns_of h)) → EventsGoOn failed o done s x.within.b.run (In 0) Acting (log_of (record told { breaks = after })) h
  gap-woken some early h failed new after reach vs are notes leaves =
      let here : two.next ≡ s.number = x.within.next ∙ sym x.within.moment.number in
      let crew : Crew = sitting_crew (course_at (log_of told) (went x.within.b.run.log done).before s (In 0)).slots in
      gap-evented o origin done s two told g x low stands small here-empty here-bare (gap_of k s.number) (gap-small k s.number small early)
      (listed crew ∙ gap-is k (seen_spans (seen_of v.log done)) s.number crew (q-some o done s supply v d e r may number given k evented quiet left followed some)) h failed new after reach vs
      (subst (λ (n : ℕ). AreGapEvents (gap_of k n) (now_moment two) failed two new told.breaks after reach vs) here are) notes leaves.0 leaves.1 here-now

  -- and else there was none.
  pub none-woken : v.log.breaks ≡ [] → NotesEvents [] false g g → EventedNow o done s x.within.b.run Acting (log_of told) g
  none-woken none notes =
      let crew : Crew = sitting_crew (course_at (log_of told) (went x.within.b.run.log done).before s (In 0)).slots in
      none-evented o origin done s two told g x low stands small here-empty here-bare
      (listed crew ∙ ap (λ (spans : List (List Seen)). interruption_of k spans s.number crew) (q-none o done s supply v d e r may number given k evented quiet left followed none)) notes here-now

-- the limit is that of the unit, and the span that began is watched by it
pub begun-watched : (o : Origin) (rule : Rule) (old mid new : Run) (journal : Notes) → IsSpanBegun rule old mid journal → old.keeper.memory.limit ≡ limit_in o → new.watch ≡ mid.watch → IsWatching o [] new.watch
begun-watched o rule old mid new journal begun limit same =
    subst (IsWatching o []) (sym same) (record { stands = begun.watch; limit = begun.limit.0 ∙ limit; low = tt; valid = tt })

-- behind the note of the interruption
pub woken-ends : (o : Origin) (done : List TraceSecond) (s : TraceSecond) (b : Beginning) → b.span ≡ [] → (failed : Bool) (run : Run) (out : Outcome) (d : Devices) → GoesOnOrFails failed o done s (In 0) [] run out d b → EventsGoOn failed o done s b.run (In 0) Acting (log_of out) d →
    b.run.unfound ≡ run.unfound → b.run.next ≡ run.next → run.keeper.memory.limit ≡ limit_in o → IsWatching o [] run.watch → (began : RunLog) → b.run.log ≡ began → EventsWoken failed began o done s run out d
woken-ends o done s b empty false run out d goes now unfound next limit watch began log = woken-on o done s b run out d empty goes.goes goes.began now limit watch began (ap (λ (y : Beginning). y.run.log) goes.began ∙ log)
woken-ends o done s b empty true run out d goes cut unfound next limit watch began log = woken-fails o done s b.run Acting run out d began cut unfound next limit

-- the note leaves the memory as it was
noted-memory : (who : Option Card) (slot : Slot) (at : Moment) (old new : Run) (breaks after : Listed Break) (fell : Bool) → IsNotedIn who slot at old new breaks after fell → new.keeper.memory ≡ old.keeper.memory
noted-memory None slot at old new breaks after fell is = ap (λ (r : Run). r.keeper.memory) is.0
noted-memory (Some card) slot at old new breaks after false is = ap (λ (r : Run). r.keeper.memory) is.0.run
noted-memory (Some card) slot at old new breaks after true is = ap (λ (r : Run). r.keeper.memory) is.0.run

pub gap-memory : (q : Option Span) (at : Moment) (failed : Bool) (old new : Run) (breaks after : Listed Break) (reach : GapReach) → IsGapNoted q at failed old new breaks after reach → new.keeper.memory ≡ old.keeper.memory
gap-memory None at failed old new breaks after NoGap is = ap (λ (r : Run). r.keeper.memory) is.1
gap-memory None at failed old new breaks after UnitFailed is = absurd is
gap-memory None at failed old new breaks after DriverFell is = absurd is
gap-memory None at failed old new breaks after (BothSlots driver codriver) is = absurd is
gap-memory (Some gap) at failed old new breaks after NoGap is = absurd is
gap-memory (Some gap) at failed old new breaks after UnitFailed is = ap (λ (r : Run). r.keeper.memory) is.1
gap-memory (Some gap) at failed old new breaks after DriverFell is = noted-memory (card_in (seat_in old.keeper.cabin.slots.seats Driver)) Driver at old new breaks after true is.1
gap-memory (Some gap) at failed old new breaks after (BothSlots driver codriver) is =
    noted-memory (card_in (seat_in is.0.between.keeper.cabin.slots.seats CoDriver)) CoDriver at is.0.between new is.0.told after codriver is.0.second
    ∙ noted-memory (card_in (seat_in old.keeper.cabin.slots.seats Driver)) Driver at old is.0.between breaks is.0.told driver is.0.first

-- what was read told of breaks exactly where breaks were told before
found-few : (n k : ℕ) (bs : List Break) → length (found_from n k bs) ≡ 0 → bs ≡ []
found-few n k [] none = refl
found-few zero k (b ∷ bs) none = absurd (omega (arith, none))
found-few (suc n) k (b ∷ bs) none = absurd (omega (arith, none))

found-no : (n k : ℕ) → length (found_from n k []) ≡ 0
found-no zero k = refl
found-no (suc n) k = refl

pub none-told : (n k : ℕ) (bs items : List Break) → items ≡ found_from n k bs → length items ≡ 0 → bs ≡ []
none-told n k bs items is none = found-few n k bs (ap length (sym is) ∙ none)

pub some-told : (n k : ℕ) (bs items : List Break) → items ≡ found_from n k bs → 0 < length items → bs ≡ [] → ⊥
some-told n k bs items is some none =
    let no : length items ≡ 0 = ap length is ∙ ap (λ (l : List Break). length (found_from n k l)) none ∙ found-no n k in
    omega (arith, some, no)

-- the cut is told
pub cut-woken : (o : Origin) (done : List TraceSecond) (s : TraceSecond) (mid new : Run) (out after : Outcome) (d : Devices) (began : RunLog) → EventsWoken true began o done s mid out d → RunCut o done s new after d → new ≡ cut_run mid.next mid →
    after ≡ record out { breaks = with_lines (cut_at mid.next true 0 ∷ []) out.breaks } → s.number ≡ mid.next → CutEvented o done s new after d
cut-woken o done s mid new out after d began fails cut is told number =
    let log : and_break (log_of out) (cut_at s.number true 0) ≡ log_of after = ap (λ (u : ℕ). and_break (log_of out) (cut_at u true 0)) number ∙ sym (ap log_of told) in
    record {
      cut = cut;
      evented = subst (λ (l : RunLog). Evented o (done ++ s ∷ []) l new.unfound (suc new.next) IsLost d) log
          (subst (λ (r : Run). Evented o (done ++ s ∷ []) (and_break (log_of out) (cut_at s.number true 0)) r.unfound (suc r.next) IsLost d) (sym is) fails.0);
      limit = ap (λ (r : Run). r.keeper.memory.limit) is ∙ fails.1;
    }
