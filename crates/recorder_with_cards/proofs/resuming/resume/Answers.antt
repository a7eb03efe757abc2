use Rattle.std.proofs.lemmas.Grind.{common_steps}
use Rattle.std.proofs.Common.{rules, ◌≡◌, ◌∙◌, ℕ, ◌+◌, ◌/◌, ◌<◌, ◌^◌, suc, Bool, true, false, Option, None, option_map, List, [], ◌∷◌, ◌++◌, length, refl, ap, sym, subst, arith, ◌≤◌, ◌*◌}
use Rattle.std.specs.Prelude.{is_err, IfSome}
use Rattle.tach_media.specs.Medium.{HasCause, State}
use Rattle.tach_media.proofs.Runs.{on_ok, ok_gives, cause_after, from_told}
use Rattle.unit_minutes.specs.gated_ring.Ring.{PointsInside}
use Rattle.run_acts.specs.message_model.Records.{speed_ring}
use Rattle.unit_minutes.specs.unit_model.Decoding.{Decodes}
use Rattle.activity_codec.specs.declared.values.Slot.TheVariants.{Driver, CoDriver}
use Rattle.unit_minutes.specs.Image.{Agrees}
use Rattle.unit_minutes.specs.declared.notes.Notes.{Notes}
use Rattle.run_acts.specs.run_crew.declared.cabin.Cabin.{Cabin}
use Rattle.run_acts.specs.run_crew.Cards.{session_of}
use Rattle.run_minutes.specs.declared.keeper.Keeper.{Keeper}
use Rattle.run_minutes.specs.Keeping.{UnitMayBeCalled}
use Rattle.run_acts.specs.declared.run.Run.{Run}
use Rattle.run_acts.specs.Going.{CanBeCut, RunHasPowerAllSeated}
use Rattle.run_acts.specs.Room.{falls_of, bare_count, waiting, Takes, bare_seats}
use Rattle.run_acts.proofs.Standing.{span-lit, span-held}
use Rattle.recorder_with_cards.specs.Accepting.{IsBare}
use Rattle.recorder_with_cards.proofs.SideShown.{speeds-inside}
use Rattle.run_acts.specs.run_events.Blocks.{KnowsNewest}
use Rattle.run_acts.proofs.run_events.Newest.{knows-left}
use Rattle.recorder_with_cards.proofs.Begun.{begun-none, dark-bare}
use Rattle.run_outcome.specs.declared.outcome.Outcome.{Outcome}
use Rattle.recorder_with_cards.proofs.Taken.{takes-then, takes-breaks, awake-takes, takes-nothing, anew-more}
use Rattle.run_minutes.specs.card_slots.Calls.{card_in}
use Rattle.log_model.specs.Log.{In, RunLog}
use Rattle.run_minutes.specs.card_slots.declared.seats.Seat.{Seat}
use Rattle.run_minutes.specs.run_promise.Between.{devices}
use Rattle.run_minutes.proofs.DecidedBooked.{time-before}
use Rattle.run_acts.specs.run_record.Recorded.{Values, progress, RecordBetweenSeconds}
use Rattle.run_acts.specs.declared.run.Power.{Power}
use Rattle.run_acts.specs.Recording.{GoesOnOrCut, GoesOnOrFails, log_of, IsOrigin, values_of, ComesPower, RunWithin, RunFails}
use Rattle.run_acts.proofs.NoteRecorded.{goes-plain}
use Rattle.recorder_with_cards.specs.Judged.{moment_in}
use Rattle.recorder_with_cards.proofs.Resumed.{RunWaking, waiting_in, at-once, wholes-of, kept-of, same-devices, awake, awake-is, awake-stands, unmended, unmended-read, unmended-stands, within-of, driver-judged, codriver-judged, codriver-on, comes-waking, IsReadAgain}
use Rattle.recorder_with_cards.specs.Woken.{EventsWoken, RingsWoken}
use Rattle.log_model.specs.Course.{ToldSecond, went, second_told, Visit}
use Rattle.run_acts.specs.run_record.Waking.{both_slots}
use Rattle.run_acts.specs.run_note_record.RingsSoFar.{RingedBehind}
use Rattle.run_acts.specs.run_note_record.Stored.{StandsOn, StoresOff}
use Rattle.run_acts.proofs.run_note_record.Bases.{stays-stored}
use Rattle.device_calls.specs.note_model.Odometer.{SpanFrom}
use Rattle.run_acts.proofs.run_course.Logs.{found_log}
use Rattle.unit_minutes.specs.unit_model.Image.{odometer_at}
use Rattle.device_calls.specs.unit_rule.Odometer.{odometer_after}
use Rattle.run_acts.specs.run_note_record.Steps.{nobody, spans_cut}
use Rattle.run_acts.proofs.run_note_record.RingsWaking.{behind-stays}
use Rattle.run_acts.specs.Ringing.{seating_of}
use Rattle.run_acts.specs.RunRinged.{RingsWithin, RingsGoOn, with_cut}
use Rattle.recorder_with_cards.proofs.EnteredSpeeds.{mending-leaves}
use Rattle.recorder_with_cards.proofs.WokenRinged.{WakesRinged, in-both, cards-beside, mend-leaves, unpowered-ringed, wakes-ringed, driver-ringed, codriver-ringed, woken-rings, spans-before, goes-odometer}
use Rattle.recorder_with_cards.proofs.WokenStored.{unmended-stored}
use Rattle.recorder_with_cards.proofs.StoredCalls.{mend-stays}
use Rattle.recorder_with_cards.proofs.WokenEvented.{WakesEvented, unmended-evented, wakes-evented, driver-evented, codriver-evented, anew-limit, woken-fails, woken-on, woken-ends, none-woken, gap-woken, here-empty, begun-watched, gap-memory, none-told, some-told}
use Rattle.device_calls.specs.run_unit_course.Lines.{cut_at}
use Rattle.device_calls.specs.run_unit_course.Followed.{Lost, UnitPower, MayPower}
use Rattle.run_acts.specs.run_course.Moments.{and_break}
use Rattle.run_acts.specs.run_course.Followed.{Progress, BookFollowsRun}
use Rattle.run_minutes.specs.unit_memory.declared.memory.UnitFacts.{UnitFacts}
use Rattle.run_minutes.specs.run_promise.Seconds.{found_again}
use Rattle.run_acts.specs.run_record.Within.{Beginning}
use Rattle.minute_rules.specs.minute_model.Span.{ungiven_of}
use Rattle.run_acts.specs.run_note_record.Evented.{limit_in, Evented, NotesNothing}
use Rattle.run_acts.specs.run_note_record.Noting.{Waking}
use Rattle.run_acts.specs.Evented.{EventsGoOn}
use Rattle.device_calls.specs.event_model.Spans.{gap_of}
use Rattle.run_acts.specs.NotedEvents.{NotesEvents}
use Rattle.run_acts.proofs.NotedEvents.{same-noted, then-noted}
use Rattle.run_acts.specs.Acting.{now_moment}
use Rattle.recorder_with_cards.specs.Noting.{Unmended, AtDriver, AtCoDriver, NoneBefore, AtGap, JudgesDriver, JudgesBoth}
use Rattle.recorder_with_cards.proofs.WakeNoted.{says, mended-noted, driver-these, both-these, is-none, is-some}
use Rattle.run_minutes.proofs.Later.{state-by, later-then, later-of-unit}
use Rattle.run_acts.proofs.Uncut.{gap-uncut}
use Rattle.recorder_with_cards.proofs.Uncut.{anew-uncut}
use Rattle.device_calls.specs.event_model.declared.entries.Span.{Span}
use Rattle.run_acts.specs.run_note_record.EventsSoFar.{AreBare, EventedNow, ComesInTurn}
use Rattle.run_acts.proofs.run_note_record.SoFar.{left-itself}
use Rattle.run_acts.specs.Noting.{NoGap, AreGapEvents}
use Rattle.run_acts.specs.Stood.{LetStand}
use Rattle.run_acts.proofs.Stood.{stand-then, tells-self, tells-then, unit-makes}
use Rattle.recorder_with_cards.proofs.WakesStood.{StandsTo, driver-stands, codriver-stands, gap-stands}
use Rattle.run_acts.specs.RunCards.{vehicle_in, CardsBehind, CardsWaking}
use Rattle.recorder_with_cards.specs.CardsWoken.{CardsWoken}
use Rattle.recorder_with_cards.proofs.GapEvented.{gap_events as gap_list}
use Rattle.recorder_with_cards.proofs.GapShown.{some-list, none-list, gap-shown, none-noted, none-fails, woken-all}
use Rattle.recorder_with_cards.proofs.WakesCards.{WakesOn, unit-alone, unpowered-cards, wakes-cards, driver-woken, codriver-woken}
use Rattle.run_minutes.proofs.Calm.{calm-of-unit, calm-then}
use Rattle.trace_model.specs.declared.Card.{Card}
use Rattle.trace_model.specs.Trace.{TraceSecond}
use Rattle.device_calls.specs.safety_model.Safe.{Devices}
use Rattle.run_minutes.specs.Books.{HaveTime}
use Rattle.run_minutes.specs.Later.{AreLater, AreCalm}
use Rattle.run_outcome.specs.Broken.{failed_cuts}
use Rattle.run_outcome.specs.declared.outcome.TheConstants.{MOST_OWED}
use Rattle.run_minutes.specs.run_promise.Origin.{Origin, rule_of, start_at, first_of as first_second_of}
use Rattle.run_minutes.specs.run_promise.Beside.{HaveLeftMore}
use Rattle.run_acts.specs.run_record.Powering.{read_values}
use Rattle.run_acts.specs.Stays.{AllStay}
use Rattle.run_acts.proofs.AllStay.{stood-self}
use Rattle.run_acts.proofs.KeptSeats.{stood-later}
use Rattle.run_acts.specs.Truths.{truths_of, marked}
use Rattle.run_acts.specs.run_note_record.Ringed.{Seating, notes_in}
use Rattle.run_acts.specs.declared.run.Power.TheVariants.{Lit}
use Rattle.run_acts.specs.unit_notes.declared.unit_event.UnitEvent.{UnitEvent}
use Rattle.recorder_with_cards.specs.Waking.{TakesUp}
use Rattle.recorder_with_cards.proofs.resuming.resume.Given.{Over}
use Rattle.recorder_with_cards.proofs.resuming.resume.Goals.{After-moment-at, After-accept_anew, After-accept_anew-2, After-note_gap, After-from_residual, After-from_residual-in_err-accept_anew, After-from_residual-in_err-accept_anew-2, Then-is_first}
use Rattle.run_minutes.proofs.Writes.{wrote-more, wrote-then, wrote-unit}
use Rattle.recorder_with_cards.proofs.resuming.resume.Goals as goal

-- ---- WHAT EACH RETURN STANDS ON

-- a second with power begins behind what is recorded, and there is room for its marks
record Behind (k : ℕ) (old : Run) (before : Outcome) (d : Devices) : Type 0 where
  room : length before.marks.items + MOST_OWED * bare_seats old.keeper.cabin.slots.seats ≤ before.marks.room
  o : Origin
  origin : IsOrigin o
  vehicle : old.keeper.memory.registration ≡ vehicle_in o
  done : List TraceSecond
  s : TraceSecond
  supply : UnitPower
  v : Values
  r : RecordBetweenSeconds o done supply v d
  stay : AllStay o (marked v.marks (truths_of o v.log done)) 0 v.log (notes_in v.log done) old.keeper.memory.registration v.cabin d
  may : MayPower supply v.next
  number : s.number ≡ v.next
  given : s.has_power ≡ true
  values : values_of old before ≡ read_values k v

-- their events were noted
record BehindEvents (k speed : ℕ) (old : Run) (before : Outcome) (d : Devices) (p : Behind k old before d) : Type 0 where
  speed_is : p.s.speed ≡ speed
  evented : Evented p.o p.done p.v.log p.v.unfound p.v.next p.supply d
  limit : old.keeper.memory.limit ≡ limit_in p.o

-- and the rings show what they noted
record BehindRings (k : ℕ) (old : Run) (before : Outcome) (d : Devices) (p : Behind k old before d) : Type 0 where
  spans : List SpanFrom
  seats : Card → Option Seating
  ringed : RingedBehind p.o p.done (log_of before) p.s.number spans seats d
  counted : old.noted ≤ length (log_of before).finds
  off : StoresOff p.o p.v.log p.v.unfound spans d

-- the way back from a card that was judged to the calls before it
pub branch-accept_anew-requires : goal.branch-accept_anew-requires
branch-accept_anew-requires g c κs = search rules

pub branch-accept_anew-requires-2 : goal.branch-accept_anew-requires-2
branch-accept_anew-requires-2 g c κs = search rules

-- ---- the unit was mended, and a span has begun

module _ (g : Over) (c : After-moment-at g) where
  abbrev run : Run
  run = c.args.run.now

  abbrev out : Outcome
  out = c.args.outcome.now

  abbrev mid : Run
  mid = c.begin_span.new.self

  abbrev dev0 : Devices
  dev0 = devices (g.M.Medium.state c.args.unit.now) (g.C.Chip.state c.args.card_a.now) (g.D.Chip.state c.args.card_b.now)

  abbrev mended : Devices
  mended = devices (g.M.Medium.state c.mend.new.unit) (g.C.Chip.state c.args.card_a.now) (g.D.Chip.state c.args.card_b.now)

  abbrev first_card : Option Card
  first_card = card_in mid.keeper.cabin.slots.seats.driver

  abbrev others : List Visit
  others = waiting_in CoDriver (card_in mid.keeper.cabin.slots.seats.codriver)

  abbrev Premises : Type 0
  Premises = Behind c.args.waking.journal.kept run out dev0

  abbrev WithEvents : Premises → Type 0
  WithEvents p = BehindEvents c.args.waking.journal.kept c.args.waking.speed run out dev0 p

  abbrev WithRings : Premises → Type 0
  WithRings p = BehindRings c.args.waking.journal.kept run out dev0 p

  cabin : mid.keeper.cabin ≡ run.keeper.cabin
  cabin = ap (λ (k : Keeper). k.cabin) c.begin_span.ensures.begun.keeper

  none : mid.minutes.owing ≡ 0
  none = begun-none c.args.waking.rule mid.minutes run.next c.begin_span.ensures.begun.minutes

  bare : IsBare mid.keeper.cabin.slots.seats.driver
  bare =
      let dark = c.requires.going.dark c.requires.may.dark in
      subst (λ (b : Cabin). IsBare b.slots.seats.driver) (sym cabin) (dark-bare 0 run.keeper.cabin.cards run.keeper.cabin.slots.seats.driver dark.bare (dark.stands 0).driver)

  bare_too : IsBare mid.keeper.cabin.slots.seats.codriver
  bare_too =
      let dark = c.requires.going.dark c.requires.may.dark in
      subst (λ (b : Cabin). IsBare b.slots.seats.codriver) (sym cabin) (dark-bare 0 run.keeper.cabin.cards run.keeper.cabin.slots.seats.codriver dark.bare (dark.stands 0).codriver)

  falls : falls_of mid.keeper.cabin ≡ falls_of run.keeper.cabin
  falls = ap falls_of cabin

  few : bare_count mid.keeper.cabin.slots.seats.driver ≡ bare_count run.keeper.cabin.slots.seats.driver
  few = ap (λ (b : Cabin). bare_count b.slots.seats.driver) cabin

  few_too : bare_count mid.keeper.cabin.slots.seats.codriver ≡ bare_count run.keeper.cabin.slots.seats.codriver
  few_too = ap (λ (b : Cabin). bare_count b.slots.seats.codriver) cabin

  ready : UnitMayBeCalled mid.keeper (g.M.Medium.state c.mend.new.unit)
  ready = record {
    is_unit = c.mend.ensures.stands.unit;
    works = c.in_ok-mend.ensures.answers.goes.cause.works;
    agrees = subst (λ (k : Keeper). IfSome (g.M.Medium.state c.mend.new.unit).image (Agrees k.journal)) (sym c.begin_span.ensures.begun.keeper) c.in_ok-mend.ensures.stands.agrees;
  }

  quiet : NotesNothing dev0 mended
  quiet = says c.args.waking.journal (g.M.Medium.state c.args.unit.now) (g.M.Medium.state c.mend.new.unit) (g.C.Chip.state c.args.card_a.now) (g.D.Chip.state c.args.card_b.now) (g.met.M.Medium.coherent c.args.unit.now) c.mend.ensures.leaves.moments

  noted : NotesEvents [] false dev0 mended
  noted = mended-noted c.args.waking.journal (g.M.Medium.state c.args.unit.now) (g.M.Medium.state c.mend.new.unit) (g.C.Chip.state c.args.card_a.now) (g.D.Chip.state c.args.card_b.now) (g.met.M.Medium.coherent c.args.unit.now) c.mend.ensures.leaves.moments false

  later : AreLater dev0 mended
  later = later-of-unit (g.M.Medium.state c.args.unit.now) (g.M.Medium.state c.mend.new.unit) (g.C.Chip.state c.args.card_a.now) (g.D.Chip.state c.args.card_b.now) (state-by (g.M.Medium.state c.args.unit.now) (g.M.Medium.state c.mend.new.unit) _ c.mend.ensures.answers.goes.clock c.mend.ensures.answers.goes.cause)
      (mending-leaves c.args.waking.journal (g.M.Medium.state c.args.unit.now) (g.M.Medium.state c.mend.new.unit) (g.met.M.Medium.coherent c.args.unit.now) c.mend.ensures.leaves.moments)

  -- no block is added yet: the pointer is an index, as in each image that decodes
  newest : KnowsNewest None (g.M.Medium.state c.mend.new.unit)
  newest =
      let loaded = c.requires.told.loaded in
      knows-left None (g.M.Medium.state c.args.unit.now) (g.M.Medium.state c.mend.new.unit) (g.met.M.Medium.coherent c.args.unit.now) (g.met.M.Medium.coherent c.mend.new.unit) loaded.works later.speeds
      (from_told (g.M.Medium.state c.args.unit.now).image Decodes (PointsInside speed_ring) loaded.decodes (λ x is decodes. speeds-inside x decodes))

  calm : AreCalm out.breaks.items out.breaks.items dev0 mended
  calm = calm-of-unit (g.M.Medium.state c.args.unit.now) (g.M.Medium.state c.mend.new.unit) (g.C.Chip.state c.args.card_a.now) (g.D.Chip.state c.args.card_b.now)

  abbrev premises : length out.marks.items + MOST_OWED * bare_seats run.keeper.cabin.slots.seats ≤ out.marks.room → (o : Origin) → IsOrigin o → run.keeper.memory.registration ≡ vehicle_in o → (done : List TraceSecond) (s : TraceSecond) (supply : UnitPower) (v : Values) → RecordBetweenSeconds o done supply v dev0 →
      AllStay o (marked v.marks (truths_of o v.log done)) 0 v.log (notes_in v.log done) run.keeper.memory.registration v.cabin dev0 → MayPower supply v.next → s.number ≡ v.next → s.has_power ≡ true → values_of run out ≡ read_values c.args.waking.journal.kept v → Premises
  premises room o origin vehicle done s supply v r stay may number given values = record { room = room; o = o; origin = origin; vehicle = vehicle; done = done; s = s; supply = supply; v = v; r = r; stay = stay; may = may; number = number; given = given; values = values }

  module _ (p : Premises) where
    woke : (b : Beginning) × RunWaking p.o p.done p.s b (waiting_in Driver first_card ++ others) both_slots mid out mended
    woke =
        let U : State = g.M.Medium.state c.args.unit.now in
        let X : State = g.C.Chip.state c.args.card_a.now in
        let Y : State = g.D.Chip.state c.args.card_b.now in
        let ok = c.in_ok-mend.ensures in
        let loaded = c.requires.told.loaded in
        awake p.o p.origin p.done p.s p.supply p.v U X Y p.r p.may p.number p.given (g.met.M.Medium.coherent c.args.unit.now) (wholes-of U X Y (g.met.C.Chip.coherent c.args.card_a.now) (g.met.D.Chip.coherent c.args.card_b.now)) loaded.works c.args.waking.journal (kept-of c.args.waking.journal U.image loaded.found)
        (g.M.Medium.state c.mend.new.unit) false c.mend.ensures.leaves.moments c.mend.ensures.answers.goes.tells ok.answers.goes.cause c.mend.ensures.rules.holds ok.rules.first ok.rules.second run p.vehicle out p.values refl c.mend.new.journal ok.stands.agrees c.args.waking.rule c.requires.told.rule mid c.begin_span.ensures.begun (g.met.M.Medium.coherent c.mend.new.unit) p.stay

    is : (woke.0.run ≡ found_again c.args.waking.journal.kept (progress p.v p.supply p.r.book)) × (woke.0.span ≡ []) × HaveLeftMore p.o dev0 mended
    unfolding woke
    is =
        let U : State = g.M.Medium.state c.args.unit.now in
        let X : State = g.C.Chip.state c.args.card_a.now in
        let Y : State = g.D.Chip.state c.args.card_b.now in
        let ok = c.in_ok-mend.ensures in
        let loaded = c.requires.told.loaded in
        awake-is p.o p.origin p.done p.s p.supply p.v U X Y p.r p.may p.number p.given (g.met.M.Medium.coherent c.args.unit.now) (wholes-of U X Y (g.met.C.Chip.coherent c.args.card_a.now) (g.met.D.Chip.coherent c.args.card_b.now)) loaded.works c.args.waking.journal (kept-of c.args.waking.journal U.image loaded.found)
        (g.M.Medium.state c.mend.new.unit) false c.mend.ensures.leaves.moments c.mend.ensures.answers.goes.tells ok.answers.goes.cause c.mend.ensures.rules.holds ok.rules.first ok.rules.second run p.vehicle out p.values refl c.mend.new.journal ok.stands.agrees c.args.waking.rule c.requires.told.rule mid c.begin_span.ensures.begun (g.met.M.Medium.coherent c.mend.new.unit) p.stay

    next_is : run.next ≡ p.s.number
    next_is = ap (λ (x : Values). x.next) p.values ∙ sym p.number

    positive : 0 < p.s.number
    positive = let here = next_is in let low = c.requires.going.low in omega (arith, here, low)

    small : p.s.number < 2 ^ 32
    small = let here = next_is in let most = c.requires.going.small in omega (arith, here, most)

    now : c.moment-at.result ≡ moment_in p.s 0
    now = c.moment-at.ensures ∙ ap (λ (m : ℕ). record { second = m; begun = 0; late = false }) (c.begin_span.ensures.begun.next ∙ next_is)

    log_is : log_of out ≡ (found_again c.args.waking.journal.kept (progress p.v p.supply p.r.book)).log
    log_is = ap (λ (x : Values). x.log) p.values

    began_log : woke.0.run.log ≡ log_of out
    began_log = ap (λ (q : Progress). q.log) is.0 ∙ sym log_is

    woken : WithEvents p → WakesEvented p.o p.done p.s woke.0 (waiting_in Driver first_card ++ others) both_slots mid out mended × ComesInTurn Driver (log_of out) p.s.number × BookFollowsRun (rule_of p.o) (start_at p.o) p.o.from (first_second_of p.o) p.done (found_again c.args.waking.journal.kept (progress p.v p.supply p.r.book))
    woken e = wakes-evented p.o p.done p.s p.supply p.v dev0 mended p.r p.may p.number p.given c.args.waking.journal.kept e.evented quiet woke.0 (waiting_in Driver first_card ++ others) mid out woke.1 is log_is

    -- of the rings
    module _ (q : WithRings p) where
      abbrev told : ToldSecond
      told = second_told (log_of out) (went (log_of out) p.done).before p.s

      starts : WakesRinged p.o p.done p.s woke.0 (waiting_in Driver first_card ++ others) both_slots q.spans told mid out mended
      starts =
          let noted_so : mid.noted ≡ run.noted = c.begin_span.ensures.begun.noted in
          let counted = q.counted in
          let U : State = g.M.Medium.state c.args.unit.now in
          let W : State = g.M.Medium.state c.mend.new.unit in
          wakes-ringed p.o p.done p.s woke.0 (waiting_in Driver first_card ++ others) mid out mended woke.1 (sym began_log) q.spans q.seats
          (behind-stays dev0 mended p.o p.done (log_of out) p.s.number q.spans q.seats q.ringed (mend-leaves c.args.waking.journal U W (g.met.M.Medium.coherent c.args.unit.now) c.mend.ensures.leaves.moments) is.2 (cards-beside p.o q.spans U W (g.C.Chip.state c.args.card_a.now) (g.D.Chip.state c.args.card_b.now)))
          (λ card. ap (option_map (seating_of mid.noted)) (ap (λ (b : Cabin). session_of b.cards card) cabin ∙ (c.requires.going.dark c.requires.may.dark).bare card)) (omega (arith, counted, noted_so))

      stands : StandsOn p.o (log_of out) mid.unfound q.spans mid.keeper.odometer
      stands =
          let U : State = g.M.Medium.state c.args.unit.now in
          let X : State = g.C.Chip.state c.args.card_a.now in
          let Y : State = g.D.Chip.state c.args.card_b.now in
          let ok = c.in_ok-mend.ensures in
          let loaded = c.requires.told.loaded in
          let kept_now : c.mend.new.journal.kept ≡ c.args.waking.journal.kept = ap (λ (j : Notes). j.kept) ok.stands.notes in
          subst (λ (n : ℕ). StandsOn p.o (log_of out) n q.spans mid.keeper.odometer) (sym c.begin_span.ensures.begun.unfound)
          (awake-stands p.o p.origin p.done p.s p.supply p.v U X Y p.r p.may p.number p.given (g.met.M.Medium.coherent c.args.unit.now) (wholes-of U X Y (g.met.C.Chip.coherent c.args.card_a.now) (g.met.D.Chip.coherent c.args.card_b.now)) loaded.works c.args.waking.journal (kept-of c.args.waking.journal U.image loaded.found)
          (g.M.Medium.state c.mend.new.unit) false c.mend.ensures.leaves.moments c.mend.ensures.answers.goes.tells ok.answers.goes.cause c.mend.ensures.rules.holds ok.rules.first ok.rules.second run p.vehicle out p.values refl c.mend.new.journal ok.stands.agrees c.args.waking.rule c.requires.told.rule mid c.begin_span.ensures.begun (g.met.M.Medium.coherent c.mend.new.unit) p.stay
          kept_now q.spans (spans-before p.o p.done p.supply p.v dev0 p.r c.args.waking.journal.kept (log_of out) log_is q.spans q.ringed.spans_are) q.off)

      -- behind the calls that follow
      rings-then : (failed : Bool) (new : Run) (after : Outcome) (e : Devices) → RingsGoOn failed p.o p.done p.s woke.0 [] new (log_of after) q.spans told e → (failed ≡ true → RunFails p.o p.done p.s (In 0) new after e) → new.power ≡ Lit → new.unfound ≡ mid.unfound →
          (failed ≡ false → new.keeper.odometer ≡ mid.keeper.odometer) → RingsWoken failed (log_of out) p.o p.done p.s q.spans new (log_of after) e
      rings-then = woken-rings p.o p.done p.s woke.0 (waiting_in Driver first_card ++ others) both_slots q.spans told mid out mended starts (log_of out) began_log stands

    -- of the cards
    cards-begun : CardsBehind p.o p.done (log_of out) dev0 → CardsWaking p.o p.done p.s woke.0.run.log (log_of out) mended
    cards-begun shown =
        wakes-cards p.o p.done p.s woke.0 (waiting_in Driver first_card ++ others) mid out mended woke.1 (sym began_log)
        (unit-alone p.o p.done (log_of out) (g.M.Medium.state c.args.unit.now) (g.M.Medium.state c.mend.new.unit) (g.C.Chip.state c.args.card_a.now) (g.D.Chip.state c.args.card_b.now) shown)

    -- what stood on them stands
    stands-begun : LetStand p.o dev0 mended
    stands-begun = record { left = is.2; made = unit-makes p.o (g.M.Medium.state c.args.unit.now) (g.M.Medium.state c.mend.new.unit) (g.C.Chip.state c.args.card_a.now) (g.D.Chip.state c.args.card_b.now) }

-- ---- the card in the driver slot was judged

module _ (g : Over) (c : After-accept_anew g) where
  abbrev span : After-moment-at g
  span = (goal.at.branch-accept_anew-requires g c).After-moment-at

  abbrev one : Run
  one = c.accept_anew.new.run

  abbrev out1 : Outcome
  out1 = c.accept_anew.new.outcome

  abbrev dev1 : Devices
  dev1 = devices (g.M.Medium.state c.accept_anew.new.unit) (g.C.Chip.state c.accept_anew.new.card_a) (g.D.Chip.state c.accept_anew.new.card_b)

  still : first_card g span ≡ None → (P : Devices → Type 0) → P (mended g span) → P dev1
  still nobody_sits P = same-devices P g.M.Medium.state g.C.Chip.state g.D.Chip.state c.mend.new.unit c.accept_anew.new.unit c.args.card_a.now c.accept_anew.new.card_a c.args.card_b.now c.accept_anew.new.card_b (c.accept_anew.ensures.still nobody_sits)

  same-one : (one.keeper.memory ≡ (mid g span).keeper.memory) × (one.watch ≡ (mid g span).watch)
  same-one = anew-limit (first_card g span) Driver c.moment-at.result c.args.waking.speed (mid g span) one (out g span) out1 c.accept_anew.ensures.accepted.enters

  power-one : one.power ≡ Lit
  power-one = ap (λ (r : Run). r.power) c.accept_anew.ensures.accepted.run ∙ c.begin_span.ensures.begun.power

  unfound-one : one.unfound ≡ (mid g span).unfound
  unfound-one = ap (λ (r : Run). r.unfound) c.accept_anew.ensures.accepted.run

  next-one : one.next ≡ (mid g span).next
  next-one = ap (λ (r : Run). r.next) c.accept_anew.ensures.accepted.run

  vehicle-one : (o : Origin) → (run g span).keeper.memory.registration ≡ vehicle_in o → ((mid g span).keeper.memory.registration ≡ vehicle_in o) × (one.keeper.memory.registration ≡ vehicle_in o)
  vehicle-one o vehicle =
      let begun = ap (λ (k : Keeper). k.memory.registration) c.begin_span.ensures.begun.keeper ∙ vehicle in
      (begun, ap (λ (m : UnitFacts). m.registration) same-one.0 ∙ begun)

  noted-one : (vs : List UnitEvent) × JudgesDriver c.args.waking.speed (mid g span) one (out g span) out1 vs × NotesEvents vs (is_err c.accept_anew.result) (dev0 g span) dev1
  noted-one = driver-these c.moment-at.result c.args.waking.speed (is_err c.accept_anew.result) (mid g span) one (out g span) out1 (dev0 g span) (mended g span) dev1 c.moment-at.ensures (noted g span) c.accept_anew.ensures.leaves.noted

  later-one : AreLater (dev0 g span) dev1
  later-one = later-then (dev0 g span) (mended g span) dev1 (later g span) c.accept_anew.ensures.goes.later

  calm-one : AreCalm (out g span).breaks.items out1.breaks.items (dev0 g span) dev1
  calm-one = calm-then (dev0 g span) (mended g span) dev1 (calm g span) c.accept_anew.ensures.goes.calm

  module _ (p : Premises g span) (time : HaveTime dev1) where
    room-one : length (out g span).marks.items + MOST_OWED * bare_count (mid g span).keeper.cabin.slots.seats.driver ≤ (out g span).marks.room
    room-one = let room = p.room in let same = few g span in omega (arith, room, same)

    first : (is_err c.accept_anew.result ≡ false → RunWaking p.o p.done p.s (woke g span p).0 (others g span) (CoDriver ∷ []) one out1 dev1) × (is_err c.accept_anew.result ≡ true → GoesOnOrCut true p.o p.done p.s (In 0) [] one out1 dev1)
    first =
        driver-judged p.o p.done p.s (woke g span p).0 (first_card g span) (others g span) (mid g span) (out g span) (mended g span) (woke g span p).1 (at-once CoDriver (card_in (mid g span).keeper.cabin.slots.seats.codriver)) refl (bare g span)
        c.moment-at.result (now g span p) c.args.waking.speed (is_err c.accept_anew.result) one out1 c.accept_anew.ensures.accepted.enters dev1 still time (c.accept_anew.ensures.promises room-one).recorded

    evented-one : WithEvents g span p → EventsGoOn (is_err c.accept_anew.result) p.o p.done p.s (woke g span p).0.run (In 0) Waking (log_of out1) dev1
    evented-one e =
        driver-evented p.o p.done p.s (woke g span p).0 (first_card g span) (others g span) (mid g span) (out g span) (mended g span) (woken g span p e).0 (woken g span p e).1 (at-once CoDriver (card_in (mid g span).keeper.cabin.slots.seats.codriver)) refl (bare g span)
        c.moment-at.result (now g span p) c.args.waking.speed e.speed_is (is_err c.accept_anew.result) one out1 c.accept_anew.ensures.accepted.enters dev1 still time (c.accept_anew.ensures.promises room-one).recorded (c.accept_anew.ensures.promises room-one).evented

    limit-one : WithEvents g span p → one.keeper.memory.limit ≡ limit_in p.o
    limit-one e = ap (λ (m : UnitFacts). m.limit) (same-one.0 ∙ ap (λ (k : Keeper). k.memory) c.begin_span.ensures.begun.keeper) ∙ e.limit

    began-unfound : (woke g span p).0.run.unfound ≡ one.unfound
    began-unfound = ap (λ (q : Progress). q.unfound) (is g span p).0 ∙ sym (ap (λ (x : Values). x.unfound) p.values) ∙ sym c.begin_span.ensures.begun.unfound ∙ sym unfound-one

    began-next : (woke g span p).0.run.next ≡ one.next
    began-next = ap (λ (q : Progress). q.next) (is g span p).0 ∙ sym (ap (λ (x : Values). x.next) p.values) ∙ sym c.begin_span.ensures.begun.next ∙ sym next-one

    ringed-one : (q : WithRings g span p) → RingsGoOn (is_err c.accept_anew.result) p.o p.done p.s (woke g span p).0 [] one (log_of out1) q.spans (told g span p q) dev1
    ringed-one q =
        driver-ringed p.o p.done p.s (woke g span p).0 (first_card g span) (others g span) (mid g span) (out g span) (mended g span) q.spans (told g span p q) (starts g span p q) ((woke g span p).1.waking.none CoDriver (in-both CoDriver))
        (at-once CoDriver (card_in (mid g span).keeper.cabin.slots.seats.codriver)) refl (bare g span) c.moment-at.result (now g span p) c.args.waking.speed (is_err c.accept_anew.result) one out1 c.accept_anew.ensures.accepted.enters dev1 still time (c.accept_anew.ensures.promises room-one).recorded (c.accept_anew.ensures.promises room-one).ringed

    cards-one : p.s.speed ≡ c.args.waking.speed → (run g span).keeper.memory.registration ≡ vehicle_in p.o → CardsBehind p.o p.done (log_of (out g span)) (dev0 g span) → WakesOn (is_err c.accept_anew.result) p.o p.done p.s (woke g span p).0.run.log (log_of out1) dev1
    cards-one speed_is vehicle shown =
        driver-woken p.o p.done p.s (woke g span p).0 (first_card g span) (others g span) (mid g span) (out g span) (mended g span) (woke g span p).1 (at-once CoDriver (card_in (mid g span).keeper.cabin.slots.seats.codriver)) refl (bare g span) (positive g span p) (vehicle-one p.o vehicle).0
        (cards-begun g span p shown) c.moment-at.result (now g span p) c.args.waking.speed speed_is (is_err c.accept_anew.result) one out1 c.accept_anew.ensures.accepted.enters dev1 still time (c.accept_anew.ensures.promises room-one).recorded (c.accept_anew.ensures.promises room-one).cards

    stands-one : p.s.speed ≡ c.args.waking.speed → (run g span).keeper.memory.registration ≡ vehicle_in p.o → StandsTo p.o p.done (out g span) out1 (dev0 g span) dev1
    stands-one speed_is vehicle =
        let one_ = driver-stands p.o p.done p.s (woke g span p).0 (first_card g span) (others g span) (mid g span) (out g span) (mended g span) (woke g span p).1 (at-once CoDriver (card_in (mid g span).keeper.cabin.slots.seats.codriver)) refl (bare g span) (positive g span p) (vehicle-one p.o vehicle).0
        c.moment-at.result (now g span p) c.args.waking.speed speed_is (is_err c.accept_anew.result) one out1 c.accept_anew.ensures.accepted.enters dev1 still time (c.accept_anew.ensures.promises room-one).cards in
        (stand-then p.o (dev0 g span) (mended g span) dev1 (stands-begun g span p) one_.0, one_.1)

-- ---- and that in the co-driver slot

module _ (g : Over) (c : After-accept_anew-2 g) where
  abbrev driver : After-accept_anew g
  driver = (goal.at.branch-accept_anew-requires-2 g c).After-accept_anew

  abbrev start : After-moment-at g
  start = (goal.at.branch-accept_anew-requires-2 g c).After-moment-at

  abbrev two : Run
  two = c.accept_anew-2.new.run

  abbrev out2 : Outcome
  out2 = c.accept_anew-2.new.outcome

  abbrev dev2 : Devices
  dev2 = devices (g.M.Medium.state c.accept_anew-2.new.unit) (g.C.Chip.state c.accept_anew-2.new.card_a) (g.D.Chip.state c.accept_anew-2.new.card_b)

  abbrev second_card : Option Card
  second_card = card_in (one g driver).keeper.cabin.slots.seats.codriver

  well : is_err c.accept_anew.result ≡ false
  well = search rules

  beside : (one g driver).keeper.cabin.slots.seats.codriver ≡ (mid g start).keeper.cabin.slots.seats.codriver
  beside = c.accept_anew.ensures.accepted.beside

  bare-two : IsBare (one g driver).keeper.cabin.slots.seats.codriver
  bare-two = subst IsBare (sym beside) (bare_too g start)

  few-two : bare_count (one g driver).keeper.cabin.slots.seats.codriver ≡ bare_count (run g start).keeper.cabin.slots.seats.codriver
  few-two = ap bare_count beside ∙ few_too g start

  still-two : second_card ≡ None → (P : Devices → Type 0) → P (dev1 g driver) → P dev2
  still-two nobody_sits P = same-devices P g.M.Medium.state g.C.Chip.state g.D.Chip.state c.accept_anew.new.unit c.accept_anew-2.new.unit c.accept_anew.new.card_a c.accept_anew-2.new.card_a c.accept_anew.new.card_b c.accept_anew-2.new.card_b (c.accept_anew-2.ensures.still nobody_sits)

  same-two : (two.keeper.memory ≡ (one g driver).keeper.memory) × (two.watch ≡ (one g driver).watch)
  same-two = anew-limit second_card CoDriver c.moment-at.result c.args.waking.speed (one g driver) two (out1 g driver) out2 c.accept_anew-2.ensures.accepted.enters

  power-two : two.power ≡ Lit
  power-two = ap (λ (r : Run). r.power) c.accept_anew-2.ensures.accepted.run ∙ power-one g driver

  unfound-two : two.unfound ≡ (mid g start).unfound
  unfound-two = ap (λ (r : Run). r.unfound) c.accept_anew-2.ensures.accepted.run ∙ unfound-one g driver

  vehicle-two : (o : Origin) → (run g start).keeper.memory.registration ≡ vehicle_in o → two.keeper.memory.registration ≡ vehicle_in o
  vehicle-two o vehicle = ap (λ (m : UnitFacts). m.registration) same-two.0 ∙ (vehicle-one g driver o vehicle).1

  takes-two : Takes (bare_count (mid g start).keeper.cabin.slots.seats.driver + bare_count (one g driver).keeper.cabin.slots.seats.codriver) 0 0 (mid g start) two (out g start) out2
  takes-two =
      takes-then (bare_count (mid g start).keeper.cabin.slots.seats.driver) (bare_count (one g driver).keeper.cabin.slots.seats.codriver) (mid g start) (one g driver) two (out g start) (out1 g driver) out2 c.accept_anew.ensures.takes c.accept_anew-2.ensures.takes

  seats-two : bare_count (mid g start).keeper.cabin.slots.seats.driver + bare_count (one g driver).keeper.cabin.slots.seats.codriver ≤ bare_seats (run g start).keeper.cabin.slots.seats
  seats-two = let driver_few = few g start in let codriver_few = few-two in omega (arith, driver_few, codriver_few)

  taken-up : TakesUp (run g start) two (out g start) out2
  taken-up = awake-takes (bare_count (mid g start).keeper.cabin.slots.seats.driver + bare_count (one g driver).keeper.cabin.slots.seats.codriver) (run g start) (mid g start) two (out g start) out2 (falls g start) c.begin_span.ensures.begun.power (none g start) seats-two takes-two

  more-two : length (out g start).breaks.items ≤ length out2.breaks.items
  more-two =
      let first_more = anew-more (first_card g start) Driver c.moment-at.result c.args.waking.speed (mid g start) (one g driver) (out g start) (out1 g driver) c.accept_anew.ensures.accepted.enters in
      let second_more = anew-more second_card CoDriver c.moment-at.result c.args.waking.speed (one g driver) two (out1 g driver) out2 c.accept_anew-2.ensures.accepted.enters in
      omega (arith, first_more, second_more)

  noted-two : (ws : List UnitEvent) × JudgesBoth c.args.waking.speed (mid g start) two (out g start) out2 ws × NotesEvents ws (is_err c.accept_anew-2.result) (dev0 g start) dev2
  noted-two =
      let these = noted-one g driver in
      both-these c.moment-at.result c.args.waking.speed (is_err c.accept_anew-2.result) (mid g start) (one g driver) two (out g start) (out1 g driver) out2 (dev0 g start) (dev1 g driver) dev2 c.moment-at.ensures these.0 these.1
      (subst (λ (f : Bool). NotesEvents these.0 f (dev0 g start) (dev1 g driver)) well these.2) c.accept_anew-2.ensures.leaves.noted

  later-two : AreLater (dev0 g start) dev2
  later-two = later-then (dev0 g start) (dev1 g driver) dev2 (later-one g driver) c.accept_anew-2.ensures.goes.later

  calm-two : AreCalm (out g start).breaks.items out2.breaks.items (dev0 g start) dev2
  calm-two = calm-then (dev0 g start) (dev1 g driver) dev2 (calm-one g driver) c.accept_anew-2.ensures.goes.calm

  uncut-two : failed_cuts out2.breaks.items ≡ failed_cuts (out g start).breaks.items
  uncut-two = anew-uncut _ _ _ _ _ _ _ _ c.accept_anew-2.ensures.accepted.enters ∙ anew-uncut _ _ _ _ _ _ _ _ c.accept_anew.ensures.accepted.enters

  module _ (p : Premises g start) (time : HaveTime dev2) where
    time-one : HaveTime (dev1 g driver)
    time-one = time-before (dev1 g driver) dev2 c.accept_anew-2.ensures.goes.later.unit.clock c.accept_anew-2.ensures.goes.later.card_a.clock c.accept_anew-2.ensures.goes.later.card_b.clock time

    room-two : length (out1 g driver).marks.items + MOST_OWED * bare_count (one g driver).keeper.cabin.slots.seats.codriver ≤ (out1 g driver).marks.room
    room-two =
        let room = p.room in
        let driver_few = few g start in
        let codriver_few = few-two in
        let none_waits = none g start in
        let waits_none = ap (λ (q : Power). waiting q (mid g start).minutes.owing) c.begin_span.ensures.begun.power in
        let marks = c.accept_anew.ensures.takes.marks in
        let same_room = c.accept_anew.ensures.takes.rooms.0 in
        omega (arith, room, driver_few, codriver_few, none_waits, waits_none, marks, same_room)

    waking : RunWaking p.o p.done p.s (woke g start p).0 (waiting_in CoDriver second_card) (CoDriver ∷ []) (one g driver) (out1 g driver) (dev1 g driver)
    waking = subst (λ (seat : Option Seat). RunWaking p.o p.done p.s (woke g start p).0 (waiting_in CoDriver (card_in seat)) (CoDriver ∷ []) (one g driver) (out1 g driver) (dev1 g driver)) (sym beside) ((first g driver p time-one).0 well)

    second : GoesOnOrCut (is_err c.accept_anew-2.result) p.o p.done p.s (In 0) [] two out2 dev2
    second =
        codriver-judged p.o p.done p.s (woke g start p).0 second_card (one g driver) (out1 g driver) (dev1 g driver) waking refl bare-two c.moment-at.result (now g start p) c.args.waking.speed (is_err c.accept_anew-2.result) two out2 c.accept_anew-2.ensures.accepted.enters dev2 still-two time
        (c.accept_anew-2.ensures.promises room-two).recorded

    -- nobody waits any more
    goes-on : is_err c.accept_anew-2.result ≡ false → RunWaking p.o p.done p.s (woke g start p).0 [] [] two out2 dev2
    goes-on fine =
        codriver-on p.o p.done p.s (woke g start p).0 second_card (one g driver) (out1 g driver) (dev1 g driver) waking refl bare-two c.moment-at.result (now g start p) c.args.waking.speed (is_err c.accept_anew-2.result) two out2 c.accept_anew-2.ensures.accepted.enters dev2 still-two time
        (c.accept_anew-2.ensures.promises room-two).recorded fine

    evented-two : WithEvents g start p → EventsGoOn (is_err c.accept_anew-2.result) p.o p.done p.s (woke g start p).0.run (In 0) Waking (log_of out2) dev2
    evented-two e =
        let behind : WakesEvented p.o p.done p.s (woke g start p).0 (waiting_in CoDriver second_card) (CoDriver ∷ []) (one g driver) (out1 g driver) (dev1 g driver) = record {
          waking = waking;
          bare = (woken g start p e).0.bare;
          empty = (woken g start p e).0.empty;
          evented = subst (λ (f : Bool). EventsGoOn f p.o p.done p.s (woke g start p).0.run (In 0) Waking (log_of (out1 g driver)) (dev1 g driver)) well (evented-one g driver p time-one e);
        } in
        codriver-evented p.o p.done p.s (woke g start p).0 second_card (one g driver) (out1 g driver) (dev1 g driver) behind refl bare-two c.moment-at.result (now g start p) c.args.waking.speed e.speed_is (is_err c.accept_anew-2.result) two out2 c.accept_anew-2.ensures.accepted.enters dev2 still-two time
        (c.accept_anew-2.ensures.promises room-two).recorded (c.accept_anew-2.ensures.promises room-two).evented

    limit-two : WithEvents g start p → two.keeper.memory.limit ≡ limit_in p.o
    limit-two e = ap (λ (m : UnitFacts). m.limit) same-two.0 ∙ limit-one g driver p time-one e

    began-unfound-two : (woke g start p).0.run.unfound ≡ two.unfound
    began-unfound-two = began-unfound g driver p time-one ∙ sym (ap (λ (r : Run). r.unfound) c.accept_anew-2.ensures.accepted.run)

    began-next-two : (woke g start p).0.run.next ≡ two.next
    began-next-two = began-next g driver p time-one ∙ sym (ap (λ (r : Run). r.next) c.accept_anew-2.ensures.accepted.run)

    ringed-two : (q : WithRings g start p) → RingsGoOn (is_err c.accept_anew-2.result) p.o p.done p.s (woke g start p).0 [] two (log_of out2) q.spans (told g start p q) dev2
    ringed-two q =
        let behind : WakesRinged p.o p.done p.s (woke g start p).0 (waiting_in CoDriver second_card) (CoDriver ∷ []) q.spans (told g start p q) (one g driver) (out1 g driver) (dev1 g driver) = record {
          waking = waking;
          rings = subst (λ (f : Bool). RingsGoOn f p.o p.done p.s (woke g start p).0 [] (one g driver) (log_of (out1 g driver)) q.spans (told g start p q) (dev1 g driver)) well (ringed-one g driver p time-one q);
        } in
        codriver-ringed p.o p.done p.s (woke g start p).0 second_card (one g driver) (out1 g driver) (dev1 g driver) q.spans (told g start p q) behind refl bare-two c.moment-at.result (now g start p) c.args.waking.speed (is_err c.accept_anew-2.result) two out2 c.accept_anew-2.ensures.accepted.enters dev2 still-two time
        (c.accept_anew-2.ensures.promises room-two).recorded (c.accept_anew-2.ensures.promises room-two).ringed

    rings-two : (q : WithRings g start p) → RingsWoken (is_err c.accept_anew-2.result) (log_of (out g start)) p.o p.done p.s q.spans two (log_of out2) dev2
    rings-two q =
        rings-then g start p q (is_err c.accept_anew-2.result) two out2 dev2 (ringed-two q) (λ fails. subst (λ (f : Bool). GoesOnOrCut f p.o p.done p.s (In 0) [] two out2 dev2) fails second) power-two unfound-two
        (λ fine. (goes-on fine).odometer ∙ sym (woke g start p).1.odometer)

    cards-two : p.s.speed ≡ c.args.waking.speed → (run g start).keeper.memory.registration ≡ vehicle_in p.o → CardsBehind p.o p.done (log_of (out g start)) (dev0 g start) → WakesOn (is_err c.accept_anew-2.result) p.o p.done p.s (woke g start p).0.run.log (log_of out2) dev2
    cards-two speed_is vehicle shown =
        codriver-woken p.o p.done p.s (woke g start p).0 second_card (one g driver) (out1 g driver) (dev1 g driver) waking refl bare-two (positive g start p) (vehicle-one g driver p.o vehicle).1
        (subst (λ (f : Bool). WakesOn f p.o p.done p.s (woke g start p).0.run.log (log_of (out1 g driver)) (dev1 g driver)) well (cards-one g driver p time-one speed_is vehicle shown))
        c.moment-at.result (now g start p) c.args.waking.speed speed_is (is_err c.accept_anew-2.result) two out2 c.accept_anew-2.ensures.accepted.enters dev2 still-two time (c.accept_anew-2.ensures.promises room-two).recorded (c.accept_anew-2.ensures.promises room-two).cards

    stands-two : p.s.speed ≡ c.args.waking.speed → (run g start).keeper.memory.registration ≡ vehicle_in p.o → StandsTo p.o p.done (out g start) out2 (dev0 g start) dev2
    stands-two speed_is vehicle =
        let one_ = stands-one g driver p time-one speed_is vehicle in
        let two_ = codriver-stands p.o p.done p.s (woke g start p).0 second_card (one g driver) (out1 g driver) (dev1 g driver) waking refl bare-two (positive g start p) (vehicle-one g driver p.o vehicle).1
        c.moment-at.result (now g start p) c.args.waking.speed speed_is (is_err c.accept_anew-2.result) two out2 c.accept_anew-2.ensures.accepted.enters dev2 still-two time (c.accept_anew-2.ensures.promises room-two).cards in
        (stand-then p.o (dev0 g start) (dev1 g driver) dev2 one_.0 two_.0, tells-then (log_of (out g start)) (log_of (out1 g driver)) (log_of out2) p.done one_.1 two_.1)

    -- where all went well
    module _ (fine : is_err c.accept_anew-2.result ≡ false) where
      abbrev within : RunWithin p.o p.done p.s (In 0) [] [] two out2 dev2
      within = within-of p.o p.done p.s (woke g start p).0 [] [] two out2 dev2 (goes-on fine)

      began : within.within.b ≡ (woke g start p).0
      began = (goes-on fine).waking.began

      comes : ComesPower p.done out2
      comes = comes-waking p.o p.done p.s (woke g start p).0 [] [] two out2 dev2 (goes-on fine)

      lit : RunHasPowerAllSeated (two.next / 60) two (g.M.Medium.state c.accept_anew-2.new.unit) (g.C.Chip.card c.accept_anew-2.new.card_a) (g.D.Chip.card c.accept_anew-2.new.card_b) (g.C.Chip.state c.accept_anew-2.new.card_a) (g.D.Chip.state c.accept_anew-2.new.card_b)
      lit = ok_gives c.accept_anew-2.result c.accept_anew-2.ensures.behind.going fine

      began-here : within.within.b.run.log ≡ log_of (out g start)
      began-here = ap (λ (b : Beginning). b.run.log) began ∙ began_log g start p

      evented-on : WithEvents g start p → EventedNow p.o p.done p.s (woke g start p).0.run Waking (log_of out2) dev2
      evented-on e = subst (λ (f : Bool). EventsGoOn f p.o p.done p.s (woke g start p).0.run (In 0) Waking (log_of out2) dev2) fine (evented-two e)

      empty : WithEvents g start p → within.within.b.span ≡ []
      empty e =
          here-empty p.o p.origin p.done p.s p.supply p.v (dev0 g start) (mended g start) p.r p.may p.number p.given c.args.waking.journal.kept e.evented (quiet g start) (is g start p).2 (woken g start p e).2 (woke g start p).0 (is g start p).0 (is g start p).1 (woken g start p e).0.bare
          two out2 dev2 (goes-on fine) (evented-on e) (ungiven_of lit.span) lit.cabin (small g start p)

      off-here : (went within.within.b.run.log p.done).before.running ≡ false
      off-here = subst (λ (b : Beginning). (went b.run.log p.done).before.running ≡ false) (sym began) (goes-on fine).waking.starts

      bare-here : WithEvents g start p → AreBare (went within.within.b.run.log p.done).before.slots
      bare-here e = subst (λ (b : Beginning). AreBare (went b.run.log p.done).before.slots) (sym began) (woken g start p e).0.bare

      log-here : within.within.b.run.log ≡ (found_again c.args.waking.journal.kept (progress p.v p.supply p.r.book)).log
      log-here = ap (λ (b : Beginning). b.run.log) began ∙ ap (λ (q : Progress). q.log) (is g start p).0

      cards-here : p.s.speed ≡ c.args.waking.speed → (run g start).keeper.memory.registration ≡ vehicle_in p.o → CardsBehind p.o p.done (log_of (out g start)) (dev0 g start) → CardsWaking p.o p.done p.s within.within.b.run.log (log_of out2) dev2
      cards-here speed_is vehicle shown =
          subst (λ (b : Beginning). CardsWaking p.o p.done p.s b.run.log (log_of out2) dev2) (sym began) (subst (λ (f : Bool). WakesOn f p.o p.done p.s (woke g start p).0.run.log (log_of out2) dev2) fine (cards-two speed_is vehicle shown))

-- ---- and the interruption was noted

module _ (g : Over) (c : After-note_gap g) where
  abbrev both : After-accept_anew-2 g
  both = (goal.at.returns-clause-goes g c).After-accept_anew-2

  abbrev begin : After-moment-at g
  begin = (goal.at.returns-clause-goes g c).After-moment-at

  abbrev new : Run
  new = c.note_gap.new.run

  abbrev out3 : Outcome
  out3 = record (out2 g both) { breaks = c.note_gap.new.breaks }

  abbrev dev3 : Devices
  dev3 = devices (g.M.Medium.state c.note_gap.new.unit) (g.C.Chip.state c.note_gap.new.card_a) (g.D.Chip.state c.note_gap.new.card_b)

  fine : is_err c.accept_anew-2.result ≡ false
  fine = search rules

  some : 0 < length (out g begin).breaks.items
  some = is-some (length (out g begin).breaks.items) (sym c.is_empty-is_first.ensures ∙ c.if-is_first.false)

  stays : new.keeper.memory ≡ (two g both).keeper.memory
  stays = gap-memory (gap_of c.last_kept-kept.result (two g both).next) (now_moment (two g both)) (is_err c.note_gap.result) (two g both) new (out2 g both).breaks c.note_gap.new.breaks c.note_gap.ensures.noted.reach.0 c.note_gap.ensures.noted.reach.1

  -- its events, by what was kept before
  gap-events : AreGapEvents (gap_of c.args.waking.journal.kept (two g both).next) (now_moment (two g both)) (is_err c.note_gap.result) (two g both) new (out2 g both).breaks c.note_gap.new.breaks c.note_gap.ensures.leaves.events.0 c.note_gap.ensures.leaves.events.1
  gap-events =
      subst (λ (k : ℕ). AreGapEvents (gap_of k (two g both).next) (now_moment (two g both)) (is_err c.note_gap.result) (two g both) new (out2 g both).breaks c.note_gap.new.breaks c.note_gap.ensures.leaves.events.0 c.note_gap.ensures.leaves.events.1) c.last_kept-kept.ensures.kept c.note_gap.ensures.leaves.events.2

  module _ (p : Premises g begin) (time : HaveTime dev3) where
    time-two : HaveTime (dev2 g both)
    time-two = time-before (dev2 g both) dev3 c.note_gap.ensures.goes.later.unit.clock c.note_gap.ensures.goes.later.card_a.clock c.note_gap.ensures.goes.later.card_b.clock time

    abbrev here : RunWithin p.o p.done p.s (In 0) [] [] (two g both) (out2 g both) (dev2 g both)
    here = within g both p time-two fine

    goes : GoesOnOrFails (is_err c.note_gap.result) p.o p.done p.s (In 0) [] new out3 dev3 here.within.b
    goes = c.note_gap.ensures.promises.recorded p.o p.done p.s (out2 g both) here (λ first_. comes g both p time-two fine)

    told-before : p.v.log.breaks ≡ [] → ⊥
    told-before = some-told p.v.unfound c.args.waking.journal.kept p.v.log.breaks (out g begin).breaks.items (ap (λ (x : Values). x.log.breaks) p.values) some

-- ---- where the unit failed as it was mended

module _ (g : Over) (c : After-from_residual g) where
  abbrev as_found : Devices
  as_found = devices (g.M.Medium.state c.args.unit.now) (g.C.Chip.state c.args.card_a.now) (g.D.Chip.state c.args.card_b.now)

  abbrev as_left : Devices
  as_left = devices (g.M.Medium.state c.mend.new.unit) (g.C.Chip.state c.args.card_a.now) (g.D.Chip.state c.args.card_b.now)

  failed-mend : true ≡ is_err c.from_residual.result
  failed-mend = search rules

  module _ (p : Behind c.args.waking.journal.kept c.args.run.now c.args.outcome.now as_found) where
    read : IsReadAgain p.o p.done (progress p.v p.supply p.r.book) c.args.waking.journal.kept as_found as_left
    read =
        let U : State = g.M.Medium.state c.args.unit.now in
        let X : State = g.C.Chip.state c.args.card_a.now in
        let Y : State = g.D.Chip.state c.args.card_b.now in
        let bad = c.in_err-mend.ensures in
        let loaded = c.requires.told.loaded in
        unmended-read p.o p.origin p.done p.s p.supply p.v U X Y p.r p.may p.number p.given (g.met.M.Medium.coherent c.args.unit.now) (wholes-of U X Y (g.met.C.Chip.coherent c.args.card_a.now) (g.met.D.Chip.coherent c.args.card_b.now)) loaded.works c.args.waking.journal (kept-of c.args.waking.journal U.image loaded.found)
        (g.M.Medium.state c.mend.new.unit) true c.mend.ensures.leaves.moments c.mend.ensures.answers.goes.tells bad.answers.goes.cause c.mend.ensures.rules.holds bad.rules.first bad.rules.second c.args.run.now p.vehicle c.args.outcome.now p.values refl

    log-found : log_of c.args.outcome.now ≡ (found_again c.args.waking.journal.kept (progress p.v p.supply p.r.book)).log
    log-found = ap (λ (x : Values). x.log) p.values

-- ---- whether a call failed

fails-one : (g : Over) (c : After-from_residual-in_err-accept_anew g) → is_err c.accept_anew.result ≡ true
fails-one g c = search rules

failed-one : (g : Over) (c : After-from_residual-in_err-accept_anew g) → true ≡ is_err c.from_residual-in_err-accept_anew.result
failed-one g c = search rules

fails-two : (g : Over) (c : After-from_residual-in_err-accept_anew-2 g) → is_err c.accept_anew-2.result ≡ true
fails-two g c = search rules

failed-two : (g : Over) (c : After-from_residual-in_err-accept_anew-2 g) → true ≡ is_err c.from_residual-in_err-accept_anew-2.result
failed-two g c = search rules

fine-first : (g : Over) (c : Then-is_first g) → is_err c.accept_anew-2.result ≡ false
fine-first g c = search rules

none-before : (g : Over) (c : Then-is_first g) → length c.args.outcome.now.breaks.items ≡ 0
none-before g c = is-none (length c.args.outcome.now.breaks.items) (sym c.is_empty-is_first.ensures ∙ c.if-is_first.true)

-- ---- the span that begins

pub accept_anew-requires-clause-acting : goal.accept_anew-requires-clause-acting
accept_anew-requires-clause-acting g c = record {
  lit = c.begin_span.ensures.begun.power;
  low =
      let next = c.begin_span.ensures.begun.next in
      let low = c.requires.going.low in
      omega (arith, next, low);
  small =
      let next = c.begin_span.ensures.begun.next in
      let small = c.requires.going.small in
      omega (arith, next, small);
  held =
      let at = (goal.at.accept_anew-requires-clause-acting g c).After-moment-at in
      subst (λ (m : ℕ). CanBeCut (m / 60) (mid g at) (g.M.Medium.state c.mend.new.unit) (g.C.Chip.card c.args.card_a.now) (g.D.Chip.card c.args.card_b.now) (g.C.Chip.state c.args.card_a.now) (g.D.Chip.state c.args.card_b.now)) (sym c.begin_span.ensures.begun.next)
      (span-held c.args.waking.rule (run g at) (mid g at) c.mend.new.journal c.requires.going c.begin_span.ensures.begun (ready g at) c.begin_span.ensures.odometer);
  going =
      let at = (goal.at.accept_anew-requires-clause-acting g c).After-moment-at in
      let kept = ap (λ (j : Notes). j.kept) c.in_ok-mend.ensures.stands.notes in
      let early = c.requires.later in
      subst (λ (m : ℕ). RunHasPowerAllSeated (m / 60) (mid g at) (g.M.Medium.state c.mend.new.unit) (g.C.Chip.card c.args.card_a.now) (g.D.Chip.card c.args.card_b.now) (g.C.Chip.state c.args.card_a.now) (g.D.Chip.state c.args.card_b.now)) (sym c.begin_span.ensures.begun.next)
      (span-lit c.args.waking.rule (run g at) (mid g at) c.mend.new.journal c.requires.may.dark c.requires.going c.begin_span.ensures.begun (omega (arith, kept, early)) (ready g at) (newest g at));
}

pub accept_anew-requires-2-clause-acting : goal.accept_anew-requires-2-clause-acting
accept_anew-requires-2-clause-acting g c = record {
  lit = ap (λ (r : Run). r.power) c.accept_anew.ensures.accepted.run ∙ c.begin_span.ensures.begun.power;
  low =
      let next = ap (λ (r : Run). r.next) c.accept_anew.ensures.accepted.run ∙ c.begin_span.ensures.begun.next in
      let low = c.requires.going.low in
      omega (arith, next, low);
  small =
      let next = ap (λ (r : Run). r.next) c.accept_anew.ensures.accepted.run ∙ c.begin_span.ensures.begun.next in
      let small = c.requires.going.small in
      omega (arith, next, small);
  held = c.accept_anew.ensures.behind.held.held;
  going = c.in_ok-accept_anew.ensures.behind.going;
}

pub note_gap-requires-clause-acting : goal.note_gap-requires-clause-acting
note_gap-requires-clause-acting g c = record {
  lit = ap (λ (r : Run). r.power) c.accept_anew-2.ensures.accepted.run ∙ ap (λ (r : Run). r.power) c.accept_anew.ensures.accepted.run ∙ c.begin_span.ensures.begun.power;
  low =
      let next = ap (λ (r : Run). r.next) c.accept_anew-2.ensures.accepted.run ∙ ap (λ (r : Run). r.next) c.accept_anew.ensures.accepted.run ∙ c.begin_span.ensures.begun.next in
      let low = c.requires.going.low in
      omega (arith, next, low);
  small =
      let next = ap (λ (r : Run). r.next) c.accept_anew-2.ensures.accepted.run ∙ ap (λ (r : Run). r.next) c.accept_anew.ensures.accepted.run ∙ c.begin_span.ensures.begun.next in
      let small = c.requires.going.small in
      omega (arith, next, small);
  held = c.accept_anew-2.ensures.behind.held.held;
  going = c.in_ok-accept_anew-2.ensures.behind.going;
}

pub accept_anew-requires-clause-may : goal.accept_anew-requires-clause-may
accept_anew-requires-clause-may g c = record {
  none = none g (goal.at.accept_anew-requires-clause-may g c).After-moment-at;
  at = first_of (search rules, grind (arith, common_steps));
  bare = bare g (goal.at.accept_anew-requires-clause-may g c).After-moment-at;
  breaks =
      let same = falls g (goal.at.accept_anew-requires-clause-may g c).After-moment-at in
      let room = c.requires.may.breaks in
      omega (arith, same, room);
  finds =
      let same = few g (goal.at.accept_anew-requires-clause-may g c).After-moment-at in
      let room = c.requires.may.finds in
      omega (arith, same, room);
}

-- ---- the co-driver's slot

pub accept_anew-requires-2-clause-may : goal.accept_anew-requires-2-clause-may
accept_anew-requires-2-clause-may g c = record {
  none = ap (λ (r : Run). r.minutes.owing) c.accept_anew.ensures.accepted.run ∙ none g (goal.at.accept_anew-requires-2-clause-may g c).After-moment-at;
  at = first_of (search rules, grind (arith, common_steps));
  bare = subst IsBare (sym c.accept_anew.ensures.accepted.beside) (bare_too g (goal.at.accept_anew-requires-2-clause-may g c).After-moment-at);
  breaks =
      let same = falls g (goal.at.accept_anew-requires-2-clause-may g c).After-moment-at in
      let told_so = c.accept_anew.ensures.takes.breaks in
      let rooms = c.accept_anew.ensures.takes.rooms.1 in
      let room = c.requires.may.breaks in
      omega (arith, same, room, told_so, rooms);
  finds =
      let at = (goal.at.accept_anew-requires-2-clause-may g c).After-moment-at in
      let driver_few = few g at in
      let codriver_few = ap bare_count c.accept_anew.ensures.accepted.beside ∙ few_too g at in
      let told_so = c.accept_anew.ensures.takes.finds in
      let rooms = c.accept_anew.ensures.takes.rooms.2 in
      let room = c.requires.may.finds in
      omega (arith, driver_few, codriver_few, told_so, rooms, room);
}

-- ---- what is held and taken up

pub returns-in_err-mend-clause-takes : goal.returns-in_err-mend-clause-takes
returns-in_err-mend-clause-takes g c = takes-nothing c.args.run.now c.args.outcome.now

pub returns-in_err-accept_anew-clause-takes : goal.returns-in_err-accept_anew-clause-takes
returns-in_err-accept_anew-clause-takes g c =
    let at = (goal.at.returns-in_err-accept_anew-clause-takes g c).After-moment-at in
    let same = few g at in
    awake-takes (bare_count (mid g at).keeper.cabin.slots.seats.driver) (run g at) (mid g at) c.accept_anew.new.run (out g at) c.accept_anew.new.outcome (falls g at) c.begin_span.ensures.begun.power (none g at) (omega (arith, same)) c.accept_anew.ensures.takes

pub returns-in_err-accept_anew-2-clause-takes : goal.returns-in_err-accept_anew-2-clause-takes
returns-in_err-accept_anew-2-clause-takes g c = taken-up g (goal.at.returns-in_err-accept_anew-2-clause-takes g c).After-accept_anew-2

pub returns-then-is_first-clause-takes : goal.returns-then-is_first-clause-takes
returns-then-is_first-clause-takes g c = taken-up g (goal.at.returns-then-is_first-clause-takes g c).After-accept_anew-2

pub returns-clause-takes : goal.returns-clause-takes
returns-clause-takes g c =
    let cards = both g c in
    let at = begin g c in
    let some_seats : ℕ = bare_count (mid g at).keeper.cabin.slots.seats.driver + bare_count c.accept_anew.new.run.keeper.cabin.slots.seats.codriver in
    let gap = takes-breaks (two g cards) (new g c) (out2 g cards) c.note_gap.new.breaks c.note_gap.ensures.noted.run c.note_gap.ensures.noted.room.0 c.note_gap.ensures.noted.room.1 in
    let seats : some_seats ≤ bare_seats (run g at).keeper.cabin.slots.seats = seats-two g cards in
    awake-takes (some_seats + 0) (run g at) (mid g at) (new g c) (out g at) (out3 g c) (falls g at) c.begin_span.ensures.begun.power (none g at) (omega (arith, seats)) (takes-then some_seats 0 (mid g at) (two g cards) (new g c) (out g at) (out2 g cards) (out3 g c) (takes-two g cards) gap)

-- ---- WHAT IS NOTED

pub returns-in_err-mend-clause-noted : goal.returns-in_err-mend-clause-noted
returns-in_err-mend-clause-noted g c = record {
  reach = Unmended;
  events = [];
  are = (sym (failed-mend g c), refl, refl, refl);
  notes = mended-noted c.args.waking.journal (g.M.Medium.state c.args.unit.now) (g.M.Medium.state c.mend.new.unit) (g.C.Chip.state c.args.card_a.now) (g.D.Chip.state c.args.card_b.now) (g.met.M.Medium.coherent c.args.unit.now) c.mend.ensures.leaves.moments (is_err c.from_residual.result);
}

pub returns-in_err-accept_anew-clause-noted : goal.returns-in_err-accept_anew-clause-noted
returns-in_err-accept_anew-clause-noted g c =
    let card = (goal.at.returns-in_err-accept_anew-clause-noted g c).After-accept_anew in
    let these = noted-one g card in
    record {
      reach = AtDriver (mid g (span g card));
      events = these.0;
      are = ((c.args.waking.rule, c.mend.new.journal, c.begin_span.ensures.begun), sym (failed-one g c), these.1);
      notes = subst (λ (f : Bool). NotesEvents these.0 f (dev0 g (span g card)) (dev1 g card)) (fails-one g c ∙ failed-one g c) these.2;
    }

pub returns-in_err-accept_anew-2-clause-noted : goal.returns-in_err-accept_anew-2-clause-noted
returns-in_err-accept_anew-2-clause-noted g c =
    let cards = (goal.at.returns-in_err-accept_anew-2-clause-noted g c).After-accept_anew-2 in
    let these = noted-two g cards in
    record {
      reach = AtCoDriver (mid g (start g cards));
      events = these.0;
      are = ((c.args.waking.rule, c.mend.new.journal, c.begin_span.ensures.begun), sym (failed-two g c), these.1);
      notes = subst (λ (f : Bool). NotesEvents these.0 f (dev0 g (start g cards)) (dev2 g cards)) (fails-two g c ∙ failed-two g c) these.2;
    }

pub returns-then-is_first-clause-noted : goal.returns-then-is_first-clause-noted
returns-then-is_first-clause-noted g c =
    let cards = (goal.at.returns-then-is_first-clause-noted g c).After-accept_anew-2 in
    let these = noted-two g cards in
    record {
      reach = NoneBefore (mid g (start g cards));
      events = these.0;
      are = ((c.args.waking.rule, c.mend.new.journal, c.begin_span.ensures.begun), refl, none-before g c, these.1);
      notes = subst (λ (f : Bool). NotesEvents these.0 f (dev0 g (start g cards)) (dev2 g cards)) (fine-first g c) these.2;
    }

pub returns-clause-noted : goal.returns-clause-noted
returns-clause-noted g c =
    let cards = both g c in
    let these = noted-two g cards in
    let gap = c.note_gap.ensures.leaves.events in
    record {
      reach = AtGap (mid g (begin g c)) gap.0;
      events = these.0 ++ gap.1;
      are = (
        (c.args.waking.rule, c.mend.new.journal, c.begin_span.ensures.begun),
        some g c,
        record {
          two = two g cards;
          told = out2 g cards;
          judged = these.0;
          later = gap.1;
          both = these.1;
          gap = gap-events g c;
          rest = refl;
          are = refl;
        },
      );
      notes = then-noted these.0 gap.1 (is_err c.note_gap.result) (dev0 g (begin g c)) (dev2 g cards) (dev3 g c) (subst (λ (f : Bool). NotesEvents these.0 f (dev0 g (begin g c)) (dev2 g cards)) (fine g c) these.2) gap.3;
    }

-- ---- where no tear of a failed call is told no card has broken down

pub returns-in_err-mend-clause-resumed : goal.returns-in_err-mend-clause-resumed
returns-in_err-mend-clause-resumed g c = record {
  next = refl;
  unfound = refl;
  power = search rules;
  owes = search rules;
  refused = refl;
  uncut = refl;
}

pub returns-in_err-mend-clause-promises : goal.returns-in_err-mend-clause-promises
returns-in_err-mend-clause-promises g c = λ room. record {
  recorded =
      λ o origin vehicle done s supply v r stay may number given values time.
      let U : State = g.M.Medium.state c.args.unit.now in
      let X : State = g.C.Chip.state c.args.card_a.now in
      let Y : State = g.D.Chip.state c.args.card_b.now in
      let W : State = g.M.Medium.state c.mend.new.unit in
      let bad = c.in_err-mend.ensures in
      let loaded = c.requires.told.loaded in
      subst (λ (f : Bool). GoesOnOrCut f o done s (In 0) [] c.args.run.now c.args.outcome.now (as_left g c)) (failed-mend g c)
      (unmended o origin done s supply v U X Y r may number given (g.met.M.Medium.coherent c.args.unit.now) (wholes-of U X Y (g.met.C.Chip.coherent c.args.card_a.now) (g.met.D.Chip.coherent c.args.card_b.now)) loaded.works c.args.waking.journal (kept-of c.args.waking.journal U.image loaded.found)
      W true c.mend.ensures.leaves.moments c.mend.ensures.answers.goes.tells bad.answers.goes.cause c.mend.ensures.rules.holds bad.rules.first bad.rules.second c.args.run.now vehicle c.args.outcome.now values refl c.requires.may.dark);
  evented =
      λ o origin vehicle done s supply v r stay may number given speed_is values evented limit time.
      let p : Behind c.args.waking.journal.kept c.args.run.now c.args.outcome.now (as_found g c) = record { room = room; o = o; origin = origin; vehicle = vehicle; done = done; s = s; supply = supply; v = v; r = r; stay = stay; may = may; number = number; given = given; values = values } in
      let again : Progress = found_again c.args.waking.journal.kept (progress v supply r.book) in
      let silent = says c.args.waking.journal (g.M.Medium.state c.args.unit.now) (g.M.Medium.state c.mend.new.unit) (g.C.Chip.state c.args.card_a.now) (g.D.Chip.state c.args.card_b.now) (g.met.M.Medium.coherent c.args.unit.now) c.mend.ensures.leaves.moments in
      let lost = unmended-evented o done s supply v (as_found g c) (as_left g c) r may number given c.args.waking.journal.kept evented silent (read g c p).left (read g c p).followed (read g c p) in
      subst (λ (f : Bool). EventsWoken f (log_of c.args.outcome.now) o done s c.args.run.now c.args.outcome.now (as_left g c)) (failed-mend g c)
      (woken-fails o done s again Waking c.args.run.now c.args.outcome.now (as_left g c) (log_of c.args.outcome.now)
      (subst (λ (l : RunLog). Evented o (done ++ s ∷ []) (and_break l (cut_at s.number true 0)) again.unfound (suc v.next) Lost (as_left g c)) (sym (log-found g c p)) lost)
      (sym (ap (λ (x : Values). x.unfound) values)) (sym (ap (λ (x : Values). x.next) values)) limit);
  ringed =
      λ o origin vehicle done s supply v r stay may number given values spans seats ringed counted off time.
      let U : State = g.M.Medium.state c.args.unit.now in
      let X : State = g.C.Chip.state c.args.card_a.now in
      let Y : State = g.D.Chip.state c.args.card_b.now in
      let W : State = g.M.Medium.state c.mend.new.unit in
      let bad = c.in_err-mend.ensures in
      let loaded = c.requires.told.loaded in
      let p : Behind c.args.waking.journal.kept c.args.run.now c.args.outcome.now (as_found g c) = record { room = room; o = o; origin = origin; vehicle = vehicle; done = done; s = s; supply = supply; v = v; r = r; stay = stay; may = may; number = number; given = given; values = values } in
      let q : Progress = found_again c.args.waking.journal.kept (progress v supply r.book) in
      let behind = behind-stays (as_found g c) (as_left g c) o done (log_of c.args.outcome.now) s.number spans seats ringed (mend-leaves c.args.waking.journal U W (g.met.M.Medium.coherent c.args.unit.now) c.mend.ensures.leaves.moments) (read g c p).left (cards-beside o spans U W X Y) in
      let log_now : log_of c.args.outcome.now ≡ found_log v.unfound c.args.waking.journal.kept v.log = log-found g c p in
      let are = spans-before o done supply v (as_found g c) r c.args.waking.journal.kept (log_of c.args.outcome.now) log_now spans ringed.spans_are in
      let stands_so =
      unmended-stands o origin done s supply v U X Y r may number given (g.met.M.Medium.coherent c.args.unit.now) (wholes-of U X Y (g.met.C.Chip.coherent c.args.card_a.now) (g.met.D.Chip.coherent c.args.card_b.now)) loaded.works c.args.waking.journal (kept-of c.args.waking.journal U.image loaded.found)
      W true c.mend.ensures.leaves.moments c.mend.ensures.answers.goes.tells bad.answers.goes.cause c.mend.ensures.rules.holds bad.rules.first bad.rules.second c.args.run.now vehicle c.args.outcome.now values refl spans are off in
      let base = stands_so.0 in
      let cut = unpowered-ringed o done s q (read g c p).followed (read g c p).followed.power number given (as_left g c) spans seats (subst (λ (l : RunLog). RingedBehind o done l s.number spans seats (as_left g c)) (log-found g c p) behind) base in
      let kept_so = stays-stored o v.log v.unfound spans (as_found g c) (as_left g c) (mend-stays c.args.waking.journal (as_found g c) (as_left g c) (g.met.M.Medium.coherent c.args.unit.now) c.mend.ensures.leaves.moments) off in
      let stored = unmended-stored o done s q (read g c p).followed (read g c p).followed.power number given spans (as_left g c) base stands_so.1 kept_so.stores in
      let after : List SpanFrom = spans_cut spans base (with_cut q.log s []) done s in
      subst (λ (f : Bool). RingsWoken f (log_of c.args.outcome.now) o done s spans c.args.run.now (log_of c.args.outcome.now) (as_left g c)) (failed-mend g c) (
        after,
        counted,
        subst (λ (l : RunLog). RingedBehind o (done ++ s ∷ []) (with_cut l s []) (suc s.number) after nobody (as_left g c)) (sym (log-found g c p)) cut,
        subst (λ (l : RunLog). StoresOff o (with_cut l s []) c.args.run.now.unfound after (as_left g c)) (sym (log-found g c p)) (subst (λ (n : ℕ). StoresOff o (with_cut q.log s []) n after (as_left g c)) (sym (ap (λ (x : Values). x.unfound) values)) stored),
      );
  cards =
      λ o origin done s supply v r stay may number given speed_is values evented limit vehicle shown time.
      let p : Behind c.args.waking.journal.kept c.args.run.now c.args.outcome.now (as_found g c) = record { room = room; o = o; origin = origin; vehicle = vehicle; done = done; s = s; supply = supply; v = v; r = r; stay = stay; may = may; number = number; given = given; values = values } in
      let q : Progress = found_again c.args.waking.journal.kept (progress v supply r.book) in
      let here_is : c.args.run.now.next ≡ v.next = ap (λ (x : Values). x.next) values in
      let low = c.requires.going.low in
      let some_so : 0 < s.number = omega (arith, number, here_is, low) in
      let alone = unit-alone o done (log_of c.args.outcome.now) (g.M.Medium.state c.args.unit.now) (g.M.Medium.state c.mend.new.unit) (g.C.Chip.state c.args.card_a.now) (g.D.Chip.state c.args.card_b.now) shown in
      let cut = unpowered-cards o done s q (read g c p).followed (read g c p).followed.power number given some_so (as_left g c) (subst (λ (l : RunLog). CardsBehind o done l (as_left g c)) (log-found g c p) alone) in
      subst (λ (f : Bool). CardsWoken f (log_of c.args.outcome.now) o done s c.args.run.now (log_of c.args.outcome.now) (as_left g c)) (failed-mend g c) (vehicle, subst (λ (l : RunLog). CardsBehind o (done ++ s ∷ []) (with_cut l s []) (as_left g c)) (sym (log-found g c p)) cut);
  stands =
      λ o origin done s supply v r stay may number given speed_is values evented limit vehicle time.
      let p : Behind c.args.waking.journal.kept c.args.run.now c.args.outcome.now (as_found g c) = record { room = room; o = o; origin = origin; vehicle = vehicle; done = done; s = s; supply = supply; v = v; r = r; stay = stay; may = may; number = number; given = given; values = values } in
      (record { left = (read g c p).left; made = unit-makes o (g.M.Medium.state c.args.unit.now) (g.M.Medium.state c.mend.new.unit) (g.C.Chip.state c.args.card_a.now) (g.D.Chip.state c.args.card_b.now) }, tells-self (log_of c.args.outcome.now) done);
}

pub returns-in_err-mend-clause-behind : goal.returns-in_err-mend-clause-behind
returns-in_err-mend-clause-behind g c = record {
  held =
      record {
        held =
            let h = c.requires.going.held in
            record { is_unit = c.mend.ensures.stands.unit; odometer = h.odometer; minute = h.minute; card_a = h.card_a; card_b = h.card_b; stand = h.stand };
        cause = subst (λ (f : Bool). HasCause (g.M.Medium.state c.args.unit.now) (g.M.Medium.state c.mend.new.unit) f) (failed-mend g c) c.in_err-mend.ensures.answers.goes.cause;
      };
  going = on_ok c.from_residual.result (λ well. absurd (let bad : true ≡ false = (failed-mend g c) ∙ well in cc));
}

pub returns-in_err-mend-clause-goes : goal.returns-in_err-mend-clause-goes
returns-in_err-mend-clause-goes g c = record {
  later =
      later-of-unit (g.M.Medium.state c.args.unit.now) (g.M.Medium.state c.mend.new.unit) (g.C.Chip.state c.args.card_a.now) (g.D.Chip.state c.args.card_b.now) (state-by (g.M.Medium.state c.args.unit.now) (g.M.Medium.state c.mend.new.unit) _ c.mend.ensures.answers.goes.clock c.mend.ensures.answers.goes.cause)
      (mending-leaves c.args.waking.journal (g.M.Medium.state c.args.unit.now) (g.M.Medium.state c.mend.new.unit) (g.met.M.Medium.coherent c.args.unit.now) c.mend.ensures.leaves.moments);
  calm = calm-of-unit (g.M.Medium.state c.args.unit.now) (g.M.Medium.state c.mend.new.unit) (g.C.Chip.state c.args.card_a.now) (g.D.Chip.state c.args.card_b.now);
  more = omega arith;
  most = wrote-more 34 94 0 2152 (devices (g.M.Medium.state c.args.unit.now) (g.C.Chip.state c.args.card_a.now) (g.D.Chip.state c.args.card_b.now)) (devices (g.M.Medium.state c.mend.new.unit) (g.C.Chip.state c.args.card_a.now) (g.D.Chip.state c.args.card_b.now)) (omega arith) (omega arith) (wrote-unit 34 0 (g.M.Medium.state c.args.unit.now) (g.M.Medium.state c.mend.new.unit) (g.C.Chip.state c.args.card_a.now) (g.D.Chip.state c.args.card_b.now) c.mend.ensures.answers.most);
}

pub returns-in_err-accept_anew-clause-resumed : goal.returns-in_err-accept_anew-clause-resumed
returns-in_err-accept_anew-clause-resumed g c = record {
  next = ap (λ (r : Run). r.next) c.accept_anew.ensures.accepted.run ∙ c.begin_span.ensures.begun.next;
  unfound = ap (λ (r : Run). r.unfound) c.accept_anew.ensures.accepted.run ∙ c.begin_span.ensures.begun.unfound;
  power = search rules;
  owes = search rules;
  refused = c.accept_anew.ensures.accepted.refused;
  uncut = anew-uncut _ _ _ _ _ _ _ _ c.accept_anew.ensures.accepted.enters;
}

pub returns-in_err-accept_anew-clause-promises : goal.returns-in_err-accept_anew-clause-promises
returns-in_err-accept_anew-clause-promises g c = λ room. record {
  recorded =
      λ o origin vehicle done s supply v r stay may number given values time.
      let card = (goal.at.returns-in_err-accept_anew-clause-promises g c).After-accept_anew in
      let p = premises g (span g card) room o origin vehicle done s supply v r stay may number given values in
      subst (λ (f : Bool). GoesOnOrCut f o done s (In 0) [] (one g card) (out1 g card) (dev1 g card)) (failed-one g c) ((first g card p time).1 (fails-one g c));
  evented =
      λ o origin vehicle done s supply v r stay may number given speed_is values evented limit time.
      let card = (goal.at.returns-in_err-accept_anew-clause-promises g c).After-accept_anew in
      let at = span g card in
      let p = premises g at room o origin vehicle done s supply v r stay may number given values in
      let e : WithEvents g at p = record { speed_is = speed_is; evented = evented; limit = limit } in
      let cut = subst (λ (f : Bool). EventsGoOn f o done s (woke g at p).0.run (In 0) Waking (log_of (out1 g card)) (dev1 g card)) (fails-one g c) (evented-one g card p time e) in
      subst (λ (f : Bool). EventsWoken f (log_of (out g at)) o done s (one g card) (out1 g card) (dev1 g card)) (failed-one g c)
      (woken-fails o done s (woke g at p).0.run Waking (one g card) (out1 g card) (dev1 g card) (log_of (out g at)) cut (began-unfound g card p time) (began-next g card p time) (limit-one g card p time e));
  ringed =
      λ o origin vehicle done s supply v r stay may number given values spans seats ringed counted off time.
      let card = (goal.at.returns-in_err-accept_anew-clause-promises g c).After-accept_anew in
      let at = span g card in
      let p = premises g at room o origin vehicle done s supply v r stay may number given values in
      let q : WithRings g at p = record { spans = spans; seats = seats; ringed = ringed; counted = counted; off = off } in
      subst (λ (f : Bool). RingsWoken f (log_of (out g at)) o done s spans (one g card) (log_of (out1 g card)) (dev1 g card)) (fails-one g c ∙ failed-one g c)
      (rings-then g at p q (is_err c.accept_anew.result) (one g card) (out1 g card) (dev1 g card) (ringed-one g card p time q) (first g card p time).1 (power-one g card) (unfound-one g card) (λ well_one. ((first g card p time).0 well_one).odometer ∙ sym (woke g at p).1.odometer));
  cards =
      λ o origin done s supply v r stay may number given speed_is values evented limit vehicle shown time.
      let card = (goal.at.returns-in_err-accept_anew-clause-promises g c).After-accept_anew in
      let at = span g card in
      let p = premises g at room o origin vehicle done s supply v r stay may number given values in
      subst (λ (f : Bool). CardsWoken f (log_of (out g at)) o done s (one g card) (log_of (out1 g card)) (dev1 g card)) (failed-one g c) (
        (vehicle-one g card o vehicle).1,
        subst (λ (f : Bool). WakesOn f o done s (woke g at p).0.run.log (log_of (out1 g card)) (dev1 g card)) (fails-one g c) (cards-one g card p time speed_is vehicle shown),
      );
  stands =
      λ o origin done s supply v r stay may number given speed_is values evented limit vehicle time.
      let card = (goal.at.returns-in_err-accept_anew-clause-promises g c).After-accept_anew in
      stands-one g card (premises g (span g card) room o origin vehicle done s supply v r stay may number given values) time speed_is vehicle;
}

pub returns-in_err-accept_anew-clause-behind : goal.returns-in_err-accept_anew-clause-behind
returns-in_err-accept_anew-clause-behind g c = record {
  held =
      record {
        held = c.accept_anew.ensures.behind.held.held;
        cause = subst (λ (f : Bool). HasCause (g.M.Medium.state c.args.unit.now) (g.M.Medium.state c.accept_anew.new.unit) f) (failed-one g c) (cause_after c.in_ok-mend.ensures.answers.goes.cause c.in_err-accept_anew.ensures.behind.held.cause);
      };
  going = on_ok c.from_residual-in_err-accept_anew.result (λ well. absurd (let bad : true ≡ false = (failed-one g c) ∙ well in cc));
}

pub returns-in_err-accept_anew-clause-goes : goal.returns-in_err-accept_anew-clause-goes
returns-in_err-accept_anew-clause-goes g c = record {
  later = later-one g (goal.at.returns-in_err-accept_anew-clause-goes g c).After-accept_anew;
  calm = calm-one g (goal.at.returns-in_err-accept_anew-clause-goes g c).After-accept_anew;
  more =
      let at = (goal.at.returns-in_err-accept_anew-clause-goes g c).After-moment-at in
      anew-more (first_card g at) Driver c.moment-at.result c.args.waking.speed (mid g at) c.accept_anew.new.run (out g at) c.accept_anew.new.outcome c.accept_anew.ensures.accepted.enters;
  most =
      wrote-more (34 + 24) 94 (0 + 1072) 2152 (devices (g.M.Medium.state c.args.unit.now) (g.C.Chip.state c.args.card_a.now) (g.D.Chip.state c.args.card_b.now)) (devices (g.M.Medium.state c.accept_anew.new.unit) (g.C.Chip.state c.accept_anew.new.card_a) (g.D.Chip.state c.accept_anew.new.card_b)) (omega arith) (omega arith)
      (wrote-then 34 24 0 1072 (devices (g.M.Medium.state c.args.unit.now) (g.C.Chip.state c.args.card_a.now) (g.D.Chip.state c.args.card_b.now)) (devices (g.M.Medium.state c.mend.new.unit) (g.C.Chip.state c.args.card_a.now) (g.D.Chip.state c.args.card_b.now)) (devices (g.M.Medium.state c.accept_anew.new.unit) (g.C.Chip.state c.accept_anew.new.card_a) (g.D.Chip.state c.accept_anew.new.card_b)) (wrote-unit 34 0 (g.M.Medium.state c.args.unit.now) (g.M.Medium.state c.mend.new.unit) (g.C.Chip.state c.args.card_a.now) (g.D.Chip.state c.args.card_b.now) c.mend.ensures.answers.most) c.accept_anew.ensures.goes.most);
}

pub returns-in_err-accept_anew-2-clause-resumed : goal.returns-in_err-accept_anew-2-clause-resumed
returns-in_err-accept_anew-2-clause-resumed g c = record {
  next = ap (λ (r : Run). r.next) c.accept_anew-2.ensures.accepted.run ∙ ap (λ (r : Run). r.next) c.accept_anew.ensures.accepted.run ∙ c.begin_span.ensures.begun.next;
  unfound = ap (λ (r : Run). r.unfound) c.accept_anew-2.ensures.accepted.run ∙ ap (λ (r : Run). r.unfound) c.accept_anew.ensures.accepted.run ∙ c.begin_span.ensures.begun.unfound;
  power = on_ok c.from_residual-in_err-accept_anew-2.result (λ well. absurd (let bad : true ≡ false = (failed-two g c) ∙ well in cc));
  owes = on_ok c.from_residual-in_err-accept_anew-2.result (λ well. absurd (let bad : true ≡ false = (failed-two g c) ∙ well in cc));
  refused = c.accept_anew-2.ensures.accepted.refused ∙ c.accept_anew.ensures.accepted.refused;
  uncut = uncut-two g (goal.at.returns-in_err-accept_anew-2-clause-resumed g c).After-accept_anew-2;
}

pub returns-in_err-accept_anew-2-clause-promises : goal.returns-in_err-accept_anew-2-clause-promises
returns-in_err-accept_anew-2-clause-promises g c = λ room. record {
  recorded =
      λ o origin vehicle done s supply v r stay may number given values time.
      let cards = (goal.at.returns-in_err-accept_anew-2-clause-promises g c).After-accept_anew-2 in
      let p = premises g (start g cards) room o origin vehicle done s supply v r stay may number given values in
      subst (λ (f : Bool). GoesOnOrCut f o done s (In 0) [] (two g cards) (out2 g cards) (dev2 g cards)) (fails-two g c ∙ failed-two g c) (second g cards p time);
  evented =
      λ o origin vehicle done s supply v r stay may number given speed_is values evented limit time.
      let cards = (goal.at.returns-in_err-accept_anew-2-clause-promises g c).After-accept_anew-2 in
      let at = start g cards in
      let p = premises g at room o origin vehicle done s supply v r stay may number given values in
      let e : WithEvents g at p = record { speed_is = speed_is; evented = evented; limit = limit } in
      let cut = subst (λ (f : Bool). EventsGoOn f o done s (woke g at p).0.run (In 0) Waking (log_of (out2 g cards)) (dev2 g cards)) (fails-two g c) (evented-two g cards p time e) in
      subst (λ (f : Bool). EventsWoken f (log_of (out g at)) o done s (two g cards) (out2 g cards) (dev2 g cards)) (failed-two g c)
      (woken-fails o done s (woke g at p).0.run Waking (two g cards) (out2 g cards) (dev2 g cards) (log_of (out g at)) cut (began-unfound-two g cards p time) (began-next-two g cards p time) (limit-two g cards p time e));
  ringed =
      λ o origin vehicle done s supply v r stay may number given values spans seats ringed counted off time.
      let cards = (goal.at.returns-in_err-accept_anew-2-clause-promises g c).After-accept_anew-2 in
      let p = premises g (start g cards) room o origin vehicle done s supply v r stay may number given values in
      let q : WithRings g (start g cards) p = record { spans = spans; seats = seats; ringed = ringed; counted = counted; off = off } in
      subst (λ (f : Bool). RingsWoken f (log_of (out g (start g cards))) o done s spans (two g cards) (log_of (out2 g cards)) (dev2 g cards)) (fails-two g c ∙ failed-two g c) (rings-two g cards p time q);
  cards =
      λ o origin done s supply v r stay may number given speed_is values evented limit vehicle shown time.
      let cards = (goal.at.returns-in_err-accept_anew-2-clause-promises g c).After-accept_anew-2 in
      let at = start g cards in
      let p = premises g at room o origin vehicle done s supply v r stay may number given values in
      subst (λ (f : Bool). CardsWoken f (log_of (out g at)) o done s (two g cards) (log_of (out2 g cards)) (dev2 g cards)) (failed-two g c) (
        vehicle-two g cards o vehicle,
        subst (λ (f : Bool). WakesOn f o done s (woke g at p).0.run.log (log_of (out2 g cards)) (dev2 g cards)) (fails-two g c) (cards-two g cards p time speed_is vehicle shown),
      );
  stands =
      λ o origin done s supply v r stay may number given speed_is values evented limit vehicle time.
      let cards = (goal.at.returns-in_err-accept_anew-2-clause-promises g c).After-accept_anew-2 in
      stands-two g cards (premises g (start g cards) room o origin vehicle done s supply v r stay may number given values) time speed_is vehicle;
}

pub returns-in_err-accept_anew-2-clause-behind : goal.returns-in_err-accept_anew-2-clause-behind
returns-in_err-accept_anew-2-clause-behind g c = record {
  held =
      record {
        held = c.accept_anew-2.ensures.behind.held.held;
        cause = subst (λ (f : Bool). HasCause (g.M.Medium.state c.args.unit.now) (g.M.Medium.state c.accept_anew-2.new.unit) f) (failed-two g c) (cause_after c.in_ok-mend.ensures.answers.goes.cause (cause_after c.in_ok-accept_anew.ensures.behind.held.cause c.in_err-accept_anew-2.ensures.behind.held.cause));
      };
  going = on_ok c.from_residual-in_err-accept_anew-2.result (λ well. absurd (let bad : true ≡ false = (failed-two g c) ∙ well in cc));
}

pub returns-in_err-accept_anew-2-clause-goes : goal.returns-in_err-accept_anew-2-clause-goes
returns-in_err-accept_anew-2-clause-goes g c = record {
  later = later-two g (goal.at.returns-in_err-accept_anew-2-clause-goes g c).After-accept_anew-2;
  calm = calm-two g (goal.at.returns-in_err-accept_anew-2-clause-goes g c).After-accept_anew-2;
  more = more-two g (goal.at.returns-in_err-accept_anew-2-clause-goes g c).After-accept_anew-2;
  most =
      wrote-more (34 + 24 + 24) 94 (0 + 1072 + 1072) 2152 (devices (g.M.Medium.state c.args.unit.now) (g.C.Chip.state c.args.card_a.now) (g.D.Chip.state c.args.card_b.now)) (devices (g.M.Medium.state c.accept_anew-2.new.unit) (g.C.Chip.state c.accept_anew-2.new.card_a) (g.D.Chip.state c.accept_anew-2.new.card_b)) (omega arith) (omega arith)
      (wrote-then (34 + 24) 24 (0 + 1072) 1072 (devices (g.M.Medium.state c.args.unit.now) (g.C.Chip.state c.args.card_a.now) (g.D.Chip.state c.args.card_b.now)) (devices (g.M.Medium.state c.accept_anew.new.unit) (g.C.Chip.state c.accept_anew.new.card_a) (g.D.Chip.state c.accept_anew.new.card_b)) (devices (g.M.Medium.state c.accept_anew-2.new.unit) (g.C.Chip.state c.accept_anew-2.new.card_a) (g.D.Chip.state c.accept_anew-2.new.card_b)) (wrote-then 34 24 0 1072 (devices (g.M.Medium.state c.args.unit.now) (g.C.Chip.state c.args.card_a.now) (g.D.Chip.state c.args.card_b.now)) (devices (g.M.Medium.state c.mend.new.unit) (g.C.Chip.state c.args.card_a.now) (g.D.Chip.state c.args.card_b.now)) (devices (g.M.Medium.state c.accept_anew.new.unit) (g.C.Chip.state c.accept_anew.new.card_a) (g.D.Chip.state c.accept_anew.new.card_b)) (wrote-unit 34 0 (g.M.Medium.state c.args.unit.now) (g.M.Medium.state c.mend.new.unit) (g.C.Chip.state c.args.card_a.now) (g.D.Chip.state c.args.card_b.now) c.mend.ensures.answers.most) c.accept_anew.ensures.goes.most) c.accept_anew-2.ensures.goes.most);
}

pub returns-then-is_first-clause-resumed : goal.returns-then-is_first-clause-resumed
returns-then-is_first-clause-resumed g c = record {
  next = ap (λ (r : Run). r.next) c.accept_anew-2.ensures.accepted.run ∙ ap (λ (r : Run). r.next) c.accept_anew.ensures.accepted.run ∙ c.begin_span.ensures.begun.next;
  unfound = ap (λ (r : Run). r.unfound) c.accept_anew-2.ensures.accepted.run ∙ ap (λ (r : Run). r.unfound) c.accept_anew.ensures.accepted.run ∙ c.begin_span.ensures.begun.unfound;
  power = power-two g (goal.at.returns-then-is_first-clause-resumed g c).After-accept_anew-2;
  owes = ap (λ (r : Run). r.minutes.owing) c.accept_anew-2.ensures.accepted.run ∙ ap (λ (r : Run). r.minutes.owing) c.accept_anew.ensures.accepted.run ∙ none g (goal.at.returns-then-is_first-clause-resumed g c).After-moment-at;
  refused = c.accept_anew-2.ensures.accepted.refused ∙ c.accept_anew.ensures.accepted.refused;
  uncut = uncut-two g (goal.at.returns-then-is_first-clause-resumed g c).After-accept_anew-2;
}

pub returns-then-is_first-clause-promises : goal.returns-then-is_first-clause-promises
returns-then-is_first-clause-promises g c = λ room. record {
  recorded =
      λ o origin vehicle done s supply v r stay may number given values time.
      let cards = (goal.at.returns-then-is_first-clause-promises g c).After-accept_anew-2 in
      let p = premises g (start g cards) room o origin vehicle done s supply v r stay may number given values in
      subst (λ (f : Bool). GoesOnOrCut f o done s (In 0) [] (two g cards) (out2 g cards) (dev2 g cards)) (fine-first g c) (second g cards p time);
  evented =
      λ o origin vehicle done s supply v r stay may number given speed_is values evented limit time.
      let cards = (goal.at.returns-then-is_first-clause-promises g c).After-accept_anew-2 in
      let at = start g cards in
      let well_two = fine-first g c in
      let p = premises g at room o origin vehicle done s supply v r stay may number given values in
      let e : WithEvents g at p = record { speed_is = speed_is; evented = evented; limit = limit } in
      let untold = none-told v.unfound c.args.waking.journal.kept v.log.breaks (out g at).breaks.items (ap (λ (x : Values). x.log.breaks) values) (none-before g c) in
      let stands_so = lit g cards p time well_two in
      let noted_so =
      none-woken o origin done s supply v (dev0 g at) (mended g at) r may number given c.args.waking.journal.kept evented (quiet g at) (is g at p).2 (woken g at p e).2 (woke g at p).0 (is g at p).0 (is g at p).1 (woken g at p e).0.bare
      (two g cards) (out2 g cards) (dev2 g cards) (goes-on g cards p time well_two) (evented-on g cards p time well_two e) (ungiven_of stands_so.span) stands_so.cabin (small g at p) untold (same-noted (dev2 g cards).unit (dev2 g cards).card_a (dev2 g cards).card_b) in
      woken-on o done s (within g cards p time well_two).within.b (two g cards) (out2 g cards) (dev2 g cards) (empty g cards p time well_two e) (within g cards p time well_two) refl noted_so (limit-two g cards p time e)
      (begun-watched o c.args.waking.rule (run g at) (mid g at) (two g cards) c.mend.new.journal c.begin_span.ensures.begun limit ((same-two g cards).1 ∙ (same-one g (driver g cards)).1)) (log_of (out g at)) (began-here g cards p time well_two);
  ringed =
      λ o origin vehicle done s supply v r stay may number given values spans seats ringed counted off time.
      let cards = (goal.at.returns-then-is_first-clause-promises g c).After-accept_anew-2 in
      let p = premises g (start g cards) room o origin vehicle done s supply v r stay may number given values in
      let q : WithRings g (start g cards) p = record { spans = spans; seats = seats; ringed = ringed; counted = counted; off = off } in
      subst (λ (f : Bool). RingsWoken f (log_of (out g (start g cards))) o done s spans (two g cards) (log_of (out2 g cards)) (dev2 g cards)) (fine-first g c) (rings-two g cards p time q);
  cards =
      λ o origin done s supply v r stay may number given speed_is values evented limit vehicle shown time.
      let cards = (goal.at.returns-then-is_first-clause-promises g c).After-accept_anew-2 in
      let at = start g cards in
      let well_two = fine-first g c in
      let p = premises g at room o origin vehicle done s supply v r stay may number given values in
      let e : WithEvents g at p = record { speed_is = speed_is; evented = evented; limit = limit } in
      let untold = none-told v.unfound c.args.waking.journal.kept v.log.breaks (out g at).breaks.items (ap (λ (x : Values). x.log.breaks) values) (none-before g c) in
      let stands_so = lit g cards p time well_two in
      let x = within g cards p time well_two in
      woken-all false o done s x.within.b.run.log (log_of (out g at)) (two g cards) (log_of (out2 g cards)) (dev2 g cards) (began-here g cards p time well_two) (vehicle-two g cards o vehicle)
      (gap-shown o done s (two g cards) (out2 g cards) (dev2 g cards) (dev2 g cards) x (ungiven_of stands_so.span) stands_so.cabin (off-here g cards p time well_two) (bare-here g cards p time well_two e) (positive g at p) None
      (none-list o done s supply v (dev0 g at) (mended g at) r may number given c.args.waking.journal.kept evented (quiet g at) (is g at p).2 (woken g at p e).2 x.within.b.run.log (log-here g cards p time well_two) untold) (vehicle-two g cards o vehicle) (cards-here g cards p time well_two speed_is vehicle shown)
      false (two g cards) (out2 g cards).breaks NoGap (refl, refl, refl) (stood-self o (dev2 g cards)) (left-itself o (dev2 g cards)) (λ bad. none-fails bad) (none-noted (two g cards).keeper.cabin.cards (two g cards).keeper.memory.registration (dev2 g cards)));
  stands =
      λ o origin done s supply v r stay may number given speed_is values evented limit vehicle time.
      let cards = (goal.at.returns-then-is_first-clause-promises g c).After-accept_anew-2 in
      stands-two g cards (premises g (start g cards) room o origin vehicle done s supply v r stay may number given values) time speed_is vehicle;
}

pub returns-then-is_first-clause-behind : goal.returns-then-is_first-clause-behind
returns-then-is_first-clause-behind g c = record {
  held =
      record {
        held = c.accept_anew-2.ensures.behind.held.held;
        cause = cause_after c.in_ok-mend.ensures.answers.goes.cause (cause_after c.in_ok-accept_anew.ensures.behind.held.cause c.in_ok-accept_anew-2.ensures.behind.held.cause);
      };
  going = first_of (search rules, grind (arith, common_steps));
}

pub returns-then-is_first-clause-goes : goal.returns-then-is_first-clause-goes
returns-then-is_first-clause-goes g c = record {
  later = later-two g (goal.at.returns-then-is_first-clause-goes g c).After-accept_anew-2;
  calm = calm-two g (goal.at.returns-then-is_first-clause-goes g c).After-accept_anew-2;
  more = more-two g (goal.at.returns-then-is_first-clause-goes g c).After-accept_anew-2;
  most =
      wrote-more (34 + 24 + 24) 94 (0 + 1072 + 1072) 2152 (devices (g.M.Medium.state c.args.unit.now) (g.C.Chip.state c.args.card_a.now) (g.D.Chip.state c.args.card_b.now)) (devices (g.M.Medium.state c.accept_anew-2.new.unit) (g.C.Chip.state c.accept_anew-2.new.card_a) (g.D.Chip.state c.accept_anew-2.new.card_b)) (omega arith) (omega arith)
      (wrote-then (34 + 24) 24 (0 + 1072) 1072 (devices (g.M.Medium.state c.args.unit.now) (g.C.Chip.state c.args.card_a.now) (g.D.Chip.state c.args.card_b.now)) (devices (g.M.Medium.state c.accept_anew.new.unit) (g.C.Chip.state c.accept_anew.new.card_a) (g.D.Chip.state c.accept_anew.new.card_b)) (devices (g.M.Medium.state c.accept_anew-2.new.unit) (g.C.Chip.state c.accept_anew-2.new.card_a) (g.D.Chip.state c.accept_anew-2.new.card_b)) (wrote-then 34 24 0 1072 (devices (g.M.Medium.state c.args.unit.now) (g.C.Chip.state c.args.card_a.now) (g.D.Chip.state c.args.card_b.now)) (devices (g.M.Medium.state c.mend.new.unit) (g.C.Chip.state c.args.card_a.now) (g.D.Chip.state c.args.card_b.now)) (devices (g.M.Medium.state c.accept_anew.new.unit) (g.C.Chip.state c.accept_anew.new.card_a) (g.D.Chip.state c.accept_anew.new.card_b)) (wrote-unit 34 0 (g.M.Medium.state c.args.unit.now) (g.M.Medium.state c.mend.new.unit) (g.C.Chip.state c.args.card_a.now) (g.D.Chip.state c.args.card_b.now) c.mend.ensures.answers.most) c.accept_anew.ensures.goes.most) c.accept_anew-2.ensures.goes.most);
}

pub returns-clause-resumed : goal.returns-clause-resumed
returns-clause-resumed g c = record {
  next = ap (λ (r : Run). r.next) c.note_gap.ensures.noted.run ∙ ap (λ (r : Run). r.next) c.accept_anew-2.ensures.accepted.run ∙ ap (λ (r : Run). r.next) c.accept_anew.ensures.accepted.run ∙ c.begin_span.ensures.begun.next;
  unfound = ap (λ (r : Run). r.unfound) c.note_gap.ensures.noted.run ∙ ap (λ (r : Run). r.unfound) c.accept_anew-2.ensures.accepted.run ∙ ap (λ (r : Run). r.unfound) c.accept_anew.ensures.accepted.run ∙ c.begin_span.ensures.begun.unfound;
  power = on_ok c.note_gap.result (λ well_. ap (λ (r : Run). r.power) c.note_gap.ensures.noted.run ∙ power-two g (both g c));
  owes =
      on_ok c.note_gap.result (λ well_.
      ap (λ (r : Run). r.minutes.owing) c.note_gap.ensures.noted.run ∙ ap (λ (r : Run). r.minutes.owing) c.accept_anew-2.ensures.accepted.run ∙ ap (λ (r : Run). r.minutes.owing) c.accept_anew.ensures.accepted.run ∙ none g (begin g c));
  refused = c.accept_anew-2.ensures.accepted.refused ∙ c.accept_anew.ensures.accepted.refused;
  uncut = gap-uncut _ _ _ _ _ _ _ c.note_gap.ensures.noted.reach.0 c.note_gap.ensures.noted.reach.1 ∙ uncut-two g (both g c);
}

pub returns-clause-promises : goal.returns-clause-promises
returns-clause-promises g c = λ room. record {
  recorded =
      λ o origin vehicle done s supply v r stay may number given values time.
      let p = premises g (begin g c) room o origin vehicle done s supply v r stay may number given values in
      goes-plain (is_err c.note_gap.result) o done s (In 0) [] (new g c) (out3 g c) (dev3 g c) (here g c p time).within.b (goes g c p time);
  evented =
      λ o origin vehicle done s supply v r stay may number given speed_is values evented limit time.
      let cards = both g c in
      let at = begin g c in
      let p = premises g at room o origin vehicle done s supply v r stay may number given values in
      let e : WithEvents g at p = record { speed_is = speed_is; evented = evented; limit = limit } in
      let past = time-two g c p time in
      let stands_so = lit g cards p past (fine g c) in
      let early : c.args.waking.journal.kept < s.number / 60 = subst (λ (n : ℕ). c.args.waking.journal.kept < n / 60) (next_is g at p) c.requires.later in
      let gap = c.note_gap.ensures.leaves.events in
      let noted_so =
      gap-woken o origin done s supply v (dev0 g at) (mended g at) r may number given c.args.waking.journal.kept evented (quiet g at) (is g at p).2 (woken g at p e).2 (woke g at p).0 (is g at p).0 (is g at p).1 (woken g at p e).0.bare
      (two g cards) (out2 g cards) (dev2 g cards) (goes-on g cards p past (fine g c)) (evented-on g cards p past (fine g c) e) (ungiven_of stands_so.span) stands_so.cabin (small g at p) (told-before g c p time) early (dev3 g c)
      (is_err c.note_gap.result) (new g c) c.note_gap.new.breaks gap.0 gap.1 (gap-events g c) gap.3 (c.note_gap.ensures.leaves.beside o done s (out2 g cards) (here g c p time) (comes g cards p past (fine g c))) in
      woken-ends o done s (here g c p time).within.b (empty g cards p past (fine g c) e) (is_err c.note_gap.result) (new g c) (out3 g c) (dev3 g c) (goes g c p time) noted_so
      (ap (λ (b : Beginning). b.run.unfound) (began g cards p past (fine g c)) ∙ began-unfound-two g cards p past ∙ sym (ap (λ (r : Run). r.unfound) c.note_gap.ensures.noted.run))
      (ap (λ (b : Beginning). b.run.next) (began g cards p past (fine g c)) ∙ began-next-two g cards p past ∙ sym (ap (λ (r : Run). r.next) c.note_gap.ensures.noted.run))
      (ap (λ (m : UnitFacts). m.limit) (stays g c) ∙ limit-two g cards p past e)
      (begun-watched o c.args.waking.rule (run g at) (mid g at) (new g c) c.mend.new.journal c.begin_span.ensures.begun limit (ap (λ (r : Run). r.watch) c.note_gap.ensures.noted.run ∙ (same-two g cards).1 ∙ (same-one g (driver g cards)).1)) (log_of (out g at)) (began-here g cards p past (fine g c));
  ringed =
      λ o origin vehicle done s supply v r stay may number given values spans seats ringed counted off time.
      let cards = both g c in
      let at = begin g c in
      let p = premises g at room o origin vehicle done s supply v r stay may number given values in
      let q : WithRings g at p = record { spans = spans; seats = seats; ringed = ringed; counted = counted; off = off } in
      let past = time-two g c p time in
      let began_so = began g cards p past (fine g c) in
      let rings = subst (λ (b : Beginning). RingsWithin o done s b.run.log [] (two g cards) (log_of (out2 g cards)) spans (told g at p q) (dev2 g cards)) (sym began_so)
      (subst (λ (f : Bool). RingsGoOn f o done s (woke g at p).0 [] (two g cards) (log_of (out2 g cards)) spans (told g at p q) (dev2 g cards)) (fine g c) (ringed-two g cards p past q)) in
      let gone : RingsGoOn (is_err c.note_gap.result) o done s (woke g at p).0 [] (new g c) (log_of (out3 g c)) spans (told g at p q) (dev3 g c) =
      subst (λ (b : Beginning). RingsGoOn (is_err c.note_gap.result) o done s b [] (new g c) (log_of (out3 g c)) spans (told g at p q) (dev3 g c)) began_so
      (c.note_gap.ensures.promises.ringed o done s (out2 g cards) (here g c p time) (comes g cards p past (fine g c)) spans (told g at p q) rings) in
      rings-then g at p q (is_err c.note_gap.result) (new g c) (out3 g c) (dev3 g c) gone (λ fails. subst (λ (f : Bool). GoesOnOrFails f o done s (In 0) [] (new g c) (out3 g c) (dev3 g c) (here g c p time).within.b) fails (goes g c p time))
      (ap (λ (r : Run). r.power) c.note_gap.ensures.noted.run ∙ power-two g cards) (ap (λ (r : Run). r.unfound) c.note_gap.ensures.noted.run ∙ unfound-two g cards)
      (λ well_three. goes-odometer (is_err c.note_gap.result) o done s (In 0) [] (new g c) (out3 g c) (dev3 g c) (here g c p time).within.b (goes g c p time) well_three ∙ ap (λ (b : Beginning). odometer_after (odometer_at o.recording.unit) b.travel.before) began_so ∙ sym (woke g at p).1.odometer);
  cards =
      λ o origin done s supply v r stay may number given speed_is values evented limit vehicle shown time.
      let cards = both g c in
      let at = begin g c in
      let p = premises g at room o origin vehicle done s supply v r stay may number given values in
      let e : WithEvents g at p = record { speed_is = speed_is; evented = evented; limit = limit } in
      let past = time-two g c p time in
      let stands_so = lit g cards p past (fine g c) in
      let x = here g c p time in
      let here_is : (two g cards).next ≡ s.number = x.within.next ∙ sym x.within.moment.number in
      let same_gap : gap_of c.args.waking.journal.kept s.number ≡ gap_of c.last_kept-kept.result (two g cards).next = ap (λ (n : ℕ). gap_of n s.number) (sym c.last_kept-kept.ensures.kept) ∙ ap (gap_of c.last_kept-kept.result) (sym here_is) in
      woken-all (is_err c.note_gap.result) o done s x.within.b.run.log (log_of (out g at)) (new g c) (log_of (out3 g c)) (dev3 g c) (began-here g cards p past (fine g c)) (ap (λ (m : UnitFacts). m.registration) (stays g c) ∙ vehicle-two g cards o vehicle)
      (gap-shown o done s (two g cards) (out2 g cards) (dev2 g cards) (dev3 g c) x (ungiven_of stands_so.span) stands_so.cabin (off-here g cards p past (fine g c)) (bare-here g cards p past (fine g c) e) (positive g at p) (gap_of c.last_kept-kept.result (two g cards).next)
      (λ crew. some-list o done s supply v (dev0 g at) (mended g at) r may number given c.args.waking.journal.kept evented (quiet g at) (is g at p).2 (woken g at p e).2 x.within.b.run.log (log-here g cards p past (fine g c)) (told-before g c p time) crew ∙ ap (λ (q : Option Span). gap_list q crew) same_gap)
      (vehicle-two g cards o vehicle) (cards-here g cards p past (fine g c) speed_is vehicle shown)
      (is_err c.note_gap.result) (new g c) c.note_gap.new.breaks c.note_gap.ensures.noted.reach.0 c.note_gap.ensures.noted.reach.1
      (stood-later o done s (In 0) [] None [] (values_of (two g cards) (out2 g cards)) (dev2 g cards) x.within (dev3 g c) c.note_gap.ensures.goes.later) (c.note_gap.ensures.leaves.beside o done s (out2 g cards) x (comes g cards p past (fine g c))).0
      (λ fails. (subst (λ (f : Bool). GoesOnOrFails f o done s (In 0) [] (new g c) (out3 g c) (dev3 g c) x.within.b) fails (goes g c p time)).within.moment.up_to.uncut) c.note_gap.ensures.leaves.card_events);
  stands =
      λ o origin done s supply v r stay may number given speed_is values evented limit vehicle time.
      let cards = both g c in
      let at = begin g c in
      let p = premises g at room o origin vehicle done s supply v r stay may number given values in
      let past = time-two g c p time in
      let x = here g c p time in
      let two_ = stands-two g cards p past speed_is vehicle in
      let gap_ = gap-stands o done s (two g cards) (out2 g cards) (dev2 g cards) (dev3 g c) x (positive g at p) (gap_of c.last_kept-kept.result (two g cards).next) (is_err c.note_gap.result) (new g c) c.note_gap.new.breaks c.note_gap.ensures.noted.reach.0 c.note_gap.ensures.noted.reach.1
      c.note_gap.ensures.leaves.places (c.note_gap.ensures.leaves.beside o done s (out2 g cards) x (comes g cards p past (fine g c))).0 in
      (stand-then o (dev0 g at) (dev2 g cards) (dev3 g c) two_.0 gap_.0, tells-then (log_of (out g at)) (log_of (out2 g cards)) (log_of (out3 g c)) done two_.1 gap_.1);
}

pub returns-clause-behind : goal.returns-clause-behind
returns-clause-behind g c = record {
  held =
      record {
        held = c.note_gap.ensures.behind.held.held;
        cause = cause_after c.in_ok-mend.ensures.answers.goes.cause (cause_after c.in_ok-accept_anew.ensures.behind.held.cause (cause_after c.in_ok-accept_anew-2.ensures.behind.held.cause c.note_gap.ensures.behind.held.cause));
      };
  going = first_of (search rules, grind (arith, common_steps));
}

pub returns-clause-goes : goal.returns-clause-goes
returns-clause-goes g c = record {
  later = later-then (dev0 g (begin g c)) (dev2 g (both g c)) (dev3 g c) (later-two g (both g c)) c.note_gap.ensures.goes.later;
  calm = calm-then (dev0 g (begin g c)) (dev2 g (both g c)) (dev3 g c) (calm-two g (both g c)) c.note_gap.ensures.goes.calm;
  more =
      let cards = more-two g (both g c) in
      let gap = c.note_gap.ensures.goes.more in
      omega (arith, cards, gap);
  most =
      wrote-more (34 + 24 + 24 + 12) 94 (0 + 1072 + 1072 + 8) 2152 (devices (g.M.Medium.state c.args.unit.now) (g.C.Chip.state c.args.card_a.now) (g.D.Chip.state c.args.card_b.now)) (devices (g.M.Medium.state c.note_gap.new.unit) (g.C.Chip.state c.note_gap.new.card_a) (g.D.Chip.state c.note_gap.new.card_b)) (omega arith) (omega arith)
      (wrote-then (34 + 24 + 24) 12 (0 + 1072 + 1072) 8 (devices (g.M.Medium.state c.args.unit.now) (g.C.Chip.state c.args.card_a.now) (g.D.Chip.state c.args.card_b.now)) (devices (g.M.Medium.state c.accept_anew-2.new.unit) (g.C.Chip.state c.accept_anew-2.new.card_a) (g.D.Chip.state c.accept_anew-2.new.card_b)) (devices (g.M.Medium.state c.note_gap.new.unit) (g.C.Chip.state c.note_gap.new.card_a) (g.D.Chip.state c.note_gap.new.card_b))
      (wrote-then (34 + 24) 24 (0 + 1072) 1072 (devices (g.M.Medium.state c.args.unit.now) (g.C.Chip.state c.args.card_a.now) (g.D.Chip.state c.args.card_b.now)) (devices (g.M.Medium.state c.accept_anew.new.unit) (g.C.Chip.state c.accept_anew.new.card_a) (g.D.Chip.state c.accept_anew.new.card_b)) (devices (g.M.Medium.state c.accept_anew-2.new.unit) (g.C.Chip.state c.accept_anew-2.new.card_a) (g.D.Chip.state c.accept_anew-2.new.card_b)) (wrote-then 34 24 0 1072 (devices (g.M.Medium.state c.args.unit.now) (g.C.Chip.state c.args.card_a.now) (g.D.Chip.state c.args.card_b.now)) (devices (g.M.Medium.state c.mend.new.unit) (g.C.Chip.state c.args.card_a.now) (g.D.Chip.state c.args.card_b.now)) (devices (g.M.Medium.state c.accept_anew.new.unit) (g.C.Chip.state c.accept_anew.new.card_a) (g.D.Chip.state c.accept_anew.new.card_b)) (wrote-unit 34 0 (g.M.Medium.state c.args.unit.now) (g.M.Medium.state c.mend.new.unit) (g.C.Chip.state c.args.card_a.now) (g.D.Chip.state c.args.card_b.now) c.mend.ensures.answers.most) c.accept_anew.ensures.goes.most) c.accept_anew-2.ensures.goes.most) c.note_gap.ensures.goes.most);
}
