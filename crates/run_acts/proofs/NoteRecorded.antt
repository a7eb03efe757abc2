-- A note at a moment of a second: what is recorded behind it.
use Rattle.std.proofs.Common.{◌≡◌, ◌∙◌, ◌⊎◌, inl, inr, ⊎_elim, ℕ, suc, ◌+◌, ◌/◌, ◌^◌, ◌<◌, ◌≤◌, Bool, true, false, Option, Some, None, List, [], ◌∷◌, ◌++◌, is_some, length, refl, ap, sym, subst, arith, append-nil}
use Rattle.std.specs.Prelude.{IfSome}
use Rattle.std.specs.List.{AllByRecursion}
use Rattle.std.proofs.lemmas.Bool.{cases_lt}
use Rattle.trace_model.specs.declared.Card.{Card}
use Rattle.trace_model.specs.declared.Card.TheVariants.{A, B}
use Rattle.trace_model.specs.declared.Action.{Action}
use Rattle.trace_model.specs.declared.Action.TheVariants.{Place}
use Rattle.trace_model.specs.Trace.{TraceSecond}
use Rattle.log_model.specs.run_model.declared.Device.TheVariants.{Unit as Recorder}
use Rattle.activity_codec.specs.declared.values.Slot.{Slot}
use Rattle.tach_media.specs.Medium.{State, IsCoherent, LeavesOnly, HasCause, HasBroken, Rose, last_count}
use Rattle.card_files.specs.card_layout.declared.files.TheConstants.{LARGEST_IMAGE}
use Rattle.device_calls.specs.card_session.Sessions.{IsValue}
use Rattle.hand_model.specs.card_image.Own.{IsOwnValid}
use Rattle.device_calls.specs.Times.{AreTimedSince}
use Rattle.unit_model.specs.minute_model.declared.Minute.{Minute}
use Rattle.unit_model.specs.minute_model.Span.{Span, end_of, ungiven_of}
use Rattle.unit_model.proofs.minute_model.Counted.{ungiven-most}
use Rattle.minute_rules.specs.Kept.{Kept, CountsSpan}
use Rattle.log_model.specs.declared.lines.Break.{Break}
use Rattle.log_model.specs.declared.lines.Break.TheVariants.{Tear}
use Rattle.log_model.specs.Log.{Phase, In, phase_of, RunLog}
use Rattle.log_model.specs.Causes.{RoseBy, device_of, second_of}
use Rattle.log_model.specs.Course.{Visit, Went, went}
use Rattle.unit_notes.specs.Journal.{LeavesJournal}
use Rattle.unit_model.specs.Image.{odometer_at}
use Rattle.device_calls.specs.unit_rule.Odometer.{odometer_after, HasTravelled}
use Rattle.device_calls.specs.run_unit_course.Legs.{all_travelled}
use Rattle.device_calls.specs.safety_model.Safe.{Devices, card_of, breakdowns_of}
use Rattle.log_model.specs.Slots.{refusal, other_slot}
use Rattle.run_crew.specs.card_slots.Calls.{seat_in, card_in, logged}
use Rattle.device_calls.specs.CardNotes.{IsNote}
use Rattle.run_crew.specs.declared.cards.Accepted.{Accepted}
use Rattle.run_crew.specs.declared.cards.Cards.{Cards}
use Rattle.run_crew.specs.Cards.{session_of, with_session}
use Rattle.unit_notes.specs.event_model.declared.kinds.TheConstants.{CARD_FAULT}
use Rattle.run_events.specs.Entries.{entry_of}
use Rattle.run_crew.specs.declared.cabin.Cabin.{Cabin}
use Rattle.run_crew.specs.Cabin.{CabinIsSound, torn_out, crew_of}
use Rattle.run_minutes.specs.run_promise.Found.{found_of}
use Rattle.run_minutes.specs.run_promise.Cards.{IsUntouched}
use Rattle.run_minutes.specs.run_promise.Between.{RunLedger, devices}
use Rattle.run_events.specs.run_course.Followed.{BookFollowsRun}
use Rattle.run_events.specs.run_course.Seconds.{kept_all}
use Rattle.run_events.proofs.run_course.Logs.{went-later}
use Rattle.run_events.proofs.run_course.Steps.{went-same_}
use Rattle.run_events.specs.run_course.Moment.{goes_on}
use Rattle.run_minutes.specs.run_devices.Told.{arranged, with_standing}
use Rattle.run_minutes.proofs.run_devices.Parts.{parts-of}
use Rattle.run_minutes.proofs.run_devices.Noted.{noted-powered, noted-powerless}
use Rattle.run_minutes.proofs.run_devices.Travelled.{travelled-noted}
use Rattle.run_outcome.specs.Lines.{Listed}
use Rattle.run_outcome.specs.declared.outcome.Outcome.{Outcome}
use Rattle.run_minutes.specs.run_promise.Origin.{Origin, rule_of, start_at, first_of}
use Rattle.run_minutes.specs.declared.keeper.Moment.{Moment}
use Rattle.run_minutes.specs.Keeping.{tear_of, with_lines}
use Rattle.run_minutes.proofs.Fates.{no-lines}
use Rattle.run_record.specs.Recorded.{Values, AreThere, carried}
use Rattle.run_record.specs.Within.{Beginning, GoesOnSo, RecordInSecond, RecordAtFailure, SecondGoesOn}
use Rattle.run_record.specs.Judging.{torn_values}
use Rattle.run_record.specs.Taking.{fallen, IsCalledSeated}
use Rattle.run_record.proofs.Steps.{call-recorded, failure-recorded}
use Rattle.run_record.proofs.Acting.{place-recorded}
use Rattle.run_record.proofs.Seated.{seated-torn, seated-tear_fails}
use Rattle.run_acts.specs.declared.run.Run.{Run}
use Rattle.run_acts.specs.Power.{with_cabin}
use Rattle.run_acts.specs.Acting.{IsNotedOn, IsNotedIn, now_moment, falls_by}
use Rattle.run_acts.specs.Behind.{IsPoweredOrOff}
use Rattle.run_acts.specs.Recording.{log_of, values_of, RunWithin, ComesPower, RunGoesOn, GoesOnOrFails, GoesOnOrCut, IsNow}
use Rattle.run_acts.specs.Noting.{carried_noted, IsNoteRecorded, fall_events}
use Rattle.run_acts.proofs.Cabins.{noted_cabin}
use Rattle.run_acts.proofs.Apart.{some-one}
use Rattle.run_acts.proofs.Asked.{allowed-in}
use Rattle.run_acts.specs.Closings.{spells_of, notes_within}
use Rattle.run_acts.specs.Comings.{TellMore}
use Rattle.run_acts.specs.Truths.{truths_within, marked}
use Rattle.run_acts.specs.Stays.{sits_in, AllStay}
use Rattle.unit_notes.specs.note_model.Noted.{Note}
use Rattle.run_acts.proofs.Stays.{stays-still}
use Rattle.run_acts.proofs.AllStay.{turns-so, all-unit, all-one, all-noted, log-self, known-still, stood-calm, stood-broken, others-left, other-apart}
use Rattle.run_acts.proofs.SeatsThen.{torn-other, torn-slot}
use Rattle.run_acts.proofs.RingedLines.{TellsBeside, phase_at, tears-beside}
use Rattle.run_acts.proofs.KeptSeats.{floor-in}
use Rattle.run_acts.proofs.FallenStays.{all-fell}
use Rattle.run_acts.proofs.TornNotes.{spells-unhurt}
use Rattle.device_calls.specs.device_rule.Views.{other}
use Rattle.run_acts.proofs.NotesThen.{place-now}
use Rattle.run_acts.proofs.NotedOn.{noted-books, noted-timed, noted-does}
use Rattle.run_events.proofs.run_course.Telling.{card-torn}
use Rattle.run_events.specs.run_course.Telling.{IsLeft, IsMore}
use Rattle.run_events.specs.run_course.Moments.{and_break}
use Rattle.run_note_record.specs.Noting.{Acting}
use Rattle.run_note_record.specs.Bringing.{NotFound}
use Rattle.run_note_record.specs.EventsSoFar.{EventedNow, MayFollow}
use Rattle.run_note_record.proofs.Adding.{call-notes}
use Rattle.run_note_record.proofs.Cutting.{failure-cuts}
use Rattle.run_note_record.proofs.Falling.{tear-adds}
use Rattle.run_acts.specs.NotedEvents.{NotesEvents}
use Rattle.run_acts.specs.Evented.{EventsGoOn}
use Rattle.run_acts.proofs.RoundFaults.{none-added}
use Rattle.run_acts.specs.ActsEvented.{IsFailing}
use Rattle.run_minutes.specs.run_promise.Beside.{HaveLeftMore}
use Rattle.run_acts.proofs.FallEvented.{call-evented, begins-now, seated-untorn, seated-out, seated-falls}
use Rattle.run_acts.proofs.Rising.{unit-more, card-more, card-fell}

-- ---- the devices

pub rose-by : (before now : ℕ) → Rose before now → RoseBy 1 before now
rose-by before now rose = ⊎_elim (λ less. inr (omega (arith, rose, less))) (λ all. inl all) (cases_lt now (before + 1))

pub rose-on : (first before now : ℕ) → first ≤ before → RoseBy 1 before now → RoseBy 1 first now
rose-on first before now le (inl low) = inl (omega (arith, le, low))
rose-on first before now le (inr top) = inr top

module _ (o : Origin) (cards : Cards) {R : List ℕ → List ℕ → Type 0} where
  -- a call on the unit
  pub unit-goes : (U V X Y : State) → o.found.unit.began ≤ U.clock → LeavesOnly U V R → GoesOnSo o cards (devices U X Y) (devices V X Y)
  unit-goes U V X Y began unit = record {
    left = record { unit = λ x h. unit.keeps o.found.unit.began x began h; card = left };
    there = λ t. record { unit = unit.tells ∙ t.unit; cards = told t; clocks = clocks t; timed = used t };
    untouched = untouched;
  }
    where
      used : AreThere o.found (devices U X Y) → (k : Card) → IsOwnValid (found_of o.found k).image → AreTimedSince (found_of o.found k).image (found_of o.found k).began (card_of (devices V X Y) k)
      used t A = t.timed A
      used t B = t.timed B

      left : (k : Card) (x : List ℕ) → (card_of (devices U X Y) k).left_since (found_of o.found k).began x → (card_of (devices V X Y) k).left_since (found_of o.found k).began x
      left A x h = h
      left B x h = h

      told : AreThere o.found (devices U X Y) → (k : Card) → is_some (card_of (devices V X Y) k).image ≡ true
      told t A = t.cards A
      told t B = t.cards B

      clocks : AreThere o.found (devices U X Y) → (k : Card) → (found_of o.found k).began ≤ (card_of (devices V X Y) k).clock
      clocks t A = t.clocks A
      clocks t B = t.clocks B

      untouched : (k : Card) → IsUntouched (found_of o.found k) (card_of (devices U X Y) k) → IsUntouched (found_of o.found k) (card_of (devices V X Y) k) ⊎ (is_some (session_of cards k) ≡ true)
      untouched A h = inl h
      untouched B h = inl h

module _ (o : Origin) (cards : Cards) {R S : List ℕ → List ℕ → Type 0} where
  -- on a card with a session, and behind it on the unit
  pub card-goes : (c : Card) (U V X Y Z : State) → o.found.unit.began ≤ U.clock → AreThere o.found (arranged c U X Z) → is_some (session_of cards c) ≡ true → LeavesOnly U V R → LeavesOnly X Y S
      → (IsOwnValid (found_of o.found c).image → AreTimedSince (found_of o.found c).image (found_of o.found c).began X → AreTimedSince (found_of o.found c).image (found_of o.found c).began Y)
      → GoesOnSo o cards (arranged c U X Z) (arranged c V Y Z)
  card-goes A U V X Y Z began there some unit card times = record {
    left = record { unit = λ x h. unit.keeps o.found.unit.began x began h; card = left };
    there = λ t. record { unit = unit.tells ∙ t.unit; cards = told t; clocks = clocks t; timed = used t };
    untouched = untouched;
  }
    where
      used : AreThere o.found (devices U X Z) → (k : Card) → IsOwnValid (found_of o.found k).image → AreTimedSince (found_of o.found k).image (found_of o.found k).began (card_of (devices V Y Z) k)
      used t A = λ valid. times valid (t.timed A valid)
      used t B = t.timed B

      left : (k : Card) (x : List ℕ) → (card_of (devices U X Z) k).left_since (found_of o.found k).began x → (card_of (devices V Y Z) k).left_since (found_of o.found k).began x
      left A x h = card.keeps o.found.card_a.began x (there.clocks A) h
      left B x h = h

      told : AreThere o.found (devices U X Z) → (k : Card) → is_some (card_of (devices V Y Z) k).image ≡ true
      told t A = card.tells ∙ t.cards A
      told t B = t.cards B

      clocks : AreThere o.found (devices U X Z) → (k : Card) → (found_of o.found k).began ≤ (card_of (devices V Y Z) k).clock
      clocks t A = let was = t.clocks A in let later = card.later in omega (arith, was, later)
      clocks t B = t.clocks B

      untouched : (k : Card) → IsUntouched (found_of o.found k) (card_of (devices U X Z) k) → IsUntouched (found_of o.found k) (card_of (devices V Y Z) k) ⊎ (is_some (session_of cards k) ≡ true)
      untouched A h = inr some
      untouched B h = inl h
  card-goes B U V X Y Z began there some unit card times = record {
    left = record { unit = λ x h. unit.keeps o.found.unit.began x began h; card = left };
    there = λ t. record { unit = unit.tells ∙ t.unit; cards = told t; clocks = clocks t; timed = used t };
    untouched = untouched;
  }
    where
      used : AreThere o.found (devices U Z X) → (k : Card) → IsOwnValid (found_of o.found k).image → AreTimedSince (found_of o.found k).image (found_of o.found k).began (card_of (devices V Z Y) k)
      used t A = t.timed A
      used t B = λ valid. times valid (t.timed B valid)

      left : (k : Card) (x : List ℕ) → (card_of (devices U Z X) k).left_since (found_of o.found k).began x → (card_of (devices V Z Y) k).left_since (found_of o.found k).began x
      left A x h = h
      left B x h = card.keeps o.found.card_b.began x (there.clocks B) h

      told : AreThere o.found (devices U Z X) → (k : Card) → is_some (card_of (devices V Z Y) k).image ≡ true
      told t A = t.cards A
      told t B = card.tells ∙ t.cards B

      clocks : AreThere o.found (devices U Z X) → (k : Card) → (found_of o.found k).began ≤ (card_of (devices V Z Y) k).clock
      clocks t A = t.clocks A
      clocks t B = let was = t.clocks B in let later = card.later in omega (arith, was, later)

      untouched : (k : Card) → IsUntouched (found_of o.found k) (card_of (devices U Z X) k) → IsUntouched (found_of o.found k) (card_of (devices V Z Y) k) ⊎ (is_some (session_of cards k) ≡ true)
      untouched A h = inl h
      untouched B h = inr some

-- ---- the record by value

-- THE RUN GOES ON, where the record does
pub run-on : (o : Origin) (done : List TraceSecond) (s : TraceSecond) (at next : Phase) (waits fewer : List Visit) (rest more : List Minute) (run new : Run) (out after : Outcome) (d e : Devices) (first : ℕ) → (w : RunWithin o done s at waits rest run out d) →
    new.power ≡ run.power → new.keeper.odometer ≡ run.keeper.odometer → new.keeper.memory.registration ≡ run.keeper.memory.registration → SecondGoesOn o done s next fewer None more (values_of new after) e w.within.b first → AllStay o (marked after.marks.items (truths_within o w.within.b.run.log done s)) s.number (log_of after) (notes_within w.within.b done s next (log_of after)) new.keeper.memory.registration new.keeper.cabin e → RunWithin o done s next fewer more new after e
run-on o done s at next waits fewer rest more run new out after d e first w power odometer vehicle g stay = record {
  origin = w.origin;
  vehicle = vehicle ∙ w.vehicle;
  lit = power ∙ w.lit;
  within = g.within;
  odometer = odometer ∙ w.odometer ∙ ap (λ (b : Beginning). odometer_after (odometer_at o.recording.unit) b.travel.before) (sym g.began);
  stay = subst (λ (b : Beginning). AllStay o (marked after.marks.items (truths_within o b.run.log done s)) s.number (log_of after) (notes_within b done s next (log_of after)) new.keeper.memory.registration new.keeper.cabin e) (sym g.began) stay;
}

-- as it began
pub goes-as : (o : Origin) (done : List TraceSecond) (s : TraceSecond) (at next : Phase) (waits fewer : List Visit) (rest : List Minute) (run new : Run) (out after : Outcome) (d e : Devices) (first : ℕ) → (w : RunWithin o done s at waits rest run out d) →
    new.power ≡ run.power → new.keeper.odometer ≡ run.keeper.odometer → new.keeper.memory.registration ≡ run.keeper.memory.registration → SecondGoesOn o done s next fewer None [] (values_of new after) e w.within.b first → AllStay o (marked after.marks.items (truths_within o w.within.b.run.log done s)) s.number (log_of after) (notes_within w.within.b done s next (log_of after)) new.keeper.memory.registration new.keeper.cabin e → RunGoesOn o done s next fewer new after e w.within.b
unfolding run-on
goes-as o done s at next waits fewer rest run new out after d e first w power odometer vehicle g stay = record {
  goes = run-on o done s at next waits fewer rest [] run new out after d e first w power odometer vehicle g stay;
  began = g.began;
}

-- how it began need not be told
pub goes-plain : (failed : Bool) (o : Origin) (done : List TraceSecond) (s : TraceSecond) (at : Phase) (waits : List Visit) (run : Run) (out : Outcome) (d : Devices) (b : Beginning) → GoesOnOrFails failed o done s at waits run out d b → GoesOnOrCut failed o done s at waits run out d
goes-plain false o done s at waits run out d b h = h.goes
goes-plain true o done s at waits run out d b h = h

-- THE SECONDS BEFORE went the same by the log of a second that is going on, also with more lines of that second
module _ (o : Origin) (done : List TraceSecond) (s : TraceSecond) (at : Phase) (waits : List Visit) (rest : List Minute) (run : Run) (out : Outcome) (d : Devices) (w : RunWithin o done s at waits rest run out d) where
  abbrev f : BookFollowsRun (rule_of o) (start_at o) o.from (first_of o) done w.within.b.run
  f = w.within.began.followed

  pub same-course : went (log_of out) done ≡ went w.within.b.run.log done
  same-course = went-same_ (rule_of o) (start_at o) o.from (first_of o) done w.within.b.run f.order f.next f.unfound s (log_of out) (goes_on w.within.moment)

  pub power-still : (more : List Break) → AllByRecursion (λ (b : Break). second_of b ≡ s.number) more → ComesPower done out → ComesPower done (record out { breaks = with_lines more out.breaks })
  power-still more each comes =
      let next = f.next in
      let number = w.within.moment.number in
      ap (λ (x : Went). x.before.running) (went-later (log_of out) (log_of (record out { breaks = with_lines more out.breaks })) s.number more refl each [] (sym (append-nil out.finds.items)) tt o.from done f.order (omega (arith, next, number))) ∙ comes

-- The first minute that is still to be kept is no later than this one, and one of the last five.
module _ (o : Origin) (done : List TraceSecond) (s : TraceSecond) (at : Phase) (waits : List Visit) (run : Run) (out : Outcome) (d : Devices) (w : RecordInSecond o done s at waits None [] (values_of run out) d) (span : Span) (stands : CountsSpan run.minutes span) (ends : end_of span ≡ run.next) where
  pub number : s.number ≡ run.next
  number = w.moment.number ∙ sym w.next

  same-end : end_of w.sp ≡ end_of span
  same-end = sym (ap (λ (k : Kept). k.next) w.minutes.kept) ∙ ap (λ (k : Kept). k.next) stands.kept

  pub from-low : w.from ≤ s.number / 60
  from-low = let most = ungiven-most w.sp w.minutes.settled in let to = w.until in let n = number in let e = same-end in omega (arith, most, to, n, e, ends)

-- ---- A NOTE ON THE UNIT

module _ (o : Origin) (done : List TraceSecond) (s : TraceSecond) (n : ℕ) (run : Run) (out : Outcome) (U V X Y : State) (whole : IsCoherent U) (unit : LeavesOnly U V LeavesJournal) (span : Span) (stands : CountsSpan run.minutes span) (ends : end_of span ≡ run.next)
    (w : RunWithin o done s (In n) [] [] run out (devices U X Y)) where
  abbrev noted-carries : RunLedger
  noted-carries = carried (values_of run out) w.within.due (kept_all w.within.new w.within.b.run.book) w.within.standing w.within.brought w.within.hands w.within.firsts

  unit-began : o.found.unit.began ≤ U.clock
  unit-began = (w.within.powered.lit.unit.unit_holds [] []).later

  pub unit-recorded : (failed : Bool) → HasCause U V failed → (failed ≡ false → TellMore [] U V) → GoesOnOrFails failed o done s (In n) [] run out (devices V X Y) w.within.b
  unit-recorded false cause go = goes-as o done s (In n) (In n) [] [] [] run run out out (devices U X Y) (devices V X Y) w.within.from w refl refl refl
      (call-recorded (devices U X Y) (devices V X Y) o done s (In n) [] None [] (values_of run out) w.within (record {
        goes = unit-goes o run.keeper.cabin.cards U V X Y unit-began unit;
        breakdowns = unit-more U V X Y cause.breakdowns;
        powered = noted-powered o.found noted-carries run.keeper.cabin.cards U V X Y w.within.found whole w.within.powered unit cause.works;
        travels = travelled-noted (odometer_at o.recording.unit) noted-carries.book (all_travelled w.within.ds w.within.b.travel) w.within.travels whole unit;
      }))
      (all-unit o (marked out.marks.items (truths_within o w.within.b.run.log done s)) s.number (log_of out) (notes_within w.within.b done s (In n) (log_of out)) run.keeper.memory.registration run.keeper.cabin U V X Y (go refl) w.stay)
  unit-recorded true cause go = record {
    waits = [];
    cabin = run.keeper.cabin;
    same = refl;
    odometer = run.keeper.odometer;
    counted = λ lit. refl;
    vehicle = w.vehicle;
    within = failure-recorded (devices U X Y) (devices V X Y) o done s (In n) [] None [] (values_of run out) w.within (record {
      goes = unit-goes o run.keeper.cabin.cards U V X Y unit-began unit;
      breakdowns = unit-more U V X Y cause.breakdowns;
      broke = rose-on (w.within.b.broken Recorder) U.breakdowns V.breakdowns w.within.moment.unit (rose-by U.breakdowns V.breakdowns (cause.breaks w.within.powered.lit.works refl));
      unfed = λ _. refl;
      feeds = λ keeping. absurd (cc);
      lost = None;
      others = [];
      parts = refl;
      due = w.within.due;
      due_later = omega arith;
      due_late = let late = w.within.late in let low = from-low o done s (In n) [] run out (devices U X Y) w.within span stands ends in omega (arith, late, low);
      low = from-low o done s (In n) [] run out (devices U X Y) w.within span stands ends;
      standing = w.within.standing;
      powerless = noted-powerless o.found noted-carries run.keeper.cabin.cards U V X Y w.within.found whole w.within.powered unit;
      travels = travelled-noted (odometer_at o.recording.unit) noted-carries.book (all_travelled w.within.ds w.within.b.travel) w.within.travels whole unit;
    });
  }

  -- and where it tells of no event the events stay
  pub unit-evented : (actions : List Action) → IsLeft s (In n) actions → (failed : Bool) → HasCause U V failed → NotesEvents [] failed (devices U X Y) (devices V X Y) → EventedNow o done s w.within.b.run Acting (log_of out) (devices U X Y) →
      EventsGoOn failed o done s w.within.b.run (In n) Acting (log_of out) (devices V X Y)
  unit-evented actions left failed cause notes now =
      call-evented (devices U X Y) (devices V X Y) (call-notes (devices U X Y) (devices V X Y)) (failure-cuts (devices U X Y) (devices V X Y)) o w.origin.long done s w.within.b.run w.within.b.span
      (begins-now o w.origin done s (In n) (values_of run out) (devices U X Y) w.within) (In n) (log_of out) (log_of out) [] now (none-added o done s (log_of out) (log_of out) (devices V X Y) refl)
      (unit-goes o run.keeper.cabin.cards U V X Y unit-began unit).left failed notes
      (λ bad. record {
        waits = [];
        mid = w.within.b.broken;
        now = breakdowns_of (devices U X Y);
        moment = w.within.moment;
        more = unit-more U V X Y cause.breakdowns;
        rose = rose-on (w.within.b.broken Recorder) U.breakdowns V.breakdowns w.within.moment.unit (rose-by U.breakdowns V.breakdowns (cause.breaks w.within.powered.lit.works bad));
        rest = actions;
        left = left;
      })

  -- what was left might be left still
  pub unit-leaves : (actions : List Action) → IsLeft s (In n) actions → (failed : Bool) → HasCause U V failed →
      HaveLeftMore o (devices U X Y) (devices V X Y) × (failed ≡ true → IsFailing o done s w.within.b.run (In n) (log_of out) (breakdowns_of (devices V X Y)))
  unit-leaves actions left failed cause = (
    (unit-goes o run.keeper.cabin.cards U V X Y unit-began unit).left,
    λ bad. record {
      waits = [];
      mid = w.within.b.broken;
      now = breakdowns_of (devices U X Y);
      moment = w.within.moment;
      more = unit-more U V X Y cause.breakdowns;
      rose = rose-on (w.within.b.broken Recorder) U.breakdowns V.breakdowns w.within.moment.unit (rose-by U.breakdowns V.breakdowns (cause.breaks w.within.powered.lit.works bad));
      rest = actions;
      left = left;
    },
  )

-- one call behind the other
pub left-then : (o : Origin) (d e f : Devices) → HaveLeftMore o d e → HaveLeftMore o e f → HaveLeftMore o d f
left-then o d e f h k = record { unit = λ x was. k.unit x (h.unit x was); card = λ card x was. k.card card x (h.card card x was) }

-- ---- A NOTE ON A CARD, and where that failed its tear, which is noted on the unit

-- the unit among three devices
pub unit-of : (c : Card) (U X Z : State) (P : State → Type 0) → P (arranged c U X Z).unit → P U
unit-of A U X Z P h = h
unit-of B U X Z P h = h

pub to-unit : (c : Card) (U X Z : State) (P : State → Type 0) → P U → P (arranged c U X Z).unit
to-unit A U X Z P h = h
to-unit B U X Z P h = h

module _ (c : Card) (slot : Slot) (at : Moment) (run : Run) (breaks : Listed Break) (U V X Y Z : State) (unit_whole : IsCoherent U) (whole : IsCoherent X) (later : IsCoherent Y) (size : LARGEST_IMAGE ≤ X.size) (a : Accepted) (value : IsValue a.session)
    (has : session_of run.keeper.cabin.cards c ≡ Some a) (seat : card_in (seat_in run.keeper.cabin.slots.seats slot) ≡ Some c) (second : at.second ≡ run.next) (late : at.late ≡ false) (span : Span) (stands : CountsSpan run.minutes span) (ends : end_of span ≡ run.next) (cabin : CabinIsSound (ungiven_of span) None run.keeper.cabin)
    (card : LeavesOnly X Y (IsNote a.session.application)) (unit : LeavesOnly U V LeavesJournal) (failed : Bool) (cause : HasCause U V failed) where
  abbrev d : Devices
  d = arranged c U X Z

  abbrev e : Devices
  e = arranged c V Y Z

  module _ (o : Origin) (done : List TraceSecond) (s : TraceSecond) (out : Outcome) (w : RunWithin o done s (In at.begun) [] [] run (record out { breaks = breaks }) d) (first : In at.begun ≡ In 0 → ComesPower done (record out { breaks = breaks })) where
    abbrev v : Values
    v = values_of run (record out { breaks = breaks })

    abbrev carries : RunLedger
    carries = carried v w.within.due (kept_all w.within.new w.within.b.run.book) w.within.standing w.within.brought w.within.hands w.within.firsts

    -- what was noted so far
    abbrev here-notes : List Note
    here-notes = notes_within w.within.b done s (In at.begun) (log_of (record out { breaks = breaks }))

    began : o.found.unit.began ≤ U.clock
    began = ((parts-of o.found carries run.keeper.cabin.cards c U X Z w.within.powered).unit.unit.unit_holds [] []).later

    goes : GoesOnSo o run.keeper.cabin.cards d e
    goes = card-goes o run.keeper.cabin.cards c U V X Y Z began w.within.there (ap is_some has) unit card
        (λ valid. noted-timed o.found carries run.keeper.cabin.cards run.keeper.cabin.cards c U X Y Z w.within.found unit_whole whole later size a value has w.within.powered card valid)

    -- the card has not broken down
    calm : HasCause X Y false → IsMore (breakdowns_of d) (breakdowns_of e)
    calm on_card = card-more c U V X Y Z cause.breakdowns (on_card.unbroken refl)

    travels : HasTravelled (odometer_at o.recording.unit) carries.book (all_travelled w.within.ds w.within.b.travel) e.unit
    travels = to-unit c V Y Z (λ (u : State). HasTravelled (odometer_at o.recording.unit) carries.book (all_travelled w.within.ds w.within.b.travel) u)
        (travelled-noted (odometer_at o.recording.unit) carries.book (all_travelled w.within.ds w.within.b.travel)
        (unit-of c U X Z (λ (u : State). HasTravelled (odometer_at o.recording.unit) carries.book (all_travelled w.within.ds w.within.b.travel) u) w.within.travels) unit_whole unit)

    broke : failed ≡ true → RoseBy 1 (w.within.b.broken Recorder) (breakdowns_of e Recorder)
    broke bad = to-unit c V Y Z (λ (u : State). RoseBy 1 (w.within.b.broken Recorder) u.breakdowns)
        (rose-on (w.within.b.broken Recorder) U.breakdowns V.breakdowns (unit-of c U X Z (λ (u : State). w.within.b.broken Recorder ≤ u.breakdowns) w.within.moment.unit)
        (rose-by U.breakdowns V.breakdowns (cause.breaks (parts-of o.found carries run.keeper.cabin.cards c U X Z w.within.powered).unit.works bad)))

    low : w.within.from ≤ s.number / 60
    low = from-low o done s (In at.begun) [] run (record out { breaks = breaks }) d w.within span stands ends

    here : at.second ≡ s.number
    here = second ∙ sym (number o done s (In at.begun) [] run (record out { breaks = breaks }) d w.within span stands ends)

    books : (fell : Bool) → HasCause X Y fell → (floor : ℕ) → IsPoweredOrOff failed o.found (carried_noted fell c floor carries) (noted_cabin fell c at.second run).cards e
    books fell on_card floor = noted-books c at.second run U V X Y Z unit_whole whole later size a value has card unit failed cause.works fell on_card o.found carries floor w.within.found w.within.powered

    -- it is there
    still : (failed ≡ false → TellMore [] U V) → HasCause X Y false → (b : Bool) → failed ≡ b → IsPoweredOrOff b o.found carries run.keeper.cabin.cards e → GoesOnOrFails b o done s (In at.begun) [] run (record out { breaks = breaks }) e w.within.b
    still go on_card false is powered = goes-as o done s (In at.begun) (In at.begun) [] [] [] run run (record out { breaks = breaks }) (record out { breaks = breaks }) d e w.within.from w refl refl refl
        (call-recorded d e o done s (In at.begun) [] None [] v w.within (record { goes = goes; breakdowns = calm on_card; powered = powered; travels = travels }))
        (all-one o (marked out.marks.items (truths_within o w.within.b.run.log done s)) s.number c (log_of (record out { breaks = breaks })) (log_of (record out { breaks = breaks })) here-notes here-notes run.keeper.memory.registration run.keeper.cabin run.keeper.cabin U V X Y Z (λ whose known. known-still whose o (log_of (record out { breaks = breaks })) d e (stood-calm o d e (calm on_card)) known) refl refl (λ slot there. there) (λ whose known in_. refl) (λ whose known in_ was. was)
        (λ whose known in_ held. turns-so whose (marked out.marks.items (truths_within o w.within.b.run.log done s)) c s.number (found_of o.found c) (log_of (record out { breaks = breaks })) run.keeper.memory.registration (spells_of c here-notes) (sits_in run.keeper.cabin.slots.seats c) (session_of run.keeper.cabin.cards c) (session_of run.keeper.cabin.cards c) U V X Y (λ all. all) (λ all is. is) (λ all. refl) (go is) (λ all lines. refl) (λ all lines waits was. was) (λ valid some. some) (held.stays c) (held.since c)
        (λ valid h. stays-still s.number (found_of o.found c) run.keeper.memory.registration (spells_of c here-notes) (sits_in run.keeper.cabin.slots.seats c) (held.stays c) (session_of run.keeper.cabin.cards c) X Y (noted-does o.found carries run.keeper.cabin.cards run.keeper.cabin.cards c U X Y Z w.within.found unit_whole whole later size a value has w.within.powered card valid) h) (λ only shown all. all)) (λ whose known out_. inl refl) w.stay)
    still go on_card true is powerless = record {
      waits = [];
      cabin = run.keeper.cabin;
      same = refl;
      odometer = run.keeper.odometer;
      counted = λ lit. refl;
      vehicle = w.vehicle;
      within = failure-recorded d e o done s (In at.begun) [] None [] v w.within (record {
        goes = goes;
        breakdowns = calm on_card;
        broke = broke is;
        unfed = λ _. refl;
        feeds = λ keeping. absurd (cc);
        lost = None;
        others = [];
        parts = refl;
        due = w.within.due;
        due_later = omega arith;
        due_late = let due = w.within.late in let from = low in omega (arith, due, from);
        low = low;
        standing = w.within.standing;
        powerless = powerless;
        travels = travels;
      });
    }

    -- or the card fell
    called : HasCause X Y true → HasBroken X Y 1 → IsCalledSeated o done s (In at.begun) v d e w.within slot c (tear_of slot at)
    called on_card broken = record {
      sits_ = seat;
      session = ap is_some has;
      low = ungiven_of span;
      stands = cabin;
      here = (at.begun, at.late, ap (λ (n : ℕ). Tear n slot true at.begun at.late) here, ap (λ (l : Bool). phase_of at.begun l) late, w.within.moment.is, λ yes. absurd (cc));
      power = λ now. sym (ap (λ (x : Went). x.before.running) (same-course o done s (In at.begun) [] [] run (record out { breaks = breaks }) d w)) ∙ first now;
      broke = card-fell c U V X Y Z cause.breakdowns (rose-by X.breakdowns Y.breakdowns broken.breakdowns);
      goes = goes;
      travels = travels;
    }

    -- the stays of the other card are as they were
    abbrev fell_log : RunLog
    fell_log = log_of (record out { breaks = with_lines (tear_of slot at ∷ []) breaks })

    beside-fell : TellsBeside (log_of (record out { breaks = breaks })) fell_log s.number (In at.begun)
    beside-fell =
        subst (λ (p : Phase). TellsBeside (log_of (record out { breaks = breaks })) fell_log s.number p) (ap (λ (l : Bool). phase_of at.begun l) late)
        (subst (λ (u : ℕ). TellsBeside (log_of (record out { breaks = breaks })) fell_log u (phase_at at)) here (tears-beside at (tear_of slot at ∷ []) (log_of (record out { breaks = breaks })) fell_log refl ((slot, refl), tt)))

    fell-stay : HasBroken X Y 1 → SecondGoesOn o done s (In at.begun) [] None [] (torn_values (tear_of slot at) (torn_out c at.second run.keeper.cabin) v) e w.within.b w.within.from →
        AllStay o (marked out.marks.items (truths_within o w.within.b.run.log done s)) s.number fell_log (notes_within w.within.b done s (In at.begun) fell_log) run.keeper.memory.registration (torn_out c at.second run.keeper.cabin) e
    fell-stay broken g =
        let floor = λ (k : Card) (low_ : o.breakdowns (device_of k) < last_count). floor-in o done s (In at.begun) [] None [] v d w.within k low_ in
        all-fell o (marked out.marks.items (truths_within o w.within.b.run.log done s)) s.number c (log_of (record out { breaks = breaks })) fell_log slot at refl here-notes (notes_within w.within.b done s (In at.begun) fell_log) run.keeper.memory.registration run.keeper.cabin (torn_out c at.second run.keeper.cabin) U V X Y Z floor broken
        (others-left c run.keeper.cabin.cards) (torn-other c (other c) at.second run.keeper.cabin (other-apart c)) (λ sl there. torn-slot c (other c) at.second run.keeper.cabin sl there)
        (λ k mine known. spells-unhurt o done s at.begun [] [] [] [] v (torn_values (tear_of slot at) (torn_out c at.second run.keeper.cabin) v) d e w.within g.within g.began w.within.moment.is w.within.moment.up_to.uncut beside-fell (stood-broken o 1 c U V X Y Z floor broken) k (other c) mine known)
        (inl refl) w.stay

    fell : HasCause X Y true → HasBroken X Y 1 → (b : Bool) → failed ≡ b → IsPoweredOrOff b o.found (with_standing c (fallen w.within.from (w.within.standing c)) carries) (with_session c None run.keeper.cabin.cards) e
        → GoesOnOrFails b o done s (In at.begun) [] (with_cabin (torn_out c at.second run.keeper.cabin) run) (record out { breaks = with_lines (tear_of slot at ∷ []) breaks }) e w.within.b
    fell on_card broken false is powered =
        let g : SecondGoesOn o done s (In at.begun) [] None [] (torn_values (tear_of slot at) (torn_out c at.second run.keeper.cabin) v) e w.within.b w.within.from =
        subst (λ (n : ℕ). SecondGoesOn o done s (In at.begun) [] None [] (torn_values (tear_of slot at) (torn_out c n run.keeper.cabin) v) e w.within.b w.within.from) (sym here)
        (seated-torn d e o done s (In at.begun) v w.within slot c (tear_of slot at) (called on_card broken) powered) in
        goes-as o done s (In at.begun) (In at.begun) [] [] [] run (with_cabin (torn_out c at.second run.keeper.cabin) run) (record out { breaks = breaks }) (record out { breaks = with_lines (tear_of slot at ∷ []) breaks }) d e w.within.from w refl refl refl g (fell-stay broken g)
    fell on_card broken true is powerless = record {
      waits = [];
      cabin = torn_out c at.second run.keeper.cabin;
      same = refl;
      odometer = run.keeper.odometer;
      counted = λ lit. refl;
      vehicle = w.vehicle;
      within = subst (λ (n : ℕ). RecordAtFailure o done s (In at.begun) [] None (torn_values (tear_of slot at) (torn_out c n run.keeper.cabin) v) e) (sym here)
          (seated-tear_fails d e o done s (In at.begun) v w.within slot c (tear_of slot at) (called on_card broken) powerless (broke is) (λ keeping. cc));
    }

    -- so a note that went so is recorded
    noted : (failed ≡ false → TellMore [] U V) → (fell_ : Bool) (new : Run) (after : Listed Break) → IsNotedOn c slot at run new breaks after fell_ → HasBroken X Y (falls_by fell_) → HasCause X Y fell_ → GoesOnOrFails failed o done s (In at.begun) [] new (record out { breaks = after }) e w.within.b
    noted go false new after is broken on_card =
        let same : breaks ≡ after = no-lines breaks ∙ sym is.told in
        subst (λ (r : Run). GoesOnOrFails failed o done s (In at.begun) [] r (record out { breaks = after }) e w.within.b) (sym is.run)
        (subst (λ (l : Listed Break). GoesOnOrFails failed o done s (In at.begun) [] run (record out { breaks = l }) e w.within.b) same (still go on_card failed refl (books false on_card 0)))
    noted go true new after is broken on_card =
        subst (λ (r : Run). GoesOnOrFails failed o done s (In at.begun) [] r (record out { breaks = after }) e w.within.b) (sym is.run)
        (subst (λ (l : Listed Break). GoesOnOrFails failed o done s (In at.begun) [] (with_cabin (torn_out c at.second run.keeper.cabin) run) (record out { breaks = l }) e w.within.b) (sym is.told)
        (fell on_card broken failed refl (books true on_card w.within.from)))

    -- and so go its events: a card that fell is told with its fault
    pub noted-evented : s.number < 2 ^ 32 → NotFound (In at.begun) (other_slot slot) (log_of (record out { breaks = breaks })) s.number → MayFollow (In at.begun) slot (log_of (record out { breaks = breaks })) s → (actions : List Action) → IsLeft s (In at.begun) actions →
        (fell_ : Bool) (new : Run) (after : Listed Break) → IsNotedOn c slot at run new breaks after fell_ → HasBroken X Y (falls_by fell_) → HasCause X Y fell_ → NotesEvents (fall_events fell_ at.second new) failed d e →
        EventedNow o done s w.within.b.run Acting (log_of (record out { breaks = breaks })) d → EventsGoOn failed o done s w.within.b.run (In at.begun) Acting (log_of (record out { breaks = after })) e
    noted-evented small none follows actions left false new after is broken on_card notes now =
        let log : RunLog = log_of (record out { breaks = breaks }) in
        let same : breaks ≡ after = no-lines breaks ∙ sym is.told in
        subst (λ (l : Listed Break). EventsGoOn failed o done s w.within.b.run (In at.begun) Acting (log_of (record out { breaks = l })) e) same
        (call-evented d e (call-notes d e) (failure-cuts d e) o w.origin.long done s w.within.b.run w.within.b.span (begins-now o w.origin done s (In at.begun) v d w.within) (In at.begun) log log [] now (none-added o done s log log e refl) goes.left failed notes
        (λ bad. record {
          waits = [];
          mid = w.within.b.broken;
          now = breakdowns_of d;
          moment = w.within.moment;
          more = calm on_card;
          rose = broke bad;
          rest = actions;
          left = left;
        }))
    noted-evented small none follows actions left true new after is broken on_card notes now =
        let log : RunLog = log_of (record out { breaks = breaks }) in
        let k = called on_card broken in
        let gone : Cabin = torn_out c s.number run.keeper.cabin in
        let crew_is : new.keeper.cabin ≡ gone = ap (λ (r : Run). r.keeper.cabin) is.run ∙ ap (λ (u : ℕ). torn_out c u run.keeper.cabin) here in
        let told : NotesEvents (entry_of CARD_FAULT s.number s.number (crew_of gone) (crew_of gone) ∷ []) failed d e =
        subst (λ (u : ℕ). NotesEvents (entry_of CARD_FAULT u u (crew_of gone) (crew_of gone) ∷ []) failed d e) here
        (subst (λ (b : Cabin). NotesEvents (entry_of CARD_FAULT at.second at.second (crew_of b) (crew_of b) ∷ []) failed d e) crew_is notes) in
        subst (λ (l : Listed Break). EventsGoOn failed o done s w.within.b.run (In at.begun) Acting (log_of (record out { breaks = l })) e) (sym is.told)
        (call-evented d e (call-notes d e) (failure-cuts d e) o w.origin.long done s w.within.b.run w.within.b.span (begins-now o w.origin done s (In at.begun) v d w.within) (In at.begun) log (and_break log (tear_of slot at))
        (entry_of CARD_FAULT s.number s.number (crew_of gone) (crew_of gone) ∷ []) now
        (seated-falls o w.origin done s (In at.begun) v d w.within slot c seat (ap is_some has) (ungiven_of span) cabin e (tear-adds e) (tear_of slot at) k.here none follows small)
        goes.left failed told
        (λ bad. record {
          waits = [];
          mid = w.within.b.broken;
          now = breakdowns_of e;
          moment = (card-torn w.within.b.run (went w.within.b.run.log done).before s (In at.begun) log [] w.within.b.broken (breakdowns_of d) (breakdowns_of e) w.within.moment slot (tear_of slot at) k.here k.power
              (seated-untorn o w.origin done s (In at.begun) v d w.within slot c seat (ap is_some has) (ungiven_of span) cabin) c
              (seated-out o w.origin done s (In at.begun) v d w.within slot c seat (ap is_some has) (ungiven_of span) cabin) k.broke).0;
          more = record { unit = omega arith; cards = λ card. refl };
          rose = broke bad;
          rest = actions;
          left = left;
        }))

    -- what was left might be left still, and where the unit has failed the cut may be told
    pub noted-leaves : (actions : List Action) → IsLeft s (In at.begun) actions → (fell_ : Bool) (new : Run) (after : Listed Break) → IsNotedOn c slot at run new breaks after fell_ → HasBroken X Y (falls_by fell_) → HasCause X Y fell_ →
        HaveLeftMore o d e × (failed ≡ true → IsFailing o done s w.within.b.run (In at.begun) (log_of (record out { breaks = after })) (breakdowns_of e))
    noted-leaves actions left false new after is broken on_card = (
      goes.left,
      λ bad.
          subst (λ (l : Listed Break). IsFailing o done s w.within.b.run (In at.begun) (log_of (record out { breaks = l })) (breakdowns_of e)) (no-lines breaks ∙ sym is.told)
          (record {
            waits = [];
            mid = w.within.b.broken;
            now = breakdowns_of d;
            moment = w.within.moment;
            more = calm on_card;
            rose = broke bad;
            rest = actions;
            left = left;
          }),
    )
    noted-leaves actions left true new after is broken on_card =
        let k = called on_card broken in (
          goes.left,
          λ bad.
              subst (λ (l : Listed Break). IsFailing o done s w.within.b.run (In at.begun) (log_of (record out { breaks = l })) (breakdowns_of e)) (sym is.told)
              (record {
                waits = [];
                mid = w.within.b.broken;
                now = breakdowns_of e;
                moment = (card-torn w.within.b.run (went w.within.b.run.log done).before s (In at.begun) (log_of (record out { breaks = breaks })) [] w.within.b.broken (breakdowns_of d) (breakdowns_of e) w.within.moment slot (tear_of slot at) k.here k.power
                    (seated-untorn o w.origin done s (In at.begun) v d w.within slot c seat (ap is_some has) (ungiven_of span) cabin) c
                    (seated-out o w.origin done s (In at.begun) v d w.within slot c seat (ap is_some has) (ungiven_of span) cabin) k.broke).0;
                more = record { unit = omega arith; cards = λ card. refl };
                rose = broke bad;
                rest = actions;
                left = left;
              }),
        )

  pub note-recorded : (failed ≡ false → TellMore [] U V) → (new : Run) (after : Listed Break) (fell : Bool) → IsNotedOn c slot at run new breaks after fell → HasBroken X Y (falls_by fell) → HasCause X Y fell → IsNoteRecorded (In at.begun) failed run new breaks after (arranged c U X Z) (arranged c V Y Z)
  note-recorded go new after fell is broken on_card = λ o done s out w first. noted o done s out w first go fell new after is broken on_card

-- what is noted on the card of a slot leaves power coming with the second
noted-lines : (who : Option Card) (slot : Slot) (at : Moment) (old new : Run) (breaks after : Listed Break) (fell : Bool) → IsNotedIn who slot at old new breaks after fell →
    (more : List Break) × (after ≡ with_lines more breaks) × AllByRecursion (λ (b : Break). second_of b ≡ at.second) more
noted-lines None slot at old new breaks after fell is = ([], is.1 ∙ no-lines breaks, tt)
noted-lines (Some card) slot at old new breaks after false is = ([], is.0.told, tt)
noted-lines (Some card) slot at old new breaks after true is = (tear_of slot at ∷ [], is.0.told, (refl, tt))

pub power-noted : (o : Origin) (done : List TraceSecond) (s : TraceSecond) (run new : Run) (out : Outcome) (breaks after : Listed Break) (d : Devices) (w : RunWithin o done s (In 0) [] [] run (record out { breaks = breaks }) d) (who : Option Card) (slot : Slot) (fell : Bool) →
    IsNotedIn who slot (now_moment run) run new breaks after fell → ComesPower done (record out { breaks = breaks }) → ComesPower done (record out { breaks = after })
power-noted o done s run new out breaks after d w who slot fell noted comes =
    let lines = noted-lines who slot (now_moment run) run new breaks after fell noted in
    let here : s.number ≡ run.next = w.within.moment.number ∙ sym w.within.next in
    subst (λ (l : Listed Break). ComesPower done (record out { breaks = l })) (sym lines.1)
    (power-still o done s (In 0) [] [] run (record out { breaks = breaks }) d w lines.0 (subst (λ (n : ℕ). AllByRecursion (λ (b : Break). second_of b ≡ n) lines.0) (sym here) lines.2) comes)

-- the same of a card of which only that it has a session is known
pub noted-some : (c : Card) (slot : Slot) (at : Moment) (run : Run) (breaks : Listed Break) (U V X Y Z : State) → IsCoherent U → IsCoherent X → IsCoherent Y → LARGEST_IMAGE ≤ X.size → is_some (session_of run.keeper.cabin.cards c) ≡ true →
    IfSome (session_of run.keeper.cabin.cards c) (λ a. IsValue a.session) → card_in (seat_in run.keeper.cabin.slots.seats slot) ≡ Some c → at.second ≡ run.next → at.late ≡ false →
    (span : Span) → CountsSpan run.minutes span → end_of span ≡ run.next → CabinIsSound (ungiven_of span) None run.keeper.cabin →
    IfSome (session_of run.keeper.cabin.cards c) (λ a. LeavesOnly X Y (IsNote a.session.application)) → LeavesOnly U V LeavesJournal → (failed : Bool) → HasCause U V failed → (failed ≡ false → TellMore [] U V) →
    (new : Run) (after : Listed Break) (fell : Bool) → IsNotedOn c slot at run new breaks after fell → HasBroken X Y (falls_by fell) → HasCause X Y fell → IsNoteRecorded (In at.begun) failed run new breaks after (arranged c U X Z) (arranged c V Y Z)
noted-some c slot at run breaks U V X Y Z unit_whole whole later size some value seat second late span stands ends cabin card unit failed cause go new after fell is broken on_card =
    let one = some-one (session_of run.keeper.cabin.cards c) some in
    note-recorded c slot at run breaks U V X Y Z unit_whole whole later size one.0 (subst (λ (o : Option Accepted). IfSome o (λ a. IsValue a.session)) one.1 value) one.1 seat second late span stands ends cabin
    (subst (λ (o : Option Accepted). IfSome o (λ a. LeavesOnly X Y (IsNote a.session.application))) one.1 card) unit failed cause go new after fell is broken on_card

pub some-evented : (c : Card) (slot : Slot) (at : Moment) (run : Run) (breaks : Listed Break) (U V X Y Z : State) → IsCoherent U → IsCoherent X → IsCoherent Y → LARGEST_IMAGE ≤ X.size → is_some (session_of run.keeper.cabin.cards c) ≡ true →
    IfSome (session_of run.keeper.cabin.cards c) (λ a. IsValue a.session) → card_in (seat_in run.keeper.cabin.slots.seats slot) ≡ Some c → at.second ≡ run.next → at.late ≡ false →
    (span : Span) → CountsSpan run.minutes span → end_of span ≡ run.next → CabinIsSound (ungiven_of span) None run.keeper.cabin →
    IfSome (session_of run.keeper.cabin.cards c) (λ a. LeavesOnly X Y (IsNote a.session.application)) → LeavesOnly U V LeavesJournal → (failed : Bool) → HasCause U V failed →
    (o : Origin) (done : List TraceSecond) (s : TraceSecond) (out : Outcome) (w : RunWithin o done s (In at.begun) [] [] run (record out { breaks = breaks }) (arranged c U X Z)) → (In at.begun ≡ In 0 → ComesPower done (record out { breaks = breaks })) → s.number < 2 ^ 32 →
    NotFound (In at.begun) (other_slot slot) (log_of (record out { breaks = breaks })) s.number → MayFollow (In at.begun) slot (log_of (record out { breaks = breaks })) s → (actions : List Action) → IsLeft s (In at.begun) actions →
    (fell : Bool) (new : Run) (after : Listed Break) → IsNotedOn c slot at run new breaks after fell → HasBroken X Y (falls_by fell) → HasCause X Y fell → NotesEvents (fall_events fell at.second new) failed (arranged c U X Z) (arranged c V Y Z) →
    EventedNow o done s w.within.b.run Acting (log_of (record out { breaks = breaks })) (arranged c U X Z) → EventsGoOn failed o done s w.within.b.run (In at.begun) Acting (log_of (record out { breaks = after })) (arranged c V Y Z)
some-evented c slot at run breaks U V X Y Z unit_whole whole later size some value seat second late span stands ends cabin card unit failed cause o done s out w first small none follows actions left fell new after is broken on_card notes now =
    let one = some-one (session_of run.keeper.cabin.cards c) some in
    noted-evented c slot at run breaks U V X Y Z unit_whole whole later size one.0 (subst (λ (o : Option Accepted). IfSome o (λ a. IsValue a.session)) one.1 value) one.1 seat second late span stands ends cabin
    (subst (λ (o : Option Accepted). IfSome o (λ a. LeavesOnly X Y (IsNote a.session.application))) one.1 card) unit failed cause o done s out w first small none follows actions left fell new after is broken on_card notes now

pub some-leaves : (c : Card) (slot : Slot) (at : Moment) (run : Run) (breaks : Listed Break) (U V X Y Z : State) → IsCoherent U → IsCoherent X → IsCoherent Y → LARGEST_IMAGE ≤ X.size → is_some (session_of run.keeper.cabin.cards c) ≡ true →
    IfSome (session_of run.keeper.cabin.cards c) (λ a. IsValue a.session) → card_in (seat_in run.keeper.cabin.slots.seats slot) ≡ Some c → at.second ≡ run.next → at.late ≡ false →
    (span : Span) → CountsSpan run.minutes span → end_of span ≡ run.next → CabinIsSound (ungiven_of span) None run.keeper.cabin →
    IfSome (session_of run.keeper.cabin.cards c) (λ a. LeavesOnly X Y (IsNote a.session.application)) → LeavesOnly U V LeavesJournal → (failed : Bool) → HasCause U V failed →
    (o : Origin) (done : List TraceSecond) (s : TraceSecond) (out : Outcome) (w : RunWithin o done s (In at.begun) [] [] run (record out { breaks = breaks }) (arranged c U X Z)) → (In at.begun ≡ In 0 → ComesPower done (record out { breaks = breaks })) →
    (actions : List Action) → IsLeft s (In at.begun) actions → (fell : Bool) (new : Run) (after : Listed Break) → IsNotedOn c slot at run new breaks after fell → HasBroken X Y (falls_by fell) → HasCause X Y fell →
    HaveLeftMore o (arranged c U X Z) (arranged c V Y Z) × (failed ≡ true → IsFailing o done s w.within.b.run (In at.begun) (log_of (record out { breaks = after })) (breakdowns_of (arranged c V Y Z)))
some-leaves c slot at run breaks U V X Y Z unit_whole whole later size some value seat second late span stands ends cabin card unit failed cause o done s out w first actions left fell new after is broken on_card =
    let one = some-one (session_of run.keeper.cabin.cards c) some in
    noted-leaves c slot at run breaks U V X Y Z unit_whole whole later size one.0 (subst (λ (o : Option Accepted). IfSome o (λ a. IsValue a.session)) one.1 value) one.1 seat second late span stands ends cabin
    (subst (λ (o : Option Accepted). IfSome o (λ a. LeavesOnly X Y (IsNote a.session.application))) one.1 card) unit failed cause o done s out w first actions left fell new after is broken on_card

-- ---- A PLACE IS TOLD OF

pub place-told : (o : Origin) (done : List TraceSecond) (s : TraceSecond) (slot : Slot) (ending : Bool) (country region begun speed : ℕ) (run : Run) (out : Outcome) (d : Devices) → IsNow s speed run → (front rest : List Action) → s.actions ≡ front ++ Place slot ending country region ∷ rest → begun ≡ suc (length front) →
    refusal (logged run.keeper.cabin.slots.seats) speed (Place slot ending country region) ≡ None → (w : RunWithin o done s (In (length front)) [] [] run out d) → RunGoesOn o done s (In begun) [] run out d w.within.b
place-told o done s slot ending country region begun speed run out d now front rest are n allowed w =
    subst (λ (k : ℕ). RunGoesOn o done s (In k) [] run out d w.within.b) (sym n)
    (goes-as o done s (In (length front)) (In (suc (length front))) [] [] [] run run out out d d w.within.from w refl refl refl
    (place-recorded d o done s (values_of run out) front slot ending country region rest are w.within
    (allowed-in o done s (In (length front)) [] None [] (values_of run out) d w.within speed (Place slot ending country region) now.speed_is allowed))
    (all-noted o (marked out.marks.items (truths_within o w.within.b.run.log done s)) s.number (log_of out) (log_of out) (notes_within w.within.b done s (In (length front)) (log_of out)) (notes_within w.within.b done s (In (suc (length front))) (log_of out)) run.keeper.memory.registration run.keeper.cabin d (log-self o (log_of out) d)
    (λ whose known c in_. place-now o done s front rest slot ending country region are (values_of run out) d w.within
    (allowed-in o done s (In (length front)) [] None [] (values_of run out) d w.within speed (Place slot ending country region) now.speed_is allowed) c) w.stay))

-- a note on the unit, whichever card a call is about
pub unit-any : (c : Card) (o : Origin) (done : List TraceSecond) (s : TraceSecond) (n : ℕ) (run : Run) (out : Outcome) (U V X Z : State) → IsCoherent U → LeavesOnly U V LeavesJournal → (span : Span) → CountsSpan run.minutes span → end_of span ≡ run.next →
    (w : RunWithin o done s (In n) [] [] run out (arranged c U X Z)) → (failed : Bool) → HasCause U V failed → (failed ≡ false → TellMore [] U V) → GoesOnOrFails failed o done s (In n) [] run out (arranged c V X Z) w.within.b
unit-any A o done s n run out U V X Z whole unit span stands ends w failed cause go = unit-recorded o done s n run out U V X Z whole unit span stands ends w failed cause go
unit-any B o done s n run out U V X Z whole unit span stands ends w failed cause go = unit-recorded o done s n run out U V Z X whole unit span stands ends w failed cause go

-- and of its events
pub any-evented : (c : Card) (o : Origin) (done : List TraceSecond) (s : TraceSecond) (n : ℕ) (run : Run) (out : Outcome) (U V X Z : State) → IsCoherent U → LeavesOnly U V LeavesJournal → (span : Span) → CountsSpan run.minutes span → end_of span ≡ run.next →
    (w : RunWithin o done s (In n) [] [] run out (arranged c U X Z)) → (actions : List Action) → IsLeft s (In n) actions → (failed : Bool) → HasCause U V failed → NotesEvents [] failed (arranged c U X Z) (arranged c V X Z) → EventedNow o done s w.within.b.run Acting (log_of out) (arranged c U X Z) →
    EventsGoOn failed o done s w.within.b.run (In n) Acting (log_of out) (arranged c V X Z)
any-evented A o done s n run out U V X Z whole unit span stands ends w actions left failed cause notes now = unit-evented o done s n run out U V X Z whole unit span stands ends w actions left failed cause notes now
any-evented B o done s n run out U V X Z whole unit span stands ends w actions left failed cause notes now = unit-evented o done s n run out U V Z X whole unit span stands ends w actions left failed cause notes now
