-- A card is withdrawn: what is recorded, behind the minutes that its leaving decides and the closing of its session.
use Rattle.std.proofs.Common.{◌≡◌, ◌∙◌, ℕ, suc, ◌+◌, ◌/◌, ◌^◌, ◌<◌, ◌≤◌, Bool, true, false, Option, Some, None, List, [], ◌∷◌, ◌++◌, length, map, take, is_some, refl, ap, sym, subst, arith}
use Rattle.std.specs.Prelude.{IfSome, nat_lt, slice_get}
use Rattle.activity_codec.specs.declared.values.Activity.{Activity}
use Rattle.activity_codec.specs.declared.values.Slot.{Slot}
use Rattle.trace_model.specs.declared.Card.{Card}
use Rattle.trace_model.specs.declared.Action.{Action}
use Rattle.trace_model.specs.declared.Action.TheVariants.{Withdraw}
use Rattle.trace_model.specs.Trace.{TraceSecond}
use Rattle.tach_media.specs.Medium.{State, IsCoherent, LeavesOnly, HasCause, HasBroken}
use Rattle.card_files.specs.card_layout.declared.files.TheConstants.{LARGEST_IMAGE}
use Rattle.device_calls.specs.card_session.Sessions.{IsSession}
use Rattle.device_calls.specs.card_session.Cards.{IsCardClosing}
use Rattle.unit_model.specs.minute_model.declared.Minute.{Minute}
use Rattle.unit_model.specs.minute_model.Span.{Span, settled, decided_in, end_of}
use Rattle.minute_rules.specs.Kept.{CountsSpan}
use Rattle.log_model.specs.declared.lines.Break.{Break}
use Rattle.log_model.specs.Log.{In, RunLog, Phase, is_torn_in, found_in}
use Rattle.log_model.specs.Slots.{in_slot, refusal, other_slot, same_card}
use Rattle.log_model.specs.Course.{Course, ToldSecond, Before, went}
use Rattle.unit_notes.specs.event_model.Events.{course_by}
use Rattle.run_events.specs.run_course.Moment.{found_at}
use Rattle.run_events.specs.run_course.Reached.{course_at}
use Rattle.run_events.proofs.run_course.Reached.{at-by}
use Rattle.unit_model.specs.Image.{odometer_at}
use Rattle.device_calls.specs.unit_rule.Odometer.{odometer_after}
use Rattle.unit_notes.specs.Journal.{LeavesJournal}
use Rattle.device_calls.specs.safety_model.Safe.{Devices}
use Rattle.run_crew.specs.card_slots.Calls.{seat_in, card_in, logged}
use Rattle.run_crew.specs.declared.cards.Accepted.{Accepted}
use Rattle.run_crew.specs.Cards.{session_of}
use Rattle.run_minutes.specs.run_devices.Told.{arranged}
use Rattle.run_outcome.specs.Lines.{Listed}
use Rattle.run_outcome.specs.declared.outcome.Outcome.{Outcome}
use Rattle.run_minutes.specs.declared.keeper.Moment.{Moment}
use Rattle.run_minutes.specs.Minutes.{KeepingState, AreKept}
use Rattle.run_minutes.specs.Books.{HaveTime}
use Rattle.run_minutes.specs.run_promise.Origin.{Origin}
use Rattle.run_record.specs.Recorded.{Values}
use Rattle.run_record.specs.Within.{Beginning, IsLeaving}
use Rattle.run_record.specs.Taking.{IsLeft}
use Rattle.run_record.proofs.Leaving.{card-leaves}
use Rattle.run_record.proofs.Pulling.{sitting-now}
use Rattle.run_acts.specs.declared.run.Run.{Run}
use Rattle.run_acts.specs.Acting.{Closing, Closed, IsClosed, closed_falls, told_of, left_run}
use Rattle.run_acts.specs.Recording.{log_of, values_of, RunWithin, RunFails, GoesOnOrFails}
use Rattle.run_minutes.specs.unit_memory.declared.memory.UnitFacts.{UnitFacts}
use Rattle.run_acts.specs.Settling.{settled_run, IsSettledIn, RecordsSettling}
use Rattle.run_acts.proofs.Apart.{not-both}
use Rattle.run_acts.proofs.Asked.{allowed-in}
use Rattle.run_acts.proofs.NoneComes.{none-comes}
use Rattle.log_model.specs.declared.lines.Find.{Find}
use Rattle.run_crew.specs.Cabin.{CabinIsSound, with_slot_left}
use Rattle.run_note_record.specs.Noting.{Acting}
use Rattle.run_note_record.specs.EventsSoFar.{EventedNow, puts_into}
use Rattle.run_acts.specs.NotedEvents.{NotesEvents}
use Rattle.run_acts.specs.Noting.{closed_events}
use Rattle.run_acts.specs.Evented.{EventsGoOn, EventsSettling, IsUntold}
use Rattle.run_acts.proofs.FallEvented.{left-over}
use Rattle.run_acts.proofs.RingedLines.{SatIn}
use Rattle.run_minutes.specs.Later.{IsCalm}
use Rattle.run_acts.proofs.Closed.{closed-recorded, closed-evented}
use Rattle.run_acts.specs.RunCards.{StillShow, CardsSettling, PlacesSettling}
use Rattle.run_acts.specs.Stood.{LetStand, StandsSettling}
use Rattle.run_acts.proofs.CardStays.{closing-still}
use Rattle.unit_notes.specs.note_model.Odometer.{SpanFrom}
use Rattle.run_events.specs.run_rings.Spans.{with_second}
use Rattle.run_note_record.specs.OnCards.{CardsGo, CardsStay}
use Rattle.run_acts.specs.RunRinged.{AreSpansNow}
use Rattle.run_note_record.specs.Sessions.{EndsIf, Shuts}
use Rattle.run_acts.specs.CardWrites.{ClosesCard}
use Rattle.run_acts.proofs.CardPlaces.{closing-stays}
use Rattle.run_acts.proofs.SessionsClosed.{closing-shuts}
use Rattle.unit_notes.specs.note_model.Noted.{Note}
use Rattle.hand_model.specs.card_image.Own.{IsOwnValid}
use Rattle.run_minutes.specs.run_promise.Found.{found_of}
use Rattle.run_acts.specs.Closings.{spells_of, last_slot, notes_within}
use Rattle.run_acts.specs.Comings.{TellMore}
use Rattle.run_acts.specs.Truths.{truths_within, marked}
use Rattle.run_acts.specs.Stays.{sits_in, IsPlaced, Whose, covers, AreKnown, AllStay, ClosesOnCard}
use Rattle.run_acts.proofs.Stays.{last-shut-slot}
use Rattle.run_acts.proofs.Closings.{same-turned}
use Rattle.run_acts.proofs.AllStay.{Moves, moves-same, moves-bare, moves-leaves, placed-same, placed-bare, placed-nowhere, all-moved, log-self}
use Rattle.run_acts.proofs.SeatsThen.{same-as, sits-there, sits-nowhere, left-other, emptied-slot}
use Rattle.run_acts.proofs.NotesThen.{withdrawn-now, bare-now, others-now, actions-at}
use Rattle.run_acts.proofs.Since.{HasSat, has-sat, allowed-still}

-- the moment of an action
abbrev pub acting_at : ℕ → ℕ → Moment
acting_at second begun = record { second = second; begun = begun; late = false }

pub moment-is : (at : Moment) (second begun : ℕ) → at.second ≡ second → at.begun ≡ begun → at.late ≡ false → at ≡ acting_at second begun
moment-is at second begun u n l =
    ap (λ (x : ℕ). record { second = x; begun = at.begun; late = at.late }) u ∙ ap (λ (x : ℕ). record { second = second; begun = x; late = at.late }) n ∙ ap (λ (x : Bool). record { second = second; begun = begun; late = x }) l

get-at : (front : List Action) (a : Action) (rest : List Action) → slice_get (front ++ a ∷ rest) (length front) ≡ Some a
get-at [] a rest = refl
get-at (x ∷ front) a rest = get-at front a rest

-- what was found is told by the finds alone
found-as : (log later : RunLog) (u : ℕ) (p : Phase) (slot : Slot) → later.finds ≡ log.finds → found_in later u p slot ≡ found_in log u p slot
unfolding found_in
found-as log later u p slot same = ap (λ (fs : List Find). found_in (record log { finds = fs }) u p slot) same

-- ---- in a second, at its action

module _ (o : Origin) (done : List TraceSecond) (s : TraceSecond) (front rest : List Action) (slot : Slot) (are : s.actions ≡ front ++ Withdraw slot ∷ rest) (speed : ℕ) (now : s.speed ≡ speed) (c : Card) (run between : Run) (before told : Outcome) (d : Devices)
    (w : RunWithin o done s (In (length front)) [] [] run before d) (seat : card_in (seat_in run.keeper.cabin.slots.seats slot) ≡ Some c) (allowed : refusal (logged run.keeper.cabin.slots.seats) speed (Withdraw slot) ≡ None) (from_ : ℕ) (seated : CabinIsSound from_ None run.keeper.cabin)
    (stands : CountsSpan between.minutes (settled w.within.sp)) (decided : List Minute) (given : decided_in (settled w.within.sp) ≡ decided_in w.within.sp ++ decided) where
  abbrev v : Values
  v = values_of run before

  left : IsLeft o done s v d front slot c between.minutes decided w.within
  left = card-leaves d o done s v front slot c rest are w.within (allowed-in o done s (In (length front)) [] None [] v d w.within speed (Withdraw slot) now allowed) seat between.minutes stands decided given

  -- where it has a session its last spell is shut by then; the other card sits as it did
  abbrev notes-before : List Note
  notes-before = notes_within w.within.b done s (In (length front)) (log_of before)

  abbrev notes-left : List Note
  notes-left = notes_within w.within.b done s (In (suc (length front))) (log_of before)

  abbrev Leaves : Card → Type 0
  Leaves k = Moves s.number (spells_of k notes-before) (spells_of k notes-left) (sits_in run.keeper.cabin.slots.seats k) (sits_in (with_slot_left slot s.number run.keeper.cabin).slots.seats k) (session_of run.keeper.cabin.cards k) (session_of run.keeper.cabin.cards k)

  own-leaves : (q : Option Accepted) → session_of run.keeper.cabin.cards c ≡ q → Leaves c
  own-leaves None is =
      moves-bare s.number (spells_of c notes-before) (spells_of c notes-left) (sits_in run.keeper.cabin.slots.seats c) (sits_in (with_slot_left slot s.number run.keeper.cabin).slots.seats c) (session_of run.keeper.cabin.cards c) (session_of run.keeper.cabin.cards c)
      (bare-now o done s front rest slot are speed now c v d w.within seat allowed from_ seated is c) is is
  own-leaves (Some a) is =
      let some : is_some (session_of run.keeper.cabin.cards c) ≡ true = ap (λ (q : Option Accepted). is_some q) is in
      moves-leaves s.number (spells_of c notes-before) (spells_of c notes-left) (sits_in run.keeper.cabin.slots.seats c) (sits_in (with_slot_left slot s.number run.keeper.cabin).slots.seats c) (session_of run.keeper.cabin.cards c) (session_of run.keeper.cabin.cards c)
      some refl (sits-there run.keeper.cabin.slots.seats slot c seat) (sits-nowhere (with_slot_left slot s.number run.keeper.cabin).slots.seats c (left.leaving some).nowhere)
      (withdrawn-now o done s front rest slot are speed now c v d w.within seat allowed from_ seated some)

  each-leaves : (k : Card) → Leaves k
  each-leaves k = by (same_card c k) refl
    where
      by : (b : Bool) → same_card c k ≡ b → Leaves k
      by true mine = subst Leaves (same-as c k mine) (own-leaves (session_of run.keeper.cabin.cards c) refl)
      by false other =
          moves-same s.number (spells_of k notes-before) (spells_of k notes-left) (sits_in run.keeper.cabin.slots.seats k) (sits_in (with_slot_left slot s.number run.keeper.cabin).slots.seats k) (session_of run.keeper.cabin.cards k) (session_of run.keeper.cabin.cards k)
          (others-now o done s front rest slot are speed now c v d w.within seat allowed from_ seated k (same-turned k c ∙ other)) (left-other run.keeper.cabin.slots.seats slot c k seat other) refl

  -- it sits nowhere, and the others where they sat
  places-left : (k : Card) → IsPlaced notes-before run.keeper.cabin k → IsPlaced notes-left (with_slot_left slot s.number run.keeper.cabin) k
  places-left k was = by (same_card c k) refl
    where
      own : (q : Option Accepted) → session_of run.keeper.cabin.cards c ≡ q → IsPlaced notes-left (with_slot_left slot s.number run.keeper.cabin) c
      own None is = placed-bare notes-left (with_slot_left slot s.number run.keeper.cabin) c is
      own (Some a) is = placed-nowhere notes-left (with_slot_left slot s.number run.keeper.cabin) c
          (λ at there.
          let yes : sits_in (with_slot_left slot s.number run.keeper.cabin).slots.seats c ≡ true = sits-there (with_slot_left slot s.number run.keeper.cabin).slots.seats at c there in
          let no : sits_in (with_slot_left slot s.number run.keeper.cabin).slots.seats c ≡ false =
          sits-nowhere (with_slot_left slot s.number run.keeper.cabin).slots.seats c (left.leaving (ap (λ (q : Option Accepted). is_some q) is)).nowhere in
          let wrong : true ≡ false = sym yes ∙ no in cc)

      by : (b : Bool) → same_card c k ≡ b → IsPlaced notes-left (with_slot_left slot s.number run.keeper.cabin) k
      by true mine = subst (λ (x : Card). IsPlaced notes-left (with_slot_left slot s.number run.keeper.cabin) x) (same-as c k mine) (own (session_of run.keeper.cabin.cards c) refl)
      by false other =
          placed-same notes-before notes-left run.keeper.cabin (with_slot_left slot s.number run.keeper.cabin) k (ap last_slot (others-now o done s front rest slot are speed now c v d w.within seat allowed from_ seated k (same-turned k c ∙ other)))
          (λ at there. emptied-slot run.keeper.cabin.slots.seats slot at k there) (λ some. some) was

  -- the slot of its last spell, where it has a session
  slot-left : (whose : Whose) → AreKnown whose o (log_of before) d → covers whose c ≡ true → IsOwnValid (found_of o.found c).image → is_some (session_of run.keeper.cabin.cards c) ≡ true → last_slot (spells_of c notes-left) ≡ Some slot
  slot-left whose known in_ valid some =
      ap last_slot (withdrawn-now o done s front rest slot are speed now c v d w.within seat allowed from_ seated some) ∙ last-shut-slot s.number (spells_of c notes-before) ∙ (w.stay whose known).placed c in_ valid slot some seat

  -- it has sat in its slot since it was accepted
  sat-left : is_some (session_of run.keeper.cabin.cards c) ≡ true → (actions behind : List Action) → s.actions ≡ actions ++ Withdraw slot ∷ behind → length front ≡ length actions → HasSat slot c s.number actions (log_of before).finds
  sat-left some actions behind is count =
      let log : RunLog = log_of before in
      let then_ : Before = (went w.within.b.run.log done).before in
      let m = w.within.moment in
      let sits = sitting-now o done s (In (length front)) v d w.within slot c seat from_ seated some in
      let by : course_by log then_ s (length front) ≡ course_at log then_ s (In (length front)) = at-by log then_ s m.up_to.uncut (length front) m.is in
      let still : nat_lt 0 s.speed ≡ false = ap (λ (k : ℕ). nat_lt 0 k) now ∙ allowed-still (logged run.keeper.cabin.slots.seats) speed slot allowed in
      subst (λ (as_ : List Action). HasSat slot c s.number as_ log.finds) (ap (λ (k : ℕ). take k s.actions) count ∙ actions-at actions (Withdraw slot ∷ behind) s.actions is)
      (has-sat log then_ s (length front) m.is m.up_to.uncut still (λ k y lt. m.up_to.found (In k) y lt) w.within.b.run.log.finds m.finds m.finds_are (m.told_finds ∙ ap (λ (k : Course). map (found_at s.number) k.found) (sym by)) slot c sits.0
      (ap (λ (k : Course). in_slot k.slots slot) by ∙ sits.1))

  stays-left : AllStay o (marked before.marks.items (truths_within o w.within.b.run.log done s)) s.number (log_of before) notes-left run.keeper.memory.registration (with_slot_left slot s.number run.keeper.cabin) d
  stays-left =
      all-moved o (marked before.marks.items (truths_within o w.within.b.run.log done s)) s.number (log_of before) (log_of before) notes-before notes-left run.keeper.memory.registration run.keeper.cabin (with_slot_left slot s.number run.keeper.cabin) d (log-self o (log_of before) d) (λ whose known k in_. each-leaves k) (λ whose known k in_. places-left k) w.stay

  abbrev gone : RunWithin o done s (In (suc (length front))) [] decided (settled_run between.minutes (left_run slot s.number run)) before d
  gone = record {
    origin = w.origin;
    vehicle = w.vehicle;
    lit = w.lit;
    within = left.goes.within;
    odometer = w.odometer ∙ ap (λ (b : Beginning). odometer_after (odometer_at o.recording.unit) b.travel.before) (sym left.goes.began);
    stay = subst (λ (b : Beginning). AllStay o (marked before.marks.items (truths_within o b.run.log done s)) s.number (log_of before) (notes_within b done s (In (suc (length front))) (log_of before)) run.keeper.memory.registration (with_slot_left slot s.number run.keeper.cabin) d) (sym left.goes.began) stays-left;
  }

  -- the unit failed in the keeping
  pub settling-cut : (e : Devices) → RecordsSettling decided (acting_at s.number (suc (length front))) true (left_run slot s.number run) between before told d e → HaveTime e → between.keeper.memory ≡ run.keeper.memory → RunFails o done s (In (suc (length front))) between told e
  settling-cut e records time memory = record { waits = []; cabin = between.keeper.cabin; same = refl; odometer = between.keeper.odometer; counted = λ lit. refl; vehicle = ap (λ (m : UnitFacts). m.registration) memory ∙ w.vehicle; within = records o done s (suc (length front)) [] (omega arith) refl gone time }

  -- or they are kept, and its session is closed
  pub closing-recorded : {C : Type 0} (state : C → State) (U V Z : State) (x y : C) → IsCoherent U → IsCoherent (state x) → LARGEST_IMAGE ≤ (state x).size →
      IfSome (session_of between.keeper.cabin.cards c) (λ s. (act : Activity) × LeavesOnly (state x) (state y) (λ i n. IsSession s.session i → IsCardClosing s.session act i n)) → (session_of between.keeper.cabin.cards c ≡ None → y ≡ x) →
      LeavesOnly U V LeavesJournal → (failed : Bool) → HasCause U V failed → (span : Span) → CountsSpan between.minutes span → end_of span ≡ between.next →
      RecordsSettling decided (acting_at s.number (suc (length front))) false (left_run slot s.number run) between before told d (arranged c U (state x) Z) → HaveTime (arranged c U (state x) Z) →
      (at : Moment) (ms : List Minute) (t : KeepingState) → AreKept at ms t (told_of between told) → session_of t.keeper.cabin.cards c ≡ session_of run.keeper.cabin.cards c →
      (failed ≡ false → TellMore [] U V) → (new : Run) (after : Listed Break) (closing : Closing) → (closing ≡ Closed → ClosesOnCard slot between.minutes (session_of between.keeper.cabin.cards c) (state x) (state y)) → IsClosed c slot (acting_at s.number (suc (length front))) between new told.breaks after closing →
      IsCalm told.breaks.items after.items (state x) (state y) → HasBroken (state x) (state y) (closed_falls closing) →
      GoesOnOrFails failed o done s (In (suc (length front))) [] new (record told { breaks = after }) (arranged c V (state y) Z) w.within.b
  closing-recorded state U V Z x y unit_whole whole size closes still unit failed cause span stands_ ends records time at ms t kept same go new after closing shut is calm broken =
      let kept_all : IsSettledIn o done s (In (suc (length front))) [] gone.within.b gone.within.from (gone.within.from + length decided) (left_run slot s.number run) between before told d (arranged c U (state x) Z) =
      records o done s (suc (length front)) [] (omega arith) refl gone time in
      subst (λ (b : Beginning). GoesOnOrFails failed o done s (In (suc (length front))) [] new (record told { breaks = after }) (arranged c V (state y) Z) b) (kept_all.began ∙ left.goes.began)
      (closed-recorded state c slot (acting_at s.number (suc (length front))) between told U V Z x y unit_whole whole size closes still unit failed cause span stands_ ends o done s (suc (length front)) refl kept_all.goes kept_all.from
      (λ some. subst (λ (b : Beginning). IsLeaving (log_of told) (went b.run.log done).before s (In (suc (length front))) (s.number / 60) (s.number / 60) between.keeper.cabin slot c) (sym kept_all.began)
      (kept_all.leave slot c (left.leaving (had (session_of run.keeper.cabin.cards c) refl some)) some))
      (λ some whose known in_ valid.
      ap last_slot
      (ap (λ (b : Beginning). spells_of c (notes_within b done s (In (suc (length front))) (log_of told))) kept_all.began ∙ kept_all.quiet whose known c in_
      ∙ ap (λ (b : Beginning). spells_of c (notes_within b done s (In (suc (length front))) (log_of before))) left.goes.began)
      ∙ slot-left whose (kept_all.known whose known) in_ valid (had (session_of run.keeper.cabin.cards c) refl some))
      (λ some actions behind is count. subst (λ (fs : List Find). HasSat slot c s.number actions fs) (sym kept_all.finds) (sat-left (had (session_of run.keeper.cabin.cards c) refl some) actions behind is (omega (arith, count)))) go new after closing shut is calm broken)
    where
      had : (q : Option Accepted) → session_of run.keeper.cabin.cards c ≡ q → is_some (session_of between.keeper.cabin.cards c) ≡ true → is_some (session_of run.keeper.cabin.cards c) ≡ true
      had None is some = absurd (not-both (session_of between.keeper.cabin.cards c) some (none-comes c at ms t (told_of between told) kept (same ∙ is)))
      had (Some a) is some = ap is_some is

  -- where it has its session still its slot was not torn in that
  pub untorn-then : (e : Devices) → RecordsSettling decided (acting_at s.number (suc (length front))) false (left_run slot s.number run) between before told d e → HaveTime e → is_some (session_of run.keeper.cabin.cards c) ≡ true →
      is_some (session_of between.keeper.cabin.cards c) ≡ true → is_torn_in (log_of told) s.number (In (suc (length front))) slot ≡ false
  untorn-then e records time had some = ((records o done s (suc (length front)) [] (omega arith) refl gone time).leave slot c (left.leaving had) some).untorn

  -- in the minutes that are still to be kept it was present in its slot, if at all
  pub sat-there : is_some (session_of run.keeper.cabin.cards c) ≡ true → SatIn c slot w.within.from (left_run slot s.number run).keeper.cabin.slots.past
  sat-there had =
      let l = left.leaving had in
      subst (λ (low : ℕ). SatIn c slot low (left_run slot s.number run).keeper.cabin.slots.past) left.goes.from
      (record { driver = λ m present le there is. l.driver m present le there is; codriver = λ m present le there is. l.codriver m present le there is })

  -- ---- its events

  -- nothing is told of the action yet, and it puts no card into a slot
  withdraws : slice_get s.actions (length front) ≡ Some (Withdraw slot)
  withdraws = ap (λ (as_ : List Action). slice_get as_ (length front)) are ∙ get-at front (Withdraw slot) rest

  puts-none : (x : Slot) → puts_into x (slice_get s.actions (length front)) ≡ false
  puts-none x = ap (puts_into x) withdraws

  untold : IsUntold s (length front) (log_of before) (left_run slot s.number run).keeper.cabin
  untold = record {
    torn = λ x. w.within.moment.up_to.torn (In (suc (length front))) x (omega arith);
    found = λ x. w.within.moment.up_to.found (In (suc (length front))) x (omega arith);
    bare = λ x puts. absurd (let no : false ≡ true = sym (puts-none x) ∙ puts in cc);
  }

  -- the minutes before are kept
  pub settled-evented : (failed : Bool) (e : Devices) → EventsSettling decided (acting_at s.number (suc (length front))) failed (left_run slot s.number run) between before told d e → EventedNow o done s w.within.b.run Acting (log_of before) d → HaveTime e →
      EventsGoOn failed o done s w.within.b.run (In (suc (length front))) Acting (log_of told) e
  settled-evented failed e settles events time =
      subst (λ (b : Beginning). EventsGoOn failed o done s b.run (In (suc (length front))) Acting (log_of told) e) left.goes.began
      (settles o done s (length front) [] refl gone untold (subst (λ (b : Beginning). EventedNow o done s b.run Acting (log_of before) d) (sym left.goes.began) events) time)

  -- the cards show their events still
  pub settled-still : (e : Devices) → CardsSettling decided (acting_at s.number (suc (length front))) (left_run slot s.number run) between before d e → HaveTime e → StillShow o d e
  settled-still e settles time = settles o done s (length front) [] refl gone time

  -- and their places stay
  pub settled-places : (e : Devices) → PlacesSettling decided (acting_at s.number (suc (length front))) (left_run slot s.number run) between before d e → HaveTime e → (spans : List SpanFrom) (t : ToldSecond) →
      AreSpansNow done s w.within.b.run.log spans run.keeper.odometer t → CardsStay o (with_second spans run.keeper.odometer t) d e
  settled-places e settles time spans t now = settles o done s (length front) [] refl gone time spans t (subst (λ (b : Beginning). AreSpansNow done s b.run.log spans run.keeper.odometer t) (sym left.goes.began) now)

  -- what stood on them stands
  pub settled-stands : (e : Devices) → StandsSettling decided (acting_at s.number (suc (length front))) (left_run slot s.number run) between before d e → HaveTime e → LetStand o d e
  settled-stands e settles time = settles o done s (length front) [] refl gone time

  pub closed-places : {C : Type 0} (state : C → State) (U V Z : State) (x y : C) → IsCoherent (state x) → LARGEST_IMAGE ≤ (state x).size →
      IfSome (session_of between.keeper.cabin.cards c) (λ s. (act : Activity) × LeavesOnly (state x) (state y) (λ i n. IsSession s.session i → IsCardClosing s.session act i n)) → (session_of between.keeper.cabin.cards c ≡ None → y ≡ x) →
      RecordsSettling decided (acting_at s.number (suc (length front))) false (left_run slot s.number run) between before told d (arranged c U (state x) Z) → HaveTime (arranged c U (state x) Z) →
      (spans : List SpanFrom) → CardsGo o spans (EndsIf (is_some (session_of between.keeper.cabin.cards c)) c) (arranged c U (state x) Z) (arranged c V (state y) Z)
  closed-places state U V Z x y whole size closes still records time spans =
      let kept_all : IsSettledIn o done s (In (suc (length front))) [] gone.within.b gone.within.from (gone.within.from + length decided) (left_run slot s.number run) between before told d (arranged c U (state x) Z) =
      records o done s (suc (length front)) [] (omega arith) refl gone time in
      closing-stays state o spans done s (In (suc (length front))) [] [] between told c U V Z x y kept_all.goes whole size closes still

  -- and so they do behind the closing
  pub closed-still : {C : Type 0} (state : C → State) (U V Z : State) (x y : C) → IsCoherent (state x) → LARGEST_IMAGE ≤ (state x).size →
      IfSome (session_of between.keeper.cabin.cards c) (λ s. (act : Activity) × LeavesOnly (state x) (state y) (λ i n. IsSession s.session i → IsCardClosing s.session act i n)) → (session_of between.keeper.cabin.cards c ≡ None → y ≡ x) →
      RecordsSettling decided (acting_at s.number (suc (length front))) false (left_run slot s.number run) between before told d (arranged c U (state x) Z) → HaveTime (arranged c U (state x) Z) →
      StillShow o (arranged c U (state x) Z) (arranged c V (state y) Z)
  closed-still state U V Z x y whole size closes still records time =
      let kept_all : IsSettledIn o done s (In (suc (length front))) [] gone.within.b gone.within.from (gone.within.from + length decided) (left_run slot s.number run) between before told d (arranged c U (state x) Z) =
      records o done s (suc (length front)) [] (omega arith) refl gone time in
      closing-still state o done s (In (suc (length front))) [] [] between told c U V Z x y kept_all.goes whole size closes still

  -- and it tells of no session, where it was closed
  pub closed-shuts : {C : Type 0} (state : C → State) (U V Z : State) (x y : C) → IsCoherent (state x) → LARGEST_IMAGE ≤ (state x).size → (act : Activity) → ClosesCard Closed (session_of between.keeper.cabin.cards c) act (state x) (state y) →
      RecordsSettling decided (acting_at s.number (suc (length front))) false (left_run slot s.number run) between before told d (arranged c U (state x) Z) → HaveTime (arranged c U (state x) Z) →
      (log : RunLog) → Shuts o log (record { second = s.number; card = c }) (arranged c V (state y) Z)
  closed-shuts state U V Z x y whole size act closes records time log =
      let kept_all : IsSettledIn o done s (In (suc (length front))) [] gone.within.b gone.within.from (gone.within.from + length decided) (left_run slot s.number run) between before told d (arranged c U (state x) Z) =
      records o done s (suc (length front)) [] (omega arith) refl gone time in
      closing-shuts state o done s (In (suc (length front))) [] [] between told c U V Z x y kept_all.goes whole size act closes log s.number

  -- and its session is closed
  pub closing-evented : {C : Type 0} (state : C → State) (U V Z : State) (x y : C) → IsCoherent U → IsCoherent (state x) → LARGEST_IMAGE ≤ (state x).size →
      IfSome (session_of between.keeper.cabin.cards c) (λ s. (act : Activity) × LeavesOnly (state x) (state y) (λ i n. IsSession s.session i → IsCardClosing s.session act i n)) → (session_of between.keeper.cabin.cards c ≡ None → y ≡ x) →
      LeavesOnly U V LeavesJournal → (failed : Bool) → HasCause U V failed → (span : Span) → CountsSpan between.minutes span → end_of span ≡ between.next →
      RecordsSettling decided (acting_at s.number (suc (length front))) false (left_run slot s.number run) between before told d (arranged c U (state x) Z) → HaveTime (arranged c U (state x) Z) →
      (at : Moment) (ms : List Minute) (t : KeepingState) → AreKept at ms t (told_of between told) → session_of t.keeper.cabin.cards c ≡ session_of run.keeper.cabin.cards c →
      s.number < 2 ^ 32 → told.finds ≡ before.finds → (low : ℕ) → CabinIsSound low (Some c) between.keeper.cabin → EventedNow o done s w.within.b.run Acting (log_of told) (arranged c U (state x) Z) →
      (new : Run) (after : Listed Break) (closing : Closing) → IsClosed c slot (acting_at s.number (suc (length front))) between new told.breaks after closing →
      IsCalm told.breaks.items after.items (state x) (state y) → HasBroken (state x) (state y) (closed_falls closing) →
      NotesEvents (closed_events closing s.number new) failed (arranged c U (state x) Z) (arranged c V (state y) Z) → EventsGoOn failed o done s w.within.b.run (In (suc (length front))) Acting (log_of (record told { breaks = after })) (arranged c V (state y) Z)
  closing-evented state U V Z x y unit_whole whole size closes still unit failed cause span stands_ ends records time at ms t kept same small finds low sits_ events new after closing is calm broken notes =
      let kept_all : IsSettledIn o done s (In (suc (length front))) [] gone.within.b gone.within.from (gone.within.from + length decided) (left_run slot s.number run) between before told d (arranged c U (state x) Z) =
      records o done s (suc (length front)) [] (omega arith) refl gone time in
      let began = kept_all.began ∙ left.goes.began in
      subst (λ (b : Beginning). EventsGoOn failed o done s b.run (In (suc (length front))) Acting (log_of (record told { breaks = after })) (arranged c V (state y) Z)) began
      (closed-evented state c slot (acting_at s.number (suc (length front))) between told U V Z x y unit_whole whole size closes still unit failed cause span stands_ ends o done s (suc (length front)) refl kept_all.goes kept_all.from
      (λ some. subst (λ (b : Beginning). IsLeaving (log_of told) (went b.run.log done).before s (In (suc (length front))) (s.number / 60) (s.number / 60) between.keeper.cabin slot c) (sym kept_all.began)
      (kept_all.leave slot c (left.leaving (had_ (session_of run.keeper.cabin.cards c) refl some)) some))
      small (found-as (log_of before) (log_of told) s.number (In (suc (length front))) (other_slot slot) (ap (λ (l : Listed Find). l.items) finds) ∙ w.within.moment.up_to.found (In (suc (length front))) (other_slot slot) (omega arith))
      (λ torn. puts-none (other_slot slot)) low sits_ rest (left-over front rest (Withdraw slot) s (suc (length front)) refl are)
      (subst (λ (b : Beginning). EventedNow o done s b.run Acting (log_of told) (arranged c U (state x) Z)) (sym began) events) new after closing is calm broken notes)
    where
      had_ : (q : Option Accepted) → session_of run.keeper.cabin.cards c ≡ q → is_some (session_of between.keeper.cabin.cards c) ≡ true → is_some (session_of run.keeper.cabin.cards c) ≡ true
      had_ None is_ some = absurd (not-both (session_of between.keeper.cabin.cards c) some (none-comes c at ms t (told_of between told) kept (same ∙ is_)))
      had_ (Some a) is_ some = ap is_some is_
