-- A second begins behind one with power: a minute may be over.
use Rattle.std.proofs.Common.{◌≡◌, ◌∙◌, ℕ, ◌+◌, ◌-◌, ◌*◌, ◌/◌, ◌%◌, ◌≤◌, Bool, true, false, length, nat_eq, None, List, [], ◌∷◌, refl, ap, sym, subst, arith, eqb-true}
use Rattle.trace_model.specs.declared.Card.{Card}
use Rattle.trace_model.specs.declared.Card.TheVariants.{A, B}
use Rattle.trace_model.specs.Trace.{TraceSecond}
use Rattle.tach_media.specs.Medium.{State}
use Rattle.tach_media.specs.card_layout.declared.command.CardState.{CardState}
use Rattle.minute_rules.specs.minute_model.Span.{Span, end_of, ungiven_of}
use Rattle.minute_rules.specs.Kept.{CountsSpan, Kept as Minutes}
use Rattle.log_model.specs.Log.{In}
use Rattle.log_model.specs.Course.{ToldSecond}
use Rattle.device_calls.specs.history_model.Presence.{card_start}
use Rattle.device_calls.specs.run_unit_course.Followed.{UnitPower, Lit as IsLitBy, Due as IsDueBy, Lost as IsLostBy}
use Rattle.device_calls.specs.run_unit_course.Turn.{span_at, begins_with}
use Rattle.unit_minutes.specs.unit_model.Image.{odometer_at}
use Rattle.device_calls.specs.unit_rule.Odometer.{odometer_after}
use Rattle.device_calls.specs.safety_model.Safe.{Devices}
use Rattle.run_minutes.specs.run_promise.Found.{found_of}
use Rattle.run_acts.specs.run_crew.declared.cabin.Cabin.{Cabin}
use Rattle.run_acts.specs.run_crew.Cabin.{CabinIsSound, with_minute_ended}
use Rattle.run_outcome.specs.declared.outcome.TheConstants.{MOST_OWED}
use Rattle.run_outcome.specs.declared.outcome.Outcome.{Outcome}
use Rattle.run_minutes.specs.run_promise.Origin.{Origin, rule_of, start_at}
use Rattle.device_calls.specs.history_model.Book.{Book}
use Rattle.run_acts.specs.run_record.Recorded.{progress, RecordBetweenSeconds}
use Rattle.run_acts.specs.run_record.Within.{Beginning, SecondGoesOn, begun_behind, undecided_from}
use Rattle.run_acts.proofs.run_record.Beginning.{second-begins, minute-over}
use Rattle.run_acts.specs.declared.run.Run.{Run}
use Rattle.run_acts.specs.declared.run.Power.{Power}
use Rattle.run_acts.specs.declared.run.Power.TheVariants.{Lit}
use Rattle.run_acts.specs.Power.{is_lit, has_power, over_by, minute_over}
use Rattle.run_acts.specs.Going.{first_second, RunHasPowerAllSeated}
use Rattle.run_acts.specs.Room.{finds_due, bare_seats, HasRoom}
use Rattle.run_acts.specs.Recording.{log_of, IsOrigin, Supplies, values_of, RunRecorded, RunWithin}
use Rattle.run_acts.specs.run_note_record.Uses.{vehicle_in}
use Rattle.run_acts.proofs.Kept.{owing-sum}
use Rattle.minute_rules.proofs.minute_model.Counted.{ahead-most}
use Rattle.recorder_with_cards.proofs.AwakeRooms.{is-due}
use Rattle.device_calls.specs.note_model.Noted.{Note}
use Rattle.run_acts.specs.run_note_record.Ringed.{notes_in}
use Rattle.run_acts.specs.Closings.{notes_within}
use Rattle.run_acts.specs.Truths.{truths_of, truths_within, marked}
use Rattle.run_acts.specs.Stays.{AllStay}
use Rattle.run_acts.proofs.AllStay.{all-seated, all-second, all-true}
use Rattle.run_acts.proofs.SeatsThen.{stands-seated}
use Rattle.run_acts.proofs.Truths.{marked-still}
use Rattle.run_acts.proofs.TruthsThen.{truths-begin}
use Rattle.run_acts.proofs.NotesThen.{notes-begin}

-- room for the marks of what the cards in the slots may be owed
pub marks-due : (run : Run) (out : Outcome) → is_lit run.power ≡ false → has_power run.power run.next ≡ true → HasRoom run out 1 0 0 0 → length out.marks.items + MOST_OWED * bare_seats run.keeper.cabin.slots.seats ≤ out.marks.room
marks-due run out dark has room =
    let from = is-due run.power run.next dark has in
    let due = ap (λ (b : Bool). finds_due b run.keeper.cabin) dark in
    let marks = room.marks in
    omega (arith, from, due, marks)

-- ---- minutes that stand for two spans up to one second have decided as much

same-undecided : (minutes : Minutes) (a b : Span) → CountsSpan minutes a → CountsSpan minutes b → ungiven_of a ≡ ungiven_of b
same-undecided minutes a b first second =
    let one = owing-sum minutes a first in
    let two = owing-sum minutes b second in
    let end : end_of a ≡ end_of b = sym (ap (λ (m : Minutes). m.next) first.kept) ∙ ap (λ (m : Minutes). m.next) second.kept in
    omega (arith, one, two, end)

same-minute : (n : ℕ) → nat_eq (n % 60) 0 ≡ false → n / 60 ≡ (n - 1) / 60
same-minute n is =
    let other : n % 60 ≡ 0 → ⊥ = (λ zero. let yes : true ≡ false = sym (ap (λ (m : ℕ). nat_eq m 0) zero) ∙ is in cc) in
    omega (arith, other)

starts-of : (o : Origin) → IsOrigin o → (card : Card) → (found_of o.found card).start ≡ card_start (start_at o) card
starts-of o origin A = origin.start A
starts-of o origin B = origin.start B

-- WITH POWER
module _ (o : Origin) (origin : IsOrigin o) (done : List TraceSecond) (s : TraceSecond) (run : Run) (vehicle : run.keeper.memory.registration ≡ vehicle_in o) (out : Outcome) (d : Devices) (U : State) (chip_a chip_b : CardState) (X Y : State) (lit : run.power ≡ Lit) (number : s.number ≡ run.next) (given : s.has_power ≡ true) (low : first_second ≤ run.next)
    (going : RunHasPowerAllSeated ((run.next - 1) / 60) run U chip_a chip_b X Y) where
  module _ (t : ToldSecond) (span : List ToldSecond) (r : RecordBetweenSeconds o done (IsLitBy (t ∷ span)) (values_of run out) d) (odometer : run.keeper.odometer ≡ odometer_after (odometer_at o.recording.unit) r.travel.before) (stay : AllStay o (marked out.marks.items (truths_of o (log_of out) done)) 0 (log_of out) (notes_in (log_of out) done) run.keeper.memory.registration run.keeper.cabin d) where
    abbrev from : ℕ
    from = undecided_from o (t ∷ span) (values_of run out)

    from-is : ungiven_of going.span ≡ from
    from-is = same-undecided run.minutes going.span (span_at (rule_of o) run.next (t ∷ span)) going.stands r.held.minutes

    on : (cabin : Cabin) (first : ℕ) → AllStay o (marked out.marks.items (truths_of o (log_of out) done)) s.number (log_of out) (notes_in (log_of out) done) run.keeper.memory.registration cabin d → SecondGoesOn o done s (In 0) [] None [] (record (values_of run out) { cabin = cabin }) d (begun_behind o done (t ∷ span) (values_of run out) d r) first →
        (w : RunWithin o done s (In 0) [] [] (record run { keeper = record run.keeper { cabin = cabin } }) out d) × (w.within.b ≡ begun_behind o done (t ∷ span) (values_of run out) d r)
    on cabin first stays h = (
      record {
        origin = origin;
        vehicle = vehicle;
        lit = lit;
        within = h.within;
        odometer = odometer ∙ ap (λ (b : Beginning). odometer_after (odometer_at o.recording.unit) b.travel.before) (sym h.began);
        stay = subst (λ (b : Beginning). AllStay o (marked out.marks.items (truths_within o b.run.log done s)) s.number (log_of out) (notes_within b done s (In 0) (log_of out)) run.keeper.memory.registration cabin d) (sym h.began)
            (subst (λ (ns : List Note). AllStay o (marked out.marks.items (truths_within o (log_of out) done s)) s.number (log_of out) ns run.keeper.memory.registration cabin d) (sym (notes-begin (begun_behind o done (t ∷ span) (values_of run out) d r) done s r.recorded.followed.power.running))
            (all-true o (marked out.marks.items (truths_of o (log_of out) done)) (marked out.marks.items (truths_within o (log_of out) done s)) s.number (log_of out) (notes_in (log_of out) done) run.keeper.memory.registration cabin d (λ whose known. marked-still out.marks.items (truths_of o (log_of out) done) (truths_within o (log_of out) done s) (truths-begin o (log_of out) done s)) stays));
      },
      h.began,
    )

    -- the second goes on: each card with a session sits in a slot
    seated : AllStay o (marked out.marks.items (truths_of o (log_of out) done)) s.number (log_of out) (notes_in (log_of out) done) run.keeper.memory.registration run.keeper.cabin d
    seated =
        all-second o (marked out.marks.items (truths_of o (log_of out) done)) 0 s.number (log_of out) (notes_in (log_of out) done) run.keeper.memory.registration run.keeper.cabin d (stands-seated (ungiven_of going.span) run.keeper.cabin going.cabin) stay

    by : (b : Bool) → nat_eq (run.next % 60) 0 ≡ b → (w : RunWithin o done s (In 0) [] [] (over_by b run) out d) × (w.within.b ≡ begun_behind o done (t ∷ span) (values_of run out) d r)
    by false is = on run.keeper.cabin from seated (second-begins d o done s t span (values_of run out) r number given (same-minute run.next is))
    by true is =
        let at : run.next % 60 ≡ 0 = eqb-true (run.next % 60) 0 is in
        let minute : run.next / 60 ≡ (run.next - 1) / 60 + 1 = omega (arith, at, low) in
        let before : (run.next - 1) / 60 ≡ run.next / 60 - 1 = omega (arith, minute) in
        let due = going.due in
        let same = from-is in
        let most = ahead-most going.span.rule in
        let end = going.next in
        let few : (run.next - 1) / 60 ≤ from + 3 = omega (arith, most, end, same, minute) in
        let stands : CabinIsSound from None run.keeper.cabin = subst (λ (n : ℕ). CabinIsSound n None run.keeper.cabin) same going.cabin in
        on (with_minute_ended (run.next / 60 - 1) run.keeper.cabin) from
        (all-seated o (marked out.marks.items (truths_of o (log_of out) done)) s.number (log_of out) (notes_in (log_of out) done) run.keeper.memory.registration run.keeper.cabin (with_minute_ended (run.next / 60 - 1) run.keeper.cabin) d refl (λ c. refl) seated)
        (subst (λ (m : ℕ). SecondGoesOn o done s (In 0) [] None [] (record (values_of run out) { cabin = with_minute_ended m run.keeper.cabin }) d (begun_behind o done (t ∷ span) (values_of run out) d r) from) before
        (minute-over d o done s t span (values_of run out) r number given (starts-of o origin) minute (omega (arith, due, same)) few stands))

  -- it goes on, in a span that has begun, as that was recorded
  abbrev Goes : UnitPower → Type 0
  Goes supply = (w : RunWithin o done s (In 0) [] [] (minute_over run) out d) × (book : Book) × (w.within.b.run ≡ progress (values_of run out) supply book) × (begins_with w.within.b.span ≡ false)

  by-supply : (supply : UnitPower) → Supplies Lit supply → (r : RecordBetweenSeconds o done supply (values_of run out) d) → run.keeper.odometer ≡ odometer_after (odometer_at o.recording.unit) r.travel.before → AllStay o (marked out.marks.items (truths_of o (log_of out) done)) 0 (log_of out) (notes_in (log_of out) done) run.keeper.memory.registration run.keeper.cabin d → Goes supply
  by-supply (IsLitBy (t ∷ span)) h r odometer stay =
      let g = by t span r odometer stay (nat_eq (run.next % 60) 0) refl in
      (g.0, r.book, ap (λ (b : Beginning). b.run) g.1, ap (λ (b : Beginning). begins_with b.span) g.1)
  by-supply (IsLitBy []) h r odometer stay = absurd h
  by-supply IsDueBy h r odometer stay = absurd h
  by-supply IsLostBy h r odometer stay = absurd h

  pub second-goes : (rec : RunRecorded o done run out d) → (w : RunWithin o done s (In 0) [] [] (minute_over run) out d) × (book : Book) × (w.within.b.run ≡ progress (values_of run out) rec.supply book) × (begins_with w.within.b.span ≡ false)
  second-goes rec = by-supply rec.supply (subst (λ (p : Power). Supplies p rec.supply) lit rec.powers) rec.recorded (rec.odometer lit) rec.stay
