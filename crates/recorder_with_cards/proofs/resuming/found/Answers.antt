use Rattle.std.proofs.Common.{rules, ◌≡◌, ◌∙◌, ℕ, ◌+◌, ◌/◌, ◌<◌, Bool, true, false, [], ◌∷◌, ◌++◌, refl, ap, sym, subst, arith, ◌*◌, List, length, ◌≤◌, inl, inr}
use Rattle.std.specs.Prelude.{is_err, IfErr}
use Rattle.std.proofs.lemmas.Grind.{common_steps}
use Rattle.tach_media.specs.Medium.{State}
use Rattle.tach_media.proofs.Runs.{ok_gives}
use Rattle.run_outcome.specs.Lines.{Listed, cut_at}
use Rattle.log_model.specs.declared.lines.Break.{Break}
use Rattle.run_acts.specs.declared.run.Run.{Run}
use Rattle.run_opening.specs.Units.{IsClockBack}
use Rattle.run_acts.specs.Going.{IsAt, IsFoundLater}
use Rattle.run_acts.proofs.Standing.{cut-at}
use Rattle.recorder_with_cards.proofs.Taken.{up-room, up-awake, up-lost}
use Rattle.log_model.specs.Log.{RunLog, In}
use Rattle.run_acts.proofs.run_course.Logs.{found_log}
use Rattle.run_acts.specs.run_note_record.RingsSoFar.{RingedBehind}
use Rattle.run_acts.specs.run_note_record.Stored.{StoresOff, Stores}
use Rattle.unit_minutes.specs.Image.{IsFoundBy}
use Rattle.device_calls.specs.safety_model.Safe.{Devices}
use Rattle.run_minutes.specs.run_promise.Between.{devices}
use Rattle.run_acts.specs.run_record.Powering.{read_values}
use Rattle.run_acts.specs.declared.run.Power.TheVariants.{Lit}
use Rattle.run_acts.specs.Power.{is_lit, has_power}
use Rattle.run_acts.specs.Room.{bare_seats}
use Rattle.run_acts.specs.Recording.{log_of, values_of, InSecondBy, GoesOnOrCut, IsNow, RunCut, RunRecorded}
use Rattle.run_acts.specs.RunRinged.{seats_of, with_cut, InSecondRinged, RunRinged}
use Rattle.run_acts.specs.Stood.{TellsOn, HaveStood}
use Rattle.run_acts.proofs.Stood.{stood-on, stood-told}
use Rattle.recorder_with_cards.proofs.Resumed.{wholes-of}
use Rattle.recorder_with_cards.proofs.FreshStood.{begins-stood}
use Rattle.recorder_with_cards.proofs.StoodSeconds.{cut-ends}
use Rattle.recorder_with_cards.proofs.WakesStood.{here-tells, found-tells}
use Rattle.recorder_with_cards.proofs.RingsHere.{here-cut}
use Rattle.run_acts.specs.RunCards.{vehicle_in, CardsBehind, CardsIn}
use Rattle.recorder_with_cards.proofs.ActsRecorded.{cut-in, cut}
use Rattle.recorder_with_cards.proofs.ActsEvented.{in-evented_cut, in-evented_lit}
use Rattle.recorder_with_cards.specs.Woken.{EventsWoken, RingsWoken}
use Rattle.recorder_with_cards.proofs.WokenRinged.{learned-ringed, cut-ringed, lit-woken}
use Rattle.recorder_with_cards.proofs.WokenEvented.{cut-woken}
use Rattle.recorder_with_cards.proofs.Start.{if-err}
use Rattle.recorder_with_cards.proofs.Read.{may-of, unit-tells, image-of, at-image, kept-early, learned}
use Rattle.recorder_with_cards.specs.Noting.{NotesWaking, read_outcome, read_run}
use Rattle.recorder_with_cards.proofs.WakeNoted.{as-read}
use Rattle.run_minutes.proofs.Later.{later-same}
use Rattle.run_outcome.proofs.Broken.{broke-found, broke-then}
use Rattle.run_acts.proofs.Uncut.{uncut-broke, cut-broke}
use Rattle.run_acts.specs.run_note_record.Ringed.{notes_in}
use Rattle.run_acts.specs.Truths.{truths_of, marked}
use Rattle.run_acts.proofs.AllStay.{all-of}
use Rattle.run_acts.specs.run_course.Moments.{and_break}
use Rattle.run_outcome.specs.declared.outcome.Outcome.{Outcome}
use Rattle.recorder_with_cards.specs.CardsWoken.{CardsWoken}
use Rattle.recorder_with_cards.proofs.RingsHeld.{ringed-cut, ringed-lit}
use Rattle.recorder_with_cards.proofs.CardsHeld.{in-carded_cut, in-carded_lit}
use Rattle.recorder_with_cards.proofs.ActsCards.{cards-on}
use Rattle.recorder_with_cards.proofs.WakesCards.{learned-cards}
use Rattle.run_minutes.specs.Later.{failed_tears, AreCalm}
use Rattle.run_minutes.proofs.Calm.{calm-more, calm-none, calm-then, found-tears}
use Rattle.run_acts.specs.Stays.{AllStay}
use Rattle.run_outcome.specs.Broken.{BreaksDown}
use Rattle.run_acts.specs.Evented.{CutEvented, RunEvented}
use Rattle.run_minutes.specs.Books.{HaveTime}
use Rattle.run_outcome.specs.declared.outcome.TheConstants.{MOST_OWED}
use Rattle.device_calls.specs.run_unit_course.Followed.{MayPower}
use Rattle.run_minutes.specs.run_promise.Origin.{Origin}
use Rattle.recorder_with_cards.specs.Carded.{RunCarded}
use Rattle.trace_model.specs.Trace.{TraceSecond}
use Rattle.run_acts.specs.run_note_record.Evented.{limit_in}
use Rattle.run_minutes.specs.Keeping.{with_lines}
use Rattle.recorder_with_cards.proofs.resuming.found.Given.{Over}
use Rattle.recorder_with_cards.proofs.resuming.found.Goals.{After-cut, After-from_residual, After-resume}
use Rattle.run_minutes.proofs.Writes.{wrote-none}
use Rattle.recorder_with_cards.proofs.resuming.found.Goals as goal

-- ---- WHAT THE READING AND RESUMING LEAVE

module _ (g : Over) (c : After-resume g) where
  abbrev run : Run
  run = c.args.run.now

  abbrev out : Outcome
  out = c.args.outcome.now

  abbrev mid : Run
  mid = c.resume.new.run

  abbrev told : Outcome
  told = c.resume.new.outcome

  abbrev dev0 : Devices
  dev0 = devices (g.M.Medium.state c.args.unit.now) (g.C.Chip.state c.args.card_a.now) (g.D.Chip.state c.args.card_b.now)

  abbrev dev1 : Devices
  dev1 = devices (g.M.Medium.state c.resume.new.unit) (g.C.Chip.state c.resume.new.card_a) (g.D.Chip.state c.resume.new.card_b)

  abbrev began : RunLog
  began = log_of (record out { breaks = c.learn.new.breaks })

  next : mid.next ≡ run.next
  next = c.resume.ensures.resumed.next ∙ ap (λ (r : Run). r.next) c.learn.ensures.run

  log : began ≡ found_log run.unfound c.last_kept-kept.result (log_of out)
  log = ap (λ (l : Listed Break). log_of (record out { breaks = l })) c.learn.ensures.breaks

  values : values_of c.learn.new.self (record out { breaks = c.learn.new.breaks }) ≡ read_values c.args.waking.journal.kept (values_of run out)
  values = learned run c.learn.new.self out c.learn.new.breaks c.last_kept-kept.result c.learn.ensures.run c.learn.ensures.breaks c.learn.ensures.same ∙ ap (λ (k : ℕ). read_values k (values_of run out)) c.last_kept-kept.ensures.kept

  -- the breaks that were told before are found, and no line of a tear comes with that
  broke : BreaksDown out.breaks.items c.learn.new.breaks.items (g.M.Medium.state c.args.unit.now) (g.M.Medium.state c.args.unit.now)
  broke = broke-found _ _ {old = (g.M.Medium.state c.args.unit.now)} {new = (g.M.Medium.state c.args.unit.now)} (ap (λ (l : Listed Break). l.items) c.learn.ensures.breaks) (omega arith)

  calm : AreCalm out.breaks.items c.learn.new.breaks.items dev0 dev0
  calm = calm-none dev0 (ap (λ (l : Listed Break). failed_tears l.items) c.learn.ensures.breaks ∙ found-tears run.unfound c.last_kept-kept.result out.breaks.items)

  -- a second that may get power, with room for what is told
  module _ (room : length out.marks.items + MOST_OWED * bare_seats run.keeper.cabin.slots.seats ≤ out.marks.room) (o : Origin) (done : List TraceSecond) (s : TraceSecond) (now : IsNow s c.args.waking.speed run) (has : has_power run.power run.next ≡ true) (time : HaveTime dev1) where
    room_learnt : length out.marks.items + MOST_OWED * bare_seats c.learn.new.self.keeper.cabin.slots.seats ≤ out.marks.room
    room_learnt = let same = ap (λ (r : Run). bare_seats r.keeper.cabin.slots.seats) c.learn.ensures.run in omega (arith, room, same)

    may : (rec : RunRecorded o done run out dev0) → MayPower rec.supply run.next
    may rec = may-of run.power rec.supply run.next rec.powers c.requires.may.dark has

    stay : RunRecorded o done run out dev0 → AllStay o (marked out.marks.items (truths_of o (log_of out) done)) 0 (log_of out) (notes_in (log_of out) done) c.learn.new.self.keeper.memory.registration run.keeper.cabin dev0
    stay rec = all-of o (marked out.marks.items (truths_of o (log_of out) done)) 0 (log_of out) (notes_in (log_of out) done) run.keeper.memory.registration c.learn.new.self.keeper.memory.registration run.keeper.cabin dev0 (ap (λ (r : Run). r.keeper.memory.registration) c.learn.ensures.run) rec.stay

    vehicle : RunRecorded o done run out dev0 → c.learn.new.self.keeper.memory.registration ≡ vehicle_in o
    vehicle rec = ap (λ (r : Run). r.keeper.memory.registration) c.learn.ensures.run ∙ rec.vehicle

    resumed : RunRecorded o done run out dev0 → GoesOnOrCut (is_err c.resume.result) o done s (In 0) [] mid told dev1
    resumed rec = (c.resume.ensures.promises room_learnt).recorded o rec.origin (vehicle rec) done s rec.supply (values_of run out) rec.recorded (stay rec) (may rec) now.number now.given values time

    limit : RunEvented o done run out dev0 → c.learn.new.self.keeper.memory.limit ≡ limit_in o
    limit all = ap (λ (r : Run). r.keeper.memory.limit) c.learn.ensures.run ∙ all.limit

    woken : RunEvented o done run out dev0 → EventsWoken (is_err c.resume.result) began o done s mid told dev1
    woken all =
        let rec = all.recorded in
        (c.resume.ensures.promises room_learnt).evented o rec.origin (vehicle rec) done s rec.supply (values_of run out) rec.recorded (stay rec) (may rec) now.number now.given now.speed_is values all.evented (limit all) time

    rung : (all : RunRinged o done run out dev0) → RingsWoken (is_err c.resume.result) began o done s all.spans mid (log_of told) dev1
    rung all =
        let rec = all.evented.recorded in
        let noted = ap (λ (r : Run). r.noted) c.learn.ensures.run in
        let counted = all.counted in
        let ringed : RingedBehind o done began s.number all.spans (seats_of run) dev0 = subst (λ (l : RunLog). RingedBehind o done l s.number all.spans (seats_of run) dev0) (sym log)
        (learned-ringed o done (log_of out) run.unfound c.last_kept-kept.result run.next s.number rec.recorded.recorded.followed.order now.number all.spans (seats_of run) dev0 all.ringed) in
        let off : StoresOff o (log_of out) run.unfound all.spans dev0 = subst (λ (b : Bool). Stores b o (log_of out) run.unfound run.keeper.odometer all.spans dev0) c.requires.may.dark all.stored in
        (c.resume.ensures.promises room_learnt).ringed o rec.origin (vehicle rec) done s rec.supply (values_of run out) rec.recorded (stay rec) (may rec) now.number now.given values all.spans (seats_of run) ringed (omega (arith, counted, noted)) off time

    shown : RunCarded o done run out dev0 → CardsWoken (is_err c.resume.result) began o done s mid (log_of told) dev1
    shown all =
        let rec = all.ringed.evented.recorded in
        let cards : CardsBehind o done began dev0 = subst (λ (l : RunLog). CardsBehind o done l dev0) (sym log)
        (learned-cards o done (log_of out) run.unfound c.last_kept-kept.result dev0 rec.recorded.recorded.followed.order all.ringed.evented.evented.gaps.known all.cards) in
        (c.resume.ensures.promises room_learnt).cards o rec.origin done s rec.supply (values_of run out) rec.recorded (stay rec) (may rec) now.number now.given now.speed_is values all.ringed.evented.evented (limit all.ringed.evented) (ap (λ (r : Run). r.keeper.memory.registration) c.learn.ensures.run ∙ all.vehicle) cards time

    -- what stood on them, or is exact as power comes, stands
    stood : RunCarded o done run out dev0 → HaveStood o done (log_of told) dev1
    stood all =
        let rec = all.ringed.evented.recorded in
        let U : State = g.M.Medium.state c.args.unit.now in
        let fresh : HaveStood o done (log_of out) dev0 = begins-stood o done run out dev0 all.ringed (λ lit. absurd (let bad : false ≡ true = sym c.requires.may.dark ∙ ap is_lit lit in cc))
        (wholes-of U (g.C.Chip.state c.args.card_a.now) (g.D.Chip.state c.args.card_b.now) (g.met.C.Chip.coherent c.args.card_a.now) (g.met.D.Chip.coherent c.args.card_b.now)) all.past in
        let learnt : HaveStood o done began dev0 = subst (λ (l : RunLog). HaveStood o done l dev0) (sym log)
        (stood-told o done (log_of out) (found_log run.unfound c.last_kept-kept.result (log_of out)) dev0 (found-tells done o.from (log_of out) run.unfound c.last_kept-kept.result rec.recorded.recorded.followed.order) fresh) in
        let stands = (c.resume.ensures.promises room_learnt).stands o rec.origin done s rec.supply (values_of run out) rec.recorded (stay rec) (may rec) now.number now.given now.speed_is values all.ringed.evented.evented (limit all.ringed.evented) (ap (λ (r : Run). r.keeper.memory.registration) c.learn.ensures.run ∙ all.vehicle) time in
        stood-told o done began (log_of told) dev1 stands.1 (stood-on o done began dev0 dev1 learnt stands.0)

-- ---- where the clock is judged to have been put back: that is never so behind what is recorded

module _ (g : Over) (c : After-from_residual g) where
  abbrev before : Devices
  before = devices (g.M.Medium.state c.args.unit.now) (g.C.Chip.state c.args.card_a.now) (g.D.Chip.state c.args.card_b.now)

  never : (o : Origin) (done : List TraceSecond) → RunRecorded o done c.args.run.now c.args.outcome.now before → has_power c.args.run.now.power c.args.run.now.next ≡ true → ⊥
  never o done rec has =
      let run : Run = c.args.run.now in
      let U : State = g.M.Medium.state c.args.unit.now in
      let powered = may-of run.power rec.supply run.next rec.powers c.requires.may.dark has in
      let image = image-of U.image (unit-tells o done rec.supply (values_of run c.args.outcome.now) before rec.recorded powered) in
      let early = kept-early o done rec.supply (values_of run c.args.outcome.now) before rec.recorded powered image.0 ((g.met.M.Medium.coherent c.args.unit.now).is_left image.0 image.1) in
      let is = (at-image (IsFoundBy c.args.waking.journal) U.image image.0 image.1 c.requires.told.loaded.found).kept in
      let kept = c.last_kept-kept.ensures.kept in
      let same = ap (λ (r : Run). r.next) c.learn.ensures.run in
      let back = c.in_err-judge_clock.ensures.back.1 in
      omega (arith, early, is, kept, same, back)

-- ---- where the unit failed, and power is lost

module _ (g : Over) (c : After-cut g) where
  abbrev resuming : After-resume g
  resuming = (goal.at.returns-then-is_err-clause-takes g c).After-resume

  abbrev lost : Outcome
  lost = record c.resume.new.outcome { breaks = c.cut.new.breaks }

  failed : is_err c.resume.result ≡ true
  failed = sym c.is_err.ensures.value ∙ c.if-is_err.true

  line : lost ≡ record c.resume.new.outcome { breaks = with_lines (cut_at c.resume.new.run.next true 0 ∷ []) c.resume.new.outcome.breaks }
  line = ap (λ (l : Listed Break). record c.resume.new.outcome { breaks = l }) c.cut.ensures.breaks

  module _ (room : length (out g resuming).marks.items + MOST_OWED * bare_seats (run g resuming).keeper.cabin.slots.seats ≤ (out g resuming).marks.room) (o : Origin) (done : List TraceSecond) (s : TraceSecond) (now : IsNow s c.args.waking.speed (run g resuming)) (has : has_power (run g resuming).power (run g resuming).next ≡ true) (time : HaveTime (dev1 g resuming)) where
    recorded_cut : RunRecorded o done (run g resuming) (out g resuming) (dev0 g resuming) → RunCut o done s c.cut.new.self lost (dev1 g resuming)
    recorded_cut rec =
        cut o done s 0 s.actions (mid g resuming) c.cut.new.self (told g resuming) lost (dev1 g resuming) rec.origin (now.number ∙ sym (next g resuming)) ([], refl, refl)
        (subst (λ (f : Bool). GoesOnOrCut f o done s (In 0) [] (mid g resuming) (told g resuming) (dev1 g resuming)) failed (resumed g resuming room o done s now has time rec)) c.cut.ensures.run line

    evented_cut : RunEvented o done (run g resuming) (out g resuming) (dev0 g resuming) → CutEvented o done s c.cut.new.self lost (dev1 g resuming)
    evented_cut all =
        cut-woken o done s (mid g resuming) c.cut.new.self (told g resuming) lost (dev1 g resuming) (began g resuming) (subst (λ (f : Bool). EventsWoken f (began g resuming) o done s (mid g resuming) (told g resuming) (dev1 g resuming)) failed (woken g resuming room o done s now has time all)) (recorded_cut all.recorded)
        c.cut.ensures.run line (now.number ∙ sym (next g resuming))

    ringed_cut : RunRinged o done (run g resuming) (out g resuming) (dev0 g resuming) → InSecondRinged o done s 0 c.cut.new.self lost (dev1 g resuming)
    ringed_cut all =
        cut-ringed o done s (mid g resuming) c.cut.new.self (told g resuming) lost (dev1 g resuming) (began g resuming) all.spans (subst (λ (f : Bool). RingsWoken f (began g resuming) o done s all.spans (mid g resuming) (log_of (told g resuming)) (dev1 g resuming)) failed (rung g resuming room o done s now has time all))
        (evented_cut all.evented) c.cut.ensures.run line (now.number ∙ sym (next g resuming)) 0

-- ---- the room, and what is taken

pub cut-requires-clause-room : goal.cut-requires-clause-room
cut-requires-clause-room g c =
    up-room c.args.run.now c.learn.new.self c.resume.new.run c.args.outcome.now c.learn.new.breaks c.resume.new.outcome (ap (λ (r : Run). r.keeper) c.learn.ensures.run) c.learn.ensures.same (ap (λ (l : Listed Break). l.room) c.learn.ensures.breaks) c.resume.ensures.takes
    c.requires.may.breaks

pub returns-then-is_err-clause-takes : goal.returns-then-is_err-clause-takes
returns-then-is_err-clause-takes g c =
    let stand = c.resume.ensures.behind.held.held.stand in
    up-lost c.args.run.now c.learn.new.self c.resume.new.run c.args.outcome.now c.learn.new.breaks c.resume.new.outcome (ap (λ (r : Run). r.keeper) c.learn.ensures.run) c.learn.ensures.same (ap (λ (l : Listed Break). l.room) c.learn.ensures.breaks) c.resume.ensures.takes
    c.resume.new.run.next stand.0 stand.1 (cut_at c.resume.new.run.next true 0) c.cut.new.self c.cut.new.breaks stand.2 c.cut.ensures.run c.cut.ensures.breaks

pub returns-clause-takes : goal.returns-clause-takes
returns-clause-takes g c =
    up-awake c.args.run.now c.learn.new.self c.resume.new.run c.args.outcome.now c.learn.new.breaks c.resume.new.outcome (ap (λ (r : Run). r.keeper) c.learn.ensures.run) c.learn.ensures.same (ap (λ (l : Listed Break). l.room) c.learn.ensures.breaks) c.resume.ensures.takes

pub returns-then-is_err-clause-going : goal.returns-then-is_err-clause-going
returns-then-is_err-clause-going g c =
    let woken_run : Run = c.resume.new.run in
    let held = c.resume.ensures.behind.held.held in
    let same = next g (resuming g c) in
    let low = c.requires.going.low in
    let small = c.requires.going.small in
    subst (λ (r : Run). IsAt (r.next / 60) r (g.M.Medium.state c.resume.new.unit) (g.C.Chip.card c.resume.new.card_a) (g.D.Chip.card c.resume.new.card_b) (g.C.Chip.state c.resume.new.card_a) (g.D.Chip.state c.resume.new.card_b)) (sym c.cut.ensures.run)
    (cut-at woken_run (woken_run.next / 60) (woken_run.next / 60) woken_run.next (omega (arith, low, same)) (omega (arith, small, same)) held held.minute (omega arith))

-- ---- what is noted

noted-so : (g : Over) (c : After-resume g) (failed_so : Bool) → is_err c.resume.result ≡ failed_so → NotesWaking c.args.waking.journal.kept c.args.waking.speed failed_so (read_run (run g c) (out g c)) (mid g c) (read_outcome c.args.waking.journal.kept (run g c) (out g c)) (told g c) (dev0 g c) (dev1 g c)
noted-so g c failed_so is =
    as-read c.args.waking.journal.kept c.last_kept-kept.result c.args.waking.speed failed_so (run g c) c.learn.new.self (mid g c) (out g c) c.learn.new.breaks (told g c) (dev0 g c) (dev1 g c) c.learn.ensures.run c.learn.ensures.breaks c.last_kept-kept.ensures.kept
    (subst (λ (f : Bool). NotesWaking c.args.waking.journal.kept c.args.waking.speed f c.learn.new.self (mid g c) (record (out g c) { breaks = c.learn.new.breaks }) (told g c) (dev0 g c) (dev1 g c)) is c.resume.ensures.noted)

pub returns-then-is_err-clause-noted : goal.returns-then-is_err-clause-noted
returns-then-is_err-clause-noted g c = record { failed = true; woken = c.resume.new.run; out = c.resume.new.outcome; waking = noted-so g (resuming g c) true (failed g c); ends = (c.cut.ensures.run, line g c) }

pub returns-clause-noted : goal.returns-clause-noted
returns-clause-noted g c = record {
  failed = false;
  woken = c.resume.new.run;
  out = c.resume.new.outcome;
  waking = noted-so g (goal.at.returns-clause-noted g c).After-resume false (sym c.is_err.ensures.value ∙ c.if-is_err.false);
  ends = (refl, refl);
}

-- ---- where no tear of a failed call is told no card has broken down

pub returns-in_err-judge_clock-clause-woken : goal.returns-in_err-judge_clock-clause-woken
returns-in_err-judge_clock-clause-woken g c = record {
  late =
      let back : IfErr c.from_residual.result (IsClockBack c.last_kept-kept.result c.learn.new.self.next) = first_of (search rules, grind (arith, common_steps)) in
      if-err c.from_residual.result (λ fault is. subst IsFoundLater (sym is.0) is.1) back;
  next = ap (λ (r : Run). r.next) c.learn.ensures.run;
  awake = first_of (search rules, grind (arith, common_steps));
  unfound = first_of (search rules, grind (arith, common_steps));
  refused = refl;
}

pub returns-in_err-judge_clock-clause-promises : goal.returns-in_err-judge_clock-clause-promises
returns-in_err-judge_clock-clause-promises g c = λ room. record {
  recorded = λ o done s now rec has time. absurd (never g c o done rec has);
  evented = λ o done s now all has time. absurd (never g c o done all.recorded has);
  ringed = λ o done s now all has time. absurd (never g c o done all.evented.recorded has);
  cards = λ o done s now all has time. absurd (never g c o done all.ringed.evented.recorded has);
}

pub returns-in_err-judge_clock-clause-goes : goal.returns-in_err-judge_clock-clause-goes
returns-in_err-judge_clock-clause-goes g c = record {
  later = later-same (before g c);
  calm = calm-none (before g c) (ap (λ (l : Listed Break). failed_tears l.items) c.learn.ensures.breaks ∙ found-tears c.args.run.now.unfound c.last_kept-kept.result c.args.outcome.now.breaks.items);
  broke = broke-found _ _ {old = (g.M.Medium.state c.args.unit.now)} {new = (g.M.Medium.state c.args.unit.now)} (ap (λ (l : Listed Break). l.items) c.learn.ensures.breaks) (omega arith);
  most = wrote-none 94 2152 (devices (g.M.Medium.state c.args.unit.now) (g.C.Chip.state c.args.card_a.now) (g.D.Chip.state c.args.card_b.now));
}

pub returns-then-is_err-clause-woken : goal.returns-then-is_err-clause-woken
returns-then-is_err-clause-woken g c = record {
  late = tt;
  next = ap (λ (r : Run). r.next) c.cut.ensures.run ∙ c.resume.ensures.resumed.next ∙ ap (λ (r : Run). r.next) c.learn.ensures.run;
  awake = inr (ap (λ (r : Run). r.power) c.cut.ensures.run);
  unfound = first_of (search rules, grind (arith, common_steps));
  refused = c.resume.ensures.resumed.refused;
}

pub returns-then-is_err-clause-promises : goal.returns-then-is_err-clause-promises
returns-then-is_err-clause-promises g c = λ room. record {
  recorded = λ o done s now rec has time. cut-in o done s c.cut.new.self (lost g c) (dev1 g (resuming g c)) 0 (recorded_cut g c room o done s now has time rec);
  evented = λ o done s now all has time. in-evented_cut o done s c.cut.new.self (lost g c) (dev1 g (resuming g c)) 0 (evented_cut g c room o done s now has time all);
  ringed = λ o done s now all has time. ringed_cut g c room o done s now has time all;
  cards =
      λ o done s now all has time.
      let after : Devices = dev1 g (resuming g c) in
      let cards = subst (λ (f : Bool). CardsWoken f (began g (resuming g c)) o done s c.resume.new.run (log_of c.resume.new.outcome) after) (failed g c) (shown g (resuming g c) room o done s now has time all) in
      let is_log : with_cut (log_of c.resume.new.outcome) s [] ≡ log_of (lost g c) = ap (λ (u : ℕ). and_break (log_of c.resume.new.outcome) (cut_at u true 0)) (now.number ∙ sym (next g (resuming g c))) ∙ sym (ap log_of (line g c)) in
      let rung_ = ringed-cut o done s c.cut.new.self (lost g c) after 0 (ap (λ (q : Run). is_lit q.power) c.cut.ensures.run) (ringed_cut g c room o done s now has time all.ringed) in
      let f = all.ringed.evented.recorded.recorded.recorded.followed in
      in-carded_cut o done s c.cut.new.self (lost g c) after 0 (record {
        ringed = rung_;
        vehicle = ap (λ (q : Run). q.keeper.memory.registration) c.cut.ensures.run ∙ cards.0;
        cards = subst (λ (l : RunLog). CardsBehind o (done ++ s ∷ []) l after) is_log cards.1;
        past = cut-ends o done s (log_of c.resume.new.outcome) c.cut.new.self (lost g c) after rung_.evented.cut (now.number ∙ sym (next g (resuming g c)) ∙ sym (ap (λ (q : Run). q.next) c.cut.ensures.run))
            (subst (λ (l : RunLog). TellsOn (log_of c.resume.new.outcome) l done) is_log
            (here-tells done o.from (log_of c.resume.new.outcome) (with_cut (log_of c.resume.new.outcome) s []) s.number f.order (let number = now.number in let next_ = f.next in omega (arith, number, next_)) (here-cut (log_of c.resume.new.outcome) s [])))
            (stood g (resuming g c) room o done s now has time all);
      });
}

pub returns-then-is_err-clause-goes : goal.returns-then-is_err-clause-goes
returns-then-is_err-clause-goes g c = record {
  later = c.resume.ensures.goes.later;
  calm = calm-then (dev0 g (resuming g c)) (dev0 g (resuming g c)) (dev1 g (resuming g c)) {mids = c.learn.new.breaks.items} (calm g (resuming g c)) (calm-more (dev0 g (resuming g c)) (dev1 g (resuming g c)) _ c.resume.ensures.goes.calm (ap (λ (l : Listed Break). l.items) c.cut.ensures.breaks) refl);
  broke =
      broke-then (broke g (resuming g c))
      (cut-broke _ _ _ _ _ (g.M.Medium.state c.args.unit.now) (g.M.Medium.state c.resume.new.unit) (is_err c.resume.result) c.requires.told.loaded.works c.resume.ensures.behind.held.cause (failed g c) c.resume.ensures.resumed.uncut (ap (λ (l : Listed Break). l.items) c.cut.ensures.breaks));
  most = c.resume.ensures.goes.most;
}

pub returns-clause-woken : goal.returns-clause-woken
returns-clause-woken g c = record {
  late = tt;
  next = c.resume.ensures.resumed.next ∙ ap (λ (r : Run). r.next) c.learn.ensures.run;
  awake =
      let well : is_err c.resume.result ≡ false = sym c.is_err.ensures.value ∙ c.if-is_err.false in
      inl (ok_gives c.resume.result c.resume.ensures.resumed.power well, ok_gives c.resume.result c.resume.ensures.resumed.owes well);
  unfound = first_of (search rules, grind (arith, common_steps));
  refused = c.resume.ensures.resumed.refused;
}

pub returns-clause-promises : goal.returns-clause-promises
returns-clause-promises g c = λ room. record {
  recorded =
      λ o done s now rec has time.
      let here = (goal.at.returns-clause-promises g c).After-resume in
      let well : is_err c.resume.result ≡ false = sym c.is_err.ensures.value ∙ c.if-is_err.false in
      let lit : c.resume.new.run.power ≡ Lit = ok_gives c.resume.result c.resume.ensures.resumed.power well in
      subst (λ (b : Bool). InSecondBy b o done s 0 (mid g here) (told g here) (dev1 g here)) (sym (ap is_lit lit)) (subst (λ (f : Bool). GoesOnOrCut f o done s (In 0) [] (mid g here) (told g here) (dev1 g here)) well (resumed g here room o done s now has time rec));
  evented =
      λ o done s now all has time.
      let here = (goal.at.returns-clause-promises g c).After-resume in
      let well : is_err c.resume.result ≡ false = sym c.is_err.ensures.value ∙ c.if-is_err.false in
      in-evented_lit o done s (mid g here) (told g here) (dev1 g here) 0 (subst (λ (f : Bool). EventsWoken f (began g here) o done s (mid g here) (told g here) (dev1 g here)) well (woken g here room o done s now has time all)).0;
  ringed =
      λ o done s now all has time.
      let here = (goal.at.returns-clause-promises g c).After-resume in
      let well : is_err c.resume.result ≡ false = sym c.is_err.ensures.value ∙ c.if-is_err.false in
      lit-woken o done s (mid g here) (told g here) (dev1 g here) (began g here) all.spans (subst (λ (f : Bool). EventsWoken f (began g here) o done s (mid g here) (told g here) (dev1 g here)) well (woken g here room o done s now has time all.evented))
      (subst (λ (f : Bool). RingsWoken f (began g here) o done s all.spans (mid g here) (log_of (told g here)) (dev1 g here)) well (rung g here room o done s now has time all));
  cards =
      λ o done s now all has time.
      let here = (goal.at.returns-clause-promises g c).After-resume in
      let well : is_err c.resume.result ≡ false = sym c.is_err.ensures.value ∙ c.if-is_err.false in
      let on = subst (λ (f : Bool). EventsWoken f (began g here) o done s (mid g here) (told g here) (dev1 g here)) well (woken g here room o done s now has time all.ringed.evented) in
      let cards = subst (λ (f : Bool). CardsWoken f (began g here) o done s (mid g here) (log_of (told g here)) (dev1 g here)) well (shown g here room o done s now has time all) in
      let low = c.requires.going.low in
      let number = now.number in
      let positive : 0 < s.number = omega (arith, low, number) in
      in-carded_lit o done s (mid g here) (told g here) (dev1 g here) 0 (record {
        ringed = ringed-lit o done s (mid g here) (told g here) (dev1 g here) 0 (ap is_lit on.0.within.lit) (lit-woken o done s (mid g here) (told g here) (dev1 g here) (began g here) all.ringed.spans on (subst (λ (f : Bool). RingsWoken f (began g here) o done s all.ringed.spans (mid g here) (log_of (told g here)) (dev1 g here)) well (rung g here room o done s now has time all.ringed)));
        vehicle = cards.0;
        cards = cards-on o done s 0 (mid g here) (told g here) (dev1 g here) [] s.actions on.0.within.within.b refl refl positive (record { goes = on.0.within; began = refl }) (subst (λ (l : RunLog). CardsIn o done s l [] (log_of (told g here)) (dev1 g here)) (sym on.1) cards.1);
        past = stood g here room o done s now has time all;
      });
}

pub returns-clause-goes : goal.returns-clause-goes
returns-clause-goes g c = record {
  later = c.resume.ensures.goes.later;
  calm =
      let here = (goal.at.returns-clause-goes g c).After-resume in
      calm-then (dev0 g here) (dev0 g here) (dev1 g here) {mids = c.learn.new.breaks.items} (calm g here) c.resume.ensures.goes.calm;
  broke = broke-then (broke g (goal.at.returns-clause-goes g c).After-resume) (uncut-broke _ _ (g.M.Medium.state c.args.unit.now) (g.M.Medium.state c.resume.new.unit) (is_err c.resume.result) c.resume.ensures.behind.held.cause (sym c.is_err.ensures.value ∙ c.if-is_err.false) c.resume.ensures.resumed.uncut);
  most = c.resume.ensures.goes.most;
}

pub resume-requires-clause-may : goal.resume-requires-clause-may
resume-requires-clause-may g c = record {
  dark = first_of (search rules, grind (arith, common_steps));
  breaks = first_of (search rules, grind (arith, common_steps));
  finds = first_of (search rules, grind (arith, common_steps));
}

pub resume-requires-clause-told : goal.resume-requires-clause-told
resume-requires-clause-told g c = c.requires.told
