use Rattle.std.proofs.lemmas.Grind.{common_steps}
use Rattle.std.proofs.Common.{rules, ◌≡◌, ◌∙◌, ℕ, inl, inr, ◌+◌, ◌/◌, ◌≤◌, Bool, true, false, Some, None, List, [], ◌∷◌, ◌++◌, length, refl, ap, sym, subst, arith, ◌*◌}
use Rattle.tach_media.proofs.Runs.{cause_after, on_ok}
use Rattle.minute_rules.specs.minute_model.Span.{ungiven_of}
use Rattle.run_acts.specs.run_crew.declared.cabin.Cabin.{Cabin}
use Rattle.run_acts.specs.run_crew.Cabin.{CabinIsSound, with_card_in}
use Rattle.run_acts.specs.Power.{with_cabin}
use Rattle.run_acts.specs.Going.{CanBeCut, RunHasPowerAllSeated}
use Rattle.run_acts.specs.Room.{Takes, waiting}
use Rattle.run_minutes.specs.card_slots.Calls.{seat_in}
use Rattle.run_acts.specs.Acting.{IsSettled, IsBareIn, told_of}
use Rattle.recorder_with_cards.proofs.Puts.{put-held, put-going, put-takes, put-then, put-bare, put-falls, seat-put}
use Rattle.std.specs.Prelude.{is_err}
use Rattle.log_model.specs.Log.{In, RunLog}
use Rattle.device_calls.specs.safety_model.Safe.{Devices}
use Rattle.run_minutes.specs.run_promise.Between.{devices}
use Rattle.run_outcome.specs.declared.outcome.Outcome.{Outcome}
use Rattle.run_minutes.proofs.DecidedBooked.{time-before}
use Rattle.minute_rules.specs.Kept.{Kept as Minutes}
use Rattle.run_acts.specs.declared.run.Run.{Run}
use Rattle.run_acts.specs.declared.run.Power.{Power}
use Rattle.run_acts.specs.Recording.{log_of, values_of, GoesOnOrFails}
use Rattle.run_acts.proofs.KeptSeats.{stood-later}
use Rattle.run_acts.specs.Settling.{RecordsSettling}
use Rattle.run_acts.specs.run_note_record.Noting.{Acting}
use Rattle.run_acts.specs.Evented.{EventsGoOn, EventsSettling}
use Rattle.log_model.specs.declared.lines.Break.{Break}
use Rattle.trace_model.specs.declared.Action.TheVariants.{Insert}
use Rattle.run_minutes.specs.declared.keeper.Moment.{Moment}
use Rattle.run_acts.specs.run_course.Moment.{entering_by}
use Rattle.run_acts.specs.run_rings.Spans.{with_second}
use Rattle.run_acts.specs.RunRinged.{RingsGoOn}
use Rattle.run_acts.proofs.GoesOn.{settled-left, settled-later, settled-noted}
use Rattle.run_acts.proofs.RingedLines.{AreTears, up-to-tells}
use Rattle.run_acts.proofs.Readings.{spans-here}
use Rattle.run_acts.proofs.RingedSecond.{more-left}
use Rattle.run_acts.proofs.RingedClosed.{fewer-seats}
use Rattle.recorder_with_cards.proofs.ActsRecorded.{refuses}
use Rattle.recorder_with_cards.proofs.Inserted.{at-is, unsettled, inserted, waiting as waits-within, settled-places, next-judged, next-cards, unsettled-evented, inserted-evented}
use Rattle.recorder_with_cards.proofs.InsertedRinged.{unsettled-ringed, inserted-ringed, odometer-mid}
use Rattle.tach_media.specs.Medium.{State, HasCause}
use Rattle.run_acts.specs.NotedEvents.{NotesEvents}
use Rattle.run_acts.proofs.NotedEvents.{then-noted}
use Rattle.run_acts.specs.Faults.{NotesSettling}
use Rattle.recorder_with_cards.specs.Accepting.{put_run}
use Rattle.run_acts.proofs.ActsNoted.{settles-these}
use Rattle.recorder_with_cards.proofs.WakeNoted.{anew-these}
use Rattle.run_insertion.specs.Entering.{ending_of}
use Rattle.run_acts.proofs.Ringing.{settling-leaves}
use Rattle.recorder_with_cards.proofs.EnteredRings.{writes-behind}
use Rattle.run_minutes.proofs.Later.{later-then}
use Rattle.run_acts.specs.RunCards.{vehicle_in, StillShow, CardsSettling, PlacesSettling, CardsGoOn}
use Rattle.run_acts.specs.Stood.{LetStand, StandsSettling}
use Rattle.run_acts.proofs.Stood.{stand-then}
use Rattle.recorder_with_cards.proofs.InsertedCards.{unsettled-cards, inserted-cards}
use Rattle.recorder_with_cards.proofs.Staying.{settled-watched}
use Rattle.run_minutes.proofs.Calm.{calm-then}
use Rattle.run_minutes.specs.Books.{HaveTime}
use Rattle.run_outcome.specs.declared.outcome.TheConstants.{MOST_OWED}
use Rattle.recorder_with_cards.proofs.inserting.insert.Given.{Over}
use Rattle.recorder_with_cards.proofs.inserting.insert.Goals.{After-accept_in, After-from_residual, After-settle, In_ok-settle}
use Rattle.run_minutes.proofs.Writes.{wrote-more, wrote-then}
use Rattle.recorder_with_cards.proofs.inserting.insert.Goals as goal

-- ---- WHAT THE SETTLING LEAVES

module _ (g : Over) (c : After-settle g) where
  abbrev put : Run
  put = put_run c.args.put.slot c.args.put.card c.args.run.now

  abbrev found : Devices
  found = devices (g.M.Medium.state c.args.unit.now) (g.C.Chip.state c.args.card_a.now) (g.D.Chip.state c.args.card_b.now)

  abbrev settled : Devices
  settled = devices (g.M.Medium.state c.settle.new.unit) (g.C.Chip.state c.settle.new.card_a) (g.D.Chip.state c.settle.new.card_b)

  bare : IsBareIn (with_card_in c.args.put.slot c.args.put.card c.args.run.now.keeper.cabin) c.args.put.slot
  bare =
      let h = c.requires.acting.going in
      put-bare c.args.put.slot c.args.put.card c.args.run.now.keeper.cabin (ungiven_of h.span) (subst (λ (b : Cabin). CabinIsSound (ungiven_of h.span) None b) c.put_in.ensures.kept (c.put_in.ensures.stands (ungiven_of h.span) h.cabin))

  taken : Takes 0 0 0 put c.settle.new.run c.args.outcome.now c.settle.new.outcome
  taken = subst (λ (b : Cabin). Takes 0 0 0 (with_cabin b c.args.run.now) c.settle.new.run c.args.outcome.now c.settle.new.outcome) c.put_in.ensures.kept c.settle.ensures.takes

-- the card sits in its slot
seat-there : (g : Over) (c : In_ok-settle g) → seat_in c.settle.new.run.keeper.cabin.slots.seats c.args.put.slot ≡ Some (record { card = c.args.put.card; newest = None })
seat-there g c =
    let h = c.requires.acting.going in
    let cabin = c.args.run.now.keeper.cabin in
    let stands = subst (λ (b : Cabin). CabinIsSound (ungiven_of h.span) None b) c.put_in.ensures.kept (c.put_in.ensures.stands (ungiven_of h.span) h.cabin) in
    let here = subst (λ (b : Cabin). IsBareIn b c.args.put.slot) (sym c.put_in.ensures.kept) (put-bare c.args.put.slot c.args.put.card cabin (ungiven_of h.span) stands) in
    (c.in_ok-settle.ensures.stands.bare refl c.args.put.slot here).0 ∙ ap (λ (b : Cabin). seat_in b.slots.seats c.args.put.slot) c.put_in.ensures.kept ∙ seat-put c.args.put.slot c.args.put.card cabin

-- where the unit failed
module _ (g : Over) (c : After-from_residual g) where
  failed : true ≡ is_err c.from_residual.result
  failed = search rules

  unsettles : IsSettled c.args.put.at true (put_run c.args.put.slot c.args.put.card c.args.run.now) c.settle.new.run c.args.outcome.now c.settle.new.outcome
  unsettles = subst (λ (b : Cabin). IsSettled c.args.put.at true (with_cabin b c.args.run.now) c.settle.new.run c.args.outcome.now c.settle.new.outcome) c.put_in.ensures.kept c.in_err-settle.ensures.settled

-- and where the card was judged
module _ (g : Over) (c : After-accept_in g) where
  abbrev settling : After-settle g
  settling = (goal.at.returns-clause-behind g c).After-settle

  abbrev behind : Devices
  behind = devices (g.M.Medium.state c.accept_in.new.unit) (g.C.Chip.state c.accept_in.new.card_a) (g.D.Chip.state c.accept_in.new.card_b)

  settles : IsSettled c.args.put.at false (put g settling) c.settle.new.run c.args.outcome.now c.settle.new.outcome
  settles = subst (λ (b : Cabin). IsSettled c.args.put.at false (with_cabin b c.args.run.now) c.settle.new.run c.args.outcome.now c.settle.new.outcome) c.put_in.ensures.kept c.in_ok-settle.ensures.settled

  records : RecordsSettling c.in_ok-settle.ensures.keeps.decided c.args.put.at false (put g settling) c.settle.new.run c.args.outcome.now c.settle.new.outcome (found g settling) (settled g settling)
  records =
      subst (λ (b : Cabin). RecordsSettling c.in_ok-settle.ensures.keeps.decided c.args.put.at false (with_cabin b c.args.run.now) c.settle.new.run c.args.outcome.now c.settle.new.outcome (found g settling) (settled g settling)) c.put_in.ensures.kept c.in_ok-settle.ensures.keeps.recorded

  time-settled : HaveTime behind → HaveTime (settled g settling)
  time-settled time = time-before (settled g settling) behind c.accept_in.ensures.goes.later.unit.clock c.accept_in.ensures.goes.later.card_a.clock c.accept_in.ensures.goes.later.card_b.clock time

  room-then : length c.args.outcome.now.marks.items + 3 * c.args.run.now.minutes.owing + MOST_OWED ≤ c.args.outcome.now.marks.room → length c.settle.new.outcome.marks.items + MOST_OWED ≤ c.settle.new.outcome.marks.room
  room-then room =
      let marks = (taken g settling).marks in
      let rooms = (taken g settling).rooms.0 in
      let was = ap (λ (p : Power). waiting p c.args.run.now.minutes.owing) c.requires.acting.lit in
      omega (arith, room, marks, rooms, was)

pub settle-requires-clause-may : goal.settle-requires-clause-may
settle-requires-clause-may g c = record {
  lit = c.requires.acting.lit;
  low = c.requires.acting.low;
  small = c.requires.acting.small;
  held =
      let run = c.args.run.now in let h = c.requires.acting.going in
      let stands = subst (λ (b : Cabin). CabinIsSound (ungiven_of h.span) None b) c.put_in.ensures.kept (c.put_in.ensures.stands (ungiven_of h.span) h.cabin) in
      subst (λ (b : Cabin). CanBeCut (run.next / 60) (with_cabin b run) (g.M.Medium.state c.args.unit.now) (g.C.Chip.card c.args.card_a.now) (g.D.Chip.card c.args.card_b.now) (g.C.Chip.state c.args.card_a.now) (g.D.Chip.state c.args.card_b.now))
      (sym c.put_in.ensures.kept) (put-held c.args.put.slot c.args.put.card (run.next / 60) run (ungiven_of h.span) stands c.requires.acting.held);
  going =
      let run = c.args.run.now in (
        None,
        subst (λ (b : Cabin). RunHasPowerAllSeated (run.next / 60) (with_cabin b run) (g.M.Medium.state c.args.unit.now) (g.C.Chip.card c.args.card_a.now) (g.D.Chip.card c.args.card_b.now) (g.C.Chip.state c.args.card_a.now) (g.D.Chip.state c.args.card_b.now))
            (sym c.put_in.ensures.kept) (put-going c.args.put.slot c.args.put.card (run.next / 60) run (λ from s. subst (λ (b : Cabin). CabinIsSound from None b) c.put_in.ensures.kept (c.put_in.ensures.stands from s)) c.requires.acting.going),
      );
}

pub returns-in_err-settle-clause-takes : goal.returns-in_err-settle-clause-takes
returns-in_err-settle-clause-takes g c =
    let run = c.args.run.now in
    put-takes c.args.put.slot c.args.put.card run c.requires.may.empty c.settle.new.run c.args.outcome.now c.settle.new.outcome
    (taken g (goal.at.returns-in_err-settle-clause-takes g c).After-settle)

pub returns-clause-takes : goal.returns-clause-takes
returns-clause-takes g c =
    let run = c.args.run.now in
    put-then c.args.put.slot c.args.put.card run c.requires.may.empty c.settle.new.run c.accept_in.new.run c.args.outcome.now c.settle.new.outcome c.accept_in.new.outcome
    (taken g (settling g c)) c.accept_in.ensures.takes

pub accept_in-requires-clause-acting : goal.accept_in-requires-clause-acting
accept_in-requires-clause-acting g c = record {
  lit = ap (λ (r : Run). r.power) c.settle.ensures.settled.only ∙ c.requires.acting.lit;
  low =
      let next = ap (λ (r : Run). r.next) c.settle.ensures.settled.only in
      let low = c.requires.acting.low in
      omega (arith, next, low);
  small =
      let next = ap (λ (r : Run). r.next) c.settle.ensures.settled.only in
      let small = c.requires.acting.small in
      omega (arith, next, small);
  held = c.settle.ensures.stands.held.held;
  going =
      let run = c.args.run.now in
      c.in_ok-settle.ensures.stands.going None
      (subst (λ (b : Cabin). RunHasPowerAllSeated (run.next / 60) (with_cabin b run) (g.M.Medium.state c.args.unit.now) (g.C.Chip.card c.args.card_a.now) (g.D.Chip.card c.args.card_b.now) (g.C.Chip.state c.args.card_a.now) (g.D.Chip.state c.args.card_b.now))
      (sym c.put_in.ensures.kept) (put-going c.args.put.slot c.args.put.card (run.next / 60) run (λ from s. subst (λ (b : Cabin). CabinIsSound from None b) c.put_in.ensures.kept (c.put_in.ensures.stands from s)) c.requires.acting.going));
}

pub accept_in-requires-clause-may : goal.accept_in-requires-clause-may
accept_in-requires-clause-may g c = record {
  none = first_of (search rules, grind (arith, common_steps));
  at = first_of (search rules, grind (arith, common_steps));
  seat = seat-there g (goal.at.accept_in-requires-clause-may g c).In_ok-settle;
  breaks =
      let t = (taken g (goal.at.accept_in-requires-clause-may g c).After-settle).breaks in
      let room = c.settle.ensures.takes.rooms.1 in let f = put-falls c.args.put.slot c.args.put.card c.args.run.now.keeper.cabin c.requires.may.empty in
      let had = c.requires.may.breaks in
      omega (arith, t, room, f, had);
  finds = first_of (search rules, grind (arith, common_steps));
}

-- ---- where no tear of a failed call is told no card has broken down

pub returns-in_err-settle-clause-inserted : goal.returns-in_err-settle-clause-inserted
returns-in_err-settle-clause-inserted g c = record {
  enters = inl (sym (failed g c), unsettles g c);
  run =
      let only = c.settle.ensures.settled.only in
      only ∙ ap (λ (n : ℕ). record c.args.run.now { minutes = c.settle.new.run.minutes; keeper = c.settle.new.run.keeper; noted = n }) (sym (ap (λ (r : Run). r.noted) only));
  refused = ap (λ (o : Outcome). o.refused) c.settle.ensures.settled.outcome;
}

pub returns-in_err-settle-clause-promises : goal.returns-in_err-settle-clause-promises
returns-in_err-settle-clause-promises g c = λ late room. record {
  recorded =
      λ o done s now front rest actions begun allowed within time.
      let at = (goal.at.returns-in_err-settle-clause-promises g c).After-settle in
      let r = c.in_err-settle.ensures.keeps in
      let records = subst (λ (b : Cabin). RecordsSettling r.decided c.args.put.at true (with_cabin b c.args.run.now) c.settle.new.run c.args.outcome.now c.settle.new.outcome (found g at) (settled g at)) c.put_in.ensures.kept r.recorded in
      let fails = unsettled c.args.put.slot c.args.put.card c.args.put.at c.args.put.speed c.args.run.now c.args.outcome.now (found g at) o done s now front rest actions c.requires.may.at begun late allowed within (ungiven_of c.requires.acting.going.span) c.requires.acting.going.cabin c.settle.new.run c.settle.new.outcome true (unsettles g c) r.decided r.given (settled g at) records time refl in
      subst (λ (f : Bool). GoesOnOrFails f o done s (In c.args.put.at.begun) [] c.settle.new.run c.settle.new.outcome (settled g at) within.within.b) (failed g c) fails;
  evented =
      λ o done s now front rest actions begun allowed within events time.
      let at = (goal.at.returns-in_err-settle-clause-promises g c).After-settle in
      let r = c.in_err-settle.ensures.keeps in
      let notes = subst (λ (b : Cabin). EventsSettling r.decided c.args.put.at true (with_cabin b c.args.run.now) c.settle.new.run c.args.outcome.now c.settle.new.outcome (found g at) (settled g at)) c.put_in.ensures.kept r.evented in
      let fails = unsettled-evented c.args.put.slot c.args.put.card c.args.put.at c.args.put.speed c.args.run.now c.args.outcome.now (found g at) o done s now front rest actions c.requires.may.at begun late allowed within (ungiven_of c.requires.acting.going.span) c.requires.acting.going.cabin (bare g at) c.settle.new.run c.settle.new.outcome true (unsettles g c) r.decided r.given (settled g at) notes time events refl in
      subst (λ (f : Bool). EventsGoOn f o done s within.within.b.run (In c.args.put.at.begun) Acting (log_of c.settle.new.outcome) (settled g at)) (failed g c) fails;
  ringed =
      λ o done s now front rest actions begun allowed within spans t rings time.
      let run = c.args.run.now in
      let out = c.args.outcome.now in
      let put : Run = put_run c.args.put.slot c.args.put.card run in
      let mid : Run = c.settle.new.run in
      let told : Outcome = c.settle.new.outcome in
      let U : State = g.M.Medium.state c.args.unit.now in
      let V : State = g.M.Medium.state c.settle.new.unit in
      let d : Devices = devices U (g.C.Chip.state c.args.card_a.now) (g.D.Chip.state c.args.card_b.now) in
      let e : Devices = devices V (g.C.Chip.state c.settle.new.card_a) (g.D.Chip.state c.settle.new.card_b) in
      let settles = unsettles g c in
      let lines = up-to-tells c.args.put.at settles.decided true (told_of put out) (told_of mid told) settles.kept in
      let at = at-is c.args.put.slot c.args.put.card c.args.put.at c.args.put.speed run out d o done s now front rest actions c.requires.may.at begun late allowed within (ungiven_of c.requires.acting.going.span) c.requires.acting.going.cabin in
      let v = c.in_err-settle.ensures.keeps in
      let stay = subst (λ (b : Cabin). PlacesSettling v.decided c.args.put.at (with_cabin b run) mid out d e) c.put_in.ensures.kept v.places in
      let places = settled-places c.args.put.slot c.args.put.card c.args.put.at c.args.put.speed run out d o done s now front rest actions c.requires.may.at begun late allowed within (ungiven_of c.requires.acting.going.span) c.requires.acting.going.cabin mid told true settles v.decided v.given
      e stay time spans t (spans-here o done s within.within.b.run.log front run (log_of out) spans t d rings) in
      let rung = unsettled-ringed o done s front rest c.args.put.slot c.args.put.card actions run out d within spans t rings (refuses o done s c.args.put.speed run out d now front (Insert c.args.put.slot c.args.put.card) rest actions within None allowed)
      mid told e lines.lines (ap log_of settles.outcome ∙ ap (λ (bs : List Break). record (log_of out) { breaks = bs }) lines.are) (subst (λ (m : Moment). AreTears m lines.lines) at lines.tears)
      (settling-leaves c.args.put.at true (with_cabin c.put_in.new.self run) mid out told U V (settled-noted c.in_err-settle.ensures.keeps))
      (more-left o d e (within.within.powered.lit.unit.unit_holds [] []).later within.within.there.clocks (settled-left c.settle.ensures.goes.keeping)) places
      (fewer-seats put mid (ap (λ (r : Run). r.noted) settles.only) lines.sessions) lines.odometer (ap (λ (r : Run). r.noted) settles.only) in
      subst (λ (f : Bool). RingsGoOn f o done s within.within.b (front ++ Insert c.args.put.slot c.args.put.card ∷ []) mid (log_of told) spans t e) (failed g c) rung;
  cards =
      λ o done s now front rest actions begun allowed vehicle within cards time.
      let run = c.args.run.now in
      let out = c.args.outcome.now in
      let put : Run = put_run c.args.put.slot c.args.put.card run in
      let mid : Run = c.settle.new.run in
      let told : Outcome = c.settle.new.outcome in
      let d : Devices = devices (g.M.Medium.state c.args.unit.now) (g.C.Chip.state c.args.card_a.now) (g.D.Chip.state c.args.card_b.now) in
      let e : Devices = devices (g.M.Medium.state c.settle.new.unit) (g.C.Chip.state c.settle.new.card_a) (g.D.Chip.state c.settle.new.card_b) in
      let settles = unsettles g c in
      let lines = up-to-tells c.args.put.at settles.decided true (told_of put out) (told_of mid told) settles.kept in
      let at = at-is c.args.put.slot c.args.put.card c.args.put.at c.args.put.speed run out d o done s now front rest actions c.requires.may.at begun late allowed within (ungiven_of c.requires.acting.going.span) c.requires.acting.going.cabin in
      let v = c.in_err-settle.ensures.keeps in
      let shows = subst (λ (b : Cabin). CardsSettling v.decided c.args.put.at (with_cabin b run) mid out d e) c.put_in.ensures.kept v.cards in
      let still : StillShow o d e = shows o done s (length front) (entering_by (length front) (Insert c.args.put.slot c.args.put.card)) at
      (waits-within c.args.put.slot c.args.put.card c.args.put.at c.args.put.speed run out d o done s now front rest actions c.requires.may.at begun late allowed within (ungiven_of c.requires.acting.going.span) c.requires.acting.going.cabin mid told true settles v.decided v.given) time in
      let goes = unsettled-cards o done s front rest c.args.put.slot c.args.put.card actions run out d within cards (refuses o done s c.args.put.speed run out d now front (Insert c.args.put.slot c.args.put.card) rest actions within None allowed)
      told e lines.lines (ap log_of settles.outcome ∙ ap (λ (bs : List Break). record (log_of out) { breaks = bs }) lines.are) (subst (λ (m : Moment). AreTears m lines.lines) at lines.tears)
      (stood-later o done s (In (length front)) [] None [] (values_of run out) d within.within e (settled-later c.settle.ensures.goes.keeping c.settle.ensures.goes.speeds))
      (more-left o d e (within.within.powered.lit.unit.unit_holds [] []).later within.within.there.clocks (settled-left c.settle.ensures.goes.keeping)) still in
      subst (λ (f : Bool). CardsGoOn f o done s within.within.b.run.log (front ++ Insert c.args.put.slot c.args.put.card ∷ []) (log_of told) e) (failed g c) goes;
  stands =
      λ o done s now front rest actions begun allowed within time.
      let run = c.args.run.now in
      let out = c.args.outcome.now in
      let mid : Run = c.settle.new.run in
      let told : Outcome = c.settle.new.outcome in
      let d : Devices = devices (g.M.Medium.state c.args.unit.now) (g.C.Chip.state c.args.card_a.now) (g.D.Chip.state c.args.card_b.now) in
      let e : Devices = devices (g.M.Medium.state c.settle.new.unit) (g.C.Chip.state c.settle.new.card_a) (g.D.Chip.state c.settle.new.card_b) in
      let at = at-is c.args.put.slot c.args.put.card c.args.put.at c.args.put.speed run out d o done s now front rest actions c.requires.may.at begun late allowed within (ungiven_of c.requires.acting.going.span) c.requires.acting.going.cabin in
      let v = c.in_err-settle.ensures.keeps in
      let stands = subst (λ (b : Cabin). StandsSettling v.decided c.args.put.at (with_cabin b run) mid out d e) c.put_in.ensures.kept v.stands in
      stands o done s (length front) (entering_by (length front) (Insert c.args.put.slot c.args.put.card)) at
      (waits-within c.args.put.slot c.args.put.card c.args.put.at c.args.put.speed run out d o done s now front rest actions c.requires.may.at begun late allowed within (ungiven_of c.requires.acting.going.span) c.requires.acting.going.cabin mid told true (unsettles g c) v.decided v.given) time;
}

pub returns-in_err-settle-clause-leaves : goal.returns-in_err-settle-clause-leaves
returns-in_err-settle-clause-leaves g c = record {
  rings =
      λ tells.
      let U : State = g.M.Medium.state c.args.unit.now in
      let V : State = g.M.Medium.state c.settle.new.unit in
      inl (sym (failed g c), unsettles g c, settling-leaves c.args.put.at true (with_cabin c.put_in.new.self c.args.run.now) c.settle.new.run c.args.outcome.now c.settle.new.outcome U V (settled-noted c.in_err-settle.ensures.keeps));
  noted =
      let run = c.args.run.now in
      let put : Run = put_run c.args.put.slot c.args.put.card run in
      let out = c.args.outcome.now in
      let mid : Run = c.settle.new.run in
      let told : Outcome = c.settle.new.outcome in
      let U : State = g.M.Medium.state c.args.unit.now in
      let V : State = g.M.Medium.state c.settle.new.unit in
      let X : State = g.C.Chip.state c.args.card_a.now in
      let Y : State = g.D.Chip.state c.args.card_b.now in
      let X1 : State = g.C.Chip.state c.settle.new.card_a in
      let Y1 : State = g.D.Chip.state c.settle.new.card_b in
      let settling = subst (λ (b : Cabin). NotesSettling c.args.put.at true (with_cabin b run) mid out told U V) c.put_in.ensures.kept (settled-noted c.in_err-settle.ensures.keeps) in
      let these = settles-these c.args.put.at true put mid out told U V X Y X1 Y1 (g.met.M.Medium.coherent c.args.unit.now) c.requires.acting.held.is_unit settling in
      record {
        events = these.0;
        are = inl (sym (failed g c), these.1);
        notes = subst (λ (f : Bool). NotesEvents these.0 f (devices U X Y) (devices V X1 Y1)) (failed g c) these.2;
      };
}

pub returns-in_err-settle-clause-behind : goal.returns-in_err-settle-clause-behind
returns-in_err-settle-clause-behind g c = record {
  held =
      record {
        held = c.settle.ensures.stands.held.held;
        cause = subst (λ (b : Bool). HasCause (g.M.Medium.state c.args.unit.now) (g.M.Medium.state c.settle.new.unit) b) (failed g c) c.in_err-settle.ensures.stands.held.cause;
      };
  going = on_ok c.from_residual.result (λ well. absurd (let bad : true ≡ false = (failed g c) ∙ well in cc));
}

pub returns-in_err-settle-clause-goes : goal.returns-in_err-settle-clause-goes
returns-in_err-settle-clause-goes g c = record {
  later = settled-later c.settle.ensures.goes.keeping c.settle.ensures.goes.speeds;
  calm = c.settle.ensures.goes.keeping.all.calm;
  most = wrote-more 78 102 294 1366 _ _ (omega arith) (omega arith) c.settle.ensures.goes.most;
}

pub returns-clause-inserted : goal.returns-clause-inserted
returns-clause-inserted g c = record {
  enters =
      let run = c.args.run.now in let a = c.accept_in.ensures.accepted.enters in
      inr (record {
        between = c.settle.new.run;
        told = c.settle.new.outcome;
        settled_first = subst (λ (b : Cabin). IsSettled c.args.put.at false (with_cabin b run) c.settle.new.run c.args.outcome.now c.settle.new.outcome) c.put_in.ensures.kept c.in_ok-settle.ensures.settled;
        entering = a.0;
        now = a.1;
        accepted = a.2;
      });
  run =
      let new : Run = c.accept_in.new.run in
      let last = c.accept_in.ensures.accepted.run in
      last ∙ ap (λ (r : Run). record r { keeper = new.keeper; noted = new.noted }) c.settle.ensures.settled.only
      ∙ ap (λ (m : Minutes). record c.args.run.now { minutes = m; keeper = new.keeper; noted = new.noted }) (sym (ap (λ (r : Run). r.minutes) last));
  refused = c.accept_in.ensures.accepted.refused ∙ ap (λ (o : Outcome). o.refused) c.settle.ensures.settled.outcome;
}

pub returns-clause-promises : goal.returns-clause-promises
returns-clause-promises g c = λ late room. record {
  recorded =
      λ o done s now front rest actions begun allowed within time.
      let r = c.in_ok-settle.ensures.keeps in
      inserted c.args.put.slot c.args.put.card c.args.put.at c.args.put.speed c.args.run.now c.args.outcome.now (found g (settling g c)) o done s now front rest actions c.requires.may.at begun late allowed within (ungiven_of c.requires.acting.going.span) c.requires.acting.going.cabin c.settle.new.run c.settle.new.outcome false (settles g c) r.decided r.given (settled g (settling g c)) (records g c)
      (time-settled g c time) refl (seat-there g (goal.at.returns-clause-promises g c).In_ok-settle) (is_err c.accept_in.result) c.accept_in.new.run c.accept_in.new.outcome (behind g c)
      (c.accept_in.ensures.promises (room-then g c room)).recorded time;
  evented =
      λ o done s now front rest actions begun allowed within events time.
      let r = c.in_ok-settle.ensures.keeps in
      let q = c.in_ok-settle.ensures.keeps in
      let notes = subst (λ (b : Cabin). EventsSettling r.decided c.args.put.at false (with_cabin b c.args.run.now) c.settle.new.run c.args.outcome.now c.settle.new.outcome (found g (settling g c)) (settled g (settling g c))) c.put_in.ensures.kept r.evented in
      inserted-evented c.args.put.slot c.args.put.card c.args.put.at c.args.put.speed c.args.run.now c.args.outcome.now (found g (settling g c)) o done s now front rest actions c.requires.may.at begun late allowed within (ungiven_of c.requires.acting.going.span) c.requires.acting.going.cabin (bare g (settling g c)) c.settle.new.run c.settle.new.outcome false (settles g c) r.decided r.given (settled g (settling g c)) notes (time-settled g c time) events
      q.decided q.given (records g c) refl (seat-there g (goal.at.returns-clause-promises g c).In_ok-settle) (is_err c.accept_in.result) c.accept_in.new.run c.accept_in.new.outcome (behind g c) (c.accept_in.ensures.promises (room-then g c room)).evented time;
  ringed =
      λ o done s now front rest actions begun allowed within spans t rings time.
      let run = c.args.run.now in
      let out = c.args.outcome.now in
      let put : Run = put_run c.args.put.slot c.args.put.card run in
      let mid : Run = c.settle.new.run in
      let told : Outcome = c.settle.new.outcome in
      let U : State = g.M.Medium.state c.args.unit.now in
      let V : State = g.M.Medium.state c.settle.new.unit in
      let d = found g (settling g c) in
      let e = settled g (settling g c) in
      let last = behind g c in
      let q = c.in_ok-settle.ensures.keeps in
      let settles = settles g c in
      let before = time-settled g c time in
      let lines = up-to-tells c.args.put.at settles.decided false (told_of put out) (told_of mid told) settles.kept in
      let at = at-is c.args.put.slot c.args.put.card c.args.put.at c.args.put.speed run out d o done s now front rest actions c.requires.may.at begun late allowed within (ungiven_of c.requires.acting.going.span) c.requires.acting.going.cabin in
      let fine = refuses o done s c.args.put.speed run out d now front (Insert c.args.put.slot c.args.put.card) rest actions within None allowed in
      let log : log_of told ≡ record (log_of out) { breaks = (log_of out).breaks ++ lines.lines } = ap log_of settles.outcome ∙ ap (λ (bs : List Break). record (log_of out) { breaks = bs }) lines.are in
      let tears = subst (λ (m : Moment). AreTears m lines.lines) at lines.tears in
      let leaves = settling-leaves c.args.put.at false (with_cabin c.put_in.new.self run) mid out told U V (settled-noted c.in_ok-settle.ensures.keeps) in
      let left = more-left o d e (within.within.powered.lit.unit.unit_holds [] []).later within.within.there.clocks (settled-left c.settle.ensures.goes.keeping) in
      let v = c.in_ok-settle.ensures.keeps in
      let stay = subst (λ (b : Cabin). PlacesSettling v.decided c.args.put.at (with_cabin b run) mid out d e) c.put_in.ensures.kept v.places in
      let places = settled-places c.args.put.slot c.args.put.card c.args.put.at c.args.put.speed run out d o done s now front rest actions c.requires.may.at begun late allowed within (ungiven_of c.requires.acting.going.span) c.requires.acting.going.cabin mid told false settles v.decided v.given
      e stay before spans t (spans-here o done s within.within.b.run.log front run (log_of out) spans t d rings) in
      let noted : mid.noted ≡ run.noted = ap (λ (r : Run). r.noted) settles.only in
      let fewer = fewer-seats put mid noted lines.sessions in
      let counted : mid.noted ≤ length (log_of told).finds = let few = rings.counted in let same = ap (λ (l : RunLog). length l.finds) log in omega (arith, few, same, noted) in
      let j = next-judged c.args.put.slot c.args.put.card c.args.put.at c.args.put.speed run out d o done s now front rest actions c.requires.may.at begun late allowed within (ungiven_of c.requires.acting.going.span) c.requires.acting.going.cabin mid told false settles q.decided q.given e (records g c) before refl (seat-there g (goal.at.returns-clause-promises g c).In_ok-settle) (with_second spans run.keeper.odometer t)
      (odometer-mid o done s front rest c.args.put.slot c.args.put.card actions run out d within spans t rings fine mid told e lines.lines log tears leaves left places fewer lines.odometer noted (entering_by (length front) (Insert c.args.put.slot c.args.put.card)))
      counted (is_err c.accept_in.result) c.accept_in.new.run c.accept_in.new.outcome last (c.accept_in.ensures.promises (room-then g c room)).ringed time in
      inserted-ringed o done s front rest c.args.put.slot c.args.put.card actions run out d within spans t rings fine mid told e lines.lines log tears leaves left places fewer lines.odometer noted
      (is_err c.accept_in.result) c.accept_in.new.run c.accept_in.new.outcome last j;
  cards =
      λ o done s now front rest actions begun allowed vehicle within cards time.
      let run = c.args.run.now in
      let out = c.args.outcome.now in
      let put : Run = put_run c.args.put.slot c.args.put.card run in
      let mid : Run = c.settle.new.run in
      let told : Outcome = c.settle.new.outcome in
      let d = found g (settling g c) in
      let e = settled g (settling g c) in
      let last = behind g c in
      let q = c.in_ok-settle.ensures.keeps in
      let v = c.in_ok-settle.ensures.keeps in
      let settles = settles g c in
      let shows = subst (λ (b : Cabin). CardsSettling v.decided c.args.put.at (with_cabin b run) mid out d e) c.put_in.ensures.kept v.cards in
      let before = time-settled g c time in
      let lines = up-to-tells c.args.put.at settles.decided false (told_of put out) (told_of mid told) settles.kept in
      let at = at-is c.args.put.slot c.args.put.card c.args.put.at c.args.put.speed run out d o done s now front rest actions c.requires.may.at begun late allowed within (ungiven_of c.requires.acting.going.span) c.requires.acting.going.cabin in
      let fine = refuses o done s c.args.put.speed run out d now front (Insert c.args.put.slot c.args.put.card) rest actions within None allowed in
      let log : log_of told ≡ record (log_of out) { breaks = (log_of out).breaks ++ lines.lines } = ap log_of settles.outcome ∙ ap (λ (bs : List Break). record (log_of out) { breaks = bs }) lines.are in
      let tears = subst (λ (m : Moment). AreTears m lines.lines) at lines.tears in
      let left = more-left o d e (within.within.powered.lit.unit.unit_holds [] []).later within.within.there.clocks (settled-left c.settle.ensures.goes.keeping) in
      let still : StillShow o d e = shows o done s (length front) (entering_by (length front) (Insert c.args.put.slot c.args.put.card)) at
      (waits-within c.args.put.slot c.args.put.card c.args.put.at c.args.put.speed run out d o done s now front rest actions c.requires.may.at begun late allowed within (ungiven_of c.requires.acting.going.span) c.requires.acting.going.cabin mid told false settles v.decided v.given) before in
      let own : mid.keeper.memory.registration ≡ vehicle_in o = ap (λ m. m.registration) (settled-watched c.args.put.at false put mid out told settles).memory ∙ vehicle in
      let j = next-cards c.args.put.slot c.args.put.card c.args.put.at c.args.put.speed run out d o done s now front rest actions c.requires.may.at begun late allowed within (ungiven_of c.requires.acting.going.span) c.requires.acting.going.cabin mid told false settles q.decided q.given e (records g c) before refl (seat-there g (goal.at.returns-clause-promises g c).In_ok-settle)
      (is_err c.accept_in.result) c.accept_in.new.outcome last (c.accept_in.ensures.promises (room-then g c room)).cards own time in
      inserted-cards o done s front rest c.args.put.slot c.args.put.card actions run out d within cards fine told e lines.lines log tears
      (stood-later o done s (In (length front)) [] None [] (values_of run out) d within.within e (settled-later c.settle.ensures.goes.keeping c.settle.ensures.goes.speeds)) left still (is_err c.accept_in.result) c.accept_in.new.outcome last j;
  stands =
      λ o done s now front rest actions begun allowed within time.
      let run = c.args.run.now in
      let out = c.args.outcome.now in
      let put : Run = put_run c.args.put.slot c.args.put.card run in
      let mid : Run = c.settle.new.run in
      let told : Outcome = c.settle.new.outcome in
      let d = found g (settling g c) in
      let e = settled g (settling g c) in
      let last = behind g c in
      let v = c.in_ok-settle.ensures.keeps in
      let settles = settles g c in
      let before = time-settled g c time in
      let at = at-is c.args.put.slot c.args.put.card c.args.put.at c.args.put.speed run out d o done s now front rest actions c.requires.may.at begun late allowed within (ungiven_of c.requires.acting.going.span) c.requires.acting.going.cabin in
      let stands = subst (λ (b : Cabin). StandsSettling v.decided c.args.put.at (with_cabin b run) mid out d e) c.put_in.ensures.kept v.stands in
      let kept : LetStand o d e = stands o done s (length front) (entering_by (length front) (Insert c.args.put.slot c.args.put.card)) at
      (waits-within c.args.put.slot c.args.put.card c.args.put.at c.args.put.speed run out d o done s now front rest actions c.requires.may.at begun late allowed within (ungiven_of c.requires.acting.going.span) c.requires.acting.going.cabin mid told false settles v.decided v.given) before in
      let own : mid.keeper.memory.registration ≡ vehicle_in o = ap (λ m. m.registration) (settled-watched c.args.put.at false put mid out told settles).memory ∙ within.vehicle in
      let j = next-cards c.args.put.slot c.args.put.card c.args.put.at c.args.put.speed run out d o done s now front rest actions c.requires.may.at begun late allowed within (ungiven_of c.requires.acting.going.span) c.requires.acting.going.cabin mid told false settles v.decided v.given e (records g c) before refl (seat-there g (goal.at.returns-clause-promises g c).In_ok-settle)
      (is_err c.accept_in.result) c.accept_in.new.outcome last (c.accept_in.ensures.promises (room-then g c room)).cards own time in
      stand-then o d e last kept (record { left = j.left; made = j.made });
}

pub returns-clause-leaves : goal.returns-clause-leaves
returns-clause-leaves g c = record {
  rings =
      λ tells.
      let U : State = g.M.Medium.state c.args.unit.now in
      let V : State = g.M.Medium.state c.settle.new.unit in
      let W : State = g.M.Medium.state c.accept_in.new.unit in
      let leaves = settling-leaves c.args.put.at false (with_cabin c.put_in.new.self c.args.run.now) c.settle.new.run c.args.outcome.now c.settle.new.outcome U V (settled-noted c.in_ok-settle.ensures.keeps) in
      let j = c.accept_in.ensures.leaves.rings in
      inr (record {
        between = c.settle.new.run;
        told = c.settle.new.outcome;
        settled_first = settles g c;
        judges = (
          j.0,
          j.1,
          record {
            accepted = j.2.accepted;
            writes = λ here. writes-behind (ending_of j.2.accepted.way) j.0 (is_err c.accept_in.result) U V W leaves (j.2.writes (c.in_ok-settle.ensures.goes.keeping.unit_tells ∙ tells));
          },
        );
      });
  noted =
      let run = c.args.run.now in
      let put : Run = put_run c.args.put.slot c.args.put.card run in
      let out = c.args.outcome.now in
      let mid : Run = c.settle.new.run in
      let told : Outcome = c.settle.new.outcome in
      let U : State = g.M.Medium.state c.args.unit.now in
      let V : State = g.M.Medium.state c.settle.new.unit in
      let X : State = g.C.Chip.state c.args.card_a.now in
      let Y : State = g.D.Chip.state c.args.card_b.now in
      let X1 : State = g.C.Chip.state c.settle.new.card_a in
      let Y1 : State = g.D.Chip.state c.settle.new.card_b in
      let settling = subst (λ (b : Cabin). NotesSettling c.args.put.at false (with_cabin b run) mid out told U V) c.put_in.ensures.kept (settled-noted c.in_ok-settle.ensures.keeps) in
      let these = settles-these c.args.put.at false put mid out told U V X Y X1 Y1 (g.met.M.Medium.coherent c.args.unit.now) c.requires.acting.held.is_unit settling in
      let new : Run = c.accept_in.new.run in
      let after : Outcome = c.accept_in.new.outcome in
      let e : Devices = devices V X1 Y1 in
      let f : Devices = devices (g.M.Medium.state c.accept_in.new.unit) (g.C.Chip.state c.accept_in.new.card_a) (g.D.Chip.state c.accept_in.new.card_b) in
      let judged = anew-these (Some c.args.put.card) c.args.put.slot c.args.put.at c.args.put.at c.args.put.speed (is_err c.accept_in.result) mid new told after e f refl c.accept_in.ensures.leaves.noted in
      record {
        events = these.0 ++ judged.0;
        are = inr (record { between = mid; told = told; faults = these.0; judged = judged.0; settles = these.1; judges = judged.1; are = refl });
        notes = then-noted these.0 judged.0 (is_err c.accept_in.result) (devices U X Y) e f these.2 judged.2;
      };
}

pub returns-clause-behind : goal.returns-clause-behind
returns-clause-behind g c = record {
  held =
      record {
        held = c.accept_in.ensures.behind.held.held;
        cause = cause_after c.in_ok-settle.ensures.stands.held.cause c.accept_in.ensures.behind.held.cause;
      };
  going = first_of (search rules, grind (arith, common_steps));
}

pub returns-clause-goes : goal.returns-clause-goes
returns-clause-goes g c = record {
  later = later-then (found g (settling g c)) (settled g (settling g c)) (behind g c) (settled-later c.settle.ensures.goes.keeping c.settle.ensures.goes.speeds) c.accept_in.ensures.goes.later;
  calm = calm-then (found g (settling g c)) (settled g (settling g c)) (behind g c) c.settle.ensures.goes.keeping.all.calm c.accept_in.ensures.goes.calm;
  most = wrote-more (78 + 24) 102 (294 + 1072) 1366 _ _ (omega arith) (omega arith) (wrote-then 78 24 294 1072 _ _ _ c.settle.ensures.goes.most c.accept_in.ensures.goes.most);
}

pub settle-requires-clause-room : goal.settle-requires-clause-room
settle-requires-clause-room g c = record {
  marks = c.requires.may.marks;
  breaks = first_of (search rules, grind (arith, common_steps));
}
