use Rattle.std.proofs.lemmas.Grind.{common_steps}
use Rattle.std.proofs.Common.{◌≡◌, ◌∙◌, ℕ, ◌/◌, false, [], None, refl, ap, sym, subst, arith, ◌*◌, ◌+◌, Option, length, ◌≤◌, rules}
use Rattle.std.specs.Prelude.{is_err}
use Rattle.trace_model.specs.declared.Action.{Action}
use Rattle.trace_model.specs.declared.Action.TheVariants.{Insert, Withdraw, Tear, Place, Manual}
use Rattle.log_model.specs.declared.lines.Break.{Break}
use Rattle.run_minutes.specs.card_slots.Calls.{seat_in, card_in}
use Rattle.run_acts.specs.run_crew.Cabin.{CabinIsSound}
use Rattle.run_outcome.specs.Lines.{Listed}
use Rattle.run_outcome.specs.declared.outcome.Outcome.{Outcome}
use Rattle.run_minutes.specs.declared.keeper.Moment.{Moment}
use Rattle.run_acts.specs.declared.run.Run.{Run}
use Rattle.run_acts.specs.Going.{CanBeCut, RunHasPowerAllSeated}
use Rattle.run_acts.specs.Room.{Takes}
use Rattle.run_acts.specs.Acting.{pulled_run, pulled_breaks}
use Rattle.recorder_with_cards.specs.Acting.{put_count, StaysIn, moment_of, IsDone, CallsNone, IsSelected, IsFine}
use Rattle.recorder_with_cards.proofs.ActsRecorded.{selected, entered}
use Rattle.recorder_with_cards.proofs.Rooms.{few-wait, put-room}
use Rattle.run_acts.proofs.Pulled.{pulled-recorded}
use Rattle.run_acts.specs.Recording.{RunGoesOn, RecordsAction}
use Rattle.run_minutes.specs.Keeping.{with_lines}
use Rattle.run_minutes.specs.run_promise.Between.{devices}
use Rattle.device_calls.specs.safety_model.Safe.{Devices}
use Rattle.log_model.specs.Log.{In}
use Rattle.log_model.specs.ByHand.{minute_on}
use Rattle.recorder_with_cards.proofs.Allowed.{insert-elsewhere}
use Rattle.recorder_with_cards.proofs.Picked.{picked-going}
use Rattle.recorder_with_cards.proofs.Pulled.{pulled-stays, pulled-held, pulled-going, pulled-takes}
use Rattle.recorder_with_cards.proofs.More.{inserted-more}
use Rattle.run_acts.specs.Evented.{EventsAction}
use Rattle.recorder_with_cards.proofs.ActsEvented.{pulled-evented}
use Rattle.run_acts.specs.RunRinged.{RingsAction}
use Rattle.recorder_with_cards.proofs.ActsRinged.{selected-ringed, hand-ringed, pulled-ringed}
use Rattle.run_minutes.proofs.Later.{later-same}
use Rattle.run_acts.proofs.run_rings.Same.{rings-left}
use Rattle.recorder_with_cards.specs.EnteredRings.{IsPlaceNow, RingsDone}
use Rattle.run_acts.proofs.NotedEvents.{same-noted}
use Rattle.recorder_with_cards.specs.Noting.{NotesDone}
use Rattle.run_acts.specs.Stood.{StandsAction}
use Rattle.run_acts.proofs.Stood.{stand-itself}
use Rattle.run_acts.specs.RunCards.{CardsAction}
use Rattle.run_acts.specs.ByHand.{entry_from, cabin_holding, entered_run, stopped_in}
use Rattle.run_acts.proofs.ByHand.{holding-going, holding-held, holding-falls}
use Rattle.recorder_with_cards.proofs.ActsCards.{selected-cards, hand-cards, pulled-cards}
use Rattle.run_minutes.proofs.Calm.{calm-told, calm-same}
use Rattle.recorder_with_cards.proofs.Uncut.{pulled-calm}
use Rattle.trace_model.specs.declared.Card.{Card}
use Rattle.run_outcome.specs.declared.outcome.TheConstants.{MOST_OWED}
use Rattle.tach_media.proofs.Runs.{no_reads}
use Rattle.run_minutes.proofs.Counts.{lines-length}
use Rattle.recorder_with_cards.proofs.acts.carry_out.Given.{Over}
use Rattle.recorder_with_cards.proofs.acts.carry_out.Goals.{After-enter, After-insert, After-note_place, After-pull, After-withdraw}
use Rattle.recorder_with_cards.proofs.Writes.{writes-none, writes-act}
use Rattle.run_minutes.proofs.Writes.{wrote-more}
use Rattle.recorder_with_cards.proofs.acts.carry_out.Goals as goal
use Rattle.recorder_with_cards.proofs.SlotLines.{none-of-both}
use Rattle.activity_codec.specs.declared.entries.Manual.{Manual as HandEntry}

-- an action that was matched, at the moment that was taken
moved : (P : Action → Moment → Type 0) (a b : Action) (m n : Moment) → a ≡ b → m ≡ n → P b m → P a n
moved P a b m n is same h = subst (λ (x : Action). P x n) (sym is) (subst (P b) same h)

module _ (g : Over) (c : After-insert g) where
  abbrev before-insert : Devices
  before-insert = devices (g.M.Medium.state c.args.unit.now) (g.C.Chip.state c.args.card_a.now) (g.D.Chip.state c.args.card_b.now)

  abbrev behind-insert : Devices
  behind-insert = devices (g.M.Medium.state c.insert.new.unit) (g.C.Chip.state c.insert.new.card_a) (g.D.Chip.state c.insert.new.card_b)

  by-insert : (P : Action → Moment → Type 0) → P (Insert c.in-Insert.slot c.in-Insert.card) c.moment-at.result → P c.args.deed.action (moment_of c.args.deed.begun c.args.run.now)
  by-insert P = moved P c.args.deed.action (Insert c.in-Insert.slot c.in-Insert.card) c.moment-at.result (moment_of c.args.deed.begun c.args.run.now) c.in-Insert.is c.moment-at.ensures

  late-insert : c.moment-at.result.late ≡ false
  late-insert = ap (λ (m : Moment). m.late) c.moment-at.ensures

  room-insert : length c.args.outcome.now.marks.items + 3 * c.args.run.now.minutes.owing + MOST_OWED ≤ c.args.outcome.now.marks.room
  room-insert = put-room c.args.run.now c.args.outcome.now (put_count c.args.deed.action) 0 c.requires.acting.lit (few-wait (c.args.run.now.next / 60) c.args.run.now c.requires.acting.going) c.requires.room

module _ (g : Over) (c : After-withdraw g) where
  abbrev before-withdraw : Devices
  before-withdraw = devices (g.M.Medium.state c.args.unit.now) (g.C.Chip.state c.args.card_a.now) (g.D.Chip.state c.args.card_b.now)

  abbrev behind-withdraw : Devices
  behind-withdraw = devices (g.M.Medium.state c.withdraw.new.unit) (g.C.Chip.state c.withdraw.new.card_a) (g.D.Chip.state c.withdraw.new.card_b)

  by-withdraw : (P : Action → Moment → Type 0) → P (Withdraw c.in-Withdraw.slot) c.moment-at.result → P c.args.deed.action (moment_of c.args.deed.begun c.args.run.now)
  by-withdraw P = moved P c.args.deed.action (Withdraw c.in-Withdraw.slot) c.moment-at.result (moment_of c.args.deed.begun c.args.run.now) c.in-Withdraw.is c.moment-at.ensures

  late-withdraw : c.moment-at.result.late ≡ false
  late-withdraw = ap (λ (m : Moment). m.late) c.moment-at.ensures

module _ (g : Over) (c : After-note_place g) where
  abbrev before-place : Devices
  before-place = devices (g.M.Medium.state c.args.unit.now) (g.C.Chip.state c.args.card_a.now) (g.D.Chip.state c.args.card_b.now)

  abbrev behind-place : Devices
  behind-place = devices (g.M.Medium.state c.note_place.new.unit) (g.C.Chip.state c.note_place.new.card_a) (g.D.Chip.state c.note_place.new.card_b)

  by-place : (P : Action → Moment → Type 0) → P (Place c.in-Place.slot c.in-Place.ending c.in-Place.country c.in-Place.region) c.moment-at.result → P c.args.deed.action (moment_of c.args.deed.begun c.args.run.now)
  by-place P = moved P c.args.deed.action (Place c.in-Place.slot c.in-Place.ending c.in-Place.country c.in-Place.region) c.moment-at.result (moment_of c.args.deed.begun c.args.run.now) c.in-Place.is c.moment-at.ensures

  late-place : c.moment-at.result.late ≡ false
  late-place = ap (λ (m : Moment). m.late) c.moment-at.ensures

  -- the place that is entered
  place-now : IsPlaceNow c.in-Place.ending c.in-Place.country c.in-Place.region c.args.run.now c.place-entry.result
  place-now = let e = c.place-entry.ensures in record { time = e.time; kind = e.kind; country_is = e.where_to.0; region_is = e.where_to.1; odometer = e.odometer; most = e.most }

-- a card that is pulled out
module _ (g : Over) (c : After-pull g) where
  abbrev torn : Devices
  torn = devices (g.M.Medium.state c.args.unit.now) (g.C.Chip.state c.args.card_a.now) (g.D.Chip.state c.args.card_b.now)

  abbrev torn_card : Option Card
  torn_card = card_in (seat_in c.args.run.now.keeper.cabin.slots.seats c.in-Tear.slot)

  by-tear : (P : Action → Run → Listed Break → Type 0) → P (Tear c.in-Tear.slot) (pulled_run torn_card c.args.run.now.next c.args.run.now) (with_lines (pulled_breaks torn_card c.in-Tear.slot (moment_of c.args.deed.begun c.args.run.now)) c.args.outcome.now.breaks) →
      P c.args.deed.action c.pull.new.run c.pull.new.breaks
  by-tear P h =
      let told = c.pull.ensures.breaks ∙ ap (λ (m : Moment). with_lines (pulled_breaks torn_card c.in-Tear.slot m) c.args.outcome.now.breaks) c.moment-at.ensures in
      let is = c.pull.ensures.run ∙ ap (λ (m : Moment). pulled_run torn_card m.second c.args.run.now) c.moment-at.ensures in
      subst (λ (a : Action). P a c.pull.new.run c.pull.new.breaks) (sym c.in-Tear.is)
      (subst (λ (r : Run). P (Tear c.in-Tear.slot) r c.pull.new.breaks) (sym is)
      (subst (λ (l : Listed Break). P (Tear c.in-Tear.slot) (pulled_run torn_card c.args.run.now.next c.args.run.now) l) (sym told) h))

pub insert-requires-clause-acting : goal.insert-requires-clause-acting
insert-requires-clause-acting g c = c.requires.acting

pub withdraw-requires-clause-acting : goal.withdraw-requires-clause-acting
withdraw-requires-clause-acting g c = c.requires.acting

pub note_place-requires-clause-acting : goal.note_place-requires-clause-acting
note_place-requires-clause-acting g c = c.requires.acting

pub insert-requires-clause-may : goal.insert-requires-clause-may
insert-requires-clause-may g c = record {
  at = first_of (search rules, grind (arith, common_steps));
  empty = first_of (search rules, grind (arith, common_steps));
  elsewhere =
      let seats = c.args.run.now.keeper.cabin.slots.seats in
      insert-elsewhere seats c.in-Insert.slot c.in-Insert.card c.args.deed.speed
      (none-of-both c.args.run.now c.args.deed.speed (Insert c.in-Insert.slot c.in-Insert.card) (subst (λ (a : Action). stopped_in c.args.run.now c.args.deed.speed a ≡ None) c.in-Insert.is c.requires.allowed)).0;
  marks = first_of (search rules, grind (arith, common_steps));
  breaks = first_of (search rules, grind (arith, common_steps));
  finds = first_of (search rules, grind (arith, common_steps));
}

pub returns-in-Select-clause-behind : goal.returns-in-Select-clause-behind
returns-in-Select-clause-behind g c = record {
  held =
      record {
        held =
            let h = c.requires.acting.held in
            record { is_unit = h.is_unit; odometer = h.odometer; minute = h.minute; card_a = h.card_a; card_b = h.card_b; stand = h.stand };
        cause = (no_reads (g.M.Medium.state c.args.unit.now) c.requires.acting.going.ready.unit_ready.works).cause;
      };
  going =
      let lit = c.requires.acting.going in
      picked-going (c.args.run.now.next / 60) c.args.run.now c.select.new.self c.in-Select.slot c.in-Select.pick lit (c.select.ensures.picked lit.span lit.stands);
}

-- ---- a session takes an entry by hand

pub enter-requires : goal.enter-requires
enter-requires g c =
    let here = Manual c.in-Manual.slot c.in-Manual.pick c.in-Manual.minute in
    record { taken = (none-of-both c.args.run.now c.args.deed.speed here (subst (λ (a : Action). stopped_in c.args.run.now c.args.deed.speed a ≡ None) c.in-Manual.is c.requires.allowed)).1 }

module _ (g : Over) (c : After-enter g) where
  abbrev hand : HandEntry
  hand = entry_from c.in-Manual.slot c.in-Manual.pick (minute_on c.args.run.now.next c.in-Manual.minute)

  abbrev hand_card : Option Card
  hand_card = card_in (seat_in c.args.run.now.keeper.cabin.slots.seats c.in-Manual.slot)

  -- slots and sessions stand, as they are entered
  hand-stands : (from : ℕ) (leaving : Option Card) → CabinIsSound from leaving c.args.run.now.keeper.cabin → CabinIsSound from leaving (cabin_holding hand hand_card c.args.run.now.keeper.cabin)
  hand-stands from leaving s = subst (λ (r : Run). CabinIsSound from leaving r.keeper.cabin) c.enter.ensures.entered (c.enter.ensures.stands from leaving s)

  -- what is known of the run behind it
  by-hand : (P : Action → Run → Type 0) → P (Manual c.in-Manual.slot c.in-Manual.pick c.in-Manual.minute) (entered_run c.in-Manual.slot c.in-Manual.pick c.in-Manual.minute c.args.run.now) → P c.args.deed.action c.enter.new.run
  by-hand P h = subst (λ (a : Action). P a c.enter.new.run) (sym c.in-Manual.is) (subst (λ (r : Run). P (Manual c.in-Manual.slot c.in-Manual.pick c.in-Manual.minute) r) (sym c.enter.ensures.entered) h)

pub returns-in-Manual-clause-behind : goal.returns-in-Manual-clause-behind
returns-in-Manual-clause-behind g c = record {
  held =
      record {
        held =
            by-hand g c (λ a r. CanBeCut (r.next / 60) r (g.M.Medium.state c.args.unit.now) (g.C.Chip.card c.args.card_a.now) (g.D.Chip.card c.args.card_b.now) (g.C.Chip.state c.args.card_a.now) (g.D.Chip.state c.args.card_b.now))
            (holding-held (hand g c) c.args.run.now (c.args.run.now.next / 60) (hand_card g c) (hand-stands g c) c.requires.acting.held);
        cause = (no_reads (g.M.Medium.state c.args.unit.now) c.requires.acting.going.ready.unit_ready.works).cause;
      };
  going =
      by-hand g c (λ a r. RunHasPowerAllSeated (r.next / 60) r (g.M.Medium.state c.args.unit.now) (g.C.Chip.card c.args.card_a.now) (g.D.Chip.card c.args.card_b.now) (g.C.Chip.state c.args.card_a.now) (g.D.Chip.state c.args.card_b.now))
      (holding-going (hand g c) c.args.run.now (c.args.run.now.next / 60) (hand_card g c) (hand-stands g c) c.requires.acting.going);
}

pub returns-in-Manual-clause-takes : goal.returns-in-Manual-clause-takes
returns-in-Manual-clause-takes g c =
    let run = c.args.run.now in
    let o = c.args.outcome.now in
    let falls = holding-falls (hand g c) (hand_card g c) run.keeper.cabin in
    by-hand g c (λ a r. Takes (put_count a) (put_count a) 0 run r o o) (record { rooms = (refl, refl, refl, refl); marks = omega arith; breaks = omega (arith, falls); finds = omega arith; refused = omega arith })

-- ---- a card is pulled out

pub returns-in-Tear-clause-behind : goal.returns-in-Tear-clause-behind
returns-in-Tear-clause-behind g c = record {
  held =
      record {
        held =
            let run = c.args.run.now in
            let o = card_in (seat_in run.keeper.cabin.slots.seats c.in-Tear.slot) in
            let at = ap (λ (m : Moment). m.second / 60) c.moment-at.ensures in
            subst (λ (r : Run). CanBeCut (r.next / 60) r (g.M.Medium.state c.args.unit.now) (g.C.Chip.card c.args.card_a.now) (g.D.Chip.card c.args.card_b.now) (g.C.Chip.state c.args.card_a.now) (g.D.Chip.state c.args.card_b.now)) (sym c.pull.ensures.run)
            (pulled-held run c.moment-at.result.second (omega (arith, at)) o (λ from leaving s. subst (λ (r : Run). CabinIsSound from leaving r.keeper.cabin) c.pull.ensures.run (c.pull.ensures.stands from leaving s)) c.requires.acting.held);
        cause = (no_reads (g.M.Medium.state c.args.unit.now) c.requires.acting.going.ready.unit_ready.works).cause;
      };
  going =
      let run = c.args.run.now in
      let o = card_in (seat_in run.keeper.cabin.slots.seats c.in-Tear.slot) in
      let at = ap (λ (m : Moment). m.second / 60) c.moment-at.ensures in
      subst (λ (r : Run). RunHasPowerAllSeated (r.next / 60) r (g.M.Medium.state c.args.unit.now) (g.C.Chip.card c.args.card_a.now) (g.D.Chip.card c.args.card_b.now) (g.C.Chip.state c.args.card_a.now) (g.D.Chip.state c.args.card_b.now)) (sym c.pull.ensures.run)
      (pulled-going run c.moment-at.result.second (omega (arith, at)) o (λ from leaving s. subst (λ (r : Run). CabinIsSound from leaving r.keeper.cabin) c.pull.ensures.run (c.pull.ensures.stands from leaving s)) c.requires.acting.going);
}

pub returns-in-Tear-clause-takes : goal.returns-in-Tear-clause-takes
returns-in-Tear-clause-takes g c =
    let run = c.args.run.now in
    let o = c.args.outcome.now in
    let card = card_in (seat_in run.keeper.cabin.slots.seats c.in-Tear.slot) in
    let stand = c.requires.acting.held.stand in
    subst (λ (k : ℕ). Takes k k 0 run c.pull.new.run o (record o { breaks = c.pull.new.breaks })) (sym (ap put_count c.in-Tear.is))
    (subst (λ (r : Run). Takes 0 0 0 run r o (record o { breaks = c.pull.new.breaks })) (sym c.pull.ensures.run)
    (subst (λ (l : Listed Break). Takes 0 0 0 run (pulled_run card c.moment-at.result.second run) o (record o { breaks = l })) (sym c.pull.ensures.breaks)
    (pulled-takes card run c.in-Tear.slot c.moment-at.result o stand.0 stand.1 refl stand.2)))

-- ---- which devices are called

pub returns-in-Insert-clause-still : goal.returns-in-Insert-clause-still
returns-in-Insert-clause-still g c = λ none. absurd (subst (CallsNone None) c.in-Insert.is none)

pub returns-in-Withdraw-clause-still : goal.returns-in-Withdraw-clause-still
returns-in-Withdraw-clause-still g c = λ none. absurd (subst (CallsNone None) c.in-Withdraw.is none)

pub returns-in-Place-clause-still : goal.returns-in-Place-clause-still
returns-in-Place-clause-still g c = λ none. absurd (subst (CallsNone None) c.in-Place.is none)

pub returns-in-Select-clause-still : goal.returns-in-Select-clause-still
returns-in-Select-clause-still g c = λ none. (refl, refl, refl)

pub returns-in-Tear-clause-still : goal.returns-in-Tear-clause-still
returns-in-Tear-clause-still g c = λ none. (refl, refl, refl)

pub returns-in-Manual-clause-still : goal.returns-in-Manual-clause-still
returns-in-Manual-clause-still g c = λ none. (refl, refl, refl)

-- ---- where no tear of a failed call is told no card has broken down

pub returns-in-Insert-clause-done : goal.returns-in-Insert-clause-done
returns-in-Insert-clause-done g c = record {
  action_done = by-insert g c (λ a m. IsDone a m c.args.deed.speed (is_err c.insert.result) c.args.run.now c.insert.new.run c.args.outcome.now c.insert.new.outcome) c.insert.ensures.inserted.enters;
  selected = subst (λ (a : Action). IsSelected a c.args.run.now c.insert.new.run) (sym c.in-Insert.is) tt;
  fine = subst (λ (a : Action). IsFine a (is_err c.insert.result)) (sym c.in-Insert.is) tt;
  stays =
      let only = c.insert.ensures.inserted.run in
      record { power = ap (λ (r : Run). r.power) only; next = ap (λ (r : Run). r.next) only; begun = ap (λ (r : Run). r.begun) only; unfound = ap (λ (r : Run). r.unfound) only };
  refused = c.insert.ensures.inserted.refused;
}

pub returns-in-Insert-clause-promises : goal.returns-in-Insert-clause-promises
returns-in-Insert-clause-promises g c = record {
  recorded = by-insert g c (λ a m. RecordsAction a m.begun c.args.deed.speed (is_err c.insert.result) c.args.run.now c.insert.new.run c.args.outcome.now c.insert.new.outcome (before-insert g c) (behind-insert g c)) (c.insert.ensures.promises (late-insert g c) (room-insert g c)).recorded;
  evented = by-insert g c (λ a m. EventsAction a m.begun c.args.deed.speed (is_err c.insert.result) c.args.run.now c.insert.new.run c.args.outcome.now c.insert.new.outcome (before-insert g c) (behind-insert g c)) (c.insert.ensures.promises (late-insert g c) (room-insert g c)).evented;
  ringed = by-insert g c (λ a m. RingsAction a m.begun c.args.deed.speed (is_err c.insert.result) c.args.run.now c.insert.new.run c.args.outcome.now c.insert.new.outcome (before-insert g c) (behind-insert g c)) (c.insert.ensures.promises (late-insert g c) (room-insert g c)).ringed;
  cards = by-insert g c (λ a m. CardsAction a m.begun c.args.deed.speed (is_err c.insert.result) c.args.run.now c.args.outcome.now c.insert.new.outcome (before-insert g c) (behind-insert g c)) (c.insert.ensures.promises (late-insert g c) (room-insert g c)).cards;
  stands = by-insert g c (λ a m. StandsAction a m.begun c.args.deed.speed c.args.run.now c.args.outcome.now (before-insert g c) (behind-insert g c)) (c.insert.ensures.promises (late-insert g c) (room-insert g c)).stands;
}

pub returns-in-Insert-clause-leaves : goal.returns-in-Insert-clause-leaves
returns-in-Insert-clause-leaves g c = record {
  events = by-insert g c (λ a m. NotesDone a m c.args.deed.speed (is_err c.insert.result) c.args.run.now c.insert.new.run c.args.outcome.now c.insert.new.outcome (before-insert g c) (behind-insert g c)) c.insert.ensures.leaves.noted;
  rings = λ tells. by-insert g c (λ a m. RingsDone a m c.args.deed.speed (is_err c.insert.result) c.args.run.now c.insert.new.run c.args.outcome.now c.insert.new.outcome (g.M.Medium.state c.args.unit.now) (g.M.Medium.state c.insert.new.unit)) (c.insert.ensures.leaves.rings tells);
}

pub returns-in-Insert-clause-behind : goal.returns-in-Insert-clause-behind
returns-in-Insert-clause-behind g c = record {
  held =
      record {
        held = c.insert.ensures.behind.held.held;
        cause = c.insert.ensures.behind.held.cause;
      };
  going = first_of (search rules, grind (arith, common_steps));
}

pub returns-in-Insert-clause-goes : goal.returns-in-Insert-clause-goes
returns-in-Insert-clause-goes g c = record {
  later = c.insert.ensures.goes.later;
  calm = c.insert.ensures.goes.calm;
  more = inserted-more c.in-Insert.slot c.in-Insert.card c.moment-at.result c.args.deed.speed (is_err c.insert.result) c.args.run.now c.insert.new.run c.args.outcome.now c.insert.new.outcome c.insert.ensures.inserted.enters;
  most = writes-act _ _ c.insert.ensures.goes.most;
}

pub returns-in-Withdraw-clause-done : goal.returns-in-Withdraw-clause-done
returns-in-Withdraw-clause-done g c = record {
  action_done = by-withdraw g c (λ a m. IsDone a m c.args.deed.speed (is_err c.withdraw.result) c.args.run.now c.withdraw.new.run c.args.outcome.now c.withdraw.new.outcome) c.withdraw.ensures.withdrawn.card;
  selected = subst (λ (a : Action). IsSelected a c.args.run.now c.withdraw.new.run) (sym c.in-Withdraw.is) tt;
  fine = subst (λ (a : Action). IsFine a (is_err c.withdraw.result)) (sym c.in-Withdraw.is) tt;
  stays =
      let only = c.withdraw.ensures.withdrawn.run in
      record { power = ap (λ (r : Run). r.power) only; next = ap (λ (r : Run). r.next) only; begun = ap (λ (r : Run). r.begun) only; unfound = ap (λ (r : Run). r.unfound) only };
  refused = ap (λ (o : Outcome). o.refused) c.withdraw.ensures.withdrawn.outcome;
}

pub returns-in-Withdraw-clause-promises : goal.returns-in-Withdraw-clause-promises
returns-in-Withdraw-clause-promises g c = record {
  recorded = by-withdraw g c (λ a m. RecordsAction a m.begun c.args.deed.speed (is_err c.withdraw.result) c.args.run.now c.withdraw.new.run c.args.outcome.now c.withdraw.new.outcome (before-withdraw g c) (behind-withdraw g c)) (c.withdraw.ensures.promises.recorded (late-withdraw g c) c.args.deed.speed);
  evented = by-withdraw g c (λ a m. EventsAction a m.begun c.args.deed.speed (is_err c.withdraw.result) c.args.run.now c.withdraw.new.run c.args.outcome.now c.withdraw.new.outcome (before-withdraw g c) (behind-withdraw g c)) (c.withdraw.ensures.promises.evented (late-withdraw g c) c.args.deed.speed);
  ringed = by-withdraw g c (λ a m. RingsAction a m.begun c.args.deed.speed (is_err c.withdraw.result) c.args.run.now c.withdraw.new.run c.args.outcome.now c.withdraw.new.outcome (before-withdraw g c) (behind-withdraw g c)) (c.withdraw.ensures.promises.ringed (late-withdraw g c) c.args.deed.speed);
  cards = by-withdraw g c (λ a m. CardsAction a m.begun c.args.deed.speed (is_err c.withdraw.result) c.args.run.now c.args.outcome.now c.withdraw.new.outcome (before-withdraw g c) (behind-withdraw g c)) (c.withdraw.ensures.promises.cards (late-withdraw g c) c.args.deed.speed);
  stands = by-withdraw g c (λ a m. StandsAction a m.begun c.args.deed.speed c.args.run.now c.args.outcome.now (before-withdraw g c) (behind-withdraw g c)) (c.withdraw.ensures.promises.stands (late-withdraw g c) c.args.deed.speed);
}

pub returns-in-Withdraw-clause-leaves : goal.returns-in-Withdraw-clause-leaves
returns-in-Withdraw-clause-leaves g c = record {
  events = by-withdraw g c (λ a m. NotesDone a m c.args.deed.speed (is_err c.withdraw.result) c.args.run.now c.withdraw.new.run c.args.outcome.now c.withdraw.new.outcome (before-withdraw g c) (behind-withdraw g c)) c.withdraw.ensures.leaves.events;
  rings = λ tells. by-withdraw g c (λ a m. RingsDone a m c.args.deed.speed (is_err c.withdraw.result) c.args.run.now c.withdraw.new.run c.args.outcome.now c.withdraw.new.outcome (g.M.Medium.state c.args.unit.now) (g.M.Medium.state c.withdraw.new.unit)) (c.withdraw.ensures.leaves.rings tells);
}

pub returns-in-Withdraw-clause-behind : goal.returns-in-Withdraw-clause-behind
returns-in-Withdraw-clause-behind g c = record {
  held =
      record {
        held = c.withdraw.ensures.behind.held.held;
        cause = c.withdraw.ensures.behind.held.cause;
      };
  going = first_of (search rules, grind (arith, common_steps));
}

pub returns-in-Withdraw-clause-takes : goal.returns-in-Withdraw-clause-takes
returns-in-Withdraw-clause-takes g c = subst (λ (k : ℕ). Takes k k 0 c.args.run.now c.withdraw.new.run c.args.outcome.now c.withdraw.new.outcome) (sym (ap put_count c.in-Withdraw.is)) c.withdraw.ensures.withdrawn.takes

pub returns-in-Withdraw-clause-goes : goal.returns-in-Withdraw-clause-goes
returns-in-Withdraw-clause-goes g c = record {
  later = c.withdraw.ensures.goes.later;
  calm = c.withdraw.ensures.goes.calm;
  more = c.withdraw.ensures.goes.more;
  most = writes-act _ _ (wrote-more 82 102 302 1366 _ _ (omega arith) (omega arith) c.withdraw.ensures.goes.most);
}

pub returns-in-Place-clause-done : goal.returns-in-Place-clause-done
returns-in-Place-clause-done g c = record {
  action_done = by-place g c (λ a m. IsDone a m c.args.deed.speed (is_err c.note_place.result) c.args.run.now c.note_place.new.run c.args.outcome.now (record c.args.outcome.now { breaks = c.note_place.new.breaks })) (c.note_place.ensures.placed.card.0, c.note_place.ensures.placed.card.1, refl);
  selected = subst (λ (a : Action). IsSelected a c.args.run.now c.note_place.new.run) (sym c.in-Place.is) tt;
  fine = subst (λ (a : Action). IsFine a (is_err c.note_place.result)) (sym c.in-Place.is) tt;
  stays =
      let only = c.note_place.ensures.placed.run in
      record { power = ap (λ (r : Run). r.power) only; next = ap (λ (r : Run). r.next) only; begun = ap (λ (r : Run). r.begun) only; unfound = ap (λ (r : Run). r.unfound) only };
  refused = refl;
}

pub returns-in-Place-clause-promises : goal.returns-in-Place-clause-promises
returns-in-Place-clause-promises g c = record {
  recorded = by-place g c (λ a m. RecordsAction a m.begun c.args.deed.speed (is_err c.note_place.result) c.args.run.now c.note_place.new.run c.args.outcome.now (record c.args.outcome.now { breaks = c.note_place.new.breaks }) (before-place g c) (behind-place g c)) (c.note_place.ensures.promises.recorded (late-place g c) c.in-Place.ending c.in-Place.country c.in-Place.region c.args.deed.speed c.args.outcome.now refl);
  evented = by-place g c (λ a m. EventsAction a m.begun c.args.deed.speed (is_err c.note_place.result) c.args.run.now c.note_place.new.run c.args.outcome.now (record c.args.outcome.now { breaks = c.note_place.new.breaks }) (before-place g c) (behind-place g c)) (c.note_place.ensures.promises.evented (late-place g c) c.in-Place.ending c.in-Place.country c.in-Place.region c.args.deed.speed c.args.outcome.now refl);
  ringed =
      by-place g c (λ a m. RingsAction a m.begun c.args.deed.speed (is_err c.note_place.result) c.args.run.now c.note_place.new.run c.args.outcome.now (record c.args.outcome.now { breaks = c.note_place.new.breaks }) (before-place g c) (behind-place g c))
      (c.note_place.ensures.promises.ringed c.in-Place.ending c.in-Place.country c.in-Place.region (place-now g c) (late-place g c) c.args.deed.speed c.args.outcome.now refl);
  cards = by-place g c (λ a m. CardsAction a m.begun c.args.deed.speed (is_err c.note_place.result) c.args.run.now c.args.outcome.now (record c.args.outcome.now { breaks = c.note_place.new.breaks }) (before-place g c) (behind-place g c)) (c.note_place.ensures.promises.cards (late-place g c) c.in-Place.ending c.in-Place.country c.in-Place.region c.args.deed.speed c.args.outcome.now refl);
  stands = by-place g c (λ a m. StandsAction a m.begun c.args.deed.speed c.args.run.now c.args.outcome.now (before-place g c) (behind-place g c)) (c.note_place.ensures.promises.stands (late-place g c) c.in-Place.ending c.in-Place.country c.in-Place.region c.args.deed.speed c.args.outcome.now refl);
}

pub returns-in-Place-clause-leaves : goal.returns-in-Place-clause-leaves
returns-in-Place-clause-leaves g c = record {
  events = by-place g c (λ a m. NotesDone a m c.args.deed.speed (is_err c.note_place.result) c.args.run.now c.note_place.new.run c.args.outcome.now (record c.args.outcome.now { breaks = c.note_place.new.breaks }) (before-place g c) (behind-place g c)) c.note_place.ensures.leaves.events;
  rings =
      λ tells.
      subst (λ (a : Action). RingsDone a (moment_of c.args.deed.begun c.args.run.now) c.args.deed.speed (is_err c.note_place.result) c.args.run.now c.note_place.new.run c.args.outcome.now (record c.args.outcome.now { breaks = c.note_place.new.breaks }) (g.M.Medium.state c.args.unit.now) (g.M.Medium.state c.note_place.new.unit))
      (sym c.in-Place.is) (c.place-entry.result, place-now g c, c.note_place.ensures.leaves.rings tells);
}

pub returns-in-Place-clause-behind : goal.returns-in-Place-clause-behind
returns-in-Place-clause-behind g c = record {
  held =
      record {
        held = c.note_place.ensures.behind.held.held;
        cause = c.note_place.ensures.behind.held.cause;
      };
  going = first_of (search rules, grind (arith, common_steps));
}

pub returns-in-Place-clause-goes : goal.returns-in-Place-clause-goes
returns-in-Place-clause-goes g c = record {
  later = c.note_place.ensures.goes.later;
  calm = c.note_place.ensures.goes.calm;
  more = c.note_place.ensures.goes.more;
  most = writes-act _ _ (wrote-more 9 102 5 1366 _ _ (omega arith) (omega arith) c.note_place.ensures.goes.most);
}

pub returns-in-Select-clause-done : goal.returns-in-Select-clause-done
returns-in-Select-clause-done g c = record {
  action_done =
      let run = c.args.run.now in
      let o = c.args.outcome.now in
      subst (λ (a : Action). IsDone a (moment_of c.args.deed.begun run) c.args.deed.speed false run (record run { minutes = c.select.new.self }) o o) (sym c.in-Select.is) (refl, (refl, c.select.ensures.picked), refl);
  selected = subst (λ (a : Action). IsSelected a c.args.run.now (record c.args.run.now { minutes = c.select.new.self })) (sym c.in-Select.is) (refl, c.select.ensures.picked);
  fine = subst (λ (a : Action). IsFine a false) (sym c.in-Select.is) refl;
  stays = record { power = refl; next = refl; begun = refl; unfound = refl };
  refused = refl;
}

pub returns-in-Select-clause-promises : goal.returns-in-Select-clause-promises
returns-in-Select-clause-promises g c = record {
  recorded =
      λ o done s now front rest are begun allowed h time.
      let run = c.args.run.now in
      let out = c.args.outcome.now in
      let new : Run = record run { minutes = c.select.new.self } in
      let d : Devices = devices (g.M.Medium.state c.args.unit.now) (g.C.Chip.state c.args.card_a.now) (g.D.Chip.state c.args.card_b.now) in
      subst (λ (n : ℕ). RunGoesOn o done s (In n) [] new out d h.within.b) (sym begun)
      (selected o done s c.args.deed.speed run out d now front c.args.deed.action rest are h c.in-Select.slot c.in-Select.pick c.in-Select.is allowed new (refl, c.select.ensures.picked));
  evented = λ o done s now front rest are begun allowed h events time. events;
  ringed =
      let run = c.args.run.now in
      let o = c.args.outcome.now in
      let d : Devices = devices (g.M.Medium.state c.args.unit.now) (g.C.Chip.state c.args.card_a.now) (g.D.Chip.state c.args.card_b.now) in
      subst (λ (a : Action). RingsAction a c.args.deed.begun c.args.deed.speed false run (record run { minutes = c.select.new.self }) o o d d) (sym c.in-Select.is)
      (selected-ringed d c.in-Select.slot c.in-Select.pick c.args.deed.begun c.args.deed.speed run c.select.new.self o);
  cards =
      let run = c.args.run.now in
      let o = c.args.outcome.now in
      let d : Devices = devices (g.M.Medium.state c.args.unit.now) (g.C.Chip.state c.args.card_a.now) (g.D.Chip.state c.args.card_b.now) in
      subst (λ (a : Action). CardsAction a c.args.deed.begun c.args.deed.speed false run o o d d) (sym c.in-Select.is) (selected-cards d c.in-Select.slot c.in-Select.pick c.args.deed.begun c.args.deed.speed run o);
  stands = λ o done s now front rest are begun allowed w time. stand-itself o (devices (g.M.Medium.state c.args.unit.now) (g.C.Chip.state c.args.card_a.now) (g.D.Chip.state c.args.card_b.now));
}

pub returns-in-Select-clause-leaves : goal.returns-in-Select-clause-leaves
returns-in-Select-clause-leaves g c = record {
  events =
      let run = c.args.run.now in
      let o = c.args.outcome.now in
      let d = devices (g.M.Medium.state c.args.unit.now) (g.C.Chip.state c.args.card_a.now) (g.D.Chip.state c.args.card_b.now) in
      subst (λ (a : Action). NotesDone a (moment_of c.args.deed.begun run) c.args.deed.speed false run (record run { minutes = c.select.new.self }) o o d d) (sym c.in-Select.is)
      (same-noted (g.M.Medium.state c.args.unit.now) (g.C.Chip.state c.args.card_a.now) (g.D.Chip.state c.args.card_b.now));
  rings =
      λ tells.
      let run = c.args.run.now in
      let o = c.args.outcome.now in
      let U = g.M.Medium.state c.args.unit.now in
      subst (λ (a : Action). RingsDone a (moment_of c.args.deed.begun run) c.args.deed.speed false run (record run { minutes = c.select.new.self }) o o U U) (sym c.in-Select.is) (rings-left U);
}

pub returns-in-Select-clause-goes : goal.returns-in-Select-clause-goes
returns-in-Select-clause-goes g c = record {
  later = later-same (devices (g.M.Medium.state c.args.unit.now) (g.C.Chip.state c.args.card_a.now) (g.D.Chip.state c.args.card_b.now));
  calm = calm-same (devices (g.M.Medium.state c.args.unit.now) (g.C.Chip.state c.args.card_a.now) (g.D.Chip.state c.args.card_b.now));
  more = omega arith;
  most = writes-none 0 1 (devices (g.M.Medium.state c.args.unit.now) (g.C.Chip.state c.args.card_a.now) (g.D.Chip.state c.args.card_b.now));
}

pub returns-in-Manual-clause-done : goal.returns-in-Manual-clause-done
returns-in-Manual-clause-done g c = record {
  action_done =
      let run = c.args.run.now in
      let o = c.args.outcome.now in
      by-hand g c (λ a r. IsDone a (moment_of c.args.deed.begun run) c.args.deed.speed false run r o o) (refl, refl, refl);
  selected = by-hand g c (λ a r. IsSelected a c.args.run.now r) tt;
  fine = subst (λ (a : Action). IsFine a false) (sym c.in-Manual.is) refl;
  stays = by-hand g c (λ a r. StaysIn c.args.run.now r) (record { power = refl; next = refl; begun = refl; unfound = refl });
  refused = refl;
}

pub returns-in-Manual-clause-promises : goal.returns-in-Manual-clause-promises
returns-in-Manual-clause-promises g c = record {
  recorded =
      λ o done s now front rest are begun allowed h time.
      let run = c.args.run.now in
      let out = c.args.outcome.now in
      let d : Devices = devices (g.M.Medium.state c.args.unit.now) (g.C.Chip.state c.args.card_a.now) (g.D.Chip.state c.args.card_b.now) in
      subst (λ (r : Run). RunGoesOn o done s (In c.args.deed.begun) [] r out d h.within.b) (sym c.enter.ensures.entered)
      (subst (λ (n : ℕ). RunGoesOn o done s (In n) [] (entered_run c.in-Manual.slot c.in-Manual.pick c.in-Manual.minute run) out d h.within.b) (sym begun)
      (entered o done s c.args.deed.speed run out d now front c.args.deed.action rest are h c.in-Manual.slot c.in-Manual.pick c.in-Manual.minute c.in-Manual.is c.requires.allowed));
  evented = λ o done s now front rest are begun allowed h events time. events;
  ringed =
      let run = c.args.run.now in
      let o = c.args.outcome.now in
      let d : Devices = devices (g.M.Medium.state c.args.unit.now) (g.C.Chip.state c.args.card_a.now) (g.D.Chip.state c.args.card_b.now) in
      by-hand g c (λ a r. RingsAction a c.args.deed.begun c.args.deed.speed false run r o o d d) (hand-ringed d c.in-Manual.slot c.in-Manual.pick c.in-Manual.minute c.args.deed.begun c.args.deed.speed run o);
  cards =
      let run = c.args.run.now in
      let o = c.args.outcome.now in
      let d : Devices = devices (g.M.Medium.state c.args.unit.now) (g.C.Chip.state c.args.card_a.now) (g.D.Chip.state c.args.card_b.now) in
      subst (λ (a : Action). CardsAction a c.args.deed.begun c.args.deed.speed false run o o d d) (sym c.in-Manual.is) (hand-cards d c.in-Manual.slot c.in-Manual.pick c.in-Manual.minute c.args.deed.begun c.args.deed.speed run o);
  stands = λ o done s now front rest are begun allowed w time. stand-itself o (devices (g.M.Medium.state c.args.unit.now) (g.C.Chip.state c.args.card_a.now) (g.D.Chip.state c.args.card_b.now));
}

pub returns-in-Manual-clause-leaves : goal.returns-in-Manual-clause-leaves
returns-in-Manual-clause-leaves g c = record {
  events =
      let run = c.args.run.now in
      let o = c.args.outcome.now in
      let d = devices (g.M.Medium.state c.args.unit.now) (g.C.Chip.state c.args.card_a.now) (g.D.Chip.state c.args.card_b.now) in
      by-hand g c (λ a r. NotesDone a (moment_of c.args.deed.begun run) c.args.deed.speed false run r o o d d)
      (same-noted (g.M.Medium.state c.args.unit.now) (g.C.Chip.state c.args.card_a.now) (g.D.Chip.state c.args.card_b.now));
  rings =
      λ tells.
      let run = c.args.run.now in
      let o = c.args.outcome.now in
      let U = g.M.Medium.state c.args.unit.now in
      by-hand g c (λ a r. RingsDone a (moment_of c.args.deed.begun run) c.args.deed.speed false run r o o U U) (rings-left U);
}

pub returns-in-Manual-clause-goes : goal.returns-in-Manual-clause-goes
returns-in-Manual-clause-goes g c = record {
  later = later-same (devices (g.M.Medium.state c.args.unit.now) (g.C.Chip.state c.args.card_a.now) (g.D.Chip.state c.args.card_b.now));
  calm = calm-same (devices (g.M.Medium.state c.args.unit.now) (g.C.Chip.state c.args.card_a.now) (g.D.Chip.state c.args.card_b.now));
  more = omega arith;
  most = writes-none 0 1 (devices (g.M.Medium.state c.args.unit.now) (g.C.Chip.state c.args.card_a.now) (g.D.Chip.state c.args.card_b.now));
}

pub returns-in-Tear-clause-done : goal.returns-in-Tear-clause-done
returns-in-Tear-clause-done g c = record {
  action_done =
      let run = c.args.run.now in
      let o = c.args.outcome.now in
      subst (λ (a : Action). IsDone a (moment_of c.args.deed.begun run) c.args.deed.speed false run c.pull.new.run o (record o { breaks = c.pull.new.breaks })) (sym c.in-Tear.is)
      (subst (λ (m : Moment). IsDone (Tear c.in-Tear.slot) m c.args.deed.speed false run c.pull.new.run o (record o { breaks = c.pull.new.breaks })) c.moment-at.ensures
      (refl, c.pull.ensures.run, ap (λ (l : Listed Break). record o { breaks = l }) c.pull.ensures.breaks));
  selected = subst (λ (a : Action). IsSelected a c.args.run.now c.pull.new.run) (sym c.in-Tear.is) tt;
  fine = subst (λ (a : Action). IsFine a false) (sym c.in-Tear.is) tt;
  stays =
      let run = c.args.run.now in
      subst (StaysIn run) (sym c.pull.ensures.run) (pulled-stays (card_in (seat_in run.keeper.cabin.slots.seats c.in-Tear.slot)) c.moment-at.result.second run);
  refused = refl;
}

pub returns-in-Tear-clause-promises : goal.returns-in-Tear-clause-promises
returns-in-Tear-clause-promises g c = record {
  recorded = by-tear g c (λ a r l. RecordsAction a c.args.deed.begun c.args.deed.speed false c.args.run.now r c.args.outcome.now (record c.args.outcome.now { breaks = l }) (torn g c) (torn g c)) (pulled-recorded (torn g c) c.in-Tear.slot c.args.deed.begun c.args.deed.speed c.args.run.now c.args.outcome.now _ c.requires.acting.going.cabin);
  evented = by-tear g c (λ a r l. EventsAction a c.args.deed.begun c.args.deed.speed false c.args.run.now r c.args.outcome.now (record c.args.outcome.now { breaks = l }) (torn g c) (torn g c)) (pulled-evented (torn g c) c.in-Tear.slot c.args.deed.begun c.args.deed.speed c.args.run.now c.args.outcome.now);
  ringed = by-tear g c (λ a r l. RingsAction a c.args.deed.begun c.args.deed.speed false c.args.run.now r c.args.outcome.now (record c.args.outcome.now { breaks = l }) (torn g c) (torn g c)) (pulled-ringed (torn g c) c.in-Tear.slot c.args.deed.begun c.args.deed.speed c.args.run.now c.args.outcome.now);
  cards = by-tear g c (λ a r l. CardsAction a c.args.deed.begun c.args.deed.speed false c.args.run.now c.args.outcome.now (record c.args.outcome.now { breaks = l }) (torn g c) (torn g c)) (pulled-cards (torn g c) c.in-Tear.slot c.args.deed.begun c.args.deed.speed c.args.run.now c.args.outcome.now);
  stands = λ o done s now front rest are begun allowed w time. stand-itself o (torn g c);
}

pub returns-in-Tear-clause-leaves : goal.returns-in-Tear-clause-leaves
returns-in-Tear-clause-leaves g c = record {
  events =
      let run = c.args.run.now in
      let o = c.args.outcome.now in
      let d = devices (g.M.Medium.state c.args.unit.now) (g.C.Chip.state c.args.card_a.now) (g.D.Chip.state c.args.card_b.now) in
      subst (λ (a : Action). NotesDone a (moment_of c.args.deed.begun run) c.args.deed.speed false run c.pull.new.run o (record o { breaks = c.pull.new.breaks }) d d) (sym c.in-Tear.is)
      (same-noted (g.M.Medium.state c.args.unit.now) (g.C.Chip.state c.args.card_a.now) (g.D.Chip.state c.args.card_b.now));
  rings =
      λ tells.
      let run = c.args.run.now in
      let o = c.args.outcome.now in
      let U = g.M.Medium.state c.args.unit.now in
      subst (λ (a : Action). RingsDone a (moment_of c.args.deed.begun run) c.args.deed.speed false run c.pull.new.run o (record o { breaks = c.pull.new.breaks }) U U) (sym c.in-Tear.is) (rings-left U);
}

pub returns-in-Tear-clause-goes : goal.returns-in-Tear-clause-goes
returns-in-Tear-clause-goes g c = record {
  later = later-same (devices (g.M.Medium.state c.args.unit.now) (g.C.Chip.state c.args.card_a.now) (g.D.Chip.state c.args.card_b.now));
  calm = calm-told (devices (g.M.Medium.state c.args.unit.now) (g.C.Chip.state c.args.card_a.now) (g.D.Chip.state c.args.card_b.now)) _ (ap (λ (l : Listed Break). l.items) c.pull.ensures.breaks) (pulled-calm _ _ _);
  more =
      let told = ap (λ (l : Listed Break). length l.items) c.pull.ensures.breaks ∙ lines-length (pulled_breaks (card_in (seat_in c.args.run.now.keeper.cabin.slots.seats c.in-Tear.slot)) c.in-Tear.slot c.moment-at.result) c.args.outcome.now.breaks in
      omega (arith, told);
  most = writes-none 0 1 (devices (g.M.Medium.state c.args.unit.now) (g.C.Chip.state c.args.card_a.now) (g.D.Chip.state c.args.card_b.now));
}
