use Rattle.std.proofs.Common.{rules, ◌≡◌, ◌∙◌, ◌||◌, ℕ, ◌+◌, ◌-◌, ◌%◌, ◌<◌, ◌≤◌, Bool, true, false, List, [], ◌∷◌, ◌++◌, length, refl, ap, sym, subst, arith}
use Rattle.trace_model.specs.Trace.{TraceSecond, driven}
use Rattle.device_calls.specs.safety_model.Safe.{Devices}
use Rattle.run_minutes.specs.run_promise.Between.{devices}
use Rattle.run_minutes.specs.Keeping.{with_lines}
use Rattle.run_acts.specs.declared.run.Run.{Run}
use Rattle.run_outcome.specs.declared.outcome.Outcome.{Outcome}
use Rattle.run_acts.specs.Power.{is_lit, has_power, passed}
use Rattle.recorder_with_cards.proofs.Dark.{away-dark}
use Rattle.recorder_with_cards.proofs.SecondsRecorded.{none-refused, passes-dark, by-power, first-driven}
use Rattle.recorder_with_cards.proofs.SlotLines.{refused_dark}
use Rattle.std.proofs.lemmas.Grind.{common_steps}
use Rattle.run_acts.specs.Room.{cuts_from, cuts_within}
use Rattle.recorder_with_cards.proofs.Rooms.{room-less}
use Rattle.run_acts.specs.RunRinged.{RunRinged, InSecondRinged}
use Rattle.recorder_with_cards.proofs.SecondsRinged.{dark-ringed}
use Rattle.run_minutes.proofs.Later.{after-of, after-then}
use Rattle.run_outcome.proofs.Broken.{broke-then}
use Rattle.recorder_with_cards.specs.Carded.{RunCarded, InSecondCarded, RunMoments}
use Rattle.recorder_with_cards.proofs.Promised.{both}
use Rattle.recorder_with_cards.proofs.Growing.{Grows, grows-is, grows-then_, begun-grows, turn-grows}
use Rattle.recorder_with_cards.proofs.Moments.{moments-on, near-minute}
use Rattle.device_calls.proofs.run_unit_course.Parts.{driven-length}
use Rattle.device_calls.specs.safety_model.Safe.{card_of}
use Rattle.tach_media.specs.Medium.{IsCoherent}
use Rattle.run_acts.specs.Recording.{RunRecorded}
use Rattle.recorder_with_cards.proofs.StoodSeconds.{turn-stood}
use Rattle.recorder_with_cards.proofs.SecondsCards.{turned-carded, dark-carded}
use Rattle.recorder_with_cards.proofs.SpeedsSoFar.{CameSo, came-begun, in-second, carded-in}
use Rattle.run_minutes.proofs.Calm.{calm-then}
use Rattle.recorder_with_cards.specs.Recorded.{Between, HasBegunBy, Inside}
use Rattle.run_minutes.specs.Books.{HaveTime}
use Rattle.run_acts.specs.Recording.{IsNow}
use Rattle.std.specs.Prelude.{Ok}
use Rattle.run_minutes.specs.run_promise.Origin.{Origin}
use Rattle.recorder_with_cards.proofs.Resumed.{same-devices}
use Rattle.recorder_with_cards.proofs.Time.{after-time}
use Rattle.recorder_with_cards.proofs.driving.step.Given.{Over}
use Rattle.recorder_with_cards.proofs.driving.step.Goals.{After-turn}
use Rattle.std.specs.Prelude.{is_err}
use Rattle.run_minutes.specs.Writes.{WroteAtMost}
use Rattle.run_minutes.proofs.Writes.{wrote-none}
use Rattle.recorder_with_cards.specs.Writes.{WritesBetween, power_ons_told, powered}
use Rattle.recorder_with_cards.proofs.PowerOns.{begins-once, refused-on, turned-on}
use Rattle.recorder_with_cards.proofs.Writes.{BeginsOnce, between-refused, between-turn}
use Rattle.recorder_with_cards.proofs.driving.step.Goals as goal

-- ---- THE SECOND THAT BEGINS, and those up to the turn

module _ (g : Over) (c : After-turn g) where
  abbrev dev0 : Devices
  dev0 = devices (g.M.Medium.state c.args.unit.now) (g.C.Chip.state c.args.card_a.now) (g.D.Chip.state c.args.card_b.now)

  abbrev dev1 : Devices
  dev1 = devices (g.M.Medium.state c.begin_second.new.unit) (g.C.Chip.state c.begin_second.new.card_a) (g.D.Chip.state c.begin_second.new.card_b)

  abbrev dev2 : Devices
  dev2 = devices (g.M.Medium.state c.turn.new.unit) (g.C.Chip.state c.turn.new.card_a) (g.D.Chip.state c.turn.new.card_b)

  abbrev second : TraceSecond
  second = record { number = c.args.run.now.next; has_power = true; speed = c.args.more.speed; actions = [] }

  now-begun : IsNow second c.args.more.speed c.begin_second.new.run
  now-begun = record { number = sym c.in_ok-begin_second.ensures.begun.next; given = refl; speed_is = refl }

  -- the second begins with one power-on at most
  same-begun : (c.begin_second.new.unit ≡ c.args.unit.now) × (c.begin_second.new.card_a ≡ c.args.card_a.now) × (c.begin_second.new.card_b ≡ c.args.card_b.now) → WroteAtMost 0 0 dev0 dev1
  same-begun same = same-devices (λ (x : Devices). WroteAtMost 0 0 dev0 x) g.M.Medium.state g.C.Chip.state g.D.Chip.state c.args.unit.now c.begin_second.new.unit c.args.card_a.now c.begin_second.new.card_a c.args.card_b.now c.begin_second.new.card_b same (wrote-none 0 0 dev0)

  once-begun : BeginsOnce (powered c.args.run.now c.args.outcome.now) (powered c.begin_second.new.run c.begin_second.new.outcome) dev0 dev1
  once-begun =
      begins-once c.args.more.speed c.in_ok-begin_second.field-0 c.args.run.now c.begin_second.new.run c.args.outcome.now c.begin_second.new.outcome dev0 dev1 c.in_ok-begin_second.ensures.goes.most
      (λ away. let is = c.in_ok-begin_second.ensures.dark away in (is.0, is.1, same-begun (is.2, is.3, is.4)))
      (λ on. let is = c.in_ok-begin_second.ensures.lit on in (is.1, is.2, same-begun (is.3, is.4, is.5)))
      (λ dark_ given. c.in_ok-begin_second.ensures.promises.noted dark_ (sym c.in_ok-begin_second.ensures.begun.has ∙ given))

  time-begun : HaveTime dev2 → HaveTime dev1
  time-begun time = after-time c.turn.ensures.goes.later time

  -- there was power: so far the second has come
  module _ (given : c.in_ok-begin_second.field-0 ≡ true) where
    has-given : has_power c.args.run.now.power c.args.run.now.next ≡ true
    has-given = sym c.in_ok-begin_second.ensures.begun.has ∙ given

    came : CameSo c.args.run.now.next c.args.run.now c.begin_second.new.run c.args.outcome.now c.begin_second.new.outcome
    came =
        came-begun c.args.more.speed c.args.run.now.next c.args.run.now c.begin_second.new.run c.args.outcome.now c.begin_second.new.outcome dev0 dev1 refl
        (λ on. let is = c.in_ok-begin_second.ensures.lit on in (is.1, is.2)) (λ dark. c.in_ok-begin_second.ensures.promises.noted dark has-given)

  -- there was no power: nothing was called
  module _ (away : c.in_ok-begin_second.field-0 ≡ false) where
    none-given : has_power c.args.run.now.power c.args.run.now.next ≡ false
    none-given = sym c.in_ok-begin_second.ensures.begun.has ∙ away

    dark : is_lit c.begin_second.new.run.power ≡ false
    dark = ap (λ (x : Run). is_lit x.power) (c.in_ok-begin_second.ensures.dark away).0 ∙ away-dark c.args.run.now.power c.args.run.now.next none-given

    still : (P : Devices → Type 0) → P dev0 → P dev2
    still P h =
        let kept = c.in_ok-begin_second.ensures.dark away in
        let turned = c.turn.ensures.dark dark in
        same-devices P g.M.Medium.state g.C.Chip.state g.D.Chip.state c.args.unit.now c.turn.new.unit c.args.card_a.now c.turn.new.card_a c.args.card_b.now c.turn.new.card_b (turned.0 ∙ kept.2, turned.1 ∙ kept.3, turned.2 ∙ kept.4) h

    passes : (c.turn.new.run ≡ passed c.args.more.seconds 0 c.begin_second.new.run) × (c.turn.new.outcome ≡ c.begin_second.new.outcome)
    passes = passes-dark c.begin_second.new.run c.turn.new.run c.begin_second.new.outcome c.turn.new.outcome c.args.more.seconds c.args.more.speed 0 dark c.turn.ensures.turned.seconds

    passed-on : c.turn.new.run ≡ passed c.args.more.seconds 0 c.args.run.now
    passed-on = passes.0 ∙ ap (passed c.args.more.seconds 0) (c.in_ok-begin_second.ensures.dark away).0

    refused-none : c.turn.new.outcome ≡ record c.args.outcome.now { refused = with_lines (refused_dark c.args.run.now.next []) c.args.outcome.now.refused }
    refused-none = passes.1 ∙ (c.in_ok-begin_second.ensures.dark away).1 ∙ none-refused c.args.outcome.now

  -- so far as it has come its outcome grows
  grows-begun : c.in_ok-begin_second.field-0 ≡ true → Grows c.args.run.now.next c.args.outcome.now c.begin_second.new.outcome
  grows-begun given =
      begun-grows c.args.more.speed c.args.run.now c.begin_second.new.run c.args.outcome.now c.begin_second.new.outcome dev0 dev1 (λ on. (c.in_ok-begin_second.ensures.lit on).2)
      (λ dark_. c.in_ok-begin_second.ensures.promises.noted dark_ (has-given given))

  grows-turned : Grows c.args.run.now.next c.begin_second.new.outcome c.turn.new.outcome
  grows-turned = subst (λ (u : ℕ). Grows u c.begin_second.new.outcome c.turn.new.outcome) c.in_ok-begin_second.ensures.begun.next
      (turn-grows (is_lit c.begin_second.new.run.power) c.args.more.seconds c.args.more.speed 0 c.begin_second.new.run c.turn.new.run c.begin_second.new.outcome c.turn.new.outcome c.requires.stretch.some c.turn.ensures.turned.seconds)

  grows-step : Grows c.args.run.now.next c.args.outcome.now c.turn.new.outcome
  grows-step = grows-then_ c.args.run.now.next c.args.outcome.now c.begin_second.new.outcome c.turn.new.outcome (by c.in_ok-begin_second.field-0 refl) grows-turned
    where
      by : (b : Bool) → c.in_ok-begin_second.field-0 ≡ b → Grows c.args.run.now.next c.args.outcome.now c.begin_second.new.outcome
      by true given = grows-begun given
      by false away = grows-is c.args.run.now.next c.args.outcome.now c.begin_second.new.outcome (c.in_ok-begin_second.ensures.dark away).1

  timely-step : (o : Origin) (done : List TraceSecond) → RunRecorded o done c.args.run.now c.args.outcome.now dev0 → RunMoments o done c.args.outcome.now dev0 → RunMoments o (done ++ driven c.args.more.seconds c.args.run.now.next c.args.more.speed []) c.turn.new.outcome dev2
  timely-step o done r m =
      let next : c.args.run.now.next ≡ o.from + length done = r.recorded.recorded.followed.next in
      let minute = c.requires.stretch.minute in
      let long = driven-length c.args.more.seconds c.args.run.now.next c.args.more.speed [] in
      moments-on o done (driven c.args.more.seconds c.args.run.now.next c.args.more.speed []) c.args.run.now c.args.outcome.now c.turn.new.outcome dev0 dev2 r m
      (g.met.M.Medium.coherent c.args.unit.now) (both (λ k. IsCoherent (card_of dev0 k)) (g.met.C.Chip.coherent c.args.card_a.now) (g.met.D.Chip.coherent c.args.card_b.now)) next grows-step
      (after-then dev0 dev1 dev2 (after-of dev0 dev1 c.in_ok-begin_second.ensures.goes.later) c.turn.ensures.goes.later) (calm-then dev0 dev1 dev2 c.in_ok-begin_second.ensures.goes.calm c.turn.ensures.goes.calm)
      (broke-then c.in_ok-begin_second.ensures.goes.broke c.turn.ensures.goes.broke)
      (near-minute o.from done c.args.more.seconds c.args.run.now.next c.args.more.speed (subst (λ (u : ℕ). u % 60 + length (driven c.args.more.seconds c.args.run.now.next c.args.more.speed []) ≤ 60) next (omega (arith, minute, long))))

  -- what is carried behind them
  stepped : (R : Between) (I : Inside) (o : Origin) (done : List TraceSecond) → HasBegunBy R I (Ok c.in_ok-begin_second.field-0) o done second c.begin_second.new.run c.begin_second.new.outcome dev1 →
      (c.in_ok-begin_second.field-0 ≡ true → I o done second 0 c.begin_second.new.run c.begin_second.new.outcome dev1 → R o (done ++ second ∷ driven (c.args.more.seconds - 1) (c.args.run.now.next + 1) c.args.more.speed []) c.turn.new.run c.turn.new.outcome dev2) →
      (c.in_ok-begin_second.field-0 ≡ false → R o (done ++ driven c.args.more.seconds c.args.run.now.next c.args.more.speed []) c.turn.new.run c.turn.new.outcome dev0) → R o (done ++ driven c.args.more.seconds c.args.run.now.next c.args.more.speed []) c.turn.new.run c.turn.new.outcome dev2
  stepped R I o done begun lit dark_so =
      by-power R I c.in_ok-begin_second.field-0 o done second c.begin_second.new.run c.begin_second.new.outcome dev1 begun
      (λ lit_ in_. subst (λ (ss : List TraceSecond). R o ss c.turn.new.run c.turn.new.outcome dev2) (ap (λ (ss : List TraceSecond). done ++ ss) (sym (first-driven c.args.more.seconds c.args.run.now.next c.args.more.speed [] c.requires.stretch.some))) (lit lit_ in_))
      (λ away was_. still away (λ (x : Devices). R o (done ++ driven c.args.more.seconds c.args.run.now.next c.args.more.speed []) c.turn.new.run c.turn.new.outcome x) (dark_so away))

pub begin_second-requires-clause-room : goal.begin_second-requires-clause-room
begin_second-requires-clause-room g c = record {
  room = let some = c.requires.stretch.some in room-less cuts_from c.args.run.now c.args.outcome.now c.args.more.seconds 1 0 0 0 0 0 0 (omega (arith, some)) (omega arith) (omega arith) (omega arith) c.requires.room.room;
  unfound = first_of (search rules, grind (arith, common_steps));
}

pub turn-requires-clause-going : goal.turn-requires-clause-going
turn-requires-clause-going g c = c.in_ok-begin_second.ensures.behind.going

pub turn-requires-clause-room : goal.turn-requires-clause-room
turn-requires-clause-room g c =
    let some = c.requires.stretch.some in
    let n : ℕ = c.args.more.seconds in
    room-less cuts_within c.begin_second.new.run c.begin_second.new.outcome (1 + (n - 1)) n 0 0 0 0 0 0 (omega arith) (omega arith) (omega arith) (omega arith)
    (c.in_ok-begin_second.ensures.behind.room (n - 1) 0 0 0 (room-less cuts_from c.args.run.now c.args.outcome.now n (1 + (n - 1)) 0 0 0 0 0 0 (omega (arith, some)) (omega arith) (omega arith) (omega arith) c.requires.room.room))

pub returns-clause-room : goal.returns-clause-room
returns-clause-room g c = λ left offs insertions actions h.
    let some = c.requires.stretch.some in
    let n : ℕ = c.args.more.seconds in
    c.turn.ensures.behind.room left offs insertions actions
    (room-less cuts_within c.begin_second.new.run c.begin_second.new.outcome (1 + (n - 1 + left)) (n + left) offs offs insertions insertions actions actions (omega arith) (omega arith) (omega arith) (omega arith)
    (c.in_ok-begin_second.ensures.behind.room (n - 1 + left) offs insertions actions (room-less cuts_from c.args.run.now c.args.outcome.now (n + left) (1 + (n - 1 + left)) offs offs insertions insertions actions actions (omega (arith, some)) (omega arith) (omega arith) (omega arith) h)))

pub returns-clause-gone : goal.returns-clause-gone
returns-clause-gone g c = record {
  late = tt;
  going = c.turn.ensures.behind.going;
  next = let turned = c.turn.ensures.turned.next in let begun = c.in_ok-begin_second.ensures.begun.next in omega (arith, turned, begun);
  unfound = let turned = c.turn.ensures.turned.unfound in let few = c.turn.ensures.goes.more in let begun = c.in_ok-begin_second.ensures.begun.unfound in omega (arith, turned, few, begun);
  is_unit = c.turn.ensures.behind.going.held.is_unit;
}

pub returns-in_err-begin_second-clause-gone : goal.returns-in_err-begin_second-clause-gone
returns-in_err-begin_second-clause-gone g c = record {
  late = first_of (search rules, grind (arith, common_steps));
  going = first_of (search rules, grind (arith, common_steps));
  next = first_of (search rules, grind (arith, common_steps));
  unfound = first_of (search rules, grind (arith, common_steps));
  is_unit = c.in_err-begin_second.ensures.behind.is_unit;
}

pub returns-clause-goes : goal.returns-clause-goes
returns-clause-goes g c = record {
  later = after-then (dev0 g c) (dev1 g c) (dev2 g c) (after-of (dev0 g c) (dev1 g c) c.in_ok-begin_second.ensures.goes.later) c.turn.ensures.goes.later;
  calm = calm-then (dev0 g c) (dev1 g c) (dev2 g c) c.in_ok-begin_second.ensures.goes.calm c.turn.ensures.goes.calm;
  broke = broke-then c.in_ok-begin_second.ensures.goes.broke c.turn.ensures.goes.broke;
  most =
      let before : Run = c.begin_second.new.run in
      let told : Outcome = c.begin_second.new.outcome in
      between-turn (powered c.args.run.now c.args.outcome.now) (powered before told) (powered c.turn.new.run c.turn.new.outcome) (0 + powered c.turn.new.run c.turn.new.outcome) (dev0 g c) (dev1 g c) (dev2 g c)
      (turned-on (is_lit before.power) c.args.more.seconds c.args.more.speed 0 before c.turn.new.run told c.turn.new.outcome c.turn.ensures.turned.seconds) (omega arith) (once-begun g c) c.turn.ensures.goes.most;
}

pub returns-in_err-begin_second-clause-goes : goal.returns-in_err-begin_second-clause-goes
returns-in_err-begin_second-clause-goes g c = record {
  later =
      after-of (devices (g.M.Medium.state c.args.unit.now) (g.C.Chip.state c.args.card_a.now) (g.D.Chip.state c.args.card_b.now)) (devices (g.M.Medium.state c.begin_second.new.unit) (g.C.Chip.state c.begin_second.new.card_a) (g.D.Chip.state c.begin_second.new.card_b))
      c.in_err-begin_second.ensures.goes.later;
  calm = c.in_err-begin_second.ensures.goes.calm;
  broke = c.in_err-begin_second.ensures.goes.broke;
  most =
      let d : Devices = devices (g.M.Medium.state c.args.unit.now) (g.C.Chip.state c.args.card_a.now) (g.D.Chip.state c.args.card_b.now) in
      let e : Devices = devices (g.M.Medium.state c.begin_second.new.unit) (g.C.Chip.state c.begin_second.new.card_a) (g.D.Chip.state c.begin_second.new.card_b) in
      let was : ℕ = powered c.args.run.now c.args.outcome.now in
      let out : Outcome = c.begin_second.new.outcome in
      let failed : true ≡ is_err c.from_residual.result = search rules in
      let off = refused-on c.args.run.now c.args.outcome.now out (λ on. let bad : false ≡ true = (c.in_err-begin_second.ensures.lit on).0 in cc) c.in_err-begin_second.ensures.goes.broke.few in
      subst (λ (b : Bool). WritesBetween 1 0 was (0 + power_ons_told (b || is_lit c.begin_second.new.run.power) out.breaks.items) d e) failed
      (between-refused 1 0 was (0 + power_ons_told true out.breaks.items) d e (omega arith) (omega (arith, off)) c.in_err-begin_second.ensures.goes.most);
}

-- ---- what is recorded, with its events and rings

pub returns-clause-promises : goal.returns-clause-promises
returns-clause-promises g c = record {
  ringed =
      λ o done last r time.
      stepped g c RunRinged InSecondRinged o done (c.in_ok-begin_second.ensures.promises.ringed o done (second g c) (record { number = refl; given = refl; speed_is = refl }) r (time-begun g c time))
      (λ lit_ in_. c.turn.ensures.promises.ringed o done (second g c) (now-begun g c) refl (λ more. (refl, last)) in_ time)
      (λ away. dark-ringed o done c.args.run.now c.args.outcome.now (dev0 g c) r c.args.more.seconds c.args.more.speed 0 [] c.requires.stretch.some (none-given g c away) c.requires.stretch.minute c.turn.new.run c.turn.new.outcome (passed-on g c away) (refused-none g c away));
  cards =
      λ o done last t time.
      let r = t.carded in
      let low = c.requires.going.low in
      let positive : 0 < c.args.run.now.next = omega (arith, low) in
      record {
        carded = stepped g c RunCarded InSecondCarded o done (c.in_ok-begin_second.ensures.promises.cards o done (second g c) (record { number = refl; given = refl; speed_is = refl }) r (time-begun g c time))
            (λ lit_ in_. turned-carded o done (second g c) c.args.more.seconds c.args.more.speed 0 c.begin_second.new.run c.turn.new.run c.begin_second.new.outcome c.turn.new.outcome (dev1 g c) (dev2 g c) refl positive in_ c.turn.ensures.turned.seconds
            (λ x. c.turn.ensures.promises.ringed o done (second g c) (now-begun g c) refl (λ more. (refl, last)) x time)
            (λ x. c.turn.ensures.promises.cards o done (second g c) (now-begun g c) refl (λ more. refl) x time)
            (λ x. turn-stood o done (second g c) c.args.more.seconds c.args.more.speed 0 c.begin_second.new.run c.turn.new.run c.begin_second.new.outcome c.turn.new.outcome (dev1 g c) (dev2 g c) (now-begun g c).number c.turn.ensures.turned.next (let fits = c.requires.stretch.minute in let same = (now-begun g c).number in omega (arith, fits, same)) c.requires.stretch.some x.evented.recorded in_ c.turn.ensures.turned.seconds
            (λ y. c.turn.ensures.promises.stands o done (second g c) (now-begun g c) refl (λ more. refl) y time))
            (c.turn.ensures.promises.speeds o done (second g c) (now-begun g c) refl (λ more. refl)
            (in-second o done (second g c) c.args.run.now c.begin_second.new.run c.args.outcome.now c.begin_second.new.outcome (dev0 g c) (dev1 g c) r.ringed.evented.recorded r.speeds refl refl (has-given g c lit_) (came g c lit_) c.in_ok-begin_second.ensures.goes.later.speeds 0
            (carded-in (is_lit c.begin_second.new.run.power) o done (second g c) 0 c.begin_second.new.run c.begin_second.new.outcome (dev1 g c) in_)) time))
            (λ away. dark-carded o done c.args.run.now c.args.outcome.now (dev0 g c) r c.requires.going.low c.args.more.seconds c.args.more.speed 0 [] c.requires.stretch.some (none-given g c away) c.requires.stretch.minute c.turn.new.run c.turn.new.outcome (passed-on g c away) (refused-none g c away));
        timely = timely-step g c o done r.ringed.evented.recorded t.timely;
      };
}

pub returns-in_err-begin_second-clause-promises : goal.returns-in_err-begin_second-clause-promises
returns-in_err-begin_second-clause-promises g c = record {
  ringed =
      λ o done last r time.
      let s : TraceSecond = record { number = c.args.run.now.next; has_power = true; speed = c.args.more.speed; actions = [] } in
      absurd (c.in_err-begin_second.ensures.promises.ringed o done s (record { number = refl; given = refl; speed_is = refl }) r time);
  cards =
      λ o done last r time.
      let s : TraceSecond = record { number = c.args.run.now.next; has_power = true; speed = c.args.more.speed; actions = [] } in
      absurd (c.in_err-begin_second.ensures.promises.cards o done s (record { number = refl; given = refl; speed_is = refl }) r.carded time);
}

pub turn-requires-clause-stretch : goal.turn-requires-clause-stretch
turn-requires-clause-stretch g c = record {
  some = first_of (search rules, grind (arith, common_steps));
  minute = first_of (search rules, grind (arith, common_steps));
  small = first_of (search rules, grind (arith, common_steps));
}
