use Rattle.std.proofs.Common.{rules, ◌≡◌, ◌∙◌, ◌||◌, ℕ, ◌+◌, ◌-◌, ◌<◌, ◌≤◌, Bool, true, false, List, [], ◌++◌, length, refl, ap, sym, subst, arith}
use Rattle.std.proofs.lemmas.List.{append-nil}
use Rattle.trace_model.specs.declared.Action.{Action}
use Rattle.trace_model.specs.Trace.{TraceSecond, driven}
use Rattle.device_calls.specs.safety_model.Safe.{Devices}
use Rattle.run_minutes.specs.run_promise.Between.{devices}
use Rattle.run_outcome.specs.declared.outcome.Outcome.{Outcome}
use Rattle.run_acts.specs.Recording.{IsNow}
use Rattle.std.proofs.lemmas.Grind.{common_steps}
use Rattle.tach_media.proofs.Runs.{on_ok, ok_gives}
use Rattle.run_acts.specs.declared.run.Run.{Run}
use Rattle.run_acts.specs.Power.{is_lit, has_power, passed}
use Rattle.run_minutes.specs.Keeping.{with_lines}
use Rattle.run_acts.specs.Room.{cuts_from, cuts_within}
use Rattle.recorder_with_cards.specs.Acting.{AreActed}
use Rattle.recorder_with_cards.specs.Items.{between, insertions_in}
use Rattle.recorder_with_cards.specs.Recorded.{actions_in, Between, HasBegunBy, Inside}
use Rattle.recorder_with_cards.proofs.SecondsRecorded.{acted-dark, passes-dark, by-power, run-then}
use Rattle.recorder_with_cards.proofs.SlotLines.{refused_dark}
use Rattle.recorder_with_cards.proofs.Waiting.{all-actions}
use Rattle.recorder_with_cards.proofs.Rooms.{room-less}
use Rattle.recorder_with_cards.proofs.Dark.{away-dark}
use Rattle.run_acts.specs.RunRinged.{RunRinged, InSecondRinged}
use Rattle.recorder_with_cards.proofs.SecondsRinged.{dark-ringed}
use Rattle.run_minutes.proofs.Later.{after-of, after-then}
use Rattle.run_outcome.proofs.Broken.{broke-then}
use Rattle.recorder_with_cards.specs.Carded.{RunCarded, InSecondCarded, RunMoments, RunTimely}
use Rattle.recorder_with_cards.proofs.Promised.{both}
use Rattle.recorder_with_cards.proofs.Growing.{Grows, grows-lines, grows-then_, begun-grows, acted-grows, turn-grows}
use Rattle.recorder_with_cards.proofs.Moments.{moments-on, near-one}
use Rattle.device_calls.specs.safety_model.Safe.{card_of}
use Rattle.tach_media.specs.Medium.{IsCoherent}
use Rattle.run_acts.specs.Recording.{RunRecorded}
use Rattle.recorder_with_cards.proofs.StoodSeconds.{turn-stood}
use Rattle.recorder_with_cards.proofs.SecondsCards.{turned-carded, dark-carded}
use Rattle.run_acts.specs.run_speeds.Speeds.{LeavesSpeeds}
use Rattle.run_acts.proofs.run_speeds.Leaving.{leaves-then}
use Rattle.recorder_with_cards.proofs.SpeedsSoFar.{CameSo, came-begun, came-acted, in-second, carded-in}
use Rattle.run_minutes.proofs.Calm.{calm-then}
use Rattle.run_minutes.specs.Books.{HaveTime}
use Rattle.std.specs.Prelude.{Ok}
use Rattle.run_minutes.specs.run_promise.Origin.{Origin}
use Rattle.run_acts.specs.Going.{largest_number}
use Rattle.recorder_with_cards.proofs.Resumed.{same-devices}
use Rattle.recorder_with_cards.proofs.Time.{later-time, after-time}
use Rattle.recorder_with_cards.proofs.driving.drive.Given.{Over}
use Rattle.recorder_with_cards.proofs.driving.drive.Goals.{After-drive_on}
use Rattle.recorder_with_cards.specs.Writes.{turns_among, WritesBetween, power_ons_told, powered, powered_by}
use Rattle.recorder_with_cards.proofs.Turns.{all-turns}
use Rattle.std.specs.Prelude.{is_err}
use Rattle.run_minutes.specs.Writes.{WroteAtMost}
use Rattle.run_minutes.proofs.Writes.{wrote-none}
use Rattle.recorder_with_cards.proofs.PowerOns.{begins-once, refused-on, acted-on, turned-on}
use Rattle.recorder_with_cards.proofs.Writes.{BeginsOnce, between-refused, between-driven}
use Rattle.recorder_with_cards.proofs.driving.drive.Goals as goal

-- ---- THE FIRST SECOND, and those behind it

module _ (g : Over) (c : After-drive_on g) where
  abbrev dev0 : Devices
  dev0 = devices (g.M.Medium.state c.args.unit.now) (g.C.Chip.state c.args.card_a.now) (g.D.Chip.state c.args.card_b.now)

  abbrev dev1 : Devices
  dev1 = devices (g.M.Medium.state c.begin_second.new.unit) (g.C.Chip.state c.begin_second.new.card_a) (g.D.Chip.state c.begin_second.new.card_b)

  abbrev dev2 : Devices
  dev2 = devices (g.M.Medium.state c.act_all.new.unit) (g.C.Chip.state c.act_all.new.card_a) (g.D.Chip.state c.act_all.new.card_b)

  abbrev dev3 : Devices
  dev3 = devices (g.M.Medium.state c.turn.new.unit) (g.C.Chip.state c.turn.new.card_a) (g.D.Chip.state c.turn.new.card_b)

  abbrev dev4 : Devices
  dev4 = devices (g.M.Medium.state c.drive_on.new.unit) (g.C.Chip.state c.drive_on.new.card_a) (g.D.Chip.state c.drive_on.new.card_b)

  abbrev acts : List Action
  acts = actions_in (between c.args.due.from c.args.due.to c.args.due.items.now)

  abbrev second : TraceSecond
  second = record { number = c.args.run.now.next; has_power = true; speed = c.args.due.speed; actions = acts }

  begun-next : c.begin_second.new.run.next ≡ c.args.run.now.next
  begun-next = c.in_ok-has_power.ensures.begun.next

  now-begun : IsNow second c.args.due.speed c.begin_second.new.run
  now-begun = record { number = sym begun-next; given = refl; speed_is = refl }

  now-acted : IsNow second c.args.due.speed c.act_all.new.run
  now-acted = record { number = sym begun-next ∙ sym c.act_all.ensures.acted.next; given = refl; speed_is = refl }

  -- it begins with one power-on at most
  same-begun : (c.begin_second.new.unit ≡ c.args.unit.now) × (c.begin_second.new.card_a ≡ c.args.card_a.now) × (c.begin_second.new.card_b ≡ c.args.card_b.now) → WroteAtMost 0 0 dev0 dev1
  same-begun same = same-devices (λ (x : Devices). WroteAtMost 0 0 dev0 x) g.M.Medium.state g.C.Chip.state g.D.Chip.state c.args.unit.now c.begin_second.new.unit c.args.card_a.now c.begin_second.new.card_a c.args.card_b.now c.begin_second.new.card_b same (wrote-none 0 0 dev0)

  once-begun : BeginsOnce (powered c.args.run.now c.args.outcome.now) (powered c.begin_second.new.run c.begin_second.new.outcome) dev0 dev1
  once-begun =
      begins-once c.args.due.speed c.in_ok-has_power.has_power c.args.run.now c.begin_second.new.run c.args.outcome.now c.begin_second.new.outcome dev0 dev1 c.in_ok-has_power.ensures.goes.most
      (λ away. let is = c.in_ok-has_power.ensures.dark away in (is.0, is.1, same-begun (is.2, is.3, is.4)))
      (λ on. let is = c.in_ok-has_power.ensures.lit on in (is.1, is.2, same-begun (is.3, is.4, is.5)))
      (λ dark_ given. c.in_ok-has_power.ensures.promises.noted dark_ (sym c.in_ok-has_power.ensures.begun.has ∙ given))

  -- and no call behind tells one less
  on-turned : powered c.begin_second.new.run c.begin_second.new.outcome ≤ powered c.turn.new.run c.turn.new.outcome
  on-turned =
      let acted = acted-on c.in_ok-has_power.has_power c.args.due.speed 0 (between c.args.due.from c.args.due.to c.args.due.items.now) c.begin_second.new.run c.act_all.new.run c.begin_second.new.outcome c.act_all.new.outcome c.act_all.ensures.acted.done in
      let turned = turned-on (is_lit c.act_all.new.run.power) 1 c.args.due.speed c.number_of-begun.result c.act_all.new.run c.turn.new.run c.act_all.new.outcome c.turn.new.outcome c.turn.ensures.turned.seconds in
      omega (arith, acted, turned)

  later-by-one : c.turn.new.run.next ≡ c.args.run.now.next + 1
  later-by-one = c.turn.ensures.turned.next ∙ ap (λ (n : ℕ). n + 1) (c.act_all.ensures.acted.next ∙ begun-next)

  begun-all : length acts ≡ c.args.due.to - c.args.due.from → c.args.due.to - c.args.due.from ≤ largest_number → c.number_of-begun.result ≡ c.args.due.to - c.args.due.from
  begun-all many few = let n = c.number_of-begun.ensures in omega (arith, n, few)

  time-three : HaveTime dev4 → HaveTime dev3
  time-three = after-time c.drive_on.ensures.goes.later

  time-two : HaveTime dev4 → HaveTime dev2
  time-two time = after-time c.turn.ensures.goes.later (time-three time)

  time-one : HaveTime dev4 → HaveTime dev1
  time-one time = later-time c.act_all.ensures.goes.later (time-two time)

  leaves : LeavesSpeeds (g.M.Medium.state c.args.unit.now) (g.M.Medium.state c.act_all.new.unit)
  leaves = leaves-then (g.M.Medium.state c.args.unit.now) (g.M.Medium.state c.begin_second.new.unit) (g.M.Medium.state c.act_all.new.unit) c.in_ok-has_power.ensures.goes.later.speeds c.act_all.ensures.goes.later.speeds

  -- there was power: so far the second has come, behind its actions
  module _ (given : c.in_ok-has_power.has_power ≡ true) where
    has-given : has_power c.args.run.now.power c.args.run.now.next ≡ true
    has-given = sym c.in_ok-has_power.ensures.begun.has ∙ given

    begins : CameSo c.args.run.now.next c.args.run.now c.begin_second.new.run c.args.outcome.now c.begin_second.new.outcome
    begins =
        came-begun c.args.due.speed c.args.run.now.next c.args.run.now c.begin_second.new.run c.args.outcome.now c.begin_second.new.outcome dev0 dev1 refl
        (λ on. let is = c.in_ok-has_power.ensures.lit on in (is.1, is.2)) (λ dark. c.in_ok-has_power.ensures.promises.noted dark has-given)

    came : CameSo c.args.run.now.next c.args.run.now c.act_all.new.run c.args.outcome.now c.act_all.new.outcome
    came =
        came-acted c.args.run.now.next c.args.due.speed 0 (between c.args.due.from c.args.due.to c.args.due.items.now) c.args.run.now c.begin_second.new.run c.act_all.new.run c.args.outcome.now c.begin_second.new.outcome c.act_all.new.outcome refl begins
        (subst (λ (b : Bool). AreActed b c.args.due.speed 0 (between c.args.due.from c.args.due.to c.args.due.items.now) c.begin_second.new.run c.act_all.new.run c.begin_second.new.outcome c.act_all.new.outcome) given c.act_all.ensures.acted.done)

  -- there was no power: nothing was called
  module _ (away : c.in_ok-has_power.has_power ≡ false) where
    none-given : has_power c.args.run.now.power c.args.run.now.next ≡ false
    none-given = sym c.in_ok-has_power.ensures.begun.has ∙ away

    dark : is_lit c.begin_second.new.run.power ≡ false
    dark = ap (λ (x : Run). is_lit x.power) (c.in_ok-has_power.ensures.dark away).0 ∙ away-dark c.args.run.now.power c.args.run.now.next none-given

    still : (P : Devices → Type 0) → P dev0 → P dev3
    still P h =
        let kept = c.in_ok-has_power.ensures.dark away in
        let acted = c.act_all.ensures.still dark in
        let turned = c.turn.ensures.dark acted.0 in
        same-devices P g.M.Medium.state g.C.Chip.state g.D.Chip.state c.args.unit.now c.turn.new.unit c.args.card_a.now c.turn.new.card_a c.args.card_b.now c.turn.new.card_b (turned.0 ∙ acted.1 ∙ kept.2, turned.1 ∙ acted.2 ∙ kept.3, turned.2 ∙ acted.3 ∙ kept.4) h

    acted-so : length acts ≡ c.args.due.to - c.args.due.from → c.args.due.to - c.args.due.from ≤ largest_number → (c.act_all.new.run ≡ c.begin_second.new.run) × (c.act_all.new.outcome ≡ record c.begin_second.new.outcome { refused = with_lines (refused_dark c.begin_second.new.run.next acts) c.begin_second.new.outcome.refused })
    acted-so many few =
        let all = all-actions c.args.due.from c.args.due.to c.args.due.items.now many in
        acted-dark c.args.due.speed 0 (between c.args.due.from c.args.due.to c.args.due.items.now) c.begin_second.new.run c.act_all.new.run c.begin_second.new.outcome c.act_all.new.outcome all.0 (let most = all.1 in omega (arith, most, few))
        (subst (λ (b : Bool). AreActed b c.args.due.speed 0 (between c.args.due.from c.args.due.to c.args.due.items.now) c.begin_second.new.run c.act_all.new.run c.begin_second.new.outcome c.act_all.new.outcome) away c.act_all.ensures.acted.done)

    passes : (c.turn.new.run ≡ passed 1 c.number_of-begun.result c.act_all.new.run) × (c.turn.new.outcome ≡ c.act_all.new.outcome)
    passes = passes-dark c.act_all.new.run c.turn.new.run c.act_all.new.outcome c.turn.new.outcome 1 c.args.due.speed c.number_of-begun.result (c.act_all.ensures.still dark).0 c.turn.ensures.turned.seconds

    passed-on : length acts ≡ c.args.due.to - c.args.due.from → c.args.due.to - c.args.due.from ≤ largest_number → c.turn.new.run ≡ passed 1 c.number_of-begun.result c.args.run.now
    passed-on many few = passes.0 ∙ ap (passed 1 c.number_of-begun.result) ((acted-so many few).0 ∙ (c.in_ok-has_power.ensures.dark away).0)

    refused-all : length acts ≡ c.args.due.to - c.args.due.from → c.args.due.to - c.args.due.from ≤ largest_number → c.turn.new.outcome ≡ record c.args.outcome.now { refused = with_lines (refused_dark c.args.run.now.next acts) c.args.outcome.now.refused }
    refused-all many few =
        passes.1 ∙ (acted-so many few).1 ∙ ap (λ (x : Outcome). record x { refused = with_lines (refused_dark c.begin_second.new.run.next acts) x.refused }) (c.in_ok-has_power.ensures.dark away).1
        ∙ ap (λ (n : ℕ). record c.args.outcome.now { refused = with_lines (refused_dark n acts) c.args.outcome.now.refused }) begun-next

  -- so far as it has come its outcome grows
  grows-begun : c.in_ok-has_power.has_power ≡ true → Grows c.args.run.now.next c.args.outcome.now c.begin_second.new.outcome
  grows-begun given =
      begun-grows c.args.due.speed c.args.run.now c.begin_second.new.run c.args.outcome.now c.begin_second.new.outcome dev0 dev1 (λ on. (c.in_ok-has_power.ensures.lit on).2)
      (λ dark_. c.in_ok-has_power.ensures.promises.noted dark_ (has-given given))

  grows-acted : c.in_ok-has_power.has_power ≡ true → Grows c.args.run.now.next c.begin_second.new.outcome c.act_all.new.outcome
  grows-acted given = subst (λ (u : ℕ). Grows u c.begin_second.new.outcome c.act_all.new.outcome) begun-next
      (acted-grows c.args.due.speed 0 (between c.args.due.from c.args.due.to c.args.due.items.now) c.begin_second.new.run c.act_all.new.run c.begin_second.new.outcome c.act_all.new.outcome
      (subst (λ (b : Bool). AreActed b c.args.due.speed 0 (between c.args.due.from c.args.due.to c.args.due.items.now) c.begin_second.new.run c.act_all.new.run c.begin_second.new.outcome c.act_all.new.outcome) given c.act_all.ensures.acted.done))

  grows-turned : Grows c.args.run.now.next c.act_all.new.outcome c.turn.new.outcome
  grows-turned = subst (λ (u : ℕ). Grows u c.act_all.new.outcome c.turn.new.outcome) (c.act_all.ensures.acted.next ∙ begun-next)
      (turn-grows (is_lit c.act_all.new.run.power) 1 c.args.due.speed c.number_of-begun.result c.act_all.new.run c.turn.new.run c.act_all.new.outcome c.turn.new.outcome (omega arith) c.turn.ensures.turned.seconds)

  grows-first : length acts ≡ c.args.due.to - c.args.due.from → c.args.due.to - c.args.due.from ≤ largest_number → Grows c.args.run.now.next c.args.outcome.now c.turn.new.outcome
  grows-first many few = by c.in_ok-has_power.has_power refl
    where
      by : (b : Bool) → c.in_ok-has_power.has_power ≡ b → Grows c.args.run.now.next c.args.outcome.now c.turn.new.outcome
      by true given = grows-then_ c.args.run.now.next c.args.outcome.now c.begin_second.new.outcome c.turn.new.outcome (grows-begun given) (grows-then_ c.args.run.now.next c.begin_second.new.outcome c.act_all.new.outcome c.turn.new.outcome (grows-acted given) grows-turned)
      by false away =
          let is = refused-all away many few in
          grows-lines c.args.run.now.next c.args.run.now.next c.args.outcome.now c.turn.new.outcome (omega arith) (ap (λ (x : Outcome). x.marks.items) is) (ap (λ (x : Outcome). x.finds.items) is)
          ([], ap (λ (x : Outcome). x.breaks.items) is ∙ sym (append-nil c.args.outcome.now.breaks.items), tt)

  timely-first : length acts ≡ c.args.due.to - c.args.due.from → c.args.due.to - c.args.due.from ≤ largest_number → (o : Origin) (done : List TraceSecond) → RunRecorded o done c.args.run.now c.args.outcome.now dev0 → RunMoments o done c.args.outcome.now dev0
      → RunMoments o (done ++ driven 1 c.args.run.now.next c.args.due.speed acts) c.turn.new.outcome dev3
  timely-first many few o done r m =
      let next : c.args.run.now.next ≡ o.from + length done = r.recorded.recorded.followed.next in
      let one : length (driven 1 c.args.run.now.next c.args.due.speed acts) ≡ 1 = refl in
      moments-on o done (driven 1 c.args.run.now.next c.args.due.speed acts) c.args.run.now c.args.outcome.now c.turn.new.outcome dev0 dev3 r m
      (g.met.M.Medium.coherent c.args.unit.now) (both (λ k. IsCoherent (card_of dev0 k)) (g.met.C.Chip.coherent c.args.card_a.now) (g.met.D.Chip.coherent c.args.card_b.now)) next (grows-first many few)
      (after-then dev0 dev1 dev3 (after-of dev0 dev1 c.in_ok-has_power.ensures.goes.later) (after-then dev1 dev2 dev3 (after-of dev1 dev2 c.act_all.ensures.goes.later) c.turn.ensures.goes.later))
      (calm-then dev0 dev1 dev3 c.in_ok-has_power.ensures.goes.calm (calm-then dev1 dev2 dev3 c.act_all.ensures.goes.calm c.turn.ensures.goes.calm)) (broke-then c.in_ok-has_power.ensures.goes.broke (broke-then c.act_all.ensures.goes.broke c.turn.ensures.goes.broke))
      (near-one o.from done (driven 1 c.args.run.now.next c.args.due.speed acts) one)

  -- what is carried behind it
  first-second : (R : Between) (I : Inside) (o : Origin) (done : List TraceSecond) → HasBegunBy R I (Ok c.in_ok-has_power.has_power) o done second c.begin_second.new.run c.begin_second.new.outcome dev1 →
      (c.in_ok-has_power.has_power ≡ true → I o done second 0 c.begin_second.new.run c.begin_second.new.outcome dev1 → R o (done ++ driven 1 c.args.run.now.next c.args.due.speed acts) c.turn.new.run c.turn.new.outcome dev3) →
      (c.in_ok-has_power.has_power ≡ false → R o (done ++ driven 1 c.args.run.now.next c.args.due.speed acts) c.turn.new.run c.turn.new.outcome dev0) → R o (done ++ driven 1 c.args.run.now.next c.args.due.speed acts) c.turn.new.run c.turn.new.outcome dev3
  first-second R I o done begun lit dark_so =
      by-power R I c.in_ok-has_power.has_power o done second c.begin_second.new.run c.begin_second.new.outcome dev1 begun lit
      (λ away was_. still away (λ (x : Devices). R o (done ++ driven 1 c.args.run.now.next c.args.due.speed acts) c.turn.new.run c.turn.new.outcome x) (dark_so away))

pub begin_second-requires-clause-room : goal.begin_second-requires-clause-room
begin_second-requires-clause-room g c = record {
  room =
      let some = c.requires.some in
      room-less cuts_from c.args.run.now c.args.outcome.now c.args.due.seconds 1 0 0 (insertions_in c.args.due.from c.args.due.to c.args.due.items.now) 0 (c.args.due.to - c.args.due.from) 0 (omega (arith, some)) (omega arith) (omega arith) (omega arith) c.requires.may.room;
  unfound = first_of (search rules, grind (arith, common_steps));
}

pub act_all-requires-clause-may : goal.act_all-requires-clause-may
act_all-requires-clause-may g c = record {
  going = c.in_ok-has_power.ensures.behind.going;
  dark =
      λ no.
      let run = c.args.run.now in
      let away : has_power run.power run.next ≡ false = sym c.in_ok-has_power.ensures.begun.has ∙ no in
      ap (λ (r : Run). is_lit r.power) (c.in_ok-has_power.ensures.dark no).0 ∙ away-dark run.power run.next away;
  room =
      let some = c.requires.some in
      let s : ℕ = c.args.due.seconds in
      let k : ℕ = insertions_in c.args.due.from c.args.due.to c.args.due.items.now in
      let a : ℕ = c.args.due.to - c.args.due.from in
      room-less cuts_within c.begin_second.new.run c.begin_second.new.outcome (1 + (s - 1)) 1 0 0 k k a a (omega arith) (omega arith) (omega arith) (omega arith)
      (c.in_ok-has_power.ensures.behind.room (s - 1) 0 k a (room-less cuts_from c.args.run.now c.args.outcome.now s (1 + (s - 1)) 0 0 k k a a (omega (arith, some)) (omega arith) (omega arith) (omega arith) c.requires.may.room));
}

pub turn-requires-clause-going : goal.turn-requires-clause-going
turn-requires-clause-going g c = c.act_all.ensures.behind.going

pub drive_on-requires-clause-going : goal.drive_on-requires-clause-going
drive_on-requires-clause-going g c = c.turn.ensures.behind.going

pub turn-requires-clause-room : goal.turn-requires-clause-room
turn-requires-clause-room g c =
    let some = c.requires.some in
    let s : ℕ = c.args.due.seconds in
    let k : ℕ = insertions_in c.args.due.from c.args.due.to c.args.due.items.now in
    let a : ℕ = c.args.due.to - c.args.due.from in
    room-less cuts_within c.act_all.new.run c.act_all.new.outcome (1 + (s - 1)) 1 0 0 0 0 0 0 (omega arith) (omega arith) (omega arith) (omega arith)
    (c.act_all.ensures.behind.room (s - 1) 0 0 0
    (room-less cuts_within c.begin_second.new.run c.begin_second.new.outcome (1 + (s - 1)) (1 + (s - 1)) 0 0 k (k + 0) a (a + 0) (omega arith) (omega arith) (omega arith) (omega arith)
    (c.in_ok-has_power.ensures.behind.room (s - 1) 0 k a (room-less cuts_from c.args.run.now c.args.outcome.now s (1 + (s - 1)) 0 0 k k a a (omega (arith, some)) (omega arith) (omega arith) (omega arith) c.requires.may.room))))

pub drive_on-requires-clause-may : goal.drive_on-requires-clause-may
drive_on-requires-clause-may g c = record {
  small =
      let turned = c.turn.ensures.turned.next in
      let acted = c.act_all.ensures.acted.next in
      let begun = c.in_ok-has_power.ensures.begun.next in
      let some = c.requires.some in
      let small = c.requires.may.small in
      omega (arith, turned, acted, begun, some, small);
  room =
      let some = c.requires.some in
      let s : ℕ = c.args.due.seconds in
      let k : ℕ = insertions_in c.args.due.from c.args.due.to c.args.due.items.now in
      let a : ℕ = c.args.due.to - c.args.due.from in
      c.turn.ensures.behind.room (s - 1) 0 0 0 (c.act_all.ensures.behind.room (s - 1) 0 0 0
      (room-less cuts_within c.begin_second.new.run c.begin_second.new.outcome (1 + (s - 1)) (1 + (s - 1)) 0 0 k (k + 0) a (a + 0) (omega arith) (omega arith) (omega arith) (omega arith)
      (c.in_ok-has_power.ensures.behind.room (s - 1) 0 k a (room-less cuts_from c.args.run.now c.args.outcome.now s (1 + (s - 1)) 0 0 k k a a (omega (arith, some)) (omega arith) (omega arith) (omega arith) c.requires.may.room))));
  unfound =
      let turned = c.turn.ensures.turned.unfound in
      let acted = c.act_all.ensures.acted.unfound in
      let begun = c.in_ok-has_power.ensures.begun.unfound in
      let more = c.turn.ensures.goes.more in
      let some = c.act_all.ensures.goes.more in
      omega (arith, turned, acted, begun, more, some);
}

pub returns-clause-room : goal.returns-clause-room
returns-clause-room g c = λ left offs insertions actions h.
    let some = c.requires.some in
    let s : ℕ = c.args.due.seconds in
    let k : ℕ = insertions_in c.args.due.from c.args.due.to c.args.due.items.now in
    let a : ℕ = c.args.due.to - c.args.due.from in
    let n : ℕ = s - 1 + left in
    c.drive_on.ensures.room left offs insertions actions (c.turn.ensures.behind.room n offs insertions actions (c.act_all.ensures.behind.room n offs insertions actions (c.in_ok-has_power.ensures.behind.room n offs (k + insertions) (a + actions)
    (room-less cuts_from c.args.run.now c.args.outcome.now (s + left) (1 + n) offs offs (k + insertions) (k + insertions) (a + actions) (a + actions) (omega (arith, some)) (omega arith) (omega arith) (omega arith) h))))

pub returns-clause-gone : goal.returns-clause-gone
returns-clause-gone g c =
    let e = c.drive_on.ensures.gone in
    record {
      late = e.late;
      going = e.going;
      next = on_ok c.drive_on.result (λ well.
          let later = ok_gives c.drive_on.result e.next well in
          let turned = c.turn.ensures.turned.next in
          let acted = c.act_all.ensures.acted.next in
          let begun = c.in_ok-has_power.ensures.begun.next in
          let some = c.requires.some in
          omega (arith, later, turned, acted, begun, some));
      unfound = e.unfound;
      is_unit = e.is_unit;
    }

pub returns-in_err-has_power-clause-gone : goal.returns-in_err-has_power-clause-gone
returns-in_err-has_power-clause-gone g c = record {
  late = first_of (search rules, grind (arith, common_steps));
  going = first_of (search rules, grind (arith, common_steps));
  next = first_of (search rules, grind (arith, common_steps));
  unfound = first_of (search rules, grind (arith, common_steps));
  is_unit = c.in_err-has_power.ensures.behind.is_unit;
}

pub returns-clause-goes : goal.returns-clause-goes
returns-clause-goes g c = record {
  later = after-then (dev0 g c) (dev1 g c) (dev4 g c) (after-of (dev0 g c) (dev1 g c) c.in_ok-has_power.ensures.goes.later) (after-then (dev1 g c) (dev2 g c) (dev4 g c) (after-of (dev1 g c) (dev2 g c) c.act_all.ensures.goes.later) (after-then (dev2 g c) (dev3 g c) (dev4 g c) c.turn.ensures.goes.later c.drive_on.ensures.goes.later));
  calm = calm-then (dev0 g c) (dev1 g c) (dev4 g c) c.in_ok-has_power.ensures.goes.calm (calm-then (dev1 g c) (dev2 g c) (dev4 g c) c.act_all.ensures.goes.calm (calm-then (dev2 g c) (dev3 g c) (dev4 g c) c.turn.ensures.goes.calm c.drive_on.ensures.goes.calm));
  broke = broke-then c.in_ok-has_power.ensures.goes.broke (broke-then c.act_all.ensures.goes.broke (broke-then c.turn.ensures.goes.broke c.drive_on.ensures.goes.broke));
  most =
      let s : ℕ = c.args.due.seconds in
      let k : ℕ = c.args.run.now.next in
      let v : ℕ = c.args.due.speed in
      between-driven (turns_among 2 (driven s k v [])) (turns_among 1 (driven (s - 1) c.turn.new.run.next v [])) (c.args.due.to - c.args.due.from) (powered c.args.run.now c.args.outcome.now) (powered c.begin_second.new.run c.begin_second.new.outcome) (powered c.turn.new.run c.turn.new.outcome) (0 + powered_by c.drive_on.result c.drive_on.new.run c.drive_on.new.outcome) (dev0 g c) (dev1 g c) (dev2 g c) (dev3 g c) (dev4 g c)
      (all-turns s k v c.requires.some ∙ ap (λ (n : ℕ). 1 + turns_among 1 (driven (s - 1) n v [])) (sym (later-by-one g c))) (on-turned g c) (once-begun g c) c.act_all.ensures.goes.most c.turn.ensures.goes.most c.drive_on.ensures.goes.most;
}

pub returns-in_err-has_power-clause-goes : goal.returns-in_err-has_power-clause-goes
returns-in_err-has_power-clause-goes g c = record {
  later =
      after-of (devices (g.M.Medium.state c.args.unit.now) (g.C.Chip.state c.args.card_a.now) (g.D.Chip.state c.args.card_b.now)) (devices (g.M.Medium.state c.begin_second.new.unit) (g.C.Chip.state c.begin_second.new.card_a) (g.D.Chip.state c.begin_second.new.card_b))
      c.in_err-has_power.ensures.goes.later;
  calm = c.in_err-has_power.ensures.goes.calm;
  broke = c.in_err-has_power.ensures.goes.broke;
  most =
      let all = all-turns c.args.due.seconds c.args.run.now.next c.args.due.speed c.requires.some in
      let turns : ℕ = turns_among 2 (driven c.args.due.seconds c.args.run.now.next c.args.due.speed []) in
      let acts : ℕ = c.args.due.to - c.args.due.from in
      let d : Devices = devices (g.M.Medium.state c.args.unit.now) (g.C.Chip.state c.args.card_a.now) (g.D.Chip.state c.args.card_b.now) in
      let e : Devices = devices (g.M.Medium.state c.begin_second.new.unit) (g.C.Chip.state c.begin_second.new.card_a) (g.D.Chip.state c.begin_second.new.card_b) in
      let was : ℕ = powered c.args.run.now c.args.outcome.now in
      let out : Outcome = c.begin_second.new.outcome in
      let failed : true ≡ is_err c.from_residual.result = search rules in
      let off = refused-on c.args.run.now c.args.outcome.now out (λ on. let bad : false ≡ true = (c.in_err-has_power.ensures.lit on).0 in cc) c.in_err-has_power.ensures.goes.broke.few in
      subst (λ (b : Bool). WritesBetween turns acts was (0 + power_ons_told (b || is_lit c.begin_second.new.run.power) out.breaks.items) d e) failed
      (between-refused turns acts was (0 + power_ons_told true out.breaks.items) d e (omega (arith, all)) (omega (arith, off)) c.in_err-has_power.ensures.goes.most);
}

-- ---- what is recorded, with its events and rings

pub returns-clause-promises : goal.returns-clause-promises
returns-clause-promises g c = record {
  ringed =
      λ many few o done r time.
      let number = begun-all g c many few in
      let whole : c.args.due.to - c.args.due.from ≡ 0 + length (acts g c) = omega (arith, many) in
      let s : TraceSecond = second g c in
      let begun = c.in_ok-has_power.ensures.promises.ringed o done s (record { number = refl; given = refl; speed_is = refl }) r (time-one g c time) in
      let behind = first-second g c RunRinged InSecondRinged o done begun
      (λ lit in_.
      let acted = (c.act_all.ensures.promises lit many few).ringed o done s (now-begun g c) [] [] (sym (append-nil (acts g c))) whole in_ (time-two g c time) in
      c.turn.ensures.promises.ringed o done s (now-acted g c) (many ∙ sym number) (λ more. absurd (omega (arith, more)))
      (subst (λ (n : ℕ). InSecondRinged o done s n c.act_all.new.run c.act_all.new.outcome (dev2 g c)) (sym number) acted) (time-three g c time))
      (λ away. dark-ringed o done c.args.run.now c.args.outcome.now (dev0 g c) r 1 c.args.due.speed c.number_of-begun.result (acts g c) (omega arith) (none-given g c away) (omega arith) c.turn.new.run c.turn.new.outcome (passed-on g c away many few) (refused-all g c away many few)) in
      run-then RunRinged c.drive_on.result o done c.args.due.seconds c.args.run.now.next c.turn.new.run.next c.args.due.speed (acts g c) c.drive_on.new.run c.drive_on.new.outcome (dev4 g c) c.requires.some (later-by-one g c)
      (c.drive_on.ensures.promises.ringed o (done ++ driven 1 c.args.run.now.next c.args.due.speed (acts g c)) (done, s, refl, refl) behind time);
  cards =
      λ many few o done t time.
      let r = t.carded in
      let number = begun-all g c many few in
      let whole : c.args.due.to - c.args.due.from ≡ 0 + length (acts g c) = omega (arith, many) in
      let s : TraceSecond = second g c in
      let low = c.requires.going.low in
      let positive : 0 < c.args.run.now.next = omega (arith, low) in
      let begun = c.in_ok-has_power.ensures.promises.cards o done s (record { number = refl; given = refl; speed_is = refl }) r (time-one g c time) in
      let behind = first-second g c RunCarded InSecondCarded o done begun
      (λ lit in_.
      let acted = (c.act_all.ensures.promises lit many few).cards o done s (now-begun g c) [] [] (sym (append-nil (acts g c))) whole in_ (time-two g c time) in
      turned-carded o done s 1 c.args.due.speed c.number_of-begun.result c.act_all.new.run c.turn.new.run c.act_all.new.outcome c.turn.new.outcome (dev2 g c) (dev3 g c) (many ∙ sym number) positive
      (subst (λ (n : ℕ). InSecondCarded o done s n c.act_all.new.run c.act_all.new.outcome (dev2 g c)) (sym number) acted) c.turn.ensures.turned.seconds
      (λ x. c.turn.ensures.promises.ringed o done s (now-acted g c) (many ∙ sym number) (λ more. absurd (omega (arith, more))) x (time-three g c time))
      (λ x. c.turn.ensures.promises.cards o done s (now-acted g c) (many ∙ sym number) (λ more. absurd (omega (arith, more))) x (time-three g c time))
      (λ x. turn-stood o done s 1 c.args.due.speed c.number_of-begun.result c.act_all.new.run c.turn.new.run c.act_all.new.outcome c.turn.new.outcome (dev2 g c) (dev3 g c) (now-acted g c).number c.turn.ensures.turned.next (omega arith) (omega arith) x.evented.recorded
      (subst (λ (n : ℕ). InSecondCarded o done s n c.act_all.new.run c.act_all.new.outcome (dev2 g c)) (sym number) acted) c.turn.ensures.turned.seconds
      (λ y. c.turn.ensures.promises.stands o done s (now-acted g c) (many ∙ sym number) (λ more. absurd (omega (arith, more))) y (time-three g c time)))
      (c.turn.ensures.promises.speeds o done s (now-acted g c) (many ∙ sym number) (λ more. absurd (omega (arith, more)))
      (in-second o done s c.args.run.now c.act_all.new.run c.args.outcome.now c.act_all.new.outcome (dev0 g c) (dev2 g c) r.ringed.evented.recorded r.speeds refl refl (has-given g c lit) (came g c lit) (leaves g c) c.number_of-begun.result
      (carded-in (is_lit c.act_all.new.run.power) o done s c.number_of-begun.result c.act_all.new.run c.act_all.new.outcome (dev2 g c) (subst (λ (n : ℕ). InSecondCarded o done s n c.act_all.new.run c.act_all.new.outcome (dev2 g c)) (sym number) acted))) (time-three g c time)))
      (λ away. dark-carded o done c.args.run.now c.args.outcome.now (dev0 g c) r c.requires.going.low 1 c.args.due.speed c.number_of-begun.result (acts g c) (omega arith) (none-given g c away) (omega arith) c.turn.new.run c.turn.new.outcome (passed-on g c away many few) (refused-all g c away many few)) in
      run-then RunTimely c.drive_on.result o done c.args.due.seconds c.args.run.now.next c.turn.new.run.next c.args.due.speed (acts g c) c.drive_on.new.run c.drive_on.new.outcome (dev4 g c) c.requires.some (later-by-one g c)
      (c.drive_on.ensures.promises.cards o (done ++ driven 1 c.args.run.now.next c.args.due.speed (acts g c)) (done, s, refl, refl) (record { carded = behind; timely = timely-first g c many few o done r.ringed.evented.recorded t.timely }) time);
}

pub returns-in_err-has_power-clause-promises : goal.returns-in_err-has_power-clause-promises
returns-in_err-has_power-clause-promises g c = record {
  ringed =
      λ many few o done r time.
      let s : TraceSecond = record { number = c.args.run.now.next; has_power = true; speed = c.args.due.speed; actions = actions_in (between c.args.due.from c.args.due.to c.args.due.items.now) } in
      absurd (c.in_err-has_power.ensures.promises.ringed o done s (record { number = refl; given = refl; speed_is = refl }) r time);
  cards =
      λ many few o done r time.
      let s : TraceSecond = record { number = c.args.run.now.next; has_power = true; speed = c.args.due.speed; actions = actions_in (between c.args.due.from c.args.due.to c.args.due.items.now) } in
      absurd (c.in_err-has_power.ensures.promises.cards o done s (record { number = refl; given = refl; speed_is = refl }) r.carded time);
}

pub turn-requires-clause-stretch : goal.turn-requires-clause-stretch
turn-requires-clause-stretch g c = record {
  some = first_of (search rules, grind (arith, common_steps));
  minute = first_of (search rules, grind (arith, common_steps));
  small = first_of (search rules, grind (arith, common_steps));
}

pub act_all-requires-clause-among : goal.act_all-requires-clause-among
act_all-requires-clause-among g c = c.requires.among
