use Rattle.std.proofs.Common.{◌≡◌, ◌∙◌, ℕ, ◌+◌, ◌-◌, ◌<◌, ◌≤◌, true, List, length, drop, refl, ap, sym, subst, arith, length-drop}
use Rattle.trace_model.specs.declared.Action.{Action}
use Rattle.device_calls.specs.safety_model.Safe.{Devices}
use Rattle.run_minutes.specs.run_promise.Between.{devices}
use Rattle.run_acts.specs.Going.{largest_number}
use Rattle.run_acts.specs.RunRinged.{InSecondRinged}
use Rattle.recorder_with_cards.specs.Recorded.{action_of, actions_in, RingsActions, ActsBy, Inside}
use Rattle.recorder_with_cards.proofs.ActsRecorded.{no-action, actions-then}
use Rattle.recorder_with_cards.proofs.Waiting.{actions-more, few-actions, one-action}
use Rattle.std.proofs.lemmas.List.{length-take}
use Rattle.trace_model.specs.declared.Item.{Item}
use Rattle.run_outcome.specs.Room.{insertion_count}
use Rattle.run_acts.specs.Room.{cuts_within}
use Rattle.run_acts.specs.Power.{is_lit}
use Rattle.recorder_with_cards.specs.Acting.{IsItemActed, AreActed}
use Rattle.recorder_with_cards.specs.Items.{between, insertions_in}
use Rattle.recorder_with_cards.proofs.Acted.{between-none, between-more, acted-more}
use Rattle.recorder_with_cards.proofs.Rooms.{room-less}
use Rattle.recorder_with_cards.proofs.Counted.{none-in, first-in}
use Rattle.run_minutes.proofs.Later.{later-same, later-then}
use Rattle.recorder_with_cards.specs.Carded.{InSecondCarded, CardsActions}
use Rattle.run_outcome.proofs.Broken.{broke-none, broke-then}
use Rattle.run_minutes.proofs.Calm.{calm-same, calm-then}
use Rattle.recorder_with_cards.proofs.Time.{later-time}
use Rattle.recorder_with_cards.proofs.acts.act_all.Given.{Over}
use Rattle.recorder_with_cards.proofs.acts.act_all.Goals.{After-act_item}
use Rattle.recorder_with_cards.proofs.Writes.{writes-none, writes-then, writes-more}
use Rattle.recorder_with_cards.proofs.acts.act_all.Goals as goal

-- one action more is carried, whatever that is
module _ (g : Over) (c : After-act_item g) where
  abbrev dev0 : Devices
  dev0 = devices (g.M.Medium.state c.args.unit.now) (g.C.Chip.state c.args.card_a.now) (g.D.Chip.state c.args.card_b.now)

  abbrev dev1 : Devices
  dev1 = devices (g.M.Medium.state c.loop-i.unit) (g.C.Chip.state c.loop-i.card_a) (g.D.Chip.state c.loop-i.card_b)

  abbrev dev2 : Devices
  dev2 = devices (g.M.Medium.state c.act_item.new.unit) (g.C.Chip.state c.act_item.new.card_a) (g.D.Chip.state c.act_item.new.card_b)

  one-more : (I : Inside) → length (actions_in (between c.args.due.from (c.loop-i.i + 1) c.args.due.items.now)) ≡ c.loop-i.i + 1 - c.args.due.from → c.loop-i.i + 1 - c.args.due.from ≤ largest_number →
      (length (actions_in (between c.args.due.from c.loop-i.i c.args.due.items.now)) ≡ c.loop-i.i - c.args.due.from → c.loop-i.i - c.args.due.from ≤ largest_number →
      ActsBy I (actions_in (between c.args.due.from c.loop-i.i c.args.due.items.now)) (c.loop-i.i - c.args.due.from) c.args.due.speed c.args.run.now c.loop-i.run c.args.outcome.now c.loop-i.outcome dev0 dev1) →
      ActsBy I (action_of c.get.result.now) c.number_of.result c.args.due.speed c.loop-i.run c.act_item.new.run c.loop-i.outcome c.act_item.new.outcome dev1 dev2 →
      ActsBy I (actions_in (between c.args.due.from (c.loop-i.i + 1) c.args.due.items.now)) (c.loop-i.i + 1 - c.args.due.from) c.args.due.speed c.args.run.now c.act_item.new.run c.args.outcome.now c.act_item.new.outcome dev0 dev2
  one-more I many few were is =
      let i : ℕ = c.loop-i.i in
      let from : ℕ = c.args.due.from in
      let low : from ≤ i = c.loop-i.auto.i in
      let items = c.args.due.items.now in
      let item = c.get.result.now in
      let so = actions_in (between from i items) in
      let more = actions-more items from i item low c.get.ensures in
      let parts = few-actions items from i item low c.get.ensures in
      let one = one-action item in
      let before : length so ≡ i - from = omega (arith, parts.0, parts.1, one, many, low) in
      let now : length (action_of item) ≡ 1 = omega (arith, parts.0, parts.1, one, many, low) in
      let number : c.number_of.result ≡ i - from + 1 = let n = c.number_of.ensures in omega (arith, n, few, low) in
      let same : c.number_of.result ≡ i + 1 - from = omega (arith, number, low) in
      subst (λ (n : ℕ). ActsBy I (actions_in (between from (i + 1) items)) n c.args.due.speed c.args.run.now c.act_item.new.run c.args.outcome.now c.act_item.new.outcome dev0 dev2) same
      (subst (λ (xs : List Action). ActsBy I xs c.number_of.result c.args.due.speed c.args.run.now c.act_item.new.run c.args.outcome.now c.act_item.new.outcome dev0 dev2) (sym more)
      (actions-then I so (action_of item) (i - from) c.number_of.result c.args.due.speed c.args.run.now c.loop-i.run c.act_item.new.run c.args.outcome.now c.loop-i.outcome c.act_item.new.outcome dev0 dev1 dev2
      (omega (arith, number, now)) c.loop-i.invariant.next (later-time c.act_item.ensures.goes.later) (were before (omega (arith, few, low))) is))

pub act_item-requires : goal.act_item-requires
act_item-requires g c = record {
  may = record {
    going = c.loop-i.invariant.going;
    dark = c.loop-i.invariant.dark;
    room =
        let run = c.args.run.now in
        let o = c.args.outcome.now in
        let items = c.args.due.items.now in
        let less : c.loop-i.i < c.args.due.to = c.loop-i-test.true in
        let all = insertions_in c.args.due.from c.args.due.to items in
        let here = first-in items c.loop-i.i c.args.due.to c.get.result.now c.get.ensures less in
        room-less cuts_within c.loop-i.run c.loop-i.outcome 1 1 0 0 (insertions_in c.loop-i.i c.args.due.to items + 0) (insertion_count c.get.result.now) (c.args.due.to - c.loop-i.i + 0) 1 (omega arith) (omega arith) (omega (arith, here)) (omega (arith, less))
        (c.loop-i.invariant.room 0 0 0 0 (room-less cuts_within run o 1 1 0 0 all (all + 0) (c.args.due.to - c.args.due.from) (c.args.due.to - c.args.due.from + 0) (omega arith) (omega arith) (omega arith) (omega arith) c.requires.may.room));
  };
}

pub loop-i-init : goal.loop-i-init
loop-i-init g c = record {
  going = c.requires.may.going;
  acted = subst (λ (xs : List Item). AreActed c.args.due.has_power c.args.due.speed 0 xs c.args.run.now c.args.run.now c.args.outcome.now c.args.outcome.now) (sym (between-none c.args.due.from c.args.due.items.now)) (refl, refl);
  ringed = λ power many few.
      let d : Devices = devices (g.M.Medium.state c.args.unit.now) (g.C.Chip.state c.args.card_a.now) (g.D.Chip.state c.args.card_b.now) in
      subst (λ (xs : List Action). RingsActions xs (c.args.due.from - c.args.due.from) c.args.due.speed c.args.run.now c.args.run.now c.args.outcome.now c.args.outcome.now d d) (sym (ap actions_in (between-none c.args.due.from c.args.due.items.now)))
      (no-action InSecondRinged (c.args.due.from - c.args.due.from) c.args.due.speed c.args.run.now c.args.outcome.now d);
  cards = λ power many few.
      let d : Devices = devices (g.M.Medium.state c.args.unit.now) (g.C.Chip.state c.args.card_a.now) (g.D.Chip.state c.args.card_b.now) in
      subst (λ (xs : List Action). CardsActions xs (c.args.due.from - c.args.due.from) c.args.due.speed c.args.run.now c.args.run.now c.args.outcome.now c.args.outcome.now d d) (sym (ap actions_in (between-none c.args.due.from c.args.due.items.now)))
      (no-action InSecondCarded (c.args.due.from - c.args.due.from) c.args.due.speed c.args.run.now c.args.outcome.now d);
  still = λ dark. (dark, refl, refl, refl);
  later = later-same (devices (g.M.Medium.state c.args.unit.now) (g.C.Chip.state c.args.card_a.now) (g.D.Chip.state c.args.card_b.now));
  calm = calm-same (devices (g.M.Medium.state c.args.unit.now) (g.C.Chip.state c.args.card_a.now) (g.D.Chip.state c.args.card_b.now));
  broke = broke-none c.args.outcome.now.breaks.items {old = (g.M.Medium.state c.args.unit.now)} {new = (g.M.Medium.state c.args.unit.now)} (omega arith);
  most = writes-none 0 (c.args.due.from - c.args.due.from) (devices (g.M.Medium.state c.args.unit.now) (g.C.Chip.state c.args.card_a.now) (g.D.Chip.state c.args.card_b.now));
  dark = c.requires.may.dark;
  next = refl;
  unfound = refl;
  room = λ left offs insertions actions h. h;
  breaks = omega arith;
}

pub loop-i-preserved : goal.loop-i-preserved
loop-i-preserved g c =
    let v = c.loop-i.invariant in
    let e = c.act_item.ensures in
    let items = c.args.due.items.now in
    let less : c.loop-i.i < c.args.due.to = c.loop-i-test.true in
    let here = first-in items c.loop-i.i c.args.due.to c.get.result.now c.get.ensures less in
    record {
      going = e.behind.going;
      acted = subst (λ (xs : List Item). AreActed c.args.due.has_power c.args.due.speed 0 xs c.args.run.now c.act_item.new.run c.args.outcome.now c.act_item.new.outcome) (sym (between-more items c.args.due.from c.loop-i.i c.get.result.now c.loop-i.auto.i c.get.ensures))
          (acted-more c.args.due.has_power c.args.due.speed 0 (c.loop-i.i - c.args.due.from + 1) (between c.args.due.from c.loop-i.i items) c.get.result.now c.args.run.now c.loop-i.run c.act_item.new.run c.args.outcome.now c.loop-i.outcome c.act_item.new.outcome v.acted
          (let long = length-take (c.loop-i.i - c.args.due.from) (drop c.args.due.from items) in let rest = length-drop c.args.due.from items in let last = c.requires.among.last in let low = c.loop-i.auto.i in omega (arith, long, rest, last, low, less))
          (subst (λ (n : ℕ). IsItemActed c.get.result.now c.args.due.has_power (is_lit c.loop-i.run.power) n c.args.due.speed c.loop-i.run c.act_item.new.run c.loop-i.outcome c.act_item.new.outcome) c.number_of.ensures e.acted.done));
      ringed = λ power many few. one-more g (goal.at.loop-i-preserved g c).After-act_item InSecondRinged many few (v.ringed power) (e.promises power).ringed;
      cards = λ power many few. one-more g (goal.at.loop-i-preserved g c).After-act_item InSecondCarded many few (v.cards power) (e.promises power).cards;
      still = λ dark.
          let was = v.still dark in
          let now = e.still was.0 in
          (now.0, now.1 ∙ was.1, now.2 ∙ was.2, now.3 ∙ was.3);
      later = later-then (devices (g.M.Medium.state c.args.unit.now) (g.C.Chip.state c.args.card_a.now) (g.D.Chip.state c.args.card_b.now)) (devices (g.M.Medium.state c.loop-i.unit) (g.C.Chip.state c.loop-i.card_a) (g.D.Chip.state c.loop-i.card_b)) (devices (g.M.Medium.state c.act_item.new.unit) (g.C.Chip.state c.act_item.new.card_a) (g.D.Chip.state c.act_item.new.card_b)) v.later e.goes.later;
      calm = calm-then (devices (g.M.Medium.state c.args.unit.now) (g.C.Chip.state c.args.card_a.now) (g.D.Chip.state c.args.card_b.now)) (devices (g.M.Medium.state c.loop-i.unit) (g.C.Chip.state c.loop-i.card_a) (g.D.Chip.state c.loop-i.card_b)) (devices (g.M.Medium.state c.act_item.new.unit) (g.C.Chip.state c.act_item.new.card_a) (g.D.Chip.state c.act_item.new.card_b)) v.calm e.goes.calm;
      broke = broke-then c.loop-i.invariant.broke c.act_item.ensures.goes.broke;
      most =
          let low = c.loop-i.auto.i in
          writes-more 0 0 (c.loop-i.i - c.args.due.from + 1) (c.loop-i.i + 1 - c.args.due.from) (devices (g.M.Medium.state c.args.unit.now) (g.C.Chip.state c.args.card_a.now) (g.D.Chip.state c.args.card_b.now)) (devices (g.M.Medium.state c.act_item.new.unit) (g.C.Chip.state c.act_item.new.card_a) (g.D.Chip.state c.act_item.new.card_b)) (omega arith) (omega (arith, low))
          (writes-then 0 0 (c.loop-i.i - c.args.due.from) 1 (devices (g.M.Medium.state c.args.unit.now) (g.C.Chip.state c.args.card_a.now) (g.D.Chip.state c.args.card_b.now)) (devices (g.M.Medium.state c.loop-i.unit) (g.C.Chip.state c.loop-i.card_a) (g.D.Chip.state c.loop-i.card_b)) (devices (g.M.Medium.state c.act_item.new.unit) (g.C.Chip.state c.act_item.new.card_a) (g.D.Chip.state c.act_item.new.card_b)) v.most e.goes.most);
      dark = e.acted.dark;
      next = e.acted.next ∙ v.next;
      unfound = e.acted.unfound ∙ v.unfound;
      room = λ left offs insertions actions h.
          let rest = insertions_in (c.loop-i.i + 1) c.args.due.to items in
          let one = insertion_count c.get.result.now in
          let now = insertions_in c.loop-i.i c.args.due.to items in
          e.behind.room left offs (rest + insertions) (c.args.due.to - (c.loop-i.i + 1) + actions)
          (room-less cuts_within c.loop-i.run c.loop-i.outcome (1 + left) (1 + left) offs offs (now + insertions) (one + (rest + insertions)) (c.args.due.to - c.loop-i.i + actions) (1 + (c.args.due.to - (c.loop-i.i + 1) + actions))
          (omega arith) (omega arith) (omega (arith, here)) (omega (arith, less)) (v.room left offs insertions actions h));
      breaks = let more = e.goes.more in let was = v.breaks in omega (arith, more, was);
    }

pub returns-clause-behind : goal.returns-clause-behind
returns-clause-behind g c = record {
  going = c.loop-i.invariant.going;
  room =
      λ left offs insertions actions h.
      let items = c.args.due.items.now in
      let end : c.args.due.to ≤ c.loop-i.i = c.loop-i-test.false in
      let some : c.loop-i.i ≤ c.args.due.to = c.loop-i.auto.i-end c.requires.among.first in
      let same : c.loop-i.i ≡ c.args.due.to = omega (arith, end, some) in
      let none = ap (λ (i : ℕ). insertions_in i c.args.due.to items) same ∙ none-in items c.args.due.to in
      room-less cuts_within c.loop-i.run c.loop-i.outcome (1 + left) (1 + left) offs offs (insertions_in c.loop-i.i c.args.due.to items + insertions) insertions (c.args.due.to - c.loop-i.i + actions) actions
      (omega arith) (omega arith) (omega arith) (omega arith) (c.loop-i.invariant.room left offs insertions actions h);
}

-- ---- where no tear of a failed call is told no card has broken down

pub returns-clause-acted : goal.returns-clause-acted
returns-clause-acted g c = record {
  done =
      let end : c.args.due.to ≤ c.loop-i.i = c.loop-i-test.false in
      let some : c.loop-i.i ≤ c.args.due.to = c.loop-i.auto.i-end c.requires.among.first in
      subst (λ (n : ℕ). AreActed c.args.due.has_power c.args.due.speed 0 (between c.args.due.from n c.args.due.items.now) c.args.run.now c.loop-i.run c.args.outcome.now c.loop-i.outcome) (let same : c.loop-i.i ≡ c.args.due.to = omega (arith, end, some) in same) c.loop-i.invariant.acted;
  next = c.loop-i.invariant.next;
  unfound = c.loop-i.invariant.unfound;
}

pub returns-clause-promises : goal.returns-clause-promises
returns-clause-promises g c = λ power many few. record {
  ringed =
      let end : c.args.due.to ≤ c.loop-i.i = c.loop-i-test.false in
      let some : c.loop-i.i ≤ c.args.due.to = c.loop-i.auto.i-end c.requires.among.first in
      subst (λ (n : ℕ). c.args.due.has_power ≡ true → length (actions_in (between c.args.due.from n c.args.due.items.now)) ≡ n - c.args.due.from → n - c.args.due.from ≤ largest_number
      → RingsActions (actions_in (between c.args.due.from n c.args.due.items.now)) (n - c.args.due.from) c.args.due.speed c.args.run.now c.loop-i.run c.args.outcome.now c.loop-i.outcome (devices (g.M.Medium.state c.args.unit.now) (g.C.Chip.state c.args.card_a.now) (g.D.Chip.state c.args.card_b.now)) (devices (g.M.Medium.state c.loop-i.unit) (g.C.Chip.state c.loop-i.card_a) (g.D.Chip.state c.loop-i.card_b)))
      (let same : c.loop-i.i ≡ c.args.due.to = omega (arith, end, some) in same) c.loop-i.invariant.ringed power many few;
  cards =
      let end : c.args.due.to ≤ c.loop-i.i = c.loop-i-test.false in
      let some : c.loop-i.i ≤ c.args.due.to = c.loop-i.auto.i-end c.requires.among.first in
      subst (λ (n : ℕ). c.args.due.has_power ≡ true → length (actions_in (between c.args.due.from n c.args.due.items.now)) ≡ n - c.args.due.from → n - c.args.due.from ≤ largest_number
      → CardsActions (actions_in (between c.args.due.from n c.args.due.items.now)) (n - c.args.due.from) c.args.due.speed c.args.run.now c.loop-i.run c.args.outcome.now c.loop-i.outcome (devices (g.M.Medium.state c.args.unit.now) (g.C.Chip.state c.args.card_a.now) (g.D.Chip.state c.args.card_b.now)) (devices (g.M.Medium.state c.loop-i.unit) (g.C.Chip.state c.loop-i.card_a) (g.D.Chip.state c.loop-i.card_b)))
      (let same : c.loop-i.i ≡ c.args.due.to = omega (arith, end, some) in same) c.loop-i.invariant.cards power many few;
}

pub returns-clause-goes : goal.returns-clause-goes
returns-clause-goes g c = record {
  later = c.loop-i.invariant.later;
  calm = c.loop-i.invariant.calm;
  more = c.loop-i.invariant.breaks;
  broke = c.loop-i.invariant.broke;
  most =
      let end : c.args.due.to ≤ c.loop-i.i = c.loop-i-test.false in
      let some : c.loop-i.i ≤ c.args.due.to = c.loop-i.auto.i-end c.requires.among.first in
      writes-more 0 0 (c.loop-i.i - c.args.due.from) (c.args.due.to - c.args.due.from) (devices (g.M.Medium.state c.args.unit.now) (g.C.Chip.state c.args.card_a.now) (g.D.Chip.state c.args.card_b.now)) (devices (g.M.Medium.state c.loop-i.unit) (g.C.Chip.state c.loop-i.card_a) (g.D.Chip.state c.loop-i.card_b)) (omega arith) (omega (arith, end, some)) c.loop-i.invariant.most;
}
