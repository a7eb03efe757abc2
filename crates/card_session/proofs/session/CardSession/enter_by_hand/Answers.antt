use Rattle.std.proofs.lemmas.Grind.{common_steps}
use Rattle.std.proofs.Common.{refl, ap, rules, arith}
use Rattle.tach_media.proofs.Runs.{weaken}
use Rattle.card_session.specs.Sessions.{Session}
use Rattle.card_session.proofs.FewWrites.{ends_days}
use Rattle.card_session.proofs.Told.{session}
use Rattle.card_session.proofs.ByHand.{entered_moment, entered_told}
use Rattle.card_session.proofs.session.CardSession.enter_by_hand.Goals as goal

pub returns-in_err-write_by_hand-clause-moments : goal.returns-in_err-write_by_hand-clause-moments
returns-in_err-write_by_hand-clause-moments g c =
    let e = c.in_err-write_by_hand.ensures in
    weaken e.part.leaves (λ x d was part knows. entered_moment c.args.self.now e.value c.args.entry.now x d c.requires.later part knows)

pub returns-clause-moments : goal.returns-clause-moments
returns-clause-moments g c =
    let e = c.in_ok-write_by_hand.ensures in
    weaken e.part.leaves (λ x d was part knows. entered_moment c.args.self.now e.value c.args.entry.now x d c.requires.later part knows)

pub returns-clause-entered : goal.returns-clause-entered
returns-clause-entered g c =
    let s = c.args.self.now in
    let k = c.args.entry.now in
    let e = c.in_ok-write_by_hand.ensures in
    let view = c.self.view_is in
    let i = c.self.inside in
    let u : Session = session i.application i.days i.vehicles i.newest i.vehicle i.registration k.minute i.odometer in
    entered_told s e.value k c.write_by_hand.new.self u c.requires.later e.same.application e.part
    (ap (λ (t : Session). t.application) view) (ap (λ (t : Session). t.days) view) (ap (λ (t : Session). t.newest) view) (ap (λ (t : Session). t.vehicle) view) refl

pub returns-clause-session : goal.returns-clause-session
returns-clause-session g c = record {
  same = first_of (search rules, grind (arith, common_steps));
  last = first_of (search rules, grind (arith, common_steps));
  ends =
      let k = c.args.entry.now in
      let i = c.self.inside in
      let u : Session = session i.application i.days i.vehicles i.newest i.vehicle i.registration k.minute i.odometer in
      ends_days c.write_by_hand.new.self u k.minute (ap (λ (t : Session). t.days) c.self.view_is) c.in_ok-write_by_hand.ensures.ends;
}

pub returns-in_err-write_by_hand-clause-writes : goal.returns-in_err-write_by_hand-clause-writes
returns-in_err-write_by_hand-clause-writes g c = record {
  most = first_of (search rules, grind (arith, common_steps));
  few = λ ends. c.in_err-write_by_hand.ensures.writes.few ends;
}

pub returns-clause-writes : goal.returns-clause-writes
returns-clause-writes g c = record {
  most = first_of (search rules, grind (arith, common_steps));
  few = λ ends. c.in_ok-write_by_hand.ensures.writes.few ends;
}

pub returns-in_err-write_by_hand-clause-session : goal.returns-in_err-write_by_hand-clause-session
returns-in_err-write_by_hand-clause-session g c = record {
  same = first_of (search rules, grind (arith, common_steps));
  last = first_of (search rules, grind (arith, common_steps));
  ends = first_of (search rules, grind (arith, common_steps));
}
