use Rattle.std.proofs.Common.{rules, ⊎_elim, ◌≡◌, ◌/◌, Bool, true, false, cond, length, sym, ◌∙◌, ap, subst, arith}
use Rattle.std.specs.Prelude.{is_err, nat_eq}
use Rattle.std.proofs.lemmas.Grind.{common_steps}
use Rattle.tach_media.specs.Medium.{HasCause}
use Rattle.card_validity.specs.card_image.Fields.{last_use_of}
use Rattle.card_session.specs.Inserting.{lacked}
use Rattle.card_session.proofs.Composing.{called_then}
use Rattle.card_session.proofs.InsertingBooks.{lacked_few}
use Rattle.card_session.proofs.InsertingUse.{insert_still}
use Rattle.card_session.proofs.InsertingTaking.{taken_closed, closed_failed, taken_open, open_failed, renew_failed}
use Rattle.card_session.proofs.session.CardSession.take_over.Goals as goal

pub renew-requires : goal.renew-requires
renew-requires g c = record { card = insert_still c.args.self.now.application c.mend.new.self.application c.in_ok-replayed.ensures.part.leaves c.in_ok-replayed.ensures.same.0 c.requires.card }

pub returns-in_err-start-clause-part : goal.returns-in_err-start-clause-part
returns-in_err-start-clause-part g c =
    let failed : is_err c.from_residual.result ≡ true = search rules in
    closed_failed c.args.self.now c.args.current.now c.args.odometer.0 c.args.owed.now c.args.now.0 c.if-current-eq0.true c.start.new.self _ c.in_err-start.ensures.part failed

pub returns-then-current-eq0-clause-part : goal.returns-then-current-eq0-clause-part
returns-then-current-eq0-clause-part g c =
    taken_closed c.args.self.now c.args.current.now c.args.odometer.0 c.args.owed.now c.args.now.0 c.if-current-eq0.true c.start.new.self c.recount.new.self c.in_ok-start.ensures.part c.recount.ensures.session

pub returns-then-current-eq0-clause-same : goal.returns-then-current-eq0-clause-same
returns-then-current-eq0-clause-same g c =
    let a = c.in_ok-start.ensures.same in
    let b = c.recount.ensures.same in
    (b.0 ∙ a.0, b.1 ∙ a.1, b.2 ∙ a.2)

pub returns-in_err-replayed-clause-part : goal.returns-in_err-replayed-clause-part
returns-in_err-replayed-clause-part g c =
    let failed : is_err c.from_residual-in_err-replayed.result ≡ true = search rules in
    open_failed c.args.self.now c.args.current.now c.args.odometer.0 c.args.owed.now c.args.now.0 c.if-current-eq0.false c.mend.new.self _ c.in_err-replayed.ensures.part failed

pub returns-in_err-renew-clause-part : goal.returns-in_err-renew-clause-part
returns-in_err-renew-clause-part g c =
    let failed : is_err c.from_residual-in_err-renew.result ≡ true = search rules in
    let a = c.in_ok-replayed.ensures.same in
    renew_failed c.args.self.now c.args.current.now c.args.odometer.0 c.args.owed.now c.args.now.0 c.if-current-eq0.false c.mend.new.self c.renew.new.self _ a.0 a.1 c.in_ok-replayed.ensures.part c.in_err-renew.ensures.part failed

pub returns-clause-part : goal.returns-clause-part
returns-clause-part g c =
    let a = c.in_ok-replayed.ensures.same in
    taken_open c.args.self.now c.args.current.now c.args.odometer.0 c.args.owed.now c.args.now.0 c.if-current-eq0.false c.mend.new.self c.renew.new.self c.recount-2.new.self a.0 a.1 c.in_ok-replayed.ensures.part c.in_ok-renew.ensures.part c.recount-2.ensures.session

pub returns-in_err-replayed-clause-same : goal.returns-in_err-replayed-clause-same
returns-in_err-replayed-clause-same g c = c.in_err-replayed.ensures.same

pub returns-in_err-renew-clause-same : goal.returns-in_err-renew-clause-same
returns-in_err-renew-clause-same g c =
    let a = c.in_ok-replayed.ensures.same in
    let b = c.in_err-renew.ensures.same in
    (b.0 ∙ a.0, b.1 ∙ a.1, b.2 ∙ a.2)

pub returns-clause-same : goal.returns-clause-same
returns-clause-same g c =
    let a = c.in_ok-replayed.ensures.same in
    let b = c.in_ok-renew.ensures.same in
    let d = c.recount-2.ensures.same in
    (d.0 ∙ b.0 ∙ a.0, d.1 ∙ b.1 ∙ a.1, d.2 ∙ b.2 ∙ a.2)

pub returns-then-current-eq0-clause-replays : goal.returns-then-current-eq0-clause-replays
returns-then-current-eq0-clause-replays g c = record {
  few = omega arith;
  count =
      let closed : nat_eq c.args.current.now.session.0 0 ≡ true = grind (arith, common_steps) in
      sym (ap (λ (b : Bool). cond b 0 (length (lacked (last_use_of c.args.self.now.vehicle / 60) c.args.owed.now))) closed);
}

pub returns-clause-replays : goal.returns-clause-replays
returns-clause-replays g c = record {
  few = omega (arith, c.in_ok-replayed.ensures.count, lacked_few (last_use_of c.args.self.now.vehicle / 60) c.args.owed.now);
  count =
      let unclosed : nat_eq c.args.current.now.session.0 0 ≡ false = grind (arith, common_steps) in
      c.in_ok-replayed.ensures.count ∙ sym (ap (λ (b : Bool). cond b 0 (length (lacked (last_use_of c.args.self.now.vehicle / 60) c.args.owed.now))) unclosed);
}

pub returns-clause-called : goal.returns-clause-called
returns-clause-called g c = called_then c.in_ok-replayed.ensures.part.cause c.in_ok-renew.ensures.called

pub returns-in_err-renew-clause-called : goal.returns-in_err-renew-clause-called
returns-in_err-renew-clause-called g c =
    let failed : is_err c.from_residual-in_err-renew.result ≡ true = search rules in
    subst (λ (b : Bool). HasCause (g.M.Medium.state c.args.port.now) (g.M.Medium.state c.renew.new.port) b) (sym failed) (called_then c.in_ok-replayed.ensures.part.cause c.in_err-renew.ensures.called)

pub returns-in_err-replayed-clause-called : goal.returns-in_err-replayed-clause-called
returns-in_err-replayed-clause-called g c =
    let failed : is_err c.from_residual-in_err-replayed.result ≡ true = search rules in
    subst (λ (b : Bool). HasCause (g.M.Medium.state c.args.port.now) (g.M.Medium.state c.mend.new.port) b) (sym failed) (⊎_elim (λ called. called) (λ idle. let no : true ≡ false = idle.0 in absurd (cc)) c.in_err-replayed.ensures.part.cause)
