use Rattle.std.proofs.Common.{rules, ◌≡◌, true}
use Rattle.std.specs.Prelude.{is_err}
use Rattle.card_session.proofs.OnCard.{may_still}
use Rattle.card_session.proofs.Keeping.{on_part, on_then, on_failed}
use Rattle.card_session.proofs.session.CardSession.use_on.Goals as goal

pub set_last_use-requires-clause-card : goal.set_last_use-requires-clause-card
set_last_use-requires-clause-card g c = may_still c.args.self.now.application c.set_odometer.new.self.application c.in_ok-set_odometer.ensures.part.leaves c.in_ok-set_odometer.ensures.same.application c.requires.card

pub returns-clause-part : goal.returns-clause-part
returns-clause-part g c =
    let k = c.args.kept.now in
    let s = c.args.self.now in
    on_part s k.odometer.0 k.entry.minute c.args.vehicle c.requires.vehicle c.requires.on _
    (on_then s k.odometer.0 k.entry.minute c.set_odometer.new.self _ c.in_ok-set_odometer.ensures.same.application c.in_ok-set_odometer.ensures.part c.set_last_use.ensures.part)

pub returns-in_err-set_odometer-clause-part : goal.returns-in_err-set_odometer-clause-part
returns-in_err-set_odometer-clause-part g c =
    let failed : is_err c.from_residual.result ≡ true = search rules in
    let k = c.args.kept.now in
    let s = c.args.self.now in
    on_part s k.odometer.0 k.entry.minute c.args.vehicle c.requires.vehicle c.requires.on _ (on_failed s k.odometer.0 k.entry.minute c.set_odometer.new.self _ c.in_err-set_odometer.ensures.part failed)
