use Rattle.std.proofs.Common.{◌∙◌, sym}
use Rattle.noisy_download.proofs.Happening.{happened, unlisted, knows_at}
use Rattle.noisy_download.proofs.noisy.Noisy.happen.Goals as goal

pub returns-in_err-list-clause-goes : goal.returns-in_err-list-clause-goes
returns-in_err-list-clause-goes g c = λ held u.
    let now = c.args.self.now in
    unlisted (g.U.Medium.state c.args.unit.now) held now.world c.list.new.self.world now.listed c.list.new.self.listed c.args.wire.now c.list.new.wire (g.K.Sink.held c.args.sink.now) c.from_residual.result _
    (sym c.finished.ensures ∙ c.if-finished.false) c.from_residual.ensures.1 c.in_err-list.ensures.memory u

pub returns-in_err-list-clause-knows : goal.returns-in_err-list-clause-knows
returns-in_err-list-clause-knows g c = knows_at (g.U.Medium.state c.args.unit.now).image c.args.self.now.world c.list.new.self.world c.list.ensures.world c.requires.knows

pub step-requires-clause-knows : goal.step-requires-clause-knows
step-requires-clause-knows g c = knows_at (g.U.Medium.state c.args.unit.now).image c.args.self.now.world c.list.new.self.world c.list.ensures.world c.requires.knows

pub returns-clause-goes : goal.returns-clause-goes
returns-clause-goes g c = λ held u.
    let now = c.args.self.now in
    let e = c.step.ensures in
    happened (g.U.Medium.state c.args.unit.now) held now.world c.list.new.self.world c.step.new.self now.listed c.list.new.self.listed c.args.wire.now c.list.new.wire (g.K.Sink.held c.args.sink.now) (g.K.Sink.held c.step.new.sink) c.args.event.now
    c.step.result c.list.ensures.world (sym c.finished.ensures ∙ c.if-finished.false) c.in_ok-list.ensures.listed e.stepped e.knows e.room u
