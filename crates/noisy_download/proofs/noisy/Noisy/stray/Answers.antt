use Rattle.unit_messages.proofs.Calls.{no_call}
use Rattle.noisy_download.proofs.Happening.{drawn_underway, knows_at}
use Rattle.noisy_download.proofs.noisy.Noisy.stray.Goals as goal

pub returns-in_default-clause-goes : goal.returns-in_default-clause-goes
returns-in_default-clause-goes g c = λ held u.
    let w = c.args.self.now in
    let v = c.draw-x.new.self in
    drawn_underway (g.U.Medium.state c.args.unit.now).image held w.world v.world w.listed v.listed c.args.wire.now (g.K.Sink.held c.args.sink.now) c.draw-x.ensures.world c.draw-x.ensures.listed u

pub returns-in_default-clause-knows : goal.returns-in_default-clause-knows
returns-in_default-clause-knows g c = knows_at (g.U.Medium.state c.args.unit.now).image c.args.self.now.world c.draw-x.new.self.world c.draw-x.ensures.world c.requires.knows

pub returns-in_default-clause-reads : goal.returns-in_default-clause-reads
returns-in_default-clause-reads g c = no_call (g.U.Medium.state c.args.unit.now)

pub happen-requires-clause-knows : goal.happen-requires-clause-knows
happen-requires-clause-knows g c = knows_at (g.U.Medium.state c.args.unit.now).image c.args.self.now.world c.draw-x.new.self.world c.draw-x.ensures.world c.requires.knows

pub returns-clause-goes : goal.returns-clause-goes
returns-clause-goes g c = λ held u.
    let w = c.args.self.now in
    let v = c.draw-x.new.self in
    c.happen.ensures.goes held
    (drawn_underway (g.U.Medium.state c.args.unit.now).image held w.world v.world w.listed v.listed c.args.wire.now (g.K.Sink.held c.args.sink.now) c.draw-x.ensures.world c.draw-x.ensures.listed u)
