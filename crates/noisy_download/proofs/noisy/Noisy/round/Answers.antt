use Rattle.std.proofs.Common.{◌∙◌, Ok, Err, sym, ap, arith}
use Rattle.unit_minutes.proofs.IfAny.{read_same}
use Rattle.unit_memory.proofs.Told.{carried}
use Rattle.unit_messages.proofs.Calls.{no_call, any_then}
use Rattle.link_session.specs.Told.{Knows}
use Rattle.link_session.proofs.IfAny.{same_size}
use Rattle.unit_download.specs.declared.fault.DownloadFault.TheVariants.{WriteFault}
use Rattle.unit_download.proofs.Faults.{fault_is, passed_reads}
use Rattle.noisy_download.proofs.Happening.{goes_then, drawn_underway, knows_at}
use Rattle.noisy_download.proofs.Rounds.{goes_passed}
use Rattle.noisy_download.proofs.noisy.Noisy.round.Goals as goal

pub loop-turn-init : goal.loop-turn-init
loop-turn-init g c =
    let w = c.args.self.now in
    let v = c.draw.new.self in
    let image = (g.U.Medium.state c.args.unit.now).image in
    record {
      goes = λ held u. drawn_underway image held w.world v.world w.listed v.listed c.args.wire.now (g.K.Sink.held c.args.sink.now) c.draw.ensures.world c.draw.ensures.listed u;
      knows = knows_at image w.world v.world c.draw.ensures.world c.requires.knows;
      reads = no_call (g.U.Medium.state c.args.unit.now);
      counts = omega arith;
    }

pub stray-requires-clause-unit : goal.stray-requires-clause-unit
stray-requires-clause-unit g c = same_size c.loop-turn.invariant.reads ∙ c.requires.unit

pub stray-requires-clause-knows : goal.stray-requires-clause-knows
stray-requires-clause-knows g c = carried (λ x. Knows c.loop-turn.self.world.unit.side x) (sym (read_same c.loop-turn.invariant.reads)) c.loop-turn.invariant.knows

pub loop-turn-preserved : goal.loop-turn-preserved
loop-turn-preserved g c =
    let inv = c.loop-turn.invariant in
    let e = c.in_ok-stray.ensures in
    let w = c.loop-turn.self in
    let v = c.stray.new.self in
    let image = (g.U.Medium.state c.args.unit.now).image in
    let next = (g.U.Medium.state c.loop-turn.unit).image in
    record {
      goes = λ held u.
          goes_then image next held w.world v.world w.listed v.listed c.loop-turn.wire c.stray.new.wire (g.K.Sink.held c.loop-turn.sink) (g.K.Sink.held c.stray.new.sink) (Ok tt) (read_same inv.reads) (inv.goes held u) (λ first. e.goes held first);
      knows = carried (λ x. Knows v.world.unit.side x) (read_same inv.reads) e.knows;
      reads = any_then inv.reads e.reads;
      counts = omega (arith, inv.counts, e.counts);
    }

pub returns-in_err-stray-clause-goes : goal.returns-in_err-stray-clause-goes
returns-in_err-stray-clause-goes g c = λ held u.
    let inv = c.loop-turn.invariant in
    let w = c.loop-turn.self in
    let v = c.stray.new.self in
    let image = (g.U.Medium.state c.args.unit.now).image in
    let next = (g.U.Medium.state c.loop-turn.unit).image in
    goes_then image next held w.world v.world w.listed v.listed c.loop-turn.wire c.stray.new.wire (g.K.Sink.held c.loop-turn.sink) (g.K.Sink.held c.stray.new.sink) c.from_residual.result (read_same inv.reads) (inv.goes held u)
    (λ first. goes_passed held v.world v.listed c.stray.new.wire (g.K.Sink.held c.stray.new.sink) c.from_residual.result _ next c.from_residual.ensures.1 (c.in_err-stray.ensures.goes held first))

pub returns-in_err-stray-clause-knows : goal.returns-in_err-stray-clause-knows
returns-in_err-stray-clause-knows g c = carried (λ x. Knows c.stray.new.self.world.unit.side x) (read_same c.loop-turn.invariant.reads) c.in_err-stray.ensures.knows

pub returns-in_err-stray-clause-cause : goal.returns-in_err-stray-clause-cause
returns-in_err-stray-clause-cause g c = λ is.
    omega (arith, c.loop-turn.invariant.counts, c.in_err-stray.ensures.cause (ap Err (fault_is c.from_residual.result _ WriteFault c.from_residual.ensures.1 is)))

pub returns-in_err-stray-clause-reads : goal.returns-in_err-stray-clause-reads
returns-in_err-stray-clause-reads g c = passed_reads c.from_residual.result _ c.from_residual.ensures.1 (any_then c.loop-turn.invariant.reads c.in_err-stray.ensures.reads)

pub exchange-requires-clause-unit : goal.exchange-requires-clause-unit
exchange-requires-clause-unit g c = same_size c.loop-turn.invariant.reads ∙ c.requires.unit

pub exchange-requires-clause-knows : goal.exchange-requires-clause-knows
exchange-requires-clause-knows g c = carried (λ x. Knows c.loop-turn.self.world.unit.side x) (sym (read_same c.loop-turn.invariant.reads)) c.loop-turn.invariant.knows

pub returns-clause-goes : goal.returns-clause-goes
returns-clause-goes g c = λ held u.
    let inv = c.loop-turn.invariant in
    let w = c.loop-turn.self in
    let v = c.exchange.new.self in
    goes_then (g.U.Medium.state c.args.unit.now).image (g.U.Medium.state c.loop-turn.unit).image held w.world v.world w.listed v.listed c.loop-turn.wire c.exchange.new.wire (g.K.Sink.held c.loop-turn.sink) (g.K.Sink.held c.exchange.new.sink) c.exchange.result
    (read_same inv.reads) (inv.goes held u) (λ first. c.exchange.ensures.goes held first)

pub returns-clause-knows : goal.returns-clause-knows
returns-clause-knows g c = carried (λ x. Knows c.exchange.new.self.world.unit.side x) (read_same c.loop-turn.invariant.reads) c.exchange.ensures.knows

pub returns-clause-cause : goal.returns-clause-cause
returns-clause-cause g c = λ is. omega (arith, c.loop-turn.invariant.counts, c.exchange.ensures.cause is)

pub returns-clause-reads : goal.returns-clause-reads
returns-clause-reads g c = any_then c.loop-turn.invariant.reads c.exchange.ensures.reads
