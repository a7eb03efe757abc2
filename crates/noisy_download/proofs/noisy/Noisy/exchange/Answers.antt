use Rattle.std.proofs.Common.{◌∙◌, Err, sym, ap, arith}
use Rattle.unit_minutes.proofs.IfAny.{read_same}
use Rattle.unit_memory.proofs.Told.{carried}
use Rattle.unit_messages.proofs.Calls.{any_then}
use Rattle.link_session.specs.Told.{Knows}
use Rattle.link_session.proofs.IfAny.{same_size}
use Rattle.unit_download.specs.declared.fault.DownloadFault.TheVariants.{WriteFault}
use Rattle.unit_download.proofs.Faults.{fault_is, passed_reads}
use Rattle.noisy_download.proofs.Happening.{goes_then}
use Rattle.noisy_download.proofs.Rounds.{goes_passed}
use Rattle.noisy_download.proofs.noisy.Noisy.exchange.Goals as goal

pub returns-in_err-happen-clause-goes : goal.returns-in_err-happen-clause-goes
returns-in_err-happen-clause-goes g c = λ held u.
    let v = c.happen.new.self in
    goes_passed held v.world v.listed c.happen.new.wire (g.K.Sink.held c.happen.new.sink) c.from_residual.result _ (g.U.Medium.state c.args.unit.now).image c.from_residual.ensures.1 (c.in_err-happen.ensures.goes held u)

pub returns-in_err-happen-clause-cause : goal.returns-in_err-happen-clause-cause
returns-in_err-happen-clause-cause g c = λ is. c.in_err-happen.ensures.cause (ap Err (fault_is c.from_residual.result _ WriteFault c.from_residual.ensures.1 is))

pub returns-in_err-happen-clause-reads : goal.returns-in_err-happen-clause-reads
returns-in_err-happen-clause-reads g c = passed_reads c.from_residual.result _ c.from_residual.ensures.1 c.in_err-happen.ensures.reads

pub happen-requires-2-clause-unit : goal.happen-requires-2-clause-unit
happen-requires-2-clause-unit g c = same_size c.in_ok-happen.ensures.reads ∙ c.requires.unit

pub happen-requires-2-clause-knows : goal.happen-requires-2-clause-knows
happen-requires-2-clause-knows g c = carried (λ x. Knows c.happen.new.self.world.unit.side x) (sym (read_same c.in_ok-happen.ensures.reads)) c.in_ok-happen.ensures.knows

pub returns-in_err-happen-2-clause-goes : goal.returns-in_err-happen-2-clause-goes
returns-in_err-happen-2-clause-goes g c = λ held u.
    let image = (g.U.Medium.state c.args.unit.now).image in
    let w = c.happen.new.self in
    let v = c.happen-2.new.self in
    let r = c.from_residual-in_err-happen-2 in
    goes_then image (g.U.Medium.state c.happen.new.unit).image held w.world v.world w.listed v.listed c.happen.new.wire c.happen-2.new.wire (g.K.Sink.held c.happen.new.sink) (g.K.Sink.held c.happen-2.new.sink) r.result (read_same c.in_ok-happen.ensures.reads)
    (c.in_ok-happen.ensures.goes held u)
    (λ first. goes_passed held v.world v.listed c.happen-2.new.wire (g.K.Sink.held c.happen-2.new.sink) r.result _ (g.U.Medium.state c.happen.new.unit).image r.ensures.1 (c.in_err-happen-2.ensures.goes held first))

pub returns-in_err-happen-2-clause-knows : goal.returns-in_err-happen-2-clause-knows
returns-in_err-happen-2-clause-knows g c = carried (λ x. Knows c.happen-2.new.self.world.unit.side x) (read_same c.in_ok-happen.ensures.reads) c.in_err-happen-2.ensures.knows

pub returns-in_err-happen-2-clause-cause : goal.returns-in_err-happen-2-clause-cause
returns-in_err-happen-2-clause-cause g c = λ is.
    omega (arith, c.in_ok-happen.ensures.counts, c.in_err-happen-2.ensures.cause (ap Err (fault_is c.from_residual-in_err-happen-2.result _ WriteFault c.from_residual-in_err-happen-2.ensures.1 is)))

pub returns-in_err-happen-2-clause-reads : goal.returns-in_err-happen-2-clause-reads
returns-in_err-happen-2-clause-reads g c =
    passed_reads c.from_residual-in_err-happen-2.result _ c.from_residual-in_err-happen-2.ensures.1 (any_then c.in_ok-happen.ensures.reads c.in_err-happen-2.ensures.reads)

pub happen-requires-3-clause-unit : goal.happen-requires-3-clause-unit
happen-requires-3-clause-unit g c = same_size c.in_ok-happen-2.ensures.reads ∙ same_size c.in_ok-happen.ensures.reads ∙ c.requires.unit

pub happen-requires-3-clause-knows : goal.happen-requires-3-clause-knows
happen-requires-3-clause-knows g c = carried (λ x. Knows c.happen-2.new.self.world.unit.side x) (sym (read_same c.in_ok-happen-2.ensures.reads)) c.in_ok-happen-2.ensures.knows

pub returns-clause-goes : goal.returns-clause-goes
returns-clause-goes g c = λ held u.
    let image = (g.U.Medium.state c.args.unit.now).image in
    let next = (g.U.Medium.state c.happen.new.unit).image in
    let last = (g.U.Medium.state c.happen-2.new.unit).image in
    let w = c.happen.new.self in
    let v = c.happen-2.new.self in
    let x = c.happen-3.new.self in
    let full = g.K.Sink.held c.happen-3.new.sink in
    let r = c.happen-3.result in
    goes_then image next held w.world x.world w.listed x.listed c.happen.new.wire c.happen-3.new.wire (g.K.Sink.held c.happen.new.sink) full r (read_same c.in_ok-happen.ensures.reads)
    (c.in_ok-happen.ensures.goes held u)
    (λ first.
    goes_then next last held v.world x.world v.listed x.listed c.happen-2.new.wire c.happen-3.new.wire (g.K.Sink.held c.happen-2.new.sink) full r (read_same c.in_ok-happen-2.ensures.reads)
    (c.in_ok-happen-2.ensures.goes held first)
    (λ second. c.happen-3.ensures.goes held second))

pub returns-clause-knows : goal.returns-clause-knows
returns-clause-knows g c = carried (λ x. Knows c.happen-3.new.self.world.unit.side x) (read_same c.in_ok-happen-2.ensures.reads ∙ read_same c.in_ok-happen.ensures.reads) c.happen-3.ensures.knows

pub returns-clause-cause : goal.returns-clause-cause
returns-clause-cause g c = λ is. omega (arith, c.in_ok-happen.ensures.counts, c.in_ok-happen-2.ensures.counts, c.happen-3.ensures.cause is)

pub returns-clause-reads : goal.returns-clause-reads
returns-clause-reads g c = any_then c.in_ok-happen.ensures.reads (any_then c.in_ok-happen-2.ensures.reads c.happen-3.ensures.reads)
