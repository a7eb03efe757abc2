use Rattle.std.proofs.Common.{◌∙◌, ◌<◌, ◌≤◌, ◌++◌, ℕ, List, length, get_or, take, Ok, Err, sym, subst, append-nil, arith}
use Rattle.std.proofs.lemmas.List.{take_all}
use Rattle.unit_minutes.proofs.IfAny.{read_same}
use Rattle.unit_memory.proofs.Told.{carried}
use Rattle.unit_messages.proofs.Calls.{no_call, any_then}
use Rattle.link_session.specs.Told.{Knows}
use Rattle.link_session.proofs.IfAny.{same_size}
use Rattle.link_session.proofs.ServeFaults.{passed_reads, caused_passed}
use Rattle.packet_service.specs.Serving.{IsServing}
use Rattle.packet_service.proofs.Answering.{one_more, serving_one, all_stopped}
use Rattle.packet_service.proofs.serving.UnitLine.take_all.Goals as goal

pub loop-byte-init : goal.loop-byte-init
loop-byte-init g c =
    let image = (g.U.Medium.state c.args.unit.now).image in
    let line = c.args.self.now in
    let sunk = g.K.Sink.held c.args.sink.now in
    record {
      goes = λ held came s. subst (λ (l : List ℕ). IsServing image l line.gathering line.end held sunk) (sym (append-nil came)) s;
      knows = c.requires.knows;
      part = c.requires.part;
      counts = omega arith;
      reads = no_call (g.U.Medium.state c.args.unit.now);
    }

pub take-requires-clause-unit : goal.take-requires-clause-unit
take-requires-clause-unit g c = same_size c.loop-byte.invariant.reads ∙ c.requires.unit

pub take-requires-clause-knows : goal.take-requires-clause-knows
take-requires-clause-knows g c = carried (λ x. Knows c.loop-byte.self.end.side x) (sym (read_same c.loop-byte.invariant.reads)) c.loop-byte.invariant.knows

pub take-requires-clause-part : goal.take-requires-clause-part
take-requires-clause-part g c = c.loop-byte.invariant.part

pub loop-byte-preserved : goal.loop-byte-preserved
loop-byte-preserved g c =
    let inv = c.loop-byte.invariant in
    let e = c.in_ok-take.ensures in
    let image = (g.U.Medium.state c.args.unit.now).image in
    let now = (g.U.Medium.state c.loop-byte.unit).image in
    let line = c.loop-byte.self in
    let next = c.take.new.self in
    let sunk = g.K.Sink.held c.loop-byte.sink in
    let filled = g.K.Sink.held c.take.new.sink in
    let bytes = c.args.bytes.now in
    let i = c.loop-byte.byte-index in
    let under : i < length bytes = omega arith in
    record {
      goes = λ held came s.
          subst (λ (l : List ℕ). IsServing image l next.gathering next.end held filled) (one_more came bytes i under)
          (serving_one image now held (came ++ take i bytes) (get_or bytes i 0) line.gathering next.gathering line.end next.end sunk filled (Ok tt) (read_same inv.reads) (inv.goes held came s) (λ first. e.goes held (came ++ take i bytes) first));
      knows = carried (λ x. Knows next.end.side x) (read_same inv.reads) e.knows;
      part = e.part;
      counts = omega (arith, inv.counts, e.counts);
      reads = any_then inv.reads e.reads;
    }

pub returns-in_err-take-clause-goes : goal.returns-in_err-take-clause-goes
returns-in_err-take-clause-goes g c = λ held came s.
    let inv = c.loop-byte.invariant in
    let image = (g.U.Medium.state c.args.unit.now).image in
    let now = (g.U.Medium.state c.loop-byte.unit).image in
    let line = c.loop-byte.self in
    let next = c.take.new.self in
    let sunk = g.K.Sink.held c.loop-byte.sink in
    let filled = g.K.Sink.held c.take.new.sink in
    let bytes = c.args.bytes.now in
    let i = c.loop-byte.byte-index in
    let under : i < length bytes = omega arith in
    all_stopped c.from_residual.result _ image came bytes i next.gathering next.end held filled c.from_residual.ensures.1 under
    (serving_one image now held (came ++ take i bytes) (get_or bytes i 0) line.gathering next.gathering line.end next.end sunk filled (Err _) (read_same inv.reads) (inv.goes held came s) (λ first. c.in_err-take.ensures.goes held (came ++ take i bytes) first))

pub returns-in_err-take-clause-knows : goal.returns-in_err-take-clause-knows
returns-in_err-take-clause-knows g c = carried (λ x. Knows c.take.new.self.end.side x) (read_same c.loop-byte.invariant.reads) c.in_err-take.ensures.knows

pub returns-in_err-take-clause-cause : goal.returns-in_err-take-clause-cause
returns-in_err-take-clause-cause g c =
    caused_passed c.from_residual.result _ ⊥ ⊥ (g.K.Sink.faults c.args.sink.now) (g.K.Sink.faults c.loop-byte.sink) (g.K.Sink.faults c.take.new.sink) _ _
    c.from_residual.ensures.1 (λ none. none) c.loop-byte.invariant.counts (read_same c.loop-byte.invariant.reads) c.in_err-take.ensures.cause

pub returns-in_err-take-clause-counts : goal.returns-in_err-take-clause-counts
returns-in_err-take-clause-counts g c = omega (arith, c.loop-byte.invariant.counts, c.in_err-take.ensures.counts)

pub returns-in_err-take-clause-reads : goal.returns-in_err-take-clause-reads
returns-in_err-take-clause-reads g c = passed_reads c.from_residual.result _ c.from_residual.ensures.1 (any_then c.loop-byte.invariant.reads c.in_err-take.ensures.reads)

pub returns-clause-goes : goal.returns-clause-goes
returns-clause-goes g c = λ held came s.
    let image = (g.U.Medium.state c.args.unit.now).image in
    let line = c.loop-byte.self in
    let sunk = g.K.Sink.held c.loop-byte.sink in
    let bytes = c.args.bytes.now in
    let i = c.loop-byte.byte-index in
    let over : length bytes ≤ i = omega arith in
    subst (λ (l : List ℕ). IsServing image (came ++ l) line.gathering line.end held sunk) (take_all i bytes over) (c.loop-byte.invariant.goes held came s)

pub returns-clause-knows : goal.returns-clause-knows
returns-clause-knows g c = c.loop-byte.invariant.knows

pub returns-clause-part : goal.returns-clause-part
returns-clause-part g c = c.loop-byte.invariant.part

pub returns-clause-counts : goal.returns-clause-counts
returns-clause-counts g c = c.loop-byte.invariant.counts

pub returns-clause-reads : goal.returns-clause-reads
returns-clause-reads g c = c.loop-byte.invariant.reads
