use Rattle.std.proofs.Common.{◌≡◌, ◌≤◌, ◌<◌, ℕ, List, [], length, take, Ok, Err, ◌∙◌, sym, ap, arith}
use Rattle.std.proofs.lemmas.List.{length-take-le}
use Rattle.std.proofs.KnownBytes.{Consumes-trans}
use Rattle.tach_media.specs.Medium.{Rose}
use Rattle.unit_minutes.proofs.IfAny.{read_same}
use Rattle.unit_memory.proofs.Told.{carried}
use Rattle.unit_messages.proofs.Calls.{any_then}
use Rattle.link_session.specs.Told.{Knows}
use Rattle.link_session.proofs.IfAny.{same_size}
use Rattle.link_session.proofs.Asked.{consumed_end}
use Rattle.link_session.proofs.ServeFaults.{passed_reads, caused_passed}
use Rattle.packet_service.proofs.Turning.{turning_none, turning_on, serving_then, part_so, told_so, told_now, served_done, served_broken, served_long, served_stopped}
use Rattle.packet_service.proofs.serving.serve_packets.Goals as goal

pub loop-turn-init : goal.loop-turn-init
loop-turn-init g c = record {
  turning = turning_none (g.U.Medium.state c.args.unit.now) (g.S.Source.left c.args.source.now) (g.K.Sink.held c.args.sink.now) c.new-line.result (g.S.Peer.asked c.args.source.now) c.new-line.ensures.end c.new-line.ensures.gathering;
  given = omega arith;
  taken = omega arith;
}

pub take_all-requires-clause-unit : goal.take_all-requires-clause-unit
take_all-requires-clause-unit g c = same_size c.loop-turn.invariant.turning.reads ∙ c.requires.unit

pub take_all-requires-clause-knows : goal.take_all-requires-clause-knows
take_all-requires-clause-knows g c = carried (λ x. Knows c.loop-turn.line.end.side x) (sym (read_same c.loop-turn.invariant.turning.reads)) c.loop-turn.invariant.turning.knows

pub take_all-requires-clause-part : goal.take_all-requires-clause-part
take_all-requires-clause-part g c = part_so c.loop-turn.invariant.turning.serving

pub loop-turn-preserved : goal.loop-turn-preserved
loop-turn-preserved g c =
    let inv = c.loop-turn.invariant in
    let t = inv.turning in
    let e = c.in_ok-take_all.ensures in
    let line = c.loop-turn.line in
    let next = c.take_all.new.self in
    let held = g.K.Sink.held c.args.sink.now in
    let filled = g.K.Sink.held c.take_all.new.sink in
    let image = (g.U.Medium.state c.args.unit.now).image in
    let now = (g.U.Medium.state c.loop-turn.unit).image in
    let n = c.in-Ok.count in
    let bytes : List ℕ = take n c.read_after.new.buf in
    let within : n ≤ length c.read_after.new.buf = omega (arith, c.in-Ok.ensures.bound) in
    let long : length bytes ≡ n = length-take-le n c.read_after.new.buf within in
    let some : 0 < length bytes = omega (arith, long) in
    let goes = serving_then image now held t.came bytes line.gathering next.gathering line.end next.end (g.K.Sink.held c.loop-turn.sink) filled (Ok tt) (read_same t.reads) t.serving (λ s. e.goes held t.came s) in
    record {
      turning = turning_on t (g.S.Peer.asked c.read_after.new.self) (g.S.Source.left c.read_after.new.self) filled next (g.U.Medium.state c.take_all.new.unit) bytes c.in-Ok.ensures.asked c.in-Ok.ensures.bytes.0 some goes
          (carried (λ x. Knows next.end.side x) (read_same t.reads) e.knows) e.reads;
      given = omega (arith, inv.given, c.in-Ok.ensures.cause.later);
      taken = omega (arith, inv.taken, e.counts);
    }

pub returns-in_err-take_all-clause-served : goal.returns-in_err-take_all-clause-served
returns-in_err-take_all-clause-served g c =
    let t = c.loop-turn.invariant.turning in
    let line = c.loop-turn.line in
    let next = c.take_all.new.self in
    let held = g.K.Sink.held c.args.sink.now in
    let filled = g.K.Sink.held c.take_all.new.sink in
    let image = (g.U.Medium.state c.args.unit.now).image in
    let now = (g.U.Medium.state c.loop-turn.unit).image in
    let bytes : List ℕ = take c.in-Ok.count c.read_after.new.buf in
    let stops = serving_then image now held t.came bytes line.gathering next.gathering line.end next.end (g.K.Sink.held c.loop-turn.sink) filled (Err _) (read_same t.reads) t.serving (λ s. c.in_err-take_all.ensures.goes held t.came s) in
    served_stopped t c.from_residual.result _ (g.S.Source.left c.read_after.new.self) filled bytes c.from_residual.ensures.1 c.in-Ok.ensures.bytes.0 stops

pub returns-in_err-take_all-clause-in_time : goal.returns-in_err-take_all-clause-in_time
returns-in_err-take_all-clause-in_time g c =
    let t = c.loop-turn.invariant.turning in
    let bytes : List ℕ = take c.in-Ok.count c.read_after.new.buf in
    told_so t (g.S.Peer.asked c.read_after.new.self) (g.S.Source.left c.read_after.new.self) bytes c.in-Ok.ensures.asked (Consumes-trans _ _ _ t.came bytes t.consumed c.in-Ok.ensures.bytes.0)

pub returns-in_err-take_all-clause-cause : goal.returns-in_err-take_all-clause-cause
returns-in_err-take_all-clause-cause g c =
    caused_passed c.from_residual.result _ ⊥ (Rose (g.S.Source.faults c.args.source.now) (g.S.Source.faults c.read_after.new.self)) (g.K.Sink.faults c.args.sink.now) (g.K.Sink.faults c.loop-turn.sink) (g.K.Sink.faults c.take_all.new.sink) _ _
    c.from_residual.ensures.1 (λ none. absurd none) c.loop-turn.invariant.taken (read_same c.loop-turn.invariant.turning.reads) c.in_err-take_all.ensures.cause

pub returns-in_err-take_all-clause-counts : goal.returns-in_err-take_all-clause-counts
returns-in_err-take_all-clause-counts g c = (omega (arith, c.loop-turn.invariant.given, c.in-Ok.ensures.cause.later), omega (arith, c.loop-turn.invariant.taken, c.in_err-take_all.ensures.counts))

pub returns-in_err-take_all-clause-unit : goal.returns-in_err-take_all-clause-unit
returns-in_err-take_all-clause-unit g c = passed_reads c.from_residual.result _ c.from_residual.ensures.1 (any_then c.loop-turn.invariant.turning.reads c.in_err-take_all.ensures.reads)

pub returns-in_default-clause-served : goal.returns-in_default-clause-served
returns-in_default-clause-served g c = served_broken c.loop-turn.invariant.turning (g.S.Source.left c.read_after.new.self) c.in_default.ensures.bytes

pub returns-in_default-clause-in_time : goal.returns-in_default-clause-in_time
returns-in_default-clause-in_time g c =
    let t = c.loop-turn.invariant.turning in
    told_so t (g.S.Peer.asked c.read_after.new.self) (g.S.Source.left c.read_after.new.self) [] c.in_default.ensures.asked (consumed_end _ _ _ t.came t.consumed c.in_default.ensures.bytes)

pub returns-in_default-clause-cause : goal.returns-in_default-clause-cause
returns-in_default-clause-cause g c = omega (arith, c.loop-turn.invariant.given, c.in_default.ensures.cause.failed)

pub returns-in_default-clause-counts : goal.returns-in_default-clause-counts
returns-in_default-clause-counts g c = (omega (arith, c.loop-turn.invariant.given, c.in_default.ensures.cause.later), c.loop-turn.invariant.taken)

pub returns-in_default-clause-unit : goal.returns-in_default-clause-unit
returns-in_default-clause-unit g c = c.loop-turn.invariant.turning.reads

pub returns-then-count-eq0-clause-served : goal.returns-then-count-eq0-clause-served
returns-then-count-eq0-clause-served g c =
    served_done c.loop-turn.invariant.turning (g.S.Source.left c.read_after.new.self) (take c.in-Ok.count c.read_after.new.buf) (ap (λ (n : ℕ). take n c.read_after.new.buf) c.if-count-eq0.true) c.in-Ok.ensures.bytes.0

pub returns-then-count-eq0-clause-in_time : goal.returns-then-count-eq0-clause-in_time
returns-then-count-eq0-clause-in_time g c =
    let t = c.loop-turn.invariant.turning in
    let bytes : List ℕ = take c.in-Ok.count c.read_after.new.buf in
    told_so t (g.S.Peer.asked c.read_after.new.self) (g.S.Source.left c.read_after.new.self) bytes c.in-Ok.ensures.asked (Consumes-trans _ _ _ t.came bytes t.consumed c.in-Ok.ensures.bytes.0)

pub returns-then-count-eq0-clause-counts : goal.returns-then-count-eq0-clause-counts
returns-then-count-eq0-clause-counts g c = (omega (arith, c.loop-turn.invariant.given, c.in-Ok.ensures.cause.later), c.loop-turn.invariant.taken)

pub returns-then-count-eq0-clause-unit : goal.returns-then-count-eq0-clause-unit
returns-then-count-eq0-clause-unit g c = c.loop-turn.invariant.turning.reads

pub returns-clause-served : goal.returns-clause-served
returns-clause-served g c = served_long c.loop-turn.invariant.turning (omega arith)

pub returns-clause-in_time : goal.returns-clause-in_time
returns-clause-in_time g c = told_now c.loop-turn.invariant.turning

pub returns-clause-unit : goal.returns-clause-unit
returns-clause-unit g c = c.loop-turn.invariant.turning.reads
