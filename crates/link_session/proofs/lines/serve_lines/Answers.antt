use Rattle.std.proofs.Common.{rules, ◌≡◌, ◌≤◌, ◌<◌, ℕ, List, [], length, take, ap, arith}
use Rattle.std.proofs.lemmas.List.{length-take-le}
use Rattle.unit_messages.proofs.Calls.{any_then}
use Rattle.link_session.proofs.ServingLines.{lines_none, lines_one, lines_on, lines_end, lines_too_long, lines_broken, lines_done, part_is, part_all, Answered, lines_answered}
use Rattle.link_session.proofs.Asked.{timely_none, timely_on, timely_told, consumed_end}
use Rattle.std.proofs.KnownBytes.{Consumes-trans}
use Rattle.link_session.proofs.LinesFaults.{lines_reads}
use Rattle.link_session.proofs.lines.serve_lines.Goals as goal

pub loop-turn-init : goal.loop-turn-init
unfolding lines_none
loop-turn-init g c =
    let e = c.new-lines.ensures in (
      (
        lines_none (g.S.Source.left c.args.source.now) (g.K.Sink.held c.args.sink.now) c.new-lines.result (g.U.Medium.state c.args.unit.now) e.scanner e.session e.text e.whole,
        timely_none Answered (g.U.Medium.state c.args.unit.now).image (g.K.Sink.held c.args.sink.now) (g.S.Peer.asked c.args.source.now),
      ),
      omega arith,
      omega arith,
    )

pub take-requires-clause-one : goal.take-requires-clause-one
take-requires-clause-one g c = lines_one c.loop-turn.invariant.0.0

pub loop-turn-preserved : goal.loop-turn-preserved
unfolding lines_on
loop-turn-preserved g c =
    let inv = c.loop-turn.invariant in
    let e = c.in_ok-take.ensures in
    let n = c.in-Ok.count in
    let left = c.loop-turn.left in
    let block = c.read_after.new.buf in
    let within : n ≤ length block = omega (arith, c.in-Ok.ensures.bound) in
    let long : length (take n block) ≡ n = length-take-le n block within in (
      (
        lines_on (g.S.Source.left c.read_after.new.self) c.take.new.self (g.U.Medium.state c.take.new.unit) (g.K.Sink.held c.take.new.sink) (take n block) (take c.min-taken.result block) n
            inv.0.0 (part_all c.min-taken.result n left block c.min-taken.ensures (omega arith)) long (omega arith) (omega arith) c.in-Ok.ensures.bytes.0 e.heard e.few e.knows e.goes.unit,
        timely_on Answered (g.S.Peer.asked c.read_after.new.self) (g.K.Sink.held c.loop-turn.sink) (take n block) (lines_answered inv.0.0) inv.0.1 c.in-Ok.ensures.asked,
      ),
      omega (arith, inv.1, c.in-Ok.ensures.cause.later),
      omega (arith, inv.2, e.goes.counts),
    )

pub returns-in_err-take-clause-served : goal.returns-in_err-take-clause-served
returns-in_err-take-clause-served g c =
    let n = c.in-Ok.count in
    lines_end c.from_residual.result (g.S.Source.left c.read_after.new.self) (g.K.Sink.held c.take.new.sink) (take n c.read_after.new.buf) (take c.min-taken.result c.read_after.new.buf) _ c.from_residual.ensures.1
    c.loop-turn.invariant.0.0 c.in-Ok.ensures.bytes.0 (part_is c.min-taken.result n c.loop-turn.left c.read_after.new.buf c.min-taken.ensures) c.in_err-take.ensures.stops

pub returns-in_err-take-clause-unit : goal.returns-in_err-take-clause-unit
returns-in_err-take-clause-unit g c =
    lines_reads c.from_residual.result _ c.from_residual.ensures.1 (any_then c.loop-turn.invariant.0.0.reads c.in_err-take.ensures.goes.unit)

pub returns-then-count-eq0-clause-served : goal.returns-then-count-eq0-clause-served
returns-then-count-eq0-clause-served g c =
    let e = c.end_line.ensures in
    let some : 0 < length c.read_after.new.buf = search rules in
    let at_end = c.in-Ok.ensures.bytes.1 c.if-count-eq0.true some in
    lines_done c.end_line.result (g.S.Source.left c.read_after.new.self) (g.K.Sink.held c.end_line.new.sink) c.end_line.new.self.line.scanner c.end_line.new.self.line.session.state (take c.in-Ok.count c.read_after.new.buf)
    c.loop-turn.invariant.0.0 c.in-Ok.ensures.bytes.0 (ap (λ (n : ℕ). take n c.read_after.new.buf) c.if-count-eq0.true) at_end e.heard e.stops

pub returns-then-count-eq0-clause-unit : goal.returns-then-count-eq0-clause-unit
returns-then-count-eq0-clause-unit g c = any_then c.loop-turn.invariant.0.0.reads c.end_line.ensures.goes.unit

pub returns-then-left-count-clause-served : goal.returns-then-left-count-clause-served
returns-then-left-count-clause-served g c =
    let n = c.in-Ok.count in
    let block = c.read_after.new.buf in
    let within : n ≤ length block = omega (arith, c.in-Ok.ensures.bound) in
    let long : length (take n block) ≡ n = length-take-le n block within in
    lines_too_long (Unit {0}) (g.S.Source.left c.read_after.new.self) c.take.new.self (g.K.Sink.held c.take.new.sink) (take n block) (take c.min-taken.result block)
    c.loop-turn.invariant.0.0 c.in-Ok.ensures.bytes.0 (part_is c.min-taken.result n c.loop-turn.left block c.min-taken.ensures) (omega (arith, long)) c.in_ok-take.ensures.heard

pub returns-then-left-count-clause-unit : goal.returns-then-left-count-clause-unit
returns-then-left-count-clause-unit g c = any_then c.loop-turn.invariant.0.0.reads c.in_ok-take.ensures.goes.unit

pub returns-in_default-clause-served : goal.returns-in_default-clause-served
returns-in_default-clause-served g c = lines_broken (Unit {0}) (g.S.Source.left c.read_after.new.self) c.loop-turn.invariant.0.0 c.in_default.ensures.bytes

pub returns-in_err-take-clause-in_time : goal.returns-in_err-take-clause-in_time
returns-in_err-take-clause-in_time g c =
    let inv = c.loop-turn.invariant.0 in
    let bytes : List ℕ = take c.in-Ok.count c.read_after.new.buf in
    timely_told Answered (g.S.Source.left c.args.source.now) (g.S.Source.left c.read_after.new.self)
    (timely_on Answered (g.S.Peer.asked c.read_after.new.self) (g.K.Sink.held c.loop-turn.sink) bytes (lines_answered inv.0) inv.1 c.in-Ok.ensures.asked)
    (Consumes-trans _ _ _ inv.0.came bytes inv.0.consumed c.in-Ok.ensures.bytes.0)

pub returns-then-count-eq0-clause-in_time : goal.returns-then-count-eq0-clause-in_time
returns-then-count-eq0-clause-in_time g c =
    let inv = c.loop-turn.invariant.0 in
    let bytes : List ℕ = take c.in-Ok.count c.read_after.new.buf in
    timely_told Answered (g.S.Source.left c.args.source.now) (g.S.Source.left c.read_after.new.self)
    (timely_on Answered (g.S.Peer.asked c.read_after.new.self) (g.K.Sink.held c.loop-turn.sink) bytes (lines_answered inv.0) inv.1 c.in-Ok.ensures.asked)
    (Consumes-trans _ _ _ inv.0.came bytes inv.0.consumed c.in-Ok.ensures.bytes.0)

pub returns-then-left-count-clause-in_time : goal.returns-then-left-count-clause-in_time
returns-then-left-count-clause-in_time g c =
    let inv = c.loop-turn.invariant.0 in
    let bytes : List ℕ = take c.in-Ok.count c.read_after.new.buf in
    timely_told Answered (g.S.Source.left c.args.source.now) (g.S.Source.left c.read_after.new.self)
    (timely_on Answered (g.S.Peer.asked c.read_after.new.self) (g.K.Sink.held c.loop-turn.sink) bytes (lines_answered inv.0) inv.1 c.in-Ok.ensures.asked)
    (Consumes-trans _ _ _ inv.0.came bytes inv.0.consumed c.in-Ok.ensures.bytes.0)

pub returns-in_default-clause-in_time : goal.returns-in_default-clause-in_time
returns-in_default-clause-in_time g c =
    let inv = c.loop-turn.invariant.0 in
    timely_told Answered (g.S.Source.left c.args.source.now) (g.S.Source.left c.read_after.new.self)
    (timely_on Answered (g.S.Peer.asked c.read_after.new.self) (g.K.Sink.held c.loop-turn.sink) [] (lines_answered inv.0) inv.1 c.in_default.ensures.asked)
    (consumed_end _ _ _ inv.0.came inv.0.consumed c.in_default.ensures.bytes)
