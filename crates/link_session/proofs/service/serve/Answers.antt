use Rattle.std.proofs.Common.{◌≡◌, ◌≤◌, ℕ, List, length, take, ◌∙◌, ap, arith}
use Rattle.std.proofs.lemmas.List.{length-take-le}
use Rattle.tach_media.specs.Medium.{Rose}
use Rattle.unit_minutes.proofs.IfAny.{read_same}
use Rattle.unit_messages.proofs.Calls.{any_then}
use Rattle.link_session.proofs.IfAny.{same_size}
use Rattle.link_session.proofs.Serving.{serving_none, serving_on, serving_ends, serving_done, serving_broken, still_hears, still_known, Answered, serving_answered}
use Rattle.link_session.proofs.ServeFaults.{passed_reads, caused_passed}
use Rattle.link_session.proofs.Asked.{timely_none, timely_on, timely_told, consumed_end}
use Rattle.std.proofs.KnownBytes.{Consumes-trans}
use Rattle.std.specs.Prelude.{[]}
use Rattle.link_session.proofs.service.serve.Goals as goal

pub loop-turn-init : goal.loop-turn-init
unfolding serving_none
loop-turn-init g c = (
  (
    serving_none (g.S.Source.left c.args.source.now) (g.K.Sink.held c.args.sink.now) c.new-line.result (g.U.Medium.state c.args.unit.now) c.new-line.ensures.scanner c.new-line.ensures.session,
    timely_none Answered (g.U.Medium.state c.args.unit.now).image (g.K.Sink.held c.args.sink.now) (g.S.Peer.asked c.args.source.now),
  ),
  omega arith,
  omega arith,
)

pub answer_within-requires-clause-unit : goal.answer_within-requires-clause-unit
answer_within-requires-clause-unit g c = same_size c.loop-turn.invariant.0.0.reads ∙ c.requires.unit

pub answer_within-requires-clause-listens : goal.answer_within-requires-clause-listens
answer_within-requires-clause-listens g c = still_hears c.loop-turn.invariant.0.0

pub answer_within-requires-clause-knows : goal.answer_within-requires-clause-knows
answer_within-requires-clause-knows g c = still_known c.loop-turn.invariant.0.0

pub loop-turn-preserved : goal.loop-turn-preserved
unfolding serving_on
loop-turn-preserved g c =
    let inv = c.loop-turn.invariant in
    let e = c.in_ok-answer_within.ensures in
    let n = c.in-Ok.count in
    let bytes : List ℕ = take n c.read_after.new.buf in
    let within : n ≤ length c.read_after.new.buf = omega (arith, c.in-Ok.ensures.bound) in
    let long : length bytes ≡ n = length-take-le n c.read_after.new.buf within in (
      (
        serving_on (g.S.Source.left c.read_after.new.self) c.answer_within.new.self (g.U.Medium.state c.answer_within.new.unit) (g.K.Sink.held c.answer_within.new.sink) bytes n
            inv.0.0 long (omega arith) e.few c.in-Ok.ensures.bytes.0 e.kept e.answered e.knows e.goes.unit,
        timely_on Answered (g.S.Peer.asked c.read_after.new.self) (g.K.Sink.held c.loop-turn.sink) bytes (serving_answered inv.0.0) inv.0.1 c.in-Ok.ensures.asked,
      ),
      omega (arith, inv.1, c.in-Ok.ensures.cause.later),
      omega (arith, inv.2, e.goes.counts),
    )

pub overflow_sub-left : goal.overflow_sub-left
overflow_sub-left g c =
    let n = c.in-Ok.count in
    let within : n ≤ length c.read_after.new.buf = omega (arith, c.in-Ok.ensures.bound) in
    let long : length (take n c.read_after.new.buf) ≡ n = length-take-le n c.read_after.new.buf within in
    omega (arith, long, c.in_ok-answer_within.ensures.few)

pub returns-in_err-answer_within-clause-served : goal.returns-in_err-answer_within-clause-served
returns-in_err-answer_within-clause-served g c =
    serving_ends c.from_residual.result (g.S.Source.left c.read_after.new.self) (g.K.Sink.held c.answer_within.new.sink) (take c.in-Ok.count c.read_after.new.buf) _ c.from_residual.ensures.1
    c.loop-turn.invariant.0.0 c.in-Ok.ensures.bytes.0 c.in_err-answer_within.ensures.stops

pub returns-in_err-answer_within-clause-cause : goal.returns-in_err-answer_within-clause-cause
returns-in_err-answer_within-clause-cause g c =
    caused_passed c.from_residual.result _ ⊥ (Rose (g.S.Source.faults c.args.source.now) (g.S.Source.faults c.read_after.new.self)) (g.K.Sink.faults c.args.sink.now) (g.K.Sink.faults c.loop-turn.sink)
    (g.K.Sink.faults c.answer_within.new.sink) _ _ c.from_residual.ensures.1 (λ none. absurd none) c.loop-turn.invariant.2 (read_same c.loop-turn.invariant.0.0.reads) c.in_err-answer_within.ensures.goes.cause

pub returns-in_err-answer_within-clause-counts : goal.returns-in_err-answer_within-clause-counts
returns-in_err-answer_within-clause-counts g c =
    (omega (arith, c.loop-turn.invariant.1, c.in-Ok.ensures.cause.later), omega (arith, c.loop-turn.invariant.2, c.in_err-answer_within.ensures.goes.counts))

pub returns-in_err-answer_within-clause-unit : goal.returns-in_err-answer_within-clause-unit
returns-in_err-answer_within-clause-unit g c =
    passed_reads c.from_residual.result _ c.from_residual.ensures.1 (any_then c.loop-turn.invariant.0.0.reads c.in_err-answer_within.ensures.goes.unit)

pub returns-in_default-clause-served : goal.returns-in_default-clause-served
returns-in_default-clause-served g c = serving_broken (Unit {0}) (g.S.Source.left c.read_after.new.self) c.loop-turn.invariant.0.0 c.in_default.ensures.bytes

pub returns-in_default-clause-cause : goal.returns-in_default-clause-cause
returns-in_default-clause-cause g c = omega (arith, c.loop-turn.invariant.1, c.in_default.ensures.cause.failed)

pub returns-in_default-clause-counts : goal.returns-in_default-clause-counts
returns-in_default-clause-counts g c = (omega (arith, c.loop-turn.invariant.1, c.in_default.ensures.cause.later), c.loop-turn.invariant.2)

pub returns-in_default-clause-unit : goal.returns-in_default-clause-unit
returns-in_default-clause-unit g c = c.loop-turn.invariant.0.0.reads

pub returns-then-count-eq0-clause-served : goal.returns-then-count-eq0-clause-served
returns-then-count-eq0-clause-served g c =
    serving_done {T = Unit {0}} tt (g.S.Source.left c.read_after.new.self) (take c.in-Ok.count c.read_after.new.buf) c.loop-turn.invariant.0.0 c.in-Ok.ensures.bytes.0
    (ap (λ (n : ℕ). take n c.read_after.new.buf) c.if-count-eq0.true)

pub returns-then-count-eq0-clause-counts : goal.returns-then-count-eq0-clause-counts
returns-then-count-eq0-clause-counts g c = (omega (arith, c.loop-turn.invariant.1, c.in-Ok.ensures.cause.later), c.loop-turn.invariant.2)

pub returns-then-count-eq0-clause-unit : goal.returns-then-count-eq0-clause-unit
returns-then-count-eq0-clause-unit g c = c.loop-turn.invariant.0.0.reads

pub unreachable-requires : goal.unreachable-requires
unreachable-requires g c = omega (arith, c.loop-turn.invariant.0.0.turns, c.loop-turn.invariant.0.0.count)

pub returns-in_err-answer_within-clause-in_time : goal.returns-in_err-answer_within-clause-in_time
returns-in_err-answer_within-clause-in_time g c =
    let inv = c.loop-turn.invariant.0 in
    let bytes : List ℕ = take c.in-Ok.count c.read_after.new.buf in
    timely_told Answered (g.S.Source.left c.args.source.now) (g.S.Source.left c.read_after.new.self)
    (timely_on Answered (g.S.Peer.asked c.read_after.new.self) (g.K.Sink.held c.loop-turn.sink) bytes (serving_answered inv.0) inv.1 c.in-Ok.ensures.asked)
    (Consumes-trans _ _ _ inv.0.came bytes inv.0.consumed c.in-Ok.ensures.bytes.0)

pub returns-in_default-clause-in_time : goal.returns-in_default-clause-in_time
returns-in_default-clause-in_time g c =
    let inv = c.loop-turn.invariant.0 in
    timely_told Answered (g.S.Source.left c.args.source.now) (g.S.Source.left c.read_after.new.self)
    (timely_on Answered (g.S.Peer.asked c.read_after.new.self) (g.K.Sink.held c.loop-turn.sink) [] (serving_answered inv.0) inv.1 c.in_default.ensures.asked)
    (consumed_end _ _ _ inv.0.came inv.0.consumed c.in_default.ensures.bytes)

pub returns-then-count-eq0-clause-in_time : goal.returns-then-count-eq0-clause-in_time
returns-then-count-eq0-clause-in_time g c =
    let inv = c.loop-turn.invariant.0 in
    let bytes : List ℕ = take c.in-Ok.count c.read_after.new.buf in
    timely_told Answered (g.S.Source.left c.args.source.now) (g.S.Source.left c.read_after.new.self)
    (timely_on Answered (g.S.Peer.asked c.read_after.new.self) (g.K.Sink.held c.loop-turn.sink) bytes (serving_answered inv.0) inv.1 c.in-Ok.ensures.asked)
    (Consumes-trans _ _ _ inv.0.came bytes inv.0.consumed c.in-Ok.ensures.bytes.0)
