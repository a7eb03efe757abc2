use Rattle.std.proofs.Common.{◌≡◌, ◌≤◌, ◌<◌, ℕ, List, [], length, take, ap, arith}
use Rattle.std.proofs.lemmas.List.{length-take-le}
use Rattle.std.proofs.KnownBytes.{Consumes-nil, Consumes-kept}
use Rattle.tach_media.specs.Medium.{Rose}
use Rattle.card_service.specs.Answering.{card_told}
use Rattle.card_service.proofs.Hearing.{caused_passed, caused_ended, caused_failed}
use Rattle.card_service.proofs.Turning.{Before, Streams, begun_so, turning_none, unbegun, none_asked, turning_on, told_on, told_now, part_so, served_done, served_broken, served_long, served_stopped}
use Rattle.card_service.proofs.serving.serve_card.Goals as goal

pub returns-in_err-reset-clause-served : goal.returns-in_err-reset-clause-served
returns-in_err-reset-clause-served g c =
    unbegun c.from_residual.result _ (record { chip = g.C.Chip.state c.args.chip.now; card = g.C.Chip.card c.args.chip.now }) (g.C.Chip.state c.reset.new.chip) (g.C.Chip.card c.reset.new.chip) (g.S.Source.left c.args.source.now) (g.K.Sink.held c.args.sink.now)
    c.from_residual.ensures.1 c.in_err-reset.ensures.err (begun_so (record { chip = g.C.Chip.state c.args.chip.now; card = g.C.Chip.card c.args.chip.now }) (g.C.Chip.state c.reset.new.chip) (g.C.Chip.card c.reset.new.chip) c.reset.ensures.image c.reset.ensures.clock c.reset.ensures.state) c.reset.ensures.moments

pub returns-in_err-reset-clause-cause : goal.returns-in_err-reset-clause-cause
returns-in_err-reset-clause-cause g c = caused_failed c.from_residual.result _ _ _ (Rose (g.C.Chip.state c.args.chip.now).faults (g.C.Chip.state c.reset.new.chip).faults) c.from_residual.ensures.1 c.in_err-reset.ensures.err c.in_err-reset.ensures.cause

pub returns-in_err-reset-clause-counts : goal.returns-in_err-reset-clause-counts
returns-in_err-reset-clause-counts g c = (omega arith, omega arith, c.reset.ensures.counts)

pub returns-in_err-reset-clause-in_time : goal.returns-in_err-reset-clause-in_time
returns-in_err-reset-clause-in_time g c =
    none_asked (record { chip = g.C.Chip.state c.args.chip.now; card = g.C.Chip.card c.args.chip.now }) (g.S.Source.left c.args.source.now) (g.K.Sink.held c.args.sink.now) (g.S.Peer.asked c.args.source.now)

pub loop-turn-init : goal.loop-turn-init
loop-turn-init g c =
    let new = g.C.Chip.state c.reset.new.chip in
    let after = g.C.Chip.card c.reset.new.chip in
    record {
      begun = card_told new after;
      turning = turning_none (record { chip = g.C.Chip.state c.args.chip.now; card = g.C.Chip.card c.args.chip.now }) c.new-gathering.result new after
          (record { left = g.S.Source.left c.args.source.now; held = g.K.Sink.held c.args.sink.now; asked = g.S.Peer.asked c.args.source.now }) c.new-gathering.ensures
          (begun_so (record { chip = g.C.Chip.state c.args.chip.now; card = g.C.Chip.card c.args.chip.now }) new after c.reset.ensures.image c.reset.ensures.clock c.reset.ensures.state) c.reset.ensures.moments;
      works = c.in_ok-reset.ensures.works;
      given = omega arith;
      taken = omega arith;
      failed = c.reset.ensures.counts;
    }

pub take_all-requires-clause-works : goal.take_all-requires-clause-works
take_all-requires-clause-works g c = c.loop-turn.invariant.works

pub take_all-requires-clause-part : goal.take_all-requires-clause-part
take_all-requires-clause-part g c = part_so c.loop-turn.invariant.turning

pub loop-turn-preserved : goal.loop-turn-preserved
loop-turn-preserved g c =
    let inv = c.loop-turn.invariant in
    let t = inv.turning in
    let e = c.in_ok-take_all.ensures in
    let held = g.K.Sink.held c.args.sink.now in
    let n = c.in-Ok.count in
    let bytes : List ℕ = take n c.read_after.new.buf in
    let within : n ≤ length c.read_after.new.buf = omega (arith, c.in-Ok.ensures.bound) in
    let long : length bytes ≡ n = length-take-le n c.read_after.new.buf within in
    let some : 0 < length bytes = omega (arith, long) in
    let next : Streams = record { left = g.S.Source.left c.read_after.new.self; held = g.K.Sink.held c.take_all.new.sink; asked = g.S.Peer.asked c.read_after.new.self } in
    record {
      begun = inv.begun;
      turning = turning_on t next c.take_all.new.gathering (g.C.Chip.state c.take_all.new.chip) (g.C.Chip.card c.take_all.new.chip) bytes
          c.in-Ok.ensures.asked c.in-Ok.ensures.bytes.0 some (e.goes inv.begun held t.came t.serving) (e.moments inv.begun held t.came t.serving);
      works = e.works;
      given = omega (arith, inv.given, c.in-Ok.ensures.cause.later);
      taken = omega (arith, inv.taken, e.counts.0);
      failed = omega (arith, inv.failed, e.counts.1);
    }

pub returns-in_err-take_all-clause-served : goal.returns-in_err-take_all-clause-served
returns-in_err-take_all-clause-served g c =
    let inv = c.loop-turn.invariant in
    let t = inv.turning in
    let held = g.K.Sink.held c.args.sink.now in
    let bytes : List ℕ = take c.in-Ok.count c.read_after.new.buf in
    served_stopped t c.from_residual-in_err-take_all.result _ (g.C.Chip.state c.take_all.new.chip) (g.C.Chip.card c.take_all.new.chip) (g.S.Source.left c.read_after.new.self) (g.K.Sink.held c.take_all.new.sink) bytes
    c.from_residual-in_err-take_all.ensures.1 c.in-Ok.ensures.bytes.0 (c.in_err-take_all.ensures.goes inv.begun held t.came t.serving) (c.take_all.ensures.moments inv.begun held t.came t.serving)

pub returns-in_err-take_all-clause-cause : goal.returns-in_err-take_all-clause-cause
returns-in_err-take_all-clause-cause g c =
    caused_passed c.from_residual-in_err-take_all.result _ ⊥ (Rose (g.S.Source.faults c.args.source.now) (g.S.Source.faults c.read_after.new.self)) (g.K.Sink.faults c.args.sink.now) (g.K.Sink.faults c.loop-turn.sink) (g.K.Sink.faults c.take_all.new.sink)
    (g.C.Chip.state c.args.chip.now).faults (g.C.Chip.state c.loop-turn.chip).faults (g.C.Chip.state c.take_all.new.chip).faults
    c.from_residual-in_err-take_all.ensures.1 (λ none. absurd none) c.loop-turn.invariant.taken c.loop-turn.invariant.failed c.in_err-take_all.ensures.cause

pub returns-in_err-take_all-clause-counts : goal.returns-in_err-take_all-clause-counts
returns-in_err-take_all-clause-counts g c =
    (omega (arith, c.loop-turn.invariant.given, c.in-Ok.ensures.cause.later), omega (arith, c.loop-turn.invariant.taken, c.in_err-take_all.ensures.counts.0), omega (arith, c.loop-turn.invariant.failed, c.in_err-take_all.ensures.counts.1))

pub returns-in_err-take_all-clause-in_time : goal.returns-in_err-take_all-clause-in_time
returns-in_err-take_all-clause-in_time g c =
    told_on c.loop-turn.invariant.turning (g.S.Peer.asked c.read_after.new.self) (g.S.Source.left c.read_after.new.self) (take c.in-Ok.count c.read_after.new.buf) c.in-Ok.ensures.asked c.in-Ok.ensures.bytes.0

pub returns-in_default-clause-served : goal.returns-in_default-clause-served
returns-in_default-clause-served g c =
    served_broken c.loop-turn.invariant.turning (g.S.Source.left c.read_after.new.self) c.in_default.ensures.bytes

pub returns-in_default-clause-cause : goal.returns-in_default-clause-cause
returns-in_default-clause-cause g c = omega (arith, c.loop-turn.invariant.given, c.in_default.ensures.cause.failed)

pub returns-in_default-clause-counts : goal.returns-in_default-clause-counts
returns-in_default-clause-counts g c = (omega (arith, c.loop-turn.invariant.given, c.in_default.ensures.cause.later), c.loop-turn.invariant.taken, c.loop-turn.invariant.failed)

pub returns-in_default-clause-in_time : goal.returns-in_default-clause-in_time
returns-in_default-clause-in_time g c =
    let before = g.S.Source.left c.loop-turn.source in
    let after = g.S.Source.left c.read_after.new.self in
    told_on c.loop-turn.invariant.turning (g.S.Peer.asked c.read_after.new.self) after [] c.in_default.ensures.asked (Consumes-kept before before after [] (Consumes-nil before) c.in_default.ensures.bytes)

pub returns-then-count-eq0-clause-served : goal.returns-then-count-eq0-clause-served
returns-then-count-eq0-clause-served g c =
    served_done c.loop-turn.invariant.turning c.ended.result (g.S.Source.left c.read_after.new.self) (take c.in-Ok.count c.read_after.new.buf)
    (ap (λ (n : ℕ). take n c.read_after.new.buf) c.if-count-eq0.true) c.in-Ok.ensures.bytes.0 c.ended.ensures.ok c.ended.ensures.err

pub returns-then-count-eq0-clause-cause : goal.returns-then-count-eq0-clause-cause
returns-then-count-eq0-clause-cause g c = caused_ended c.ended.result _ _ _ _ c.ended.ensures.err

pub returns-then-count-eq0-clause-counts : goal.returns-then-count-eq0-clause-counts
returns-then-count-eq0-clause-counts g c = (omega (arith, c.loop-turn.invariant.given, c.in-Ok.ensures.cause.later), c.loop-turn.invariant.taken, c.loop-turn.invariant.failed)

pub returns-then-count-eq0-clause-in_time : goal.returns-then-count-eq0-clause-in_time
returns-then-count-eq0-clause-in_time g c =
    told_on c.loop-turn.invariant.turning (g.S.Peer.asked c.read_after.new.self) (g.S.Source.left c.read_after.new.self) (take c.in-Ok.count c.read_after.new.buf) c.in-Ok.ensures.asked c.in-Ok.ensures.bytes.0

pub returns-clause-served : goal.returns-clause-served
returns-clause-served g c =
    served_long c.loop-turn.invariant.turning (omega arith)

pub returns-clause-counts : goal.returns-clause-counts
returns-clause-counts g c = (c.loop-turn.invariant.given, c.loop-turn.invariant.taken, c.loop-turn.invariant.failed)

pub returns-clause-in_time : goal.returns-clause-in_time
returns-clause-in_time g c =
    told_now c.loop-turn.invariant.turning
