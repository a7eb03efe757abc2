use Rattle.std.proofs.Common.{◌≡◌, ◌≤◌, ◌<◌, ℕ, List, [], length, take, ◌∙◌, refl, sym, ap, arith}
use Rattle.std.proofs.lemmas.List.{length-take-le}
use Rattle.std.proofs.KnownBytes.{Consumes-nil, Consumes-kept}
use Rattle.tach_media.specs.Medium.{Rose}
use Rattle.noisy_link.proofs.Stepping.{ok_so}
use Rattle.packet_service.specs.Loading.{Sinks}
use Rattle.packet_service.proofs.Taking.{loading_none}
use Rattle.packet_service.proofs.LoadTurning.{load_turning_none, load_turning_on, part_loading, link_told, link_told_now, load_broken, load_ended, load_long, load_done, load_stopped, load_unbegun, load_roomless, none_asked}
use Rattle.packet_service.proofs.Hearing.{caused_passed, caused_first}
use Rattle.packet_service.proofs.loading.download_packets.Goals as goal

pub returns-then-is_err-clause-loaded : goal.returns-then-is_err-clause-loaded
returns-then-is_err-clause-loaded g c = load_roomless (g.S.Source.left c.args.source.now) (record { link = g.K.Sink.held c.args.link.now; file = g.F.Sink.held c.args.file.now })

pub returns-then-is_err-clause-in_time : goal.returns-then-is_err-clause-in_time
returns-then-is_err-clause-in_time g c = none_asked (g.S.Source.left c.args.source.now) (g.K.Sink.held c.args.link.now) (g.S.Peer.asked c.args.source.now)

pub returns-in_err-send-clause-loaded : goal.returns-in_err-send-clause-loaded
returns-in_err-send-clause-loaded g c =
    let held : Sinks = record { link = g.K.Sink.held c.args.link.now; file = g.F.Sink.held c.args.file.now } in
    let sunk : Sinks = record { link = g.K.Sink.held c.send.new.link; file = g.F.Sink.held c.args.file.now } in
    load_unbegun c.from_residual.result _ c.reserve.new.self (g.S.Source.left c.args.source.now) held sunk _ c.from_residual.ensures.1 (c.reserve.ensures.number ∙ c.new.ensures.number) (c.reserve.ensures.stays ∙ c.new.ensures.begun) refl c.in_err-send.ensures.err

pub returns-in_err-send-clause-in_time : goal.returns-in_err-send-clause-in_time
returns-in_err-send-clause-in_time g c = none_asked (g.S.Source.left c.args.source.now) (g.K.Sink.held c.args.link.now) (g.S.Peer.asked c.args.source.now)

pub returns-in_err-send-clause-cause : goal.returns-in_err-send-clause-cause
returns-in_err-send-clause-cause g c =
    caused_first c.from_residual.result _ _ (Rose (g.K.Sink.faults c.args.link.now) (g.K.Sink.faults c.send.new.link)) (Rose (g.S.Source.faults c.args.source.now) (g.S.Source.faults c.args.source.now))
    (Rose (g.F.Sink.faults c.args.file.now) (g.F.Sink.faults c.args.file.now)) c.from_residual.ensures.1 c.in_err-send.ensures.err

pub returns-in_err-send-clause-counts : goal.returns-in_err-send-clause-counts
returns-in_err-send-clause-counts g c = (omega arith, c.in_err-send.ensures.counts, omega arith)

pub loop-turn-init : goal.loop-turn-init
loop-turn-init g c =
    let held : Sinks = record { link = g.K.Sink.held c.args.link.now; file = g.F.Sink.held c.args.file.now } in
    let sunk : Sinks = record { link = g.K.Sink.held c.send.new.link; file = g.F.Sink.held c.args.file.now } in
    let line = c.reserve.new.self in
    record {
      turning = load_turning_none (g.S.Source.left c.args.source.now) _ held sunk (g.S.Peer.asked c.args.source.now)
          (loading_none c.new-2.result line held sunk c.new-2.ensures (c.reserve.ensures.number ∙ c.new.ensures.number) (c.reserve.ensures.stays ∙ c.new.ensures.begun)
          (ok_so c.reserve.result (sym c.is_err.ensures.value ∙ c.if-is_err.false) c.reserve.ensures.room) c.in_ok-send.ensures.ok refl);
      given = omega arith;
      linked = omega (arith, c.send.ensures.counts);
      filed = omega arith;
    }

pub take_all-requires : goal.take_all-requires
take_all-requires g c = record { part = part_loading c.loop-turn.invariant.turning.loading }

pub loop-turn-preserved : goal.loop-turn-preserved
loop-turn-preserved g c =
    let inv = c.loop-turn.invariant in
    let t = inv.turning in
    let e = c.in_ok-take_all.ensures in
    let held : Sinks = record { link = g.K.Sink.held c.args.link.now; file = g.F.Sink.held c.args.file.now } in
    let filled : Sinks = record { link = g.K.Sink.held c.take_all.new.link; file = g.F.Sink.held c.take_all.new.file } in
    let n = c.in-Ok.count in
    let bytes : List ℕ = take n c.read_after.new.buf in
    let within : n ≤ length c.read_after.new.buf = omega (arith, c.in-Ok.ensures.bound) in
    let long : length bytes ≡ n = length-take-le n c.read_after.new.buf within in
    let some : 0 < length bytes = omega (arith, long) in
    record {
      turning = load_turning_on t (g.S.Peer.asked c.read_after.new.self) (g.S.Source.left c.read_after.new.self) c.take_all.new.self filled bytes c.in-Ok.ensures.asked c.in-Ok.ensures.bytes.0 some (e.goes held t.came t.loading);
      given = omega (arith, inv.given, c.in-Ok.ensures.cause.later);
      linked = omega (arith, inv.linked, e.counts.0);
      filed = omega (arith, inv.filed, e.counts.1);
    }

pub returns-in_err-take_all-clause-loaded : goal.returns-in_err-take_all-clause-loaded
returns-in_err-take_all-clause-loaded g c =
    let t = c.loop-turn.invariant.turning in
    let held : Sinks = record { link = g.K.Sink.held c.args.link.now; file = g.F.Sink.held c.args.file.now } in
    let filled : Sinks = record { link = g.K.Sink.held c.take_all.new.link; file = g.F.Sink.held c.take_all.new.file } in
    let bytes : List ℕ = take c.in-Ok.count c.read_after.new.buf in
    load_stopped t c.from_residual-in_err-take_all.result _ (g.S.Source.left c.read_after.new.self) filled bytes c.from_residual-in_err-take_all.ensures.1 c.in-Ok.ensures.bytes.0 (c.in_err-take_all.ensures.goes held t.came t.loading)

pub returns-in_err-take_all-clause-in_time : goal.returns-in_err-take_all-clause-in_time
returns-in_err-take_all-clause-in_time g c =
    link_told c.loop-turn.invariant.turning (g.S.Peer.asked c.read_after.new.self) (g.S.Source.left c.read_after.new.self) (take c.in-Ok.count c.read_after.new.buf) c.in-Ok.ensures.asked c.in-Ok.ensures.bytes.0

pub returns-in_err-take_all-clause-cause : goal.returns-in_err-take_all-clause-cause
returns-in_err-take_all-clause-cause g c =
    let inv = c.loop-turn.invariant in
    caused_passed c.from_residual-in_err-take_all.result _ ⊥ (Rose (g.S.Source.faults c.args.source.now) (g.S.Source.faults c.read_after.new.self)) (g.K.Sink.faults c.args.link.now) (g.K.Sink.faults c.loop-turn.link) (g.K.Sink.faults c.take_all.new.link)
    (g.F.Sink.faults c.args.file.now) (g.F.Sink.faults c.loop-turn.file) (g.F.Sink.faults c.take_all.new.file) c.from_residual-in_err-take_all.ensures.1 (λ none. absurd none) inv.linked inv.filed c.in_err-take_all.ensures.cause

pub returns-in_err-take_all-clause-counts : goal.returns-in_err-take_all-clause-counts
returns-in_err-take_all-clause-counts g c =
    let inv = c.loop-turn.invariant in
    let e = c.in_err-take_all.ensures in
    (omega (arith, inv.given, c.in-Ok.ensures.cause.later), omega (arith, inv.linked, e.counts.0), omega (arith, inv.filed, e.counts.1))

pub returns-in_default-clause-in_time : goal.returns-in_default-clause-in_time
returns-in_default-clause-in_time g c =
    let before = g.S.Source.left c.loop-turn.source in
    let after = g.S.Source.left c.read_after.new.self in
    link_told c.loop-turn.invariant.turning (g.S.Peer.asked c.read_after.new.self) after [] c.in_default.ensures.asked (Consumes-kept before before after [] (Consumes-nil before) c.in_default.ensures.bytes)

pub returns-in_default-clause-cause : goal.returns-in_default-clause-cause
returns-in_default-clause-cause g c = omega (arith, c.loop-turn.invariant.given, c.in_default.ensures.cause.failed)

pub returns-in_default-clause-counts : goal.returns-in_default-clause-counts
returns-in_default-clause-counts g c = (omega (arith, c.loop-turn.invariant.given, c.in_default.ensures.cause.later), c.loop-turn.invariant.linked, c.loop-turn.invariant.filed)

pub returns-then-count-eq0-clause-counts : goal.returns-then-count-eq0-clause-counts
returns-then-count-eq0-clause-counts g c = (omega (arith, c.loop-turn.invariant.given, c.in-Ok.ensures.cause.later), c.loop-turn.invariant.linked, c.loop-turn.invariant.filed)

pub returns-then-is_finished-clause-loaded : goal.returns-then-is_finished-clause-loaded
returns-then-is_finished-clause-loaded g c =
    let t = c.loop-turn.invariant.turning in
    let e = c.in_ok-take_all.ensures in
    let held : Sinks = record { link = g.K.Sink.held c.args.link.now; file = g.F.Sink.held c.args.file.now } in
    let filled : Sinks = record { link = g.K.Sink.held c.take_all.new.link; file = g.F.Sink.held c.take_all.new.file } in
    let n = c.in-Ok.count in
    let bytes : List ℕ = take n c.read_after.new.buf in
    let within : n ≤ length c.read_after.new.buf = omega (arith, c.in-Ok.ensures.bound) in
    let long : length bytes ≡ n = length-take-le n c.read_after.new.buf within in
    let some : 0 < length bytes = omega (arith, long) in
    load_done (load_turning_on t (g.S.Peer.asked c.read_after.new.self) (g.S.Source.left c.read_after.new.self) c.take_all.new.self filled bytes c.in-Ok.ensures.asked c.in-Ok.ensures.bytes.0 some (e.goes held t.came t.loading))
    (sym c.is_finished.ensures ∙ c.if-is_finished.true)

pub returns-then-is_finished-clause-in_time : goal.returns-then-is_finished-clause-in_time
returns-then-is_finished-clause-in_time g c =
    link_told c.loop-turn.invariant.turning (g.S.Peer.asked c.read_after.new.self) (g.S.Source.left c.read_after.new.self) (take c.in-Ok.count c.read_after.new.buf) c.in-Ok.ensures.asked c.in-Ok.ensures.bytes.0

pub returns-then-is_finished-clause-counts : goal.returns-then-is_finished-clause-counts
returns-then-is_finished-clause-counts g c =
    let inv = c.loop-turn.invariant in
    let e = c.in_ok-take_all.ensures in
    (omega (arith, inv.given, c.in-Ok.ensures.cause.later), omega (arith, inv.linked, e.counts.0), omega (arith, inv.filed, e.counts.1))

pub returns-clause-counts : goal.returns-clause-counts
returns-clause-counts g c = (c.loop-turn.invariant.given, c.loop-turn.invariant.linked, c.loop-turn.invariant.filed)

pub returns-in_default-clause-loaded : goal.returns-in_default-clause-loaded
returns-in_default-clause-loaded g c = load_broken c.loop-turn.invariant.turning (g.S.Source.left c.read_after.new.self) c.in_default.ensures.bytes

pub returns-then-count-eq0-clause-loaded : goal.returns-then-count-eq0-clause-loaded
returns-then-count-eq0-clause-loaded g c =
    load_ended c.loop-turn.invariant.turning (g.S.Source.left c.read_after.new.self) (take c.in-Ok.count c.read_after.new.buf) (ap (λ (n : ℕ). take n c.read_after.new.buf) c.if-count-eq0.true) c.in-Ok.ensures.bytes.0
    (c.in-Ok.ensures.bytes.1 c.if-count-eq0.true (omega arith))

pub returns-then-count-eq0-clause-in_time : goal.returns-then-count-eq0-clause-in_time
returns-then-count-eq0-clause-in_time g c =
    link_told c.loop-turn.invariant.turning (g.S.Peer.asked c.read_after.new.self) (g.S.Source.left c.read_after.new.self) (take c.in-Ok.count c.read_after.new.buf) c.in-Ok.ensures.asked c.in-Ok.ensures.bytes.0

pub returns-clause-loaded : goal.returns-clause-loaded
returns-clause-loaded g c = load_long c.loop-turn.invariant.turning (omega arith)

pub returns-clause-in_time : goal.returns-clause-in_time
returns-clause-in_time g c = link_told_now c.loop-turn.invariant.turning
