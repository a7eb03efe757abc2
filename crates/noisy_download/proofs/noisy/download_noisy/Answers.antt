use Rattle.std.proofs.Common.{◌∙◌, Ok, Err, sym, ap, arith}
use Rattle.card_layout.specs.Fields.{IsBytes}
use Rattle.tach_media.proofs.Runs.{if_told}
use Rattle.unit_minutes.proofs.IfAny.{read_same}
use Rattle.unit_memory.proofs.Told.{carried}
use Rattle.unit_messages.proofs.Calls.{no_call, any_then}
use Rattle.link_session.specs.Told.{Knows}
use Rattle.link_session.proofs.IfAny.{same_size}
use Rattle.unit_download.specs.declared.fault.DownloadFault.TheVariants.{WriteFault}
use Rattle.unit_download.proofs.Faults.{fault_is, passed_reads}
use Rattle.noisy_download.proofs.Happening.{goes_then}
use Rattle.noisy_download.proofs.Underway.{done, memory_ended}
use Rattle.noisy_download.proofs.Rounds.{underway_none, underway_at, fresh_going, nothing_first, downloaded_passed, downloaded_at}
use Rattle.noisy_download.proofs.noisy.download_noisy.Goals as goal

pub returns-in_err-world-clause-downloaded : goal.returns-in_err-world-clause-downloaded
returns-in_err-world-clause-downloaded g c = nothing_first c.from_residual.result (g.U.Medium.state c.args.unit.now).image (g.K.Sink.held c.args.sink.now) c.args.wire.now c.from_residual.ensures.1 c.requires.fresh

pub loop-round-init : goal.loop-round-init
loop-round-init g c =
    let s = g.U.Medium.state c.args.unit.now in
    let whole = g.met.U.Medium.coherent c.args.unit.now in
    record {
      underway = underway_none s.image (g.K.Sink.held c.args.sink.now) c.in_ok-world.world c.args.wire.now c.in_ok-world.ensures c.requires.fresh (λ x told. omega (arith, whole.sized x told, c.requires.unit.sized, c.requires.unit.behind)) (if_told s.image IsBytes c.holds_bytes.ensures.told);
      going = fresh_going c.in_ok-world.world c.in_ok-world.ensures;
      reads = no_call s;
      counts = omega arith;
    }

pub round-requires-clause-unit : goal.round-requires-clause-unit
round-requires-clause-unit g c = same_size c.loop-round.invariant.reads ∙ c.requires.unit.sized

pub round-requires-clause-knows : goal.round-requires-clause-knows
round-requires-clause-knows g c = carried (λ x. Knows c.loop-round.noisy.world.unit.side x) (sym (read_same c.loop-round.invariant.reads)) c.loop-round.invariant.underway.knows

pub loop-round-preserved : goal.loop-round-preserved
loop-round-preserved g c =
    let inv = c.loop-round.invariant in
    let e = c.in_ok-round.ensures in
    let w = c.loop-round.noisy in
    let v = c.round.new.self in
    let held = g.K.Sink.held c.args.sink.now in
    record {
      underway =
          goes_then (g.U.Medium.state c.args.unit.now).image (g.U.Medium.state c.loop-round.unit).image held w.world v.world w.listed v.listed c.loop-round.wire c.round.new.wire (g.K.Sink.held c.loop-round.sink) (g.K.Sink.held c.round.new.sink) (Ok tt)
          (read_same inv.reads) inv.underway (λ first. e.goes held first);
      going = sym c.finished.ensures ∙ c.if-finished.false;
      reads = any_then inv.reads e.reads;
      counts = omega (arith, inv.counts, e.counts);
    }

pub returns-in_err-round-clause-downloaded : goal.returns-in_err-round-clause-downloaded
returns-in_err-round-clause-downloaded g c =
    let inv = c.loop-round.invariant in
    let r = c.from_residual-in_err-round in
    let w = c.loop-round.noisy in
    let image = (g.U.Medium.state c.args.unit.now).image in
    let next = (g.U.Medium.state c.loop-round.unit).image in
    let held = g.K.Sink.held c.args.sink.now in
    let sunk = g.K.Sink.held c.round.new.sink in
    downloaded_passed r.result _ image held sunk c.round.new.wire r.ensures.1
    (downloaded_at (Err _) image next held sunk c.round.new.wire (read_same inv.reads) (c.in_err-round.ensures.goes held (underway_at held w.world w.listed c.loop-round.wire (g.K.Sink.held c.loop-round.sink) image next (read_same inv.reads) inv.underway)))

pub returns-in_err-round-clause-cause : goal.returns-in_err-round-clause-cause
returns-in_err-round-clause-cause g c = λ is.
    omega (arith, c.loop-round.invariant.counts, c.in_err-round.ensures.cause (ap Err (fault_is c.from_residual-in_err-round.result _ WriteFault c.from_residual-in_err-round.ensures.1 is)))

pub returns-in_err-round-clause-unit : goal.returns-in_err-round-clause-unit
returns-in_err-round-clause-unit g c = passed_reads c.from_residual-in_err-round.result _ c.from_residual-in_err-round.ensures.1 (any_then c.loop-round.invariant.reads c.in_err-round.ensures.reads)

pub returns-then-finished-clause-downloaded : goal.returns-then-finished-clause-downloaded
returns-then-finished-clause-downloaded g c =
    let inv = c.loop-round.invariant in
    let e = c.in_ok-round.ensures in
    let w = c.loop-round.noisy in
    let v = c.round.new.self in
    let s = g.U.Medium.state c.args.unit.now in
    let held = g.K.Sink.held c.args.sink.now in
    let sunk = g.K.Sink.held c.round.new.sink in
    done s held v.world v.listed c.round.new.wire sunk
    (goes_then s.image (g.U.Medium.state c.loop-round.unit).image held w.world v.world w.listed v.listed c.loop-round.wire c.round.new.wire (g.K.Sink.held c.loop-round.sink) sunk (Ok tt) (read_same inv.reads) inv.underway (λ first. e.goes held first))
    (sym c.finished.ensures ∙ c.if-finished.true)

pub returns-then-finished-clause-counts : goal.returns-then-finished-clause-counts
returns-then-finished-clause-counts g c = omega (arith, c.loop-round.invariant.counts, c.in_ok-round.ensures.counts)

pub returns-then-finished-clause-unit : goal.returns-then-finished-clause-unit
returns-then-finished-clause-unit g c = any_then c.loop-round.invariant.reads c.in_ok-round.ensures.reads

pub returns-clause-downloaded : goal.returns-clause-downloaded
returns-clause-downloaded g c =
    let inv = c.loop-round.invariant in
    let w = c.loop-round.noisy in
    memory_ended (g.U.Medium.state c.args.unit.now) (g.K.Sink.held c.args.sink.now) w.world w.listed c.loop-round.wire (g.K.Sink.held c.loop-round.sink) inv.underway inv.going

pub returns-clause-unit : goal.returns-clause-unit
returns-clause-unit g c = c.loop-round.invariant.reads
