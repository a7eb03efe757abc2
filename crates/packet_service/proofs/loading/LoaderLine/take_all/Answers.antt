use Rattle.std.proofs.Common.{◌<◌, ◌≤◌, ◌++◌, ℕ, List, length, take, sym, subst, append-nil, arith}
use Rattle.std.proofs.lemmas.List.{take_all}
use Rattle.packet_service.specs.Loading.{Sinks, IsLoading}
use Rattle.packet_service.proofs.Answering.{one_more}
use Rattle.packet_service.proofs.Taking.{all_refused}
use Rattle.packet_service.proofs.Hearing.{caused_passed}
use Rattle.packet_service.proofs.loading.LoaderLine.take_all.Goals as goal

pub loop-byte-init : goal.loop-byte-init
loop-byte-init g c =
    let line = c.args.self.now in
    let sunk : Sinks = record { link = g.K.Sink.held c.args.link.now; file = g.F.Sink.held c.args.file.now } in
    record {
      goes = λ held came s. subst (λ (l : List ℕ). IsLoading l line.gathering line.end held sunk) (sym (append-nil came)) s;
      part = c.requires.part;
      link = omega arith;
      file = omega arith;
    }

pub take-requires : goal.take-requires
take-requires g c = record { part = c.loop-byte.invariant.part }

pub loop-byte-preserved : goal.loop-byte-preserved
loop-byte-preserved g c =
    let inv = c.loop-byte.invariant in
    let e = c.in_ok-take.ensures in
    let next = c.take.new.self in
    let filled : Sinks = record { link = g.K.Sink.held c.take.new.link; file = g.F.Sink.held c.take.new.file } in
    let bytes = c.args.bytes.now in
    let i = c.loop-byte.byte-index in
    let under : i < length bytes = omega arith in
    record {
      goes = λ held came s. subst (λ (l : List ℕ). IsLoading l next.gathering next.end held filled) (one_more came bytes i under) (e.goes held (came ++ take i bytes) (inv.goes held came s));
      part = e.part;
      link = omega (arith, inv.link, e.counts.0);
      file = omega (arith, inv.file, e.counts.1);
    }

pub returns-in_err-take-clause-goes : goal.returns-in_err-take-clause-goes
returns-in_err-take-clause-goes g c = λ held came s.
    let next = c.take.new.self in
    let filled : Sinks = record { link = g.K.Sink.held c.take.new.link; file = g.F.Sink.held c.take.new.file } in
    let bytes = c.args.bytes.now in
    let i = c.loop-byte.byte-index in
    let under : i < length bytes = omega arith in
    all_refused c.from_residual.result _ came bytes i next.gathering next.end held filled c.from_residual.ensures.1 under (c.in_err-take.ensures.goes held (came ++ take i bytes) (c.loop-byte.invariant.goes held came s))

pub returns-in_err-take-clause-cause : goal.returns-in_err-take-clause-cause
returns-in_err-take-clause-cause g c =
    caused_passed c.from_residual.result _ ⊥ ⊥ (g.K.Sink.faults c.args.link.now) (g.K.Sink.faults c.loop-byte.link) (g.K.Sink.faults c.take.new.link) (g.F.Sink.faults c.args.file.now) (g.F.Sink.faults c.loop-byte.file) (g.F.Sink.faults c.take.new.file)
    c.from_residual.ensures.1 (λ none. none) c.loop-byte.invariant.link c.loop-byte.invariant.file c.in_err-take.ensures.cause

pub returns-in_err-take-clause-counts : goal.returns-in_err-take-clause-counts
returns-in_err-take-clause-counts g c = (omega (arith, c.loop-byte.invariant.link, c.in_err-take.ensures.counts.0), omega (arith, c.loop-byte.invariant.file, c.in_err-take.ensures.counts.1))

pub returns-clause-goes : goal.returns-clause-goes
returns-clause-goes g c = λ held came s.
    let line = c.loop-byte.self in
    let sunk : Sinks = record { link = g.K.Sink.held c.loop-byte.link; file = g.F.Sink.held c.loop-byte.file } in
    let bytes = c.args.bytes.now in
    let i = c.loop-byte.byte-index in
    let over : length bytes ≤ i = omega arith in
    subst (λ (l : List ℕ). IsLoading (came ++ l) line.gathering line.end held sunk) (take_all i bytes over) (c.loop-byte.invariant.goes held came s)

pub returns-clause-part : goal.returns-clause-part
returns-clause-part g c = c.loop-byte.invariant.part

pub returns-clause-counts : goal.returns-clause-counts
returns-clause-counts g c = (c.loop-byte.invariant.link, c.loop-byte.invariant.file)
