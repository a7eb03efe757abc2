use Rattle.std.proofs.Common.{◌<◌, ◌≤◌, ◌+◌, ◌++◌, ℕ, List, length, take, sym, subst, append-nil, arith}
use Rattle.std.proofs.lemmas.List.{take_all}
use Rattle.card_service.specs.Answering.{card_told}
use Rattle.card_service.specs.Serving.{IsServing}
use Rattle.tach_media.proofs.Runs.{starts, weaken, goes_on}
use Rattle.card_service.proofs.Answering.{one_more, all_stopped, leaves_next, leaves_last, leaves_all}
use Rattle.card_service.proofs.Hearing.{caused_passed}
use Rattle.card_service.proofs.serving.take_all.Goals as goal

pub loop-byte-init : goal.loop-byte-init
loop-byte-init g c =
    let card = card_told (g.C.Chip.state c.args.chip.now) (g.C.Chip.card c.args.chip.now) in
    let sunk = g.K.Sink.held c.args.sink.now in
    record {
      goes = λ begun held came s. subst (λ (l : List ℕ). IsServing begun l c.args.gathering.now card held sunk) (sym (append-nil came)) s;
      moments = λ begun held came s. starts (g.C.Chip.state c.args.chip.now) _;
      works = c.requires.works;
      part = c.requires.part;
      counts = omega arith;
      failed = omega arith;
    }

pub take-requires-clause-works : goal.take-requires-clause-works
take-requires-clause-works g c = c.loop-byte.invariant.works

pub take-requires-clause-part : goal.take-requires-clause-part
take-requires-clause-part g c = c.loop-byte.invariant.part

pub loop-byte-preserved : goal.loop-byte-preserved
loop-byte-preserved g c =
    let inv = c.loop-byte.invariant in
    let e = c.in_ok-take.ensures in
    let next = card_told (g.C.Chip.state c.take.new.chip) (g.C.Chip.card c.take.new.chip) in
    let filled = g.K.Sink.held c.take.new.sink in
    let bytes = c.args.bytes.now in
    let i = c.loop-byte.byte-index in
    let under : i < length bytes = omega arith in
    record {
      goes = λ begun held came s.
          subst (λ (l : List ℕ). IsServing begun l c.take.new.gathering next held filled) (one_more came bytes i under) (e.goes begun held (came ++ take i bytes) (inv.goes begun held came s));
      moments = λ begun held came s.
          goes_on (weaken (inv.moments begun held came s) (λ x d was here. leaves_next begun came bytes i d under here)) (e.moments begun held (came ++ take i bytes) (inv.goes begun held came s))
          (λ x y d was is here. leaves_last begun came bytes i d under here);
      works = e.works;
      part = e.part;
      counts = omega (arith, inv.counts, e.counts.0);
      failed = omega (arith, inv.failed, e.counts.1);
    }

pub returns-in_err-take-clause-goes : goal.returns-in_err-take-clause-goes
returns-in_err-take-clause-goes g c = λ begun held came s.
    let inv = c.loop-byte.invariant in
    let next = card_told (g.C.Chip.state c.take.new.chip) (g.C.Chip.card c.take.new.chip) in
    let bytes = c.args.bytes.now in
    let i = c.loop-byte.byte-index in
    let under : i < length bytes = omega arith in
    all_stopped c.from_residual.result _ begun came bytes i c.take.new.gathering next held (g.K.Sink.held c.take.new.sink) c.from_residual.ensures.1 under (c.in_err-take.ensures.goes begun held (came ++ take i bytes) (inv.goes begun held came s))

pub returns-in_err-take-clause-moments : goal.returns-in_err-take-clause-moments
returns-in_err-take-clause-moments g c = λ begun held came s.
    let inv = c.loop-byte.invariant in
    let bytes = c.args.bytes.now in
    let i = c.loop-byte.byte-index in
    let under : i < length bytes = omega arith in
    goes_on (weaken (inv.moments begun held came s) (λ x d was here. leaves_all begun came bytes i d here)) (c.take.ensures.moments begun held (came ++ take i bytes) (inv.goes begun held came s))
    (λ x y d was is here. leaves_all begun came bytes (i + 1) d (leaves_last begun came bytes i d under here))

pub returns-in_err-take-clause-cause : goal.returns-in_err-take-clause-cause
returns-in_err-take-clause-cause g c =
    caused_passed c.from_residual.result _ ⊥ ⊥ (g.K.Sink.faults c.args.sink.now) (g.K.Sink.faults c.loop-byte.sink) (g.K.Sink.faults c.take.new.sink)
    (g.C.Chip.state c.args.chip.now).faults (g.C.Chip.state c.loop-byte.chip).faults (g.C.Chip.state c.take.new.chip).faults
    c.from_residual.ensures.1 (λ none. none) c.loop-byte.invariant.counts c.loop-byte.invariant.failed c.in_err-take.ensures.cause

pub returns-in_err-take-clause-counts : goal.returns-in_err-take-clause-counts
returns-in_err-take-clause-counts g c = (omega (arith, c.loop-byte.invariant.counts, c.in_err-take.ensures.counts.0), omega (arith, c.loop-byte.invariant.failed, c.in_err-take.ensures.counts.1))

pub returns-clause-goes : goal.returns-clause-goes
returns-clause-goes g c = λ begun held came s.
    let now = card_told (g.C.Chip.state c.loop-byte.chip) (g.C.Chip.card c.loop-byte.chip) in
    let bytes = c.args.bytes.now in
    let i = c.loop-byte.byte-index in
    let over : length bytes ≤ i = omega arith in
    subst (λ (l : List ℕ). IsServing begun (came ++ l) c.loop-byte.gathering now held (g.K.Sink.held c.loop-byte.sink)) (take_all i bytes over) (c.loop-byte.invariant.goes begun held came s)

pub returns-clause-moments : goal.returns-clause-moments
returns-clause-moments g c = λ begun held came s.
    weaken (c.loop-byte.invariant.moments begun held came s) (λ x d was here. leaves_all begun came c.args.bytes.now c.loop-byte.byte-index d here)

pub returns-clause-works : goal.returns-clause-works
returns-clause-works g c = c.loop-byte.invariant.works

pub returns-clause-part : goal.returns-clause-part
returns-clause-part g c = c.loop-byte.invariant.part

pub returns-clause-counts : goal.returns-clause-counts
returns-clause-counts g c = (c.loop-byte.invariant.counts, c.loop-byte.invariant.failed)
