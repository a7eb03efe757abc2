use Rattle.std.proofs.Common.{ℕ, ◌+◌, ◌-◌, ◌≤◌, ◌<◌, List, ◌∙◌, ap, subst, arith}
use Rattle.tach_media.specs.Medium.{put, most_writes}
use Rattle.tach_media.proofs.Ranges.{lies_still}
use Rattle.tach_media.proofs.Runs.{starts, goes_by, image_both, cause_after}
use Rattle.unit_model.specs.declared.layout.TheConstants.{IMAGE_SIZE}
use Rattle.unit_model.proofs.Sized.{unit_sized}
use Rattle.unit_model.specs.NewImage.{zeros}
use Rattle.unit_memory.proofs.Formatting.{idle, nothing_written, chunk_put, chunk_part, chunk_length, chunk_writes, chunks_left}
use Rattle.unit_memory.proofs.format.clear.Goals as goal

pub loop-at-init : goal.loop-at-init
loop-at-init g c = record {
  low = omega arith;
  high = omega (arith, c.requires.order);
  cleared = nothing_written c.args.from (c.args.from - c.args.from) (g.M.Medium.state c.args.unit.now).image (omega arith);
  moments = starts _ _;
  cause = idle _ c.requires.works;
  most = omega arith;
}

pub write_at-requires-clause-writable : goal.write_at-requires-clause-writable
write_at-requires-clause-writable g c =
    let size = c.min-size.result in
    let few : size ≤ 4096 = omega arith in
    let len = ap Rattle.std.proofs.Common.length (ap (Rattle.std.proofs.Common.take size) c.chunk-zeros.ensures) ∙ chunk_length size few in
    lies_still _ _ 0 IMAGE_SIZE _ _ c.loop-at.invariant.moments.writable (omega arith) (omega (arith, len, c.requires.inside, c.loop-at-test.true)) c.requires.unit.writable

pub returns-in_err-write_at-clause-moments : goal.returns-in_err-write_at-clause-moments
returns-in_err-write_at-clause-moments g c =
    let from = c.args.from in
    let at = c.loop-at.at in
    let was = c.loop-at.invariant in
    let size = c.min-size.result in
    let few : size ≤ 4096 = omega arith in
    goes_by (put from (zeros (at - from))) was.moments was.cleared c.write_at.ensures.moments (λ x d is part.
    chunk_part from (c.args.to - from) (at - from) size at x (omega (arith, was.low)) (omega (arith, was.low, was.high)) few (omega (arith, c.requires.order))
    (omega (arith, c.requires.order, c.requires.inside, unit_sized (g.met.M.Medium.coherent c.args.unit.now) c.requires.unit x is)) d
    (subst (λ (l : List ℕ). Rattle.tach_media.specs.Medium.IsPartlyWritten at (Rattle.std.proofs.Common.take size l) (put from (zeros (at - from)) x) d) c.chunk-zeros.ensures part))

pub loop-at-preserved : goal.loop-at-preserved
loop-at-preserved g c =
    let from = c.args.from in
    let at = c.loop-at.at in
    let was = c.loop-at.invariant in
    let size = c.min-size.result in
    let few : size ≤ 4096 = omega arith in
    record {
      low = omega (arith, was.low);
      high = omega (arith, was.high, c.loop-at-test.true);
      cleared = image_both (g.M.Medium.state c.args.unit.now).image _ _ (put from (zeros (at - from))) (put at (Rattle.std.proofs.Common.take size c.chunk-zeros.result)) (put from (zeros (at + size - from))) was.cleared c.in_ok-write_at.ensures.written (λ x is.
          ap (λ (l : List ℕ). put at (Rattle.std.proofs.Common.take size l) (put from (zeros (at - from)) x)) c.chunk-zeros.ensures
          ∙ chunk_put from (c.args.to - from) (at - from) size at x (omega (arith, was.low)) (omega (arith, was.low, was.high)) few (omega (arith, c.requires.order))
          (omega (arith, c.requires.order, c.requires.inside, unit_sized (g.met.M.Medium.coherent c.args.unit.now) c.requires.unit x is))
          ∙ ap (λ (n : ℕ). put from (zeros n) x) (omega (arith, was.low)));
      moments = goes_by (put from (zeros (at - from))) was.moments was.cleared c.write_at.ensures.moments (λ x d is part.
          chunk_part from (c.args.to - from) (at - from) size at x (omega (arith, was.low)) (omega (arith, was.low, was.high)) few (omega (arith, c.requires.order))
          (omega (arith, c.requires.order, c.requires.inside, unit_sized (g.met.M.Medium.coherent c.args.unit.now) c.requires.unit x is)) d
          (subst (λ (l : List ℕ). Rattle.tach_media.specs.Medium.IsPartlyWritten at (Rattle.std.proofs.Common.take size l) (put from (zeros (at - from)) x) d) c.chunk-zeros.ensures part));
      cause = cause_after was.cause c.in_ok-write_at.ensures.cause;
      most =
          let len = ap Rattle.std.proofs.Common.length (ap (Rattle.std.proofs.Common.take size) c.chunk-zeros.ensures) ∙ chunk_length size few in
          let more : (g.M.Medium.state c.write_at.new.self).clock ≤ (g.M.Medium.state c.loop-at.unit).clock + most_writes size =
          subst (λ (n : ℕ). (g.M.Medium.state c.write_at.new.self).clock ≤ (g.M.Medium.state c.loop-at.unit).clock + most_writes n) len c.write_at.ensures.few in
          let one = chunk_writes size few in
          let test : at < c.args.to = omega (arith, c.loop-at-test.true) in
          let less = chunks_left c.args.to at size test (omega (arith, c.min-size.ensures)) in
          let most = was.most in
          omega (arith, more, one, less, most);
    }

pub returns-in_err-write_at-clause-most : goal.returns-in_err-write_at-clause-most
returns-in_err-write_at-clause-most g c =
    let size = c.min-size.result in
    let few : size ≤ 4096 = omega arith in
    let len = ap Rattle.std.proofs.Common.length (ap (Rattle.std.proofs.Common.take size) c.chunk-zeros.ensures) ∙ chunk_length size few in
    let more : (g.M.Medium.state c.write_at.new.self).clock ≤ (g.M.Medium.state c.loop-at.unit).clock + most_writes size =
    subst (λ (n : ℕ). (g.M.Medium.state c.write_at.new.self).clock ≤ (g.M.Medium.state c.loop-at.unit).clock + most_writes n) len c.write_at.ensures.few in
    let one = chunk_writes size few in
    let test : c.loop-at.at < c.args.to = omega (arith, c.loop-at-test.true) in
    let less = chunks_left c.args.to c.loop-at.at size test (omega (arith, c.min-size.ensures)) in
    let most = c.loop-at.invariant.most in
    omega (arith, more, one, less, most)

pub returns-clause-most : goal.returns-clause-most
returns-clause-most g c = let most = c.loop-at.invariant.most in omega (arith, most)
