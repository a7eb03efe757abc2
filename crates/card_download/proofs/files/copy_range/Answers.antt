use Rattle.std.proofs.Common.{◌+◌, ◌≤◌, ◌∙◌, false, refl, arith}
use Rattle.std.specs.Io.KnownBytes.{Appends}
use Rattle.tach_media.specs.Medium.{bytes_at}
use Rattle.tach_media.specs.Streams.{AppendsFront}
use Rattle.tach_media.proofs.Runs.{at_image, if_told, reads_then}
use Rattle.card_download.proofs.Copying.{err_copies, range_on, range_cut}
use Rattle.card_download.proofs.files.copy_range.Goals as goal

pub returns-in_err-copy_block-clause-copies : goal.returns-in_err-copy_block-clause-copies
returns-in_err-copy_block-clause-copies g c =
    let base = c.args.range.base in
    let k = c.loop-done.done in
    let n = c.min-len.result in
    let h = g.K.Sink.held c.args.sink.now in
    let m = g.K.Sink.held c.loop-done.sink in
    let l = g.K.Sink.held c.copy_block.new.sink in
    let inside : k + n ≤ c.args.range.len = omega (arith, c.min-len.ensures, c.loop-done.invariant.inside) in
    if_told (g.M.Medium.state c.args.medium.now).image _ (λ x told.
    err_copies c.from_residual.result _ (bytes_at x base c.args.range.len) h l c.from_residual.ensures.1
    (range_cut x base k n h m l c.args.range.len inside
    (at_image (λ y. Appends h m (bytes_at y base k)) told c.loop-done.invariant.copied)
    (at_image (λ y. AppendsFront m l (bytes_at y (base + k) n)) (c.loop-done.invariant.reads.same refl ∙ told) c.in_err-copy_block.ensures.copies)))

pub loop-done-preserved : goal.loop-done-preserved
loop-done-preserved g c =
    let base = c.args.range.base in
    let k = c.loop-done.done in
    let n = c.min-len.result in
    let h = g.K.Sink.held c.args.sink.now in
    let m = g.K.Sink.held c.loop-done.sink in
    let l = g.K.Sink.held c.copy_block.new.sink in
    record {
      inside = omega (arith, c.min-len.ensures, c.loop-done.invariant.inside);
      copied = if_told (g.M.Medium.state c.args.medium.now).image _ (λ x told.
          range_on x base k n h m l
          (at_image (λ y. Appends h m (bytes_at y base k)) told c.loop-done.invariant.copied)
          (at_image (λ y. Appends m l (bytes_at y (base + k) n)) (c.loop-done.invariant.reads.same refl ∙ told) c.in_ok-copy_block.ensures.copies));
      counts = omega (arith, c.loop-done.invariant.counts, c.in_ok-copy_block.ensures.counts.later);
      reads = reads_then {failed = false} c.loop-done.invariant.reads c.in_ok-copy_block.ensures.reads;
    }
