use Rattle.std.proofs.Common.{◌≡◌, ◌<◌, length, false, refl, ap, ◌∙◌, arith}
use Rattle.std.proofs.lemmas.List.{drop_more}
use Rattle.card_layout.specs.declared.files.Application.{Application}
use Rattle.card_layout.specs.Files.{files_of}
use Rattle.tach_media.proofs.Runs.{if_told, reads_then, no_reads}
use Rattle.card_image.specs.CardFile.{card_file}
use Rattle.card_download.proofs.Copying.{err_copies, begins, goes_on, ends_in}
use Rattle.card_download.proofs.files.copy_files.Goals as goal

sixteen : (app : Application) → length (files_of app) ≡ 16
unfolding files_of
sixteen app = refl

pub loop-file-init : goal.loop-file-init
loop-file-init g c = record {
  copied = begins c.args.app.now (g.M.Medium.state c.args.medium.now).image (g.K.Sink.held c.args.sink.now) c.files-file-items.result c.files-file-items.ensures.table;
  counts = omega arith;
  reads = no_reads (g.M.Medium.state c.args.medium.now) c.requires.works;
}

pub returns-in_err-copy_file-clause-copies : goal.returns-in_err-copy_file-clause-copies
returns-in_err-copy_file-clause-copies g c =
    let app = c.args.app.now in
    let items = c.files-file-items.result in
    let i = c.loop-file.file-index in
    let len : length items ≡ 16 = ap length c.files-file-items.ensures.table ∙ sixteen app in
    let below : i < length items = omega (arith, c.loop-file-test.true, len) in
    let h = g.K.Sink.held c.args.sink.now in
    let l = g.K.Sink.held c.copy_file.new.sink in
    if_told (g.M.Medium.state c.args.medium.now).image _ (λ x told.
    err_copies c.from_residual.result _ (card_file app x) h l c.from_residual.ensures.1
    (ends_in app (g.M.Medium.state c.args.medium.now).image (g.M.Medium.state c.loop-file.medium).image (c.loop-file.invariant.reads.same refl) _ _ _ (drop_more items i _ below)
    h (g.K.Sink.held c.loop-file.sink) l c.loop-file.invariant.copied c.in_err-copy_file.ensures.copies x told))

pub loop-file-preserved : goal.loop-file-preserved
loop-file-preserved g c =
    let app = c.args.app.now in
    let items = c.files-file-items.result in
    let i = c.loop-file.file-index in
    let len : length items ≡ 16 = ap length c.files-file-items.ensures.table ∙ sixteen app in
    let below : i < length items = omega (arith, c.loop-file-test.true, len) in
    let h = g.K.Sink.held c.args.sink.now in
    let l = g.K.Sink.held c.copy_file.new.sink in
    record {
      copied = goes_on app (g.M.Medium.state c.args.medium.now).image (g.M.Medium.state c.loop-file.medium).image (c.loop-file.invariant.reads.same refl) _ _ _ (drop_more items i _ below)
          h (g.K.Sink.held c.loop-file.sink) l c.loop-file.invariant.copied c.in_ok-copy_file.ensures.copies;
      counts = omega (arith, c.loop-file.invariant.counts, c.in_ok-copy_file.ensures.counts.later);
      reads = reads_then {failed = false} c.loop-file.invariant.reads c.in_ok-copy_file.ensures.reads;
    }
