use Rattle.std.proofs.Common.{◌+◌, ◌≤◌, List, ℕ, length, subst, arith}
use Rattle.tach_media.specs.Medium.{bytes_at}
use Rattle.tach_media.specs.Streams.{AppendsFront}
use Rattle.tach_media.proofs.Runs.{at_image, if_told}
use Rattle.std.specs.Io.KnownBytes.{Appends}
use Rattle.card_download.specs.Copied.{Copies, file_part}
use Rattle.card_download.proofs.Copying.{err_copies, head_cut, head_then}
use Rattle.card_download.proofs.files.copy_file.Goals as goal

pub returns-in_err-put-clause-copies : goal.returns-in_err-put-clause-copies
returns-in_err-put-clause-copies g c =
    let app = c.args.app.now in
    let f = c.args.file in
    let range = c.file_of-range.result in
    let h = g.K.Sink.held c.args.sink.now in
    let k = g.K.Sink.held c.put.new.sink in
    if_told (g.M.Medium.state c.args.medium.now).image _ (λ x told.
    let fits : range.base + range.len ≤ length x = omega (arith, (g.met.M.Medium.coherent c.args.medium.now).sized x told, c.requires.size, c.file_of-range.ensures.inside) in
    err_copies c.from_residual.result _ (file_part app x f) h k c.from_residual.ensures.1
    (head_cut app x f range.base range.len c.if-file.false c.file_of-range.ensures.base c.file_of-range.ensures.len fits h k
    (subst (λ (b : List ℕ). AppendsFront h k b) c.head.ensures c.in_err-put.ensures.copies)))

pub returns-clause-copies : goal.returns-clause-copies
returns-clause-copies g c =
    let app = c.args.app.now in
    let f = c.args.file in
    let range = c.file_of-range.result in
    let h = g.K.Sink.held c.args.sink.now in
    let k = g.K.Sink.held c.put.new.sink in
    let l = g.K.Sink.held c.copy_range.new.sink in
    if_told (g.M.Medium.state c.args.medium.now).image _ (λ x told.
    let fits : range.base + range.len ≤ length x = omega (arith, (g.met.M.Medium.coherent c.args.medium.now).sized x told, c.requires.size, c.file_of-range.ensures.inside) in
    head_then app x f range.base range.len c.if-file.false c.file_of-range.ensures.base c.file_of-range.ensures.len fits c.copy_range.result h k l
    (subst (λ (b : List ℕ). Appends h k b) c.head.ensures c.in_ok-put.ensures.copies)
    (at_image (λ y. Copies c.copy_range.result (bytes_at y range.base range.len) k l) told c.copy_range.ensures.copies))
