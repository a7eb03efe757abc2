use Rattle.std.proofs.Common.{◌≡◌, ◌∙◌, refl}
use Rattle.card_download.proofs.Loading.{port_fits, written, written_in_part}
use Rattle.card_download.proofs.card.write_card_file.Goals as goal

pub copy_files-requires-clause-size : goal.copy_files-requires-clause-size
copy_files-requires-clause-size g c = port_fits c.new-port.result.sound c.new-port.ensures.sizes

pub returns-in_err-copy_files-clause-writes : goal.returns-in_err-copy_files-clause-writes
returns-in_err-copy_files-clause-writes g c =
    let lent : (g.C.Chip.state c.new-port.result.chip.now).image ≡ (g.C.Chip.state c.read_sizes.new.chip).image = rw c.new-port.ensures.chip refl in
    written_in_part (g.C.Chip.state c.args.card.now).image (g.C.Chip.state c.new-port.result.chip.now).image (lent ∙ c.in_ok-app.ensures.reads.same refl) _
    (g.K.Sink.held c.args.sink.now) (g.K.Sink.held c.copy_files.new.sink) c.in_ok-app.ensures.judged c.from_residual-in_err-copy_files.result _ c.from_residual-in_err-copy_files.ensures.1 c.in_err-copy_files.ensures.copies

pub returns-clause-writes : goal.returns-clause-writes
returns-clause-writes g c =
    let lent : (g.C.Chip.state c.new-port.result.chip.now).image ≡ (g.C.Chip.state c.read_sizes.new.chip).image = rw c.new-port.ensures.chip refl in
    written (g.C.Chip.state c.args.card.now).image (g.C.Chip.state c.new-port.result.chip.now).image (lent ∙ c.in_ok-app.ensures.reads.same refl) _
    (g.K.Sink.held c.args.sink.now) (g.K.Sink.held c.copy_files.new.sink) c.in_ok-app.ensures.judged c.in_ok-copy_files.ensures.copies
