use Rattle.std.proofs.Common.{◌≤◌, ◌∙◌, refl, ap, subst}
use Rattle.card_layout.specs.declared.files.Application.{Application}
use Rattle.card_layout.specs.Files.{image_size_of}
use Rattle.card_commands.specs.Ports.{port_state}
use Rattle.worked_rows.proofs.Ports.{fits, sizes_told}
use Rattle.worked_rows.proofs.card.keeping.open.Goals as goal

pub judge-requires-clause-fits : goal.judge-requires-clause-fits
judge-requires-clause-fits g c =
    subst (λ (p : Application). image_size_of p ≤ (port_state c.new-port.result.application (g.C.Chip.state c.new-port.result.chip.now)).size) c.new-port.ensures.sizes (fits c.new-port.result.sound)

pub judge-requires-clause-told : goal.judge-requires-clause-told
judge-requires-clause-told g c =
    sizes_told c.in_ok-application.application (g.C.Chip.state c.args.card.now).image (g.C.Chip.state c.new-port.result.chip.now).image
    (ap (λ b. (g.C.Chip.state b.now).image) c.new-port.ensures.chip ∙ c.in_ok-application.ensures.reads.same refl) c.in_ok-application.ensures.judged
