use Rattle.std.proofs.Common.{◌∙◌, sym, subst}
use Rattle.tach_media.specs.Medium.{lent}
use Rattle.card_layout.specs.declared.files.Application.{Application}
use Rattle.card_commands.specs.Ports.{port_state}
use Rattle.card_session.specs.Sessions.{MayKeep}
use Rattle.worked_rows.proofs.Ports.{may_keep}
use Rattle.worked_rows.proofs.card.keeping.keep.Goals as goal

pub keep-requires-clause-card : goal.keep-requires-clause-card
keep-requires-clause-card g c =
    subst (λ (p : Application). MayKeep p (port_state c.resume-port.result.application (lent c.resume-port.result.chip.ghost_name (g.C.Chip.state c.resume-port.result.chip.now)))) (c.resume-port.ensures.sizes ∙ sym c.requires.sizes) (may_keep c.resume-port.result.sound)
