use Rattle.std.proofs.Common.{rules, ◌≡◌, subst}
use Rattle.card_layout.specs.declared.files.Application.{Application}
use Rattle.tach_media.specs.Medium.{State, Reads, lent}
use Rattle.card_commands.specs.Ports.{port_state}
use Rattle.card_validity.specs.Faults.{has_failed}
use Rattle.card_session.specs.Sessions.{MayKeep}
use Rattle.device_calls.proofs.Ported.{may_keep_port, port_same, port_reads}
use Rattle.device_calls.proofs.calls.look_by.Goals as goal

pub look-requires-clause-fits : goal.look-requires-clause-fits
look-requires-clause-fits g c =
    (subst (λ (a : Application). MayKeep a (port_state c.resume-port.result.application (lent c.resume-port.result.chip.ghost_name (g.C.Chip.state c.resume-port.result.chip.now)))) c.resume-port.ensures.sizes (may_keep_port c.resume-port.result.sound)).fits

pub returns-clause-reads : goal.returns-clause-reads
returns-clause-reads g c =
    let name = c.resume-port.result.chip.ghost_name in
    let after = c.look.new.port.chip.ghost_name in
    let X = g.C.Chip.state c.resume-port.result.chip.now in
    let Y = g.C.Chip.state c.look.new.port.chip.now in
    let was : g.C.Chip.state c.resume-port.result.chip.now ≡ g.C.Chip.state c.args.card.now = search rules in
    let same = port_same c.resume-port.result.application c.look.new.port.application name after X Y c.look.ensures.reads.leaves in
    let run = port_reads c.resume-port.result.application c.look.new.port.application name after X Y same c.look.ensures.reads in
    let moved = subst (λ (s : State). Reads s (g.C.Chip.state c.look.new.port.chip.now) (has_failed c.look.result)) was run in
    search (rules, moved)
