use Rattle.std.proofs.lemmas.Grind.{common_steps}
use Rattle.std.proofs.Common.{rules, ◌≡◌, ◌≤◌, IfSome, sym, ◌∙◌, subst, arith}
use Rattle.activity_codec.specs.Activity.{activity_of}
use Rattle.card_layout.specs.Application.{IsApplication}
use Rattle.card_layout.specs.Files.{image_size_of}
use Rattle.card_layout.proofs.Sizes.{largest_image}
use Rattle.card_validity.specs.card_image.Own.{own_sizes}
use Rattle.card_layout.specs.declared.files.Application.{Application}
use Rattle.tach_media.specs.Medium.{lent}
use Rattle.card_commands.specs.Ports.{port_state}
use Rattle.card_session.specs.Sessions.{IsSession, MayClose}
use Rattle.device_calls.proofs.Enters.{take-out}
use Rattle.device_calls.proofs.Ported.{may_close_port}
use Rattle.device_calls.proofs.leaving.leave.Goals as goal

pub close-requires : goal.close-requires
close-requires g c = record {
  card = subst (λ (a : Application). MayClose a (port_state c.resume-port.result.application (lent c.resume-port.result.chip.ghost_name (g.C.Chip.state c.resume-port.result.chip.now)))) (c.resume-port.ensures.sizes ∙ sym c.requires.sizes)
      (may_close_port c.resume-port.result.sound);
}

pub returns-clause-closes : goal.returns-clause-closes
returns-clause-closes g c = record {
  closed = first_of (search rules, grind (arith, common_steps));
  moments = search rules;
}

pub returns-clause-rule : goal.returns-clause-rule
returns-clause-rule g c = λ r s due b marks time newest tells h none known rule.
    take-out r c.args.which s due b marks c.args.session (activity_of c.args.selected) time newest (subst IsApplication (sym c.requires.sizes) c.requires.port.good) (g.met.M.Medium.coherent c.args.unit.now) tells h none (g.met.C.Chip.coherent c.args.card.now)
    (subst (λ (a : Application). image_size_of a ≤ (g.C.Chip.state c.args.card.now).size) (sym c.requires.sizes) (omega (arith, largest_image c.args.app c.requires.port.good, c.requires.port.size)))
    (subst (λ (a : Application). IfSome (g.C.Chip.state c.args.card.now).image (λ x. (own_sizes x ≡ a) × IsSession c.args.session x)) (sym c.requires.sizes) known) (returns-clause-closes g c).moments rule

pub returns-clause-card : goal.returns-clause-card
returns-clause-card g c = record {
  port = first_of (search rules, grind (arith, common_steps));
  settled = first_of (search rules, grind (arith, common_steps));
  cause = first_of (search rules, grind (arith, common_steps));
}
