use Rattle.std.proofs.lemmas.Grind.{common_steps}
use Rattle.std.proofs.Common.{◌∙◌, refl, ap, subst, rules, arith}
use Rattle.tach_media.specs.Medium.{lent}
use Rattle.card_layout.specs.declared.files.Application.{Application}
use Rattle.card_commands.specs.Ports.{port_state}
use Rattle.card_session.specs.Inserting.{MayInsert}
use Rattle.worked_rows.proofs.Ports.{may_insert, sizes_told}
use Rattle.worked_rows.proofs.card.keeping.insert.Goals as goal

pub insert-requires-clause-card : goal.insert-requires-clause-card
insert-requires-clause-card g c = record {
  sizes = first_of (search rules, grind (arith, common_steps));
  card = subst (λ (p : Application). MayInsert p (port_state c.new-port.result.application (lent c.new-port.result.chip.ghost_name (g.C.Chip.state c.new-port.result.chip.now)))) c.new-port.ensures.sizes (may_insert c.new-port.result.sound);
  told =
      sizes_told c.in_ok-application.application (g.C.Chip.state c.args.card.now).image (g.C.Chip.state c.new-port.result.chip.now).image
      (ap (λ b. (g.C.Chip.state b.now).image) c.new-port.ensures.chip ∙ c.in_ok-application.ensures.reads.same refl) c.in_ok-application.ensures.judged;
}
