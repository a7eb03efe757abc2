use Rattle.std.proofs.Common.{ℕ, List, Option, Result, Err, IfSome, ap, subst, refl, ◌∙◌}
use Rattle.card_layout.specs.declared.files.Application.{Application}
use Rattle.card_layout.specs.Application.{application_in}
use Rattle.card_commands.specs.declared.loading.PortFault.{PortFault}
use Rattle.card_commands.specs.Ports.{IsJudged}
use Rattle.device_state.specs.Cards.{TellsCard}
use Rattle.device_state.proofs.card.card_state.Goals as goal

pub returns-in-Ok-clause-told : goal.returns-in-Ok-clause-told
returns-in-Ok-clause-told g c = subst (λ (o : Option (List ℕ)). IfSome o (TellsCard c.look_with.result)) (c.in-Ok.ensures.reads.same refl) c.look_with.ensures.told

pub returns-in-Err-BadApplication-clause-told : goal.returns-in-Err-BadApplication-clause-told
returns-in-Err-BadApplication-clause-told g c =
    let is = c.in-Err-BadApplication.is ∙ ap Err c.in-Err-BadApplication.field-0-is in
    subst (λ (r : Result Application PortFault). IfSome (g.C.Chip.state c.args.card.now).image (λ x. IsJudged (application_in x) r)) is c.read_sizes.ensures.judged
