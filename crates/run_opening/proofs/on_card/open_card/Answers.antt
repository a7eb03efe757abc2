use Rattle.std.proofs.Common.{Result, Err, IfSome, ap, subst, sym, ◌∙◌}
use Rattle.card_layout.specs.declared.files.Application.{Application}
use Rattle.card_layout.specs.Application.{application_in}
use Rattle.card_commands.specs.declared.loading.PortFault.{PortFault}
use Rattle.card_commands.specs.Ports.{IsJudged, has_failed}
use Rattle.run_crew.specs.declared.cards.Known.{Known}
use Rattle.run_opening.specs.Cards.{IsFoundOn}
use Rattle.run_opening.proofs.Told.{found-bad}
use Rattle.run_opening.proofs.on_card.open_card.Goals as goal

pub returns-in-Err-BadApplication-clause-found : goal.returns-in-Err-BadApplication-clause-found
returns-in-Err-BadApplication-clause-found g c =
    let X = g.C.Chip.state c.revive.new.self in
    let Y = g.C.Chip.state c.read_sizes.new.chip in
    let is = c.in-Err-BadApplication.is ∙ ap Err c.in-Err-BadApplication.field-0-is in
    let same = c.read_sizes.ensures.reads.same (ap (λ (r : Result Application PortFault). has_failed r) is) in
    let bad = subst (λ (r : Result Application PortFault). IfSome X.image (λ x. IsJudged (application_in x) r)) is c.read_sizes.ensures.judged in
    subst (λ (k : Known). IsFoundOn k (g.C.Chip.card c.read_sizes.new.chip) Y) (sym c.without_number.ensures) (found-bad c.in-Err-BadApplication.field (g.C.Chip.card c.read_sizes.new.chip) X Y same bad)
