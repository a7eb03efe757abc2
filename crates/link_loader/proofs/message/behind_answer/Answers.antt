use Rattle.std.proofs.Common.{subst, sym}
use Rattle.link_model.specs.declared.request.Request.{Request}
use Rattle.link_loader.specs.Loading.{IsAnswer}
use Rattle.link_loader.proofs.message.behind_answer.Goals as goal

pub returns-in-Overview-clause-next : goal.returns-in-Overview-clause-next
returns-in-Overview-clause-next c =
    let told = c.behind_overview.ensures.next c.args.end in
    (told.0, subst (λ (r : Request). IsAnswer r c.args.bytes.now told.0) (sym c.in-Overview.is) told.1, told.2)
