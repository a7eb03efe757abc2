use Rattle.link_loader.proofs.Behind.{overview_next}
use Rattle.link_loader.proofs.message.behind_overview.Goals as goal

pub returns-clause-next : goal.returns-clause-next
returns-clause-next c = λ end.
    (c.requires.0, c.requires.1, overview_next c.args.bytes.now end c.requires.0 c.overview-told.result c.first_day-stage.result c.requires.1 c.overview-told.ensures c.first_day-stage.ensures.stage)
