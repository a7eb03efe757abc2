use Rattle.card_session.proofs.InsertingTaking.{recounted}
use Rattle.card_session.proofs.session.CardSession.recount.Goals as goal

pub returns-clause-session : goal.returns-clause-session
returns-clause-session c =
    let i = c.self.inside in
    recounted i.application i.days i.vehicles i.newest i.vehicle i.registration i.minute c.newest_minute-self-inside.result i.odometer c.args.self.now c.self.view_is c.tail.result c.tail.ensures.newest c.newest_minute-self-inside.ensures
