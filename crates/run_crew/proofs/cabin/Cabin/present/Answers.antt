use Rattle.run_crew.proofs.Moves.{present-found}
use Rattle.run_crew.proofs.cabin.Cabin.present.Goals as goal

pub returns-clause-stands : goal.returns-clause-stands
returns-clause-stands c = λ from leaving late h.
    present-found from c.args.self.now.slots.minute c.args.self.now.cards c.args.minute c.present.result c.args.self.now.slots.past late h.hands h.past c.present.ensures.kept
