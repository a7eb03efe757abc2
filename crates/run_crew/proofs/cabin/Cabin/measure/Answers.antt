use Rattle.std.proofs.Common.{subst, sym}
use Rattle.run_crew.specs.declared.cards.Cards.{Cards}
use Rattle.run_crew.specs.Cabin.{CabinIsSound}
use Rattle.run_crew.proofs.Moves.{measure-stands}
use Rattle.run_crew.proofs.cabin.Cabin.measure.Goals as goal

pub returns-clause-stands : goal.returns-clause-stands
returns-clause-stands c = λ from leaving h.
    subst (λ (k : Cards). CabinIsSound from leaving (record { slots = c.args.self.now.slots; cards = k })) (sym c.measure.ensures) (measure-stands c.args.self.now c.args.card c.args.sizes from leaving c.requires.bare h)
