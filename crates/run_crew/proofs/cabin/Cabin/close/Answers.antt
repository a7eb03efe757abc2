use Rattle.std.proofs.Common.{None, subst, sym}
use Rattle.run_crew.specs.declared.cards.Cards.{Cards}
use Rattle.run_crew.specs.Cabin.{CabinIsSound}
use Rattle.run_crew.proofs.Moves.{close-stands}
use Rattle.run_crew.proofs.cabin.Cabin.close.Goals as goal

pub returns-clause-stands : goal.returns-clause-stands
returns-clause-stands c = λ from h.
    subst (λ (k : Cards). CabinIsSound from None (record { slots = c.args.self.now.slots; cards = k })) (sym c.take.ensures.left) (close-stands c.args.self.now c.args.card from h)
