use Rattle.std.proofs.Common.{Some, subst, sym}
use Rattle.card_slots.specs.Kept.{Kept, KnowsNewest}
use Rattle.run_crew.specs.Cabin.{CabinIsSound}
use Rattle.run_crew.proofs.Moves.{leave-stands}
use Rattle.run_crew.proofs.cabin.Cabin.leave.Goals as goal

pub returns-clause-stands : goal.returns-clause-stands
returns-clause-stands c = λ from card is h.
    subst (λ (s : Kept). CabinIsSound from (Some card) (record { slots = s; cards = c.args.self.now.cards })) (sym c.take.ensures.kept)
    (leave-stands c.args.self.now c.args.slot c.args.second from card c.requires.minute is (subst KnowsNewest c.take.ensures.kept (c.take.ensures.newest h.newest)) h)
