use Rattle.std.proofs.Common.{◌+◌, None, subst, sym}
use Rattle.card_slots.specs.Kept.{Kept, KnowsNewest}
use Rattle.run_crew.specs.Cabin.{CabinIsSound, KnowsEnded}
use Rattle.run_crew.proofs.Moves.{end-stands}
use Rattle.run_crew.proofs.Ended.{ended-more}
use Rattle.run_crew.proofs.cabin.Cabin.end_minute.Goals as goal

pub returns-clause-stands : goal.returns-clause-stands
returns-clause-stands c = λ from early h.
    subst (λ (s : Kept). CabinIsSound from None (record { slots = s; cards = c.args.self.now.cards })) (sym c.end_minute.ensures.kept)
    (end-stands c.args.self.now c.args.minute from c.requires.minute early (subst KnowsNewest c.end_minute.ensures.kept (c.end_minute.ensures.newest h.newest)) h)

pub returns-clause-ended : goal.returns-clause-ended
returns-clause-ended c = λ from few h. subst (λ (s : Kept). KnowsEnded from (c.args.minute + 1) s) (sym c.end_minute.ensures.kept) (ended-more from c.args.minute c.args.self.now.slots few h)
