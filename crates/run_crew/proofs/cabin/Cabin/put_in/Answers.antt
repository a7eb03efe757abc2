use Rattle.std.proofs.Common.{None, inl, subst, sym}
use Rattle.card_slots.specs.Kept.{Kept, KnowsNewest}
use Rattle.run_crew.specs.Cabin.{CabinIsSound}
use Rattle.run_crew.proofs.Moves.{put-stands}
use Rattle.run_crew.proofs.cabin.Cabin.put_in.Goals as goal

pub put-requires : goal.put-requires
put-requires c = record { free = record { here = inl c.requires.empty; elsewhere = c.requires.elsewhere } }

pub returns-clause-stands : goal.returns-clause-stands
returns-clause-stands c = λ from h.
    subst (λ (s : Kept). CabinIsSound from None (record { slots = s; cards = c.args.self.now.cards })) (sym c.put.ensures.kept)
    (put-stands c.args.self.now c.args.slot c.args.card from c.requires.empty c.requires.elsewhere (subst KnowsNewest c.put.ensures.kept (c.put.ensures.newest h.newest)) h)
