use Rattle.std.proofs.Common.{None, subst, sym}
use Rattle.card_slots.specs.Kept.{Kept}
use Rattle.run_crew.specs.Cabin.{CabinIsSound}
use Rattle.run_crew.proofs.Moves.{new-stands}
use Rattle.run_crew.proofs.cabin.Cabin.new.Goals as goal

pub returns-clause-stands : goal.returns-clause-stands
returns-clause-stands c = λ from.
    subst (λ (s : Kept). CabinIsSound from None (record { slots = s; cards = record { a = c.args.a; b = c.args.b } })) (sym c.new.ensures.kept) (new-stands c.args.a c.args.b c.requires.a c.requires.b from)
