use Rattle.std.proofs.lemmas.Grind.{common_steps}
use Rattle.std.proofs.Common.{arith, rules, ◌∙◌, ap}
use Rattle.std.specs.Prelude.{None, not}
use Rattle.tach_media.proofs.Runs.{on_ok}
use Rattle.run_crew.specs.declared.cabin.Cabin.{Cabin}
use Rattle.run_crew.specs.Cards.{known_of}
use Rattle.run_minutes.proofs.Units.{unit-stays, agrees-noted, has-row, row-noted}
use Rattle.run_minutes.proofs.Sessions.{number-set, row-set}
use Rattle.run_minutes.proofs.keeper.Keeper.tear.Goals as goal

pub returns-clause-torn : goal.returns-clause-torn
returns-clause-torn g c = record {
  keeper = first_of (search rules, grind (arith, common_steps));
  told = first_of (search rules, grind (arith, common_steps));
}

pub returns-clause-behind : goal.returns-clause-behind
returns-clause-behind g c = record {
  ready =
      on_ok c.note_fault.result (λ well. record {
        is_unit = unit-stays c.note_fault.ensures.journal c.requires.ready.is_unit;
        works = c.note_fault.ensures.cause.works ∙ ap not well;
        agrees = agrees-noted (g.met.M.Medium.coherent c.args.unit.now) (g.met.M.Medium.coherent c.note_fault.new.unit) c.requires.ready.works c.note_fault.ensures.journal c.args.self.now.journal c.requires.ready.agrees;
      });
  rows =
      λ card h.
      let cards = c.args.self.now.cabin.cards in
      on_ok c.note_fault.result (λ well. has-row cards c.tear.new.self.cards (g.M.Medium.state c.args.unit.now) (g.M.Medium.state c.note_fault.new.unit) card
      (ap (λ (b : Cabin). (known_of b.cards card).number) c.tear.ensures.kept ∙ number-set c.args.card card None cards)
      (ap (λ (b : Cabin). (known_of b.cards card).row) c.tear.ensures.kept ∙ row-set c.args.card card None cards)
      (row-noted (g.met.M.Medium.coherent c.args.unit.now) (g.met.M.Medium.coherent c.note_fault.new.unit) c.requires.ready.works c.note_fault.ensures.journal) h);
  cause = first_of (search rules, grind (arith, common_steps));
}

pub returns-clause-leaves : goal.returns-clause-leaves
returns-clause-leaves g c = record {
  noted = first_of (search rules, grind (arith, common_steps));
  moments = first_of (search rules, grind (arith, common_steps));
  journal = first_of (search rules, grind (arith, common_steps));
}

pub returns-clause-most : goal.returns-clause-most
returns-clause-most g c = c.note_fault.ensures.most
