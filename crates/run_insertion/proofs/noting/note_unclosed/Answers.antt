use Rattle.std.proofs.lemmas.Grind.{common_steps}
use Rattle.tach_media.proofs.Runs.{on_ok}
use Rattle.std.proofs.Common.{◌∙◌, ap, rules, arith}
use Rattle.std.specs.Prelude.{not}
use Rattle.run_insertion.proofs.Noted.{noted-ready, noted-row}
use Rattle.run_insertion.proofs.noting.note_unclosed.Goals as goal

pub returns-clause-stands : goal.returns-clause-stands
returns-clause-stands g c = record {
  journal = c.note_event.ensures.journal;
  ready = on_ok c.note_event.result (λ well. noted-ready (g.met.M.Medium.coherent c.args.unit.now) (g.met.M.Medium.coherent c.note_event.new.unit) c.note_event.ensures.journal c.args.keeper.now c.requires.ready (c.note_event.ensures.cause.works ∙ ap not well));
  rows =
      λ card h.
      on_ok c.note_event.result (λ well. noted-row (g.met.M.Medium.coherent c.args.unit.now) (g.met.M.Medium.coherent c.note_event.new.unit) c.note_event.ensures.journal c.args.keeper.now c.requires.ready c.args.keeper.now.cabin.cards card h);
  cause = c.note_event.ensures.cause;
  most = c.note_event.ensures.most;
}

pub returns-clause-note : goal.returns-clause-note
returns-clause-note g c = record {
  noted = first_of (search rules, grind (arith, common_steps));
  moments = first_of (search rules, grind (arith, common_steps));
}
