use Rattle.std.proofs.lemmas.Grind.{common_steps}
use Rattle.std.proofs.Common.{Option, sym, ◌∙◌, ap, rules, arith}
use Rattle.std.specs.Prelude.{is_some}
use Rattle.unit_minutes.specs.declared.notes.Notes.{Notes}
use Rattle.link_session.specs.Told.{SessionView, is_judged}
use Rattle.link_session.proofs.Knowing.{decodes_of, right_of, outlines_of, other_outline, as_found}
use Rattle.link_session.proofs.AnswerFaults.{failed_bad, failed_reads}
use Rattle.link_session.proofs.session.Session.ask.Goals as goal

pub ask_first-requires-clause-anew : goal.ask_first-requires-clause-anew
ask_first-requires-clause-anew g c = ap (λ (v : SessionView). is_judged v) (sym c.self.view_is) ∙ ap (λ (j : Option Notes). is_some j) c.in_default.is

pub returns-in_default-clause-asks : goal.returns-in_default-clause-asks
returns-in_default-clause-asks g c = record {
  stays = first_of (search rules, grind (arith, common_steps));
  judged = first_of (search rules, grind (arith, common_steps));
  knows = first_of (search rules, grind (arith, common_steps));
  same = first_of (search rules, grind (arith, common_steps));
  bad = c.ask_first.ensures.asks.bad;
  reads = first_of (search rules, grind (arith, common_steps));
}

pub part_of-requires-clause-decodes : goal.part_of-requires-clause-decodes
part_of-requires-clause-decodes g c =
    let i = c.self.inside in
    decodes_of i.journal i.outline c.in-Some.journal (g.M.Medium.state c.args.unit.now).image c.in-Some.is (as_found _ _ _ c.self.view_is c.requires.knows)

pub part_of-requires-clause-right : goal.part_of-requires-clause-right
part_of-requires-clause-right g c =
    let i = c.self.inside in
    right_of i.journal i.outline c.in-Some.journal (g.M.Medium.state c.args.unit.now).image c.in-Some.is (as_found _ _ _ c.self.view_is c.requires.knows)

pub part_of-requires-clause-known : goal.part_of-requires-clause-known
part_of-requires-clause-known g c =
    let i = c.self.inside in
    outlines_of i.journal i.outline (g.M.Medium.state c.args.unit.now).image (as_found _ _ _ c.self.view_is c.requires.knows)

pub returns-in_err-part-clause-asks : goal.returns-in_err-part-clause-asks
returns-in_err-part-clause-asks g c = record {
  stays = first_of (search rules, grind (arith, common_steps));
  judged = first_of (search rules, grind (arith, common_steps));
  knows = first_of (search rules, grind (arith, common_steps));
  same = first_of (search rules, grind (arith, common_steps));
  bad = failed_bad c.from_residual.result _ c.from_residual.ensures.1;
  reads = failed_reads c.from_residual.result c.from_residual.ensures.1 c.in_err-part.ensures.reads;
}

pub returns-clause-asks : goal.returns-clause-asks
returns-clause-asks g c = record {
  stays = ap (λ (v : SessionView). v.state) c.self.view_is;
  judged = ap (λ (j : Option Notes). is_some j) c.in-Some.is;
  knows =
      let i = c.self.inside in
      other_outline i.journal i.outline c.in_ok-part.part.outline (g.M.Medium.state c.args.unit.now).image (as_found _ _ _ c.self.view_is c.requires.knows) c.in_ok-part.ensures.outline;
  same = first_of (search rules, grind (arith, common_steps));
  bad = first_of (search rules, grind (arith, common_steps));
  reads = first_of (search rules, grind (arith, common_steps));
}
