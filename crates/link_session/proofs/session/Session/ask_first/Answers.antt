use Rattle.std.proofs.lemmas.Grind.{common_steps}
use Rattle.std.proofs.Common.{IfSome, inr, refl, sym, ◌∙◌, ap, rules, arith, ◌≡◌}
use Rattle.unit_memory.proofs.Told.{told_all, carried}
use Rattle.unit_model.specs.Decoding.{Decodes, first_bad_place}
use Rattle.unit_minutes.specs.Reading.{AreRight}
use Rattle.message_model.specs.Sending.{content_sent}
use Rattle.link_frames.specs.Sending.{IsPart}
use Rattle.unit_messages.specs.Outlines.{Outlines}
use Rattle.link_session.specs.Told.{SessionView, IfBadUnit}
use Rattle.unit_messages.proofs.Calls.{any_then}
use Rattle.link_session.proofs.Knowing.{judged_now}
use Rattle.link_session.proofs.AnswerFaults.{failed_bad, failed_reads, passed_reads, bad_anew}
use Rattle.link_session.proofs.session.Session.ask_first.Goals as goal
use Rattle.std.specs.Prelude.{IfErr, Some}

pub part_of-requires-clause-unit : goal.part_of-requires-clause-unit
part_of-requires-clause-unit g c = c.in_ok-journal.ensures.reads.leaves.size ∙ c.requires.unit

pub part_of-requires-clause-decodes : goal.part_of-requires-clause-decodes
part_of-requires-clause-decodes g c = carried Decodes (sym (c.in_ok-journal.ensures.reads.same refl)) c.in_ok-journal.ensures.decodes

pub part_of-requires-clause-right : goal.part_of-requires-clause-right
part_of-requires-clause-right g c = carried (AreRight c.in_ok-journal.journal) (sym (c.in_ok-journal.ensures.reads.same refl)) c.in_ok-journal.ensures.right

pub part_of-requires-clause-known : goal.part_of-requires-clause-known
part_of-requires-clause-known g c = told_all (g.M.Medium.state c.judge.new.unit).image _ (λ x told. tt)

pub returns-in_err-journal-clause-asks : goal.returns-in_err-journal-clause-asks
returns-in_err-journal-clause-asks g c = record {
  stays = first_of (search rules, grind (arith, common_steps));
  judged = first_of (search rules, grind (arith, common_steps));
  knows = first_of (search rules, grind (arith, common_steps));
  same = first_of (search rules, grind (arith, common_steps));
  bad =
      let anew : IfErr c.from_residual.result (λ fault. IfBadUnit fault (λ p. IfSome (g.M.Medium.state c.args.unit.now).image (λ x. first_bad_place x ≡ Some p))) = first_of (search rules, grind (arith, common_steps)) in
      bad_anew c.from_residual.result _ _ c.requires.anew anew;
  reads = passed_reads c.from_residual.result _ c.from_residual.ensures.1 (inr c.in_err-journal.ensures.reads);
}

pub returns-in_err-part-clause-asks : goal.returns-in_err-part-clause-asks
returns-in_err-part-clause-asks g c = record {
  stays = first_of (search rules, grind (arith, common_steps));
  judged = first_of (search rules, grind (arith, common_steps));
  knows = first_of (search rules, grind (arith, common_steps));
  same = first_of (search rules, grind (arith, common_steps));
  bad = failed_bad c.from_residual-in_err-part.result _ c.from_residual-in_err-part.ensures.1;
  reads = failed_reads c.from_residual-in_err-part.result c.from_residual-in_err-part.ensures.1 (any_then (inr c.in_ok-journal.ensures.reads) c.in_err-part.ensures.reads);
}

pub returns-clause-told : goal.returns-clause-told
returns-clause-told g c =
    carried (λ x. IsPart (content_sent x c.args.request.now) c.args.from c.in_ok-part.part.told c.in_ok-part.part.bytes.items) (c.in_ok-journal.ensures.reads.same refl) c.in_ok-part.ensures.told

pub returns-clause-asks : goal.returns-clause-asks
returns-clause-asks g c = record {
  stays = ap (λ (v : SessionView). v.state) c.self.view_is;
  judged = first_of (search rules, grind (arith, common_steps));
  knows =
      judged_now c.in_ok-journal.journal c.in_ok-part.part.outline (g.M.Medium.state c.args.unit.now).image c.in_ok-journal.ensures.decodes c.in_ok-journal.ensures.right
      (carried (λ x. IfSome c.in_ok-part.part.outline (λ o. Outlines o x)) (c.in_ok-journal.ensures.reads.same refl) c.in_ok-part.ensures.outline);
  same = first_of (search rules, grind (arith, common_steps));
  bad = first_of (search rules, grind (arith, common_steps));
  reads = any_then (inr c.in_ok-journal.ensures.reads) c.in_ok-part.ensures.reads;
}
