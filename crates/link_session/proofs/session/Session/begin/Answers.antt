use Rattle.std.proofs.lemmas.Grind.{common_steps}
use Rattle.std.proofs.Common.{◌≤◌, List, ℕ, length, subst, sym, rules, arith}
use Rattle.unit_memory.proofs.Told.{one_told}
use Rattle.message_model.specs.Sending.{content_sent}
use Rattle.link_frames.specs.Sending.{IsPart}
use Rattle.link_session.proofs.Parts.{few_in_part}
use Rattle.link_session.proofs.session.Session.begin.Goals as goal

pub begun-requires : goal.begun-requires
begun-requires g c =
    let p = c.in_ok-part.ensures.possible in
    subst (λ (l : List ℕ). length l ≤ 252) (sym c.as_slice.ensures.value) (few_in_part p.0 2 c.in_ok-part.part.told c.in_ok-part.part.bytes.items p.1)

pub returns-clause-begun : goal.returns-clause-begun
returns-clause-begun g c =
    one_told (g.M.Medium.state c.args.unit.now).image _ c.in_ok-part.ensures.told (λ x part.
    c.begun.ensures (content_sent x c.args.request) (subst (λ (l : List ℕ). IsPart (content_sent x c.args.request) 2 c.in_ok-part.part.told l) (sym c.as_slice.ensures.value) part))

pub returns-clause-possible : goal.returns-clause-possible
returns-clause-possible g c =
    let p = c.in_ok-part.ensures.possible in
    (p.0, c.begun.ensures p.0 (subst (λ (l : List ℕ). IsPart p.0 2 c.in_ok-part.part.told l) (sym c.as_slice.ensures.value) p.1))

pub returns-in_err-part-clause-asks : goal.returns-in_err-part-clause-asks
returns-in_err-part-clause-asks g c = record {
  stays = first_of (search rules, grind (arith, common_steps));
  judged = first_of (search rules, grind (arith, common_steps));
  knows = first_of (search rules, grind (arith, common_steps));
  same = first_of (search rules, grind (arith, common_steps));
  bad = first_of (search rules, grind (arith, common_steps));
  reads = first_of (search rules, grind (arith, common_steps));
}

pub returns-clause-asks : goal.returns-clause-asks
returns-clause-asks g c = record {
  stays = first_of (search rules, grind (arith, common_steps));
  judged = first_of (search rules, grind (arith, common_steps));
  knows = first_of (search rules, grind (arith, common_steps));
  same = first_of (search rules, grind (arith, common_steps));
  bad = first_of (search rules, grind (arith, common_steps));
  reads = first_of (search rules, grind (arith, common_steps));
}
