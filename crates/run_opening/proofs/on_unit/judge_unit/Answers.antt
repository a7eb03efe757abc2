use Rattle.std.proofs.lemmas.Grind.{common_steps}
use Rattle.std.proofs.Common.{rules, arith}
use Rattle.run_opening.proofs.AsItWas.{as-it-was}
use Rattle.run_opening.proofs.on_unit.judge_unit.Goals as goal

pub returns-in_ok-judge_clock-in-Ok-clause-same : goal.returns-in_ok-judge_clock-in-Ok-clause-same
returns-in_ok-judge_clock-in-Ok-clause-same g c = as-it-was (g.M.Medium.state c.args.unit.now) (g.M.Medium.state c.open_unit.new.unit) _ c.open_unit.ensures.revived.leaves c.open_unit.ensures.revived.clock c.in-Ok.ensures.revived.cause

pub returns-in_err-judge_clock-in-Ok-clause-same : goal.returns-in_err-judge_clock-in-Ok-clause-same
returns-in_err-judge_clock-in-Ok-clause-same g c = as-it-was (g.M.Medium.state c.args.unit.now) (g.M.Medium.state c.open_unit.new.unit) _ c.open_unit.ensures.revived.leaves c.open_unit.ensures.revived.clock c.in-Ok.ensures.revived.cause

pub returns-in-Err-clause-same : goal.returns-in-Err-clause-same
returns-in-Err-clause-same g c = as-it-was (g.M.Medium.state c.args.unit.now) (g.M.Medium.state c.open_unit.new.unit) _ c.open_unit.ensures.revived.leaves c.open_unit.ensures.revived.clock c.in-Err.ensures.revived.cause

pub returns-in_ok-judge_clock-in-Ok-clause-found : goal.returns-in_ok-judge_clock-in-Ok-clause-found
returns-in_ok-judge_clock-in-Ok-clause-found g c = record {
  loaded = first_of (search rules, grind (arith, common_steps));
  facts = first_of (search rules, grind (arith, common_steps));
  later = first_of (search rules, grind (arith, common_steps));
}
