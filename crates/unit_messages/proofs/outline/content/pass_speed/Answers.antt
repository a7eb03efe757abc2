use Rattle.unit_memory.proofs.Told.{told_all}
use Rattle.unit_messages.proofs.Joints.{at_told}
use Rattle.unit_messages.proofs.Contents.{speed_passed}
use Rattle.unit_messages.proofs.outline.content.pass_speed.Goals as goal

pub returns-clause-passed : goal.returns-clause-passed
returns-clause-passed g c =
    told_all (g.M.Medium.state c.args.unit.now).image _ (λ x told are.
    speed_passed x c.args.blocks c.args.window.now c.pass.new.self c.pass_blocks.new.window c.pass-2.new.self c.pass.ensures
    (at_told _ x told c.in_ok-pass_blocks.ensures.passed are.pointer are.blocks) c.pass-2.ensures)
