use Rattle.unit_memory.proofs.Told.{told_all}
use Rattle.unit_messages.proofs.Joints.{at_told}
use Rattle.unit_messages.proofs.Contents.{technical_passed}
use Rattle.unit_messages.proofs.outline.content.pass_technical.Goals as goal

pub returns-clause-passed : goal.returns-clause-passed
returns-clause-passed g c =
    told_all (g.M.Medium.state c.args.unit.now).image _ (λ x told.
    technical_passed x c.args.window.now c.pass.new.self c.pass_fields.new.window c.pass-2.new.self c.pass.ensures (at_told _ x told c.in_ok-pass_fields.ensures.passed) c.pass-2.ensures)
