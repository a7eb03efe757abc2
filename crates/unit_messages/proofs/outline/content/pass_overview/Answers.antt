use Rattle.std.proofs.Common.{◌∙◌, rules}
use Rattle.std.specs.Prelude.{is_err}
use Rattle.unit_memory.proofs.Told.{told_all}
use Rattle.unit_minutes.proofs.IfAny.{read_same}
use Rattle.unit_messages.proofs.Calls.{any_then, any_failed}
use Rattle.unit_messages.proofs.Joints.{at_told}
use Rattle.unit_messages.proofs.Contents.{overview_passed}
use Rattle.unit_messages.proofs.outline.content.pass_overview.Goals as goal

pub returns-clause-passed : goal.returns-clause-passed
returns-clause-passed g c =
    told_all (g.M.Medium.state c.args.unit.now).image _ (λ x told are.
    overview_passed x c.args.times c.args.window.now c.pass.new.self c.pass_fields.new.window c.pass_fields-2.new.window c.pass_number.new.window c.pass_number-2.new.window c.pass_number-3.new.window c.pass-2.new.self are
    c.pass.ensures (at_told _ x told c.in_ok-pass_fields.ensures.passed) (at_told _ x (read_same c.in_ok-pass_fields.ensures.reads ∙ told) c.in_ok-pass_fields-2.ensures.passed)
    c.pass_number.ensures c.pass_number-2.ensures c.pass_number-3.ensures c.pass-2.ensures)

pub returns-in_err-pass_fields-2-clause-reads : goal.returns-in_err-pass_fields-2-clause-reads
returns-in_err-pass_fields-2-clause-reads g c =
    any_failed (is_err c.from_residual-in_err-pass_fields-2.result) (search rules) (any_then c.in_ok-pass_fields.ensures.reads c.in_err-pass_fields-2.ensures.reads)

pub returns-clause-reads : goal.returns-clause-reads
returns-clause-reads g c = any_then c.in_ok-pass_fields.ensures.reads c.in_ok-pass_fields-2.ensures.reads
