use Rattle.std.proofs.Common.{◌∙◌, ap, rules}
use Rattle.std.specs.Prelude.{is_err}
use Rattle.message_model.specs.Sending.{event_table, over_table, fault_table}
use Rattle.unit_memory.proofs.Told.{told_all}
use Rattle.unit_minutes.proofs.IfAny.{read_same}
use Rattle.unit_messages.specs.Chosen.{shape_of}
use Rattle.unit_messages.proofs.Calls.{any_then, any_failed}
use Rattle.unit_messages.proofs.Joints.{at_told}
use Rattle.unit_messages.proofs.Rings.{by_shape}
use Rattle.unit_messages.proofs.Contents.{events_passed}
use Rattle.unit_messages.proofs.outline.content.pass_events.Goals as goal

pub returns-clause-passed : goal.returns-clause-passed
returns-clause-passed g c =
    let e = c.args.events in
    told_all (g.M.Medium.state c.args.unit.now).image _ (λ x told are.
    let second = read_same c.in_ok-pass_table.ensures.reads ∙ told in
    let third = read_same c.in_ok-pass_table-2.ensures.reads ∙ second in
    events_passed x e c.args.window.now c.pass.new.self c.pass_table.new.window c.pass_table-2.new.window c.pass-2.new.self c.pass_number.new.window c.pass_byte.new.window c.pass_table-3.new.window c.pass-3.new.self are
    c.pass.ensures
    (by_shape (shape_of c.fault_entries.result) fault_table x e.faults c.pass_table.new.window c.pass.new.self (ap shape_of c.fault_entries.ensures.is) (at_told _ x told c.in_ok-pass_table.ensures.passed) are.faults)
    (by_shape (shape_of c.event_entries.result) event_table x e.events c.pass_table-2.new.window c.pass_table.new.window (ap shape_of c.event_entries.ensures.is) (at_told _ x second c.in_ok-pass_table-2.ensures.passed) are.events)
    c.pass-2.ensures c.pass_number.ensures c.pass_byte.ensures
    (by_shape (shape_of c.over_entries.result) over_table x e.overs c.pass_table-3.new.window c.pass_byte.new.window (ap shape_of c.over_entries.ensures.is) (at_told _ x third c.in_ok-pass_table-3.ensures.passed) are.overs)
    c.pass-3.ensures)

pub returns-in_err-pass_table-2-clause-reads : goal.returns-in_err-pass_table-2-clause-reads
returns-in_err-pass_table-2-clause-reads g c =
    any_failed (is_err c.from_residual-in_err-pass_table-2.result) (search rules) (any_then c.in_ok-pass_table.ensures.reads c.in_err-pass_table-2.ensures.reads)

pub returns-in_err-pass_table-3-clause-reads : goal.returns-in_err-pass_table-3-clause-reads
returns-in_err-pass_table-3-clause-reads g c =
    any_failed (is_err c.from_residual-in_err-pass_table-3.result) (search rules) (any_then (any_then c.in_ok-pass_table.ensures.reads c.in_ok-pass_table-2.ensures.reads) c.in_err-pass_table-3.ensures.reads)

pub returns-clause-reads : goal.returns-clause-reads
returns-clause-reads g c = any_then (any_then c.in_ok-pass_table.ensures.reads c.in_ok-pass_table-2.ensures.reads) c.in_ok-pass_table-3.ensures.reads
