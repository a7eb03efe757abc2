use Rattle.std.proofs.Common.{◌≡◌, rules}
use Rattle.std.specs.Prelude.{is_err}
use Rattle.card_layout.specs.Images.{bytes_at}
use Rattle.unit_memory.proofs.Told.{carried}
use Rattle.unit_minutes.proofs.IfAny.{read_same}
use Rattle.unit_messages.specs.Windows.{passed}
use Rattle.unit_messages.proofs.Calls.{any_then, any_failed}
use Rattle.unit_messages.proofs.Joints.{told_then}
use Rattle.unit_messages.proofs.outline.content.pass_fields.Goals as goal

pub returns-clause-passed : goal.returns-clause-passed
returns-clause-passed g c =
    let f = c.args.first in
    let n = c.args.next in
    told_then (g.M.Medium.state c.args.unit.now).image c.pass_range-2.new.self c.pass_range.new.self c.args.window.now (λ x. bytes_at x f.place f.size) (λ x. bytes_at x n.place n.size)
    c.in_ok-pass_range.ensures.passed
    (carried (λ x. c.pass_range-2.new.self ≡ passed c.pass_range.new.self (bytes_at x n.place n.size)) (read_same c.in_ok-pass_range.ensures.reads) c.in_ok-pass_range-2.ensures.passed)

pub returns-in_err-pass_range-2-clause-reads : goal.returns-in_err-pass_range-2-clause-reads
returns-in_err-pass_range-2-clause-reads g c =
    any_failed (is_err c.from_residual-in_err-pass_range-2.result) (search rules) (any_then c.in_ok-pass_range.ensures.reads c.in_err-pass_range-2.ensures.reads)

pub returns-clause-reads : goal.returns-clause-reads
returns-clause-reads g c = any_then c.in_ok-pass_range.ensures.reads c.in_ok-pass_range-2.ensures.reads
