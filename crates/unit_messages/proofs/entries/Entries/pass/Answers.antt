use Rattle.std.proofs.Common.{◌≡◌, ◌-◌, rules}
use Rattle.std.specs.Prelude.{is_err}
use Rattle.std.specs.List.{range_with_len}
use Rattle.card_layout.specs.Fields.{joined}
use Rattle.tach_media.proofs.Runs.{both_told}
use Rattle.unit_memory.proofs.Told.{carried}
use Rattle.unit_minutes.proofs.IfAny.{read_same}
use Rattle.unit_messages.specs.Windows.{passed}
use Rattle.unit_messages.specs.Chosen.{chosen_at, shape_of}
use Rattle.unit_messages.proofs.Calls.{any_then, any_failed}
use Rattle.unit_messages.proofs.Passing.{round_passed}
use Rattle.unit_messages.proofs.entries.Entries.pass.Goals as goal

pub returns-clause-passed : goal.returns-clause-passed
returns-clause-passed g c =
    let e = c.args.self.now in
    let next = carried (λ x. c.pass_from-2.new.window ≡ passed c.pass_from.new.window (joined (chosen_at (shape_of e) e.choice x (range_with_len 0 (c.args.turn - 0))))) (read_same c.in_ok-pass_from.ensures.reads) c.in_ok-pass_from-2.ensures.passed in
    both_told (g.M.Medium.state c.args.unit.now).image _ c.in_ok-pass_from.ensures.passed next (λ x told before after.
    round_passed (shape_of e) e.choice x c.pass_from-2.new.window c.pass_from.new.window c.args.window.now c.args.turn before after)

pub returns-in_err-pass_from-2-clause-reads : goal.returns-in_err-pass_from-2-clause-reads
returns-in_err-pass_from-2-clause-reads g c =
    any_failed (is_err c.from_residual-in_err-pass_from-2.result) (search rules) (any_then c.in_ok-pass_from.ensures.reads c.in_err-pass_from-2.ensures.reads)

pub returns-clause-reads : goal.returns-clause-reads
returns-clause-reads g c = any_then c.in_ok-pass_from.ensures.reads c.in_ok-pass_from-2.ensures.reads
