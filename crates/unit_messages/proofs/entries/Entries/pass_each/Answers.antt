use Rattle.std.proofs.Common.{◌≡◌, ◌-◌, arith, rules}
use Rattle.std.specs.Prelude.{is_err}
use Rattle.std.specs.List.{range_with_len}
use Rattle.card_layout.specs.Fields.{joined}
use Rattle.unit_memory.proofs.Told.{told_all, carried}
use Rattle.unit_minutes.proofs.IfAny.{read_same}
use Rattle.unit_messages.specs.Windows.{passed}
use Rattle.unit_messages.specs.Chosen.{chosen_at, shape_of}
use Rattle.unit_messages.proofs.Ahead.{first_passed, round_ahead}
use Rattle.unit_messages.proofs.Calls.{any_then, any_failed}
use Rattle.unit_messages.proofs.Joints.{at_told}
use Rattle.unit_messages.proofs.entries.Entries.pass_each.Goals as goal

pub returns-then-left-ahead-clause-passed : goal.returns-then-left-ahead-clause-passed
returns-then-left-ahead-clause-passed g c =
    let e = c.args.self.now in
    told_all (g.M.Medium.state c.args.unit.now).image _ (λ x told full.
    round_ahead e c.requires.entries x (omega (arith, c.requires.unit, (g.met.M.Medium.coherent c.args.unit.now).sized x told)) c.args.turn c.pass_ahead-ahead.result
    c.pass_from.new.window c.pass_ahead-ahead.new.window c.args.window.now c.requires.turn c.pass_ahead-ahead.ensures.few (omega arith) full c.pass_ahead-ahead.ensures.passed
    (at_told _ x told c.in_ok-pass_from.ensures.passed))

pub returns-clause-passed : goal.returns-clause-passed
returns-clause-passed g c =
    let e = c.args.self.now in
    let next = carried (λ x. c.pass_from-3.new.window ≡ passed c.pass_from-2.new.window (joined (chosen_at (shape_of e) e.choice x (range_with_len 0 (c.args.turn - 0))))) (read_same c.in_ok-pass_from-2.ensures.reads) c.in_ok-pass_from-3.ensures.passed in
    told_all (g.M.Medium.state c.args.unit.now).image _ (λ x told full.
    first_passed e c.requires.entries x (omega (arith, c.requires.unit, (g.met.M.Medium.coherent c.args.unit.now).sized x told)) c.args.turn c.pass_ahead-ahead.result
    c.pass_from-3.new.window c.pass_from-2.new.window c.pass_ahead-ahead.new.window c.args.window.now c.requires.turn (omega (arith, c.requires.turn)) full c.pass_ahead-ahead.ensures.passed
    (at_told _ x told c.in_ok-pass_from-2.ensures.passed) (at_told _ x told next))

pub returns-in_err-pass_from-3-clause-reads : goal.returns-in_err-pass_from-3-clause-reads
returns-in_err-pass_from-3-clause-reads g c =
    any_failed (is_err c.from_residual-in_err-pass_from-3.result) (search rules) (any_then c.in_ok-pass_from-2.ensures.reads c.in_err-pass_from-3.ensures.reads)

pub returns-clause-reads : goal.returns-clause-reads
returns-clause-reads g c = any_then c.in_ok-pass_from-2.ensures.reads c.in_ok-pass_from-3.ensures.reads
