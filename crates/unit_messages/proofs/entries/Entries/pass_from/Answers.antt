use Rattle.std.proofs.Common.{◌≡◌, ◌-◌, ◌∙◌, ℕ, ap, inr, arith, rules}
use Rattle.std.specs.Prelude.{is_err}
use Rattle.std.specs.List.{range_with_len}
use Rattle.card_layout.specs.Fields.{joined}
use Rattle.tach_media.proofs.Runs.{both_told}
use Rattle.unit_memory.proofs.Told.{one_told, told_all, carried}
use Rattle.unit_minutes.proofs.IfAny.{read_same}
use Rattle.unit_messages.specs.Windows.{passed, IsFull}
use Rattle.unit_messages.specs.Chosen.{chosen_at, shape_of}
use Rattle.unit_messages.proofs.Calls.{no_call, any_then, any_failed}
use Rattle.unit_messages.proofs.Passing.{none_passed, some_passed, full_passed}
use Rattle.unit_messages.proofs.entries.Entries.pass_from.Goals as goal

pub loop-index-init : goal.loop-index-init
loop-index-init g c =
    let e = c.args.self.now in
    record {
      low = omega arith;
      high = c.requires.order;
      passed = told_all (g.M.Medium.state c.args.unit.now).image _ (λ x told. none_passed (shape_of e) e.choice x c.args.window.now c.args.from);
      reads = no_call (g.M.Medium.state c.args.unit.now);
    }

pub loop-index-preserved : goal.loop-index-preserved
loop-index-preserved g c =
    let e = c.args.self.now in
    let i = c.loop-index.index in
    let n = c.at_once-count.result in
    let was = c.loop-index.invariant in
    let here = carried (λ x. c.pass_some.new.window ≡ passed c.loop-index.window (joined (chosen_at (shape_of e) e.choice x (range_with_len i n)))) (read_same was.reads) c.in_ok-pass_some.ensures.passed in
    record {
      low = omega (arith, was.low);
      high = omega (arith, was.high, c.at_once-count.ensures.within);
      passed = both_told (g.M.Medium.state c.args.unit.now).image _ was.passed here (λ x told before after.
          some_passed (shape_of e) e.choice x c.pass_some.new.window c.loop-index.window c.args.window.now c.args.from i n was.low before after);
      reads = any_then was.reads (inr c.in_ok-pass_some.ensures.reads);
    }

pub returns-then-full-clause-passed : goal.returns-then-full-clause-passed
returns-then-full-clause-passed g c =
    let e = c.args.self.now in
    let full : IsFull c.loop-index.window = search rules in
    one_told (g.M.Medium.state c.args.unit.now).image _ c.loop-index.invariant.passed (λ x before.
    full_passed (shape_of e) e.choice x c.loop-index.window c.args.window.now c.args.from c.loop-index.index c.args.to c.loop-index.invariant.low c.loop-index.invariant.high full before)

pub returns-then-full-clause-reads : goal.returns-then-full-clause-reads
returns-then-full-clause-reads g c = c.loop-index.invariant.reads

pub returns-in_err-pass_some-clause-reads : goal.returns-in_err-pass_some-clause-reads
returns-in_err-pass_some-clause-reads g c =
    any_failed (is_err c.from_residual.result) (search rules) (any_then c.loop-index.invariant.reads (inr c.in_err-pass_some.ensures.reads))

pub returns-clause-passed : goal.returns-clause-passed
returns-clause-passed g c =
    let e = c.args.self.now in
    let end : c.loop-index.index ≡ c.args.to = omega (arith, c.loop-index.invariant.high) in
    one_told (g.M.Medium.state c.args.unit.now).image _ c.loop-index.invariant.passed (λ x before.
    before ∙ ap (λ (n : ℕ). passed c.args.window.now (joined (chosen_at (shape_of e) e.choice x (range_with_len c.args.from (n - c.args.from))))) end)

pub returns-clause-reads : goal.returns-clause-reads
returns-clause-reads g c = c.loop-index.invariant.reads
