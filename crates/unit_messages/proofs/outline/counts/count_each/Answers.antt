use Rattle.std.proofs.Common.{◌≡◌, ◌+◌, ℕ, IfSome, subst, ap, inr, arith, rules}
use Rattle.std.specs.Prelude.{is_err}
use Rattle.std.specs.List.{range_with_len}
use Rattle.tach_media.proofs.Runs.{both_told}
use Rattle.unit_memory.proofs.Told.{told_all, carried}
use Rattle.unit_minutes.proofs.IfAny.{read_same}
use Rattle.unit_messages.specs.declared.entries.Entries.{Entries}
use Rattle.unit_messages.specs.Counts.{entries_on, AreFew, CountsEach}
use Rattle.unit_messages.proofs.Calls.{no_call, any_then, any_failed}
use Rattle.unit_messages.proofs.Dating.{none_counted, few_none}
use Rattle.unit_messages.proofs.outline.counts.count_each.Goals as goal

pub loop-index-init : goal.loop-index-init
loop-index-init g c = record {
  high = omega arith;
  few = few_none 366;
  counted = told_all (g.M.Medium.state c.args.unit.now).image _ (λ x told. none_counted c.args.kind c.args.first x);
  reads = no_call (g.M.Medium.state c.args.unit.now);
}

pub loop-index-preserved : goal.loop-index-preserved
loop-index-preserved g c =
    let was = c.loop-index.invariant in
    let some = c.in_ok-count.ensures.some in
    let here = carried (λ x. CountsEach c.args.kind c.args.first x (range_with_len 0 c.loop-index.index) c.loop-index.counts → CountsEach c.args.kind c.args.first x (range_with_len 0 (c.loop-index.index + c.in_ok-count.count)) c.add_some.new.counts) (read_same was.reads) c.in_ok-count.ensures.added in
    record {
      high = omega (arith, some.1, ap (λ (e : Entries). e.count) c.entries_on-entries.ensures.is);
      few = some.2;
      counted = both_told (g.M.Medium.state c.args.unit.now).image _ was.counted here (λ x told before after. after before);
      reads = any_then was.reads (inr c.in_ok-count.ensures.reads);
    }

pub returns-in_err-count-clause-reads : goal.returns-in_err-count-clause-reads
returns-in_err-count-clause-reads g c =
    any_failed (is_err c.from_residual.result) (search rules) (any_then c.loop-index.invariant.reads (inr c.in_err-count.ensures.reads))

pub returns-clause-counted : goal.returns-clause-counted
returns-clause-counted g c =
    let end : c.loop-index.index ≡ (entries_on c.args.kind 0).count = omega (arith, c.loop-index.invariant.high, ap (λ (e : Entries). e.count) c.entries_on-entries.ensures.is) in
    subst (λ (n : ℕ). IfSome (g.M.Medium.state c.args.unit.now).image (λ x. CountsEach c.args.kind c.args.first x (range_with_len 0 n) c.loop-index.counts)) end c.loop-index.invariant.counted

pub returns-clause-few : goal.returns-clause-few
returns-clause-few g c =
    let end : c.loop-index.index ≡ (entries_on c.args.kind 0).count = omega (arith, c.loop-index.invariant.high, ap (λ (e : Entries). e.count) c.entries_on-entries.ensures.is) in
    subst (λ (n : ℕ). AreFew n c.loop-index.counts) end c.loop-index.invariant.few

pub returns-clause-reads : goal.returns-clause-reads
returns-clause-reads g c = c.loop-index.invariant.reads
