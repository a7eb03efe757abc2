use Rattle.std.proofs.Common.{◌≡◌, ◌∙◌, suc, arith, ap, sym, zero-add}
use Rattle.std.specs.Prelude.{false}
use Rattle.file_json.specs.Days.{days_from, items_count, stands_at}
use Rattle.file_json.proofs.Stringing.{none_from}
use Rattle.file_json.proofs.days.count_days.Goals as goal

pub walk-init : goal.walk-init
walk-init c = record { within = c.requires; few = omega arith; so_far = zero-add (items_count (days_from c.args.all c.args.circle.now)) }

pub behind_one-next-requires-clause-there : goal.behind_one-next-requires-clause-there
behind_one-next-requires-clause-there c = sym c.stands_at.ensures ∙ c.walk-test.true

pub overflow_add-count : goal.overflow_add-count
overflow_add-count c = omega (arith, c.walk.invariant.few, c.behind_one-next.ensures.later, c.behind_one-next.ensures.within)

pub walk-preserved : goal.walk-preserved
walk-preserved c =
    let more : items_count (days_from c.walk.at c.args.circle.now) ≡ suc (items_count (days_from c.behind_one-next.result c.args.circle.now)) = ap items_count c.behind_one-next.ensures.shown in
    record {
      within = c.behind_one-next.ensures.within;
      few = omega (arith, c.walk.invariant.few, c.behind_one-next.ensures.later);
      so_far = omega (arith, c.walk.invariant.so_far, more);
    }

pub returns : goal.returns
returns c =
    let none : stands_at c.walk.at c.args.circle.now ≡ false = sym c.stands_at.ensures ∙ c.walk-test.false in
    let count : items_count (days_from c.walk.at c.args.circle.now) ≡ 0 = ap items_count (none_from c.walk.at c.args.circle.now none) in
    omega (arith, c.walk.invariant.so_far, count)
