use Rattle.std.proofs.Common.{◌≡◌, ◌+◌, ◌*◌, ◌<◌, ℕ, Option, IfSome, IfNone, subst, arith}
use Rattle.unit_messages.proofs.Dating.{few_at, few_more, few_set, one_more, none_more}
use Rattle.unit_messages.proofs.outline.counts.add_on.Goals as goal

-- one of the dates
pub overflow_add-counts : goal.overflow_add-counts
overflow_add-counts c = let few = few_at 65534 c.args.counts.now c.in-Some.index c.requires.few in omega (arith, few)

pub returns-in-Some-clause-added : goal.returns-in-Some-clause-added
returns-in-Some-clause-added c = λ i lt.
    let at = subst (λ (o : Option ℕ). IfSome o (λ j. (j < 366) × (c.args.date ≡ c.args.first + 86400 * j))) c.in-Some.is c.date_index.ensures.some in
    one_more c.args.counts.now c.args.first c.args.date c.in-Some.index i (omega (arith, c.requires.whole, at.0)) at.1

pub returns-in-Some-clause-few : goal.returns-in-Some-clause-few
returns-in-Some-clause-few c = λ n few. let le = few_at n c.args.counts.now c.in-Some.index few in few_set n c.args.counts.now c.in-Some.index _ (omega (arith, le)) few

-- none of them: nothing is added
pub returns-in_default-clause-added : goal.returns-in_default-clause-added
returns-in_default-clause-added c = λ i lt.
    none_more c.args.counts.now c.args.first c.args.date i (subst (λ (o : Option ℕ). IfNone o ((j : ℕ) → j < 366 → c.args.date ≡ c.args.first + 86400 * j → ⊥)) c.in_default.is c.date_index.ensures.none i lt)

pub returns-in_default-clause-few : goal.returns-in_default-clause-few
returns-in_default-clause-few c = λ n few. few_more n c.args.counts.now few
