use Rattle.std.proofs.Common.{◌≡◌, ◌∙◌, ℕ, ◌+◌, ◌*◌, Bool, true, false, cond, get_or, not, sym, ap, arith}
use Rattle.std.specs.Prelude.{◌==◌}
use Rattle.card_layout.specs.Images.{number_at}
use Rattle.unit_messages.specs.Chosen.{is_meant}
use Rattle.unit_messages.specs.Counts.{entries_on}
use Rattle.unit_messages.proofs.Dating.{few_more, few_less, few_added, both_more, same_twice, not_there}
use Rattle.unit_messages.proofs.outline.counts.add_entry.Goals as goal

-- it is not there
pub returns-then-not-there-clause-added : goal.returns-then-not-there-clause-added
returns-then-not-there-clause-added c = λ i lt.
    let e = entries_on c.args.kind 0 in
    let none : c.is_there-there.result ≡ false = grind (arith, c.if-not-there.true) in
    let off : not (number_at c.args.entry.now e.gate 4 == 0) ≡ false = rw c.entries_on-entries.ensures.is at (sym c.is_there-there.ensures ∙ none) in
    rw (not_there c.args.kind (c.args.first + 86400 * i) c.args.entry.now off) (omega arith)

pub returns-then-not-there-clause-few : goal.returns-then-not-there-clause-few
returns-then-not-there-clause-few c = λ n few. few_more n c.args.counts.now few

-- it is there
pub dates_of-dates-requires-clause-there : goal.dates_of-dates-requires-clause-there
dates_of-dates-requires-clause-there c =
    let some : c.is_there-there.result ≡ true = grind (arith, c.if-not-there.false) in
    rw c.entries_on-entries.ensures.is at (sym c.is_there-there.ensures ∙ some)

-- the table has room for the first date, and for the second
pub add_on-requires-clause-few : goal.add_on-requires-clause-few
add_on-requires-clause-few c = few_less 2048 65534 c.args.counts.now (omega arith) c.requires.few

pub add_on-requires-then-dates-clause-few : goal.add_on-requires-then-dates-clause-few
add_on-requires-then-dates-clause-few c = few_less 2049 65534 c.add_on.new.counts (omega arith) (c.add_on.ensures.few 2048 c.requires.few)

-- it has two dates
pub returns-then-dates-clause-added : goal.returns-then-dates-clause-added
returns-then-dates-clause-added c = λ i lt.
    let date : ℕ = c.args.first + 86400 * i in
    let a : ℕ = c.dates_of-dates.result.0 in
    let b : ℕ = c.dates_of-dates.result.1 in
    both_more (get_or c.args.counts.now i 0) (get_or c.add_on.new.counts i 0) (get_or c.add_on-then-dates.new.counts i 0) date a b
    (c.add_on.ensures.added i lt)
    (c.add_on-then-dates.ensures.added i lt)
    (λ same. c.if-dates.true (sym same))
    ∙ ap (λ (t : Bool). get_or c.args.counts.now i 0 + cond t 1 0) (sym (c.dates_of-dates.ensures date))

-- it has one
pub returns-else-dates-clause-added : goal.returns-else-dates-clause-added
returns-else-dates-clause-added c = λ i lt.
    let date : ℕ = c.args.first + 86400 * i in
    let a : ℕ = c.dates_of-dates.result.0 in
    let b : ℕ = c.dates_of-dates.result.1 in
    same_twice (get_or c.args.counts.now i 0) (get_or c.add_on.new.counts i 0) date a b c.if-dates.false
    (c.add_on.ensures.added i lt)
    ∙ ap (λ (t : Bool). get_or c.args.counts.now i 0 + cond t 1 0) (sym (c.dates_of-dates.ensures date))

-- one more at most on each date
pub returns-then-dates-clause-few : goal.returns-then-dates-clause-few
returns-then-dates-clause-few c = λ n few.
    few_added n c.args.counts.now c.add_on-then-dates.new.counts (λ i. is_meant (entries_on c.args.kind (c.args.first + 86400 * i)) c.args.entry.now) (c.add_on-then-dates.auto.counts ∙ c.add_on.auto.counts ∙ c.requires.whole) (returns-then-dates-clause-added c) few
