use Rattle.std.proofs.Common.{◌∙◌, ℕ, ◌+◌, ◌*◌, drop, ap, arith}
use Rattle.unit_marks.proofs.Fronts.{at_front, times_few}
use Rattle.unit_marks.proofs.entries.behind_many.Goals as goal

pub short_at_front-count-requires : goal.short_at_front-count-requires
short_at_front-count-requires c =
    let given = c.requires.entries in
    omega (arith, (at_front 2 c.args.size given.0 c.args.bytes.now given.1).end)

pub overflow_mul-end : goal.overflow_mul-end
overflow_mul-end c =
    let given = c.requires.entries in
    let at = at_front 2 c.args.size given.0 c.args.bytes.now given.1 in
    omega (arith, times_few c.args.size c.short_at_front-count.result c.requires.few (omega (arith, c.short_at_front-count.ensures, at.count, given.1.are.few)))

pub overflow_add-end : goal.overflow_add-end
overflow_add-end c =
    let given = c.requires.entries in
    let at = at_front 2 c.args.size given.0 c.args.bytes.now given.1 in
    omega (arith, times_few c.args.size c.short_at_front-count.result c.requires.few (omega (arith, c.short_at_front-count.ensures, at.count, given.1.are.few)))

pub behind-requires : goal.behind-requires
behind-requires c =
    let given = c.requires.entries in
    let at = at_front 2 c.args.size given.0 c.args.bytes.now given.1 in
    omega (arith, at.end, ap (λ (n : ℕ). c.args.size * n) (c.short_at_front-count.ensures ∙ at.count))

pub returns : goal.returns
returns c = λ entries begin.
    let at = at_front 2 c.args.size entries c.args.bytes.now begin in
    c.behind.ensures ∙ ap (λ (n : ℕ). drop (2 + c.args.size * n) c.args.bytes.now) (c.short_at_front-count.ensures ∙ at.count) ∙ at.behind
