use Rattle.std.proofs.Common.{◌∙◌, ℕ, ◌+◌, ◌*◌, drop, ap, arith}
use Rattle.unit_marks.proofs.Fronts.{at_front, times_few}
use Rattle.unit_marks.proofs.entries.behind_few.Goals as goal

pub byte_at-count-requires : goal.byte_at-count-requires
byte_at-count-requires c =
    let given = c.requires.entries in
    omega (arith, (at_front 1 c.args.size given.0 c.args.bytes.now given.1).end)

pub overflow_mul-end : goal.overflow_mul-end
overflow_mul-end c =
    let given = c.requires.entries in
    let at = at_front 1 c.args.size given.0 c.args.bytes.now given.1 in
    omega (arith, times_few c.args.size c.byte_at-count.result c.requires.few (omega (arith, c.byte_at-count.ensures, at.count, given.1.are.few)))

pub overflow_add-end : goal.overflow_add-end
overflow_add-end c =
    let given = c.requires.entries in
    let at = at_front 1 c.args.size given.0 c.args.bytes.now given.1 in
    omega (arith, times_few c.args.size c.byte_at-count.result c.requires.few (omega (arith, c.byte_at-count.ensures, at.count, given.1.are.few)))

pub behind-requires : goal.behind-requires
behind-requires c =
    let given = c.requires.entries in
    let at = at_front 1 c.args.size given.0 c.args.bytes.now given.1 in
    omega (arith, at.end, ap (λ (n : ℕ). c.args.size * n) (c.byte_at-count.ensures ∙ at.count))

pub returns : goal.returns
returns c = λ entries begin.
    let at = at_front 1 c.args.size entries c.args.bytes.now begin in
    c.behind.ensures ∙ ap (λ (n : ℕ). drop (1 + c.args.size * n) c.args.bytes.now) (c.byte_at-count.ensures ∙ at.count) ∙ at.behind
