use Rattle.std.proofs.Common.{◌∙◌, sym, ap, length, arith}
use Rattle.card_image.specs.card_model.Image.{StringShape}
use Rattle.card_image.specs.card_model.Checks.{first_bad}
use Rattle.card_days.specs.Loading.{shape_of}
use Rattle.card_validity.proofs.Places.{day_file, shape_is, knows_at}
use Rattle.card_validity.proofs.files.load_days.Goals as goal

pub load-requires-clause-inside : goal.load-requires-clause-inside
load-requires-clause-inside c = omega (arith, c.file_of.ensures.inside, c.requires.inside, ap length c.new-slice.ensures)

pub load-requires-clause-even : goal.load-requires-clause-even
load-requires-clause-even c = omega (arith, c.file_of.ensures.len, day_file c.args.app.now, c.requires.sizes.string_even)

pub load-requires-clause-low : goal.load-requires-clause-low
load-requires-clause-low c = omega (arith, c.file_of.ensures.len, day_file c.args.app.now, c.requires.sizes.string_least)

pub load-requires-clause-high : goal.load-requires-clause-high
load-requires-clause-high c = omega (arith, c.file_of.ensures.len, day_file c.args.app.now, c.requires.sizes.string_most)

pub returns-in-Ok-clause-shape : goal.returns-in-Ok-clause-shape
returns-in-Ok-clause-shape c = c.in-Ok.ensures.shape ∙ shape_is c.args.app.now c.file_of.result c.file_of.ensures.base c.file_of.ensures.len

pub returns-in-Ok-clause-days : goal.returns-in-Ok-clause-days
returns-in-Ok-clause-days c = knows_at c.in-Ok.days _ _ _ _ (shape_is c.args.app.now c.file_of.result c.file_of.ensures.base c.file_of.ensures.len) c.new-slice.ensures c.in-Ok.ensures.days

pub returns-in-Err-BadDays-clause-bad : goal.returns-in-Err-BadDays-clause-bad
returns-in-Err-BadDays-clause-bad c =
    let shape = shape_is c.args.app.now c.file_of.result c.file_of.ensures.base c.file_of.ensures.len in
    let bad = rw c.in-Err-BadDays.field-0-is at c.in-Err-BadDays.ensures.bad in
    ap (λ (r : StringShape). first_bad r c.args.image.now) (sym shape) ∙ ap (first_bad (shape_of c.file_of.result)) (sym c.new-slice.ensures) ∙ bad
