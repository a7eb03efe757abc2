use Rattle.std.proofs.Common.{◌≡◌, ◌<◌, List, ℕ, length, ap, refl, subst, arith}
use Rattle.std.specs.Prelude.{slice_index}
use Rattle.card_model.specs.Days.{Day}
use Rattle.card_model.specs.Image.{IsAt}
use Rattle.file_view.proofs.string.word.Goals as goal

pub word-requires-clause-fits : goal.word-requires-clause-fits
word-requires-clause-fits c = omega (arith, ap (λ (l : List ℕ). length l) c.new-medium.ensures, c.requires.fits, c.requires.alone)

pub returns-in-Ok : goal.returns-in-Ok
returns-in-Ok c = subst (λ (x : List ℕ). (d : Day) → IsAt c.args.string.now.shape x c.args.head.now.place d → c.args.index < length d.words → c.in-Ok.word ≡ slice_index d.words c.args.index) c.new-medium.ensures c.in-Ok.ensures.word

pub returns-in-Err : goal.returns-in-Err
returns-in-Err c = absurd (omega (arith, c.in-Err.ensures.reads.cause.fault refl))
