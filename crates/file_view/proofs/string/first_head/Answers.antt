use Rattle.std.proofs.Common.{◌≡◌, List, ℕ, length, ap, refl, subst, arith}
use Rattle.std.specs.Prelude.{slice_get}
use Rattle.card_model.specs.Days.{Day}
use Rattle.card_model.specs.Image.{HoldsDays}
use Rattle.card_days.specs.Heads.{heads_of}
use Rattle.file_view.proofs.string.first_head.Goals as goal

pub first-requires : goal.first-requires
first-requires c = omega (arith, ap (λ (l : List ℕ). length l) c.new-medium.ensures, c.requires.fits, c.requires.alone)

pub returns-in-Ok-clause-first : goal.returns-in-Ok-clause-first
returns-in-Ok-clause-first c = subst (λ (x : List ℕ). (days : List Day) → HoldsDays c.args.string.now.shape x days → c.in-Ok.head ≡ slice_get (heads_of c.args.string.now.shape x days) 0) c.new-medium.ensures c.in-Ok.ensures.first

pub returns-in-Err-clause-first : goal.returns-in-Err-clause-first
returns-in-Err-clause-first c = absurd (omega (arith, c.in-Err.ensures.reads.cause.fault refl))
