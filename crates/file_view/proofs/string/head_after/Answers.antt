use Rattle.std.proofs.Common.{List, ℕ, length, ap, refl, subst, arith}
use Rattle.card_days.specs.Heads.{IsAfter}
use Rattle.file_view.proofs.string.head_after.Goals as goal

pub after-requires-clause-fits : goal.after-requires-clause-fits
after-requires-clause-fits c = omega (arith, ap (λ (l : List ℕ). length l) c.new-medium.ensures, c.requires.fits, c.requires.alone)

pub returns-in-Ok-clause-after : goal.returns-in-Ok-clause-after
returns-in-Ok-clause-after c = subst (λ (x : List ℕ). IsAfter c.args.string.now.shape x c.args.head.now c.in-Ok.head) c.new-medium.ensures c.in-Ok.ensures.after

pub returns-in-Err-clause-after : goal.returns-in-Err-clause-after
returns-in-Err-clause-after c = absurd (omega (arith, c.in-Err.ensures.reads.cause.fault refl))
