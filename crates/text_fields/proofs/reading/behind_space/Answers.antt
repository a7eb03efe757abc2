use Rattle.std.proofs.Common.{arith}
use Rattle.std.proofs.lemmas.Grind.{common_steps}
use Rattle.text_fields.proofs.Spelling.{space_alone}
use Rattle.text_fields.proofs.reading.behind_space.Goals as goal

pub returns-then-text-lt2-clause-none : goal.returns-then-text-lt2-clause-none
returns-then-text-lt2-clause-none c = space_alone c.args.text.now (grind (arith, common_steps)) (omega (arith, c.if-text-lt2.true)) c.if-text-ne32.false
