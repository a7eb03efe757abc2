use Rattle.std.proofs.Common.{◌≡◌, ℕ, false, length, arith}
use Rattle.std.specs.Prelude.{nat_eq}
use Rattle.std.proofs.lemmas.Bool.Decides.{nat_tests}
use Rattle.link_loader.proofs.Reading.{longer_read, none_read}
use Rattle.link_loader.proofs.message.is_answer.Goals as goal

-- numbers that a test tells apart
apart : (a b : ℕ) → nat_eq a b ≡ false → a ≡ b → ⊥
apart a b off same = grind (arith, nat_tests)

pub returns-then-eq-clause-no : goal.returns-then-eq-clause-no
returns-then-eq-clause-no c = λ off. longer_read c.args.bytes.now c.in-Ok.read c.args.request c.in-Ok.ensures.read (apart c.in-Ok.read.len (length c.args.bytes.now) off)

pub returns-in-Err-clause-no : goal.returns-in-Err-clause-no
returns-in-Err-clause-no c = λ off. none_read c.args.bytes.now c.args.request c.in-Err.ensures.bad.1
