use Rattle.std.proofs.Common.{◌∙◌, refl, sym}
use Rattle.noisy_link.proofs.Stepping.{ok_so}
use Rattle.noisy_download.proofs.Happening.{answer_none, answer_added}
use Rattle.noisy_download.proofs.noisy.Noisy.list_answer.Goals as goal

pub returns-in_default-clause-listed : goal.returns-in_default-clause-listed
returns-in_default-clause-listed c = answer_none _ c.args.self.now.listed c.args.wire.now (sym c.brought.ensures ∙ c.in_default.is)

pub returns-clause-listed : goal.returns-clause-listed
returns-clause-listed c = answer_added _ c.args.self.now.listed c.in-Some.frame c.args.wire.now c.push.new.self (sym c.brought.ensures ∙ c.in-Some.is) (ok_so c.push.result (sym c.is_err.ensures.value ∙ c.if-is_err.false) c.push.ensures.ok c.args.wire.now refl)
