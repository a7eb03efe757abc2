use Rattle.std.proofs.Common.{◌∙◌, refl, sym}
use Rattle.noisy_link.proofs.Stepping.{ok_so}
use Rattle.noisy_download.proofs.Happening.{request_there, request_none, request_added}
use Rattle.noisy_download.proofs.noisy.Noisy.list_request.Goals as goal

pub returns-then-self-clause-listed : goal.returns-then-self-clause-listed
returns-then-self-clause-listed c = request_there c.args.self.now.listed _ c.args.wire.now c.if-self.true

pub returns-in_default-clause-listed : goal.returns-in_default-clause-listed
returns-in_default-clause-listed c = request_none c.args.self.now.listed _ c.args.wire.now c.if-self.false (sym c.request.ensures ∙ c.in_default.is)

pub returns-clause-listed : goal.returns-clause-listed
returns-clause-listed c = request_added c.args.self.now.listed _ c.in-Some.frame c.args.wire.now c.push.new.self c.if-self.false (sym c.request.ensures ∙ c.in-Some.is) (ok_so c.push.result (sym c.is_err.ensures.value ∙ c.if-is_err.false) c.push.ensures.ok c.args.wire.now refl)
