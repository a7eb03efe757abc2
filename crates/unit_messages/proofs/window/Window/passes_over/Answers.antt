use Rattle.std.proofs.Common.{◌≡◌, ap, sym, arith}
use Rattle.unit_messages.specs.Windows.{Sight}
use Rattle.unit_messages.proofs.Windows.{over_passed, passed_full}
use Rattle.unit_messages.proofs.window.Window.passes_over.Goals as goal

pub returns-then-len-self-clause-over : goal.returns-then-len-self-clause-over
returns-then-len-self-clause-over c =
    let skip_is : c.self.inside.skip ≡ c.args.self.now.skip = ap (λ (s : Sight). s.skip) c.self.view_is in
    λ yes bytes long. over_passed c.pass_over.new.self c.args.self.now bytes c.args.len long (omega (arith, skip_is, c.if-len-self.true)) c.pass_over.ensures.skip c.pass_over.ensures.held

pub returns-clause-over : goal.returns-clause-over
returns-clause-over c = λ yes bytes long. sym (passed_full c.args.self.now bytes (c.is_full.ensures.0 yes))
