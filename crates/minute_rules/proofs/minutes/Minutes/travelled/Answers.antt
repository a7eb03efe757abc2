use Rattle.std.proofs.Common.{◌∙◌, ap}
use Rattle.minute_rules.specs.Kept.{Kept}
use Rattle.minute_rules.proofs.Giving.{travelled-stands}
use Rattle.minute_rules.proofs.minutes.Minutes.travelled.Goals as goal

pub returns : goal.returns
returns c = λ span h. ap (λ (k : Kept). k.here.travelled) c.self.view_is ∙ travelled-stands span c.args.self.now h
