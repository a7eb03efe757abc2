use Rattle.std.proofs.Common.{Ok}
use Rattle.tach_media.proofs.Runs.{both_told}
use Rattle.device_state.specs.Units.{TellsUnit}
use Rattle.device_state.proofs.unit.told_by.Goals as goal

pub returns-in-Ok-clause-told : goal.returns-in-Ok-clause-told
returns-in-Ok-clause-told g c = both_told (g.M.Medium.state c.args.unit.now).image (TellsUnit c.args.seen.now (Ok c.in-Ok.told)) c.requires.decodes c.in-Ok.ensures.told (λ x is decodes told. (decodes, told))
