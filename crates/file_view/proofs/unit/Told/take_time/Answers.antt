use Rattle.std.proofs.Common.{◌∙◌, sym}
use Rattle.file_view.proofs.UnitFronts.{first_taken}
use Rattle.file_view.proofs.unit.Told.take_time.Goals as goal

pub returns-clause-time : goal.returns-clause-time
returns-clause-time c = λ m begins. first_taken c.args.self.now.time m.now c.overview-read.result.now.0 (sym c.is_some.ensures ∙ c.if-is_some.false) (c.overview-read.ensures m begins).now
