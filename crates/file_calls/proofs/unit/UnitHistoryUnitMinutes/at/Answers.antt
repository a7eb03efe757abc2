use Rattle.std.proofs.Common.{◌∙◌, List, ap}
use Rattle.unit_model.specs.Days.{UnitMinute}
use Rattle.file_calls.specs.Asking.{shown_at}
use Rattle.file_calls.proofs.unit.UnitHistoryUnitMinutes.at.Goals as goal

pub returns : goal.returns
returns c = c.shown_on.ensures ∙ ap (λ (ms : List UnitMinute). shown_at ms c.args.minute) c.lines.ensures.minutes
