use Rattle.std.proofs.Common.{◌∙◌, ◌<◌, sym, subst, refl, List, arith}
use Rattle.unit_model.specs.Days.{UnitMinute}
use Rattle.tacho_types.specs.declared.calendar.TheConstants.{DAYS}
use Rattle.file_calls.specs.Asking.{IsLeastDay}
use Rattle.file_calls.proofs.FirstDay.{none_begun, least_begun, least_low}
use Rattle.file_calls.proofs.At.{told}
use Rattle.file_calls.proofs.unit.UnitHistoryUnitMinutes.first_day.Goals as goal

pub overflow_mul-second : goal.overflow_mul-second
overflow_mul-second c =
    let low : c.in-Some.day < DAYS = least_low c.lines.result.now c.in-Some.day c.lines.ensures.lines (least_begun (told c.lines.result.now) c.in-Some.day c.in-Some.ensures) in
    omega arith

pub returns-in-Some : goal.returns-in-Some
returns-in-Some c = (c.in-Some.day, refl, subst (λ (ms : List UnitMinute). IsLeastDay ms c.in-Some.day) c.lines.ensures.minutes (least_begun (told c.lines.result.now) c.in-Some.day c.in-Some.ensures))

pub returns-in-None : goal.returns-in-None
returns-in-None c = sym c.lines.ensures.minutes ∙ none_begun (told c.lines.result.now) c.in-None.ensures
