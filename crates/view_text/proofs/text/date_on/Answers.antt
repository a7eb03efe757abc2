-- Of the same day the date stays.
use Rattle.std.proofs.Common.{ℕ, sym, subst}
use Rattle.calendar_days.specs.Calendar.{IsDateText}
use Rattle.view_text.proofs.text.date_on.Goals as goal

pub returns-then-day-before : goal.returns-then-day-before
returns-then-day-before c = subst (λ (day : ℕ). IsDateText day c.args.date.items) (sym c.if-day-before.true) c.requires.before
