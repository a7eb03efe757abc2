use Rattle.std.proofs.Common.{◌∙◌, ◌*◌, ◌/◌, sym, ap}
use Rattle.message_model.specs.Sending.{is_in_day}
use Rattle.unit_messages.proofs.Dating.{eq_turned}
use Rattle.unit_messages.proofs.entries.date_of.Goals as goal

pub returns : goal.returns
returns c = λ date. ap (is_in_day date) (sym c.four_in.ensures) ∙ eq_turned (c.four_in.result / 86400 * 86400) date
