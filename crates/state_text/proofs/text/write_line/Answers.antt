use Rattle.std.proofs.Common.{ℕ, subst}
use Rattle.std.specs.Prelude.{codes}
use Rattle.calendar_days.specs.Calendar.{IsDateText}
use Rattle.run_model.specs.Names.{device_name}
use Rattle.state_text.specs.Lines.{name_text}
use Rattle.state_text.specs.Text.{value_text}
use Rattle.state_text.proofs.Joining.{five_pieces}
use Rattle.state_text.proofs.text.write_line.Goals as goal

pub returns : goal.returns
returns c = (
  c.day_text-date.result.items,
  subst (λ (d : ℕ). IsDateText d c.day_text-date.result.items) c.day_of.ensures c.day_text-date.ensures,
  rw (
    c.in_ok-extend_from_slice-4.ensures.items,
    c.in_ok-write_value.ensures,
    c.as_slice.ensures.value,
    c.in_ok-extend_from_slice-3.ensures.items,
    c.in_ok-extend_from_slice-2.ensures.items,
    c.name_text.ensures,
    c.in_ok-extend_from_slice.ensures.items,
    c.device_name.ensures,
  ) (five_pieces c.args.text.now.items (device_name c.args.line.now.device) (name_text c.args.line.now.name) (codes " ") (value_text c.day_text-date.result.items c.args.line.now.value) (codes "\n")),
)
