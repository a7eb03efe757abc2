use Rattle.std.proofs.Common.{◌≡◌, ◌∙◌, ℕ, ◌-◌, List, length, take, drop, ap, subst}
use Rattle.std.specs.Prelude.{IfOk}
use Rattle.file_view.proofs.Telling.{rest_is}
use Rattle.unit_speeds.specs.declared.line.SpeedLine.{SpeedLine}
use Rattle.unit_speeds.specs.Text.{AreSpeedLines, last_lines}
use Rattle.unit_speeds.proofs.text.last_text.Goals as goal

pub returns : goal.returns
returns c =
    let lines = c.args.lines.now in
    let shown : take (length c.args.lines.now - c.first_of-from.result) (drop c.first_of-from.result c.args.lines.now) ≡ last_lines c.args.last c.args.lines.now =
    rest_is lines c.first_of-from.result ∙ ap (λ (n : ℕ). drop n c.args.lines.now) c.first_of-from.ensures.value in
    subst (λ (l : List SpeedLine). IfOk c.lines_text.result (λ text. AreSpeedLines l text.items)) shown c.lines_text.ensures
