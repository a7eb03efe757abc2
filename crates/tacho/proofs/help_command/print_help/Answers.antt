use Rattle.tacho.proofs.Printed.{text-ends}
use Rattle.tacho.proofs.help_command.print_help.Goals as goal

pub returns-clause-ends : goal.returns-clause-ends
returns-clause-ends g c = text-ends _ _ _ c.print_text.result (rw c.help_text.ensures at c.print_text.ensures)
