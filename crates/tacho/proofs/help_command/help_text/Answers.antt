use Rattle.std.proofs.Common.{refl}
use Rattle.tacho.specs.Help.{help_text}
use Rattle.tacho.proofs.help_command.help_text.Goals as goal

pub returns : goal.returns
unfolding help_text
returns c = refl
