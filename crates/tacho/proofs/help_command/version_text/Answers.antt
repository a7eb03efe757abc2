use Rattle.std.proofs.Common.{refl}
use Rattle.tacho.specs.Help.{version_text}
use Rattle.tacho.proofs.help_command.version_text.Goals as goal

pub returns : goal.returns
unfolding version_text
returns c = refl
