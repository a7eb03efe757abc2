use Rattle.std.proofs.Common.{◌∙◌, sym}
use Rattle.card_layout.proofs.Spelled.{number_two_bytes}
use Rattle.card_commands.proofs.codec.two_in.Goals as goal

pub returns : goal.returns
returns c = c.from_be_bytes.ensures ∙ sym (number_two_bytes c.args.b.now c.args.place)
