use Rattle.std.specs.Prelude.{false}
use Rattle.json.proofs.Printed.Tokens.{print_from-append}
use Rattle.json_fields.proofs.laws.a_text_is_printed_in_pieces.Goals as goal

pub returns : goal.returns
returns c = print_from-append false
