use Rattle.std.proofs.Common.{◌∙◌, ◌++◌, List, ap}
use Rattle.json.specs.Print.{print}
use Rattle.json.specs.Token.{Token}
use Rattle.json.specs.Tree.{json_tokens}
use Rattle.file_json.specs.Units.{message_shown}
use Rattle.file_json.proofs.unit.message_text.Goals as goal

pub returns : goal.returns
returns c =
    c.into_text.ensures
    ∙ ap (λ (ts : List Token). print ts)
    (c.in_ok-write_message.ensures ∙ ap (λ (ts : List Token). ts ++ json_tokens (message_shown c.args.place c.args.message.now)) c.new-writer.ensures)
