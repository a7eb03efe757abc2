use Rattle.std.proofs.Common.{◌∙◌, ◌++◌, List, ap}
use Rattle.json.specs.Print.{print}
use Rattle.json.specs.Token.{Token}
use Rattle.json.specs.Tree.{json_tokens}
use Rattle.json_fields.proofs.Objects.{behind_is}
use Rattle.file_json.specs.Cards.{entry_shown}
use Rattle.file_json.specs.Pieces.{entry_in}
use Rattle.file_json.proofs.card.file_text.Goals as goal

pub returns : goal.returns
returns c =
    let wrote = rw (c.file_head-head.ensures, behind_is 5 c.args.file.now) at c.in_ok-write_file.ensures in
    c.into_text.ensures
    ∙ ap (λ (ts : List Token). print ts)
    (wrote ∙ ap (λ (ts : List Token). ts ++ json_tokens (entry_shown c.args.last c.args.place (entry_in c.args.file.now))) c.new-writer.ensures)
