use Rattle.std.proofs.Common.{◌≡◌, ℕ, List, subst}
use Rattle.std.specs.Prelude.{IfOk}
use Rattle.json.specs.Print.{print}
use Rattle.json.specs.Tree.{json_tokens}
use Rattle.file_json.specs.Cards.{entry_shown}
use Rattle.file_json.specs.Pieces.{entry_in}
use Rattle.file_json.proofs.pieces.piece_text.Goals as goal

pub returns-in-File : goal.returns-in-File
returns-in-File c =
    rw c.in-File.is
    (subst (λ (l : List ℕ). IfOk c.file_text.result (λ text. text.items ≡ print (json_tokens (entry_shown c.in-File.last c.in-File.place (entry_in l))))) c.part-in-File.ensures.bytes c.file_text.ensures)
