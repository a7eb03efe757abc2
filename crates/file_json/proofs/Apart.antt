-- The text of a unit file is that of no card file: the first member says which it is.
use Rattle.std.proofs.Common.{◌≡◌, ◌∙◌, ℕ, ◌<◌, ◌^◌, List, length, ap, sym, arith}
use Rattle.std.specs.Prelude.{Option, codes, slice_index}
use Rattle.std.proofs.lemmas.List.{same_from_push}
use Rattle.card_layout.specs.Fields.{IsBytes}
use Rattle.json.specs.Json.{Json, document}
use Rattle.json.specs.Print.{print}
use Rattle.json.specs.Tree.{json_tokens}
use Rattle.json_fields.proofs.Taking.{text_in, members_in, first_in, value_in}
use Rattle.file_view.specs.Files.{AreFiles}
use Rattle.file_json.specs.Units.{IsUnitJson, json_of_unit}
use Rattle.file_json.specs.Cards.{IsCardJson, json_of_card}
use Rattle.file_json.proofs.UnitTelling.{unit_is_json}
use Rattle.file_json.proofs.CardTelling.{card_is_json}

pub told_apart : (last other : Option ℕ) (xs ys out : List ℕ) → length xs < 2 ^ 32 → length ys < 2 ^ 32 → IsBytes xs → IsBytes ys → IsUnitJson last xs out → IsCardJson other ys out → ⊥
told_apart last other xs ys out lx ly bx by jx jy =
    let texts = (same_from_push (print (json_tokens (json_of_unit last jx.messages))) (print (json_tokens (json_of_card other jy.entries))) 10 10 (sym jx.text ∙ jy.text)).0 in
    let fy : AreFiles jy.entries ys = record { each = jy.are.each; spelled = jy.are.spelled } in
    let reads = sym (unit_is_json last jx.messages xs lx bx jx.are) ∙ ap document texts ∙ card_is_json other jy.entries ys ly by fy in
    let words : codes "unit" ≡ codes "card" = ap (λ (o : Option Json). text_in (first_in (members_in (value_in o)))) reads in
    let first : 117 ≡ 99 = ap (λ (l : List ℕ). slice_index l 0) words in
    omega (arith, first)
