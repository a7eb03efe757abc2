use Rattle.std.proofs.Common.{◌∙◌, ◌++◌, ℕ, List, drop, ap, sym}
use Rattle.std.specs.Prelude.{codes, slice_index}
use Rattle.json.specs.Json.{Json}
use Rattle.json.specs.Tree.{json_tokens}
use Rattle.json_fields.specs.declared.codes.Coding.TheVariants.{Equipment, Nation}
use Rattle.json_fields.specs.Texts.{card_value, code_value, text_of}
use Rattle.json_fields.proofs.Objects.{behind_is, or_none-told, three_values}
use Rattle.json_fields.proofs.values.write_card.Goals as goal

pub returns : goal.returns
returns c =
    three_values c.args.writer.now c.begin_object.new.self c.key.new.self c.write_code.new.writer c.key-2.new.self c.write_code-2.new.writer c.key-3.new.self c.write_latin.new.writer c.end_object.new.self
    (codes "cardType") (codes "cardIssuingMemberState") (codes "cardNumber")
    (json_tokens (code_value Equipment (slice_index c.args.bytes.now 0))) (json_tokens (code_value Nation (slice_index c.args.bytes.now 1))) (json_tokens (text_of (drop 2 c.args.bytes.now)))
    c.in_ok-begin_object.ensures c.in_ok-key.ensures c.in_ok-write_code.ensures c.in_ok-key-2.ensures c.in_ok-write_code-2.ensures c.in_ok-key-3.ensures
    (c.in_ok-write_latin.ensures ∙ ap (λ (l : List ℕ). c.key-3.new.self ++ json_tokens (text_of l)) (behind_is 2 c.args.bytes.now)) c.in_ok-end_object.ensures
    ∙ ap (λ (j : Json). c.args.writer.now ++ json_tokens j) (sym (or_none-told card_value c.args.bytes.now c.are_zeros.result c.are_zeros.ensures c.if-are_zeros.false))
