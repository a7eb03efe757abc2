use Rattle.std.proofs.Common.{◌∙◌, ◌++◌, ℕ, List, drop, ap, sym}
use Rattle.std.specs.Prelude.{codes, slice_index}
use Rattle.json.specs.Json.{Json}
use Rattle.json.specs.Tree.{json_tokens}
use Rattle.json_fields.specs.declared.codes.Coding.TheVariants.{Nation}
use Rattle.json_fields.specs.Texts.{or_none, registration_value, code_value, text_value}
use Rattle.json_fields.proofs.Objects.{behind_is, or_none-told, two_values}
use Rattle.json_fields.proofs.values.write_registration.Goals as goal

pub returns : goal.returns
returns c =
    two_values c.args.writer.now c.begin_object.new.self c.key.new.self c.write_code.new.writer c.key-2.new.self c.write_text.new.writer c.end_object.new.self
    (codes "vehicleRegistrationNation") (codes "vehicleRegistrationNumber")
    (json_tokens (code_value Nation (slice_index c.args.bytes.now 0))) (json_tokens (or_none text_value (drop 1 c.args.bytes.now)))
    c.in_ok-begin_object.ensures c.in_ok-key.ensures c.in_ok-write_code.ensures c.in_ok-key-2.ensures
    (c.in_ok-write_text.ensures ∙ ap (λ (l : List ℕ). c.key-2.new.self ++ json_tokens (or_none text_value l)) (behind_is 1 c.args.bytes.now)) c.in_ok-end_object.ensures
    ∙ ap (λ (j : Json). c.args.writer.now ++ json_tokens j) (sym (or_none-told registration_value c.args.bytes.now c.are_zeros.result c.are_zeros.ensures c.if-are_zeros.false))
