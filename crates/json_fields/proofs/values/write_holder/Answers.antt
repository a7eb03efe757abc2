use Rattle.std.proofs.Common.{◌∙◌, ◌++◌, List, ℕ, take, drop, ap, sym}
use Rattle.std.specs.Prelude.{codes}
use Rattle.json.specs.Json.{Json}
use Rattle.json.specs.Tree.{json_tokens}
use Rattle.json_fields.specs.Texts.{or_none, holder_value, text_value}
use Rattle.json_fields.proofs.Objects.{or_none-told, two_values}
use Rattle.json_fields.proofs.values.write_holder.Goals as goal

pub returns : goal.returns
returns c =
    two_values c.args.writer.now c.begin_object.new.self c.key.new.self c.write_text.new.writer c.key-2.new.self c.write_text-2.new.writer c.end_object.new.self
    (codes "holderSurname") (codes "holderFirstNames")
    (json_tokens (or_none text_value (take 36 c.args.bytes.now))) (json_tokens (or_none text_value (drop 36 c.args.bytes.now)))
    c.in_ok-begin_object.ensures c.in_ok-key.ensures
    (c.in_ok-write_text.ensures ∙ ap (λ (l : List ℕ). c.key.new.self ++ json_tokens (or_none text_value l)) c.split_at.ensures.front)
    c.in_ok-key-2.ensures
    (c.in_ok-write_text-2.ensures ∙ ap (λ (l : List ℕ). c.key-2.new.self ++ json_tokens (or_none text_value l)) c.split_at.ensures.back)
    c.in_ok-end_object.ensures
    ∙ ap (λ (j : Json). c.args.writer.now ++ json_tokens j) (sym (or_none-told holder_value c.args.bytes.now c.are_zeros.result c.are_zeros.ensures c.if-are_zeros.false))
