use Rattle.std.proofs.Common.{◌∙◌, ◌++◌, List, [], ◌∷◌, ap, append_assoc}
use Rattle.json.specs.Json.{no_members}
use Rattle.json.specs.Token.{Token}
use Rattle.json.specs.Tree.{members_tokens}
use Rattle.json_fields.specs.Shown.{members_shown}
use Rattle.json_fields.proofs.fields.write_record.Goals as goal

pub returns : goal.returns
returns c =
    c.in_ok-end_object.ensures
    ∙ c.in_ok-write_fields.ensures no_members
    ∙ ap (λ (ts : List Token). ts ++ members_tokens (members_shown c.args.fields.now c.args.bytes.now)) c.in_ok-begin_object.ensures
    ∙ append_assoc c.args.writer.now (Token.begin_object ∷ []) (members_tokens (members_shown c.args.fields.now c.args.bytes.now))
