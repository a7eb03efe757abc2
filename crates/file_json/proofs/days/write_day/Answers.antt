use Rattle.std.proofs.Common.{◌∙◌, ◌++◌, ℕ, List, ◌-◌, ◌/◌, drop, length, ap}
use Rattle.std.specs.Prelude.{true}
use Rattle.json.specs.Json.{array}
use Rattle.json.specs.Tree.{json_tokens}
use Rattle.json_fields.specs.declared.kinds.Kind.TheVariants.{DailyRecord}
use Rattle.json_fields.specs.declared.names.Name.TheVariants.{ActivityChangeInfos}
use Rattle.json_fields.specs.Kinds.{fields_of}
use Rattle.json_fields.specs.Names.{name_text}
use Rattle.json_fields.specs.Shown.{members_then, value_shown}
use Rattle.json_fields.proofs.Objects.{behind_is}
use Rattle.file_json.specs.Parts.{changes_shown}
use Rattle.file_json.proofs.Stringing.{last_member}
use Rattle.file_json.proofs.days.write_day.Goals as goal

pub returns : goal.returns
returns c =
    last_member c.args.writer.now c.begin_object.new.self c.write_fields.new.writer c.key.new.self c.write_changes.new.writer c.end_object.new.self
    (members_then value_shown (fields_of DailyRecord) c.args.day.now) (name_text ActivityChangeInfos) (array (changes_shown true ((length c.args.day.now - 12) / 2) (drop 12 c.args.day.now)))
    c.in_ok-begin_object.ensures (rw c.fields.ensures.fields at c.in_ok-write_fields.ensures) (rw c.text.ensures at c.in_ok-key.ensures)
    (c.in_ok-write_changes.ensures ∙ ap (λ (l : List ℕ). c.key.new.self ++ json_tokens (array (changes_shown true ((length c.args.day.now - 12) / 2) l))) (behind_is 12 c.args.day.now)) c.in_ok-end_object.ensures
