use Rattle.std.proofs.Common.{◌≡◌, ℕ, List, drop, sym, subst}
use Rattle.std.specs.Prelude.{slice_index, codes}
use Rattle.std.specs.Fmt.{decimal}
use Rattle.json.specs.Json.{number, string}
use Rattle.message_model.specs.Messages.{message_bytes}
use Rattle.json_fields.specs.Shown.{AddsMembers}
use Rattle.json_fields.proofs.Objects.{behind_is}
use Rattle.file_json.specs.Parts.{HasParts, parts_then}
use Rattle.file_json.specs.Units.{message_name, parts_of}
use Rattle.file_json.proofs.Left.{three_then}
use Rattle.file_json.proofs.Standing.{has_parts}
use Rattle.file_json.proofs.unit.write_message.Goals as goal

-- the parts of what was handed in
handed : (message bytes : List ℕ) → message ≡ bytes → HasParts (parts_of (slice_index bytes 1)) (drop 2 bytes) → HasParts (parts_of (slice_index message 1)) (drop 2 message)
handed message bytes is has = subst (λ (l : List ℕ). HasParts (parts_of (slice_index l 1)) (drop 2 l)) (sym is) has

pub write_parts-requires : goal.write_parts-requires
write_parts-requires c =
    rw c.parts_of.ensures.parts
    (subst (λ (l : List ℕ). HasParts (parts_of (slice_index c.args.message.now 1)) l) (sym (behind_is 2 c.args.message.now))
    (handed c.args.message.now (message_bytes c.requires.0) c.requires.2 (has_parts c.requires.0 c.requires.1)))

pub returns : goal.returns
returns c =
    three_then c.args.writer.now c.begin_object.new.self c.key.new.self c.u64.new.self c.key-2.new.self c.u64-2.new.self c.key-3.new.self c.string.new.self c.write_parts.new.writer c.end_object.new.self
    (codes "place") (codes "trep") (codes "message")
    (number (decimal c.args.place)) (number (decimal (slice_index c.args.message.now 1))) (string (message_name (slice_index c.args.message.now 1)))
    (parts_then (parts_of (slice_index c.args.message.now 1)) (drop 2 c.args.message.now))
    c.in_ok-begin_object.ensures c.in_ok-key.ensures c.in_ok-u64.ensures c.in_ok-key-2.ensures c.in_ok-u64-2.ensures c.in_ok-key-3.ensures
    (rw c.message_name.ensures at c.in_ok-string.ensures)
    (subst (λ (l : List ℕ). AddsMembers c.string.new.self c.write_parts.new.writer (parts_then (parts_of (slice_index c.args.message.now 1)) l)) (behind_is 2 c.args.message.now) (rw c.parts_of.ensures.parts at c.in_ok-write_parts.ensures))
    c.in_ok-end_object.ensures
