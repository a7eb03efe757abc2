use Rattle.std.proofs.Common.{◌≡◌, ◌∙◌, ◌++◌, ◌-◌, ℕ, List, length, take, drop, ap, subst}
use Rattle.std.specs.Fmt.{decimal}
use Rattle.byteorder.specs.Endian.{big_number}
use Rattle.json.specs.Json.{number}
use Rattle.json.specs.Tree.{json_tokens}
use Rattle.json_fields.specs.declared.names.Name.TheVariants as name
use Rattle.json_fields.specs.Names.{name_text}
use Rattle.json_fields.specs.Shown.{AddsMembers}
use Rattle.json_fields.proofs.Objects.{behind_is}
use Rattle.file_json.specs.Cards.{bytes_then}
use Rattle.file_json.specs.Days.{string_shown}
use Rattle.file_json.proofs.Left.{three_then}
use Rattle.file_json.proofs.card.write_days.Goals as goal

pub returns : goal.returns
returns c =
    let oldest : c.read_u16-oldest.result ≡ big_number 2 c.args.value.now = c.read_u16-oldest.ensures in
    let newest : c.read_u16-newest.result ≡ big_number 2 (drop 2 c.args.value.now) = c.read_u16-newest.ensures ∙ ap (big_number 2) (behind_is 2 c.args.value.now) in
    three_then c.args.writer.now c.begin_object.new.self c.key.new.self c.u64.new.self c.key-2.new.self c.u64-2.new.self c.key-3.new.self c.write_string.new.writer c.write_bytes.new.writer c.end_object.new.self
    (name_text name.ActivityPointerOldestDayRecord) (name_text name.ActivityPointerNewestRecord) (name_text name.ActivityDailyRecords)
    (number (decimal (big_number 2 c.args.value.now))) (number (decimal (big_number 2 (drop 2 c.args.value.now))))
    (string_shown c.args.last (big_number 2 c.args.value.now) (big_number 2 (drop 2 c.args.value.now)) (drop 4 c.args.value.now))
    (bytes_then c.args.last (drop 4 c.args.value.now))
    c.in_ok-begin_object.ensures
    (rw c.text.ensures at c.in_ok-key.ensures)
    (c.in_ok-u64.ensures ∙ ap (λ (n : ℕ). c.key.new.self ++ json_tokens (number (decimal n))) oldest)
    (rw c.text-2.ensures at c.in_ok-key-2.ensures)
    (c.in_ok-u64-2.ensures ∙ ap (λ (n : ℕ). c.key-2.new.self ++ json_tokens (number (decimal n))) newest)
    (rw c.text-3.ensures at c.in_ok-key-3.ensures)
    (c.in_ok-write_string.ensures
    ∙ ap (λ (n : ℕ). c.key-3.new.self ++ json_tokens (string_shown c.args.last n c.read_u16-newest.result (take (length c.args.value.now - 4) (drop 4 c.args.value.now)))) oldest
    ∙ ap (λ (n : ℕ). c.key-3.new.self ++ json_tokens (string_shown c.args.last (big_number 2 c.args.value.now) n (take (length c.args.value.now - 4) (drop 4 c.args.value.now)))) newest
    ∙ ap (λ (l : List ℕ). c.key-3.new.self ++ json_tokens (string_shown c.args.last (big_number 2 c.args.value.now) (big_number 2 (drop 2 c.args.value.now)) l)) (behind_is 4 c.args.value.now))
    (subst (λ (l : List ℕ). AddsMembers c.write_string.new.writer c.write_bytes.new.writer (bytes_then c.args.last l)) (behind_is 4 c.args.value.now) c.in_ok-write_bytes.ensures)
    c.in_ok-end_object.ensures
