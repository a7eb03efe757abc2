use Rattle.std.proofs.Common.{append_assoc}
use Rattle.json_fields.proofs.values.write_change.Goals as goal

pub returns : goal.returns
returns c =
    rw (
      c.in_ok-end_object.ensures,
      c.in_ok-string-2.ensures,
      c.activity_word.ensures,
      c.in_ok-key-5.ensures,
      c.in_ok-boolean-2.ensures,
      c.in_ok-key-4.ensures,
      c.in_ok-boolean.ensures,
      c.in_ok-key-3.ensures,
      c.status_word.ensures,
      c.in_ok-string.ensures,
      c.slot_word.ensures,
      c.in_ok-key-2.ensures,
      c.in_ok-u64.ensures,
      c.in_ok-key.ensures,
      c.in_ok-begin_object.ensures,
    ) (simp append_assoc)
