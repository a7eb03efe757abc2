use Rattle.std.proofs.Common.{drop}
use Rattle.json_fields.specs.Shown.{members_then, plain_shown}
use Rattle.json_fields.proofs.Records.{HasWrittenPlain}
use Rattle.json_fields.proofs.fields.write_plain_fields.Given as goal

-- what is written with what the fields behind this one make is the record
abbrev pub invariant-loop-field : goal.invariant-loop-field
invariant-loop-field l = HasWrittenPlain (drop l.field-index l.fields) l.rest l.fn.writer l.writer (members_then plain_shown l.fn.fields l.fn.bytes)
