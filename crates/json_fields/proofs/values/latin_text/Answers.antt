use Rattle.std.proofs.Common.{◌<◌, length, string_bytes, arith}
use Rattle.json_fields.proofs.Objects.{character_more}
use Rattle.json_fields.proofs.values.latin_text.Goals as goal

pub loop-byte-preserved : goal.loop-byte-preserved
loop-byte-preserved c =
    let low : c.loop-byte.byte-index < length c.args.bytes.now = omega arith in
    character_more c.args.bytes.now c.loop-byte.byte-index (string_bytes c.loop-byte.text) (string_bytes c.push.new.self) low c.loop-byte.invariant c.in_ok-push.ensures.bytes
