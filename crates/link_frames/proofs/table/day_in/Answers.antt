use Rattle.std.proofs.Common.{◌≡◌, ◌+◌, ◌*◌, arith}
use Rattle.link_frames.proofs.table.day_in.Goals as goal

pub returns : goal.returns
returns c =
    let told : c.from_be_bytes.result ≡ c.byte_at-first.result * 16777216 + c.byte_at-second.result * 65536 + c.byte_at-third.result * 256 + c.byte_at-fourth.result = c.from_be_bytes.ensures in
    omega (arith, told, c.byte_at-first.ensures, c.byte_at-second.ensures, c.byte_at-third.ensures, c.byte_at-fourth.ensures)
