use Rattle.std.proofs.Common.{◌≡◌, ◌+◌, ◌*◌, arith}
use Rattle.link_frames.proofs.table.code_in.Goals as goal

pub returns : goal.returns
returns c =
    let told : c.from_be_bytes.result ≡ c.byte_at-high.result * 256 + c.byte_at-low.result = c.from_be_bytes.ensures in
    omega (arith, told, c.byte_at-high.ensures, c.byte_at-low.ensures)
