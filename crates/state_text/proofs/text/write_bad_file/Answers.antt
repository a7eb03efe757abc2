use Rattle.std.proofs.Common.{◌/◌, ◌%◌}
use Rattle.std.specs.Prelude.{codes, decimal}
use Rattle.state_text.specs.Shown.{two_hex}
use Rattle.state_text.proofs.Joining.{file_pieces}
use Rattle.state_text.proofs.text.write_bad_file.Goals as goal

pub returns : goal.returns
returns c =
    rw (c.in_ok-write_behind.ensures, c.in_ok-write_two_hex-2.ensures, c.in_ok-write_two_hex.ensures, c.in_ok-extend_from_slice.ensures.items)
    (file_pieces c.args.text.now.items (codes "bad file ") (two_hex (c.args.fid / 256)) (two_hex (c.args.fid % 256)) (codes " at ") (decimal c.args.place))
