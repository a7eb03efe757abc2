use Rattle.std.specs.Prelude.{codes, decimal, drop, slice_index}
use Rattle.state_text.specs.Shown.{shown}
use Rattle.state_text.proofs.Joining.{three_pieces}
use Rattle.state_text.proofs.text.write_plate.Goals as goal

pub returns : goal.returns
returns c =
    rw (c.in_ok-write_shown.ensures, c.split_at.ensures.back, c.in_ok-extend_from_slice.ensures.items, c.in_ok-write_number.ensures)
    (three_pieces c.args.text.now.items (decimal (slice_index c.args.registration.now.0 0)) (codes " ") (shown (drop 2 c.args.registration.now.0)))
