use Rattle.std.proofs.Common.{arith}
use Rattle.card_validity.proofs.Places.{day_file}
use Rattle.card_validity.proofs.files.round_of.Goals as goal

pub slice_bounds-read_u16-end : goal.slice_bounds-read_u16-end
slice_bounds-read_u16-end c = omega (arith, day_file c.args.app.now, c.file_of-base.ensures.len, c.file_of-base.ensures.inside, c.requires.inside)
