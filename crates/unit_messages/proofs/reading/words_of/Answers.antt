use Rattle.std.proofs.Common.{rules, arith}
use Rattle.unit_messages.proofs.Fronts.{words_inside}
use Rattle.unit_messages.proofs.reading.words_of.Goals as goal

pub two_in-insertions-requires : goal.two_in-insertions-requires
two_in-insertions-requires c = let inside = words_inside c.args.b.now c.requires.ends.0 (search rules) c.requires.some c.requires.ends.1 in omega (arith, inside)

pub two_in-count-requires : goal.two_in-count-requires
two_in-count-requires c = let inside = words_inside c.args.b.now c.requires.ends.0 (search rules) c.requires.some c.requires.ends.1 in omega (arith, inside, c.two_in-insertions.ensures)
