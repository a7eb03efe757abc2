use Rattle.std.proofs.Common.{length, subst}
use Rattle.tach_media.specs.Medium.{LeavesOnly}
use Rattle.gated_ring.specs.Ring.{Shape}
use Rattle.gated_ring.specs.Change.{IsSet, OrUnwritten}
use Rattle.message_model.specs.Records.{insertion_ring}
use Rattle.unit_notes.proofs.Withdrawing.{shape_fits, shape_index, shape_width, shape_part_writable, shape_behind_gate, insertions_inside}
use Rattle.unit_notes.proofs.rings.set_part.Goals as goal

pub set_small-requires-clause-fits : goal.set_small-requires-clause-fits
set_small-requires-clause-fits g c = shape_fits c.insertions.result insertion_ring c.insertions.ensures insertions_inside _ c.requires.unit.sized

pub set_small-requires-clause-writable : goal.set_small-requires-clause-writable
set_small-requires-clause-writable g c = shape_part_writable c.insertions.result insertion_ring c.insertions.ensures insertions_inside _ c.args.index c.args.offset (length c.args.bytes.now) c.requires.index c.requires.inside c.requires.unit.writable

pub set_small-requires-clause-index : goal.set_small-requires-clause-index
set_small-requires-clause-index g c = shape_index c.insertions.result insertion_ring c.insertions.ensures insertions_inside c.args.index c.requires.index

pub set_small-requires-clause-width : goal.set_small-requires-clause-width
set_small-requires-clause-width g c = shape_width c.insertions.result insertion_ring c.insertions.ensures insertions_inside _ c.requires.inside

pub set_small-requires-clause-apart : goal.set_small-requires-clause-apart
set_small-requires-clause-apart g c = shape_behind_gate c.insertions.result insertion_ring c.insertions.ensures insertions_inside c.args.offset (length c.args.bytes.now) c.requires.behind

pub returns-clause-moments : goal.returns-clause-moments
returns-clause-moments g c = subst (λ (s : Shape). LeavesOnly (g.M.Medium.state c.args.unit.now) (g.M.Medium.state c.set_small.new.medium) (OrUnwritten (IsSet s c.args.index c.args.offset c.args.bytes.now))) c.insertions.ensures c.set_small.ensures.alters.moments
