use Rattle.std.proofs.Common.{arith}
use Rattle.unit_notes.proofs.Types.{width_is, ring_fits, ring_index, ring_writable}
use Rattle.unit_notes.proofs.noting.count_similar.Goals as goal

pub set_small-requires-clause-fits : goal.set_small-requires-clause-fits
set_small-requires-clause-fits g c = ring_fits c.args.kind c.table_of.result c.table_of.ensures _ c.requires.unit.sized

pub set_small-requires-clause-index : goal.set_small-requires-clause-index
set_small-requires-clause-index g c = ring_index c.args.kind c.table_of.result c.table_of.ensures c.args.place c.requires.place

pub set_small-requires-clause-writable : goal.set_small-requires-clause-writable
set_small-requires-clause-writable g c = ring_writable c.args.kind c.table_of.result c.table_of.ensures _ c.args.place _ _ c.requires.place (omega (arith, c.width_of.ensures.width, width_is c.args.kind)) c.requires.unit.writable
