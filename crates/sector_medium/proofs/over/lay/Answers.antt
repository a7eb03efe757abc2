use Rattle.std.proofs.Common.{length, sym, ◌∙◌, arith}
use Rattle.sector_medium.proofs.Laying.{lay_none, laid}
use Rattle.sector_medium.proofs.over.lay.Goals as goal

pub returns-then-from-to : goal.returns-then-from-to
returns-then-from-to c = λ x room inside read.
    laid x c.args.bytes.now c.args.out.now c.copy_from_slice.new.self c.args.border c.args.place c.max-from.result c.min-to.result (omega (arith, room, c.told-bytes)) c.told-bytes c.max-from.ensures c.min-to.ensures c.if-from-to.true read c.copy_from_slice.ensures.after

pub returns-else-from-to : goal.returns-else-from-to
returns-else-from-to c = λ x room inside read.
    read ∙ sym (lay_none x c.args.bytes.now c.args.border c.args.place (length c.args.out.now) (omega (arith, room, c.told-bytes)) (omega (arith, c.told-bytes)) (omega (arith, c.told-bytes, c.max-from.ensures, c.min-to.ensures, c.if-from-to.false)))
