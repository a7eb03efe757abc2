use Rattle.std.proofs.Common.{◌<◌, take, length, get_or, arith}
use Rattle.std.proofs.lemmas.List.{take_more}
use Rattle.state_text.proofs.Texts.{no_line, lines-more, dated-at}
use Rattle.state_text.proofs.text.lines_text.Goals as goal

pub write_line-requires : goal.write_line-requires
write_line-requires c = dated-at c.args.lines.now c.loop-line.line-index (omega arith) c.requires

pub loop-line-preserved : goal.loop-line-preserved
loop-line-preserved c =
    let lt : c.loop-line.line-index < length c.args.lines.now = omega arith in
    rw (take_more c.args.lines.now c.loop-line.line-index no_line lt)
    (lines-more (take c.loop-line.line-index c.args.lines.now) (get_or c.args.lines.now c.loop-line.line-index no_line) c.loop-line.text.items _ c.loop-line.invariant c.in_ok-write_line.ensures)
