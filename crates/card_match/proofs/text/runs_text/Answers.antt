use Rattle.std.proofs.Common.{◌<◌, take, length, get_or, arith}
use Rattle.std.proofs.lemmas.List.{take_more}
use Rattle.view_model.specs.declared.Line.{Line}
use Rattle.tacho_types.specs.declared.calendar.TheConstants.{DAYS}
use Rattle.view_text.proofs.Texts.{below-at}
use Rattle.card_match.specs.declared.difference.Difference.{Difference}
use Rattle.card_match.proofs.Empty.{no_run}
use Rattle.card_match.proofs.RunTexts.{runs_more}
use Rattle.card_match.proofs.text.runs_text.Goals as goal

pub write_run-requires : goal.write_run-requires
write_run-requires c = below-at DAYS c.args.runs.now c.loop-run.run-index no_run (omega arith) c.requires

pub loop-run-preserved : goal.loop-run-preserved
loop-run-preserved c =
    let lt : c.loop-run.run-index < length c.args.runs.now = omega arith in
    let run : Line Difference = get_or c.args.runs.now c.loop-run.run-index no_run in
    rw (take_more c.args.runs.now c.loop-run.run-index no_run lt)
    (runs_more (take c.loop-run.run-index c.args.runs.now) (get_or c.args.runs.now c.loop-run.run-index no_run) c.loop-run.text.items _ c.loop-run.invariant c.in_ok-write_run.ensures)
