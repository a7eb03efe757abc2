use Rattle.std.proofs.Common.{◌≡◌, ◌-◌, ◌≤◌, ◌++◌, List}
use Rattle.view_model.specs.declared.UnitShown.{UnitShown}
use Rattle.view_model.specs.declared.Viewed.{Viewed}
use Rattle.view_model.specs.Lines.{lines_of, same_unit}
use Rattle.tacho.specs.LineRuns.{shown_run}
use Rattle.tacho.proofs.minutes.show_run.Given as goal

abbrev pub invariant-loop-done : goal.invariant-loop-done
invariant-loop-done l = record {
  most : l.done ≤ l.times;
  lines : (before : List (Viewed UnitShown)) → l.initial.lines.items ≡ lines_of same_unit before → l.lines.items ≡ lines_of same_unit (before ++ shown_run l.minute l.done);
}

abbrev pub decreases-loop-done : goal.decreases-loop-done
decreases-loop-done l = l.times - l.done
