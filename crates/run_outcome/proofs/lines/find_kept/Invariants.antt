use Rattle.std.proofs.Common.{◌≡◌, List, ◌++◌, length}
use Rattle.std.specs.Prelude.{map}
use Rattle.log_model.specs.declared.lines.Break.{Break}
use Rattle.run_outcome.specs.Lines.{with_kept}
use Rattle.run_outcome.proofs.lines.find_kept.Given as goal

abbrev pub invariant-loop-i : goal.invariant-loop-i
invariant-loop-i l =
    (front : List Break) × (back : List Break) × (l.initial.breaks ≡ front ++ back) × (length front ≡ l.i) × (l.breaks ≡ map (with_kept l.kept) front ++ back)
