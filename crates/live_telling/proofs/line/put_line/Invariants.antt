use Rattle.std.proofs.Common.{◌-◌, ◌≤◌, length, take}
use Rattle.std.specs.Io.KnownBytes.{Appends}
use Rattle.live_telling.specs.Telling.{clocks_of}
use Rattle.live_telling.proofs.Told.{Front}
use Rattle.live_telling.proofs.line.put_line.Given as goal

abbrev pub invariant-loop-done : goal.invariant-loop-done
invariant-loop-done g l = record {
  fits : l.done ≤ length l.line;
  held : Appends (g.K.Sink.held l.initial.sink) (g.K.Sink.held l.sink) (take l.done l.line);
  faults : g.K.Sink.faults l.initial.sink ≤ g.K.Sink.faults l.sink;
  front : Front l.line l.done (clocks_of (g.U.Medium.state l.unit) (g.C.Chip.state l.card_a) (g.C.Chip.state l.card_b)) (g.K.Teller.told l.initial.sink) (g.K.Teller.told l.sink);
}

abbrev pub decreases-loop-done : goal.decreases-loop-done
decreases-loop-done g l = length l.line - l.done
