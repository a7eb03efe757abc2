use Rattle.std.proofs.Common.{◌≤◌, take, drop, map}
use Rattle.live_telling.specs.Telling.{clocks_of}
use Rattle.live_lines.specs.Reports.{TellsReports}
use Rattle.live_lines.proofs.telling.tell_from.Given as goal

-- those from the index on and before this one were told; no count of a fault has fallen
abbrev pub invariant-loop-i : goal.invariant-loop-i
invariant-loop-i g l = record {
  behind : l.from ≤ l.i;
  told : TellsReports (map g.T.Told.report_of (drop l.from (take l.i l.lines.items))) (clocks_of (g.U.Medium.state l.unit) (g.C.Chip.state l.card_a) (g.C.Chip.state l.card_b)) (g.K.Sink.held l.initial.sink) (g.K.Sink.held l.sink) (g.K.Teller.told l.initial.sink) (g.K.Teller.told l.sink);
  later : g.K.Sink.faults l.initial.sink ≤ g.K.Sink.faults l.sink;
}
