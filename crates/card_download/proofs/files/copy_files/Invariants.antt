use Rattle.std.proofs.Common.{◌≤◌, drop, false}
use Rattle.std.specs.Prelude.{IfSome}
use Rattle.card_download.proofs.Copying.{IsOnTheWay}
use Rattle.tach_media.specs.Medium.{Reads}
use Rattle.card_download.proofs.files.copy_files.Given as goal

abbrev pub invariant-loop-file : goal.invariant-loop-file
invariant-loop-file g l = record {
  copied : IfSome (g.M.Medium.state l.fn.medium).image (IsOnTheWay l.app (drop l.file-index l.file-items) (g.K.Sink.held l.fn.sink) (g.K.Sink.held l.sink));
  counts : g.K.Sink.faults l.fn.sink ≤ g.K.Sink.faults l.sink;
  reads : Reads (g.M.Medium.state l.fn.medium) (g.M.Medium.state l.medium) false;
}
