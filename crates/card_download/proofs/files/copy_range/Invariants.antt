use Rattle.std.proofs.Common.{◌-◌, ◌≤◌, false}
use Rattle.std.specs.Prelude.{IfSome}
use Rattle.std.specs.Io.KnownBytes.{Appends}
use Rattle.tach_media.specs.Medium.{Reads, bytes_at}
use Rattle.card_download.proofs.files.copy_range.Given as goal

abbrev pub invariant-loop-done : goal.invariant-loop-done
invariant-loop-done g l = record {
  inside : l.done ≤ l.range.len;
  copied : IfSome (g.M.Medium.state l.fn.medium).image (λ x. Appends (g.K.Sink.held l.fn.sink) (g.K.Sink.held l.sink) (bytes_at x l.range.base l.done));
  counts : g.K.Sink.faults l.fn.sink ≤ g.K.Sink.faults l.sink;
  reads : Reads (g.M.Medium.state l.fn.medium) (g.M.Medium.state l.medium) false;
}

abbrev pub decreases-loop-done : goal.decreases-loop-done
decreases-loop-done g l = l.range.len - l.done
