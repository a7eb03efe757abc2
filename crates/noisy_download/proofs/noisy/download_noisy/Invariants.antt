use Rattle.std.proofs.Common.{◌≡◌, ◌≤◌, false}
use Rattle.unit_minutes.specs.Reading.{ReadsIfAny}
use Rattle.noisy_link.specs.Sides.{is_over}
use Rattle.noisy_download.specs.Listing.{IsUnderway}
use Rattle.noisy_download.proofs.noisy.download_noisy.Given as goal

-- the download is underway
abbrev pub invariant-loop-round : goal.invariant-loop-round
invariant-loop-round g l = record {
  underway : IsUnderway (g.U.Medium.state l.fn.unit).image (g.K.Sink.held l.fn.sink) l.noisy.world l.noisy.listed l.wire (g.K.Sink.held l.sink);
  going : is_over l.noisy.world.loader.side ≡ false;
  reads : ReadsIfAny (g.U.Medium.state l.fn.unit) (g.U.Medium.state l.unit) false;
  counts : g.K.Sink.faults l.fn.sink ≤ g.K.Sink.faults l.sink;
}
