use Rattle.std.proofs.Common.{◌≤◌, ℕ, List, Option, IfSome, false}
use Rattle.unit_minutes.specs.Reading.{ReadsIfAny}
use Rattle.link_session.specs.Told.{Knows}
use Rattle.noisy_download.specs.Listing.{IsUnderway}
use Rattle.noisy_download.proofs.noisy.Noisy.round.Given as goal

-- a download that was underway still is
abbrev pub invariant-loop-turn : goal.invariant-loop-turn
invariant-loop-turn g l = record {
  goes : (held : Option (List ℕ)) → IsUnderway (g.U.Medium.state l.fn.unit).image held l.fn.self.world l.fn.self.listed l.fn.wire (g.K.Sink.held l.fn.sink)
      → IsUnderway (g.U.Medium.state l.fn.unit).image held l.self.world l.self.listed l.wire (g.K.Sink.held l.sink);
  knows : IfSome (g.U.Medium.state l.fn.unit).image (Knows l.self.world.unit.side);
  reads : ReadsIfAny (g.U.Medium.state l.fn.unit) (g.U.Medium.state l.unit) false;
  counts : g.K.Sink.faults l.fn.sink ≤ g.K.Sink.faults l.sink;
}
