use Rattle.std.proofs.Common.{◌≤◌, ◌++◌, ℕ, List, Option, IfSome, take, false}
use Rattle.unit_minutes.specs.Reading.{ReadsIfAny}
use Rattle.link_session.specs.Told.{Knows}
use Rattle.packet_service.specs.Datagrams.{IsPart}
use Rattle.packet_service.specs.Serving.{IsServing}
use Rattle.packet_service.proofs.serving.UnitLine.take_all.Given as goal

-- what had come and these bytes were answered
abbrev pub invariant-loop-byte : goal.invariant-loop-byte
invariant-loop-byte g l = record {
  goes : (held : Option (List ℕ)) (came : List ℕ) → IsServing (g.U.Medium.state l.fn.unit).image came l.fn.self.gathering l.fn.self.end held (g.K.Sink.held l.fn.sink)
      → IsServing (g.U.Medium.state l.fn.unit).image (came ++ take l.byte-index l.bytes) l.self.gathering l.self.end held (g.K.Sink.held l.sink);
  knows : IfSome (g.U.Medium.state l.fn.unit).image (Knows l.self.end.side);
  part : IsPart l.self.gathering;
  counts : g.K.Sink.faults l.fn.sink ≤ g.K.Sink.faults l.sink;
  reads : ReadsIfAny (g.U.Medium.state l.fn.unit) (g.U.Medium.state l.unit) false;
}
