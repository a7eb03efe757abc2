use Rattle.std.proofs.Common.{◌≤◌, ◌++◌, ℕ, List, take}
use Rattle.packet_service.specs.Datagrams.{IsPart}
use Rattle.packet_service.specs.Loading.{Sinks, IsLoading}
use Rattle.packet_service.proofs.loading.LoaderLine.take_all.Given as goal

-- what had come and these bytes were taken
abbrev pub invariant-loop-byte : goal.invariant-loop-byte
invariant-loop-byte g l = record {
  goes : (held : Sinks) (came : List ℕ) → IsLoading came l.fn.self.gathering l.fn.self.end held (record { link = g.K.Sink.held l.fn.link; file = g.F.Sink.held l.fn.file })
      → IsLoading (came ++ take l.byte-index l.bytes) l.self.gathering l.self.end held (record { link = g.K.Sink.held l.link; file = g.F.Sink.held l.file });
  part : IsPart l.self.gathering;
  link : g.K.Sink.faults l.fn.link ≤ g.K.Sink.faults l.link;
  file : g.F.Sink.faults l.fn.file ≤ g.F.Sink.faults l.file;
}
