use Rattle.link_loader.proofs.Exact.{negative, broken, unexpected}
use Rattle.link_loader.proofs.downloader.Downloader.take.Goals as goal

pub returns-clause-exactly : goal.returns-clause-exactly
returns-clause-exactly g c = record {
  negative = negative c.args.self.now.loading c.take_kind.new.self.loading c.args.frame.now (g.K.Sink.held c.args.sink.now) (g.K.Sink.held c.take_kind.new.sink) c.take_kind.result c.take_kind.ensures.taken c.take_kind.ensures.refused;
  broken = broken c.args.self.now.loading c.take_kind.new.self.loading c.args.frame.now (g.K.Sink.held c.args.sink.now) (g.K.Sink.held c.take_kind.new.sink) c.take_kind.result c.take_kind.ensures.taken c.take_kind.ensures.refused;
  unexpected = unexpected c.args.self.now.loading c.take_kind.new.self.loading c.args.frame.now (g.K.Sink.held c.args.sink.now) (g.K.Sink.held c.take_kind.new.sink) c.take_kind.result c.take_kind.ensures.taken c.take_kind.ensures.refused;
}

pub returns-clause-faults : goal.returns-clause-faults
returns-clause-faults g c = c.take_kind.ensures.faults

pub returns-clause-memory : goal.returns-clause-memory
returns-clause-memory g c = c.take_kind.ensures.memory
