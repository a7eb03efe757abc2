use Rattle.std.proofs.Common.{List, ℕ, subst, sym}
use Rattle.live_telling.specs.Telling.{clocks_of}
use Rattle.live_lines.specs.Texts.{IsReportText}
use Rattle.live_lines.proofs.Behind.{one-told, one-begun}
use Rattle.live_lines.proofs.telling.tell.Goals as goal

pub returns-clause-told : goal.returns-clause-told
returns-clause-told g c =
    one-told c.put_line.result c.args.report c.as_slice.result.now (clocks_of (g.U.Medium.state c.args.unit.now) (g.C.Chip.state c.args.card_a.now) (g.C.Chip.state c.args.card_b.now)) (g.K.Sink.held c.args.sink.now) (g.K.Sink.held c.put_line.new.sink) (g.K.Teller.told c.args.sink.now) (g.K.Teller.told c.put_line.new.sink)
    (subst (λ (l : List ℕ). IsReportText c.args.report l) (sym c.as_slice.ensures.value) c.report_line-line.ensures) c.put_line.ensures.ok c.put_line.ensures.told

pub returns-clause-begun : goal.returns-clause-begun
returns-clause-begun g c =
    one-begun c.put_line.result c.args.report c.as_slice.result.now (clocks_of (g.U.Medium.state c.args.unit.now) (g.C.Chip.state c.args.card_a.now) (g.C.Chip.state c.args.card_b.now)) (g.K.Sink.held c.args.sink.now) (g.K.Sink.held c.put_line.new.sink) (g.K.Teller.told c.args.sink.now) (g.K.Teller.told c.put_line.new.sink)
    (subst (λ (l : List ℕ). IsReportText c.args.report l) (sym c.as_slice.ensures.value) c.report_line-line.ensures) c.put_line.ensures.err c.put_line.ensures.begun
