use Rattle.std.proofs.Common.{◌≡◌, List, ◌++◌, drop, map}
use Rattle.live_telling.specs.Telling.{Clocks, clocks_of}
use Rattle.live_lines.specs.declared.report.Report.{Report}
use Rattle.live_lines.specs.declared.report.Report.TheVariants.{Refused, Found, Acknowledged, Broken}
use Rattle.live_lines.specs.Reports.{TellsFirst, TellsReports}
use Rattle.live_lines.proofs.Behind.{first-of-more, first-then, on-err, tells-then}
use Rattle.live_lines.proofs.news.tell_news.Goals as goal

pub returns-clause-told : goal.returns-clause-told
returns-clause-told g c =
    let o = c.args.outcome.now in
    let w = c.args.printed.now in
    let clocks : Clocks = clocks_of (g.U.Medium.state c.args.unit.now) (g.C.Chip.state c.args.card_a.now) (g.C.Chip.state c.args.card_b.now) in
    let refused : List Report = map Refused (drop w.refused o.refused.items) in
    let finds : List Report = map Found (drop w.finds o.finds.items) in
    let marks : List Report = map Acknowledged (drop w.marks o.marks.items) in
    let breaks : List Report = map Broken (drop w.breaks o.breaks.items) in
    let a = g.K.Sink.held c.args.sink.now in
    let b = g.K.Sink.held c.tell_from.new.sink in
    let d = g.K.Sink.held c.tell_from-2.new.sink in
    let e = g.K.Sink.held c.tell_from-3.new.sink in
    let f = g.K.Sink.held c.tell_from-4.new.sink in
    let p = g.K.Teller.told c.args.sink.now in
    let q = g.K.Teller.told c.tell_from.new.sink in
    let r = g.K.Teller.told c.tell_from-2.new.sink in
    let s = g.K.Teller.told c.tell_from-3.new.sink in
    let t = g.K.Teller.told c.tell_from-4.new.sink in
    tells-then refused (finds ++ (marks ++ breaks)) clocks a b f p q t c.in_ok-tell_from.ensures.told
    (tells-then finds (marks ++ breaks) clocks b d f q r t c.in_ok-tell_from-2.ensures.told
    (tells-then marks breaks clocks d e f r s t c.in_ok-tell_from-3.ensures.told c.in_ok-tell_from-4.ensures.told))

pub returns-in_err-tell_from-clause-begun : goal.returns-in_err-tell_from-clause-begun
returns-in_err-tell_from-clause-begun g c =
    let o = c.args.outcome.now in
    let w = c.args.printed.now in
    let clocks : Clocks = clocks_of (g.U.Medium.state c.args.unit.now) (g.C.Chip.state c.args.card_a.now) (g.C.Chip.state c.args.card_b.now) in
    let refused : List Report = map Refused (drop w.refused o.refused.items) in
    let finds : List Report = map Found (drop w.finds o.finds.items) in
    let marks : List Report = map Acknowledged (drop w.marks o.marks.items) in
    let breaks : List Report = map Broken (drop w.breaks o.breaks.items) in
    on-err c.from_residual.result
    (first-of-more refused (finds ++ (marks ++ breaks)) clocks (g.K.Sink.held c.args.sink.now) (g.K.Sink.held c.tell_from.new.sink) (g.K.Teller.told c.args.sink.now) (g.K.Teller.told c.tell_from.new.sink) c.in_err-tell_from.ensures.begun)

pub returns-in_err-tell_from-2-clause-begun : goal.returns-in_err-tell_from-2-clause-begun
returns-in_err-tell_from-2-clause-begun g c =
    let o = c.args.outcome.now in
    let w = c.args.printed.now in
    let clocks : Clocks = clocks_of (g.U.Medium.state c.args.unit.now) (g.C.Chip.state c.args.card_a.now) (g.C.Chip.state c.args.card_b.now) in
    let refused : List Report = map Refused (drop w.refused o.refused.items) in
    let finds : List Report = map Found (drop w.finds o.finds.items) in
    let marks : List Report = map Acknowledged (drop w.marks o.marks.items) in
    let breaks : List Report = map Broken (drop w.breaks o.breaks.items) in
    let a = g.K.Sink.held c.args.sink.now in
    let b = g.K.Sink.held c.tell_from.new.sink in
    let d = g.K.Sink.held c.tell_from-2.new.sink in
    let p = g.K.Teller.told c.args.sink.now in
    let q = g.K.Teller.told c.tell_from.new.sink in
    let r = g.K.Teller.told c.tell_from-2.new.sink in
    on-err c.from_residual-in_err-tell_from-2.result
    (first-then refused (finds ++ (marks ++ breaks)) clocks a b d p q r c.in_ok-tell_from.ensures.told
    (first-of-more finds (marks ++ breaks) clocks b d q r c.in_err-tell_from-2.ensures.begun))

pub returns-in_err-tell_from-3-clause-begun : goal.returns-in_err-tell_from-3-clause-begun
returns-in_err-tell_from-3-clause-begun g c =
    let o = c.args.outcome.now in
    let w = c.args.printed.now in
    let clocks : Clocks = clocks_of (g.U.Medium.state c.args.unit.now) (g.C.Chip.state c.args.card_a.now) (g.C.Chip.state c.args.card_b.now) in
    let refused : List Report = map Refused (drop w.refused o.refused.items) in
    let finds : List Report = map Found (drop w.finds o.finds.items) in
    let marks : List Report = map Acknowledged (drop w.marks o.marks.items) in
    let breaks : List Report = map Broken (drop w.breaks o.breaks.items) in
    let a = g.K.Sink.held c.args.sink.now in
    let b = g.K.Sink.held c.tell_from.new.sink in
    let d = g.K.Sink.held c.tell_from-2.new.sink in
    let e = g.K.Sink.held c.tell_from-3.new.sink in
    let p = g.K.Teller.told c.args.sink.now in
    let q = g.K.Teller.told c.tell_from.new.sink in
    let r = g.K.Teller.told c.tell_from-2.new.sink in
    let s = g.K.Teller.told c.tell_from-3.new.sink in
    on-err c.from_residual-in_err-tell_from-3.result
    (first-then refused (finds ++ (marks ++ breaks)) clocks a b e p q s c.in_ok-tell_from.ensures.told
    (first-then finds (marks ++ breaks) clocks b d e q r s c.in_ok-tell_from-2.ensures.told
    (first-of-more marks breaks clocks d e r s c.in_err-tell_from-3.ensures.begun)))

pub returns-in_err-tell_from-4-clause-begun : goal.returns-in_err-tell_from-4-clause-begun
returns-in_err-tell_from-4-clause-begun g c =
    let o = c.args.outcome.now in
    let w = c.args.printed.now in
    let clocks : Clocks = clocks_of (g.U.Medium.state c.args.unit.now) (g.C.Chip.state c.args.card_a.now) (g.C.Chip.state c.args.card_b.now) in
    let refused : List Report = map Refused (drop w.refused o.refused.items) in
    let finds : List Report = map Found (drop w.finds o.finds.items) in
    let marks : List Report = map Acknowledged (drop w.marks o.marks.items) in
    let breaks : List Report = map Broken (drop w.breaks o.breaks.items) in
    let a = g.K.Sink.held c.args.sink.now in
    let b = g.K.Sink.held c.tell_from.new.sink in
    let d = g.K.Sink.held c.tell_from-2.new.sink in
    let e = g.K.Sink.held c.tell_from-3.new.sink in
    let f = g.K.Sink.held c.tell_from-4.new.sink in
    let p = g.K.Teller.told c.args.sink.now in
    let q = g.K.Teller.told c.tell_from.new.sink in
    let r = g.K.Teller.told c.tell_from-2.new.sink in
    let s = g.K.Teller.told c.tell_from-3.new.sink in
    let t = g.K.Teller.told c.tell_from-4.new.sink in
    on-err c.from_residual-in_err-tell_from-4.result
    (first-then refused (finds ++ (marks ++ breaks)) clocks a b f p q t c.in_ok-tell_from.ensures.told
    (first-then finds (marks ++ breaks) clocks b d f q r t c.in_ok-tell_from-2.ensures.told
    (first-then marks breaks clocks d e f r s t c.in_ok-tell_from-3.ensures.told c.in_err-tell_from-4.ensures.begun)))
