use Rattle.std.proofs.Common.{◌≡◌, ◌∙◌, ℕ, ◌+◌, ◌≤◌, List, [], ◌∷◌, ◌++◌, Option, take, drop, map, ap, sym, subst, append_assoc, arith}
use Rattle.live_telling.specs.Telling.{Clocks, Telling, clocks_of}
use Rattle.live_lines.specs.Reports.{TellsFirst, TellsReports}
use Rattle.live_lines.specs.declared.report.Report.{Report}
use Rattle.live_lines.proofs.Behind.{first-of-more, first-then, on-err, tells-none, tells-then}
use Rattle.live_lines.proofs.Lists.{all-of-them, map-more, none-yet, one-more, those-left}
use Rattle.live_lines.proofs.telling.tell_from.Goals as goal

pub loop-i-init : goal.loop-i-init
loop-i-init g c = record {
  behind = omega arith;
  told =
      let a = g.K.Sink.held c.args.sink.now in
      let p = g.K.Teller.told c.args.sink.now in
      let clocks : Clocks = clocks_of (g.U.Medium.state c.args.unit.now) (g.C.Chip.state c.args.card_a.now) (g.C.Chip.state c.args.card_b.now) in
      subst (λ (rs : List Report). TellsReports rs clocks a a p p) (sym (ap (map g.T.Told.report_of) (none-yet c.args.from c.args.lines.now.items))) (tells-none clocks a p);
  later = omega arith;
}

pub loop-i-preserved : goal.loop-i-preserved
loop-i-preserved g c =
    let v = c.loop-i.invariant in
    let f = g.T.Told.report_of in
    let xs = c.args.lines.now.items in
    let x = c.get.result.now in
    let clocks : Clocks = clocks_of (g.U.Medium.state c.args.unit.now) (g.C.Chip.state c.args.card_a.now) (g.C.Chip.state c.args.card_b.now) in
    let a = g.K.Sink.held c.args.sink.now in
    let b = g.K.Sink.held c.loop-i.sink in
    let d = g.K.Sink.held c.tell.new.sink in
    let p = g.K.Teller.told c.args.sink.now in
    let q = g.K.Teller.told c.loop-i.sink in
    let r = g.K.Teller.told c.tell.new.sink in
    let one : TellsReports (f x ∷ []) clocks b d q r = subst (λ (y : Report). TellsReports (y ∷ []) clocks b d q r) c.report-report.ensures c.in_ok-tell.ensures.told in
    record {
      behind = omega arith;
      told = subst (λ (rs : List Report). TellsReports rs clocks a d p r) (map-more f (drop c.args.from (take c.loop-i.i xs)) x ∙ ap (map f) (sym (one-more c.args.from c.loop-i.i xs x v.behind c.get.ensures)))
          (tells-then (map f (drop c.args.from (take c.loop-i.i xs))) (f x ∷ []) clocks a b d p q r v.told one);
      later = omega (arith, v.later, c.in_ok-tell.ensures.cause.later);
    }

pub returns-clause-told : goal.returns-clause-told
returns-clause-told g c =
    let f = g.T.Told.report_of in
    let xs = c.args.lines.now.items in
    let clocks : Clocks = clocks_of (g.U.Medium.state c.args.unit.now) (g.C.Chip.state c.args.card_a.now) (g.C.Chip.state c.args.card_b.now) in
    subst (λ (rs : List Report). TellsReports rs clocks (g.K.Sink.held c.args.sink.now) (g.K.Sink.held c.loop-i.sink) (g.K.Teller.told c.args.sink.now) (g.K.Teller.told c.loop-i.sink))
    (ap (map f) (all-of-them c.args.from c.loop-i.i xs (omega (arith, c.loop-i-test.false, c.len-i-end.ensures)))) c.loop-i.invariant.told

pub returns-in_err-tell-clause-begun : goal.returns-in_err-tell-clause-begun
returns-in_err-tell-clause-begun g c =
    let v = c.loop-i.invariant in
    let f = g.T.Told.report_of in
    let xs = c.args.lines.now.items in
    let x = c.get.result.now in
    let i : ℕ = c.loop-i.i in
    let clocks : Clocks = clocks_of (g.U.Medium.state c.args.unit.now) (g.C.Chip.state c.args.card_a.now) (g.C.Chip.state c.args.card_b.now) in
    let a = g.K.Sink.held c.args.sink.now in
    let b = g.K.Sink.held c.loop-i.sink in
    let d = g.K.Sink.held c.tell.new.sink in
    let p = g.K.Teller.told c.args.sink.now in
    let q = g.K.Teller.told c.loop-i.sink in
    let r = g.K.Teller.told c.tell.new.sink in
    let so_far : List Report = map f (drop c.args.from (take i xs)) in
    let rest : List Report = map f (drop (i + 1) xs) in
    let one : TellsFirst (f x ∷ []) clocks b d q r = subst (λ (y : Report). TellsFirst (y ∷ []) clocks b d q r) c.report-report.ensures c.in_err-tell.ensures.begun in
    on-err c.from_residual.result
    (subst (λ (rs : List Report). TellsFirst rs clocks a d p r) (sym (those-left f c.args.from i xs x v.behind c.get.ensures))
    (first-then so_far (f x ∷ rest) clocks a b d p q r v.told (first-of-more (f x ∷ []) rest clocks b d q r one)))
