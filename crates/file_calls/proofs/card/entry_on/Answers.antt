use Rattle.std.proofs.Common.{◌≡◌, ◌∙◌, List, length, take, ap, sym, arith}
use Rattle.std.proofs.lemmas.List.{take_all}
use Rattle.view_model.specs.declared.CardShown.{CardShown}
use Rattle.view_model.specs.declared.Line.{Line}
use Rattle.file_view.specs.Histories.{minutes_on}
use Rattle.file_calls.proofs.Counted.{length_more, entry_is}
use Rattle.file_calls.proofs.card.entry_on.Goals as goal

pub loop-line-preserved : goal.loop-line-preserved
loop-line-preserved c = let more = length_more c.args.lines.now c.loop-line.line-index c.loop-line-test.true in omega (arith, more)

pub returns-then-left-count : goal.returns-then-left-count
returns-then-left-count c = λ d. entry_is c.args.lines.now c.loop-line.line-index c.loop-line.left c.args.nth d c.loop-line-test.true c.loop-line.invariant (omega arith) ∙ sym c.entry_in.ensures

pub unreachable-requires : goal.unreachable-requires
unreachable-requires c =
    let all : length (minutes_on (take c.loop-line.line-index c.args.lines.now)) ≡ length (minutes_on c.args.lines.now) =
    ap (λ (ls : List (Line CardShown)). length (minutes_on ls)) (take_all c.loop-line.line-index c.args.lines.now c.loop-line-test.false) in
    omega (arith, all)
