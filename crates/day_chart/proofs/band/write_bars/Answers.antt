use Rattle.std.proofs.Common.{◌∙◌, List, ℕ, ◌++◌, get_or, take, ap, sym, append_assoc}
use Rattle.std.proofs.lemmas.List.{take_more}
use Rattle.view_model.specs.declared.Line.{Line}
use Rattle.slot_bars.specs.declared.seen.Seen.{Seen}
use Rattle.slot_bars.proofs.Empty.{no_bar}
use Rattle.day_chart.specs.Bars.{bar_text, bars_text}
use Rattle.day_chart.proofs.Counted.{bars_more}
use Rattle.day_chart.proofs.band.write_bars.Goals as goal

pub loop-bar-preserved : goal.loop-bar-preserved
loop-bar-preserved c =
    let bars = c.args.bars.now in
    let i = c.loop-bar.bar-index in
    let date = c.args.date.now in
    let name = c.args.name.now in
    let bar : Line Seen = get_or c.args.bars.now c.loop-bar.bar-index no_bar in
    c.in_ok-write_bar.ensures
    ∙ ap (λ (l : List ℕ). l ++ bar_text c.args.date.now c.args.name.now (get_or c.args.bars.now c.loop-bar.bar-index no_bar)) c.loop-bar.invariant
    ∙ append_assoc c.args.text.now.items (bars_text date name (take i bars)) (bar_text date name bar)
    ∙ ap (λ (l : List ℕ). c.args.text.now.items ++ l)
    (sym (ap (λ (l : List (Line Seen)). bars_text c.args.date.now c.args.name.now l) (take_more bars i no_bar c.loop-bar-test.true) ∙ bars_more date name (take i bars) bar))
