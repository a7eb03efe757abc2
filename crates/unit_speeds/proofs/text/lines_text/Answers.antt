use Rattle.std.proofs.Common.{◌≡◌, ◌∙◌, ℕ, List, length, get_or, take, ap, sym, subst, arith}
use Rattle.std.proofs.Math.Seq.{take-length}
use Rattle.std.proofs.lemmas.List.{take_more}
use Rattle.unit_speeds.specs.declared.line.SpeedLine.{SpeedLine}
use Rattle.unit_speeds.specs.Text.{AreSpeedLines}
use Rattle.unit_speeds.proofs.Lines.{no_line, lines_more}
use Rattle.unit_speeds.proofs.text.lines_text.Goals as goal

pub loop-line-preserved : goal.loop-line-preserved
loop-line-preserved c =
    let lines = c.args.lines.now in
    let i = c.loop-line.line-index in
    subst (λ (l : List SpeedLine). AreSpeedLines l c.write_line.new.text.items) (sym (take_more c.args.lines.now c.loop-line.line-index no_line c.loop-line-test.true))
    (lines_more (take i lines) (get_or lines i no_line) c.loop-line.text.items c.write_line.new.text.items c.loop-line.invariant c.in_ok-write_line.ensures)

pub returns : goal.returns
returns c =
    let all : c.loop-line.line-index ≡ length c.args.lines.now = omega (arith, c.loop-line-test.false, c.loop-line.auto.line-index-end) in
    subst (λ (l : List SpeedLine). AreSpeedLines l c.loop-line.text.items)
    (ap (λ (n : ℕ). take n c.args.lines.now) all ∙ take-length c.args.lines.now) c.loop-line.invariant
