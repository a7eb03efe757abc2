use Rattle.std.proofs.Common.{◌≡◌, ◌∙◌, ℕ, List, length, get_or, take, fold, ap, sym, arith}
use Rattle.std.proofs.Math.Seq.{take-length}
use Rattle.std.proofs.lemmas.List.Sums.{fold_more}
use Rattle.unit_speeds.specs.Speeds.{greater}
use Rattle.unit_speeds.proofs.line.most_of.Goals as goal

pub loop-speed-preserved : goal.loop-speed-preserved
loop-speed-preserved c =
    c.greater-most.ensures
    ∙ ap (λ (n : ℕ). greater n (get_or c.args.speeds.now c.loop-speed.speed-index 0)) c.loop-speed.invariant
    ∙ sym (fold_more greater 0 c.args.speeds.now c.loop-speed.speed-index 0 c.loop-speed-test.true)

pub returns : goal.returns
returns c =
    let all : c.loop-speed.speed-index ≡ length c.args.speeds.now = omega (arith, c.loop-speed-test.false, c.loop-speed.auto.speed-index-end) in
    c.loop-speed.invariant ∙ ap (λ (n : ℕ). fold greater 0 (take n c.args.speeds.now)) all ∙ ap (λ (l : List ℕ). fold greater 0 l) (take-length c.args.speeds.now)
