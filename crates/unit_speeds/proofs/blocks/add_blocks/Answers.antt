use Rattle.std.proofs.Common.{◌≡◌, ◌∙◌, ℕ, ◌<◌, List, [], ◌∷◌, ◌++◌, length, get_or, take, map, ap, sym, arith, append_assoc}
use Rattle.std.proofs.Math.Seq.{take-length}
use Rattle.std.proofs.lemmas.List.{take_more}
use Rattle.unit_speeds.specs.declared.line.SpeedLine.{SpeedLine}
use Rattle.unit_speeds.specs.Speeds.{line_of}
use Rattle.unit_speeds.proofs.Laid.{blocks_laid, block_inside}
use Rattle.unit_speeds.proofs.Telling.{told_more}
use Rattle.unit_speeds.proofs.blocks.add_blocks.Goals as goal

pub count_in-count-requires : goal.count_in-count-requires
count_in-count-requires c = omega (arith, (blocks_laid c.requires.0 c.args.message.now c.requires.1).inside)

pub part-block-requires : goal.part-block-requires
part-block-requires c =
    let laid = blocks_laid c.requires.0 c.args.message.now c.requires.1 in
    let low : c.loop-i.i < length c.requires.0.blocks = omega (arith, laid.count, c.count_in-count.ensures, c.loop-i-test.true) in
    omega (arith, block_inside c.requires.0 c.args.message.now c.loop-i.i laid low)

pub add_block-requires : goal.add_block-requires
add_block-requires c = c.part-block.ensures.len

pub loop-i-preserved : goal.loop-i-preserved
loop-i-preserved c = λ m begins.
    let laid = blocks_laid m c.args.message.now begins in
    let i = c.loop-i.i in
    let low : c.loop-i.i < length m.blocks = omega (arith, laid.count, c.count_in-count.ensures, c.loop-i-test.true) in
    let block : c.part-block.result.now ≡ get_or m.blocks c.loop-i.i [] = c.part-block.ensures.bytes ∙ laid.block i low in
    c.in_ok-add_block.ensures
    ∙ ap (λ (l : List ℕ). c.loop-i.lines.items ++ line_of l ∷ []) block
    ∙ ap (λ (l : List SpeedLine). l ++ line_of (get_or m.blocks c.loop-i.i []) ∷ []) (c.loop-i.invariant m begins)
    ∙ append_assoc c.args.lines.now.items (map line_of (take i m.blocks)) (line_of (get_or m.blocks i []) ∷ [])
    ∙ ap (λ (l : List SpeedLine). c.args.lines.now.items ++ l)
    (sym (ap (λ (l : List (List ℕ)). map line_of l) (take_more m.blocks i [] low) ∙ told_more (take i m.blocks) (get_or m.blocks i [])))

pub returns : goal.returns
returns c = λ m begins.
    let laid = blocks_laid m c.args.message.now begins in
    let all : c.loop-i.i ≡ length m.blocks = omega (arith, laid.count, c.count_in-count.ensures, c.loop-i-test.false, c.loop-i.auto.i-end) in
    c.loop-i.invariant m begins
    ∙ ap (λ (n : ℕ). c.args.lines.now.items ++ map line_of (take n m.blocks)) all
    ∙ ap (λ (l : List (List ℕ)). c.args.lines.now.items ++ map line_of l) (take-length m.blocks)
