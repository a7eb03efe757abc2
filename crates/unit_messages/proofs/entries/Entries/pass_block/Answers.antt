use Rattle.std.proofs.Common.{◌≡◌, ◌∙◌, ℕ, ap, sym, arith}
use Rattle.std.specs.List.{range_with_len}
use Rattle.card_layout.specs.Fields.{joined}
use Rattle.unit_messages.specs.Windows.{passed}
use Rattle.unit_messages.specs.Chosen.{chosen_at, shape_of}
use Rattle.unit_messages.proofs.Windows.{passed_none}
use Rattle.unit_messages.proofs.Passing.{entry_inside, block_more}
use Rattle.unit_messages.proofs.entries.Entries.pass_block.Goals as goal

pub loop-turn-init : goal.loop-turn-init
loop-turn-init c = λ x index read. sym (passed_none c.args.window.now)

pub entry_in-entry-requires-clause-inside : goal.entry_in-entry-requires-clause-inside
entry_in-entry-requires-clause-inside c = omega (arith, entry_inside c.args.self.now.width c.loop-turn.turn c.args.count (omega arith), c.requires.whole)

pub loop-turn-preserved : goal.loop-turn-preserved
loop-turn-preserved c = λ x index read.
    block_more c.args.self.now x c.args.block.now c.entry_in-entry.result.now index c.loop-turn.turn c.args.count c.pass_read.new.window c.loop-turn.window c.args.window.now
    c.requires.entries (omega arith) read c.entry_in-entry.ensures.bytes (c.loop-turn.invariant x index read) c.pass_read.ensures

pub returns : goal.returns
returns c = λ x index read.
    let e = c.args.self.now in
    let end : c.loop-turn.turn ≡ c.args.count = omega arith in
    c.loop-turn.invariant x index read ∙ ap (λ (n : ℕ). passed c.args.window.now (joined (chosen_at (shape_of e) e.choice x (range_with_len index n)))) end
