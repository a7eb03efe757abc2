use Rattle.std.proofs.Common.{◌∙◌, sym, ap, length, ℕ, List}
use Rattle.unit_model.specs.declared.layout.TheConstants.{SPEEDS}
use Rattle.unit_memory.proofs.Told.{told_all}
use Rattle.message_model.specs.Messages.{counted}
use Rattle.unit_messages.specs.Windows.{passed}
use Rattle.unit_messages.specs.Chosen.{speed_blocks}
use Rattle.unit_messages.proofs.Joints.{at_told}
use Rattle.unit_messages.proofs.Rings.{counted_ring, speeds_are}
use Rattle.unit_messages.proofs.outline.rows.pass_blocks.Goals as goal

pub returns-clause-passed : goal.returns-clause-passed
returns-clause-passed g c =
    told_all (g.M.Medium.state c.args.unit.now).image _ (λ x told low many.
    let all = speeds_are x in
    counted_ring 2 SPEEDS.place c.args.blocks c.speed_blocks-entries.result speed_blocks x c.pass_ring.new.window c.pass_count.new.window c.args.window.now c.speed_blocks-entries.ensures.is c.pass_count.ensures
    (at_told _ x told c.in_ok-pass_ring.ensures.passed) low (many ∙ ap length (sym all))
    ∙ ap (λ (l : List (List ℕ)). passed c.args.window.now (counted 2 l)) all)
