use Rattle.std.proofs.Common.{◌≡◌, ◌≤◌, ◌∙◌, ap, refl, subst, length}
use Rattle.std.proofs.lemmas.Result.{IfOk-weaker}
use Rattle.std.specs.Prelude.{IfSome}
use Rattle.std.specs.List.{range_with_len}
use Rattle.tach_media.proofs.Runs.{both_told}
use Rattle.unit_model.specs.declared.layout.TheConstants.{SPEEDS}
use Rattle.unit_messages.specs.declared.entries.Entries.{Entries}
use Rattle.unit_messages.specs.Chosen.{speed_blocks, chosen_at, shape_of}
use Rattle.unit_messages.specs.Outlines.{AreBlocksOf}
use Rattle.unit_messages.proofs.Outlining.{speeds_inside}
use Rattle.unit_messages.proofs.Rings.{ring_counted, speeds_are}
use Rattle.unit_messages.proofs.outline.finding.block_count.Goals as goal

pub returns-clause-blocks : goal.returns-clause-blocks
returns-clause-blocks g c =
    let o = (g.M.Medium.state c.args.unit.now).image in
    let e = c.speed_blocks-entries.result in
    IfOk-weaker c.count.result (λ n. IfSome o (λ x. n ≡ length (chosen_at (shape_of e) e.choice x (range_with_len 0 e.count)))) (λ n. IfSome o (λ x. AreBlocksOf x n))
    (λ n counted. both_told o (λ x. AreBlocksOf x n) counted c.requires.decodes (λ x told many decodes.
    let points = speeds_inside x decodes in
    record { blocks = ring_counted SPEEDS.place n e speed_blocks x c.speed_blocks-entries.ensures.is refl points many ∙ ap length (speeds_are x); pointer = points }))
    c.count.ensures.count

pub returns-clause-few : goal.returns-clause-few
returns-clause-few g c =
    let e = c.speed_blocks-entries.result in
    IfOk-weaker c.count.result (λ n. n ≤ e.count) (λ n. n ≤ 1440) (λ n few. subst (λ (a : Entries). n ≤ a.count) c.speed_blocks-entries.ensures.is few) c.count.ensures.few
