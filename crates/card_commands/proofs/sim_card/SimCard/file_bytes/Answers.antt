use Rattle.std.proofs.Common.{◌≡◌, ℕ, ◌+◌, Bool, true, false, not, length, take, drop, refl, ◌∙◌, ap, arith, ◌≤◌}
use Rattle.tach_media.specs.Medium.{bytes_at}
use Rattle.card_layout.specs.Outcomes.{is_application}
use Rattle.card_commands.proofs.Parts.{part_of, where_some, told_weaker}
use Rattle.card_commands.proofs.sim_card.SimCard.file_bytes.Goals as goal

is_so : (b : Bool) → false ≡ not b → b ≡ true
is_so true is = refl
is_so false is = absurd (cc)

pub returns-clause-bytes : goal.returns-clause-bytes
returns-clause-bytes g c =
    let application = c.in_ok-application.application in
    let file = c.args.file in
    let offset = c.args.offset in
    let n = length c.args.out.now in
    let copied : c.copy_from_slice.new.self ≡ bytes_at application offset n = c.copy_from_slice.ensures.after ∙ ap (λ (m : ℕ). take m (drop offset application)) (omega arith) in
    let same = is_so (is_application file) c.if-ne.ensures in
    let inside : offset + n ≤ 10 = omega (arith, c.requires.inside, c.requires.file.len same) in
    let place : 33 + offset ≡ file.range.base + offset = omega (arith, c.requires.file.base same) in (
      c.copy_from_slice.ensures.len,
      told_weaker _ _ c.in_ok-application.ensures.image (λ x is. copied ∙ part_of x application offset n inside is ∙ ap (λ (m : ℕ). bytes_at x m n) place),
      λ same. where_some _ (ap (λ s. s.application) c.in_ok-application.ensures.card) copied,
    )
