use Rattle.std.proofs.Common.{◌≡◌, ◌+◌, ◌≤◌, Some, length, arith, refl, sym, ◌∙◌}
use Rattle.tach_media.proofs.Runs.{at_image, if_told}
use Rattle.card_model.specs.Image.{IsPointer, oldest_pointer, newest_pointer}
use Rattle.card_days.specs.Rears.{IsBlock}
use Rattle.card_days.proofs.Rears.{in_block}
use Rattle.card_days.proofs.circle.Circle.rear_at.Goals as goal

pub returns-clause-known : goal.returns-clause-known
returns-clause-known g c =
    let r = c.args.self.now in
    let b = c.in_ok-block.block in
    if_told (g.M.Medium.state c.block_with.new.medium).image _ (λ x is.
    let was : (g.M.Medium.state c.args.medium.now).image ≡ Some x = sym (c.in_ok-block.ensures.reads.same refl) ∙ is in
    let inside : r.base + (4 + r.size) ≤ length x = omega (arith, c.requires.fits, (g.met.M.Medium.coherent c.args.medium.now).sized x was) in
    let bytes : IsBlock r b x = at_image (IsBlock r b) was c.in_ok-block.ensures.bytes in
    record {
      oldest = at_image (λ x. IsPointer r.size (oldest_pointer r x) → c.args.oldest ≡ oldest_pointer r x) was c.requires.ends.oldest_is;
      newest = at_image (λ x. IsPointer r.size (newest_pointer r x) → c.args.newest ≡ newest_pointer r x) was c.requires.ends.newest_is;
      head = in_block r c.requires.shape x inside b c.head-head.result c.args.newest (omega (arith, c.if-size-newest-lt12.false, c.size.ensures.size, c.requires.ends.end.below)) c.in_ok-block.ensures.from c.in_ok-block.ensures.to bytes c.head-head.ensures;
      block = bytes;
    })
