use Rattle.std.proofs.Common.{◌≡◌, ◌+◌, length, length-append, ap, ◌∙◌, arith, lit<}
use Rattle.tach_media.proofs.Ranges.{lies_part}
use Rattle.tach_media.specs.Plan.{Pieces}
use Rattle.gated_ring.specs.Ring.{Shape, size_of}
use Rattle.gated_ring.specs.Plans.{placing_pieces}
use Rattle.gated_ring.proofs.Planned.{placing_some}
use Rattle.gated_ring.proofs.ring.Ring.place.Goals as goal

pub put_pieces-requires : goal.put_pieces-requires
put_pieces-requires g c =
    let r = c.args.self.now in
    let plan = c.plan_entry.new.plan in
    let base : c.self.inside.base ≡ r.base = ap (λ (s : Shape). s.base) c.self.view_is in
    let from : plan.from ≡ c.self.inside.base = ap (λ (p : Pieces). p.from) c.plan_entry.ensures.plan ∙ ap (λ (p : Pieces). p.from) c.new-plan.ensures in
    let end : plan.end ≡ c.place_of.result + length c.args.head.now = ap (λ (p : Pieces). p.end) c.plan_entry.ensures.plan ∙ ap (λ (p : Pieces). p.end) c.new-plan.ensures in
    let grown : length plan.pieces ≡ length c.new-plan.result.pieces + length (placing_pieces r c.args.room.now c.args.head.now) = ap (λ (p : Pieces). length p.pieces) c.plan_entry.ensures.plan ∙ length-append c.new-plan.result.pieces (placing_pieces r c.args.room.now c.args.head.now) in (
      lit< tt,
      (
        λ none. absurd (omega (arith, none, grown, (placing_some r c.args.room.now c.args.head.now).0)),
        (
          omega (arith, end, c.place_of.ensures.high, c.requires.width, c.requires.fits),
          lies_part _ r.base (size_of r) _ _ (omega (arith, from, base)) (omega (arith, from, base, end, c.place_of.ensures.high, c.place_of.ensures.low, c.requires.width)) c.requires.writable,
        ),
      ),
    )
