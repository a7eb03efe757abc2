use Rattle.std.proofs.Common.{◌≡◌, arith, ap}
use Rattle.tach_media.proofs.Ranges.{lies_part}
use Rattle.card_model.specs.Image.{StringShape}
use Rattle.card_days.proofs.circle.Circle.put_newest.Goals as goal

pub write_two-requires-clause-writable : goal.write_two-requires-clause-writable
write_two-requires-clause-writable g c =
    let base : c.self.inside.base ≡ c.args.self.now.base = ap (λ (s : StringShape). s.base) c.self.view_is in
    lies_part _ _ _ _ _ (omega (arith, base)) (omega (arith, base)) c.requires.writable
