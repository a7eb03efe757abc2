use Rattle.std.proofs.Common.{◌≡◌, ◌≤◌, ◌+◌, ◌-◌, [], false}
use Rattle.std.specs.Prelude.{IfSome}
use Rattle.tach_media.specs.Medium.{LeavesOnly, Reads, HasCause}
use Rattle.card_model.specs.Image.{IsStringShape, HoldsDays}
use Rattle.card_days.specs.Rears.{head_later, IsRear, LiesOn}
use Rattle.card_days.specs.Trim.{IsTrimming, WritesOrReads}
use Rattle.card_days.proofs.circle.Circle.drop_later.Given as goal

abbrev pub invariant-loop-later : goal.invariant-loop-later
invariant-loop-later g l =
    let before = g.M.Medium.state l.fn.medium in
    let now = g.M.Medium.state l.medium in
    record {
      few : l.count ≤ 984;
      most : now.clock ≤ before.clock + l.count;
      shape : IsStringShape l.self;
      cause : HasCause before now false;
      made : IfSome before.image (λ x. IfSome now.image (IsTrimming l.self l.date l.count x));
      moments : LeavesOnly before now (IsTrimming l.self l.date 0);
      settled : WritesOrReads before now;
      empty : IfSome before.image (λ x. HoldsDays l.self x [] → Reads before now false);
      lies : LiesOn l.self l.rear;
      known : IfSome now.image (IsRear l.self l.rear);
      later : l.later ≡ head_later l.date l.rear.head;
    }

abbrev pub decreases-loop-later : goal.decreases-loop-later
decreases-loop-later g l = 984 - l.count
