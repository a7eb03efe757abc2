use Rattle.std.proofs.Common.{◌≡◌, ◌≤◌, ◌-◌, ◌%◌, false}
use Rattle.std.specs.Prelude.{IfSome}
use Rattle.tach_media.specs.Medium.{Reads}
use Rattle.card_model.specs.Image.{oldest_pointer, IsStringShape}
use Rattle.card_days.proofs.LoadWalk.{IsWalked}
use Rattle.card_days.proofs.circle.Circle.check_days.Given as goal

abbrev pub invariant-loop-head : goal.invariant-loop-head
invariant-loop-head g l =
    let before = g.M.Medium.state l.fn.medium in
    let now = g.M.Medium.state l.medium in
    record {
      within : l.so_far ≤ l.reach;
      even : l.so_far % 2 ≡ 0;
      walked : IfSome before.image (λ x. IsStringShape l.self → l.oldest ≡ oldest_pointer l.self x → IsWalked l.self x l.reach l.so_far l.before l.date);
      reads : Reads before now false;
    }

abbrev pub decreases-loop-head : goal.decreases-loop-head
decreases-loop-head g l = l.reach - l.so_far
