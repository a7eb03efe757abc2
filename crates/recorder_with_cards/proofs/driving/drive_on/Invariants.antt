use Rattle.std.proofs.Common.{◌≡◌, ◌⊎◌, ℕ, ◌+◌, ◌-◌, ◌%◌, ◌<◌, ◌≤◌, List, [], ◌++◌, length}
use Rattle.trace_model.specs.Trace.{TraceSecond, driven}
use Rattle.run_minutes.specs.run_promise.Between.{devices}
use Rattle.run_minutes.specs.run_promise.Origin.{Origin}
use Rattle.run_minutes.specs.Books.{HaveTime}
use Rattle.run_minutes.specs.Later.{AreAfter, AreCalm}
use Rattle.run_acts.specs.Going.{IsBetweenSeconds}
use Rattle.run_acts.specs.Room.{HasRoom}
use Rattle.run_acts.specs.Evented.{LastAt}
use Rattle.run_acts.specs.RunRinged.{RunRinged}
use Rattle.recorder_with_cards.specs.Carded.{RunTimely}
use Rattle.recorder_with_cards.specs.Writes.{WritesBetween, powered, turns_among}
use Rattle.run_outcome.specs.Broken.{BreaksDown}
use Rattle.recorder_with_cards.proofs.driving.drive_on.Given as goal

abbrev pub invariant-loop-left : goal.invariant-loop-left
invariant-loop-left g l = record {
  going : IsBetweenSeconds l.run (g.M.Medium.state l.unit) (g.C.Chip.card l.card_a) (g.D.Chip.card l.card_b) (g.C.Chip.state l.card_a) (g.D.Chip.state l.card_b);
  next : l.run.next + l.left ≡ l.fn.run.next + l.fn.more.seconds;
  enough : HasRoom l.run l.outcome l.left 0 0 0;
  room : (left offs insertions actions : ℕ) → HasRoom l.fn.run l.fn.outcome (l.fn.more.seconds + left) offs insertions actions → HasRoom l.run l.outcome (l.left + left) offs insertions actions;
  few : l.left ≤ l.fn.more.seconds;
  ringed : (o : Origin) (done : List TraceSecond) → LastAt done l.fn.more.speed → RunRinged o done l.fn.run l.fn.outcome (devices (g.M.Medium.state l.fn.unit) (g.C.Chip.state l.fn.card_a) (g.D.Chip.state l.fn.card_b)) → HaveTime (devices (g.M.Medium.state l.unit) (g.C.Chip.state l.card_a) (g.D.Chip.state l.card_b)) → LastAt (done ++ driven (l.fn.more.seconds - l.left) l.fn.run.next l.fn.more.speed []) l.fn.more.speed × RunRinged o (done ++ driven (l.fn.more.seconds - l.left) l.fn.run.next l.fn.more.speed []) l.run l.outcome (devices (g.M.Medium.state l.unit) (g.C.Chip.state l.card_a) (g.D.Chip.state l.card_b));
  cards : (o : Origin) (done : List TraceSecond) → LastAt done l.fn.more.speed → RunTimely o done l.fn.run l.fn.outcome (devices (g.M.Medium.state l.fn.unit) (g.C.Chip.state l.fn.card_a) (g.D.Chip.state l.fn.card_b)) → HaveTime (devices (g.M.Medium.state l.unit) (g.C.Chip.state l.card_a) (g.D.Chip.state l.card_b)) → LastAt (done ++ driven (l.fn.more.seconds - l.left) l.fn.run.next l.fn.more.speed []) l.fn.more.speed × RunTimely o (done ++ driven (l.fn.more.seconds - l.left) l.fn.run.next l.fn.more.speed []) l.run l.outcome (devices (g.M.Medium.state l.unit) (g.C.Chip.state l.card_a) (g.D.Chip.state l.card_b));
  later : AreAfter (devices (g.M.Medium.state l.fn.unit) (g.C.Chip.state l.fn.card_a) (g.D.Chip.state l.fn.card_b)) (devices (g.M.Medium.state l.unit) (g.C.Chip.state l.card_a) (g.D.Chip.state l.card_b));
  calm : AreCalm l.fn.outcome.breaks.items l.outcome.breaks.items (devices (g.M.Medium.state l.fn.unit) (g.C.Chip.state l.fn.card_a) (g.D.Chip.state l.fn.card_b)) (devices (g.M.Medium.state l.unit) (g.C.Chip.state l.card_a) (g.D.Chip.state l.card_b));
  opens : 0 < l.left → (l.fn.more.seconds - l.left ≡ 0) ⊎ ((l.fn.run.next + (l.fn.more.seconds - l.left)) % 60 ≤ 1);
  most : WritesBetween (turns_among 1 (driven (l.fn.more.seconds - l.left) l.fn.run.next l.fn.more.speed [])) 0 (powered l.fn.run l.fn.outcome) (powered l.run l.outcome) (devices (g.M.Medium.state l.fn.unit) (g.C.Chip.state l.fn.card_a) (g.D.Chip.state l.fn.card_b)) (devices (g.M.Medium.state l.unit) (g.C.Chip.state l.card_a) (g.D.Chip.state l.card_b));
  broke : BreaksDown l.fn.outcome.breaks.items l.outcome.breaks.items (g.M.Medium.state l.fn.unit) (g.M.Medium.state l.unit);
  unfound : l.run.unfound ≤ length l.outcome.breaks.items;
}

abbrev pub decreases-loop-left : goal.decreases-loop-left
decreases-loop-left g l = l.left
