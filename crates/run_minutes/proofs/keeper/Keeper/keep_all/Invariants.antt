use Rattle.std.specs.Prelude.{◌*◌, ◌≡◌}
use Rattle.run_events.specs.run_speeds.Speeds.{LeavesSpeeds}
use Rattle.run_devices.specs.run_promise.Between.{devices}
use Rattle.run_minutes.specs.Stand.{AreBare, standing}
use Rattle.run_minutes.specs.Writes.{WroteAtMost, minute_most}
use Rattle.run_minutes.proofs.SoFar.{SoFar}
use Rattle.run_minutes.proofs.keeper.Keeper.keep_all.Given as goal

abbrev pub invariant-loop-minute : goal.invariant-loop-minute
invariant-loop-minute g l = record {
  so : SoFar l.decided l.minute-index l.at
      (standing l.fn.self l.fn.outcome.marks l.fn.outcome.breaks (g.M.Medium.state l.fn.unit) (g.C.Chip.state l.fn.card_a) (g.D.Chip.state l.fn.card_b) (g.C.Chip.card l.fn.card_a) (g.D.Chip.card l.fn.card_b))
      (standing l.self l.outcome.marks l.outcome.breaks (g.M.Medium.state l.unit) (g.C.Chip.state l.card_a) (g.D.Chip.state l.card_b) (g.C.Chip.card l.card_a) (g.D.Chip.card l.card_b));
  most : WroteAtMost (26 * l.minute-index) (minute_most * l.minute-index)
      (devices (g.M.Medium.state l.fn.unit) (g.C.Chip.state l.fn.card_a) (g.D.Chip.state l.fn.card_b))
      (devices (g.M.Medium.state l.unit) (g.C.Chip.state l.card_a) (g.D.Chip.state l.card_b));
  speeds : LeavesSpeeds (g.M.Medium.state l.fn.unit) (g.M.Medium.state l.unit);
  only : l.outcome ≡ record l.fn.outcome { marks = l.outcome.marks; breaks = l.outcome.breaks };
  bare : AreBare l.fn.self.cabin.cards l.fn.card_a l.card_a l.fn.card_b l.card_b;
}
