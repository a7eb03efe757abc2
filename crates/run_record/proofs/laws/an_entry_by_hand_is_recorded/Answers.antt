use Rattle.run_devices.specs.run_promise.Between.{devices}
use Rattle.run_record.proofs.ByHand.{hand-recorded}
use Rattle.run_record.proofs.laws.an_entry_by_hand_is_recorded.Goals as goal

pub returns : goal.returns
returns g z = hand-recorded (devices (g.M.Medium.state z.args.unit.now) (g.C.Chip.state z.args.card_a.now) (g.D.Chip.state z.args.card_b.now))
