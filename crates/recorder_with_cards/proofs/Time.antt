-- What time is left behind a call was left before it: no clock falls.
use Rattle.device_calls.specs.safety_model.Safe.{Devices}
use Rattle.run_minutes.specs.Books.{HaveTime}
use Rattle.run_minutes.specs.Later.{AreAfter, AreLater}
use Rattle.run_minutes.proofs.DecidedBooked.{time-before}

pub after-time : {d e : Devices} → AreAfter d e → HaveTime e → HaveTime d
after-time {d} {e} after time = time-before d e after.unit.clock after.card_a.clock after.card_b.clock time

pub later-time : {d e : Devices} → AreLater d e → HaveTime e → HaveTime d
later-time {d} {e} later time = time-before d e later.unit.clock later.card_a.clock later.card_b.clock time
