use Rattle.std.proofs.Common.{◌+◌, arith}
use Rattle.minute_rules.proofs.Fitting.{all-later, moved-fits}
use Rattle.minute_rules.proofs.minutes.Minutes.drive.Goals as goal

pub invariant_of-self : goal.invariant_of-self
invariant_of-self g c =
    (all-later c.self.inside.next (c.self.inside.next + c.args.n) c.self.inside.past.items (omega arith) c.self.invariant.0, rw c.drive.ensures (moved-fits c.self.inside.next c.args.n c.args.speed c.self.inside.here (omega (arith, c.ranges.speed.fits)) c.self.invariant.1), c.self.invariant.2)
