use Rattle.minute_rules.proofs.Fitting.{all-waited, waited-fits}
use Rattle.minute_rules.proofs.minutes.Minutes.pass.Goals as goal

pub invariant_of-self : goal.invariant_of-self
invariant_of-self g c =
    (rw c.end_late.ensures.kept (all-waited c.self.inside.next c.args.n c.self.inside.driver.waiting c.self.inside.past.items c.self.invariant.0), rw (c.add.ensures, c.wait.ensures) (waited-fits c.self.inside.next c.args.n c.self.inside.driver.waiting c.activity.result c.activity-2.result c.self.inside.here c.self.invariant.1), c.self.invariant.2)
