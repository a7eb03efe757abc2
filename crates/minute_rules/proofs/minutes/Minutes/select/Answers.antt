use Rattle.minute_rules.proofs.Giving.{select_driver, select_codriver}
use Rattle.minute_rules.proofs.minutes.Minutes.select.Goals as goal

pub returns-in-Driver-clause-picked : goal.returns-in-Driver-clause-picked
returns-in-Driver-clause-picked c = λ span h. rw (c.select.ensures, c.in-Driver.is) (select_driver span c.args.pick _ (rw (← c.self.view_is) at h))

pub returns-in-CoDriver-clause-picked : goal.returns-in-CoDriver-clause-picked
returns-in-CoDriver-clause-picked c = λ span h. rw c.in-CoDriver.is (select_codriver span c.args.pick _ (rw (← c.self.view_is) at h))
