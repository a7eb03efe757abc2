use Rattle.run_unit_course.proofs.Steps.{powers_not}
use Rattle.run_unit_course.proofs.Seconds.{failed_seconds}
use Rattle.run_unit_course.proofs.laws.a_power_on_fails.Goals as goal

pub returns : goal.returns
returns c = record { told = failed_seconds; followed = powers_not }
