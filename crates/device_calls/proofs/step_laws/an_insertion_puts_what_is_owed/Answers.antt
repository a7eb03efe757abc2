use Rattle.device_calls.proofs.Enters.{entering-moments}
use Rattle.device_calls.proofs.step_laws.an_insertion_puts_what_is_owed.Goals as goal

pub returns : goal.returns
returns g c = λ app registration odometer now u x enters told is. entering-moments app registration odometer now _ _ _ _ _ u x enters told is
