use Rattle.device_calls.proofs.Told.{words-known}
use Rattle.device_calls.proofs.step_laws.a_first_acceptance_knows_its_words.Goals as goal

pub returns : goal.returns
returns c = λ app registration odometer now owed x y t sound fits long is done same knows. words-known app registration odometer now owed x y t sound fits long is.0 is.1 done same knows
