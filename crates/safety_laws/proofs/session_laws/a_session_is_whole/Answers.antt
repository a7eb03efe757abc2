use Rattle.safety_laws.proofs.Moments.{moment-shown, between-shown, ready-again}
use Rattle.safety_laws.proofs.session_laws.a_session_is_whole.Goals as goal

pub returns-clause-moments : goal.returns-clause-moments
returns-clause-moments c = λ image ready brought x moment. moment-shown image ready moment

pub returns-clause-between : goal.returns-clause-between
returns-clause-between c = λ image ready brought s x sitting. between-shown image ready brought s x sitting

pub returns-clause-again : goal.returns-clause-again
returns-clause-again c = λ image ready brought x moment bytes. ready-again image ready moment bytes
