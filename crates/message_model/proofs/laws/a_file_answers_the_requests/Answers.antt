use Rattle.message_model.proofs.Answering.{file_answers}
use Rattle.message_model.proofs.laws.a_file_answers_the_requests.Goals as goal

pub returns : goal.returns
returns c = file_answers
