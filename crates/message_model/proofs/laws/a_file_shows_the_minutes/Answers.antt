use Rattle.message_model.proofs.Showing.{file_minutes}
use Rattle.message_model.proofs.laws.a_file_shows_the_minutes.Goals as goal

pub returns : goal.returns
returns c = file_minutes
