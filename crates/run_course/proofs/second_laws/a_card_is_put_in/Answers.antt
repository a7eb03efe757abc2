use Rattle.run_course.proofs.Presence.{put-in}
use Rattle.run_course.proofs.second_laws.a_card_is_put_in.Goals as goal

pub returns : goal.returns
returns c = put-in
