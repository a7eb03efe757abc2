use Rattle.link_model.specs.Answers.{Idle}
use Rattle.link_session.specs.Told.{fresh}
use Rattle.noisy_model.proofs.Leading.{holds}
use Rattle.noisy_link.specs.Sides.{download_sides}
use Rattle.noisy_link.proofs.laws.a_noisy_link_leads_where_a_talk_does.Goals as goal

pub returns : goal.returns
returns c = λ image load events w took passes. (holds (download_sides image) (fresh Idle) load w took events passes).talk
