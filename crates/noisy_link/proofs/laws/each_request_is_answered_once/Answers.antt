use Rattle.std.proofs.Common.{Some}
use Rattle.link_model.specs.Answers.{Idle}
use Rattle.link_session.specs.Told.{fresh}
use Rattle.noisy_model.specs.Worlds.{distinct_requests}
use Rattle.noisy_model.proofs.Requests.{heard}
use Rattle.noisy_link.specs.Sides.{download_sides}
use Rattle.noisy_link.proofs.Talking.{stands}
use Rattle.noisy_link.proofs.laws.each_request_is_answered_once.Goals as goal

pub returns : goal.returns
returns c = λ x load events w took passes. stands x (fresh Idle) (distinct_requests w.sent w.unit.last) w.unit.side (heard (download_sides (Some x)) (fresh Idle) load w took events passes)
