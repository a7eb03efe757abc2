use Rattle.std.proofs.Common.{◌∙◌}
use Rattle.device_calls.proofs.CardNoted.{noted-view, noted-valid, noted-sizes}
use Rattle.device_calls.proofs.step_laws.a_noted_card_is_valid.Goals as goal

pub returns : goal.returns
returns c = λ app x y sound is note. ((noted-sizes app sound x is.1 y note ∙ is.0, noted-valid app sound x is.1 y note), noted-view app sound x is.1 y note)
