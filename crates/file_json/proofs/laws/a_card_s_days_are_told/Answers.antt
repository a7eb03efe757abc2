use Rattle.file_json.proofs.CardDays.{days_are_shown}
use Rattle.file_json.proofs.laws.a_card_s_days_are_told.Goals as goal

pub returns : goal.returns
returns c = λ app value days shape long holds. days_are_shown app.activity value days shape long holds
