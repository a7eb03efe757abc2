use Rattle.card_match.specs.Matching.{IsMatch}
use Rattle.file_calls.proofs.OneAnswer.{one_match, also_answers, sources_answer}
use Rattle.file_calls.proofs.laws.a_match_has_one_answer.Goals as goal

pub returns-clause-entries : goal.returns-clause-entries
returns-clause-entries c = λ a entries one other is also. one_match a entries one other is also

pub returns-clause-files : goal.returns-clause-files
returns-clause-files c = λ unit card one other is also. one_match _ is.entries one other is.answer (also_answers IsMatch unit card one other is also)

pub returns-clause-source : goal.returns-clause-source
returns-clause-source c = λ bytes one other is also.
    one_match _ is.answers.entries one other is.answers.answer (also_answers IsMatch is.unit is.card one other is.answers (sources_answer IsMatch bytes one other is also))
