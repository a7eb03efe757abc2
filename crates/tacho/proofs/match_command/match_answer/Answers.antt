use Rattle.std.proofs.lemmas.Result.{err_from_is_err_and}
use Rattle.card_match.specs.Files.{IsBadSource}
use Rattle.tacho.proofs.Views.{source-refused}
use Rattle.tacho.proofs.match_command.match_answer.Goals as goal

pub returns-in_err-matched-clause-err : goal.returns-in_err-matched-clause-err
returns-in_err-matched-clause-err c =
    let p = err_from_is_err_and c.from_residual.result c.from_residual.ensures.1 in
    rw (p.1, p.2) (source-refused (λ place. IsBadSource place c.args.b.now) c.in_err-matched.field-0.0 c.in_err-matched.ensures.bad)

pub returns-in_err-match_text-clause-err : goal.returns-in_err-match_text-clause-err
returns-in_err-match_text-clause-err c =
    let p = err_from_is_err_and c.from_residual-in_err-match_text.result c.from_residual-in_err-match_text.ensures.1 in
    rw (p.1, p.2) tt
