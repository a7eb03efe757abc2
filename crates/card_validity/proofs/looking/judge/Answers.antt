use Rattle.std.proofs.Common.{◌∙◌, sym, arith}
use Rattle.card_layout.proofs.Sizes.{largest_image}
use Rattle.card_validity.specs.Judged.{IsCopy, TellsSizes, IsKnown}
use Rattle.card_validity.proofs.Faults.{failed_ok, failed_valid, failed_in_time}
use Rattle.card_validity.proofs.Copies.{behind_same, known_same}
use Rattle.card_validity.proofs.Slices.{told_both}
use Rattle.card_validity.proofs.Verdicts.{behind_decides}
use Rattle.card_validity.proofs.looking.judge.Goals as goal

pub returns-in_err-read_files-clause-sized : goal.returns-in_err-read_files-clause-sized
returns-in_err-read_files-clause-sized g c = failed_ok c.from_residual.result _ c.from_residual.ensures.1

pub returns-in_err-read_files-clause-judged : goal.returns-in_err-read_files-clause-judged
returns-in_err-read_files-clause-judged g c = failed_ok c.from_residual.result _ c.from_residual.ensures.1

pub returns-in_err-read_files-clause-bad : goal.returns-in_err-read_files-clause-bad
returns-in_err-read_files-clause-bad g c = failed_valid c.from_residual.result _ c.from_residual.ensures.1

pub returns-in_err-read_files-clause-in_time : goal.returns-in_err-read_files-clause-in_time
returns-in_err-read_files-clause-in_time g c = failed_in_time c.from_residual.result _ c.from_residual.ensures.1

pub returns-in-Ok-clause-judged : goal.returns-in-Ok-clause-judged
returns-in-Ok-clause-judged g c =
    let app = c.args.app.now in
    told_both (g.M.Medium.state c.args.port.now).image (λ x. IsCopy app x c.read_files.new.room) (TellsSizes app) _ (λ x copy told.
    let known : IsKnown app x c.in-Ok.judged = known_same app c.requires.sizes x c.read_files.new.room copy c.in-Ok.judged c.in-Ok.ensures.known in
    record { valid = behind_decides app x told ∙ known.passes; known = known }) c.in_ok-read_files.ensures.copy c.requires.told

pub returns-in-Err-clause-bad : goal.returns-in-Err-clause-bad
returns-in-Err-clause-bad g c =
    let app = c.args.app.now in
    told_both (g.M.Medium.state c.args.port.now).image (λ x. IsCopy app x c.read_files.new.room) (TellsSizes app) _ (λ x copy told.
    behind_decides app x told ∙ sym (behind_same app c.requires.sizes x c.read_files.new.room copy) ∙ c.in-Err.ensures.bad) c.in_ok-read_files.ensures.copy c.requires.told

pub judge_image-requires-clause-inside : goal.judge_image-requires-clause-inside
judge_image-requires-clause-inside g c = omega (arith, largest_image c.args.app.now c.requires.sizes, c.read_files.auto.room)
