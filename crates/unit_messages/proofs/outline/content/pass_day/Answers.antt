use Rattle.std.proofs.Common.{◌∙◌, rules}
use Rattle.std.specs.Prelude.{is_err}
use Rattle.unit_memory.proofs.Told.{told_all}
use Rattle.unit_minutes.proofs.IfAny.{read_same}
use Rattle.unit_messages.proofs.Calls.{any_then, any_failed}
use Rattle.unit_messages.proofs.Joints.{at_told}
use Rattle.unit_messages.proofs.Contents.{day_passed}
use Rattle.unit_messages.proofs.outline.content.pass_day.Goals as goal

pub returns-clause-passed : goal.returns-clause-passed
returns-clause-passed g c =
    told_all (g.M.Medium.state c.args.unit.now).image _ (λ x told is.
    let second = read_same c.in_ok-pass_insertions.ensures.reads ∙ told in
    let third = read_same c.in_ok-pass_words.ensures.reads ∙ second in
    day_passed x c.args.day c.args.window.now c.pass.new.self c.pass_number.new.window c.pass_odometer.new.window c.pass_insertions.new.window c.pass_words.new.window c.pass_places.new.window c.pass-2.new.self is
    c.pass.ensures c.pass_number.ensures c.pass_odometer.ensures
    (at_told _ x told c.in_ok-pass_insertions.ensures.passed is.insertion_pointer is.insertions)
    (at_told _ x second c.in_ok-pass_words.ensures.passed)
    (at_told _ x third c.in_ok-pass_places.ensures.passed is.place_pointer is.places)
    c.pass-2.ensures)

pub returns-in_err-pass_words-clause-reads : goal.returns-in_err-pass_words-clause-reads
returns-in_err-pass_words-clause-reads g c =
    any_failed (is_err c.from_residual-in_err-pass_words.result) (search rules) (any_then c.in_ok-pass_insertions.ensures.reads c.in_err-pass_words.ensures.reads)

pub returns-in_err-pass_places-clause-reads : goal.returns-in_err-pass_places-clause-reads
returns-in_err-pass_places-clause-reads g c =
    any_failed (is_err c.from_residual-in_err-pass_places.result) (search rules) (any_then (any_then c.in_ok-pass_insertions.ensures.reads c.in_ok-pass_words.ensures.reads) c.in_err-pass_places.ensures.reads)

pub returns-clause-reads : goal.returns-clause-reads
returns-clause-reads g c = any_then (any_then c.in_ok-pass_insertions.ensures.reads c.in_ok-pass_words.ensures.reads) c.in_ok-pass_places.ensures.reads
