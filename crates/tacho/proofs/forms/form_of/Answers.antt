use Rattle.std.proofs.Common.{sym}
use Rattle.tacho.specs.Forms.{form_of}
use Rattle.tacho.proofs.WordLists.{no-form}
use Rattle.tacho.proofs.forms.form_of.Goals as goal

pub returns-in-Some : goal.returns-in-Some
unfolding form_of
returns-in-Some c = rw c.in-Some.ensures.found c.form_of_one.ensures

pub returns-in-Some-two : goal.returns-in-Some-two
unfolding form_of
returns-in-Some-two c = rw c.in-Some-two.ensures.found c.form_of_two.ensures

pub returns-in-Some-three : goal.returns-in-Some-three
unfolding form_of
returns-in-Some-three c = rw c.in-Some-three.ensures.found c.form_of_three.ensures

pub returns-in_err-command : goal.returns-in_err-command
returns-in_err-command c = rw c.from_residual.ensures (sym (no-form c.args.words.now c.in_default.ensures.none c.in_default-two.ensures.none c.in_default-three.ensures.none c.in_err-command.ensures.none))

pub returns : goal.returns
unfolding form_of
returns c = rw c.in_ok-command.ensures.found c.form_of_six.ensures
