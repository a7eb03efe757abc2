use Rattle.std.proofs.Common.{sym, ◌∙◌}
use Rattle.tacho.specs.Hints.{hint_of}
use Rattle.tacho.proofs.HintWords.{first-hint, no-word}
use Rattle.tacho.proofs.hints.hint_of.Goals as goal

pub returns-in-Some : goal.returns-in-Some
unfolding hint_of
returns-in-Some c = rw c.in-Some.ensures.found c.hint_of_two.ensures

pub returns-in-Some-three : goal.returns-in-Some-three
unfolding hint_of
returns-in-Some-three c = rw c.in-Some-three.ensures.found c.hint_of_three.ensures

pub returns-in-Some-six : goal.returns-in-Some-six
unfolding hint_of
returns-in-Some-six c = rw c.in-Some-six.ensures.found c.hint_of_six.ensures

pub returns-then-is_empty : goal.returns-then-is_empty
returns-then-is_empty c = sym (no-word c.args.words.now (sym c.is_empty.ensures ∙ c.if-is_empty.true))

pub returns : goal.returns
returns c = c.command_hint.ensures ∙ sym (first-hint c.args.words.now c.get.result.now c.get.ensures c.in_default.ensures.none
    c.in_default-three.ensures.none c.in_default-six.ensures.none)
