use Rattle.std.proofs.Common.{rules, refl, sym, ◌∙◌}
use Rattle.unit_messages.proofs.Fronts.{front_sound, front_none}
use Rattle.unit_messages.proofs.reading.read_message.Goals as goal

pub returns-in-Some-clause-read : goal.returns-in-Some-clause-read
returns-in-Some-clause-read c = (front_sound c.args.b.now c.in-Some.read (search rules) (sym c.at_front.ensures ∙ c.in-Some.is)).found

pub returns-in-Some-clause-inside : goal.returns-in-Some-clause-inside
returns-in-Some-clause-inside c = (front_sound c.args.b.now c.in-Some.read (search rules) (sym c.at_front.ensures ∙ c.in-Some.is)).inside

pub returns-in-Some-clause-some : goal.returns-in-Some-clause-some
returns-in-Some-clause-some c = (front_sound c.args.b.now c.in-Some.read (search rules) (sym c.at_front.ensures ∙ c.in-Some.is)).some

pub returns-in-None-clause-bad : goal.returns-in-None-clause-bad
returns-in-None-clause-bad c = (refl, front_none c.args.b.now (sym c.at_front.ensures ∙ c.in-None.is))
