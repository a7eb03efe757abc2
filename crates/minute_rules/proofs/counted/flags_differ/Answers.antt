use Rattle.minute_rules.proofs.Parts.{flag_off, flag_on}
use Rattle.minute_rules.proofs.counted.flags_differ.Goals as goal

pub returns-then-one : goal.returns-then-one
returns-then-one c = flag_off c.args.one c.args.other c.if-one.true

pub returns : goal.returns
returns c = flag_on c.args.one c.args.other c.if-one.false
