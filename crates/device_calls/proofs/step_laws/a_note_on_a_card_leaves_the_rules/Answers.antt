use Rattle.std.proofs.Common.{inr}
use Rattle.device_calls.proofs.CardNoted.{noted-holds, noted-tears, noted-rests}
use Rattle.device_calls.proofs.step_laws.a_note_on_a_card_leaves_the_rules.Goals as goal

pub returns-clause-card : goal.returns-clause-card
returns-clause-card g c = λ r which b z m d app sound known run works rule. noted-holds r which b app sound (g.met.C.Chip.coherent c.args.before.now) known run (g.M.Medium.state c.args.unit.now) z m d (inr works) rule

pub returns-clause-torn : goal.returns-clause-torn
returns-clause-torn g c = λ r which b time newest floor app sound known run rule. noted-tears r which b app sound (g.met.C.Chip.coherent c.args.before.now) known run (g.M.Medium.state c.args.unit.now) time newest floor rule

pub returns-clause-rests : goal.returns-clause-rests
returns-clause-rests g c = λ r which b z app sound known run rests. noted-rests r which b app sound (g.met.C.Chip.coherent c.args.before.now) known run (g.M.Medium.state c.args.unit.now) z rests
