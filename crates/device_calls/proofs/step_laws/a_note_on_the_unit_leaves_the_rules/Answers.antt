use Rattle.device_calls.proofs.Noted.{noted-holds, noted-card, noted-rests}
use Rattle.device_calls.proofs.step_laws.a_note_on_the_unit_leaves_the_rules.Goals as goal

pub returns-clause-holds : goal.returns-clause-holds
returns-clause-holds g c = λ s due b marks run h. noted-holds s due b marks (g.met.M.Medium.coherent c.args.before.now) run h

pub returns-clause-card : goal.returns-clause-card
returns-clause-card g c = λ r card s due b marks z m d run h rule. noted-card r card s due b marks z (g.C.Chip.state c.args.card.now) (g.met.M.Medium.coherent c.args.before.now) h run m d rule

pub returns-clause-rests : goal.returns-clause-rests
returns-clause-rests g c = λ r card s due b marks z run h rests. noted-rests r card s due b marks z (g.C.Chip.state c.args.card.now) (g.met.M.Medium.coherent c.args.before.now) h run rests
