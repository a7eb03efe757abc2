use Rattle.event_rules.proofs.InARow.{one_more}
use Rattle.event_rules.proofs.laws.a_run_is_its_seconds.Goals as goal

pub returns-clause-speeds : goal.returns-clause-speeds
returns-clause-speeds c = λ second n speed. one_more (λ k. record { number = k; speed = speed }) second n

pub returns-clause-bares : goal.returns-clause-bares
returns-clause-bares c = λ second n bare. one_more (λ k. record { number = k; bare = bare }) second n
