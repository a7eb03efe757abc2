use Rattle.run_events.proofs.Shows.{more-then, moment-first, moment-then}
use Rattle.run_events.proofs.event_laws.more_is_shown_after_more.Goals as goal

pub returns : goal.returns
returns c = record { more = more-then; first = moment-first; behind = moment-then }
