use Rattle.run_events.proofs.Offs.{off-leads, torn-off, off-gaps}
use Rattle.run_events.proofs.event_laws.a_cut_behind_a_second_leaves_its_events.Goals as goal

pub returns : goal.returns
returns c = record { events = off-leads; fits = torn-off; gaps = off-gaps }
