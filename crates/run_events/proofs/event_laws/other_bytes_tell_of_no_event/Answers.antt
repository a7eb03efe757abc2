use Rattle.run_events.proofs.Frames.{between-nothing, keeps-nothing}
use Rattle.run_events.proofs.event_laws.other_bytes_tell_of_no_event.Goals as goal

pub returns : goal.returns
returns c = record { between = between-nothing; journal = keeps-nothing }
