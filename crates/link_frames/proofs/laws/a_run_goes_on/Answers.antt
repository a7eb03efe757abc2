use Rattle.link_frames.proofs.Runs.{run_append}
use Rattle.link_frames.proofs.laws.a_run_goes_on.Goals as goal

pub returns : goal.returns
returns c = run_append
