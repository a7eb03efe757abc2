use Rattle.run_events.proofs.Later.{seen-same}
use Rattle.run_events.proofs.Leading.{lines-lead}
use Rattle.run_events.proofs.Gaps.{events-lead}
use Rattle.run_events.proofs.event_laws.later_lines_change_no_event.Goals as goal

pub returns : goal.returns
returns c = record {
  seen = λ log later done same. seen-same log later done same;
  events = λ log later unfound supply done g m kind limit sessions t. lines-lead log later done m.same t (events-lead t log later unfound supply done g m) kind limit sessions;
}
