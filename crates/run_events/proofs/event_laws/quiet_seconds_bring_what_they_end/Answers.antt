use Rattle.run_events.proofs.Quiet.{bares-split, overs-split, quiet-brings, dark-brings, torn-idle, plain-behind}
use Rattle.run_events.proofs.event_laws.quiet_seconds_bring_what_they_end.Goals as goal

pub returns : goal.returns
returns c = record {
  quiet = quiet-brings;
  dark = dark-brings;
  parts = λ limit span xs ys. (bares-split span xs ys, overs-split limit span xs ys);
  fits = torn-idle;
  plain = plain-behind;
}
