use Rattle.run_events.proofs.Gaps.{gaps-begin, is-found, goes-on, breaks-off, fails, stays-dark}
use Rattle.run_events.proofs.event_laws.it_is_known_what_was_kept.Goals as goal

pub returns : goal.returns
returns c = record {
  begins = gaps-begin;
  found = is-found;
  goes_on = λ log later unfound done s same rest breaks front supply now span more t is on g lit starts. goes-on log later unfound done s same rest breaks front supply now span more t is on g lit starts;
  breaks_off = λ log later unfound done s same rest breaks front supply span is g lit starts cut. breaks-off log later unfound done s same rest breaks front supply span is g lit starts cut;
  fails = λ log later unfound done s same rest breaks front supply dark g lit starts failed cut. fails log later unfound done s same rest breaks front supply dark g lit starts failed cut;
  dark = λ log later unfound done s same rest breaks front supply now dark still g lit. stays-dark log later unfound done s same rest breaks front supply now dark still g lit;
}
