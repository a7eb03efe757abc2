use Rattle.run_rings.proofs.Spans.{are-spans, earlier-stay, alike, odometer-now}
use Rattle.run_rings.proofs.laws.odometers_go_on_with_their_spans.Goals as goal

pub returns : goal.returns
returns c = record { spans = are-spans; earlier = earlier-stay; alike = alike; now = odometer-now }
