use Rattle.std.proofs.Common.{rules}
use Rattle.card_files.proofs.Sets.{told_held}
use Rattle.card_files.proofs.events.has_event.Goals as goal

pub returns-clause-there : goal.returns-clause-there
returns-clause-there g c = told_held c.args.app.now c.args.kind (g.M.Medium.state c.args.medium.now).image c.read_at.new.out c.set_place.result _ c.from-count.result c.set_place.ensures.place (search rules) c.from-count.ensures c.in_ok-read_at.ensures.bytes c.holds.result c.args.begin.0 c.holds.ensures
