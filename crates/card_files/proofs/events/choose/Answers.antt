use Rattle.std.proofs.Common.{rules}
use Rattle.card_files.proofs.Sets.{told_takes}
use Rattle.card_files.proofs.events.choose.Goals as goal

pub returns-clause-takes : goal.returns-clause-takes
returns-clause-takes g c = told_takes c.args.app.now c.args.kind (g.M.Medium.state c.args.medium.now).image c.read_at.new.out c.set_place.result _ c.from-count.result c.set_place.ensures.place (search rules) c.from-count.ensures c.in_ok-read_at.ensures.bytes c.earliest.result c.earliest.ensures
