use Rattle.unit_rule.proofs.Found.{left-decodes, left-earlier}
use Rattle.unit_rule.proofs.laws.what_is_found_decodes.Goals as goal

pub returns-clause-decodes : goal.returns-clause-decodes
returns-clause-decodes g c = λ s due b marks h x is.
    let whole = g.met.M.Medium.coherent c.args.unit.now in
    left-decodes s due b marks (g.M.Medium.state c.args.unit.now) whole h x (whole.is_left x is)

pub returns-clause-earlier : goal.returns-clause-earlier
returns-clause-earlier g c = λ s due b marks h x is.
    left-earlier s due b marks (g.M.Medium.state c.args.unit.now) h x ((g.met.M.Medium.coherent c.args.unit.now).is_left x is)
