use Rattle.safety_laws.proofs.Handing.{handed_out}
use Rattle.safety_laws.proofs.download_laws.what_is_kept_is_handed_out.Goals as goal

pub returns : goal.returns
returns g c = λ start past lost marks since x safe left sized. handed_out start past lost marks since (g.U.Medium.state c.args.unit.now) x safe left sized (c.holds_bytes.ensures.since since x left)
