use Rattle.safety_laws.proofs.OneFile.{view_shows}
use Rattle.safety_laws.proofs.download_laws.a_view_shows_the_unit.Goals as goal

pub returns : goal.returns
returns c = view_shows
