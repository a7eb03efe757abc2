use Rattle.card_download.proofs.ReadBack.{view_shows}
use Rattle.card_download.proofs.laws.a_view_shows_the_card.Goals as goal

pub returns : goal.returns
returns c = view_shows
