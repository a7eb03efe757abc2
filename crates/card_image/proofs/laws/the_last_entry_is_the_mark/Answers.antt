use Rattle.card_image.proofs.Beside.{last_use_at}
use Rattle.card_image.proofs.laws.the_last_entry_is_the_mark.Goals as goal

pub returns : goal.returns
returns c = last_use_at
