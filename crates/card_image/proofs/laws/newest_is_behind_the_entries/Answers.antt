use Rattle.card_image.proofs.Newest.{newest_of_entries, counted_entries}
use Rattle.card_image.proofs.laws.newest_is_behind_the_entries.Goals as goal

pub returns : goal.returns
returns c = record { newest = newest_of_entries; entries = counted_entries }
