-- What a run leaves on a card beside its entries (profile): the words and the distances of its days, and its vehicle
-- entries.
use Rattle.std.specs.Prelude.{ℕ, ◌++◌, List}
use Rattle.trace_model.specs.declared.Card.{Card}
use Rattle.device_calls.specs.card_image.Own.{own_sizes, IsOwnValid}
use Rattle.device_calls.specs.card_string.Deeds.{IsMade}
use Rattle.device_calls.specs.safety_model.Recording.{Recording, card_image}
use Rattle.device_calls.specs.safety_model.Cards.{CardShows}
use Rattle.device_calls.specs.safety_model.Safe.{Devices, card_of}

-- AN IMAGE OF A CARD shows its entries at the start and some of the others that are expected, from their front; and its
-- days, with their words and distances, and its vehicle entries are those that the keeps of just these others, one
-- after another, make of the start's; and a keep that was broken off was that of the next of all that are expected.
pub record IsWritten (r : Recording) (c : Card) (x : List ℕ) : Type 0 where
  pub shows : CardShows r c x
  pub made : IsMade (own_sizes (card_image r c)) (card_image r c) shows.more (shows.more ++ shows.rest) x

-- So does each image that a stop may leave at the end of a card that was valid.
abbrev pub AreWritten : Recording → Devices → Type 0
AreWritten r now = (c : Card) → IsOwnValid (card_image r c) → (x : List ℕ) → (card_of now c).may_leave x
    → IsWritten r c x
