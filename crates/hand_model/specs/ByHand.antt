-- The entries by hand that a card shows: of each word of its days that tells one, up to the end mark (profile).
use Rattle.std.specs.Prelude.{◌≡◌, ℕ, ◌+◌, ◌/◌, ◌<◌, ◌≤◌, ◌&&◌, List, [], ◌∷◌, ◌++◌, nat_le, if◌then◌else◌}
use Rattle.activity_codec.specs.Words.{word_minute}
use Rattle.card_image.specs.card_layout.declared.files.Application.{Application}
use Rattle.card_image.specs.card_model.Days.{Day}
use Rattle.card_image.specs.card_retention.Shown.{sizes}
use Rattle.card_image.specs.card_retention.ByHand.{hands_in}
use Rattle.card_image.specs.Fields.{card_days, end_mark}
use Rattle.activity_codec.specs.declared.entries.Manual.{Manual}
use Rattle.hand_model.specs.Manual.{is_by_hand, tells_by_hand}

-- of the words of a day with this date, in seconds
abbrev pub words_by_hand : (mark date : ℕ) → List ℕ → List Manual
words_by_hand mark date [] = []
words_by_hand mark date (w ∷ ws) =
    if is_by_hand w && nat_le (date / 60 + word_minute w) mark then tells_by_hand date w ∷ words_by_hand mark date ws
    else words_by_hand mark date ws

-- of days, in their order
abbrev pub by_hand_up_to : (mark : ℕ) → List Day → List Manual
by_hand_up_to mark [] = []
by_hand_up_to mark (d ∷ ds) = words_by_hand mark d.date d.words ++ by_hand_up_to mark ds

-- THE ENTRIES BY HAND of a card's image
unfoldable pub by_hand_in : Application → List ℕ → List Manual
by_hand_in app x = by_hand_up_to (end_mark app x) (card_days app x)

-- of all entries by hand that days have had they tell, up to a mark, those whose day is there
abbrev pub TellsHands : (mark : ℕ) → (all : List Manual) → List Day → Type 0
TellsHands mark all days = by_hand_up_to mark days ≡ hands_in (sizes days) all

-- none of them is later than a minute
abbrev pub HandsUpTo : (last : ℕ) → List Manual → Type 0
HandsUpTo last [] = Unit {0}
HandsUpTo last (e ∷ es) = (e.minute ≤ last) × HandsUpTo last es

-- each of them is of an earlier day than this one
abbrev pub HandsBefore : (day : ℕ) → List Manual → Type 0
HandsBefore day [] = Unit {0}
HandsBefore day (e ∷ es) = (e.minute / 1440 < day) × HandsBefore day es
