-- The entries by hand that a card file tells (profile).
use Rattle.std.specs.Prelude.{◌≡◌, ℕ, nat_le, ◌+◌, ◌/◌, ◌&&◌, if◌then◌else◌, List, [], ◌∷◌}
use Rattle.activity_codec.specs.Words.{word_minute}
use Rattle.card_layout.specs.declared.files.Application.{Application}
use Rattle.card_model.specs.Walk.{days_of}
use Rattle.card_image.specs.CardFile.{FileEntry, IsCardFile, string_alone}
use Rattle.activity_codec.specs.declared.entries.Manual.{Manual}
use Rattle.hand_model.specs.Manual.{is_by_hand, tells_by_hand}
use Rattle.hand_model.specs.ByHand.{by_hand_up_to}
use Rattle.file_view.specs.CardFiles.{mark_of}

-- those of the days of its string, up to its end mark
abbrev pub hands_told : Application → (days vehicles : List ℕ) → List Manual
hands_told app days vehicles = by_hand_up_to (mark_of app vehicles) (days_of (string_alone app) days)

-- the bytes are a card file, which tells these entries by hand
pub record ShowsByHand (bytes : List ℕ) (told : List Manual) : Type 0 where
  pub app : Application
  pub days : List ℕ
  pub vehicles : List ℕ
  pub entries : List FileEntry
  pub file : IsCardFile app days vehicles entries bytes
  pub told_are : told ≡ hands_told app days vehicles

-- the entry by hand that a word tells of a day with this date, where it is not behind the mark
abbrev pub hand_up_to : (mark date word : ℕ) → List Manual
hand_up_to mark date word = if is_by_hand word && nat_le (date / 60 + word_minute word) mark
    then tells_by_hand date word ∷ [] else []
