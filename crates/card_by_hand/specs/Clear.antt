-- What the laws of entries by hand ask of a card.
use Rattle.std.specs.Prelude.{◌≡◌, ℕ, ◌/◌, ◌<◌, false, List}
use Rattle.tach_media.specs.card_layout.declared.files.Application.{Application}
use Rattle.card_session.specs.card_retention.Expected.{is_newest}
use Rattle.card_session.specs.card_retention.Shown.{sizes}
use Rattle.hand_model.specs.card_image.Fields.{card_days, end_mark}

-- The day of a minute, where it is new, is later than that of the end mark: so it is on each card whose end mark a
-- session has moved.
abbrev pub BeginsLater : Application → (minute : ℕ) → List ℕ → Type 0
BeginsLater app minute x = is_newest (minute / 1440) (sizes (card_days app x)) ≡ false
    → end_mark app x / 1440 < minute / 1440
