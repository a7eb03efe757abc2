-- What an image shows at a moment of a withdrawal of its card (profile).
use Rattle.std.specs.Prelude.{◌≡◌, ◌⊎◌, ℕ, ◌/◌, false, List}
use Rattle.card_by_hand.specs.activity_codec.declared.entries.Entry.{Entry}
use Rattle.tach_media.specs.card_layout.declared.files.Application.{Application}
use Rattle.card_by_hand.specs.card_retention.Expected.{Counted}
use Rattle.card_by_hand.specs.card_retention.Shown.{Bound, is_open}
use Rattle.card_by_hand.specs.card_image.Fields.{card_days, end_mark, session_time}
use Rattle.card_string.specs.Carried.{StringFollowsEntries, Broke}

-- The last entry is closed: the days go on where the next entry is not earlier than `next`, and the end mark lies on
-- its day still.
pub record IsClosedShown (app : Application) (slack : Bound) (covered next : ℕ) (c : Counted) (all : List Entry)
    (x y : List ℕ) : Type 0 where
  pub goes : StringFollowsEntries app slack covered next c all y
  pub day : end_mark app y / 1440 ≡ end_mark app x / 1440
  pub shut : is_open (end_mark app y) (card_days app y) ≡ false

-- The session is still open, and what a repair would leave keeps the rule; or the last entry is closed.
abbrev pub IsCloseShown : Application → (slack : Bound) → (covered next : ℕ) → Counted → (all : List Entry)
    → (x y : List ℕ) → Type 0
IsCloseShown app slack covered next c all x y =
    ((session_time app y ≡ session_time app x) × (end_mark app y ≡ end_mark app x)
    × Broke app slack covered next c all y)
    ⊎ IsClosedShown app slack covered next c all x y
