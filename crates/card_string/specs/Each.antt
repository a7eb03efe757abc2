-- Each image that a stop may leave of a card, and each that it might have left since the start of a run (profile).
use Rattle.std.specs.Prelude.{◌≡◌, ℕ, List, ◌++◌, filter, nat_le}
use Rattle.card_by_hand.specs.activity_codec.declared.entries.Entry.{Entry}
use Rattle.card_by_hand.specs.activity_codec.declared.entries.Manual.{Manual}
use Rattle.tach_media.specs.Medium.{State}
use Rattle.tach_media.specs.card_layout.declared.files.Application.{Application}
use Rattle.card_by_hand.specs.card_image.Fields.{session_time}
use Rattle.card_by_hand.specs.hand_model.ByHand.{by_hand_in}
use Rattle.card_by_hand.specs.hand_model.AtStart.{all_at, hands_at, StaysTold}
use Rattle.card_by_hand.specs.hand_model.Written.{Hands, IsPartOf}
use Rattle.card_by_hand.specs.card_image.Own.{own_sizes, own_view, KeepsOf}
use Rattle.card_by_hand.specs.card_session.Sessions.{book_of}
use Rattle.card_string.specs.Since.{all_since, HoldsSince}

-- of the entries that came since the start, those up to a card's end mark are kept with its own, but for what the
-- overwriting took, where each of these entries by hand counts as a word of its day
abbrev pub KeepsSince : (image : List ℕ) → (given : List Manual) → (brought : List Entry) → List ℕ → Type 0
KeepsSince image given brought x = KeepsOf image given
    (all_since image (filter (λ e. nat_le e.minute (own_view x).mark) brought)) (own_view x).held

-- EACH IMAGE that a stop may leave now stands so, and each that it might have left since this clock kept them.
pub record EachHolds (app : Application) (image : List ℕ) (hands : Hands) (brought : List Entry) (next began : ℕ)
    (card : State) : Type 0 where
  pub now : (x : List ℕ) → card.may_leave x → (own_sizes x ≡ app) × HoldsSince app image hands brought next x
  pub since : (x : List ℕ) → card.left_since began x → (own_sizes x ≡ app) × KeepsSince image hands.given brought x
  -- what may be told of entries by hand
  pub told : (x : List ℕ) → card.left_since began x → IsPartOf (by_hand_in app x) (hands_at image ++ hands.given)
  -- also behind the end mark, where no session is open
  pub behind : (x : List ℕ) → card.left_since began x → (own_view x).session ≡ 0
      → IsPartOf (all_at x) (hands_at image ++ hands.given)
  -- and what stays told of them
  pub stay : (x : List ℕ) → card.left_since began x → StaysTold image app x

-- a write beside them leaves the sizes, the days with the vehicle entries, and the session time
pub record LeavesString (app : Application) (x y : List ℕ) : Type 0 where
  pub sizes : own_sizes y ≡ own_sizes x
  pub book : book_of app y ≡ book_of app x
  pub session : session_time app y ≡ session_time app x
