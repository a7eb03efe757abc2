-- What is known of a card's string where each of its images holds it (profile).
use Rattle.std.specs.Prelude.{◌≡◌, ℕ, suc, max, ◌≤◌, true, None, List, ◌++◌, All, is_some}
use Rattle.device_calls.specs.trace_model.declared.Card.{Card}
use Rattle.tach_media.specs.Medium.{State, bytes_at}
use Rattle.tach_media.specs.card_layout.declared.files.Application.{Application}
use Rattle.tach_media.specs.card_layout.Application.{IsApplication}
use Rattle.tach_media.specs.card_layout.Files.{place_of}
use Rattle.device_calls.specs.card_retention.Retains.{Rise}
use Rattle.device_calls.specs.card_image.Fields.{file, file_bytes}
use Rattle.device_calls.specs.card_image.Own.{own_view, own_sizes, own_number, IsOwnValid}
use Rattle.device_calls.specs.hand_model.AtStart.{all_at, hands_at, StaysTold}
use Rattle.device_calls.specs.hand_model.ByHand.{by_hand_in}
use Rattle.device_calls.specs.hand_model.Written.{Hands, IsPartOf}
use Rattle.device_calls.specs.card_string.Since.{HoldsSince}
use Rattle.device_calls.specs.card_string.Each.{KeepsSince}
use Rattle.device_calls.specs.history_model.Book.{Book}
use Rattle.device_calls.specs.device_rule.Views.{UnitView}
use Rattle.device_calls.specs.device_rule.Rules.{Standing, since, CardDark}
use Rattle.device_calls.specs.device_rule.Marked.{of_card}
use Rattle.run_promise.specs.Found.{CardFound, Found, found_of, unit_seen, AnyKept}
use Rattle.run_promise.specs.Cards.{brought_by}
use Rattle.run_devices.specs.Registered.{TellsOfTwo}

-- the file Identification of a card's image
abbrev pub identification_of : List ℕ → List ℕ
identification_of x = file_bytes (own_sizes x) 0x0520 x

-- THE BYTES OF A CARD THAT NO CALL OF A RUN WRITES, by its sizes, are those of the start: in front of the events ICC,
-- IC and Application_Identification; the faults; and from Control_Activity_Data on the card download, the
-- identification, the driving licence, the specific conditions, both certificates, and what stands behind them, however
-- many bytes there are
pub record HasSameRest (app : Application) (start x : List ℕ) : Type 0 where
  pub front : bytes_at x 0 (place_of app (file 0x0502)) ≡ bytes_at start 0 (place_of app (file 0x0502))
  pub faults : file_bytes app 0x0503 x ≡ file_bytes app 0x0503 start
  pub behind : (n : ℕ) → bytes_at x (place_of app (file 0x0508)) n ≡ bytes_at start (place_of app (file 0x0508)) n

-- it is the card of the same holder still: its number, its file Identification, its sizes, and all else that no call of
-- a run writes
pub record HasSameHolder (start x : List ℕ) : Type 0 where
  pub number : own_number x ≡ own_number start
  pub identification : identification_of x ≡ identification_of start
  pub sizes : own_sizes x ≡ own_sizes start
  pub rest : HasSameRest (own_sizes start) start x

-- THE STRING OF A CARD, which tells its images: each that a stop may leave now holds it, and an entry may come behind
-- its newest minute as the card stands; and each since the start keeps it. The card has its number and its holder
-- still, and tells of no other vehicle than the unit's and those of the start.
pub record CardHoldsString (f : CardFound) (h : Hands) (c : Card) (b : Book) (z : Standing) (card : State) : Type
    0 where
  pub tells : is_some card.image ≡ true
  pub now : (x : List ℕ) → card.may_leave x →
      (own_sizes x ≡ own_sizes f.image)
      × HoldsSince (own_sizes f.image) f.image h (brought_by c f.start b)
      (suc (max f.start.word (since z (own_view x).newest))) x
  pub since : (x : List ℕ) → card.left_since f.began x
      → (own_sizes x ≡ own_sizes f.image) × KeepsSince f.image h.given (brought_by c f.start b) x
  pub told : (x : List ℕ) → card.left_since f.began x
      → IsPartOf (by_hand_in (own_sizes f.image) x) (hands_at f.image ++ h.given)
  pub behind : (x : List ℕ) → card.left_since f.began x → (own_view x).session ≡ 0
      → IsPartOf (all_at x) (hands_at f.image ++ h.given)
  pub stay : (x : List ℕ) → card.left_since f.began x → StaysTold f.image (own_sizes f.image) x
  pub number : (x : List ℕ) → card.may_leave x → own_number x ≡ f.number
  pub still : (x : List ℕ) → card.left_since f.began x → HasSameHolder f.image x
  pub registered : (x : List ℕ) → card.left_since f.began x → TellsOfTwo (own_sizes f.image) f.vehicle f.image x

-- So its string is held; each image since the start is valid; the entries rise. Nothing of a minute is half kept, and
-- the rule that joins unit and card holds.
pub record EachIsStrung (f : Found) (h : Hands) (c : Card) (b : Book) (z : Standing) (unit card : State) : Type 0 where
  pub sizes : IsApplication (own_sizes (found_of f c).image)
  pub entries : (found_of f c).start.entries ≡ (own_view (found_of f c).image).held.entries
  pub held : CardHoldsString (found_of f c) h c b z card
  pub valid : (x : List ℕ) → card.left_since (found_of f c).began x → IsOwnValid x
  pub rises : Rise (brought_by c (found_of f c).start b)
  pub none : b.maybe ≡ None
  pub sure : (u : UnitView) → (unit_seen f unit).may_leave u → All (λ i. i.minute ≤ u.last) b.sure
  pub rests : CardDark c (found_of f c).start AnyKept (found_of f c).began b z (unit_seen f unit) (of_card card)
