-- What a run promises of the entries by hand on a card (profile): which of them an image may tell, which it must, and
-- which a session stops.
use Rattle.std.specs.Prelude.{◌≡◌, ℕ, ◌/◌, ◌<◌, ◌≤◌, true, Option, Some, None, option_map, List}
use Rattle.std.specs.Prelude.{◌++◌, Contains, length}
use Rattle.device_rule.specs.activity_codec.declared.entries.Manual.{Manual}
use Rattle.device_rule.specs.trace_model.declared.Card.{Card}
use Rattle.tach_media.specs.Medium.{State}
use Rattle.tach_media.specs.card_layout.declared.files.Application.{Application}
use Rattle.device_rule.specs.card_image.Own.{own_sizes, own_view, IsOwnValid}
use Rattle.card_string.specs.hand_model.AtStart.{all_at, hands_at, HasDayOf, StaysTold}
use Rattle.card_string.specs.hand_model.ByHand.{by_hand_in}
use Rattle.card_string.specs.hand_model.Holding.{last_minute}
use Rattle.card_string.specs.hand_model.Written.{IsPartOf}
use Rattle.device_rule.specs.history_model.Presence.{newest_minute}
use Rattle.device_rule.specs.log_model.declared.lines.Mark.{Mark}
use Rattle.device_rule.specs.log_model.declared.lines.Refused.{Refused}
use Rattle.device_rule.specs.log_model.Causes.{device_of}
use Rattle.device_rule.specs.log_model.declared.lines.SlotFault.{SlotFault}
use Rattle.device_rule.specs.log_model.ByHand.{Asked, stopped_by}
use Rattle.safety_model.specs.Recording.{Recording, card_image, start_of, history_of}
use Rattle.safety_model.specs.Unit.{marks_of}
use Rattle.safety_model.specs.Hands.{Session, IsSessionOf, IsFirstOf, is_within, of_session}
use Rattle.safety_model.specs.Hands.{sessions, asked, done, hands_done, IsFirstBefore, held_before}

-- a line of the log tells this fault of an entry by hand that was asked; where there is no fault, no line tells one
abbrev pub IsTold : List Refused → Asked → Option SlotFault → Type 0
IsTold lines a None = (l : Refused) → Contains lines l → l.second ≡ a.second → l.begun ≡ a.begun → ⊥
IsTold lines a (Some fault) = Contains lines (record { second = a.second; fault = fault; begun = a.begun })

-- WHY ONE IS STOPPED that was asked, if it is, and which line tells it: of these sessions, of what was done, and of
-- these marks, by what a newest minute may be that a session is accepted with in a second. Its session was accepted
-- with one that may be, and that is none before those of the marks before its own minute. It stops one by its first
-- minute, if it has kept one, by the later of the newest minute and the last one that it holds, and by how many it
-- holds.
pub record IsStoppedBy (May : (second newest : ℕ) → Type 0) (all : List Session) (done : List Asked)
    (marks : List Mark) (lines : List Refused) (a : Asked) : Type 0 where
  pub why : Option SlotFault
  pub told : IsTold lines a why
  pub session : Session
  pub next : Option Session
  pub one : IsSessionOf all marks session next
  pub within : is_within session next a ≡ true
  pub newest : ℕ
  pub answers : (m : Mark) → Contains marks m → m.minute < session.second / 60 → m.minute ≤ newest
  pub most : May session.second newest
  pub first : Option Mark
  pub kept : IsFirstBefore all marks session next a first
  pub is : why ≡ stopped_by (option_map (λ (m : Mark). m.minute) first)
      (last_minute newest (held_before done session a)) (session.second / 60) (length (held_before done session a))
      a.minute

module _ (r : Recording) (c : Card) where
  -- the sizes of the card, by its image at the start
  abbrev pub app : Application
  app = own_sizes (card_image r c)

  -- AN IMAGE TELLS entries by hand that it may tell: in their order, each once, what stood there at the start and what
  -- was done
  abbrev pub TellsHands : (x : List ℕ) → Type 0
  TellsHands x = IsPartOf (by_hand_in app x) (hands_at (card_image r c) ++ hands_done r c)

  -- the first mark of a session of the card, by all marks of the run
  abbrev pub IsFirstMark : (marks : List Mark) → Session → Option Session → Mark → Type 0
  IsFirstMark marks s next m = IsFirstOf (sessions r c) (marks_of (device_of c) marks) s next m

  -- ONCE A SESSION'S FIRST MINUTE IS ACKNOWLEDGED every image since tells the entries by hand of its day, unless
  -- overwriting took that
  abbrev pub KeepsHands : (marks : List Mark) → (card : State) → Type 0
  KeepsHands marks card =
      (s : Session) (next : Option Session) (m : Mark) → IsFirstMark marks s next m → (e : Manual)
      → Contains (of_session (done r c) s next) e → e.minute / 1440 ≡ m.minute / 1440
      → (x : List ℕ) → card.left_since m.clock x → HasDayOf m.minute app x → Contains (by_hand_in app x) e

  -- THE CLAUSE: of a card that was valid
  pub record HandsSafe (marks : List Mark) (since : ℕ) (card : State) : Type 0 where
    pub tells : IsOwnValid (card_image r c) → (x : List ℕ) → card.left_since since x → TellsHands x
    pub keeps : IsOwnValid (card_image r c) → KeepsHands marks card
    pub behind : IsOwnValid (card_image r c) → (x : List ℕ) → card.left_since since x → (own_view x).session ≡ 0
        → IsPartOf (all_at x) (hands_at (card_image r c) ++ hands_done r c)
    pub stay : IsOwnValid (card_image r c) → (x : List ℕ) → card.left_since since x → StaysTold (card_image r c) app x

  -- ---- which are stopped

  -- the newest minute of an acceptance is no later than that of the card by the history
  abbrev pub IsNoLater : (second newest : ℕ) → Type 0
  IsNoLater second newest = newest ≤ newest_minute (start_of r) (history_of r) c second

  -- EACH ENTRY BY HAND THAT WAS ASKED is stopped where its session stops it, for that reason, and else is not
  abbrev pub StopsHands : (marks : List Mark) → Type 0
  StopsHands marks = (a : Asked) → Contains (asked r c) a
      → IsStoppedBy IsNoLater (sessions r c) (done r c) (marks_of (device_of c) marks) r.stops a
