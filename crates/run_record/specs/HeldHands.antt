-- What the sessions of a run hold of entries by hand, by what its trace has asked so far and what they have stopped
-- (profile).
use Rattle.std.specs.Prelude.{◌≡◌, ℕ, ◌/◌, ◌<◌, ◌≤◌, true, false, Option, Some, None, List, [], ◌∷◌, ◌++◌, All}
use Rattle.std.specs.Prelude.{Contains, map, length}
use Rattle.minute_rules.specs.activity_codec.declared.entries.Manual.{Manual}
use Rattle.run_devices.specs.trace_model.declared.Card.{Card}
use Rattle.minute_rules.specs.minute_model.Activity.{last}
use Rattle.run_devices.specs.log_model.declared.lines.Mark.{Mark}
use Rattle.run_devices.specs.log_model.ByHand.{Asked}
use Rattle.run_devices.specs.history_model.Minutes.{HistoryMinute}
use Rattle.run_devices.specs.history_model.Presence.{Start, newest_minute}
use Rattle.run_devices.specs.hand_model.Holding.{of_day}
use Rattle.run_devices.specs.hand_model.Written.{Hands, IsPartOf}
use Rattle.run_devices.specs.safety_model.Hands.{Session, IsFirstOf, hand_of, is_behind, of_session}
use Rattle.run_devices.specs.run_promise.Cards.{FirstKeep}
use Rattle.run_devices.specs.run_crew.declared.cards.Accepted.{Accepted}

-- the last of some sessions
pub record IsLast (sessions : List Session) (s : Session) : Type 0 where
  pub earlier : List Session
  pub are : sessions ≡ earlier ++ s ∷ []

-- A SESSION THAT HAS KEPT NO MINUTE holds all that was done in it, at most eight, behind all else that was done for the
-- card; what keeps were given is some of that else; and no mark is of its minute or of a later one, nor of a later one
-- than the card's newest
pub record HoldsAll (done : List Asked) (marks : List Mark) (given : List Manual) (s : Session) (newest : ℕ)
    (held : List Manual) : Type 0 where
  pub front : List Asked
  pub back : List Asked
  pub are : done ≡ front ++ back
  pub before : All (λ (b : Asked). is_behind s b ≡ false) front
  pub behind : All (λ (b : Asked). is_behind s b ≡ true) back
  pub holds : held ≡ map hand_of back
  pub part : IsPartOf given (map hand_of front)
  pub few : length held ≤ 8
  pub low : All (λ (m : Mark). m.minute < s.second / 60) marks
  pub above : All (λ (m : Mark). m.minute ≤ newest) marks

-- the sessions of a card so far, what was done for it, and its marks
module _ (sessions : List Session) (done : List Asked) (marks : List Mark) where
  -- A SESSION that was begun so, no earlier than the others: it holds all, until it keeps its first minute, which is
  -- that of its first mark; from then on it holds none
  pub record HoldsIn (given : List Manual) (s : Session) (a : Accepted) : Type 0 where
    pub inserted : a.held.inserted ≡ s.second / 60
    pub newest : (l : Session) → Contains sessions l → l.second ≤ s.second
    pub free : a.held.begun ≡ None → HoldsAll done marks given s a.session.minute a.held.entries
    pub begun : (first : ℕ) → a.held.begun ≡ Some first
        → (m : Mark) × IsFirstOf sessions marks s None m × (m.minute ≡ first) × (a.held.entries ≡ [])

  -- what is held now: the card's session, if it has one, is the last of them
  abbrev pub HoldsLast : (given : List Manual) → Option Accepted → Type 0
  HoldsLast given None = Unit {0}
  HoldsLast given (Some a) = (s : Session) × IsLast sessions s × HoldsIn given s a

  -- a mark is that of a first keep, which wrote what was done in a session and is of its day
  abbrev pub WasWritten : List FirstKeep → Session → Option Session → Mark → Type 0
  WasWritten firsts s next m = (k : FirstKeep) × Contains firsts k × (k.mark ≡ m)
      × (k.hands ≡ of_day (m.minute / 1440) (of_session done s next))

  -- SO IT IS of a card: its session; what keeps were given; and the first mark of each session
  pub record HandsGo (h : Hands) (firsts : List FirstKeep) (session : Option Accepted) : Type 0 where
    pub holds : HoldsLast h.given session
    pub part : IsPartOf h.given (map hand_of done)
    pub wrote : (s : Session) (next : Option Session) (m : Mark) → IsFirstOf sessions marks s next m
        → WasWritten firsts s next m

-- a minute is no later than the newest one of a card that is accepted in a second, behind some of these minutes, from
-- their front
pub record IsKnown (start : Start) (past : List HistoryMinute) (c : Card) (second minute : ℕ) : Type 0 where
  pub front : List HistoryMinute
  pub rest : List HistoryMinute
  pub are : past ≡ front ++ rest
  pub most : minute ≤ newest_minute start front c second

-- WITH WHICH NEWEST MINUTE A SESSION OF A CARD WAS ACCEPTED: it was known, where these minutes are kept; none of the
-- card's marks of earlier minutes than its own is later; and until it keeps its first minute it is the session's
pub record WasKnown (start : Start) (past : List HistoryMinute) (c : Card) (marks : List Mark) (s : Session)
    (a : Accepted) : Type 0 where
  pub newest : ℕ
  pub most : IsKnown start past c s.second newest
  pub above : (m : Mark) → Contains marks m → m.minute < s.second / 60 → m.minute ≤ newest
  pub same : a.held.begun ≡ None → a.session.minute ≡ newest

-- so it is of the last session, if the card has one
abbrev pub WasKnownLast : (start : Start) → (past : List HistoryMinute) → Card → List Mark → List Session
    → Option Accepted → Type 0
WasKnownLast start past c marks sessions None = Unit {0}
WasKnownLast start past c marks sessions (Some a) = (s : Session) → last sessions ≡ Some s
    → WasKnown start past c marks s a
