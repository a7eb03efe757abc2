-- The entries by hand of a run for a card, and the card's sessions: which were asked of them, which were done, and in
-- which of them (profile).
use Rattle.std.specs.Prelude.{◌≡◌, ℕ, ◌/◌, ◌<◌, ◌≤◌, Bool, true, not, ◌&&◌, ◌||◌, Option, Some, None, IfSome, List, ◌∷◌}
use Rattle.std.specs.Prelude.{◌++◌, Contains, length, map, filter, flat_map, nat_eq, nat_le, nat_lt, slice_get, ◌+◌}
use Rattle.device_rule.specs.activity_codec.declared.entries.Manual.{Manual}
use Rattle.device_rule.specs.activity_codec.Activity.{activity_of}
use Rattle.device_rule.specs.trace_model.declared.Card.{Card}
use Rattle.device_rule.specs.log_model.declared.lines.Mark.{Mark}
use Rattle.device_rule.specs.log_model.declared.lines.Verdict.{Verdict}
use Rattle.device_rule.specs.log_model.declared.lines.Verdict.TheVariants.{Accepted, NotValid, TimeOverlap}
use Rattle.device_rule.specs.log_model.Log.{Phase, In, Keeping, is_accepting}
use Rattle.device_rule.specs.log_model.Course.{ToldSecond, Visit}
use Rattle.device_rule.specs.log_model.Slots.{same_card}
use Rattle.device_rule.specs.log_model.ByHand.{Asked, asked_of, done_by_hand}
use Rattle.safety_model.specs.Recording.{Recording, told_of}

-- the entry by hand that was asked
abbrev pub hand_of : Asked → Manual
hand_of a = record { minute = a.minute; slot = a.slot; act = activity_of a.pick }

-- ---- sessions

-- A SESSION of a card: the second of its acceptance, how many actions of that had begun, and how many entries that were
-- owed to the card were brought with it
pub record Session : Type 0 where
  pub second : ℕ
  pub begun : ℕ
  pub brought : ℕ

-- how many entries an acceptance brings, 0 where the card is not accepted
abbrev pub brought_by : Verdict → ℕ
brought_by (Accepted replayed) = replayed
brought_by (NotValid fid place) = 0
brought_by (TimeOverlap stored now) = 0

-- how many actions had begun at a moment at which cards are judged
abbrev pub begun_at : Phase → ℕ
begun_at (In n) = n
begun_at Keeping = 0

-- the sessions of a card that the finds of a second begin
abbrev pub sessions_found : Card → (second : ℕ) → List (Visit × Verdict) → List Session
sessions_found c u found = map
    (λ f. record { second = u; begun = begun_at f.0.phase; brought = brought_by f.1 })
    (filter (λ f. same_card c f.0.card && is_accepting f.1) found)

-- the sessions of a card that begin in a second
abbrev pub sessions_of : Card → ToldSecond → List Session
sessions_of c t = sessions_found c t.second.number t.course.found

-- the sessions of a card that begin in these seconds, in order
abbrev pub sessions_in : Card → List ToldSecond → List Session
sessions_in c told = flat_map (sessions_of c) told

-- an entry by hand is asked behind the acceptance that begins a session
abbrev pub is_behind : Session → Asked → Bool
is_behind s a = nat_lt s.second a.second || (nat_eq s.second a.second && nat_lt s.begun a.begun)

-- it is asked before the acceptance that begins the next one, if there is one
abbrev pub is_before : Option Session → Asked → Bool
is_before None a = true
is_before (Some s) a = not (is_behind s a)

-- it is asked in a session: behind its acceptance, and before the next
abbrev pub is_within : Session → Option Session → Asked → Bool
is_within s next a = is_behind s a && is_before next a

-- one entry by hand is asked before another
abbrev pub is_asked_before : Asked → Asked → Bool
is_asked_before b a = nat_lt b.second a.second || (nat_eq b.second a.second && nat_lt b.begun a.begun)

-- the entries by hand that were done in a session
abbrev pub of_session : (done : List Asked) → Session → Option Session → List Manual
of_session done s next = map hand_of (filter (is_within s next) done)

-- a minute is no earlier than that of one acceptance, and earlier than that of the next
abbrev pub is_between : Session → Session → (minute : ℕ) → Bool
is_between s next minute = nat_le (s.second / 60) minute && nat_lt minute (next.second / 60)

-- these sessions and these marks of a card
module _ (all : List Session) (marks : List Mark) where
  -- one of the sessions, and the next one
  pub record IsSessionOf (s : Session) (next : Option Session) : Type 0 where
    pub earlier : List Session
    pub later : List Session
    pub are : all ≡ earlier ++ s ∷ later
    pub next_is : next ≡ slice_get later 0

  -- THE FIRST MARK of a session, which a keep of its own gave: it is for a minute from its own on, none before it is;
  -- and where the card was accepted again, there are more for minutes before that than those of what was brought then
  pub record IsFirstOf (s : Session) (next : Option Session) (m : Mark) : Type 0 where
    pub session : IsSessionOf s next
    pub mark : Contains marks m
    pub here : s.second / 60 ≤ m.minute
    pub first : (n : Mark) → Contains marks n → s.second / 60 ≤ n.minute → m.minute ≤ n.minute
    pub own : IfSome next
        (λ n. n.brought < length (filter (λ (k : Mark). is_between s n k.minute) marks))

  -- the first mark of a session as one is asked; or none, and then the first mark that it comes to have is of a minute
  -- at most four before that in which it was asked
  abbrev pub IsFirstBefore : (s : Session) → (next : Option Session) → Asked → Option Mark → Type 0
  IsFirstBefore s next a None = (m : Mark) → IsFirstOf s next m → a.second / 60 ≤ m.minute + 4
  IsFirstBefore s next a (Some m) = IsFirstOf s next m

-- the entries by hand that a session holds as one is asked: those that were done in it before
abbrev pub held_before : (done : List Asked) → Session → Asked → List Manual
held_before done s a = map hand_of (filter (λ b. is_behind s b && is_asked_before b a) done)

-- ---- of a run

module _ (r : Recording) (c : Card) where
  -- the sessions of the card in the run, in order
  abbrev pub sessions : List Session
  sessions = sessions_in c (told_of r)

  -- the entries by hand that slots, speed and power let pass for this card
  abbrev pub asked : List Asked
  asked = filter (λ a. same_card c a.sitting.card) (asked_of r.log r.trace)

  -- and of these what no session stopped: THE ENTRIES BY HAND THAT WERE DONE
  abbrev pub done : List Asked
  done = done_by_hand r.stops asked

  -- the same as entries by hand of a card: minute, slot and activity
  abbrev pub hands_done : List Manual
  hands_done = map hand_of done
