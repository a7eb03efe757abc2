-- The entries by hand of a run, between two of its seconds and within one: what was asked and done so far, and what the
-- sessions hold of it (profile).
use Rattle.std.specs.Prelude.{◌≡◌, ◌⊎◌, ℕ, Option, None, List, ◌++◌, filter, take, true, All, map}
use Rattle.run_devices.specs.trace_model.declared.Action.{Action}
use Rattle.run_devices.specs.trace_model.declared.Card.{Card}
use Rattle.run_devices.specs.trace_model.Trace.{TraceSecond}
use Rattle.run_devices.specs.log_model.declared.lines.Mark.{Mark}
use Rattle.run_devices.specs.log_model.declared.lines.Refused.{Refused}
use Rattle.run_devices.specs.log_model.Log.{RunLog, Phase, In, Keeping}
use Rattle.run_devices.specs.log_model.Causes.{device_of}
use Rattle.run_devices.specs.log_model.Slots.{same_card}
use Rattle.run_devices.specs.log_model.Course.{Before, ToldSecond, Course, went}
use Rattle.run_devices.specs.log_model.ByHand.{Asked, asked_by, asked_of, done_by_hand, is_stop, is_stopped}
use Rattle.run_devices.specs.history_model.Minutes.{HistoryMinute}
use Rattle.run_devices.specs.history_model.Presence.{Start}
use Rattle.run_devices.specs.note_model.Done.{course_powered}
use Rattle.run_devices.specs.card_image.Own.{IsOwnValid}
use Rattle.run_devices.specs.hand_model.Written.{Hands}
use Rattle.run_devices.specs.safety_model.Unit.{marks_of}
use Rattle.run_devices.specs.safety_model.Hands.{Session, sessions_in, sessions_found}
use Rattle.run_devices.specs.run_promise.Found.{Found, found_of}
use Rattle.run_devices.specs.run_promise.Cards.{FirstKeep}
use Rattle.run_devices.specs.run_crew.declared.cards.Accepted.{Accepted}
use Rattle.run_record.specs.HeldHands.{HandsGo, IsKnown, WasKnownLast}
use Rattle.run_devices.specs.safety_model.Stops.{told_at, asked_at}
use Rattle.run_devices.specs.safety_model.ByHand.{IsStoppedBy}

-- the actions of a second up to a moment of it
abbrev pub actions_to : Phase → List Action → List Action
actions_to (In n) actions = take n actions
actions_to Keeping actions = actions

-- WHAT IS ASKED in a second with power up to some of its actions
abbrev pub asked_to : RunLog → Before → TraceSecond → (front : List Action) → List Asked
asked_to log before s front = asked_by log s 0 front (course_powered log before s)

-- what is asked in the seconds before one, where the log was `began` as it began, and in it behind some of its actions
abbrev pub asked_so_far : (began : RunLog) → List TraceSecond → (log : RunLog) → TraceSecond → (front : List Action)
    → List Asked
asked_so_far began done log s front = asked_of began done ++ asked_to log (went began done).before s front

-- the entries by hand that are asked of a card, of all that are asked
abbrev pub asked_for : Card → List Asked → List Asked
asked_for c asked = filter (λ (a : Asked). same_card c a.sitting.card) asked

-- those of them that were done, where sessions refused the others
abbrev pub done_for : Card → (stops : List Refused) → List Asked → List Asked
done_for c stops asked = done_by_hand stops (asked_for c asked)

-- the sessions of a card behind some seconds, and in one more with this course
abbrev pub sessions_so_far : Card → List ToldSecond → (second : ℕ) → Course → List Session
sessions_so_far c told u course = sessions_in c told ++ sessions_found c u course.found

-- THE LINES OF SESSIONS tell of what was asked and is stopped: each of them, in its order
pub record AreToldOf (stops : List Refused) (asked : List Asked) : Type 0 where
  pub all : All (λ (l : Refused). is_stop l.fault ≡ true) stops
  pub each : map told_at stops ≡ map asked_at (filter (is_stopped stops) asked)

-- THE ENTRIES BY HAND of a run, where this was asked so far and these minutes are kept: so it is of each card that was
-- valid, and of each that was asked of it; with which newest minute its session was accepted; and lines tell what was
-- stopped
pub record AreHanded (start : Start) (past : List HistoryMinute) (f : Found) (sessions : Card → List Session)
    (asked : List Asked) (stops : List Refused) (marks : List Mark) (hands : Card → Hands)
    (firsts : Card → List FirstKeep) (session : Card → Option Accepted) : Type 0 where
  pub each : (c : Card) → IsOwnValid (found_of f c).image
      → HandsGo (sessions c) (done_for c stops asked) (marks_of (device_of c) marks) (hands c) (firsts c) (session c)
  pub known : (c : Card) → IsOwnValid (found_of f c).image
      → WasKnownLast start past c (marks_of (device_of c) marks) (sessions c) (session c)
  pub stopped : (c : Card) → IsOwnValid (found_of f c).image
      → All (IsStoppedBy (IsKnown start past c) (sessions c) (done_for c stops asked) (marks_of (device_of c) marks)
      stops) (asked_for c asked)
  pub told : AreToldOf stops asked

-- each session is as it was, or is over
abbrev pub StayOrEnd : (session after : Card → Option Accepted) → Type 0
StayOrEnd session after = (c : Card) → (after c ≡ session c) ⊎ (after c ≡ None)

-- so it is BETWEEN TWO SECONDS, by all that was asked and each session that has begun
abbrev pub AreHandedBehind : Start → (past : List HistoryMinute) → Found → RunLog → List TraceSecond
    → (stops : List Refused) → List Mark → (hands : Card → Hands) → (firsts : Card → List FirstKeep)
    → (session : Card → Option Accepted) → Type 0
AreHandedBehind start past f log done stops marks hands firsts session = AreHanded start past f
    (λ c. sessions_in c (went log done).told) (asked_of log done) stops marks hands firsts session

-- and WITHIN A SECOND that began with this log, at a moment of it, with this course so far
abbrev pub AreHandedIn : Start → (past : List HistoryMinute) → Found → (began : RunLog) → List TraceSecond
    → TraceSecond → Phase → RunLog → Course → (stops : List Refused) → List Mark → (hands : Card → Hands)
    → (firsts : Card → List FirstKeep) → (session : Card → Option Accepted) → Type 0
AreHandedIn start past f began done s at log course stops marks hands firsts session = AreHanded start past f
    (λ c. sessions_so_far c (went began done).told s.number course)
    (asked_so_far began done log s (actions_to at s.actions)) stops marks hands firsts session
