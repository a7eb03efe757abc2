-- THE EVENTS OF A RUN ON A CARD, by type, from its seconds and its log, and how far each image of the card shows them
-- (Annex IB, section III.12; Appendix 1, CardEventData; the moments: profile).
use Rattle.std.specs.Prelude.{◌≡◌, ℕ, ◌+◌, ◌≤◌, ◌==◌, ◌&&◌, ◌||◌, Bool, true, false, not, Option, Some, None, List, []}
use Rattle.std.specs.Prelude.{◌∷◌, ◌++◌, length, map, filter, flat_map, nat_lt, if◌then◌else◌}
use Rattle.std.specs.List.{AllByRecursion, list_any, list_all}
use Rattle.trace_model.specs.declared.Card.{Card}
use Rattle.trace_model.specs.Trace.{TraceSecond}
use Rattle.tach_media.specs.Medium.{State}
use Rattle.tacho_types.specs.declared.texts.Registration.{Registration}
use Rattle.card_files.specs.card_layout.declared.files.Application.{Application}
use Rattle.card_files.specs.declared.card_event.CardEvent.{CardEvent}
use Rattle.card_files.specs.declared.current_use.CurrentUse.{CurrentUse}
use Rattle.hand_model.specs.card_image.Fields.{current_use}
use Rattle.hand_model.specs.card_image.Own.{own_sizes}
use Rattle.device_calls.specs.card_session.Inserting.{unclosed}
use Rattle.log_model.specs.declared.lines.Verdict.{Verdict}
use Rattle.log_model.specs.Log.{RunLog, is_accepting}
use Rattle.log_model.specs.Slots.{same_card}
use Rattle.unit_notes.specs.event_model.declared.kinds.TheConstants.{INSERTION_WHILE_DRIVING, SESSION_NOT_CLOSED}
use Rattle.unit_notes.specs.event_model.declared.kinds.TheConstants.{POWER_INTERRUPTION}
use Rattle.unit_notes.specs.event_model.Events.{Event, Crew, Seen, Tearing, number_of, seen_of, seen_spans, gap_events}
use Rattle.unit_notes.specs.note_model.Done.{has_failed_in}
use Rattle.run_events.specs.Seconds.{gap_by, seen_next}
use Rattle.run_insertion.specs.CardEvents.{events_in, all_noted, MayBeNoted}

-- a card is one of a crew
abbrev pub is_card : Option Card → Card → Bool
is_card None c = false
is_card (Some card) c = same_card card c

-- it is the driver, or the co-driver
abbrev pub has_card : Crew → Card → Bool
has_card crew c = is_card crew.driver c || is_card crew.codriver c

-- ---- which events they are

-- a card that was accepted at a power-on counts as one of its crew; where it was torn out as the interruption was noted
-- nothing is sure of it
abbrev pub as_accepted : Tearing
as_accepted = record { by_gap = λ u slot. true; driver_first = λ u n. true }

-- At an acceptance in this second this use was found on the card: where its session was open that was not closed, from
-- its time, with its vehicle.
abbrev pub unclosed_at : CurrentUse → (second : ℕ) → List CardEvent
unclosed_at current u = if nat_lt 0 current.session.0 then unclosed current u ∷ [] else []

-- the same of several acceptances, with the uses that were found at each
abbrev pub unclosed_by : List CurrentUse → (seconds : List ℕ) → List CardEvent
unclosed_by [] us = []
unclosed_by (current ∷ uses) [] = []
unclosed_by (current ∷ uses) (u ∷ us) = unclosed_at current u ++ unclosed_by uses us

-- those of a type among these
abbrev pub events_by : (kind : ℕ) → (gaps moved unclosed : List CardEvent) → List CardEvent
events_by kind gaps moved unclosed =
    if kind == POWER_INTERRUPTION then gaps
    else (if kind == INSERTION_WHILE_DRIVING then moved else (if kind == SESSION_NOT_CLOSED then unclosed else []))

-- a card of which this is found in a second, in this order, is accepted so often
abbrev pub accepts : (second : ℕ) → List Verdict → List ℕ
accepts u verdicts = flat_map (λ v. if is_accepting v then u ∷ [] else []) verdicts

module _ (c : Card) where
  -- the seconds in which it was accepted, one for each acceptance
  abbrev pub accepted_in : Seen → List ℕ
  accepted_in x = flat_map (λ f. if same_card f.0.card c && is_accepting f.1 then number_of x ∷ [] else [])
      x.told.course.found

  abbrev pub accepted_on : List Seen → List ℕ
  accepted_on seen = flat_map accepted_in seen

module _ (c : Card) (own : Registration) where
  -- each acceptance in which the vehicle moves, which is this one
  abbrev pub moving_at : (second : ℕ) → CardEvent
  moving_at u = record {
    kind = INSERTION_WHILE_DRIVING;
    begin = record { 0 = u };
    end = record { 0 = u };
    registration = own;
  }

  abbrev pub movings : (speed : ℕ) → (seconds : List ℕ) → List CardEvent
  movings speed us = if nat_lt 0 speed then map moving_at us else []

  abbrev pub moved_in : Seen → List CardEvent
  moved_in x = movings x.told.second.speed (accepted_in c x)

  -- interruptions at which it was accepted
  abbrev pub gap_entry : Event → CardEvent
  gap_entry e = record {
    kind = POWER_INTERRUPTION;
    begin = record { 0 = e.begin };
    end = record { 0 = e.end };
    registration = own;
  }

  abbrev pub gaps_on : List Event → List CardEvent
  gaps_on events = map gap_entry (filter (λ e. has_card e.at_begin c) events)

  -- THE EVENTS OF A TYPE ON THE CARD in a run, in order of time, where these uses were found on it: none of other types
  abbrev pub events_on : List CurrentUse → (kind : ℕ) → RunLog → List TraceSecond → List CardEvent
  events_on uses kind log ss = events_by kind (gaps_on (gap_events as_accepted log ss))
      (flat_map moved_in (seen_of log ss)) (unclosed_by uses (accepted_on c (seen_of log ss)))

module _ (c : Card) where
  -- ---- which of them are sure

  -- it entered a slot in a second, or met power there
  abbrev pub enters : Seen → Bool
  enters x = list_any (λ v. same_card v.card c) x.told.course.entered

  -- a call on it failed in a second
  abbrev pub falls : Seen → Bool
  falls x = list_any (λ v. same_card v.card c) x.told.course.torn

  -- as it enters an event of this type may be noted
  abbrev pub may_note : (kind : ℕ) → Seen → Bool
  may_note kind x = (kind == SESSION_NOT_CLOSED)
      || ((kind == INSERTION_WHILE_DRIVING && nat_lt 0 x.told.second.speed)
      || (kind == POWER_INTERRUPTION && x.told.starts))

  -- no call on it or on the unit failed in a second
  abbrev pub is_clear : RunLog → Seen → Bool
  is_clear log x = not (has_failed_in log (number_of x)) && not (falls x)

  -- those of a type are sure of a second, and of several
  abbrev pub is_sure_in : (kind : ℕ) → RunLog → Seen → Bool
  is_sure_in kind log x = not (enters x && may_note kind x) || is_clear log x

  abbrev pub are_sure_on : (kind : ℕ) → RunLog → List Seen → Bool
  are_sure_on kind log seen = list_all (is_sure_in kind log) seen

-- ---- the uses that were found on it

-- one of its images told this use
abbrev pub IsUse : (images : List ℕ → Type 0) → CurrentUse → Type 0
IsUse images current = (y : List ℕ) × images y × (current_use (own_sizes y) y ≡ current)

-- ONE FOR EACH of these acceptances
abbrev pub AreUses : (images : List ℕ → Type 0) → List CurrentUse → (seconds : List ℕ) → Type 0
AreUses images [] [] = Unit {0}
AreUses images [] (u ∷ us) = ⊥
AreUses images (current ∷ uses) [] = ⊥
AreUses images (current ∷ uses) (u ∷ us) = IsUse images current × AreUses images uses us

-- the uses that are left behind those of these acceptances
abbrev pub uses_past : (seconds : List ℕ) → List CurrentUse → List CurrentUse
uses_past [] uses = uses
uses_past (u ∷ us) [] = []
uses_past (u ∷ us) (current ∷ uses) = uses_past us uses

-- ---- second by second

-- a second as a card meets it, with the interruption of power that ends with it
pub record MetSecond : Type 0 where
  pub seen : Seen
  pub gap : List Event

-- these seconds, behind others
abbrev pub met_behind : RunLog → (behind seen : List Seen) → List MetSecond
met_behind log behind [] = []
met_behind log behind (x ∷ xs) = record { seen = x; gap = gap_by as_accepted log (seen_spans behind) x }
    ∷ met_behind log (behind ++ x ∷ []) xs

-- those of a run, from its first second on
abbrev pub met_seconds : RunLog → List TraceSecond → List MetSecond
met_seconds log ss = met_behind log [] (seen_of log ss)

-- one second more
abbrev pub met_next : RunLog → List TraceSecond → TraceSecond → MetSecond
met_next log done s = record {
  seen = seen_next log done s;
  gap = gap_by as_accepted log (seen_spans (seen_of log done)) (seen_next log done s);
}

-- what comes to a card in a second: interruptions, acceptances in which the vehicle moves, sessions that were found not
-- closed; and how often a use was to be found on it
pub record Bringing : Type 0 where
  pub second : ℕ
  pub attempts : ℕ
  pub gaps : List CardEvent
  pub moved : List CardEvent
  pub unclosed : List CardEvent

-- the sessions that were not closed, by these uses, each found in one second
abbrev pub unclosed_all : (second : ℕ) → List CurrentUse → List CardEvent
unclosed_all u uses = flat_map (λ current. unclosed_at current u) uses

module _ (c : Card) where
  -- the seconds in which it was accepted, of these
  abbrev pub met_accepted : List MetSecond → List ℕ
  met_accepted ms = flat_map (λ m. accepted_in c m.seen) ms

  -- how often a failed call tore it out in a second; and how often it was accepted in it or torn out
  abbrev pub torn_times : Seen → ℕ
  torn_times x = length (filter (λ v. same_card v.card c) x.told.course.torn)

  abbrev pub attempts_in : Seen → ℕ
  attempts_in x = length (accepted_in c x) + torn_times x

module _ (c : Card) (own : Registration) where
  -- what its judging brings it in a second at this speed: it was accepted then, by these uses, and torn out so often
  abbrev pub judging : (second speed torn : ℕ) → (accepted : List ℕ) → List CurrentUse → Bringing
  judging u speed torn us uses = record {
    second = u;
    attempts = length us + torn;
    gaps = [];
    moved = movings c own speed us;
    unclosed = unclosed_by uses us;
  }

  -- what a second brings it, where these sessions were found not closed
  abbrev pub bringing : MetSecond → (unclosed : List CardEvent) → Bringing
  bringing m unclosed = record {
    second = number_of m.seen;
    attempts = attempts_in c m.seen;
    gaps = gaps_on c own m.gap;
    moved = moved_in c own m.seen;
    unclosed = unclosed;
  }

-- THIS COMES TO THE PLACES OF A TYPE: where it is sure each event is noted, one after another. Where it is not sure
-- each is noted, or nothing comes of it, or the one place that it takes is empty; and the sessions are those of no more
-- uses than were to be found, each of which an image of the card told.
abbrev pub IsBrought : (images : List ℕ → Type 0) → (kind : ℕ) → (sure : Bool) → Bringing → (old new : List (List ℕ))
    → Type 0
IsBrought images kind true b old new = new ≡ all_noted old (events_by kind b.gaps b.moved b.unclosed)
IsBrought images kind false b old new = (found : List CurrentUse) × (length found ≤ b.attempts)
    × AllByRecursion (IsUse images) found
    × MayBeNoted old (events_by kind b.gaps b.moved (unclosed_all b.second found)) new

module _ (c : Card) (own : Registration) (images : List ℕ → Type 0) (kind : ℕ) where
  -- THE PLACES OF A TYPE BEHIND THESE SECONDS: each brings its own, one second after another, and is sure by the log or
  -- is not
  abbrev pub AreBrought : RunLog → List MetSecond → List CurrentUse → (old new : List (List ℕ)) → Type 0
  AreBrought log [] uses old new = new ≡ old
  AreBrought log (m ∷ ms) uses old new = (next : List (List ℕ))
      × IsBrought images kind (is_sure_in c kind log m.seen)
      (bringing c own m (unclosed_by uses (accepted_in c m.seen))) old next
      × AreBrought log ms (uses_past (accepted_in c m.seen) uses) next new

-- ---- how far it shows them

-- WHAT A CARD SHOWS behind these seconds: each image that it may leave has, of every type, what they brought to the
-- places of the image at the start
abbrev pub ShowsOn : Card → Registration → (images : List ℕ → Type 0) → List CurrentUse → (start : List ℕ) → RunLog
    → List MetSecond → State → Type 0
ShowsOn c own images uses start log ms card = (x : List ℕ) → card.may_leave x → (kind : ℕ) →
    AreBrought c own images kind log ms uses (events_in (own_sizes start) kind start)
    (events_in (own_sizes start) kind x)

-- THIS COMES TO A CARD by calls: so it is of each image that it may leave, and one that it might have left before
abbrev pub ComesTo : (images : List ℕ → Type 0) → Application → (sure : ℕ → Bool) → Bringing → (old new : State)
    → Type 0
ComesTo images app sure b old new = (y : List ℕ) → new.may_leave y
    → (x : List ℕ) × old.may_leave x
    × ((kind : ℕ) → IsBrought images kind (sure kind) b (events_in app kind x) (events_in app kind y))

-- Calls leave the events of a card, of every type.
abbrev pub StillShows : Application → (old new : State) → Type 0
StillShows app old new = (y : List ℕ) → new.may_leave y
    → (x : List ℕ) × old.may_leave x × ((kind : ℕ) → events_in app kind y ≡ events_in app kind x)
