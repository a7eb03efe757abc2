-- The events and faults of a run, by type, from its seconds and its run log (Annex IB, section III.12; the moments:
-- profile).
use Rattle.std.specs.Prelude.{◌≡◌, ℕ, zero, suc, ◌==◌, Bool, true, false, not, ◌&&◌, Option, Some, None, List, [], ◌∷◌}
use Rattle.std.specs.Prelude.{◌++◌, take, map, filter, length, nat_lt, slice_get, if◌then◌else◌, is_some, option_map}
use Rattle.std.specs.Prelude.{option_to_list, fold, flat_map}
use Rattle.std.specs.List.{AllByRecursion, filter_map, list_any}
use Rattle.activity_codec.specs.declared.values.Slot.{Slot}
use Rattle.activity_codec.specs.declared.values.Slot.TheVariants.{Driver, CoDriver}
use Rattle.activity_codec.specs.Activity.{same_slot}
use Rattle.trace_model.specs.declared.Card.{Card}
use Rattle.trace_model.specs.declared.Action.{Action}
use Rattle.trace_model.specs.Trace.{TraceSecond}
use Rattle.log_model.specs.declared.lines.Verdict.{Verdict}
use Rattle.log_model.specs.declared.lines.Verdict.TheVariants.{Accepted, NotValid, TimeOverlap}
use Rattle.log_model.specs.Log.{RunLog, Phase, In, Keeping, same_phase, kept_after, is_torn_in, is_accepting}
use Rattle.log_model.specs.Slots.{Slots, Sitting, in_slot, other_slot, is_accepted, refusal}
use Rattle.log_model.specs.Course.{Course, Visit, ToldSecond, Before, both_told, unmoved, fresh, all_acted, answered}
use Rattle.log_model.specs.Course.{second_told, before_next, not_begun}
use Rattle.event_model.specs.declared.kinds.TheConstants.{CARD_NOT_VALID, TIME_OVERLAP, DRIVING_WITHOUT_CARD}
use Rattle.event_model.specs.declared.kinds.TheConstants.{INSERTION_WHILE_DRIVING, SESSION_NOT_CLOSED, OVER_SPEEDING}
use Rattle.event_model.specs.declared.kinds.TheConstants.{POWER_INTERRUPTION, CARD_FAULT}
use Rattle.event_model.specs.declared.entries.Over.{Over}
use Rattle.event_model.specs.declared.entries.Span.{Span}
use Rattle.event_model.specs.Runs.{ended_runs}
use Rattle.event_model.specs.Spans.{SpeedSecond, over_of, is_above, gap_of}

-- the accepted cards in the slots
pub record Crew : Type 0 where
  pub driver : Option Card
  pub codriver : Option Card

-- an event or a fault: its type, its first and last second, the highest and the average speed of an over speeding (else
-- 0), and the cards at its begin and at its end
pub record Event : Type 0 where
  pub kind : ℕ
  pub begin : ℕ
  pub end : ℕ
  pub most : ℕ
  pub average : ℕ
  pub at_begin : Crew
  pub at_end : Crew

-- the card of a slot, where it is accepted
abbrev pub accepted_card : Option Sitting → Option Card
accepted_card None = None
accepted_card (Some sitting) = option_map {T = ℕ} {U = Card} (λ u. sitting.card) sitting.accepted

-- the accepted cards of both slots
abbrev pub crew_of : Slots → Crew
crew_of slots = record { driver = accepted_card slots.driver; codriver = accepted_card slots.codriver }

-- with this card in a slot
abbrev pub with_card : Slot → Option Card → Crew → Crew
with_card Driver card crew = record crew { driver = card }
with_card CoDriver card crew = record crew { codriver = card }

-- a second with power, once its power-on, if it is one, and its first n actions were carried out
abbrev pub course_by : RunLog → Before → TraceSecond → ℕ → Course
course_by log before s n =
    all_acted log s 0 (take n s.actions)
    (both_told log s.number (In 0) (unmoved (not before.running)) (fresh (not before.running) before.slots))

-- the slots as an action with n before it has moved the cards, before any device is called
abbrev pub moved_by_action : RunLog → Before → TraceSecond → ℕ → Option Action → Slots
moved_by_action log before s n None = (course_by log before s n).slots
moved_by_action log before s n (Some a) = (answered n (refusal (course_by log before s n).slots s.speed a) a
    (course_by log before s n)).slots

-- a second as its events see it: as it went, its speed, the slots after its first n actions, those as action n has
-- moved the cards (before action 1: as the second began), and those in the second itself, behind all actions and before
-- the keeping
pub record Seen : Type 0 where
  pub told : ToldSecond
  pub after : ℕ → Slots
  pub within : ℕ → Slots
  pub itself : Slots

-- the slots within an action of a second, by the number of those that have begun
abbrev pub within_by : RunLog → Before → TraceSecond → ℕ → Slots
within_by log before s zero = (fresh (not before.running) before.slots).slots
within_by log before s (suc n) = moved_by_action log before s n (slice_get s.actions n)

-- a second as its events see it, by what came before
abbrev pub seen_by : RunLog → Before → TraceSecond → Seen
seen_by log before s = record {
  told = second_told log before s;
  after = λ n. (course_by log before s n).slots;
  within = within_by log before s;
  itself = (course_by log before s (length s.actions)).slots;
}

-- the seconds so far, and what the next has to know
pub record Watched : Type 0 where
  pub seen : List Seen
  pub before : Before

-- with one second more
abbrev pub watched_on : RunLog → Watched → TraceSecond → Watched
watched_on log w s = record {
  seen = w.seen ++ seen_by log w.before s
      ∷ [];
  before = before_next w.before (second_told log w.before s);
}

-- the seconds of a trace as their events see them
unfoldable pub seen_of : RunLog → List TraceSecond → List Seen
seen_of log ss = (fold (watched_on log) (record { seen = []; before = not_begun.before }) ss).seen

-- the last span goes on
abbrev pub seen_on : List (List Seen) → Seen → List (List Seen)
seen_on [] x = (x ∷ []) ∷ []
seen_on (span ∷ []) x = (span ++ x ∷ []) ∷ []
seen_on (span ∷ next ∷ spans) x = span ∷ seen_on (next ∷ spans) x

-- a second with power goes on the last span, or begins one; one without power is in none
abbrev pub seen_with : List (List Seen) → Seen → List (List Seen)
seen_with spans x = if x.told.lit then (if x.told.starts then spans ++ (x ∷ []) ∷ [] else seen_on spans x) else spans

-- the power spans of these seconds
abbrev pub seen_spans : List Seen → List (List Seen)
seen_spans xs = fold seen_with [] xs

-- the number of a second
abbrev pub number_of : Seen → ℕ
number_of x = x.told.second.number

-- the last of a run that has this first
abbrev pub last_seen : Seen → List Seen → Seen
last_seen first xs = fold (λ last x. x) first xs

-- an event of a run of seconds: the cards are those of the second itself, at its first and at its last
abbrev pub run_event : (kind most average : ℕ) → Seen → List Seen → Event
run_event kind most average first run = record {
  kind = kind;
  begin = number_of first;
  end = number_of (last_seen first run);
  most = most;
  average = average;
  at_begin = crew_of first.itself;
  at_end = crew_of (last_seen first run).itself;
}

-- a moving second without an accepted card in the driver slot
abbrev pub is_bare : Seen → Bool
is_bare x = nat_lt 0 x.told.second.speed && not (is_accepted x.itself.driver)

-- a run of such seconds as an event
abbrev pub bare_event : List Seen → Option Event
bare_event [] = None
bare_event (x ∷ run) = Some (run_event DRIVING_WITHOUT_CARD 0 0 x run)

-- driving without an appropriate card: the runs of such seconds in a span that have ended in it
abbrev pub bare_events : RunLog → List TraceSecond → List Event
bare_events log ss = flat_map (λ span. filter_map bare_event (ended_runs is_bare span)) (seen_spans (seen_of log ss))

-- a second with its speed
abbrev pub speed_second : Seen → SpeedSecond
speed_second x = record { number = number_of x; speed = x.told.second.speed }

-- a run of seconds above the limit as an event, where it is longer than a minute
abbrev pub over_event : List Seen → Option Event
over_event [] = None
over_event (x ∷ run) =
    option_map {T = Over} {U = Event} (λ over. run_event OVER_SPEEDING over.most over.average x run)
    (over_of (map speed_second (x ∷ run)))

-- over speeding: the runs of more than 60 seconds above the limit in a span that have ended in it
abbrev pub over_events : (limit : ℕ) → RunLog → List TraceSecond → List Event
over_events limit log ss =
    flat_map (λ span. filter_map over_event (ended_runs (λ x. is_above limit (speed_second x)) span))
    (seen_spans (seen_of log ss))

-- an event that is noted with these cards at both ends
abbrev pub noted_with : (kind begin end : ℕ) → Crew → Event
noted_with kind begin end crew = record {
  kind = kind;
  begin = begin;
  end = end;
  most = 0;
  average = 0;
  at_begin = crew;
  at_end = crew;
}

-- the last second of a span, 0 without one
abbrev pub last_number : List Seen → ℕ
last_number span = fold (λ last x. number_of x) 0 span

-- What no log tells of tears: whether a card that was accepted at a power-on was torn out as the interruption was noted
-- on it, by second and slot; and whether of two cards that were torn out in one action the driver's was the first, by
-- second and actions begun.
pub record Tearing : Type 0 where
  pub by_gap : ℕ → Slot → Bool
  pub driver_first : ℕ → ℕ → Bool

-- the card of a slot was torn out at a moment
abbrev pub torn_at : Seen → Phase → Slot → Bool
torn_at x p slot = list_any (λ v. same_phase v.phase p && same_slot v.slot slot) x.told.course.torn

-- the first of these cards
abbrev pub first_card : List (Visit × Verdict) → Option Card
first_card [] = None
first_card (f ∷ found) = Some f.0.card

-- the card of a slot that was accepted at a moment
abbrev pub accepted_at : Seen → Phase → Slot → Option Card
accepted_at x p slot = first_card (filter (λ f. same_phase f.0.phase p && (same_slot f.0.slot slot && is_accepting f.1))
    x.told.course.found)

-- the accepted card of a slot at a power-on, once both were judged and before the interruption is noted
abbrev pub standing : Tearing → Seen → Slot → Option Card
standing t x slot = if torn_at x (In 0) slot && not (t.by_gap (number_of x) slot) then None
    else accepted_at x (In 0) slot

-- the interruption before a span that begins with this second: its cards are those accepted by then
abbrev pub gap_event : Tearing → RunLog → List Seen → List Seen → List Event
gap_event t log span [] = []
gap_event t log span (x ∷ next) =
    option_to_list
    (option_map {T = Span} {U = Event} (λ gap. noted_with POWER_INTERRUPTION gap.begin gap.end
    (record { driver = standing t x Driver; codriver = standing t x CoDriver }))
    (gap_of (kept_after log (last_number span)) (number_of x)))

-- the interruptions between these spans
abbrev pub gaps_between : Tearing → RunLog → List (List Seen) → List Event
gaps_between t log [] = []
gaps_between t log (span ∷ []) = []
gaps_between t log (span ∷ next ∷ spans) = gap_event t log span next ++ gaps_between t log (next ∷ spans)

-- power supply interruption: at each power-on but the start, where a minute was found kept
abbrev pub gap_events : Tearing → RunLog → List TraceSecond → List Event
gap_events t log ss = gaps_between t log (seen_spans (seen_of log ss))

-- the card beside, when a card is judged: at a power-on the co-driver's is not accepted before the driver's is judged
abbrev pub beside_judged : Tearing → Seen → Phase → Slot → Option Card
beside_judged t x (In zero) Driver = None
beside_judged t x (In zero) CoDriver = standing t x Driver
beside_judged t x (In (suc n)) slot = accepted_card (in_slot (x.after (suc n)) (other_slot slot))
beside_judged t x Keeping slot = None

-- the cards once one was judged: it counts as accepted where it is
abbrev pub crew_judged : Tearing → Seen → Visit → Option Card → Crew
crew_judged t x v own = with_card v.slot own
    (with_card (other_slot v.slot) (beside_judged t x v.phase v.slot) (record { driver = None; codriver = None }))

-- events of a type that a judged card brings in a second; `session` is the session time that was found open on the
-- card, 0 without
abbrev pub found_events : (kind : ℕ) → (session : ℕ) → Tearing → Seen → Visit → Verdict → List Event
found_events kind session t x v (NotValid fid place) =
    if kind == CARD_NOT_VALID then noted_with kind (number_of x) (number_of x) (crew_judged t x v None) ∷ [] else []
found_events kind session t x v (TimeOverlap stored now) =
    if kind == TIME_OVERLAP then noted_with kind (number_of x) stored (crew_judged t x v None) ∷ [] else []
found_events kind session t x v (Accepted replayed) =
    if kind == INSERTION_WHILE_DRIVING && nat_lt 0 x.told.second.speed
    then noted_with kind (number_of x) (number_of x) (crew_judged t x v (Some v.card)) ∷ []
    else (if kind == SESSION_NOT_CLOSED && nat_lt 0 session
    then noted_with kind session (number_of x) (crew_judged t x v (Some v.card)) ∷ [] else [])

-- those of all cards that were judged, where `sessions` tells the session time found open by second and visit
abbrev pub judged_events : (kind : ℕ) → (sessions : ℕ → Visit → ℕ) → Tearing → RunLog → List TraceSecond → List Event
judged_events kind sessions t log ss =
    flat_map (λ x. flat_map (λ f. found_events kind (sessions (number_of x) f.0) t x f.0 f.1) x.told.course.found)
    (seen_of log ss)

-- whether the card of this slot was the first of two that were torn out in an action
abbrev pub is_first : Tearing → ℕ → ℕ → Slot → Bool
is_first t u n Driver = t.driver_first u n
is_first t u n CoDriver = not (t.driver_first u n)

-- The card beside, when a card is torn out. At a power-on: as it is judged, the co-driver's is not accepted before; as
-- the interruption is noted, both are, the driver's before the co-driver's. In an action: that as the cards were moved,
-- unless it was torn out first. In the keeping: the driver's comes before the co-driver's.
abbrev pub beside_torn : Tearing → RunLog → Seen → Phase → Slot → Option Card
beside_torn t log x (In zero) Driver = if t.by_gap (number_of x) Driver then standing t x CoDriver else None
beside_torn t log x (In zero) CoDriver = if t.by_gap (number_of x) CoDriver then accepted_card (x.after 0).driver
    else standing t x Driver
beside_torn t log x (In (suc n)) slot =
    if torn_at x (In (suc n)) (other_slot slot) && not (is_first t (number_of x) (suc n) slot) then None
    else accepted_card (in_slot (x.within (suc n)) (other_slot slot))
beside_torn t log x Keeping Driver = accepted_card x.itself.codriver
beside_torn t log x Keeping CoDriver =
    if is_torn_in log (number_of x) Keeping Driver then None else accepted_card x.itself.driver

-- a card's fault is noted at once, with its own number already gone
abbrev pub fault_of : Tearing → RunLog → Seen → Visit → Event
fault_of t log x v =
    noted_with CARD_FAULT (number_of x) (number_of x)
    (with_card (other_slot v.slot) (beside_torn t log x v.phase v.slot) (record { driver = None; codriver = None }))

-- of two cards that were torn out at a moment the co-driver's was the first: at a power-on as it was judged, before the
-- driver's was as the interruption was noted
abbrev pub is_codriver_first : Tearing → Seen → Phase → Bool
is_codriver_first t x (In zero) = t.by_gap (number_of x) Driver && not (t.by_gap (number_of x) CoDriver)
is_codriver_first t x (In (suc n)) = not (t.driver_first (number_of x) (suc n))
is_codriver_first t x Keeping = false

-- these tears of a second in the order in which they came
abbrev pub torn_in_turn : Tearing → Seen → List Visit → List Visit
torn_in_turn t x [] = []
torn_in_turn t x (v ∷ []) = v ∷ []
torn_in_turn t x (v ∷ w ∷ later) =
    if same_phase v.phase w.phase && is_codriver_first t x v.phase then w ∷ v ∷ torn_in_turn t x later else v
    ∷ torn_in_turn t x (w ∷ later)

-- faults of cards: each tear by a failed call
abbrev pub fault_events : Tearing → RunLog → List TraceSecond → List Event
fault_events t log ss = flat_map (λ x. map (fault_of t log x) (torn_in_turn t x x.told.course.torn)) (seen_of log ss)

-- the card of a slot entered at a moment
abbrev pub entered_at : Seen → Phase → Slot → Bool
entered_at x p slot = list_any (λ v. same_phase v.phase p && same_slot v.slot slot) x.told.course.entered

-- A choice fits these seconds.
pub record AreTorn (t : Tearing) (seen : List Seen) : Type 0 where
  -- at rest nothing but the interruption is noted on a card that was accepted at a power-on
  pub still : AllByRecursion (λ x. (slot : Slot) → x.told.second.speed ≡ 0 → torn_at x (In 0) slot ≡ true
      → is_some (accepted_at x (In 0) slot) ≡ true → t.by_gap (number_of x) slot ≡ true) seen
  -- and it is noted on accepted cards alone
  pub before : AllByRecursion (λ x. (slot : Slot) → accepted_at x (In 0) slot ≡ None
      → t.by_gap (number_of x) slot ≡ false) seen
  -- what an insertion settles is kept on the card beside before its own card is called
  pub put_in : AllByRecursion (λ x. (n : ℕ) (slot : Slot) → entered_at x (In (suc n)) slot ≡ true
      → is_first t (number_of x) (suc n) slot ≡ false) seen

-- the events of a type in a run, in order of time
abbrev pub events_of : (kind limit : ℕ) → (sessions : ℕ → Visit → ℕ) → Tearing → RunLog → List TraceSecond → List Event
events_of kind limit sessions t log ss =
    if kind == DRIVING_WITHOUT_CARD then bare_events log ss
    else (if kind == OVER_SPEEDING then over_events limit log ss
    else (if kind == POWER_INTERRUPTION then gap_events t log ss
    else (if kind == CARD_FAULT then fault_events t log ss else judged_events kind sessions t log ss)))
