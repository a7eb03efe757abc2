-- Which events the unit notes of a card that enters (Annex IB, section III.12).
use Rattle.std.specs.Prelude.{ℕ, ◌^◌, ◌<◌, List, [], ◌∷◌, ◌++◌, nat_eq, nat_lt, if◌then◌else◌}
use Rattle.trace_model.specs.declared.Card.{Card}
use Rattle.device_calls.specs.event_model.declared.kinds.TheConstants.{CARD_NOT_VALID, TIME_OVERLAP}
use Rattle.device_calls.specs.event_model.declared.kinds.TheConstants.{INSERTION_WHILE_DRIVING}
use Rattle.device_calls.specs.event_model.declared.kinds.TheConstants.{SESSION_NOT_CLOSED, CARD_FAULT}
use Rattle.device_calls.specs.event_model.Events.{Event, Crew, noted_with}
pub use Rattle.run_acts.specs.NotedEvents.{NoteTellsEvent}
use Rattle.run_acts.specs.run_crew.declared.cabin.Cabin.{Cabin}
use Rattle.run_acts.specs.run_crew.Cabin.{torn_out, crew_of}
use Rattle.run_acts.specs.run_events.Entries.{IsCrewOf}
use Rattle.run_insertion.specs.declared.lines.Entering.{Entering}
use Rattle.run_insertion.specs.Entering.{Ending, Unfit, Ahead, Fell, Unasked, Unnoted, Seated, Lost, seated}
use Rattle.run_insertion.specs.Noted.{UnitNote, Inserts, BeginsRow, Tells}

-- these notes tell these events, in order; insertions and rows tell none
abbrev pub TellEvents : (Card → List ℕ) → List UnitNote → List Event → Type 0
TellEvents number [] [] = Unit {0}
TellEvents number [] (e ∷ events) = ⊥
TellEvents number (Inserts insertion ∷ notes) events = TellEvents number notes events
TellEvents number (BeginsRow card session spared ∷ notes) events = TellEvents number notes events
TellEvents number (Tells v ∷ notes) [] = ⊥
TellEvents number (Tells v ∷ notes) (e ∷ events) = NoteTellsEvent number e v × TellEvents number notes events

-- that the vehicle moved, where the speed is not 0
abbrev pub moving_events : (speed second : ℕ) → Crew → List Event
moving_events speed second crew = if nat_lt 0 speed then noted_with INSERTION_WHILE_DRIVING second second crew ∷ []
    else []

-- and that the session from another second was not closed: 0 is none
abbrev pub unclosed_events : (session second : ℕ) → Crew → List Event
unclosed_events session second crew = if nat_eq session 0 then [] else noted_with SESSION_NOT_CLOSED session second crew
    ∷ []

-- THE EVENTS of a card that ended so, in the order in which they are noted: with the cards that were accepted before,
-- those with its own, and those that are left where it was torn out
abbrev pub events_by : Ending → (speed second : ℕ) → (before accepted left : Crew) → List Event
events_by (Unfit fid place) speed second before accepted left = noted_with CARD_NOT_VALID second second before ∷ []
events_by (Ahead stored) speed second before accepted left = noted_with TIME_OVERLAP second stored before ∷ []
events_by Fell speed second before accepted left = noted_with CARD_FAULT second second left ∷ []
events_by Unasked speed second before accepted left = []
events_by (Unnoted entered clock) speed second before accepted left = []
events_by (Seated entered clock entry) speed second before accepted left = moving_events speed second accepted
    ++ unclosed_events entered.look.session second accepted
events_by (Lost entered clock entry) speed second before accepted left =
    moving_events speed second accepted ++ noted_with CARD_FAULT second second left
    ∷ unclosed_events entered.look.session second accepted

-- the cabin in which the events of an accepted card are noted: it is seated
abbrev pub cabin_of : Ending → Entering → (noted : ℕ) → Cabin → Cabin
cabin_of (Unfit fid place) e noted cabin = cabin
cabin_of (Ahead stored) e noted cabin = cabin
cabin_of Fell e noted cabin = cabin
cabin_of Unasked e noted cabin = cabin
cabin_of (Unnoted entered clock) e noted cabin = cabin
cabin_of (Seated entered clock entry) e noted cabin = seated entered.look entered.session entered.row entry noted e
    cabin
cabin_of (Lost entered clock entry) e noted cabin = seated entered.look entered.session entered.row entry noted e cabin

-- the time that an ending tells fits its field
abbrev pub IsLow : Ending → Type 0
IsLow (Unfit fid place) = Unit {0}
IsLow (Ahead stored) = stored < 2 ^ 32
IsLow Fell = Unit {0}
IsLow Unasked = Unit {0}
IsLow (Unnoted entered clock) = Unit {0}
IsLow (Seated entered clock entry) = entered.look.session < 2 ^ 32
IsLow (Lost entered clock entry) = entered.look.session < 2 ^ 32

-- these are the numbers of the cards in that cabin: before the card was judged, as it is seated, and once it is torn
-- out
pub record AreNamed (number : Card → List ℕ) (ending : Ending) (e : Entering) (noted : ℕ) (cabin : Cabin)
    (before accepted left : Crew) : Type 0 where
  pub at_first : IsCrewOf number before (crew_of cabin)
  pub with_it : IsCrewOf number accepted (crew_of (cabin_of ending e noted cabin))
  pub without_it : IsCrewOf number left (crew_of (torn_out e.which e.at.second (cabin_of ending e noted cabin)))
