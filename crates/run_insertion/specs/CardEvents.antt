-- What a card shows of its events, type by type, and what is noted there (Annex IB, section III.12; Appendix 1,
-- CardEventData; the places: profile).
use Rattle.std.specs.Prelude.{◌≡◌, ◌≢◌, ◌⊎◌, ℕ, ◌&&◌, Bool, true, false, Option, Some, None, List, [], ◌∷◌, ◌++◌}
use Rattle.std.specs.Prelude.{length, drop, map, filter, fold, nat_eq, slice_index_or, slice_set, if◌then◌else◌}
use Rattle.std.specs.List.{range_with_len, list_any}
use Rattle.card_layout.specs.Fields.{number_in}
use Rattle.tach_media.specs.Medium.{State}
use Rattle.card_layout.specs.declared.files.Application.{Application}
use Rattle.run_events.specs.gated_ring.Ring.{entry_at}
use Rattle.run_events.specs.card_files.declared.card_event.CardEvent.{CardEvent}
use Rattle.run_events.specs.card_files.Events.{event_widths, event_bytes}
use Rattle.run_events.specs.card_files.Rings.{event_ring}
use Rattle.card_validity.specs.card_image.Fields.{current_use, session_time}
use Rattle.card_session.specs.Inserting.{unclosed}
use Rattle.unit_notes.specs.event_model.declared.kinds.TheConstants.{INSERTION_WHILE_DRIVING, SESSION_NOT_CLOSED}
use Rattle.unit_notes.specs.event_model.declared.kinds.TheConstants.{POWER_INTERRUPTION}
use Rattle.unit_notes.specs.event_model.Places.{earliest}

-- ---- what stands there

-- what stands at each place of a type's set, empty ones too
unfoldable pub events_in : Application → (kind : ℕ) → List ℕ → List (List ℕ)
events_in app kind x = map (entry_at (event_ring app kind) x) (range_with_len 0 app.events)

-- the type of an entry: 0 where none is there
abbrev pub kind_of : List ℕ → ℕ
kind_of entry = number_in event_widths 0 entry

-- when the event of an entry began: 0 where none is there
abbrev pub begin_of : List ℕ → ℕ
begin_of entry = number_in event_widths 1 entry

-- ---- an event is noted

-- these bytes are written over the entry of a place
abbrev pub written : List ℕ → List (List ℕ) → Option ℕ → List (List ℕ)
written bytes table None = table
written bytes table (Some i) = slice_set table i (bytes ++ drop (length bytes) (slice_index_or table i []))

-- an event is noted: in an empty place, else in that of the earliest begin, of several in the lowest
abbrev pub noted_in : List (List ℕ) → CardEvent → List (List ℕ)
noted_in table event = written (event_bytes event) table (earliest begin_of table)

-- an event of this type with this begin is there
abbrev pub is_held : List (List ℕ) → (kind begin : ℕ) → Bool
is_held table kind begin = list_any (λ entry. nat_eq (kind_of entry) kind && nat_eq (begin_of entry) begin) table

-- a session that was not closed is noted once
abbrev pub is_told : List (List ℕ) → CardEvent → Bool
is_told table event = nat_eq event.kind SESSION_NOT_CLOSED && is_held table event.kind event.begin.0

-- a set with an event more, unless it is one that is noted once, and is there
abbrev pub with_event : List (List ℕ) → CardEvent → List (List ℕ)
with_event table event = if is_told table event then table else noted_in table event

-- THESE EVENTS ARE NOTED, one after another
abbrev pub all_noted : List (List ℕ) → List CardEvent → List (List ℕ)
all_noted table events = fold with_event table events

-- an entry of a place is empty
abbrev pub IsEmptied : List (List ℕ) → Option ℕ → List (List ℕ) → Type 0
IsEmptied table None new = ⊥
IsEmptied table (Some i) new = (entry : List ℕ) × (begin_of entry ≡ 0) × (new ≡ slice_set table i entry)

-- A MOMENT OF THAT: the first of them are noted, and the place of the next is as it was, or empty
abbrev pub AreBeingNoted : List (List ℕ) → List CardEvent → List (List ℕ) → Type 0
AreBeingNoted table [] new = new ≡ table
AreBeingNoted table (event ∷ events) new =
    (new ≡ table) ⊎ (((is_told table event ≡ false) × IsEmptied table (earliest begin_of table) new)
    ⊎ AreBeingNoted (with_event table event) events new)

-- one that may have been noted: it was, or nothing has come of it, or the place that it takes is empty
abbrev pub IsNotedOrNot : List (List ℕ) → CardEvent → List (List ℕ) → Type 0
IsNotedOrNot table event new =
    (new ≡ with_event table event)
    ⊎ ((new ≡ table) ⊎ ((is_told table event ≡ false) × IsEmptied table (earliest begin_of table) new))

-- THESE EVENTS MAY HAVE BEEN NOTED, one after another, each for itself
abbrev pub MayBeNoted : List (List ℕ) → List CardEvent → List (List ℕ) → Type 0
MayBeNoted table [] new = new ≡ table
MayBeNoted table (event ∷ events) new = (next : List (List ℕ)) × IsNotedOrNot table event next
    × MayBeNoted next events new

-- ---- of a card

-- of these events those of a type
abbrev pub of_type : (kind : ℕ) → List CardEvent → List CardEvent
of_type kind events = filter (λ event. nat_eq event.kind kind) events

-- the places of a type show these events more; where that was cut short a moment of it
abbrev pub ShowsThese : (cut : Bool) → (old : List (List ℕ)) → List CardEvent → (new : List (List ℕ)) → Type 0
ShowsThese false old events new = new ≡ all_noted old events
ShowsThese true old events new = AreBeingNoted old events new

-- AN IMAGE OF A CARD SHOWS THESE EVENTS MORE than one before: type by type
abbrev pub ShowsMore : Application → List CardEvent → (cut : Bool) → List ℕ → List ℕ → Type 0
ShowsMore app events cut x c = (kind : ℕ)
    → ShowsThese cut (events_in app kind x) (of_type kind events) (events_in app kind c)

-- THESE EVENTS ARE NOTED ON A CARD: so it is of each image that it may leave, and one that it might have left before
abbrev pub NotesOnCard : Application → List CardEvent → (cut : Bool) → (old new : State) → Type 0
NotesOnCard app events cut old new = (c : List ℕ) → new.may_leave c
    → (x : List ℕ) × old.may_leave x × ShowsMore app events cut x c

-- the types of which a run notes events on cards
abbrev pub IsOnCards : ℕ → Type 0
IsOnCards kind = (kind ≡ INSERTION_WHILE_DRIVING) ⊎ ((kind ≡ SESSION_NOT_CLOSED) ⊎ (kind ≡ POWER_INTERRUPTION))

-- what an insertion finds of a session that was left open: it was not closed
abbrev pub unclosed_on : Application → (now : ℕ) → List ℕ → List CardEvent
unclosed_on app now x = if nat_eq (session_time app x) 0 then [] else unclosed (current_use app x) now ∷ []

-- but for a session that was not closed an event is noted whatever is held
abbrev pub IsPlain : CardEvent → Type 0
IsPlain event = IsOnCards event.kind × (event.kind ≢ SESSION_NOT_CLOSED)
