-- What a note on the unit and then on accepted cards leaves, by value, of unit and cards, and of the record of a run
-- (profile).
use Rattle.std.specs.Prelude.{◌≡◌, ◌⊎◌, ℕ, Bool, true, false, Option, Some, None, List, [], ◌∷◌, ◌++◌}
use Rattle.activity_codec.specs.declared.values.Slot.{Slot}
use Rattle.activity_codec.specs.declared.values.Slot.TheVariants.{Driver, CoDriver}
use Rattle.trace_model.specs.declared.Card.{Card}
use Rattle.trace_model.specs.declared.Action.TheVariants.{Place}
use Rattle.trace_model.specs.Trace.{TraceSecond}
use Rattle.unit_notes.specs.event_model.declared.entries.Span.{Span}
use Rattle.unit_notes.specs.event_model.declared.kinds.TheConstants.{POWER_INTERRUPTION, CARD_FAULT}
use Rattle.unit_notes.specs.declared.unit_event.UnitEvent.{UnitEvent}
use Rattle.run_acts.specs.NotedEvents.{NotesEvents}
use Rattle.tach_media.specs.Medium.{State}
use Rattle.unit_model.specs.minute_model.declared.Minute.{Minute}
use Rattle.run_events.specs.Shown.{SaysNothing}
use Rattle.run_minutes.specs.Minutes.{Reach, IsReach}
use Rattle.run_minutes.specs.Faults.{faults_to}
use Rattle.log_model.specs.declared.lines.Break.{Break}
use Rattle.log_model.specs.Log.{Phase, In}
use Rattle.device_calls.specs.safety_model.Safe.{Devices}
use Rattle.run_crew.specs.card_slots.Calls.{seat_in, card_in}
use Rattle.run_crew.specs.declared.cards.Cards.{Cards}
use Rattle.run_crew.specs.Cabin.{crew_of}
use Rattle.run_events.specs.Entries.{entry_of}
use Rattle.run_minutes.specs.run_promise.Found.{Found}
use Rattle.run_minutes.specs.run_promise.Between.{RunLedger}
use Rattle.run_minutes.specs.run_devices.Told.{AreFoundCards, DevicesPowered, with_standing}
use Rattle.run_outcome.specs.Lines.{Listed}
use Rattle.run_outcome.specs.declared.outcome.Outcome.{Outcome}
use Rattle.run_minutes.specs.declared.keeper.Moment.{Moment}
use Rattle.run_minutes.specs.run_promise.Origin.{Origin}
use Rattle.run_record.specs.Taking.{fallen}
use Rattle.run_acts.specs.declared.run.Run.{Run}
use Rattle.run_acts.specs.Acting.{IsNotedIn, IsNotedOn, Closing, Bare, Closed, Fell, IsClosed, told_of, left_run}
use Rattle.run_acts.specs.Acting.{SettlingDecides}
use Rattle.run_acts.specs.Behind.{IsPoweredOrOff}
use Rattle.run_acts.specs.Recording.{RunWithin, ComesPower, GoesOnOrFails, RecordsAction}

-- ---- by value

-- HOW FAR THE NOTE OF AN INTERRUPTION CAME: there was none to be noted; the unit failed in its note; or behind the tear
-- of the driver slot's card; or it came to both slots, and this became of their cards.
pub data GapReach : Type 0 where
  NoGap : GapReach
  UnitFailed : GapReach
  DriverFell : GapReach
  BothSlots : (driver codriver : Bool) → GapReach

-- it is noted on the card of the driver slot, and then on that of the co-driver slot; each may have fallen
pub record AreNotedIn (at : Moment) (old new : Run) (breaks after : Listed Break) (driver codriver : Bool) : Type
    0 where
  pub between : Run
  pub told : Listed Break
  pub first : IsNotedIn (card_in (seat_in old.keeper.cabin.slots.seats Driver)) Driver at old between breaks told driver
  pub second : IsNotedIn (card_in (seat_in between.keeper.cabin.slots.seats CoDriver)) CoDriver at between new told
      after codriver

-- AN INTERRUPTION, if there was one, IS NOTED so far
abbrev pub IsGapNoted : Option Span → Moment → (failed : Bool) → (old new : Run) → (breaks after : Listed Break)
    → GapReach → Type 0
IsGapNoted None at failed old new breaks after NoGap = (failed ≡ false) × (new ≡ old) × (after ≡ breaks)
IsGapNoted None at failed old new breaks after UnitFailed = ⊥
IsGapNoted None at failed old new breaks after DriverFell = ⊥
IsGapNoted None at failed old new breaks after (BothSlots driver codriver) = ⊥
IsGapNoted (Some span) at failed old new breaks after NoGap = ⊥
IsGapNoted (Some span) at failed old new breaks after UnitFailed = (failed ≡ true) × (new ≡ old) × (after ≡ breaks)
IsGapNoted (Some span) at failed old new breaks after DriverFell = (failed ≡ true)
    × IsNotedIn (card_in (seat_in old.keeper.cabin.slots.seats Driver)) Driver at old new breaks after true
IsGapNoted (Some span) at failed old new breaks after (BothSlots driver codriver) = AreNotedIn at old new breaks after
    driver codriver × (failed ≡ true → codriver ≡ true)

-- ---- the events and faults that are noted

-- the fault of a card that fell as something was noted on it, with the cards that are left
abbrev pub fall_events : (fell : Bool) → (second : ℕ) → (left : Run) → List UnitEvent
fall_events false second left = []
fall_events true second left = entry_of CARD_FAULT second second (crew_of left.keeper.cabin) (crew_of left.keeper.cabin)
    ∷ []

-- the interruption, with the cards that were accepted as power was back
abbrev pub gap_event : Span → Run → UnitEvent
gap_event span run = entry_of POWER_INTERRUPTION span.begin span.end (crew_of run.keeper.cabin)
    (crew_of run.keeper.cabin)

-- A NOTE ON A CARD, or on that of a slot, and these faults with it
pub record NotesFall (IsNoted : (fell : Bool) → Type 0) (second : ℕ) (failed : Bool) (left : Run) (d e : Devices) : Type
    0 where
  pub fell : Bool
  pub noted : IsNoted fell
  pub failing : failed ≡ true → fell ≡ true
  pub notes : NotesEvents (fall_events fell second left) failed d e

-- THE EVENTS OF AN INTERRUPTION that was noted so far
abbrev pub AreGapEvents : Option Span → Moment → (failed : Bool) → (old new : Run) → (breaks after : Listed Break)
    → GapReach → List UnitEvent → Type 0
AreGapEvents None at failed old new breaks after reach vs = IsGapNoted None at failed old new breaks after reach
    × (vs ≡ [])
AreGapEvents (Some span) at failed old new breaks after NoGap vs = ⊥
AreGapEvents (Some span) at failed old new breaks after UnitFailed vs = IsGapNoted (Some span) at failed old new breaks
    after UnitFailed × (vs ≡ gap_event span old ∷ [])
AreGapEvents (Some span) at failed old new breaks after DriverFell vs = IsGapNoted (Some span) at failed old new breaks
    after DriverFell × (vs ≡ gap_event span old ∷ fall_events true old.next new)
AreGapEvents (Some span) at failed old new breaks after (BothSlots driver codriver) vs =
    (n : AreNotedIn at old new breaks after driver codriver) × (failed ≡ true → codriver ≡ true)
    × (vs ≡ gap_event span old ∷ (fall_events driver old.next n.between ++ fall_events codriver old.next new))

-- each image that a call may leave says of events what one before it did
abbrev pub SaysNoMore : (old new : State) → Type 0
SaysNoMore old new = (c : List ℕ) → new.may_leave c → (x : List ℕ) × old.may_leave x × SaysNothing x c

-- A PLACE IS NOTED for the card of a slot, and nothing of that where there is none: the unit failed in its note; or it
-- is noted on the card, which may have fallen.
abbrev pub NotesPlace : Option Card → Slot → Moment → (failed : Bool) → (old new : Run) → (breaks after : Listed Break)
    → (d e : Devices) → Type 0
NotesPlace None slot at failed old new breaks after d e = (failed ≡ false) × (new ≡ old) × (after ≡ breaks)
    × NotesEvents [] failed d e
NotesPlace (Some card) slot at failed old new breaks after d e =
    ((failed ≡ true) × (new ≡ old) × (after ≡ breaks) × NotesEvents [] failed d e)
    ⊎ NotesFall (λ fell. IsNotedOn card slot at old new breaks after fell) at.second failed new d e

-- the faults of the minutes that are settled
abbrev pub SettlesThese : Moment → (failed : Bool) → (old new : Run) → (before after : Outcome) → List UnitEvent
    → Type 0
SettlesThese at failed old new before after vs = (decided : List Minute)
    × SettlingDecides old.minutes decided
    × (reach : Reach) × IsReach decided at failed (told_of old before) (told_of new after) reach
    × (vs ≡ faults_to old.keeper at reach (told_of old before))

-- the fault of a card that fell as its session was closed, with the cards that are left
abbrev pub closed_events : Closing → (second : ℕ) → (left : Run) → List UnitEvent
closed_events Bare second left = []
closed_events Closed second left = []
closed_events Fell second left = fall_events true second left

-- A SESSION IS CLOSED, and this fault is noted with it; the unit may have failed.
pub record NotesClosing (card : Card) (slot : Slot) (at : Moment) (failed : Bool) (old new : Run)
    (breaks after : Listed Break) (d e : Devices) : Type 0 where
  pub closing : Closing
  pub closed : IsClosed card slot at old new breaks after closing
  pub notes : NotesEvents (closed_events closing at.second new) failed d e

-- the faults of the minutes that are settled, and then that of the closing
pub record SettlesThenCloses (card : Card) (slot : Slot) (at : Moment) (old new : Run) (before after : Outcome)
    (vs : List UnitEvent) : Type 0 where
  pub between : Run
  pub told : Outcome
  pub faults : List UnitEvent
  pub closing : Closing
  pub settles : SettlesThese at false (left_run slot at.second old) between before told faults
  pub closed : IsClosed card slot at between new told.breaks after.breaks closing
  pub rest : after ≡ record told { breaks = after.breaks }
  pub are : vs ≡ faults ++ closed_events closing at.second new

-- A CARD IS WITHDRAWN, and nothing is noted where there is none: so it is noted; or the unit failed as the minutes
-- before were kept.
abbrev pub NotesWithdrawing : Option Card → Slot → Moment → (failed : Bool) → (old new : Run) → (before after : Outcome)
    → (d e : Devices) → Type 0
NotesWithdrawing None slot at failed old new before after d e = (failed ≡ false) × (new ≡ old) × (after ≡ before)
    × NotesEvents [] failed d e
NotesWithdrawing (Some card) slot at failed old new before after d e = (events : List UnitEvent)
    × (((failed ≡ true) × SettlesThese at true (left_run slot at.second old) new before after events)
    ⊎ SettlesThenCloses card slot at old new before after events) × NotesEvents events failed d e

-- ---- of unit and cards

-- what is carried behind a note on a card, which may have fallen
abbrev pub carried_noted : (fell : Bool) → Card → (floor : ℕ) → RunLedger → RunLedger
carried_noted false card floor w = w
carried_noted true card floor w = with_standing card (fallen floor (w.standing card)) w

-- IT IS NOTED ON A CARD with a session: unit and cards are as the book says, and a card that fell stands as one that is
-- torn out; or the unit failed behind that.
abbrev pub BooksNoted : Card → (failed fell : Bool) → (cards after : Cards) → (d e : Devices) → Type 0
BooksNoted card failed fell cards after d e = (f : Found) (w : RunLedger) (floor : ℕ) → AreFoundCards f cards
    → DevicesPowered f w cards d → IsPoweredOrOff failed f (carried_noted fell card floor w) after e

-- ---- of the record

-- A NOTE IS RECORDED at a moment of a second at which no card waits, before any action only where power comes with the
-- second: the second goes on at that moment, as it began, or power is about to be cut.
abbrev pub IsNoteRecorded : Phase → (failed : Bool) → (old new : Run) → (breaks after : Listed Break) → (d e : Devices)
    → Type 0
IsNoteRecorded at failed old new breaks after d e = (o : Origin) (done : List TraceSecond) (s : TraceSecond)
    (out : Outcome) → (w : RunWithin o done s at [] [] old (record out { breaks = breaks }) d)
    → (at ≡ In 0 → ComesPower done (record out { breaks = breaks })) →
    GoesOnOrFails failed o done s at [] new (record out { breaks = after }) e w.within.b

-- A PLACE IS NOTED, an action of that second: it is told of before.
abbrev pub IsPlaceRecorded : Slot → Moment → (failed : Bool) → (old new : Run) → (breaks after : Listed Break)
    → (d e : Devices) → Type 0
IsPlaceRecorded slot at failed old new breaks after d e = at.late ≡ false
    → (ending : Bool) (country region speed : ℕ) (before : Outcome) → before.breaks ≡ breaks →
    RecordsAction (Place slot ending country region) at.begun speed failed old new before
    (record before { breaks = after }) d e
