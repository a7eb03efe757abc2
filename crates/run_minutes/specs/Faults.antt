-- The faults that the keeping of minutes notes on the unit, of cards that were torn out (profile).
use Rattle.std.specs.Prelude.{◌≡◌, ◌⊎◌, ℕ, Bool, true, false, Option, Some, None, List, [], ◌∷◌, ◌++◌, length}
use Rattle.tach_media.specs.Medium.{State}
use Rattle.unit_notes.specs.event_model.declared.kinds.TheConstants.{CARD_FAULT}
use Rattle.unit_notes.specs.declared.unit_event.UnitEvent.{UnitEvent}
use Rattle.unit_notes.specs.Entries.{fault_bytes}
use Rattle.unit_notes.specs.Noting.{IsEventNoted, IsNotingEvent}
use Rattle.run_crew.specs.declared.cabin.Cabin.{Cabin}
use Rattle.run_crew.specs.declared.cards.Crew.{Crew}
use Rattle.run_crew.specs.Cabin.{crew_of}
use Rattle.run_events.specs.Entries.{entry_of}
use Rattle.run_events.specs.Shown.{SaysNothing}
use Rattle.run_events.specs.run_rings.Same.{HasSameRings}
use Rattle.card_slots.specs.declared.seats.Present.{Present}
use Rattle.run_minutes.specs.declared.keeper.Keeper.{Keeper}
use Rattle.run_minutes.specs.declared.keeper.Moment.{Moment}
use Rattle.run_minutes.specs.Keeping.{Fate, Still, Has, Fell, cabin_by}
use Rattle.run_minutes.specs.Minutes.{Round, KeepingState, Done, Reach, Whole, Short, cabin_after, told_after, told_by}
use Rattle.run_minutes.specs.Minutes.{present_at}

-- the entry of a card's fault in a second, with the cards that sit there then
abbrev pub fault_entry : (second : ℕ) → Crew → UnitEvent
fault_entry second crew = entry_of CARD_FAULT second second crew crew

-- what is noted of what became of an entry, with these slots and sessions behind it
abbrev pub faults_by : Fate → (second : ℕ) → Cabin → List UnitEvent
faults_by Still second cabin = []
faults_by (Has accepted clock) second cabin = []
faults_by Fell second cabin = fault_entry second (crew_of cabin) ∷ []

-- in a round: of the driver's card, of the co-driver's
abbrev pub round_faults : Present → Moment → Round → Cabin → List UnitEvent
round_faults present at round cabin = faults_by round.driver at.second
    (cabin_by round.driver present.driver at.second cabin)
    ++ faults_by round.codriver at.second (cabin_after present at.second round cabin)

-- in the last round, if the unit came so far as to keep its minute
abbrev pub last_faults : Present → Moment → Option Round → Cabin → List UnitEvent
last_faults present at None cabin = []
last_faults present at (Some round) cabin = round_faults present at round cabin

-- in some rounds, where this was the keeper before all
abbrev pub faults_of : Keeper → Moment → List Done → KeepingState → List UnitEvent
faults_of k at [] t = []
faults_of k at (x ∷ xs) t = round_faults (present_at k.cabin x.minute.minute) at x.round t.keeper.cabin
    ++ faults_of k at xs (told_after (present_at k.cabin x.minute.minute) x.minute.minute at x.round t)

-- as far as a keeping came
abbrev pub faults_to : Keeper → Moment → Reach → KeepingState → List UnitEvent
faults_to k at (Whole xs) t = faults_of k at xs t
faults_to k at (Short xs m round) t = faults_of k at xs t
    ++ last_faults (present_at k.cabin m.minute) at round (told_by k at xs t).keeper.cabin

-- an image is as long as another, says the same of events, and has the same rings
abbrev pub SaysTheSame : (x c : List ℕ) → Type 0
SaysTheSame x c = SaysNothing x c × (length c ≡ length x) × HasSameRings x c

-- AN IMAGE TELLS OF THESE FAULTS more than another, which were noted one after another, and else says the same of
-- events and has the same rings.
abbrev pub TellsFaults : List UnitEvent → (x c : List ℕ) → Type 0
TellsFaults [] x c = SaysTheSame x c
TellsFaults (v ∷ vs) x c = (y : List ℕ) × (z : List ℕ) × SaysTheSame x y × IsEventNoted CARD_FAULT (fault_bytes v) y z
    × TellsFaults vs z c

-- OR THE UNIT FAILED: it tells of the first of them, and behind these it says the same, or stands at a moment of the
-- note of the next one.
abbrev pub TellsFirst : List UnitEvent → (x c : List ℕ) → Type 0
TellsFirst [] x c = SaysTheSame x c
TellsFirst (v ∷ vs) x c = SaysTheSame x c
    ⊎ ((y : List ℕ) × SaysTheSame x y × (IsNotingEvent CARD_FAULT (fault_bytes v) y c
    ⊎ ((z : List ℕ) × IsEventNoted CARD_FAULT (fault_bytes v) y z × TellsFirst vs z c)))

-- it tells of all these faults; or, where the unit failed, of the first of them
abbrev pub TellsTo : (failed : Bool) → List UnitEvent → (x c : List ℕ) → Type 0
TellsTo false vs x c = TellsFaults vs x c
TellsTo true vs x c = TellsFirst vs x c

-- SO DOES EACH IMAGE that a stop may leave behind a call
abbrev pub NotesFaults : (failed : Bool) → List UnitEvent → (old new : State) → Type 0
NotesFaults failed vs old new = (c : List ℕ) → new.may_leave c → (x : List ℕ) × old.may_leave x × TellsTo failed vs x c
