-- What a second notes in the rings up to some of its actions, by its log so far (profile).
use Rattle.std.specs.Prelude.{◌≡◌, ℕ, ◌+◌, ◌<◌, ◌≤◌, Bool, true, false, ◌&&◌, nat_lt, is_some, Option, Some, None, List}
use Rattle.std.specs.Prelude.{[], ◌∷◌, ◌++◌, map, filter, length, if◌then◌else◌}
use Rattle.activity_codec.specs.declared.values.Pick.{Pick}
use Rattle.activity_codec.specs.declared.values.Slot.{Slot}
use Rattle.activity_codec.specs.declared.values.Slot.TheVariants.{Driver, CoDriver}
use Rattle.trace_model.specs.declared.Card.{Card}
use Rattle.trace_model.specs.declared.Action.{Action}
use Rattle.trace_model.specs.declared.Action.TheVariants.{Select, Insert, Withdraw, Tear, Place, Manual}
use Rattle.trace_model.specs.Trace.{TraceSecond}
use Rattle.log_model.specs.declared.lines.SlotFault.{SlotFault}
use Rattle.log_model.specs.declared.lines.Verdict.{Verdict}
use Rattle.log_model.specs.Log.{RunLog, Phase, In, same_phase, cut_in, is_torn_in, found_in, is_accepting}
use Rattle.log_model.specs.Slots.{Sitting, in_slot, refusal}
use Rattle.log_model.specs.Course.{Course, Visit, Before, begins, acted, all_acted, has_power}
use Rattle.note_model.specs.Done.{CarriedOut, course_powered, done_by}
use Rattle.note_model.specs.Noted.{Note, Accepts, Withdraws, Enters, noted_by, noted_in}

-- the cards that were accepted at a moment of a second, among those of which something was found
abbrev pub accepted_in : (second : ℕ) → Phase → List (Visit × Verdict) → List Note
accepted_in u p found =
    map (λ (f : Visit × Verdict). Accepts (record { second = u; slot = f.0.slot; card = f.0.card }))
    (filter (λ (f : Visit × Verdict). same_phase f.0.phase p && is_accepting f.1) found)

-- an action that was carried out notes so; one that was refused notes nothing
abbrev pub noted_if : Option SlotFault → RunLog → (second : ℕ) → CarriedOut → (found : List (Visit × Verdict))
    → List Note
noted_if (Some fault) log u a found = []
noted_if None log u a found = noted_by log u a a.action ++ accepted_in u (In (a.before + 1)) found

-- what one action notes that has begun, with n before it
abbrev pub action_notes : RunLog → TraceSecond → (n : ℕ) → Action → Course → List Note
action_notes log s n a c =
    noted_if (refusal c.slots s.speed a) log s.number
    (record { before = n; action = a; slots = c.slots; after = (acted log s n a c).slots })
    (acted log s n a c).found

-- what these actions note, one after another, with n before them
abbrev pub notes_from : RunLog → TraceSecond → (n : ℕ) → List Action → Course → List Note
notes_from log s n [] c = []
notes_from log s n (a ∷ actions) c =
    (if begins (cut_in log s.number) n then action_notes log s n a c else [])
    ++ notes_from log s (n + 1) actions (acted log s n a c)

-- THE NOTES of a second with power, up to these of its actions: the cards that its power-on accepted, and what they
-- note
abbrev pub notes_to : RunLog → Before → TraceSecond → (front : List Action) → List Note
notes_to log before s front = accepted_in s.number (In 0) (course_powered log before s).found
    ++ notes_from log s 0 front (course_powered log before s)

-- TWO LOGS TELL THE SAME of a second up to a moment, behind so many of its actions, and no cut before it
pub record TellSameTo (log later : RunLog) (u : ℕ) (n : ℕ) : Type 0 where
  pub begun : (k : ℕ) → k < n → begins (cut_in log u) k ≡ true
  pub begun_later : (k : ℕ) → k < n → begins (cut_in later u) k ≡ true
  pub torn : (k : ℕ) (slot : Slot) → k ≤ n → is_torn_in later u (In k) slot ≡ is_torn_in log u (In k) slot
  pub found : (k : ℕ) (slot : Slot) → k ≤ n → found_in later u (In k) slot ≡ found_in log u (In k) slot

-- LATER LINES change no note that was made.
abbrev pub LaterLinesChangeNoNote : Type 0
LaterLinesChangeNoNote = (log later : RunLog) (before : Before) (s : TraceSecond) (front : List Action)
    → TellSameTo log later s.number (length front) → notes_to later before s front ≡ notes_to log before s front

-- ONE ACTION MORE, by the course behind those before it
abbrev pub AnActionNotes : Type 0
AnActionNotes = (log : RunLog) (before : Before) (s : TraceSecond) (front : List Action) (a : Action) →
    notes_to log before s (front ++ a ∷ []) ≡ notes_to log before s front
    ++ notes_from log s (length front) (a ∷ []) (all_acted log s 0 front (course_powered log before s))

-- THE SECOND ENDS behind all of its actions: these are its notes.
abbrev pub ASecondHasNoted : Type 0
ASecondHasNoted = (log : RunLog) (before : Before) (s : TraceSecond) → has_power before s ≡ true
    → noted_in log (done_by log before s) ≡ notes_to log before s s.actions

-- Behind a cut no action notes anything more.
abbrev pub ACutNotesNoMore : Type 0
ACutNotesNoMore = (log : RunLog) (before : Before) (s : TraceSecond) (front rest : List Action)
    → cut_in log s.number ≡ Some (length front) → notes_to log before s (front ++ rest) ≡ notes_to log before s front

-- ---- what each action notes

-- the course of a second behind some of its actions
abbrev pub course_behind : RunLog → Before → TraceSecond → (front : List Action) → Course
course_behind log before s front = all_acted log s 0 front (course_powered log before s)

-- a card of which this was found, in this order: it is noted where it is accepted
abbrev pub accepts_by : (second : ℕ) → Slot → Card → List Verdict → List Note
accepts_by u slot card verdicts = map (λ (v : Verdict). Accepts (record { second = u; slot = slot; card = card }))
    (filter is_accepting verdicts)

-- the card that sits in a slot, if there is one
abbrev pub sits_accepted : (second : ℕ) → Slot → Option Sitting → List Verdict → List Note
sits_accepted u slot None verdicts = []
sits_accepted u slot (Some x) verdicts = accepts_by u slot x.card verdicts

-- one action more, behind these, makes these notes
abbrev pub NotesMore : RunLog → Before → TraceSecond → (front : List Action) → Action → List Note → Type 0
NotesMore log before s front a more = notes_to log before s (front ++ a ∷ []) ≡ notes_to log before s front ++ more

-- A SELECTION notes nothing,
abbrev pub SelectionsNoteNothing : Type 0
SelectionsNoteNothing = (log : RunLog) (before : Before) (s : TraceSecond) (front : List Action) (slot : Slot)
    (pick : Pick) → NotesMore log before s front (Select slot pick) []

-- nor does a card that is pulled out,
abbrev pub PullsNoteNothing : Type 0
PullsNoteNothing = (log : RunLog) (before : Before) (s : TraceSecond) (front : List Action) (slot : Slot)
    → NotesMore log before s front (Tear slot) []

-- nor an entry by hand,
abbrev pub EntriesByHandNoteNothing : Type 0
EntriesByHandNoteNothing = (log : RunLog) (before : Before) (s : TraceSecond) (front : List Action) (slot : Slot)
    (pick : Pick) (minute : ℕ) → NotesMore log before s front (Manual slot pick minute) []

-- nor an action that is refused;
abbrev pub RefusalsNoteNothing : Type 0
RefusalsNoteNothing = (log : RunLog) (before : Before) (s : TraceSecond) (front : List Action) (a : Action)
    (fault : SlotFault) → refusal (course_behind log before s front).slots s.speed a ≡ Some fault
    → NotesMore log before s front a []

-- a place is noted of the accepted card of its slot;
abbrev pub PlacesAreNoted : Type 0
PlacesAreNoted = (log : RunLog) (before : Before) (s : TraceSecond) (front : List Action)
    → begins (cut_in log s.number) (length front) ≡ true
    → (slot : Slot) (ending : Bool) (country region : ℕ) (x : Sitting) →
    in_slot (course_behind log before s front).slots slot ≡ Some x → is_some x.accepted ≡ true →
    NotesMore log before s front (Place slot ending country region)
    (Enters (record { second = s.number; card = x.card; ending = ending; country = country; region = region }) ∷ [])

-- a withdrawal of the accepted card of a slot, where it is not torn out in that;
abbrev pub WithdrawalsAreNoted : Type 0
WithdrawalsAreNoted = (log : RunLog) (before : Before) (s : TraceSecond) (front : List Action)
    → begins (cut_in log s.number) (length front) ≡ true → (slot : Slot) (x : Sitting) →
    in_slot (course_behind log before s front).slots slot ≡ Some x → nat_lt 0 s.speed ≡ false →
    (is_torn_in log s.number (In (length front + 1)) slot ≡ true → NotesMore log before s front (Withdraw slot) [])
    × (x.accepted ≡ None → NotesMore log before s front (Withdraw slot) [])
    × (is_torn_in log s.number (In (length front + 1)) slot ≡ false → is_some x.accepted ≡ true
    → NotesMore log before s front (Withdraw slot) (Withdraws (record { second = s.number; card = x.card }) ∷ []))

-- and the insertion of a card that is put in, where it is accepted.
abbrev pub InsertionsAreNoted : Type 0
InsertionsAreNoted = (log : RunLog) (before : Before) (s : TraceSecond) (front : List Action)
    → begins (cut_in log s.number) (length front) ≡ true → (slot : Slot) (card : Card) →
    refusal (course_behind log before s front).slots s.speed (Insert slot card) ≡ None →
    NotesMore log before s front (Insert slot card)
    (accepts_by s.number slot card (found_in log s.number (In (length front + 1)) slot))

-- AT A POWER-ON the cards in the slots are noted that are accepted; in no other second is anything noted before its
-- actions.
abbrev pub PowerOnsAreNoted : Type 0
PowerOnsAreNoted = (log : RunLog) (before : Before) (s : TraceSecond) →
    (before.running ≡ false → notes_to log before s []
    ≡ sits_accepted s.number Driver before.slots.driver (found_in log s.number (In 0) Driver)
    ++ sits_accepted s.number CoDriver before.slots.codriver (found_in log s.number (In 0) CoDriver))
    × (before.running ≡ true → notes_to log before s [] ≡ [])
