-- What a run notes on its unit of the events and faults of a card that is judged, and as power is back (Annex IB,
-- section III.12; the moments: profile).
use Rattle.std.specs.Prelude.{◌≡◌, ℕ, ◌<◌, Bool, true, false, Option, Some, None, List, [], ◌∷◌, ◌++◌, ◌⊎◌, length}
use Rattle.activity_codec.specs.declared.values.Slot.{Slot}
use Rattle.activity_codec.specs.declared.values.Slot.TheVariants.{Driver, CoDriver}
use Rattle.device_calls.specs.event_model.Spans.{gap_of}
use Rattle.run_minutes.specs.card_slots.Calls.{seat_in, card_in}
use Rattle.unit_minutes.specs.declared.notes.Notes.{Notes}
use Rattle.trace_model.specs.declared.Card.{Card}
use Rattle.trace_model.specs.declared.Action.{Action}
use Rattle.trace_model.specs.declared.Action.TheVariants.{Select, Insert, Withdraw, Tear, Place, Manual}
use Rattle.run_acts.specs.unit_notes.declared.unit_event.UnitEvent.{UnitEvent}
use Rattle.device_calls.specs.safety_model.Safe.{Devices}
use Rattle.run_minutes.specs.declared.keeper.Moment.{Moment}
use Rattle.run_outcome.specs.declared.outcome.Outcome.{Outcome}
use Rattle.run_insertion.specs.declared.lines.Entering.{Entering}
use Rattle.run_insertion.specs.Entering.{Way, ending_of, measured}
use Rattle.run_insertion.specs.Noted.{notes_by}
use Rattle.recorder_with_cards.specs.EnteredEvents.{events_in}
use Rattle.run_acts.specs.NotedEvents.{NotesEvents}
use Rattle.run_acts.specs.declared.run.Run.{Run}
use Rattle.device_calls.specs.run_unit_course.Lines.{found_from}
use Rattle.run_outcome.specs.Lines.{cut_at}
use Rattle.run_minutes.specs.Keeping.{with_lines}
use Rattle.minute_rules.specs.minute_model.declared.Rule.{Rule}
use Rattle.run_acts.specs.Power.{IsSpanBegun, cut_run}
use Rattle.run_acts.specs.Acting.{now_moment}
use Rattle.run_acts.specs.Noting.{GapReach, AreGapEvents, NotesPlace, SettlesThese, NotesWithdrawing}
use Rattle.recorder_with_cards.specs.Accepting.{IsAccepted, IsEnteringNow, put_run}

-- the events and faults of a card that entered in this way
abbrev pub judged_events : Way → Entering → Run → List UnitEvent
judged_events way e run = events_in (notes_by (ending_of way) e run.noted (measured way e run.keeper).cabin)

-- A CARD WAS ACCEPTED OR TURNED AWAY, and that is noted.
pub record IsJudgedNoting (e : Entering) (failed : Bool) (old new : Run) (before after : Outcome)
    (d later : Devices) : Type 0 where
  pub accepted : IsAccepted e old new before after
  pub notes : NotesEvents (judged_events accepted.way e old) failed d later

-- now, in this slot
abbrev pub NotesJudging : Slot → Card → Moment → (speed : ℕ) → (failed : Bool) → (old new : Run)
    → (before after : Outcome) → (d later : Devices) → Type 0
NotesJudging slot card at speed failed old new before after d later = (e : Entering)
    × IsEnteringNow slot card at speed old e × IsJudgedNoting e failed old new before after d later

-- the card of a slot, if there is one
abbrev pub NotesAnew : Option Card → Slot → Moment → (speed : ℕ) → (failed : Bool) → (old new : Run)
    → (before after : Outcome) → (d later : Devices) → Type 0
NotesAnew None slot at speed failed old new before after d later = (new ≡ old) × (after ≡ before)
    × NotesEvents [] failed d later
NotesAnew (Some card) slot at speed failed old new before after d later = NotesJudging slot card at speed failed old new
    before after d later

-- ---- power is back

-- the card of a slot, if there is one, was judged, and these are its events and faults
abbrev pub JudgesThese : Option Card → Slot → Moment → (speed : ℕ) → (old new : Run) → (before after : Outcome)
    → List UnitEvent → Type 0
JudgesThese None slot at speed old new before after vs = (new ≡ old) × (after ≡ before) × (vs ≡ [])
JudgesThese (Some card) slot at speed old new before after vs = (e : Entering) × IsEnteringNow slot card at speed old e
    × (a : IsAccepted e old new before after) × (vs ≡ judged_events a.way e old)

-- the card of the driver slot
abbrev pub JudgesDriver : (speed : ℕ) → (old new : Run) → (before after : Outcome) → List UnitEvent → Type 0
JudgesDriver speed old new before after vs = JudgesThese (card_in (seat_in old.keeper.cabin.slots.seats Driver)) Driver
    (now_moment old) speed old new before after vs

-- both cards, first that of the driver slot: what is noted of the one, and then of the other
pub record JudgesBoth (speed : ℕ) (old new : Run) (before after : Outcome) (vs : List UnitEvent) : Type 0 where
  pub one : Run
  pub told : Outcome
  pub first : List UnitEvent
  pub second : List UnitEvent
  pub driver : JudgesDriver speed old one before told first
  pub codriver : JudgesThese (card_in (seat_in one.keeper.cabin.slots.seats CoDriver)) CoDriver (now_moment old) speed
      one new told after second
  pub are : vs ≡ first ++ second

-- and the interruption that ended
pub record JudgesThenGap (kept speed : ℕ) (failed : Bool) (old new : Run) (before after : Outcome) (reach : GapReach)
    (vs : List UnitEvent) : Type 0 where
  pub two : Run
  pub told : Outcome
  pub judged : List UnitEvent
  pub later : List UnitEvent
  pub both : JudgesBoth speed old two before told judged
  pub gap : AreGapEvents (gap_of kept two.next) (now_moment two) failed two new told.breaks after.breaks reach later
  pub rest : after ≡ record told { breaks = after.breaks }
  pub are : vs ≡ judged ++ later

-- HOW FAR A RUN CAME AS POWER WAS BACK, from the span that began: the unit failed as it was mended; as the card of the
-- driver slot was judged; as that of the co-driver slot was; or all went well, and no power-on came before this one; or
-- the interruption was noted so far.
pub data WakeReach : Type 0 where
  Unmended : WakeReach
  AtDriver : Run → WakeReach
  AtCoDriver : Run → WakeReach
  NoneBefore : Run → WakeReach
  AtGap : Run → GapReach → WakeReach

-- a span began
abbrev pub HasBegunSpan : (old mid : Run) → Type 0
HasBegunSpan old mid = (rule : Rule) × (journal : Notes) × IsSpanBegun rule old mid journal

-- THE EVENTS AND FAULTS of it
abbrev pub AreWakingEvents : WakeReach → (kept speed : ℕ) → (failed : Bool) → (old new : Run) → (before after : Outcome)
    → List UnitEvent → Type 0
AreWakingEvents Unmended kept speed failed old new before after vs = (failed ≡ true) × (new ≡ old) × (after ≡ before)
    × (vs ≡ [])
AreWakingEvents (AtDriver mid) kept speed failed old new before after vs = HasBegunSpan old mid × (failed ≡ true)
    × JudgesDriver speed mid new before after vs
AreWakingEvents (AtCoDriver mid) kept speed failed old new before after vs = HasBegunSpan old mid × (failed ≡ true)
    × JudgesBoth speed mid new before after vs
AreWakingEvents (NoneBefore mid) kept speed failed old new before after vs = HasBegunSpan old mid × (failed ≡ false)
    × (length before.breaks.items ≡ 0) × JudgesBoth speed mid new before after vs
AreWakingEvents (AtGap mid reach) kept speed failed old new before after vs = HasBegunSpan old mid
    × (0 < length before.breaks.items) × JudgesThenGap kept speed failed mid new before after reach vs

-- THEY ARE NOTED, as far as it came
pub record NotesWaking (kept speed : ℕ) (failed : Bool) (old new : Run) (before after : Outcome)
    (d later : Devices) : Type 0 where
  pub reach : WakeReach
  pub events : List UnitEvent
  pub are : AreWakingEvents reach kept speed failed old new before after events
  pub notes : NotesEvents events failed d later

-- the run, once the unit was read: of no break it is unknown any more what was kept
abbrev pub read_run : Run → Outcome → Run
read_run run before = record run { unfound = length before.breaks.items }

-- the outcome then: those cuts tell the minute
abbrev pub read_outcome : (kept : ℕ) → Run → Outcome → Outcome
read_outcome kept run before = record before {
  breaks = record { items = found_from run.unfound kept before.breaks.items; room = before.breaks.room };
}

-- power is back, or was lost at once
abbrev pub EndsWaking : (failed : Bool) → (woken new : Run) → (out after : Outcome) → Type 0
EndsWaking false woken new out after = (new ≡ woken) × (after ≡ out)
EndsWaking true woken new out after = (new ≡ cut_run woken.next woken)
    × (after ≡ record out { breaks = with_lines (cut_at woken.next true 0 ∷ []) out.breaks })

-- A UNIT THAT WAS READ: the run behind it, and what is noted
pub record NotesFound (kept speed : ℕ) (old new : Run) (before after : Outcome) (d later : Devices) : Type 0 where
  pub failed : Bool
  pub woken : Run
  pub out : Outcome
  pub waking : NotesWaking kept speed failed (read_run old before) woken (read_outcome kept old before) out d later
  pub ends : EndsWaking failed woken new out after

-- or the reading failed, and power is lost
pub record NotesUnread (old new : Run) (before after : Outcome) (d later : Devices) : Type 0 where
  pub ends : EndsWaking true old new before after
  pub notes : NotesEvents [] true d later

-- A POWER-ON
abbrev pub NotesPowerOn : (speed : ℕ) → (old new : Run) → (before after : Outcome) → (d later : Devices) → Type 0
NotesPowerOn speed old new before after d later = ((kept : ℕ) × NotesFound kept speed old new before after d later)
    ⊎ NotesUnread old new before after d later

-- ---- a card is put in

-- the faults of the minutes that are settled, and then those of the card
pub record SettlesThenJudges (slot : Slot) (card : Card) (at : Moment) (speed : ℕ) (old new : Run)
    (before after : Outcome) (vs : List UnitEvent) : Type 0 where
  pub between : Run
  pub told : Outcome
  pub faults : List UnitEvent
  pub judged : List UnitEvent
  pub settles : SettlesThese at false old between before told faults
  pub judges : JudgesThese (Some card) slot at speed between new told after judged
  pub are : vs ≡ faults ++ judged

-- A CARD WAS PUT INTO A SLOT: so it is noted; or the unit failed as the minutes before were kept.
pub record NotesInserting (slot : Slot) (card : Card) (at : Moment) (speed : ℕ) (failed : Bool) (old new : Run)
    (before after : Outcome) (d later : Devices) : Type 0 where
  pub events : List UnitEvent
  pub are : ((failed ≡ true) × SettlesThese at true (put_run slot card old) new before after events)
      ⊎ SettlesThenJudges slot card at speed (put_run slot card old) new before after events
  pub notes : NotesEvents events failed d later

-- ---- an action

-- AN ACTION IS CARRIED OUT, and so it is noted: of a selection, of a card that is pulled out and of an entry by hand,
-- nothing.
abbrev pub NotesDone : Action → Moment → (speed : ℕ) → (failed : Bool) → (old new : Run) → (before after : Outcome)
    → (d later : Devices) → Type 0
NotesDone (Select slot pick) at speed failed old new before after d later = NotesEvents [] failed d later
NotesDone (Insert slot card) at speed failed old new before after d later = NotesInserting slot card at speed failed old
    new before after d later
NotesDone (Withdraw slot) at speed failed old new before after d later = NotesWithdrawing
    (card_in (seat_in old.keeper.cabin.slots.seats slot)) slot at failed old new before after d later
NotesDone (Tear slot) at speed failed old new before after d later = NotesEvents [] failed d later
NotesDone (Place slot ending country region) at speed failed old new before after d later = NotesPlace
    (card_in (seat_in old.keeper.cabin.slots.seats slot)) slot at failed old new before.breaks after.breaks d later
NotesDone (Manual slot pick minute) at speed failed old new before after d later = NotesEvents [] failed d later
