-- What calls note on the unit: as events of the code, and as events of a run (Annex IB, section III.12; the moments:
-- profile).
use Rattle.std.specs.Prelude.{◌≡◌, ◌≢◌, ℕ, ◌^◌, ◌<◌, Bool, true, false, List, [], ◌∷◌, ◌++◌, Contains}
use Rattle.trace_model.specs.declared.Card.{Card}
use Rattle.unit_notes.specs.event_model.declared.kinds.TheConstants.{OVER_SPEEDING}
use Rattle.unit_notes.specs.event_model.Events.{Event}
use Rattle.run_events.specs.unit_events.Shown.{all_kinds}
use Rattle.unit_notes.specs.declared.unit_event.UnitEvent.{UnitEvent}
use Rattle.unit_notes.specs.Fields.{IsEventOf}
use Rattle.device_calls.specs.safety_model.Safe.{Devices}
use Rattle.run_events.specs.Shown.{by_kind, none_sure, AreNumbers}
use Rattle.run_minutes.specs.run_promise.Origin.{Origin}
use Rattle.run_note_record.specs.Evented.{number_in, NotesMore}
use Rattle.run_note_record.specs.Noting.{NotesThese}

-- a note of the unit tells this event of a run
pub record NoteTellsEvent (number : Card → List ℕ) (e : Event) (v : UnitEvent) : Type 0 where
  pub is : IsEventOf number e v
  pub there : Contains all_kinds e.kind
  pub other : e.kind ≢ OVER_SPEEDING
  pub begin : e.begin < 2 ^ 32
  pub end : e.end < 2 ^ 32

-- these events of the code are those of a run, one after another
abbrev pub AreTold : (Card → List ℕ) → List UnitEvent → List Event → Type 0
AreTold number [] [] = Unit {0}
AreTold number [] (e ∷ es) = ⊥
AreTold number (v ∷ vs) [] = ⊥
AreTold number (v ∷ vs) (e ∷ es) = NoteTellsEvent number e v × AreTold number vs es

-- THEY PART into those of two calls
pub record IsSplit (number : Card → List ℕ) (vs ws : List UnitEvent) (es : List Event) : Type 0 where
  pub first : List Event
  pub later : List Event
  pub are : es ≡ first ++ later
  pub first_told : AreTold number vs first
  pub later_told : AreTold number ws later

-- these are noted; or the unit has failed, and of none of them it is sure that it was
abbrev pub NotesSo : (failed : Bool) → Origin → List Event → (d e : Devices) → Type 0
NotesSo false o es d e = NotesThese o es d e
NotesSo true o es d e = NotesMore o none_sure (by_kind es) d e

-- WHAT A CALL NOTES, whichever events of a run these are
abbrev pub NotesEvents : List UnitEvent → (failed : Bool) → (d e : Devices) → Type 0
NotesEvents vs failed d e = (o : Origin) → AreNumbers (number_in o) → (es : List Event) → AreTold (number_in o) vs es
    → NotesSo failed o es d e
