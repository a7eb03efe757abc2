-- When and where a card sat in the vehicle by what a run notes, and whether it was withdrawn in order (profile); and
-- the notes so far.
use Rattle.std.specs.Prelude.{ℕ, Option, Some, None, List, [], ◌∷◌, map, filter}
use Rattle.activity_codec.specs.declared.values.Slot.{Slot}
use Rattle.trace_model.specs.declared.Card.{Card}
use Rattle.trace_model.specs.Trace.{TraceSecond}
use Rattle.log_model.specs.Log.{RunLog, Phase}
use Rattle.log_model.specs.Slots.{same_card}
use Rattle.unit_notes.specs.note_model.Noted.{InsertionNote, Note, insertions_of}
use Rattle.run_note_record.specs.RingsSoFar.{notes_so_far}
use Rattle.run_record.specs.Within.{Beginning}
pub use Rattle.run_record.specs.Handed.{actions_to}

-- A SPELL of a card in the vehicle: the second and the slot of its acceptance, and the second of its withdrawal, if it
-- was withdrawn in order
pub record Spell : Type 0 where
  pub second : ℕ
  pub slot : Slot
  pub withdrawn : Option ℕ

-- the spell that the note of an insertion tells
abbrev pub spell_of : InsertionNote → Spell
spell_of i = record { second = i.accepted.second; slot = i.accepted.slot; withdrawn = i.withdrawn }

-- those of a card among these insertions, in order
abbrev pub spells_in : Card → List InsertionNote → List Spell
spells_in c is = map spell_of (filter (λ (i : InsertionNote). same_card c i.accepted.card) is)

-- as these notes have them
abbrev pub spells_of : Card → List Note → List Spell
spells_of c notes = spells_in c (insertions_of notes)

-- the last one of some is withdrawn in this second
abbrev pub last_shut : (second : ℕ) → Spell → List Spell → List Spell
last_shut u s [] = record s { withdrawn = Some u } ∷ []
last_shut u s (t ∷ ss) = s ∷ last_shut u t ss

-- the same of any spells: of none, none
abbrev pub with_last_shut : (second : ℕ) → List Spell → List Spell
with_last_shut u [] = []
with_last_shut u (s ∷ ss) = last_shut u s ss

-- the slot of the last of some
abbrev pub last_slot : List Spell → Option Slot
last_slot [] = None
last_slot (s ∷ []) = Some s.slot
last_slot (s ∷ t ∷ ss) = last_slot (t ∷ ss)

-- THE NOTES OF A RUN SO FAR, within a second that began so
abbrev pub notes_within : Beginning → List TraceSecond → TraceSecond → Phase → RunLog → List Note
notes_within b done s at log = notes_so_far b.run.log done log s (actions_to at s.actions)
