-- Which events are among the notes of the unit of a card that enters (Annex IB, section III.12).
use Rattle.std.specs.Prelude.{List, [], ◌∷◌}
use Rattle.run_acts.specs.unit_notes.declared.unit_event.UnitEvent.{UnitEvent}
use Rattle.run_insertion.specs.Noted.{UnitNote, Inserts, BeginsRow, Tells}

-- the events among the notes of a card that enters
abbrev pub events_in : List UnitNote → List UnitEvent
events_in [] = []
events_in (Inserts insertion ∷ notes) = events_in notes
events_in (BeginsRow number session spared ∷ notes) = events_in notes
events_in (Tells v ∷ notes) = v ∷ events_in notes
