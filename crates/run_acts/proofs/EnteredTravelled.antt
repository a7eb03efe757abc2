-- What a card that enters is noted with on the unit leaves its last-kept minute, its odometer and its days alone.
use Rattle.std.proofs.Common.{⊎_elim, inr, ℕ, List, [], ◌∷◌, arith}
use Rattle.card_files.specs.card_layout.Images.{SameOutside}
use Rattle.tach_media.specs.Medium.{State, IsCoherent, LeavesOnly}
use Rattle.run_events.specs.gated_ring.Ring.{size_of}
use Rattle.run_events.specs.message_model.Records.{insertion_ring}
use Rattle.unit_notes.specs.note_model.Tables.{table_of}
use Rattle.device_calls.specs.history_model.Book.{Book}
use Rattle.device_calls.specs.run_unit_course.Legs.{Travel}
use Rattle.unit_minutes.specs.Beside.{SameJournal}
use Rattle.unit_minutes.proofs.Beside.{beside, beside_then}
use Rattle.unit_notes.proofs.Types.{table_inside}
use Rattle.device_calls.specs.unit_rule.Odometer.{HasTravelled}
use Rattle.device_calls.proofs.unit_rule.Elsewhere.{rows-elsewhere, travelled-elsewhere}
use Rattle.run_insertion.specs.Noted.{UnitNote, Inserts, BeginsRow, Tells, IsOnUnit, IsComing, AreBeingDone}

-- a write behind what the journal reads
insertion-behind : (x c : List ℕ) → SameOutside insertion_ring.base (size_of insertion_ring) x c → SameJournal x c
insertion-behind x c outside = beside insertion_ring.base (size_of insertion_ring) x c (inr (inr (omega arith))) outside

table-behind : (kind : ℕ) (x c : List ℕ) → SameOutside (table_of kind).base (size_of (table_of kind)) x c → SameJournal x c
table-behind kind x c outside =
    let low = (table_inside kind).0 in
    beside (table_of kind).base (size_of (table_of kind)) x c (inr (inr (omega (arith, low)))) outside

-- a note, and a moment of one
note-done : (note : UnitNote) (x y : List ℕ) → IsOnUnit note x y → SameJournal x y
note-done (Inserts insertion) x y is = insertion-behind x y is.outside
note-done (BeginsRow number session spared) x y is = rows-elsewhere x y is.beginning.outside
note-done (Tells event) x y is = table-behind event.kind x y is.outside

note-coming : (note : UnitNote) (x c : List ℕ) → IsComing note x c → SameJournal x c
note-coming (Inserts insertion) x c is = insertion-behind x c is.outside
note-coming (BeginsRow number session spared) x c is = rows-elsewhere x c is.outside
note-coming (Tells event) x c is = table-behind event.kind x c is.outside

notes-coming : (notes : List UnitNote) (x c : List ℕ) → AreBeingDone IsOnUnit IsComing notes x c → SameJournal x c
notes-coming [] x c is = absurd is
notes-coming (note ∷ notes) x c is = ⊎_elim
    (λ here. note-coming note x c here)
    (λ later. beside_then x later.0 c (note-done note x later.0 later.1) (notes-coming notes later.0 c later.2))
    is

-- what was travelled is so still
pub travelled-entered : (start : ℕ) (b : Book) (g : Travel) {U V : State} → HasTravelled start b g U → IsCoherent U → (notes : List UnitNote) → LeavesOnly U V (AreBeingDone IsOnUnit IsComing notes) → HasTravelled start b g V
travelled-entered start b g t whole notes run = travelled-elsewhere start b g t whole (AreBeingDone IsOnUnit IsComing notes) run (λ x c is. notes-coming notes x c is)
