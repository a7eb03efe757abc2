-- What a card that enters, the reading of the unit and its mending leave of the detailed speed.
use Rattle.std.proofs.Common.{◌∙◌, inl, inr, ℕ, Bool, List, [], ◌∷◌, take, drop, sym, ap, arith}
use Rattle.std.proofs.lemmas.List.{drop-drop}
use Rattle.tach_media.specs.Medium.{State, IsCoherent, LeavesOnly, Unchanged}
use Rattle.run_acts.specs.unit_notes.Entries.{fault_bytes}
use Rattle.unit_minutes.specs.Mends.{IsMending}
use Rattle.unit_minutes.specs.declared.notes.Notes.{Notes}
use Rattle.run_acts.specs.run_speeds.Speeds.{HasSameSpeeds, LeavesSpeeds}
use Rattle.run_acts.proofs.run_speeds.Leaving.{leaves-moments, same-before}
use Rattle.run_acts.proofs.run_events.NoteSpeeds.{speeds-then, event-speeds, noted-speeds}
use Rattle.run_insertion.specs.Noted.{AreBeingDone, HasNoted, UnitNote, Inserts, BeginsRow, Tells, IsOnUnit, IsComing}

-- ---- the notes of a card that enters

note-done : (n : UnitNote) (x y : List ℕ) → IsOnUnit n x y → HasSameSpeeds x y
note-done (Inserts insertion) x y done = same-before x y 2115044 264196 (omega arith) done.outside
note-done (BeginsRow number session spared) x y done = same-before x y 624 384 (omega arith) done.beginning.outside
note-done (Tells event) x y done = noted-speeds event.kind (fault_bytes event) x y done

note-moment : (n : UnitNote) (x c : List ℕ) → IsComing n x c → HasSameSpeeds x c
note-moment (Inserts insertion) x c moment = same-before x c 2115044 264196 (omega arith) moment.outside
note-moment (BeginsRow number session spared) x c moment = same-before x c 624 384 (omega arith) moment.outside
note-moment (Tells event) x c moment = event-speeds event.kind (fault_bytes event) x c moment

notes-moment : (notes : List UnitNote) (x c : List ℕ) → AreBeingDone IsOnUnit IsComing notes x c → HasSameSpeeds x c
notes-moment [] x c never = absurd never
notes-moment (n ∷ notes) x c (inl moment) = note-moment n x c moment
notes-moment (n ∷ notes) x c (inr (z, done, rest)) = speeds-then x z c (note-done n x z done) (notes-moment notes z c rest)

pub entered-leaves : (notes : List UnitNote) (failed : Bool) (U V : State) → IsCoherent U → HasNoted IsOnUnit IsComing notes failed U V → LeavesSpeeds U V
entered-leaves notes failed U V whole noted = leaves-moments U V (AreBeingDone IsOnUnit IsComing notes) whole noted.moments (notes-moment notes)

-- ---- the unit is read, and mended

pub reading-leaves : (U V : State) → IsCoherent U → LeavesOnly U V Unchanged → LeavesSpeeds U V
reading-leaves U V whole leaves_ = leaves-moments U V Unchanged whole leaves_ (λ x c never. absurd never)

mending-speeds : (j : Notes) (x c : List ℕ) → IsMending j x c → HasSameSpeeds x c
mending-speeds j x c m = ap (take 92164) (sym (drop-drop 278600 2115044 c) ∙ ap (drop 278600) m.outside.after ∙ drop-drop 278600 2115044 x)

pub mending-leaves : (j : Notes) (U W : State) → IsCoherent U → LeavesOnly U W (IsMending j) → LeavesSpeeds U W
mending-leaves j U W whole moments = leaves-moments U W (IsMending j) whole moments (mending-speeds j)
