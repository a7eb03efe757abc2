-- What the keeping of a minute leaves of the detailed speed.
use Rattle.std.proofs.Common.{◌∙◌, ℕ, List, take, drop, sym, ap, arith}
use Rattle.std.proofs.lemmas.List.{drop-drop}
use Rattle.activity_codec.specs.declared.entries.Entry.{Entry}
use Rattle.tach_media.specs.Medium.{State, IsCoherent, LeavesOnly}
use Rattle.unit_notes.specs.event_model.declared.kinds.TheConstants.{CARD_FAULT}
use Rattle.unit_model.specs.declared.layout.TheConstants.{OWED}
use Rattle.unit_model.specs.Days.{UnitMinute}
use Rattle.unit_minutes.specs.Keeping.{IsKeeping}
use Rattle.unit_minutes.specs.unit_owed.Rows.{IsPutting}
use Rattle.run_crew.specs.declared.cards.Crew.{Crew}
use Rattle.run_events.specs.run_speeds.Speeds.{HasSameSpeeds, LeavesSpeeds}
use Rattle.run_events.proofs.run_speeds.Leaving.{leaves-moments, same-before}
use Rattle.run_events.proofs.NoteSpeeds.{event-speeds}
use Rattle.run_minutes.specs.Keeping.{Fate, Still, Has, Fell, IsNotingFault, fault_of}

-- what a card is owed
pub putting-speeds : (number : List ℕ) (e : Entry) (x c : List ℕ) → IsPutting number e x c → HasSameSpeeds x c
putting-speeds number e x c moment = same-before x c OWED.place OWED.size (omega arith) moment.outside

-- the minute
pub keeping-speeds : (k : UnitMinute) (odometer : ℕ) (x c : List ℕ) → IsKeeping k odometer x c → HasSameSpeeds x c
keeping-speeds k odometer x c moment = ap (take 92164) (sym (drop-drop 278600 2115044 c) ∙ ap (drop 278600) moment.outside.after ∙ drop-drop 278600 2115044 x)

-- the fault of a card that was torn out
fault-speeds : (fate : Fate) (second : ℕ) (crew : Crew) (x c : List ℕ) → IsNotingFault fate second crew x c → HasSameSpeeds x c
fault-speeds Still second crew x c none = absurd none
fault-speeds (Has accepted clock) second crew x c none = absurd none
fault-speeds Fell second crew x c moment = event-speeds CARD_FAULT (fault_of second crew) x c moment

pub fault-leaves : (fate : Fate) (second : ℕ) (crew : Crew) (U V : State) → IsCoherent U → LeavesOnly U V (IsNotingFault fate second crew) → LeavesSpeeds U V
fault-leaves fate second crew U V whole run = leaves-moments U V (IsNotingFault fate second crew) whole run (fault-speeds fate second crew)
