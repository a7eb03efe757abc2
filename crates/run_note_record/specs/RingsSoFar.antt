-- What is carried of the rings WITHIN A SECOND (profile): the notes of the seconds before it, and its own up to some of
-- its actions.
use Rattle.std.specs.Prelude.{◌≡◌, ◌⊎◌, ℕ, suc, ◌<◌, true, false, not, Option, Some, None, List, [], ◌∷◌, ◌++◌}
use Rattle.std.specs.Prelude.{All, map, length}
use Rattle.std.specs.List.{AllByRecursion}
use Rattle.run_devices.specs.trace_model.declared.Action.{Action}
use Rattle.run_devices.specs.trace_model.declared.Card.{Card}
use Rattle.run_devices.specs.trace_model.Trace.{TraceSecond}
use Rattle.run_devices.specs.log_model.declared.lines.Break.{Break}
use Rattle.run_devices.specs.log_model.Log.{RunLog, cut_in}
use Rattle.run_devices.specs.log_model.Course.{ToldSecond, Before, has_power, went, second_told}
use Rattle.run_devices.specs.log_model.Same.{SameAt}
use Rattle.run_devices.specs.log_model.Spans.{spans_of}
use Rattle.run_devices.specs.note_model.Odometer.{SpanFrom}
use Rattle.run_devices.specs.note_model.Noted.{Note, Accepts, Withdraws, Enters}
use Rattle.run_devices.specs.safety_model.Safe.{Devices}
use Rattle.run_events.specs.run_rings.Notes.{notes_to, TellSameTo, NotesMore}
use Rattle.run_events.specs.run_rings.Spans.{with_second, AreAllBefore}
use Rattle.run_note_record.specs.Origin.{Origin}
use Rattle.run_note_record.specs.Beside.{HaveLeftMore}
use Rattle.run_note_record.specs.OnCards.{CardsStay}
use Rattle.run_note_record.specs.Ringed.{Seating, Ringed, StaysInRings, notes_in, since_behind, since_at}

-- the second in which a note was made
abbrev pub noted_at : Note → ℕ
noted_at (Accepts a) = a.second
noted_at (Withdraws w) = w.second
noted_at (Enters p) = p.second

-- these notes were made before a second
abbrev pub AreEarlier : ℕ → List Note → Type 0
AreEarlier u notes = AllByRecursion (λ (n : Note). noted_at n < u) notes

-- BETWEEN TWO SECONDS, behind these: what they note is carried, with their power spans; all of that came before the
-- next second.
pub record RingedBehind (o : Origin) (done : List TraceSecond) (log : RunLog) (next : ℕ) (spans : List SpanFrom)
    (seats : Card → Option Seating) (d : Devices) : Type 0 where
  pub spans_are : map (λ (s : SpanFrom). s.span) spans ≡ spans_of (went log done).told
  pub before : AreAllBefore next spans
  pub early : AreEarlier next (notes_in log done)
  pub ringed : Ringed (since_behind o log done) log spans (notes_in log done) seats d

-- a second with power, as its spans have it: by its number and speed, and whether power began with it
pub record IsSecond (s : TraceSecond) (before : Before) (t : ToldSecond) : Type 0 where
  pub number : t.second.number ≡ s.number
  pub speed : t.second.speed ≡ s.speed
  pub lit : t.lit ≡ true
  pub starts : t.starts ≡ not before.running

-- the notes of the seconds before it, and its own so far, where the log was this as it began
abbrev pub notes_so_far : (began : RunLog) → List TraceSecond → (log : RunLog) → TraceSecond → (front : List Action)
    → List Note
notes_so_far began done log s front = notes_in began done ++ notes_to log (went began done).before s front

-- WITHIN A SECOND, behind these of its actions
pub record RingedIn (o : Origin) (done : List TraceSecond) (s : TraceSecond) (began : RunLog) (front : List Action)
    (log : RunLog) (spans : List SpanFrom) (base : ℕ) (t : ToldSecond) (seats : Card → Option Seating)
    (d : Devices) : Type 0 where
  pub spans_are : map (λ (s : SpanFrom). s.span) spans ≡ spans_of (went began done).told
  pub before : AreAllBefore s.number spans
  pub early : AreEarlier s.number (notes_in began done)
  pub second : IsSecond s (went began done).before t
  pub ringed : Ringed (since_at o began done log s front) log (with_second spans base t)
      (notes_so_far began done log s front) seats d

-- fewer cards are accepted, or the same
abbrev pub AreFewer : (seats fewer : Card → Option Seating) → Type 0
AreFewer seats fewer = (c : Card) → (fewer c ≡ seats c) ⊎ (fewer c ≡ None)

-- more lines are told, breaks among them
abbrev pub HasMoreBreaks : (log later : RunLog) → Type 0
HasMoreBreaks log later = (more : List Break) × (later.breaks ≡ log.breaks ++ more)

-- A SECOND BEGINS in which power goes on: nothing is noted yet.
abbrev pub ASecondBeginsInRings : Devices → Type 0
ASecondBeginsInRings d = (o : Origin) (done : List TraceSecond) (s : TraceSecond) (log : RunLog) (spans : List SpanFrom)
    (base : ℕ) (t : ToldSecond) (seats : Card → Option Seating) →
    RingedBehind o done log s.number spans seats d → (went log done).before.running ≡ true
    → IsSecond s (went log done).before t →
    RingedIn o done s log [] log spans base t seats d

-- CALLS THAT WRITE NO RING, and lines of later moments, leave it so;
abbrev pub RingsGoOn : (d e : Devices) → Type 0
RingsGoOn d e = (o : Origin) (done : List TraceSecond) (s : TraceSecond) (began : RunLog) (front : List Action)
    (log later : RunLog) (spans : List SpanFrom) (base : ℕ) (t : ToldSecond) (seats fewer : Card → Option Seating) →
    RingedIn o done s began front log spans base t seats d → HasMoreBreaks log later
    → TellSameTo log later s.number (length front) → StaysInRings d e → HaveLeftMore o d e
    → CardsStay o (with_second spans base t) d e → AreFewer seats fewer →
    RingedIn o done s began front later spans base t fewer e

-- and so does an action more that notes nothing.
abbrev pub AnActionNotesNothing : Devices → Type 0
AnActionNotesNothing d = (o : Origin) (done : List TraceSecond) (s : TraceSecond) (began : RunLog) (front : List Action)
    (a : Action) (log : RunLog) (spans : List SpanFrom) (base : ℕ) (t : ToldSecond) (seats : Card → Option Seating) →
    RingedIn o done s began front log spans base t seats d → NotesMore log (went began done).before s front a []
    → RingedIn o done s began (front ++ a ∷ []) log spans base t seats d

-- AN ACTION MORE that notes this, which is carried behind the notes so far, with what it moves
abbrev pub AnActionIsNoted : (d e : Devices) → Type 0
AnActionIsNoted d e = (o : Origin) (done : List TraceSecond) (s : TraceSecond) (began : RunLog) (front : List Action)
    (a : Action) (log : RunLog) (spans : List SpanFrom) (base : ℕ) (t : ToldSecond) (seats now : Card → Option Seating)
    (n : Note) →
    RingedIn o done s began front log spans base t seats d → NotesMore log (went began done).before s front a (n ∷ [])
    → Ringed (since_at o began done log s (front ++ a ∷ [])) log (with_second spans base t)
    (notes_so_far began done log s front ++ n ∷ []) now e →
    RingedIn o done s began (front ++ a ∷ []) log spans base t now e

-- later lines are of this second, so those before went as they did
pub record GoesBehind (began later : RunLog) (done : List TraceSecond) : Type 0 where
  pub same : All (λ (x : TraceSecond). SameAt began later x.number) done
  pub went_is : went later done ≡ went began done

-- THE SECOND ENDS behind all of its actions, and so do its notes;
abbrev pub TheSecondEndsInRings : Devices → Type 0
TheSecondEndsInRings d = (o : Origin) (done : List TraceSecond) (s : TraceSecond) (began later : RunLog)
    (spans : List SpanFrom) (base : ℕ) (t : ToldSecond) (seats : Card → Option Seating) →
    RingedIn o done s began s.actions later spans base t seats d → GoesBehind began later done
    → has_power (went began done).before s ≡ true →
    RingedBehind o (done ++ s ∷ []) later (suc s.number)
    (with_second spans base (second_told later (went later done).before s)) seats d

-- or at a cut, behind these of its actions.
abbrev pub ACutEndsInRings : Devices → Type 0
ACutEndsInRings d = (o : Origin) (done : List TraceSecond) (s : TraceSecond) (began cut : RunLog)
    (front rest : List Action) (spans : List SpanFrom) (base : ℕ) (t : ToldSecond) (seats fewer : Card → Option Seating)
    →
    RingedIn o done s began front cut spans base t seats d → GoesBehind began cut done
    → has_power (went began done).before s ≡ true → s.actions ≡ front ++ rest
    → cut_in cut s.number ≡ Some (length front) → AreFewer seats fewer →
    RingedBehind o (done ++ s ∷ []) cut (suc s.number)
    (with_second spans base (second_told cut (went cut done).before s)) fewer d

-- SECONDS WITHOUT POWER note nothing.
abbrev pub DarkSecondsNoteNothing : Devices → Type 0
DarkSecondsNoteNothing d = (o : Origin) (done : List TraceSecond) (s : TraceSecond) (log later : RunLog)
    (spans : List SpanFrom) (base : ℕ) (seats fewer : Card → Option Seating) →
    RingedBehind o done log s.number spans seats d → GoesBehind log later done → HasMoreBreaks log later
    → has_power (went log done).before s ≡ false → AreFewer seats fewer →
    RingedBehind o (done ++ s ∷ []) later (suc s.number) spans fewer d
