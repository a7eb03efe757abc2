-- What the judging of a card brings it of events, as calls of a run say it (profile).
use Rattle.std.specs.Prelude.{◌≡◌, ◌⊎◌, ℕ, suc, ◌==◌, ◌&&◌, Bool, true, false, Option, Some, None, List, ◌++◌, nat_lt}
use Rattle.std.specs.Prelude.{if◌then◌else◌}
use Rattle.activity_codec.specs.declared.values.Slot.{Slot}
use Rattle.trace_model.specs.declared.Card.{Card}
use Rattle.trace_model.specs.Trace.{TraceSecond}
use Rattle.device_calls.specs.card_image.Own.{IsOwnValid}
use Rattle.device_calls.specs.card_files.declared.current_use.CurrentUse.{CurrentUse}
use Rattle.device_calls.specs.event_model.declared.kinds.TheConstants.{INSERTION_WHILE_DRIVING, SESSION_NOT_CLOSED}
use Rattle.log_model.specs.declared.lines.Verdict.{Verdict}
use Rattle.log_model.specs.Log.{RunLog, In, cut_in, is_torn_in, found_in}
use Rattle.log_model.specs.Slots.{same_card, other_slot}
use Rattle.log_model.specs.Course.{Visit}
use Rattle.device_calls.specs.safety_model.Recording.{card_image}
use Rattle.device_calls.specs.safety_model.Safe.{Devices, card_of}
use Rattle.run_minutes.specs.run_promise.Origin.{Origin}
use Rattle.run_minutes.specs.run_promise.Beside.{HaveLeftMore}
use Rattle.run_minutes.specs.run_devices.Measured.{MakesOn}
use Rattle.run_minutes.specs.declared.keeper.Moment.{Moment}
use Rattle.run_minutes.specs.Books.{HaveTime}
use Rattle.run_outcome.specs.declared.outcome.Outcome.{Outcome}
use Rattle.run_acts.specs.run_note_record.Evented.{images_in}
use Rattle.run_acts.specs.run_note_record.Uses.{notes_now, uses_in}
use Rattle.run_acts.specs.run_rings.Notes.{TellSameTo}
use Rattle.run_acts.specs.declared.run.Run.{Run}
use Rattle.run_acts.specs.Recording.{log_of}
use Rattle.run_acts.specs.OnCards.{accepts, judging, ComesTo, StillShows, AreUses}
use Rattle.run_acts.specs.RunCards.{vehicle_in, sizes_in}
use Rattle.run_acts.specs.Stays.{Whose, covers, AreKnown}
use Rattle.recorder_with_cards.specs.Judged.{moment_in, RunNext}
use Rattle.recorder_with_cards.specs.JudgedRings.{TellsHere}

-- a type of which an insertion at this speed notes no event
abbrev pub NotesNone : (kind speed : ℕ) → Type 0
NotesNone kind speed = ((kind == SESSION_NOT_CLOSED) ≡ false)
    × ((kind == INSERTION_WHILE_DRIVING && nat_lt 0 speed) ≡ false)

-- where no call on the unit nor on the card failed it is sure what comes of its judging, and else of such types
abbrev pub IsSureHere : (failed torn : Bool) → (kind speed : ℕ) → Type 0
IsSureHere failed torn kind speed = ((failed ≡ false) × (torn ≡ false)) ⊎ NotesNone kind speed

-- a card that is torn out as it is judged is so once
abbrev pub once_torn : Bool → ℕ
once_torn torn = if torn then 1 else 0

-- A CARD OF WHICH THIS WAS FOUND in a second: at its acceptance an image of it told a use, which where its stays are
-- known by this log is one more of these; and each image shows what comes of it on the events of one before, which is
-- sure of no more types than those.
pub record BringsNow (o : Origin) (c : Card) (second speed : ℕ) (failed torn : Bool) (verdicts : List Verdict)
    (log : RunLog) (was found : List CurrentUse) (d e : Devices) : Type 0 where
  pub uses : List CurrentUse
  pub exact : (whose : Whose) → covers whose c ≡ true → AreKnown whose o log e → found ≡ was ++ uses
  pub are : AreUses (images_in o e c) uses (accepts second verdicts)
  pub notes : (sure : ℕ → Bool) → ((kind : ℕ) → sure kind ≡ true → IsSureHere failed torn kind speed)
      → ComesTo (images_in o e c) (sizes_in o c) sure
      (judging c (vehicle_in o) second speed (once_torn torn) (accepts second verdicts) uses) (card_of d c)
      (card_of e c)

-- the uses that were found on a card by a log of this second, which began by another
abbrev pub uses_then : Origin → (began : RunLog) → List TraceSecond → TraceSecond → Card → Outcome → List CurrentUse
uses_then o began done s c out = uses_in o c (notes_now began done (log_of out) s)

-- A CARD WAS JUDGED in a second, behind so many of its actions: what it brings this card, and none other; its lines are
-- of that second, and tell nothing of earlier moments, nor of a cut, nor of a find in the other slot; and the stays
-- that are known behind it were known before.
pub record IsJudgedOnCards (failed : Bool) (o : Origin) (began : RunLog) (done : List TraceSecond) (s : TraceSecond)
    (n : ℕ) (slot : Slot) (card : Card) (before after : Outcome) (d e : Devices) : Type 0 where
  pub own : (c : Card) → IsOwnValid (card_image o.recording c) → same_card card c ≡ true →
      BringsNow o c s.number s.speed failed (is_torn_in (log_of after) s.number (In n) slot)
      (found_in (log_of after) s.number (In n) slot) (log_of after) (uses_then o began done s c before)
      (uses_then o began done s c after) d e
  pub beside : (c : Card) → IsOwnValid (card_image o.recording c) → same_card card c ≡ false
      → StillShows (sizes_in o c) (card_of d c) (card_of e c)
  pub others : found_in (log_of after) s.number (In n) (other_slot slot)
      ≡ found_in (log_of before) s.number (In n) (other_slot slot)
  pub still : (c : Card) → same_card card c ≡ false
      → uses_then o began done s c after ≡ uses_then o began done s c before
  pub known : (whose : Whose) → AreKnown whose o (log_of after) e → AreKnown whose o (log_of before) d
  pub here : TellsHere (log_of before) (log_of after) s.number
  pub cut : cut_in (log_of after) s.number ≡ cut_in (log_of before) s.number
  pub same : (m : ℕ) → n ≡ suc m → TellSameTo (log_of before) (log_of after) s.number m
  pub left : HaveLeftMore o d e
  pub made : (c : Card) → IsOwnValid (card_image o.recording c) → MakesOn (sizes_in o c) (card_of d c) (card_of e c)

-- A CARD IS JUDGED that is the next.
abbrev pub CardsJudged : Slot → Card → Moment → (speed : ℕ) → (failed : Bool) → (old : Run) → (before after : Outcome)
    → (d e : Devices) → Type 0
CardsJudged slot card at speed failed old before after d e = (o : Origin) (done : List TraceSecond) (s : TraceSecond)
    (n : ℕ) (waits fewer : List Visit) → at ≡ moment_in s n → s.speed ≡ speed →
    (next : RunNext o done s n waits fewer old before d slot card) → old.keeper.memory.registration ≡ vehicle_in o
    → HaveTime e → IsJudgedOnCards failed o next.goes.within.b.run.log done s n slot card before after d e

-- the card of a slot, if there is one
abbrev pub CardsAnew : Option Card → Slot → Moment → (speed : ℕ) → (failed : Bool) → (old : Run)
    → (before after : Outcome) → (d e : Devices) → Type 0
CardsAnew None slot at speed failed old before after d e = Unit {0}
CardsAnew (Some card) slot at speed failed old before after d e = CardsJudged slot card at speed failed old before after
    d e
