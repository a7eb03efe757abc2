-- What a card that is judged makes of the rings of a run with cards, over devices that tell their images (profile): its
-- insertion is noted where it is accepted, in an action and at a power-on alike.
use Rattle.std.specs.Prelude.{◌≡◌, ◌≢◌, ◌⊎◌, ℕ, suc, ◌≤◌, Bool, true, false, Option, Some, None, option_map, List, []}
use Rattle.std.specs.Prelude.{◌∷◌, ◌++◌, length, filter}
use Rattle.std.specs.List.{AllByRecursion}
use Rattle.activity_codec.specs.declared.values.Slot.{Slot}
use Rattle.trace_model.specs.declared.Card.{Card}
use Rattle.trace_model.specs.Trace.{TraceSecond}
use Rattle.minute_rules.specs.minute_model.Span.{travelled_of}
use Rattle.run_acts.specs.message_model.Records.{insertion_ring}
use Rattle.log_model.specs.declared.lines.Verdict.{Verdict}
use Rattle.log_model.specs.declared.lines.Break.{Break}
use Rattle.log_model.specs.declared.lines.Find.{Find}
use Rattle.log_model.specs.Causes.{second_of}
use Rattle.log_model.specs.Log.{RunLog, In, cut_in, found_in, is_accepting}
use Rattle.log_model.specs.Slots.{same_card, other_slot}
use Rattle.log_model.specs.Course.{Visit}
use Rattle.device_calls.specs.note_model.Odometer.{SpanFrom, odometer_at}
use Rattle.device_calls.specs.note_model.Noted.{Acceptance}
use Rattle.device_calls.specs.safety_model.Safe.{Devices}
use Rattle.run_acts.specs.run_rings.Notes.{TellSameTo}
use Rattle.run_outcome.specs.declared.outcome.Outcome.{Outcome}
use Rattle.run_minutes.specs.run_promise.Origin.{Origin}
use Rattle.run_minutes.specs.run_promise.Beside.{HaveLeftMore}
use Rattle.run_acts.specs.run_note_record.Ringed.{Seating, one_behind, StaysInRings, WritesRing, IsInsertionIn}
use Rattle.run_acts.specs.run_note_record.Ringed.{IsAddedAt}
use Rattle.run_acts.specs.run_note_record.Ringed.{MayBeAdded, Since, since_in}
use Rattle.run_acts.specs.run_note_record.OnCards.{has_call_failed_in, IsReading, CardsGo}
use Rattle.run_acts.specs.run_note_record.Sessions.{Opens}
use Rattle.run_acts.specs.run_note_record.RingsSoFar.{AreFewer}
use Rattle.run_minutes.specs.declared.keeper.Moment.{Moment}
use Rattle.run_minutes.specs.Minutes.{odometer_by}
use Rattle.run_minutes.specs.Books.{HaveTime}
use Rattle.run_acts.specs.declared.run.Run.{Run}
use Rattle.run_acts.specs.Recording.{log_of}
use Rattle.run_acts.specs.RunRinged.{seats_of}
use Rattle.recorder_with_cards.specs.Judged.{moment_in, RunNext}

-- ITS INSERTION, in bytes: so it is told, whatever lines come since
pub record IsInsertionNow (o : Since) (a : Acceptance) (spans : List SpanFrom) (e : Devices) (head : List ℕ) : Type
    0 where
  pub long : length head ≡ insertion_ring.width
  pub is : (log : RunLog) → IsInsertionIn o log spans e (record { accepted = a; withdrawn = None }) head

-- where the insertions stand with one more, of this card at this index
abbrev pub AreSeatedWith : Card → (index : ℕ) → (seats now : Card → Option Seating) → Type 0
AreSeatedWith card index seats now = (c : Card)
    → ((same_card card c ≡ false) × (now c ≡ option_map one_behind (seats c)))
    ⊎ ((same_card card c ≡ true) × (now c ≡ Some (record { index = index; behind = 0 })))

-- WHICH SESSION A CARD MAY TELL that is judged, and no other card: one of this second, where it is accepted; none,
-- where the unit failed; and either, where a call failed in it. Of its vehicle entries it is the second of a reading
abbrev pub JudgesIn : (failed : Bool) → RunLog → Acceptance → (verdicts : List Verdict) → Card → ℕ → Type 0
JudgesIn failed log a verdicts c t = (same_card a.card c ≡ true)
    × (((filter is_accepting verdicts ≢ []) × (t ≡ a.second))
    ⊎ (((failed ≡ true) × (t ≡ 0)) ⊎ (((t ≡ 0) ⊎ (t ≡ a.second)) × (has_call_failed_in log a.second ≡ true))))

-- NOTHING WAS FOUND, or it is turned away, and no ring is written;
pub record PassesInRings (verdicts : List Verdict) (seats fewer : Card → Option Seating) (d e : Devices) : Type 0 where
  pub none : filter is_accepting verdicts ≡ []
  pub stays : StaysInRings d e
  pub fewer_sit : AreFewer seats fewer

-- or it is accepted, and its insertion is added at an index;
pub record InsertsInRings (o : Since) (a : Acceptance) (verdicts : List Verdict) (spans : List SpanFrom)
    (seats fewer : Card → Option Seating) (d e : Devices) : Type 0 where
  pub verdict : Verdict
  pub found : verdicts ≡ verdict ∷ []
  pub accepting : is_accepting verdict ≡ true
  pub head : List ℕ
  pub index : ℕ
  pub inserts : IsInsertionNow o a spans e head
  pub writes : WritesRing (IsAddedAt index head) d e
  pub now : Card → Option Seating
  pub seated : AreSeatedWith a.card index seats now
  pub fewer_sit : AreFewer now fewer

-- or the unit failed in that, and it may be added.
pub record MayInsertInRings (o : Since) (a : Acceptance) (verdicts : List Verdict) (spans : List SpanFrom)
    (d e : Devices) : Type 0 where
  pub verdict : Verdict
  pub found : verdicts ≡ verdict ∷ []
  pub accepting : is_accepting verdict ≡ true
  pub head : List ℕ
  pub inserts : IsInsertionNow o a spans e head
  pub writes : WritesRing (MayBeAdded insertion_ring head) d e

-- one of these, by whether the unit failed
abbrev pub JudgedInRings : (failed : Bool) → Since → Acceptance → List Verdict → List SpanFrom
    → (seats fewer : Card → Option Seating) → (d e : Devices) → Type 0
JudgedInRings false o a verdicts spans seats fewer d e = PassesInRings verdicts seats fewer d e
    ⊎ InsertsInRings o a verdicts spans seats fewer d e
JudgedInRings true o a verdicts spans seats fewer d e = ((filter is_accepting verdicts ≡ []) × StaysInRings d e)
    ⊎ MayInsertInRings o a verdicts spans d e

-- LINES OF A SECOND are told, and no others
pub record TellsHere (log later : RunLog) (u : ℕ) : Type 0 where
  pub breaks : (more : List Break) × (later.breaks ≡ log.breaks ++ more)
      × AllByRecursion (λ (b : Break). second_of b ≡ u) more
  pub finds : (more : List Find) × (later.finds ≡ log.finds ++ more) × AllByRecursion (λ (f : Find). f.second ≡ u) more

-- A CARD WAS JUDGED in a second, behind so many of its actions: so its rings are written; its lines are of that second,
-- and tell nothing of earlier moments, nor of a cut, nor of a find in the other slot; and no more insertions were noted
-- than finds are told.
pub record IsJudgedInRings (failed : Bool) (o : Since) (s : TraceSecond) (n : ℕ) (slot : Slot) (card : Card)
    (spans : List SpanFrom) (old new : Run) (before after : Outcome) (d e : Devices) : Type 0 where
  pub rings : JudgedInRings failed o (record { second = s.number; slot = slot; card = card })
      (found_in (log_of after) s.number (In n) slot) spans (seats_of old) (seats_of new) d e
  pub others : found_in (log_of after) s.number (In n) (other_slot slot)
      ≡ found_in (log_of before) s.number (In n) (other_slot slot)
  pub here : TellsHere (log_of before) (log_of after) s.number
  pub cut : cut_in (log_of after) s.number ≡ cut_in (log_of before) s.number
  pub same : (m : ℕ) → n ≡ suc m → TellSameTo (log_of before) (log_of after) s.number m
  pub left : HaveLeftMore o.origin d e
  pub places : CardsGo o.origin spans (JudgesIn failed (log_of after) (record {
    second = s.number;
    slot = slot;
    card = card;
  }) (found_in (log_of after) s.number (In n) slot)) d e
  pub opens : failed ≡ false → (v : Verdict) → found_in (log_of after) s.number (In n) slot ≡ v ∷ []
      → is_accepting v ≡ true → Opens o.origin (log_of after) (record { second = s.number; slot = slot; card = card }) e
  pub odometer : new.keeper.odometer ≡ old.keeper.odometer
  pub counted : new.noted ≤ length (log_of after).finds

-- THE ODOMETER OF A SECOND, before that is fed: that of these spans, and it stood so in one of them
pub record IsOdometerOf (spans : List SpanFrom) (second odometer : ℕ) : Type 0 where
  pub at : odometer ≡ odometer_at second spans
  pub reads : IsReading spans second odometer

-- ACCEPT, where the odometer of its insertion is that of these spans
abbrev pub RingsEntering : Slot → Card → Moment → (odometer : ℕ) → (failed : Bool) → (old new : Run)
    → (before after : Outcome) → (d e : Devices) → Type 0
RingsEntering slot card at odometer failed old new before after d e = (o : Origin) (done : List TraceSecond)
    (s : TraceSecond) (n : ℕ) (waits fewer : List Visit) → at ≡ moment_in s n →
    (next : RunNext o done s n waits fewer old before d slot card) → (spans : List SpanFrom)
    → IsOdometerOf spans s.number odometer → old.noted ≤ length (log_of before).finds → HaveTime e →
    IsJudgedInRings failed (since_in o next.goes.within.b.run.log done s) s n slot card spans old new before after d e

-- A CARD IS JUDGED that is the next, where the odometer of now is that of these spans.
abbrev pub RingsJudged : Slot → Card → Moment → (failed : Bool) → (old new : Run) → (before after : Outcome)
    → (d e : Devices) → Type 0
RingsJudged slot card at failed old new before after d e = (o : Origin) (done : List TraceSecond) (s : TraceSecond)
    (n : ℕ) (waits fewer : List Visit) → at ≡ moment_in s n →
    (next : RunNext o done s n waits fewer old before d slot card) → (spans : List SpanFrom)
    → IsOdometerOf spans s.number (odometer_by old.keeper.odometer (travelled_of next.goes.within.sp))
    → old.noted ≤ length (log_of before).finds → HaveTime e →
    IsJudgedInRings failed (since_in o next.goes.within.b.run.log done s) s n slot card spans old new before after d e

-- the card of a slot, if there is one
abbrev pub RingsJudgedAnew : Option Card → Slot → Moment → (failed : Bool) → (old new : Run) → (before after : Outcome)
    → (d e : Devices) → Type 0
RingsJudgedAnew None slot at failed old new before after d e = Unit {0}
RingsJudgedAnew (Some card) slot at failed old new before after d e = RingsJudged slot card at failed old new before
    after d e
