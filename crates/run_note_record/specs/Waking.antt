-- WHAT A POWER-ON MAKES OF THE RINGS (profile): the cards in the slots are accepted anew, that of the driver first.
use Rattle.std.specs.Prelude.{◌≡◌, ◌⊎◌, ℕ, suc, true, false, Option, Some, None, option_map, List, [], ◌∷◌, ◌++◌}
use Rattle.std.specs.Prelude.{length, filter}
use Rattle.run_events.specs.activity_codec.declared.values.Slot.{Slot}
use Rattle.run_events.specs.activity_codec.declared.values.Slot.TheVariants.{Driver, CoDriver}
use Rattle.run_devices.specs.trace_model.declared.Card.{Card}
use Rattle.run_devices.specs.trace_model.Trace.{TraceSecond}
use Rattle.run_events.specs.message_model.Records.{insertion_ring}
use Rattle.run_devices.specs.log_model.declared.lines.Verdict.{Verdict}
use Rattle.run_devices.specs.log_model.Log.{RunLog, In, cut_in, found_in, is_accepting}
use Rattle.run_devices.specs.log_model.Slots.{Sitting, same_card, in_slot}
use Rattle.run_devices.specs.log_model.Course.{ToldSecond, has_power, went}
use Rattle.run_devices.specs.note_model.Done.{has_failed_in}
use Rattle.run_devices.specs.note_model.Odometer.{SpanFrom}
use Rattle.run_devices.specs.safety_model.Safe.{Devices}
use Rattle.run_events.specs.run_rings.Spans.{with_second}
use Rattle.run_note_record.specs.Origin.{Origin}
use Rattle.run_note_record.specs.Beside.{HaveLeftMore}
use Rattle.run_note_record.specs.OnCards.{CardsGo}
use Rattle.run_note_record.specs.Sessions.{OpensIn, Opens}
use Rattle.run_note_record.specs.Ringed.{Seating, one_behind, StaysInRings, WritesRing, IsInsertionIn, IsAddedAt}
use Rattle.run_note_record.specs.Ringed.{MayBeAdded, since_in}
use Rattle.run_note_record.specs.RingsSoFar.{RingedBehind, IsSecond, RingedIn, AreFewer, HasMoreBreaks, GoesBehind}
use Rattle.run_note_record.specs.Steps.{FailsBy, spans_cut, nobody}

-- no card was looked at yet in this second
abbrev pub NoneFound : RunLog → (second : ℕ) → Type 0
NoneFound log u = (slot : Slot) → found_in log u (In 0) slot ≡ []

-- POWER BEGINS in a second: nothing is noted yet.
abbrev pub PowerBeginsInRings : Devices → Type 0
PowerBeginsInRings d = (o : Origin) (done : List TraceSecond) (s : TraceSecond) (began : RunLog) (spans : List SpanFrom)
    (base : ℕ) (t : ToldSecond) (seats fewer : Card → Option Seating) →
    RingedBehind o done began s.number spans seats d → (went began done).before.running ≡ false
    → NoneFound began s.number → IsSecond s (went began done).before t → AreFewer seats fewer →
    RingedIn o done s began [] began spans base t fewer d

-- this was found of the card in a slot, behind what was told of the slots before it
abbrev pub IsFoundAnew : (log later : RunLog) → (second : ℕ) → Slot → (found : List Verdict) → Type 0
IsFoundAnew log later u Driver found = NoneFound log u × (found_in later u (In 0) Driver ≡ found)
    × (found_in later u (In 0) CoDriver ≡ [])
IsFoundAnew log later u CoDriver found = (found_in later u (In 0) Driver ≡ found_in log u (In 0) Driver)
    × (found_in log u (In 0) CoDriver ≡ []) × (found_in later u (In 0) CoDriver ≡ found)

-- A SLOT IS LEFT: no card is in it, or it is turned away, and no ring is written;
abbrev pub ASlotIsPassedAnew : (d e : Devices) → Type 0
ASlotIsPassedAnew d e = (o : Origin) (done : List TraceSecond) (s : TraceSecond) (began log later : RunLog)
    (spans : List SpanFrom) (base : ℕ) (t : ToldSecond) (seats fewer : Card → Option Seating) →
    RingedIn o done s began [] log spans base t seats d → (went began done).before.running ≡ false
    → HasMoreBreaks log later → (slot : Slot) (found : List Verdict) → IsFoundAnew log later s.number slot found →
    (in_slot (went began done).before.slots slot ≡ None) ⊎ (filter is_accepting found ≡ []) → StaysInRings d e
    → HaveLeftMore o d e → CardsGo o (with_second spans base t) (FailsBy began done later s []) d e
    → AreFewer seats fewer →
    RingedIn o done s began [] later spans base t fewer e

-- or its card is accepted anew,
abbrev pub ACardIsAcceptedAnew : (d e : Devices) → Type 0
ACardIsAcceptedAnew d e = (o : Origin) (done : List TraceSecond) (s : TraceSecond) (began log later : RunLog)
    (spans : List SpanFrom) (base : ℕ) (t : ToldSecond) (seats now fewer : Card → Option Seating) →
    RingedIn o done s began [] log spans base t seats d → (went began done).before.running ≡ false
    → HasMoreBreaks log later → (slot : Slot) (x : Sitting) → in_slot (went began done).before.slots slot ≡ Some x →
    (v : Verdict) → IsFoundAnew log later s.number slot (v ∷ []) → is_accepting v ≡ true →
    (head : List ℕ) (index : ℕ) → WritesRing (IsAddedAt index head) d e → length head ≡ insertion_ring.width →
    IsInsertionIn (since_in o began done s) later (with_second spans base t) e
    (record { accepted = record { second = s.number; slot = slot; card = x.card }; withdrawn = None }) head →
    ((c : Card) → ((same_card x.card c ≡ false) × (now c ≡ option_map one_behind (seats c)))
    ⊎ ((same_card x.card c ≡ true) × (now c ≡ Some (record { index = index; behind = 0 })))) → HaveLeftMore o d e
    → CardsGo o (with_second spans base t)
    (OpensIn later (record { second = s.number; slot = slot; card = x.card })) d e
    → Opens o later (record { second = s.number; slot = slot; card = x.card }) e → AreFewer now fewer →
    RingedIn o done s began [] later spans base t fewer e

-- or the unit failed in that, and power is cut before any action.
abbrev pub AnAcceptanceIsCutAnew : (d e : Devices) → Type 0
AnAcceptanceIsCutAnew d e = (o : Origin) (done : List TraceSecond) (s : TraceSecond) (began log cut : RunLog)
    (spans : List SpanFrom) (base : ℕ) (t : ToldSecond) (seats : Card → Option Seating) →
    RingedIn o done s began [] log spans base t seats d → (went began done).before.running ≡ false
    → HasMoreBreaks log cut → (slot : Slot) (x : Sitting) → in_slot (went began done).before.slots slot ≡ Some x →
    (v : Verdict) → IsFoundAnew log cut s.number slot (v ∷ []) → is_accepting v ≡ true →
    GoesBehind began cut done → has_power (went began done).before s ≡ true → cut_in cut s.number ≡ Some 0
    → has_failed_in cut s.number ≡ true →
    (head : List ℕ) → WritesRing (MayBeAdded insertion_ring head) d e → length head ≡ insertion_ring.width →
    IsInsertionIn (since_in o began done s) cut (with_second spans base t) e
    (record { accepted = record { second = s.number; slot = slot; card = x.card }; withdrawn = None }) head
    → HaveLeftMore o d e
    → CardsGo o (with_second spans base t)
    (OpensIn cut (record { second = s.number; slot = slot; card = x.card })) d e →
    RingedBehind o (done ++ s ∷ []) cut (suc s.number) (spans_cut spans base cut done s) nobody e
