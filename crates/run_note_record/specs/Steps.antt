-- WHAT EACH ACTION OF A SECOND MAKES OF ITS RINGS (profile): a place, a withdrawal or an insertion is noted, or the
-- unit failed in it and power is cut.
use Rattle.std.specs.Prelude.{◌≡◌, ◌⊎◌, ℕ, suc, ◌+◌, ◌<◌, ◌^◌, Bool, true, false, Option, Some, None, is_some, nat_lt}
use Rattle.std.specs.Prelude.{option_map, List, [], ◌∷◌, ◌++◌, length}
use Rattle.run_events.specs.activity_codec.declared.values.Slot.{Slot}
use Rattle.run_devices.specs.trace_model.declared.Action.{Action}
use Rattle.run_devices.specs.trace_model.declared.Action.TheVariants.{Insert, Withdraw, Place}
use Rattle.run_devices.specs.trace_model.declared.Card.{Card}
use Rattle.run_devices.specs.trace_model.Trace.{TraceSecond}
use Rattle.run_devices.specs.tacho_types.declared.numbers.Odometer.{Odometer}
use Rattle.run_devices.specs.tacho_types.declared.numbers.TimeReal.{TimeReal}
use Rattle.run_events.specs.gated_ring.Change.{IsAdded}
use Rattle.run_events.specs.message_model.Records.{insertion_ring, unit_place_ring}
use Rattle.run_devices.specs.log_model.declared.lines.Verdict.{Verdict}
use Rattle.run_devices.specs.log_model.Log.{RunLog, In, cut_in, is_torn_in, found_in, is_accepting}
use Rattle.run_devices.specs.log_model.Slots.{Sitting, same_card, in_slot, refusal}
use Rattle.run_devices.specs.log_model.Course.{ToldSecond, begins, has_power, went, second_told}
use Rattle.run_devices.specs.note_model.Done.{has_failed_in}
use Rattle.run_devices.specs.note_model.Odometer.{SpanFrom, odometer_at}
use Rattle.run_devices.specs.safety_model.Safe.{Devices}
use Rattle.run_events.specs.run_rings.Notes.{TellSameTo, NotesMore, course_behind}
use Rattle.run_events.specs.run_rings.Spans.{with_second}
use Rattle.run_note_record.specs.Origin.{Origin}
use Rattle.run_note_record.specs.Beside.{HaveLeftMore}
use Rattle.run_note_record.specs.OnCards.{place_width, IsPlaceOn, CardsGo, VehiclesGo, SessionsGo}
use Rattle.run_note_record.specs.OnCards.{NoOtherComes, PlaceIsTaken}
use Rattle.run_note_record.specs.Moved.{moves_to}
use Rattle.run_note_record.specs.Sessions.{FailsIn, OpensIn, Ends, Opens, Shuts}
use Rattle.run_note_record.specs.Ringed.{Seating, one_behind, StaysInRings, WritesRing, IsInsertionIn, IsPlaceIn}
use Rattle.run_note_record.specs.Ringed.{IsAddedAt, MayBeAdded, IsWithdrawnAt, MayBeWithdrawn, since_in}
use Rattle.run_note_record.specs.RingsSoFar.{RingedBehind, RingedIn, AreFewer, HasMoreBreaks, GoesBehind}

-- lines of the next action are told, and it has begun
pub record GoesOnTo (log later : RunLog) (s : TraceSecond) (front : List Action) : Type 0 where
  pub lines : HasMoreBreaks log later
  pub same : TellSameTo log later s.number (length front)
  pub begun : begins (cut_in later s.number) (length front) ≡ true

-- or the unit failed in it, and power is cut: this was the last action that began
pub record IsCutIn (began log cut : RunLog) (done : List TraceSecond) (s : TraceSecond) (front : List Action)
    (a : Action) (rest : List Action) : Type 0 where
  pub goes : GoesOnTo log cut s front
  pub are : s.actions ≡ front ++ a ∷ rest
  pub cut_is : cut_in cut s.number ≡ Some (suc (length front))
  pub failed : has_failed_in cut s.number ≡ true
  pub behind : GoesBehind began cut done
  pub power : has_power (went began done).before s ≡ true

-- the second as its spans have it, once it has gone
abbrev pub spans_cut : List SpanFrom → (base : ℕ) → RunLog → List TraceSecond → TraceSecond → List SpanFrom
spans_cut spans base log done s = with_second spans base (second_told log (went log done).before s)

-- no card is accepted
abbrev pub nobody : Card → Option Seating
nobody c = None

-- a call fails in a second, behind these of its actions, where the log was this as it began
abbrev pub FailsBy : (began : RunLog) → List TraceSecond → (log : RunLog) → TraceSecond → (front : List Action) → Card
    → ℕ → Type 0
FailsBy began done log s front = FailsIn log (moves_to log (went began done).before s front) s.number

-- AN ACTION NOTES NOTHING, and writes no ring;
abbrev pub AnActionPasses : (d e : Devices) → Type 0
AnActionPasses d e = (o : Origin) (done : List TraceSecond) (s : TraceSecond) (began log later : RunLog)
    (front : List Action) (a : Action) (spans : List SpanFrom) (base : ℕ) (t : ToldSecond)
    (seats fewer : Card → Option Seating) →
    RingedIn o done s began front log spans base t seats d → GoesOnTo log later s front
    → NotesMore later (went began done).before s front a [] → StaysInRings d e → HaveLeftMore o d e
    → CardsGo o (with_second spans base t) (FailsBy began done later s (front ++ a ∷ [])) d e → AreFewer seats fewer →
    RingedIn o done s began (front ++ a ∷ []) later spans base t fewer e

-- or the unit fails in such an action, and power is cut.
abbrev pub AnActionIsCut : (d e : Devices) → Type 0
AnActionIsCut d e = (o : Origin) (done : List TraceSecond) (s : TraceSecond) (began log cut : RunLog)
    (front : List Action) (a : Action) (rest : List Action) (spans : List SpanFrom) (base : ℕ) (t : ToldSecond)
    (seats : Card → Option Seating) →
    RingedIn o done s began front log spans base t seats d → IsCutIn began log cut done s front a rest
    → NotesMore cut (went began done).before s front a [] → StaysInRings d e → HaveLeftMore o d e
    → CardsGo o (with_second spans base t) (FailsBy began done cut s (front ++ a ∷ [])) d e →
    RingedBehind o (done ++ s ∷ []) cut (suc s.number) (spans_cut spans base cut done s) nobody e

-- A PLACE IS ENTERED of the accepted card of a slot;
abbrev pub APlaceIsEntered : (d e : Devices) → Type 0
APlaceIsEntered d e = (o : Origin) (done : List TraceSecond) (s : TraceSecond) (began log later : RunLog)
    (front : List Action) (spans : List SpanFrom) (base : ℕ) (t : ToldSecond) (seats fewer : Card → Option Seating) →
    RingedIn o done s began front log spans base t seats d → GoesOnTo log later s front
    → (slot : Slot) (ending : Bool) (country region : ℕ) (x : Sitting) →
    in_slot (course_behind later (went began done).before s front).slots slot ≡ Some x → is_some x.accepted ≡ true →
    (head : List ℕ) → WritesRing (IsAdded unit_place_ring head) d e → length head ≡ unit_place_ring.width →
    IsPlaceIn o later (with_second spans base t)
    (record { second = s.number; card = x.card; ending = ending; country = country; region = region }) head
    → HaveLeftMore o d e →
    (own : List ℕ) → length own ≡ place_width
    → IsPlaceOn (with_second spans base t)
    (record { second = s.number; card = x.card; ending = ending; country = country; region = region }) own →
    PlaceIsTaken o later (record {
      second = s.number;
      card = x.card;
      ending = ending;
      country = country;
      region = region;
    }) own d e → VehiclesGo o (with_second spans base t) NoOtherComes d e → SessionsGo o NoOtherComes d e
    → AreFewer seats fewer →
    RingedIn o done s began (front ++ Place slot ending country region ∷ []) later spans base t fewer e

-- or the unit fails in that, and power is cut: the place stands, or does not.
abbrev pub APlaceIsCut : (d e : Devices) → Type 0
APlaceIsCut d e = (o : Origin) (done : List TraceSecond) (s : TraceSecond) (began log cut : RunLog)
    (front rest : List Action) (spans : List SpanFrom) (base : ℕ) (t : ToldSecond) (seats : Card → Option Seating) →
    RingedIn o done s began front log spans base t seats d → (slot : Slot) (ending : Bool) (country region : ℕ)
    → IsCutIn began log cut done s front (Place slot ending country region) rest → (x : Sitting) →
    in_slot (course_behind cut (went began done).before s front).slots slot ≡ Some x → is_some x.accepted ≡ true →
    (head : List ℕ) → WritesRing (MayBeAdded unit_place_ring head) d e → length head ≡ unit_place_ring.width →
    IsPlaceIn o cut (with_second spans base t)
    (record { second = s.number; card = x.card; ending = ending; country = country; region = region }) head
    → HaveLeftMore o d e →
    (own : List ℕ) → length own ≡ place_width
    → IsPlaceOn (with_second spans base t)
    (record { second = s.number; card = x.card; ending = ending; country = country; region = region }) own →
    PlaceIsTaken o cut (record {
      second = s.number;
      card = x.card;
      ending = ending;
      country = country;
      region = region;
    }) own d e → VehiclesGo o (with_second spans base t) NoOtherComes d e → SessionsGo o NoOtherComes d e →
    RingedBehind o (done ++ s ∷ []) cut (suc s.number) (spans_cut spans base cut done s) nobody e

-- A CARD IS WITHDRAWN that was accepted, and is not torn out in that;
abbrev pub ACardIsWithdrawn : (d e : Devices) → Type 0
ACardIsWithdrawn d e = (o : Origin) (done : List TraceSecond) (s : TraceSecond) (began log later : RunLog)
    (front : List Action) (spans : List SpanFrom) (base : ℕ) (t : ToldSecond) (seats now fewer : Card → Option Seating)
    →
    RingedIn o done s began front log spans base t seats d → GoesOnTo log later s front → (slot : Slot) (x : Sitting)
    → in_slot (course_behind later (went began done).before s front).slots slot ≡ Some x → nat_lt 0 s.speed ≡ false
    →
    is_torn_in later s.number (In (length front + 1)) slot ≡ false → is_some x.accepted ≡ true → (q : Seating)
    → seats x.card ≡ Some q → q.index < insertion_ring.count →
    (time : TimeReal) (odometer : Odometer) → time.0 ≡ s.number
    → odometer.0 ≡ odometer_at s.number (with_second spans base t) → time.0 < 256 ^ 4 → odometer.0 < 256 ^ 3
    → WritesRing (IsWithdrawnAt q time odometer) d e →
    ((c : Card) → ((same_card x.card c ≡ false) × (now c ≡ seats c)) ⊎ ((same_card x.card c ≡ true) × (now c ≡ None)))
    → HaveLeftMore o d e → CardsGo o (with_second spans base t) (Ends x.card) d e
    → Shuts o later (record { second = s.number; card = x.card }) e → AreFewer now fewer →
    RingedIn o done s began (front ++ Withdraw slot ∷ []) later spans base t fewer e

-- or the unit fails in that, and power is cut: the withdrawal stands, or does not.
abbrev pub AWithdrawalIsCut : (d e : Devices) → Type 0
AWithdrawalIsCut d e = (o : Origin) (done : List TraceSecond) (s : TraceSecond) (began log cut : RunLog)
    (front rest : List Action) (spans : List SpanFrom) (base : ℕ) (t : ToldSecond) (seats : Card → Option Seating) →
    RingedIn o done s began front log spans base t seats d → (slot : Slot)
    → IsCutIn began log cut done s front (Withdraw slot) rest → (x : Sitting)
    → in_slot (course_behind cut (went began done).before s front).slots slot ≡ Some x → nat_lt 0 s.speed ≡ false →
    is_torn_in cut s.number (In (length front + 1)) slot ≡ false → is_some x.accepted ≡ true → (q : Seating)
    → seats x.card ≡ Some q → q.index < insertion_ring.count →
    (time : TimeReal) (odometer : Odometer) → time.0 ≡ s.number
    → odometer.0 ≡ odometer_at s.number (with_second spans base t) → time.0 < 256 ^ 4 → odometer.0 < 256 ^ 3
    → WritesRing (MayBeWithdrawn q time odometer) d e → HaveLeftMore o d e
    → CardsGo o (with_second spans base t) (Ends x.card) d e →
    RingedBehind o (done ++ s ∷ []) cut (suc s.number) (spans_cut spans base cut done s) nobody e

-- A CARD IS PUT IN AND ACCEPTED;
abbrev pub ACardIsAccepted : (d e : Devices) → Type 0
ACardIsAccepted d e = (o : Origin) (done : List TraceSecond) (s : TraceSecond) (began log later : RunLog)
    (front : List Action) (spans : List SpanFrom) (base : ℕ) (t : ToldSecond) (seats now fewer : Card → Option Seating)
    →
    RingedIn o done s began front log spans base t seats d → GoesOnTo log later s front → (slot : Slot) (card : Card)
    → refusal (course_behind later (went began done).before s front).slots s.speed (Insert slot card) ≡ None →
    (v : Verdict) → found_in later s.number (In (length front + 1)) slot ≡ v ∷ [] → is_accepting v ≡ true →
    (head : List ℕ) (index : ℕ) → WritesRing (IsAddedAt index head) d e → length head ≡ insertion_ring.width →
    IsInsertionIn (since_in o began done s) later (with_second spans base t) e
    (record { accepted = record { second = s.number; slot = slot; card = card }; withdrawn = None }) head →
    ((c : Card) → ((same_card card c ≡ false) × (now c ≡ option_map one_behind (seats c)))
    ⊎ ((same_card card c ≡ true) × (now c ≡ Some (record { index = index; behind = 0 })))) → HaveLeftMore o d e
    → CardsGo o (with_second spans base t) (OpensIn later (record { second = s.number; slot = slot; card = card })) d e
    → Opens o later (record { second = s.number; slot = slot; card = card }) e → AreFewer now fewer →
    RingedIn o done s began (front ++ Insert slot card ∷ []) later spans base t fewer e

-- or the unit fails in that, and power is cut: the insertion stands, or does not.
abbrev pub AnAcceptanceIsCut : (d e : Devices) → Type 0
AnAcceptanceIsCut d e = (o : Origin) (done : List TraceSecond) (s : TraceSecond) (began log cut : RunLog)
    (front rest : List Action) (spans : List SpanFrom) (base : ℕ) (t : ToldSecond) (seats : Card → Option Seating) →
    RingedIn o done s began front log spans base t seats d → (slot : Slot) (card : Card)
    → IsCutIn began log cut done s front (Insert slot card) rest
    → refusal (course_behind cut (went began done).before s front).slots s.speed (Insert slot card) ≡ None →
    (v : Verdict) → found_in cut s.number (In (length front + 1)) slot ≡ v ∷ [] → is_accepting v ≡ true →
    (head : List ℕ) → WritesRing (MayBeAdded insertion_ring head) d e → length head ≡ insertion_ring.width →
    IsInsertionIn (since_in o began done s) cut (with_second spans base t) e
    (record { accepted = record { second = s.number; slot = slot; card = card }; withdrawn = None }) head
    → HaveLeftMore o d e
    → CardsGo o (with_second spans base t) (OpensIn cut (record { second = s.number; slot = slot; card = card })) d e →
    RingedBehind o (done ++ s ∷ []) cut (suc s.number) (spans_cut spans base cut done s) nobody e
