-- What a tear, a find or a cut that is told now makes of the moment that a second has reached (profile).
use Rattle.std.specs.Prelude.{◌≡◌, ◌⊎◌, ℕ, ◌+◌, ◌||◌, Bool, true, false, Some, None, List, [], ◌∷◌, ◌++◌, length, map}
use Rattle.std.specs.Prelude.{option_map, if◌then◌else◌}
use Rattle.std.specs.List.{list_any}
use Rattle.activity_codec.specs.declared.values.Slot.{Slot}
use Rattle.activity_codec.specs.declared.values.Slot.TheVariants.{Driver, CoDriver}
use Rattle.trace_model.specs.declared.Card.{Card}
use Rattle.trace_model.specs.declared.Action.{Action}
use Rattle.trace_model.specs.Trace.{TraceSecond}
use Rattle.log_model.specs.declared.lines.Verdict.{Verdict}
use Rattle.log_model.specs.Log.{RunLog, Phase, In, Keeping, is_accepting, cut_in, is_torn_in, found_in}
use Rattle.log_model.specs.Slots.{Sitting, same_card, in_slot, other_slot, refusal}
use Rattle.log_model.specs.Course.{ToldSecond, Course, Visit, Before, Moved, visits, card_in, with_slot, both_told}
use Rattle.log_model.specs.Course.{moved_by, unmoved, answered, fresh, is_settling, cut_told, has_power, second_told}
use Rattle.event_model.specs.Events.{course_by}
use Rattle.history_model.specs.Minutes.{HistoryMinute}
use Rattle.history_model.specs.Presence.{Start}
use Rattle.card_slots.specs.Kept.{Kept, IsFree, put_in, taken}
use Rattle.run_course.specs.Moments.{SameUpTo}
use Rattle.run_course.specs.Presence.{IsNewest, SlotsTell}

-- WHERE A MOMENT STANDS: a second begins with its power-on, if it is one,
abbrev pub ASecondBegins : Type 0
ASecondBegins = (log : RunLog) (before : Before) (s : TraceSecond) (starts : Bool)
    → before.running ≡ (if starts then false else true) →
    course_by log before s 0 ≡ both_told log s.number (In 0) (unmoved starts) (fresh starts before.slots)

-- goes on with an action that has so many before it, while no cut stands in it,
abbrev pub AnActionIsAMoment : Type 0
AnActionIsAMoment = (log : RunLog) (before : Before) (s : TraceSecond) (front : List Action) (a : Action)
    (rest : List Action) →
    s.actions ≡ front ++ a ∷ rest → cut_in log s.number ≡ None →
    let c : Course = course_by log before s (length front) in
    let r = refusal c.slots s.speed a in
    course_by log before s (length front + 1)
    ≡ both_told log s.number (In (length front + 1)) (moved_by (length front) r a c.slots)
    (answered (length front) r a c)

-- and ends with its keeping;
abbrev pub ASecondEnds : Type 0
ASecondEnds = (log : RunLog) (before : Before) (s : TraceSecond) → has_power before s ≡ true
    → cut_in log s.number ≡ None →
    (second_told log before s).course
    ≡ both_told log s.number Keeping (unmoved false) (course_by log before s (length s.actions))

-- the actions behind a cut have not begun: those that are settlings count as such
abbrev pub not_begun : (rest : List Action) → Course → Course
not_begun rest c = record c { settled = c.settled || list_any is_settling rest }

-- A CUT ENDS THE SECOND behind some of its actions: what the keeping tore is told, the rest has not begun, and each
-- card in a slot loses power.
abbrev pub ACutEndsTheSecond : Type 0
ACutEndsTheSecond = (log later : RunLog) (before : Before) (s : TraceSecond) (front rest : List Action)
    → s.actions ≡ front ++ rest →
    has_power before s ≡ true → SameUpTo log later s.number (length front) → cut_in later s.number ≡ Some (length front)
    →
    (second_told later before s).course
    ≡ cut_told true (both_told later s.number Keeping (unmoved false)
    (not_begun rest (course_by log before s (length front))))

-- a card was torn out of a slot at this moment: it has left, and all else is as it was
pub record IsTornFrom (slot : Slot) (old new : Course) : Type 0 where
  pub slots : new.slots ≡ with_slot old.slots slot None
  pub left : (card : Card) → list_any (same_card card) new.left
      ≡ list_any (same_card card) (old.left ++ card_in (in_slot old.slots slot))
  pub picks : new.picks ≡ old.picks
  pub pulled : new.pulled ≡ old.pulled
  pub entered : new.entered ≡ old.entered
  pub found : new.found ≡ old.found
  pub refused : new.refused ≡ old.refused
  pub settled : new.settled ≡ old.settled

-- two logs tell the same of a moment, but that the later one tells of a tear of this slot
pub record TearsAt (log later : RunLog) (u : ℕ) (p : Phase) (slot : Slot) : Type 0 where
  pub old : is_torn_in log u p slot ≡ false
  pub new : is_torn_in later u p slot ≡ true
  pub other : is_torn_in later u p (other_slot slot) ≡ is_torn_in log u p (other_slot slot)
  pub found : (at : Slot) → found_in later u p at ≡ found_in log u p at

-- A TEAR IS TOLD at a moment.
abbrev pub ATearIsTold : Type 0
ATearIsTold = (log later : RunLog) (u : ℕ) (p : Phase) (slot : Slot) (moved : Moved) (c : Course)
    → TearsAt log later u p slot →
    IsTornFrom slot (both_told log u p moved c) (both_told later u p moved c)

-- this was found of the card of a slot at this moment of a second: where it is accepted it is so from now on
pub record IsFoundOf (u : ℕ) (p : Phase) (slot : Slot) (v : Verdict) (old new : Course) : Type 0 where
  pub slots : new.slots
      ≡ (if is_accepting v
      then with_slot old.slots slot (option_map {T = Sitting} (λ x. record x { accepted = Some u })
      (in_slot old.slots slot))
      else old.slots)
  pub found : new.found ≡ old.found ++ map (λ (visit : Visit). (visit, v)) (visits p slot old.slots)
  pub left : new.left ≡ old.left
  pub picks : new.picks ≡ old.picks
  pub pulled : new.pulled ≡ old.pulled
  pub torn : new.torn ≡ old.torn
  pub entered : new.entered ≡ old.entered
  pub refused : new.refused ≡ old.refused
  pub settled : new.settled ≡ old.settled

-- two logs tell the same of a moment, but that the later one tells what was found of this slot's card, which was not
-- torn out then
pub record FindsAt (log later : RunLog) (u : ℕ) (p : Phase) (slot : Slot) (v : Verdict) : Type 0 where
  pub old : found_in log u p slot ≡ []
  pub new : found_in later u p slot ≡ v ∷ []
  pub here : is_torn_in log u p slot ≡ false
  pub now : is_torn_in later u p slot ≡ false
  pub other : is_torn_in later u p (other_slot slot) ≡ is_torn_in log u p (other_slot slot)
  pub beside : found_in later u p (other_slot slot) ≡ found_in log u p (other_slot slot)

-- A FIND IS TOLD at a moment at which the slot's card entered; the driver's before the co-driver's.
abbrev pub AFindIsTold : Type 0
AFindIsTold = (log later : RunLog) (u : ℕ) (p : Phase) (slot : Slot) (v : Verdict) (moved : Moved) (c : Course)
    → FindsAt log later u p slot v →
    moved.enters slot ≡ true → (slot ≡ Driver → (moved.enters CoDriver ≡ false) ⊎ (found_in log u p CoDriver ≡ [])) →
    IsFoundOf u p slot v (both_told log u p moved c) (both_told later u p moved c)

-- WHAT THE SLOTS TELL behind a tear: the card is taken out;
abbrev pub SlotsTellATear : Type 0
SlotsTellATear = (start : Start) (told : List ToldSecond) (past : List HistoryMinute) (number from : ℕ) (slot : Slot)
    (old new : Course) (k : Kept) →
    SlotsTell start told past old.left number from old.slots k → IsTornFrom slot old new →
    SlotsTell start told past new.left number from new.slots (taken slot number k)

-- and behind an acceptance: the card is put in with the newest minute that it answered.
abbrev pub SlotsTellAnAcceptance : Type 0
SlotsTellAnAcceptance = (start : Start) (told : List ToldSecond) (past : List HistoryMinute) (number from : ℕ)
    (p : Phase) (slot : Slot) (v : Verdict) (card : Card) (newest : ℕ) (old new : Course) (k : Kept) →
    SlotsTell start told past old.left number from old.slots k → IsFoundOf number p slot v old new
    → is_accepting v ≡ true →
    in_slot old.slots slot ≡ Some (record { card = card; accepted = None }) → IsFree k.seats slot card →
    IsNewest start past from k card (Some newest) (Some number) →
    SlotsTell start told past new.left number from new.slots (put_in slot card (Some newest) k)
