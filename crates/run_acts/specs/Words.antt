-- The word with which a withdrawal closes a card (profile): the activity that its slot has then.
use Rattle.std.specs.Prelude.{◌≡◌, ℕ, nat_eq, Bool, false, if◌then◌else◌, List, [], ◌∷◌, ◌++◌, length}
use Rattle.std.specs.List.{list_any}
use Rattle.activity_codec.specs.declared.values.Activity.{Activity}
use Rattle.activity_codec.specs.declared.values.Pick.{Pick}
use Rattle.activity_codec.specs.declared.values.Slot.{Slot}
use Rattle.activity_codec.specs.Activity.{same_slot}
use Rattle.trace_model.specs.declared.Action.{Action}
use Rattle.trace_model.specs.declared.Action.TheVariants.{Select, Insert, Withdraw, Tear, Place, Manual}
use Rattle.trace_model.specs.Trace.{TraceSecond}
use Rattle.unit_model.specs.minute_model.declared.Rule.{Rule}
use Rattle.unit_model.specs.minute_model.Span.{activity_next}
use Rattle.log_model.specs.declared.lines.Find.{Find}
use Rattle.log_model.specs.Course.{ToldSecond}
use Rattle.device_calls.specs.history_model.Growth.{picking}
use Rattle.device_calls.specs.run_unit_course.Turn.{span_at}

-- what these actions select, in order
abbrev pub picks_of : List Action → List (Slot × Pick)
picks_of [] = []
picks_of (Select slot pick ∷ actions) = (slot, pick) ∷ picks_of actions
picks_of (Insert slot card ∷ actions) = picks_of actions
picks_of (Withdraw slot ∷ actions) = picks_of actions
picks_of (Tear slot ∷ actions) = picks_of actions
picks_of (Place slot ending country region ∷ actions) = picks_of actions
picks_of (Manual slot pick minute ∷ actions) = picks_of actions

-- an action withdraws the card of a slot
abbrev pub withdraws : Slot → Action → Bool
withdraws slot (Select s pick) = false
withdraws slot (Insert s card) = false
withdraws slot (Withdraw s) = same_slot s slot
withdraws slot (Tear s) = false
withdraws slot (Place s ending country region) = false
withdraws slot (Manual s pick minute) = false

-- how many actions of a second had begun as a card was accepted by this line: none, where that was in another second
abbrev pub begun_in : (second : ℕ) → Find → ℕ
begun_in u f = if nat_eq f.second u then f.begun else 0

-- THE WORD IS THAT OF A SLOT in which a card was accepted by this line, as an action of a second withdraws the card: by
-- the seconds of its power span before it, and by what the actions before that one select. It is the first behind the
-- acceptance that withdraws from the slot.
pub record IsWordOf (rule : Rule) (span : List ToldSecond) (s : TraceSecond) (f : Find) (word : Activity) : Type 0 where
  pub front : List Action
  pub since : List Action
  pub rest : List Action
  pub are : s.actions ≡ front ++ (since ++ Withdraw f.slot ∷ rest)
  pub begun : length front ≡ begun_in s.number f
  pub first : list_any (withdraws f.slot) since ≡ false
  pub is : word ≡ activity_next f.slot (picking (picks_of (front ++ since)) (span_at rule s.number span))
