-- The seconds of a turn, as they went on a unit whose slots are empty (profile).
use Rattle.std.specs.Prelude.{◌≡◌, ℕ, zero, suc, ◌+◌, Bool, true, false, None, List, [], ◌∷◌}
use Rattle.std.specs.List.{AllByRecursion}
use Rattle.activity_codec.specs.declared.values.Slot.{Slot}
use Rattle.activity_codec.specs.declared.values.Pick.{Pick}
use Rattle.trace_model.specs.declared.Action.{Action}
use Rattle.trace_model.specs.declared.Action.TheVariants.{Select, Insert, Withdraw, Tear, Place, Manual}
use Rattle.minute_model.specs.declared.Rule.{Rule}
use Rattle.minute_model.specs.Span.{Span, begin}
use Rattle.log_model.specs.declared.lines.SlotFault.{SlotFault}
use Rattle.log_model.specs.Slots.{Slots}
use Rattle.log_model.specs.Course.{Course, ToldSecond, cut_told, without_power}
use Rattle.history_model.specs.Growth.{as_span}

-- an action that no card bears on
abbrev pub IsSelection : Action → Type 0
IsSelection (Select slot pick) = Unit {0}
IsSelection (Insert slot card) = ⊥
IsSelection (Withdraw slot) = ⊥
IsSelection (Tear slot) = ⊥
IsSelection (Place slot ending country region) = ⊥
IsSelection (Manual slot pick minute) = ⊥

-- no card in a slot
abbrev pub empty_slots : Slots
empty_slots = record { driver = None; codriver = None }

-- what happens in a second of such a unit: selections, and refusals
abbrev pub plain_course : List (Slot × Pick) → List (ℕ × SlotFault) → Course
plain_course picks refused = record {
  picks = picks;
  left = [];
  pulled = [];
  torn = [];
  entered = [];
  found = [];
  refused = refused;
  settled = false;
  slots = empty_slots;
}

-- a second with power: whether power begins with it, and whether it is a cut's
abbrev pub lit_second : (number speed : ℕ) → List (Slot × Pick) → (starts cut : Bool) → ToldSecond
lit_second number speed picks starts cut = record {
  second = record { number = number; speed = speed; picks = picks };
  given = true;
  lit = true;
  starts = starts;
  cut = cut;
  course = plain_course picks [];
}

-- n seconds with power at one speed, the first with these selections, with which power may begin
abbrev pub lit_seconds : ℕ → (number speed : ℕ) → List (Slot × Pick) → (starts : Bool) → List ToldSecond
lit_seconds zero number speed picks starts = []
lit_seconds (suc n) number speed picks starts = lit_second number speed picks starts false
    ∷ lit_seconds n (number + 1) speed [] false

-- a second without power, which the trace gives power or not: its actions are refused
abbrev pub dark_second : (number speed : ℕ) → (given : Bool) → List Action → ToldSecond
dark_second number speed given actions = record {
  second = record { number = number; speed = speed; picks = [] };
  given = given;
  lit = false;
  starts = false;
  cut = false;
  course = plain_course [] (without_power 0 actions);
}

-- n seconds without power, the first with these actions
abbrev pub dark_seconds : ℕ → (number speed : ℕ) → (given : Bool) → List Action → List ToldSecond
dark_seconds zero number speed given actions = []
dark_seconds (suc n) number speed given actions = dark_second number speed given actions
    ∷ dark_seconds n (number + 1) speed given []

-- the second turns out to be a cut's
abbrev pub cut_at_end : ToldSecond → ToldSecond
cut_at_end t = record t { cut = true; course = cut_told true t.course }

-- the last of these seconds turns out to be a cut's
abbrev pub cut_last : List ToldSecond → List ToldSecond
cut_last [] = []
cut_last (t ∷ []) = cut_at_end t ∷ []
cut_last (t ∷ next ∷ told) = t ∷ cut_last (next ∷ told)

-- no card was in a slot in these seconds, and none was moved
abbrev pub ArePlain : List ToldSecond → Type 0
ArePlain told = AllByRecursion (λ (t : ToldSecond). (t.course.slots ≡ empty_slots) × (t.course.settled ≡ false)) told

-- the span so far for the rules of minutes: one that begins with the second of this number, or that goes on
abbrev pub span_at : Rule → (next : ℕ) → List ToldSecond → Span
span_at rule next [] = begin rule next
span_at rule next (t ∷ span) = as_span rule (t ∷ span)

-- power begins with the next second
abbrev pub begins_with : List ToldSecond → Bool
begins_with [] = true
begins_with (t ∷ span) = false

-- the actions of the last of n seconds, the first of which has these
abbrev pub actions_of_last : ℕ → List Action → List Action
actions_of_last zero actions = []
actions_of_last (suc zero) actions = actions
actions_of_last (suc (suc n)) actions = []
