-- A trace as its seconds, one after the other (profile).
use Rattle.std.specs.Prelude.{ℕ, zero, suc, ◌+◌, Bool, true, false, List, [], ◌∷◌, ◌++◌, sum_by}
use Rattle.trace_model.specs.declared.Action.{Action}
use Rattle.trace_model.specs.declared.Item.{Item}
use Rattle.trace_model.specs.declared.Item.TheVariants.{Run, Off, Act}

-- a second: its number, whether the trace gives it power, its speed, and the actions at its start in order
pub record TraceSecond : Type 0 where
  pub number : ℕ
  pub has_power : Bool
  pub speed : ℕ
  pub actions : List Action

-- n seconds with power at one speed, from a number on, the first with these actions
abbrev pub driven : ℕ → ℕ → ℕ → List Action → List TraceSecond
driven zero number speed actions = []
driven (suc n) number speed actions =
    record { number = number; has_power = true; speed = speed; actions = actions } ∷ driven n (number + 1) speed []

-- n seconds without power
abbrev pub dark : ℕ → ℕ → List TraceSecond
dark zero number = []
dark (suc n) number = record { number = number; has_power = false; speed = 0; actions = [] } ∷ dark n (number + 1)

-- the seconds of these lines from a number on, where these actions wait for the next second
abbrev pub seconds_from : ℕ → List Action → List Item → List TraceSecond
seconds_from number waiting [] = []
seconds_from number waiting (Run n speed ∷ items) = driven n number speed waiting ++ seconds_from (number + n) [] items
seconds_from number waiting (Off n ∷ items) = dark n number ++ seconds_from (number + n) waiting items
seconds_from number waiting (Act action ∷ items) = seconds_from number (waiting ++ action ∷ []) items

-- the seconds of a trace that begins at a number: the actions before a run stand at the start of its first second
unfoldable pub seconds_of : ℕ → List Item → List TraceSecond
seconds_of start items = seconds_from start [] items

-- how many seconds a line spells
abbrev pub item_seconds : Item → ℕ
item_seconds (Run seconds speed) = seconds
item_seconds (Off seconds) = seconds
item_seconds (Act action) = 0

-- how many seconds these lines spell together
abbrev pub total_seconds : List Item → ℕ
total_seconds items = sum_by item_seconds items

-- the number of the second behind these lines, where their first second has this number
abbrev pub number_after : ℕ → List Item → ℕ
number_after start items = start + total_seconds items

-- the actions that wait for the next second with power, where these waited before
abbrev pub waiting_from : List Action → List Item → List Action
waiting_from waiting [] = waiting
waiting_from waiting (Run seconds speed ∷ items) = waiting_from [] items
waiting_from waiting (Off seconds ∷ items) = waiting_from waiting items
waiting_from waiting (Act action ∷ items) = waiting_from (waiting ++ action ∷ []) items

-- the actions behind these lines that wait for the next second with power, where none waited before them
abbrev pub waiting_after : List Item → List Action
waiting_after items = waiting_from [] items

-- the seconds that a line spells from a number on, where these actions wait for the next second with power
abbrev pub seconds_at : ℕ → List Action → Item → List TraceSecond
seconds_at number waiting (Run n speed) = driven n number speed waiting
seconds_at number waiting (Off n) = dark n number
seconds_at number waiting (Act action) = []
