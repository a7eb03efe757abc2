-- The grammar and the limits of a trace (profile).
use Rattle.std.specs.Prelude.{◌≡◌, ℕ, ◌+◌, ◌≤◌, ◌⊎◌, Option, None, Some, List, [], ◌∷◌, ◌++◌, map}
use Rattle.std.specs.List.{AllByRecursion}
use Rattle.trace_model.specs.declared.Item.{Item}
use Rattle.trace_model.specs.declared.Item.TheVariants.{Run, Off, Act}
use Rattle.trace_model.specs.Trace.{total_seconds}
use Rattle.trace_text.specs.declared.lines_trace.Form.{Form}
use Rattle.trace_text.specs.Text.{counted}
use Rattle.trace_text.specs.Line.{start_fields, item_fields, IsFirstSecond, InRange, IsKnown}

-- an item, with the number of the line that it counts to, as a line of these fields
abbrev pub line_of : ℕ × Item → ℕ × List (List ℕ)
line_of placed = (placed.0, item_fields placed.1)

-- the items alone
abbrev pub items_of : List (ℕ × Item) → List Item
items_of placed = map (λ p. p.1) placed

-- these lines are `start` at this second, and then these items
pub record Spells (form : Form) (lines : List (ℕ × List (List ℕ))) (start : ℕ) (written : List (ℕ × Item)) : Type
    0 where
  pub start_line : ℕ
  pub text : lines ≡ (start_line, start_fields start) ∷ map line_of written
  pub first : IsFirstSecond start
  pub each : AllByRecursion (λ p. IsKnown form p.1) written

-- the second that is put in where the action of a line waits for one: it counts to that line
abbrev pub put_in : Option ℕ → List (ℕ × Item)
put_in None = []
put_in (Some line) = (line, Run 1 0) ∷ []

-- the line of an action that waits for a second behind this item
abbrev pub waits : ℕ × Item → Option ℕ
waits (line, Run seconds speed) = None
waits (line, Off seconds) = None
waits (line, Act action) = Some line

-- what one more item adds where this action waits: before an `off` a second is put in
abbrev pub added : Option ℕ → ℕ × Item → List (ℕ × Item)
added waiting (line, Run seconds speed) = (line, Run seconds speed) ∷ []
added waiting (line, Off seconds) = put_in waiting ++ (line, Off seconds) ∷ []
added waiting (line, Act action) = (line, Act action) ∷ []

-- the items of written lines, where this action waits before them
abbrev pub open_from : Option ℕ → List (ℕ × Item) → List (ℕ × Item)
open_from waiting [] = []
open_from waiting (item ∷ written) = added waiting item ++ open_from (waits item) written

-- the action that waits behind them
abbrev pub waiting_from : Option ℕ → List (ℕ × Item) → Option ℕ
waiting_from waiting [] = waiting
waiting_from waiting (item ∷ written) = waiting_from (waits item) written

-- the items of written lines as far as they are read
abbrev pub opened : List (ℕ × Item) → List (ℕ × Item)
opened written = open_from None written

-- and at the end of the text, where a second is put in if an action waits
abbrev pub ended : List (ℕ × Item) → List (ℕ × Item)
ended written = opened written ++ put_in (waiting_from None written)

-- so many seconds from this one on are within the limits: at most 34560000, and none later than 4294880895
abbrev pub IsWithinLimits : ℕ → ℕ → Type 0
IsWithinLimits start seconds = (seconds ≤ 34560000) × (start + seconds ≤ 4294880896)

-- a run comes before the next `off` and before the end
abbrev pub RunComes : List Item → Type 0
RunComes [] = ⊥
RunComes (Run seconds speed ∷ items) = Unit {0}
RunComes (Off seconds ∷ items) = ⊥
RunComes (Act action ∷ items) = RunComes items

-- it comes so behind each action
abbrev pub HasRuns : List Item → Type 0
HasRuns [] = Unit {0}
HasRuns (Run seconds speed ∷ items) = HasRuns items
HasRuns (Off seconds ∷ items) = HasRuns items
HasRuns (Act action ∷ items) = RunComes items × HasRuns items

-- A trace is well formed: within its limits, each number in its range, and behind each action a run before the next
-- `off` and before the end.
pub record IsWellFormed (start : ℕ) (items : List Item) : Type 0 where
  pub first : IsFirstSecond start
  pub within : IsWithinLimits start (total_seconds items)
  pub each : AllByRecursion InRange items
  pub runs : HasRuns items

-- these lines are those of a trace
pub record IsTraceOf (form : Form) (lines : List (List ℕ)) (start : ℕ) (items : List Item) : Type 0 where
  pub written : List (ℕ × Item)
  pub spells : Spells form (counted lines) start written
  pub items_are : items ≡ items_of (ended written)
  pub within : IsWithinLimits start (total_seconds items)

-- these lines begin a trace, or there are none
abbrev pub InGrammar : Form → List (ℕ × List (List ℕ)) → Type 0
InGrammar form lines = (lines ≡ []) ⊎ ((start : ℕ) × (written : List (ℕ × Item)) × Spells form lines start written)

-- these lines begin a trace, or there are none, and no limit is passed at one of them
abbrev pub BeginsWell : Form → List (ℕ × List (List ℕ)) → Type 0
BeginsWell form lines =
    (lines ≡ [])
    ⊎ ((start : ℕ) × (written : List (ℕ × Item)) × Spells form lines start written
    × IsWithinLimits start (total_seconds (items_of (opened written))))
