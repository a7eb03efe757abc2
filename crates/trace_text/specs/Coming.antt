-- A trace as far as its lines have come.
use Rattle.std.specs.Prelude.{◌≡◌, ℕ, Option, None, Some, List, [], ◌∷◌, length}
use Rattle.trace_model.specs.declared.Item.{Item}
use Rattle.trace_model.specs.declared.Item.TheVariants.{Run}
use Rattle.trace_model.specs.Trace.{total_seconds}
use Rattle.trace_text.specs.declared.lines_trace.Form.{Form}
use Rattle.trace_text.specs.declared.lines_trace.TraceFault.{TraceFault}
use Rattle.trace_text.specs.declared.lines_trace.TraceFault.TheVariants.{ReadFault, BadLine, TooLong, Memory}
use Rattle.trace_text.specs.declared.coming.Came.{Came}
use Rattle.trace_text.specs.declared.coming.Came.TheVariants.{Nothing, Start, Next, Behind}
use Rattle.trace_text.specs.declared.coming.Coming.{Coming}
use Rattle.trace_text.specs.Text.{counted}
use Rattle.trace_text.specs.Trace.{Spells, IsWithinLimits, items_of, waiting_from, opened}
use Rattle.trace_text.specs.Judged.{IsFirstBad, IsFirstTooLong, IsPassedAt}

-- the items that a line told, or the end
abbrev pub told : Came → List Item
told Nothing = []
told (Start second) = []
told (Next item) = item ∷ []
told (Behind item) = Run 1 0 ∷ item ∷ []

-- the first second, before a line and behind it: the `start` line alone tells it, and items come behind that alone
abbrev pub StartsBy : Came → Option ℕ → Option ℕ → Type 0
StartsBy Nothing before after = after ≡ before
StartsBy (Start second) before after = (before ≡ None) × (after ≡ Some second)
StartsBy (Next item) before after = (second : ℕ) × (before ≡ Some second) × (after ≡ Some second)
StartsBy (Behind item) before after = (second : ℕ) × (before ≡ Some second) × (after ≡ Some second)

-- the seconds of these items, and no limit is passed
pub record HasPassed (start : ℕ) (placed : List (ℕ × Item)) (total : ℕ) : Type 0 where
  pub total_is : total ≡ total_seconds (items_of placed)
  pub within : IsWithinLimits start total

-- what has come of a trace behind its `start` line
pub record HasSpelled (lines : List (ℕ × List (List ℕ))) (start : ℕ) (items : List Item) (coming : Coming) : Type
    0 where
  pub written : List (ℕ × Item)
  pub spells : Spells coming.form lines start written
  pub items_are : items ≡ items_of (opened written)
  pub waiting : coming.waiting ≡ waiting_from None written
  pub passed : HasPassed start (opened written) coming.total

-- what has come of a trace, with its `start` line or before it
abbrev pub HasStarted : List (ℕ × List (List ℕ)) → List Item → Coming → Option ℕ → Type 0
HasStarted lines items coming None = (lines ≡ []) × (items ≡ []) × (coming.total ≡ 0) × (coming.waiting ≡ None)
HasStarted lines items coming (Some start) = HasSpelled lines start items coming

-- THESE LINES HAVE COME, and these are their items, with the seconds that are put in before an `off`
pub record HasCome (lines : List (List ℕ)) (items : List Item) (coming : Coming) : Type 0 where
  pub number : length lines ≡ coming.lines
  pub state : HasStarted (counted lines) items coming coming.start

-- when a fault of items comes: a limit is passed at one of them
abbrev pub IsFaultAt : ℕ → List (ℕ × Item) → TraceFault → Type 0
IsFaultAt start items ReadFault = ⊥
IsFaultAt start items (BadLine n) = ⊥
IsFaultAt start items (TooLong n) = IsPassedAt start 0 items n
IsFaultAt start items Memory = ⊥

-- when a fault of lines comes
abbrev pub IsFaultOf : Form → List (List ℕ) → TraceFault → Type 0
IsFaultOf form lines ReadFault = ⊥
IsFaultOf form lines (BadLine n) = IsFirstBad form lines n
IsFaultOf form lines (TooLong n) = IsFirstTooLong form lines n
IsFaultOf form lines Memory = Unit {0}
