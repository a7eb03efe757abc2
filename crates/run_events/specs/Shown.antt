-- What every image of a unit shows of the events of a run with cards (Annex IB, section III.12; profile). Lists of
-- events are given by type.
use Rattle.std.specs.Prelude.{◌≡◌, ◌⊎◌, ℕ, ◌≤◌, Bool, true, false, not, List, [], ◌∷◌, ◌++◌, length, filter, Contains}
use Rattle.std.specs.Prelude.{nat_eq}
use Rattle.trace_model.specs.declared.Card.{Card}
use Rattle.tach_media.specs.Medium.{State}
use Rattle.log_model.specs.Log.{RunLog}
use Rattle.unit_model.specs.declared.layout.TheConstants.{FIRST_OVER, OVER_COUNT}
use Rattle.unit_model.specs.Image.{number_of}
use Rattle.event_model.specs.declared.kinds.TheConstants.{OVER_SPEEDING}
use Rattle.event_model.specs.Events.{Event}
use Rattle.note_model.specs.Done.{has_failed_in}
use Rattle.note_model.specs.Events.{noting_second}
use Rattle.note_model.specs.Tables.{table_in}
use Rattle.note_model.specs.Unsure.{AreNotedBut, IsFirstBut, IsCountedBut}
use Rattle.unit_events.specs.Shown.{all_kinds}

-- the events of a type among these
abbrev pub by_kind : List Event → ℕ → List Event
by_kind events kind = filter (λ e. nat_eq e.kind kind) events

-- no event of any type
abbrev pub none : ℕ → List Event
none kind = []

-- an event is sure by a log: no call on the unit failed in the second in which it is noted
abbrev pub is_sure_by : RunLog → Event → Bool
is_sure_by log e = not (has_failed_in log (noting_second e))

-- no event is taken for sure
abbrev pub none_sure : Event → Bool
none_sure e = false

-- every event is taken for sure
abbrev pub all_sure : Event → Bool
all_sure e = true

-- AN IMAGE SHOWS THESE EVENTS behind one, whatever calls failed: of each type each that is sure was noted, one after
-- another, and of each other one nothing came, or it was noted, or the one place that it takes is empty; and so it is
-- of the first over speeding and of their number. `number` gives the numbers of the cards.
pub record ShowsEvents (number : Card → List ℕ) (sure : Event → Bool) (start : List ℕ) (l : ℕ → List Event)
    (x : List ℕ) : Type 0 where
  pub tables : (kind : ℕ) → Contains all_kinds kind
      → AreNotedBut number sure (table_in kind start) (l kind) (table_in kind x)
  pub first : IsFirstBut sure (number_of start FIRST_OVER) (l OVER_SPEEDING) (number_of x FIRST_OVER)
  pub count : number_of start OVER_COUNT ≤ 255
      → IsCountedBut sure (number_of start OVER_COUNT) (l OVER_SPEEDING) (number_of x OVER_COUNT)

-- so it does, by a log, behind the image at the start, whose number of over speedings is at most 255
pub record ShowsSince (number : Card → List ℕ) (log : RunLog) (start : List ℕ) (l : ℕ → List Event) (x : List ℕ) : Type
    0 where
  pub events : ShowsEvents number (is_sure_by log) start l x
  pub few : number_of start OVER_COUNT ≤ 255

-- and so does every image that a stop may leave now
pub record HasNoted (number : Card → List ℕ) (start : List ℕ) (log : RunLog) (l : ℕ → List Event) (unit : State) : Type
    0 where
  pub shows : (x : List ℕ) → unit.may_leave x → ShowsSince number log start l x

-- these are those events with more between them, none of which is sure
abbrev pub HasUnsureMore : (Event → Bool) → (l now : List Event) → Type 0
HasUnsureMore sure l [] = l ≡ []
HasUnsureMore sure l (e ∷ now) = ((rest : List Event) × (l ≡ e ∷ rest) × HasUnsureMore sure rest now)
    ⊎ ((sure e ≡ false) × HasUnsureMore sure l now)

-- a step leads from these events to those by bringing these few more, by type: what else is among them is not sure
abbrev pub AllLead : (sure : Event → Bool) → (l more now : ℕ → List Event) → Type 0
AllLead sure l more now = (kind : ℕ) → Contains all_kinds kind → HasUnsureMore sure (l kind ++ more kind) (now kind)

-- of each type these are the first of those
abbrev pub AreTheFirst : (some all : ℕ → List Event) → Type 0
AreTheFirst some all = (kind : ℕ) → Contains all_kinds kind → (rest : List Event) × (all kind ≡ some kind ++ rest)

-- the numbers of cards fill their field
abbrev pub AreNumbers : (Card → List ℕ) → Type 0
AreNumbers number = (card : Card) → length (number card) ≡ 18

-- two images show the same of events and faults
pub record SaysNothing (x c : List ℕ) : Type 0 where
  pub tables : (kind : ℕ) → Contains all_kinds kind → table_in kind c ≡ table_in kind x
  pub first_over : number_of c FIRST_OVER ≡ number_of x FIRST_OVER
  pub over_count : number_of c OVER_COUNT ≡ number_of x OVER_COUNT
