-- Which minutes stand on one line of a view (profile).
use Rattle.std.specs.Prelude.{ℕ, ◌+◌, ◌/◌, ◌==◌, ◌&&◌, not, Bool, true, false, if◌then◌else◌, List, [], ◌∷◌}
use Rattle.activity_codec.specs.Activity.{same_slot, same_activity}
use Rattle.view_model.specs.declared.State.{State}
use Rattle.view_model.specs.declared.UnitShown.{UnitShown}
use Rattle.view_model.specs.declared.CardShown.{CardShown}
use Rattle.view_model.specs.declared.Viewed.{Viewed}
use Rattle.view_model.specs.declared.Line.{Line}

-- both or neither
abbrev pub same_bool : Bool → Bool → Bool
same_bool true b = b
same_bool false b = not b

-- two states of a slot are the same
abbrev pub same_state : State → State → Bool
same_state a b = same_activity a.act b.act && same_bool a.present b.present

-- a unit shows the same of two minutes
abbrev pub same_unit : UnitShown → UnitShown → Bool
same_unit a b = same_state a.driver b.driver && same_state a.codriver b.codriver && same_bool a.crew b.crew

-- a card shows the same of two minutes
abbrev pub same_card : CardShown → CardShown → Bool
same_card a b = same_slot a.slot b.slot && same_activity a.act b.act && same_bool a.crew b.crew

-- the day of a minute
abbrev pub day_of_minute : ℕ → ℕ
day_of_minute minute = minute / 1440

-- a minute is the one before a line, on the same day, and the same is shown of it
abbrev pub goes_on : {X : Type 0} → (X → X → Bool) → Viewed X → Line X → Bool
goes_on same m line = m.minute + 1 == line.first && day_of_minute m.minute == day_of_minute line.first
    && same m.shown line.shown

-- lines with one more minute in front
abbrev pub with_minute : {X : Type 0} → (X → X → Bool) → Viewed X → List (Line X) → List (Line X)
with_minute same m [] = record { first = m.minute; last = m.minute; shown = m.shown } ∷ []
with_minute same m (line ∷ lines) =
    if goes_on same m line then record { first = m.minute; last = line.last; shown = line.shown } ∷ lines
    else record { first = m.minute; last = m.minute; shown = m.shown } ∷ line ∷ lines

-- the lines of a view: the maximal runs of consecutive minutes within a day of which the same is shown
abbrev pub lines_of : {X : Type 0} → (X → X → Bool) → List (Viewed X) → List (Line X)
lines_of same [] = []
lines_of same (m ∷ minutes) = with_minute same m (lines_of same minutes)
