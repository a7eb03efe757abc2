-- Which events of a type are kept, of those that came so far, in their order (Annex IB, section III.12).
use Rattle.std.specs.Prelude.{◌≡◌, ◌⊎◌, ℕ, ◌/◌, ◌==◌, ◌<◌, ◌≤◌, not, true, Option, Some, List, ◌++◌, length, filter}
use Rattle.std.specs.Prelude.{find, fold, nat_le, All, IsPermutation}
use Rattle.std.specs.List.{list_any, list_all}
use Rattle.event_model.specs.declared.kinds.Purpose.{Purpose}
use Rattle.event_model.specs.declared.entries.Held.{Held}
use Rattle.event_model.specs.Places.{measure, noted}

-- what stands in the places
abbrev pub stored : List Held → List Held
stored held = filter (λ h. not (h.begin == 0)) held

-- The most recent are kept: all, where there is room; else each one that is not begins no later than each that is.
pub record KeepsRecent (room : ℕ) (all kept : List Held) : Type 0 where
  pub others : List Held
  pub parts : IsPermutation all (kept ++ others)
  pub most : length kept ≤ room
  pub recent : All (λ other. (length kept ≡ room) × All (λ h. other.begin ≤ h.begin) kept) others

-- the events that begin on a day
abbrev pub on_day : ℕ → List Held → List Held
on_day day events = filter (λ h. h.begin / 86400 == day) events

-- the best of a day: the first of those that measure most
abbrev pub best_of : Purpose → List Held → Option Held
best_of purpose events = find (λ h. list_all (λ other. nat_le (measure purpose other) (measure purpose h)) events)
    events

-- The best of each of the last days is kept: one a day; each event that came is of such a day, or of an earlier one
-- than all of them, where there is no more room.
pub record KeepsDays (purpose : Purpose) (room : ℕ) (all kept : List Held) : Type 0 where
  pub best : All (λ h. best_of purpose (on_day (h.begin / 86400) all) ≡ Some h) kept
  pub one : (day : ℕ) → length (on_day day kept) ≤ 1
  pub most : length kept ≤ room
  pub days : All (λ e. (list_any (λ h. h.begin / 86400 == e.begin / 86400) kept ≡ true)
      ⊎ ((length kept ≡ room) × All (λ h. e.begin / 86400 < h.begin / 86400) kept)) all

-- the held events once all these were noted, one after another
abbrev pub all_noted : ℕ → List Held → List Held → List Held
all_noted kind held events = fold (noted kind) held events
