-- How many events of its day each held event stands for, of types that keep one event a day (Annex IB, section III.12).
use Rattle.std.specs.Prelude.{◌≡◌, ℕ, ◌+◌, ◌/◌, ◌<◌, min, Option, Some, None, List, length, map, find, fold}
use Rattle.std.specs.Prelude.{slice_index_or, slice_set}
use Rattle.event_model.specs.declared.entries.Held.{Held}
use Rattle.event_model.specs.Places.{is_of_day, day_place, place_of, similar_after}
use Rattle.event_model.specs.Kept.{on_day}

-- an event in its place, with the number of similar events of its day
pub record Counted : Type 0 where
  pub held : Held
  pub similar : ℕ

-- the events of these places
abbrev pub held_of : List Counted → List Held
held_of table = map (λ c. c.held) table

-- what stands at a place
abbrev pub counted_in : List Counted → ℕ → Counted
counted_in table place = slice_index_or table place
    (record { held = record { begin = 0; end = 0; weight = 0 }; similar = 0 })

-- how many similar events it counts
abbrev pub similar_in : List Counted → Option ℕ → Option ℕ
similar_in table None = None
similar_in table (Some place) = Some (counted_in table place).similar

-- One event more: it stands at the place that it takes, with the similar events of its day; where it takes none, the
-- event of its day counts one more, if one is held.
abbrev pub counted_at : List Counted → Held → (place day : Option ℕ) → List Counted
counted_at table event (Some p) day = slice_set table p
    (record { held = event; similar = similar_after (similar_in table day) })
counted_at table event None (Some q) = slice_set table q
    (record { held = (counted_in table q).held; similar = similar_after (similar_in table (Some q)) })
counted_at table event None None = table

-- the places of a type with one event more
abbrev pub counted : ℕ → List Counted → Held → List Counted
counted kind table event = counted_at table event (place_of kind (held_of table) event)
    (day_place kind (held_of table) event)

-- the places once all these were noted, one after another
abbrev pub all_counted : ℕ → List Counted → List Held → List Counted
all_counted kind table events = fold (counted kind) table events

-- the number of a found event, 0 without one
abbrev pub number_of : Option Counted → ℕ
number_of None = 0
number_of (Some c) = c.similar

-- the number that the held event of a day has, 0 where none is held
abbrev pub similar_on : ℕ → List Counted → ℕ
similar_on day table = number_of (find (λ c. is_of_day day c.held) table)

-- Each event that stands in a place counts those of its day: the number that was held of that day at the start, and the
-- events of the run on it, at most 255.
abbrev pub CountsDays : (start : List Counted) → (run : List Held) → List Counted → Type 0
CountsDays start run table =
    (i : ℕ) → i < length table → 0 < (counted_in table i).held.begin
    → (counted_in table i).similar
    ≡ min 255 (similar_on ((counted_in table i).held.begin / 86400) start
    + length (on_day ((counted_in table i).held.begin / 86400) run))
