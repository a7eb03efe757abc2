-- Which place an event takes among the held ones of its type (Annex IB, section III.12; the order of equals: profile).
use Rattle.std.specs.Prelude.{ℕ, ◌+◌, ◌-◌, ◌/◌, ◌==◌, min, not, ◌&&◌, Bool, Option, Some, None, List, slice_index_or}
use Rattle.std.specs.Prelude.{slice_set, position, nat_lt, nat_le, if◌then◌else◌}
use Rattle.std.specs.List.{list_all}
use Rattle.event_model.specs.declared.kinds.Purpose.{Purpose}
use Rattle.event_model.specs.declared.kinds.Purpose.TheVariants.{MostRecent, Longest, Last, HighestAverage}
use Rattle.event_model.specs.declared.entries.Held.{Held}
use Rattle.event_model.specs.Kinds.{purpose_of, is_by_day}

-- The lowest place of the earliest begin: an empty place has begin 0, so it goes first. On a card each event takes this
-- place.
abbrev pub earliest : {T : Type 0} → (begin_of : T → ℕ) → List T → Option ℕ
earliest begin_of xs = position (λ x. list_all (λ y. nat_le (begin_of x) (begin_of y)) xs) xs

-- the event at a place
abbrev pub held_at : List Held → ℕ → Held
held_at held place = slice_index_or held place (record { begin = 0; end = 0; weight = 0 })

-- a place, where the event there begins earlier than this one
abbrev pub where_later : List Held → Held → Option ℕ → Option ℕ
where_later held event None = None
where_later held event (Some place) = if nat_lt (held_at held place).begin event.begin then Some place else None

-- the earliest place, where the event begins later
abbrev pub recent_place : List Held → Held → Option ℕ
recent_place held event = where_later held event (earliest (λ h. h.begin) held)

-- an event that began on this day
abbrev pub is_of_day : ℕ → Held → Bool
is_of_day day held = not (held.begin == 0) && (held.begin / 86400 == day)

-- the place of the event of the same day, where a type keeps one a day
abbrev pub day_place : ℕ → List Held → Held → Option ℕ
day_place kind held event = if is_by_day (purpose_of kind) then position (is_of_day (event.begin / 86400)) held
    else None

-- by what the events of a day are measured
abbrev pub measure : Purpose → Held → ℕ
measure MostRecent event = event.begin
measure Longest event = event.end - event.begin
measure Last event = event.begin
measure HighestAverage event = event.weight

-- the place of the event of the same day where it measures less, and without one the earliest place
abbrev pub place_beside : Purpose → List Held → Held → Option ℕ → Option ℕ
place_beside purpose held event None = recent_place held event
place_beside purpose held event (Some place) =
    if nat_lt (measure purpose (held_at held place)) (measure purpose event) then Some place else None

-- the place that an event takes on the unit
abbrev pub place_of : ℕ → List Held → Held → Option ℕ
place_of kind held event = place_beside (purpose_of kind) held event (day_place kind held event)

-- the number of similar events once one more came, where an event of the same day was held with this number
abbrev pub similar_after : Option ℕ → ℕ
similar_after None = 1
similar_after (Some similar) = min 255 (similar + 1)

-- an event stands at a place
abbrev pub placed : List Held → Held → Option ℕ → List Held
placed held event None = held
placed held event (Some place) = slice_set held place event

-- the held events once one more was noted
abbrev pub noted : ℕ → List Held → Held → List Held
noted kind held event = placed held event (place_of kind held event)
