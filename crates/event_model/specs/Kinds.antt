-- How the events of a type are kept (Annex IB, section III.12; which purpose goes with which type: profile).
use Rattle.std.specs.Prelude.{ℕ, ◌==◌, ◌||◌, Bool, true, false, if◌then◌else◌}
use Rattle.event_model.specs.declared.kinds.Purpose.{Purpose}
use Rattle.event_model.specs.declared.kinds.Purpose.TheVariants.{MostRecent, Longest, Last, HighestAverage}
use Rattle.event_model.specs.declared.kinds.TheConstants.{CARD_NOT_VALID, TIME_OVERLAP, DRIVING_WITHOUT_CARD}
use Rattle.event_model.specs.declared.kinds.TheConstants.{INSERTION_WHILE_DRIVING, SESSION_NOT_CLOSED, OVER_SPEEDING}
use Rattle.event_model.specs.declared.kinds.TheConstants.{POWER_INTERRUPTION, CARD_FAULT, EVENT_PLACES, FAULT_PLACES}

-- a type of which the unit keeps events
abbrev pub is_event : ℕ → Bool
is_event kind =
    kind == CARD_NOT_VALID || kind == TIME_OVERLAP || kind == DRIVING_WITHOUT_CARD || kind == INSERTION_WHILE_DRIVING
    || kind == SESSION_NOT_CLOSED || kind == OVER_SPEEDING || kind == POWER_INTERRUPTION

-- driving without a card and power interruptions by their length, insertions while driving the last, over speedings by
-- their average, all others the most recent
abbrev pub purpose_of : ℕ → Purpose
purpose_of kind =
    if kind == DRIVING_WITHOUT_CARD || kind == POWER_INTERRUPTION then Longest
    else (if kind == INSERTION_WHILE_DRIVING then Last
    else (if kind == OVER_SPEEDING then HighestAverage else MostRecent))

-- its number (Appendix 1, EventFaultRecordPurpose)
abbrev pub purpose_number : Purpose → ℕ
purpose_number MostRecent = 0
purpose_number Longest = 1
purpose_number Last = 3
purpose_number HighestAverage = 4

-- one event a day is kept, of the last ten days of occurrence
abbrev pub is_by_day : Purpose → Bool
is_by_day MostRecent = false
is_by_day Longest = true
is_by_day Last = true
is_by_day HighestAverage = true

-- how many places a type has on the unit
abbrev pub places_of : ℕ → ℕ
places_of kind = if kind == CARD_FAULT then FAULT_PLACES else EVENT_PLACES
