-- The distances of days, and the interruptions of the power, that a unit file tells (profile).
use Rattle.std.specs.Prelude.{◌≡◌, ℕ, ◌+◌, ◌-◌, ◌/◌, ◌==◌, ◌&&◌, nat_lt, nat_le, if◌then◌else◌, List, [], ◌∷◌, ◌++◌}
use Rattle.std.specs.Prelude.{map}
use Rattle.card_layout.specs.Images.{number_at}
use Rattle.message_model.specs.Messages.{Message, DayMessage, AnOverview, ADay, AnEventList, ASpeedList, ATechnical}
use Rattle.message_model.specs.Messages.{IsUnitFile}
use Rattle.view_model.specs.declared.marks.Gap.{Gap}
use Rattle.view_model.specs.declared.marks.Distance.{Distance}
use Rattle.file_view.specs.UnitFiles.{days_told}
use Rattle.unit_marks.specs.declared.marks.Midnight.{Midnight}
use Rattle.event_model.specs.declared.kinds.TheConstants.{POWER_INTERRUPTION}
use Rattle.unit_marks.specs.declared.marks.TheConstants.{EVENT_BEGIN, EVENT_END}

-- the type of an event
abbrev pub kind_in : List ℕ → ℕ
kind_in event = number_at event 0 1

-- its begin, in seconds
abbrev pub begin_in : List ℕ → ℕ
begin_in event = number_at event EVENT_BEGIN 4

-- its end, in seconds
abbrev pub end_in : List ℕ → ℕ
end_in event = number_at event EVENT_END 4

-- the minutes that lie whole between two seconds
abbrev pub whole_minutes : (begin end : ℕ) → Gap
whole_minutes begin end = record { first = (begin + 59) / 60; behind = end / 60 }

-- THE GAPS that events tell: the minutes that lie whole in an interruption of the power
abbrev pub gap_of : List ℕ → List Gap
gap_of event = if kind_in event == POWER_INTERRUPTION then whole_minutes (begin_in event) (end_in event) ∷ [] else []

-- the gaps of events, in their order
abbrev pub gaps_of : List (List ℕ) → List Gap
gaps_of [] = []
gaps_of (event ∷ events) = gap_of event ++ gaps_of events

-- those of a file, in the order of its events
abbrev pub gaps_told : List Message → List Gap
gaps_told [] = []
gaps_told (AnEventList m ∷ ms) = gaps_of m.events ++ gaps_told ms
gaps_told (AnOverview m ∷ ms) = gaps_told ms
gaps_told (ADay m ∷ ms) = gaps_told ms
gaps_told (ASpeedList m ∷ ms) = gaps_told ms
gaps_told (ATechnical m ∷ ms) = gaps_told ms

-- the midnight that the message of a day tells
abbrev pub midnight_of : DayMessage → Midnight
midnight_of m = record { date = m.date; odometer = m.odometer }

-- what the odometer gained from a midnight to a later one
abbrev pub gained : Midnight → Midnight → List Distance
gained day next =
    if nat_lt day.date next.date && nat_le day.odometer next.odometer
    then record { day = day.date / 86400; km = next.odometer - day.odometer } ∷ []
    else []

-- midnights by their dates, with one that is told before them: it takes the place of one of its date
abbrev pub with_midnight : Midnight → List Midnight → List Midnight
with_midnight day [] = day ∷ []
with_midnight day (next ∷ days) =
    if nat_lt day.date next.date then day ∷ next ∷ days
    else (if day.date == next.date then day ∷ days else next ∷ with_midnight day days)

-- THE MIDNIGHTS that are told, by their dates: each date once, by its first telling
abbrev pub by_date : List Midnight → List Midnight
by_date [] = []
by_date (day ∷ days) = with_midnight day (by_date days)

-- what the odometer gained from each midnight to the one behind it
abbrev pub gains_of : List Midnight → List Distance
gains_of [] = []
gains_of (day ∷ []) = []
gains_of (day ∷ next ∷ days) = gained day next ++ gains_of (next ∷ days)

-- THE DISTANCES of days: what the odometer gained until the midnight of the least later date that is told, wherever it
-- stands, where the odometer is no less then
abbrev pub distances_of : List Midnight → List Distance
distances_of midnights = gains_of (by_date midnights)

-- the bytes are a unit file that tells these gaps and distances
pub record TellsMarks (bytes : List ℕ) (gaps : List Gap) (distances : List Distance) : Type 0 where
  pub messages : List Message
  pub file : IsUnitFile messages bytes
  pub gaps_are : gaps ≡ gaps_told messages
  pub distances_are : distances ≡ distances_of (map midnight_of (days_told messages))
