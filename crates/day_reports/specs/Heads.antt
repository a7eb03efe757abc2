-- The distance that the head of a day of a card tells.
use Rattle.std.specs.Prelude.{◌/◌}
use Rattle.card_days.specs.declared.head.DayHead.{DayHead}
use Rattle.view_model.specs.declared.marks.Distance.{Distance}

-- the day of a head, and the kilometres that it tells
abbrev pub distance_by : DayHead → Distance
distance_by head = record { day = head.date.0 / 86400; km = head.km.0 }
