-- Worked rows of the days of a unit as they are written, of the shape of a ring, of blocks of detailed speed, and of what a
-- card is owed.
use Rattle.std.proofs.Common.{◌≡◌, ℕ, ◌+◌, ◌*◌, Bool, true, false, Option, Some, None, List, [], ◌∷◌, ◌++◌, map, length, replicate, refl}
use Rattle.std.specs.Prelude.{take, drop}
use Rattle.activity_codec.specs.declared.values.Slot.TheVariants.{Driver, CoDriver}
use Rattle.activity_codec.specs.declared.values.Activity.TheVariants.{Rest, Available, Work, Driving}
use Rattle.view_model.specs.declared.State.{State as SlotState}
use Rattle.trace_model.specs.declared.Card.{Card}
use Rattle.trace_model.specs.declared.Card.TheVariants.{A, B}
use Rattle.trace_model.specs.Trace.{TraceSecond, seconds_of}
use Rattle.minute_model.specs.declared.Rule.TheVariants.{Original}
use Rattle.minute_model.specs.Minute.{decided}
use Rattle.minute_model.specs.Span.{Span, begin}
use Rattle.log_model.specs.Log.{cut_in, is_torn_in, found_in}
use Rattle.log_model.specs.Course.{went}
use Rattle.log_model.specs.Spans.{spans_of}
use Rattle.history_model.specs.Minutes.{HistoryMinute, card_history}
use Rattle.history_model.specs.Presence.{Start, CardStart, present_in, newest_minute}
use Rattle.event_model.specs.Spans.{SpeedSecond}
use Rattle.gated_ring.specs.Ring.{Shape, up_to, newest_of, indices}
use Rattle.speed_model.specs.Stored.{stored_blocks}
use Rattle.speed_model.specs.Blocks.{blocks_of, blocks_in}
use Rattle.unit_model.specs.Days.{StoredDay, UnitMinute, minute_by}
use Rattle.unit_model.specs.Changes.{closing_words, first_states, further_words}
use Rattle.unit_minutes.specs.declared.coming.Coming.{Coming}
use Rattle.unit_minutes.specs.DaysWith.{day_with, closed_day, begun_day, days_with}
use Rattle.unit_minutes.specs.Kept.{written_at}
use Rattle.unit_rule.specs.Written.{MinuteWritten, days_behind}
use Rattle.run_speeds.specs.Spans.{speed_of, speed_spans, blocks_by, is_sure_block}
use Rattle.run_course.specs.Kept.{settled_times}
use Rattle.run_acts.specs.Owed.{runs_on}
use Rattle.worked_promises.proofs.Scenario.{at, log, told, seconds}
use Rattle.worked_promises.proofs.Images.{unit}

-- ---- words of a minute. The bits of a state: 8 CREW, 4 no card, and rest 0, availability 1, work 2, driving 3; a word has
-- them above eleven bits of the minute, and the co-driver's word the highest bit.

-- work at 00:05 on, the co-driver's slot bare: behind the last minute kept both are as without a card; his is so already
closed_behind_work : closing_words 6 2 4 ≡ 0x2006 ∷ []
closed_behind_work = refl

closed_behind_a_crew : closing_words 6 11 9 ≡ 0x2006 ∷ 0xA006 ∷ []
closed_behind_a_crew = refl

-- at the end of the day there is no minute to close at
closed_at_midnight : closing_words 1440 2 4 ≡ []
closed_at_midnight = refl

-- the first words of a day are of 00:00: those of the minute, where it is that; else both without a card
begun_at_midnight : first_states 0 2 5 ≡ 0x1000 ∷ 0xA800 ∷ []
begun_at_midnight = refl

begun_later : first_states 480 2 5 ≡ 0x2000 ∷ 0xA000 ∷ []
begun_later = refl

further_at_midnight : further_words 0 2 5 ≡ []
further_at_midnight = refl

further_later : further_words 480 2 5 ≡ 0x11E0 ∷ 0xA9E0 ∷ []
further_later = refl

-- one slot may stay without a card
further_of_one : further_words 480 2 4 ≡ 0x11E0 ∷ []
further_of_one = refl

-- ---- days. 2010-03-01 with work at 08:00 of a driver alone, at 1000 km.

abbrev day : List ℕ → StoredDay
day words = record { date = 1267401600; odometer = 1000; words = words }

abbrev worked : StoredDay
worked = day (0x2000 ∷ 0xA000 ∷ 0x11E0 ∷ [])

abbrev coming : (minute driver codriver odometer : ℕ) → Coming
coming minute driver codriver odometer = record { minute = minute; bits = record { driver = driver; codriver = codriver }; odometer = odometer }

-- driving in the next minute: one word; the same work: none; driving a minute later: first the gap
next_minute : day_with 21123840 (coming 21123841 3 4 1001) worked ≡ day (0x2000 ∷ 0xA000 ∷ 0x11E0 ∷ 0x19E1 ∷ [])
next_minute = refl

same_state : day_with 21123840 (coming 21123841 2 4 1001) worked ≡ worked
same_state = refl

behind_a_gap : day_with 21123840 (coming 21123842 3 4 1001) worked ≡ day (0x2000 ∷ 0xA000 ∷ 0x11E0 ∷ 0x21E1 ∷ 0x19E2 ∷ [])
behind_a_gap = refl

closed_behind_it : closed_day 21123840 worked ≡ day (0x2000 ∷ 0xA000 ∷ 0x11E0 ∷ 0x21E1 ∷ [])
closed_behind_it = refl

-- 2010-03-02 00:00 and 08:00
abbrev next_day : List ℕ → StoredDay
next_day words = record { date = 1267488000; odometer = 1003; words = words }

begun_with_its_first_minute : begun_day (coming 21124800 3 5 1003) ≡ next_day (0x1800 ∷ 0xA800 ∷ [])
begun_with_its_first_minute = refl

begun_with_a_later_one : begun_day (coming 21125280 2 4 1003) ≡ next_day (0x2000 ∷ 0xA000 ∷ 0x11E0 ∷ [])
begun_with_a_later_one = refl

-- without a day it is begun; on its own day it comes to that; on a later one the day before is closed; older days stay
first_day : days_with 0 (coming 21123840 2 4 1000) [] ≡ worked ∷ []
first_day = refl

same_day : days_with 21123840 (coming 21123841 3 4 1001) (worked ∷ []) ≡ day (0x2000 ∷ 0xA000 ∷ 0x11E0 ∷ 0x19E1 ∷ []) ∷ []
same_day = refl

later_day : days_with 21123840 (coming 21125280 2 4 1003) (worked ∷ [])
    ≡ day (0x2000 ∷ 0xA000 ∷ 0x11E0 ∷ 0x21E1 ∷ []) ∷ next_day (0x2000 ∷ 0xA000 ∷ 0x11E0 ∷ []) ∷ []
later_day = refl

older_day : days_with 21125280 (coming 21125281 2 4 1003) (worked ∷ next_day (0x2000 ∷ 0xA000 ∷ 0x11E0 ∷ []) ∷ [])
    ≡ worked ∷ next_day (0x2000 ∷ 0xA000 ∷ 0x11E0 ∷ []) ∷ []
older_day = refl

-- a minute of the unit: a crew that drives
abbrev crew : UnitMinute
crew = record { minute = 21123841; driver = record { act = Driving; present = true }; codriver = record { act = Available; present = true }; crew = true }

written_so : written_at 1001 crew ≡ coming 21123841 11 9 1001
written_so = refl

-- two minutes of the history, one after the other, behind 08:00: driving with both cards, then no card
abbrev crew_minute : MinuteWritten
crew_minute = record { minute = record { minute = 21123841; driver = record { act = Driving; card = Some A }; codriver = record { act = Available; card = Some B } }; odometer = 1001 }

abbrev bare_minute : MinuteWritten
bare_minute = record { minute = record { minute = 21123842; driver = record { act = Work; card = None }; codriver = record { act = Available; card = None } }; odometer = 1002 }

behind_two_minutes : days_behind 21123840 (crew_minute ∷ bare_minute ∷ []) (worked ∷ [])
    ≡ day (0x2000 ∷ 0xA000 ∷ 0x11E0 ∷ 0x59E1 ∷ 0xC9E1 ∷ 0x31E2 ∷ 0xA9E2 ∷ []) ∷ []
behind_two_minutes = refl

behind_none : days_behind 21123840 [] (worked ∷ []) ≡ worked ∷ []
behind_none = refl

-- ---- a ring of four places

abbrev four : Shape
four = record { base = 0; width = 5; count = 4; pointer_width = 1; gate = 0 }

up_to_an_index : up_to four 3 2 ≡ 2 ∷ 3 ∷ []
up_to_an_index = refl

round_the_end : up_to four 1 3 ≡ 3 ∷ 0 ∷ 1 ∷ []
round_the_end = refl

all_of_them : up_to four 1 4 ≡ 2 ∷ 3 ∷ 0 ∷ 1 ∷ []
all_of_them = refl

none_of_them : up_to four 1 0 ≡ []
none_of_them = refl

newest_two : newest_of {X = ℕ} 2 (7 ∷ 8 ∷ 9 ∷ []) ≡ 8 ∷ 9 ∷ []
newest_two = refl

newest_of_fewer : newest_of {X = ℕ} 5 (8 ∷ 9 ∷ []) ≡ 8 ∷ 9 ∷ []
newest_of_fewer = refl

-- ---- blocks of detailed speed

speeds_of_some_seconds : map speed_of (take 2 (drop 59 told)) ≡ record { number = at 59; speed = 0 } ∷ record { number = at 60; speed = 72 } ∷ []
unfolding seconds_of went cut_in is_torn_in found_in
speeds_of_some_seconds = refl

three_spans : map length (speed_spans log seconds) ≡ 240 ∷ 81 ∷ 30 ∷ []
unfolding spans_of seconds_of went cut_in is_torn_in found_in
three_spans = refl

-- of the seven minutes 08:01, 08:02 and 08:03 were driven; 08:00 and 08:05 were at rest
three_blocks : blocks_by log seconds
    ≡ record { time = at 60; speeds = replicate 60 72 } ∷ record { time = at 120; speeds = replicate 60 72 } ∷ record { time = at 180; speeds = replicate 60 72 } ∷ []
unfolding blocks_in blocks_of spans_of seconds_of went cut_in is_torn_in found_in
three_blocks = refl

-- a block whose minute ends with the second of the failed call
sure_or_not : map (λ n. is_sure_block log (record { time = at n; speeds = [] })) (60 ∷ 291 ∷ []) ≡ true ∷ false ∷ []
sure_or_not = refl

no_block_in_a_unit_without : stored_blocks unit ≡ []
unfolding indices
no_block_in_a_unit_without = refl

-- ---- settlings at the next second of a span

abbrev span : Span
span = begin Original (at 0)

settled_twice : settled_times 2 span ≡ record span { settlings = at 0 ∷ at 0 ∷ [] }
settled_twice = refl

settled_never : settled_times 0 span ≡ span
settled_never = refl

-- ---- what was kept as a card is accepted

-- power goes on behind 08:03:58, not behind the second of the cut, nor without power; before the first second it does not
goes_on : map (λ n. runs_on (take n told)) (0 ∷ 239 ∷ 240 ∷ 250 ∷ 271 ∷ []) ≡ false ∷ true ∷ false ∷ false ∷ true ∷ []
unfolding seconds_of went cut_in is_torn_in found_in
goes_on = refl
