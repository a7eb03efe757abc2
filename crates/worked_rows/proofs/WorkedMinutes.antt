-- Worked rows of the minutes of a trace that begins at 2010-03-01 00:00, computed from its lines.
use Rattle.std.proofs.Common.{◌≡◌, ℕ, ◌+◌, ◌*◌, zero, suc, List, [], ◌∷◌, refl}
use Rattle.activity_codec.specs.declared.values.Slot.TheVariants.{Driver, CoDriver}
use Rattle.activity_codec.specs.declared.values.Activity.{Activity}
use Rattle.activity_codec.specs.declared.values.Activity.TheVariants.{Rest, Available, Work, Driving}
use Rattle.activity_codec.specs.declared.values.Pick.TheVariants as pick
use Rattle.minute_model.specs.declared.Rule.TheVariants.{Original, Amended}
use Rattle.minute_model.specs.declared.Minute.{Minute}
use Rattle.minute_model.specs.Minute.{decided}
use Rattle.trace_model.specs.declared.Action.TheVariants.{Select}
use Rattle.trace_model.specs.declared.Item.{Item}
use Rattle.trace_model.specs.declared.Item.TheVariants.{Run, Act}
use Rattle.trace_model.specs.Trace.{seconds_of}
use Rattle.run_model.specs.Span.{span_of}

-- the decided minutes of these items
abbrev minutes : List Item → List Minute
minutes items = decided Original (span_of (seconds_of 1267401600 items)) []

-- a minute of that day, by its number since midnight: both activities, and the sum of the speeds up to its end
abbrev minute : ℕ → Activity → Activity → ℕ → Minute
minute m driver codriver travelled = record { minute = 21123360 + m; driver = driver; codriver = codriver; travelled = travelled }

-- n minutes from one on at 50 km/h, which began at midnight
abbrev at_fifty : ℕ → ℕ → List Minute
at_fifty m zero = []
at_fifty m (suc n) = minute m Driving Available (3000 * (m + 1)) ∷ at_fifty (m + 1) n

-- an hour at 50 km/h decides 58 minutes
drives_through_the_hour : minutes (Run 3600 50 ∷ []) ≡ at_fifty 0 58
unfolding decided seconds_of
drives_through_the_hour = refl

-- two short drives: the minute between them is DRIVING too
drives_between_two_drives : minutes (Run 60 0 ∷ Run 1 30 ∷ Run 119 0 ∷ Run 1 30 ∷ Run 179 0 ∷ []) ≡ minute 0 Rest Rest 0 ∷ minute 1 Driving Available 30 ∷ minute 2 Driving Available 30 ∷ minute 3 Driving Available 60 ∷ []
unfolding decided seconds_of
drives_between_two_drives = refl

-- thirty seconds of work, then thirty of rest: the latest of equally long ones
latest_of_equals : minutes (Act (Select Driver pick.Work) ∷ Run 30 0 ∷ Act (Select Driver pick.Rest) ∷ Run 150 0 ∷ []) ≡ minute 0 Rest Rest 0 ∷ []
unfolding decided seconds_of
latest_of_equals = refl

-- the same of the co-driver
latest_of_equals_codriver : minutes (Act (Select CoDriver pick.Work) ∷ Run 30 0 ∷ Act (Select CoDriver pick.Available) ∷ Run 150 0 ∷ []) ≡ minute 0 Rest Available 0 ∷ []
unfolding decided seconds_of
latest_of_equals_codriver = refl

-- rest that is selected 120 seconds after the stop counts from the stop on
rest_in_time : minutes (Run 60 40 ∷ Run 120 0 ∷ Act (Select Driver pick.Rest) ∷ Run 180 0 ∷ []) ≡ minute 0 Driving Available 2400 ∷ minute 1 Rest Available 2400 ∷ minute 2 Rest Available 2400 ∷ minute 3 Rest Available 2400 ∷ []
unfolding decided seconds_of
rest_in_time = refl

-- 121 seconds after the stop it is too late: WORK until then
rest_too_late : minutes (Run 60 40 ∷ Run 121 0 ∷ Act (Select Driver pick.Rest) ∷ Run 179 0 ∷ []) ≡ minute 0 Driving Available 2400 ∷ minute 1 Work Available 2400 ∷ minute 2 Work Available 2400 ∷ minute 3 Rest Available 2400 ∷ []
unfolding decided seconds_of
rest_too_late = refl

-- a selection in a moving second does not count
selects_in_motion : minutes (Run 30 40 ∷ Act (Select Driver pick.Rest) ∷ Act (Select CoDriver pick.Work) ∷ Run 30 40 ∷ Run 180 0 ∷ []) ≡ minute 0 Driving Available 2400 ∷ minute 1 Work Available 2400 ∷ []
unfolding decided seconds_of
selects_in_motion = refl

-- of several selections in time, the first of rest or availability counts from the stop on, and the last one later
first_from_the_stop : minutes (Run 60 40 ∷ Act (Select Driver pick.Work) ∷ Run 60 0 ∷ Act (Select Driver pick.Available) ∷ Act (Select Driver pick.Rest) ∷ Run 240 0 ∷ []) ≡ minute 0 Driving Available 2400 ∷ minute 1 Available Available 2400 ∷ minute 2 Rest Available 2400 ∷ minute 3 Rest Available 2400 ∷ []
unfolding decided seconds_of
first_from_the_stop = refl

-- a settling two minutes after midnight decides both minutes at once, by what is known then: the rest that is selected later is not
settles_after_two_minutes : decided Original (span_of (seconds_of 1267401600 (Run 60 40 ∷ Run 65 0 ∷ Act (Select Driver pick.Rest) ∷ Run 60 0 ∷ []))) (1267401720 ∷ []) ≡ minute 0 Driving Available 2400 ∷ minute 1 Work Available 2400 ∷ []
unfolding decided seconds_of
settles_after_two_minutes = refl

-- twenty seconds of driving make a minute DRIVING by the original rule, and not by the amended one, which decides later
abbrev short_drive : List Item
short_drive = Run 20 40 ∷ Run 280 0 ∷ []

drives_by_one_second : minutes short_drive ≡ minute 0 Driving Available 800 ∷ minute 1 Work Available 800 ∷ minute 2 Work Available 800 ∷ []
unfolding decided seconds_of
drives_by_one_second = refl

works_by_the_longest : decided Amended (span_of (seconds_of 1267401600 short_drive)) [] ≡ minute 0 Work Available 800 ∷ minute 1 Work Available 800 ∷ []
unfolding decided seconds_of
works_by_the_longest = refl

-- a minute between two whose longest is DRIVING is DRIVING by both
abbrev stops_between : List Item
stops_between = Run 60 40 ∷ Run 60 0 ∷ Run 60 40 ∷ Run 120 0 ∷ []

drives_between : decided Amended (span_of (seconds_of 1267401600 stops_between)) [] ≡ minute 0 Driving Available 2400 ∷ minute 1 Driving Available 2400 ∷ []
unfolding decided seconds_of
drives_between = refl
