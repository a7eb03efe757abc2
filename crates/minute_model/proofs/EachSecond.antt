-- The activity of each second by the seconds before it and after it: what the proofs walk along.
use Rattle.std.specs.Prelude.{◌-◌, if◌then◌else◌, List, [], ◌∷◌, ◌++◌, length, take, filter}
use Rattle.std.specs.List.{list_any}
use Rattle.activity_codec.specs.Activity.{activity_of, is_rest_or_available}
use Rattle.activity_codec.specs.declared.values.Activity.{Activity}
use Rattle.activity_codec.specs.declared.values.Activity.TheVariants.{Rest, Available, Work, Driving}
use Rattle.activity_codec.specs.declared.values.Pick.{Pick}
use Rattle.minute_model.specs.Second.{Second}
use Rattle.minute_model.specs.Stops.{is_still, all_still, last_still, driver_picks, codriver_picks, last_pick}

-- the seconds at speed 0 that these begin with
abbrev pub first_still : List Second → List Second
first_still [] = []
first_still (second ∷ seconds) = if is_still second then second ∷ first_still seconds else []

-- the first selection, or this activity where there is none
abbrev pub first_pick : Activity → List Pick → Activity
first_pick none [] = none
first_pick none (pick ∷ picks) = activity_of pick

-- The driver's activity in a second at speed 0 after motion: `since` are the seconds from the stop to this
-- one, `after` the known seconds after it. Once rest or availability was selected since the stop, the last
-- selection counts. Until then it is WORK, unless rest or availability is selected later, at most 120 seconds
-- after the stop and before any motion: the first such selection counts as made at the stop.
abbrev pub driver_after_stop : List Second → List Second → Activity
driver_after_stop since after =
    if list_any is_rest_or_available (driver_picks since) then last_pick Work (driver_picks since)
    else first_pick Work (filter is_rest_or_available (driver_picks (take (121 - length since) (first_still after))))

-- The driver's activity in the second `now`: `before` are the span's seconds before it, `after` the known ones after it.
abbrev pub driver_between : List Second → Second → List Second → Activity
driver_between before now after =
    if is_still now then (if all_still before then last_pick Rest (driver_picks (before ++ now ∷ []))
    else driver_after_stop (last_still (before ++ now ∷ [])) after)
    else Driving

-- The co-driver's: the last selection at speed 0 since motion.
abbrev pub codriver_between : List Second → Second → List Second → Activity
codriver_between before now after =
    if is_still now then last_pick (if all_still before then Rest else Available) (codriver_picks (last_still (before ++ now ∷ [])))
    else Available

-- what holds in each second, by the seconds before it and after it
abbrev pub each_second : (List Second → Second → List Second → Activity) → List Second → List Second → List Activity
each_second at before [] = []
each_second at before (now ∷ after) = at before now after ∷ each_second at (before ++ now ∷ []) after

-- the driver's activity in each second, as far as the span is known
abbrev pub drivers : List Second → List Activity
drivers seconds = each_second driver_between [] seconds

abbrev pub codrivers : List Second → List Activity
codrivers seconds = each_second codriver_between [] seconds
