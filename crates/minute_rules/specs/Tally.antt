-- Runs of equal seconds, counted as they come.
use Rattle.std.specs.Prelude.{ℕ, ◌+◌, ◌==◌, nat_lt, if◌then◌else◌, List, [], ◌∷◌}
use Rattle.activity_codec.specs.Activity.{same_activity}
use Rattle.activity_codec.specs.declared.values.Activity.{Activity}
use Rattle.activity_codec.specs.declared.values.Activity.TheVariants.{Rest}
use Rattle.minute_rules.specs.declared.tally.Tally.{Tally}

-- no second yet
abbrev pub no_run : Tally
no_run = record { best = Rest; best_seconds = 0; going = Rest; going_seconds = 0 }

-- so many more seconds of one activity
abbrev pub with_run : Tally → Activity → ℕ → Tally
with_run tally act n =
    if n == 0 then tally
    else if same_activity act tally.going
    then record {
      best = tally.best;
      best_seconds = tally.best_seconds;
      going = tally.going;
      going_seconds = tally.going_seconds + n;
    }
    else if nat_lt tally.going_seconds tally.best_seconds
    then record { best = tally.best; best_seconds = tally.best_seconds; going = act; going_seconds = n }
    else record { best = tally.going; best_seconds = tally.going_seconds; going = act; going_seconds = n }

-- the activity of the longest run, the latest of equally long ones
abbrev pub longest_in : Tally → Activity
longest_in tally = if nat_lt tally.going_seconds tally.best_seconds then tally.best else tally.going

-- these seconds, one after another
abbrev pub tally_from : Tally → List Activity → Tally
tally_from tally [] = tally
tally_from tally (act ∷ acts) = tally_from (with_run tally act 1) acts

-- so of a whole list of seconds
abbrev pub tally_of : List Activity → Tally
tally_of acts = tally_from no_run acts
