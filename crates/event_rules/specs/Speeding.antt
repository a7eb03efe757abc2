-- What is counted of the run above the limit that goes on.
use Rattle.std.specs.Prelude.{◌≡◌, ℕ, ◌+◌, ◌-◌, ◌*◌, ◌/◌, ◌==◌, ◌<◌, max, Option, Some, None, List, length, sum, fold}
use Rattle.std.specs.Prelude.{nat_lt, if◌then◌else◌}
use Rattle.event_model.specs.declared.entries.Over.{Over}
use Rattle.event_model.specs.Runs.{last_run}
use Rattle.event_model.specs.Spans.{SpeedSecond, InARow, first_of, is_above, numbers, speeds}
use Rattle.event_rules.specs.declared.speeding.Fast.{Fast}

-- the limit, and the run
pub record Speeding : Type 0 where
  pub limit : ℕ
  pub run : Fast

-- no run goes on
abbrev pub no_run : Fast
no_run = record { begin = 0; seconds = 0; sum = 0; most = 0 }

-- what is counted of a run
abbrev pub counted : List SpeedSecond → Fast
counted run = record {
  begin = first_of (numbers run);
  seconds = length run;
  sum = sum (speeds run);
  most = fold max 0 (speeds run);
}

-- so many seconds more, from one on
abbrev pub grown : (second n speed : ℕ) → Fast → Fast
grown second n speed run = record {
  begin = if run.seconds == 0 then second else run.begin;
  seconds = run.seconds + n;
  sum = run.sum + n * speed;
  most = max run.most speed;
}

-- the over speeding that it is where it ends now
abbrev pub over_in : Fast → Option Over
over_in run =
    if nat_lt 60 run.seconds
    then Some (record {
      begin = run.begin;
      end = run.begin
          + run.seconds - 1;
      most = run.most;
      average = run.sum / run.seconds;
    })
    else None

-- a second is the one after the run's last, where one goes on
abbrev pub IsNext : Fast → ℕ → Type 0
IsNext run second = 0 < run.seconds → run.begin + run.seconds ≡ second

-- this stands for these seconds of a span
pub record CountsSpeedSeconds (kept : Speeding) (seconds : List SpeedSecond) : Type 0 where
  pub run : kept.run ≡ counted (last_run (is_above kept.limit) seconds)
  pub row : InARow kept.run.begin (numbers (last_run (is_above kept.limit) seconds))
