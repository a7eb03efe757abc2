-- The blocks of detailed speed of a run, by its seconds and its run log (Annex IB, section III.12; profile).
use Rattle.std.specs.Prelude.{◌+◌, Bool, not, List, [], ◌∷◌, map, if◌then◌else◌}
use Rattle.speed_store.specs.trace_model.Trace.{TraceSecond}
use Rattle.speed_store.specs.log_model.Log.{RunLog}
use Rattle.speed_store.specs.log_model.Course.{ToldSecond, went}
use Rattle.speed_store.specs.log_model.Spans.{spans_of}
use Rattle.speed_store.specs.event_model.Spans.{SpeedSecond}
use Rattle.speed_store.specs.note_model.Done.{has_failed_in}
use Rattle.speed_store.specs.speed_model.declared.block.Block.{Block}
use Rattle.speed_store.specs.speed_model.Blocks.{blocks_in}

-- a second by its number and its speed
abbrev pub speed_of : ToldSecond → SpeedSecond
speed_of t = record { number = t.second.number; speed = t.second.speed }

-- the power spans of these seconds, each second by its speed
abbrev pub speeds_of : List ToldSecond → List (List SpeedSecond)
speeds_of told = map (λ span. map speed_of span) (spans_of told)

-- those of the seconds of a trace, by the log
abbrev pub speed_spans : RunLog → List TraceSecond → List (List SpeedSecond)
speed_spans log done = speeds_of (went log done).told

-- THE BLOCKS OF A RUN, as its log tells it
abbrev pub blocks_by : RunLog → List TraceSecond → List Block
blocks_by log done = blocks_in (speed_spans log done)

-- no call on the unit has failed in the last second of its minute
abbrev pub is_sure_block : RunLog → Block → Bool
is_sure_block log b = not (has_failed_in log (b.time + 59))

-- the last of these power spans
abbrev pub last_speeds : List (List SpeedSecond) → List SpeedSecond
last_speeds [] = []
last_speeds (span ∷ []) = span
last_speeds (span ∷ next ∷ spans) = last_speeds (next ∷ spans)

-- the seconds of the power span that a second goes on, where it has power: none where power begins with it
abbrev pub speeds_before : RunLog → List TraceSecond → List SpeedSecond
speeds_before log done = if (went log done).before.running then last_speeds (speed_spans log done) else []
