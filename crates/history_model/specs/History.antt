-- The unit history of a run: the decided minutes of its spans, each up to the limit of its cut (profile).
use Rattle.std.specs.Prelude.{ℕ, Bool, Option, Some, None, List, [], ◌∷◌, ◌++◌, map, length, filter, find, nat_lt}
use Rattle.std.specs.Prelude.{if◌then◌else◌, option_to_list}
use Rattle.std.specs.List.{list_any}
use Rattle.log_model.specs.activity_codec.declared.values.Slot.TheVariants.{Driver, CoDriver}
use Rattle.log_model.specs.minute_model.declared.Rule.{Rule}
use Rattle.log_model.specs.minute_model.declared.Minute.{Minute}
use Rattle.log_model.specs.minute_model.Minute.{decided}
use Rattle.log_model.specs.minute_model.Activity.{last}
use Rattle.log_model.specs.Log.{RunLog, kept_after}
use Rattle.log_model.specs.Course.{ToldSecond}
use Rattle.log_model.specs.Spans.{spans_of, seconds_in}
use Rattle.history_model.specs.Minutes.{HistoryMinute, up_to}
use Rattle.history_model.specs.Presence.{Start, present_in}

-- a decided minute with the cards that were present, where these minutes came before it
abbrev pub seated : Start → List ToldSecond → List HistoryMinute → Minute → HistoryMinute
seated start told past d = record {
  minute = d.minute;
  driver = record { act = d.driver; card = present_in start told past d.minute Driver };
  codriver = record { act = d.codriver; card = present_in start told past d.minute CoDriver };
}

-- decided minutes one after another, each with the cards that were present, where these came before them
abbrev pub minutes_after : Start → List ToldSecond → List HistoryMinute → List Minute → List HistoryMinute
minutes_after start told past [] = []
minutes_after start told past (d ∷ ds) =
    let i : HistoryMinute = seated start told past d in i ∷ minutes_after start told (past ++ i ∷ []) ds

-- the seconds of a span that have a settling
abbrev pub settlings_of : List ToldSecond → List ℕ
settlings_of span = map (λ t. t.second.number) (filter (λ t. t.course.settled) span)

-- the decided minutes of a span
abbrev pub decided_of : Rule → List ToldSecond → List Minute
decided_of rule span = decided rule (seconds_in span) (settlings_of span)

-- the decided minutes of a span with the cards that were present in them, where these came before
abbrev pub span_minutes : Rule → Start → List ToldSecond → List HistoryMinute → List ToldSecond → List HistoryMinute
span_minutes rule start told past span = minutes_after start told past (decided_of rule span)

-- a span's last second where it is a cut's
abbrev pub cut_second : Option ToldSecond → Option ℕ
cut_second None = None
cut_second (Some t) = if t.cut then Some t.second.number else None

-- what was found kept after the cut of a second
abbrev pub limit_by : RunLog → Option ℕ → Option ℕ
limit_by log None = None
limit_by log (Some u) = Some (kept_after log u)

-- a span has more than one second
abbrev pub any_long : List (List ToldSecond) → Bool
any_long spans = list_any (λ s. nat_lt 1 (length s)) spans

-- the limit of a cut: what was found kept, where some later span has more than one second
abbrev pub limit_of : RunLog → List ToldSecond → List (List ToldSecond) → Option ℕ
limit_of log span later = if any_long later then limit_by log (cut_second (last span)) else None

-- the minutes up to a limit, or all without one
abbrev pub limited_to : Option ℕ → List HistoryMinute → List HistoryMinute
limited_to None past = past
limited_to (Some k) past = up_to k past

-- the lost minute of a cut: the first one after its limit
abbrev pub lost_minute : Option ℕ → List HistoryMinute → Option HistoryMinute
lost_minute None past = None
lost_minute (Some k) past = find (λ i. nat_lt k i.minute) past

-- the history of these spans, each up to its limit, where these minutes came before them
abbrev pub history_by : Rule → Start → (List ToldSecond → List (List ToldSecond) → Option ℕ) → List ToldSecond
    → List HistoryMinute →
    List (List ToldSecond) → List HistoryMinute
history_by rule start limit told past [] = []
history_by rule start limit told past (span ∷ later) =
    let more : List HistoryMinute = limited_to (limit span later) (span_minutes rule start told past span) in
    more ++ history_by rule start limit told (past ++ more) later

-- the unit history: the decided minutes of all spans, each span up to the limit of its cut
unfoldable pub unit_history : Rule → Start → RunLog → List ToldSecond → List HistoryMinute
unit_history rule start log told = history_by rule start (limit_of log) told [] (spans_of told)

-- a front of the history with the lost minute of a cut, for each of these spans that has one
abbrev pub lost_by : Rule → Start → (List ToldSecond → List (List ToldSecond) → Option ℕ) → List ToldSecond
    → List HistoryMinute →
    List (List ToldSecond) → List (List HistoryMinute)
lost_by rule start limit told past [] = []
lost_by rule start limit told past (span ∷ later) =
    let whole : List HistoryMinute = span_minutes rule start told past span in
    let more : List HistoryMinute = limited_to (limit span later) whole in
    map (λ i. past ++ (more ++ i ∷ [])) (option_to_list (lost_minute (limit span later) whole))
    ++ lost_by rule start limit told (past ++ more) later

-- the histories up to a cut's limit, each with its lost minute
unfoldable pub with_lost : Rule → Start → RunLog → List ToldSecond → List (List HistoryMinute)
with_lost rule start log told = lost_by rule start (limit_of log) told [] (spans_of told)
