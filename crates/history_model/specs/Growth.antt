-- How the history grows from one second to the next (profile).
use Rattle.std.specs.Prelude.{◌≡◌, ℕ, ◌+◌, ◌≤◌, Bool, true, false, Option, Some, List, [], ◌∷◌, ◌++◌, length, nat_lt}
use Rattle.std.specs.Prelude.{unwrap_or}
use Rattle.log_model.specs.activity_codec.declared.values.Slot.{Slot}
use Rattle.log_model.specs.activity_codec.declared.values.Pick.{Pick}
use Rattle.log_model.specs.minute_model.declared.Rule.{Rule}
use Rattle.log_model.specs.minute_model.Activity.{last}
use Rattle.log_model.specs.minute_model.Span.{Span, settled}
use Rattle.log_model.specs.Log.{RunLog}
use Rattle.log_model.specs.Course.{ToldSecond}
use Rattle.log_model.specs.Spans.{seconds_in, first_in}
use Rattle.history_model.specs.Minutes.{HistoryMinute}
use Rattle.history_model.specs.Presence.{Start}
use Rattle.history_model.specs.History.{settlings_of, cut_second, limit_by, any_long, history_by}

-- a power span as the rules of minutes see it
abbrev pub as_span : Rule → List ToldSecond → Span
as_span rule span =
    record {
      rule = rule;
      first = first_in span;
      seconds = seconds_in span;
      pending = [];
      settlings = settlings_of span;
    }

-- a settling at the next second, where there is one
abbrev pub settled_where : Bool → Span → Span
settled_where true span = settled span
settled_where false span = span

-- a span with these selections for its next second
abbrev pub picking : List (Slot × Pick) → Span → Span
picking picks span =
    record { rule = span.rule; first = span.first; seconds = span.seconds; pending = picks; settlings = span.settlings }

-- the spans before the newest
abbrev pub earlier_spans : List (List ToldSecond) → List (List ToldSecond)
earlier_spans [] = []
earlier_spans (span ∷ []) = []
earlier_spans (span ∷ next ∷ spans) = span ∷ earlier_spans (next ∷ spans)

-- the newest span
abbrev pub newest_span : List (List ToldSecond) → List ToldSecond
newest_span spans = unwrap_or (last spans) []

-- the limit of a span's cut, once some later span has two seconds
abbrev pub closed_limit : RunLog → List ToldSecond → List (List ToldSecond) → Option ℕ
closed_limit log span later = limit_by log (cut_second (last span))

-- the history of spans all of whose cuts have their limits
abbrev pub closed_history : Rule → Start → RunLog → List ToldSecond → List (List ToldSecond) → List HistoryMinute
closed_history rule start log told spans = history_by rule start (closed_limit log) told [] spans

-- two logs tell the same limit for each cut that has one
abbrev pub SameLimits : (log later : RunLog) → List (List ToldSecond) → Type 0
SameLimits log later [] = Unit {0}
SameLimits log later (span ∷ spans) =
    (any_long spans ≡ true → closed_limit later span spans ≡ closed_limit log span spans) × SameLimits log later spans

-- the last of these spans that has more than one second ends with a cut, after which this minute was found to be the
-- last kept one
pub record EndsAtLimit (log : RunLog) (k : ℕ) (spans : List (List ToldSecond)) : Type 0 where
  pub before : List (List ToldSecond)
  pub span : List ToldSecond
  pub short : List (List ToldSecond)
  pub long : nat_lt 1 (length span) ≡ true
  pub are : spans ≡ before ++ span ∷ short
  pub limit : closed_limit log span short ≡ Some k
  pub none : any_long short ≡ false

-- minutes that rise from one number, this included, to another
abbrev pub Rises : ℕ → List HistoryMinute → ℕ → Type 0
Rises from [] until = from ≤ until
Rises from (i ∷ past) until = (from ≤ i.minute) × Rises (i.minute + 1) past until
