-- The odometer of a run (profile): what was stored at a power-on, and the speeds since.
use Rattle.std.specs.Prelude.{◌≡◌, ◌⊎◌, ℕ, ◌+◌, ◌*◌, ◌/◌, ◌<◌, ◌≤◌, min, Bool, false, Option, Some, None, List, [], ◌∷◌}
use Rattle.std.specs.Prelude.{◌++◌, All, map, filter, sum, Contains, nat_eq, nat_lt, nat_le, if◌then◌else◌}
use Rattle.std.specs.List.{list_any}
use Rattle.message_model.specs.minute_model.declared.Rule.{Rule}
use Rattle.message_model.specs.minute_model.declared.Minute.{Minute}
use Rattle.message_model.specs.minute_model.Activity.{last}
use Rattle.message_model.specs.unit_model.declared.layout.TheConstants.{HIGHEST_ODOMETER}
use Rattle.history_model.specs.log_model.Log.{RunLog, kept_after}
use Rattle.history_model.specs.log_model.Course.{ToldSecond}
use Rattle.history_model.specs.log_model.Spans.{spans_of, seconds_in, first_in}
use Rattle.history_model.specs.History.{settlings_of, decided_of, cut_second, limit_by}
use Rattle.history_model.specs.Completeness.{deciding_of}
use Rattle.note_model.specs.Done.{has_failed_in}

-- a power span, and the odometer that was stored when it began, in kilometres
pub record SpanFrom : Type 0 where
  pub base : ℕ
  pub span : List ToldSecond

-- the kilometres of a span before a second: its speeds in km/h, each for a second
abbrev pub driven_before : ℕ → List ToldSecond → ℕ
driven_before u span = sum (map (λ s. s.speed) (filter (λ s. nat_lt s.number u) (seconds_in span))) / 3600

-- the odometer before a second; it stays at the highest value
abbrev pub odometer_before : ℕ → SpanFrom → ℕ
odometer_before u s = min HIGHEST_ODOMETER (s.base + driven_before u s.span)

-- the odometer at the end of a minute
abbrev pub odometer_at_end : (minute : ℕ) → SpanFrom → ℕ
odometer_at_end m s = odometer_before (60 * (m + 1)) s

-- a second lies in the span
abbrev pub has_second : ℕ → SpanFrom → Bool
has_second u s = list_any (λ t. nat_eq t.second.number u) s.span

-- the odometer before a second, by the span that it lies in
abbrev pub odometer_at : ℕ → List SpanFrom → ℕ
odometer_at u [] = 0
odometer_at u (s ∷ spans) = if has_second u s then odometer_before u s else odometer_at u spans

-- the minute was being kept in the second of the cut that ended the span
abbrev pub IsBeingKept : Rule → List ToldSecond → ℕ → Type 0
IsBeingKept rule span m = cut_second (last span) ≡ Some (deciding_of rule (settlings_of span) m)

-- What a unit stores whose last-kept minute is this, after these spans: the start's odometer where it kept no minute
-- since; that of its last-kept minute; or that of a later minute that a cut's second was keeping.
pub data MayStore (rule : Rule) (start start_kept : ℕ) (spans : List SpanFrom) (kept : ℕ) : ℕ → Type 0 where
  OfStart : kept ≡ start_kept → MayStore rule start start_kept spans kept start
  OfKept : (s : SpanFrom) (d : Minute) → Contains spans s → Contains (decided_of rule s.span) d → d.minute ≡ kept →
      MayStore rule start start_kept spans kept (odometer_at_end d.minute s)
  OfCut : (s : SpanFrom) (d : Minute) → Contains spans s → Contains (decided_of rule s.span) d
      → IsBeingKept rule s.span d.minute → kept < d.minute →
      MayStore rule start start_kept spans kept (odometer_at_end d.minute s)

-- what was found kept after the cut of this second; without one what was kept at the start
abbrev pub found_kept : RunLog → (start_kept : ℕ) → Option ToldSecond → ℕ
found_kept log start_kept None = start_kept
found_kept log start_kept (Some t) = kept_after log t.second.number

-- the last second of the last of these spans
abbrev pub last_second : List SpanFrom → Option ToldSecond
last_second [] = None
last_second (s ∷ []) = last s.span
last_second (s ∷ next ∷ spans) = last_second (next ∷ spans)

-- the numbers of some minutes up to a limit, or all without one
abbrev pub limited : Option ℕ → List ℕ → List ℕ
limited None ms = ms
limited (Some k) ms = filter (λ m. nat_le m k) ms

-- the minutes of these spans that were kept, each span's up to what was found kept after its cut
abbrev pub minutes_kept : Rule → RunLog → List SpanFrom → List ℕ
minutes_kept rule log [] = []
minutes_kept rule log (s ∷ spans) = limited (limit_by log (cut_second (last s.span)))
    (map (λ (d : Minute). d.minute) (decided_of rule s.span)) ++ minutes_kept rule log spans

-- the last of some minutes, or where there is none the one before them
pub record IsNewest (first : ℕ) (ms : List ℕ) (k : ℕ) : Type 0 where
  pub among : (k ≡ first) ⊎ Contains ms k
  pub highest : All (λ m. m ≤ k) ms

-- A SPAN BEGINS, behind these, with an odometer that the unit may store after some last-kept minute: the one that was
-- found, the last of all that these have kept, but where a call failed in its first second. The unit may not have been
-- read then, and so it is not known what was kept.
pub record BeginsFrom (rule : Rule) (log : RunLog) (start start_kept : ℕ) (earlier : List SpanFrom)
    (s : SpanFrom) : Type 0 where
  pub kept : ℕ
  pub found : has_failed_in log (first_in s.span) ≡ false → kept ≡ found_kept log start_kept (last_second earlier)
  pub newest : has_failed_in log (first_in s.span) ≡ false → IsNewest start_kept (minutes_kept rule log earlier) kept
  pub stored : MayStore rule start start_kept earlier kept s.base

-- so does each of these spans, behind the others
abbrev pub HaveBases : Rule → RunLog → (start start_kept : ℕ) → (earlier spans : List SpanFrom) → Type 0
HaveBases rule log start start_kept earlier [] = Unit {0}
HaveBases rule log start start_kept earlier (s ∷ spans) =
    BeginsFrom rule log start start_kept earlier s × HaveBases rule log start start_kept (earlier ++ s ∷ []) spans

-- the power spans of a run, each with the odometer that it began with
pub record AreSpansFrom (rule : Rule) (log : RunLog) (told : List ToldSecond) (start start_kept : ℕ)
    (spans : List SpanFrom) : Type 0 where
  pub spans_are : map (λ s. s.span) spans ≡ spans_of told
  pub bases : HaveBases rule log start start_kept [] spans
