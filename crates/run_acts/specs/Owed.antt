-- What a card is owed as it is accepted (profile): by the seconds before that, in a run in which no call has failed.
use Rattle.std.specs.Prelude.{◌≡◌, ◌⊎◌, ℕ, ◌+◌, ◌*◌, ◌/◌, ◌≤◌, ◌++◌, ◌∷◌, List, [], All, Contains, filter, flat_map}
use Rattle.std.specs.Prelude.{nat_lt, Bool, false, not, ◌&&◌}
use Rattle.activity_codec.specs.declared.entries.Entry.{Entry}
use Rattle.trace_model.specs.declared.Card.{Card}
use Rattle.trace_model.specs.Trace.{TraceSecond}
use Rattle.unit_model.specs.minute_model.declared.Minute.{Minute}
use Rattle.unit_model.specs.minute_model.declared.Rule.{Rule}
use Rattle.unit_model.specs.minute_model.Span.{decided_in, ungiven_of}
use Rattle.log_model.specs.Log.{RunLog}
use Rattle.log_model.specs.declared.lines.Find.{Find}
use Rattle.log_model.specs.Course.{ToldSecond, Visit, Before, went}
use Rattle.log_model.specs.Spans.{spans_of}
use Rattle.unit_notes.specs.event_model.Events.{course_by}
use Rattle.device_calls.specs.history_model.Minutes.{HistoryMinute, card_history}
use Rattle.device_calls.specs.history_model.Presence.{Start}
use Rattle.device_calls.specs.history_model.History.{settlings_of, minutes_after, decided_of}
use Rattle.device_calls.specs.history_model.Completeness.{deciding_of}
use Rattle.device_calls.specs.run_unit_course.Followed.{as_spans}
use Rattle.device_calls.specs.run_unit_course.Turn.{span_at, begins_with}
use Rattle.run_events.specs.run_course.Kept.{settled_times}

-- the last of these seconds had power, and kept it
abbrev pub runs_on : List ToldSecond → Bool
runs_on [] = false
runs_on (t ∷ []) = t.lit && not t.cut
runs_on (t ∷ x ∷ ts) = runs_on (x ∷ ts)

-- A SECOND OF THESE, of this number: the seconds before it, and those of its power span among them, none where power
-- begins with it; and so many settlings come with it that all minutes before its own are decided.
pub record ReachedAt (rule : Rule) (log : RunLog) (done : List TraceSecond) (u : ℕ) : Type 0 where
  pub front : List TraceSecond
  pub s : TraceSecond
  pub later : List TraceSecond
  pub are : done ≡ front ++ s ∷ later
  pub number : s.number ≡ u
  pub earlier : List (List ToldSecond)
  pub span : List ToldSecond
  pub spans : spans_of (went log front).told ≡ earlier ++ as_spans span
  pub begins : begins_with span ≡ not (runs_on (went log front).told)
  pub times : ℕ
  pub decided : ungiven_of (settled_times times (span_at rule u span)) ≡ u / 60

-- the minutes that are decided by then, with the cards that were present in them
abbrev pub minutes_before : (rule : Rule) (start : Start) (log : RunLog) (done : List TraceSecond) (u : ℕ)
    → ReachedAt rule log done u → List HistoryMinute
minutes_before rule start log done u r =
    minutes_after start (went log r.front).told []
    (flat_map (λ (span : List ToldSecond). decided_of rule span) r.earlier
    ++ decided_in (settled_times r.times (span_at rule u r.span)))

-- ---- why

-- a second is no later than that in which a minute is decided in one of these spans
pub record IsDecidedBy (rule : Rule) (spans : List (List ToldSecond)) (u m : ℕ) : Type 0 where
  pub span : List ToldSecond
  pub among : Contains spans span
  pub d : Minute
  pub within : Contains (decided_of rule span) d
  pub same : d.minute ≡ m
  pub late : u ≤ deciding_of rule (settlings_of span) m

-- A `tear` line PULLED THE CARD OUT in one of these seconds: behind a minute's end, and no later than in the second
-- that decided the minute, which may be one that has not come yet.
pub record IsPulledBefore (rule : Rule) (told : List ToldSecond) (u : ℕ) (span : List ToldSecond) (c : Card)
    (m : ℕ) : Type 0 where
  pub t : ToldSecond
  pub there : Contains told t
  pub behind : 60 * (m + 1) ≤ t.second.number
  pub before : IsDecidedBy rule (spans_of told) t.second.number m ⊎ (ungiven_of (span_at rule u span) ≤ m)
  pub pulled : (v : Visit) × (v.card ≡ c) × Contains t.course.pulled v

-- a log without a line
abbrev pub unlogged : RunLog
unlogged = record { breaks = []; refused = []; finds = [] }

-- or one did in this second, among the first actions of it: by the cards in the slots as it began and by these actions,
-- since no line of a second in which no call failed takes a card out. It is behind the minute's end, too, and decides
-- it.
pub record IsPulledHere (rule : Rule) (before : Before) (s : TraceSecond) (span : List ToldSecond) (begun : ℕ)
    (c : Card) (m : ℕ) : Type 0 where
  pub behind : 60 * (m + 1) ≤ s.number
  pub decides : ungiven_of (span_at rule s.number span) ≤ m
  pub pulled : (v : Visit) × (v.card ≡ c) × Contains (course_by unlogged before s begun).pulled v

-- THESE ENTRIES ARE OWED to a card with this end mark, as it is accepted by this line: of what was owed to it at the
-- start, and of what the minutes by then say on it, all that is later than the mark, and nothing else, in order. What
-- was not owed at the start is of minutes behind which it was pulled out.
pub record IsOwed (rule : Rule) (start : Start) (log : RunLog) (done : List TraceSecond) (c : Card) (lacks : List Entry)
    (f : Find) (mark : ℕ) (es : List Entry) : Type 0 where
  pub at : ReachedAt rule log done f.second
  pub are : es ≡ filter (λ (e : Entry). nat_lt mark e.minute)
      (lacks ++ card_history c (minutes_before rule start log done f.second at))
  pub behind : All (λ e. Contains lacks e
      ⊎ (IsPulledBefore rule (went log at.front).told f.second at.span c e.minute
      ⊎ IsPulledHere rule (went log at.front).before at.s at.span f.begun c e.minute)) es
