-- So many seconds of one minute are fed at once, all but the first without actions (profile): those before the last
-- decide nothing.
use Rattle.std.specs.Prelude.{◌≡◌, ℕ, zero, suc, ◌+◌, ◌%◌, ◌<◌, ◌≤◌, true, false, None, Some, List, [], ◌∷◌, ◌++◌}
use Rattle.std.specs.Prelude.{length}
use Rattle.run_devices.specs.trace_model.Trace.{TraceSecond, driven}
use Rattle.minute_rules.specs.minute_model.declared.Minute.{Minute}
use Rattle.minute_rules.specs.minute_model.Span.{Span, fed_many, decided_in}
use Rattle.minute_rules.specs.Kept.{Kept, CountsSpan}
use Rattle.run_devices.specs.log_model.Log.{In, Keeping}
use Rattle.run_devices.specs.log_model.Course.{ToldSecond}
use Rattle.run_devices.specs.run_unit_course.Followed.{Lit}
use Rattle.run_devices.specs.run_unit_course.Turn.{begins_with}
use Rattle.run_devices.specs.safety_model.Safe.{Devices}
use Rattle.run_devices.specs.run_promise.Origin.{Origin}
use Rattle.run_record.specs.Recorded.{Values, RecordBetweenSeconds}
use Rattle.run_record.specs.Within.{RecordInSecond}

-- the last of a second and n more behind it, which have its speed and no actions
abbrev pub last_of : ℕ → TraceSecond → TraceSecond
last_of zero s = s
last_of (suc n) s = record { number = s.number + suc n; has_power = true; speed = s.speed; actions = [] }

-- the seconds before that one
abbrev pub before_last : ℕ → TraceSecond → List TraceSecond → List TraceSecond
before_last zero s done = done
before_last (suc n) s done = done ++ s ∷ driven n (s.number + 1) s.speed []

-- what a run has by value in the keeping of that one
abbrev pub turned_values : (n begun : ℕ) → Kept → Values → Values
turned_values n begun minutes v = record v { minutes = minutes; next = v.next + n; begun = begun }

-- behind the first of several such seconds the run is recorded: with power, and one second of the span more
pub record BehindFirst (o : Origin) (done : List TraceSecond) (s : TraceSecond) (v : Values) (d : Devices) : Type
    0 where
  pub told : ToldSecond
  pub span : List ToldSecond
  pub values : Values
  pub recorded : RecordBetweenSeconds o (done ++ s ∷ []) (Lit (told ∷ span)) values d
  pub log : values.log ≡ v.log
  pub cabin : values.cabin ≡ v.cabin
  pub unfound : values.unfound ≡ v.unfound
  pub next : values.next ≡ suc v.next

-- THE SECONDS ARE FED: in the keeping of the last one these minutes are to be kept, from the same one on.
pub record IsTurned (o : Origin) (done : List TraceSecond) (s : TraceSecond) (n : ℕ) (rest : List Minute)
    (minutes : Kept) (v : Values) (d : Devices)
    (w : RecordInSecond o done s (In (length s.actions)) [] None [] v d) : Type 0 where
  pub begun : ℕ
  pub fed : RecordInSecond o (before_last n s done) (last_of n s) Keeping [] (Some s.speed) rest
      (turned_values n begun minutes v) d
  pub travelled_before : fed.b.travel.before ≡ w.b.travel.before
  pub from : fed.from ≡ w.from
  -- the last one began as the first, where it is that; or within the span, where nothing was told since
  pub first : n ≡ 0 → fed.b ≡ w.b
  pub goes_on : 0 < n → (fed.b.run.log ≡ v.log) × (begins_with fed.b.span ≡ false)
  pub behind : 0 < n → BehindFirst o done s v d

-- SO IT IS of a second all of whose actions are done and n more behind it, within a minute.
abbrev pub ATurnIsFed : Devices → Type 0
ATurnIsFed d = (o : Origin) (done : List TraceSecond) (s : TraceSecond) (v : Values)
    → (w : RecordInSecond o done s (In (length s.actions)) [] None [] v d) → (n : ℕ) → s.number % 60 + suc n ≤ 60 →
    (minutes : Kept) → ((span : Span) → CountsSpan v.minutes span → CountsSpan minutes (fed_many span s.speed (suc n)))
    →
    (rest : List Minute) → ((span : Span) → CountsSpan v.minutes span
    → decided_in (fed_many span s.speed (suc n)) ≡ decided_in span ++ rest) → IsTurned o done s n rest minutes v d w

-- The last one ends them: the seconds are those of the trace.
abbrev pub TheTurnEnds : Type 0
TheTurnEnds = (done : List TraceSecond) (s : TraceSecond) (n : ℕ)
    → before_last n s done ++ last_of n s ∷ [] ≡ done ++ s ∷ driven n (s.number + 1) s.speed []
