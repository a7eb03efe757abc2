-- THE ODOMETERS THAT A RUN STORES (profile): with which one each power span began, and what each image of the unit has
-- stored.
use Rattle.std.specs.Prelude.{◌≡◌, ◌⊎◌, ℕ, Bool, true, false, Some, List, [], ◌∷◌, ◌++◌, take}
use Rattle.std.specs.List.{AllByRecursion}
use Rattle.run_devices.specs.minute_model.Activity.{last}
use Rattle.run_devices.specs.unit_model.Image.{last_kept, odometer_at}
use Rattle.run_devices.specs.log_model.Course.{ToldSecond}
use Rattle.run_devices.specs.log_model.Log.{RunLog}
use Rattle.run_devices.specs.log_model.Spans.{first_in}
use Rattle.run_devices.specs.history_model.History.{cut_second}
use Rattle.run_devices.specs.run_unit_course.Lines.{tells_cut}
use Rattle.run_devices.specs.note_model.Done.{has_failed_in}
use Rattle.run_devices.specs.note_model.Odometer.{SpanFrom, MayStore, found_kept, last_second, HaveBases}
pub use Rattle.run_devices.specs.note_model.Odometer.{limited, minutes_kept, IsNewest}
use Rattle.run_devices.specs.safety_model.Safe.{Devices}
use Rattle.run_note_record.specs.Origin.{Origin, rule_of, first_of}

-- ---- the ends of spans

-- a span has ended with a cut, after which it is known what was kept
pub record IsFoundEnd (log : RunLog) (unfound : ℕ) (s : SpanFrom) : Type 0 where
  pub second : ℕ
  pub cut : cut_second (last s.span) ≡ Some second
  pub known : tells_cut second (take unfound log.breaks) ≡ true

-- a span has ended with a cut, and it is not known yet what was kept after it
pub record IsOpenEnd (log : RunLog) (unfound : ℕ) (s : SpanFrom) : Type 0 where
  pub second : ℕ
  pub cut : cut_second (last s.span) ≡ Some second
  pub told : tells_cut second log.breaks ≡ true
  pub unknown : tells_cut second (take unfound log.breaks) ≡ false

-- ---- with power

-- BEFORE THE SPAN THAT GOES ON, which began with this odometer: the spans that have ended, it is known what was kept
-- after each, and each began with what the unit may store; and so did this one, by the minute that was found kept then,
-- the last of all that were kept.
pub record StandsOn (o : Origin) (log : RunLog) (unfound : ℕ) (earlier : List SpanFrom) (base : ℕ) : Type 0 where
  pub ends : AllByRecursion (IsFoundEnd log unfound) earlier
  pub bases : HaveBases (rule_of o) log (odometer_at o.recording.unit) (first_of o) [] earlier
  pub kept : ℕ
  pub found : kept ≡ found_kept log (first_of o) (last_second earlier)
  pub stored : MayStore (rule_of o) (odometer_at o.recording.unit) (first_of o) earlier kept base
  pub newest : IsNewest (first_of o) (minutes_kept (rule_of o) log earlier) kept

-- WHILE THERE IS POWER: of these spans the last one goes on.
pub record StoresOn (o : Origin) (log : RunLog) (unfound base : ℕ) (spans : List SpanFrom) : Type 0 where
  pub earlier : List SpanFrom
  pub span : List ToldSecond
  pub are : spans ≡ earlier ++ record { base = base; span = span } ∷ []
  pub stands : StandsOn o log unfound earlier base

-- ---- without

-- THE SPANS since the unit was read last: it is not known yet what was kept after that one, nor after those behind it,
-- in whose first second a call failed.
pub record SinceRead (log : RunLog) (unfound : ℕ) (spans : List SpanFrom) : Type 0 where
  pub earlier : List SpanFrom
  pub span : SpanFrom
  pub unread : List SpanFrom
  pub are : spans ≡ earlier ++ span ∷ unread
  pub ends : AllByRecursion (IsFoundEnd log unfound) earlier
  pub unknown : AllByRecursion (IsOpenEnd log unfound) (span ∷ unread)
  pub failed : AllByRecursion (λ (s : SpanFrom). has_failed_in log (first_in s.span) ≡ true) unread

-- WITHOUT POWER: each of these spans began with what the unit may store, and each image that a stop may leave of it has
-- stored so.
pub record StoresOff (o : Origin) (log : RunLog) (unfound : ℕ) (spans : List SpanFrom) (d : Devices) : Type 0 where
  pub bases : HaveBases (rule_of o) log (odometer_at o.recording.unit) (first_of o) [] spans
  pub since : (spans ≡ []) ⊎ SinceRead log unfound spans
  pub stores : (x : List ℕ) → d.unit.may_leave x
      → MayStore (rule_of o) (odometer_at o.recording.unit) (first_of o) spans (last_kept x) (odometer_at x)

-- while there is power, or without it
abbrev pub Stores : (lit : Bool) → (o : Origin) (log : RunLog) (unfound base : ℕ) (spans : List SpanFrom) (d : Devices)
    → Type 0
Stores true o log unfound base spans d = StoresOn o log unfound base spans
Stores false o log unfound base spans d = StoresOff o log unfound spans d
