-- How a trace without a card's line is recorded on the unit alone (profile).
use Rattle.std.specs.Prelude.{◌≡◌, ◌⊎◌, ℕ, ◌+◌, ◌/◌, ◌^◌, ◌<◌, ◌≤◌, true, Some, List, [], length}
use Rattle.tach_media.specs.Medium.{State, Rose, HasBroken, HasBrokenAtMost, LeavesOnly, Unchanged, last_count}
use Rattle.run_model.specs.declared.Device.{Device}
use Rattle.run_model.specs.declared.Device.TheVariants.{Unit as OfUnit}
use Rattle.log_model.specs.Causes.{HasCauses, cuts}
use Rattle.history_model.specs.Presence.{Start}
use Rattle.safety_model.specs.Unit.{HasEachDecided, IsFilled}
use Rattle.recorder_with_cards.specs.Whole.{HasWholeOdometer, HasDayOdometer}
use Rattle.recorder_with_cards.specs.Ends.{recording_of}
use Rattle.run_promise.specs.Whole.{NothingFailed}
use Rattle.short_promise.specs.InShort.{KeepsAlone}
use Rattle.run_opening.specs.Units.{IsUnitRefused}
use Rattle.run_opening.specs.declared.fault.RunFault.{RunFault}
use Rattle.recorder_with_cards.specs.Words.{log_of, IsFoundLater, IsLater}
use Rattle.recorder_with_cards.specs.Writes.{unit_writes}
use Rattle.run_outcome.specs.declared.outcome.Outcome.{Outcome}
use Rattle.trace_model.specs.declared.Item.{Item}
use Rattle.trace_model.specs.Trace.{seconds_of}
use Rattle.unit_minutes.specs.DayOdometers.{RecordsDay}
use Rattle.unit_model.specs.Image.{recorded, last_kept, odometer_at}
use Rattle.unit_model.specs.Versions.{rule_of}
use Rattle.unit_model.specs.Decoding.{Decodes, first_bad_place}
use Rattle.tacho.specs.declared.end.Fault.{Fault}
use Rattle.tacho.specs.declared.end.Fault.TheVariants.{Done, BadUnit, ClockBack, MediumFault}
use Rattle.tacho.specs.Blank.{no_image}
use Rattle.tacho.specs.Alone.{IsForUnit, NoVerdict, counts, StartsAs, IsAlone, told_of, history_of, lost_of}
use Rattle.tacho.specs.Outside.{Outside}
use Rattle.tacho.specs.Outcomes.{IsEmpty, IsRun, IsRefusal, SourceTells, refusal_of_run}

-- neither stream failed, and no call on the unit
pub record IsSound (old new : Outside) : Type 0 where
  pub source : Rose old.source.faults new.source.faults → ⊥
  pub sink : Rose old.sink.faults new.sink.faults → ⊥
  pub unit : Rose old.unit.faults new.unit.faults → ⊥

-- the unit started with this image alone, and its clock has not come to its end
pub record Starts (x : List ℕ) (old new : State) : Type 0 where
  pub alone : StartsAs x old
  pub clock : new.clock < last_count

-- what a run has recorded of a trace, whatever the cards bring: it began with this image, as the unit stood then
abbrev pub IsRecorded : (x : List ℕ) → (start : ℕ) → List Item → Outcome → (began unit : State) → Type 0
IsRecorded x start items outcome began unit = (cards : Start) → IsAlone cards x start items outcome began unit

-- and what it keeps of it, in short
abbrev pub IsKept : (x : List ℕ) → (start : ℕ) → List Item → Outcome → (began unit : State) → Type 0
IsKept x start items outcome began unit = (cards : Start)
    → KeepsAlone x (history_of (rule_of x) cards outcome start items) (lost_of (rule_of x) cards outcome start items)
    (rule_of x) (log_of outcome) (told_of outcome start items) outcome.marks.items began unit

-- each decided minute of a trace stands in the history, whatever the cards bring, and each image that a stop may leave
-- has the start's days with all of it, of which the newest 366 are retained, and its odometer with each whole
-- kilometre; and so is that of each day that it records: as at the start, or with the whole kilometres of each span
-- before and of the span up to the end of the day's first minute
abbrev pub IsAllThere : (x : List ℕ) → (start : ℕ) → List Item → Outcome → State → Type 0
IsAllThere x start items outcome unit = (cards : Start)
    → HasEachDecided (rule_of x) (told_of outcome start items) (history_of (rule_of x) cards outcome start items)
    × ((y : List ℕ) → unit.may_leave y
    → IsFilled (recorded x) (history_of (rule_of x) cards outcome start items) y
    × HasWholeOdometer (rule_of x) (told_of outcome start items) (odometer_at x) y
    × ((day odometer : ℕ) → RecordsDay y day odometer
    → RecordsDay x day odometer ⊎ HasDayOdometer (recording_of x no_image no_image start items outcome) day
    odometer))

-- how often each device broke down
abbrev pub breakdowns_in : Outside → Device → ℕ
breakdowns_in told = counts told.unit.breakdowns told.card_a.memory.breakdowns told.card_b.memory.breakdowns

-- each line of the run log of a trace has its cause, and what happened has its line
abbrev pub IsCaused : (old new : Outside) → (start : ℕ) → List Item → Outcome → Type 0
IsCaused old new start items outcome = HasCauses NoVerdict (breakdowns_in old) (breakdowns_in new)
    (seconds_of start items) (log_of outcome)

-- no device has broken down so often that its count stands at the last value
abbrev pub HaveCounts : Outside → Type 0
HaveCounts told = (device : Device) → breakdowns_in told device < last_count

-- IT WAS REFUSED, whatever the unit tells: in the opening, for the cause that this names, with the unit as it was and
-- no outcome; or by a unit that was read anew at a power-on.
pub record IsNotRecorded (start : ℕ) (old new : State) (outcome : Outcome) (fault : Fault) : Type 0 where
  pub by : RunFault
  pub is : fault ≡ refusal_of_run by
  pub when : (IsUnitRefused start old new by × LeavesOnly old new Unchanged × IsEmpty outcome) ⊎ IsFoundLater by

-- THE TRACE WAS RECORDED ON THE UNIT ALONE, or the unit kept it from being recorded.
pub record EndsOnUnit (old new : Outside) (outcome : Outcome) (fault : Fault) : Type 0 where
  -- None of its lines is a card's.
  pub for_unit : (start : ℕ) (items : List Item) → SourceTells old start items → IsForUnit items
  pub only : (device : Device) → fault ≡ MediumFault device → device ≡ OfUnit
  -- THE RUN of the trace, where it was recorded.
  pub run : (start : ℕ) (items : List Item) (x : List ℕ) → SourceTells old start items → Starts x old.unit new.unit
      → IsRun fault
      → IsRecorded x start items outcome old.unit new.unit
  -- IN SHORT: what each image of the unit says of each minute, what stands of what was acknowledged, and that no minute
  -- is missing.
  pub short : (start : ℕ) (items : List Item) (x : List ℕ) → SourceTells old start items → Starts x old.unit new.unit
      → IsRun fault
      → IsKept x start items outcome old.unit new.unit
  -- Its refused actions are those of the seconds without power, and each cut was an `off` line's or a breakdown of the
  -- unit.
  pub caused : (start : ℕ) (items : List Item) (x : List ℕ) → SourceTells old start items → Starts x old.unit new.unit
      → IsRun fault
      → IsCaused old new start items outcome
  -- Each refusal by the unit has its cause in the image that it started with; the unit is as it was, and there is no
  -- outcome.
  pub bad_unit : (place : ℕ) (x : List ℕ) → Starts x old.unit new.unit → fault ≡ BadUnit place
      → first_bad_place x ≡ Some place
  pub clock_back : (kept second : ℕ) (x : List ℕ) → Starts x old.unit new.unit → fault ≡ ClockBack kept second
      → Decodes x × (last_kept x ≡ kept) × (second / 60 ≤ kept)
  pub refused : (x : List ℕ) → Starts x old.unit new.unit → IsRefusal fault
      → LeavesOnly old.unit new.unit Unchanged × IsEmpty outcome
  -- And each cause has its end, where nothing failed: what can be recorded is.
  pub records : (start : ℕ) (items : List Item) (x : List ℕ) → SourceTells old start items → Starts x old.unit new.unit
      → IsSound old new
      → Decodes x → last_kept x < start / 60 → fault ≡ Done
  pub finds_bad_unit : (start : ℕ) (items : List Item) (x : List ℕ) (place : ℕ) → SourceTells old start items
      → Starts x old.unit new.unit → IsSound old new
      → first_bad_place x ≡ Some place → fault ≡ BadUnit place
  pub finds_clock_back : (start : ℕ) (items : List Item) (x : List ℕ) → SourceTells old start items
      → Starts x old.unit new.unit → IsSound old new
      → Decodes x → start / 60 ≤ last_kept x → fault ≡ ClockBack (last_kept x) start
  -- So many writes began at most on the unit: by its power-ons, of which there was one at the begin, and one behind
  -- each `off` line and each cut that a failed call made; by the turns of the trace, two for each minute; and by its
  -- actions.
  pub writes : (start : ℕ) (items : List Item) → SourceTells old start items
      → new.unit.clock ≤ old.unit.clock + unit_writes start items (length (cuts true (log_of outcome)))
  -- So its clock comes to its end in no run that it began in its lower half.
  pub time : (start : ℕ) (items : List Item) → SourceTells old start items → old.unit.clock < 2 ^ 63
      → new.unit.clock < last_count
  -- Whatever the unit tells, a refusal came in the opening, with the unit as it was and no outcome, or of a unit that
  -- was read anew at a power-on.
  pub early : (start : ℕ) (items : List Item) → SourceTells old start items → IsRefusal fault
      → IsNotRecorded start old.unit new.unit outcome fault
  -- Whatever the unit tells, no clock and no count of it has fallen, and it broke down only where a call on it failed.
  pub later : IsLater old.unit new.unit
  -- Each cut that a failed call made is a breakdown of the unit more.
  pub broke : HasBroken old.unit new.unit (length (cuts true (log_of outcome)))
  -- And where the trace was recorded and no failed call has cut the power, the unit has not broken down.
  pub calm : IsRun fault → cuts true (log_of outcome) ≡ [] → new.unit.breakdowns ≡ old.unit.breakdowns
  -- Nor has it broken down then more often than failed calls have cut the power.
  pub told : IsRun fault → HasBrokenAtMost old.unit new.unit (length (cuts true (log_of outcome)))
  -- Where no call on the unit failed, none has cut the power, whatever it tells and whatever the streams did.
  pub uncut : (Rose old.unit.faults new.unit.faults → ⊥) → old.unit.breakdowns < last_count
      → cuts true (log_of outcome) ≡ []
  -- Where nothing failed, no call has cut the power.
  pub unbroken : (start : ℕ) (items : List Item) (x : List ℕ) → SourceTells old start items → Starts x old.unit new.unit
      → IsSound old new → HaveCounts old
      → NothingFailed (log_of outcome)
  -- WHERE NOTHING FAILED, EVERY MINUTE IS THERE: each decided one stands in the history, and the unit has all of it in
  -- its newest days.
  pub whole : (start : ℕ) (items : List Item) (x : List ℕ) → SourceTells old start items → Starts x old.unit new.unit
      → IsSound old new → HaveCounts old
      → IsRun fault → IsAllThere x start items outcome new.unit
