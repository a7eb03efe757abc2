-- HOW `record` ENDS: it records a trace on the unit and the cards, or on the unit alone, and prints what was recorded
-- (profile).
use Rattle.std.specs.Prelude.{◌≡◌, ◌⊎◌, ℕ, List}
use Rattle.std.specs.Io.KnownBytes.{Appends, IsAtEnd}
use Rattle.tach_media.specs.Medium.{Rose}
use Rattle.tach_media.specs.Streams.{AppendsFront}
use Rattle.run_outcome.specs.declared.outcome.Outcome.{Outcome}
use Rattle.trace_model.specs.declared.Item.{Item}
use Rattle.trace_text.specs.declared.lines_trace.Form.TheVariants.{Whole}
use Rattle.tacho.specs.declared.end.Fault.{Fault}
use Rattle.tacho.specs.declared.end.Fault.TheVariants.{Done, WriteFault, Memory}
use Rattle.tacho.specs.End.{IsBeforeDevices}
use Rattle.tacho.specs.Outside.{Outside}
use Rattle.tacho.specs.Reading.{JudgesTrace}
use Rattle.tacho.specs.Outcomes.{IsEmpty, outcome_text, IsRecordEnd, IsRun, SourceTells}
use Rattle.tacho.specs.UnitRecorded.{EndsOnUnit}
use Rattle.tacho.specs.CardsRecorded.{EndsWithCards}

-- which devices a trace was recorded on: on none, since it was not read or memory ran out; on the unit alone; or on all
-- three
abbrev pub EndsOn : (old new : Outside) → Outcome → Fault → Type 0
EndsOn old new outcome fault = IsBeforeDevices fault
    ⊎ (EndsOnUnit old new outcome fault ⊎ EndsWithCards old new outcome fault)

-- HOW `record` ENDS.
pub record EndsRecord (old new : Outside) (outcome : Outcome) (fault : Fault) : Type 0 where
  pub ends : IsRecordEnd fault
  -- First the trace is judged.
  pub judges : JudgesTrace Whole old.source new.source fault
  pub read : IsRun fault → IsAtEnd new.source.left
  -- Where no trace was read, or memory ran out, there is no outcome; and a trace that was told is only kept from being
  -- recorded so where memory ran out, unless the source failed.
  pub unread : IsBeforeDevices fault → IsEmpty outcome
  pub memory : (start : ℕ) (items : List Item) → SourceTells old start items
      → (Rose old.source.faults new.source.faults → ⊥) → IsBeforeDevices fault → fault ≡ Memory
  -- Then it is recorded, if it can be: what was recorded, and each refusal with its cause.
  pub on : EndsOn old new outcome fault
  -- Done: exactly the five lines were printed; at a write fault a front of them.
  pub printed : fault ≡ Done → Appends old.sink.held new.sink.held (outcome_text outcome)
  pub front : fault ≡ WriteFault → AppendsFront old.sink.held new.sink.held (outcome_text outcome)
