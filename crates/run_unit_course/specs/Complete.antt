-- Which decided minutes the unit has acknowledged (profile).
use Rattle.std.specs.Prelude.{◌⊎◌, ℕ, List, Contains}
use Rattle.trace_model.specs.Trace.{TraceSecond}
use Rattle.run_model.specs.declared.Device.TheVariants.{Unit as Recorder}
use Rattle.minute_model.specs.declared.Rule.{Rule}
use Rattle.minute_model.specs.declared.Minute.{Minute}
use Rattle.log_model.specs.declared.lines.Mark.{Mark}
use Rattle.log_model.specs.Log.{RunLog}
use Rattle.log_model.specs.Course.{ToldSecond, went}
use Rattle.log_model.specs.Spans.{spans_of}
use Rattle.history_model.specs.History.{settlings_of, decided_of}
use Rattle.history_model.specs.Completeness.{deciding_of, IsMarked, FailedCutIn}

-- of each decided minute of these seconds, and the second that decided it
abbrev pub OfDecided : Rule → List ToldSecond → (minute second : ℕ → Type 0) → Type 0
OfDecided rule told minute second = (span : List ToldSecond) (d : Minute) → Contains (spans_of told) span
    → Contains (decided_of rule span) d →
    minute d.minute ⊎ second (deciding_of rule (settlings_of span) d.minute)

-- each decided minute of a run is acknowledged by the unit, but where a call failed in the second that decided it
abbrev pub AreMarked : Rule → RunLog → List TraceSecond → List Mark → Type 0
AreMarked rule log ss marks = OfDecided rule (went log ss).told (λ m. IsMarked marks Recorder m)
    (λ u. FailedCutIn log u)
