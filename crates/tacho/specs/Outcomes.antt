-- What `record` tells of a run: its outcome, the five lines that are printed of it, and how the command can end
-- (profile).
use Rattle.std.specs.Prelude.{◌≡◌, ℕ, Some, Option, List, [], ◌∷◌, ◌++◌, length, count_by, codes, decimal}
use Rattle.run_model.specs.declared.Device.{Device}
use Rattle.run_model.specs.declared.Device.TheVariants.{Unit as OfUnit, CardA, CardB}
use Rattle.log_model.specs.declared.lines.Mark.{Mark}
use Rattle.safety_model.specs.Unit.{is_of}
use Rattle.tacho.specs.Alone.{IsForUnit}
use Rattle.run_opening.specs.declared.fault.RunFault.{RunFault}
use Rattle.run_opening.specs.declared.fault.RunFault.TheVariants as run
use Rattle.run_outcome.specs.declared.outcome.Outcome.{Outcome}
use Rattle.trace_model.specs.declared.Item.{Item}
use Rattle.trace_text.specs.declared.lines_trace.Form.TheVariants.{Whole}
use Rattle.trace_text.specs.Judged.{IsTraceText}
use Rattle.tacho.specs.declared.end.Fault.{Fault}
use Rattle.tacho.specs.declared.end.Fault.TheVariants.{Done, Usage, BadUnit, ClockBack, SameCard, WriteFault}
use Rattle.tacho.specs.declared.end.Fault.TheVariants.{MediumFault, BadFile, BadCard, Changed, FileFault, LinkEnded}
use Rattle.tacho.specs.Outside.{Outside}

-- an outcome has no line
pub record IsEmpty (outcome : Outcome) : Type 0 where
  pub marks : outcome.marks.items ≡ []
  pub breaks : outcome.breaks.items ≡ []
  pub refused : outcome.refused.items ≡ []
  pub finds : outcome.finds.items ≡ []

-- how many minutes a device has acknowledged
abbrev pub mark_count : Device → List Mark → ℕ
mark_count device marks = count_by (λ m. is_of device m.device) marks

-- a line: what is counted, and how many there are
abbrev pub count_line : List ℕ → ℕ → List ℕ
count_line name n = name ++ 32 ∷ (decimal n ++ 10 ∷ [])

-- THE FIVE LINES of an outcome: the minutes that each device has acknowledged, the breaks, and the refused actions
abbrev pub outcome_text : Outcome → List ℕ
outcome_text outcome =
    count_line (codes "unit") (mark_count OfUnit outcome.marks.items)
    ++ (count_line (codes "card-a") (mark_count CardA outcome.marks.items)
    ++ (count_line (codes "card-b") (mark_count CardB outcome.marks.items)
    ++ (count_line (codes "breaks") (length outcome.breaks.items)
    ++ count_line (codes "refused") (length outcome.refused.items))))

-- how `record` can end
abbrev pub IsRecordEnd : Fault → Type 0
IsRecordEnd Usage = ⊥
IsRecordEnd (BadFile place) = ⊥
IsRecordEnd (BadCard field) = ⊥
IsRecordEnd Changed = ⊥
IsRecordEnd FileFault = ⊥
IsRecordEnd LinkEnded = ⊥
IsRecordEnd _ = Unit {0}

-- the trace was recorded, whether or not that could be printed
abbrev pub IsRun : Fault → Type 0
IsRun Done = Unit {0}
IsRun WriteFault = Unit {0}
IsRun _ = ⊥

-- what keeps a trace from being recorded: a device failed, the unit's image does not decode, the clock is back, or both
-- cards are one
abbrev pub IsRefusal : Fault → Type 0
IsRefusal (BadUnit place) = Unit {0}
IsRefusal (ClockBack kept second) = Unit {0}
IsRefusal (SameCard number) = Unit {0}
IsRefusal (MediumFault device) = Unit {0}
IsRefusal _ = ⊥

-- the end by a fault of a run
abbrev pub refusal_of_run : RunFault → Fault
refusal_of_run (run.MediumFault device) = MediumFault device
refusal_of_run (run.BadUnit place) = BadUnit place
refusal_of_run (run.ClockBack kept second) = ClockBack kept second
refusal_of_run (run.SameCard number) = SameCard number

-- the source told this trace
pub record SourceTells (old : Outside) (start : ℕ) (items : List Item) : Type 0 where
  pub text : List ℕ
  pub told : old.source.left ≡ Some text
  pub trace : IsTraceText Whole text start items

-- what is left of a source is a trace of the unit alone: none of its lines is a card's
pub record IsToldForUnit (left : Option (List ℕ)) : Type 0 where
  pub text : List ℕ
  pub start : ℕ
  pub items : List Item
  pub told : left ≡ Some text
  pub trace : IsTraceText Whole text start items
  pub for_unit : IsForUnit items
