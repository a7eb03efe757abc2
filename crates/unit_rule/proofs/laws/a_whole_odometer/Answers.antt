use Rattle.std.proofs.Common.{ℕ, ◌+◌, List, min, ap, ◌∙◌}
use Rattle.unit_minutes.specs.unit_model.declared.layout.TheConstants.{HIGHEST_ODOMETER}
use Rattle.unit_minutes.specs.unit_model.Image.{last_kept}
use Rattle.run_unit_course.specs.log_model.Spans.{spans_of}
use Rattle.run_unit_course.specs.history_model.History.{limit_of}
use Rattle.run_unit_course.specs.Legs.{kilometres_of}
use Rattle.run_unit_course.proofs.Legs.{legs-whole}
use Rattle.unit_rule.proofs.laws.a_whole_odometer.Goals as goal

pub returns : goal.returns
returns c = λ rule log told start x safe whole.
    safe.sum_is ∙ ap (λ (legs : List ℕ). min (start + kilometres_of legs) HIGHEST_ODOMETER) (legs-whole rule (limit_of log) (last_kept x) (spans_of told) safe.legs whole safe.are)
