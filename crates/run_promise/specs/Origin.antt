-- What a run began with, and what its seconds so far have recorded, devices apart (profile).
use Rattle.std.specs.Prelude.{◌≡◌, ℕ, [], List}
use Rattle.run_course.specs.trace_model.declared.Card.{Card}
use Rattle.run_course.specs.trace_model.Trace.{TraceSecond}
use Rattle.run_course.specs.run_model.declared.Device.{Device}
use Rattle.run_course.specs.minute_model.declared.Rule.{Rule}
use Rattle.run_course.specs.log_model.declared.lines.Mark.{Mark}
use Rattle.run_course.specs.log_model.Course.{went}
use Rattle.run_course.specs.history_model.Presence.{Start}
use Rattle.run_course.specs.history_model.Completeness.{IsComplete}
use Rattle.unit_rule.specs.unit_model.Image.{last_kept}
use Rattle.unit_rule.specs.run_unit_course.Legs.{Travel}
use Rattle.run_course.specs.Followed.{Progress, BookFollowsRun}
use Rattle.run_course.specs.Caused.{WellCaused}
use Rattle.run_course.specs.Travelled.{HasLegs}
use Rattle.unit_rule.specs.card_image.Own.{IsOwnValid}
use Rattle.unit_rule.specs.safety_model.Recording.{Recording, card_image, start_of}
use Rattle.run_promise.specs.Found.{Found}
use Rattle.run_promise.specs.Going.{AreAccounted}

-- the images at the start and the rule of minutes (trace and log of the recording are not looked at), what the opening
-- found, the number of the trace's first second, and how often each device had broken down
pub record Origin : Type 0 where
  pub recording : Recording
  pub found : Found
  pub from : ℕ
  pub breakdowns : Device → ℕ

-- the rule of minutes of the run
abbrev pub rule_of : Origin → Rule
rule_of o = o.recording.rule

-- what both cards bring to it
abbrev pub start_at : Origin → Start
start_at o = start_of o.recording

-- the last-kept minute of the unit at its start
abbrev pub first_of : Origin → ℕ
first_of o = last_kept o.recording.unit

-- BETWEEN TWO SECONDS, behind these: the book follows the history of the seconds by the log; what was travelled is that
-- of the spans, from the unit's image at the start; each line of the log has its cause, and what happened has its line;
-- each decided minute is acknowledged but where a call failed, and each entry of a card but there or where it was torn
-- out; and each acceptance of a card that was valid is accounted for. No decided minute waits.
pub record HistoryIsRecorded (o : Origin) (done : List TraceSecond) (p : Progress) (g : Travel) (marks : List Mark)
    (now : Device → ℕ) (brought : Card → List ℕ) : Type 0 where
  pub followed : BookFollowsRun (rule_of o) (start_at o) o.from (first_of o) done p
  pub waiting : p.waiting ≡ []
  pub legs : HasLegs (rule_of o) (first_of o) done p g
  pub image : g.image ≡ o.recording.unit
  pub complete : IsComplete (rule_of o) (start_at o) p.log (went p.log done).told marks
  pub caused : WellCaused o.breakdowns now done p
  pub accounts : (c : Card) → IsOwnValid (card_image o.recording c)
      → AreAccounted o.recording c (first_of o) done p (brought c)
