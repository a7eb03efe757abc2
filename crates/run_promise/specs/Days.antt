-- The words and the odometers of a unit's days, at the end of a run (profile).
use Rattle.std.specs.Prelude.{◌≡◌, ℕ, ◌+◌, ◌/◌, ◌≤◌, min, List, [], ◌∷◌, ◌++◌, All, Contains}
use Rattle.std.specs.List.{AllByRecursion}
use Rattle.run_course.specs.minute_model.declared.Minute.{Minute}
use Rattle.run_course.specs.log_model.Course.{ToldSecond}
use Rattle.run_course.specs.log_model.Spans.{spans_of}
use Rattle.run_course.specs.history_model.Minutes.{HistoryMinute}
use Rattle.run_course.specs.history_model.History.{decided_of}
use Rattle.run_course.specs.history_model.Growth.{closed_limit}
use Rattle.unit_rule.specs.unit_model.declared.layout.TheConstants.{HIGHEST_ODOMETER}
use Rattle.unit_rule.specs.unit_model.Image.{last_kept, odometer_at}
use Rattle.unit_rule.specs.unit_minutes.DayOdometers.{RecordsDay}
use Rattle.unit_rule.specs.Written.{ShowsWritten}
use Rattle.unit_rule.specs.run_unit_course.Followed.{IsKnown}
use Rattle.unit_rule.specs.run_unit_course.Legs.{kilometres_of, AreLegs}
use Rattle.unit_rule.specs.safety_model.Recording.{Recording, told_of, history_of, lost_of, IsPassed}

-- THE DAYS OF AN IMAGE HAVE THE WORDS OF THE START AND THOSE OF THESE MINUTES, each of its new words and no other: some
-- of the history from its front, or those of a history with a lost minute.
pub record HasWords (r : Recording) (x : List ℕ) : Type 0 where
  pub some : List HistoryMinute
  pub passed : IsPassed (history_of r) (lost_of r) some
  pub shows : ShowsWritten r.unit some x

-- A DAY WAS BEGUN IN A RUN, which the unit did not record at the start: by the first minute of that day in the history,
-- and the image has it. A span has decided that minute; and the day's odometer is that of the start with the whole
-- kilometres of the spans before, each by the limit of its cut, of which the log tells where the span has decided a
-- minute, and of that span up to the end of the minute.
pub record IsBegunIn (r : Recording) (x : List ℕ) (day odometer : ℕ) : Type 0 where
  pub anew : (o : ℕ) → RecordsDay r.unit day o → ⊥
  pub i : HistoryMinute
  pub there : Contains (history_of r) i
  pub has : i.minute ≤ last_kept x
  pub day_is : i.minute / 1440 ≡ day
  pub first : All (λ j. j.minute / 1440 ≡ day → i.minute ≤ j.minute) (history_of r)
  pub earlier : List (List ToldSecond)
  pub span : List ToldSecond
  pub later : List (List ToldSecond)
  pub are : spans_of (told_of r) ≡ earlier ++ span ∷ later
  pub minute : Minute
  pub decided : Contains (decided_of r.rule span) minute
  pub same : minute.minute ≡ i.minute
  pub known : AllByRecursion (IsKnown r.rule r.log.breaks) earlier
  pub legs : List ℕ
  pub closed : AreLegs r.rule (closed_limit r.log) 0 earlier legs
  pub sum_is : odometer ≡ min (odometer_at r.unit + kilometres_of (legs ++ minute.travelled ∷ [])) HIGHEST_ODOMETER
