-- The odometer of a run, and those of its days: the start's and what was travelled since (profile).
use Rattle.std.specs.Prelude.{◌≡◌, ◌⊎◌, ℕ, ◌+◌, ◌/◌, ◌<◌, ◌≤◌, min, Some, None, List, [], ◌∷◌, ◌++◌, All, Contains}
use Rattle.std.specs.Prelude.{fold}
use Rattle.tach_media.specs.Medium.{State}
use Rattle.unit_minutes.specs.gated_ring.Ring.{pointer}
use Rattle.unit_minutes.specs.unit_model.declared.layout.TheConstants.{DAY_SLOTS, HIGHEST_ODOMETER}
use Rattle.unit_minutes.specs.unit_model.Days.{UnitMinute}
use Rattle.unit_minutes.specs.unit_model.Image.{day_ring, last_kept, odometer_at}
use Rattle.unit_minutes.specs.DayOdometers.{HasSlot, RecordsDay}
use Rattle.unit_minutes.specs.Keeping.{IsKeeping}
use Rattle.unit_minutes.specs.DaysWith.{written_days, IsKeepingWritten}
use Rattle.unit_minutes.specs.Kept.{written_at}
use Rattle.unit_rule.specs.Written.{ShowsWritten}
use Rattle.run_unit_course.specs.history_model.Minutes.{HistoryMinute, up_to}
use Rattle.run_unit_course.specs.minute_model.declared.Rule.{Rule}
use Rattle.run_unit_course.specs.log_model.Log.{RunLog}
use Rattle.run_unit_course.specs.log_model.Course.{ToldSecond}
use Rattle.run_unit_course.specs.log_model.Spans.{spans_of}
use Rattle.run_unit_course.specs.history_model.Book.{Book, all}
use Rattle.run_unit_course.specs.history_model.History.{limit_of}
use Rattle.run_unit_course.specs.Legs.{Reckoned, Travel, kilometres_of, AreLegs}

-- the odometer in kilometres, where it stood so when power came, and this is the sum of the speeds, in km/h, of the
-- seconds since
abbrev pub odometer_by : (stored travelled : ℕ) → ℕ
odometer_by stored travelled = min (stored + travelled / 3600) HIGHEST_ODOMETER

-- where power came more than once, and this was travelled each time
abbrev pub odometer_after : ℕ → List ℕ → ℕ
odometer_after start legs = fold odometer_by start legs

-- An image's odometer is that of the last-kept minute or of the one of which the keeping was broken off; behind that
-- one's mark it is that one's.
pub record ShowsOdometer (start : ℕ) (b : Book) (g : Travel) (x : List ℕ) : Type 0 where
  pub leg : ℕ
  pub is : odometer_at x ≡ odometer_after start (g.before ++ leg ∷ [])
  pub side : (leg ≡ g.sure) ⊎ (g.maybe ≡ Some leg)
  pub behind : (i : HistoryMinute) → b.maybe ≡ Some i → last_kept x ≡ i.minute → g.maybe ≡ Some leg

-- A DAY OF AN IMAGE WAS BEGUN since the start, where it was not recorded: by the first minute of that day that the
-- image has, with the odometer at that minute's end.
pub record IsBegunBy (start : ℕ) (b : Book) (g : Travel) (x : List ℕ) (day odometer : ℕ) : Type 0 where
  pub anew : (o : ℕ) → RecordsDay g.image day o → ⊥
  pub e : Reckoned
  pub begun : Contains g.begun e
  pub i : HistoryMinute
  pub there : Contains (all b) i
  pub same : i.minute ≡ e.minute
  pub has : e.minute ≤ last_kept x
  pub day_is : e.minute / 1440 ≡ day
  pub first : All (λ j. j.minute / 1440 ≡ day → e.minute ≤ j.minute) (all b)
  pub odometer_is : odometer ≡ odometer_after start (e.before ++ e.leg ∷ [])

-- each day that an image records has the odometer that it had at the start, or was begun since
abbrev pub ShowsDays : (start : ℕ) → Book → Travel → List ℕ → Type 0
ShowsDays start b g x = (day odometer : ℕ) → RecordsDay x day odometer
    → RecordsDay g.image day odometer ⊎ IsBegunBy start b g x day odometer

-- Every image that a stop may leave now shows what was travelled, beside the book: its odometer, and those of its days.
-- Its days have the words of the start and those of the book's minutes, and no others. It is not behind that of the
-- start, and its days may be read.
pub record HasTravelled (start : ℕ) (b : Book) (g : Travel) (unit : State) : Type 0 where
  pub begins : start ≤ HIGHEST_ODOMETER
  pub none : b.maybe ≡ None → g.maybe ≡ None
  pub now : (x : List ℕ) → unit.may_leave x → ShowsOdometer start b g x
  pub days : (x : List ℕ) → unit.may_leave x → ShowsDays start b g x
  pub written : (x : List ℕ) → unit.may_leave x → ShowsWritten g.image (up_to (last_kept x) (all b)) x
  pub since : (x : List ℕ) → unit.may_leave x → last_kept g.image ≤ last_kept x
  pub known : (x : List ℕ) → unit.may_leave x → pointer day_ring x < DAY_SLOTS

-- A STEP BESIDE THE MINUTES leaves what an image shows of its odometer and its days.
pub record IsBesideTravel (x c : List ℕ) : Type 0 where
  pub odometer_is : odometer_at c ≡ odometer_at x
  pub last : last_kept c ≡ last_kept x
  pub known : pointer day_ring x < DAY_SLOTS → pointer day_ring c < DAY_SLOTS
  pub days : pointer day_ring x < DAY_SLOTS → (day odometer : ℕ) → RecordsDay c day odometer → RecordsDay x day odometer
  pub written : pointer day_ring x < DAY_SLOTS → written_days c ≡ written_days x

-- A MOMENT OF A `keep`, with the day slots: each of them is one of those before, or is begun by this minute, with its
-- odometer; and before, none was later than the last-kept minute's day. And so it is with the days as they are written.
pub record IsKeepingDays (k : UnitMinute) (odometer : ℕ) (x c : List ℕ) : Type 0 where
  pub moment : IsKeeping k odometer x c
  pub slots : (day o : ℕ) → HasSlot c day o
      → HasSlot x day o ⊎ ((last_kept x / 1440 < k.minute / 1440) × (day ≡ k.minute / 1440) × (o ≡ odometer))
  pub earlier : (day o : ℕ) → HasSlot x day o → day ≤ last_kept x / 1440
  pub written : IsKeepingWritten (written_at odometer k) x c

-- An image's odometer is the start's and the whole kilometres of each span, up to the last-kept minute of each or up to
-- one of which the keeping was broken off.
pub record OdometerSafe (rule : Rule) (log : RunLog) (told : List ToldSecond) (start : ℕ) (x : List ℕ) : Type 0 where
  pub legs : List ℕ
  pub are : AreLegs rule (limit_of log) (last_kept x) (spans_of told) legs
  pub sum_is : odometer_at x ≡ min (start + kilometres_of legs) HIGHEST_ODOMETER
