-- What a run promises of its unit (profile).
use Rattle.std.specs.Prelude.{◌≡◌, ℕ, ◌-◌, ◌<◌, ◌≤◌, Option, is_some, List, [], ◌∷◌, ◌++◌, Contains, filter, Bool, true}
use Rattle.std.specs.Prelude.{false}
use Rattle.device_rule.specs.minute_model.declared.Rule.{Rule}
use Rattle.device_rule.specs.minute_model.declared.Minute.{Minute}
use Rattle.device_rule.specs.run_model.declared.Device.{Device}
use Rattle.device_rule.specs.run_model.declared.Device.TheVariants.{Unit as Recorder, CardA, CardB}
use Rattle.tach_media.specs.Medium.{State, bytes_at}
use Rattle.device_rule.specs.unit_model.declared.layout.TheConstants.{DAY_SLOTS, LAST_KEPT, SPARE_COUNTS, SPARE_ROWS}
use Rattle.device_rule.specs.unit_model.declared.layout.TheConstants.{SPARE_FAULTS}
use Rattle.device_rule.specs.unit_model.Days.{ShownDay, newest_days}
use Rattle.device_rule.specs.unit_model.Image.{recorded, last_kept}
use Rattle.device_rule.specs.unit_model.Decoding.{Decodes}
use Rattle.device_rule.specs.log_model.declared.lines.Mark.{Mark}
use Rattle.device_rule.specs.log_model.Course.{ToldSecond}
use Rattle.device_rule.specs.log_model.Spans.{spans_of}
use Rattle.device_rule.specs.history_model.Minutes.{HistoryMinute}
use Rattle.device_rule.specs.history_model.History.{decided_of}
use Rattle.device_rule.specs.Filling.{FillsDays, filled_with}
use Rattle.safety_model.specs.Recording.{IsPassed, MayCome}

-- What a unit was issued with, and no call writes: the bytes before the last-kept minute (version, vehicle, speed
-- limit, identification, sensor and certificates), and the spare ones behind the counts, behind the owed rows and
-- behind the faults.
abbrev pub issued_bytes : List ℕ → List ℕ
issued_bytes x =
    bytes_at x 0 LAST_KEPT.place
    ++ (bytes_at x SPARE_COUNTS.place SPARE_COUNTS.size
    ++ (bytes_at x SPARE_ROWS.place SPARE_ROWS.size ++ bytes_at x SPARE_FAULTS.place SPARE_FAULTS.size))

-- An image shows the start's days filled with these minutes, of which only the oldest days may be gone: the newest 366
-- are there, or one fewer where the minute that may come next begins a further day.
pub record UnitShows (start : List ShownDay) (past : List HistoryMinute) (lost : List (List HistoryMinute))
    (x : List ℕ) : Type 0 where
  pub some : List HistoryMinute
  pub passed : IsPassed past lost some
  pub next : Option HistoryMinute
  pub comes : MayCome past lost some next
  pub days : FillsDays start next some (recorded x)

-- these are the device's
abbrev pub is_of : Device → Device → Bool
is_of Recorder Recorder = true
is_of CardA CardA = true
is_of CardB CardB = true
is_of Recorder CardA = false
is_of Recorder CardB = false
is_of CardA Recorder = false
is_of CardA CardB = false
is_of CardB Recorder = false
is_of CardB CardA = false

-- the marks of a device
abbrev pub marks_of : Device → List Mark → List Mark
marks_of device marks = filter (λ m. is_of device m.device) marks

-- the minutes of marks increase
abbrev pub Increase : List Mark → Type 0
Increase [] = Unit {0}
Increase (m ∷ []) = Unit {0}
Increase (m ∷ n ∷ marks) = (m.minute < n.minute) × Increase (n ∷ marks)

-- A mark is told at once: twelve writes before its clock, as many as a keep begins at most, a stop might have left an
-- image that had not come to its minute yet.
abbrev pub IsPrompt : State → Mark → Type 0
IsPrompt unit m = is_some unit.image ≡ true → (x : List ℕ) × unit.left_since (m.clock - 12) x × (last_kept x < m.minute)

-- an acknowledged minute stands in the history, and every image since shows that very one, unless its day was given up
-- as the oldest
pub record UnitMarkHolds
    (start : List ShownDay) (past : List HistoryMinute) (lost : List (List HistoryMinute)) (unit : State)
    (m : Mark) : Type 0 where
  pub i : HistoryMinute
  pub minute : i.minute ≡ m.minute
  pub stands : Contains past i
  pub clock : m.clock ≤ unit.clock
  pub prompt : IsPrompt unit m
  pub shown : (x : List ℕ) → unit.left_since m.clock x → (s : UnitShows start past lost x) × Contains s.some i

-- THE UNIT: every image that a stop might have left since a clock shows the start and a part of the history from its
-- front, and decodes; the acknowledged minutes increase, and hold
pub record UnitSafe (start : List ShownDay)
    (past : List HistoryMinute) (lost : List (List HistoryMinute)) (marks : List Mark) (since : ℕ) (unit : State) : Type
    0 where
  pub minutes : (x : List ℕ) → unit.left_since since x → UnitShows start past lost x
  pub decodes : (x : List ℕ) → unit.left_since since x → Decodes x
  pub in_order : Increase (marks_of Recorder marks)
  pub marked : (m : Mark) → Contains (marks_of Recorder marks) m → UnitMarkHolds start past lost unit m

-- WHERE NO CALL ON IT FAILED: each decided minute of these seconds stands in the history,
abbrev pub HasEachDecided : Rule → List ToldSecond → (past : List HistoryMinute) → Type 0
HasEachDecided rule told past = (span : List ToldSecond) (d : Minute) → Contains (spans_of told) span
    → Contains (decided_of rule span) d →
    (i : HistoryMinute) × Contains past i × (i.minute ≡ d.minute)

-- and an image's days are the start's with all of these minutes, of which the newest 366 are retained.
abbrev pub IsFilled : (start : List ShownDay) → (past : List HistoryMinute) → List ℕ → Type 0
IsFilled start past x = recorded x ≡ newest_days DAY_SLOTS (filled_with start past)
