-- What is read of the last-kept minute's day, and how many days are recorded.
use Rattle.std.specs.Prelude.{ℕ, ◌+◌, ◌-◌, ◌*◌, ◌%◌, ◌==◌, min, Option, Some, None, Result, Ok, Err, if◌then◌else◌}
use Rattle.unit_memory.specs.declared.words.Scan.{Scan}
use Rattle.unit_minutes.specs.declared.today.Today.{Today}
use Rattle.unit_minutes.specs.Coming.{bare_bits}

-- what a scan of the day says, within its ranges
abbrev pub today_of : (last stored : ℕ) → Result Scan ℕ → Today
today_of last stored (Ok s) = record {
  stored = stored;
  count = min s.count (2 * (last + 1));
  bits = record { driver = s.driver % 16; codriver = s.codriver % 16 };
}
today_of last stored (Err p) = record { stored = stored; count = 0; bits = bare_bits }

-- of so many days that are there, a later one is not recorded
abbrev pub but_stray : ℕ → Option ℕ → ℕ
but_stray there None = there
but_stray there (Some s) = there - 1

-- and before the first minute none is
abbrev pub recorded_days : (kept there : ℕ) → Option ℕ → ℕ
recorded_days kept there stray = if kept == 0 then 0 else but_stray there stray
