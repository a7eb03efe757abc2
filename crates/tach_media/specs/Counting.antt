-- How a device counts its failed calls.
use Rattle.std.specs.Prelude.{◌+◌, min, false, if◌then◌else◌}
use Rattle.tach_media.specs.Medium.{last_count}
use Rattle.tach_media.specs.declared.counts.Counts.{Counts}

-- one call more has failed; on a device that worked it is a breakdown
abbrev pub failed_once : Counts → Counts
failed_once k = record {
  works = false;
  faults = min (k.faults + 1) last_count;
  breakdowns = if k.works then min (k.breakdowns + 1) last_count else k.breakdowns;
}
