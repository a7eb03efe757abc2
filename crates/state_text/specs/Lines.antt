-- The lines that are told of a device: what stands behind its name, and on which day its value lies (profile).
use Rattle.std.specs.Prelude.{ℕ, ◌/◌, ◌<◌, List, [], codes}
use Rattle.std.specs.List.{AllByRecursion}
use Rattle.activity_codec.specs.declared.day.TheConstants.{DAY_MINUTES, DAY_SECONDS}
use Rattle.minute_model.specs.declared.Rule.{Rule}
use Rattle.minute_model.specs.declared.Rule.TheVariants.{Original, Amended}
use Rattle.tacho_types.specs.declared.calendar.TheConstants.{DAYS}
use Rattle.state_text.specs.declared.line.Line.{Line}
use Rattle.state_text.specs.declared.line.Name.{Name}
use Rattle.state_text.specs.declared.line.Name.TheVariants as name
use Rattle.state_text.specs.declared.line.Value.{Value}
use Rattle.state_text.specs.declared.line.Value.TheVariants as value

-- what stands behind a device's name
abbrev pub name_text : Name → List ℕ
name_text name.Whole = []
name_text name.Version = codes "-version"
name_text name.RuleOfMinutes = codes "-rule"
name_text name.VehicleNumber = codes "-vin"
name_text name.Plate = codes "-plate"
name_text name.Limit = codes "-limit"
name_text name.Odometer = codes "-odometer"
name_text name.LastKept = codes "-last-kept"
name_text name.NextStart = codes "-next-start"
name_text name.FirstDay = codes "-first-day"
name_text name.LastDay = codes "-last-day"
name_text name.Days = codes "-days"
name_text name.Owed = codes "-owed"
name_text name.Number = codes "-number"
name_text name.Surname = codes "-surname"
name_text name.FirstNames = codes "-first-names"
name_text name.LastUse = codes "-last-use"
name_text name.Vehicle = codes "-vehicle"
name_text name.Session = codes "-session"
name_text name.Newest = codes "-newest"

-- what a rule of minutes is called
abbrev pub rule_name : Rule → List ℕ
rule_name Original = codes "original"
rule_name Amended = codes "amended"

-- the day on which a value lies, by its number since 1970-01-01; 0 where it lies on none
abbrev pub day_of : Value → ℕ
day_of (value.Day day) = day
day_of (value.Minute minute) = minute / DAY_MINUTES
day_of (value.Second second) = second / DAY_SECONDS
day_of _ = 0

-- the days are such that a time of four bytes can name
abbrev pub AreDated : List Line → Type 0
AreDated lines = AllByRecursion (λ (l : Line). day_of l.value < DAYS) lines
