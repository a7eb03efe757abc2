-- What stands for an element past the end.
use Rattle.unit_marks.specs.declared.marks.Midnight.{Midnight}

abbrev pub no_midnight : Midnight
no_midnight = record { date = 0; odometer = 0 }
