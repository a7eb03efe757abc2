-- Which minutes of a book are acknowledged (profile).
use Rattle.std.specs.Prelude.{◌≡◌, List, map}
use Rattle.run_unit_course.specs.run_model.declared.Device.TheVariants.{Unit as Recorder}
use Rattle.run_unit_course.specs.log_model.declared.lines.Mark.{Mark}
use Rattle.run_unit_course.specs.history_model.Book.{Book}
use Rattle.safety_model.specs.Unit.{marks_of}

-- these are the unit's marks of a book: each sure minute once, in order, and no other
abbrev pub AreMarksOf : Book → List Mark → Type 0
AreMarksOf b marks = map (λ m. m.minute) (marks_of Recorder marks) ≡ map (λ i. i.minute) b.sure
