-- What stands for an element past the end.
use Rattle.std.proofs.Common.{None, false}
use Rattle.activity_codec.specs.declared.entries.Entry.{Entry}
use Rattle.activity_codec.specs.declared.values.Activity.TheVariants.{Rest}
use Rattle.activity_codec.specs.declared.values.Slot.TheVariants.{Driver}
use Rattle.view_model.specs.declared.State.{State}
use Rattle.view_model.specs.declared.UnitShown.{UnitShown}
use Rattle.view_model.specs.declared.CardShown.{CardShown}
use Rattle.view_model.specs.declared.Line.{Line}
use Rattle.card_match.specs.declared.cases.Use.{Use}
use Rattle.card_match.specs.declared.cases.Case.{Case}
use Rattle.card_match.specs.declared.difference.Instead.TheVariants.{NoMinute}
use Rattle.card_match.specs.declared.difference.Difference.{Difference}

abbrev pub no_entry : Entry
no_entry = record { minute = 0; slot = Driver; crew = false; act = Rest }

abbrev pub no_case : Case
no_case = record { entry = no_entry; own = false; seen = None }

abbrev pub no_use : Use
no_use = record { first = 0; last = 0 }

abbrev pub no_state : State
no_state = record { act = Rest; present = false }

abbrev pub no_unit_line : Line UnitShown
no_unit_line = record { first = 0; last = 0; shown = record { driver = no_state; codriver = no_state; crew = false } }

abbrev pub no_card_line : Line CardShown
no_card_line = record { first = 0; last = 0; shown = record { slot = Driver; act = Rest; crew = false } }

abbrev pub no_run : Line Difference
no_run = record { first = 0; last = 0; shown = record { slot = Driver; act = Rest; instead = NoMinute } }
