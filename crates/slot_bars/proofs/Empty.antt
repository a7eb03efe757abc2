-- What stands for a line past the end.
use Rattle.std.proofs.Common.{false}
use Rattle.activity_codec.specs.declared.values.Activity.TheVariants.{Rest}
use Rattle.activity_codec.specs.declared.values.Slot.TheVariants.{Driver}
use Rattle.view_model.specs.declared.UnitShown.{UnitShown}
use Rattle.view_model.specs.declared.CardShown.{CardShown}
use Rattle.view_model.specs.declared.Line.{Line}
use Rattle.slot_bars.specs.declared.seen.Seen.{Seen}

abbrev pub no_unit_line : Line UnitShown
no_unit_line = record { first = 0; last = 0; shown = record { driver = record { act = Rest; present = false }; codriver = record { act = Rest; present = false }; crew = false } }

abbrev pub no_card_line : Line CardShown
no_card_line = record { first = 0; last = 0; shown = record { slot = Driver; act = Rest; crew = false } }

abbrev pub no_bar : Line Seen
no_bar = record { first = 0; last = 0; shown = record { act = Rest; present = false; crew = false; known = false } }
