-- Minutes that were recorded, and a line of a card as a unit would show it.
use Rattle.std.specs.Prelude.{ℕ, ◌||◌, not, Bool, true, false, List}
use Rattle.activity_codec.specs.declared.values.Activity.TheVariants.{Rest}
use Rattle.view_model.specs.declared.State.{State}
use Rattle.view_model.specs.declared.UnitShown.{UnitShown}
use Rattle.view_model.specs.declared.CardShown.{CardShown}
use Rattle.view_model.specs.declared.Line.{Line}
use Rattle.view_model.specs.declared.marks.Gap.{Gap}
use Rattle.slot_bars.specs.Seeing.{is_in_gap}

-- a minute in which a slot has this state was recorded: with a card, or where it lies in no gap
abbrev pub is_known : List Gap → State → (minute : ℕ) → Bool
is_known gaps state minute = state.present || not (is_in_gap gaps minute)

-- a line of a card as a unit would show it, with the card in its driver slot
abbrev pub as_unit : Line CardShown → Line UnitShown
as_unit line =
    record {
      first = line.first;
      last = line.last;
      shown = record {
        driver = record { act = line.shown.act; present = true };
        codriver = record { act = Rest; present = false };
        crew = line.shown.crew;
      };
    }
