-- What is seen of one slot in a minute, and the bars of a slot (profile).
use Rattle.std.specs.Prelude.{ℕ, ◌&&◌, ◌||◌, not, nat_le, nat_lt, Bool, true, if◌then◌else◌, List, [], ◌++◌, codes}
use Rattle.std.specs.List.{list_any}
use Rattle.activity_codec.specs.declared.values.Slot.{Slot}
use Rattle.activity_codec.specs.declared.values.Slot.TheVariants.{Driver, CoDriver}
use Rattle.activity_codec.specs.Activity.{same_activity}
use Rattle.activity_codec.specs.Names.{activity_name}
use Rattle.view_model.specs.declared.State.{State}
use Rattle.view_model.specs.declared.UnitShown.{UnitShown}
use Rattle.view_model.specs.declared.CardShown.{CardShown}
use Rattle.view_model.specs.declared.Viewed.{Viewed}
use Rattle.view_model.specs.declared.Line.{Line}
use Rattle.view_model.specs.Lines.{same_bool, lines_of}
use Rattle.view_model.specs.declared.marks.Gap.{Gap}
use Rattle.slot_bars.specs.declared.seen.Seen.{Seen}

-- a minute lies in one of these gaps
abbrev pub is_in_gap : List Gap → ℕ → Bool
is_in_gap gaps minute = list_any (λ gap. nat_le gap.first minute && nat_lt minute gap.behind) gaps

-- the state of a slot
abbrev pub state_in : Slot → UnitShown → State
state_in Driver shown = shown.driver
state_in CoDriver shown = shown.codriver

-- WHAT IS SEEN OF A SLOT: its state and CREW; a minute without a card that lies in a gap was not recorded
abbrev pub slot_seen : List Gap → Slot → Viewed UnitShown → Viewed Seen
slot_seen gaps slot m =
    record {
      minute = m.minute;
      shown = record {
        act = (state_in slot m.shown).act;
        present = (state_in slot m.shown).present;
        crew = m.shown.crew;
        known = (state_in slot m.shown).present || not (is_in_gap gaps m.minute);
      };
    }

-- the card of a card file is present in each of its minutes
abbrev pub card_seen : Viewed CardShown → Viewed Seen
card_seen m = record {
  minute = m.minute;
  shown = record { act = m.shown.act; present = true; crew = m.shown.crew; known = true };
}

-- the same is seen in two minutes
abbrev pub same_seen : Seen → Seen → Bool
same_seen a b = same_activity a.act b.act && same_bool a.present b.present && same_bool a.crew b.crew
    && same_bool a.known b.known

-- what is said beside the activity
abbrev pub beside_words : Seen → List ℕ
beside_words seen = if seen.present then (if seen.crew then codes ", crew" else []) else codes ", no card"

-- `drive`, `drive, crew`, `rest, no card` or `unknown`
abbrev pub seen_words : Seen → List ℕ
seen_words seen = if seen.known then activity_name seen.act ++ beside_words seen else codes "unknown"

-- THE BARS OF A SLOT: the longest runs of minutes in a row, within a day, in which the same is seen
abbrev pub bars_of : List (Viewed Seen) → List (Line Seen)
bars_of minutes = lines_of same_seen minutes
