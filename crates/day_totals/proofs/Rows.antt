-- Worked rows, computed by the checker: hours and minutes, and the figures of four minutes of which one was not recorded.
use Rattle.std.proofs.Common.{◌≡◌, ℕ, Bool, true, false, List, [], ◌∷◌, map, refl}
use Rattle.std.specs.Prelude.{codes, Some}
use Rattle.activity_codec.specs.declared.values.Activity.{Activity}
use Rattle.activity_codec.specs.declared.values.Activity.TheVariants as activity
use Rattle.activity_codec.specs.declared.values.Slot.TheVariants.{Driver, CoDriver}
use Rattle.view_model.specs.declared.UnitShown.{UnitShown}
use Rattle.view_model.specs.declared.Viewed.{Viewed}
use Rattle.view_model.specs.declared.marks.Gap.{Gap}
use Rattle.slot_bars.specs.Seeing.{slot_seen}
use Rattle.day_totals.specs.declared.figures.Figure.TheVariants.{Drive, Rest, Unknown, In}
use Rattle.day_totals.specs.Figures.{total, distance_on}
use Rattle.calendar_days.specs.Clock.{duration_text}
use Rattle.day_totals.specs.Text.{distance_text}

morning : duration_text 455 ≡ codes "07:35"
morning = refl

whole_day : duration_text 1440 ≡ codes "24:00"
whole_day = refl

-- a minute of the driver with this activity, with a card or without; the co-driver has none
abbrev minute : ℕ → Activity → Bool → Viewed UnitShown
minute k act present =
    record { minute = k; shown = record { driver = record { act = act; present = present }; codriver = record { act = activity.Rest; present = false }; crew = false } }

-- two minutes of driving, one without a card that lies in a gap, and one of rest with a card that lies there too
abbrev minutes : List (Viewed UnitShown)
minutes = minute 10 activity.Driving true ∷ minute 11 activity.Driving true ∷ minute 12 activity.Rest false ∷ minute 13 activity.Rest true ∷ []

abbrev gaps : List Gap
gaps = record { first = 12; behind = 14 } ∷ []

driven : total Drive (map (slot_seen gaps Driver) minutes) ≡ 2
driven = refl

rested : total Rest (map (slot_seen gaps Driver) minutes) ≡ 1
rested = refl

unrecorded : total Unknown (map (slot_seen gaps Driver) minutes) ≡ 1
unrecorded = refl

with_card : total In (map (slot_seen gaps Driver) minutes) ≡ 3
with_card = refl

-- of the other slot nothing is counted, and two minutes were not recorded
beside : total Rest (map (slot_seen gaps CoDriver) minutes) ≡ 0
beside = refl

beside_unrecorded : total Unknown (map (slot_seen gaps CoDriver) minutes) ≡ 2
beside_unrecorded = refl

-- the distance of a day that is told, and of one that is not
told : distance_on (record { day = 14669; km = 412 } ∷ []) 14669 ≡ Some 412
told = refl

untold : distance_text (distance_on (record { day = 14669; km = 412 } ∷ []) 14670) ≡ codes " km -\n"
untold = refl
