-- The insertions, places and speeds of a unit's image (Appendix 1, VuCardIWRecord, VuPlaceDailyWorkPeriodRecord,
-- VuDetailedSpeedBlock).
use Rattle.std.specs.Prelude.{ℕ, List, [], ◌∷◌}
use Rattle.card_layout.specs.Fields.{total_width, place_in, number_in}
use Rattle.unit_model.specs.Ring.{Shape}
use Rattle.unit_model.specs.declared.layout.TheConstants.{INSERTIONS, INSERTION_SLOTS, PLACES, PLACE_SLOTS, SPEEDS}
use Rattle.unit_model.specs.declared.layout.TheConstants.{SPEED_SLOTS}
use Rattle.message_model.specs.declared.sizes.TheConstants.{SPEED_BLOCK}

-- an insertion: surname, first names, card number, expiry, time, odometer, slot, withdrawal time and odometer, the
-- previous vehicle and the time of the withdrawal from it, the manual flag
abbrev pub insertion_widths : List ℕ
insertion_widths = 36 ∷ 36 ∷ 18 ∷ 4 ∷ 4 ∷ 3 ∷ 1 ∷ 4 ∷ 3 ∷ 15 ∷ 4 ∷ 1 ∷ []

-- a place: card number, time, type, country, region, odometer
abbrev pub place_widths : List ℕ
place_widths = 18 ∷ 4 ∷ 1 ∷ 1 ∷ 1 ∷ 3 ∷ []

-- the insertions of a unit's image: one is there where its time is not 0
abbrev pub insertion_ring : Shape
insertion_ring = record {
  base = INSERTIONS.place;
  width = total_width insertion_widths;
  count = INSERTION_SLOTS;
  pointer_width = 4;
  gate = place_in insertion_widths 4;
}

-- its places, likewise
abbrev pub unit_place_ring : Shape
unit_place_ring = record {
  base = PLACES.place;
  width = total_width place_widths;
  count = PLACE_SLOTS;
  pointer_width = 4;
  gate = place_in place_widths 1;
}

-- its blocks of detailed speed: one is there where its time is not 0
abbrev pub speed_ring : Shape
speed_ring = record { base = SPEEDS.place; width = SPEED_BLOCK; count = SPEED_SLOTS; pointer_width = 4; gate = 0 }

-- when a card was inserted
abbrev pub insertion_time : List ℕ → ℕ
insertion_time e = number_in insertion_widths 4 e

-- when a card was withdrawn, 0 where it was not
abbrev pub withdrawal_time : List ℕ → ℕ
withdrawal_time e = number_in insertion_widths 7 e

-- when a place was entered
abbrev pub place_time : List ℕ → ℕ
place_time e = number_in place_widths 1 e
