-- The fields of a unit's image, one after the other, as one table (profile).
use Rattle.std.specs.Prelude.{ℕ, ◌+◌, Bool, ◌&&◌, ◌==◌, List, [], ◌∷◌}
use Rattle.unit_model.specs.declared.layout.Field.{Field}
use Rattle.unit_model.specs.declared.layout.TheConstants.{VERSION, VIN, REGISTRATION, SPEED_LIMIT, IDENTIFICATION}
use Rattle.unit_model.specs.declared.layout.TheConstants.{SENSOR, STATE_CERTIFICATE, UNIT_CERTIFICATE, RULE_BYTE, SPARE}
use Rattle.unit_model.specs.declared.layout.TheConstants.{LAST_KEPT, ODOMETER, FIRST_OVER, OVER_COUNT, SPARE_COUNTS}
use Rattle.unit_model.specs.declared.layout.TheConstants.{OWED, SPARE_ROWS, DAYS, INSERTIONS, PLACES, EVENTS, OVERS}
use Rattle.unit_model.specs.declared.layout.TheConstants.{FAULTS, SPARE_FAULTS, SPEEDS, DAY_DATE, DAY_ODOMETER}
use Rattle.unit_model.specs.declared.layout.TheConstants.{DAY_COUNT, DAY_SPARE, DAY_WORDS, ROW_SESSION, ROW_NUMBER}
use Rattle.unit_model.specs.declared.layout.TheConstants.{ROW_SPARE, ROW_CELLS, CELL_MINUTE, CELL_WORD}

-- the fields of an image, by their places
abbrev pub image_fields : List Field
image_fields =
    VERSION ∷ VIN ∷ REGISTRATION ∷ SPEED_LIMIT ∷ IDENTIFICATION ∷ SENSOR ∷ STATE_CERTIFICATE ∷ UNIT_CERTIFICATE
    ∷ RULE_BYTE ∷ SPARE
    ∷ LAST_KEPT ∷ ODOMETER ∷ FIRST_OVER ∷ OVER_COUNT ∷ SPARE_COUNTS ∷ OWED ∷ SPARE_ROWS
    ∷ DAYS ∷ INSERTIONS ∷ PLACES ∷ EVENTS ∷ OVERS ∷ FAULTS ∷ SPARE_FAULTS ∷ SPEEDS ∷ []

-- those of a day slot
abbrev pub slot_fields : List Field
slot_fields = DAY_DATE ∷ DAY_ODOMETER ∷ DAY_COUNT ∷ DAY_SPARE ∷ DAY_WORDS ∷ []

-- those of an owed row
abbrev pub row_fields : List Field
row_fields = ROW_SESSION ∷ ROW_NUMBER ∷ ROW_SPARE ∷ ROW_CELLS ∷ []

-- those of a cell
abbrev pub cell_fields : List Field
cell_fields = CELL_MINUTE ∷ CELL_WORD ∷ []

-- the fields stand one after the other, from a place to an end
abbrev pub are_adjacent : (place end : ℕ) → List Field → Bool
are_adjacent place end [] = place == end
are_adjacent place end (f ∷ fs) = f.place == place && are_adjacent (place + f.size) end fs
