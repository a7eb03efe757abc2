-- PlaceRecord in bytes (Appendix 1): time, type, country, region, odometer.
use Rattle.std.specs.Prelude.{ℕ, List, [], ◌∷◌}
use Rattle.card_layout.specs.Fields.{joined, field_at, number_in}
use Rattle.tacho_types.specs.Numbers.{time_bytes, time_of, odometer_bytes, odometer_of}
use Rattle.tacho_types.specs.declared.places.PlaceEntry.{PlaceEntry}

-- the widths of its fields
abbrev pub place_widths : List ℕ
place_widths = 4 ∷ 1 ∷ 1 ∷ 1 ∷ 3 ∷ []

-- a place entry in bytes
abbrev pub place_bytes : PlaceEntry → List ℕ
place_bytes v =
    joined (time_bytes v.time ∷ (v.kind ∷ []) ∷ (v.country.0 ∷ []) ∷ (v.region ∷ []) ∷ odometer_bytes v.odometer ∷ [])

-- the place entry that bytes tell
abbrev pub place_of : List ℕ → PlaceEntry
place_of bytes =
    record {
      time = time_of (field_at place_widths 0 bytes);
      kind = number_in place_widths 1 bytes;
      country = record { 0 = number_in place_widths 2 bytes };
      region = number_in place_widths 3 bytes;
      odometer = odometer_of (field_at place_widths 4 bytes);
    }
