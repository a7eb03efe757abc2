-- CardVehicleRecord in bytes (Appendix 1): odometer at begin and at end, first and last use, registration, counter.
use Rattle.std.specs.Prelude.{ℕ, List, [], ◌∷◌}
use Rattle.card_layout.specs.Fields.{joined, field_at}
use Rattle.tacho_types.specs.Numbers.{time_bytes, time_of, odometer_bytes, odometer_of}
use Rattle.card_files.specs.declared.vehicle.Vehicle.{Vehicle}

-- the widths of its fields
abbrev pub vehicle_widths : List ℕ
vehicle_widths = 3 ∷ 3 ∷ 4 ∷ 4 ∷ 15 ∷ 2 ∷ []

-- a vehicle entry in bytes
unfoldable pub vehicle_bytes : Vehicle → List ℕ
vehicle_bytes v =
    joined
    (odometer_bytes v.odometer_begin
    ∷ odometer_bytes v.odometer_end
    ∷ time_bytes v.first_use
    ∷ time_bytes v.last_use
    ∷ v.registration.0
    ∷ v.counter
    ∷ [])

-- the vehicle entry that bytes tell
unfoldable pub vehicle_of : List ℕ → Vehicle
vehicle_of bytes =
    record {
      odometer_begin = odometer_of (field_at vehicle_widths 0 bytes);
      odometer_end = odometer_of (field_at vehicle_widths 1 bytes);
      first_use = time_of (field_at vehicle_widths 2 bytes);
      last_use = time_of (field_at vehicle_widths 3 bytes);
      registration = record { 0 = field_at vehicle_widths 4 bytes };
      counter = field_at vehicle_widths 5 bytes;
    }
