-- The gates of entries, and an entry of which one field was changed.
use Rattle.std.proofs.Common.{◌≡◌, ◌≢◌, ℕ, ◌<◌, ◌≤◌, ◌^◌, List, length, refl, ◌∙◌, ap, arith}
use Rattle.byteorder.specs.Numbers.{length-bytes_high_first}
use Rattle.card_layout.specs.Fields.{field_at}
use Rattle.card_layout.specs.Images.{bytes_at, put}
use Rattle.card_layout.proofs.Numbers.{big_number-big_bytes}
use Rattle.card_layout.proofs.Fields.{field_put, field_stays}
use Rattle.tacho_types.specs.declared.numbers.TimeReal.{TimeReal}
use Rattle.tacho_types.specs.declared.numbers.Odometer.{Odometer}
use Rattle.tacho_types.specs.declared.places.PlaceEntry.{PlaceEntry}
use Rattle.tacho_types.specs.declared.texts.Registration.{Registration}
use Rattle.tacho_types.specs.Numbers.{time_bytes, time_of, odometer_bytes, odometer_of}
use Rattle.tacho_types.specs.Places.{place_bytes}
use Rattle.card_files.specs.declared.card_event.CardEvent.{CardEvent}
use Rattle.card_files.specs.declared.vehicle.Vehicle.{Vehicle}
use Rattle.card_files.specs.Events.{event_bytes}
use Rattle.card_files.specs.Vehicles.{vehicle_bytes, vehicle_of, vehicle_widths}
use Rattle.card_files.proofs.Parts.{same_vehicle}

-- the gate of a vehicle entry is its first use, that of a place its time, and that of an event its begin
pub vehicle_gate : (v : Vehicle) → bytes_at (vehicle_bytes v) 6 4 ≡ time_bytes v.first_use
unfolding vehicle_bytes
vehicle_gate v = refl

pub place_gate : (v : PlaceEntry) → bytes_at (place_bytes v) 0 4 ≡ time_bytes v.time
place_gate v = refl

pub event_gate : (v : CardEvent) → bytes_at (event_bytes v) 1 4 ≡ time_bytes v.begin
unfolding event_bytes
event_gate v = refl

-- a vehicle entry with another last odometer value, and with another last use
module _ (bytes : List ℕ) (long : 31 ≤ length bytes) where
  pub with_odometer_end : (o : Odometer) → o.0 < 256 ^ 3 → vehicle_of (put 3 (odometer_bytes o) bytes) ≡ record (vehicle_of bytes) { odometer_end = o }
  unfolding vehicle_of
  with_odometer_end o small =
      let next = put 3 (odometer_bytes o) bytes in
      let fits : length (odometer_bytes o) ≡ 3 = length-bytes_high_first 3 o.0 in
      let value : odometer_of (odometer_bytes o) ≡ o = (λ t. record { 0 = big_number-big_bytes 3 o.0 small t }) in
      let stays : (j : ℕ) → j < 6 → j ≢ 1 → field_at vehicle_widths j next ≡ field_at vehicle_widths j bytes = λ j there other. field_stays vehicle_widths 1 (odometer_bytes o) bytes (omega arith) fits (omega (arith, long)) j there other in
      same_vehicle _ _ _ _ _ _ _ _ _ _ _ _
      (ap odometer_of (stays 0 (omega arith) (λ e. omega (arith, e))))
      (ap odometer_of (field_put vehicle_widths 1 (odometer_bytes o) bytes (omega arith) fits (omega (arith, long))) ∙ value)
      (ap time_of (stays 2 (omega arith) (λ e. omega (arith, e))))
      (ap time_of (stays 3 (omega arith) (λ e. omega (arith, e))))
      (ap (λ (x : List ℕ). let r : Registration = record { 0 = x } in r) (stays 4 (omega arith) (λ e. omega (arith, e))))
      (stays 5 (omega arith) (λ e. omega (arith, e)))

  pub with_last_use : (t : TimeReal) → t.0 < 256 ^ 4 → vehicle_of (put 10 (time_bytes t) bytes) ≡ record (vehicle_of bytes) { last_use = t }
  unfolding vehicle_of
  with_last_use t small =
      let next = put 10 (time_bytes t) bytes in
      let fits : length (time_bytes t) ≡ 4 = length-bytes_high_first 4 t.0 in
      let value : time_of (time_bytes t) ≡ t = (λ i. record { 0 = big_number-big_bytes 4 t.0 small i }) in
      let stays : (j : ℕ) → j < 6 → j ≢ 3 → field_at vehicle_widths j next ≡ field_at vehicle_widths j bytes = λ j there other. field_stays vehicle_widths 3 (time_bytes t) bytes (omega arith) fits (omega (arith, long)) j there other in
      same_vehicle _ _ _ _ _ _ _ _ _ _ _ _
      (ap odometer_of (stays 0 (omega arith) (λ e. omega (arith, e))))
      (ap odometer_of (stays 1 (omega arith) (λ e. omega (arith, e))))
      (ap time_of (stays 2 (omega arith) (λ e. omega (arith, e))))
      (ap time_of (field_put vehicle_widths 3 (time_bytes t) bytes (omega arith) fits (omega (arith, long))) ∙ value)
      (ap (λ (x : List ℕ). let r : Registration = record { 0 = x } in r) (stays 4 (omega arith) (λ e. omega (arith, e))))
      (stays 5 (omega arith) (λ e. omega (arith, e)))
