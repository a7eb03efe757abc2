-- Sizes of which no field is bad are those that a driver card may have.
use Rattle.std.proofs.Common.{◌≡◌, ℕ, ◌%◌, ◌≤◌, Bool, true, false, Option, Some, None, List, drop, take, refl, ap, ◌∙◌, arith}
use Rattle.std.specs.Prelude.{◌==◌, ◌&&◌, if◌then◌else◌}
use Rattle.std.proofs.lemmas.Bool.Decides.{nat_tests}
use Rattle.byteorder.specs.Endian.{big_number}
use Rattle.byteorder.specs.Numbers.{big_from-take}
use Rattle.card_layout.specs.Application.{IsApplication, is_between, application_of, first_bad_field}

-- a field that passes, and the fields behind it
passes : (b : Bool) (o : Option ℕ) (n : ℕ) → (if b then o else Some n) ≡ None → (b ≡ true) × (o ≡ None)
passes true o n is = (refl, is)
passes false o n is = absurd cc

least : (low high n : ℕ) → is_between low high n ≡ true → low ≤ n
least low high n is = grind (arith, nat_tests, is)

most : (low high n : ℕ) → is_between low high n ≡ true → n ≤ high
most low high n is = grind (arith, nat_tests, is)

both : (a b : Bool) → (a && b) ≡ true → (a ≡ true) × (b ≡ true)
both true true is = (refl, refl)
both true false is = absurd cc
both false true is = absurd cc
both false false is = absurd cc

even : (n : ℕ) → (n % 2 == 0) ≡ true → n % 2 ≡ 0
even n is = grind (arith, nat_tests, is)

front : (n : ℕ) (bytes : List ℕ) → big_number n (take n bytes) ≡ big_number n bytes
front n bytes = big_from-take 0 n n bytes (omega arith)

pub sizes_good : (bytes : List ℕ) → first_bad_field bytes ≡ None → IsApplication (application_of bytes)
unfolding first_bad_field application_of
sizes_good bytes none =
    let at_events : List ℕ = drop 2 (drop 1 bytes) in
    let at_faults : List ℕ = drop 1 at_events in
    let at_string : List ℕ = drop 1 at_faults in
    let at_vehicles : List ℕ = drop 2 at_string in
    let at_places : List ℕ = drop 2 at_vehicles in
    let kind = passes (big_number 1 bytes == 1) _ 1 none in
    let events = passes (is_between 6 12 (big_number 1 at_events)) _ 3 kind.1 in
    let faults = passes (is_between 12 24 (big_number 1 at_faults)) _ 4 events.1 in
    let string = passes (is_between 5544 13776 (big_number 2 at_string) && big_number 2 at_string % 2 == 0) _ 5 faults.1 in
    let vehicles = passes (is_between 84 200 (big_number 2 at_vehicles)) _ 6 string.1 in
    let places = passes (is_between 84 112 (big_number 1 at_places)) _ 7 vehicles.1 in
    let lengths = both (is_between 5544 13776 (big_number 2 at_string)) (big_number 2 at_string % 2 == 0) string.0 in
    record {
      events_least = omega (arith, front 1 at_events, least 6 12 (big_number 1 at_events) events.0);
      events_most = omega (arith, front 1 at_events, most 6 12 (big_number 1 at_events) events.0);
      faults_least = omega (arith, front 1 at_faults, least 12 24 (big_number 1 at_faults) faults.0);
      faults_most = omega (arith, front 1 at_faults, most 12 24 (big_number 1 at_faults) faults.0);
      string_least = omega (arith, front 2 at_string, least 5544 13776 (big_number 2 at_string) lengths.0);
      string_most = omega (arith, front 2 at_string, most 5544 13776 (big_number 2 at_string) lengths.0);
      string_even = ap (λ (n : ℕ). n % 2) (front 2 at_string) ∙ even (big_number 2 at_string) lengths.1;
      vehicles_least = omega (arith, front 2 at_vehicles, least 84 200 (big_number 2 at_vehicles) vehicles.0);
      vehicles_most = omega (arith, front 2 at_vehicles, most 84 200 (big_number 2 at_vehicles) vehicles.0);
      places_least = omega (arith, front 1 at_places, least 84 112 (big_number 1 at_places) places.0);
      places_most = omega (arith, front 1 at_places, most 84 112 (big_number 1 at_places) places.0);
    }
