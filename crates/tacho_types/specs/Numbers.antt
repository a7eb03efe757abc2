-- Times, odometer values and distances in bytes (Appendix 1), with the highest byte first.
use Rattle.std.specs.Prelude.{ℕ, List}
use Rattle.byteorder.specs.Endian.{big_number, big_bytes}
use Rattle.tacho_types.specs.declared.numbers.TimeReal.{TimeReal}
use Rattle.tacho_types.specs.declared.numbers.Odometer.{Odometer}
use Rattle.tacho_types.specs.declared.numbers.Distance.{Distance}

-- TimeReal: a time in four bytes
abbrev pub time_bytes : TimeReal → List ℕ
time_bytes v = big_bytes 4 v.0

-- the time that four bytes tell, in seconds since 1970-01-01 00:00 GMT
abbrev pub time_of : List ℕ → TimeReal
time_of bytes = record { 0 = big_number 4 bytes }

-- OdometerShort: an odometer value in three bytes
abbrev pub odometer_bytes : Odometer → List ℕ
odometer_bytes v = big_bytes 3 v.0

-- the odometer value that three bytes tell, in km
abbrev pub odometer_of : List ℕ → Odometer
odometer_of bytes = record { 0 = big_number 3 bytes }

-- Distance: a distance in two bytes
abbrev pub distance_bytes : Distance → List ℕ
distance_bytes v = big_bytes 2 v.0

-- the distance that two bytes tell, in km
abbrev pub distance_of : List ℕ → Distance
distance_of bytes = record { 0 = big_number 2 bytes }
