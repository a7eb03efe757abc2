-- Application_Identification: its fields in order, with their widths and ranges (Appendix 1,
-- DriverCardApplicationIdentification).
use Rattle.std.specs.Prelude.{◌≡◌, ℕ, ◌+◌, ◌-◌, ◌%◌, ◌≤◌, ◌==◌, ◌&&◌, nat_le, if◌then◌else◌, Bool, true, Option, Some}
use Rattle.std.specs.Prelude.{None, List, [], ◌∷◌, map, drop}
use Rattle.byteorder.specs.Endian.{big_number}
use Rattle.card_layout.specs.Fields.{number_in, numbers_written}
use Rattle.card_layout.specs.Images.{bytes_at}
use Rattle.card_layout.specs.declared.files.Application.{Application}
use Rattle.card_layout.specs.declared.files.TheConstants.{APPLICATION_RANGE, STRING_LEAST, STRING_MOST}

-- a field of so many bytes, and the numbers that it may hold
pub record Field : Type 0 where
  pub width : ℕ
  pub is_good : ℕ → Bool

-- the field of this width that may hold these numbers
abbrev pub field : ℕ → (ℕ → Bool) → Field
field width is_good = record { width = width; is_good = is_good }

-- a number is not below the first of two and not above the second
abbrev pub is_between : ℕ → ℕ → ℕ → Bool
is_between low high n = nat_le low n && nat_le n high

-- card type, structure version, events per type, faults per type, string length, vehicle entries, place entries
abbrev pub application_fields : List Field
application_fields =
    field 1 (λ n. n == 1)
    ∷ field 2 (λ _. true)
    ∷ field 1 (is_between 6 12)
    ∷ field 1 (is_between 12 24)
    ∷ field 2 (λ n. is_between STRING_LEAST STRING_MOST n && n % 2 == 0)
    ∷ field 2 (is_between 84 200)
    ∷ field 1 (is_between 84 112)
    ∷ []

-- the widths of these fields, in bytes
abbrev pub application_widths : List ℕ
application_widths = map (λ f. f.width) application_fields

-- the number of the first of these fields that is out of its range, where they are numbered from n
abbrev pub first_bad_from : ℕ → List Field → List ℕ → Option ℕ
first_bad_from n [] bytes = None
first_bad_from n (f ∷ fs) bytes =
    if f.is_good (big_number f.width bytes) then first_bad_from (n + 1) fs (drop f.width bytes) else Some n

-- the number, from 1, of the first field of the file that is out of its range
unfoldable pub first_bad_field : List ℕ → Option ℕ
first_bad_field bytes = first_bad_from 1 application_fields bytes

-- the place in the file of the field with this number
abbrev pub place_before : ℕ → List Field → ℕ
place_before n [] = 0
place_before n (f ∷ fs) = if nat_le n 1 then 0 else f.width + place_before (n - 1) fs

-- the same of the fields of Application_Identification
abbrev pub place_of_field : ℕ → ℕ
place_of_field n = place_before n application_fields

-- the file's bytes: the card type is 1, that of a driver card
unfoldable pub application_bytes : Application → List ℕ
application_bytes app =
    numbers_written application_widths
    (1 ∷ app.structure ∷ app.events ∷ app.faults ∷ app.activity ∷ app.vehicles ∷ app.places ∷ [])

-- what the file's bytes tell
unfoldable pub application_of : List ℕ → Application
application_of bytes =
    record {
      structure = number_in application_widths 1 bytes;
      events = number_in application_widths 2 bytes;
      faults = number_in application_widths 3 bytes;
      activity = number_in application_widths 4 bytes;
      vehicles = number_in application_widths 5 bytes;
      places = number_in application_widths 6 bytes;
    }

-- the sizes that a driver card may have
pub record IsApplication (app : Application) : Type 0 where
  pub events_least : 6 ≤ app.events
  pub events_most : app.events ≤ 12
  pub faults_least : 12 ≤ app.faults
  pub faults_most : app.faults ≤ 24
  pub string_least : STRING_LEAST ≤ app.activity
  pub string_most : app.activity ≤ STRING_MOST
  pub string_even : app.activity % 2 ≡ 0
  pub vehicles_least : 84 ≤ app.vehicles
  pub vehicles_most : app.vehicles ≤ 200
  pub places_least : 84 ≤ app.places
  pub places_most : app.places ≤ 112

-- the bytes of Application_Identification in a flat image
abbrev pub application_in : List ℕ → List ℕ
application_in image = bytes_at image APPLICATION_RANGE.base APPLICATION_RANGE.len
