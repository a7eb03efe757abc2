-- The places, sizes and first bad fields that the standard's largest and smallest cards have, computed.
use Rattle.std.proofs.Common.{◌≡◌, ℕ, true, Option, Some, None, [], ◌∷◌, map, refl}
use Rattle.card_layout.specs.Application.{first_bad_field, application_bytes, application_of, place_of_field}
use Rattle.card_layout.specs.Files.{files_of, range_of, image_size_of, is_updated, updated_ranges}
use Rattle.card_layout.specs.declared.files.Application.{Application}
use Rattle.card_layout.specs.declared.files.Range.{Range}
use Rattle.card_layout.specs.declared.files.TheConstants.{APPLICATION_RANGE, LARGEST, LARGEST_IMAGE}

smallest : Application
smallest = record { structure = 0; events = 6; faults = 12; activity = 5544; vehicles = 84; places = 84 }

largest_size : image_size_of LARGEST ≡ LARGEST_IMAGE
unfolding files_of
largest_size = refl

smallest_size : image_size_of smallest ≡ 11411
unfolding smallest files_of
smallest_size = refl

place : ℕ → ℕ → Option Range
place base len = Some (record { base = base; len = len })

largest_places : map (λ n. range_of LARGEST (record { 0 = n })) (0x0002 ∷ 0x0005 ∷ 0x0501 ∷ 0x0502 ∷ 0x0503 ∷ 0x0504 ∷ 0x0505 ∷ 0x0506 ∷ 0x0507 ∷ 0x0508 ∷ 0x050E ∷ 0x0520 ∷ 0x0521 ∷ 0x0522 ∷ 0xC100 ∷ 0xC108 ∷ 0x0509 ∷ [])
    ≡ place 0 25 ∷ place 25 8 ∷ place 33 10 ∷ place 43 1728 ∷ place 1771 1152 ∷ place 2923 13780 ∷ place 16703 6202 ∷ place 22905 1121
    ∷ place 24026 19 ∷ place 24045 46 ∷ place 24091 4 ∷ place 24095 143 ∷ place 24238 53 ∷ place 24291 280 ∷ place 24571 194 ∷ place 24765 194 ∷ None ∷ []
unfolding files_of place
largest_places = refl

largest_bytes : application_bytes LARGEST ≡ 0x01 ∷ 0x00 ∷ 0x00 ∷ 0x0C ∷ 0x18 ∷ 0x35 ∷ 0xD0 ∷ 0x00 ∷ 0xC8 ∷ 0x70 ∷ []
unfolding application_bytes
largest_bytes = refl

largest_read : application_of (application_bytes LARGEST) ≡ LARGEST
unfolding application_bytes application_of
largest_read = refl

largest_good : first_bad_field (application_bytes LARGEST) ≡ None
unfolding application_bytes first_bad_field
largest_good = refl

-- a string of 5545 bytes
odd_length : first_bad_field (1 ∷ 0 ∷ 0 ∷ 6 ∷ 12 ∷ 0x15 ∷ 0xA9 ∷ 0 ∷ 84 ∷ 84 ∷ []) ≡ Some 5
unfolding first_bad_field
odd_length = refl

places_of_fields : map place_of_field (1 ∷ 2 ∷ 3 ∷ 4 ∷ 5 ∷ 6 ∷ 7 ∷ []) ≡ 0 ∷ 1 ∷ 3 ∷ 4 ∷ 5 ∷ 7 ∷ 9 ∷ []
places_of_fields = refl

ranges_updated : map (λ r. r.base) (updated_ranges LARGEST) ≡ 43 ∷ 1771 ∷ 2923 ∷ 16703 ∷ 22905 ∷ 24026 ∷ []
unfolding files_of
ranges_updated = refl

-- at any sizes
application_place : (app : Application) → range_of app (record { 0 = 0x0501 }) ≡ Some APPLICATION_RANGE
unfolding files_of
application_place app = refl

-- the files that the unit updates
six_updated : (app : Application) → map (λ n. is_updated app (record { 0 = n })) (0x0502 ∷ 0x0503 ∷ 0x0504 ∷ 0x0505 ∷ 0x0506 ∷ 0x0507 ∷ []) ≡ true ∷ true ∷ true ∷ true ∷ true ∷ true ∷ []
unfolding files_of
six_updated app = refl
