-- Images that are written: words, their count, the odometer and the last-kept minute.
use Rattle.std.specs.Prelude.{ℕ, ◌+◌, ◌-◌, ◌*◌, List, [], ◌∷◌, ◌++◌, length}
use Rattle.std.specs.List.{range_with_len}
use Rattle.std.specs.Int.{to_be_bytes, w16, w32}
use Rattle.gated_ring.specs.tach_media.Medium.{put, SameOutside}
use Rattle.unit_model.specs.declared.layout.TheConstants.{DAY_SLOTS, DAY_COUNT, DAY_WORDS, LAST_KEPT, ODOMETER}
use Rattle.unit_model.specs.Image.{slot_place}

-- the indices behind one, round to it
abbrev pub behind_index : ℕ → List ℕ
behind_index i = range_with_len (i + 1) (DAY_SLOTS - (i + 1)) ++ range_with_len 0 i

-- an image with words from a place on
abbrev pub written : ℕ → List ℕ → List ℕ → List ℕ
written place [] image = image
written place (w ∷ ws) image = written (place + 2) ws (put place (to_be_bytes w16 w) image)

-- the room behind the words of a slot that its count covers
abbrev pub free_place : (index count : ℕ) → ℕ
free_place i count = slot_place i + DAY_WORDS.place + 2 * count

-- images that differ in that room alone
abbrev pub DiffersBehind : (index count : ℕ) → List ℕ → List ℕ → Type 0
DiffersBehind i count x c = SameOutside (free_place i count) (DAY_WORDS.size - 2 * count) x c

-- an image with another odometer
abbrev pub with_odometer : ℕ → List ℕ → List ℕ
with_odometer odometer x = put ODOMETER.place (to_be_bytes w32 odometer) x

-- with another count of a slot
abbrev pub with_count : (index count : ℕ) → List ℕ → List ℕ
with_count i count x = put (slot_place i + DAY_COUNT.place) (to_be_bytes w16 count) x

-- with another last-kept minute
abbrev pub with_kept : ℕ → List ℕ → List ℕ
with_kept minute x = put LAST_KEPT.place (to_be_bytes w32 minute) x

-- with more words of a slot, and their count
abbrev pub with_words : (index count : ℕ) → List ℕ → List ℕ → List ℕ
with_words i count ws x = with_count i (count + length ws) (written (free_place i count) ws x)
