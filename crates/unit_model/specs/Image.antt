-- What the image of a unit says of its days and minutes (profile).
use Rattle.std.specs.Prelude.{◌≡◌, ℕ, ◌+◌, ◌*◌, ◌/◌, ◌%◌, min, Option, Some, None, List, [], ◌∷◌, map, filter, nat_le}
use Rattle.std.specs.Prelude.{◌==◌, if◌then◌else◌}
use Rattle.std.specs.List.{range_with_len}
use Rattle.gated_ring.specs.tach_media.Medium.{State, LiesInside, bytes_at}
use Rattle.gated_ring.specs.Ring.{Shape, number_at, ring_list, indices as ring_indices}
use Rattle.unit_model.specs.declared.layout.Field.{Field}
use Rattle.unit_model.specs.declared.layout.TheConstants.{IMAGE_SIZE, DAYS, DAY_SLOTS, DAY_SLOT_SIZE, DAY_DATE}
use Rattle.unit_model.specs.declared.layout.TheConstants.{DAY_ODOMETER, DAY_COUNT, DAY_SPARE, DAY_WORDS, DAY_WORD_LIMIT}
use Rattle.unit_model.specs.declared.layout.TheConstants.{LAST_KEPT, ODOMETER}
use Rattle.unit_model.specs.Days.{StoredDay, ShownDay, UnitMinute, word_minute, days_shown, minutes_of}

-- a medium that is a unit's: it has its size, and all of it may be written
pub record IsUnit (s : State) : Type 0 where
  pub sized : s.size ≡ IMAGE_SIZE
  pub behind : s.behind ≡ 0
  pub writable : LiesInside s.writable 0 IMAGE_SIZE

-- the number in a field
abbrev pub number_of : List ℕ → Field → ℕ
number_of image f = number_at image f.place f.size

-- the last-kept minute, 0 for none
unfoldable pub last_kept : List ℕ → ℕ
last_kept image = number_of image LAST_KEPT

-- the stored odometer, in kilometres
unfoldable pub odometer_at : List ℕ → ℕ
odometer_at image = number_of image ODOMETER

-- the ring of the day slots: a pointer of four bytes, and a slot is there where its date is not 0
abbrev pub day_ring : Shape
day_ring = record {
  base = DAYS.place;
  width = DAY_SLOT_SIZE;
  count = DAY_SLOTS;
  pointer_width = 4;
  gate = DAY_DATE.place;
}

-- where the slot of an index begins
abbrev pub slot_place : ℕ → ℕ
slot_place i = DAYS.place + 4 + i * DAY_SLOT_SIZE

-- so many words from a place on
abbrev pub words_at : List ℕ → (place count : ℕ) → List ℕ
words_at image place count = map (λ j. number_at image (place + 2 * j) 2) (range_with_len 0 count)

-- the day of a slot's bytes: its date, its odometer, and the words that its count covers
abbrev pub unit_day : List ℕ → StoredDay
unit_day slot = record {
  date = number_of slot DAY_DATE;
  odometer = number_of slot DAY_ODOMETER;
  words = words_at slot DAY_WORDS.place (number_of slot DAY_COUNT);
}

-- the indices of the slots that are there, oldest first
unfoldable pub indices : List ℕ → List ℕ
indices image = ring_indices day_ring image

-- the days of these slots
unfoldable pub unit_days : List ℕ → List StoredDay
unit_days image = map unit_day (ring_list day_ring image)

-- the recorded days of a unit image, with their minutes up to the last-kept one
unfoldable pub recorded : List ℕ → List ShownDay
recorded image = days_shown (last_kept image) (unit_days image)

-- the minutes of a unit image: CREW from the driver's word
unfoldable pub unit_minutes : List ℕ → List UnitMinute
unit_minutes image = minutes_of (recorded image)

-- a slot's date in seconds, with which it begins
abbrev pub slot_date : List ℕ → ℕ → ℕ
slot_date image i = number_at image (slot_place i) DAY_DATE.size

-- its odometer in km
abbrev pub slot_odometer : List ℕ → ℕ → ℕ
slot_odometer image i = number_at image (slot_place i + DAY_ODOMETER.place) DAY_ODOMETER.size

-- how many words it has
abbrev pub slot_count : List ℕ → ℕ → ℕ
slot_count image i = number_at image (slot_place i + DAY_COUNT.place) DAY_COUNT.size

-- the spare bytes behind the count
abbrev pub spare_bytes : List ℕ → ℕ → List ℕ
spare_bytes image i = bytes_at image (slot_place i + DAY_SPARE.place) DAY_SPARE.size

-- the first of its words, so many
abbrev pub slot_words : List ℕ → ℕ → ℕ → List ℕ
slot_words image i count = words_at image (slot_place i + DAY_WORDS.place) count

-- the indices of the recorded days' slots, oldest first: a day is recorded where it is not later than the last-kept
-- minute's
unfoldable pub recorded_indices : List ℕ → List ℕ
recorded_indices x = filter (λ i. nat_le (slot_date x i / 86400) (last_kept x / 1440)) (indices x)

-- the words that a slot's count covers; it has room for 2880
abbrev pub covered_words : List ℕ → ℕ → List ℕ
covered_words x i = slot_words x i (min (slot_count x i) DAY_WORD_LIMIT)

-- the words of a recorded day: of the last-kept minute's day those that are not later
abbrev pub recorded_words : List ℕ → ℕ → List ℕ
recorded_words x i =
    if slot_date x i / 86400 == last_kept x / 1440
    then filter (λ w. nat_le (word_minute w) (last_kept x % 1440)) (covered_words x i)
    else covered_words x i

-- a day later than that of the last-kept minute, where one is there
abbrev pub stray_list : Option ℕ → List ℕ
stray_list None = []
stray_list (Some s) = s ∷ []

-- the day at an index where it is there and later than the last-kept minute's
abbrev pub stray_of : (kept p date : ℕ) → Option ℕ
stray_of kept p date = if date == 0 then None else (if nat_le (date / 86400) (kept / 1440) then None else Some p)
