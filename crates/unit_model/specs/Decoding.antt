-- When the image of a unit decodes: each field with the condition that it meets, in order of places (profile).
use Rattle.std.specs.Prelude.{ℕ, ◌+◌, ◌-◌, ◌*◌, ◌/◌, ◌%◌, Bool, true, false, not, ◌&&◌, ◌||◌, ◌==◌, Option, Some, None}
use Rattle.std.specs.Prelude.{List, [], ◌∷◌, ◌++◌, length, map, filter, nat_le, nat_lt, if◌then◌else◌, flat_map, IsTrue}
use Rattle.std.specs.List.{range_with_len, list_all, list_any}
use Rattle.gated_ring.specs.Ring.{number_at, pointer, is_there, next, order}
use Rattle.unit_model.specs.declared.layout.TheConstants.{VERSION, RULE_BYTE, PLAIN_VERSION, RULED_VERSION, LAST_KEPT}
use Rattle.unit_model.specs.declared.layout.TheConstants.{ODOMETER, OVER_COUNT, OWED, OWED_ROWS, OWED_ROW_SIZE, CELLS}
use Rattle.unit_model.specs.declared.layout.TheConstants.{CELL_SIZE, ROW_CELLS, CELL_MINUTE, CELL_WORD, DAYS, DAY_SLOTS}
use Rattle.unit_model.specs.declared.layout.TheConstants.{DAY_ODOMETER, DAY_COUNT, DAY_WORDS, DAY_WORD_LIMIT}
use Rattle.unit_model.specs.declared.layout.TheConstants.{INSERTIONS, INSERTION_SLOTS, PLACES, PLACE_SLOTS, SPEEDS}
use Rattle.unit_model.specs.declared.layout.TheConstants.{SPEED_SLOTS, MOST_OVERS, LAST_MINUTE, HIGHEST_ODOMETER}
use Rattle.unit_model.specs.Days.{slot_bit, word_minute}
use Rattle.unit_model.specs.Image.{number_of, last_kept, odometer_at, day_ring, slot_place, indices, slot_date}
use Rattle.unit_model.specs.Image.{slot_odometer, slot_count, slot_words}

-- a field by its place, and whether it meets its condition
pub record Check : Type 0 where
  pub place : ℕ
  pub passes : Bool

-- the check of a field at a place
abbrev pub check : ℕ → Bool → Check
check place passes = record { place = place; passes = passes }

-- the place of the first field that fails
abbrev pub first_failing : List Check → Option ℕ
first_failing [] = None
first_failing (c ∷ cs) = if c.passes then first_failing cs else Some c.place

-- the day number of a slot
abbrev pub slot_day : List ℕ → ℕ → ℕ
slot_day image i = slot_date image i / 86400

-- a slot of this day is there
abbrev pub has_day : List ℕ → ℕ → Bool
has_day image day = list_any (λ i. is_there day_ring image i && slot_day image i == day) (range_with_len 0 DAY_SLOTS)

-- the last-kept minute is a minute, and where it is not 0, a slot of its day is there
abbrev pub is_kept_good : List ℕ → Bool
is_kept_good image = nat_le (last_kept image) LAST_MINUTE
    && (last_kept image == 0 || has_day image (last_kept image / 1440))

-- the version is 1 or 2
abbrev pub is_version_good : ℕ → Bool
is_version_good version = version == PLAIN_VERSION || version == RULED_VERSION

-- version 2 has a rule byte that is 0 or 1
abbrev pub is_rule_good : (version rule : ℕ) → Bool
is_rule_good version rule = version == PLAIN_VERSION || nat_le rule 1

-- the version, the rule byte, the last-kept minute, the odometer, the number of over speedings
abbrev pub front_checks : List ℕ → List Check
front_checks image =
    check VERSION.place (is_version_good (number_of image VERSION))
    ∷ check RULE_BYTE.place (is_rule_good (number_of image VERSION) (number_of image RULE_BYTE))
    ∷ check LAST_KEPT.place (is_kept_good image)
    ∷ check ODOMETER.place (nat_le (odometer_at image) HIGHEST_ODOMETER)
    ∷ check OVER_COUNT.place (nat_le (number_of image OVER_COUNT) MOST_OVERS)
    ∷ []

-- where the cell of this number begins, counted over all rows; it begins with its minute
abbrev pub cell_place : ℕ → ℕ
cell_place n = OWED.place + n / CELLS * OWED_ROW_SIZE + ROW_CELLS.place + n % CELLS * CELL_SIZE

-- a cell's minute, 0 in an empty one
abbrev pub cell_minute : List ℕ → ℕ → ℕ
cell_minute image n = number_at image (cell_place n) CELL_MINUTE.size

-- a cell's word
abbrev pub cell_word : List ℕ → ℕ → ℕ
cell_word image n = number_at image (cell_place n + CELL_WORD.place) CELL_WORD.size

-- a cell that is not empty has a word below 1440, also in an empty row
abbrev pub cell_check : List ℕ → ℕ → Check
cell_check image n = check (cell_place n + CELL_WORD.place)
    (cell_minute image n == 0 || nat_lt (word_minute (cell_word image n)) 1440)

-- so of each cell of all rows
abbrev pub cell_checks : List ℕ → List Check
cell_checks image = map (cell_check image) (range_with_len 0 (OWED_ROWS * CELLS))

-- each of these slots is there, but the last one may be empty
abbrev pub is_filled_on : List Bool → Bool
is_filled_on [] = true
is_filled_on (true ∷ there) = is_filled_on there
is_filled_on (false ∷ there) = length there == 0

-- of slots from the oldest place to the pointer's: empty ones, then ones that are there up to the pointer's or to the
-- one before it
abbrev pub are_dense : List Bool → Bool
are_dense [] = true
are_dense (false ∷ there) = are_dense there
are_dense (true ∷ there) = is_filled_on there

-- of these indices, from the oldest: where the last one is later than the last-kept minute's day, it is this one
abbrev pub is_last_good : (image : List ℕ) (p : ℕ) → List ℕ → Bool
is_last_good image p [] = true
is_last_good image p (i ∷ []) = nat_le (slot_day image i) (last_kept image / 1440) || i == p
is_last_good image p (i ∷ j ∷ js) = is_last_good image p (j ∷ js)

-- the pointer of the days is an index, their slots are dense, and a later day stands at it
abbrev pub is_pointer_good : List ℕ → Bool
is_pointer_good image =
    let p : ℕ = pointer day_ring image in
    nat_lt p DAY_SLOTS && (are_dense (map (is_there day_ring image) (order day_ring (next day_ring p)))
    && is_last_good image p (indices image))

-- the indices of the slots that are there before one, from the oldest
abbrev pub indices_before : List ℕ → ℕ → List ℕ
indices_before image i =
    let q : ℕ = pointer day_ring image + 1 in
    filter (is_there day_ring image)
    (if nat_le q i then range_with_len q (i - q) else range_with_len q (DAY_SLOTS - q) ++ range_with_len 0 i)

-- a date is that of a day, later than those before it, and not the second that is later than the last-kept minute's day
abbrev pub is_date_good : (kept : ℕ) → (before : List ℕ) → ℕ → Bool
is_date_good kept before date =
    date % 86400 == 0 && (list_all (λ d. nat_lt d date) before
    && (nat_le (date / 86400) (kept / 1440) || list_all (λ d. nat_le (d / 86400) (kept / 1440)) before))

-- the first two words are the driver's and the co-driver's at minute 0
abbrev pub is_first_good : (place : ℕ) → ℕ → Bool
is_first_good place w = if nat_lt 1 place then true else slot_bit w == place && word_minute w == 0

-- a word is below 1440, not earlier than those before it, and the only one of its slot in its minute
abbrev pub is_word_good : (before : List ℕ) → ℕ → Bool
is_word_good before w =
    nat_lt (word_minute w) 1440 && (list_all
    (λ v. nat_le (word_minute v) (word_minute w)
    && not (slot_bit v == slot_bit w && word_minute v == word_minute w)) before
    && is_first_good (length before) w)

-- so of each of these words, which stand from a place on behind those before them
abbrev pub word_checks : (place : ℕ) → (before words : List ℕ) → List Check
word_checks place before [] = []
word_checks place before (w ∷ ws) = check place (is_word_good before w) ∷ word_checks (place + 2) (before ++ w ∷ []) ws

-- the date, the odometer, the count and the words of a slot that is there
abbrev pub day_checks : List ℕ → ℕ → List Check
day_checks image i =
    check (slot_place i) (is_date_good (last_kept image) (map (slot_date image) (indices_before image i))
    (slot_date image i))
    ∷ check (slot_place i + DAY_ODOMETER.place) (nat_le (slot_odometer image i) HIGHEST_ODOMETER)
    ∷ check (slot_place i + DAY_COUNT.place)
    (nat_le 2 (slot_count image i) && nat_le (slot_count image i) DAY_WORD_LIMIT)
    ∷ word_checks (slot_place i + DAY_WORDS.place) [] (slot_words image i (slot_count image i))

-- a slot that is there is checked so, and an empty one has no field to check
abbrev pub slot_checks : List ℕ → ℕ → List Check
slot_checks image i = if is_there day_ring image i then day_checks image i else []

-- the pointers of insertions, places and detailed speed
abbrev pub ring_checks : List ℕ → List Check
ring_checks image =
    check INSERTIONS.place (nat_lt (number_at image INSERTIONS.place 4) INSERTION_SLOTS)
    ∷ check PLACES.place (nat_lt (number_at image PLACES.place 4) PLACE_SLOTS)
    ∷ check SPEEDS.place (nat_lt (number_at image SPEEDS.place 4) SPEED_SLOTS)
    ∷ []

-- all fields that are judged, in order of places
unfoldable pub checks : List ℕ → List Check
checks image =
    front_checks image ++ (cell_checks image ++ (check DAYS.place (is_pointer_good image)
    ∷ (flat_map (slot_checks image) (range_with_len 0 DAY_SLOTS) ++ ring_checks image)))

-- the image decodes
unfoldable pub Decodes : List ℕ → Type 0
Decodes image = IsTrue (list_all (λ c. c.passes) (checks image))

-- the place of the first field, in order of places, that fails
unfoldable pub first_bad_place : List ℕ → Option ℕ
first_bad_place image = first_failing (checks image)

-- the first failing place, with one field more
abbrev pub or_failing : Option ℕ → ℕ → Bool → Option ℕ
or_failing (Some p) place passes = Some p
or_failing None place passes = if passes then None else Some place

-- the first of two
abbrev pub or_else : Option ℕ → Option ℕ → Option ℕ
or_else (Some p) o = Some p
or_else None o = o
