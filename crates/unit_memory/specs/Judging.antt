-- How an image is judged, field after field, where of the days before only the latest date is known.
use Rattle.std.specs.Prelude.{◌≡◌, ℕ, ◌+◌, ◌-◌, ◌/◌, ◌%◌, max, Bool, true, false, ◌&&◌, ◌||◌, ◌==◌, Option, Some, None}
use Rattle.std.specs.Prelude.{Result, Ok, Err, List, [], ◌∷◌, ◌++◌, nat_le, nat_lt, if◌then◌else◌}
use Rattle.std.specs.List.{range_with_len}
use Rattle.unit_model.specs.gated_ring.Ring.{pointer}
use Rattle.unit_model.specs.declared.layout.TheConstants.{VERSION, RULE_BYTE, LAST_KEPT, ODOMETER, OVER_COUNT, DAY_DATE}
use Rattle.unit_model.specs.declared.layout.TheConstants.{DAY_ODOMETER, DAY_COUNT, DAY_WORDS, DAY_WORD_LIMIT, DAY_SLOTS}
use Rattle.unit_model.specs.declared.layout.TheConstants.{INSERTIONS, INSERTION_SLOTS, PLACES, PLACE_SLOTS, SPEEDS}
use Rattle.unit_model.specs.declared.layout.TheConstants.{SPEED_SLOTS, MOST_OVERS, LAST_MINUTE, HIGHEST_ODOMETER}
use Rattle.unit_model.specs.Image.{number_of, last_kept, odometer_at, day_ring, slot_place, slot_date, slot_odometer}
use Rattle.unit_model.specs.Image.{slot_count, slot_words}
use Rattle.unit_model.specs.Decoding.{Check, check, is_version_good, is_rule_good, word_checks, first_bad_place}
use Rattle.unit_memory.specs.Walks.{walk_start, walk_from}
use Rattle.unit_memory.specs.declared.words.Scan.{Scan}
use Rattle.unit_memory.specs.declared.walk.Density.{Density}
use Rattle.unit_memory.specs.declared.walk.Density.TheVariants.{Empty, Filled, Ended, Broken}
use Rattle.unit_memory.specs.declared.walk.Walk.{Walk}
use Rattle.unit_memory.specs.declared.judge.Judged.{Judged}
use Rattle.unit_memory.specs.declared.slots.Head.{Head}

-- the fields in front, by their numbers
abbrev pub front_of : (version rule kept : ℕ) → (has_today : Bool) → (odometer overs : ℕ) → List Check
front_of version rule kept has_today odometer overs =
    check VERSION.place (is_version_good version)
    ∷ check RULE_BYTE.place (is_rule_good version rule)
    ∷ check LAST_KEPT.place (nat_le kept LAST_MINUTE && (kept == 0 || has_today))
    ∷ check ODOMETER.place (nat_le odometer HIGHEST_ODOMETER)
    ∷ check OVER_COUNT.place (nat_le overs MOST_OVERS)
    ∷ []

-- and by those of an image
abbrev pub front_by : (kept : ℕ) → (has_today : Bool) → List ℕ → List Check
front_by kept has_today image = front_of (number_of image VERSION) (number_of image RULE_BYTE) kept has_today
    (odometer_at image) (number_of image OVER_COUNT)

-- the pointers of insertions, places and detailed speed
abbrev pub rings_of : (insertion place speed : ℕ) → List Check
rings_of insertion place speed =
    check INSERTIONS.place (nat_lt insertion INSERTION_SLOTS)
    ∷ check PLACES.place (nat_lt place PLACE_SLOTS)
    ∷ check SPEEDS.place (nat_lt speed SPEED_SLOTS)
    ∷ []

-- the place of the first word that may not stand there
abbrev pub failed_of : Result Scan ℕ → Option ℕ
failed_of (Ok s) = None
failed_of (Err p) = Some p

-- a date behind days of which this is the latest, 0 where there is none
abbrev pub date_passes : (kept latest date : ℕ) → Bool
date_passes kept latest date =
    date % 86400 == 0 && (nat_lt latest date
    && (nat_le (date / 86400) (kept / 1440) || nat_le (latest / 86400) (kept / 1440)))

-- the fields of a day in front of its words
abbrev pub day_front : (place : ℕ) → (passes : Bool) → (odometer count : ℕ) → List Check
day_front place passes odometer count =
    check place passes
    ∷ check (place + DAY_ODOMETER.place) (nat_le odometer HIGHEST_ODOMETER)
    ∷ check (place + DAY_COUNT.place) (nat_le 2 count && nat_le count DAY_WORD_LIMIT)
    ∷ []

-- what stands in front of a slot's words, by the slot's bytes
abbrev pub head_in : List ℕ → Head
head_in bytes = record {
  date = number_of bytes DAY_DATE;
  odometer = number_of bytes DAY_ODOMETER;
  count = number_of bytes DAY_COUNT;
}

-- and in front of those of the slot of an index in an image
abbrev pub head_at : List ℕ → ℕ → Head
head_at image i = record { date = slot_date image i; odometer = slot_odometer image i; count = slot_count image i }

-- a day by its head, and the words that its count covers
abbrev pub day_checks_by : (kept latest : ℕ) → Head → List ℕ → ℕ → List Check
day_checks_by kept latest head image i =
    day_front (slot_place i) (date_passes kept latest head.date) head.odometer head.count
    ++ word_checks (slot_place i + DAY_WORDS.place) [] (slot_words image i head.count)

-- a slot, which is empty where its date is 0
abbrev pub slot_checks_of : (kept latest : ℕ) → Head → List ℕ → ℕ → List Check
slot_checks_of kept latest head image i = if head.date == 0 then [] else day_checks_by kept latest head image i

-- so of the slot of an index in an image
abbrev pub slot_checks_by : (kept latest : ℕ) → List ℕ → ℕ → List Check
slot_checks_by kept latest image i = slot_checks_of kept latest (head_at image i) image i

-- the slots of these indices, one after the other
abbrev pub slots_by : (kept : ℕ) → List ℕ → (latest : ℕ) → List ℕ → List Check
slots_by kept image latest [] = []
slots_by kept image latest (i ∷ is) = slot_checks_by kept latest image i
    ++ slots_by kept image (max latest (slot_date image i)) is

-- the slots that are there stand one after the other
abbrev pub is_whole : Density → Bool
is_whole Empty = true
is_whole Filled = true
is_whole Ended = true
is_whole Broken = false

-- the pointer is an index, the slots stand one after the other, and the last of them is not later than the last-kept
-- minute's day or is the pointer's
abbrev pub pointer_passes : (kept p : ℕ) → Walk → Bool
pointer_passes kept p walk = nat_lt p DAY_SLOTS
    && (is_whole walk.density && (nat_le (walk.last_date / 86400) (kept / 1440) || walk.last_index == p))

-- the index of the oldest place
abbrev pub turn_at : ℕ → ℕ
turn_at p = if nat_lt p DAY_SLOTS then p + 1 else DAY_SLOTS

-- the slots from the oldest place to the end, and then from the front on
abbrev pub walk_round : (day turn : ℕ) → List ℕ → Walk
walk_round day turn image = walk_from day image
    (walk_from day image walk_start (range_with_len turn (DAY_SLOTS - turn))) (range_with_len 0 turn)

-- what judging an image tells
pub record IsJudged (j : Judged) (image : List ℕ) : Type 0 where
  pub bad : j.bad ≡ first_bad_place image
  pub kept : j.kept ≡ last_kept image
  pub pointer_is : j.pointer ≡ pointer day_ring image
  pub walk : j.walk ≡ walk_round (last_kept image / 1440) (turn_at (pointer day_ring image)) image
