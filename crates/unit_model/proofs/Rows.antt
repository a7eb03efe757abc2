-- Worked rows, computed.
use Rattle.std.proofs.Common.{◌≡◌, inl, inr, ℕ, ◌+◌, ◌*◌, List, [], ◌∷◌, map, drop, replicate, refl, true, false, Some, None}
use Rattle.view_model.specs.activity_codec.declared.values.Activity.{Activity}
use Rattle.unit_model.specs.declared.layout.TheConstants.{IMAGE_SIZE, DAY_SLOT_SIZE, OWED_ROW_SIZE, CELL_SIZE}
use Rattle.unit_model.specs.Layout.{image_fields, slot_fields, row_fields, cell_fields, are_adjacent}
use Rattle.std.specs.List.{range_with_len}
use Rattle.unit_model.specs.Retention.{begins_day, UnitRetains}
use Rattle.unit_model.specs.Days.{ShownDay, days_shown, filled_all, minute_by, unknown_minute, minutes_of}
use Rattle.unit_model.specs.Image.{unit_day}
use Rattle.unit_model.specs.Decoding.{are_dense, is_date_good, is_version_good, is_rule_good, word_checks, first_failing, cell_place}
use Rattle.unit_model.specs.Versions.{rule_byte_by, rule_by}
use Rattle.minute_model.specs.declared.Rule.TheVariants.{Original, Amended}

-- the tables fill the image, a slot, a row and a cell
image_filled : are_adjacent 0 IMAGE_SIZE image_fields ≡ true
image_filled = refl

slot_filled : are_adjacent 0 DAY_SLOT_SIZE slot_fields ≡ true
slot_filled = refl

row_filled : are_adjacent 0 OWED_ROW_SIZE row_fields ≡ true
row_filled = refl

cell_filled : are_adjacent 0 CELL_SIZE cell_fields ≡ true
cell_filled = refl

last_cell : cell_place 31 ≡ 1002
last_cell = refl

-- a day slot with the words 2000 A000 3801 A801: rest and rest without a card, then driving and availability
slot : List ℕ
slot = 75 ∷ 139 ∷ 3 ∷ 128 ∷ 0 ∷ 0 ∷ 0 ∷ 0 ∷ 0 ∷ 4 ∷ 0 ∷ 0 ∷ 0 ∷ 0 ∷ 0 ∷ 0 ∷ 32 ∷ 0 ∷ 160 ∷ 0 ∷ 56 ∷ 1 ∷ 168 ∷ 1 ∷ replicate 5752 0

row : unit_day slot ≡ record { date = 1267401600; odometer = 0; words = 0x2000 ∷ 0xA000 ∷ 0x3801 ∷ 0xA801 ∷ [] }
unfolding slot
row = refl

three_minutes : minutes_of (days_shown 21123362 (record { date = 1267401600; odometer = 0; words = 0x2000 ∷ 0xA000 ∷ 0x3801 ∷ 0xA801 ∷ [] } ∷ []))
    ≡ record { minute = 21123360; driver = record { act = Activity.Rest; present = false }; codriver = record { act = Activity.Rest; present = false }; crew = false }
    ∷ record { minute = 21123361; driver = record { act = Activity.Driving; present = false }; codriver = record { act = Activity.Available; present = false }; crew = false }
    ∷ record { minute = 21123362; driver = record { act = Activity.Driving; present = false }; codriver = record { act = Activity.Available; present = false }; crew = false } ∷ []
three_minutes = refl

-- a driver with a card: the words 0000 A000 1801 A801; and both with a card
with_card : minutes_of (days_shown 21123361 (record { date = 1267401600; odometer = 0; words = 0x0000 ∷ 0xA000 ∷ 0x1801 ∷ 0xA801 ∷ [] } ∷ []))
    ≡ record { minute = 21123360; driver = record { act = Activity.Rest; present = true }; codriver = record { act = Activity.Rest; present = false }; crew = false }
    ∷ record { minute = 21123361; driver = record { act = Activity.Driving; present = true }; codriver = record { act = Activity.Available; present = false }; crew = false } ∷ []
with_card = refl

crew : minutes_of (days_shown 21123360 (record { date = 1267401600; odometer = 0; words = 0x5800 ∷ 0xC800 ∷ [] } ∷ []))
    ≡ record { minute = 21123360; driver = record { act = Activity.Driving; present = true }; codriver = record { act = Activity.Available; present = true }; crew = true } ∷ []
crew = refl

-- minutes 2 and 4 of one day: those between stand as unknown
gap : minutes_of (filled_all [] (minute_by 21123362 0 4 ∷ minute_by 21123364 3 5 ∷ []))
    ≡ unknown_minute 21123360 ∷ unknown_minute 21123361 ∷ minute_by 21123362 0 4 ∷ unknown_minute 21123363 ∷ minute_by 21123364 3 5 ∷ []
gap = refl

-- the slots that are there stand close together, and end at the pointer or before it
dense_rows : (are_dense (false ∷ false ∷ true ∷ true ∷ []) ≡ true)
    × (are_dense (false ∷ true ∷ true ∷ false ∷ []) ≡ true)
    × (are_dense (false ∷ true ∷ false ∷ true ∷ []) ≡ false)
    × (are_dense (true ∷ true ∷ false ∷ false ∷ []) ≡ false)
dense_rows = (refl, refl, refl, refl)

-- the last kept minute's day is 14669: the first later day passes, the second fails
date_rows : (is_date_good 21123360 (1267401600 ∷ []) 1267488000 ≡ true)
    × (is_date_good 21123360 (1267401600 ∷ 1267488000 ∷ []) 1267574400 ≡ false)
    × (is_date_good 21123360 (1267401600 ∷ []) 1267401600 ≡ false)
    × (is_date_good 21123360 [] 1267401601 ≡ false)
date_rows = (refl, refl, refl, refl)

-- words by their places: the minute 1440; a second word of one slot in one minute; the first word a co-driver's
word_rows : (first_failing (word_checks 1044 [] (0x2000 ∷ 0xA000 ∷ 0x3801 ∷ 0xA801 ∷ [])) ≡ None)
    × (first_failing (word_checks 1044 [] (0x2000 ∷ 0xA000 ∷ 0x05A0 ∷ [])) ≡ Some 1048)
    × (first_failing (word_checks 1044 [] (0x2000 ∷ 0xA000 ∷ 0x3801 ∷ 0x2001 ∷ [])) ≡ Some 1050)
    × (first_failing (word_checks 1044 [] (0xA000 ∷ 0x2000 ∷ [])) ≡ Some 1044)
word_rows = (refl, refl, refl, refl)

-- 367 days, numbered from 1, of which the newest 366 are shown; and, where a further day may have been begun, the newest 365
many_days : List ShownDay
many_days = map (λ d. record { day = d; minutes = [] }) (range_with_len 1 367)

newest_shown : UnitRetains many_days [] (drop 1 many_days)
unfolding many_days
newest_shown = inl refl

fewer_shown : UnitRetains many_days (1440 * 368 ∷ []) (drop 2 many_days)
unfolding many_days
fewer_shown = inr (refl, refl)

-- but not where the minute that comes next is one of the last day
same_day_next : begins_day ((1440 * 367 + 1439) ∷ []) many_days ≡ false
unfolding many_days
same_day_next = refl

-- version 1 passes with any rule byte, version 2 with 0 and 1
version_rows : (is_rule_good 1 7 ≡ true) × (is_rule_good 2 0 ≡ true) × (is_rule_good 2 1 ≡ true) × (is_rule_good 2 2 ≡ false) × (is_version_good 0 ≡ false) × (is_version_good 3 ≡ false)
version_rows = (refl, refl, refl, refl, refl, refl)

-- the rule byte counts in version 2 alone
rule_rows : (rule_by (rule_byte_by 1 1) ≡ Original) × (rule_by (rule_byte_by 2 0) ≡ Original) × (rule_by (rule_byte_by 2 1) ≡ Amended)
rule_rows = (refl, refl, refl)
