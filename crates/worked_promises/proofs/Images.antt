-- A small card and a small unit by their bytes: what the rows of images are computed of. They are no valid devices, since
-- their sizes are too small; what is not there reads as zeros.
use Rattle.std.proofs.Common.{ℕ, ◌+◌, List, [], ◌∷◌, ◌++◌, Some, None, Option, replicate}
use Rattle.tacho_types.specs.declared.texts.Registration.{Registration}
use Rattle.card_files.specs.declared.vehicle.Vehicle.{Vehicle}
use Rattle.card_model.specs.Days.{Day}

-- Application_Identification: type 1, structure 0, no events, no faults, 40 bytes of days, 2 vehicle entries, 1 place
abbrev pub sizes : List ℕ
sizes = 1 ∷ 0 ∷ 0 ∷ 0 ∷ 0 ∷ 0 ∷ 40 ∷ 0 ∷ 2 ∷ 1 ∷ []

-- Driver_Activity_Data: the oldest and the newest day stand at place 0. 2010-03-01, the first day of presence, 7 km; rest
-- with the card from 00:00 on, and a closing word at 00:10.
abbrev pub days : List ℕ
days = 0 ∷ 0 ∷ 0 ∷ 0 ∷ (0 ∷ 0 ∷ 0 ∷ 16 ∷ 75 ∷ 139 ∷ 3 ∷ 128 ∷ 0 ∷ 1 ∷ 0 ∷ 7 ∷ 0 ∷ 0 ∷ 48 ∷ 10 ∷ []) ++ replicate 24 0

-- Vehicles_Used: the newest entry stands at place 0. From 900 to 1000 km, from 00:00 to 00:10, nation 13, number BBB.., the
-- first one.
abbrev pub vehicles : List ℕ
vehicles = 0 ∷ 0 ∷ (0 ∷ 3 ∷ 132 ∷ 0 ∷ 3 ∷ 232 ∷ 75 ∷ 139 ∷ 3 ∷ 128 ∷ 75 ∷ 139 ∷ 5 ∷ 216 ∷ 13 ∷ []) ++ replicate 14 66 ++ (0 ∷ 1 ∷ []) ++ replicate 31 0

-- Places: none
abbrev pub places : List ℕ
places = replicate 11 0

-- Current_Usage: this session time, in the same vehicle
abbrev pub usage : (session : List ℕ) → List ℕ
usage session = session ++ 13 ∷ replicate 14 66

-- Identification: issued in 13; number 16 times 49, authority 36 times 50; issue, begin and expiry; surname 36 times 51, first
-- names 36 times 52; birth date and language
abbrev pub identification : List ℕ
identification =
    13 ∷ replicate 16 49 ++ replicate 36 50 ++ (75 ∷ 0 ∷ 0 ∷ 1 ∷ 75 ∷ 0 ∷ 0 ∷ 2 ∷ 84 ∷ 0 ∷ 0 ∷ 3 ∷ []) ++ replicate 36 51 ++ replicate 36 52
    ++ (25 ∷ 112 ∷ 1 ∷ 1 ∷ 100 ∷ 101 ∷ [])

-- a card with this session time: ICC and IC, the sizes, the days, the vehicles, the places, the usage, Control_Activity_Data
-- and Card_Download, the identification
abbrev pub card_with : (session : List ℕ) → List ℕ
card_with session = replicate 33 0 ++ sizes ++ days ++ vehicles ++ places ++ usage session ++ replicate 50 0 ++ identification

-- withdrawn at 00:10
abbrev pub card : List ℕ
card = card_with (0 ∷ 0 ∷ 0 ∷ 0 ∷ [])

-- a session that was opened at 00:01:00 is open on it
abbrev pub open_card : List ℕ
open_card = card_with (75 ∷ 139 ∷ 3 ∷ 188 ∷ [])

-- ---- what they tell, by hand

-- the registration of the card's last vehicle
abbrev pub other_vehicle : Registration
other_vehicle = record { 0 = 13 ∷ 66 ∷ 66 ∷ 66 ∷ 66 ∷ 66 ∷ 66 ∷ 66 ∷ 66 ∷ 66 ∷ 66 ∷ 66 ∷ 66 ∷ 66 ∷ 66 ∷ [] }

-- its newest vehicle entry
abbrev pub newest_entry : Vehicle
newest_entry = record {
  odometer_begin = record { 0 = 900 };
  odometer_end = record { 0 = 1000 };
  first_use = record { 0 = 1267401600 };
  last_use = record { 0 = 1267402200 };
  registration = other_vehicle;
  counter = 0 ∷ 1 ∷ [];
}

-- its day, with these words
abbrev pub day_with : List ℕ → Day
day_with words = record { date = 1267401600; counter = 1; km = 7; words = words }

-- ---- the unit

-- version 1, registration 13 AAA.., speed limit 90; last-kept minute 2010-03-01 07:59, 1000 km
abbrev pub unit : List ℕ
unit =
    (0 ∷ 0 ∷ 0 ∷ 1 ∷ []) ++ replicate 17 0 ++ (13 ∷ replicate 14 65) ++ (90 ∷ []) ++ replicate 527 0
    ++ (1 ∷ 66 ∷ 82 ∷ 255 ∷ []) ++ (0 ∷ 0 ∷ 3 ∷ 232 ∷ []) ++ replicate 452 0

abbrev pub own_vehicle : Registration
own_vehicle = record { 0 = 13 ∷ 65 ∷ 65 ∷ 65 ∷ 65 ∷ 65 ∷ 65 ∷ 65 ∷ 65 ∷ 65 ∷ 65 ∷ 65 ∷ 65 ∷ 65 ∷ 65 ∷ [] }
