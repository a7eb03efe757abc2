-- Worked rows of a download: a day's message of a small day, and the minutes that a small file shows.
use Rattle.std.proofs.Common.{◌≡◌, ℕ, ◌+◌, ◌*◌, List, [], ◌∷◌, ◌++◌, length, refl, replicate, map}
use Rattle.link_model.specs.Answers.{cuts}
use Rattle.unit_model.specs.Days.{StoredDay}
use Rattle.message_model.specs.Messages.{Overview, AnOverview, ADay, ASpeedList, ATechnical, content_of, message_bytes}
use Rattle.message_model.specs.Sending.{zeros, day_message, period_of}
use Rattle.message_model.specs.declared.sizes.TheConstants.{INSERTION, PLACE, SPEED_BLOCK}
use Rattle.message_model.specs.Records.{insertion_ring, unit_place_ring, speed_ring}
use Rattle.message_model.specs.Showing.{minutes_in}

-- 2010-03-01 at 120000 km: rest and no card in both slots at 00:00, work with a card for the driver at 00:07
abbrev day : StoredDay
day = record { date = 1267401600; odometer = 120000; words = 0x2000 ∷ 0xA000 ∷ 0x1007 ∷ [] }

-- its message: the date, the odometer, no insertion, three words, no place, no condition, no signature
day_sent : message_bytes (ADay (day_message [] [] day)) ≡ 0x76 ∷ 2 ∷ 0x4B ∷ 0x8B ∷ 0x03 ∷ 0x80 ∷ 0x01 ∷ 0xD4 ∷ 0xC0 ∷ 0 ∷ 0 ∷ 0 ∷ 3 ∷ 0x20 ∷ 0 ∷ 0xA0 ∷ 0 ∷ 0x10 ∷ 7 ∷ 0 ∷ 0 ∷ 0 ∷ zeros 128
day_sent = refl

-- an insertion and a place have the sizes of their fields
insertion_width : insertion_ring.width ≡ INSERTION
insertion_width = refl

place_width : unit_place_ring.width ≡ PLACE
place_width = refl

-- an insertion in the day, one that began the day before and whose card was withdrawn in it, and one of the day before
abbrev insertion : (time withdrawal : List ℕ) → List ℕ
insertion time withdrawal = replicate 94 1 ++ (time ++ (replicate 4 1 ++ (withdrawal ++ replicate 23 1)))

abbrev in_day : List ℕ
in_day = 0x4B ∷ 0x8B ∷ 0x10 ∷ 0x00 ∷ []

abbrev before_day : List ℕ
before_day = 0x4B ∷ 0x8A ∷ 0x10 ∷ 0x00 ∷ []

insertions_sent : (day_message (insertion in_day (zeros 4) ∷ insertion before_day in_day ∷ insertion before_day before_day ∷ []) [] day).insertions
    ≡ insertion in_day (zeros 4) ∷ insertion before_day in_day ∷ []
insertions_sent = refl

insertion_size : length (insertion in_day in_day) ≡ insertion_ring.width
insertion_size = refl

-- where the gates of insertions and places stand
gates : (insertion_ring.gate ≡ 94) × (unit_place_ring.gate ≡ 18) × (unit_place_ring.width ≡ 28)
gates = (refl, refl, refl)

-- a unit without a day has no period
no_period : period_of 0 [] ≡ (0, 0)
no_period = refl

-- the period of a unit whose last-kept minute is 00:20 of that day
period : period_of (60 * 21123380) (day ∷ []) ≡ (1267401600, 1267402800)
period = refl

abbrev overview : (now : ℕ) → Overview
overview now =
    record {
      state_certificate = zeros 194;
      unit_certificate = zeros 194;
      vin = zeros 17;
      registration = zeros 15;
      now = now;
      begin = 1267401600;
      end = now;
      slot_status = 0;
      last_download = zeros 58;
      locks = [];
      controls = [];
      signature = zeros 128;
    }

overview_size : length (message_bytes (AnOverview (overview 1267402800))) ≡ 623
overview_size = refl

-- with the unit's time 00:20 the file shows 21 minutes; with a time of the day after, or without an overview, the whole day
shown_to_now : length (minutes_in (AnOverview (overview 1267402800) ∷ ADay (day_message [] [] day) ∷ [])) ≡ 21
shown_to_now = refl

shown_whole : length (minutes_in (ADay (day_message [] [] day) ∷ [])) ≡ 1440
shown_whole = refl

-- technical data: the unit, its sensor, no calibration
technical_size : length (message_bytes (ATechnical (record { identification = zeros 116; sensor = zeros 20; calibrations = []; signature = zeros 128 }))) ≡ 267
technical_size = refl

-- of 253 bytes behind the number the first piece has 251, and the second the other two; of 502 the third has none
pieces_of_253 : map (λ (piece : List ℕ). length piece) (cuts (zeros 253) 2) ≡ 251 ∷ 2 ∷ []
pieces_of_253 = refl

pieces_of_502 : map (λ (piece : List ℕ). length piece) (cuts (zeros 502) 3) ≡ 251 ∷ 251 ∷ 0 ∷ []
pieces_of_502 = refl

-- a message of detailed speed without a block has 130 bytes behind 76 and its number; with 59 it has 3906
no_block : length (content_of (ASpeedList (record { blocks = []; signature = zeros 128 }))) ≡ 130
no_block = refl

many_blocks : length (content_of (ASpeedList (record { blocks = replicate 59 (replicate 64 1); signature = zeros 128 }))) ≡ 3906
many_blocks = refl

-- which go in 16 pieces, of which the last has 141
last_piece : length (content_of (ASpeedList (record { blocks = replicate 59 (replicate 64 1); signature = zeros 128 }))) ≡ 15 * 251 + 141
last_piece = refl

speed_width : (speed_ring.width ≡ SPEED_BLOCK) × (speed_ring.gate ≡ 0) × (speed_ring.base ≡ 2393644)
speed_width = (refl, refl, refl)
