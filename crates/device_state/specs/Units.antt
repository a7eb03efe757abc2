-- What a unit tells of itself, by its image (profile).
use Rattle.std.specs.Prelude.{◌≡◌, ℕ, ◌+◌, ◌*◌, ◌-◌, ◌==◌, if◌then◌else◌, Option, Some, None, option_map, Result, Ok}
use Rattle.std.specs.Prelude.{Err, List, length, map, slice_get, slice_index, nat_eq}
use Rattle.std.specs.Cmp.Lexicographic.{pointwise}
use Rattle.std.specs.List.{range_with_len}
use Rattle.tach_media.specs.Medium.{bytes_at}
use Rattle.gated_ring.specs.Ring.{number_at}
use Rattle.tacho_types.specs.CardNumber.{card_number_of}
use Rattle.unit_model.specs.declared.layout.TheConstants.{VIN, REGISTRATION, SPEED_LIMIT, OWED, OWED_ROWS}
use Rattle.unit_model.specs.declared.layout.TheConstants.{OWED_ROW_SIZE, ROW_SESSION, ROW_NUMBER}
use Rattle.unit_model.specs.Decoding.{Decodes, first_bad_place}
use Rattle.unit_model.specs.Image.{last_kept, odometer_at, recorded, recorded_indices, slot_date}
use Rattle.unit_model.specs.Versions.{version_of, rule_of}
use Rattle.unit_owed.specs.Owed.{owed_to}
use Rattle.unit_memory.specs.declared.format.Identity.{Identity}
use Rattle.unit_memory.specs.declared.fault.UnitFault.{UnitFault}
use Rattle.unit_memory.specs.declared.fault.UnitFault.TheVariants.{Failed, BadUnit}
use Rattle.state_text.specs.declared.line.OwedTo.{OwedTo}
use Rattle.device_state.specs.declared.unit.CardSeen.{CardSeen}
use Rattle.device_state.specs.declared.unit.CardsSeen.{CardsSeen}
use Rattle.device_state.specs.declared.unit.Question.{Question}
use Rattle.device_state.specs.declared.unit.DaysTold.{DaysTold}
use Rattle.device_state.specs.declared.unit.UnitTold.{UnitTold}

-- the vehicle that the unit was told of
abbrev pub identity_of : List ℕ → Identity
identity_of x =
    record {
      vin = bytes_at x VIN.place VIN.size;
      registration = record { 0 = bytes_at x REGISTRATION.place REGISTRATION.size };
      limit = slice_index (bytes_at x SPEED_LIMIT.place SPEED_LIMIT.size) 0;
    }

-- the date of a recorded day, counted from the oldest, in seconds, if there are so many
abbrev pub date_at : List ℕ → ℕ → Option ℕ
date_at x n = option_map (slot_date x) (slice_get (recorded_indices x) n)

-- how many days are recorded, and the dates of the first and the last
abbrev pub days_told : List ℕ → DaysTold
days_told x = record { count = length (recorded x); first = date_at x 0; last = date_at x (length (recorded x) - 1) }

-- where a row of what is owed begins
abbrev pub row_place : ℕ → ℕ
row_place r = OWED.place + r * OWED_ROW_SIZE

-- the session time of a row
abbrev pub row_session : List ℕ → ℕ → ℕ
row_session x r = number_at x (row_place r) ROW_SESSION.size

-- the number of the card of a row
abbrev pub row_number : List ℕ → ℕ → List ℕ
row_number x r = bytes_at x (row_place r + ROW_NUMBER.place) ROW_NUMBER.size

-- a row of this session, which is empty where that is 0
abbrev pub owed_by : (session : ℕ) → (number : List ℕ) → (minutes : ℕ) → Option OwedTo
owed_by session number minutes = if session == 0 then None
    else Some (record { card = card_number_of number; minutes = minutes })

-- how a card of a number is asked: a card that was seen tells its session and its newest minute; of any other all of
-- the row's session is owed
abbrev pub asked_of : Option CardSeen → (number : List ℕ) → Question → Question
asked_of None number other = other
asked_of (Some card) number other = if pointwise nat_eq card.number number
    then record { session = card.session; after = card.newest } else other

-- how a card of a number is asked, by the cards that were seen
abbrev pub asked : CardsSeen → (number : List ℕ) → (session : ℕ) → Question
asked seen number session = asked_of seen.a number (asked_of seen.b number (record { session = session; after = 0 }))

-- how many minutes are owed to a card that is asked so
abbrev pub minutes_owed : List ℕ → (number : List ℕ) → Question → ℕ
minutes_owed x number question = length (owed_to x number question.session question.after)

-- WHAT A ROW TELLS: the card, and how many minutes are owed to it
abbrev pub owed_in : CardsSeen → List ℕ → ℕ → Option OwedTo
owed_in seen x r = owed_by (row_session x r) (row_number x r)
    (minutes_owed x (row_number x r) (asked seen (row_number x r) (row_session x r)))

-- WHAT A UNIT TELLS OF ITSELF, where these cards were seen
abbrev pub unit_told : CardsSeen → List ℕ → UnitTold
unit_told seen x =
    record {
      version = version_of x;
      rule = rule_of x;
      identity = identity_of x;
      odometer = odometer_at x;
      kept = last_kept x;
      days = days_told x;
      owed = map (owed_in seen x) (range_with_len 0 OWED_ROWS);
    }

-- what is answered of an image: what it tells, where it decodes, or else the place of the first field that fails
abbrev pub TellsUnit : CardsSeen → Result UnitTold UnitFault → List ℕ → Type 0
TellsUnit seen (Ok told) x = Decodes x × (told ≡ unit_told seen x)
TellsUnit seen (Err Failed) x = Unit {0}
TellsUnit seen (Err (BadUnit place)) x = first_bad_place x ≡ Some place
