-- The messages that a unit sends, of its image (Appendix 7; what it puts into the fields: profile).
use Rattle.std.specs.Prelude.{ℕ, ◌*◌, ◌/◌, ◌<◌, Bool, ◌||◌, Option, Some, option_map, List, [], ◌∷◌, ◌++◌, map}
use Rattle.std.specs.Prelude.{filter, find, replicate, nat_eq}
use Rattle.std.specs.List.{range_with_len}
use Rattle.card_layout.specs.Images.{bytes_at}
use Rattle.card_layout.specs.Fields.{joined}
use Rattle.unit_model.specs.Ring.{Shape, is_there, entry_at, ring_list}
use Rattle.unit_model.specs.declared.layout.Field.{Field}
use Rattle.unit_model.specs.declared.layout.TheConstants.{VIN, REGISTRATION, IDENTIFICATION, SENSOR, STATE_CERTIFICATE}
use Rattle.unit_model.specs.declared.layout.TheConstants.{UNIT_CERTIFICATE, FIRST_OVER, OVER_COUNT, EVENTS, OVERS}
use Rattle.unit_model.specs.declared.layout.TheConstants.{FAULTS}
use Rattle.unit_model.specs.Days.{StoredDay, days_kept}
use Rattle.unit_model.specs.Image.{number_of as number_in, last_kept, unit_days}
use Rattle.link_model.specs.declared.request.Request.{Request}
use Rattle.link_model.specs.declared.services.TheConstants.{DAY_SECONDS}
use Rattle.link_model.specs.declared.request.Request.TheVariants.{Overview as AskOverview, Day as AskDay}
use Rattle.link_model.specs.declared.request.Request.TheVariants.{Events as AskEvents, Speed as AskSpeed}
use Rattle.link_model.specs.declared.request.Request.TheVariants.{Technical as AskTechnical}
use Rattle.message_model.specs.declared.sizes.TheConstants.{EVENT, OVER, FAULT, LAST_DOWNLOAD, SIGNATURE}
use Rattle.message_model.specs.Records.{insertion_ring, unit_place_ring, speed_ring, insertion_time, withdrawal_time}
use Rattle.message_model.specs.Records.{place_time}
use Rattle.message_model.specs.Messages.{Overview, DayMessage, EventMessage, SpeedMessage, TechnicalMessage, Message}
use Rattle.message_model.specs.Messages.{AnOverview, ADay, AnEventList, ASpeedList, ATechnical, content_of}
use Rattle.message_model.specs.Messages.{message_bytes}

-- a field's bytes
abbrev pub field_of : Field → List ℕ → List ℕ
field_of f x = bytes_at x f.place f.size

-- so many zeros
abbrev pub zeros : ℕ → List ℕ
zeros n = replicate n 0

-- entries that stand at places of their own, without a pointer: type and purpose stand before the begin, which is not 0
-- where one is there
abbrev pub table : (base width count : ℕ) → Shape
table base width count = record { base = base; width = width; count = count; pointer_width = 0; gate = 2 }

-- the events of a unit's memory
abbrev pub event_table : Shape
event_table = table EVENTS.place EVENT 60

-- its over speedings
abbrev pub over_table : Shape
over_table = table OVERS.place OVER 10

-- its faults
abbrev pub fault_table : Shape
fault_table = table FAULTS.place FAULT 24

-- the entries that are there, in order of places
abbrev pub entries_in : Shape → List ℕ → List (List ℕ)
entries_in r x = map (entry_at r x) (filter (is_there r x) (range_with_len 0 r.count))

-- a second lies in the day that begins at this one
abbrev pub is_in_day : (date second : ℕ) → Bool
is_in_day date second = nat_eq (second / DAY_SECONDS * DAY_SECONDS) date

-- the insertion or the withdrawal lies in the day
abbrev pub touches_day : (date : ℕ) → List ℕ → Bool
touches_day date e = is_in_day date (insertion_time e) || is_in_day date (withdrawal_time e)

-- a place was entered in the day
abbrev pub place_in_day : (date : ℕ) → List ℕ → Bool
place_in_day date e = is_in_day date (place_time e)

-- the recorded days, oldest first, without words later than the last-kept minute
unfoldable pub sent_days : List ℕ → List StoredDay
sent_days x = days_kept (last_kept x) (unit_days x)

-- the first second of the oldest of these days and the unit's time; 0 and 0 where there is no day
abbrev pub period_of : (now : ℕ) → List StoredDay → ℕ × ℕ
period_of now [] = (0, 0)
period_of now (d ∷ ds) = (d.date, now)

-- the last-kept minute is the unit's time; no card, lock or control is told, and the last download and the signature
-- are zeros
unfoldable pub overview_of : List ℕ → Overview
overview_of x =
    record {
      state_certificate = field_of STATE_CERTIFICATE x;
      unit_certificate = field_of UNIT_CERTIFICATE x;
      vin = field_of VIN x;
      registration = field_of REGISTRATION x;
      now = 60 * last_kept x;
      begin = (period_of (60 * last_kept x) (sent_days x)).0;
      end = (period_of (60 * last_kept x) (sent_days x)).1;
      slot_status = 0;
      last_download = zeros LAST_DOWNLOAD;
      locks = [];
      controls = [];
      signature = zeros SIGNATURE;
    }

-- a day with these insertions and places of the unit, of which those of the day are sent, oldest first
abbrev pub day_message : (insertions places : List (List ℕ)) → StoredDay → DayMessage
day_message insertions places d =
    record {
      date = d.date;
      odometer = d.odometer;
      insertions = filter (touches_day d.date) insertions;
      words = d.words;
      places = filter (place_in_day d.date) places;
      conditions = [];
      signature = zeros SIGNATURE;
    }

-- the message of a recorded day: with the image's own insertions and places
unfoldable pub day_message_of : List ℕ → StoredDay → DayMessage
day_message_of x d = day_message (ring_list insertion_ring x) (ring_list unit_place_ring x) d

-- faults, events and over speedings in order of places; no control and no adjustment is told
unfoldable pub event_message_of : List ℕ → EventMessage
event_message_of x =
    record {
      faults = entries_in fault_table x;
      events = entries_in event_table x;
      last_control = 0;
      first_over = number_in x FIRST_OVER;
      over_count = number_in x OVER_COUNT;
      overs = entries_in over_table x;
      adjustments = [];
      signature = zeros SIGNATURE;
    }

-- the blocks of detailed speed, oldest first
unfoldable pub speed_message_of : List ℕ → SpeedMessage
speed_message_of x = record { blocks = ring_list speed_ring x; signature = zeros SIGNATURE }

-- the unit's identification and its sensor; no calibration is told
unfoldable pub technical_message_of : List ℕ → TechnicalMessage
technical_message_of x =
    record {
      identification = field_of IDENTIFICATION x;
      sensor = field_of SENSOR x;
      calibrations = [];
      signature = zeros SIGNATURE;
    }

-- the day that begins at this second, if it is recorded
abbrev pub day_at : ℕ → List StoredDay → Option StoredDay
day_at second days = find (λ d. nat_eq d.date second) days

-- the message that answers a request: none for a day that is not recorded
unfoldable pub message_of : List ℕ → Request → Option Message
message_of x AskOverview = Some (AnOverview (overview_of x))
message_of x (AskDay second) = option_map (λ d. ADay (day_message_of x d)) (day_at second (sent_days x))
message_of x AskEvents = Some (AnEventList (event_message_of x))
message_of x AskSpeed = Some (ASpeedList (speed_message_of x))
message_of x AskTechnical = Some (ATechnical (technical_message_of x))

-- what stands behind 76 and the number in the answer to a request, as the link's table takes it
unfoldable pub content_sent : List ℕ → Request → Option (List ℕ)
content_sent x request = option_map content_of (message_of x request)

-- the requests of a download: the overview, each recorded day, events and faults, detailed speed, technical data
abbrev pub requests_of : List ℕ → List Request
requests_of x = AskOverview ∷ (map (λ d. AskDay d.date) (sent_days x) ++ AskEvents ∷ AskSpeed ∷ AskTechnical ∷ [])

-- each of these days begins later than the one before it
abbrev pub Follow : (date : ℕ) → List StoredDay → Type 0
Follow date [] = Unit {0}
Follow date (d ∷ ds) = (date < d.date) × Follow d.date ds

-- the messages of a unit's image in their order: overview, each recorded day, events and faults, detailed speed,
-- technical data
unfoldable pub messages_of : List ℕ → List Message
messages_of x =
    AnOverview (overview_of x) ∷ (map (λ d. ADay (day_message_of x d)) (sent_days x)
    ++ AnEventList (event_message_of x) ∷ ASpeedList (speed_message_of x) ∷ ATechnical (technical_message_of x) ∷ [])

-- the unit file: these messages one after the other
unfoldable pub unit_file : List ℕ → List ℕ
unit_file x = joined (map message_bytes (messages_of x))
