-- The messages of a download by their fields, and as bytes (Appendix 7, 2.2.6): numbers with their highest byte first,
-- counts followed by that many entries.
use Rattle.std.specs.Prelude.{◌≡◌, ℕ, ◌%◌, ◌<◌, ◌^◌, List, [], ◌∷◌, ◌++◌, length, map, All}
use Rattle.byteorder.specs.Endian.{big_bytes}
use Rattle.card_layout.specs.Fields.{joined}
use Rattle.unit_model.specs.declared.layout.TheConstants.{STATE_CERTIFICATE, UNIT_CERTIFICATE, VIN, REGISTRATION}
use Rattle.unit_model.specs.declared.layout.TheConstants.{IDENTIFICATION, SENSOR}
use Rattle.unit_model.specs.Days.{word_minute}
use Rattle.link_model.specs.declared.services.TheConstants.{MESSAGE, OVERVIEW_NUMBER, DAY_NUMBER, EVENTS_NUMBER}
use Rattle.link_model.specs.declared.services.TheConstants.{SPEED_NUMBER, TECHNICAL_NUMBER, DAY_SECONDS}
use Rattle.message_model.specs.declared.sizes.TheConstants.{LAST_DOWNLOAD, LOCK, CONTROL, SIGNATURE, INSERTION, PLACE}
use Rattle.message_model.specs.declared.sizes.TheConstants.{CONDITION, FAULT, EVENT, OVER, ADJUSTMENT, SPEED_BLOCK}
use Rattle.message_model.specs.declared.sizes.TheConstants.{CALIBRATION}

-- 01, the overview: certificates, vehicle, the unit's time, the period that can be read, cards, the last download,
-- locks, controls
pub record Overview : Type 0 where
  pub state_certificate : List ℕ
  pub unit_certificate : List ℕ
  pub vin : List ℕ
  pub registration : List ℕ
  pub now : ℕ
  pub begin : ℕ
  pub end : ℕ
  pub slot_status : ℕ
  pub last_download : List ℕ
  pub locks : List (List ℕ)
  pub controls : List (List ℕ)
  pub signature : List ℕ

-- 02, the activities of a day: its first second, the odometer then, insertions, change words, places, conditions
pub record DayMessage : Type 0 where
  pub date : ℕ
  pub odometer : ℕ
  pub insertions : List (List ℕ)
  pub words : List ℕ
  pub places : List (List ℕ)
  pub conditions : List (List ℕ)
  pub signature : List ℕ

-- 03, events and faults: faults, events, the last control of over speeding, the first over speeding and their number
-- since, the over speedings, adjustments of the time
pub record EventMessage : Type 0 where
  pub faults : List (List ℕ)
  pub events : List (List ℕ)
  pub last_control : ℕ
  pub first_over : ℕ
  pub over_count : ℕ
  pub overs : List (List ℕ)
  pub adjustments : List (List ℕ)
  pub signature : List ℕ

-- 04, detailed speed
pub record SpeedMessage : Type 0 where
  pub blocks : List (List ℕ)
  pub signature : List ℕ

-- 05, technical data: the unit, its sensor, calibrations
pub record TechnicalMessage : Type 0 where
  pub identification : List ℕ
  pub sensor : List ℕ
  pub calibrations : List (List ℕ)
  pub signature : List ℕ

-- a message of a download
pub data Message : Type 0 where
  AnOverview : Overview → Message
  ADay : DayMessage → Message
  AnEventList : EventMessage → Message
  ASpeedList : SpeedMessage → Message
  ATechnical : TechnicalMessage → Message

-- so many entries, behind their count of so many bytes
abbrev pub counted : ℕ → List (List ℕ) → List ℕ
counted width entries = big_bytes width (length entries) ++ joined entries

-- a word has two bytes
abbrev pub word_bytes : List ℕ → List (List ℕ)
word_bytes words = map (big_bytes 2) words

-- an overview, field by field
abbrev pub overview_bytes : Overview → List ℕ
overview_bytes m =
    joined
    (m.state_certificate ∷ m.unit_certificate ∷ m.vin ∷ m.registration ∷ big_bytes 4 m.now ∷ big_bytes 4 m.begin
    ∷ big_bytes 4 m.end
    ∷ big_bytes 1 m.slot_status ∷ m.last_download ∷ counted 1 m.locks ∷ counted 1 m.controls ∷ m.signature ∷ [])

-- a day, field by field
abbrev pub day_bytes : DayMessage → List ℕ
day_bytes m =
    joined
    (big_bytes 4 m.date ∷ big_bytes 3 m.odometer ∷ counted 2 m.insertions ∷ counted 2 (word_bytes m.words)
    ∷ counted 1 m.places
    ∷ counted 2 m.conditions ∷ m.signature ∷ [])

-- events and faults, field by field
abbrev pub event_bytes : EventMessage → List ℕ
event_bytes m =
    joined
    (counted 1 m.faults ∷ counted 1 m.events ∷ big_bytes 4 m.last_control ∷ big_bytes 4 m.first_over
    ∷ big_bytes 1 m.over_count
    ∷ counted 1 m.overs ∷ counted 1 m.adjustments ∷ m.signature ∷ [])

-- detailed speed: its blocks, and the signature
abbrev pub speed_bytes : SpeedMessage → List ℕ
speed_bytes m = joined (counted 2 m.blocks ∷ m.signature ∷ [])

-- technical data, field by field
abbrev pub technical_bytes : TechnicalMessage → List ℕ
technical_bytes m = joined (m.identification ∷ m.sensor ∷ counted 1 m.calibrations ∷ m.signature ∷ [])

-- a message's number
abbrev pub number_of : Message → ℕ
number_of (AnOverview m) = OVERVIEW_NUMBER
number_of (ADay m) = DAY_NUMBER
number_of (AnEventList m) = EVENTS_NUMBER
number_of (ASpeedList m) = SPEED_NUMBER
number_of (ATechnical m) = TECHNICAL_NUMBER

-- what stands behind the number
abbrev pub content_of : Message → List ℕ
content_of (AnOverview m) = overview_bytes m
content_of (ADay m) = day_bytes m
content_of (AnEventList m) = event_bytes m
content_of (ASpeedList m) = speed_bytes m
content_of (ATechnical m) = technical_bytes m

-- a message begins with 76 and its number
abbrev pub message_bytes : Message → List ℕ
message_bytes m = MESSAGE ∷ number_of m ∷ content_of m

-- entries of so many bytes, whose count has so many bytes
pub record AreEntries (width size : ℕ) (entries : List (List ℕ)) : Type 0 where
  pub few : length entries < 256 ^ width
  pub sized : All (λ e. length e ≡ size) entries

-- a field of so many bytes
abbrev pub HasSize : ℕ → List ℕ → Type 0
HasSize n bytes = length bytes ≡ n

-- the grammar of an overview: each field has its size, and each count its bytes
pub record IsOverview (m : Overview) : Type 0 where
  pub certificates : HasSize STATE_CERTIFICATE.size m.state_certificate
      × HasSize UNIT_CERTIFICATE.size m.unit_certificate
  pub vehicle : HasSize VIN.size m.vin × HasSize REGISTRATION.size m.registration
  pub times : (m.now < 2 ^ 32) × (m.begin < 2 ^ 32) × (m.end < 2 ^ 32)
  pub status : m.slot_status < 2 ^ 8
  pub last : HasSize LAST_DOWNLOAD m.last_download
  pub locks : AreEntries 1 LOCK m.locks
  pub controls : AreEntries 1 CONTROL m.controls
  pub signed : HasSize SIGNATURE m.signature

-- that of a day, which is a day's first second; each word stands in it
pub record IsDayMessage (m : DayMessage) : Type 0 where
  pub date : (m.date < 2 ^ 32) × (m.date % DAY_SECONDS ≡ 0)
  pub odometer : m.odometer < 2 ^ 24
  pub insertions : AreEntries 2 INSERTION m.insertions
  pub few : length m.words < 2 ^ 16
  pub words : All (λ w. (w < 2 ^ 16) × (word_minute w < 1440)) m.words
  pub places : AreEntries 1 PLACE m.places
  pub conditions : AreEntries 2 CONDITION m.conditions
  pub signed : HasSize SIGNATURE m.signature

-- that of events and faults
pub record IsEventMessage (m : EventMessage) : Type 0 where
  pub faults : AreEntries 1 FAULT m.faults
  pub events : AreEntries 1 EVENT m.events
  pub control : (m.last_control < 2 ^ 32) × (m.first_over < 2 ^ 32) × (m.over_count < 2 ^ 8)
  pub overs : AreEntries 1 OVER m.overs
  pub adjustments : AreEntries 1 ADJUSTMENT m.adjustments
  pub signed : HasSize SIGNATURE m.signature

-- that of detailed speed
pub record IsSpeedMessage (m : SpeedMessage) : Type 0 where
  pub blocks : AreEntries 2 SPEED_BLOCK m.blocks
  pub signed : HasSize SIGNATURE m.signature

-- that of technical data
pub record IsTechnicalMessage (m : TechnicalMessage) : Type 0 where
  pub unit : HasSize IDENTIFICATION.size m.identification × HasSize SENSOR.size m.sensor
  pub calibrations : AreEntries 1 CALIBRATION m.calibrations
  pub signed : HasSize SIGNATURE m.signature

-- a message of the grammar
abbrev pub IsMessage : Message → Type 0
IsMessage (AnOverview m) = IsOverview m
IsMessage (ADay m) = IsDayMessage m
IsMessage (AnEventList m) = IsEventMessage m
IsMessage (ASpeedList m) = IsSpeedMessage m
IsMessage (ATechnical m) = IsTechnicalMessage m

-- a file of messages: one or more of them, one after the other
pub record IsUnitFile (messages : List Message) (bytes : List ℕ) : Type 0 where
  pub some : 0 < length messages
  pub each : All IsMessage messages
  pub spelled : bytes ≡ joined (map message_bytes messages)
