-- What the outline of a message says of the unit's image.
use Rattle.std.specs.Prelude.{◌≡◌, ℕ, ◌+◌, ◌*◌, ◌≤◌, List, length, filter, Option, Some, None, option_map}
use Rattle.unit_model.specs.declared.layout.TheConstants.{FIRST_OVER, OVER_COUNT, DAY_WORDS, DAY_WORD_LIMIT}
use Rattle.unit_model.specs.declared.layout.TheConstants.{HIGHEST_ODOMETER, IMAGE_SIZE, INSERTION_SLOTS, PLACE_SLOTS}
use Rattle.unit_model.specs.Days.{StoredDay}
use Rattle.unit_model.specs.Image.{number_of as number_in, last_kept, words_at}
use Rattle.gated_ring.specs.Ring.{ring_list, PointsInside}
use Rattle.link_model.specs.declared.request.Request.{Request}
use Rattle.link_model.specs.declared.request.Request.TheVariants.{Overview as AskOverview, Day as AskDay}
use Rattle.link_model.specs.declared.request.Request.TheVariants.{Events as AskEvents, Speed as AskSpeed}
use Rattle.link_model.specs.declared.request.Request.TheVariants.{Technical as AskTechnical}
use Rattle.message_model.specs.declared.sizes.TheConstants.{INSERTION, PLACE, FAULT, EVENT, OVER, SPEED_BLOCK}
use Rattle.message_model.specs.Records.{insertion_ring, unit_place_ring, speed_ring}
use Rattle.message_model.specs.Messages.{message_bytes}
use Rattle.message_model.specs.Sending.{message_of, sent_days, day_at, period_of, entries_in, event_table, over_table}
use Rattle.message_model.specs.Sending.{fault_table, touches_day, place_in_day}
use Rattle.unit_messages.specs.Counts.{AreCounted, AreInRange}
use Rattle.unit_messages.specs.Windows.{Sight, passed}
use Rattle.unit_messages.specs.declared.outline.TheConstants.{OVERVIEW_LENGTH, DAY_LENGTH, EVENTS_LENGTH, SPEED_LENGTH}
use Rattle.unit_messages.specs.declared.outline.TheConstants.{TECHNICAL_LENGTH}
use Rattle.unit_messages.specs.declared.outline.Times.{Times}
use Rattle.unit_messages.specs.declared.outline.DayOutline.{DayOutline}
use Rattle.unit_messages.specs.declared.outline.EventOutline.{EventOutline}
use Rattle.unit_messages.specs.declared.outline.Plan.{Plan}
use Rattle.unit_messages.specs.declared.outline.Plan.TheVariants.{Overview, Day, Events, Speed, Technical}

-- the bytes of the message that answers a request: 76, its number, its content
abbrev pub bytes_sent : List ℕ → Request → Option (List ℕ)
bytes_sent x request = option_map message_bytes (message_of x request)

-- the request that the message of an outline answers
abbrev pub asked : Plan → Request
asked (Overview times) = AskOverview
asked (Day d) = AskDay d.date
asked (Events e) = AskEvents
asked (Speed n) = AskSpeed
asked Technical = AskTechnical

-- how many bytes the message has
abbrev pub length_of : Plan → ℕ
length_of (Overview times) = OVERVIEW_LENGTH
length_of (Day d) = DAY_LENGTH + INSERTION * d.insertions + 2 * d.words + PLACE * d.places
length_of (Events e) = EVENTS_LENGTH + FAULT * e.faults + EVENT * e.events + OVER * e.overs
length_of (Speed n) = SPEED_LENGTH + SPEED_BLOCK * n
length_of Technical = TECHNICAL_LENGTH

-- the numbers of a day have their ranges, also of a unit that tells nothing
pub record IsDayInRange (d : DayOutline) : Type 0 where
  pub odometer : d.odometer ≤ HIGHEST_ODOMETER
  pub words : d.words ≤ DAY_WORD_LIMIT
  pub place : d.words_place + DAY_WORDS.size ≤ IMAGE_SIZE
  pub insertions : d.insertions ≤ INSERTION_SLOTS
  pub places : d.places ≤ PLACE_SLOTS
  pub counts : AreInRange d.counts

-- so have those of events and faults
pub record IsEventInRange (e : EventOutline) : Type 0 where
  pub faults : e.faults ≤ 24
  pub events : e.events ≤ 60
  pub overs : e.overs ≤ 10
  pub over_count : e.over_count ≤ 255

-- so have those of any outline
abbrev pub IsInRange : Plan → Type 0
IsInRange (Overview times) = Unit {0}
IsInRange (Day d) = IsDayInRange d
IsInRange (Events e) = IsEventInRange e
IsInRange (Speed n) = n ≤ speed_ring.count
IsInRange Technical = Unit {0}

-- the times of an overview
pub record AreTimes (x : List ℕ) (t : Times) : Type 0 where
  pub now : t.now ≡ 60 * last_kept x
  pub begin : t.begin ≡ (period_of (60 * last_kept x) (sent_days x)).0
  pub end : t.end ≡ (period_of (60 * last_kept x) (sent_days x)).1

-- a recorded day, with its words where they stand, and how many insertions and places it has; the pointers of their
-- rings are indices, and the dates beside it are counted
pub record IsDayOf (x : List ℕ) (d : DayOutline) : Type 0 where
  pub day : StoredDay
  pub found : day_at d.date (sent_days x) ≡ Some day
  pub date : day.date ≡ d.date
  pub odometer : day.odometer ≡ d.odometer
  pub words : day.words ≡ words_at x d.words_place d.words
  pub insertions : d.insertions ≡ length (filter (touches_day d.date) (ring_list insertion_ring x))
  pub places : d.places ≡ length (filter (place_in_day d.date) (ring_list unit_place_ring x))
  pub insertion_pointer : PointsInside insertion_ring x
  pub place_pointer : PointsInside unit_place_ring x
  pub counted : AreCounted d.counts x

-- so many events, faults and over speedings are there, and the image tells this of the over speedings
pub record AreEventsOf (x : List ℕ) (e : EventOutline) : Type 0 where
  pub faults : e.faults ≡ length (entries_in fault_table x)
  pub events : e.events ≡ length (entries_in event_table x)
  pub overs : e.overs ≡ length (entries_in over_table x)
  pub first_over : e.first_over ≡ number_in x FIRST_OVER
  pub over_count : e.over_count ≡ number_in x OVER_COUNT

-- so many blocks of detailed speed; the pointer of their ring is an index
pub record AreBlocksOf (x : List ℕ) (n : ℕ) : Type 0 where
  pub blocks : n ≡ length (ring_list speed_ring x)
  pub pointer : PointsInside speed_ring x

-- the outline is that of a message of this image
abbrev pub Outlines : Plan → List ℕ → Type 0
Outlines (Overview times) x = AreTimes x times
Outlines (Day d) x = IsDayOf x d
Outlines (Events e) x = AreEventsOf x e
Outlines (Speed n) x = AreBlocksOf x n
Outlines Technical x = Unit {0}

-- what is found of a request
abbrev pub IsOutlined : List ℕ → Request → Option Plan → Type 0
IsOutlined x request None = message_of x request ≡ None
IsOutlined x request (Some o) = (asked o ≡ request) × Outlines o x

-- a window by which the bytes of the message have passed
abbrev pub HasPassed : Plan → List ℕ → (before after : Sight) → Type 0
HasPassed o x before after = (bytes : List ℕ) × (bytes_sent x (asked o) ≡ Some bytes) × (after ≡ passed before bytes)
