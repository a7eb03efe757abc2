-- What is measured of a unit's file (profile).
use Rattle.std.specs.Prelude.{◌≡◌, ℕ, ◌+◌, List, [], ◌∷◌, length}
use Rattle.link_model.specs.declared.request.Request.{Request}
use Rattle.link_model.specs.declared.request.Request.TheVariants.{Overview as AskOverview, Day as AskDay}
use Rattle.link_model.specs.declared.request.Request.TheVariants.{Events as AskEvents, Speed as AskSpeed}
use Rattle.link_model.specs.declared.request.Request.TheVariants.{Technical as AskTechnical}
use Rattle.message_model.specs.Messages.{Message}
use Rattle.message_model.specs.Sending.{unit_file, sent_days}
use Rattle.unit_messages.specs.Reading.{request_of}
use Rattle.unit_download.specs.declared.measuring.FileSize.{FileSize}

-- how many messages of a day answer a request
abbrev pub days_in : Request → ℕ
days_in (AskDay date) = 1
days_in AskOverview = 0
days_in AskEvents = 0
days_in AskSpeed = 0
days_in AskTechnical = 0

-- how many of these messages are of a day
abbrev pub day_count : List Message → ℕ
day_count [] = 0
day_count (m ∷ ms) = days_in (request_of m) + day_count ms

-- the length of the file of a unit with this image, and how many days it tells
pub record IsSizeOf (x : List ℕ) (m : FileSize) : Type 0 where
  pub bytes : m.bytes ≡ length (unit_file x)
  pub days : m.days ≡ length (sent_days x)
