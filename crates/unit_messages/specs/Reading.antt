-- What is read of the messages of a download.
use Rattle.std.specs.Prelude.{◌≡◌, ℕ, List, ◌++◌, length}
use Rattle.link_model.specs.declared.request.Request.{Request}
use Rattle.link_model.specs.declared.request.Request.TheVariants.{Overview as AskOverview, Day as AskDay}
use Rattle.link_model.specs.declared.request.Request.TheVariants.{Events as AskEvents, Speed as AskSpeed}
use Rattle.link_model.specs.declared.request.Request.TheVariants.{Technical as AskTechnical}
use Rattle.message_model.specs.Messages.{Overview, Message, AnOverview, ADay, AnEventList, ASpeedList, ATechnical}
use Rattle.message_model.specs.Messages.{message_bytes, IsMessage}
use Rattle.unit_messages.specs.declared.reading.MessageRead.{MessageRead}
use Rattle.unit_messages.specs.declared.reading.OverviewRead.{OverviewRead}

-- the bytes begin with this message of the grammar
pub record BeginsWith (m : Message) (bytes : List ℕ) : Type 0 where
  pub is_message : IsMessage m
  pub rest : List ℕ
  pub spelled : bytes ≡ message_bytes m ++ rest

-- the request that a message answers
abbrev pub request_of : Message → Request
request_of (AnOverview m) = AskOverview
request_of (ADay m) = AskDay m.date
request_of (AnEventList m) = AskEvents
request_of (ASpeedList m) = AskSpeed
request_of (ATechnical m) = AskTechnical

-- the message at the front of bytes
pub record IsReadAs (bytes : List ℕ) (read : MessageRead) : Type 0 where
  pub message : Message
  pub begins : BeginsWith message bytes
  pub len : read.len ≡ length (message_bytes message)
  pub request : read.request ≡ request_of message

-- no front of the bytes is a message
abbrev pub BeginsNoMessage : List ℕ → Type 0
BeginsNoMessage bytes = (m : Message) → BeginsWith m bytes → ⊥

-- the fields of an overview that are told
pub record IsOverviewRead (m : Overview) (read : OverviewRead) : Type 0 where
  pub registration : read.registration.0 ≡ m.registration
  pub now : read.now.0 ≡ m.now
  pub begin : read.begin.0 ≡ m.begin
  pub end : read.end.0 ≡ m.end
