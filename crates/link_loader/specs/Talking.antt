-- A loader and a unit on a link: what both do, frame after frame.
use Rattle.std.specs.Prelude.{◌≡◌, ℕ, ◌*◌, ◌%◌, ◌<◌, ◌≤◌, ◌^◌, List, [], ◌∷◌, ◌++◌, length, Option, Some, IfSome}
use Rattle.card_layout.specs.Fields.{IsBytes}
use Rattle.link_model.specs.declared.request.Request.{Request}
use Rattle.link_model.specs.declared.services.TheConstants.{DAY_SECONDS}
use Rattle.link_model.specs.Frames.{Right}
use Rattle.link_model.specs.Answers.{LinkState, Idle, answered}
use Rattle.unit_model.specs.declared.layout.TheConstants.{IMAGE_SIZE}
use Rattle.unit_model.specs.Days.{StoredDay}
use Rattle.unit_model.specs.Image.{last_kept}
use Rattle.unit_model.specs.Decoding.{Decodes}
use Rattle.message_model.specs.Messages.{IsMessage, message_bytes}
use Rattle.message_model.specs.Sending.{Follow, sent_days, message_of}
use Rattle.unit_messages.specs.declared.joining.TheConstants.{LONGEST}
use Rattle.link_loader.specs.Stages.{sent_at}
use Rattle.link_loader.specs.Loading.{Loading, begun, Takes}

-- where the unit stands, where the loader stands, and what the loader has put out
pub record Talk : Type 0 where
  pub unit : LinkState
  pub loader : Loading
  pub out : List ℕ

-- nothing has passed yet
abbrev pub fresh_talk : Talk
fresh_talk = record { unit = Idle; loader = begun; out = [] }

-- One exchange: the loader sends, the unit answers by the table over its messages, and the loader takes that frame.
pub record Exchanges (messages : Request → Option (List ℕ)) (old : Talk) (frame : List ℕ) (new : Talk) : Type 0 where
  pub sent : List ℕ
  pub sends : sent_at old.loader.stage ≡ Some sent
  pub answers : answered messages old.unit (Right sent) ≡ record { answer = Some frame; state = new.unit }
  pub put : List ℕ
  pub takes : Takes old.loader frame new.loader put
  pub puts : new.out ≡ old.out ++ put

-- exchanges one after the other, by the frames that the unit answers
abbrev pub Talks : (Request → Option (List ℕ)) → (frames : List (List ℕ)) → Talk → Talk → Type 0
Talks messages [] old new = new ≡ old
Talks messages (frame ∷ frames) old new = (mid : Talk) × Exchanges messages old frame mid
    × Talks messages frames mid new

-- each of these days is a day's first second, and begins by this one
abbrev pub AreDays : (end : ℕ) → List StoredDay → Type 0
AreDays end [] = Unit {0}
AreDays end (d ∷ ds) = (d.date % DAY_SECONDS ≡ 0) × (d.date ≤ end) × AreDays end ds

-- the image of a unit: as many bytes as a unit has, and it decodes
pub record IsUnitImage (x : List ℕ) : Type 0 where
  pub sized : length x ≡ IMAGE_SIZE
  pub bytes : IsBytes x
  pub decodes : Decodes x

-- What a download needs of an image: its days follow one another, begin at a day's first second and by the unit's time,
-- which four bytes hold; its messages are of the grammar, and none is longer than the longest of a unit.
pub record CanBeLoaded (x : List ℕ) : Type 0 where
  pub follow : Follow 0 (sent_days x)
  pub days : AreDays (60 * last_kept x) (sent_days x)
  pub time : 60 * last_kept x < 2 ^ 32
  pub grammar : (request : Request) → IfSome (message_of x request) IsMessage
  pub room : (request : Request) → IfSome (message_of x request) (λ m. length (message_bytes m) ≤ LONGEST)
