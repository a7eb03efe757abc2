-- The two sides of a download on a noisy link: a session of the unit, and the loader's side.
use Rattle.std.specs.Prelude.{◌≡◌, ℕ, ◌+◌, ◌||◌, Bool, true, false, length, is_none, List, [], ◌∷◌, ◌++◌, Option, Some}
use Rattle.std.specs.Prelude.{IfSome}
use Rattle.unit_model.specs.declared.layout.TheConstants.{IMAGE_SIZE}
use Rattle.std.specs.Io.KnownBytes.{Appends}
use Rattle.link_model.specs.Frames.{Right}
use Rattle.link_model.specs.declared.request.Request.{Request}
use Rattle.link_model.specs.Answers.{LinkState, Idle, answered}
use Rattle.link_frames.specs.Asking.{asks_unit}
use Rattle.link_session.specs.Told.{SessionView, Knows, is_judged, fresh}
use Rattle.link_loader.specs.Stages.{sent_at}
use Rattle.link_loader.specs.Loading.{Load, Takes, left_by}
use Rattle.unit_download.specs.Wires.{Replies}
use Rattle.link_loader.specs.declared.fault.LoadFault.{LoadFault}
use Rattle.link_loader.specs.declared.fault.LoadFault.TheVariants.{Memory}
use Rattle.noisy_model.specs.declared.packet.Packet.{Packet}
use Rattle.noisy_model.specs.Ends.{Sides, LoaderEnd, Taken, TakesBy, brought}
use Rattle.noisy_model.specs.Worlds.{World, fresh_world}

-- A session answers a request by its table, over the messages of the unit's image or, where it is not told, over some;
-- and the unit was judged if the answer hangs on it.
pub record IsReply (image : Option (List ℕ)) (old : SessionView) (request : List ℕ) (answer : Option (List ℕ))
    (new : SessionView) : Type 0 where
  pub replies : Replies image old.state request (record { answer = answer; state = new.state })
  pub judged : is_judged new ≡ (is_judged old || asks_unit old.state (Right request))
  pub knows : IfSome image (Knows new)

-- the loader asks by the frame of its stage
abbrev pub asked : Load → Option (List ℕ)
asked l = sent_at l.loading.stage

-- it takes an answer as it does on a link that keeps all
abbrev pub Loads : (old : Load) → (frame : List ℕ) → (new : Load) → (put : List ℕ) → Type 0
Loads old frame new put = Takes old.loading frame new.loading put

-- the two sides of a download of this image
abbrev pub download_sides : (image : Option (List ℕ)) → Sides SessionView Load
download_sides image = record { asks = asked; Answers = IsReply image; Takes = Loads }

-- the download is over
abbrev pub is_over : Load → Bool
is_over l = is_none (asked l)

-- the world of a download that has not begun, of this loader
abbrev pub fresh_download : Load → World SessionView Load
fresh_download loader = fresh_world (fresh Idle) loader

-- what the answers that were taken have put out
abbrev pub puts_of : List Taken → List ℕ
puts_of [] = []
puts_of (t ∷ took) = t.put ++ puts_of took

-- whether an answer was taken
abbrev pub took_any : List Taken → Bool
took_any [] = false
took_any (t ∷ took) = true

-- the loader's end takes what a packet brings, if anything, and what it puts out is in the sink, behind what that held
pub record TakesPacket (old : LoaderEnd Load) (p : Packet) (new : LoaderEnd Load) (yes : Bool)
    (held sunk : Option (List ℕ)) : Type 0 where
  pub took : List Taken
  pub takes : TakesBy Loads old (brought asked old p) new took
  pub puts : Appends held sunk (puts_of took)
  pub yes_is : yes ≡ took_any took

-- a refusal is done too, but for want of memory: the number goes on
abbrev pub number_left : LoadFault → ℕ → ℕ
number_left Memory number = number
number_left fault number = number + 1

-- where a refusal leaves the loader's end
abbrev pub LeavesEnd : LoadFault → LoaderEnd Load → LoaderEnd Load → Type 0
LeavesEnd fault old new = (new.number ≡ number_left fault old.number)
    × (new.side.loading ≡ left_by fault old.side.loading)

-- where the table of a unit stands behind these requests, each heard once
abbrev pub state_after : (Request → Option (List ℕ)) → LinkState → List (List ℕ) → LinkState
state_after messages state [] = state
state_after messages state (request ∷ requests) = state_after messages (answered messages state (Right request)).state
    requests

-- 1 for bytes, 0 for none
abbrev pub one_if_any : List ℕ → ℕ
one_if_any [] = 0
one_if_any (byte ∷ bytes) = 1

-- how many messages were put out: each answer puts out one, or nothing
abbrev pub messages_out : List Taken → ℕ
messages_out [] = 0
messages_out (t ∷ took) = one_if_any t.put + messages_out took

-- an image that is told has a unit's size
abbrev pub Sized : (image : Option (List ℕ)) → Type 0
Sized image = (x : List ℕ) → image ≡ Some x → length x ≡ IMAGE_SIZE
