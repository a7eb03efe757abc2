-- What an event leaves, well or not.
use Rattle.std.specs.Prelude.{◌≡◌, ◌⊎◌, ◌<◌, ◌++◌, ℕ, Bool, true, false, List, [], Option, None, Some, IfSome, Result}
use Rattle.std.specs.Prelude.{Ok, Err, length, option_to_list, slice_get}
use Rattle.std.specs.Io.KnownBytes.{Appends, Keeps}
use Rattle.link_model.specs.declared.request.Request.{Request}
use Rattle.link_model.specs.Frames.{Right}
use Rattle.unit_model.specs.Decoding.{first_bad_place}
use Rattle.link_frames.specs.Asking.{asks_unit}
use Rattle.link_session.specs.Told.{SessionView, is_judged}
use Rattle.link_loader.specs.declared.kind.Kind.TheVariants.{Piece}
use Rattle.link_loader.specs.Coming.{kind_of}
use Rattle.link_loader.specs.Loading.{Load, IsRefused, LeavesSink, with_piece}
use Rattle.link_loader.specs.declared.fault.LoadFault.{LoadFault}
use Rattle.link_loader.specs.declared.fault.LoadFault.TheVariants as load
use Rattle.unit_download.specs.declared.fault.DownloadFault.{DownloadFault}
use Rattle.unit_download.specs.declared.fault.DownloadFault.TheVariants.{Failed, BadUnit, Changed, WriteFault, Memory}
use Rattle.noisy_model.specs.declared.packet.Packet.{Packet}
use Rattle.noisy_model.specs.declared.event.Event.{Event}
use Rattle.noisy_model.specs.declared.event.Event.TheVariants.{Send, ToUnit, ToLoader}
use Rattle.noisy_model.specs.Ends.{UnitEnd, LoaderEnd, Taken, New, Hears, arrival_by, brought}
use Rattle.noisy_model.specs.Worlds.{World, Happens}
use Rattle.noisy_link.specs.Sides.{IsReply, TakesPacket, asked, LeavesEnd, download_sides, puts_of}

-- the loader's fault, as the download tells it
abbrev pub told_as : LoadFault → DownloadFault
told_as (load.Negative service code) = Changed
told_as load.Unexpected = Changed
told_as (load.Broken wanted counter) = Changed
told_as load.WriteFault = WriteFault
told_as load.Memory = Memory

-- the loader's end was brought a frame, which it refused, or did not put out
pub record IsRefusal (told : DownloadFault) (old : LoaderEnd Load) (p : Packet) (new : LoaderEnd Load)
    (held sunk : Option (List ℕ)) : Type 0 where
  pub frame : List ℕ
  pub brings : brought asked old p ≡ Some frame
  pub fault : LoadFault
  pub told_is : told ≡ told_as fault
  pub refused : IsRefused old.side.loading frame fault
  pub sink : LeavesSink old.side.loading frame fault held sunk
  pub leaves : LeavesEnd fault old new

-- it was brought a piece of a message, for which it has no room
pub record LacksRoom (e : LoaderEnd Load) (p : Packet) : Type 0 where
  pub frame : List ℕ
  pub brings : brought asked e p ≡ Some frame
  pub request : Request
  pub piece : kind_of e.side.loading.stage frame ≡ Piece request
  pub long : e.side.room < length (with_piece e.side.loading.bytes frame)

-- the unit's end gets the packet of a place, if there is one, and what goes back is added
abbrev pub EndHears : (image : Option (List ℕ)) → UnitEnd SessionView → Option Packet → UnitEnd SessionView
    → (given now : List Packet) → Type 0
EndHears image old None new given now = (new ≡ old) × (now ≡ given)
EndHears image old (Some p) new given now = (answer : Option Packet) × Hears (IsReply image) old p new answer
    × (now ≡ given ++ option_to_list answer)

-- a new request comes to the unit's end
pub record Requests (e : UnitEnd SessionView) (o : Option Packet) (request : List ℕ) : Type 0 where
  pub packet : Packet
  pub is : o ≡ Some packet
  pub new_one : arrival_by e.last packet.number packet.frame ≡ New request

-- one whose answer hangs on the unit
pub record AsksUnit (e : UnitEnd SessionView) (o : Option Packet) : Type 0 where
  pub request : List ℕ
  pub requests : Requests e o request
  pub asks : asks_unit e.side.state (Right request) ≡ true

-- one to which the session has no answer
pub record IsSilent (old : UnitEnd SessionView) (o : Option Packet) (new : UnitEnd SessionView) : Type 0 where
  pub request : List ℕ
  pub requests : Requests old o request
  pub none : new.kept ≡ None

-- what the unit's end does about the packet of a place, and how that ends
abbrev pub IsHearing : Result (Unit {0}) DownloadFault → (image : Option (List ℕ)) → UnitEnd SessionView → Option Packet
    → UnitEnd SessionView → (given now : List Packet) → Type 0
IsHearing (Ok done) image old o new given now = EndHears image old o new given now × (IsSilent old o new → ⊥)
IsHearing (Err Failed) image old o new given now = AsksUnit old o × (new ≡ old) × (now ≡ given)
IsHearing (Err (BadUnit place)) image old o new given now =
    AsksUnit old o × (new ≡ old) × (now ≡ given) × (is_judged old.side ≡ false)
    × IfSome image (λ x. first_bad_place x ≡ Some place)
IsHearing (Err Changed) image old o new given now = EndHears image old o new given now × IsSilent old o new
IsHearing (Err WriteFault) image old o new given now = ⊥
IsHearing (Err Memory) image old o new given now = (new ≡ old) × (now ≡ given)

-- the loader's end gets the answer of a place, if there is one
abbrev pub EndTakes : LoaderEnd Load → Option Packet → LoaderEnd Load → (held sunk : Option (List ℕ)) → Type 0
EndTakes old None new held sunk = (new ≡ old) × Keeps held sunk
EndTakes old (Some p) new held sunk = (yes : Bool) × TakesPacket old p new yes held sunk

-- and how that ends
abbrev pub IsTaking : Result (Unit {0}) DownloadFault → LoaderEnd Load → Option Packet → LoaderEnd Load
    → (held sunk : Option (List ℕ)) → Type 0
IsTaking (Ok done) old o new held sunk = EndTakes old o new held sunk
IsTaking (Err Memory) old o new held sunk = (p : Packet) × (o ≡ Some p) × LacksRoom old p × (new ≡ old)
    × Keeps held sunk
IsTaking (Err fault) old o new held sunk = (p : Packet) × (o ≡ Some p) × IsRefusal fault old p new held sunk

-- the packet that comes to the unit's end, if any
abbrev pub to_unit : World SessionView Load → Event → Option Packet
to_unit w Send = None
to_unit w (ToUnit place) = slice_get w.sent place
to_unit w (ToLoader place) = None

-- the packet that comes to the loader's end, if any
abbrev pub to_loader : World SessionView Load → Event → Option Packet
to_loader w Send = None
to_loader w (ToUnit place) = None
to_loader w (ToLoader place) = slice_get w.answers place

-- the frame of a packet, if there is one
abbrev pub frame_of : Option Packet → Option (List ℕ)
frame_of None = None
frame_of (Some p) = p.frame

-- the frame that the packet of a place brings the loader's end, if there is one
abbrev pub brought_by : World SessionView Load → Option Packet → Option (List ℕ)
brought_by w None = None
brought_by w (Some p) = brought asked w.loader p

-- A new request came whose answer hangs on the unit, and nothing has changed.
pub record IsUnanswered (old : World SessionView Load) (event : Event) (new : World SessionView Load)
    (held sunk : Option (List ℕ)) : Type 0 where
  pub asks : AsksUnit old.unit (to_unit old event)
  pub same : new ≡ old
  pub kept : Keeps held sunk

-- The unit's session has no answer to a new request: what happens has happened, and a packet without a frame goes back.
pub record IsSilence (image : Option (List ℕ)) (old : World SessionView Load) (event : Event)
    (new : World SessionView Load) (held sunk : Option (List ℕ)) : Type 0 where
  pub happens : Happens (download_sides image) old event new []
  pub silent : IsSilent old.unit (to_unit old event) new.unit
  pub kept : Keeps held sunk

-- The loader's end was brought an answer that it refuses, or whose message the sink did not take whole: its number goes
-- on, and the download is over.
pub record IsUntaken (told : DownloadFault) (old : World SessionView Load) (event : Event)
    (new : World SessionView Load) (held sunk : Option (List ℕ)) : Type 0 where
  pub packet : Packet
  pub comes : to_loader old event ≡ Some packet
  pub refusal : IsRefusal told old.loader packet new.loader held sunk
  pub sent : new.sent ≡ old.sent
  pub answers : new.answers ≡ old.answers
  pub unit : new.unit ≡ old.unit

-- WHAT AN EVENT LEAVES. It happens, and what the answers that were taken put out has gone to the sink; or it ends by
-- one of the five faults: the unit failed or is bad, or memory ran out, and nothing has changed; the session has no
-- answer, or the loader refuses what comes; the sink failed.
abbrev pub IsStep : Result (Unit {0}) DownloadFault → (image : Option (List ℕ)) → (old : World SessionView Load) → Event
    → (new : World SessionView Load) → (held sunk : Option (List ℕ)) → Type 0
IsStep (Ok done) image old event new held sunk =
    (took : List Taken) × Happens (download_sides image) old event new took × Appends held sunk (puts_of took)
    × (IsSilent old.unit (to_unit old event) new.unit → ⊥)
IsStep (Err Failed) image old event new held sunk = IsUnanswered old event new held sunk
IsStep (Err (BadUnit place)) image old event new held sunk =
    IsUnanswered old event new held sunk × (is_judged old.unit.side ≡ false)
    × IfSome image (λ x. first_bad_place x ≡ Some place)
IsStep (Err Changed) image old event new held sunk = IsSilence image old event new held sunk
    ⊎ IsUntaken Changed old event new held sunk
IsStep (Err WriteFault) image old event new held sunk = IsUntaken WriteFault old event new held sunk
IsStep (Err Memory) image old event new held sunk = (new ≡ old) × Keeps held sunk
    × IfSome (to_loader old event) (LacksRoom old.loader)
