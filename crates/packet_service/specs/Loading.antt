-- What a loader's end does about datagrams, and how its download ends.
use Rattle.std.specs.Prelude.{◌≡◌, ◌⊎◌, ℕ, ◌≤◌, true, List, [], ◌∷◌, ◌++◌, length, take, Option}
use Rattle.std.specs.Prelude.{Some, None, option_to_list, Result, Ok, Err}
use Rattle.std.specs.Io.KnownBytes.{Appends, Consumes, IsAtEnd, Keeps}
use Rattle.tach_media.specs.Streams.{AppendsFront}
use Rattle.link_loader.specs.declared.fault.LoadFault.{LoadFault}
use Rattle.link_loader.specs.declared.fault.LoadFault.TheVariants as load
use Rattle.link_loader.specs.Loading.{Load, LeavesSink, IsRefused, begun}
use Rattle.unit_messages.specs.declared.joining.TheConstants.{LONGEST}
use Rattle.unit_download.specs.Ending.{IsOfFrame}
use Rattle.noisy_model.specs.declared.packet.Packet.{Packet}
use Rattle.noisy_model.specs.Ends.{LoaderEnd, Taken, TakesBy, request_of, brought}
use Rattle.noisy_model.specs.Packets.{packet_in}
use Rattle.noisy_link.specs.Sides.{Loads, asked, is_over, puts_of}
use Rattle.noisy_link.specs.Steps.{LacksRoom}
use Rattle.packet_service.specs.declared.loading.PacketsFault.{PacketsFault}
use Rattle.packet_service.specs.declared.loading.PacketsFault.TheVariants.{ReadFault, WriteFault, FileFault, Changed}
use Rattle.packet_service.specs.declared.loading.PacketsFault.TheVariants.{TooLong, Ended, Memory}
use Rattle.packet_service.specs.declared.serving.TheConstants.{MOST_TURNS}
use Rattle.packet_service.specs.Datagrams.{stream_of, AreDatagrams, IsTooLong}
use Rattle.packet_service.specs.Serving.{stream_of_packets}

-- what the loader's end sends, if anything
abbrev pub sent_by : LoaderEnd Load → List Packet
sent_by e = option_to_list (request_of asked e)

-- behind an answer that was taken it sends the next request; behind another packet nothing
abbrev pub sent_behind : List Taken → LoaderEnd Load → List Packet
sent_behind [] e = []
sent_behind (t ∷ took) e = sent_by e

-- a packet comes to the loader's end, or what is none
abbrev pub TakesAny : LoaderEnd Load → Option Packet → LoaderEnd Load → List Taken → List Packet → Type 0
TakesAny old None new took out = (new ≡ old) × (took ≡ []) × (out ≡ [])
TakesAny old (Some p) new took out = TakesBy Loads old (brought asked old p) new took × (out ≡ sent_behind took new)

-- a datagram comes: by an empty one it sends again, any other is a packet or none
abbrev pub TakesDatagram : LoaderEnd Load → (datagram : List ℕ) → LoaderEnd Load → List Taken → List Packet → Type 0
TakesDatagram old [] new took out = (new ≡ old) × (took ≡ []) × (out ≡ sent_by old)
TakesDatagram old (byte ∷ bytes) new took out = TakesAny old (packet_in (byte ∷ bytes)) new took out

-- THE SENDINGS behind datagrams, one after the other, and the answers that were taken
abbrev pub TakesAll : LoaderEnd Load → (datagrams : List (List ℕ)) → LoaderEnd Load → List Taken → List Packet → Type 0
TakesAll old [] new took out = (new ≡ old) × (took ≡ []) × (out ≡ [])
TakesAll old (d ∷ datagrams) new took out =
    (mid : LoaderEnd Load) × (first : List Taken) × (rest : List Taken) × (sent : List Packet) × (later : List Packet)
    × TakesDatagram old d mid first sent × TakesAll mid datagrams new rest later
    × (took ≡ first ++ rest) × (out ≡ sent ++ later)

-- what a link and a file held and hold
pub record Sinks : Type 0 where
  pub link : Option (List ℕ)
  pub file : Option (List ℕ)

-- From a loader's end that has begun: these datagrams came, the link has its first request and the sendings behind
-- them, and the file what the answers that were taken put out. It has room for the longest message of a unit.
pub record AreTaken (datagrams : List (List ℕ)) (end : LoaderEnd Load) (held sunk : Sinks) : Type 0 where
  pub first : LoaderEnd Load
  pub number : first.number ≡ 1
  pub begins : first.side.loading ≡ begun
  pub took : List Taken
  pub out : List Packet
  pub takes : TakesAll first datagrams end took out
  pub linked : Appends held.link sunk.link (stream_of_packets (sent_by first ++ out))
  pub filed : Appends held.file sunk.file (puts_of took)
  pub room : LONGEST ≤ end.side.room

-- A DOWNLOAD BY PACKETS AS IT GOES.
pub record IsLoading (came part : List ℕ) (end : LoaderEnd Load) (held sunk : Sinks) : Type 0 where
  pub datagrams : List (List ℕ)
  pub cut : AreDatagrams came datagrams part
  pub taken : AreTaken datagrams end held sunk

-- at the last datagram that came the loader refuses its answer so, or does not put it out; nothing more goes to the
-- link
pub record RefusesLast (fault : LoadFault) (end : LoaderEnd Load) (last : List ℕ) (held sunk : Sinks) : Type 0 where
  pub packet : Packet
  pub is : packet_in last ≡ Some packet
  pub frame : List ℕ
  pub brings : brought asked end packet ≡ Some frame
  pub refused : IsRefused end.side.loading frame fault
  pub file : LeavesSink end.side.loading frame fault held.file sunk.file
  pub link : sunk.link ≡ held.link

-- why a download ends at a datagram; memory runs out only at a piece of a message that is longer than there is room for
abbrev pub FailsAt : PacketsFault → (end : LoaderEnd Load) → (last : List ℕ) → (held sunk : Sinks) → Type 0
FailsAt WriteFault end last held sunk =
    (new : LoaderEnd Load) × (took : List Taken) × (out : List Packet) × TakesDatagram end last new took out
    × Appends held.file sunk.file (puts_of took) × AppendsFront held.link sunk.link (stream_of_packets out)
FailsAt FileFault end last held sunk = RefusesLast load.WriteFault end last held sunk
FailsAt Changed end last held sunk = (fault : LoadFault) × IsOfFrame fault × RefusesLast fault end last held sunk
FailsAt Memory end last held sunk = (p : Packet) × (packet_in last ≡ Some p) × LacksRoom end p × (sunk.link ≡ held.link)
    × Keeps held.file sunk.file
FailsAt ReadFault end last held sunk = ⊥
FailsAt TooLong end last held sunk = ⊥
FailsAt Ended end last held sunk = ⊥

-- what the loader's end does about a datagram, and how that ends
abbrev pub IsTaken : Result (Unit {0}) PacketsFault → LoaderEnd Load → (datagram : List ℕ) → LoaderEnd Load
    → (held sunk : Sinks) → Type 0
IsTaken (Ok done) old datagram new held sunk =
    (took : List Taken) × (out : List Packet) × TakesDatagram old datagram new took out
    × Appends held.link sunk.link (stream_of_packets out) × Appends held.file sunk.file (puts_of took)
IsTaken (Err fault) old datagram new held sunk = FailsAt fault old datagram held sunk

-- A download ended at the last datagram of these bytes: those before it were taken.
pub record StopsTaking (fault : PacketsFault) (came : List ℕ) (held sunk : Sinks) : Type 0 where
  pub before : List (List ℕ)
  pub last : List ℕ
  pub spelled : came ≡ stream_of (before ++ last ∷ [])
  pub end : LoaderEnd Load
  pub mid : Sinks
  pub taken : AreTaken before end held mid
  pub fails : FailsAt fault end last mid sunk

-- a length of more than 264 came: the datagrams before it were taken
pub record StopsLong (came : List ℕ) (held sunk : Sinks) : Type 0 where
  pub datagrams : List (List ℕ)
  pub part : List ℕ
  pub spelled : came ≡ stream_of datagrams ++ part
  pub long : IsTooLong part
  pub end : LoaderEnd Load
  pub taken : AreTaken datagrams end held sunk

-- why a download ends at a byte, the last of these
abbrev pub LoadStopsAt : PacketsFault → (came : List ℕ) → (held sunk : Sinks) → Type 0
LoadStopsAt TooLong came held sunk = StopsLong came held sunk
LoadStopsAt fault came held sunk = StopsTaking fault came held sunk

-- what a byte leaves of a download
abbrev pub Loading : Result (Unit {0}) PacketsFault → (came part : List ℕ) → LoaderEnd Load → (held sunk : Sinks)
    → Type 0
Loading (Ok done) came part end held sunk = IsLoading came part end held sunk
Loading (Err fault) came part end held sunk = LoadStopsAt fault came held sunk

-- what some bytes leave of a download
abbrev pub LoadingAll : Result (Unit {0}) PacketsFault → (came bytes part : List ℕ) → LoaderEnd Load
    → (held sunk : Sinks) → Type 0
LoadingAll (Ok done) came bytes part end held sunk = IsLoading (came ++ bytes) part end held sunk
LoadingAll (Err fault) came bytes part end held sunk = (n : ℕ) × LoadStopsAt fault (take n (came ++ bytes)) held sunk

-- all that came was taken
pub record AllTaken (came : List ℕ) (held sunk : Sinks) : Type 0 where
  pub part : List ℕ
  pub end : LoaderEnd Load
  pub loading : IsLoading came part end held sunk

-- what went to the link when so much had come
pub record LinkInTime (came : List ℕ) (held sunk : Option (List ℕ)) : Type 0 where
  pub file_held : Option (List ℕ)
  pub file_sunk : Option (List ℕ)
  pub all : AllTaken came (record { link = held; file = file_held }) (record { link = sunk; file = file_sunk })

-- before the first datagram: a front of the first request went out
pub record IsUnbegun (held sunk : Sinks) : Type 0 where
  pub first : LoaderEnd Load
  pub number : first.number ≡ 1
  pub begins : first.side.loading ≡ begun
  pub linked : AppendsFront held.link sunk.link (stream_of_packets (sent_by first))
  pub filed : sunk.file ≡ held.file

-- HOW A DOWNLOAD BY PACKETS ENDS. It is finished; or the source failed or ended, and all that came was taken; or it
-- ended at a datagram; or before the first one, where the link failed at the first request, or there was no room for
-- messages and nothing went out.
abbrev pub PacketsLoad : Result (Unit {0}) PacketsFault → (came : List ℕ) → (held sunk : Sinks) → Type 0
PacketsLoad (Ok done) came held sunk = (all : AllTaken came held sunk) × (is_over all.end.side ≡ true)
PacketsLoad (Err ReadFault) came held sunk = AllTaken came held sunk
PacketsLoad (Err Ended) came held sunk = AllTaken came held sunk
PacketsLoad (Err TooLong) came held sunk = (AllTaken came held sunk × (MOST_TURNS ≤ length came))
    ⊎ ((n : ℕ) × StopsLong (take n came) held sunk)
PacketsLoad (Err WriteFault) came held sunk = IsUnbegun held sunk
    ⊎ ((n : ℕ) × StopsTaking WriteFault (take n came) held sunk)
PacketsLoad (Err Memory) came held sunk = (sunk ≡ held) ⊎ ((n : ℕ) × StopsTaking Memory (take n came) held sunk)
PacketsLoad (Err fault) came held sunk = (n : ℕ) × StopsTaking fault (take n came) held sunk

-- THE BYTES THAT CAME from the source, and how the download ended at them
pub record ArePacketsLoaded (r : Result (Unit {0}) PacketsFault) (left unread : Option (List ℕ))
    (held sunk : Sinks) : Type 0 where
  pub came : List ℕ
  pub consumed : Consumes left unread came
  pub sends : PacketsLoad r came held sunk
  -- where it is told that the source ended, nothing of it is left
  pub ended : r ≡ Err Ended → IsAtEnd unread

-- the source, the link or the file failed; the other faults have their causes elsewhere
abbrev pub IsCaused : PacketsFault → (read wrote filed : Type 0) → Type 0
IsCaused ReadFault read wrote filed = read
IsCaused WriteFault read wrote filed = wrote
IsCaused FileFault read wrote filed = filed
IsCaused fault read wrote filed = Unit {0}
