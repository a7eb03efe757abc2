-- What a unit's end answers to datagrams, and how its service ends.
use Rattle.std.specs.Prelude.{◌≡◌, ◌⊎◌, ℕ, ◌≤◌, List, [], ◌∷◌, ◌++◌, length, take, map, Option, Some}
use Rattle.std.specs.Prelude.{None, option_to_list, Result, Ok, Err}
use Rattle.std.specs.Io.KnownBytes.{Appends, Consumes}
use Rattle.tach_media.specs.Streams.{AppendsFront}
use Rattle.link_model.specs.Answers.{Idle}
use Rattle.link_session.specs.Told.{SessionView, fresh}
use Rattle.noisy_model.specs.declared.packet.Packet.{Packet}
use Rattle.noisy_model.specs.Ends.{UnitEnd, Hears}
use Rattle.noisy_model.specs.Packets.{packet_bytes, packet_in}
use Rattle.noisy_link.specs.Sides.{IsReply}
use Rattle.noisy_link.specs.Steps.{AsksUnit}
use Rattle.link_session.specs.declared.fault.ServeFault.{ServeFault}
use Rattle.link_session.specs.declared.fault.ServeFault.TheVariants.{ReadFault, WriteFault, Failed, BadUnit, TooLong}
use Rattle.packet_service.specs.declared.serving.TheConstants.{MOST_TURNS}
use Rattle.packet_service.specs.Datagrams.{stream_of, AreDatagrams, IsTooLong}

-- packets as datagrams, one after the other
abbrev pub stream_of_packets : List Packet → List ℕ
stream_of_packets packets = stream_of (map packet_bytes packets)

-- the unit's end before the first packet
abbrev pub fresh_end : UnitEnd SessionView
fresh_end = record { last = 0; kept = None; side = fresh Idle }

-- what the unit's end does about a datagram, and what goes back: one that is no packet is passed over
abbrev pub HearsAny : (image : Option (List ℕ)) → UnitEnd SessionView → Option Packet → UnitEnd SessionView
    → List Packet → Type 0
HearsAny image old None new answers = (new ≡ old) × (answers ≡ [])
HearsAny image old (Some p) new answers = (answer : Option Packet) × Hears (IsReply image) old p new answer
    × (answers ≡ option_to_list answer)

-- THE ANSWERS to datagrams, one after the other
abbrev pub Serves : (image : Option (List ℕ)) → UnitEnd SessionView → (datagrams : List (List ℕ)) → UnitEnd SessionView
    → List Packet → Type 0
Serves image old [] new answers = (new ≡ old) × (answers ≡ [])
Serves image old (d ∷ datagrams) new answers =
    (mid : UnitEnd SessionView) × (first : List Packet) × (rest : List Packet)
    × HearsAny image old (packet_in d) mid first × Serves image mid datagrams new rest × (answers ≡ first ++ rest)

-- these datagrams were answered, and the sink took the answers
pub record AreAnswered (image : Option (List ℕ)) (datagrams : List (List ℕ)) (end : UnitEnd SessionView)
    (held sunk : Option (List ℕ)) : Type 0 where
  pub answers : List Packet
  pub serves : Serves image fresh_end datagrams end answers
  pub sent : Appends held sunk (stream_of_packets answers)

-- A SERVICE AS IT GOES: of the bytes that came all whole datagrams were answered.
pub record IsServing (image : Option (List ℕ)) (came part : List ℕ) (end : UnitEnd SessionView)
    (held sunk : Option (List ℕ)) : Type 0 where
  pub datagrams : List (List ℕ)
  pub cut : AreDatagrams came datagrams part
  pub answered : AreAnswered image datagrams end held sunk

-- the unit failed, or is bad, at a datagram whose answer hangs on it: those before it were answered
pub record StopsAsking (image : Option (List ℕ)) (came : List ℕ) (held sunk : Option (List ℕ)) : Type 0 where
  pub before : List (List ℕ)
  pub asking : List ℕ
  pub spelled : came ≡ stream_of (before ++ asking ∷ [])
  pub end : UnitEnd SessionView
  pub answered : AreAnswered image before end held sunk
  pub asks : AsksUnit end (packet_in asking)

-- the sink failed at the last answer: a front of the answers went out
pub record StopsWriting (image : Option (List ℕ)) (came : List ℕ) (held sunk : Option (List ℕ)) : Type 0 where
  pub datagrams : List (List ℕ)
  pub spelled : came ≡ stream_of datagrams
  pub end : UnitEnd SessionView
  pub answers : List Packet
  pub serves : Serves image fresh_end datagrams end answers
  pub sent : AppendsFront held sunk (stream_of_packets answers)

-- a length of more than 264 came: the datagrams before it were answered
pub record StopsLong (image : Option (List ℕ)) (came : List ℕ) (held sunk : Option (List ℕ)) : Type 0 where
  pub datagrams : List (List ℕ)
  pub part : List ℕ
  pub spelled : came ≡ stream_of datagrams ++ part
  pub long : IsTooLong part
  pub end : UnitEnd SessionView
  pub answered : AreAnswered image datagrams end held sunk

-- why a service ends at a byte, the last of these
abbrev pub StopsAt : ServeFault → (image : Option (List ℕ)) → (came : List ℕ) → (held sunk : Option (List ℕ)) → Type 0
StopsAt ReadFault image came held sunk = ⊥
StopsAt WriteFault image came held sunk = StopsWriting image came held sunk
StopsAt Failed image came held sunk = StopsAsking image came held sunk
StopsAt (BadUnit place) image came held sunk = StopsAsking image came held sunk
StopsAt TooLong image came held sunk = StopsLong image came held sunk

-- what a byte leaves of a service
abbrev pub Serving : Result (Unit {0}) ServeFault → (image : Option (List ℕ)) → (came part : List ℕ)
    → UnitEnd SessionView → (held sunk : Option (List ℕ)) → Type 0
Serving (Ok done) image came part end held sunk = IsServing image came part end held sunk
Serving (Err fault) image came part end held sunk = StopsAt fault image came held sunk

-- and what some bytes leave
abbrev pub ServingAll : Result (Unit {0}) ServeFault → (image : Option (List ℕ)) → (came bytes part : List ℕ)
    → UnitEnd SessionView → (held sunk : Option (List ℕ)) → Type 0
ServingAll (Ok done) image came bytes part end held sunk = IsServing image (came ++ bytes) part end held sunk
ServingAll (Err fault) image came bytes part end held sunk = (n : ℕ)
    × StopsAt fault image (take n (came ++ bytes)) held sunk

-- what the unit's end does about a datagram, and how that ends
abbrev pub IsHeard : Result (Unit {0}) ServeFault → (image : Option (List ℕ)) → UnitEnd SessionView → Option Packet
    → UnitEnd SessionView → (held sunk : Option (List ℕ)) → Type 0
IsHeard (Ok done) image old o new held sunk = (answers : List Packet) × HearsAny image old o new answers
    × Appends held sunk (stream_of_packets answers)
IsHeard (Err WriteFault) image old o new held sunk = (answers : List Packet) × HearsAny image old o new answers
    × AppendsFront held sunk (stream_of_packets answers)
IsHeard (Err Failed) image old o new held sunk = AsksUnit old o × (sunk ≡ held)
IsHeard (Err (BadUnit place)) image old o new held sunk = AsksUnit old o × (sunk ≡ held)
IsHeard (Err ReadFault) image old o new held sunk = ⊥
IsHeard (Err TooLong) image old o new held sunk = ⊥

-- all that came was answered
pub record AllAnswered (image : Option (List ℕ)) (came : List ℕ) (held sunk : Option (List ℕ)) : Type 0 where
  pub part : List ℕ
  pub end : UnitEnd SessionView
  pub serving : IsServing image came part end held sunk

-- HOW A SERVICE OF PACKETS ENDS. The source ended or failed, or so many reads were made: all that came was answered; or
-- it ended at a byte.
abbrev pub PacketsSend : Result (Unit {0}) ServeFault → (image : Option (List ℕ)) → (came : List ℕ)
    → (held sunk : Option (List ℕ)) → Type 0
PacketsSend (Ok done) image came held sunk = AllAnswered image came held sunk
PacketsSend (Err ReadFault) image came held sunk = AllAnswered image came held sunk
PacketsSend (Err TooLong) image came held sunk = (AllAnswered image came held sunk × (MOST_TURNS ≤ length came))
    ⊎ ((n : ℕ) × StopsLong image (take n came) held sunk)
PacketsSend (Err fault) image came held sunk = (n : ℕ) × StopsAt fault image (take n came) held sunk

-- THE BYTES THAT CAME from the source, and what the sink took for them
pub record ArePacketsServed (r : Result (Unit {0}) ServeFault) (image left unread held sunk : Option (List ℕ)) : Type
    0 where
  pub came : List ℕ
  pub consumed : Consumes left unread came
  pub sends : PacketsSend r image came held sunk
