-- A packet as bytes (profile): 4E, its number in eight bytes, the highest first, and the data of its frame, of which
-- there may be none.
use Rattle.std.specs.Prelude.{ℕ, ◌==◌, ◌&&◌, nat_le, Bool, if◌then◌else◌, List, [], ◌∷◌, ◌++◌, length, drop}
use Rattle.std.specs.Prelude.{slice_index, Option, Some, None}
use Rattle.byteorder.specs.Endian.{big_bytes, big_number}
use Rattle.noisy_model.specs.declared.packet.Packet.{Packet}
use Rattle.noisy_model.specs.declared.packet.TheConstants.{PACKET_START, PACKET_HEADER, PACKET_MOST}

-- the data of a frame, where there is one: no frame is without data
abbrev pub data_of : Option (List ℕ) → List ℕ
data_of None = []
data_of (Some frame) = frame

-- the frame of these data: none where there are none
abbrev pub frame_in : List ℕ → Option (List ℕ)
frame_in [] = None
frame_in (byte ∷ bytes) = Some (byte ∷ bytes)

-- a number in eight bytes, the highest first
unfoldable pub number_bytes : ℕ → List ℕ
number_bytes number = big_bytes 8 number

-- the number in the first eight bytes
unfoldable pub number_in : List ℕ → ℕ
number_in bytes = big_number 8 bytes

-- a packet as bytes
abbrev pub packet_bytes : Packet → List ℕ
packet_bytes p = PACKET_START ∷ (number_bytes p.number ++ data_of p.frame)

-- a packet has 9 to 264 bytes, the first of which is 4E
abbrev pub is_packet : List ℕ → Bool
is_packet bytes =
    nat_le PACKET_HEADER (length bytes) && nat_le (length bytes) PACKET_MOST && slice_index bytes 0 == PACKET_START

-- the packet that these bytes are, if they are one
abbrev pub packet_in : List ℕ → Option Packet
packet_in bytes = if is_packet bytes
    then Some (record { number = number_in (drop 1 bytes); frame = frame_in (drop PACKET_HEADER bytes) }) else None
