-- Packets in a stream (profile): each behind its length in two bytes, the highest first.
use Rattle.std.specs.Prelude.{◌≡◌, ⊤, ℕ, ◌+◌, ◌*◌, ◌/◌, ◌%◌, ◌<◌, ◌≤◌, ◌==◌, Bool, false, List, [], ◌∷◌, ◌++◌, map, length}
use Rattle.std.specs.List.{AllByRecursion}
use Rattle.card_layout.specs.Fields.{joined}
use Rattle.card_service.specs.declared.packets.TheConstants.{LONGEST}

-- a packet behind its length
abbrev pub packet : List ℕ → List ℕ
packet bytes = length bytes / 256 ∷ length bytes % 256 ∷ bytes

-- packets one after the other
abbrev pub stream_of : List (List ℕ) → List ℕ
stream_of packets = joined (map packet packets)

-- what has come of the next packet: nothing, half of its length, or fewer bytes than that says
abbrev pub IsPart : List ℕ → Type 0
IsPart [] = ⊤
IsPart (high ∷ []) = high < 256
IsPart (high ∷ low ∷ bytes) = (high < 256) × (low < 256) × (length bytes < 256 * high + low)

-- THE PACKETS OF A STREAM: these, and behind them a part of the next one.
pub record ArePackets (came : List ℕ) (packets : List (List ℕ)) (part : List ℕ) : Type 0 where
  pub spelled : came ≡ stream_of packets ++ part
  pub short : AllByRecursion (λ p. length p ≤ LONGEST) packets
  pub is_part : IsPart part

-- whether bytes are a whole packet, of which all but the last were a part: the first two tell the length
abbrev pub is_whole : List ℕ → Bool
is_whole [] = false
is_whole (high ∷ []) = false
is_whole (high ∷ low ∷ bytes) = length bytes == 256 * high + low
