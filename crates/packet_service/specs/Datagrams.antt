-- Datagrams in a stream (profile): each behind its length in two bytes, the highest first, and of at most 264 bytes, as
-- many as a packet has.
use Rattle.std.specs.Prelude.{◌≡◌, ⊤, ℕ, ◌+◌, ◌*◌, ◌/◌, ◌%◌, ◌<◌, ◌≤◌, ◌==◌, nat_lt, if◌then◌else◌, List, []}
use Rattle.std.specs.Prelude.{◌∷◌, ◌++◌, map, length}
use Rattle.std.specs.List.{AllByRecursion}
use Rattle.card_layout.specs.Fields.{joined}
use Rattle.packet_service.specs.declared.datagrams.Gathered.{Gathered}
use Rattle.packet_service.specs.declared.datagrams.Gathered.TheVariants.{More, Whole, TooLong}
use Rattle.packet_service.specs.declared.datagrams.TheConstants.{LONGEST}

-- a datagram behind its length
abbrev pub datagram : List ℕ → List ℕ
datagram bytes = length bytes / 256 ∷ length bytes % 256 ∷ bytes

-- datagrams one after the other
abbrev pub stream_of : List (List ℕ) → List ℕ
stream_of datagrams = joined (map datagram datagrams)

-- what has come of the next datagram: nothing, half of its length, or fewer bytes than that says
abbrev pub IsPart : List ℕ → Type 0
IsPart [] = ⊤
IsPart (high ∷ []) = high < 256
IsPart (high ∷ low ∷ bytes) = (high < 256) × (low < 256) × (256 * high + low ≤ LONGEST)
    × (length bytes < 256 * high + low)

-- THE DATAGRAMS OF A STREAM: these, and behind them a part of the next one.
pub record AreDatagrams (came : List ℕ) (datagrams : List (List ℕ)) (part : List ℕ) : Type 0 where
  pub spelled : came ≡ stream_of datagrams ++ part
  pub short : AllByRecursion (λ d. length d ≤ LONGEST) datagrams
  pub is_part : IsPart part

-- a length of more than 264
pub record IsTooLong (part : List ℕ) : Type 0 where
  pub high : ℕ
  pub low : ℕ
  pub is : part ≡ high ∷ low ∷ []
  pub long : LONGEST < 256 * high + low

-- what bytes are, of which all but the last were a part
abbrev pub gathered_by : (size count : ℕ) → Gathered
gathered_by size count = if nat_lt LONGEST size then TooLong else if count == size then Whole else More

-- the same, by the bytes themselves: the first two tell the length
abbrev pub gathered : List ℕ → Gathered
gathered [] = More
gathered (high ∷ []) = More
gathered (high ∷ low ∷ bytes) = gathered_by (256 * high + low) (length bytes)
