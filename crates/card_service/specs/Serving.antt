-- How a service of a card goes, and how it ends.
use Rattle.std.specs.Prelude.{◌≡◌, ◌⊎◌, ℕ, ◌≤◌, ◌<◌, List, [], ◌∷◌, ◌++◌, length, take, Option, Result, Ok, Err}
use Rattle.std.specs.Io.KnownBytes.{Appends, Consumes}
use Rattle.card_layout.specs.declared.command.CardState.{CardState}
use Rattle.card_layout.specs.Outcomes.{after_reset}
use Rattle.tach_media.specs.Medium.{State, LeavesOnly}
use Rattle.tach_media.specs.Streams.{AppendsFront}
use Rattle.card_service.specs.declared.serving.CardFault.{CardFault}
use Rattle.card_service.specs.declared.serving.CardFault.TheVariants.{ReadFault, WriteFault, Failed, Cut, TooLong}
use Rattle.card_service.specs.declared.serving.Asked.{Asked}
use Rattle.card_service.specs.declared.serving.TheConstants.{MOST_TURNS}
use Rattle.card_service.specs.Packets.{stream_of, ArePackets}
use Rattle.card_service.specs.Answering.{Card, card_told, HearsAs, Serves, FailsAs, IsRevived, asked_by, LeavesAt}

-- these packets were answered, and the sink took the answers
pub record AreAnswered (begun : Card) (packets : List (List ℕ)) (now : Card) (held sunk : Option (List ℕ)) : Type
    0 where
  pub answers : List (List ℕ)
  pub serves : Serves begun packets now answers
  pub sent : Appends held sunk (stream_of answers)

-- A SERVICE AS IT GOES: of the bytes that came all whole packets were answered.
pub record IsServing (begun : Card) (came part : List ℕ) (now : Card) (held sunk : Option (List ℕ)) : Type 0 where
  pub packets : List (List ℕ)
  pub cut : ArePackets came packets part
  pub answered : AreAnswered begun packets now held sunk

-- what the card does about a packet that asks so, and how that ends
abbrev pub IsHeardAs : Asked → Result (Unit {0}) CardFault → Card → (packet : List ℕ) → Card
    → (held sunk : Option (List ℕ)) → Type 0
IsHeardAs asked (Ok done) old p new held sunk = (answers : List (List ℕ)) × HearsAs asked old p new answers
    × Appends held sunk (stream_of answers)
IsHeardAs asked (Err WriteFault) old p new held sunk = (answers : List (List ℕ))
    × (HearsAs asked old p new answers ⊎ FailsAs asked old new answers) × AppendsFront held sunk (stream_of answers)
IsHeardAs asked (Err Failed) old p new held sunk = (answers : List (List ℕ)) × FailsAs asked old new answers
    × Appends held sunk (stream_of answers)
IsHeardAs asked (Err ReadFault) old p new held sunk = ⊥
IsHeardAs asked (Err Cut) old p new held sunk = ⊥
IsHeardAs asked (Err TooLong) old p new held sunk = ⊥

-- what the card does about a packet, and how that ends
abbrev pub IsHeard : Result (Unit {0}) CardFault → Card → (packet : List ℕ) → Card → (held sunk : Option (List ℕ))
    → Type 0
IsHeard r old p new held sunk = IsHeardAs (asked_by p) r old p new held sunk

-- The card or the sink failed at the last packet of these bytes: those before it were answered.
pub record StopsAt (fault : CardFault) (begun : Card) (came : List ℕ) (now : Card) (held sunk : Option (List ℕ)) : Type
    0 where
  pub before : List (List ℕ)
  pub last : List ℕ
  pub spelled : came ≡ stream_of (before ++ last ∷ [])
  pub card : Card
  pub mid : Option (List ℕ)
  pub answered : AreAnswered begun before card held mid
  pub stops : IsHeard (Err fault) card last now mid sunk

-- what a byte leaves of a service
abbrev pub Serving : Result (Unit {0}) CardFault → (begun : Card) → (came part : List ℕ) → (now : Card)
    → (held sunk : Option (List ℕ)) → Type 0
Serving (Ok done) begun came part now held sunk = IsServing begun came part now held sunk
Serving (Err fault) begun came part now held sunk = StopsAt fault begun came now held sunk

-- and what some bytes leave
abbrev pub ServingAll : Result (Unit {0}) CardFault → (begun : Card) → (came bytes part : List ℕ) → (now : Card)
    → (held sunk : Option (List ℕ)) → Type 0
ServingAll (Ok done) begun came bytes part now held sunk = IsServing begun (came ++ bytes) part now held sunk
ServingAll (Err fault) begun came bytes part now held sunk = (n : ℕ)
    × StopsAt fault begun (take n (came ++ bytes)) now held sunk

-- all that came was answered
pub record AllAnswered (begun : Card) (came : List ℕ) (held sunk : Option (List ℕ)) : Type 0 where
  pub part : List ℕ
  pub now : Card
  pub serving : IsServing begun came part now held sunk

-- the card is reset as the service begins; where that fails nothing is read and nothing is sent
pub record IsUnbegun (came : List ℕ) (held sunk : Option (List ℕ)) : Type 0 where
  pub none : came ≡ []
  pub kept : sunk ≡ held

-- HOW A SERVICE ENDS. The source ended between two packets or inside one, or it failed, or so many reads were made: all
-- that came was answered; or it ended at a packet.
abbrev pub Ends : Result (Unit {0}) CardFault → (begun : Card) → (came : List ℕ) → (now : Card)
    → (held sunk : Option (List ℕ)) → Type 0
Ends (Ok done) begun came now held sunk = IsServing begun came [] now held sunk
Ends (Err Cut) begun came now held sunk = (part : List ℕ) × (0 < length part)
    × IsServing begun came part now held sunk
Ends (Err ReadFault) begun came now held sunk = (part : List ℕ) × IsServing begun came part now held sunk
Ends (Err TooLong) begun came now held sunk = (part : List ℕ) × IsServing begun came part now held sunk
    × (MOST_TURNS ≤ length came)
Ends (Err WriteFault) begun came now held sunk = (n : ℕ) × StopsAt WriteFault begun (take n came) now held sunk
Ends (Err Failed) begun came now held sunk = IsUnbegun came held sunk
    ⊎ ((n : ℕ) × StopsAt Failed begun (take n came) now held sunk)

-- AN IMAGE THAT A STOP LEAVES while the packets of these bytes are answered: those before one of them were answered, as
-- the card went by them, and that one is an UPDATE BINARY whose bytes are written in part, or whole.
pub record Leaves (begun : Card) (came c : List ℕ) : Type 0 where
  pub before : List (List ℕ)
  pub stopped : List ℕ
  pub rest : List ℕ
  pub spelled : came ≡ stream_of (before ++ stopped ∷ []) ++ rest
  pub card : Card
  pub answers : List (List ℕ)
  pub serves : Serves begun before card answers
  pub leaves : LeavesAt card stopped c

-- the card with which a service begins: the one behind a reset, at which no write begins
pub record IsBegun (old : State) (before : CardState) (begun : Card) : Type 0 where
  pub image : IsRevived old begun.image
  pub clock : begun.clock ≡ old.clock
  pub state : begun.state ≡ after_reset before

-- THE BYTES THAT CAME from the source, what the sink took for them, and the card behind them. A stop leaves one of the
-- images that it might have left before, or that of an update in part.
pub record IsCardServed (r : Result (Unit {0}) CardFault) (old new : State) (before after : CardState)
    (left unread held sunk : Option (List ℕ)) : Type 0 where
  pub begun : Card
  pub begins : IsBegun old before begun
  pub came : List ℕ
  pub consumed : Consumes left unread came
  pub ends : Ends r begun came (card_told new after) held sunk
  pub moments : LeavesOnly old new (λ x c. Leaves begun came c)

-- BEFORE A READ all packets that had come were answered
pub record CardInTime (old : State) (before : CardState) (came : List ℕ) (held sunk : Option (List ℕ)) : Type 0 where
  pub begun : Card
  pub begins : IsBegun old before begun
  pub all : AllAnswered begun came held sunk

-- the source, the sink or the card failed; the other faults have their causes elsewhere
abbrev pub IsCaused : CardFault → (read wrote failed : Type 0) → Type 0
IsCaused ReadFault read wrote failed = read
IsCaused WriteFault read wrote failed = wrote
IsCaused Failed read wrote failed = failed
IsCaused Cut read wrote failed = Unit {0}
IsCaused TooLong read wrote failed = Unit {0}
