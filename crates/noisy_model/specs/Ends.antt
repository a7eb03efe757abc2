-- The two ends of a link that loses, repeats and delays, over any two sides: the one that asks, and the one that
-- answers.
use Rattle.std.specs.Prelude.{◌≡◌, ℕ, ◌+◌, ◌==◌, ◌&&◌, nat_lt, if◌then◌else◌, List, [], ◌∷◌, Option, Some, None}
use Rattle.std.specs.Prelude.{is_some, option_map}
use Rattle.noisy_model.specs.declared.packet.Packet.{Packet}

-- Two sides, by where they stand. The one asks by frames, and takes an answer, which may put bytes out; the other
-- answers a frame, or gives no answer.
pub record Sides (U L : Type 0) : Type 1 where
  pub asks : L → Option (List ℕ)
  pub Answers : (old : U) → (request : List ℕ) → (answer : Option (List ℕ)) → (new : U) → Type 0
  pub Takes : (old : L) → (frame : List ℕ) → (new : L) → (put : List ℕ) → Type 0

-- a packet of this number, with this frame or none
abbrev pub packet : ℕ → Option (List ℕ) → Packet
packet number frame = record { number = number; frame = frame }

-- the end that answers: the number of the last request that it answered, 0 before the first; the answer that is kept;
-- where its side stands
pub record UnitEnd (U : Type 0) : Type 0 where
  pub last : ℕ
  pub kept : Option (List ℕ)
  pub side : U

-- the end that asks: the number of its request, and where its side stands
pub record LoaderEnd (L : Type 0) : Type 0 where
  pub number : ℕ
  pub side : L

-- a packet at the end that answers: a new request, the last one again, or one that is passed over
pub data Arrival : Type 0 where
  New : List ℕ → Arrival
  Again : Arrival
  Passed : Arrival

-- new is the number behind the last one
abbrev pub arrival_by : (last number : ℕ) → Option (List ℕ) → Arrival
arrival_by last number None = Passed
arrival_by last number (Some frame) = if number == last + 1 then New frame else if number == last && nat_lt 0 last
    then Again else Passed

-- A new request is answered by its side, and the answer is kept; the last one again gets the kept answer again.
abbrev pub HearsBy : {U : Type 0} → (U → List ℕ → Option (List ℕ) → U → Type 0) → UnitEnd U → Arrival → UnitEnd U
    → Option Packet → Type 0
HearsBy Answers old (New request) new answer = Answers old.side request new.kept new.side × (new.last ≡ old.last + 1)
    × (answer ≡ Some (packet new.last new.kept))
HearsBy Answers old Again new answer = (new ≡ old) × (answer ≡ Some (packet old.last old.kept))
HearsBy Answers old Passed new answer = (new ≡ old) × (answer ≡ None)

-- what the end that answers does about a packet
abbrev pub Hears : {U : Type 0} → (U → List ℕ → Option (List ℕ) → U → Type 0) → UnitEnd U → Packet → UnitEnd U
    → Option Packet → Type 0
Hears Answers old p new answer = HearsBy Answers old (arrival_by old.last p.number p.frame) new answer

-- the largest number of eight bytes, which no packet has
abbrev pub no_number : ℕ
no_number = 18446744073709551615

-- what the end that asks sends: its side's request with its number, again and again
abbrev pub request_of : {L : Type 0} → (L → Option (List ℕ)) → LoaderEnd L → Option Packet
request_of asks e = if nat_lt e.number no_number then option_map (λ frame. packet e.number (Some frame)) (asks e.side)
    else None

-- the frame that a packet brings it: one with its number, while it asks
abbrev pub brought : {L : Type 0} → (L → Option (List ℕ)) → LoaderEnd L → Packet → Option (List ℕ)
brought asks e p = if is_some (request_of asks e) && p.number == e.number then p.frame else None

-- an answer that was taken, and what it put out
pub record Taken : Type 0 where
  pub frame : List ℕ
  pub put : List ℕ

-- the end that asks takes such a frame, and goes on to the next number
abbrev pub TakesBy : {L : Type 0} → (L → List ℕ → L → List ℕ → Type 0) → LoaderEnd L → Option (List ℕ) → LoaderEnd L
    → List Taken → Type 0
TakesBy Takes old None new took = (new ≡ old) × (took ≡ [])
TakesBy Takes old (Some frame) new took = (put : List ℕ) × Takes old.side frame new.side put
    × (new.number ≡ old.number + 1) × (took ≡ record { frame = frame; put = put } ∷ [])
