-- What happens on a link that loses, repeats and delays.
use Rattle.std.specs.Prelude.{◌≡◌, ◌⊎◌, ℕ, zero, suc, ◌+◌, ◌==◌, if◌then◌else◌, List, [], ◌∷◌, ◌++◌, length, Option}
use Rattle.std.specs.Prelude.{Some, None, option_to_list, slice_get}
use Rattle.noisy_model.specs.declared.packet.Packet.{Packet}
use Rattle.noisy_model.specs.declared.event.Event.{Event}
use Rattle.noisy_model.specs.declared.event.Event.TheVariants.{Send, ToUnit, ToLoader}
use Rattle.noisy_model.specs.Ends.{Sides, UnitEnd, LoaderEnd, Taken, Hears, TakesBy, request_of, brought}

-- the packets that were sent, the answers that were given, and both ends
pub record World (U L : Type 0) : Type 0 where
  pub sent : List Packet
  pub answers : List Packet
  pub unit : UnitEnd U
  pub loader : LoaderEnd L

-- nothing was sent
abbrev pub fresh_world : {U L : Type 0} → U → L → World U L
fresh_world u l = record {
  sent = [];
  answers = [];
  unit = record { last = 0; kept = None; side = u };
  loader = record { number = 1; side = l };
}

-- a packet comes to the end that answers, if there is one of that place
abbrev pub ComesToUnit : {U L : Type 0} → Sides U L → World U L → Option Packet → World U L → Type 0
ComesToUnit sides old None new = new ≡ old
ComesToUnit sides old (Some p) new =
    (answer : Option Packet) × Hears sides.Answers old.unit p new.unit answer × (new.sent ≡ old.sent)
    × (new.answers ≡ old.answers ++ option_to_list answer) × (new.loader ≡ old.loader)

-- an answer comes to the end that asks
abbrev pub ComesToLoader : {U L : Type 0} → Sides U L → World U L → Option Packet → World U L → List Taken → Type 0
ComesToLoader sides old None new took = (new ≡ old) × (took ≡ [])
ComesToLoader sides old (Some p) new took =
    TakesBy sides.Takes old.loader (brought sides.asks old.loader p) new.loader took × (new.sent ≡ old.sent)
    × (new.answers ≡ old.answers) × (new.unit ≡ old.unit)

-- WHAT AN EVENT DOES, and which answers were taken in it: one, or none.
abbrev pub Happens : {U L : Type 0} → Sides U L → World U L → Event → World U L → List Taken → Type 0
Happens sides old Send new took =
    (new.sent ≡ old.sent ++ option_to_list (request_of sides.asks old.loader)) × (new.answers ≡ old.answers)
    × (new.unit ≡ old.unit) × (new.loader ≡ old.loader) × (took ≡ [])
Happens sides old (ToUnit place) new took = ComesToUnit sides old (slice_get old.sent place) new × (took ≡ [])
Happens sides old (ToLoader place) new took = ComesToLoader sides old (slice_get old.answers place) new took

-- events one after the other
abbrev pub Passes : {U L : Type 0} → Sides U L → World U L → List Event → World U L → List Taken → Type 0
Passes sides old [] new took = (new ≡ old) × (took ≡ [])
Passes {U = U} {L = L} sides old (event ∷ events) new took =
    (mid : World U L) × (first : List Taken) × (rest : List Taken) × Happens sides old event mid first
    × Passes sides mid events new rest × (took ≡ first ++ rest)

-- A link that keeps what is sent: the one side asks, the other answers, and the answer is taken; and so on.
abbrev pub Talks : {U L : Type 0} → Sides U L → (u : U) → (l : L) → List Taken → U → L → Type 0
Talks sides u l [] v m = (v ≡ u) × (m ≡ l)
Talks {U = U} {L = L} sides u l (t ∷ took) v m =
    (request : List ℕ) × (next : U) × (after : L) × (sides.asks l ≡ Some request)
    × sides.Answers u request (Some t.frame) next × sides.Takes l t.frame after t.put
    × Talks sides next after took v m

-- the end that answers stands where the talk does, and waits for the request of this number
pub record Waits {U : Type 0} (u : U) (number : ℕ) (e : UnitEnd U) : Type 0 where
  pub side : e.side ≡ u
  pub last : e.last + 1 ≡ number

-- or it has answered that request, and keeps the answer
pub record HasAnswered {U L : Type 0} (sides : Sides U L) (u : U) (l : L) (number : ℕ) (e : UnitEnd U) : Type 0 where
  pub request : List ℕ
  pub asked : sides.asks l ≡ Some request
  pub answered : sides.Answers u request e.kept e.side
  pub last : e.last ≡ number

-- WHERE A NOISY LINK LEADS: the answers that were taken are those of a talk over a link that keeps all, and the
-- loader's side stands where it does; the unit's side stands there too, or one answer further.
pub record IsTalk {U L : Type 0} (sides : Sides U L) (u : U) (l : L) (w : World U L) (took : List Taken) : Type 0 where
  pub mid : U
  pub talks : Talks sides u l took mid w.loader.side
  pub number : w.loader.number ≡ length took + 1
  pub unit : Waits mid w.loader.number w.unit ⊎ HasAnswered sides mid w.loader.side w.loader.number w.unit

-- the request of a number: of the first packet that has it
abbrev pub request_numbered : List Packet → ℕ → Option (List ℕ)
request_numbered [] number = None
request_numbered (p ∷ sent) number = if p.number == number then p.frame else request_numbered sent number

-- the requests of the first so many numbers, each once, in their order
abbrev pub distinct_requests : List Packet → (count : ℕ) → List (List ℕ)
distinct_requests sent zero = []
distinct_requests sent (suc n) = distinct_requests sent n ++ option_to_list (request_numbered sent (suc n))

-- the side that answers has answered these requests, one after the other
abbrev pub Answered : {U : Type 0} → (U → List ℕ → Option (List ℕ) → U → Type 0) → (old : U) → List (List ℕ) → (new : U)
    → Type 0
Answered Answers old [] new = new ≡ old
Answered {U = U} Answers old (request ∷ requests) new = (answer : Option (List ℕ)) × (mid : U)
    × Answers old request answer mid × Answered Answers mid requests new
