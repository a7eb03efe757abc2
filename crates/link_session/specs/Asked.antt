-- What a loader has seen: what the sink held when each of its pieces was asked for.
use Rattle.std.specs.Prelude.{◌≡◌, ℕ, ⊤, List, [], ◌∷◌, ◌++◌, take, Result, MatchResult}
use Rattle.std.specs.declared.option.Option.{Option}
use Rattle.std.specs.declared.option.Option.TheVariants.{None, Some}
use Rattle.std.specs.Io.KnownBytes.{Consumes}

-- A read: what the sink held when it began, and the bytes that it gave, none where it failed.
pub record Asking : Type 0 where
  pub held : Option (List ℕ)
  pub came : List ℕ

-- the bytes that these reads gave, one after the other
abbrev pub given : List Asking → List ℕ
given [] = []
given (ask ∷ asks) = ask.came ++ given asks

-- these reads are behind those before, where they are told
abbrev pub TellsMore : (before now : Option (List Asking)) → List Asking → Type 0
TellsMore None now asks = ⊤
TellsMore (Some before) None asks = ⊥
TellsMore (Some before) (Some now) asks = now ≡ before ++ asks

-- a read before which the sink stood so
abbrev pub Asks : {E : Type 0} → (before now : Option (List Asking)) → (held : Option (List ℕ)) → Result ℕ E
    → (buf : List ℕ) → Type 0
Asks before now held result buf = MatchResult result
    (λ n. TellsMore before now (record { held = held; came = take n buf } ∷ []))
    (λ _. TellsMore before now (record { held = held; came = [] } ∷ []))

-- BEFORE EACH READ all that had come was answered: `Answered came held sunk` says which answers take the sink from
-- `held` to `sunk`
abbrev pub AreAnsweredBefore : (Answered : List ℕ → (held sunk : Option (List ℕ)) → Type 0) → (came : List ℕ)
    → (held : Option (List ℕ)) → List Asking → Type 0
AreAnsweredBefore Answered came held [] = ⊤
AreAnsweredBefore Answered came held (ask ∷ asks) = Answered came held ask.held
    × AreAnsweredBefore Answered (came ++ ask.came) held asks

-- The reads of a service: they gave what came from the source, and before each of them all that had come was answered.
pub record AnswersInTime (Answered : List ℕ → (held sunk : Option (List ℕ)) → Type 0)
    (left unread held : Option (List ℕ)) (before now : Option (List Asking)) : Type 0 where
  pub asks : List Asking
  pub told : TellsMore before now asks
  pub consumed : Consumes left unread (given asks)
  pub in_time : AreAnsweredBefore Answered [] held asks
