-- What a call on a source or a sink does, and when it may fail.
use Rattle.std.specs.Prelude.{◌≡◌, ℕ, ◌<◌, ◌≤◌, List, length, take, ⊤, Result, OnErr, MatchResult}
use Rattle.std.specs.declared.option.Option.{Option}
use Rattle.std.specs.declared.option.Option.TheVariants.{None, Some}
use Rattle.std.specs.Io.KnownBytes.{Appends, Consumes, Keeps}
use Rattle.tach_media.specs.Medium.{Rose}

-- the count of faults has not fallen, and an error comes only where it rose or stands at its last value
pub record CountsFaults {T E : Type 0} (before now : ℕ) (result : Result T E) : Type 0 where
  pub later : before ≤ now
  pub failed : OnErr result (Rose before now)

-- a write took a front of the piece, which is not empty unless the piece is, or nothing at an error
abbrev pub Takes : {E : Type 0} → Option (List ℕ) → Option (List ℕ) → Result ℕ E → List ℕ → Type 0
Takes old new result piece =
    MatchResult result (λ n. Appends old new (take n piece) × (n ≡ 0 → length piece ≡ 0)) (λ _. Keeps old new)

-- more than `most` bytes are left, where it is known what is left
abbrev pub IsLongerThan : ℕ → Option (List ℕ) → Type 0
IsLongerThan most None = ⊤
IsLongerThan most (Some bytes) = most < length bytes

-- a front of these bytes was appended
abbrev pub AppendsFront : Option (List ℕ) → Option (List ℕ) → List ℕ → Type 0
AppendsFront old new bytes = (n : ℕ) × Appends old new (take n bytes)

-- so many bytes came from a source
abbrev pub Came : Option (List ℕ) → Option (List ℕ) → (ℕ → Type 0) → Type 0
Came old new Many = (came : List ℕ) × Consumes old new came × Many (length came)
