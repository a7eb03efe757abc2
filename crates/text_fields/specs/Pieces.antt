-- Text in pieces.
use Rattle.std.specs.Prelude.{ℕ, ◌==◌, if◌then◌else◌, Option, None, Some, List, [], ◌∷◌}
use Rattle.std.specs.Borrow.{Bor}

-- pieces with one more byte at the head of the first
abbrev pub onto_first : ℕ → List (List ℕ) → List (List ℕ)
onto_first byte [] = (byte ∷ []) ∷ []
onto_first byte (piece ∷ rest) = (byte ∷ piece) ∷ rest

-- the pieces of a text between the separators
abbrev pub pieces : ℕ → List ℕ → List (List ℕ)
pieces separator [] = [] ∷ []
pieces separator (byte ∷ bytes) =
    if byte == separator then [] ∷ pieces separator bytes else onto_first byte (pieces separator bytes)

-- the pieces of what is behind a separator, where there is one
abbrev pub pieces_behind : ℕ → Option (Bor (List ℕ)) → List (List ℕ)
pieces_behind separator None = []
pieces_behind separator (Some rest) = pieces separator rest.now
