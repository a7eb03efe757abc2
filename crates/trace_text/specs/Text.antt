-- Text in lines, and lines in fields.
use Rattle.std.specs.Prelude.{ℕ, ◌+◌, ◌==◌, Bool, false, not, if◌then◌else◌, List, [], ◌∷◌}
use Rattle.text_fields.specs.Pieces.{pieces}

-- without an empty last piece
abbrev pub closed : List (List ℕ) → List (List ℕ)
closed [] = []
closed ([] ∷ []) = []
closed (piece ∷ pieces) = piece ∷ closed pieces

-- the lines of a text: each ends in LF, which may be missing behind the last one
abbrev pub text_lines : List ℕ → List (List ℕ)
text_lines text = closed (pieces 10 text)

-- empty lines and lines that begin with `#` are passed over
abbrev pub counts : List ℕ → Bool
counts [] = false
counts (byte ∷ bytes) = not (byte == 35)

-- the fields of a line: one space is between two
abbrev pub fields : List ℕ → List (List ℕ)
fields line = pieces 32 line

-- the lines that count, each with its number and its fields, where the first of all lines has this number
abbrev pub numbered : ℕ → List (List ℕ) → List (ℕ × List (List ℕ))
numbered n [] = []
numbered n (line ∷ lines) = if counts line then (n, fields line) ∷ numbered (n + 1) lines else numbered (n + 1) lines

-- lines are numbered from 1
abbrev pub counted : List (List ℕ) → List (ℕ × List (List ℕ))
counted lines = numbered 1 lines
