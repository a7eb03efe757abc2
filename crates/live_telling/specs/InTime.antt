-- What is out before more is read: all that is told of the lines that had come whole.
use Rattle.std.specs.Prelude.{ℕ, Option, List, [], ◌∷◌, flat_map}
use Rattle.std.specs.Io.KnownBytes.{Appends}
use Rattle.text_fields.specs.Pieces.{pieces}
use Rattle.live_telling.specs.Telling.{Line}

-- all pieces but the last
abbrev pub but_last : List (List ℕ) → List (List ℕ)
but_last [] = []
but_last (piece ∷ []) = []
but_last (piece ∷ more) = piece ∷ but_last more

-- the lines of a text that LF has ended: what is behind the last LF may be the front of a longer line
abbrev pub whole_lines : List ℕ → List (List ℕ)
whole_lines text = but_last (pieces 10 text)

-- the bytes of lines
abbrev pub text_of : List Line → List ℕ
text_of lines = flat_map (λ l. l.text) lines

-- BEFORE A READ all is out that is told of the lines which had come whole. `Records lines out` says of an outcome that
-- it is all of a run of these lines, and `Tells out lines` that these lines are all that it tells: so nothing of it is
-- held back to a later read.
abbrev pub IsOut : {O : Type 0} → (Records : List (List ℕ) → O → Type 0) → (Tells : O → List Line → Type 0)
    → (came : List ℕ) → (held sunk : Option (List ℕ)) → Type 0
IsOut {O} Records Tells came held sunk =
    (out : O) × (lines : List Line) × Records (whole_lines came) out × Tells out lines
    × Appends held sunk (text_of lines)
