-- The lines of a text, from the first one on.
use Rattle.std.proofs.Common.{◌≡◌, ◌∙◌, ℕ, ◌<◌, List, [], ◌∷◌, length, refl, ap, arith}
use Rattle.std.specs.Prelude.{◌==◌}
use Rattle.activity_codec.proofs.ByTest.{by_test}
use Rattle.text_fields.proofs.PieceLemmas.{pieces-some}
use Rattle.text_fields.specs.Pieces.{pieces, onto_first}
use Rattle.trace_text.specs.Text.{closed, text_lines}

closed-more : (piece : List ℕ) (rest : List (List ℕ)) → (rest ≡ [] → ⊥) → closed (piece ∷ rest) ≡ piece ∷ closed rest
closed-more piece [] some = absurd (some refl)
closed-more [] (p ∷ rest) some = refl
closed-more (b ∷ piece) (p ∷ rest) some = refl

-- a line, and the lines behind its LF
pub lines_of-next : (text line rest : List ℕ) → pieces 10 text ≡ line ∷ pieces 10 rest → text_lines text ≡ line ∷ text_lines rest
lines_of-next text line rest is = ap closed is ∙ closed-more line (pieces 10 rest) (pieces-some 10 rest)

-- a text that is not empty is not one empty piece
not_empty : (text : List ℕ) → 0 < length text → pieces 10 text ≡ [] ∷ [] → ⊥
not_empty [] some h = omega (arith, some)
not_empty (b ∷ text) some h =
    by_test (b == 10)
    (λ here. let e = rw here at h in let f : pieces 10 text ≡ [] = cc in pieces-some 10 text f)
    (λ not_here. onto (pieces 10 text) (rw not_here at h))
  where
    onto : (ps : List (List ℕ)) → onto_first b ps ≡ [] ∷ [] → ⊥
    onto [] e = cc
    onto (p ∷ ps) e = cc

-- the last line, with no LF behind it
pub lines_of-last : (text line : List ℕ) → 0 < length text → pieces 10 text ≡ line ∷ [] → text_lines text ≡ line ∷ []
lines_of-last text [] some is = absurd (not_empty text some is)
lines_of-last text (b ∷ line) some is = ap closed is
