-- A text has as many lines as bytes at most, and so a trace few items.
use Rattle.std.proofs.Common.{◌≡◌, ℕ, ◌+◌, ◌<◌, ◌≤◌, ◌^◌, List, [], ◌∷◌, length, refl, arith}
use Rattle.std.specs.Prelude.{◌==◌}
use Rattle.std.proofs.lemmas.List.{length-map}
use Rattle.activity_codec.proofs.ByTest.{by_test}
use Rattle.text_fields.proofs.PieceLemmas.{pieces-some}
use Rattle.text_fields.specs.Pieces.{pieces, onto_first}
use Rattle.trace_model.specs.declared.Item.{Item}
use Rattle.trace_text.specs.declared.lines_trace.Form.{Form}
use Rattle.trace_text.specs.Text.{counts, closed, text_lines, numbered, counted}
use Rattle.trace_text.specs.Trace.{IsTraceOf, line_of}
use Rattle.trace_text.proofs.PutIn.{ended-few}

onto-length : (b : ℕ) (ps : List (List ℕ)) → (ps ≡ [] → ⊥) → length (onto_first b ps) ≡ length ps
onto-length b [] some = absurd (some refl)
onto-length b (p ∷ ps) some = refl

pieces-few : (text : List ℕ) → length (pieces 10 text) ≤ length text + 1
pieces-few [] = omega arith
pieces-few (b ∷ text) =
    by_test (b == 10)
    (λ here. rw here (omega (arith, pieces-few text)))
    (λ not_here. rw not_here (omega (arith, onto-length b (pieces 10 text) (pieces-some 10 text), pieces-few text)))

closed-few : (ps : List (List ℕ)) → length (closed ps) ≤ length ps
closed-few [] = omega arith
closed-few ([] ∷ []) = omega arith
closed-few ([] ∷ (p ∷ ps)) = omega (arith, closed-few (p ∷ ps))
closed-few ((b ∷ p) ∷ ps) = omega (arith, closed-few ps)

numbered-few : (n : ℕ) (lines : List (List ℕ)) → length (numbered n lines) ≤ length lines
numbered-few n [] = omega arith
numbered-few n (line ∷ lines) =
    by_test (counts line)
    (λ counts_it. rw counts_it (omega (arith, numbered-few (n + 1) lines)))
    (λ skips_it. rw skips_it (omega (arith, numbered-few (n + 1) lines)))

-- the items of a trace of so many bytes
pub trace-items-few : (form : Form) (text : List ℕ) (start : ℕ) (items : List Item) → length text ≤ 16777216 → IsTraceOf form (text_lines text) start items → length items < 2 ^ 26
trace-items-few form text start items few is =
    let lines : length (counted (text_lines text)) ≤ length text + 1 = omega (arith, numbered-few 1 (text_lines text), closed-few (pieces 10 text), pieces-few text) in
    let written : length (counted (text_lines text)) ≡ 1 + length is.written = rw is.spells.text (omega (arith, length-map is.written line_of)) in
    rw is.items_are (omega (arith, lines, written, few, ended-few is.written))
