-- A `run` line: its fields, and the text that it begins.
use Rattle.std.proofs.Common.{◌≡◌, ◌∙◌, ℕ, suc, ◌+◌, ◌-◌, ◌<◌, ◌≤◌, ◌^◌, true, false, List, [], ◌∷◌, ◌++◌, length, take, drop, get_or, refl, ap, sym, arith, append_assoc, length-append}
use Rattle.std.specs.Prelude.{◌==◌, IsTrue, codes}
use Rattle.std.specs.Fmt.{decimal}
use Rattle.std.specs.Str.Parse.{AllDigits, digits_value}
use Rattle.std.proofs.lemmas.Bool.{ne_eqb}
use Rattle.std.proofs.lemmas.List.{drop_more, take-append-drop, take_rest}
use Rattle.std.proofs.lemmas.List.Folds.{list_any-append}
use Rattle.text_fields.specs.Pieces.{pieces}
use Rattle.text_fields.proofs.PieceLemmas.{has, pieces-found, pieces-none}
use Rattle.text_fields.proofs.NumberLemmas.{spelled, spells, other_byte}
use Rattle.trace_model.specs.declared.Item.TheVariants.{Run}
use Rattle.trace_text.specs.declared.lines_trace.Form.{Form}
use Rattle.trace_text.specs.declared.lines_trace.Form.TheVariants.{Minutes, Whole}
use Rattle.trace_text.specs.Line.{item_fields, knows, InRange, IsItem}
use Rattle.trace_text.specs.RunLines.{run_line}
use Rattle.trace_text.specs.Text.{counts, fields, text_lines}
use Rattle.trace_text.proofs.Texts.{lines_of-next}

-- ---- no separator is among digits

none-low : (separator : ℕ) (bytes : List ℕ) → separator < 48 → ((i : ℕ) → i < length bytes → 48 ≤ get_or bytes i 0) → has separator bytes ≡ false
none-low separator [] low high = refl
none-low separator (b ∷ bytes) low high =
    let first : 48 ≤ b = high 0 (omega arith) in
    let other : (b == separator) ≡ false = ne_eqb b separator (λ same. omega (arith, low, first, same)) in
    rw (other, none-low separator bytes low (λ i less. high (suc i) (omega (arith, less)))) refl

none-in : (separator n : ℕ) → separator < 48 → n < 2 ^ 32 → has separator (decimal n) ≡ false
none-in separator n low small =
    none-low separator (decimal n) low (λ i less. (other_byte (decimal n) i (spelled n (decimal n) small refl).0 less).0)

-- ---- the line

module _ (seconds speed : ℕ) (range : InRange (Run seconds speed)) where
  small_seconds : seconds < 2 ^ 32
  small_seconds = let most = range.1 in omega (arith, most)

  small_speed : speed < 2 ^ 32
  small_speed = let most = range.2 in omega (arith, most)

  run-fields : fields (run_line seconds speed) ≡ item_fields (Run seconds speed)
  run-fields =
      pieces-found 32 (codes "run") (decimal seconds ++ 32 ∷ decimal speed) refl
      ∙ ap (λ (behind : List (List ℕ)). codes "run" ∷ behind)
      (pieces-found 32 (decimal seconds) (decimal speed) (none-in 32 seconds (omega arith) small_seconds)
      ∙ ap (λ (behind : List (List ℕ)). decimal seconds ∷ behind) (pieces-none 32 (decimal speed) (none-in 32 speed (omega arith) small_speed)))

  known : (form : Form) → IsTrue (knows form (Run seconds speed))
  known Minutes = refl
  known Whole = refl

  pub run-item : (form : Form) → IsItem form (fields (run_line seconds speed)) (Run seconds speed)
  run-item form = (run-fields, (known form, range))

  pub run-counts : counts (run_line seconds speed) ≡ true
  run-counts = refl

  -- no LF is in it
  whole : has 10 (run_line seconds speed) ≡ false
  whole =
      list_any-append (λ (b : ℕ). b == 10) (decimal seconds) (32 ∷ decimal speed)
      ∙ rw (none-in 10 seconds (omega arith) small_seconds, none-in 10 speed (omega arith) small_speed) refl

  -- ---- a text that begins with it

  module _ (text digits behind rest : List ℕ) (word : text ≡ codes "run " ++ digits) (first : digits ≡ decimal seconds ++ 32 ∷ behind) (second : behind ≡ decimal speed ++ 10 ∷ rest) where
    begins : text ≡ run_line seconds speed ++ 10 ∷ rest
    begins =
        word ∙ ap (λ (d : List ℕ). codes "run " ++ d) (first ∙ ap (λ (b : List ℕ). decimal seconds ++ 32 ∷ b) second)
        ∙ ap (λ (d : List ℕ). codes "run " ++ d) (sym (append_assoc (decimal seconds) (32 ∷ decimal speed) (10 ∷ rest)))

    pub run-lines : text_lines text ≡ run_line seconds speed ∷ text_lines rest
    run-lines = lines_of-next text (run_line seconds speed) rest (ap (pieces 10) begins ∙ pieces-found 10 (run_line seconds speed) rest whole)

    pub run-shorter : length rest < length text
    run-shorter = let long = ap (λ (t : List ℕ). length t) begins in omega (arith, long, length-append (run_line seconds speed) (10 ∷ rest))

-- ---- the number at the head of a text

pub number-split : (text : List ℕ) (i value separator : ℕ) → i < length text → AllDigits 10 (take i text) → digits_value 10 (take i text) ≡ value → value < 2 ^ 32 → 0 < length (take i text) → (get_or (take i text) 0 0 ≡ 48 → length (take i text) ≡ 1) → get_or text i 0 ≡ separator
    → text ≡ decimal value ++ separator ∷ take (length text - (i + 1)) (drop (i + 1) text)
number-split text i value separator inside all is small some first here =
    let digits : take i text ≡ decimal value = spells (take i text) value all is small some first in
    let split : text ≡ take i text ++ separator ∷ drop (i + 1) text = sym (take-append-drop i text) ∙ rw (drop_more text i 0 inside, here) refl in
    split ∙ ap (λ (d : List ℕ). d ++ separator ∷ drop (i + 1) text) digits ∙ rw (take_rest text (i + 1)) refl

-- ---- the word at the head of a text

pub begins-run : (text : List ℕ) → 4 ≤ length text → get_or text 0 0 ≡ 114 → get_or text 1 0 ≡ 117 → get_or text 2 0 ≡ 110 → get_or text 3 0 ≡ 32 → text ≡ codes "run " ++ take (length text - 4) (drop 4 text)
begins-run [] long r u n space = absurd (omega (arith, long))
begins-run (a ∷ []) long r u n space = absurd (omega (arith, long))
begins-run (a ∷ b ∷ []) long r u n space = absurd (omega (arith, long))
begins-run (a ∷ b ∷ c ∷ []) long r u n space = absurd (omega (arith, long))
begins-run (a ∷ b ∷ c ∷ d ∷ rest) long r u n space = rw (take_rest (a ∷ b ∷ c ∷ d ∷ rest) 4, r, u, n, space) refl
