-- What is wrong with a text, and in which line: what a text is judged to be, it is by one line only.
use Rattle.std.specs.Prelude.{◌≡◌, ℕ, ◌+◌, ◌^◌, ◌<◌, ◌≤◌, ◌⊎◌, List, [], ◌∷◌, ◌++◌, length, Option, Some, Result, Err}
use Rattle.std.specs.Prelude.{IsErrOf, IsErrAnd, MatchResult}
use Rattle.std.specs.List.{AllByRecursion}
use Rattle.tach_media.specs.Medium.{Rose}
use Rattle.trace_model.specs.declared.Item.{Item}
use Rattle.trace_model.specs.Trace.{item_seconds}
use Rattle.trace_text.specs.declared.lines_trace.Form.{Form}
use Rattle.trace_text.specs.declared.lines_trace.Trace.{Trace}
use Rattle.trace_text.specs.declared.lines_trace.TraceFault.{TraceFault}
use Rattle.trace_text.specs.declared.lines_trace.TraceFault.TheVariants.{ReadFault, BadLine, TooLong, Memory}
use Rattle.trace_text.specs.Text.{text_lines, counted}
use Rattle.trace_text.specs.Line.{IsKnown}
use Rattle.trace_text.specs.Trace.{Spells, IsTraceOf, IsWellFormed, IsWithinLimits, InGrammar, BeginsWell}
use Rattle.trace_text.specs.Trace.{opened, ended}

-- Line n is the first outside the grammar, and no limit is passed before it: the lines before it begin a trace, and
-- with it they do not. Where no line counts, it is the one after the last.
pub data IsFirstBad (form : Form) (lines : List (List ℕ)) (n : ℕ) : Type 0 where
  bad_line : (before : List (ℕ × List (List ℕ))) (fields : List (List ℕ)) (after : List (ℕ × List (List ℕ)))
      → counted lines ≡ before ++ (n, fields) ∷ after → BeginsWell form before
      → (InGrammar form (before ++ (n, fields) ∷ []) → ⊥)
      → IsFirstBad form lines n
  no_start : counted lines ≡ [] → n ≡ length lines + 1 → IsFirstBad form lines n

-- behind so many seconds, a limit is first passed at an item that counts to line n
abbrev pub IsPassedAt : ℕ → ℕ → List (ℕ × Item) → ℕ → Type 0
IsPassedAt start total [] n = ⊥
IsPassedAt start total ((line, item) ∷ items) n =
    ((line ≡ n) × (IsWithinLimits start (total + item_seconds item) → ⊥))
    ⊎ (IsWithinLimits start (total + item_seconds item) × IsPassedAt start (total + item_seconds item) items n)

-- the items of written lines, where these lines stand behind them
abbrev pub items_before : List (ℕ × List (List ℕ)) → List (ℕ × Item) → List (ℕ × Item)
items_before [] written = ended written
items_before (line ∷ lines) written = opened written

-- line n is the one at which the items of some first lines, all in the grammar, first pass a limit
pub record IsFirstTooLong (form : Form) (lines : List (List ℕ)) (n : ℕ) : Type 0 where
  pub front : List (ℕ × List (List ℕ))
  pub behind : List (ℕ × List (List ℕ))
  pub split : counted lines ≡ front ++ behind
  pub start : ℕ
  pub written : List (ℕ × Item)
  pub spells : Spells form front start written
  pub passed : IsPassedAt start 0 (items_before behind written) n

-- at most so many bytes are read of a source
abbrev pub most_bytes : ℕ
most_bytes = 16777216

-- a text is that of a trace
unfoldable pub IsTraceText : Form → List ℕ → ℕ → List Item → Type 0
IsTraceText form text start items = (length text ≤ most_bytes) × IsTraceOf form (text_lines text) start items

-- a text has its first bad line at n
unfoldable pub IsBadText : Form → List ℕ → ℕ → Type 0
IsBadText form text n = (length text ≤ most_bytes) × IsFirstBad form (text_lines text) n

-- a text is too long: in bytes, which is line 0, or at line n
unfoldable pub IsLongText : Form → List ℕ → ℕ → Type 0
IsLongText form text n =
    ((most_bytes < length text) × (n ≡ 0)) ⊎ ((length text ≤ most_bytes) × IsFirstTooLong form (text_lines text) n)

-- the source failed, or memory ran out
abbrev pub IsFailure : TraceFault → Type 0
IsFailure ReadFault = Unit {0}
IsFailure Memory = Unit {0}
IsFailure (BadLine n) = ⊥
IsFailure (TooLong n) = ⊥

-- ---- how a trace is read

-- A TRACE IS READ in this form: it is the one of the text that the source told; and whether or not that tells its
-- content, it is well formed, each of its items is one of the form's, and they are few
pub record TraceIsRead (form : Form) (left : Option (List ℕ)) (t : Trace) : Type 0 where
  pub trace : (text : List ℕ) → left ≡ Some text → IsTraceText form text t.start t.items
  pub well_formed : IsWellFormed t.start t.items
  pub known : AllByRecursion (IsKnown form) t.items
  pub few : length t.items < 2 ^ 26

-- EACH REFUSAL HAS ITS CAUSE: the line that is told is the first bad one, or the one at which a limit is passed; the
-- source has failed once more
pub record TraceIsRefused (form : Form) (left : Option (List ℕ)) (before after : ℕ)
    (result : Result Trace TraceFault) : Type 0 where
  pub bad_line : (text : List ℕ) (n : ℕ) → left ≡ Some text → result ≡ Err (BadLine n) → IsBadText form text n
  pub too_long : (text : List ℕ) (n : ℕ) → left ≡ Some text → result ≡ Err (TooLong n) → IsLongText form text n
  pub read_fault : IsErrOf result ReadFault → Rose before after

-- AND EACH CAUSE ITS REFUSAL, unless the source fails or memory runs out: of a text that is a trace's that trace is
-- read, and of one that is bad or too long the line is told
pub record TraceIsJudged (form : Form) (left : Option (List ℕ)) (result : Result Trace TraceFault) : Type 0 where
  pub reads : (text : List ℕ) (start : ℕ) (items : List Item) → left ≡ Some text → IsTraceText form text start items
      → MatchResult result (λ t. (t.start ≡ start) × (t.items ≡ items)) IsFailure
  pub finds_bad_line : (text : List ℕ) (n : ℕ) → left ≡ Some text → IsBadText form text n
      → IsErrAnd result (λ fault. (fault ≡ BadLine n) ⊎ IsFailure fault)
  pub finds_too_long : (text : List ℕ) (n : ℕ) → left ≡ Some text → IsLongText form text n
      → IsErrAnd result (λ fault. (fault ≡ TooLong n) ⊎ IsFailure fault)
