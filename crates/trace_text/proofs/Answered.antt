-- What is answered over a text follows from what the text is judged to be.
use Rattle.std.proofs.Common.{◌≡◌, ℕ, ◌<◌, ◌≤◌, ◌^◌, List, length, refl, sym, ap, subst, arith, inl, inr, Ok, Err, Some, Option}
use Rattle.std.specs.Prelude.{Result, MatchResult, IfOk, IsErrAnd, ◌⊎◌, IfSome}
use Rattle.std.specs.Io.KnownBytes.{Consumes, IsAtEnd}
use Rattle.std.proofs.KnownBytes.{Consumes-whole}
use Rattle.trace_text.specs.declared.lines_trace.Form.{Form}
use Rattle.trace_model.specs.declared.Item.{Item}
use Rattle.trace_text.specs.declared.lines_trace.Trace.{Trace}
use Rattle.trace_text.specs.declared.lines_trace.TraceFault.{TraceFault}
use Rattle.trace_text.specs.declared.lines_trace.TraceFault.TheVariants.{ReadFault, BadLine, TooLong, Memory}
use Rattle.trace_text.specs.Text.{text_lines}
use Rattle.trace_text.specs.Trace.{IsTraceOf, IsWellFormed, HasRuns}
use Rattle.trace_text.specs.Judged.{IsTraceText, IsBadText, IsLongText, IsFailure, TraceIsRead}
use Rattle.trace_text.specs.Reading.{IsFaultOf}
use Rattle.std.specs.List.{AllByRecursion}
use Rattle.trace_text.specs.Line.{IsKnown}
use Rattle.trace_text.proofs.PutIn.{ended-runs, ended-known, known-ranges}
use Rattle.trace_text.proofs.Few.{trace-items-few}
use Rattle.trace_text.proofs.Once.{no_bad_line, no_too_long, bad-one, long-one, bad-not_long, trace-one}

-- what an answer says of lines
abbrev pub Judges : Form → List (List ℕ) → Result Trace TraceFault → Type 0
Judges form lines result = MatchResult result (λ t. IsTraceOf form lines t.start t.items) (IsFaultOf form lines)

-- the bytes that were taken are the text that the source told
pub told-text : (old new : Option (List ℕ)) (bytes text : List ℕ) → old ≡ Some text → Consumes old new bytes → IsAtEnd new → text ≡ bytes
told-text old new bytes text told took end =
    let P : Option (List ℕ) → Type 0 = λ o. IfSome o (λ t. t ≡ bytes) in
    subst P told (Consumes-whole old new bytes (λ t. t ≡ bytes) took end refl)

pub judges-bad : (form : Form) (text : List ℕ) (n : ℕ) (result : Result Trace TraceFault) → length text ≤ 16777216 → Judges form (text_lines text) result → result ≡ Err (BadLine n) → IsBadText form text n
unfolding IsBadText
judges-bad form text n result few judged is =
    let P : Result Trace TraceFault → Type 0 = λ r. Judges form (text_lines text) r in (few, subst P is judged)

pub judges-long : (form : Form) (text : List ℕ) (n : ℕ) (result : Result Trace TraceFault) → length text ≤ 16777216 → Judges form (text_lines text) result → result ≡ Err (TooLong n) → IsLongText form text n
unfolding IsLongText
judges-long form text n result few judged is =
    let P : Result Trace TraceFault → Type 0 = λ r. Judges form (text_lines text) r in inr (few, subst P is judged)

pub judges-trace : (form : Form) (text : List ℕ) (result : Result Trace TraceFault) → length text ≤ 16777216 → Judges form (text_lines text) result → IfOk result (λ t. IsTraceText form text t.start t.items)
unfolding IsTraceText
judges-trace form text (Ok t) few judged = (few, judged)
judges-trace form text (Err fault) few judged = tt

pub reads-trace : (form : Form) (text : List ℕ) (start : ℕ) (items : List Item) (result : Result Trace TraceFault) → Judges form (text_lines text) result → IsTraceText form text start items → MatchResult result (λ t. (t.start ≡ start) × (t.items ≡ items)) IsFailure
unfolding IsTraceText
reads-trace form text start items (Ok t) judged is = trace-one form (text_lines text) t.start start t.items items judged is.1
reads-trace form text start items (Err ReadFault) judged is = tt
reads-trace form text start items (Err Memory) judged is = tt
reads-trace form text start items (Err (BadLine n)) judged is = no_bad_line form (text_lines text) start n items is.1 judged
reads-trace form text start items (Err (TooLong n)) judged is = no_too_long form (text_lines text) start n items is.1 judged

pub finds-bad : (form : Form) (text : List ℕ) (n : ℕ) (result : Result Trace TraceFault) → Judges form (text_lines text) result → IsBadText form text n → IsErrAnd result (λ fault. (fault ≡ BadLine n) ⊎ IsFailure fault)
unfolding IsBadText
finds-bad form text n (Ok t) judged is = no_bad_line form (text_lines text) t.start n t.items judged is.1
finds-bad form text n (Err ReadFault) judged is = inr tt
finds-bad form text n (Err Memory) judged is = inr tt
finds-bad form text n (Err (BadLine m)) judged is = inl (ap BadLine (bad-one form (text_lines text) m n judged is.1))
finds-bad form text n (Err (TooLong m)) judged is = absurd (bad-not_long form (text_lines text) n m is.1 judged)

pub finds-long : (form : Form) (text : List ℕ) (n : ℕ) (result : Result Trace TraceFault) → length text ≤ 16777216 → Judges form (text_lines text) result → IsLongText form text n → IsErrAnd result (λ fault. (fault ≡ TooLong n) ⊎ IsFailure fault)
unfolding IsLongText
finds-long form text n result few judged (inl long) = absurd (omega (arith, long.0))
finds-long form text n (Ok t) few judged (inr is) = no_too_long form (text_lines text) t.start n t.items judged is.1
finds-long form text n (Err ReadFault) few judged (inr is) = inr tt
finds-long form text n (Err Memory) few judged (inr is) = inr tt
finds-long form text n (Err (BadLine m)) few judged (inr is) = absurd (bad-not_long form (text_lines text) m n judged is.1)
finds-long form text n (Err (TooLong m)) few judged (inr is) = inl (ap TooLong (long-one form (text_lines text) m n judged is.1))

-- each item of a trace is known to its form
trace-each : (form : Form) (lines : List (List ℕ)) (start : ℕ) (items : List Item) → IsTraceOf form lines start items → AllByRecursion (IsKnown form) items
trace-each form lines start items is =
    let P : List Item → Type 0 = λ each. AllByRecursion (IsKnown form) each in subst P (sym is.items_are) (ended-known form is.written is.spells.each)

pub trace-known : (form : Form) (lines : List (List ℕ)) (result : Result Trace TraceFault) → Judges form lines result → IfOk result (λ t. AllByRecursion (IsKnown form) t.items)
trace-known form lines (Ok t) judged = trace-each form lines t.start t.items judged
trace-known form lines (Err fault) judged = tt

-- a trace that was read is well formed
pub trace-well_formed : (form : Form) (lines : List (List ℕ)) (result : Result Trace TraceFault) → Judges form lines result → IfOk result (λ t. IsWellFormed t.start t.items)
trace-well_formed form lines (Ok t) judged =
    record {
      first = judged.spells.first;
      within = judged.within;
      each = known-ranges form t.items (trace-each form lines t.start t.items judged);
      runs = let P : List Item → Type 0 = λ is. HasRuns is in subst P (sym judged.items_are) (ended-runs judged.written);
    }
trace-well_formed form lines (Err fault) judged = tt

-- it has few items
pub trace-few : (form : Form) (text : List ℕ) (result : Result Trace TraceFault) → length text ≤ 16777216 → Judges form (text_lines text) result → IfOk result (λ t. length t.items < 2 ^ 26)
trace-few form text (Ok t) few judged = trace-items-few form text t.start t.items few judged
trace-few form text (Err fault) few judged = tt

-- what is said of a trace that was read
pub trace-read : (form : Form) (left : Option (List ℕ)) (result : Result Trace TraceFault)
    → ((text : List ℕ) → left ≡ Some text → IfOk result (λ t. IsTraceText form text t.start t.items)) → IfOk result (λ t. IsWellFormed t.start t.items)
    → IfOk result (λ t. AllByRecursion (IsKnown form) t.items) → IfOk result (λ t. length t.items < 2 ^ 26) → IfOk result (TraceIsRead form left)
trace-read form left (Ok t) trace well known few = record { trace = trace; well_formed = well; known = known; few = few }
trace-read form left (Err fault) trace well known few = tt
