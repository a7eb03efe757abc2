-- What a text that was printed left in the sink, as each command tells of it.
use Rattle.std.proofs.Common.{◌≡◌, ◌≤◌, ℕ, List, Option, Some, sym, subst}
use Rattle.std.specs.Prelude.{Result, Ok, Err, IfErr}
use Rattle.tacho.specs.declared.end.Fault.{Fault}
use Rattle.tacho.specs.declared.end.Fault.TheVariants.{WriteFault}
use Rattle.tacho.specs.declared.forms.Reading.{Reading}
use Rattle.trace_text.specs.declared.lines_trace.Form.{Form}
use Rattle.trace_text.specs.Judged.{IsBadText, IsLongText}
use Rattle.tach_media.specs.Medium.{Rose}
use Rattle.tacho.specs.End.{end_of, IsUnprinted}
use Rattle.tacho.specs.Help.{IsTextEnd, EndsText}
use Rattle.tacho.specs.Outside.{SinkTold}
use Rattle.tacho.specs.Printing.{PutsText, PrintsFrom, TellsFaults, JudgesText}
use Rattle.tacho.specs.Read.{EndsPut, Prints}
use Rattle.tacho.specs.Show.{IsCutOff, PutsPieces}

-- a text that is always the same
pub text-ends : (text : List ℕ) (before after : SinkTold) (r : Result (Unit {0}) Fault) → PutsText text before after r → EndsText text before after (end_of r)
text-ends text before after (Ok u) puts = record {
  ends = tt;
  printed = λ is. puts.ok;
  front = λ is. absurd (cc);
  write_fault = λ is. absurd (cc);
}
text-ends text before after (Err fault) puts =
    let wrote = puts.err.0 in
    record {
      ends = subst (λ (f : Fault). IsTextEnd f) (sym wrote) tt;
      printed = λ is. absurd (cc);
      front = λ is. puts.err.1;
      write_fault = λ is. puts.cause;
    }

-- the text that a reading makes of a file
pub reading-put : (reading : Reading) (bytes text : List ℕ) (before after : SinkTold) (same : Type 0) (r : Result (Unit {0}) Fault) → Prints reading bytes text → PutsText text before after r
    → EndsPut reading bytes r before.held after.held same
reading-put reading bytes text before after same (Ok u) prints puts = (text, prints, puts.ok)
reading-put reading bytes text before after same (Err fault) prints puts =
    subst (λ (f : Fault). EndsPut reading bytes (Err f) before.held after.held same) (sym puts.err.0) (text, prints, puts.err.1)

-- the text of a piece
pub text-put : (text : List ℕ) (before after : SinkTold) (r : Result (Unit {0}) Fault) → PutsText text before after r → PutsPieces text r before.held after.held
text-put text before after (Ok u) puts = puts.ok
text-put text before after (Err fault) puts = (puts.err.1, subst (λ (f : Fault). IsCutOff f) (sym puts.err.0) tt)

module _ (text : List ℕ) (before after : SinkTold) where
  -- what holds of a write fault holds where the sink failed
  pub if-wrote : (Q : Fault → Type 0) (r : Result (Unit {0}) Fault) → PutsText text before after r → Q WriteFault → IfErr r Q
  if-wrote Q (Ok u) puts wrote = tt
  if-wrote Q (Err fault) puts wrote = subst Q (sym puts.err.0) wrote

  pub wrote-cause : (r : Result (Unit {0}) Fault) → PutsText text before after r → r ≡ Err WriteFault → Rose before.faults after.faults
  wrote-cause (Ok u) puts is = absurd (cc)
  wrote-cause (Err fault) puts is = puts.cause

  -- a text that is printed for what a source told
  pub puts-from : (P : (bytes out : List ℕ) → Type 0) (left : Option (List ℕ)) (r : Result (Unit {0}) Fault) → ((bytes : List ℕ) → left ≡ Some bytes → P bytes text) → PutsText text before after r
      → PrintsFrom P left before.held after.held r
  puts-from P left (Ok u) told puts = record { printed = λ bytes is. (text, told bytes is, puts.ok); front = λ bytes is wrote. absurd (cc) }
  puts-from P left (Err fault) told puts = record { printed = λ bytes is. tt; front = λ bytes is wrote. (text, told bytes is, puts.err.1) }

  pub puts-faults : (source source_after : ℕ) (r : Result (Unit {0}) Fault) → source ≤ source_after → PutsText text before after r → TellsFaults source source_after before.faults after.faults r
  puts-faults source source_after (Ok u) later puts = record { read_fault = λ is. absurd (cc); write_fault = λ is. absurd (cc); counts = (later, puts.counts) }
  puts-faults source source_after (Err fault) later puts =
      let wrote = puts.err.0 in
      record { read_fault = λ is. absurd (cc); write_fault = λ is. puts.cause; counts = (later, puts.counts) }

  -- where a trace was read, its text is neither bad nor too long
  pub puts-judges : (form : Form) (left : Option (List ℕ)) (r : Result (Unit {0}) Fault)
      → ((bytes : List ℕ) (n : ℕ) → left ≡ Some bytes → IsBadText form bytes n → ⊥) → ((bytes : List ℕ) (n : ℕ) → left ≡ Some bytes → IsLongText form bytes n → ⊥) → PutsText text before after r
      → JudgesText form left r
  puts-judges form left (Ok u) no_bad no_long puts = record {
    bad_trace = λ bytes n told is. absurd (cc);
    too_long = λ bytes n told is. absurd (cc);
    prints = λ bytes start items told is. tt;
    finds_bad_trace = λ bytes n told is. absurd (no_bad bytes n told is);
    finds_too_long = λ bytes n told is. absurd (no_long bytes n told is);
  }
  puts-judges form left (Err fault) no_bad no_long puts =
      let wrote = puts.err.0 in
      record {
        bad_trace = λ bytes n told is. absurd (cc);
        too_long = λ bytes n told is. absurd (cc);
        prints = λ bytes start items told is. subst (λ (f : Fault). IsUnprinted f) (sym wrote) tt;
        finds_bad_trace = λ bytes n told is. absurd (no_bad bytes n told is);
        finds_too_long = λ bytes n told is. absurd (no_long bytes n told is);
      }
