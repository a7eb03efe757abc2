-- What is printed by what the source tells, and how it ends.
use Rattle.std.specs.Prelude.{◌≡◌, ◌⊎◌, ℕ, ◌<◌, ◌≤◌, List, length, Option, Some, Result, Err, OnOk, IfErr, IsErrAnd}
use Rattle.std.specs.Io.KnownBytes.{Appends}
use Rattle.tach_media.specs.Medium.{Rose}
use Rattle.tach_media.specs.Streams.{AppendsFront}
use Rattle.trace_model.specs.declared.Item.{Item}
use Rattle.trace_text.specs.declared.lines_trace.Form.{Form}
use Rattle.trace_text.specs.Judged.{IsTraceText, IsBadText, IsLongText, most_bytes}
use Rattle.tacho.specs.declared.end.Fault.{Fault}
use Rattle.tacho.specs.declared.end.Fault.TheVariants.{BadTrace, TooLong, ReadFault, WriteFault, BadFile}
use Rattle.tacho.specs.End.{IsUnread, IsUnprinted}
use Rattle.tacho.specs.Read.{IsBad}
use Rattle.tacho.specs.Outside.{SinkTold}
use Rattle.tacho.specs.declared.forms.Reading.{Reading}

-- A TEXT IS PUT INTO THE SINK, all of it, or a front where the sink failed, which is then told as a write fault. No
-- count falls.
pub record PutsText (text : List ℕ) (before after : SinkTold) (result : Result (Unit {0}) Fault) : Type 0 where
  pub ok : OnOk result (Appends before.held after.held text)
  pub err : IfErr result (λ fault. (fault ≡ WriteFault) × AppendsFront before.held after.held text)
  pub cause : IfErr result (λ fault. Rose before.faults after.faults)
  pub counts : before.faults ≤ after.faults

-- WHAT THE SINK GETS: where it did not fail all that is printed for the bytes that the source told, and a front of that
-- where the sink failed
pub record PrintsFrom (P : (bytes out : List ℕ) → Type 0) (left before after : Option (List ℕ))
    (result : Result (Unit {0}) Fault) : Type 0 where
  pub printed : (bytes : List ℕ) → left ≡ Some bytes
      → OnOk result ((out : List ℕ) × P bytes out × Appends before after out)
  pub front : (bytes : List ℕ) → left ≡ Some bytes → result ≡ Err WriteFault
      → (out : List ℕ) × P bytes out × AppendsFront before after out

-- THE FAULTS of the source and of the sink: one that is told has come, and no count falls
pub record TellsFaults (source source_after sink sink_after : ℕ) (result : Result (Unit {0}) Fault) : Type 0 where
  pub read_fault : result ≡ Err ReadFault → Rose source source_after
  pub write_fault : result ≡ Err WriteFault → Rose sink sink_after
  pub counts : (source ≤ source_after) × (sink ≤ sink_after)

-- A TEXT IS JUDGED in a form of traces: each refusal has its cause, and, unless the source fails or memory runs out,
-- each cause its refusal; of a text that is a trace's only the sink or memory keeps it from being printed
pub record JudgesText (form : Form) (left : Option (List ℕ)) (result : Result (Unit {0}) Fault) : Type 0 where
  pub bad_trace : (text : List ℕ) (n : ℕ) → left ≡ Some text → result ≡ Err (BadTrace n) → IsBadText form text n
  pub too_long : (text : List ℕ) (n : ℕ) → left ≡ Some text → result ≡ Err (TooLong n) → IsLongText form text n
  pub prints : (text : List ℕ) (start : ℕ) (items : List Item) → left ≡ Some text → IsTraceText form text start items
      → IfErr result IsUnprinted
  pub finds_bad_trace : (text : List ℕ) (n : ℕ) → left ≡ Some text → IsBadText form text n
      → IsErrAnd result (λ fault. (fault ≡ BadTrace n) ⊎ IsUnread fault)
  pub finds_too_long : (text : List ℕ) (n : ℕ) → left ≡ Some text → IsLongText form text n
      → IsErrAnd result (λ fault. (fault ≡ TooLong n) ⊎ IsUnread fault)

-- A FILE IS JUDGED by a reading: it is bad at the place that is told; it is too long exactly where it has more bytes
-- than are read, unless the source fails or memory runs out
pub record JudgesFile (reading : Reading) (left : Option (List ℕ)) (result : Result (Unit {0}) Fault) : Type 0 where
  pub bad_file : (bytes : List ℕ) (place : ℕ) → left ≡ Some bytes → result ≡ Err (BadFile place)
      → IsBad reading place bytes
  pub too_long : (bytes : List ℕ) (n : ℕ) → left ≡ Some bytes → result ≡ Err (TooLong n)
      → (n ≡ 0) × (most_bytes < length bytes)
  pub finds_too_long : (bytes : List ℕ) → left ≡ Some bytes → most_bytes < length bytes
      → IsErrAnd result (λ fault. (fault ≡ TooLong 0) ⊎ IsUnread fault)
