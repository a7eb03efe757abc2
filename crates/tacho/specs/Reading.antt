-- How a command ends that reads a trace.
use Rattle.std.specs.Prelude.{◌≡◌, ◌⊎◌, ℕ, Some, List}
use Rattle.tach_media.specs.Medium.{Rose}
use Rattle.trace_text.specs.declared.lines_trace.Form.{Form}
use Rattle.trace_text.specs.Judged.{IsBadText, IsLongText}
use Rattle.tacho.specs.declared.end.Fault.{Fault}
use Rattle.tacho.specs.declared.end.Fault.TheVariants.{BadTrace, TooLong, Memory}
use Rattle.tacho.specs.Outside.{SourceTold}

-- A bad trace and a too long one are refused by their lines, and only they, unless the source fails or memory runs out.
pub record JudgesTrace (form : Form) (old new : SourceTold) (fault : Fault) : Type 0 where
  -- each refusal has its cause
  pub bad_trace : (text : List ℕ) (n : ℕ) → old.left ≡ Some text → fault ≡ BadTrace n → IsBadText form text n
  pub too_long : (text : List ℕ) (n : ℕ) → old.left ≡ Some text → fault ≡ TooLong n → IsLongText form text n
  -- and each cause its refusal
  pub finds_bad_trace : (text : List ℕ) (n : ℕ) → old.left ≡ Some text → IsBadText form text n
      → (Rose old.faults new.faults → ⊥) → (fault ≡ BadTrace n) ⊎ (fault ≡ Memory)
  pub finds_too_long : (text : List ℕ) (n : ℕ) → old.left ≡ Some text → IsLongText form text n
      → (Rose old.faults new.faults → ⊥) → (fault ≡ TooLong n) ⊎ (fault ≡ Memory)
