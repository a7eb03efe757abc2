-- How a form ends that reads a file, by what reading answered.
use Rattle.std.proofs.Common.{◌≡◌, ◌∙◌, ◌<◌, ◌≤◌, ℕ, List, length, Option, Some, ap, sym, subst, arith}
use Rattle.std.specs.Io.KnownBytes.{Consumes, IsAtEnd}
use Rattle.trace_text.proofs.Answered.{told-text}
use Rattle.card_match.specs.declared.files.SourceFault.{SourceFault}
use Rattle.card_match.specs.declared.files.SourceFault.TheVariants as source
use Rattle.card_match.specs.Faults.{IfBadSource}
use Rattle.file_view.specs.declared.fault.ViewFault.{ViewFault}
use Rattle.file_view.specs.declared.fault.ViewFault.TheVariants as viewing
use Rattle.file_view.specs.Faults.{IfBadFile}
use Rattle.tacho.specs.Match.{match_refusal_of}
use Rattle.tacho.specs.View.{view_refusal_of}
use Rattle.tacho.specs.Read.{IsUnshown}

-- what holds of the bytes that were read to the end holds of those that the source told
pub of-told : (P : List ℕ → Type 0) (old new : Option (List ℕ)) (read b bytes : List ℕ) → Consumes old new read → IsAtEnd new → b ≡ read → old ≡ Some bytes → P b → P bytes
of-told P old new read b bytes took end same told holds = subst P (same ∙ sym (told-text old new read bytes told took end)) holds

-- and they are not too many for a source
pub not-long : (old new : Option (List ℕ)) (read b bytes : List ℕ) → Consumes old new read → IsAtEnd new → b ≡ read → length b ≤ 16777216 → old ≡ Some bytes → 16777216 < length bytes → ⊥
not-long old new read b bytes took end same few told many = omega (arith, few, many, ap length same, ap length (told-text old new read bytes told took end))

-- a file that was not shown is bad where it is told so, or memory ran out
pub refused-by : (IsPlace : ℕ → Type 0) (fault : ViewFault) → IfBadFile fault IsPlace → IsUnshown IsPlace (view_refusal_of fault)
refused-by IsPlace (viewing.BadFile place) is = is
refused-by IsPlace viewing.Memory is = tt

-- and so is a source that was not compared
pub source-refused : (IsPlace : ℕ → Type 0) (fault : SourceFault) → IfBadSource fault IsPlace → IsUnshown IsPlace (match_refusal_of fault)
source-refused IsPlace (source.BadFile place) is = is
source-refused IsPlace source.Memory is = tt
