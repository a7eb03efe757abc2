use Rattle.std.proofs.Common.{◌∙◌, ℕ, ◌<◌, List, length, ap, sym, subst, arith}
use Rattle.file_view.specs.declared.fault.ViewFault.{ViewFault}
use Rattle.file_view.specs.Faults.{IfBadFile}
use Rattle.file_view.specs.CardFiles.{IsBadCardFile}
use Rattle.file_extract.specs.declared.entries.DownloadEntry.{DownloadEntry}
use Rattle.file_extract.specs.Judged.{IsNone, place_for, fault_for}
use Rattle.file_extract.proofs.Placing.{place_low, refused}
use Rattle.file_extract.proofs.judging.extract_card.Goals as goal

pub fault_for-requires : goal.fault_for-requires
fault_for-requires c = λ at.
    subst (λ (l : List DownloadEntry). place_for l at (length c.args.b.now) < 4294967296) (sym c.as_slice-in-Err.ensures.value)
    (omega (arith, place_low c.args.b.now c.in_ok-part.part.passed.items c.in_ok-part.ensures.part.stand at, c.requires))

pub returns-in-Err-clause-bad : goal.returns-in-Err-clause-bad
returns-in-Err-clause-bad c =
    subst (λ (f : ViewFault). IfBadFile f (λ place. IsNone place c.args.b.now)) (sym (c.fault_for.ensures ∙ ap (λ (l : List DownloadEntry). fault_for l (length c.args.b.now) c.in-Err.fault) c.as_slice-in-Err.ensures.value))
    (refused c.args.b.now c.in_ok-part.part c.in-Err.fault c.in_ok-part.ensures.part
    (subst (λ (l : List ℕ). IfBadFile c.in-Err.fault (λ at. IsBadCardFile at l)) c.as_slice.ensures.value c.in-Err.ensures.bad))
