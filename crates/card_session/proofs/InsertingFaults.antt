-- What the answer of the judging says of an insertion that is refused.
use Rattle.std.proofs.Common.{◌≡◌, ℕ, false, Result, Err, Some}
use Rattle.std.specs.Prelude.{IfErr, IfSome, IsErrAnd}
use Rattle.card_layout.specs.declared.files.Application.{Application}
use Rattle.tach_media.specs.Medium.{State, Reads}
use Rattle.card_validity.specs.declared.fault.InsertFault.{InsertFault}
use Rattle.card_validity.specs.declared.fault.InsertFault.TheVariants.{Failed, NotValid, TimeOverlap}
use Rattle.card_validity.specs.declared.files.Judged.{Judged}
use Rattle.card_validity.specs.Faults.{IfNotValid, IfTimeOverlap, has_failed}
use Rattle.card_validity.specs.card_image.Judging.{first_bad_file}
use Rattle.card_validity.proofs.Faults.{passed}
use Rattle.card_session.specs.Inserting.{CardRefused}

overlap_none : (fault : InsertFault) (P : ℕ → ℕ → Type 0) → IfTimeOverlap fault (λ stored now. ⊥) → IfTimeOverlap fault P
overlap_none Failed P none = tt
overlap_none (NotValid fid place) P none = tt
overlap_none (TimeOverlap stored now) P none = absurd none

abbrev pub answer : InsertFault → Result Judged InsertFault
answer fault = Err fault

read_valid : {old new : State} (fault : InsertFault) → Reads old new (has_failed (answer fault)) → IfNotValid fault (λ fid place. Reads old new false)
read_valid Failed reads = tt
read_valid (NotValid fid place) reads = reads
read_valid (TimeOverlap stored now) reads = tt

read_late : {old new : State} (fault : InsertFault) → Reads old new (has_failed (answer fault)) → IfTimeOverlap fault (λ stored now. Reads old new false)
read_late Failed reads = tt
read_late (NotValid fid place) reads = tt
read_late (TimeOverlap stored now) reads = reads

-- an answer that it passed on
pub passed_refused : {T : Type 0} {old new : State} (app : Application) (now : ℕ) (r : Result T InsertFault) (e : InsertFault) → IsErrAnd r (λ v. v ≡ e) → IfNotValid e (λ fid place. IfSome old.image (λ x. first_bad_file app x ≡ Some (fid, place)))
    → IfTimeOverlap e (λ stored at. ⊥) → Reads old new (has_failed (answer e)) → IfErr r (CardRefused app now old new)
passed_refused {T} {old} {new} app now r e is bad none reads = passed r e (CardRefused app now old new) is (record {
  bad = bad;
  late = overlap_none e _ none;
  bad_reads = read_valid e reads;
  late_reads = read_late e reads;
})

-- one that a call on the card made
pub failed_refused : {T : Type 0} (old new : State) (app : Application) (now : ℕ) (r : Result T InsertFault) → IsErrAnd r (λ v. v ≡ Failed) → IfErr r (CardRefused app now old new)
failed_refused old new app now r is = passed r Failed (CardRefused app now old new) is (record { bad = tt; late = tt; bad_reads = tt; late_reads = tt })
