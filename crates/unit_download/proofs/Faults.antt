-- A fault that was passed on.
use Rattle.std.proofs.Common.{◌≡◌, ◌∙◌, ℕ, true, List, [], ◌∷◌, refl, inr, Option, Some, None, IfSome, Result, Ok, Err, false, sym, subst}
use Rattle.std.specs.Prelude.{IsErrAnd, OnErr, IfErr}
use Rattle.tach_media.specs.Medium.{State}
pub use Rattle.tach_media.proofs.Runs.{err_is}
use Rattle.unit_minutes.specs.Reading.{ReadsIfAny}
use Rattle.link_model.specs.Frames.{Right}
use Rattle.link_model.specs.Answers.{LinkState, Reply, answered}
use Rattle.link_model.specs.declared.request.Request.{Request}
use Rattle.message_model.specs.Sending.{content_sent}
use Rattle.link_frames.specs.Asking.{asks_unit}
use Rattle.link_session.specs.declared.asking.AnswerFault.{AnswerFault}
use Rattle.link_session.specs.declared.asking.AnswerFault.TheVariants as session
use Rattle.link_loader.specs.Loading.{Loading}
use Rattle.unit_download.specs.declared.wire.Passed.{Passed}
use Rattle.unit_download.specs.Tapes.{HasMore}
use Rattle.unit_download.specs.declared.fault.DownloadFault.{DownloadFault}
use Rattle.unit_download.specs.declared.fault.DownloadFault.TheVariants.{Failed, BadUnit, Changed, WriteFault, Memory}
use Rattle.unit_download.specs.Wires.{of_loader, Replies}
use Rattle.unit_download.specs.Ending.{fault_of, has_failed, IsUnanswered, IsUntaken}

-- what it says of the unit
pub passed_reads : {T : Type 0} {old new : State} (r : Result T DownloadFault) (e : DownloadFault) → IsErrAnd r (λ v. v ≡ e) → ReadsIfAny old new (has_failed {T = Unit {0}} (Err e)) → ReadsIfAny old new (has_failed r)
passed_reads (Ok x) e is reads = absurd is
passed_reads {T} {old} {new} (Err v) e is reads = subst (λ (f : DownloadFault). ReadsIfAny old new (has_failed {T = Unit {0}} (Err f))) (sym is) reads

-- what holds at an error
pub on_err : {T E P : Type 0} (r : Result T E) → P → OnErr r P
on_err (Ok x) p = tt
on_err (Err e) p = p

pub fault_is : {T E : Type 0} (r : Result T E) (e f : E) → IsErrAnd r (λ v. v ≡ e) → r ≡ Err f → e ≡ f
fault_is (Ok x) e f is same = absurd is
fault_is (Err v) e f is same = let fault : v ≡ f = cc in sym is ∙ fault

-- the same, whatever else the call would have answered
pub failed_reads : (A : Type 0) {old new : State} (fault : DownloadFault) → ReadsIfAny old new (has_failed {T = A} (Err fault)) → ReadsIfAny old new (has_failed {T = Unit {0}} (Err fault))
failed_reads A Failed reads = reads
failed_reads A (BadUnit place) reads = reads
failed_reads A Changed reads = reads
failed_reads A WriteFault reads = reads
failed_reads A Memory reads = reads

-- where the loader did not take an answer the unit did not fail
pub untaken_reads : {T : Type 0} {old new : State} (r : Result T DownloadFault) (fault : DownloadFault) (loader : Loading) (frame : List ℕ) (held sunk : Option (List ℕ)) → IsErrAnd r (λ v. v ≡ fault) → IsUntaken fault loader frame held sunk
    → ReadsIfAny old new false → ReadsIfAny old new (has_failed r)
untaken_reads (Ok x) fault loader frame held sunk is untaken reads = absurd is
untaken_reads {T} {old} {new} (Err v) fault loader frame held sunk is untaken reads = by v (subst (λ (f : DownloadFault). IsUntaken f loader frame held sunk) (sym is) untaken)
  where
    by : (v : DownloadFault) → IsUntaken v loader frame held sunk → ReadsIfAny old new (has_failed {T = T} (Err v))
    by Failed not = absurd not
    by (BadUnit place) not = absurd not
    by Changed not = reads
    by WriteFault not = reads
    by Memory not = reads

abbrev pub reply : Option (List ℕ) → LinkState → Reply
reply answer state = record { answer = answer; state = state }

-- what the session says of its answer, whether the unit tells its image or not
pub reply_told : (image : Option (List ℕ)) (state : LinkState) (sent : List ℕ) (reply : Reply) → IfSome image (λ x. reply ≡ answered (content_sent x) state (Right sent))
    → (messages : Request → Option (List ℕ)) × (reply ≡ answered messages state (Right sent)) → Replies image state sent reply
reply_told (Some x) state sent reply told possible = told
reply_told None state sent reply told possible = possible

-- the unit failed, or is bad, at a frame that passed, whose answer hangs on it
pub fault_stops : (r : Result (List ℕ) DownloadFault) (e : AnswerFault) (image : Option (List ℕ)) (state : LinkState) (sent : List ℕ) (old new : Option (List Passed)) → IsErrAnd r (λ v. v ≡ fault_of e) → HasMore old new (of_loader sent ∷ [])
    → asks_unit state (Right sent) ≡ true → IfErr r (λ fault. (behind : List Passed) × HasMore old new behind × IsUnanswered image fault state sent behind)
fault_stops (Ok frame) e image state sent old new is more asks = absurd is
fault_stops (Err v) e image state sent old new is more asks =
    subst (λ (f : DownloadFault). (behind : List Passed) × HasMore old new behind × IsUnanswered image f state sent behind) (sym is) (of_loader sent ∷ [], more, by e)
  where
    by : (e : AnswerFault) → IsUnanswered image (fault_of e) state sent (of_loader sent ∷ [])
    by session.Failed = (refl, asks)
    by (session.BadUnit place) = (refl, asks)

-- there was no memory for the answer
pub memory_stops : (r : Result (List ℕ) DownloadFault) (image : Option (List ℕ)) (state : LinkState) (sent : List ℕ) (old new : Option (List Passed)) → IsErrAnd r (λ v. v ≡ Memory) → HasMore old new (of_loader sent ∷ [])
    → IfErr r (λ fault. (behind : List Passed) × HasMore old new behind × IsUnanswered image fault state sent behind)
memory_stops (Ok frame) image state sent old new is more = absurd is
memory_stops (Err v) image state sent old new is more =
    subst (λ (f : DownloadFault). (behind : List Passed) × HasMore old new behind × IsUnanswered image f state sent behind) (sym is) (of_loader sent ∷ [], more, inr refl)
