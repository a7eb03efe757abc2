-- How a call ends, by what reading its trace answered.
use Rattle.std.proofs.Common.{◌≡◌, ◌⊎◌, ℕ, List, refl, ap, inl, inr}
use Rattle.std.specs.Prelude.{Result, Ok, Err, Some, IsErrAnd}
use Rattle.tach_media.specs.Medium.{Rose}
use Rattle.trace_text.specs.declared.lines_trace.TraceFault.{TraceFault}
use Rattle.trace_text.specs.declared.lines_trace.TraceFault.TheVariants as trace
use Rattle.trace_text.specs.declared.lines_trace.Form.{Form}
use Rattle.trace_text.specs.Judged.{IsBadText, IsLongText, IsFailure, TraceIsRefused, TraceIsJudged}
use Rattle.tacho.specs.declared.end.Fault.{Fault}
use Rattle.tacho.specs.declared.end.Fault.TheVariants.{Done, BadTrace, TooLong, ReadFault, WriteFault, Memory}
use Rattle.tacho.specs.End.{end_of, refusal_of, IsUnread, IsUnprinted}
use Rattle.tacho.specs.Outside.{SourceTold}
use Rattle.tacho.specs.Minutes.{IsMinutesEnd}
use Rattle.tacho.specs.Reading.{JudgesTrace}

pub refusal-bad : (fault : TraceFault) (n : ℕ) → refusal_of fault ≡ BadTrace n → fault ≡ trace.BadLine n
refusal-bad (trace.BadLine m) n is = let e : m ≡ n = cc in ap trace.BadLine e
refusal-bad _ n is = cc

pub refusal-long : (fault : TraceFault) (n : ℕ) → refusal_of fault ≡ TooLong n → fault ≡ trace.TooLong n
refusal-long (trace.TooLong m) n is = let e : m ≡ n = cc in ap trace.TooLong e
refusal-long _ n is = cc

pub refusal-read : (fault : TraceFault) → refusal_of fault ≡ ReadFault → fault ≡ trace.ReadFault
refusal-read trace.ReadFault is = refl
refusal-read (trace.BadLine n) is = absurd (cc)
refusal-read (trace.TooLong n) is = absurd (cc)
refusal-read trace.Memory is = absurd (cc)

-- the sink is not used where no trace was read
pub refusal-unwritten : (fault : TraceFault) → refusal_of fault ≡ WriteFault → ⊥
refusal-unwritten trace.ReadFault is = cc
refusal-unwritten (trace.BadLine n) is = cc
refusal-unwritten (trace.TooLong n) is = cc
refusal-unwritten trace.Memory is = cc

failure-unread : (fault : TraceFault) → IsFailure fault → IsUnread (refusal_of fault)
failure-unread trace.ReadFault is = tt
failure-unread trace.Memory is = tt
failure-unread _ is = absurd is

pub failure-unprinted : (fault : TraceFault) → IsFailure fault → IsUnprinted (refusal_of fault)
failure-unprinted trace.ReadFault is = tt
failure-unprinted trace.Memory is = tt
failure-unprinted _ is = absurd is

-- a trace that was not read ends `minutes`
pub refusal-end : (fault : TraceFault) → (refusal_of fault ≡ Done → ⊥) × IsMinutesEnd (refusal_of fault)
refusal-end trace.ReadFault = (λ e. cc, tt)
refusal-end (trace.BadLine n) = (λ e. cc, tt)
refusal-end (trace.TooLong n) = (λ e. cc, tt)
refusal-end trace.Memory = (λ e. cc, tt)

-- what a fault of a trace ends with
pub refused : (fault wanted : TraceFault) → (fault ≡ wanted) ⊎ IsFailure fault → (refusal_of fault ≡ refusal_of wanted) ⊎ IsUnread (refusal_of fault)
refused fault wanted (inl same) = inl (ap refusal_of same)
refused fault wanted (inr failed) = inr (failure-unread fault failed)

-- where no stream failed, all was done or memory ran out
pub prints-end : (fault : Fault) → IsUnprinted fault → (fault ≡ ReadFault → ⊥) → (fault ≡ WriteFault → ⊥) → (fault ≡ Done) ⊎ (fault ≡ Memory)
prints-end Memory is read write = inr refl
prints-end ReadFault is read write = absurd (read refl)
prints-end WriteFault is read write = absurd (write refl)
prints-end _ is read write = absurd is

-- where the source did not fail, it is the wanted end, or memory ran out
pub wanted-end : (fault wanted : Fault) → (fault ≡ wanted) ⊎ IsUnread fault → (fault ≡ ReadFault → ⊥) → (fault ≡ wanted) ⊎ (fault ≡ Memory)
wanted-end fault wanted (inl same) read = inl same
wanted-end Memory wanted (inr is) read = inr refl
wanted-end ReadFault wanted (inr is) read = absurd (read refl)
wanted-end _ wanted (inr is) read = absurd is

-- a command that reads a trace judges it, by what it answers
pub judges-trace : {T : Type 0} {form : Form} (old new : SourceTold) (r : Result T Fault)
    → ((text : List ℕ) (n : ℕ) → old.left ≡ Some text → r ≡ Err (BadTrace n) → IsBadText form text n)
    → ((text : List ℕ) (n : ℕ) → old.left ≡ Some text → r ≡ Err (TooLong n) → IsLongText form text n)
    → (r ≡ Err ReadFault → Rose old.faults new.faults)
    → ((text : List ℕ) (n : ℕ) → old.left ≡ Some text → IsBadText form text n → IsErrAnd r (λ fault. (fault ≡ BadTrace n) ⊎ IsUnread fault))
    → ((text : List ℕ) (n : ℕ) → old.left ≡ Some text → IsLongText form text n → IsErrAnd r (λ fault. (fault ≡ TooLong n) ⊎ IsUnread fault))
    → JudgesTrace form old new (end_of r)
judges-trace old new (Ok u) bad long read_fault finds_bad finds_long = record {
  bad_trace = λ text n told is. absurd (cc);
  too_long = λ text n told is. absurd (cc);
  finds_bad_trace = λ text n told is no_read. absurd (finds_bad text n told is);
  finds_too_long = λ text n told is no_read. absurd (finds_long text n told is);
}
judges-trace old new (Err fault) bad long read_fault finds_bad finds_long = record {
  bad_trace = λ text n told is. bad text n told (ap Err is);
  too_long = λ text n told is. long text n told (ap Err is);
  finds_bad_trace = λ text n told is no_read. wanted-end fault (BadTrace n) (finds_bad text n told is) (λ e. no_read (read_fault (ap Err e)));
  finds_too_long = λ text n told is no_read. wanted-end fault (TooLong n) (finds_long text n told is) (λ e. no_read (read_fault (ap Err e)));
}

-- and so it does where no trace was read
pub unread-judges : (form : Form) (old new : SourceTold) (fault : TraceFault) → TraceIsRefused form old.left old.faults new.faults (Err fault) → TraceIsJudged form old.left (Err fault) → JudgesTrace form old new (refusal_of fault)
unread-judges form old new fault why judged = record {
  bad_trace = λ text n told is. why.bad_line text n told (ap Err (refusal-bad fault n is));
  too_long = λ text n told is. why.too_long text n told (ap Err (refusal-long fault n is));
  finds_bad_trace = λ text n told is no_read.
      wanted-end (refusal_of fault) (BadTrace n) (refused fault (trace.BadLine n) (judged.finds_bad_line text n told is)) (λ e. no_read (why.read_fault (ap Err (refusal-read fault e))));
  finds_too_long = λ text n told is no_read.
      wanted-end (refusal_of fault) (TooLong n) (refused fault (trace.TooLong n) (judged.finds_too_long text n told is)) (λ e. no_read (why.read_fault (ap Err (refusal-read fault e))));
}
