-- One frame that was heard.
use Rattle.std.proofs.Common.{◌≡◌, ℕ, Bool, true, false, List, [], ◌∷◌, ◌++◌, Option, Some, None, Err, refl, sym, ap, subst, append-nil}
use Rattle.std.specs.Prelude.{option_to_list}
use Rattle.std.specs.Io.KnownBytes.{Appends}
use Rattle.std.proofs.KnownBytes.{Appends-nil}
use Rattle.tach_media.specs.Medium.{State}
use Rattle.tach_media.specs.Streams.{AppendsFront}
use Rattle.unit_minutes.specs.Reading.{ReadsIfAny}
use Rattle.link_model.specs.declared.request.Request.{Request}
use Rattle.link_model.specs.Frames.{Heard}
use Rattle.link_model.specs.Answers.{LinkState, Reply, answered}
use Rattle.link_frames.specs.Asking.{asks_unit}
use Rattle.link_session.specs.declared.asking.AnswerFault.{AnswerFault}
use Rattle.link_session.specs.declared.asking.AnswerFault.TheVariants as session
use Rattle.link_session.specs.Told.{IfBadUnit, has_failed as session_failed}
use Rattle.link_session.specs.declared.line.Spelling.{Spelling}
use Rattle.link_session.specs.Lines.{bytes_of, spelled, IsAnswered, StopsAsking}
use Rattle.link_session.specs.Served.{Stops, IsCaused, has_failed, fault_of}
use Rattle.link_session.specs.declared.fault.ServeFault.TheVariants.{WriteFault}

abbrev pub reply : Option (List ℕ) → LinkState → Reply
reply answer state = record { answer = answer; state = state }

-- without an answer
pub one_silent : (spelling : Spelling) (messages : Request → Option (List ℕ)) (before after : LinkState) (heard : Heard) (h : Option (List ℕ)) → reply None after ≡ answered messages before heard
    → IsAnswered spelling messages before (heard ∷ []) after h h
one_silent spelling messages before after heard h is = record {
  stands = ap (λ (r : Reply). r.state) is;
  sent = subst (λ (o : Option (List ℕ)). Appends h h (bytes_of spelling (option_to_list o ++ []))) (ap (λ (r : Reply). r.answer) is) (Appends-nil h);
}

-- with its answer
pub one_answered : (spelling : Spelling) (messages : Request → Option (List ℕ)) (before after : LinkState) (heard : Heard) (frame : List ℕ) (h k : Option (List ℕ)) → reply (Some frame) after ≡ answered messages before heard
    → Appends h k (spelled spelling frame) → IsAnswered spelling messages before (heard ∷ []) after h k
one_answered spelling messages before after heard frame h k is sent = record {
  stands = ap (λ (r : Reply). r.state) is;
  sent = subst (λ (o : Option (List ℕ)). Appends h k (bytes_of spelling (option_to_list o ++ []))) (ap (λ (r : Reply). r.answer) is)
      (subst (λ (o : List ℕ). Appends h k o) (sym (append-nil (spelled spelling frame))) sent);
}

-- with a front of its answer
pub one_cut : (spelling : Spelling) (messages : Request → Option (List ℕ)) (before after : LinkState) (heard : Heard) (frame : List ℕ) (h k : Option (List ℕ)) → reply (Some frame) after ≡ answered messages before heard
    → AppendsFront h k (spelled spelling frame) → Stops spelling WriteFault messages before (heard ∷ []) h k
one_cut spelling messages before after heard frame h k is sent =
    subst (λ (o : Option (List ℕ)). AppendsFront h k (bytes_of spelling (option_to_list o ++ []))) (ap (λ (r : Reply). r.answer) is)
    (subst (λ (o : List ℕ). AppendsFront h k o) (sym (append-nil (spelled spelling frame))) sent)

asking_one : (spelling : Spelling) (messages : Request → Option (List ℕ)) (before : LinkState) (heard : Heard) (h : Option (List ℕ)) → asks_unit before heard ≡ true → StopsAsking spelling messages before (heard ∷ []) h h
asking_one spelling messages before heard h asks = record { before = []; asking = heard; behind = []; seen_are = refl; asks = asks; sent = Appends-nil h }

-- the session ended
pub one_stopped : (spelling : Spelling) (fault : AnswerFault) (messages : Request → Option (List ℕ)) (before : LinkState) (heard : Heard) (h : Option (List ℕ)) → asks_unit before heard ≡ true
    → Stops spelling (fault_of fault) messages before (heard ∷ []) h h
one_stopped spelling session.Failed messages before heard h asks = asking_one spelling messages before heard h asks
one_stopped spelling (session.BadUnit place) messages before heard h asks = asking_one spelling messages before heard h asks

-- the cause that the session gives
pub session_caused : (fault : AnswerFault) (read wrote : Type 0) (judged : Bool) (Q : ℕ → Type 0) → IfBadUnit fault (λ p. (judged ≡ false) × Q p) → IsCaused (fault_of fault) read wrote Q
session_caused session.Failed read wrote judged Q is = tt
session_caused (session.BadUnit place) read wrote judged Q is = is.1

-- what the session says of the unit
pub session_reads : {old new : State} (fault : AnswerFault) → ReadsIfAny old new (session_failed {T = Unit {0}} (Err fault)) → ReadsIfAny old new (has_failed {T = Unit {0}} (Err (fault_of fault)))
session_reads session.Failed reads = reads
session_reads (session.BadUnit place) reads = reads
