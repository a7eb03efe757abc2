-- The bytes of a stream in two parts.
use Rattle.std.proofs.Common.{◌≡◌, ℕ, ◌+◌, ◌-◌, List, [], ◌++◌, length, take, drop, Option, Err, sym, ◌∙◌, ap, subst, length-append, arith}
use Rattle.std.proofs.lemmas.List.{take-append-drop, take_rest}
use Rattle.std.proofs.Math.Seq.{take-add, take-append-add}
use Rattle.std.specs.Io.KnownBytes.{Appends}
use Rattle.link_model.specs.declared.request.Request.{Request}
use Rattle.link_model.specs.declared.side.End.TheVariants as side
use Rattle.link_model.specs.Frames.{Heard}
use Rattle.link_model.specs.Hearing.{heard_in, kept_after}
use Rattle.link_model.specs.Answers.{LinkState, Idle, run_from}
use Rattle.link_model.proofs.Runs.{heard_append, kept_append}
use Rattle.link_session.specs.declared.line.Spelling.TheVariants.{Bytes}
use Rattle.link_session.specs.Lines.{bytes_of, IsAnswered}
use Rattle.link_session.specs.Served.{Stops, StopsWithin, Sends}
use Rattle.link_session.specs.declared.fault.ServeFault.{ServeFault}
use Rattle.link_session.specs.declared.fault.ServeFault.TheVariants.{ReadFault, WriteFault, Failed, BadUnit, TooLong}
use Rattle.link_session.specs.declared.service.TheConstants.{MOST}
use Rattle.link_session.proofs.Joined.{sent_on, stops_behind}

-- the bytes from a place on, as a slice names them
abbrev pub from : ℕ → List ℕ → List ℕ
from n bytes = take (length bytes - n) (drop n bytes)

more_taken : (n m : ℕ) (bytes : List ℕ) → take (n + m) bytes ≡ take n bytes ++ take m (from n bytes)
more_taken n m bytes = take-add n m bytes ∙ ap (λ (l : List ℕ). take n bytes ++ take m l) (sym (take_rest bytes n))

all_taken : (n : ℕ) (bytes : List ℕ) → bytes ≡ take n bytes ++ from n bytes
all_taken n bytes = sym (take-append-drop n bytes) ∙ ap (λ (l : List ℕ). take n bytes ++ l) (sym (take_rest bytes n))

-- what is heard up to a place, and in the next bytes, or in the rest
pub heard_next : (kept bytes : List ℕ) (n m : ℕ) → heard_in side.Unit kept (take n bytes) ++ heard_in side.Unit (kept_after side.Unit kept (take n bytes)) (take m (from n bytes))
    ≡ heard_in side.Unit kept (take (n + m) bytes)
heard_next kept bytes n m = sym (ap (λ (l : List ℕ). heard_in side.Unit kept l) (more_taken n m bytes) ∙ heard_append side.Unit kept (take n bytes) (take m (from n bytes)))

pub heard_all : (kept bytes : List ℕ) (n : ℕ) → heard_in side.Unit kept (take n bytes) ++ heard_in side.Unit (kept_after side.Unit kept (take n bytes)) (from n bytes)
    ≡ heard_in side.Unit kept bytes
heard_all kept bytes n = sym (ap (λ (l : List ℕ). heard_in side.Unit kept l) (all_taken n bytes) ∙ heard_append side.Unit kept (take n bytes) (from n bytes))

pub kept_next : (kept bytes : List ℕ) (n m : ℕ) → kept_after side.Unit (kept_after side.Unit kept (take n bytes)) (take m (from n bytes)) ≡ kept_after side.Unit kept (take (n + m) bytes)
kept_next kept bytes n m = sym (ap (λ (l : List ℕ). kept_after side.Unit kept l) (more_taken n m bytes) ∙ kept_append side.Unit kept (take n bytes) (take m (from n bytes)))

-- what is heard up to a place, and behind it
pub heard_split : (kept bytes : List ℕ) (n : ℕ) → heard_in side.Unit kept (take n bytes) ++ heard_in side.Unit (kept_after side.Unit kept (take n bytes)) (drop n bytes) ≡ heard_in side.Unit kept bytes
heard_split kept bytes n = sym (ap (λ (l : List ℕ). heard_in side.Unit kept l) (sym (take-append-drop n bytes)) ∙ heard_append side.Unit kept (take n bytes) (drop n bytes))

-- the first bytes of those that came and of the next ones, where so many may still come
first_taken : (came bytes : List ℕ) (left : ℕ) → length came + left ≡ MOST → came ++ take left bytes ≡ take MOST (came ++ bytes)
first_taken came bytes left count = sym (subst (λ (n : ℕ). take n (came ++ bytes) ≡ came ++ take left bytes) count (take-append-add came bytes left))

first_heard : (came bytes : List ℕ) (left : ℕ) → length came + left ≡ MOST
    → heard_in side.Unit [] came ++ heard_in side.Unit (kept_after side.Unit [] came) (take left bytes) ≡ heard_in side.Unit [] (take MOST (came ++ bytes))
first_heard came bytes left count = sym (heard_append side.Unit [] came (take left bytes)) ∙ ap (λ (l : List ℕ). heard_in side.Unit [] l) (first_taken came bytes left count)

-- how a service ends by the next bytes
pub ends : (T : Type 0) (fault : ServeFault) (messages : Request → Option (List ℕ)) (state : LinkState) (came bytes : List ℕ) (left : ℕ) (h k l : Option (List ℕ)) → length came + left ≡ MOST
    → IsAnswered Bytes messages Idle (heard_in side.Unit [] came) state h k → StopsWithin Bytes fault messages state (kept_after side.Unit [] came) left bytes k l → Sends {T = T} (Err fault) messages (came ++ bytes) h l
ends T ReadFault messages state came bytes left h k l count f p = absurd p
ends T WriteFault messages state came bytes left h k l count f p =
    subst (λ (seen : List Heard). Stops Bytes WriteFault messages Idle seen h l) (first_heard came bytes left count)
    (stops_behind Bytes WriteFault messages Idle state (heard_in side.Unit [] came) (heard_in side.Unit (kept_after side.Unit [] came) (take left bytes)) h k l f p)
ends T Failed messages state came bytes left h k l count f p =
    subst (λ (seen : List Heard). Stops Bytes Failed messages Idle seen h l) (first_heard came bytes left count)
    (stops_behind Bytes Failed messages Idle state (heard_in side.Unit [] came) (heard_in side.Unit (kept_after side.Unit [] came) (take left bytes)) h k l f p)
ends T (BadUnit place) messages state came bytes left h k l count f p =
    subst (λ (seen : List Heard). Stops Bytes (BadUnit place) messages Idle seen h l) (first_heard came bytes left count)
    (stops_behind Bytes (BadUnit place) messages Idle state (heard_in side.Unit [] came) (heard_in side.Unit (kept_after side.Unit [] came) (take left bytes)) h k l f p)
ends T TooLong messages state came bytes left h k l count f p = (
  omega (arith, length-append came bytes, p.0),
  subst (λ (seen : List Heard). Appends h l (bytes_of Bytes (run_from messages Idle seen))) (first_heard came bytes left count)
      (sent_on Bytes messages Idle state (heard_in side.Unit [] came) (heard_in side.Unit (kept_after side.Unit [] came) (take left bytes)) h k l f p.1),
)
