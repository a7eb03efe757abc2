-- What a scanner of the unit's side took.
use Rattle.std.proofs.Common.{◌≡◌, ℕ, zero, suc, ◌<◌, List, [], ◌∷◌, ◌++◌, take, drop, Option, Some, None, IfSome, sym, ◌∙◌, ap, subst, arith}
use Rattle.std.specs.Prelude.{IfNone, option_map, option_to_list}
use Rattle.unit_memory.proofs.Told.{one_told}
use Rattle.link_model.specs.declared.side.End.{End}
use Rattle.link_model.specs.declared.side.End.TheVariants as side
use Rattle.link_model.specs.Frames.{Heard}
use Rattle.link_model.specs.Hearing.{heard_in, kept_after}
use Rattle.link_frames.specs.declared.frame.Seen.{Seen}
use Rattle.link_frames.specs.Seen.{meant}
use Rattle.link_frames.specs.Scanning.{Scan}
use Rattle.message_model.specs.Sending.{content_sent}
use Rattle.link_model.specs.Answers.{LinkState}
use Rattle.link_session.specs.declared.line.Spelling.{Spelling}
use Rattle.link_session.specs.Lines.{listening, IsAnswered}
use Rattle.link_session.specs.Served.{Stops}
use Rattle.link_session.specs.declared.fault.ServeFault.{ServeFault}
use Rattle.link_session.specs.declared.line.Line.{Line}
use Rattle.link_session.proofs.Joined.{stops_more}
use Rattle.link_session.proofs.Streams.{heard_split}

abbrev scan_of : End → List ℕ → Scan
scan_of end kept = record { end = end; kept = kept }

pub kept_by : (old new : Scan) (bytes : List ℕ) → old ≡ listening old.kept → new ≡ record { end = old.end; kept = kept_after old.end old.kept bytes } → new ≡ listening (kept_after side.Unit old.kept bytes)
kept_by old new bytes listens is = is ∙ ap (λ (e : End). scan_of e (kept_after e old.kept bytes)) (ap (λ (s : Scan). s.end) listens)

heard_by : (old : Scan) (bytes : List ℕ) (seen seen' : Option Seen) → old ≡ listening old.kept → heard_in old.end old.kept bytes ≡ option_to_list (option_map meant seen) → seen ≡ seen'
    → heard_in side.Unit old.kept bytes ≡ option_to_list (option_map meant seen')
heard_by old bytes seen seen' listens heard is =
    ap (λ (e : End). heard_in e old.kept bytes) (sym (ap (λ (s : Scan). s.end) listens)) ∙ heard ∙ ap (λ (o : Option Seen). option_to_list (option_map meant o)) is

-- no frame, or one
pub heard_none : (old : Scan) (bytes : List ℕ) (seen : Option Seen) → old ≡ listening old.kept → heard_in old.end old.kept bytes ≡ option_to_list (option_map meant seen) → seen ≡ None
    → heard_in side.Unit old.kept bytes ≡ []
heard_none old bytes seen listens heard is = heard_by old bytes seen None listens heard is

pub heard_one : (old : Scan) (bytes : List ℕ) (seen : Option Seen) (frame : Seen) → old ≡ listening old.kept → heard_in old.end old.kept bytes ≡ option_to_list (option_map meant seen) → seen ≡ Some frame
    → heard_in side.Unit old.kept bytes ≡ meant frame ∷ []
heard_one old bytes seen frame listens heard is = heard_by old bytes seen (Some frame) listens heard is

pub none_is : {A P : Type 0} (o : Option A) → o ≡ None → IfNone o P → P
none_is {A} {P} o is h = subst (λ (p : Option A). IfNone p P) is h

-- of a frame some bytes were taken
pub some_taken : (n : ℕ) (kept bytes : List ℕ) (heard : Heard) → heard_in side.Unit kept (take n bytes) ≡ heard ∷ [] → 0 < n
some_taken zero kept bytes heard is = absurd (cc)
some_taken (suc n) kept bytes heard is = omega arith

-- the answers end at the first frame in the bytes
pub stopped_at : (spelling : Spelling) (o : Option (List ℕ)) (fault : ServeFault) (line : Line) (bytes : List ℕ) (n : ℕ) (heard : Heard) (h k : Option (List ℕ)) → heard_in side.Unit line.scanner.kept (take n bytes) ≡ heard ∷ []
    → IfSome o (λ x. Stops spelling fault (content_sent x) line.session.state (heard ∷ []) h k)
    → IfSome o (λ x. Stops spelling fault (content_sent x) line.session.state (heard_in side.Unit line.scanner.kept bytes) h k)
stopped_at spelling o fault line bytes n heard h k is stops =
    let kept : List ℕ = line.scanner.kept in
    let more : List Heard = heard_in side.Unit (kept_after side.Unit kept (take n bytes)) (drop n bytes) in
    let all : (heard ∷ []) ++ more ≡ heard_in side.Unit kept bytes = ap (λ (l : List Heard). l ++ more) (sym is) ∙ heard_split kept bytes n in
    one_told o _ stops (λ x p. subst (λ (seen : List Heard). Stops spelling fault (content_sent x) line.session.state seen h k) all
    (stops_more spelling fault (content_sent x) line.session.state (heard ∷ []) more h k p))

-- what was answered, by another name of what was heard
pub answered_at : (spelling : Spelling) (o : Option (List ℕ)) (before after : LinkState) (seen heard : List Heard) (h k : Option (List ℕ)) → seen ≡ heard
    → IfSome o (λ x. IsAnswered spelling (content_sent x) before seen after h k) → IfSome o (λ x. IsAnswered spelling (content_sent x) before heard after h k)
answered_at spelling o before after seen heard h k is answered = subst (λ (l : List Heard). IfSome o (λ x. IsAnswered spelling (content_sent x) before l after h k)) is answered
