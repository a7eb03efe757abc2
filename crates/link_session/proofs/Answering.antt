-- The answers to bytes, so far.
use Rattle.std.proofs.Common.{◌≡◌, ℕ, ◌+◌, ◌-◌, ◌<◌, ◌≤◌, false, List, ◌++◌, length, take, drop, Option, IfSome, refl, sym, ◌∙◌, ap, subst, length-take, length-drop, arith}
use Rattle.std.proofs.lemmas.List.{take_all}
use Rattle.tach_media.specs.Medium.{State}
use Rattle.tach_media.proofs.Runs.{both_told}
use Rattle.unit_memory.proofs.Told.{carried, one_told, told_all}
use Rattle.link_model.specs.declared.side.End.TheVariants as side
use Rattle.link_model.specs.declared.request.Request.{Request}
use Rattle.link_model.specs.Frames.{Heard}
use Rattle.link_model.specs.Hearing.{heard_in, kept_after}
use Rattle.link_model.specs.Answers.{LinkState}
use Rattle.link_frames.specs.Scanning.{Scan}
use Rattle.message_model.specs.Sending.{content_sent}
use Rattle.unit_minutes.specs.Reading.{ReadsIfAny}
use Rattle.unit_minutes.proofs.IfAny.{read_same}
use Rattle.link_session.specs.Told.{Knows}
use Rattle.unit_messages.proofs.Calls.{no_call, any_then}
use Rattle.link_session.specs.declared.line.Spelling.{Spelling}
use Rattle.link_session.specs.Lines.{listening, IsAnswered}
use Rattle.link_session.specs.Served.{Stops, StopsWithin}
use Rattle.link_session.specs.declared.fault.ServeFault.{ServeFault}
use Rattle.link_session.specs.declared.fault.ServeFault.TheVariants.{ReadFault, WriteFault, Failed, BadUnit, TooLong}
use Rattle.link_session.specs.declared.line.Line.{Line}
use Rattle.link_session.proofs.Joined.{none_answered, answered_on, stops_behind}
use Rattle.link_session.proofs.Streams.{from, heard_next, heard_all, kept_next}

-- So many of these bytes were taken, and what was heard in them was answered.
pub record IsAnswering (spelling : Spelling) (bytes : List ℕ) (done : ℕ) (before line : Line) (old new : State) (held sunk : Option (List ℕ)) : Type 0 where
  pub within : done ≤ length bytes
  pub kept : line.scanner ≡ listening (kept_after side.Unit before.scanner.kept (take done bytes))
  pub answered : IfSome old.image (λ x. IsAnswered spelling (content_sent x) before.session.state (heard_in side.Unit before.scanner.kept (take done bytes)) line.session.state held sunk)
  pub knows : IfSome old.image (Knows line.session)
  pub reads : ReadsIfAny old new false

pub answering_none : (spelling : Spelling) (bytes : List ℕ) (line : Line) (s : State) (h : Option (List ℕ)) → line.scanner ≡ listening line.scanner.kept → IfSome s.image (Knows line.session) → IsAnswering spelling bytes 0 line line s s h h
answering_none spelling bytes line s h listens knows = record {
  within = omega arith;
  kept = listens;
  answered = told_all s.image _ (λ x is. none_answered spelling (content_sent x) line.session.state h);
  knows = knows;
  reads = no_call s;
}

-- the scanner hears the unit's side, and the session knows the unit, before the next bytes
pub still_listens : {spelling : Spelling} {bytes : List ℕ} {done : ℕ} {before line : Line} {old new : State} {h k : Option (List ℕ)} → IsAnswering spelling bytes done before line old new h k → line.scanner ≡ listening line.scanner.kept
still_listens {spelling} {bytes} {done} {before} {line} {old} {new} {h} {k} a = subst (λ (s : Scan). s ≡ listening s.kept) (sym a.kept) refl

pub still_knows : {spelling : Spelling} {bytes : List ℕ} {done : ℕ} {before line : Line} {old new : State} {h k : Option (List ℕ)} → IsAnswering spelling bytes done before line old new h k → IfSome new.image (Knows line.session)
still_knows {spelling} {bytes} {done} {before} {line} {old} {new} {h} {k} a = carried (Knows line.session) (sym (read_same a.reads)) a.knows

-- the next bytes are answered
pub answering_on : {spelling : Spelling} {bytes : List ℕ} {done : ℕ} {before line : Line} {old mid : State} {h k : Option (List ℕ)} (n : ℕ) (next : Line) (new : State) (l : Option (List ℕ))
    → IsAnswering spelling bytes done before line old mid h k → n ≤ length (from done bytes)
    → next.scanner ≡ listening (kept_after side.Unit line.scanner.kept (take n (from done bytes)))
    → IfSome mid.image (λ x. IsAnswered spelling (content_sent x) line.session.state (heard_in side.Unit line.scanner.kept (take n (from done bytes))) next.session.state k l)
    → IfSome mid.image (Knows next.session) → ReadsIfAny mid new false → IsAnswering spelling bytes (done + n) before next old new h l
answering_on {spelling} {bytes} {done} {before} {line} {old} {mid} {h} {k} n next new l a few kept answered knows reads =
    let same = read_same a.reads in
    let before_kept : List ℕ = before.scanner.kept in
    let part : List ℕ = take n (from done bytes) in
    let heard : heard_in side.Unit before_kept (take done bytes) ++ heard_in side.Unit line.scanner.kept part ≡ heard_in side.Unit before_kept (take (done + n) bytes) =
    ap (λ (s : Scan). heard_in side.Unit before_kept (take done bytes) ++ heard_in side.Unit s.kept part) a.kept ∙ heard_next before_kept bytes done n in
    let rest : length (from done bytes) ≤ length bytes - done = omega (arith, length-take (length bytes - done) (drop done bytes), length-drop done bytes) in
    record {
      within = omega (arith, a.within, few, rest);
      kept = kept ∙ ap (λ (s : Scan). listening (kept_after side.Unit s.kept part)) a.kept ∙ ap (λ (l : List ℕ). listening l) (kept_next before_kept bytes done n);
      answered = both_told old.image _ a.answered
          (carried (λ x. IsAnswered spelling (content_sent x) line.session.state (heard_in side.Unit line.scanner.kept part) next.session.state k l) same answered)
          (λ x is f g. subst (λ (seen : List Heard). IsAnswered spelling (content_sent x) before.session.state seen next.session.state h l) heard
          (answered_on spelling (content_sent x) before.session.state line.session.state next.session.state (heard_in side.Unit before_kept (take done bytes)) (heard_in side.Unit line.scanner.kept part) h k l f g));
      knows = carried (Knows next.session) same knows;
      reads = any_then a.reads reads;
    }

-- the answers end in the next bytes
pub answering_stops : {spelling : Spelling} {bytes : List ℕ} {done : ℕ} {before line : Line} {old mid : State} {h k : Option (List ℕ)} (l : Option (List ℕ)) (fault : ServeFault) → IsAnswering spelling bytes done before line old mid h k
    → IfSome mid.image (λ x. Stops spelling fault (content_sent x) line.session.state (heard_in side.Unit line.scanner.kept (from done bytes)) k l)
    → IfSome old.image (λ x. Stops spelling fault (content_sent x) before.session.state (heard_in side.Unit before.scanner.kept bytes) h l)
answering_stops {spelling} {bytes} {done} {before} {line} {old} {mid} {h} {k} l fault a stops =
    let kept : List ℕ = before.scanner.kept in
    let heard : heard_in side.Unit kept (take done bytes) ++ heard_in side.Unit line.scanner.kept (from done bytes) ≡ heard_in side.Unit kept bytes =
    ap (λ (s : Scan). heard_in side.Unit kept (take done bytes) ++ heard_in side.Unit s.kept (from done bytes)) a.kept ∙ heard_all kept bytes done in
    both_told old.image _ a.answered
    (carried (λ x. Stops spelling fault (content_sent x) line.session.state (heard_in side.Unit line.scanner.kept (from done bytes)) k l) (read_same a.reads) stops)
    (λ x is f g. subst (λ (seen : List Heard). Stops spelling fault (content_sent x) before.session.state seen h l) heard
    (stops_behind spelling fault (content_sent x) before.session.state line.session.state (heard_in side.Unit kept (take done bytes)) (heard_in side.Unit line.scanner.kept (from done bytes)) h k l f g))

-- all bytes were taken
pub answering_kept : {spelling : Spelling} {bytes : List ℕ} {done : ℕ} {before line : Line} {old new : State} {h k : Option (List ℕ)} → IsAnswering spelling bytes done before line old new h k → length bytes ≤ done
    → line.scanner ≡ listening (kept_after side.Unit before.scanner.kept bytes)
answering_kept {spelling} {bytes} {done} {before} {line} {old} {new} {h} {k} a all =
    a.kept ∙ ap (λ (b : List ℕ). listening (kept_after side.Unit before.scanner.kept b)) (take_all done bytes all)

pub answering_done : {spelling : Spelling} {bytes : List ℕ} {done : ℕ} {before line : Line} {old new : State} {h k : Option (List ℕ)} → IsAnswering spelling bytes done before line old new h k → length bytes ≤ done
    → IfSome old.image (λ x. IsAnswered spelling (content_sent x) before.session.state (heard_in side.Unit before.scanner.kept bytes) line.session.state h k)
answering_done {spelling} {bytes} {done} {before} {line} {old} {new} {h} {k} a all =
    one_told old.image _ a.answered (λ x f.
    subst (λ (b : List ℕ). IsAnswered spelling (content_sent x) before.session.state (heard_in side.Unit before.scanner.kept b) line.session.state h k) (take_all done bytes all) f)

-- what ends the answers to the first bytes, and to all where no more may come
stops_first : (spelling : Spelling) (fault : ServeFault) (messages : Request → Option (List ℕ)) (state : LinkState) (kept : List ℕ) (left : ℕ) (bytes : List ℕ) (h k : Option (List ℕ))
    → Stops spelling fault messages state (heard_in side.Unit kept (take left bytes)) h k → StopsWithin spelling fault messages state kept left bytes h k
stops_first spelling ReadFault messages state kept left bytes h k p = p
stops_first spelling WriteFault messages state kept left bytes h k p = p
stops_first spelling Failed messages state kept left bytes h k p = p
stops_first spelling (BadUnit place) messages state kept left bytes h k p = p
stops_first spelling TooLong messages state kept left bytes h k p = absurd p

pub first_stopped : (spelling : Spelling) (o : Option (List ℕ)) (fault : ServeFault) (line : Line) (left : ℕ) (bytes : List ℕ) (h k : Option (List ℕ))
    → IfSome o (λ x. Stops spelling fault (content_sent x) line.session.state (heard_in side.Unit line.scanner.kept (take left bytes)) h k)
    → IfSome o (λ x. StopsWithin spelling fault (content_sent x) line.session.state line.scanner.kept left bytes h k)
first_stopped spelling o fault line left bytes h k stops = one_told o _ stops (λ x p. stops_first spelling fault (content_sent x) line.session.state line.scanner.kept left bytes h k p)

pub all_stopped : (spelling : Spelling) (o : Option (List ℕ)) (fault : ServeFault) (line : Line) (left : ℕ) (bytes : List ℕ) (h k : Option (List ℕ)) → length bytes ≤ left
    → IfSome o (λ x. Stops spelling fault (content_sent x) line.session.state (heard_in side.Unit line.scanner.kept bytes) h k)
    → IfSome o (λ x. StopsWithin spelling fault (content_sent x) line.session.state line.scanner.kept left bytes h k)
all_stopped spelling o fault line left bytes h k few stops =
    first_stopped spelling o fault line left bytes h k
    (subst (λ (b : List ℕ). IfSome o (λ x. Stops spelling fault (content_sent x) line.session.state (heard_in side.Unit line.scanner.kept b) h k)) (sym (take_all left bytes few)) stops)

-- more came, and the first were answered
pub too_long_stopped : (spelling : Spelling) (o : Option (List ℕ)) (line : Line) (after : LinkState) (left : ℕ) (bytes : List ℕ) (h k : Option (List ℕ)) → left < length bytes
    → IfSome o (λ x. IsAnswered spelling (content_sent x) line.session.state (heard_in side.Unit line.scanner.kept (take left bytes)) after h k)
    → IfSome o (λ x. StopsWithin spelling TooLong (content_sent x) line.session.state line.scanner.kept left bytes h k)
too_long_stopped spelling o line after left bytes h k more answered = one_told o _ answered (λ x f. (more, f.sent))
