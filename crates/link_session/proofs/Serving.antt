-- A service so far.
use Rattle.std.proofs.Common.{◌≡◌, ℕ, ◌+◌, ◌-◌, ◌<◌, ◌≤◌, false, List, [], ◌++◌, length, Option, IfSome, Result, Ok, Err, append-nil, refl, sym, ◌∙◌, ap, subst, length-append, arith}
use Rattle.std.specs.Prelude.{IsErrAnd}
use Rattle.std.specs.Io.KnownBytes.{Consumes, Keeps, Appends}
use Rattle.std.proofs.KnownBytes.{Consumes-nil, Consumes-trans, Consumes-kept}
use Rattle.tach_media.specs.Medium.{State}
use Rattle.tach_media.proofs.Runs.{both_told}
use Rattle.unit_memory.proofs.Told.{carried, one_told, told_all}
use Rattle.link_model.specs.declared.side.End.TheVariants as side
use Rattle.link_model.specs.Hearing.{heard_in, kept_after}
use Rattle.link_model.specs.Frames.{Heard}
use Rattle.link_model.specs.Answers.{LinkState, Idle}
use Rattle.link_model.proofs.Runs.{heard_append, kept_append}
use Rattle.link_frames.specs.Scanning.{Scan}
use Rattle.message_model.specs.Sending.{content_sent}
use Rattle.unit_minutes.specs.Reading.{ReadsIfAny}
use Rattle.unit_minutes.proofs.IfAny.{read_same}
use Rattle.link_session.specs.Told.{SessionView, Knows, fresh}
use Rattle.unit_messages.proofs.Calls.{no_call, any_then}
use Rattle.link_session.specs.declared.line.Spelling.TheVariants.{Bytes}
use Rattle.link_session.specs.Lines.{listening, IsAnswered}
use Rattle.link_session.specs.Served.{StopsWithin, IsServed, answers_to}
use Rattle.link_session.specs.declared.fault.ServeFault.{ServeFault}
use Rattle.link_session.specs.declared.fault.ServeFault.TheVariants.{ReadFault}
use Rattle.link_session.specs.declared.line.Line.{Line}
use Rattle.link_session.specs.declared.service.TheConstants.{MOST}
use Rattle.link_session.proofs.Joined.{none_answered, answered_on}
use Rattle.link_session.proofs.Streams.{ends}
use Rattle.link_session.proofs.ServeFaults.{err_is}

-- Bytes came, in so many turns at least, and so many more may come; what was heard in them was answered.
pub record IsServing (turn left : ℕ) (before unread : Option (List ℕ)) (line : Line) (old new : State) (held sunk : Option (List ℕ)) : Type 0 where
  pub came : List ℕ
  pub turns : turn ≤ length came
  pub count : length came + left ≡ MOST
  pub consumed : Consumes before unread came
  pub scanner : line.scanner ≡ listening (kept_after side.Unit [] came)
  pub answered : IfSome old.image (λ x. IsAnswered Bytes (content_sent x) Idle (heard_in side.Unit [] came) line.session.state held sunk)
  pub knows : IfSome old.image (Knows line.session)
  pub reads : ReadsIfAny old new false

-- whatever the unit, a session that has found nothing knows it
pub fresh_knows : (state : LinkState) (x : List ℕ) → Knows (fresh state) x
fresh_knows state x = record { decodes = λ is. absurd (cc); notes = tt; outlines = tt }

unfoldable pub serving_none : (before held : Option (List ℕ)) (line : Line) (s : State) → line.scanner ≡ listening [] → line.session ≡ fresh Idle → IsServing 0 MOST before before line s s held held
serving_none before held line s scanner session = record {
  came = [];
  turns = omega arith;
  count = refl;
  consumed = Consumes-nil before;
  scanner = scanner;
  answered = told_all s.image _ (λ x is. subst (λ (t : LinkState). IsAnswered Bytes (content_sent x) Idle [] t held held) (sym (ap (λ (v : SessionView). v.state) session)) (none_answered Bytes (content_sent x) Idle held));
  knows = told_all s.image _ (λ x is. subst (λ (v : SessionView). Knows v x) (sym session) (fresh_knows Idle x));
  reads = no_call s;
}

-- what is heard in the next bytes, by what is kept of those before
pub next_heard : (scan : Scan) (came bytes : List ℕ) → scan ≡ listening (kept_after side.Unit [] came)
    → heard_in side.Unit [] came ++ heard_in side.Unit scan.kept bytes ≡ heard_in side.Unit [] (came ++ bytes)
next_heard scan came bytes is =
    ap (λ (s : Scan). heard_in side.Unit [] came ++ heard_in side.Unit s.kept bytes) is ∙ sym (heard_append side.Unit [] came bytes)

-- the scanner hears the unit's side, and the session knows the unit, before the next bytes
pub still_hears : {turn left : ℕ} {a b : Option (List ℕ)} {line : Line} {old mid : State} {h k : Option (List ℕ)} → IsServing turn left a b line old mid h k → line.scanner ≡ listening line.scanner.kept
still_hears {turn} {left} {a} {b} {line} {old} {mid} {h} {k} s = subst (λ (scan : Scan). scan ≡ listening scan.kept) (sym s.scanner) refl

pub still_known : {turn left : ℕ} {a b : Option (List ℕ)} {line : Line} {old mid : State} {h k : Option (List ℕ)} → IsServing turn left a b line old mid h k → IfSome mid.image (Knows line.session)
still_known {turn} {left} {a} {b} {line} {old} {mid} {h} {k} s = carried (Knows line.session) (sym (read_same s.reads)) s.knows

-- the next bytes are answered
unfoldable pub serving_on : {turn left : ℕ} {a b : Option (List ℕ)} {line : Line} {old mid : State} {h k : Option (List ℕ)} (c : Option (List ℕ)) (next : Line) (new : State) (l : Option (List ℕ)) (bytes : List ℕ) (n : ℕ)
    → IsServing turn left a b line old mid h k → length bytes ≡ n → 0 < n → length bytes ≤ left → Consumes b c bytes
    → next.scanner ≡ listening (kept_after side.Unit line.scanner.kept bytes)
    → IfSome mid.image (λ x. IsAnswered Bytes (content_sent x) line.session.state (heard_in side.Unit line.scanner.kept bytes) next.session.state k l)
    → IfSome mid.image (Knows next.session) → ReadsIfAny mid new false → IsServing (turn + 1) (left - n) a c next old new h l
serving_on {turn} {left} {a} {b} {line} {old} {mid} {h} {k} c next new l bytes n s long some few consumed scanner answered knows reads =
    let same = read_same s.reads in
    record {
      came = s.came ++ bytes;
      turns = omega (arith, length-append s.came bytes, s.turns, long, some);
      count = omega (arith, length-append s.came bytes, s.count, long, few);
      consumed = Consumes-trans a b c s.came bytes s.consumed consumed;
      scanner = scanner ∙ ap (λ (scan : Scan). listening (kept_after side.Unit scan.kept bytes)) s.scanner ∙ ap (λ (kept : List ℕ). listening kept) (sym (kept_append side.Unit [] s.came bytes));
      answered = both_told old.image _ s.answered
          (carried (λ x. IsAnswered Bytes (content_sent x) line.session.state (heard_in side.Unit line.scanner.kept bytes) next.session.state k l) same answered)
          (λ x is f g. subst (λ (seen : List Heard). IsAnswered Bytes (content_sent x) Idle seen next.session.state h l) (next_heard line.scanner s.came bytes s.scanner)
          (answered_on Bytes (content_sent x) Idle line.session.state next.session.state (heard_in side.Unit [] s.came) (heard_in side.Unit line.scanner.kept bytes) h k l f g));
      knows = carried (Knows next.session) same knows;
      reads = any_then s.reads reads;
    }

-- the service ends by the next bytes
ends_so : (T : Type 0) {turn left : ℕ} {a b : Option (List ℕ)} {line : Line} {old mid : State} {h k : Option (List ℕ)} (c l : Option (List ℕ)) (bytes : List ℕ) (fault : ServeFault)
    → IsServing turn left a b line old mid h k → Consumes b c bytes
    → IfSome mid.image (λ x. StopsWithin Bytes fault (content_sent x) line.session.state line.scanner.kept left bytes k l)
    → IfSome old.image (λ x. IsServed {T = T} (Err fault) (content_sent x) a c h l)
ends_so T {turn} {left} {a} {b} {line} {old} {mid} {h} {k} c l bytes fault s consumed stops =
    both_told old.image _ s.answered
    (carried (λ x. StopsWithin Bytes fault (content_sent x) line.session.state line.scanner.kept left bytes k l) (read_same s.reads) stops)
    (λ x is f g. record {
      came = s.came ++ bytes;
      consumed = Consumes-trans a b c s.came bytes s.consumed consumed;
      sends = ends T fault (content_sent x) line.session.state s.came bytes left h k l s.count f
          (subst (λ (scan : Scan). StopsWithin Bytes fault (content_sent x) line.session.state scan.kept left bytes k l) s.scanner g);
    })

pub serving_ends : {T : Type 0} (r : Result T ServeFault) {turn left : ℕ} {a b : Option (List ℕ)} {line : Line} {old mid : State} {h k : Option (List ℕ)} (c l : Option (List ℕ)) (bytes : List ℕ)
    (fault : ServeFault) → IsErrAnd r (λ e. e ≡ fault) → IsServing turn left a b line old mid h k → Consumes b c bytes
    → IfSome mid.image (λ x. StopsWithin Bytes fault (content_sent x) line.session.state line.scanner.kept left bytes k l)
    → IfSome old.image (λ x. IsServed r (content_sent x) a c h l)
serving_ends {T} r {turn} {left} {a} {b} {line} {old} {mid} {h} {k} c l bytes fault is s consumed stops =
    subst (λ (q : Result T ServeFault). IfSome old.image (λ x. IsServed q (content_sent x) a c h l)) (sym (err_is r fault is)) (ends_so T c l bytes fault s consumed stops)

-- the source ends, or fails
pub serving_done : {T : Type 0} (done : T) {turn left : ℕ} {a b : Option (List ℕ)} {line : Line} {old mid : State} {h k : Option (List ℕ)} (c : Option (List ℕ)) (bytes : List ℕ)
    → IsServing turn left a b line old mid h k → Consumes b c bytes → bytes ≡ [] → IfSome old.image (λ x. IsServed {T = T} (Ok done) (content_sent x) a c h k)
serving_done {T} done {turn} {left} {a} {b} {line} {old} {mid} {h} {k} c bytes s consumed none =
    let all : Consumes a c s.came =
    subst (λ (l : List ℕ). Consumes a c l) (ap (λ (l : List ℕ). s.came ++ l) none ∙ append-nil s.came) (Consumes-trans a b c s.came bytes s.consumed consumed) in
    one_told old.image _ s.answered (λ x f. record { came = s.came; consumed = all; sends = (omega (arith, s.count), f.sent) })

pub serving_broken : (T : Type 0) {turn left : ℕ} {a b : Option (List ℕ)} {line : Line} {old mid : State} {h k : Option (List ℕ)} (c : Option (List ℕ))
    → IsServing turn left a b line old mid h k → Keeps b c → IfSome old.image (λ x. IsServed {T = T} (Err ReadFault) (content_sent x) a c h k)
serving_broken T {turn} {left} {a} {b} {line} {old} {mid} {h} {k} c s keeps =
    one_told old.image _ s.answered (λ x f. record { came = s.came; consumed = Consumes-kept a b c s.came s.consumed keeps; sends = (omega (arith, s.count), f.sent) })

-- all that came was answered
abbrev pub Answered : (image came : List ℕ) → (held sunk : Option (List ℕ)) → Type 0
Answered x came held sunk = Appends held sunk (answers_to (content_sent x) came)

pub serving_answered : {turn left : ℕ} {a b : Option (List ℕ)} {line : Line} {old mid : State} {h k : Option (List ℕ)} (s : IsServing turn left a b line old mid h k) → IfSome old.image (λ x. Answered x s.came h k)
serving_answered {turn} {left} {a} {b} {line} {old} {mid} {h} {k} s = one_told old.image _ s.answered (λ x f. f.sent)
