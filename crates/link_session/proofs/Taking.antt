-- The lines of a text, so far.
use Rattle.std.proofs.Common.{◌≡◌, ℕ, ◌+◌, ◌<◌, ◌≤◌, false, Bor, List, [], ◌∷◌, ◌++◌, length, Option, Some, None, IfSome, sym, ◌∙◌, ap, subst, inl, arith}
use Rattle.std.specs.Prelude.{◌≢◌, ◌⊎◌}
use Rattle.tach_media.specs.Medium.{State}
use Rattle.unit_memory.proofs.Told.{carried}
use Rattle.text_fields.specs.Pieces.{pieces, pieces_behind}
use Rattle.text_fields.proofs.PieceLemmas.{pieces-some}
use Rattle.link_model.specs.Answers.{LinkState}
use Rattle.link_frames.specs.Scanning.{Scan}
use Rattle.message_model.specs.Sending.{content_sent}
use Rattle.unit_minutes.specs.Reading.{ReadsIfAny}
use Rattle.unit_minutes.proofs.IfAny.{read_same}
use Rattle.link_session.specs.Told.{Knows}
use Rattle.unit_messages.proofs.Calls.{no_call, any_then}
use Rattle.link_session.specs.declared.line.Line.{Line}
use Rattle.link_session.specs.declared.lines.Lines.{Lines}
use Rattle.link_session.specs.declared.fault.LinesFault.{LinesFault}
use Rattle.link_session.specs.declared.fault.LinesFault.TheVariants.{Memory}
use Rattle.link_session.specs.Lines.{listening}
use Rattle.link_session.specs.ServedLines.{AreHeard, IsHeard, StopsAt, StopsAmong}
use Rattle.link_session.proofs.Heard.{heard_start, heard_on, heard_as, ended_where, stops_here, out_here}

-- how much text is behind a line end, with it
abbrev pub size_behind : Option (Bor (List ℕ)) → ℕ
size_behind None = 0
size_behind (Some rest) = length rest.now + 1

pub smaller_behind : (o : Option (Bor (List ℕ))) (n : ℕ) → IfSome o (λ rest. length rest.now < n) → size_behind o ≤ n
smaller_behind None n less = omega arith
smaller_behind (Some rest) n less = omega (arith, less)

pub size_is : (o : Option (Bor (List ℕ))) (rest : Bor (List ℕ)) → o ≡ Some rest → size_behind o ≡ length rest.now + 1
size_is o rest is = ap (λ (q : Option (Bor (List ℕ))). size_behind q) is

-- The lines up to here were heard.
pub record IsTaking (all rest : List (List ℕ)) (first lines : Lines) (old new : State) (held sunk : Option (List ℕ)) : Type 0 where
  pub heard : AreHeard all rest first.whole first.line.scanner.kept first.line.session.state lines.text.items lines.whole lines.line.scanner lines.line.session.state old.image held sunk
  pub knows : IfSome old.image (Knows lines.line.session)
  pub reads : ReadsIfAny old new false

-- the first piece was kept
pub taking_start : (first kept : Lines) (text front : List ℕ) (behind : List (List ℕ)) (s : State) (h : Option (List ℕ)) → pieces 10 first.text.items ≡ first.text.items ∷ [] → pieces 10 text ≡ front ∷ behind
    → first.line.scanner ≡ listening first.line.scanner.kept → IfSome s.image (Knows first.line.session) → kept.text.items ≡ first.text.items ++ front → kept.line ≡ first.line → kept.whole ≡ first.whole
    → IsTaking (pieces 10 (first.text.items ++ text)) behind first kept s s h h
taking_start first kept text front behind s h one is listens knows text_is line_is whole_is = record {
  heard = heard_as {line = first.line} (heard_start first.text.items text front behind first.whole first.line.scanner first.line.session.state s.image h one is listens) text_is whole_is line_is;
  knows = subst (λ (v : Line). IfSome s.image (Knows v.session)) (sym line_is) knows;
  reads = no_call s;
}

-- where it was not, memory ran out
pub start_out : (first : Lines) (text front : List ℕ) (behind : List (List ℕ)) (s : State) (h : Option (List ℕ)) (fault : LinesFault) → pieces 10 first.text.items ≡ first.text.items ∷ [] → pieces 10 text ≡ front ∷ behind
    → first.line.scanner ≡ listening first.line.scanner.kept → fault ≡ Memory
    → IfSome s.image (λ x. StopsAmong fault ⊥ (pieces 10 (first.text.items ++ text)) (content_sent x) first.whole first.line.scanner.kept first.line.session.state h h)
start_out first text front behind s h fault one is listens is_memory =
    subst (λ (f : LinesFault). IfSome s.image (λ x. StopsAmong f ⊥ (pieces 10 (first.text.items ++ text)) (content_sent x) first.whole first.line.scanner.kept first.line.session.state h h)) (sym is_memory)
    (out_here ⊥ (heard_start first.text.items text front behind first.whole first.line.scanner first.line.session.state s.image h one is listens))

-- what is heard of an image, by the image before reads
heard_before : {line kept : List ℕ} {state after : LinkState} {scanner : Scan} {o p h k : Option (List ℕ)} → p ≡ o → IsHeard line kept state scanner after p h k → IsHeard line kept state scanner after o h k
heard_before {line} {kept} {state} {after} {scanner} {o} {p} {h} {k} same a = subst (λ (q : Option (List ℕ)). IsHeard line kept state scanner after q h k) same a

behind_is : (behind : Option (Bor (List ℕ))) (rest : Bor (List ℕ)) → behind ≡ Some rest → pieces_behind 10 behind ≡ pieces 10 rest.now
behind_is behind rest is = ap (λ (o : Option (Bor (List ℕ))). pieces_behind 10 o) is

-- a line has ended, and this has come of the next one
ended_on : {all : List (List ℕ)} {first lines : Lines} {old mid : State} {h k : Option (List ℕ)} (behind : Option (Bor (List ℕ))) (rest : Bor (List ℕ)) (more : List (List ℕ)) (front : List ℕ) (ended : Lines) (l : Option (List ℕ))
    → IsTaking all (pieces_behind 10 behind) first lines old mid h k → behind ≡ Some rest
    → IsHeard lines.text.items lines.line.scanner.kept lines.line.session.state ended.line.scanner ended.line.session.state mid.image k l → pieces 10 rest.now ≡ front ∷ more
    → AreHeard all more first.whole first.line.scanner.kept first.line.session.state front (lines.whole + 1) ended.line.scanner ended.line.session.state old.image h l
ended_on {all} {first} {lines} {old} {mid} {h} {k} behind rest more front ended l t is heard pieces_are =
    heard_on rest.now front ended.line.scanner ended.line.session.state l
    (subst (λ (ls : List (List ℕ)). AreHeard all ls first.whole first.line.scanner.kept first.line.session.state lines.text.items lines.whole lines.line.scanner lines.line.session.state old.image h k) (behind_is behind rest is) t.heard)
    (heard_before (read_same t.reads) heard) pieces_are

pub taking_on : {all : List (List ℕ)} {first lines : Lines} {old mid : State} {h k : Option (List ℕ)} (behind : Option (Bor (List ℕ))) (rest : Bor (List ℕ)) (more : List (List ℕ)) (front : List ℕ) (ended kept : Lines) (new : State) (l : Option (List ℕ))
    → IsTaking all (pieces_behind 10 behind) first lines old mid h k → behind ≡ Some rest
    → IsHeard lines.text.items lines.line.scanner.kept lines.line.session.state ended.line.scanner ended.line.session.state mid.image k l → pieces 10 rest.now ≡ front ∷ more
    → ended.text.items ≡ [] → ended.whole ≡ lines.whole + 1 → IfSome mid.image (Knows ended.line.session) → ReadsIfAny mid new false
    → kept.text.items ≡ ended.text.items ++ front → kept.line ≡ ended.line → kept.whole ≡ ended.whole → IsTaking all more first kept old new h l
taking_on {all} {first} {lines} {old} {mid} {h} {k} behind rest more front ended kept new l t is heard pieces_are none count knows reads text_is line_is whole_is = record {
  heard = heard_as {line = ended.line} (ended_on behind rest more front ended l t is heard pieces_are) (text_is ∙ ap (λ (was : List ℕ). was ++ front) none) (whole_is ∙ count) line_is;
  knows = subst (λ (v : Line). IfSome old.image (Knows v.session)) (sym line_is) (carried (Knows ended.line.session) (read_same t.reads) knows);
  reads = any_then t.reads reads;
}

-- where that was not kept, memory ran out
pub on_out : {all : List (List ℕ)} {first lines : Lines} {old mid : State} {h k : Option (List ℕ)} (behind : Option (Bor (List ℕ))) (rest : Bor (List ℕ)) (more : List (List ℕ)) (front : List ℕ) (ended : Lines) (l : Option (List ℕ)) (fault : LinesFault)
    → IsTaking all (pieces_behind 10 behind) first lines old mid h k → behind ≡ Some rest
    → IsHeard lines.text.items lines.line.scanner.kept lines.line.session.state ended.line.scanner ended.line.session.state mid.image k l → pieces 10 rest.now ≡ front ∷ more → fault ≡ Memory
    → IfSome old.image (λ x. StopsAmong fault ⊥ all (content_sent x) first.whole first.line.scanner.kept first.line.session.state h l)
on_out {all} {first} {lines} {old} {mid} {h} {k} behind rest more front ended l fault t is heard pieces_are is_memory =
    subst (λ (f : LinesFault). IfSome old.image (λ x. StopsAmong f ⊥ all (content_sent x) first.whole first.line.scanner.kept first.line.session.state h l)) (sym is_memory)
    (out_here ⊥ (ended_on behind rest more front ended l t is heard pieces_are))

-- the service ends at a line that has ended
pub taking_stops : {all : List (List ℕ)} {first lines : Lines} {old mid : State} {h k : Option (List ℕ)} (behind : Option (Bor (List ℕ))) (rest : Bor (List ℕ)) (fault : LinesFault) (l : Option (List ℕ))
    → IsTaking all (pieces_behind 10 behind) first lines old mid h k → behind ≡ Some rest
    → IfSome mid.image (λ x. StopsAt fault (content_sent x) lines.line.session.state lines.line.scanner.kept lines.text.items (lines.whole + 1) k l)
    → IfSome old.image (λ x. StopsAmong fault ⊥ all (content_sent x) first.whole first.line.scanner.kept first.line.session.state h l)
taking_stops {all} {first} {lines} {old} {mid} {h} {k} behind rest fault l t is stops =
    let some : pieces_behind 10 behind ≢ [] = λ none. pieces-some 10 rest.now (sym (behind_is behind rest is) ∙ none) in
    stops_here fault ⊥ l t.heard (ended_where fault ((pieces_behind 10 behind ≢ []) ⊎ ⊥) (inl some))
    (carried (λ x. StopsAt fault (content_sent x) lines.line.session.state lines.line.scanner.kept lines.text.items (lines.whole + 1) k l) (read_same t.reads) stops)
