-- Lines that were heard, so far.
use Rattle.std.proofs.Common.{◌≡◌, ℕ, ◌+◌, List, [], ◌∷◌, ◌++◌, length, Option, Some, None, IfSome, append-nil, append_assoc, refl, sym, ◌∙◌, ap, subst, length-append, arith}
use Rattle.std.specs.Prelude.{◌≢◌, ◌⊎◌}
use Rattle.tach_media.proofs.Runs.{both_told}
use Rattle.unit_memory.proofs.Told.{told_all}
use Rattle.text_fields.specs.Pieces.{pieces}
use Rattle.text_fields.specs.Lines.{line_bytes}
use Rattle.link_model.specs.declared.side.End.TheVariants as side
use Rattle.link_model.specs.Hearing.{heard_in, kept_after}
use Rattle.link_model.specs.Frames.{Heard}
use Rattle.link_model.specs.Answers.{LinkState}
use Rattle.link_model.proofs.Runs.{heard_append, kept_append}
use Rattle.link_frames.specs.Scanning.{Scan}
use Rattle.message_model.specs.Sending.{content_sent}
use Rattle.link_session.specs.declared.line.Spelling.TheVariants.{HexLines}
use Rattle.link_session.specs.declared.line.Line.{Line}
use Rattle.link_session.specs.declared.fault.LinesFault.{LinesFault}
use Rattle.link_session.specs.declared.fault.LinesFault.TheVariants.{Ended, BadLine, Memory}
use Rattle.link_session.specs.Lines.{listening, IsAnswered}
use Rattle.link_session.specs.ServedLines.{joined, bytes_in, AreHeard, IsHeard, StopsAt, StopsAmong, EndedWhere}
use Rattle.link_session.proofs.Joined.{none_answered, answered_on}
use Rattle.link_session.proofs.Pieces.{one_more, pieces_on}

joined_some : (o p : Option (List ℕ)) (x : List ℕ) → joined o p ≡ Some x → (u : List ℕ) × (v : List ℕ) × (o ≡ Some u) × (p ≡ Some v) × (x ≡ u ++ v)
joined_some (Some u) (Some v) x h = (u, v, refl, refl, cc)
joined_some (Some u) None x h = absurd (cc)
joined_some None p x h = absurd (cc)

-- the bytes of lines and of more lines
pub bytes_on : (lines more : List (List ℕ)) (x y : List ℕ) → bytes_in lines ≡ Some x → bytes_in more ≡ Some y → bytes_in (lines ++ more) ≡ Some (x ++ y)
bytes_on [] more x y h k =
    let e : x ≡ [] = cc in k ∙ ap (λ (l : List ℕ). Some (l ++ y)) (sym e)
bytes_on (line ∷ lines) more x y h k =
    let j = joined_some (line_bytes line) (bytes_in lines) x h in
    ap (λ (o : Option (List ℕ)). joined o (bytes_in (lines ++ more))) j.2 ∙ ap (λ (p : Option (List ℕ)). joined (Some j.0) p) (bytes_on lines more j.1 y j.3 k)
    ∙ ap (λ (l : List ℕ). Some l) (sym (ap (λ (l : List ℕ). l ++ y) j.4 ∙ append_assoc j.0 j.1 y))

pub one_line : (line bytes : List ℕ) → line_bytes line ≡ Some bytes → bytes_in (line ∷ []) ≡ Some bytes
one_line line bytes spell = ap (λ (o : Option (List ℕ)). joined o (Some [])) spell ∙ ap (λ (l : List ℕ). Some l) (append-nil bytes)

-- what is heard, and kept, of bytes and more bytes
pub heard_more : (kept bytes more : List ℕ) (scan : Scan) → scan ≡ listening (kept_after side.Unit kept bytes)
    → heard_in side.Unit kept bytes ++ heard_in side.Unit scan.kept more ≡ heard_in side.Unit kept (bytes ++ more)
heard_more kept bytes more scan is = ap (λ (s : Scan). heard_in side.Unit kept bytes ++ heard_in side.Unit s.kept more) is ∙ sym (heard_append side.Unit kept bytes more)

kept_more : (kept bytes more : List ℕ) (scan next : Scan) → scan ≡ listening (kept_after side.Unit kept bytes) → next ≡ listening (kept_after side.Unit scan.kept more) → next ≡ listening (kept_after side.Unit kept (bytes ++ more))
kept_more kept bytes more scan next is then =
    then ∙ ap (λ (s : Scan). listening (kept_after side.Unit s.kept more)) is ∙ ap (λ (l : List ℕ). listening l) (sym (kept_append side.Unit kept bytes more))

answered_more : (o : Option (List ℕ)) (state mid after : LinkState) (kept bytes more : List ℕ) (scan : Scan) (h k l : Option (List ℕ)) → scan ≡ listening (kept_after side.Unit kept bytes)
    → IfSome o (λ x. IsAnswered HexLines (content_sent x) state (heard_in side.Unit kept bytes) mid h k)
    → IfSome o (λ x. IsAnswered HexLines (content_sent x) mid (heard_in side.Unit scan.kept more) after k l)
    → IfSome o (λ x. IsAnswered HexLines (content_sent x) state (heard_in side.Unit kept (bytes ++ more)) after h l)
answered_more o state mid after kept bytes more scan h k l is first next =
    both_told o _ first next (λ x told f g. subst (λ (seen : List Heard). IsAnswered HexLines (content_sent x) state seen after h l) (heard_more kept bytes more scan is)
    (answered_on HexLines (content_sent x) state mid after (heard_in side.Unit kept bytes) (heard_in side.Unit scan.kept more) h k l f g))

-- more text has come of a line
pub heard_start : (was text front : List ℕ) (behind : List (List ℕ)) (whole : ℕ) (scan : Scan) (state : LinkState) (o h : Option (List ℕ)) → pieces 10 was ≡ was ∷ [] → pieces 10 text ≡ front ∷ behind
    → scan ≡ listening scan.kept → AreHeard (pieces 10 (was ++ text)) behind whole scan.kept state (was ++ front) whole scan state o h h
heard_start was text front behind whole scan state o h one is listens = record {
  ended = [];
  bytes = [];
  stands = one_more 10 was text front behind one is;
  spell = refl;
  count = omega arith;
  hears = listens;
  answered = told_all o _ (λ x told. none_answered HexLines (content_sent x) state h);
}

-- the line has ended, and this has come of the next one
pub heard_on : {all behind : List (List ℕ)} {whole : ℕ} {kept : List ℕ} {state : LinkState} {text : List ℕ} {reached : ℕ} {scan : Scan} {mid : LinkState} {o h k : Option (List ℕ)}
    (rest front : List ℕ) (next : Scan) (after : LinkState) (l : Option (List ℕ)) → AreHeard all (pieces 10 rest) whole kept state text reached scan mid o h k → IsHeard text scan.kept mid next after o k l
    → pieces 10 rest ≡ front ∷ behind → AreHeard all behind whole kept state front (reached + 1) next after o h l
heard_on {all} {behind} {whole} {kept} {state} {text} {reached} {scan} {mid} {o} {h} {k} rest front next after l a b is = record {
  ended = a.ended ++ text ∷ [];
  bytes = a.bytes ++ b.bytes;
  stands = a.stands ∙ ap (λ (ls : List (List ℕ)). a.ended ++ text ∷ ls) is ∙ sym (append_assoc a.ended (text ∷ []) (front ∷ behind));
  spell = bytes_on a.ended (text ∷ []) a.bytes b.bytes a.spell (one_line text b.bytes b.spell);
  count = omega (arith, a.count, length-append a.ended (text ∷ []));
  hears = kept_more kept a.bytes b.bytes scan next a.hears b.hears;
  answered = answered_more o state mid after kept a.bytes b.bytes scan h k l a.hears a.answered b.answered;
}

-- the same by other names
pub heard_as : {all rest : List (List ℕ)} {whole : ℕ} {kept : List ℕ} {state : LinkState} {text now : List ℕ} {reached count : ℕ} {line next : Line} {o h k : Option (List ℕ)}
    → AreHeard all rest whole kept state text reached line.scanner line.session.state o h k → now ≡ text → count ≡ reached → next ≡ line
    → AreHeard all rest whole kept state now count next.scanner next.session.state o h k
heard_as {all} {rest} {whole} {kept} {state} {text} {now} {reached} {count} {line} {next} {o} {h} {k} a text_is count_is line_is =
    subst (λ (t : List ℕ). AreHeard all rest whole kept state t count next.scanner next.session.state o h k) (sym text_is)
    (subst (λ (n : ℕ). AreHeard all rest whole kept state text n next.scanner next.session.state o h k) (sym count_is)
    (subst (λ (v : Line). AreHeard all rest whole kept state text reached v.scanner v.session.state o h k) (sym line_is) a))

-- where the line need not have ended, or has
pub ended_where : (fault : LinesFault) (P : Type 0) → P → EndedWhere fault P
ended_where (Ended fault) P p = tt
ended_where (BadLine number) P p = p
ended_where Memory P p = tt

-- a service ends at the line that has begun
pub stops_here : {all behind : List (List ℕ)} {whole : ℕ} {kept : List ℕ} {state : LinkState} {text : List ℕ} {reached : ℕ} {scan : Scan} {mid : LinkState} {o h k : Option (List ℕ)}
    (fault : LinesFault) (source : Type 0) (l : Option (List ℕ)) → AreHeard all behind whole kept state text reached scan mid o h k → EndedWhere fault ((behind ≢ []) ⊎ source)
    → IfSome o (λ x. StopsAt fault (content_sent x) mid scan.kept text (reached + 1) k l) → IfSome o (λ x. StopsAmong fault source all (content_sent x) whole kept state h l)
stops_here {all} {behind} {whole} {kept} {state} {text} {reached} {scan} {mid} {o} {h} {k} fault source l a ended stops =
    both_told o _ a.answered stops (λ x told f g. record {
      before = a.ended;
      line = text;
      behind = behind;
      bytes = a.bytes;
      reached = mid;
      mid = k;
      stands = a.stands;
      ended = ended;
      spell = a.spell;
      answered = f;
      stops = subst (λ (n : ℕ). StopsAt fault (content_sent x) mid (kept_after side.Unit kept a.bytes) text (n + 1) k l) a.count
          (subst (λ (s : Scan). StopsAt fault (content_sent x) mid s.kept text (reached + 1) k l) a.hears g);
    })

pub out_here : {all behind : List (List ℕ)} {whole : ℕ} {kept : List ℕ} {state : LinkState} {text : List ℕ} {reached : ℕ} {scan : Scan} {mid : LinkState} {o h k : Option (List ℕ)}
    (source : Type 0) → AreHeard all behind whole kept state text reached scan mid o h k → IfSome o (λ x. StopsAmong Memory source all (content_sent x) whole kept state h k)
out_here {all} {behind} {whole} {kept} {state} {text} {reached} {scan} {mid} {o} {h} {k} source a = stops_here Memory source k a tt (told_all o _ (λ x told. refl))

-- lines from the start, and those of more text
pub heard_then : {whole : ℕ} {kept : List ℕ} {state : LinkState} {text : List ℕ} {reached : ℕ} {scan : Scan} {mid : LinkState} {o h k : Option (List ℕ)} (came more : List ℕ)
    (now : List ℕ) (count : ℕ) (next : Scan) (after : LinkState) (l : Option (List ℕ))
    → AreHeard (pieces 10 came) [] whole kept state text reached scan mid o h k → AreHeard (pieces 10 (text ++ more)) [] reached scan.kept mid now count next after o k l
    → AreHeard (pieces 10 (came ++ more)) [] whole kept state now count next after o h l
heard_then {whole} {kept} {state} {text} {reached} {scan} {mid} {o} {h} {k} came more now count next after l a b = record {
  ended = a.ended ++ b.ended;
  bytes = a.bytes ++ b.bytes;
  stands = pieces_on 10 came a.ended text more a.stands ∙ ap (λ (ls : List (List ℕ)). a.ended ++ ls) b.stands ∙ sym (append_assoc a.ended b.ended (now ∷ []));
  spell = bytes_on a.ended b.ended a.bytes b.bytes a.spell b.spell;
  count = omega (arith, a.count, b.count, length-append a.ended b.ended);
  hears = kept_more kept a.bytes b.bytes scan next a.hears b.hears;
  answered = answered_more o state mid after kept a.bytes b.bytes scan h k l a.hears a.answered b.answered;
}

pub stops_then : {whole : ℕ} {kept : List ℕ} {state : LinkState} {text : List ℕ} {reached : ℕ} {scan : Scan} {mid : LinkState} {o h k : Option (List ℕ)} (came more : List ℕ)
    (fault : LinesFault) (source : Type 0) (l : Option (List ℕ)) → AreHeard (pieces 10 came) [] whole kept state text reached scan mid o h k
    → IfSome o (λ x. StopsAmong fault source (pieces 10 (text ++ more)) (content_sent x) reached scan.kept mid k l)
    → IfSome o (λ x. StopsAmong fault source (pieces 10 (came ++ more)) (content_sent x) whole kept state h l)
stops_then {whole} {kept} {state} {text} {reached} {scan} {mid} {o} {h} {k} came more fault source l a stops =
    both_told o _ a.answered stops (λ x told f g.
    let keeps : kept_after side.Unit scan.kept g.bytes ≡ kept_after side.Unit kept (a.bytes ++ g.bytes) =
    ap (λ (s : Scan). kept_after side.Unit s.kept g.bytes) a.hears ∙ sym (kept_append side.Unit kept a.bytes g.bytes) in
    let number : reached + length g.before + 1 ≡ whole + length (a.ended ++ g.before) + 1 = omega (arith, a.count, length-append a.ended g.before) in
    record {
      before = a.ended ++ g.before;
      line = g.line;
      behind = g.behind;
      bytes = a.bytes ++ g.bytes;
      reached = g.reached;
      mid = g.mid;
      stands = pieces_on 10 came a.ended text more a.stands ∙ ap (λ (ls : List (List ℕ)). a.ended ++ ls) g.stands ∙ sym (append_assoc a.ended g.before (g.line ∷ g.behind));
      ended = g.ended;
      spell = bytes_on a.ended g.before a.bytes g.bytes a.spell g.spell;
      answered = subst (λ (seen : List Heard). IsAnswered HexLines (content_sent x) state seen g.reached h g.mid) (heard_more kept a.bytes g.bytes scan a.hears)
          (answered_on HexLines (content_sent x) state mid g.reached (heard_in side.Unit kept a.bytes) (heard_in side.Unit scan.kept g.bytes) h k g.mid f g.answered);
      stops = subst (λ (n : ℕ). StopsAt fault (content_sent x) g.reached (kept_after side.Unit kept (a.bytes ++ g.bytes)) g.line n g.mid l) number
          (subst (λ (b : List ℕ). StopsAt fault (content_sent x) g.reached b g.line (reached + length g.before + 1) g.mid l) keeps g.stops);
    })
