-- A service of lines so far.
use Rattle.std.proofs.Common.{◌≡◌, ℕ, ◌+◌, ◌-◌, ◌<◌, ◌≤◌, min, false, List, [], ◌∷◌, ◌++◌, length, take, Option, Some, IfSome, Result, Ok, Err, append-nil, refl, sym, ◌∙◌, ap, subst, length-append, length-take, ⊎_elim, inl, inr, arith}
use Rattle.std.specs.Prelude.{IsErrAnd, OnOk, IfErr, ◌≢◌, ◌⊎◌}
use Rattle.std.specs.Io.KnownBytes.{Appends, Consumes, Keeps, IsAtEnd}
use Rattle.std.proofs.KnownBytes.{Consumes-nil, Consumes-trans, Consumes-kept}
use Rattle.std.proofs.lemmas.List.{take_all, take-take, take_min}
use Rattle.std.proofs.Math.Seq.{take-append-add}
use Rattle.tach_media.specs.Medium.{State}
use Rattle.tach_media.proofs.Runs.{both_told}
use Rattle.unit_memory.proofs.Told.{carried, one_told, told_all}
use Rattle.text_fields.specs.Pieces.{pieces}
use Rattle.link_model.specs.declared.request.Request.{Request}
use Rattle.link_model.specs.declared.side.End.TheVariants as side
use Rattle.link_model.specs.Hearing.{heard_in, kept_after}
use Rattle.link_model.specs.Frames.{Heard}
use Rattle.link_model.specs.Answers.{LinkState, Idle}
use Rattle.link_model.proofs.Runs.{heard_append}
use Rattle.link_frames.specs.Scanning.{Scan}
use Rattle.message_model.specs.Sending.{content_sent}
use Rattle.unit_minutes.specs.Reading.{ReadsIfAny}
use Rattle.unit_minutes.proofs.IfAny.{read_same}
use Rattle.link_session.specs.Told.{SessionView, Knows, fresh}
use Rattle.unit_messages.proofs.Calls.{no_call, any_then}
use Rattle.link_session.specs.declared.line.Spelling.TheVariants.{HexLines}
use Rattle.link_session.specs.declared.lines.Lines.{Lines}
use Rattle.link_session.specs.declared.fault.ServeFault.{ServeFault}
use Rattle.link_session.specs.declared.fault.ServeFault.TheVariants.{ReadFault, WriteFault, Failed, BadUnit, TooLong}
use Rattle.link_session.specs.declared.fault.LinesFault.{LinesFault}
use Rattle.link_session.specs.declared.fault.LinesFault.TheVariants.{Ended, BadLine, Memory}
use Rattle.link_session.specs.declared.service.TheConstants.{MOST}
use Rattle.link_session.specs.Lines.{listening, IsAnswered}
use Rattle.link_session.specs.Served.{Stops}
use Rattle.link_session.specs.ServedLines.{bytes_in, lines_to, AreAnswered, WholeAnswered, AreHeard, IsHeard, StopsAt, StopsAmong, LinesSend, AreServed}
use Rattle.link_session.proofs.Joined.{none_answered, answered_on, stops_behind}
use Rattle.link_session.proofs.ServeFaults.{err_is}
use Rattle.link_session.proofs.Pieces.{last_is_one}
use Rattle.link_session.proofs.Heard.{bytes_on, one_line, heard_more, heard_then, stops_then, stops_here, ended_where}

-- Text came, in so many turns at least, and so much more may come; the lines of it that have ended were heard.
pub record IsServingLines (turn left : ℕ) (before unread : Option (List ℕ)) (lines : Lines) (old new : State) (held sunk : Option (List ℕ)) : Type 0 where
  pub came : List ℕ
  pub turns : turn ≤ length came
  pub count : length came + left ≡ MOST
  pub consumed : Consumes before unread came
  pub heard : AreHeard (pieces 10 came) [] 0 [] Idle lines.text.items lines.whole lines.line.scanner lines.line.session.state old.image held sunk
  pub few : lines.whole ≤ length came
  pub knows : IfSome old.image (Knows lines.line.session)
  pub reads : ReadsIfAny old new false

-- whatever the unit, a session that has found nothing knows it
pub fresh_knows : (state : LinkState) (x : List ℕ) → Knows (fresh state) x
fresh_knows state x = record { decodes = λ is. absurd (cc); notes = tt; outlines = tt }

unfoldable pub lines_none : (before held : Option (List ℕ)) (lines : Lines) (s : State) → lines.line.scanner ≡ listening [] → lines.line.session ≡ fresh Idle → lines.text.items ≡ [] → lines.whole ≡ 0
    → IsServingLines 0 MOST before before lines s s held held
lines_none before held lines s scanner session text whole = record {
  came = [];
  turns = omega arith;
  count = refl;
  consumed = Consumes-nil before;
  heard = record {
    ended = [];
    bytes = [];
    stands = ap (λ (t : List ℕ). t ∷ []) (sym text);
    spell = refl;
    count = whole;
    hears = scanner;
    answered = told_all s.image _ (λ x is. subst (λ (t : LinkState). IsAnswered HexLines (content_sent x) Idle [] t held held) (sym (ap (λ (v : SessionView). v.state) session)) (none_answered HexLines (content_sent x) Idle held));
  };
  few = omega (arith, whole);
  knows = told_all s.image _ (λ x is. subst (λ (v : SessionView). Knows v x) (sym session) (fresh_knows Idle x));
  reads = no_call s;
}

pub lines_one : {turn left : ℕ} {a b : Option (List ℕ)} {lines : Lines} {old mid : State} {h k : Option (List ℕ)} → IsServingLines turn left a b lines old mid h k → pieces 10 lines.text.items ≡ lines.text.items ∷ []
lines_one {turn} {left} {a} {b} {lines} {old} {mid} {h} {k} s = last_is_one 10 s.came s.heard.ended lines.text.items s.heard.stands

-- the image before reads
pub heard_before : {all rest : List (List ℕ)} {whole : ℕ} {kept : List ℕ} {state : LinkState} {text : List ℕ} {reached : ℕ} {scan : Scan} {after : LinkState} {o p h k : Option (List ℕ)} → p ≡ o
    → AreHeard all rest whole kept state text reached scan after p h k → AreHeard all rest whole kept state text reached scan after o h k
heard_before {all} {rest} {whole} {kept} {state} {text} {reached} {scan} {after} {o} {p} {h} {k} same a = subst (λ (q : Option (List ℕ)). AreHeard all rest whole kept state text reached scan after q h k) same a

-- lines up to the end of the next text
pub heard_next : {turn left : ℕ} {a b : Option (List ℕ)} {lines : Lines} {old mid : State} {h k : Option (List ℕ)} (next : Lines) (l : Option (List ℕ)) (part : List ℕ) (s : IsServingLines turn left a b lines old mid h k)
    → AreHeard (pieces 10 (lines.text.items ++ part)) [] lines.whole lines.line.scanner.kept lines.line.session.state next.text.items next.whole next.line.scanner next.line.session.state mid.image k l
    → AreHeard (pieces 10 (s.came ++ part)) [] 0 [] Idle next.text.items next.whole next.line.scanner next.line.session.state old.image h l
heard_next {turn} {left} {a} {b} {lines} {old} {mid} {h} {k} next l part s heard =
    heard_then s.came part next.text.items next.whole next.line.scanner next.line.session.state l s.heard (heard_before (read_same s.reads) heard)

-- the next text is heard
unfoldable pub lines_on : {turn left : ℕ} {a b : Option (List ℕ)} {lines : Lines} {old mid : State} {h k : Option (List ℕ)} (c : Option (List ℕ)) (next : Lines) (new : State) (l : Option (List ℕ)) (bytes part : List ℕ) (n : ℕ)
    → IsServingLines turn left a b lines old mid h k → part ≡ bytes → length bytes ≡ n → 0 < n → n ≤ left → Consumes b c bytes
    → AreHeard (pieces 10 (lines.text.items ++ part)) [] lines.whole lines.line.scanner.kept lines.line.session.state next.text.items next.whole next.line.scanner next.line.session.state mid.image k l
    → next.whole ≤ lines.whole + length part → IfSome mid.image (Knows next.line.session) → ReadsIfAny mid new false → IsServingLines (turn + 1) (left - n) a c next old new h l
lines_on {turn} {left} {a} {b} {lines} {old} {mid} {h} {k} c next new l bytes part n s whole long some few consumed heard least knows reads =
    let size : length part ≡ n = ap (λ (p : List ℕ). length p) whole ∙ long in
    record {
      came = s.came ++ bytes;
      turns = omega (arith, length-append s.came bytes, s.turns, long, some);
      count = omega (arith, length-append s.came bytes, s.count, long, few);
      consumed = Consumes-trans a b c s.came bytes s.consumed consumed;
      heard = subst (λ (p : List ℕ). AreHeard (pieces 10 (s.came ++ p)) [] 0 [] Idle next.text.items next.whole next.line.scanner next.line.session.state old.image h l) whole (heard_next next l part s heard);
      few = omega (arith, length-append s.came bytes, s.few, size, long, least);
      knows = carried (Knows next.line.session) (read_same s.reads) knows;
      reads = any_then s.reads reads;
    }

-- the first text of what came, where so much may still come
first_taken : (came bytes : List ℕ) (left : ℕ) → length came + left ≡ MOST → came ++ take left bytes ≡ take MOST (came ++ bytes)
first_taken came bytes left count = sym (subst (λ (n : ℕ). take n (came ++ bytes) ≡ came ++ take left bytes) count (take-append-add came bytes left))

-- the frames of a line end the service
line_stops : (messages : Request → Option (List ℕ)) (fault : ServeFault) (source : Type 0) (text : List ℕ) (h l : Option (List ℕ)) (a : StopsAmong (Ended fault) source (pieces 10 text) messages 0 [] Idle h l)
    → Stops HexLines fault messages Idle (heard_in side.Unit [] (a.bytes ++ a.stops.bytes)) h l
line_stops messages fault source text h l a =
    subst (λ (seen : List Heard). Stops HexLines fault messages Idle seen h l) (sym (heard_append side.Unit [] a.bytes a.stops.bytes))
    (stops_behind HexLines fault messages Idle a.reached (heard_in side.Unit [] a.bytes) (heard_in side.Unit (kept_after side.Unit [] a.bytes) a.stops.bytes) h a.mid l a.answered a.stops.stops)

line_spells : (messages : Request → Option (List ℕ)) (fault : ServeFault) (source : Type 0) (text : List ℕ) (h l : Option (List ℕ)) (a : StopsAmong (Ended fault) source (pieces 10 text) messages 0 [] Idle h l)
    → bytes_in (a.before ++ a.line ∷ []) ≡ Some (a.bytes ++ a.stops.bytes)
line_spells messages fault source text h l a = bytes_on a.before (a.line ∷ []) a.bytes a.stops.bytes a.spell (one_line a.line a.stops.bytes a.stops.spell)

answered_to : (messages : Request → Option (List ℕ)) (fault : LinesFault) (source : Type 0) (all : List (List ℕ)) (h l : Option (List ℕ)) (a : StopsAmong fault source all messages 0 [] Idle h l) → l ≡ a.mid → AreAnswered messages a.before h l
answered_to messages fault source all h l a is = record {
  bytes = a.bytes;
  spell = a.spell;
  sent = subst (λ (k : Option (List ℕ)). Appends h k (lines_to messages a.bytes)) (sym is) a.answered.sent;
}

-- how a service ends among the lines of a text
sends_so : (T : Type 0) (fault : LinesFault) (messages : Request → Option (List ℕ)) (came text : List ℕ) (source : Type 0) (unread h l : Option (List ℕ)) → text ≡ take MOST came → (source → IsAtEnd unread)
    → StopsAmong fault source (pieces 10 text) messages 0 [] Idle h l → LinesSend {T = T} (Err fault) messages came unread h l
sends_so T (Ended ReadFault) messages came text source unread h l is at_end a = absurd a.stops.stops
sends_so T (Ended TooLong) messages came text source unread h l is at_end a = absurd a.stops.stops
sends_so T (Ended WriteFault) messages came text source unread h l is at_end a = record {
  before = a.before;
  line = a.line;
  behind = a.behind;
  stands = record { lines = ap (λ (t : List ℕ). pieces 10 t) (sym is) ∙ a.stands };
  bytes = a.bytes ++ a.stops.bytes;
  spell = line_spells messages WriteFault source text h l a;
  stops = line_stops messages WriteFault source text h l a;
}
sends_so T (Ended Failed) messages came text source unread h l is at_end a = record {
  before = a.before;
  line = a.line;
  behind = a.behind;
  stands = record { lines = ap (λ (t : List ℕ). pieces 10 t) (sym is) ∙ a.stands };
  bytes = a.bytes ++ a.stops.bytes;
  spell = line_spells messages Failed source text h l a;
  stops = line_stops messages Failed source text h l a;
}
sends_so T (Ended (BadUnit place)) messages came text source unread h l is at_end a = record {
  before = a.before;
  line = a.line;
  behind = a.behind;
  stands = record { lines = ap (λ (t : List ℕ). pieces 10 t) (sym is) ∙ a.stands };
  bytes = a.bytes ++ a.stops.bytes;
  spell = line_spells messages (BadUnit place) source text h l a;
  stops = line_stops messages (BadUnit place) source text h l a;
}
sends_so T (BadLine number) messages came text source unread h l is at_end a = record {
  before = a.before;
  line = a.line;
  behind = a.behind;
  stands = record { lines = ap (λ (t : List ℕ). pieces 10 t) (sym is) ∙ a.stands };
  number_is = omega (arith, a.stops.0);
  bad = a.stops.1;
  ended = ⊎_elim (λ some. inl some) (λ source. inr (at_end source)) a.ended;
  answered = answered_to messages (BadLine number) source (pieces 10 text) h l a a.stops.2;
}
sends_so T Memory messages came text source unread h l is at_end a = record {
  before = a.before;
  line = a.line;
  behind = a.behind;
  stands = record { lines = ap (λ (t : List ℕ). pieces 10 t) (sym is) ∙ a.stands };
  answered = answered_to messages Memory source (pieces 10 text) h l a a.stops;
}

-- the service ends in the next text
pub lines_end : {T : Type 0} (r : Result T LinesFault) {turn left : ℕ} {a b : Option (List ℕ)} {lines : Lines} {old mid : State} {h k : Option (List ℕ)} (c l : Option (List ℕ)) (bytes part : List ℕ) (fault : LinesFault)
    → IsErrAnd r (λ e. e ≡ fault) → IsServingLines turn left a b lines old mid h k → Consumes b c bytes → part ≡ take left bytes
    → IfSome mid.image (λ x. StopsAmong fault ⊥ (pieces 10 (lines.text.items ++ part)) (content_sent x) lines.whole lines.line.scanner.kept lines.line.session.state k l)
    → IfSome old.image (λ x. AreServed r (content_sent x) a c h l)
lines_end {T} r {turn} {left} {a} {b} {lines} {old} {mid} {h} {k} c l bytes part fault is s consumed first stops =
    let on = stops_then s.came part fault ⊥ l s.heard
    (carried (λ x. StopsAmong fault ⊥ (pieces 10 (lines.text.items ++ part)) (content_sent x) lines.whole lines.line.scanner.kept lines.line.session.state k l) (read_same s.reads) stops) in
    subst (λ (q : Result T LinesFault). IfSome old.image (λ x. AreServed q (content_sent x) a c h l)) (sym (err_is r fault is))
    (one_told old.image _ on (λ x g. record {
      came = s.came ++ bytes;
      consumed = Consumes-trans a b c s.came bytes s.consumed consumed;
      sends = sends_so T fault (content_sent x) (s.came ++ bytes) (s.came ++ part) ⊥ c h l (ap (λ (p : List ℕ). s.came ++ p) first ∙ first_taken s.came bytes left s.count) (λ none. absurd none) g;
    }))

-- all lines but the last were answered
whole_answered : (messages : Request → Option (List ℕ)) {text rest : List ℕ} {reached : ℕ} {scan : Scan} {after : LinkState} {o h k : Option (List ℕ)} (a : AreHeard (pieces 10 text) [] 0 [] Idle rest reached scan after o h k)
    → IsAnswered HexLines messages Idle (heard_in side.Unit [] a.bytes) after h k → WholeAnswered messages text h k
whole_answered messages {text} {rest} {reached} {scan} {after} {o} {h} {k} a f = record {
  before = a.ended;
  last = rest;
  stands = record { lines = a.stands };
  answered = record { bytes = a.bytes; spell = a.spell; sent = f.sent };
}

-- more came than may
pub lines_too_long : (T : Type 0) {turn left : ℕ} {a b : Option (List ℕ)} {lines : Lines} {old mid : State} {h k : Option (List ℕ)} (c : Option (List ℕ)) (next : Lines) (l : Option (List ℕ)) (bytes part : List ℕ)
    → IsServingLines turn left a b lines old mid h k → Consumes b c bytes → part ≡ take left bytes → left < length bytes
    → AreHeard (pieces 10 (lines.text.items ++ part)) [] lines.whole lines.line.scanner.kept lines.line.session.state next.text.items next.whole next.line.scanner next.line.session.state mid.image k l
    → IfSome old.image (λ x. AreServed {T = T} (Err (Ended TooLong)) (content_sent x) a c h l)
lines_too_long T {turn} {left} {a} {b} {lines} {old} {mid} {h} {k} c next l bytes part s consumed first more heard =
    let on = heard_next next l part s heard in
    one_told old.image _ on.answered (λ x f. record {
      came = s.came ++ bytes;
      consumed = Consumes-trans a b c s.came bytes s.consumed consumed;
      sends = (
        omega (arith, length-append s.came bytes, s.count, more),
        subst (λ (t : List ℕ). WholeAnswered (content_sent x) t h l) (ap (λ (p : List ℕ). s.came ++ p) first ∙ first_taken s.came bytes left s.count) (whole_answered (content_sent x) on f),
      );
    })

-- the source fails
pub lines_broken : (T : Type 0) {turn left : ℕ} {a b : Option (List ℕ)} {lines : Lines} {old mid : State} {h k : Option (List ℕ)} (c : Option (List ℕ)) → IsServingLines turn left a b lines old mid h k → Keeps b c
    → IfSome old.image (λ x. AreServed {T = T} (Err (Ended ReadFault)) (content_sent x) a c h k)
lines_broken T {turn} {left} {a} {b} {lines} {old} {mid} {h} {k} c s keeps =
    one_told old.image _ s.heard.answered (λ x f. record {
      came = s.came;
      consumed = Consumes-kept a b c s.came s.consumed keeps;
      sends = (omega (arith, s.count), whole_answered (content_sent x) s.heard f);
    })

-- the source ends, and the last line with it
all_consumed : {turn left : ℕ} {a b : Option (List ℕ)} {lines : Lines} {old mid : State} {h k : Option (List ℕ)} (c : Option (List ℕ)) (bytes : List ℕ) (s : IsServingLines turn left a b lines old mid h k) → Consumes b c bytes → bytes ≡ [] → Consumes a c s.came
all_consumed {turn} {left} {a} {b} {lines} {old} {mid} {h} {k} c bytes s consumed none =
    subst (λ (l : List ℕ). Consumes a c l) (ap (λ (l : List ℕ). s.came ++ l) none ∙ append-nil s.came) (Consumes-trans a b c s.came bytes s.consumed consumed)

all_answered : (messages : Request → Option (List ℕ)) (mid after : LinkState) (bytes more : List ℕ) (scan : Scan) (h k l : Option (List ℕ)) → scan ≡ listening (kept_after side.Unit [] bytes)
    → IsAnswered HexLines messages Idle (heard_in side.Unit [] bytes) mid h k → IsAnswered HexLines messages mid (heard_in side.Unit scan.kept more) after k l
    → IsAnswered HexLines messages Idle (heard_in side.Unit [] (bytes ++ more)) after h l
all_answered messages mid after bytes more scan h k l is f g =
    subst (λ (seen : List Heard). IsAnswered HexLines messages Idle seen after h l) (heard_more [] bytes more scan is)
    (answered_on HexLines messages Idle mid after (heard_in side.Unit [] bytes) (heard_in side.Unit scan.kept more) h k l f g)

done_so : (T : Type 0) (done : T) {turn left : ℕ} {a b : Option (List ℕ)} {lines : Lines} {old mid : State} {h k : Option (List ℕ)} (c l : Option (List ℕ)) (scan : Scan) (after : LinkState) (s : IsServingLines turn left a b lines old mid h k)
    → Consumes a c s.came → IsHeard lines.text.items lines.line.scanner.kept lines.line.session.state scan after mid.image k l → IfSome old.image (λ x. AreServed {T = T} (Ok done) (content_sent x) a c h l)
done_so T done {turn} {left} {a} {b} {lines} {old} {mid} {h} {k} c l scan after s consumed heard =
    let is = s.heard.hears in
    both_told old.image _ s.heard.answered
    (carried (λ x. IsAnswered HexLines (content_sent x) lines.line.session.state (heard_in side.Unit lines.line.scanner.kept heard.bytes) after k l) (read_same s.reads) heard.answered)
    (λ x told f g. record {
      came = s.came;
      consumed = consumed;
      sends = (
        omega (arith, s.count),
        record {
          bytes = s.heard.bytes ++ heard.bytes;
          spell = ap (λ (ls : List (List ℕ)). bytes_in ls) s.heard.stands ∙ bytes_on s.heard.ended (lines.text.items ∷ []) s.heard.bytes heard.bytes s.heard.spell (one_line lines.text.items heard.bytes heard.spell);
          sent = (all_answered (content_sent x) lines.line.session.state after s.heard.bytes heard.bytes lines.line.scanner h k l is f g).sent;
        },
      );
    })

ends_so : (T : Type 0) (fault : LinesFault) {turn left : ℕ} {a b : Option (List ℕ)} {lines : Lines} {old mid : State} {h k : Option (List ℕ)} (c l : Option (List ℕ)) (s : IsServingLines turn left a b lines old mid h k)
    → Consumes a c s.came → IsAtEnd c → IfSome mid.image (λ x. StopsAt fault (content_sent x) lines.line.session.state lines.line.scanner.kept lines.text.items (lines.whole + 1) k l)
    → IfSome old.image (λ x. AreServed {T = T} (Err fault) (content_sent x) a c h l)
ends_so T fault {turn} {left} {a} {b} {lines} {old} {mid} {h} {k} c l s consumed at_end stops =
    let none : List (List ℕ) = [] in
    let here = stops_here fault (IsAtEnd c) l s.heard (ended_where fault ((none ≢ []) ⊎ IsAtEnd c) (inr at_end))
    (carried (λ x. StopsAt fault (content_sent x) lines.line.session.state lines.line.scanner.kept lines.text.items (lines.whole + 1) k l) (read_same s.reads) stops) in
    one_told old.image _ here (λ x g. record {
      came = s.came;
      consumed = consumed;
      sends = sends_so T fault (content_sent x) s.came s.came (IsAtEnd c) c h l (sym (take_all MOST s.came (omega (arith, s.count)))) (λ p. p) g;
    })

pub lines_done : {T : Type 0} (r : Result T LinesFault) {turn left : ℕ} {a b : Option (List ℕ)} {lines : Lines} {old mid : State} {h k : Option (List ℕ)} (c l : Option (List ℕ)) (scan : Scan) (after : LinkState) (bytes : List ℕ)
    → IsServingLines turn left a b lines old mid h k → Consumes b c bytes → bytes ≡ [] → IsAtEnd c
    → OnOk r (IsHeard lines.text.items lines.line.scanner.kept lines.line.session.state scan after mid.image k l)
    → IfErr r (λ fault. IfSome mid.image (λ x. StopsAt fault (content_sent x) lines.line.session.state lines.line.scanner.kept lines.text.items (lines.whole + 1) k l))
    → IfSome old.image (λ x. AreServed r (content_sent x) a c h l)
lines_done {T} (Ok done) {turn} {left} {a} {b} {lines} {old} {mid} {h} {k} c l scan after bytes s consumed none at_end heard stops =
    done_so T done c l scan after s (all_consumed c bytes s consumed none) heard
lines_done {T} (Err fault) {turn} {left} {a} {b} {lines} {old} {mid} {h} {k} c l scan after bytes s consumed none at_end heard stops =
    ends_so T fault c l s (all_consumed c bytes s consumed none) at_end stops

-- the part of a block that is heard: so much of what came as may come
pub part_is : (taken count left : ℕ) (block : List ℕ) → taken ≡ min count left → take taken block ≡ take left (take count block)
part_is taken count left block is =
    let size : length (take count block) ≡ min count (length block) = length-take count block in
    let same : min taken (length block) ≡ min left (length (take count block)) = omega (arith, is, size) in
    let within : min left (length (take count block)) ≤ count = omega (arith, size) in
    sym (take_min taken block) ∙ ap (λ (n : ℕ). take n block) same ∙ sym (take-take (min left (length (take count block))) count block within) ∙ take_min left (take count block)

pub part_all : (taken count left : ℕ) (block : List ℕ) → taken ≡ min count left → count ≤ left → take taken block ≡ take count block
part_all taken count left block is few =
    let least : taken ≡ count = omega (arith, is, few) in ap (λ (n : ℕ). take n block) least

-- all lines that have ended were answered
abbrev pub Answered : (image came : List ℕ) → (held sunk : Option (List ℕ)) → Type 0
Answered x came held sunk = WholeAnswered (content_sent x) came held sunk

pub lines_answered : {turn left : ℕ} {a b : Option (List ℕ)} {lines : Lines} {old mid : State} {h k : Option (List ℕ)} (s : IsServingLines turn left a b lines old mid h k) → IfSome old.image (λ x. Answered x s.came h k)
lines_answered {turn} {left} {a} {b} {lines} {old} {mid} {h} {k} s = one_told old.image _ s.heard.answered (λ x f. whole_answered (content_sent x) s.heard f)
