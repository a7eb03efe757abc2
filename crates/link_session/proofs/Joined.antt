-- The answers go on where the unit stands.
use Rattle.std.proofs.Common.{◌≡◌, ℕ, ◌+◌, ◌≤◌, min, List, [], ◌∷◌, ◌++◌, length, take, map, Option, refl, sym, ◌∙◌, ap, subst, append_assoc, arith}
use Rattle.std.specs.List.{concat}
use Rattle.std.proofs.lemmas.List.{map-append, take-append-le, take_min}
use Rattle.std.proofs.lemmas.List.Folds.{concat-append}
use Rattle.std.proofs.Math.Seq.{take-append-add}
use Rattle.std.specs.Io.KnownBytes.{Appends}
use Rattle.std.proofs.KnownBytes.{Appends-nil, Appends-trans}
use Rattle.tach_media.specs.Streams.{AppendsFront}
use Rattle.link_model.specs.declared.request.Request.{Request}
use Rattle.link_model.specs.Frames.{Heard}
use Rattle.link_model.specs.Answers.{LinkState, run_from}
use Rattle.link_frames.specs.Asking.{asks_unit}
use Rattle.link_frames.specs.Running.{state_after}
use Rattle.link_frames.proofs.Runs.{run_append, after_append}
use Rattle.link_session.specs.declared.line.Spelling.{Spelling}
use Rattle.link_session.specs.Lines.{bytes_of, spelled, IsAnswered, StopsAsking}
use Rattle.link_session.specs.Served.{Stops}
use Rattle.link_session.specs.declared.fault.ServeFault.{ServeFault}
use Rattle.link_session.specs.declared.fault.ServeFault.TheVariants.{ReadFault, WriteFault, Failed, BadUnit, TooLong}

bytes_append : (spelling : Spelling) (a b : List (List ℕ)) → bytes_of spelling (a ++ b) ≡ bytes_of spelling a ++ bytes_of spelling b
bytes_append spelling a b = ap (λ (l : List (List ℕ)). concat l) (map-append (spelled spelling) a b) ∙ concat-append (map (spelled spelling) a) (map (spelled spelling) b)

-- the answers to what was heard, and to more from where the unit stands then
answers_append : (spelling : Spelling) (messages : Request → Option (List ℕ)) (a b : LinkState) (seen more : List Heard) → b ≡ state_after messages a seen
    → bytes_of spelling (run_from messages a seen) ++ bytes_of spelling (run_from messages b more) ≡ bytes_of spelling (run_from messages a (seen ++ more))
answers_append spelling messages a b seen more stands =
    ap (λ (s : LinkState). bytes_of spelling (run_from messages a seen) ++ bytes_of spelling (run_from messages s more)) stands
    ∙ sym (ap (λ (l : List (List ℕ)). bytes_of spelling l) (run_append messages a seen more) ∙ bytes_append spelling (run_from messages a seen) (run_from messages (state_after messages a seen) more))

-- more was answered
pub sent_on : (spelling : Spelling) (messages : Request → Option (List ℕ)) (a b : LinkState) (seen more : List Heard) (h k l : Option (List ℕ)) → IsAnswered spelling messages a seen b h k
    → Appends k l (bytes_of spelling (run_from messages b more)) → Appends h l (bytes_of spelling (run_from messages a (seen ++ more)))
sent_on spelling messages a b seen more h k l f sent =
    subst (λ (o : List ℕ). Appends h l o) (answers_append spelling messages a b seen more f.stands)
    (Appends-trans h k l (bytes_of spelling (run_from messages a seen)) (bytes_of spelling (run_from messages b more)) f.sent sent)

pub answered_on : (spelling : Spelling) (messages : Request → Option (List ℕ)) (a b c : LinkState) (seen more : List Heard) (h k l : Option (List ℕ)) → IsAnswered spelling messages a seen b h k
    → IsAnswered spelling messages b more c k l → IsAnswered spelling messages a (seen ++ more) c h l
answered_on spelling messages a b c seen more h k l f g = record {
  stands = g.stands ∙ ap (λ (s : LinkState). state_after messages s more) f.stands ∙ sym (after_append messages a seen more);
  sent = sent_on spelling messages a b seen more h k l f g.sent;
}

-- nothing was heard yet
pub none_answered : (spelling : Spelling) (messages : Request → Option (List ℕ)) (state : LinkState) (h : Option (List ℕ)) → IsAnswered spelling messages state [] state h h
none_answered spelling messages state h = record { stands = refl; sent = Appends-nil h }

-- a front of bytes is a front of more
front_more : (h k : Option (List ℕ)) (xs ys : List ℕ) → AppendsFront h k xs → AppendsFront h k (xs ++ ys)
front_more h k xs ys f =
    let le : min f.0 (length xs) ≤ length xs = omega arith in
    (min f.0 (length xs), subst (λ (o : List ℕ). Appends h k o) (sym (take-append-le (min f.0 (length xs)) xs ys le ∙ take_min f.0 xs)) f.1)

-- bytes and a front of more
front_behind : (h k l : Option (List ℕ)) (xs ys : List ℕ) → Appends h k xs → AppendsFront k l ys → AppendsFront h l (xs ++ ys)
front_behind h k l xs ys a f =
    (length xs + f.0, subst (λ (o : List ℕ). Appends h l o) (sym (take-append-add xs ys f.0)) (Appends-trans h k l xs (take f.0 ys) a f.1))

asking_more : (spelling : Spelling) (messages : Request → Option (List ℕ)) (state : LinkState) (seen more : List Heard) (h k : Option (List ℕ)) → StopsAsking spelling messages state seen h k → StopsAsking spelling messages state (seen ++ more) h k
asking_more spelling messages state seen more h k a = record {
  before = a.before;
  asking = a.asking;
  behind = a.behind ++ more;
  seen_are = ap (λ (l : List Heard). l ++ more) a.seen_are ∙ append_assoc a.before (a.asking ∷ a.behind) more;
  asks = a.asks;
  sent = a.sent;
}

asking_behind : (spelling : Spelling) (messages : Request → Option (List ℕ)) (a b : LinkState) (seen more : List Heard) (h k l : Option (List ℕ)) → IsAnswered spelling messages a seen b h k
    → StopsAsking spelling messages b more k l → StopsAsking spelling messages a (seen ++ more) h l
asking_behind spelling messages a b seen more h k l f g = record {
  before = seen ++ g.before;
  asking = g.asking;
  behind = g.behind;
  seen_are = ap (λ (l : List Heard). seen ++ l) g.seen_are ∙ sym (append_assoc seen g.before (g.asking ∷ g.behind));
  asks = ap (λ (s : LinkState). asks_unit s g.asking) (after_append messages a seen g.before ∙ ap (λ (s : LinkState). state_after messages s g.before) (sym f.stands)) ∙ g.asks;
  sent = sent_on spelling messages a b seen g.before h k l f g.sent;
}

-- what ended the answers to what was heard ends those to more
pub stops_more : (spelling : Spelling) (fault : ServeFault) (messages : Request → Option (List ℕ)) (state : LinkState) (seen more : List Heard) (h k : Option (List ℕ))
    → Stops spelling fault messages state seen h k → Stops spelling fault messages state (seen ++ more) h k
stops_more spelling ReadFault messages state seen more h k p = absurd p
stops_more spelling WriteFault messages state seen more h k p =
    subst (λ (o : List ℕ). AppendsFront h k o) (answers_append spelling messages state (state_after messages state seen) seen more refl)
    (front_more h k (bytes_of spelling (run_from messages state seen)) (bytes_of spelling (run_from messages (state_after messages state seen) more)) p)
stops_more spelling Failed messages state seen more h k p = asking_more spelling messages state seen more h k p
stops_more spelling (BadUnit place) messages state seen more h k p = asking_more spelling messages state seen more h k p
stops_more spelling TooLong messages state seen more h k p = absurd p

-- the answers end behind those that were given
pub stops_behind : (spelling : Spelling) (fault : ServeFault) (messages : Request → Option (List ℕ)) (a b : LinkState) (seen more : List Heard) (h k l : Option (List ℕ)) → IsAnswered spelling messages a seen b h k
    → Stops spelling fault messages b more k l → Stops spelling fault messages a (seen ++ more) h l
stops_behind spelling ReadFault messages a b seen more h k l f p = absurd p
stops_behind spelling WriteFault messages a b seen more h k l f p =
    subst (λ (o : List ℕ). AppendsFront h l o) (answers_append spelling messages a b seen more f.stands)
    (front_behind h k l (bytes_of spelling (run_from messages a seen)) (bytes_of spelling (run_from messages b more)) f.sent p)
stops_behind spelling Failed messages a b seen more h k l f p = asking_behind spelling messages a b seen more h k l f p
stops_behind spelling (BadUnit place) messages a b seen more h k l f p = asking_behind spelling messages a b seen more h k l f p
stops_behind spelling TooLong messages a b seen more h k l f p = absurd p
