-- The entries by hand of a run as a second begins, goes on and ends: where none is asked and none is found, and no session is new.
use Rattle.std.proofs.Common.{◌≡◌, inl, ⊎_elim, ℕ, Option, Some, None, List, [], ◌∷◌, ◌++◌, map, refl, ap, sym, ◌∙◌, subst, arith, append-nil, inr}
use Rattle.std.specs.Prelude.{flat_map}
use Rattle.std.proofs.lemmas.Grind.{flat_map-append}
use Rattle.run_devices.specs.trace_model.declared.Card.{Card}
use Rattle.run_devices.specs.trace_model.Trace.{TraceSecond}
use Rattle.run_devices.specs.log_model.declared.lines.Mark.{Mark}
use Rattle.run_devices.specs.log_model.declared.lines.Refused.{Refused}
use Rattle.run_devices.specs.log_model.declared.lines.Verdict.{Verdict}
use Rattle.run_devices.specs.log_model.Causes.{device_of}
use Rattle.run_devices.specs.log_model.Log.{RunLog, Phase, In}
use Rattle.run_devices.specs.log_model.Course.{ToldSecond, Visit, Course, went}
use Rattle.run_devices.specs.log_model.ByHand.{Asked, asked_of}
use Rattle.run_devices.specs.hand_model.Written.{Hands, no_hands}
use Rattle.run_devices.specs.safety_model.Unit.{marks_of}
use Rattle.run_devices.specs.safety_model.Hands.{Session, sessions_of, sessions_found, sessions_in}
use Rattle.run_devices.specs.run_promise.Found.{Found}
use Rattle.run_devices.specs.run_promise.Cards.{FirstKeep}
use Rattle.run_devices.specs.run_promise.Beside.{CardsTold, cards_of, TellsMore, AreIdle}
use Rattle.run_devices.specs.run_crew.declared.cards.Accepted.{Accepted}
use Rattle.run_record.specs.HeldHands.{HandsGo, WasKnown, WasKnownLast}
use Rattle.run_record.specs.Handed.{actions_to, asked_so_far, done_for, sessions_so_far, AreToldOf, AreHanded, StayOrEnd, AreHandedBehind, AreHandedIn, asked_for}
use Rattle.run_record.proofs.HandsFold.{hands-gone}
use Rattle.run_devices.specs.trace_model.declared.Card.TheVariants.{A, B}
use Rattle.run_devices.specs.run_crew.declared.cards.Cards.{Cards}
use Rattle.run_devices.specs.run_crew.Cards.{session_of, with_session}
use Rattle.run_record.proofs.Stopped.{stopped-as, known-behind, stopped-behind}
use Rattle.run_devices.specs.history_model.Minutes.{HistoryMinute}
use Rattle.run_devices.specs.history_model.Presence.{Start}

-- the same sessions, the same done, the same marks, the same session
pub go-as : (all now : List Session) (done after_it : List Asked) (marks ms : List Mark) (h : Hands) (firsts : List FirstKeep) (x y : Option Accepted) → all ≡ now → done ≡ after_it → marks ≡ ms → x ≡ y → HandsGo all done marks h firsts x → HandsGo now after_it ms h firsts y
go-as all now done after_it marks ms h firsts x y sessions did told same go =
    subst (HandsGo now after_it ms h firsts) same
    (subst (λ (l : List Mark). HandsGo now after_it l h firsts x) told
    (subst (λ (l : List Asked). HandsGo now l marks h firsts x) did
    (subst (λ (l : List Session). HandsGo l done marks h firsts x) sessions go)))

-- the newest minute of an acceptance: of the same marks, sessions and session
pub known-as : (start : Start) (past : List HistoryMinute) (c : Card) (marks ms : List Mark) (all now : List Session) (x y : Option Accepted) → marks ≡ ms → all ≡ now → x ≡ y → WasKnownLast start past c marks all x → WasKnownLast start past c ms now y
known-as start past c marks ms all now x y told sessions same was =
    subst (WasKnownLast start past c ms now) same
    (subst (λ (l : List Session). WasKnownLast start past c ms l x) sessions
    (subst (λ (l : List Mark). WasKnownLast start past c l all x) told was))

-- of none
pub known-none : (start : Start) (past : List HistoryMinute) (c : Card) (marks : List Mark) (all : List Session) (x : Option Accepted) → x ≡ None → WasKnownLast start past c marks all x
known-none start past c marks all x none = subst (WasKnownLast start past c marks all) (sym none) tt

-- and where more minutes are kept
pub known-more : (start : Start) (past more : List HistoryMinute) (c : Card) (marks : List Mark) (all : List Session) (x : Option Accepted) → WasKnownLast start past c marks all x → WasKnownLast start (past ++ more) c marks all x
known-more start past more c marks all None was = tt
known-more start past more c marks all (Some a) was = λ s last_.
    let h : WasKnown start past c marks s a = was s last_ in
    record { newest = h.newest; most = known-behind start past more c s.second h.newest h.most; above = h.above; same = h.same }

-- ALL OF IT, where these are the same, and each session is as it was, or is over
pub all-go : {start : Start} {past : List HistoryMinute} (f : Found) (sessions now : Card → List Session) (asked then_ : List Asked) (stops : List Refused) (marks : List Mark) (hands : Card → Hands) (firsts : Card → List FirstKeep) (session after : Card → Option Accepted)
    → ((c : Card) → now c ≡ sessions c) → then_ ≡ asked → StayOrEnd session after → AreHanded start past f sessions asked stops marks hands firsts session → AreHanded start past f now then_ stops marks hands firsts after
all-go {start} {past} f sessions now asked then_ stops marks hands firsts session after same_sessions same_asked fewer go = record {
  each = λ c valid.
      let ms : List Mark = marks_of (device_of c) marks in
      let did : done_for c stops asked ≡ done_for c stops then_ = ap (done_for c stops) (sym same_asked) in ⊎_elim
      (λ same. go-as (sessions c) (now c) (done_for c stops asked) (done_for c stops then_) ms ms (hands c) (firsts c) (session c) (after c) (sym (same_sessions c)) did refl (sym same) (go.each c valid))
      (λ none. go-as (sessions c) (now c) (done_for c stops asked) (done_for c stops then_) ms ms (hands c) (firsts c) None (after c) (sym (same_sessions c)) did refl (sym none) (hands-gone (sessions c) (done_for c stops asked) ms (hands c) (firsts c) (session c) (go.each c valid)))
      (fewer c);
  known = λ c valid.
      let ms : List Mark = marks_of (device_of c) marks in ⊎_elim
      (λ same. known-as start past c ms ms (sessions c) (now c) (session c) (after c) refl (sym (same_sessions c)) (sym same) (go.known c valid))
      (λ none. known-none start past c ms (now c) (after c) none)
      (fewer c);
  stopped = λ c valid.
      let ms : List Mark = marks_of (device_of c) marks in
      stopped-as start past c (sessions c) (now c) (done_for c stops asked) (done_for c stops then_) ms ms stops stops (asked_for c asked) (asked_for c then_) (sym (same_sessions c)) (ap (done_for c stops) (sym same_asked)) refl refl (ap (asked_for c) (sym same_asked)) (go.stopped c valid);
  told = subst (AreToldOf stops) (sym same_asked) go.told;
}

-- the same sessions are not more
pub none-less : (session : Card → Option Accepted) → StayOrEnd session session
none-less session c = inl refl

-- a card's session is closed, or closed twice
pub less-stay : (card : Card) (cards : Cards) → StayOrEnd (session_of cards) (session_of (with_session card None cards))
less-stay A cards A = inr refl
less-stay A cards B = inl refl
less-stay B cards A = inl refl
less-stay B cards B = inr refl

pub stay-both : (x y z : Card → Option Accepted) → StayOrEnd x y → StayOrEnd y z → StayOrEnd x z
stay-both x y z first then_ card = ⊎_elim
    (λ same. ⊎_elim (λ was. inl (same ∙ was)) (λ none. inr (same ∙ none)) (first card))
    (λ none. inr none)
    (then_ card)

-- A SECOND BEGINS behind others: nothing of it is found or asked yet
pub handed-begins : {start : Start} {past : List HistoryMinute} (f : Found) (log : RunLog) (done : List TraceSecond) (s : TraceSecond) (course : Course) (stops : List Refused) (marks : List Mark) (hands : Card → Hands) (firsts : Card → List FirstKeep) (session : Card → Option Accepted) → course.found ≡ []
    → AreHandedBehind start past f log done stops marks hands firsts session → AreHandedIn start past f log done s (In 0) log course stops marks hands firsts session
handed-begins f log done s course stops marks hands firsts session none behind =
    all-go f (λ c. sessions_in c (went log done).told) (λ c. sessions_so_far c (went log done).told s.number course) (asked_of log done) (asked_so_far log done log s []) stops marks hands firsts session session
    (λ c. ap (λ (found : List (Visit × Verdict)). sessions_in c (went log done).told ++ sessions_found c s.number found) none ∙ append-nil (sessions_in c (went log done).told))
    (append-nil (asked_of log done))
    (none-less session) behind

-- IT GOES ON, with nothing more found or asked
pub handed-fewer : {start : Start} {past : List HistoryMinute} (f : Found) (began : RunLog) (done : List TraceSecond) (s : TraceSecond) (at next : Phase) (log later : RunLog) (course after_it : Course) (stops : List Refused) (marks : List Mark) (hands : Card → Hands) (firsts : Card → List FirstKeep) (session after : Card → Option Accepted)
    → after_it.found ≡ course.found → asked_so_far began done later s (actions_to next s.actions) ≡ asked_so_far began done log s (actions_to at s.actions) → StayOrEnd session after
    → AreHandedIn start past f began done s at log course stops marks hands firsts session → AreHandedIn start past f began done s next later after_it stops marks hands firsts after
handed-fewer f began done s at next log later course after_it stops marks hands firsts session after found asked fewer go =
    all-go f (λ c. sessions_so_far c (went began done).told s.number course) (λ c. sessions_so_far c (went began done).told s.number after_it) (asked_so_far began done log s (actions_to at s.actions))
    (asked_so_far began done later s (actions_to next s.actions)) stops marks hands firsts session after
    (λ c. ap (λ (l : List (Visit × Verdict)). sessions_in c (went began done).told ++ sessions_found c s.number l) found)
    asked fewer go

pub handed-on : {start : Start} {past : List HistoryMinute} (f : Found) (began : RunLog) (done : List TraceSecond) (s : TraceSecond) (at next : Phase) (log later : RunLog) (course after_it : Course) (stops : List Refused) (marks : List Mark) (hands : Card → Hands) (firsts : Card → List FirstKeep) (session : Card → Option Accepted)
    → after_it.found ≡ course.found → asked_so_far began done later s (actions_to next s.actions) ≡ asked_so_far began done log s (actions_to at s.actions)
    → AreHandedIn start past f began done s at log course stops marks hands firsts session → AreHandedIn start past f began done s next later after_it stops marks hands firsts session
handed-on f began done s at next log later course after_it stops marks hands firsts session found asked go = handed-fewer f began done s at next log later course after_it stops marks hands firsts session session found asked (none-less session) go

-- THE SECOND IS OVER, with what was found and asked in it
pub handed-over : {start : Start} {past : List HistoryMinute} (f : Found) (began log later : RunLog) (done : List TraceSecond) (s : TraceSecond) (at : Phase) (course : Course) (t : ToldSecond) (stops : List Refused) (marks : List Mark) (hands : Card → Hands) (firsts : Card → List FirstKeep) (session after : Card → Option Accepted)
    → asked_of later (done ++ s ∷ []) ≡ asked_so_far began done log s (actions_to at s.actions) → (went later (done ++ s ∷ [])).told ≡ (went began done).told ++ t ∷ [] → t.second.number ≡ s.number → t.course.found ≡ course.found → StayOrEnd session after
    → AreHandedIn start past f began done s at log course stops marks hands firsts session → AreHandedBehind start past f later (done ++ s ∷ []) stops marks hands firsts after
handed-over f began log later done s at course t stops marks hands firsts session after asked told number found fewer go =
    all-go f (λ c. sessions_so_far c (went began done).told s.number course) (λ c. sessions_in c (went later (done ++ s ∷ [])).told) (asked_so_far began done log s (actions_to at s.actions)) (asked_of later (done ++ s ∷ []))
    stops marks hands firsts session after
    (λ c.
    ap (sessions_in c) told
    ∙ flat_map-append (sessions_of c) (went began done).told (t ∷ [])
    ∙ ap (λ (l : List Session). sessions_in c (went began done).told ++ l) (append-nil (sessions_of c t))
    ∙ ap (λ (n : ℕ). sessions_in c (went began done).told ++ sessions_found c n t.course.found) number
    ∙ ap (λ (l : List (Visit × Verdict)). sessions_in c (went began done).told ++ sessions_found c s.number l) found)
    asked fewer go

-- ---- seconds in which nothing is found

-- sessions by what seconds tell of cards
by-cards : (c : Card) (told : List ToldSecond) → sessions_in c told ≡ flat_map (λ (k : CardsTold). sessions_found c k.number k.found) (map cards_of told)
by-cards c [] = refl
by-cards c (t ∷ told) = ap (λ (l : List Session). sessions_of c t ++ l) (by-cards c told)

idle-cards : (c : Card) (more : List ToldSecond) → AreIdle more → flat_map (λ (k : CardsTold). sessions_found c k.number k.found) (map cards_of more) ≡ []
idle-cards c [] idle = refl
idle-cards c (t ∷ more) idle =
    ap (λ (found : List (Visit × Verdict)). sessions_found c t.second.number found ++ flat_map (λ (k : CardsTold). sessions_found c k.number k.found) (map cards_of more)) idle.0.1 ∙ idle-cards c more idle.1

pub idle-sessions : (c : Card) (old new more : List ToldSecond) (from : ℕ) → TellsMore old new more from → AreIdle more → sessions_in c new ≡ sessions_in c old
idle-sessions c old new more from tells idle =
    let each : CardsTold → List Session = λ (k : CardsTold). sessions_found c k.number k.found in
    by-cards c new
    ∙ ap (flat_map each) tells.same
    ∙ flat_map-append each (map cards_of old) (map cards_of more)
    ∙ ap (λ (l : List Session). flat_map each (map cards_of old) ++ l) (idle-cards c more idle)
    ∙ append-nil (flat_map each (map cards_of old))
    ∙ sym (by-cards c old)

-- SECONDS MORE, in which nothing is found or asked
pub handed-idle : {start : Start} {past : List HistoryMinute} (f : Found) (log later : RunLog) (done now : List TraceSecond) (more : List ToldSecond) (from : ℕ) (stops : List Refused) (marks : List Mark) (hands : Card → Hands) (firsts : Card → List FirstKeep) (session after : Card → Option Accepted)
    → TellsMore (went log done).told (went later now).told more from → AreIdle more → asked_of later now ≡ asked_of log done → StayOrEnd session after
    → AreHandedBehind start past f log done stops marks hands firsts session → AreHandedBehind start past f later now stops marks hands firsts after
handed-idle f log later done now more from stops marks hands firsts session after tells idle asked fewer go =
    all-go f (λ c. sessions_in c (went log done).told) (λ c. sessions_in c (went later now).told) (asked_of log done) (asked_of later now) stops marks hands firsts session after
    (λ c. idle-sessions c (went log done).told (went later now).told more from tells idle)
    asked fewer go

-- NO CARD HAS A SESSION ANY MORE, as the unit fails
pub handed-gone : {start : Start} {past : List HistoryMinute} (f : Found) (began : RunLog) (done : List TraceSecond) (s : TraceSecond) (at : Phase) (log : RunLog) (course : Course) (stops : List Refused) (marks : List Mark) (hands : Card → Hands) (firsts : Card → List FirstKeep) (session : Card → Option Accepted)
    → AreHandedIn start past f began done s at log course stops marks hands firsts session → AreHandedIn start past f began done s at log course stops marks hands firsts (λ c. None)
handed-gone f began done s at log course stops marks hands firsts session go = record {
  each = λ c valid. hands-gone (sessions_so_far c (went began done).told s.number course) (done_for c stops (asked_so_far began done log s (actions_to at s.actions))) (marks_of (device_of c) marks) (hands c) (firsts c) (session c) (go.each c valid);
  known = λ c valid. tt;
  stopped = go.stopped;
  told = go.told;
}

-- MORE MINUTES ARE KEPT
pub handed-more : (start : Start) (past more : List HistoryMinute) (f : Found) (sessions : Card → List Session) (asked : List Asked) (stops : List Refused) (marks : List Mark) (hands : Card → Hands) (firsts : Card → List FirstKeep) (session : Card → Option Accepted)
    → AreHanded start past f sessions asked stops marks hands firsts session → AreHanded start (past ++ more) f sessions asked stops marks hands firsts session
handed-more start past more f sessions asked stops marks hands firsts session go = record {
  each = go.each;
  known = λ c valid. known-more start past more c (marks_of (device_of c) marks) (sessions c) (session c) (go.known c valid);
  stopped = λ c valid. stopped-behind start past more c (sessions c) (done_for c stops asked) (marks_of (device_of c) marks) stops (asked_for c asked) (go.stopped c valid);
  told = go.told;
}

-- AT THE FIRST SECOND nothing was asked, and nothing is held
pub hands-none : HandsGo [] [] [] no_hands [] None
hands-none = record { holds = tt; part = tt; wrote = λ s next m first. let at = first.mark in absurd (omega (arith, at.1)) }
