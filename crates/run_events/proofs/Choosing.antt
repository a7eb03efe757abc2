-- What is chosen of one second changes no event of the others.
use Rattle.std.proofs.Common.{◌≡◌, ℕ, zero, suc, ◌<◌, Bool, true, false, cond, not, ◌&&◌, nat_lt, Option, Some, None, List, [], ◌∷◌, ◌++◌, map, fold, refl, ap, ◌∙◌, arith, nat_eq}
use Rattle.std.specs.Prelude.{◌==◌, flat_map, option_map, option_to_list}
use Rattle.std.specs.List.{AllByRecursion}
use Rattle.std.proofs.lemmas.Bool.Decides.{nat_tests}
use Rattle.activity_codec.specs.declared.values.Slot.{Slot}
use Rattle.activity_codec.specs.declared.values.Slot.TheVariants.{Driver, CoDriver}
use Rattle.trace_model.specs.declared.Card.{Card}
use Rattle.trace_model.specs.Trace.{TraceSecond}
use Rattle.log_model.specs.declared.lines.Verdict.{Verdict}
use Rattle.log_model.specs.declared.lines.Verdict.TheVariants.{Accepted, NotValid, TimeOverlap}
use Rattle.log_model.specs.Log.{RunLog, Phase, In, Keeping, same_phase, kept_after}
use Rattle.log_model.specs.Slots.{in_slot, other_slot}
use Rattle.log_model.specs.Course.{Visit}
use Rattle.event_model.specs.declared.kinds.TheConstants.{CARD_NOT_VALID, TIME_OVERLAP, DRIVING_WITHOUT_CARD, INSERTION_WHILE_DRIVING, SESSION_NOT_CLOSED, OVER_SPEEDING, POWER_INTERRUPTION, CARD_FAULT}
use Rattle.event_model.specs.declared.entries.Span.{Span}
use Rattle.event_model.specs.Spans.{gap_of}
use Rattle.event_model.specs.Events.{Event, Crew, Seen, Tearing, AreTorn, number_of, last_number, seen_of, seen_on, seen_with, seen_spans, noted_with, with_card, accepted_card, torn_at, accepted_at, standing, gap_event, gaps_between, gap_events, beside_judged, crew_judged, found_events, judged_events, is_first, beside_torn, fault_of, is_codriver_first, torn_in_turn, fault_events, bare_events, over_events, events_of}
use Rattle.run_events.specs.Seconds.{faults_by, found_by}
use Rattle.run_events.specs.Choice.{chosen, told_at, AgreeIn, Agree, AreEarlier, IsTornIn}

-- A SECOND in which they are one
module _ (t u : Tearing) (sessions others : ℕ → Visit → ℕ) (x : Seen) (agree : AgreeIn t u sessions others (number_of x)) where
  stands-same : (slot : Slot) → standing u x slot ≡ standing t x slot
  stands-same slot = ap (λ (b : Bool). cond (torn_at x (In 0) slot && not b) None (accepted_at x (In 0) slot)) (agree.by_gap slot)

  judged-same : (p : Phase) (slot : Slot) → beside_judged u x p slot ≡ beside_judged t x p slot
  judged-same (In zero) Driver = refl
  judged-same (In zero) CoDriver = stands-same Driver
  judged-same (In (suc n)) slot = refl
  judged-same Keeping slot = refl

  crew-same : (v : Visit) (own : Option Card) → crew_judged u x v own ≡ crew_judged t x v own
  crew-same v own = ap (λ (o : Option Card). with_card v.slot own (with_card (other_slot v.slot) o (record { driver = None; codriver = None }))) (judged-same v.phase v.slot)

  found-same : (kind session : ℕ) (v : Visit) (verdict : Verdict) → found_events kind session u x v verdict ≡ found_events kind session t x v verdict
  found-same kind session v (NotValid fid place) = ap (λ (c : Crew). cond (kind == CARD_NOT_VALID) (noted_with kind (number_of x) (number_of x) c ∷ []) []) (crew-same v None)
  found-same kind session v (TimeOverlap stored now) = ap (λ (c : Crew). cond (kind == TIME_OVERLAP) (noted_with kind (number_of x) stored c ∷ []) []) (crew-same v None)
  found-same kind session v (Accepted replayed) =
      ap (λ (c : Crew). cond (kind == INSERTION_WHILE_DRIVING && nat_lt 0 x.told.second.speed) (noted_with kind (number_of x) (number_of x) c ∷ [])
      (cond (kind == SESSION_NOT_CLOSED && nat_lt 0 session) (noted_with kind session (number_of x) c ∷ []) [])) (crew-same v (Some v.card))

  pub flat-same : (kind : ℕ) (fs : List (Visit × Verdict)) →
      flat_map (λ (f : Visit × Verdict). found_events kind (others (number_of x) f.0) u x f.0 f.1) fs ≡ flat_map (λ (f : Visit × Verdict). found_events kind (sessions (number_of x) f.0) t x f.0 f.1) fs
  flat-same kind [] = refl
  flat-same kind (f ∷ fs) =
      λ i. (ap (λ (n : ℕ). found_events kind n u x f.0 f.1) (agree.sessions_are f.0) ∙ found-same kind (sessions (number_of x) f.0) f.0 f.1) i ++ flat-same kind fs i

  pub first-same : (k : ℕ) (slot : Slot) → is_first u (number_of x) k slot ≡ is_first t (number_of x) k slot
  first-same k Driver = agree.driver_first k
  first-same k CoDriver = ap not (agree.driver_first k)

  beside-same : (log : RunLog) (p : Phase) (slot : Slot) → beside_torn u log x p slot ≡ beside_torn t log x p slot
  beside-same log (In zero) Driver =
      ap (λ (b : Bool). cond b (standing u x CoDriver) None) (agree.by_gap Driver) ∙ ap (λ (o : Option Card). cond (t.by_gap (number_of x) Driver) o None) (stands-same CoDriver)
  beside-same log (In zero) CoDriver =
      ap (λ (b : Bool). cond b (accepted_card (x.after 0).driver) (standing u x Driver)) (agree.by_gap CoDriver)
      ∙ ap (λ (o : Option Card). cond (t.by_gap (number_of x) CoDriver) (accepted_card (x.after 0).driver) o) (stands-same Driver)
  beside-same log (In (suc n)) slot =
      ap (λ (b : Bool). cond (torn_at x (In (suc n)) (other_slot slot) && not b) None (accepted_card (in_slot (x.within (suc n)) (other_slot slot)))) (first-same (suc n) slot)
  beside-same log Keeping Driver = refl
  beside-same log Keeping CoDriver = refl

  fault-same : (log : RunLog) (v : Visit) → fault_of u log x v ≡ fault_of t log x v
  fault-same log v =
      ap (λ (o : Option Card). noted_with CARD_FAULT (number_of x) (number_of x) (with_card (other_slot v.slot) o (record { driver = None; codriver = None }))) (beside-same log v.phase v.slot)

  codriver-same : (p : Phase) → is_codriver_first u x p ≡ is_codriver_first t x p
  codriver-same (In zero) = λ i. agree.by_gap Driver i && not (agree.by_gap CoDriver i)
  codriver-same (In (suc n)) = ap not (agree.driver_first (suc n))
  codriver-same Keeping = refl

  turn-same : (vs : List Visit) → torn_in_turn u x vs ≡ torn_in_turn t x vs
  turn-same [] = refl
  turn-same (v ∷ []) = refl
  turn-same (v ∷ w ∷ vs) =
      λ i. cond (same_phase v.phase w.phase && codriver-same v.phase i) (w ∷ v ∷ turn-same vs i) (v ∷ turn-same (w ∷ vs) i)

  map-same : (log : RunLog) (vs : List Visit) → map (fault_of u log x) vs ≡ map (fault_of t log x) vs
  map-same log [] = refl
  map-same log (v ∷ vs) = λ i. fault-same log v i ∷ map-same log vs i

  pub faults-same : (log : RunLog) → faults_by u log x ≡ faults_by t log x
  faults-same log = map-same log (torn_in_turn u x x.told.course.torn) ∙ ap (map (fault_of t log x)) (turn-same x.told.course.torn)

  pub gap-same : (log : RunLog) (span next : List Seen) → gap_event u log span (x ∷ next) ≡ gap_event t log span (x ∷ next)
  gap-same log span next = λ i.
      option_to_list
      (option_map {T = Span} {U = Event} (λ gap. noted_with POWER_INTERRUPTION gap.begin gap.end (record { driver = stands-same Driver i; codriver = stands-same CoDriver i }))
      (gap_of (kept_after log (last_number span)) (number_of x)))

-- ALL SECONDS
module _ (t u : Tearing) (sessions others : ℕ → Visit → ℕ) where
  abbrev Same : Seen → Type 0
  Same x = AgreeIn t u sessions others (number_of x)

  push : (xs : List Seen) (x : Seen) → AllByRecursion Same xs → Same x → AllByRecursion Same (xs ++ x ∷ [])
  push [] x all is = (is, tt)
  push (y ∷ xs) x all is = (all.0, push xs x all.1 is)

  abbrev SameSpans : List (List Seen) → Type 0
  SameSpans spans = AllByRecursion (λ (span : List Seen). AllByRecursion Same span) spans

  spans-on : (spans : List (List Seen)) (x : Seen) → SameSpans spans → Same x → SameSpans (seen_on spans x)
  spans-on [] x all is = ((is, tt), tt)
  spans-on (span ∷ []) x all is = (push span x all.0 is, tt)
  spans-on (span ∷ next ∷ spans) x all is = (all.0, spans-on (next ∷ spans) x all.1 is)

  spans-one : (spans : List (List Seen)) (x : Seen) → SameSpans spans → Same x → SameSpans (spans ++ (x ∷ []) ∷ [])
  spans-one [] x all is = ((is, tt), tt)
  spans-one (span ∷ spans) x all is = (all.0, spans-one spans x all.1 is)

  spans-with : (spans : List (List Seen)) (x : Seen) → SameSpans spans → Same x → SameSpans (seen_with spans x)
  spans-with spans x all is = by x.told.lit x.told.starts
    where
      by : (lit starts : Bool) → SameSpans (cond lit (cond starts (spans ++ (x ∷ []) ∷ []) (seen_on spans x)) spans)
      by true true = spans-one spans x all is
      by true false = spans-on spans x all is
      by false starts = all

  spans-all : (xs : List Seen) (spans : List (List Seen)) → SameSpans spans → AllByRecursion Same xs → SameSpans (fold seen_with spans xs)
  spans-all [] spans all are = all
  spans-all (x ∷ xs) spans all are = spans-all xs (seen_with spans x) (spans-with spans x all are.0) are.1

  gaps-same : (log : RunLog) (spans : List (List Seen)) → SameSpans spans → gaps_between u log spans ≡ gaps_between t log spans
  gaps-same log [] all = refl
  gaps-same log (span ∷ []) all = refl
  gaps-same log (span ∷ [] ∷ spans) all = gaps-same log ([] ∷ spans) all.1
  gaps-same log (span ∷ (x ∷ next) ∷ spans) all = λ i. gap-same t u sessions others x all.1.0.0 log span next i ++ gaps-same log ((x ∷ next) ∷ spans) all.1 i

  all-faults : (log : RunLog) (xs : List Seen) → AllByRecursion Same xs → flat_map (faults_by u log) xs ≡ flat_map (faults_by t log) xs
  all-faults log [] all = refl
  all-faults log (x ∷ xs) all = λ i. faults-same t u sessions others x all.0 log i ++ all-faults log xs all.1 i

  all-found : (kind : ℕ) (xs : List Seen) → AllByRecursion Same xs → flat_map (found_by kind others u) xs ≡ flat_map (found_by kind sessions t) xs
  all-found kind [] all = refl
  all-found kind (x ∷ xs) all = λ i. flat-same t u sessions others x all.0 kind x.told.course.found i ++ all-found kind xs all.1 i

  kinds-same : (a b c d : Bool) (x y z v w z' v' w' : List Event) → z' ≡ z → v' ≡ v → w' ≡ w → cond a x (cond b y (cond c z' (cond d v' w'))) ≡ cond a x (cond b y (cond c z (cond d v w)))
  kinds-same a b c d x y z v w z' v' w' ez ev ew = λ i. cond a x (cond b y (cond c (ez i) (cond d (ev i) (ew i))))

  pub choices-same : (kind limit : ℕ) (log : RunLog) (ss : List TraceSecond) → Agree t u sessions others (seen_of log ss) → events_of kind limit others u log ss ≡ events_of kind limit sessions t log ss
  choices-same kind limit log ss agree =
      kinds-same (kind == DRIVING_WITHOUT_CARD) (kind == OVER_SPEEDING) (kind == POWER_INTERRUPTION) (kind == CARD_FAULT)
      (bare_events log ss) (over_events limit log ss) (gap_events t log ss) (fault_events t log ss) (judged_events kind sessions t log ss)
      (gap_events u log ss) (fault_events u log ss) (judged_events kind others u log ss)
      (gaps-same log (seen_spans (seen_of log ss)) (spans-all (seen_of log ss) [] tt agree)) (all-faults log (seen_of log ss) agree) (all-found kind (seen_of log ss) agree)

-- A CHOICE FOR ONE SECOND MORE
other-second : (n u : ℕ) → u < n → nat_eq u n ≡ false
other-second n u lt = grind (arith, nat_tests)

this-second : (n u : ℕ) → u ≡ n → nat_eq u n ≡ true
this-second n u is = grind (arith, nat_tests)

module _ (n : ℕ) (here t : Tearing) where
  earlier-agree : (own sessions : ℕ → Visit → ℕ) (u : ℕ) → u < n → AgreeIn t (chosen n here t) sessions (told_at n own sessions) u
  earlier-agree own sessions u lt =
      let other : nat_eq u n ≡ false = other-second n u lt in record {
        by_gap = λ slot. ap (λ (b : Bool). cond b (here.by_gap u slot) (t.by_gap u slot)) other;
        driver_first = λ k. ap (λ (b : Bool). cond b (here.driver_first u k) (t.driver_first u k)) other;
        sessions_are = λ v. ap (λ (b : Bool). cond b (own u v) (sessions u v)) other;
      }

  pub all-agree : (own sessions : ℕ → Visit → ℕ) (xs : List Seen) → AreEarlier n xs → Agree t (chosen n here t) sessions (told_at n own sessions) xs
  all-agree own sessions [] all = tt
  all-agree own sessions (x ∷ xs) all = (earlier-agree own sessions (number_of x) all.0, all-agree own sessions xs all.1)

  pub here-agree : (own sessions : ℕ → Visit → ℕ) (u : ℕ) → u ≡ n → AgreeIn here (chosen n here t) own (told_at n own sessions) u
  here-agree own sessions u is =
      let at : nat_eq u n ≡ true = this-second n u is in record {
        by_gap = λ slot. ap (λ (b : Bool). cond b (here.by_gap u slot) (t.by_gap u slot)) at;
        driver_first = λ k. ap (λ (b : Bool). cond b (here.driver_first u k) (t.driver_first u k)) at;
        sessions_are = λ v. ap (λ (b : Bool). cond b (own u v) (sessions u v)) at;
      }

-- it fits a second by another one that is the same there
fits-as : (t u : Tearing) (sessions others : ℕ → Visit → ℕ) (x : Seen) → AgreeIn t u sessions others (number_of x) → IsTornIn t x → IsTornIn u x
fits-as t u sessions others x agree h = record {
  still = λ slot rest torn stood. agree.by_gap slot ∙ h.still slot rest torn stood;
  before = λ slot none. agree.by_gap slot ∙ h.before slot none;
  put_in = λ k slot entered. first-same t u sessions others x agree (suc k) slot ∙ h.put_in k slot entered;
}

fits-all : (t u : Tearing) (sessions others : ℕ → Visit → ℕ) (xs : List Seen) → Agree t u sessions others xs → AllByRecursion (IsTornIn t) xs → AllByRecursion (IsTornIn u) xs
fits-all t u sessions others [] agree all = tt
fits-all t u sessions others (x ∷ xs) agree all = (fits-as t u sessions others x agree.0 all.0, fits-all t u sessions others xs agree.1 all.1)

fits-push : (t : Tearing) (xs : List Seen) (x : Seen) → AllByRecursion (IsTornIn t) xs → IsTornIn t x → AllByRecursion (IsTornIn t) (xs ++ x ∷ [])
fits-push t [] x all is = (is, tt)
fits-push t (y ∷ xs) x all is = (all.0, fits-push t xs x all.1 is)

pub to-each : (t : Tearing) (xs : List Seen) → AreTorn t xs → AllByRecursion (IsTornIn t) xs
to-each t [] h = tt
to-each t (x ∷ xs) h = (record { still = h.still.0; before = h.before.0; put_in = h.put_in.0 }, to-each t xs (record { still = h.still.1; before = h.before.1; put_in = h.put_in.1 }))

pub of-each : (t : Tearing) (xs : List Seen) → AllByRecursion (IsTornIn t) xs → AreTorn t xs
of-each t [] all = record { still = tt; before = tt; put_in = tt }
of-each t (x ∷ xs) all = let rest = of-each t xs all.1 in record { still = (all.0.still, rest.still); before = (all.0.before, rest.before); put_in = (all.0.put_in, rest.put_in) }

pub torn-more : (n : ℕ) (here t : Tearing) (xs : List Seen) (x : Seen) → AreTorn t xs → AreEarlier n xs → number_of x ≡ n → IsTornIn here x → AreTorn (chosen n here t) (xs ++ x ∷ [])
torn-more n here t xs x all early is one =
    of-each (chosen n here t) (xs ++ x ∷ [])
    (fits-push (chosen n here t) xs x
    (fits-all t (chosen n here t) none_told (told_at n none_told none_told) xs (all-agree n here t none_told none_told xs early) (to-each t xs all))
    (fits-as here (chosen n here t) none_told (told_at n none_told none_told) x (here-agree n here t none_told none_told (number_of x) is) one))
  where
    none_told : ℕ → Visit → ℕ
    none_told u v = 0
