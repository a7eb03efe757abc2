-- Seconds in which nothing happens, at once: with power, and without it.
use Rattle.std.proofs.Common.{◌≡◌, ℕ, suc, ◌≤◌, Bool, true, false, cond, ◌&&◌, Option, List, [], ◌∷◌, ◌++◌, map, fold, refl, ap, sym, subst, ◌∙◌, arith, append_assoc, append-nil, nat_eq}
use Rattle.std.specs.Prelude.{◌==◌, flat_map}
use Rattle.std.specs.List.{AllByRecursion, filter_map, list_any}
use Rattle.std.proofs.lemmas.Bool.Decides.{nat_tests}
use Rattle.std.proofs.lemmas.Grind.{flat_map-append}
use Rattle.std.proofs.lemmas.List.Sums.{fold-append}
use Rattle.std.proofs.lemmas.List.Elements.{filter_map-append}
use Rattle.activity_codec.specs.declared.values.Slot.{Slot}
use Rattle.activity_codec.specs.Activity.{same_slot}
use Rattle.trace_model.specs.declared.Card.{Card}
use Rattle.trace_model.specs.Trace.{TraceSecond}
use Rattle.tach_media.specs.Medium.{State}
use Rattle.log_model.specs.declared.lines.Verdict.{Verdict}
use Rattle.log_model.specs.Log.{RunLog, In, same_phase}
use Rattle.log_model.specs.Course.{Visit}
use Rattle.event_model.specs.declared.kinds.TheConstants.{DRIVING_WITHOUT_CARD, OVER_SPEEDING, POWER_INTERRUPTION, CARD_FAULT}
use Rattle.event_model.specs.Runs.{run_with, last_run, ended_by, runs_behind, ended_runs}
use Rattle.event_model.proofs.RunLemmas.{last_run-append}
use Rattle.event_model.specs.Events.{Event, Seen, Tearing, AreTorn, number_of, torn_at, entered_at, seen_of, seen_on, seen_with, seen_spans, is_bare, bare_event, over_event, bare_events, over_events, gaps_between, gap_events, fault_events, judged_events, found_events, fault_of, torn_in_turn, events_of}
use Rattle.run_events.specs.Shown.{none, is_sure_by, SaysNothing}
use Rattle.run_events.proofs.Unsure.{unsure-same}
use Rattle.run_events.specs.Seconds.{last_of, bares_by, is_fast, overs_by, faults_by, found_by, IsIdle, IsQuiet, IsDarkSeen, quiet_events}
use Rattle.run_events.specs.Choice.{chosen, IsTornIn, IsPlainFrom}
use Rattle.run_events.specs.Running.{HasEvents}
use Rattle.run_events.proofs.Shows.{nothing-more, noted-then}
use Rattle.run_events.proofs.Growing.{AreSome, some-on, some-spans, bare-more, over-more, flat-on, gaps-on}
use Rattle.run_events.proofs.Choosing.{to-each, of-each}

-- RUNS, second by second
runs-parts : (passes : Seen → Bool) (made : List Seen → Option Event) (span xs ys : List Seen) →
    filter_map made (runs_behind passes (last_run passes span) (xs ++ ys)) ≡ filter_map made (runs_behind passes (last_run passes span) xs) ++ filter_map made (runs_behind passes (last_run passes (span ++ xs)) ys)
runs-parts passes made span xs ys =
    ap (filter_map made) (behind (last_run passes span) xs ys)
    ∙ filter_map-append made (runs_behind passes (last_run passes span) xs) (runs_behind passes (fold (run_with passes) (last_run passes span) xs) ys)
    ∙ ap (λ (run : List Seen). filter_map made (runs_behind passes (last_run passes span) xs) ++ filter_map made (runs_behind passes run ys)) (sym (last_run-append passes span xs))
  where
    behind : (run xs ys : List Seen) → runs_behind passes run (xs ++ ys) ≡ runs_behind passes run xs ++ runs_behind passes (fold (run_with passes) run xs) ys
    behind run [] ys = refl
    behind run (x ∷ xs) ys =
        ap (λ (rs : List (List Seen)). ended_by passes run x ++ rs) (behind (run_with passes run x) xs ys)
        ∙ sym (append_assoc (ended_by passes run x) (runs_behind passes (run_with passes run x) xs) (runs_behind passes (fold (run_with passes) (run_with passes run x) xs) ys))

pub bares-split : (span xs ys : List Seen) → bares_by span (xs ++ ys) ≡ bares_by span xs ++ bares_by (span ++ xs) ys
bares-split span xs ys = runs-parts is_bare bare_event span xs ys

pub overs-split : (limit : ℕ) (span xs ys : List Seen) → overs_by limit span (xs ++ ys) ≡ overs_by limit span xs ++ overs_by limit (span ++ xs) ys
overs-split limit span xs ys = runs-parts (is_fast limit) over_event span xs ys

-- QUIET SECONDS go on the last span
last-on : (spans : List (List Seen)) (x : Seen) → last_of (seen_on spans x) ≡ last_of spans ++ x ∷ []
last-on [] x = refl
last-on (span ∷ []) x = refl
last-on (span ∷ next ∷ []) x = refl
last-on (span ∷ next ∷ third ∷ spans) x = last-on (next ∷ third ∷ spans) x

with-quiet : (spans : List (List Seen)) (x : Seen) → IsQuiet x → seen_with spans x ≡ seen_on spans x
with-quiet spans x q = rw q.lit (rw q.goes_on refl)

with-dark : (spans : List (List Seen)) (x : Seen) → IsDarkSeen x → seen_with spans x ≡ spans
with-dark spans x d = rw d.lit refl

module _ (h : List Seen → List Event) (G : List Seen → List Seen → List Event) (empty : h [] ≡ []) (one : (span : List Seen) (x : Seen) → h (span ++ x ∷ []) ≡ h span ++ G span (x ∷ []))
    (nil : (span : List Seen) → G span [] ≡ []) (split : (span : List Seen) (x : Seen) (xs : List Seen) → G span (x ∷ xs) ≡ G span (x ∷ []) ++ G (span ++ x ∷ []) xs) where
  flat-quiet : (xs : List Seen) (spans : List (List Seen)) → AllByRecursion IsQuiet xs → flat_map h (fold seen_with spans xs) ≡ flat_map h spans ++ G (last_of spans) xs
  flat-quiet [] spans all = sym (append-nil (flat_map h spans)) ∙ ap (λ (es : List Event). flat_map h spans ++ es) (sym (nil (last_of spans)))
  flat-quiet (x ∷ xs) spans all =
      ap (λ (sp : List (List Seen)). flat_map h (fold seen_with sp xs)) (with-quiet spans x all.0)
      ∙ flat-quiet xs (seen_on spans x) all.1
      ∙ (λ i. flat-on h (λ (span : List Seen) (x : Seen). G span (x ∷ [])) empty one spans x i ++ G (last-on spans x i) xs)
      ∙ append_assoc (flat_map h spans) (G (last_of spans) (x ∷ [])) (G (last_of spans ++ x ∷ []) xs)
      ∙ ap (λ (es : List Event). flat_map h spans ++ es) (sym (split (last_of spans) x xs))

gaps-quiet : (t : Tearing) (log : RunLog) (xs : List Seen) (spans : List (List Seen)) → AreSome spans → AllByRecursion IsQuiet xs → gaps_between t log (fold seen_with spans xs) ≡ gaps_between t log spans
gaps-quiet t log [] spans some all = refl
gaps-quiet t log (x ∷ xs) spans some all =
    ap (λ (sp : List (List Seen)). gaps_between t log (fold seen_with sp xs)) (with-quiet spans x all.0) ∙ gaps-quiet t log xs (seen_on spans x) (some-on spans x some) all.1 ∙ gaps-on t log spans x some

flat-idle : (h : Seen → List Event) → ((x : Seen) → IsIdle x → h x ≡ []) → (xs : List Seen) → AllByRecursion IsIdle xs → flat_map h xs ≡ []
flat-idle h each [] all = refl
flat-idle h each (x ∷ xs) all = λ i. each x all.0 i ++ flat-idle h each xs all.1 i

faults-idle : (t : Tearing) (log : RunLog) (x : Seen) → IsIdle x → faults_by t log x ≡ []
faults-idle t log x idle = ap (λ (vs : List Visit). map (fault_of t log x) (torn_in_turn t x vs)) idle.torn

found-idle : (kind : ℕ) (sessions : ℕ → Visit → ℕ) (t : Tearing) (x : Seen) → IsIdle x → found_by kind sessions t x ≡ []
found-idle kind sessions t x idle = ap (flat_map (λ (f : Visit × Verdict). found_events kind (sessions (number_of x) f.0) t x f.0 f.1)) idle.found

quiet-idle : (xs : List Seen) → AllByRecursion IsQuiet xs → AllByRecursion IsIdle xs
quiet-idle [] all = tt
quiet-idle (x ∷ xs) all = (all.0.idle, quiet-idle xs all.1)

dark-idle : (xs : List Seen) → AllByRecursion IsDarkSeen xs → AllByRecursion IsIdle xs
dark-idle [] all = tt
dark-idle (x ∷ xs) all = (all.0.idle, dark-idle xs all.1)

flat-more : (h : Seen → List Event) (ys xs : List Seen) → flat_map h xs ≡ [] → flat_map h (ys ++ xs) ≡ flat_map h ys
flat-more h ys xs is = flat_map-append h ys xs ∙ ap (λ (es : List Event). flat_map h ys ++ es) is ∙ append-nil (flat_map h ys)

spans-append : (ys xs : List Seen) → seen_spans (ys ++ xs) ≡ fold seen_with (seen_spans ys) xs
spans-append ys xs = fold-append seen_with [] ys xs

spans-dark : (xs : List Seen) (spans : List (List Seen)) → AllByRecursion IsDarkSeen xs → fold seen_with spans xs ≡ spans
spans-dark [] spans all = refl
spans-dark (x ∷ xs) spans all = ap (λ (sp : List (List Seen)). fold seen_with sp xs) (with-dark spans x all.0) ∙ spans-dark xs spans all.1

module _ (kind limit : ℕ) (sessions : ℕ → Visit → ℕ) (t : Tearing) (log : RunLog) (done more : List TraceSecond) (xs : List Seen) (are : seen_of log (done ++ more) ≡ seen_of log done ++ xs) where
  abbrev ys : List Seen
  ys = seen_of log done

  kinds-quiet : (a b c d : Bool) (x y z v w x' y' x2 y2 z2 v2 w2 : List Event) → x2 ≡ x ++ x' → y2 ≡ y ++ y' → z2 ≡ z → v2 ≡ v → w2 ≡ w →
      cond a x2 (cond b y2 (cond c z2 (cond d v2 w2))) ≡ cond a x (cond b y (cond c z (cond d v w))) ++ cond a x' (cond b y' [])
  kinds-quiet true b c d x y z v w x' y' x2 y2 z2 v2 w2 ex ey ez ev ew = ex
  kinds-quiet false true c d x y z v w x' y' x2 y2 z2 v2 w2 ex ey ez ev ew = ey
  kinds-quiet false false true d x y z v w x' y' x2 y2 z2 v2 w2 ex ey ez ev ew = ez ∙ sym (append-nil z)
  kinds-quiet false false false true x y z v w x' y' x2 y2 z2 v2 w2 ex ey ez ev ew = ev ∙ sym (append-nil v)
  kinds-quiet false false false false x y z v w x' y' x2 y2 z2 v2 w2 ex ey ez ev ew = ew ∙ sym (append-nil w)

  pub quiet-brings : AllByRecursion IsQuiet xs → events_of kind limit sessions t log (done ++ more) ≡ events_of kind limit sessions t log done ++ quiet_events kind limit (last_of (seen_spans ys)) xs
  quiet-brings all =
      let spans : seen_spans (seen_of log (done ++ more)) ≡ fold seen_with (seen_spans ys) xs = ap seen_spans are ∙ spans-append ys xs in
      kinds-quiet (kind == DRIVING_WITHOUT_CARD) (kind == OVER_SPEEDING) (kind == POWER_INTERRUPTION) (kind == CARD_FAULT)
      (bare_events log done) (over_events limit log done) (gap_events t log done) (fault_events t log done) (judged_events kind sessions t log done)
      (bares_by (last_of (seen_spans ys)) xs) (overs_by limit (last_of (seen_spans ys)) xs)
      (bare_events log (done ++ more)) (over_events limit log (done ++ more)) (gap_events t log (done ++ more)) (fault_events t log (done ++ more)) (judged_events kind sessions t log (done ++ more))
      (ap (flat_map (λ (span : List Seen). filter_map bare_event (ended_runs is_bare span))) spans
      ∙ flat-quiet (λ (span : List Seen). filter_map bare_event (ended_runs is_bare span)) bares_by refl bare-more (λ span. refl) (λ span x xs. bares-split span (x ∷ []) xs) xs (seen_spans ys) all)
      (ap (flat_map (λ (span : List Seen). filter_map over_event (ended_runs (is_fast limit) span))) spans
      ∙ flat-quiet (λ (span : List Seen). filter_map over_event (ended_runs (is_fast limit) span)) (overs_by limit) refl (over-more limit) (λ span. refl) (λ span x xs. overs-split limit span (x ∷ []) xs) xs (seen_spans ys) all)
      (ap (gaps_between t log) spans ∙ gaps-quiet t log xs (seen_spans ys) (some-spans ys) all)
      (ap (flat_map (faults_by t log)) are ∙ flat-more (faults_by t log) ys xs (flat-idle (faults_by t log) (faults-idle t log) xs (quiet-idle xs all)))
      (ap (flat_map (found_by kind sessions t)) are ∙ flat-more (found_by kind sessions t) ys xs (flat-idle (found_by kind sessions t) (found-idle kind sessions t) xs (quiet-idle xs all)))

  pub dark-brings : AllByRecursion IsDarkSeen xs → events_of kind limit sessions t log (done ++ more) ≡ events_of kind limit sessions t log done
  dark-brings all =
      let spans : seen_spans (seen_of log (done ++ more)) ≡ seen_spans ys = ap seen_spans are ∙ spans-append ys xs ∙ spans-dark xs (seen_spans ys) all in
      let faults : fault_events t log (done ++ more) ≡ fault_events t log done =
      ap (flat_map (faults_by t log)) are ∙ flat-more (faults_by t log) ys xs (flat-idle (faults_by t log) (faults-idle t log) xs (dark-idle xs all)) in
      let judged : judged_events kind sessions t log (done ++ more) ≡ judged_events kind sessions t log done =
      ap (flat_map (found_by kind sessions t)) are ∙ flat-more (found_by kind sessions t) ys xs (flat-idle (found_by kind sessions t) (found-idle kind sessions t) xs (dark-idle xs all)) in
      λ i. cond (kind == DRIVING_WITHOUT_CARD) (flat_map (λ (span : List Seen). filter_map bare_event (ended_runs is_bare span)) (spans i))
      (cond (kind == OVER_SPEEDING) (flat_map (λ (span : List Seen). filter_map over_event (ended_runs (is_fast limit) span)) (spans i))
      (cond (kind == POWER_INTERRUPTION) (gaps_between t log (spans i)) (cond (kind == CARD_FAULT) (faults i) (judged i))))

-- A CHOICE THAT IS PLAIN fits idle seconds
pub idle-fits : (t : Tearing) (x : Seen) → ((slot : Slot) → t.by_gap (number_of x) slot ≡ false) → IsIdle x → IsTornIn t x
idle-fits t x plain idle = record {
  still = λ slot rest torn stood. absurd (let nothing : torn_at x (In 0) slot ≡ false = ap (list_any (λ (v : Visit). same_phase v.phase (In 0) && same_slot v.slot slot)) idle.torn in let wrong : false ≡ true = sym nothing ∙ torn in cc);
  before = λ slot empty. plain slot;
  put_in = λ n slot entered. absurd (let nothing : entered_at x (In (suc n)) slot ≡ false = ap (list_any (λ (v : Visit). same_phase v.phase (In (suc n)) && same_slot v.slot slot)) idle.entered in let wrong : false ≡ true = sym nothing ∙ entered in cc);
}

abbrev AreFrom : ℕ → List Seen → Type 0
AreFrom n xs = AllByRecursion (λ (x : Seen). n ≤ number_of x) xs

idle-all : (t : Tearing) (n : ℕ) (xs : List Seen) → IsPlainFrom n t → AreFrom n xs → AllByRecursion IsIdle xs → AllByRecursion (IsTornIn t) xs
idle-all t n [] plain from all = tt
idle-all t n (x ∷ xs) plain from all = (idle-fits t x (plain (number_of x) from.0) all.0, idle-all t n xs plain from.1 all.1)

fits-append : (t : Tearing) (ys xs : List Seen) → AllByRecursion (IsTornIn t) ys → AllByRecursion (IsTornIn t) xs → AllByRecursion (IsTornIn t) (ys ++ xs)
fits-append t [] xs all are = are
fits-append t (y ∷ ys) xs all are = (all.0, fits-append t ys xs all.1 are)

pub torn-idle : (t : Tearing) (n : ℕ) (ys xs : List Seen) → IsPlainFrom n t → AreTorn t ys → AreFrom n xs → AllByRecursion IsIdle xs → AreTorn t (ys ++ xs)
torn-idle t n ys xs plain h from all = of-each t (ys ++ xs) (fits-append t ys xs (to-each t ys h) (idle-all t n xs plain from all))

-- and one second's choice leaves it plain behind
pub plain-behind : (n : ℕ) (here t : Tearing) → IsPlainFrom n t → IsPlainFrom (suc n) (chosen n here t)
plain-behind n here t plain u le slot =
    let other : nat_eq u n ≡ false = grind (arith, nat_tests) in
    ap (λ (b : Bool). cond b (here.by_gap u slot) (t.by_gap u slot)) other ∙ plain u (omega (arith, le)) slot

-- ON EVERY IMAGE
module _ (number : Card → List ℕ) (start : List ℕ) (limit : ℕ) (log : RunLog) (done more : List TraceSecond) (xs : List Seen) (are : seen_of log (done ++ more) ≡ seen_of log done ++ xs) (n : ℕ) (t : Tearing) (sessions : ℕ → Visit → ℕ)
    (plain : IsPlainFrom n t) (from : AreFrom n xs) {U : State} (h : HasEvents number start limit log done U t sessions) where
  as-before : {V : State} → AllByRecursion IsIdle xs → ((kind : ℕ) → events_of kind limit sessions t log (done ++ more) ≡ events_of kind limit sessions t log done) →
      ((c : List ℕ) → V.may_leave c → (x : List ℕ) × U.may_leave x × SaysNothing x c) → HasEvents number start limit log (done ++ more) V t sessions
  as-before {V} idle same each = record {
    torn = subst (AreTorn t) (sym are) (torn-idle t n (seen_of log done) xs plain h.torn from idle);
    noted = noted-then number start log log (λ kind. events_of kind limit sessions t log done) none (λ kind. events_of kind limit sessions t log (done ++ more)) {U = U} {V = V} h.noted (λ u k. k)
        (λ kind there. unsure-same (is_sure_by log) (events_of kind limit sessions t log done ++ []) (events_of kind limit sessions t log (done ++ more)) (same kind ∙ sym (append-nil (events_of kind limit sessions t log done))))
        (λ c left. let at = each c left in (at.0, at.1, nothing-more number (is_sure_by log) at.0 c at.2));
  }

  -- quiet seconds that end nothing
  pub quiet-shown : {V : State} → AllByRecursion IsQuiet xs → bares_by (last_of (seen_spans (seen_of log done))) xs ≡ [] → overs_by limit (last_of (seen_spans (seen_of log done))) xs ≡ [] →
      ((c : List ℕ) → V.may_leave c → (x : List ℕ) × U.may_leave x × SaysNothing x c) → HasEvents number start limit log (done ++ more) V t sessions
  quiet-shown {V} all bares overs each =
      as-before {V = V} (quiet-idle xs all)
      (λ kind. quiet-brings kind limit sessions t log done more xs are all
      ∙ ap (λ (es : List Event). events_of kind limit sessions t log done ++ es) (λ i. cond (kind == DRIVING_WITHOUT_CARD) (bares i) (cond (kind == OVER_SPEEDING) (overs i) []))
      ∙ ap (λ (es : List Event). events_of kind limit sessions t log done ++ es) (nothing (kind == DRIVING_WITHOUT_CARD) (kind == OVER_SPEEDING))
      ∙ append-nil (events_of kind limit sessions t log done)) each
    where
      nothing : (a b : Bool) → cond {A = List Event} a [] (cond b [] []) ≡ []
      nothing true b = refl
      nothing false true = refl
      nothing false false = refl

  -- seconds without power
  pub dark-shown : {V : State} → AllByRecursion IsDarkSeen xs → ((c : List ℕ) → V.may_leave c → (x : List ℕ) × U.may_leave x × SaysNothing x c) → HasEvents number start limit log (done ++ more) V t sessions
  dark-shown {V} all each = as-before {V = V} (dark-idle xs all) (λ kind. dark-brings kind limit sessions t log done more xs are all) each
