-- The events of a run as one second more comes.
use Rattle.std.proofs.Common.{◌≡◌, ℕ, Bool, true, false, cond, List, [], ◌∷◌, ◌++◌, fold, refl, ap, sym, ◌∙◌, append_assoc, append-nil}
use Rattle.std.specs.Prelude.{◌==◌, flat_map}
use Rattle.std.specs.List.{AllByRecursion, filter_map}
use Rattle.std.proofs.lemmas.Grind.{flat_map-append}
use Rattle.std.proofs.lemmas.List.Sums.{fold-append}
use Rattle.std.proofs.lemmas.List.Elements.{filter_map-append}
use Rattle.trace_model.specs.Trace.{TraceSecond}
use Rattle.log_model.specs.Log.{RunLog}
use Rattle.log_model.specs.Course.{Visit, Went, Before, second_told, before_next, went, went_on, not_begun}
use Rattle.event_model.specs.declared.kinds.TheConstants.{DRIVING_WITHOUT_CARD, OVER_SPEEDING, POWER_INTERRUPTION, CARD_FAULT}
use Rattle.event_model.specs.Runs.{last_run, runs_behind, ended_runs}
use Rattle.event_model.proofs.RunLemmas.{ended_runs-append}
use Rattle.event_model.specs.Events.{Event, Seen, Watched, Tearing, watched_on, seen_by, seen_of, seen_on, seen_with, seen_spans, is_bare, bare_event, bare_events, over_event, over_events, gap_event, gaps_between, gap_events, fault_events, judged_events, events_of}
use Rattle.run_events.specs.Seconds.{last_of, span_before, bares_by, is_fast, overs_by, gap_before, gap_by, faults_by, found_by, second_events, seen_next}

-- THE SECONDS as their events see them
pub sees-all : (log : RunLog) (ss : List TraceSecond) (w : Watched) (v : Went) → w.before ≡ v.before → (fold (watched_on log) w ss).before ≡ (fold (went_on log) v ss).before
sees-all log [] w v is = is
sees-all log (s ∷ ss) w v is = sees-all log ss (watched_on log w s) (went_on log v s) (ap (λ (b : Before). before_next b (second_told log b s)) is)

pub seen-more : (log : RunLog) (ss : List TraceSecond) (s : TraceSecond) → seen_of log (ss ++ s ∷ []) ≡ seen_of log ss ++ seen_next log ss s ∷ []
unfolding seen_of went
seen-more log ss s =
    ap (λ (w : Watched). w.seen) (fold-append (watched_on log) (record { seen = []; before = not_begun.before }) ss (s ∷ []))
    ∙ ap (λ (b : Before). (fold (watched_on log) (record { seen = []; before = not_begun.before }) ss).seen ++ seen_by log b s ∷ []) (sees-all log ss (record { seen = []; before = not_begun.before }) not_begun refl)

pub spans-more : (xs : List Seen) (x : Seen) → seen_spans (xs ++ x ∷ []) ≡ seen_with (seen_spans xs) x
spans-more xs x = fold-append seen_with [] xs (x ∷ [])

-- POWER SPANS with one second more
module _ (h : List Seen → List Event) (g : List Seen → Seen → List Event) (empty : h [] ≡ []) (more : (span : List Seen) (x : Seen) → h (span ++ x ∷ []) ≡ h span ++ g span x) where
  single : (x : Seen) → h (x ∷ []) ≡ g [] x
  single x = more [] x ∙ ap (λ (es : List Event). es ++ g [] x) empty

  pub flat-on : (spans : List (List Seen)) (x : Seen) → flat_map h (seen_on spans x) ≡ flat_map h spans ++ g (last_of spans) x
  flat-on [] x = append-nil (h (x ∷ [])) ∙ single x
  flat-on (span ∷ []) x = append-nil (h (span ++ x ∷ [])) ∙ more span x ∙ ap (λ (es : List Event). es ++ g span x) (sym (append-nil (h span)))
  flat-on (span ∷ next ∷ spans) x =
      ap (λ (es : List Event). h span ++ es) (flat-on (next ∷ spans) x) ∙ sym (append_assoc (h span) (flat_map h (next ∷ spans)) (g (last_of (next ∷ spans)) x))

  flat-starts : (spans : List (List Seen)) (x : Seen) → flat_map h (spans ++ (x ∷ []) ∷ []) ≡ flat_map h spans ++ g [] x
  flat-starts spans x = flat_map-append h spans ((x ∷ []) ∷ []) ∙ ap (λ (es : List Event). flat_map h spans ++ es) (append-nil (h (x ∷ [])) ∙ single x)

  pub flat-with : (spans : List (List Seen)) (x : Seen) → flat_map h (seen_with spans x) ≡ flat_map h spans ++ cond x.told.lit (g (span_before spans x) x) []
  flat-with spans x = by x.told.lit x.told.starts refl
    where
      by : (lit starts : Bool) → x.told.starts ≡ starts →
          flat_map h (cond lit (cond starts (spans ++ (x ∷ []) ∷ []) (seen_on spans x)) spans) ≡ flat_map h spans ++ cond lit (g (cond starts [] (last_of spans)) x) []
      by true true is = flat-starts spans x
      by true false is = flat-on spans x
      by false starts is = sym (append-nil (flat_map h spans))

-- DRIVING WITHOUT A CARD, and over speedings
pub bare-more : (span : List Seen) (x : Seen) → filter_map bare_event (ended_runs is_bare (span ++ x ∷ [])) ≡ filter_map bare_event (ended_runs is_bare span) ++ bares_by span (x ∷ [])
bare-more span x =
    ap (filter_map bare_event) (ended_runs-append is_bare span (x ∷ []))
    ∙ filter_map-append bare_event (ended_runs is_bare span) (runs_behind is_bare (last_run is_bare span) (x ∷ []))

pub over-more : (limit : ℕ) (span : List Seen) (x : Seen) → filter_map over_event (ended_runs (is_fast limit) (span ++ x ∷ [])) ≡ filter_map over_event (ended_runs (is_fast limit) span) ++ overs_by limit span (x ∷ [])
over-more limit span x =
    ap (filter_map over_event) (ended_runs-append (is_fast limit) span (x ∷ []))
    ∙ filter_map-append over_event (ended_runs (is_fast limit) span) (runs_behind (is_fast limit) (last_run (is_fast limit) span) (x ∷ []))

-- POWER INTERRUPTIONS
gap-last : (t : Tearing) (log : RunLog) (spans : List (List Seen)) (x : Seen) → gaps_between t log (spans ++ (x ∷ []) ∷ []) ≡ gaps_between t log spans ++ gap_before t log spans x
gap-last t log [] x = refl
gap-last t log (span ∷ []) x = append-nil (gap_event t log span (x ∷ []))
gap-last t log (span ∷ next ∷ spans) x =
    ap (λ (es : List Event). gap_event t log span next ++ es) (gap-last t log (next ∷ spans) x)
    ∙ sym (append_assoc (gap_event t log span next) (gaps_between t log (next ∷ spans)) (gap_before t log (next ∷ spans) x))

-- no span is empty
abbrev pub IsSome : List Seen → Type 0
IsSome [] = ⊥
IsSome (x ∷ span) = Unit {0}

some-more : (span : List Seen) (x : Seen) → IsSome (span ++ x ∷ [])
some-more [] x = tt
some-more (y ∷ span) x = tt

abbrev pub AreSome : List (List Seen) → Type 0
AreSome spans = AllByRecursion IsSome spans

pub some-on : (spans : List (List Seen)) (x : Seen) → AreSome spans → AreSome (seen_on spans x)
some-on [] x all = (tt, tt)
some-on (span ∷ []) x all = (some-more span x, tt)
some-on (span ∷ next ∷ spans) x all = (all.0, some-on (next ∷ spans) x all.1)

some-one : (spans : List (List Seen)) (x : Seen) → AreSome spans → AreSome (spans ++ (x ∷ []) ∷ [])
some-one [] x all = (tt, tt)
some-one (span ∷ spans) x all = (all.0, some-one spans x all.1)

some-with : (spans : List (List Seen)) (x : Seen) → AreSome spans → AreSome (seen_with spans x)
some-with spans x all = by x.told.lit x.told.starts
  where
    by : (lit starts : Bool) → AreSome (cond lit (cond starts (spans ++ (x ∷ []) ∷ []) (seen_on spans x)) spans)
    by true true = some-one spans x all
    by true false = some-on spans x all
    by false starts = all

some-all : (xs : List Seen) (spans : List (List Seen)) → AreSome spans → AreSome (fold seen_with spans xs)
some-all [] spans all = all
some-all (x ∷ xs) spans all = some-all xs (seen_with spans x) (some-with spans x all)

pub some-spans : (xs : List Seen) → AreSome (seen_spans xs)
some-spans xs = some-all xs [] tt

-- a second that goes on a span leaves the interruptions
pub gaps-on : (t : Tearing) (log : RunLog) (spans : List (List Seen)) (x : Seen) → AreSome spans → gaps_between t log (seen_on spans x) ≡ gaps_between t log spans
gaps-on t log [] x all = refl
gaps-on t log (span ∷ []) x all = refl
gaps-on t log (span ∷ [] ∷ spans) x all = absurd all.1.0
gaps-on t log (span ∷ (y ∷ next) ∷ []) x all = refl
gaps-on t log (span ∷ (y ∷ next) ∷ third ∷ spans) x all =
    ap (λ (es : List Event). gap_event t log span (y ∷ next) ++ es) (gaps-on t log ((y ∷ next) ∷ third ∷ spans) x all.1)

pub gaps-with : (t : Tearing) (log : RunLog) (spans : List (List Seen)) (x : Seen) → AreSome spans → gaps_between t log (seen_with spans x) ≡ gaps_between t log spans ++ gap_by t log spans x
gaps-with t log spans x all = by x.told.lit x.told.starts
  where
    by : (lit starts : Bool) → gaps_between t log (cond lit (cond starts (spans ++ (x ∷ []) ∷ []) (seen_on spans x)) spans)
        ≡ gaps_between t log spans ++ cond lit (cond starts (gap_before t log spans x) []) []
    by true true = gap-last t log spans x
    by true false = gaps-on t log spans x all ∙ sym (append-nil (gaps_between t log spans))
    by false starts = sym (append-nil (gaps_between t log spans))

-- WHAT A SECOND BRINGS
flat-more : (h : Seen → List Event) (xs : List Seen) (x : Seen) → flat_map h (xs ++ x ∷ []) ≡ flat_map h xs ++ h x
flat-more h xs x = flat_map-append h xs (x ∷ []) ∙ ap (λ (es : List Event). flat_map h xs ++ es) (append-nil (h x))

kinds-more : (a b c d : Bool) (x y z v w x' y' z' v' w' x2 y2 z2 v2 w2 : List Event) → x2 ≡ x ++ x' → y2 ≡ y ++ y' → z2 ≡ z ++ z' → v2 ≡ v ++ v' → w2 ≡ w ++ w' →
    cond a x2 (cond b y2 (cond c z2 (cond d v2 w2))) ≡ cond a x (cond b y (cond c z (cond d v w))) ++ cond a x' (cond b y' (cond c z' (cond d v' w')))
kinds-more true b c d x y z v w x' y' z' v' w' x2 y2 z2 v2 w2 ex ey ez ev ew = ex
kinds-more false true c d x y z v w x' y' z' v' w' x2 y2 z2 v2 w2 ex ey ez ev ew = ey
kinds-more false false true d x y z v w x' y' z' v' w' x2 y2 z2 v2 w2 ex ey ez ev ew = ez
kinds-more false false false true x y z v w x' y' z' v' w' x2 y2 z2 v2 w2 ex ey ez ev ew = ev
kinds-more false false false false x y z v w x' y' z' v' w' x2 y2 z2 v2 w2 ex ey ez ev ew = ew

pub second-brings : (kind limit : ℕ) (sessions : ℕ → Visit → ℕ) (t : Tearing) (log : RunLog) (ss : List TraceSecond) (s : TraceSecond) →
    events_of kind limit sessions t log (ss ++ s ∷ []) ≡ events_of kind limit sessions t log ss ++ second_events kind limit sessions t log (seen_spans (seen_of log ss)) (seen_next log ss s)
second-brings kind limit sessions t log ss s =
    let xs : List Seen = seen_of log ss in
    let x : Seen = seen_next log ss s in
    let seen : seen_of log (ss ++ s ∷ []) ≡ xs ++ x ∷ [] = seen-more log ss s in
    let spans : seen_spans (seen_of log (ss ++ s ∷ [])) ≡ seen_with (seen_spans xs) x = ap seen_spans seen ∙ spans-more xs x in
    kinds-more (kind == DRIVING_WITHOUT_CARD) (kind == OVER_SPEEDING) (kind == POWER_INTERRUPTION) (kind == CARD_FAULT)
    (bare_events log ss) (over_events limit log ss) (gap_events t log ss) (fault_events t log ss) (judged_events kind sessions t log ss)
    (cond x.told.lit (bares_by (span_before (seen_spans xs) x) (x ∷ [])) []) (cond x.told.lit (overs_by limit (span_before (seen_spans xs) x) (x ∷ [])) []) (gap_by t log (seen_spans xs) x) (faults_by t log x) (found_by kind sessions t x)
    (bare_events log (ss ++ s ∷ [])) (over_events limit log (ss ++ s ∷ [])) (gap_events t log (ss ++ s ∷ [])) (fault_events t log (ss ++ s ∷ [])) (judged_events kind sessions t log (ss ++ s ∷ []))
    (ap (flat_map (λ (span : List Seen). filter_map bare_event (ended_runs is_bare span))) spans
    ∙ flat-with (λ (span : List Seen). filter_map bare_event (ended_runs is_bare span)) (λ (span : List Seen) (x : Seen). bares_by span (x ∷ [])) refl bare-more (seen_spans xs) x)
    (ap (flat_map (λ (span : List Seen). filter_map over_event (ended_runs (is_fast limit) span))) spans
    ∙ flat-with (λ (span : List Seen). filter_map over_event (ended_runs (is_fast limit) span)) (λ (span : List Seen) (x : Seen). overs_by limit span (x ∷ [])) refl (over-more limit) (seen_spans xs) x)
    (ap (gaps_between t log) spans ∙ gaps-with t log (seen_spans xs) x (some-spans xs))
    (ap (flat_map (faults_by t log)) seen ∙ flat-more (faults_by t log) xs x)
    (ap (flat_map (found_by kind sessions t)) seen ∙ flat-more (found_by kind sessions t) xs x)
