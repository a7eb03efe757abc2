-- Which second each event is noted in, and that none of a second in which a call failed is sure.
use Rattle.std.proofs.Common.{◌≡◌, ◌⊎◌, inl, inr, ℕ, ◌+◌, ◌*◌, Bool, true, false, cond, not, ◌&&◌, nat_lt, Option, Some, None, List, [], ◌∷◌, ◌++◌, map, fold, refl, ap, sym, subst, ◌∙◌}
use Rattle.std.specs.Prelude.{◌==◌, flat_map, option_map, option_to_list}
use Rattle.std.specs.List.{AllByRecursion, filter_map, cons_option}
use Rattle.std.proofs.lemmas.Bool.{eqb-true}
use Rattle.activity_codec.specs.declared.values.Slot.TheVariants.{Driver, CoDriver}
use Rattle.log_model.specs.declared.lines.Verdict.{Verdict}
use Rattle.log_model.specs.declared.lines.Verdict.TheVariants.{Accepted, NotValid, TimeOverlap}
use Rattle.log_model.specs.Log.{RunLog, kept_after}
use Rattle.log_model.specs.Course.{Visit}
use Rattle.note_model.specs.Done.{has_failed_in}
use Rattle.note_model.specs.Events.{noting_second}
use Rattle.event_model.specs.declared.kinds.TheConstants.{CARD_NOT_VALID, TIME_OVERLAP, DRIVING_WITHOUT_CARD, INSERTION_WHILE_DRIVING, SESSION_NOT_CLOSED, OVER_SPEEDING, POWER_INTERRUPTION, CARD_FAULT}
use Rattle.event_model.specs.declared.entries.Over.{Over}
use Rattle.event_model.specs.declared.entries.Span.{Span}
use Rattle.event_model.specs.Runs.{run_with, last_run, runs_behind}
use Rattle.event_model.specs.Spans.{over_of}
use Rattle.event_model.specs.Events.{Event, Seen, Tearing, number_of, last_number, last_seen, is_bare, bare_event, speed_second, over_event, run_event, noted_with, gap_event, standing, found_events, crew_judged, fault_of, torn_in_turn}
use Rattle.unit_events.specs.Noted.{are_sure}
use Rattle.run_events.specs.Seconds.{span_before, bares_by, is_fast, overs_by, gap_before, gap_by, faults_by, found_by, second_events, IsBehind}

abbrev NotedIn : ℕ → Event → Type 0
NotedIn u e = noting_second e ≡ u

abbrev AllIn : ℕ → List Event → Type 0
AllIn u es = AllByRecursion (NotedIn u) es

in-append : (u : ℕ) (xs ys : List Event) → AllIn u xs → AllIn u ys → AllIn u (xs ++ ys)
in-append u [] ys h k = k
in-append u (x ∷ xs) ys h k = (h.0, in-append u xs ys h.1 k)

in-flat : {X : Type 0} (u : ℕ) (h : X → List Event) → ((x : X) → AllIn u (h x)) → (xs : List X) → AllIn u (flat_map h xs)
in-flat u h each [] = tt
in-flat u h each (x ∷ xs) = in-append u (h x) (flat_map h xs) (each x) (in-flat u h each xs)

in-map : {X : Type 0} (u : ℕ) (h : X → Event) → ((x : X) → NotedIn u (h x)) → (xs : List X) → AllIn u (map h xs)
in-map u h each [] = tt
in-map u h each (x ∷ xs) = (each x, in-map u h each xs)

-- RUNS that end with the second before
pub last-push : (xs : List Seen) (x : Seen) → last_number (xs ++ x ∷ []) ≡ number_of x
last-push xs x = going 0 xs x
  where
    going : (n : ℕ) (xs : List Seen) (x : Seen) → fold (λ (last : ℕ) (y : Seen). number_of y) n (xs ++ x ∷ []) ≡ number_of x
    going n [] x = refl
    going n (y ∷ xs) x = going (number_of y) xs x

last-of-run : (x : Seen) (run : List Seen) → number_of (last_seen x run) ≡ last_number (x ∷ run)
last-of-run x [] = refl
last-of-run x (y ∷ run) = last-of-run y run

-- a run at the end of a span, if there is one, ends with its last second
module _ (passes : Seen → Bool) where
  abbrev Ends : (run : List Seen) → (n : ℕ) → Type 0
  Ends run n = (run ≡ []) ⊎ (last_number run ≡ n)

  ends-with : (run : List Seen) (x : Seen) → Ends (run_with passes run x) (number_of x)
  ends-with run x = by (passes x)
    where
      by : (b : Bool) → Ends (cond b (run ++ x ∷ []) []) (number_of x)
      by true = inr (last-push run x)
      by false = inl refl

  ends-all : (xs run : List Seen) (n : ℕ) → Ends run n → Ends (fold (run_with passes) run xs) (fold (λ (last : ℕ) (y : Seen). number_of y) n xs)
  ends-all [] run n h = h
  ends-all (x ∷ xs) run n h = ends-all xs (run_with passes run x) (number_of x) (ends-with run x)

  ends : (span : List Seen) → Ends (last_run passes span) (last_number span)
  ends span = ends-all span [] 0 (inl refl)

-- what such a run is, if it is an event
module _ (u : ℕ) (passes : Seen → Bool) (made : List Seen → Option Event) (none : made [] ≡ None) where
  abbrev MadeIn : Option Event → Type 0
  MadeIn None = Unit {0}
  MadeIn (Some e) = NotedIn u e

  one-in : (o : Option Event) → MadeIn o → AllIn u (cons_option o [])
  one-in None is = tt
  one-in (Some e) is = (is, tt)

  run-in : (span : List Seen) (x : Seen) → ((y : Seen) (run : List Seen) → last_number (y ∷ run) + 1 ≡ u → MadeIn (made (y ∷ run))) →
      (span ≡ []) ⊎ (last_number span + 1 ≡ u) → AllIn u (filter_map made (runs_behind passes (last_run passes span) (x ∷ [])))
  run-in span x each behind = by (passes x) (last_run passes span) (at behind (ends passes span))
    where
      at : (span ≡ []) ⊎ (last_number span + 1 ≡ u) → Ends passes (last_run passes span) (last_number span) → (last_run passes span ≡ []) ⊎ (last_number (last_run passes span) + 1 ≡ u)
      at (inl empty) h = inl (ap (last_run passes) empty)
      at (inr before) (inl is) = inl is
      at (inr before) (inr is) = inr (ap (λ (n : ℕ). n + 1) is ∙ before)

      by : (b : Bool) (run : List Seen) → (run ≡ []) ⊎ (last_number run + 1 ≡ u) → AllIn u (filter_map made (cond b [] (run ∷ []) ++ []))
      by true run is = tt
      by false [] is = subst (λ (o : Option Event). AllIn u (cons_option o [])) (sym none) tt
      by false (y ∷ run) (inl is) = absurd (cc)
      by false (y ∷ run) (inr before) = one-in (made (y ∷ run)) (each y run before)

bares-in : (span : List Seen) (x : Seen) → (span ≡ []) ⊎ (last_number span + 1 ≡ number_of x) → AllIn (number_of x) (bares_by span (x ∷ []))
bares-in span x behind =
    run-in (number_of x) is_bare bare_event refl span x (λ y run before. ap (λ (n : ℕ). n + 1) (last-of-run y run) ∙ before) behind

overs-in : (limit : ℕ) (span : List Seen) (x : Seen) → (span ≡ []) ⊎ (last_number span + 1 ≡ number_of x) → AllIn (number_of x) (overs_by limit span (x ∷ []))
overs-in limit span x behind = run-in (number_of x) (is_fast limit) over_event refl span x (λ y run before. by y run before (over_of (map speed_second (y ∷ run)))) behind
  where
    by : (y : Seen) (run : List Seen) → last_number (y ∷ run) + 1 ≡ number_of x → (o : Option Over) →
        MadeIn (number_of x) (is_fast limit) over_event refl (option_map {T = Over} {U = Event} (λ over. run_event OVER_SPEEDING over.most over.average y run) o)
    by y run before None = tt
    by y run before (Some over) = ap (λ (n : ℕ). n + 1) (last-of-run y run) ∙ before

-- AN INTERRUPTION ends with the power-on
gap-in : (t : Tearing) (log : RunLog) (span : List Seen) (x : Seen) → AllIn (number_of x) (gap_event t log span (x ∷ []))
gap-in t log span x = by (kept_after log (last_number span) == 0)
  where
    by : (b : Bool) → AllIn (number_of x)
        (option_to_list (option_map {T = Span} {U = Event} (λ gap. noted_with POWER_INTERRUPTION gap.begin gap.end (record { driver = standing t x Driver; codriver = standing t x CoDriver }))
        (cond {A = Option Span} b None (Some (record { begin = 60 * (kept_after log (last_number span) + 1); end = number_of x })))))
    by true = tt
    by false = (refl, tt)

before-in : (t : Tearing) (log : RunLog) (spans : List (List Seen)) (x : Seen) → AllIn (number_of x) (gap_before t log spans x)
before-in t log [] x = tt
before-in t log (span ∷ []) x = gap-in t log span x
before-in t log (span ∷ next ∷ spans) x = before-in t log (next ∷ spans) x

gaps-in : (t : Tearing) (log : RunLog) (spans : List (List Seen)) (x : Seen) → AllIn (number_of x) (gap_by t log spans x)
gaps-in t log spans x = by x.told.lit x.told.starts
  where
    by : (lit starts : Bool) → AllIn (number_of x) (cond lit (cond starts (gap_before t log spans x) []) [])
    by true true = before-in t log spans x
    by true false = tt
    by false starts = tt

-- WHAT A JUDGED CARD BRINGS is noted at once
if-kind : (kind known u : ℕ) (e : Event) → (kind ≡ known → NotedIn u e) → AllIn u (cond (kind == known) (e ∷ []) [])
if-kind kind known u e is = by (kind == known) refl
  where
    by : (b : Bool) → (kind == known) ≡ b → AllIn u (cond b (e ∷ []) [])
    by true at = (is (eqb-true kind known at), tt)
    by false at = tt

found-in : (kind session : ℕ) (t : Tearing) (x : Seen) (v : Visit) (verdict : Verdict) → AllIn (number_of x) (found_events kind session t x v verdict)
found-in kind session t x v (NotValid fid place) =
    if-kind kind CARD_NOT_VALID (number_of x) (noted_with kind (number_of x) (number_of x) (crew_judged t x v None))
    (λ is. subst (λ (k : ℕ). NotedIn (number_of x) (noted_with k (number_of x) (number_of x) (crew_judged t x v None))) (sym is) refl)
found-in kind session t x v (TimeOverlap stored now) =
    if-kind kind TIME_OVERLAP (number_of x) (noted_with kind (number_of x) stored (crew_judged t x v None))
    (λ is. subst (λ (k : ℕ). NotedIn (number_of x) (noted_with k (number_of x) stored (crew_judged t x v None))) (sym is) refl)
found-in kind session t x v (Accepted replayed) = by (kind == INSERTION_WHILE_DRIVING) (nat_lt 0 x.told.second.speed) (kind == SESSION_NOT_CLOSED) (nat_lt 0 session) refl refl
  where
    by : (a b c d : Bool) → (kind == INSERTION_WHILE_DRIVING) ≡ a → (kind == SESSION_NOT_CLOSED) ≡ c →
        AllIn (number_of x)
        (cond (a && b) (noted_with kind (number_of x) (number_of x) (crew_judged t x v (Some v.card)) ∷ [])
        (cond (c && d) (noted_with kind session (number_of x) (crew_judged t x v (Some v.card)) ∷ []) []))
    by true true c d is at = (subst (λ (k : ℕ). NotedIn (number_of x) (noted_with k (number_of x) (number_of x) (crew_judged t x v (Some v.card)))) (sym (eqb-true kind INSERTION_WHILE_DRIVING is)) refl, tt)
    by true false true true is at = (subst (λ (k : ℕ). NotedIn (number_of x) (noted_with k session (number_of x) (crew_judged t x v (Some v.card)))) (sym (eqb-true kind SESSION_NOT_CLOSED at)) refl, tt)
    by true false true false is at = tt
    by true false false d is at = tt
    by false b true true is at = (subst (λ (k : ℕ). NotedIn (number_of x) (noted_with k session (number_of x) (crew_judged t x v (Some v.card)))) (sym (eqb-true kind SESSION_NOT_CLOSED at)) refl, tt)
    by false b true false is at = tt
    by false b false d is at = tt

-- ALL THAT A SECOND BRINGS
pub second-in : (kind limit : ℕ) (sessions : ℕ → Visit → ℕ) (t : Tearing) (log : RunLog) (spans : List (List Seen)) (x : Seen) → IsBehind spans x →
    AllByRecursion (λ (e : Event). noting_second e ≡ number_of x) (second_events kind limit sessions t log spans x)
second-in kind limit sessions t log spans x behind =
    by (kind == DRIVING_WITHOUT_CARD) (kind == OVER_SPEEDING) (kind == POWER_INTERRUPTION) (kind == CARD_FAULT) x.told.lit refl
  where
    by : (a b c d lit : Bool) → x.told.lit ≡ lit → AllIn (number_of x)
        (cond a (cond lit (bares_by (span_before spans x) (x ∷ [])) [])
        (cond b (cond lit (overs_by limit (span_before spans x) (x ∷ [])) []) (cond c (gap_by t log spans x) (cond d (faults_by t log x) (found_by kind sessions t x)))))
    by true b c d true is = bares-in (span_before spans x) x (behind is)
    by true b c d false is = tt
    by false true c d true is = overs-in limit (span_before spans x) x (behind is)
    by false true c d false is = tt
    by false false true d lit is = gaps-in t log spans x
    by false false false true lit is = in-map (number_of x) (fault_of t log x) (λ v. refl) (torn_in_turn t x x.told.course.torn)
    by false false false false lit is = in-flat (number_of x) (λ (f : Visit × Verdict). found_events kind (sessions (number_of x) f.0) t x f.0 f.1) (λ f. found-in kind (sessions (number_of x) f.0) t x f.0 f.1) x.told.course.found

-- where a call failed in it, none is sure
pub none-sure : (later : RunLog) (u : ℕ) (es : List Event) → has_failed_in later u ≡ true → AllByRecursion (λ (e : Event). noting_second e ≡ u) es → are_sure later es ≡ true → es ≡ []
none-sure later u [] failed all sure = refl
none-sure later u (e ∷ es) failed all sure =
    absurd (let no : (not (has_failed_in later (noting_second e)) && are_sure later es) ≡ false = ap (λ (n : ℕ). not (has_failed_in later n) && are_sure later es) all.0 ∙ ap (λ (b : Bool). not b && are_sure later es) failed in
    let wrong : true ≡ false = sym sure ∙ no in cc)
