-- The span of a second, as its events see it, and what a turn of it ends.
use Rattle.std.proofs.Common.{◌≡◌, ◌∙◌, ℕ, Bool, true, false, cond, Option, Some, None, List, [], ◌∷◌, ◌++◌, length, refl, ap}
use Rattle.std.specs.Prelude.{fold, option_map, IfSome, map}
use Rattle.std.specs.List.{AllByRecursion, cons_option, filter_map}
use Rattle.activity_codec.specs.declared.values.Slot.{Slot}
use Rattle.activity_codec.specs.declared.values.Slot.TheVariants.{Driver, CoDriver}
use Rattle.trace_model.specs.Trace.{TraceSecond}
use Rattle.log_model.specs.Log.{RunLog, Keeping, is_torn_in}
use Rattle.log_model.specs.Slots.{in_slot}
use Rattle.log_model.specs.Course.{Course, Before, unmoved, both_told}
use Rattle.unit_notes.specs.event_model.declared.kinds.TheConstants.{OVER_SPEEDING}
use Rattle.unit_notes.specs.event_model.declared.entries.Over.{Over}
use Rattle.unit_notes.specs.event_model.Runs.{run_with, last_run, runs_behind}
use Rattle.unit_notes.specs.event_model.Spans.{over_of}
use Rattle.unit_notes.specs.event_model.Events.{Event, Seen, course_by, seen_of, seen_on, seen_spans, crew_of, last_seen, run_event, bare_event, over_event, is_bare, speed_second}
use Rattle.run_events.specs.run_course.Reached.{course_at}
use Rattle.run_events.specs.Seconds.{last_of, span_before, seen_next, bares_by, overs_by, is_fast}
use Rattle.run_minutes.specs.run_promise.Origin.{Origin}
use Rattle.run_events.proofs.Growing.{seen-more, spans-more}
use Rattle.run_note_record.proofs.Tearing.{told_slot, both-slot}
use Rattle.run_acts.specs.Named.{CrewValid, NamesValid}
use Rattle.run_acts.specs.Evented.{span_of}
use Rattle.run_acts.proofs.Named.{both-valid}

last-on : (spans : List (List Seen)) (x : Seen) → last_of (seen_on spans x) ≡ last_of spans ++ x ∷ []
last-on [] x = refl
last-on (span ∷ []) x = refl
last-on (span ∷ next ∷ []) x = refl
last-on (span ∷ next ∷ third ∷ spans) x = last-on (next ∷ third ∷ spans) x

last-new : (spans : List (List Seen)) (xs : List Seen) → last_of (spans ++ xs ∷ []) ≡ xs
last-new [] xs = refl
last-new (span ∷ []) xs = refl
last-new (span ∷ next ∷ spans) xs = last-new (next ∷ spans) xs

last-with : (spans : List (List Seen)) (x : Seen) (lit starts : Bool) → lit ≡ true → last_of (cond lit (cond starts (spans ++ (x ∷ []) ∷ []) (seen_on spans x)) spans) ≡ cond starts [] (last_of spans) ++ x ∷ []
last-with spans x true true is = last-new spans (x ∷ [])
last-with spans x true false is = last-on spans x
last-with spans x false starts is = absurd (cc)

-- A SECOND MORE is the last of its span
pub span-more : (log : RunLog) (done : List TraceSecond) (s : TraceSecond) → (seen_next log done s).told.lit ≡ true → span_of log (done ++ s ∷ []) ≡ span_before (seen_spans (seen_of log done)) (seen_next log done s) ++ seen_next log done s ∷ []
span-more log done s lit =
    let x : Seen = seen_next log done s in
    ap (λ (xs : List Seen). last_of (seen_spans xs)) (seen-more log done s) ∙ ap last_of (spans-more (seen_of log done) x) ∙ last-with (seen_spans (seen_of log done)) x x.told.lit x.told.starts lit

-- AS THE KEEPING BEGINS, in which nothing is torn out yet, the slots are those of the second itself
slot-same : (log : RunLog) (u : ℕ) (c : Course) → ((slot : Slot) → is_torn_in log u Keeping slot ≡ false) → (slot : Slot) → in_slot (both_told log u Keeping (unmoved false) c).slots slot ≡ in_slot c.slots slot
slot-same log u c untorn slot = both-slot log u Keeping (unmoved false) slot c ∙ ap (λ (t : Bool). told_slot t [] u (in_slot c.slots slot)) (untorn slot)

pub keeping-slots : (log : RunLog) (before : Before) (s : TraceSecond) → ((slot : Slot) → is_torn_in log s.number Keeping slot ≡ false) → (course_at log before s Keeping).slots ≡ (course_by log before s (length s.actions)).slots
keeping-slots log before s untorn =
    let c : Course = course_by log before s (length s.actions) in
    let d : Course = both_told log s.number Keeping (unmoved false) c in
    λ i. record { driver = slot-same log s.number c untorn Driver i; codriver = slot-same log s.number c untorn CoDriver i }

-- ---- what seconds with valid cards bring names valid cards
module _ (o : Origin) where
  abbrev Fine : Seen → Type 0
  Fine x = CrewValid o (crew_of x.itself)

  abbrev FineEvent : Event → Type 0
  FineEvent e = CrewValid o e.at_begin × CrewValid o e.at_end

  push-fine : (xs : List Seen) (x : Seen) → AllByRecursion Fine xs → Fine x → AllByRecursion Fine (xs ++ x ∷ [])
  push-fine [] x all fine = (fine, tt)
  push-fine (y ∷ xs) x all fine = (all.0, push-fine xs x all.1 fine)

  run-fine : (passes : Seen → Bool) (run : List Seen) (x : Seen) → AllByRecursion Fine run → Fine x → AllByRecursion Fine (run_with passes run x)
  run-fine passes run x all fine = by (passes x)
    where
      by : (b : Bool) → AllByRecursion Fine (cond b (run ++ x ∷ []) [])
      by true = push-fine run x all fine
      by false = tt

  fold-fine : (passes : Seen → Bool) (run xs : List Seen) → AllByRecursion Fine run → AllByRecursion Fine xs → AllByRecursion Fine (fold (run_with passes) run xs)
  fold-fine passes run [] all fine = all
  fold-fine passes run (x ∷ xs) all fine = fold-fine passes (run_with passes run x) xs (run-fine passes run x all fine.0) fine.1

  one-run : (b : Bool) (run : List Seen) (more : List (List Seen)) → AllByRecursion Fine run → AllByRecursion (λ (r : List Seen). AllByRecursion Fine r) more →
      AllByRecursion (λ (r : List Seen). AllByRecursion Fine r) (cond b [] (run ∷ []) ++ more)
  one-run true run more all rest = rest
  one-run false run more all rest = (all, rest)

  runs-fine : (passes : Seen → Bool) (run xs : List Seen) → AllByRecursion Fine run → AllByRecursion Fine xs → AllByRecursion (λ (r : List Seen). AllByRecursion Fine r) (runs_behind passes run xs)
  runs-fine passes run [] all fine = tt
  runs-fine passes run (x ∷ xs) all fine = one-run (passes x) run (runs_behind passes (run_with passes run x) xs) all (runs-fine passes (run_with passes run x) xs (run-fine passes run x all fine.0) fine.1)

  last-fine : (x : Seen) (xs : List Seen) → Fine x → AllByRecursion Fine xs → Fine (last_seen x xs)
  last-fine x [] fine all = fine
  last-fine x (y ∷ xs) fine all = last-fine y xs all.0 all.1

  bare-fine : (run : List Seen) → AllByRecursion Fine run → IfSome (bare_event run) FineEvent
  bare-fine [] all = tt
  bare-fine (x ∷ run) all = (all.0, last-fine x run all.0 all.1)

  over-fine : (run : List Seen) → AllByRecursion Fine run → IfSome (over_event run) FineEvent
  over-fine [] all = tt
  over-fine (x ∷ run) all = by (over_of (map speed_second (x ∷ run)))
    where
      by : (q : Option Over) → IfSome (option_map {T = Over} {U = Event} (λ over. run_event OVER_SPEEDING over.most over.average x run) q) FineEvent
      by None = tt
      by (Some over) = (all.0, last-fine x run all.0 all.1)

  one-event : (q : Option Event) (es : List Event) → IfSome q FineEvent → NamesValid o es → NamesValid o (cons_option q es)
  one-event None es fine rest = rest
  one-event (Some e) es fine rest = (fine, rest)

  events-fine : (event : List Seen → Option Event) → ((run : List Seen) → AllByRecursion Fine run → IfSome (event run) FineEvent) → (runs : List (List Seen)) → AllByRecursion (λ (r : List Seen). AllByRecursion Fine r) runs → NamesValid o (filter_map event runs)
  events-fine event each [] all = tt
  events-fine event each (run ∷ runs) all = one-event (event run) (filter_map event runs) (each run all.0) (events-fine event each runs all.1)

  pub ends-valid : (limit : ℕ) (span xs : List Seen) → AllByRecursion Fine span → AllByRecursion Fine xs → NamesValid o (bares_by span xs ++ overs_by limit span xs)
  ends-valid limit span xs all fine =
      both-valid o (bares_by span xs) (overs_by limit span xs)
      (events-fine bare_event bare-fine (runs_behind is_bare (last_run is_bare span) xs) (runs-fine is_bare (last_run is_bare span) xs (fold-fine is_bare [] span tt all) fine))
      (events-fine over_event over-fine (runs_behind (is_fast limit) (last_run (is_fast limit) span) xs) (runs-fine (is_fast limit) (last_run (is_fast limit) span) xs (fold-fine (is_fast limit) [] span tt all) fine))
