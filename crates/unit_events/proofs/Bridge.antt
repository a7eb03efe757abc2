-- Where no card bears on a run, its events are those that its power spans tell by themselves.
use Rattle.std.proofs.Common.{◌≡◌, ℕ, zero, suc, ◌+◌, Bool, true, false, cond, not, ◌&&◌, nat_lt, Option, Some, None, List, [], ◌∷◌, ◌++◌, length, map, filter, take, fold, max, sum, ◌/◌, refl, ap, sym, ◌∙◌, is_some}
use Rattle.std.specs.Prelude.{◌==◌, flat_map, option_map, option_to_list}
use Rattle.std.specs.List.{AllByRecursion, list_any, filter_map, cons_option}
use Rattle.std.proofs.lemmas.List.{map-append}
use Rattle.std.proofs.lemmas.Simd.{map-map}
use Rattle.activity_codec.specs.declared.values.Slot.{Slot}
use Rattle.activity_codec.specs.declared.values.Slot.TheVariants.{Driver, CoDriver}
use Rattle.activity_codec.specs.declared.values.Pick.{Pick}
use Rattle.activity_codec.specs.Activity.{same_slot}
use Rattle.trace_model.specs.declared.Card.{Card}
use Rattle.trace_model.specs.declared.Action.{Action}
use Rattle.trace_model.specs.declared.Action.TheVariants.{Select, Insert, Withdraw, Tear, Place, Manual}
use Rattle.trace_model.specs.Trace.{TraceSecond}
use Rattle.log_model.specs.declared.lines.Break.{Break}
use Rattle.log_model.specs.declared.lines.Break.TheVariants.{Cut, Tear as Torn}
use Rattle.log_model.specs.declared.lines.Verdict.{Verdict}
use Rattle.log_model.specs.Log.{RunLog, Phase, In, Keeping, cut_in, kept_after, same_phase, tears_here, is_torn_in, found_in, is_accepting}
use Rattle.log_model.specs.Slots.{Slots, is_accepted}
use Rattle.log_model.specs.Course.{Course, Visit, ToldSecond, Went, Before, Moved, moved_by, unmoved, slot_told, both_told, begins, acted, all_acted, fresh, cut_told, lit_course, has_power, second_told, before_next, went_on, went, not_begun}
use Rattle.log_model.specs.Spans.{go_on, spans_with, spans_of}
use Rattle.log_model.specs.Causes.{is_cut}
use Rattle.event_model.specs.declared.kinds.TheConstants.{DRIVING_WITHOUT_CARD, OVER_SPEEDING, POWER_INTERRUPTION, CARD_FAULT}
use Rattle.event_model.specs.declared.entries.Over.{Over}
use Rattle.event_model.specs.declared.entries.Span.{Span}
use Rattle.event_model.specs.Runs.{runs_behind, ended_runs}
use Rattle.event_model.specs.Spans.{SpeedSecond, DriverSecond, bare_of, bares_of, over_of, overs_of, is_above, gap_of}
use Rattle.event_model.specs.Events.{Crew, Event, Tearing, crew_of, Seen, Watched, watched_on, course_by, seen_by, seen_of, seen_on, seen_with, seen_spans, number_of, last_seen, run_event, is_bare, bare_events, over_events, noted_with, last_number, gaps_between, gap_events, found_events, judged_events, first_card, accepted_at, standing, fault_of, torn_in_turn, fault_events, events_of}
use Rattle.event_model.specs.Events as seen
use Rattle.run_unit_course.specs.Turn.{IsSelection, empty_slots, plain_course}
use Rattle.unit_events.specs.Plain.{nobody, driver_second, speed_second, bare_event, over_event, gap_event, bares_in, overs_in, gap_to, last_in, gap_between, gaps_in, plain_events, IsWithoutCards, OnlySelect}

-- NO TEAR AND NO FIND
no-tears : (u : ℕ) (p : Phase) (slot : Slot) (bs : List Break) → AllByRecursion (λ (b : Break). is_cut b ≡ true) bs → list_any (tears_here u p slot) bs ≡ false
no-tears u p slot [] h = refl
no-tears u p slot (Cut s k f n ∷ bs) h = no-tears u p slot bs h.1
no-tears u p slot (Torn s other f n late ∷ bs) h = absurd (let no : false ≡ true = h.0 in cc)

torn-nothing : (log : RunLog) (u : ℕ) (p : Phase) (slot : Slot) → IsWithoutCards log → is_torn_in log u p slot ≡ false
unfolding is_torn_in
torn-nothing log u p slot h = no-tears u p slot log.breaks h.breaks

found-nothing : (log : RunLog) (u : ℕ) (p : Phase) (slot : Slot) → log.finds ≡ [] → found_in log u p slot ≡ []
unfolding found_in
found-nothing log u p slot none = rw none refl

-- SECONDS without cards
nothing : (b : Bool) (vs : List Verdict) → vs ≡ [] → cond b vs [] ≡ []
nothing true vs is = is
nothing false vs is = refl

slot-plain : (log : RunLog) (u : ℕ) (p : Phase) (moved : Moved) (slot : Slot) (picks : List (Slot × Pick)) → IsWithoutCards log → slot_told log u p moved slot (plain_course picks []) ≡ plain_course picks []
slot-plain log u p moved Driver picks h =
    rw (torn-nothing log u p Driver h) (rw (nothing (moved.enters Driver) (found_in log u p Driver) (found-nothing log u p Driver h.finds)) refl)
slot-plain log u p moved CoDriver picks h =
    rw (torn-nothing log u p CoDriver h) (rw (nothing (moved.enters CoDriver) (found_in log u p CoDriver) (found-nothing log u p CoDriver h.finds)) refl)

both-plain : (log : RunLog) (u : ℕ) (p : Phase) (moved : Moved) (picks : List (Slot × Pick)) → IsWithoutCards log → both_told log u p moved (plain_course picks []) ≡ plain_course picks []
both-plain log u p moved picks h =
    ap (slot_told log u p moved CoDriver) (slot-plain log u p moved Driver picks h) ∙ slot-plain log u p moved CoDriver picks h

fresh-plain : (starts : Bool) → fresh starts empty_slots ≡ plain_course [] []
fresh-plain true = refl
fresh-plain false = refl

cut-plain : (b : Bool) (picks : List (Slot × Pick)) → cut_told b (plain_course picks []) ≡ plain_course picks []
cut-plain true picks = refl
cut-plain false picks = refl

-- a selection is carried out, or a cut came before it
one-acted : (log : RunLog) (s : TraceSecond) (n : ℕ) (slot : Slot) (pick : Pick) (picks : List (Slot × Pick)) → IsWithoutCards log →
    (ps : List (Slot × Pick)) × (acted log s n (Select slot pick) (plain_course picks []) ≡ plain_course ps [])
one-acted log s n slot pick picks h = by (begins (cut_in log s.number) n) refl
  where
    by : (b : Bool) → begins (cut_in log s.number) n ≡ b → (ps : List (Slot × Pick)) × (acted log s n (Select slot pick) (plain_course picks []) ≡ plain_course ps [])
    by true is = (picks ++ (slot, pick) ∷ [], rw is (both-plain log s.number (In (n + 1)) (moved_by n None (Select slot pick) empty_slots) (picks ++ (slot, pick) ∷ []) h))
    by false is = (picks, rw is refl)

all-picked : (log : RunLog) (s : TraceSecond) (n : ℕ) (actions : List Action) (picks : List (Slot × Pick)) → IsWithoutCards log → AllByRecursion IsSelection actions →
    (ps : List (Slot × Pick)) × (all_acted log s n actions (plain_course picks []) ≡ plain_course ps [])
all-picked log s n [] picks h each = (picks, refl)
all-picked log s n (Select slot pick ∷ actions) picks h each =
    let one = one-acted log s n slot pick picks h in
    let rest = all-picked log s (n + 1) actions one.0 h each.1 in
    (rest.0, ap (all_acted log s (n + 1) actions) one.1 ∙ rest.1)
all-picked log s n (Insert slot card ∷ actions) picks h each = absurd each.0
all-picked log s n (Withdraw slot ∷ actions) picks h each = absurd each.0
all-picked log s n (Tear slot ∷ actions) picks h each = absurd each.0
all-picked log s n (Place slot ending country region ∷ actions) picks h each = absurd each.0
all-picked log s n (Manual slot pick minute ∷ actions) picks h each = absurd each.0

some-selections : (n : ℕ) (actions : List Action) → AllByRecursion IsSelection actions → AllByRecursion IsSelection (take n actions)
some-selections zero actions h = tt
some-selections (suc n) [] h = tt
some-selections (suc n) (a ∷ actions) h = (h.0, some-selections n actions h.1)

module _ (log : RunLog) (h : IsWithoutCards log) (before : Before) (s : TraceSecond) (slots : before.slots ≡ empty_slots) (each : AllByRecursion IsSelection s.actions) where
  powered : both_told log s.number (In 0) (unmoved (not before.running)) (fresh (not before.running) before.slots) ≡ plain_course [] []
  powered =
      ap (λ (slots : Slots). both_told log s.number (In 0) (unmoved (not before.running)) (fresh (not before.running) slots)) slots
      ∙ ap (both_told log s.number (In 0) (unmoved (not before.running))) (fresh-plain (not before.running))
      ∙ both-plain log s.number (In 0) (unmoved (not before.running)) [] h

  course-plain : (n : ℕ) → (ps : List (Slot × Pick)) × (course_by log before s n ≡ plain_course ps [])
  course-plain n =
      let all = all-picked log s 0 (take n s.actions) [] h (some-selections n s.actions each) in
      (all.0, ap (all_acted log s 0 (take n s.actions)) powered ∙ all.1)

  course-empty : (n : ℕ) → (course_by log before s n).slots ≡ empty_slots
  course-empty n = ap (λ (c : Course). c.slots) (course-plain n).1

  lit-plain : (ps : List (Slot × Pick)) × (lit_course log s (not before.running) before.slots ≡ plain_course ps [])
  lit-plain =
      let all = all-picked log s 0 s.actions [] h each in (
        all.0,
        ap (λ (c : Course). cut_told (is_some (cut_in log s.number)) (both_told log s.number Keeping (unmoved false) (all_acted log s 0 s.actions c))) powered
            ∙ ap (λ (c : Course). cut_told (is_some (cut_in log s.number)) (both_told log s.number Keeping (unmoved false) c)) all.1
            ∙ ap (cut_told (is_some (cut_in log s.number))) (both-plain log s.number Keeping (unmoved false) all.0 h)
            ∙ cut-plain (is_some (cut_in log s.number)) all.0,
      )

-- a second in which no card was found and none torn out
record IsBareTold (t : ToldSecond) : Type 0 where
  slots : t.course.slots ≡ empty_slots
  found : t.course.found ≡ []
  torn : t.course.torn ≡ []

told-bare : (log : RunLog) → IsWithoutCards log → (before : Before) (s : TraceSecond) → before.slots ≡ empty_slots → AllByRecursion IsSelection s.actions → IsBareTold (second_told log before s)
told-bare log h before s slots each = by (has_power before s) refl
  where
    by : (b : Bool) → has_power before s ≡ b → IsBareTold (second_told log before s)
    by true is =
        let lit = lit-plain log h before s slots each in
        rw is (record { slots = ap (λ (c : Course). c.slots) lit.1; found = ap (λ (c : Course). c.found) lit.1; torn = ap (λ (c : Course). c.torn) lit.1 })
    by false is = rw is (record { slots = slots; found = refl; torn = refl })

-- a second as events see it
record IsPlainSeen (x : Seen) : Type 0 where
  itself : x.itself ≡ empty_slots
  found : x.told.course.found ≡ []
  torn : x.told.course.torn ≡ []

seen-one : (log : RunLog) → IsWithoutCards log → (before : Before) (s : TraceSecond) → before.slots ≡ empty_slots → AllByRecursion IsSelection s.actions → IsPlainSeen (seen_by log before s)
seen-one log h before s slots each =
    let t = told-bare log h before s slots each in
    record { itself = course-empty log h before s slots each (length s.actions); found = t.found; torn = t.torn }

pub each-push : {T : Type 0} (P : T → Type 0) (xs : List T) (x : T) → AllByRecursion P xs → P x → AllByRecursion P (xs ++ x ∷ [])
each-push P [] x h is = (is, tt)
each-push P (y ∷ xs) x h is = (h.0, each-push P xs x h.1 is)

abbrev told_in : Seen → ToldSecond
told_in x = x.told

abbrev told_span : List Seen → List ToldSecond
told_span span = map told_in span

-- the seconds so far, as events see them and as they went
record Watches (w : Watched) (v : Went) : Type 0 where
  before : w.before ≡ v.before
  told : told_span w.seen ≡ v.told
  plain : AllByRecursion IsPlainSeen w.seen
  slots : v.before.slots ≡ empty_slots

watches-one : (log : RunLog) → IsWithoutCards log → (s : TraceSecond) → AllByRecursion IsSelection s.actions → (w : Watched) (v : Went) → Watches w v → Watches (watched_on log w s) (went_on log v s)
watches-one log h s each w v k =
    let slots : w.before.slots ≡ empty_slots = ap (λ (b : Before). b.slots) k.before ∙ k.slots in
    record {
      before = ap (λ (b : Before). before_next b (second_told log b s)) k.before;
      told = map-append told_in w.seen (seen_by log w.before s ∷ [])
          ∙ ap (λ (ts : List ToldSecond). ts ++ second_told log w.before s ∷ []) k.told
          ∙ ap (λ (b : Before). v.told ++ second_told log b s ∷ []) k.before;
      plain = each-push IsPlainSeen w.seen (seen_by log w.before s) k.plain (seen-one log h w.before s slots each);
      slots = (told-bare log h v.before s k.slots each).slots;
    }

watches-all : (log : RunLog) → IsWithoutCards log → (ss : List TraceSecond) → OnlySelect ss → (w : Watched) (v : Went) → Watches w v → Watches (fold (watched_on log) w ss) (fold (went_on log) v ss)
watches-all log h [] each w v k = k
watches-all log h (s ∷ ss) each w v k = watches-all log h ss each.1 (watched_on log w s) (went_on log v s) (watches-one log h s each.0 w v k)

watches : (log : RunLog) → IsWithoutCards log → (ss : List TraceSecond) → OnlySelect ss → (told_span (seen_of log ss) ≡ (went log ss).told) × AllByRecursion IsPlainSeen (seen_of log ss)
unfolding seen_of went
watches log h ss each =
    let all = watches-all log h ss each (record { seen = []; before = not_begun.before }) not_begun (record { before = refl; told = refl; plain = tt; slots = refl }) in
    (all.told, all.plain)

-- THE POWER SPANS
on-same : (sp : List (List Seen)) (x : Seen) → go_on (map told_span sp) x.told ≡ map told_span (seen_on sp x)
on-same [] x = refl
on-same (span ∷ []) x = ap (λ (s : List ToldSecond). s ∷ []) (sym (map-append told_in span (x ∷ [])))
on-same (span ∷ next ∷ sp) x = ap (λ (ss : List (List ToldSecond)). told_span span ∷ ss) (on-same (next ∷ sp) x)

with-same : (sp : List (List Seen)) (x : Seen) → spans_with (map told_span sp) x.told ≡ map told_span (seen_with sp x)
with-same sp x = by x.told.lit x.told.starts
  where
    by : (lit starts : Bool) → cond lit (cond starts (map told_span sp ++ (x.told ∷ []) ∷ []) (go_on (map told_span sp) x.told)) (map told_span sp)
        ≡ map told_span (cond lit (cond starts (sp ++ (x ∷ []) ∷ []) (seen_on sp x)) sp)
    by true true = sym (map-append told_span sp ((x ∷ []) ∷ []))
    by true false = on-same sp x
    by false true = refl
    by false false = refl

spans-same : (xs : List Seen) (sp : List (List Seen)) → fold spans_with (map told_span sp) (told_span xs) ≡ map told_span (fold seen_with sp xs)
spans-same [] sp = refl
spans-same (x ∷ xs) sp = ap (λ (ss : List (List ToldSecond)). fold spans_with ss (told_span xs)) (with-same sp x) ∙ spans-same xs (seen_with sp x)

abbrev ArePlainSpans : List (List Seen) → Type 0
ArePlainSpans sp = AllByRecursion (λ (span : List Seen). AllByRecursion IsPlainSeen span) sp

on-plain : (sp : List (List Seen)) (x : Seen) → ArePlainSpans sp → IsPlainSeen x → ArePlainSpans (seen_on sp x)
on-plain [] x h is = ((is, tt), tt)
on-plain (span ∷ []) x h is = (each-push IsPlainSeen span x h.0 is, tt)
on-plain (span ∷ next ∷ sp) x h is = (h.0, on-plain (next ∷ sp) x h.1 is)

with-plain : (sp : List (List Seen)) (x : Seen) → ArePlainSpans sp → IsPlainSeen x → ArePlainSpans (seen_with sp x)
with-plain sp x h is = by x.told.lit x.told.starts
  where
    by : (lit starts : Bool) → ArePlainSpans (cond lit (cond starts (sp ++ (x ∷ []) ∷ []) (seen_on sp x)) sp)
    by true true = each-push (λ (span : List Seen). AllByRecursion IsPlainSeen span) sp (x ∷ []) h (is, tt)
    by true false = on-plain sp x h is
    by false true = h
    by false false = h

spans-plain : (xs : List Seen) (sp : List (List Seen)) → ArePlainSpans sp → AllByRecursion IsPlainSeen xs → ArePlainSpans (fold seen_with sp xs)
spans-plain [] sp h all = h
spans-plain (x ∷ xs) sp h all = spans-plain xs (seen_with sp x) (with-plain sp x h all.0) all.1

-- RUNS OF SECONDS, seen in one way and in another
module _ {A B Y Z : Type 0} (f : A → B) (P : A → Bool) (Q : B → Bool) (made : List A → Option Y) (make : List B → Option Z) (g : Z → Y) where
  one-more : (o : Option Z) (zs : List Z) → cons_option (option_map g o) (map g zs) ≡ map g (cons_option o zs)
  one-more None zs = refl
  one-more (Some z) zs = refl

  run-step : (b : Bool) (run : List A) (x : A) (xs : List A) →
      filter_map made (runs_behind P (run ++ x ∷ []) xs) ≡ map g (filter_map make (runs_behind Q (map f (run ++ x ∷ [])) (map f xs))) →
      filter_map made (runs_behind P [] xs) ≡ map g (filter_map make (runs_behind Q [] (map f xs))) → made run ≡ option_map g (make (map f run)) →
      filter_map made (cond b [] (run ∷ []) ++ runs_behind P (cond b (run ++ x ∷ []) []) xs)
      ≡ map g (filter_map make (cond b [] (map f run ∷ []) ++ runs_behind Q (cond b (map f run ++ f x ∷ []) []) (map f xs)))
  run-step true run x xs on off is = on ∙ ap (λ (r : List B). map g (filter_map make (runs_behind Q r (map f xs)))) (map-append f run (x ∷ []))
  run-step false run x xs on off is =
      ap (λ (o : Option Y). cons_option o (filter_map made (runs_behind P [] xs))) is
      ∙ ap (cons_option (option_map g (make (map f run)))) off
      ∙ one-more (make (map f run)) (filter_map make (runs_behind Q [] (map f xs)))

  runs-same : (Good : A → Type 0) → ((x : A) → Good x → P x ≡ Q (f x)) → ((run : List A) → AllByRecursion Good run → made run ≡ option_map g (make (map f run))) →
      (xs run : List A) → AllByRecursion Good run → AllByRecursion Good xs →
      filter_map made (runs_behind P run xs) ≡ map g (filter_map make (runs_behind Q (map f run) (map f xs)))
  runs-same Good agree makes [] run good all = refl
  runs-same Good agree makes (x ∷ xs) run good all =
      ap (λ (b : Bool). filter_map made (cond b [] (run ∷ []) ++ runs_behind P (cond b (run ++ x ∷ []) []) xs)) (agree x all.0)
      ∙ run-step (Q (f x)) run x xs (runs-same Good agree makes xs (run ++ x ∷ []) (each-push Good run x good all.0) all.1) (runs-same Good agree makes xs [] tt all.1) (makes run good)

-- the last second of a run
last-plain : (x : Seen) (run : List Seen) → IsPlainSeen x → AllByRecursion IsPlainSeen run → IsPlainSeen (last_seen x run)
last-plain x [] is all = is
last-plain x (y ∷ run) is all = last-plain y run all.0 all.1

run-plain : (kind most average : ℕ) (x : Seen) (run : List Seen) → IsPlainSeen x → AllByRecursion IsPlainSeen run →
    run_event kind most average x run
    ≡ record { kind = kind; begin = number_of x; end = number_of (last_seen x run); most = most; average = average; at_begin = nobody; at_end = nobody }
run-plain kind most average x run is all =
    ap (λ (c : Crew). record { kind = kind; begin = number_of x; end = number_of (last_seen x run); most = most; average = average; at_begin = c; at_end = crew_of (last_seen x run).itself }) (ap crew_of is.itself)
    ∙ ap (λ (c : Crew). record { kind = kind; begin = number_of x; end = number_of (last_seen x run); most = most; average = average; at_begin = nobody; at_end = c }) (ap crew_of (last-plain x run is all).itself)

-- DRIVING WITHOUT A CARD
abbrev driver_in : Seen → DriverSecond
driver_in x = driver_second x.told

and-true : (b : Bool) → (b && true) ≡ b
and-true true = refl
and-true false = refl

bare-agrees : (x : Seen) → IsPlainSeen x → is_bare x ≡ (driver_in x).bare
bare-agrees x is = ap (λ (slots : Slots). nat_lt 0 x.told.second.speed && not (is_accepted slots.driver)) is.itself ∙ and-true (nat_lt 0 x.told.second.speed)

bare-ends : (x : Seen) (run : List Seen) → number_of (last_seen x run) ≡ fold (λ (before n : ℕ). n) (number_of x) (map (λ (s : DriverSecond). s.number) (map driver_in run))
bare-ends x [] = refl
bare-ends x (y ∷ run) = bare-ends y run

bare-makes : (run : List Seen) → AllByRecursion IsPlainSeen run → seen.bare_event run ≡ option_map bare_event (bare_of (map driver_in run))
bare-makes [] all = refl
bare-makes (x ∷ run) all =
    ap (λ (e : Event). Some e) (run-plain DRIVING_WITHOUT_CARD 0 0 x run all.0 all.1)
    ∙ ap (λ (end : ℕ). Some (noted_with DRIVING_WITHOUT_CARD (number_of x) end nobody)) (bare-ends x run)

bare-span : (span : List Seen) → AllByRecursion IsPlainSeen span → filter_map seen.bare_event (ended_runs is_bare span) ≡ bares_in (told_span span)
unfolding bares_of
bare-span span all =
    runs-same driver_in is_bare (λ (s : DriverSecond). s.bare) seen.bare_event bare_of bare_event IsPlainSeen bare-agrees bare-makes span [] tt all
    ∙ ap (λ (ds : List DriverSecond). map bare_event (filter_map bare_of (ended_runs (λ (s : DriverSecond). s.bare) ds))) (sym (map-map driver_second told_in span))

-- OVER SPEEDING
abbrev speed_in : Seen → SpeedSecond
speed_in x = speed_second x.told

speed-ends : (x : Seen) (run : List Seen) → number_of (last_seen x run) ≡ fold (λ (before n : ℕ). n) (number_of x) (map (λ (s : SpeedSecond). s.number) (map speed_in run))
speed-ends x [] = refl
speed-ends x (y ∷ run) = speed-ends y run

over-makes : (run : List Seen) → AllByRecursion IsPlainSeen run → seen.over_event run ≡ option_map over_event (over_of (map speed_in run))
over-makes [] all = refl
over-makes (x ∷ run) all = by (nat_lt 60 (length (map speed_in (x ∷ run))))
  where
    over : Over
    over = record {
      begin = number_of x;
      end = fold (λ (before n : ℕ). n) (number_of x) (map (λ (s : SpeedSecond). s.number) (map speed_in run));
      most = fold max 0 (map (λ (s : SpeedSecond). s.speed) (map speed_in (x ∷ run)));
      average = sum (map (λ (s : SpeedSecond). s.speed) (map speed_in (x ∷ run))) / length (map speed_in (x ∷ run));
    }

    by : (b : Bool) → option_map {T = Over} {U = Event} (λ over. run_event OVER_SPEEDING over.most over.average x run) (cond b (Some over) None) ≡ option_map over_event (cond b (Some over) None)
    by true =
        ap (λ (e : Event). Some e) (run-plain OVER_SPEEDING over.most over.average x run all.0 all.1)
        ∙ ap (λ (end : ℕ). Some (record { kind = OVER_SPEEDING; begin = number_of x; end = end; most = over.most; average = over.average; at_begin = nobody; at_end = nobody })) (speed-ends x run)
    by false = refl

over-span : (limit : ℕ) (span : List Seen) → AllByRecursion IsPlainSeen span → filter_map seen.over_event (ended_runs (λ (x : Seen). is_above limit (seen.speed_second x)) span) ≡ overs_in limit (told_span span)
unfolding overs_of
over-span limit span all =
    runs-same speed_in (λ (x : Seen). is_above limit (seen.speed_second x)) (is_above limit) seen.over_event over_of over_event IsPlainSeen (λ x is. refl) over-makes span [] tt all
    ∙ ap (λ (ds : List SpeedSecond). map over_event (filter_map over_of (ended_runs (is_above limit) ds))) (sym (map-map speed_second told_in span))

-- those of all spans
flat-same : (h : List Seen → List Event) (k : List ToldSecond → List Event) → ((span : List Seen) → AllByRecursion IsPlainSeen span → h span ≡ k (told_span span)) →
    (sp : List (List Seen)) → ArePlainSpans sp → flat_map h sp ≡ flat_map k (map told_span sp)
flat-same h k each [] all = refl
flat-same h k each (span ∷ sp) all =
    ap (λ (es : List Event). es ++ flat_map h sp) (each span all.0)
    ∙ ap (λ (es : List Event). k (told_span span) ++ es) (flat-same h k each sp all.1)

-- POWER INTERRUPTIONS
last-same : (span : List Seen) → last_number span ≡ last_in (told_span span)
last-same [] = refl
last-same (x ∷ []) = refl
last-same (x ∷ y ∷ span) = last-same (y ∷ span)

gap-made : (o : Option Span) → option_to_list (option_map {T = Span} {U = Event} (λ gap. noted_with POWER_INTERRUPTION gap.begin gap.end nobody) o) ≡ map gap_event (option_to_list o)
gap-made None = refl
gap-made (Some s) = refl

-- no card was accepted at a power-on
standing-none : (t : Tearing) (x : Seen) (slot : Slot) → IsPlainSeen x → standing t x slot ≡ None
standing-none t x slot is =
    ap (λ (vs : List Visit). cond (list_any (λ (v : Visit). same_phase v.phase (In 0) && same_slot v.slot slot) vs && not (t.by_gap (number_of x) slot)) None (accepted_at x (In 0) slot)) is.torn
    ∙ ap (λ (fs : List (Visit × Verdict)). first_card (filter (λ (f : Visit × Verdict). same_phase f.0.phase (In 0) && (same_slot f.0.slot slot && is_accepting f.1)) fs)) is.found

nobody-stands : (t : Tearing) (x : Seen) → IsPlainSeen x → (let c : Crew = record { driver = standing t x Driver; codriver = standing t x CoDriver } in c) ≡ nobody
nobody-stands t x is =
    ap (λ (d : Option Card). let c : Crew = record { driver = d; codriver = standing t x CoDriver } in c) (standing-none t x Driver is)
    ∙ ap (λ (d : Option Card). let c : Crew = record { driver = None; codriver = d } in c) (standing-none t x CoDriver is)

gap-one : (t : Tearing) (log : RunLog) (span : List Seen) (x : Seen) (next : List Seen) → IsPlainSeen x → seen.gap_event t log span (x ∷ next) ≡ gap_between log (told_span span) (told_span (x ∷ next))
gap-one t log span x next is =
    ap (λ (c : Crew). option_to_list (option_map {T = Span} {U = Event} (λ gap. noted_with POWER_INTERRUPTION gap.begin gap.end c) (gap_of (kept_after log (last_number span)) (number_of x)))) (nobody-stands t x is)
    ∙ gap-made (gap_of (kept_after log (last_number span)) (number_of x))
    ∙ ap (λ (u : ℕ). gap_to (kept_after log u) (number_of x)) (last-same span)

gaps-same : (t : Tearing) (log : RunLog) (sp : List (List Seen)) → ArePlainSpans sp → gaps_between t log sp ≡ gaps_in log (map told_span sp)
gaps-same t log [] all = refl
gaps-same t log (span ∷ []) all = refl
gaps-same t log (span ∷ [] ∷ sp) all = gaps-same t log ([] ∷ sp) all.1
gaps-same t log (span ∷ (x ∷ next) ∷ sp) all =
    ap (λ (es : List Event). es ++ gaps_between t log ((x ∷ next) ∷ sp)) (gap-one t log span x next all.1.0.0)
    ∙ ap (λ (es : List Event). gap_between log (told_span span) (told_span (x ∷ next)) ++ es) (gaps-same t log ((x ∷ next) ∷ sp) all.1)

-- NOTHING ELSE
flat-nothing : (h : Seen → List Event) → ((x : Seen) → IsPlainSeen x → h x ≡ []) → (xs : List Seen) → AllByRecursion IsPlainSeen xs → flat_map h xs ≡ []
flat-nothing h none [] all = refl
flat-nothing h none (x ∷ xs) all = ap (λ (es : List Event). es ++ flat_map h xs) (none x all.0) ∙ flat-nothing h none xs all.1

-- THE EVENTS
by-kind : (a b c d : Bool) (x y z v w x' y' z' : List Event) → x ≡ x' → y ≡ y' → z ≡ z' → v ≡ [] → w ≡ [] → cond a x (cond b y (cond c z (cond d v w))) ≡ cond a x' (cond b y' (cond c z' []))
by-kind true b c d x y z v w x' y' z' ex ey ez ev ew = ex
by-kind false true c d x y z v w x' y' z' ex ey ez ev ew = ey
by-kind false false true d x y z v w x' y' z' ex ey ez ev ew = ez
by-kind false false false true x y z v w x' y' z' ex ey ez ev ew = ev
by-kind false false false false x y z v w x' y' z' ex ey ez ev ew = ew

module _ (log : RunLog) (h : IsWithoutCards log) (ss : List TraceSecond) (each : OnlySelect ss) where
  plain : AllByRecursion IsPlainSeen (seen_of log ss)
  plain = (watches log h ss each).1

  plain-spans : ArePlainSpans (seen_spans (seen_of log ss))
  plain-spans = spans-plain (seen_of log ss) [] tt plain

  spans-are : map told_span (seen_spans (seen_of log ss)) ≡ spans_of (went log ss).told
  unfolding spans_of
  spans-are = sym (spans-same (seen_of log ss) []) ∙ ap (λ (ts : List ToldSecond). fold spans_with [] ts) (watches log h ss each).0

  pub events-plain : (kind limit : ℕ) (sessions : ℕ → Visit → ℕ) (t : Tearing) → events_of kind limit sessions t log ss ≡ plain_events kind limit log (spans_of (went log ss).told)
  events-plain kind limit sessions t =
      by-kind (kind == DRIVING_WITHOUT_CARD) (kind == OVER_SPEEDING) (kind == POWER_INTERRUPTION) (kind == CARD_FAULT)
      (bare_events log ss) (over_events limit log ss) (gap_events t log ss) (fault_events t log ss) (judged_events kind sessions t log ss)
      (flat_map bares_in (spans_of (went log ss).told)) (flat_map (overs_in limit) (spans_of (went log ss).told)) (gaps_in log (spans_of (went log ss).told))
      (flat-same (λ (span : List Seen). filter_map seen.bare_event (ended_runs is_bare span)) bares_in bare-span (seen_spans (seen_of log ss)) plain-spans ∙ ap (flat_map bares_in) spans-are)
      (flat-same (λ (span : List Seen). filter_map seen.over_event (ended_runs (λ (x : Seen). is_above limit (seen.speed_second x)) span)) (overs_in limit) (over-span limit) (seen_spans (seen_of log ss)) plain-spans ∙ ap (flat_map (overs_in limit)) spans-are)
      (gaps-same t log (seen_spans (seen_of log ss)) plain-spans ∙ ap (gaps_in log) spans-are)
      (flat-nothing (λ (x : Seen). map (fault_of t log x) (torn_in_turn t x x.told.course.torn)) (λ x is. ap (λ (vs : List Visit). map (fault_of t log x) (torn_in_turn t x vs)) is.torn) (seen_of log ss) plain)
      (flat-nothing (λ (x : Seen). flat_map (λ (f : Visit × Verdict). found_events kind (sessions (number_of x) f.0) t x f.0 f.1) x.told.course.found) (λ x is. ap (flat_map (λ (f : Visit × Verdict). found_events kind (sessions (number_of x) f.0) t x f.0 f.1)) is.found) (seen_of log ss) plain)
