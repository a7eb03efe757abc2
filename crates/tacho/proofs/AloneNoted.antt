-- What a run of a trace without a card's line notes: no insertion and no place, and events of nobody.
use Rattle.std.proofs.Common.{◌≡◌, ◌∙◌, inl, inr, ℕ, ◌+◌, ◌≤◌, Bool, true, false, cond, not, ◌&&◌, Option, Some, None, is_some, List, [], ◌∷◌, ◌++◌, length, map, refl, ap, sym, subst, arith, append-nil, length-append}
use Rattle.std.specs.Prelude.{◌==◌, nat_eq, flat_map, option_to_list}
use Rattle.std.specs.List.{AllByRecursion}
use Rattle.trace_model.specs.declared.Card.{Card}
use Rattle.trace_model.specs.declared.Action.{Action}
use Rattle.trace_model.specs.declared.Action.TheVariants.{Select, Insert, Withdraw, Tear, Place, Manual}
use Rattle.trace_model.specs.Trace.{TraceSecond}
use Rattle.log_model.specs.declared.lines.Verdict.{Verdict}
use Rattle.log_model.specs.Log.{RunLog, Phase, In, cut_in, kept_after}
use Rattle.log_model.specs.Slots.{refusal}
use Rattle.log_model.specs.Course.{Course, Visit, ToldSecond, Before, begins, acted, has_power, second_told, before_next, not_begun}
use Rattle.gated_ring.specs.Ring.{Shape, IsDense, ring_list}
use Rattle.event_model.specs.declared.kinds.TheConstants.{DRIVING_WITHOUT_CARD, OVER_SPEEDING, POWER_INTERRUPTION}
use Rattle.event_model.specs.Spans.{bares_of, overs_of, gap_of}
use Rattle.event_model.specs.Events.{Crew, Event}
use Rattle.event_model.specs.Places.{place_of, day_place}
use Rattle.note_model.specs.Done.{CarriedOut, Done, carried_from, done_by, done_from, done_of, course_powered}
use Rattle.note_model.specs.Noted.{Note, accepted_at, noted_by, noted_in, notes_of}
use Rattle.note_model.specs.Rings.{Stand, AreNoFewer, RingShows}
use Rattle.note_model.specs.Tables.{held_in, held_of, number_or_none, HasRest, IsNotedAt}
use Rattle.note_model.specs.Unsure.{IsNotedSo, AreNotedBut}
use Rattle.run_unit_course.specs.Turn.{IsSelection, empty_slots}
use Rattle.unit_events.specs.Plain.{nobody, driver_seconds, speed_seconds, bare_event, over_event, gap_event, bares_in, overs_in, last_in, gap_between, gaps_in, plain_events, OnlySelect}
use Rattle.tacho.specs.Alone.{ShowsOld}
use Rattle.tacho.proofs.Cardless.{second-cardless}
use Rattle.tacho.proofs.AloneLog.{each-append}

-- NO INSERTION AND NO PLACE
record IsIdle (d : Done) : Type 0 where
  found : d.told.course.found ≡ []
  carried : AllByRecursion (λ (a : CarriedOut). IsSelection a.action) d.carried

carried-selects : (log : RunLog) (s : TraceSecond) (n : ℕ) (actions : List Action) (c : Course) → AllByRecursion IsSelection actions → AllByRecursion (λ (a : CarriedOut). IsSelection a.action) (carried_from log s n actions c)
carried-selects log s n [] c each = tt
carried-selects log s n (a ∷ actions) c each =
    each-append (λ (x : CarriedOut). IsSelection x.action) _ _ (by (begins (cut_in log s.number) n && not (is_some (refusal c.slots s.speed a)))) (carried-selects log s (n + 1) actions (acted log s n a c) each.1)
  where
    by : (b : Bool) → AllByRecursion (λ (x : CarriedOut). IsSelection x.action) (cond b (record { before = n; action = a; slots = c.slots; after = (acted log s n a c).slots } ∷ []) [])
    by true = (each.0, tt)
    by false = tt

done-idle : (log : RunLog) (before : Before) (s : TraceSecond) → before.slots ≡ empty_slots → AllByRecursion IsSelection s.actions → IsIdle (done_by log before s)
done-idle log before s slots each = record {
  found = ap (λ (c : Course). c.found) (second-cardless log before s slots each).is;
  carried = by (has_power before s);
}
  where
    by : (b : Bool) → AllByRecursion (λ (a : CarriedOut). IsSelection a.action) (cond b (carried_from log s 0 s.actions (course_powered log before s)) [])
    by true = carried-selects log s 0 s.actions (course_powered log before s) each
    by false = tt

all-idle : (log : RunLog) (before : Before) (ss : List TraceSecond) → before.slots ≡ empty_slots → OnlySelect ss → AllByRecursion IsIdle (done_from log before ss)
all-idle log before [] slots each = tt
all-idle log before (s ∷ ss) slots each =
    (done-idle log before s slots each.0, all-idle log (before_next before (second_told log before s)) ss (ap (λ (c : Course). c.slots) (second-cardless log before s slots each.0).is) each.1)

accepts-nothing : (d : Done) (p : Phase) → IsIdle d → accepted_at d p ≡ []
accepts-nothing d p idle = ap (λ (fs : List (Visit × Verdict)). accepted_at (record d { told = record d.told { course = record d.told.course { found = fs } } }) p) idle.found

notes-by : (log : RunLog) (u : ℕ) (a : CarriedOut) (action : Action) → IsSelection action → noted_by log u a action ≡ []
notes-by log u a (Select slot pick) is = refl
notes-by log u a (Insert slot card) is = absurd is
notes-by log u a (Withdraw slot) is = absurd is
notes-by log u a (Tear slot) is = absurd is
notes-by log u a (Place slot ending country region) is = absurd is
notes-by log u a (Manual slot pick minute) is = absurd is

acts-nothing : (log : RunLog) (d : Done) → IsIdle d → (acts : List CarriedOut) → AllByRecursion (λ (a : CarriedOut). IsSelection a.action) acts →
    flat_map (λ a. noted_by log d.told.second.number a a.action ++ accepted_at d (In (a.before + 1))) acts ≡ []
acts-nothing log d idle [] each = refl
acts-nothing log d idle (a ∷ acts) each =
    ap (λ (ns : List Note). (ns ++ accepted_at d (In (a.before + 1))) ++ flat_map (λ x. noted_by log d.told.second.number x x.action ++ accepted_at d (In (x.before + 1))) acts) (notes-by log d.told.second.number a a.action each.0)
    ∙ ap (λ (ns : List Note). ns ++ flat_map (λ x. noted_by log d.told.second.number x x.action ++ accepted_at d (In (x.before + 1))) acts) (accepts-nothing d (In (a.before + 1)) idle)
    ∙ acts-nothing log d idle acts each.1

all-nothing : (log : RunLog) (ds : List Done) → AllByRecursion IsIdle ds → flat_map (noted_in log) ds ≡ []
all-nothing log [] h = refl
all-nothing log (d ∷ ds) h =
    ap (λ (ns : List Note). (ns ++ flat_map (λ a. noted_by log d.told.second.number a a.action ++ accepted_at d (In (a.before + 1))) d.carried) ++ flat_map (noted_in log) ds) (accepts-nothing d (In 0) h.0)
    ∙ ap (λ (ns : List Note). ns ++ flat_map (noted_in log) ds) (acts-nothing log d h.0 d.carried h.0.carried)
    ∙ all-nothing log ds h.1

pub notes-nothing : (log : RunLog) (ss : List TraceSecond) → OnlySelect ss → notes_of log (done_of log ss) ≡ []
unfolding notes_of done_of
notes-nothing log ss each = all-nothing log (done_from log not_begun.before ss) (all-idle log not_begun.before ss refl each)

-- so the rings show what they showed
pub shows-old : {N : Type 0} (r : Shape) (is_sure : N → Bool) (Is : N → List ℕ → Type 0) (notes : List N) (x y : List ℕ) → notes ≡ [] → RingShows r is_sure Is notes x y → (IsDense r x → IsDense r y) → ShowsOld r x y
shows-old {N} r is_sure Is notes x y none h dense =
    let nothing : h.more ≡ [] = subst (λ (ns : List N). Stand is_sure Is ns h.more) none h.stand in
    let was : ring_list r x ≡ h.gone ++ ring_list r y = sym (ap (λ (more : List (List ℕ)). ring_list r x ++ more) nothing ∙ append-nil (ring_list r x)) ∙ h.shown in
    let few : AreNoFewer r is_sure [] x y = subst (λ (ns : List N). AreNoFewer r is_sure ns x y) none h.few in
    record { shown = sym (was ∙ ap (λ (l : List (List ℕ)). l ++ ring_list r y) (none-gone h.gone was few)); dense = dense }
  where
    none-gone : (gone : List (List ℕ)) → ring_list r x ≡ gone ++ ring_list r y → AreNoFewer r is_sure [] x y → gone ≡ []
    none-gone [] was few = refl
    none-gone (e ∷ gone) was few =
        absurd (let long : length (ring_list r x) ≡ length (e ∷ gone) + length (ring_list r y) = ap (λ (l : List (List ℕ)). length l) was ∙ length-append (e ∷ gone) (ring_list r y) in
        let many : length (ring_list r x) ≤ length (ring_list r y) + 0 = few.many in
        omega (arith, long, many))

-- EVENTS OF NOBODY
abbrev IsNobodys : Event → Type 0
IsNobodys e = (e.at_begin ≡ nobody) × (e.at_end ≡ nobody)

abbrev pub AreNobodys : List Event → Type 0
AreNobodys events = AllByRecursion IsNobodys events

nobodys-map : {X : Type 0} (f : X → Event) → ((x : X) → IsNobodys (f x)) → (xs : List X) → AreNobodys (map f xs)
nobodys-map f each [] = tt
nobodys-map f each (x ∷ xs) = (each x, nobodys-map f each xs)

nobodys-flat : (h : List ToldSecond → List Event) → ((span : List ToldSecond) → AreNobodys (h span)) → (spans : List (List ToldSecond)) → AreNobodys (flat_map h spans)
nobodys-flat h each [] = tt
nobodys-flat h each (span ∷ spans) = each-append IsNobodys (h span) (flat_map h spans) (each span) (nobodys-flat h each spans)

nobodys-between : (log : RunLog) (span next : List ToldSecond) → AreNobodys (gap_between log span next)
nobodys-between log span [] = tt
nobodys-between log span (t ∷ next) = nobodys-map gap_event (λ s. (refl, refl)) (option_to_list (gap_of (kept_after log (last_in span)) t.second.number))

nobodys-gaps : (log : RunLog) (spans : List (List ToldSecond)) → AreNobodys (gaps_in log spans)
nobodys-gaps log [] = tt
nobodys-gaps log (x ∷ []) = tt
nobodys-gaps log (x ∷ y ∷ spans) = each-append IsNobodys (gap_between log x y) (gaps_in log (y ∷ spans)) (nobodys-between log x y) (nobodys-gaps log (y ∷ spans))

pub nobodys-events : (kind limit : ℕ) (log : RunLog) (spans : List (List ToldSecond)) → AreNobodys (plain_events kind limit log spans)
nobodys-events kind limit log spans = by (kind == DRIVING_WITHOUT_CARD) (kind == OVER_SPEEDING) (kind == POWER_INTERRUPTION)
  where
    by : (a b c : Bool) → AreNobodys (cond a (flat_map bares_in spans) (cond b (flat_map (overs_in limit) spans) (cond c (gaps_in log spans) [])))
    by true b c = nobodys-flat bares_in (λ span. nobodys-map bare_event (λ s. (refl, refl)) (bares_of (driver_seconds span))) spans
    by false true c = nobodys-flat (overs_in limit) (λ span. nobodys-map over_event (λ o. (refl, refl)) (overs_of limit (speed_seconds span))) spans
    by false false true = nobodys-gaps log spans
    by false false false = tt

-- their entries have no card, whatever numbers the cards have
module _ (first number : Card → List ℕ) (e : Event) (none : IsNobodys e) where
  driver-any : (c : Crew) → c ≡ nobody → number_or_none first c.driver ≡ number_or_none number c.driver
  driver-any c is = ap (λ (d : Crew). number_or_none first d.driver) is ∙ sym (ap (λ (d : Crew). number_or_none number d.driver) is)

  codriver-any : (c : Crew) → c ≡ nobody → number_or_none first c.codriver ≡ number_or_none number c.codriver
  codriver-any c is = ap (λ (d : Crew). number_or_none first d.codriver) is ∙ sym (ap (λ (d : Crew). number_or_none number d.codriver) is)

  rest-any : (b : Bool) (bytes : List ℕ) → HasRest first b e bytes → HasRest number b e bytes
  rest-any true bytes h = record { most = h.most; average = h.average; driver_begin = h.driver_begin ∙ driver-any e.at_begin none.0 }
  rest-any false bytes h = record {
    driver_begin = h.driver_begin ∙ driver-any e.at_begin none.0;
    codriver_begin = h.codriver_begin ∙ codriver-any e.at_begin none.0;
    driver_end = h.driver_end ∙ driver-any e.at_end none.1;
    codriver_end = h.codriver_end ∙ codriver-any e.at_end none.1;
  }

  at-any : (old new : List (List ℕ)) (place day : Option ℕ) → IsNotedAt first old e place day new → IsNotedAt number old e place day new
  at-any old new (Some i) day (bytes, is, entry) = (bytes, is, record { front = entry.front; rest = rest-any (nat_eq e.kind OVER_SPEEDING) bytes entry.rest; counts = entry.counts })
  at-any old new None (Some i) h = h
  at-any old new None None h = h

one-any : (first number : Card → List ℕ) (b : Bool) (old : List (List ℕ)) (e : Event) (new : List (List ℕ)) → AreNobodys (e ∷ []) → IsNotedSo first b old e new → IsNotedSo number b old e new
one-any first number true old e new none h = at-any first number e none.0 old new (place_of e.kind (map (held_in e.kind) old) (held_of e)) (day_place e.kind (map (held_in e.kind) old) (held_of e)) h
one-any first number false old e new none (inl h) = inl (at-any first number e none.0 old new (place_of e.kind (map (held_in e.kind) old) (held_of e)) (day_place e.kind (map (held_in e.kind) old) (held_of e)) h)
one-any first number false old e new none (inr other) = inr other

pub but-any : (first number : Card → List ℕ) (sure : Event → Bool) (old new : List (List ℕ)) (events : List Event) → AreNobodys events → AreNotedBut first sure old events new → AreNotedBut number sure old events new
but-any first number sure old new [] none h = h
but-any first number sure old new (e ∷ events) none (next, one, rest) =
    (next, one-any first number (sure e) old e next (none.0, tt) one, but-any first number sure next new events none.1 rest)
