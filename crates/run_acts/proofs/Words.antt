-- The word of a withdrawal, by the actions of its second and the seconds before it.
use Rattle.std.proofs.Common.{◌≡◌, ◌∙◌, ℕ, zero, suc, ◌+◌, ◌≤◌, Bool, true, false, cond, ◌||◌, Option, Some, None, List, [], ◌∷◌, ◌++◌, length, map, take, refl, ap, sym, arith, append-nil, append_assoc}
use Rattle.std.specs.Prelude.{not, option_map, flat_map, slice_get}
use Rattle.std.specs.List.{list_any}
use Rattle.std.proofs.lemmas.List.Elements.{Contains-push}
use Rattle.activity_codec.specs.declared.values.Activity.{Activity}
use Rattle.activity_codec.specs.declared.values.Pick.{Pick}
use Rattle.activity_codec.specs.declared.values.Slot.{Slot}
use Rattle.activity_codec.specs.declared.values.Slot.TheVariants.{Driver, CoDriver}
use Rattle.activity_codec.specs.Activity.{same_slot}
use Rattle.trace_model.specs.declared.Action.{Action}
use Rattle.trace_model.specs.declared.Action.TheVariants.{Select, Insert, Withdraw, Tear, Place, Manual}
use Rattle.trace_model.specs.Trace.{TraceSecond}
use Rattle.unit_model.specs.minute_model.declared.Minute.{Minute}
use Rattle.unit_model.specs.minute_model.Span.{Span, activity_next}
use Rattle.log_model.specs.declared.lines.Find.{Find}
use Rattle.log_model.specs.declared.lines.SlotFault.{SlotFault}
use Rattle.log_model.specs.declared.lines.Verdict.{Verdict}
use Rattle.log_model.specs.Log.{RunLog, Phase, In, cut_in, is_torn_in, found_in, is_accepting}
use Rattle.log_model.specs.Slots.{Slots, Sitting, in_slot, refusal}
use Rattle.log_model.specs.Course.{Course, Visit, Moved, Before, visits, with_slot, leaves, answered, moved_by, slot_told, both_told, begins, is_settling, acted, all_acted, unmoved, fresh, went}
use Rattle.unit_notes.specs.note_model.Done.{course_powered}
use Rattle.device_calls.specs.history_model.Growth.{picking}
use Rattle.unit_notes.specs.event_model.Events.{course_by}
use Rattle.device_calls.specs.run_unit_course.Turn.{span_at}
use Rattle.device_calls.specs.safety_model.Safe.{Devices}
use Rattle.run_events.specs.run_course.Kept.{settled_times}
use Rattle.run_events.specs.run_course.Reached.{moved_at, moved_with, course_at, course_with}
use Rattle.run_minutes.specs.run_promise.Origin.{Origin, rule_of}
use Rattle.run_record.specs.Recorded.{Values}
use Rattle.run_record.specs.Within.{RecordInSecond, course_in}
use Rattle.run_events.specs.run_course.Seconds.{next_told}
use Rattle.run_acts.specs.Words.{picks_of, IsWordOf}
use Rattle.run_acts.specs.Truths.{past_of, IsWordIn}
use Rattle.run_acts.proofs.NotesThen.{Parts, split, get-at, actions-at}
use Rattle.run_acts.proofs.LastLine.{IsSince}
use Rattle.run_acts.proofs.MinuteEnds.{followed-lit, this-lit, spans-now}

-- ---- settlings are no part of it

activity-settled : (k : ℕ) (slot : Slot) (picks : List (Slot × Pick)) (span : Span) → activity_next slot (picking picks (settled_times k span)) ≡ activity_next slot (picking picks span)
activity-settled zero slot picks span = refl
activity-settled (suc k) slot picks span = activity-settled k slot picks span

-- ---- what was selected so far

picks-cons : (a : Action) (actions : List Action) → picks_of (a ∷ []) ++ picks_of actions ≡ picks_of (a ∷ actions)
picks-cons (Select slot pick) actions = refl
picks-cons (Insert slot card) actions = refl
picks-cons (Withdraw slot) actions = refl
picks-cons (Tear slot) actions = refl
picks-cons (Place slot ending country region) actions = refl
picks-cons (Manual slot pick minute) actions = refl

either-picks : (b : Bool) (x y : Course) (ps : List (Slot × Pick)) → x.picks ≡ ps → y.picks ≡ ps → (cond b x y).picks ≡ ps
either-picks true x y ps one other = one
either-picks false x y ps one other = other

-- lines select nothing
told-picks : (log : RunLog) (u : ℕ) (p : Phase) (moved : Moved) (slot : Slot) (c : Course) → (slot_told log u p moved slot c).picks ≡ c.picks
told-picks log u p moved slot c =
    let verdicts : List Verdict = cond (moved.enters slot) (found_in log u p slot) [] in
    let seen : List (Visit × Verdict) = flat_map (λ (visit : Visit). map (λ (v : Verdict). (visit, v)) verdicts) (visits p slot c.slots) in
    let judged : Course = record c { found = c.found ++ seen } in
    let taken : Course = record judged { slots = with_slot c.slots slot (option_map {T = Sitting} (λ (x : Sitting). record x { accepted = Some u }) (in_slot c.slots slot)) } in
    either-picks (is_torn_in log u p slot) (record (leaves slot judged) { torn = c.torn ++ (moved.leaving slot ++ visits p slot c.slots) }) (cond (list_any is_accepting verdicts) taken judged) c.picks refl
    (either-picks (list_any is_accepting verdicts) taken judged c.picks refl refl)

both-picks : (log : RunLog) (u : ℕ) (p : Phase) (moved : Moved) (c : Course) → (both_told log u p moved c).picks ≡ c.picks
both-picks log u p moved c = told-picks log u p moved CoDriver (slot_told log u p moved Driver c) ∙ told-picks log u p moved Driver c

-- an action selects what it does; no selection is refused
answered-picks : (n : ℕ) (r : Option SlotFault) (a : Action) (c : Course) → ((slot : Slot) (pick : Pick) → a ≡ Select slot pick → r ≡ None) → (answered n r a c).picks ≡ c.picks ++ picks_of (a ∷ [])
answered-picks n None (Select slot pick) c fine = refl
answered-picks n None (Insert slot card) c fine = sym (append-nil c.picks)
answered-picks n None (Withdraw slot) c fine = sym (append-nil c.picks)
answered-picks n None (Tear slot) c fine = sym (append-nil c.picks)
answered-picks n None (Place slot ending country region) c fine = sym (append-nil c.picks)
answered-picks n None (Manual slot pick minute) c fine = sym (append-nil c.picks)
answered-picks n (Some fault) (Select slot pick) c fine = absurd (let wrong : Some fault ≡ None = fine slot pick refl in cc)
answered-picks n (Some fault) (Insert slot card) c fine = sym (append-nil c.picks)
answered-picks n (Some fault) (Withdraw slot) c fine = sym (append-nil c.picks)
answered-picks n (Some fault) (Tear slot) c fine = sym (append-nil c.picks)
answered-picks n (Some fault) (Place slot ending country region) c fine = sym (append-nil c.picks)
answered-picks n (Some fault) (Manual slot pick minute) c fine = sym (append-nil c.picks)

answered-by : (n speed : ℕ) (a : Action) (c : Course) → (answered n (refusal c.slots speed a) a c).picks ≡ c.picks ++ picks_of (a ∷ [])
answered-by n speed a c = answered-picks n (refusal c.slots speed a) a c (λ slot pick is. ap (λ (x : Action). refusal c.slots speed x) is)

acted-picks : (log : RunLog) (s : TraceSecond) (n : ℕ) (a : Action) (c : Course) → begins (cut_in log s.number) n ≡ true → (acted log s n a c).picks ≡ c.picks ++ picks_of (a ∷ [])
acted-picks log s n a c begun =
    let r : Option SlotFault = refusal c.slots s.speed a in
    ap (λ (b : Bool). (cond b (both_told log s.number (In (n + 1)) (moved_by n r a c.slots) (answered n r a c)) (record c { settled = c.settled || is_settling a })).picks) begun
    ∙ both-picks log s.number (In (n + 1)) (moved_by n r a c.slots) (answered n r a c) ∙ answered-by n s.speed a c

all-picks : (log : RunLog) (s : TraceSecond) → cut_in log s.number ≡ None → (actions : List Action) (n : ℕ) (c : Course) → (all_acted log s n actions c).picks ≡ c.picks ++ picks_of actions
all-picks log s uncut [] n c = sym (append-nil c.picks)
all-picks log s uncut (a ∷ actions) n c =
    all-picks log s uncut actions (n + 1) (acted log s n a c)
    ∙ ap (λ (l : List (Slot × Pick)). l ++ picks_of actions) (acted-picks log s n a c (ap (λ (q : Option ℕ). begins q n) uncut))
    ∙ append_assoc c.picks (picks_of (a ∷ [])) (picks_of actions) ∙ ap (λ (l : List (Slot × Pick)). c.picks ++ l) (picks-cons a actions)

-- behind some of its actions a second has what these select
by-picks : (log : RunLog) (before : Before) (s : TraceSecond) → cut_in log s.number ≡ None → (n : ℕ) → (course_by log before s n).picks ≡ picks_of (take n s.actions)
by-picks log before s uncut n =
    all-picks log s uncut (take n s.actions) 0 (course_powered log before s)
    ∙ ap (λ (l : List (Slot × Pick)). l ++ picks_of (take n s.actions)) (both-picks log s.number (In 0) (unmoved (not before.running)) (fresh (not before.running) before.slots))

-- ---- THE ACTION of a moment at which a card leaves its slot withdraws it

withdraw-own : (y slot : Slot) (xs : List Visit) (x : Visit) → cond (same_slot y slot) xs [] ≡ x ∷ [] → Withdraw y ≡ Withdraw slot
withdraw-own Driver Driver xs x is = refl
withdraw-own CoDriver CoDriver xs x is = refl
withdraw-own Driver CoDriver xs x is = absurd (let wrong : [] ≡ x ∷ [] = is in cc)
withdraw-own CoDriver Driver xs x is = absurd (let wrong : [] ≡ x ∷ [] = is in cc)

takes-one : (n : ℕ) (a : Action) (r : Option SlotFault) (slots : Slots) (slot : Slot) (x : Visit) → (moved_by n r a slots).leaving slot ≡ x ∷ [] → a ≡ Withdraw slot
takes-one n a (Some fault) slots slot x is = absurd (let wrong : [] ≡ x ∷ [] = is in cc)
takes-one n (Select y pick) None slots slot x is = absurd (let wrong : [] ≡ x ∷ [] = is in cc)
takes-one n (Insert y card) None slots slot x is = absurd (let wrong : [] ≡ x ∷ [] = is in cc)
takes-one n (Withdraw y) None slots slot x is = withdraw-own y slot (visits (In (n + 1)) slot slots) x is
takes-one n (Tear y) None slots slot x is = absurd (let wrong : [] ≡ x ∷ [] = is in cc)
takes-one n (Place y ending country region) None slots slot x is = absurd (let wrong : [] ≡ x ∷ [] = is in cc)
takes-one n (Manual y pick minute) None slots slot x is = absurd (let wrong : [] ≡ x ∷ [] = is in cc)

-- ---- THE WORD

module _ (o : Origin) (done : List TraceSecond) (s : TraceSecond) (n : ℕ) (waits : List Visit) (rest : List Minute) (v : Values) (d : Devices) (w : RecordInSecond o done s (In n) waits None rest v d) (slot : Slot) (x : Visit)
    (leaves_ : (moved_at v.log (went w.b.run.log done).before s (In n)).leaving slot ≡ x ∷ []) (word : Activity) (is : word ≡ activity_next slot w.sp) (f : Find) (there : f.slot ≡ slot)
    (since : (actions rest : List Action) → s.actions ≡ actions ++ Withdraw slot ∷ rest → n ≡ suc (length actions) → IsSince s.number f actions) where
  abbrev was : Before
  was = (went w.b.run.log done).before

  -- its moment is one of an action
  nothing-first : n ≡ 0 → [] ≡ x ∷ []
  nothing-first first = sym (ap (λ (k : ℕ). (moved_at v.log (went w.b.run.log done).before s (In k)).leaving slot) first) ∙ leaves_

  module _ (m : ℕ) (here : n ≡ suc m) (p : Parts s.actions m) where
    got : slice_get s.actions m ≡ Some p.a
    got = ap (λ (as_ : List Action). slice_get as_ m) p.are ∙ ap (λ (k : ℕ). slice_get (p.front ++ p.a ∷ p.rest) k) (sym p.count) ∙ get-at p.front p.a p.rest

    taken : (moved_by m (refusal (course_by v.log was s m).slots s.speed p.a) p.a (course_by v.log was s m).slots).leaving slot ≡ x ∷ []
    taken = sym (ap (λ (q : Option Action). (moved_with m q s.speed (course_by v.log was s m)).leaving slot) got) ∙ sym (ap (λ (k : ℕ). (moved_at v.log was s (In k)).leaving slot) here) ∙ leaves_

    is-withdraw : p.a ≡ Withdraw slot
    is-withdraw = takes-one m p.a (refusal (course_by v.log was s m).slots s.speed p.a) (course_by v.log was s m).slots slot x taken

    front-is : take m s.actions ≡ p.front
    front-is = ap (λ (k : ℕ). take k s.actions) (sym p.count) ∙ actions-at p.front (p.a ∷ p.rest) s.actions p.are

    are-here : s.actions ≡ p.front ++ Withdraw slot ∷ p.rest
    are-here = p.are ∙ ap (λ (a : Action). p.front ++ a ∷ p.rest) is-withdraw

    -- none was withdrawn from the slot since its card was accepted
    since-here : IsSince s.number f p.front
    since-here = since p.front p.rest are-here (here ∙ ap suc (sym p.count))

    -- what was selected by then
    picks-here : (course_in w.b done s (In n) v.log).picks ≡ picks_of p.front
    picks-here =
        let c : Course = course_by v.log was s m in
        ap (λ (k : ℕ). (course_at v.log was s (In k)).picks) here
        ∙ both-picks v.log s.number (In (suc m)) (moved_at v.log was s (In (suc m))) (course_with m (slice_get s.actions m) s.speed c)
        ∙ ap (λ (q : Option Action). (course_with m q s.speed c).picks) got
        ∙ answered-by m s.speed p.a c
        ∙ ap (λ (a : Action). c.picks ++ picks_of (a ∷ [])) is-withdraw ∙ append-nil c.picks
        ∙ by-picks v.log was s w.moment.up_to.uncut m ∙ ap picks_of front-is

    word-by : IsWordOf (rule_of o) w.b.span s f word
    word-by = record {
      front = since-here.front;
      since = since-here.since;
      rest = p.rest;
      are = are-here ∙ ap (λ (as_ : List Action). as_ ++ Withdraw slot ∷ p.rest) since-here.are ∙ ap (λ (z : Slot). (since-here.front ++ since-here.since) ++ Withdraw z ∷ p.rest) (sym there) ∙ append_assoc since-here.front since-here.since (Withdraw f.slot ∷ p.rest);
      begun = since-here.begun;
      first = since-here.first;
      is =
          is ∙ ap (λ (sp : Span). activity_next slot sp) w.decided.span_is
          ∙ activity-settled w.decided.times slot (course_in w.b done s (In n) v.log).picks (span_at (rule_of o) w.b.run.next w.b.span)
          ∙ ap (λ (picks : List (Slot × Pick)). activity_next slot (picking picks (span_at (rule_of o) w.b.run.next w.b.span))) picks-here
          ∙ ap (λ (u : ℕ). activity_next slot (picking (picks_of p.front) (span_at (rule_of o) u w.b.span))) (sym w.moment.number)
          ∙ ap (λ (as_ : List Action). activity_next slot (picking (picks_of as_) (span_at (rule_of o) s.number w.b.span))) since-here.are
          ∙ ap (λ (z : Slot). activity_next z (picking (picks_of (since-here.front ++ since-here.since)) (span_at (rule_of o) s.number w.b.span))) (sym there);
    }

  -- IT IS THAT OF THE SLOT as the action of the moment withdraws its card
  pub word-here : IsWordOf (rule_of o) w.b.span s f word
  word-here = by n refl
    where
      by : (k : ℕ) → n ≡ k → IsWordOf (rule_of o) w.b.span s f word
      by zero first = absurd (let wrong = nothing-first first in cc)
      by (suc m) here = word-by m here (split s.actions m (let few : n ≤ length s.actions = w.moment.is in omega (arith, few, here)))

  -- so it is the word of a closing in this second
  pub closed-now : IsWordIn (rule_of o) (past_of w.b.run.log (done ++ s ∷ [])) f s.number word
  closed-now = record {
    at = record {
      earlier = (followed-lit o done s (In n) waits None rest v d w).ended;
      span = w.b.span;
      t = next_told w.b.run.log done s;
      behind = [];
      later = [];
      are = spans-now o done s (In n) waits None rest v d w;
      number = (this-lit o done s (In n) waits None rest v d w).number;
    };
    s = s;
    among = Contains-push done s;
    number = refl;
    is = word-here;
  }
