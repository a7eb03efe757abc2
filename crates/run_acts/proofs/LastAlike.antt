-- Nothing ends with a second without actions at the speed of the one before it.
use Rattle.std.proofs.Common.{◌≡◌, ◌∙◌, ℕ, Bool, true, false, cond, not, ◌&&◌, Option, None, is_some, List, [], ◌∷◌, ◌++◌, length, take, nat_lt, refl, ap, sym, subst}
use Rattle.std.specs.List.{cons_option, filter_map}
use Rattle.activity_codec.specs.declared.values.Slot.TheVariants.{Driver}
use Rattle.trace_model.specs.declared.Action.{Action}
use Rattle.trace_model.specs.Trace.{TraceSecond}
use Rattle.log_model.specs.Log.{RunLog, Phase, In, Keeping, is_torn_in, cut_in}
use Rattle.log_model.specs.Slots.{Slots, Sitting, is_accepted}
use Rattle.log_model.specs.Course.{ToldSecond, Course, Before, Went, unmoved, fresh, has_power, both_told, all_acted, lit_course, cut_told, before_next, second_told, went}
use Rattle.log_model.proofs.Growth.{went-more}
use Rattle.unit_notes.specs.event_model.Runs.{runs_behind}
use Rattle.unit_notes.specs.event_model.Events.{Event, Seen, course_by, seen_of, seen_spans, is_bare, bare_event, over_event}
use Rattle.run_events.proofs.run_course.Told.{lit-told, dark-told}
use Rattle.run_events.specs.Seconds.{last_of, span_before, seen_next, bares_by, overs_by, is_fast}
use Rattle.run_note_record.proofs.Brought.{told-speed}
use Rattle.run_note_record.proofs.Tearing.{told_slot, both-slot}
use Rattle.run_note_record.proofs.Quiet.{ends-nothing}
use Rattle.run_acts.specs.Evented.{LastAt}
use Rattle.run_acts.proofs.SeenSpan.{span-more}

-- ---- behind nothing, nothing ends
pub none-ended : (passes : Seen → Bool) (event : List Seen → Option Event) → event [] ≡ None → (x : Seen) → filter_map event (runs_behind passes [] (x ∷ [])) ≡ []
none-ended passes event empty x = by (passes x)
  where
    by : (b : Bool) → filter_map event (cond b [] ([] ∷ []) ++ []) ≡ []
    by true = refl
    by false = ap (λ (q : Option Event). cons_option q []) empty

take-all : (acts : List Action) → take (length acts) acts ≡ acts
take-all [] = refl
take-all (a ∷ acts) = ap (λ (xs : List Action). a ∷ xs) (take-all acts)

-- ---- who is accepted behind a moment at which no card enters was so before
still-so : (t : Bool) (u : ℕ) (o : Option Sitting) → is_accepted (told_slot t [] u o) ≡ true → is_accepted o ≡ true
still-so true u o is = absurd (let bad : false ≡ true = is in cc)
still-so false u o is = is

moment-so : (log : RunLog) (u : ℕ) (p : Phase) (c : Course) → is_accepted (both_told log u p (unmoved false) c).slots.driver ≡ true → is_accepted c.slots.driver ≡ true
moment-so log u p c is = still-so (is_torn_in log u p Driver) u c.slots.driver (ap is_accepted (sym (both-slot log u p (unmoved false) Driver c)) ∙ is)

module _ (log : RunLog) (front : List TraceSecond) (y s : TraceSecond) (none : s.actions ≡ []) (same : y.speed ≡ s.speed) (power : has_power (went log (front ++ y ∷ [])).before s ≡ true) where
  abbrev done : List TraceSecond
  done = front ++ y ∷ []

  abbrev before_y : Before
  before_y = (went log front).before

  abbrev told_y : ToldSecond
  told_y = second_told log before_y y

  abbrev bef : Before
  bef = (went log done).before

  abbrev Y : Seen
  Y = seen_next log front y

  abbrev X : Seen
  X = seen_next log done s

  bef-is : bef ≡ before_next before_y told_y
  bef-is = ap (λ (w : Went). w.before) (went-more log front y)

  starts-is : X.told.starts ≡ not bef.running
  starts-is = (lit-told log bef s power).starts

  -- where power goes on
  module _ (running : bef.running ≡ true) where
    lit-not_cut : (told_y.lit && not told_y.cut) ≡ true
    lit-not_cut = sym (ap (λ (b : Before). b.running) bef-is) ∙ running

    both : (a b : Bool) → (a && not b) ≡ true → (a ≡ true) × (b ≡ false)
    both true true is = absurd (let bad : false ≡ true = is in cc)
    both true false is = (refl, refl)
    both false b is = absurd (let bad : false ≡ true = is in cc)

    had-power : has_power before_y y ≡ true
    had-power = by (has_power before_y y) refl
      where
        by : (b : Bool) → has_power before_y y ≡ b → has_power before_y y ≡ true
        by true is = is
        by false is = absurd (let bad : true ≡ false = sym (both told_y.lit told_y.cut lit-not_cut).0 ∙ (dark-told log before_y y is).lit in cc)

    y-lit : Y.told.lit ≡ true
    y-lit = (lit-told log before_y y had-power).lit

    uncut : is_some (cut_in log y.number) ≡ false
    uncut = sym (lit-told log before_y y had-power).cut ∙ (both told_y.lit told_y.cut lit-not_cut).1

    abbrev first_y : Course
    first_y = both_told log y.number (In 0) (unmoved (not before_y.running)) (fresh (not before_y.running) before_y.slots)

    abbrev acts_y : Course
    acts_y = all_acted log y 0 y.actions first_y

    course-y : told_y.course ≡ both_told log y.number Keeping (unmoved false) acts_y
    course-y = lit-course ∙ ap (λ (b : Bool). cut_told b (both_told log y.number Keeping (unmoved false) acts_y)) uncut
      where
        lit-course : told_y.course ≡ lit_course log y (not before_y.running) before_y.slots
        lit-course = rw had-power refl

    y-so : is_accepted bef.slots.driver ≡ true → is_accepted Y.itself.driver ≡ true
    y-so is =
        let kept : is_accepted (both_told log y.number Keeping (unmoved false) acts_y).slots.driver ≡ true = sym (ap (λ (b : Before). is_accepted b.slots.driver) bef-is ∙ ap (λ (c : Course). is_accepted c.slots.driver) course-y) ∙ is in
        ap (λ (as_ : List Action). is_accepted (all_acted log y 0 as_ first_y).slots.driver) (take-all y.actions) ∙ moment-so log y.number Keeping acts_y kept

    x-itself : X.itself ≡ (both_told log s.number (In 0) (unmoved false) (fresh false bef.slots)).slots
    x-itself =
        ap (λ (as_ : List Action). (course_by log bef s (length as_)).slots) none
        ∙ ap (λ (b : Bool). (both_told log s.number (In 0) (unmoved (not b)) (fresh (not b) bef.slots)).slots) running

    x-so : is_accepted X.itself.driver ≡ true → is_accepted bef.slots.driver ≡ true
    x-so is = moment-so log s.number (In 0) (fresh false bef.slots) (sym (ap (λ (k : Slots). is_accepted k.driver) x-itself) ∙ is)

    speeds : Y.told.second.speed ≡ X.told.second.speed
    speeds = told-speed log before_y y had-power ∙ same ∙ sym (told-speed log bef s power)

    bare-then : is_bare Y ≡ true → is_bare X ≡ true
    bare-then is = by (is_accepted X.itself.driver) refl
      where
        fast : (a b : Bool) → (a && not b) ≡ true → (a ≡ true) × (b ≡ false)
        fast = both

        by : (b : Bool) → is_accepted X.itself.driver ≡ b → is_bare X ≡ true
        by true has = absurd (let h = fast (nat_lt 0 Y.told.second.speed) (is_accepted Y.itself.driver) is in let bad : true ≡ false = sym (y-so (x-so has)) ∙ h.1 in cc)
        by false has =
            let h = fast (nat_lt 0 Y.told.second.speed) (is_accepted Y.itself.driver) is in
            ap (λ (b : Bool). nat_lt 0 X.told.second.speed && not b) has ∙ ap (λ (k : ℕ). nat_lt 0 k && true) (sym speeds) ∙ ap (λ (b : Bool). b && true) h.0

    fast-then : (limit : ℕ) → is_fast limit Y ≡ true → is_fast limit X ≡ true
    fast-then limit is = ap (λ (k : ℕ). nat_lt limit k) (sym speeds) ∙ is

    span-is : span_before (seen_spans (seen_of log done)) X ≡ span_before (seen_spans (seen_of log front)) Y ++ Y ∷ []
    span-is = ap (λ (b : Bool). cond b [] (last_of (seen_spans (seen_of log done)))) (starts-is ∙ ap not running) ∙ span-more log front y y-lit

    goes-on : (limit : ℕ) → (bares_by (span_before (seen_spans (seen_of log done)) X) (X ∷ []) ≡ []) × (overs_by limit (span_before (seen_spans (seen_of log done)) X) (X ∷ []) ≡ [])
    goes-on limit = subst (λ (xs : List Seen). (bares_by xs (X ∷ []) ≡ []) × (overs_by limit xs (X ∷ []) ≡ [])) (sym span-is)
        (ends-nothing limit (span_before (seen_spans (seen_of log front)) Y) Y (X ∷ []) (is_bare X) (is_fast limit X) (refl, tt) bare-then (refl, tt) (fast-then limit))

  -- where it begins
  begins-so : bef.running ≡ false → (limit : ℕ) → (bares_by (span_before (seen_spans (seen_of log done)) X) (X ∷ []) ≡ []) × (overs_by limit (span_before (seen_spans (seen_of log done)) X) (X ∷ []) ≡ [])
  begins-so dark limit =
      let is : span_before (seen_spans (seen_of log done)) X ≡ [] = ap (λ (b : Bool). cond b [] (last_of (seen_spans (seen_of log done)))) (starts-is ∙ ap not dark) in
      subst (λ (xs : List Seen). (bares_by xs (X ∷ []) ≡ []) × (overs_by limit xs (X ∷ []) ≡ [])) (sym is) (none-ended is_bare bare_event refl X, none-ended (is_fast limit) over_event refl X)

  pub alike-ends : (limit : ℕ) → (bares_by (span_before (seen_spans (seen_of log done)) X) (X ∷ []) ≡ []) × (overs_by limit (span_before (seen_spans (seen_of log done)) X) (X ∷ []) ≡ [])
  alike-ends limit = by bef.running refl
    where
      by : (b : Bool) → bef.running ≡ b → (bares_by (span_before (seen_spans (seen_of log done)) X) (X ∷ []) ≡ []) × (overs_by limit (span_before (seen_spans (seen_of log done)) X) (X ∷ []) ≡ [])
      by true is = goes-on is limit
      by false is = begins-so is limit

-- A SECOND WITHOUT ACTIONS at the speed of the last one
pub last-ends : (log : RunLog) (done : List TraceSecond) (s : TraceSecond) → LastAt done s.speed → s.actions ≡ [] → has_power (went log done).before s ≡ true → (limit : ℕ) →
    (bares_by (span_before (seen_spans (seen_of log done)) (seen_next log done s)) (seen_next log done s ∷ []) ≡ []) × (overs_by limit (span_before (seen_spans (seen_of log done)) (seen_next log done s)) (seen_next log done s ∷ []) ≡ [])
last-ends log _ s h none power limit =
    subst (λ (ss : List TraceSecond). (bares_by (span_before (seen_spans (seen_of log ss)) (seen_next log ss s)) (seen_next log ss s ∷ []) ≡ []) × (overs_by limit (span_before (seen_spans (seen_of log ss)) (seen_next log ss s)) (seen_next log ss s ∷ []) ≡ [])) (sym h.2)
    (alike-ends log h.0 h.1 s none h.3 (subst (λ (ss : List TraceSecond). has_power (went log ss).before s ≡ true) h.2 power) limit)
