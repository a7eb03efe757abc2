-- Lines of the log that come later change no event of the seconds before.
use Rattle.std.proofs.Common.{◌≡◌, ℕ, zero, suc, ◌+◌, Bool, true, false, cond, not, Option, Some, None, List, [], ◌∷◌, ◌++◌, All, length, map, take, fold, refl, ap, sym, subst, ◌∙◌, is_some}
use Rattle.std.specs.Prelude.{◌==◌, flat_map, slice_get}
use Rattle.std.specs.List.{AllByRecursion, filter_map}
use Rattle.std.proofs.lemmas.List.Elements.{All-head, All-tail}
use Rattle.activity_codec.specs.declared.values.Slot.{Slot}
use Rattle.activity_codec.specs.declared.values.Slot.TheVariants.{Driver, CoDriver}
use Rattle.trace_model.specs.declared.Card.{Card}
use Rattle.trace_model.specs.declared.Action.{Action}
use Rattle.trace_model.specs.Trace.{TraceSecond}
use Rattle.log_model.specs.Log.{RunLog, Phase, In, Keeping, cut_in, is_torn_in}
use Rattle.log_model.specs.Slots.{Slots, refusal, other_slot}
use Rattle.log_model.specs.Same.{SameAt}
use Rattle.log_model.specs.Course.{Course, Visit, ToldSecond, Before, Moved, slot_told, both_told, acted, all_acted, moved_by, unmoved, answered, fresh, cut_told, lit_course, has_power, second_told, before_next, not_begun}
use Rattle.event_model.specs.declared.kinds.TheConstants.{CARD_FAULT, DRIVING_WITHOUT_CARD, OVER_SPEEDING, POWER_INTERRUPTION}
use Rattle.event_model.specs.Runs.{ended_runs}
use Rattle.event_model.specs.Events.{Event, Seen, seen_spans, is_bare, bare_event, over_event, Watched, Tearing, watched_on, course_by, moved_by_action, within_by, seen_by, seen_of, number_of, accepted_card, with_card, noted_with, beside_torn, fault_of, torn_in_turn, bare_events, over_events, gap_events, fault_events, judged_events, events_of}
use Rattle.run_events.specs.Seconds.{is_fast, faults_by, found_by}

-- the number of a second
pick : (b : Bool) (x y : ToldSecond) (n : ℕ) → x.second.number ≡ n → y.second.number ≡ n → (cond b x y).second.number ≡ n
pick true x y n one two = one
pick false x y n one two = two

pub told-number : (log : RunLog) (before : Before) (s : TraceSecond) → (second_told log before s).second.number ≡ s.number
told-number log before s = pick (has_power before s) _ _ s.number refl refl

abbrev bares-in : List Seen → List Event
bares-in xs = flat_map (λ span. filter_map bare_event (ended_runs is_bare span)) (seen_spans xs)

abbrev overs-in : ℕ → List Seen → List Event
overs-in limit xs = flat_map (λ span. filter_map over_event (ended_runs (is_fast limit) span)) (seen_spans xs)

module _ (log later : RunLog) where
  -- A SECOND of which both tell the same
  slot-same : (u : ℕ) → SameAt log later u → (p : Phase) (e : Moved) (slot : Slot) (c : Course) → slot_told later u p e slot c ≡ slot_told log u p e slot c
  slot-same u same p e slot c = rw (same.torn p slot) (rw (same.found p slot) refl)

  both-same : (u : ℕ) → SameAt log later u → (p : Phase) (e : Moved) (c : Course) → both_told later u p e c ≡ both_told log u p e c
  both-same u same p e c =
      slot-same u same p e CoDriver (slot_told later u p e Driver c) ∙ ap (slot_told log u p e CoDriver) (slot-same u same p e Driver c)

  acted-same : (s : TraceSecond) → SameAt log later s.number → (n : ℕ) (a : Action) (c : Course) → acted later s n a c ≡ acted log s n a c
  acted-same s same n a c =
      rw same.cut (rw (both-same s.number same (In (n + 1)) (moved_by n (refusal c.slots s.speed a) a c.slots) (answered n (refusal c.slots s.speed a) a c)) refl)

  all-same : (s : TraceSecond) → SameAt log later s.number → (n : ℕ) (acts : List Action) (c : Course) → all_acted later s n acts c ≡ all_acted log s n acts c
  all-same s same n [] c = refl
  all-same s same n (a ∷ acts) c = all-same s same (n + 1) acts (acted later s n a c) ∙ ap (all_acted log s (n + 1) acts) (acted-same s same n a c)

  lit-same : (s : TraceSecond) → SameAt log later s.number → (starts : Bool) (slots : Slots) → lit_course later s starts slots ≡ lit_course log s starts slots
  lit-same s same starts slots =
      let begun = both-same s.number same (In 0) (unmoved starts) (fresh starts slots) in
      let done = all-same s same 0 s.actions (both_told later s.number (In 0) (unmoved starts) (fresh starts slots)) ∙ ap (all_acted log s 0 s.actions) begun in
      let kept = both-same s.number same Keeping (unmoved false) (all_acted later s 0 s.actions (both_told later s.number (In 0) (unmoved starts) (fresh starts slots))) ∙ ap (both_told log s.number Keeping (unmoved false)) done in
      rw same.cut (ap (cut_told (is_some (cut_in log s.number))) kept)

  second-same : (before : Before) (s : TraceSecond) → SameAt log later s.number → second_told later before s ≡ second_told log before s
  second-same before s same = rw (lit-same s same (not before.running) before.slots) (rw same.cut refl)

  course-same : (before : Before) (s : TraceSecond) → SameAt log later s.number → (n : ℕ) → course_by later before s n ≡ course_by log before s n
  course-same before s same n =
      all-same s same 0 (take n s.actions) (both_told later s.number (In 0) (unmoved (not before.running)) (fresh (not before.running) before.slots))
      ∙ ap (all_acted log s 0 (take n s.actions)) (both-same s.number same (In 0) (unmoved (not before.running)) (fresh (not before.running) before.slots))

  action-same : (before : Before) (s : TraceSecond) → SameAt log later s.number → (n : ℕ) (o : Option Action) → moved_by_action later before s n o ≡ moved_by_action log before s n o
  action-same before s same n None = ap (λ (c : Course). c.slots) (course-same before s same n)
  action-same before s same n (Some a) = ap (λ (c : Course). (answered n (refusal c.slots s.speed a) a c).slots) (course-same before s same n)

  within-same : (before : Before) (s : TraceSecond) → SameAt log later s.number → (n : ℕ) → within_by later before s n ≡ within_by log before s n
  within-same before s same zero = refl
  within-same before s same (suc n) = action-same before s same n (slice_get s.actions n)

  pub seen-by-same : (before : Before) (s : TraceSecond) → SameAt log later s.number → seen_by later before s ≡ seen_by log before s
  seen-by-same before s same = λ i. record {
    told = second-same before s same i;
    after = λ n. (course-same before s same n i).slots;
    within = λ n. within-same before s same n i;
    itself = (course-same before s same (length s.actions) i).slots;
  }

  -- ALL SECONDS
  watched-same : (w : Watched) (s : TraceSecond) → SameAt log later s.number → watched_on later w s ≡ watched_on log w s
  watched-same w s same = λ i. record { seen = w.seen ++ seen-by-same w.before s same i ∷ []; before = before_next w.before (second-same w.before s same i) }

  going : (w : Watched) (ss : List TraceSecond) → All (λ s. SameAt log later s.number) ss → fold (watched_on later) w ss ≡ fold (watched_on log) w ss
  going w [] all = refl
  going w (s ∷ ss) all =
      ap (λ (v : Watched). fold (watched_on later) v ss) (watched-same w s (All-head (λ (s : TraceSecond). SameAt log later s.number) s ss all))
      ∙ going (watched_on log w s) ss (All-tail (λ (s : TraceSecond). SameAt log later s.number) s ss all)

  pub seen-same : (ss : List TraceSecond) → All (λ s. SameAt log later s.number) ss → seen_of later ss ≡ seen_of log ss
  unfolding seen_of
  seen-same ss all = ap (λ (w : Watched). w.seen) (going (record { seen = []; before = not_begun.before }) ss all)

  -- the driver's card was torn out in the keeping of these, by both or by neither
  abbrev pub SameTear : Seen → Type 0
  SameTear x = is_torn_in later (number_of x) Keeping Driver ≡ is_torn_in log (number_of x) Keeping Driver

  tear-by : (before : Before) (s : TraceSecond) → SameAt log later s.number → SameTear (seen_by log before s)
  tear-by before s same = subst (λ (u : ℕ). is_torn_in later u Keeping Driver ≡ is_torn_in log u Keeping Driver) (sym (told-number log before s)) (same.torn Keeping Driver)

  tears-push : (xs : List Seen) (x : Seen) → AllByRecursion SameTear xs → SameTear x → AllByRecursion SameTear (xs ++ x ∷ [])
  tears-push [] x all is = (is, tt)
  tears-push (y ∷ xs) x all is = (all.0, tears-push xs x all.1 is)

  tears-going : (w : Watched) (ss : List TraceSecond) → All (λ s. SameAt log later s.number) ss → AllByRecursion SameTear w.seen → AllByRecursion SameTear (fold (watched_on log) w ss).seen
  tears-going w [] all are = are
  tears-going w (s ∷ ss) all are =
      tears-going (watched_on log w s) ss (All-tail (λ (s : TraceSecond). SameAt log later s.number) s ss all)
      (tears-push w.seen (seen_by log w.before s) are (tear-by w.before s (All-head (λ (s : TraceSecond). SameAt log later s.number) s ss all)))

  pub tears-same : (ss : List TraceSecond) → All (λ s. SameAt log later s.number) ss → AllByRecursion SameTear (seen_of log ss)
  unfolding seen_of
  tears-same ss all = tears-going (record { seen = []; before = not_begun.before }) ss all tt

  -- FAULTS
  beside-same : (t : Tearing) (x : Seen) → SameTear x → (p : Phase) (slot : Slot) → beside_torn t later x p slot ≡ beside_torn t log x p slot
  beside-same t x is (In zero) Driver = refl
  beside-same t x is (In zero) CoDriver = refl
  beside-same t x is (In (suc n)) slot = refl
  beside-same t x is Keeping Driver = refl
  beside-same t x is Keeping CoDriver = ap (λ (b : Bool). cond b None (accepted_card x.itself.driver)) is

  fault-same : (t : Tearing) (x : Seen) → SameTear x → (v : Visit) → fault_of t later x v ≡ fault_of t log x v
  fault-same t x is v =
      ap (λ (o : Option Card). noted_with CARD_FAULT (number_of x) (number_of x) (with_card (other_slot v.slot) o (record { driver = None; codriver = None }))) (beside-same t x is v.phase v.slot)

  map-same : {X : Type 0} (f g : X → Event) → ((v : X) → f v ≡ g v) → (vs : List X) → map f vs ≡ map g vs
  map-same f g each [] = refl
  map-same f g each (v ∷ vs) = λ i. each v i ∷ map-same f g each vs i

  pub second-faults : (t : Tearing) (x : Seen) → SameTear x → faults_by t later x ≡ faults_by t log x
  second-faults t x is = map-same (fault_of t later x) (fault_of t log x) (fault-same t x is) (torn_in_turn t x x.told.course.torn)

  faults-all : (t : Tearing) (xs : List Seen) → AllByRecursion SameTear xs → flat_map (faults_by t later) xs ≡ flat_map (faults_by t log) xs
  faults-all t [] all = refl
  faults-all t (x ∷ xs) all = λ i. second-faults t x all.0 i ++ faults-all t xs all.1 i

  -- THE EVENTS OF A TYPE, but interruptions
  kinds-same : (a b c d : Bool) (x y z v w x' y' z' v' w' : List Event) → c ≡ false → x' ≡ x → y' ≡ y → v' ≡ v → w' ≡ w → cond a x' (cond b y' (cond c z' (cond d v' w'))) ≡ cond a x (cond b y (cond c z (cond d v w)))
  kinds-same true b c d x y z v w x' y' z' v' w' other ex ey ev ew = ex
  kinds-same false true c d x y z v w x' y' z' v' w' other ex ey ev ew = ey
  kinds-same false false true d x y z v w x' y' z' v' w' other ex ey ev ew = absurd (cc)
  kinds-same false false false true x y z v w x' y' z' v' w' other ex ey ev ew = ev
  kinds-same false false false false x y z v w x' y' z' v' w' other ex ey ev ew = ew

  pub events-same : (ss : List TraceSecond) → All (λ s. SameAt log later s.number) ss → (kind limit : ℕ) (sessions : ℕ → Visit → ℕ) (t : Tearing) → (kind == POWER_INTERRUPTION) ≡ false →
      events_of kind limit sessions t later ss ≡ events_of kind limit sessions t log ss
  events-same ss all kind limit sessions t other =
      let same : seen_of later ss ≡ seen_of log ss = seen-same ss all in
      kinds-same (kind == DRIVING_WITHOUT_CARD) (kind == OVER_SPEEDING) (kind == POWER_INTERRUPTION) (kind == CARD_FAULT)
      (bare_events log ss) (over_events limit log ss) (gap_events t log ss) (fault_events t log ss) (judged_events kind sessions t log ss)
      (bare_events later ss) (over_events limit later ss) (gap_events t later ss) (fault_events t later ss) (judged_events kind sessions t later ss) other
      (ap bares-in same) (ap (overs-in limit) same) (ap (flat_map (faults_by t later)) same ∙ faults-all t (seen_of log ss) (tears-same ss all)) (ap (flat_map (found_by kind sessions t)) same)
