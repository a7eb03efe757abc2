-- The last second turns out to be a cut's, behind all of its actions: its events are the same.
use Rattle.std.proofs.Common.{◌≡◌, inl, inr, ℕ, zero, suc, ◌+◌, ◌<◌, ◌≤◌, Bool, true, false, cond, not, ◌&&◌, Option, Some, None, List, [], ◌∷◌, ◌++◌, All, length, map, take, refl, ap, sym, subst, ◌∙◌, arith, append-nil, nat_lt, is_some}
use Rattle.std.specs.Prelude.{◌==◌, flat_map, slice_get}
use Rattle.std.specs.List.{AllByRecursion}
use Rattle.std.proofs.lemmas.Bool.{lt-ltb, eqb-true}
use Rattle.activity_codec.specs.declared.values.Slot.{Slot}
use Rattle.activity_codec.specs.declared.values.Slot.TheVariants.{Driver, CoDriver}
use Rattle.trace_model.specs.declared.Card.{Card}
use Rattle.trace_model.specs.declared.Action.{Action}
use Rattle.trace_model.specs.Trace.{TraceSecond}
use Rattle.tach_media.specs.Medium.{State}
use Rattle.log_model.specs.declared.lines.Break.{Break}
use Rattle.log_model.specs.declared.lines.Verdict.{Verdict}
use Rattle.log_model.specs.declared.lines.Verdict.TheVariants.{Accepted, NotValid, TimeOverlap}
use Rattle.log_model.specs.Log.{RunLog, Phase, In, Keeping, same_phase, cut_in, is_torn_in, kept_after}
use Rattle.log_model.specs.Slots.{refusal, other_slot}
use Rattle.log_model.specs.Same.{SameAt}
use Rattle.log_model.specs.Course.{Course, Visit, ToldSecond, Went, Before, Moved, slot_told, both_told, acted, all_acted, begins, moved_by, unmoved, answered, fresh, cut_told, lit_course, has_power, second_told, went}
use Rattle.log_model.proofs.Growth.{went-same}
use Rattle.run_unit_course.specs.Lines.{tells_cut}
use Rattle.run_unit_course.specs.Followed.{UnitPower, Lost}
use Rattle.event_model.specs.declared.kinds.TheConstants.{CARD_NOT_VALID, TIME_OVERLAP, DRIVING_WITHOUT_CARD, INSERTION_WHILE_DRIVING, SESSION_NOT_CLOSED, OVER_SPEEDING, POWER_INTERRUPTION, CARD_FAULT}
use Rattle.event_model.specs.Events.{Event, Crew, Seen, Tearing, AreTorn, noted_with, with_card, beside_judged, crew_judged, found_events, beside_torn, fault_of, is_codriver_first, torn_in_turn, number_of, course_by, moved_by_action, within_by, seen_by, seen_of, seen_on, seen_with, seen_spans, gaps_between, gap_events, events_of}
use Rattle.note_model.specs.Done.{has_failed_in}
use Rattle.unit_events.specs.Noted.{StayFailed}
use Rattle.run_events.specs.Shown.{none, is_sure_by, HasUnsureMore}
use Rattle.run_events.proofs.Unsure.{unsure-same}
use Rattle.run_events.specs.Seconds.{span_before, bares_by, overs_by, gap_before, gap_by, faults_by, found_by, second_events, seen_next}
use Rattle.run_events.specs.Gaps.{first_number, IsUntold, IsKnownGap, AreKnownGaps, OfLast, HasGaps}
use Rattle.run_events.specs.Choice.{IsTornIn}
use Rattle.run_events.specs.Running.{HasEvents, IsCutOff}
use Rattle.run_events.proofs.Shows.{nothing-more, noted-then}
use Rattle.run_events.proofs.Growing.{some-spans, seen-more, spans-more, gaps-with, second-brings}
use Rattle.run_events.proofs.Later.{told-number, seen-same, events-same, second-faults}
use Rattle.run_events.proofs.Gaps.{gaps-lead, gaps-later, ends-untold, last-on, last-one}
use Rattle.run_events.proofs.Choosing.{to-each, of-each}

-- a second with power that a cut ends
abbrev pub cut_seen : Seen → Seen
cut_seen x = record x { told = record x.told { cut = true; course = cut_told true x.told.course } }

take-short : {X : Type 0} (n : ℕ) (xs : List X) → length (take n xs) ≤ length xs
take-short zero xs = omega arith
take-short (suc n) [] = omega arith
take-short (suc n) (x ∷ xs) = let rest : length (take n xs) ≤ length xs = take-short n xs in omega (arith, rest)

module _ (log later : RunLog) (s : TraceSecond) (off : IsCutOff log later s) where
  slot-off : (p : Phase) (e : Moved) (slot : Slot) (c : Course) → slot_told later s.number p e slot c ≡ slot_told log s.number p e slot c
  slot-off p e slot c = rw (off.torn p slot) (rw (off.found p slot) refl)

  both-off : (p : Phase) (e : Moved) (c : Course) → both_told later s.number p e c ≡ both_told log s.number p e c
  both-off p e c = slot-off p e CoDriver (slot_told later s.number p e Driver c) ∙ ap (slot_told log s.number p e CoDriver) (slot-off p e Driver c)

  -- each of its actions had begun
  began : (n : ℕ) → n < length s.actions → begins (cut_in later s.number) n ≡ true
  began n lt = ap (λ (o : Option ℕ). begins o n) off.cut ∙ lt-ltb n (length s.actions) lt

  acted-off : (n : ℕ) (a : Action) (c : Course) → n < length s.actions → acted later s n a c ≡ acted log s n a c
  acted-off n a c lt =
      rw (began n lt) (rw off.uncut (both-off (In (n + 1)) (moved_by n (refusal c.slots s.speed a) a c.slots) (answered n (refusal c.slots s.speed a) a c)))

  all-off : (n : ℕ) (acts : List Action) (c : Course) → n + length acts ≤ length s.actions → all_acted later s n acts c ≡ all_acted log s n acts c
  all-off n [] c le = refl
  all-off n (a ∷ acts) c le =
      all-off (n + 1) acts (acted later s n a c) (omega (arith, le)) ∙ ap (all_acted log s (n + 1) acts) (acted-off n a c (omega (arith, le)))

  module _ (before : Before) where
    course-off : (n : ℕ) → course_by later before s n ≡ course_by log before s n
    course-off n =
        let few : length (take n s.actions) ≤ length s.actions = take-short n s.actions in
        all-off 0 (take n s.actions) (both_told later s.number (In 0) (unmoved (not before.running)) (fresh (not before.running) before.slots)) (omega (arith, few))
        ∙ ap (all_acted log s 0 (take n s.actions)) (both-off (In 0) (unmoved (not before.running)) (fresh (not before.running) before.slots))

    action-off : (n : ℕ) (o : Option Action) → moved_by_action later before s n o ≡ moved_by_action log before s n o
    action-off n None = ap (λ (c : Course). c.slots) (course-off n)
    action-off n (Some a) = ap (λ (c : Course). (answered n (refusal c.slots s.speed a) a c).slots) (course-off n)

    within-off : (n : ℕ) → within_by later before s n ≡ within_by log before s n
    within-off zero = refl
    within-off (suc n) = action-off n (slice_get s.actions n)

    abbrev kept_by_log : RunLog → Course
    kept_by_log l = both_told l s.number Keeping (unmoved false) (all_acted l s 0 s.actions (both_told l s.number (In 0) (unmoved (not before.running)) (fresh (not before.running) before.slots)))

    kept-off : kept_by_log later ≡ kept_by_log log
    kept-off =
        both-off Keeping (unmoved false) (all_acted later s 0 s.actions (both_told later s.number (In 0) (unmoved (not before.running)) (fresh (not before.running) before.slots)))
        ∙ ap (both_told log s.number Keeping (unmoved false))
        (all-off 0 s.actions (both_told later s.number (In 0) (unmoved (not before.running)) (fresh (not before.running) before.slots)) (omega arith)
        ∙ ap (all_acted log s 0 s.actions) (both-off (In 0) (unmoved (not before.running)) (fresh (not before.running) before.slots)))

    lit-log : lit_course log s (not before.running) before.slots ≡ kept_by_log log
    lit-log = ap (λ (o : Option ℕ). cut_told (is_some o) (kept_by_log log)) off.uncut

    lit-off : lit_course later s (not before.running) before.slots ≡ cut_told true (lit_course log s (not before.running) before.slots)
    lit-off = ap (λ (o : Option ℕ). cut_told (is_some o) (kept_by_log later)) off.cut ∙ ap (cut_told true) (kept-off ∙ sym lit-log)

    abbrev lit_told : (cut : Bool) → Course → ToldSecond
    lit_told cut c = record {
      second = record { number = s.number; speed = s.speed; picks = c.picks };
      given = s.has_power;
      lit = true;
      starts = not before.running;
      cut = cut;
      course = c;
    }

    told-as : (l : RunLog) → has_power before s ≡ true → second_told l before s ≡ lit_told (is_some (cut_in l s.number)) (lit_course l s (not before.running) before.slots)
    told-as l power = rw power refl

    told-off : has_power before s ≡ true → second_told later before s ≡ record (second_told log before s) { cut = true; course = cut_told true (second_told log before s).course }
    told-off power =
        told-as later power
        ∙ (λ i. lit_told (is_some (off.cut i)) (lit-off i))
        ∙ sym (ap (λ (t : ToldSecond). record t { cut = true; course = cut_told true t.course }) (told-as log power))

    pub seen-off : has_power before s ≡ true → seen_by later before s ≡ cut_seen (seen_by log before s)
    seen-off power = λ i. record {
      told = told-off power i;
      after = λ n. (course-off n i).slots;
      within = λ n. within-off n i;
      itself = (course-off (length s.actions) i).slots;
    }

-- THE EVENTS of such a second
fits-off : (t : Tearing) (x : Seen) → IsTornIn t x → IsTornIn t (cut_seen x)
fits-off t x h = record { still = h.still; before = h.before; put_in = h.put_in }

fits-last : (t : Tearing) (xs : List Seen) (x : Seen) → AllByRecursion (IsTornIn t) (xs ++ x ∷ []) → AllByRecursion (IsTornIn t) (xs ++ cut_seen x ∷ [])
fits-last t [] x all = (fits-off t x all.0, tt)
fits-last t (y ∷ xs) x all = (all.0, fits-last t xs x all.1)

module _ (log later : RunLog) (t : Tearing) (spans : List (List Seen)) (x : Seen) (tear : is_torn_in later (number_of x) Keeping Driver ≡ is_torn_in log (number_of x) Keeping Driver) where
  kinds-off : (a b c d : Bool) (p q r v w r' v' w' : List Event) → c ≡ false → v' ≡ v → w' ≡ w → cond a p (cond b q (cond c r' (cond d v' w'))) ≡ cond a p (cond b q (cond c r (cond d v w)))
  kinds-off true b c d p q r v w r' v' w' other ev ew = refl
  kinds-off false true c d p q r v w r' v' w' other ev ew = refl
  kinds-off false false true d p q r v w r' v' w' other ev ew = absurd (cc)
  kinds-off false false false d p q r v w r' v' w' other ev ew = λ i. cond d (ev i) (ew i)

  -- its events see no more of it than those of the second as it was
  judged-off : (p : Phase) (slot : Slot) → beside_judged t (cut_seen x) p slot ≡ beside_judged t x p slot
  judged-off (In zero) Driver = refl
  judged-off (In zero) CoDriver = refl
  judged-off (In (suc n)) slot = refl
  judged-off Keeping slot = refl

  crew-off : (v : Visit) (own : Option Card) → crew_judged t (cut_seen x) v own ≡ crew_judged t x v own
  crew-off v own = ap (λ (o : Option Card). with_card v.slot own (with_card (other_slot v.slot) o (record { driver = None; codriver = None }))) (judged-off v.phase v.slot)

  found-off : (kind session : ℕ) (v : Visit) (verdict : Verdict) → found_events kind session t (cut_seen x) v verdict ≡ found_events kind session t x v verdict
  found-off kind session v (NotValid fid place) = ap (λ (c : Crew). cond (kind == CARD_NOT_VALID) (noted_with kind (number_of x) (number_of x) c ∷ []) []) (crew-off v None)
  found-off kind session v (TimeOverlap stored now) = ap (λ (c : Crew). cond (kind == TIME_OVERLAP) (noted_with kind (number_of x) stored c ∷ []) []) (crew-off v None)
  found-off kind session v (Accepted replayed) =
      ap (λ (c : Crew). cond ((kind == INSERTION_WHILE_DRIVING) && nat_lt 0 x.told.second.speed) (noted_with kind (number_of x) (number_of x) c ∷ [])
      (cond ((kind == SESSION_NOT_CLOSED) && nat_lt 0 session) (noted_with kind session (number_of x) c ∷ []) [])) (crew-off v (Some v.card))

  pub flat-off : (kind : ℕ) (sessions : ℕ → Visit → ℕ) (fs : List (Visit × Verdict)) →
      flat_map (λ (f : Visit × Verdict). found_events kind (sessions (number_of x) f.0) t (cut_seen x) f.0 f.1) fs ≡ flat_map (λ (f : Visit × Verdict). found_events kind (sessions (number_of x) f.0) t x f.0 f.1) fs
  flat-off kind sessions [] = refl
  flat-off kind sessions (f ∷ fs) = λ i. found-off kind (sessions (number_of x) f.0) f.0 f.1 i ++ flat-off kind sessions fs i

  beside-off : (p : Phase) (slot : Slot) → beside_torn t later (cut_seen x) p slot ≡ beside_torn t later x p slot
  beside-off (In zero) Driver = refl
  beside-off (In zero) CoDriver = refl
  beside-off (In (suc n)) slot = refl
  beside-off Keeping Driver = refl
  beside-off Keeping CoDriver = refl

  fault-off : (v : Visit) → fault_of t later (cut_seen x) v ≡ fault_of t later x v
  fault-off v =
      ap (λ (o : Option Card). noted_with CARD_FAULT (number_of x) (number_of x) (with_card (other_slot v.slot) o (record { driver = None; codriver = None }))) (beside-off v.phase v.slot)

  codriver-off : (p : Phase) → is_codriver_first t (cut_seen x) p ≡ is_codriver_first t x p
  codriver-off (In zero) = refl
  codriver-off (In (suc n)) = refl
  codriver-off Keeping = refl

  turn-off : (vs : List Visit) → torn_in_turn t (cut_seen x) vs ≡ torn_in_turn t x vs
  turn-off [] = refl
  turn-off (v ∷ []) = refl
  turn-off (v ∷ w ∷ vs) = λ i. cond (same_phase v.phase w.phase && codriver-off v.phase i) (w ∷ v ∷ turn-off vs i) (v ∷ turn-off (w ∷ vs) i)

  map-off : (vs : List Visit) → map (fault_of t later (cut_seen x)) vs ≡ map (fault_of t later x) vs
  map-off [] = refl
  map-off (v ∷ vs) = λ i. fault-off v i ∷ map-off vs i

  pub faults-off : faults_by t later (cut_seen x) ≡ faults_by t log x
  faults-off = map-off (torn_in_turn t (cut_seen x) x.told.course.torn) ∙ ap (map (fault_of t later x)) (turn-off x.told.course.torn) ∙ second-faults log later t x tear

  before-off : (sp : List (List Seen)) → gap_before t later sp (cut_seen x) ≡ gap_before t later sp x
  before-off [] = refl
  before-off (span ∷ []) = refl
  before-off (span ∷ next ∷ sp) = before-off (next ∷ sp)

  pub gap-off : gap_by t later spans (cut_seen x) ≡ gap_by t later spans x
  gap-off = ap (λ (es : List Event). cond x.told.lit (cond x.told.starts es []) []) (before-off spans)

  second-off : (kind limit : ℕ) (sessions : ℕ → Visit → ℕ) → (kind == POWER_INTERRUPTION) ≡ false → second_events kind limit sessions t later spans (cut_seen x) ≡ second_events kind limit sessions t log spans x
  second-off kind limit sessions other =
      kinds-off (kind == DRIVING_WITHOUT_CARD) (kind == OVER_SPEEDING) (kind == POWER_INTERRUPTION) (kind == CARD_FAULT)
      (cond x.told.lit (bares_by (span_before spans x) (x ∷ [])) []) (cond x.told.lit (overs_by limit (span_before spans x) (x ∷ [])) [])
      (gap_by t log spans x) (faults_by t log x) (found_by kind sessions t x) (gap_by t later spans (cut_seen x)) (faults_by t later (cut_seen x)) (found_by kind sessions t (cut_seen x)) other faults-off
      (flat-off kind sessions x.told.course.found)

-- what is known of the gaps is so with it
gap-as : (log : RunLog) (found : List Break) (span next other : List Seen) → first_number next ≡ first_number other → IsKnownGap log found span next → IsKnownGap log found span other
gap-as log found span next other is (inl told) = inl told
gap-as log found span next other is (inr failed) = inr (record { told = failed.told; failed = ap (has_failed_in log) (sym is) ∙ failed.failed; kept = failed.kept })

first-as : (next : List Seen) (x y : Seen) → number_of x ≡ number_of y → first_number (next ++ x ∷ []) ≡ first_number (next ++ y ∷ [])
first-as [] x y is = is
first-as (z ∷ next) x y is = refl

on-as : (log : RunLog) (found : List Break) (spans : List (List Seen)) (x y : Seen) → number_of x ≡ number_of y → AreKnownGaps log found (seen_on spans x) → AreKnownGaps log found (seen_on spans y)
on-as log found [] x y is all = tt
on-as log found (span ∷ []) x y is all = tt
on-as log found (span ∷ next ∷ []) x y is all = (gap-as log found span (next ++ x ∷ []) (next ++ y ∷ []) (first-as next x y is) all.0, tt)
on-as log found (span ∷ next ∷ third ∷ spans) x y is all = (all.0, on-as log found (next ∷ third ∷ spans) x y is all.1)

one-as : (log : RunLog) (found : List Break) (spans : List (List Seen)) (x y : Seen) → number_of x ≡ number_of y → AreKnownGaps log found (spans ++ (x ∷ []) ∷ []) → AreKnownGaps log found (spans ++ (y ∷ []) ∷ [])
one-as log found [] x y is all = tt
one-as log found (span ∷ []) x y is all = (gap-as log found span (x ∷ []) (y ∷ []) is all.0, tt)
one-as log found (span ∷ next ∷ spans) x y is all = (all.0, one-as log found (next ∷ spans) x y is all.1)

with-as : (log : RunLog) (found : List Break) (spans : List (List Seen)) (x : Seen) → AreKnownGaps log found (seen_with spans x) → AreKnownGaps log found (seen_with spans (cut_seen x))
with-as log found spans x = by x.told.lit x.told.starts
  where
    by : (lit starts : Bool) → AreKnownGaps log found (cond lit (cond starts (spans ++ (x ∷ []) ∷ []) (seen_on spans x)) spans) → AreKnownGaps log found (cond lit (cond starts (spans ++ (cut_seen x ∷ []) ∷ []) (seen_on spans (cut_seen x))) spans)
    by true true all = one-as log found spans x (cut_seen x) refl all
    by true false all = on-as log found spans x (cut_seen x) refl all
    by false starts all = all

last-with : (P : List Seen → Type 0) (spans : List (List Seen)) (x : Seen) → x.told.lit ≡ true → ((span : List Seen) → P (span ++ x ∷ [])) → OfLast P (seen_with spans x)
last-with P spans x lit each = by x.told.lit x.told.starts lit
  where
    by : (l starts : Bool) → l ≡ true → OfLast P (cond l (cond starts (spans ++ (x ∷ []) ∷ []) (seen_on spans x)) spans)
    by true true is = last-one P spans (x ∷ []) (each [])
    by true false is = last-on P spans x each
    by false starts is = absurd (cc)

-- THE RUN, whose last second it is
module _ (log later : RunLog) (front : List TraceSecond) (s : TraceSecond) (same : All (λ s. SameAt log later s.number) front) (off : IsCutOff log later s) (power : has_power (went log front).before s ≡ true) where
  abbrev x : Seen
  x = seen_next log front s

  abbrev old : List (List Seen)
  old = seen_spans (seen_of log front)

  next-off : seen_next later front s ≡ cut_seen x
  next-off = ap (λ (w : Went). seen_by later w.before s) (went-same log later front same) ∙ seen-off log later s off (went log front).before power

  seen-now : seen_of later (front ++ s ∷ []) ≡ seen_of log front ++ cut_seen x ∷ []
  seen-now = seen-more later front s ∙ (λ i. seen-same log later front same i ++ next-off i ∷ [])

  tear-off : is_torn_in later (number_of x) Keeping Driver ≡ is_torn_in log (number_of x) Keeping Driver
  tear-off = subst (λ (u : ℕ). is_torn_in later u Keeping Driver ≡ is_torn_in log u Keeping Driver) (sym (told-number log (went log front).before s)) (off.torn Keeping Driver)

  pub torn-off : (t : Tearing) → AreTorn t (seen_of log (front ++ s ∷ [])) → AreTorn t (seen_of later (front ++ s ∷ []))
  torn-off t h =
      subst (AreTorn t) (sym seen-now)
      (of-each t (seen_of log front ++ cut_seen x ∷ []) (fits-last t (seen_of log front) x (to-each t (seen_of log front ++ x ∷ []) (subst (AreTorn t) (seen-more log front s) h))))

  pub events-off : (kind limit : ℕ) (sessions : ℕ → Visit → ℕ) (t : Tearing) → (kind == POWER_INTERRUPTION) ≡ false → events_of kind limit sessions t later (front ++ s ∷ []) ≡ events_of kind limit sessions t log (front ++ s ∷ [])
  events-off kind limit sessions t other =
      second-brings kind limit sessions t later front s
      ∙ (λ i. events-same log later front same kind limit sessions t other i ++ second_events kind limit sessions t later (seen_spans (seen-same log later front same i)) (next-off i))
      ∙ ap (λ (es : List Event). events_of kind limit sessions t log front ++ es) (second-off log later t old x tear-off kind limit sessions other)
      ∙ sym (second-brings kind limit sessions t log front s)

  spans-now : seen_spans (seen_of later (front ++ s ∷ [])) ≡ seen_with old (cut_seen x)
  spans-now = ap seen_spans seen-now ∙ spans-more (seen_of log front) (cut_seen x)

  spans-were : seen_spans (seen_of log (front ++ s ∷ [])) ≡ seen_with old x
  spans-were = ap seen_spans (seen-more log front s) ∙ spans-more (seen_of log front) x

  -- interruptions between the same spans
  gaps-off : (t : Tearing) → gap_events t later (front ++ s ∷ []) ≡ gaps_between t later (seen_spans (seen_of log (front ++ s ∷ [])))
  gaps-off t =
      ap (gaps_between t later) spans-now ∙ gaps-with t later old (cut_seen x) (some-spans (seen_of log front))
      ∙ ap (λ (es : List Event). gaps_between t later old ++ es) (gap-off log later t old x tear-off) ∙ sym (gaps-with t later old x (some-spans (seen_of log front))) ∙ sym (ap (gaps_between t later) spans-were)

  module _ (unfound : ℕ) (supply : UnitPower) (g : HasGaps log unfound supply (front ++ s ∷ [])) (stay : StayFailed log later) (known : (u : ℕ) → tells_cut u (take unfound log.breaks) ≡ true → kept_after later u ≡ kept_after log u) where
    pub off-leads : (kind limit : ℕ) (sessions : ℕ → Visit → ℕ) (t : Tearing) → HasUnsureMore (is_sure_by later) (events_of kind limit sessions t log (front ++ s ∷ [])) (events_of kind limit sessions t later (front ++ s ∷ []))
    off-leads kind limit sessions t = by (kind == POWER_INTERRUPTION) refl
      where
        by : (b : Bool) → (kind == POWER_INTERRUPTION) ≡ b → HasUnsureMore (is_sure_by later) (events_of kind limit sessions t log (front ++ s ∷ [])) (events_of kind limit sessions t later (front ++ s ∷ []))
        by true is =
            subst (λ (n : ℕ). HasUnsureMore (is_sure_by later) (events_of n limit sessions t log (front ++ s ∷ [])) (events_of n limit sessions t later (front ++ s ∷ []))) (sym (eqb-true kind POWER_INTERRUPTION is))
            (subst (λ (es : List Event). HasUnsureMore (is_sure_by later) (gap_events t log (front ++ s ∷ [])) es) (sym (gaps-off t))
            (gaps-lead t log later (take unfound log.breaks) stay known (seen_spans (seen_of log (front ++ s ∷ []))) g.known))
        by false is = unsure-same (is_sure_by later) (events_of kind limit sessions t log (front ++ s ∷ [])) (events_of kind limit sessions t later (front ++ s ∷ [])) (events-off kind limit sessions t is)

    pub off-shown : (number : Card → List ℕ) (start : List ℕ) (limit : ℕ) (t : Tearing) (sessions : ℕ → Visit → ℕ) {U : State} → HasEvents number start limit log (front ++ s ∷ []) U t sessions → HasEvents number start limit later (front ++ s ∷ []) U t sessions
    off-shown number start limit t sessions {U} h = record {
      torn = torn-off t h.torn;
      noted = noted-then number start log later (λ kind. events_of kind limit sessions t log (front ++ s ∷ [])) none (λ kind. events_of kind limit sessions t later (front ++ s ∷ [])) {U = U} {V = U} h.noted stay
          (λ kind there. subst (λ (es : List Event). HasUnsureMore (is_sure_by later) es (events_of kind limit sessions t later (front ++ s ∷ []))) (sym (append-nil (events_of kind limit sessions t log (front ++ s ∷ [])))) (off-leads kind limit sessions t))
          (λ c left. (c, left, nothing-more number (is_sure_by later) c c (record { tables = λ kind there. refl; first_over = refl; over_count = refl })));
    }

  -- and what is known of the cuts, which this one is among
  pub off-gaps : (unfound : ℕ) (supply : UnitPower) (rest : List Break) → later.breaks ≡ log.breaks ++ rest → take unfound later.breaks ≡ take unfound log.breaks → HasGaps log unfound supply (front ++ s ∷ []) → x.told.lit ≡ true →
      IsUntold later (take unfound log.breaks) (x ∷ []) → HasGaps later unfound Lost (front ++ s ∷ [])
  off-gaps unfound supply rest breaks same_front g lit cut =
      let found : List Break = take unfound log.breaks in
      let mine : AreKnownGaps later found (seen_with old (cut_seen x)) =
      with-as later found old x (gaps-later log later found rest breaks (seen_with old x) (subst (AreKnownGaps log found) spans-were g.known)) in
      let here : IsUntold later found (cut_seen x ∷ []) = record { told = cut.told; unfound = cut.unfound; kept = cut.kept } in
      let last : OfLast (IsUntold later found) (seen_with old (cut_seen x)) = last-with (IsUntold later found) old (cut_seen x) lit (ends-untold later found (cut_seen x) here) in record {
        known = subst (λ (fs : List Break). AreKnownGaps later fs (seen_spans (seen_of later (front ++ s ∷ [])))) (sym same_front) (subst (AreKnownGaps later found) (sym spans-now) mine);
        last = subst (λ (fs : List Break). OfLast (IsUntold later fs) (seen_spans (seen_of later (front ++ s ∷ [])))) (sym same_front) (subst (OfLast (IsUntold later found)) (sym spans-now) last);
      }
