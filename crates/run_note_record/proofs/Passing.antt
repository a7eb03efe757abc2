-- What adds nothing: an action is refused, or a card is pulled out.
use Rattle.std.proofs.Common.{◌≡◌, ◌⊎◌, ℕ, suc, Bool, true, false, cond, not, ◌&&◌, None, List, [], ◌∷◌, ◌++◌, Contains, map, is_some, refl, ap, sym, subst, ◌∙◌, arith, append-nil}
use Rattle.std.specs.Prelude.{◌==◌, flat_map}
use Rattle.std.specs.List.{list_any}
use Rattle.std.proofs.lemmas.Bool.Decides.{nat_tests}
use Rattle.run_events.specs.activity_codec.declared.values.Slot.{Slot}
use Rattle.run_events.specs.activity_codec.declared.values.Slot.TheVariants.{Driver, CoDriver}
use Rattle.run_events.specs.activity_codec.Activity.{same_slot}
use Rattle.run_devices.specs.trace_model.declared.Card.{Card}
use Rattle.run_devices.specs.trace_model.declared.Card.TheVariants.{A}
use Rattle.run_devices.specs.trace_model.Trace.{TraceSecond}
use Rattle.run_devices.specs.log_model.declared.lines.Break.{Break}
use Rattle.run_devices.specs.log_model.declared.lines.Verdict.{Verdict}
use Rattle.run_devices.specs.log_model.Log.{RunLog, Phase, In, Keeping, same_phase, kept_by, is_torn_in}
use Rattle.run_devices.specs.log_model.Slots.{in_slot, other_slot}
use Rattle.run_devices.specs.log_model.Course.{Visit, Course, Before, Moved, card_in, visits, has_power, went}
use Rattle.run_devices.specs.event_model.declared.kinds.TheConstants.{DRIVING_WITHOUT_CARD, OVER_SPEEDING, POWER_INTERRUPTION, CARD_FAULT}
use Rattle.run_devices.specs.event_model.Events.{Seen, Tearing, number_of, noted_with, with_card, accepted_card, seen_by, seen_of, seen_spans, torn_at, standing, found_events, is_first, beside_torn, fault_of, torn_in_turn}
use Rattle.run_devices.specs.note_model.Noted.{Note}
use Rattle.run_devices.specs.safety_model.Safe.{Devices}
use Rattle.run_devices.specs.run_course.Moments.{and_break, and_refused}
use Rattle.run_devices.proofs.run_course.Lookups.{break-more}
use Rattle.run_devices.proofs.run_course.Told.{lit-told}
use Rattle.run_devices.specs.run_course.Reached.{IsMoment, IsUpTo, Reaches, begun_at, moved_at, course_at, IsTearAt}
use Rattle.run_devices.proofs.run_course.Reached.{lines-reached}
use Rattle.run_events.specs.Seconds.{span_before, bares_by, overs_by, gap_by, faults_by, found_by, second_events}
use Rattle.run_events.proofs.Later.{seen-by-same}
use Rattle.run_note_record.specs.Evented.{limit_in}
use Rattle.run_note_record.specs.Noting.{Acting, is_told}
use Rattle.run_note_record.specs.Bringing.{NotFound}
use Rattle.run_note_record.specs.EventsSoFar.{FitsSoFar, ARefusalAddsNothing, APullAddsNothing}
use Rattle.run_note_record.proofs.Fronts.{DifferAt, accepted-same, stands-same}
use Rattle.run_note_record.proofs.Parts.{outs, found_now, finds}
use Rattle.run_note_record.proofs.Brought.{SameBefore, within-same, differ, faults-then, found-then}
use Rattle.run_note_record.proofs.Bringing.{kinds-then, before-as, found-none, paired, torn-here, same, outs-none, outs-other, few-others, finds-same}
use Rattle.run_note_record.proofs.Refusing.{same-at, refusal-brings}
use Rattle.run_note_record.proofs.Tearing.{IsBeside, both-slot, cards-kept, turn-few, only-other, few-alone, map-few}
use Rattle.run_note_record.specs.Uses.{notes_in, uses_in}
use Rattle.run_note_record.proofs.Noted.{second-alike}
use Rattle.run_note_record.proofs.Exact.{stay-alike}
use Rattle.run_note_record.proofs.UsesSoFar.{tear-uses, tear-stays}
use Rattle.run_note_record.proofs.Adding.{power-now, OpenBy, fits-now, open-now, exact-still, added}

-- A REFUSAL
pub refusal-adds : (d : Devices) → ARefusalAddsNothing d
refusal-adds d o done p span s b at log r line = record {
  kinds = tt;
  on = λ more v.
      let before : Before = (went p.log done).before in
      let later : RunLog = and_refused log line in
      let r_later : Reaches p s at later = (lines-reached p s at log r).2 line in
      let alike : seen_by later before s ≡ seen_by log before s = seen-by-same log later before s (same-at log line s.number) in
      added o done p span s b Acting log later r.goes r_later.goes d more [] v v.here v.own
      (λ kind among told. refusal-brings log line kind (limit_in o) v.own v.here (seen_spans (seen_of p.log done)) before s
      ∙ sym (append-nil (second_events kind (limit_in o) v.own v.here log (seen_spans (seen_of p.log done)) (seen_by log before s))))
      (λ kind among off. refl)
      (subst (FitsSoFar Acting s v.here) (sym alike) (fits-now o done p span s b Acting log later r.goes r_later.goes d more [] v))
      (subst (λ (x : Seen). OpenBy o done p span s b v.own x d) (sym alike) (open-now o done p span s b Acting log later r.goes r_later.goes d more [] v))
      (exact-still o done p span s b log later r.goes v.own [] (sym (append-nil log.breaks)) (stay-alike (seen_by log before s).told.course.torn (seen_by later before s).told.course.torn (ap (λ (x : Seen). x.told.course.torn) alike)) (λ c. ap (λ (l : List Note). uses_in o c (notes_in p.log done ++ l)) (second-alike log later before s (same-at log line s.number)))
      (ap (λ (x : Seen). x.told.course.found) alike) v.exact_now);
}

-- A CARD IS PULLED OUT, by the second's course
no-right : (xs ys : List Visit) → xs ++ ys ≡ [] → ys ≡ []
no-right [] ys gone = gone
no-right (x ∷ xs) ys gone = absurd (cc)

acts : (n : ℕ) → same_phase (In (suc n)) (In 0) ≡ false
acts n = grind (arith, nat_tests)

module _ (log : RunLog) (before : Before) (s : TraceSecond) (n : ℕ) (power : has_power before s ≡ true) (is : IsMoment s (In (suc n))) (up : IsUpTo log s.number (In (suc n))) (slot : Slot) (b : Break) (tear : IsTearAt s (In (suc n)) slot false b)
    (up_later : IsUpTo (and_break log b) s.number (In (suc n))) (untorn : is_torn_in log s.number (In (suc n)) slot ≡ false)
    (empty : (moved_at log before s (In (suc n))).leaving slot ++ visits (In (suc n)) slot (course_at log before s (In (suc n))).slots ≡ []) (none : NotFound (In (suc n)) (other_slot slot) log s.number) (t : Tearing) where
  abbrev at : Phase
  at = In (suc n)

  abbrev later : RunLog
  later = and_break log b

  abbrev start : Course
  start = begun_at log before s at

  abbrev moves : Moved
  moves = moved_at log before s at

  abbrev x : Seen
  x = seen_by log before s

  abbrev y : Seen
  y = seen_by later before s

  abbrev ws : List Visit
  ws = outs log s.number at moves (other_slot slot) start

  abbrev xs : List Visit
  xs = outs log s.number at moves Driver start ++ outs log s.number at moves CoDriver start

  abbrev ys : List Visit
  ys = outs later s.number at moves Driver start ++ outs later s.number at moves CoDriver start

  abbrev fs : List (Visit × Verdict)
  fs = finds log s.number at moves Driver start ++ finds log s.number at moves CoDriver start

  abbrev gs : List (Visit × Verdict)
  gs = finds later s.number at moves Driver start ++ finds later s.number at moves CoDriver start

  alike : SameBefore log later s.number at
  alike = same log before s at power is up slot A false b tear up_later untorn

  d : DifferAt at start.torn start.found xs ys fs gs t t x y
  d = differ log later before s at power is alike t t (record { by_gap = λ other sl. refl; driver_first = λ m other. refl })

  cards-same : card_in (in_slot (course_at log before s at).slots slot) ≡ card_in (in_slot start.slots slot)
  cards-same = ap card_in (both-slot log s.number at moves slot start) ∙ cards-kept (is_torn_in log s.number at slot) (found_now log s.number at moves slot) s.number (in_slot start.slots slot) untorn

  gone-out : outs later s.number at moves slot start ≡ []
  gone-out =
      ap (λ (t : Bool). cond t (moves.leaving slot ++ visits at slot start.slots) []) (torn-here log before s at power is up slot A false b tear up_later untorn)
      ∙ ap (λ (cards : List Card). moves.leaving slot ++ map (λ (c : Card). record { phase = at; slot = slot; card = c }) cards) (sym cards-same) ∙ empty

  none-visits : visits at slot start.slots ≡ []
  none-visits = ap (map (λ (c : Card). record { phase = at; slot = slot; card = c })) (sym cards-same) ∙ no-right (moves.leaving slot) (visits at slot (course_at log before s at).slots) empty

  ys-are : ys ≡ ws
  ys-are = only-other slot (λ (sl : Slot). outs later s.number at moves sl start) gone-out ∙ outs-other log before s at power is up slot A false b tear up_later untorn

  xs-are : xs ≡ ws
  xs-are = only-other slot (λ (sl : Slot). outs log s.number at moves sl start) (outs-none log before s at power is up slot A false b tear up_later untorn)

  pub torn-alike : y.told.course.torn ≡ x.told.course.torn
  torn-alike = d.torn_y ∙ ap (λ (vs : List Visit). start.torn ++ vs) (ys-are ∙ sym xs-are) ∙ sym d.torn_x

  finds-alike : gs ≡ fs
  finds-alike = λ i. finds-same log before s at power is up slot A false b tear up_later untorn Driver i ++ finds-same log before s at power is up slot A false b tear up_later untorn CoDriver i

  pub found-alike : y.told.course.found ≡ x.told.course.found
  found-alike = d.found_y ∙ ap (λ (l : List (Visit × Verdict)). start.found ++ l) finds-alike ∙ sym d.found_x

  pub torn-first : (sl : Slot) → torn_at y (In 0) sl ≡ torn_at x (In 0) sl
  torn-first sl = ap (list_any (λ (w : Visit). same_phase w.phase (In 0) && same_slot w.slot sl)) torn-alike

  few : (ws ≡ []) ⊎ (IsBeside at (other_slot slot) ws × (is_torn_in log s.number at (other_slot slot) ≡ true))
  few = few-others log before s at power is up slot A false b tear up_later untorn

  few-alike : (ws ≡ []) ⊎ IsBeside at (other_slot slot) ws
  few-alike = few-alone at (other_slot slot) ws (is_torn_in log s.number at (other_slot slot) ≡ true) few

  within-alike : y.within (suc n) ≡ x.within (suc n)
  within-alike = within-same log later before s at power is alike (suc n) (λ k lt. lt)

  fault-kept : (w : Visit) → w.phase ≡ at → w.slot ≡ other_slot slot → is_torn_in log s.number at (other_slot slot) ≡ true → fault_of t later y w ≡ fault_of t log x w
  fault-kept w phase_is slot_is torn =
      let beside : beside_torn t later y w.phase w.slot ≡ beside_torn t log x w.phase w.slot =
      (λ i. beside_torn t later y (phase_is i) w.slot)
      ∙ (λ i. cond (list_any (λ (v : Visit). same_phase v.phase at && same_slot v.slot (other_slot w.slot)) (torn-alike i) && not (is_first t (d.number i) (suc n) w.slot)) None (accepted_card (in_slot (within-alike i) (other_slot w.slot))))
      ∙ sym (λ i. beside_torn t log x (phase_is i) w.slot) in
      λ i. noted_with CARD_FAULT (d.number i) (d.number i) (with_card (other_slot w.slot) (beside i) (record { driver = None; codriver = None }))

  faults-kept : faults_by t later y ≡ faults_by t log x ++ []
  faults-kept = faults-then at start.torn start.found xs ys fs gs t t x y d log later []
      (ap (λ (vs : List Visit). map (fault_of t later y) (torn_in_turn t y vs)) ys-are
      ∙ ap (map (fault_of t later y)) (turn-few t y at (other_slot slot) ws few-alike)
      ∙ map-few (fault_of t later y) (fault_of t log x) at (other_slot slot) ws (is_torn_in log s.number at (other_slot slot) ≡ true) few fault-kept
      ∙ sym (ap (map (fault_of t log x)) (turn-few t x at (other_slot slot) ws few-alike))
      ∙ sym (ap (λ (vs : List Visit). map (fault_of t log x) (torn_in_turn t x vs)) xs-are)
      ∙ sym (append-nil (map (fault_of t log x) (torn_in_turn t x xs))))

  -- nothing is found at this moment
  none-found : (sl : Slot) → visits at sl start.slots ≡ [] → finds log s.number at moves sl start ≡ []
  none-found sl nobody = ap (flat_map (λ (visit : Visit). map (λ (verdict : Verdict). (visit, verdict)) (found_now log s.number at moves sl))) nobody

  no-pairs : (vs : List Visit) → flat_map (λ (visit : Visit). paired visit []) vs ≡ []
  no-pairs [] = refl
  no-pairs (visit ∷ vs) = no-pairs vs

  none-beside : finds log s.number at moves (other_slot slot) start ≡ []
  none-beside =
      ap (λ (vs : List Verdict). flat_map (λ (visit : Visit). map (λ (verdict : Verdict). (visit, verdict)) vs) (visits at (other_slot slot) start.slots)) (found-none log s.number at moves (other_slot slot) none (λ late. absurd (never late)))
      ∙ no-pairs (visits at (other_slot slot) start.slots)
    where
      never : In (suc n) ≡ Keeping → ⊥
      never late = absurd (cc)

  fs-none : fs ≡ []
  fs-none = of-both slot (λ (sl : Slot). finds log s.number at moves sl start) (none-found slot none-visits) none-beside
    where
      of-both : (slot : Slot) (out : Slot → List (Visit × Verdict)) → out slot ≡ [] → out (other_slot slot) ≡ [] → out Driver ++ out CoDriver ≡ []
      of-both Driver out a c = λ i. a i ++ c i
      of-both CoDriver out a c = λ i. c i ++ a i

  found-kept : (kind : ℕ) (own : ℕ → Visit → ℕ) → found_by kind own t y ≡ found_by kind own t x ++ []
  found-kept kind own = found-then at start.torn start.found xs ys fs gs t t x y d log later kind own own (λ w former. ap (λ (u : ℕ). own u w) d.number) []
      (ap (flat_map (λ (f : Visit × Verdict). found_events kind (own (number_of y) f.0) t y f.0 f.1)) (finds-alike ∙ fs-none)
      ∙ sym (ap (λ (l : List (Visit × Verdict)). flat_map (λ (f : Visit × Verdict). found_events kind (own (number_of x) f.0) t x f.0 f.1) l ++ []) fs-none))

  gap-kept : (spans : List (List Seen)) → gap_by t later spans y ≡ gap_by t log spans x ++ []
  gap-kept spans =
      let stands : (sl : Slot) → standing t y sl ≡ standing t x sl = λ sl. stands-same at start.torn start.found xs ys fs gs t t x y d sl (acts n) in
      let lit : y.told.lit ≡ x.told.lit = (lit-told later before s power).lit ∙ sym (lit-told log before s power).lit in
      let starts : y.told.starts ≡ x.told.starts = (lit-told later before s power).starts ∙ sym (lit-told log before s power).starts in
      (λ i. cond (lit i) (cond (starts i) (before-as t t log later x y (λ u. (break-more log b u).kept (ap (kept_by u) tear.2)) d.number stands spans i) []) []) ∙ sym (append-nil (gap_by t log spans x))

  pub pulls-none : (kind limit : ℕ) (own : ℕ → Visit → ℕ) (spans : List (List Seen)) → is_told Acting kind ≡ true → second_events kind limit own t later spans y ≡ second_events kind limit own t log spans x ++ []
  pulls-none kind limit own spans told =
      kinds-then (kind == DRIVING_WITHOUT_CARD) (kind == OVER_SPEEDING) (kind == POWER_INTERRUPTION) (kind == CARD_FAULT)
      (cond x.told.lit (bares_by (span_before spans x) (x ∷ [])) []) (cond x.told.lit (overs_by limit (span_before spans x) (x ∷ [])) []) (gap_by t log spans x) (faults_by t log x) (found_by kind own t x)
      (cond y.told.lit (bares_by (span_before spans y) (y ∷ [])) []) (cond y.told.lit (overs_by limit (span_before spans y) (y ∷ [])) []) (gap_by t later spans y) (faults_by t later y) (found_by kind own t y)
      [] told (λ is_gap. gap-kept spans) (λ no_gap is_fault. faults-kept) (λ no_gap no_fault. found-kept kind own)

  pub fits-kept : FitsSoFar Acting s t x → FitsSoFar Acting s t y
  fits-kept was = record {
    put_in = was.put_in;
    still = λ sl rest torn accepted. was.still sl rest (sym (torn-first sl) ∙ torn) (sym (ap is_some (accepted-same at start.torn start.found xs ys fs gs t t x y d (In 0) sl (acts n))) ∙ accepted);
    before = λ sl nobody. was.before sl (sym (accepted-same at start.torn start.found xs ys fs gs t t x y d (In 0) sl (acts n)) ∙ nobody);
    waking = was.waking;
  }

pub pull-adds : (dev : Devices) → APullAddsNothing dev
pull-adds dev o done p span s b n log r slot line tear untorn empty none = record {
  kinds = tt;
  on = λ more v.
      let before : Before = (went p.log done).before in
      let later : RunLog = and_break log line in
      let r_later : Reaches p s (In (suc n)) later = (lines-reached p s (In (suc n)) log r).0 slot false line tear in
      let power : has_power before s ≡ true = power-now o done p span s b in
      added o done p span s b Acting log later r.goes r_later.goes dev more [] v v.here v.own
      (λ kind among told. pulls-none log before s n power r.is r.up_to slot line tear r_later.up_to untorn empty none v.here kind (limit_in o) v.own (seen_spans (seen_of p.log done)) told)
      (λ kind among off. refl)
      (fits-kept log before s n power r.is r.up_to slot line tear r_later.up_to untorn empty none v.here (fits-now o done p span s b Acting log later r.goes r_later.goes dev more [] v))
      (λ e among accepts. open-now o done p span s b Acting log later r.goes r_later.goes dev more [] v e
      (subst (λ (l : List (Visit × Verdict)). Contains l e) (found-alike log before s n power r.is r.up_to slot line tear r_later.up_to untorn empty none v.here) among) accepts)
      (exact-still o done p span s b log later r.goes v.own (line ∷ []) refl (tear-stays log before s (In (suc n)) power r.is r.up_to slot false line tear r_later.up_to untorn)
      (tear-uses o p.log done s power log (In (suc n)) r.is r.up_to slot false line tear r_later.up_to untorn) (found-alike log before s n power r.is r.up_to slot line tear r_later.up_to untorn empty none v.here) v.exact_now);
}
