-- The rings within a second: with power, or where it was cut; behind the actions so far, and what a log tells of them.
use Rattle.std.proofs.Common.{◌≡◌, ◌∙◌, ℕ, suc, ◌≤◌, Bool, true, false, cond, ◌||◌, ◌&&◌, nat_eq, Option, None, is_some, List, [], ◌∷◌, ◌++◌, length, take, refl, ap, sym, subst, arith, append-nil}
use Rattle.std.proofs.Math.Seq.{take-append_seam}
use Rattle.std.proofs.lemmas.Bool.Decides.{nat_tests}
use Rattle.activity_codec.specs.declared.values.Slot.{Slot}
use Rattle.activity_codec.specs.Activity.{same_slot}
use Rattle.trace_model.specs.declared.Action.{Action}
use Rattle.trace_model.specs.Trace.{TraceSecond}
use Rattle.log_model.specs.declared.lines.Break.{Break}
use Rattle.log_model.specs.declared.lines.Break.TheVariants.{Tear}
use Rattle.log_model.specs.declared.lines.Refused.{Refused}
use Rattle.log_model.specs.Log.{RunLog, In, cut_in, is_torn_in, found_in, tears_here}
use Rattle.log_model.specs.Course.{Before, begins, all_acted}
use Rattle.device_calls.specs.note_model.Done.{course_powered}
use Rattle.device_calls.specs.safety_model.Safe.{Devices}
use Rattle.run_acts.specs.run_course.Moments.{and_break}
use Rattle.run_acts.proofs.run_course.Lookups.{break-more, refusal-more}
use Rattle.run_acts.specs.run_course.Reached.{course_at}
use Rattle.run_acts.proofs.run_course.Reached.{at-by}
use Rattle.run_outcome.specs.declared.outcome.Outcome.{Outcome}
use Rattle.run_minutes.specs.run_promise.Origin.{Origin}
use Rattle.run_acts.specs.run_rings.Notes.{TellSameTo, course_behind}
use Rattle.run_acts.specs.run_note_record.Steps.{GoesOnTo}
use Rattle.run_acts.specs.declared.run.Run.{Run}
use Rattle.run_acts.specs.Power.{is_lit}
use Rattle.run_acts.specs.Recording.{log_of}
use Rattle.run_acts.specs.RunRinged.{RingsWithin, WithinRinged, CutRinged, InSecondRingedBy, InSecondRinged}

-- ---- with power, or cut

module _ (o : Origin) (done : List TraceSecond) (s : TraceSecond) (run : Run) (out : Outcome) (d : Devices) where
  pub ringed-cut : (n : ℕ) → is_lit run.power ≡ false → InSecondRinged o done s n run out d → CutRinged o done s run out d
  ringed-cut n dark h = subst (λ (b : Bool). InSecondRingedBy b o done s n run out d) dark h

  pub in-ringed_cut : (n : ℕ) → CutRinged o done s run out d → InSecondRinged o done s n run out d
  in-ringed_cut n h = subst (λ (b : Bool). InSecondRingedBy b o done s n run out d) (sym (ap is_lit h.evented.cut.lost)) h

  pub ringed-lit : (n : ℕ) → is_lit run.power ≡ true → InSecondRinged o done s n run out d → WithinRinged o done s n run out d
  ringed-lit n lit h = subst (λ (b : Bool). InSecondRingedBy b o done s n run out d) lit h

  pub in-ringed_lit : (n : ℕ) → WithinRinged o done s n run out d → InSecondRinged o done s n run out d
  in-ringed_lit n h = subst (λ (b : Bool). InSecondRingedBy b o done s n run out d) (sym (ap is_lit h.evented.within.lit)) h

  -- where power was cut, further actions are passed over
  pub ringed-over : (n m : ℕ) → is_lit run.power ≡ false → InSecondRinged o done s n run out d → InSecondRinged o done s m run out d
  ringed-over n m dark h = in-ringed_cut m (ringed-cut n dark h)

-- ---- the actions so far

-- the first of some actions are these
pub same-front : (all xs ys as_ bs : List Action) → all ≡ xs ++ as_ → all ≡ ys ++ bs → length xs ≡ length ys → xs ≡ ys
same-front all xs ys as_ bs one two long =
    sym (take-append_seam xs as_) ∙ ap (take (length xs)) (sym one) ∙ ap (λ (n : ℕ). take n all) long ∙ ap (take (length ys)) two ∙ take-append_seam ys bs

pub at-front : (o : Origin) (done : List TraceSecond) (s : TraceSecond) (run : Run) (out : Outcome) (d : Devices) (front rest : List Action) → s.actions ≡ front ++ rest → (h : WithinRinged o done s (length front) run out d) →
    RingsWithin o done s h.evented.within.within.b.run.log front run (log_of out) h.spans h.told d
at-front o done s run out d front rest are h =
    subst (λ (as_ : List Action). RingsWithin o done s h.evented.within.within.b.run.log as_ run (log_of out) h.spans h.told d) (same-front s.actions h.front front h.rest rest h.are are h.number) h.rings

-- the course behind them is that of their moment
pub behind-at : (log : RunLog) (before : Before) (s : TraceSecond) (front rest : List Action) → s.actions ≡ front ++ rest → cut_in log s.number ≡ None → length front ≤ length s.actions → course_behind log before s front ≡ course_at log before s (In (length front))
behind-at log before s front rest are uncut few =
    ap (λ (as_ : List Action). all_acted log s 0 as_ (course_powered log before s)) (sym (ap (take (length front)) are ∙ take-append_seam front rest)) ∙ at-by log before s uncut (length front) few

-- ---- what a log tells of them

-- no cut, and of their moments the same
tells-same : (log later : RunLog) (u n : ℕ) → cut_in log u ≡ None → cut_in later u ≡ None → ((k : ℕ) (slot : Slot) → k ≤ n → is_torn_in later u (In k) slot ≡ is_torn_in log u (In k) slot) →
    ((k : ℕ) (slot : Slot) → k ≤ n → found_in later u (In k) slot ≡ found_in log u (In k) slot) → TellSameTo log later u n
tells-same log later u n uncut uncut_later torn found = record {
  begun = λ k lt. ap (λ (c : Option ℕ). begins c k) uncut;
  begun_later = λ k lt. ap (λ (c : Option ℕ). begins c k) uncut_later;
  torn = torn;
  found = found;
}

-- the next action begins, of which nothing is told;
pub goes-still : (log : RunLog) (s : TraceSecond) (front : List Action) → cut_in log s.number ≡ None → GoesOnTo log log s front
goes-still log s front uncut = record {
  lines = ([], sym (append-nil log.breaks));
  same = tells-same log log s.number (length front) uncut uncut (λ k slot le. refl) (λ k slot le. refl);
  begun = ap (λ (c : Option ℕ). begins c (length front)) uncut;
}

-- or it is refused;
pub goes-refused : (log : RunLog) (refused : List Refused) (s : TraceSecond) (front : List Action) → cut_in log s.number ≡ None → GoesOnTo log (record log { refused = refused }) s front
goes-refused log refused s front uncut =
    let seen = refusal-more log refused s.number in
    record {
      lines = ([], sym (append-nil log.breaks));
      same = tells-same log (record log { refused = refused }) s.number (length front) uncut (seen.cut ∙ uncut) (λ k slot le. seen.torn (In k) slot) (λ k slot le. seen.found (In k) slot);
      begun = ap (λ (c : Option ℕ). begins c (length front)) (seen.cut ∙ uncut);
    }

-- or a card is torn out in it.
other-moment : (n k : ℕ) → k ≤ n → nat_eq (suc n) k ≡ false
other-moment n k le = grind (arith, nat_tests)

neither : (a b c : Bool) → b ≡ false → (a && b && c) ≡ false
neither true true c is = absurd (cc)
neither true false c is = refl
neither false b c is = refl

or-nothing : (a b : Bool) → b ≡ false → (a || b) ≡ a
or-nothing true b is = refl
or-nothing false b is = is

pub goes-torn : (log : RunLog) (s : TraceSecond) (front : List Action) (slot : Slot) (failed : Bool) → cut_in log s.number ≡ None → GoesOnTo log (and_break log (Tear s.number slot failed (suc (length front)) false)) s front
goes-torn log s front slot failed uncut =
    let b : Break = Tear s.number slot failed (suc (length front)) false in
    let seen = break-more log b s.number in
    let uncut_later : cut_in (and_break log b) s.number ≡ None = seen.cut ∙ ap (λ (c : Option ℕ). cond (is_some c) c None) uncut in
    record {
      lines = (b ∷ [], refl);
      same = tells-same log (and_break log b) s.number (length front) uncut uncut_later
          (λ k at le. seen.torn (In k) at ∙ or-nothing (is_torn_in log s.number (In k) at) (tears_here s.number (In k) at b) (neither (nat_eq s.number s.number) (nat_eq (suc (length front)) k) (same_slot slot at) (other-moment (length front) k le)))
          (λ k at le. seen.found (In k) at);
      begun = ap (λ (c : Option ℕ). begins c (length front)) uncut_later;
    }
