-- Lines of a second with power, told by a call: earlier seconds go as they did, and a cut may be told behind them.
use Rattle.std.proofs.Common.{◌≡◌, ◌∙◌, inl, inr, ℕ, suc, ◌≤◌, true, Option, Some, None, List, [], ◌∷◌, ◌++◌, length, take, refl, ap, sym, subst, arith, append-nil, append_assoc, length-append}
use Rattle.std.specs.Prelude.{nat_lt}
use Rattle.std.specs.List.{AllByRecursion}
use Rattle.std.proofs.Math.Seq.{take-append_seam}
use Rattle.std.proofs.lemmas.Bool.Decides.{nat_tests}
use Rattle.trace_model.specs.declared.Action.{Action}
use Rattle.trace_model.specs.Trace.{TraceSecond}
use Rattle.minute_rules.specs.minute_model.declared.Minute.{Minute}
use Rattle.log_model.specs.declared.lines.Break.{Break}
use Rattle.log_model.specs.declared.lines.Find.{Find}
use Rattle.log_model.specs.Causes.{second_of}
use Rattle.log_model.specs.Log.{RunLog, Phase, In, cut_in}
use Rattle.log_model.specs.Course.{Before, Visit, begins, all_acted}
use Rattle.device_calls.specs.note_model.Done.{course_powered}
use Rattle.device_calls.specs.safety_model.Safe.{Devices}
use Rattle.device_calls.specs.run_unit_course.Lines.{cut_at}
use Rattle.run_acts.specs.run_course.Moments.{SameUpTo}
use Rattle.run_acts.specs.run_course.Seconds.{GoesOnBy}
use Rattle.run_acts.proofs.run_course.Moments.{later-lines}
use Rattle.run_acts.proofs.run_course.Steps.{went-same_}
use Rattle.run_acts.specs.run_course.Reached.{course_at}
use Rattle.run_acts.proofs.run_course.Reached.{at-by}
use Rattle.run_minutes.specs.run_promise.Origin.{Origin, rule_of, start_at, first_of}
use Rattle.run_acts.specs.run_rings.Notes.{TellSameTo, course_behind}
use Rattle.run_acts.specs.run_note_record.RingsSoFar.{GoesBehind, HasMoreBreaks}
use Rattle.run_acts.specs.run_note_record.Steps.{GoesOnTo, IsCutIn}
use Rattle.run_acts.proofs.run_note_record.Lines.{same-before}
use Rattle.run_acts.specs.run_record.Recorded.{Values}
use Rattle.run_acts.specs.run_record.Within.{RecordInSecond}
use Rattle.run_acts.specs.RunRinged.{with_cut}
use Rattle.run_acts.proofs.RingedSecond.{cut-is, cut-torn, cut-found, cut-failed, power-here}
use Rattle.recorder_with_cards.specs.JudgedRings.{TellsHere}

-- ---- lines of one second

all-both : {X : Type 0} (P : X → Type 0) (xs ys : List X) → AllByRecursion P xs → AllByRecursion P ys → AllByRecursion P (xs ++ ys)
all-both P [] ys one two = two
all-both P (x ∷ xs) ys one two = (one.0, all-both P xs ys one.1 two)

pub here-then : (a b c : RunLog) (u : ℕ) → TellsHere a b u → TellsHere b c u → TellsHere a c u
here-then a b c u first next = record {
  breaks = (
    first.breaks.0 ++ next.breaks.0,
    next.breaks.1 ∙ ap (λ (l : List Break). l ++ next.breaks.0) first.breaks.1 ∙ append_assoc a.breaks first.breaks.0 next.breaks.0,
    all-both (λ (x : Break). second_of x ≡ u) first.breaks.0 next.breaks.0 first.breaks.2 next.breaks.2,
  );
  finds = (
    first.finds.0 ++ next.finds.0,
    next.finds.1 ∙ ap (λ (l : List Find). l ++ next.finds.0) first.finds.1 ∙ append_assoc a.finds first.finds.0 next.finds.0,
    all-both (λ (x : Find). x.second ≡ u) first.finds.0 next.finds.0 first.finds.2 next.finds.2,
  );
}

pub here-more : (a b : RunLog) (u : ℕ) → TellsHere a b u → HasMoreBreaks a b
here-more a b u h = (h.breaks.0, h.breaks.1)

pub here-cut : (log : RunLog) (s : TraceSecond) (front : List Action) → TellsHere log (with_cut log s front) s.number
here-cut log s front = record { breaks = (cut_at s.number true (length front) ∷ [], refl, (refl, tt)); finds = ([], sym (append-nil log.finds), tt) }

-- of lines that are told in a second: what earlier seconds note is the same
module _ (o : Origin) (done : List TraceSecond) (s : TraceSecond) (at : Phase) (waits : List Visit) (speed : Option ℕ) (rest : List Minute) (v : Values) (d : Devices) (w : RecordInSecond o done s at waits speed rest v d) (later : RunLog) (h : TellsHere v.log later s.number) where
  pub goes-by : GoesOnBy w.b.run later s
  goes-by = record {
    number = w.moment.number;
    given = w.moment.given;
    breaks = (
      w.moment.breaks ++ h.breaks.0,
      h.breaks.1 ∙ ap (λ (l : List Break). l ++ h.breaks.0) w.moment.breaks_are ∙ append_assoc w.b.run.log.breaks w.moment.breaks h.breaks.0,
      all-both (λ (b : Break). second_of b ≡ w.b.run.next) w.moment.breaks h.breaks.0 w.moment.breaks_here (subst (λ (u : ℕ). AllByRecursion (λ (b : Break). second_of b ≡ u) h.breaks.0) w.moment.number h.breaks.2),
    );
    finds = (
      w.moment.finds ++ h.finds.0,
      h.finds.1 ∙ ap (λ (l : List Find). l ++ h.finds.0) w.moment.finds_are ∙ append_assoc w.b.run.log.finds w.moment.finds h.finds.0,
      all-both (λ (f : Find). f.second ≡ w.b.run.next) w.moment.finds h.finds.0 w.moment.finds_here (subst (λ (u : ℕ). AllByRecursion (λ (f : Find). f.second ≡ u) h.finds.0) w.moment.number h.finds.2),
    );
  }

  pub goes-behind : GoesBehind w.b.run.log later done
  goes-behind = record {
    same = same-before o done w.b.run w.began.followed s later goes-by;
    went_is = went-same_ (rule_of o) (start_at o) o.from (first_of o) done w.b.run w.began.followed.order w.began.followed.next w.began.followed.unfound s later goes-by;
  }

-- ---- an action of it

begins-there : (o : Option ℕ) (k : ℕ) → o ≡ None → begins o k ≡ true
begins-there o k none = ap (λ (c : Option ℕ). begins c k) none

module _ (log later : RunLog) (s : TraceSecond) (front rest : List Action) (a : Action) (are : s.actions ≡ front ++ a ∷ rest) (uncut : cut_in log s.number ≡ None) (more : HasMoreBreaks log later) (same : TellSameTo log later s.number (length front)) (uncut_later : cut_in later s.number ≡ None) where
  pub goes-to : GoesOnTo log later s front
  goes-to = record { lines = more; same = same; begun = begins-there (cut_in later s.number) (length front) uncut_later }

  few : length front ≤ length s.actions
  few = let all = ap (λ (l : List Action). length l) are ∙ length-append front (a ∷ rest) in omega (arith, all)

  behind-by : (other : RunLog) (before : Before) → SameUpTo log other s.number (length front) → course_behind other before s front ≡ course_at log before s (In (length front))
  behind-by other before same_up =
      ap (λ (as_ : List Action). all_acted other s 0 as_ (course_powered other before s)) (sym (ap (take (length front)) are ∙ take-append_seam front (a ∷ rest)))
      ∙ later-lines log other before s (length front) same_up
      ∙ at-by log before s uncut (length front) few

  -- the course behind the actions before it is that of their moment
  pub course-then : (before : Before) → course_behind later before s front ≡ course_at log before s (In (length front))
  course-then before = behind-by later before (record { none = uncut; behind = inl uncut_later; torn = same.torn; found = same.found })

  -- ---- and where a cut is told behind it

  longer : length (front ++ a ∷ []) ≡ suc (length front)
  longer = let n = length-append front (a ∷ []) in omega (arith, n)

  cut-here : cut_in (with_cut later s (front ++ a ∷ [])) s.number ≡ Some (suc (length front))
  cut-here = cut-is later s.number (length (front ++ a ∷ [])) uncut_later ∙ ap (λ (n : ℕ). Some n) longer

  begun-cut : (k : ℕ) → k ≤ length front → begins (cut_in (with_cut later s (front ++ a ∷ [])) s.number) k ≡ true
  begun-cut k le = ap (λ (q : Option ℕ). begins q k) cut-here ∙ (let lt : nat_lt k (suc (length front)) ≡ true = grind (arith, nat_tests) in lt)

  same-cut : TellSameTo log (with_cut later s (front ++ a ∷ [])) s.number (length front)
  same-cut = record {
    begun = λ k lt. begins-there (cut_in log s.number) k uncut;
    begun_later = λ k lt. begun-cut k (omega (arith, lt));
    torn = λ k slot le. cut-torn later s.number (length (front ++ a ∷ [])) uncut_later (In k) slot ∙ same.torn k slot le;
    found = λ k slot le. cut-found later s.number (length (front ++ a ∷ [])) uncut_later (In k) slot ∙ same.found k slot le;
  }

  pub course-cut : (before : Before) → course_behind (with_cut later s (front ++ a ∷ [])) before s front ≡ course_at log before s (In (length front))
  course-cut before = behind-by (with_cut later s (front ++ a ∷ [])) before (record { none = uncut; behind = inr (suc (length front), cut-here, omega arith); torn = same-cut.torn; found = same-cut.found })

  -- of a second that is carried, where these lines are of it
  module _ (o : Origin) (done : List TraceSecond) (at : Phase) (waits : List Visit) (speed : Option ℕ) (others : List Minute) (v : Values) (d : Devices) (w : RecordInSecond o done s at waits speed others v d) (here : TellsHere v.log later s.number) where
    pub is-cut : IsCutIn w.b.run.log log (with_cut later s (front ++ a ∷ [])) done s front a rest
    is-cut = record {
      goes = record {
        lines = (more.0 ++ cut_at s.number true (length (front ++ a ∷ [])) ∷ [], ap (λ (l : List Break). l ++ cut_at s.number true (length (front ++ a ∷ [])) ∷ []) more.1 ∙ append_assoc log.breaks more.0 (cut_at s.number true (length (front ++ a ∷ [])) ∷ []));
        same = same-cut;
        begun = begun-cut (length front) (omega arith);
      };
      are = are;
      cut_is = cut-here;
      failed = cut-failed later s.number (length (front ++ a ∷ [])) uncut_later;
      behind = goes-behind o done s at waits speed others v d w (with_cut later s (front ++ a ∷ [])) (here-then v.log later (with_cut later s (front ++ a ∷ [])) s.number here (here-cut later s (front ++ a ∷ [])));
      power = power-here o done s at waits speed others v d w;
    }
