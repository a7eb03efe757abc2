-- From the events of some seconds to those of one more, by a log that tells more.
use Rattle.std.proofs.Common.{◌≡◌, ℕ, Bool, true, false, List, [], ◌∷◌, ◌++◌, All, refl, sym, subst}
use Rattle.std.specs.Prelude.{◌==◌}
use Rattle.std.proofs.lemmas.Bool.{eqb-true}
use Rattle.trace_model.specs.Trace.{TraceSecond}
use Rattle.log_model.specs.Log.{RunLog}
use Rattle.log_model.specs.Same.{SameAt}
use Rattle.log_model.specs.Course.{Visit}
use Rattle.event_model.specs.declared.kinds.TheConstants.{POWER_INTERRUPTION}
use Rattle.event_model.specs.Events.{Event, Tearing, seen_of, seen_spans, gap_events, events_of}
use Rattle.run_events.specs.Shown.{is_sure_by, HasUnsureMore}
use Rattle.run_events.specs.Seconds.{second_events, seen_next}
use Rattle.run_events.proofs.Unsure.{unsure-same, unsure-front}
use Rattle.run_events.proofs.Growing.{second-brings}
use Rattle.run_events.proofs.Later.{events-same}

module _ (log later : RunLog) (done : List TraceSecond) (same : All (λ s. SameAt log later s.number) done) (t : Tearing) (gaps : HasUnsureMore (is_sure_by later) (gap_events t log done) (gap_events t later done)) where
  -- LINES that come later
  pub lines-lead : (kind limit : ℕ) (sessions : ℕ → Visit → ℕ) → HasUnsureMore (is_sure_by later) (events_of kind limit sessions t log done) (events_of kind limit sessions t later done)
  lines-lead kind limit sessions = by (kind == POWER_INTERRUPTION) refl
    where
      by : (b : Bool) → (kind == POWER_INTERRUPTION) ≡ b → HasUnsureMore (is_sure_by later) (events_of kind limit sessions t log done) (events_of kind limit sessions t later done)
      by true is =
          subst (λ (n : ℕ). HasUnsureMore (is_sure_by later) (events_of n limit sessions t log done) (events_of n limit sessions t later done)) (sym (eqb-true kind POWER_INTERRUPTION is)) gaps
      by false is = unsure-same (is_sure_by later) (events_of kind limit sessions t log done) (events_of kind limit sessions t later done) (events-same log later done same kind limit sessions t is)

  -- ONE SECOND MORE
  pub second-leads : (s : TraceSecond) (kind limit : ℕ) (sessions : ℕ → Visit → ℕ) →
      HasUnsureMore (is_sure_by later) (events_of kind limit sessions t log done ++ second_events kind limit sessions t later (seen_spans (seen_of later done)) (seen_next later done s)) (events_of kind limit sessions t later (done ++ s ∷ []))
  second-leads s kind limit sessions =
      let brought : List Event = second_events kind limit sessions t later (seen_spans (seen_of later done)) (seen_next later done s) in
      subst (λ (es : List Event). HasUnsureMore (is_sure_by later) (events_of kind limit sessions t log done ++ brought) es) (sym (second-brings kind limit sessions t later done s))
      (unsure-front (is_sure_by later) (events_of kind limit sessions t later done) (events_of kind limit sessions t log done) brought (lines-lead kind limit sessions))
