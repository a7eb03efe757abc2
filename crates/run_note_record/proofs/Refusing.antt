-- A refusal brings nothing.
use Rattle.std.proofs.Common.{◌≡◌, ℕ, cond, List, [], ◌∷◌, ◌++◌, refl, ap, sym, ◌∙◌}
use Rattle.std.specs.Prelude.{◌==◌}
use Rattle.run_events.specs.activity_codec.declared.values.Slot.TheVariants.{Driver}
use Rattle.run_devices.specs.trace_model.Trace.{TraceSecond}
use Rattle.run_devices.specs.log_model.declared.lines.Refused.{Refused}
use Rattle.run_devices.specs.log_model.Log.{RunLog, Keeping, kept_after}
use Rattle.run_devices.specs.log_model.Same.{SameAt}
use Rattle.run_devices.specs.log_model.Course.{Visit, Before, went}
use Rattle.run_devices.specs.event_model.declared.kinds.TheConstants.{DRIVING_WITHOUT_CARD, OVER_SPEEDING, POWER_INTERRUPTION, CARD_FAULT}
use Rattle.run_devices.specs.event_model.Events.{Event, Seen, Tearing, number_of, seen_by, seen_of, seen_spans}
use Rattle.run_devices.specs.run_course.Moments.{and_refused}
use Rattle.run_devices.proofs.run_course.Lookups.{refusal-more}
use Rattle.run_devices.specs.run_course.Reached.{Reaches}
use Rattle.run_devices.specs.run_course.Moment.{goes_on}
use Rattle.run_devices.proofs.run_course.Reached.{lines-reached}
use Rattle.run_events.specs.Seconds.{span_before, bares_by, overs_by, gap_by, found_by, second_events}
use Rattle.run_events.proofs.Later.{seen-by-same, second-faults}
use Rattle.run_note_record.specs.Evented.{limit_in}
use Rattle.run_note_record.specs.Bringing.{ARefusalBringsNothing}
use Rattle.run_note_record.proofs.Bringing.{brought-as, before-as}

module _ (log : RunLog) (r : Refused) where
  abbrev pub later : RunLog
  later = and_refused log r

  pub same-at : (u : ℕ) → SameAt log later u
  same-at u = let h = refusal-more log (log.refused ++ r ∷ []) u in record { cut = h.cut; torn = h.torn; found = h.found }

  kept-same : (u : ℕ) → kept_after later u ≡ kept_after log u
  kept-same u = (refusal-more log (log.refused ++ r ∷ []) u).kept

  gap-same : (t : Tearing) (spans : List (List Seen)) (x : Seen) → gap_by t later spans x ≡ gap_by t log spans x
  gap-same t spans x = ap (λ (es : List Event). cond x.told.lit (cond x.told.starts es []) []) (before-as t t log later x x kept-same refl (λ slot. refl) spans)

  pub refusal-brings : (kind limit : ℕ) (own : ℕ → Visit → ℕ) (t : Tearing) (spans : List (List Seen)) (before : Before) (s : TraceSecond) →
      second_events kind limit own t later spans (seen_by later before s) ≡ second_events kind limit own t log spans (seen_by log before s)
  refusal-brings kind limit own t spans before s =
      let x : Seen = seen_by log before s in
      ap (second_events kind limit own t later spans) (seen-by-same log later before s (same-at s.number))
      ∙ (λ i.
      cond (kind == DRIVING_WITHOUT_CARD) (cond x.told.lit (bares_by (span_before spans x) (x ∷ [])) [])
      (cond (kind == OVER_SPEEDING) (cond x.told.lit (overs_by limit (span_before spans x) (x ∷ [])) [])
      (cond (kind == POWER_INTERRUPTION) (gap-same t spans x i) (cond (kind == CARD_FAULT) (second-faults log later t x ((same-at (number_of x)).torn Keeping Driver) i) (found_by kind own t x)))))

pub refusal-brought : ARefusalBringsNothing
refusal-brought o done p f s at log waits mid now m r here own kind =
    let reached : Reaches p s at log = record { goes = goes_on m; up_to = m.up_to; is = m.is } in
    let behind : Reaches p s at (and_refused log r) = (lines-reached p s at log reached).2 r in
    brought-as o done p f s (and_refused log r) behind.goes here own kind
    ∙ refusal-brings log r kind (limit_in o) own here (seen_spans (seen_of p.log done)) (went p.log done).before s
    ∙ sym (brought-as o done p f s log (goes_on m) here own kind)
