-- What every image shows of the events of a run with cards, from second to second.
use Rattle.std.proofs.Common.{◌≡◌, ℕ, Bool, true, cond, List, [], ◌∷◌, ◌++◌, take, Contains, refl, ap, sym, subst, ◌∙◌, append-nil}
use Rattle.std.specs.Prelude.{◌==◌}
use Rattle.trace_model.specs.declared.Card.{Card}
use Rattle.trace_model.specs.Trace.{TraceSecond}
use Rattle.tach_media.specs.Medium.{State}
use Rattle.log_model.specs.Log.{RunLog}
use Rattle.log_model.specs.Course.{Visit, went}
use Rattle.run_unit_course.specs.Followed.{UnitPower}
use Rattle.note_model.specs.Done.{has_failed_in}
use Rattle.event_model.specs.declared.kinds.TheConstants.{DRIVING_WITHOUT_CARD, OVER_SPEEDING, POWER_INTERRUPTION, CARD_FAULT}
use Rattle.event_model.specs.Events.{Event, Seen, Tearing, AreTorn, number_of, seen_of, seen_spans, events_of}
use Rattle.unit_events.specs.Shown.{all_kinds}
use Rattle.run_events.specs.Shown.{by_kind, none, is_sure_by, none_sure, all_sure, ShowsEvents, AreTheFirst, HasUnsureMore, SaysNothing}
use Rattle.run_events.specs.Seconds.{span_before, bares_by, overs_by, gap_before, gap_by, faults_by, found_by, second_events, IsBehind, seen_next}
use Rattle.run_events.specs.Gaps.{HasGaps, TellsMore}
use Rattle.run_events.specs.Choice.{chosen, told_at, AgreeIn, AreEarlier, IsTornIn}
use Rattle.run_events.specs.Running.{HasEvents}
use Rattle.run_events.proofs.Unsure.{unsure-all}
use Rattle.run_events.proofs.Shows.{shown-as, shown-sure, shown-left, nothing-more, noted-then}
use Rattle.run_events.proofs.Growing.{seen-more}
use Rattle.run_events.proofs.Later.{told-number, seen-same}
use Rattle.run_events.proofs.Sure.{second-in}
use Rattle.run_events.proofs.Leading.{lines-lead, second-leads}
use Rattle.run_events.proofs.Gaps.{events-lead}
use Rattle.run_events.proofs.Choosing.{flat-same, faults-same, gap-same, choices-same, all-agree, here-agree, torn-more}

-- WHAT A SECOND BRINGS, by a choice that is the same there
second-choice : (t u : Tearing) (sessions others : ℕ → Visit → ℕ) (x : Seen) → AgreeIn t u sessions others (number_of x) → (kind limit : ℕ) (log : RunLog) (spans : List (List Seen)) →
    second_events kind limit others u log spans x ≡ second_events kind limit sessions t log spans x
second-choice t u sessions others x agree kind limit log spans =
    kinds (kind == DRIVING_WITHOUT_CARD) (kind == OVER_SPEEDING) (kind == POWER_INTERRUPTION) (kind == CARD_FAULT)
    (cond x.told.lit (bares_by (span_before spans x) (x ∷ [])) []) (cond x.told.lit (overs_by limit (span_before spans x) (x ∷ [])) [])
    (gap_by t log spans x) (faults_by t log x) (found_by kind sessions t x) (gap_by u log spans x) (faults_by u log x) (found_by kind others u x)
    (ap (λ (es : List Event). cond x.told.lit (cond x.told.starts es []) []) (before spans)) (faults-same t u sessions others x agree log) (flat-same t u sessions others x agree kind x.told.course.found)
  where
    before : (sp : List (List Seen)) → gap_before u log sp x ≡ gap_before t log sp x
    before [] = refl
    before (span ∷ []) = gap-same t u sessions others x agree log span []
    before (span ∷ next ∷ sp) = before (next ∷ sp)

    kinds : (a b c d : Bool) (p q r v w r' v' w' : List Event) → r' ≡ r → v' ≡ v → w' ≡ w → cond a p (cond b q (cond c r' (cond d v' w'))) ≡ cond a p (cond b q (cond c r (cond d v w)))
    kinds a b c d p q r v w r' v' w' er ev ew = λ i. cond a p (cond b q (cond c (er i) (cond d (ev i) (ew i))))

module _ (number : Card → List ℕ) (start : List ℕ) (limit : ℕ) where
  -- LINES ALONE, as what was kept is found
  pub lines-shown : (log later : RunLog) (unfound : ℕ) (supply : UnitPower) (done : List TraceSecond) (t : Tearing) (sessions : ℕ → Visit → ℕ) {U V : State} → HasEvents number start limit log done U t sessions →
      HasGaps log unfound supply done → TellsMore log (take unfound log.breaks) later done → ((c : List ℕ) → V.may_leave c → (x : List ℕ) × U.may_leave x × SaysNothing x c) → HasEvents number start limit later done V t sessions
  lines-shown log later unfound supply done t sessions {U} {V} h g m each = record {
    torn = subst (AreTorn t) (sym (seen-same log later done m.same)) h.torn;
    noted = noted-then number start log later (λ kind. events_of kind limit sessions t log done) none (λ kind. events_of kind limit sessions t later done) {U = U} {V = V} h.noted m.stay
        (λ kind there. subst (λ (es : List Event). HasUnsureMore (is_sure_by later) es (events_of kind limit sessions t later done)) (sym (append-nil (events_of kind limit sessions t log done)))
        (lines-lead log later done m.same t (events-lead t log later unfound supply done g m) kind limit sessions))
        (λ c left. let at = each c left in (at.0, at.1, nothing-more number (is_sure_by later) at.0 c at.2));
  }

  -- ONE SECOND MORE
  module _ (log later : RunLog) (unfound : ℕ) (supply : UnitPower) (done : List TraceSecond) (s : TraceSecond) (t here : Tearing) (sessions own : ℕ → Visit → ℕ) {U : State} (h : HasEvents number start limit log done U t sessions)
      (g : HasGaps log unfound supply done) (m : TellsMore log (take unfound log.breaks) later done) (early : AreEarlier s.number (seen_of log done)) (fits : IsTornIn here (seen_next later done s)) where
    abbrev x : Seen
    x = seen_next later done s

    abbrev t' : Tearing
    t' = chosen s.number here t

    abbrev sessions' : ℕ → Visit → ℕ
    sessions' = told_at s.number own sessions

    abbrev brought : ℕ → List Event
    brought kind = second_events kind limit own here later (seen_spans (seen_of later done)) x

    abbrev now : ℕ → List Event
    now kind = events_of kind limit sessions' t' later (done ++ s ∷ [])

    number-is : number_of x ≡ s.number
    number-is = told-number later (went later done).before s

    old-same : (kind : ℕ) → events_of kind limit sessions' t' log done ≡ events_of kind limit sessions t log done
    old-same kind = choices-same t t' sessions sessions' kind limit log done (all-agree s.number here t own sessions (seen_of log done) early)

    new-same : (kind : ℕ) → second_events kind limit sessions' t' later (seen_spans (seen_of later done)) x ≡ brought kind
    new-same kind = second-choice here t' own sessions' x (here-agree s.number here t own sessions (number_of x) number-is) kind limit later (seen_spans (seen_of later done))

    torn-now : AreTorn t' (seen_of later (done ++ s ∷ []))
    torn-now =
        subst (AreTorn t') (sym (seen-more later done s ∙ ap (λ (xs : List Seen). xs ++ x ∷ []) (seen-same log later done m.same)))
        (torn-more s.number here t (seen_of log done) x h.torn early number-is fits)

    leads : (kind : ℕ) → Contains all_kinds kind → HasUnsureMore (is_sure_by later) (events_of kind limit sessions t log done ++ brought kind) (now kind)
    leads kind there =
        subst (λ (es : List Event). HasUnsureMore (is_sure_by later) (es ++ brought kind) (now kind)) (old-same kind)
        (subst (λ (es : List Event). HasUnsureMore (is_sure_by later) (events_of kind limit sessions' t' log done ++ es) (now kind)) (new-same kind)
        (second-leads log later done m.same t' (events-lead t' log later unfound supply done g m) s kind limit sessions'))

    -- what it brings is shown
    brought-shown : {V : State} → ((c : List ℕ) → V.may_leave c → (y : List ℕ) × U.may_leave y × ShowsEvents number (is_sure_by later) y brought c) → HasEvents number start limit later (done ++ s ∷ []) V t' sessions'
    brought-shown {V} each = record {
      torn = torn-now;
      noted = noted-then number start log later (λ kind. events_of kind limit sessions t log done) brought now {U = U} {V = V} h.noted m.stay leads each;
    }

    -- all that it brings was noted
    pub second-shown : {V : State} (more : List Event) → ((kind : ℕ) → Contains all_kinds kind → by_kind more kind ≡ brought kind) →
        ((c : List ℕ) → V.may_leave c → (y : List ℕ) × U.may_leave y × ShowsEvents number all_sure y (by_kind more) c) → HasEvents number start limit later (done ++ s ∷ []) V t' sessions'
    second-shown {V} more are each = brought-shown {V = V} (λ c left.
        let at = each c left in
        (at.0, at.1, shown-as number (is_sure_by later) (by_kind more) brought at.0 c are (shown-sure number (is_sure_by later) (by_kind more) at.0 c at.2)))

    -- OR A CALL FAILED in it, and has left the first of what it brings
    pub failed-shown : has_failed_in later s.number ≡ true → IsBehind (seen_spans (seen_of later done)) x → {V : State} (some : ℕ → List Event) → AreTheFirst some brought →
        ((c : List ℕ) → V.may_leave c → (y : List ℕ) × U.may_leave y × ShowsEvents number none_sure y some c) → HasEvents number start limit later (done ++ s ∷ []) V t' sessions'
    failed-shown failed behind {V} some are each = brought-shown {V = V} (λ c left.
        let at = each c left in (
          at.0,
          at.1,
          shown-left number (is_sure_by later) some brought at.0 c are
              (λ kind there. unsure-all later (number_of x) (brought kind) (ap (has_failed_in later) number-is ∙ failed) (second-in kind limit own here later (seen_spans (seen_of later done)) x behind)) at.2,
        ))
