-- What stood on the cards before the first call that failed on each, or on the unit, as the seconds of a run go: within
-- one, and as they end.
use Rattle.std.proofs.Common.{◌≡◌, ◌∙◌, ◌⊎◌, inl, ⊎_elim, ℕ, suc, ◌+◌, ◌-◌, ◌/◌, ◌%◌, ◌<◌, ◌≤◌, Bool, true, false, None, List, [], ◌∷◌, ◌++◌, All, Contains, filter, length, refl, ap, sym, subst, arith, append_assoc, append-nil}
use Rattle.std.specs.List.{AllByRecursion}
use Rattle.trace_model.specs.declared.Card.{Card}
use Rattle.trace_model.specs.Trace.{TraceSecond, driven}
use Rattle.log_model.specs.declared.lines.Break.{Break}
use Rattle.log_model.specs.Causes.{second_of, cuts, cards_torn, device_of}
use Rattle.log_model.specs.Log.{RunLog, Phase, In}
use Rattle.log_model.specs.Same.{SameAt}
use Rattle.trace_model.specs.declared.Action.{Action}
use Rattle.device_calls.specs.run_unit_course.Lines.{cut_at}
use Rattle.device_calls.specs.safety_model.Safe.{Devices, breakdowns_of}
use Rattle.run_acts.specs.run_course.Followed.{Progress, HadActions, BookFollowsRun}
use Rattle.run_acts.specs.run_course.Moments.{and_break}
use Rattle.device_calls.specs.run_unit_course.Followed.{UnitPower, Lit as IsLit, Lost as IsLost}
use Rattle.log_model.specs.Course.{ToldSecond, went}
use Rattle.log_model.specs.Slots.{same_card}
use Rattle.run_acts.proofs.run_course.Caused.{breaks-next}
use Rattle.run_acts.proofs.run_course.Logs.{went-refused}
use Rattle.run_outcome.specs.declared.outcome.Outcome.{Outcome}
use Rattle.run_minutes.specs.run_promise.Origin.{Origin, rule_of, start_at, first_of}
use Rattle.run_acts.specs.run_record.Recorded.{Values, RecordBetweenSeconds, progress}
use Rattle.run_acts.specs.run_record.Within.{Beginning, passed_values}
use Rattle.run_minutes.proofs.run_promise.Beside.{before-next}
use Rattle.run_minutes.specs.run_promise.Ends.{recording_by}
use Rattle.run_acts.specs.declared.run.Run.{Run}
use Rattle.run_acts.specs.Power.{is_lit}
use Rattle.run_acts.specs.Recording.{log_of, values_of, RunWithin, RunGoesOn, RunCut, RunRecorded, InSecond, InSecondBy}
use Rattle.run_acts.specs.RunRinged.{with_cut}
use Rattle.run_acts.specs.Turning.{IsTurnOf}
use Rattle.run_acts.specs.Stood.{LetStand, TellsOn, HaveStood, IsCalm, HasFailedOnBy, HaveStoodBehind}
use Rattle.run_acts.proofs.CardEnds.{IsLater}
use Rattle.run_acts.proofs.CardTurn.{lines-later}
use Rattle.run_acts.proofs.Stood.{tells-beside, tells-self, stood-on, decides, stood-ends, behind-on, behind-ends, same-all_front, same-but_last, same-torn, calm-more, failed-still, cut-still, tells-same, lines-early}
use Rattle.recorder_with_cards.specs.Carded.{InSecondCardedBy, InSecondCarded}
use Rattle.recorder_with_cards.proofs.HereDone.{TellsMoreOf}
use Rattle.recorder_with_cards.proofs.OffRings.{same}
use Rattle.recorder_with_cards.proofs.OffCards.{off-cut-torn}
use Rattle.recorder_with_cards.proofs.SecondsRinged.{refused-all}

-- ---- within a second

-- its lines so far
so-far : (o : Origin) (done : List TraceSecond) (s : TraceSecond) (at : Phase) (run : Run) (out : Outcome) (d : Devices) (w : RunWithin o done s at [] [] run out d) → 0 < s.number → IsLater w.within.b.run.log (log_of out) done s.number
so-far o done s at run out d w some = lines-later o done s at [] None [] (values_of run out) d w.within [] (log_of out) (ap (λ (bs : List Break). record (log_of out) { breaks = bs }) (sym (append-nil (log_of out).breaks))) tt some

-- a call is behind, and the second goes on
pub goes-tells : (o : Origin) (done : List TraceSecond) (s : TraceSecond) (at then : Phase) (run mid : Run) (out told : Outcome) (d e : Devices) (w : RunWithin o done s at [] [] run out d) → RunGoesOn o done s then [] mid told e w.within.b → 0 < s.number → TellsMoreOf s.number out.breaks.items told.breaks.items → TellsOn (log_of out) (log_of told) done
goes-tells o done s at then run mid out told d e w g some lines =
    tells-beside w.within.b.run.log (log_of out) (log_of told) done (so-far o done s at run out d w some).behind.same
    (subst (λ (b : Beginning). All (λ (t : TraceSecond). SameAt b.run.log (log_of told) t.number) done) g.began (so-far o done s then mid told e g.goes some).behind.same) lines.0 lines.1

-- or the unit has failed in it
pub cut-tells : (o : Origin) (done : List TraceSecond) (s : TraceSecond) (n : ℕ) (run : Run) (out : Outcome) (d : Devices) (w : RunWithin o done s (In n) [] [] run out d) (told : Outcome) (front : List Action) → TellsMoreOf s.number out.breaks.items told.breaks.items → 0 < s.number →
    IsLater w.within.b.run.log (with_cut (log_of told) s front) done s.number → TellsOn (log_of out) (with_cut (log_of told) s front) done
cut-tells o done s n run out d w told front lines some later =
    let cut : Break = cut_at s.number true (length front) in
    tells-beside w.within.b.run.log (log_of out) (with_cut (log_of told) s front) done (so-far o done s (In n) run out d w some).behind.same later.behind.same
    (lines.0 ++ cut ∷ []) (ap (λ (bs : List Break). bs ++ cut ∷ []) lines.1 ∙ append_assoc (log_of out).breaks lines.0 (cut ∷ []))

-- ---- seconds end

-- each of these is before the next one
told-early : (o : Origin) (done : List TraceSecond) (supply : UnitPower) (v : Values) (d : Devices) (r : RecordBetweenSeconds o done supply v d) (m : ℕ) → ((u : ℕ) → u < v.next → u / 60 ≤ m) → (x : ToldSecond) → Contains (went v.log done).told x → x.second.number / 60 ≤ m
told-early o done supply v d r m early x there = early x.second.number (before-next o done (progress v supply r.book) r.recorded.followed x there)

-- of a card that none has torn out the breakdowns stand
torn-none : (o : Origin) (done : List TraceSecond) (supply : UnitPower) (v : Values) (d : Devices) (r : RecordBetweenSeconds o done supply v d) (c : Card) → filter (same_card c) (cards_torn (went v.log done).told) ≡ [] → breakdowns_of d (device_of c) ≡ o.breakdowns (device_of c)
torn-none o done supply v d r c none = r.recorded.caused.caused.calm_cards c (ap (λ (cs : List Card). length cs) none)

-- power was cut in one
pub cut-ends : (o : Origin) (done : List TraceSecond) (s : TraceSecond) (log : RunLog) (run : Run) (out : Outcome) (d : Devices) → RunCut o done s run out d → s.number ≡ run.next → TellsOn log (log_of out) done → HaveStood o done log d → HaveStoodBehind o (done ++ s ∷ []) (log_of out) d
cut-ends o done s log run out d c number tells h = stood-ends o done s [] log (log_of out) d tells
    (λ card. decides o done s [] (log_of out) d card
    (lines-early (suc run.next) (log_of out).breaks (breaks-next (rule_of o) (start_at o) o.from (first_of o) (done ++ s ∷ []) _ c.recorded.recorded.followed) (s.number / 60) (λ u lt. omega (arith, lt, number)))
    (told-early o (done ++ s ∷ []) IsLost (passed_values s (values_of run out)) d c.recorded (s.number / 60) (λ u lt. let l : u < suc run.next = lt in omega (arith, l, number)))
    (torn-none o (done ++ s ∷ []) IsLost (passed_values s (values_of run out)) d c.recorded card)) h

-- or several of one minute are over
module _ (o : Origin) (done : List TraceSecond) (s : TraceSecond) (n speed begun : ℕ) (old new : Run) (before after : Outcome) (d e : Devices) (number : s.number ≡ old.next) (next : new.next ≡ old.next + n) (minute : old.next % 60 + n ≤ 60) (some : 0 < n) (r : RunRecorded o (done ++ s ∷ driven (n - 1) (s.number + 1) speed []) new after e) where
  early : AllByRecursion (λ (b : Break). second_of b / 60 ≤ s.number / 60) (log_of after).breaks
  early = lines-early new.next (log_of after).breaks (breaks-next (rule_of o) (start_at o) o.from (first_of o) (done ++ s ∷ driven (n - 1) (s.number + 1) speed []) _ r.recorded.recorded.followed) (s.number / 60) (λ u lt. omega (arith, lt, number, next, minute, some))

  decided : (c : Card) → IsCalm o (log_of after) c e ⊎ HasFailedOnBy (recording_by o (done ++ s ∷ driven (n - 1) (s.number + 1) speed []) (log_of after)) c (o.breakdowns (device_of c)) (s ∷ driven (n - 1) (s.number + 1) speed [])
  decided c = decides o done s (driven (n - 1) (s.number + 1) speed []) (log_of after) e c early
      (told-early o (done ++ s ∷ driven (n - 1) (s.number + 1) speed []) r.supply (values_of new after) e r.recorded (s.number / 60) (λ u lt. let l : u < new.next = lt in omega (arith, l, number, next, minute, some)))
      (torn-none o (done ++ s ∷ driven (n - 1) (s.number + 1) speed []) r.supply (values_of new after) e r.recorded c)

  -- a second without power has ended; the others lie in the dark behind it
  dark-ends : after ≡ before → HaveStoodBehind o (done ++ s ∷ []) (log_of before) d → HaveStoodBehind o (done ++ s ∷ driven (n - 1) (s.number + 1) speed []) (log_of after) d
  dark-ends is h =
      subst (λ (ss : List TraceSecond). HaveStoodBehind o ss (log_of after) d) (append_assoc done (s ∷ []) (driven (n - 1) (s.number + 1) speed []))
      (subst (λ (out : Outcome). HaveStoodBehind o ((done ++ s ∷ []) ++ driven (n - 1) (s.number + 1) speed []) (log_of out) d) (sym is)
      (behind-ends o (done ++ s ∷ []) (driven (n - 1) (s.number + 1) speed []) (log_of before) (log_of before) d (same-all_front (log_of before) (log_of before) (done ++ s ∷ []) (tells-self (log_of before) (done ++ s ∷ [])).same) (λ c calm. calm) (λ u failed. failed) (λ u failed. failed) (λ c u torn. torn) h))

  -- behind a call that failed the unit's power is cut
  cut-rests : (log : RunLog) → log ≡ log_of before → (cuts true (log_of before) ≡ [] → ⊥) → (c : Card) → IsCalm o log c d → IsCalm o log c e
  cut-rests log is failed c calm = ⊎_elim
      (λ nothing. inl nothing)
      (λ h. absurd (failed (subst (λ (l : RunLog). cuts true l ≡ []) is h.uncut))) calm

  in-by : (b : Bool) → InSecondCardedBy b o done s begun old before d → InSecondBy b o done s begun old before d
  in-by true h = h.ringed.evented.within
  in-by false h = h.ringed.evented.cut

  ends-by : (b : Bool) → IsTurnOf b n speed begun old new before after → LetStand o d e → TellsOn (log_of before) (log_of after) done → InSecondCardedBy b o done s begun old before d → HaveStoodBehind o (done ++ s ∷ driven (n - 1) (s.number + 1) speed []) (log_of after) e
  ends-by true turned calls tells h = stood-ends o done s (driven (n - 1) (s.number + 1) speed []) (log_of before) (log_of after) e tells decided (stood-on o done (log_of before) d e h.past calls)
  ends-by false turned calls tells h = behind-on o (done ++ s ∷ driven (n - 1) (s.number + 1) speed []) (log_of after) d e (dark-ends turned.1 h.past) calls (cut-rests (log_of after) (ap log_of turned.1) h.ringed.evented.cut.failed)

  pub turn-stood : InSecondCarded o done s begun old before d → IsTurnOf (is_lit old.power) n speed begun old new before after → (InSecond o done s begun old before d → LetStand o d e × TellsOn (log_of before) (log_of after) done)
      → HaveStoodBehind o (done ++ s ∷ driven (n - 1) (s.number + 1) speed []) (log_of after) e
  turn-stood h turned stands =
      let one = stands (in-by (is_lit old.power) h) in
      ends-by (is_lit old.power) turned one.0 one.1 h

-- ---- seconds without power

-- behind them nothing is told
pub dark-stood : (o : Origin) (done ss : List TraceSecond) (log later : RunLog) (d : Devices) → later.breaks ≡ log.breaks → later.finds ≡ log.finds → HaveStoodBehind o done log d → HaveStoodBehind o (done ++ ss) later d
dark-stood o done ss log later d breaks finds h =
    let same = refused-all log later breaks finds done in
    let tells = tells-same log later done same breaks in
    behind-ends o done ss log later d (same-all_front log later done same) (calm-more o log later [] d (breaks ∙ sym (append-nil log.breaks)) refl refl) tells.still tells.cut (same-torn log later done (went-refused log later breaks finds done)) h

-- or that the last second of a span was a cut's
pub off-stood : (o : Origin) (done : List TraceSecond) (p : Progress) (t : ToldSecond) (span : List ToldSecond) → BookFollowsRun (rule_of o) (start_at o) o.from (first_of o) done (record p { supply = IsLit (t ∷ span); waiting = [] }) → 1 < p.next → (ss : List TraceSecond) (d : Devices) →
    HaveStoodBehind o done p.log d → HaveStoodBehind o (done ++ ss) (and_break p.log (cut_at (p.next - 1) false p.begun)) d
off-stood o done p t span f some ss d h =
    let had : HadActions done p.begun = f.last in
    let r : TraceSecond = record { number = had.number; has_power = true; speed = had.speed; actions = had.actions } in
    let g = subst (λ (qs : List TraceSecond). BookFollowsRun (rule_of o) (start_at o) o.from (first_of o) qs (record p { supply = IsLit (t ∷ span); waiting = [] })) had.are f in
    let cut : Break = cut_at (p.next - 1) false p.begun in
    behind-ends o done ss p.log (and_break p.log cut) d
    (λ front rest are none. same-but_last p.log (and_break p.log cut) had.before r (same (rule_of o) (start_at o) o.from (first_of o) p t span had.before r g had.count) front rest (sym had.are ∙ are) none)
    (calm-more o p.log (and_break p.log cut) (cut ∷ []) d refl refl refl) (failed-still p.log (and_break p.log cut) (cut ∷ []) refl) (cut-still p.log (and_break p.log cut) (cut ∷ []) refl)
    (off-cut-torn (rule_of o) (start_at o) o.from (first_of o) done p t span f some) h
