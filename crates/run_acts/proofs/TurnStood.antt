-- Seconds of one minute turn over: what stood on a card stands, and the log tells the same of the seconds before.
use Rattle.std.proofs.Common.{◌≡◌, ◌∙◌, ℕ, zero, suc, ◌+◌, ◌-◌, ◌/◌, ◌%◌, ◌<◌, ◌≤◌, Bool, true, false, None, Some, List, [], ◌∷◌, ◌++◌, All, length, refl, sym, ap, subst, arith, append_assoc, append-nil}
use Rattle.std.specs.List.{AllByRecursion}
use Rattle.trace_model.specs.Trace.{TraceSecond, driven}
use Rattle.tach_media.specs.Medium.{State}
use Rattle.card_files.specs.card_layout.declared.command.CardState.{CardState}
use Rattle.log_model.specs.declared.lines.Break.{Break}
use Rattle.log_model.specs.Causes.{second_of}
use Rattle.log_model.specs.Log.{RunLog, In, Keeping}
use Rattle.device_calls.specs.safety_model.Safe.{Devices}
use Rattle.device_calls.specs.run_unit_course.Lines.{cut_at}
use Rattle.run_events.specs.run_course.Moments.{and_break}
use Rattle.run_outcome.specs.declared.outcome.Outcome.{Outcome}
use Rattle.run_minutes.specs.declared.keeper.Moment.{Moment}
use Rattle.run_minutes.specs.Books.{HaveTime}
use Rattle.run_minutes.specs.Decided.{readings_of}
use Rattle.run_minutes.specs.run_promise.Origin.{Origin}
use Rattle.run_minutes.specs.run_promise.Beside.{HaveLeftMore}
use Rattle.run_record.specs.Turning.{last_of, IsTurned}
use Rattle.run_record.specs.Within.{Beginning}
use Rattle.run_acts.specs.declared.run.Run.{Run}
use Rattle.run_acts.specs.declared.run.Power.TheVariants.{Lit}
use Rattle.run_acts.specs.Booked.{IsBookedTurn}
use Rattle.run_acts.specs.Going.{end_of_seconds, RunHasPower}
use Rattle.run_acts.specs.Recording.{log_of, values_of, IsNow, RunWithin}
use Rattle.run_acts.specs.Turning.{late_moment, told_of, cut_breaks, IsLitTurn}
use Rattle.run_acts.specs.Stood.{LetStand, TellsOn}
use Rattle.run_acts.proofs.TurnRecorded.{last-actions, last-number, turned, timed-last}
use Rattle.run_acts.proofs.RingedLines.{AreTears, TellsTears}
use Rattle.run_acts.proofs.RingedSecond.{here-append, tears-here_, more-left}
use Rattle.run_acts.proofs.CardEnds.{IsLater}
use Rattle.run_acts.proofs.CardTurn.{told-tears, told-is, lines-later}
use Rattle.log_model.specs.Same.{SameAt}
use Rattle.run_acts.proofs.Stood.{timed-let, tells-beside, all-front, failed-still, cut-still}

module _ {U A0 B0 : State} {chip_a chip_b : CardState} (n speed begun : ℕ) (old new : Run) (before after : Outcome) (d e : Devices) (g : RunHasPower None (old.next / 60) old U chip_a chip_b A0 B0) (lit : old.power ≡ Lit) (some : 0 < n)
    (minute : old.next % 60 + n ≤ 60) (small : old.next + n ≤ end_of_seconds) (low : 0 < old.next) (h : IsBookedTurn n speed begun old new before after d e) where
  abbrev T : IsLitTurn n speed begun old new before after
  T = h.0

  abbrev tears_ : TellsTears (late_moment old.next n begun) (told_of T.fed before) (told_of T.between T.told)
  tears_ = told-tears n speed begun old new before after d e g lit some minute small low h

  told_ : log_of T.told ≡ record (log_of before) { breaks = (log_of before).breaks ++ tears_.lines }
  told_ = told-is n speed begun old new before after d e g lit some minute small low h

  -- what the log tells more: of the last second
  module _ (L : TraceSecond) (number : L.number ≡ old.next + n - 1) (acts : length L.actions ≡ begun) where
    abbrev Lines : Type 0
    Lines = (lines : List Break) × (log_of after ≡ record (log_of before) { breaks = (log_of before).breaks ++ lines }) × AllByRecursion (λ (b : Break). second_of b ≡ L.number) lines

    at-is : late_moment old.next n begun ≡ record { second = L.number; begun = length L.actions; late = true }
    at-is = ap (λ (u : ℕ). record { second = u; begun = begun; late = true }) (sym number) ∙ ap (λ (k : ℕ). record { second = L.number; begun = k; late = true }) (sym acts)

    here : AllByRecursion (λ (b : Break). second_of b ≡ L.number) tears_.lines
    here = tears-here_ L.number (length L.actions) true tears_.lines (subst (λ (m : Moment). AreTears m tears_.lines) at-is tears_.tears)

    last-lines : Lines
    last-lines = by T.failed refl
      where
        by : (f : Bool) → T.failed ≡ f → Lines
        by false fine =
            let after_is : after ≡ T.told = T.outcome ∙ ap (λ (b : Bool). cut_breaks b (old.next + n - 1) begun T.told) fine in
            (tears_.lines, ap log_of after_is ∙ told_, here)
        by true broke =
            let after_is : after ≡ cut_breaks true (old.next + n - 1) begun T.told = T.outcome ∙ ap (λ (b : Bool). cut_breaks b (old.next + n - 1) begun T.told) broke in
            let cut : Break = cut_at L.number true (length L.actions) in
            let log_is : log_of after ≡ and_break (log_of T.told) cut = ap log_of after_is ∙ (λ i. and_break (log_of T.told) (cut_at (sym number i) true (sym acts i))) in (
              tears_.lines ++ cut ∷ [],
              log_is ∙ ap (λ (l : RunLog). and_break l cut) told_ ∙ ap (λ (bs : List Break). record (log_of before) { breaks = bs }) (append_assoc (log_of before).breaks tears_.lines (cut ∷ [])),
              here-append L.number tears_.lines (cut ∷ []) here (refl, tt),
            )

  module _ (o : Origin) (done : List TraceSecond) (s : TraceSecond) (now : IsNow s speed old) (actions : length s.actions ≡ begun) (none : 0 < n - 1 → s.actions ≡ []) (r : RunWithin o done s (In (length s.actions)) [] [] old before d) (time : HaveTime e) where
    acts-of : (c : ℕ) → c ≡ n - 1 → length (last_of c s).actions ≡ begun
    acts-of c is = last-actions c begun s actions (λ lt. none (omega (arith, lt, is)))

    number-of : (c : ℕ) → c ≡ n - 1 → (last_of c s).number ≡ old.next + n - 1
    number-of c is = last-number c s ∙ (let at_ = now.number in let same : s.number + c ≡ old.next + n - 1 = omega (arith, at_, is, some) in same)

    left : HaveLeftMore o d e
    left = more-left o d e (r.within.powered.lit.unit.unit_holds [] []).later r.within.there.clocks (record { unit = h.4.keeps; card_a = h.4.card_a.keeps; card_b = h.4.card_b.keeps })

    abbrev Behind : Type 0
    Behind = LetStand o d e × TellsOn (log_of before) (log_of after) done

    lines-first : IsLater r.within.b.run.log (log_of before) done s.number
    lines-first =
        let at_ = now.number in
        lines-later o done s (In (length s.actions)) [] None [] (values_of old before) d r.within [] (log_of before) (ap (λ (bs : List Break). record (log_of before) { breaks = bs }) (sym (append-nil (log_of before).breaks))) tt (omega (arith, at_, low))

    by-count : (c : ℕ) → c ≡ n - 1 → IsTurned o done s c T.decided T.fed.minutes (values_of old before) d r.within → Behind
    by-count zero is x =
        let lines = last-lines s (number-of zero is) (acts-of zero is) in
        let at_ = now.number in
        let next : IsLater x.fed.b.run.log (log_of after) done s.number = lines-later o done s Keeping [] (Some s.speed) T.decided (record (values_of old before) { minutes = T.fed.minutes; next = old.next + 0; begun = x.begun }) d x.fed lines.0 (log_of after) lines.1 lines.2 (omega (arith, at_, low)) in (
          timed-let o r.origin (readings_of old.keeper T.decided) d e
              (timed-last n speed begun old new before after d e g lit some minute small h o done s now actions none r time zero is done s (old.next + 0) x.begun (last-number zero s) refl (acts-of zero is) x.fed x.travelled_before x.from) left,
          tells-beside r.within.b.run.log (log_of before) (log_of after) done lines-first.behind.same
              (subst (λ (b : Beginning). All (λ (t : TraceSecond). SameAt b.run.log (log_of after) t.number) done) (x.first refl) next.behind.same) lines.0 (ap (λ (l : RunLog). l.breaks) lines.1),
        )
    by-count (suc c) is x =
        let D : List TraceSecond = done ++ s ∷ driven c (s.number + 1) s.speed [] in
        let L : TraceSecond = last_of (suc c) s in
        let at_ = now.number in
        let number = last-number (suc c) s in
        let lines = last-lines L (number-of (suc c) is) (acts-of (suc c) is) in
        let next : IsLater x.fed.b.run.log (log_of after) D L.number = lines-later o D L Keeping [] (Some L.speed) T.decided (record (values_of old before) { minutes = T.fed.minutes; next = old.next + suc c; begun = x.begun }) d x.fed lines.0 (log_of after) lines.1 lines.2 (omega (arith, at_, low, number)) in (
          timed-let o r.origin (readings_of old.keeper T.decided) d e
              (timed-last n speed begun old new before after d e g lit some minute small h o done s now actions none r time (suc c) is D L (old.next + suc c) x.begun (last-number (suc c) s) refl (acts-of (suc c) is) x.fed x.travelled_before x.from) left,
          record {
            same = all-front (λ (t : TraceSecond). SameAt (log_of before) (log_of after) t.number) done (s ∷ driven c (s.number + 1) s.speed [])
                (subst (λ (l : RunLog). All (λ (t : TraceSecond). SameAt l (log_of after) t.number) D) (x.goes_on (omega arith)).0 next.behind.same);
            still = failed-still (log_of before) (log_of after) lines.0 (ap (λ (l : RunLog). l.breaks) lines.1);
            cut = cut-still (log_of before) (log_of after) lines.0 (ap (λ (l : RunLog). l.breaks) lines.1);
          },
        )

    pub seconds-stand : Behind
    seconds-stand = by-count (n - 1) refl (turned n speed begun old new before after d e g lit some minute small h o done s now actions none r time)
