-- What was kept before a power-on; and events that fit their fields.
use Rattle.std.proofs.Common.{◌≡◌, ℕ, zero, suc, Bool, true, false, ◌||◌, List, [], ◌∷◌, ◌++◌, All, take, drop, is_some, refl, ap, sym, subst, ◌∙◌}
use Rattle.std.specs.Prelude.{option_map, option_to_list}
use Rattle.std.proofs.lemmas.List.Folds.{list_any-append}
use Rattle.run_devices.specs.trace_model.Trace.{TraceSecond}
use Rattle.run_devices.specs.log_model.declared.lines.Break.{Break}
use Rattle.run_devices.specs.log_model.Log.{RunLog, cut_of, kept_after}
use Rattle.run_devices.specs.event_model.declared.kinds.TheConstants.{POWER_INTERRUPTION}
use Rattle.run_devices.specs.event_model.declared.entries.Span.{Span}
use Rattle.run_devices.specs.event_model.Spans.{gap_of}
use Rattle.run_devices.specs.event_model.Events.{Event, Seen, noted_with, last_number, seen_of, seen_spans}
use Rattle.run_devices.specs.run_unit_course.Lines.{tells_cut}
use Rattle.run_devices.specs.run_unit_course.Followed.{UnitPower, Lit, Due, Lost, IsDark}
use Rattle.run_devices.proofs.run_unit_course.Lines.{kept-now}
use Rattle.run_devices.specs.run_course.Followed.{Progress}
use Rattle.run_devices.proofs.run_course.Logs.{all-before, same-found}
use Rattle.run_devices.proofs.run_course.Lookups.{kept-by}
use Rattle.run_events.specs.Seconds.{last_of}
use Rattle.run_events.specs.Gaps.{CutIsTold, IsUntold, OfLast, IsKnownLast}
use Rattle.run_events.proofs.Gaps.{is-found}
use Rattle.run_events.proofs.Later.{seen-same}
use Rattle.run_devices.specs.log_model.Same.{SameAt}
use Rattle.run_devices.specs.run_promise.Seconds.{found_again}
use Rattle.run_note_record.specs.EventsSoFar.{interruption}
use Rattle.run_note_record.specs.Kept.{interruption_of, TheInterruptionIsFound, NoBreakNoSpan}
use Rattle.run_note_record.proofs.Lines.{tells-so}

take-drop : (n : ℕ) (bs : List Break) → take n bs ++ drop n bs ≡ bs
take-drop zero bs = refl
take-drop (suc n) [] = refl
take-drop (suc n) (b ∷ bs) = ap (λ (l : List Break). b ∷ l) (take-drop n bs)

-- behind what is known, a cut that is told is told later
later-told : (n : ℕ) (bs : List Break) (u : ℕ) → tells_cut u bs ≡ true → tells_cut u (take n bs) ≡ false → tells_cut u (drop n bs) ≡ true
later-told n bs u told off =
    sym (ap (λ (b : Bool). b || tells_cut u (drop n bs)) off) ∙ sym (tells-both u (take n bs) (drop n bs)) ∙ ap (tells_cut u) (take-drop n bs) ∙ told
  where
    tells-both : (u : ℕ) (xs ys : List Break) → tells_cut u (xs ++ ys) ≡ (tells_cut u xs || tells_cut u ys)
    tells-both u xs ys = list_any-append (λ (b : Break). is_some (cut_of u b)) xs ys

last-dark : (supply : UnitPower) (log : RunLog) (found : List Break) (spans : List (List Seen)) → IsDark supply → IsKnownLast supply log found spans → OfLast (IsUntold log found) spans
last-dark (Lit span) log found spans dark last = absurd dark
last-dark Due log found spans dark last = last
last-dark Lost log found spans dark last = last

of-last : (P : List Seen → Type 0) (span : List Seen) (spans : List (List Seen)) → OfLast P (span ∷ spans) → P (last_of (span ∷ spans))
of-last P span [] h = h
of-last P span (next ∷ spans) h = of-last P next spans h

pub interruption-found : TheInterruptionIsFound
interruption-found o done p f dark gaps k f_again s log g u crew =
    let again : Progress = found_again k p in
    let same : All (λ (r : TraceSecond). SameAt p.log again.log r.number) done = all-before (λ (n : ℕ). SameAt p.log again.log n) o.from done f.order (λ n lt. same-found p.log p.unfound k n) in
    let seen : seen_of again.log done ≡ seen_of p.log done = seen-same p.log again.log done same in
    let known = is-found p.log again.log p.unfound k p.supply done dark gaps same refl in
    let told_all : OfLast (CutIsTold (take again.unfound again.log.breaks)) (seen_spans (seen_of p.log done)) = subst (λ (l : List Seen). OfLast (CutIsTold (take again.unfound again.log.breaks)) (seen_spans l)) seen known.last in
    ap (λ (l : List Seen). interruption log (seen_spans l) u crew) seen
    ∙ by (seen_spans (seen_of p.log done)) (last-dark p.supply p.log (take p.unfound p.log.breaks) (seen_spans (seen_of p.log done)) dark gaps.last) told_all
  where
    by : (spans : List (List Seen)) → OfLast (IsUntold p.log (take p.unfound p.log.breaks)) spans → OfLast (CutIsTold (take (found_again k p).unfound (found_again k p).log.breaks)) spans → interruption log spans u crew ≡ interruption_of k spans u crew
    by [] untold told = refl
    by (span ∷ spans) untold told =
        let n : ℕ = last_number (last_of (span ∷ spans)) in
        let was = of-last (IsUntold p.log (take p.unfound p.log.breaks)) span spans untold in
        let now = of-last (CutIsTold (take (found_again k p).unfound (found_again k p).log.breaks)) span spans told in
        let kept : kept_after log n ≡ k =
        (tells-so o done (found_again k p) f_again s log g).known n now
        ∙ kept-by (found_again k p).log n
        ∙ kept-now k (take p.unfound p.log.breaks) (drop p.unfound p.log.breaks) n was.unfound (later-told p.unfound p.log.breaks n was.told was.unfound) in
        ap (λ (m : ℕ). option_to_list (option_map {T = Span} {U = Event} (λ gap. noted_with POWER_INTERRUPTION gap.begin gap.end crew) (gap_of m u))) kept

pub no-break_no-span : NoBreakNoSpan
no-break_no-span done p dark gaps none = by (seen_spans (seen_of p.log done)) (last-dark p.supply p.log (take p.unfound p.log.breaks) (seen_spans (seen_of p.log done)) dark gaps.last)
  where
    by : (spans : List (List Seen)) → OfLast (IsUntold p.log (take p.unfound p.log.breaks)) spans → spans ≡ []
    by [] last = refl
    by (span ∷ spans) last =
        let was = of-last (IsUntold p.log (take p.unfound p.log.breaks)) span spans last in
        absurd (let wrong : false ≡ true = sym (ap (tells_cut (last_number (last_of (span ∷ spans)))) none) ∙ was.told in cc)
