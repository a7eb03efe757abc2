-- What a run has stored of odometers, by its own values: between two seconds, at an `off` line, and where power is cut within a second.
use Rattle.std.proofs.Common.{◌≡◌, ◌∙◌, ℕ, ◌-◌, ◌<◌, true, false, not, Option, None, List, [], ◌∷◌, ◌++◌, map, refl, ap, sym, subst, arith}
use Rattle.std.specs.List.{AllByRecursion}
use Rattle.std.proofs.lemmas.List.{map-append, same_from_push}
use Rattle.trace_model.specs.declared.Action.{Action}
use Rattle.trace_model.specs.Trace.{TraceSecond}
use Rattle.unit_model.specs.minute_model.declared.Minute.{Minute}
use Rattle.log_model.specs.declared.lines.Break.{Break}
use Rattle.log_model.specs.Causes.{second_of}
use Rattle.log_model.specs.Course.{ToldSecond, Visit, Went, went}
use Rattle.log_model.specs.Log.{RunLog, Phase}
use Rattle.log_model.specs.Spans.{spans_of}
use Rattle.device_calls.specs.run_unit_course.Lines.{cut_at}
use Rattle.device_calls.specs.run_unit_course.Followed.{UnitPower, Lit as IsLit, Due as IsDue, Lost as IsLost}
use Rattle.device_calls.specs.run_unit_course.Turn.{cut_last}
use Rattle.unit_model.specs.Image.{last_kept, odometer_at}
use Rattle.device_calls.specs.unit_rule.Rule.{Started}
use Rattle.unit_notes.specs.note_model.Odometer.{SpanFrom, HaveBases, MayStore}
use Rattle.device_calls.specs.safety_model.Safe.{Devices}
use Rattle.run_events.specs.run_course.Followed.{Progress, BookFollowsRun}
use Rattle.run_events.specs.run_course.Moments.{and_break}
use Rattle.run_events.specs.run_course.Telling.{IsLeft, begun_by}
use Rattle.run_outcome.specs.declared.outcome.Outcome.{Outcome}
use Rattle.run_minutes.specs.run_promise.Origin.{Origin, rule_of, start_at, first_of}
use Rattle.run_events.specs.run_rings.Spans.{with_second}
use Rattle.run_note_record.specs.RingsSoFar.{HasMoreBreaks}
use Rattle.run_note_record.specs.Steps.{spans_cut}
use Rattle.run_note_record.specs.Stored.{StoresOn, StoresOff, Stores}
use Rattle.run_note_record.proofs.Bases.{stored-bases}
use Rattle.run_record.specs.Recorded.{Values, RecordBetweenSeconds}
use Rattle.run_record.specs.Within.{RecordAtFailure}
use Rattle.run_acts.specs.declared.run.Run.{Run}
use Rattle.run_acts.specs.declared.run.Power.{Power}
use Rattle.run_acts.specs.declared.run.Power.TheVariants.{Lit, Due, Lost}
use Rattle.run_acts.specs.Power.{is_lit}
use Rattle.run_acts.specs.Recording.{log_of, values_of, Supplies, IsOrigin, RunRecorded, RunWithin, RunFails}
use Rattle.run_events.proofs.run_course.Logs.{went-later}
use Rattle.run_record.proofs.Cutting.{goes}
use Rattle.run_acts.proofs.Stored.{lit-stores, lit-off, lines-early, stored-cut}

pub found-first : (o : Origin) → IsOrigin o → o.found.unit.first ≡ first_of o
found-first o origin = ap (λ (u : Started). u.first) origin.unit

-- ---- WHILE THERE IS POWER

supplied : (power : Power) (supply : UnitPower) → Supplies power supply → power ≡ Lit → (t : ToldSecond) × (span : List ToldSecond) × (supply ≡ IsLit (t ∷ span))
supplied Lit (IsLit []) h is = absurd h
supplied Lit (IsLit (t ∷ span)) h is = (t, span, refl)
supplied Lit IsDue h is = absurd h
supplied Lit IsLost h is = absurd h
supplied Due supply h is = absurd (cc)
supplied Lost supply h is = absurd (cc)

module _ (o : Origin) (done : List TraceSecond) (run : Run) (out : Outcome) (d : Devices) (r : RunRecorded o done run out d) (lit : run.power ≡ Lit) (spans : List SpanFrom) (are : map (λ (s : SpanFrom). s.span) spans ≡ spans_of (went (log_of out) done).told)
    (h : StoresOn o (log_of out) run.unfound run.keeper.odometer spans) where
  span-is : (t : ToldSecond) × (span : List ToldSecond) × (r.supply ≡ IsLit (t ∷ span))
  span-is = supplied run.power r.supply r.powers lit

  recorded-so : RecordBetweenSeconds o done (IsLit (span-is.0 ∷ span-is.1)) (values_of run out) d
  recorded-so = subst (λ (supply : UnitPower). RecordBetweenSeconds o done supply (values_of run out) d) span-is.2 r.recorded

  same : (map (λ (s : SpanFrom). s.span) h.earlier ≡ recorded-so.recorded.followed.ended) × (h.span ≡ span-is.0 ∷ span-is.1)
  same = same_from_push (map (λ (s : SpanFrom). s.span) h.earlier) recorded-so.recorded.followed.ended h.span (span-is.0 ∷ span-is.1)
      (sym (ap (map (λ (s : SpanFrom). s.span)) h.are ∙ map-append (λ (s : SpanFrom). s.span) h.earlier (record { base = run.keeper.odometer; span = h.span } ∷ [])) ∙ are ∙ recorded-so.recorded.followed.spans)

  are-so : spans_of (went (log_of out) done).told ≡ map (λ (s : SpanFrom). s.span) h.earlier ++ (span-is.0 ∷ span-is.1) ∷ []
  are-so = recorded-so.recorded.followed.spans ∙ ap (λ (l : List (List ToldSecond)). l ++ (span-is.0 ∷ span-is.1) ∷ []) (sym same.0)

  -- each image has stored so
  pub run-stores : (x : List ℕ) → d.unit.may_leave x → MayStore (rule_of o) (odometer_at o.recording.unit) (first_of o) spans (last_kept x) (odometer_at x)
  run-stores x on =
      subst (λ (l : List SpanFrom). MayStore (rule_of o) (odometer_at o.recording.unit) (first_of o) l (last_kept x) (odometer_at x))
      (sym (h.are ∙ ap (λ (sp : List ToldSecond). h.earlier ++ record { base = run.keeper.odometer; span = sp } ∷ []) same.1))
      (lit-stores o (found-first o r.origin) done (values_of run out) d span-is.0 span-is.1 recorded-so h.earlier are-so h.stands (span-is.0 ∷ span-is.1) refl x on)

  pub run-bases : HaveBases (rule_of o) (log_of out) (odometer_at o.recording.unit) (first_of o) [] spans
  run-bases = stored-bases o (log_of out) run.unfound run.keeper.odometer spans h

  -- an `off` line takes the power: of the last span the last second turns out to be a cut's
  pub run-off : (cut : List SpanFrom) → ((earlier : List SpanFrom) (base : ℕ) (span : List ToldSecond) → spans ≡ earlier ++ record { base = base; span = span } ∷ [] → cut ≡ earlier ++ record { base = base; span = cut_last span } ∷ []) →
      StoresOff o (and_break (log_of out) (cut_at (run.next - 1) false run.begun)) run.unfound cut d
  run-off cut cuts =
      subst (λ (l : List SpanFrom). StoresOff o (and_break (log_of out) (cut_at (run.next - 1) false run.begun)) run.unfound l d)
      (sym (cuts h.earlier run.keeper.odometer h.span h.are ∙ ap (λ (sp : List ToldSecond). h.earlier ++ record { base = run.keeper.odometer; span = cut_last sp } ∷ []) same.1))
      (lit-off o (found-first o r.origin) done (values_of run out) d span-is.0 span-is.1 recorded-so h.earlier are-so h.stands)

-- ---- AT THE END, by the power: with which odometer each span began, and what each image has stored

pub end-stores : (o : Origin) (done : List TraceSecond) (run : Run) (out : Outcome) (d : Devices) → RunRecorded o done run out d → (spans : List SpanFrom) → map (λ (s : SpanFrom). s.span) spans ≡ spans_of (went (log_of out) done).told →
    Stores (is_lit run.power) o (log_of out) run.unfound run.keeper.odometer spans d →
    HaveBases (rule_of o) (log_of out) (odometer_at o.recording.unit) (first_of o) [] spans
    × ((x : List ℕ) → d.unit.may_leave x → MayStore (rule_of o) (odometer_at o.recording.unit) (first_of o) spans (last_kept x) (odometer_at x))
end-stores o done run out d r spans are h = by run.power refl
  where
    by : (p : Power) → run.power ≡ p →
        HaveBases (rule_of o) (log_of out) (odometer_at o.recording.unit) (first_of o) [] spans
        × ((x : List ℕ) → d.unit.may_leave x → MayStore (rule_of o) (odometer_at o.recording.unit) (first_of o) spans (last_kept x) (odometer_at x))
    by Lit is =
        let on : StoresOn o (log_of out) run.unfound run.keeper.odometer spans = subst (λ (p : Power). Stores (is_lit p) o (log_of out) run.unfound run.keeper.odometer spans d) is h in
        (run-bases o done run out d r is spans are on, run-stores o done run out d r is spans are on)
    by Due is =
        let off : StoresOff o (log_of out) run.unfound spans d = subst (λ (p : Power). Stores (is_lit p) o (log_of out) run.unfound run.keeper.odometer spans d) is h in
        (off.bases, off.stores)
    by Lost is =
        let off : StoresOff o (log_of out) run.unfound spans d = subst (λ (p : Power). Stores (is_lit p) o (log_of out) run.unfound run.keeper.odometer spans d) is h in
        (off.bases, off.stores)

-- ---- POWER IS CUT within a second, which began so

-- from the record of the seconds before it
module _ (o : Origin) (first : o.found.unit.first ≡ first_of o) (done : List TraceSecond) (s : TraceSecond) (p : Progress) (f : BookFollowsRun (rule_of o) (start_at o) o.from (first_of o) done p) (span : List ToldSecond) (lit : p.supply ≡ IsLit span) (number : s.number ≡ p.next)
    (at : Phase) (waits : List Visit) (speed : Option ℕ) (v : Values) (e : Devices) (c : RecordAtFailure o done s at waits speed v e) (left_actions : List Action) (left : IsLeft s at left_actions) where
  begun-early : AllByRecursion (λ (b : Break). second_of b < s.number) p.log.breaks
  begun-early = subst (λ (n : ℕ). AllByRecursion (λ (b : Break). second_of b < n) p.log.breaks) (sym number) (lines-early o done p f span lit)

  went-cut : went (and_break v.log (cut_at s.number true (begun_by s at))) done ≡ went c.b.run.log done
  went-cut =
      let by = goes o done s at waits speed v e c left_actions left in
      let g = c.began.followed in
      let next = g.next in
      went-later c.b.run.log (and_break v.log (cut_at s.number true (begun_by s at))) c.b.run.next by.breaks.0 by.breaks.1 by.breaks.2 by.finds.0 by.finds.1 by.finds.2 o.from done g.order (omega (arith, next))

  -- the spans and the second are as they were by the log as it began
  pub cut-stored : v.unfound ≡ p.unfound → (base : ℕ) → v.odometer ≡ base → HasMoreBreaks p.log v.log → went (and_break v.log (cut_at s.number true (begun_by s at))) done ≡ went p.log done →
      (spans : List SpanFrom) → map (λ (x : SpanFrom). x.span) spans ≡ spans_of (went p.log done).told → (t : ToldSecond) → t.lit ≡ true → t.starts ≡ not (went p.log done).before.running →
      StoresOn o p.log p.unfound base (with_second spans base t) → StoresOff o (and_break v.log (cut_at s.number true (begun_by s at))) v.unfound (spans_cut spans base (and_break v.log (cut_at s.number true (begun_by s at))) done s) e
  cut-stored unfound base is more behind spans are t is_lit starts h =
      let went_same : went p.log done ≡ went c.b.run.log done = sym behind ∙ went-cut in
      subst (λ (n : ℕ). StoresOff o (and_break v.log (cut_at s.number true (begun_by s at))) v.unfound (spans_cut spans n (and_break v.log (cut_at s.number true (begun_by s at))) done s) e) is
      (stored-cut o first done s at waits speed v e c left_actions left spans (are ∙ ap (λ (g : Went). spans_of g.told) went_same) t is_lit (starts ∙ ap (λ (g : Went). not g.before.running) went_same)
      p.log p.unfound begun-early f.unfound more unfound
      (subst (λ (n : ℕ). StoresOn o p.log p.unfound n (with_second spans n t)) (sym is) h))

-- the unit failed in a call
module _ (o : Origin) (done : List TraceSecond) (s : TraceSecond) (at : Phase) (waits : List Visit) (rest : List Minute) (old : Run) (before : Outcome) (d : Devices) (w : RunWithin o done s at waits rest old before d)
    (later : Phase) (run : Run) (out : Outcome) (e : Devices) (fails : RunFails o done s later run out e) (lit : run.power ≡ Lit) (left_actions : List Action) (left : IsLeft s later left_actions) where
  -- the log with the cut that is told next
  abbrev cut : RunLog
  cut = and_break (log_of out) (cut_at s.number true (begun_by s later))

  pub run-cut : run.unfound ≡ old.unfound → (base : ℕ) → run.keeper.odometer ≡ base → HasMoreBreaks w.within.b.run.log (log_of out) → went cut done ≡ went w.within.b.run.log done →
      (spans : List SpanFrom) → map (λ (x : SpanFrom). x.span) spans ≡ spans_of (went w.within.b.run.log done).told → (t : ToldSecond) → t.lit ≡ true → t.starts ≡ not (went w.within.b.run.log done).before.running →
      StoresOn o w.within.b.run.log w.within.b.run.unfound base (with_second spans base t) → StoresOff o cut run.unfound (spans_cut spans base cut done s) e
  run-cut unfound base is more behind spans are t is_lit starts h =
      cut-stored o (found-first o w.origin) done s w.within.b.run w.within.began.followed w.within.b.span w.within.lit w.within.moment.number
      later fails.waits None (record (values_of run out) { cabin = fails.cabin; odometer = fails.odometer }) e fails.within left_actions left
      (unfound ∙ w.within.unfound) base (fails.counted lit ∙ is) more behind spans are t is_lit starts h
