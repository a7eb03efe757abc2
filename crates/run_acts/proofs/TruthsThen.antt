-- What is true of stays, from second to second.
use Rattle.std.proofs.Common.{◌≡◌, ◌∙◌, ℕ, suc, ◌+◌, Bool, true, false, Option, List, [], ◌∷◌, ◌++◌, refl, ap, sym, subst, append-nil, append_assoc}
use Rattle.std.proofs.lemmas.List.Elements.{Contains-append_left}
use Rattle.trace_model.specs.Trace.{TraceSecond, driven}
use Rattle.unit_model.specs.minute_model.declared.Minute.{Minute}
use Rattle.log_model.specs.declared.lines.Break.{Break}
use Rattle.log_model.specs.Log.{RunLog, Phase}
use Rattle.log_model.specs.Course.{ToldSecond, Visit, Before, Went, has_power, went, second_told}
use Rattle.log_model.specs.Spans.{spans_of}
use Rattle.log_model.specs.Causes.{cuts}
use Rattle.log_model.proofs.Growth.{went-more}
use Rattle.unit_model.specs.Image.{odometer_at}
use Rattle.run_events.specs.run_rings.Spans.{AreAlike}
use Rattle.run_minutes.specs.run_promise.Origin.{Origin, rule_of, start_at}
use Rattle.run_minutes.specs.run_promise.Whole.{NothingFailed}
use Rattle.device_calls.specs.safety_model.Safe.{Devices}
use Rattle.run_record.specs.Recorded.{Values}
use Rattle.run_record.specs.Within.{RecordInSecond}
use Rattle.run_record.specs.Turning.{last_of, before_last}
use Rattle.run_acts.specs.Truths.{Grow, past_of, truths_of, truths_within, SpansGoOn, PastGoesOn}
use Rattle.run_acts.proofs.AllStay.{fewer-none, fewer-uncut}
use Rattle.run_acts.proofs.Truths.{spans-more, spans-alike, spans-on, spans-same, past-grows, grow-on}
use Rattle.device_calls.specs.safety_model.Recording.{brought}
use Rattle.run_acts.specs.Owed.{IsOwed}
use Rattle.run_acts.proofs.OwedOn.{owed-more, owed-same, owed-end}

-- one second more
told-more : (log : RunLog) (done : List TraceSecond) (s : TraceSecond) → (went log (done ++ s ∷ [])).told ≡ (went log done).told ++ second_told log (went log done).before s ∷ []
told-more log done s = ap (λ (w : Went). w.told) (went-more log done s)

-- whatever lines are told of it
alike : (log later : RunLog) (b : Before) (s : TraceSecond) → AreAlike (second_told log b s) (second_told later b s)
alike log later b s = by (has_power b s) refl
  where
    by : (p : Bool) → has_power b s ≡ p → AreAlike (second_told log b s) (second_told later b s)
    by true is = rw is (record { number = refl; speed = refl; lit = refl; starts = refl })
    by false is = rw is (record { number = refl; speed = refl; lit = refl; starts = refl })

-- ---- seconds more

spans-then : (log : RunLog) (done more : List TraceSecond) → SpansGoOn (spans_of (went log done).told) (spans_of (went log (done ++ more)).told)
spans-then log done [] = subst (λ (ss : List TraceSecond). SpansGoOn (spans_of (went log done).told) (spans_of (went log ss).told)) (sym (append-nil done)) (spans-same (spans_of (went log done).told))
spans-then log done (s ∷ more) =
    spans-on (spans_of (went log done).told) (spans_of (went log (done ++ s ∷ [])).told) (spans_of (went log (done ++ s ∷ more)).told)
    (subst (λ (ts : List ToldSecond). SpansGoOn (spans_of (went log done).told) (spans_of ts)) (sym (told-more log done s)) (spans-more (went log done).told (second_told log (went log done).before s ∷ [])))
    (subst (λ (ss : List TraceSecond). SpansGoOn (spans_of (went log (done ++ s ∷ [])).told) (spans_of (went log ss).told)) (append_assoc done (s ∷ []) more) (spans-then log (done ++ s ∷ []) more))

past-then : (log : RunLog) (done more : List TraceSecond) → PastGoesOn (past_of log done) (past_of log (done ++ more))
past-then log done more = record { seconds = λ s at. Contains-append_left done more s at; spans = spans-then log done more }

-- ---- another log

-- that tells the same of them
past-same : (log later : RunLog) (done : List TraceSecond) → went later done ≡ went log done → PastGoesOn (past_of log done) (past_of later done)
past-same log later done same = record {
  seconds = λ s at. at;
  spans = subst (λ (w : Went). SpansGoOn (spans_of (went log done).told) (spans_of w.told)) (sym same) (spans-same (spans_of (went log done).told));
}

-- or of all but the last
past-later : (log later : RunLog) (done : List TraceSecond) (s : TraceSecond) → went later done ≡ went log done → PastGoesOn (past_of log (done ++ s ∷ [])) (past_of later (done ++ s ∷ []))
past-later log later done s same =
    let ts : List ToldSecond = (went log done).told in
    let b : Before = (went log done).before in
    record {
      seconds = λ x at. at;
      spans = subst (λ (l : List ToldSecond). SpansGoOn (spans_of l) (spans_of (went later (done ++ s ∷ [])).told)) (sym (told-more log done s))
          (subst (λ (l : List ToldSecond). SpansGoOn (spans_of (ts ++ second_told log b s ∷ [])) (spans_of l)) (sym (told-more later done s ∙ ap (λ (w : Went). w.told ++ second_told later w.before s ∷ []) same))
          (spans-alike ts (second_told log b s) (second_told later b s) (alike log later b s)));
    }

-- ---- no call had failed as a second began

pub began-none : (o : Origin) (done : List TraceSecond) (s : TraceSecond) (at : Phase) (waits : List Visit) (speed : Option ℕ) (rest : List Minute) (v : Values) (d : Devices) (w : RecordInSecond o done s at waits speed rest v d) → NothingFailed v.log → NothingFailed w.b.run.log
began-none o done s at waits speed rest v d w none =
    fewer-none w.b.run.log w.moment.breaks (subst (λ (bs : List Break). NothingFailed (record w.b.run.log { breaks = bs })) w.moment.breaks_are none)

pub began-uncut : (o : Origin) (done : List TraceSecond) (s : TraceSecond) (at : Phase) (waits : List Visit) (speed : Option ℕ) (rest : List Minute) (v : Values) (d : Devices) (w : RecordInSecond o done s at waits speed rest v d) → cuts true v.log ≡ [] → cuts true w.b.run.log ≡ []
began-uncut o done s at waits speed rest v d w none =
    fewer-uncut w.b.run.log w.moment.breaks (subst (λ (bs : List Break). cuts true (record w.b.run.log { breaks = bs }) ≡ []) w.moment.breaks_are none)

-- ---- WHAT IS TRUE

module _ (o : Origin) where
  -- as a second begins,
  pub truths-begin : (log : RunLog) (done : List TraceSecond) (s : TraceSecond) → Grow (truths_of o log done) (truths_within o log done s)
  truths-begin log done s = past-grows (rule_of o) (odometer_at o.recording.unit) (past_of log done) (past_of log (done ++ s ∷ []))
      (λ c. IsOwed (rule_of o) (start_at o) log done c (brought o.recording c).owed) (λ c. IsOwed (rule_of o) (start_at o) log (done ++ s ∷ []) c (brought o.recording c).owed) (past-then log done (s ∷ []))
      (λ c f mark es h. owed-more (rule_of o) (start_at o) log done (s ∷ []) c (brought o.recording c).owed f mark es h)

  -- as it ends,
  pub truths-end : (began later : RunLog) (done : List TraceSecond) (s : TraceSecond) → went later done ≡ went began done → Grow (truths_within o began done s) (truths_of o later (done ++ s ∷ []))
  truths-end began later done s same = past-grows (rule_of o) (odometer_at o.recording.unit) (past_of began (done ++ s ∷ [])) (past_of later (done ++ s ∷ []))
      (λ c. IsOwed (rule_of o) (start_at o) began (done ++ s ∷ []) c (brought o.recording c).owed) (λ c. IsOwed (rule_of o) (start_at o) later (done ++ s ∷ []) c (brought o.recording c).owed) (past-later began later done s same)
      (λ c f mark es h. owed-end (rule_of o) (start_at o) began later done s same c (brought o.recording c).owed f mark es h)

  -- behind more seconds,
  pub truths-more : (log : RunLog) (done more : List TraceSecond) → Grow (truths_of o log done) (truths_of o log (done ++ more))
  truths-more log done more = past-grows (rule_of o) (odometer_at o.recording.unit) (past_of log done) (past_of log (done ++ more))
      (λ c. IsOwed (rule_of o) (start_at o) log done c (brought o.recording c).owed) (λ c. IsOwed (rule_of o) (start_at o) log (done ++ more) c (brought o.recording c).owed) (past-then log done more)
      (λ c f mark es h. owed-more (rule_of o) (start_at o) log done more c (brought o.recording c).owed f mark es h)

  -- and by a log that tells the same of them
  pub truths-same : (log later : RunLog) (done : List TraceSecond) → went later done ≡ went log done → Grow (truths_of o log done) (truths_of o later done)
  truths-same log later done same = past-grows (rule_of o) (odometer_at o.recording.unit) (past_of log done) (past_of later done)
      (λ c. IsOwed (rule_of o) (start_at o) log done c (brought o.recording c).owed) (λ c. IsOwed (rule_of o) (start_at o) later done c (brought o.recording c).owed) (past-same log later done same)
      (λ c f mark es h. owed-same (rule_of o) (start_at o) log later done same c (brought o.recording c).owed f mark es h)

  -- IN THE LAST of several seconds what the first has made true is true
  pub truths-last : (began log : RunLog) (done : List TraceSecond) (s : TraceSecond) (c : ℕ) → went log done ≡ went began done → (last : RunLog) → last ≡ log →
      Grow (truths_within o began done s) (truths_within o last (before_last (suc c) s done) (last_of (suc c) s))
  truths-last began log done s c same last is =
      let quiet : List TraceSecond = driven c (s.number + 1) s.speed [] in
      let one : List TraceSecond = last_of (suc c) s ∷ [] in
      let seconds : (done ++ s ∷ []) ++ (quiet ++ one) ≡ before_last (suc c) s done ++ one = append_assoc done (s ∷ []) (quiet ++ one) ∙ sym (append_assoc done (s ∷ quiet) one) in
      grow-on (truths_within o began done s) (truths_of o log (done ++ s ∷ [])) (truths_within o last (before_last (suc c) s done) (last_of (suc c) s)) (truths-end began log done s same)
      (subst (λ (l : RunLog). Grow (truths_of o log (done ++ s ∷ [])) (truths_within o l (before_last (suc c) s done) (last_of (suc c) s))) (sym is)
      (subst (λ (ss : List TraceSecond). Grow (truths_of o log (done ++ s ∷ [])) (truths_of o log ss)) seconds (truths-more log (done ++ s ∷ []) (quiet ++ one))))
