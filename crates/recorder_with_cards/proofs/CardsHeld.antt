-- The events of the cards within a second, by the log as it began or by that of now; with power, or where it was cut.
use Rattle.std.proofs.Common.{◌≡◌, ◌∙◌, ℕ, ◌<◌, Bool, true, false, cond, Option, List, [], ◌∷◌, ◌++◌, length, take, refl, ap, sym, subst, append-nil}
use Rattle.std.proofs.Math.Seq.{take-append_seam}
use Rattle.trace_model.specs.declared.Action.{Action}
use Rattle.trace_model.specs.Trace.{TraceSecond}
use Rattle.minute_rules.specs.minute_model.declared.Minute.{Minute}
use Rattle.device_calls.specs.event_model.Events.{Seen, seen_of, seen_spans, last_number}
use Rattle.log_model.specs.declared.lines.Break.{Break}
use Rattle.log_model.specs.Log.{RunLog, Phase, kept_after}
use Rattle.log_model.specs.Course.{Visit, Went}
use Rattle.std.specs.List.{AllByRecursion}
use Rattle.device_calls.specs.note_model.Done.{done_by}
use Rattle.device_calls.specs.note_model.Noted.{Note, noted_in}
use Rattle.device_calls.specs.safety_model.Safe.{Devices}
use Rattle.run_acts.specs.run_events.Seconds.{gap_by}
use Rattle.run_acts.proofs.run_events.Later.{seen-same}
use Rattle.run_acts.specs.run_note_record.Uses.{notes_now, uses_in}
use Rattle.run_acts.proofs.run_note_record.Noted.{notes-alike}
use Rattle.run_acts.specs.run_rings.Notes.{course_behind}
use Rattle.run_minutes.specs.run_promise.Origin.{Origin}
use Rattle.run_outcome.specs.declared.outcome.Outcome.{Outcome}
use Rattle.run_acts.specs.run_record.Recorded.{Values}
use Rattle.run_acts.specs.run_record.Within.{RecordInSecond}
use Rattle.run_acts.specs.declared.run.Run.{Run}
use Rattle.run_acts.specs.Power.{is_lit}
use Rattle.run_acts.specs.OnCards.{MetSecond, as_accepted, met_behind, met_seconds}
use Rattle.run_acts.specs.RunCards.{so_far, seen_behind, gap_behind, met_so, CardsShown, CardsIn}
use Rattle.run_acts.proofs.CardGaps.{kept-before, before-same, low-spans, met-same}
use Rattle.run_acts.proofs.CardEnds.{IsLater}
use Rattle.run_acts.proofs.CardTurn.{lines-later}
use Rattle.recorder_with_cards.specs.Carded.{WithinCarded, CutCarded, InSecondCardedBy, InSecondCarded}

-- ---- by the log as the second began, or by that of now

module _ (o : Origin) (done : List TraceSecond) (s : TraceSecond) (at : Phase) (waits : List Visit) (speed : Option ℕ) (rest : List Minute) (v : Values) (d : Devices) (w : RecordInSecond o done s at waits speed rest v d) (some : 0 < s.number) (front : List Action) where
  abbrev log : RunLog
  log = v.log

  l : IsLater w.b.run.log v.log done s.number
  l = lines-later o done s at waits speed rest v d w [] v.log (ap (λ (bs : List Break). record v.log { breaks = bs }) (sym (append-nil v.log.breaks))) tt some

  seen-is : seen_of v.log done ≡ seen_of w.b.run.log done
  seen-is = seen-same w.b.run.log v.log done l.behind.same

  kept : (u : ℕ) → u < s.number → kept_after v.log u ≡ kept_after w.b.run.log u
  kept = kept-before w.b.run.log v.log l.more s.number l.breaks l.here

  low : AllByRecursion (λ (span : List Seen). last_number span < s.number) (seen_spans (seen_of w.b.run.log done))
  low = low-spans s.number l.some (seen_of w.b.run.log done) l.early

  now-is : seen_behind v.log done s front v.log ≡ seen_behind w.b.run.log done s front v.log
  now-is = ap (λ (g : Went). so_far g.before s (course_behind v.log g.before s front)) l.behind.went_is

  met-is : met_seconds v.log done ≡ met_seconds w.b.run.log done
  met-is = ap (λ (xs : List Seen). met_behind v.log [] xs) seen-is ∙ met-same w.b.run.log v.log s.number l.some kept [] (seen_of w.b.run.log done) l.early

  gap-is : gap_behind v.log done s front v.log ≡ gap_behind w.b.run.log done s front v.log
  gap-is =
      ap (λ (xs : List Seen). gap_by as_accepted v.log (seen_spans xs) (seen_behind v.log done s front v.log)) seen-is
      ∙ ap (λ (x : Seen). gap_by as_accepted v.log (seen_spans (seen_of w.b.run.log done)) x) now-is
      ∙ (λ i. cond (seen_behind w.b.run.log done s front v.log).told.lit (cond (seen_behind w.b.run.log done s front v.log).told.starts
      (before-same as_accepted w.b.run.log v.log s.number kept (seen_spans (seen_of w.b.run.log done)) (seen_behind w.b.run.log done s front v.log) (seen_behind w.b.run.log done s front v.log) refl (λ slot. refl) low i) []) [])

  notes-are : notes_now v.log done v.log s ≡ notes_now w.b.run.log done v.log s
  notes-are = λ i. notes-alike w.b.run.log v.log done l.behind.same i ++ noted_in v.log (done_by v.log (l.behind.went_is i).before s)

  same : ◌≡◌ {A = List MetSecond × List Note} (met_seconds v.log done ++ met_so v.log done s front v.log (gap_behind v.log done s front v.log) ∷ [], notes_now v.log done v.log s)
      (met_seconds w.b.run.log done ++ met_so w.b.run.log done s front v.log (gap_behind w.b.run.log done s front v.log) ∷ [], notes_now w.b.run.log done v.log s)
  same = λ i. (met-is i ++ record { seen = now-is i; gap = gap-is i } ∷ [], notes-are i)

  pub to-began : CardsIn o done s v.log front v.log d → CardsIn o done s w.b.run.log front v.log d
  to-began h = subst (λ (p : List MetSecond × List Note). CardsShown o v.log p.0 (λ c. uses_in o c p.1) d) same h

  pub to-log : CardsIn o done s w.b.run.log front v.log d → CardsIn o done s v.log front v.log d
  to-log h = subst (λ (p : List MetSecond × List Note). CardsShown o v.log p.0 (λ c. uses_in o c p.1) d) (sym same) h

-- ---- the first of some actions

pub first-are : (all front rest : List Action) (n : ℕ) → all ≡ front ++ rest → length front ≡ n → take n all ≡ front
first-are all front rest n are long = ap (λ (k : ℕ). take k all) (sym long) ∙ ap (take (length front)) are ∙ take-append_seam front rest

-- ---- with power, or cut

module _ (o : Origin) (done : List TraceSecond) (s : TraceSecond) (run : Run) (out : Outcome) (d : Devices) where
  pub carded-cut : (n : ℕ) → is_lit run.power ≡ false → InSecondCarded o done s n run out d → CutCarded o done s run out d
  carded-cut n dark h = subst (λ (b : Bool). InSecondCardedBy b o done s n run out d) dark h

  pub in-carded_cut : (n : ℕ) → CutCarded o done s run out d → InSecondCarded o done s n run out d
  in-carded_cut n h = subst (λ (b : Bool). InSecondCardedBy b o done s n run out d) (sym (ap is_lit h.ringed.evented.cut.lost)) h

  pub carded-lit : (n : ℕ) → is_lit run.power ≡ true → InSecondCarded o done s n run out d → WithinCarded o done s n run out d
  carded-lit n lit h = subst (λ (b : Bool). InSecondCardedBy b o done s n run out d) lit h

  pub in-carded_lit : (n : ℕ) → WithinCarded o done s n run out d → InSecondCarded o done s n run out d
  in-carded_lit n h = subst (λ (b : Bool). InSecondCardedBy b o done s n run out d) (sym (ap is_lit h.ringed.evented.within.lit)) h

  -- where power was cut, further actions are passed over
  pub carded-over : (n m : ℕ) → is_lit run.power ≡ false → InSecondCarded o done s n run out d → InSecondCarded o done s m run out d
  carded-over n m dark h = in-carded_cut m (carded-cut n dark h)
