-- Power comes, and the unit was not read: a cut ends the second.
use Rattle.std.proofs.Common.{◌≡◌, ◌⊎◌, inl, inr, ⊎_elim, ℕ, suc, ◌-◌, ◌/◌, ◌≤◌, true, false, ◌&&◌, Option, Some, None, List, [], ◌∷◌, ◌++◌, Contains, length, filter, refl, ap, sym, subst, ◌∙◌, arith, append-nil, All}
use Rattle.std.proofs.lemmas.List.Elements.{Contains-push_cases}
use Rattle.run_devices.specs.trace_model.declared.Card.{Card}
use Rattle.run_devices.specs.trace_model.declared.Card.TheVariants.{A, B}
use Rattle.run_devices.specs.trace_model.Trace.{TraceSecond}
use Rattle.run_devices.specs.log_model.declared.lines.Verdict.{Verdict}
use Rattle.run_devices.specs.log_model.Log.{RunLog, In}
use Rattle.run_devices.specs.log_model.Slots.{Slots, Sitting, same_card, is_accepted}
use Rattle.run_devices.specs.log_model.Course.{ToldSecond, Went, Course, Visit, fresh, powerless, cut_told, went}
use Rattle.run_devices.specs.run_unit_course.Lines.{cut_at}
use Rattle.run_devices.specs.run_unit_course.Followed.{UnitPower, Lit, Due, Lost, MayPower, MayFail}
use Rattle.run_devices.specs.safety_model.Cards.{is_overlap}
use Rattle.run_devices.specs.safety_model.Safe.{Devices, card_of, breakdowns_of}
use Rattle.run_devices.specs.run_crew.Cabin.{with_power_lost}
use Rattle.run_devices.specs.run_crew.Cards.{with_session, session_of}
use Rattle.run_devices.proofs.run_crew.Sessions.{all_gone}
use Rattle.run_devices.specs.run_course.Moments.{and_break}
use Rattle.run_devices.specs.run_course.Followed.{Progress, BookFollowsRun}
use Rattle.run_devices.specs.run_course.Seconds.{GoesOnBy, next_told}
use Rattle.run_devices.specs.run_course.Presence.{SlotsTell}
use Rattle.run_devices.specs.run_course.Within.{not_begun}
use Rattle.run_devices.proofs.run_course.Presence.{power-lost, second-gone, time-passes}
use Rattle.run_devices.proofs.run_course.Steps.{now-is, now-told}
use Rattle.run_devices.specs.run_course.Telling.{told_with}
use Rattle.run_devices.proofs.run_course.Failing.{power-on_cut}
use Rattle.run_devices.proofs.Known.{found-session}
use Rattle.run_devices.specs.run_promise.Origin.{Origin, rule_of, start_at, first_of}
use Rattle.run_devices.specs.run_promise.Ends.{recording_by, AreVerdicts, AreSpared}
use Rattle.run_devices.specs.run_promise.Beside.{TellsMore, entered_in, AreFewer, AreFewFound}
use Rattle.run_devices.proofs.run_promise.Seconds.{failed-recorded}
use Rattle.run_devices.proofs.run_promise.Beside.{second-tells, few-on, written-on, verdicts-on, spared-on, kept-later, kept-cut}
use Rattle.run_devices.specs.run_promise.Found.{found_of}
use Rattle.run_devices.specs.run_promise.Cards.{IsUntouched}
use Rattle.run_record.specs.Recorded.{Values, progress, carried, IsWritten, RecordUnpowered, RecordBetweenSeconds}
use Rattle.run_record.specs.Within.{cut_values}
use Rattle.run_record.specs.Powering.{IsNotRead, AReadingFails}
use Rattle.run_record.proofs.Parts.{entered-grows}
use Rattle.run_record.proofs.Stays.{since-later, since-cut}
use Rattle.run_record.proofs.Powering.{off-of}
use Rattle.run_record.proofs.Asked.{same-seconds, next-powers, asked-broken}
use Rattle.run_record.proofs.HandedSteps.{handed-over, handed-begins}
use Rattle.run_record.specs.Handed.{AreHandedBehind}
use Rattle.run_devices.specs.log_model.Same.{SameAt}
use Rattle.run_devices.proofs.run_course.Reached.{nothing-told}

-- where power may come it may fail
may-fail : (supply : UnitPower) (next : ℕ) → MayPower supply next → MayFail supply next
may-fail (Lit span) next may = absurd may
may-fail Due next may = tt
may-fail Lost next may = may

dark-sitting : (x : Option Sitting) → is_accepted (powerless x) ≡ false
dark-sitting None = refl
dark-sitting (Some x) = refl

module _ (o : Origin) (done : List TraceSecond) (s : TraceSecond) (supply : UnitPower) (v : Values) (d e : Devices) (r : RecordBetweenSeconds o done supply v d) (may : MayPower supply v.next) (number : s.number ≡ v.next) (given : s.has_power ≡ true)
    (failed : IsNotRead o done supply v d r e) where
  abbrev p : Progress
  p = progress v supply r.book

  abbrev f : BookFollowsRun (rule_of o) (start_at o) o.from (first_of o) done p
  f = r.recorded.followed

  abbrev was : Went
  was = went v.log done

  abbrev log : RunLog
  log = and_break v.log (cut_at s.number true 0)

  abbrev t : ToldSecond
  t = next_told log done s

  abbrev ended : Course
  ended = cut_told true (not_begun s.actions (fresh true was.before.slots))

  off : RecordUnpowered o done v (carried v r.due r.book r.standing r.brought r.hands r.firsts) d
  off = off-of o done supply v (carried v r.due r.book r.standing r.brought r.hands r.firsts) d may r.held

  ends : t ≡ told_with true true s ended
  ends = (power-on_cut (rule_of o) (start_at o) o.from (first_of o) done p f (may-fail supply v.next may) s number given (breakdowns_of d) (breakdowns_of e) failed.goes.breakdowns failed.broke).0

  goes_by : GoesOnBy p log s
  goes_by = record { number = number; given = given; breaks = (cut_at s.number true 0 ∷ [], refl, (number, tt)); finds = ([], sym (append-nil v.log.finds), tt) }

  is-next : t.second.number ≡ p.next
  is-next = ap (λ (x : ToldSecond). x.second.number) ends ∙ number

  none : t.course.found ≡ []
  none = ap (λ (x : ToldSecond). x.course.found) ends

  told-now : (went log (done ++ s ∷ [])).told ≡ was.told ++ t ∷ []
  told-now = now-told (rule_of o) (start_at o) o.from (first_of o) done p f.order f.next f.unfound s log goes_by

  slots-now : (went log (done ++ s ∷ [])).before.slots ≡ ended.slots
  slots-now = ap (λ (x : Went). x.before.slots) (now-is (rule_of o) (start_at o) o.from (first_of o) done p f.order f.next f.unfound s log goes_by) ∙ ap (λ (x : ToldSecond). x.course.slots) ends

  further : TellsMore was.told (went log (done ++ s ∷ [])).told (t ∷ []) v.next
  further = second-tells o done p f s log goes_by is-next

  verdicts : AreVerdicts o (done ++ s ∷ []) log v.unfound v.marks e
  verdicts = verdicts-on o done (done ++ s ∷ []) v.log log v.unfound v.unfound v.marks v.marks d e (t ∷ []) v.next r.beside.verdicts failed.goes.left (λ mark among. among) further
      (λ x visit verdict among seen.
      let same : t ≡ x = ⊎_elim (λ nowhere. absurd (omega (arith, nowhere.1))) (λ here. here) (Contains-push_cases [] t x among) in
      let gone : Contains {X = Visit × Verdict} [] (visit, verdict) = subst (λ (fs : List (Visit × Verdict)). Contains fs (visit, verdict)) (ap (λ (y : ToldSecond). y.course.found) (sym same) ∙ none) seen in
      absurd (omega (arith, gone.1)))
      (kept-cut (e.unit.left_since o.found.unit.began) v.unfound v.log.breaks s.number true 0 f.unfound (kept-later (d.unit.left_since o.found.unit.began) (e.unit.left_since o.found.unit.began) failed.goes.left.unit v.unfound v.log.breaks r.beside.verdicts.kept))

  fewer : AreFewer o.recording (t ∷ [])
  fewer = ((λ c. subst (λ (fs : List (Visit × Verdict)). length (filter (λ (x : Visit × Verdict). same_card c x.0.card && is_overlap o.recording c x.1) fs) ≤ length (entered_in c t)) (sym none) (omega arith)), tt)

  spared : AreSpared o (done ++ s ∷ []) log e
  spared = spared-on o done (done ++ s ∷ []) v.log log d e (t ∷ []) v.next r.beside.spared further fewer (λ c whole. inl (failed.goes.untouched c whole))

  few : AreFewFound (recording_by o (done ++ s ∷ []) log)
  few = few-on o done (done ++ s ∷ []) v.log log (t ∷ []) v.next r.few further fewer

  written : (c : Card) → IsUntouched (found_of o.found c) (card_of e c) ⊎ IsWritten o (done ++ s ∷ []) (cut_values s (In 0) v) c
  written c = ⊎_elim
      (λ whole. inl (failed.goes.untouched c whole))
      (λ (h : IsWritten o done v c). inr (record {
        may = written-on o done (done ++ s ∷ []) v.log log (t ∷ []) v.next further fewer c h.may;
        time = h.time;
        since = since-later o s.number (suc v.next - 1) (with_power_lost s.number v.cabin).slots c h.time (omega (arith, number))
            (since-cut o s.number v.cabin.slots c h.time (since-later o (v.next - 1) s.number v.cabin.slots c h.time (omega (arith, number)) h.since));
        entered_then = let was_then = h.entered_then in let grows = entered-grows o done (done ++ s ∷ []) v.log log t c h.time told-now in omega (arith, was_then, grows);
      }))
      (r.written c)

  tells : SlotsTell (start_at o) (went log (done ++ s ∷ [])).told r.book.sure [] (suc v.next - 1) (suc v.next / 60) (went log (done ++ s ∷ [])).before.slots (with_power_lost s.number v.cabin).slots
  tells =
      let T : ToldSecond = told_with true true s ended in
      let here = time-passes (start_at o) was.told r.book.sure (v.next - 1) s.number (v.next / 60) (v.next / 60) was.before.slots v.cabin.slots off.tells (omega (arith, number)) (omega arith) (omega (arith, number)) in
      let now = second-gone (start_at o) was.told r.book.sure (v.next / 60) T (with_power_lost s.number v.cabin).slots
      (power-lost (start_at o) was.told r.book.sure [] s.number (v.next / 60) was.before.slots v.cabin.slots here) in
      let on = time-passes (start_at o) (was.told ++ T ∷ []) r.book.sure s.number (suc v.next - 1) (v.next / 60) (suc v.next / 60) ended.slots (with_power_lost s.number v.cabin).slots now (omega (arith, number)) (omega arith) (omega arith) in
      subst (λ (ts : List ToldSecond). SlotsTell (start_at o) ts r.book.sure [] (suc v.next - 1) (suc v.next / 60) (went log (done ++ s ∷ [])).before.slots (with_power_lost s.number v.cabin).slots) (sym told-now)
      (subst (λ (sl : Slots). SlotsTell (start_at o) (was.told ++ t ∷ []) r.book.sure [] (suc v.next - 1) (suc v.next / 60) sl (with_power_lost s.number v.cabin).slots) (sym slots-now)
      (subst (λ (x : ToldSecond). SlotsTell (start_at o) (was.told ++ x ∷ []) r.book.sure [] (suc v.next - 1) (suc v.next / 60) ended.slots (with_power_lost s.number v.cabin).slots) (sym ends) on))

  -- the entries by hand so far
  seconds-same : All (λ (x : TraceSecond). SameAt v.log log x.number) done
  seconds-same = same-seconds o.from done p log s f.order f.next goes_by

  handed : AreHandedBehind (start_at o) r.book.sure o.found log (done ++ s ∷ []) v.stops v.marks r.hands r.firsts (session_of (with_power_lost s.number v.cabin).cards)
  handed = handed-over o.found v.log v.log log done s (In 0) (fresh true was.before.slots) t v.stops v.marks r.hands r.firsts (session_of v.cabin.cards) (session_of (with_power_lost s.number v.cabin).cards)
      (asked-broken v.log done v.log s (In 0) s.actions (nothing-told (rule_of o) (start_at o) o.from (first_of o) done p f s.number (omega (arith, number))).cut ([], refl, refl) seconds-same
      (next-powers v.log log done s seconds-same (ap (λ (x : ToldSecond). x.lit) ends)))
      told-now (ap (λ (x : ToldSecond). x.second.number) ends) none (λ x. inr (all_gone v.cabin.cards x))
      (handed-begins o.found v.log done s (fresh true was.before.slots) v.stops v.marks r.hands r.firsts (session_of v.cabin.cards) refl r.handed)

  pub reading-failed : RecordBetweenSeconds o (done ++ s ∷ []) Lost (cut_values s (In 0) v) e
  reading-failed = record {
    book = r.book;
    travel = r.travel;
    odometer = tt;
    due = r.due;
    standing = r.standing;
    brought = r.brought;
    hands = r.hands;
    firsts = r.firsts;
    handed = handed;
    recorded = failed-recorded o done p r.travel v.marks (breakdowns_of d) (breakdowns_of e) r.brought r.recorded (may-fail supply v.next may) s number given failed.goes.breakdowns failed.broke;
    beside = record { verdicts = verdicts; spared = spared; travels = failed.travels };
    there = failed.goes.there r.there;
    few = few;
    written = written;
    found = found-session o.found B None (with_session A None v.cabin.cards) (found-session o.found A None v.cabin.cards r.found);
    early = r.early;
    held = record {
      powerless = failed.powerless;
      due = let low = off.due in omega (arith, low);
      tells = tells;
      bare = λ c. all_gone v.cabin.cards c;
      driver = ap (λ (sl : Slots). is_accepted sl.driver) slots-now ∙ dark-sitting was.before.slots.driver;
      codriver = ap (λ (sl : Slots). is_accepted sl.codriver) slots-now ∙ dark-sitting was.before.slots.codriver;
    };
  }

pub reading-fails : (d e : Devices) → AReadingFails d e
reading-fails d e o done s supply v r may number given failed = reading-failed o done s supply v d e r may number given failed
