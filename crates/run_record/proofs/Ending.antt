-- A second ends: behind it all is recorded.
use Rattle.run_devices.specs.run_course.Lines.{times_of}
use Rattle.run_devices.specs.run_course.Kept.{AreMarkedSoFar}
use Rattle.std.proofs.Common.{◌≡◌, inl, inr, ⊎_elim, ℕ, suc, ◌-◌, ◌/◌, ◌<◌, false, Some, None, List, [], ◌∷◌, ◌++◌, All, Contains, length, refl, ap, sym, subst, ◌∙◌, arith, append-nil}
use Rattle.std.proofs.lemmas.List.Elements.{Contains-push_cases}
use Rattle.run_devices.specs.trace_model.declared.Card.{Card}
use Rattle.run_devices.specs.trace_model.Trace.{TraceSecond}
use Rattle.minute_rules.specs.minute_model.declared.Minute.{Minute}
use Rattle.minute_rules.specs.minute_model.Span.{Span, fed, ungiven_of}
use Rattle.minute_rules.specs.Kept.{CountsSpan}
use Rattle.run_devices.specs.history_model.Growth.{picking, settled_where}
use Rattle.run_devices.specs.log_model.declared.lines.Verdict.{Verdict}
use Rattle.run_devices.specs.log_model.Log.{RunLog, Keeping}
use Rattle.run_devices.specs.log_model.Slots.{Slots}
use Rattle.run_devices.specs.log_model.Course.{ToldSecond, Went, Course, Visit, fresh, went}
use Rattle.run_devices.specs.history_model.Minutes.{HistoryMinute}
use Rattle.run_devices.specs.history_model.History.{decided_of}
use Rattle.run_devices.specs.history_model.Book.{Book}
use Rattle.run_devices.specs.run_unit_course.Followed.{Lit}
use Rattle.run_devices.specs.run_unit_course.Legs.{Travel, travelled, all_travelled}
use Rattle.run_devices.specs.run_unit_course.Turn.{begins_with, span_at}
use Rattle.run_devices.specs.safety_model.Safe.{Devices, card_of, breakdowns_of, entered_by, IsVerdict}
use Rattle.run_devices.specs.run_promise.Found.{found_of}
use Rattle.run_devices.specs.run_course.Followed.{Progress, BookFollowsRun}
use Rattle.run_devices.specs.run_course.Seconds.{GoesOnBy, next_told, kept_all}
use Rattle.run_devices.specs.run_course.Presence.{SlotsTell}
use Rattle.run_devices.specs.run_course.Complete.{AreAcknowledged}
use Rattle.run_devices.proofs.run_course.New.{are-new}
use Rattle.run_devices.proofs.run_course.Presence.{second-gone}
use Rattle.run_devices.proofs.run_course.Steps.{now-is, now-told, rules_see}
use Rattle.run_devices.specs.run_promise.Going.{IsTakenAt}
use Rattle.run_devices.proofs.run_promise.Going.{sure-kept}
use Rattle.run_devices.specs.run_course.Moment.{goes_on}
use Rattle.run_devices.specs.run_course.Telling.{told_with}
use Rattle.run_devices.proofs.run_course.Telling.{second-ends_told}
use Rattle.run_devices.proofs.run_course.Kept.{second-decided, all-acknowledged}
use Rattle.run_devices.specs.Presence.{PresentStand}
use Rattle.run_devices.proofs.Presence.{next-begins}
use Rattle.run_devices.specs.run_promise.Origin.{Origin, rule_of, start_at, first_of, HistoryIsRecorded}
use Rattle.run_devices.specs.run_promise.Seconds.{went_on, seated_now, AreTaken}
use Rattle.run_devices.specs.run_promise.Ends.{recording_by, BringsAll, AreFound, AreVerdicts, AreSpared}
use Rattle.run_devices.specs.run_promise.Beside.{MayBeFound, AreFewFound}
use Rattle.run_devices.proofs.run_promise.Seconds.{second-is_recorded}
use Rattle.run_devices.proofs.run_promise.Beside.{second-tells, verdicts-on, kept-on}
use Rattle.run_devices.specs.unit_model.Image.{odometer_at}
use Rattle.run_devices.specs.unit_rule.Odometer.{odometer_after}
use Rattle.run_record.specs.Recorded.{Values, progress, AreBack, IsWritten}
use Rattle.run_record.specs.Within.{told_before, course_in, overlaps_by, MayBeWrittenSo, RecordInSecond, passed_values, RecordedFrom}
use Rattle.run_record.proofs.Cutting.{marks-all}
use Rattle.run_record.proofs.Spans.{AreAlike, alike}
use Rattle.run_record.proofs.Back.{back-plain}
use Rattle.run_record.proofs.Stays.{since-later}
use Rattle.run_record.proofs.Written.{few-so_far}
use Rattle.run_record.proofs.Parts.{still, verdict-by, often-by, entered-grows, entered-by_end, overlaps-by_end, HasAccepted, accepted-or}
use Rattle.run_record.proofs.Asked.{same-seconds, next-powers, asked-whole}
use Rattle.run_record.proofs.HandedSteps.{handed-over, none-less}
use Rattle.run_record.specs.Handed.{AreHandedBehind}
use Rattle.run_devices.specs.log_model.Same.{SameAt}
use Rattle.run_devices.specs.run_crew.Cards.{session_of}

-- minutes that are kept add nothing to what was travelled before the span
pub same-before : (ds : List Minute) (g : Travel) → (all_travelled ds g).before ≡ g.before
same-before [] g = refl
same-before (m ∷ ds) g = same-before ds (travelled m.minute m.travelled g)

module _ (o : Origin) (done : List TraceSecond) (s : TraceSecond) (v : Values) (d : Devices) (w : RecordInSecond o done s Keeping [] (Some s.speed) [] v d) where
  abbrev p : Progress
  p = w.b.run

  abbrev log : RunLog
  log = v.log

  abbrev c : Course
  c = course_in w.b done s Keeping log

  abbrev t : ToldSecond
  t = next_told log done s

  abbrev told0 : List ToldSecond
  told0 = told_before w.b done

  abbrev f : BookFollowsRun (rule_of o) (start_at o) o.from (first_of o) done p
  f = w.began.followed

  abbrev T : ToldSecond
  T = told_with (begins_with w.b.span) false s c

  ends : t ≡ T
  ends = (second-ends_told (rule_of o) (start_at o) o.from (first_of o) done p f w.b.span w.lit s log w.b.broken (breakdowns_of d) w.moment).0

  abbrev goes : GoesOnBy p log s
  goes = goes_on w.moment

  number : t.second.number ≡ p.next
  number = ap (λ (x : ToldSecond). x.second.number) ends ∙ w.moment.number

  course-is : t.course ≡ c
  course-is = ap (λ (x : ToldSecond). x.course) ends

  decides : decided_of (rule_of o) (w.b.span ++ t ∷ []) ≡ decided_of (rule_of o) w.b.span ++ w.ds
  decides =
      second-decided (rule_of o) (start_at o) o.from (first_of o) done p f w.b.span w.lit s log goes c w.sp w.ds [] w.new w.decided (ap (λ (x : ToldSecond). x.second.picks) ends) (ap (λ (x : ToldSecond). x.course.settled) ends) (ap (λ (x : ToldSecond). x.second.speed) ends)
      ∙ ap (λ (xs : List Minute). decided_of (rule_of o) w.b.span ++ xs) (append-nil w.ds)

  new-is : seated_now o log done s p w.ds ≡ w.new
  new-is =
      still (start_at o) told0 t p.book.sure p.next w.ds [] number
      (subst (All (λ (d : Minute). d.minute < p.next / 60)) (sym (append-nil w.ds)) (are-new (rule_of o) (start_at o) o.from (first_of o) done p f w.b.span w.lit w.began.waiting s log goes w.ds decides).over)
      ∙ sym w.decided.seated_

  found-is : t.course.found ≡ c.found
  found-is = ap (λ (x : Course). x.found) course-is

  takes : AreTaken o p.book (kept_all (seated_now o log done s p w.ds) p.book) t (seated_now o log done s p w.ds) w.b.brought w.brought
  takes card valid = (
    w.more card,
    ⊎_elim
        (λ none. inl none)
        (λ (one : HasAccepted card t.course.found).
        let there : Contains c.found (one.e, one.v) = subst (λ (fs : List (Visit × Verdict)). Contains fs (one.e, one.v)) found-is one.at in
        let k = w.finds.taken one.e one.v there one.accepts in
        inr (
          k.0,
          subst (λ (x : Card). Contains (w.brought x) k.0) one.card k.1,
          subst (λ (is : List HistoryMinute). IsTakenAt (first_of o) p.book (kept_all is p.book) is k.0) (sym new-is) k.2,
        ))
        (accepted-or card t),
  )

  acks : AreAcknowledged v.marks (told0 ++ t ∷ []) p.next t (seated_now o log done s p w.ds)
  acks = subst (AreAcknowledged v.marks (told0 ++ t ∷ []) p.next t) (sym new-is)
      (all-acknowledged v.marks told0 t p.next w.new number
      (subst (λ (n : ℕ). AreMarkedSoFar v.marks told0 t.course n w.new) w.moment.number (subst (λ (x : Course). AreMarkedSoFar v.marks told0 x s.number w.new) (sym course-is) w.marked)))

  abbrev span : List ToldSecond
  span = w.b.span ++ t ∷ []

  abbrev book : Book
  book = kept_all w.new p.book

  recorded-so : HistoryIsRecorded o (done ++ s ∷ []) (went_on log done s w.b.span (seated_now o log done s p w.ds) p) (all_travelled w.ds w.b.travel) v.marks (breakdowns_of d) w.brought
  recorded-so = second-is_recorded o done p w.b.travel w.b.marks v.marks w.b.broken (breakdowns_of d) w.b.brought w.brought w.began w.b.span w.lit s log w.moment w.ds decides (marks-all w.b.marks v.marks w.stay) acks takes

  recorded : HistoryIsRecorded o (done ++ s ∷ []) (progress (passed_values s v) (Lit span) book) (all_travelled w.ds w.b.travel) v.marks (breakdowns_of d) w.brought
  recorded =
      let R : Progress → Type 0 = λ (q : Progress). HistoryIsRecorded o (done ++ s ∷ []) q (all_travelled w.ds w.b.travel) v.marks (breakdowns_of d) w.brought in
      subst (λ (n : ℕ). R (record (progress (passed_values s v) (Lit span) book) { unfound = n })) (sym w.unfound)
      (subst (λ (n : ℕ). R (record (progress (passed_values s v) (Lit span) book) { unfound = p.unfound; next = suc n })) (sym w.next)
      (subst (λ (is : List HistoryMinute). R (went_on log done s w.b.span is p)) new-is recorded-so))

  told-now : (went log (done ++ s ∷ [])).told ≡ told0 ++ t ∷ []
  told-now = now-told (rule_of o) (start_at o) o.from (first_of o) done p f.order f.next f.unfound s log goes

  slots-now : (went log (done ++ s ∷ [])).before.slots ≡ t.course.slots
  slots-now = ap (λ (x : Went). x.before.slots) (now-is (rule_of o) (start_at o) o.from (first_of o) done p f.order f.next f.unfound s log goes)

  verdicts : AreVerdicts o (done ++ s ∷ []) log v.unfound v.marks d
  verdicts = verdicts-on o done (done ++ s ∷ []) p.log log p.unfound v.unfound w.b.marks v.marks d d (t ∷ []) p.next w.verdicts (record { unit = λ x h. h; card = λ c x h. h }) w.stay (second-tells o done p f s log goes number)
      (λ x e verdict among seen.
      let same : t ≡ x = ⊎_elim (λ none. absurd (omega (arith, none.1))) (λ here. here) (Contains-push_cases [] t x among) in
      subst (λ (y : ToldSecond). MayBeFound o (done ++ s ∷ []) log v.marks d y e verdict) same
      (let there : Contains c.found (e, verdict) = subst (λ (fs : List (Visit × Verdict)). Contains fs (e, verdict)) (ap (λ (y : ToldSecond). y.course.found) (sym same) ∙ found-is) seen in
      let may = w.finds.may e verdict there in
      let is : t.second.number ≡ s.number = ap (λ (y : ToldSecond). y.second.number) ends in
      let count = often-by o done (done ++ s ∷ []) p.log log t e.card s.number told-now is in
      subst (λ (n : ℕ). IsVerdict (recording_by o (done ++ s ∷ []) log) (d.unit.left_since o.found.unit.began) ((card_of d e.card).left_since (found_of o.found e.card).began) e.card n verdict × BringsAll (recording_by o (done ++ s ∷ []) log) v.marks e.card n verdict) (sym is)
      (verdict-by o w.b done (done ++ s ∷ []) log may.0 v.marks (d.unit.left_since o.found.unit.began) ((card_of d e.card).left_since (found_of o.found e.card).began) e.card s.number verdict
      (let low = may.1 in let same_times = ap (λ (y : Course). times_of e.card y.entered) course-is in omega (arith, low, count, same_times)) (λ n. entered-grows o done (done ++ s ∷ []) p.log log t e.card n told-now) may.2)))
      (subst (λ (n : ℕ). AreFound (d.unit.left_since o.found.unit.began) n log.breaks) (sym w.unfound)
      (subst (AreFound (d.unit.left_since o.found.unit.began) p.unfound) (sym w.moment.breaks_are) (kept-on (d.unit.left_since o.found.unit.began) p.unfound p.log.breaks w.moment.breaks f.unfound w.verdicts.kept w.moment.uncut)))

  written : (card : Card) → MayBeWrittenSo o w.b done c [] s.number v.cabin.slots card → IsWritten o (done ++ s ∷ []) (passed_values s v) card
  written card h = record {
    may = (
      h.valid,
      let a = entered-by_end o done (done ++ s ∷ []) p.log log t card told-now in
          let b = overlaps-by_end o done (done ++ s ∷ []) p.log log t card told-now in
          let lt = h.fewer in
          let entered_ = ap (λ (y : Course). times_of card y.entered) course-is in
          let found_ = ap (λ (fs : List (Visit × Verdict)). length (overlaps_by o card fs)) found-is in
          omega (arith, a, b, lt, entered_, found_),
    );
    time = h.time;
    since = since-later o s.number (suc v.next - 1) v.cabin.slots card h.time (let is = w.moment.number in let next = w.next in omega (arith, is, next)) h.since;
    entered_then = ⊎_elim
        (λ before. let grows = entered-grows o done (done ++ s ∷ []) p.log log t card h.time told-now in omega (arith, before, grows))
        (λ now.
        let count = often-by o done (done ++ s ∷ []) p.log log t card s.number told-now (ap (λ (y : ToldSecond). y.second.number) ends) in
        let entered_ = ap (λ (y : Course). times_of card y.entered) course-is in
        subst (λ (n : ℕ). 0 < entered_by (recording_by o (done ++ s ∷ []) log) card n) (sym now.0) (let lt = now.1 in omega (arith, count, entered_, lt)))
        h.entered_then;
  }

  spared : AreSpared o (done ++ s ∷ []) log d
  spared card = ⊎_elim (λ whole. inl whole) (λ may. inr (written card may).may) (w.spared card)

  few : AreFewFound (recording_by o (done ++ s ∷ []) log)
  few card =
      let a = entered-by_end o done (done ++ s ∷ []) p.log log t card told-now in
      let b = overlaps-by_end o done (done ++ s ∷ []) p.log log t card told-now in
      let le = few-so_far o w.b done c [] card w.few (w.moment.counted card) in
      let entered_ = ap (λ (y : Course). times_of card y.entered) course-is in
      let found_ = ap (λ (fs : List (Visit × Verdict)). length (overlaps_by o card fs)) found-is in
      omega (arith, a, b, le, entered_, found_)

  -- the span as the rules of minutes have it
  abbrev seen : Span
  seen = fed (picking c.picks (settled_where c.settled (span_at (rule_of o) p.next w.b.span))) s.speed

  seen-is : span_at (rule_of o) (suc v.next) span ≡ seen
  seen-is =
      ap (λ (n : ℕ). span_at (rule_of o) (suc n) span) w.next
      ∙ rules_see (rule_of o) (start_at o) o.from (first_of o) done p f w.b.span w.lit s log goes
      ∙ ap (λ (x : ToldSecond). fed (picking x.second.picks (settled_where x.course.settled (span_at (rule_of o) p.next w.b.span))) x.second.speed) ends

  same-span : AreAlike w.sp seen
  same-span = subst (λ (x : Span). AreAlike x seen) (sym w.decided.span_is) (alike w.decided.times c.settled c.picks (span_at (rule_of o) p.next w.b.span) s.speed w.decided.settles)

  pub from-is : w.from ≡ ungiven_of (span_at (rule_of o) (suc v.next) span)
  from-is = (let to = w.until in let e : w.from ≡ ungiven_of w.sp = omega (arith, to) in e) ∙ same-span.ungiven ∙ ap ungiven_of (sym seen-is)

  gone : SlotsTell (start_at o) (told0 ++ T ∷ []) (p.book.sure ++ w.new) [] s.number w.from c.slots v.cabin.slots
  gone = second-gone (start_at o) told0 (p.book.sure ++ w.new) w.from T v.cabin.slots w.tells

  last-number : s.number ≡ suc v.next - 1
  last-number = let is = w.moment.number in let next = w.next in omega (arith, is, next)

  tells : SlotsTell (start_at o) (went log (done ++ s ∷ [])).told book.sure [] (suc v.next - 1) (ungiven_of (span_at (rule_of o) (suc v.next) span)) (went log (done ++ s ∷ [])).before.slots v.cabin.slots
  tells =
      let U : ℕ = ungiven_of (span_at (rule_of o) (suc v.next) span) in
      subst (λ (ts : List ToldSecond). SlotsTell (start_at o) ts book.sure [] (suc v.next - 1) U (went log (done ++ s ∷ [])).before.slots v.cabin.slots) (sym told-now)
      (subst (λ (sl : Slots). SlotsTell (start_at o) (told0 ++ t ∷ []) book.sure [] (suc v.next - 1) U sl v.cabin.slots) (sym slots-now)
      (subst (λ (x : ToldSecond). SlotsTell (start_at o) (told0 ++ x ∷ []) book.sure [] (suc v.next - 1) U x.course.slots v.cabin.slots) (sym ends)
      (subst (λ (is : List HistoryMinute). SlotsTell (start_at o) (told0 ++ T ∷ []) is [] (suc v.next - 1) U c.slots v.cabin.slots) (sym (sure-kept w.new None p.book))
      (subst (λ (n : ℕ). SlotsTell (start_at o) (told0 ++ T ∷ []) (p.book.sure ++ w.new) [] n U c.slots v.cabin.slots) last-number
      (subst (λ (n : ℕ). SlotsTell (start_at o) (told0 ++ T ∷ []) (p.book.sure ++ w.new) [] s.number n c.slots v.cabin.slots) from-is gone)))))

  present : PresentStand o.found w.standing (went log (done ++ s ∷ [])).told (fresh false (went log (done ++ s ∷ [])).before.slots) (suc v.next - 1) (ungiven_of (span_at (rule_of o) (suc v.next) span)) v.cabin
  present =
      let U : ℕ = ungiven_of (span_at (rule_of o) (suc v.next) span) in
      subst (λ (ts : List ToldSecond). PresentStand o.found w.standing ts (fresh false (went log (done ++ s ∷ [])).before.slots) (suc v.next - 1) U v.cabin) (sym told-now)
      (subst (λ (sl : Slots). PresentStand o.found w.standing (told0 ++ t ∷ []) (fresh false sl) (suc v.next - 1) U v.cabin) (sym slots-now)
      (subst (λ (x : ToldSecond). PresentStand o.found w.standing (told0 ++ x ∷ []) (fresh false x.course.slots) (suc v.next - 1) U v.cabin) (sym ends)
      (subst (λ (n : ℕ). PresentStand o.found w.standing (told0 ++ T ∷ []) (fresh false c.slots) n U v.cabin) last-number
      (subst (λ (n : ℕ). PresentStand o.found w.standing (told0 ++ T ∷ []) (fresh false c.slots) s.number n v.cabin) from-is
      (next-begins o.found w.standing told0 T s.number s.number w.from v.cabin refl (omega arith) w.present)))))

  -- the entries by hand so far
  seconds-same : All (λ (x : TraceSecond). SameAt p.log log x.number) done
  seconds-same = same-seconds o.from done p log s f.order f.next goes

  handed : AreHandedBehind (start_at o) book.sure o.found log (done ++ s ∷ []) v.stops v.marks w.hands w.firsts (session_of v.cabin.cards)
  handed = handed-over o.found p.log log log done s Keeping c t v.stops v.marks w.hands w.firsts (session_of v.cabin.cards) (session_of v.cabin.cards)
      (asked-whole p.log done log s seconds-same (next-powers p.log log done s seconds-same (ap (λ (x : ToldSecond). x.lit) ends))) told-now (ap (λ (x : ToldSecond). x.second.number) ends) found-is (none-less (session_of v.cabin.cards)) w.handed

  pub second-over : RecordedFrom o (done ++ s ∷ []) (Lit span) (passed_values s v) d w.b.travel.before
  second-over = record {
    travelled_before = same-before w.ds w.b.travel;
    recorded = record {
      book = book;
      travel = all_travelled w.ds w.b.travel;
      odometer = w.odometer ∙ ap (odometer_after (odometer_at o.recording.unit)) (sym (same-before w.ds w.b.travel));
      due = w.due;
      standing = w.standing;
      brought = w.brought;
      hands = w.hands;
      firsts = w.firsts;
      handed = handed;
      recorded = recorded;
      beside = record { verdicts = verdicts; spared = spared; travels = w.travels };
      there = w.there;
      few = few;
      written = λ card. ⊎_elim (λ whole. inl whole) (λ may. inr (written card may)) (w.spared card);
      found = w.found;
      early = w.early;
      held = record {
        powered = w.powered;
        due = let late = w.late in let is = from-is in omega (arith, late, is);
        minutes = subst (λ (x : Span). CountsSpan v.minutes x) (sym seen-is) (same-span.stands v.minutes w.minutes);
        tells = tells;
        present = present;
        back = subst (λ (n : ℕ). AreBack n v.cabin) from-is (back-plain o done s Keeping [] (Some s.speed) v d w);
        written = λ card some. written card (w.written card some);
      };
    };
  }
