-- What is recorded, over each kind of second of a run.
use Rattle.std.proofs.Common.{◌≡◌, inl, inr, ⊎_elim, ℕ, zero, suc, ◌+◌, ◌-◌, ◌%◌, ◌^◌, ◌<◌, ◌≤◌, true, false, Option, Some, None, List, [], ◌∷◌, ◌++◌, Contains, length, filter, refl, ap, sym, subst, ◌∙◌, arith, append-nil, append_assoc}
use Rattle.std.specs.Prelude.{option_map, option_to_list}
use Rattle.std.proofs.lemmas.List.Elements.{Contains-push, Contains-append_left}
use Rattle.run_course.specs.trace_model.declared.Card.{Card}
use Rattle.run_course.specs.trace_model.Trace.{TraceSecond, driven, dark}
use Rattle.run_course.specs.run_model.declared.Device.{Device}
use Rattle.run_course.specs.run_model.declared.Device.TheVariants.{Unit as Recorder}
use Rattle.run_course.specs.minute_model.declared.Minute.{Minute}
use Rattle.run_course.specs.log_model.declared.lines.Break.{Break}
use Rattle.run_course.specs.log_model.declared.lines.Mark.{Mark}
use Rattle.run_course.specs.log_model.declared.lines.Refused.{Refused}
use Rattle.run_course.specs.log_model.Log.{RunLog, Keeping, cut_in}
use Rattle.run_course.specs.log_model.Slots.{Slots, same_card}
use Rattle.run_course.specs.log_model.Causes.{device_of, second_of, cuts, cards_torn, RoseBy}
use Rattle.run_course.specs.log_model.Course.{ToldSecond, Went, went}
use Rattle.run_course.specs.history_model.Minutes.{HistoryMinute}
use Rattle.run_course.specs.history_model.History.{seated, minutes_after, decided_of}
use Rattle.run_course.specs.history_model.Completeness.{FailedCutIn}
use Rattle.run_course.proofs.history_model.Closing.{minutes-parts}
use Rattle.unit_rule.specs.run_unit_course.Caused.{cuts_by}
use Rattle.unit_rule.specs.run_unit_course.Lines.{cut_at}
use Rattle.unit_rule.specs.run_unit_course.Followed.{UnitPower, Lit, IsDark}
use Rattle.unit_rule.specs.run_unit_course.Legs.{Travel, stranded_at, all_travelled}
use Rattle.unit_rule.proofs.run_unit_course.Offs.{by-same}
use Rattle.run_course.specs.Moments.{and_break}
use Rattle.run_course.specs.Followed.{Progress, BookFollowsRun}
use Rattle.run_course.specs.Seconds.{GoesOnBy, next_told, DecidedBy, kept_all, broken_at}
use Rattle.run_course.specs.Complete.{AllMarked, AreAcknowledged}
use Rattle.run_course.specs.Caused.{AreNewCauses}
use Rattle.run_course.specs.Travelled.{HasLegs}
use Rattle.run_course.specs.Quiet.{quiet_second, quiet_seconds, quiet_on, begun_after}
use Rattle.run_course.proofs.Caused.{second-caused, run-caused, found-caused, off-caused, off-cut-caused}
use Rattle.run_course.proofs.Complete.{more-marks, nothing-yet, acknowledged}
use Rattle.run_course.proofs.Dark.{dark-caused, dark-complete, off-complete}
use Rattle.run_course.proofs.Quiet.{quiet-are-told, quiet-go-on, quiet-travelled, quiet-caused, quiet-complete}
use Rattle.run_course.proofs.Staying.{failure-stays, found-stays, cut-stays_}
use Rattle.run_course.proofs.Steps.{went-same_, now-told, goes_on, breaks_off, power_finds, power_fails, stays_dark, off_dark, off_cuts, begins_run}
use Rattle.unit_rule.proofs.run_unit_course.Legs.{travelled-image, stranded-image}
use Rattle.run_course.proofs.Travelled as legs
use Rattle.run_promise.specs.Going.{AreAccounted}
use Rattle.run_promise.proofs.Going.{second-accounted, sure-kept, books-kept, books-broken, nothing-accounted}
use Rattle.run_promise.proofs.Lines.{accepts-none}
use Rattle.run_promise.proofs.Quiet.{failure-accounted, found-accounted, dark-accounted, off-accounted, off-cut-accounted}
use Rattle.run_course.specs.Moment.{Moment, goes_on as lines_of}
use Rattle.run_course.specs.Telling.{begun_by, told_with}
use Rattle.run_course.proofs.Reached.{nothing-told, goes-itself, push-each}
use Rattle.run_course.proofs.Moment.{moment-begins}
use Rattle.run_course.proofs.Telling.{keeping-comes, second-ends_told, cut-ends_told, cut-now}
use Rattle.run_course.proofs.Failing.{power-on_cut}
use Rattle.run_promise.specs.Origin.{Origin, rule_of, start_at, first_of, HistoryIsRecorded}
use Rattle.run_promise.specs.Seconds.{NothingIsRecorded, at_start, empty_log, found_again, WhatWasKeptIsFound, MoreIsRecorded, AreTaken, went_on, seated_now, ASecondIsRecorded, broke_off, seated_next, ASecondIsBroken, failed_on, AFailedPowerOnIsRecorded, QuietSecondsAreRecorded, passed_dark, DarkSecondsAreRecorded, gone_off, AnOffLineIsRecorded, cut_off, AnOffCutIsRecorded}

-- AT THE START
pub nothing-recorded : NothingIsRecorded
nothing-recorded o early = record {
  followed = begins_run (rule_of o) (start_at o) o.from (first_of o) early;
  waiting = refl;
  legs = legs.nothing-travelled (rule_of o) (first_of o) o.recording.unit (at_start o) refl;
  complete = nothing-yet (rule_of o) (start_at o) empty_log [];
  caused = run-caused o.breakdowns (at_start o) refl;
  image = refl;
  accounts = λ c valid. nothing-accounted o.recording c (first_of o) (at_start o) refl;
}

-- POWER IS BACK
pub found-recorded : WhatWasKeptIsFound
found-recorded o done p g marks now brought h may k leg shows = record {
  followed = power_finds (rule_of o) (start_at o) o.from (first_of o) done p h.followed may k shows.mark shows.low;
  waiting = refl;
  legs = legs.found-travelled (rule_of o) (start_at o) o.from (first_of o) done p h.followed g h.legs may k leg shows;
  complete = found-stays (rule_of o) (start_at o) o.from (first_of o) done p h.followed may k shows.mark shows.low marks h.complete;
  caused = found-caused (rule_of o) (start_at o) o.from (first_of o) done p h.followed k o.breakdowns now h.caused (found_again k p) refl (λ dark. absurd dark);
  image = h.image;
  accounts = λ c valid. found-accounted o.recording c o.from (first_of o) done p h.followed may k shows.mark shows.low (brought c) (h.accounts c valid);
}

-- MORE
rose-more : (n before mid now : ℕ) → RoseBy n before mid → mid ≤ now → RoseBy n before now
rose-more n before mid now (inl low) le = inl (omega (arith, low, le))
rose-more n before mid now (inr top) le = inr (full mid now top le)
  where
    full : (mid now : ℕ) → 2 ^ 64 - 1 ≤ mid → mid ≤ now → 2 ^ 64 - 1 ≤ now
    full mid now top le = omega (arith, top, le)

pub more-recorded : MoreIsRecorded
more-recorded o done p g marks more now later brought h stay rise =
    let c = h.caused.caused in
    record {
      followed = h.followed;
      waiting = h.waiting;
      legs = h.legs;
      complete = more-marks (rule_of o) (start_at o) p.log (went p.log done).told marks more stay h.complete;
      caused = record {
        caused = record {
          refused = c.refused;
          cut_seconds = c.cut_seconds;
          off_lines = c.off_lines;
          failed_cuts = rose-more (length (cuts true p.log)) (o.breakdowns Recorder) (now Recorder) (later Recorder) c.failed_cuts rise.unit;
          tear_lines = c.tear_lines;
          failed_tears = c.failed_tears;
          torn_cards = λ card. rose-more (length (filter (same_card card) (cards_torn (went p.log done).told))) (o.breakdowns (device_of card)) (now (device_of card)) (later (device_of card)) (c.torn_cards card) (let same = rise.cards card in omega (arith, same));
          calm_cards = λ card none. rise.cards card ∙ c.calm_cards card none;
          begun = c.begun;
          moments = c.moments;
          order = c.order;
          finds = c.finds;
          judged = c.judged;
        };
        over = h.caused.over;
      };
      image = h.image;
      accounts = h.accounts;
    }

-- A SECOND MORE
module _ (o : Origin) (done : List TraceSecond) (p : Progress) (g : Travel) (marks : List Mark) (mid : Device → ℕ) (brought : Card → List ℕ) (h : HistoryIsRecorded o done p g marks mid brought) where
  same-told : (s : TraceSecond) (log : RunLog) → GoesOnBy p log s → (went log done).told ≡ (went p.log done).told
  same-told s log by = ap (λ (w : Went). w.told) (went-same_ (rule_of o) (start_at o) o.from (first_of o) done p h.followed.order h.followed.next h.followed.unfound s log by)

  told-now : (s : TraceSecond) (log : RunLog) → GoesOnBy p log s → (went log (done ++ s ∷ [])).told ≡ (went p.log done).told ++ next_told log done s ∷ []
  told-now s log by = now-told (rule_of o) (start_at o) o.from (first_of o) done p h.followed.order h.followed.next h.followed.unfound s log by

  decided-now : (s : TraceSecond) (log : RunLog) → GoesOnBy p log s → (span : List ToldSecond) (ds : List Minute) → decided_of (rule_of o) (span ++ next_told log done s ∷ []) ≡ decided_of (rule_of o) span ++ ds →
      DecidedBy (rule_of o) (start_at o) log done s span p.book (seated_now o log done s p ds)
  decided-now s log by span ds is = (ds, is, ap (λ (ts : List ToldSecond). minutes_after (start_at o) (ts ++ next_told log done s ∷ []) p.book.sure ds) (sym (same-told s log by)))

  pub second-recorded : (more : List Mark) (now : Device → ℕ) (taken : Card → List ℕ) (span : List ToldSecond) → p.supply ≡ Lit span → (s : TraceSecond) (log : RunLog) → Moment p (went p.log done).before s Keeping log [] mid now →
      (ds : List Minute) → decided_of (rule_of o) (span ++ next_told log done s ∷ []) ≡ decided_of (rule_of o) span ++ ds → AllMarked marks more →
      AreAcknowledged more ((went p.log done).told ++ next_told log done s ∷ []) p.next (next_told log done s) (seated_now o log done s p ds) →
      AreTaken o p.book (kept_all (seated_now o log done s p ds) p.book) (next_told log done s) (seated_now o log done s p ds) brought taken →
      HistoryIsRecorded o (done ++ s ∷ []) (went_on log done s span (seated_now o log done s p ds) p) (all_travelled ds g) more now taken
  second-recorded more now taken span is s log m ds decides stay acks takes =
      let by : GoesOnBy p log s = lines_of m in
      let t : ToldSecond = next_told log done s in
      let new : List HistoryMinute = seated_now o log done s p ds in
      let q : Progress = went_on log done s span new p in
      let decided = decided-now s log by span ds decides in
      let ends = second-ends_told (rule_of o) (start_at o) o.from (first_of o) done p h.followed span is s log mid now m in
      record {
        followed = goes_on (rule_of o) (start_at o) o.from (first_of o) done p h.followed span is h.waiting s log by m.up_to.uncut new decided;
        waiting = refl;
        legs = subst (λ (ts : List ToldSecond). HasLegs (rule_of o) (first_of o) (done ++ s ∷ []) (went_on log done s span (minutes_after (start_at o) (ts ++ t ∷ []) p.book.sure ds) p) (all_travelled ds g)) (same-told s log by)
            (legs.second-travelled (rule_of o) (start_at o) o.from (first_of o) done p h.followed g h.legs span is h.waiting s log by ds decides);
        complete = acknowledged (rule_of o) (start_at o) o.from (first_of o) done p h.followed span is h.waiting s log by new decided marks more stay h.complete
            (subst (λ (ts : List ToldSecond). AreAcknowledged more ts p.next t new) (sym (told-now s log by)) acks)
            (λ cut. absurd (let clash : false ≡ true = sym (ap (λ (x : ToldSecond). x.cut) ends.0) ∙ cut in cc));
        caused = second-caused (rule_of o) (start_at o) o.from (first_of o) done p h.followed s log by m.refused m.refused_are o.breakdowns mid now ends.1 h.caused q refl (λ dark. absurd (lit-dark q.supply (span ++ t ∷ []) refl dark));
        image = travelled-image ds g ∙ h.image;
        accounts = λ c valid. second-accounted o.recording c o.from (first_of o) done p h.followed span is h.waiting s log by new decided q
            (record { log = refl; unfound = refl; next = refl; supply = inl (refl, m.up_to.uncut); sure = (new, sure-kept new None p.book); books = λ i at. books-kept new p.book i at })
            (brought c) (taken c) (takes c valid).0 (takes c valid).1 (h.accounts c valid);
      }
    where
      lit-dark : (sp : UnitPower) (span : List ToldSecond) → sp ≡ Lit span → IsDark sp → ⊥
      lit-dark sp span is dark = subst IsDark is dark

  -- a cut's second
  module _ (s : TraceSecond) (log : RunLog) (by : GoesOnBy p log s) (begun : ℕ) (cut : cut_in log s.number ≡ Some begun) (span : List ToldSecond) (is : p.supply ≡ Lit span) where
    abbrev t : ToldSecond
    t = next_told log done s

    abbrev told : List ToldSecond
    told = (went p.log done).told ++ t ∷ []

    -- each minute of a cut's second is acknowledged, or the cut excuses it
    cut-acks : (more : List Mark) (new : List HistoryMinute) → t.cut ≡ true → AreAcknowledged more told p.next t new
    cut-acks more new cut_ = record { unit = λ i at. inr cut_; card = λ i card e at on. inr (inl cut_) }

    -- what was kept of it, and what may be
    parts : (front : List Minute) (d : Option Minute) (ds : List Minute) →
        (rest : List HistoryMinute) × (seated_now o log done s p (front ++ (option_to_list d ++ ds)) ≡ seated_now o log done s p front ++ (option_to_list (seated_next o log done s p front d) ++ rest))
    parts front None ds =
        (minutes_after (start_at o) told (p.book.sure ++ seated_now o log done s p front) ds, minutes-parts (rule_of o) (start_at o) told p.book.sure front ds)
    parts front (Some d) ds =
        let past : List HistoryMinute = p.book.sure ++ seated_now o log done s p front in
        (minutes_after (start_at o) told (past ++ seated (start_at o) told past d ∷ []) ds, minutes-parts (rule_of o) (start_at o) told p.book.sure front (d ∷ ds))

    pub broken-recorded : (more : List Mark) (later : Device → ℕ) (taken : Card → List ℕ) (refused : List Refused) → log.refused ≡ p.log.refused ++ refused → AreNewCauses mid later by.breaks.0 by.finds.0 refused log s t →
        t.cut ≡ true → FailedCutIn log p.next → (front : List Minute) (d : Option Minute) (ds : List Minute) → decided_of (rule_of o) (span ++ t ∷ []) ≡ decided_of (rule_of o) span ++ (front ++ (option_to_list d ++ ds)) → AllMarked marks more →
        AreTaken o p.book (broken_at (seated_next o log done s p front d) (kept_all (seated_now o log done s p front) p.book)) t (seated_now o log done s p (front ++ (option_to_list d ++ ds))) brought taken →
        HistoryIsRecorded o (done ++ s ∷ []) (broke_off log s (seated_now o log done s p front) (seated_next o log done s p front d) p) (stranded_at d (all_travelled front g)) more later taken
    broken-recorded more later taken refused refused_are causes cut_ fails front d ds decides stay takes =
        let all_ : List Minute = front ++ (option_to_list d ++ ds) in
        let kept : List HistoryMinute = seated_now o log done s p front in
        let i : Option HistoryMinute = seated_next o log done s p front d in
        let new : List HistoryMinute = seated_now o log done s p all_ in
        let q : Progress = broke_off log s kept i p in
        let decided = decided-now s log by span all_ decides in
        let rest = parts front d ds in
        record {
          followed = breaks_off (rule_of o) (start_at o) o.from (first_of o) done p h.followed span is h.waiting s log by begun cut new kept rest.0 i decided rest.1;
          waiting = refl;
          legs = subst
              (λ (ts : List ToldSecond).
              let front_ : List HistoryMinute = minutes_after (start_at o) (ts ++ t ∷ []) p.book.sure front in
              HasLegs (rule_of o) (first_of o) (done ++ s ∷ []) (broke_off log s front_ (option_map {T = Minute} (seated (start_at o) (ts ++ t ∷ []) (p.book.sure ++ front_)) d) p) (stranded_at d (all_travelled front g)))
              (same-told s log by)
              (legs.broken-travelled (rule_of o) (start_at o) o.from (first_of o) done p h.followed g h.legs span is h.waiting s log by begun cut front d ds decides);
          complete = acknowledged (rule_of o) (start_at o) o.from (first_of o) done p h.followed span is h.waiting s log by new decided marks more stay h.complete
              (subst (λ (ts : List ToldSecond). AreAcknowledged more ts p.next t new) (sym (told-now s log by)) (cut-acks more new cut_)) (λ cut. fails);
          caused = second-caused (rule_of o) (start_at o) o.from (first_of o) done p h.followed s log by refused refused_are o.breakdowns mid later causes h.caused q refl (λ dark. inr cut_);
          image = stranded-image d (all_travelled front g) ∙ travelled-image front g ∙ h.image;
          accounts = λ c valid. second-accounted o.recording c o.from (first_of o) done p h.followed span is h.waiting s log by new decided q
              (record {
                log = refl;
                unfound = refl;
                next = refl;
                supply = inr refl;
                sure = (kept, sure-kept kept i p.book);
                books = λ j at. ⊎_elim
                    (λ old. inl old)
                    (λ mine. inr (subst (λ (is : List HistoryMinute). Contains is j) (append_assoc kept (option_to_list i) rest.0 ∙ sym rest.1) (Contains-append_left (kept ++ option_to_list i) rest.0 j mine)))
                    (books-broken kept i p.book j at);
              })
              (brought c) (taken c) (takes c valid).0 (takes c valid).1 (h.accounts c valid);
        }

pub second-is_recorded : ASecondIsRecorded
second-is_recorded o done p g marks more mid now brought taken h span is s log m ds decides stay acks takes = second-recorded o done p g marks mid brought h more now taken span is s log m ds decides stay acks takes

pub second-is_broken : ASecondIsBroken
second-is_broken o done p g marks more mid now later brought taken h span is s at log waits m rise broke rest left front d ds decides stay takes =
    let cut : Break = cut_at s.number true (begun_by s at) in
    let ends = cut-ends_told (rule_of o) (start_at o) o.from (first_of o) done p h.followed span is s at log waits mid now later m rise broke rest left in
    let fails : FailedCutIn (and_break log cut) p.next =
    subst (λ (us : List ℕ). Contains us p.next) (sym (by-same log.breaks s.number true (begun_by s at)))
    (subst (λ (n : ℕ). Contains (cuts_by true log.breaks ++ n ∷ []) p.next) (sym m.number) (Contains-push (cuts_by true log.breaks) p.next)) in
    let by : GoesOnBy p (and_break log cut) s = record {
      number = m.number;
      given = m.given;
      breaks = (m.breaks ++ cut ∷ [], ap (λ (bs : List Break). bs ++ cut ∷ []) m.breaks_are ∙ append_assoc p.log.breaks m.breaks (cut ∷ []), push-each (λ (b : Break). second_of b ≡ p.next) m.breaks cut m.breaks_here m.number);
      finds = (m.finds, m.finds_are, m.finds_here);
    } in
    broken-recorded o done p g marks mid brought h s (and_break log cut) by (begun_by s at) (cut-now log s (begun_by s at) m.up_to.uncut) span is more later taken m.refused m.refused_are ends.1
    (ap (λ (t : ToldSecond). t.cut) ends.0) fails front d ds decides stay takes

-- A POWER-ON FAILS
pub failed-recorded : AFailedPowerOnIsRecorded
failed-recorded o done p g marks mid later brought h may s number given more broke =
    let cut : Break = cut_at s.number true 0 in
    let log : RunLog = and_break p.log cut in
    let ends = power-on_cut (rule_of o) (start_at o) o.from (first_of o) done p h.followed may s number given mid later more broke in
    let by : GoesOnBy p log s = record { number = number; given = given; breaks = (cut ∷ [], refl, (number, tt)); finds = ([], sym (append-nil p.log.finds), tt) } in
    let none = (nothing-told (rule_of o) (start_at o) o.from (first_of o) done p h.followed s.number (omega (arith, number))).cut in
    let cut_ : cut_in log s.number ≡ Some 0 = cut-now p.log s 0 none in
    record {
      followed = power_fails (rule_of o) (start_at o) o.from (first_of o) done p h.followed may h.waiting s log by 0 cut_;
      waiting = refl;
      legs = legs.failure-travelled (rule_of o) (start_at o) o.from (first_of o) done p h.followed g h.legs may h.waiting s log by;
      complete = failure-stays (rule_of o) (start_at o) o.from (first_of o) done p h.followed may h.waiting s log by marks h.complete;
      caused = second-caused (rule_of o) (start_at o) o.from (first_of o) done p h.followed s log by [] (sym (append-nil p.log.refused)) o.breakdowns mid later ends.1 h.caused (failed_on s p) refl (λ dark. inr (ap (λ (t : ToldSecond). t.cut) ends.0));
      image = h.image;
      accounts = λ c valid. failure-accounted o.recording c o.from (first_of o) done p h.followed may h.waiting s log by (length s.actions)
          (accepts-none c (next_told log done s) (ap (λ (t : ToldSecond). t.course.found) ends.0)) (brought c) (h.accounts c valid);
    }

-- QUIET SECONDS
begun-none : (n : ℕ) → begun_after n 0 ≡ 0
begun-none zero = refl
begun-none (suc n) = refl

module _ (o : Origin) (c : Card) (speed : ℕ) (ks : List ℕ) where
  -- one of them
  quiet-one : (done : List TraceSecond) (p : Progress) (f : BookFollowsRun (rule_of o) (start_at o) o.from (first_of o) done p) (t : ToldSecond) (span : List ToldSecond) → p.supply ≡ Lit (t ∷ span) → p.waiting ≡ [] → p.next % 60 + 1 < 60 →
      AreAccounted o.recording c (first_of o) done p ks →
      AreAccounted o.recording c (first_of o) (done ++ driven 1 p.next speed []) (quiet_on 1 speed (t ∷ span) (went p.log done).before.slots p) ks
  quiet-one done p f t span is none within a =
      let s : TraceSecond = record { number = p.next; has_power = true; speed = speed; actions = [] } in
      let slots = (went p.log done).before.slots in
      let nobody : Device → ℕ = λ device. 0 in
      let begins = moment-begins (rule_of o) (start_at o) o.from (first_of o) done p f (t ∷ span) is s refl refl nobody in
      let keeps = keeping-comes p (went p.log done).before s p.log nobody nobody begins.0 in
      let told : next_told p.log done s ≡ quiet_second p.next speed slots =
      (second-ends_told (rule_of o) (start_at o) o.from (first_of o) done p f (t ∷ span) is s p.log nobody nobody keeps.0).0 ∙ ap (told_with false false s) (keeps.1 ∙ begins.1) in
      let decides = (quiet-go-on (rule_of o) (start_at o) o.from (first_of o) done p f t span is none 1 speed within).0 in
      second-accounted o.recording c o.from (first_of o) done p f (t ∷ span) is none s p.log (goes-itself p s refl refl) []
      ([], ap (λ (x : ToldSecond). decided_of (rule_of o) ((t ∷ span) ++ x ∷ [])) told ∙ decides ∙ sym (append-nil (decided_of (rule_of o) (t ∷ span))), refl)
      (quiet_on 1 speed (t ∷ span) slots p)
      (record {
        log = refl;
        unfound = refl;
        next = omega arith;
        supply = inl (ap (λ (x : ToldSecond). Lit ((t ∷ span) ++ x ∷ [])) (sym told), keeps.0.up_to.uncut);
        sure = ([], sym (append-nil p.book.sure));
        books = λ i at. inl at;
      })
      ks ks (λ k at. at) (inl (accepts-none c (next_told p.log done s) (ap (λ (x : ToldSecond). x.course.found) told))) a

  quiet-accounts : (n : ℕ) (done : List TraceSecond) (p : Progress) → BookFollowsRun (rule_of o) (start_at o) o.from (first_of o) done p → (t : ToldSecond) (span : List ToldSecond) → p.supply ≡ Lit (t ∷ span) → p.waiting ≡ [] → p.next % 60 + n < 60 →
      AreAccounted o.recording c (first_of o) done p ks → AreAccounted o.recording c (first_of o) (done ++ driven n p.next speed []) (quiet_on n speed (t ∷ span) (went p.log done).before.slots p) ks
  quiet-accounts zero done p f t span is none within a =
      subst (λ (d : List TraceSecond). AreAccounted o.recording c (first_of o) d (quiet_on 0 speed (t ∷ span) (went p.log done).before.slots p) ks) (sym (append-nil done))
      (subst (λ (k : ℕ). AreAccounted o.recording c (first_of o) done (record p { next = k; supply = Lit ((t ∷ span) ++ []) }) ks) (let e : p.next ≡ p.next + 0 = omega arith in e)
      (subst (λ (sp : UnitPower). AreAccounted o.recording c (first_of o) done (record p { supply = sp }) ks) (is ∙ ap (λ (ts : List ToldSecond). Lit ts) (sym (append-nil (t ∷ span)))) a))
  quiet-accounts (suc n) done p f t span is none within a =
      let P : List TraceSecond → Progress → Type 0 = λ (d : List TraceSecond) (r : Progress). AreAccounted o.recording c (first_of o) d r ks in
      let slots : Slots = (went p.log done).before.slots in
      let q : ToldSecond = quiet_second p.next speed slots in
      let s : TraceSecond = record { number = p.next; has_power = true; speed = speed; actions = [] } in
      let later : List TraceSecond = done ++ s ∷ [] in
      let p1 : Progress = quiet_on 1 speed (t ∷ span) slots p in
      let here : p.next % 60 + 1 < 60 = omega (arith, within) in
      let one = quiet-go-on (rule_of o) (start_at o) o.from (first_of o) done p f t span is none 1 speed here in
      let rest = quiet-accounts n later p1 one.1 t (span ++ q ∷ []) refl none (omega (arith, within)) (quiet-one done p f t span is none here a) in
      let same : (went p.log later).before.slots ≡ slots = ap (λ (w : Went). w.before.slots) (quiet-are-told (rule_of o) (start_at o) o.from (first_of o) done p f t span is 1 speed) in
      let next : p.next + 1 + n ≡ p.next + suc n = omega arith in
      subst (λ (d : List TraceSecond). P d (record p { next = p.next + suc n; begun = 0; supply = Lit ((t ∷ span) ++ q ∷ quiet_seconds n (p.next + 1) speed slots) })) (append_assoc done (s ∷ []) (driven n (p.next + 1) speed []))
      (subst (λ (ts : List ToldSecond). P (later ++ driven n (p.next + 1) speed []) (record p { next = p.next + suc n; begun = 0; supply = Lit ts })) (append_assoc (t ∷ span) (q ∷ []) (quiet_seconds n (p.next + 1) speed slots))
      (subst (λ (sl : Slots). P (later ++ driven n (p.next + 1) speed []) (record p { next = p.next + suc n; begun = 0; supply = Lit (((t ∷ span) ++ q ∷ []) ++ quiet_seconds n (p.next + 1) speed sl) })) same
      (subst (λ (b : ℕ). P (later ++ driven n (p.next + 1) speed []) (record p { next = p.next + suc n; begun = b; supply = Lit (((t ∷ span) ++ q ∷ []) ++ quiet_seconds n (p.next + 1) speed (went p.log later).before.slots) })) (begun-none n)
      (subst (λ (k : ℕ). P (later ++ driven n (p.next + 1) speed []) (record p { next = k; begun = begun_after n 0; supply = Lit (((t ∷ span) ++ q ∷ []) ++ quiet_seconds n (p.next + 1) speed (went p.log later).before.slots) })) next rest))))

pub quiet-recorded : QuietSecondsAreRecorded
quiet-recorded o done p g marks now brought h t span is n speed within = record {
  followed = (quiet-go-on (rule_of o) (start_at o) o.from (first_of o) done p h.followed t span is h.waiting n speed within).1;
  waiting = h.waiting;
  legs = quiet-travelled (rule_of o) (start_at o) o.from (first_of o) done p h.followed t span is h.waiting n speed within g h.legs;
  complete = quiet-complete (rule_of o) (start_at o) o.from (first_of o) done p h.followed t span is h.waiting n speed within marks h.complete;
  caused = quiet-caused (rule_of o) (start_at o) o.from (first_of o) done p h.followed t span is h.waiting n speed within o.breakdowns now h.caused;
  image = h.image;
  accounts = λ c valid. quiet-accounts o c speed (brought c) n done p h.followed t span is h.waiting within (h.accounts c valid);
}

-- WITHOUT POWER
pub dark-recorded : DarkSecondsAreRecorded
dark-recorded o done p g marks now brought h is n speed actions refused begun low high told =
    let all_ : List Refused = p.log.refused ++ refused in
    record {
      followed = stays_dark (rule_of o) (start_at o) o.from (first_of o) done p h.followed is (suc n) speed actions all_ begun low high;
      waiting = h.waiting;
      legs = legs.dark-travelled (rule_of o) (start_at o) o.from (first_of o) done p h.followed g h.legs is (suc n) speed actions all_ begun low high;
      complete = dark-complete (rule_of o) (start_at o) o.from (first_of o) done p h.followed is (suc n) speed actions all_ low high marks h.complete;
      caused = dark-caused (rule_of o) (start_at o) o.from (first_of o) done p h.followed is n speed actions refused low high told o.breakdowns now h.caused (passed_dark (suc n) begun refused p) refl;
      image = h.image;
      accounts = λ c valid. dark-accounted o.recording c o.from (first_of o) done p h.followed is (suc n) speed actions all_ begun low high (brought c) (h.accounts c valid);
    }

pub off-recorded : AnOffLineIsRecorded
off-recorded o done p g marks now brought h dark_ n = record {
  followed = off_dark (rule_of o) (start_at o) o.from (first_of o) done p h.followed dark_ n;
  waiting = h.waiting;
  legs = legs.off-travelled (rule_of o) (start_at o) o.from (first_of o) done p h.followed g h.legs dark_ n;
  complete = off-complete (rule_of o) (start_at o) o.from p.log done (suc n) p.next marks h.followed.order h.followed.next h.complete;
  caused = off-caused (rule_of o) (start_at o) o.from (first_of o) done p h.followed dark_ n o.breakdowns now h.caused (gone_off n p) refl;
  image = h.image;
  accounts = λ c valid. off-accounted o.recording c o.from (first_of o) done p h.followed dark_ n (brought c) (h.accounts c valid);
}

pub off-cut-recorded : AnOffCutIsRecorded
off-cut-recorded o done p g marks now brought h t span is n =
    let later : RunLog = and_break p.log (cut_at (p.next - 1) false p.begun) in
    record {
      followed = off_cuts (rule_of o) (start_at o) o.from (first_of o) done p h.followed t span is h.waiting n;
      waiting = h.waiting;
      legs = legs.off-cut-travelled (rule_of o) (start_at o) o.from (first_of o) done p h.followed g h.legs t span is h.waiting n;
      complete = off-complete (rule_of o) (start_at o) o.from later done (suc n) p.next marks h.followed.order h.followed.next
          (cut-stays_ (rule_of o) (start_at o) o.from (first_of o) done p h.followed t span is h.waiting marks h.complete);
      caused = off-cut-caused (rule_of o) (start_at o) o.from (first_of o) done p h.followed t span is h.waiting n o.breakdowns now h.caused (cut_off n p) refl;
      image = h.image;
      accounts = λ c valid. off-cut-accounted o.recording c o.from (first_of o) done p h.followed t span is h.waiting n (brought c) (h.accounts c valid);
    }
