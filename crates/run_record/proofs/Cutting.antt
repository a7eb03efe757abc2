-- A cut ends a second: behind it all is recorded.
use Rattle.std.specs.Prelude.{IfSome, option_map, option_to_list}
use Rattle.run_devices.specs.tacho_types.CardNumber.{card_number_bytes}
use Rattle.run_devices.specs.run_course.Lines.{times_of}
use Rattle.run_devices.specs.run_course.Kept.{HasDecided}
use Rattle.std.proofs.Common.{◌≡◌, inl, inr, ⊎_elim, ℕ, suc, ◌+◌, ◌-◌, ◌/◌, ◌<◌, ◌≤◌, Bool, true, false, ◌||◌, Option, Some, None, is_some, List, [], ◌∷◌, ◌++◌, All, Contains, length, refl, ap, sym, subst, ◌∙◌, arith, append-nil, append_assoc}
use Rattle.std.specs.List.{AllByRecursion, list_any}
use Rattle.std.proofs.lemmas.List.Elements.{All-head, All-tail, Contains-push_cases}
use Rattle.run_devices.specs.trace_model.declared.Card.{Card}
use Rattle.run_devices.specs.trace_model.declared.Card.TheVariants.{A, B}
use Rattle.run_devices.specs.trace_model.declared.Action.{Action}
use Rattle.run_devices.specs.trace_model.Trace.{TraceSecond}
use Rattle.minute_rules.specs.minute_model.declared.Minute.{Minute}
use Rattle.minute_rules.specs.minute_model.Span.{ungiven_of}
use Rattle.run_devices.specs.log_model.declared.lines.Break.{Break}
use Rattle.run_devices.specs.log_model.declared.lines.Mark.{Mark}
use Rattle.run_devices.specs.log_model.declared.lines.Verdict.{Verdict}
use Rattle.run_devices.specs.log_model.Log.{RunLog, Phase, In, Keeping}
use Rattle.run_devices.specs.log_model.Slots.{Slots, Sitting, is_accepted}
use Rattle.run_devices.specs.log_model.Causes.{second_of}
use Rattle.run_devices.specs.log_model.Course.{ToldSecond, Went, Course, Visit, powerless, is_settling, cut_told, went}
use Rattle.run_devices.specs.history_model.Minutes.{HistoryMinute}
use Rattle.run_devices.specs.history_model.Presence.{Start}
use Rattle.run_devices.specs.history_model.History.{seated, decided_of}
use Rattle.run_devices.specs.history_model.Book.{Book}
use Rattle.run_devices.proofs.history_model.Stilled.{minutes-still}
use Rattle.run_devices.specs.run_unit_course.Lines.{cut_at}
use Rattle.run_devices.specs.run_unit_course.Followed.{Lost}
use Rattle.run_devices.specs.run_unit_course.Legs.{stranded_at, all_travelled}
use Rattle.run_devices.specs.run_unit_course.Turn.{begins_with, span_at}
use Rattle.run_devices.specs.card_image.Own.{IsOwnValid}
use Rattle.run_devices.specs.safety_model.Safe.{Devices, card_of, breakdowns_of, entered_by, IsVerdict}
use Rattle.run_devices.specs.run_crew.declared.cards.Cards.{Cards}
use Rattle.run_devices.specs.run_crew.Cabin.{with_power_lost}
use Rattle.run_devices.specs.run_crew.Cards.{known_of, with_session, session_of}
use Rattle.run_devices.proofs.run_crew.Sessions.{all_gone}
use Rattle.run_devices.specs.run_promise.Found.{Found, found_of}
use Rattle.run_devices.specs.run_course.Moments.{and_break}
use Rattle.run_devices.specs.run_course.Followed.{Progress, BookFollowsRun}
use Rattle.run_devices.specs.run_course.Seconds.{GoesOnBy, next_told, kept_all, broken_at}
use Rattle.run_devices.specs.run_course.Presence.{SlotsTell}
use Rattle.run_devices.specs.run_course.Within.{not_begun}
use Rattle.run_devices.specs.run_course.Complete.{AllMarked}
use Rattle.run_devices.proofs.run_course.New.{are-new}
use Rattle.run_devices.proofs.run_course.Presence.{power-lost, second-gone, time-passes}
use Rattle.run_devices.proofs.run_course.Steps.{now-is, now-told}
use Rattle.run_devices.specs.run_promise.Going.{IsTakenAt}
use Rattle.run_devices.proofs.run_promise.Going.{sure-kept}
use Rattle.run_devices.specs.run_course.Telling.{begun_by, IsLeft, told_with}
use Rattle.run_devices.proofs.run_course.Reached.{push-each}
use Rattle.run_devices.proofs.run_course.Telling.{cut-ends_told}
use Rattle.run_devices.proofs.run_course.Kept.{second-decided}
use Rattle.run_devices.proofs.run_course.Cutting.{cut-decided}
use Rattle.run_devices.specs.Told.{AreFoundCards}
use Rattle.run_devices.specs.run_promise.Origin.{Origin, rule_of, start_at, first_of, HistoryIsRecorded}
use Rattle.run_devices.specs.run_promise.Seconds.{broke_off, seated_now, seated_next, AreTaken}
use Rattle.run_devices.specs.run_promise.Ends.{recording_by, BringsAll, AreFound, AreVerdicts, AreSpared}
use Rattle.run_devices.specs.run_promise.Beside.{MayBeFound, AreFewFound}
use Rattle.run_devices.proofs.run_promise.Seconds.{second-is_broken}
use Rattle.run_devices.proofs.run_promise.Beside.{second-tells, verdicts-on, kept-on_cut}
use Rattle.run_record.specs.Recorded.{Values, progress, carried, IsWritten, RecordUnpowered, RecordBetweenSeconds}
use Rattle.run_record.specs.Within.{told_before, course_in, lost_minute, overlaps_by, MayBeWrittenSo, RecordAtFailure, cut_values}
use Rattle.run_record.proofs.Left.{counted-part}
use Rattle.run_record.proofs.Stays.{since-later, since-cut}
use Rattle.run_record.proofs.Written.{few-so_far}
use Rattle.run_record.proofs.Parts.{verdict-by, often-by, entered-grows, entered-by_end, overlaps-by_end, HasAccepted, accepted-or, none-next}
use Rattle.run_record.proofs.Asked.{same-seconds, next-powers, asked-broken}
use Rattle.run_record.proofs.HandedSteps.{handed-over}
use Rattle.run_record.specs.Handed.{AreHandedBehind}
use Rattle.run_devices.specs.log_model.Same.{SameAt}

-- ALL MINUTES that are decided are over
pub all-rec : (n : ℕ) (xs : List Minute) → All (λ (d : Minute). d.minute < n) xs → AllByRecursion (λ (d : Minute). d.minute < n) xs
all-rec n [] h = tt
all-rec n (x ∷ xs) h = (All-head (λ (d : Minute). d.minute < n) x xs h, all-rec n xs (All-tail (λ (d : Minute). d.minute < n) x xs h))

pub rec-back : (n : ℕ) (xs ys : List Minute) → AllByRecursion (λ (d : Minute). d.minute < n) (xs ++ ys) → AllByRecursion (λ (d : Minute). d.minute < n) ys
rec-back n [] ys h = h
rec-back n (x ∷ xs) ys h = rec-back n xs ys h.1

pub rec-front : (n : ℕ) (xs ys : List Minute) → AllByRecursion (λ (d : Minute). d.minute < n) (xs ++ ys) → AllByRecursion (λ (d : Minute). d.minute < n) xs
rec-front n [] ys h = tt
rec-front n (x ∷ xs) ys h = (h.0, rec-front n xs ys h.1)

-- a minute has the cards of the seconds before
seated-same : (start : Start) (told : List ToldSecond) (t : ToldSecond) (past : List HistoryMinute) (n : ℕ) (d : Minute) → t.second.number ≡ n → d.minute < n / 60 → seated start (told ++ t ∷ []) past d ≡ seated start told past d
seated-same start told t past n d is lt =
    let both : seated start (told ++ t ∷ []) past d ∷ [] ≡ seated start told past d ∷ [] = minutes-still start told t past (d ∷ []) (subst (λ (k : ℕ). d.minute < k / 60) (sym is) lt, tt) in
    let one : seated start (told ++ t ∷ []) past d ≡ seated start told past d = cc in
    one

option-same : (start : Start) (told : List ToldSecond) (t : ToldSecond) (past : List HistoryMinute) (n : ℕ) (o : Option Minute) → t.second.number ≡ n → AllByRecursion (λ (d : Minute). d.minute < n / 60) (option_to_list o) →
    option_map {T = Minute} (seated start (told ++ t ∷ []) past) o ≡ option_map {T = Minute} (seated start told past) o
option-same start told t past n None is lt = refl
option-same start told t past n (Some d) is lt = ap (λ (i : HistoryMinute). Some i) (seated-same start told t past n d is lt.0)

-- CARDS keep what they have told
pub found-cut : (f : Found) (cards : Cards) (s : ℕ) → AreFoundCards f cards → AreFoundCards f (with_session B None (with_session A None cards))
found-cut f cards s h = record { two = h.two; named = named; told = told_; only = only; own = h.own; sizes = h.sizes; entries = h.entries; word = h.word }
  where
    told_ : (c : Card) → IsOwnValid (found_of f c).image → is_some (known_of (with_session B None (with_session A None cards)) c).number ≡ true
    told_ A valid = h.told A valid
    told_ B valid = h.told B valid

    only : (c : Card) → is_some (known_of (with_session B None (with_session A None cards)) c).number ≡ true → IsOwnValid (found_of f c).image
    only A has = h.only A has
    only B has = h.only B has

    named : (c : Card) → IsOwnValid (found_of f c).image → IfSome (known_of (with_session B None (with_session A None cards)) c).number (λ n. card_number_bytes n ≡ (found_of f c).number)
    named A valid = h.named A valid
    named B valid = h.named B valid

pub dark-seat : (o : Option Sitting) → is_accepted (powerless o) ≡ false
dark-seat None = refl
dark-seat (Some x) = refl

pub marks-all : (marks more : List Mark) → ((mark : Mark) → Contains marks mark → Contains more mark) → AllMarked marks more
marks-all marks more stay device m k = (k.0, stay k.0 k.1, k.2, k.3)

taken-broken : (first : ℕ) (old later : Book) (i : Option HistoryMinute) (new : List HistoryMinute) (k : ℕ) → IsTakenAt first old later new k → IsTakenAt first old (broken_at i later) new k
taken-broken first old later None new k h = h
taken-broken first old later (Some i) new k h = record { mark = h.mark; newest = h.newest }

module _ (o : Origin) (done : List TraceSecond) (s : TraceSecond) (at : Phase) (waits : List Visit) (speed : Option ℕ) (v : Values) (d : Devices) (w : RecordAtFailure o done s at waits speed v d) (left_actions : List Action) (left : IsLeft s at left_actions) where
  abbrev p : Progress
  p = w.b.run

  abbrev c : Course
  c = course_in w.b done s at v.log

  abbrev cut : Break
  cut = cut_at s.number true (begun_by s at)

  abbrev log : RunLog
  log = and_break v.log cut

  abbrev t : ToldSecond
  t = next_told log done s

  abbrev told0 : List ToldSecond
  told0 = told_before w.b done

  abbrev ended : Course
  ended = cut_told true (not_begun left_actions c)

  abbrev f : BookFollowsRun (rule_of o) (start_at o) o.from (first_of o) done p
  f = w.began.followed

  pub ends : t ≡ told_with (begins_with w.b.span) true s ended
  ends = (cut-ends_told (rule_of o) (start_at o) o.from (first_of o) done p f w.b.span w.lit s at v.log waits w.b.broken w.counted (breakdowns_of d) w.moment w.rise w.broke left_actions left).0

  pub goes : GoesOnBy p log s
  goes = record {
    number = w.moment.number;
    given = w.moment.given;
    breaks = (
      w.moment.breaks ++ cut ∷ [],
      ap (λ (bs : List Break). bs ++ cut ∷ []) w.moment.breaks_are ∙ append_assoc p.log.breaks w.moment.breaks (cut ∷ []),
      push-each (λ (b : Break). second_of b ≡ p.next) w.moment.breaks cut w.moment.breaks_here w.moment.number,
    );
    finds = (w.moment.finds, w.moment.finds_are, w.moment.finds_here);
  }

  pub number : t.second.number ≡ p.next
  number = ap (λ (x : ToldSecond). x.second.number) ends ∙ w.moment.number

  waiting : List Minute
  waiting = option_to_list w.lost ++ w.rest

  -- what the second has decided
  pub decides : (more : List Minute) × (decided_of (rule_of o) (w.b.span ++ t ∷ []) ≡ decided_of (rule_of o) w.b.span ++ (w.ds ++ (option_to_list w.lost ++ (w.rest ++ more))))
  decides = by at refl left
    where
      regroup : (more : List Minute) → (w.ds ++ (option_to_list w.lost ++ w.rest)) ++ more ≡ w.ds ++ (option_to_list w.lost ++ (w.rest ++ more))
      regroup more = append_assoc w.ds (option_to_list w.lost ++ w.rest) more ∙ ap (λ (xs : List Minute). w.ds ++ xs) (append_assoc (option_to_list w.lost) w.rest more)

      picks : t.second.picks ≡ c.picks
      picks = ap (λ (x : ToldSecond). x.second.picks) ends

      settled : t.course.settled ≡ (c.settled || list_any is_settling left_actions)
      settled = ap (λ (x : ToldSecond). x.course.settled) ends

      at_speed : t.second.speed ≡ s.speed
      at_speed = ap (λ (x : ToldSecond). x.second.speed) ends

      or-false : (b : Bool) → (b || false) ≡ b
      or-false true = refl
      or-false false = refl

      by : (ph : Phase) → at ≡ ph → IsLeft s ph left_actions → (more : List Minute) × (decided_of (rule_of o) (w.b.span ++ t ∷ []) ≡ decided_of (rule_of o) w.b.span ++ (w.ds ++ (option_to_list w.lost ++ (w.rest ++ more))))
      by (In n) is left_ =
          let none : speed ≡ None = w.fed (λ keeping. let clash : In n ≡ Keeping = sym is ∙ keeping in absurd (cc)) in
          let m = cut-decided (rule_of o) (start_at o) o.from (first_of o) done p f w.b.span w.lit s log goes c w.sp w.ds (option_to_list w.lost ++ w.rest) w.new
          (subst (λ (sp : Option ℕ). HasDecided (rule_of o) (start_at o) told0 p w.b.span c sp w.sp w.ds (option_to_list w.lost ++ w.rest) w.new) none w.decided) (list_any is_settling left_actions) picks settled at_speed in
          (m.0, m.1 ∙ ap (λ (xs : List Minute). decided_of (rule_of o) w.b.span ++ xs) (regroup m.0))
      by Keeping is left_ =
          let some : speed ≡ Some s.speed = w.kept is in
          let all_ = second-decided (rule_of o) (start_at o) o.from (first_of o) done p f w.b.span w.lit s log goes c w.sp w.ds (option_to_list w.lost ++ w.rest) w.new
          (subst (λ (sp : Option ℕ). HasDecided (rule_of o) (start_at o) told0 p w.b.span c sp w.sp w.ds (option_to_list w.lost ++ w.rest) w.new) some w.decided) picks
          (settled ∙ ap (λ (as_ : List Action). c.settled || list_any is_settling as_) left_ ∙ or-false c.settled) at_speed in
          ([], all_ ∙ ap (λ (xs : List Minute). decided_of (rule_of o) w.b.span ++ (w.ds ++ (option_to_list w.lost ++ xs))) (sym (append-nil w.rest)))

  abbrev later : List Minute
  later = w.rest ++ decides.0

  over : AllByRecursion (λ (d : Minute). d.minute < p.next / 60) (w.ds ++ (option_to_list w.lost ++ later))
  over = all-rec (p.next / 60) (w.ds ++ (option_to_list w.lost ++ later))
      (are-new (rule_of o) (start_at o) o.from (first_of o) done p f w.b.span w.lit w.began.waiting s log goes (w.ds ++ (option_to_list w.lost ++ later)) decides.1).over

  new-is : seated_now o log done s p w.ds ≡ w.new
  new-is =
      minutes-still (start_at o) told0 t p.book.sure w.ds (subst (λ (n : ℕ). AllByRecursion (λ (d : Minute). d.minute < n / 60) w.ds) (sym number) (rec-front (p.next / 60) w.ds (option_to_list w.lost ++ later) over)) ∙ sym w.decided.seated_

  lost-is : seated_next o log done s p w.ds w.lost ≡ lost_minute o w.b done w.new w.lost
  lost-is =
      ap (λ (is : List HistoryMinute). option_map {T = Minute} (seated (start_at o) (told0 ++ t ∷ []) (p.book.sure ++ is)) w.lost) new-is
      ∙ option-same (start_at o) told0 t (p.book.sure ++ w.new) p.next w.lost number (rec-front (p.next / 60) (option_to_list w.lost) later (rec-back (p.next / 60) w.ds (option_to_list w.lost ++ later) over))

  found-is : t.course.found ≡ c.found
  found-is = ap (λ (x : ToldSecond). x.course.found) ends

  -- where a card was accepted nothing more is decided than was kept
  nothing-more : s.number / 60 ≤ w.from → seated_now o log done s p (w.ds ++ (option_to_list w.lost ++ later)) ≡ w.new
  nothing-more low =
      let due = (are-new (rule_of o) (start_at o) o.from (first_of o) done p f w.b.span w.lit w.began.waiting s log goes (w.ds ++ (option_to_list w.lost ++ later)) decides.1).due in
      let is = w.moment.number in
      let to = w.kept_to in
      let none : option_to_list w.lost ++ later ≡ [] = none-next w.sp (option_to_list w.lost ++ later) (ungiven_of (span_at (rule_of o) p.next w.b.span) + length w.ds) (p.next / 60)
      (counted-part w.ds (option_to_list w.lost ++ later) (ungiven_of (span_at (rule_of o) p.next w.b.span)) due) (omega (arith, low, is, to)) (rec-back (p.next / 60) w.ds (option_to_list w.lost ++ later) over) in
      ap (λ (xs : List Minute). seated_now o log done s p (w.ds ++ xs)) none ∙ ap (seated_now o log done s p) (append-nil w.ds) ∙ new-is

  takes : AreTaken o p.book (broken_at (seated_next o log done s p w.ds w.lost) (kept_all (seated_now o log done s p w.ds) p.book)) t (seated_now o log done s p (w.ds ++ (option_to_list w.lost ++ later))) w.b.brought w.brought
  takes card valid = (
    w.more card,
    ⊎_elim
        (λ none. inl none)
        (λ (some : HasAccepted card t.course.found).
        let there : Contains c.found (some.e, some.v) = subst (λ (fs : List (Visit × Verdict)). Contains fs (some.e, some.v)) found-is some.at in
        let k = w.finds.taken some.e some.v there some.accepts in
        let low = w.finds.late some.e some.v there some.accepts in
        inr (
          k.0,
          subst (λ (x : Card). Contains (w.brought x) k.0) some.card k.1,
          subst (λ (is : List HistoryMinute). IsTakenAt (first_of o) p.book (broken_at (seated_next o log done s p w.ds w.lost) (kept_all is p.book)) (seated_now o log done s p (w.ds ++ (option_to_list w.lost ++ later))) k.0) (sym new-is)
              (subst (λ (is : List HistoryMinute). IsTakenAt (first_of o) p.book (broken_at (seated_next o log done s p w.ds w.lost) (kept_all w.new p.book)) is k.0) (sym (nothing-more low))
              (taken-broken (first_of o) p.book (kept_all w.new p.book) (seated_next o log done s p w.ds w.lost) w.new k.0 k.2)),
        ))
        (accepted-or card t),
  )

  told-now : (went log (done ++ s ∷ [])).told ≡ told0 ++ t ∷ []
  told-now = now-told (rule_of o) (start_at o) o.from (first_of o) done p f.order f.next f.unfound s log goes

  slots-now : (went log (done ++ s ∷ [])).before.slots ≡ t.course.slots
  slots-now = ap (λ (x : Went). x.before.slots) (now-is (rule_of o) (start_at o) o.from (first_of o) done p f.order f.next f.unfound s log goes)

  recorded-so : HistoryIsRecorded o (done ++ s ∷ []) (broke_off log s (seated_now o log done s p w.ds) (seated_next o log done s p w.ds w.lost) p) (stranded_at w.lost (all_travelled w.ds w.b.travel)) v.marks (breakdowns_of d) w.brought
  recorded-so = second-is_broken o done p w.b.travel w.b.marks v.marks w.b.broken w.counted (breakdowns_of d) w.b.brought w.brought w.began w.b.span w.lit s at v.log waits w.moment w.rise w.broke left_actions left w.ds w.lost later decides.1
      (marks-all w.b.marks v.marks w.stay) takes

  abbrev book : Book
  book = broken_at (lost_minute o w.b done w.new w.lost) (kept_all w.new p.book)

  recorded : HistoryIsRecorded o (done ++ s ∷ []) (progress (cut_values s at v) Lost book) (stranded_at w.lost (all_travelled w.ds w.b.travel)) v.marks (breakdowns_of d) w.brought
  recorded =
      let R : Progress → Type 0 = λ (q : Progress). HistoryIsRecorded o (done ++ s ∷ []) q (stranded_at w.lost (all_travelled w.ds w.b.travel)) v.marks (breakdowns_of d) w.brought in
      subst (λ (n : ℕ). R (record (progress (cut_values s at v) Lost book) { unfound = n })) (sym w.unfound)
      (subst (λ (n : ℕ). R (record (progress (cut_values s at v) Lost book) { unfound = p.unfound; next = suc n })) (sym w.next)
      (subst (λ (i : Option HistoryMinute). R (broke_off log s w.new i p)) lost-is (subst (λ (is : List HistoryMinute). R (broke_off log s is (seated_next o log done s p w.ds w.lost) p)) new-is recorded-so)))

  verdicts : AreVerdicts o (done ++ s ∷ []) log v.unfound v.marks d
  verdicts = verdicts-on o done (done ++ s ∷ []) p.log log p.unfound v.unfound w.b.marks v.marks d d (t ∷ []) p.next w.verdicts (record { unit = λ x h. h; card = λ c x h. h }) w.stay (second-tells o done p f s log goes number)
      (λ x e verdict among seen.
      let same : t ≡ x = ⊎_elim (λ none. absurd (omega (arith, none.1))) (λ here. here) (Contains-push_cases [] t x among) in
      subst (λ (y : ToldSecond). MayBeFound o (done ++ s ∷ []) log v.marks d y e verdict) same
      (let there : Contains c.found (e, verdict) = subst (λ (fs : List (Visit × Verdict)). Contains fs (e, verdict)) (ap (λ (y : ToldSecond). y.course.found) (sym same) ∙ found-is) seen in
      let may = w.finds.may e verdict there in
      let is : t.second.number ≡ s.number = ap (λ (y : ToldSecond). y.second.number) ends in
      let count = often-by o done (done ++ s ∷ []) p.log log t e.card s.number told-now is in
      let entered_ : t.course.entered ≡ c.entered = ap (λ (y : ToldSecond). y.course.entered) ends in
      subst (λ (n : ℕ). IsVerdict (recording_by o (done ++ s ∷ []) log) (d.unit.left_since o.found.unit.began) ((card_of d e.card).left_since (found_of o.found e.card).began) e.card n verdict × BringsAll (recording_by o (done ++ s ∷ []) log) v.marks e.card n verdict) (sym is)
      (verdict-by o w.b done (done ++ s ∷ []) log may.0 v.marks (d.unit.left_since o.found.unit.began) ((card_of d e.card).left_since (found_of o.found e.card).began) e.card s.number verdict
      (let low = may.1 in let same_times = ap (times_of e.card) entered_ in omega (arith, low, count, same_times)) (λ n. entered-grows o done (done ++ s ∷ []) p.log log t e.card n told-now) may.2)))
      (subst (λ (n : ℕ). AreFound (d.unit.left_since o.found.unit.began) n log.breaks) (sym w.unfound)
      (subst (λ (bs : List Break). AreFound (d.unit.left_since o.found.unit.began) p.unfound (bs ++ cut_at s.number true (begun_by s at) ∷ [])) (sym w.moment.breaks_are)
      (kept-on_cut (d.unit.left_since o.found.unit.began) p.unfound p.log.breaks w.moment.breaks s.number true (begun_by s at) f.unfound w.verdicts.kept w.moment.uncut)))

  written : (card : Card) → MayBeWrittenSo o w.b done c waits s.number v.cabin.slots card → IsWritten o (done ++ s ∷ []) (cut_values s at v) card
  written card h = record {
    may = (
      h.valid,
      let a = entered-by_end o done (done ++ s ∷ []) p.log log t card told-now in
          let b = overlaps-by_end o done (done ++ s ∷ []) p.log log t card told-now in
          let lt = h.fewer in
          let entered_ = ap (λ (y : ToldSecond). times_of card y.course.entered) ends in
          let found_ = ap (λ (fs : List (Visit × Verdict)). length (overlaps_by o card fs)) found-is in
          omega (arith, a, b, lt, entered_, found_),
    );
    time = h.time;
    since = since-later o s.number (suc v.next - 1) (with_power_lost s.number v.cabin).slots card h.time (let is = w.moment.number in let next = w.next in omega (arith, is, next)) (since-cut o s.number v.cabin.slots card h.time h.since);
    entered_then = ⊎_elim
        (λ before. let grows = entered-grows o done (done ++ s ∷ []) p.log log t card h.time told-now in omega (arith, before, grows))
        (λ now.
        let count = often-by o done (done ++ s ∷ []) p.log log t card s.number told-now (ap (λ (y : ToldSecond). y.second.number) ends) in
        let entered_ = ap (λ (y : ToldSecond). times_of card y.course.entered) ends in
        subst (λ (n : ℕ). 0 < entered_by (recording_by o (done ++ s ∷ []) log) card n) (sym now.0) (let lt = now.1 in omega (arith, count, entered_, lt)))
        h.entered_then;
  }

  spared : AreSpared o (done ++ s ∷ []) log d
  spared card = ⊎_elim (λ whole. inl whole) (λ may. inr (written card may).may) (w.spared card)

  few : AreFewFound (recording_by o (done ++ s ∷ []) log)
  few card =
      let a = entered-by_end o done (done ++ s ∷ []) p.log log t card told-now in
      let b = overlaps-by_end o done (done ++ s ∷ []) p.log log t card told-now in
      let le = few-so_far o w.b done c waits card w.few (w.moment.counted card) in
      let entered_ = ap (λ (y : ToldSecond). times_of card y.course.entered) ends in
      let found_ = ap (λ (fs : List (Visit × Verdict)). length (overlaps_by o card fs)) found-is in
      omega (arith, a, b, le, entered_, found_)

  tells : SlotsTell (start_at o) (went log (done ++ s ∷ [])).told book.sure [] (suc v.next - 1) (suc v.next / 60) (went log (done ++ s ∷ [])).before.slots (with_power_lost s.number v.cabin).slots
  tells =
      let T : ToldSecond = told_with (begins_with w.b.span) true s ended in
      let now = second-gone (start_at o) told0 (p.book.sure ++ w.new) w.from T (with_power_lost s.number v.cabin).slots
      (power-lost (start_at o) told0 (p.book.sure ++ w.new) c.left s.number w.from c.slots v.cabin.slots w.tells) in
      let low = w.low in
      let is = w.moment.number in
      let next = w.next in
      let on = time-passes (start_at o) (told0 ++ T ∷ []) (p.book.sure ++ w.new) s.number (suc v.next - 1) w.from (suc v.next / 60) ended.slots (with_power_lost s.number v.cabin).slots now (omega (arith, is, next)) (omega (arith, low, is, next)) (omega arith) in
      subst (λ (ts : List ToldSecond). SlotsTell (start_at o) ts book.sure [] (suc v.next - 1) (suc v.next / 60) (went log (done ++ s ∷ [])).before.slots (with_power_lost s.number v.cabin).slots) (sym told-now)
      (subst (λ (sl : Slots). SlotsTell (start_at o) (told0 ++ t ∷ []) book.sure [] (suc v.next - 1) (suc v.next / 60) sl (with_power_lost s.number v.cabin).slots) (sym slots-now)
      (subst (λ (x : ToldSecond). SlotsTell (start_at o) (told0 ++ x ∷ []) book.sure [] (suc v.next - 1) (suc v.next / 60) x.course.slots (with_power_lost s.number v.cabin).slots) (sym ends)
      (subst (λ (is : List HistoryMinute). SlotsTell (start_at o) (told0 ++ T ∷ []) is [] (suc v.next - 1) (suc v.next / 60) ended.slots (with_power_lost s.number v.cabin).slots) (sym (sure-kept w.new (lost_minute o w.b done w.new w.lost) p.book)) on)))

  dark-slot : (went log (done ++ s ∷ [])).before.slots ≡ ended.slots
  dark-slot = slots-now ∙ ap (λ (x : ToldSecond). x.course.slots) ends

  -- the entries by hand so far
  seconds-same : All (λ (x : TraceSecond). SameAt p.log log x.number) done
  seconds-same = same-seconds o.from done p log s f.order f.next goes

  handed : AreHandedBehind (start_at o) book.sure o.found log (done ++ s ∷ []) v.stops v.marks w.hands w.firsts (session_of (with_power_lost s.number v.cabin).cards)
  handed =
      subst (λ (past : List HistoryMinute). AreHandedBehind (start_at o) past o.found log (done ++ s ∷ []) v.stops v.marks w.hands w.firsts (session_of (with_power_lost s.number v.cabin).cards))
      (sure-kept w.new None p.book ∙ sym (sure-kept w.new (lost_minute o w.b done w.new w.lost) p.book))
      (handed-over o.found p.log v.log log done s at c t v.stops v.marks w.hands w.firsts (λ x. None) (session_of (with_power_lost s.number v.cabin).cards)
      (asked-broken p.log done v.log s at left_actions w.moment.up_to.uncut left seconds-same (next-powers p.log log done s seconds-same (ap (λ (x : ToldSecond). x.lit) ends))) told-now (ap (λ (x : ToldSecond). x.second.number) ends) found-is
      (λ x. inr (all_gone v.cabin.cards x)) w.handed)

  pub cut-recorded : RecordBetweenSeconds o (done ++ s ∷ []) Lost (cut_values s at v) d
  cut-recorded = record {
    book = book;
    travel = stranded_at w.lost (all_travelled w.ds w.b.travel);
    odometer = tt;
    due = w.due;
    standing = w.standing;
    brought = w.brought;
    hands = w.hands;
    firsts = w.firsts;
    handed = handed;
    recorded = recorded;
    beside = record { verdicts = verdicts; spared = spared; travels = w.travels };
    there = w.there;
    few = few;
    written = λ card. ⊎_elim (λ whole. inl whole) (λ may. inr (written card may)) (w.spared card);
    found = found-cut o.found v.cabin.cards s.number w.found;
    early = w.early;
    held = record {
      powerless = w.powerless;
      due = let late = w.late in let is = w.moment.number in let next = w.next in omega (arith, late, is, next);
      tells = tells;
      bare = λ c. all_gone v.cabin.cards c;
      driver = ap (λ (sl : Slots). is_accepted sl.driver) dark-slot ∙ dark-seat c.slots.driver;
      codriver = ap (λ (sl : Slots). is_accepted sl.codriver) dark-slot ∙ dark-seat c.slots.codriver;
    };
  }

-- WITHOUT POWER no minute is counted: it may be from any odometer
pub recounted : (o : Origin) (done : List TraceSecond) (v : Values) (d : Devices) (odometer : ℕ) → RecordBetweenSeconds o done Lost v d → RecordBetweenSeconds o done Lost (record v { odometer = odometer }) d
recounted o done v d odometer r =
    let off : RecordUnpowered o done v (carried v r.due r.book r.standing r.brought r.hands r.firsts) d = r.held in
    record {
      book = r.book;
      travel = r.travel;
      due = r.due;
      standing = r.standing;
      brought = r.brought;
      hands = r.hands;
      firsts = r.firsts;
      handed = r.handed;
      recorded = r.recorded;
      beside = r.beside;
      there = r.there;
      few = r.few;
      written = λ card. ⊎_elim (λ whole. inl whole) (λ (h : IsWritten o done v card). inr (record { may = h.may; time = h.time; since = h.since; entered_then = h.entered_then })) (r.written card);
      found = r.found;
      early = r.early;
      held = record { powerless = off.powerless; due = off.due; tells = off.tells; bare = off.bare; driver = off.driver; codriver = off.codriver };
      odometer = tt;
    }
