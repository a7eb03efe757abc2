-- What a run promises at its end, of what was carried to it.
use Rattle.std.proofs.Common.{◌≡◌, ◌⊎◌, inl, inr, ⊎_elim, ℕ, ◌+◌, ◌/◌, ◌<◌, ◌≤◌, min, List, [], ◌∷◌, ◌++◌, All, Contains, filter, length, take, drop, refl, ap, sym, subst, ◌∙◌, arith}
use Rattle.std.proofs.lemmas.List.Sums.{sum_by-append}
use Rattle.std.proofs.lemmas.List.Elements.{All-weaker, All-append, Contains-append_left}
use Rattle.run_course.specs.trace_model.declared.Card.{Card}
use Rattle.run_course.specs.trace_model.declared.Card.TheVariants.{A, B}
use Rattle.unit_rule.specs.card_model.Days.{AreDays}
use Rattle.unit_rule.specs.card_image.Fields.{card_days}
use Rattle.run_course.specs.trace_model.Trace.{TraceSecond}
use Rattle.run_course.specs.run_model.declared.Device.{Device}
use Rattle.tach_media.specs.Medium.{IsCoherent}
use Rattle.run_course.specs.log_model.declared.lines.Break.{Break}
use Rattle.run_course.specs.log_model.declared.lines.Break.TheVariants.{Cut, Tear}
use Rattle.run_course.specs.log_model.declared.lines.Mark.{Mark}
use Rattle.run_course.specs.log_model.Slots.{same_card}
use Rattle.run_course.specs.log_model.Course.{went}
use Rattle.run_course.specs.log_model.Causes.{device_of, second_of, cards_torn, HasCauses, IsBegun, HasMoment}
use Rattle.unit_rule.specs.unit_model.declared.layout.TheConstants.{HIGHEST_ODOMETER}
use Rattle.unit_rule.specs.unit_model.Image.{last_kept, odometer_at}
use Rattle.unit_rule.specs.unit_minutes.DayOdometers.{RecordsDay}
use Rattle.unit_rule.specs.unit_model.Decoding.{Decodes}
use Rattle.run_course.specs.history_model.Minutes.{HistoryMinute, up_to}
use Rattle.run_course.specs.history_model.Book.{Book, all, IsMark}
use Rattle.run_course.specs.history_model.Growth.{Rises}
use Rattle.run_course.proofs.history_model.Told.{rises}
use Rattle.run_course.proofs.history_model.Books.{reached-shown}
use Rattle.unit_rule.specs.run_unit_course.Legs.{Travel, kilometres_of}
use Rattle.unit_rule.specs.run_unit_course.Travelled.{MayShow}
use Rattle.unit_rule.specs.Rule.{Started}
use Rattle.unit_rule.proofs.run_unit_course.Lines.{tells-front}
use Rattle.unit_rule.proofs.run_unit_course.Parts.{beyond-mark, known-more}
use Rattle.unit_rule.specs.Written.{ShowsWritten}
use Rattle.unit_rule.specs.Odometer.{ShowsOdometer, IsBegunBy, OdometerSafe}
use Rattle.unit_rule.proofs.Travelling.{odometer-sum, odometer-safe}
use Rattle.unit_rule.specs.device_rule.Views.{UnitView, unit_view}
use Rattle.unit_rule.specs.card_image.Own.{own_sizes, own_number, IsOwnValid}
use Rattle.unit_rule.specs.safety_model.Recording.{Recording, card_image, told_of, brought, history_of, lost_of}
use Rattle.unit_rule.proofs.safety_model.Giving.{passed-reached}
use Rattle.unit_rule.specs.safety_model.Cards.{acceptances}
use Rattle.unit_rule.specs.safety_model.Safe.{Devices, card_of, breakdowns_of, WasFound, IsUnfound, IsVerdict, IsSafe, IsCaused}
use Rattle.run_promise.specs.Found.{Found, found_of}
use Rattle.run_promise.specs.Between.{RunLedger, LedgerStands, IsFound, AreUntouched}
use Rattle.run_promise.proofs.End.{safe-followed}
use Rattle.run_course.specs.Followed.{Progress}
use Rattle.run_course.specs.Caused.{AreCaused}
use Rattle.run_course.proofs.Travelled.{legs-shown}
use Rattle.run_promise.specs.Accounts.{so_far}
use Rattle.run_promise.specs.Going.{IsCutFrom, AreAccounted}
use Rattle.run_promise.proofs.Accounts.{last-of}
use Rattle.run_promise.proofs.AccountsEnd.{ends-follow, ends-brought}
use Rattle.run_course.proofs.Telling.{each-of}
use Rattle.run_promise.specs.Origin.{Origin, rule_of, start_at, first_of, HistoryIsRecorded}
use Rattle.run_promise.specs.Days.{HasWords, IsBegunIn}
use Rattle.run_promise.proofs.Whole.{is-whole}
use Rattle.run_promise.proofs.Beside.{found-or}
use Rattle.run_course.specs.log_model.declared.lines.Refused.{Refused}
use Rattle.run_promise.specs.Ends.{recording_by, recording_with, HandsBeside, IsBeside, EndsRun}

-- accounts are of the recording so far
accounts-by : (r : Recording) (c : Card) (first : ℕ) (done : List TraceSecond) (p : Progress) (ks : List ℕ) → AreAccounted r c first done p ks → AreAccounted (so_far r done p.log) c first done p ks
accounts-by r c first done p ks a = record {
  each = λ u at. let k = a.each u at in (k.0, k.1, let s = k.2 in record { account = s.account; before = s.before; due = s.due; cuts = s.cuts; later = s.later });
  waits = a.waits;
}

-- as many kilometres, and one leg more
kilometres-push : (xs ys : List ℕ) (a b : ℕ) → kilometres_of xs ≡ kilometres_of ys → a ≡ b → kilometres_of (xs ++ a ∷ []) ≡ kilometres_of (ys ++ b ∷ [])
kilometres-push xs ys a b same is =
    sum_by-append (λ (n : ℕ). n / 3600) xs (a ∷ []) ∙ ap (λ (n : ℕ). n + kilometres_of (a ∷ [])) same ∙ ap (λ (n : ℕ). kilometres_of ys + kilometres_of (n ∷ [])) is
    ∙ sym (sum_by-append (λ (n : ℕ). n / 3600) ys (b ∷ []))

-- what sessions refused is no part of what was found
pub found-with : (r : Recording) (stops : List Refused) (f : Found) (began : Devices) → IsFound r f began → IsFound (record r { stops = stops }) f began
found-with r stops f began h = record { unit = h.unit; image = image; start = start; clock = h.clock; number = number; vehicle = h.vehicle; days = days }
  where
    image : (c : Card) → (found_of f c).image ≡ card_image (record r { stops = stops }) c
    image A = h.image A
    image B = h.image B

    start : (c : Card) → (found_of f c).start ≡ brought (record r { stops = stops }) c
    start A = h.start A
    start B = h.start B

    number : (c : Card) → IsOwnValid (card_image (record r { stops = stops }) c) → (found_of f c).number ≡ own_number (card_image (record r { stops = stops }) c)
    number A valid = h.number A valid
    number B valid = h.number B valid

    days : (c : Card) → IsOwnValid (card_image (record r { stops = stops }) c) → AreDays 0 (card_days (own_sizes (card_image (record r { stops = stops }) c)) (card_image (record r { stops = stops }) c))
    days A valid = h.days A valid
    days B valid = h.days B valid

module _ (o : Origin) (done : List TraceSecond) (p : Progress) (g : Travel) (marks : List Mark) (stops : List Refused) (w : RunLedger) (began now : Devices) where
  abbrev r : Recording
  r = recording_with o done p.log stops

  module _ (h : HistoryIsRecorded o done p g marks (breakdowns_of now) w.brought) (opened : IsFound (recording_by o done p.log) o.found began) (carried : LedgerStands o.found w now) (book : w.book ≡ p.book) (told : w.marks ≡ marks) (beside : IsBeside o done p g marks now) (hands : HandsBeside r w marks) where
    found : IsFound r o.found began
    found = found-with (recording_by o done p.log) stops o.found began opened

    unit-began : o.found.unit.began ≡ began.unit.clock
    unit-began = ap (λ (s : Started). s.began) found.unit

    untouched : AreUntouched r o.found now
    untouched c never = ⊎_elim
        (λ as_. as_)
        (λ may. ⊎_elim
        (λ bad. absurd (bad may.0))
        (λ same. absurd (let lt = may.1 in omega (arith, lt, same)))
        never)
        (beside.spared c)

    safe : IsCoherent now.unit → ((c : Card) → IsCoherent (card_of now c)) → Decodes o.recording.unit → IsSafe r w.marks began now
    safe unit_whole card_whole decodes =
        safe-followed r o.found w began now unit_whole card_whole decodes o.from h.followed.order h.followed.early found (ends-follow r o.from (first_of o) p w.book h.followed refl book) carried hands.followed
        (λ c valid. ends-brought (recording_by o done p.log) c o.from p w.book (w.brought c) h.followed refl book (accounts-by o.recording c (first_of o) done p (w.brought c) (h.accounts c valid))) untouched

    causes : o.breakdowns ≡ breakdowns_of began → HasCauses (λ c u v. IsVerdict r (now.unit.left_since began.unit.clock) ((card_of now c).left_since (card_of began c).clock) c u v) (breakdowns_of began) (breakdowns_of now) r.trace r.log
    causes same =
        let c = subst (λ (f : Device → ℕ). AreCaused f (breakdowns_of now) done p.log) same h.caused.caused in
        record {
          refused = c.refused;
          cut_seconds = c.cut_seconds;
          off_lines = c.off_lines;
          failed_cuts = c.failed_cuts;
          tear_lines = c.tear_lines;
          failed_tears = c.failed_tears;
          torn_cards = c.torn_cards;
          begun = λ b at. each-of (IsBegun done) p.log.breaks b c.begun at;
          moments = λ b at. each-of (HasMoment (went p.log done).told) p.log.breaks b c.moments at;
          order = c.order;
          finds = c.finds;
          judged = c.judged;
          verdicts = λ t e v at seen.
              subst (λ (n : ℕ). IsVerdict r (now.unit.left_since n) ((card_of now e.card).left_since (card_of began e.card).clock) e.card t.second.number v) unit-began
              (subst (λ (n : ℕ). IsVerdict r (now.unit.left_since o.found.unit.began) ((card_of now e.card).left_since n) e.card t.second.number v) (found.clock e.card) (beside.verdicts.each t e v at seen).0);
        }

    still : o.breakdowns ≡ breakdowns_of began → (c : Card) → filter (same_card c) (cards_torn (told_of r)) ≡ [] → breakdowns_of now (device_of c) ≡ breakdowns_of began (device_of c)
    still same c none =
        let caused = subst (λ (f : Device → ℕ). AreCaused f (breakdowns_of now) done p.log) same h.caused.caused in
        caused.calm_cards c (ap (λ (cs : List Card). length cs) none)

    kept : (b : Break) → Contains p.log.breaks b → WasFound (now.unit.left_since began.unit.clock) b
        ⊎ (IsUnfound b × ((c : Card) (u : ℕ) → IsOwnValid (card_image r c) → Contains (acceptances r c) u → u ≤ second_of b))
    kept (Cut second k failed begun) at = ⊎_elim
        (λ found_. inl (subst (λ (n : ℕ). WasFound (now.unit.left_since n) (Cut second k failed begun)) unit-began found_))
        (λ none. inr (none.0, λ c u valid accepted. each-of (IsCutFrom u) (drop p.unfound p.log.breaks) (Cut second k failed begun) ((h.accounts c valid).each u accepted).2.cuts none.1 refl))
        (found-or (now.unit.left_since o.found.unit.began) p.unfound p.log.breaks (Cut second k failed begun) beside.verdicts.kept at)
    kept (Tear second slot failed begun late) at = inl tt

    may-show : (x : List ℕ) → now.unit.may_leave x → (shown : ShowsOdometer (odometer_at o.recording.unit) p.book g x) → MayShow (first_of o) p.book g (last_kept x) shown.leg
    may-show x on shown =
        let v : UnitView = unit_view [] [] x in
        let shows = (carried.unit.unit_holds [] []).now v (x, on, refl) in
        let first : o.found.unit.first ≡ first_of o = ap (λ (s : Started). s.first) found.unit in
        record {
          mark = subst (λ (b : Book). IsMark (first_of o) (all b) (last_kept x)) book
              (subst (λ (n : ℕ). IsMark n (all w.book) (last_kept x)) first (subst (λ (k : ℕ). IsMark o.found.unit.first (all w.book) k) (last-of [] [] x) shows.mark));
          low = subst (λ (b : Book). All (λ (i : HistoryMinute). i.minute ≤ last_kept x) b.sure) book (subst (λ (k : ℕ). All (λ (i : HistoryMinute). i.minute ≤ k) w.book.sure) (last-of [] [] x) shows.sure);
          side = shown.side;
          behind = shown.behind;
        }

    odometer : (x : List ℕ) → now.unit.may_leave x → OdometerSafe r.rule r.log (told_of r) (odometer_at r.unit) x
    odometer x on =
        odometer-safe (rule_of o) p.log (went p.log done).told (odometer_at o.recording.unit) p.book g now.unit beside.travels
        (λ y left shown. legs-shown (rule_of o) (start_at o) o.from (first_of o) done p h.followed h.waiting g h.legs (last_kept y) shown.leg (may-show y left shown)) x on

    -- the history, behind the book
    front : (rest : List HistoryMinute) × (history_of r ≡ all p.book ++ rest)
    front = h.followed.follows.front

    -- what comes behind it is later than any minute of it
    comes-later : (i : HistoryMinute) → Contains (all p.book) i → All (λ j. i.minute < j.minute) front.0
    comes-later i at =
        beyond-mark (first_of o) (o.from / 60) ((o.from + length done) / 60) i.minute (all p.book) front.0 h.followed.early
        (subst (λ (is : List HistoryMinute). Rises (o.from / 60) is ((o.from + length done) / 60)) front.1 (rises o.from (rule_of o) (start_at o) p.log done h.followed.order)) (inr (i, at, refl))

    -- a day that was begun
    day-begun : (x : List ℕ) (day odometer : ℕ) → IsBegunBy (odometer_at o.recording.unit) p.book g x day odometer → IsBegunIn r x day odometer
    day-begun x day odometer b =
        let k = h.legs.begun b.e b.begun in
        let First : HistoryMinute → Type 0 = λ j. j.minute / 1440 ≡ day → b.i.minute ≤ j.minute in
        let same = b.same in
        record {
          anew = λ n q. b.anew n (subst (λ (y : List ℕ). RecordsDay y day n) (sym h.image) q);
          i = b.i;
          there = subst (λ (is : List HistoryMinute). Contains is b.i) (sym front.1) (Contains-append_left (all p.book) front.0 b.i b.there);
          has = subst (λ (n : ℕ). n ≤ last_kept x) (sym b.same) b.has;
          day_is = ap (λ (n : ℕ). n / 1440) b.same ∙ b.day_is;
          first = subst (All First) (sym front.1)
              (All-append First (all p.book) front.0
              (All-weaker (λ (j : HistoryMinute). j.minute / 1440 ≡ day → b.e.minute ≤ j.minute) First (λ j le is. subst (λ (n : ℕ). n ≤ j.minute) (sym same) (le is)) (all p.book) b.first)
              (All-weaker (λ (j : HistoryMinute). b.i.minute < j.minute) First (λ j lt is. omega (arith, lt)) front.0 (comes-later b.i b.there)));
          earlier = k.earlier;
          span = k.span;
          later = k.later;
          are = k.are;
          minute = k.minute;
          decided = k.decided;
          same = k.number ∙ sym b.same;
          known = known-more (rule_of o) (take p.unfound p.log.breaks) p.log.breaks k.earlier (λ u is. tells-front u p.unfound p.log.breaks is) k.known;
          legs = k.legs;
          closed = k.closed;
          sum_is = b.odometer_is ∙ odometer-sum (odometer_at o.recording.unit) (b.e.before ++ b.e.leg ∷ []) beside.travels.begins
              ∙ ap (λ (n : ℕ). min (odometer_at o.recording.unit + n) HIGHEST_ODOMETER) (kilometres-push b.e.before k.legs b.e.leg k.minute.travelled (sym k.sums) (sym k.leg));
        }

    days : (x : List ℕ) → now.unit.may_leave x → (day odometer : ℕ) → RecordsDay x day odometer → RecordsDay r.unit day odometer ⊎ IsBegunIn r x day odometer
    days x on day odometer records = ⊎_elim
        (λ was. inl (subst (λ (y : List ℕ). RecordsDay y day odometer) h.image was))
        (λ begun. inr (day-begun x day odometer begun))
        (beside.travels.days x on day odometer records)

    -- the minutes of which an image has the words
    words : (x : List ℕ) → now.unit.may_leave x → HasWords r x
    words x on =
        let past : List HistoryMinute = up_to (last_kept x) (all p.book) in
        let shows = (carried.unit.unit_holds [] []).now (unit_view [] [] x) (x, on, refl) in
        let low : All (λ i. i.minute ≤ last_kept x) p.book.sure = subst (λ (b : Book). All (λ (i : HistoryMinute). i.minute ≤ last_kept x) b.sure) book
        (subst (λ (k : ℕ). All (λ (i : HistoryMinute). i.minute ≤ k) w.book.sure) (last-of [] [] x) shows.sure) in
        record {
          some = past;
          passed = passed-reached (history_of r) (lost_of r) p.book past h.followed.follows (reached-shown p.book (last_kept x) low);
          shows = subst (λ (y : List ℕ). ShowsWritten y past x) h.image (beside.travels.written x on);
        }

    unit-later : began.unit.clock ≤ now.unit.clock
    unit-later = subst (λ (n : ℕ). n ≤ now.unit.clock) unit-began (carried.unit.unit_holds [] []).later

    pub ends-run : IsCoherent now.unit → ((c : Card) → IsCoherent (card_of now c)) → Decodes o.recording.unit → o.breakdowns ≡ breakdowns_of began → EndsRun r marks began now
    ends-run unit_whole card_whole decodes same =
        let all_safe : IsSafe r marks began now = subst (λ (ms : List Mark). IsSafe r ms began now) told (safe unit_whole card_whole decodes) in
        let all_caused : IsCaused r marks began now = record { causes = causes same; kept = kept; complete = h.complete; stops = hands.stops; each_stop = hands.each_stop } in
        record {
          safe = all_safe;
          caused = all_caused;
          still = still same;
          brings = λ t e v at seen. (beside.verdicts.each t e v at seen).1;
          odometer = odometer;
          days = days;
          words = words;
          whole = λ uncut. is-whole r marks began now o.from h.followed.order uncut all_safe all_caused unit_whole unit-later;
        }
