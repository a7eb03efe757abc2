-- The odometer of each image, kept by each kind of step.
use Rattle.std.proofs.Common.{◌≡◌, ◌⊎◌, inl, inr, ⊎_elim, ℕ, ◌+◌, ◌-◌, ◌/◌, ◌<◌, ◌≤◌, min, nat_le, true, Some, None, List, [], ◌∷◌, ◌++◌, All, Contains, refl, ap, sym, subst, ◌∙◌, arith, append-nil}
use Rattle.std.proofs.lemmas.List.Sums.{fold-append, sum_by-cons}
use Rattle.std.proofs.lemmas.List.Elements.{All-weaker, All-append, All-filter, Contains-append_left, Contains-push}
use Rattle.tach_media.specs.Medium.{State, IsCoherent, LeavesOnly, Unchanged}
use Rattle.unit_minutes.specs.gated_ring.Ring.{pointer}
use Rattle.unit_minutes.specs.unit_model.declared.layout.TheConstants.{DAY_SLOTS, HIGHEST_ODOMETER}
use Rattle.unit_minutes.specs.unit_model.Image.{day_ring, last_kept, odometer_at}
use Rattle.unit_minutes.proofs.unit_model.WholeDays.{decoded_of}
use Rattle.unit_minutes.specs.DayOdometers.{RecordsDay}
use Rattle.run_unit_course.specs.minute_model.declared.Rule.{Rule}
use Rattle.run_unit_course.specs.log_model.Log.{RunLog}
use Rattle.run_unit_course.specs.log_model.Course.{ToldSecond}
use Rattle.run_unit_course.specs.log_model.Spans.{spans_of}
use Rattle.run_unit_course.specs.log_model.declared.lines.Mark.{Mark}
use Rattle.run_unit_course.specs.history_model.History.{limit_of}
use Rattle.run_unit_course.specs.history_model.Minutes.{HistoryMinute, up_to}
use Rattle.run_unit_course.specs.history_model.Book.{Book, all, not_begun, kept, broken, found}
use Rattle.run_unit_course.proofs.history_model.Books.{all-none, all-found, contains-up_to, up_to-whole, up_to-twice, up_to-before}
use Rattle.run_unit_course.proofs.history_model.Filters.{all-one}
use Rattle.safety_model.specs.device_rule.Views.{unit_view}
use Rattle.safety_model.specs.device_rule.Filling.{seen_by_unit}
use Rattle.unit_rule.specs.Rule.{Started}
use Rattle.unit_rule.specs.Marks.{UnitFollowsBook}
use Rattle.run_unit_course.specs.Legs.{Reckoned, Travel, reckoned, not_travelled, travelled, stranded, resumed, kilometres_of, AreLegs}
use Rattle.unit_rule.specs.Odometer.{odometer_by, odometer_after, ShowsOdometer, IsBegunBy, ShowsDays, HasTravelled, IsBesideTravel, IsKeepingDays, OdometerSafe}
use Rattle.unit_rule.specs.Written.{ShowsWritten}
use Rattle.unit_rule.proofs.Moves.{shown-last}
use Rattle.unit_rule.proofs.Found.{left-earlier, left-decodes, one-image}
use Rattle.unit_rule.proofs.Writing.{written-first, written-still, written-fewer, written-more}

odometer-low : (start : ℕ) (legs : List ℕ) → start ≤ HIGHEST_ODOMETER → odometer_after start legs ≤ HIGHEST_ODOMETER
odometer-low start [] le = le
odometer-low start (t ∷ legs) le = odometer-low (odometer_by start t) legs (omega arith)

-- power that came, and nothing that was travelled
odometer-rests : (start : ℕ) (legs : List ℕ) → start ≤ HIGHEST_ODOMETER → odometer_after start (legs ++ 0 ∷ []) ≡ odometer_after start legs
odometer-rests start legs le = fold-append odometer_by start legs (0 ∷ []) ∙ rests (odometer_after start legs) (odometer-low start legs le)
  where
    rests : (o : ℕ) → o ≤ HIGHEST_ODOMETER → odometer_by o 0 ≡ o
    rests o le = omega (arith, le)

-- all is the start's and the kilometres of each time, up to the highest
pub odometer-sum : (start : ℕ) (legs : List ℕ) → start ≤ HIGHEST_ODOMETER → odometer_after start legs ≡ min (start + kilometres_of legs) HIGHEST_ODOMETER
odometer-sum start [] le = omega (arith, le)
odometer-sum start (t ∷ legs) le =
    odometer-sum (odometer_by start t) legs (omega arith) ∙ sums start (t / 3600) (kilometres_of legs) (kilometres_of (t ∷ legs)) (sum_by-cons (λ (n : ℕ). n / 3600) t legs)
  where
    sums : (a b c d : ℕ) → d ≡ b + c → min (min (a + b) HIGHEST_ODOMETER + c) HIGHEST_ODOMETER ≡ min (a + d) HIGHEST_ODOMETER
    sums a b c d is = omega (arith, is)

no-minute : {X P : Type 0} (x : X) → None ≡ Some x → P
no-minute x is = absurd (cc)

-- a minute that is not later than a kept one is not of a later day
earlier-day : (a k day' day : ℕ) → a ≤ k → k / 1440 < day' → day ≡ day' → day ≤ a / 1440 → ⊥
earlier-day a k day' day le lt is low = omega (arith, le, lt, is, low)

-- THE OPENING
pub travelled-opened : (start : ℕ) (unit : State) (x : List ℕ) → odometer_at x ≡ start → start ≤ HIGHEST_ODOMETER → pointer day_ring x < DAY_SLOTS → ((c : List ℕ) → unit.may_leave c → c ≡ x) → HasTravelled start not_begun (not_travelled x) unit
travelled-opened start unit x is low known now = record {
  begins = low;
  none = λ e. refl;
  now = λ c on. record { leg = 0; is = ap odometer_at (now c on) ∙ is ∙ sym (odometer-rests start [] low); side = inl refl; behind = λ i no last. no-minute i no };
  days = λ c on day o r. inl (subst (λ (y : List ℕ). RecordsDay y day o) (now c on) r);
  written = λ c on. written-first x c (now c on);
  since = λ c on. subst (λ (y : List ℕ). last_kept x ≤ last_kept y) (sym (now c on)) (omega arith);
  known = λ c on. subst (λ (y : List ℕ). pointer day_ring y < DAY_SLOTS) (sym (now c on)) known;
}

-- a day was begun still, as another image shows it
moved : (start : ℕ) (b : Book) (g : Travel) (x c : List ℕ) → last_kept c ≡ last_kept x → (day o : ℕ) → RecordsDay g.image day o ⊎ IsBegunBy start b g x day o → RecordsDay g.image day o ⊎ IsBegunBy start b g c day o
moved start b g x c last day o (inl r) = inl r
moved start b g x c last day o (inr h) = inr (record {
  anew = h.anew;
  e = h.e;
  begun = h.begun;
  i = h.i;
  there = h.there;
  same = h.same;
  has = subst (λ (n : ℕ). h.e.minute ≤ n) (sym last) h.has;
  day_is = h.day_is;
  first = h.first;
  odometer_is = h.odometer_is;
})

module _ (start : ℕ) (b : Book) (g : Travel) {U V : State} (t : HasTravelled start b g U) (before : IsCoherent U) where
  -- a step beside the minutes and the odometer
  pub travelled-aside : (R : List ℕ → List ℕ → Type 0) → LeavesOnly U V R → ((x c : List ℕ) → R x c → IsBesideTravel x c) → HasTravelled start b g V
  travelled-aside R run aside = record {
    begins = t.begins;
    none = t.none;
    now = λ c on. ⊎_elim (t.now c)
        (λ here. let was = t.now here.0 (before.is_left here.0 here.1) in let same = aside here.0 c here.2 in record { leg = was.leg; is = same.odometer_is ∙ was.is; side = was.side; behind = λ i maybe last. was.behind i maybe (sym same.last ∙ last) })
        (run.now c on);
    days = λ c on day o r. ⊎_elim (λ was. t.days c was day o r)
        (λ here. let there = before.is_left here.0 here.1 in let same = aside here.0 c here.2 in moved start b g here.0 c same.last day o (t.days here.0 there day o (same.days (t.known here.0 there) day o r)))
        (run.now c on);
    written = λ c on. ⊎_elim (t.written c)
        (λ here.
        let there = before.is_left here.0 here.1 in
        let same = aside here.0 c here.2 in
        written-still g.image (up_to (last_kept c) (all b)) (up_to (last_kept here.0) (all b)) here.0 c (ap (λ (n : ℕ). up_to n (all b)) same.last) same.last (same.written (t.known here.0 there)) (t.written here.0 there))
        (run.now c on);
    since = λ c on. ⊎_elim (t.since c)
        (λ here. let same = aside here.0 c here.2 in subst (λ (n : ℕ). last_kept g.image ≤ n) (sym same.last) (t.since here.0 (before.is_left here.0 here.1)))
        (run.now c on);
    known = λ c on. ⊎_elim (t.known c) (λ here. (aside here.0 c here.2).known (t.known here.0 (before.is_left here.0 here.1))) (run.now c on);
  }

  pub travelled-read : LeavesOnly U V Unchanged → HasTravelled start b g V
  travelled-read run = travelled-aside Unchanged run (λ x c never. absurd never)

  -- KEEP of a minute with the odometer of what was travelled up to it
  module _ (s : Started) (due : ℕ) (marks : List Mark) (h : UnitFollowsBook s due b marks U) (i : HistoryMinute) (odometer leg : ℕ) (is : odometer ≡ odometer_by (odometer_after start g.before) leg) (none : b.maybe ≡ None) (late : due ≤ i.minute)
      (run : LeavesOnly U V (IsKeepingDays (seen_by_unit i) odometer)) where
    goes-on : odometer ≡ odometer_after start (g.before ++ leg ∷ [])
    goes-on = is ∙ sym (fold-append odometer_by start g.before (leg ∷ []))

    all-kept : all (kept i b) ≡ all b ++ i ∷ []
    all-kept = append-nil (b.sure ++ i ∷ []) ∙ ap (λ (is_ : List HistoryMinute). is_ ++ i ∷ []) (sym (all-none b none))

    all-broken : all (broken i b) ≡ all b ++ i ∷ []
    all-broken = ap (λ (is_ : List HistoryMinute). is_ ++ i ∷ []) (sym (all-none b none))

    -- no minute of the book is later than what an image has kept
    sure-low : (x : List ℕ) → U.may_leave x → All (λ j. j.minute ≤ last_kept x) (all b)
    sure-low x left =
        let shows = (h.unit_holds [] []).now (unit_view [] [] x) (x, left, refl) in
        subst (All (λ (j : HistoryMinute). j.minute ≤ last_kept x)) (sym (all-none b none)) (subst (λ (n : ℕ). All (λ (j : HistoryMinute). j.minute ≤ n) b.sure) (shown-last [] [] x) shows.sure)

    -- the minutes up to this one are those so far and it
    more-minutes : (b' : Book) → all b' ≡ all b ++ i ∷ [] → (x c : List ℕ) → U.may_leave x → last_kept c ≡ i.minute → up_to (last_kept c) (all b') ≡ up_to (last_kept x) (all b) ++ i ∷ []
    more-minutes b' is x c left last =
        let P : HistoryMinute → Type 0 = λ j. j.minute ≤ last_kept c in
        let low = sure-low x left in
        let early = left-earlier s due b marks U h x left in
        ap (up_to (last_kept c)) is
        ∙ up_to-whole (last_kept c) (all b ++ i ∷ [])
        (All-append P (all b) (i ∷ []) (All-weaker (λ (j : HistoryMinute). j.minute ≤ last_kept x) P (λ j le. omega (arith, le, early, late, last)) (all b) low) (all-one P i (omega (arith, last))))
        ∙ ap (λ (is_ : List HistoryMinute). is_ ++ i ∷ []) (sym (up_to-whole (last_kept x) (all b) low))

    -- and it is behind the old mark
    same-minutes : (x c : List ℕ) → U.may_leave x → last_kept c ≡ last_kept x → up_to (last_kept c) (all (broken i b)) ≡ up_to (last_kept x) (all b)
    same-minutes x c left last =
        let early = left-earlier s due b marks U h x left in
        ap (λ (n : ℕ). up_to n (all (broken i b))) last ∙ ap (up_to (last_kept x)) all-broken ∙ up_to-before (last_kept x) (all b) i (omega (arith, early, late))

    decoded : (x c : List ℕ) → U.may_leave x → IsKeepingDays (seen_by_unit i) odometer x c → pointer day_ring c < DAY_SLOTS
    decoded x c left k = (decoded_of c (k.moment.decodes (left-decodes s due b marks U before h x left))).known

    -- the book has the minute, and so has what was travelled
    module _ (b' : Book) (g' : Travel) (all-is : all b' ≡ all b ++ i ∷ []) (image-is : g'.image ≡ g.image) (begun-is : g'.begun ≡ g.begun ++ reckoned i.minute leg g ∷ []) where
      -- a day that was begun before was so
      pushed : (x c : List ℕ) → last_kept x < due → last_kept x ≤ last_kept c → (day o : ℕ) → RecordsDay g.image day o ⊎ IsBegunBy start b g x day o → RecordsDay g'.image day o ⊎ IsBegunBy start b' g' c day o
      pushed x c early le day o (inl r) = inl (subst (λ (y : List ℕ). RecordsDay y day o) (sym image-is) r)
      pushed x c early le day o (inr k) =
          let First : HistoryMinute → Type 0 = λ j. j.minute / 1440 ≡ day → k.e.minute ≤ j.minute in
          let has = k.has in
          inr (record {
            anew = λ n r. k.anew n (subst (λ (y : List ℕ). RecordsDay y day n) image-is r);
            e = k.e;
            begun = subst (λ (es : List Reckoned). Contains es k.e) (sym begun-is) (Contains-append_left g.begun (reckoned i.minute leg g ∷ []) k.e k.begun);
            i = k.i;
            there = subst (λ (is_ : List HistoryMinute). Contains is_ k.i) (sym all-is) (Contains-append_left (all b) (i ∷ []) k.i k.there);
            same = k.same;
            has = omega (arith, has, le);
            day_is = k.day_is;
            first = subst (All First) (sym all-is) (All-append First (all b) (i ∷ []) k.first (all-one First i (λ same. omega (arith, has, early, late))));
            odometer_is = k.odometer_is;
          })

      -- or this minute begins its day
      born : (x c : List ℕ) → U.may_leave x → last_kept x / 1440 < i.minute / 1440 → last_kept c ≡ i.minute → (day o : ℕ) → day ≡ i.minute / 1440 → o ≡ odometer → IsBegunBy start b' g' c day o
      born x c left lt last day o day_is o_is =
          let First : HistoryMinute → Type 0 = λ j. j.minute / 1440 ≡ day → i.minute ≤ j.minute in
          let since = t.since x left in
          record {
            anew = λ n r. earlier-day (last_kept g.image) (last_kept x) (i.minute / 1440) day since lt day_is (subst (λ (y : List ℕ). day ≤ last_kept y / 1440) image-is r.kept);
            e = reckoned i.minute leg g;
            begun = subst (λ (es : List Reckoned). Contains es (reckoned i.minute leg g)) (sym begun-is) (Contains-push g.begun (reckoned i.minute leg g));
            i = i;
            there = subst (λ (is_ : List HistoryMinute). Contains is_ i) (sym all-is) (Contains-push (all b) i);
            same = refl;
            has = omega (arith, last);
            day_is = sym day_is;
            first = subst (All First) (sym all-is)
                (All-append First (all b) (i ∷ [])
                (All-weaker (λ (j : HistoryMinute). j.minute ≤ last_kept x) First (λ j low same. absurd (earlier-day j.minute (last_kept x) (i.minute / 1440) day low lt day_is (omega (arith, same)))) (all b) (sure-low x left))
                (all-one First i (λ same. omega arith)));
            odometer_is = o_is ∙ goes-on;
          }

    kept-day : (x c : List ℕ) → U.may_leave x → IsKeepingDays (seen_by_unit i) odometer x c → last_kept c ≡ i.minute → ShowsDays start (kept i b) (travelled i.minute leg g) c
    kept-day x c left k last day o r =
        let early = left-earlier s due b marks U h x left in
        ⊎_elim
        (λ slot. pushed (kept i b) (travelled i.minute leg g) all-kept refl refl x c early (omega (arith, early, late, last)) day o (t.days x left day o (record { has = slot; kept = k.earlier day o slot })))
        (λ new. inr (born (kept i b) (travelled i.minute leg g) all-kept refl refl x c left new.0 last day o new.1 new.2))
        (k.slots day o r.has)

    pub travelled-kept : ((c : List ℕ) → V.may_leave c → last_kept c ≡ i.minute) → HasTravelled start (kept i b) (travelled i.minute leg g) V
    travelled-kept ends = record {
      begins = t.begins;
      none = λ e. refl;
      now = λ c on. ⊎_elim
          (λ was. not-before c on was)
          (λ here. ⊎_elim
          (λ old. absurd (omega (arith, ends c on, old.last, left-earlier s due b marks U h here.0 (before.is_left here.0 here.1), late)))
          (λ new. record { leg = leg; is = new.odometer_is ∙ goes-on; side = inl refl; behind = λ j no last. no-minute j no }) here.2.moment.side)
          (run.now c on);
      days = λ c on. ⊎_elim (λ was. not-before c on was) (λ here. kept-day here.0 c (before.is_left here.0 here.1) here.2 (ends c on)) (run.now c on);
      written = λ c on. ⊎_elim (λ was. not-before c on was)
          (λ here.
          let there = before.is_left here.0 here.1 in
          ⊎_elim
          (λ old. absurd (omega (arith, ends c on, old.0, left-earlier s due b marks U h here.0 there, late)))
          (λ new.
          written-more g.image (up_to (last_kept c) (all (kept i b))) (up_to (last_kept here.0) (all b)) here.0 c i odometer (more-minutes (kept i b) all-kept here.0 c there (ends c on)) (ends c on) new.1 (t.written here.0 there))
          here.2.written.side)
          (run.now c on);
      since = λ c on. ⊎_elim (λ was. not-before c on was)
          (λ here. let there = before.is_left here.0 here.1 in let since = t.since here.0 there in let early = left-earlier s due b marks U h here.0 there in let last = ends c on in omega (arith, since, early, late, last))
          (run.now c on);
      known = λ c on. ⊎_elim (λ was. not-before c on was) (λ here. decoded here.0 c (before.is_left here.0 here.1) here.2) (run.now c on);
    }
      where
        not-before : (c : List ℕ) → V.may_leave c → U.may_leave c → {P : Type 0} → P
        not-before c on was = absurd (omega (arith, ends c on, left-earlier s due b marks U h c was, late))

    -- power was lost in it
    later-kept : (x c : List ℕ) → U.may_leave x → IsKeepingDays (seen_by_unit i) odometer x c → last_kept x ≤ last_kept c
    later-kept x c left k = let early = left-earlier s due b marks U h x left in ⊎_elim (λ old. omega (arith, old.last)) (λ new. omega (arith, new.last, early, late)) k.moment.side

    broken-day : (x c : List ℕ) → U.may_leave x → IsKeepingDays (seen_by_unit i) odometer x c → ShowsDays start (broken i b) (stranded i.minute leg g) c
    broken-day x c left k day o r = ⊎_elim
        (λ slot.
        pushed (broken i b) (stranded i.minute leg g) all-broken refl refl x c (left-earlier s due b marks U h x left) (later-kept x c left k) day o (t.days x left day o (record { has = slot; kept = k.earlier day o slot })))
        (λ new. ⊎_elim
        (λ old. absurd (earlier-day (last_kept c) (last_kept x) (i.minute / 1440) day (omega (arith, old.last)) new.0 new.1 r.kept))
        (λ behind. inr (born (broken i b) (stranded i.minute leg g) all-broken refl refl x c left new.0 behind.last day o new.1 new.2)) k.moment.side)
        (k.slots day o r.has)

    pub travelled-broken : HasTravelled start (broken i b) (stranded i.minute leg g) V
    travelled-broken = record {
      begins = t.begins;
      none = λ no. no-minute i (sym no);
      now = λ c on. ⊎_elim
          (λ was. old c (left-earlier s due b marks U h c was) (t.now c was))
          (λ here.
          let there = before.is_left here.0 here.1 in
          let early = left-earlier s due b marks U h here.0 there in
          ⊎_elim
          (λ k. ⊎_elim (λ same. again here.0 c same k.last early (t.now here.0 there)) (λ new. record { leg = leg; is = new ∙ goes-on; side = inr refl; behind = λ j maybe last. refl }) k.odometer_is)
          (λ k. record { leg = leg; is = k.odometer_is ∙ goes-on; side = inr refl; behind = λ j maybe last. refl }) here.2.moment.side)
          (run.now c on);
      days = λ c on. ⊎_elim
          (λ was day o r. pushed (broken i b) (stranded i.minute leg g) all-broken refl refl c c (left-earlier s due b marks U h c was) (omega arith) day o (t.days c was day o r))
          (λ here. broken-day here.0 c (before.is_left here.0 here.1) here.2)
          (run.now c on);
      written = λ c on.
          let Now : List HistoryMinute = up_to (last_kept c) (all (broken i b)) in
          ⊎_elim
          (λ was. written-still g.image Now (up_to (last_kept c) (all b)) c c (same-minutes c c was refl) refl refl (t.written c was))
          (λ here.
          let x : List ℕ = here.0 in
          let there = before.is_left x here.1 in
          let past : List HistoryMinute = up_to (last_kept x) (all b) in
          ⊎_elim
          (λ old. ⊎_elim
          (λ same. written-still g.image Now past x c (same-minutes x c there old.0) old.0 same (t.written x there))
          (λ less. written-fewer g.image Now past x c (DAY_SLOTS - 1) (omega arith) (same-minutes x c there old.0) old.0 less (t.written x there))
          old.1)
          (λ new. written-more g.image Now past x c i odometer (more-minutes (broken i b) all-broken x c there new.0) new.0 new.1 (t.written x there))
          here.2.written.side)
          (run.now c on);
      since = λ c on. ⊎_elim (t.since c)
          (λ here. let there = before.is_left here.0 here.1 in let since = t.since here.0 there in let le = later-kept here.0 c there here.2 in omega (arith, since, le))
          (run.now c on);
      known = λ c on. ⊎_elim (t.known c) (λ here. decoded here.0 c (before.is_left here.0 here.1) here.2) (run.now c on);
    }
      where
        behind-it : (j : HistoryMinute) (m : ℕ) → m < due → Some i ≡ Some j → m ≡ j.minute → {P : Type 0} → P
        behind-it j m early maybe last = let one : i ≡ j = cc in absurd (omega (arith, early, late, ap (λ (l : HistoryMinute). l.minute) one, last))

        nothing : (l : ℕ) {P : Type 0} → (l ≡ g.sure) ⊎ (g.maybe ≡ Some l) → (l ≡ g.sure → P) → P
        nothing l (inl sure) f = f sure
        nothing l (inr maybe) f = no-minute l (sym (t.none none) ∙ maybe)

        old : (c : List ℕ) → last_kept c < due → ShowsOdometer start b g c → ShowsOdometer start (broken i b) (stranded i.minute leg g) c
        old c early was = record { leg = was.leg; is = was.is; side = nothing was.leg was.side (λ sure. inl sure); behind = λ j maybe last. behind-it j (last_kept c) early maybe last }

        again : (x c : List ℕ) → odometer_at c ≡ odometer_at x → last_kept c ≡ last_kept x → last_kept x < due → ShowsOdometer start b g x → ShowsOdometer start (broken i b) (stranded i.minute leg g) c
        again x c same last early was = let shown = old x early was in record { leg = shown.leg; is = same ∙ shown.is; side = shown.side; behind = λ j maybe is. shown.behind j maybe (sym last ∙ is) }

  -- POWER IS BACK: the image that is found tells which it is
  pub travelled-found : (k : ℕ) (x : List ℕ) → IsCoherent V → LeavesOnly U V Unchanged → V.works ≡ true → V.image ≡ Some x → last_kept x ≡ k →
      (shown : ShowsOdometer start b g x) × HasTravelled start (found k b) (resumed shown.leg g) V
  travelled-found k x after run works is last = (
    t.now x was,
    record {
      begins = t.begins;
      none = λ e. refl;
      now = λ c on. record {
        leg = 0;
        is = ap odometer_at (one-image V x after works is c on) ∙ (t.now x was).is ∙ sym (odometer-rests start (g.before ++ (t.now x was).leg ∷ []) t.begins);
        side = inl refl;
        behind = λ j no last. no-minute j no;
      };
      days = λ c on. subst (ShowsDays start (found k b) (resumed (t.now x was).leg g)) (sym (one-image V x after works is c on)) (λ day o r. still day o (t.days x was day o r));
      written = λ c on. subst (λ (y : List ℕ). ShowsWritten g.image (up_to (last_kept y) (all (found k b))) y) (sym (one-image V x after works is c on))
          (written-still g.image (up_to (last_kept x) (all (found k b))) (up_to (last_kept x) (all b)) x x found-minutes refl refl (t.written x was));
      since = λ c on. subst (λ (y : List ℕ). last_kept g.image ≤ last_kept y) (sym (one-image V x after works is c on)) (t.since x was);
      known = λ c on. subst (λ (y : List ℕ). pointer day_ring y < DAY_SLOTS) (sym (one-image V x after works is c on)) (t.known x was);
    },
  )
    where
      found-minutes : up_to (last_kept x) (all (found k b)) ≡ up_to (last_kept x) (all b)
      found-minutes = ap (up_to (last_kept x)) (all-found k b) ∙ ap (λ (n : ℕ). up_to (last_kept x) (up_to n (all b))) (sym last) ∙ up_to-twice (last_kept x) (all b)

      was : U.may_leave x
      was = ⊎_elim (λ left. left) (λ never. absurd never.2) (run.now x (after.is_left x is))

      still : (day o : ℕ) → RecordsDay g.image day o ⊎ IsBegunBy start b g x day o → RecordsDay g.image day o ⊎ IsBegunBy start (found k b) (resumed (t.now x was).leg g) x day o
      still day o (inl r) = inl r
      still day o (inr h) =
          let First : HistoryMinute → Type 0 = λ j. j.minute / 1440 ≡ day → h.e.minute ≤ j.minute in
          let has = h.has in
          let same = h.same in
          inr (record {
            anew = h.anew;
            e = h.e;
            begun = h.begun;
            i = h.i;
            there = subst (λ (is_ : List HistoryMinute). Contains is_ h.i) (sym (all-found k b)) (contains-up_to k (all b) h.i (omega (arith, same, has, last)) h.there);
            same = h.same;
            has = h.has;
            day_is = h.day_is;
            first = subst (All First) (sym (all-found k b)) (All-filter (λ (j : HistoryMinute). nat_le j.minute k) First (all b) h.first);
            odometer_is = h.odometer_is;
          })

-- at the end, where the legs of what was travelled are those of the spans
pub odometer-safe : (rule : Rule) (log : RunLog) (told : List ToldSecond) (start : ℕ) (b : Book) (g : Travel) (unit : State) → HasTravelled start b g unit →
    ((x : List ℕ) → unit.may_leave x → (shown : ShowsOdometer start b g x) → (legs : List ℕ) × AreLegs rule (limit_of log) (last_kept x) (spans_of told) legs × (kilometres_of legs ≡ kilometres_of (g.before ++ shown.leg ∷ []))) →
    (x : List ℕ) → unit.may_leave x → OdometerSafe rule log told start x
odometer-safe rule log told start b g unit t are x left =
    let shown = t.now x left in
    let legs = are x left shown in
    record { legs = legs.0; are = legs.1; sum_is = shown.is ∙ odometer-sum start (g.before ++ shown.leg ∷ []) t.begins ∙ ap (λ (n : ℕ). min (start + n) HIGHEST_ODOMETER) (sym legs.2) }
