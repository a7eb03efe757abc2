-- The keeping of some minutes begins: how far it has gone, and what may be booked.
use Rattle.std.proofs.Common.{◌≡◌, ◌⊎◌, inl, inr, ⊎_elim, ℕ, zero, suc, ◌+◌, ◌-◌, ◌/◌, ◌≤◌, ◌<◌, false, Option, Some, List, [], ◌∷◌, ◌++◌, All, length, map, refl, ap, sym, subst, ◌∙◌, arith, append_assoc, length-append}
use Rattle.std.proofs.lemmas.List.{length-map}
use Rattle.std.proofs.lemmas.List.Elements.{All-nil, All-cons, All-head, All-tail}
use Rattle.activity_codec.specs.declared.entries.Entry.{Entry}
use Rattle.trace_model.specs.Trace.{TraceSecond}
use Rattle.unit_model.specs.minute_model.declared.Minute.{Minute}
use Rattle.unit_model.specs.minute_model.Span.{count_from, decided_in, ungiven_of}
use Rattle.unit_model.proofs.minute_model.Counted.{decided-minutes}
use Rattle.log_model.specs.Log.{RunLog, Keeping}
use Rattle.log_model.specs.Course.{ToldSecond as Second, Course, went}
use Rattle.device_calls.specs.history_model.Minutes.{HistoryMinute, on_card}
use Rattle.device_calls.specs.history_model.History.{decided_of}
use Rattle.hand_model.specs.card_image.Own.{IsOwnValid}
use Rattle.device_calls.specs.device_rule.Rules.{Standing, In, IsPresent}
use Rattle.device_calls.specs.run_unit_course.Turn.{begins_with}
use Rattle.device_calls.specs.safety_model.Safe.{Devices, card_of, breakdowns_of}
use Rattle.tach_media.specs.Medium.{State}
use Rattle.run_crew.specs.card_slots.declared.seats.Present.{Present}
use Rattle.run_crew.specs.card_slots.Calls.{present_in}
use Rattle.run_crew.specs.declared.cards.Accepted.{Accepted}
use Rattle.run_minutes.specs.run_promise.Found.{CardFound, found_of}
use Rattle.run_events.specs.run_course.Followed.{Progress, BookFollowsRun}
use Rattle.run_events.specs.run_course.Seconds.{GoesOnBy, AreNew, next_told}
use Rattle.run_events.proofs.run_course.New.{are-new}
use Rattle.run_events.specs.run_course.Moment.{goes_on}
use Rattle.run_events.specs.run_course.Telling.{told_with}
use Rattle.run_events.proofs.run_course.Telling.{second-ends_told}
use Rattle.run_events.proofs.run_course.Kept.{second-decided}
use Rattle.run_minutes.specs.run_devices.Presence.{SessionsStand}
use Rattle.run_minutes.proofs.run_devices.Presence.{minute-says}
use Rattle.run_minutes.specs.run_devices.Told.{GoesWith}
use Rattle.run_minutes.specs.run_promise.Origin.{Origin, rule_of, start_at, first_of}
use Rattle.run_minutes.specs.Minutes.{KeepingState, or_nobody, present_at}
use Rattle.run_minutes.specs.Decided.{MayBookAll, decided_minute}
use Rattle.run_record.specs.Recorded.{Values}
use Rattle.run_record.specs.Within.{told_before, course_in}
use Rattle.run_acts.specs.Rounds.{Point, Outset, told_values, keeping_of, SoFar}
use Rattle.run_acts.specs.RoundLaws.{InRounds, carried_at, KeepsSo}
use Rattle.hand_model.specs.Written.{Hands}

all-behind : {X : Type 0} (P : X → Type 0) (xs ys : List X) → All P (xs ++ ys) → All P ys
all-behind P [] ys h = h
all-behind P (x ∷ xs) ys h = all-behind P xs ys (All-tail P x (xs ++ ys) h)

-- minutes that follow one another, behind some of them
counted-part : (xs ys : List Minute) (a : ℕ) → map (λ (m : Minute). m.minute) (xs ++ ys) ≡ count_from a (length (xs ++ ys)) → map (λ (m : Minute). m.minute) ys ≡ count_from (a + length xs) (length ys)
counted-part [] ys a is = is ∙ ap (λ (n : ℕ). count_from n (length ys)) (omega arith)
counted-part (x ∷ xs) ys a is =
    let rest : map (λ (m : Minute). m.minute) (xs ++ ys) ≡ count_from (a + 1) (length (xs ++ ys)) = cc in
    let e : a + 1 + length xs ≡ a + suc (length xs) = omega arith in
    counted-part xs ys (a + 1) rest ∙ ap (λ (n : ℕ). count_from n (length ys)) e

-- minutes that follow one another are not earlier than the first
low-all : (xs : List Minute) (from : ℕ) → map (λ (m : Minute). m.minute) xs ≡ count_from from (length xs) → All (λ (m : Minute). from ≤ m.minute) xs
low-all xs from is = by xs from from is (omega arith)
  where
    by : (ys : List Minute) (low at : ℕ) → map (λ (m : Minute). m.minute) ys ≡ count_from at (length ys) → low ≤ at → All (λ (m : Minute). low ≤ m.minute) ys
    by [] low at is le = All-nil (λ (m : Minute). low ≤ m.minute)
    by (y ∷ ys) low at is le =
        let head : y.minute ≡ at = cc in
        let tail : map (λ (m : Minute). m.minute) ys ≡ count_from (at + 1) (length ys) = cc in
        All-cons (λ (m : Minute). low ≤ m.minute) y ys (omega (arith, head, le)) (by ys low (at + 1) tail (omega (arith, le)))

-- what holds of each of them as it is decided
each-decided : (P : HistoryMinute → Type 0) (f : Minute → HistoryMinute) (from n : ℕ) (xs : List Minute) → ((m : Minute) → from ≤ m.minute → m.minute < n → P (f m)) → All (λ (m : Minute). from ≤ m.minute) xs → All (λ (m : Minute). m.minute < n) xs → All P (map f xs)
each-decided P f from n [] h low over = All-nil P
each-decided P f from n (x ∷ xs) h low over =
    All-cons P (f x) (map f xs) (h x (All-head (λ (m : Minute). from ≤ m.minute) x xs low) (All-head (λ (m : Minute). m.minute < n) x xs over))
    (each-decided P f from n xs h (All-tail (λ (m : Minute). from ≤ m.minute) x xs low) (All-tail (λ (m : Minute). m.minute < n) x xs over))

stands-of : (f : CardFound) (hd : Hands) (has : List Entry) (z : Standing) (a : Accepted) (card : State) → GoesWith f hd has z (Some a) card → (t : ℕ) × (z ≡ In t a.session.minute)
stands-of f hd has z a card h = (h.0.time, h.0.stands)

-- they are over where they end by a minute
over-from : (xs : List Minute) (from n : ℕ) → map (λ (m : Minute). m.minute) xs ≡ count_from from (length xs) → from + length xs ≤ n → All (λ (m : Minute). m.minute < n) xs
over-from [] from n is le = All-nil (λ (m : Minute). m.minute < n)
over-from (x ∷ xs) from n is le =
    let head : x.minute ≡ from = cc in
    let tail : map (λ (m : Minute). m.minute) xs ≡ count_from (from + 1) (length xs) = cc in
    All-cons (λ (m : Minute). m.minute < n) x xs (omega (arith, head, le)) (over-from xs (from + 1) n tail (omega (arith, le)))

many : (a n : ℕ) → length (count_from a n) ≡ n
many a zero = refl
many a (suc n) = ap suc (many (a + 1) n)

-- IN THE KEEPING of a second
module _ (o : Origin) (done : List TraceSecond) (s : TraceSecond) (all : List Minute) (t : KeepingState) (v : Values) (d : Devices) (w : InRounds o done s (keeping_of s) all t v d) where
  abbrev pk : Progress
  pk = w.b.run

  abbrev lk : RunLog
  lk = (told_values t v).log

  abbrev ck : Course
  ck = course_in w.b done s Keeping lk

  abbrev now : Second
  now = next_told lk done s

  abbrev f : BookFollowsRun (rule_of o) (start_at o) o.from (first_of o) done pk
  f = w.began.followed

  ends : now ≡ told_with (begins_with w.b.span) false s ck
  ends = (second-ends_told (rule_of o) (start_at o) o.from (first_of o) done pk f w.b.span w.lit s lk w.b.broken (breakdowns_of d) w.moment).0

  abbrev goes : GoesOnBy pk lk s
  goes = goes_on w.moment

  decides : decided_of (rule_of o) (w.b.span ++ now ∷ []) ≡ decided_of (rule_of o) w.b.span ++ (w.ds ++ all)
  decides = second-decided (rule_of o) (start_at o) o.from (first_of o) done pk f w.b.span w.lit s lk goes ck w.sp w.ds all w.new w.decided (ap (λ (x : Second). x.second.picks) ends) (ap (λ (x : Second). x.course.settled) ends)
      (ap (λ (x : Second). x.second.speed) ends)

  news : AreNew (rule_of o) (start_at o) pk.next w.b.span (went lk done).told now (w.ds ++ all)
  news = are-new (rule_of o) (start_at o) o.from (first_of o) done pk f w.b.span w.lit w.began.waiting s lk goes (w.ds ++ all) decides

  pub are-over : All (λ (m : Minute). m.minute < s.number / 60) all
  are-over = subst (λ (n : ℕ). All (λ (m : Minute). m.minute < n / 60) all) (sym w.moment.number) (all-behind (λ (m : Minute). m.minute < pk.next / 60) w.ds all news.over)

-- AT ANY POINT
module _ (o : Origin) (done : List TraceSecond) (s : TraceSecond) (q : Point) (all : List Minute) (t : KeepingState) (v : Values) (d : Devices) (w : InRounds o done s q all t v d) where
  abbrev log : RunLog
  log = (told_values t v).log

  abbrev c : Course
  c = course_in w.b done s q.at log

  abbrev before : List Minute
  before = decided_of (rule_of o) w.b.span ++ w.ds

  decided-is : decided_in w.sp ≡ before ++ all
  decided-is = w.decided.decided ∙ sym (append_assoc (decided_of (rule_of o) w.b.span) w.ds all)

  counted : map (λ (m : Minute). m.minute) (before ++ all) ≡ count_from (w.sp.first / 60) (ungiven_of w.sp - w.sp.first / 60)
  counted = ap (map (λ (m : Minute). m.minute)) (sym decided-is) ∙ decided-minutes w.sp w.minutes.numbered w.minutes.settled

  length-is : length (before ++ all) ≡ ungiven_of w.sp - w.sp.first / 60
  length-is = sym (length-map (before ++ all) (λ (m : Minute). m.minute)) ∙ ap (λ (ns : List ℕ). length ns) counted ∙ many (w.sp.first / 60) (ungiven_of w.sp - w.sp.first / 60)

  pub numbers : map (λ (m : Minute). m.minute) all ≡ count_from w.from (length all)
  numbers =
      let parts = length-append before all in
      let here = length-is in
      let to = w.until in
      let low : w.sp.first / 60 ≤ ungiven_of w.sp = omega arith in
      let e : w.sp.first / 60 + length before ≡ w.from = omega (arith, parts, here, to, low) in
      counted-part before all (w.sp.first / 60) (counted ∙ ap (count_from (w.sp.first / 60)) (sym length-is)) ∙ ap (λ (n : ℕ). count_from n (length all)) e

  pub over-so : w.from + length all ≤ s.number / 60 → All (λ (m : Minute). m.minute < s.number / 60) all
  over-so le = over-from all w.from (s.number / 60) numbers le

  abbrev pub outset : Outset
  outset = record { log = log; cabin = t.keeper.cabin; low = w.from; high = w.from + length all }

  sessions : SessionsStand o.found w.standing t.keeper.cabin.cards
  sessions card a valid is =
      let g = w.powered.go.goes card valid in
      stands-of (found_of o.found card) (w.hands card) g.has (w.standing card) a (card_of d card) (subst (λ (q : Option Accepted). GoesWith (found_of o.found card) (w.hands card) g.has (w.standing card) q (card_of d card)) is g.goes)

  pub begun-so : (e : Devices) → KeepsSo o done s q all t v d e w → SoFar o done s q w.b outset (breakdowns_of d) (breakdowns_of e) t.keeper w.sp v t.marks.items c w.brought t (carried_at o done s q all t v d w) w.ds all w.new w.from
  begun-so e k = record {
    slate = record {
      point = k.point;
      now = breakdowns_of d;
      moment = w.moment;
      rise = k.unit;
      fell = λ card. inr (refl, omega arith);
      rests = λ card some. refl;
      tells = w.tells;
      present = w.present;
      sessions = sessions;
      back = w.back;
      leave = λ slot card leaving some. leaving;
      had = λ card some. some;
      stays = λ card. inl ((λ sits. sits), refl);
    };
    past = refl;
    decided = w.decided;
    numbers = numbers;
    over = k.over;
    ends = refl;
    high = omega arith;
    to = w.kept_to;
    until = w.until;
    stay = λ mark at. at;
    same = record { picks = refl; settled = refl; found = refl; entered = refl; out = record { torn = λ x at. at; pulled = λ x at. at } };
    due = w.late;
    book = refl;
    brought_is = refl;
    early = w.early;
    found = w.found;
  }

  there : (m : Minute) → w.from ≤ m.minute → m.minute < s.number / 60 → present_in t.keeper.cabin.slots.past m.minute ≡ Some (present_at t.keeper.cabin m.minute)
  there m low lt =
      let is = w.tells.ended m.minute low lt [] (All-nil (λ (j : HistoryMinute). w.from ≤ j.minute)) in
      is ∙ ap (λ (q : Present). Some q) (sym (ap or_nobody is))

  pub may-book : s.number / 60 ≤ w.from + 4 → All (λ (m : Minute). m.minute < s.number / 60) all → MayBookAll o.found (carried_at o done s q all t v d w) all t d
  may-book few over =
      let low = low-all all w.from numbers in
      let D : Minute → HistoryMinute = decided_minute t.keeper in
      record {
        booked = record { found = w.found; powered = w.powered; told = refl; early = w.early };
        comes = record {
          late = each-decided (λ (i : HistoryMinute). w.due ≤ i.minute) D w.from (s.number / 60) all (λ m le lt. let late = w.late in omega (arith, late, le)) low over;
          first = w.from;
          from = each-decided (λ (i : HistoryMinute). w.from ≤ i.minute) D w.from (s.number / 60) all (λ m le lt. le) low over;
          few = each-decided (λ (i : HistoryMinute). i.minute < w.from + 4) D w.from (s.number / 60) all (λ m le lt. omega (arith, lt, few)) low over;
          fits = λ card. each-decided (λ (i : HistoryMinute). (on_card card i ≡ []) ⊎ (IsOwnValid (found_of o.found card).image × IsPresent (found_of o.found card).start (w.standing card) i.minute)) D w.from (s.number / 60) all
              (λ m le lt. ⊎_elim
              (λ none. inl none)
              (λ stands. inr (stands.valid, stands.present))
              (minute-says o.found w.standing (told_before w.b done) c s.number w.from t.keeper.cabin w.present (D m) (present_at t.keeper.cabin m.minute) le (there m le lt) refl refl card))
              low over;
        };
      }
