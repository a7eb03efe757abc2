-- A card is judged: what its sessions hold of entries by hand behind that, and the other card's.
use Rattle.std.proofs.Common.{◌≡◌, ◌⊎◌, inl, inr, ⊎_elim, ℕ, ◌+◌, ◌-◌, ◌/◌, ◌<◌, ◌≤◌, Bool, true, false, cond, ◌||◌, Option, Some, None, List, [], ◌∷◌, ◌++◌, All, Contains, length, map, filter, refl, ap, sym, subst, ◌∙◌, arith, append-nil, append_assoc, length-append, zero, suc}
use Rattle.std.specs.Prelude.{◌&&◌, flat_map, nat_eq, nat_lt, option_to_list}
use Rattle.std.specs.List.{AllByRecursion}
use Rattle.std.proofs.lemmas.Bool.Decides.{nat_tests}
use Rattle.std.proofs.lemmas.List.{length-map, length-take, map-append}
use Rattle.std.proofs.lemmas.List.Elements.{All-nil, All-cons, All-append, All-head, All-map, All-tail, All-weaker, All-contains, All-contains_itself, filter-append, Contains-append_left, Contains-append_right, Contains-append_cases, Contains-push, Contains-push_cases, All-filter}
use Rattle.minute_rules.specs.activity_codec.declared.entries.Entry.{Entry}
use Rattle.run_devices.specs.trace_model.declared.Card.{Card}
use Rattle.run_devices.specs.trace_model.declared.Card.TheVariants.{A, B}
use Rattle.run_devices.specs.trace_model.Trace.{TraceSecond}
use Rattle.minute_rules.specs.minute_model.declared.Minute.{Minute}
use Rattle.minute_rules.specs.minute_model.Span.{count_from, ungiven_of}
use Rattle.minute_rules.proofs.minute_model.Counted.{decided-minutes}
use Rattle.run_devices.specs.log_model.declared.lines.Find.{Find}
use Rattle.run_devices.specs.log_model.declared.lines.Mark.{Mark}
use Rattle.run_devices.specs.log_model.declared.lines.Verdict.{Verdict}
use Rattle.run_devices.specs.log_model.Log.{Phase, is_accepting}
use Rattle.run_devices.specs.log_model.Slots.{same_card}
use Rattle.run_devices.specs.log_model.Causes.{device_of}
use Rattle.run_devices.specs.log_model.Course.{ToldSecond, Visit, Course}
use Rattle.run_devices.specs.log_model.ByHand.{Asked}
use Rattle.run_devices.specs.history_model.Minutes.{HistoryMinute, card_history}
use Rattle.run_devices.specs.history_model.History.{decided_of}
use Rattle.run_devices.specs.history_model.Book.{Book, all, IsMark, Ordered}
use Rattle.run_devices.specs.run_unit_course.Turn.{span_at}
use Rattle.run_devices.specs.device_rule.Own.{own_number, own_view}
use Rattle.run_devices.specs.device_rule.Views.{unit_view, other}
use Rattle.run_devices.specs.card_image.Own.{IsOwnValid}
use Rattle.run_devices.specs.hand_model.Holding.{none_held}
use Rattle.run_devices.specs.safety_model.Recording.{card_image, unit_seen, brought as brought_at, Recording}
use Rattle.run_devices.specs.safety_model.Safe.{Devices, card_of, IsVerdict}
use Rattle.run_devices.specs.safety_model.Unit.{marks_of, Increase}
use Rattle.run_devices.specs.safety_model.Hands.{Session, begun_at, brought_by, sessions_of, sessions_found, sessions_in, is_behind}
use Rattle.run_devices.specs.run_course.Moments.{and_find}
use Rattle.run_devices.specs.run_course.Seconds.{kept_all}
use Rattle.run_devices.proofs.run_course.Logs.{all-before}
use Rattle.run_devices.specs.run_promise.Found.{found_of}
use Rattle.run_devices.specs.run_promise.Cards.{IsCardHeld, CardMarksHold, brought_by as entries_brought}
use Rattle.run_devices.specs.run_promise.Going.{acceptances_in}
use Rattle.run_devices.specs.run_promise.Origin.{Origin, rule_of, start_at, first_of}
use Rattle.run_devices.proofs.run_promise.Accounts.{last-of}
use Rattle.run_devices.proofs.run_promise.Behind.{said-by, owed-until, rising-above}
use Rattle.run_devices.proofs.run_promise.Beside.{found-tells}
use Rattle.run_devices.proofs.run_promise.Going.{sure-kept}
use Rattle.run_devices.proofs.run_promise.Lines.{counted-from, seated-from}
use Rattle.run_devices.specs.run_crew.declared.cabin.Cabin.{Cabin}
use Rattle.run_devices.specs.run_crew.declared.cards.Accepted.{Accepted}
use Rattle.run_devices.specs.run_crew.Cards.{session_of}
use Rattle.run_devices.proofs.run_crew.Sessions.{same_is}
use Rattle.run_devices.specs.Told.{card_marks}
use Rattle.run_devices.proofs.Marked.{own-marks, other-marks}
use Rattle.run_record.specs.Recorded.{Values}
use Rattle.run_record.specs.Within.{told_before, course_in, RecordInSecond}
use Rattle.run_record.specs.Judging.{IsJudged, IsOpened, OpensBy}
use Rattle.run_record.specs.HeldHands.{HandsGo, IsKnown, WasKnown, WasKnownLast}
use Rattle.run_record.specs.Handed.{actions_to, asked_so_far, done_for, sessions_so_far, AreHandedIn, AreToldOf, asked_for}
use Rattle.run_record.proofs.Asked.{IsAskedBy, asked-find, asked-by_now, done-by_now}
use Rattle.run_record.proofs.HandedSteps.{go-as, known-as, known-none}
use Rattle.run_record.proofs.HandsFold.{hands-taken, hands-accepted, hands-gone}
use Rattle.run_record.proofs.Left.{counted-part}
use Rattle.run_record.proofs.Written.{accepted-valid}
use Rattle.run_devices.specs.history_model.Presence.{CardStart, trimmed_by, newest_minute}
use Rattle.minute_rules.proofs.minute_model.Ranges.{last-push}
use Rattle.run_devices.specs.log_model.declared.lines.Verdict.TheVariants.{Accepted as Takes, NotValid, TimeOverlap}
use Rattle.run_devices.specs.run_promise.Ends.{recording_by}
use Rattle.run_record.proofs.Stopped.{stopped-as, stopped-taken}
use Rattle.run_record.proofs.Newest.{mark-trimmed}
use Rattle.run_devices.specs.safety_model.ByHand.{IsStoppedBy}

-- ---- sessions by finds

-- one find more
sessions-find : (c : Card) (u : ℕ) (fs : List (Visit × Verdict)) (e : Visit) (v : Verdict)
    → sessions_found c u (fs ++ (e, v) ∷ []) ≡ sessions_found c u fs ++ cond (same_card c e.card && is_accepting v) (record { second = u; begun = begun_at e.phase; brought = brought_by v } ∷ []) []
sessions-find c u fs e v =
    let p : Visit × Verdict → Bool = λ (f : Visit × Verdict). same_card c f.0.card && is_accepting f.1 in
    let g : Visit × Verdict → Session = λ (f : Visit × Verdict). record { second = u; begun = begun_at f.0.phase; brought = brought_by f.1 } in
    ap (map g) (filter-append p fs ((e, v) ∷ []))
    ∙ map-append g (filter p fs) (filter p ((e, v) ∷ []))
    ∙ ap (λ (l : List Session). map g (filter p fs) ++ l) (one (same_card c e.card && is_accepting v))
  where
    one : (b : Bool) → map {B = Session} (λ (f : Visit × Verdict). record { second = u; begun = begun_at f.0.phase; brought = brought_by f.1 }) (cond b ((e, v) ∷ []) []) ≡ cond b (record { second = u; begun = begun_at e.phase; brought = brought_by v } ∷ []) []
    one true = refl
    one false = refl

-- each of a second is of that second
pub found-here : (c : Card) (u : ℕ) (fs : List (Visit × Verdict)) → All (λ (l : Session). l.second ≡ u) (sessions_found c u fs)
found-here c u fs =
    All-map (λ (l : Session). l.second ≡ u) (λ (f : Visit × Verdict). record { second = u; begun = begun_at f.0.phase; brought = brought_by f.1 }) (filter (λ (f : Visit × Verdict). same_card c f.0.card && is_accepting f.1) fs)
    (each (filter (λ (f : Visit × Verdict). same_card c f.0.card && is_accepting f.1) fs))
  where
    each : (xs : List (Visit × Verdict)) → All (λ (f : Visit × Verdict). u ≡ u) xs
    each [] = All-nil (λ (f : Visit × Verdict). u ≡ u)
    each (x ∷ xs) = All-cons (λ (f : Visit × Verdict). u ≡ u) x xs refl (each xs)

-- and those of earlier seconds are earlier
pub told-early : (c : Card) (told : List ToldSecond) (n : ℕ) → All (λ (t : ToldSecond). t.second.number < n) told → All (λ (l : Session). l.second < n) (sessions_in c told)
told-early c [] n all_ = All-nil (λ (l : Session). l.second < n)
told-early c (t ∷ told) n all_ =
    let here = All-head (λ (x : ToldSecond). x.second.number < n) t told all_ in
    All-append (λ (l : Session). l.second < n) (sessions_of c t) (sessions_in c told)
    (All-weaker (λ (l : Session). l.second ≡ t.second.number) (λ (l : Session). l.second < n) (λ l is. omega (arith, is, here)) (sessions_of c t) (found-here c t.second.number t.course.found))
    (told-early c told n (All-tail (λ (x : ToldSecond). x.second.number < n) t told all_))

-- a session is of an acceptance of its second
mapped : (u : ℕ) (g : Visit × Verdict → Session) → ((f : Visit × Verdict) → (g f).second ≡ u) → (xs : List (Visit × Verdict)) (l : Session) → Contains (map g xs) l → Contains (map (λ (f : Visit × Verdict). u) xs) l.second
mapped u g is [] l at = absurd (omega (arith, at.1))
mapped u g is (x ∷ xs) l at = ⊎_elim
    (λ one. ⊎_elim
    (λ none. absurd (omega (arith, none.1)))
    (λ (same : g x ≡ l). subst (λ (n : ℕ). Contains (u ∷ map (λ (f : Visit × Verdict). u) xs) n) (sym (is x) ∙ ap (λ (s : Session). s.second) same) (Contains-append_left (u ∷ []) (map (λ (f : Visit × Verdict). u) xs) u (Contains-push [] u)))
    (Contains-push_cases [] (g x) l one))
    (λ rest. Contains-append_right (u ∷ []) (map (λ (f : Visit × Verdict). u) xs) l.second (mapped u g is xs l rest))
    (Contains-append_cases (g x ∷ []) (map g xs) l at)

was-accepted : (c : Card) (told : List ToldSecond) (l : Session) → Contains (sessions_in c told) l → Contains (flat_map (acceptances_in c) told) l.second
was-accepted c [] l at = absurd (omega (arith, at.1))
was-accepted c (t ∷ told) l at = ⊎_elim
    (λ here.
    Contains-append_left (acceptances_in c t) (flat_map (acceptances_in c) told) l.second
    (mapped t.second.number (λ (f : Visit × Verdict). record { second = t.second.number; begun = begun_at f.0.phase; brought = brought_by f.1 }) (λ f. refl) (filter (λ (f : Visit × Verdict). same_card c f.0.card && is_accepting f.1) t.course.found) l here))
    (λ later. Contains-append_right (acceptances_in c t) (flat_map (acceptances_in c) told) l.second (was-accepted c told l later))
    (Contains-append_cases (sessions_of c t) (sessions_in c told) l at)

-- and of a find
record IsOfFind (c : Card) (fs : List (Visit × Verdict)) : Type 0 where
  e : Visit
  v : Verdict
  at : Contains fs (e, v)
  own : same_card c e.card ≡ true
  accepts : is_accepting v ≡ true

both-true : (a b : Bool) → (a && b) ≡ true → (a ≡ true) × (b ≡ true)
both-true true true is = (refl, refl)
both-true true false is = absurd (cc)
both-true false b is = absurd (cc)

of-find : (c : Card) (u : ℕ) (fs : List (Visit × Verdict)) (l : Session) → Contains (sessions_found c u fs) l → IsOfFind c fs
of-find c u [] l at = absurd (omega (arith, at.1))
of-find c u (f ∷ fs) l at = by (λ there. of-find c u fs l there) (same_card c f.0.card && is_accepting f.1) refl at
  where
    behind : IsOfFind c fs → IsOfFind c (f ∷ fs)
    behind r = record { e = r.e; v = r.v; at = Contains-append_right (f ∷ []) fs (r.e, r.v) r.at; own = r.own; accepts = r.accepts }

    by : (Contains (sessions_found c u fs) l → IsOfFind c fs) → (b : Bool) → (same_card c f.0.card && is_accepting f.1) ≡ b
        → Contains (map (λ (g : Visit × Verdict). record { second = u; begun = begun_at g.0.phase; brought = brought_by g.1 }) (cond b (f ∷ filter (λ (g : Visit × Verdict). same_card c g.0.card && is_accepting g.1) fs) (filter (λ (g : Visit × Verdict). same_card c g.0.card && is_accepting g.1) fs))) l → IsOfFind c (f ∷ fs)
    by inner true is there =
        let both = both-true (same_card c f.0.card) (is_accepting f.1) is in
        record { e = f.0; v = f.1; at = Contains-append_left (f ∷ []) fs f (Contains-push [] f); own = both.0; accepts = both.1 }
    by inner false is there = behind (inner there)

-- a card's image, of two recordings that have the same ones
image-is : (r s : Recording) → r.card_a ≡ s.card_a → r.card_b ≡ s.card_b → (c : Card) → card_image r c ≡ card_image s c
image-is r s a b A = a
image-is r s a b B = b

-- so is one of an earlier second
record IsOfSecond (c : Card) (told : List ToldSecond) : Type 0 where
  t : ToldSecond
  there : Contains told t
  of_t : IsOfFind c t.course.found

of-second : (c : Card) (told : List ToldSecond) (l : Session) → Contains (sessions_in c told) l → IsOfSecond c told
of-second c [] l at = absurd (omega (arith, at.1))
of-second c (t ∷ told) l at = ⊎_elim
    (λ here. record { t = t; there = Contains-append_left (t ∷ []) told t (Contains-push [] t); of_t = of-find c t.second.number t.course.found l here })
    (λ later. let r = of-second c told l later in record { t = r.t; there = Contains-append_right (t ∷ []) told r.t r.there; of_t = r.of_t })
    (Contains-append_cases (sessions_of c t) (sessions_in c told) l at)

-- ---- EACH SESSION was begun before the first minute that is still to be kept, or in it

module _ (o : Origin) (done : List TraceSecond) (s : TraceSecond) (at : Phase) (waits : List Visit) (speed : Option ℕ) (rest : List Minute) (v : Values) (d : Devices) (w : RecordInSecond o done s at waits speed rest v d) where
  pub seconds-before : All (λ (x : TraceSecond). x.number < s.number) done
  seconds-before = all-before (λ (u : ℕ). u < s.number) o.from done w.began.followed.order (λ u lt. let next = w.began.followed.next in let is = w.moment.number in omega (arith, lt, next, is))

  -- a card that was accepted was valid
  was-valid : (e : Visit) (verdict : Verdict) (u : ℕ) → is_accepting verdict ≡ true
      → IsVerdict (recording_by o done w.b.run.log) (d.unit.left_since o.found.unit.began) ((card_of d e.card).left_since (found_of o.found e.card).began) e.card u verdict → IsOwnValid (card_image o.recording e.card)
  was-valid e (Takes replayed) u is h = subst IsOwnValid (image-is (recording_by o done w.b.run.log) o.recording refl refl e.card) h.0
  was-valid e (NotValid fid place) u is h = absurd (cc)
  was-valid e (TimeOverlap stored now) u is h = absurd (cc)

  since-told : (c : Card) (l : Session) → Contains (sessions_in c (told_before w.b done)) l → l.second / 60 ≤ w.from
  since-told c l there =
      let x = of-second c (told_before w.b done) l there in
      let valid : IsOwnValid (card_image o.recording c) = subst (λ (y : Card). IsOwnValid (card_image o.recording y)) (sym (same_is c x.of_t.e.card x.of_t.own))
      (was-valid x.of_t.e x.of_t.v x.t.second.number x.of_t.accepts (w.verdicts.each x.t x.of_t.e x.of_t.v x.there x.of_t.at).0) in
      let account = (w.began.accounts c valid).each l.second (was-accepted c (told_before w.b done) l there) in
      let due : l.second / 60 ≤ ungiven_of (span_at (rule_of o) w.b.run.next w.b.span) = account.2.due w.b.span w.lit in
      let to = w.kept_to in
      omega (arith, due, to)

  since-found : (c : Card) (l : Session) → Contains (sessions_found c s.number (course_in w.b done s at v.log).found) l → l.second / 60 ≤ w.from
  since-found c l there =
      let fs : List (Visit × Verdict) = (course_in w.b done s at v.log).found in
      let x = of-find c s.number fs l there in
      let same = All-contains (λ (k : Session). k.second ≡ s.number) (sessions_found c s.number fs) l (found-here c s.number fs) there in
      let late = w.finds.late x.e x.v x.at x.accepts in
      let minute : l.second / 60 ≡ s.number / 60 = ap (λ (n : ℕ). n / 60) same in
      omega (arith, minute, late)

  pub sessions-since : (c : Card) (l : Session) → Contains (sessions_so_far c (told_before w.b done) s.number (course_in w.b done s at v.log)) l → l.second / 60 ≤ w.from
  sessions-since c l there = ⊎_elim (since-told c l) (since-found c l)
      (Contains-append_cases (sessions_in c (told_before w.b done)) (sessions_found c s.number (course_in w.b done s at v.log).found) l there)

-- ---- marks

increase-head : (m : Mark) (ms : List Mark) → Increase (m ∷ ms) → All (λ (n : Mark). m.minute < n.minute) ms
increase-head m [] rise = All-nil (λ (n : Mark). m.minute < n.minute)
increase-head m (k ∷ ms) rise =
    let here = rise.0 in
    All-cons (λ (n : Mark). m.minute < n.minute) k ms here (All-weaker (λ (n : Mark). k.minute < n.minute) (λ (n : Mark). m.minute < n.minute) (λ n lt. omega (arith, here, lt)) ms (increase-head k ms rise.1))

increase-tail : (m : Mark) (ms : List Mark) → Increase (m ∷ ms) → Increase ms
increase-tail m [] rise = tt
increase-tail m (k ∷ ms) rise = rise.1

-- those before others increase
pub increase-front : (xs ys : List Mark) → Increase (xs ++ ys) → Increase xs
increase-front [] ys rise = tt
increase-front (m ∷ []) ys rise = tt
increase-front (m ∷ k ∷ xs) ys rise = (rise.0, increase-front (k ∷ xs) ys rise.1)

-- those behind others are later
pub increase-apart : (xs ys : List Mark) → Increase (xs ++ ys) → (x y : Mark) → Contains xs x → Contains ys y → x.minute < y.minute
increase-apart [] ys rise x y at there = absurd (omega (arith, at.1))
increase-apart (m ∷ xs) ys rise x y at there = ⊎_elim
    (λ one. ⊎_elim
    (λ none. absurd (omega (arith, none.1)))
    (λ (same : m ≡ x). subst (λ (k : Mark). k.minute < y.minute) same (All-contains (λ (n : Mark). m.minute < n.minute) (xs ++ ys) y (increase-head m (xs ++ ys) rise) (Contains-append_right xs ys y there)))
    (Contains-push_cases [] m x one))
    (λ rest. increase-apart xs ys (increase-tail m (xs ++ ys) rise) x y rest there)
    (Contains-append_cases (m ∷ []) xs x at)

-- the marks of entries
marks-each : (P : ℕ → Type 0) (c : Card) (clock : ℕ) (es : List Entry) → All (λ (e : Entry). P e.minute) es → All (λ (m : Mark). P m.minute) (card_marks c clock es)
marks-each P c clock es each = All-map (λ (m : Mark). P m.minute) (λ (e : Entry). record { device = device_of c; minute = e.minute; clock = clock }) es each

-- another card is the other one
other-of : (c x : Card) → same_card c x ≡ false → other c ≡ x
other-of A A is = absurd (cc)
other-of A B is = refl
other-of B A is = refl
other-of B B is = absurd (cc)

turned : (c x : Card) → same_card c x ≡ false → same_card x c ≡ false
turned A A is = is
turned A B is = refl
turned B A is = refl
turned B B is = is

own-card : (c : Card) → same_card c c ≡ true
own-card A = refl
own-card B = refl

not-and : (a b : Bool) → a ≡ false → (a && b) ≡ false
not-and false b is = refl
not-and true b is = absurd (cc)

and-not : (a b : Bool) → b ≡ false → (a && b) ≡ false
and-not true false is = refl
and-not false b is = refl
and-not true true is = absurd (cc)

or-and : (x y z : Bool) → x ≡ false → (y ≡ false) ⊎ (z ≡ false) → (x || (y && z)) ≡ false
or-and false y z is (inl no_) = not-and y z no_
or-and false y z is (inr no_) = and-not y z no_
or-and true y z is either = absurd (cc)

-- what was asked by now is not behind what comes now
not-behind : (u k : ℕ) (n : Session) (b : Asked) → n.second ≡ u → k ≤ n.begun → IsAskedBy u k b → is_behind n b ≡ false
not-behind u k n b is le (inl lt) = or-and (nat_lt n.second b.second) (nat_eq n.second b.second) (nat_lt n.begun b.begun) (below n.second b.second (omega (arith, is, lt))) (inl (apart n.second b.second (omega (arith, is, lt))))
  where
    below : (x y : ℕ) → y < x → nat_lt x y ≡ false
    below x y lt = grind (arith, nat_tests)

    apart : (x y : ℕ) → y < x → nat_eq x y ≡ false
    apart x y lt = grind (arith, nat_tests)
not-behind u k n b is le (inr here) =
    let same = here.0 in
    let most = here.1 in
    or-and (nat_lt n.second b.second) (nat_eq n.second b.second) (nat_lt n.begun b.begun) (under n.second b.second (omega (arith, is, same))) (inr (under n.begun b.begun (omega (arith, le, most))))
  where
    under : (x y : ℕ) → y ≤ x → nat_lt x y ≡ false
    under x y le = grind (arith, nat_tests)

-- ---- minutes that are kept in this second

front-each : (P : Minute → Type 0) (xs ys : List Minute) → AllByRecursion P (xs ++ ys) → AllByRecursion P xs
front-each P [] ys each = tt
front-each P (x ∷ xs) ys each = (each.0, front-each P xs ys each.1)

many : (a n : ℕ) → length (count_from a n) ≡ n
many a zero = refl
many a (suc n) = ap suc (many (a + 1) n)

module _ (o : Origin) (done : List TraceSecond) (s : TraceSecond) (at : Phase) (waits : List Visit) (speed : Option ℕ) (rest : List Minute) (v : Values) (d : Devices) (w : RecordInSecond o done s at waits speed rest v d) where
  abbrev first : ℕ
  first = ungiven_of (span_at (rule_of o) w.b.run.next w.b.span)

  -- none is earlier than the first one that was not decided as it began
  pub new-late : All (λ (i : HistoryMinute). first ≤ i.minute) w.new
  new-late =
      let low : ℕ = w.sp.first / 60 in
      let was : List Minute = decided_of (rule_of o) w.b.span in
      let numbers : map (λ (m : Minute). m.minute) (was ++ (w.ds ++ rest)) ≡ count_from low (ungiven_of w.sp - low) = ap (map (λ (m : Minute). m.minute)) (sym w.decided.decided) ∙ decided-minutes w.sp w.minutes.numbered w.minutes.settled in
      let long : length (was ++ (w.ds ++ rest)) ≡ ungiven_of w.sp - low = sym (length-map (was ++ (w.ds ++ rest)) (λ (m : Minute). m.minute)) ∙ ap (λ (ns : List ℕ). length ns) numbers ∙ many low (ungiven_of w.sp - low) in
      let parts = length-append was (w.ds ++ rest) in
      let both = length-append w.ds rest in
      let to = w.kept_to in
      let until = w.until in
      let above : low ≤ ungiven_of w.sp = omega arith in
      let here : first ≤ low + length was = omega (arith, long, parts, both, to, until, above) in
      let these : map (λ (m : Minute). m.minute) (w.ds ++ rest) ≡ count_from (low + length was) (length (w.ds ++ rest)) = counted-part was (w.ds ++ rest) low (numbers ∙ ap (count_from low) (sym long)) in
      subst (All (λ (i : HistoryMinute). first ≤ i.minute)) (sym w.decided.seated_)
      (seated-from (start_at o) (told_before w.b done) first w.b.run.book.sure w.ds
      (front-each (λ (m : Minute). first ≤ m.minute) w.ds rest (counted-from first (low + length was) (length (w.ds ++ rest)) (w.ds ++ rest) here these)))

-- ---- A CARD IS JUDGED

module _ (o : Origin) (done : List TraceSecond) (s : TraceSecond) (at : Phase) (waits fewer : List Visit) (v : Values) (d e : Devices) (w : RecordInSecond o done s at waits None [] v d) (card : Card) (f : Find) (marks : List Mark) (cabin : Cabin) (brought : Card → List ℕ)
    (j : IsJudged o done s at waits fewer v d e w card f marks cabin brought) where
  abbrev told0 : List ToldSecond
  told0 = told_before w.b done

  abbrev c : Course
  c = course_in w.b done s at v.log

  abbrev now : Course
  now = course_in w.b done s at (and_find v.log f)

  abbrev visit : Visit
  visit = record { phase = at; slot = f.slot; card = card }

  abbrev book : Book
  book = kept_all w.new w.b.run.book

  abbrev asked : List Asked
  asked = asked_so_far w.b.run.log done v.log s (actions_to at s.actions)

  abbrev then_ : List Asked
  then_ = asked_so_far w.b.run.log done (and_find v.log f) s (actions_to at s.actions)

  same-asked : then_ ≡ asked
  same-asked = asked-find w.b.run.log done v.log s at f j.here

  number : s.number ≡ w.b.run.next
  number = w.moment.number

  -- THE NEW SESSION
  abbrev new : Session
  new = record { second = s.number; begun = begun_at at; brought = brought_by f.verdict }

  -- a session is new: it holds nothing, and its newest minute is not before that of the card's entries, nor behind that of the history
  abbrev pub IsNew : Accepted → Type 0
  IsNew a = (a.held ≡ none_held (s.number / 60))
      × (trimmed_by (found_of o.found card).start ((found_of o.found card).start.entries ++ entries_brought card (found_of o.found card).start book) ≤ a.session.minute)
      × (a.session.minute ≤ newest_minute (start_at o) book.sure card s.number)

  -- how its own session may go on behind that
  abbrev pub MayBe : (accepts : Bool) → Option Accepted → Type 0
  MayBe true after = (a : Accepted) → after ≡ Some a → IsNew a
  MayBe false after = (after ≡ session_of v.cabin.cards card) ⊎ (after ≡ None)

  -- as it is, or not at all
  pub as-opened : MayBe (is_accepting f.verdict) (session_of cabin.cards card)
  as-opened = by (is_accepting f.verdict) refl j.opens
    where
      by : (b : Bool) → is_accepting f.verdict ≡ b → OpensBy b o d card s.number f.verdict v.marks marks (session_of v.cabin.cards card) (session_of cabin.cards card) → MayBe b (session_of cabin.cards card)
      by true accepts op = λ a some. (op.fresh a some, j.above accepts a some, j.under accepts a some)
      by false not_ op = op.1

  pub none-opened : MayBe (is_accepting f.verdict) None
  none-opened = by (is_accepting f.verdict)
    where
      by : (b : Bool) → MayBe b None
      by true = λ a is. absurd (cc)
      by false = inr refl

  module _ (found_is : now.found ≡ c.found ++ (visit, f.verdict) ∷ []) where
    sessions-now : (x : Card) → sessions_so_far x told0 s.number now ≡ sessions_so_far x told0 s.number c ++ cond (same_card x card && is_accepting f.verdict) (new ∷ []) []
    sessions-now x =
        ap (λ (fs : List (Visit × Verdict)). sessions_in x told0 ++ sessions_found x s.number fs) found_is
        ∙ ap (λ (l : List Session). sessions_in x told0 ++ l) (sessions-find x s.number c.found visit f.verdict)
        ∙ sym (append_assoc (sessions_in x told0) (sessions_found x s.number c.found) (cond (same_card x card && is_accepting f.verdict) (new ∷ []) []))

    sessions-still : (x : Card) → (same_card x card && is_accepting f.verdict) ≡ false → sessions_so_far x told0 s.number now ≡ sessions_so_far x told0 s.number c
    sessions-still x not_ = sessions-now x ∙ ap (λ (b : Bool). sessions_so_far x told0 s.number c ++ cond b (new ∷ []) []) not_ ∙ append-nil (sessions_so_far x told0 s.number c)

    -- where nothing has changed but the session
    still : (x : Card) → IsOwnValid (found_of o.found x).image → (after : Option Accepted) → (same_card x card && is_accepting f.verdict) ≡ false → marks_of (device_of x) marks ≡ marks_of (device_of x) v.marks → (after ≡ session_of v.cabin.cards x) ⊎ (after ≡ None)
        → HandsGo (sessions_so_far x told0 s.number now) (done_for x v.stops then_) (marks_of (device_of x) marks) (w.hands x) (w.firsts x) after
    still x valid after not_ told session =
        let all_ : List Session = sessions_so_far x told0 s.number c in
        let done_ : List Asked = done_for x v.stops asked in
        let go : HandsGo all_ done_ (marks_of (device_of x) v.marks) (w.hands x) (w.firsts x) (session_of v.cabin.cards x) = w.handed.each x valid in ⊎_elim
        (λ same. go-as all_ (sessions_so_far x told0 s.number now) done_ (done_for x v.stops then_) (marks_of (device_of x) v.marks) (marks_of (device_of x) marks) (w.hands x) (w.firsts x) (session_of v.cabin.cards x) after
        (sym (sessions-still x not_)) (ap (done_for x v.stops) (sym same-asked)) (sym told) (sym same) go)
        (λ none. go-as all_ (sessions_so_far x told0 s.number now) done_ (done_for x v.stops then_) (marks_of (device_of x) v.marks) (marks_of (device_of x) marks) (w.hands x) (w.firsts x) None after
        (sym (sessions-still x not_)) (ap (done_for x v.stops) (sym same-asked)) (sym told) (sym none) (hands-gone all_ done_ (marks_of (device_of x) v.marks) (w.hands x) (w.firsts x) (session_of v.cabin.cards x) go))
        session

    -- and with which newest minute its session was accepted
    known-still : (x : Card) → IsOwnValid (found_of o.found x).image → (after : Option Accepted) → (same_card x card && is_accepting f.verdict) ≡ false → marks_of (device_of x) marks ≡ marks_of (device_of x) v.marks → (after ≡ session_of v.cabin.cards x) ⊎ (after ≡ None)
        → WasKnownLast (start_at o) book.sure x (marks_of (device_of x) marks) (sessions_so_far x told0 s.number now) after
    known-still x valid after not_ told session = ⊎_elim
        (λ same. known-as (start_at o) book.sure x (marks_of (device_of x) v.marks) (marks_of (device_of x) marks) (sessions_so_far x told0 s.number c) (sessions_so_far x told0 s.number now) (session_of v.cabin.cards x) after (sym told) (sym (sessions-still x not_)) (sym same) (w.handed.known x valid))
        (λ none. known-none (start_at o) book.sure x (marks_of (device_of x) marks) (sessions_so_far x told0 s.number now) after none)
        session

    -- and why those were stopped that were asked of it
    stopped-still : (x : Card) → IsOwnValid (found_of o.found x).image → (same_card x card && is_accepting f.verdict) ≡ false → marks_of (device_of x) marks ≡ marks_of (device_of x) v.marks
        → All (IsStoppedBy (IsKnown (start_at o) book.sure x) (sessions_so_far x told0 s.number now) (done_for x v.stops then_) (marks_of (device_of x) marks) v.stops) (asked_for x then_)
    stopped-still x valid not_ told = stopped-as (start_at o) book.sure x (sessions_so_far x told0 s.number c) (sessions_so_far x told0 s.number now) (done_for x v.stops asked) (done_for x v.stops then_) (marks_of (device_of x) v.marks) (marks_of (device_of x) marks) v.stops v.stops (asked_for x asked) (asked_for x then_)
        (sym (sessions-still x not_)) (ap (done_for x v.stops) (sym same-asked)) (sym told) refl (ap (asked_for x) (sym same-asked)) (w.handed.stopped x valid)

    -- IT IS ACCEPTED
    module _ (valid : IsOwnValid (found_of o.found card).image) (accepts : is_accepting f.verdict ≡ true) (op : IsOpened o d card s.number f.verdict v.marks marks (session_of cabin.cards card)) (hold : CardMarksHold (found_of o.found card) card (kept_all w.new w.b.run.book) marks (card_of e card)) where
      abbrev all_before : List Session
      all_before = sessions_so_far card told0 s.number c

      abbrev done_before : List Asked
      done_before = done_for card v.stops asked

      abbrev old : List Mark
      old = marks_of (device_of card) v.marks

      abbrev more : List Mark
      more = card_marks card op.clock op.owed

      abbrev mine : List Mark
      mine = marks_of (device_of card) marks

      go-before : HandsGo all_before done_before old (w.hands card) (w.firsts card) (session_of v.cabin.cards card)
      go-before = w.handed.each card valid

      mine-are : mine ≡ old ++ more
      mine-are = ap (marks_of (device_of card)) op.marks ∙ own-marks card op.clock op.owed v.marks

      count : length more ≡ new.brought
      count = length-map op.owed (λ (x : Entry). record { device = device_of card; minute = x.minute; clock = op.clock }) ∙ ap (λ (es : List Entry). length es) (sym op.told.owes) ∙ op.told.number

      few-acts : length (actions_to at s.actions) ≤ begun_at at
      few-acts = subst (λ (p : Phase). length (actions_to p s.actions) ≤ begun_at p) j.here.begun (let len = length-take f.begun s.actions in omega (arith, len))

      numbers : All (λ (x : TraceSecond). x.number < s.number) done
      numbers = all-before (λ (u : ℕ). u < s.number) o.from done w.began.followed.order (λ u lt. let next = w.began.followed.next in let is = number in omega (arith, lt, next, is))

      before : All (λ (b : Asked). is_behind new b ≡ false) done_before
      before = All-weaker (IsAskedBy s.number (length (actions_to at s.actions))) (λ (b : Asked). is_behind new b ≡ false) (λ b by_now. not-behind s.number (length (actions_to at s.actions)) new b refl few-acts by_now) done_before
          (done-by_now card v.stops asked s.number (length (actions_to at s.actions)) (asked-by_now w.b.run.log done v.log s (actions_to at s.actions) numbers))

      told-before : All (λ (t : ToldSecond). t.second.number < s.number) told0
      told-before = All-weaker (Contains told0) (λ (t : ToldSecond). t.second.number < s.number) (λ t there. let lt = (found-tells o done w.b.run w.began.followed 0).before t there in let is = number in omega (arith, lt, is)) told0 (All-contains_itself told0)

      newest : (l : Session) → Contains all_before l → l.second ≤ s.number
      newest l there = All-contains (λ (k : Session). k.second ≤ s.number) all_before l
          (All-append (λ (k : Session). k.second ≤ s.number) (sessions_in card told0) (sessions_found card s.number c.found)
          (All-weaker (λ (k : Session). k.second < s.number) (λ (k : Session). k.second ≤ s.number) (λ k lt. omega (arith, lt)) (sessions_in card told0) (told-early card told0 s.number told-before))
          (All-weaker (λ (k : Session). k.second ≡ s.number) (λ (k : Session). k.second ≤ s.number) (λ k is. omega (arith, is)) (sessions_found card s.number c.found) (found-here card s.number c.found)))
          there

      -- ---- the minutes of the card's marks

      ordered : Ordered o.found.unit.first w.due book
      ordered = (w.powered.lit.unit.unit_holds [] []).order

      -- what was owed at the start is not later than the unit's last-kept minute then
      owed-low : (x : Entry) → Contains (found_of o.found card).start.owed x → x.minute ≤ first_of o
      owed-low x there = All-contains (λ (y : Entry). y.minute ≤ first_of o) (brought_at o.recording card).owed x
          (subst (λ (k : ℕ). All (λ (y : Entry). y.minute ≤ k) (brought_at o.recording card).owed) (last-of (own_number o.recording.card_a) (own_number o.recording.card_b) o.recording.unit)
          (owed-until card (unit_seen o.recording o.recording.unit) (own_view (card_image o.recording card))))
          (subst (λ (st : CardStart). Contains st.owed x) j.start there)

      sure-early : (i : HistoryMinute) → Contains book.sure i → (i.minute < s.number / 60) × (first_of o < i.minute)
      sure-early i there =
          let all_there : Contains (all book) i = Contains-append_left book.sure (option_to_list book.maybe) i there in
          let early = All-contains (λ (k : HistoryMinute). k.minute < w.due) (all book) i ordered.now.until all_there in
          let above = All-contains (λ (k : HistoryMinute). o.found.unit.first < k.minute) (all book) i (rising-above o.found.unit.first (all book) ordered.now.rising) all_there in
          let late = w.late in
          let here = j.next.is_now in
          let is = j.first in (omega (arith, early, late, here), omega (arith, above, is))

      start-early : first_of o < s.number / 60
      start-early = let low = w.began.followed.early in let next = w.began.followed.next in let is = number in omega (arith, low, next, is)

      -- a mark is of an earlier minute: of one that was owed at the start, or is kept
      record IsMarkOf (m : Mark) : Type 0 where
        early : m.minute < s.number / 60
        of_minute : (m.minute ≤ first_of o) ⊎ ((i : HistoryMinute) × Contains book.sure i × (i.minute ≡ m.minute))

      mark-of : (m : Mark) → IsCardHeld (found_of o.found card) card book (card_of e card) m → IsMarkOf m
      mark-of m held =
          let x = held.sure in
          let same = x.2 in ⊎_elim
          (λ owed. let low = owed-low x.0 owed in let start = start-early in record { early = omega (arith, low, start, same); of_minute = inl (omega (arith, low, same)) })
          (λ said.
          let i = said-by o.recording card book.sure x.0 said in
          let told = i.2.0 in
          let early = (sure-early i.0 i.1).0 in record { early = omega (arith, early, told, same); of_minute = inr (i.0, i.1, sym told ∙ same) })
          (Contains-append_cases (found_of o.found card).start.owed (card_history card book.sure) x.0 x.1)

      low : All (λ (m : Mark). m.minute < s.number / 60) (old ++ more)
      low = subst (All (λ (m : Mark). m.minute < s.number / 60)) mine-are
          (All-weaker (IsCardHeld (found_of o.found card) card book (card_of e card)) (λ (m : Mark). m.minute < s.number / 60) (λ m held. (mark-of m held).early) mine hold.held)

      order : (x y : Mark) → Contains old x → Contains more y → x.minute < y.minute
      order x y there new_ = increase-apart old more (subst Increase mine-are hold.rise) x y there new_

      -- WHAT IS BROUGHT is not earlier than any acceptance before
      own-valid : IsOwnValid (card_image o.recording card)
      own-valid = (accepted-valid o w.b done j.may.0 marks (e.unit.left_since o.found.unit.began) ((card_of e card).left_since (found_of o.found card).began) card s.number f.verdict accepts j.may.2).0

      above-all : (k : ℕ) → Contains (w.brought card) k → (y : Mark) → Contains more y → k < y.minute
      above-all k there y new_ = All-contains (λ (m : Mark). k < m.minute) more y
          (marks-each (λ (n : ℕ). k < n) card op.clock op.owed
          (subst (All (λ (x : Entry). k < x.minute)) op.told.owes
          ((w.powered.lit.cards card valid).brought k there (unit_view o.found.card_a.number o.found.card_b.number op.told.unit_image) (own_view op.told.card_image) (op.told.unit_image, op.told.on, refl) (op.told.card_image, op.told.there, refl))))
          new_

      minute-of : (y : Mark) → Contains more y → (y.minute ≤ first_of o) ⊎ ((i : HistoryMinute) × Contains book.sure i × (i.minute ≡ y.minute))
      minute-of y new_ =
          (mark-of y (All-contains (IsCardHeld (found_of o.found card) card book (card_of e card)) mine y hold.held (subst (λ (ms : List Mark). Contains ms y) (sym mine-are) (Contains-append_right old more y new_)))).of_minute

      -- the unit's last-kept minute at an acceptance is not earlier than that at the start
      not-under : (k : ℕ) (is : List HistoryMinute) → ((i : HistoryMinute) → Contains is i → Contains book.sure i) → IsMark (first_of o) is k → first_of o ≤ k
      not-under k is within mark = ⊎_elim
          (λ (same : k ≡ first_of o). omega (arith, same))
          (λ one. let above = (sure-early one.0 (within one.0 one.1)).1 in let same = one.2 in omega (arith, above, same))
          mark

      kept-parts : (i : HistoryMinute) → Contains book.sure i → Contains w.b.run.book.sure i ⊎ Contains w.new i
      kept-parts i there = Contains-append_cases w.b.run.book.sure w.new i (subst (λ (is : List HistoryMinute). Contains is i) (sure-kept w.new None w.b.run.book) there)

      was-kept : (i : HistoryMinute) → Contains w.b.run.book.sure i → Contains book.sure i
      was-kept i there = subst (λ (is : List HistoryMinute). Contains is i) (sym (sure-kept w.new None w.b.run.book)) (Contains-append_left w.b.run.book.sure w.new i there)

      -- of an acceptance in an earlier second
      late-told : (l : Session) (y : Mark) → Contains (sessions_in card told0) l → Contains more y → l.second / 60 ≤ y.minute
      late-told l y there new_ =
          let account = (w.began.accounts card own-valid).each l.second (was-accepted card told0 l there) in
          let k : ℕ = account.0 in
          let above : k < y.minute = above-all k (w.more card k account.1) y new_ in
          let least = not-under k w.b.run.book.sure was-kept account.2.account.mark in ⊎_elim
          (λ owed. absurd (omega (arith, owed, above, least)))
          (λ one.
          let same = one.2 in ⊎_elim
          (λ was. ⊎_elim
          (λ under. absurd (omega (arith, under, same, above)))
          (λ le. omega (arith, le, same))
          (All-contains (λ (i : HistoryMinute). (i.minute ≤ k) ⊎ (l.second / 60 ≤ i.minute)) (all w.b.run.book) one.0 account.2.later (Contains-append_left w.b.run.book.sure (option_to_list w.b.run.book.maybe) one.0 was)))
          (λ fresh.
          let low_ = All-contains (λ (i : HistoryMinute). first o done s at waits None [] v d w ≤ i.minute) w.new one.0 (new-late o done s at waits None [] v d w) fresh in
          let due = account.2.due w.b.span w.lit in omega (arith, low_, due, same))
          (kept-parts one.0 one.1))
          (minute-of y new_)

      -- or in this one: then nothing was owed
      late-found : (l : Session) (y : Mark) → Contains (sessions_found card s.number c.found) l → Contains more y → l.second / 60 ≤ y.minute
      late-found l y there new_ =
          let one = of-find card s.number c.found l there in
          let t = w.finds.taken one.e one.v one.at one.accepts in
          let k : ℕ = t.0 in
          let own : Contains (w.brought card) k = subst (λ (x : Card). Contains (w.brought x) k) (sym (same_is card one.e.card one.own)) t.1 in
          let above : k < y.minute = above-all k own y new_ in
          let least = not-under k book.sure (λ i h. h) t.2.mark in ⊎_elim
          (λ owed. absurd (omega (arith, owed, above, least)))
          (λ i.
          let same = i.2 in
          let under = All-contains (λ (z : HistoryMinute). z.minute ≤ k) (w.b.run.book.sure ++ w.new) i.0 t.2.newest (subst (λ (is : List HistoryMinute). Contains is i.0) (sure-kept w.new None w.b.run.book) i.1) in
          absurd (omega (arith, under, same, above)))
          (minute-of y new_)

      late : (l : Session) (y : Mark) → Contains all_before l → Contains more y → l.second / 60 ≤ y.minute
      late l y there new_ = ⊎_elim
          (λ told. late-told l y told new_)
          (λ found. late-found l y found new_)
          (Contains-append_cases (sessions_in card told0) (sessions_found card s.number c.found) l there)

      -- none of its marks is later than the newest minute of its session
      above : (a : Accepted) → IsNew a → All (λ (m : Mark). m.minute ≤ a.session.minute) (old ++ more)
      above a is = subst (All (λ (m : Mark). m.minute ≤ a.session.minute)) mine-are
          (All-weaker (IsCardHeld (found_of o.found card) card book (card_of e card)) (λ (m : Mark). m.minute ≤ a.session.minute)
          (λ m held. let low_ = mark-trimmed (found_of o.found card) card book (card_of e card) m w.powered.lit.none (w.powered.lit.cards card valid).string.rises held in let most = is.1 in omega (arith, low_, most)) mine hold.held)

      sessions-taken : sessions_so_far card told0 s.number now ≡ all_before ++ new ∷ []
      sessions-taken = sessions-now card ∙ ap (λ (b : Bool). all_before ++ cond (b && is_accepting f.verdict) (new ∷ []) []) (own-card card) ∙ ap (λ (b : Bool). all_before ++ cond b (new ∷ []) []) accepts

      -- WHY ITS ENTRIES BY HAND WERE STOPPED so far
      asked-before : All (λ (b : Asked). is_behind new b ≡ false) (asked_for card asked)
      asked-before = All-weaker (IsAskedBy s.number (length (actions_to at s.actions))) (λ (b : Asked). is_behind new b ≡ false) (λ b by_now. not-behind s.number (length (actions_to at s.actions)) new b refl few-acts by_now) (asked_for card asked)
          (All-filter (λ (b : Asked). same_card card b.sitting.card) (IsAskedBy s.number (length (actions_to at s.actions))) asked (asked-by_now w.b.run.log done v.log s (actions_to at s.actions) numbers))

      stopped-so : All (IsStoppedBy (IsKnown (start_at o) book.sure card) (sessions_so_far card told0 s.number now) (done_for card v.stops then_) mine v.stops) (asked_for card then_)
      stopped-so = stopped-as (start_at o) book.sure card (all_before ++ new ∷ []) (sessions_so_far card told0 s.number now) done_before (done_for card v.stops then_) (old ++ more) mine v.stops v.stops (asked_for card asked) (asked_for card then_)
          (sym sessions-taken) (ap (done_for card v.stops) (sym same-asked)) (sym mine-are) refl (ap (asked_for card) (sym same-asked))
          (stopped-taken (start_at o) book.sure card all_before old more order late new count (λ m there. All-contains (λ (k : Mark). k.minute < s.number / 60) (old ++ more) m low there) done_before v.stops (asked_for card asked) asked-before (w.handed.stopped card valid))

      -- WITH WHICH NEWEST MINUTE it was accepted
      some-is : (x y : Session) → Some x ≡ Some y → x ≡ y
      some-is x y is = cc

      known-new : (a : Accepted) → IsNew a → WasKnown (start_at o) book.sure card (old ++ more) new a
      known-new a is = record {
        newest = a.session.minute;
        most = record { front = book.sure; rest = []; are = sym (append-nil book.sure); most = is.2 };
        above = λ m there lt. All-contains (λ (k : Mark). k.minute ≤ a.session.minute) (old ++ more) m (above a is) there;
        same = λ none. refl;
      }

      known-so : (after : Option Accepted) → ((a : Accepted) → after ≡ Some a → IsNew a) → WasKnownLast (start_at o) book.sure card mine (sessions_so_far card told0 s.number now) after
      known-so after fresh = known-as (start_at o) book.sure card (old ++ more) mine (all_before ++ new ∷ []) (sessions_so_far card told0 s.number now) after after (sym mine-are) (sym sessions-taken) refl (by after fresh)
        where
          by : (q : Option Accepted) → ((a : Accepted) → q ≡ Some a → IsNew a) → WasKnownLast (start_at o) book.sure card (old ++ more) (all_before ++ new ∷ []) q
          by None fresh_ = tt
          by (Some a) fresh_ = λ l last_.
              subst (λ (x : Session). WasKnown (start_at o) book.sure card (old ++ more) x a) (some-is new l (sym (last-push all_before new) ∙ last_)) (known-new a (fresh_ a refl))

      -- SO IT STANDS, with this session or none
      accepted-so : (after : Option Accepted) → ((a : Accepted) → after ≡ Some a → IsNew a) → HandsGo (sessions_so_far card told0 s.number now) (done_for card v.stops then_) mine (w.hands card) (w.firsts card) after
      accepted-so after fresh =
          go-as (all_before ++ new ∷ []) (sessions_so_far card told0 s.number now) done_before (done_for card v.stops then_) (old ++ more) mine (w.hands card) (w.firsts card) after after
          (sym sessions-taken) (ap (done_for card v.stops) (sym same-asked)) (sym mine-are) refl (by after fresh)
        where
          by : (q : Option Accepted) → ((a : Accepted) → q ≡ Some a → IsNew a) → HandsGo (all_before ++ new ∷ []) done_before (old ++ more) (w.hands card) (w.firsts card) q
          by None fresh_ = hands-taken all_before done_before old (w.hands card) (w.firsts card) (session_of v.cabin.cards card) go-before new more count before newest low order late
          by (Some a) fresh_ = hands-accepted all_before done_before old (w.hands card) (w.firsts card) (session_of v.cabin.cards card) go-before new more count before newest low order late a (fresh_ a refl).0 (above a (fresh_ a refl))

    abbrev IsSo : Card → Type 0
    IsSo x = All (IsStoppedBy (IsKnown (start_at o) book.sure x) (sessions_so_far x told0 s.number now) (done_for x v.stops then_) (marks_of (device_of x) marks) v.stops) (asked_for x then_)

    -- ALL OF IT
    pub judged-handed : CardMarksHold (found_of o.found card) card (kept_all w.new w.b.run.book) marks (card_of e card) → (after : Card → Option Accepted) → ((x : Card) → same_card card x ≡ false → (after x ≡ session_of v.cabin.cards x) ⊎ (after x ≡ None)) → MayBe (is_accepting f.verdict) (after card)
        → AreHandedIn (start_at o) (kept_all w.new w.b.run.book).sure o.found w.b.run.log done s at (and_find v.log f) now v.stops marks w.hands w.firsts after
    judged-handed hold after others own = record { each = each; known = known; stopped = stopped; told = subst (AreToldOf v.stops) (sym same-asked) w.handed.told }
      where
        marks-still : (x : Card) (b : Bool) → OpensBy b o d card s.number f.verdict v.marks marks (session_of v.cabin.cards card) (session_of cabin.cards card) → same_card card x ≡ false → marks_of (device_of x) marks ≡ marks_of (device_of x) v.marks
        marks-still x true op apart =
            ap (marks_of (device_of x)) op.marks
            ∙ subst (λ (y : Card). marks_of (device_of y) (v.marks ++ card_marks card op.clock op.owed) ≡ marks_of (device_of y) v.marks) (other-of card x apart) (other-marks card op.clock op.owed v.marks)
        marks-still x false op apart = ap (marks_of (device_of x)) op.0

        own-go : IsOwnValid (found_of o.found card).image → HandsGo (sessions_so_far card told0 s.number now) (done_for card v.stops then_) (marks_of (device_of card) marks) (w.hands card) (w.firsts card) (after card)
        own-go valid_ = judge (is_accepting f.verdict) refl j.opens own
          where
            judge : (b : Bool) → is_accepting f.verdict ≡ b → OpensBy b o d card s.number f.verdict v.marks marks (session_of v.cabin.cards card) (session_of cabin.cards card) → MayBe b (after card)
                → HandsGo (sessions_so_far card told0 s.number now) (done_for card v.stops then_) (marks_of (device_of card) marks) (w.hands card) (w.firsts card) (after card)
            judge true accepts op fresh = accepted-so valid_ accepts op hold (after card) fresh
            judge false not_ op session = still card valid_ (after card) (and-not (same_card card card) (is_accepting f.verdict) not_) (ap (marks_of (device_of card)) op.0) session

        by : (x : Card) → IsOwnValid (found_of o.found x).image → (b : Bool) → same_card card x ≡ b → HandsGo (sessions_so_far x told0 s.number now) (done_for x v.stops then_) (marks_of (device_of x) marks) (w.hands x) (w.firsts x) (after x)
        by x valid true same =
            subst (λ (y : Card). IsOwnValid (found_of o.found y).image → HandsGo (sessions_so_far y told0 s.number now) (done_for y v.stops then_) (marks_of (device_of y) marks) (w.hands y) (w.firsts y) (after y)) (same_is card x same) own-go valid
        by x valid false apart = still x valid (after x) (not-and (same_card x card) (is_accepting f.verdict) (turned card x apart)) (marks-still x (is_accepting f.verdict) j.opens apart) (others x apart)

        each : (x : Card) → IsOwnValid (found_of o.found x).image → HandsGo (sessions_so_far x told0 s.number now) (done_for x v.stops then_) (marks_of (device_of x) marks) (w.hands x) (w.firsts x) (after x)
        each x valid = by x valid (same_card card x) refl

        own-known : IsOwnValid (found_of o.found card).image → WasKnownLast (start_at o) book.sure card (marks_of (device_of card) marks) (sessions_so_far card told0 s.number now) (after card)
        own-known valid_ = judge (is_accepting f.verdict) refl j.opens own
          where
            judge : (b : Bool) → is_accepting f.verdict ≡ b → OpensBy b o d card s.number f.verdict v.marks marks (session_of v.cabin.cards card) (session_of cabin.cards card) → MayBe b (after card)
                → WasKnownLast (start_at o) book.sure card (marks_of (device_of card) marks) (sessions_so_far card told0 s.number now) (after card)
            judge true accepts op fresh = known-so valid_ accepts op hold (after card) fresh
            judge false not_ op session = known-still card valid_ (after card) (and-not (same_card card card) (is_accepting f.verdict) not_) (ap (marks_of (device_of card)) op.0) session

        known-by : (x : Card) → IsOwnValid (found_of o.found x).image → (b : Bool) → same_card card x ≡ b → WasKnownLast (start_at o) book.sure x (marks_of (device_of x) marks) (sessions_so_far x told0 s.number now) (after x)
        known-by x valid true same =
            subst (λ (y : Card). IsOwnValid (found_of o.found y).image → WasKnownLast (start_at o) book.sure y (marks_of (device_of y) marks) (sessions_so_far y told0 s.number now) (after y)) (same_is card x same) own-known valid
        known-by x valid false apart = known-still x valid (after x) (not-and (same_card x card) (is_accepting f.verdict) (turned card x apart)) (marks-still x (is_accepting f.verdict) j.opens apart) (others x apart)

        known : (x : Card) → IsOwnValid (found_of o.found x).image → WasKnownLast (start_at o) book.sure x (marks_of (device_of x) marks) (sessions_so_far x told0 s.number now) (after x)
        known x valid = known-by x valid (same_card card x) refl

        own-stopped : IsOwnValid (found_of o.found card).image → IsSo card
        own-stopped valid_ = judge (is_accepting f.verdict) refl j.opens
          where
            judge : (b : Bool) → is_accepting f.verdict ≡ b → OpensBy b o d card s.number f.verdict v.marks marks (session_of v.cabin.cards card) (session_of cabin.cards card) → IsSo card
            judge true accepts op = stopped-so valid_ accepts op hold
            judge false not_ op = stopped-still card valid_ (and-not (same_card card card) (is_accepting f.verdict) not_) (ap (marks_of (device_of card)) op.0)

        stopped-by : (x : Card) → IsOwnValid (found_of o.found x).image → (b : Bool) → same_card card x ≡ b → IsSo x
        stopped-by x valid true same = subst (λ (y : Card). IsOwnValid (found_of o.found y).image → IsSo y) (same_is card x same) own-stopped valid
        stopped-by x valid false apart = stopped-still x valid (not-and (same_card x card) (is_accepting f.verdict) (turned card x apart)) (marks-still x (is_accepting f.verdict) j.opens apart)

        stopped : (x : Card) → IsOwnValid (found_of o.found x).image → IsSo x
        stopped x valid = stopped-by x valid (same_card card x) refl
