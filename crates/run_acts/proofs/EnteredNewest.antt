-- The newest minute that an accepted card answers is that of the history; and what is known of times at the start.
use Rattle.std.proofs.Common.{◌≡◌, ◌⊎◌, inl, inr, ⊎_elim, ℕ, suc, ◌*◌, ◌/◌, ◌%◌, ◌≤◌, ◌<◌, max, Bool, true, false, cond, Option, Some, None, List, [], ◌∷◌, ◌++◌, All, refl, ap, sym, subst, ◌∙◌, arith, append-nil}
use Rattle.std.specs.Prelude.{nat_eq, nat_lt, nat_le, filter}
use Rattle.std.proofs.lemmas.Bool.{lt-ltb, cases_lt}
use Rattle.std.proofs.lemmas.Bool.Decides.{nat_tests}
use Rattle.std.proofs.lemmas.List.Elements.{All-nil, All-head, All-tail, All-append, All-weaker, All-filter}
use Rattle.activity_codec.specs.declared.entries.Entry.{Entry}
use Rattle.activity_codec.specs.declared.values.Slot.{Slot}
use Rattle.activity_codec.specs.declared.values.Slot.TheVariants.{Driver, CoDriver}
use Rattle.trace_model.specs.declared.Card.{Card}
use Rattle.trace_model.specs.declared.Card.TheVariants.{A, B}
use Rattle.trace_model.specs.Trace.{TraceSecond}
use Rattle.tach_media.specs.Medium.{State, IsCoherent}
use Rattle.minute_rules.specs.Kept.{Kept}
use Rattle.unit_model.specs.minute_model.Activity.{last}
use Rattle.hand_model.specs.card_image.Fields.{session_time, last_use, end_mark}
use Rattle.hand_model.specs.card_image.View.{CardView}
use Rattle.hand_model.specs.card_image.Own.{own_sizes, own_view, IsOwnValid}
use Rattle.device_calls.proofs.card_session.NewestStays.{view_word}
use Rattle.device_calls.proofs.card_session.Renewing.{stored_least, stored_shut}
use Rattle.device_calls.proofs.OnCard.{own-is, session-is, mark-is}
use Rattle.log_model.specs.Log.{In}
use Rattle.log_model.specs.Slots.{other_slot}
use Rattle.log_model.specs.Course.{Visit}
use Rattle.device_calls.specs.history_model.Minutes.{HistoryMinute, on_card, card_history, up_to}
use Rattle.device_calls.specs.history_model.Presence.{CardStart, card_start, expected_entries, closed_at, trimmed_by, newest_by, newest_minute}
use Rattle.device_calls.specs.history_model.Book.{Book, all, Ordered}
use Rattle.device_calls.proofs.history_model.Books.{all-none, history-append, history-one, history-none, on_card-minute}
use Rattle.device_calls.proofs.history_model.Filters.{filter-whole}
use Rattle.device_calls.specs.device_rule.Rules.{Out}
use Rattle.device_calls.specs.device_rule.Views.{beyond}
use Rattle.device_calls.proofs.unit_rule.Moves.{shown-last}
use Rattle.run_crew.specs.card_slots.declared.seats.Seat.{Seat}
use Rattle.run_crew.specs.card_slots.Calls.{seat_in, is_card}
use Rattle.run_crew.specs.card_slots.Kept.{Kept as SlotsKept, is_minute, left_in, left_of}
use Rattle.device_calls.specs.safety_model.Recording.{Recording, card_image, brought, start_of, unit_seen}
use Rattle.run_minutes.specs.run_promise.Found.{found_of}
use Rattle.run_minutes.specs.run_promise.Cards.{IsUntouched, brought_by}
use Rattle.run_minutes.proofs.run_promise.Behind.{owed-until}
use Rattle.run_events.specs.run_course.Presence.{IsNewestAt}
use Rattle.run_events.specs.run_course.Seconds.{kept_all}
use Rattle.run_minutes.proofs.run_promise.Going.{sure-kept}
use Rattle.run_minutes.specs.run_devices.Told.{arranged, with_standing}
use Rattle.run_outcome.specs.declared.outcome.Outcome.{Outcome}
use Rattle.run_minutes.specs.run_promise.Origin.{Origin, start_at, first_of}
use Rattle.run_minutes.specs.declared.keeper.Keeper.{Keeper}
use Rattle.device_calls.specs.declared.entering.Entered.{Entered}
use Rattle.run_insertion.specs.declared.lines.Entering.{Entering}
use Rattle.run_insertion.specs.Told.{IsToldSo}
use Rattle.run_record.specs.Recorded.{SitsAccepted, LeftSince}
use Rattle.run_record.specs.Within.{course_in, MayBeWrittenSo, RecordInSecond}
use Rattle.run_acts.specs.Entered.{values_with, MayJudge}
use Rattle.run_acts.proofs.EnteredFacts.{mine, before, was, now-is, card-began}

-- ---- the closing word behind some entries

closed-one : (m : ℕ) (e : Entry) → e.minute < m → closed_at (Some e) ≤ m
closed-one m e low = by (nat_eq (suc e.minute % 1440) 0)
  where
    by : (b : Bool) → cond b e.minute (suc e.minute) ≤ m
    by true = omega (arith, low)
    by false = omega (arith, low)

closed-low : (m : ℕ) (es : List Entry) → All (λ (e : Entry). e.minute < m) es → closed_at (last es) ≤ m
closed-low m [] each = omega arith
closed-low m (e ∷ []) each = closed-one m e (All-head (λ (d : Entry). d.minute < m) e [] each)
closed-low m (e ∷ f ∷ es) each = closed-low m (f ∷ es) (All-tail (λ (d : Entry). d.minute < m) e (f ∷ es) each)

last-behind : (xs : List Entry) (y : Entry) (ys : List Entry) → last (xs ++ y ∷ ys) ≡ last (y ∷ ys)
last-behind [] y ys = refl
last-behind (x ∷ []) y ys = refl
last-behind (x ∷ z ∷ xs) y ys = last-behind (z ∷ xs) y ys

-- with entries that are earlier than a minute it is not later, or it is that of before
pub trimmed-most : (st : CardStart) (es ds : List Entry) (m : ℕ) → All (λ (e : Entry). e.minute < m) ds → trimmed_by st (es ++ ds) ≤ max (max st.mark (closed_at (last es))) m
trimmed-most st es [] m each = let same : trimmed_by st (es ++ []) ≡ trimmed_by st es = ap (trimmed_by st) (append-nil es) in omega (arith, same)
trimmed-most st es (d ∷ ds) m each =
    let same : closed_at (last (es ++ d ∷ ds)) ≡ closed_at (last (d ∷ ds)) = ap closed_at (last-behind es d ds) in
    let low = closed-low m (d ∷ ds) each in
    omega (arith, same, low)

pub closed-up : (m : ℕ) (es : List Entry) → All (λ (e : Entry). e.minute ≤ m) es → closed_at (last es) ≤ suc m
closed-up m es each = closed-low (suc m) es (All-weaker (λ (e : Entry). e.minute ≤ m) (λ e. e.minute < suc m) (λ e le. omega (arith, le)) es each)

-- what a card has of minutes that are earlier than another
pub history-low : (n : ℕ) (c : Card) (past : List HistoryMinute) → All (λ (i : HistoryMinute). i.minute < n) past → All (λ (e : Entry). e.minute < n) (card_history c past)
history-low n c [] each = subst (All (λ (e : Entry). e.minute < n)) (sym (history-none c)) (All-nil (λ (e : Entry). e.minute < n))
history-low n c (i ∷ past) each =
    subst (All (λ (e : Entry). e.minute < n)) (sym (history-append c (i ∷ []) past ∙ ap (λ (es : List Entry). es ++ card_history c past) (history-one c i)))
    (All-append (λ (e : Entry). e.minute < n) (on_card c i) (card_history c past)
    (All-weaker (λ (e : Entry). e.minute ≡ i.minute) (λ e. e.minute < n) (λ e is. let low = All-head (λ (j : HistoryMinute). j.minute < n) i past each in omega (arith, is, low)) (on_card c i) (on_card-minute c i))
    (history-low n c past (All-tail (λ (j : HistoryMinute). j.minute < n) i past each)))

-- ---- an image's times

-- the end mark is not later than the stored time,
pub mark-low : (x : List ℕ) → 60 * (own_view x).mark ≤ (own_view x).stored
mark-low x =
    let same = own-is (own_sizes x) x refl in
    let mark : (own_view x).mark ≡ end_mark (own_sizes x) x = ap (λ (v : CardView). v.mark) same ∙ mark-is (own_sizes x) x in
    let stored = ap (λ (v : CardView). v.stored) same in
    let least = stored_least (own_sizes x) x in
    let parts : 60 * (last_use (own_sizes x) x / 60) ≤ last_use (own_sizes x) x = omega arith in
    omega (arith, mark, stored, least, parts)

shut-or : (s : ℕ) → (nat_lt 0 s ≡ true) ⊎ ((nat_lt 0 s ≡ false) × (nat_eq s 0 ≡ true))
shut-or s = by (nat_lt 0 s) refl
  where
    by : (b : Bool) → nat_lt 0 s ≡ b → (nat_lt 0 s ≡ true) ⊎ ((nat_lt 0 s ≡ false) × (nat_eq s 0 ≡ true))
    by true is = inl is
    by false is = inr (is, grind (arith, nat_tests))

-- nor is its newest word, where no session is open
pub beyond-low : (x : List ℕ) (u : ℕ) → u < 4294967295 → (own_view x).stored ≤ u → 60 * beyond (own_view x) ≤ u
beyond-low x u few le = ⊎_elim
    (λ open_. let zero_ : beyond (own_view x) ≡ 0 = ap (λ (b : Bool). cond b 0 (own_view x).word) open_ in omega (arith, zero_))
    (λ shut.
    let same = own-is (own_sizes x) x refl in
    let beyond_is : beyond (own_view x) ≡ (own_view x).word = ap (λ (b : Bool). cond b 0 (own_view x).word) shut.0 in
    let word = ap (λ (v : CardView). v.word) same ∙ view_word (own_sizes x) x in
    let session : (own_view x).session ≡ session_time (own_sizes x) x = ap (λ (v : CardView). v.session) same ∙ session-is (own_sizes x) x in
    let stored = ap (λ (v : CardView). v.stored) same ∙ stored_shut (own_sizes x) x (ap (λ (k : ℕ). nat_eq k 0) (sym session) ∙ shut.1) in
    omega (arith, beyond_is, word, stored, le, few))
    (shut-or (own_view x).session)

-- ---- who does not sit accepted

abbrev bare_seat : Card → Seat
bare_seat card = record { card = card; newest = None }

abbrev accepted_seat : Card → ℕ → Seat
accepted_seat card newest = record { card = card; newest = Some newest }

sits-not : (kept : SlotsKept) (slot : Slot) (card : Card) → seat_in kept.seats slot ≡ Some (record { card = card; newest = None }) → is_card (seat_in kept.seats (other_slot slot)) card ≡ false → SitsAccepted kept card → ⊥
sits-not kept slot card here elsewhere sits = by slot sits.0 here elsewhere sits.2
  where
    own-card : (c : Card) → is_card (Some (record { card = c; newest = Some sits.1 })) c ≡ true
    own-card A = refl
    own-card B = refl

    apart : bare_seat card ≡ accepted_seat card sits.1 → ⊥
    apart same = let both : None ≡ Some sits.1 = ap (λ (q : Seat). q.newest) same in cc

    same-seat : (q : Option Seat) → q ≡ Some (bare_seat card) → q ≡ Some (accepted_seat card sits.1) → ⊥
    same-seat q one two = let both : Some (bare_seat card) ≡ Some (accepted_seat card sits.1) = sym one ∙ two in apart (some-same both)
      where
        some-same : Some (bare_seat card) ≡ Some (accepted_seat card sits.1) → bare_seat card ≡ accepted_seat card sits.1
        some-same e = cc

    other-seat : (q : Option Seat) → is_card q card ≡ false → q ≡ Some (accepted_seat card sits.1) → ⊥
    other-seat q not is = let both : true ≡ false = sym (own-card card) ∙ ap (λ (p : Option Seat). is_card p card) (sym is) ∙ not in cc

    by : (slot at_ : Slot) → seat_in kept.seats slot ≡ Some (bare_seat card) → is_card (seat_in kept.seats (other_slot slot)) card ≡ false → seat_in kept.seats at_ ≡ Some (accepted_seat card sits.1) → ⊥
    by Driver Driver h _ is = same-seat kept.seats.driver h is
    by Driver CoDriver h not is = other-seat kept.seats.codriver not is
    by CoDriver Driver h not is = other-seat kept.seats.driver not is
    by CoDriver CoDriver h _ is = same-seat kept.seats.codriver h is

left-then : (kept : SlotsKept) (c : Card) (m : ℕ) → (left_in kept.left c m ≡ true → m ≤ m) → left_of kept.left c ≡ Some m → left_in kept.left c m ≡ true
left-then kept c m low is = by c is
  where
    same : (k : ℕ) → nat_eq k k ≡ true
    same k = grind (arith, nat_tests)

    by : (c : Card) → left_of kept.left c ≡ Some m → left_in kept.left c m ≡ true
    by A is = ap (λ (o : Option ℕ). is_minute o m) is ∙ same m
    by B is = ap (λ (o : Option ℕ). is_minute o m) is ∙ same m

-- a card that left last in a minute left in it
left-at : (kept : SlotsKept) (c : Card) (most m : ℕ) → ((k : ℕ) → left_in kept.left c k ≡ true → k ≤ most) → most ≤ m → LeftSince m (left_of kept.left c) → left_in kept.left c m ≡ true
left-at kept c most m latest le since = by (left_of kept.left c) refl since
  where
    by : (o : Option ℕ) → left_of kept.left c ≡ o → LeftSince m o → left_in kept.left c m ≡ true
    by None is h = absurd h
    by (Some k) is h =
        let there = left-then kept c k (λ t. omega arith) is in
        let low = latest k there in
        let h_ : m ≤ k = h in
        let same : k ≡ m = omega (arith, low, le, h_) in
        subst (λ (j : ℕ). left_in kept.left c j ≡ true) same there

-- ---- the card

start-is : (r : Recording) (c : Card) → card_start (start_of r) c ≡ brought r c
start-is r A = refl
start-is r B = refl

module _ (o : Origin) (done : List TraceSecond) (s : TraceSecond) (n : ℕ) (waits fewer : List Visit) (e : Entering) (k : Keeper) (out : Outcome) (unfound next_ begun : ℕ) (minutes : Kept) (U X Z : State) (w : RecordInSecond o done s (In n) waits None [] (values_with k out unfound next_ begun minutes) (arranged e.which U X Z)) (m : MayJudge o done s n waits fewer e k out unfound next_ begun minutes U X Z w) (coherent : IsCoherent X) where
  abbrev book : Book
  book = kept_all w.new w.b.run.book

  order : Ordered o.found.unit.first w.due book
  order = ((was o done s n waits fewer e k out unfound next_ begun minutes U X Z w m).unit.unit.unit_holds [] []).order

  -- all minutes that are kept are earlier than this one
  due-low : w.due ≤ s.number / 60
  due-low = let late = w.late in let here = m.next_.is_now in omega (arith, late, here)

  all-low : All (λ (i : HistoryMinute). i.minute < s.number / 60) (all book)
  all-low = All-weaker (λ (i : HistoryMinute). i.minute < w.due) (λ i. i.minute < s.number / 60) (λ i lt. let le = due-low in omega (arith, lt, le)) (all book) order.now.until

  owed-low : All (λ (x : Entry). x.minute < s.number / 60) (brought o.recording e.which).owed
  owed-low =
      let v = unit_seen o.recording o.recording.unit in
      let first : v.last ≡ first_of o = shown-last _ _ o.recording.unit in
      let begins = order.begins in
      let is = m.origin.first in
      All-weaker (λ (x : Entry). x.minute ≤ v.last) (λ x. x.minute < s.number / 60) (λ x le. let low = due-low in omega (arith, le, first, begins, is, low)) (brought o.recording e.which).owed
      (owed-until e.which v (own_view (card_image o.recording e.which)))

  -- what it is to have up to a minute is of earlier minutes than this one
  pub brought-part : (last_ : ℕ) → All (λ (x : Entry). x.minute < s.number / 60) ((found_of o.found e.which).start.owed ++ card_history e.which (up_to last_ (all (kept_all w.new w.b.run.book))))
  brought-part last_ = All-append (λ (x : Entry). x.minute < s.number / 60) (found_of o.found e.which).start.owed (card_history e.which (up_to last_ (all book)))
      (subst (λ (st : CardStart). All (λ (x : Entry). x.minute < s.number / 60) st.owed) (sym (m.origin.start e.which)) owed-low)
      (history-low (s.number / 60) e.which (up_to last_ (all book)) (All-filter (λ (i : HistoryMinute). nat_le i.minute last_) (λ (i : HistoryMinute). i.minute < s.number / 60) (all book) all-low))

  abbrev st : CardStart
  st = (found_of o.found e.which).start

  abbrev newest : ℕ
  newest = trimmed_by st (st.entries ++ brought_by e.which st book)

  -- the history's
  pub past-is : w.b.run.book.sure ++ w.new ≡ all book
  past-is = sym (sure-kept w.new None w.b.run.book) ∙ sym (all-none book (was o done s n waits fewer e k out unfound next_ begun minutes U X Z w m).unit.none)

  same-start : card_start (start_at o) e.which ≡ st
  same-start = start-is o.recording e.which ∙ sym (m.origin.start e.which)

  history-is : newest_minute (start_at o) (w.b.run.book.sure ++ w.new) e.which s.number ≡ max (max st.mark st.word) (closed_at (last (st.entries ++ brought_by e.which st book)))
  unfolding newest_minute
  history-is =
      ap (λ (past : List HistoryMinute). newest_by (card_start (start_at o) e.which) (expected_entries (start_at o) e.which (filter (λ (i : HistoryMinute). nat_lt i.minute (s.number / 60)) past))) past-is
      ∙ ap (λ (past : List HistoryMinute). newest_by (card_start (start_at o) e.which) (expected_entries (start_at o) e.which past))
      (filter-whole (λ (i : HistoryMinute). nat_lt i.minute (s.number / 60)) (all book) (All-weaker (λ (i : HistoryMinute). i.minute < s.number / 60) (λ i. nat_lt i.minute (s.number / 60) ≡ true) (λ i lt. lt-ltb i.minute (s.number / 60) lt) (all book) all-low))
      ∙ ap (λ (t : CardStart). newest_by t (t.entries ++ (t.owed ++ card_history e.which (all book)))) same-start

  pub few-now : s.number < 4294967295
  few-now = let last_ = m.last in let now = now-is o done s n waits fewer e k out unfound next_ begun minutes U X Z w m in omega (arith, last_, now)

  -- the card was written before, or is as it was
  pub written-or : ((x : List ℕ) → X.may_leave x → x ≡ card_image o.recording e.which) ⊎ MayBeWrittenSo o w.b done (course_in w.b done s (In n) (values_with k out unfound next_ begun minutes).log) waits s.number k.cabin.slots e.which
  written-or = ⊎_elim
      (λ whole. inl (λ x there. mine e.which U X Z (λ (a : State). (found_of o.found e.which).began ≤ a.clock → a.may_leave x → a.left_since (found_of o.found e.which).began x → IsUntouched (found_of o.found e.which) a → x ≡ card_image o.recording e.which)
      (λ began there_ left whole_. whole_ x left ∙ m.origin.image e.which) (card-began o done s n waits fewer e k out unfound next_ begun minutes U X Z w m) there (coherent.counts_now (found_of o.found e.which).began x (card-began o done s n waits fewer e k out unfound next_ begun minutes U X Z w m) there) (mine e.which U X Z (λ (a : State). IsUntouched (found_of o.found e.which) a) whole)))
      (λ may. inr may)
      (w.spared e.which)

  -- a card that is valid was so at the start
  pub was-valid : (y : List ℕ) → X.may_leave y → IsOwnValid y → IsOwnValid (card_image o.recording e.which)
  was-valid y there valid = ⊎_elim (λ whole. subst IsOwnValid (whole y there) valid) (λ may. may.valid) written-or

  module _ (entered : Entered) (told : IsToldSo o.found (with_standing e.which Out (before o done s n waits fewer e k out unfound next_ begun minutes U X Z w m)) e entered U X) where
    -- ITS NEWEST MINUTE is not later than that of the history
    pub not-later : entered.session.minute ≤ newest_minute (start_at o) (kept_all w.new w.b.run.book).sure e.which s.number
    not-later =
        let is = history-is in
        let kept : newest_minute (start_at o) (kept_all w.new w.b.run.book).sure e.which s.number ≡ newest_minute (start_at o) (w.b.run.book.sure ++ w.new) e.which s.number = ap (λ (past : List HistoryMinute). newest_minute (start_at o) past e.which s.number) (sure-kept w.new None w.b.run.book) in
        let most = told.answers.most in
        omega (arith, is, kept, most)

    -- its stored time at the start is not later than this second
    pub in-time : (own_view (card_image o.recording e.which)).stored ≤ s.number
    in-time = ⊎_elim
        (λ whole. let early : (own_view told.found.card_image).stored ≤ e.at.second = told.found.early in let now = now-is o done s n waits fewer e k out unfound next_ begun minutes U X Z w m in
        let same : (own_view told.found.card_image).stored ≡ (own_view (card_image o.recording e.which)).stored = ap (λ (x : List ℕ). (own_view x).stored) (whole told.found.card_image told.found.there) in omega (arith, early, now, same))
        (λ may. let low = may.since.stored in let past = may.since.past in omega (arith, low, past))
        written-or

    word-is : (card_start (start_at o) e.which).word ≡ beyond (own_view (card_image o.recording e.which))
    word-is = ap (λ (t : CardStart). t.word) (start-is o.recording e.which)

    word-low : 60 * (card_start (start_at o) e.which).word ≤ s.number
    word-low = let low = beyond-low (card_image o.recording e.which) s.number few-now in-time in let is = word-is in omega (arith, low, is)

    -- a word that is later than that minute stands in this one: then it was answered, or the card has left in this minute
    beyond-here : (x : List ℕ) → (own_view x).session ≡ 0 → beyond (own_view x) ≡ (own_view x).word
    beyond-here x none = ap (λ (k : ℕ). cond (nat_lt 0 k) 0 (own_view x).word) none

    beyond-open : (x : List ℕ) (m_ : ℕ) → 0 < m_ → m_ ≤ beyond (own_view x) → (own_view x).session ≡ 0
    beyond-open x m_ some le = by (nat_lt 0 (own_view x).session) refl le
      where
        by : (b : Bool) → nat_lt 0 (own_view x).session ≡ b → m_ ≤ cond b 0 (own_view x).word → (own_view x).session ≡ 0
        by true is le = absurd (omega (arith, some, le))
        by false is le = grind (arith, nat_tests)

    late-word : (m_ : ℕ) → s.number / 60 ≤ m_ → m_ ≤ (card_start (start_at o) e.which).word → (m_ ≤ entered.session.minute) ⊎ (left_in k.cabin.slots.left e.which m_ ≡ true)
    late-word m_ low le = ⊎_elim
        (λ whole. ⊎_elim
        (λ (none : m_ ≡ 0). inl (omega (arith, none)))
        (λ some.
        let x = told.found.card_image in
        let same = whole x told.found.there in
        let is = word-is in
        let shut : (own_view x).session ≡ 0 = subst (λ (y : List ℕ). (own_view y).session ≡ 0) (sym same) (beyond-open (card_image o.recording e.which) m_ some (omega (arith, le, is))) in
        let word = told.answers.words shut in
        let here = beyond-here x shut in
        let there : beyond (own_view x) ≡ beyond (own_view (card_image o.recording e.which)) = ap (λ (y : List ℕ). beyond (own_view y)) same in
        inl (omega (arith, le, is, word, here, there)))
        (zero-or m_))
        (λ may.
        let stored = may.since.stored in
        let past = may.since.past in
        let word = beyond-low (card_image o.recording e.which) may.time (let few = few-now in omega (arith, past, few)) stored in
        let is = word-is in
        inr (⊎_elim
        (λ sits. absurd (sits-not k.cabin.slots e.slot e.which m.seat m.elsewhere sits))
        (λ left.
        left-at k.cabin.slots e.which (s.number / 60) m_ (λ j there. w.tells.latest e.which j there) low
        (since-later (may.time / 60) m_ (left_of k.cabin.slots.left e.which) (let top = word-low in omega (arith, le, is, word)) left))
        may.since.stays))
        written-or
      where
        zero-or : (j : ℕ) → (j ≡ 0) ⊎ (0 < j)
        zero-or j = ⊎_elim (λ some. inr some) (λ none. inl (omega (arith, none))) (cases_lt 0 j)

        since-later : (a b : ℕ) (o_ : Option ℕ) → b ≤ a → LeftSince a o_ → LeftSince b o_
        since-later a b None le h = h
        since-later a b (Some left) le h = let h_ : a ≤ left = h in omega (arith, le, h_)

    -- ITS NEWEST MINUTE is that of the history
    pub answered : IsNewestAt (start_at o) (w.b.run.book.sure ++ w.new) k.cabin.slots e.which entered.session.minute s.number
    answered m_ low = (
      λ word.
          let word_ : st.word < m_ = subst (λ (t : CardStart). t.word < m_) same-start word in
          let is = history-is in
          let least = told.answers.least in
          let most = told.answers.most in
          ((λ before_. omega (arith, before_, word_, is, least, most)), (λ before_. omega (arith, before_, word_, is, least, most))),
      λ word. late-word m_ low word,
    )
