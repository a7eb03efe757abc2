-- What is owed to a card as it is accepted, by the seconds before: all that it lacks of the run's minutes, and nothing else.
use Rattle.std.proofs.Common.{◌≡◌, ◌∙◌, ◌⊎◌, inl, inr, ⊎_elim, ℕ, ◌+◌, ◌*◌, ◌/◌, ◌<◌, ◌≤◌, true, false, nat_lt, Option, Some, None, List, [], ◌∷◌, ◌++◌, All, Contains, filter, refl, ap, sym, subst, arith, append-nil, append_assoc}
use Rattle.std.specs.Prelude.{flat_map, unwrap_or, option_to_list, not, ◌&&◌}
use Rattle.std.proofs.lemmas.Bool.Decides.{nat_tests}
use Rattle.std.proofs.lemmas.List.Elements.{filter-append, All-contains, All-weaker, Contains-append_left, Contains-append_right, Contains-append_cases}
use Rattle.activity_codec.specs.declared.entries.Entry.{Entry}
use Rattle.trace_model.specs.declared.Card.{Card}
use Rattle.trace_model.specs.Trace.{TraceSecond}
use Rattle.tach_media.specs.Medium.{State, IsCoherent}
use Rattle.unit_model.specs.minute_model.declared.Minute.{Minute}
use Rattle.unit_model.specs.minute_model.declared.Rule.{Rule}
use Rattle.unit_model.specs.minute_model.Span.{Span, decided_in, ungiven_of}
use Rattle.minute_rules.specs.Kept.{Kept}
use Rattle.card_files.specs.card_layout.declared.files.Application.{Application}
use Rattle.hand_model.specs.card_image.View.{CardView, card_view}
use Rattle.hand_model.specs.card_image.Own.{own_view, own_sizes}
use Rattle.device_calls.specs.card_session.Books.{mark_of}
use Rattle.device_calls.specs.card_session.Sessions.{book_of}
use Rattle.device_calls.proofs.OnCard.{own-is}
use Rattle.log_model.specs.Log.{RunLog, In}
use Rattle.log_model.specs.declared.lines.Break.{Break}
use Rattle.log_model.specs.declared.lines.Find.{Find}
use Rattle.log_model.specs.declared.lines.Verdict.TheVariants.{Accepted}
use Rattle.log_model.specs.Causes.{device_of}
use Rattle.log_model.specs.Course.{ToldSecond, Course, Visit, went, Went, second_told}
use Rattle.device_calls.specs.history_model.Minutes.{HistoryMinute, on_card, card_history, up_to}
use Rattle.device_calls.specs.history_model.Completeness.{deciding_of, IsMarked, TornBetween}
use Rattle.log_model.proofs.Growth.{went-more}
use Rattle.device_calls.specs.history_model.Presence.{Start, CardStart}
use Rattle.device_calls.specs.history_model.History.{settlings_of, minutes_after, decided_of, span_minutes, limited_to, history_by, unit_history}
use Rattle.device_calls.specs.history_model.Growth.{closed_limit, closed_history}
use Rattle.device_calls.specs.history_model.Book.{Book, all}
use Rattle.device_calls.proofs.history_model.Books.{all-none, up_to-whole, history-append, history-one, history-none, on_card-minute}
use Rattle.device_calls.proofs.history_model.Closing.{minutes-parts}
use Rattle.device_calls.proofs.history_model.Decided.{after-decided, unit-decided}
use Rattle.device_calls.proofs.history_model.Filters.{all-back, filter-none, filter-whole}
use Rattle.device_calls.specs.device_rule.Rules.{Meets, Out}
use Rattle.device_calls.specs.device_rule.Views.{UnitView, unit_view, owed}
use Rattle.device_calls.proofs.device_rule.Pairs.{owed-above}
use Rattle.device_calls.specs.run_unit_course.Legs.{AreWhole}
use Rattle.device_calls.specs.run_unit_course.Turn.{span_at}
use Rattle.device_calls.specs.safety_model.Recording.{brought}
use Rattle.device_calls.specs.safety_model.Unit.{marks_of}
use Rattle.device_calls.proofs.safety_model.Whole.{mark-of, no-failure}
use Rattle.run_minutes.specs.run_promise.Cards.{IsCardHeld, CardMarksHold}
use Rattle.run_minutes.specs.run_promise.Found.{found_of, AnyKept}
use Rattle.run_minutes.proofs.run_promise.Entries.{all-by}
use Rattle.run_events.specs.run_course.Seconds.{kept_all}
use Rattle.run_events.specs.run_course.Kept.{BrokenSince, settled_times}
use Rattle.run_events.proofs.run_course.Told.{lit-starts}
use Rattle.run_minutes.specs.run_devices.Told.{arranged, with_standing}
use Rattle.run_outcome.specs.declared.outcome.Outcome.{Outcome}
use Rattle.run_minutes.specs.run_promise.Origin.{Origin, rule_of, start_at}
use Rattle.run_minutes.specs.run_promise.Whole.{NothingFailed}
use Rattle.run_minutes.specs.declared.keeper.Keeper.{Keeper}
use Rattle.run_minutes.specs.declared.keeper.Moment.{Moment}
use Rattle.device_calls.specs.declared.entering.Entered.{Entered}
use Rattle.run_insertion.specs.declared.lines.Entering.{Entering}
use Rattle.run_insertion.specs.Entering.{find_of}
use Rattle.run_insertion.specs.Told.{IsToldSo}
use Rattle.run_record.specs.Within.{RecordInSecond, course_in}
use Rattle.run_acts.specs.Entered.{values_with, MayJudge}
use Rattle.run_acts.specs.Owed.{IsPulledBefore, IsPulledHere, IsOwed, runs_on}
use Rattle.run_acts.proofs.PulledBy.{none-torn, none-torn-in, tears-none, pulled-alone}
use Rattle.run_acts.proofs.TruthsThen.{began-none}
use Rattle.run_acts.proofs.EnteredFacts.{mine, before, was}
use Rattle.run_note_record.proofs.Stored.{AtEnd, nothing, push, at-end}
use Rattle.run_acts.proofs.EnteredNewest.{past-is}
use Rattle.run_acts.proofs.MinuteEnds.{fresh-low, followed-lit}
use Rattle.run_acts.proofs.WholeLegs.{whole-before, book-is}

-- ---- A HISTORY THAT LOST NOTHING is all that its spans have decided, with the cards

limited-whole : (start : Start) (told : List ToldSecond) (o : Option ℕ) (past : List HistoryMinute) (ds : List Minute) → All (λ (d : Minute). d.minute ≤ unwrap_or o 0) ds → limited_to o (minutes_after start told past ds) ≡ minutes_after start told past ds
limited-whole start told None past ds low = refl
limited-whole start told (Some k) past ds low =
    up_to-whole k (minutes_after start told past ds)
    (all-by (λ (i : HistoryMinute). i.minute ≤ k) (minutes_after start told past ds) (λ i at.
    let d = after-decided start told past ds i at in
    let le : d.0.minute ≤ k = All-contains (λ (x : Minute). x.minute ≤ k) ds d.0 low d.1 in
    subst (λ (n : ℕ). n ≤ k) d.2 le))

pub history-whole : (rule : Rule) (start : Start) (log : RunLog) (told : List ToldSecond) (past : List HistoryMinute) (spans : List (List ToldSecond)) → AreWhole rule (closed_limit log) 0 spans →
    history_by rule start (closed_limit log) told past spans ≡ minutes_after start told past (flat_map (λ (span : List ToldSecond). decided_of rule span) spans)
history-whole rule start log told past [] whole = refl
history-whole rule start log told past (span ∷ later) whole =
    let own : limited_to (closed_limit log span later) (span_minutes rule start told past span) ≡ span_minutes rule start told past span = limited-whole start told (closed_limit log span later) past (decided_of rule span) whole.0 in
    (λ i. own i ++ history_by rule start (closed_limit log) told (past ++ own i) later)
    ∙ ap (λ (is : List HistoryMinute). span_minutes rule start told past span ++ is) (history-whole rule start log told (past ++ span_minutes rule start told past span) later whole.1)
    ∙ sym (minutes-parts rule start told past (decided_of rule span) (flat_map (λ (s : List ToldSecond). decided_of rule s) later))

under : (a b : ℕ) → a < b → nat_lt a b ≡ true
under a b lt = grind (arith, nat_tests)

over : (a b : ℕ) → b ≤ a → nat_lt a b ≡ false
over a b le = grind (arith, nat_tests)

-- what is later than a mark, behind what is not
later-ones : (mark : ℕ) (xs ys : List Entry) → All (λ (e : Entry). e.minute ≤ mark) xs → All (λ (e : Entry). mark < e.minute) ys → filter (λ (e : Entry). nat_lt mark e.minute) (xs ++ ys) ≡ ys
later-ones mark xs ys low high =
    filter-append (λ (e : Entry). nat_lt mark e.minute) xs ys
    ∙ ap (λ (es : List Entry). es ++ filter (λ (e : Entry). nat_lt mark e.minute) ys)
    (filter-none (λ (e : Entry). nat_lt mark e.minute) xs (All-weaker (λ (e : Entry). e.minute ≤ mark) (λ (e : Entry). nat_lt mark e.minute ≡ false) (λ e le. over mark e.minute le) xs low))
    ∙ filter-whole (λ (e : Entry). nat_lt mark e.minute) ys (All-weaker (λ (e : Entry). mark < e.minute) (λ (e : Entry). nat_lt mark e.minute ≡ true) (λ e lt. under mark e.minute lt) ys high)

-- an image has the end mark of its book
mark-own : (app : Application) (x : List ℕ) → (card_view app x).mark ≡ mark_of (book_of app x)
unfolding card_view book_of
mark-own app x = refl

-- an entry of a card's history stands on one of its minutes
said-on : (c : Card) (past : List HistoryMinute) (e : Entry) → Contains (card_history c past) e → (i : HistoryMinute) × Contains past i × Contains (on_card c i) e
said-on c [] e at = absurd (let none : Contains {X = Entry} [] e = subst (λ (zs : List Entry). Contains zs e) (history-none c) at in omega (arith, none.1))
said-on c (i ∷ past) e at = ⊎_elim
    (λ here. (i, Contains-append_left (i ∷ []) past i (0, omega arith, refl), here))
    (λ later. let more = said-on c past e later in (more.0, Contains-append_right (i ∷ []) past more.0 more.1, more.2))
    (Contains-append_cases (on_card c i) (card_history c past) e
    (subst (λ (zs : List Entry). Contains zs e) (history-append c (i ∷ []) past ∙ ap (λ (zs : List Entry). zs ++ card_history c past) (history-one c i)) at))

-- ---- whether power goes on

last-runs : (xs : List ToldSecond) (t : ToldSecond) → runs_on (xs ++ t ∷ []) ≡ (t.lit && not t.cut)
last-runs [] t = refl
last-runs (x ∷ []) t = refl
last-runs (x ∷ y ∷ xs) t = last-runs (y ∷ xs) t

none-runs : (log : RunLog) → (went log []).before.running ≡ runs_on (went log []).told
unfolding went
none-runs log = refl

runs-told : (log : RunLog) (done : List TraceSecond) → (went log done).before.running ≡ runs_on (went log done).told
runs-told log done = by done (at-end done)
  where
    by : (ss : List TraceSecond) → AtEnd ss → (went log ss).before.running ≡ runs_on (went log ss).told
    by _ nothing = none-runs log
    by _ (push ss s) =
        ap (λ (w : Went). w.before.running) (went-more log ss s)
        ∙ sym (last-runs (went log ss).told (second_told log (went log ss).before s))
        ∙ ap (λ (w : Went). runs_on w.told) (sym (went-more log ss s))

-- ---- AS A CARD IS JUDGED
module _ (o : Origin) (done : List TraceSecond) (s : TraceSecond) (n : ℕ) (waits fewer : List Visit) (e : Entering) (k : Keeper) (out : Outcome) (unfound next_ begun : ℕ) (minutes : Kept) (U X Z : State) (w : RecordInSecond o done s (In n) waits None [] (values_with k out unfound next_ begun minutes) (arranged e.which U X Z)) (m : MayJudge o done s n waits fewer e k out unfound next_ begun minutes U X Z w) (coherent : IsCoherent X) (nothing : NothingFailed (values_with k out unfound next_ begun minutes).log) where
  none : NothingFailed w.b.run.log
  none = began-none o done s (In n) waits None [] (values_with k out unfound next_ begun minutes) (arranged e.which U X Z) w nothing

  abbrev told_so_far : List ToldSecond
  told_so_far = (went w.b.run.log done).told

  abbrev ended_so_far : List (List ToldSecond)
  ended_so_far = (followed-lit o done s (In n) waits None [] (values_with k out unfound next_ begun minutes) (arranged e.which U X Z) w).ended

  abbrev decided_before : List Minute
  decided_before = flat_map (λ (span : List ToldSecond). decided_of (rule_of o) span) ended_so_far

  abbrev book : Book
  book = kept_all w.new w.b.run.book

  abbrev st : CardStart
  st = (found_of o.found e.which).start

  -- the minutes that are kept by then
  sure-is : w.b.run.book.sure ≡ minutes_after (start_at o) told_so_far [] (decided_before ++ decided_of (rule_of o) w.b.span)
  sure-is =
      let closed : closed_history (rule_of o) (start_at o) w.b.run.log told_so_far ended_so_far ≡ minutes_after (start_at o) told_so_far [] decided_before =
      history-whole (rule_of o) (start_at o) w.b.run.log told_so_far [] ended_so_far (whole-before o done s (In n) waits None [] (values_with k out unfound next_ begun minutes) (arranged e.which U X Z) w none.0) in
      sym (book-is o done s (In n) waits None [] (values_with k out unfound next_ begun minutes) (arranged e.which U X Z) w none.0)
      ∙ (λ i. closed i ++ span_minutes (rule_of o) (start_at o) told_so_far (closed i) w.b.span)
      ∙ sym (minutes-parts (rule_of o) (start_at o) told_so_far [] decided_before (decided_of (rule_of o) w.b.span))

  decided-is : decided_of (rule_of o) w.b.span ++ w.ds ≡ decided_in w.sp
  decided-is = ap (λ (ds : List Minute). decided_of (rule_of o) w.b.span ++ ds) (sym (append-nil w.ds)) ∙ sym w.decided.decided

  span-is : decided_in w.sp ≡ decided_in (settled_times w.decided.times (span_at (rule_of o) s.number w.b.span))
  span-is = ap (λ (x : Span). decided_in x) w.decided.span_is ∙ ap (λ (u : ℕ). decided_in (settled_times w.decided.times (span_at (rule_of o) u w.b.span))) (sym w.moment.number)

  past-so : w.b.run.book.sure ++ w.new ≡ minutes_after (start_at o) told_so_far [] (decided_before ++ decided_in (settled_times w.decided.times (span_at (rule_of o) s.number w.b.span)))
  past-so =
      ap (λ (is : List HistoryMinute). w.b.run.book.sure ++ is) w.decided.seated_
      ∙ (λ i. sure-is i ++ minutes_after (start_at o) told_so_far (sure-is i) w.ds)
      ∙ sym (minutes-parts (rule_of o) (start_at o) told_so_far [] (decided_before ++ decided_of (rule_of o) w.b.span) w.ds)
      ∙ ap (λ (ms : List Minute). minutes_after (start_at o) told_so_far [] ms) (append_assoc decided_before (decided_of (rule_of o) w.b.span) w.ds ∙ ap (λ (ms : List Minute). decided_before ++ ms) (decided-is ∙ span-is))

  all-decided : ungiven_of (settled_times w.decided.times (span_at (rule_of o) s.number w.b.span)) ≡ s.number / 60
  all-decided =
      let until = w.until in
      let here = m.next_.is_now in
      let same : ungiven_of w.sp ≡ ungiven_of (settled_times w.decided.times (span_at (rule_of o) s.number w.b.span)) =
      ap (λ (x : Span). ungiven_of x) w.decided.span_is ∙ ap (λ (u : ℕ). ungiven_of (settled_times w.decided.times (span_at (rule_of o) u w.b.span))) (sym w.moment.number) in
      sym same ∙ reached w.from (ungiven_of w.sp) (s.number / 60) until here
    where
      reached : (a b c : ℕ) → a + 0 ≡ b → a ≡ c → b ≡ c
      reached a b c x y = omega (arith, x, y)

  module _ (entered : Entered) (told : IsToldSo o.found (with_standing e.which Out (before o done s n waits fewer e k out unfound next_ begun minutes U X Z w m)) e entered U X) where
    abbrev u : UnitView
    u = unit_view o.found.card_a.number o.found.card_b.number told.found.unit_image

    abbrev v : CardView
    v = own_view told.found.card_image

    meets : Meets e.which st AnyKept (all book) (w.standing e.which) u v
    meets = ((was o done s n waits fewer e k out unfound next_ begun minutes U X Z w m).mine told.valid).rule.dark.meets u v (told.found.unit_image, told.found.on, refl) (told.found.card_image, told.found.there, refl)

    -- its unit has all of them
    up-all : up_to u.last (all book) ≡ all book
    up-all =
        let unit = (was o done s n waits fewer e k out unfound next_ begun minutes U X Z w m).unit in
        let is : all book ≡ book.sure = all-none book unit.none in
        let low = ((unit.unit.unit_holds o.found.card_a.number o.found.card_b.number).now u (told.found.unit_image, told.found.on, refl)).sure in
        up_to-whole u.last (all book) (subst (All (λ (i : HistoryMinute). i.minute ≤ u.last)) (sym is) low)

    owed-by : owed e.which u v ≡ filter (λ (x : Entry). nat_lt v.mark x.minute) (st.owed ++ card_history e.which (all book))
    owed-by =
        sym (later-ones v.mark meets.more (owed e.which u v) (all-back (λ (d : Entry). d.minute ≤ v.mark) st.entries meets.more meets.had) (owed-above e.which u v))
        ∙ ap (λ (es : List Entry). filter (λ (x : Entry). nat_lt v.mark x.minute) es) (meets.whole ∙ ap (λ (is : List HistoryMinute). st.owed ++ card_history e.which is) up-all)

    -- ---- why

    -- a mark of the card is of a minute that it has
    marked-low : (minute : ℕ) → IsMarked out.marks.items (device_of e.which) minute → minute ≤ v.mark
    marked-low minute is =
        let marks : CardMarksHold (found_of o.found e.which) e.which book out.marks.items X =
        mine e.which U X Z (λ (q : State). CardMarksHold (found_of o.found e.which) e.which book out.marks.items q) (w.powered.lit.marks e.which) in
        let mark = mark-of (device_of e.which) out.marks.items minute is in
        let hold = All-contains (IsCardHeld (found_of o.found e.which) e.which book X) (marks_of (device_of e.which) out.marks.items) mark.0 marks.held mark.1 in
        let same = mark.2 in
        let low = hold.holds.1 v (told.found.card_image, coherent.counts_now mark.0.clock told.found.card_image hold.holds.0 told.found.there, refl) in
        omega (arith, low, same)

    abbrev IsBehind : ℕ → Type 0
    IsBehind minute = IsPulledBefore (rule_of o) told_so_far s.number w.b.span e.which minute ⊎ IsPulledHere (rule_of o) (went w.b.run.log done).before s w.b.span n e.which minute

    -- a minute that was decided before this second,
    old-behind : (i : HistoryMinute) (x : Entry) → Contains w.b.run.book.sure i → Contains (on_card e.which i) x → (IsMarked out.marks.items (device_of e.which) i.minute → ⊥) → IsBehind i.minute
    old-behind i x in_ on_ unmarked =
        let follows = w.began.followed.follows in
        let there : Contains (unit_history (rule_of o) (start_at o) w.b.run.log told_so_far) i =
        subst (λ (is : List HistoryMinute). Contains is i) (sym follows.front.1)
        (Contains-append_left (all w.b.run.book) follows.front.0 i (Contains-append_left w.b.run.book.sure (option_to_list w.b.run.book.maybe) i in_)) in
        let from_ = unit-decided (rule_of o) (start_at o) w.b.run.log told_so_far i there in
        ⊎_elim
        (λ (is : IsMarked w.b.marks (device_of e.which) i.minute). absurd (unmarked (is.0, w.stay is.0 is.1, is.2, is.3)))
        (λ broken. ⊎_elim
        (λ failed. absurd (no-failure w.b.run.log none.0 (deciding_of (rule_of o) (settlings_of from_.span) i.minute) failed))
        (λ torn. ⊎_elim
        (λ out_. absurd (none-torn w.b.run.log told_so_far none.1 w.began.caused.caused.failed_tears torn.0 torn.4.0 torn.1 out_))
        (λ pulled. inl (record {
          t = torn.0;
          there = torn.1;
          behind = torn.2;
          before = inl (record { span = from_.span; among = from_.among; d = from_.decided; within = from_.within; same = from_.same; late = torn.3 });
          pulled = (torn.4.0, torn.4.1, pulled);
        }))
        torn.4.2)
        broken)
        (w.began.complete.card from_.span from_.decided i e.which x from_.among from_.within there (sym from_.same) on_)

    -- and one that is decided in it
    new-low : (i : HistoryMinute) → Contains w.new i → ungiven_of (span_at (rule_of o) s.number w.b.span) ≤ i.minute
    new-low i in_ =
        let d = after-decided (start_at o) told_so_far w.b.run.book.sure w.ds i (subst (λ (is : List HistoryMinute). Contains is i) w.decided.seated_ in_) in
        let low = fresh-low o done s (In n) waits None [] (values_with k out unfound next_ begun minutes) (arranged e.which U X Z) w d.0 (Contains-append_left w.ds [] d.0 d.1) in
        let same = d.2 in
        omega (arith, low, same)

    abbrev here : Course
    here = course_in w.b done s (In n) (values_with k out unfound next_ begun minutes).log

    -- behind which the card was pulled out, before this second or in it
    torn-before : (i : HistoryMinute) → Contains w.new i → TornBetween told_so_far e.which (60 * (i.minute + 1)) s.number → IsBehind i.minute
    torn-before i in_ torn = ⊎_elim
        (λ (out_ : Contains torn.0.course.torn torn.4.0). absurd (none-torn w.b.run.log told_so_far none.1 w.began.caused.caused.failed_tears torn.0 torn.4.0 torn.1 out_))
        (λ (pulled : Contains torn.0.course.pulled torn.4.0). inl (record { t = torn.0; there = torn.1; behind = torn.2; before = inr (new-low i in_); pulled = (torn.4.0, torn.4.1, pulled) }))
        torn.4.2

    none-now : (y : Visit) → Contains here.torn y → ⊥
    none-now y torn =
        none-torn-in s.number w.moment.breaks here.torn (tears-none w.b.run.log w.moment.breaks (subst (λ (bs : List Break). NothingFailed (record w.b.run.log { breaks = bs })) w.moment.breaks_are nothing)) w.moment.failed_tears y torn

    torn-now : (i : HistoryMinute) → Contains w.new i → 60 * (i.minute + 1) ≤ s.number → (y : Visit) → y.card ≡ e.which → Contains here.torn y ⊎ Contains here.pulled y → IsBehind i.minute
    torn-now i in_ over y own out_ = ⊎_elim
        (λ (torn : Contains here.torn y). absurd (none-now y torn))
        (λ (pulled : Contains here.pulled y). inr (record {
          behind = over;
          decides = new-low i in_;
          pulled = (y, own, pulled-alone (values_with k out unfound next_ begun minutes).log (went w.b.run.log done).before s n w.moment.is w.moment.up_to.uncut none-now y pulled);
        }))
        out_

    new-behind : (i : HistoryMinute) (x : Entry) → Contains w.new i → Contains (on_card e.which i) x → (IsMarked out.marks.items (device_of e.which) i.minute → ⊥) → IsBehind i.minute
    new-behind i x in_ on_ unmarked = ⊎_elim
        (λ (is : IsMarked out.marks.items (device_of e.which) i.minute). absurd (unmarked is))
        (λ (broken : BrokenSince told_so_far here e.which (60 * (i.minute + 1)) s.number). ⊎_elim
        (λ (torn : TornBetween told_so_far e.which (60 * (i.minute + 1)) s.number). torn-before i in_ torn)
        (λ (now : (60 * (i.minute + 1) ≤ s.number) × ((y : Visit) × (y.card ≡ e.which) × (Contains here.torn y ⊎ Contains here.pulled y))). torn-now i in_ now.0 now.1.0 now.1.1 now.1.2)
        broken)
        (w.marked.card i e.which x in_ on_)

    -- what is owed of a minute that has come since
    said-behind : (x : Entry) → v.mark < x.minute → Contains (card_history e.which (all book)) x → IsBehind x.minute
    said-behind x late at =
        let i = said-on e.which (all book) x at in
        let minute : x.minute ≡ i.0.minute = All-contains (λ (y : Entry). y.minute ≡ i.0.minute) (on_card e.which i.0) x (on_card-minute e.which i.0) i.2 in
        let unmarked : IsMarked out.marks.items (device_of e.which) i.0.minute → ⊥ = λ (is : IsMarked out.marks.items (device_of e.which) i.0.minute). let low = marked-low i.0.minute is in omega (arith, low, late, minute) in
        subst IsBehind (sym minute) (⊎_elim
        (λ old. old-behind i.0 x old i.2 unmarked)
        (λ new. new-behind i.0 x new i.2 unmarked)
        (Contains-append_cases w.b.run.book.sure w.new i.0 (subst (λ (is : List HistoryMinute). Contains is i.0) (sym (past-is o done s n waits fewer e k out unfound next_ begun minutes U X Z w m coherent)) i.1)))

    all-behind : All (λ (x : Entry). Contains (brought o.recording e.which).owed x ⊎ IsBehind x.minute) entered.owed.items
    all-behind = all-by (λ (x : Entry). Contains (brought o.recording e.which).owed x ⊎ IsBehind x.minute) entered.owed.items (λ x at.
        let there : Contains (owed e.which u v) x = subst (λ (es : List Entry). Contains es x) (sym told.found.owes) at in
        let late : v.mark < x.minute = All-contains (λ (y : Entry). v.mark < y.minute) (owed e.which u v) x (owed-above e.which u v) there in
        ⊎_elim
        (λ start. inl (subst (λ (t : CardStart). Contains t.owed x) (m.origin.start e.which) start))
        (λ said. inr (said-behind x late said))
        (Contains-append_cases st.owed (card_history e.which (all book)) x
        (subst (λ (es : List Entry). Contains es x) (meets.whole ∙ ap (λ (is : List HistoryMinute). st.owed ++ card_history e.which is) up-all) (Contains-append_right meets.more (owed e.which u v) x there))))

    -- the line by which it is accepted, at a moment
    abbrev line_at : Moment → Find
    line_at at = record { second = at.second; slot = e.slot; verdict = Accepted entered.replayed; begun = at.begun }

    -- THESE ARE OWED
    owed-now : IsOwed (rule_of o) (start_at o) w.b.run.log (done ++ s ∷ []) e.which (brought o.recording e.which).owed (line_at (record { second = s.number; begun = n; late = false })) (own_view told.found.card_image).mark entered.owed.items
    owed-now =
        let f = followed-lit o done s (In n) waits None [] (values_with k out unfound next_ begun minutes) (arranged e.which U X Z) w in
        record {
          at = record {
            front = done;
            s = s;
            later = [];
            are = refl;
            number = refl;
            earlier = f.ended;
            span = w.b.span;
            spans = f.spans;
            begins = sym (lit-starts w.b.span (went w.b.run.log done).before w.b.run.next f.power) ∙ ap not (runs-told w.b.run.log done);
            times = w.decided.times;
            decided = all-decided;
          };
          are = sym told.found.owes
              ∙ owed-by
              ∙ ap (λ (t : CardStart). filter (λ (x : Entry). nat_lt v.mark x.minute) (t.owed ++ card_history e.which (all book))) (m.origin.start e.which)
              ∙ ap (λ (is : List HistoryMinute). filter (λ (x : Entry). nat_lt v.mark x.minute) ((brought o.recording e.which).owed ++ card_history e.which is))
              (sym (past-is o done s n waits fewer e k out unfound next_ begun minutes U X Z w m coherent) ∙ past-so);
          behind = all-behind;
        }

    -- by the end mark of an image that the card may have left
    pub owed-told : (y : List ℕ) × X.may_leave y × IsOwed (rule_of o) (start_at o) w.b.run.log (done ++ s ∷ []) e.which (brought o.recording e.which).owed (find_of e (Accepted entered.replayed)) (mark_of (book_of (own_sizes (found_of o.found e.which).image) y)) entered.owed.items
    owed-told = (
      told.found.card_image,
      told.found.there,
      subst (λ (at : Moment). IsOwed (rule_of o) (start_at o) w.b.run.log (done ++ s ∷ []) e.which (brought o.recording e.which).owed (line_at at) (mark_of (book_of (own_sizes (found_of o.found e.which).image) told.found.card_image)) entered.owed.items)
          (sym m.moment)
          (subst (λ (mark : ℕ). IsOwed (rule_of o) (start_at o) w.b.run.log (done ++ s ∷ []) e.which (brought o.recording e.which).owed (line_at (record { second = s.number; begun = n; late = false })) mark entered.owed.items)
          (ap (λ (q : CardView). q.mark) (own-is (own_sizes (found_of o.found e.which).image) told.found.card_image told.found.sizes) ∙ mark-own (own_sizes (found_of o.found e.which).image) told.found.card_image) owed-now),
    )
