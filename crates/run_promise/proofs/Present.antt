-- What the history says on a card is later than the card's end mark and its words at the start, and so is what is owed to it there.
use Rattle.std.proofs.Common.{◌≡◌, ℕ, zero, suc, ◌/◌, max, ◌<◌, Bool, true, false, not, cond, Option, Some, None, List, [], ◌∷◌, ◌++◌, All, refl, ap, subst, ◌∙◌, sym, arith, filter, nat_le, nat_lt}
use Rattle.std.specs.Prelude.{◌&&◌, option_to_list, option_map, unwrap_or}
use Rattle.std.specs.List.{list_any}
use Rattle.std.proofs.lemmas.Bool.Decides.{nat_tests}
use Rattle.std.proofs.lemmas.List.Elements.{All-nil, All-cons, All-head, All-tail, All-append, All-weaker, All-map, All-filter, filter_passes}
use Rattle.run_course.specs.activity_codec.declared.entries.Entry.{Entry}
use Rattle.run_course.specs.activity_codec.declared.values.Slot.{Slot}
use Rattle.run_course.specs.activity_codec.declared.values.Slot.TheVariants.{Driver, CoDriver}
use Rattle.run_course.specs.trace_model.declared.Card.{Card}
use Rattle.run_course.specs.trace_model.declared.Card.TheVariants.{A, B}
use Rattle.run_course.specs.minute_model.declared.Rule.{Rule}
use Rattle.run_course.specs.minute_model.declared.Minute.{Minute}
use Rattle.run_course.specs.minute_model.Activity.{last}
use Rattle.run_course.specs.log_model.Log.{RunLog}
use Rattle.run_course.specs.log_model.Slots.{Sitting, same_card, in_slot}
use Rattle.run_course.specs.log_model.Course.{ToldSecond}
use Rattle.run_course.specs.log_model.Spans.{spans_of}
use Rattle.run_course.specs.history_model.Minutes.{HistoryMinute, Seat, card_history, on_card, entry_in, is_crew}
use Rattle.run_course.specs.history_model.Presence.{Start, CardStart, card_start, newest_minute, is_present, present_sitting, in_minute, present_in}
use Rattle.run_course.specs.history_model.History.{seated, minutes_after, span_minutes, decided_of, limited_to, history_by, limit_of, unit_history}
use Rattle.run_course.proofs.history_model.Books.{history-append, history-one, history-none}
use Rattle.run_course.proofs.history_model.Filters.{all-one}
use Rattle.unit_rule.specs.device_rule.View.{CardView}
use Rattle.unit_rule.specs.device_rule.Views.{UnitView, row, owed, owed_in, counts, is_session, beyond}
use Rattle.unit_rule.proofs.device_rule.Owing.{owed-closed}

-- later than both
abbrev pub bound : CardStart → ℕ
bound start = max start.mark start.word

both : (b c : Bool) → (b && c) ≡ true → b ≡ true
both true c is = refl
both false c is = is

less : (m n : ℕ) → nat_lt m n ≡ true → m < n
less m n is = grind (arith, nat_tests)

newest-bound : (start : Start) (past : List HistoryMinute) (c : Card) (u m : ℕ) → newest_minute start past c u < m → bound (card_start start c) < m
unfolding newest_minute
newest-bound start past c u m h = omega (arith, h)

present-bound : (start : Start) (past : List HistoryMinute) (m : ℕ) (ts : List ToldSecond) (c : Card) (at : Option ℕ) → is_present start past m ts c at ≡ true → bound (card_start start c) < m
present-bound start past m ts c None is = cc
present-bound start past m ts c (Some u) is = newest-bound start past c u m (less (newest_minute start past c u) m (both (nat_lt (newest_minute start past c u) m) (not (list_any (λ t. list_any (same_card c) t.course.left) ts)) is))

sitting-bound : (start : Start) (past : List HistoryMinute) (m : ℕ) (ts : List ToldSecond) (s : Option Sitting) (c : Card) → present_sitting start past m ts s ≡ Some c → bound (card_start start c) < m
sitting-bound start past m ts None c is = cc
sitting-bound start past m ts (Some sitting) c is = go (is_present start past m ts sitting.card sitting.accepted) refl is
  where
    go : (b : Bool) → is_present start past m ts sitting.card sitting.accepted ≡ b → cond b (Some sitting.card) None ≡ Some c → bound (card_start start c) < m
    go true passes same = let card : sitting.card ≡ c = cc in subst (λ (d : Card). bound (card_start start d) < m) card (present-bound start past m ts sitting.card sitting.accepted passes)
    go false fails same = cc

seat-bound : (start : Start) (told : List ToldSecond) (past : List HistoryMinute) (m : ℕ) (slot : Slot) (c : Card) → present_in start told past m slot ≡ Some c → bound (card_start start c) < m
unfolding present_in
seat-bound start told past m slot c is = sitting-bound start past m (in_minute m told) (unwrap_or (option_map {T = ToldSecond} (λ t. in_slot t.course.slots slot) (last (in_minute m told))) None) c is

same-is : (c d : Card) → same_card c d ≡ true → d ≡ c
same-is A A is = refl
same-is A B is = cc
same-is B A is = cc
same-is B B is = refl

-- what a minute says on a card comes where the card may be present
entry-bound : (start : Start) (told : List ToldSecond) (past : List HistoryMinute) (m : ℕ) (slot at : Slot) (c : Card) (i : HistoryMinute) (seat : Seat) → i.minute ≡ m → seat.card ≡ present_in start told past m at → All (λ e. bound (card_start start c) < e.minute) (entry_in c slot i seat)
entry-bound start told past m slot at c i seat minute is =
    All-map (λ (e : Entry). bound (card_start start c) < e.minute) (λ (d : Card). record { minute = i.minute; slot = slot; crew = is_crew i; act = seat.act }) (filter (same_card c) (option_to_list seat.card))
    (go seat.card is)
  where
    go : (o : Option Card) → o ≡ present_in start told past m at → All (λ (d : Card). bound (card_start start c) < i.minute) (filter (same_card c) (option_to_list o))
    go None none = All-nil (λ (d : Card). bound (card_start start c) < i.minute)
    go (Some d) some = one (same_card c d) refl
      where
        one : (b : Bool) → same_card c d ≡ b → All (λ (d : Card). bound (card_start start c) < i.minute) (cond b (d ∷ []) [])
        one true passes = all-one (λ (d : Card). bound (card_start start c) < i.minute) d
            (let h : bound (card_start start c) < m = seat-bound start told past m at c (sym some ∙ ap (λ (e : Card). Some e) (same-is c d passes)) in omega (arith, h, minute))
        one false fails = All-nil (λ (d : Card). bound (card_start start c) < i.minute)

abbrev Later : Start → Card → HistoryMinute → Type 0
Later start c i = All (λ e. bound (card_start start c) < e.minute) (on_card c i)

seated-later : (start : Start) (told : List ToldSecond) (past : List HistoryMinute) (d : Minute) (c : Card) → Later start c (seated start told past d)
seated-later start told past d c =
    let i : HistoryMinute = seated start told past d in
    All-append (λ (e : Entry). bound (card_start start c) < e.minute) (entry_in c Driver i i.driver) (entry_in c CoDriver i i.codriver)
    (entry-bound start told past d.minute Driver Driver c i i.driver refl refl) (entry-bound start told past d.minute CoDriver CoDriver c i i.codriver refl refl)

minutes-later : (start : Start) (told : List ToldSecond) (past : List HistoryMinute) (ds : List Minute) (c : Card) → All (Later start c) (minutes_after start told past ds)
minutes-later start told past [] c = All-nil (Later start c)
minutes-later start told past (d ∷ ds) c =
    All-cons (Later start c) (seated start told past d) (minutes_after start told (past ++ seated start told past d ∷ []) ds) (seated-later start told past d c) (minutes-later start told (past ++ seated start told past d ∷ []) ds c)

limited-later : (start : Start) (c : Card) (o : Option ℕ) (past : List HistoryMinute) → All (Later start c) past → All (Later start c) (limited_to o past)
limited-later start c None past each = each
limited-later start c (Some k) past each = All-filter (λ (i : HistoryMinute). nat_le i.minute k) (Later start c) past each

spans-later : (rule : Rule) (start : Start) (limit : List ToldSecond → List (List ToldSecond) → Option ℕ) (told : List ToldSecond) (past : List HistoryMinute) (spans : List (List ToldSecond)) (c : Card) → All (Later start c) (history_by rule start limit told past spans)
spans-later rule start limit told past [] c = All-nil (Later start c)
spans-later rule start limit told past (span ∷ later) c =
    let more : List HistoryMinute = limited_to (limit span later) (span_minutes rule start told past span) in
    All-append (Later start c) more (history_by rule start limit told (past ++ more) later)
    (limited-later start c (limit span later) (span_minutes rule start told past span) (minutes-later start told past (decided_of rule span) c))
    (spans-later rule start limit told (past ++ more) later c)

all-later : (start : Start) (c : Card) (past : List HistoryMinute) → All (Later start c) past → All (λ e. bound (card_start start c) < e.minute) (card_history c past)
all-later start c [] each = subst (All (λ (e : Entry). bound (card_start start c) < e.minute)) (sym (history-none c)) (All-nil (λ (e : Entry). bound (card_start start c) < e.minute))
all-later start c (i ∷ past) each = subst (All (λ (e : Entry). bound (card_start start c) < e.minute)) (sym (history-append c (i ∷ []) past ∙ ap (λ (zs : List Entry). zs ++ card_history c past) (history-one c i)))
    (All-append (λ (e : Entry). bound (card_start start c) < e.minute) (on_card c i) (card_history c past) (All-head (Later start c) i past each) (all-later start c past (All-tail (Later start c) i past each)))

-- THE HISTORY: all that it says on a card is later than the card's end mark and its words at the start
pub history-later : (rule : Rule) (start : Start) (log : RunLog) (told : List ToldSecond) (c : Card) → All (λ e. bound (card_start start c) < e.minute) (card_history c (unit_history rule start log told))
unfolding unit_history
history-later rule start log told c = all-later start c (history_by rule start (limit_of log) told [] (spans_of told)) (spans-later rule start (limit_of log) told [] (spans_of told) c)

counted-late : (from mark last m : ℕ) → counts from mark last m ≡ true → (0 < m) × (mark < m)
counted-late from mark last m is = (grind (arith, nat_tests), grind (arith, nat_tests))

-- and what is owed to a card is later than its words, where these count
pub owed-beyond : (c : Card) (u : UnitView) (x : CardView) → All (λ e. beyond x < e.minute) (owed c u x)
owed-beyond c u x = go x.session
  where
    go : (s : ℕ) → All (λ e. cond (nat_lt 0 s) 0 x.word < e.minute) (owed_in (row c u) u.last s x.mark)
    go zero = subst (All (λ (e : Entry). cond (nat_lt 0 0) 0 x.word < e.minute)) (sym (owed-closed (row c u) u.last x.mark)) (All-nil (λ (e : Entry). cond (nat_lt 0 0) 0 x.word < e.minute))
    go (suc s) = by (is_session (row c u).session (suc s))
      where
        open_ : (s : ℕ) → cond (nat_lt 0 (suc s)) 0 x.word ≡ 0
        open_ s = let h : nat_lt 0 (suc s) ≡ true = (let pos : 0 < suc s = omega arith in grind (arith, nat_tests, pos)) in ap (λ (b : Bool). cond b 0 x.word) h

        by : (b : Bool) → All (λ e. cond (nat_lt 0 (suc s)) 0 x.word < e.minute) (cond b (filter (λ e. counts (suc s / 60) x.mark u.last e.minute) (row c u).cells) [])
        by true = All-weaker (λ (e : Entry). counts (suc s / 60) x.mark u.last e.minute ≡ true) (λ e. cond (nat_lt 0 (suc s)) 0 x.word < e.minute)
            (λ e is. omega (arith, open_ s, (counted-late (suc s / 60) x.mark u.last e.minute is).0))
            (filter (λ e. counts (suc s / 60) x.mark u.last e.minute) (row c u).cells) (filter_passes (λ (e : Entry). counts (suc s / 60) x.mark u.last e.minute) (row c u).cells)
        by false = All-nil (λ (e : Entry). cond (nat_lt 0 (suc s)) 0 x.word < e.minute)
