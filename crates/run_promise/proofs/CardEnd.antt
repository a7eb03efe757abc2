-- What is carried of a card gives its part of the theorem.
use Rattle.std.proofs.Common.{◌≡◌, ⊎_elim, ℕ, suc, max, ◌<◌, ◌≤◌, Bool, true, false, List, [], ◌++◌, All, Contains, refl, ap, subst, ◌∙◌, sym, arith, nat_le, append_assoc}
use Rattle.std.specs.Prelude.{option_to_list}
use Rattle.std.proofs.lemmas.Bool.Decides.{nat_tests}
use Rattle.std.proofs.lemmas.List.{append-nil}
use Rattle.std.proofs.lemmas.List.Elements.{All-nil, All-weaker, All-append, All-contains, filter-append, Contains-append_left, Contains-append_right, Contains-append_cases}
use Rattle.run_course.specs.activity_codec.declared.entries.Entry.{Entry}
use Rattle.run_course.specs.trace_model.declared.Card.{Card}
use Rattle.run_course.specs.trace_model.declared.Card.TheVariants.{A, B}
use Rattle.tach_media.specs.Medium.{State, IsCoherent}
use Rattle.run_course.specs.log_model.declared.lines.Mark.{Mark}
use Rattle.run_course.specs.log_model.Causes.{device_of}
use Rattle.unit_rule.specs.unit_model.Image.{last_kept}
use Rattle.unit_rule.specs.card_model.Days.{AreDays}
use Rattle.unit_rule.specs.card_retention.Retains.{Rise}
use Rattle.unit_rule.specs.device_rule.Fields.{card_days}
use Rattle.unit_rule.specs.device_rule.Own.{own_view, own_sizes, own_number, KeepsFrom, KeepsOf}
use Rattle.run_course.specs.history_model.Minutes.{HistoryMinute, card_history, up_to}
use Rattle.run_course.specs.history_model.Presence.{CardStart, card_start}
use Rattle.run_course.specs.history_model.Book.{Book, all}
use Rattle.run_course.proofs.history_model.Books.{history-append, up_to-all, up_to-one}
use Rattle.run_course.proofs.history_model.Filters.{filter-none, all-front, all-back}
use Rattle.unit_rule.specs.device_rule.Views.{UnitView, owed, newest_with}
use Rattle.unit_rule.specs.device_rule.Device.{Seen}
use Rattle.unit_rule.specs.device_rule.Rules.{Standing, since, comes_from, Meets, Had, CardDark, IsRepaired as OwesLater}
use Rattle.unit_rule.specs.device_rule.Marked.{of_card}
use Rattle.unit_rule.proofs.device_rule.Pairs.{owed-above}
use Rattle.unit_rule.proofs.device_rule.Holding.{rise-back}
use Rattle.unit_rule.proofs.device_rule.Repairing.{repaired-holds}
use Rattle.unit_rule.proofs.device_rule.Overwriting.{owed-entries_count}
use Rattle.unit_rule.specs.hand_model.Written.{Hands, IsPartOf}
use Rattle.unit_rule.proofs.card_string.Kept.{keeps_more}
use Rattle.unit_rule.specs.safety_model.Hands.{hands_done}
use Rattle.unit_rule.specs.Recording.{Recording, card_image, brought, start_of, history_of, expected_of, told_of, unit_seen}
use Rattle.unit_rule.specs.Unit.{marks_of}
use Rattle.unit_rule.specs.Cards.{CardShows, CardMarkHolds, acceptances, was_kept, IsRepaired, expected_to}
use Rattle.run_promise.specs.Found.{CardFound, AnyKept, registration_of}
use Rattle.run_promise.specs.Cards.{brought_by, counted_to, StringHolds, StringGoesOn, IsCardHeld}
use Rattle.run_promise.specs.Between.{AreBrought}
use Rattle.run_promise.proofs.Entries.{all-by, rise-front, counted-front, counted-split, contains-counted}
use Rattle.run_promise.proofs.Behind.{said-by}
use Rattle.run_promise.proofs.Present.{bound, history-later, owed-beyond}

-- what the opening of a run finds of a card
abbrev pub at_start : Recording → Card → ℕ → CardFound
at_start r c clock = record { image = card_image r c; start = brought r c; number = own_number (card_image r c); began = clock; vehicle = registration_of r.unit }

pub started : (r : Recording) (c : Card) → card_start (start_of r) c ≡ brought r c
started r A = refl
started r B = refl

is-false : (b : Bool) → (b ≡ true → ⊥) → b ≡ false
is-false true fails = absurd (fails refl)
is-false false fails = refl

beyond_it : (k m : ℕ) → k < m → nat_le m k ≡ false
beyond_it k m h = grind (arith, nat_tests)

module _ (r : Recording) (c : Card) (clock : ℕ) (h : Hands) (given : IsPartOf h.given (hands_done r c)) (b : Book) (card : State) (rest : List HistoryMinute) (whole : history_of r ≡ all b ++ rest) (string : StringHolds (at_start r c clock) h c b card) where
  abbrev entries : List Entry
  entries = (brought r c).entries

  abbrev owes : List Entry
  owes = (brought r c).owed

  abbrev lies : List Entry
  lies = brought_by c (brought r c) b

  abbrev maybe : List HistoryMinute
  maybe = option_to_list b.maybe

  parts : lies ≡ (owes ++ card_history c b.sure) ++ card_history c maybe
  parts = ap (λ (es : List Entry). owes ++ es) (history-append c b.sure maybe) ∙ sym (append_assoc owes (card_history c b.sure) (card_history c maybe))

  -- what it is to have beside the entries at the start
  further : owes ++ card_history c (history_of r) ≡ lies ++ card_history c rest
  further = ap (λ (is : List HistoryMinute). owes ++ card_history c is) whole ∙ ap (λ (es : List Entry). owes ++ es) (history-append c (all b) rest) ∙ sym (append_assoc owes (card_history c (all b)) (card_history c rest))

  expected : expected_of r c ≡ entries ++ (lies ++ card_history c rest)
  expected = ap (λ (start : CardStart). start.entries ++ (start.owed ++ card_history c (history_of r))) (started r c) ∙ ap (λ (es : List Entry). entries ++ es) further

  sure-lies : (e : Entry) → Contains (owes ++ card_history c b.sure) e → Contains lies e
  sure-lies e at = subst (λ (zs : List Entry). Contains zs e) (sym parts) (Contains-append_left (owes ++ card_history c b.sure) (card_history c maybe) e at)

  -- what an image shows: the counted ones in front, and behind them those that are later than its end mark
  pub shows : (x : List ℕ) → card.left_since clock x → (s : CardShows r c x) × (s.more ≡ counted_to (own_view x).mark lies)
      × ((tail : List Entry) × (s.rest ≡ tail ++ card_history c rest) × (lies ≡ counted_to (own_view x).mark lies ++ tail) × All (λ e. (own_view x).mark < e.minute) tail)
  shows x left =
      let k = counted-split (own_view x).mark lies string.rises in (
        record {
          more = counted_to (own_view x).mark lies;
          rest = k.0 ++ card_history c rest;
          whole = expected ∙ ap (λ (es : List Entry). entries ++ es) (ap (λ (zs : List Entry). zs ++ card_history c rest) k.1 ∙ append_assoc (counted_to (own_view x).mark lies) k.0 (card_history c rest));
          kept = keeps_more (card_image r c) h.given (hands_done r c) given (entries ++ counted_to (own_view x).mark lies) (own_view x).held (string.kept x left);
        },
        refl,
        (k.0, refl, k.1, k.2),
      )

  -- an acknowledged minute
  pub marked : IsCoherent card → (m : Mark) → IsCardHeld (at_start r c clock) c b card m → CardMarkHolds r c card m
  marked coherent m held = record {
    e = held.sure.0;
    minute = held.sure.2;
    stands = subst (λ (zs : List Entry). Contains zs held.sure.0) (sym further) (Contains-append_left lies (card_history c rest) held.sure.0 (sure-lies held.sure.0 held.sure.1));
    clock = held.holds.0;
    prompt = held.prompt;
    stood = held.stood;
    shown = λ x left.
        let s = shows x (coherent.earlier clock m.clock x held.began held.holds.0 left) in
        let low : m.minute ≤ (own_view x).mark = held.holds.1 (own_view x) (x, left, refl) in (
          s.0,
          Contains-append_right entries s.0.more held.sure.0 (subst (λ (zs : List Entry). Contains zs held.sure.0) (sym s.1)
              (contains-counted (own_view x).mark lies held.sure.0 (omega (arith, held.sure.2, low)) (sure-lies held.sure.0 held.sure.1))),
        );
  }

  -- REPAIR
  module _ (z : Standing) (ks : List ℕ) (U : Seen UnitView) (rests : CardDark c (brought r c) AnyKept clock b z U (of_card card)) (since : (k : ℕ) → Contains ks k → OwesLater c k U (of_card card))
      (u : UnitView) (on : U.may_leave u) (sure : All (λ i. i.minute ≤ u.last) b.sure) (each : AreBrought r c b ks) (x : List ℕ) (there : card.may_leave x) where
    -- of what is not sure nothing was kept by then
    not-sure : (at : ℕ) → Contains (acceptances r c) at → (e : Entry) → Contains (card_history c (maybe ++ rest)) e → was_kept r c at e.minute ≡ false
    not-sure at accepted e in_ = All-contains (λ (d : Entry). was_kept r c at d.minute ≡ false) (card_history c (maybe ++ rest)) e ((each at accepted).1 (maybe ++ rest) (whole ∙ append_assoc b.sure maybe rest)) in_

    seen-by : (e : Entry) → Contains (owes ++ card_history c b.sure) e → Contains (owes ++ card_history c (up_to u.last (all b))) e
    seen-by e at = subst (λ (zs : List Entry). Contains zs e)
        (append_assoc owes (card_history c b.sure) (card_history c (up_to u.last maybe)) ∙ ap (λ (es : List Entry). owes ++ es) (sym (history-append c b.sure (up_to u.last maybe)) ∙ ap (card_history c) (sym (up_to-all b u.last sure))))
        (Contains-append_left (owes ++ card_history c b.sure) (card_history c (up_to u.last maybe)) e at)

    -- what was kept by then is on the card
    on-card : (k : ℕ) → Contains ks k → (e : Entry) → Contains (owes ++ card_history c b.sure) e → e.minute ≤ k → e.minute ≤ (own_view x).mark
    on-card k in_ e at le =
        let m : Meets c (brought r c) AnyKept (all b) z u (own_view x) = rests.meets u (own_view x) on (x, there, refl) in
        All-contains (λ (d : Entry). d.minute ≤ (own_view x).mark) (entries ++ m.more) e m.had
        (Contains-append_right entries m.more e (repaired-holds c (brought r c) AnyKept k (all b) z U (of_card card) e (since k in_) u (own_view x) on (x, there, refl) m (seen-by e at) le))

    later-false : (at : ℕ) → Contains (acceptances r c) at → (e : Entry) → (own_view x).mark < e.minute → Contains lies e → was_kept r c at e.minute ≡ false
    later-false at accepted e late in_ = ⊎_elim
        (λ held. is-false (was_kept r c at e.minute) (λ passes.
        let kept = (each at accepted).0 in
        let le : e.minute ≤ kept.0 = All-contains (λ (d : Entry). was_kept r c at d.minute ≡ true → d.minute ≤ kept.0) (owes ++ card_history c b.sure) e kept.2 held passes in
        let low : e.minute ≤ (own_view x).mark = on-card kept.0 kept.1 e held le in omega (arith, late, low)))
        (λ one. not-sure at accepted e (subst (λ (zs : List Entry). Contains zs e) (sym (history-append c maybe rest)) (Contains-append_left (card_history c maybe) (card_history c rest) e one)))
        (Contains-append_cases (owes ++ card_history c b.sure) (card_history c maybe) e (subst (λ (zs : List Entry). Contains zs e) parts in_))

    module _ (above : (i : HistoryMinute) → Contains (history_of r) i → last_kept r.unit < i.minute) (until : All (λ e. e.minute ≤ last_kept r.unit) (brought r c).owed) where
      of-history : (is : List HistoryMinute) → ((i : HistoryMinute) → Contains is i → Contains (history_of r) i) → (e : Entry) → Contains (card_history c is) e → last_kept r.unit < e.minute
      of-history is within e in_ = let one = said-by r c is e in_ in let lt = above one.0 (within one.0 one.1) in omega (arith, lt, one.2.0)

      -- what was owed at the start was brought by the first acceptance
      beyond-start : (at : ℕ) → Contains (acceptances r c) at → (e : Entry) → (own_view x).mark < e.minute → Contains lies e → last_kept r.unit < e.minute
      beyond-start at accepted e late in_ = ⊎_elim
          (λ owed_one. absurd (
          let kept = (each at accepted).0 in
          let low : e.minute ≤ last_kept r.unit = All-contains (λ (d : Entry). d.minute ≤ last_kept r.unit) owes e until owed_one in
          let first = kept.3 in
          let le = on-card kept.0 kept.1 e (Contains-append_left owes (card_history c b.sure) e owed_one) (omega (arith, low, first)) in
          omega (arith, late, le)))
          (λ said. of-history (all b) (λ i at_. subst (λ (is : List HistoryMinute). Contains is i) (sym whole) (Contains-append_left (all b) rest i at_)) e said)
          (Contains-append_cases owes (card_history c (all b)) e in_)

      beyond-book : (e : Entry) → Contains (card_history c rest) e → last_kept r.unit < e.minute
      beyond-book e said = of-history rest (λ i at_. subst (λ (is : List HistoryMinute). Contains is i) (sym whole) (Contains-append_right (all b) rest i at_)) e said

    -- what was acknowledged is on the card, and behind it comes nothing earlier
    module _ (first : last_kept r.unit ≤ u.last) (until : All (λ e. e.minute ≤ last_kept r.unit) (brought r c).owed) (later : All (λ i. u.last < i.minute) rest) (coherent : IsCoherent card) (m : Mark)
        (held : IsCardHeld (at_start r c clock) c b card m) where
      counted-low : m.minute ≤ (own_view x).mark
      counted-low = held.holds.1 (own_view x) (x, coherent.counts_now m.clock x held.holds.0 there, refl)

      kept-low : m.minute ≤ u.last
      kept-low =
          let same = held.sure.2 in
          ⊎_elim
          (λ owed_one. let le : held.sure.0.minute ≤ last_kept r.unit = All-contains (λ (d : Entry). d.minute ≤ last_kept r.unit) owes held.sure.0 until owed_one in omega (arith, le, first, same))
          (λ said.
          let one = said-by r c b.sure held.sure.0 said in
          let le : one.0.minute ≤ u.last = All-contains (λ (i : HistoryMinute). i.minute ≤ u.last) b.sure one.0 sure one.1 in
          omega (arith, le, one.2.0, same))
          (Contains-append_cases owes (card_history c b.sure) held.sure.0 held.sure.1)

      beyond-mark : (e : Entry) → Contains (card_history c rest) e → m.minute < e.minute
      beyond-mark e said =
          let one = said-by r c rest e said in
          let lt : u.last < one.0.minute = All-contains (λ (i : HistoryMinute). u.last < i.minute) rest one.0 later one.1 in
          let le = kept-low in omega (arith, lt, le, one.2.0)

    pub repaired : (marks : List Mark) → All (IsCardHeld (at_start r c clock) c b card) (marks_of (device_of c) marks) → ((i : HistoryMinute) → Contains (history_of r) i → last_kept r.unit < i.minute) →
        All (λ e. e.minute ≤ last_kept r.unit) (brought r c).owed → last_kept r.unit ≤ u.last → All (λ i. u.last < i.minute) rest → IsCoherent card → IsRepaired r c marks x
    repaired marks held above until first later coherent =
        let s = shows x (coherent.counts_now clock x rests.later there) in
        let tail : List Entry = s.2.0 in
        record {
          shows = s.0;
          owes_none = λ at accepted. all-by (λ (e : Entry). last_kept r.unit < e.minute) s.0.rest (λ e in_. ⊎_elim
              (λ one. beyond-start above until at accepted e (All-contains (λ (d : Entry). (own_view x).mark < d.minute) tail e s.2.3 one)
              (subst (λ (zs : List Entry). Contains zs e) (sym s.2.2) (Contains-append_right (counted_to (own_view x).mark lies) tail e one)))
              (λ two. beyond-book above until e two)
              (Contains-append_cases tail (card_history c rest) e (subst (λ (zs : List Entry). Contains zs e) s.2.1 in_)));
          acknowledged = λ m at. let k = All-contains (IsCardHeld (at_start r c clock) c b card) (marks_of (device_of c) marks) m held at in
              all-by (λ (e : Entry). m.minute < e.minute) s.0.rest (λ e in_. ⊎_elim
              (λ one.
              let low = counted-low first until later coherent m k in
              let lt : (own_view x).mark < e.minute = All-contains (λ (d : Entry). (own_view x).mark < d.minute) tail e s.2.3 one in omega (arith, low, lt))
              (λ two. beyond-mark first until later coherent m k e two)
              (Contains-append_cases tail (card_history c rest) e (subst (λ (zs : List Entry). Contains zs e) s.2.1 in_)));
          brought = λ at accepted. all-by (λ (e : Entry). was_kept r c at e.minute ≡ false) s.0.rest (λ e in_. ⊎_elim
              (λ first. later-false at accepted e (All-contains (λ (d : Entry). (own_view x).mark < d.minute) tail e s.2.3 first)
              (subst (λ (zs : List Entry). Contains zs e) (sym s.2.2) (Contains-append_right (counted_to (own_view x).mark lies) tail e first)))
              (λ second. not-sure at accepted e (subst (λ (zs : List Entry). Contains zs e) (sym (history-append c maybe rest)) (Contains-append_right (card_history c maybe) (card_history c rest) e second)))
              (Contains-append_cases tail (card_history c rest) e (subst (λ (zs : List Entry). Contains zs e) s.2.1 in_)));
        }

  -- AGREEMENT
  late-all : All (λ e. (brought r c).word < e.minute) lies
  late-all = All-append (λ (e : Entry). (brought r c).word < e.minute) owes (card_history c (all b))
      (owed-beyond c (unit_seen r r.unit) (own_view (card_image r c)))
      (All-weaker (λ (e : Entry). bound (brought r c) < e.minute) (λ e. (brought r c).word < e.minute) (λ e h. omega (arith, h)) (card_history c (all b))
      (all-front (λ (e : Entry). bound (brought r c) < e.minute) (card_history c (all b)) (card_history c rest)
      (subst (All (λ (e : Entry). bound (brought r c) < e.minute)) (ap (card_history c) whole ∙ history-append c (all b) rest)
      (subst (λ (start : CardStart). All (λ (e : Entry). bound start < e.minute) (card_history c (history_of r))) (started r c) (history-later r.rule (start_of r) r.log (told_of r) c)))))

  module _ (z : Standing) (v : UnitView) (x : List ℕ) (m : Meets c (brought r c) AnyKept (all b) z v (own_view x)) (had : Had c (brought r c) AnyKept b (own_view x)) (sure : All (λ i. i.minute ≤ v.last) b.sure) where
    abbrev due : List Entry
    due = owed c v (own_view x)

    record Parted : Type 0 where
      extra : List Entry
      are : lies ≡ m.more ++ (due ++ extra)
      later : All (λ e. (own_view x).mark < e.minute) extra

    parted : Parted
    parted = ⊎_elim
        (λ none. record {
          extra = card_history c maybe;
          are = parts ∙ ap (λ (zs : List Entry). zs ++ card_history c maybe) (sym (m.whole ∙ ap (λ (is : List HistoryMinute). owes ++ card_history c is) (up_to-all b v.last sure ∙ ap (λ (is : List HistoryMinute). b.sure ++ is) none ∙ append-nil b.sure)))
              ∙ append_assoc m.more due (card_history c maybe);
          later = all-back (λ (e : Entry). (own_view x).mark < e.minute) had.rest (card_history c maybe) had.lacks;
        })
        (λ same. record {
          extra = [];
          are = sym (m.whole ∙ ap (λ (is : List HistoryMinute). owes ++ card_history c is) (up_to-all b v.last sure ∙ ap (λ (is : List HistoryMinute). b.sure ++ is) same)) ∙ ap (λ (es : List Entry). m.more ++ es) (sym (append-nil due));
          later = All-nil (λ (e : Entry). (own_view x).mark < e.minute);
        })
        (up_to-one v.last b.maybe)

    counted : counted_to (own_view x).mark lies ≡ m.more
    counted = ap (counted_to (own_view x).mark) parted.are ∙ counted-front (own_view x).mark m.more (due ++ parted.extra) (all-back (λ (e : Entry). e.minute ≤ (own_view x).mark) entries m.more m.had)
        (All-append (λ (e : Entry). (own_view x).mark < e.minute) due parted.extra (owed-above c v (own_view x)) parted.later)

    -- the minutes up to the unit's last-kept one are those of the book
    reached : All (λ i. v.last < i.minute) rest → up_to v.last (history_of r) ≡ up_to v.last (all b)
    reached later = ap (up_to v.last) whole ∙ filter-append (λ (i : HistoryMinute). nat_le i.minute v.last) (all b) rest
        ∙ ap (λ (is : List HistoryMinute). up_to v.last (all b) ++ is) (filter-none (λ (i : HistoryMinute). nat_le i.minute v.last) rest (All-weaker (λ (i : HistoryMinute). v.last < i.minute) (λ i. nat_le i.minute v.last ≡ false) (λ i lt. beyond_it v.last i.minute lt) rest later))
        ∙ append-nil (up_to v.last (all b))

    pub rest-agrees : AreDays 0 (card_days (own_sizes (card_image r c)) (card_image r c)) → All (λ i. v.last < i.minute) rest → StringGoesOn (at_start r c clock) h.given c b z due x →
        KeepsOf (card_image r c) (hands_done r c) (expected_to r c v.last) (record (own_view x).held { entries = (own_view x).held.entries ++ due })
    rest-agrees are later g =
        let kept : KeepsFrom (card_image r c) h.given (comes_from (brought r c) z due (own_view x)) (entries ++ m.more) (own_view x).held =
        subst (λ (zs : List Entry). KeepsFrom (card_image r c) h.given (comes_from (brought r c) z due (own_view x)) (entries ++ zs) (own_view x).held) counted g in
        let rises : Rise due = rise-front due parted.extra (rise-back m.more (due ++ parted.extra) (subst Rise parted.are string.rises)) in
        let late : All (λ e. (brought r c).word < e.minute) due =
        all-front (λ (e : Entry). (brought r c).word < e.minute) due parted.extra (all-back (λ (e : Entry). (brought r c).word < e.minute) m.more (due ++ parted.extra) (subst (All (λ (e : Entry). (brought r c).word < e.minute)) parted.are late-all)) in
        keeps_more (card_image r c) h.given (hands_done r c) given (expected_to r c v.last) (record (own_view x).held { entries = (own_view x).held.entries ++ due })
        (subst (λ (zs : List Entry). KeepsOf (card_image r c) h.given (entries ++ zs) (record (own_view x).held { entries = (own_view x).held.entries ++ due }))
        (m.whole ∙ ap (λ (is : List HistoryMinute). owes ++ card_history c is) (sym (reached later)))
        (owed-entries_count (card_image r c) h.given (brought r c) are refl refl refl (suc (max (brought r c).word (since z (newest_with (own_view x) due)))) (own_view x).mark m.more due (own_view x).held m.mark m.had (owed-above c v (own_view x)) late rises kept))
