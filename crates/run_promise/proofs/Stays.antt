-- What an acceptance brought stays so over each step behind which the rules hold again.
use Rattle.std.proofs.Common.{◌≡◌, ◌⊎◌, inl, inr, ⊎_elim, ℕ, ◌<◌, ◌≤◌, Bool, true, false, cond, None, List, [], ◌∷◌, ◌++◌, All, Contains, refl, ap, subst, ◌∙◌, sym, arith, nat_le, append_assoc}
use Rattle.std.specs.Prelude.{option_to_list}
use Rattle.std.proofs.lemmas.Bool.{cases_lt}
use Rattle.std.proofs.lemmas.List.Elements.{All-append, All-contains, All-contains_itself, All-weaker, Contains-append_left, Contains-append_right}
use Rattle.run_course.specs.activity_codec.declared.entries.Entry.{Entry}
use Rattle.run_course.specs.trace_model.declared.Card.{Card}
use Rattle.tach_media.specs.Medium.{State}
use Rattle.unit_rule.specs.card_image.View.{CardView}
use Rattle.run_course.specs.history_model.Minutes.{HistoryMinute, card_history, on_card, up_to}
use Rattle.run_course.specs.history_model.Presence.{CardStart}
use Rattle.run_course.specs.history_model.Book.{Book, all, kept, broken}
use Rattle.run_course.proofs.history_model.Books.{history-append, history-one, on_card-minute, up_to-all, all-none, all-kept}
use Rattle.run_course.proofs.history_model.Filters.{all-front, all-back}
use Rattle.unit_rule.specs.device_rule.Views.{UnitView, unit_view, owed}
use Rattle.unit_rule.specs.device_rule.Rules.{Standing, Meets}
use Rattle.unit_rule.specs.device_rule.Marked.{of_card, HasBrought}
use Rattle.unit_rule.proofs.device_rule.Pairs.{owed-above}
use Rattle.unit_rule.proofs.device_rule.Repairing.{repaired-holds}
use Rattle.run_promise.specs.Found.{Found, found_of, unit_seen, AnyKept}
use Rattle.run_promise.specs.Stays.{AddsLater, IsStep}

-- THE ENTRIES OF SOME MINUTES are among those of all
history-front : (c : Card) (i : HistoryMinute) (is : List HistoryMinute) → card_history c (i ∷ is) ≡ on_card c i ++ card_history c is
history-front c i is = history-append c (i ∷ []) is ∙ ap (λ (es : List Entry). es ++ card_history c is) (history-one c i)

history-up_to : (P : Entry → Type 0) (c : Card) (n : ℕ) (is : List HistoryMinute) → All P (card_history c is) → All P (card_history c (up_to n is))
history-up_to P c n [] each = each
history-up_to P c n (i ∷ is) each = go (nat_le i.minute n) (history-up_to P c n is (all-back P (on_card c i) (card_history c is) (subst (All P) (history-front c i is) each)))
  where
    go : (h : Bool) → All P (card_history c (up_to n is)) → All P (card_history c (cond h (i ∷ up_to n is) (up_to n is)))
    go true rest = subst (All P) (sym (history-front c i (up_to n is)))
        (All-append P (on_card c i) (card_history c (up_to n is)) (all-front P (on_card c i) (card_history c is) (subst (All P) (history-front c i is) each)) rest)
    go false rest = rest

-- THE STEP
module _ (f : Found) (c : Card) (k : ℕ) (b d : Book) (y z : Standing) (U X V Y : State) (s : IsStep f c k b d y z U X V Y) where
  abbrev start : CardStart
  start = (found_of f c).start

  abbrev u : UnitView
  u = unit_view f.card_a.number f.card_b.number s.some.0

  on_it : (unit_seen f U).may_leave u
  on_it = (s.some.0, s.some.1, refl)

  -- what the book was sure of the unit had
  had-then : (e : Entry) → Contains (start.owed ++ card_history c b.sure) e → Contains (start.owed ++ card_history c (up_to u.last (all b))) e
  had-then e at = subst (λ (zs : List Entry). Contains zs e)
      (append_assoc start.owed (card_history c b.sure) (card_history c (up_to u.last (option_to_list b.maybe)))
      ∙ ap (λ (es : List Entry). start.owed ++ es) (sym (history-append c b.sure (up_to u.last (option_to_list b.maybe))) ∙ ap (card_history c) (sym (up_to-all b u.last (s.sure u on_it)))))
      (Contains-append_left (start.owed ++ card_history c b.sure) (card_history c (up_to u.last (option_to_list b.maybe))) e at)

  -- so up to that minute it was on the card, whose end mark was not earlier
  pub was-marked : HasBrought f.card_a.number f.card_b.number c k U X → (w : CardView) → (of_card X).may_leave w → (e : Entry) → Contains (start.owed ++ card_history c b.sure) e → e.minute ≤ k → e.minute ≤ w.mark
  was-marked had w there e at le =
      let m : Meets c start AnyKept (all b) y u w = s.before.meets u w on_it there in
      All-contains (λ (o : Entry). o.minute ≤ w.mark) m.more e (all-back (λ (o : Entry). o.minute ≤ w.mark) start.entries m.more m.had)
      (repaired-holds c start AnyKept k (all b) y (unit_seen f U) (of_card X) e had u w on_it there m (had-then e at) le)

  -- and is not owed behind the step
  pub stays : HasBrought f.card_a.number f.card_b.number c k U X → HasBrought f.card_a.number f.card_b.number c k V Y
  stays had v x on there = All-weaker (λ (e : Entry). Contains (owed c v x) e) (λ e. k < e.minute) late (owed c v x) (All-contains_itself (owed c v x))
    where
      new : Meets c start AnyKept (all d) z v x
      new = s.behind.meets v x on there

      told : All (λ (e : Entry). Contains (start.owed ++ card_history c b.sure) e ⊎ (k < e.minute)) (start.owed ++ card_history c (up_to v.last (all d)))
      told = All-append (λ (e : Entry). Contains (start.owed ++ card_history c b.sure) e ⊎ (k < e.minute)) start.owed (card_history c (up_to v.last (all d)))
          (all-front (λ (e : Entry). Contains (start.owed ++ card_history c b.sure) e ⊎ (k < e.minute)) start.owed (card_history c (all d)) s.adds)
          (history-up_to (λ (e : Entry). Contains (start.owed ++ card_history c b.sure) e ⊎ (k < e.minute)) c v.last (all d) (all-back (λ (e : Entry). Contains (start.owed ++ card_history c b.sure) e ⊎ (k < e.minute)) start.owed (card_history c (all d)) s.adds))

      low : (e : Entry) → Contains (owed c v x) e → Contains (start.owed ++ card_history c b.sure) e → e.minute ≤ k → k < e.minute
      low e at was le =
          let before = s.rises x there in
          absurd (omega (arith, before.2, was-marked had before.0 before.1 e was le, All-contains (λ (o : Entry). x.mark < o.minute) (owed c v x) e (owed-above c v x) at))

      late : (e : Entry) → Contains (owed c v x) e → k < e.minute
      late e at = ⊎_elim
          (λ was. ⊎_elim (λ lt. lt) (λ ge. low e at was ge) (cases_lt k e.minute))
          (λ later. later)
          (All-contains (λ (o : Entry). Contains (start.owed ++ card_history c b.sure) o ⊎ (k < o.minute)) (start.owed ++ card_history c (up_to v.last (all d))) e told
          (subst (λ (zs : List Entry). Contains zs e) new.whole (Contains-append_right new.more (owed c v x) e at)))

-- WHAT COMES TO THE ENTRIES
pub adds-none : (c : Card) (start : CardStart) (k : ℕ) (b : Book) → b.maybe ≡ None → AddsLater c start k b b
adds-none c start k b none = subst (λ (is : List HistoryMinute). All (λ (e : Entry). Contains (start.owed ++ card_history c b.sure) e ⊎ (k < e.minute)) (start.owed ++ card_history c is)) (sym (all-none b none))
    (All-weaker (λ (e : Entry). Contains (start.owed ++ card_history c b.sure) e) (λ e. Contains (start.owed ++ card_history c b.sure) e ⊎ (k < e.minute)) (λ e at. inl at) (start.owed ++ card_history c b.sure) (All-contains_itself (start.owed ++ card_history c b.sure)))

adds-one : (c : Card) (start : CardStart) (k : ℕ) (b : Book) (i : HistoryMinute) → k < i.minute → All (λ e. Contains (start.owed ++ card_history c b.sure) e ⊎ (k < e.minute)) (start.owed ++ card_history c (b.sure ++ i ∷ []))
adds-one c start k b i late =
    subst (All (λ (e : Entry). Contains (start.owed ++ card_history c b.sure) e ⊎ (k < e.minute)))
    (append_assoc start.owed (card_history c b.sure) (on_card c i) ∙ ap (λ (es : List Entry). start.owed ++ es) (ap (λ (es : List Entry). card_history c b.sure ++ es) (sym (history-one c i)) ∙ sym (history-append c b.sure (i ∷ []))))
    (All-append (λ (e : Entry). Contains (start.owed ++ card_history c b.sure) e ⊎ (k < e.minute)) (start.owed ++ card_history c b.sure) (on_card c i)
    (All-weaker (λ (e : Entry). Contains (start.owed ++ card_history c b.sure) e) (λ e. Contains (start.owed ++ card_history c b.sure) e ⊎ (k < e.minute)) (λ e at. inl at) (start.owed ++ card_history c b.sure) (All-contains_itself (start.owed ++ card_history c b.sure)))
    (All-weaker (λ (e : Entry). e.minute ≡ i.minute) (λ e. Contains (start.owed ++ card_history c b.sure) e ⊎ (k < e.minute)) (λ e is. inr (omega (arith, is, late))) (on_card c i) (on_card-minute c i)))

pub adds-kept : (c : Card) (start : CardStart) (k : ℕ) (b : Book) (i : HistoryMinute) → k < i.minute → AddsLater c start k b (kept i b)
adds-kept c start k b i late = subst (λ (is : List HistoryMinute). All (λ (e : Entry). Contains (start.owed ++ card_history c b.sure) e ⊎ (k < e.minute)) (start.owed ++ card_history c is)) (sym (all-kept i b)) (adds-one c start k b i late)

pub adds-broken : (c : Card) (start : CardStart) (k : ℕ) (b : Book) (i : HistoryMinute) → k < i.minute → AddsLater c start k b (broken i b)
adds-broken c start k b i late = adds-one c start k b i late
