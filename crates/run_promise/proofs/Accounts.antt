-- Accounts of acceptances give what the theorem asks of them, and go on with the run.
use Rattle.std.proofs.Common.{◌≡◌, ◌⊎◌, inl, inr, ⊎_elim, ℕ, ◌+◌, ◌/◌, ◌<◌, ◌≤◌, Bool, true, false, List, [], ◌∷◌, ◌++◌, All, Contains, refl, ap, subst, ◌∙◌, sym, arith, length, nat_lt, nat_le, not}
use Rattle.std.specs.Prelude.{◌&&◌, ◌||◌, option_to_list, map, take, drop}
use Rattle.std.specs.List.{AllByRecursion, list_any}
use Rattle.std.proofs.lemmas.Bool.Decides.{nat_tests}
use Rattle.std.proofs.lemmas.List.Folds.{list_any-append, list_any_none}
use Rattle.std.proofs.lemmas.List.Elements.{All-from_recursion, All-weaker, All-append, All-contains, Contains-append_left, Contains-append_right}
use Rattle.run_course.specs.activity_codec.declared.entries.Entry.{Entry}
use Rattle.run_course.specs.trace_model.declared.Card.{Card}
use Rattle.run_course.specs.log_model.declared.lines.Break.{Break}
use Rattle.run_course.specs.log_model.declared.lines.Break.TheVariants.{Cut, Tear}
use Rattle.run_course.specs.log_model.Spans.{AreInOrder}
use Rattle.run_course.specs.log_model.Causes.{second_of}
use Rattle.unit_rule.specs.unit_model.Image.{last_kept}
use Rattle.run_course.specs.history_model.Minutes.{HistoryMinute, card_history}
use Rattle.run_course.specs.history_model.Growth.{Rises}
use Rattle.run_course.specs.history_model.Book.{Book, all, Follows, IsMark}
use Rattle.run_course.proofs.history_model.Filters.{take-drop}
use Rattle.run_course.proofs.history_model.Told.{rises}
use Rattle.unit_rule.specs.card_image.Own.{own_view, own_number}
use Rattle.unit_rule.specs.run_unit_course.Lines.{with_kept, found_from}
use Rattle.unit_rule.specs.device_rule.Views.{unit_view}
use Rattle.unit_rule.specs.safety_model.Recording.{Recording, card_image, brought, start_of, history_of, lost_of, unit_seen}
use Rattle.unit_rule.specs.safety_model.Cards.{shows_lost, was_kept}
use Rattle.run_promise.specs.Between.{AreBrought}
use Rattle.run_promise.proofs.Entries.{all-by}
use Rattle.run_promise.proofs.Behind.{said-by, owed-until}
use Rattle.run_promise.proofs.Beyond.{later-than, rises-above}
use Rattle.run_promise.specs.Accounts.{IsAccount, HasAccounts}

is-false : (b : Bool) → (b ≡ true → ⊥) → b ≡ false
is-false true never = absurd (never refl)
is-false false never = refl

pub last-of : (a b u : List ℕ) → (unit_view a b u).last ≡ last_kept u
unfolding unit_view
last-of a b u = refl

-- WHAT THE THEOREM ASKS
module _ (r : Recording) (c : Card) (from : ℕ) (b : Book) (order : AreInOrder from r.trace) (early : last_kept r.unit < from / 60) (follows : Follows (history_of r) (lost_of r) b) where
  all-rise : Rises (from / 60) (history_of r) ((from + length r.trace) / 60)
  all-rise = rises from r.rule (start_of r) r.log r.trace order

  in-history : (i : HistoryMinute) → Contains b.sure i → Contains (history_of r) i
  in-history i at = subst (λ (is : List HistoryMinute). Contains is i) (sym follows.front.1) (Contains-append_left (all b) follows.front.0 i (Contains-append_left b.sure (option_to_list b.maybe) i at))

  -- a mark is not earlier than the unit's last-kept minute at the start
  above : (k : ℕ) → IsMark (last_kept r.unit) b.sure k → last_kept r.unit ≤ k
  above k (inl is) = omega (arith, is)
  above k (inr (i, at, is)) = let low : from / 60 ≤ i.minute = All-contains (λ (j : HistoryMinute). from / 60 ≤ j.minute) (history_of r) i (rises-above (from / 60) ((from + length r.trace) / 60) (history_of r) all-rise) (in-history i at) in omega (arith, low, is, early)

  pub accounts-brought : (ks : List ℕ) → HasAccounts r c (last_kept r.unit) b ks → AreBrought r c b ks
  accounts-brought ks accounts u accepted =
      let a = accounts u accepted in
      let k : ℕ = a.0 in (
        (
          k,
          a.1,
          All-append (λ (e : Entry). was_kept r c u e.minute ≡ true → e.minute ≤ k) (brought r c).owed (card_history c b.sure)
              (All-weaker (λ (e : Entry). e.minute ≤ (unit_seen r r.unit).last) (λ e. was_kept r c u e.minute ≡ true → e.minute ≤ k) (λ e le kept. omega (arith, le, last-of (own_number r.card_a) (own_number r.card_b) r.unit, above k a.2.mark)) (brought r c).owed
              (owed-until c (unit_seen r r.unit) (own_view (card_image r c))))
              (all-by (λ (e : Entry). was_kept r c u e.minute ≡ true → e.minute ≤ k) (card_history c b.sure) (λ e at kept.
              let one = said-by r c b.sure e at in
              let le : one.0.minute ≤ k = All-contains (λ (i : HistoryMinute). was_kept r c u i.minute ≡ true → i.minute ≤ k) (history_of r) one.0 a.2.kept (in-history one.0 one.1) (subst (λ (m : ℕ). was_kept r c u m ≡ true) one.2.0 kept) in
              omega (arith, le, one.2.0))),
          above k a.2.mark,
        ),
        λ rest goes. all-by (λ (e : Entry). was_kept r c u e.minute ≡ false) (card_history c rest) (λ e at. is-false (was_kept r c u e.minute) (λ kept.
            let one = said-by r c rest e at in
            let late : k < one.0.minute = All-contains (λ (i : HistoryMinute). k < i.minute) rest one.0
            (later-than (last_kept r.unit) (from / 60) ((from + length r.trace) / 60) k b.sure rest early (subst (λ (is : List HistoryMinute). Rises (from / 60) is ((from + length r.trace) / 60)) goes all-rise) a.2.mark) one.1 in
            let in_ : Contains (history_of r) one.0 = subst (λ (is : List HistoryMinute). Contains is one.0) (sym goes) (Contains-append_right b.sure rest one.0 one.1) in
            let le : one.0.minute ≤ k = All-contains (λ (i : HistoryMinute). was_kept r c u i.minute ≡ true → i.minute ≤ k) (history_of r) one.0 a.2.kept in_ (subst (λ (m : ℕ). was_kept r c u m ≡ true) one.2.0 kept) in
            omega (arith, late, le))),
      )

-- THE LOG: a break that is not earlier shows nothing lost
pub none-lost : (u m : ℕ) (b : Break) → u ≤ second_of b → shows_lost u m b ≡ false
none-lost u m (Cut second kept failed begun) le = go (nat_lt second u) refl
  where
    go : (t : Bool) → nat_lt second u ≡ t → ((t && nat_lt kept m) && nat_le m (second / 60)) ≡ false
    go true is = absurd (let lt : second < u = grind (arith, nat_tests) in omega (arith, lt, le))
    go false is = refl
none-lost u m (Tear second slot failed begun late) le = refl

pub or-false : (b : Bool) → (b || false) ≡ b
or-false true = refl
or-false false = refl

pub lost-more : (u m : ℕ) (breaks rest : List Break) → AllByRecursion (λ (b : Break). u ≤ second_of b) rest → list_any (shows_lost u m) (breaks ++ rest) ≡ list_any (shows_lost u m) breaks
lost-more u m breaks rest behind =
    list_any-append (shows_lost u m) breaks rest
    ∙ ap (λ (b : Bool). list_any (shows_lost u m) breaks || b) (list_any_none (shows_lost u m) rest (All-weaker (λ (b : Break). u ≤ second_of b) (λ b. shows_lost u m b ≡ false) (λ b le. none-lost u m b le) rest (All-from_recursion (λ (b : Break). u ≤ second_of b) rest behind)))
    ∙ or-false (list_any (shows_lost u m) breaks)

kept-second : (k : ℕ) (b : Break) → second_of (with_kept k b) ≡ second_of b
kept-second k (Cut second kept failed begun) = refl
kept-second k (Tear second slot failed begun late) = refl

kept-behind : (u k : ℕ) (bs : List Break) → AllByRecursion (λ (b : Break). u ≤ second_of b) bs → AllByRecursion (λ (b : Break). u ≤ second_of b) (map (with_kept k) bs)
kept-behind u k [] h = tt
kept-behind u k (b ∷ bs) h = (let le : u ≤ second_of b = h.0 in omega (arith, le, kept-second k b), kept-behind u k bs h.1)

front-rest : (n : ℕ) (bs : List Break) → take n bs ++ drop n bs ≡ bs
front-rest n bs = take-drop n bs

-- what is found changes no cut before
pub lost-found : (u m unfound k : ℕ) (breaks : List Break) → AllByRecursion (λ (b : Break). u ≤ second_of b) (drop unfound breaks) → list_any (shows_lost u m) (found_from unfound k breaks) ≡ list_any (shows_lost u m) breaks
lost-found u m unfound k breaks behind =
    lost-more u m (take unfound breaks) (map (with_kept k) (drop unfound breaks)) (kept-behind u k (drop unfound breaks) behind)
    ∙ sym (lost-more u m (take unfound breaks) (drop unfound breaks) behind)
    ∙ ap (list_any (shows_lost u m)) (front-rest unfound breaks)

-- AN ACCOUNT GOES ON: where the log shows no other cut before its second, each minute of the history stood in it before or is not earlier
-- than that second's, and its mark stays
pub account-on : (r s : Recording) (c : Card) (first : ℕ) (b d : Book) (u k : ℕ) → ((m : ℕ) → list_any (shows_lost u m) s.log.breaks ≡ list_any (shows_lost u m) r.log.breaks) →
    All (λ i. Contains (history_of r) i ⊎ (u / 60 ≤ i.minute)) (history_of s) → (IsMark first b.sure k → IsMark first d.sure k) → IsAccount r c first b u k → IsAccount s c first d u k
account-on r s c first b d u k same from stays a = record {
  mark = stays a.mark;
  kept = All-weaker (λ (i : HistoryMinute). Contains (history_of r) i ⊎ (u / 60 ≤ i.minute)) (λ i. was_kept s c u i.minute ≡ true → i.minute ≤ k) (λ i was kept. ⊎_elim
      (λ in_. All-contains (λ (j : HistoryMinute). was_kept r c u j.minute ≡ true → j.minute ≤ k) (history_of r) i a.kept in_ (ap (λ (t : Bool). nat_lt i.minute (u / 60) && not t) (sym (same i.minute)) ∙ kept))
      (λ late. absurd (not-kept i.minute late (list_any (shows_lost u i.minute) s.log.breaks) kept)) was) (history_of s) from;
}
  where
    not-kept : (m : ℕ) → u / 60 ≤ m → (t : Bool) → (nat_lt m (u / 60) && not t) ≡ true → ⊥
    not-kept m late t kept = let lt : nat_lt m (u / 60) ≡ false = grind (arith, nat_tests) in let f : (false && not t) ≡ true = subst (λ (x : Bool). (x && not t) ≡ true) lt kept in cc

-- A NEW ONE: each minute is not later than the unit's last-kept one, or not earlier than this second's, or shown to be lost
pub account-new : (r : Recording) (c : Card) (first : ℕ) (b : Book) (u k : ℕ) → IsMark first b.sure k → All (λ i. (i.minute ≤ k) ⊎ ((u / 60 ≤ i.minute) ⊎ (list_any (shows_lost u i.minute) r.log.breaks ≡ true))) (history_of r) → IsAccount r c first b u k
account-new r c first b u k mark each = record {
  mark = mark;
  kept = All-weaker (λ (i : HistoryMinute). (i.minute ≤ k) ⊎ ((u / 60 ≤ i.minute) ⊎ (list_any (shows_lost u i.minute) r.log.breaks ≡ true))) (λ i. was_kept r c u i.minute ≡ true → i.minute ≤ k) (λ i either kept. ⊎_elim
      (λ low. low)
      (λ other. absurd (⊎_elim (λ late. not-now i.minute late (list_any (shows_lost u i.minute) r.log.breaks) kept) (λ lost. not-lost (nat_lt i.minute (u / 60)) (list_any (shows_lost u i.minute) r.log.breaks) lost kept) other)) either) (history_of r) each;
}
  where
    not-now : (m : ℕ) → u / 60 ≤ m → (t : Bool) → (nat_lt m (u / 60) && not t) ≡ true → ⊥
    not-now m late t kept = let lt : nat_lt m (u / 60) ≡ false = grind (arith, nat_tests) in let f : (false && not t) ≡ true = subst (λ (x : Bool). (x && not t) ≡ true) lt kept in cc

    not-lost : (s t : Bool) → t ≡ true → (s && not t) ≡ true → ⊥
    not-lost true t lost kept = let f : not true ≡ true = subst (λ (x : Bool). not x ≡ true) lost kept in cc
    not-lost false t lost kept = cc
