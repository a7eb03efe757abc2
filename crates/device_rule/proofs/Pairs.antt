-- The rule of one pair of views, kept by each kind of step.
use Rattle.std.proofs.Common.{◌≡◌, ◌⊎◌, inl, inr, ⊎_elim, ℕ, zero, suc, ◌/◌, ◌<◌, ◌≤◌, max, Bool, true, false, cond, Option, Some, None, List, [], ◌∷◌, ◌++◌, All, refl, ap, subst, ◌∙◌, sym, arith, take, drop, filter, nat_eq, nat_lt, append_assoc, ◌%◌}
use Rattle.std.proofs.lemmas.Bool.Decides.{nat_tests}
use Rattle.std.proofs.lemmas.List.Elements.{filter_passes, All-append, All-weaker, All-head, All-tail, All-nil}
use Rattle.std.proofs.lemmas.List.{append-nil}
use Rattle.std.proofs.Math.Nat.{le-max_right}
use Rattle.std.specs.Prelude.{option_to_list}
use Rattle.activity_codec.specs.declared.entries.Entry.{Entry}
use Rattle.trace_model.specs.declared.Card.{Card}
use Rattle.minute_model.specs.Activity.{last}
use Rattle.history_model.specs.Minutes.{up_to, HistoryMinute, on_card, card_history}
use Rattle.history_model.specs.Presence.{CardStart, closed_at, trimmed_by}
use Rattle.card_image.specs.View.{CardView, Held}
use Rattle.device_rule.specs.Views.{UnitView, row, owed, owed_in, newest_with, beyond, next_of}
use Rattle.device_rule.specs.Steps.{IsOnCard, IsInserting, IsClosing}
use Rattle.history_model.specs.Book.{Book, all}
use Rattle.device_rule.specs.Rules.{Meets, Had, Standing, Out, In, Torn, since, comes_from, EntriesGoOn}
use Rattle.history_model.proofs.Filters.{take-drop, all-one}
use Rattle.device_rule.proofs.Owing.{owed-later, owed-moved, owed-insert, owed-close, owed-closed, replayed-owed}
use Rattle.history_model.proofs.Books.{all-none, up_to-whole, history-append, history-one, history-none, on_card-minute}

-- THE LAST OF A LIST
pub last-append : (xs : List Entry) (y : Entry) (ys : List Entry) → last (xs ++ (y ∷ ys)) ≡ last (y ∷ ys)
last-append [] y ys = refl
last-append (x ∷ []) y ys = refl
last-append (x ∷ z ∷ xs) y ys = last-append (z ∷ xs) y ys

pub closed-from : (e : Entry) → e.minute ≤ closed_at (Some e)
closed-from e = go (nat_eq (suc e.minute % 1440) 0)
  where
    go : (b : Bool) → e.minute ≤ cond b e.minute (suc e.minute)
    go true = omega arith
    go false = omega arith

pub closed-last : (k : ℕ) (e : Entry) (es : List Entry) → All (λ d. k ≤ d.minute) (e ∷ es) → k ≤ closed_at (last (e ∷ es))
closed-last k e [] each = omega (arith, closed-from e, All-head (λ (d : Entry). k ≤ d.minute) e [] each)
closed-last k e (f ∷ es) each = closed-last k f es (All-tail (λ (d : Entry). k ≤ d.minute) e (f ∷ es) each)

pub max-right : (a b : ℕ) → a ≤ b → max a b ≡ b
max-right a b le = omega (arith, le)

pub max-under : (k a b : ℕ) → k ≤ b → k ≤ max a b
max-under k a b le = omega (arith, le)

not-empty : (e : Entry) (es : List Entry) → e ∷ es ≡ [] → ⊥
not-empty e es none = cc

-- where entries are owed, it is that behind the last of them
pub newest-behind : (x : CardView) (o : List Entry) (e : Entry) (es : List Entry) → newest_with x (o ++ (e ∷ es)) ≡ closed_at (last (e ∷ es))
newest-behind x [] e es = refl
newest-behind x (d ∷ o) e es = ap closed_at (last-append (d ∷ o) e es)

-- the newest minute, where entries come behind that are later than the mark at the start
pub newest-more : (x : CardView) (start : CardStart) (front o es : List Entry) → All (λ e. start.mark ≤ e.minute) es →
    newest_with x o ≡ trimmed_by start (front ++ o) → newest_with x (o ++ es) ≡ trimmed_by start (front ++ (o ++ es))
newest-more x start front o [] each is =
    ap (newest_with x) (append-nil o) ∙ is ∙ ap (λ (zs : List Entry). trimmed_by start (front ++ zs)) (sym (append-nil o))
newest-more x start front o (e ∷ es) each is =
    newest-behind x o e es ∙ sym (max-right start.mark (closed_at (last (e ∷ es))) (closed-last start.mark e es each))
    ∙ ap (λ (z : Option Entry). max start.mark (closed_at z)) (sym (ap last (sym (append_assoc front o (e ∷ es))) ∙ last-append (front ++ o) e es))

-- an entry of a minute is later than what is earlier than the minute
pub above : (c : Card) (i : HistoryMinute) (k : ℕ) → (on_card c i ≡ []) ⊎ (k < i.minute) → All (λ e. k < e.minute) (on_card c i)
above c i k (inl none) = subst (All (λ (e : Entry). k < e.minute)) (sym none) (All-nil (λ (e : Entry). k < e.minute))
above c i k (inr lt) = All-weaker (λ (e : Entry). e.minute ≡ i.minute) (λ e. k < e.minute) (λ e is. omega (arith, is, lt)) (on_card c i) (on_card-minute c i)

-- what is owed is later than the end mark
pub owed-above : (c : Card) (u : UnitView) (x : CardView) → All (λ e. x.mark < e.minute) (owed c u x)
owed-above c u x = subst (All (λ (e : Entry). x.mark < e.minute)) (owed-later (row c u) u.last x.session x.mark)
    (All-weaker (λ (e : Entry). nat_lt x.mark e.minute ≡ true) (λ e. x.mark < e.minute) (λ e is. passed e.minute is) (filter (λ e. nat_lt x.mark e.minute) (owed c u x)) (filter_passes (λ (e : Entry). nat_lt x.mark e.minute) (owed c u x)))
  where
    passed : (m : ℕ) → nat_lt x.mark m ≡ true → x.mark < m
    passed m is = grind (arith, nat_tests)

-- an end mark is not later than the newest minute
pub mark-newest : (c : Card) (u : UnitView) (x : CardView) → x.mark ≤ x.newest → x.mark ≤ newest_with x (owed c u x)
mark-newest c u x bound = go (owed c u x) (owed-above c u x)
  where
    go : (es : List Entry) → All (λ e. x.mark < e.minute) es → x.mark ≤ newest_with x es
    go [] each = bound
    go (e ∷ es) each = closed-last x.mark e es (All-weaker (λ (d : Entry). x.mark < d.minute) (λ d. x.mark ≤ d.minute) (λ d lt. omega (arith, lt)) (e ∷ es) each)

-- where no session is open nothing is owed
none-closed : (c : Card) (u : UnitView) (x : CardView) → x.session ≡ 0 → owed c u x ≡ []
none-closed c u x closed = ap (λ (s : ℕ). owed_in (row c u) u.last s x.mark) closed ∙ owed-closed (row c u) u.last x.mark

-- words that count for the newest minute are the start's, or not later than that minute
pub beyond-low : (c : Card) (start : CardStart) (u : UnitView) (x : CardView) → (x.session ≡ 0 → x.word ≤ max start.word x.newest) → beyond x ≤ max start.word (newest_with x (owed c u x))
beyond-low c start u x words = go x.session refl
  where
    go : (s : ℕ) → x.session ≡ s → cond (nat_lt 0 s) 0 x.word ≤ max start.word (newest_with x (owed c u x))
    go zero is = subst (λ (zs : List Entry). x.word ≤ max start.word (newest_with x zs)) (sym (none-closed c u x is)) (words is)
    go (suc s) is = subst (λ (b : Bool). cond {A = ℕ} b 0 x.word ≤ max start.word (newest_with x (owed c u x))) (sym (positive s)) (omega arith)
      where
        positive : (s : ℕ) → nat_lt 0 (suc s) ≡ true
        positive s = grind (arith, nat_tests)

module _ (c : Card) (start : CardStart) (Keeps : ℕ → List Entry → Held → Type 0) where
  -- where what is owed stays, and the minutes up to the mark
  pub meets-owed : (past later : List HistoryMinute) (s : Standing) (u v : UnitView) (x : CardView) → owed c v x ≡ owed c u x → up_to v.last later ≡ up_to u.last past → Meets c start Keeps past s u x → Meets c start Keeps later s v x
  meets-owed past later s u v x same minutes m = record {
    more = m.more;
    left = subst (λ (zs : List Entry). Keeps (comes_from start s zs x) (start.entries ++ m.more) x.held) (sym same) m.left;
    had = m.had;
    whole = ap (λ (zs : List Entry). m.more ++ zs) same ∙ m.whole ∙ ap (λ (zs : List HistoryMinute). start.owed ++ card_history c zs) (sym minutes);
    newest = subst (λ (zs : List Entry). newest_with x zs ≡ trimmed_by start (start.entries ++ (m.more ++ zs))) (sym same) m.newest;
    accepted = subst (λ (zs : List Entry). since s (newest_with x zs) ≤ max start.word (newest_with x zs)) (sym same) m.accepted;
    mark = m.mark;
    bound = m.bound;
    words = m.words;
  }

  -- KEEP of the unit: the entry of the minute is owed from then on; it comes where one may come
  comes-with : (s : Standing) (m : ℕ) (x : CardView) (full o p : List Entry) → ((next n : ℕ) → next ≤ n → Keeps next full x.held → Keeps n full x.held) → All (λ e. e.minute ≡ m) p →
      (p ≡ []) ⊎ ((start.word < m) × ((n : ℕ) → since s n < m)) → Keeps (comes_from start s o x) full x.held → Keeps (comes_from start s (o ++ p) x) full x.held
  comes-with s m x full (e ∷ o) p later each fits left = left
  comes-with s m x full [] [] later each fits left = left
  comes-with s m x full [] (e ∷ p) later each fits left = ⊎_elim
      (λ none. absurd (not-empty e p none))
      (λ fit. later (suc (max start.word (since s x.newest))) e.minute (omega (arith, All-head (λ (d : Entry). d.minute ≡ m) e p each, fit.0, fit.1 x.newest)) left) fits

  accepted-with : (s : Standing) (m : ℕ) (x : CardView) (o p : List Entry) → All (λ e. e.minute ≡ m) p → (p ≡ []) ⊎ ((start.word < m) × ((n : ℕ) → since s n < m)) →
      since s (newest_with x o) ≤ max start.word (newest_with x o) → since s (newest_with x (o ++ p)) ≤ max start.word (newest_with x (o ++ p))
  accepted-with s m x o [] each fits le = subst (λ (zs : List Entry). since s (newest_with x zs) ≤ max start.word (newest_with x zs)) (sym (append-nil o)) le
  accepted-with s m x o (e ∷ p) each fits le = ⊎_elim
      (λ none. absurd (not-empty e p none))
      (λ fit. omega (
        arith,
        fit.1 (newest_with x (o ++ (e ∷ p))),
        newest-behind x o e p,
        closed-last m e p (All-weaker (λ (d : Entry). d.minute ≡ m) (λ d. m ≤ d.minute) (λ d is. omega (arith, is)) (e ∷ p) each),
      )) fits

  pub meets-keep : (past later : List HistoryMinute) (s : Standing) (i : HistoryMinute) (u v : UnitView) (x : CardView) → ((full : List Entry) (next n : ℕ) → next ≤ n → Keeps next full x.held → Keeps n full x.held) →
      owed c v x ≡ owed c u x ++ on_card c i → up_to v.last later ≡ up_to u.last past ++ i ∷ [] →
      (on_card c i ≡ []) ⊎ (x.mark < i.minute) → (on_card c i ≡ []) ⊎ ((start.word < i.minute) × ((n : ℕ) → since s n < i.minute)) → Meets c start Keeps past s u x → Meets c start Keeps later s v x
  meets-keep past later s i u v x comes grown minutes fits when m = record {
    more = m.more;
    left = subst (λ (zs : List Entry). Keeps (comes_from start s zs x) (start.entries ++ m.more) x.held) (sym grown) (comes-with s i.minute x (start.entries ++ m.more) (owed c u x) (on_card c i) (comes (start.entries ++ m.more)) (on_card-minute c i) when m.left);
    had = m.had;
    whole = ap (λ (zs : List Entry). m.more ++ zs) grown ∙ sym (append_assoc m.more (owed c u x) (on_card c i)) ∙ ap (λ (zs : List Entry). zs ++ on_card c i) m.whole
        ∙ append_assoc start.owed (card_history c (up_to u.last past)) (on_card c i)
        ∙ ap (λ (zs : List Entry). start.owed ++ zs) (ap (λ (zs : List Entry). card_history c (up_to u.last past) ++ zs) (sym (history-one c i)) ∙ sym (history-append c (up_to u.last past) (i ∷ [])) ∙ ap (card_history c) (sym minutes));
    newest = subst (λ (zs : List Entry). newest_with x zs ≡ trimmed_by start (start.entries ++ (m.more ++ zs))) (sym grown)
        (newest-more x start (start.entries ++ m.more) (owed c u x) (on_card c i) (All-weaker (λ (e : Entry). x.mark < e.minute) (λ e. start.mark ≤ e.minute) (λ e lt. omega (arith, lt, m.mark)) (on_card c i) (above c i x.mark fits))
        (m.newest ∙ ap (trimmed_by start) (sym (append_assoc start.entries m.more (owed c u x))))
        ∙ ap (trimmed_by start) (append_assoc start.entries m.more (owed c u x ++ on_card c i)));
    accepted = subst (λ (zs : List Entry). since s (newest_with x zs) ≤ max start.word (newest_with x zs)) (sym grown) (accepted-with s i.minute x (owed c u x) (on_card c i) (on_card-minute c i) when m.accepted);
    mark = m.mark;
    bound = m.bound;
    words = m.words;
  }

  -- what a new view of the card has is a front of what is expected
  pub had-meets : (b : Book) (s : Standing) (u : UnitView) (x : CardView) → b.maybe ≡ None → All (λ i. i.minute ≤ u.last) b.sure → Meets c start Keeps (all b) s u x → Had c start Keeps b x
  had-meets b s u x none sure m = record {
    more = m.more;
    rest = owed c u x;
    next = comes_from start s (owed c u x) x;
    left = m.left;
    whole = sym whole;
    lacks = subst (λ (o : Option HistoryMinute). All (λ (e : Entry). x.mark < e.minute) (owed c u x ++ card_history c (option_to_list o))) (sym none)
        (subst (All (λ (e : Entry). x.mark < e.minute)) (sym (ap (λ (zs : List Entry). owed c u x ++ zs) (history-none c) ∙ append-nil (owed c u x))) (owed-above c u x));
    bound = subst (λ (zs : List Entry). x.mark ≤ trimmed_by start (start.entries ++ zs)) whole (subst (λ (n : ℕ). x.mark ≤ n) m.newest (mark-newest c u x m.bound));
  }
    where
      whole : m.more ++ owed c u x ≡ start.owed ++ card_history c b.sure
      whole = m.whole ∙ ap (λ (zs : List HistoryMinute). start.owed ++ card_history c zs) (ap (up_to u.last) (all-none b none) ∙ up_to-whole u.last b.sure sure)

  -- a card that is accepted no more
  pub meets-out : (past : List HistoryMinute) (s : Standing) (u : UnitView) (x : CardView) → ((full : List Entry) (next n : ℕ) → next ≤ n → Keeps next full x.held → Keeps n full x.held) → Meets c start Keeps past s u x → Meets c start Keeps past Out u x
  meets-out past s u x later m = record {
    more = m.more;
    left = go (owed c u x) m.accepted m.left;
    had = m.had;
    whole = m.whole;
    newest = m.newest;
    accepted = le-max_right start.word (newest_with x (owed c u x));
    mark = m.mark;
    bound = m.bound;
    words = m.words;
  }
    where
      go : (zs : List Entry) → since s (newest_with x zs) ≤ max start.word (newest_with x zs) → Keeps (comes_from start s zs x) (start.entries ++ m.more) x.held → Keeps (comes_from start Out zs x) (start.entries ++ m.more) x.held
      go [] le left = let low : since s x.newest ≤ max start.word x.newest = le in later (start.entries ++ m.more) (suc (max start.word (since s x.newest))) (suc (max start.word x.newest)) (omega (arith, low)) left
      go (e ∷ zs) le left = left

  -- a card to which nothing is owed is accepted, with this newest minute
  pub meets-accepted : (past : List HistoryMinute) (session newest : ℕ) (u : UnitView) (x : CardView) → ((full : List Entry) (next n : ℕ) → next ≤ n → Keeps next full x.held → Keeps n full x.held) → owed c u x ≡ [] →
      x.newest ≤ newest → newest ≤ max start.word x.newest → Meets c start Keeps past Out u x → Meets c start Keeps past (In session newest) u x
  meets-accepted past session newest u x later none low high m = record {
    more = m.more;
    left = subst (λ (zs : List Entry). Keeps (comes_from start (In session newest) zs x) (start.entries ++ m.more) x.held) (sym none)
        (later (start.entries ++ m.more) (suc (max start.word x.newest)) (suc (max start.word newest)) (omega (arith, low))
        (subst (λ (zs : List Entry). Keeps (comes_from start Out zs x) (start.entries ++ m.more) x.held) none m.left));
    had = m.had;
    whole = m.whole;
    newest = m.newest;
    accepted = subst (λ (zs : List Entry). newest ≤ max start.word (newest_with x zs)) (sym none) high;
    mark = m.mark;
    bound = m.bound;
    words = m.words;
  }

  -- to which one entry is owed: the standing as it will be with that entry
  pub meets-moved : (past : List HistoryMinute) (s t : Standing) (e : Entry) (u : UnitView) (x : CardView) → ((n : ℕ) → since t n ≡ e.minute) → owed c u x ≡ e ∷ [] → Meets c start Keeps past s u x → Meets c start Keeps past t u x
  meets-moved past s t e u x at is m = record {
    more = m.more;
    left = subst (λ (zs : List Entry). Keeps (comes_from start t zs x) (start.entries ++ m.more) x.held) (sym is)
        (subst (λ (zs : List Entry). Keeps (comes_from start s zs x) (start.entries ++ m.more) x.held) is m.left);
    had = m.had;
    whole = m.whole;
    newest = m.newest;
    accepted = omega (arith, at (newest_with x (owed c u x)), ap (newest_with x) is, closed-from e);
    mark = m.mark;
    bound = m.bound;
    words = m.words;
  }

  -- and torn out
  pub meets-torn : (past : List HistoryMinute) (session newest floor : ℕ) (u : UnitView) (x : CardView) → Meets c start Keeps past (In session newest) u x → Meets c start Keeps past (Torn session newest floor) u x
  meets-torn past session newest floor u x m = record { more = m.more; left = m.left; had = m.had; whole = m.whole; newest = m.newest; accepted = m.accepted; mark = m.mark; bound = m.bound; words = m.words }

  module _ (Adds : ℕ → Held → List Entry → Held → Type 0) (law : EntriesGoOn Keeps Adds) where
    -- the first that is left, or the first that is taken, comes first
    comes-taken : (next from : ℕ) (full : List Entry) (h : Held) (n : ℕ) (zs : List Entry) → (zs ≡ [] → next ≤ from) → Keeps (next_of next zs) full h → Keeps (next_of (next_of from (drop n zs)) (take n zs)) full h
    comes-taken next from full h zero [] le left = law.later next from full h (le refl) left
    comes-taken next from full h (suc n) [] le left = law.later next from full h (le refl) left
    comes-taken next from full h zero (e ∷ zs) le left = left
    comes-taken next from full h (suc n) (e ∷ zs) le left = left

    -- a step of the card that takes a front of what is owed
    pub meets-taken : (past : List HistoryMinute) (s t : Standing) (u : UnitView) (x y : CardView) (n : ℕ) → Adds (comes_from start t (drop n (owed c u x)) y) x.held (take n (owed c u x)) y.held → owed c u y ≡ drop n (owed c u x) →
        newest_with y (owed c u y) ≡ newest_with x (owed c u x) → since s (newest_with x (owed c u x)) ≤ max start.word (since t (newest_with x (owed c u x))) → since t (newest_with x (owed c u x)) ≤ max start.word (newest_with x (owed c u x)) →
        All (λ e. e.minute ≤ y.mark) (take n (owed c u x)) → x.mark ≤ y.mark → y.mark ≤ y.newest → (y.session ≡ 0 → y.word ≤ max start.word y.newest) → Meets c start Keeps past s u x → Meets c start Keeps past t u y
    meets-taken past s t u x y n adds left newest goes accepted reached mark bound words m = record {
      more = m.more ++ take n (owed c u x);
      left = subst (λ (zs : List Entry). Keeps (comes_from start t zs y) (start.entries ++ (m.more ++ take n (owed c u x))) y.held) (sym left)
          (subst (λ (zs : List Entry). Keeps (comes_from start t (drop n (owed c u x)) y) zs y.held) (append_assoc start.entries m.more (take n (owed c u x)))
          (law.added (comes_from start t (drop n (owed c u x)) y) (start.entries ++ m.more) (take n (owed c u x)) x.held y.held
          (comes-taken (suc (max start.word (since s (newest_with x (owed c u x))))) (suc (max start.word (since t (newest_with y (drop n (owed c u x)))))) (start.entries ++ m.more) x.held n (owed c u x)
          (λ none. later) m.left) adds));
      had = subst (All (λ (e : Entry). e.minute ≤ y.mark)) (append_assoc start.entries m.more (take n (owed c u x)))
          (All-append (λ (e : Entry). e.minute ≤ y.mark) (start.entries ++ m.more) (take n (owed c u x)) (All-weaker (λ (e : Entry). e.minute ≤ x.mark) (λ e. e.minute ≤ y.mark) (λ e h. omega (arith, h, mark)) (start.entries ++ m.more) m.had) reached);
      whole = same ∙ m.whole;
      newest = newest ∙ m.newest ∙ ap (λ (zs : List Entry). trimmed_by start (start.entries ++ zs)) (sym same);
      accepted = subst (λ (n : ℕ). since t n ≤ max start.word n) (sym newest) accepted;
      mark = omega (arith, mark, m.mark);
      bound = bound;
      words = words;
    }
      where
        same : (m.more ++ take n (owed c u x)) ++ owed c u y ≡ m.more ++ owed c u x
        same = ap (λ (zs : List Entry). (m.more ++ take n (owed c u x)) ++ zs) left ∙ append_assoc m.more (take n (owed c u x)) (drop n (owed c u x)) ∙ ap (λ (zs : List Entry). m.more ++ zs) (take-drop n (owed c u x))

        later : suc (max start.word (since s (newest_with x (owed c u x)))) ≤ suc (max start.word (since t (newest_with y (drop n (owed c u x)))))
        later = subst (λ (k : ℕ). suc (max start.word (since s (newest_with x (owed c u x)))) ≤ suc (max start.word (since t k))) (sym newest ∙ ap (newest_with y) left) (omega (arith, goes))

    -- INSERT
    pub meets-insert : (past : List HistoryMinute) (now : ℕ) (u : UnitView) (x y : CardView) → IsInserting Adds (owed c u x) now x y → u.last < now / 60 → Meets c start Keeps past Out u x → Meets c start Keeps past Out u y
    meets-insert past now u x y i late m =
        let left = owed-insert Adds c now u x y i late in
        let all_of = replayed-owed c u x in
        let newest = ap (newest_with y) left ∙ subst (λ (zs : List Entry). newest_with y (drop i.count zs) ≡ newest_with x zs) all_of i.newest in
        let behind : max (beyond x) (newest_with x (owed c u x)) < suc (max start.word (newest_with y (drop i.count (owed c u x)))) =
        subst (λ (k : ℕ). max (beyond x) (newest_with x (owed c u x)) < suc (max start.word k)) (sym newest ∙ ap (newest_with y) left) (omega (arith, beyond-low c start u x m.words)) in
        let held : (next : ℕ) → max (beyond x) (newest_with x (owed c u x)) < next → Adds (next_of next (drop i.count (owed c u x))) x.held (take i.count (owed c u x)) y.held =
        subst (λ (zs : List Entry). (next : ℕ) → max (beyond x) (newest_with x zs) < next → Adds (next_of next (drop i.count zs)) x.held (take i.count zs) y.held) all_of i.held in
        meets-taken past Out Out u x y i.count (held (suc (max start.word (newest_with y (drop i.count (owed c u x))))) behind)
        left newest (le-max_right start.word (newest_with x (owed c u x))) (le-max_right start.word (newest_with x (owed c u x)))
        (subst (λ (zs : List Entry). All (λ e. e.minute ≤ y.mark) (take i.count zs)) all_of i.reached) i.mark i.bound
        (λ closed. ⊎_elim (λ cut. omega (arith, cut)) (λ three. omega (arith, m.words three.0, three.1, three.2)) (i.words closed)) m

    -- CLOSE
    pub meets-close : (past : List HistoryMinute) (s : Standing) (u : UnitView) (x y : CardView) → IsClosing Adds x y → owed c u x ≡ [] → x.word ≤ max start.word x.newest → Meets c start Keeps past s u x → Meets c start Keeps past Out u y
    meets-close past s u x y k none words m =
        let left = owed-close Adds c u x y k none in
        meets-taken past s Out u x y 0 (subst (λ (zs : List Entry). Adds (comes_from start Out zs y) x.held [] y.held) (sym none) (k.held (suc (max start.word y.newest)) (omega arith)))
        (left ∙ sym none) (ap (newest_with y) left ∙ k.newest ∙ ap (newest_with x) (sym none)) m.accepted (le-max_right start.word (newest_with x (owed c u x))) (All-nil (λ (e : Entry). e.minute ≤ y.mark)) k.mark k.bound
        (λ closed. omega (arith, words, k.words, k.newest)) m

    -- KEEP of a card
    pub owed-on_card : (e : Entry) (u : UnitView) (x y : CardView) → y.session ≡ x.session → y.mark ≡ e.minute → x.mark ≤ e.minute → owed c u x ≡ e ∷ [] → owed c u y ≡ []
    owed-on_card e u x y session mark h is =
        ap (λ (s : ℕ). owed_in (row c u) u.last s y.mark) session ∙ ap (owed_in (row c u) u.last x.session) mark
        ∙ owed-moved (row c u) u.last x.session x.mark e.minute 1 h
        (subst (λ (zs : List Entry). All (λ d. d.minute ≤ e.minute) (take 1 zs)) (sym is) (all-one (λ (d : Entry). d.minute ≤ e.minute) e (omega arith)))
        (subst (λ (zs : List Entry). All (λ d. e.minute < d.minute) (drop 1 zs)) (sym is) (All-nil (λ (d : Entry). e.minute < d.minute)))
        ∙ ap (drop 1) is

    pub owed-unmoved : (u : UnitView) (x y : CardView) → y.session ≡ x.session → y.mark ≡ x.mark → owed c u y ≡ owed c u x
    owed-unmoved u x y session mark = ap (λ (s : ℕ). owed_in (row c u) u.last s y.mark) session ∙ ap (owed_in (row c u) u.last x.session) mark

    pub meets-on_card : (past : List HistoryMinute) (s t : Standing) (e : Entry) (u : UnitView) (x y : CardView) → ((n : ℕ) → since s n ≤ e.minute) → ((n : ℕ) → since t n ≡ e.minute) → start.word < e.minute →
        IsOnCard Adds e x y → 0 < x.session → x.mark ≤ e.minute → owed c u x ≡ e ∷ [] → Meets c start Keeps past s u x → Meets c start Keeps past t u y
    meets-on_card past s t e u x y before at fresh k open_ h is m = ⊎_elim
        (λ old. let same = owed-unmoved u x y k.session old.0 in
        meets-taken past s t u x y 0 (subst (λ (zs : List Entry). Adds (comes_from start t zs y) x.held [] y.held) (sym is) old.1) same (ap (newest_with y) (same ∙ is) ∙ ap (newest_with x) (sym is)) goes reached
        (All-nil (λ (e : Entry). e.minute ≤ y.mark)) (omega (arith, old.0)) k.bound closed m)
        (λ new. let none = owed-on_card e u x y k.session new.0 h is in
        meets-taken past s t u x y 1 (subst (λ (zs : List Entry). Adds (comes_from start t (drop 1 zs) y) x.held (take 1 zs) y.held) (sym is) (subst (λ (k : ℕ). Adds k x.held (e ∷ []) y.held) behind new.1))
        (none ∙ sym (ap (drop 1) is)) (ap (newest_with y) none ∙ new.2 ∙ ap (newest_with x) (sym is)) goes reached
        (subst (λ (zs : List Entry). All (λ d. d.minute ≤ y.mark) (take 1 zs)) (sym is) (all-one (λ (d : Entry). d.minute ≤ y.mark) e (omega (arith, new.0)))) (omega (arith, new.0, h)) k.bound closed m)
        k.side
      where
        closed : y.session ≡ 0 → y.word ≤ max start.word y.newest
        closed is = absurd (omega (arith, is, k.session, open_))

        goes : since s (newest_with x (owed c u x)) ≤ max start.word (since t (newest_with x (owed c u x)))
        goes = omega (arith, before (newest_with x (owed c u x)), at (newest_with x (owed c u x)))

        reached : since t (newest_with x (owed c u x)) ≤ max start.word (newest_with x (owed c u x))
        reached = omega (arith, at (newest_with x (owed c u x)), ap (newest_with x) is, closed-from e)

        behind : suc e.minute ≡ suc (max start.word (since t y.newest))
        behind = omega (arith, at y.newest, fresh)
