-- How the history grows, what was reached stays reached, and its minutes rise.
use Rattle.std.proofs.Common.{◌≡◌, ◌⊎◌, inl, inr, ⊎_elim, ℕ, suc, ◌<◌, ◌≤◌, Bool, true, false, cond, Option, Some, None, List, [], ◌∷◌, ◌++◌, All, Contains, refl, ap, subst, ◌∙◌, sym, arith, filter, nat_le, append_assoc}
use Rattle.std.proofs.lemmas.Bool.Decides.{nat_tests}
use Rattle.std.proofs.lemmas.List.Elements.{filter-append, filter_passes, All-cons, All-head, All-tail, All-weaker, All-append, All-map, All-filter, All-contains, Contains-append_left, Contains-append_right, Contains-push, Contains-push_cases, Contains-append_cases}
use Rattle.std.proofs.lemmas.List.{append-nil, append_cancel_left}
use Rattle.std.proofs.lemmas.Grind.{flat_map-append}
use Rattle.std.specs.Prelude.{option_to_list}
use Rattle.log_model.specs.activity_codec.declared.entries.Entry.{Entry}
use Rattle.log_model.specs.activity_codec.declared.values.Slot.{Slot}
use Rattle.log_model.specs.activity_codec.declared.values.Slot.TheVariants.{Driver, CoDriver}
use Rattle.log_model.specs.trace_model.declared.Card.{Card}
use Rattle.log_model.specs.Slots.{same_card}
use Rattle.history_model.specs.Minutes.{up_to, HistoryMinute, Seat, on_card, entry_in, is_crew, card_history}
use Rattle.history_model.specs.Book.{Book, all, kept, broken, found, IsReached, IsNext, Rising, Between, Ordered, IsFork, IsMark}
use Rattle.history_model.proofs.Filters.{filter-none, filter-whole, filter-weaker, all-one, all-front, all-back}

-- MINUTES UP TO ONE
within : (k m : ℕ) → m ≤ k → nat_le m k ≡ true
within k m h = grind (arith, nat_tests)

passed : (k m : ℕ) → nat_le m k ≡ true → m ≤ k
passed k m h = grind (arith, nat_tests)

beyond_it : (k m : ℕ) → k < m → nat_le m k ≡ false
beyond_it k m h = grind (arith, nat_tests)

pub up_to-whole : (k : ℕ) (past : List HistoryMinute) → All (λ i. i.minute ≤ k) past → up_to k past ≡ past
up_to-whole k past each = filter-whole (λ i. nat_le i.minute k) past (All-weaker (λ i. i.minute ≤ k) (λ i. nat_le i.minute k ≡ true) (λ i h. within k i.minute h) past each)

pub up_to-twice : (k : ℕ) (past : List HistoryMinute) → up_to k (up_to k past) ≡ up_to k past
up_to-twice k past = filter-weaker (λ i. nat_le i.minute k) (λ i. nat_le i.minute k) (λ i is. is) past

pub up_to-before : (k : ℕ) (past : List HistoryMinute) (i : HistoryMinute) → k < i.minute → up_to k (past ++ (i ∷ [])) ≡ up_to k past
up_to-before k past i late = filter-append (λ i. nat_le i.minute k) past (i ∷ [])
    ∙ ap (λ (zs : List HistoryMinute). up_to k past ++ zs) (filter-none (λ i. nat_le i.minute k) (i ∷ []) (all-one (λ (j : HistoryMinute). nat_le j.minute k ≡ false) i (beyond_it k i.minute late)))
    ∙ append-nil (up_to k past)

pub up_to-within : (k : ℕ) (past : List HistoryMinute) → All (λ i. i.minute ≤ k) (up_to k past)
up_to-within k past = All-weaker (λ (i : HistoryMinute). nat_le i.minute k ≡ true) (λ i. i.minute ≤ k) (λ i h. passed k i.minute h) (up_to k past) (filter_passes (λ (i : HistoryMinute). nat_le i.minute k) past)

pub contains-up_to : (k : ℕ) (past : List HistoryMinute) (i : HistoryMinute) → i.minute ≤ k → Contains past i → Contains (up_to k past) i
contains-up_to k [] i le at = absurd (omega (arith, at.1))
contains-up_to k (x ∷ past) i le at = ⊎_elim
    (λ first. ⊎_elim (λ none. absurd (omega (arith, none.1))) (λ is. here is (nat_le x.minute k) refl) (Contains-push_cases [] x i first))
    (λ rest. there (nat_le x.minute k) (contains-up_to k past i le rest))
    (Contains-append_cases (x ∷ []) past i at)
  where
    there : (b : Bool) → Contains (up_to k past) i → Contains (cond b (x ∷ up_to k past) (up_to k past)) i
    there true rest = Contains-append_right (x ∷ []) (up_to k past) i rest
    there false rest = rest

    here : x ≡ i → (b : Bool) → nat_le x.minute k ≡ b → Contains (cond b (x ∷ up_to k past) (up_to k past)) i
    here is true e = Contains-append_left (x ∷ []) (up_to k past) i (0, omega arith, is)
    here is false e = absurd (let le' : x.minute ≤ k = subst (λ (j : HistoryMinute). j.minute ≤ k) (sym is) le in let yes = within k x.minute le' in grind (arith, yes, e))

-- WHAT MINUTES SAY ON A CARD
pub history-append : (c : Card) (xs ys : List HistoryMinute) → card_history c (xs ++ ys) ≡ card_history c xs ++ card_history c ys
unfolding card_history
history-append c xs ys = flat_map-append (on_card c) xs ys

pub history-one : (c : Card) (i : HistoryMinute) → card_history c (i ∷ []) ≡ on_card c i
unfolding card_history
history-one c i = append-nil (on_card c i)

pub history-none : (c : Card) → card_history c [] ≡ []
unfolding card_history
history-none c = refl

pub on_card-minute : (c : Card) (i : HistoryMinute) → All (λ e. e.minute ≡ i.minute) (on_card c i)
on_card-minute c i = All-append (λ (e : Entry). e.minute ≡ i.minute) (entry_in c Driver i i.driver) (entry_in c CoDriver i i.codriver) (each Driver i.driver) (each CoDriver i.codriver)
  where
    each : (slot : Slot) (seat : Seat) → All (λ (e : Entry). e.minute ≡ i.minute) (entry_in c slot i seat)
    each slot seat = All-map (λ (e : Entry). e.minute ≡ i.minute) (λ (d : Card). record { minute = i.minute; slot = slot; crew = is_crew i; act = seat.act }) (filter (same_card c) (option_to_list seat.card)) (λ k d lt. refl)

-- THE BOOK
pub all-none : (b : Book) → b.maybe ≡ None → all b ≡ b.sure
all-none b none = ap (λ (o : Option HistoryMinute). b.sure ++ option_to_list o) none ∙ append-nil b.sure

pub all-kept : (i : HistoryMinute) (b : Book) → all (kept i b) ≡ b.sure ++ i ∷ []
all-kept i b = append-nil (b.sure ++ i ∷ [])

pub all-found : (k : ℕ) (b : Book) → all (found k b) ≡ up_to k (all b)
all-found k b = append-nil (up_to k (all b))

-- the minutes up to one that all sure ones reach
pub up_to-all : (b : Book) (k : ℕ) → All (λ i. i.minute ≤ k) b.sure → up_to k (all b) ≡ b.sure ++ up_to k (option_to_list b.maybe)
up_to-all b k each = filter-append (λ i. nat_le i.minute k) b.sure (option_to_list b.maybe) ∙ ap (λ (zs : List HistoryMinute). zs ++ up_to k (option_to_list b.maybe)) (up_to-whole k b.sure each)

-- of at most one minute, all or none
pub up_to-one : (k : ℕ) (o : Option HistoryMinute) → (up_to k (option_to_list o) ≡ []) ⊎ (up_to k (option_to_list o) ≡ option_to_list o)
up_to-one k None = inl refl
up_to-one k (Some i) = go (nat_le i.minute k)
  where
    go : (b : Bool) → (cond b (i ∷ []) [] ≡ []) ⊎ (cond b (i ∷ []) [] ≡ i ∷ [])
    go true = inr refl
    go false = inl refl

-- what an image shows was reached
pub reached-shown : (b : Book) (k : ℕ) → All (λ i. i.minute ≤ k) b.sure → IsReached b (up_to k (all b))
reached-shown b k each = inl (⊎_elim
    (λ none. (option_to_list b.maybe, sym (ap (λ (zs : List HistoryMinute). zs ++ option_to_list b.maybe) (up_to-all b k each ∙ ap (λ (zs : List HistoryMinute). b.sure ++ zs) none ∙ append-nil b.sure))))
    (λ one. ([], sym (append-nil (up_to k (all b)) ∙ up_to-all b k each ∙ ap (λ (zs : List HistoryMinute). b.sure ++ zs) one)))
    (up_to-one k b.maybe))

-- a front of a list with at most one element more is a front of the list, or all of it
front-but : (xs : List HistoryMinute) (o : Option HistoryMinute) (ys rest : List HistoryMinute) → xs ++ option_to_list o ≡ ys ++ rest → ((more : List HistoryMinute) × (xs ≡ ys ++ more)) ⊎ (xs ++ option_to_list o ≡ ys)
front-but xs None ys rest is = inl (rest, sym (append-nil xs) ∙ is)
front-but xs (Some i) ys rest is = go xs ys rest is
  where
    go : (xs ys rest : List HistoryMinute) → xs ++ (i ∷ []) ≡ ys ++ rest → ((more : List HistoryMinute) × (xs ≡ ys ++ more)) ⊎ (xs ++ (i ∷ []) ≡ ys)
    go xs [] rest is = inl (xs, refl)
    go [] (y ∷ ys) rest is = inr (let tail : [] ≡ ys ++ rest = cc in let none = no_rest ys rest (sym tail) in let head : i ≡ y = cc in ap (λ (j : HistoryMinute). j ∷ []) head ∙ ap (λ (zs : List HistoryMinute). y ∷ zs) (sym none))
      where
        no_rest : (ys rest : List HistoryMinute) → ys ++ rest ≡ [] → ys ≡ []
        no_rest [] rest is = refl
        no_rest (y ∷ ys) rest is = absurd (cc)
    go (x ∷ xs) (y ∷ ys) rest is =
        let head : x ≡ y = cc in let tail : xs ++ (i ∷ []) ≡ ys ++ rest = cc in
        ⊎_elim (λ f. inl (f.0, ap (λ (z : HistoryMinute). z ∷ xs) head ∙ ap (λ (zs : List HistoryMinute). y ∷ zs) f.1)) (λ w. inr (ap (λ (z : HistoryMinute). z ∷ (xs ++ (i ∷ []))) head ∙ ap (λ (zs : List HistoryMinute). y ∷ zs) w)) (go xs ys rest tail)

longer : (xs ys rest more : List HistoryMinute) → xs ≡ ys ++ rest → xs ++ more ≡ ys ++ (rest ++ more)
longer xs ys rest more is = ap (λ (zs : List HistoryMinute). zs ++ more) is ∙ append_assoc ys rest more

pub reached-kept : (b : Book) (i : HistoryMinute) (past : List HistoryMinute) → b.maybe ≡ None → IsReached b past → IsReached (kept i b) past
reached-kept b i past none (inl f) = inl (f.0 ++ (i ∷ []), all-kept i b ∙ longer b.sure past f.0 (i ∷ []) (sym (all-none b none) ∙ f.1))
reached-kept b i past none (inr l) = inr l

pub reached-broken : (b : Book) (i : HistoryMinute) (past : List HistoryMinute) → b.maybe ≡ None → IsReached b past → IsReached (broken i b) past
reached-broken b i past none (inl f) = inl (f.0 ++ (i ∷ []), longer b.sure past f.0 (i ∷ []) (sym (all-none b none) ∙ f.1))
reached-broken b i past none (inr l) = inr l

-- a minute that was begun, and then kept
pub reached-done : (b : Book) (i : HistoryMinute) (past : List HistoryMinute) → IsReached (broken i b) past → IsReached (kept i b) past
reached-done b i past (inl f) = inl (f.0, all-kept i b ∙ f.1)
reached-done b i past (inr l) = inr l

pub reached-found : (b : Book) (k : ℕ) (past : List HistoryMinute) → All (λ i. i.minute ≤ k) b.sure → IsReached b past → IsReached (found k b) past
reached-found b k past each (inr l) = inr (Contains-append_right (all b ∷ []) b.lost past l)
reached-found b k past each (inl f) = ⊎_elim
    (λ g. inl (g.0 ++ up_to k (option_to_list b.maybe), all-found k b ∙ up_to-all b k each ∙ longer b.sure past g.0 (up_to k (option_to_list b.maybe)) g.1))
    (λ whole. inr (0, omega arith, whole))
    (front-but b.sure b.maybe past f.0 f.1)

pub next-goes : (b d : Book) → ((past : List HistoryMinute) → IsReached b past → IsReached d past) → (past : List HistoryMinute) (next : Option HistoryMinute) → IsNext b past next → IsNext d past next
next-goes b d goes past None next = tt
next-goes b d goes past (Some i) next = goes (past ++ i ∷ []) next

-- MINUTES RISE
rising-from : (k m : ℕ) (past : List HistoryMinute) → k ≤ m → Rising m past → Rising k past
rising-from k m [] le rising = tt
rising-from k m (i ∷ past) le rising = (omega (arith, le, rising.0), rising.1)

rising-push : (k : ℕ) (past : List HistoryMinute) (i : HistoryMinute) → Rising k past → All (λ j. j.minute < i.minute) past → k < i.minute → Rising k (past ++ i ∷ [])
rising-push k [] i rising each late = (late, tt)
rising-push k (x ∷ past) i rising each late =
    (rising.0, rising-push x.minute past i rising.1 (All-tail (λ (j : HistoryMinute). j.minute < i.minute) x past each) (All-head (λ (j : HistoryMinute). j.minute < i.minute) x past each))

rising-filter : (p : HistoryMinute → Bool) (k : ℕ) (past : List HistoryMinute) → Rising k past → Rising k (filter p past)
rising-filter p k [] rising = tt
rising-filter p k (x ∷ past) rising = go (p x) (rising-filter p x.minute past rising.1)
  where
    go : (b : Bool) → Rising x.minute (filter p past) → Rising k (cond b (x ∷ filter p past) (filter p past))
    go true rest = (rising.0, rest)
    go false rest = rising-from k x.minute (filter p past) (omega (arith, rising.0)) rest

between-later : (first due later : ℕ) (past : List HistoryMinute) → due ≤ later → Between first due past → Between first later past
between-later first due later past le b = record { rising = b.rising; until = All-weaker (λ (i : HistoryMinute). i.minute < due) (λ i. i.minute < later) (λ i h. omega (arith, h, le)) past b.until }

pub ordered-later : (first due later : ℕ) (b : Book) → due ≤ later → Ordered first due b → Ordered first later b
ordered-later first due later b le o = record {
  begins = omega (arith, o.begins, le);
  now = between-later first due later (all b) le o.now;
  lost = All-weaker (Between first due) (Between first later) (λ past. between-later first due later past le) b.lost o.lost;
  forks = o.forks;
}

-- a minute from the next one on
pushed : (first due : ℕ) (b : Book) (i : HistoryMinute) → b.maybe ≡ None → due ≤ i.minute → Ordered first due b → Between first (suc i.minute) (b.sure ++ i ∷ [])
pushed first due b i none late o =
    let sure = subst (Between first due) (all-none b none) o.now in
    record {
      rising = rising-push first b.sure i sure.rising (All-weaker (λ (j : HistoryMinute). j.minute < due) (λ j. j.minute < i.minute) (λ j h. omega (arith, h, late)) b.sure sure.until) (omega (arith, o.begins, late));
      until = All-append (λ (j : HistoryMinute). j.minute < suc i.minute) b.sure (i ∷ []) (All-weaker (λ (j : HistoryMinute). j.minute < due) (λ j. j.minute < suc i.minute) (λ j h. omega (arith, h, late)) b.sure sure.until)
          (all-one (λ (j : HistoryMinute). j.minute < suc i.minute) i (omega arith));
    }

-- a lost minute is earlier than a new one
fork-on : (first due : ℕ) (b : Book) (i : HistoryMinute) (lost : List HistoryMinute) → b.maybe ≡ None → due ≤ i.minute → Between first due lost → IsFork (all b) lost → IsFork (b.sure ++ i ∷ []) lost
fork-on first due b i lost none late between f = record {
  front = f.front;
  rest = f.rest ++ i ∷ [];
  tail = f.tail;
  goes = ap (λ (zs : List HistoryMinute). zs ++ i ∷ []) (sym (all-none b none) ∙ f.goes) ∙ append_assoc f.front f.rest (i ∷ []);
  parts = f.parts;
  earlier = λ j k at there. ⊎_elim (f.earlier j k at)
      (λ is. subst (λ (z : HistoryMinute). j.minute < z.minute) is (omega (arith, All-contains (λ (z : HistoryMinute). z.minute < due) lost j between.until (subst (λ (zs : List HistoryMinute). Contains zs j) (sym f.parts) (Contains-append_right f.front f.tail j at)), late)))
      (Contains-push_cases f.rest i k there);
}

forks-on : (first due : ℕ) (b : Book) (i : HistoryMinute) → b.maybe ≡ None → due ≤ i.minute → Ordered first due b → All (IsFork (b.sure ++ i ∷ [])) b.lost
forks-on first due b i none late o k d lt = fork-on first due b i _ none late (o.lost k d lt) (o.forks k d lt)

-- what is found
fork-found : (b : Book) (k : ℕ) (lost : List HistoryMinute) → All (λ i. i.minute ≤ k) b.sure → IsFork (all b) lost → IsFork (up_to k (all b)) lost
fork-found b k lost each f = ⊎_elim
    (λ none. ⊎_elim (λ short. within_sure none short.0 short.1) (λ whole. beside none whole) (front-but b.sure b.maybe f.front f.rest f.goes))
    (λ one. subst (λ (zs : List HistoryMinute). IsFork zs lost) (sym (up_to-all b k each ∙ ap (λ (zs : List HistoryMinute). b.sure ++ zs) one)) f)
    (up_to-one k b.maybe)
  where
    sure : up_to k (option_to_list b.maybe) ≡ [] → up_to k (all b) ≡ b.sure
    sure none = up_to-all b k each ∙ ap (λ (zs : List HistoryMinute). b.sure ++ zs) none ∙ append-nil b.sure

    -- the rest of all is the rest of the sure ones and the last
    within_sure : up_to k (option_to_list b.maybe) ≡ [] → (more : List HistoryMinute) → b.sure ≡ f.front ++ more → IsFork (up_to k (all b)) lost
    within_sure none more is =
        let rest : f.rest ≡ more ++ option_to_list b.maybe = append_cancel_left f.front f.rest (more ++ option_to_list b.maybe) (sym f.goes ∙ ap (λ (zs : List HistoryMinute). zs ++ option_to_list b.maybe) is ∙ append_assoc f.front more (option_to_list b.maybe)) in
        record {
          front = f.front;
          rest = more;
          tail = f.tail;
          goes = sure none ∙ is;
          parts = f.parts;
          earlier = λ i j at there. f.earlier i j at (subst (λ (zs : List HistoryMinute). Contains zs j) (sym rest) (Contains-append_left more (option_to_list b.maybe) j there));
        }

    beside : up_to k (option_to_list b.maybe) ≡ [] → b.sure ++ option_to_list b.maybe ≡ f.front → IsFork (up_to k (all b)) lost
    beside none whole = record {
      front = b.sure;
      rest = [];
      tail = option_to_list b.maybe ++ f.tail;
      goes = sure none ∙ sym (append-nil b.sure);
      parts = f.parts ∙ ap (λ (zs : List HistoryMinute). zs ++ f.tail) (sym whole) ∙ append_assoc b.sure (option_to_list b.maybe) f.tail;
      earlier = λ i j at there. absurd (omega (arith, there.1));
    }

-- all minutes part from what is found of them
fork-all : (b : Book) (k : ℕ) → All (λ i. i.minute ≤ k) b.sure → IsFork (up_to k (all b)) (all b)
fork-all b k each = fork-found b k (all b) each (record { front = all b; rest = []; tail = []; goes = sym (append-nil (all b)); parts = sym (append-nil (all b)); earlier = λ i j at there. absurd (omega (arith, at.1)) })

pub ordered-kept : (first due : ℕ) (b : Book) (i : HistoryMinute) → b.maybe ≡ None → due ≤ i.minute → Ordered first due b → Ordered first (suc i.minute) (kept i b)
ordered-kept first due b i none late o = record {
  begins = omega (arith, o.begins, late);
  now = subst (Between first (suc i.minute)) (sym (all-kept i b)) (pushed first due b i none late o);
  lost = (ordered-later first due (suc i.minute) b (omega (arith, late)) o).lost;
  forks = subst (λ (zs : List HistoryMinute). All (IsFork zs) b.lost) (sym (all-kept i b)) (forks-on first due b i none late o);
}

pub ordered-broken : (first due : ℕ) (b : Book) (i : HistoryMinute) → b.maybe ≡ None → due ≤ i.minute → Ordered first due b → Ordered first (suc i.minute) (broken i b)
ordered-broken first due b i none late o = record {
  begins = omega (arith, o.begins, late);
  now = pushed first due b i none late o;
  lost = (ordered-later first due (suc i.minute) b (omega (arith, late)) o).lost;
  forks = forks-on first due b i none late o;
}

pub ordered-found : (first due k : ℕ) (b : Book) → All (λ i. i.minute ≤ k) b.sure → Ordered first due b → Ordered first due (found k b)
ordered-found first due k b each o = record {
  begins = o.begins;
  now = subst (Between first due) (sym (all-found k b)) (record {
    rising = rising-filter (λ i. nat_le i.minute k) first (all b) o.now.rising;
    until = All-filter (λ (i : HistoryMinute). nat_le i.minute k) (λ (i : HistoryMinute). i.minute < due) (all b) o.now.until;
  });
  lost = All-cons (Between first due) (all b) b.lost o.now o.lost;
  forks = subst (λ (zs : List HistoryMinute). All (IsFork zs) (all b ∷ b.lost)) (sym (all-found k b))
      (All-cons (IsFork (up_to k (all b))) (all b) b.lost (fork-all b k each) (All-weaker (IsFork (all b)) (IsFork (up_to k (all b))) (λ lost f. fork-found b k lost each f) b.lost o.forks));
}

-- of minutes that rise, those in front are earlier
rising-first : (k : ℕ) (past : List HistoryMinute) (i : HistoryMinute) → Rising k past → Contains past i → k < i.minute
rising-first k [] i rising at = absurd (omega (arith, at.1))
rising-first k (x ∷ past) i rising at = ⊎_elim
    (λ here. ⊎_elim (λ none. absurd (omega (arith, none.1))) (λ is. subst (λ (z : HistoryMinute). k < z.minute) is rising.0) (Contains-push_cases [] x i here))
    (λ there. omega (arith, rising.0, rising-first x.minute past i rising.1 there))
    (Contains-append_cases (x ∷ []) past i at)

rising-back : (k : ℕ) (xs ys : List HistoryMinute) → Rising k (xs ++ ys) → Rising k ys
rising-back k [] ys rising = rising
rising-back k (x ∷ xs) ys rising = rising-from k x.minute ys (omega (arith, rising.0)) (rising-back x.minute xs ys rising.1)

rising-split : (k : ℕ) (xs ys : List HistoryMinute) (i j : HistoryMinute) → Rising k (xs ++ ys) → Contains xs i → Contains ys j → i.minute < j.minute
rising-split k [] ys i j rising at there = absurd (omega (arith, at.1))
rising-split k (x ∷ xs) ys i j rising at there = ⊎_elim
    (λ here. ⊎_elim (λ none. absurd (omega (arith, none.1))) (λ is. subst (λ (z : HistoryMinute). z.minute < j.minute) is (rising-first x.minute ys j (rising-back x.minute xs ys rising.1) there)) (Contains-push_cases [] x i here))
    (λ later. rising-split x.minute xs ys i j rising.1 later there)
    (Contains-append_cases (x ∷ []) xs i at)

-- a minute of the book that is not later than the mark of what was reached is among that
pub reached-has : (first due : ℕ) (b : Book) (past : List HistoryMinute) (last : ℕ) (i : HistoryMinute) → Ordered first due b → IsReached b past → IsMark first past last → Contains (all b) i → i.minute ≤ last → Contains past i
reached-has first due b past last i o reached (inl is) at le = absurd (omega (arith, is, le, rising-first first (all b) i o.now.rising at))
reached-has first due b past last i o (inl f) (inr (j, there, same)) at le = ⊎_elim (λ in_. in_)
    (λ after. absurd (omega (arith, le, same, rising-split first past f.0 j i (subst (Rising first) f.1 o.now.rising) there after)))
    (Contains-append_cases past f.0 i (subst (λ (zs : List HistoryMinute). Contains zs i) f.1 at))
reached-has first due b past last i o (inr l) (inr (j, there, same)) at le = ⊎_elim
    (λ in_. subst (λ (zs : List HistoryMinute). Contains zs i) (sym f.parts) (Contains-append_left f.front f.tail i in_))
    (λ after. absurd (⊎_elim
    (λ early. omega (arith, le, same, rising-split first f.front f.rest j i (subst (Rising first) f.goes o.now.rising) early after))
    (λ lost. omega (arith, le, same, f.earlier j i lost after))
    (Contains-append_cases f.front f.tail j (subst (λ (zs : List HistoryMinute). Contains zs j) f.parts there))))
    (Contains-append_cases f.front f.rest i (subst (λ (zs : List HistoryMinute). Contains zs i) f.goes at))
  where
    f : IsFork (all b) past
    f = All-contains (IsFork (all b)) b.lost past o.forks l

-- what was reached is earlier than what may be decided next
reached-earlier : (first due : ℕ) (b : Book) (past : List HistoryMinute) → Ordered first due b → IsReached b past → All (λ i. i.minute < due) past
reached-earlier first due b past o (inl f) = all-front (λ (i : HistoryMinute). i.minute < due) past f.0 (subst (All (λ (i : HistoryMinute). i.minute < due)) f.1 o.now.until)
reached-earlier first due b past o (inr l) = (All-contains (Between first due) b.lost past o.lost l).until

pub next-earlier : (first due : ℕ) (b : Book) (past : List HistoryMinute) (i : HistoryMinute) → Ordered first due b → IsReached b (past ++ i ∷ []) → i.minute < due
next-earlier first due b past i o reached =
    All-head (λ (j : HistoryMinute). j.minute < due) i [] (all-back (λ (j : HistoryMinute). j.minute < due) past (i ∷ []) (reached-earlier first due b (past ++ i ∷ []) o reached))

pub mark-earlier : (first due : ℕ) (b : Book) (last : ℕ) → Ordered first due b → IsMark first (all b) last → last < due
mark-earlier first due b last o (inl is) = omega (arith, is, o.begins)
mark-earlier first due b last o (inr at) = subst (λ (n : ℕ). n < due) at.2 (All-contains (λ (j : HistoryMinute). j.minute < due) (all b) at.0 o.now.until at.1)

pub mark-more : (first : ℕ) (xs ys : List HistoryMinute) (last : ℕ) → IsMark first xs last → IsMark first (xs ++ ys) last
mark-more first xs ys last (inl is) = inl is
mark-more first xs ys last (inr at) = inr (at.0, Contains-append_left xs ys at.0 at.1, at.2)

pub mark-last : (first : ℕ) (xs : List HistoryMinute) (i : HistoryMinute) (last : ℕ) → last ≡ i.minute → IsMark first (xs ++ i ∷ []) last
mark-last first xs i last is = inr (i, Contains-push xs i, sym is)

pub mark-up_to : (first : ℕ) (xs : List HistoryMinute) (last : ℕ) → IsMark first xs last → IsMark first (up_to last xs) last
mark-up_to first xs last (inl is) = inl is
mark-up_to first xs last (inr at) = inr (at.0, contains-up_to last xs at.0 (omega (arith, at.2)) at.1, at.2)
