-- One event more of a type that keeps one a day: what stands in the places is what is to be kept.
use Rattle.std.proofs.Common.{◌≡◌, ◌∙◌, ◌⊎◌, inl, inr, ℕ, ◌+◌, ◌/◌, ◌<◌, ◌≤◌, Bool, true, false, cond, Option, Some, None, List, [], ◌∷◌, ◌++◌, length, refl, ap, sym, subst, arith, append-nil, All}
use Rattle.std.specs.Prelude.{nat_lt, nat_le, ◌==◌, ◌&&◌, ◌||◌, not, find, position}
use Rattle.std.specs.List.{list_all, list_any, position_or_len}
use Rattle.std.proofs.lemmas.Bool.{eqb-true, eqb-false, eq-eqb, ne_eqb, ltb-true, ltb-false, le-leb, leb-true, lt-ltb}
use Rattle.std.proofs.lemmas.List.{length-append}
use Rattle.std.proofs.lemmas.List.Elements.{All-nil, All-cons, All-head, All-tail, All-append, All-push, All-weaker, filter-append}
use Rattle.std.proofs.lemmas.List.Folds.{find-append}
use Rattle.std.proofs.lemmas.List.Quantifiers.{position-Some}
use Rattle.activity_codec.proofs.ByTest.{by_test}
use Rattle.event_model.specs.declared.kinds.Purpose.{Purpose}
use Rattle.event_model.specs.declared.entries.Held.{Held}
use Rattle.event_model.specs.Places.{earliest, held_at, where_later, is_of_day, measure, place_beside, placed}
use Rattle.event_model.specs.Kept.{stored, on_day, best_of, KeepsDays}
use Rattle.event_model.proofs.Retaining.{all-front, all-back, Split, split-at, and-first, and-second, or-second, Later, all-later, any-found, none-earliest, stored-one, stored-none, stored-all, stored-most, stored-append}

-- an event of another day
abbrev pub Other : ℕ → Held → Type 0
Other day h = h.begin / 86400 ≡ day → ⊥

pub on-append : (day : ℕ) (xs ys : List Held) → on_day day (xs ++ ys) ≡ on_day day xs ++ on_day day ys
on-append day xs ys = filter-append (λ (h : Held). h.begin / 86400 == day) xs ys

pub on-here : (day : ℕ) (h : Held) (xs : List Held) → h.begin / 86400 ≡ day → on_day day (h ∷ xs) ≡ h ∷ on_day day xs
on-here day h xs is = rw (eq-eqb (h.begin / 86400) day is) refl

pub on-off : (day : ℕ) (h : Held) (xs : List Held) → Other day h → on_day day (h ∷ xs) ≡ on_day day xs
on-off day h xs other = rw (ne_eqb (h.begin / 86400) day other) refl

on-none : (day : ℕ) (xs : List Held) → All (Other day) xs → on_day day xs ≡ []
on-none day [] each = refl
on-none day (x ∷ xs) each = on-off day x xs (All-head (Other day) x xs each) ∙ on-none day xs (All-tail (Other day) x xs each)

pub none-on : (day : ℕ) (xs : List Held) → on_day day xs ≡ [] → All (Other day) xs
none-on day [] none = All-nil (Other day)
none-on day (x ∷ xs) none =
    by_test (x.begin / 86400 == day)
    (λ is. absurd (let e = on-here day x xs (eqb-true (x.begin / 86400) day is) in cc))
    (λ is. All-cons (Other day) x xs (eqb-false (x.begin / 86400) day is) (none-on day xs (sym (on-off day x xs (eqb-false (x.begin / 86400) day is)) ∙ none)))

-- the one of its day stands alone
alone : (day : ℕ) (sb sa : List Held) (x : Held) → x.begin / 86400 ≡ day → length (on_day day (sb ++ x ∷ sa)) ≤ 1 → All (Other day) sb × All (Other day) sa
alone day sb sa x is one =
    let parts : on_day day (sb ++ x ∷ sa) ≡ on_day day sb ++ x ∷ on_day day sa = on-append day sb (x ∷ sa) ∙ ap (λ (ys : List Held). on_day day sb ++ ys) (on-here day x sa is) in
    let n : length (on_day day (sb ++ x ∷ sa)) ≡ length (on_day day sb) + length (x ∷ on_day day sa) = ap length parts ∙ length-append (on_day day sb) (x ∷ on_day day sa) in
    let b : length (on_day day sb) ≡ 0 = omega (arith, n, one) in
    let a : length (on_day day sa) ≡ 0 = omega (arith, n, one) in
    (none-on day sb (empty (on_day day sb) b), none-on day sa (empty (on_day day sa) a))
  where
    empty : (xs : List Held) → length xs ≡ 0 → xs ≡ []
    empty [] n = refl
    empty (y ∷ ys) n = absurd (omega (arith, n))

-- fewer of a day without one
on-less : (day : ℕ) (sb sa : List Held) (x : Held) → length (on_day day (sb ++ sa)) ≤ length (on_day day (sb ++ x ∷ sa))
on-less day sb sa x =
    let l : length (on_day day (sb ++ sa)) ≡ length (on_day day sb) + length (on_day day sa) = ap length (on-append day sb sa) ∙ length-append (on_day day sb) (on_day day sa) in
    let r : length (on_day day (sb ++ x ∷ sa)) ≡ length (on_day day sb) + length (on_day day (x ∷ sa)) = ap length (on-append day sb (x ∷ sa)) ∙ length-append (on_day day sb) (on_day day (x ∷ sa)) in
    by_test (x.begin / 86400 == day)
    (λ is. let e : length (on_day day (x ∷ sa)) ≡ length (x ∷ on_day day sa) = ap length (on-here day x sa (eqb-true (x.begin / 86400) day is)) in omega (arith, l, r, e))
    (λ is. let e : length (on_day day (x ∷ sa)) ≡ length (on_day day sa) = ap length (on-off day x sa (eqb-false (x.begin / 86400) day is)) in omega (arith, l, r, e))

-- what is found passes
find-passes : (q : Held → Bool) (xs : List Held) (x : Held) → find q xs ≡ Some x → q x ≡ true
find-passes q [] x is = cc
find-passes q (y ∷ ys) x is =
    by_test (q y)
    (λ passed. let e : y ≡ x = let at : cond true (Some y) (find q ys) ≡ Some x = rw passed at is in cc in subst (λ (z : Held). q z ≡ true) e passed)
    (λ failed. let at : find q ys ≡ Some x = rw failed at is in find-passes q ys x at)

find-none : (q : Held → Bool) (xs : List Held) → All (λ x. q x ≡ false) xs → find q xs ≡ None
find-none q [] each = refl
find-none q (x ∷ xs) each = rw (All-head (λ (y : Held). q y ≡ false) x xs each) (find-none q xs (All-tail (λ (y : Held). q y ≡ false) x xs each))

-- the first that passes is the first that passes a stronger test too, where it does
find-stronger : (q r : Held → Bool) (xs : List Held) (x : Held) → ((y : Held) → q y ≡ false → r y ≡ false) → r x ≡ true → find q xs ≡ Some x → find r xs ≡ Some x
find-stronger q r [] x weaker passed is = is
find-stronger q r (y ∷ ys) x weaker passed is =
    by_test (q y)
    (λ here. let e : y ≡ x = let at : cond true (Some y) (find q ys) ≡ Some x = rw here at is in cc in
    let ry : r y ≡ true = subst (λ (z : Held). r z ≡ true) (sym e) passed in rw ry (ap Some e))
    (λ failed. let at : find q ys ≡ Some x = rw failed at is in rw (weaker y failed) (find-stronger q r ys x weaker passed at))

module _ (p : Purpose) where
  abbrev Most : ℕ → Held → Type 0
  Most m h = measure p h ≤ m

  abbrev tops : List Held → Held → Bool
  tops xs h = list_all (λ other. nat_le (measure p other) (measure p h)) xs

  all-most : (m : ℕ) (xs : List Held) → list_all (λ h. nat_le (measure p h) m) xs ≡ true → All (Most m) xs
  all-most m [] h = All-nil (Most m)
  all-most m (x ∷ xs) h =
      All-cons (Most m) x xs (leb-true (measure p x) m (and-first (nat_le (measure p x) m) (list_all (λ y. nat_le (measure p y) m) xs) h))
      (all-most m xs (and-second (nat_le (measure p x) m) (list_all (λ y. nat_le (measure p y) m) xs) h))

  most-all : (m : ℕ) (xs : List Held) → All (Most m) xs → list_all (λ h. nat_le (measure p h) m) xs ≡ true
  most-all m [] each = refl
  most-all m (x ∷ xs) each = rw (le-leb (measure p x) m (All-head (Most m) x xs each)) (most-all m xs (All-tail (Most m) x xs each))

  same : (e : Held) → nat_le (measure p e) (measure p e) ≡ true
  same e = le-leb (measure p e) (measure p e) (omega arith)

  best-alone : (e : Held) → best_of p (e ∷ []) ≡ Some e
  best-alone e = rw (same e) refl

  -- the test over one more
  tops-more : (xs : List Held) (e h : Held) → tops (xs ++ e ∷ []) h ≡ (tops xs h && nat_le (measure p e) (measure p h))
  tops-more [] e h = right (nat_le (measure p e) (measure p h))
    where
      right : (b : Bool) → (b && true) ≡ (true && b)
      right true = refl
      right false = refl
  tops-more (x ∷ xs) e h = rw (tops-more xs e h) (assoc (nat_le (measure p x) (measure p h)) (tops xs h) (nat_le (measure p e) (measure p h)))
    where
      assoc : (a b c : Bool) → (a && (b && c)) ≡ ((a && b) && c)
      assoc true b c = refl
      assoc false b c = refl

  and-none : (a : Bool) → (a && false) ≡ false
  and-none true = refl
  and-none false = refl

  both : (a b : Bool) → a ≡ true → b ≡ true → (a && b) ≡ true
  both a b x y = rw x y

  -- one that measures more is the best from now on
  best-above : (xs : List Held) (x e : Held) → best_of p xs ≡ Some x → measure p x < measure p e → best_of p (xs ++ e ∷ []) ≡ Some e
  best-above xs x e is more =
      let each : All (Most (measure p x)) xs = all-most (measure p x) xs (find-passes (tops xs) xs x is) in
      let fail : All (λ (h : Held). tops (xs ++ e ∷ []) h ≡ false) xs =
      All-weaker (Most (measure p x)) (λ (h : Held). tops (xs ++ e ∷ []) h ≡ false)
      (λ h m. tops-more xs e h ∙ ap (λ (b : Bool). tops xs h && b) (failed h m) ∙ and-none (tops xs h)) xs each in
      let top : tops xs e ≡ true = most-all (measure p e) xs (All-weaker (Most (measure p x)) (Most (measure p e)) (λ h m. omega (arith, m, more)) xs each) in
      let passes : tops (xs ++ e ∷ []) e ≡ true = tops-more xs e e ∙ both (tops xs e) (nat_le (measure p e) (measure p e)) top (same e) in
      find-append (tops (xs ++ e ∷ [])) xs (e ∷ []) ∙ rw (find-none (tops (xs ++ e ∷ [])) xs fail) (rw passes refl)
    where
      failed : (h : Held) → measure p h ≤ measure p x → nat_le (measure p e) (measure p h) ≡ false
      failed h m = by_test (nat_le (measure p e) (measure p h)) (λ passed. absurd (let le : measure p e ≤ measure p h = leb-true (measure p e) (measure p h) passed in omega (arith, le, m, more))) (λ is. is)

  -- the best stays the best where one more measures no more
  best-below : (xs : List Held) (x e : Held) → best_of p xs ≡ Some x → measure p e ≤ measure p x → best_of p (xs ++ e ∷ []) ≡ Some x
  best-below xs x e is le =
      let top : tops xs x ≡ true = find-passes (tops xs) xs x is in
      let passes : tops (xs ++ e ∷ []) x ≡ true = tops-more xs e x ∙ both (tops xs x) (nat_le (measure p e) (measure p x)) top (le-leb (measure p e) (measure p x) le) in
      let found : find (tops (xs ++ e ∷ [])) xs ≡ Some x = find-stronger (tops xs) (tops (xs ++ e ∷ [])) xs x (λ y failed. tops-more xs e y ∙ rw failed refl) passes is in
      find-append (tops (xs ++ e ∷ [])) xs (e ∷ []) ∙ rw found refl

any-mid : (q : Held → Bool) (sb sa : List Held) (e : Held) → q e ≡ true → list_any q (sb ++ e ∷ sa) ≡ true
any-mid q [] sa e is = rw is refl
any-mid q (y ∷ sb) sa e is = rw (any-mid q sb sa e is) (or-second (q y))

-- more in the middle
any-more : (q : Held → Bool) (sb sa : List Held) (e : Held) → list_any q (sb ++ sa) ≡ true → list_any q (sb ++ e ∷ sa) ≡ true
any-more q [] sa e is = rw is (or-second (q e))
any-more q (y ∷ sb) sa e is =
    by_test (q y) (λ passed. rw passed refl) (λ failed. let at : list_any q (sb ++ sa) ≡ true = rw failed at is in rw failed (any-more q sb sa e at))

any-less : (q : Held → Bool) (sb sa : List Held) (x : Held) → q x ≡ false → list_any q (sb ++ x ∷ sa) ≡ true → list_any q (sb ++ sa) ≡ true
any-less q [] sa x failed is = rw failed at is
any-less q (y ∷ sb) sa x failed is =
    by_test (q y) (λ passed. rw passed refl) (λ not_y. let at : list_any q (sb ++ x ∷ sa) ≡ true = rw not_y at is in rw not_y (any-less q sb sa x failed at))

any-swap : (q : Held → Bool) (sb sa : List Held) (x e : Held) → q x ≡ q e → list_any q (sb ++ x ∷ sa) ≡ list_any q (sb ++ e ∷ sa)
any-swap q [] sa x e is = rw is refl
any-swap q (y ∷ sb) sa x e is = ap (λ (b : Bool). q y || b) (any-swap q sb sa x e is)

pub any-none : (day : ℕ) (xs : List Held) → All (Other day) xs → list_any (λ h. h.begin / 86400 == day) xs ≡ true → ⊥
any-none day [] each is = cc
any-none day (x ∷ xs) each is =
    let at : list_any (λ h. h.begin / 86400 == day) xs ≡ true = rw (ne_eqb (x.begin / 86400) day (All-head (Other day) x xs each)) at is in
    any-none day xs (All-tail (Other day) x xs each) at

-- what passes no test is nowhere
pub position-none : (q : Held → Bool) (xs : List Held) → position q xs ≡ None → All (λ x. q x ≡ false) xs
position-none q xs is = go xs (by_test (list_any q xs) (λ passed. absurd (let found = lt-ltb (position_or_len q xs) (length xs) (any-found q xs passed) in let failed = rw found at is in cc)) (λ failed. failed))
  where
    go : (xs : List Held) → list_any q xs ≡ false → All (λ x. q x ≡ false) xs
    go [] failed = All-nil (λ (x : Held). q x ≡ false)
    go (x ∷ xs) failed =
        by_test (q x)
        (λ passed. absurd (let at : true ≡ false = rw passed at failed in cc))
        (λ not_x. let at : list_any q xs ≡ false = rw not_x at failed in All-cons (λ (y : Held). q y ≡ false) x xs not_x (go xs at))

module _ (p : Purpose) (room : ℕ) (all : List Held) (event : Held) where
  abbrev day : ℕ
  day = event.begin / 86400

  abbrev Best : Held → Type 0
  Best h = best_of p (on_day (h.begin / 86400) all) ≡ Some h

  abbrev DayKept : List Held → Held → Type 0
  DayKept kept a = (list_any (λ h. h.begin / 86400 == a.begin / 86400) kept ≡ true) ⊎ ((length kept ≡ room) × All (λ h. a.begin / 86400 < h.begin / 86400) kept)

  abbrev Goal : List Held → Type 0
  Goal kept = KeepsDays p room (all ++ event ∷ []) kept

  -- the best of another day stays
  best-off : (h : Held) → Other day h → Best h → best_of p (on_day (h.begin / 86400) (all ++ event ∷ [])) ≡ Some h
  best-off h other is =
      let none : Other (h.begin / 86400) event = λ e. other (sym e) in
      let e : on_day (h.begin / 86400) (all ++ event ∷ []) ≡ on_day (h.begin / 86400) all =
      on-append (h.begin / 86400) all (event ∷ []) ∙ ap (λ (ys : List Held). on_day (h.begin / 86400) all ++ ys) (on-off (h.begin / 86400) event [] none) ∙ append-nil (on_day (h.begin / 86400) all) in
      ap (best_of p) e ∙ is

  on-more : on_day day (all ++ event ∷ []) ≡ on_day day all ++ event ∷ []
  on-more = on-append day all (event ∷ []) ∙ ap (λ (ys : List Held). on_day day all ++ ys) (on-here day event [] refl)

  each-off : (xs : List Held) → All (Other day) xs → All Best xs → All (λ h. best_of p (on_day (h.begin / 86400) (all ++ event ∷ [])) ≡ Some h) xs
  each-off [] others best = All-nil (λ (h : Held). best_of p (on_day (h.begin / 86400) (all ++ event ∷ [])) ≡ Some h)
  each-off (x ∷ xs) others best =
      All-cons (λ (h : Held). best_of p (on_day (h.begin / 86400) (all ++ event ∷ [])) ≡ Some h) x xs (best-off x (All-head (Other day) x xs others) (All-head Best x xs best)) (each-off xs (All-tail (Other day) x xs others) (All-tail Best x xs best))

  -- the event stands between these, none of which is of its day
  put : (sb sa : List Held) → All (Other day) sb → All (Other day) sa → All Best sb → All Best sa → best_of p (on_day day all ++ event ∷ []) ≡ Some event →
      ((k : ℕ) → length (on_day k (sb ++ sa)) ≤ 1) → length (sb ++ event ∷ sa) ≤ room → All (DayKept (sb ++ event ∷ sa)) all → Goal (sb ++ event ∷ sa)
  put sb sa off_b off_a best_b best_a best_event one most days = record {
    best =
        All-append (λ (h : Held). best_of p (on_day (h.begin / 86400) (all ++ event ∷ [])) ≡ Some h) sb (event ∷ sa) (each-off sb off_b best_b)
        (All-cons (λ (h : Held). best_of p (on_day (h.begin / 86400) (all ++ event ∷ [])) ≡ Some h) event sa (ap (best_of p) on-more ∙ best_event) (each-off sa off_a best_a));
    one = one_now;
    most = most;
    days = All-push (DayKept (sb ++ event ∷ sa)) all event days (inl (any-mid (λ h. h.begin / 86400 == day) sb sa event (eq-eqb day day refl)));
  }
    where
      one_now : (k : ℕ) → length (on_day k (sb ++ event ∷ sa)) ≤ 1
      one_now k =
          by_test (day == k)
          (λ is.
          let e : day ≡ k = eqb-true day k is in
          let parts : on_day k (sb ++ event ∷ sa) ≡ event ∷ [] =
          on-append k sb (event ∷ sa) ∙ ap (λ (ys : List Held). on_day k sb ++ ys) (on-here k event sa e)
          ∙ ap (λ (ys : List Held). ys ++ event ∷ on_day k sa) (subst (λ (n : ℕ). on_day n sb ≡ []) e (on-none day sb off_b))
          ∙ ap (λ (ys : List Held). event ∷ ys) (subst (λ (n : ℕ). on_day n sa ≡ []) e (on-none day sa off_a)) in
          let n : length (on_day k (sb ++ event ∷ sa)) ≡ 1 = ap length parts in
          omega (arith, n))
          (λ failed.
          let same_list : on_day k (sb ++ event ∷ sa) ≡ on_day k (sb ++ sa) =
          on-append k sb (event ∷ sa) ∙ ap (λ (ys : List Held). on_day k sb ++ ys) (on-off k event sa (eqb-false day k failed)) ∙ sym (on-append k sb sa) in
          let n : length (on_day k (sb ++ event ∷ sa)) ≡ length (on_day k (sb ++ sa)) = ap length same_list in
          let o = one k in
          omega (arith, n, o))

  -- nothing stands in its place where none of its day is held
  none-before : (kept : List Held) → All (Other day) kept → All (DayKept kept) all → ((a : Held) → (length kept ≡ room) × All (λ h. a.begin / 86400 < h.begin / 86400) kept → Other day a) → on_day day all ≡ []
  none-before kept others days late = on-none day all (All-weaker (DayKept kept) (Other day) each all days)
    where
      each : (a : Held) → DayKept kept a → Other day a
      each a (inl is) = λ e. any-none day kept others (subst (λ (n : ℕ). list_any (λ h. h.begin / 86400 == n) kept ≡ true) e is)
      each a (inr r) = late a r

module _ (p : Purpose) (held all : List Held) (event : Held) (some : 0 < event.begin) (keeps : KeepsDays p (length held) all (stored held)) where
  abbrev room : ℕ
  room = length held

  abbrev its_day : ℕ
  its_day = event.begin / 86400

  abbrev Own : Held → Type 0
  Own h = best_of p (on_day (h.begin / 86400) all) ≡ Some h

  abbrev Kept : Held → Type 0
  Kept a = DayKept p room all event (stored held) a

  abbrev Now : List Held → Type 0
  Now table = KeepsDays p room (all ++ event ∷ []) (stored table)

  -- it does not count, where no held event begins earlier and none is of its day
  stays : All (Later event.begin) held → All (Other its_day) (stored held) → Now held
  stays later others =
      let whole : stored held ≡ held = stored-all held (All-weaker (Later event.begin) (Later 1) (λ h m. omega (arith, some, m)) held later) in
      let full : length (stored held) ≡ room = ap length whole in
      let from : All (Later event.begin) (stored held) = rw whole later in
      let after : All (λ h. its_day < h.begin / 86400) (stored held) = each (stored held) from others in
      record {
        best = each-off p room all event (stored held) others keeps.best;
        one = keeps.one;
        most = keeps.most;
        days = All-push Kept all event keeps.days (inr (full, after));
      }
    where
      each : (xs : List Held) → All (Later event.begin) xs → All (Other its_day) xs → All (λ h. its_day < h.begin / 86400) xs
      each [] from others = All-nil (λ (h : Held). its_day < h.begin / 86400)
      each (x ∷ xs) from others =
          let le : event.begin ≤ x.begin = All-head (Later event.begin) x xs from in
          let ne : x.begin / 86400 ≡ its_day → ⊥ = All-head (Other its_day) x xs others in
          let less : event.begin / 86400 < x.begin / 86400 = by_test (event.begin / 86400 == x.begin / 86400) (λ e. absurd (ne (sym (eqb-true (event.begin / 86400) (x.begin / 86400) e)))) (λ failed. let ne2 = eqb-false (event.begin / 86400) (x.begin / 86400) failed in omega (arith, le, ne2)) in
          All-cons (λ (h : Held). its_day < h.begin / 86400) x xs less (each xs (All-tail (Later event.begin) x xs from) (All-tail (Other its_day) x xs others))

  -- it does not count, where the event of its day measures no less
  stays-below : (sb sa : List Held) (x : Held) → stored held ≡ sb ++ x ∷ sa → x.begin / 86400 ≡ its_day → measure p event ≤ measure p x → Now held
  stays-below sb sa x is same_day le = record {
    best = each (stored held) keeps.best;
    one = keeps.one;
    most = keeps.most;
    days = All-push Kept all event keeps.days (inl (rw is (any-mid (λ h. h.begin / 86400 == its_day) sb sa x (eq-eqb (x.begin / 86400) its_day same_day))));
  }
    where
      own : Own x
      own = let at : All Own (sb ++ x ∷ sa) = rw is at keeps.best in All-head Own x sa (all-back Own sb (x ∷ sa) at)

      best_x : best_of p (on_day its_day all) ≡ Some x
      best_x = subst (λ (n : ℕ). best_of p (on_day n all) ≡ Some x) same_day own

      one_best : (h : Held) → Own h → best_of p (on_day (h.begin / 86400) (all ++ event ∷ [])) ≡ Some h
      one_best h best =
          by_test (h.begin / 86400 == its_day)
          (λ passed.
          let e : h.begin / 86400 ≡ its_day = eqb-true (h.begin / 86400) its_day passed in
          let at : best_of p (on_day its_day all) ≡ Some h = subst (λ (n : ℕ). best_of p (on_day n all) ≡ Some h) e best in
          let x_is : x ≡ h = let both_are : Some x ≡ Some h = sym best_x ∙ at in cc in
          let below : measure p event ≤ measure p h = subst (λ (y : Held). measure p event ≤ measure p y) x_is le in
          subst (λ (n : ℕ). best_of p (on_day n (all ++ event ∷ [])) ≡ Some h) (sym e) (ap (best_of p) (on-more p room all event) ∙ best-below p (on_day its_day all) h event at below))
          (λ failed. best-off p room all event h (eqb-false (h.begin / 86400) its_day failed) best)

      each : (xs : List Held) → All Own xs → All (λ h. best_of p (on_day (h.begin / 86400) (all ++ event ∷ [])) ≡ Some h) xs
      each xs best = All-weaker Own (λ (h : Held). best_of p (on_day (h.begin / 86400) (all ++ event ∷ [])) ≡ Some h) one_best xs best

  -- it takes the place of the event of its day
  takes-its-day : (before after : List Held) (x : Held) → held ≡ before ++ x ∷ after → 0 < x.begin → x.begin / 86400 ≡ its_day → measure p x < measure p event → Now (before ++ event ∷ after)
  takes-its-day before after x is real same_day more =
      let sb : List Held = stored before in
      let sa : List Held = stored after in
      let was : stored held ≡ sb ++ x ∷ sa = ap stored is ∙ stored-append before (x ∷ after) ∙ ap (λ (ys : List Held). sb ++ ys) (stored-one x after real) in
      let now : stored (before ++ event ∷ after) ≡ sb ++ event ∷ sa = stored-append before (event ∷ after) ∙ ap (λ (ys : List Held). sb ++ ys) (stored-one event after some) in
      let one_x : length (on_day its_day (sb ++ x ∷ sa)) ≤ 1 = subst (λ (ys : List Held). length (on_day its_day ys) ≤ 1) was (keeps.one its_day) in
      let others = alone its_day sb sa x same_day one_x in
      let best : All Own (sb ++ x ∷ sa) = subst (λ (ys : List Held). All Own ys) was keeps.best in
      let own : best_of p (on_day its_day all) ≡ Some x = subst (λ (n : ℕ). best_of p (on_day n all) ≡ Some x) same_day (All-head Own x sa (all-back Own sb (x ∷ sa) best)) in
      let a : length (sb ++ x ∷ sa) ≡ length sb + length (x ∷ sa) = length-append sb (x ∷ sa) in
      let b : length (sb ++ event ∷ sa) ≡ length sb + length (event ∷ sa) = length-append sb (event ∷ sa) in
      let old : length (stored held) ≡ length (sb ++ x ∷ sa) = ap length was in
      let n : length (sb ++ event ∷ sa) ≡ length (stored held) = omega (arith, a, b, old) in
      let most : length (sb ++ event ∷ sa) ≤ room = omega (arith, n, keeps.most) in
      rw now
      (put p room all event sb sa others.0 others.1 (all-front Own sb (x ∷ sa) best) (All-tail Own x sa (all-back Own sb (x ∷ sa) best)) (best-above p (on_day its_day all) x event own more)
      (λ k. let l = on-less k sb sa x in let o : length (on_day k (sb ++ x ∷ sa)) ≤ 1 = subst (λ (ys : List Held). length (on_day k ys) ≤ 1) was (keeps.one k) in omega (arith, l, o))
      most
      (All-weaker Kept (DayKept p room all event (sb ++ event ∷ sa)) (λ d k. moved sb sa was n d k) all keeps.days))
    where
      moved : (sb sa : List Held) → stored held ≡ sb ++ x ∷ sa → length (sb ++ event ∷ sa) ≡ length (stored held) → (d : Held) → Kept d → DayKept p room all event (sb ++ event ∷ sa) d
      moved sb sa was n d (inl passed) =
          let q : Held → Bool = λ h. h.begin / 86400 == d.begin / 86400 in
          inl (sym (any-swap q sb sa x event (ap (λ (m : ℕ). m == d.begin / 86400) same_day)) ∙ ap (list_any q) (sym was) ∙ passed)
      moved sb sa was n d (inr r) =
          let each : All (λ h. d.begin / 86400 < h.begin / 86400) (sb ++ x ∷ sa) = subst (λ (ys : List Held). All (λ h. d.begin / 86400 < h.begin / 86400) ys) was r.1 in
          let at_x : d.begin / 86400 < x.begin / 86400 = All-head (λ (h : Held). d.begin / 86400 < h.begin / 86400) x sa (all-back (λ (h : Held). d.begin / 86400 < h.begin / 86400) sb (x ∷ sa) each) in
          let at_event : d.begin / 86400 < event.begin / 86400 = subst (λ (m : ℕ). d.begin / 86400 < m) same_day at_x in
          inr (
            n ∙ r.0,
            All-append (λ (h : Held). d.begin / 86400 < h.begin / 86400) sb (event ∷ sa) (all-front (λ (h : Held). d.begin / 86400 < h.begin / 86400) sb (x ∷ sa) each)
                (All-cons (λ (h : Held). d.begin / 86400 < h.begin / 86400) event sa at_event (All-tail (λ (h : Held). d.begin / 86400 < h.begin / 86400) x sa (all-back (λ (h : Held). d.begin / 86400 < h.begin / 86400) sb (x ∷ sa) each))),
          )

  -- it takes an empty place
  takes-empty : (before after : List Held) (x : Held) → held ≡ before ++ x ∷ after → x.begin ≡ 0 → All (Other its_day) (stored held) → Now (before ++ event ∷ after)
  takes-empty before after x is none others =
      let sb : List Held = stored before in
      let sa : List Held = stored after in
      let was : stored held ≡ sb ++ sa = ap stored is ∙ stored-append before (x ∷ after) ∙ ap (λ (ys : List Held). sb ++ ys) (stored-none x after none) in
      let now : stored (before ++ event ∷ after) ≡ sb ++ event ∷ sa = stored-append before (event ∷ after) ∙ ap (λ (ys : List Held). sb ++ ys) (stored-one event after some) in
      let l = stored-most before in
      let r = stored-most after in
      let h : room ≡ length before + length (x ∷ after) = ap length is ∙ length-append before (x ∷ after) in
      let m : length (stored held) ≡ length sb + length sa = ap length was ∙ length-append sb sa in
      let not_full : length (stored held) ≡ room → ⊥ = λ e. omega (arith, l, r, h, m, e) in
      let b : length (sb ++ event ∷ sa) ≡ length sb + length (event ∷ sa) = length-append sb (event ∷ sa) in
      let most : length (sb ++ event ∷ sa) ≤ room = omega (arith, l, r, h, b) in
      let off : All (Other its_day) (sb ++ sa) = subst (λ (ys : List Held). All (Other its_day) ys) was others in
      let best : All Own (sb ++ sa) = subst (λ (ys : List Held). All Own ys) was keeps.best in
      let none_all : on_day its_day all ≡ [] = none-before p room all event (stored held) others keeps.days (λ d q. absurd (not_full q.0)) in
      rw now
      (put p room all event sb sa (all-front (Other its_day) sb sa off) (all-back (Other its_day) sb sa off) (all-front Own sb sa best) (all-back Own sb sa best)
      (rw none_all (best-alone p event))
      (λ k. subst (λ (ys : List Held). length (on_day k ys) ≤ 1) was (keeps.one k))
      most
      (All-weaker Kept (DayKept p room all event (sb ++ event ∷ sa)) (λ d k. moved sb sa was not_full d k) all keeps.days))
    where
      moved : (sb sa : List Held) → stored held ≡ sb ++ sa → (length (stored held) ≡ room → ⊥) → (d : Held) → Kept d → DayKept p room all event (sb ++ event ∷ sa) d
      moved sb sa was not_full d (inl passed) =
          let q : Held → Bool = λ h. h.begin / 86400 == d.begin / 86400 in
          inl (any-more q sb sa event (ap (list_any q) (sym was) ∙ passed))
      moved sb sa was not_full d (inr r) = absurd (not_full r.0)

  -- it takes the place of the earliest
  takes-earliest : (before after : List Held) (x : Held) → held ≡ before ++ x ∷ after → 0 < x.begin → x.begin < event.begin → All (Later x.begin) held → All (Other its_day) (stored held) → Now (before ++ event ∷ after)
  takes-earliest before after x is real earlier least others =
      let sb : List Held = stored before in
      let sa : List Held = stored after in
      let was : stored held ≡ sb ++ x ∷ sa = ap stored is ∙ stored-append before (x ∷ after) ∙ ap (λ (ys : List Held). sb ++ ys) (stored-one x after real) in
      let now : stored (before ++ event ∷ after) ≡ sb ++ event ∷ sa = stored-append before (event ∷ after) ∙ ap (λ (ys : List Held). sb ++ ys) (stored-one event after some) in
      let whole : stored held ≡ held = stored-all held (All-weaker (Later x.begin) (Later 1) (λ h m. omega (arith, real, m)) held least) in
      let from : All (Later x.begin) (stored held) = rw whole least in
      let late : All (Later x.begin) (sb ++ x ∷ sa) = subst (λ (ys : List Held). All (Later x.begin) ys) was from in
      let off : All (Other its_day) (sb ++ x ∷ sa) = subst (λ (ys : List Held). All (Other its_day) ys) was others in
      let best : All Own (sb ++ x ∷ sa) = subst (λ (ys : List Held). All Own ys) was keeps.best in
      let one_x : length (on_day (x.begin / 86400) (sb ++ x ∷ sa)) ≤ 1 = subst (λ (ys : List Held). length (on_day (x.begin / 86400) ys) ≤ 1) was (keeps.one (x.begin / 86400)) in
      let apart = alone (x.begin / 86400) sb sa x refl one_x in
      let ne : x.begin / 86400 ≡ its_day → ⊥ = All-head (Other its_day) x sa (all-back (Other its_day) sb (x ∷ sa) off) in
      let x_first : x.begin / 86400 < event.begin / 86400 = by_test (x.begin / 86400 == event.begin / 86400) (λ e. absurd (ne (eqb-true (x.begin / 86400) (event.begin / 86400) e))) (λ failed. let ne2 = eqb-false (x.begin / 86400) (event.begin / 86400) failed in omega (arith, earlier, ne2)) in
      let later_b = days-later sb (all-front (Later x.begin) sb (x ∷ sa) late) apart.0 in
      let later_a = days-later sa (All-tail (Later x.begin) x sa (all-back (Later x.begin) sb (x ∷ sa) late)) apart.1 in
      let beyond : All (λ h. x.begin / 86400 < h.begin / 86400) (sb ++ event ∷ sa) =
      All-append (λ (h : Held). x.begin / 86400 < h.begin / 86400) sb (event ∷ sa) later_b (All-cons (λ (h : Held). x.begin / 86400 < h.begin / 86400) event sa x_first later_a) in
      let a : length (sb ++ x ∷ sa) ≡ length sb + length (x ∷ sa) = length-append sb (x ∷ sa) in
      let b : length (sb ++ event ∷ sa) ≡ length sb + length (event ∷ sa) = length-append sb (event ∷ sa) in
      let old : length (stored held) ≡ length (sb ++ x ∷ sa) = ap length was in
      let full_before : length (stored held) ≡ room = ap length whole in
      let full : length (sb ++ event ∷ sa) ≡ room = omega (arith, a, b, old, full_before) in
      let none_all : on_day its_day all ≡ [] =
      none-before p room all event (stored held) others keeps.days
      (λ d q. λ e.
      let each : All (λ h. d.begin / 86400 < h.begin / 86400) (sb ++ x ∷ sa) = subst (λ (ys : List Held). All (λ h. d.begin / 86400 < h.begin / 86400) ys) was q.1 in
      let at_x : d.begin / 86400 < x.begin / 86400 = All-head (λ (h : Held). d.begin / 86400 < h.begin / 86400) x sa (all-back (λ (h : Held). d.begin / 86400 < h.begin / 86400) sb (x ∷ sa) each) in
      omega (arith, at_x, x_first, e)) in
      rw now
      (put p room all event sb sa (all-front (Other its_day) sb (x ∷ sa) off) (All-tail (Other its_day) x sa (all-back (Other its_day) sb (x ∷ sa) off)) (all-front Own sb (x ∷ sa) best) (All-tail Own x sa (all-back Own sb (x ∷ sa) best))
      (rw none_all (best-alone p event))
      (λ k. let l = on-less k sb sa x in let o : length (on_day k (sb ++ x ∷ sa)) ≤ 1 = subst (λ (ys : List Held). length (on_day k ys) ≤ 1) was (keeps.one k) in omega (arith, l, o))
      (omega (arith, full))
      (All-weaker Kept (DayKept p room all event (sb ++ event ∷ sa)) (λ d k. moved sb sa was full beyond d k) all keeps.days))
    where
      days-later : (xs : List Held) → All (Later x.begin) xs → All (Other (x.begin / 86400)) xs → All (λ h. x.begin / 86400 < h.begin / 86400) xs
      days-later [] from apart = All-nil (λ (h : Held). x.begin / 86400 < h.begin / 86400)
      days-later (y ∷ ys) from apart =
          let le : x.begin ≤ y.begin = All-head (Later x.begin) y ys from in
          let ne : y.begin / 86400 ≡ x.begin / 86400 → ⊥ = All-head (Other (x.begin / 86400)) y ys apart in
          let less : x.begin / 86400 < y.begin / 86400 = by_test (x.begin / 86400 == y.begin / 86400) (λ e. absurd (ne (sym (eqb-true (x.begin / 86400) (y.begin / 86400) e)))) (λ failed. let ne2 = eqb-false (x.begin / 86400) (y.begin / 86400) failed in omega (arith, le, ne2)) in
          All-cons (λ (h : Held). x.begin / 86400 < h.begin / 86400) y ys less (days-later ys (All-tail (Later x.begin) y ys from) (All-tail (Other (x.begin / 86400)) y ys apart))

      moved : (sb sa : List Held) → stored held ≡ sb ++ x ∷ sa → length (sb ++ event ∷ sa) ≡ room → All (λ h. x.begin / 86400 < h.begin / 86400) (sb ++ event ∷ sa) → (d : Held) → Kept d → DayKept p room all event (sb ++ event ∷ sa) d
      moved sb sa was full beyond d (inl passed) =
          let q : Held → Bool = λ h. h.begin / 86400 == d.begin / 86400 in
          by_test (x.begin / 86400 == d.begin / 86400)
          (λ same_day. let e : x.begin / 86400 ≡ d.begin / 86400 = eqb-true (x.begin / 86400) (d.begin / 86400) same_day in
          inr (full, subst (λ (n : ℕ). All (λ h. n < h.begin / 86400) (sb ++ event ∷ sa)) e beyond))
          (λ failed. let there : list_any q (sb ++ x ∷ sa) ≡ true = ap (list_any q) (sym was) ∙ passed in inl (any-more q sb sa event (any-less q sb sa x failed there)))
      moved sb sa was full beyond d (inr r) =
          let each : All (λ h. d.begin / 86400 < h.begin / 86400) (sb ++ x ∷ sa) = subst (λ (ys : List Held). All (λ h. d.begin / 86400 < h.begin / 86400) ys) was r.1 in
          let at_x : d.begin / 86400 < x.begin / 86400 = All-head (λ (h : Held). d.begin / 86400 < h.begin / 86400) x sa (all-back (λ (h : Held). d.begin / 86400 < h.begin / 86400) sb (x ∷ sa) each) in
          inr (full, All-weaker (λ (h : Held). x.begin / 86400 < h.begin / 86400) (λ (h : Held). d.begin / 86400 < h.begin / 86400) (λ h m. omega (arith, at_x, m)) (sb ++ event ∷ sa) beyond)

  abbrev of_its_day : Held → Bool
  of_its_day h = is_of_day its_day h

  -- none of its day is held
  none-of-day : (xs : List Held) → All (λ h. of_its_day h ≡ false) xs → All (Other its_day) (stored xs)
  none-of-day [] each = All-nil (Other its_day)
  none-of-day (x ∷ xs) each =
      let rest = none-of-day xs (All-tail (λ (h : Held). of_its_day h ≡ false) x xs each) in
      let here : of_its_day x ≡ false = All-head (λ (h : Held). of_its_day h ≡ false) x xs each in
      by_test (x.begin == 0)
      (λ none. rw none rest)
      (λ real. rw real (All-cons (Other its_day) x (stored xs) (eqb-false (x.begin / 86400) its_day (let at : (true && (x.begin / 86400 == its_day)) ≡ false = rw real at here in at)) rest))

  -- one event more
  pub day-kept : Now (placed held event (place_beside p held event (position (is_of_day (event.begin / 86400)) held)))
  day-kept = go (position of_its_day held) refl
    where
      recent : All (Other its_day) (stored held) → (o : Option ℕ) → earliest (λ h. h.begin) held ≡ o → Now (placed held event (where_later held event o))
      recent others None is = stays (rw (none-earliest held is) (All-nil (Later event.begin))) others
      recent others (Some q) is =
          let found = position-Some (λ (h : Held). list_all (λ y. nat_le h.begin y.begin) held) held q (record { begin = 0; end = 0; weight = 0 }) is in
          let s : Split held q = split-at held q found.0 in
          let least : All (Later (held_at held q).begin) held = all-later (held_at held q).begin held found.1 in
          by_test (nat_lt (held_at held q).begin event.begin)
          (λ later.
          let earlier : (held_at held q).begin < event.begin = ltb-true (held_at held q).begin event.begin later in
          rw later (rw (s.with event)
          (by_test ((held_at held q).begin == 0)
          (λ none. takes-empty s.before s.after (held_at held q) s.is (eqb-true (held_at held q).begin 0 none) others)
          (λ real. let positive : 0 < (held_at held q).begin = let ne = eqb-false (held_at held q).begin 0 real in omega (arith, ne) in
          takes-earliest s.before s.after (held_at held q) s.is positive earlier least others))))
          (λ not_later.
          let le : event.begin ≤ (held_at held q).begin = ltb-false (held_at held q).begin event.begin not_later in
          rw not_later (stays (All-weaker (Later (held_at held q).begin) (Later event.begin) (λ h m. omega (arith, le, m)) held least) others))

      go : (o : Option ℕ) → position of_its_day held ≡ o → Now (placed held event (place_beside p held event o))
      go None is = recent (none-of-day held (position-none of_its_day held is)) (earliest (λ h. h.begin) held) refl
      go (Some q) is =
          let found = position-Some of_its_day held q (record { begin = 0; end = 0; weight = 0 }) is in
          let s : Split held q = split-at held q found.0 in
          let x : Held = held_at held q in
          let real : (x.begin == 0) ≡ false = not-true (x.begin == 0) (and-first (not (x.begin == 0)) (x.begin / 86400 == its_day) found.1) in
          let same_day : x.begin / 86400 ≡ its_day = eqb-true (x.begin / 86400) its_day (and-second (not (x.begin == 0)) (x.begin / 86400 == its_day) found.1) in
          let positive : 0 < x.begin = let ne = eqb-false x.begin 0 real in omega (arith, ne) in
          by_test (nat_lt (measure p (held_at held q)) (measure p event))
          (λ less. rw less (rw (s.with event) (takes-its-day s.before s.after x s.is positive same_day (ltb-true (measure p x) (measure p event) less))))
          (λ failed. rw failed (stays-below (stored s.before) (stored s.after) x
          (ap stored s.is ∙ stored-append s.before (x ∷ s.after) ∙ ap (λ (ys : List Held). stored s.before ++ ys) (stored-one x s.after positive)) same_day (ltb-false (measure p x) (measure p event) failed)))
        where
          not-true : (b : Bool) → not b ≡ true → b ≡ false
          not-true true h = cc
          not-true false h = refl
