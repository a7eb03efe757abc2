-- The entries by hand of a card's sessions, from step to step of a run; and at its end.
use Rattle.std.proofs.Common.{◌≡◌, ◌⊎◌, inl, inr, ⊎_elim, ℕ, ◌+◌, ◌/◌, ◌<◌, ◌≤◌, Bool, true, false, cond, Option, Some, None, IfSome, List, [], ◌∷◌, ◌++◌, All, Contains, length, map, filter, refl, sym, ◌∙◌, ap, subst, arith, append_assoc, append-nil, length-append}
use Rattle.std.specs.Prelude.{◌&&◌, not, nat_eq, nat_le, nat_lt, slice_get, unwrap_or}
use Rattle.std.proofs.lemmas.Bool.{leb-true, ltb-true}
use Rattle.std.proofs.lemmas.Bool.Decides.{nat_tests}
use Rattle.std.proofs.lemmas.List.{same_from_push, map-append}
use Rattle.std.proofs.lemmas.List.Elements.{All-nil, All-append, All-weaker, All-contains, All-contains_itself, filter-append, Contains-append_left, Contains-append_right, Contains-append_cases, Contains-push, Contains-push_cases}
use Rattle.minute_rules.specs.activity_codec.declared.entries.Manual.{Manual}
use Rattle.run_devices.specs.trace_model.declared.Card.{Card}
use Rattle.run_devices.specs.log_model.declared.lines.Mark.{Mark}
use Rattle.run_devices.specs.log_model.Causes.{device_of}
use Rattle.run_devices.specs.log_model.ByHand.{Asked}
use Rattle.run_devices.proofs.history_model.Filters.{filter-alike, filter-none, filter-whole, all-one}
use Rattle.run_devices.specs.hand_model.Holding.{Holding, none_held, begun_by, first_of, of_day}
use Rattle.run_devices.specs.hand_model.Written.{Hands, IsPartOf, and_sure, and_given}
use Rattle.run_devices.proofs.hand_model.Written.{part_self, part_both, part_wider}
use Rattle.run_devices.specs.safety_model.Recording.{Recording}
use Rattle.run_devices.specs.safety_model.Unit.{marks_of}
use Rattle.run_devices.specs.safety_model.Hands.{Session, IsFirstOf, hand_of, is_behind, is_within, is_between, of_session, sessions, done as done_of}
use Rattle.run_devices.specs.run_promise.Cards.{FirstKeep, and_first}
use Rattle.run_devices.specs.run_promise.Between.{HandsFollowed}
use Rattle.run_devices.specs.run_crew.declared.cards.Accepted.{Accepted}
use Rattle.run_record.specs.HeldHands.{WasWritten, HandsGo}

-- ---- lists

here : {X : Type 0} (x : X) (xs : List X) → Contains (x ∷ xs) x
here {X} x xs = Contains-append_left (x ∷ []) xs x (Contains-push [] x)

some-passes : {X : Type 0} (p : X → Bool) (xs : List X) → 0 < length (filter p xs) → (x : X) × Contains xs x × (p x ≡ true)
some-passes p [] few = absurd (omega (arith, few))
some-passes {X} p (x ∷ xs) few = by (λ more. some-passes p xs more) (p x) refl few
  where
    by : (0 < length (filter p xs) → (y : X) × Contains xs y × (p y ≡ true)) → (b : Bool) → p x ≡ b → 0 < length (cond b (x ∷ filter p xs) (filter p xs)) → (y : X) × Contains (x ∷ xs) y × (p y ≡ true)
    by rest true is more = (x, here x xs, is)
    by rest false is more = let r = rest more in (r.0, Contains-append_right (x ∷ []) xs r.0 r.1, r.2)

pub count-append : {X : Type 0} (p : X → Bool) (xs ys : List X) → length (filter p (xs ++ ys)) ≡ length (filter p xs) + length (filter p ys)
count-append {X} p xs ys = ap (λ (l : List X). length l) (filter-append p xs ys) ∙ length-append (filter p xs) (filter p ys)

count-few : {X : Type 0} (p : X → Bool) (xs : List X) → length (filter p xs) ≤ length xs
count-few p [] = omega arith
count-few {X} p (x ∷ xs) = by (count-few p xs) (p x)
  where
    by : length (filter p xs) ≤ length xs → (b : Bool) → length (cond b (x ∷ filter p xs) (filter p xs)) ≤ length (x ∷ xs)
    by few true = omega (arith, few)
    by few false = omega (arith, few)

and-true : (b : Bool) → (b && true) ≡ b
and-true true = refl
and-true false = refl

and-false : (b : Bool) → (b && false) ≡ false
and-false true = refl
and-false false = refl

-- the last of some sessions
record SplitLast (ss : List Session) : Type 0 where
  front : List Session
  end_ : Session
  are : ss ≡ front ++ end_ ∷ []

split-last : (s : Session) (ss : List Session) → SplitLast (s ∷ ss)
split-last s [] = record { front = []; end_ = s; are = refl }
split-last s (t ∷ ss) = let rest = split-last t ss in record { front = s ∷ rest.front; end_ = rest.end_; are = ap (λ (l : List Session). s ∷ l) rest.are }

-- one of some with one more is the last, or one of them
last-or : (all : List Session) (n : Session) (earlier : List Session) (s : Session) (later : List Session) → all ++ n ∷ [] ≡ earlier ++ s ∷ later
    → ((later ≡ []) × (all ≡ earlier) × (n ≡ s)) ⊎ ((front : List Session) × (later ≡ front ++ n ∷ []) × (all ≡ earlier ++ s ∷ front))
last-or all n earlier s [] is = let q = same_from_push all earlier n s is in inl (refl, q.0, q.1)
last-or all n earlier s (l ∷ ls) is =
    let e = split-last l ls in
    let q = same_from_push all (earlier ++ s ∷ e.front) n e.end_ (is ∙ ap (λ (k : List Session). earlier ++ s ∷ k) e.are ∙ sym (append_assoc earlier (s ∷ e.front) (e.end_ ∷ []))) in
    inr (e.front, e.are ∙ ap (λ (x : Session). e.front ++ x ∷ []) (sym q.1), q.0)

-- the one behind is one of them
pub next-in : (all earlier : List Session) (s l : Session) (ls : List Session) → all ≡ earlier ++ s ∷ l ∷ ls → Contains all l
next-in all earlier s l ls is =
    subst (λ (k : List Session). Contains k l) (sym is) (Contains-append_right earlier (s ∷ l ∷ ls) l (Contains-append_right (s ∷ []) (l ∷ ls) l (here l ls)))

pub last-in : (all earlier : List Session) (s : Session) → all ≡ earlier ++ s ∷ [] → Contains all s
last-in all earlier s is = subst (λ (k : List Session). Contains k s) (sym is) (Contains-push earlier s)

-- ---- what was done in a session

-- where what was done in it comes last
held-all : (s : Session) (front back : List Asked) → All (λ (b : Asked). is_behind s b ≡ false) front → All (λ (b : Asked). is_behind s b ≡ true) back → of_session (front ++ back) s None ≡ map hand_of back
held-all s front back before behind =
    ap (map hand_of)
    (filter-append (is_within s None) front back
    ∙ ap (λ (l : List Asked). l ++ filter (is_within s None) back)
    (filter-none (is_within s None) front (All-weaker (λ (b : Asked). is_behind s b ≡ false) (λ (b : Asked). is_within s None b ≡ false) (λ b is. and-true (is_behind s b) ∙ is) front before))
    ∙ filter-whole (is_within s None) back (All-weaker (λ (b : Asked). is_behind s b ≡ true) (λ (b : Asked). is_within s None b ≡ true) (λ b is. and-true (is_behind s b) ∙ is) back behind))

-- all was done before the next one
closed-all : (done : List Asked) (s n : Session) → All (λ (b : Asked). is_behind n b ≡ false) done → of_session done s None ≡ of_session done s (Some n)
closed-all done s n before =
    ap (map hand_of)
    (filter-alike (is_within s None) (is_within s (Some n)) done
    (All-weaker (λ (b : Asked). is_behind n b ≡ false) (λ (b : Asked). is_within s None b ≡ is_within s (Some n) b) (λ b is. ap (λ (t : Bool). is_behind s b && not t) (sym is)) done before))

-- one more behind the next one
closed-more : (done : List Asked) (s n : Session) (b : Asked) → is_behind n b ≡ true → of_session (done ++ b ∷ []) s (Some n) ≡ of_session done s (Some n)
closed-more done s n b is =
    ap (map hand_of)
    (filter-append (is_within s (Some n)) done (b ∷ [])
    ∙ ap (λ (l : List Asked). filter (is_within s (Some n)) done ++ l)
    (filter-none (is_within s (Some n)) (b ∷ []) (all-one (λ (c : Asked). is_within s (Some n) c ≡ false) b (ap (λ (t : Bool). is_behind s b && not t) is ∙ and-false (is_behind s b))))
    ∙ append-nil (filter (is_within s (Some n)) done))

-- ---- entries by hand of a day

part-day : (day : ℕ) (es : List Manual) → IsPartOf (of_day day es) es
part-day day [] = tt
part-day day (e ∷ es) = by (nat_eq (e.minute / 1440) day) (of_day day es) (part-day day es)
  where
    by : (b : Bool) (kept : List Manual) → IsPartOf kept es → IsPartOf (cond b (e ∷ es) kept) (e ∷ es)
    by true kept rest = part_self (e ∷ es)
    by false [] rest = tt
    by false (k ∷ kept) rest = inr rest

day-has : (day : ℕ) (es : List Manual) (e : Manual) → Contains es e → e.minute / 1440 ≡ day → Contains (of_day day es) e
day-has day [] e at is = absurd (omega (arith, at.1))
day-has day (x ∷ es) e at is = by (λ there. day-has day es e there is) (nat_eq (x.minute / 1440) day) refl
  where
    same : (m n : ℕ) → m ≡ n → nat_eq m n ≡ true
    same m n eq = grind (arith, nat_tests)

    by : (Contains es e → Contains (of_day day es) e) → (b : Bool) → nat_eq (x.minute / 1440) day ≡ b → Contains (cond b (x ∷ es) (of_day day es)) e
    by behind true eq = at
    by behind false eq = ⊎_elim
        (λ first. ⊎_elim
        (λ none. absurd (omega (arith, none.1)))
        (λ (one : x ≡ e). absurd (let said : nat_eq (x.minute / 1440) day ≡ true = same (x.minute / 1440) day (ap (λ (y : Manual). y.minute / 1440) one ∙ is) in grind (arith, said, eq)))
        (Contains-push_cases [] x e first))
        (λ rest. behind rest)
        (Contains-append_cases (x ∷ []) es e at)

-- ---- the marks between two acceptances

between-parts : (s n : Session) (minute : ℕ) → is_between s n minute ≡ true → (s.second / 60 ≤ minute) × (minute < n.second / 60)
between-parts s n minute is = by (nat_le (s.second / 60) minute) (nat_lt minute (n.second / 60)) refl refl is
  where
    by : (a b : Bool) → nat_le (s.second / 60) minute ≡ a → nat_lt minute (n.second / 60) ≡ b → (a && b) ≡ true → (s.second / 60 ≤ minute) × (minute < n.second / 60)
    by true true low high both = (leb-true (s.second / 60) minute low, ltb-true minute (n.second / 60) high)
    by true false low high both = absurd (cc)
    by false b low high both = absurd (cc)

-- of marks that are not before the next one none is
pub none-between : (s n : Session) (ms : List Mark) → ((m : Mark) → Contains ms m → n.second / 60 ≤ m.minute) → filter (λ (k : Mark). is_between s n k.minute) ms ≡ []
none-between s n ms late =
    filter-none (λ (k : Mark). is_between s n k.minute) ms
    (All-weaker (Contains ms) (λ (k : Mark). is_between s n k.minute ≡ false) (λ k at. ap (λ (t : Bool). nat_le (s.second / 60) k.minute && t) (not_lt k.minute (n.second / 60) (late k at)) ∙ and-false (nat_le (s.second / 60) k.minute)) ms
    (All-contains_itself ms))
  where
    not_lt : (a b : ℕ) → b ≤ a → nat_lt a b ≡ false
    not_lt a b le = grind (arith, nat_tests)

module _ (all : List Session) (marks more : List Mark) where
  -- THE FIRST MARK of a session is none of some that are added, where these are not before the acceptance that came next
  pub first-still : (s l : Session) (ls : List Session) (m : Mark) (earlier : List Session) → all ≡ earlier ++ s ∷ l ∷ ls → s.second / 60 ≤ m.minute → Contains (marks ++ more) m
      → ((k : Mark) → Contains (marks ++ more) k → s.second / 60 ≤ k.minute → m.minute ≤ k.minute) → l.brought < length (filter (λ (k : Mark). is_between s l k.minute) (marks ++ more))
      → ((k : Mark) → Contains more k → l.second / 60 ≤ k.minute) → IsFirstOf all marks s (Some l) m
  first-still s l ls m earlier are low mark first own late =
      let none = ap (λ (ks : List Mark). length ks) (none-between s l more late) in
      let count = count-append (λ (k : Mark). is_between s l k.minute) marks more in
      let own_was : l.brought < length (filter (λ (k : Mark). is_between s l k.minute) marks) = omega (arith, own, count, none) in
      let x = some-passes (λ (k : Mark). is_between s l k.minute) marks (omega (arith, own_was)) in
      let b = between-parts s l x.0.minute x.2 in
      let up = first x.0 (Contains-append_left marks more x.0 x.1) b.0 in
      record {
        session = record { earlier = earlier; later = l ∷ ls; are = are; next_is = refl };
        mark = ⊎_elim (λ old. old) (λ new. absurd (let high = late m new in let under = b.1 in omega (arith, up, high, under))) (Contains-append_cases marks more m mark);
        here = low;
        first = λ k at le. first k (Contains-append_left marks more k at) le;
        own = own_was;
      }

-- ITS FIRST MARK, where the card was accepted again and these were brought: none of what is brought is it
module _ (all : List Session) (marks more : List Mark) (n : Session) (count : length more ≡ n.brought) (order : (x y : Mark) → Contains marks x → Contains more y → x.minute < y.minute) where
  pub last-first : (s : Session) (earlier : List Session) (m : Mark) → all ≡ earlier ++ s ∷ [] → s.second / 60 ≤ m.minute → Contains (marks ++ more) m
      → ((k : Mark) → Contains (marks ++ more) k → s.second / 60 ≤ k.minute → m.minute ≤ k.minute) → n.brought < length (filter (λ (k : Mark). is_between s n k.minute) (marks ++ more)) → IsFirstOf all marks s None m
  last-first s earlier m are from mark first own =
      let few = count-few (λ (k : Mark). is_between s n k.minute) more in
      let parts = count-append (λ (k : Mark). is_between s n k.minute) marks more in
      let x = some-passes (λ (k : Mark). is_between s n k.minute) marks (omega (arith, own, few, parts, count)) in
      let b = between-parts s n x.0.minute x.2 in
      let up = first x.0 (Contains-append_left marks more x.0 x.1) b.0 in
      record {
        session = record { earlier = earlier; later = []; are = are; next_is = refl };
        mark = ⊎_elim (λ at. at) (λ new. absurd (let lt = order x.0 m x.1 new in omega (arith, up, lt))) (Contains-append_cases marks more m mark);
        here = from;
        first = λ k at le. first k (Contains-append_left marks more k at) le;
        own = tt;
      }

-- ---- A SESSION IS OVER

pub hands-gone : (all : List Session) (done : List Asked) (marks : List Mark) (h : Hands) (firsts : List FirstKeep) (session : Option Accepted) → HandsGo all done marks h firsts session → HandsGo all done marks h firsts None
hands-gone all done marks h firsts session go = record { holds = tt; part = go.part; wrote = go.wrote }

-- ---- A CARD IS ACCEPTED, and these marks are given for what that brings

module _ (all : List Session) (done : List Asked) (marks : List Mark) (h : Hands) (firsts : List FirstKeep) (session : Option Accepted) (go : HandsGo all done marks h firsts session) (n : Session) (more : List Mark)
    (count : length more ≡ n.brought) (before : All (λ (b : Asked). is_behind n b ≡ false) done) (newest : (l : Session) → Contains all l → l.second ≤ n.second) (low : All (λ (m : Mark). m.minute < n.second / 60) (marks ++ more))
    (order : (x y : Mark) → Contains marks x → Contains more y → x.minute < y.minute) (late : (l : Session) (y : Mark) → Contains all l → Contains more y → l.second / 60 ≤ y.minute) where
  was-last : (s : Session) (earlier : List Session) (m : Mark) → all ≡ earlier ++ s ∷ [] → s.second / 60 ≤ m.minute → Contains (marks ++ more) m
      → ((k : Mark) → Contains (marks ++ more) k → s.second / 60 ≤ k.minute → m.minute ≤ k.minute) → n.brought < length (filter (λ (k : Mark). is_between s n k.minute) (marks ++ more)) → WasWritten all done marks firsts s (Some n) m
  was-last s earlier m are from mark first own =
      let w = go.wrote s None m (last-first all marks more n count order s earlier m are from mark first own) in
      (w.0, w.1, w.2, w.3 ∙ ap (of_day (m.minute / 1440)) (closed-all done s n before))

  was-earlier : (s l : Session) (ls : List Session) (earlier : List Session) (m : Mark) → all ≡ earlier ++ s ∷ l ∷ ls → s.second / 60 ≤ m.minute → Contains (marks ++ more) m
      → ((k : Mark) → Contains (marks ++ more) k → s.second / 60 ≤ k.minute → m.minute ≤ k.minute) → l.brought < length (filter (λ (k : Mark). is_between s l k.minute) (marks ++ more)) → WasWritten all done marks firsts s (Some l) m
  was-earlier s l ls earlier m are from mark first own =
      go.wrote s (Some l) m (first-still all marks more s l ls m earlier are from mark first own (λ k at. late l k (next-in all earlier s l ls are) at))

  wrote-then : (s : Session) (next : Option Session) (m : Mark) → IsFirstOf (all ++ n ∷ []) (marks ++ more) s next m → WasWritten (all ++ n ∷ []) done (marks ++ more) firsts s next m
  wrote-then s next m f = ⊎_elim
      (λ end_. absurd (let up = f.here in let down = All-contains (λ (k : Mark). k.minute < n.second / 60) (marks ++ more) m low f.mark in let same = ap (λ (t : Session). t.second / 60) end_.2 in omega (arith, up, down, same)))
      (λ inner. by inner.0 (f.session.next_is ∙ ap (λ (ls : List Session). slice_get ls 0) inner.1) inner.2)
      (last-or all n f.session.earlier s f.session.later f.session.are)
    where
      by : (front : List Session) → next ≡ slice_get (front ++ n ∷ []) 0 → all ≡ f.session.earlier ++ s ∷ front → WasWritten all done marks firsts s next m
      by [] is are =
          subst (λ (o : Option Session). WasWritten all done marks firsts s o m) (sym is)
          (was-last s f.session.earlier m are f.here f.mark f.first (subst (λ (o : Option Session). IfSome o (λ (k : Session). k.brought < length (filter (λ (x : Mark). is_between s k x.minute) (marks ++ more)))) is f.own))
      by (l ∷ ls) is are =
          subst (λ (o : Option Session). WasWritten all done marks firsts s o m) (sym is)
          (was-earlier s l ls f.session.earlier m are f.here f.mark f.first (subst (λ (o : Option Session). IfSome o (λ (k : Session). k.brought < length (filter (λ (x : Mark). is_between s k x.minute) (marks ++ more)))) is f.own))

  -- however its session goes on
  pub hands-taken : HandsGo (all ++ n ∷ []) done (marks ++ more) h firsts None
  hands-taken = record { holds = tt; part = go.part; wrote = wrote-then }

  pub hands-accepted : (a : Accepted) → a.held ≡ none_held (n.second / 60) → All (λ (m : Mark). m.minute ≤ a.session.minute) (marks ++ more) → HandsGo (all ++ n ∷ []) done (marks ++ more) h firsts (Some a)
  hands-accepted a fresh above = record {
    holds = (
      n,
      record { earlier = all; are = refl },
      record {
        inserted = ap (λ (k : Holding). k.inserted) fresh;
        newest = λ l at. ⊎_elim (λ old. newest l old) (λ (one : n ≡ l). let same = ap (λ (t : Session). t.second) one in omega (arith, same)) (Contains-push_cases all n l at);
        free = λ none. record {
          front = done;
          back = [];
          are = sym (append-nil done);
          before = before;
          behind = All-nil (λ (b : Asked). is_behind n b ≡ true);
          holds = ap (λ (k : Holding). k.entries) fresh;
          part = go.part;
          few = let same = ap (λ (k : Holding). length k.entries) fresh in omega (arith, same);
          low = low;
          above = above;
        };
        begun = λ first some. absurd (let bad : None ≡ Some first = sym (ap (λ (k : Holding). k.begun) fresh) ∙ some in cc);
      },
    );
    part = go.part;
    wrote = wrote-then;
  }

-- ---- AN ENTRY BY HAND IS DONE, in the session that has kept no minute yet

module _ (all : List Session) (done : List Asked) (marks : List Mark) (h : Hands) (firsts : List FirstKeep) (a : Accepted) (go : HandsGo all done marks h firsts (Some a)) where
  abbrev s : Session
  s = go.holds.0

  -- it is the last
  is-last : (earlier : List Session) (t : Session) → all ≡ earlier ++ t ∷ [] → t ≡ s
  is-last earlier t are = (same_from_push earlier go.holds.1.earlier t s (sym are ∙ go.holds.1.are)).1

  -- and without a minute it has no first mark
  none-first : a.held.begun ≡ None → (earlier : List Session) (t : Session) (m : Mark) → all ≡ earlier ++ t ∷ [] → Contains marks m → t.second / 60 ≤ m.minute → ⊥
  none-first none earlier t m are at low =
      let same = ap (λ (u : Session). u.second / 60) (is-last earlier t are) in
      let under = All-contains (λ (k : Mark). k.minute < s.second / 60) marks m (go.holds.2.free none).low at in
      omega (arith, same, under, low)

  module _ (b : Asked) (none : a.held.begun ≡ None) (after : (l : Session) → Contains all l → is_behind l b ≡ true) (x : Accepted) (more : x.held ≡ record a.held { entries = a.held.entries ++ hand_of b ∷ [] }) (same : x.session.minute ≡ a.session.minute) (room : length a.held.entries < 8) where
    wrote-more : (t : Session) (next : Option Session) (m : Mark) → IsFirstOf all marks t next m → WasWritten all (done ++ b ∷ []) marks firsts t next m
    wrote-more t next m f = by f.session.later f.session.next_is f.session.are (go.wrote t next m f)
      where
        by : (later : List Session) → next ≡ slice_get later 0 → all ≡ f.session.earlier ++ t ∷ later → WasWritten all done marks firsts t next m → WasWritten all (done ++ b ∷ []) marks firsts t next m
        by [] is are w = absurd (none-first none f.session.earlier t m are f.mark f.here)
        by (l ∷ ls) is are w = (
          w.0,
          w.1,
          w.2,
          w.3
              ∙ ap (of_day (m.minute / 1440))
              (ap (of_session done t) is ∙ sym (closed-more done t l b (after l (next-in all f.session.earlier t l ls are))) ∙ ap (of_session (done ++ b ∷ []) t) (sym is)),
        )

    pub hands-entered : HandsGo all (done ++ b ∷ []) marks h firsts (Some x)
    hands-entered =
        let held = go.holds.2 in
        let had = held.free none in
        record {
          holds = (
            s,
            go.holds.1,
            record {
              inserted = ap (λ (k : Holding). k.inserted) more ∙ held.inserted;
              newest = held.newest;
              free = λ still. record {
                front = had.front;
                back = had.back ++ b ∷ [];
                are = ap (λ (l : List Asked). l ++ b ∷ []) had.are ∙ append_assoc had.front had.back (b ∷ []);
                before = had.before;
                behind = All-append (λ (c : Asked). is_behind s c ≡ true) had.back (b ∷ []) had.behind
                    (all-one (λ (c : Asked). is_behind s c ≡ true) b (after s (last-in all go.holds.1.earlier s go.holds.1.are)));
                holds = ap (λ (k : Holding). k.entries) more ∙ ap (λ (l : List Manual). l ++ hand_of b ∷ []) had.holds ∙ sym (map-append hand_of had.back (b ∷ []));
                part = had.part;
                few = let long = ap (λ (k : Holding). length k.entries) more in let parts = length-append a.held.entries (hand_of b ∷ []) in omega (arith, long, parts, room);
                low = had.low;
                above = subst (λ (k : ℕ). All (λ (m : Mark). m.minute ≤ k) marks) (sym same) had.above;
              };
              begun = λ first some. absurd (let bad : None ≡ Some first = sym (ap (λ (k : Holding). k.begun) more ∙ none) ∙ some in cc);
            },
          );
          part = subst (IsPartOf h.given) (sym (map-append hand_of done (b ∷ []))) (part_wider h.given (map hand_of done) (map hand_of (b ∷ [])) go.part);
          wrote = wrote-more;
        }

  -- ---- what a keep is given

  -- where no minute is kept yet, the entries by hand of its day
  given-first : a.held.begun ≡ None → (day : ℕ) → IsPartOf (h.given ++ of_day day a.held.entries) (map hand_of done)
  given-first none day =
      let free = go.holds.2.free none in
      subst (IsPartOf (h.given ++ of_day day a.held.entries)) (sym (ap (map hand_of) free.are ∙ map-append hand_of free.front free.back))
      (part_both h.given (map hand_of free.front) (of_day day a.held.entries) (map hand_of free.back) free.part
      (subst (IsPartOf (of_day day a.held.entries)) free.holds (part-day day a.held.entries)))

  -- once a minute is kept it holds none
  once : (first : ℕ) → a.held.begun ≡ Some first → a.held.entries ≡ []
  once first is = (go.holds.2.begun first is).3

  given-then : (day : ℕ) → IsPartOf (h.given ++ of_day day a.held.entries) (map hand_of done)
  given-then day = by a.held.begun refl
    where
      by : (begun : Option ℕ) → a.held.begun ≡ begun → IsPartOf (h.given ++ of_day day a.held.entries) (map hand_of done)
      by None is = given-first is day
      by (Some first) is =
          subst (λ (es : List Manual). IsPartOf (h.given ++ of_day day es) (map hand_of done)) (sym (once first is))
          (subst (λ (l : List Manual). IsPartOf l (map hand_of done)) (sym (append-nil h.given)) go.part)

  -- A KEEP IS BROKEN OFF, and with it the session is over
  pub hands-broken : (day : ℕ) → HandsGo all done marks (and_given (of_day day a.held.entries) h) firsts None
  hands-broken day = record { holds = tt; part = given-then day; wrote = go.wrote }

  -- ---- A MINUTE IS KEPT, and that is acknowledged

  module _ (m : Mark) (from : a.held.inserted ≤ m.minute) (order : (x : Mark) → Contains marks x → x.minute < m.minute) (b : Accepted) (kept : b.held ≡ begun_by m.minute a.held) where
    rise : (l : Session) → Contains all l → l.second / 60 ≤ m.minute
    rise l at = let low = go.holds.2.newest l at in let same = go.holds.2.inserted in omega (arith, low, same, from)

    abbrev hands : List Manual
    hands = of_day (m.minute / 1440) a.held.entries

    abbrev firsts_then : List FirstKeep
    firsts_then = firsts ++ record { mark = m; hands = of_day (m.minute / 1440) a.held.entries } ∷ []

    -- the first marks of the sessions before it
    kept-earlier : (t l : Session) (ls : List Session) (earlier : List Session) (x : Mark) → all ≡ earlier ++ t ∷ l ∷ ls → t.second / 60 ≤ x.minute → Contains (marks ++ m ∷ []) x
        → ((k : Mark) → Contains (marks ++ m ∷ []) k → t.second / 60 ≤ k.minute → x.minute ≤ k.minute) → l.brought < length (filter (λ (k : Mark). is_between t l k.minute) (marks ++ m ∷ [])) → WasWritten all done marks firsts t (Some l) x
    kept-earlier t l ls earlier x are low mark first own =
        go.wrote t (Some l) x (first-still all marks (m ∷ []) t l ls x earlier are low mark first own (λ k at. only l k (rise l (next-in all earlier t l ls are)) at))
      where
        only : (l : Session) (k : Mark) → l.second / 60 ≤ m.minute → Contains (m ∷ []) k → l.second / 60 ≤ k.minute
        only l k le at = ⊎_elim (λ none. absurd (omega (arith, none.1))) (λ (is : m ≡ k). subst (λ (y : Mark). l.second / 60 ≤ y.minute) is le) (Contains-push_cases [] m k at)

    -- with one first keep more
    with-one : (t : Session) (next : Option Session) (x : Mark) → WasWritten all done marks firsts t next x → WasWritten all done marks firsts_then t next x
    with-one t next x w = (w.0, Contains-append_left firsts (record { mark = m; hands = hands } ∷ []) w.0 w.1, w.2, w.3)

    here-low : s.second / 60 ≤ m.minute
    here-low = rise s (last-in all go.holds.1.earlier s go.holds.1.are)

    -- ---- it is the first of the session
    module _ (none : a.held.begun ≡ None) where
      first-mark : IsFirstOf all (marks ++ m ∷ []) s None m
      first-mark = record {
        session = record { earlier = go.holds.1.earlier; later = []; are = go.holds.1.are; next_is = refl };
        mark = Contains-push marks m;
        here = here-low;
        first = λ k at le. ⊎_elim (λ old. absurd (none-first none go.holds.1.earlier s k go.holds.1.are old le)) (λ (is : m ≡ k). let same = ap (λ (y : Mark). y.minute) is in omega (arith, same)) (Contains-push_cases marks m k at);
        own = tt;
      }

      own-hands : of_session done s None ≡ a.held.entries
      own-hands =
          let free = go.holds.2.free none in
          ap (λ (l : List Asked). of_session l s None) free.are ∙ held-all s free.front free.back free.before free.behind ∙ sym free.holds

      wrote-first : (t : Session) (next : Option Session) (x : Mark) → IsFirstOf all (marks ++ m ∷ []) t next x → WasWritten all done (marks ++ m ∷ []) firsts_then t next x
      wrote-first t next x f = by f.session.later f.session.next_is f.session.are
        where
          mine : (t : Session) → t ≡ s → m ≡ x → WasWritten all done marks firsts_then t None x
          mine t is one = (
            record { mark = m; hands = hands },
            Contains-push firsts (record { mark = m; hands = hands }),
            one,
            ap (λ (y : Mark). of_day (y.minute / 1440) a.held.entries) one ∙ ap (of_day (x.minute / 1440)) (sym (ap (λ (u : Session). of_session done u None) is ∙ own-hands)),
          )

          by : (later : List Session) → next ≡ slice_get later 0 → all ≡ f.session.earlier ++ t ∷ later → WasWritten all done marks firsts_then t next x
          by [] is are =
              subst (λ (o : Option Session). WasWritten all done marks firsts_then t o x) (sym is)
              (⊎_elim (λ old. absurd (none-first none f.session.earlier t x are old f.here)) (λ one. mine t (is-last f.session.earlier t are) one) (Contains-push_cases marks m x f.mark))
          by (l ∷ ls) is are =
              subst (λ (o : Option Session). WasWritten all done marks firsts_then t o x) (sym is)
              (with-one t (Some l) x
              (kept-earlier t l ls f.session.earlier x are f.here f.mark f.first (subst (λ (o : Option Session). IfSome o (λ (k : Session). k.brought < length (filter (λ (y : Mark). is_between t k y.minute) (marks ++ m ∷ [])))) is f.own)))

      now-begun : b.held.begun ≡ Some m.minute
      now-begun = ap (λ (k : Holding). k.begun) kept ∙ ap (first_of m.minute) none

      pub hands-first : HandsGo all done (marks ++ m ∷ []) (and_sure hands h) firsts_then (Some b)
      hands-first = record {
        holds = (
          s,
          go.holds.1,
          record {
            inserted = ap (λ (k : Holding). k.inserted) kept ∙ go.holds.2.inserted;
            newest = go.holds.2.newest;
            free = λ still. absurd (let bad : None ≡ Some m.minute = sym still ∙ now-begun in cc);
            begun = λ first some. (m, first-mark, same-minute first (sym now-begun ∙ some), ap (λ (k : Holding). k.entries) kept);
          },
        );
        part = given-first none (m.minute / 1440);
        wrote = wrote-first;
      }
        where
          same-minute : (first : ℕ) → Some m.minute ≡ Some first → m.minute ≡ first
          same-minute first is = ap (λ (o : Option ℕ). unwrap_or o 0) is

    -- ---- or a further one
    module _ (was : ℕ) (some : a.held.begun ≡ Some was) where
      abbrev was_first : (x : Mark) × IsFirstOf all marks s None x × (x.minute ≡ was) × (a.held.entries ≡ [])
      was_first = go.holds.2.begun was some

      first-stays : IsFirstOf all (marks ++ m ∷ []) s None (go.holds.2.begun was some).0
      first-stays = record {
        session = record { earlier = go.holds.1.earlier; later = []; are = go.holds.1.are; next_is = refl };
        mark = Contains-append_left marks (m ∷ []) was_first.0 was_first.1.mark;
        here = was_first.1.here;
        first = λ k at le. ⊎_elim (λ old. was_first.1.first k old le) (λ (is : m ≡ k). let lt = order was_first.0 was_first.1.mark in let same = ap (λ (y : Mark). y.minute) is in omega (arith, lt, same)) (Contains-push_cases marks m k at);
        own = tt;
      }

      wrote-on : (t : Session) (next : Option Session) (x : Mark) → IsFirstOf all (marks ++ m ∷ []) t next x → WasWritten all done (marks ++ m ∷ []) firsts t next x
      wrote-on t next x f = by f.session.later f.session.next_is f.session.are
        where
          -- the first mark of the session is not this one
          before : t ≡ s → Contains marks x
          before is = ⊎_elim
              (λ old. old)
              (λ (one : m ≡ x).
              let at = ap (λ (u : Session). u.second / 60) is in
              let low = was_first.1.here in
              let up = f.first was_first.0 (Contains-append_left marks (m ∷ []) was_first.0 was_first.1.mark) (omega (arith, at, low)) in
              let lt = order was_first.0 was_first.1.mark in
              let same = ap (λ (y : Mark). y.minute) one in
              absurd (omega (arith, up, lt, same)))
              (Contains-push_cases marks m x f.mark)

          by : (later : List Session) → next ≡ slice_get later 0 → all ≡ f.session.earlier ++ t ∷ later → WasWritten all done marks firsts t next x
          by [] is are =
              let old : IsFirstOf all marks t None x = record {
                session = record { earlier = f.session.earlier; later = []; are = are; next_is = refl };
                mark = before (is-last f.session.earlier t are);
                here = f.here;
                first = λ k at le. f.first k (Contains-append_left marks (m ∷ []) k at) le;
                own = tt;
              } in
              subst (λ (o : Option Session). WasWritten all done marks firsts t o x) (sym is) (go.wrote t None x old)
          by (l ∷ ls) is are =
              subst (λ (o : Option Session). WasWritten all done marks firsts t o x) (sym is)
              (kept-earlier t l ls f.session.earlier x are f.here f.mark f.first (subst (λ (o : Option Session). IfSome o (λ (k : Session). k.brought < length (filter (λ (y : Mark). is_between t k y.minute) (marks ++ m ∷ [])))) is f.own))

      still-begun : b.held.begun ≡ Some was
      still-begun = ap (λ (k : Holding). k.begun) kept ∙ ap (first_of m.minute) some

      pub hands-further : HandsGo all done (marks ++ m ∷ []) (and_sure hands h) firsts (Some b)
      hands-further = record {
        holds = (
          s,
          go.holds.1,
          record {
            inserted = ap (λ (k : Holding). k.inserted) kept ∙ go.holds.2.inserted;
            newest = go.holds.2.newest;
            free = λ none. absurd (let bad : None ≡ Some was = sym none ∙ still-begun in cc);
            begun = λ first is. (was_first.0, first-stays, was_first.2 ∙ same-minute first (sym still-begun ∙ is), ap (λ (k : Holding). k.entries) kept);
          },
        );
        part = given-then (m.minute / 1440);
        wrote = wrote-on;
      }
        where
          same-minute : (first : ℕ) → Some was ≡ Some first → was ≡ first
          same-minute first is = ap (λ (o : Option ℕ). unwrap_or o 0) is

    -- EITHER WAY
    pub hands-kept : HandsGo all done (marks ++ m ∷ []) (and_sure hands h) (and_first a.held.begun (record { mark = m; hands = hands }) firsts) (Some b)
    hands-kept = by a.held.begun refl
      where
        by : (begun : Option ℕ) → a.held.begun ≡ begun → HandsGo all done (marks ++ m ∷ []) (and_sure hands h) (and_first begun (record { mark = m; hands = hands }) firsts) (Some b)
        by None none = hands-first none
        by (Some was) some = hands-further was some

-- ---- AT THE END

pub hands-end : (r : Recording) (c : Card) (marks : List Mark) (h : Hands) (firsts : List FirstKeep) (session : Option Accepted) → HandsGo (sessions r c) (done_of r c) (marks_of (device_of c) marks) h firsts session → HandsFollowed r c h firsts marks
hands-end r c marks h firsts session go = record {
  given = go.part;
  firsts = λ s next m f. let w = go.wrote s next m f in (w.0, w.1, w.2, λ e at day. subst (λ (l : List Manual). Contains l e) (sym w.3) (day-has (m.minute / 1440) (of_session (done_of r c) s next) e at day));
}
