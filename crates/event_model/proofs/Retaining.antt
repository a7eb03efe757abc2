-- One event more: what stands in the places is what is to be kept.
use Rattle.std.proofs.Common.{◌≡◌, ◌∙◌, ℕ, zero, suc, ◌+◌, ◌<◌, ◌≤◌, Bool, true, false, Option, Some, None, List, [], ◌∷◌, ◌++◌, length, refl, ap, arith, append-nil, append_assoc, All}
use Rattle.std.specs.Prelude.{nat_lt, nat_le, ◌==◌, ◌&&◌, ◌||◌, not, slice_set, IsPermutation}
use Rattle.std.specs.List.{list_all, list_any, position_or_len}
use Rattle.std.proofs.lemmas.Bool.{eqb-true, ne_eqb, eqb-false, ltb-true, ltb-false, lt-ltb, leb-true, leb-false}
use Rattle.std.proofs.lemmas.List.{length-append}
use Rattle.std.proofs.lemmas.List.Elements.{All-nil, All-cons, All-head, All-tail, All-append, All-push, All-weaker, filter-append}
use Rattle.std.proofs.lemmas.List.Quantifiers.{position-Some}
use Rattle.std.proofs.lemmas.List.Sorted.{IsPermutation-sym, IsPermutation-trans, IsPermutation-cons, IsPermutation-to_front, IsPermutation-middle, IsPermutation-append_left, IsPermutation-append_comm}
use Rattle.activity_codec.proofs.ByTest.{by_test}
use Rattle.event_model.specs.declared.entries.Held.{Held}
use Rattle.event_model.specs.Places.{earliest, held_at, where_later, recent_place, placed}
use Rattle.event_model.specs.Kept.{stored, KeepsRecent}

pub all-front : {X : Type 0} (P : X → Type 0) (xs ys : List X) → All P (xs ++ ys) → All P xs
all-front P [] ys each = All-nil P
all-front P (x ∷ xs) ys each = All-cons P x xs (All-head P x (xs ++ ys) each) (all-front P xs ys (All-tail P x (xs ++ ys) each))

pub all-back : {X : Type 0} (P : X → Type 0) (xs ys : List X) → All P (xs ++ ys) → All P ys
all-back P [] ys each = each
all-back P (x ∷ xs) ys each = all-back P xs ys (All-tail P x (xs ++ ys) each)

-- a list at a place
pub record Split (xs : List Held) (i : ℕ) : Type 0 where
  pub before : List Held
  pub after : List Held
  pub is : xs ≡ before ++ held_at xs i ∷ after
  pub with : (h : Held) → slice_set xs i h ≡ before ++ h ∷ after

pub split-at : (xs : List Held) (i : ℕ) → i < length xs → Split xs i
split-at [] i lt = absurd (omega (arith, lt))
split-at (x ∷ xs) zero lt = record { before = []; after = xs; is = refl; with = λ h. refl }
split-at (x ∷ xs) (suc i) lt =
    let less : i < length xs = omega (arith, lt) in
    let s : Split xs i = split-at xs i less in
    record {
      before = x ∷ s.before;
      after = s.after;
      is = ap (λ (ys : List Held). x ∷ ys) s.is;
      with = λ h. ap (λ (ys : List Held). x ∷ ys) (s.with h);
    }

pub and-first : (a b : Bool) → (a && b) ≡ true → a ≡ true
and-first true b h = refl
and-first false b h = cc

pub and-second : (a b : Bool) → (a && b) ≡ true → b ≡ true
and-second true b h = h
and-second false b h = cc

pub or-second : (a : Bool) → (a || true) ≡ true
or-second true = refl
or-second false = refl

abbrev pub Later : ℕ → Held → Type 0
Later b h = b ≤ h.begin

pub all-later : (b : ℕ) (xs : List Held) → list_all (λ h. nat_le b h.begin) xs ≡ true → All (Later b) xs
all-later b [] h = All-nil (Later b)
all-later b (x ∷ xs) h =
    All-cons (Later b) x xs (leb-true b x.begin (and-first (nat_le b x.begin) (list_all (λ y. nat_le b y.begin) xs) h))
    (all-later b xs (and-second (nat_le b x.begin) (list_all (λ y. nat_le b y.begin) xs) h))

later-all : (b : ℕ) (xs : List Held) → All (Later b) xs → list_all (λ h. nat_le b h.begin) xs ≡ true
later-all b [] each = refl
later-all b (x ∷ xs) each =
    by_test (nat_le b x.begin)
    (λ is. rw is (later-all b xs (All-tail (Later b) x xs each)))
    (λ is. let le : b ≤ x.begin = All-head (Later b) x xs each in absurd (let more : x.begin < b = leb-false b x.begin is in omega (arith, le, more)))

-- one of the earliest
record Low (xs : List Held) : Type 0 where
  one : Held
  there : (q : Held → Bool) → q one ≡ true → list_any q xs ≡ true
  least : All (Later one.begin) xs

low : (x : Held) (xs : List Held) → Low (x ∷ xs)
low x [] = record {
  one = x;
  there = λ q h. rw h refl;
  least = All-cons (Later x.begin) x [] (omega arith) (All-nil (Later x.begin));
}
low x (y ∷ ys) =
    let rest : Low (y ∷ ys) = low y ys in
    by_test (nat_le x.begin rest.one.begin)
    (λ is.
    let le : x.begin ≤ rest.one.begin = leb-true x.begin rest.one.begin is in
    let same : Later x.begin x = omega arith in
    record {
      one = x;
      there = λ q h. rw h refl;
      least = All-cons (Later x.begin) x (y ∷ ys) same (All-weaker (Later rest.one.begin) (Later x.begin) (λ h m. omega (arith, le, m)) (y ∷ ys) rest.least);
    })
    (λ is.
    let le : rest.one.begin ≤ x.begin = let lt : rest.one.begin < x.begin = leb-false x.begin rest.one.begin is in omega (arith, lt) in
    record {
      one = rest.one;
      there = λ q h. rw (rest.there q h) (or-second (q x));
      least = All-cons (Later rest.one.begin) x (y ∷ ys) le rest.least;
    })

-- what passes a test somewhere is found
pub any-found : (q : Held → Bool) (xs : List Held) → list_any q xs ≡ true → position_or_len q xs < length xs
any-found q [] h = cc
any-found q (x ∷ xs) h =
    by_test (q x)
    (λ is. rw is (omega arith))
    (λ is. let rest : position_or_len q xs < length xs = any-found q xs (rw is at h) in rw is (omega (arith, rest)))

-- there is an earliest one wherever there is one
pub none-earliest : (held : List Held) → earliest (λ h. h.begin) held ≡ None → held ≡ []
none-earliest [] h = refl
none-earliest (x ∷ xs) h =
    let l : Low (x ∷ xs) = low x xs in
    let q : Held → Bool = λ h. list_all (λ y. nat_le h.begin y.begin) (x ∷ xs) in
    let found : position_or_len q (x ∷ xs) < length (x ∷ xs) = any-found q (x ∷ xs) (l.there q (later-all l.one.begin (x ∷ xs) l.least)) in
    absurd (let e = lt-ltb (position_or_len q (x ∷ xs)) (length (x ∷ xs)) found in let failed = rw e at h in cc)

pub stored-one : (h : Held) (xs : List Held) → 0 < h.begin → stored (h ∷ xs) ≡ h ∷ stored xs
stored-one h xs some = let e : (h.begin == 0) ≡ false = ne_eqb h.begin 0 (λ z. omega (arith, some, z)) in rw e refl

pub stored-none : (h : Held) (xs : List Held) → h.begin ≡ 0 → stored (h ∷ xs) ≡ stored xs
stored-none h xs none = rw none refl

pub stored-all : (xs : List Held) → All (Later 1) xs → stored xs ≡ xs
stored-all [] each = refl
stored-all (x ∷ xs) each =
    let some : 0 < x.begin = let le : 1 ≤ x.begin = All-head (Later 1) x xs each in omega (arith, le) in
    stored-one x xs some ∙ ap (λ (ys : List Held). x ∷ ys) (stored-all xs (All-tail (Later 1) x xs each))

pub stored-most : (xs : List Held) → length (stored xs) ≤ length xs
stored-most [] = omega arith
stored-most (x ∷ xs) =
    let rest : length (stored xs) ≤ length xs = stored-most xs in
    by_test (x.begin == 0) (λ is. rw is (omega (arith, rest))) (λ is. rw is (omega (arith, rest)))

pub stored-append : (xs ys : List Held) → stored (xs ++ ys) ≡ stored xs ++ stored ys
stored-append xs ys = filter-append (λ (h : Held). not (h.begin == 0)) xs ys

-- two of a list changed over
heads : (x y : Held) (zs : List Held) → IsPermutation (x ∷ y ∷ zs) (y ∷ x ∷ zs)
heads x y zs = IsPermutation-append_left zs (x ∷ y ∷ []) (y ∷ x ∷ []) (IsPermutation-append_comm (x ∷ []) (y ∷ []))

module _ (held all : List Held) (event : Held) (some : 0 < event.begin) (keeps : KeepsRecent (length held) all (stored held)) where
  abbrev Goal : List Held → Type 0
  Goal now = KeepsRecent (length held) (all ++ event ∷ []) (stored now)

  more : IsPermutation (all ++ event ∷ []) ((stored held ++ keeps.others) ++ event ∷ [])
  more = IsPermutation-append_left (event ∷ []) all (stored held ++ keeps.others) keeps.parts

  -- no held event begins earlier than this one: it is not kept
  stays : All (Later event.begin) held → Goal held
  stays later =
      let each : stored held ≡ held = stored-all held (All-weaker (Later event.begin) (Later 1) (λ h m. omega (arith, some, m)) held later) in
      let full : length (stored held) ≡ length held = ap length each in
      let below : All (Later event.begin) (stored held) = rw each later in
      record {
        others = keeps.others ++ event ∷ [];
        parts = rw (← append_assoc (stored held) keeps.others (event ∷ [])) more;
        most = keeps.most;
        recent = All-push (λ (o : Held). (length (stored held) ≡ length held) × All (λ h. o.begin ≤ h.begin) (stored held)) keeps.others event keeps.recent (full, below);
      }

  -- an empty place is taken
  empty-place : (before after : List Held) (x : Held) → held ≡ before ++ x ∷ after → x.begin ≡ 0 → Goal (before ++ event ∷ after)
  empty-place before after x is none = go keeps.others keeps.parts keeps.recent
    where
      was : stored held ≡ stored before ++ stored after
      was = ap stored is ∙ stored-append before (x ∷ after) ∙ ap (λ (ys : List Held). stored before ++ ys) (stored-none x after none)

      now : stored (before ++ event ∷ after) ≡ stored before ++ event ∷ stored after
      now = stored-append before (event ∷ after) ∙ ap (λ (ys : List Held). stored before ++ ys) (stored-one event after some)

      room : length (stored before) + length (stored after) + 1 ≤ length held
      room =
          let a = stored-most before in
          let b = stored-most after in
          let n : length held ≡ length before + length (x ∷ after) = ap length is ∙ length-append before (x ∷ after) in
          omega (arith, a, b, n)

      go : (others : List Held) → IsPermutation all (stored held ++ others) →
          All (λ (o : Held). (length (stored held) ≡ length held) × All (λ h. o.begin ≤ h.begin) (stored held)) others → Goal (before ++ event ∷ after)
      go [] parts recent =
          let base : IsPermutation (all ++ event ∷ []) ((stored held ++ []) ++ event ∷ []) = IsPermutation-append_left (event ∷ []) all (stored held ++ []) parts in
          let from : IsPermutation (all ++ event ∷ []) ((stored before ++ stored after) ++ event ∷ []) = rw (append-nil (stored held), was) at base in
          record {
            others = [];
            parts =
                rw now
                (rw (append-nil (stored before ++ event ∷ stored after))
                (IsPermutation-trans (all ++ event ∷ []) ((stored before ++ stored after) ++ event ∷ []) (stored before ++ event ∷ stored after) from
                (IsPermutation-trans ((stored before ++ stored after) ++ event ∷ []) (event ∷ (stored before ++ stored after)) (stored before ++ event ∷ stored after)
                (IsPermutation-to_front (stored before ++ stored after) event)
                (IsPermutation-sym (stored before ++ event ∷ stored after) (event ∷ (stored before ++ stored after)) (IsPermutation-middle (stored before) event (stored after))))));
            most = rw now (let n : length (stored before ++ event ∷ stored after) ≡ length (stored before) + length (event ∷ stored after) = length-append (stored before) (event ∷ stored after) in omega (arith, n, room));
            recent = All-nil (λ (o : Held). (length (stored (before ++ event ∷ after)) ≡ length held) × All (λ h. o.begin ≤ h.begin) (stored (before ++ event ∷ after)));
          }
      go (o ∷ others) parts recent =
          let full : length (stored held) ≡ length held = (All-head (λ (o : Held). (length (stored held) ≡ length held) × All (λ h. o.begin ≤ h.begin) (stored held)) o others recent).0 in
          let n : length (stored held) ≡ length (stored before) + length (stored after) = ap length was ∙ length-append (stored before) (stored after) in
          absurd (omega (arith, full, n, room))

  -- the place of the earliest is taken
  earliest-place : (before after : List Held) (x : Held) → held ≡ before ++ x ∷ after → 0 < x.begin → x.begin < event.begin →
      All (Later x.begin) held → Goal (before ++ event ∷ after)
  earliest-place before after x is real earlier least =
      let sb : List Held = stored before in
      let sa : List Held = stored after in
      let was : stored held ≡ sb ++ x ∷ sa = ap stored is ∙ stored-append before (x ∷ after) ∙ ap (λ (ys : List Held). sb ++ ys) (stored-one x after real) in
      let now : stored (before ++ event ∷ after) ≡ sb ++ event ∷ sa = stored-append before (event ∷ after) ∙ ap (λ (ys : List Held). sb ++ ys) (stored-one event after some) in
      let each : stored held ≡ held = stored-all held (All-weaker (Later x.begin) (Later 1) (λ h m. omega (arith, real, m)) held least) in
      let a : length (sb ++ x ∷ sa) ≡ length sb + length (x ∷ sa) = length-append sb (x ∷ sa) in
      let b : length (sb ++ event ∷ sa) ≡ length sb + length (event ∷ sa) = length-append sb (event ∷ sa) in
      let whole : length (stored held) ≡ length held = ap length each in
      let old : length (stored held) ≡ length (sb ++ x ∷ sa) = ap length was in
      let full : length (sb ++ event ∷ sa) ≡ length held = omega (arith, a, b, whole, old) in
      let all_later : All (Later x.begin) (stored held) = rw each least in
      let kept : All (Later x.begin) (sb ++ x ∷ sa) = rw was at all_later in
      let lower : Later x.begin event = omega (arith, earlier) in
      let below : All (Later x.begin) (sb ++ event ∷ sa) =
      All-append (Later x.begin) sb (event ∷ sa) (all-front (Later x.begin) sb (x ∷ sa) kept)
      (All-cons (Later x.begin) event sa lower (All-tail (Later x.begin) x sa (all-back (Later x.begin) sb (x ∷ sa) kept))) in
      let rest : List Held = (sb ++ sa) ++ keeps.others in
      let from : IsPermutation (all ++ event ∷ []) (event ∷ x ∷ rest) =
      IsPermutation-trans (all ++ event ∷ []) (((sb ++ x ∷ sa) ++ keeps.others) ++ event ∷ []) (event ∷ x ∷ rest) (rw was at more)
      (IsPermutation-trans (((sb ++ x ∷ sa) ++ keeps.others) ++ event ∷ []) (event ∷ ((sb ++ x ∷ sa) ++ keeps.others)) (event ∷ x ∷ rest)
      (IsPermutation-to_front ((sb ++ x ∷ sa) ++ keeps.others) event)
      (IsPermutation-cons event ((sb ++ x ∷ sa) ++ keeps.others) (x ∷ rest) (IsPermutation-append_left keeps.others (sb ++ x ∷ sa) (x ∷ (sb ++ sa)) (IsPermutation-middle sb x sa)))) in
      let to : IsPermutation ((sb ++ event ∷ sa) ++ x ∷ keeps.others) (x ∷ event ∷ rest) =
      IsPermutation-trans ((sb ++ event ∷ sa) ++ x ∷ keeps.others) (x ∷ ((sb ++ event ∷ sa) ++ keeps.others)) (x ∷ event ∷ rest)
      (IsPermutation-middle (sb ++ event ∷ sa) x keeps.others)
      (IsPermutation-cons x ((sb ++ event ∷ sa) ++ keeps.others) (event ∷ rest) (IsPermutation-append_left keeps.others (sb ++ event ∷ sa) (event ∷ (sb ++ sa)) (IsPermutation-middle sb event sa))) in
      let parts : IsPermutation (all ++ event ∷ []) ((sb ++ event ∷ sa) ++ x ∷ keeps.others) =
      IsPermutation-trans (all ++ event ∷ []) (event ∷ x ∷ rest) ((sb ++ event ∷ sa) ++ x ∷ keeps.others) from
      (IsPermutation-trans (event ∷ x ∷ rest) (x ∷ event ∷ rest) ((sb ++ event ∷ sa) ++ x ∷ keeps.others) (heads event x rest)
      (IsPermutation-sym ((sb ++ event ∷ sa) ++ x ∷ keeps.others) (x ∷ event ∷ rest) to)) in
      let others : All (λ (o : Held). (length (sb ++ event ∷ sa) ≡ length held) × All (λ h. o.begin ≤ h.begin) (sb ++ event ∷ sa)) keeps.others =
      All-weaker (λ (o : Held). (length (stored held) ≡ length held) × All (λ h. o.begin ≤ h.begin) (stored held)) (λ (o : Held). (length (sb ++ event ∷ sa) ≡ length held) × All (λ h. o.begin ≤ h.begin) (sb ++ event ∷ sa))
      (λ o h.
      let at : Later o.begin x = All-head (Later o.begin) x sa (all-back (Later o.begin) sb (x ∷ sa) (rw was at h.1)) in
      (full, All-weaker (Later x.begin) (Later o.begin) (λ y m. omega (arith, at, m)) (sb ++ event ∷ sa) below))
      keeps.others keeps.recent in
      rw now (record {
        others = x ∷ keeps.others;
        parts = parts;
        most = omega (arith, full);
        recent = All-cons (λ (o : Held). (length (sb ++ event ∷ sa) ≡ length held) × All (λ h. o.begin ≤ h.begin) (sb ++ event ∷ sa)) x keeps.others (full, below) others;
      })

  -- one event more
  pub recent-kept : Goal (placed held event (recent_place held event))
  recent-kept = go (earliest (λ h. h.begin) held) refl
    where
      go : (o : Option ℕ) → earliest (λ h. h.begin) held ≡ o → Goal (placed held event (where_later held event o))
      go None is = stays (rw (none-earliest held is) (All-nil (Later event.begin)))
      go (Some p) is =
          let found = position-Some (λ (h : Held). list_all (λ y. nat_le h.begin y.begin) held) held p (record { begin = 0; end = 0; weight = 0 }) is in
          let s : Split held p = split-at held p found.0 in
          let least : All (Later (held_at held p).begin) held = all-later (held_at held p).begin held found.1 in
          by_test (nat_lt (held_at held p).begin event.begin)
          (λ later.
          let earlier : (held_at held p).begin < event.begin = ltb-true (held_at held p).begin event.begin later in
          rw later (rw (s.with event)
          (by_test ((held_at held p).begin == 0)
          (λ none. empty-place s.before s.after (held_at held p) s.is (eqb-true (held_at held p).begin 0 none))
          (λ real. let positive : 0 < (held_at held p).begin = let ne = eqb-false (held_at held p).begin 0 real in omega (arith, ne) in
          earliest-place s.before s.after (held_at held p) s.is positive earlier least))))
          (λ not_later.
          let le : event.begin ≤ (held_at held p).begin = ltb-false (held_at held p).begin event.begin not_later in
          rw not_later (stays (All-weaker (Later (held_at held p).begin) (Later event.begin) (λ h m. omega (arith, le, m)) held least)))
