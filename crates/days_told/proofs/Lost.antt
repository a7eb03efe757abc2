-- A history with a lost minute parts from the history there, and rises as that does.
use Rattle.std.proofs.Common.{◌≡◌, ⊎_elim, ℕ, ◌+◌, ◌/◌, ◌<◌, ◌≤◌, Bool, true, false, cond, nat_lt, nat_le, Option, Some, None, List, [], ◌∷◌, ◌++◌, All, Contains, length, map, filter, refl, ap, sym, subst, arith, append_assoc}
use Rattle.std.specs.Prelude.{find, option_to_list}
use Rattle.std.proofs.lemmas.Bool.Decides.{nat_tests}
use Rattle.std.proofs.lemmas.List.Elements.{All-head, All-tail, Contains-append_left, Contains-append_right, Contains-push_cases, Contains-append_cases}
use Rattle.history_model.specs.log_model.trace_model.Trace.{TraceSecond}
use Rattle.history_model.specs.log_model.minute_model.declared.Rule.{Rule}
use Rattle.history_model.specs.log_model.Log.{RunLog}
use Rattle.history_model.specs.log_model.Course.{ToldSecond, went}
use Rattle.history_model.specs.log_model.Spans.{spans_of, first_in, end_in, AreInOrder, AreApart}
use Rattle.log_model.proofs.Spanning.{spanned}
use Rattle.history_model.specs.Minutes.{HistoryMinute}
use Rattle.history_model.specs.Presence.{Start}
use Rattle.history_model.specs.Book.{IsFork}
use Rattle.history_model.specs.History.{span_minutes, limited_to, limit_of, lost_minute, history_by, unit_history, lost_by, with_lost}
use Rattle.history_model.specs.Growth.{Rises}
use Rattle.history_model.proofs.Books.{up_to-within}
use Rattle.history_model.proofs.Rising.{rises-span, rises-spans, rises-parts, rises-from}
use Rattle.history_model.proofs.Decided.{rises-within}

-- WHAT A LOST MINUTE LEAVES: it parts from the history, and rises from this number to that one
pub record IsParted (from until : ℕ) (past lost : List HistoryMinute) : Type 0 where
  pub fork : IsFork past lost
  pub rises : Rises from lost until

-- what a look-up finds is there, and passes
found-in : (p : HistoryMinute → Bool) (xs : List HistoryMinute) (i : HistoryMinute) → find p xs ≡ Some i → Contains xs i × (p i ≡ true)
found-in p [] i is = absurd (cc)
found-in p (x ∷ xs) i is = go (p x) refl (λ rest. found-in p xs i rest) is
  where
    go : (b : Bool) → p x ≡ b → (find p xs ≡ Some i → Contains xs i × (p i ≡ true)) → cond b (Some x) (find p xs) ≡ Some i → Contains (x ∷ xs) i × (p i ≡ true)
    go true test more is = let same : x ≡ i = cc in (Contains-append_left (x ∷ []) xs i (0, omega arith, same), subst (λ (y : HistoryMinute). p y ≡ true) same test)
    go false test more is = let rest = more is in (Contains-append_right (x ∷ []) xs i rest.0, rest.1)

-- minutes that are not later than one rise to the next that is later
rises-to : (a until k m : ℕ) (xs : List HistoryMinute) → Rises a xs until → All (λ i. i.minute ≤ k) xs → k < m → a ≤ m → Rises a xs m
rises-to a until k m [] h low lt le = le
rises-to a until k m (x ∷ xs) h low lt le =
    let first : x.minute ≤ k = All-head (λ (i : HistoryMinute). i.minute ≤ k) x xs low in
    (h.0, rises-to (x.minute + 1) until k m xs h.1 (All-tail (λ (i : HistoryMinute). i.minute ≤ k) x xs low) lt (omega (arith, first, lt)))

rises-filter : (p : HistoryMinute → Bool) (a until : ℕ) (past : List HistoryMinute) → Rises a past until → Rises a (filter p past) until
rises-filter p a until [] h = h
rises-filter p a until (i ∷ past) h = go (p i) (rises-filter p (i.minute + 1) until past h.1)
  where
    go : (b : Bool) → Rises (i.minute + 1) (filter p past) until → Rises a (cond b (i ∷ filter p past) (filter p past)) until
    go true rest = (h.0, rest)
    go false rest = let first : a ≤ i.minute = h.0 in rises-from a (i.minute + 1) until (filter p past) (omega (arith, first)) rest

rises-limited : (o : Option ℕ) (a until : ℕ) (past : List HistoryMinute) → Rises a past until → Rises a (limited_to o past) until
rises-limited None a until past h = h
rises-limited (Some k) a until past h = rises-filter (λ i. nat_le i.minute k) a until past h

rises-one : (a until : ℕ) (xs : List HistoryMinute) (i : HistoryMinute) → Rises a xs i.minute → i.minute < until → Rises a (xs ++ i ∷ []) until
rises-one a until [] i h lt = (h, omega (arith, lt))
rises-one a until (x ∷ xs) i h lt = (h.0, rises-one (x.minute + 1) until xs i h.1 lt)

rises-most : (a until : ℕ) (past : List HistoryMinute) → Rises a past until → a ≤ until
rises-most a until [] h = h
rises-most a until (x ∷ past) h = let low : a ≤ x.minute = h.0 in let most = rises-most (x.minute + 1) until past h.1 in omega (arith, low, most)

test-later : (k m : ℕ) → nat_lt k m ≡ true → k < m
test-later k m test = grind (arith, nat_tests)

module _ (rule : Rule) (start : Start) (told : List ToldSecond) (limit : List ToldSecond → List (List ToldSecond) → Option ℕ) (a : ℕ) where
  -- of the spans one after the other
  parts : (past : List HistoryMinute) (from until : ℕ) (spans : List (List ToldSecond)) → Rises a past (from / 60) → AreApart from spans until → (l : List HistoryMinute) → Contains (lost_by rule start limit told past spans) l →
      IsParted a (until / 60) (past ++ history_by rule start limit told past spans) l
  parts past from until [] rises apart l at = absurd (omega (arith, at.1))
  parts past from until (span ∷ later) rises apart l at =
      ⊎_elim
      (λ mine. own (limit span later) refl mine)
      (λ others.
      let p = parts (past ++ more) (end_in span) until later begun apart.3 l others in
      subst (λ (zs : List HistoryMinute). IsParted a (until / 60) zs l) (append_assoc past more rest) p)
      (Contains-append_cases (map (λ (i : HistoryMinute). past ++ (more ++ i ∷ [])) (option_to_list (lost_minute (limit span later) whole))) (lost_by rule start limit told (past ++ more) later) l at)
    where
      whole : List HistoryMinute
      whole = span_minutes rule start told past span

      more : List HistoryMinute
      more = limited_to (limit span later) whole

      rest : List HistoryMinute
      rest = history_by rule start limit told (past ++ more) later

      begins : from / 60 ≤ first_in span / 60
      begins = let from_ : from ≤ first_in span = apart.1 in omega (arith, from_)

      spanning : Rises (first_in span / 60) whole (end_in span / 60)
      spanning = rises-span rule start told past span apart.2

      begun : Rises a (past ++ more) (end_in span / 60)
      begun = rises-parts a (from / 60) (end_in span / 60) past more rises (rises-from (from / 60) (first_in span / 60) (end_in span / 60) more begins (rises-limited (limit span later) (first_in span / 60) (end_in span / 60) whole spanning))

      resting : Rises (end_in span / 60) rest (until / 60)
      resting = rises-spans rule start told limit (past ++ more) (end_in span) until later apart.3

      -- the lost minute of this span
      first : (k : ℕ) (i : HistoryMinute) → limit span later ≡ Some k → find (λ (j : HistoryMinute). nat_lt k j.minute) whole ≡ Some i → past ++ (more ++ i ∷ []) ≡ l → IsParted a (until / 60) (past ++ (more ++ rest)) l
      first k i is found same =
          let at = found-in (λ (j : HistoryMinute). nat_lt k j.minute) whole i found in
          let lt : k < i.minute = test-later k i.minute at.1 in
          let within_ = rises-within (first_in span / 60) (end_in span / 60) whole i spanning at.0 in
          let high : i.minute < end_in span / 60 = within_.1 in
          let low : first_in span / 60 ≤ i.minute = within_.0 in
          let most : end_in span / 60 ≤ until / 60 = rises-most (end_in span / 60) (until / 60) rest resting in
          let limited : All (λ (j : HistoryMinute). j.minute ≤ k) more = subst (λ (o : Option ℕ). All (λ (j : HistoryMinute). j.minute ≤ k) (limited_to o whole)) (sym is) (up_to-within k whole) in
          let mine : Rises (first_in span / 60) more i.minute = rises-to (first_in span / 60) (end_in span / 60) k i.minute more (rises-limited (limit span later) (first_in span / 60) (end_in span / 60) whole spanning) limited lt low in
          let all : Rises a (past ++ (more ++ i ∷ [])) (until / 60) =
          rises-parts a (from / 60) (until / 60) past (more ++ i ∷ []) rises (rises-from (from / 60) (first_in span / 60) (until / 60) (more ++ i ∷ []) begins (rises-one (first_in span / 60) (until / 60) more i mine (omega (arith, high, most)))) in
          subst (IsParted a (until / 60) (past ++ (more ++ rest))) same
          (record {
            fork = record {
              front = past ++ more;
              rest = rest;
              tail = i ∷ [];
              goes = sym (append_assoc past more rest);
              parts = sym (append_assoc past more (i ∷ []));
              earlier = λ x j in_ behind. ⊎_elim
                  (λ none. absurd (omega (arith, none.1)))
                  (λ (e : i ≡ x). let mins : i.minute ≡ x.minute = ap (λ (y : HistoryMinute). y.minute) e in let late : end_in span / 60 ≤ j.minute = (rises-within (end_in span / 60) (until / 60) rest j resting behind).0 in omega (arith, mins, late, high))
                  (Contains-push_cases [] i x in_);
            };
            rises = all;
          })

      own : (o : Option ℕ) → limit span later ≡ o → Contains (map (λ (i : HistoryMinute). past ++ (more ++ i ∷ [])) (option_to_list (lost_minute (limit span later) whole))) l → IsParted a (until / 60) (past ++ (more ++ rest)) l
      own None is at =
          let none : Contains {X = List HistoryMinute} [] l = subst (λ (o : Option ℕ). Contains (map (λ (i : HistoryMinute). past ++ (more ++ i ∷ [])) (option_to_list (lost_minute o whole))) l) is at in absurd (omega (arith, none.1))
      own (Some k) is at = among (find (λ (j : HistoryMinute). nat_lt k j.minute) whole) refl
          (subst (λ (o : Option ℕ). Contains (map (λ (i : HistoryMinute). past ++ (more ++ i ∷ [])) (option_to_list (lost_minute o whole))) l) is at)
        where
          among : (o : Option HistoryMinute) → find (λ (j : HistoryMinute). nat_lt k j.minute) whole ≡ o → Contains (map (λ (i : HistoryMinute). past ++ (more ++ i ∷ [])) (option_to_list (find (λ (j : HistoryMinute). nat_lt k j.minute) whole))) l →
              IsParted a (until / 60) (past ++ (more ++ rest)) l
          among None found there =
              let none : Contains {X = List HistoryMinute} [] l = subst (λ (o : Option HistoryMinute). Contains (map (λ (i : HistoryMinute). past ++ (more ++ i ∷ [])) (option_to_list o)) l) found there in absurd (omega (arith, none.1))
          among (Some i) found there =
              let one : Contains ((past ++ (more ++ i ∷ [])) ∷ []) l = subst (λ (o : Option HistoryMinute). Contains (map (λ (i : HistoryMinute). past ++ (more ++ i ∷ [])) (option_to_list o)) l) found there in
              ⊎_elim
              (λ none. absurd (omega (arith, none.1)))
              (λ same. first k i is found same)
              (Contains-push_cases [] (past ++ (more ++ i ∷ [])) l one)

-- EACH HISTORY WITH A LOST MINUTE parts from the history, and rises as that does
pub lost-parted : (rule : Rule) (start : Start) (log : RunLog) (n : ℕ) (ss : List TraceSecond) → AreInOrder n ss → (l : List HistoryMinute) → Contains (with_lost rule start log (went log ss).told) l →
    IsParted (n / 60) ((n + length ss) / 60) (unit_history rule start log (went log ss).told) l
unfolding with_lost unit_history
lost-parted rule start log n ss order l at = parts rule start (went log ss).told (limit_of log) (n / 60) [] n (n + length ss) (spans_of (went log ss).told) (omega arith) (spanned log n ss order).apart l at
