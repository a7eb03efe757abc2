-- Why entries by hand were stopped that were asked so far, from step to step of a run.
use Rattle.std.proofs.Common.{◌≡◌, ◌⊎◌, inl, inr, ⊎_elim, ℕ, ◌+◌, ◌/◌, ◌<◌, ◌≤◌, Bool, true, false, Option, Some, None, IfSome, List, [], ◌∷◌, ◌++◌, All, Contains, length, map, filter, refl, ap, sym, subst, ◌∙◌, arith, append-nil, append_assoc, cond, ◌||◌}
use Rattle.std.specs.Prelude.{◌&&◌, not, nat_le, nat_lt, slice_get, option_map, nat_eq}
use Rattle.std.proofs.lemmas.Bool.Decides.{nat_tests}
use Rattle.std.proofs.lemmas.List.Elements.{All-nil, All-cons, All-head, All-tail, All-contains_itself, All-weaker, filter-append, Contains-append_left, Contains-append_right, Contains-append_cases, Contains-push, Contains-push_cases, All-contains}
use Rattle.minute_rules.specs.activity_codec.declared.entries.Manual.{Manual}
use Rattle.run_devices.proofs.history_model.Filters.{filter-none, filter-whole, all-one}
use Rattle.run_devices.specs.log_model.declared.lines.Mark.{Mark}
use Rattle.run_devices.specs.log_model.declared.lines.Refused.{Refused}
use Rattle.run_devices.specs.log_model.declared.lines.SlotFault.{SlotFault}
use Rattle.run_devices.specs.log_model.ByHand.{Asked, stopped_by}
use Rattle.run_devices.specs.hand_model.Holding.{last_minute, stopped_by as hand_stopped}
use Rattle.run_devices.specs.safety_model.Hands.{Session, IsFirstOf, IsSessionOf, IsFirstBefore, held_before, hand_of, is_behind, is_asked_before, is_between, is_within}
use Rattle.run_devices.specs.safety_model.ByHand.{IsStoppedBy, IsTold}
use Rattle.run_record.proofs.HandsFold.{count-append, none-between, first-still, last-first, last-in, next-in}
use Rattle.std.proofs.lemmas.Bool.{leb-true}
use Rattle.run_devices.specs.hand_model.Written.{Hands}
use Rattle.run_devices.specs.hand_model.declared.held.EnterFault.TheVariants as enter
use Rattle.run_devices.specs.log_model.declared.lines.SlotFault.TheVariants.{Begun, NotFree, Full}
use Rattle.run_devices.specs.run_promise.Cards.{FirstKeep}
use Rattle.run_devices.specs.run_crew.declared.cards.Accepted.{Accepted}
use Rattle.run_record.specs.Within.{stop_of, stop_told}
use Rattle.run_record.specs.HeldHands.{HandsGo, IsKnown, WasKnown}
use Rattle.run_devices.specs.trace_model.declared.Card.{Card}
use Rattle.run_devices.specs.history_model.Minutes.{HistoryMinute}
use Rattle.run_devices.specs.history_model.Presence.{Start}

-- ---- the same

pub stopped-as : (start : Start) (past : List HistoryMinute) (c : Card) (all now : List Session) (done then_ : List Asked) (marks ms : List Mark) (lines ls : List Refused) (asks others : List Asked) → all ≡ now → done ≡ then_ → marks ≡ ms → lines ≡ ls → asks ≡ others → All (IsStoppedBy (IsKnown start past c) all done marks lines) asks → All (IsStoppedBy (IsKnown start past c) now then_ ms ls) others
stopped-as start past c all now done then_ marks ms lines ls asks others sessions did told said same go =
    subst (All (IsStoppedBy (IsKnown start past c) now then_ ms ls)) same
    (subst (λ (l : List Refused). All (IsStoppedBy (IsKnown start past c) now then_ ms l) asks) said
    (subst (λ (l : List Mark). All (IsStoppedBy (IsKnown start past c) now then_ l lines) asks) told
    (subst (λ (l : List Asked). All (IsStoppedBy (IsKnown start past c) now l marks lines) asks) did
    (subst (λ (l : List Session). All (IsStoppedBy (IsKnown start past c) l done marks lines) asks) sessions go))))

-- ---- MORE MINUTES ARE KEPT

pub known-behind : (start : Start) (past more : List HistoryMinute) (c : Card) (second newest : ℕ) → IsKnown start past c second newest → IsKnown start (past ++ more) c second newest
known-behind start past more c second newest k = record {
  front = k.front;
  rest = k.rest ++ more;
  are = ap (λ (l : List HistoryMinute). l ++ more) k.are ∙ append_assoc k.front k.rest more;
  most = k.most;
}

-- one may be stopped by more newest minutes
pub stopped-weaker : (P Q : ℕ → ℕ → Type 0) → ((second newest : ℕ) → P second newest → Q second newest) → (all : List Session) (done : List Asked) (marks : List Mark) (lines : List Refused) (a : Asked) → IsStoppedBy P all done marks lines a → IsStoppedBy Q all done marks lines a
stopped-weaker P Q weaker all done marks lines a h = record {
  why = h.why;
  told = h.told;
  session = h.session;
  next = h.next;
  one = h.one;
  within = h.within;
  newest = h.newest;
  answers = h.answers;
  most = weaker h.session.second h.newest h.most;
  first = h.first;
  kept = h.kept;
  is = h.is;
}

pub stopped-behind : (start : Start) (past more : List HistoryMinute) (c : Card) (all : List Session) (done : List Asked) (marks : List Mark) (lines : List Refused) (asks : List Asked) → All (IsStoppedBy (IsKnown start past c) all done marks lines) asks → All (IsStoppedBy (IsKnown start (past ++ more) c) all done marks lines) asks
stopped-behind start past more c all done marks lines asks each = All-weaker (IsStoppedBy (IsKnown start past c) all done marks lines) (IsStoppedBy (IsKnown start (past ++ more) c) all done marks lines)
    (stopped-weaker (IsKnown start past c) (IsKnown start (past ++ more) c) (known-behind start past more c) all done marks lines) asks each

-- ---- small facts

between-so : (s n : Session) (minute : ℕ) → s.second / 60 ≤ minute → minute < n.second / 60 → is_between s n minute ≡ true
between-so s n minute low high = both (nat_le (s.second / 60) minute) (nat_lt minute (n.second / 60)) (le (s.second / 60) minute low) (lt minute (n.second / 60) high)
  where
    le : (a b : ℕ) → a ≤ b → nat_le a b ≡ true
    le a b h = grind (arith, nat_tests)

    lt : (a b : ℕ) → a < b → nat_lt a b ≡ true
    lt a b h = grind (arith, nat_tests)

    both : (a b : Bool) → a ≡ true → b ≡ true → (a && b) ≡ true
    both true true x y = refl
    both false b x y = absurd (cc)
    both true false x y = absurd (cc)

-- one that passes is counted
counts-one : (p : Mark → Bool) (ms : List Mark) (m : Mark) → Contains ms m → p m ≡ true → 0 < length (filter p ms)
counts-one p [] m at is = absurd (omega (arith, at.1))
counts-one p (y ∷ ys) m at is = ⊎_elim
    (λ one. ⊎_elim
    (λ gone. absurd (omega (arith, gone.1)))
    (λ (e : y ≡ m). here (p y) (ap p e ∙ is))
    (Contains-push_cases [] y m one))
    (λ rest. there (p y) (counts-one p ys m rest is))
    (Contains-append_cases (y ∷ []) ys m at)
  where
    here : (b : Bool) → b ≡ true → 0 < length (cond b (y ∷ filter p ys) (filter p ys))
    here true passes = omega arith
    here false passes = absurd (cc)

    there : (b : Bool) → 0 < length (filter p ys) → 0 < length (cond b (y ∷ filter p ys) (filter p ys))
    there true few = omega arith
    there false few = few

-- the marks of a session are as many with some more
more-count : (s n : Session) (marks more : List Mark) (k : ℕ) → k < length (filter (λ (x : Mark). is_between s n x.minute) marks) → k < length (filter (λ (x : Mark). is_between s n x.minute) (marks ++ more))
more-count s n marks more k lt = let parts = count-append (λ (x : Mark). is_between s n x.minute) marks more in omega (arith, lt, parts)

-- ---- SOME MARKS MORE, all later than those before, and none before an acceptance

module _ (start : Start) (past : List HistoryMinute) (c : Card) (all : List Session) (marks more : List Mark) (order : (x y : Mark) → Contains marks x → Contains more y → x.minute < y.minute) (late : (l : Session) (y : Mark) → Contains all l → Contains more y → l.second / 60 ≤ y.minute) where
  -- a first mark stays one
  first-on : (s : Session) (next : Option Session) (m : Mark) → IsFirstOf all marks s next m → IsFirstOf all (marks ++ more) s next m
  first-on s next m f = record {
    session = record { earlier = f.session.earlier; later = f.session.later; are = f.session.are; next_is = f.session.next_is };
    mark = Contains-append_left marks more m f.mark;
    here = f.here;
    first = λ k at le. ⊎_elim (λ old. f.first k old le) (λ new. let lt = order m k f.mark new in omega (arith, lt)) (Contains-append_cases marks more k at);
    own = by next f.own;
  }
    where
      by : (o : Option Session) → IfSome o (λ (n : Session). n.brought < length (filter (λ (k : Mark). is_between s n k.minute) marks)) → IfSome o (λ (n : Session). n.brought < length (filter (λ (k : Mark). is_between s n k.minute) (marks ++ more)))
      by None own = tt
      by (Some n) own = more-count s n marks more n.brought own

  -- and one that is now was one, or is new
  first-back : (s : Session) (next : Option Session) (m : Mark) → IsFirstOf all (marks ++ more) s next m → IsFirstOf all marks s next m ⊎ Contains more m
  first-back s next m f = ⊎_elim (λ old. inl (was old)) inr (Contains-append_cases marks more m f.mark)
    where
      by : (later : List Session) → all ≡ f.session.earlier ++ s ∷ later → (o : Option Session) → o ≡ slice_get later 0 → IfSome o (λ (n : Session). n.brought < length (filter (λ (k : Mark). is_between s n k.minute) (marks ++ more)))
          → IfSome o (λ (n : Session). n.brought < length (filter (λ (k : Mark). is_between s n k.minute) marks))
      by later are None is own = tt
      by [] are (Some n) is own = absurd (cc)
      by (l ∷ ls) are (Some n) is own =
          let same : n ≡ l = cc in
          let late_n : n.second / 60 ≡ l.second / 60 = ap (λ (x : Session). x.second / 60) same in
          let none = ap (λ (ks : List Mark). length ks) (none-between s n more (λ k at. let low = late l k (next-in all f.session.earlier s l ls are) at in omega (arith, low, late_n))) in
          let parts = count-append (λ (k : Mark). is_between s n k.minute) marks more in
          omega (arith, own, parts, none)

      was : Contains marks m → IsFirstOf all marks s next m
      was old = record {
        session = record { earlier = f.session.earlier; later = f.session.later; are = f.session.are; next_is = f.session.next_is };
        mark = old;
        here = f.here;
        first = λ k at le. f.first k (Contains-append_left marks more k at) le;
        own = by f.session.later f.session.are next f.session.next_is f.own;
      }

  -- one of the sessions is one of them
  session-in : (s : Session) (earlier later : List Session) → all ≡ earlier ++ s ∷ later → Contains all s
  session-in s earlier later are = subst (λ (l : List Session). Contains l s) (sym are) (Contains-append_right earlier (s ∷ later) s (Contains-append_left (s ∷ []) later s (Contains-push [] s)))

  -- A MINUTE IS KEPT, or more
  module _ (done : List Asked) (lines : List Refused) where
    one-kept : (a : Asked) → ((y : Mark) → Contains more y → a.second / 60 ≤ y.minute + 4) → IsStoppedBy (IsKnown start past c) all done marks lines a → IsStoppedBy (IsKnown start past c) all done (marks ++ more) lines a
    one-kept a near h = record {
      why = h.why;
      told = h.told;
      session = h.session;
      next = h.next;
      one = record { earlier = h.one.earlier; later = h.one.later; are = h.one.are; next_is = h.one.next_is };
      within = h.within;
      newest = h.newest;
      most = h.most;
      answers = λ m at lt. ⊎_elim (λ old. h.answers m old lt) (λ new. absurd (let low = late h.session m (session-in h.session h.one.earlier h.one.later h.one.are) new in omega (arith, low, lt))) (Contains-append_cases marks more m at);
      first = h.first;
      kept = by h.first h.kept;
      is = h.is;
    }
      where
        by : (o : Option Mark) → IsFirstBefore all marks h.session h.next a o → IsFirstBefore all (marks ++ more) h.session h.next a o
        by None was = λ m f. ⊎_elim (was m) (near m) (first-back h.session h.next m f)
        by (Some m) was = first-on h.session h.next m was

    pub stopped-kept : (asks : List Asked) → ((y : Mark) → Contains more y → All (λ (a : Asked). a.second / 60 ≤ y.minute + 4) asks) → All (IsStoppedBy (IsKnown start past c) all done marks lines) asks → All (IsStoppedBy (IsKnown start past c) all done (marks ++ more) lines) asks
    stopped-kept [] near each = All-nil (IsStoppedBy (IsKnown start past c) all done (marks ++ more) lines)
    stopped-kept (a ∷ asks) near each =
        All-cons (IsStoppedBy (IsKnown start past c) all done (marks ++ more) lines) a asks
        (one-kept a (λ y at. All-head (λ (x : Asked). x.second / 60 ≤ y.minute + 4) a asks (near y at)) (All-head (IsStoppedBy (IsKnown start past c) all done marks lines) a asks each))
        (stopped-kept asks (λ y at. All-tail (λ (x : Asked). x.second / 60 ≤ y.minute + 4) a asks (near y at)) (All-tail (IsStoppedBy (IsKnown start past c) all done marks lines) a asks each))

  -- A CARD IS ACCEPTED, and these marks are given for what that brings
  module _ (n : Session) (count : length more ≡ n.brought) (low : (m : Mark) → Contains (marks ++ more) m → m.minute < n.second / 60) (done : List Asked) (lines : List Refused) where
    -- the session before is one of them still, and so is its first mark
    last-on : (s : Session) (earlier : List Session) → all ≡ earlier ++ s ∷ [] → IsSessionOf (all ++ n ∷ []) (marks ++ more) s (Some n)
    last-on s earlier are = record { earlier = earlier; later = n ∷ []; are = ap (λ (l : List Session). l ++ n ∷ []) are ∙ append_assoc earlier (s ∷ []) (n ∷ []); next_is = refl }

    last-kept : (s : Session) (earlier : List Session) (m : Mark) → all ≡ earlier ++ s ∷ [] → IsFirstOf all marks s None m → IsFirstOf (all ++ n ∷ []) (marks ++ more) s (Some n) m
    last-kept s earlier m are f = record {
      session = last-on s earlier are;
      mark = Contains-append_left marks more m f.mark;
      here = f.here;
      first = λ k at le. ⊎_elim (λ old. f.first k old le) (λ new. let lt = order m k f.mark new in omega (arith, lt)) (Contains-append_cases marks more k at);
      own =
          let parts = count-append (λ (k : Mark). is_between s n k.minute) marks more in
          let mine = counts-one (λ (k : Mark). is_between s n k.minute) marks m f.mark (between-so s n m.minute f.here (low m (Contains-append_left marks more m f.mark))) in
          let whole : length (filter (λ (k : Mark). is_between s n k.minute) more) ≡ length more = ap (λ (l : List Mark). length l) (filter-whole (λ (k : Mark). is_between s n k.minute) more (All-weaker (Contains more) (λ (k : Mark). is_between s n k.minute ≡ true) (λ k at. between-so s n k.minute (late s k (last-in all earlier s are) at) (low k (Contains-append_right marks more k at))) more (All-contains_itself more))) in
          omega (arith, parts, mine, whole, count);
    }

    -- and the first mark of an earlier one
    later-kept : (s l : Session) (ls earlier : List Session) (m : Mark) → all ≡ earlier ++ s ∷ l ∷ ls → IsFirstOf all marks s (Some l) m → IsFirstOf (all ++ n ∷ []) (marks ++ more) s (Some l) m
    later-kept s l ls earlier m are f =
        let on : IsFirstOf all (marks ++ more) s (Some l) m = first-on s (Some l) m f in
        record {
          session = record { earlier = earlier; later = (l ∷ ls) ++ n ∷ []; are = ap (λ (k : List Session). k ++ n ∷ []) are ∙ append_assoc earlier (s ∷ l ∷ ls) (n ∷ []); next_is = refl };
          mark = on.mark;
          here = on.here;
          first = on.first;
          own = on.own;
        }

    one-taken : (a : Asked) → is_behind n a ≡ false → IsStoppedBy (IsKnown start past c) all done marks lines a → IsStoppedBy (IsKnown start past c) (all ++ n ∷ []) done (marks ++ more) lines a
    one-taken a apart h = by h.one.later h.one.next_is h.one.are
      where
        answers : (m : Mark) → Contains (marks ++ more) m → m.minute < h.session.second / 60 → m.minute ≤ h.newest
        answers m at lt = ⊎_elim (λ old. h.answers m old lt) (λ new. absurd (let under = late h.session m (session-in h.session h.one.earlier h.one.later h.one.are) new in omega (arith, under, lt))) (Contains-append_cases marks more m at)

        by : (later : List Session) → h.next ≡ slice_get later 0 → all ≡ h.one.earlier ++ h.session ∷ later → IsStoppedBy (IsKnown start past c) (all ++ n ∷ []) done (marks ++ more) lines a
        by [] is are = record {
          why = h.why;
          told = h.told;
          session = h.session;
          next = Some n;
          one = last-on h.session h.one.earlier are;
          within = ap (λ (t : Bool). is_behind h.session a && not t) apart ∙ subst (λ (o : Option Session). is_within h.session o a ≡ true) is h.within;
          newest = h.newest;
          answers = answers;
          most = h.most;
          first = h.first;
          kept = kept h.first (subst (λ (o : Option Session). IsFirstBefore all marks h.session o a h.first) is h.kept);
          is = h.is;
        }
          where
            kept : (o : Option Mark) → IsFirstBefore all marks h.session None a o → IsFirstBefore (all ++ n ∷ []) (marks ++ more) h.session (Some n) a o
            kept None was = λ m f. was m (last-first all marks more n count order h.session h.one.earlier m are f.here f.mark f.first f.own)
            kept (Some m) was = last-kept h.session h.one.earlier m are was
        by (l ∷ ls) is are = record {
          why = h.why;
          told = h.told;
          session = h.session;
          next = Some l;
          one = record { earlier = h.one.earlier; later = (l ∷ ls) ++ n ∷ []; are = ap (λ (k : List Session). k ++ n ∷ []) are ∙ append_assoc h.one.earlier (h.session ∷ l ∷ ls) (n ∷ []); next_is = refl };
          within = subst (λ (o : Option Session). is_within h.session o a ≡ true) is h.within;
          newest = h.newest;
          answers = answers;
          most = h.most;
          first = h.first;
          kept = kept h.first (subst (λ (o : Option Session). IsFirstBefore all marks h.session o a h.first) is h.kept);
          is = h.is;
        }
          where
            kept : (o : Option Mark) → IsFirstBefore all marks h.session (Some l) a o → IsFirstBefore (all ++ n ∷ []) (marks ++ more) h.session (Some l) a o
            kept None was = λ m f. was m (first-still all marks more h.session l ls m h.one.earlier are f.here f.mark f.first f.own (λ k at. late l k (next-in all h.one.earlier h.session l ls are) at))
            kept (Some m) was = later-kept h.session l ls h.one.earlier m are was

    pub stopped-taken : (asks : List Asked) → All (λ (a : Asked). is_behind n a ≡ false) asks → All (IsStoppedBy (IsKnown start past c) all done marks lines) asks → All (IsStoppedBy (IsKnown start past c) (all ++ n ∷ []) done (marks ++ more) lines) asks
    stopped-taken [] before each = All-nil (IsStoppedBy (IsKnown start past c) (all ++ n ∷ []) done (marks ++ more) lines)
    stopped-taken (a ∷ asks) before each =
        All-cons (IsStoppedBy (IsKnown start past c) (all ++ n ∷ []) done (marks ++ more) lines) a asks
        (one-taken a (All-head (λ (x : Asked). is_behind n x ≡ false) a asks before) (All-head (IsStoppedBy (IsKnown start past c) all done marks lines) a asks each))
        (stopped-taken asks (All-tail (λ (x : Asked). is_behind n x ≡ false) a asks before) (All-tail (IsStoppedBy (IsKnown start past c) all done marks lines) a asks each))

-- ---- MORE IS DONE AND TOLD, later than one that was asked

-- what its session held before it is the same
held-same : (done : List Asked) (b a : Asked) (s : Session) → is_asked_before b a ≡ false → held_before (done ++ b ∷ []) s a ≡ held_before done s a
held-same done b a s later =
    ap (map hand_of)
    (filter-append (λ (x : Asked). is_behind s x && is_asked_before x a) done (b ∷ [])
    ∙ ap (λ (l : List Asked). filter (λ (x : Asked). is_behind s x && is_asked_before x a) done ++ l) (filter-none (λ (x : Asked). is_behind s x && is_asked_before x a) (b ∷ []) (all-one (λ (x : Asked). (is_behind s x && is_asked_before x a) ≡ false) b (ap (λ (t : Bool). is_behind s b && t) later ∙ and-false (is_behind s b))))
    ∙ append-nil (filter (λ (x : Asked). is_behind s x && is_asked_before x a) done))
  where
    and-false : (b : Bool) → (b && false) ≡ false
    and-false true = refl
    and-false false = refl

-- and so is its line
told-same : (lines : List Refused) (l : Refused) (a : Asked) (why : Option SlotFault) → (l.second ≡ a.second → l.begun ≡ a.begun → ⊥) → IsTold lines a why → IsTold (lines ++ l ∷ []) a why
told-same lines l a None apart was = λ k at second begun. ⊎_elim
    (λ old. was k old second begun)
    (λ (is : l ≡ k). apart (ap (λ (x : Refused). x.second) is ∙ second) (ap (λ (x : Refused). x.begun) is ∙ begun))
    (Contains-push_cases lines l k at)
told-same lines l a (Some fault) apart was = Contains-append_left lines (l ∷ []) (record { second = a.second; fault = fault; begun = a.begun }) was

-- the reason, by what is held
abbrev IsWhy : Option SlotFault → Option Mark → (newest inserted minute : ℕ) → List Manual → Type 0
IsWhy why first newest inserted minute held = why ≡ stopped_by (option_map (λ (m : Mark). m.minute) first) (last_minute newest held) inserted (length held) minute

module _ (start : Start) (past : List HistoryMinute) (c : Card) (all : List Session) (marks : List Mark) where
  done-later : (done : List Asked) (b : Asked) (lines : List Refused) (a : Asked) → is_asked_before b a ≡ false → IsStoppedBy (IsKnown start past c) all done marks lines a → IsStoppedBy (IsKnown start past c) all (done ++ b ∷ []) marks lines a
  done-later done b lines a later h = record {
    why = h.why;
    told = h.told;
    session = h.session;
    next = h.next;
    one = h.one;
    within = h.within;
    newest = h.newest;
    answers = h.answers;
    most = h.most;
    first = h.first;
    kept = h.kept;
    is = subst (IsWhy h.why h.first h.newest (h.session.second / 60) a.minute) (sym (held-same done b a h.session later)) h.is;
  }

  told-later : (done : List Asked) (lines : List Refused) (l : Refused) (a : Asked) → (l.second ≡ a.second → l.begun ≡ a.begun → ⊥) → IsStoppedBy (IsKnown start past c) all done marks lines a → IsStoppedBy (IsKnown start past c) all done marks (lines ++ l ∷ []) a
  told-later done lines l a apart h = record {
    why = h.why;
    told = told-same lines l a h.why apart h.told;
    session = h.session;
    next = h.next;
    one = h.one;
    within = h.within;
    newest = h.newest;
    answers = h.answers;
    most = h.most;
    first = h.first;
    kept = h.kept;
    is = h.is;
  }

  pub stopped-done : (done : List Asked) (b : Asked) (lines : List Refused) (asks : List Asked) → All (λ (a : Asked). is_asked_before b a ≡ false) asks → All (IsStoppedBy (IsKnown start past c) all done marks lines) asks → All (IsStoppedBy (IsKnown start past c) all (done ++ b ∷ []) marks lines) asks
  stopped-done done b lines [] later each = All-nil (IsStoppedBy (IsKnown start past c) all (done ++ b ∷ []) marks lines)
  stopped-done done b lines (a ∷ asks) later each =
      All-cons (IsStoppedBy (IsKnown start past c) all (done ++ b ∷ []) marks lines) a asks
      (done-later done b lines a (All-head (λ (x : Asked). is_asked_before b x ≡ false) a asks later) (All-head (IsStoppedBy (IsKnown start past c) all done marks lines) a asks each))
      (stopped-done done b lines asks (All-tail (λ (x : Asked). is_asked_before b x ≡ false) a asks later) (All-tail (IsStoppedBy (IsKnown start past c) all done marks lines) a asks each))

  pub stopped-told : (done : List Asked) (lines : List Refused) (l : Refused) (asks : List Asked) → All (λ (a : Asked). l.second ≡ a.second → l.begun ≡ a.begun → ⊥) asks → All (IsStoppedBy (IsKnown start past c) all done marks lines) asks → All (IsStoppedBy (IsKnown start past c) all done marks (lines ++ l ∷ [])) asks
  stopped-told done lines l [] apart each = All-nil (IsStoppedBy (IsKnown start past c) all done marks (lines ++ l ∷ []))
  stopped-told done lines l (a ∷ asks) apart each =
      All-cons (IsStoppedBy (IsKnown start past c) all done marks (lines ++ l ∷ [])) a asks
      (told-later done lines l a (All-head (λ (x : Asked). l.second ≡ x.second → l.begun ≡ x.begun → ⊥) a asks apart) (All-head (IsStoppedBy (IsKnown start past c) all done marks lines) a asks each))
      (stopped-told done lines l asks (All-tail (λ (x : Asked). l.second ≡ x.second → l.begun ≡ x.begun → ⊥) a asks apart) (All-tail (IsStoppedBy (IsKnown start past c) all done marks lines) a asks each))

-- ---- ONE MORE IS ASKED

or-none : (x y z : Bool) → x ≡ false → (y ≡ false) ⊎ (z ≡ false) → (x || (y && z)) ≡ false
or-none false false z is either = refl
or-none false true false is either = refl
or-none false true true is (inl no_) = absurd (cc)
or-none false true true is (inr no_) = absurd (cc)
or-none true y z is either = absurd (cc)

or-some : (x y z : Bool) → (x ≡ true) ⊎ ((y ≡ true) × (z ≡ true)) → (x || (y && z)) ≡ true
or-some true y z either = refl
or-some false y z (inl is) = absurd (cc)
or-some false true true (inr both) = refl
or-some false false z (inr both) = let bad = both.0 in absurd (cc)
or-some false true false (inr both) = let bad = both.1 in absurd (cc)

-- one at the same place or before is not asked behind it
pub before-not : (b a : Asked) → (a.second < b.second) ⊎ ((a.second ≡ b.second) × (a.begun ≤ b.begun)) → is_asked_before b a ≡ false
before-not b a (inl lt) = or-none (nat_lt b.second a.second) (nat_eq b.second a.second) (nat_lt b.begun a.begun) (under b.second a.second (omega (arith, lt))) (inl (apart b.second a.second lt))
  where
    under : (x y : ℕ) → y ≤ x → nat_lt x y ≡ false
    under x y le = grind (arith, nat_tests)

    apart : (x y : ℕ) → y < x → nat_eq x y ≡ false
    apart x y lt = grind (arith, nat_tests)
before-not b a (inr here) =
    let same = here.0 in
    let le = here.1 in
    or-none (nat_lt b.second a.second) (nat_eq b.second a.second) (nat_lt b.begun a.begun) (under b.second a.second (omega (arith, same))) (inr (under b.begun a.begun le))
  where
    under : (x y : ℕ) → y ≤ x → nat_lt x y ≡ false
    under x y le = grind (arith, nat_tests)

pub before-so : (x b : Asked) → (x.second < b.second) ⊎ ((x.second ≡ b.second) × (x.begun < b.begun)) → is_asked_before x b ≡ true
before-so x b (inl lt) = or-some (nat_lt x.second b.second) (nat_eq x.second b.second) (nat_lt x.begun b.begun) (inl (below x.second b.second lt))
  where
    below : (m n : ℕ) → m < n → nat_lt m n ≡ true
    below m n lt = grind (arith, nat_tests)
before-so x b (inr here) = or-some (nat_lt x.second b.second) (nat_eq x.second b.second) (nat_lt x.begun b.begun) (inr (equal x.second b.second here.0, below x.begun b.begun here.1))
  where
    below : (m n : ℕ) → m < n → nat_lt m n ≡ true
    below m n lt = grind (arith, nat_tests)

    equal : (m n : ℕ) → m ≡ n → nat_eq m n ≡ true
    equal m n is = grind (arith, nat_tests)

-- what a session says that has kept no minute, and one that has
why-free : (a : Accepted) (minute : ℕ) → a.held.begun ≡ None → length a.held.entries ≤ 8 → stop_of a minute ≡ stopped_by None (last_minute a.session.minute a.held.entries) a.held.inserted (length a.held.entries) minute
why-free a minute none few = by a.held.begun refl none
  where
    fitting : (c full : Bool) → nat_le 8 (length a.held.entries) ≡ full
        → option_map stop_told (cond c (cond full (Some (enter.Full 8)) None) (Some (enter.NotFree (last_minute a.session.minute a.held.entries) a.held.inserted)))
        ≡ cond c (cond full (Some (Full (length a.held.entries))) None) (Some (NotFree (last_minute a.session.minute a.held.entries) a.held.inserted))
    fitting true true is =
        let least = leb-true 8 (length a.held.entries) is in
        let eight : 8 ≡ length a.held.entries = omega (arith, least, few) in
        ap (λ (k : ℕ). Some (Full k)) eight
    fitting true false is = refl
    fitting false full is = refl

    by : (b : Option ℕ) → a.held.begun ≡ b → b ≡ None → option_map stop_told (hand_stopped (record a.held { begun = b }) a.session.minute minute) ≡ stopped_by None (last_minute a.session.minute a.held.entries) a.held.inserted (length a.held.entries) minute
    by None is no_ = fitting (nat_lt (last_minute a.session.minute a.held.entries) minute && nat_lt minute a.held.inserted) (nat_le 8 (length a.held.entries)) refl
    by (Some first) is no_ = absurd (cc)

why-begun : (a : Accepted) (minute first : ℕ) → a.held.begun ≡ Some first → stop_of a minute ≡ Some (Begun first)
why-begun a minute first some = by a.held.begun refl some
  where
    by : (b : Option ℕ) → a.held.begun ≡ b → b ≡ Some first → option_map stop_told (hand_stopped (record a.held { begun = b }) a.session.minute minute) ≡ Some (Begun first)
    by None is no_ = absurd (cc)
    by (Some k) is same = let e : k ≡ first = cc in ap (λ (x : ℕ). Some (Begun x)) e

module _ (start : Start) (past : List HistoryMinute) (c : Card) (all : List Session) (done : List Asked) (marks : List Mark) (h : Hands) (firsts : List FirstKeep) (a : Accepted) (go : HandsGo all done marks h firsts (Some a)) (b : Asked) (behind : is_behind go.holds.0 b ≡ true) (before : All (λ (x : Asked). is_asked_before x b ≡ true) done)
    (was : WasKnown start past c marks go.holds.0 a) where
  abbrev s : Session
  s = go.holds.0

  -- it holds all that was done in it
  held-now : a.held.begun ≡ None → held_before done s b ≡ a.held.entries
  held-now none =
      let free = go.holds.2.free none in
      ap (λ (l : List Asked). held_before l s b) free.are
      ∙ ap (map hand_of)
      (filter-append (λ (x : Asked). is_behind s x && is_asked_before x b) free.front free.back
      ∙ ap (λ (l : List Asked). l ++ filter (λ (x : Asked). is_behind s x && is_asked_before x b) free.back)
      (filter-none (λ (x : Asked). is_behind s x && is_asked_before x b) free.front (All-weaker (λ (x : Asked). is_behind s x ≡ false) (λ (x : Asked). (is_behind s x && is_asked_before x b) ≡ false) (λ x is. ap (λ (t : Bool). t && is_asked_before x b) is) free.front free.before))
      ∙ filter-whole (λ (x : Asked). is_behind s x && is_asked_before x b) free.back
      (All-weaker (Contains free.back) (λ (x : Asked). (is_behind s x && is_asked_before x b) ≡ true)
      (λ x at.
      both (is_behind s x) (is_asked_before x b) (All-contains (λ (y : Asked). is_behind s y ≡ true) free.back x free.behind at)
      (All-contains (λ (y : Asked). is_asked_before y b ≡ true) (free.front ++ free.back) x (subst (All (λ (y : Asked). is_asked_before y b ≡ true)) free.are before) (Contains-append_right free.front free.back x at)))
      free.back (All-contains_itself free.back)))
      ∙ sym free.holds
    where
      both : (x y : Bool) → x ≡ true → y ≡ true → (x && y) ≡ true
      both true true p q = refl
      both false y p q = absurd (cc)
      both true false p q = absurd (cc)

  within-it : is_within s None b ≡ true
  within-it = and-true (is_behind s b) ∙ behind
    where
      and-true : (t : Bool) → (t && true) ≡ t
      and-true true = refl
      and-true false = refl

  one-of : IsSessionOf all marks s None
  one-of = record { earlier = go.holds.1.earlier; later = []; are = go.holds.1.are; next_is = refl }

  -- SO IT IS of that one
  pub stopped-now : (lines : List Refused) (why : Option SlotFault) → stop_of a b.minute ≡ why → IsTold lines b why → IsStoppedBy (IsKnown start past c) all done marks lines b
  stopped-now lines why is told = by a.held.begun refl
    where
      by : (begun : Option ℕ) → a.held.begun ≡ begun → IsStoppedBy (IsKnown start past c) all done marks lines b
      by None none =
          let free = go.holds.2.free none in
          record {
            why = why;
            told = told;
            session = s;
            next = None;
            one = one-of;
            within = within-it;
            newest = was.newest;
            answers = was.above;
            most = was.most;
            first = None;
            kept = λ m f. absurd (let low = All-contains (λ (k : Mark). k.minute < s.second / 60) marks m free.low f.mark in let here = f.here in omega (arith, low, here));
            is = sym is ∙ why-free a b.minute none free.few
                ∙ ap (λ (es : List Manual). stopped_by None (last_minute a.session.minute es) a.held.inserted (length es) b.minute) (sym (held-now none))
                ∙ ap (λ (k : ℕ). stopped_by None (last_minute a.session.minute (held_before done s b)) k (length (held_before done s b)) b.minute) go.holds.2.inserted
                ∙ ap (λ (k : ℕ). stopped_by None (last_minute k (held_before done s b)) (s.second / 60) (length (held_before done s b)) b.minute) (was.same none);
          }
      by (Some k) some =
          let m = go.holds.2.begun k some in
          record {
            why = why;
            told = told;
            session = s;
            next = None;
            one = one-of;
            within = within-it;
            newest = was.newest;
            answers = was.above;
            most = was.most;
            first = Some m.0;
            kept = m.1;
            is = sym is ∙ why-begun a b.minute k some ∙ ap (λ (x : ℕ). Some (Begun x)) (sym m.2);
          }
