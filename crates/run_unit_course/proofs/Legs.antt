-- The legs of spans: by other limits, with spans behind, and of a span that ended with a cut.
use Rattle.std.proofs.Common.{◌≡◌, ◌⊎◌, inl, inr, ⊎_elim, ℕ, suc, ◌+◌, ◌/◌, ◌<◌, ◌≤◌, Bool, true, false, cond, nat_lt, nat_le, Option, Some, None, List, [], ◌∷◌, ◌++◌, All, Contains, length, map, filter, refl, ap, sym, subst, ◌∙◌, arith, append_assoc, append-nil}
use Rattle.std.specs.Prelude.{unwrap_or, find}
use Rattle.std.specs.List.{AllByRecursion}
use Rattle.std.proofs.lemmas.Bool.Decides.{nat_tests}
use Rattle.std.proofs.lemmas.Option.{none-some}
use Rattle.std.proofs.lemmas.List.Sums.{sum_by-cons, sum_by-append}
use Rattle.std.proofs.lemmas.List.Elements.{All-head, All-tail, All-weaker, All-contains, All-filter, Contains-append_left, Contains-append_right, Contains-push_cases, filter-append}
use Rattle.minute_model.specs.declared.Rule.{Rule}
use Rattle.minute_model.specs.declared.Minute.{Minute}
use Rattle.log_model.specs.declared.lines.Break.{Break}
use Rattle.log_model.specs.Log.{RunLog}
use Rattle.log_model.specs.Course.{ToldSecond}
use Rattle.history_model.specs.Minutes.{HistoryMinute, up_to}
use Rattle.history_model.specs.History.{decided_of, limit_by}
use Rattle.history_model.specs.Growth.{closed_limit}
use Rattle.history_model.specs.Book.{IsMark}
use Rattle.history_model.proofs.Books.{contains-up_to, up_to-within}
use Rattle.history_model.proofs.Closing.{Agree}
use Rattle.history_model.proofs.Deciding.{short-none}
use Rattle.history_model.proofs.Filters.{filter-none, filter-whole}
use Rattle.run_unit_course.specs.Followed.{IsKnown}
use Rattle.run_unit_course.specs.Legs.{Reckoned, Travel, reckoned, travelled, stranded_at, all_travelled, kilometres_of, travelled_by, IsLeg, AreLegs, AreWhole, whole_legs}
use Rattle.run_unit_course.proofs.Alike.{Alike, decided-empty}

-- WHAT WAS TRAVELLED up to the last of some minutes
pub travelled_by-push : (ds : List Minute) (d : Minute) → travelled_by (ds ++ d ∷ []) ≡ d.travelled
travelled_by-push [] d = refl
travelled_by-push (e ∷ []) d = refl
travelled_by-push (e ∷ f ∷ ds) d = travelled_by-push (f ∷ ds) d

pub travelled-all : (ds new : List Minute) (g : Travel) → g.sure ≡ travelled_by ds → (all_travelled new g).sure ≡ travelled_by (ds ++ new)
travelled-all ds [] g is = is ∙ ap travelled_by (sym (append-nil ds))
travelled-all ds (d ∷ new) g is = travelled-all (ds ++ d ∷ []) new (travelled d.minute d.travelled g) (sym (travelled_by-push ds d)) ∙ ap travelled_by (append_assoc ds (d ∷ []) new)

pub travelled-none : (new : List Minute) (g : Travel) → g.maybe ≡ None → (all_travelled new g).maybe ≡ None
travelled-none [] g none = none
travelled-none (d ∷ new) g none = travelled-none new (travelled d.minute d.travelled g) refl

pub travelled-earlier : (new : List Minute) (g : Travel) → (all_travelled new g).before ≡ g.before
travelled-earlier [] g = refl
travelled-earlier (d ∷ new) g = travelled-earlier new (travelled d.minute d.travelled g)

pub travelled-image : (new : List Minute) (g : Travel) → (all_travelled new g).image ≡ g.image
travelled-image [] g = refl
travelled-image (d ∷ new) g = travelled-image new (travelled d.minute d.travelled g)

pub stranded-image : (d : Option Minute) (g : Travel) → (stranded_at d g).image ≡ g.image
stranded-image None g = refl
stranded-image (Some d) g = refl

-- MINUTES OF WHICH A KEEPING WAS BEGUN: those of before, and these, each with what was travelled up to it
pub travelled-begun : (new : List Minute) (g : Travel) (e : Reckoned) → Contains (all_travelled new g).begun e → Contains g.begun e ⊎ ((d : Minute) × Contains new d × (e ≡ reckoned d.minute d.travelled g))
travelled-begun [] g e at = inl at
travelled-begun (d ∷ new) g e at = ⊎_elim
    (λ old. ⊎_elim
    (λ there. inl there)
    (λ is. inr (d, Contains-append_left (d ∷ []) new d (0, omega arith, refl), sym is))
    (Contains-push_cases g.begun (reckoned d.minute d.travelled g) e old))
    (λ later. inr (later.0, Contains-append_right (d ∷ []) new later.0 later.1, later.2))
    (travelled-begun new (travelled d.minute d.travelled g) e at)

pub stranded-begun : (o : Option Minute) (g : Travel) (e : Reckoned) → Contains (stranded_at o g).begun e → Contains g.begun e ⊎ ((d : Minute) × (o ≡ Some d) × (e ≡ reckoned d.minute d.travelled g))
stranded-begun None g e at = inl at
stranded-begun (Some d) g e at = ⊎_elim (λ there. inl there) (λ is. inr (d, refl, sym is)) (Contains-push_cases g.begun (reckoned d.minute d.travelled g) e at)

-- KILOMETRES
-- nothing, of each of these spans
abbrev pub nothing_of : List (List ToldSecond) → List ℕ
nothing_of spans = map (λ s. 0) spans

pub kilometres-nothing : (spans : List (List ToldSecond)) → kilometres_of (nothing_of spans) ≡ 0
kilometres-nothing [] = refl
kilometres-nothing (span ∷ spans) = let rest = kilometres-nothing spans in let parts = sum_by-cons (λ (n : ℕ). n / 3600) 0 (nothing_of spans) in omega (arith, rest, parts)

pub kilometres-append : (xs ys : List ℕ) → kilometres_of (xs ++ ys) ≡ kilometres_of xs + kilometres_of ys
kilometres-append xs ys = sum_by-append (λ (n : ℕ). n / 3600) xs ys

pub kilometres-more : (xs : List ℕ) (spans : List (List ToldSecond)) → kilometres_of (xs ++ nothing_of spans) ≡ kilometres_of xs
kilometres-more xs spans = let parts = kilometres-append xs (nothing_of spans) in let none = kilometres-nothing spans in omega (arith, parts, none)

-- the same kilometres, and one leg more
pub kilometres-leg : (xs ys : List ℕ) (leg : ℕ) (spans : List (List ToldSecond)) → kilometres_of xs ≡ kilometres_of ys → kilometres_of (xs ++ leg ∷ nothing_of spans) ≡ kilometres_of (ys ++ leg ∷ [])
kilometres-leg xs ys leg spans same =
    let left = kilometres-append xs (leg ∷ nothing_of spans) in
    let right = kilometres-append ys (leg ∷ []) in
    let one = sum_by-cons (λ (n : ℕ). n / 3600) leg (nothing_of spans) in
    let other = sum_by-cons (λ (n : ℕ). n / 3600) leg [] in
    let none = kilometres-nothing spans in
    omega (arith, left, right, one, other, none, same)

-- a leg of nothing
pub kilometres-none : (xs : List ℕ) (leg : ℕ) → leg ≡ 0 → kilometres_of (xs ++ leg ∷ []) ≡ kilometres_of xs
kilometres-none xs leg none =
    let parts = kilometres-append xs (leg ∷ []) in
    let one = sum_by-cons (λ (n : ℕ). n / 3600) leg [] in
    omega (arith, parts, one, none)

-- LEGS BY OTHER LIMITS
leg-still : (ds : List Minute) (k j leg : ℕ) → ds ≡ [] → IsLeg k ds leg → IsLeg j ds leg
leg-still ds k j leg none h = subst (λ (xs : List Minute). IsLeg j xs leg) (sym none) (subst (λ (xs : List Minute). IsLeg k xs leg) none h)

leg-nothing : (ds : List Minute) (k : ℕ) → ds ≡ [] → IsLeg k ds 0
leg-nothing ds k none = subst (λ (xs : List Minute). IsLeg k xs 0) (sym none) (inl refl)

-- the legs of spans that decided nothing
pub legs-nothing : (rule : Rule) (f : List ToldSecond → List (List ToldSecond) → Option ℕ) (k : ℕ) (spans : List (List ToldSecond)) → AllByRecursion (λ (span : List ToldSecond). decided_of rule span ≡ []) spans → AreLegs rule f k spans (nothing_of spans)
legs-nothing rule f k [] h = refl
legs-nothing rule f k (span ∷ later) h = (leg-nothing (decided_of rule span) (unwrap_or (f span later) k) h.0, legs-nothing rule f k later h.1)

pub legs-alike : (rule : Rule) (f g : List ToldSecond → List (List ToldSecond) → Option ℕ) (k : ℕ) (spans : List (List ToldSecond)) (legs : List ℕ) → Alike rule f g spans → AreLegs rule f k spans legs → AreLegs rule g k spans legs
legs-alike rule f g k [] legs same h = h
legs-alike rule f g k (span ∷ later) [] same h = absurd h
legs-alike rule f g k (span ∷ later) (leg ∷ legs) same h = (
  ⊎_elim (λ none. leg-still (decided_of rule span) (unwrap_or (f span later) k) (unwrap_or (g span later) k) leg none h.0)
      (λ is. subst (λ (o : Option ℕ). IsLeg (unwrap_or o k) (decided_of rule span) leg) is h.0) same.0,
  legs-alike rule f g k later legs same.1 h.1,
)

pub legs-agree : (rule : Rule) (f g : List ToldSecond → List (List ToldSecond) → Option ℕ) (k : ℕ) (spans : List (List ToldSecond)) (legs : List ℕ) → Agree f g spans → AreLegs rule g k spans legs → AreLegs rule f k spans legs
legs-agree rule f g k [] legs same h = h
legs-agree rule f g k (span ∷ later) [] same h = absurd h
legs-agree rule f g k (span ∷ later) (leg ∷ legs) same h =
    (subst (λ (o : Option ℕ). IsLeg (unwrap_or o k) (decided_of rule span) leg) (sym same.0) h.0, legs-agree rule f g k later legs same.1 h.1)

-- where all cuts are known, nothing hangs on the last-kept minute
pub legs-known : (rule : Rule) (found : List Break) (log : RunLog) (k j : ℕ) (spans : List (List ToldSecond)) (legs : List ℕ) → AllByRecursion (IsKnown rule found) spans →
    AreLegs rule (closed_limit log) k spans legs → AreLegs rule (closed_limit log) j spans legs
legs-known rule found log k j [] legs known h = h
legs-known rule found log k j (span ∷ later) [] known h = absurd h
legs-known rule found log k j (span ∷ later) (leg ∷ legs) known h = (one known.0, legs-known rule found log k j later legs known.1 h.1)
  where
    one : IsKnown rule found span → IsLeg (unwrap_or (closed_limit log span later) j) (decided_of rule span) leg
    one (inl none) = leg-still (decided_of rule span) (unwrap_or (closed_limit log span later) k) (unwrap_or (closed_limit log span later) j) leg none h.0
    one (inr cut) =
        subst (λ (o : Option ℕ). IsLeg (unwrap_or (limit_by log o) j) (decided_of rule span) leg) (sym cut.1)
        (subst (λ (o : Option ℕ). IsLeg (unwrap_or (limit_by log o) k) (decided_of rule span) leg) cut.1 h.0)

-- spans, and others behind them
pub legs-parts : (rule : Rule) (f : List ToldSecond → List (List ToldSecond) → Option ℕ) (k : ℕ) (spans behind : List (List ToldSecond)) (legs more : List ℕ) → AreLegs rule (λ span later. f span (later ++ behind)) k spans legs →
    AreLegs rule f k behind more → AreLegs rule f k (spans ++ behind) (legs ++ more)
legs-parts rule f k [] behind legs more h others = subst (λ (ls : List ℕ). AreLegs rule f k behind (ls ++ more)) (sym h) others
legs-parts rule f k (span ∷ later) behind [] more h others = absurd h
legs-parts rule f k (span ∷ later) behind (leg ∷ legs) more h others = (h.0, legs-parts rule f k later behind legs more h.1 others)

-- A SPAN WITH ONE SECOND decides nothing
two-seconds : (k : ℕ) → nat_lt 1 (suc (suc k)) ≡ true
two-seconds k = grind (arith, nat_tests)

pub short-shorter : (span : List ToldSecond) (t : ToldSecond) (more : List ToldSecond) → nat_lt 1 (length (span ++ t ∷ more)) ≡ false → nat_lt 1 (length span) ≡ false
short-shorter [] t more short = refl
short-shorter (x ∷ []) t more short = absurd (let two = two-seconds (length more) in let no : true ≡ false = sym two ∙ short in cc)
short-shorter (x ∷ y ∷ span) t more short = absurd (let two = two-seconds (length (span ++ t ∷ more)) in let no : true ≡ false = sym two ∙ short in cc)

pub short-decides : (rule : Rule) (span : List ToldSecond) → nat_lt 1 (length span) ≡ false → decided_of rule span ≡ []
short-decides rule [] short = decided-empty rule
short-decides rule (t ∷ []) short = short-none rule t
short-decides rule (t ∷ u ∷ span) short = absurd (let two = two-seconds (length span) in let no : true ≡ false = sym two ∙ short in cc)

-- WHAT IS FOUND AGAIN is the same
pub found-again : (first k kept : ℕ) (past : List HistoryMinute) → All (λ i. first < i.minute) past → IsMark first past k → IsMark first (up_to k past) kept → All (λ i. i.minute ≤ kept) (up_to k past) → kept ≡ k
found-again first k kept past later mark again low = ⊎_elim (λ is. at_first is again) (λ m. at_minute m.0 m.1 m.2 again) mark
  where
    at_first : k ≡ first → IsMark first (up_to k past) kept → kept ≡ k
    at_first is (inl same) = same ∙ sym is
    at_first is (inr m) =
        let le = All-contains (λ (i : HistoryMinute). i.minute ≤ k) (up_to k past) m.0 (up_to-within k past) m.1 in
        let lt = All-contains (λ (i : HistoryMinute). first < i.minute) (up_to k past) m.0 (All-filter (λ (i : HistoryMinute). nat_le i.minute k) (λ i. first < i.minute) past later) m.1 in
        absurd (omega (arith, le, lt, is))

    at_minute : (i : HistoryMinute) → Contains past i → i.minute ≡ k → IsMark first (up_to k past) kept → kept ≡ k
    at_minute i at is (inl same) =
        let le = All-contains (λ (j : HistoryMinute). j.minute ≤ kept) (up_to k past) i low (contains-up_to k past i (omega (arith, is)) at) in
        let lt = All-contains (λ (j : HistoryMinute). first < j.minute) past i later at in
        absurd (omega (arith, le, lt, same))
    at_minute i at is (inr m) =
        let le = All-contains (λ (j : HistoryMinute). j.minute ≤ kept) (up_to k past) i low (contains-up_to k past i (omega (arith, is)) at) in
        let ge = All-contains (λ (j : HistoryMinute). j.minute ≤ k) (up_to k past) m.0 (up_to-within k past) m.1 in
        let same = m.2 in
        omega (arith, le, ge, is, same)

-- THE LEG OF A SPAN of which some minutes were kept, and the others not
within : (k m : ℕ) → m ≤ k → nat_le m k ≡ true
within k m h = grind (arith, nat_tests)

beyond : (k m : ℕ) → k < m → nat_le m k ≡ false
beyond k m h = grind (arith, nat_tests)

comes : (k m : ℕ) → k < m → nat_lt k m ≡ true
comes k m h = grind (arith, nat_tests)

passed : (k m : ℕ) → m ≤ k → nat_lt k m ≡ false
passed k m h = grind (arith, nat_tests)

up_to-parts : (k : ℕ) (kept rest : List Minute) → All (λ d. d.minute ≤ k) kept → All (λ d. k < d.minute) rest → filter (λ (d : Minute). nat_le d.minute k) (kept ++ rest) ≡ kept
up_to-parts k kept rest low high =
    filter-append (λ (d : Minute). nat_le d.minute k) kept rest
    ∙ ap (λ (ds : List Minute). ds ++ filter (λ (d : Minute). nat_le d.minute k) rest)
    (filter-whole (λ (d : Minute). nat_le d.minute k) kept (All-weaker (λ (d : Minute). d.minute ≤ k) (λ d. nat_le d.minute k ≡ true) (λ d le. within k d.minute le) kept low))
    ∙ ap (λ (ds : List Minute). kept ++ ds)
    (filter-none (λ (d : Minute). nat_le d.minute k) rest (All-weaker (λ (d : Minute). k < d.minute) (λ d. nat_le d.minute k ≡ false) (λ d lt. beyond k d.minute lt) rest high))
    ∙ append-nil kept

first-later : (k : ℕ) (kept rest : List Minute) (d : Minute) → All (λ d. d.minute ≤ k) kept → k < d.minute → find (λ (d : Minute). nat_lt k d.minute) (kept ++ d ∷ rest) ≡ Some d
first-later k [] rest d low late = let is = comes k d.minute late in ap (λ (b : Bool). cond b (Some d) (find (λ (d : Minute). nat_lt k d.minute) rest)) is
first-later k (x ∷ kept) rest d low late =
    let is = passed k x.minute (All-head (λ (d : Minute). d.minute ≤ k) x kept low) in
    ap (λ (b : Bool). cond b (Some x) (find (λ (d : Minute). nat_lt k d.minute) (kept ++ d ∷ rest))) is
    ∙ first-later k kept rest d (All-tail (λ (d : Minute). d.minute ≤ k) x kept low) late

pub leg-kept : (k : ℕ) (kept rest : List Minute) (leg : ℕ) → All (λ d. d.minute ≤ k) kept → All (λ d. k < d.minute) rest → leg ≡ travelled_by kept → IsLeg k (kept ++ rest) leg
leg-kept k kept rest leg low high is = inl (is ∙ ap travelled_by (sym (up_to-parts k kept rest low high)))

pub leg-begun : (k : ℕ) (kept rest : List Minute) (d : Minute) (leg : ℕ) → All (λ d. d.minute ≤ k) kept → k < d.minute → leg ≡ d.travelled → IsLeg k (kept ++ d ∷ rest) leg
leg-begun k kept rest d leg low late is = inr (d, first-later k kept rest d low late, is)

-- WHERE ALL MINUTES OF THE SPANS WERE KEPT they have these legs and no others
none-later : (k : ℕ) (ds : List Minute) → All (λ d. d.minute ≤ k) ds → find (λ (d : Minute). nat_lt k d.minute) ds ≡ None
none-later k [] low = refl
none-later k (d ∷ ds) low =
    let is = passed k d.minute (All-head (λ (e : Minute). e.minute ≤ k) d ds low) in
    ap (λ (b : Bool). cond b (Some d) (find (λ (e : Minute). nat_lt k e.minute) ds)) is
    ∙ none-later k ds (All-tail (λ (e : Minute). e.minute ≤ k) d ds low)

leg-whole : (k : ℕ) (ds : List Minute) (leg : ℕ) → All (λ d. d.minute ≤ k) ds → IsLeg k ds leg → leg ≡ travelled_by ds
leg-whole k ds leg low (inl is) =
    is ∙ ap travelled_by (filter-whole (λ (d : Minute). nat_le d.minute k) ds (All-weaker (λ (d : Minute). d.minute ≤ k) (λ d. nat_le d.minute k ≡ true) (λ d le. within k d.minute le) ds low))
leg-whole k ds leg low (inr begun) = absurd (none-some begun.0 (sym (none-later k ds low) ∙ begun.1))

pub legs-whole : (rule : Rule) (f : List ToldSecond → List (List ToldSecond) → Option ℕ) (k : ℕ) (spans : List (List ToldSecond)) (legs : List ℕ) → AreWhole rule f k spans → AreLegs rule f k spans legs → legs ≡ whole_legs rule spans
legs-whole rule f k [] legs whole h = h
legs-whole rule f k (span ∷ later) [] whole h = absurd h
legs-whole rule f k (span ∷ later) (leg ∷ legs) whole h =
    ap (λ (l : ℕ). l ∷ legs) (leg-whole (unwrap_or (f span later) k) (decided_of rule span) leg whole.0 h.0)
    ∙ ap (λ (ls : List ℕ). travelled_by (decided_of rule span) ∷ ls) (legs-whole rule f k later legs whole.1 h.1)
