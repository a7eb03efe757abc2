-- What a log tells of a second, as cuts are added to it and as it is found what was kept after them.
use Rattle.std.proofs.Common.{◌≡◌, ℕ, zero, suc, ◌+◌, ◌<◌, ◌≤◌, Bool, true, false, cond, ◌||◌, Option, Some, None, List, [], ◌∷◌, ◌++◌, All, length, map, take, drop, refl, ap, sym, subst, ◌∙◌, arith, nat_eq, is_some}
use Rattle.std.specs.Prelude.{unwrap_or}
use Rattle.std.specs.List.{AllByRecursion}
use Rattle.std.proofs.lemmas.Bool.Decides.{nat_tests}
use Rattle.std.proofs.lemmas.List.Elements.{All-nil, All-cons}
use Rattle.activity_codec.specs.declared.values.Slot.{Slot}
use Rattle.trace_model.specs.Trace.{TraceSecond}
use Rattle.log_model.specs.declared.lines.Break.{Break}
use Rattle.log_model.specs.declared.lines.Break.TheVariants.{Cut, Tear}
use Rattle.log_model.specs.Log.{Phase, cut_of, kept_by, cut_in, kept_after, is_torn_in, found_in}
use Rattle.log_model.specs.Same.{SameAt}
use Rattle.log_model.specs.Course.{went}
use Rattle.log_model.specs.Spans.{AreInOrder}
use Rattle.log_model.proofs.Growth.{went-same}
use Rattle.history_model.proofs.Filters.{take-drop}
use Rattle.run_unit_course.specs.Lines.{log_of, cut_at, with_kept, found_from, IsCutBefore, tells_cut}

-- CUTS, one line after another
cut-first : (b : Break) (bs : List Break) (u : ℕ) → cut_in (log_of (b ∷ bs)) u ≡ cond (is_some (cut_of u b)) (cut_of u b) (cut_in (log_of bs) u)
unfolding cut_in
cut-first b bs u = refl

cut-nothing : (u : ℕ) → cut_in (log_of []) u ≡ None
unfolding cut_in
cut-nothing u = refl

other : (s u : ℕ) → s < u → nat_eq s u ≡ false
other s u lt = grind (arith, nat_tests)

other_way : (s u : ℕ) → u < s → nat_eq s u ≡ false
other_way s u lt = grind (arith, nat_tests)

same : (u : ℕ) → nat_eq u u ≡ true
same u = grind (arith, nat_tests)

-- all cuts are earlier: none in this second
pub cut-none : (number : ℕ) (bs : List Break) (u : ℕ) → AllByRecursion (IsCutBefore number) bs → number ≤ u → cut_in (log_of bs) u ≡ None
cut-none number [] u h le = cut-nothing u
cut-none number (Cut s k failed begun ∷ bs) u h le =
    let before : s < number = h.0 in
    let no = other s u (omega (arith, before, le)) in
    cut-first (Cut s k failed begun) bs u ∙ rw no (cut-none number bs u h.1 le)
cut-none number (Tear s slot failed begun late ∷ bs) u h le = absurd h.0

-- a line that is added behind them
pub cut-beside : (bs : List Break) (c : Break) (u : ℕ) → cut_of u c ≡ None → cut_in (log_of (bs ++ c ∷ [])) u ≡ cut_in (log_of bs) u
cut-beside [] c u none = cut-first c [] u ∙ rw none refl
cut-beside (b ∷ bs) c u none =
    cut-first b (bs ++ c ∷ []) u ∙ ap (λ (o : Option ℕ). cond (is_some (cut_of u b)) (cut_of u b) o) (cut-beside bs c u none) ∙ sym (cut-first b bs u)

pub cut-here : (bs : List Break) (v : ℕ) (failed : Bool) (begun : ℕ) → AllByRecursion (IsCutBefore v) bs → cut_in (log_of (bs ++ cut_at v failed begun ∷ [])) v ≡ Some begun
cut-here [] v failed begun h = cut-first (cut_at v failed begun) [] v ∙ rw (same v) refl
cut-here (Cut s k f n ∷ bs) v failed begun h =
    let no = other s v h.0 in
    cut-first (Cut s k f n) (bs ++ cut_at v failed begun ∷ []) v ∙ rw no (cut-here bs v failed begun h.1)
cut-here (Tear s slot f n late ∷ bs) v failed begun h = absurd h.0

cut-map : (k : ℕ) (bs : List Break) (u : ℕ) → cut_in (log_of (map (with_kept k) bs)) u ≡ cut_in (log_of bs) u
cut-map k [] u = refl
cut-map k (Cut s old f n ∷ bs) u =
    cut-first (Cut s k f n) (map (with_kept k) bs) u ∙ ap (λ (o : Option ℕ). cond (is_some (cut_of u (Cut s k f n))) (cut_of u (Cut s k f n)) o) (cut-map k bs u) ∙ sym (cut-first (Cut s old f n) bs u)
cut-map k (Tear s slot f n late ∷ bs) u =
    cut-first (Tear s slot f n late) (map (with_kept k) bs) u ∙ cut-map k bs u ∙ sym (cut-first (Tear s slot f n late) bs u)

pub cut-found : (i k : ℕ) (bs : List Break) (u : ℕ) → cut_in (log_of (found_from i k bs)) u ≡ cut_in (log_of bs) u
cut-found zero k bs u = cut-map k bs u
cut-found (suc i) k [] u = refl
cut-found (suc i) k (b ∷ bs) u =
    cut-first b (found_from i k bs) u ∙ ap (λ (o : Option ℕ). cond (is_some (cut_of u b)) (cut_of u b) o) (cut-found i k bs u) ∙ sym (cut-first b bs u)

-- TEARS AND FINDS: none
pub torn-none : (number : ℕ) (bs : List Break) (u : ℕ) (p : Phase) (slot : Slot) → AllByRecursion (IsCutBefore number) bs → is_torn_in (log_of bs) u p slot ≡ false
unfolding is_torn_in
torn-none number [] u p slot h = refl
torn-none number (Cut s k f n ∷ bs) u p slot h = torn-none number bs u p slot h.1
torn-none number (Tear s other f n late ∷ bs) u p slot h = absurd h.0

pub found-none : (bs : List Break) (u : ℕ) (p : Phase) (slot : Slot) → found_in (log_of bs) u p slot ≡ []
unfolding found_in
found-none bs u p slot = refl

-- WHERE CUTS ARE
pub cuts-later : (n m : ℕ) (bs : List Break) → n ≤ m → AllByRecursion (IsCutBefore n) bs → AllByRecursion (IsCutBefore m) bs
cuts-later n m [] le h = tt
cuts-later n m (Cut s k f b ∷ bs) le h = let before : s < n = h.0 in (omega (arith, before, le), cuts-later n m bs le h.1)
cuts-later n m (Tear s slot f b late ∷ bs) le h = absurd h.0

pub cuts-push : (n : ℕ) (bs : List Break) (v : ℕ) (failed : Bool) (begun : ℕ) → v < n → AllByRecursion (IsCutBefore n) bs → AllByRecursion (IsCutBefore n) (bs ++ cut_at v failed begun ∷ [])
cuts-push n [] v failed begun lt h = (lt, tt)
cuts-push n (b ∷ bs) v failed begun lt h = (h.0, cuts-push n bs v failed begun lt h.1)

cuts-map : (n k : ℕ) (bs : List Break) → AllByRecursion (IsCutBefore n) bs → AllByRecursion (IsCutBefore n) (map (with_kept k) bs)
cuts-map n k [] h = tt
cuts-map n k (Cut s old f b ∷ bs) h = (h.0, cuts-map n k bs h.1)
cuts-map n k (Tear s slot f b late ∷ bs) h = absurd h.0

pub cuts-found : (n i k : ℕ) (bs : List Break) → AllByRecursion (IsCutBefore n) bs → AllByRecursion (IsCutBefore n) (found_from i k bs)
cuts-found n zero k bs h = cuts-map n k bs h
cuts-found n (suc i) k [] h = tt
cuts-found n (suc i) k (b ∷ bs) h = (h.0, cuts-found n i k bs h.1)

-- SECONDS SO FAR: the log tells the same of them
all-numbers : (P : ℕ → Type 0) (n : ℕ) (ss : List TraceSecond) → AreInOrder n ss → ((u : ℕ) → u < n + length ss → P u) → All (λ s. P s.number) ss
all-numbers P n [] h each = All-nil (λ (s : TraceSecond). P s.number)
all-numbers P n (s ∷ ss) h each =
    let is : s.number ≡ n = h.0 in
    All-cons (λ (s : TraceSecond). P s.number) s ss (each s.number (omega (arith, is))) (all-numbers P (n + 1) ss h.1 (λ u lt. each u (omega (arith, lt))))

pub all-numbered : (P : ℕ → Type 0) (ss : List TraceSecond) → ((u : ℕ) → P u) → All (λ s. P s.number) ss
all-numbered P [] each = All-nil (λ (s : TraceSecond). P s.number)
all-numbered P (s ∷ ss) each = All-cons (λ (s : TraceSecond). P s.number) s ss (each s.number) (all-numbered P ss each)

pub went-cut : (from number : ℕ) (ss : List TraceSecond) (bs : List Break) (v : ℕ) (failed : Bool) (begun : ℕ) → AreInOrder from ss → from + length ss ≤ v → AllByRecursion (IsCutBefore number) bs →
    went (log_of (bs ++ cut_at v failed begun ∷ [])) ss ≡ went (log_of bs) ss
went-cut from number ss bs v failed begun order le h =
    went-same (log_of bs) (log_of (bs ++ cut_at v failed begun ∷ [])) ss (all-numbers (λ u. SameAt (log_of bs) (log_of (bs ++ cut_at v failed begun ∷ [])) u) from ss order each)
  where
    cuts : AllByRecursion (IsCutBefore (number + v + 1)) (bs ++ cut_at v failed begun ∷ [])
    cuts = cuts-push (number + v + 1) bs v failed begun (omega arith) (cuts-later number (number + v + 1) bs (omega arith) h)

    each : (u : ℕ) → u < from + length ss → SameAt (log_of bs) (log_of (bs ++ cut_at v failed begun ∷ [])) u
    each u lt = record {
      cut = cut-beside bs (cut_at v failed begun) u (rw (other_way v u (omega (arith, lt, le))) refl);
      torn = λ p slot. torn-none (number + v + 1) (bs ++ cut_at v failed begun ∷ []) u p slot cuts ∙ sym (torn-none number bs u p slot h);
      found = λ p slot. found-none (bs ++ cut_at v failed begun ∷ []) u p slot ∙ sym (found-none bs u p slot);
    }

pub went-found : (from number : ℕ) (ss : List TraceSecond) (bs : List Break) (i k : ℕ) → AreInOrder from ss → AllByRecursion (IsCutBefore number) bs → went (log_of (found_from i k bs)) ss ≡ went (log_of bs) ss
went-found from number ss bs i k order h =
    went-same (log_of bs) (log_of (found_from i k bs)) ss (all-numbers (λ u. SameAt (log_of bs) (log_of (found_from i k bs)) u) from ss order (λ u lt. record {
      cut = cut-found i k bs u;
      torn = λ p slot. torn-none number (found_from i k bs) u p slot (cuts-found number i k bs h) ∙ sym (torn-none number bs u p slot h);
      found = λ p slot. found-none (found_from i k bs) u p slot ∙ sym (found-none bs u p slot);
    }))

-- WHAT WAS FOUND KEPT
pick : (o rest : Option ℕ) → unwrap_or (cond (is_some o) o rest) 0 ≡ cond (is_some o) (unwrap_or o 0) (unwrap_or rest 0)
pick None rest = refl
pick (Some k) rest = refl

kept-first : (b : Break) (bs : List Break) (u : ℕ) → kept_after (log_of (b ∷ bs)) u ≡ cond (is_some (kept_by u b)) (unwrap_or (kept_by u b) 0) (kept_after (log_of bs) u)
unfolding kept_after
kept-first b bs u = pick (kept_by u b) _

-- what is added behind a cut that they tell of changes nothing
pub kept-known : (xs ys : List Break) (u : ℕ) → tells_cut u xs ≡ true → kept_after (log_of (xs ++ ys)) u ≡ kept_after (log_of xs) u
kept-known [] ys u h = absurd (cc)
kept-known (Cut s k f n ∷ xs) ys u h = go (nat_eq s u) refl (λ rest. kept-known xs ys u rest)
  where
    go : (b : Bool) → nat_eq s u ≡ b → (tells_cut u xs ≡ true → kept_after (log_of (xs ++ ys)) u ≡ kept_after (log_of xs) u) → kept_after (log_of (Cut s k f n ∷ (xs ++ ys))) u ≡ kept_after (log_of (Cut s k f n ∷ xs)) u
    go true is on = kept-first (Cut s k f n) (xs ++ ys) u ∙ rw is refl ∙ sym (kept-first (Cut s k f n) xs u)
    go false is on = kept-first (Cut s k f n) (xs ++ ys) u ∙ rw is (on (rw is at h)) ∙ sym (kept-first (Cut s k f n) xs u)
kept-known (Tear s slot f n late ∷ xs) ys u h = kept-first (Tear s slot f n late) (xs ++ ys) u ∙ kept-known xs ys u h ∙ sym (kept-first (Tear s slot f n late) xs u)

kept-map : (k : ℕ) (ys : List Break) (u : ℕ) → tells_cut u ys ≡ true → kept_after (log_of (map (with_kept k) ys)) u ≡ k
kept-map k [] u h = absurd (cc)
kept-map k (Cut s old f n ∷ ys) u h = go (nat_eq s u) refl (λ rest. kept-map k ys u rest)
  where
    go : (b : Bool) → nat_eq s u ≡ b → (tells_cut u ys ≡ true → kept_after (log_of (map (with_kept k) ys)) u ≡ k) → kept_after (log_of (Cut s k f n ∷ map (with_kept k) ys)) u ≡ k
    go true is on = kept-first (Cut s k f n) (map (with_kept k) ys) u ∙ rw is refl
    go false is on = kept-first (Cut s k f n) (map (with_kept k) ys) u ∙ rw is (on (rw is at h))
kept-map k (Tear s slot f n late ∷ ys) u h = kept-first (Tear s slot f n late) (map (with_kept k) ys) u ∙ kept-map k ys u h

-- a cut of which it was not known what was kept
pub kept-now : (k : ℕ) (xs ys : List Break) (u : ℕ) → tells_cut u xs ≡ false → tells_cut u ys ≡ true → kept_after (log_of (xs ++ map (with_kept k) ys)) u ≡ k
kept-now k [] ys u absent there = kept-map k ys u there
kept-now k (Cut s old f n ∷ xs) ys u absent there = go (nat_eq s u) refl (λ rest. kept-now k xs ys u rest there)
  where
    go : (b : Bool) → nat_eq s u ≡ b → (tells_cut u xs ≡ false → kept_after (log_of (xs ++ map (with_kept k) ys)) u ≡ k) → kept_after (log_of (Cut s old f n ∷ (xs ++ map (with_kept k) ys))) u ≡ k
    go true is on = absurd (let h : true ≡ false = rw is at absent in cc)
    go false is on = kept-first (Cut s old f n) (xs ++ map (with_kept k) ys) u ∙ rw is (on (rw is at absent))
kept-now k (Tear s slot f n late ∷ xs) ys u absent there = kept-first (Tear s slot f n late) (xs ++ map (with_kept k) ys) u ∙ kept-now k xs ys u absent there

-- WHAT THEY TELL OF
pub tells-append : (u : ℕ) (xs ys : List Break) → tells_cut u (xs ++ ys) ≡ (tells_cut u xs || tells_cut u ys)
tells-append u [] ys = refl
tells-append u (x ∷ xs) ys = go (is_some (cut_of u x)) (tells-append u xs ys)
  where
    go : (b : Bool) → tells_cut u (xs ++ ys) ≡ (tells_cut u xs || tells_cut u ys) → (b || tells_cut u (xs ++ ys)) ≡ ((b || tells_cut u xs) || tells_cut u ys)
    go true is = refl
    go false is = is

pub tells-map : (u k : ℕ) (bs : List Break) → tells_cut u (map (with_kept k) bs) ≡ tells_cut u bs
tells-map u k [] = refl
tells-map u k (Cut s old f n ∷ bs) = ap (λ (b : Bool). is_some (cut_of u (Cut s k f n)) || b) (tells-map u k bs)
tells-map u k (Tear s slot f n late ∷ bs) = tells-map u k bs

pub tells-found : (u i k : ℕ) (bs : List Break) → tells_cut u (found_from i k bs) ≡ tells_cut u bs
tells-found u zero k bs = tells-map u k bs
tells-found u (suc i) k [] = refl
tells-found u (suc i) k (b ∷ bs) = ap (λ (t : Bool). is_some (cut_of u b) || t) (tells-found u i k bs)

pub tells-front : (u i : ℕ) (bs : List Break) → tells_cut u (take i bs) ≡ true → tells_cut u bs ≡ true
tells-front u i bs h = subst (λ (xs : List Break). tells_cut u xs ≡ true) (take-drop i bs) (tells-append u (take i bs) (drop i bs) ∙ ap (λ (b : Bool). b || tells_cut u (drop i bs)) h)

pub tells-behind : (u i : ℕ) (bs : List Break) → tells_cut u (take i bs) ≡ false → tells_cut u bs ≡ true → tells_cut u (drop i bs) ≡ true
tells-behind u i bs absent there = sym (subst (λ (xs : List Break). tells_cut u xs ≡ tells_cut u (drop i bs)) (take-drop i bs) (tells-append u (take i bs) (drop i bs) ∙ ap (λ (b : Bool). b || tells_cut u (drop i bs)) absent)) ∙ there

-- cuts that are all earlier tell none in this second
pub tells-none : (number : ℕ) (bs : List Break) (u : ℕ) → AllByRecursion (IsCutBefore number) bs → number ≤ u → tells_cut u bs ≡ false
tells-none number [] u h le = refl
tells-none number (Cut s k f n ∷ bs) u h le =
    let before : s < number = h.0 in
    let no = other s u (omega (arith, before, le)) in
    rw no (tells-none number bs u h.1 le)
tells-none number (Tear s slot f n late ∷ bs) u h le = absurd h.0

pub tells-here : (bs : List Break) (v : ℕ) (failed : Bool) (begun : ℕ) → tells_cut v (bs ++ cut_at v failed begun ∷ []) ≡ true
tells-here bs v failed begun = tells-append v bs (cut_at v failed begun ∷ []) ∙ rw (same v) (either (tells_cut v bs))
  where
    either : (b : Bool) → (b || true) ≡ true
    either true = refl
    either false = refl

-- FRONTS
pub cuts-front : (n i : ℕ) (bs : List Break) → AllByRecursion (IsCutBefore n) bs → AllByRecursion (IsCutBefore n) (take i bs)
cuts-front n zero bs h = tt
cuts-front n (suc i) [] h = tt
cuts-front n (suc i) (b ∷ bs) h = (h.0, cuts-front n i bs h.1)

pub take-front : (i : ℕ) (xs ys : List Break) → i ≤ length xs → take i (xs ++ ys) ≡ take i xs
take-front zero xs ys le = refl
take-front (suc i) [] ys le = absurd (omega (arith, le))
take-front (suc i) (x ∷ xs) ys le = ap (λ (zs : List Break). x ∷ zs) (take-front i xs ys (omega (arith, le)))

pub take-all : (xs : List Break) → take (length xs) xs ≡ xs
take-all [] = refl
take-all (x ∷ xs) = ap (λ (zs : List Break). x ∷ zs) (take-all xs)
