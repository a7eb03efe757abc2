-- A log that grows by lines of one second: what it tells of the others, and where its cuts are.
use Rattle.std.proofs.Common.{◌≡◌, ℕ, zero, suc, ◌+◌, ◌<◌, ◌≤◌, Bool, true, false, cond, ◌||◌, ◌&&◌, Option, Some, None, List, [], ◌∷◌, ◌++◌, All, length, map, filter, take, drop, refl, ap, sym, subst, ◌∙◌, arith, nat_eq, is_some, append-nil}
use Rattle.std.specs.List.{AllByRecursion, list_any}
use Rattle.std.proofs.lemmas.Bool.Decides.{nat_tests}
use Rattle.std.proofs.lemmas.List.Elements.{All-nil, All-cons, filter-append}
use Rattle.std.proofs.lemmas.List.Folds.{list_any-append}
use Rattle.activity_codec.specs.declared.values.Slot.{Slot}
use Rattle.activity_codec.specs.Activity.{same_slot}
use Rattle.trace_model.specs.Trace.{TraceSecond}
use Rattle.log_model.specs.declared.lines.Break.{Break}
use Rattle.log_model.specs.declared.lines.Break.TheVariants.{Cut, Tear}
use Rattle.log_model.specs.declared.lines.Find.{Find}
use Rattle.log_model.specs.Log.{RunLog, Phase, In, same_phase, phase_of, cut_of, cut_in, kept_after, tears_here}
use Rattle.log_model.specs.Causes.{second_of}
use Rattle.log_model.specs.Same.{SameAt}
use Rattle.log_model.specs.Spans.{AreInOrder}
use Rattle.log_model.specs.Course.{went}
use Rattle.log_model.proofs.Growth.{went-same}
use Rattle.history_model.proofs.Filters.{take-drop}
use Rattle.run_unit_course.specs.Lines.{log_of, cut_at, with_kept, found_from, tells_cut}
use Rattle.run_unit_course.proofs.Lines.{cut-found, kept-known, take-front, tells-append, tells-front}
use Rattle.run_course.specs.Moments.{finds_here}
use Rattle.run_course.specs.Followed.{IsBreakBefore, AreBefore}
use Rattle.run_course.proofs.Lookups.{cut-by, kept-by, torn-by, found-by}

pub same-number : (u : ℕ) → nat_eq u u ≡ true
same-number u = grind (arith, nat_tests)

pub other-number : (n u : ℕ) → u < n → nat_eq n u ≡ false
other-number n u lt = grind (arith, nat_tests)

-- SECONDS in order, each before a number
pub all-before : (P : ℕ → Type 0) (n : ℕ) (ss : List TraceSecond) → AreInOrder n ss → ((u : ℕ) → u < n + length ss → P u) → All (λ s. P s.number) ss
all-before P n [] h each = All-nil (λ (s : TraceSecond). P s.number)
all-before P n (s ∷ ss) h each =
    let is : s.number ≡ n = h.0 in
    All-cons (λ (s : TraceSecond). P s.number) s ss (each s.number (omega (arith, is))) (all-before P (n + 1) ss h.1 (λ u lt. each u (omega (arith, lt))))

-- LINES OF ANOTHER SECOND
cut-of_other : (n u : ℕ) (b : Break) → nat_eq n u ≡ false → second_of b ≡ n → cut_of u b ≡ None
cut-of_other n u (Cut s k failed begun) other is = ap (λ (m : ℕ). cond (nat_eq m u) (Some begun) None) is ∙ ap (λ (t : Bool). cond t (Some begun) None) other
cut-of_other n u (Tear s slot failed begun late) other is = refl

cut-first : (b : Break) (bs : List Break) (u : ℕ) → cut_in (log_of (b ∷ bs)) u ≡ cond (is_some (cut_of u b)) (cut_of u b) (cut_in (log_of bs) u)
unfolding cut_in
cut-first b bs u = refl

pub cut-rest : (bs rest : List Break) (n u : ℕ) → nat_eq n u ≡ false → AllByRecursion (λ (b : Break). second_of b ≡ n) rest → cut_in (log_of (bs ++ rest)) u ≡ cut_in (log_of bs) u
cut-rest [] [] n u other each = refl
cut-rest [] (b ∷ rest) n u other each =
    cut-first b rest u ∙ ap (λ (o : Option ℕ). cond (is_some o) o (cut_in (log_of rest) u)) (cut-of_other n u b other each.0) ∙ cut-rest [] rest n u other each.1
cut-rest (x ∷ bs) rest n u other each =
    cut-first x (bs ++ rest) u ∙ ap (λ (o : Option ℕ). cond (is_some (cut_of u x)) (cut_of u x) o) (cut-rest bs rest n u other each) ∙ sym (cut-first x bs u)

torn-rest : (rest : List Break) (n u : ℕ) (p : Phase) (slot : Slot) → nat_eq n u ≡ false → AllByRecursion (λ (b : Break). second_of b ≡ n) rest → list_any (tears_here u p slot) rest ≡ false
torn-rest [] n u p slot other each = refl
torn-rest (Cut s k failed begun ∷ rest) n u p slot other each = torn-rest rest n u p slot other each.1
torn-rest (Tear s at failed begun late ∷ rest) n u p slot other each =
    ap (λ (m : ℕ). (nat_eq m u && same_phase (phase_of begun late) p && same_slot at slot) || list_any (tears_here u p slot) rest) each.0
    ∙ ap (λ (t : Bool). (t && same_phase (phase_of begun late) p && same_slot at slot) || list_any (tears_here u p slot) rest) other
    ∙ torn-rest rest n u p slot other each.1

found-rest : (rest : List Find) (n u : ℕ) (p : Phase) (slot : Slot) → nat_eq n u ≡ false → AllByRecursion (λ (f : Find). f.second ≡ n) rest → filter (finds_here u p slot) rest ≡ []
found-rest [] n u p slot other each = refl
found-rest (f ∷ rest) n u p slot other each =
    ap (λ (m : ℕ). cond (nat_eq m u && same_phase (In f.begun) p && same_slot f.slot slot) (f ∷ filter (finds_here u p slot) rest) (filter (finds_here u p slot) rest)) each.0
    ∙ ap (λ (t : Bool). cond (t && same_phase (In f.begun) p && same_slot f.slot slot) (f ∷ filter (finds_here u p slot) rest) (filter (finds_here u p slot) rest)) other
    ∙ found-rest rest n u p slot other each.1

neither : (b : Bool) → (b || false) ≡ b
neither true = refl
neither false = refl

-- a log that is longer by lines of one second tells the same of each other
module _ (log later : RunLog) (n : ℕ) (breaks : List Break) (more_breaks : later.breaks ≡ log.breaks ++ breaks) (each : AllByRecursion (λ (b : Break). second_of b ≡ n) breaks)
    (finds : List Find) (more_finds : later.finds ≡ log.finds ++ finds) (every : AllByRecursion (λ (f : Find). f.second ≡ n) finds) where
  pub same-at : (u : ℕ) → nat_eq n u ≡ false → SameAt log later u
  same-at u other = record {
    cut = cut-by later u ∙ ap (λ (bs : List Break). cut_in (log_of bs) u) more_breaks ∙ cut-rest log.breaks breaks n u other each ∙ sym (cut-by log u);
    torn = λ p slot. torn-by later u p slot ∙ ap (list_any (tears_here u p slot)) more_breaks ∙ list_any-append (tears_here u p slot) log.breaks breaks
        ∙ ap (λ (t : Bool). list_any (tears_here u p slot) log.breaks || t) (torn-rest breaks n u p slot other each) ∙ neither (list_any (tears_here u p slot) log.breaks) ∙ sym (torn-by log u p slot);
    found = λ p slot. found-by later u p slot
        ∙ ap (map (λ (f : Find). f.verdict))
        (ap (filter (finds_here u p slot)) more_finds ∙ filter-append (finds_here u p slot) log.finds finds ∙ ap (λ (fs : List Find). filter (finds_here u p slot) log.finds ++ fs) (found-rest finds n u p slot other every)
        ∙ append-nil (filter (finds_here u p slot) log.finds))
        ∙ sym (found-by log u p slot);
  }

  pub went-later : (from : ℕ) (done : List TraceSecond) → AreInOrder from done → from + length done ≤ n → went later done ≡ went log done
  went-later from done order le = went-same log later done (all-before (λ u. SameAt log later u) from done order (λ u lt. same-at u (other-number n u (omega (arith, lt, le)))))

  -- what was found kept after the cuts that are known stays
  pub kept-later : (i u : ℕ) → tells_cut u (take i log.breaks) ≡ true → kept_after log u ≡ kept_after later u
  kept-later i u tells =
      kept-by log u ∙ sym (kept-known log.breaks breaks u (tells-front u i log.breaks tells)) ∙ ap (λ (bs : List Break). kept_after (log_of bs) u) (sym more_breaks) ∙ sym (kept-by later u)

  pub tells-later : (u : ℕ) → tells_cut u log.breaks ≡ true → tells_cut u later.breaks ≡ true
  tells-later u is = ap (tells_cut u) more_breaks ∙ tells-append u log.breaks breaks ∙ ap (λ (t : Bool). t || tells_cut u breaks) is

  pub front-later : (i : ℕ) → i ≤ length log.breaks → take i later.breaks ≡ take i log.breaks
  front-later i le = ap (take i) more_breaks ∙ take-front i log.breaks breaks le

  pub within-later : (i : ℕ) → i ≤ length log.breaks → i ≤ length later.breaks
  within-later i le = subst (λ (bs : List Break). i ≤ length bs) (sym more_breaks) (longer log.breaks i le)
    where
      longer : (bs : List Break) (i : ℕ) → i ≤ length bs → i ≤ length (bs ++ breaks)
      longer [] zero le = omega arith
      longer [] (suc i) le = absurd (omega (arith, le))
      longer (b ∷ bs) zero le = omega arith
      longer (b ∷ bs) (suc i) le = let rest = longer bs i (omega (arith, le)) in omega (arith, rest)

-- REFUSALS alone
pub refused-at : (log later : RunLog) → later.breaks ≡ log.breaks → later.finds ≡ log.finds → (u : ℕ) → SameAt log later u
refused-at log later breaks finds u = record {
  cut = cut-by later u ∙ ap (λ (bs : List Break). cut_in (log_of bs) u) breaks ∙ sym (cut-by log u);
  torn = λ p slot. torn-by later u p slot ∙ ap (list_any (tears_here u p slot)) breaks ∙ sym (torn-by log u p slot);
  found = λ p slot. found-by later u p slot ∙ ap (λ (fs : List Find). map (λ (f : Find). f.verdict) (filter (finds_here u p slot) fs)) finds ∙ sym (found-by log u p slot);
}

pub went-refused : (log later : RunLog) → later.breaks ≡ log.breaks → later.finds ≡ log.finds → (ss : List TraceSecond) → went later ss ≡ went log ss
went-refused log later breaks finds ss = went-same log later ss (all-of (λ u. SameAt log later u) ss (refused-at log later breaks finds))
  where
    all-of : (P : ℕ → Type 0) (ss : List TraceSecond) → ((u : ℕ) → P u) → All (λ s. P s.number) ss
    all-of P [] each = All-nil (λ (s : TraceSecond). P s.number)
    all-of P (s ∷ ss) each = All-cons (λ (s : TraceSecond). P s.number) s ss (each s.number) (all-of P ss each)

-- WHAT WAS KEPT IS FOUND: no second goes otherwise
torn-map : (k : ℕ) (bs : List Break) (u : ℕ) (p : Phase) (slot : Slot) → list_any (tears_here u p slot) (map (with_kept k) bs) ≡ list_any (tears_here u p slot) bs
torn-map k [] u p slot = refl
torn-map k (Cut s old failed begun ∷ bs) u p slot = torn-map k bs u p slot
torn-map k (Tear s at failed begun late ∷ bs) u p slot = ap (λ (t : Bool). tears_here u p slot (Tear s at failed begun late) || t) (torn-map k bs u p slot)

torn-found : (i k : ℕ) (bs : List Break) (u : ℕ) (p : Phase) (slot : Slot) → list_any (tears_here u p slot) (found_from i k bs) ≡ list_any (tears_here u p slot) bs
torn-found zero k bs u p slot = torn-map k bs u p slot
torn-found (suc i) k [] u p slot = refl
torn-found (suc i) k (b ∷ bs) u p slot = ap (λ (t : Bool). tears_here u p slot b || t) (torn-found i k bs u p slot)

abbrev pub found_log : ℕ → ℕ → RunLog → RunLog
found_log i k log = record log { breaks = found_from i k log.breaks }

pub same-found : (log : RunLog) (i k u : ℕ) → SameAt log (found_log i k log) u
same-found log i k u = record {
  cut = cut-by (found_log i k log) u ∙ cut-found i k log.breaks u ∙ sym (cut-by log u);
  torn = λ p slot. torn-by (found_log i k log) u p slot ∙ torn-found i k log.breaks u p slot ∙ sym (torn-by log u p slot);
  found = λ p slot. found-by (found_log i k log) u p slot ∙ sym (found-by log u p slot);
}

pub went-found : (log : RunLog) (i k from : ℕ) (done : List TraceSecond) → AreInOrder from done → went (found_log i k log) done ≡ went log done
went-found log i k from done order = went-same log (found_log i k log) done (all-before (λ u. SameAt log (found_log i k log) u) from done order (λ u lt. same-found log i k u))

pub kept-found : (log : RunLog) (i k u : ℕ) → tells_cut u (take i log.breaks) ≡ true → kept_after log u ≡ kept_after (found_log i k log) u
kept-found log i k u tells =
    kept-by log u
    ∙ ap (λ (bs : List Break). kept_after (log_of bs) u) (sym (take-drop i log.breaks))
    ∙ kept-known (take i log.breaks) (drop i log.breaks) u tells
    ∙ sym (kept-known (take i log.breaks) (map (with_kept k) (drop i log.breaks)) u tells)
    ∙ sym (kept-by (found_log i k log) u)

-- WHERE ITS CUTS ARE
abbrev pub BreaksBefore : (cuts next : ℕ) → List Break → Type 0
BreaksBefore cuts next bs = AllByRecursion (IsBreakBefore cuts next) bs

abbrev pub FindsBefore : ℕ → List Find → Type 0
FindsBefore next fs = AllByRecursion (λ (f : Find). f.second < next) fs

pub tells-none : (cuts next : ℕ) (bs : List Break) (u : ℕ) → BreaksBefore cuts next bs → cuts ≤ u → tells_cut u bs ≡ false
tells-none cuts next [] u h le = refl
tells-none cuts next (Cut s k failed begun ∷ bs) u h le =
    let before : s < cuts = h.0 in
    let other : nat_eq s u ≡ false = grind (arith, nat_tests) in
    rw other (tells-none cuts next bs u h.1 le)
tells-none cuts next (Tear s slot failed begun late ∷ bs) u h le = tells-none cuts next bs u h.1 le

pub breaks-front : (cuts next i : ℕ) (bs : List Break) → BreaksBefore cuts next bs → BreaksBefore cuts next (take i bs)
breaks-front cuts next zero bs h = tt
breaks-front cuts next (suc i) [] h = tt
breaks-front cuts next (suc i) (b ∷ bs) h = (h.0, breaks-front cuts next i bs h.1)

break-later : (cuts next later_cuts later : ℕ) (b : Break) → cuts ≤ later_cuts → next ≤ later → IsBreakBefore cuts next b → IsBreakBefore later_cuts later b
break-later cuts next later_cuts later (Cut s k failed begun) le more is = omega (arith, le, is)
break-later cuts next later_cuts later (Tear s slot failed begun late) le more is = omega (arith, more, is)

pub breaks-later : (cuts next later_cuts later : ℕ) (bs : List Break) → cuts ≤ later_cuts → next ≤ later → BreaksBefore cuts next bs → BreaksBefore later_cuts later bs
breaks-later cuts next later_cuts later [] le more h = tt
breaks-later cuts next later_cuts later (b ∷ bs) le more h = (break-later cuts next later_cuts later b le more h.0, breaks-later cuts next later_cuts later bs le more h.1)

pub finds-later : (next later : ℕ) (fs : List Find) → next ≤ later → FindsBefore next fs → FindsBefore later fs
finds-later next later [] le h = tt
finds-later next later (f ∷ fs) le h = let lt : f.second < next = h.0 in (omega (arith, lt, le), finds-later next later fs le h.1)

pub lines-later : (cuts next later_cuts later : ℕ) (log : RunLog) → cuts ≤ later_cuts → next ≤ later → AreBefore cuts next log → AreBefore later_cuts later log
lines-later cuts next later_cuts later log le more h =
    record { breaks = breaks-later cuts next later_cuts later log.breaks le more h.breaks; finds = finds-later next later log.finds more h.finds }

-- a cut that is told is one of them
pub tells-cut : (bs : List Break) (u begun : ℕ) → cut_in (log_of bs) u ≡ Some begun → tells_cut u bs ≡ true
unfolding cut_in
tells-cut [] u begun is = absurd (cc)
tells-cut (b ∷ bs) u begun is = by (cut_of u b) (cut_in (log_of bs) u) (tells_cut u bs) is (λ rest. tells-cut bs u begun rest)
  where
    by : (o rest : Option ℕ) (t : Bool) → cond (is_some o) o rest ≡ Some begun → (rest ≡ Some begun → t ≡ true) → (is_some o || t) ≡ true
    by None rest t is on = on is
    by (Some n) rest t is on = refl

-- where no cut is told each line is none
none-of : (bs : List Break) (u : ℕ) → cut_in (log_of bs) u ≡ None → AllByRecursion (λ (b : Break). cut_of u b ≡ None) bs
unfolding cut_in
none-of [] u is = tt
none-of (b ∷ bs) u is = let both = by (cut_of u b) (cut_in (log_of bs) u) is in (both.0, none-of bs u both.1)
  where
    by : (o rest : Option ℕ) → cond (is_some o) o rest ≡ None → (o ≡ None) × (rest ≡ None)
    by None rest is = (refl, is)
    by (Some n) rest is = absurd (cc)

-- lines of the next second
pub breaks-more : (cuts next : ℕ) (bs rest : List Break) → cuts ≤ next → BreaksBefore cuts next bs → AllByRecursion (λ (b : Break). second_of b ≡ next) rest → BreaksBefore (suc next) (suc next) (bs ++ rest)
breaks-more cuts next [] [] le h each = tt
breaks-more cuts next [] (b ∷ rest) le h each = (one b each.0, breaks-more cuts next [] rest le tt each.1)
  where
    one : (b : Break) → second_of b ≡ next → IsBreakBefore (suc next) (suc next) b
    one (Cut s k failed begun) is = omega (arith, is)
    one (Tear s slot failed begun late) is = omega (arith, is)
breaks-more cuts next (b ∷ bs) rest le h each = (break-later cuts next (suc next) (suc next) b (omega (arith, le)) (omega arith) h.0, breaks-more cuts next bs rest le h.1 each)

-- with no cut among them
breaks-on : (cuts next : ℕ) (bs rest : List Break) → cuts ≤ next → BreaksBefore cuts next bs → AllByRecursion (λ (b : Break). second_of b ≡ next) rest → AllByRecursion (λ (b : Break). cut_of next b ≡ None) (bs ++ rest) → BreaksBefore next (suc next) (bs ++ rest)
breaks-on cuts next [] [] le h each none = tt
breaks-on cuts next [] (b ∷ rest) le h each none = (one b each.0 none.0, breaks-on cuts next [] rest le tt each.1 none.1)
  where
    one : (b : Break) → second_of b ≡ next → cut_of next b ≡ None → IsBreakBefore next (suc next) b
    one (Cut s k failed begun) is none =
        let same : nat_eq s next ≡ true = ap (λ (m : ℕ). nat_eq m next) is ∙ same-number next in
        let e : Some begun ≡ None = sym (ap (λ (t : Bool). cond t (Some begun) None) same) ∙ none in absurd (cc)
    one (Tear s slot failed begun late) is none = omega (arith, is)
breaks-on cuts next (b ∷ bs) rest le h each none = (break-later cuts next next (suc next) b le (omega arith) h.0, breaks-on cuts next bs rest le h.1 each none.1)

finds-more : (next : ℕ) (fs rest : List Find) → FindsBefore next fs → AllByRecursion (λ (f : Find). f.second ≡ next) rest → FindsBefore (suc next) (fs ++ rest)
finds-more next [] [] h each = tt
finds-more next [] (f ∷ rest) h each = let is : f.second ≡ next = each.0 in (omega (arith, is), finds-more next [] rest tt each.1)
finds-more next (f ∷ fs) rest h each = let lt : f.second < next = h.0 in (omega (arith, lt), finds-more next fs rest h.1 each)

module _ (log later : RunLog) (cuts n : ℕ) (le : cuts ≤ n) (h : AreBefore cuts n log) (breaks : List Break) (more_breaks : later.breaks ≡ log.breaks ++ breaks) (each : AllByRecursion (λ (b : Break). second_of b ≡ n) breaks)
    (finds : List Find) (more_finds : later.finds ≡ log.finds ++ finds) (every : AllByRecursion (λ (f : Find). f.second ≡ n) finds) where
  all-finds : FindsBefore (suc n) later.finds
  all-finds = subst (FindsBefore (suc n)) (sym more_finds) (finds-more n log.finds finds h.finds every)

  -- the next second is a cut's, or not
  pub lines-more : AreBefore (suc n) (suc n) later
  lines-more = record { breaks = subst (BreaksBefore (suc n) (suc n)) (sym more_breaks) (breaks-more cuts n log.breaks breaks le h.breaks each); finds = all-finds }

  pub lines-on : cut_in later n ≡ None → AreBefore n (suc n) later
  lines-on none = record {
    breaks = subst (BreaksBefore n (suc n)) (sym more_breaks)
        (breaks-on cuts n log.breaks breaks le h.breaks each (none-of (log.breaks ++ breaks) n (sym (ap (λ (bs : List Break). cut_in (log_of bs) n) more_breaks) ∙ sym (cut-by later n) ∙ none)));
    finds = all-finds;
  }

-- a cut of a second in which none was told
pub breaks-push : (cuts next : ℕ) (bs : List Break) (v : ℕ) (failed : Bool) (begun : ℕ) → v < next → cuts ≤ next → BreaksBefore cuts next bs → BreaksBefore next next (bs ++ cut_at v failed begun ∷ [])
breaks-push cuts next [] v failed begun lt le h = (lt, tt)
breaks-push cuts next (b ∷ bs) v failed begun lt le h = (break-later cuts next next next b le (omega arith) h.0, breaks-push cuts next bs v failed begun lt le h.1)

breaks-found : (cuts next i k : ℕ) (bs : List Break) → BreaksBefore cuts next bs → BreaksBefore cuts next (found_from i k bs)
breaks-found cuts next zero k [] h = tt
breaks-found cuts next zero k (Cut s old failed begun ∷ bs) h = (h.0, breaks-found cuts next zero k bs h.1)
breaks-found cuts next zero k (Tear s slot failed begun late ∷ bs) h = (h.0, breaks-found cuts next zero k bs h.1)
breaks-found cuts next (suc i) k [] h = tt
breaks-found cuts next (suc i) k (b ∷ bs) h = (h.0, breaks-found cuts next i k bs h.1)

pub lines-found : (cuts next i k : ℕ) (log : RunLog) → AreBefore cuts next log → AreBefore cuts next (found_log i k log)
lines-found cuts next i k log h = record { breaks = breaks-found cuts next i k log.breaks h.breaks; finds = h.finds }
