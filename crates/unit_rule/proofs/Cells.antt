-- The cells of a row as an entry is put into it: those of other places stay, and the entry comes behind earlier ones.
use Rattle.std.proofs.Common.{◌≡◌, ⊎_elim, ℕ, zero, suc, ◌+◌, ◌%◌, ◌<◌, ◌≤◌, Bool, true, false, cond, not, ◌&&◌, List, [], ◌∷◌, ◌++◌, length, filter, fold, All, refl, ap, sym, subst, ◌∙◌, arith}
use Rattle.std.specs.Prelude.{◌==◌, nat_eq, nat_le, slice_set}
use Rattle.std.proofs.lemmas.Bool.{cases_lt}
use Rattle.std.proofs.lemmas.Bool.Decides.{nat_tests}
use Rattle.unit_minutes.specs.activity_codec.declared.entries.Entry.{Entry}
use Rattle.unit_minutes.specs.unit_owed.Owed.{Cell, entry_of, holds, cell_entries, placed}
use Rattle.safety_model.proofs.device_rule.OwedView.{placed-more, placed-here, placed-front}

-- an entry is not of this place
abbrev pub elsewhere : ℕ → Entry → Bool
elsewhere p d = not (nat_eq (d.minute % 4) p)

first : (a b : Bool) → (a && b) ≡ true → a ≡ true
first true b is = refl
first false b is = is

nothing : (a : Bool) → (a && false) ≡ false
nothing true = refl
nothing false = refl

at_place : (m i : ℕ) → (m == i) ≡ true → m ≡ i
at_place m i is = grind (arith, nat_tests)

apart : (m p : ℕ) → (m ≡ p → ⊥) → nat_eq m p ≡ false
apart m p is = grind (arith, nat_tests)

same : (p : ℕ) → nat_eq p p ≡ true
same p = grind (arith, nat_tests)

-- a cell of another place stays
stays : (p i : ℕ) (c : Cell) (cells : List Cell) → (i ≡ p → ⊥) → filter (elsewhere p) (cell_entries i (c ∷ cells)) ≡ cond (holds i c) (entry_of c ∷ filter (elsewhere p) (cell_entries (i + 1) cells)) (filter (elsewhere p) (cell_entries (i + 1) cells))
stays p i c cells other = by (holds i c) refl
  where
    by : (b : Bool) → holds i c ≡ b → filter (elsewhere p) (cond b (entry_of c ∷ cell_entries (i + 1) cells) (cell_entries (i + 1) cells)) ≡ cond b (entry_of c ∷ filter (elsewhere p) (cell_entries (i + 1) cells)) (filter (elsewhere p) (cell_entries (i + 1) cells))
    by true is =
        let here : c.minute % 4 ≡ i = at_place (c.minute % 4) i (first (c.minute % 4 == i) (nat_le 1440 c.minute) is) in
        ap (λ (b : Bool). cond (not b) (entry_of c ∷ filter (elsewhere p) (cell_entries (i + 1) cells)) (filter (elsewhere p) (cell_entries (i + 1) cells))) (apart (c.minute % 4) p (λ at. other (sym here ∙ at)))
    by false is = refl

-- and so do all cells behind a place
pub behind : (p i : ℕ) (cells : List Cell) → p < i → filter (elsewhere p) (cell_entries i cells) ≡ cell_entries i cells
behind p i [] lt = refl
behind p i (c ∷ cells) lt =
    stays p i c cells (λ is. absurd (omega (arith, lt, is)))
    ∙ ap (λ (l : List Entry). cond (holds i c) (entry_of c ∷ l) l) (behind p (i + 1) cells (omega (arith, lt)))

-- without the cell of a place
pub cleared_cells : (n p i word : ℕ) (cells : List Cell) → p ≡ i + n → n < length cells → filter (elsewhere p) (cell_entries i cells) ≡ cell_entries i (slice_set cells n (record { minute = 0; word = word }))
cleared_cells n p i word [] at low = absurd (omega (arith, low))
cleared_cells zero p i word (c ∷ cells) at low = by (holds i c) refl ∙ behind p (i + 1) cells (omega (arith, at)) ∙ ap (λ (b : Bool). cond b (entry_of (record { minute = 0; word = word }) ∷ cell_entries (i + 1) cells) (cell_entries (i + 1) cells)) (sym (nothing (0 % 4 == i)))
  where
    by : (b : Bool) → holds i c ≡ b → filter (elsewhere p) (cond b (entry_of c ∷ cell_entries (i + 1) cells) (cell_entries (i + 1) cells)) ≡ filter (elsewhere p) (cell_entries (i + 1) cells)
    by true is =
        let here : c.minute % 4 ≡ p = omega (arith, at, at_place (c.minute % 4) i (first (c.minute % 4 == i) (nat_le 1440 c.minute) is)) in
        ap (λ (m : ℕ). cond (not (nat_eq m p)) (entry_of c ∷ filter (elsewhere p) (cell_entries (i + 1) cells)) (filter (elsewhere p) (cell_entries (i + 1) cells))) here
        ∙ ap (λ (b : Bool). cond (not b) (entry_of c ∷ filter (elsewhere p) (cell_entries (i + 1) cells)) (filter (elsewhere p) (cell_entries (i + 1) cells))) (same p)
    by false is = refl
cleared_cells (suc n) p i word (c ∷ cells) at low =
    stays p i c cells (λ is. absurd (omega (arith, at, is)))
    ∙ ap (λ (l : List Entry). cond (holds i c) (entry_of c ∷ l) l) (cleared_cells n p (i + 1) word cells (omega (arith, at)) (omega (arith, low)))

-- with another cell at a place: its entry stands between those of the others
pub record Between (i : ℕ) (with_it without : List Cell) (e : Entry) : Type 0 where
  pub before : List Entry
  pub after : List Entry
  pub is : cell_entries i with_it ≡ before ++ e ∷ after
  pub others : cell_entries i without ≡ before ++ after

front : (b : Bool) (e : Entry) (xs ys : List Entry) → cond b (e ∷ (xs ++ ys)) (xs ++ ys) ≡ cond b (e ∷ xs) xs ++ ys
front true e xs ys = refl
front false e xs ys = refl

pub put_cells : (n p i word : ℕ) (d : Cell) (cells : List Cell) → p ≡ i + n → n < length cells → d.minute % 4 ≡ p → 1440 ≤ d.minute →
    Between i (slice_set cells n d) (slice_set cells n (record { minute = 0; word = word })) (entry_of d)
put_cells n p i word d [] at low here late = absurd (omega (arith, low))
put_cells zero p i word d (c ∷ cells) at low here late = record {
  before = [];
  after = cell_entries (i + 1) cells;
  is = ap (λ (b : Bool). cond b (entry_of d ∷ cell_entries (i + 1) cells) (cell_entries (i + 1) cells)) (held (d.minute % 4) i d.minute (omega (arith, here, at)) late);
  others = ap (λ (b : Bool). cond b (entry_of (record { minute = 0; word = word }) ∷ cell_entries (i + 1) cells) (cell_entries (i + 1) cells)) (nothing (0 % 4 == i));
}
  where
    held : (m i k : ℕ) → m ≡ i → 1440 ≤ k → ((m == i) && nat_le 1440 k) ≡ true
    held m i k is late = grind (arith, nat_tests)
put_cells (suc n) p i word d (c ∷ cells) at low here late =
    let rest = put_cells n p (i + 1) word d cells (omega (arith, at)) (omega (arith, low)) here late in
    record {
      before = cond (holds i c) (entry_of c ∷ rest.before) rest.before;
      after = rest.after;
      is = ap (λ (l : List Entry). cond (holds i c) (entry_of c ∷ l) l) rest.is ∙ front (holds i c) (entry_of c) rest.before (entry_of d ∷ rest.after);
      others = ap (λ (l : List Entry). cond (holds i c) (entry_of c ∷ l) l) rest.others ∙ front (holds i c) (entry_of c) rest.before rest.after;
    }

-- each entry is earlier than a minute
abbrev pub Before : ℕ → List Entry → Type 0
Before m [] = Unit {0}
Before m (e ∷ es) = (e.minute < m) × Before m es

pub before_all : (m : ℕ) (es : List Entry) → All (λ d. d.minute < m) es → Before m es
before_all m [] all = tt
before_all m (e ∷ es) all = (all 0 e (omega arith), before_all m es (λ k d low. all (suc k) d (omega (arith, low))))

placed_back : (m : ℕ) (es : List Entry) (e : Entry) → Before m (placed es e) → (e.minute < m) × Before m es
placed_back m [] e all = all
placed_back m (f ∷ es) e all = ⊎_elim
    (λ less. let both = subst (Before m) (placed-more f es e less) all in let rest = placed_back m es e both.1 in (rest.0, (both.0, rest.1)))
    (λ more. let both = subst (Before m) (placed-here f es e more) all in (both.0, both.1))
    (cases_lt f.minute e.minute)

-- entries that are earlier in their order were so before
pub ordered_back : (m : ℕ) (start es : List Entry) → Before m (fold placed start es) → Before m start × Before m es
ordered_back m start [] all = (all, tt)
ordered_back m start (e ∷ es) all = let rest = ordered_back m (placed start e) es all in let now = placed_back m start e rest.0 in (now.1, (now.0, rest.1))

pub ordered_more : (m : ℕ) (start es : List Entry) → Before m start → Before m es → Before m (fold placed start es)
ordered_more m start [] all more = all
ordered_more m start (e ∷ es) all more = ordered_more m (placed start e) es (placed_on start all) more.1
  where
    placed_on : (start : List Entry) → Before m start → Before m (placed start e)
    placed_on [] all = (more.0, tt)
    placed_on (f ∷ start) all = ⊎_elim
        (λ less. subst (Before m) (sym (placed-more f start e less)) (all.0, placed_on start all.1))
        (λ behind. subst (Before m) (sym (placed-here f start e behind)) (more.0, (all.0, all.1)))
        (cases_lt f.minute e.minute)

placed_last : (e : Entry) (es : List Entry) → Before e.minute es → placed es e ≡ es ++ e ∷ []
placed_last e [] all = refl
placed_last e (f ∷ es) all = placed-more f es e all.0 ∙ ap (λ (l : List Entry). f ∷ l) (placed_last e es all.1)

placed_before : (e g : Entry) (es : List Entry) → g.minute < e.minute → placed (es ++ e ∷ []) g ≡ placed es g ++ e ∷ []
placed_before e g [] less = placed-front (e ∷ []) g (omega (arith, less), tt)
placed_before e g (f ∷ es) less = ⊎_elim
    (λ lt. placed-more f (es ++ e ∷ []) g lt ∙ ap (λ (l : List Entry). f ∷ l) (placed_before e g es less) ∙ ap (λ (l : List Entry). l ++ e ∷ []) (sym (placed-more f es g lt)))
    (λ more. placed-here f (es ++ e ∷ []) g more ∙ ap (λ (l : List Entry). l ++ e ∷ []) (sym (placed-here f es g more)))
    (cases_lt f.minute g.minute)

fold_before : (e : Entry) (start es : List Entry) → Before e.minute es → fold placed (start ++ e ∷ []) es ≡ fold placed start es ++ e ∷ []
fold_before e start [] all = refl
fold_before e start (g ∷ es) all = ap (λ (l : List Entry). fold placed l es) (placed_before e g start all.0) ∙ fold_before e (placed start g) es all.1

-- an entry that is later than the others comes behind them
pub ordered_last : (e : Entry) (start xs ys : List Entry) → Before e.minute start → Before e.minute (xs ++ ys) → fold placed start (xs ++ e ∷ ys) ≡ fold placed start (xs ++ ys) ++ e ∷ []
ordered_last e start [] ys low all = ap (λ (l : List Entry). fold placed l ys) (placed_last e start low) ∙ fold_before e start ys all
ordered_last e start (x ∷ xs) ys low all = ordered_last e (placed start x) xs ys (ordered_more e.minute start (x ∷ []) low (all.0, tt)) all.1
