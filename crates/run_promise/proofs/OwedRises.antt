-- What a unit owes to a card rises: its cells stand at four places.
use Rattle.std.proofs.Common.{◌≡◌, ◌≢◌, ⊎_elim, ℕ, ◌+◌, ◌/◌, ◌%◌, ◌<◌, ◌≤◌, Bool, true, false, cond, Option, Some, None, List, [], ◌∷◌, All, refl, ap, subst, sym, arith, filter, nat_le}
use Rattle.std.specs.Prelude.{◌==◌, ◌&&◌, fold}
use Rattle.std.proofs.lemmas.Bool.{cases_lt}
use Rattle.std.proofs.lemmas.Bool.Decides.{nat_tests}
use Rattle.std.proofs.lemmas.List.Elements.{All-nil, All-cons, All-head, All-tail, All-weaker, All-filter}
use Rattle.run_course.specs.activity_codec.declared.entries.Entry.{Entry}
use Rattle.run_course.specs.trace_model.declared.Card.{Card}
use Rattle.run_course.specs.trace_model.declared.Card.TheVariants.{A, B}
use Rattle.unit_rule.specs.card_retention.Retains.{Rise}
use Rattle.unit_rule.specs.unit_owed.Owed.{Cell, OwedRow, row_of, entry_of, holds, cell_entries, placed, seen_row, row_view}
use Rattle.unit_rule.specs.device_rule.View.{CardView}
use Rattle.unit_rule.specs.device_rule.Views.{unit_view, row, owed, counts, is_session}
use Rattle.unit_rule.proofs.device_rule.OwedView.{placed-more, placed-here}
use Rattle.run_promise.proofs.Entries.{rise-tail, rise-above}

cons-rise : (e : Entry) (es : List Entry) → All (λ f. e.minute < f.minute) es → Rise es → Rise (e ∷ es)
cons-rise e [] each rise = tt
cons-rise e (f ∷ es) each rise = (All-head (λ (g : Entry). e.minute < g.minute) f es each, rise)

-- of entries that rise each part that passes a test does
pub rise-filter : (p : Entry → Bool) (es : List Entry) → Rise es → Rise (filter p es)
rise-filter p [] rise = tt
rise-filter p (e ∷ es) rise = go (p e) (rise-filter p es (rise-tail e es rise))
  where
    go : (b : Bool) → Rise (filter p es) → Rise (cond b (e ∷ filter p es) (filter p es))
    go true rest = cons-rise e (filter p es) (All-filter p (λ (f : Entry). e.minute < f.minute) es (rise-above e es rise)) rest
    go false rest = rest

-- one entry more, of another minute
all-placed : (P : Entry → Type 0) (es : List Entry) (e : Entry) → P e → All P es → All P (placed es e)
all-placed P [] e is each = All-cons P e [] is (All-nil P)
all-placed P (f ∷ es) e is each = ⊎_elim
    (λ less. subst (All P) (sym (placed-more f es e less)) (All-cons P f (placed es e) (All-head P f es each) (all-placed P es e is (All-tail P f es each))))
    (λ more. subst (All P) (sym (placed-here f es e more)) (All-cons P e (f ∷ es) is each))
    (cases_lt f.minute e.minute)

rise-placed : (es : List Entry) (e : Entry) → All (λ f. f.minute ≢ e.minute) es → Rise es → Rise (placed es e)
rise-placed [] e other rise = tt
rise-placed (f ∷ es) e other rise = ⊎_elim
    (λ less. subst Rise (sym (placed-more f es e less)) (cons-rise f (placed es e) (all-placed (λ (g : Entry). f.minute < g.minute) es e less (rise-above f es rise))
    (rise-placed es e (All-tail (λ (g : Entry). g.minute ≢ e.minute) f es other) (rise-tail f es rise))))
    (λ more.
    let differs : f.minute ≢ e.minute = All-head (λ (g : Entry). g.minute ≢ e.minute) f es other in
    let later : e.minute < f.minute = omega (arith, more, differs) in
    subst Rise (sym (placed-here f es e more)) (later, rise))
    (cases_lt f.minute e.minute)

-- entries of different minutes
abbrev Apart : List Entry → Type 0
Apart [] = Unit {0}
Apart (e ∷ es) = All (λ (f : Entry). f.minute ≢ e.minute) es × Apart es

rise-fold : (start es : List Entry) → Rise start → Apart es → All (λ f. All (λ e. f.minute ≢ e.minute) es) start → Rise (fold placed start es)
rise-fold start [] rise apart cross = rise
rise-fold start (e ∷ es) rise apart cross = rise-fold (placed start e) es
    (rise-placed start e (All-weaker (λ (f : Entry). All (λ (g : Entry). f.minute ≢ g.minute) (e ∷ es)) (λ f. f.minute ≢ e.minute) (λ f each. All-head (λ (g : Entry). f.minute ≢ g.minute) e es each) start cross) rise)
    apart.1
    (all-placed (λ (f : Entry). All (λ (g : Entry). f.minute ≢ g.minute) es) start e (All-weaker (λ (f : Entry). f.minute ≢ e.minute) (λ f. e.minute ≢ f.minute) (λ f differs is. differs (sym is)) es apart.0)
    (All-weaker (λ (f : Entry). All (λ (g : Entry). f.minute ≢ g.minute) (e ∷ es)) (λ f. All (λ (g : Entry). f.minute ≢ g.minute) es) (λ f each. All-tail (λ (g : Entry). f.minute ≢ g.minute) e es each) start cross))

-- the entries of a row's cells stand at their minutes modulo 4
first-true : (a b : Bool) → (a && b) ≡ true → a ≡ true
first-true true b is = refl
first-true false b is = is

place-is : (m i : ℕ) → (m % 4 == i) ≡ true → m % 4 ≡ i
place-is m i is = grind (arith, nat_tests)

at-place : (i : ℕ) (c : Cell) → holds i c ≡ true → c.minute % 4 ≡ i
at-place i c is = place-is c.minute i (first-true (c.minute % 4 == i) (nat_le 1440 c.minute) is)

from-place : (i : ℕ) (cells : List Cell) → All (λ e. i ≤ e.minute % 4) (cell_entries i cells)
from-place i [] = All-nil (λ (e : Entry). i ≤ e.minute % 4)
from-place i (c ∷ cells) = go (holds i c) refl (All-weaker (λ (e : Entry). i + 1 ≤ e.minute % 4) (λ e. i ≤ e.minute % 4) (λ e h. omega (arith, h)) (cell_entries (i + 1) cells) (from-place (i + 1) cells))
  where
    go : (b : Bool) → holds i c ≡ b → All (λ e. i ≤ e.minute % 4) (cell_entries (i + 1) cells) → All (λ e. i ≤ e.minute % 4) (cond b (entry_of c ∷ cell_entries (i + 1) cells) (cell_entries (i + 1) cells))
    go true is rest = All-cons (λ (e : Entry). i ≤ e.minute % 4) (entry_of c) (cell_entries (i + 1) cells) (let at = at-place i c is in omega (arith, at)) rest
    go false is rest = rest

apart-cells : (i : ℕ) (cells : List Cell) → Apart (cell_entries i cells)
apart-cells i [] = tt
apart-cells i (c ∷ cells) = go (holds i c) refl (apart-cells (i + 1) cells)
  where
    go : (b : Bool) → holds i c ≡ b → Apart (cell_entries (i + 1) cells) → Apart (cond b (entry_of c ∷ cell_entries (i + 1) cells) (cell_entries (i + 1) cells))
    go true is rest = (
      All-weaker (λ (e : Entry). i + 1 ≤ e.minute % 4) (λ e. e.minute ≢ c.minute) (λ e h same. let at = at-place i c is in let equal : e.minute % 4 ≡ c.minute % 4 = ap (λ (m : ℕ). m % 4) same in omega (arith, h, at, equal))
          (cell_entries (i + 1) cells) (from-place (i + 1) cells),
      rest,
    )
    go false is rest = rest

row-rises : (o : Option OwedRow) → Rise (seen_row o).cells
row-rises None = tt
row-rises (Some r) = rise-fold [] (cell_entries 0 r.cells) tt (apart-cells 0 r.cells) (All-nil (λ (f : Entry). All (λ (e : Entry). f.minute ≢ e.minute) (cell_entries 0 r.cells)))

pub view-rises : (number x : List ℕ) → Rise (row_view number x).cells
unfolding row_view
view-rises number x = row-rises (row_of number x)

cells-rise : (c : Card) (a b u : List ℕ) → Rise (row c (unit_view a b u)).cells
unfolding unit_view
cells-rise A a b u = view-rises a u
cells-rise B a b u = view-rises b u

-- WHAT IS OWED rises
pub owed-rises : (c : Card) (a b u : List ℕ) (x : CardView) → Rise (owed c (unit_view a b u) x)
owed-rises c a b u x = go (is_session (row c (unit_view a b u)).session x.session)
  where
    go : (s : Bool) → Rise (cond s (filter (λ e. counts (x.session / 60) x.mark (unit_view a b u).last e.minute) (row c (unit_view a b u)).cells) [])
    go true = rise-filter (λ (e : Entry). counts (x.session / 60) x.mark (unit_view a b u).last e.minute) (row c (unit_view a b u)).cells (cells-rise c a b u)
    go false = tt
