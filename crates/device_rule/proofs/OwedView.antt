-- What a unit's image owes to a card is what its view owes: sorting entries and filtering them go together.
use Rattle.std.proofs.Common.{◌≡◌, ⊎_elim, ℕ, suc, ◌+◌, ◌/◌, ◌<◌, ◌≤◌, Bool, true, false, cond, not, Option, Some, None, List, [], ◌∷◌, filter, find, fold, refl, ap, sym, subst, ◌∙◌, arith}
use Rattle.std.specs.Prelude.{◌&&◌, ◌==◌, nat_le, nat_lt, option_map}
use Rattle.std.specs.List.{insert, prefix_len, AllByRecursion, range_with_len}
use Rattle.std.proofs.lemmas.Bool.{cases_lt}
use Rattle.std.proofs.lemmas.Bool.Decides.{nat_tests}
use Rattle.activity_codec.specs.declared.entries.Entry.{Entry}
use Rattle.unit_model.specs.Image.{last_kept}
use Rattle.unit_owed.specs.Owed as unit
use Rattle.unit_owed.specs.Owed.{Cell, OwedRow, entry_of, holds, cell_entries, placed, in_order, rows_in, row_in, session_in, is_row_of, row_index, owed_of, owed_to, seen_row, row_view}
use Rattle.device_rule.specs.Views.{counts, owed_in}

lt_true : (a b : ℕ) → a < b → nat_lt a b ≡ true
lt_true a b is = grind (arith, nat_tests)

lt_false : (a b : ℕ) → b ≤ a → nat_lt a b ≡ false
lt_false a b is = grind (arith, nat_tests)

pub placed-more : (f : Entry) (es : List Entry) (e : Entry) → f.minute < e.minute → placed (f ∷ es) e ≡ f ∷ placed es e
placed-more f es e less =
    let n : ℕ = prefix_len (λ g. nat_lt g.minute e.minute) es in
    let next : 1 + n ≡ suc n = omega arith in
    (λ t. insert (f ∷ es) (cond (lt_true f.minute e.minute less t) (1 + n) 0) e) ∙ ap (λ (m : ℕ). insert (f ∷ es) m e) next

pub placed-here : (f : Entry) (es : List Entry) (e : Entry) → e.minute ≤ f.minute → placed (f ∷ es) e ≡ e ∷ f ∷ es
placed-here f es e more = λ t. insert (f ∷ es) (cond (lt_false f.minute e.minute more t) (1 + prefix_len (λ g. nat_lt g.minute e.minute) es) 0) e

-- in order of minutes
abbrev pub From : ℕ → List Entry → Type 0
From m es = AllByRecursion (λ (f : Entry). m ≤ f.minute) es

abbrev pub Ascend : List Entry → Type 0
Ascend [] = Unit {0}
Ascend (e ∷ es) = From e.minute es × Ascend es

from-less : (a b : ℕ) (es : List Entry) → a ≤ b → From b es → From a es
from-less a b [] le h = tt
from-less a b (e ∷ es) le h = let first : b ≤ e.minute = h.0 in (omega (arith, le, first), from-less a b es le h.1)

from-placed : (m : ℕ) (es : List Entry) (e : Entry) → m ≤ e.minute → From m es → From m (placed es e)
from-placed m [] e le h = (le, tt)
from-placed m (f ∷ es) e le h = ⊎_elim
    (λ less. subst (From m) (sym (placed-more f es e less)) (h.0, from-placed m es e le h.1))
    (λ more. subst (From m) (sym (placed-here f es e more)) (le, (h.0, h.1)))
    (cases_lt f.minute e.minute)

ascend-placed : (es : List Entry) (e : Entry) → Ascend es → Ascend (placed es e)
ascend-placed [] e h = (tt, tt)
ascend-placed (f ∷ es) e h = ⊎_elim
    (λ less. subst Ascend (sym (placed-more f es e less)) (from-placed f.minute es e (omega (arith, less)) h.0, ascend-placed es e h.1))
    (λ more. subst Ascend (sym (placed-here f es e more)) ((more, from-less e.minute f.minute es more h.0), (h.0, h.1)))
    (cases_lt f.minute e.minute)

pub placed-front : (es : List Entry) (e : Entry) → From e.minute es → placed es e ≡ e ∷ es
placed-front [] e h = refl
placed-front (f ∷ es) e h = placed-here f es e h.0

from-filter : (p : Entry → Bool) (m : ℕ) (es : List Entry) → From m es → From m (filter p es)
from-filter p m [] h = tt
from-filter p m (e ∷ es) h = go (p e) (from-filter p m es h.1)
  where
    go : (b : Bool) → From m (filter p es) → From m (cond b (e ∷ filter p es) (filter p es))
    go true rest = (h.0, rest)
    go false rest = rest

-- one entry more, or none where it does not pass
filter-placed : (p : Entry → Bool) (es : List Entry) (e : Entry) → Ascend es → filter p (placed es e) ≡ cond (p e) (placed (filter p es) e) (filter p es)
filter-placed p [] e h = refl
filter-placed p (f ∷ es) e h = ⊎_elim
    (λ less. ap (filter p) (placed-more f es e less) ∙ ap (λ (zs : List Entry). cond (p f) (f ∷ zs) zs) (filter-placed p es e h.1) ∙ behind less (p f) (p e))
    (λ more. ap (filter p) (placed-here f es e more) ∙ ap (λ (zs : List Entry). cond (p e) zs (filter p (f ∷ es))) (sym (placed-front (filter p (f ∷ es)) e (from-filter p e.minute (f ∷ es) (more, from-less e.minute f.minute es more h.0)))))
    (cases_lt f.minute e.minute)
  where
    behind : f.minute < e.minute → (b d : Bool) → cond b (f ∷ cond d (placed (filter p es) e) (filter p es)) (cond d (placed (filter p es) e) (filter p es)) ≡ cond d (placed (cond b (f ∷ filter p es) (filter p es)) e) (cond b (f ∷ filter p es) (filter p es))
    behind less true true = sym (placed-more f (filter p es) e less)
    behind less true false = refl
    behind less false true = refl
    behind less false false = refl

pub filter-fold : (p : Entry → Bool) (start es : List Entry) → Ascend start → filter p (fold placed start es) ≡ fold placed (filter p start) (filter p es)
filter-fold p start [] h = refl
filter-fold p start (e ∷ es) h = filter-fold p (placed start e) es (ascend-placed start e h) ∙ ap (λ (zs : List Entry). fold placed zs (filter p es)) (filter-placed p start e h) ∙ go (p e)
  where
    go : (b : Bool) → fold placed (cond b (placed (filter p start) e) (filter p start)) (filter p es) ≡ fold placed (filter p start) (cond b (e ∷ filter p es) (filter p es))
    go true = refl
    go false = refl

-- no entry of a row is one of the first day
from-cells : (i : ℕ) (cells : List Cell) → From 1440 (cell_entries i cells)
from-cells i [] = tt
from-cells i (c ∷ cells) = go (holds i c) refl (from-cells (i + 1) cells)
  where
    second : (a b : Bool) → (a && b) ≡ true → b ≡ true
    second true b is = is
    second false b is = absurd (cc)

    late : (n : ℕ) → nat_le 1440 n ≡ true → 1440 ≤ n
    late n is = grind (arith, nat_tests)

    go : (b : Bool) → holds i c ≡ b → From 1440 (cell_entries (i + 1) cells) → From 1440 (cond b (entry_of c ∷ cell_entries (i + 1) cells) (cell_entries (i + 1) cells))
    go true is rest = (late c.minute (second _ (nat_le 1440 c.minute) is), rest)
    go false is rest = rest

counts-same : (from mark last m : ℕ) → 1440 ≤ m → unit.counts from mark last m ≡ counts (from / 60) mark last m
counts-same from mark last m late = let yes : nat_le 1440 m ≡ true = grind (arith, nat_tests) in rw yes refl

filter-same : (p q : Entry → Bool) (es : List Entry) → ((e : Entry) → 1440 ≤ e.minute → p e ≡ q e) → From 1440 es → filter p es ≡ filter q es
filter-same p q [] same h = refl
filter-same p q (e ∷ es) same h = ap (λ (b : Bool). cond b (e ∷ filter p es) (filter p es)) (same e h.0) ∙ ap (λ (zs : List Entry). cond (q e) (e ∷ zs) zs) (filter-same p q es same h.1)

-- a row that was found has a session
found-passes : (p : ℕ → Bool) (ns : List ℕ) (r : ℕ) → find p ns ≡ Some r → p r ≡ true
found-passes p [] r is = absurd (cc)
found-passes p (n ∷ ns) r is = go (p n) refl (found-passes p ns r)
  where
    go : (b : Bool) → p n ≡ b → (find p ns ≡ Some r → p r ≡ true) → p r ≡ true
    go true passes rest = let same : n ≡ r = (let h = rw passes at is in cc) in subst (λ (k : ℕ). p k ≡ true) same passes
    go false fails rest = rest (rw fails at is)

first : (a b : Bool) → (a && b) ≡ true → a ≡ true
first true b is = refl
first false b is = is

positive : (n : ℕ) → not (n == 0) ≡ true → nat_lt 0 n ≡ true
positive n is = grind (arith, nat_tests)

owed-row : (row : OwedRow) (session after kept : ℕ) → nat_lt 0 row.session ≡ true → owed_of session after kept (Some row) ≡ owed_in (seen_row (Some row)) kept session after
owed-row row session after kept some =
    let es : List Entry = cell_entries 0 row.cells in
    let same = filter-fold (λ e. counts (session / 60) after kept e.minute) [] es tt in
    let alike = filter-same (λ e. unit.counts session after kept e.minute) (λ e. counts (session / 60) after kept e.minute) es (λ e late. counts-same session after kept e.minute late) (from-cells 0 row.cells) in
    ap (λ (zs : List Entry). cond (row.session == session) zs []) (ap in_order alike ∙ sym same)
    ∙ ap (λ (b : Bool). cond (b && (row.session == session)) (filter (λ e. counts (session / 60) after kept e.minute) (in_order es)) []) (sym some)

-- what the image owes is what its view does
pub owed-seen : (x number : List ℕ) (session after : ℕ) → owed_to x number session after ≡ owed_in (row_view number x) (last_kept x) session after
unfolding owed_to row_view
owed-seen x number session after = go (row_index number (rows_in x)) refl
  where
    go : (o : Option ℕ) → row_index number (rows_in x) ≡ o → owed_of session after (last_kept x) (option_map (row_in (rows_in x)) (row_index number (rows_in x))) ≡ owed_in (seen_row (option_map (row_in (rows_in x)) (row_index number (rows_in x)))) (last_kept x) session after
    go None is = ap (λ (o : Option ℕ). owed_of session after (last_kept x) (option_map (row_in (rows_in x)) o)) is ∙ ap (λ (o : Option ℕ). owed_in (seen_row (option_map (row_in (rows_in x)) o)) (last_kept x) session after) (sym is)
    go (Some r) is =
        let found = found-passes (is_row_of number (rows_in x)) (range_with_len 0 8) r is in
        let some = positive (session_in (rows_in x) r) (first (not (session_in (rows_in x) r == 0)) _ found) in
        ap (λ (o : Option ℕ). owed_of session after (last_kept x) (option_map (row_in (rows_in x)) o)) is
        ∙ owed-row (row_in (rows_in x) r) session after (last_kept x) some
        ∙ ap (λ (o : Option ℕ). owed_in (seen_row (option_map (row_in (rows_in x)) o)) (last_kept x) session after) (sym is)
