-- Which last seconds before an `off` line are cuts, as seconds and cuts are added.
use Rattle.std.proofs.Common.{◌≡◌, ℕ, zero, suc, ◌+◌, ◌<◌, ◌≤◌, Bool, true, false, cond, not, ◌&&◌, ◌||◌, nat_eq, List, [], ◌∷◌, ◌++◌, length, map, filter, refl, ap, ◌∙◌, arith, append-nil}
use Rattle.std.specs.List.{AllByRecursion, list_any}
use Rattle.std.proofs.lemmas.Bool.Decides.{nat_tests}
use Rattle.std.proofs.lemmas.List.{map-append}
use Rattle.std.proofs.lemmas.List.Elements.{filter-append}
use Rattle.std.proofs.lemmas.List.Folds.{list_any-append}
use Rattle.minute_model.specs.Span.{AreNumbered}
use Rattle.log_model.specs.declared.lines.Break.{Break}
use Rattle.log_model.specs.declared.lines.Break.TheVariants.{Cut, Tear}
use Rattle.log_model.specs.Course.{ToldSecond}
use Rattle.log_model.specs.Causes.{is_cut, has_failed, second_of, off_cuts}
use Rattle.log_model.specs.Spans.{seconds_in}
use Rattle.run_unit_course.specs.Turn.{cut_last}
use Rattle.run_unit_course.specs.Lines.{cut_at, with_kept, found_from}
use Rattle.run_unit_course.specs.Caused.{cuts_by, IsOver}

-- a second with power, and one behind it that the trace gives none: a cut, but where a failed call took the power
abbrev pub pair : List ℕ → ToldSecond → ToldSecond → List ℕ
pair failed t next = cond (t.lit && not next.given && not (list_any (nat_eq t.second.number) failed)) (t.second.number ∷ []) []

pair-given : (failed : List ℕ) (t next : ToldSecond) → next.given ≡ true → pair failed t next ≡ []
pair-given failed t next given = go t.lit refl
  where
    go : (b : Bool) → t.lit ≡ b → pair failed t next ≡ []
    go true is = rw (is, given) refl
    go false is = rw is refl

abbrev pub AreGiven : List ToldSecond → Type 0
AreGiven told = AllByRecursion (λ (t : ToldSecond). t.given ≡ true) told

given-none : (failed : List ℕ) (more : List ToldSecond) → AreGiven more → off_cuts failed more ≡ []
given-none failed [] h = refl
given-none failed (t ∷ []) h = refl
given-none failed (t ∷ next ∷ more) h = ap (λ (us : List ℕ). us ++ off_cuts failed (next ∷ more)) (pair-given failed t next h.1.0) ∙ given-none failed (next ∷ more) h.1

-- seconds that the trace gives power
pub off-given : (failed : List ℕ) (told more : List ToldSecond) → AreGiven more → off_cuts failed (told ++ more) ≡ off_cuts failed told
off-given failed [] more h = given-none failed more h
off-given failed (t ∷ []) [] h = refl
off-given failed (t ∷ []) (x ∷ more) h = ap (λ (us : List ℕ). us ++ off_cuts failed (x ∷ more)) (pair-given failed t x h.0) ∙ given-none failed (x ∷ more) h
off-given failed (t ∷ next ∷ told) more h = ap (λ (us : List ℕ). pair failed t next ++ us) (off-given failed (next ∷ told) more h)

-- a failed call's cut in the last second, or behind it
pub off-later : (failed : List ℕ) (u n : ℕ) (told : List ToldSecond) → AreNumbered n (seconds_in told) → n + length told ≤ u + 1 → off_cuts (failed ++ u ∷ []) told ≡ off_cuts failed told
off-later failed u n [] h le = refl
off-later failed u n (t ∷ []) h le = refl
off-later failed u n (t ∷ next ∷ told) h le =
    let is : t.second.number ≡ n = h.0 in
    let other : nat_eq t.second.number u ≡ false = less t.second.number u (omega (arith, is, le)) in
    ap (λ (b : Bool). cond (t.lit && not next.given && not b) (t.second.number ∷ []) [] ++ off_cuts (failed ++ u ∷ []) (next ∷ told))
    (list_any-append (nat_eq t.second.number) failed (u ∷ []) ∙ ap (λ (b : Bool). list_any (nat_eq t.second.number) failed || (b || false)) other ∙ whole (list_any (nat_eq t.second.number) failed))
    ∙ ap (λ (us : List ℕ). pair failed t next ++ us) (off-later failed u (n + 1) (next ∷ told) h.1 (omega (arith, le)))
  where
    less : (m k : ℕ) → m < k → nat_eq m k ≡ false
    less m k lt = grind (arith, nat_tests)

    whole : (b : Bool) → (b || false) ≡ b
    whole true = refl
    whole false = refl

pub off-same : (failed : List ℕ) (told : List ToldSecond) → off_cuts failed (cut_last told) ≡ off_cuts failed told
off-same failed [] = refl
off-same failed (t ∷ []) = refl
off-same failed (t ∷ next ∷ []) = refl
off-same failed (t ∷ next ∷ x ∷ told) = ap (λ (us : List ℕ). pair failed t next ++ us) (off-same failed (next ∷ x ∷ told))

pub over-failed : (failed : List ℕ) (told : List ToldSecond) (t : ToldSecond) → list_any (nat_eq t.second.number) failed ≡ true → IsOver failed (told ++ t ∷ [])
over-failed failed [] t is = ap (λ (b : Bool). t.lit && not b) is ∙ never t.lit
  where
    never : (b : Bool) → (b && false) ≡ false
    never true = refl
    never false = refl
over-failed failed (x ∷ []) t is = over-failed failed [] t is
over-failed failed (x ∷ y ∷ told) t is = over-failed failed (y ∷ told) t is

pub any-last : (failed : List ℕ) (u : ℕ) → list_any (nat_eq u) (failed ++ u ∷ []) ≡ true
any-last failed u = list_any-append (nat_eq u) failed (u ∷ []) ∙ rw (same u) (either (list_any (nat_eq u) failed))
  where
    same : (u : ℕ) → nat_eq u u ≡ true
    same u = grind (arith, nat_tests)

    either : (b : Bool) → (b || true) ≡ true
    either true = refl
    either false = refl

-- WHAT THE BREAKS TELL
pub by-same : (breaks : List Break) (v : ℕ) (failed : Bool) (begun : ℕ) → cuts_by failed (breaks ++ cut_at v failed begun ∷ []) ≡ cuts_by failed breaks ++ v ∷ []
by-same breaks v true begun =
    ap (map second_of) (filter-append (λ (b : Break). is_cut b && has_failed b) breaks (cut_at v true begun ∷ [])) ∙ map-append second_of (filter (λ (b : Break). is_cut b && has_failed b) breaks) (cut_at v true begun ∷ [])
by-same breaks v false begun =
    ap (map second_of) (filter-append (λ (b : Break). is_cut b && not (has_failed b)) breaks (cut_at v false begun ∷ [])) ∙ map-append second_of (filter (λ (b : Break). is_cut b && not (has_failed b)) breaks) (cut_at v false begun ∷ [])

pub by-other : (breaks : List Break) (v : ℕ) (failed : Bool) (begun : ℕ) → cuts_by (not failed) (breaks ++ cut_at v failed begun ∷ []) ≡ cuts_by (not failed) breaks
by-other breaks v true begun =
    ap (map second_of) (filter-append (λ (b : Break). is_cut b && not (has_failed b)) breaks (cut_at v true begun ∷ []) ∙ append-nil (filter (λ (b : Break). is_cut b && not (has_failed b)) breaks))
by-other breaks v false begun =
    ap (map second_of) (filter-append (λ (b : Break). is_cut b && has_failed b) breaks (cut_at v false begun ∷ []) ∙ append-nil (filter (λ (b : Break). is_cut b && has_failed b) breaks))

by-map : (failed : Bool) (k : ℕ) (breaks : List Break) → cuts_by failed (map (with_kept k) breaks) ≡ cuts_by failed breaks
by-map failed k [] = refl
by-map true k (Cut s old true n ∷ breaks) = ap (λ (us : List ℕ). s ∷ us) (by-map true k breaks)
by-map true k (Cut s old false n ∷ breaks) = by-map true k breaks
by-map false k (Cut s old true n ∷ breaks) = by-map false k breaks
by-map false k (Cut s old false n ∷ breaks) = ap (λ (us : List ℕ). s ∷ us) (by-map false k breaks)
by-map failed k (Tear s slot f n late ∷ breaks) = by-map failed k breaks

pub by-found : (failed : Bool) (i k : ℕ) (breaks : List Break) → cuts_by failed (found_from i k breaks) ≡ cuts_by failed breaks
by-found failed zero k breaks = by-map failed k breaks
by-found failed (suc i) k [] = refl
by-found true (suc i) k (Cut s old true n ∷ breaks) = ap (λ (us : List ℕ). s ∷ us) (by-found true i k breaks)
by-found true (suc i) k (Cut s old false n ∷ breaks) = by-found true i k breaks
by-found false (suc i) k (Cut s old true n ∷ breaks) = by-found false i k breaks
by-found false (suc i) k (Cut s old false n ∷ breaks) = ap (λ (us : List ℕ). s ∷ us) (by-found false i k breaks)
by-found failed (suc i) k (Tear s slot f n late ∷ breaks) = by-found failed i k breaks
