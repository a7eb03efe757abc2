-- In which seconds a call failed, and what was found kept, as lines are added to a log.
use Rattle.std.proofs.Common.{◌≡◌, ℕ, zero, suc, Bool, true, false, cond, ◌&&◌, ◌||◌, Option, Some, None, List, [], ◌∷◌, ◌++◌, map, filter, refl, ap, sym, ◌∙◌, arith, nat_eq, is_some}
use Rattle.std.specs.Prelude.{unwrap_or}
use Rattle.std.specs.List.{list_any}
use Rattle.std.proofs.lemmas.Bool.Decides.{nat_tests}
use Rattle.std.proofs.lemmas.List.Elements.{filter-append}
use Rattle.std.proofs.lemmas.List.Folds.{list_any-append}
use Rattle.log_model.specs.declared.lines.Break.{Break}
use Rattle.log_model.specs.declared.lines.Break.TheVariants.{Cut, Tear}
use Rattle.log_model.specs.Log.{kept_by, kept_after}
use Rattle.log_model.specs.Causes.{is_cut, has_failed, second_of}
use Rattle.note_model.specs.Done.{has_failed_in}
use Rattle.run_unit_course.specs.Lines.{log_of, cut_at, with_kept, found_from}

same : (u : ℕ) → nat_eq u u ≡ true
same u = grind (arith, nat_tests)

pub or-true : (b : Bool) → (b || true) ≡ true
or-true true = refl
or-true false = refl

-- IN WHICH SECONDS A CALL FAILED
abbrev is_failed_cut : Break → Bool
is_failed_cut b = is_cut b && has_failed b

abbrev any_at : ℕ → List Break → Bool
any_at u bs = list_any (λ (b : Break). nat_eq (second_of b) u) bs

failed-first : (b : Break) (bs : List Break) (u : ℕ) → has_failed_in (log_of (b ∷ bs)) u ≡ ((is_failed_cut b && nat_eq (second_of b) u) || has_failed_in (log_of bs) u)
failed-first b bs u = by (is_failed_cut b)
  where
    by : (t : Bool) → any_at u (cond t (b ∷ filter is_failed_cut bs) (filter is_failed_cut bs)) ≡ ((t && nat_eq (second_of b) u) || any_at u (filter is_failed_cut bs))
    by true = refl
    by false = refl

pub failed-append : (xs ys : List Break) (u : ℕ) → has_failed_in (log_of (xs ++ ys)) u ≡ (has_failed_in (log_of xs) u || has_failed_in (log_of ys) u)
failed-append xs ys u =
    ap (any_at u) (filter-append is_failed_cut xs ys) ∙ list_any-append (λ (b : Break). nat_eq (second_of b) u) (filter is_failed_cut xs) (filter is_failed_cut ys)

pub failed-here : (bs : List Break) (v begun : ℕ) → has_failed_in (log_of (bs ++ cut_at v true begun ∷ [])) v ≡ true
failed-here bs v begun =
    let one : has_failed_in (log_of (cut_at v true begun ∷ [])) v ≡ true = failed-first (cut_at v true begun) [] v ∙ rw (same v) refl in
    failed-append bs (cut_at v true begun ∷ []) v
    ∙ ap (λ (b : Bool). has_failed_in (log_of bs) v || b) one
    ∙ or-true (has_failed_in (log_of bs) v)

failed-map : (k : ℕ) (bs : List Break) (u : ℕ) → has_failed_in (log_of (map (with_kept k) bs)) u ≡ has_failed_in (log_of bs) u
failed-map k [] u = refl
failed-map k (Cut s old f n ∷ bs) u =
    failed-first (Cut s k f n) (map (with_kept k) bs) u
    ∙ ap (λ (b : Bool). (is_failed_cut (Cut s k f n) && nat_eq s u) || b) (failed-map k bs u)
    ∙ sym (failed-first (Cut s old f n) bs u)
failed-map k (Tear s slot f n late ∷ bs) u =
    failed-first (Tear s slot f n late) (map (with_kept k) bs) u ∙ failed-map k bs u ∙ sym (failed-first (Tear s slot f n late) bs u)

pub failed-found : (i k : ℕ) (bs : List Break) (u : ℕ) → has_failed_in (log_of (found_from i k bs)) u ≡ has_failed_in (log_of bs) u
failed-found zero k bs u = failed-map k bs u
failed-found (suc i) k [] u = refl
failed-found (suc i) k (b ∷ bs) u =
    failed-first b (found_from i k bs) u
    ∙ ap (λ (t : Bool). (is_failed_cut b && nat_eq (second_of b) u) || t) (failed-found i k bs u)
    ∙ sym (failed-first b bs u)

-- WHAT WAS FOUND KEPT
pick : (o rest : Option ℕ) → unwrap_or (cond (is_some o) o rest) 0 ≡ cond (is_some o) (unwrap_or o 0) (unwrap_or rest 0)
pick None rest = refl
pick (Some k) rest = refl

kept-first : (b : Break) (bs : List Break) (u : ℕ) → kept_after (log_of (b ∷ bs)) u ≡ cond (is_some (kept_by u b)) (unwrap_or (kept_by u b) 0) (kept_after (log_of bs) u)
unfolding kept_after
kept-first b bs u = pick (kept_by u b) _

kept-nothing : (u : ℕ) → kept_after (log_of []) u ≡ 0
unfolding kept_after
kept-nothing u = refl

-- a cut of which it is not known yet what was kept tells nothing of it
pub kept-added : (bs : List Break) (v : ℕ) (failed : Bool) (begun u : ℕ) → kept_after (log_of (bs ++ cut_at v failed begun ∷ [])) u ≡ kept_after (log_of bs) u
kept-added [] v failed begun u =
    kept-first (cut_at v failed begun) [] u
    ∙ ap (λ (n : ℕ). cond (is_some (kept_by u (cut_at v failed begun))) (unwrap_or (kept_by u (cut_at v failed begun)) 0) n) (kept-nothing u)
    ∙ by (nat_eq v u) ∙ sym (kept-nothing u)
  where
    by : (b : Bool) → cond (is_some (cond {A = Option ℕ} b (Some 0) None)) (unwrap_or (cond {A = Option ℕ} b (Some 0) None) 0) 0 ≡ 0
    by true = refl
    by false = refl
kept-added (b ∷ bs) v failed begun u =
    kept-first b (bs ++ cut_at v failed begun ∷ []) u
    ∙ ap (λ (n : ℕ). cond (is_some (kept_by u b)) (unwrap_or (kept_by u b) 0) n) (kept-added bs v failed begun u)
    ∙ sym (kept-first b bs u)
