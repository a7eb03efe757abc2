-- What the seconds of each step refuse, and which of them are cuts: with the log, two of the causes of a run.
use Rattle.std.proofs.Common.{◌≡◌, ℕ, zero, suc, Bool, List, [], ◌∷◌, ◌++◌, map, filter, refl, ap, ◌∙◌}
use Rattle.std.proofs.lemmas.List.{map-append}
use Rattle.std.proofs.lemmas.List.Elements.{filter-append}
use Rattle.log_model.specs.declared.lines.Break.{Break}
use Rattle.log_model.specs.declared.lines.Break.TheVariants.{Cut, Tear}
use Rattle.log_model.specs.Causes.{is_cut, second_of}
use Rattle.run_unit_course.specs.Lines.{cut_at, with_kept, found_from}

-- what the breaks tell of them
abbrev pub cuts_told : List Break → List ℕ
cuts_told breaks = map second_of (filter is_cut breaks)

pub told-added : (breaks : List Break) (v : ℕ) (failed : Bool) (begun : ℕ) → cuts_told (breaks ++ cut_at v failed begun ∷ []) ≡ cuts_told breaks ++ v ∷ []
told-added breaks v failed begun = ap (map second_of) (filter-append is_cut breaks (cut_at v failed begun ∷ [])) ∙ map-append second_of (filter is_cut breaks) (cut_at v failed begun ∷ [])

told-map : (k : ℕ) (breaks : List Break) → cuts_told (map (with_kept k) breaks) ≡ cuts_told breaks
told-map k [] = refl
told-map k (Cut s old f n ∷ breaks) = ap (λ (us : List ℕ). s ∷ us) (told-map k breaks)
told-map k (Tear s slot f n late ∷ breaks) = told-map k breaks

pub told-found : (i k : ℕ) (breaks : List Break) → cuts_told (found_from i k breaks) ≡ cuts_told breaks
told-found zero k breaks = told-map k breaks
told-found (suc i) k [] = refl
told-found (suc i) k (Cut s old f n ∷ breaks) = ap (λ (us : List ℕ). s ∷ us) (told-found i k breaks)
told-found (suc i) k (Tear s slot f n late ∷ breaks) = told-found i k breaks
