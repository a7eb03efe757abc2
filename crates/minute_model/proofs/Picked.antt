-- Selections, one after another.
use Rattle.std.proofs.Common.{◌≡◌, true, false, List, [], ◌∷◌, ◌++◌, refl}
use Rattle.std.specs.Prelude.{filter}
use Rattle.std.specs.List.{list_any}
use Rattle.activity_codec.specs.Activity.{is_rest_or_available}
use Rattle.activity_codec.specs.declared.values.Activity.{Activity}
use Rattle.activity_codec.specs.declared.values.Activity.TheVariants.{Work}
use Rattle.activity_codec.specs.declared.values.Pick.{Pick}
use Rattle.activity_codec.specs.declared.values.Pick.TheVariants as pick
use Rattle.minute_model.specs.Stops.{last_pick}
use Rattle.minute_model.proofs.EachSecond.{first_pick}

-- the first of all is the first of the earlier ones, if there is one
pub first_pick-append : (none : Activity) (xs ys : List Pick) → first_pick none (xs ++ ys) ≡ first_pick (first_pick none ys) xs
first_pick-append none [] ys = refl
first_pick-append none (x ∷ xs) ys = refl

-- without rest or availability there is only WORK
pub last_pick-work : (picks : List Pick) → list_any is_rest_or_available picks ≡ false → last_pick Work picks ≡ Work
last_pick-work [] h = refl
last_pick-work (pick.Work ∷ picks) h = last_pick-work picks h
last_pick-work (pick.Rest ∷ picks) h = cc
last_pick-work (pick.Available ∷ picks) h = cc

-- no early selection is left by the filter
pub filter-none : (picks : List Pick) → list_any is_rest_or_available picks ≡ false → filter is_rest_or_available picks ≡ []
filter-none [] h = refl
filter-none (pick.Work ∷ picks) h = filter-none picks h
filter-none (pick.Rest ∷ picks) h = cc
filter-none (pick.Available ∷ picks) h = cc

-- the first of the early ones, where there is one, whatever the default
pub first_early-any : (a b : Activity) (picks : List Pick) → list_any is_rest_or_available picks ≡ true → first_pick a (filter is_rest_or_available picks) ≡ first_pick b (filter is_rest_or_available picks)
first_early-any a b [] h = cc
first_early-any a b (pick.Work ∷ picks) h = first_early-any a b picks h
first_early-any a b (pick.Rest ∷ picks) h = refl
first_early-any a b (pick.Available ∷ picks) h = refl
