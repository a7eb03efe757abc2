-- One more second.
use Rattle.std.proofs.Common.{◌≡◌, ◌∙◌, ◌+◌, ◌-◌, ◌≤◌, Bool, true, false, ◌&&◌, ◌||◌, List, [], ◌∷◌, ◌++◌, length, refl, sym, arith, length-append, append-nil}
use Rattle.std.specs.Prelude.{filter}
use Rattle.std.specs.List.{list_any}
use Rattle.std.proofs.lemmas.Grind.{flat_map-append}
use Rattle.std.proofs.lemmas.List.{take_all, take-append-le}
use Rattle.std.proofs.lemmas.List.Elements.{filter-append}
use Rattle.activity_codec.specs.Activity.{is_rest_or_available}
use Rattle.activity_codec.specs.declared.values.Activity.TheVariants.{Work}
use Rattle.activity_codec.specs.declared.values.Pick.{Pick}
use Rattle.minute_model.specs.Second.{Second}
use Rattle.minute_model.specs.Stops.{picks_for}
use Rattle.activity_codec.specs.declared.values.Slot.TheVariants.{Driver}
use Rattle.minute_model.specs.Stops.{is_still, all_still, last_still, driver_picks}
use Rattle.minute_model.proofs.EachSecond.{first_still}
use Rattle.minute_model.proofs.EachSecond.{first_pick, driver_after_stop}
use Rattle.minute_model.proofs.Still.{first_still-append, first_still-cut, first_still-all}
use Rattle.minute_model.proofs.Picked.{first_pick-append, filter-none, first_early-any}

-- x is the second with the first rest or availability, at most 120 seconds after the stop that these seconds end with
pub record EndsTheWait (xs : List Second) (x : Second) : Type 0 where
  pub still : is_still x ≡ true
  pub moved : all_still xs ≡ false
  pub near : length (last_still xs) ≤ 120
  pub open_ : list_any is_rest_or_available (driver_picks (last_still xs)) ≡ false
  pub early : list_any is_rest_or_available (picks_for Driver x.picks) ≡ true

-- an early pick further on changes nothing for a second that waits no more
pub after_stop-later : (since after : List Second) (x : Second) → list_any is_rest_or_available (driver_picks since) ≡ true → driver_after_stop since (after ++ x ∷ []) ≡ driver_after_stop since after
after_stop-later since after x h = rw h refl

-- nor behind motion
pub after_stop-cut : (since after : List Second) (x : Second) → all_still after ≡ false → driver_after_stop since (after ++ x ∷ []) ≡ driver_after_stop since after
after_stop-cut since after x h = rw (first_still-cut after (x ∷ []) h) refl

pub picks-append : (xs ys : List Second) → driver_picks (xs ++ ys) ≡ driver_picks xs ++ driver_picks ys
picks-append xs ys = flat_map-append (λ (s : Second). (picks_for Driver s.picks)) xs ys

-- no early pick in two parts
pub or-false : (a b : Bool) → (a || b) ≡ false → (a ≡ false) × (b ≡ false)
or-false false b h = (refl, h)
or-false true b h = cc

pub and-true : (a b : Bool) → (a && b) ≡ true → (a ≡ true) × (b ≡ true)
and-true true b h = (refl, h)
and-true false b h = cc

-- the early picks of two parts, where the first part has one
pub early-first : (xs ys : List Pick) → list_any is_rest_or_available xs ≡ true → first_pick Work (filter is_rest_or_available (xs ++ ys)) ≡ first_pick Work (filter is_rest_or_available xs)
early-first xs ys h =
    rw (filter-append is_rest_or_available xs ys, first_pick-append Work (filter is_rest_or_available xs) (filter is_rest_or_available ys)) (first_early-any _ _ xs h)

-- where it has none
pub early-second : (xs ys : List Pick) → list_any is_rest_or_available xs ≡ false → first_pick Work (filter is_rest_or_available (xs ++ ys)) ≡ first_pick Work (filter is_rest_or_available ys)
early-second xs ys h = rw (filter-append is_rest_or_available xs ys, filter-none xs h) refl

-- where neither part has one
pub early-none : (ys : List Pick) → list_any is_rest_or_available ys ≡ false → first_pick Work (filter is_rest_or_available ys) ≡ Work
early-none ys h = rw (filter-none ys h) refl

-- the waiting time reaches over all of these, and x
pub waits-over : (since after : List Second) (x : Second) → all_still after ≡ true → is_still x ≡ true → length since + length after ≤ 120 → list_any is_rest_or_available (driver_picks since) ≡ false → driver_after_stop since (after ++ x ∷ []) ≡ first_pick Work (filter is_rest_or_available (driver_picks after ++ driver_picks (x ∷ [])))
waits-over since after x still now near none =
    let front : first_still (after ++ x ∷ []) ≡ after ++ x ∷ [] = first_still-append after (x ∷ []) still ∙ rw now refl in
    let fits : length (after ++ x ∷ []) ≤ 121 - length since = rw (length-append after (x ∷ [])) (omega arith) in
    rw (none, front, take_all (121 - length since) (after ++ x ∷ []) fits, picks-append after (x ∷ [])) refl

pub waits-same : (since after : List Second) → all_still after ≡ true → length since + length after ≤ 120 → list_any is_rest_or_available (driver_picks since) ≡ false → driver_after_stop since after ≡ first_pick Work (filter is_rest_or_available (driver_picks after))
waits-same since after still near none =
    let fits : length after ≤ 121 - length since = omega arith in
    rw (none, first_still-all after still, take_all (121 - length since) after fits) refl

-- the waiting time ends before x
pub waits-over_not : (since after : List Second) (x : Second) → all_still after ≡ true → 121 ≤ length since + length after → driver_after_stop since (after ++ x ∷ []) ≡ driver_after_stop since after
waits-over_not since after x still far =
    let fits : 121 - length since ≤ length after = omega arith in
    rw (first_still-append after (x ∷ []) still, first_still-all after still, take-append-le (121 - length since) after (first_still (x ∷ [])) fits) refl

-- motion ends it
pub waits-moving : (since after : List Second) (x : Second) → all_still after ≡ true → is_still x ≡ false → driver_after_stop since (after ++ x ∷ []) ≡ driver_after_stop since after
waits-moving since after x still now =
    let front : first_still (after ++ x ∷ []) ≡ first_still after = first_still-append after (x ∷ []) still ∙ rw (now, append-nil after) (sym (first_still-all after still)) in
    rw front refl
