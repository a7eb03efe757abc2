-- What is selected for each slot, as seconds and selections come.
use Rattle.std.proofs.Common.{◌≡◌, ◌∙◌, Bool, true, false, cond, List, [], ◌∷◌, ◌++◌, refl, ap, sym, append-nil}
use Rattle.std.specs.Prelude.{map, filter, Some, None}
use Rattle.std.specs.List.{list_any}
use Rattle.std.proofs.lemmas.Grind.{flat_map-append}
use Rattle.std.proofs.lemmas.List.{map-append}
use Rattle.std.proofs.lemmas.List.Elements.{filter-append}
use Rattle.activity_codec.specs.Activity.{activity_of, is_rest_or_available, same_slot}
use Rattle.activity_codec.specs.declared.values.Activity.{Activity}
use Rattle.activity_codec.specs.declared.values.Activity.TheVariants.{Rest, Available, Work}
use Rattle.activity_codec.specs.declared.values.Pick.{Pick}
use Rattle.activity_codec.specs.declared.values.Pick.TheVariants as pick
use Rattle.activity_codec.specs.declared.values.Slot.{Slot}
use Rattle.activity_codec.specs.declared.values.Slot.TheVariants.{Driver, CoDriver}
use Rattle.minute_model.specs.Second.{Second}
use Rattle.minute_model.specs.Stops.{is_still, all_still, last_still, picks_for, driver_picks, codriver_picks, last_pick}
use Rattle.minute_model.proofs.Each.{driver_between-last}
use Rattle.minute_model.proofs.EachSecond.{first_pick, driver_between, codriver_between}
use Rattle.minute_model.proofs.Grown.{all_still-more, last_still-more}
use Rattle.minute_model.proofs.Next.{picks-append}
use Rattle.minute_model.proofs.Picked.{filter-none}
use Rattle.minute_rules.specs.Kept.{last_in, last_for, first_for, early_with, selected, driver_slot, codriver_slot}

last_in-append : (none : Pick) (xs ys : List Pick) → last_in none (xs ++ ys) ≡ last_in (last_in none xs) ys
last_in-append none [] ys = refl
last_in-append none (x ∷ xs) ys = last_in-append x xs ys

selected-last : (now : Pick) (picks : List Pick) → selected now (last_for picks) ≡ last_in now picks
selected-last now [] = refl
selected-last now (pick ∷ picks) = refl

pub last_in-activity : (now : Pick) (picks : List Pick) → activity_of (last_in now picks) ≡ last_pick (activity_of now) picks
last_in-activity now [] = refl
last_in-activity now (pick ∷ picks) = last_in-activity pick picks

-- the selections of one more second
driver_picks-more : (xs : List Second) (x : Second) → driver_picks (xs ++ x ∷ []) ≡ driver_picks xs ++ picks_for Driver x.picks
driver_picks-more xs x = picks-append xs (x ∷ []) ∙ ap (λ (ps : List Pick). driver_picks xs ++ ps) (append-nil (picks_for Driver x.picks))

codriver_picks-more : (xs : List Second) (x : Second) → codriver_picks (xs ++ x ∷ []) ≡ codriver_picks xs ++ picks_for CoDriver x.picks
codriver_picks-more xs x = flat_map-append (λ (s : Second). picks_for CoDriver s.picks) xs (x ∷ []) ∙ ap (λ (ps : List Pick). codriver_picks xs ++ ps) (append-nil (picks_for CoDriver x.picks))

-- what holds at speed 0 after one more second at speed 0
pub driver-current : (xs : List Second) (x : Second) → is_still x ≡ true → selected (driver_slot xs (picks_for Driver x.picks)).current (last_for (picks_for Driver x.picks)) ≡ (driver_slot (xs ++ x ∷ []) []).current
driver-current xs x still =
    let base : Bool → Pick = λ b. cond b pick.Rest pick.Work in
    selected-last (driver_slot xs (picks_for Driver x.picks)).current (picks_for Driver x.picks)
    ∙ sym (last_in-append (base (all_still xs)) (driver_picks (last_still xs)) (picks_for Driver x.picks))
    ∙ ap (last_in (base (all_still xs))) (sym (driver_picks-more (last_still xs) x) ∙ ap driver_picks (sym (last_still-more xs x still)))
    ∙ ap (λ (b : Bool). last_in (base b) (driver_picks (last_still (xs ++ x ∷ [])))) (sym (all_still-more xs x still))

pub codriver-current : (xs : List Second) (x : Second) → is_still x ≡ true → selected (codriver_slot xs (picks_for CoDriver x.picks)).current (last_for (picks_for CoDriver x.picks)) ≡ (codriver_slot (xs ++ x ∷ []) []).current
codriver-current xs x still =
    let base : Bool → Pick = λ b. cond b pick.Rest pick.Available in
    selected-last (codriver_slot xs (picks_for CoDriver x.picks)).current (picks_for CoDriver x.picks)
    ∙ sym (last_in-append (base (all_still xs)) (codriver_picks (last_still xs)) (picks_for CoDriver x.picks))
    ∙ ap (last_in (base (all_still xs))) (sym (codriver_picks-more (last_still xs) x) ∙ ap codriver_picks (sym (last_still-more xs x still)))
    ∙ ap (λ (b : Bool). last_in (base b) (codriver_picks (last_still (xs ++ x ∷ [])))) (sym (all_still-more xs x still))

-- it is the activity of that second
pub driver-activity : (xs : List Second) (x : Second) → is_still x ≡ true → activity_of (driver_slot (xs ++ x ∷ []) []).current ≡ driver_between xs x []
driver-activity xs x still =
    last_in-activity (cond (all_still (xs ++ x ∷ [])) pick.Rest pick.Work) (driver_picks (last_still (xs ++ x ∷ [])))
    ∙ ap (λ (ps : List Second). last_pick (activity_of (cond (all_still (xs ++ x ∷ [])) pick.Rest pick.Work)) (driver_picks ps)) (last_still-more xs x still)
    ∙ ap (λ (b : Bool). last_pick (activity_of (cond b pick.Rest pick.Work)) (driver_picks (last_still xs ++ x ∷ []))) (all_still-more xs x still)
    ∙ ap (λ (a : Activity). last_pick a (driver_picks (last_still xs ++ x ∷ []))) (base (all_still xs))
    ∙ sym (driver_between-last xs x still)
  where
    base : (b : Bool) → activity_of (cond b pick.Rest pick.Work) ≡ cond b Rest Work
    base true = refl
    base false = refl

pub codriver-activity : (xs : List Second) (x : Second) → is_still x ≡ true → activity_of (codriver_slot (xs ++ x ∷ []) []).current ≡ codriver_between xs x []
codriver-activity xs x still =
    last_in-activity (cond (all_still (xs ++ x ∷ [])) pick.Rest pick.Available) (codriver_picks (last_still (xs ++ x ∷ [])))
    ∙ ap (λ (b : Bool). last_pick (activity_of (cond b pick.Rest pick.Available)) (codriver_picks (last_still (xs ++ x ∷ [])))) (all_still-more xs x still)
    ∙ ap (λ (a : Activity). last_pick a (codriver_picks (last_still (xs ++ x ∷ [])))) (base (all_still xs))
    ∙ rw still refl
  where
    base : (b : Bool) → activity_of (cond b pick.Rest pick.Available) ≡ cond b Rest Available
    base true = refl
    base false = refl

-- the first rest or availability, where there is one
pub first_early : (picks : List Pick) → list_any is_rest_or_available picks ≡ true → (p : Pick) × (first_for (filter is_rest_or_available picks) ≡ Some p) × (first_pick Work (filter is_rest_or_available picks) ≡ activity_of p)
first_early [] h = cc
first_early (pick.Work ∷ picks) h = first_early picks h
first_early (pick.Rest ∷ picks) h = (pick.Rest, refl, refl)
first_early (pick.Available ∷ picks) h = (pick.Available, refl, refl)

pub no_early : (picks : List Pick) → list_any is_rest_or_available picks ≡ false → first_for (filter is_rest_or_available picks) ≡ None
no_early picks h = ap first_for (filter-none picks h)

-- one more selection
first_for-more : (picks : List Pick) (p : Pick) → first_for (filter is_rest_or_available (picks ++ p ∷ [])) ≡ early_with (first_for (filter is_rest_or_available picks)) p
first_for-more [] pick.Work = refl
first_for-more [] pick.Rest = refl
first_for-more [] pick.Available = refl
first_for-more (pick.Work ∷ picks) p = first_for-more picks p
first_for-more (pick.Rest ∷ picks) p = refl
first_for-more (pick.Available ∷ picks) p = refl

last_for-more : (picks : List Pick) (p : Pick) → last_for (picks ++ p ∷ []) ≡ Some p
last_for-more [] p = refl
last_for-more (first ∷ picks) p = ap (λ (q : Pick). Some q) (last_in-append first picks (p ∷ []))

pub driver_slot-more : (xs : List Second) (picks : List Pick) (p : Pick) → driver_slot xs (picks ++ p ∷ []) ≡ record { current = (driver_slot xs picks).current; waiting = (driver_slot xs picks).waiting; early = early_with (driver_slot xs picks).early p; picked = Some p }
driver_slot-more xs picks p = rw (first_for-more picks p, last_for-more picks p) refl

pub codriver_slot-more : (xs : List Second) (picks : List Pick) (p : Pick) → codriver_slot xs (picks ++ p ∷ []) ≡ record { current = (codriver_slot xs picks).current; picked = Some p }
codriver_slot-more xs picks p = rw (last_for-more picks p) refl

-- a selection for this slot, and for the other one
pub picks-mine : (slot : Slot) (p : Pick) (picks : List (Slot × Pick)) → same_slot slot slot ≡ true → picks_for slot (picks ++ (slot, p) ∷ []) ≡ picks_for slot picks ++ p ∷ []
picks-mine slot p picks same = ap (map (λ (q : Slot × Pick). q.1)) (filter-append (λ (q : Slot × Pick). same_slot slot q.0) picks ((slot, p) ∷ [])) ∙ map-append (λ (q : Slot × Pick). q.1) (filter (λ (q : Slot × Pick). same_slot slot q.0) picks) (filter (λ (q : Slot × Pick). same_slot slot q.0) ((slot, p) ∷ [])) ∙ rw same refl

pub picks-other : (slot other : Slot) (p : Pick) (picks : List (Slot × Pick)) → same_slot slot other ≡ false → picks_for slot (picks ++ (other, p) ∷ []) ≡ picks_for slot picks
picks-other slot other p picks differ = ap (map (λ (q : Slot × Pick). q.1)) (filter-append (λ (q : Slot × Pick). same_slot slot q.0) picks ((other, p) ∷ []) ∙ ap (λ (qs : List (Slot × Pick)). filter (λ (q : Slot × Pick). same_slot slot q.0) picks ++ qs) nothing ∙ append-nil (filter (λ (q : Slot × Pick). same_slot slot q.0) picks))
  where
    nothing : filter (λ (q : Slot × Pick). same_slot slot q.0) ((other, p) ∷ []) ≡ []
    nothing = rw differ refl
