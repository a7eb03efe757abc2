-- The motion and the selections in a part of a span, by the numbers of its seconds.
use Rattle.std.proofs.Common.{◌≡◌, ◌∙◌, ℕ, suc, ◌+◌, ◌<◌, ◌≤◌, Bool, true, false, List, [], ◌∷◌, ◌++◌, length, refl, ap, arith}
use Rattle.std.specs.Prelude.{nat_lt, map, filter, flat_map, find, not, ◌==◌, Some, None, option_map, unwrap_or}
use Rattle.std.specs.List.{list_any, AllByRecursion}
use Rattle.std.proofs.lemmas.Bool.{eqb-true, eqb-false, lt-ltb, le-ltb}
use Rattle.std.proofs.lemmas.Grind.{flat_map-append}
use Rattle.std.proofs.lemmas.List.{map-append}
use Rattle.std.proofs.lemmas.List.Elements.{filter-append}
use Rattle.activity_codec.proofs.ByTest.{by_test}
use Rattle.activity_codec.specs.Activity.{activity_of, same_slot}
use Rattle.activity_codec.specs.declared.values.Activity.{Activity}
use Rattle.activity_codec.specs.declared.values.Slot.{Slot}
use Rattle.activity_codec.specs.declared.values.Pick.{Pick}
use Rattle.minute_model.specs.Second.{Second, Selection, is_moving, moving, selections}
use Rattle.minute_model.specs.Activity.{last}
use Rattle.minute_model.specs.Span.{AreNumbered}
use Rattle.minute_model.specs.Stops.{is_still, all_still, picks_for, last_pick}
use Rattle.minute_model.proofs.Next.{and-true}

pub each-more : {X : Type 0} (P : X → Type 0) (xs ys : List X) → AllByRecursion P xs → AllByRecursion P ys → AllByRecursion P (xs ++ ys)
each-more P [] ys h k = k
each-more P (x ∷ xs) ys h k = (h.0, each-more P xs ys h.1 k)

pub each-then : {X : Type 0} (P Q : X → Type 0) → ((x : X) → P x → Q x) → (xs : List X) → AllByRecursion P xs → AllByRecursion Q xs
each-then P Q f [] h = tt
each-then P Q f (x ∷ xs) h = (f x h.0, each-then P Q f xs h.1)

pub filter-no : {X : Type 0} (p : X → Bool) (xs : List X) → AllByRecursion (λ x. p x ≡ false) xs → filter p xs ≡ []
filter-no p [] h = refl
filter-no p (x ∷ xs) h = rw h.0 (filter-no p xs h.1)

pub filter-yes : {X : Type 0} (p : X → Bool) (xs : List X) → AllByRecursion (λ x. p x ≡ true) xs → filter p xs ≡ xs
filter-yes p [] h = refl
filter-yes {X} p (x ∷ xs) h = rw h.0 (ap (λ (ys : List X). x ∷ ys) (filter-yes p xs h.1))

pub any-no : {X : Type 0} (p : X → Bool) (xs : List X) → AllByRecursion (λ x. p x ≡ false) xs → list_any p xs ≡ false
any-no p [] h = refl
any-no p (x ∷ xs) h = rw h.0 (any-no p xs h.1)

pub find-no : {X : Type 0} (p : X → Bool) (xs : List X) → AllByRecursion (λ x. p x ≡ false) xs → find p xs ≡ None
find-no p [] h = refl
find-no p (x ∷ xs) h = rw h.0 (find-no p xs h.1)

pub find-behind : {X : Type 0} (p : X → Bool) (xs ys : List X) → AllByRecursion (λ x. p x ≡ false) xs → find p (xs ++ ys) ≡ find p ys
find-behind p [] ys h = refl
find-behind p (x ∷ xs) ys h = rw h.0 (find-behind p xs ys h.1)

pub last-push : {X : Type 0} (xs : List X) (x : X) → last (xs ++ x ∷ []) ≡ Some x
last-push [] x = refl
last-push (y ∷ []) x = refl
last-push (y ∷ z ∷ xs) x = last-push (z ∷ xs) x

-- moving is not at speed 0
moving-speed : (speed : ℕ) → nat_lt 0 speed ≡ not (speed == 0)
moving-speed speed =
    by_test (speed == 0)
    (λ none. let le : speed ≤ 0 = omega (arith, eqb-true speed 0 none) in rw (none, le-ltb 0 speed le) refl)
    (λ some. let lt : 0 < speed = omega (arith, eqb-false speed 0 some) in rw (some, lt-ltb 0 speed lt) refl)

pub still-moves_not : (s : Second) → is_still s ≡ true → is_moving s ≡ false
still-moves_not s still = moving-speed s.speed ∙ rw still refl

pub moves-still_not : (s : Second) → is_still s ≡ false → is_moving s ≡ true
moves-still_not s moves = moving-speed s.speed ∙ rw moves refl

-- the motion of two parts
pub moving-parts : (xs ys : List Second) → moving (xs ++ ys) ≡ moving xs ++ moving ys
moving-parts xs ys = ap (map (λ (s : Second). s.number)) (filter-append is_moving xs ys) ∙ map-append (λ (s : Second). s.number) (filter is_moving xs) (filter is_moving ys)

pub moving-here : (s : Second) (ys : List Second) → is_still s ≡ false → moving (s ∷ ys) ≡ s.number ∷ moving ys
moving-here s ys moves = rw (moves-still_not s moves) refl

pub moving-none : (s : Second) (ys : List Second) → is_still s ≡ true → moving (s ∷ ys) ≡ moving ys
moving-none s ys still = rw (still-moves_not s still) refl

-- seconds at speed 0 have none
pub moving-still : (xs : List Second) → all_still xs ≡ true → moving xs ≡ []
moving-still [] h = refl
moving-still (x ∷ xs) h =
    let both = and-true (is_still x) (all_still xs) h in
    moving-none x xs both.0 ∙ moving-still xs both.1

-- the motion of a part lies in its range
abbrev pub Within : ℕ → ℕ → ℕ → Type 0
Within from to v = (from ≤ v) × (v < to)

wider : (n len v : ℕ) → Within (n + 1) (n + 1 + len) v → Within n (n + suc len) v
wider n len v h = (omega (arith, h.0), omega (arith, h.1))

pub moving-within : (n : ℕ) (xs : List Second) → AreNumbered n xs → AllByRecursion (Within n (n + length xs)) (moving xs)
moving-within n [] h = tt
moving-within n (x ∷ xs) h =
    let rest : AllByRecursion (Within n (n + suc (length xs))) (moving xs) = each-then (Within (n + 1) (n + 1 + length xs)) (Within n (n + suc (length xs))) (wider n (length xs)) (moving xs) (moving-within (n + 1) xs h.1) in
    by_test (is_still x)
    (λ still. rw (moving-none x xs still) rest)
    (λ moves. rw (moving-here x xs moves) ((omega (arith, h.0), omega (arith, h.0)), rest))

-- the selections of a slot at the start of one second
abbrev pub selections_at : Slot → Second → List Selection
selections_at slot s = map (λ p. record { at = s.number; pick = p.1 }) (filter (λ p. same_slot slot p.0) s.picks)

pub selections-parts : (slot : Slot) (xs ys : List Second) → selections slot (xs ++ ys) ≡ selections slot xs ++ selections slot ys
selections-parts slot xs ys =
    ap (flat_map (selections_at slot)) (filter-append (λ (s : Second). not (is_moving s)) xs ys) ∙ flat_map-append (selections_at slot) (filter (λ (s : Second). not (is_moving s)) xs) (filter (λ (s : Second). not (is_moving s)) ys)

pub selections-here : (slot : Slot) (s : Second) (ys : List Second) → is_still s ≡ true → selections slot (s ∷ ys) ≡ selections_at slot s ++ selections slot ys
selections-here slot s ys still = rw (still-moves_not s still) refl

pub selections-none : (slot : Slot) (s : Second) (ys : List Second) → is_still s ≡ false → selections slot (s ∷ ys) ≡ selections slot ys
selections-none slot s ys moves = rw (moves-still_not s moves) refl

at-number : (n : ℕ) (P : ℕ → Type 0) → P n → (ps : List (Slot × Pick)) → AllByRecursion (λ (s : Selection). P s.at) (map (λ (p : Slot × Pick). record { at = n; pick = p.1 }) ps)
at-number n P h [] = tt
at-number n P h (p ∷ ps) = (h, at-number n P h ps)

-- the selections of a part lie in its range
pub selections-within : (slot : Slot) (n : ℕ) (xs : List Second) → AreNumbered n xs → AllByRecursion (λ (s : Selection). Within n (n + length xs) s.at) (selections slot xs)
selections-within slot n [] h = tt
selections-within slot n (x ∷ xs) h =
    let rest : AllByRecursion (λ (s : Selection). Within n (n + suc (length xs)) s.at) (selections slot xs) = each-then (λ (s : Selection). Within (n + 1) (n + 1 + length xs) s.at) (λ (s : Selection). Within n (n + suc (length xs)) s.at) (λ s. wider n (length xs) s.at) (selections slot xs) (selections-within slot (n + 1) xs h.1) in
    by_test (is_still x)
    (λ still. rw (selections-here slot x xs still) (each-more (λ (s : Selection). Within n (n + suc (length xs)) s.at) (selections_at slot x) (selections slot xs) (at-number x.number (Within n (n + suc (length xs))) (omega (arith, h.0), omega (arith, h.0)) (filter (λ (p : Slot × Pick). same_slot slot p.0) x.picks)) rest))
    (λ moves. rw (selections-none slot x xs moves) rest)

-- the selections of a slot in these seconds, without their seconds
abbrev pub picks_in : Slot → List Second → List Pick
picks_in slot seconds = flat_map (λ second. picks_for slot second.picks) seconds

picks-at : (n : ℕ) (ps : List (Slot × Pick)) → map (λ (s : Selection). s.pick) (map (λ (p : Slot × Pick). record { at = n; pick = p.1 }) ps) ≡ map (λ (p : Slot × Pick). p.1) ps
picks-at n [] = refl
picks-at n (p ∷ ps) = ap (λ (qs : List Pick). p.1 ∷ qs) (picks-at n ps)

pub selections-picks : (slot : Slot) (xs : List Second) → all_still xs ≡ true → map (λ (s : Selection). s.pick) (selections slot xs) ≡ picks_in slot xs
selections-picks slot [] h = refl
selections-picks slot (x ∷ xs) h =
    let both = and-true (is_still x) (all_still xs) h in
    ap (map (λ (s : Selection). s.pick)) (selections-here slot x xs both.0)
    ∙ map-append (λ (s : Selection). s.pick) (selections_at slot x) (selections slot xs)
    ∙ ap (λ (qs : List Pick). qs ++ map (λ (s : Selection). s.pick) (selections slot xs)) (picks-at x.number (filter (λ (p : Slot × Pick). same_slot slot p.0) x.picks))
    ∙ ap (λ (qs : List Pick). picks_for slot x.picks ++ qs) (selections-picks slot xs both.1)

-- the last selection, or else this activity
pub last-picked : (other : Activity) (ss : List Selection) → unwrap_or (option_map (λ (s : Selection). activity_of s.pick) (last ss)) other ≡ last_pick other (map (λ (s : Selection). s.pick) ss)
last-picked other [] = refl
last-picked other (s ∷ []) = refl
last-picked other (s ∷ t ∷ ss) = last-picked other (t ∷ ss)
