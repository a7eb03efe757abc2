-- The vehicle entries round a card's ring: over a write elsewhere, on the newest one, and over each write of a new one.
use Rattle.std.proofs.Common.{◌≡◌, ◌≢◌, ◌⊎◌, ⊎_elim, ℕ, ◌<◌, ◌≤◌, Bool, true, false, cond, List, [], ◌∷◌, ◌++◌, map, filter, Option, Some, None, option_map, refl, sym, ◌∙◌, ap, subst, arith}
use Rattle.std.specs.Prelude.{◌==◌}
use Rattle.std.proofs.lemmas.Bool.{cases_eq}
use Rattle.std.proofs.lemmas.Bool.Decides.{nat_tests}
use Rattle.std.proofs.lemmas.List.{map-append}
use Rattle.card_layout.specs.declared.files.Application.{Application}
use Rattle.card_files.specs.declared.vehicle.Vehicle.{Vehicle}
use Rattle.card_files.specs.Vehicles.{vehicle_of}
use Rattle.tach_media.specs.Medium.{put, bytes_at}
use Rattle.gated_ring.specs.Ring.{Shape, IsShape, PointsInside, IsLast, pointer, indices, ring_list, entry_at, is_there, next, order, taken, with_head, size_of as ring_size}
use Rattle.gated_ring.specs.Change.{SameOthers, IsSet, IsExtended}
use Rattle.gated_ring.proofs.Orders.{Each, each_weaker, rest, rest_each, order_each, order_first, order_last, map_same, filter_first, filter_skip}
use Rattle.gated_ring.proofs.Listing.{taken_below, taken_chosen, staying_there, indices_cases, indices_below}
use Rattle.gated_ring.proofs.Elsewhere.{entry_elsewhere, there_elsewhere, taken_elsewhere, indices_elsewhere}
use Rattle.card_validity.specs.card_image.Fields.{vehicle_ring, vehicle_at, newest_vehicle, last_of}
use Rattle.card_session.specs.Vehicles.{Vehicles, vehicles_of, standing_at, ring_round, standing, any_stands, on_newest, behind_first}
use Rattle.card_session.proofs.RingOrder.{older_others}

abbrev Places : Type 0
Places = List (Option Vehicle)

-- the same entries, part by part
pub vehicles_is : (v w : Vehicles) → v.newest ≡ w.newest → v.ring ≡ w.ring → v ≡ w
vehicles_is v w newest ring =
    ap (λ (o : Option Vehicle). let u : Vehicles = record { newest = o; ring = v.ring } in u) newest
    ∙ ap (λ (l : Places). let u : Vehicles = record { newest = w.newest; ring = l } in u) ring

-- in a ring of two places and more, the next index is another one
next_is_other : (r : Shape) (p : ℕ) → 2 ≤ r.count → next r p ≢ p
next_is_other r p two is = grind (arith, nat_tests)

-- ---- in a list of places

-- a place that is changed so and then so
pub map_twice : (f g : Vehicle → Vehicle) (o : Option Vehicle) → option_map g (option_map f o) ≡ option_map (λ v. g (f v)) o
map_twice f g None = refl
map_twice f g (Some v) = refl

still_stands : (f : Vehicle → Vehicle) (os : Places) → any_stands (on_newest f os) ≡ any_stands os
still_stands f [] = refl
still_stands f (o ∷ os) = by (any_stands os) o (still_stands f os)
  where
    by : (b : Bool) (p : Option Vehicle) → any_stands (on_newest f os) ≡ any_stands os → any_stands (cond b (p ∷ on_newest f os) (option_map f p ∷ os)) ≡ any_stands (p ∷ os)
    by true (Some v) same = refl
    by true None same = same
    by false (Some v) same = refl
    by false None same = refl

pub newest_twice : (f g : Vehicle → Vehicle) (os : Places) → on_newest g (on_newest f os) ≡ on_newest (λ v. g (f v)) os
newest_twice f g [] = refl
newest_twice f g (o ∷ os) = by (any_stands os) refl (newest_twice f g os)
  where
    by : (b : Bool) → any_stands os ≡ b → on_newest g (on_newest f os) ≡ on_newest (λ v. g (f v)) os
        → on_newest g (cond b (o ∷ on_newest f os) (option_map f o ∷ os)) ≡ cond b (o ∷ on_newest (λ v. g (f v)) os) (option_map (λ v. g (f v)) o ∷ os)
    by true is both =
        ap (λ (b : Bool). cond b (o ∷ on_newest g (on_newest f os)) (option_map g o ∷ on_newest f os)) (still_stands f os ∙ is)
        ∙ ap (λ (l : Places). o ∷ l) both
    by false is both =
        ap (λ (b : Bool). cond b (option_map f o ∷ on_newest g os) (option_map g (option_map f o) ∷ os)) is
        ∙ ap (λ (p : Option Vehicle). p ∷ os) (map_twice f g o)

-- ---- in the places of some indices, of which some are there

abbrev is_more : List ℕ → Bool
is_more [] = false
is_more (j ∷ js) = true

more_last : (js : List ℕ) (i : ℕ) → is_more (js ++ i ∷ []) ≡ true
more_last [] i = refl
more_last (j ∷ js) i = refl

module _ (f : Vehicle → Vehicle) (p : ℕ → Bool) (g : ℕ → Vehicle) where
  abbrev was : ℕ → Option Vehicle
  was j = cond (p j) (Some (g j)) None

  any_is : (js : List ℕ) → any_stands (map was js) ≡ is_more (filter p js)
  any_is [] = refl
  any_is (j ∷ js) = by (p j) (any_is js)
    where
      by : (b : Bool) → any_stands (map was js) ≡ is_more (filter p js) → any_stands (cond b (Some (g j)) None ∷ map was js) ≡ is_more (cond b (j ∷ filter p js) (filter p js))
      by true same = refl
      by false same = same

  -- those that stand are those of the indices that are there
  pub standing_is : (js : List ℕ) → standing (map was js) ≡ map g (filter p js)
  standing_is [] = refl
  standing_is (j ∷ js) = by (p j) (standing_is js)
    where
      by : (b : Bool) → standing (map was js) ≡ map g (filter p js) → standing (cond b (Some (g j)) None ∷ map was js) ≡ map g (cond b (j ∷ filter p js) (filter p js))
      by true same = ap (λ (l : List Vehicle). g j ∷ l) same
      by false same = same

  -- where none is there, none changes
  pub none_changes : (js : List ℕ) → filter p js ≡ [] → on_newest f (map was js) ≡ map was js
  none_changes [] none = refl
  none_changes (j ∷ js) none = by (p j) refl
    where
      some : j ∷ filter p js ≡ [] → ⊥
      some e = cc

      by : (b : Bool) → p j ≡ b → on_newest f (was j ∷ map was js) ≡ was j ∷ map was js
      by true is = absurd (some (sym (filter_first p j js is) ∙ none))
      by false is =
          let rest_none : filter p js ≡ [] = sym (filter_skip p j js is) ∙ none in
          let empty : was j ≡ None = ap (λ (b : Bool). cond b (Some (g j)) None) is in
          ap (λ (b : Bool). cond b (was j ∷ on_newest f (map was js)) (option_map f (was j) ∷ map was js)) (any_is js ∙ ap is_more rest_none)
          ∙ ap (λ (o : Option Vehicle). option_map f o ∷ map was js) empty
          ∙ ap (λ (o : Option Vehicle). o ∷ map was js) (sym empty)

  -- the last of them is changed, and no other
  module _ (i : ℕ) (there : p i ≡ true) (now : ℕ → Option Vehicle) (here : now i ≡ option_map f (was i)) where
    abbrev StaysBut : ℕ → Type 0
    StaysBut j = j ≢ i → now j ≡ was j

    absent_other : (j : ℕ) → p j ≡ false → j ≢ i
    absent_other j shut same = let both : true ≡ false = sym there ∙ ap p (sym same) ∙ shut in cc

    none_now : (js : List ℕ) → filter p js ≡ [] → Each StaysBut js → map now js ≡ map was js
    none_now [] none all = refl
    none_now (j ∷ js) none all = by (p j) refl (λ rest_none. none_now js rest_none all.1)
      where
        some : j ∷ filter p js ≡ [] → ⊥
        some e = cc

        by : (b : Bool) → p j ≡ b → (filter p js ≡ [] → map now js ≡ map was js) → map now (j ∷ js) ≡ map was (j ∷ js)
        by true is later = absurd (some (sym (filter_first p j js is) ∙ none))
        by false is later =
            ap (λ (o : Option Vehicle). o ∷ map now js) (all.0 (absent_other j is))
            ∙ ap (λ (l : Places). was j ∷ l) (later (sym (filter_skip p j js is) ∙ none))

    not_here : (o : ℕ) → (o == i) ≡ false → o ≢ i
    not_here o other same = grind (arith, nat_tests)

    pub last_changes : (js older : List ℕ) → filter p js ≡ older ++ i ∷ [] → Each (λ o. (o == i) ≡ false) older → Each StaysBut js → map now js ≡ on_newest f (map was js)
    last_changes [] [] are others all = absurd (cc)
    last_changes [] (o ∷ older) are others all = absurd (cc)
    last_changes (j ∷ js) older are others all = by (p j) refl older are others (λ less rest_are rest_others. last_changes js less rest_are rest_others all.1)
      where
        here_first : j ∷ filter p js ≡ i ∷ [] → j ≡ i
        here_first e = cc

        here_rest : j ∷ filter p js ≡ i ∷ [] → filter p js ≡ []
        here_rest e = cc

        more_first : (o : ℕ) (less : List ℕ) → j ∷ filter p js ≡ o ∷ (less ++ i ∷ []) → j ≡ o
        more_first o less e = cc

        more_rest : (o : ℕ) (less : List ℕ) → j ∷ filter p js ≡ o ∷ (less ++ i ∷ []) → filter p js ≡ less ++ i ∷ []
        more_rest o less e = cc

        -- it stays, and one behind it changes
        stays : (less : List ℕ) → j ≢ i → filter p js ≡ less ++ i ∷ [] → map now js ≡ on_newest f (map was js) → map now (j ∷ js) ≡ on_newest f (map was (j ∷ js))
        stays less other rest_are later =
            ap (λ (o : Option Vehicle). o ∷ map now js) (all.0 other)
            ∙ ap (λ (l : Places). was j ∷ l) later
            ∙ sym (ap (λ (b : Bool). cond b (was j ∷ on_newest f (map was js)) (option_map f (was j) ∷ map was js)) (any_is js ∙ ap is_more rest_are ∙ more_last less i))

        by : (b : Bool) → p j ≡ b → (less : List ℕ) → filter p (j ∷ js) ≡ less ++ i ∷ [] → Each (λ o. (o == i) ≡ false) less
            → ((less : List ℕ) → filter p js ≡ less ++ i ∷ [] → Each (λ o. (o == i) ≡ false) less → map now js ≡ on_newest f (map was js))
            → map now (j ∷ js) ≡ on_newest f (map was (j ∷ js))
        by false is less are others later =
            let rest_are : filter p js ≡ less ++ i ∷ [] = sym (filter_skip p j js is) ∙ are in
            stays less (absent_other j is) rest_are (later less rest_are others)
        by true is [] are others later =
            let both : j ∷ filter p js ≡ i ∷ [] = sym (filter_first p j js is) ∙ are in
            let same : j ≡ i = here_first both in
            ap (λ (l : Places). now j ∷ l) (none_now js (here_rest both) all.1)
            ∙ ap (λ (k : ℕ). now k ∷ map was js) same ∙ ap (λ (o : Option Vehicle). o ∷ map was js) here ∙ ap (λ (k : ℕ). option_map f (was k) ∷ map was js) (sym same)
            ∙ sym (ap (λ (b : Bool). cond b (was j ∷ on_newest f (map was js)) (option_map f (was j) ∷ map was js)) (any_is js ∙ ap is_more (here_rest both)))
        by true is (o ∷ less) are others later =
            let both : j ∷ filter p js ≡ o ∷ (less ++ i ∷ []) = sym (filter_first p j js is) ∙ are in
            stays less (λ same. not_here o others.0 (sym (more_first o less both) ∙ same)) (more_rest o less both) (later less (more_rest o less both) others.1)

-- ---- of a card

module _ (app : Application) where
  -- a place that has the same bytes
  standing_same : (x c : List ℕ) (j : ℕ) → entry_at (vehicle_ring app) c j ≡ entry_at (vehicle_ring app) x j → is_there (vehicle_ring app) c j ≡ is_there (vehicle_ring app) x j → standing_at app c j ≡ standing_at app x j
  standing_same x c j entry there =
      ap (λ (b : Bool). cond b (Some (vehicle_of (entry_at (vehicle_ring app) c j))) None) there
      ∙ ap (λ (e : List ℕ). cond (is_there (vehicle_ring app) x j) (Some (vehicle_of e)) None) entry

  standing_there : (x : List ℕ) (j : ℕ) → is_there (vehicle_ring app) x j ≡ true → standing_at app x j ≡ Some (vehicle_of (entry_at (vehicle_ring app) x j))
  standing_there x j there = ap (λ (b : Bool). cond b (Some (vehicle_of (entry_at (vehicle_ring app) x j))) None) there

  standing_none : (x : List ℕ) (j : ℕ) → is_there (vehicle_ring app) x j ≡ false → standing_at app x j ≡ None
  standing_none x j shut = ap (λ (b : Bool). cond b (Some (vehicle_of (entry_at (vehicle_ring app) x j))) None) shut

-- ---- a write elsewhere

-- the last of some indices below a number is below it
last_below : (n : ℕ) (js : List ℕ) → Each (λ j. j < n) js → (i : ℕ) → last_of js ≡ Some i → i < n
last_below n [] all i is = absurd (cc)
last_below n (j ∷ []) all i is = subst (λ (k : ℕ). k < n) (some_is j i is) all.0
  where
    some_is : (j i : ℕ) → Some j ≡ Some i → j ≡ i
    some_is j i is = cc
last_below n (j ∷ k ∷ js) all i is = last_below n (k ∷ js) all.1 i is

module _ (app : Application) (shape : IsShape (vehicle_ring app)) (x c : List ℕ) (same : bytes_at c (vehicle_ring app).base (ring_size (vehicle_ring app)) ≡ bytes_at x (vehicle_ring app).base (ring_size (vehicle_ring app)))
    (known : PointsInside (vehicle_ring app) x) where
  vehicle_same : (o : Option ℕ) → ((i : ℕ) → o ≡ Some i → i < app.vehicles) → vehicle_at app c o ≡ vehicle_at app x o
  vehicle_same None below = refl
  vehicle_same (Some i) below = ap (λ (l : List ℕ). Some (vehicle_of l)) (entry_elsewhere (vehicle_ring app) shape x c same i (below i refl))

  pub newest_same : newest_vehicle app c ≡ newest_vehicle app x
  unfolding newest_vehicle
  newest_same =
      ap (λ (js : List ℕ). vehicle_at app c (last_of js)) (indices_elsewhere (vehicle_ring app) shape x c same known)
      ∙ vehicle_same (last_of (indices (vehicle_ring app) x)) (last_below app.vehicles (indices (vehicle_ring app) x) (indices_below (vehicle_ring app) x known))

  round_same : ring_round app c ≡ ring_round app x
  unfolding ring_round
  round_same =
      ap (λ (i : ℕ). map (standing_at app c) (order (vehicle_ring app) i)) (taken_elsewhere (vehicle_ring app) shape x c same known)
      ∙ map_same (standing_at app x) (standing_at app c) (order (vehicle_ring app) (taken (vehicle_ring app) x))
      (each_weaker (λ j. j < app.vehicles) (λ j. standing_at app c j ≡ standing_at app x j) (order (vehicle_ring app) (taken (vehicle_ring app) x))
      (λ j below. standing_same app x c j (entry_elsewhere (vehicle_ring app) shape x c same j below) (there_elsewhere (vehicle_ring app) shape x c same j below))
      (order_each (vehicle_ring app) (taken (vehicle_ring app) x) (taken_below (vehicle_ring app) x known)))

  pub vehicles_same : vehicles_of app c ≡ vehicles_of app x
  vehicles_same = vehicles_is (vehicles_of app c) (vehicles_of app x) newest_same round_same

-- ---- a write on them

module _ (app : Application) (x : List ℕ) (points : PointsInside (vehicle_ring app) x) where
  abbrev q : Shape
  q = vehicle_ring app

  abbrev t : ℕ
  t = taken (vehicle_ring app) x

  below : taken (vehicle_ring app) x < (vehicle_ring app).count
  below = taken_below q x points

  -- the indices of the entries that are there stand in the same order from the place that is taken on
  there_round : filter (is_there q x) (order q (taken (vehicle_ring app) x)) ≡ indices q x
  there_round = ⊎_elim
      (λ first. ap (filter (is_there q x)) (order_first q t below) ∙ filter_first (is_there q x) t (rest q t) first.0 ∙ ap (λ (l : List ℕ). t ∷ l) (sym (staying_there q x points)) ∙ sym first.1)
      (λ shut. ap (filter (is_there q x)) (order_first q t below) ∙ filter_skip (is_there q x) t (rest q t) shut.0 ∙ sym (staying_there q x points) ∙ sym shut.1)
      (indices_cases q x points)

  abbrev told : ℕ → Vehicle
  told j = vehicle_of (entry_at (vehicle_ring app) x j)

  -- THE ENTRIES THAT STAND are the ring's list, and the last of them is the newest
  told_all : (js : List ℕ) → map told js ≡ map vehicle_of (map (entry_at (vehicle_ring app) x) js)
  told_all [] = refl
  told_all (j ∷ js) = ap (λ (l : List Vehicle). told j ∷ l) (told_all js)

  told_last : (js : List ℕ) → last_of (map told js) ≡ vehicle_at app x (last_of js)
  told_last [] = refl
  told_last (j ∷ []) = refl
  told_last (j ∷ k ∷ js) = told_last (k ∷ js)

  all_standing : standing (ring_round app x) ≡ map told (indices (vehicle_ring app) x)
  unfolding ring_round
  all_standing = standing_is (λ v. v) (is_there q x) told (order q t) ∙ ap (map told) there_round

  pub list_told : standing (ring_round app x) ≡ map vehicle_of (ring_list (vehicle_ring app) x)
  list_told = all_standing ∙ told_all (indices (vehicle_ring app) x)

  pub newest_last : last_of (standing (ring_round app x)) ≡ newest_vehicle app x
  unfolding newest_vehicle
  newest_last = ap (λ (l : List Vehicle). last_of l) all_standing ∙ told_last (indices (vehicle_ring app) x)

  -- without an entry none changes
  pub round_empty : (f : Vehicle → Vehicle) → indices (vehicle_ring app) x ≡ [] → on_newest f (ring_round app x) ≡ ring_round app x
  unfolding ring_round
  round_empty f none = none_changes f (is_there q x) told (order q t) (there_round ∙ none)

  -- A FEW BYTES of the newest one
  module _ (y : List ℕ) (i offset : ℕ) (bytes : List ℕ) (last : IsLast (vehicle_ring app) x i) (is : IsSet (vehicle_ring app) i offset bytes x y) (f : Vehicle → Vehicle)
      (makes : vehicle_of (put offset bytes (entry_at (vehicle_ring app) x i)) ≡ f (vehicle_of (entry_at (vehicle_ring app) x i))) where
    there_still : (j : ℕ) → j < (vehicle_ring app).count → is_there q y j ≡ is_there q x j
    there_still j low = ⊎_elim
        (λ same. ap (is_there q y) same ∙ is.there ∙ ap (is_there q x) (sym same))
        (λ other. (is.others j low other).1)
        (cases_eq j i)

    taken_still : taken (vehicle_ring app) y ≡ taken (vehicle_ring app) x
    taken_still =
        ap (λ (p : ℕ). cond (is_there q y p) (next q p) p) is.pointer_is
        ∙ ap (λ (b : Bool). cond b (next q (pointer q x)) (pointer q x)) (there_still (pointer q x) points)

    set_here : standing_at app y i ≡ option_map f (standing_at app x i)
    set_here =
        standing_there app y i (is.there ∙ last.there) ∙ ap (λ (e : List ℕ). Some (vehicle_of e)) is.entry ∙ ap (λ (v : Vehicle). Some v) makes
        ∙ sym (ap (option_map f) (standing_there app x i last.there))

    pub round_set : ring_round app y ≡ on_newest f (ring_round app x)
    unfolding ring_round
    round_set =
        ap (λ (k : ℕ). map (standing_at app y) (order q k)) taken_still
        ∙ last_changes f (is_there q x) told i last.there (standing_at app y) set_here (order q t) last.older (there_round ∙ last.indices_are) (older_others q x i last)
        (each_weaker (λ j. j < (vehicle_ring app).count) (λ j. j ≢ i → standing_at app y j ≡ standing_at app x j) (order q t)
        (λ j low other. standing_same app x y j (is.others j low other).0 (is.others j low other).1)
        (order_each q t below))

  -- A NEW ONE
  round_first : ring_round app x ≡ standing_at app x (taken (vehicle_ring app) x) ∷ map (standing_at app x) (rest (vehicle_ring app) (taken (vehicle_ring app) x))
  unfolding ring_round
  round_first = ap (map (standing_at app x)) (order_first q t below)

  behind_taken : behind_first (ring_round app x) ≡ map (standing_at app x) (rest (vehicle_ring app) (taken (vehicle_ring app) x))
  behind_taken = ap behind_first round_first

  module _ (c : List ℕ) (others : SameOthers (vehicle_ring app) (taken (vehicle_ring app) x) x c) where
    rest_still : map (standing_at app c) (rest (vehicle_ring app) (taken (vehicle_ring app) x)) ≡ map (standing_at app x) (rest (vehicle_ring app) (taken (vehicle_ring app) x))
    rest_still = map_same (standing_at app x) (standing_at app c) (rest q t)
        (each_weaker (λ j. (j < (vehicle_ring app).count) × (j ≢ taken (vehicle_ring app) x)) (λ j. standing_at app c j ≡ standing_at app x j) (rest q t)
        (λ j both. standing_same app x c j (others j both.0 both.1).0 (others j both.0 both.1).1) (rest_each q t below))

    pub round_extended : (head : List ℕ) → IsExtended (vehicle_ring app) head x c → ring_round app c ≡ behind_first (ring_round app x) ++ Some (vehicle_of (with_head (vehicle_ring app) x (taken (vehicle_ring app) x) head)) ∷ []
    unfolding ring_round
    round_extended head long =
        ap (λ (k : ℕ). map (standing_at app c) (order q k)) long.next_is
        ∙ ap (map (standing_at app c)) (order_last q t below)
        ∙ map-append (standing_at app c) (rest q t) (t ∷ [])
        ∙ ap (λ (l : Places). l ++ standing_at app c t ∷ []) (rest_still ∙ sym behind_taken)
        ∙ ap (λ (o : Option Vehicle). behind_first (ring_round app x) ++ o ∷ []) (standing_there app c t long.there ∙ ap (λ (e : List ℕ). Some (vehicle_of e)) long.entry)

    -- its place is free
    module _ (two : 2 ≤ (vehicle_ring app).count) (shut : is_there (vehicle_ring app) c (taken (vehicle_ring app) x) ≡ false) where
      taken_moved : pointer (vehicle_ring app) c ≡ taken (vehicle_ring app) x → taken (vehicle_ring app) c ≡ taken (vehicle_ring app) x
      taken_moved moved = ap (λ (p : ℕ). cond (is_there q c p) (next q p) p) moved ∙ ap (λ (b : Bool). cond b (next q t) t) shut

      other_next : (p i : ℕ) → i ≡ next (vehicle_ring app) p → p ≢ i
      other_next p i after same = next_is_other (vehicle_ring app) p two (sym after ∙ sym same)

      taken_waits : pointer (vehicle_ring app) c ≡ pointer (vehicle_ring app) x → taken (vehicle_ring app) c ≡ taken (vehicle_ring app) x
      taken_waits still = ⊎_elim
          (λ there.
          let stays : is_there q c (pointer q x) ≡ true = (others (pointer q x) points (other_next (pointer q x) t there.1)).1 ∙ there.0 in
          ap (λ (p : ℕ). cond (is_there q c p) (next q p) p) still ∙ ap (λ (b : Bool). cond b (next q (pointer q x)) (pointer q x)) stays ∙ sym there.1)
          (λ none. taken_moved (still ∙ sym none.1))
          (taken_chosen q x)

      pub round_freed : (pointer (vehicle_ring app) c ≡ pointer (vehicle_ring app) x) ⊎ (pointer (vehicle_ring app) c ≡ taken (vehicle_ring app) x) → ring_round app c ≡ None ∷ behind_first (ring_round app x)
      unfolding ring_round
      round_freed which =
          ap (λ (k : ℕ). map (standing_at app c) (order q k)) (⊎_elim taken_waits taken_moved which)
          ∙ ap (map (standing_at app c)) (order_first q t below)
          ∙ ap (λ (o : Option Vehicle). o ∷ map (standing_at app c) (rest q t)) (standing_none app c t shut)
          ∙ ap (λ (l : Places). None ∷ l) (rest_still ∙ sym behind_taken)
