-- The vehicle entries of indices in a row, and of one more.
use Rattle.std.proofs.Common.{◌≡◌, ◌∙◌, ℕ, zero, suc, ◌+◌, ◌*◌, true, false, List, [], ◌∷◌, ◌++◌, map, filter, refl, ap, sym, arith, append-nil}
use Rattle.std.specs.Prelude.{not, ◌==◌}
use Rattle.std.specs.List.{range_with_len}
use Rattle.std.proofs.lemmas.Bool.Decides.{nat_tests}
use Rattle.card_layout.specs.Images.{big_number, bytes_at, number_at}
use Rattle.std.proofs.lemmas.List.{map-append}
use Rattle.std.proofs.lemmas.List.Elements.{filter-append}
use Rattle.card_layout.specs.declared.files.Application.{Application}
use Rattle.card_files.specs.declared.vehicle.Vehicle.{Vehicle}
use Rattle.card_image.specs.CardFile.{vehicles_alone}
use Rattle.gated_ring.specs.Ring.{is_there, gate_of, indices, order, next, pointer}
use Rattle.file_view.specs.Vehicles.{vehicle_in, vehicles_told}

more : (n : ℕ) → suc n + 1 ≡ suc (n + 1)
more n = omega arith

range_last : (a n : ℕ) → range_with_len a (n + 1) ≡ range_with_len a n ++ (a + n) ∷ []
range_last a zero = ap (λ (k : ℕ). k ∷ []) (omega arith)
range_last a (suc n) =
    ap (λ (k : ℕ). range_with_len a k) (more n)
    ∙ ap (λ (l : List ℕ). a ∷ l) (range_last (a + 1) n ∙ ap (λ (k : ℕ). range_with_len (a + 1) n ++ k ∷ []) (omega arith))

-- the vehicle entries that are there among these indices
abbrev pub there_among : Application → List ℕ → List ℕ → List Vehicle
there_among app value is = map (vehicle_in app value) (filter (is_there (vehicles_alone app) value) is)

pub among_append : (app : Application) (value is js : List ℕ) → there_among app value (is ++ js) ≡ there_among app value is ++ there_among app value js
among_append app value is js =
    ap (λ (l : List ℕ). map (vehicle_in app value) l) (filter-append (is_there (vehicles_alone app) value) is js)
    ∙ map-append (vehicle_in app value) (filter (is_there (vehicles_alone app) value) is) (filter (is_there (vehicles_alone app) value) js)

pub one_there : (app : Application) (value : List ℕ) (a n i : ℕ) → a + n ≡ i → is_there (vehicles_alone app) value i ≡ true → there_among app value (range_with_len a (n + 1)) ≡ there_among app value (range_with_len a n) ++ vehicle_in app value i ∷ []
one_there app value a n i is there =
    ap (λ (l : List ℕ). there_among app value l) (range_last a n ∙ ap (λ (k : ℕ). range_with_len a n ++ k ∷ []) is)
    ∙ among_append app value (range_with_len a n) (i ∷ [])
    ∙ ap (λ (l : List Vehicle). there_among app value (range_with_len a n) ++ l) (rw there refl)

pub none_there : (app : Application) (value : List ℕ) (a n i : ℕ) → a + n ≡ i → is_there (vehicles_alone app) value i ≡ false → there_among app value (range_with_len a (n + 1)) ≡ there_among app value (range_with_len a n)
none_there app value a n i is closed =
    ap (λ (l : List ℕ). there_among app value l) (range_last a n ∙ ap (λ (k : ℕ). range_with_len a n ++ k ∷ []) is)
    ∙ among_append app value (range_with_len a n) (i ∷ [])
    ∙ ap (λ (l : List Vehicle). there_among app value (range_with_len a n) ++ l) (rw closed refl)
    ∙ append-nil (there_among app value (range_with_len a n))

pub told_among : (app : Application) (value : List ℕ) → vehicles_told app value ≡ there_among app value (order (vehicles_alone app) (next (vehicles_alone app) (pointer (vehicles_alone app) value)))
unfolding vehicles_told indices
told_among app value = refl

-- an entry is there where its first use is not 0
open_by : (k : ℕ) → (k ≡ 0 → ⊥) → not (k == 0) ≡ true
open_by k open_ = grind (arith, nat_tests)

module _ (app : Application) (value bytes : List ℕ) (i n place : ℕ) (place_is : place ≡ 8 + 31 * i) (bytes_are : bytes ≡ bytes_at value place 4) (number : n ≡ big_number 4 bytes) where
  first_use : number_at value (gate_of (vehicles_alone app) i) 4 ≡ n
  first_use =
      let here : gate_of (vehicles_alone app) i ≡ place = omega (arith, place_is) in
      ap (λ (p : ℕ). number_at value p 4) here ∙ sym (number ∙ ap (λ (l : List ℕ). big_number 4 l) bytes_are)

  pub there_by : (n ≡ 0 → ⊥) → is_there (vehicles_alone app) value i ≡ true
  there_by used = ap (λ (k : ℕ). not (k == 0)) first_use ∙ open_by n used

  pub closed_by : n ≡ 0 → is_there (vehicles_alone app) value i ≡ false
  closed_by unused = ap (λ (k : ℕ). not (k == 0)) (first_use ∙ unused)
