-- One field of an image is changed, and the others are as they were.
use Rattle.std.proofs.Common.{◌≡◌, ◌≢◌, ⊎_elim, ℕ, zero, suc, ◌+◌, ◌<◌, ◌≤◌, List, [], ◌∷◌, length, take, drop, refl, sym, ◌∙◌, ap, arith}
use Rattle.std.specs.Prelude.{slice_index}
use Rattle.std.proofs.lemmas.Bool.{cases_lt}
use Rattle.std.proofs.lemmas.List.{drop-drop}
use Rattle.byteorder.specs.Endian.{big_number}
use Rattle.card_layout.specs.Fields.{field_at, number_in, place_in, total_width}
use Rattle.card_layout.specs.Images.{bytes_at, put, number_at}
use Rattle.card_layout.proofs.Images.{part_before, part_after, part_put, put_outside}

-- a field is a part of the image
pub field_part : (widths : List ℕ) (k : ℕ) (image : List ℕ) → k < length widths → field_at widths k image ≡ bytes_at image (place_in widths k) (slice_index widths k)
field_part [] k image below = absurd (omega (arith, below))
field_part (width ∷ widths) zero image below = refl
field_part (width ∷ widths) (suc k) image below =
    field_part widths k (drop width image) (omega (arith, below)) ∙ ap (λ (l : List ℕ). take (slice_index widths k) l) (drop-drop (place_in widths k) width image)

pub number_part : (widths : List ℕ) (k : ℕ) (image : List ℕ) → k < length widths → number_in widths k image ≡ number_at image (place_in widths k) (slice_index widths k)
number_part widths k image below = ap (big_number (slice_index widths k)) (field_part widths k image below)

-- fields stand one after the other, inside all of them
pub place_next : (widths : List ℕ) (j k : ℕ) → j < k → k ≤ length widths → place_in widths j + slice_index widths j ≤ place_in widths k
place_next [] j k less below = absurd (omega (arith, less, below))
place_next (width ∷ widths) j zero less below = absurd (omega (arith, less))
place_next (width ∷ widths) zero (suc k) less below = omega arith
place_next (width ∷ widths) (suc j) (suc k) less below = omega (arith, place_next widths j k (omega (arith, less)) (omega (arith, below)))

pub place_last : (widths : List ℕ) (k : ℕ) → k < length widths → place_in widths k + slice_index widths k ≤ total_width widths
place_last [] k below = absurd (omega (arith, below))
place_last (width ∷ widths) zero below = omega arith
place_last (width ∷ widths) (suc k) below = omega (arith, place_last widths k (omega (arith, below)))

module _ (widths : List ℕ) (k : ℕ) (bytes image : List ℕ) (below : k < length widths) (fits : length bytes ≡ slice_index widths k) (inside : total_width widths ≤ length image) where
  ends : place_in widths k + length bytes ≤ length image
  ends = omega (arith, place_last widths k below, fits, inside)

  -- the field that was written
  pub field_put : field_at widths k (put (place_in widths k) bytes image) ≡ bytes
  field_put =
      field_part widths k (put (place_in widths k) bytes image) below
      ∙ ap (λ (n : ℕ). bytes_at (put (place_in widths k) bytes image) (place_in widths k) n) (sym fits)
      ∙ part_put (place_in widths k) bytes image ends

  -- every other one
  pub field_stays : (j : ℕ) → j < length widths → j ≢ k → field_at widths j (put (place_in widths k) bytes image) ≡ field_at widths j image
  field_stays j there other =
      let next = put (place_in widths k) bytes image in
      let same = put_outside (place_in widths k) bytes image ends in
      let stays : bytes_at next (place_in widths j) (slice_index widths j) ≡ bytes_at image (place_in widths j) (slice_index widths j) = ⊎_elim
      (λ less. part_before (place_in widths k) (length bytes) (place_in widths j) (slice_index widths j) image next same (place_next widths j k less (omega (arith, below))))
      (λ more. part_after (place_in widths k) (length bytes) (place_in widths j) (slice_index widths j) image next same
      (omega (arith, fits, place_next widths k j (omega (arith, more, other)) (omega (arith, there)))))
      (cases_lt j k) in
      field_part widths j next there ∙ stays ∙ sym (field_part widths j image there)
