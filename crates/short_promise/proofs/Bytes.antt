-- Images of a unit by their bytes, and what they show: computed.
use Rattle.std.proofs.Common.{◌≡◌, ℕ, true, false, List, [], ◌∷◌, ◌++◌, refl}
use Rattle.std.specs.Prelude.{replicate}
use Rattle.gated_ring.specs.Ring.{indices as ring_indices}
use Rattle.safety_model.specs.device_rule.activity_codec.declared.values.Activity.TheVariants.{Rest, Driving, Work}
use Rattle.safety_model.specs.device_rule.unit_model.Image.{recorded, last_kept, unit_days, indices, odometer_at}
use Rattle.safety_model.specs.device_rule.unit_model.Decoding.{Decodes, checks}

-- version 1, this last-kept minute, and one day, the second of 1970, with these words; what is not there reads as zeros
abbrev pub image_with : (kept : List ℕ) → (count : ℕ) → (words : List ℕ) → List ℕ
image_with kept count words =
    (0 ∷ 0 ∷ 0 ∷ 1 ∷ []) ++ replicate 560 0 ++ kept ++ replicate 460 0 ++ (0 ∷ 1 ∷ 81 ∷ 128 ∷ []) ++ (0 ∷ 0 ∷ 0 ∷ 0 ∷ []) ++ (0 ∷ count ∷ []) ++ replicate 6 0 ++ words

-- a unit without a day
abbrev pub empty_image : List ℕ
empty_image = 0 ∷ 0 ∷ 0 ∷ 1 ∷ []

-- the driver drives from 00:00 on, and works from 00:01 on; the co-driver's slot has no card
abbrev pub image_of_both : List ℕ
image_of_both = image_with (0 ∷ 0 ∷ 5 ∷ 161 ∷ []) 3 (24 ∷ 0 ∷ 160 ∷ 0 ∷ 16 ∷ 1 ∷ [])

-- he works from 00:00 on
abbrev pub image_of_other : List ℕ
image_of_other = image_with (0 ∷ 0 ∷ 5 ∷ 161 ∷ []) 2 (16 ∷ 0 ∷ 160 ∷ 0 ∷ [])

-- there is no card in 00:00
abbrev pub image_with_hole : List ℕ
image_with_hole = image_with (0 ∷ 0 ∷ 5 ∷ 161 ∷ []) 3 (32 ∷ 0 ∷ 160 ∷ 0 ∷ 16 ∷ 1 ∷ [])

-- the last-kept minute is 00:00
abbrev pub image_of_first : List ℕ
image_of_first = image_with (0 ∷ 0 ∷ 5 ∷ 160 ∷ []) 2 (24 ∷ 0 ∷ 160 ∷ 0 ∷ [])

pub empty-last : last_kept empty_image ≡ 0
unfolding last_kept
empty-last = refl

pub empty-days : recorded empty_image ≡ []
unfolding recorded unit_days last_kept ring_indices
empty-days = refl

pub both-last : last_kept image_of_both ≡ 1441
unfolding last_kept
both-last = refl

pub both-days : recorded image_of_both ≡ record {
  day = 1;
  minutes = record { minute = 1440; driver = record { act = Driving; present = true }; codriver = record { act = Rest; present = false }; crew = false }
      ∷ record { minute = 1441; driver = record { act = Work; present = true }; codriver = record { act = Rest; present = false }; crew = false } ∷ [];
} ∷ []
unfolding recorded unit_days last_kept ring_indices
both-days = refl

pub both-decodes : Decodes image_of_both
unfolding Decodes checks last_kept odometer_at indices ring_indices
both-decodes = refl

pub other-last : last_kept image_of_other ≡ 1441
unfolding last_kept
other-last = refl

pub other-days : recorded image_of_other ≡ record {
  day = 1;
  minutes = record { minute = 1440; driver = record { act = Work; present = true }; codriver = record { act = Rest; present = false }; crew = false }
      ∷ record { minute = 1441; driver = record { act = Work; present = true }; codriver = record { act = Rest; present = false }; crew = false } ∷ [];
} ∷ []
unfolding recorded unit_days last_kept ring_indices
other-days = refl

pub other-decodes : Decodes image_of_other
unfolding Decodes checks last_kept odometer_at indices ring_indices
other-decodes = refl

pub hole-last : last_kept image_with_hole ≡ 1441
unfolding last_kept
hole-last = refl

pub hole-days : recorded image_with_hole ≡ record {
  day = 1;
  minutes = record { minute = 1440; driver = record { act = Rest; present = false }; codriver = record { act = Rest; present = false }; crew = false }
      ∷ record { minute = 1441; driver = record { act = Work; present = true }; codriver = record { act = Rest; present = false }; crew = false } ∷ [];
} ∷ []
unfolding recorded unit_days last_kept ring_indices
hole-days = refl

pub hole-decodes : Decodes image_with_hole
unfolding Decodes checks last_kept odometer_at indices ring_indices
hole-decodes = refl

pub first-last : last_kept image_of_first ≡ 1440
unfolding last_kept
first-last = refl

pub first-days : recorded image_of_first ≡ record {
  day = 1;
  minutes = record { minute = 1440; driver = record { act = Driving; present = true }; codriver = record { act = Rest; present = false }; crew = false } ∷ [];
} ∷ []
unfolding recorded unit_days last_kept ring_indices
first-days = refl
