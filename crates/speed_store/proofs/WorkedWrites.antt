-- Worked rows: how many writes add a block, whose gate is its first field, in a ring of two places of five bytes.
use Rattle.std.proofs.Common.{◌≡◌, ℕ, List, [], ◌∷◌, length, refl}
use Rattle.gated_ring.specs.Ring.{Shape}
use Rattle.gated_ring.specs.Plans.{adding_pieces}

abbrev two : Shape
two = record { base = 0; width = 5; count = 2; pointer_width = 1; gate = 0 }

abbrev head : List ℕ
head = 0 ∷ 0 ∷ 0 ∷ 1 ∷ 9 ∷ []

-- the pointer's own place: the speeds, and the time
first_block : length (adding_pieces two head (0 ∷ 0 ∷ 0 ∷ 0 ∷ 0 ∷ 7 ∷ 0 ∷ 0 ∷ 0 ∷ 0 ∷ 7 ∷ [])) ≡ 2
first_block = refl

-- the next place: the pointer too
next_block : length (adding_pieces two head (0 ∷ 0 ∷ 0 ∷ 0 ∷ 1 ∷ 7 ∷ 0 ∷ 0 ∷ 0 ∷ 0 ∷ 7 ∷ [])) ≡ 3
next_block = refl

-- the place of the oldest: its time is written to 0 first
oldest_block : length (adding_pieces two head (1 ∷ 0 ∷ 0 ∷ 0 ∷ 1 ∷ 7 ∷ 0 ∷ 0 ∷ 0 ∷ 1 ∷ 7 ∷ [])) ≡ 4
oldest_block = refl
