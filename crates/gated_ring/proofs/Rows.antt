-- Worked rows: a ring of two places of five bytes, whose gates stand behind their first byte.
use Rattle.std.proofs.Common.{◌≡◌, ℕ, List, [], ◌∷◌, refl}
use Rattle.gated_ring.specs.Ring.{Shape}
use Rattle.gated_ring.specs.Change.{adding_writes, replacing_writes}

abbrev two : Shape
two = record { base = 0; width = 5; count = 2; pointer_width = 1; gate = 1 }

abbrev empty : List ℕ
empty = 0 ∷ 7 ∷ 0 ∷ 0 ∷ 0 ∷ 0 ∷ 7 ∷ 0 ∷ 0 ∷ 0 ∷ 0 ∷ []

abbrev first_there : List ℕ
first_there = 0 ∷ 7 ∷ 0 ∷ 0 ∷ 0 ∷ 1 ∷ 7 ∷ 0 ∷ 0 ∷ 0 ∷ 0 ∷ []

abbrev both_there : List ℕ
both_there = 1 ∷ 7 ∷ 0 ∷ 0 ∷ 0 ∷ 1 ∷ 7 ∷ 0 ∷ 0 ∷ 0 ∷ 1 ∷ []

-- the pointer's own place: the bytes before the gate and behind it, and the gate
first_writes : adding_writes two empty ≡ 3
first_writes = refl

-- the next place: the pointer too
next_writes : adding_writes two first_there ≡ 4
next_writes = refl

-- the place of the oldest: its gate is shut first
full_writes : adding_writes two both_there ≡ 5
full_writes = refl

replaced_writes : replacing_writes two first_there 0 ≡ 4
replaced_writes = refl

free_writes : replacing_writes two first_there 1 ≡ 3
free_writes = refl
