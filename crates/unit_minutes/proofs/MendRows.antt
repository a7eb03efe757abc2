-- Worked rows of a mending, computed.
use Rattle.std.proofs.Common.{◌≡◌, [], ◌∷◌, ◌++◌, replicate, refl}
use Rattle.unit_model.specs.Cells.{minute_kept, cells_emptied}
use Rattle.unit_model.specs.Days.{days_kept}

-- kept up to 00:01: a word at 00:02 and the next day go
kept_to : days_kept 21123361
    (record { date = 1267315200; odometer = 5000; words = 0x2000 ∷ 0xA000 ∷ 0x3864 ∷ [] } ∷ record { date = 1267401600; odometer = 5000; words = 0x2000 ∷ 0xA000 ∷ 0x3801 ∷ 0xA801 ∷ 0x2002 ∷ [] }
    ∷ record { date = 1267488000; odometer = 5000; words = 0x2000 ∷ 0xA000 ∷ [] } ∷ [])
    ≡ record { date = 1267315200; odometer = 5000; words = 0x2000 ∷ 0xA000 ∷ 0x3864 ∷ [] } ∷ record { date = 1267401600; odometer = 5000; words = 0x2000 ∷ 0xA000 ∷ 0x3801 ∷ 0xA801 ∷ [] } ∷ []
kept_to = refl

-- nothing is kept: no day stays
kept_none : days_kept 0 (record { date = 1267401600; odometer = 5000; words = 0x2000 ∷ 0xA000 ∷ [] } ∷ []) ≡ []
kept_none = refl

next_minute : minute_kept 21123361 21123362 ≡ 0
next_minute = refl

same_minute : minute_kept 21123361 21123361 ≡ 21123361
same_minute = refl

-- of two cells the first, which is later, is emptied; its word stays
two_cells : cells_emptied 5 2 (replicate 648 0 ++ (0 ∷ 0 ∷ 0 ∷ 6 ∷ 8 ∷ 9 ∷ 0 ∷ 0 ∷ 0 ∷ 5 ∷ 8 ∷ 8 ∷ [])) ≡ replicate 648 0 ++ (0 ∷ 0 ∷ 0 ∷ 0 ∷ 8 ∷ 9 ∷ 0 ∷ 0 ∷ 0 ∷ 5 ∷ 8 ∷ 8 ∷ [])
unfolding cells_emptied
two_cells = refl
