-- What a unit file tells of the speeds of its minutes (profile).
use Rattle.std.specs.Prelude.{ℕ, ◌/◌, nat_lt, if◌then◌else◌, List, [], ◌∷◌, ◌++◌, map, fold, sum, count_by}
use Rattle.card_layout.specs.Images.{bytes_at, number_at}
use Rattle.message_model.specs.Messages.{Message, AnOverview, ADay, AnEventList, ASpeedList, ATechnical}
use Rattle.unit_speeds.specs.declared.line.TheConstants.{SPEEDS}
use Rattle.unit_speeds.specs.declared.line.SpeedLine.{SpeedLine}

-- the speeds of a block, second by second, behind the number of its first second
abbrev pub speeds_in : List ℕ → List ℕ
speeds_in block = bytes_at block SPEEDS 60

-- the greater of two speeds
abbrev pub greater : (one other : ℕ) → ℕ
greater one other = if nat_lt one other then other else one

-- the greatest of some speeds; 0 where there is none
abbrev pub most_of : List ℕ → ℕ
most_of speeds = fold greater 0 speeds

-- WHAT IS TOLD OF A BLOCK: its first second, the greatest and the mean speed, and the seconds above 0
abbrev pub line_of : List ℕ → SpeedLine
line_of block = record {
  time = number_at block 0 4;
  most = most_of (speeds_in block);
  mean = sum (speeds_in block) / 60;
  moving = count_by (λ speed. nat_lt 0 speed) (speeds_in block);
}

-- WHAT A FILE TELLS OF SPEEDS: of the blocks of its messages 04, in their order
abbrev pub speeds_told : List Message → List SpeedLine
speeds_told [] = []
speeds_told (ASpeedList m ∷ ms) = map line_of m.blocks ++ speeds_told ms
speeds_told (AnOverview m ∷ ms) = speeds_told ms
speeds_told (ADay m ∷ ms) = speeds_told ms
speeds_told (AnEventList m ∷ ms) = speeds_told ms
speeds_told (ATechnical m ∷ ms) = speeds_told ms
