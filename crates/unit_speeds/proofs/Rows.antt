-- Worked rows, computed by the checker: what is told of two blocks, the words of a line, and the last of three.
use Rattle.std.proofs.Common.{◌≡◌, ℕ, [], ◌∷◌, ◌++◌, refl}
use Rattle.std.specs.Prelude.{replicate, codes, Some, None}
use Rattle.std.specs.Fmt.{digits}
use Rattle.unit_speeds.specs.declared.line.SpeedLine.{SpeedLine}
use Rattle.unit_speeds.specs.Speeds.{line_of}
use Rattle.unit_speeds.specs.Text.{speed_words, last_lines}

-- 12:00 on 2010-03-01: half a minute at 0, a second at 20, 29 at 0
start : line_of (0x4B ∷ 0x8B ∷ 0xAC ∷ 0x40 ∷ (replicate 30 0 ++ 20 ∷ replicate 29 0)) ≡ record { time = 0x4B8BAC40; most = 20; mean = 0; moving = 1 }
start = refl

-- a minute at 50
steady : line_of (0x4B ∷ 0x8B ∷ 0xAC ∷ 0x40 ∷ replicate 60 50) ≡ record { time = 0x4B8BAC40; most = 50; mean = 50; moving = 60 }
steady = refl

words : speed_words (record { time = 0x4B8BAC40; most = 87; mean = 63; moving = 60 }) ≡ codes " 12:00 max 87 mean 63 moving 60\n"
unfolding digits
words = refl

-- the last of three lines, and all of them
abbrev at : ℕ → SpeedLine
at time = record { time = time; most = 0; mean = 0; moving = 0 }

newest : last_lines (Some 1) (at 0 ∷ at 60 ∷ at 120 ∷ []) ≡ at 120 ∷ []
newest = refl

more : last_lines (Some 5) (at 0 ∷ at 60 ∷ []) ≡ at 0 ∷ at 60 ∷ []
more = refl

all : last_lines None (at 0 ∷ at 60 ∷ []) ≡ at 0 ∷ at 60 ∷ []
all = refl
