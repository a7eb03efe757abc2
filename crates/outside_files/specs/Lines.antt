-- Lines of a text that comes in pieces (profile).
use Rattle.std.specs.Prelude.{◌==◌, ◌+◌, ◌-◌, ℕ, Bool, List, [], ◌∷◌, if◌then◌else◌, length, slice_get}
use Rattle.std.specs.Option.{option_map_or}

-- whether a byte ends a line
abbrev pub ends_line : ℕ → Bool
ends_line byte = byte == 10

-- how many lines begin in a piece: one at its first byte, if it begins one, and one at each byte behind a line's end
abbrev pub lines_begun : Bool → List ℕ → ℕ
lines_begun begins [] = 0
lines_begun begins (byte ∷ piece) = (if begins then 1 else 0) + lines_begun (ends_line byte) piece

-- whether the byte behind a piece begins a line: the last one of the piece ends one
abbrev pub begins_behind : Bool → List ℕ → Bool
begins_behind begins piece = option_map_or ends_line (slice_get piece (length piece - 1)) begins
