-- Messages in pieces: where a piece stands, and pieces that are joined.
use Rattle.std.specs.Prelude.{◌≡◌, ◌≢◌, ℕ, ◌+◌, ◌-◌, ◌*◌, ◌%◌, ◌==◌, ◌||◌, nat_lt, min, List, [], ◌∷◌, ◌++◌, take, drop}
use Rattle.std.specs.Prelude.{Option, Some, None, if◌then◌else◌}
use Rattle.card_layout.specs.Images.{number_at}
use Rattle.link_model.specs.declared.lengths.TheConstants.{PIECE_MOST}
use Rattle.unit_messages.specs.declared.joining.JoinFault.{JoinFault}
use Rattle.unit_messages.specs.declared.joining.JoinFault.TheVariants.{Broken, Memory}

-- where the piece of a counter stands in so many bytes, and how many it has
abbrev pub piece_range : (len counter : ℕ) → Option (ℕ × ℕ)
piece_range len counter =
    if counter == 0 || nat_lt len (PIECE_MOST * (counter - 1)) then None
    else Some (PIECE_MOST * (counter - 1), min (len - PIECE_MOST * (counter - 1)) PIECE_MOST)

-- how many pieces were joined, as a counter of two bytes, the bytes, and for how many there is room
pub record Joined : Type 0 where
  pub pieces : ℕ
  pub bytes : List ℕ
  pub room : ℕ

-- the counter of the next piece
abbrev pub wanted : Joined → ℕ
wanted j = (j.pieces + 1) % 65536

-- the counter of a piece stands behind 76 and the number
abbrev pub counter_in : List ℕ → ℕ
counter_in piece = number_at piece 2 2

-- the bytes so far; before the first piece 76 and the number, which it gives
abbrev pub begun_with : List ℕ → List ℕ → List ℕ
begun_with [] piece = take 2 piece
begun_with (b ∷ bytes) piece = b ∷ bytes

-- the bytes with a piece more
abbrev pub with_piece : Joined → List ℕ → List ℕ
with_piece j piece = begun_with j.bytes piece ++ drop 4 piece

-- a joiner refuses a piece for its counter, or for want of memory
abbrev pub IsFaultOf : (wanted counter : ℕ) → JoinFault → Type 0
IsFaultOf wanted counter (Broken w c) = (w ≡ wanted) × (c ≡ counter) × (counter ≢ wanted)
IsFaultOf wanted counter Memory = counter ≡ wanted
