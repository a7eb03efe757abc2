-- The writes of the calls on a ring, in their order.
use Rattle.std.specs.Prelude.{ℕ, ◌+◌, ◌-◌, Bool, List, [], ◌∷◌, ◌++◌, length, take, drop, replicate, if◌then◌else◌}
use Rattle.std.specs.Prelude.{◌==◌, ◌≤◌}
use Rattle.std.specs.Int.{to_be_bytes, w32}
use Rattle.tach_media.specs.Plan.{Piece, Pieces, piece}
use Rattle.gated_ring.specs.declared.room.Room.{Room}
use Rattle.gated_ring.specs.Ring.{Shape, place_of, gate_of, pointer, is_there, taken, gate_bytes}

-- bytes, of which there may be none
abbrev pub some_piece : (place : ℕ) → List ℕ → List Piece
some_piece place bytes = if length bytes == 0 then [] else piece place bytes ∷ []

-- an entry's gate is shut, where the entry is there
abbrev pub shut_pieces : Shape → (i : ℕ) → (used : Bool) → List Piece
shut_pieces r i used = if used then piece (gate_of r i) (replicate 4 0) ∷ [] else []

-- its bytes before the gate, and those behind it
abbrev pub body_pieces : Shape → (i : ℕ) → (head : List ℕ) → List Piece
body_pieces r i head = some_piece (place_of r i) (take r.gate head)
    ++ some_piece (gate_of r i + 4) (drop (r.gate + 4) head)

-- the pointer, where it differs
abbrev pub pointer_bytes : Shape → ℕ → List ℕ
pointer_bytes r i = drop (4 - r.pointer_width) (to_be_bytes w32 i)

-- the write of the pointer, where the entry is not the one that it has
abbrev pub pointer_pieces : Shape → (last i : ℕ) → List Piece
pointer_pieces r last i = if last == i then [] else piece r.base (pointer_bytes r i) ∷ []

-- and the gate last
abbrev pub gate_pieces : Shape → (i : ℕ) → (head : List ℕ) → List Piece
gate_pieces r i head = piece (gate_of r i) (gate_bytes r head) ∷ []

-- a new entry: its gate is shut, its bytes beside the gate, the pointer, its gate
abbrev pub placing_pieces : Shape → Room → (head : List ℕ) → List Piece
placing_pieces r room head =
    shut_pieces r room.index room.used
    ++ (body_pieces r room.index head ++ (pointer_pieces r room.last room.index ++ gate_pieces r room.index head))

-- where an image has room for it
abbrev pub room_in : Shape → List ℕ → Room
room_in r x = record { last = pointer r x; index = taken r x; used = is_there r x (taken r x) }

-- the writes of an `add`
abbrev pub adding_pieces : Shape → (head : List ℕ) → List ℕ → List Piece
adding_pieces r head x = placing_pieces r (room_in r x) head

-- an entry in another's place: the pointer stays
abbrev pub exchanging_pieces : Shape → (i : ℕ) → (used : Bool) → (head : List ℕ) → List Piece
exchanging_pieces r i used head = shut_pieces r i used ++ (body_pieces r i head ++ gate_pieces r i head)

-- the writes of a `put_at`
abbrev pub replacing_pieces : Shape → (i : ℕ) → (head : List ℕ) → List ℕ → List Piece
replacing_pieces r i head x = exchanging_pieces r i (is_there r x i) head

-- THE HEAD OF AN ENTRY that is planned: its gate lies in it, it is no longer than an entry, and a plan of so many bytes
-- for a write takes each part of it at once
pub record IsPlannedHead (r : Shape) (most : ℕ) (head : List ℕ) : Type 0 where
  pub gate : r.gate + 4 ≤ length head
  pub width : length head ≤ r.width
  pub short : length head ≤ most
  pub at_once : length head ≤ 255

-- A PLAN TAKES AN ENTRY of this length at this index: it has room for five writes, and all of them lie inside it
pub record TakesEntry (r : Shape) (writes index len : ℕ) (plan : Pieces) : Type 0 where
  pub room : length plan.pieces + 5 ≤ writes
  pub from : plan.from ≤ r.base
  pub end : place_of r index + len ≤ plan.end
