-- What is held of a piece.
use Rattle.std.specs.Prelude.{ℕ}
use Rattle.tach_media.specs.declared.plan.Held.{Held}
use Rattle.tach_media.specs.Plan.{Piece, piece}

-- the piece that is held: its place and its bytes
abbrev pub piece_of : {b : ℕ} → Held b → Piece
piece_of h = piece h.place h.bytes.items
