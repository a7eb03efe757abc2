-- Pieces written one after the other.
use Rattle.std.proofs.Common.{List, ◌≡◌, ◌++◌, append_assoc}

pub three_pieces : {X : Type 0} (t a b c : List X) → ((t ++ a) ++ b) ++ c ≡ t ++ ((a ++ b) ++ c)
three_pieces t a b c = simp append_assoc
