-- Pieces written one after the other.
use Rattle.std.proofs.Common.{◌≡◌, ℕ, List, ◌++◌, append_assoc}

pub ten_pieces : (t a b c d e f g h i j : List ℕ) → (((((((((t ++ a) ++ b) ++ c) ++ d) ++ e) ++ f) ++ g) ++ h) ++ i) ++ j ≡ (t ++ a) ++ ((((((((b ++ c) ++ d) ++ e) ++ f) ++ g) ++ h) ++ i) ++ j)
ten_pieces t a b c d e f g h i j = simp append_assoc
