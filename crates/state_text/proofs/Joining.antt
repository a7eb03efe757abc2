-- Pieces written one after the other.
use Rattle.std.proofs.Common.{◌≡◌, ℕ, List, ◌++◌, append_assoc}

pub five_pieces : (t a b c d e : List ℕ) → ((((t ++ a) ++ b) ++ c) ++ d) ++ e ≡ t ++ ((((a ++ b) ++ c) ++ d) ++ e)
five_pieces t a b c d e = simp append_assoc

pub file_pieces : (t a h l b d : List ℕ) → ((((t ++ a) ++ h) ++ l) ++ b) ++ d ≡ t ++ (((a ++ (h ++ l)) ++ b) ++ d)
file_pieces t a h l b d = simp append_assoc

pub three_pieces : (t a b c : List ℕ) → ((t ++ a) ++ b) ++ c ≡ t ++ ((a ++ b) ++ c)
three_pieces t a b c = simp append_assoc
